-- The steps of the three parts of which calls of a robust index set are made: a raise of the counter, a count
-- of filled cells, and a lock. `Lead ask back r` is what the call has to show of a step with the operation `ask`, which turns back or not
-- (`back`), and after which the part is as `r` says; of a lock, `Lead ask back did r` has also the events `did` that the step writes. The
-- call shows `Lead` of each form of step (`CountGoes`, `LockGoes` and the others), and the lemmas say that each step of the part shows it.
use Rattle.laws_robust.proofs.Names.{eq-eqb, ◌≡◌, ◌≢◌, ℕ, ◌+◌, ◌*◌, ◌<◌, ◌≤◌, ◌==◌, ◌&&◌, ⊎_elim, inl, if◌then◌else◌}
use Rattle.laws_robust.proofs.Names.{nat_lt, Bool, true, false, not, Option, Some, None, List, [], ◌∷◌, set, refl}
use Rattle.laws_robust.proofs.Names.{sym, ap, subst, ◌∙◌, arith, ne_eqb, cases_lt, nat_tests, Ask, After, GoOn, Done}
use Rattle.laws_robust.proofs.Names.{ReleaseState, Count, Counted, Lock, Raise, cell_word, empty, locked, greatest}
use Rattle.laws_robust.proofs.Names.{one_more, raise_sees, raise_after, raise_goes_back, count_comes_to, count_after}
use Rattle.laws_robust.proofs.Names.{count_goes_back, first_lock, lock_counted, lock_after, lock_goes_back, by_test}
use Rattle.laws_robust.proofs.Names.{by_eq, Event, Locked, filled_of, holder_of, locked_by, old_of, words_after}
use Rattle.laws_robust.proofs.Names.{step_count}
use Rattle.steps.specs.declared.indices.enums.ReleaseState.TheVariants as states
use Rattle.steps.specs.declared.indices.robust.parts.Count.TheVariants as counts
use Rattle.steps.specs.declared.indices.robust.parts.Counted.TheVariants as ends
use Rattle.steps.specs.declared.indices.robust.parts.Lock.TheVariants as locks
use Rattle.steps.specs.declared.indices.robust.parts.Raise.TheVariants as raises
use Rattle.laws_robust.specs.Gone.{IsCalm}
use Rattle.laws_robust.proofs.Core.{counter_of, cell, counter_set}
use Rattle.laws_robust.proofs.Effects.{Stays, not_shut, stays_same, stays_raised, filled_none, filled_some}
use Rattle.laws_robust.proofs.Invariant.{IsWorn, worn_at, worn_then, Scene, Inv, Good}
use Rattle.laws_robust.proofs.Knows.{unless_last, raise_holds, count_holds, lock_holds, count_scan, lock_scan}
use Rattle.laws_robust.proofs.Knows.{CountSays, LockSays, IsPaid, Holding, Paid, Scanned}
use Rattle.laws_robust.proofs.CallProgress.{raise_number, count_number, lock_number, CountAt, LockAt}
use Rattle.lemmas_owners.proofs.Operations.{loads, exchanges, loads_same, fails_same, exchange_sets}
use Rattle.laws_robust.proofs.Stages.{backs_then, now, sees, paid_of, paid_back, holds_on}
use Rattle.lemmas.proofs.Cases.{by_bool, on_bool}

-- the operation of the next step of a raise
abbrev pub raise_ask : Raise → Ask
raise_ask raises.LoadsCounter = loads 0
raise_ask (raises.ExchangesCounter counter) = exchanges 0 counter (one_more counter)

-- the operation of the next step of a count
abbrev pub count_ask : Count → Ask
count_ask counts.LoadsCounter = loads 0
count_ask (counts.LoadsCell counter index filled) = loads (cell_word index)
count_ask (counts.ExchangesCounter counter filled) =
    exchanges 0 counter (one_more counter)

-- the operation of the next step of a lock
abbrev pub lock_ask : Lock → Ask
lock_ask (locks.Counts count) = count_ask count
lock_ask (locks.ExchangesCounter counter) = exchanges 0 counter locked

-- a number whose test answers true is 0
zero_if : (n : ℕ) → ((n == 0) && true) ≡ true → n ≡ 0
zero_if n t = grind arith

-- a number that is not 0 is positive
more_if : (n : ℕ) → ((n == 0) && true) ≡ false → 0 < n
more_if n t = grind arith

-- where the counter is at its end, nothing is locked
none_locks : {X : Type 0} (P : X → Type 0) (a b : X) (zero last : Bool) → last ≡ true → P b → P (if zero && not last then a else b)
none_locks h a b zero last is_last k = grind arith

-- `c` is the capacity, `ws` the words before the step, `p` the party
module _ {T : Type 0} (scene : Scene T) (inv : Inv scene) where
  open scene use {by as by, capacity as c, party as p, steps as steps, backs as backs, turns as turns, events as events}

  -- the words of the set before the step
  abbrev ws : List ℕ
  ws = scene.set.words

  good_before : Good by c ws scene.set.dead events turns
  good_before = inv.good

  -- an index that is not filled is held by nobody, in a well-formed and honest run
  pub none_holds : IsCalm by events → (i : ℕ) → filled_of i events ≡ None → holder_of i events ≡ None
  none_holds calm i none = grind arith

  -- no index beyond the capacity is filled
  pub none_beyond : (i : ℕ) → c ≤ i → filled_of i events ≡ None
  none_beyond i more = let by_g = good_before in grind arith

  -- a counter that still has the number that the call found is before its end
  pub before_end : (number : ℕ) → counter_of ws ≡ number → Holding number (now scene) → counter_of ws < greatest
  before_end number counter_is holding = let less = holding.before_end in omega arith

  -- the exchange of the counter for the next number
  pub raised : (number : ℕ) → counter_of ws ≡ number → Holding number (now scene)
      → words_after ws (Some (exchanges 0 number (one_more number))) ≡ set ws 0 (counter_of ws + 1)
  raised = grind (arith, one_more, exchange_sets, set)

  -- a call holds the counter that it has found, where that is open and below its end
  pub finds_counter : (ask : Option Ask) (back : Bool) → words_after ws ask ≡ ws → counter_of ws ≢ locked
      → counter_of ws ≢ greatest → IsPaid (sees scene ask back) → Holding (counter_of ws) (sees scene ask back)
  finds_counter ask back same open_now other paid = grind arith

  -- ---- a raise

  module _ (Lead : Option Ask → Bool → After Raise ReleaseState → Type 0) where
    -- a bound of the call's steps with the raise's own number holds after this step with `number` in its place
    abbrev pub RaiseSteps : Raise → ℕ → Option Ask → Bool → Type 0
    RaiseSteps raise number ask back =
        (n w : ℕ) → 1 ≤ w → steps ≤ n + raise_number raise + backs * w → steps + step_count ask ≤ n + number + backs_then scene back * w

    -- what the call has to show of a step of the raise that goes on, and then holds the
    -- counter that it has found
    abbrev pub RaiseGoes : Raise → Type 0
    RaiseGoes raise =
        (number : ℕ) (ask : Option Ask) (back : Bool) → words_after ws ask ≡ ws
        → Holding number (sees scene ask back) → RaiseSteps raise 1 ask back
        → Lead ask back (GoOn (raises.ExchangesCounter number))

    -- what the call has to show of a step that finds the set locked
    abbrev pub RaiseMeets : Raise → Type 0
    RaiseMeets raise =
        (ask : Option Ask) (back : Bool) → words_after ws ask ≡ ws → counter_of ws ≡ locked
        → IsPaid (sees scene ask back) → RaiseSteps raise 2 ask back
        → Lead ask back (Done states.Locked)

    -- what the call has to show of a step that finds the counter at its end, where it stays
    abbrev pub RaiseStays : Raise → Type 0
    RaiseStays raise =
        (ask : Option Ask) (back : Bool) → words_after ws ask ≡ ws → IsWorn by ws → counter_of ws ≡ greatest
        → IsPaid (sees scene ask back) → RaiseSteps raise 2 ask back
        → Lead ask back (Done states.Unlocked)

    -- what the call has to show of a step that has raised the counter
    abbrev pub RaiseEnds : Raise → Type 0
    RaiseEnds raise =
        (ask : Option Ask) → counter_of ws < greatest → words_after ws ask ≡ set ws 0 (counter_of ws + 1)
        → IsPaid (sees scene ask false) → RaiseSteps raise 2 ask false
        → Lead ask false (Done states.Unlocked)

    -- a step of the raise that finds a counter shows it
    raise_finds : (raise : Raise) → RaiseGoes raise → RaiseMeets raise → RaiseStays raise
        → (ask : Option Ask) (back : Bool) → words_after ws ask ≡ ws → IsPaid (sees scene ask back)
        → RaiseSteps raise 1 ask back → Lead ask back (raise_sees (counter_of ws))
    raise_finds raise goes meets rests ask back same paid few = let by_finds_counter = finds_counter in grind arith

    -- each step of a raise is as `Lead` asks, where each form of such a step is (`RaiseGoes` and the others)
    raise_by : (raise : Raise) → Paid (raise_holds raise) (now scene) → RaiseGoes raise → RaiseMeets raise → RaiseStays raise → RaiseEnds raise
        → Lead (Some (raise_ask raise)) (raise_goes_back raise (counter_of ws)) (raise_after raise (counter_of ws))
    raise_by raises.LoadsCounter paid goes meets rests closes =
        raise_finds raises.LoadsCounter goes meets rests (Some (loads 0)) false (loads_same ws 0) (omega arith) (λ n w some low. omega arith)
    raise_by (raises.ExchangesCounter number) paid goes meets rests closes = go (counter_of ws == number) refl
      where
        -- the cases are whether the counter is still the number that the raise has found
        go : (b : Bool) → (counter_of ws == number) ≡ b
            → Lead (Some (exchanges 0 number (one_more number))) (not b)
            (if b then Done states.Unlocked else raise_sees (counter_of ws))
        go = grind (arith, paid_of, exchanges, one_more, before_end, raised, raise_finds, fails_same, paid_back, nat_tests)

    -- that a raise has paid, and what the call shows of each form of a step of it
    pub record RaiseShows (raise : Raise) : Type 0 where
      pub paid : Paid (raise_holds raise) (now scene)
      pub goes : RaiseGoes raise
      pub meets : RaiseMeets raise
      pub rests : RaiseStays raise
      pub closes : RaiseEnds raise

    -- each step of such a raise is as `Lead` asks
    pub raise_step : (raise : Raise) → RaiseShows raise
        → Lead (Some (raise_ask raise)) (raise_goes_back raise (counter_of ws)) (raise_after raise (counter_of ws))
    raise_step raise shows = raise_by raise shows.paid shows.goes shows.meets shows.rests shows.closes

  -- ---- the counter that a count has loaded, which it holds unless the counter is at its end

  -- what is paid for, unless the counter is the last, is paid for
  still_paid : (number : ℕ) → Paid (unless_last number) (now scene) → IsPaid (now scene)
  still_paid number paid = grind arith

  -- a step that leaves the counter keeps paid what was paid
  still_held : (number : ℕ) (ask : Option Ask) → counter_of (words_after ws ask) ≡ counter_of ws
      → Paid (unless_last number) (now scene) → Paid (unless_last number) (sees scene ask false)
  still_held number ask same paid = grind arith

  -- a count whose counter is not the greatest holds it
  holds_one : (number : ℕ) → number ≢ greatest → Paid (unless_last number) (now scene) → Holding number (now scene)
  holds_one = grind (arith, now, ne_eqb, greatest)

  -- a count that finds the counter open holds it, unless the counter is at its end
  found_held : (ask : Option Ask) → words_after ws ask ≡ ws → counter_of ws ≢ locked → IsPaid (sees scene ask false)
      → Paid (unless_last (counter_of ws)) (sees scene ask false)
  found_held ask same open_now paid =
      on_bool (λ b. Paid (if b then None else Some (counter_of ws)) (sees scene ask false)) (counter_of ws == greatest)
      (λ t. paid)
      (λ t. let other : counter_of ws ≢ greatest = grind (arith, nat_tests) in finds_counter ask false same open_now other paid)

  -- ---- a count that has come to `k` cells and found `filled` of them filled says `Says k filled`

  -- `Says` holds before the first cell, and goes on to hold past an empty cell and past a filled one
  pub record IsSaid (Says : ℕ → ℕ → Type 0) : Type 0 where
    pub none : Says 0 0
    pub empty_next : (k filled : ℕ) → k < c → filled_of k events ≡ None → Says k filled → Says (k + 1) filled
    pub filled_next : (k filled owner : ℕ) → k < c → filled_of k events ≡ Some owner → Says k filled → Says (k + 1) (filled + 1)

  -- where no cell was found filled, nobody holds an index that the count has come to
  abbrev pub NoneHeld : ℕ → ℕ → Type 0
  NoneHeld k filled = filled ≡ 0 → IsCalm by events → (i : ℕ) → i < k → holder_of i events ≡ None

  -- the count says `Says`
  module _ (Says : ℕ → ℕ → Type 0) (said : IsSaid Says) where
    module _ (Lead : Option Ask → Bool → After Count Counted → Type 0) where
      -- a bound of the call's steps with the count's own number holds after this step with `number` in its place
      abbrev pub CountSteps : Count → ℕ → Option Ask → Bool → Type 0
      CountSteps count number ask back =
          (n w : ℕ) → c + 2 ≤ w → steps ≤ n + count_number c count + backs * w → steps + step_count ask ≤ n + number + backs_then scene back * w

      -- what the call has to show of a step of the count that goes on
      abbrev pub CountGoes : Count → Type 0
      CountGoes count =
          (next : Count) (ask : Option Ask) (back : Bool) → words_after ws ask ≡ ws → CountAt c next
          → Paid (count_holds next) (sees scene ask back) → Scanned (count_scan c next) (sees scene ask back)
          → CountSays c Says next → CountSteps count (count_number c next) ask back → Lead ask back (GoOn next)

      -- what the call has to show of a step that finds the set locked
      abbrev pub CountMeets : Count → Type 0
      CountMeets count =
          (ask : Option Ask) → words_after ws ask ≡ ws → counter_of ws ≡ locked → IsPaid (sees scene ask false)
          → CountSteps count (2 + c) ask false → Lead ask false (Done ends.Locked)

      -- what the call has to show of a step after which all cells are loaded, and the counter is at its end
      abbrev pub CountStays : Count → Type 0
      CountStays count =
          (filled : ℕ) (ask : Option Ask) → words_after ws ask ≡ ws → IsWorn by ws → counter_of ws ≡ greatest
          → filled ≤ c → Says c filled → IsPaid (sees scene ask false) → CountSteps count (2 + c) ask false
          → Lead ask false (Done (ends.Filled filled greatest))

      -- what the call has to show of a step after which all cells are loaded, and which moves the counter on
      abbrev pub CountEnds : Count → Type 0
      CountEnds count =
          (filled : ℕ) (ask : Option Ask) → counter_of ws < greatest
          → words_after ws ask ≡ set ws 0 (counter_of ws + 1) → filled ≤ c → Says c filled → NoneHeld c filled
          → IsPaid (sees scene ask false) → CountSteps count
          (2 + c) ask false → Lead ask false (Done (ends.Filled filled (counter_of ws + 1)))

      -- the count has loaded the cell `k`, and `new` cells are now found filled
      module _ (number k filled : ℕ) {new : ℕ} (goes : CountGoes (counts.LoadsCell number k filled))
          (rests : CountStays (counts.LoadsCell number k filled)) (below : k < c) (few : new ≤ k + 1)
          (held : Paid (unless_last number) (now scene)) (least : number ≤ counter_of ws)
          (at_end : number ≡ greatest → counter_of ws ≡ greatest) (says : Says (k + 1) new)
          (none : number < greatest → new ≡ 0 → counter_of ws ≡ number → IsCalm by events → (i : ℕ) → i < k + 1 → holder_of i events ≡ None) where
        abbrev ask : Option Ask
        ask = Some (loads (cell_word k))

        -- the load leaves the words
        same : words_after ws ask ≡ ws
        same = loads_same ws (cell_word k)

        -- the load leaves the counter
        same_counter : counter_of (words_after ws ask) ≡ counter_of ws
        same_counter = ap counter_of same

        -- the number that the count began with is at most the counter after the step
        low : number ≤ counter_of (words_after ws ask)
        low = omega (arith, same_counter)

        -- the count goes on to the next cell, or ends
        count_comes : Lead ask false (count_comes_to c number (k + 1) new)
        count_comes =
            by_test (Lead ask false) (nat_lt (k + 1) c) (GoOn (counts.LoadsCell number (k + 1) new)) _
            (λ t.
            let more : k + 1 < c = grind (arith, nat_tests) in
            goes (counts.LoadsCell number (k + 1) new) ask false same (more, few) (still_held number ask same_counter held)
            (low, λ end. same_counter ∙ at_end end, λ before zero is calm i less. none before zero (sym same_counter ∙ is) calm i less)
            says (λ n w some bound. omega arith))
            (λ t.
            let last : c ≡ k + 1 = grind (arith, nat_tests) in
            let paid : IsPaid (now scene) = still_paid number held in
            by_eq (Lead ask false) number greatest (Done (ends.Filled new number)) (GoOn (counts.ExchangesCounter number new))
            (λ end. rw end (rests new ask same (worn_at by ws inv.room (at_end end)) (at_end end) (omega arith)
            (rw last says) (omega arith) (λ n w some bound. omega arith)))
            (λ other. goes (counts.ExchangesCounter number new) ask false same (omega arith)
            (holds_on scene number ask events same_counter (holds_one number other held)) (
              low,
              λ end. same_counter ∙ at_end end,
              λ before zero is calm i behind. none before zero (sym same_counter ∙ is) calm i (omega arith),
            ) (rw last says) (λ n w some bound. omega arith)))

      -- each step of a count is as `Lead` asks, where each form of such a step is
      -- (`CountGoes` and the others)
      count_by : (count : Count) → CountAt c count → Paid (count_holds count) (now scene)
          → Scanned (count_scan c count) (now scene) → CountSays c Says count → CountGoes count → CountMeets count
          → CountStays count → CountEnds count
          → Lead (Some (count_ask count)) (count_goes_back count (old_of ws (Some (count_ask count))))
          (count_after c count (old_of ws (Some (count_ask count))))
      count_by counts.LoadsCounter at paid scanned says goes meets rests closes =
          let some = good_before.some in
          let same = loads_same ws 0 in
          let same_counter : counter_of (words_after ws (Some (loads 0))) ≡ counter_of ws = ap counter_of same in
          by_eq (Lead (Some (loads 0)) false) (counter_of ws) locked (Done ends.Locked) _
          (λ shut. meets (Some (loads 0)) same shut (omega arith) (λ n w wide low. omega arith))
          (λ open_now. by_test (Lead (Some (loads 0)) false) (nat_lt 0 c) (GoOn (counts.LoadsCell (counter_of ws) 0 0)) _
          (λ t. goes (counts.LoadsCell (counter_of ws) 0 0) (Some (loads 0)) false same
          (omega arith, omega arith) (found_held (Some (loads 0)) same open_now (omega arith))
          (omega arith, λ end. same_counter ∙ end, λ before zero is calm i less. absurd (omega arith)) said.none (λ n w wide low. omega arith))
          (λ t. let none : c ≤ 0 = grind (arith, nat_tests) in absurd (omega arith)))
      count_by (counts.LoadsCell number k filled) at paid scanned says goes meets rests closes =
          on_bool (λ b. Lead (Some (loads (cell_word k))) false (count_comes_to c number (k + 1) (if b then filled else one_more filled))) (cell ws k == empty)
          (λ t.
          let is : cell ws k ≡ empty = grind (arith, nat_tests) in
          let none = filled_none scene inv k at.0 is in
          let few = at.1 in
          count_comes number k filled goes rests at.0 (omega arith) paid scanned.0 scanned.1 (said.empty_next k filled at.0 none says)
          (λ before zero is calm i less. ⊎_elim (λ earlier. scanned.2 before zero is calm i earlier)
          (λ last. let here : i ≡ k = omega arith in none_holds calm i (ap (λ j. filled_of j events) here ∙ none))
          (cases_lt i k)))
          (λ t.
          let other : cell ws k ≢ empty = grind (arith, nat_tests) in
          let some = filled_some scene inv k at.0 other in
          let few = at.1 in
          let below = at.0 in
          let most = good_before.few in
          let next : one_more filled ≡ filled + 1 = omega arith in
          subst (λ m. Lead (Some (loads (cell_word k))) false (count_comes_to c number (k + 1) m)) (sym next)
          (count_comes number k filled goes rests at.0 (omega arith) paid scanned.0 scanned.1
          (said.filled_next k filled (cell ws k) at.0 some.1 says)
          (λ before zero is calm i less. absurd (omega arith))))
      count_by (counts.ExchangesCounter number filled) at paid scanned says goes meets rests closes =
          on_bool (λ b. Lead (Some (exchanges 0 number (one_more number))) (not b)
          (if b then Done (ends.Filled filled (one_more number)) else GoOn counts.LoadsCounter))
          (counter_of ws == number)
          (λ t.
          let is : counter_of ws ≡ number = grind (arith, nat_tests) in
          let paid_now = paid_of scene (counter_of ws ≡ number) paid.paid in
          let less = paid.before_end in
          let next : one_more number ≡ counter_of ws + 1 = omega arith in
          subst (λ m. Lead (Some (exchanges 0 number (one_more number))) false (Done (ends.Filled filled m))) (sym next)
          (closes filled (Some (exchanges 0 number (one_more number))) (before_end number is paid)
          (raised number is paid) at says (λ zero calm i below. scanned.2 paid.before_end zero is calm i below)
          (omega arith) (λ n w wide low. omega arith)))
          (λ t.
          let other : counter_of ws ≢ number = grind (arith, nat_tests) in
          goes counts.LoadsCounter (Some (exchanges 0 number (one_more number))) true (fails_same ws 0 number (one_more number) other) tt
          (paid_back scene number (Some (exchanges 0 number (one_more number))) events other paid) tt tt (λ n w wide low. omega arith))

      -- where a count stands, what it knows, and what the call shows of each form of a step of it
      pub record CountShows (count : Count) : Type 0 where
        pub at : CountAt c count
        pub paid : Paid (count_holds count) (now scene)
        pub scanned : Scanned (count_scan c count) (now scene)
        pub says : CountSays c Says count
        pub goes : CountGoes count
        pub meets : CountMeets count
        pub rests : CountStays count
        pub closes : CountEnds count

      -- each step of such a count is as `Lead` asks
      pub count_step : (count : Count) → CountShows count
          → Lead (Some (count_ask count)) (count_goes_back count (old_of ws (Some (count_ask count))))
          (count_after c count (old_of ws (Some (count_ask count))))
      count_step count shows = count_by count shows.at shows.paid shows.scanned shows.says shows.goes shows.meets shows.rests shows.closes

    -- ---- a lock

    -- `Lead ask back did r`: unlike a raise and a count, a lock has a step that writes an event, the exchange by which it locks the set
    module _ (Lead : Option Ask → Bool → List (Event T) → After Lock ReleaseState → Type 0) where
      -- a bound of the call's steps with the lock's own number holds after this step with `number` in its place
      abbrev pub LockSteps : Lock → ℕ → Option Ask → Bool → Type 0
      LockSteps lock number ask back =
          (n w : ℕ) → c + 3 ≤ w → steps ≤ n + lock_number c lock + backs * w → steps + step_count ask ≤ n + number + backs_then scene back * w

      -- what the call has to show of a step of the lock that goes on
      abbrev pub LockGoes : Lock → Type 0
      LockGoes lock =
          (next : Lock) (ask : Option Ask) (back : Bool) → Stays scene (words_after ws ask) → LockAt c next
          → Paid (lock_holds next) (sees scene ask back) → Scanned (lock_scan c next) (sees scene ask back)
          → LockSays c Says next → LockSteps lock (lock_number c next) ask back → Lead ask back [] (GoOn next)

      -- what the call has to show of a step that finds the set locked
      abbrev pub LockMeets : Lock → Type 0
      LockMeets lock =
          (ask : Option Ask) → words_after ws ask ≡ ws → counter_of ws ≡ locked → IsPaid (sees scene ask false)
          → LockSteps lock (3 + c) ask false → Lead ask false [] (Done states.Locked)

      -- what the call has to show of a step that has found an index filled, so that the set stays open
      abbrev pub LockFinds : Lock → Type 0
      LockFinds lock =
          (filled : ℕ) (ask : Option Ask) → Stays scene (words_after ws ask) → counter_of ws ≢ locked → 0 < filled
          → Says c filled → IsPaid (sees scene ask false) → LockSteps lock (3 + c) ask false
          → Lead ask false [] (Done states.Unlocked)

      -- what the call has to show of a step that finds the counter at its end, where no set is locked
      abbrev pub LockStays : Lock → Type 0
      LockStays lock =
          (ask : Option Ask) → Stays scene (words_after ws ask) → counter_of ws ≢ locked
          → IsWorn by (words_after ws ask) → IsPaid (sees scene ask false) → LockSteps lock (3 + c) ask false
          → Lead ask false [] (Done states.Unlocked)

      -- what the call has to show of a step that locks the set
      abbrev pub LockLocks : Lock → Type 0
      LockLocks lock =
          (ask : Option Ask) → (IsCalm by events → (i : ℕ) → holder_of i events ≡ None) → counter_of ws < greatest
          → words_after ws ask ≡ set ws 0 locked → IsPaid (sees scene ask false) → LockSteps lock (3 + c) ask false
          → Lead ask false (Locked p ∷ []) (Done states.Locked)

      -- the count of the lock has ended
      module _ (count : Count) (goes : LockGoes (locks.Counts count))
          (finds : LockFinds (locks.Counts count))
          (rests : LockStays (locks.Counts count)) where
        -- where the count of a lock ends, the step leads the call on as the call shows of the
        -- forms of a lock's step
        counted : CountEnds (λ ask back r. Lead ask back [] (lock_counted r)) count
        counted filled ask less new most says none paid few =
            by_bool (counter_of ws + 1 == greatest)
            -- the counter comes to its end, where nothing is locked
            (λ comes_to_end.
            let last : counter_of ws + 1 ≡ greatest = grind (arith, nat_tests) in
            none_locks (Lead ask false []) (GoOn (locks.ExchangesCounter (counter_of ws + 1)))
            (Done states.Unlocked) (filled == 0) (counter_of ws + 1 == greatest) comes_to_end
            (rests ask stays (not_shut scene inv less)
            (worn_then by ws (words_after ws ask) inv.room last (is ∙ last)) paid
            (λ n w more bound. let next = few n w (omega arith) bound in omega arith)))
            -- the counter is before its end: the lock is tried if no cell was found filled
            (λ goes_on.
            let other : not (counter_of ws + 1 == greatest) ≡ true = ap not goes_on in
            let differs : counter_of ws + 1 ≢ greatest = grind (arith, nat_tests) in
            let same = is in
            let low : counter_of ws + 1 ≤ counter_of (words_after ws ask) = omega arith in
            rw other
            (by_test (Lead ask false []) ((filled == 0) && true)
            (GoOn (locks.ExchangesCounter (counter_of ws + 1))) (Done states.Unlocked)
            (λ u.
            let zero : filled ≡ 0 = zero_if filled u in
            goes (locks.ExchangesCounter (counter_of ws + 1)) ask false stays tt
            (record { before_end = omega arith; low = low; paid = inl (is, paid) })
            (low, λ end. absurd (differs end), λ before same_zero same calm i below. none zero calm i below) tt
            (λ n w more bound. let next = few n w (omega arith) bound in omega arith))
            (λ u. finds filled ask stays (not_shut scene inv less) (more_if filled u) says paid
            (λ n w more bound. let next = few n w (omega arith) bound in omega arith))))
          where
            -- the raise leaves what `Stays` says
            stays : Stays scene (words_after ws ask)
            stays = stays_raised scene inv (words_after ws ask) less new

            -- the exchange makes the counter one more
            is : counter_of (words_after ws ask) ≡ counter_of ws + 1
            is = grind (arith, counter_set)

      -- each step of a lock is as `Lead` asks, where each form of such a step is (`LockGoes` and the others)
      pub lock_step : (lock : Lock) → LockAt c lock → Paid (lock_holds lock) (now scene)
          → Scanned (lock_scan c lock) (now scene) → LockSays c Says lock → LockGoes lock → LockMeets lock
          → LockFinds lock → LockStays lock → LockLocks lock
          → Lead (Some (lock_ask lock)) (lock_goes_back lock (old_of ws (Some (lock_ask lock))))
          (locked_by p lock (old_of ws (Some (lock_ask lock))))
          (lock_after c lock (old_of ws (Some (lock_ask lock))))
      lock_step (locks.Counts count) at paid scanned says goes meets finds rests shuts =
          count_by (λ ask back r. Lead ask back [] (lock_counted r)) count at paid scanned says
          (λ next ask back same next_at next_paid next_scanned next_says few. goes (locks.Counts next)
          ask back (stays_same scene inv (words_after ws ask) same) next_at next_paid next_scanned next_says
          (λ n w more bound. few n w (omega arith) bound))
          (λ ask same shut done_paid few. meets ask same shut done_paid (λ n w more bound. let next = few n w (omega arith) bound in omega arith))
          (λ filled ask same worn end most says_so done_paid few.
          none_locks (Lead ask false []) (GoOn (locks.ExchangesCounter greatest))
          (Done states.Unlocked) (filled == 0) (greatest == greatest) (eq-eqb greatest greatest refl)
          (rests ask (stays_same scene inv (words_after ws ask) same) (λ shut. absurd (omega arith))
          (subst (IsWorn by) (sym same) worn) done_paid
          (λ n w more bound. let next = few n w (omega arith) bound in omega arith)))
          (counted count goes finds rests)
      lock_step (locks.ExchangesCounter number) at paid scanned says goes meets finds rests shuts =
          on_bool (λ b. Lead (Some (exchanges 0 number locked)) (not b) (if b then Locked p ∷ [] else [])
          (if b then Done states.Locked else GoOn first_lock))
          (counter_of ws == number)
          (λ t.
          let is : counter_of ws ≡ number = grind (arith, nat_tests) in
          let paid_now = paid_of scene (counter_of ws ≡ number) paid.paid in
          shuts (Some (exchanges 0 number locked))
          (λ calm i. ⊎_elim (λ below. scanned.2 paid.before_end refl is calm i below) (λ beyond. none_holds calm i (none_beyond i beyond)) (cases_lt i c))
          (before_end number is paid) (exchange_sets ws 0 number locked is) (omega arith) (λ n w more bound. omega arith))
          (λ t.
          let other : counter_of ws ≢ number = grind (arith, nat_tests) in
          goes first_lock (Some (exchanges 0 number locked)) true
          (stays_same scene inv (words_after ws (Some (exchanges 0 number locked))) (fails_same ws 0 number locked other))
          tt
          (paid_back scene number (Some (exchanges 0 number locked)) events other paid) tt tt (λ n w more bound. omega arith))

      -- where a lock stands, what it knows, and what the call shows of each form of a step of it
      pub record LockShows (lock : Lock) : Type 0 where
        pub at : LockAt c lock
        pub paid : Paid (lock_holds lock) (now scene)
        pub scanned : Scanned (lock_scan c lock) (now scene)
        pub says : LockSays c Says lock
        pub goes : LockGoes lock
        pub meets : LockMeets lock
        pub finds : LockFinds lock
        pub rests : LockStays lock
        pub shuts : LockLocks lock

      -- each step of such a lock is as `Lead` asks
      pub lock_moves : (lock : Lock) → LockShows lock
          → Lead (Some (lock_ask lock)) (lock_goes_back lock (old_of ws (Some (lock_ask lock))))
          (locked_by p lock (old_of ws (Some (lock_ask lock))))
          (lock_after c lock (old_of ws (Some (lock_ask lock))))
      lock_moves lock shows =
          lock_step lock shows.at shows.paid shows.scanned shows.says shows.goes shows.meets shows.finds shows.rests shows.shuts
