-- The steps of an acquire, in any call of which an acquire is a part. `Lead` is what the call has to show of
-- a step; `Caller` says what it shows of each form of a step, and the lemmas that each step then shows it.
use Rattle.laws_robust.proofs.Names.{◌≡◌, ◌≢◌, ℕ, ◌+◌, ◌*◌, ◌<◌, ◌≤◌, ◌==◌, ◌⊎◌, inl, inr, if◌then◌else◌}
use Rattle.laws_robust.proofs.Names.{nat_lt, Bool, true, false, not, Option, Some, None, is_some, List, [], ◌∷◌, ◌++◌}
use Rattle.laws_robust.proofs.Names.{set, refl, sym, ap, ◌∙◌, arith, Ok, Err, nat_tests, set-get_or}
use Rattle.laws_robust.proofs.Names.{fold-append, Ask, After, GoOn, Done, ReleaseState, AcquireStage, Raise, Acquired}
use Rattle.laws_robust.proofs.Names.{at_acquire, acquire_tries, acquire_sees, acquire_raised, acquire_asks}
use Rattle.laws_robust.proofs.Names.{acquire_takes, acquire_goes_back, cell_word, empty, locked, greatest}
use Rattle.laws_robust.proofs.Names.{raise_after, raise_goes_back, by_test, by_eq, Event, Filled, Granted, IsFilled}
use Rattle.laws_robust.proofs.Names.{Fills, filled_after, filled_of, holder_after, holder_of, is_dead}
use Rattle.laws_robust.proofs.Names.{ask_of, is_locked, FilledLate, granted, acquire_effects, HeldSometime, old_of}
use Rattle.laws_robust.proofs.Names.{words_after, step_count, held_now}
use Rattle.steps.specs.declared.indices.enums.UniqueIndexSetAcquireFailure.{UniqueIndexSetAcquireFailure}
use Rattle.steps.specs.declared.indices.enums.UniqueIndexSetAcquireFailure.TheVariants as failures
use Rattle.steps.specs.declared.indices.robust.acquire.Acquire as calls
use Rattle.steps.specs.declared.indices.robust.acquire.AcquireStage.TheVariants as acquires
use Rattle.steps.specs.declared.indices.robust.parts.Raise.TheVariants as raises
use Rattle.laws_robust.specs.Gone.{IsCalm}
use Rattle.laws_robust.proofs.Core.{counter_of, cell}
use Rattle.lemmas_owners.proofs.Choices.{at_same}
use Rattle.laws_robust.proofs.Effects.{IsRaised, unlocked, is_shut, filled_none, filled_some, fills}
use Rattle.laws_robust.proofs.Gone.{calm_less, lives_granted}
use Rattle.laws_robust.proofs.Invariant.{IsWorn, worn_at, Scene, Inv, Good, Does}
use Rattle.laws_robust.proofs.Knows.{Knows, IsPaid, AllOnce}
use Rattle.laws_robust.proofs.CallProgress.{acquire_at, acquire_number, raise_number, AcquireAt}
use Rattle.laws_robust.proofs.Parts.{raise_ask, raise_step, none_holds, finds_counter}
use Rattle.laws_robust.proofs.Rights.{By, right_after, right_of, IsBy}
use Rattle.laws_robust.proofs.Stages.{all, now, sees, then_sees, backs_then}
use Rattle.lemmas_owners.proofs.Operations.{loads, exchanges, loads_same, fails_same}
use Rattle.lemmas_owners.proofs.Operations.{exchange_sets}
use Rattle.laws_robust.proofs.Stages.{paid_of, paid_back, holds_on}
use Rattle.lemmas.proofs.Cases.{on_bool}

-- what equals `Some` is present
pub some_is : (o : Option ℕ) (owner : ℕ) → o ≡ Some owner → is_some o ≡ true
some_is o owner e = ap is_some e

-- An acquire for an owner who is alive, by the party of the scene, as a call of the set or as a part of another call.
pub record Acquiring (T : Type 0) : Type 0 where
  -- the turn, and what holds of the machine before it
  pub scene : Scene T
  pub inv : Inv scene
  -- the argument of the acquire, who can be in a cell and is alive
  pub owner : ℕ
  pub fits : owner < empty
  pub alive : is_dead owner scene.events ≡ false
  -- the call has taken at most so many steps beside the acquire
  pub extra : ℕ

module _ {T : Type 0} (acquiring : Acquiring T) where
  open acquiring use {scene, inv, owner, fits, alive, extra}
  open acquiring.scene use {by as by, capacity as c, party as p, steps as steps, backs as backs, events as events}

  -- the words of the set before the step
  abbrev ws : List ℕ
  ws = scene.set.words

  good_before : Good by c ws scene.set.dead events scene.turns
  good_before = inv.good

  -- the acquire at a stage
  abbrev pub call_at : AcquireStage → calls.Acquire
  call_at stage = record { capacity = c; stage = stage }

  -- ---- what the call shows of a step of its acquire

  -- the steps of the call up to this stage of the acquire are within their bound
  abbrev pub Few : AcquireStage → Option Ask → Bool → Type 0
  Few stage ask back = steps + step_count ask ≤ extra + acquire_number c stage (backs_then scene back)

  -- the steps of the call up to the end of the acquire are within their bound
  abbrev pub FewEnd : Option Ask → Bool → Type 0
  FewEnd ask back = steps + step_count ask ≤ extra + (c + 3 + backs_then scene back * (c + 1))

  -- why no index was granted: the set is locked, or no index was free, or the counter may be at its end
  abbrev pub WhyNot : UniqueIndexSetAcquireFailure → Type 0
  WhyNot failures.IsLocked = (is_locked events ≡ true) × ((all scene ≡ []) ⊎ FilledLate owner (all scene))
  WhyNot failures.OutOfIndices = (is_locked events ≡ false) × (IsWorn by ws ⊎ AllOnce c (now scene)) × (all scene ≡ [])

  -- What the call shows of a step of its acquire: of one that goes on, of the fill, of a
  -- failure, and of the grant.
  pub record Caller (Lead : Option Ask → Bool → List (Event T) → After calls.Acquire Acquired → Type 0) : Type 0 where
    pub quiet : (next : AcquireStage) (ask : Option Ask) (back : Bool) → words_after ws ask ≡ ws
        → AcquireAt c owner (all scene) next → Knows c (acquire_at c owner next) (sees scene ask back)
        → Few next ask back → Lead ask back [] (GoOn (call_at next))
    pub filled : (i : ℕ) (ask : Option Ask) → words_after ws ask ≡ set ws (cell_word i) owner
        → Does scene (words_after ws ask) (Filled p i owner ∷ []) → i < c → all scene ≡ []
        → Knows c (acquire_at c owner (acquires.Raises i raises.LoadsCounter))
        (then_sees scene ask false (Filled p i owner ∷ []))
        → Few (acquires.Raises i raises.LoadsCounter) ask false
        → Lead ask false (Filled p i owner ∷ []) (GoOn (call_at (acquires.Raises i raises.LoadsCounter)))
    pub fails : (failure : UniqueIndexSetAcquireFailure) (ask : Option Ask) (back : Bool)
        → words_after ws ask ≡ ws → WhyNot failure → IsPaid (sees scene ask back) → FewEnd ask back
        → Lead ask back [] (Done (Err failure))
    pub grants : (i : ℕ) (ask : Option Ask) (back : Bool) → i < c → all scene ≡ Fills i owner ∷ []
        → (IsCalm by (events ++ Granted p i owner ∷ []) → IsBy p i owner events × (holder_of i events ≡ None))
        → IsRaised scene (words_after ws ask)
        → IsPaid (sees scene ask back) → FewEnd ask back → Lead ask back (Granted p i owner ∷ []) (Done (Ok i))

  -- each step of the acquire is as `Lead` asks
  module _ (Lead : Option Ask → Bool → List (Event T) → After calls.Acquire Acquired → Type 0) (caller : Caller Lead) where
    -- ---- the acquire has found a counter, by a load or by an exchange that failed

    module _ (stage : AcquireStage) (ask : Option Ask) (back : Bool) (same : words_after ws ask ≡ ws)
        (none : all scene ≡ []) (low : steps + step_count ask ≤ extra + (1 + backs_then scene back * (c + 1)))
        (paid : IsPaid (sees scene ask back)) where
      -- a locked counter ends the acquire with `IsLocked`
      finds_locked : counter_of ws ≡ locked → Lead ask back [] (Done (Err failures.IsLocked))
      finds_locked = grind (arith, is_shut, inl)

      -- a counter that is open and before its end leads to the first cell
      begins_cells : counter_of ws ≢ locked → counter_of ws ≢ greatest
          → Lead ask back [] (GoOn (at_acquire (call_at stage) (acquires.FillsCell (counter_of ws) 0)))
      begins_cells = grind (arith, finds_counter, held_now, unlocked)

      -- an acquire fails where the counter is locked or at its end, and else goes to the first cell
      finds : Lead ask back [] (acquire_sees (call_at stage) (counter_of ws))
      finds =
          by_eq (Lead ask back []) (counter_of ws) locked (Done (Err failures.IsLocked)) _ finds_locked
          (λ open_now. by_eq (Lead ask back []) (counter_of ws) greatest (Done (Err failures.OutOfIndices)) _
          (λ end. caller.fails failures.OutOfIndices ask back same
          (unlocked scene inv open_now, inl (worn_at by ws inv.room end), none) paid (omega arith))
          (λ less. by_test (λ s. Lead ask back [] (GoOn (at_acquire (call_at stage) s))) (nat_lt 0 c)
          (acquires.FillsCell (counter_of ws) 0) (acquires.ChecksCounter (counter_of ws))
          (λ t. begins_cells open_now less)
          (λ t. let some = good_before.some in let nothing : c ≤ 0 = grind (arith, nat_tests) in absurd (omega arith))))

    -- ---- the exchange of a cell

    -- the acquire has come to cell `i` with the counter `number`; `few_steps` bounds its steps, and
    -- `knows` is what it knows
    module _ (number i : ℕ) (below : i < c) (none : all scene ≡ []) (few_steps : steps ≤ extra + (1 + i + backs * (c + 1)))
        (knows : Knows c (acquire_at c owner (acquires.FillsCell number i)) (now scene)) where
      -- the stage at which the acquire tries to fill the cell `i`
      abbrev filling : AcquireStage
      filling = acquires.FillsCell number i

      -- the exchange that fills the cell `i` with the owner
      abbrev exchange : Option Ask
      exchange = Some (exchanges (cell_word i) empty owner)

      -- the event of the fill
      abbrev fill : List (Event T)
      fill = Filled p i owner ∷ []

      -- the turn-backs so far are paid for by changes by others
      paid_now : IsPaid (now scene)
      paid_now = paid_of scene (counter_of ws ≡ number) knows.paid.paid

      -- where the cell is empty, the acquire fills it, and goes on to raise the counter
      fills_cell : cell ws i ≡ empty
          → Lead exchange false fill (GoOn (at_acquire (call_at filling) (acquires.Raises i raises.LoadsCounter)))
      fills_cell cell_empty =
          let free = filled_none scene inv i below cell_empty in
          let new : words_after ws exchange ≡ set ws (cell_word i) owner = exchange_sets ws (cell_word i) empty owner cell_empty in
          caller.filled i exchange new (fills scene inv below fits free alive knows.says.0 new) below none
          (record {
            paid = omega arith;
            scanned = tt;
            owns = λ calm lives. (
              record {
                right = fold-append (right_after i) _ events fill ∙ at_same i i (By p) (right_of i events) refl;
                filled = fold-append (filled_after i) None events fill ∙ at_same i i (Some owner) (filled_of i events) refl;
              },
              fold-append (holder_after i) None events fill ∙ none_holds scene inv (calm_less by events fill calm) i free,
            );
            says = tt;
            gone = tt;
          })
          (omega arith)

      -- where the cell was filled, each index up to it was filled at a moment of the call
      was_filled : cell ws i ≢ empty → (j : ℕ) → j < i + 1 → HeldSometime p (IsFilled j) events
      was_filled = grind (arith, held_now, some_is, cell, filled_some)

      -- where the cell was filled, the acquire goes on to the next cell, or to check the counter
      passes : cell ws i ≢ empty → Lead exchange false [] (acquire_tries (call_at filling) number (i + 1))
      passes = grind (arith, fails_same, empty, holds_on, by_test, false, was_filled, nat_tests)

      -- the exchange of a cell is as `Lead` asks
      fills_step : Lead exchange false (acquire_effects p owner filling (cell ws i)) (acquire_takes (call_at filling) filling (cell ws i))
      fills_step =
          on_bool (λ b. Lead (Some (exchanges (cell_word i) empty owner)) false (if b then Filled p i owner ∷ [] else [])
          (if b then GoOn (at_acquire (call_at (acquires.FillsCell number i)) (acquires.Raises i raises.LoadsCounter))
          else acquire_tries (call_at (acquires.FillsCell number i)) number (i + 1)))
          (cell ws i == empty)
          (λ t. let is : cell ws i ≡ empty = grind (arith, nat_tests) in fills_cell is)
          (λ t. let other : cell ws i ≢ empty = grind (arith, nat_tests) in passes other)

    -- ---- the exchange of the counter for itself

    -- the exchange of the counter for itself is as `Lead` asks
    checks_step : (number : ℕ) → all scene ≡ [] → steps ≤ extra + (1 + c + backs * (c + 1))
        → Knows c (acquire_at c owner (acquires.ChecksCounter number)) (now scene)
        → Lead (Some (exchanges 0 number number))
        (acquire_goes_back (acquires.ChecksCounter number) (counter_of ws)) []
        (acquire_takes (call_at (acquires.ChecksCounter number))
        (acquires.ChecksCounter number) (counter_of ws))
    checks_step number none few_steps knows =
        on_bool (λ b. Lead (Some (exchanges 0 number number)) (not b) []
        (if b then Done (Err failures.OutOfIndices) else acquire_sees (call_at (acquires.ChecksCounter number)) (counter_of ws)))
        (counter_of ws == number)
        (λ t.
        let is : counter_of ws ≡ number = grind (arith, nat_tests) in
        let paid_now = paid_of scene (counter_of ws ≡ number) knows.paid.paid in
        let same : words_after ws (Some (exchanges 0 number number)) ≡ ws =
        exchange_sets ws 0 number number is ∙ (ap (set ws 0) (sym is) ∙ set-get_or ws 0 0) in
        caller.fails failures.OutOfIndices (Some (exchanges 0 number number)) false same
        (unlocked scene inv (λ shut. let end = knows.paid.before_end in absurd (omega arith)), inr knows.says, none) (omega arith) (omega arith))
        (λ t.
        let other : counter_of ws ≢ number = grind (arith, nat_tests) in
        finds (acquires.ChecksCounter number) (Some (exchanges 0 number number)) true
        (fails_same ws 0 number number other) none (omega arith)
        (paid_back scene number (Some (exchanges 0 number number)) events other knows.paid))

    -- ---- the raise of the counter

    -- the acquire has filled the index `i` and raises the counter
    module _ (i : ℕ) (raise : Raise) (below : i < c) (done : all scene ≡ Fills i owner ∷ [])
        (few_steps : steps ≤ extra + (1 + c + raise_number raise + backs * (c + 1)))
        (knows : Knows c (acquire_at c owner (acquires.Raises i raise)) (now scene)) where
      abbrev raising : AcquireStage
      raising = acquires.Raises i raise

      -- what `Lead` asks of the acquire, where `r` is how its raise goes on or ends
      abbrev raises_to : Option Ask → Bool → After Raise ReleaseState → Type 0
      raises_to ask back r = Lead ask back (granted p i owner r) (acquire_raised (call_at raising) i r)

      -- a step of the raise is as `Lead` asks
      raises_step : raises_to (Some (raise_ask raise)) (raise_goes_back raise (counter_of ws)) (raise_after raise (counter_of ws))
      raises_step =
          raise_step scene inv raises_to raise (record {
            paid = knows.paid;
            goes = λ number ask back same held few.
                let low = few (extra + 1 + c) (c + 1) (omega arith) (omega arith) in
                caller.quiet (acquires.Raises i (raises.ExchangesCounter number)) ask back same (below, done)
                (record { paid = held; scanned = tt; owns = knows.owns; says = tt; gone = tt }) (omega arith);
            meets = λ ask back same shut paid few.
                let low = few (extra + 1 + c) (c + 1) (omega arith) (omega arith) in
                caller.fails failures.IsLocked ask back same (is_shut scene inv shut, inr (record { index = i; is = done })) paid (omega arith);
            rests = λ ask back same worn end paid few.
                let low = few (extra + 1 + c) (c + 1) (omega arith) (omega arith) in
                caller.grants i ask back below done owns_it (inr (worn, end, same)) paid (omega arith);
            closes = λ ask less new paid few.
                let low = few (extra + 1 + c) (c + 1) (omega arith) (omega arith) in
                caller.grants i ask false below done owns_it (inl (less, new)) paid (omega arith);
          })
        where
          -- where the run is well-formed and honest, the party has the right to the index,
          -- and nobody holds it
          owns_it : IsCalm by (events ++ Granted p i owner ∷ []) → IsBy p i owner events × (holder_of i events ≡ None)
          owns_it calm = knows.owns (calm_less by events (Granted p i owner ∷ []) calm) (lives_granted by p i owner events alive calm.1)

    -- ---- any step

    -- the step of an acquire at this stage is as `Lead` asks
    abbrev pub StepAt : AcquireStage → Type 0
    StepAt stage =
        Lead (ask_of (acquire_asks stage owner))
        (acquire_goes_back stage (old_of ws (ask_of (acquire_asks stage owner))))
        (acquire_effects p owner stage (old_of ws (ask_of (acquire_asks stage owner))))
        (acquire_takes (call_at stage) stage (old_of ws (ask_of (acquire_asks stage owner))))

    -- any step of an acquire is as `Lead` asks, where the acquire stands at its stage and
    -- knows what the stage says
    pub held_step : (stage : AcquireStage) → AcquireAt c owner (all scene) stage
        → Knows c (acquire_at c owner stage) (now scene) → steps ≤ extra + acquire_number c stage backs → StepAt stage
    held_step acquires.LoadsCounter at knows few_steps =
        finds acquires.LoadsCounter (Some (loads 0)) false (loads_same ws 0) at (omega arith) (let paid = knows.paid in omega arith)
    held_step (acquires.FillsCell number i) at knows few_steps = fills_step number i at.0 at.1 few_steps knows
    held_step (acquires.ChecksCounter number) at knows few_steps = checks_step number at few_steps knows
    held_step (acquires.Raises i raises.LoadsCounter) at knows few_steps = raises_step i raises.LoadsCounter at.0 at.1 few_steps knows
    held_step (acquires.Raises i (raises.ExchangesCounter number)) at knows few_steps =
        raises_step i (raises.ExchangesCounter number) at.0 at.1 few_steps knows
