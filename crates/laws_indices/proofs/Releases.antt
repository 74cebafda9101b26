-- Each step of a release keeps the invariant, in both modes.
use Rattle.std.proofs.Common.{◌≡◌, ◌≢◌, ℕ, ◌+◌, ◌-◌, ◌*◌, ◌%◌, ◌^◌, ◌<◌, ◌≤◌, ◌==◌, inl, Bool, true, false}
use Rattle.std.proofs.Common.{Some, None, set, refl, sym, ap, ◌∙◌, arith, get_or-set_same}
use Rattle.laws_indices.proofs.Names.{nat_tests, set-get_or, Ask, After, GoOn, Done, LockIfLastIndex, Default}
use Rattle.laws_indices.proofs.Names.{ReleaseStage, next_word, flag_word, flag, proposed, borrowed, locked, says_locked}
use Rattle.laws_indices.proofs.Names.{Answer, State, IndexStart, IndexFlight, words_after, Scene, Inv}
use Rattle.steps.specs.declared.ask.Op.TheVariants.{Load, Store, Sub, And, Exchange}
use Rattle.steps.specs.declared.indices.enums.ReleaseState.TheVariants.{Locked, Unlocked}
use Rattle.steps.specs.declared.indices.unique.ReleaseStage.TheVariants as releases
use Rattle.steps.specs.Indices.Unique.{head_given_back, head_locked, head_released}
use Rattle.model.specs.declared.families.indices.IndexStart.TheVariants.{Release}
use Rattle.model.specs.Families.Indices.Calls.{after, goes_back}
use Rattle.model.specs.Families.Indices.Reading.{Tally}
use Rattle.laws_indices.proofs.Core.{head_of, counted_in, holder, head_stays, Good}
use Rattle.laws_indices.proofs.Count.{given_number, locked_number, less_number}
use Rattle.laws_indices.proofs.Invariant.{IndexSet, outline}
use Rattle.laws_indices.proofs.Knows.{default_at, lock_at, release_counts, release_number, ReleaseAt, LockKnows, IsPaid, PaidUnless}
use Rattle.laws_indices.proofs.Moves.{counts_right, unlocked_for, stores_next, some_counted, gives, subtracts, shuts, last_given, frees}
use Rattle.laws_indices.proofs.Stages.{busy, IsHere, busy_here, all_in_use, Comes, StepOf, paid_of, unless_then}
use Rattle.laws_indices.proofs.Stages.{goes_on, ends, frees_index, locks_set, same_tally, open_says}

-- The party `p` has a release of the index `index` under way. `c` is the capacity, `ws` the words and `hs`
-- the holders of the indices before the step.
module _ {T : Type 0} (scene : Scene T IndexSet) (inv : Inv outline scene) (index : ℕ) (below : index < scene.capacity) where
  open scene use {capacity as c, party as p, steps, backs, since, changes, latest, events}
  open scene.state use {words as ws, holders as hs}

  good_before : Good c ws hs (busy scene)
  good_before = inv.holds.good

  -- the five operations that a release asks for
  abbrev loads : Ask
  loads = record { word = 0; op = Load }

  -- the `and` by which the release clears the flag of its index
  abbrev clear : Ask
  clear = record { word = flag_word c index; op = And (2 ^ 64 - 1 - flag index) }

  -- the store by which the index proposes what the head proposed
  abbrev store : ℕ → Ask
  store head = record { word = next_word index; op = Store (proposed head) }

  -- the exchange of the head by which the release gives its index back
  abbrev exchange : Bool → ℕ → Ask
  exchange lock head = record { word = 0; op = Exchange head (head_released lock head index) }

  -- the subtraction of one by which the release gives its index back
  abbrev subtract : Ask
  subtract = record { word = 0; op = Sub 1 }

  -- ---- what the operations leave

  -- the load leaves the words
  loads_same : words_after ws (Some loads) ≡ ws
  loads_same = set-get_or ws 0 0

  -- the clear of the flag leaves the head
  clear_head : head_of (words_after ws (Some clear)) ≡ head_of ws
  clear_head = grind (arith, head_stays, flag)

  -- the store of the next index leaves the head
  store_head : (head : ℕ) → head_of (words_after ws (Some (store head))) ≡ head_of ws
  store_head head = head_stays c ws (next_word index) (proposed head) (omega arith)

  -- a load leaves the words right for the same number of busy calls
  good_same : (ask : Ask) (busy' : ℕ) → words_after ws (Some ask) ≡ ws → busy' ≡ busy scene → Good c (words_after ws (Some ask)) hs busy'
  good_same = grind (arith, busy, good_before)

  -- the store of the next index leaves the words right
  good_stored : (head : ℕ) {busy' : ℕ} → busy' ≡ busy scene → Good c (words_after ws (Some (store head))) hs busy'
  good_stored head busy_is =
      rw busy_is (stores_next c ws hs index (proposed head) (busy scene) below good_before)

  -- once the flag is cleared the words are right, with nobody holding the index and one more busy call
  good_freed : holder hs index ≡ Some p → {busy' : ℕ} → busy' ≡ busy scene + 1 → Good c (words_after ws (Some clear)) (set hs index None) busy'
  good_freed holds busy_is =
      rw busy_is (frees c ws hs index below p (busy scene) holds good_before)

  -- where one call less is busy afterwards, the words before are right for one more than that
  one_less : (busy' : ℕ) → busy' + 1 ≡ busy scene → Good c ws hs (busy' + 1)
  one_less busy' busy_is = rw busy_is good_before

  -- once the head counts one less the words are right for one busy call less
  good_given : (ask : Ask) → words_after ws (Some ask) ≡ set ws 0 (head_given_back (head_of ws) index) → {busy' : ℕ}
      → busy' + 1 ≡ busy scene → Good c (words_after ws (Some ask)) hs busy'
  good_given ask new {busy'} busy_is = rw new (gives c ws hs busy' (one_less busy' busy_is) index)

  -- while a release has freed its index and not ended, the set is not locked
  module _ (at_work : 1 ≤ busy scene) where
    -- the head is not locked, since a release is at work
    not_locked : counted_in ws ≢ locked
    not_locked = unlocked_for c ws hs (busy scene) good_before at_work

    -- the number of busy calls besides this one
    abbrev others : ℕ
    others = busy scene - 1

    -- the others and this release are all the calls at work
    is_others : others + 1 ≡ busy scene
    is_others = omega arith

    -- the head counts at least this release, and at most `c`
    some_number : (1 ≤ counted_in ws) × (counted_in ws ≤ c)
    some_number = let one_counted = some_counted c ws hs others (one_less others is_others) in (one_counted.0, one_counted.2)

    -- a new head that counts one less is not locked
    still_open : (ask : Ask) (x : ℕ) → words_after ws (Some ask) ≡ set ws 0 x → borrowed x + 1 ≡ counted_in ws
        → says_locked (head_of (words_after ws (Some ask))) ≡ says_locked (head_of ws)
    still_open = grind (arith, head_of, get_or-set_same, open_says, not_locked)

    -- the head that a release writes in mode Default is not locked
    given_open : (ask : Ask) → words_after ws (Some ask) ≡ set ws 0 (head_given_back (head_of ws) index)
        → says_locked (head_of (words_after ws (Some ask))) ≡ says_locked (head_of ws)
    given_open ask new = still_open ask (head_given_back (head_of ws) index) new (given_number (head_of ws) index some_number.0)

  -- the tally once a release has given its index back
  told : (h t g t' g' : ℕ) → t' + 0 ≡ t + 0 → g' + 1 ≡ g + 0
      → ◌≡◌ {A = Tally} (record { held = h; taking = t; giving = g - 1 }) (record { held = h; taking = t'; giving = g' })
  told h t g t' g' a b = same_tally h h t t' (g - 1) g' refl (omega arith) (omega arith)

  -- ---- in mode Default

  -- the release in mode `Default`, at a stage
  abbrev default : ReleaseStage → IndexFlight
  default stage = default_at c index stage

  abbrev started : IndexStart
  started = Release index Default

  -- the release is after its clear, so some call is busy
  module _ (stage : ReleaseStage) (here : IsHere scene (default stage)) (heavy : release_counts stage ≡ 1) where
    -- the release is counted among the calls at work
    default_works : 1 ≤ busy scene
    default_works = let mine = busy_here scene here in omega arith

  module _ (straight : backs ≡ 0) where
    -- the clear of its flag frees the index, and leads to the load of the head
    default_clears : holder hs index ≡ Some p → steps ≤ 0 → StepOf scene started (default releases.ClearsFlag)
    default_clears holds few_steps =
        frees_index inv Default (default releases.LoadsHead) (Some clear) (record {
          below = below;
          held = holds;
          good = λ busy' e. good_freed holds (omega arith);
          head_same = clear_head;
          takes_same = refl;
          gives_before = refl;
          gives_after = refl;
          wrote_before = refl;
          wrote_after = refl;
          straight = omega arith;
          steps = omega arith;
          at = (refl, refl, below, tt);
          knows = omega arith;
        })

    -- the load of the head leads to the store of the next index
    default_loads : steps ≤ 1 → StepOf scene started (default releases.LoadsHead)
    default_loads = grind (arith, goes_on, head_of, false, good_same, loads_same)

    -- the store of the next index leads to the exchange of the head
    default_stores : (head : ℕ) → steps ≤ 2 → StepOf scene started (default (releases.StoresNext head))
    default_stores head few_steps =
        goes_on inv started (default (releases.StoresNext head)) (default (releases.ExchangesHead head)) (Some (store head)) false (record {
          good = λ busy' e. good_stored head (omega arith);
          takes_same = refl;
          gives_same = refl;
          wrote_same = refl;
          lock_same = ap says_locked (store_head head);
          straight = omega arith;
          steps = omega arith;
          at = (refl, refl, below, tt);
          knows = omega arith;
        })

    -- the exchange of the head ends the release, or leads to the subtraction where the head has moved
    default_exchanges : (head : ℕ) → IsHere scene (default (releases.ExchangesHead head)) → steps ≤ 3
        → StepOf scene started (default (releases.ExchangesHead head))
    default_exchanges head here few_steps = go (head_of ws == head) refl
      where
        -- the release at its exchange of the head
        stage : IndexFlight
        stage = default (releases.ExchangesHead head)

        -- a release at its exchange is counted among the calls at work
        works : 1 ≤ busy scene
        works = default_works (releases.ExchangesHead head) here refl

        -- the cases are whether the head is the one that was read
        go : (b : Bool) → (head_of ws == head) ≡ b → StepOf scene started (default (releases.ExchangesHead head))
        -- the head is the same: the exchange ends the release
        go true t =
            let same_head : head_of ws ≡ head = grind (arith, nat_tests) in
            let goes : after {T = T} stage (head_of ws) ≡ Done (State Unlocked) = rw t refl in
            let new : words_after ws (Some (exchange false head)) ≡ set ws 0 (head_given_back (head_of ws) index) =
            rw t (ap (λ h. set ws 0 (head_given_back h index)) (sym same_head)) in
            rw goes (ends inv started stage (State Unlocked) (Some (exchange false head)) false (record {
              good = λ busy' e. good_given (exchange false head) new (omega arith);
              tally = told;
              done = refl;
              right = tt;
              lock_same = given_open works (exchange false head) new;
              straight = omega arith;
              steps = omega arith;
              paid = omega arith;
            }))
        -- the head has moved: the release goes on to the subtraction
        go false t =
            let goes : after {T = T} stage (head_of ws) ≡ GoOn (default releases.Subtracts) = rw t refl in
            let same : words_after ws (Some (exchange false head)) ≡ ws = rw t (set-get_or ws 0 0) in
            rw goes (goes_on inv started stage (default releases.Subtracts) (Some (exchange false head)) false (record {
              good = λ busy' e. good_same (exchange false head) busy' same (omega arith);
              takes_same = refl;
              gives_same = refl;
              wrote_same = refl;
              lock_same = ap (λ w. says_locked (head_of w)) same;
              straight = omega arith;
              steps = omega arith;
              at = (refl, refl, below, tt);
              knows = omega arith;
            }))

    -- the subtraction from the head ends the release
    default_subtracts : IsHere scene (default releases.Subtracts) → steps ≤ 4 → StepOf scene started (default releases.Subtracts)
    default_subtracts here few_steps =
        let works = default_works releases.Subtracts here refl in
        let x : ℕ = (head_of ws + (2 ^ 64 - 1)) % 2 ^ 64 in
        ends inv started (default releases.Subtracts) (State Unlocked) (Some subtract) false (record {
          good = λ busy' e. subtracts c ws hs busy' (one_less busy' (omega arith));
          tally = told;
          done = refl;
          right = tt;
          lock_same = still_open works subtract x refl (less_number (head_of ws) (some_number works).0);
          straight = omega arith;
          steps = omega arith;
          paid = omega arith;
        })

    -- any step of a release in mode Default keeps the invariant
    pub default_step : (stage : ReleaseStage) → IsHere scene (default stage) → ReleaseAt hs p index stage
        → steps ≤ release_number stage 0 → StepOf scene started (default stage)
    default_step releases.ClearsFlag here at few_steps = default_clears at few_steps
    default_step releases.LoadsHead here at few_steps = default_loads few_steps
    default_step (releases.StoresNext head) here at few_steps = default_stores head few_steps
    default_step (releases.ExchangesHead head) here at few_steps = default_exchanges head here few_steps
    default_step releases.Subtracts here at few_steps = default_subtracts here few_steps

  -- ---- in mode LockIfLastIndex

  -- the release in mode `LockIfLastIndex`, at a stage
  abbrev locking : ReleaseStage → IndexFlight
  locking stage = lock_at c index stage

  abbrev started_lock : IndexStart
  started_lock = Release index LockIfLastIndex

  -- the clear of its flag frees the index, and leads to the load of the head
  lock_clears : holder hs index ≡ Some p → IsPaid since changes backs → steps ≤ 0 → StepOf scene started_lock (locking releases.ClearsFlag)
  lock_clears holds paid few_steps =
      frees_index inv LockIfLastIndex (locking releases.LoadsHead) (Some clear) (record {
        below = below;
        held = holds;
        good = λ busy' e. good_freed holds (omega arith);
        head_same = clear_head;
        takes_same = refl;
        gives_before = refl;
        gives_after = refl;
        wrote_before = refl;
        wrote_after = refl;
        straight = tt;
        steps = omega arith;
        at = (refl, refl, below, tt);
        knows = omega arith;
      })

  -- the load of the head leads to the store of the next index
  lock_loads : IsPaid since changes backs → steps ≤ 1 → StepOf scene started_lock (locking releases.LoadsHead)
  lock_loads = grind (arith, goes_on, head_of, false, good_same, loads_same, inl)

  -- the store of the next index leads to the exchange of the head
  lock_stores : (head : ℕ) → PaidUnless (head_of ws ≡ head) since changes backs → steps ≤ 2 + backs * 2
      → StepOf scene started_lock (locking (releases.StoresNext head))
  lock_stores head knows few_steps =
      goes_on inv started_lock (locking (releases.StoresNext head)) (locking (releases.ExchangesHead head)) (Some (store head)) false (record {
        good = λ busy' e. good_stored head (omega arith);
        takes_same = refl;
        gives_same = refl;
        wrote_same = refl;
        lock_same = ap says_locked (store_head head);
        straight = tt;
        steps = omega arith;
        at = (refl, refl, below, tt);
        knows =
            unless_then scene (Some (store head)) (head_of ws ≡ head) (head_of (words_after ws (Some (store head))) ≡ head) (λ e. store_head head ∙ e) knows;
      })

  -- the release may lock, and is to exchange the head `head`
  module _ (head : ℕ) (here : IsHere scene (locking (releases.ExchangesHead head)))
      (knows : PaidUnless (head_of ws ≡ head) since changes backs) (few_steps : steps ≤ 3 + backs * 2) where
    -- the release at its exchange of the head
    abbrev exchanging : IndexFlight
    exchanging = locking (releases.ExchangesHead head)

    -- the release is counted among the calls at work
    works : 1 ≤ busy scene
    works = let mine = busy_here scene here in omega arith

    -- the turn-backs so far are paid for by changes by others
    paid : IsPaid since changes backs
    paid = paid_of scene (head_of ws ≡ head) knows

    -- the exchange, after which the release is as `a` says, keeps the invariant
    abbrev StepKeeps : Bool → After IndexFlight (Answer T) → Type 0
    StepKeeps back a = Comes scene started_lock exchanging (Some (exchange true head)) back a

    -- where the head counts this index alone, the exchange locks the set and ends the release
    shuts_set : words_after ws (Some (exchange true head)) ≡ set ws 0 (head_locked (head_of ws) index) → counted_in ws ≡ 1
        → StepKeeps false (Done (State Locked))
    shuts_set new one =
        let wide = good_before.wide in
        let is : head_of (words_after ws (Some (exchange true head))) ≡ head_locked (head_of ws) index =
        ap head_of new ∙ get_or-set_same ws 0 (head_locked (head_of ws) index) 0 (omega arith) in
        locks_set inv (Some (exchange true head)) (record {
          none = last_given c ws hs (others works) (one_less (others works) (is_others works)) one;
          unlocked = not_locked works;
          good = λ busy' e. rw new (shuts c ws hs busy' (one_less busy' (omega arith)) index one);
          shut = ap borrowed is ∙ locked_number (head_of ws) index;
          takes_before = refl;
          gives_before = refl;
          wrote_before = refl;
          steps = omega arith;
          paid = paid;
        })

    -- where the head counts another index, the exchange ends the release and leaves the set open
    leaves_set : words_after ws (Some (exchange true head)) ≡ set ws 0 (head_given_back (head_of ws) index)
        → counted_in ws ≢ 1 → StepKeeps false (Done (State Unlocked))
    leaves_set new more =
        let count_right = counts_right c ws hs (busy scene) good_before (not_locked works) in
        let same = count_right.0 in
        let some = (some_number works).0 in
        let all = all_in_use scene here in
        let known = paid in
        ends inv started_lock exchanging (State Unlocked) (Some (exchange true head)) false (record {
          good = λ busy' e. good_given (exchange true head) new (omega arith);
          tally = told;
          done = refl;
          right = rw inv.holds.tally (omega arith);
          lock_same = given_open works (exchange true head) new;
          straight = tt;
          steps = omega arith;
          paid = omega arith;
        })

    -- where the head has moved, the release turns back to the store of the next index
    goes_back_to : words_after ws (Some (exchange true head)) ≡ ws → head_of ws ≢ head
        → StepKeeps true (GoOn (locking (releases.StoresNext (head_of ws))))
    goes_back_to = grind arith

    -- the exchange of the head locks the set, ends the release, or leads back to the store
    -- where the head has moved
    lock_exchanges : StepOf scene started_lock exchanging
    lock_exchanges = go (head_of ws == head) refl (borrowed head == 1) refl
      where
        -- the cases are whether the head is the one that was read, and whether it counts one index alone
        go : (b : Bool) → (head_of ws == head) ≡ b → (d : Bool) → (borrowed head == 1) ≡ d → StepOf scene started_lock exchanging
        -- the head is the same and counts this index alone: the exchange locks the set
        go true t true u =
            let same_head : head_of ws ≡ head = grind (arith, nat_tests) in
            let one : borrowed head ≡ 1 = grind (arith, nat_tests) in
            let goes : after {T = T} exchanging (head_of ws) ≡ Done (State Locked) = rw (t, u) refl in
            let back : goes_back exchanging (head_of ws) ≡ false = rw t refl in
            let new : words_after ws (Some (exchange true head)) ≡ set ws 0 (head_locked (head_of ws) index) =
            rw (t, u) (ap (λ h. set ws 0 (head_locked h index)) (sym same_head)) in
            rw (goes, back) (shuts_set new (ap borrowed same_head ∙ one))
        -- the head is the same and counts another index: the release ends, and the set stays open
        go true t false u =
            let same_head : head_of ws ≡ head = grind (arith, nat_tests) in
            let more : borrowed head ≢ 1 = grind (arith, nat_tests) in
            let goes : after {T = T} exchanging (head_of ws) ≡ Done (State Unlocked) = rw (t, u) refl in
            let back : goes_back exchanging (head_of ws) ≡ false = rw t refl in
            let new : words_after ws (Some (exchange true head)) ≡ set ws 0 (head_given_back (head_of ws) index) =
            rw (t, u) (ap (λ h. set ws 0 (head_given_back h index)) (sym same_head)) in
            rw (goes, back) (leaves_set new (λ e. more (ap borrowed (sym same_head) ∙ e)))
        -- the head has moved: the release turns back to the store of the next index
        go false t d u =
            let other : head_of ws ≢ head = grind (arith, nat_tests) in
            let goes : after {T = T} exchanging (head_of ws) ≡ GoOn (locking (releases.StoresNext (head_of ws))) = rw t refl in
            let back : goes_back exchanging (head_of ws) ≡ true = rw t refl in
            let same : words_after ws (Some (exchange true head)) ≡ ws = rw t (set-get_or ws 0 0) in
            rw (goes, back) (goes_back_to same other)

  -- any step of a release that may lock keeps the invariant
  pub lock_step : (stage : ReleaseStage) → IsHere scene (locking stage) → ReleaseAt hs p index stage
      → LockKnows ws since changes backs stage → steps ≤ release_number stage backs
      → StepOf scene started_lock (locking stage)
  lock_step releases.ClearsFlag here at knows few_steps = lock_clears at knows few_steps
  lock_step releases.LoadsHead here at knows few_steps = lock_loads knows few_steps
  lock_step (releases.StoresNext head) here at knows few_steps = lock_stores head knows few_steps
  lock_step (releases.ExchangesHead head) here at knows few_steps = lock_exchanges head here knows few_steps
  lock_step releases.Subtracts here at knows few_steps = absurd knows
