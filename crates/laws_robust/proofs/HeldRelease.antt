-- The steps of a release, in any call of which a release is a part. `Lead` is what the call has to show of
-- a step; `Caller` says what it shows of each form of a step, and the lemmas that each step then shows it.
use Rattle.laws_robust.proofs.Names.{inr, inl, ◌⊎◌, ◌≡◌, ◌≢◌, ℕ, ◌+◌, ◌*◌, ◌<◌, ◌≤◌, ◌==◌, if◌then◌else◌, Bool, true}
use Rattle.laws_robust.proofs.Names.{false, Option, Some, None, is_some, List, [], ◌∷◌, ◌++◌, set, refl, ap, subst}
use Rattle.laws_robust.proofs.Names.{arith, Ok, Err, nat_tests, Ask, After, GoOn, Done, ReleaseMode}
use Rattle.laws_robust.proofs.Names.{LockIfLastIndex, Default, ReleaseState, IndexIsNotOwnedByProvidedOwner, Lock}
use Rattle.laws_robust.proofs.Names.{Raise, ReleaseStage, cell_word, empty, locked, greatest, raise_after}
use Rattle.laws_robust.proofs.Names.{raise_goes_back, lock_after, lock_goes_back, Released, at_release}
use Rattle.laws_robust.proofs.Names.{release_raised, release_locked, release_asks, release_takes, release_goes_back}
use Rattle.laws_robust.proofs.Names.{Event, FreedOf, Locked, is_locked, most_steps, IsFilled}
use Rattle.laws_robust.proofs.Names.{FilledSinceFreed, LivesToRelease, holder_of, Frees, filled_of, settled_of}
use Rattle.laws_robust.proofs.Names.{set_acts_of, IsOneOf, locked_by, release_effects, ask_of, SinceBegin, span_of}
use Rattle.laws_robust.proofs.Names.{old_of, words_after, step_count, held_now}
use Rattle.steps.specs.declared.indices.enums.ReleaseState.TheVariants as states
use Rattle.steps.specs.declared.indices.robust.parts.Count.TheVariants as counts
use Rattle.steps.specs.declared.indices.robust.parts.Lock.TheVariants as parts
use Rattle.steps.specs.declared.indices.robust.parts.Raise.TheVariants as raises
use Rattle.steps.specs.declared.indices.robust.release.Release as calls
use Rattle.steps.specs.declared.indices.robust.release.ReleaseStage.TheVariants as releases
use Rattle.model.specs.declared.families.indices.robust.RobustStart.TheVariants.{Release}
use Rattle.laws_robust.specs.Gone.{is_gone, IsCalm}
use Rattle.laws_robust.proofs.Core.{counter_of, cell}
use Rattle.laws_robust.proofs.Effects.{Stays, one_party, unlocked, is_shut, stays_same, stays_raised, filled_by}
use Rattle.laws_robust.proofs.Frees.{frees}
use Rattle.laws_robust.proofs.Gone.{calm_less}
use Rattle.laws_robust.proofs.Invariant.{IsWorn, Scene, Inv, Good, Does}
use Rattle.laws_robust.proofs.Knows.{Knows, IsPaid, FoundOne}
use Rattle.laws_robust.proofs.CallProgress.{at_least_one, release_at, release_number, raise_number, lock_number, for_back, ReleaseAt, LockAt}
use Rattle.laws_robust.proofs.Parts.{raise_ask, lock_ask, raise_step, lock_moves, IsSaid}
use Rattle.laws_robust.proofs.Rights.{right_of, IsBy}
use Rattle.laws_robust.proofs.Stages.{all, now, sees, then_sees, backs_then}
use Rattle.lemmas_owners.proofs.Operations.{exchanges, fails_same, exchange_sets}
use Rattle.lemmas.proofs.Cases.{on_bool}

-- a release may take one step in either mode
first_few : (c index owner backs n : ℕ) (mode : ReleaseMode) → n ≤ 1 → n ≤ most_steps c (Release index owner mode) backs
first_few = grind arith

-- A release of the index for its owner, by the party of the scene, as a call of the set or as a part of another call.
pub record Releasing (T : Type 0) : Type 0 where
  -- the turn, and what holds of the machine before it
  pub scene : Scene T
  pub inv : Inv scene
  -- the arguments of the release: the owner can be in a cell, and the index is below the capacity
  pub index : ℕ
  pub owner : ℕ
  pub mode : ReleaseMode
  pub fits : owner < empty
  pub below : index < scene.capacity
  -- the owner lives; and where the run is calm with the freeing of the index, he is not gone, and the index was settled for him
  -- when the call began
  pub lives : LivesToRelease owner scene.events (span_of scene.party scene.events)
  pub began : IsCalm scene.by (scene.events ++ FreedOf scene.party index owner ∷ [])
      → (is_gone scene.by owner scene.events ≡ false)
      × SinceBegin scene.party (λ part since. settled_of index part ≡ Some owner) scene.events
  -- the call has taken at most so many steps beside the release
  pub extra : ℕ

module _ {T : Type 0} (releasing : Releasing T) where
  open releasing use {scene, inv, index, owner, mode, fits, below, lives, began, extra}
  open releasing.scene use {by as by, capacity as c, party as p, steps as steps, backs as backs, events as events}

  -- the words of the set before the step
  abbrev ws : List ℕ
  ws = scene.set.words

  good_before : Good by c ws scene.set.dead events scene.turns
  good_before = inv.good

  -- the release at a stage
  abbrev pub call_at : ReleaseStage → calls.Release
  call_at stage = record { capacity = c; stage = stage }

  -- the steps of the call up to this stage of the release are within their bound
  abbrev pub Few : ReleaseStage → Option Ask → Bool → Type 0
  Few stage ask back = steps + step_count ask ≤ extra + release_number c mode stage (backs_then scene back)

  -- the steps of the call up to the end of the release are within their bound
  abbrev pub FewEnd : Option Ask → Bool → Type 0
  FewEnd ask back = steps + step_count ask ≤ extra + most_steps c (Release index owner mode) (backs_then scene back)

  -- what the state says with which the release ends, where the step leaves these words
  abbrev pub Ends : List ℕ → ReleaseMode → ReleaseState → Type 0
  Ends words' Default states.Locked = ⊥
  Ends words' Default states.Unlocked = Unit {0}
  Ends words' LockIfLastIndex states.Locked = is_locked events ≡ true
  Ends words' LockIfLastIndex states.Unlocked = (is_locked events ≡ false) × (IsWorn by words' ⊎ FilledSinceFreed p owner index events)

  -- What the call shows of a step of its release: of one that goes on, of the free, and of each end.
  pub record Caller (Lead : Option Ask → Bool → List (Event T) → After calls.Release Released → Type 0) : Type 0 where
    -- the step writes nothing, and the release goes on
    pub quiet : (next : ReleaseStage) (ask : Option Ask) (back : Bool) → Stays scene (words_after ws ask)
        → ReleaseAt c index owner mode (all scene) next
        → Knows c (release_at c index owner mode next) (sees scene ask back) → Few next ask back
        → Lead ask back [] (GoOn (call_at next))
    -- the step frees the index, and the release goes on to raise the counter
    pub freed : (ask : Option Ask) → words_after ws ask ≡ set ws (cell_word index) empty
        → Does scene (words_after ws ask) (FreedOf p index owner ∷ []) → all scene ≡ []
        → Knows c (release_at c index owner mode (releases.Raises raises.LoadsCounter))
        (then_sees scene ask false (FreedOf p index owner ∷ []))
        → Few (releases.Raises raises.LoadsCounter) ask false
        → Lead ask false (FreedOf p index owner ∷ []) (GoOn (call_at (releases.Raises raises.LoadsCounter)))
    -- the owner does not hold the index, and the release ends
    pub refused : (ask : Option Ask) → words_after ws ask ≡ ws → filled_of index events ≢ Some owner
        → all scene ≡ [] → IsPaid (sees scene ask false) → FewEnd ask false
        → Lead ask false [] (Done (Err IndexIsNotOwnedByProvidedOwner))
    -- the release ends with a state
    pub ended : (state : ReleaseState) (ask : Option Ask) (back : Bool) → Stays scene (words_after ws ask)
        → Ends (words_after ws ask) mode state → all scene ≡ Frees index owner ∷ [] → IsPaid (sees scene ask back)
        → FewEnd ask back → Lead ask back [] (Done (Ok state))
    -- the release locks the set and ends
    pub locks : (ask : Option Ask) → mode ≡ LockIfLastIndex
        → (IsCalm by events → (i : ℕ) → holder_of i events ≡ None) → counter_of ws < greatest
        → words_after ws ask ≡ set ws 0 locked → all scene ≡ Frees index owner ∷ [] → IsPaid (sees scene ask false)
        → FewEnd ask false → Lead ask false (Locked p ∷ []) (Done (Ok states.Locked))

  -- each step of the release is as `Lead` asks
  module _ (Lead : Option Ask → Bool → List (Event T) → After calls.Release Released → Type 0) (caller : Caller Lead) where
    -- ---- the exchange of the cell

    -- the release is at the exchange of its cell
    module _ (none : all scene ≡ []) (few_steps : steps ≤ extra) (knows : Knows c (release_at c index owner mode releases.EmptiesCell) (now scene)) where
      -- the exchange that empties the cell
      abbrev exchange : Option Ask
      exchange = Some (exchanges (cell_word index) owner empty)

      -- where the run is well-formed and honest, the party has the right to the index
      owns_it : IsCalm by (events ++ FreedOf p index owner ∷ []) → IsBy p index owner events
      owns_it = grind (arith, calm_less)

      -- no other party has a right to the index
      mine : IsCalm by (events ++ FreedOf p index owner ∷ []) → (q : ℕ) → q ≢ p → (o : ℕ) → is_gone by o events ≡ false → IsBy q index o events → ⊥
      mine calm q ne o lives by_party = ne (one_party p q (owns_it calm).right by_party.right)

      -- the index is not settled for an owner, as the party has the right to it
      unsettled : IsCalm by (events ++ FreedOf p index owner ∷ []) → (o : ℕ) → is_gone by o events ≡ false → settled_of index events ≡ Some o → ⊥
      unsettled = grind (arith, calm_less, owns_it, right_of)

      -- where the cell has the owner, the release frees the index, and goes on to raise the counter
      empties : cell ws index ≡ owner
          → Lead exchange false (FreedOf p index owner ∷ []) (GoOn (call_at (releases.Raises raises.LoadsCounter)))
      empties cell_is =
          let new : words_after ws exchange ≡ set ws (cell_word index) empty = exchange_sets ws (cell_word index) owner empty cell_is in
          caller.freed exchange new
          (frees scene inv below
          (filled_by scene inv index below owner fits cell_is) lives mine unsettled new)
          none
          (record { paid = let paid = knows.paid in omega arith; scanned = tt; owns = tt; says = tt; gone = tt }) (omega arith)

      -- where the cell does not have the owner, the release ends with `IndexIsNotOwnedByProvidedOwner`
      refuses : cell ws index ≢ owner → Lead exchange false [] (Done (Err IndexIsNotOwnedByProvidedOwner))
      refuses = grind (arith, fails_same, empty, first_few)

      -- the exchange of the cell is as `Lead` asks
      empties_step : Lead exchange false
          (release_effects p (record { index = index; owner = owner; mode = mode }) releases.EmptiesCell (cell ws index))
          (release_takes (call_at releases.EmptiesCell) releases.EmptiesCell
          (record { index = index; owner = owner; mode = mode }) (cell ws index))
      empties_step =
          on_bool (λ b. Lead (Some (exchanges (cell_word index) owner empty)) false
          (if b then FreedOf p index owner ∷ [] else [])
          (if b then GoOn (at_release (call_at releases.EmptiesCell) (releases.Raises raises.LoadsCounter)) else
          Done (Err IndexIsNotOwnedByProvidedOwner)))
          (cell ws index == owner)
          (λ t. let has_owner : cell ws index ≡ owner = grind (arith, nat_tests) in empties has_owner)
          (λ t. let other : cell ws index ≢ owner = grind (arith, nat_tests) in refuses other)

    -- ---- the raise of the counter

    -- the release has freed the index and raises the counter
    module _ (raise : Raise) (done : all scene ≡ Frees index owner ∷ [])
        (few_steps : steps ≤ extra + (1 + raise_number raise + backs * for_back c mode))
        (knows : Knows c (release_at c index owner mode (releases.Raises raise)) (now scene)) where
      -- what `Lead` asks of the release, where `r` is how its raise goes on or ends
      abbrev raises_to : Option Ask → Bool → After Raise ReleaseState → Type 0
      raises_to ask back r = Lead ask back [] (release_raised (call_at (releases.Raises raise)) mode r)

      -- where the raise is done with this state, the release ends in mode Default, and in the other mode
      -- goes on to the lock or ends
      closes : (m : ReleaseMode) → mode ≡ m → (state : ReleaseState) (ask : Option Ask) (back : Bool)
          → Stays scene (words_after ws ask) → IsPaid (sees scene ask back)
          → steps + step_count ask ≤ extra + (3 + backs_then scene back * for_back c m)
          → Lead ask back [] (release_raised (call_at (releases.Raises raise)) m (Done state))
      closes = grind arith

      -- a step of the raise is as `Lead` asks: the raise goes on, or the release goes to its lock or its end
      raises_step : raises_to (Some (raise_ask raise)) (raise_goes_back raise (counter_of ws)) (raise_after raise (counter_of ws))
      raises_step =
          raise_step scene inv raises_to raise (record {
            paid = knows.paid;
            goes = λ number ask back same held few.
                let low = few (extra + 1) (for_back c mode) (at_least_one c mode) (omega arith) in
                caller.quiet (releases.Raises (raises.ExchangesCounter number)) ask back (stays_same scene inv (words_after ws ask) same) done
                (record { paid = held; scanned = tt; owns = tt; says = tt; gone = tt }) (omega arith);
            meets = λ ask back same shut paid few.
                let low = few (extra + 1) (for_back c mode) (at_least_one c mode) (omega arith) in
                closes mode refl states.Locked ask back (stays_same scene inv (words_after ws ask) same) paid (omega arith);
            rests = λ ask back same worn end paid few.
                let low = few (extra + 1) (for_back c mode) (at_least_one c mode) (omega arith) in
                closes mode refl states.Unlocked ask back (stays_same scene inv (words_after ws ask) same) paid (omega arith);
            closes = λ ask less new paid few.
                let low = few (extra + 1) (for_back c mode) (at_least_one c mode) (omega arith) in
                closes mode refl states.Unlocked ask false (stays_raised scene inv (words_after ws ask) less new) paid (omega arith);
          })

    -- ---- the lock

    -- the release, in the mode that may lock, is at its lock
    module _ (lock : Lock) (is : mode ≡ LockIfLastIndex) (at : LockAt c lock)
        (done : all scene ≡ Frees index owner ∷ []) (few_steps : steps ≤ extra + (3 + lock_number c lock + backs * (c + 3)))
        (knows : Knows c (release_at c index owner mode (releases.Locks lock)) (now scene)) where
      -- what `Lead` asks of the release, where `r` is how its lock goes on or ends
      abbrev locks_to : Option Ask → Bool → List (Event T) → After Lock ReleaseState → Type 0
      locks_to ask back did r = Lead ask back did (release_locked (call_at (releases.Locks lock)) r)

      -- an index that the lock finds filled was filled after the release has freed its own
      said : IsSaid scene inv (FoundOne owner index (now scene))
      said =
          record {
            none = λ some. absurd (omega arith);
            empty_next = λ j filled low none found. found;
            filled_next = λ j filled o low is found some.
                record {
                  other = j;
                  once =
                      held_now p (λ part. IsOneOf (Frees index owner) (set_acts_of p part) × IsFilled j part) events
                      (record { before = []; after = []; is = done }, ap is_some is);
                };
          }

      -- a lock that has taken no more steps than it may leaves the release within its bound
      few_end : (ask : Option Ask) (back : Bool) → steps + step_count ask ≤ extra + (c + 6 + backs_then scene back * (c + 3)) → FewEnd ask back
      few_end = grind arith

      -- a step of the lock is as `Lead` asks
      locks_step : locks_to (Some (lock_ask lock)) (lock_goes_back lock (old_of ws (Some (lock_ask lock))))
          (locked_by p lock (old_of ws (Some (lock_ask lock)))) (lock_after c lock (old_of ws (Some (lock_ask lock))))
      locks_step =
          lock_moves scene inv (FoundOne owner index (now scene)) said locks_to lock (record {
            at = at;
            paid = knows.paid;
            scanned = knows.scanned;
            says = knows.says;
            goes = λ next ask back stays next_at paid scanned says few.
                let low = few (extra + 3) (c + 3) (omega arith) (omega arith) in
                caller.quiet (releases.Locks next) ask back stays (is, next_at, done)
                (record { paid = paid; scanned = scanned; owns = tt; says = says; gone = tt })
                (rw is (omega arith));
            meets = λ ask same shut paid few.
                let low = few (extra + 3) (c + 3) (omega arith) (omega arith) in
                caller.ended states.Locked ask false (stays_same scene inv (words_after ws ask) same)
                (rw is (is_shut scene inv shut))
                done paid (few_end ask false (omega arith));
            finds = λ filled ask stays open_now more says paid few.
                let low = few (extra + 3) (c + 3) (omega arith) (omega arith) in
                caller.ended states.Unlocked ask false stays
                (rw is (unlocked scene inv open_now, inr (says more)))
                done paid (few_end ask false (omega arith));
            rests = λ ask stays open_now worn paid few.
                let low = few (extra + 3) (c + 3) (omega arith) (omega arith) in
                caller.ended states.Unlocked ask false stays
                (rw is (unlocked scene inv open_now, inl worn))
                done paid (few_end ask false (omega arith));
            shuts = λ ask none less new paid few.
                let low = few (extra + 3) (c + 3) (omega arith) (omega arith) in
                caller.locks ask is none less new done paid (few_end ask false (omega arith));
          })

    -- ---- any step

    -- the step of a release at this stage is as `Lead` asks
    abbrev pub StepAt : ReleaseStage → Type 0
    StepAt stage =
        Lead (ask_of (release_asks stage (record { index = index; owner = owner; mode = mode })))
        (release_goes_back stage (old_of ws (ask_of (release_asks stage (record { index = index; owner = owner; mode = mode })))))
        (release_effects p (record { index = index; owner = owner; mode = mode }) stage
        (old_of ws (ask_of (release_asks stage (record { index = index; owner = owner; mode = mode })))))
        (release_takes (call_at stage) stage (record { index = index; owner = owner; mode = mode })
        (old_of ws (ask_of (release_asks stage (record { index = index; owner = owner; mode = mode })))))

    -- any step of a release is as `Lead` asks, where the release stands at its stage and
    -- knows what the stage says
    pub held_step : (stage : ReleaseStage) → ReleaseAt c index owner mode (all scene) stage
        → Knows c (release_at c index owner mode stage) (now scene) → steps ≤ extra + release_number c mode stage backs
        → StepAt stage
    held_step releases.EmptiesCell at knows few_steps = empties_step at (omega arith) knows
    held_step (releases.Raises raises.LoadsCounter) at knows few_steps = raises_step raises.LoadsCounter at (omega arith) knows
    held_step (releases.Raises (raises.ExchangesCounter number)) at knows few_steps =
        raises_step (raises.ExchangesCounter number) at (omega arith) knows
    held_step (releases.Locks lock) at knows steps_bounded =
        go lock at.0 at.1 at.2 (subst (λ m. steps ≤ extra + release_number c m (releases.Locks lock) backs) at.0 steps_bounded) knows
      where
        -- the lock of a release that is under way is as `Lead` asks
        go : (l : Lock) → mode ≡ LockIfLastIndex → LockAt c l → all scene ≡ Frees index owner ∷ []
            → steps ≤ extra + (3 + lock_number c l + backs * (c + 3))
            → Knows c (release_at c index owner mode (releases.Locks l)) (now scene)
            → StepAt (releases.Locks l)
        go (parts.Counts counts.LoadsCounter) may_lock at done few_steps knows =
            locks_step (parts.Counts counts.LoadsCounter) may_lock at done few_steps knows
        go (parts.Counts (counts.LoadsCell number j filled)) may_lock at done few_steps knows =
            locks_step (parts.Counts (counts.LoadsCell number j filled)) may_lock at done few_steps knows
        go (parts.Counts (counts.ExchangesCounter number filled)) may_lock at done few_steps knows =
            locks_step (parts.Counts (counts.ExchangesCounter number filled)) may_lock at done few_steps knows
        go (parts.ExchangesCounter number) may_lock at done few_steps knows = locks_step (parts.ExchangesCounter number) may_lock at done few_steps knows
