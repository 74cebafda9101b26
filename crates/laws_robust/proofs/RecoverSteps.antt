-- The steps of a recovery of the robust set from the decision about an owner on: it empties the cell, raises the counter and may lock; and then
-- any step. Each keeps the invariant, in the form that the frame asks of a turn (`Shows`, Invariant).
use Rattle.laws_robust.proofs.Names.{◌≡◌, ◌≢◌, ℕ, ◌+◌, ◌*◌, ◌≤◌, ◌==◌, ⊎_elim, inl, if◌then◌else◌, Bool, true, false}
use Rattle.laws_robust.proofs.Names.{Option, Some, None, List, [], ◌∷◌, ◌++◌, refl, sym, ap, subst, ◌∙◌, arith}
use Rattle.laws_robust.proofs.Names.{cases_lt, nat_tests, fold-append, Ask, After, GoOn, Done, ReleaseMode}
use Rattle.laws_robust.proofs.Names.{LockIfLastIndex, Default, ReleaseState, Raise, RecoverStage, cell_word, empty}
use Rattle.laws_robust.proofs.Names.{locked, raise_after, raise_goes_back, at_recover, recover_comes_to}
use Rattle.laws_robust.proofs.Names.{recover_raised, went_on, State, Event, FreedOf, Told, cell_of, StillToFree}
use Rattle.laws_robust.proofs.Names.{LivesToRelease, SetAct, Frees, Asks, Yes, filled_of, set_acts_of, IsOneOf}
use Rattle.laws_robust.proofs.Names.{HasJustFreed, as_it_is, as_call, words_after, step_count, ◌<◌, set, Lock}
use Rattle.laws_robust.proofs.Names.{greatest, lock_after, lock_goes_back, recover_locked, Locked, Robust, promise}
use Rattle.laws_robust.proofs.Names.{Locks, holder_of, locked_by, Stands, Open, old_of, AllFollow}
use Rattle.steps.specs.declared.indices.enums.ReleaseState.TheVariants as states
use Rattle.steps.specs.declared.indices.robust.parts.Raise.TheVariants as raises
use Rattle.steps.specs.declared.indices.robust.recover.Recover as calls
use Rattle.steps.specs.declared.indices.robust.recover.RecoverStage.TheVariants as recovers
use Rattle.model.specs.declared.families.indices.robust.RobustStart.TheVariants.{Recover}
use Rattle.model.specs.declared.families.indices.robust.calls.RobustFlight.TheVariants as flights
use Rattle.laws_robust.specs.Gone.{is_gone, MayBeTold, HasRecoveredBy, IsCalm}
use Rattle.laws_robust.proofs.Core.{counter_of, cell}
use Rattle.lemmas_owners.proofs.Counting.{times_below}
use Rattle.laws_robust.proofs.SetActs.{FreedWereAsked}
use Rattle.laws_robust.proofs.Effects.{Stays, quiet_told, quietly, unlocked}
use Rattle.lemmas_owners.proofs.Choices.{at_same, some_none, one_owner, both_ways}
use Rattle.laws_robust.proofs.Effects.{is_shut, stays_same, stays_raised, filled_by, quiet_none}
use Rattle.laws_robust.proofs.Frees.{frees}
use Rattle.laws_robust.proofs.Gone.{gone_told, calm_less}
use Rattle.laws_robust.proofs.Invariant.{Scene, Inv, Does, wrote_of}
use Rattle.laws_robust.proofs.Knows.{Knows, IsPaid, GoneBut}
use Rattle.laws_robust.proofs.CallProgress.{at_least_one, at_least_four, recover_at, raise_number, for_back}
use Rattle.laws_robust.proofs.CallProgress.{for_index, RecoverAt, IsInCourse, recover_number, lock_number, LockAt}
use Rattle.laws_robust.proofs.Parts.{raise_ask, raise_step, none_beyond, lock_ask, lock_moves, IsSaid}
use Rattle.lemmas_owners.proofs.Past.{through_now}
use Rattle.laws_robust.proofs.Stages.{IsHere, now, sees, backs_then}
use Rattle.lemmas_owners.proofs.Operations.{loads, exchanges, loads_same, fails_same}
use Rattle.lemmas_owners.proofs.Operations.{exchange_sets}
use Rattle.laws_robust.proofs.Stages.{StepOf, AnswerOf, Leads, goes_on, goes_quietly, all}
use Rattle.laws_robust.proofs.Recovers.{DoesOneMore, asked_then, comes_quietly, ends_so, good_before, gone_then}
use Rattle.laws_robust.proofs.Recovers.{open_then, nothing_said, comes_loudly, loads_counter, loads_cell, course_more}
use Rattle.laws_robust.proofs.Recovers.{does_one_more}
use Rattle.lemmas.proofs.Cases.{on_bool}
use Rattle.steps.specs.declared.indices.robust.parts.Count.TheVariants as counts
use Rattle.steps.specs.declared.indices.robust.parts.Lock.TheVariants as parts
use Rattle.laws_robust.proofs.Locks.{locks}
use Rattle.lemmas_owners.proofs.Lists.{still_one, by_latest}

-- The party `p` recovers in this mode. `c` is the capacity, `ws` the words before the step, `done` what the
-- recovery has done to the set.
module _ {T : Type 0} (scene : Scene T) (inv : Inv scene) (mode : ReleaseMode) (here : IsHere scene (Recover mode)) where
  open scene use {by as by, capacity as c, party as p, steps as steps, backs as backs, events as events}

  -- the words of the set before the step
  abbrev ws : List ℕ
  ws = scene.set.words

  -- the acts of the recovery so far
  abbrev done : List SetAct
  done = set_acts_of p events

  -- the recovery at a stage
  abbrev call_at : RecoverStage → calls.Recover
  call_at stage = record { capacity = c; stage = stage }

  -- a step that wrote `did`, after which the recovery is as `a` says, keeps the invariant (`Shows`)
  abbrev Lead : Option Ask → Bool → List (Event T) → After calls.Recover ReleaseState → Type 0
  Lead ask back did a =
      Leads scene (Recover mode) ask back did (as_call flights.Recover State (went_on as_it_is mode tt a))

  -- the steps of the recovery up to this index are within their bound
  abbrev Few : Option Ask → Bool → ℕ → ℕ → Type 0
  Few ask back n index = steps + step_count ask ≤ n + index * for_index c mode + backs_then scene back * for_back c mode

  -- ---- a decision

  -- the recovery has asked about the index and its owner, and waits for the decision
  module _ (index owner : ℕ) (at : RecoverAt c mode done (recovers.Asks index owner))
      (knows : Knows c (recover_at c mode (recovers.Asks index owner)) (now scene))
      (few_steps : steps ≤ 2 + index * for_index c mode + backs * for_back c mode) where
    -- a no leads the recovery to the next index
    says_no : Lead None false [] (recover_comes_to (call_at (recovers.Asks index owner)) (index + 1))
    says_no =
        let four = at_least_four c mode in
        let paid = knows.paid in
        comes_quietly scene inv mode here (recovers.Asks index owner) None false (record {
          few = omega arith;
          stays = stays_same scene inv ws refl;
          paid = omega arith;
          course = at.0;
          open_once = knows.says.0;
          says = knows.says.1;
          gone = knows.gone;
        })

    module _ (may : MayBeTold by owner events) where
      -- the event of a yes about the index and its owner
      abbrev telling : List (Event T)
      telling = Told p index owner ∷ []

      -- the step that gets a yes changes no word, and does what a turn may do
      tells_does : Does scene ws telling
      tells_does = quietly scene inv ws telling (stays_same scene inv ws refl).leaves (quiet_told) (refl, tt) (tt, tt) (tt, tt)

      -- the yes is one more act of the recovery
      tells_one : DoesOneMore scene (Yes index owner) telling ws
      tells_one = does_one_more scene inv mode here tt (λ start w. refl) refl tells_does

      -- the yes to this index is about this index and owner, and the owner is gone
      frees_this : (i o : ℕ) → Yes index owner ≡ Yes i o → (is_gone by o (events ++ telling) ≡ true) × ((i ≡ index) × (o ≡ owner))
      frees_this = grind (arith, gone_told)

      -- a yes leads the recovery on to empty the cell
      says_yes : Lead None false telling (GoOn (at_recover (call_at (recovers.Asks index owner)) (recovers.EmptiesCell index owner)))
      says_yes =
          let paid = knows.paid in
          goes_on scene None false telling here (record {
            longer = λ start w. refl;
            does = tells_does;
            follows = (at.2, tt);
            asks = (may, tt);
            few = omega arith;
            stands = (
              refl,
              refl,
              (
                course_more (Yes index owner) at.0 tt (λ i o e. absurd (cc)),
                at.1,
                record { before = done; is = refl },
                still_one (Asks index owner) done (Yes index owner ∷ []) (by_latest (Asks index owner) done at.2),
              ),
            );
            known = record {
              paid = omega arith;
              scanned = tt;
              owns = tt;
              says = (open_then tells_one knows.says.0, asked_then tells_one (index + 1) knows.says.1);
              gone =
                  gone_then tells_one (λ i o. ⊥) (λ i o. (i ≡ index) × (o ≡ owner)) knows.gone (λ i o never. absurd never) frees_this;
            };
          })

    -- any answer to a recovery's question that may be told keeps the invariant (`Shows`)
    pub recover_decided : (answer : ℕ) → (answer ≢ 0 → MayBeTold by owner events)
        → AnswerOf scene (Recover mode) (recover_at c mode (recovers.Asks index owner)) None answer
    recover_decided answer may =
        on_bool (λ b. Lead None false (if b then [] else Told p index owner ∷ [])
        (if b then recover_comes_to (call_at (recovers.Asks index owner)) (index + 1) else GoOn
        (at_recover (call_at (recovers.Asks index owner)) (recovers.EmptiesCell index owner))))
        (answer == 0)
        (λ t. says_no)
        (λ t. let other : answer ≢ 0 = grind (arith, nat_tests) in says_yes (may other))

  -- ---- the exchange of a cell

  -- the recovery was told to free the index, and is at the exchange of its cell
  module _ (index owner : ℕ) (at : RecoverAt c mode done (recovers.EmptiesCell index owner))
      (few_steps : steps ≤ 2 + index * for_index c mode + backs * for_back c mode)
      (knows : Knows c (recover_at c mode (recovers.EmptiesCell index owner)) (now scene)) where
    -- the exchange that empties the cell
    abbrev exchange : Option Ask
    exchange = Some (exchanges (cell_word index) owner empty)

    -- the event of the free
    abbrev freeing : List (Event T)
    freeing = FreedOf p index owner ∷ []

    -- the owner of the index is gone, as the recovery has been told
    owner_gone : is_gone by owner events ≡ true
    owner_gone = (knows.gone index owner (by_latest (Yes index owner) done at.2)).0

    -- where the cell has another owner by now, or none, no index that the recovery was told to free has its
    -- owner any more
    gone_already : cell ws index ≢ owner → GoneBut (λ i o. ⊥) (now scene)
    gone_already other i o told =
        let h = knows.gone i o told in (
          h.0,
          λ honest. ⊎_elim (λ gone. inl gone)
              (λ exempt. inl (λ e. other
              ((good_before scene inv mode here).cells index at.0.within ∙ ap cell_of (sym (ap (λ j. filled_of j events) exempt.0) ∙ (e ∙ ap Some exempt.1)))))
              (h.1 honest),
        )

    -- where the cell has another owner, or none, the recovery goes to the next index
    misses : cell ws index ≢ owner → Lead exchange false [] (recover_comes_to (call_at (recovers.EmptiesCell index owner)) (index + 1))
    misses other =
        let four = at_least_four c mode in
        let paid = knows.paid in
        comes_quietly scene inv mode here (recovers.EmptiesCell index owner) exchange false (record {
          few = omega arith;
          stays = stays_same scene inv _ (fails_same ws (cell_word index) owner empty other);
          paid = omega arith;
          course = at.0;
          open_once = knows.says.0;
          says = knows.says.1;
          gone = gone_already other;
        })

    module _ (is : cell ws index ≡ owner) where
      -- by the events the index is filled with the owner
      has_owner : filled_of index events ≡ Some owner
      has_owner = filled_by scene inv index at.0.within owner at.1 is

      -- the exchange that finds the owner in the cell does what a turn may do: it frees the index
      frees_does : Does scene (words_after ws exchange) freeing
      frees_does =
          frees scene inv at.0.within has_owner (subst (LivesToRelease owner events) (sym here) tt)
          (λ calm q ne o stays h. let same : owner ≡ o = one_owner (filled_of index events) owner o has_owner h.filled in
          both_ways (is_gone by o events) stays (rw (← same) owner_gone))
          (λ calm o stays h.
          let theirs = (((good_before scene inv mode here).owned (calm_less by events freeing calm)).settled index o h).0 in
          let same : owner ≡ o = one_owner (filled_of index events) owner o has_owner theirs in
          both_ways (is_gone by o events) stays (rw (← same) owner_gone))
          (exchange_sets ws (cell_word index) owner empty is)

      -- the free is one more act of the recovery
      frees_one : DoesOneMore scene (Frees index owner) freeing (words_after ws exchange)
      frees_one = does_one_more scene inv mode here tt (λ start w. refl) refl frees_does

      -- after the free the index is not filled with the owner
      freed_here : (i o : ℕ) → (i ≡ index) × (o ≡ owner) → filled_of i (events ++ freeing) ≢ Some o
      freed_here = grind (arith, some_none, fold-append, at_same)

      -- the recovery has asked about the index that it frees
      asked_about : (i o : ℕ) → Frees index owner ≡ Frees i o → IsOneOf (Asks i o) done
      asked_about i o e = grind arith

      -- where the cell has the owner, the recovery frees the index, and goes on to raise the counter
      empties : Lead exchange false freeing
          (GoOn (at_recover (call_at (recovers.EmptiesCell index owner))
          (recovers.Raises index raises.LoadsCounter)))
      empties =
          let paid = knows.paid in
          goes_on scene exchange false freeing here (record {
            longer = λ start w. refl;
            does = frees_does;
            follows = (at.2, tt);
            asks = (tt, tt);
            few = omega arith;
            stands = (
              refl,
              refl,
              (
                course_more (Frees index owner) at.0 tt asked_about,
                record { index = index; owner = owner; latest = record { before = done; is = refl } },
              ),
            );
            known = record {
              paid = omega arith;
              scanned = tt;
              owns = tt;
              says = (open_then frees_one knows.says.0, asked_then frees_one (index + 1) knows.says.1);
              gone =
                  gone_then frees_one (λ i o. (i ≡ index) × (o ≡ owner)) (λ i o. ⊥) knows.gone (λ i o exempt. inl (freed_here i o exempt))
                  (λ i o e. absurd (cc));
            };
          })

    -- the exchange of the cell keeps the invariant (`Shows`), whether it finds the owner or not
    pub empties_cell : StepOf scene (Recover mode) (recover_at c mode (recovers.EmptiesCell index owner))
    empties_cell =
        on_bool (λ b. Lead (Some (exchanges (cell_word index) owner empty)) false
        (if b then FreedOf p index owner ∷ [] else [])
        (if b then GoOn (at_recover (call_at (recovers.EmptiesCell index owner)) (recovers.Raises index raises.LoadsCounter))
        else recover_comes_to (call_at (recovers.EmptiesCell index owner)) (index + 1)))
        (cell ws index == owner)
        (λ t. let same : cell ws index ≡ owner = grind (arith, nat_tests) in empties same)
        (λ t. let other : cell ws index ≢ owner = grind (arith, nat_tests) in misses other)

  -- ---- the second look at the counter

  -- the second look at the counter ends the recovery
  pub loads_again : FreedWereAsked done → steps ≤ 1 + c * for_index c mode + backs * for_back c mode
      → Knows c (recover_at c mode recovers.LoadsCounterAgain) (now scene)
      → StepOf scene (Recover mode) (recover_at c mode recovers.LoadsCounterAgain)
  loads_again freed few_steps knows =
      on_bool (λ b. Lead (Some (loads 0)) false [] (Done (if b then states.Locked else states.Unlocked))) (counter_of ws == locked)
      (λ t.
      let shut : counter_of ws ≡ locked = grind (arith, nat_tests) in
      let paid = knows.paid in
      (ends_so scene inv mode here) states.Locked (Some (loads 0)) false (stays_same scene inv _ (loads_same ws 0))
      (is_shut scene inv shut) (omega arith) (omega arith))
      (λ t.
      let other : counter_of ws ≢ locked = grind (arith, nat_tests) in
      let paid = knows.paid in
      (ends_so scene inv mode here) states.Unlocked (Some (loads 0)) false (stays_same scene inv _ (loads_same ws 0))
      (unlocked scene inv other, recovered) (omega arith) (omega arith))
    where
      -- a recovery that has come past all indices has freed what it was told to free, and has asked about
      -- all that was to be freed throughout
      recovered : HasRecoveredBy by p events
      recovered =
          record {
            gone = λ honest i owner told. ⊎_elim (λ gone. gone) (λ never. absurd never) ((knows.gone i owner told).1 honest);
            asked = λ i owner through.
                ⊎_elim (λ below. knows.says i owner below through)
                (λ beyond. ⊎_elim (λ filled. some_none (filled_of i events) owner (none_beyond scene inv i beyond) filled)
                (λ was_freed. freed i owner was_freed) (through_now p (StillToFree p owner i) events through))
                (cases_lt i c);
          }

  -- ---- the raise of the counter

  -- the recovery has freed the index and raises the counter
  module _ {index : ℕ} (raise : Raise) (course : IsInCourse c index (index + 1) done) (just : HasJustFreed done)
      (few_steps : steps ≤ 3 + raise_number raise + index * for_index c mode + backs * for_back c mode)
      (knows : Knows c (recover_at c mode (recovers.Raises index raise)) (now scene)) where
    -- what `Lead` asks of the recovery, where `r` is how its raise goes on or ends
    abbrev raises_to : Option Ask → Bool → After Raise ReleaseState → Type 0
    raises_to ask back r = Lead ask back [] (recover_raised (call_at (recovers.Raises index raise)) index mode r)

    -- in the mode that may lock the recovery goes on to the lock, in mode Default to the next index
    goes_by_mode : (m : ReleaseMode) → mode ≡ m → (ask : Option Ask) (back : Bool)
        → Stays scene (words_after ws ask) → IsPaid (sees scene ask back) → Few ask back 5 index
        → Lead ask back [] (recover_raised (call_at (recovers.Raises index raise)) index m (Done states.Unlocked))
    goes_by_mode Default mode_is ask back stays paid few =
        let four = at_least_four c mode in
        comes_quietly scene inv mode here (recovers.Raises index raise) ask back (record {
          few = omega arith;
          stays = stays;
          paid = paid;
          course = course;
          open_once = knows.says.0;
          says = knows.says.1;
          gone = knows.gone;
        })
    goes_by_mode LockIfLastIndex mode_is ask back stays paid few =
        goes_quietly scene inv ask
        back here stays few (refl, refl, (course, just, mode_is, tt))
        (record { paid = paid; scanned = tt; owns = tt; says = knows.says; gone = knows.gone })

    -- a step of the raise keeps the invariant (`Shows`): it leads to the lock, or to the next index
    pub raises_step : raises_to (Some (raise_ask raise)) (raise_goes_back raise (counter_of ws)) (raise_after raise (counter_of ws))
    raises_step =
        let one = at_least_one c mode in
        raise_step scene inv raises_to raise (record {
          paid = knows.paid;
          goes = λ number ask back same held few.
              let low = few (3 + index * for_index c mode) (for_back c mode) one (omega arith) in
              goes_quietly scene inv ask
              back here (stays_same scene inv (words_after ws ask) same)
              (omega arith) (refl, refl, (course, just))
              (record { paid = held; scanned = tt; owns = tt; says = knows.says; gone = knows.gone });
          meets = λ ask back same shut paid few.
              let low = few (3 + index * for_index c mode) (for_back c mode) one (omega arith) in
              let four = at_least_four c mode in
              let times = times_below c index (for_index c mode) course.within in
              (ends_so scene inv mode here) states.Locked ask back
              (stays_same scene inv (words_after ws ask) same) (is_shut scene inv shut) (omega arith) paid;
          rests = λ ask back same worn end paid few.
              let low = few (3 + index * for_index c mode) (for_back c mode) one (omega arith) in
              goes_by_mode mode refl ask back (stays_same scene inv (words_after ws ask) same) paid (omega arith);
          closes = λ ask less new paid few.
              let low = few (3 + index * for_index c mode) (for_back c mode) one (omega arith) in
              goes_by_mode mode refl ask false (stays_raised scene inv (words_after ws ask) less new) paid (omega arith);
        })

  -- ---- the lock

  -- the recovery, in the mode that may lock, has freed the index and is at its lock
  module _ {index : ℕ} (lock : Lock) (course : IsInCourse c index (index + 1) done) (just : HasJustFreed done)
      (may_lock : mode ≡ LockIfLastIndex) (at : LockAt c lock)
      (few_steps : steps ≤ 5 + lock_number c lock + index * for_index c mode + backs * for_back c mode)
      (knows : Knows c (recover_at c mode (recovers.Locks index lock)) (now scene)) where
    -- what `Lead` asks of the recovery, where `r` is how its lock goes on or ends
    abbrev locks_to : Option Ask → Bool → List (Event T) → After Lock ReleaseState → Type 0
    locks_to ask back did r = Lead ask back did (recover_locked (call_at (recovers.Locks index lock)) index r)

    -- a recovery that may lock takes at most `c + 3` steps for each turn back
    for_a_back : for_back c mode ≡ c + 3
    for_a_back = ap (for_back c) may_lock

    -- a recovery that may lock takes at most `c + 7` steps for each index
    for_an_index : for_index c mode ≡ c + 7
    for_an_index = ap (for_index c) may_lock

    -- nothing is said of the lock's count
    said : IsSaid scene inv (λ j filled. Unit {0})
    said = grind arith

    -- the event of the lock
    abbrev locking : List (Event T)
    locking = Locked p ∷ []

    -- nobody holds an index, and the step sets the counter to locked
    module _ (ask : Option Ask) (none : IsCalm scene.by events → (i : ℕ) → holder_of i events ≡ None)
        (less : counter_of ws < greatest) (new : words_after ws ask ≡ set ws 0 locked)
        (paid : IsPaid (sees scene ask false))
        (few : Few ask false 1 (index + 1)) where
      -- the exchange that locks is a step of the set with this event
      locks_does : Does scene (words_after ws ask) locking
      locks_does = locks scene inv quiet_none tt tt tt none less new

      -- the lock is one more act of the recovery
      locks_one : DoesOneMore scene Locks locking (words_after ws ask)
      locks_one = does_one_more scene inv mode here tt (λ start w. refl) refl locks_does

      -- the `Locked` that the step writes may follow in the span of the recovery
      stands_there : AllFollow (Stands promise c) (Open (Robust (Recover mode)) (wrote_of p events)) locking
      stands_there = grind (arith, promise)

      -- the recovery that locks the set goes on to the next index, or to the second look at the counter
      locks_set : Lead ask false locking (recover_comes_to (call_at (recovers.Locks index lock)) (index + 1))
      locks_set =
          comes_loudly scene inv mode here (recovers.Locks index lock) ask false locking (record {
            few = few;
            longer = λ start w. refl;
            does = locks_does;
            follows = stands_there;
            asks = (tt, tt);
            paid = paid;
            course = course_more Locks course tt (λ i o e. absurd (cc));
            open_once = open_then locks_one knows.says.0;
            says = asked_then locks_one (index + 1) knows.says.1;
            gone = gone_then locks_one (λ i o. ⊥) (λ i o. ⊥) knows.gone (λ i o never. absurd never) (λ i o e. absurd (cc));
          })

    -- a step of the lock that writes nothing, and with which the lock ends, brings the recovery past the index
    passes : (ask : Option Ask) → Stays scene (words_after ws ask) → IsPaid (sees scene ask false) → Few ask false 1 (index + 1)
        → Lead ask false [] (recover_comes_to (call_at (recovers.Locks index lock)) (index + 1))
    passes ask stays paid few =
        comes_quietly scene inv mode here (recovers.Locks index lock) ask false (record {
          few = few;
          stays = stays;
          paid = paid;
          course = course;
          open_once = knows.says.0;
          says = knows.says.1;
          gone = knows.gone;
        })

    -- the step of the lock keeps the invariant (`Shows`)
    locks_step : locks_to (Some (lock_ask lock)) (lock_goes_back lock (old_of ws (Some (lock_ask lock))))
        (locked_by p lock (old_of ws (Some (lock_ask lock)))) (lock_after c lock (old_of ws (Some (lock_ask lock))))
    locks_step =
        let wide = for_a_back in
        let each = for_an_index in
        lock_moves scene inv (λ j filled. Unit {0}) said locks_to lock (record {
          at = at;
          paid = knows.paid;
          scanned = knows.scanned;
          says = nothing_said c lock;
          goes = λ next ask back stays next_at paid scanned says few.
              let low = few (5 + index * for_index c mode) (for_back c mode) (omega arith) (omega arith) in
              goes_quietly scene inv ask back
              here stays (omega arith) (refl, refl, (course, just, may_lock, next_at))
              (record { paid = paid; scanned = scanned; owns = tt; says = knows.says; gone = knows.gone });
          meets = λ ask same shut paid few.
              let low = few (5 + index * for_index c mode) (for_back c mode) (omega arith) (omega arith) in
              passes ask (stays_same scene inv (words_after ws ask) same) paid (omega arith);
          finds = λ filled ask stays open_now more says paid few.
              let low = few (5 + index * for_index c mode) (for_back c mode) (omega arith) (omega arith) in
              passes ask stays paid (omega arith);
          rests = λ ask stays open_now worn paid few.
              let low = few (5 + index * for_index c mode) (for_back c mode) (omega arith) (omega arith) in
              passes ask stays paid (omega arith);
          shuts = λ ask none less new paid few.
              let low = few (5 + index * for_index c mode) (for_back c mode) (omega arith) (omega arith) in
              locks_set ask none less new paid (omega arith);
        })

  -- ---- any step

  -- any step of a recovery keeps the invariant (`Shows`), where the recovery stands at its stage and knows
  -- what the stage says
  pub recover_step : (stage : RecoverStage) → RecoverAt c mode (all scene) stage
      → Knows c (recover_at c mode stage) (now scene) → steps ≤ recover_number c mode stage backs
      → StepOf scene (Recover mode) (recover_at c mode stage)
  recover_step recovers.LoadsCounter at knows few_steps = loads_counter scene inv mode here at few_steps knows
  recover_step (recovers.LoadsCell index) at knows few_steps = loads_cell scene inv mode here at few_steps knows
  recover_step (recovers.Asks index owner) at knows few_steps = recover_decided index owner at knows few_steps 0 (λ other. absurd (other refl))
  recover_step (recovers.EmptiesCell index owner) at knows few_steps = empties_cell index owner at few_steps knows
  recover_step (recovers.Raises index raises.LoadsCounter) at knows few_steps =
      raises_step raises.LoadsCounter at.0 at.1 few_steps knows
  recover_step (recovers.Raises index (raises.ExchangesCounter number)) at knows few_steps =
      raises_step (raises.ExchangesCounter number) at.0 at.1 few_steps knows
  recover_step (recovers.Locks index (parts.Counts counts.LoadsCounter)) at knows few_steps =
      locks_step (parts.Counts counts.LoadsCounter) at.0 at.1 at.2 at.3 few_steps knows
  recover_step (recovers.Locks index (parts.Counts (counts.LoadsCell number i filled))) at knows few_steps = locks_step
      (parts.Counts (counts.LoadsCell number i filled)) at.0 at.1 at.2 at.3 few_steps knows
  recover_step (recovers.Locks index (parts.Counts (counts.ExchangesCounter number filled))) at knows few_steps = locks_step
      (parts.Counts (counts.ExchangesCounter number filled)) at.0 at.1 at.2 at.3 few_steps knows
  recover_step (recovers.Locks index (parts.ExchangesCounter number)) at knows few_steps =
      locks_step (parts.ExchangesCounter number) at.0 at.1 at.2 at.3 few_steps knows
  recover_step recovers.LoadsCounterAgain at knows few_steps = loads_again at few_steps knows
