-- The end of a recovery: it loads the counter again, behind the last index, and counts its change. At last,
-- any step of a recovery, and any decision that one waits for. What a step has to show is said by `StepOf`
-- and `Leads` of `Stages`.
use Rattle.laws_container.proofs.Names.{◌≡◌, ◌≢◌, ⊎_elim, ℕ, ◌+◌, ◌*◌, ◌≤◌, ◌==◌, if◌then◌else◌, false}
use Rattle.laws_container.proofs.Names.{true, Option, Some, None, List, [], ◌∷◌, refl, sym, subst, append-nil, arith}
use Rattle.laws_container.proofs.Names.{cases_lt, nat_tests, Ask, RecoverStage, ReleaseState}
use Rattle.laws_container.proofs.Names.{change_word, recover_ends, locked, greatest, Event, Finished}
use Rattle.laws_container.proofs.Names.{Container, UnlockedAtLast, is_locked, IsUnlocked, StillToFree, filled_of}
use Rattle.laws_container.proofs.Names.{set_acts_of, words_after, held_now, is_gone, counter_of, some_none, is_shut}
use Rattle.laws_container.proofs.Names.{unlocked, quiet_end, IsWorn, worn_on, none_beyond, through_now, loads_same}
use Rattle.steps.specs.declared.ask.After.TheVariants.{Done}
use Rattle.steps.specs.declared.container.recover.RecoverStage.TheVariants as recovers
use Rattle.steps.specs.declared.copied.Buffer as buffers
use Rattle.steps.specs.declared.indices.enums.ReleaseState.TheVariants as states
use Rattle.steps.specs.declared.indices.robust.parts.Count.TheVariants as counts
use Rattle.steps.specs.declared.indices.robust.parts.Lock.TheVariants as parts
use Rattle.steps.specs.declared.indices.robust.parts.Raise.TheVariants as raises
use Rattle.model.specs.declared.event.Answer.TheVariants as answers
use Rattle.model.specs.declared.families.container.ContainerStart.TheVariants.{Recover}
use Rattle.lemmas_owners.proofs.Operations as operations
use Rattle.laws_container.specs.Gone.{HasRecoveredBy, FilledSinceEachBy, AnswersBy}
use Rattle.laws_container.proofs.Answers.{each_on}
use Rattle.laws_container.proofs.HiddenKnows.{HasHidden}
use Rattle.laws_container.proofs.Invariant.{after, of_set, inv_of_set}
use Rattle.model.proofs.Locks.{locked_later}
use Rattle.laws_container.proofs.KeptLocks.{NoIndex, FilledBut, filled_each}
use Rattle.laws_container.proofs.Knows.{RecoverSays, RecoverKnows, IsLong, Knows}
use Rattle.laws_container.proofs.RecoverParts.{Recovery, IsAtStage, as_given, none, hidden_still, first, then_at}
use Rattle.laws_container.proofs.RecoverEnds.{empties_step, hides_step}
use Rattle.laws_container.proofs.RecoverReads.{LeadsOn, LeavesWords, calm_on}
use Rattle.laws_container.proofs.RecoverReads.{counter_step, cell_step, count_step}
use Rattle.laws_container.proofs.RecoverWords.{word_step}
use Rattle.laws_container.proofs.RecoverWords.{check_step, decided}
use Rattle.laws_container.proofs.Sets.{leaves_behind}
use Rattle.laws_container.proofs.Stages.{IsUnderWay, all, done, sees_now, StepOf, AnswerOf, none_lengthens, party_then}
use Rattle.laws_container.proofs.Stages.{backs_then, ends, was_well_formed}
use Rattle.laws_container.proofs.CallProgress.{recover_at, recover_number, for_back, for_index, RecoverAt}
use Rattle.laws_container.proofs.Steps.{end_does, ends_counted}
use Rattle.laws_container.proofs.Writing.{adds_one, adds_to_change}
use Rattle.laws_container.proofs.Recovers.{locks_step, most_is, raises_step}
use Rattle.lemmas.proofs.Cases.{on_bool}

-- a recovery of `owner` in mode `mode` is under way, by party `p` of the scene
module _ {T : Type 0} (recovery : Recovery T) where
  open recovery use {scene, inv, owner, mode}
  open recovery.scene use {coding as code, capacity as c, party as p, steps, backs, events}

  abbrev ws : List ℕ
  ws = scene.words

  abbrev z : ℕ
  z = code.size

  -- ---- the second look at the counter

  -- the recovery has come past all indices, and loads the counter again
  module _ (here : IsAtStage recovery recovers.LoadsCounterAgain)
      (freed : RecoverAt c z (all scene) (done scene) owner mode recovers.LoadsCounterAgain)
      (knows : RecoverKnows code c owner mode here.room recovers.LoadsCounterAgain (sees_now scene))
      (few_steps : steps ≤ 1 + c * for_index c z mode + backs * for_back c z mode)
      (filled_since : FilledBut (IsWorn scene.terms.by ws) mode p owner NoIndex events) where
    abbrev load_again : Option Ask
    load_again = Some (operations.loads 0)

    leaves : LeavesWords recovery load_again false
    leaves = record { same = loads_same ws 0; paid = let paid = knows.0 in omega arith }

    -- a recovery that has come past all indices has recovered its owner
    recovered : HasRecoveredBy scene.terms.by p owner events
    recovered =
        record {
          gone = λ honest i told. ⊎_elim (λ gone. gone) (λ never. absurd never) (knows.1.gone honest i told);
          asked = λ i through.
              ⊎_elim (λ below. knows.1.asked i below through)
              (λ beyond. ⊎_elim
              (λ filled. some_none (filled_of i events) owner (none_beyond (of_set scene) (inv_of_set scene inv) i beyond) filled)
              (λ was_freed. freed i was_freed) (through_now p (StillToFree p owner i) events through))
              (cases_lt i c);
        }

    -- the load leaves what the recovery knows of its locks
    each_again : FilledSinceEachBy (IsWorn scene.terms.by ws) mode p owner events
        → FilledSinceEachBy (IsWorn scene.terms.by (words_after ws load_again)) mode p owner events
    each_again = grind (arith, each_on, loads_same)

    -- what the recovery has freed is hidden still, after it has loaded the counter again
    hidden_again : (state : ReleaseState)
        → HasHidden code c p owner none
        (after scene (words_after ws load_again) (then_at recovery here.room (recovers.AddsChange state) load_again false) [])
    hidden_again state =
        hidden_still recovery here load_again (then_at recovery here.room (recovers.AddsChange state) load_again false) knows.1.hidden

    -- the step in which a recovery loads the counter again: it goes on to count its change, with the state
    -- that the counter says
    again_step : StepOf scene (Recover owner mode) (recover_at c owner mode here.room recovers.LoadsCounterAgain)
    again_step =
        on_bool (λ b. LeadsOn recovery (Some (operations.loads 0)) false [] here.room
        (recover_ends (first recovery) (if b then states.Locked else states.Unlocked)))
        (counter_of ws == locked)
        (λ t.
        let shut : counter_of ws ≡ locked = grind (arith, nat_tests) in
        calm_on recovery here leaves here.room (recovers.AddsChange states.Locked) (omega arith) tt
        (here.long, (leaves.paid, locked_later events [] (is_shut (of_set scene) (inv_of_set scene inv) shut), hidden_again states.Locked), tt))
        (λ t.
        let open_now : counter_of ws ≢ locked = grind (arith, nat_tests) in
        let free : is_locked events ≡ false = unlocked (of_set scene) (inv_of_set scene inv) open_now in
        let now : UnlockedAtLast p events = held_now p (λ part. IsUnlocked part × (set_acts_of p part ≡ set_acts_of p events)) events (free, refl) in
        calm_on recovery here leaves here.room (recovers.AddsChange states.Unlocked) (omega arith) tt (
          here.long,
          (
            leaves.paid,
            subst (λ es. (is_gone scene.terms.by owner es ≡ true) × UnlockedAtLast p es
                × HasRecoveredBy scene.terms.by p owner es
                × FilledSinceEachBy (IsWorn scene.terms.by (words_after ws load_again)) mode p owner es)
                (sym (append-nil events))
                (knows.1.dead, now, recovered, each_again (filled_each p owner (IsWorn scene.terms.by ws) mode events free filled_since)),
            hidden_again states.Unlocked,
          ),
          tt,
        ))

  -- ---- the change is counted, and the call ends

  -- the recovery counts its change, and answers `state`
  module _ {state : ReleaseState} (here : IsAtStage recovery (recovers.AddsChange state))
      (knows : RecoverKnows code c owner mode here.room (recovers.AddsChange state) (sees_now scene))
      (few_steps : steps ≤ 2 + c * for_index c z mode + backs * for_back c z mode) where
    abbrev end_it : Option Ask
    end_it = Some (adds_one (change_word c))

    -- a counter at its end is at its end after the change is counted
    counter_stays : counter_of ws ≡ greatest → counter_of (words_after ws end_it) ≡ greatest
    counter_stays end =
        (leaves_behind (inv_of_set scene inv) (words_after ws end_it) (change_word c) _ (omega arith)
        (adds_to_change inv)).stuck
        end

    -- the answer of the recovery is right, from what the recovery knows of its state (`RecoverSays`)
    answers_right : (state : ReleaseState) → RecoverSays code c owner mode state (sees_now scene)
        → AnswersBy scene.terms.by (IsWorn scene.terms.by (words_after ws end_it)) c events
        (Finished p (Container (Recover owner mode)) (answers.State state))
    answers_right = grind (arith, each_on, worn_on, counter_stays)

    -- the step in which a recovery counts its change ends the recovery
    end_step : StepOf scene (Recover owner mode) (recover_at c owner mode here.room (recovers.AddsChange state))
    end_step =
        let party_after = party_then scene (Recover owner mode) end_it false (Done (answers.State state)) in
        let written : List (Event T) = Finished p (Container (Recover owner mode)) (answers.State state) ∷ [] in
        let well_formed = was_well_formed scene (Recover owner mode) tt here.call.span (words_after ws end_it) party_after written (refl, tt) in
        let new = adds_to_change inv in
        let most = most_is c z owner (backs_then scene false) T mode in
        ends scene (answers.State state) end_it false here.call.span (record {
          longer = none_lengthens;
          does = ends_counted (as_given recovery here) party_after (record {
            set_does =
                end_does (as_given recovery here) party_after
                (leaves_behind (inv_of_set scene inv) (words_after ws end_it) (change_word c) _ (omega arith) new)
                (quiet_end p (Container (Recover owner mode)) (answers.State state) (λ i o. refl) (λ i r. refl));
            answers = answers_right state knows.1;
            placed = λ holds i was. ⊎_elim (λ empty. empty) (λ never. absurd never) (knows.2 (well_formed holds) i was);
            well_formed = well_formed;
          })
              new (λ holds i said. inv.elements.announced holds i said);
          follows = ((refl, tt), tt);
          few = omega arith;
          paid = let paid = knows.0 in omega arith;
        })

  -- ---- any step

  -- the step of a recovery at this stage keeps the invariant
  abbrev StepShows : buffers.Buffer 128 → RecoverStage → Type 0
  StepShows room stage =
      RecoverAt c z (all scene) (done scene) owner mode stage
      → IsUnderWay scene (Recover owner mode) (recover_at c owner mode room stage)
      → Knows code c (recover_at c owner mode room stage) (sees_now scene)
      → steps ≤ recover_number c z mode stage backs
      → StepOf scene (Recover owner mode) (recover_at c owner mode room stage)

  -- the recovery is at its stage with a room that has its 128 words
  abbrev is_at : (room : buffers.Buffer 128) (stage : RecoverStage)
      → IsUnderWay scene (Recover owner mode) (recover_at c owner mode room stage) → IsLong room → IsAtStage recovery stage
  is_at room stage here long = record { room = room; call = here; long = long }

  -- any step of a recovery, at whatever stage, keeps the invariant
  pub recover_step : (room : buffers.Buffer 128) (stage : RecoverStage) → StepShows room stage
  recover_step room recovers.LoadsCounter at here k s =
      counter_step recovery (is_at room recovers.LoadsCounter here k.0) at k.1 s
  recover_step room (recovers.LoadsCell index) at here k s =
      cell_step recovery (is_at room (recovers.LoadsCell index) here k.0) at k.1 s k.2
  recover_step room (recovers.LoadsCount index) at here k s =
      count_step recovery (is_at room (recovers.LoadsCount index) here k.0) at k.1 s k.2
  recover_step room (recovers.LoadsWord index count word) at here k s =
      word_step recovery (is_at room (recovers.LoadsWord index count word) here k.0) at k.1 s k.2
  recover_step room (recovers.ChecksCount index count) at here k s =
      check_step recovery (is_at room (recovers.ChecksCount index count) here k.0) at k.1 s k.2
  recover_step room (recovers.Asks index count) at here k s =
      decided recovery (is_at room (recovers.Asks index count) here k.0) at k.1 s k.2 0
  recover_step room (recovers.EmptiesCell index count) at here k s =
      empties_step recovery (is_at room (recovers.EmptiesCell index count) here k.0) at k.1 s k.2
  recover_step room (recovers.Hides index count) at here k s =
      hides_step recovery (is_at room (recovers.Hides index count) here k.0) at k.1 s k.2
  recover_step room (recovers.Raises index raises.LoadsCounter) at here k s =
      raises_step recovery (is_at room (recovers.Raises index raises.LoadsCounter) here k.0) at.0 at.1 k.1 s k.2
  recover_step room (recovers.Raises index (raises.ExchangesCounter number)) at here k s =
      raises_step recovery (is_at room (recovers.Raises index (raises.ExchangesCounter number)) here k.0) at.0 at.1 k.1 s k.2
  recover_step room (recovers.Locks index (parts.Counts counts.LoadsCounter)) at here k s =
      locks_step recovery (is_at room (recovers.Locks index (parts.Counts counts.LoadsCounter)) here k.0) at.0 at.1 at.2 at.3 k.1 s k.2
  recover_step room (recovers.Locks index (parts.Counts (counts.LoadsCell number i filled))) at here k s =
      locks_step recovery (is_at room (recovers.Locks index (parts.Counts (counts.LoadsCell number i filled))) here k.0)
      at.0 at.1 at.2 at.3 k.1 s k.2
  recover_step room (recovers.Locks index (parts.Counts (counts.ExchangesCounter number filled))) at here k s =
      locks_step recovery (is_at room (recovers.Locks index (parts.Counts (counts.ExchangesCounter number filled))) here k.0)
      at.0 at.1 at.2 at.3 k.1 s k.2
  recover_step room (recovers.Locks index (parts.ExchangesCounter number)) at here k s =
      locks_step recovery (is_at room (recovers.Locks index (parts.ExchangesCounter number)) here k.0) at.0 at.1 at.2 at.3 k.1 s k.2
  recover_step room recovers.LoadsCounterAgain at here k s =
      again_step (is_at room recovers.LoadsCounterAgain here k.0) at k.1 s k.2
  recover_step room (recovers.AddsChange state) at here k s = end_step (is_at room (recovers.AddsChange state) here k.0) k.1 s

  -- a recovery that waits at its question keeps the invariant, whatever it is told
  pub recover_decided : (room : buffers.Buffer 128) (index count : ℕ)
      → RecoverAt c z (all scene) (done scene) owner mode (recovers.Asks index count)
      → IsUnderWay scene (Recover owner mode) (recover_at c owner mode room (recovers.Asks index count))
      → Knows code c (recover_at c owner mode room (recovers.Asks index count)) (sees_now scene)
      → steps ≤ recover_number c z mode (recovers.Asks index count) backs → (answer : ℕ)
      → AnswerOf scene (Recover owner mode) (recover_at c owner mode room (recovers.Asks index count)) None answer
  recover_decided room index count stands here knows few_steps answer =
      decided recovery (is_at room (recovers.Asks index count) here knows.0) stands knows.1 few_steps knows.2 answer
