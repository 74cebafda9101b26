-- What a recovery and a look know at their stages they know still after any turn of another party; and with
-- `Keeping`, so does any call of a container.
use Rattle.std.proofs.Common.{arith}
use Rattle.laws_container.proofs.Names.{◌≡◌, ◌⊎◌, inl, inr, ℕ, ◌<◌, Some, None, List, ◌++◌, refl}
use Rattle.laws_container.proofs.Names.{◌∙◌, LookStage, RecoverStage, ReleaseMode, ReleaseState, Event}
use Rattle.laws_container.proofs.Names.{ContainerFlight, Count, IsLocked, Coding, WasShown, IsFilledWith}
use Rattle.laws_container.proofs.Names.{IsUnlocked, StillToFree, filled_of, Asks, Yes, set_acts_of, IsOneOf}
use Rattle.laws_container.proofs.Names.{IsHonestBy, gone_more, honest_less, stays_lost, held_paid, still_scanned}
use Rattle.laws_container.proofs.Names.{through_less}
use Rattle.steps.specs.declared.container.look.LookStage.TheVariants as looks
use Rattle.steps.specs.declared.container.recover.RecoverStage.TheVariants as recovers
use Rattle.steps.specs.declared.copied.Buffer as buffers
use Rattle.steps.specs.declared.indices.enums.ReleaseState.TheVariants as states
use Rattle.model.specs.declared.families.container.calls.ContainerFlight.TheVariants.{Add, Remove, Replace, Find}
use Rattle.model.specs.declared.families.container.calls.ContainerFlight.TheVariants.{Recover, Look}
use Rattle.laws_robust.proofs.Knows as set
use Rattle.laws_container.specs.Gone.{HasRecoveredBy}
use Rattle.laws_container.proofs.HiddenKnows.{RecoverCovers, HasHidden, no_index}
use Rattle.laws_container.proofs.HiddenLater.{TurnOfAnother, recover_covers, hidden_stands, hidden_later}
use Rattle.laws_container.proofs.Knows.{View, now, IsGone, Worn}
use Rattle.laws_container.proofs.Knows.{AskedBelow}
use Rattle.laws_container.proofs.Knows.{GoneBut, Recovers, RecoverSays, RecoverKnows, RecoverFills, Looks, LookCopies}
use Rattle.laws_container.proofs.Knows.{LookRests, LookKnows, Knows}
use Rattle.laws_container.proofs.KeptCopies.{CallsOn, own_later, calls_same}
use Rattle.laws_container.proofs.KeptLocks.{FilledBut, filled_then, each_later, says_later, unlocked_later}
use Rattle.laws_container.proofs.StateInvariant.{rests_later, course_later}
use Rattle.laws_container.proofs.Turns.{Now}
use Rattle.laws_container.proofs.Keeping as keeping
use Rattle.laws_container.proofs.Keeping.{OthersTurn, acts_same, add_knows, check_paid, copying, count_below, set_acts_same}
use Rattle.laws_container.proofs.Keeping.{find_knows, found, has_copied, has_left, once, paid, remove_knows}
use Rattle.laws_container.proofs.Keeping.{replaces_know, set_knows, worn}
use Rattle.model.proofs.Locks.{locked_later}

-- `c` is the capacity, `v` what the party sees before the turn of another party, and `later`
-- what it sees after it
module _ {T : Type 0} {code : Coding T} {c : ℕ} {v : View T} (turn : OthersTurn code c v) where
  open turn use {
    words_then as words',
    latest_then as latest',
    es as es,
    changes_then as changes',
    goes as goes,
    spares as spares,
    seen as seen,
    passes as passes,
    leaves as leaves,
    span as span,
    same_state as same_state,
  }

  abbrev pub later : View T
  later = keeping.later code c v turn

  abbrev another : TurnOfAnother code c v.party (now v)
  another = keeping.of_another code c v turn

  -- the party that knows
  abbrev q : ℕ
  q = v.party

  abbrev events : List (Event T)
  events = v.events

  -- ---- a recovery

  -- what the recovery was told or shown by the end of the turn, it was told or shown before the turn
  told_before : (i owner : ℕ) → IsOneOf (Yes i owner) (set_acts_of q (events ++ es)) ⊎ WasShown q i (events ++ es)
      → IsOneOf (Yes i owner) (set_acts_of q events) ⊎ WasShown q i events
  told_before = grind (arith, inl, set_acts_same, inr, acts_same)

  -- what the recovery has asked about, or was shown, it has asked about or was shown still
  asked_later : (i owner : ℕ) → IsOneOf (Asks i owner) (set_acts_of q events) ⊎ WasShown q i events
      → IsOneOf (Asks i owner) (set_acts_of q (events ++ es)) ⊎ WasShown q i (events ++ es)
  asked_later = grind (arith, inl, set_acts_same, inr, acts_same)

  -- the recovery has still asked about each index below `k` that it must free, or was shown it
  asked_below : (owner k : ℕ) → AskedBelow code c owner k v → AskedBelow code c owner k later
  asked_below owner k asked_so i below through =
      asked_later i owner (asked_so i below (through_less q (StillToFree q owner i) events es spares.none through))

  -- in an honest run an owner who is gone fills no index in the turn
  lost : (i owner : ℕ) → IsHonestBy v.terms.by (events ++ es) → IsGone owner v → filled_of i (events ++ es) ≡ Some owner → filled_of i events ≡ Some owner
  lost i owner honest dead filled = stays_lost v.terms.by events es goes.fills i owner honest dead filled

  -- an owner who is gone stays gone
  still_gone : (owner : ℕ) → IsGone owner v → IsGone owner later
  still_gone owner dead = gone_more v.terms.by owner events es dead

  -- nobody who is gone fills an index, so an index that such an owner has lost stays lost to him
  gone_but : (owner : ℕ) (Here : ℕ → Type 0) → IsGone owner v → GoneBut code c owner Here v → GoneBut code c owner Here later
  gone_but = grind (arith, inl, lost, inr, honest_less, told_before)

  -- what a recovery knows of the indices below `k` it knows still, if what it has freed is hidden still
  recovers_then : {owner k : ℕ} {Here But But' : ℕ → Type 0}
      → (HasHidden code c q owner But (now v) → HasHidden code c q owner But' (now later))
      → Recovers code c owner k Here But v → Recovers code c owner k Here But' later
  recovers_then {owner} {k} {Here = Here} stays recovered_so =
      record {
        dead = still_gone owner recovered_so.dead;
        was_open = once code c v turn IsUnlocked recovered_so.was_open;
        asked = asked_below owner k recovered_so.asked;
        gone = gone_but owner Here recovered_so.dead recovered_so.gone;
        hidden = stays recovered_so.hidden;
      }

  -- what a recovery that has hidden all that it freed knows of the indices below `k` it knows still
  recovers_on : {owner k : ℕ} {Here : ℕ → Type 0} → Recovers code c owner k Here no_index v → Recovers code c owner k Here no_index later
  recovers_on {owner} {k} {Here = Here} recovered_so =
      recovers_then (λ g. hidden_later another owner no_index g) recovered_so

  -- where the owner fills the index still, the loaded number covers what stands there still
  covers_on : (owner index count : ℕ) → index < c → IsGone owner v → RecoverCovers code c owner index count (now v)
      → RecoverCovers code c owner index count (now later)
  covers_on owner index count below dead covered =
      recover_covers another owner index count below dead covered

  -- what a recovery of an owner must have done by its end is done still
  recovered : {owner : ℕ} → IsGone owner v → HasRecoveredBy v.terms.by q owner events → HasRecoveredBy v.terms.by q owner (events ++ es)
  recovered {owner} dead had_recovered =
      record {
        gone =
            λ honest i told e. had_recovered.gone (honest_less v.terms.by events es honest) i
            (told_before i owner told) (lost i owner honest dead e);
        asked = λ i through. asked_later i owner (had_recovered.asked i (through_less q (StillToFree q owner i) events es spares.none through));
      }

  -- what the state says with which a recovery will end holds still
  recover_says : (owner : ℕ) (mode : ReleaseMode) (state : ReleaseState) → RecoverSays code c owner mode state v → RecoverSays code c owner mode state later
  recover_says owner mode states.Locked said = locked_later events es said
  recover_says owner mode states.Unlocked said = (
    still_gone owner said.0,
    unlocked_later q owner events es spares.none (set_acts_same code c v turn) said.1,
    recovered said.0 said.2,
    each_later q owner (Worn v) (Worn later) (worn code c v turn) mode events es spares.none (set_acts_same code c v turn) said.3,
  )

  -- what a recovery knows of its locks it knows still, with the same exempt indices
  fills : (owner : ℕ) (mode : ReleaseMode) (But : ℕ → Type 0) → FilledBut (Worn v) mode q owner But events
      → FilledBut (Worn later) mode q owner But (events ++ es)
  fills = grind (arith, filled_then, worn, inl, set_acts_same, locked_later)

  -- what a recovery knows of its locks it knows still
  recover_fills : (owner : ℕ) (mode : ReleaseMode) (stage : RecoverStage) → RecoverFills code c owner mode stage v → RecoverFills code c owner mode stage later
  recover_fills = grind (arith, fills, says_later, set_acts_same)

  -- no index is exempt
  abbrev none : ℕ → Type 0
  none i = ⊥

  -- a recovery at any stage knows what it knew before
  recover_knows : (owner : ℕ) (mode : ReleaseMode) (room : buffers.Buffer 128) (stage : RecoverStage)
      → RecoverKnows code c owner mode room stage v → RecoverKnows code c owner mode room stage later
  recover_knows owner mode room recovers.LoadsCounter knew = (
    paid code c v turn knew.0,
    still_gone owner knew.1,
    gone_but owner none knew.1 knew.2,
  )
  -- before the question: the turns back stay paid for, and the words read are still those
  -- of the loaded number
  recover_knows owner mode room (recovers.LoadsCell index) h = (paid code c v turn h.0, recovers_on h.1)
  recover_knows owner mode room (recovers.LoadsCount index) h = (
    paid code c v turn h.0,
    recovers_on h.1,
    once code c v turn (IsFilledWith owner index) h.2,
  )
  recover_knows owner mode room (recovers.LoadsWord index count at) h = (
    check_paid code c v turn index count h.0,
    recovers_on h.1,
    once code c v turn (IsFilledWith owner index) h.2,
    copying code c v turn index count room.words at h.3,
    covers_on owner index count h.3.within h.1.dead h.4,
  )
  recover_knows owner mode room (recovers.ChecksCount index count) h = (
    check_paid code c v turn index count h.0,
    recovers_on h.1,
    once code c v turn (IsFilledWith owner index) h.2,
    copying code c v turn index count room.words code.size h.3,
    covers_on owner index count h.3.within h.1.dead h.4,
  )
  -- at the question, and once the recovery may free the index
  recover_knows owner mode room (recovers.Asks index count) h = (
    paid code c v turn h.0,
    recovers_on h.1,
    h.2,
    count_below code c v turn index count h.2 h.3,
    has_copied code c v turn index room h.4,
    covers_on owner index count h.2 h.1.dead h.5,
  )
  recover_knows owner mode room (recovers.EmptiesCell index count) h = (
    paid code c v turn h.0,
    recovers_on h.1,
    h.2,
    count_below code c v turn index count h.2 h.3,
    covers_on owner index count h.2 h.1.dead h.4,
  )
  -- once the index is freed: what stood there stands under the loaded number, or is hidden
  recover_knows owner mode room (recovers.Hides index count) h = (
    paid code c v turn h.0,
    recovers_then
        (λ g. hidden_stands another owner index count h.2.within g)
        h.1,
    has_left code c v turn h.2,
  )
  recover_knows owner mode room (recovers.Raises index raise) h = (
    held_paid (keeping.of_set_turn code c v turn) (set.raise_holds raise) h.0,
    recovers_on h.1,
  )
  recover_knows owner mode room (recovers.Locks index lock) h = (
    held_paid (keeping.of_set_turn code c v turn) (set.lock_holds lock) h.0,
    recovers_on h.1,
    still_scanned (keeping.of_set_turn code c v turn) (set.lock_scan c lock) h.2,
  )
  -- behind the last index
  recover_knows owner mode room recovers.LoadsCounterAgain h = (paid code c v turn h.0, recovers_on h.1)
  recover_knows owner mode room (recovers.AddsChange state) h = (
    paid code c v turn h.0,
    recover_says owner mode state h.1,
    hidden_later another owner no_index h.2,
  )

  -- ---- a look

  abbrev m' : Now T
  m' = record { terms = v.terms; words = words'; latest = latest'; events = events ++ es }

  -- the turn of another party is no part of the look, so the call goes on and has copied nothing more
  calls_on : CallsOn q None events (events ++ es)
  calls_on = calls_same span

  -- a look has gone over the same indices still
  looks_on : {k x : ℕ} → Looks code c k x v → Looks code c k x later
  looks_on {k} {x} looked =
      record {
        state = looked.state;
        found = same_state ∙ looked.found;
        course = course_later code c es refl passes q looked.state calls_on spares.none leaves.alone looked.course;
      }

  -- the words of a copy in a look are still those that stand under the loaded number
  look_copies : {index count k : ℕ} → LookCopies code c index count k v → LookCopies code c index count k later
  unfolding looks_on
  look_copies {index} {count} {k} h =
      record { looks = looks_on h.looks; number = h.number; copying = copying code c v turn index count h.looks.state.shown.copy k h.copying }

  -- a state at rest is at rest still
  look_rests : LookRests code c v → LookRests code c later
  look_rests at_rest =
      record {
        state = at_rest.state;
        found = same_state ∙ at_rest.found;
        rests = rests_later code c es refl passes q at_rest.state at_rest.rests;
        own = own_later calls_on at_rest.state c at_rest.own;
      }

  -- a look at any stage knows what it knew before
  look_knows : (stage : LookStage) → LookKnows code c stage v → LookKnows code c stage later
  look_knows looks.LoadsChange knew = (paid code c v turn knew.0, look_rests knew.1)
  look_knows (looks.LoadsCount index) knew = (paid code c v turn knew.0, looks_on knew.1)
  look_knows (looks.LoadsWord index count at) knew =
      (check_paid code c v turn index count knew.0, look_copies knew.1)
  look_knows (looks.ChecksCount index count) knew = (
    check_paid code c v turn index count knew.0,
    look_copies knew.1,
  )

  -- ---- any call

  -- any call of a container knows at its stage what it knew before
  pub still_knows : (flight : ContainerFlight T) → Knows code c flight v → Knows code c flight later
  still_knows (Add run) knows = add_knows code c v turn run.given.value run.given.owner run.call.stage knows
  still_knows (Remove run) knows = remove_knows code c v turn run.given.index run.given.owner run.given.mode run.call.stage knows
  still_knows (Replace run) knows = replaces_know code c v turn run.given.index run.given.value run.given.owner run.call.stage knows
  still_knows (Find run) knows = (knows.0, find_knows code c v turn run.given run.room run.call.stage knows.1)
  still_knows (Recover run) knows = (
    knows.0,
    recover_knows run.given.owner run.given.mode run.room run.call.stage knows.1,
    recover_fills run.given.owner run.given.mode run.call.stage knows.2,
  )
  still_knows (Look which call) h = look_knows call.stage h
  still_knows (Count which run) h = set_knows code c v turn h
  still_knows (IsLocked run) h = set_knows code c v turn h
