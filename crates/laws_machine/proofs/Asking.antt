-- Where a recovery writes the event `Asked`, it does wait for an answer about that index and owner.
use Rattle.std.proofs.Common.{arith}
use Rattle.laws_machine.proofs.Names.{append_cancel_left, ap, ◌≡◌, ℕ, ◌==◌, Bool, Option, Some, None}
use Rattle.laws_machine.proofs.Names.{List, [], ◌∷◌, ◌++◌, refl, sym, subst, ◌∙◌, AllByRecursion, After, GoOn, Done}
use Rattle.laws_machine.proofs.Names.{Ask, ReleaseMode, ReleaseState, Unlocked, AcquireStage, Lock, Raise, GiveBack}
use Rattle.laws_machine.proofs.Names.{ReleaseStage, Running, empty, raise_after, Answer, Event, Asked, Start, Flight}
use Rattle.laws_machine.proofs.Names.{Registry, RobustStart, RobustFlight, Doing, Party, Turn, Begin, Next}
use Rattle.laws_machine.proofs.Names.{Decide, Die, Coding, step_of, owned_of, acquire_effects}
use Rattle.laws_machine.proofs.Names.{release_effects, recover_effects, granted, locked_by, party_of}
use Rattle.laws_machine.proofs.Names.{flight_of, Step, old_of, number_of, ask_of_doing, doing_after}
use Rattle.laws_machine.proofs.Names.{ending_of, events_of_step, events_of_answer}
use Rattle.laws_machine.proofs.Names.{events_of_next, events_of_decision, after_answer, after_next, after_decision}
use Rattle.laws_machine.proofs.Names.{events_of, world_after, after_turn, IsReached, World, Trace, flight_in}
use Rattle.laws_machine.proofs.Names.{party_put_same, turn_making}
use Rattle.steps.specs.declared.indices.enums.ReleaseState.TheVariants.{Locked}
use Rattle.steps.specs.declared.indices.robust.acquire.AcquireStage.TheVariants as acquires
use Rattle.steps.specs.declared.indices.robust.parts.Lock.TheVariants as locks
use Rattle.steps.specs.declared.indices.robust.recover.Recover.{Recover}
use Rattle.steps.specs.declared.indices.robust.recover.RecoverStage.{RecoverStage}
use Rattle.steps.specs.declared.indices.robust.recover.RecoverStage.TheVariants as recovers
use Rattle.model.specs.declared.event.Start.TheVariants as starts
use Rattle.model.specs.declared.families.Flight.TheVariants as flights
use Rattle.model.specs.declared.families.Registry.TheVariants as registries
use Rattle.model.specs.declared.families.indices.robust.calls.RobustFlight.TheVariants as calls
use Rattle.model.specs.declared.turn.Kind.TheVariants as kinds
use Rattle.model.specs.Families.Indices.Robust.Steps.{effects, freed}
use Rattle.laws_robust.proofs.Sound.{reached_sound}
use Rattle.laws_machine.specs.Questions.{AsksIt, AsksAtOnce}
use Rattle.lemmas.proofs.Cases.{by_bool}

module _ {T : Type 0} where
  -- an event `Asked` of the party `q.0` is about the index and the owner of its question `q.1`
  abbrev AsksBy : ℕ × Option (ℕ × ℕ) → Event T → Type 0
  AsksBy q (Asked p index owner) = (p ≡ q.0) × (q.1 ≡ Some (index, owner))
  AsksBy q e = Unit {0}

  -- each `Asked` among these events is about that question
  abbrev Q : ℕ × Option (ℕ × ℕ) → List (Event T) → Type 0
  Q asked es = AllByRecursion (AsksBy asked) es

  -- what holds of two lists of events holds of one behind the other
  joined : (q : ℕ × Option (ℕ × ℕ)) (xs ys : List (Event T)) → Q q xs → Q q ys → Q q (xs ++ ys)
  joined q [] ys h r = r
  joined q (x ∷ xs) ys h r = (h.0, joined q xs ys h.1 r)

  -- the end of a call has no `Asked`
  ends : (q : ℕ × Option (ℕ × ℕ)) (p : ℕ) (start : Start T) (o : Option (Answer T)) → Q q (ending_of p start o)
  ends q p start None = tt
  ends q p start (Some answer) = (tt, tt)

-- ---- the events of calls that are no recovery have no `Asked`

module _ (T : Type 0) where
  -- an acquire writes no `Asked`
  fills : (q : ℕ × Option (ℕ × ℕ)) (p owner : ℕ) (stage : AcquireStage) (old : ℕ) → Q {T = T} q (acquire_effects p owner stage old)
  fills q p owner acquires.LoadsCounter old = tt
  fills q p owner (acquires.FillsCell counter index) old = by_bool (old == empty) (λ cell_empty. rw cell_empty (tt, tt)) (λ cell_filled. rw cell_filled tt)
  fills q p owner (acquires.ChecksCounter counter) old = tt
  fills q p owner (acquires.Raises index raise) old = go (raise_after raise old)
    where
      -- the cases are whether the raise goes on
      go : (o : After Raise ReleaseState) → Q {T = T} q (granted p index owner o)
      go (GoOn raise) = tt
      go (Done Locked) = tt
      go (Done Unlocked) = (tt, tt)

  -- a step that empties a cell writes no `Asked`
  frees : (q : ℕ × Option (ℕ × ℕ)) (p index owner old : ℕ) → Q {T = T} q (freed p index owner old)
  frees q p index owner old = by_bool (old == owner) (λ is_owners. rw is_owners (tt, tt)) (λ not_owners. rw not_owners tt)

  -- a step of a lock writes no `Asked`
  shuts : (q : ℕ × Option (ℕ × ℕ)) (p : ℕ) (lock : Lock) (old : ℕ) → Q {T = T} q (locked_by p lock old)
  shuts q p (locks.Counts count) old = tt
  shuts q p (locks.ExchangesCounter counter) old = by_bool (old == counter) (λ unmoved. rw unmoved (tt, tt)) (λ moved. rw moved tt)

  -- a release writes no `Asked`
  gives : (q : ℕ × Option (ℕ × ℕ)) (p : ℕ) (given : GiveBack) (stage : ReleaseStage) (old : ℕ) → Q {T = T} q (release_effects p given stage old)
  gives = grind (arith, frees, shuts)

  -- a recovery that gets its answer writes no `Asked`
  tells : (q : ℕ × Option (ℕ × ℕ)) (p index owner old : ℕ) → Q {T = T} q (recover_effects p (recovers.Asks index owner) old)
  tells q p index owner old = by_bool (old == 0) (λ answers_no. rw answers_no tt) (λ answers_yes. rw answers_yes (tt, tt))

module _ {T : Type 0} where
  -- ---- a step of a call of the set

  -- a call of party p takes a step on a machine with these words, where these owners are dead
  module _ (code : Coding T) (words : List ℕ) (beside : Option (ℕ × ℕ)) (p changes since : ℕ) (dead : List ℕ) where
    -- the step of the call, where the word that it asks for has the value `old`
    abbrev stepped : Start T → Flight T → ℕ → Step (Flight T) (Registry T) T
    stepped start flight old = step_of code words beside p start flight old (registries.Owners dead)

    -- the party, and the question that it has after this step
    abbrev asked : Start T → Flight T → ℕ → ℕ × Option (ℕ × ℕ)
    asked start flight old =
        (p, owned_of code (flight_of (Some (doing_after changes since (stepped start flight old).after))))

    -- each `Asked` that the step writes is about the question that the call has after it
    abbrev Asks : Start T → Flight T → ℕ → Type 0
    Asks start flight old = Q (asked start flight old) (events_of_step p start (stepped start flight old))

    -- as the end has no `Asked`, it is enough to look at what the call itself writes
    from : (start : Start T) (flight : Flight T) (old : ℕ) → Q (asked start flight old) (stepped start flight old).wrote → Asks start flight old
    from = grind (arith, joined, ends)

    -- in a step of a recovery, each `Asked` is about the question that the recovery has after it
    recovers_ask : (a : RobustStart) (run : Running Recover ReleaseMode (Unit {0})) (stage : RecoverStage) (old : ℕ)
        → run.call.stage ≡ stage
        → Q {T = T} (asked (starts.Robust a) (flights.Robust (calls.Recover run)) old) (recover_effects p stage old)
    recovers_ask a run recovers.LoadsCounter old same_stage = tt
    recovers_ask a run (recovers.LoadsCell index) old same_stage =
        by_bool (old == empty)
        (λ cell_empty. rw cell_empty tt)
        (λ cell_filled. rw (same_stage, cell_filled) ((refl, refl), tt))
    recovers_ask a run (recovers.Asks index owner) old same_stage = tells T (asked (starts.Robust a) (flights.Robust (calls.Recover run)) old) p index owner old
    recovers_ask a run (recovers.EmptiesCell index owner) old same_stage =
        frees T (asked (starts.Robust a) (flights.Robust (calls.Recover run)) old) p index owner old
    recovers_ask a run (recovers.Raises index raise) old same_stage = tt
    recovers_ask a run (recovers.Locks index lock) old same_stage = shuts T (asked (starts.Robust a) (flights.Robust (calls.Recover run)) old) p lock old
    recovers_ask a run recovers.LoadsCounterAgain old same_stage = tt

    -- in a step of a call of the set, each `Asked` is about the question that the call has after it
    set_asks : (a : RobustStart) (flight : RobustFlight) (old : ℕ) → Q {T = T} (asked (starts.Robust a) (flights.Robust flight) old) (effects p flight old)
    set_asks = grind (arith, fills, gives, recovers_ask)

    -- in a step of any call, each `Asked` is about the question that the call has after it
    all_ask : (start : Start T) (flight : Flight T) (old : ℕ) → Asks start flight old
    all_ask = grind (arith, from, set_asks)

  -- ---- a turn

  -- where a party's call goes on, or is done, with an answer, each `Asked` is about its question
  answered : (w : World T) (dead : List ℕ) → w.kept ≡ registries.Owners dead
      → (p : ℕ) (x : Party T) (ask : Option Ask) (answer : ℕ) (doing : Doing T)
      → Q (p, owned_of w.coding (flight_in (after_answer w p x ask answer doing) p)) (events_of_answer w p x answer doing)
  answered = grind (arith, all_ask, party_put_same)

  -- in a step of a party, each `Asked` is about its question
  went : (w : World T) {dead : List ℕ} → w.kept ≡ registries.Owners dead → (p : ℕ) (o : Option (Party T))
      → Q (p, owned_of w.coding (flight_in (after_next w p o) p)) (events_of_next w p o)
  went w kept_dead p None = tt
  went w {dead} kept_dead p (Some x) = answered w dead kept_dead p x (ask_of_doing w.coding x.doing) (old_of w.words (ask_of_doing w.coding x.doing)) x.doing

  -- in a decision for a party, each `Asked` is about its question
  decided : (w : World T) {dead : List ℕ} → w.kept ≡ registries.Owners dead
      → (p : ℕ) (said : Bool) (o : Option (Party T))
      → Q (p, owned_of w.coding (flight_in (after_decision w p said o) p)) (events_of_decision w p said o)
  decided w kept_dead p said None = tt
  decided w {dead} kept_dead p said (Some x) = answered w dead kept_dead p x None (number_of said) x.doing

  -- where each `Asked` is about a party's question, `AsksIt` holds of each event in the machine in which it
  -- has that question
  it_asks : (new : World T) (asked : ℕ × Option (ℕ × ℕ)) (es : List (Event T))
      → asked.1 ≡ owned_of new.coding (flight_in new asked.0) → Q asked es → AllByRecursion (AsksIt new) es
  it_asks new asked [] same h = tt
  it_asks new asked (Asked p index owner ∷ es) same h =
      (rw h.0.0 (sym same ∙ h.0.1), it_asks new asked es same h.1)
  it_asks new asked (e ∷ es) same h = (tt, it_asks new asked es same h.1)

  -- each `Asked` of a turn is about what its party asks in the machine that the turn leaves
  turn_asks : (w : World T) (dead : List ℕ) → w.kept ≡ registries.Owners dead → (turn : Turn T)
      → AllByRecursion (AsksIt (world_after w turn)) (events_of w turn)
  turn_asks w dead kept_dead (Begin p start) = (tt, tt)
  turn_asks w dead kept_dead (Next p) =
      it_asks (after_next w p (party_of p w.latest))
      (p, owned_of w.coding (flight_in (after_next w p (party_of p w.latest)) p))
      (events_of_next w p (party_of p w.latest))
      (ap (λ z. owned_of z (flight_in (after_next w p (party_of p w.latest)) p)) (sym (turn_making w (Next p)).coding))
      (went w kept_dead p (party_of p w.latest))
  turn_asks w dead kept_dead (Decide p said) =
      it_asks (after_decision w p said (party_of p w.latest))
      (p, owned_of w.coding (flight_in (after_decision w p said (party_of p w.latest)) p))
      (events_of_decision w p said (party_of p w.latest))
      (ap (λ z. owned_of z (flight_in (after_decision w p said (party_of p w.latest)) p)) (sym (turn_making w (Decide p said)).coding))
      (decided w kept_dead p said (party_of p w.latest))
  turn_asks w dead kept_dead (Die owner) = (tt, tt)

  -- the law `asks_at_once`: in a machine that turns have reached, an event `Asked` of a turn is about the
  -- question that then waits
  pub asks_at_once : (t : Trace T) (turn : Turn T) → t.world.kind ≡ kinds.Robust → IsReached t → AsksAtOnce t (after_turn t turn)
  asks_at_once t turn kind_is reached_t wrote e =
      let sound_there = reached_sound t kind_is reached_t in
      subst (AllByRecursion (AsksIt (world_after t.world turn))) (append_cancel_left t.events (events_of t.world turn) wrote e)
      (turn_asks t.world sound_there.state.dead sound_there.fit.kept turn)
