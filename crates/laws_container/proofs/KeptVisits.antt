-- A recovery that began after the lock comes to no index: it copies nothing, is shown
-- nothing and frees nothing.
use Rattle.laws_container.proofs.Names.{◌≡◌, ◌⊎◌, ℕ, Bool, Option, Some, None, List, [], ◌∷◌, ◌++◌, arith}
use Rattle.laws_container.proofs.Names.{append_cancel_left, AllByRecursion, Answer, Event, Start, Flight, Registry}
use Rattle.laws_container.proofs.Names.{ContainerStart, ContainerFlight, Going, Party, Turn, Next, Coding, beside_of}
use Rattle.laws_container.proofs.Names.{step_of, after, BeganUnlocked, VisitsRight, VisitsUnlocked, state_of, effects}
use Rattle.laws_container.proofs.Names.{questions, party_of, IsEffectOf, events_of_step, events_of, ending_of}
use Rattle.laws_container.proofs.Names.{after_turn, StandsThere, Decide, all_both, all_so, Finished}
use Rattle.laws_container.proofs.Invariant.{family_by}
use Rattle.laws_container.proofs.Sound.{kept_now, IsThere, is_there, SoundRun}
use Rattle.laws_container.proofs.Written.{all_effects}
use Rattle.lemmas_owners.proofs.OneTurn.{by_next, by_decision}

-- ---- what a party writes

-- the party is `q`, and `events` is what was written before the turn
module _ {T : Type 0} (q : ℕ) (events : List (Event T)) where
  -- each of these events, if it is a visit of a recovery, is one of a recovery that began before the lock
  abbrev VisitsAreRight : List (Event T) → Type 0
  VisitsAreRight es = AllByRecursion (VisitsRight events) es

  -- the party's call, if it is a recovery, began before the lock
  abbrev HasBegunUnlocked : Type 0
  HasBegunUnlocked = BeganUnlocked q events

  -- an event of a step of a call that began before the lock is right
  one_visits : HasBegunUnlocked → (e : Event T) → IsEffectOf (Next q) e → VisitsRight events e
  one_visits began e is_effect = grind arith

  -- the events of a step of a call that began before the lock are right
  all_visit : HasBegunUnlocked → (es : List (Event T)) → AllByRecursion (IsEffectOf (Next q)) es → VisitsAreRight es
  all_visit began es = all_so (IsEffectOf (Next q)) (VisitsRight events) es (one_visits began)

  -- the end of a call is no visit
  with_end : (start : Start T) (outcome : Option (Answer T)) (es : List (Event T)) → VisitsAreRight es → VisitsAreRight (es ++ ending_of q start outcome)
  with_end start None es all = all_both (VisitsRight events) es [] all tt
  with_end start (Some answer) es all = all_both (VisitsRight events) es (Finished q start answer ∷ []) all (tt, tt)

-- ---- a step of a party's call

-- the run is sound and may go on; `x` is the call of party `q`
module _ {T : Type 0} (run : SoundRun T) (q : ℕ) (x : Party T) (since : ℕ) (found : party_of q run.trace.world.latest ≡ Some x) where
  open run use {shown, terms, code, trace as t, sound, may}

  abbrev c : ℕ
  c = t.world.capacity

  -- what the step of the call writes, without its end
  abbrev wrote : ContainerFlight T → ℕ → List (Event T)
  wrote flight n = effects code q (state_of q sound.state.states) flight n ++ questions q flight n

  -- the step of a call writes nothing, or the call began before the lock if it is a recovery
  began_by : (start : ContainerStart T) (flight : ContainerFlight T)
      → IsThere shown terms code c t sound q x since found start flight → (n : ℕ)
      → (wrote flight n ≡ []) ⊎ BeganUnlocked q t.events
  began_by start flight there n = grind arith

  -- what a step of the call writes of visits is right
  abbrev StepVisitsRight : ℕ → Coding T → Registry T → Start T → Flight T → Type 0
  StepVisitsRight n y kept a flight =
      VisitsAreRight q t.events (events_of_step q a (step_of y t.world.words (beside_of t.world.words kept t.world.latest q) q a flight n kept))

  -- what a step of a call at its stage writes of visits is right
  step_visits : (n : ℕ) (a : Start T) (flight : Flight T)
      → StandsThere (family_by terms code c) t sound q x since a flight
      → StepVisitsRight n code (kept_now shown terms code c t sound) a flight
  step_visits = grind (arith, with_end, after, all_visit, all_effects, began_by, is_there)

  -- what a step of the party's call under way writes of visits is right
  any_visits : (n : ℕ) {flight : Flight T} → x.doing ≡ Going flight since → StepVisitsRight n t.world.coding t.world.kept x.start flight
  any_visits n doing = let by_step_visits = step_visits in grind arith

-- ---- any turn

-- the run up to this turn is sound and may go on
module _ {T : Type 0} (run : SoundRun T) (turn : Turn T) where
  open run use {trace as t}

  -- what a step writes of visits is right
  next_visits : (q : ℕ) → VisitsAreRight q t.events (events_of t.world (Next q))
  next_visits q =
      by_next t.world q (λ w es. VisitsAreRight q t.events es) tt (λ x flight since has.
      any_visits run q x since has.found _ has.doing)

  -- what a decision writes of visits is right
  decision_visits : (q : ℕ) (said : Bool) → VisitsAreRight q t.events (events_of t.world (Decide q said))
  decision_visits q said =
      by_decision t.world q (λ w es. VisitsAreRight q t.events es) tt said (λ x flight since has.
      any_visits run q x since has.found _ has.doing)

  -- what any turn writes of visits is right
  visits : (u : Turn T) → AllByRecursion (VisitsRight t.events) (events_of t.world u)
  visits = grind (arith, next_visits, decision_visits)

  -- each turn writes of visits what the promise allows
  pub visits_unlocked : VisitsUnlocked t (after_turn t turn)
  visits_unlocked = grind (arith, append_cancel_left, visits)
