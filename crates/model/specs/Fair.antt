-- If only finitely many calls begin, a call ends whose party goes on taking steps: in rounds, and
-- on a fair schedule.
use Rattle.std.specs.Prelude.{◌≡◌, ◌⊎◌, ◌<◌, ◌≤◌, ℕ, zero, suc, ◌+◌, ◌==◌, None, List, [], ◌∷◌, ◌++◌, length, if◌then◌else◌}
use Rattle.std.specs.List.{AllByRecursion}
use Rattle.model.specs.declared.event.Start.{Start}
use Rattle.model.specs.declared.turn.Kind.{Kind}
use Rattle.model.specs.declared.turn.Turn.{Turn}
use Rattle.model.specs.declared.turn.Turn.TheVariants.{Next}
use Rattle.model.specs.LockFree.{Bound, BeginsSuch, IsAmong, parties_below, steps_of}
use Rattle.model.specs.Refusals.{call_refusal}
use Rattle.model.specs.Turns.{after_turn, after_turns, AreAllowed, AreAllowedOn, IsReached, IsReachedOn}
use Rattle.model.specs.World.{World, Trace, flight_in}
use Rattle.model.specs.Loads.{begin_in, begins_in, pending, load}

module _ {T : Type 0} where
  -- ---- the steps of one party

  -- The number of steps that the party takes in a turn: 1 if the turn is its `Next` and does an
  -- operation on a word, else 0.
  abbrev pub own_step : ℕ → World T → Turn T → ℕ
  own_step p w (Next q) = if q == p then steps_of w (Next q) else 0
  own_step p w turn = 0

  -- how many steps the party takes in these turns
  abbrev pub own_steps : ℕ → Trace T → List (Turn T) → ℕ
  own_steps p t [] = 0
  own_steps p t (turn ∷ turns) = own_step p t.world turn + own_steps p (after_turn t turn) turns

  -- ---- rounds, each a list of turns

  -- The turns of all rounds as one list, in order.
  abbrev pub turns_of : List (List (Turn T)) → List (Turn T)
  turns_of [] = []
  turns_of (round ∷ rounds) = round ++ turns_of rounds

  -- in each of the rounds the party takes a step, unless it has no call under way as the round begins
  abbrev pub StepsInEach : ℕ → Trace T → List (List (Turn T)) → Type 0
  StepsInEach p t [] = Unit {0}
  StepsInEach p t (round ∷ rounds) =
      ((flight_in t.world p ≡ None) ⊎ (0 < own_steps p t round)) × StepsInEach p (after_turns t round) rounds

  -- the party has no call under way as one of these rounds begins
  abbrev pub RestsInOne : ℕ → Trace T → List (List (Turn T)) → Type 0
  RestsInOne p t [] = ⊥
  RestsInOne p t (round ∷ rounds) = (flight_in t.world p ≡ None) ⊎ RestsInOne p (after_turns t round) rounds

  -- ---- an endless schedule

  -- the machine and its events after the first k turns of an endless schedule
  abbrev pub moment : Trace T → (ℕ → Turn T) → ℕ → Trace T
  moment t turns zero = t
  moment t turns (suc k) = after_turn (moment t turns k) (turns k)

  -- how many calls begin in the first k turns of an endless schedule
  abbrev pub begins_by : (ℕ → Turn T) → ℕ → ℕ
  begins_by turns zero = 0
  begins_by turns (suc k) = begins_by turns k + begin_in (turns k)

  -- The schedule is fair to a party: after each moment there is one at which it takes a step, or
  -- has no call under way. `at k` is such a moment, not before moment k.
  pub record IsFair (t : Trace T) (turns : ℕ → Turn T) (p : ℕ) : Type 0 where
    pub at : ℕ → ℕ
    pub later : (k : ℕ) → k ≤ at k
    pub goes : (k : ℕ) → (flight_in (moment t turns (at k)).world p ≡ None)
        ⊎ (own_step p (moment t turns (at k)).world (turns (at k)) ≡ 1)

-- Let some parties take turns in rounds, more of them than the load (the steps that the calls under
-- way and those that begin may take in all). Then a party that takes a step in each round has no
-- call under way as one of the rounds begins.
abbrev pub EndsInRounds : Type 0 → Kind → Bound → Type 0
EndsInRounds T kind bound =
    (t : Trace T) → t.world.kind ≡ kind → IsReachedOn t → (parties : List ℕ) (p : ℕ) (rounds : List (List (Turn T)))
    → AreAllowedOn t (turns_of rounds) → AllByRecursion (IsAmong parties) (turns_of rounds)
    → StepsInEach p t rounds
    → load (bound (length parties) t.world.capacity t.world.coding.size) (pending parties t.world + begins_in (turns_of rounds)) < length rounds
    → RestsInOne p t rounds

-- `EndsInRounds` for runs in which `Such` holds for each call that begins, before and during the rounds.
abbrev pub EndsInRoundsOf : (T : Type 0) → Kind → (Start T → Type 0) → Bound → Type 0
EndsInRoundsOf T kind Such bound =
    (t : Trace T) → t.world.kind ≡ kind → (r : IsReachedOn t) → AllByRecursion (BeginsSuch Such) r.turns
    → (parties : List ℕ) (p : ℕ) (rounds : List (List (Turn T)))
    → AreAllowedOn t (turns_of rounds) → AllByRecursion (IsAmong parties) (turns_of rounds)
    → AllByRecursion (BeginsSuch Such) (turns_of rounds)
    → StepsInEach p t rounds
    → load (bound (length parties) t.world.capacity t.world.coding.size) (pending parties t.world + begins_in (turns_of rounds)) < length rounds
    → RestsInOne p t rounds

-- `EndsInRounds` for a machine as it runs, which has a number of parties and refuses turns past its last one.
abbrev pub EndsInRoundsRuns : Type 0 → Kind → Bound → Type 0
EndsInRoundsRuns T kind bound =
    (t : Trace T) → t.world.kind ≡ kind → IsReached t → (p : ℕ) (rounds : List (List (Turn T)))
    → AreAllowed t (turns_of rounds)
    → StepsInEach p t rounds
    → load (bound t.world.parties t.world.capacity t.world.coding.size)
    (pending (parties_below t.world.parties) t.world + begins_in (turns_of rounds)) < length rounds
    → RestsInOne p t rounds

-- On whatever endless schedule of these parties on which at most `calls` calls begin: each party to which the
-- schedule is fair comes to a moment at which it has no call under way.
abbrev pub EndsIfFair : Type 0 → Kind → Bound → Type 0
EndsIfFair T kind bound =
    (t : Trace T) → t.world.kind ≡ kind → IsReachedOn t → (parties : List ℕ) (calls : ℕ) (turns : ℕ → Turn T)
    → ((k : ℕ) → call_refusal (moment t turns k).world (turns k) ≡ None)
    → ((k : ℕ) → IsAmong parties (turns k))
    → ((k : ℕ) → begins_by turns k ≤ calls)
    → (p : ℕ) → IsFair t turns p
    → (k : ℕ) × (flight_in (moment t turns k).world p ≡ None)
