-- A call ends whose party goes on: in runs in which only calls of a certain sort begin, and on a fair
-- schedule on which turns may be refused.
use Rattle.std.specs.Prelude.{◌≡◌, ◌⊎◌, ◌<◌, ◌≤◌, ℕ, zero, suc, ◌+◌, true, is_some, None, List}
use Rattle.std.specs.List.{AllByRecursion}
use Rattle.model.specs.declared.event.Start.{Start}
use Rattle.model.specs.declared.turn.Kind.{Kind}
use Rattle.model.specs.declared.turn.Turn.{Turn}
use Rattle.model.specs.Fair.{own_step}
use Rattle.model.specs.Loads.{begun, load, pending}
use Rattle.model.specs.LockFree.{Bound, BeginsSuch, IsAmong, parties_below}
use Rattle.model.specs.Refusals.{call_refusal}
use Rattle.model.specs.Turns.{AreAllowed, IsReached, IsReachedOn, after_turns, attempt_on}
use Rattle.model.specs.World.{Trace, World, flight_in}
use Rattle.headline.specs.Nexts.{begins_of_others, nexts_in, own_ends}

-- In runs in which `Such` holds of each call that begins: a party with a call under way, that goes on in more
-- turns than the load of the calls that were under way and of those that others begin, ends its call.
abbrev pub EndsByTurnsOf : (T : Type 0) → Kind → (Start T → Type 0) → Bound → Type 0
EndsByTurnsOf T kind Such bound =
    (t : Trace T) → t.world.kind ≡ kind → (r : IsReached t) → AllByRecursion (BeginsSuch Such) r.turns
    → (p : ℕ) → is_some (flight_in t.world p) ≡ true
    → (turns : List (Turn T)) → AreAllowed t turns → AllByRecursion (BeginsSuch Such) turns
    → load (bound t.world.parties t.world.capacity t.world.coding.size)
    (pending (parties_below t.world.parties) t.world + begins_of_others p turns) < nexts_in p turns
    → own_ends p t.events < own_ends p (after_turns t turns).events

module _ {T : Type 0} where
  -- The machine and its events after the first k turns of an endless schedule. A turn that is
  -- refused changes nothing.
  abbrev pub moment_on : Trace T → (ℕ → Turn T) → ℕ → Trace T
  moment_on t turns zero = t
  moment_on t turns (suc k) = attempt_on (moment_on t turns k) (turns k)

  -- the turn is not refused, and is a step of the party
  abbrev pub IsStepOf : ℕ → World T → Turn T → Type 0
  IsStepOf p w turn = (call_refusal w turn ≡ None) × (own_step p w turn ≡ 1)

  -- The schedule is fair to a party: after each moment there is one, `at k`, at which the party takes a step
  -- or has no call under way.
  pub record IsFairOn (t : Trace T) (turns : ℕ → Turn T) (p : ℕ) : Type 0 where
    pub at : ℕ → ℕ
    pub later : (k : ℕ) → k ≤ at k
    pub goes : (k : ℕ) → (flight_in (moment_on t turns (at k)).world p ≡ None)
        ⊎ IsStepOf p (moment_on t turns (at k)).world (turns (at k))

-- On whatever endless schedule of these parties, if finitely many calls begin: each party to which the schedule
-- is fair comes to a moment at which it has no call under way. A turn may be refused, so a party may be
-- scheduled that has no call.
abbrev pub EndsIfFairOn : Type 0 → Kind → Bound → Type 0
EndsIfFairOn T kind bound =
    (t : Trace T) → t.world.kind ≡ kind → IsReachedOn t → (parties : List ℕ) (calls : ℕ) (turns : ℕ → Turn T)
    → ((k : ℕ) → IsAmong parties (turns k))
    → ((k : ℕ) → begun (moment_on t turns k).events ≤ begun t.events + calls)
    → (p : ℕ) → IsFairOn t turns p
    → (k : ℕ) × (flight_in (moment_on t turns k).world p ≡ None)
