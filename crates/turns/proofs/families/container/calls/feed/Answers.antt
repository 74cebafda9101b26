-- `feed` (src/families/container/calls.rt): its return meets the clause `after`.
use Rattle.std.proofs.Common.{◌≡◌, Some, None, refl, sym}
use Rattle.model.specs.Families.Container.States.{state_of}
use Rattle.turns.proofs.families.container.calls.feed.Goals as goal
use Rattle.turns.proofs.families.container.calls.feed.Goals.{in-Some, in-None}

-- a look of a state goes on with the state of its party, and not where that has none
pub returns-after-get_mut-clause-after : goal.returns-after-get_mut-clause-after
returns-after-get_mut-clause-after g c =
    elim c.match-get_mut.branch [
      | in-Some w ↦
          let found : state_of c.args.number c.states.inside.of.entries ≡ Some w.in-Some.state.now = sym w.in-Some.ensures.value in
          rw (w.flight-is, w.result-is, c.in-Look.is, ← c.states.view_is, found) w.look_on.ensures.after
      | in-None w ↦
          let none : state_of c.args.number c.states.inside.of.entries ≡ None = sym w.in-None.ensures.value in
          rw (w.flight-is, w.result-is, c.in-Look.is, ← c.states.view_is, none) refl
    ]
