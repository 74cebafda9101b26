-- `Container::get_state` (src/container.rt): its return meets the clauses `of` and `shows`.
use Rattle.plain.proofs.Elements.Snapshots.{got}
use Rattle.plain.proofs.container.Container.get_state.Goals as goal

-- its return meets the clause `of`
pub returns-clause-of : goal.returns-clause-of
returns-clause-of g c =
    (got g.T.Words.value_of c.self.inside.id c.self.invariant.0 c.self.view_is c.in_ok-state.ensures.container
    c.in_ok-state.ensures.capacity c.in_ok-state.ensures.seen c.in_ok-state.ensures.shown c.bring_up.ensures.brought).0

-- its return meets the clause `shows`
pub returns-clause-shows : goal.returns-clause-shows
returns-clause-shows g c =
    (got g.T.Words.value_of c.self.inside.id c.self.invariant.0 c.self.view_is c.in_ok-state.ensures.container
    c.in_ok-state.ensures.capacity c.in_ok-state.ensures.seen c.in_ok-state.ensures.shown c.bring_up.ensures.brought).1
