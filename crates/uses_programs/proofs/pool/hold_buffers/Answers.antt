-- `hold_buffers` (src/pool.rt): its return meets the clauses `apart` and `none`.
use Rattle.uses_programs.proofs.Names.{rules, holds_apart, none_out}
use Rattle.uses_programs.proofs.pool.hold_buffers.Goals as goal

pub returns-clause-apart : goal.returns-clause-apart
returns-clause-apart g c = search (rules, holds_apart)

pub returns-clause-none : goal.returns-clause-none
returns-clause-none g c =
    let left = c.borrowed_indices-left.ensures in
    none_out c.in-Ok.pass c.in_ok-held.held c.in_ok-held.indices.items (search rules) (search rules)
    c.give_back.ensures left.same left.counted.counted left.counted.whole
