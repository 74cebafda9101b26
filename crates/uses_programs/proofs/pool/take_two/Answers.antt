-- `take_two` (src/pool.rt): its return meets what it ensures.
use Rattle.uses_programs.proofs.Names.{rules, both_hold}
use Rattle.uses_programs.proofs.pool.take_two.Goals as goal

pub returns : goal.returns
returns g c =
    both_hold c.args.pass c.split.new.self c.in_ok-other.other c.in_ok-joined.joined c.in_ok-further.further c.join.new.self
    c.in_ok-joined.indices.items c.in_ok-further.those.items (search rules) c.split.ensures.set (search rules) (search rules)
    c.join.ensures.same.joined c.join.ensures.same.set (search rules)
