-- `cell_word` (src/queues/ring.rt): its return is the first word of the cell of this position.
use Rattle.std.proofs.Common.{rules, ◌≡◌, ◌-◌, ◌%◌, ◌<◌, bit_and, arith}
use Rattle.steps.proofs.Masks.{masked}
use Rattle.steps.proofs.queues.ring.cell_word.Goals as goal

-- for a capacity that is a power of two, the lower bits of a position are its remainder
pub returns-then-capacity-eq0-2 : goal.returns-then-capacity-eq0-2
returns-then-capacity-eq0-2 c =
    let some : 0 < c.args.capacity = search rules in
    let alone : bit_and c.args.capacity (c.args.capacity - 1) ≡ 0 = search rules in
    let left : bit_and c.args.position (c.args.capacity - 1) ≡ c.args.position % c.args.capacity =
    masked c.args.capacity c.args.position c.args.capacity (omega arith) some alone in
    rw left (search rules)
