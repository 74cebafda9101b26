-- `Slots::read` (src/lib.rt): its loop begins with its invariant, and its return meets the clause `refused`.
use Rattle.std.proofs.Common.{arith}
use Rattle.zero_copy_slots.proofs.Ranges.{is_slot, is_past}
use Rattle.zero_copy_slots.proofs.Slots.read.Goals as goal

pub returns-in_default-clause-refused : goal.returns-in_default-clause-refused
returns-in_default-clause-refused g c = is_past _ _ _ _ c.deref.ensures.value c.args.self.now.numbered c.in_default.ensures.lookup.3

pub loop-tries-init : goal.loop-tries-init
loop-tries-init g c =
    let found = c.in-Some.ensures.lookup in
    let is = is_slot _ _ _ _ c.deref.ensures.value c.args.self.now.numbered _ found.1 found.3.0 in (is.0, is.1, omega arith)
