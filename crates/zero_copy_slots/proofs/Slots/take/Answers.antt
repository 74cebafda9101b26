-- `Slots::take` (src/lib.rt): its call of `turn` meets the requirement `slot`, its call of `look` meets what that requires, its result
-- meets the invariant `at`, and its return meets the clauses `refused` and `slot`.
use Rattle.std.proofs.Common.{◌∙◌, sym}
use Rattle.zero_copy_slots.proofs.Ranges.{is_slot, is_past}
use Rattle.zero_copy_slots.proofs.Slots.take.Goals as goal

pub returns-in_default-clause-refused : goal.returns-in_default-clause-refused
returns-in_default-clause-refused g c = is_past _ _ _ _ c.deref.ensures.value c.args.self.now.numbered c.in_default.ensures.lookup.3

pub look-seen-requires : goal.look-seen-requires
look-seen-requires g c =
    let found = c.in-Some.ensures.lookup in (is_slot _ _ _ _ c.deref.ensures.value c.args.self.now.numbered _ found.1 found.3.0).0

pub turn-claim-requires-clause-slot : goal.turn-claim-requires-clause-slot
turn-claim-requires-clause-slot g c =
    let found = c.in-Some.ensures.lookup in
    (is_slot _ _ _ _ c.deref.ensures.value c.args.self.now.numbered _ found.1 found.3.0).0 ∙ sym c.look-seen.ensures

pub invariant_of-result-clause-at : goal.invariant_of-result-clause-at
invariant_of-result-clause-at g c = c.turn-claim.ensures.tag ∙ c.look-seen.ensures

-- the right to write is to the cell of the slot, which there is
pub returns-clause-slot : goal.returns-clause-slot
returns-clause-slot g c =
    let found = c.in-Some.ensures.lookup in (
      c.turn-claim.ensures.tag ∙ c.look-seen.ensures,
      (is_slot _ _ _ _ c.deref.ensures.value c.args.self.now.numbered _ found.1 found.3.0).1,
    )
