-- `Slots::new` (src/lib.rt): each iteration keeps the invariant of its loop.
use Rattle.std.proofs.Common.{◌∷◌, ◌++◌, ◌∙◌, [], ap, arith}
use Rattle.zero_copy_slots.proofs.Ranges.{range_more}
use Rattle.zero_copy_slots.proofs.Slots.new.Goals as goal

-- one more cell is appended, with the next number as its tag
pub loop-slot-preserved : goal.loop-slot-preserved
loop-slot-preserved g c =
    let slot = c.loop-slot.slot-counter in
    c.in_ok-push.ensures.items
    ∙ (ap (λ tag. c.loop-slot.cells.items ++ tag ∷ []) c.new.ensures
    ∙ (ap (λ tags. tags ++ slot ∷ []) c.loop-slot.invariant ∙ range_more 0 slot slot (omega arith)))
