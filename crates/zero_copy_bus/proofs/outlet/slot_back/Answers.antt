-- `slot_back` (src/outlet.rt): its return meets what it ensures.
use Rattle.std.proofs.Common.{Some, ap, sym, ◌∙◌}
use Rattle.zero_copy_bus.specs.Words.{slot_back}
use Rattle.zero_copy_bus.proofs.Words.{slot_in_word}
use Rattle.zero_copy_bus.proofs.outlet.slot_back.Goals as goal

-- the slot that the word names is what its parts say
pub returns-in-Some : goal.returns-in-Some
returns-in-Some c =
    ap Some (slot_in_word _ c.parts.result.0 c.parts.result.1 _ c.parts.ensures.is c.parts.ensures.within)
    ∙ ap (slot_back c.args.layout.now.room) (sym c.in-Some.is)
