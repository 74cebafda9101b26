-- `read` of `Marks` (src/main.rt): its return meets what it ensures of a block that has the mark of a number (`IsBlockOf`).
use Rattle.std.proofs.Common.{refl}
use Rattle.uses_blocks.specs.Marks.{IsBlockOf}
use Rattle.uses_blocks.proofs.MarksReadsBlockMarkedU64.read.Goals as goal

pub returns : goal.returns
unfolding IsBlockOf
returns c number block = rw (c.copied.ensures, c.first.ensures.value, c.deref.ensures.value, block) refl
