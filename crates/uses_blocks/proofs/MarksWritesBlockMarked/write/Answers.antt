-- `write` of `Marks` (src/main.rt): its return meets what it ensures: where it is true, the block has the mark of the number (`IsBlockOf`).
use Rattle.std.proofs.Common.{◌+◌, ◌*◌, ap, sym, ◌∙◌, replicate}
use Rattle.uses_blocks.specs.Marks.{IsBlockOf}
use Rattle.uses_blocks.proofs.MarksWritesBlockMarked.write.Goals as goal

pub returns : goal.returns
unfolding IsBlockOf
returns c is_true =
    c.fill.ensures.items (λ y is. is) ∙ ap (λ n. replicate n (3 * c.args.number + 1)) (sym c.len.ensures ∙ c.if-len-ne-WORDS.false)
