-- `fill` (src/main.rt): its return meets what it ensures.
use Rattle.std.proofs.Common.{ap, sym, ◌∙◌, replicate}
use Rattle.uses_news.proofs.fill.Goals as goal

pub returns : goal.returns
returns c filled_it = c.fill.ensures.items (λ y is. is) ∙ ap (λ n. replicate n c.args.word) (sym c.len.ensures ∙ c.if-len-ne-WORDS.false)
