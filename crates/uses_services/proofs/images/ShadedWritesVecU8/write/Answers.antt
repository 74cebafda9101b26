-- `write` of `Shaded` (src/images.rt): its return meets what it ensures: where it is true, the image has the shade of the number (`IsImageOf`).
use Rattle.std.proofs.Common.{ap, sym, ◌∙◌, replicate}
use Rattle.std.proofs.lemmas.Bool.{eqb-true}
use Rattle.uses_services.specs.Images.{shade, IsImageOf}
use Rattle.uses_services.proofs.images.ShadedWritesVecU8.write.Goals as goal

pub returns : goal.returns
unfolding IsImageOf
returns c is_whole =
    c.fill.ensures.items (λ y is. is)
    ∙ ap (λ n. replicate n (shade c.args.number)) (sym c.fill.ensures.len ∙ (sym c.len.ensures ∙ eqb-true _ 65536 is_whole))
