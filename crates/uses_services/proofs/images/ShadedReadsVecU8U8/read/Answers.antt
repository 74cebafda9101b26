-- `read` of `Shaded` (src/images.rt): its return meets what it ensures of an image that has the shade of a number (`IsImageOf`).
use Rattle.std.proofs.Common.{refl}
use Rattle.uses_services.specs.Images.{IsImageOf}
use Rattle.uses_services.proofs.images.ShadedReadsVecU8U8.read.Goals as goal

pub returns : goal.returns
unfolding IsImageOf
returns c number image = rw (c.copied.ensures, c.first.ensures.value, c.deref.ensures.value, image) refl
