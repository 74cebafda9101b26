-- `tell_more` (src/explained.rt): where memory was refused, that it was comes behind what was told before.
use Rattle.schedule.proofs.Writing.{grows_then}
use Rattle.schedule.proofs.explained.tell_more.Goals as goal

pub returns-then-is_err : goal.returns-then-is_err
returns-then-is_err g c = let told = c.status-exit.ensures.told in grows_then _ _ _ c.tell_text.ensures (told.0, told.3)
