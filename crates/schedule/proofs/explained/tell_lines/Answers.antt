-- `tell_lines` (src/explained.rt): what the pen has at the end comes behind what the lines told.
use Rattle.schedule.proofs.Writing.{grows_then}
use Rattle.schedule.proofs.explained.tell_lines.Goals as goal

-- where memory was refused for the end
pub returns-in_err-put_rest : goal.returns-in_err-put_rest
returns-in_err-put_rest g c = grows_then _ _ _ c.lines-ended.ensures c.put_rest.ensures

-- where the end was told
pub returns : goal.returns
returns g c = grows_then _ _ _ c.lines-ended.ensures c.put_rest.ensures
