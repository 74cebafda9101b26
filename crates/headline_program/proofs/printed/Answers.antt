-- The law `printed` (src/lib.rt): where the first line of an input makes a machine, the program's output for it is made of the events of
-- such a machine that turns have reached, in order, and of why turns were refused; that a run writes this output, for the turns to which
-- memory was refused, says `schedule::run`.
use Rattle.headline_program.proofs.Printing.{printed_input}
use Rattle.headline_program.proofs.printed.Goals as goal

pub returns : goal.returns
returns g c refusals input first rest setup split is = printed_input refusals input first rest setup split is
