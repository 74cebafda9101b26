-- The law `looks_change_nothing` (src/theorems.rt): the lengths, peeks and looks at roles of queues, the load, the version and the look
-- at the role of the single value, and the looks at a flag and at a count change no word.
use Rattle.model.proofs.Looks as looks
use Rattle.machine.proofs.theorems.looks_change_nothing.Goals as goal

pub returns : goal.returns
returns g c code flight are_looks = looks.looks_change_nothing code flight are_looks
