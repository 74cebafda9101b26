-- The law `single_value` (src/lib.rt): the single value of one word, which one party stores and any loads: the theorem of its page.
use Rattle.pages.proofs.Value.{linearizable}
use Rattle.pages.proofs.single_value.Goals as goal

pub returns : goal.returns
returns c = linearizable
