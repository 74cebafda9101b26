-- `Channel::passes_on` (src/channel.rt): its return meets the clauses `goes_on` and `tells`.
use Rattle.zero_copy_loans.proofs.Ends.{relayed}
use Rattle.zero_copy_loans.proofs.Relayed.{passed_on}
use Rattle.zero_copy_loans.proofs.channel.Channel.passes_on.Goals as goal

pub returns-clause-goes_on : goal.returns-clause-goes_on
returns-clause-goes_on g c sent back received others came count left last sends sends' receives receives' s r =
    relayed sent back received others came count _ left last sends sends' receives receives' s r

pub returns-clause-tells : goal.returns-clause-tells
returns-clause-tells g c sent back received h = passed_on _ sent back received _ h
