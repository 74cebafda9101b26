-- `Channel::new` (src/channel.rt): its return meets the clause `fresh`.
use Rattle.std.proofs.Common.{rules}
use Rattle.zero_copy_loans.proofs.Relayed.{starts_at}
use Rattle.zero_copy_loans.proofs.channel.Channel.new.Goals as goal

pub returns-clause-fresh : goal.returns-clause-fresh
returns-clause-fresh g c = starts_at _ c.args.queue _ (search rules)
