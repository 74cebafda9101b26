use Rattle.std.proofs.Common.{[]}
use Rattle.uses_news.specs.Marks.{HasRead}
use Rattle.uses_news.proofs.receive_all.Given as given

-- `marks` has the marks of the records that were received
abbrev pub invariant-loop : given.invariant-loop
invariant-loop g l = HasRead [] l.marks.items l.fn.subscriber l.subscriber
