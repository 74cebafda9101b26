-- `Sender::send_all` (src/ends/waits.rt): the invariant of its loop holds at the start and after each iteration.
use Rattle.std.proofs.Common.{refl, sym, append-nil, append_assoc, rules}
use Rattle.std.proofs.lemmas.List.{take_more}
use Rattle.uses_streams.proofs.ends.Sender.send_all.Goals as goal

pub loop-value-init : goal.loop-value-init
loop-value-init g c = (refl, sym (append-nil _))

pub loop-value-preserved : goal.loop-value-preserved
loop-value-preserved g c = search (rules, append_assoc, take_more)
