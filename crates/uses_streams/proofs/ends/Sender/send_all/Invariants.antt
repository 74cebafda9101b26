-- the loop has sent the first values of the slice, up to the loop's place
use Rattle.std.proofs.Common.{◌≡◌, ◌++◌, take}
use Rattle.uses_streams.specs.Ends.{sender_queue, sent_so_far}
use Rattle.uses_streams.proofs.ends.Sender.send_all.Given as given

abbrev pub invariant-loop-value : given.invariant-loop-value
invariant-loop-value g l =
    (sender_queue l.self ≡ sender_queue l.fn.self) × (sent_so_far l.self ≡ sent_so_far l.fn.self ++ take l.value-index l.values)
