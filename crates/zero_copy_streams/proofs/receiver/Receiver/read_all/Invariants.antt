-- `told` has what was told of each value that was received
use Rattle.std.proofs.Common.{◌≡◌, []}
use Rattle.zero_copy_streams.specs.Ends.{receiver_queue, HasRead}
use Rattle.zero_copy_streams.proofs.receiver.Receiver.read_all.Given as given

abbrev pub invariant-loop : given.invariant-loop
invariant-loop g l = record {
  queue : receiver_queue l.self ≡ receiver_queue l.fn.self;
  read : HasRead g.R.Reads.tells [] l.fn.told.items l.told.items l.fn.self l.self;
}
