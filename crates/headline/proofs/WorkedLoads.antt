-- A load at small sizes, of the kind whose bound stands in its own crate.
use Rattle.std.proofs.Common.{◌≡◌, refl}
use Rattle.model.specs.Loads.{load}
use Rattle.laws_loan.specs.LockFree.{channel_bound}

-- of two parties that have a call each, and begin no other
channel_load : load (channel_bound 2 8 1) 2 ≡ 232
channel_load = refl
