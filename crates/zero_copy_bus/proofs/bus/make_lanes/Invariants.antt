use Rattle.std.proofs.Common.{◌≡◌, ◌-◌, ◌^◌, ◌<◌, None}
use Rattle.steps.specs.Enums.{capacity_refusal}
use Rattle.zero_copy_bus.proofs.bus.make_lanes.Given as given

-- once a lane was made, its queue was admitted
abbrev pub invariant-loop : given.invariant-loop
invariant-loop l = 0 < l.counter → capacity_refusal 0 (2 ^ 32 - 1) l.sizes.queue ≡ None
