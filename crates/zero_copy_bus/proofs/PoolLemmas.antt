-- Two calls that each leave a pool's set, share and number of slots leave them together.
use Rattle.std.proofs.Common.{arith}
use Rattle.zero_copy_bus.specs.declared.pool.Pool.{Pool}
use Rattle.zero_copy_bus.specs.Pools.{IsSame}

pub same_both : (one two three : Pool) → IsSame one two → IsSame two three → IsSame one three
same_both one two three first_same second_same = grind arith
