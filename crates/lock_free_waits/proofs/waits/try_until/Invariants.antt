-- each try so far brought nothing, after each the closure was asked once, and it may be called again
use Rattle.std.proofs.Common.{ℕ}
use denote.Param.Members.{Called}
use Rattle.lock_free_waits.specs.Waits.{Times, WentOn}
use Rattle.lock_free_waits.proofs.waits.try_until.Given as given

abbrev pub invariant-loop : given.invariant-loop
invariant-loop g l = record {
  callable : given.S-IsAlwaysCallable g l.stop;
  tries : (n : ℕ) × Times n (WentOn g.A.Tries.nothing (λ s answer t. Called g.S.FnMut s _ answer t)) (l.fn.tried, l.fn.stop) (l.tried, l.stop);
}
