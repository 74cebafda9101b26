-- each try so far was refused, after each the closure was asked once, and it may be called again
use Rattle.std.proofs.Common.{ℕ}
use denote.Param.Members.{Called}
use Rattle.lock_free_waits.specs.Waits.{Times, WentOn}
use Rattle.lock_free_waits.proofs.waits.put_until.Given as given

abbrev pub invariant-loop : given.invariant-loop
invariant-loop g l = record {
  callable : given.S-IsAlwaysCallable g l.stop;
  tries : (n : ℕ) × Times n (WentOn (g.A.Puts.refused l.fn.value) (λ s answer t. Called g.S.FnMut s _ answer t)) (l.fn.to, l.fn.stop) (l.to, l.stop);
}
