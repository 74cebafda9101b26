-- Which kinds are lock-free, and that their calls go on ending: one line a kind, from the
-- proof of its family.
use Rattle.std.proofs.Common.{Option, Some, None, refl}
use Rattle.std.specs.Prelude.{IfSome}
use Rattle.model.specs.declared.turn.Kind.{Kind}
use Rattle.model.specs.declared.turn.Kind.TheVariants.{IndexQueue, Overflow, Queue, Atomic, Bits, Counts, Indices, Robust, Container, Loan}
use Rattle.model.specs.declared.families.queues.QueueKind.TheVariants as queue_kinds
use Rattle.model.specs.LockFree.{IsLockFree, KeepsEnding, IsLockFreeOf, KeepsEndingOf, IsDefault, HasLockFreeRuns, lock_free_bound, default_bound}
use Rattle.model.specs.LockFree.{default_container_bound}
use Rattle.model.proofs.LockFree.Machines.{one_call_ends, one_call_ends_of, machines}
use Rattle.laws_bits.proofs.LockFree.{bits_keep_ending, counts_keep_ending}
use Rattle.laws_container.proofs.LockFree as container
use Rattle.laws_indices.proofs.LockFree.{indices_keep_ending}
use Rattle.laws_loan.specs.LockFree.{KeepsEndingRuns, channel_bound}
use Rattle.laws_loan.proofs.LockFree as loan
use Rattle.laws_queues.proofs.LockFree.{queue_keeps_ending}
use Rattle.laws_robust.proofs.LockFree.{default_keeps_ending}
use Rattle.laws_value.proofs.LockFree.{value_keeps_ending}

-- each kind with a bound that makes it lock-free keeps calls ending as that bound says
pub keep_ending : (T : Type 0) (kind : Kind) → IfSome (lock_free_bound kind) (KeepsEnding T kind)
keep_ending T IndexQueue = queue_keeps_ending queue_kinds.IndexQueue
keep_ending T Overflow = queue_keeps_ending queue_kinds.Overflow
keep_ending T Queue = queue_keeps_ending queue_kinds.Queue
keep_ending T Atomic = value_keeps_ending
keep_ending T Bits = bits_keep_ending
keep_ending T Counts = counts_keep_ending
keep_ending T Indices = indices_keep_ending
keep_ending T Robust = tt
keep_ending T Container = tt
keep_ending T Loan = tt

-- where each x with P has Q, an option whose value has P has a value with Q
pub if_some : {A : Type 0} (P Q : A → Type 0) (o : Option A) → ((x : A) → P x → Q x) → IfSome o P → IfSome o Q
if_some P Q None more h = tt
if_some P Q (Some x) more h = more x h

-- each kind with a bound is lock-free: in more steps than that bound a call ends
pub one_ends : (T : Type 0) (kind : Kind) → IfSome (lock_free_bound kind) (IsLockFree T kind)
one_ends T kind = if_some (KeepsEnding T kind) (IsLockFree T kind) (lock_free_bound kind) (one_call_ends kind) (keep_ending T kind)

-- each kind with a bound is lock-free as its machines run, with all their parties
pub as_run : (T : Type 0) (kind : Kind) → IfSome (lock_free_bound kind) (HasLockFreeRuns T kind)
as_run T IndexQueue = machines IndexQueue refl _ (one_ends T IndexQueue)
as_run T Overflow = machines Overflow refl _ (one_ends T Overflow)
as_run T Queue = machines Queue refl _ (one_ends T Queue)
as_run T Atomic = machines Atomic refl _ (one_ends T Atomic)
as_run T Bits = machines Bits refl _ (one_ends T Bits)
as_run T Counts = machines Counts refl _ (one_ends T Counts)
as_run T Indices = machines Indices refl _ (one_ends T Indices)
as_run T Robust = tt
as_run T Container = tt
as_run T Loan = tt

-- robust index sets, in runs in which no call may lock: calls go on ending as `default_bound` says
pub robust_keeps_ending : (T : Type 0) → KeepsEndingOf T Robust IsDefault default_bound
robust_keeps_ending T = default_keeps_ending

-- robust index sets, in runs in which no call may lock: in more steps than `default_bound` a call ends
pub robust_one_ends : (T : Type 0) → IsLockFreeOf T Robust IsDefault default_bound
robust_one_ends T = one_call_ends_of Robust IsDefault default_bound default_keeps_ending

-- containers, in runs in which no call may lock: calls go on ending as `default_container_bound` says
pub container_keeps_ending : (T : Type 0) → KeepsEndingOf T Container IsDefault default_container_bound
container_keeps_ending T = container.container_keeps_ending

-- containers, in runs in which no call may lock: in more steps than `default_container_bound` a call ends
pub container_one_ends : (T : Type 0) → IsLockFreeOf T Container IsDefault default_container_bound
container_one_ends T = one_call_ends_of Container IsDefault default_container_bound container.container_keeps_ending

-- loan channels, as their machines run: calls go on ending as `channel_bound` says
pub channel_keeps_ending : (T : Type 0) → KeepsEndingRuns T Loan channel_bound
channel_keeps_ending T = loan.channel_keeps_ending

-- loan channels, as their machines run: in more steps than `channel_bound` a call ends
pub channel_one_ends : (T : Type 0) → HasLockFreeRuns T Loan channel_bound
channel_one_ends T = loan.channel_one_ends
