-- Where the calls of a load end, in rounds and on fair schedules: for each kind with a bound on the steps
-- until a call ends, one line a kind.
use Rattle.std.specs.Prelude.{IfSome}
use Rattle.model.specs.declared.turn.Kind.{Kind}
use Rattle.model.specs.declared.turn.Kind.TheVariants.{IndexQueue, Overflow, Queue, Atomic, Bits, Counts, Indices, Robust, Container, Loan}
use Rattle.model.specs.Fair.{EndsInRounds, EndsInRoundsOf, EndsInRoundsRuns, EndsIfFair}
use Rattle.model.specs.Loads.{EndsLoad, EndsLoadOf, EndsLoadRuns}
use Rattle.std.proofs.Common.{refl}
use Rattle.model.specs.Refusals.{refusal_of}
use Rattle.model.specs.LockFree.{IsAmong, KeepsEnding, IsDefault, lock_free_bound, default_bound, default_container_bound, parties_below}
use Rattle.model.proofs.LockFree.Fairly.{rounds_end, rounds_end_of, rounds_end_runs, fair_end}
use Rattle.model.proofs.LockFree.Loads.{loads_end, loads_end_of, load_within}
use Rattle.model.proofs.LockFree.Machines.{all_allowed, loads_in_runs}
use Rattle.model.proofs.Rows.{possible}
use Rattle.laws_loan.specs.LockFree.{channel_bound}
use Rattle.machine.proofs.LockFree.{if_some, keep_ending, robust_keeps_ending, container_keeps_ending, channel_keeps_ending}

-- for each kind with a bound that makes it lock-free: the calls under way and those that begin take at most
-- their load in steps
pub load_ends : (T : Type 0) (kind : Kind) → IfSome (lock_free_bound kind) (EndsLoad T kind)
load_ends T kind = if_some (KeepsEnding T kind) (EndsLoad T kind) (lock_free_bound kind) (loads_end kind) (keep_ending T kind)

-- for each such kind: a party that steps in each of more rounds than the load has no call under
-- way as one of them begins
pub ends_in_rounds : (T : Type 0) (kind : Kind) → IfSome (lock_free_bound kind) (EndsInRounds T kind)
ends_in_rounds T kind = if_some (EndsLoad T kind) (EndsInRounds T kind) (lock_free_bound kind) (rounds_end kind) (load_ends T kind)

-- for each such kind: on a schedule on which finitely many calls begin, a party to which the schedule is fair
-- comes to a moment without a call under way
pub ends_if_fair : (T : Type 0) (kind : Kind) → IfSome (lock_free_bound kind) (EndsIfFair T kind)
ends_if_fair T kind = if_some (EndsLoad T kind) (EndsIfFair T kind) (lock_free_bound kind) (fair_end kind) (load_ends T kind)

-- for each such kind: what `load_ends` says, of the machines as they run, with all their parties
pub loads_as_run : (T : Type 0) (kind : Kind) → IfSome (lock_free_bound kind) (EndsLoadRuns T kind)
loads_as_run T IndexQueue = loads_in_runs IndexQueue refl _ (load_ends T IndexQueue)
loads_as_run T Overflow = loads_in_runs Overflow refl _ (load_ends T Overflow)
loads_as_run T Queue = loads_in_runs Queue refl _ (load_ends T Queue)
loads_as_run T Atomic = loads_in_runs Atomic refl _ (load_ends T Atomic)
loads_as_run T Bits = loads_in_runs Bits refl _ (load_ends T Bits)
loads_as_run T Counts = loads_in_runs Counts refl _ (load_ends T Counts)
loads_as_run T Indices = loads_in_runs Indices refl _ (load_ends T Indices)
loads_as_run T Robust = tt
loads_as_run T Container = tt
loads_as_run T Loan = tt

-- robust index sets, in runs in which no call may lock: the calls take at most their load in steps
pub robust_load_ends : (T : Type 0) → EndsLoadOf T Robust IsDefault default_bound
robust_load_ends T = loads_end_of Robust IsDefault default_bound (robust_keeps_ending T)

-- robust index sets, in runs in which no call may lock: a party that steps in each of more rounds than the
-- load has no call under way as one begins
pub robust_in_rounds : (T : Type 0) → EndsInRoundsOf T Robust IsDefault default_bound
robust_in_rounds T = rounds_end_of Robust IsDefault default_bound (robust_load_ends T)

-- containers, in runs in which no call may lock: the calls take at most their load in steps
pub container_load_ends : (T : Type 0) → EndsLoadOf T Container IsDefault default_container_bound
container_load_ends T = loads_end_of Container IsDefault default_container_bound (container_keeps_ending T)

-- containers, in runs in which no call may lock: a party that steps in each of more rounds than the load has
-- no call under way as one begins
pub container_in_rounds : (T : Type 0) → EndsInRoundsOf T Container IsDefault default_container_bound
container_in_rounds T = rounds_end_of Container IsDefault default_container_bound (container_load_ends T)

-- loan channels, as their machines run: the calls take at most their load in steps, with `channel_bound`
pub channel_load_ends : (T : Type 0) → EndsLoadRuns T Loan channel_bound
channel_load_ends T t is r turns all =
    let n = t.world.parties in
    load_within refusal_of possible (parties_below n) (IsAmong (parties_below n)) (λ turn below. below)
    (channel_bound n t.world.capacity t.world.coding.size) t turns all
    (all_allowed t turns n refl all).1 (λ turns all below. channel_keeps_ending T t is r turns all)

-- loan channels, as their machines run: a party that steps in each of more rounds than the load has no call
-- under way as one begins
pub channel_in_rounds : (T : Type 0) → EndsInRoundsRuns T Loan channel_bound
channel_in_rounds T = rounds_end_runs Loan channel_bound (channel_load_ends T)
