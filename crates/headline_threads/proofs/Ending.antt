-- Of which kinds calls, and finite loads, end between threads.
use Rattle.std.specs.Prelude.{IfSome}
use Rattle.std.proofs.Common.{Option, Some, None, arith}
use Rattle.model.specs.declared.event.Start.{Start}
use Rattle.model.specs.declared.turn.Kind.{Kind}
use Rattle.model.specs.declared.turn.Kind.TheVariants.{IndexQueue, Overflow, Queue, Atomic, Bits, Counts, Indices, Robust, Container, Loan}
use Rattle.model.specs.LockFree.{Bound, KeepsEnding, IsDefault, lock_free_bound, default_bound, default_container_bound}
use Rattle.model.specs.Refusals.{call_refusal}
use Rattle.model.proofs.LockFree.Weighed.{KeepsEndingBy}
use Rattle.model.proofs.Rows.{possible_on}
use Rattle.laws_container.proofs.LockFree.{container_keeps_ending_by}
use Rattle.model.specs.Open.{open_refusal}
use Rattle.laws_robust.proofs.LockFree.{default_keeps_ending_by}
use Rattle.lemmas.proofs.Open.{possible_open}
use Rattle.machine.proofs.LockFree.{if_some, keep_ending}
use Rattle.headline_threads.specs.Ends.{PassesEnd, PassesKeepEnding, KnownKeepsEnding, PassesEndLoad, KnownEndsLoad, KnownAsksLoad, PassesRest}
use Rattle.headline_threads.specs.Ends.{PassesEndOf, PassesKeepEndingOf, KnownKeepsEndingOf, PassesEndLoadOf, KnownEndsLoadOf, KnownAsksLoadOf, PassesRestOf}
use Rattle.headline_threads.proofs.Knowing.{Runs, between, one_more, load_between, rests_between, known, load_known}
use Rattle.headline_threads.proofs.Passing.{any_such}

-- What is known of the runs of a kind, whichever calls begin.
abbrev RunsOfAny : (T : Type 0) → Kind → Bound → Type 0
RunsOfAny T kind bound = Runs {T = T} kind (λ start. Unit {0}) bound

-- ---- the kinds that have a bound, whose runs are closed

-- What a kind keeps of ending calls holds, too, if any start is allowed.
of_any : {T : Type 0} (kind : Kind) (bound : Bound) → KeepsEnding T kind bound → KeepsEndingBy {T = T} call_refusal kind (λ start. Unit {0}) bound
of_any kind bound keeps t is r before ps turns allowed below such = keeps t is r ps turns allowed below

-- the bound of a kind that has one
abbrev its : Option Bound → Bound
its None = λ n capacity size. 0
its (Some bound) = bound

-- each kind that has a bound keeps ending calls, whichever begin
runs_of : (T : Type 0) (kind : Kind) → IfSome (lock_free_bound kind) (RunsOfAny T kind)
runs_of T IndexQueue = record { possible = possible_on; keeps = of_any IndexQueue (its (lock_free_bound IndexQueue)) (keep_ending T IndexQueue) }
runs_of T Overflow = record { possible = possible_on; keeps = of_any Overflow (its (lock_free_bound Overflow)) (keep_ending T Overflow) }
runs_of T Queue = record { possible = possible_on; keeps = of_any Queue (its (lock_free_bound Queue)) (keep_ending T Queue) }
runs_of T Atomic = record { possible = possible_on; keeps = of_any Atomic (its (lock_free_bound Atomic)) (keep_ending T Atomic) }
runs_of T Bits = record { possible = possible_on; keeps = of_any Bits (its (lock_free_bound Bits)) (keep_ending T Bits) }
runs_of T Counts = record { possible = possible_on; keeps = of_any Counts (its (lock_free_bound Counts)) (keep_ending T Counts) }
runs_of T Indices = record { possible = possible_on; keeps = of_any Indices (its (lock_free_bound Indices)) (keep_ending T Indices) }
runs_of T Robust = tt
runs_of T Container = tt
runs_of T Loan = tt

-- ---- those whose runs are open

robust_default : (T : Type 0) → Runs {T = T} Robust IsDefault default_bound
robust_default T = record { possible = possible_open; keeps = default_keeps_ending_by {T = T} open_refusal possible_open }

container_default : (T : Type 0) → Runs {T = T} Container IsDefault default_container_bound
container_default T = record { possible = possible_open; keeps = container_keeps_ending_by {T = T} open_refusal possible_open }

-- ---- what follows

-- all that follows where any call may begin
pub record EndsAll (T : Type 0) (kind : Kind) (bound : Bound) : Type 0 where
  -- calls end: between two times, and as often as the steps have the bound
  pub end : PassesEnd T kind bound
  pub keep : PassesKeepEnding T kind bound
  pub known : KnownKeepsEnding T kind bound
  -- finite loads end: the steps, the operations of a pass, and rounds
  pub between : PassesEndLoad T kind bound
  pub load : KnownEndsLoad T kind bound
  pub asks : KnownAsksLoad T kind bound
  pub rest : PassesRest T kind bound

-- all that follows where no call begins but those for which `Such` holds
pub record EndsSuch (T : Type 0) (kind : Kind) (Such : Start T → Type 0) (bound : Bound) : Type 0 where
  -- calls end: between two times, and as often as the steps have the bound
  pub end : PassesEndOf T kind Such bound
  pub keep : PassesKeepEndingOf T kind Such bound
  pub known : KnownKeepsEndingOf T kind Such bound
  -- finite loads end: the steps, the operations of a pass, and rounds
  pub between : PassesEndLoadOf T kind Such bound
  pub load : KnownEndsLoadOf T kind Such bound
  pub asks : KnownAsksLoadOf T kind Such bound
  pub rest : PassesRestOf T kind Such bound

-- of a kind that keeps ending the calls for which `Such` holds, all follows that `EndsSuch` says
such_end : {T : Type 0} (kind : Kind) (Such : Start T → Type 0) (bound : Bound) → Runs kind Such bound → EndsSuch T kind Such bound
such_end kind Such bound R =
    record {
      end = one_more kind Such bound R;
      keep = between kind Such bound R;
      known = known kind Such bound R;
      between = load_between kind Such bound R;
      load = load_known kind Such bound R;
      -- the operations that a pass asked for are some of the table's steps, so they are within the load
      asks = λ code capacity v knows ps among such.
          (let most = knows.asked.most in let all = load_known kind Such bound R code capacity v knows ps among such in omega arith);
      rest = rests_between kind Such bound R;
    }

-- of a kind that keeps ending calls, whichever begin, all follows that `EndsAll` says
all_end : {T : Type 0} (kind : Kind) (bound : Bound) → RunsOfAny T kind bound → EndsAll T kind bound
all_end kind bound R =
    let such = such_end kind (λ start. Unit {0}) bound R in
    record {
      end = λ code capacity old new knows later ps among. such.end code capacity old new knows later ps among (any_such new.seen);
      keep = λ code capacity old new knows later ps among. such.keep code capacity old new knows later ps among (any_such new.seen);
      known = λ code capacity v knows ps among. such.known code capacity v knows ps among (any_such v.seen);
      between = λ code capacity old new knows later ps among. such.between code capacity old new knows later ps among (any_such new.seen);
      load = λ code capacity v knows ps among. such.load code capacity v knows ps among (any_such v.seen);
      asks = λ code capacity v knows ps among. such.asks code capacity v knows ps among (any_such v.seen);
      rest = λ code capacity old new knows later ps among. such.rest code capacity old new knows later ps among (any_such new.seen);
    }

-- of each kind that has a bound, all follows that `EndsAll` says
pub bounded_ends : (T : Type 0) (kind : Kind) → IfSome (lock_free_bound kind) (EndsAll T kind)
bounded_ends T kind = if_some (RunsOfAny T kind) (EndsAll T kind) (lock_free_bound kind) (all_end kind) (runs_of T kind)

-- what follows from `EndsAll` holds of each kind that has a bound
pub part_ends : (T : Type 0) (kind : Kind) (Part : Bound → Type 0) → ((bound : Bound) → EndsAll T kind bound → Part bound) → IfSome (lock_free_bound kind) Part
part_ends T kind Part part = if_some (EndsAll T kind) Part (lock_free_bound kind) part (bounded_ends T kind)

-- ---- robust sets and containers

-- of robust index sets all follows that `EndsSuch` says, where none may lock
pub robust_by_default : (T : Type 0) → EndsSuch T Robust IsDefault default_bound
robust_by_default T = such_end Robust IsDefault default_bound (robust_default T)

-- of containers all follows that `EndsSuch` says, where none may lock
pub container_by_default : (T : Type 0) → EndsSuch T Container IsDefault default_container_bound
container_by_default T = such_end Container IsDefault default_container_bound (container_default T)
