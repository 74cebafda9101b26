-- `Machine::run_all` (src/lib.rt): the invariant of its loop holds at the start and after each iteration, and its return meets the
-- clauses `refused`, `each_before` and `each`.
use Rattle.std.proofs.Common.{◌≡◌, ◌<◌, IfSome, Some, length, take, slice_get, refl, sym, subst, ap, ◌∙◌, arith}
use Rattle.std.proofs.Math.Seq.{take-length}
use Rattle.std.proofs.lemmas.Option.{slice_get_read}
use Rattle.model.specs.Coding.{coding_by}
use Rattle.model.specs.Refusals.{IsRefusal}
use Rattle.model.specs.Turns.{IsReached}
use Rattle.model.specs.World.{State, trace_in, world_in}
use Rattle.model.proofs.Orders.{reached_kept, reached_turns}
use Rattle.model.proofs.Reached.{one_more}
use Rattle.machine.proofs.Laws.{laws_of}
use Rattle.machine.proofs.Machine.run_all.Goals as goal

-- the invariant of the loop holds at its start
pub loop-taken-init : goal.loop-taken-init
loop-taken-init g c =
    record {
      allowed = tt;
      taken = refl;
      kept =
          reached_kept laws_of (trace_in (coding_by g.T.Words) c.args.self.now)
          (subst (λ (s : State _). IsReached (trace_in (coding_by g.T.Words) s))
          c.self.view_is c.self.invariant);
    }

-- each iteration keeps the invariant of the loop
pub loop-taken-preserved : goal.loop-taken-preserved
loop-taken-preserved g c =
    let within : c.loop-taken.taken < length c.args.turns.now = omega arith in
    let more =
    one_more (trace_in (coding_by g.T.Words) c.args.self.now)
    (trace_in (coding_by g.T.Words) c.loop-taken.self)
    (trace_in (coding_by g.T.Words) c.step.new.self) c.args.turns.now
    c.loop-taken.taken c.index-turns-taken.result within c.index-turns-taken.is
    c.loop-taken.invariant.allowed
    c.loop-taken.invariant.taken
    c.in_default.ensures.allowed
    c.in_default.ensures.ok
    in
    record { allowed = more.0; taken = more.1; kept = c.in_default.ensures.kept }

-- where the answer is `Err`, its return meets the clause `refused`: the machine refuses the next turn for this reason
pub returns-in-Err-clause-refused : goal.returns-in-Err-clause-refused
returns-in-Err-clause-refused g c =
    let within : c.loop-taken.taken < length c.args.turns.now = omega arith in
    let here : slice_get c.args.turns.now c.loop-taken.taken ≡ Some c.index-turns-taken.result =
    slice_get_read c.args.turns.now (length c.args.turns.now) c.loop-taken.taken c.index-turns-taken.result refl within c.index-turns-taken.is
    in
    let why =
    subst (λ (s : State _). IsRefusal (world_in (coding_by g.T.Words) s)
    c.index-turns-taken.result c.in-Err.refusal)
    (sym c.in-Err.ensures.err) c.in-Err.ensures.refused in
    subst (λ o. IfSome o (λ turn. IsRefusal (world_in (coding_by g.T.Words) c.step.new.self)
    turn c.in-Err.refusal))
    (sym here) why

-- where the answer is `Err`, its return meets the clause `each_before`: the turns taken before do what is promised of each
pub returns-in-Err-clause-each_before : goal.returns-in-Err-clause-each_before
returns-in-Err-clause-each_before g c =
    reached_turns laws_of (trace_in (coding_by g.T.Words) c.args.self.now)
    (take c.loop-taken.taken c.args.turns.now)
    (subst (λ (s : State _). IsReached (trace_in (coding_by g.T.Words) s))
    c.self.view_is c.self.invariant)
    c.loop-taken.invariant.allowed

-- where the answer is `Ok`, its return meets the clause `each`: all the turns do what is promised of each turn
pub returns-clause-each : goal.returns-clause-each
returns-clause-each g c =
    let all : c.loop-taken.taken ≡ length c.args.turns.now = omega arith in
    let whole : take c.loop-taken.taken c.args.turns.now ≡ c.args.turns.now = ap (λ n. take n c.args.turns.now) all ∙ take-length c.args.turns.now in
    reached_turns laws_of (trace_in (coding_by g.T.Words) c.args.self.now)
    c.args.turns.now
    (subst (λ (s : State _). IsReached (trace_in (coding_by g.T.Words) s))
    c.self.view_is c.self.invariant)
    (rw whole at c.loop-taken.invariant.allowed)
