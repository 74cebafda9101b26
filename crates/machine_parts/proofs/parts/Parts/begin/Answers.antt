-- `Parts::begin` (src/parts.rt): its return meets the clauses `allowed` and `refused`.
use Rattle.std.proofs.Common.{◌≡◌, ◌<◌, ◌≤◌, inl, inr, ⊎_elim, true, false, is_some, refl, sym, subst, arith}
use Rattle.std.proofs.lemmas.Result.{err_from_is_err_and}
use Rattle.std.specs.Prelude.{IfErr}
use Rattle.model.specs.declared.turn.Turn.TheVariants.{Begin}
use Rattle.model.specs.Coding.{coding_by}
use Rattle.model.specs.Refusals.{IsRefusal}
use Rattle.model.specs.World.{flight_in}
use Rattle.machine_parts.specs.Parts.{trace_of}
use Rattle.machine_parts.proofs.Going.{begin_passes, begin_refuses, begins_nowhere, is_busy, none_found, some_found}
use Rattle.machine_parts.proofs.parts.Parts.begin.Goals as goal

-- a begin that is taken is not refused by the machine
pub returns-clause-allowed : goal.returns-clause-allowed
returns-clause-allowed g c =
    let w = (trace_of (coding_by g.T.Words) c.args.self.now).world in
    let within : c.args.number < c.args.self.now.parties = omega arith in
    let free : is_some (flight_in w c.args.number) ≡ false =
    none_found c.flight_of.result (flight_in w c.args.number) c.flight_of.ensures c.if-is_some.ensures in
    begin_passes w c.args.number c.args.start c.requires within free c.in_ok-flight.ensures.allowed

-- where the family refuses the begin, or memory for the call is refused, the machine refuses it so
pub returns-in_err-flight-clause-refused : goal.returns-in_err-flight-clause-refused
returns-in_err-flight-clause-refused g c =
    let w = (trace_of (coding_by g.T.Words) c.args.self.now).world in
    let within : c.args.number < c.args.self.now.parties = omega arith in
    let free : is_some (flight_in w c.args.number) ≡ false =
    none_found c.flight_of.result (flight_in w c.args.number) c.flight_of.ensures c.if-is_some.ensures in
    let turn = Begin c.args.number c.args.start in
    let refused : IsRefusal w turn c.in_err-flight.field-0.0 = ⊎_elim
    (λ row. inl (begin_refuses w c.args.number c.args.start c.in_err-flight.field-0.0 c.requires within free row))
    (λ memory. inr (begin_passes w c.args.number c.args.start c.requires within free memory.0, memory.1))
    c.in_err-flight.ensures.refused
    in
    let passed = err_from_is_err_and c.from_residual.result c.from_residual.ensures.1 in
    subst (λ r. IfErr r (IsRefusal w turn)) (sym passed.1)
    (subst (λ row. IsRefusal w turn row) (sym passed.2) refused)

-- where memory for the event is refused, the machine would not refuse the begin
pub returns-in_default-clause-refused : goal.returns-in_default-clause-refused
returns-in_default-clause-refused g c =
    let w = (trace_of (coding_by g.T.Words) c.args.self.now).world in
    let within : c.args.number < c.args.self.now.parties = omega arith in
    let free : is_some (flight_in w c.args.number) ≡ false =
    none_found c.flight_of.result (flight_in w c.args.number) c.flight_of.ensures c.if-is_some.ensures in
    inr (begin_passes w c.args.number c.args.start c.requires within free c.in_ok-flight.ensures.allowed, refl)

-- where memory for the party is refused, the machine would not refuse the begin
pub returns-then-not-enter-clause-refused : goal.returns-then-not-enter-clause-refused
returns-then-not-enter-clause-refused g c =
    let w = (trace_of (coding_by g.T.Words) c.args.self.now).world in
    let within : c.args.number < c.args.self.now.parties = omega arith in
    let free : is_some (flight_in w c.args.number) ≡ false =
    none_found c.flight_of.result (flight_in w c.args.number) c.flight_of.ensures c.if-is_some.ensures in
    inr (begin_passes w c.args.number c.args.start c.requires within free c.in_ok-flight.ensures.allowed, refl)

-- where the machine does not have the party, it refuses the begin as `NoParty`
pub returns-then-number-self-clause-refused : goal.returns-then-number-self-clause-refused
returns-then-number-self-clause-refused g c =
    let w = (trace_of (coding_by g.T.Words) c.args.self.now).world in
    let beyond : c.args.self.now.parties ≤ c.args.number = omega arith in
    inl (begins_nowhere w c.args.number c.requires c.args.start beyond)

-- where the party has a call under way, the machine refuses the begin as Busy
pub returns-then-is_some-clause-refused : goal.returns-then-is_some-clause-refused
returns-then-is_some-clause-refused g c =
    let w = (trace_of (coding_by g.T.Words) c.args.self.now).world in
    let within : c.args.number < c.args.self.now.parties = omega arith in
    let taken : is_some (flight_in w c.args.number) ≡ true =
    some_found c.flight_of.result (flight_in w c.args.number) c.flight_of.ensures c.if-is_some.ensures in
    inl (is_busy w c.args.number c.requires c.args.start within taken)
