-- `Parts::resume` (src/parts.rt): its call of `take_step` meets the requirement `small`, and its
-- returns meet the clauses `allowed`, `ok`, `refused` and `err`.
use Rattle.std.proofs.Common.{◌≡◌, ◌<◌, ◌≤◌, inl, Some, None, refl, sym, ap, ◌∙◌, arith}
use Rattle.std.proofs.lemmas.Map.Steps.{set_value_same}
use Rattle.std.specs.BTreeMap.{is_at}
use Rattle.std.specs.Ordering.{nat_cmp}
use Rattle.model.specs.Coding.{coding_by}
use Rattle.model.specs.Parties.{party_of, put}
use Rattle.model.proofs.Parties.{set_is_put}
use Rattle.machine_parts.specs.Parts.{trace_of}
use Rattle.machine_parts.proofs.Going.{refusal_is, is_refusal, going_is, goes_on_nowhere, is_idle}
use Rattle.machine_parts.proofs.parts.Parts.resume.Goals as goal

-- the counts of the party that takes the step are small, since those of all parties are
pub take_step-gone-requires-clause-small : goal.take_step-gone-requires-clause-small
take_step-gone-requires-clause-small g c =
    c.requires.small.latest c.args.number c.deref_mut.result.now (sym c.in-Some.ensures.value ∙ ap Some (sym (c.deref_mut.ensures.value ∙ c.seat.view_is)))

-- a turn that is taken is not refused by the machine
pub returns-in-Ok-clause-allowed : goal.returns-in-Ok-clause-allowed
returns-in-Ok-clause-allowed g c =
    let within : c.args.number < c.args.self.now.parties = omega arith in
    let x = c.deref_mut.result.now in
    let found = sym c.in-Some.ensures.value ∙ ap Some (sym (c.deref_mut.ensures.value ∙ c.seat.view_is)) in
    refusal_is (trace_of (coding_by g.T.Words) c.args.self.now).world
    c.args.number c.args.said x c.requires.turns within found
    ∙ c.in-Ok.ensures.allowed

-- a turn that is taken leaves the machine as the turn does
pub returns-in-Ok-clause-ok : goal.returns-in-Ok-clause-ok
returns-in-Ok-clause-ok g c =
    let w = (trace_of (coding_by g.T.Words) c.args.self.now).world in
    let x = c.deref_mut.result.now in
    let y = c.take_step-gone.new.party in
    let found : party_of c.args.number w.latest ≡ Some x = sym c.in-Some.ensures.value ∙ ap Some (sym (c.deref_mut.ensures.value ∙ c.seat.view_is)) in
    let written : (c.get_mut.follows.lender y).entries ≡ put c.args.number y w.latest =
    (c.get_mut.follows.holds y).0 ∙ set_is_put c.args.number y x w.latest c.in-Some.ensures.ordered found
    in
    let is = rw c.look_beside-beside.ensures at c.in-Ok.ensures.ok in
    going_is w c.args.number c.args.said c.args.self.now.events.items x _ (c.get_mut.follows.lender y).entries found c.in-Ok.ensures.allowed is written

-- where the step is refused, the machine refuses the turn so
pub returns-in-Err-clause-refused : goal.returns-in-Err-clause-refused
returns-in-Err-clause-refused g c =
    let within : c.args.number < c.args.self.now.parties = omega arith in
    let x = c.deref_mut.result.now in
    let found = sym c.in-Some.ensures.value ∙ ap Some (sym (c.deref_mut.ensures.value ∙ c.seat.view_is)) in
    is_refusal (trace_of (coding_by g.T.Words) c.args.self.now).world
    c.args.number c.args.said x c.in-Err.refusal c.requires.turns within found c.in-Err.ensures.refused

-- where the step is refused, the machine is as before
pub returns-in-Err-clause-err : goal.returns-in-Err-clause-err
returns-in-Err-clause-err g c =
    let w = (trace_of (coding_by g.T.Words) c.args.self.now).world in
    let x = c.deref_mut.result.now in
    let same : (c.get_mut.follows.lender c.take_step-gone.new.party).entries ≡ w.latest =
    ap (λ y. (c.get_mut.follows.lender y).entries) c.in-Err.ensures.party
    ∙ ((c.get_mut.follows.holds x).0
    ∙ set_value_same (is_at (nat_cmp c.args.number)) w.latest x
    (sym c.in-Some.ensures.value ∙ ap Some (sym (c.deref_mut.ensures.value ∙ c.seat.view_is))))
    in
    rw (same, c.in-Err.ensures.words, c.in-Err.ensures.kept, c.in-Err.ensures.changes, c.in-Err.ensures.events) refl

-- where the machine does not have the party, it refuses the turn as `NoParty`
pub returns-then-number-self-clause-refused : goal.returns-then-number-self-clause-refused
returns-then-number-self-clause-refused g c =
    let w = (trace_of (coding_by g.T.Words) c.args.self.now).world in
    let beyond : c.args.self.now.parties ≤ c.args.number = omega arith in
    inl (goes_on_nowhere w c.args.number c.requires.turns c.args.said beyond)

-- where the party has begun no call, the machine refuses the turn as Idle
pub returns-in_default-clause-refused : goal.returns-in_default-clause-refused
returns-in_default-clause-refused g c =
    let w = (trace_of (coding_by g.T.Words) c.args.self.now).world in
    let within : c.args.number < c.args.self.now.parties = omega arith in
    let none : party_of c.args.number w.latest ≡ None = sym c.in_default.ensures.value in
    inl (is_idle w c.args.number c.requires.turns c.args.said within none)
