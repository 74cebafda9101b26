-- `Parts::steps` (src/parts.rt): its call of `take_steps` meets the requirement `small`, and its
-- return meets the clauses `allowed` and `ok`.
use Rattle.std.proofs.Common.{◌≡◌, ◌+◌, ◌-◌, ◌^◌, ◌<◌, ◌≤◌, Some, sym, ap, ◌∙◌, arith}
use Rattle.model.specs.Coding.{coding_by}
use Rattle.model.specs.Parties.{party_of, put}
use Rattle.model.proofs.Parties.{set_is_put}
use Rattle.machine_parts.specs.Parts.{trace_of}
use Rattle.machine_parts.proofs.Steps.{steps_are}
use Rattle.machine_parts.proofs.parts.Parts.steps.Goals as goal
use Rattle.machine_parts.proofs.parts.Parts.steps.Goals.{then-most-left, else-most-left}

-- the counts of the party that takes the steps are small, since those of all parties are
pub take_steps-taken-requires-clause-small : goal.take_steps-taken-requires-clause-small
take_steps-taken-requires-clause-small g c =
    c.requires.latest c.args.number c.deref_mut.result.now (sym c.in-Some.ensures.value ∙ ap Some (sym (c.deref_mut.ensures.value ∙ c.seat.view_is)))

-- none of the turns that were taken is refused by the machine
pub returns-clause-allowed : goal.returns-clause-allowed
returns-clause-allowed g c =
    let w = (trace_of (coding_by g.T.Words) c.args.self.now).world in
    let x = c.deref_mut.result.now in
    let found : party_of c.args.number w.latest ≡ Some x = sym c.in-Some.ensures.value ∙ ap Some (sym (c.deref_mut.ensures.value ∙ c.seat.view_is)) in
    let within : c.args.number < w.parties = omega arith in
    let few : w.turns + c.take_steps-taken.result ≤ 2 ^ 64 - 2 =
    elim c.if-most-left.branch [
      | then-most-left t ↦ omega (arith, t.if-most-left, t.most-is, c.take_steps-taken.ensures.most)
      | else-most-left t ↦ omega (arith, t.if-most-left, t.most-is, c.take_steps-taken.ensures.most)
    ] in
    (steps_are w c.args.number x c.args.self.now.events.items c.take_steps-taken.result _ c.in-Some.ensures.ordered
    found within few c.take_steps-taken.ensures.steps).0

-- the turns that were taken leave the machine as those turns do
pub returns-clause-ok : goal.returns-clause-ok
returns-clause-ok g c =
    let w = (trace_of (coding_by g.T.Words) c.args.self.now).world in
    let x = c.deref_mut.result.now in
    let y = c.take_steps-taken.new.party in
    let found : party_of c.args.number w.latest ≡ Some x = sym c.in-Some.ensures.value ∙ ap Some (sym (c.deref_mut.ensures.value ∙ c.seat.view_is)) in
    let within : c.args.number < w.parties = omega arith in
    let few : w.turns + c.take_steps-taken.result ≤ 2 ^ 64 - 2 =
    elim c.if-most-left.branch [
      | then-most-left t ↦ omega (arith, t.if-most-left, t.most-is, c.take_steps-taken.ensures.most)
      | else-most-left t ↦ omega (arith, t.if-most-left, t.most-is, c.take_steps-taken.ensures.most)
    ] in
    let written : (c.get_mut.follows.lender y).entries ≡ put c.args.number y w.latest =
    (c.get_mut.follows.holds y).0 ∙ set_is_put c.args.number y x w.latest c.in-Some.ensures.ordered found
    in
    rw written
    (steps_are w c.args.number x c.args.self.now.events.items c.take_steps-taken.result _ c.in-Some.ensures.ordered
    found within few c.take_steps-taken.ensures.steps).1
