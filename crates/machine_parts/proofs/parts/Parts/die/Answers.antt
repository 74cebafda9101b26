-- `Parts::die` (src/parts.rt): its returns meet the clauses `refused`, `err` and `ok`.
use Rattle.std.proofs.Common.{◌≡◌, inl, inr, false, None, Some, refl, sym}
use Rattle.model.specs.Coding.{coding_by}
use Rattle.model.specs.Families.{lacks_party, death_rows, kept_after_death}
use Rattle.model.specs.Rows.{first_row}
use Rattle.machine_parts.specs.Parts.{trace_of}
use Rattle.machine_parts.proofs.Going.{death_passes, death_refuses}
use Rattle.machine_parts.proofs.parts.Parts.die.Goals as goal

-- where a row refuses the death, the machine refuses it so
pub returns-in-Some-clause-refused : goal.returns-in-Some-clause-refused
returns-in-Some-clause-refused g c =
    let w = (trace_of (coding_by g.T.Words) c.args.self.now).world in
    let there : lacks_party c.args.self.now.kept c.args.self.now.parties c.args.owner ≡ false = sym c.if-lacks_party.ensures in
    let row : first_row (death_rows c.args.self.now.kept c.args.owner) ≡ Some c.in-Some.refusal = sym c.in-Some.ensures in
    inl (death_refuses w c.args.owner c.in-Some.refusal c.requires there row)

-- where memory for the event is refused, the machine would not refuse the death
pub returns-in_default-reserve-clause-refused : goal.returns-in_default-reserve-clause-refused
returns-in_default-reserve-clause-refused g c =
    let w = (trace_of (coding_by g.T.Words) c.args.self.now).world in
    let there : lacks_party c.args.self.now.kept c.args.self.now.parties c.args.owner ≡ false = sym c.if-lacks_party.ensures in
    let rows : first_row (death_rows c.args.self.now.kept c.args.owner) ≡ None = sym c.in_default.ensures in
    inr (death_passes w c.args.owner c.requires there rows, refl)

-- where memory to mark the owner as dead is refused, the machine would not refuse the death
pub returns-then-not-mark_dead-clause-refused : goal.returns-then-not-mark_dead-clause-refused
returns-then-not-mark_dead-clause-refused g c =
    let w = (trace_of (coding_by g.T.Words) c.args.self.now).world in
    let there : lacks_party c.args.self.now.kept c.args.self.now.parties c.args.owner ≡ false = sym c.if-lacks_party.ensures in
    let rows : first_row (death_rows c.args.self.now.kept c.args.owner) ≡ None = sym c.in_default.ensures in
    inr (death_passes w c.args.owner c.requires there rows, refl)

-- where memory to mark the owner as dead is refused, the machine is as before
pub returns-then-not-mark_dead-clause-err : goal.returns-then-not-mark_dead-clause-err
returns-then-not-mark_dead-clause-err g c =
    let same : c.mark_dead.new.kept ≡ c.args.self.now.kept = c.if-not-mark_dead.ensures.same refl in
    rw (same, c.reserve.ensures.items) refl

-- a death that is taken leaves the machine as the turn does: the owner is marked as dead,
-- and the event is written
pub returns-clause-ok : goal.returns-clause-ok
returns-clause-ok g c =
    let kept : c.mark_dead.new.kept ≡ kept_after_death c.args.self.now.kept c.args.owner = c.if-not-mark_dead.ensures.dies refl in
    rw (kept, c.push_reserved.ensures.items, c.reserve.ensures.items) refl
