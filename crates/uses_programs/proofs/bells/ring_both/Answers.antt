-- `ring_both` (src/bells.rt): its return meets the clauses `rung` and `all`.
use Rattle.std.proofs.Common.{rules, sym, subst}
use Rattle.lock_free.specs.Bits.Calls.{history, made}
use Rattle.uses_programs.specs.Bells.{WereSet, HasRung, BothRung}
use Rattle.uses_programs.proofs.Rings.{both_rung, rang_still}
use Rattle.uses_programs.proofs.bells.ring_both.Goals as goal

-- the joined pass has made what both threads made
pub returns-clause-rung : goal.returns-clause-rung
returns-clause-rung g c =
    let one = c.in_ok-pass in
    let two = c.in_ok-further in
    let h : HasRung one.rung.items (made one.pass) = search rules in
    let k : HasRung two.also.items (made two.further) = search rules in
    subst (BothRung one.rung.items two.also.items) (sym c.join.ensures.same.joined.made)
    (both_rung one.rung.items two.also.items (made one.pass) (made two.further) h k)

-- each bell of the two lists was set by what the joined pass has seen
pub returns-clause-all : goal.returns-clause-all
returns-clause-all g c =
    let one = c.in_ok-pass in
    let two = c.in_ok-further in
    let h : WereSet c.args.first.now (history one.pass) = search rules in
    let k : WereSet c.args.second.now (history two.further) = search rules in (
      rang_still c.args.first.now (history one.pass) (history c.join.new.self) c.join.ensures.same.joined.ours h,
      rang_still c.args.second.now (history two.further) (history c.join.new.self) c.join.ensures.same.joined.others k,
    )
