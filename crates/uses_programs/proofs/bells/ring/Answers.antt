-- `ring` (src/bells.rt): the invariant of its loop holds at the start and after each iteration, and its return meets the clause `all`.
use Rattle.std.proofs.Common.{rules, ◌≡◌, ◌<◌, [], ◌∷◌, ◌++◌, length, slice_index_or, refl, sym, subst, ◌∙◌, ◌≤◌, arith, take_all}
use Rattle.uses_programs.proofs.Names.{common_steps, All-nil, sets}
use Rattle.lock_free.specs.Bits.Calls.{view, history, made}
use Rattle.uses_programs.specs.Bells.{WereSet, HasRung}
use Rattle.uses_programs.proofs.Rings.{rings, rings_again, none_rung, rang_on}
use Rattle.uses_programs.proofs.bells.ring.Goals as goal

-- no bell was rung yet
pub loop-at-init : goal.loop-at-init
loop-at-init g c =
    record {
      end = search rules;
      same_set = refl;
      same_share = refl;
      rung = subst (λ z. HasRung z (made c.args.pass)) (sym c.new-rung.ensures.items) (none_rung (made c.args.pass) c.requires.1);
      were_set = All-nil (λ bell. 1 ≤ sets bell (history c.args.pass));
    }

-- the bell at `at` did not ring before, and is appended to `rung`
pub loop-at-preserved : goal.loop-at-preserved
loop-at-preserved g c =
    let l = c.loop-at in
    let old = view l.pass in
    let new = view c.set.new.pass in
    let lt : l.at < length c.args.bells.now = (let e = l.invariant.end in let t = c.loop-at-test.true in omega arith) in
    let items : c.push.new.self.items ≡ l.rung.items ++ slice_index_or c.args.bells.now l.at 0 ∷ [] = grind (arith, common_steps) in
    record {
      end = search rules;
      same_set = c.set.ensures.same.set ∙ l.invariant.same_set;
      same_share = c.set.ensures.same.share ∙ l.invariant.same_share;
      rung = rings l.rung.items c.push.new.self.items _ c.set.result old new c.if-not-set.false c.set.ensures.added.added items l.invariant.rung;
      were_set = rang_on c.args.bells.now l.at _ c.set.result old new lt refl c.set.ensures.added.added c.set.ensures.added.stood l.invariant.were_set;
    }

-- the bell at `at` rang already
pub loop-at-preserved-then-not-set : goal.loop-at-preserved-then-not-set
loop-at-preserved-then-not-set g c =
    let l = c.loop-at in
    let old = view l.pass in
    let new = view c.set.new.pass in
    let lt : l.at < length c.args.bells.now = (let e = l.invariant.end in let t = c.loop-at-test.true in omega arith) in
    record {
      end = search rules;
      same_set = c.set.ensures.same.set ∙ l.invariant.same_set;
      same_share = c.set.ensures.same.share ∙ l.invariant.same_share;
      rung = rings_again l.rung.items _ c.set.result old new c.if-not-set.true c.set.ensures.added.added l.invariant.rung;
      were_set = rang_on c.args.bells.now l.at _ c.set.result old new lt refl c.set.ensures.added.added c.set.ensures.added.stood l.invariant.were_set;
    }

pub returns-clause-all : goal.returns-clause-all
returns-clause-all g c =
    subst (λ xs. WereSet xs (history c.loop-at.pass))
    (take_all c.loop-at.at c.args.bells.now (let e = c.loop-at.invariant.end in let past = c.loop-at-test.false in omega arith))
    c.loop-at.invariant.were_set
