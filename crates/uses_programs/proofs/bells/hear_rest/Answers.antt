-- `hear_rest` (src/bells.rt): the invariant of its loop holds at the start and after each iteration, and its return meets what it
-- ensures.
use Rattle.std.proofs.Common.{refl, sym, ap, subst, ◌≡◌, ◌∙◌, [], ◌∷◌, ◌++◌, arith}
use Rattle.uses_programs.proofs.Names.{common_steps, IsAll}
use Rattle.lock_free.specs.Bits.Calls.{SetId, set_of, view, share, made}
use Rattle.lock_free.specs.Bits.Contracts.{AllClearOnce}
use Rattle.lock_free.proofs.Bits.Sums.{none_left}
use Rattle.uses_programs.specs.Bells.{HearsMore}
use Rattle.uses_programs.proofs.Rings.{none_heard, hears, rest_heard}
use Rattle.uses_programs.proofs.bells.hear_rest.Goals as goal

-- no bell was heard yet
pub loop-init : goal.loop-init
loop-init g c =
    record {
      same_set = refl;
      same_share = refl;
      misses = c.requires.2;
      heard = subst (λ z. HearsMore [] z (made c.args.pass) (made c.args.pass)) (sym c.new-heard.ensures.items) (none_heard (made c.args.pass));
    }

-- a look found a bell, which is appended to `heard`
pub loop-preserved : goal.loop-preserved
loop-preserved g c =
    let items : c.push.new.self.items ≡ c.loop.heard.items ++ c.in-Some-reset_next.bell ∷ [] = grind (arith, common_steps) in
    record {
      same_set = c.reset_next.ensures.same.set ∙ c.loop.invariant.same_set;
      same_share = c.reset_next.ensures.same.share ∙ c.loop.invariant.same_share;
      misses = c.reset_next.ensures.same.all;
      heard = hears [] c.loop.heard.items c.push.new.self.items c.in-Some-reset_next.bell (made c.args.pass)
          (view c.loop.pass) (view c.reset_next.new.pass) c.in-Some-reset_next.ensures.cleared.cleared items c.loop.invariant.heard;
    }

-- The last look found no bell. With the whole share nobody has set one since, so each bell was cleared as
-- often as it was set.
pub returns-in-None-reset_next : goal.returns-in-None-reset_next
returns-in-None-reset_next g c bell =
    let old = c.loop.pass in
    let new = c.reset_next.new.pass in
    let whole : IsAll (share old) = subst IsAll (sym c.loop.invariant.same_share) c.requires.1 in
    let same = ap (λ (z : SetId). z.capacity) (c.reset_next.ensures.same.set ∙ (c.loop.invariant.same_set ∙ c.requires.0)) in
    let none =
    none_left (view old) (view new) (set_of new).capacity c.history.ensures.history
    (c.loop.invariant.misses whole)
    (c.reset_next.ensures.same.all (subst IsAll (sym c.reset_next.ensures.same.share) whole))
    c.in-None-reset_next.ensures.clear.cleared
    (subst (λ n. AllClearOnce n (view new)) (sym same) c.in-None-reset_next.ensures.clear.clear) bell in
    rest_heard c.loop.heard.items (made c.args.pass) (view old) (view new) bell c.loop.invariant.heard c.in-None-reset_next.ensures.clear.cleared none
