-- `listen` (src/bells.rt): the invariant of its loop holds at the start and after each iteration.
use Rattle.std.proofs.Common.{refl, sym, subst, ◌≡◌, ◌∙◌, [], ◌∷◌, ◌++◌, arith}
use Rattle.uses_programs.proofs.Names.{common_steps}
use Rattle.lock_free.specs.Bits.Calls.{view, made}
use Rattle.uses_programs.specs.Bells.{HearsMore}
use Rattle.uses_programs.proofs.Rings.{none_heard, hears, hears_none}
use Rattle.uses_programs.proofs.bells.listen.Goals as goal

pub loop-init : goal.loop-init
loop-init g c = (refl, refl, subst (λ z. HearsMore [] z (made c.args.pass) (made c.args.pass)) (sym c.new-heard.ensures.items) (none_heard (made c.args.pass)))

-- a look found a bell, which is appended to `heard`
pub loop-preserved : goal.loop-preserved
loop-preserved g c =
    let items : c.push.new.self.items ≡ c.loop.heard.items ++ c.in-Some.bell ∷ [] = grind (arith, common_steps) in (
      c.reset_next.ensures.same.set ∙ c.loop.invariant.0,
      c.reset_next.ensures.same.share ∙ c.loop.invariant.1,
      hears [] c.loop.heard.items c.push.new.self.items c.in-Some.bell (made c.args.pass) (view c.loop.pass)
          (view c.reset_next.new.pass) c.in-Some.ensures.cleared.cleared items c.loop.invariant.2,
    )

-- a look found no bell
pub loop-preserved-in-None : goal.loop-preserved-in-None
loop-preserved-in-None g c = (
  c.reset_next.ensures.same.set ∙ c.loop.invariant.0,
  c.reset_next.ensures.same.share ∙ c.loop.invariant.1,
  hears_none [] c.loop.heard.items (made c.args.pass) (view c.loop.pass) (view c.reset_next.new.pass) c.in-None.ensures.clear.cleared c.loop.invariant.2,
)
