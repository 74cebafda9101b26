-- `split_many` (src/splits.rt): each iteration splits one handle or pass more off.
use Rattle.std.proofs.Common.{◌≡◌, true, [], ◌∷◌, ◌++◌, is_ok, if◌then◌else◌, sym, ap, subst, ◌∙◌}
use Rattle.lock_free_guards.specs.Cuts.{AreCut}
use Rattle.lock_free_guards.proofs.Cuts.{one_more_cut}
use Rattle.lock_free_guards.proofs.splits.split_many.Goals as goal

-- a split that was made adds its half to those that were cut off in turn
pub loop-preserved : goal.loop-preserved
loop-preserved g c =
    let cut = g.H.Splits.cut in
    let halves = c.loop.halves.items in
    let half = c.in_ok-half.half in
    let fine : is_ok c.push.result ≡ true = sym c.in_ok-ok.ensures.variant in
    let items : c.push.new.self.items ≡ halves ++ half ∷ [] = c.push.ensures.items ∙ ap (λ b. if b then halves ++ half ∷ [] else halves) fine in
    subst (λ xs. AreCut cut xs c.args.handle.now c.split_one.new.self) (sym items)
    (one_more_cut cut halves half c.args.handle.now c.loop.handle c.split_one.new.self c.loop.invariant c.in_ok-half.ensures)
