-- `find_next` (src/mpmc/robust_unique_index_set/finds.rt): its return meets the clause `goes`.
use Rattle.lock_free_owners.proofs.Names.{◌≡◌, ℕ, ◌∙◌, sym, ap, subst, After, View, seen}
use Rattle.steps.specs.Indices.Robust.Find.{find_takes}
use Rattle.steps.specs.declared.indices.robust.find.Find.{Find}
use Rattle.steps.specs.declared.indices.robust.find.FindStage.{FindStage}
use Rattle.steps.specs.declared.indices.robust.find.FindStage.TheVariants as finds
use Rattle.lock_free_owners.specs.Robust.Finding.{Onward, Searching}
use Rattle.lock_free_owners.proofs.RobustSet.Finding.{FindCase, heard}
use Rattle.lock_free_owners.proofs.mpmc.robust_unique_index_set.finds.find_next.Goals.{Start}
use Rattle.lock_free_owners.proofs.mpmc.robust_unique_index_set.finds.find_next.Goals as goal
use Rattle.lock_free_owners.proofs.mpmc.robust_unique_index_set.finds.find_next.Given as given

-- The find that this function goes on with, which began in the view `base` with the closure f.
abbrev find : (g : given.Over) (c : Start g) (base : View ℕ) (f : g.row.F.Denot) → FindCase g.row.F.Denot
find g c base f =
    record {
      step = λ q x a r. given.F-step g q x a r;
      capacity = c.args.capacity;
      owner = c.args.owner;
      base = base;
      visit = f;
    }

-- where the find stood at a cell, its steps over cells lead on as clause `goes` says
pub returns-in-LoadsCell-clause-goes : goal.returns-in-LoadsCell-clause-goes
returns-in-LoadsCell-clause-goes g c base f began =
    let stands = c.requires.may_turn.standing in
    let is : c.args.call ≡ record { capacity = c.args.capacity; stage = _ } = λ i. record { capacity = stands i; stage = c.in-LoadsCell.is i } in
    c.pass_over.ensures.goes c.args.visit.now base f
    (subst (λ (d : Find). Searching (λ q x a r. given.F-step g q x a r) c.args.capacity c.args.owner base f (seen c.args.seat.now) d c.args.visit.now) is began)

-- where the find stood at its question, the answer of the closure leads on as clause `goes` says
pub returns-in-Asks-clause-goes : goal.returns-in-Asks-clause-goes
returns-in-Asks-clause-goes g c base f began =
    let v = seen c.args.seat.now in
    let heard_there = c.hear-answer.ensures in
    let taken = c.take.ensures.goes ∙ ap (λ (s : FindStage). find_takes c.args.call s c.args.owner c.hear-answer.result) c.in-Asks.is
    ∙ ap (λ k. find_takes c.args.call (finds.Asks c.in-Asks.index c.in-Asks.found) c.args.owner k) heard_there.2 in
    subst (λ (a : After Find ℕ). Onward (λ q x a r. given.F-step g q x a r) c.args.capacity c.args.owner base f a v c.hear-answer.new.visit) (sym taken)
    (heard (find g (goal.at.returns-in-Asks-clause-goes g c).Start base f) began
    c.in-Asks.is heard_there.0 c.hear-answer.new.visit heard_there.1)
