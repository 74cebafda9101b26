-- `pass_over` (src/mpmc/robust_unique_index_set/finds.rt): each iteration keeps the invariant of its loop, and its return meets the
-- clauses `less` and `goes`.
use Rattle.lock_free_owners.proofs.Names.{◌≡◌, ◌<◌, ◌-◌, ℕ, ◌∙◌, sym, ap, refl, subst, rules, arith}
use Rattle.lock_free_owners.proofs.Names.{After, View, seen}
use Rattle.steps.specs.Indices.Robust.Find.{find_after, find_left}
use Rattle.steps.specs.declared.indices.robust.find.Find.{Find}
use Rattle.steps.specs.declared.indices.robust.find.FindStage.TheVariants as stages
use Rattle.lock_free_owners.specs.Robust.Finding.{GoesDown, Onward}
use Rattle.lock_free_owners.proofs.RobustSet.Finding.{FindCase, at_cell, load_down, loaded}
use Rattle.lock_free_owners.proofs.RobustSet.Turns.{stays_then}
use Rattle.lock_free_owners.proofs.mpmc.robust_unique_index_set.finds.pass_over.Goals.{Start}
use Rattle.lock_free_owners.proofs.mpmc.robust_unique_index_set.finds.pass_over.Goals as goal
use Rattle.lock_free_owners.proofs.mpmc.robust_unique_index_set.finds.pass_over.Given as given

-- The find that this function goes on with, which began in the view `base` with the closure f.
abbrev find : (g : given.Over) (c : Start g) (base : View ℕ) (f : g.row.F.Denot) → FindCase g.row.F.Denot
find g c base f =
    record {
      step = λ q x a r. given.F-step g q x a r;
      capacity = c.args.capacity;
      owner = c.args.owner;
      base = base;
      visit = f;
    }

-- at a cell of the owner the find has fewer steps left (clause `less`)
pub returns-then-stands-value-clause-less : goal.returns-then-stands-value-clause-less
returns-then-stands-value-clause-less g c =
    let here = at_cell c.args.capacity c.args.so_many c.cells.cell in
    let so_far = c.cells.invariant in
    let taken = c.take.ensures.goes ∙ ap (λ (d : Find). find_after d c.args.owner c.look_at-stands.result) c.at_cell-here.ensures in
    subst (GoesDown c.args.capacity (find_left c.args.capacity (stages.LoadsCell c.args.first c.args.so_many))) (sym taken)
    (load_down here c.args.capacity refl c.args.so_many c.args.so_many c.args.owner c.look_at-stands.result so_far.past so_far.inside)

-- at a cell of the owner the find goes on as clause `goes` says
pub returns-then-stands-value-clause-goes : goal.returns-then-stands-value-clause-goes
returns-then-stands-value-clause-goes g c p base f began =
    let here = at_cell c.args.capacity c.args.so_many c.cells.cell in
    let look = c.look_at-stands in
    let so_far = c.cells.invariant in
    let searching = so_far.searching p base f began in
    let taken = c.take.ensures.goes ∙ ap (λ (d : Find). find_after d c.args.owner look.result) c.at_cell-here.ensures in
    subst (λ (a : After Find ℕ). Onward (λ q x a r. given.F-step g q x a r) c.args.capacity c.args.owner base f a (seen look.new.seat) p) (sym taken)
    (loaded (find g (goal.at.returns-then-stands-value-clause-goes g c).Start base f) searching
    (search rules) (search rules) refl look.ensures.looks look.ensures.counted)

-- behind the last cell the find has ended (clause `less`)
pub returns-then-cell-capacity-clause-less : goal.returns-then-cell-capacity-clause-less
returns-then-cell-capacity-clause-less g c =
    let look = c.look_at-stands in
    let so_far = c.cells.invariant in
    let low = so_far.inside in
    let next = c.next_cell-cell.ensures.next in
    let past = c.if-cell-capacity.true in
    let last : c.args.capacity - 1 ≡ c.cells.cell = omega arith in
    let here = at_cell c.args.capacity c.args.so_many c.cells.cell in
    let taken = c.take-then-cell-capacity.ensures.goes
    ∙ ap (λ (d : Find). find_after d c.args.owner look.result) (c.at_cell-last.ensures ∙ ap (at_cell c.args.capacity c.args.so_many) last) in
    subst (GoesDown c.args.capacity (find_left c.args.capacity (stages.LoadsCell c.args.first c.args.so_many))) (sym taken)
    (load_down here c.args.capacity refl c.args.so_many c.args.so_many c.args.owner look.result so_far.past so_far.inside)

-- behind the last cell the find has ended, as clause `goes` says
pub returns-then-cell-capacity-clause-goes : goal.returns-then-cell-capacity-clause-goes
returns-then-cell-capacity-clause-goes g c p base f began =
    let look = c.look_at-stands in
    let so_far = c.cells.invariant in
    let low = so_far.inside in
    let next = c.next_cell-cell.ensures.next in
    let past = c.if-cell-capacity.true in
    let last : c.args.capacity - 1 ≡ c.cells.cell = omega arith in
    let searching = so_far.searching p base f began in
    let taken = c.take-then-cell-capacity.ensures.goes
    ∙ ap (λ (d : Find). find_after d c.args.owner look.result) (c.at_cell-last.ensures ∙ ap (at_cell c.args.capacity c.args.so_many) last) in
    subst (λ (a : After Find ℕ). Onward (λ q x a r. given.F-step g q x a r) c.args.capacity c.args.owner base f a (seen look.new.seat) p) (sym taken)
    (loaded (find g (goal.at.returns-then-cell-capacity-clause-goes g c).Start base f) searching
    (search rules) (search rules) refl look.ensures.looks look.ensures.counted)

-- an iteration after which the loop goes on keeps its invariant
pub cells-preserved : goal.cells-preserved
cells-preserved g c =
    let so_far = c.cells.invariant in
    let look = c.look_at-stands in
    let low = so_far.inside in
    let up = so_far.past in
    let next = c.next_cell-cell.ensures.next in
    let inside = c.if-cell-capacity.false in
    -- The cell is not the owner's, so the find goes on to the next cell.
    let after =
    c.next_cell-cell.ensures.after (omega arith) c.args.so_many c.args.owner look.result
    (λ e. c.if-stands-value.false (e ∙ sym c.value.ensures.number)) in
    record {
      stays = stays_then so_far.stays look.ensures.stays;
      ready = record {
        board = look.ensures.stays.board;
        known = look.ensures.looks.looks.capacity ∙ so_far.ready.known;
        may_step = subst (λ s. 0 < s.part) (sym look.ensures.looks.looks.share) so_far.ready.may_step;
      };
      searching = λ p base f began. let searching = so_far.searching p base f began in
          subst (λ (a : After Find ℕ). Onward (λ q x a r. given.F-step g q x a r) c.args.capacity c.args.owner base f a (seen look.new.seat) p) after
          (loaded (find g (goal.at.cells-preserved g c).Start base f) searching
          (search rules) (search rules) refl look.ensures.looks look.ensures.counted);
      past = omega arith;
      inside = omega arith;
    }
