-- `ask_over` (src/mpmc/robust_unique_index_set/asks.rt): its call of `load_cell` meets the requirements `within` and `at`, its calls of
-- `ask_found` and `passed_next` meet what those require, each iteration keeps the invariant of its loop, its cast loses nothing, and its
-- return meets the clause `goes`.
use Rattle.lock_free_owners.proofs.Names.{ℕ, ◌+◌, ◌∙◌, sym, ap, subst, arith, rules, recover_after, After, ReleaseState, seen}
use Rattle.steps.specs.Indices.Robust.Recover.{recover_comes_to}
use Rattle.steps.specs.declared.indices.robust.recover.Recover.{Recover}
use Rattle.lock_free_owners.specs.Robust.Recovering.{LedTo}
use Rattle.lock_free_owners.proofs.RobustSet.Recoveries.{Heard, began_in, stands_at, asks_at, finds_owner, may_ask_about, yes_leads, no_leads}
use Rattle.lock_free_owners.proofs.RobustSet.Turns.{passes, stays_then}
use Rattle.lock_free_owners.proofs.mpmc.robust_unique_index_set.asks.ask_over.Goals as goal
use Rattle.lock_free_owners.proofs.mpmc.robust_unique_index_set.asks.ask_over.Given as given

-- by the invariant of the loop the cell is one of the set (requirement `within`)
pub load_cell-found-requires-clause-within : goal.load_cell-found-requires-clause-within
load_cell-found-requires-clause-within g c = c.cells.invariant.within

-- By the loop's invariant the recovery stands at this cell, as `load_cell` requires.
pub load_cell-found-requires-clause-at : goal.load_cell-found-requires-clause-at
load_cell-found-requires-clause-at g c =
    let asks = c.requires.asks in
    let so = c.cells.invariant.goes asks.base asks.f asks.s asks.q asks.idle asks.stands in
    (asks.base, so.0, asks.idle, so.1)

-- if the cell has an owner, the first closure may be asked about it
pub ask_found-answer-requires : goal.ask_found-answer-requires
ask_found-answer-requires g c low =
    let asks = c.requires.asks in
    let so = c.cells.invariant.goes asks.base asks.f asks.s asks.q asks.idle asks.stands in
    let here = began_in (λ p o i b r. given.F-step g p o i b r) (λ x o i t. given.S-step g x o i tt t) c.args.mode asks.base asks.idle asks.f asks.s in
    let found = c.load_cell-found in
    may_ask_about here (stands_at here c.cells.predicate asks.q so) found.result (seen found.new.seat) found.ensures.goes asks.takes low

-- by the invariant of the loop the cell is one of the set
pub passed_next-cell-requires : goal.passed_next-cell-requires
passed_next-cell-requires g c = c.cells.invariant.within

-- The index of the cell fits in 32 bits, as it is below the capacity.
pub overflow_cast-cell-then-answer-ne0 : goal.overflow_cast-cell-then-answer-ne0
overflow_cast-cell-then-answer-ne0 g c =
    let low = c.cells.invariant.within in
    let small = c.ranges.capacity.fits in
    omega arith

-- where the first closure says yes, the recovery goes on behind its question as clause `goes` says
pub returns-then-answer-ne0-clause-goes : goal.returns-then-answer-ne0-clause-goes
returns-then-answer-ne0-clause-goes g c base f s q idle began =
    let mode = c.args.mode in
    let found = c.load_cell-found in
    let asked = c.ask_found-answer in
    let heard : Heard (λ p o i b r. given.F-step g p o i b r) found.result c.cells.cell asked.result c.cells.predicate asked.new.predicate =
    record { fits = search rules; asked = asked.ensures.asked; passed = asked.ensures.passed } in
    let so = c.cells.invariant.goes base f s q idle began in
    let here = began_in (λ p o i b r. given.F-step g p o i b r) (λ x o i t. given.S-step g x o i tt t) mode base idle f s in
    let yes = yes_leads here (stands_at here c.cells.predicate q so) found.result (seen found.new.seat) found.ensures.goes heard c.if-answer-ne0.true in
    let taken = c.answered.ensures (asks_at c.args.capacity c.cells.cell found.result)
    (ap (λ (d : Recover). recover_after d mode found.result) c.at_cell-here.ensures
    ∙ finds_owner c.args.capacity c.cells.cell found.result mode yes.0) in
    subst (λ (a : After Recover ReleaseState). LedTo (λ p o i b r. given.F-step g p o i b r)
    (λ x o i t. given.S-step g x o i tt t) base.capacity mode base f s (seen found.new.seat)
    a asked.new.predicate q) (sym taken) yes.1

-- behind the last cell the recovery loads the counter again, as clause `goes` says
pub returns-then-cell-capacity-clause-goes : goal.returns-then-cell-capacity-clause-goes
returns-then-cell-capacity-clause-goes g c base f s q idle began =
    let mode = c.args.mode in
    let found = c.load_cell-found in
    let asked = c.ask_found-answer in
    let heard : Heard (λ p o i b r. given.F-step g p o i b r) found.result c.cells.cell asked.result c.cells.predicate asked.new.predicate =
    record { fits = search rules; asked = asked.ensures.asked; passed = asked.ensures.passed } in
    let so = c.cells.invariant.goes base f s q idle began in
    let here = began_in (λ p o i b r. given.F-step g p o i b r) (λ x o i t. given.S-step g x o i tt t) mode base idle f s in
    let no = no_leads here (stands_at here c.cells.predicate q so) found.result (seen found.new.seat) found.ensures.goes heard c.if-answer-ne0.false in
    let next = c.passed_next-cell.ensures.next in
    let past = c.if-cell-capacity.true in
    subst (λ (a : After Recover ReleaseState). LedTo (λ p o i b r. given.F-step g p o i b r)
    (λ x o i t. given.S-step g x o i tt t) base.capacity mode base f s (seen found.new.seat)
    a asked.new.predicate q) (c.past_last.ensures c.cells.cell (c.cells.cell + 1) (omega arith)) no

-- a cell without an owner, or one about whose owner the closure says no, leads to the next cell and
-- keeps the invariant of the loop
pub cells-preserved : goal.cells-preserved
cells-preserved g c =
    let mode = c.args.mode in
    let found = c.load_cell-found in
    let asked = c.ask_found-answer in
    let so_far = c.cells.invariant in
    let heard : Heard (λ p o i b r. given.F-step g p o i b r) found.result c.cells.cell asked.result c.cells.predicate asked.new.predicate =
    record { fits = search rules; asked = asked.ensures.asked; passed = asked.ensures.passed } in
    let next = c.passed_next-cell.ensures.next in
    let inside = c.if-cell-capacity.false in
    -- By the answer no, or without an owner, the recovery goes on to the next cell.
    let after = c.passed_next-cell.ensures.after (omega arith) in
    record {
      stays = stays_then so_far.stays found.ensures.stays;
      within = omega arith;
      goes = λ base f s q idle began. let so = so_far.goes base f s q idle began in
          let here = began_in (λ p o i b r. given.F-step g p o i b r) (λ x o i t. given.S-step g x o i tt t) mode base idle f s in
          let no = no_leads here (stands_at here c.cells.predicate q so) found.result (seen found.new.seat) found.ensures.goes heard c.if-answer-ne0.false in
          subst (λ (a : After Recover ReleaseState). LedTo (λ p o i b r. given.F-step g p o i b r)
          (λ x o i t. given.S-step g x o i tt t) base.capacity mode base f s (seen found.new.seat)
          a asked.new.predicate q) after
          (subst (λ (n : ℕ). LedTo (λ p o i b r. given.F-step g p o i b r) (λ x o i t. given.S-step g x o i tt t)
          base.capacity mode base f s (seen found.new.seat)
          (recover_comes_to (passes c.args.capacity c.cells.cell) n) asked.new.predicate q) (sym next) no);
    }
