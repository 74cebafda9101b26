-- `load_cell` (src/mpmc/robust_unique_index_set/asks.rt): its call of `load_for` meets the requirement `owes`.
use Rattle.lock_free_owners.proofs.Names.{◌+◌, ℕ, List, sym, ap, subst, ◌∙◌, one_word, OwesAsk, seen, table_of}
use Rattle.lock_free_owners.proofs.Names.{key_of, View, IsMachine, recover_tells}
use Rattle.steps.specs.declared.ask.Op.TheVariants.{Load}
use Rattle.model.specs.declared.turn.Kind.TheVariants as kinds
use Rattle.lock_free_owners.specs.Robust.Turns.{size, RecoverTells}
use Rattle.lock_free_owners.proofs.RobustSet.Turns.{passes}
use Rattle.lock_free_owners.proofs.mpmc.robust_unique_index_set.asks.load_cell.Goals as goal

-- the load of the cell is one that the rule of the table allows, and it tells what a step of the call tells
pub load_for-requires-clause-owes : goal.load_for-requires-clause-owes
load_for-requires-clause-owes c =
    let s = c.args.seat.now in
    let at = c.requires.at in
    let call = passes c.args.capacity c.args.cell in
    let table = table_of s in
    let tells = recover_tells one_word c.args.mode at.0 (seen s) call at.1 in
    let owed = tells (key_of s) table.words table.slots s.seat.id
    (c.requires.board.0 ∙ ap (λ k. size k + 1) (sym c.requires.board.1)) (sym c.requires.board.1) at.2 at.3 in
    subst (λ (xs : List (ℕ × Unit {0})). OwesAsk (λ (z : View ℕ). z.asked) (IsMachine one_word kinds.Robust (key_of s))
    table.words table.slots s.seat.id
    (RecoverTells c.args.mode call) (1 + c.args.cell) Load (seen s, xs)) (sym s.bare) owed
