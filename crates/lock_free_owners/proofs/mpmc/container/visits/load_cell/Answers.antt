-- `load_cell` (src/mpmc/container/visits.rt): its call of `load_for` meets the requirement `owes`.
use Rattle.lock_free_owners.proofs.Names.{◌≡◌, ℕ, ◌+◌, List, sym, ap, subst, ◌∙◌, total_words, Coding}
use Rattle.lock_free_owners.proofs.Names.{IsCoding, coding_by, OwesAsk, seen, table_of, key_of, View}
use Rattle.lock_free_owners.proofs.Names.{IsMachine, Buffer}
use Rattle.steps.specs.declared.ask.Op.TheVariants.{Load}
use Rattle.steps.specs.declared.container.find.Find.{Find}
use Rattle.model.specs.declared.turn.Kind.TheVariants as kinds
use Rattle.history.specs.Steps.{TakesAtMost}
use Rattle.lock_free_owners.specs.Container.FindTurns.{FindTells, at_cell}
use Rattle.lock_free_owners.proofs.ContainerSet.FindTurns.{find_owes}
use Rattle.lock_free_owners.proofs.mpmc.container.visits.load_cell.Goals as goal

-- the load of the cell is one that the rule of the table allows, and it tells what a step of the call tells
pub load_for-requires-clause-owes : goal.load_for-requires-clause-owes
load_for-requires-clause-owes g c =
    let met = g.met.T.Words in
    let code : Coding g.row.T.Denot = coding_by g.T.Words in
    let law : IsCoding code = record { some = met.some; few = met.few; sized = met.sized; given_back = met.given_back } in
    let s = c.args.seat.now in
    let table = table_of s in
    let call : Find g.row.T.Denot (Buffer 128) = at_cell c.args.capacity c.args.cell c.args.found in
    let more : View g.row.T.Denot → ℕ → View g.row.T.Denot → Type 0 = λ v n w. (w.capacity ≡ v.capacity)
    × FindTells code c.args.owner call c.args.room.now v n w × TakesAtMost 1 v w in
    subst (λ (xs : List (ℕ × Unit {0})). OwesAsk (λ (z : View g.row.T.Denot). z.asked)
    (IsMachine code kinds.Container (key_of s)) table.words table.slots s.seat.id more (1 + c.args.cell) Load (seen s, xs)) (sym s.bare)
    (find_owes code law c.args.owner c.requires.at.2 tt table.slots s.seat.id
    (c.requires.board.0 ∙ ap (λ k. total_words k code.size + 1) (sym c.requires.board.1)) (sym c.requires.board.1))
