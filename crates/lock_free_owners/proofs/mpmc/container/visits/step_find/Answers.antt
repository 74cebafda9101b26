-- `step_find` (src/mpmc/container/visits.rt): its call of `step_telling` meets the requirement `owes`.
use Rattle.lock_free_owners.proofs.Names.{◌≡◌, ℕ, ◌+◌, List, sym, ap, subst, ◌∙◌, find_want, total_words, Coding}
use Rattle.lock_free_owners.proofs.Names.{IsCoding, coding_by, Owes, seen, table_of, key_of, View}
use Rattle.lock_free_owners.proofs.Names.{IsMachine}
use Rattle.model.specs.declared.turn.Kind.TheVariants as kinds
use Rattle.history.specs.Steps.{TakesAtMost}
use Rattle.lock_free_owners.specs.Container.FindTurns.{FindTells}
use Rattle.lock_free_owners.proofs.ContainerSet.FindTurns.{find_owes}
use Rattle.lock_free_owners.proofs.mpmc.container.visits.step_find.Goals as goal

-- the rule of the table allows what the step writes, and it tells what a step of the find tells
pub step_telling-requires-clause-owes : goal.step_telling-requires-clause-owes
step_telling-requires-clause-owes g c =
    let met = g.met.T.Words in
    let code : Coding g.row.T.Denot = coding_by g.T.Words in
    let law : IsCoding code = record { some = met.some; few = met.few; sized = met.sized; given_back = met.given_back } in
    let s = c.args.seat.now in
    let table = table_of s in
    let call = c.args.call in
    let more : View g.row.T.Denot → ℕ → View g.row.T.Denot → Type 0 = λ v n w. (w.capacity ≡ v.capacity)
    × FindTells code c.args.owner call c.args.room.now v n w × TakesAtMost 1 v w in
    subst (λ (xs : List (ℕ × Unit {0})). Owes (λ (z : View g.row.T.Denot). z.asked)
    (IsMachine code kinds.Container (key_of s)) table.words table.slots s.seat.id more (find_want code.size call) (seen s, xs)) (sym s.bare)
    (find_owes code law c.args.owner c.requires.at.2 c.requires.word table.slots s.seat.id
    (c.requires.board.0 ∙ ap (λ k. total_words k code.size + 1) (sym c.requires.board.1)) (sym c.requires.board.1))
