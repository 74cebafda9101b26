-- `step_recover` (src/mpmc/container/recovery.rt): its call of `step_telling` meets the requirement `owes`.
use Rattle.lock_free_owners.proofs.Names.{◌≡◌, ℕ, ◌+◌, List, sym, ap, subst, ◌∙◌, total_words, Coding, IsCoding}
use Rattle.lock_free_owners.proofs.Names.{coding_by, Owes, seen, table_of, key_of, View, IsMachine}
use Rattle.steps.specs.Container.Recover.{recover_want}
use Rattle.model.specs.declared.turn.Kind.TheVariants as kinds
use Rattle.lock_free_owners.specs.Container.RecoverTurns.{RecoverTells}
use Rattle.lock_free_owners.proofs.ContainerSet.RecoverTurns.{recover_owes}
use Rattle.lock_free_owners.proofs.mpmc.container.recovery.step_recover.Goals as goal

-- the rule of the table allows what the step writes, and it tells what a step of the recovery tells
pub step_telling-requires-clause-owes : goal.step_telling-requires-clause-owes
step_telling-requires-clause-owes g c =
    let met = g.met.T.Words in
    let code : Coding g.row.T.Denot = coding_by g.T.Words in
    let law : IsCoding code = record { some = met.some; few = met.few; sized = met.sized; given_back = met.given_back } in
    let s = c.args.seat.now in
    let table = table_of s in
    let call = c.args.call in
    let given = c.args.given in
    let more : View g.row.T.Denot → ℕ → View g.row.T.Denot → Type 0 = λ v n w. (w.capacity ≡ v.capacity)
    × RecoverTells code given call c.args.room.now v n w in
    subst (λ (xs : List (ℕ × Unit {0})). Owes (λ (z : View g.row.T.Denot). z.asked)
    (IsMachine code kinds.Container (key_of s)) table.words table.slots s.seat.id more (recover_want code.size call given) (seen s, xs)) (sym s.bare)
    (recover_owes code law given c.requires.at.2 table.slots s.seat.id
    (c.requires.board.0 ∙ ap (λ k. total_words k code.size + 1) (sym c.requires.board.1)) (sym c.requires.board.1))
