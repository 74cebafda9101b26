-- `look_at` (src/mpmc/robust_unique_index_set/finds.rt): its call of `look` meets the requirement `owes`.
use Rattle.lock_free_owners.proofs.Names.{◌<◌, ◌+◌, ℕ, List, [], sym, subst, arith, OwesAsk}
use Rattle.lock_free_owners.proofs.Names.{one_word, seen, table_of, key_of, View, IsMachine, LooksAt}
use Rattle.steps.specs.declared.ask.Op.TheVariants.{Load}
use Rattle.model.specs.declared.turn.Kind.TheVariants as kinds
use Rattle.lock_free_owners.proofs.RobustSet.Looking.{owes_word}
use Rattle.lock_free_owners.proofs.mpmc.robust_unique_index_set.finds.look_at.Goals as goal

-- what the load owes, where the seat knows this
abbrev Owed : ℕ → ℕ → ℕ → ℕ → ℕ → View ℕ → List (ℕ × Unit {0}) → Type 0
Owed key words slots id word v xs =
    OwesAsk (λ (z : View ℕ). z.asked) (IsMachine one_word kinds.Robust key) words slots id
    (λ u n w. LooksAt one_word kinds.Robust u.capacity word u n w) word Load (v, xs)

-- the load of the cell is one that the rule of the table allows, and it tells a look at the history
pub look-requires-clause-owes : goal.look-requires-clause-owes
look-requires-clause-owes c =
    let s = c.args.seat.now in
    let v = seen s in
    let word = 1 + c.args.cell in
    let words = (table_of s).words in
    let slots = (table_of s).slots in
    let id = s.seat.id in
    let below : word < words =
    (let wide = c.requires.ready.board.0 in let cell = c.requires.within in let known = c.requires.ready.known in omega arith) in
    let owed : Owed v.capacity words slots id word v [] = owes_word v.capacity words slots id word v below c.requires.ready.may_step in
    subst (λ (xs : List (ℕ × Unit {0})). Owed (key_of s) words slots id word v xs) (sym s.bare)
    (subst (λ k. Owed k words slots id word v []) (sym c.requires.ready.board.1) owed)
