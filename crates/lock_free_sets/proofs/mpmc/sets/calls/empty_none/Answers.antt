-- `empty_none` (src/mpmc/sets/calls.rt): its call of `look` meets the requirement `owes`, and its return meets the clauses `done`,
-- `called` and `steps`.
use Rattle.lock_free_sets.proofs.Names.{◌<◌, ℕ, List, [], refl, sym, subst, ◌∙◌, arith, Me, one_word, OwesAsk}
use Rattle.lock_free_sets.proofs.Names.{seen, View, IsMachine, Ends}
use Rattle.steps.specs.declared.ask.Op.TheVariants.{Load}
use Rattle.threaded.specs.Seats.{table_of, key_of}
use Rattle.lock_free_sets.specs.Sets.Kinds.{SetKind, machine_kind}
use Rattle.lock_free_sets.specs.Sets.Stages.{empties_none}
use Rattle.lock_free_sets.proofs.Ends.{done, made_by}
use Rattle.lock_free_sets.proofs.Sets.Emptying.{owes_none}
use Rattle.lock_free_sets.proofs.Steps.{none_takes}
use Rattle.lock_free_sets.proofs.mpmc.sets.calls.empty_none.Goals as goal

-- what one look owes, where the seat knows this
abbrev Owed : SetKind → ℕ → ℕ → ℕ → ℕ → Me (Unit {0}) (View ℕ) → Type 0
Owed kind key words slots id me =
    OwesAsk (λ (z : View ℕ). z.asked) (IsMachine one_word (machine_kind kind) key) words slots id
    (λ u n w. Ends one_word (machine_kind kind) (empties_none kind) u tt (record { 0 = 0 }) w) 0 Load me

-- the call that empties a set of no place is one load, which keeps the rule of the table
pub look-requires-clause-owes : goal.look-requires-clause-owes
look-requires-clause-owes g c =
    let kind = g.E.Kind.KIND in
    let t = c.args.seated.now in
    let v = seen t in
    let below : 0 < (table_of t).words = (let wide = c.requires.table.0 in omega arith) in
    let owed : Owed kind v.capacity (table_of t).words (table_of t).slots t.seat.id (v, []) =
    owes_none kind v (record { known = refl; idle = c.requires.idle.idle; alone = c.requires.idle.alone; some = c.requires.idle.some })
    (c.requires.idle.known ∙ c.requires.places) (table_of t).words (table_of t).slots t.seat.id 0 below in
    subst (λ (xs : List (ℕ × Unit {0})). Owed kind (key_of t) (table_of t).words (table_of t).slots t.seat.id (v, xs)) (sym t.bare)
    (subst (λ k. Owed kind k (table_of t).words (table_of t).slots t.seat.id (v, [])) c.requires.table.1 owed)

-- The call has ended, as one that empties a set without places (clause `done`).
pub returns-clause-done : goal.returns-clause-done
returns-clause-done g c = done c.look.ensures.told (λ o p h. h)

-- It is a call of the history that wrote no event of its own (clause `called`).
pub returns-clause-called : goal.returns-clause-called
returns-clause-called g c =
    let ends = c.look.ensures.told in
    made_by ends c.requires.idle.idle (λ by. []) ends.tells

-- the operations that the call has asked for are within clause `steps`
pub returns-clause-steps : goal.returns-clause-steps
returns-clause-steps g c =
    none_takes g.E.Kind.KIND (seen c.args.seated.now) c.look.new.self.seat.me.0 (record { 0 = 0 }) c.requires.idle.idle
    (c.requires.idle.known ∙ c.requires.places) c.look.ensures.told
