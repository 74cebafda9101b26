-- `Held::store` (src/spmc/unrestricted_atomic/calls.rt): its call of `drive` meets the requirements `rule` and `at`, and its return
-- meets the clauses `stored`, `end`, `same` and `steps`.
use Rattle.std.proofs.Common.{rules, sym, ◌∙◌, subst}
use Rattle.model.specs.declared.turn.Kind.TheVariants as kinds
use Rattle.lock_free_value.proofs.Names.{Coding, IsCoding, coding_by, stores_value}
use Rattle.history.specs.Stages.{At}
use Rattle.history_value.proofs.ValueCalls.{store_keeps, store_first}
use Rattle.lock_free_value.specs.Calls.{seen}
use Rattle.lock_free_value.proofs.Facts.{leaves, stored_if, at_end_if, store_takes}
use Rattle.lock_free_value.proofs.spmc.unrestricted_atomic.calls.Held+T+ValueRule+T.store.Goals as goal

-- each step of the store keeps the rule of the table, and tells what is known after it
pub drive-end-requires-clause-rule : goal.drive-end-requires-clause-rule
drive-end-requires-clause-rule g c base v call m key =
    let met = g.met.T.Words in
    let code : Coding g.row.T.Denot = coding_by g.T.Words in
    let law : IsCoding code = record { some = met.some; few = met.few; sized = met.sized; given_back = met.given_back } in
    store_keeps code law c.args.value.now base v call m 1

-- the store is about to begin, as a call that its value does not refuse to the producer
pub drive-end-requires-clause-at : goal.drive-end-requires-clause-at
drive-end-requires-clause-at g c =
    let mine = c.args.self.now in
    let met = g.met.T.Words in
    let code : Coding g.row.T.Denot = coding_by g.T.Words in
    let law : IsCoding code = record { some = met.some; few = met.few; sized = met.sized; given_back = met.given_back } in
    let x = c.args.value.now in
    subst (λ call. At code kinds.Atomic (stores_value code x) (seen mine) (seen mine) call tt) (sym c.new.ensures)
    (store_first code law x (seen mine) tt mine.idle mine.alone mine.some.0 c.requires)

-- a store that answers true stored its value right after all that was seen to be stored
pub returns-clause-stored : goal.returns-clause-stored
returns-clause-stored g c is =
    let mine = c.args.self.now in
    stored_if mine.idle mine.known c.args.value.now c.drive-end.ensures.end (sym c.answer.ensures ∙ is)

-- a store that answers false was a look at a value whose version is the last
pub returns-clause-end : goal.returns-clause-end
returns-clause-end g c is =
    let mine = c.args.self.now in
    at_end_if mine.idle mine.known c.args.value.now mine.alone mine.some.0 c.requires c.drive-end.ensures.end (sym c.answer.ensures ∙ is)

-- the seat is of the same value, its view goes on, and at most one operation was no step of a call
pub returns-clause-same : goal.returns-clause-same
returns-clause-same g c =
    let mine = c.args.self.now in
    let left = leaves c.drive-end.ensures.end in
    record { table = search rules; goes = left.goes; aside = left.aside }

-- the operations that the call has asked for are within clause `steps`
pub returns-clause-steps : goal.returns-clause-steps
returns-clause-steps g c = store_takes c.args.self.now.idle c.args.self.now.known c.drive-end.ensures.end
