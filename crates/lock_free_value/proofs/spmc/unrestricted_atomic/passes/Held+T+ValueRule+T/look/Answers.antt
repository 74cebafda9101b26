-- `Held::look` (src/spmc/unrestricted_atomic/passes.rt): its call of `look` meets the requirement `owes`.
use Rattle.std.proofs.Common.{◌<◌, ℕ, List, sym, subst, arith}
use Rattle.lock_free_value.proofs.Names.{Coding, coding_by, View, IsMachine, LooksOnce, OwesAsk, Load, owes_look}
use Rattle.model.specs.declared.turn.Kind.TheVariants as kinds
use Rattle.threaded.specs.Seats.{seen, table_of}
use Rattle.lock_free_value.proofs.spmc.unrestricted_atomic.passes.Held+T+ValueRule+T.look.Goals as goal

-- the load of the version keeps the rule of the table, and tells what a look tells
pub look-requires-clause-owes : goal.look-requires-clause-owes
look-requires-clause-owes g c =
    let mine = c.args.self.now in
    let s = mine.seated in
    let code : Coding g.row.T.Denot = coding_by g.T.Words in
    let below : 0 < (table_of s).words = (let size = mine.sized in omega arith) in
    subst (λ (xs : List (ℕ × Unit {0})). OwesAsk (λ (z : View g.row.T.Denot). z.asked) (IsMachine code kinds.Atomic 1) (table_of s).words
    (table_of s).slots s.seat.id (λ u n w. LooksOnce code kinds.Atomic 1 u w) 0 Load (seen s, xs)) (sym s.bare)
    (owes_look code kinds.Atomic 1 (table_of s).words (table_of s).slots s.seat.id 0 (seen s) below mine.some.0 (λ late h. h))
