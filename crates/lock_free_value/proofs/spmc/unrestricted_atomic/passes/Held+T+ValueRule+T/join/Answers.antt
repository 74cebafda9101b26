-- `Held::join` (src/spmc/unrestricted_atomic/passes.rt): its call of `join` meets the requirement `joins`, and that of `look` the
-- requirement `owes`.
use Rattle.std.proofs.Common.{◌≡◌, ◌<◌, ℕ, List, [], sym, ap, subst, arith}
use Rattle.lock_free_value.proofs.Names.{TableId, Coding, coding_by, View, IsMachine, LooksOnce, OwesAsk, Load, owes_look}
use Rattle.model.specs.declared.turn.Kind.TheVariants as kinds
use Rattle.history.specs.Views.{joined_view}
use Rattle.threaded.specs.Seats.{seen, table_of}
use Rattle.threaded.proofs.Shares.{positive}
use Rattle.history.proofs.Passes.{joins}
use Rattle.lock_free_value.proofs.spmc.unrestricted_atomic.passes.Held+T+ValueRule+T.join.Goals as goal

-- a join of both seats keeps the rule of the table
pub join-requires-clause-joins : goal.join-requires-clause-joins
join-requires-clause-joins g c =
    let mine = c.args.self.now in
    joins (coding_by g.T.Words) kinds.Atomic 1 mine.seated.seat.id
    c.args.other.seated.seat.id mine.seated.seat.me.0 c.args.other.seated.seat.me.0 mine.some.0
    c.args.other.some.0 c.args.other.idle mine.alone c.args.other.alone

-- the load after that keeps the rule of the table too, and tells what a look tells
pub look-requires-clause-owes : goal.look-requires-clause-owes
look-requires-clause-owes g c =
    let mine = c.args.self.now in
    let s = c.join.new.self in
    let w = joined_view mine.seated.seat.me.0 c.args.other.seated.seat.me.0 in
    let code : Coding g.row.T.Denot = coding_by g.T.Words in
    let same : (table_of s).words ≡ (table_of mine.seated).words = ap (λ (t : TableId). t.words) c.join.ensures.same.0 in
    let below : 0 < (table_of s).words = (let size = mine.sized in omega arith) in
    let some : 0 < w.share.part =
    (let more = positive mine.seated.seat.me.0.share.part c.args.other.seated.seat.me.0.share.parts mine.some.0 c.args.other.some.1 in omega arith) in
    subst (λ (xs : List (ℕ × Unit {0})). OwesAsk (λ (z : View g.row.T.Denot). z.asked) (IsMachine code kinds.Atomic 1) (table_of s).words
    (table_of s).slots s.seat.id (λ u n w. LooksOnce code kinds.Atomic 1 u w) 0 Load (seen s, xs)) (sym s.bare)
    (subst (λ (v : View g.row.T.Denot). OwesAsk (λ (z : View g.row.T.Denot). z.asked) (IsMachine code kinds.Atomic 1) (table_of s).words
    (table_of s).slots s.seat.id (λ u n w. LooksOnce code kinds.Atomic 1 u w) 0 Load (v, [])) (sym c.join.ensures.joined)
    (owes_look code kinds.Atomic 1 (table_of s).words (table_of s).slots s.seat.id 0 w below some (λ late h. h)))
