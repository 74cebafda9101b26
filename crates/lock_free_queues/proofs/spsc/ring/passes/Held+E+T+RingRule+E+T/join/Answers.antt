-- `Held::join` (src/spsc/ring/passes.rt): its call of `join` meets the requirement `joins`, and that of `look` the requirement `owes`.
use Rattle.lock_free_queues.proofs.Names.{◌≡◌, ◌<◌, sym, ap, subst, ◌∙◌, arith, rules, TableId, coding_by, Coding, View, IsMachine}
use Rattle.lock_free_queues.proofs.Names.{LooksAt, joined_view, joins}
use Rattle.lock_free_queues.specs.Queues.Bounded.{machine_kind}
use Rattle.steps.specs.declared.ask.Op.TheVariants.{Load}
use Rattle.threaded.specs.Driver.{OwesAsk}
use Rattle.threaded.specs.Seats.{table_of, key_of}
use Rattle.threaded.proofs.Shares.{positive}
use Rattle.lock_free_queues.proofs.Queues.Reads.{owes_look}
use Rattle.lock_free_queues.proofs.spsc.ring.passes.Held+E+T+RingRule+E+T.join.Goals as goal

-- a join of both seats keeps the rule of the table
pub join-requires-clause-joins : goal.join-requires-clause-joins
join-requires-clause-joins g c =
    let mine = c.args.self.now in
    joins (coding_by g.T.Words) (machine_kind g.E.Kind.KIND) _
    mine.seated.seat.id c.args.other.seated.seat.id mine.seated.seat.me.0 c.args.other.seated.seat.me.0
    mine.some.0 c.args.other.some.0 c.args.other.idle mine.alone c.args.other.alone

-- the load after that, by the seat that knows what both knew, keeps the rule too
pub look-requires-clause-owes : goal.look-requires-clause-owes
look-requires-clause-owes g c =
    let mine = c.args.self.now in
    let s = c.join.new.self in
    let v = mine.seated.seat.me.0 in
    let u = c.args.other.seated.seat.me.0 in
    let w = joined_view v u in
    let code : Coding g.row.T.Denot = coding_by g.T.Words in
    let kind = g.E.Kind.KIND in
    let same : (table_of s).words ≡ (table_of mine.seated).words = ap (λ (t : TableId). t.words) c.join.ensures.same.0 in
    let below : 0 < (table_of s).words = (let wide = mine.sized in omega arith) in
    let key : (key_of s).capacity ≡ (key_of mine.seated).capacity = search rules in
    let some : 0 < w.share.part = (let more = positive v.share.part u.share.parts mine.some.0 c.args.other.some.1 in omega arith) in
    subst (λ (x : View g.row.T.Denot). OwesAsk (λ (z : View g.row.T.Denot). z.asked) (IsMachine code (machine_kind kind) (key_of s).capacity)
    (table_of s).words (table_of s).slots s.seat.id (λ u n w. LooksAt code (machine_kind kind) u.capacity 0 u n w) 0 Load (x, s.seat.me.1))
    (sym c.join.ensures.joined)
    (owes_look code kind (key_of s).capacity (table_of s).words (table_of s).slots s.seat.id 0 w s.seat.me.1 below s.bare
    (mine.known ∙ (sym mine.keyed ∙ sym key)) mine.idle some)
