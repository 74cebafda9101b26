-- `Held::look` (src/spsc/ring/passes.rt): its call of `look` meets the requirement `owes`, and its return meets the clause `looked`.
use Rattle.lock_free_queues.proofs.Names.{◌<◌, ◌∙◌, sym, arith, coding_by, LooksAt}
use Rattle.lock_free_queues.specs.Queues.Bounded.{machine_kind}
use Rattle.threaded.specs.Seats.{seen, table_of, key_of}
use Rattle.lock_free_queues.proofs.Queues.Reads.{owes_look, has_looked}
use Rattle.lock_free_queues.proofs.spsc.ring.passes.Held+E+T+RingRule+E+T.look.Goals as goal

-- the load of the write position keeps the rule of the table, and tells what a look tells
pub look-requires-clause-owes : goal.look-requires-clause-owes
look-requires-clause-owes g c =
    let mine = c.args.self.now in
    let s = mine.seated in
    let below : 0 < (table_of s).words = (let wide = mine.sized in omega arith) in
    owes_look (coding_by g.T.Words) g.E.Kind.KIND (key_of s).capacity (table_of s).words
    (table_of s).slots s.seat.id 0 (seen s) s.seat.me.1 below s.bare (mine.known ∙ sym mine.keyed) mine.idle mine.some.0

-- the look has made nothing, and with the whole share it sees nothing more
pub returns-clause-looked : goal.returns-clause-looked
returns-clause-looked g c =
    let mine = c.args.self.now in
    let l : LooksAt (coding_by g.T.Words) (machine_kind g.E.Kind.KIND)
    mine.seated.seat.me.0.capacity 0 mine.seated.seat.me.0 c.look.result c.look.new.self.seat.me.0 =
    c.look.ensures.told in
    has_looked mine.alone l.looks
