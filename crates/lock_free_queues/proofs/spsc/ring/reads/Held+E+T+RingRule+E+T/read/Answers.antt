-- `Held::read` (src/spsc/ring/reads.rt): its call of `look` meets the requirement `owes`, and its return meets the clauses `read`,
-- `found` and `last`.
use Rattle.lock_free_queues.proofs.Names.{◌<◌, ◌∙◌, sym, arith, coding_by}
use Rattle.threaded.specs.Seats.{seen, table_of, key_of}
use Rattle.lock_free_queues.proofs.Queues.Reads.{owes_look, was_read, was_read_last, has_read}
use Rattle.lock_free_queues.proofs.spsc.ring.reads.Held+E+T+RingRule+E+T.read.Goals as goal

-- the load of the word keeps the rule of the table, and tells what a look at this word tells
pub look-requires-clause-owes : goal.look-requires-clause-owes
look-requires-clause-owes g c =
    let mine = c.args.self.now in
    let s = mine.seated in
    let below : c.args.word < (table_of s).words = (let wide = mine.sized in let low = c.requires in omega arith) in
    owes_look (coding_by g.T.Words) g.E.Kind.KIND (key_of s).capacity (table_of s).words
    (table_of s).slots s.seat.id c.args.word (seen s) s.seat.me.1 below s.bare (mine.known ∙ sym mine.keyed) mine.idle mine.some.0

-- the load leaves the share and what the pass has made, and with the whole share it sees nothing more
pub returns-clause-read : goal.returns-clause-read
returns-clause-read g c = has_read g.E.Kind.KIND c.args.self.now.known c.look.ensures.told c.requires c.args.self.now.alone

-- the word had the number that was read, at the moment of the load (clause `found`)
pub returns-clause-found : goal.returns-clause-found
returns-clause-found g c = was_read g.E.Kind.KIND c.args.self.now.known c.look.ensures.told c.requires

-- the word has this number as the pass stands now (clause `last`)
pub returns-clause-last : goal.returns-clause-last
returns-clause-last g c = was_read_last g.E.Kind.KIND c.args.self.now.known c.look.ensures.told c.requires
