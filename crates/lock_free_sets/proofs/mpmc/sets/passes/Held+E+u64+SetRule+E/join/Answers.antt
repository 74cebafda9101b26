-- `Held::join` (src/mpmc/sets/passes.rt): its call of `join` meets the requirement `joins`, and that of `look` the requirement `owes`.
use Rattle.lock_free_sets.proofs.Names.{◌≡◌, ◌<◌, rules, sym, ap, ◌∙◌, arith, TableId, one_word, joined_view, joins}
use Rattle.threaded.specs.Seats.{table_of, key_of}
use Rattle.threaded.proofs.Shares.{positive}
use Rattle.lock_free_sets.specs.Sets.Kinds.{machine_kind}
use Rattle.lock_free_sets.proofs.Looks.{look_owed}
use Rattle.lock_free_sets.proofs.mpmc.sets.passes.Held+E+u64+SetRule+E.join.Goals as goal

-- Two seats with shares and no call under way may be joined: the rule of the table holds of the joined view.
pub join-requires-clause-joins : goal.join-requires-clause-joins
join-requires-clause-joins g c =
    let mine = c.args.self.now in
    joins one_word (machine_kind g.E.Kind.KIND) _ mine.seated.seat.id c.args.other.seated.seat.id mine.seated.seat.me.0
    c.args.other.seated.seat.me.0 mine.some.0 c.args.other.some.0 c.args.other.idle mine.alone c.args.other.alone

-- the load after both are joined keeps the rule of the table, and tells what a look tells
pub look-requires-clause-owes : goal.look-requires-clause-owes
look-requires-clause-owes g c =
    let mine = c.args.self.now in
    let s = c.join.new.self in
    let v = mine.seated.seat.me.0 in
    let w = c.args.other.seated.seat.me.0 in
    let last = c.words-last.ensures.number in
    let same : (table_of s).words ≡ (table_of mine.seated).words = ap (λ (t : TableId). t.words) c.join.ensures.same.0 in
    let below : c.words-last.result < (table_of s).words = (let wide = mine.sized in omega arith) in
    let key : key_of s ≡ key_of mine.seated = search rules in
    let more = positive v.share.part w.share.parts mine.some.0 c.args.other.some.1 in
    let some : 0 < (joined_view v w).share.part = omega arith in
    look_owed (machine_kind g.E.Kind.KIND) (table_of s).words (table_of s).slots s.seat.id c.words-last.result
    below c.join.ensures.joined s.bare (mine.known ∙ (sym mine.keyed ∙ sym key)) mine.idle some
