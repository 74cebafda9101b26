-- `Held::read_cells` (src/spsc/ring/reads.rt): its call of `read` meets what that requires, the invariant of its loop holds at the start
-- and after each iteration, and its return meets the clause `cells`.
use Rattle.lock_free_queues.proofs.Names.{◌≡◌, ◌<◌, ◌+◌, sym, ap, subst, ◌∙◌, arith, Coding, coding_by, refl}
use Rattle.lock_free_queues.proofs.Names.{length-set}
use Rattle.lock_free_queues.specs.Queues.Bounded.{machine_kind}
use Rattle.lock_free_queues.specs.Queues.Calls.{QueueId}
use Rattle.lock_free_queues.specs.Queues.Rings.{token_view}
use Rattle.lock_free_queues.specs.Queues.Kinds.{words_in_cells}
use Rattle.lock_free_queues.specs.Queues.Reads.{WasRead}
use Rattle.lock_free_queues.proofs.Queues.Reads.{not_read, none_read, then_read, one_read}
use Rattle.lock_free_queues.proofs.spsc.ring.reads.Held+E+T+RingRule+E+T.read_cells.Goals as goal

-- before the first load no word of the cells was read, and nothing else has changed
pub loop-at-init : goal.loop-at-init
loop-at-init g c =
    let code : Coding g.row.T.Denot = coding_by g.T.Words in
    let mine = c.args.self.now in
    let v = token_view mine in
    let long = c.requires.long in
    record {
      queue = refl;
      read = not_read v c.requires.all;
      cells = none_read code (machine_kind g.E.Kind.KIND) mine.capacity v v c.args.words.now.items;
      long = refl;
      past = omega arith;
      within = omega arith;
    }

-- each word that is loaded is one of the table
pub read-word-requires : goal.read-word-requires
read-word-requires g c =
    let inv = c.loop-at.invariant in
    let same : c.loop-at.self.capacity ≡ c.args.self.now.capacity = ap (λ (q : QueueId). q.capacity) inv.queue in
    let below = c.loop-at-test.true in
    let long = c.requires.long in
    subst (λ n. c.loop-at.at < 4 + words_in_cells g.T.Words.WORDS g.E.Kind.KIND n) (sym same) (omega arith)

-- after each load one word more was read, with the words before it
pub loop-at-preserved : goal.loop-at-preserved
loop-at-preserved g c =
    let inv = c.loop-at.invariant in
    let code : Coding g.row.T.Denot = coding_by g.T.Words in
    let mine = c.args.self.now in
    let w = token_view c.loop-at.self in
    let x = token_view c.read-word.new.self in
    let at = c.loop-at.at in
    let words = c.loop-at.words.items in
    let found = c.read-word.result in
    let same : c.loop-at.self.capacity ≡ mine.capacity = ap (λ (q : QueueId). q.capacity) inv.queue in
    let r = c.read-word.ensures.read in
    let below = c.loop-at-test.true in
    let all = inv.long in
    let high = inv.past in
    let here : WasRead code (machine_kind g.E.Kind.KIND) mine.capacity w x at found =
    subst (λ n. WasRead code (machine_kind g.E.Kind.KIND) n w x at found) same c.read-word.ensures.found in
    -- The read of the word adds it to the words below the next place.
    record {
      queue = c.read-word.ensures.queue ∙ inv.queue;
      read = then_read inv.read r;
      cells = one_read words (omega arith) inv.read r inv.cells here;
      long = length-set words at found ∙ inv.long;
      past = omega arith;
      within = omega arith;
    }

-- behind the loop all words of the cells were read (clause `cells`)
pub returns-clause-cells : goal.returns-clause-cells
returns-clause-cells g c word high low =
    (let past = c.loop-at-test.false in let all = c.loop-at.invariant.long in c.loop-at.invariant.cells word high (omega arith))
