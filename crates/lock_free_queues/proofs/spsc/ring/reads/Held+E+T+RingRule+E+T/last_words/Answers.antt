-- `Held::last_words` (src/spsc/ring/reads.rt): each iteration makes the measure of its loop smaller, and its return meets what it
-- ensures.
use Rattle.lock_free_queues.proofs.Names.{rules, ◌≡◌, ◌≢◌, sym, ap, subst, ◌∙◌, arith, Coding, coding_by}
use Rattle.lock_free_queues.specs.Queues.Bounded.{machine_kind}
use Rattle.lock_free_queues.specs.Queues.Calls.{QueueId}
use Rattle.lock_free_queues.specs.Queues.Rings.{token_view}
use Rattle.lock_free_queues.specs.Queues.Kinds.{words_in_cells}
use Rattle.lock_free_queues.specs.Queues.Reads.{WasRead, CellsRead, HasRead}
use Rattle.lock_free_queues.proofs.Queues.Reads.{then_read, read_until, last_words, writes_rise}
use Rattle.lock_free_queues.proofs.spsc.ring.reads.Held+E+T+RingRule+E+T.last_words.Goals as goal

-- where both loads of the write position found the same, the words are those of one moment, the
-- load of the read position
pub returns-then-again-write : goal.returns-then-again-write
returns-then-again-write g c =
    let inv = c.loop-write.invariant in
    let code : Coding g.row.T.Denot = coding_by g.T.Words in
    let mine = c.args.self.now in
    let size = mine.capacity in
    let w = token_view c.loop-write.self in
    let r = token_view c.read_cells.new.self in
    let x = token_view c.read-read.new.self in
    let y = token_view c.read-again.new.self in
    let words = c.read_cells.new.words.items in
    -- Each read leaves the capacity, so all of them are of one queue.
    let one : c.loop-write.self.capacity ≡ size = ap (λ (q : QueueId). q.capacity) inv.queue in
    let two : c.read_cells.new.self.capacity ≡ size = ap (λ (q : QueueId). q.capacity) c.read_cells.ensures.queue ∙ one in
    let three : c.read-read.new.self.capacity ≡ size = ap (λ (q : QueueId). q.capacity) c.read-read.ensures.queue ∙ two in
    let same : c.read-again.result ≡ c.loop-write.write = search rules in
    let cells : CellsRead code (machine_kind g.E.Kind.KIND) size w r words =
    subst (λ n. CellsRead code (machine_kind g.E.Kind.KIND) n w r words) one c.read_cells.ensures.cells in
    -- The facts of the loop and of the four reads are those of `last_words`.
    let last =
    last_words (words_in_cells g.T.Words.WORDS g.E.Kind.KIND size) words
    mine.small (c.read_cells.ensures.long ∙ (inv.long ∙ c.requires)) inv.few inv.read
    (then_read c.read_cells.ensures.read c.read-read.ensures.read) c.read-again.ensures.read inv.found
    (λ word high low. read_until (cells word high low) c.read-read.ensures.read)
    (subst (λ n. WasRead code (machine_kind g.E.Kind.KIND) n x x 1 c.read-read.result) two c.read-read.ensures.last)
    (subst (WasRead code (machine_kind g.E.Kind.KIND) size y y 0) same
    (subst (λ n. WasRead code (machine_kind g.E.Kind.KIND) n y y 0 c.read-again.result) three c.read-again.ensures.last)) in
    record {
      last = last.0;
      then = c.read-read.new.self;
      queue = c.read-read.ensures.queue ∙ (c.read_cells.ensures.queue ∙ inv.queue);
      view = sym last.1;
    }

-- where the write position has changed, it has risen, and so it lies nearer to the last one
pub loop-write-smaller : goal.loop-write-smaller
loop-write-smaller g c =
    let inv = c.loop-write.invariant in
    let code : Coding g.row.T.Denot = coding_by g.T.Words in
    let size = c.args.self.now.capacity in
    let w = token_view c.loop-write.self in
    let y = token_view c.read-again.new.self in
    -- Each read leaves the capacity, so all of them are of one queue.
    let one : c.loop-write.self.capacity ≡ size = ap (λ (q : QueueId). q.capacity) inv.queue in
    let two : c.read_cells.new.self.capacity ≡ size = ap (λ (q : QueueId). q.capacity) c.read_cells.ensures.queue ∙ one in
    let three : c.read-read.new.self.capacity ≡ size = ap (λ (q : QueueId). q.capacity) c.read-read.ensures.queue ∙ two in
    let more : HasRead w y =
    then_read (then_read c.read_cells.ensures.read c.read-read.ensures.read) c.read-again.ensures.read in
    -- A write position that was read later is no lower, and this one differs.
    let rise =
    writes_rise g.E.Kind.KIND more inv.found
    (subst (λ n. WasRead code (machine_kind g.E.Kind.KIND) n y y 0 c.read-again.result) three c.read-again.ensures.last) in
    let differ : c.read-again.result ≢ c.loop-write.write = c.if-again-write.false in
    let high = c.read-again.ensures.fits in
    let low = inv.few in
    omega arith
