-- `Ring::of` (src/spsc/queue/make.rt): its call of `of_words` meets the requirements `opens` and `knows`, and the invariant of its loop
-- holds at the start and after each iteration.
use Rattle.lock_free_queues.proofs.Names.{rules, ◌≡◌, ◌≤◌, ◌+◌, ◌*◌, ◌%◌, min, slice_index, [], ◌∷◌, ◌++◌, set}
use Rattle.lock_free_queues.proofs.Names.{replicate, refl, ap, ◌∙◌, arith, mul-le-mul_left, Coding, IsCoding}
use Rattle.lock_free_queues.proofs.Names.{coding_by, of_values}
use Rattle.lock_free_queues.specs.Queues.Opened.{position_at}
use Rattle.lock_free_queues.proofs.Queues.Filled.{filled, fills_more}
use Rattle.lock_free_queues.proofs.Queues.Opened.{queue_opens, queue_knows}
use Rattle.lock_free_queues.proofs.spsc.queue.make.Ring+T.of.Goals as goal

-- before the first word is written the cells have zeros
pub loop-at-init : goal.loop-at-init
loop-at-init g c =
    let size = g.T.Words.WORDS in
    let capacity = c.args.capacity in
    let same : c.WORDS-size.result ≡ size = search rules in
    record {
      position = refl;
      capacity = refl;
      size = same;
      value = c.of_zeros-value.ensures;
      within = omega arith;
      used = ap (λ n. n * c.cells_used.result) same ∙ ap (λ n. size * n) c.cells_used.ensures;
      words = c.in_ok-words.ensures
          ∙ (ap (λ n. n ∷ n ∷ 1 ∷ 1 ∷ (replicate (c.WORDS-size.result * capacity) 0 ++ 0 ∷ [])) c.start_at-start.ensures
          ∙ ap (λ n. position_at capacity c.args.position ∷ position_at capacity c.args.position ∷ 1 ∷ 1
          ∷ (replicate (n * capacity) 0 ++ 0 ∷ []))
          same);
    }

-- after each further word the first words of the cells are those of the value, pushed again and again
pub loop-at-preserved : goal.loop-at-preserved
loop-at-preserved g c =
    let inv = c.loop-at.invariant in
    let size = g.T.Words.WORDS in
    let capacity = c.args.capacity in
    let start = position_at capacity c.args.position in
    let at = c.loop-at.at in
    let value = c.of_zeros-value.result in
    let below = c.loop-at-test.true in
    let used = inv.used in
    let most : size * min c.args.position capacity ≤ size * capacity = mul-le-mul_left size (omega arith) in
    -- The word is the one of the value at this place of the cells.
    let word = c.word-word.ensures ∙ ap (λ n. slice_index (g.T.Words.words_of value) (at % n)) inv.size in
    record {
      position = inv.position;
      capacity = inv.capacity;
      size = inv.size;
      value = inv.value;
      within = omega arith;
      used = inv.used;
      words = ap (λ zs. set zs (4 + at) c.word-word.result) inv.words
          ∙ fills_more (g.T.Words.words_of value) size capacity start start 1 1 at c.word-word.result (omega arith) word;
    }

-- with the words of what was pushed in the cells that were used, the words open as the queue's machine at this position
pub of_words-requires-clause-opens : goal.of_words-requires-clause-opens
of_words-requires-clause-opens g c =
    let met = g.met.T.Words in
    let code : Coding g.row.T.Denot = coding_by g.T.Words in
    let law : IsCoding code = record { some = met.some; few = met.few; sized = met.sized; given_back = met.given_back } in
    let inv = c.loop-at.invariant in
    let used = inv.used in
    let low = inv.within in
    let past = c.loop-at-test.false in
    let capacity = c.args.capacity in
    let start = position_at capacity c.args.position in
    let done : c.loop-at.at ≡ code.size * min c.args.position capacity = omega arith in
    let value = code.value_of (replicate code.size 0) in
    queue_opens code law of_values value capacity c.ranges.capacity.fits c.args.position c.ranges.position.fits c.loop-at.words.items
    (inv.words ∙ (ap (λ x. start ∷ start ∷ 1 ∷ 1 ∷ (filled (code.words_of x) code.size capacity c.loop-at.at ++ 0 ∷ [])) inv.value
    ∙ ap (λ n. start ∷ start ∷ 1 ∷ 1 ∷ (filled (code.words_of value) code.size capacity n ++ 0 ∷ [])) done))

-- the first pass knows the run of the pushes and pops with which the queue opens
pub of_words-requires-clause-knows : goal.of_words-requires-clause-knows
of_words-requires-clause-knows g c =
    let met = g.met.T.Words in
    let code : Coding g.row.T.Denot = coding_by g.T.Words in
    let law : IsCoding code = record { some = met.some; few = met.few; sized = met.sized; given_back = met.given_back } in
    queue_knows code law of_values (code.value_of (replicate code.size 0)) c.args.capacity c.ranges.capacity.fits c.args.position
    c.ranges.position.fits
