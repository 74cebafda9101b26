-- `Ring::of_numbers` (src/spsc/ring/make.rt): its call of `of_words` meets the requirements `opens` and `knows`.
use Rattle.lock_free_queues.proofs.Names.{rules, ◌<◌, ◌^◌}
use Rattle.lock_free_queues.proofs.Queues.Numbers.{numbers_open, numbers_know}
use Rattle.lock_free_queues.proofs.spsc.ring.make.Ring+E+u64.of_numbers.Goals as goal

-- The words open as the machine of a queue at this position (requirement `opens`).
pub of_words-requires-clause-opens : goal.of_words-requires-clause-opens
of_words-requires-clause-opens g c =
    let small : c.args.capacity < 2 ^ 32 = search rules in
    numbers_open c.args.capacity small c.args.position c.ranges.position.fits g.E.Kind.KIND _ _ c.in-Ok.words.items
    c.requires.cells c.start_at-start.ensures c.in-Ok.ensures

-- The first pass knows the run with which the queue opens (requirement `knows`).
pub of_words-requires-clause-knows : goal.of_words-requires-clause-knows
of_words-requires-clause-knows g c =
    let small : c.args.capacity < 2 ^ 32 = search rules in
    numbers_know c.args.capacity small c.args.position c.ranges.position.fits g.E.Kind.KIND
