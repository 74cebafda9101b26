-- `Pool::remove` (src/pool.rt): its call of `keep_one` meets the requirement `held`.
use Rattle.zero_copy_bus.proofs.BookLemmas.{holds_held, is_somebody}
use Rattle.zero_copy_bus.proofs.pool.Pool.remove.Goals as goal

-- a slot that somebody holds by the table is held by the pass
pub keep_one-requires-clause-held : goal.keep_one-requires-clause-held
keep_one-requires-clause-held c =
    let mine = c.args.self.now in
    holds_held mine.book c.args.slot mine.pass.sound (is_somebody _ c.args.holder c.requires.has)
