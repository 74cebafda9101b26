-- `Pool::into_pass` (src/pool.rt): its return meets the clause `free`.
use Rattle.lock_free_sets.specs.UniqueIndexSet.{view}
use Rattle.zero_copy_bus.proofs.BookLemmas.{holds_nothing}
use Rattle.zero_copy_bus.proofs.pool.Pool.into_pass.Goals as goal

-- once no slot is kept, a pass holds only what somebody holds by the table
pub returns-clause-free : goal.returns-clause-free
returns-clause-free c free =
    let table = c.args.self.table.items in
    holds_nothing (view c.give_all.new.pass) table free (c.give_all.ensures.kept table c.args.self.book)
