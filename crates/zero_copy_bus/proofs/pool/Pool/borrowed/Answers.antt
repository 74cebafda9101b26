-- `Pool::borrowed` (src/pool.rt): its return meets the clauses `least` and `whole`.
use Rattle.std.proofs.Common.{arith, sym, subst}
use Rattle.threaded.specs.Shares.{IsAll}
use Rattle.zero_copy_bus.proofs.BookLemmas.{all_are_held, is_counted, most_are_held}
use Rattle.zero_copy_bus.proofs.pool.Pool.borrowed.Goals as goal

-- the pass holds the held and the kept slots, which are at most as many as are out
pub returns-clause-least : goal.returns-clause-least
returns-clause-least c =
    let counted = c.borrowed_indices in
    let book = is_counted c.args.self.now.book counted.result _ counted.ensures.counted.counted in
    let most = most_are_held book counted.result counted.ensures.counted.least in
    omega (arith, c.args.self.now.kept.ok.0)

-- with the whole share they are exactly as many as are out
pub returns-clause-whole : goal.returns-clause-whole
returns-clause-whole c all =
    let counted = c.borrowed_indices in
    let book = is_counted c.args.self.now.book counted.result _ counted.ensures.counted.counted in
    let just = all_are_held book counted.result counted.ensures.counted.whole (subst IsAll (sym counted.ensures.same.share) all) in
    omega (arith, c.args.self.now.kept.ok.0)
