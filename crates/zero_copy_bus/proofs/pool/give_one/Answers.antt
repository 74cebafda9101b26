-- `give_one` (src/pool.rt): its call of `release_raw_index` meets the requirement `held`.
use Rattle.std.proofs.Common.{◌≡◌, ◌++◌, [], ◌∷◌, rules, subst}
use Rattle.lock_free_sets.specs.UniqueIndexSet.{made, view}
use Rattle.zero_copy_bus.specs.Books.{HoldsEach}
use Rattle.zero_copy_bus.proofs.BookLemmas.{last_held}
use Rattle.zero_copy_bus.proofs.pool.give_one.Goals as goal

-- the slot that was kept last is held by the pass, so it may be released
pub release_raw_index-requires-clause-held : goal.release_raw_index-requires-clause-held
release_raw_index-requires-clause-held c =
    let pass = c.args.pass.now in
    let items : c.args.kept.now.items ≡ c.pop.new.self.items ++ c.in-Some.slot ∷ [] = search rules in
    last_held (view pass) (view pass) c.pop.new.self.items c.in-Some.slot pass.sound (subst (λ k. HoldsEach k (made pass)) items c.requires.held)
