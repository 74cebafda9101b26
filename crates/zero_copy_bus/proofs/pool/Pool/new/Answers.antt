-- `Pool::new` (src/pool.rt): its result meets the invariant of its type.
use Rattle.std.proofs.Common.{◌≡◌, [], replicate, rules, sym, subst}
use Rattle.lock_free_sets.specs.UniqueIndexSet.{view}
use Rattle.zero_copy_bus.specs.Books.{IsBookOf}
use Rattle.zero_copy_bus.specs.Holders.{nobody}
use Rattle.zero_copy_bus.proofs.BookLemmas.{book_opens}
use Rattle.zero_copy_bus.proofs.pool.Pool.new.Goals as goal

-- a table of free slots agrees with a pass that holds nothing, if none is kept
pub invariant_of-result : goal.invariant_of-result
invariant_of-result c =
    let all : c.in-Ok-vec.table.items ≡ replicate c.capacity-slots.result nobody = search rules in
    let none : c.in-Ok.kept.items ≡ [] = search rules in
    record {
      of = c.requires.pass;
      long = search rules;
      book = subst (λ k. IsBookOf (view c.args.pass) k c.in-Ok-vec.table.items) (sym none)
          (subst (IsBookOf (view c.args.pass) []) (sym all) (book_opens (view c.args.pass) c.capacity-slots.result c.requires.nothing));
    }
