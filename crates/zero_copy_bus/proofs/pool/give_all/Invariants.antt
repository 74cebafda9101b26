use Rattle.std.proofs.Common.{◌≡◌, ◌-◌, length}
use Rattle.lock_free_sets.specs.UniqueIndexSet.{made, set_of, share, view}
use Rattle.zero_copy_bus.specs.Books.{HoldsEach, KeepsBook}
use Rattle.zero_copy_bus.proofs.pool.give_all.Given as given

-- The loop has given `_given` kept slots back: the book still agrees with any table that it agreed with, and
-- the list is that much shorter.
abbrev pub invariant-loop-given : given.invariant-loop-given
invariant-loop-given l =
    record {
      set : set_of l.pass ≡ set_of l.fn.pass;
      share : share l.pass ≡ share l.fn.pass;
      held : HoldsEach l.kept.items (made l.pass);
      kept : KeepsBook (view l.fn.pass) l.fn.kept.items (view l.pass) l.kept.items;
      given : length l.kept.items ≡ length l.fn.kept.items - l._given;
      end : l._given-end ≡ length l.fn.kept.items;
    }
