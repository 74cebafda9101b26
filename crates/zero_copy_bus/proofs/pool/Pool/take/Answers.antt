-- `Pool::take` (src/pool.rt): its call of `take_one` meets the requirement `held`, `self` meets the invariant of its type, and its
-- return meets the clauses `free` and `changes`.
use Rattle.std.proofs.Common.{◌<◌, ◌≡◌, length, rules, sym, subst, ◌∙◌, length-set}
use Rattle.lock_free_sets.specs.UniqueIndexSet.{view}
use Rattle.zero_copy_bus.proofs.BookLemmas.{free_is, is_taken, set_changes, was_free}
use Rattle.zero_copy_bus.specs.Holders.{SameBut}
use Rattle.zero_copy_bus.specs.Books.{holders_at}
use Rattle.zero_copy_bus.proofs.pool.Pool.take.Goals as goal

-- the book stays right: the slot that `take_one` returned was held by nobody, and is held now
pub invariant_of-self-2 : goal.invariant_of-self-2
invariant_of-self-2 g c =
    let mine = c.args.self.now in
    let slot = c.in_ok-slot.slot in
    let got = c.in_ok-slot.ensures in
    let since = c.take_one.new in
    let lt : slot < length mine.table.items = subst (λ n. slot < n) (sym mine.long) got.within in
    record {
      of = search rules;
      long = length-set mine.table.items slot c.with.result ∙ mine.long;
      book = is_taken (view since.pass) since.kept.items mine.table.items slot since.pass.sound (got.taken mine.table.items mine.book)
          c.with.result lt c.with.ensures.held;
    }

-- nobody held the slot, since it was kept or free
pub returns-clause-free : goal.returns-clause-free
returns-clause-free g c =
    let mine = c.args.self.now in
    let since = c.take_one.new in
    was_free (view since.pass) since.kept.items mine.table.items c.in_ok-slot.slot since.pass.sound
    (c.in_ok-slot.ensures.taken mine.table.items mine.book)

-- the slot's holders were nobody, and now this holder alone is among them
pub returns-clause-changes : goal.returns-clause-changes
returns-clause-changes g c =
    let mine = c.args.self.now in
    let table = mine.table.items in
    let slot = c.in_ok-slot.slot in
    let got = c.in_ok-slot.ensures in
    let since = c.take_one.new in
    let lt : slot < length table = subst (λ n. slot < n) (sym mine.long) got.within in
    let free = was_free (view since.pass) since.kept.items table slot since.pass.sound (got.taken table mine.book) in
    let none : c.nobody.result ≡ holders_at table slot = c.nobody.ensures ∙ sym (free_is _ free) in
    set_changes table slot c.with.result c.args.holder lt (subst (λ h. SameBut c.args.holder h c.with.result) none c.with.ensures.others)
