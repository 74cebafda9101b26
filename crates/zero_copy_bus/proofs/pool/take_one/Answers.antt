-- `take_one` (src/pool.rt): its return meets the clauses `within`, `taken` and `refused`.
use Rattle.std.proofs.Common.{◌≡◌, ◌<◌, ◌++◌, [], ◌∷◌, ap, rules, subst, ◌∙◌}
use Rattle.std.proofs.lemmas.List.{append-nil}
use Rattle.lock_free_sets.specs.UniqueIndexSet.{SetId, made, view}
use Rattle.zero_copy_bus.specs.Books.{HoldsEach}
use Rattle.zero_copy_bus.proofs.BookLemmas.{book_stays, is_acquired, is_refused, last_held, on_error}
use Rattle.zero_copy_bus.proofs.pool.take_one.Goals as goal

-- the pass holds the slot that was kept last, so it is one of the set
pub returns-in-Some-clause-within : goal.returns-in-Some-clause-within
returns-in-Some-clause-within g c =
    let pass = c.args.pass.now in
    let kept = c.pop.new.self.items in
    let slot = c.in-Some.slot in
    let items : c.args.kept.now.items ≡ kept ++ slot ∷ [] = search rules in
    let holds = last_held (view pass) (view pass) kept slot pass.sound (subst (λ k. HoldsEach k (made pass)) items c.requires.held) in
    subst (λ n. slot < n) (pass.known ∙ ap (λ (z : SetId). z.capacity) c.requires.pass) (pass.sound.within slot holds)

-- the slot that was kept last is taken, and the pass stays as it was
pub returns-in-Some-clause-taken : goal.returns-in-Some-clause-taken
returns-in-Some-clause-taken g c =
    let items : c.args.kept.now.items ≡ c.pop.new.self.items ++ c.in-Some.slot ∷ [] = search rules in
    book_stays (view c.args.pass.now) _ _ items

-- no slot was kept, and an index of the set is acquired
pub returns-clause-taken : goal.returns-clause-taken
returns-clause-taken g c table book =
    let kept = c.pop.new.self.items in
    let items : c.args.kept.now.items ≡ kept ++ [] = search rules in
    is_acquired (view c.args.pass.now) (view c.acquire_raw_index.new.pass) kept c.in_ok-slot.slot c.in_ok-slot.ensures.acquired.acquired table
    (book_stays (view c.args.pass.now) _ _ (items ∙ append-nil kept) table book)

-- no slot was kept, and the set refuses
pub returns-in_err-slot-clause-refused : goal.returns-in_err-slot-clause-refused
returns-in_err-slot-clause-refused g c =
    let kept = c.pop.new.self.items in
    let items : c.args.kept.now.items ≡ kept ++ [] = search rules in
    on_error c.from_residual.result _ (λ table book.
    is_refused (view c.args.pass.now) (view c.acquire_raw_index.new.pass) kept _ c.in_err-slot.ensures.refused table
    (book_stays (view c.args.pass.now) _ _ (items ∙ append-nil kept) table book))
