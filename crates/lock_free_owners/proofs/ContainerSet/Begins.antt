-- The calls on a container at a pass whose last call may rest: each may begin (`.._begins`), and each
-- of its steps keeps the rule of the table.
use Rattle.lock_free_owners.proofs.Names.{◌≡◌, ℕ, ◌+◌, ◌<◌, None, [], refl, sym, subst, arith, nat_lt}
use Rattle.lock_free_owners.proofs.Names.{true, nat_tests, first_add, add_want, add_after, first_remove}
use Rattle.lock_free_owners.proofs.Names.{remove_want, remove_after, first_replace, replace_want, replace_after}
use Rattle.lock_free_owners.proofs.Names.{empty, first_borrowed, borrowed_want, borrowed_after, Owned, Replacement}
use Rattle.lock_free_owners.proofs.Names.{GiveBack, CountOf, Coding, IsCoding, View, adds_value, removes_value}
use Rattle.lock_free_owners.proofs.Names.{replaces_value, counts_values, sees_lock}
use Rattle.lock_free_owners.proofs.Names.{Calling, At, Ends, AsksFor, container_words, Keeps, rested_keeps}
use Rattle.steps.specs.Indices.Robust.Looks.{locked_after}
use Rattle.steps.specs.Queues.Ring.{load}
use Rattle.steps.specs.declared.ask.Op.TheVariants as ops
use Rattle.steps.specs.declared.container.add.Add.{Add as Adding}
use Rattle.steps.specs.declared.container.remove.Remove.{Remove as Removing}
use Rattle.steps.specs.declared.container.replace.Replace.{Replace as Replacing}
use Rattle.steps.specs.declared.indices.robust.looks.BorrowedIndices.{BorrowedIndices as Counting}
use Rattle.steps.specs.declared.indices.robust.looks.IsLocked.{IsLocked as Looking}
use Rattle.model.specs.declared.turn.Kind.TheVariants as kinds
use Rattle.history_owners.proofs.ContainerAdds.{container_add_keeps, container_add_first, container_replace_keeps}
use Rattle.history_owners.proofs.ContainerAdds.{container_replace_first}
use Rattle.history_owners.proofs.ContainerCalls.{container_count_keeps, container_count_first, container_lock_keeps}
use Rattle.history_owners.proofs.ContainerCalls.{container_lock_first, remove_call, container_remove_keeps}
use Rattle.history_owners.proofs.ContainerCalls.{container_remove_first}
use Rattle.lock_free_owners.specs.Container.Idle.{IsIdle}
use Rattle.lock_free_owners.specs.Container.Turns.{CallAt, BeginsAdd, BeginsRemove, BeginsReplace, BeginsCount}
use Rattle.lock_free_owners.specs.Container.Turns.{BeginsLock, AddAt, AddEnds, RemoveAt, RemoveEnds, ReplaceAt}
use Rattle.lock_free_owners.specs.Container.Turns.{ReplaceEnds, CountAt, CountEnds, LockAt, LockEnds}
use Rattle.lock_free_owners.proofs.ContainerSet.Idle.{rested_begins}

module _ {T : Type 0} (code : Coding T) where
  -- ---- a call that begins

  module _ {C E : Type 0} (begins : ℕ → C → Type 0) (call : Calling T C (Unit {0}) E) where
    -- A call is about to begin by an idle pass.
    pub begins_at : (v : View T) (c : C) → begins v.capacity c → (v.going ≡ None → At code kinds.Container call v v c tt) → IsIdle v → v.other ≡ []
        → 0 < v.share.part → CallAt code begins call v v c tt
    begins_at v c = rested_begins code (λ capacity c m. begins capacity c) (At code kinds.Container call) (Ends code kinds.Container call) v c tt

  -- ---- add

  module _ (law : IsCoding code) (given : Owned T) where
    -- An add asks for a word of the container at its first stage.
    add_asks : (capacity : ℕ) (c : Adding T) → BeginsAdd given capacity c → AsksFor (container_words code capacity) (add_want code.words_of code.size c given)
    add_asks capacity c b =
        subst (λ d. AsksFor (container_words code capacity) (add_want code.words_of code.size d given)) (sym b.0) (_, omega arith, refl)

    -- An add is about to begin by a pass with no call under way.
    add_first : (v : View T) (c : Adding T) (m : Unit {0}) → BeginsAdd given v.capacity c → v.going ≡ None → v.other ≡ [] → 0 < v.share.part
        → At code kinds.Container (adds_value code.size given) v v c m
    add_first v c m begins_add going_is_none other_is_empty part_positive = grind (arith, adds_value, container_add_first)

    -- Each step of an add keeps the rule of the table.
    pub add_keeps : Keeps code (AddAt code given) (AddEnds code given) (λ c. add_want code.words_of code.size c given) (λ c n. add_after code.size c n)
        (λ c m n. m)
    add_keeps =
        let keeps_rule = rested_keeps code (adds_value code.size given) (λ c. add_want code.words_of code.size c given) (λ c m. refl) in
        keeps_rule (BeginsAdd given) add_asks (λ c n. add_after code.size c n) (λ c m n. m) (container_add_keeps code law given) add_first

    -- An add for an owner that there may be is about to begin by an idle pass.
    pub add_begins : (v : View T) → given.owner < empty → IsIdle v → v.other ≡ [] → 0 < v.share.part → AddAt code given v v (first_add v.capacity) tt
    add_begins v fits idle alone any =
        begins_at (BeginsAdd given) (adds_value code.size given) v (first_add v.capacity) (refl, fits)
        (λ none. add_first v (first_add v.capacity) tt (refl, fits) none alone any) idle alone any

  -- ---- remove

  module _ (given : GiveBack) where
    -- a remove that begins, of an index below the capacity, asks for a word of the container
    remove_asks : (capacity : ℕ) (c : Removing) → BeginsRemove given capacity c → AsksFor (container_words code capacity) (remove_want c given)
    remove_asks capacity c b =
        let low = b.1 in
        let below : nat_lt given.index capacity ≡ true = grind (arith, nat_tests) in
        subst (λ d. AsksFor (container_words code capacity) (remove_want d given)) (sym b.0)
        ((remove_call code given).asks capacity (first_remove capacity given.index) (refl, b.1, rw below tt))

    -- A remove is about to begin by a pass with no call under way.
    remove_first : (v : View T) (c : Removing) (m : Unit {0}) → BeginsRemove given v.capacity c → v.going ≡ None → v.other ≡ [] → 0 < v.share.part
        → At code kinds.Container (removes_value given) v v c m
    remove_first v c m begins_remove going_is_none other_is_empty part_positive = grind (arith, removes_value, container_remove_first)

    -- Each step of a remove keeps the rule of the table.
    pub remove_keeps : Keeps code (RemoveAt code given) (RemoveEnds code given) (λ c. remove_want c given) (λ c n. remove_after c given n) (λ c m n. m)
    remove_keeps =
        let keeps_rule = rested_keeps code (removes_value given) (λ c. remove_want c given) (λ c m. refl) in
        keeps_rule (BeginsRemove given) remove_asks (λ c n. remove_after c given n) (λ c m n. m) (container_remove_keeps code given) remove_first

    -- a remove may begin at a pass between two calls, of an index below the capacity
    pub remove_begins : (v : View T) → given.index < v.capacity → given.owner < empty → IsIdle v → v.other ≡ [] → 0 < v.share.part
        → RemoveAt code given v v (first_remove v.capacity given.index) tt
    remove_begins v low fits idle alone any =
        begins_at (BeginsRemove given) (removes_value given) v (first_remove v.capacity given.index) (refl, low, fits)
        (λ none. remove_first v (first_remove v.capacity given.index) tt (refl, low, fits) none alone any) idle alone any

  -- ---- replace

  module _ (law : IsCoding code) (given : Replacement T) where
    -- a replace that begins, of an index below the capacity, asks for a word of the container
    replace_asks : (capacity : ℕ) (c : Replacing T) → BeginsReplace given capacity c
        → AsksFor (container_words code capacity) (replace_want code.words_of code.size c given)
    replace_asks capacity c b =
        let low = b.1 in
        let below : nat_lt given.index capacity ≡ true = grind (arith, nat_tests) in
        subst (λ d. AsksFor (container_words code capacity) (replace_want code.words_of code.size d given)) (sym b.0)
        (rw below (record { word = 1 + given.index; op = ops.Load }, omega arith, refl))

    -- A replace is about to begin by a pass with no call under way.
    replace_first : (v : View T) (c : Replacing T) (m : Unit {0}) → BeginsReplace given v.capacity c → v.going ≡ None → v.other ≡ [] → 0 < v.share.part
        → At code kinds.Container (replaces_value code.size given) v v c m
    replace_first v c m begins_replace going_is_none other_is_empty part_positive = grind (arith, replaces_value, container_replace_first)

    -- Each step of a replace keeps the rule of the table.
    pub replace_keeps : Keeps code (ReplaceAt code given) (ReplaceEnds code given) (λ c. replace_want code.words_of code.size c given)
        (λ c n. replace_after code.size c given n) (λ c m n. m)
    replace_keeps =
        let keeps_rule = rested_keeps code (replaces_value code.size given) (λ c. replace_want code.words_of code.size c given) (λ c m. refl) in
        keeps_rule (BeginsReplace given) replace_asks (λ c n. replace_after code.size c given n) (λ c m n. m)
        (container_replace_keeps code law given) replace_first

    -- a replace may begin at a pass between two calls, of an index below the capacity
    pub replace_begins : (v : View T) → given.index < v.capacity → given.owner < empty → IsIdle v → v.other ≡ [] → 0 < v.share.part
        → ReplaceAt code given v v (first_replace v.capacity given.index) tt
    replace_begins v low fits idle alone any =
        begins_at (BeginsReplace given) (replaces_value code.size given) v (first_replace v.capacity given.index) (refl, low, fits)
        (λ none. replace_first v (first_replace v.capacity given.index) tt (refl, low, fits) none alone any) idle alone any

  -- ---- looks

  module _ (which : CountOf) where
    -- A count asks for a word of the container at its first stage.
    count_asks : (capacity : ℕ) (c : Counting) → BeginsCount capacity c → AsksFor (container_words code capacity) (borrowed_want c)
    count_asks capacity c b = subst (λ d. AsksFor (container_words code capacity) (borrowed_want d)) (sym b) (_, omega arith, refl)

    -- A count is about to begin by a pass with no call under way.
    count_first : (v : View T) (c : Counting) (m : Unit {0}) → BeginsCount v.capacity c → v.going ≡ None → v.other ≡ [] → 0 < v.share.part
        → At code kinds.Container (counts_values which) v v c m
    count_first v c m begins_count going_is_none other_is_empty part_positive = grind (arith, counts_values, container_count_first)

    -- Each step of a count keeps the rule of the table.
    pub count_keeps : Keeps code (CountAt code which) (CountEnds code which) borrowed_want borrowed_after (λ c m n. m)
    count_keeps =
        let keeps_rule = rested_keeps code (counts_values which) borrowed_want (λ c m. refl) in
        keeps_rule BeginsCount count_asks borrowed_after (λ c m n. m) (container_count_keeps code which) count_first

    -- A count is about to begin by an idle pass.
    pub count_begins : (v : View T) → IsIdle v → v.other ≡ [] → 0 < v.share.part → CountAt code which v v (first_borrowed v.capacity) tt
    count_begins v idle alone any =
        begins_at BeginsCount (counts_values which) v (first_borrowed v.capacity) refl
        (λ none. count_first v (first_borrowed v.capacity) tt refl none alone any) idle alone any

  -- The step of `is_locked` keeps the rule of the table.
  pub lock_keeps : Keeps code (LockAt code) (LockEnds code) (λ c. load 0) locked_after (λ c m n. m)
  lock_keeps =
      let keeps_rule = rested_keeps code sees_lock (λ c. load 0) (λ c m. refl) in
      keeps_rule BeginsLock (λ capacity c b. (_, omega arith, refl)) locked_after (λ c m n. m)
      (container_lock_keeps code) (λ v c m b idle alone any. container_lock_first code v c m idle alone any)

  -- A call of `is_locked` is about to begin by an idle pass.
  pub lock_begins : (v : View T) (c : Looking) → IsIdle v → v.other ≡ [] → 0 < v.share.part → LockAt code v v c tt
  lock_begins v c idle alone any = begins_at BeginsLock sees_lock v c tt (λ none. container_lock_first code v c tt none alone any) idle alone any
