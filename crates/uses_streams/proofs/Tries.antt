-- What a call with a limit of tries has done after one try more.
use Rattle.std.proofs.Common.{◌≡◌, ◌+◌, ◌*◌, ◌<◌, ◌≤◌, ℕ, zero, suc, Option, Some, None, is_some, true≢false, refl, sym, ap, subst, ◌∙◌, suc-mul, arith}
use Rattle.std.proofs.lemmas.Nat.{mul-le}
use Rattle.model.specs.declared.event.Item.{Item}
use Rattle.history.specs.declared.view.View.{View}
use Rattle.history.specs.Steps.{TakesAtMost}
use Rattle.lock_free_queues.specs.Queues.Contracts.{PushDone, PushRefused, PopDone, PopEmpty, PopOldest, PopFoundNone}
use Rattle.steps.specs.declared.words.Words.{Ghosts}
use Rattle.lock_free_queues.specs.declared.spsc.ring.rule.Kind as kinds
use Rattle.lock_free_queues.specs.declared.spsc.ring.Consumer.{Consumer}
use Rattle.lock_free_queues.specs.Queues.Rings.{QueueId, consumer_queue, consumer_view, SameConsumerByCapacity}
use Rattle.uses_streams.specs.Tries.{Times, WereRefused, WereEmpty, WasPushedWithin, WasPoppedWithin, WasTakenWithin}

module _ {A : Type 0} (Step : A → A → Type 0) where
  -- `n` steps and then one more are `n + 1` steps.
  times_more : (n : ℕ) (old between new : A) → Times n Step old between → Step between new → Times (n + 1) Step old new
  times_more n old between new so_far next =
      let more : n + 1 ≡ suc n = omega arith in
      subst (λ k. Times k Step old new) (sym more) (between, so_far, next)

  times_all : (n m : ℕ) (old new : A) → n ≡ m → Times n Step old new → Times m Step old new
  times_all n m old new same so_far = subst (λ k. Times k Step old new) same so_far

module _ {T : Type 0} where
  -- the queue of the last push is that of the first
  module _ {first queue : QueueId} (same : queue ≡ first) (item : Item T) (n : ℕ) (old between new : View T)
      (so_far : WereRefused n first.capacity item old between) where
    -- `n` pushes that were refused and then one more are `n + 1`.
    pub refused_more : PushRefused queue.capacity item between new → WereRefused (n + 1) first.capacity item old new
    refused_more full =
        times_more (PushRefused first.capacity item) n old between new so_far
        (subst (λ (q : QueueId). PushRefused q.capacity item between new) same full)

    pub pushed_within : (tries : ℕ) → n < tries → PushDone item between new → WasPushedWithin tries first.capacity item old new
    pushed_within tries few pushed = record { refused = n; few = few; last = between; before = so_far; pushed = pushed }

  pub refused_all : (capacity n tries : ℕ) (item : Item T) (old new : View T) → n ≡ tries → WereRefused n capacity item old new
      → WereRefused tries capacity item old new
  refused_all capacity n tries item old new all so_far = times_all (PushRefused capacity item) n tries old new all so_far

  -- The queue was found empty `n` times, and is tried once more.
  module _ (n : ℕ) (old between new : View T) (so_far : WereEmpty n old between) where
    pub empty_more : PopEmpty between new → WereEmpty (n + 1) old new
    empty_more empty = times_more PopEmpty n old between new so_far empty

    pub popped_within : (tries : ℕ) (item : Item T) → n < tries → PopDone item between new → WasPoppedWithin tries item old new
    popped_within tries item few popped = record { empty = n; few = few; last = between; before = so_far; popped = popped }

  pub empty_all : (n tries : ℕ) (old new : View T) → n ≡ tries → WereEmpty n old new → WereEmpty tries old new
  empty_all n tries old new all so_far = times_all PopEmpty n tries old new all so_far

  -- the steps of n tries, each of which takes at most `each`
  module _ (each n : ℕ) (old : View T) where
    -- n + 1 tries take at most (n + 1) * each steps
    pub steps_more : (between new : View T) → TakesAtMost (n * each) old between → TakesAtMost each between new
        → TakesAtMost ((n + 1) * each) old new
    steps_more between new so_far next =
        let one : n + 1 ≡ suc n = omega arith in
        let more : (n + 1) * each ≡ n * each + each = ap (λ m. m * each) one ∙ suc-mul n each in
        omega arith

    pub steps_within : (tries : ℕ) (new : View T) → n ≤ tries → TakesAtMost (n * each) old new → TakesAtMost (tries * each) old new
    steps_within tries new few steps = (let most = mul-le n each tries each few (omega arith) in omega arith)

  -- ---- of an overflowing queue

  module _ (n : ℕ) (old between new : View T) (so_far : Times n PopFoundNone old between) where
    pub none_more : PopFoundNone between new → Times (n + 1) PopFoundNone old new
    none_more none = times_more PopFoundNone n old between new so_far none

    pub taken_within : (tries : ℕ) (item : Item T) → n < tries → PopOldest item between new → WasTakenWithin tries item old new
    taken_within tries item few taken = record { empty = n; few = few; last = between; before = so_far; taken = taken }

  pub none_all : (n tries : ℕ) (old new : View T) → n ≡ tries → Times n PopFoundNone old new → Times tries PopFoundNone old new
  none_all n tries old new all so_far = times_all PopFoundNone n tries old new all so_far

by_capacity : {A : Type 0} (capacity : ℕ) → (0 < capacity → A) → (capacity ≡ 0 → A) → A
by_capacity zero some none = none refl
by_capacity (suc n) some none = some (omega arith)

-- a pop that answers a number was of a queue with a capacity
pub has_capacity : {A : Type 0} (capacity : ℕ) (answer : Option A) (x : A) → answer ≡ Some x → (capacity ≡ 0 → answer ≡ None) → 0 < capacity
has_capacity capacity answer x is none =
    by_capacity capacity (λ some. some) (λ empty. absurd (true≢false (ap is_some (sym is ∙ none empty))))

-- a call that takes no step without a capacity keeps the share
pub keeps_share : {E T : Type 0} {kind : kinds.Ghosts E} {words : Ghosts T} (old new : Consumer E T kind words)
    → SameConsumerByCapacity old new → (consumer_view new).share ≡ (consumer_view old).share
keeps_share old new same =
    by_capacity (consumer_queue old).capacity (λ some. (same.goes some).share) (λ none. ap (λ v. v.share) (same.none none))
