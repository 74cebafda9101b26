-- The laws of a queue's history in the forms in which `src/laws.rt` promises them.
use Rattle.std.proofs.Common.{arith}
use Rattle.lock_free_queues.proofs.Names.{◌≡◌, ℕ, ◌+◌, ◌<◌, ◌≤◌, List, [], ◌∷◌, length, refl, sym, ap, subst}
use Rattle.lock_free_queues.proofs.Names.{append-nil, PoppedNone, Event, HandedOut, Acted, Item, Queues, QueueKind}
use Rattle.lock_free_queues.proofs.Names.{Pop, Coding, published, handed_out, hands_out, of_indices}
use Rattle.lock_free_queues.proofs.Names.{of_values, View, IsHistory, history_by_over_holders, over_lists_kept}
use Rattle.lock_free_queues.proofs.Names.{over_listed}
use Rattle.model.specs.declared.families.queues.QueueKind.TheVariants as queues
use Rattle.model.specs.Linearizable.{IsLinearizable}
use Rattle.model.specs.Linearized.{as_list, is_push_or_pop}
use Rattle.model.specs.Progress.{KeepsGuarantees}
use Rattle.model.specs.Promises.{IsKeptBy}
use Rattle.model.specs.StronglyLinearizable.{AreStronglyLinearizable, IsLinearizedBy}
use Rattle.model.proofs.Linearizable.Kinds.{list_by_acts}
use Rattle.model.proofs.Linearizable.Strong.{order, strongly}
use Rattle.model.proofs.Progress.{keeps_guarantees}
use Rattle.laws_queues.proofs.Queues.Sound.{kept_on, promised_by}
use Rattle.history_queues.proofs.QueueRuns.{queue_run}
use Rattle.lock_free_queues.specs.Queues.Bounded.{IsBounded, machine_kind}
use Rattle.lock_free_queues.specs.Queues.Positions.{IsPublished, IsTaken, IsSound, IsOverSound}
use Rattle.lock_free_queues.specs.Queues.Contracts.{HasPublished, HasTakenOut, HasTakenFirst, WasEmpty, FoundNone, WasFull}
use Rattle.history.proofs.Ranks.{hits_grow}
use Rattle.lock_free_queues.proofs.Queues.Positions.{values_agree, sound_history, published_at, taken_at, none_later, found_later, full_below}
use Rattle.lock_free_queues.proofs.Queues.Facts.{answers_right, tells_lengths, grants, listed_always}

module _ {T : Type 0} (code : Coding T) where
  -- these are the events of a history of a queue of this kind and capacity
  abbrev IsSeen : QueueKind → ℕ → List (Event T) → Type 0
  IsSeen kind capacity events = IsHistory code (machine_kind kind) capacity events

  -- a history of a queue is linearizable as a list of this kind and capacity, in the order in which its calls act
  by_acts : (kind : QueueKind) (capacity : ℕ) (events : List (Event T)) → IsSeen kind capacity events
      → IsLinearizedBy (as_list kind capacity) (order is_push_or_pop events) events
  by_acts kind capacity events is_seen =
      let trace_now = is_seen.trace in
      let run_now = is_seen.run in
      let run_here = queue_run code capacity kind trace_now run_now in
      let kept = kept_on kind trace_now run_now.of_kind run_here.reached.coded run_here.reached.admitted run_here.fresh in
      subst (λ es. IsLinearizedBy (as_list kind capacity) (order is_push_or_pop es) es) (sym is_seen.is)
      (subst (λ n. IsLinearizedBy (as_list kind n) (order is_push_or_pop trace_now.events) trace_now.events) run_now.sized
      (list_by_acts kind (subst (λ P. IsKeptBy P trace_now) (promised_by kind trace_now run_now.of_kind) kept)))

  -- what a pass has seen of a queue is linearizable as a list of this kind and capacity
  pub linearizable : (kind : QueueKind) (capacity : ℕ) (v : View T) → IsSeen kind capacity v.seen → IsLinearizable (as_list kind capacity) v.seen
  linearizable kind capacity v is_seen = let ordered = by_acts kind capacity v.seen is_seen in ordered.by

  -- one function orders the calls of each history of a queue
  pub strong : (kind : QueueKind) (capacity : ℕ) → AreStronglyLinearizable (IsSeen kind capacity) (as_list kind capacity)
  strong kind capacity = strongly (IsSeen kind capacity) (as_list kind capacity) (by_acts kind capacity)

  -- In the machine of a history each call keeps to its guarantee.
  guaranteed : (kind : QueueKind) (capacity : ℕ) (v : View T) → (h : IsHistory code (machine_kind kind) capacity v.seen) → KeepsGuarantees h.trace
  guaranteed kind capacity v h =
      (let run_now = h.run in let run_here = queue_run code capacity kind h.trace run_now in keeps_guarantees h.trace
      (kept_on kind h.trace run_now.of_kind run_here.reached.coded run_here.reached.admitted run_here.fresh))

  -- In the machine of what a pass has seen each call keeps to its guarantee.
  pub guarantees : (kind : QueueKind) (capacity : ℕ) (v : View T) → (h : IsSeen kind capacity v.seen) → KeepsGuarantees h.trace
  guarantees queues.IndexQueue capacity v h = guaranteed queues.IndexQueue capacity v h
  guarantees queues.Overflow capacity v h = guaranteed queues.Overflow capacity v h
  guarantees queues.Queue capacity v h = guaranteed queues.Queue capacity v h

  -- What a pass has seen of a bounded queue is sound.
  pub sound : (kind : QueueKind) (capacity : ℕ) (v : View T) → IsBounded kind → IsSeen kind capacity v.seen → IsSound capacity v.seen
  sound queues.IndexQueue capacity v bounded is_seen = sound_history code of_indices capacity v.seen is_seen
  sound queues.Overflow capacity v bounded seen = absurd bounded
  sound queues.Queue capacity v bounded is_seen = sound_history code of_values capacity v.seen is_seen

  -- The value that was taken out at a position is the one that was published there.
  pub agree : (kind : QueueKind) (capacity p q i : ℕ) (x y : Item T) (v : View T) → IsSeen kind capacity v.seen
      → IsPublished p i x v.seen → IsTaken q i y v.seen → x ≡ y
  agree kind capacity p q i x y v is_seen is_published taken =
      values_agree p q i x y v.seen
      (listed_always code capacity v.seen kind is_seen v.seen [] (sym (append-nil v.seen))).book is_published taken

  -- a history of an overflowing queue says of itself what is promised of each
  pub over_sound : (capacity : ℕ) (v : View T) → IsSeen queues.Overflow capacity v.seen → IsOverSound capacity v.seen
  over_sound capacity v is_seen =
      record {
        book = λ part rest is. (over_listed code capacity v.seen is_seen part rest is).book;
        few = λ part rest is. (over_listed code capacity v.seen is_seen part rest is).few;
        oldest = λ before after p x is. over_lists_kept code capacity v.seen is_seen before after (HandedOut p x) is;
        answers = answers_right code queues.Overflow capacity v.seen is_seen;
        lengths = tells_lengths code queues.Overflow capacity v.seen is_seen;
        roles = grants code queues.Overflow capacity v.seen is_seen;
        holders = history_by_over_holders code capacity v.seen is_seen;
      }

-- ---- by what the guard had seen

module _ {T : Type 0} (old new : View T) where
  -- A push that published its item did so at the position behind all that was published before.
  pub published_next : (item : Item T) → HasPublished item old new → (p : ℕ) × IsPublished p (length (published old.seen)) item new.seen
  published_next item has_published = grind (arith, length, published_at)

  -- A pop that took its item out did so at the position behind all that was taken out before.
  pub taken_next : (item : Item T) → HasTakenOut item old new → (p : ℕ) × IsTaken p (length (handed_out old.seen)) item new.seen
  taken_next item taken_out = grind (arith, length, taken_at)

  -- A pop that found nothing had seen no published position that was not taken.
  pub none_later_than : WasEmpty old new → (q j : ℕ) (y : Item T) → IsPublished q j y old.seen → j < length (handed_out old.seen)
  none_later_than was_empty q j y is_published = subst (λ n. j < n) (ap length was_empty.next) (none_later old new was_empty q j y is_published)

  -- A push that found a full queue had seen no taken position that left it room.
  pub full_above : (capacity : ℕ) (item : Item T) → IsSound capacity new.seen → WasFull capacity item old new
      → (q j : ℕ) (y : Item T) → IsTaken q j y old.seen → j + capacity < length (published old.seen)
  full_above capacity item all was_full q j y taken =
      subst (λ n. j + capacity < n) (ap length was_full.next) (full_below old new capacity item was_full all q j y taken)

  -- an item that was taken out as the oldest was taken from a position that is no lower than the
  -- number of those that were seen to be taken
  pub taken_first : (item : Item T) → HasTakenFirst item old new → (p i : ℕ) × IsTaken p i item new.seen × (length (handed_out old.seen) ≤ i)
  taken_first item has_taken_first = (
    has_taken_first.by,
    length (handed_out has_taken_first.before),
    record { before = has_taken_first.before; after = has_taken_first.after; is = has_taken_first.is; rank = refl },
    hits_grow hands_out old.seen has_taken_first.before has_taken_first.since,
  )

  -- where a pop found nothing, each position that was seen to be published lies below the number
  -- of values that were taken out in the end
  pub none_waited : FoundNone old new → (q j : ℕ) (y : Item T) → IsPublished q j y old.seen → (i : ℕ) × (j < i) × (i ≤ length (handed_out new.seen))
  none_waited h q j y is_published = (
    length (handed_out h.before),
    found_later old new h q j y is_published,
    hits_grow hands_out h.before new.seen (record { rest = Acted h.by (Queues Pop) PoppedNone ∷ h.after; is = h.is }),
  )
