-- The laws of positions: no position is published or taken twice, and what was published or taken at a
-- position stays published or taken there.
use Rattle.lock_free_queues.proofs.Names.{◌≡◌, ℕ, zero, suc, ◌+◌, ◌<◌, Some, List, [], ◌∷◌, ◌++◌, length, drop}
use Rattle.lock_free_queues.proofs.Names.{slice_get, refl, sym, ap, ◌∙◌, append_assoc, false, arith, flat_map}
use Rattle.lock_free_queues.proofs.Names.{length-drop, flat_map-append, Event, Truth, Published, HandedOut, Acted}
use Rattle.lock_free_queues.proofs.Names.{Queues, Item, Coding, published, handed_out, waiting, publishes, hands_out}
use Rattle.lock_free_queues.proofs.Names.{View, IsBeginning, IsHistory, machine_kind, Ring, kind_of, always_listed}
use Rattle.std.proofs.lemmas.List.{length-append}
use Rattle.history.proofs.Ranks.{same_place, rank_low, hits_grow}
use Rattle.lock_free_queues.proofs.Queues.Facts.{answers_right, tells_lengths, grants, by_holder}
use Rattle.lock_free_queues.specs.Queues.Positions.{IsPublished, IsTaken, IsSound}
use Rattle.lock_free_queues.specs.Queues.Contracts.{push_of, HasPublished, HasTakenOut, WasEmpty, FoundNone, WasFull}

-- The element right behind a first list stands at the length of that list.
get_here : {A : Type 0} (xs ys : List A) (x : A) → slice_get (xs ++ x ∷ ys) (length xs) ≡ Some x
get_here [] ys x = refl
get_here (z ∷ xs) ys x = get_here xs ys x

-- An element of the first of two lists stands at the same place in both together.
pub get_left : {A : Type 0} (xs ys : List A) (i : ℕ) (x : A) → slice_get xs i ≡ Some x → slice_get (xs ++ ys) i ≡ Some x
get_left [] ys i x e = absurd (cc)
get_left (z ∷ xs) ys zero x e = e
get_left (z ∷ xs) ys (suc i) x e = get_left xs ys i x e

-- what an event tells stands at the event's rank
at_rank : {T A : Type 0} (hit : Event T → List A) (before after : List (Event T)) (e : Event T) (x : A) → hit e ≡ x ∷ []
    → slice_get (flat_map hit (before ++ e ∷ after)) (length (flat_map hit before)) ≡ Some x
at_rank hit before after e x = grind (arith, length, flat_map-append, get_here)

-- q is a party, j a position, y an item
module _ {T : Type 0} (events : List (Event T)) (q j : ℕ) (y : Item T) where
  -- each position is below their number
  pub published_low : IsPublished q j y events → j < length (published events)
  published_low is_published =
      omega (arith, rank_low publishes events is_published.before is_published.after (Published q y) y refl is_published.is, is_published.rank)

  -- A position that was taken lies below the number of items taken out.
  pub taken_low : IsTaken q j y events → j < length (handed_out events)
  taken_low taken = omega (arith, rank_low hands_out events taken.before taken.after (HandedOut q y) y refl taken.is, taken.rank)

-- p and q are parties, i is a position, x and y are items
module _ {T : Type 0} (p q i : ℕ) (x y : Item T) (events : List (Event T)) where
  -- one party at most published at a position, and one item
  pub published_once : IsPublished p i x events → IsPublished q i y events → (p ≡ q) × (x ≡ y)
  published_once first_published second_published =
      let same : ◌≡◌ {A = Event T} (Published p x) (Published q y) =
      same_place publishes first_published.before second_published.before first_published.after
      second_published.after (Published p x) (Published q y) x y refl refl
      (sym first_published.is ∙ second_published.is) (sym first_published.rank ∙ second_published.rank) in
      (let l : p ≡ q = cc in l, let r : x ≡ y = cc in r)

  -- one party at most took from a position, and one item
  pub taken_once : IsTaken p i x events → IsTaken q i y events → (p ≡ q) × (x ≡ y)
  taken_once first_taken second_taken =
      let same : ◌≡◌ {A = Event T} (HandedOut p x) (HandedOut q y) =
      same_place hands_out first_taken.before second_taken.before first_taken.after second_taken.after (HandedOut p x) (HandedOut q y) x y refl refl
      (sym first_taken.is ∙ second_taken.is) (sym first_taken.rank ∙ second_taken.rank) in
      (let l : p ≡ q = cc in l, let r : x ≡ y = cc in r)

  -- If what was taken out is a beginning of what was published, the value taken from a position is the
  -- value published there.
  pub values_agree : published events ≡ handed_out events ++ waiting events → IsPublished p i x events → IsTaken q i y events → x ≡ y
  values_agree book is_published taken =
      let one : slice_get (published events) i ≡ Some x =
      ap (λ es. slice_get (published es) i) is_published.is
      ∙ (ap (slice_get (published (is_published.before ++ Published p x ∷ is_published.after))) is_published.rank
      ∙ at_rank publishes is_published.before is_published.after (Published p x) x refl) in
      let two : slice_get (handed_out events) i ≡ Some y =
      ap (λ es. slice_get (handed_out es) i) taken.is
      ∙ (ap (slice_get (handed_out (taken.before ++ HandedOut q y ∷ taken.after))) taken.rank
      ∙ at_rank hands_out taken.before taken.after (HandedOut q y) y refl) in
      let both : Some x ≡ Some y = sym one ∙ (ap (λ xs. slice_get xs i) book ∙ get_left (handed_out events) (waiting events) i y two) in
      cc

  -- what stands in a beginning stands in the whole
  pub still_published : (more : List (Event T)) → IsBeginning events more → IsPublished p i x events → IsPublished p i x more
  still_published more beginning is_published = grind (arith, append_assoc)

  -- What was taken at a position stays taken there.
  pub still_taken : (more : List (Event T)) → IsBeginning events more → IsTaken p i x events → IsTaken p i x more
  still_taken more beginning taken = grind (arith, append_assoc)

-- a history of a bounded queue says of itself what is promised of each
pub sound_history : {T : Type 0} (code : Coding T) (r : Ring) (capacity : ℕ) (events : List (Event T))
    → IsHistory code (machine_kind (kind_of r)) capacity events → IsSound capacity events
sound_history code r capacity events history =
    record {
      book = λ part rest is. (always_listed capacity code r events history part rest is).book;
      few = λ part rest is. (always_listed capacity code r events history part rest is).few;
      answers = answers_right code (kind_of r) capacity events history;
      lengths = tells_lengths code (kind_of r) capacity events history;
      roles = grants code (kind_of r) capacity events history;
      holders = by_holder code r capacity events history;
    }

-- ---- what the calls say of positions

module _ {T : Type 0} (old new : View T) where
  -- a push publishes at the position after those that were published before it, and a pop takes alike
  pub published_at : (item : Item T) → (h : HasPublished item old new) → IsPublished h.by (length (published h.before)) item new.seen
  published_at item h = record { before = h.before; after = h.after; is = h.is; rank = refl }

  -- A pop that took its item out did so at the position behind all that was taken out before its act.
  pub taken_at : (item : Item T) → (h : HasTakenOut item old new) → IsTaken h.by (length (handed_out h.before)) item new.seen
  taken_at item h = record { before = h.before; after = h.after; is = h.is; rank = refl }

  -- where a pop found nothing, each position that was known to be published had been taken
  pub found_later : (h : FoundNone old new) (q j : ℕ) (y : Item T) → IsPublished q j y old.seen → j < length (handed_out h.before)
  found_later h q j y is_published =
      let low = rank_low publishes old.seen is_published.before is_published.after (Published q y) y refl is_published.is in
      let none : length (drop (length (handed_out h.before)) (published h.before)) ≡ 0 = ap length h.empty in
      omega (arith, hits_grow publishes old.seen h.before h.since, is_published.rank, length-drop (length (handed_out h.before)) (published h.before))

  -- If a pop found nothing, each position that had been seen published lies below the
  -- number of items taken out.
  pub none_later : (h : WasEmpty old new) (q j : ℕ) (y : Item T) → IsPublished q j y old.seen → j < length (handed_out h.before)
  none_later h q j y is_published =
      found_later (record { by = h.by; before = h.before; after = h.after; is = h.is; since = h.since; empty = h.empty }) q j y is_published

  -- where a push found the queue full, each position that was known to be taken lies more than the capacity below
  pub full_below : (capacity : ℕ) (item : Item T) → (h : WasFull capacity item old new) → IsSound capacity new.seen
      → (q j : ℕ) (y : Item T) → IsTaken q j y old.seen → j + capacity < length (published h.before)
  full_below capacity item h sound q j y taken =
      let low = rank_low hands_out old.seen taken.before taken.after (HandedOut q y) y refl taken.is in
      let full : length (waiting h.before) ≡ capacity = h.full in
      omega (
        arith,
        hits_grow hands_out old.seen h.before h.since,
        taken.rank,
        ap length (sound.book h.before (Acted h.by (Queues (push_of item)) (Truth false) ∷ h.after) h.is),
        length-append (handed_out h.before) (waiting h.before),
      )
