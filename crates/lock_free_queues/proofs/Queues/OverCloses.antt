-- What the words that a `close` read of an overflowing queue say of the list that is made of them. The
-- list begins one number later where one more than the capacity waits.
use Rattle.lock_free_queues.proofs.Names.{◌≡◌, ℕ, ◌+◌, ◌-◌, ◌^◌, ◌<◌, ◌≤◌, max, List, length, set, slice_index, refl}
use Rattle.lock_free_queues.proofs.Names.{sym, ap, subst, ◌∙◌, length-set, get_or-set_same, get_or-set_other}
use Rattle.lock_free_queues.proofs.Names.{sum_by, arith, list_in, Producer, Event, Index, Overflow, one_word}
use Rattle.lock_free_queues.proofs.Names.{published, handed_out, waiting, IsAll, View, IsHistory, takes, gives, [], ◌++◌}
use Rattle.lock_free_queues.proofs.Names.{map, append-nil}
use Rattle.steps.specs.Objects.Lists.{Bounded}
use Rattle.plain_queues.specs.Overflowing.{Represents}
use Rattle.model.specs.declared.turn.Kind.TheVariants as kinds
use Rattle.lock_free_queues.specs.Queues.Closes.{Closes, IsNewestThatWaits}
use Rattle.lock_free_queues.specs.Queues.Reads.{LastWords}
use Rattle.lock_free_queues.specs.Queues.Roles.{LacksRole}
use Rattle.lock_free_queues.specs.Queues.Rings.{queue_of, view}
use Rattle.lock_free_queues.specs.declared.spsc.ring.rule.Kind as queues
use Rattle.lock_free_queues.specs.declared.spsc.ring.Pass.{Pass}
use Rattle.steps.specs.declared.words.Words.{Ghosts}
use Rattle.model.specs.declared.event.Item.{Item}
use Rattle.history.specs.History.{IsBeginning}
use Rattle.lock_free_queues.proofs.Queues.Closes as closing
use Rattle.lock_free_queues.proofs.Queues.Facts.{grants, listed_always}
use Rattle.lock_free_queues.proofs.Queues.Free.{is_free, few_when_free}
use Rattle.lock_free_queues.proofs.Queues.Indices.{is_coding}
use Rattle.lock_free_queues.proofs.Queues.Reads.{read_here}

-- v is what the pass knew before it read the words, l says how they were read; the pass does not
-- have the producer's role
module _ {capacity : ℕ} {v : View ℕ} {words : List ℕ}
    (l : LastWords one_word kinds.Overflow (capacity + 1) capacity v words) (lacks : LacksRole Producer v.made) where
  -- the read position that leaves at most the capacity
  abbrev first : ℕ
  first = max (slice_index words 1) (slice_index words 0 - capacity)

  -- The words with the read position moved on so far that at most the capacity waits.
  abbrev pub later : List ℕ
  later = set words 1 first

  -- The words are the head of four, and capacity + 1 cells.
  long : length words ≡ 5 + capacity
  long = omega (arith, l.long)

  -- Their read position is the moved one.
  first_is : slice_index later 1 ≡ first
  first_is = get_or-set_same words 1 first 0 (omega (arith, long))

  -- Their write position is as before.
  other : (word : ℕ) → word < 1 → slice_index later word ≡ slice_index words word
  other word low = get_or-set_other words 1 word first 0 (λ e. absurd (omega arith))

  -- Their cells are as before.
  above : (word : ℕ) → 4 ≤ word → slice_index later word ≡ slice_index words word
  above word high = get_or-set_other words 1 word first 0 (λ e. absurd (omega arith))

  -- The read position moves up only.
  from : slice_index words 1 ≤ slice_index later 1
  from = omega (arith, first_is)

  -- The moved read position is at most the write position.
  to : slice_index later 1 ≤ slice_index words 0
  to = omega (arith, first_is, closing.number is_coding Overflow l)

  -- The write position stays.
  end : slice_index later 0 ≡ slice_index words 0
  end = other 0 (omega arith)

  -- the words with this read position are those of a queue of one caller with this capacity
  pub over_fits : Represents capacity later
  over_fits =
      record {
        long = length-set words 1 first ∙ long;
        small = l.small;
        behind = omega (arith, to, end);
        near = omega (arith, first_is, end);
        fits = subst (λ n. n < 2 ^ 64) (sym end) l.fits;
      }

  -- The events at the moment when the read position was read.
  abbrev moment : List (Event ℕ)
  moment = closing.moment is_coding Overflow l

  -- who has the whole share, and not the producer's role, knows that no push is under way
  exact : IsAll v.share → slice_index later 1 ≡ slice_index words 1
  exact all =
      let t = l.taken_read.trace in
      let same : t.events ≡ v.seen =
      read_here one_word Overflow capacity l.new 1 (slice_index words 1) l.taken_read
      ∙ closing.whole_seen is_coding Overflow l all in
      let made : (f : Event ℕ → ℕ) → sum_by f t.events ≡ sum_by f v.made = λ f. ap (sum_by f) same ∙ seen_made all f in
      let history_now : IsHistory one_word kinds.Overflow capacity t.events = record { trace = t; run = l.taken_read.run; is = refl } in
      let few : length (waiting t.events) ≤ capacity =
      few_when_free one_word capacity t l.taken_read.run
      (is_free Producer t.events (grants one_word Overflow capacity t.events history_now) (made (takes Producer) ∙ (lacks ∙ sym (made (gives Producer))))) in
      let here : length (waiting t.events) ≡ length (waiting moment) =
      ap (λ es. length (waiting es)) (read_here one_word Overflow capacity l.new 1 (slice_index words 1) l.taken_read) in
      omega (arith, closing.number is_coding Overflow l, first_is)
    where
      -- A pass with the whole share made all that it has seen, so sums over both are equal.
      seen_made : IsAll v.share → (f : Event ℕ → ℕ) → sum_by f v.seen ≡ sum_by f v.made
      seen_made all f =
          let here : l.new.seen ≡ v.seen = closing.whole_seen is_coding Overflow l all in
          let share : IsAll l.new.share = subst IsAll (sym (l.reading.share ∙ l.opening.share)) all in
          ap (sum_by f) (sym here) ∙ (l.reading.all share f ∙ ap (sum_by f) (l.reading.made ∙ l.opening.made))

  -- The list from the moved read position on says what a close promises of it.
  pub over_closes : Closes Index capacity v (list_in capacity later)
  over_closes = closing.closes_later is_coding Overflow l later above end from to exact

  -- the list has the newest of what waited as the pass stood, at most the capacity of them
  pub newest : {E : Type 0} {k : queues.Ghosts E} {ws : Ghosts ℕ} (pass at : Pass E ℕ k ws) → view pass ≡ v → queue_of at ≡ queue_of pass
      → view at ≡ l.new → IsNewestThatWaits capacity pass (list_in capacity later)
  newest pass at is queue there =
      let are = closing.older_are is_coding Overflow l later above end from to in
      let out = closing.taken_is is_coding Overflow l in
      let number = closing.number is_coding Overflow l in
      let one = first_is in
      let low = from in
      let since = closing.since is_coding Overflow l in
      let taken_out : length (handed_out (view at).seen) ≡ length (handed_out moment) = ap (λ (x : View ℕ). length (handed_out x.seen)) there in
      let left : length (waiting (view at).seen) ≡ length (waiting moment) = ap (λ (x : View ℕ). length (waiting x.seen)) there in
      record {
        at = at;
        queue = queue;
        since = subst (λ (x : View ℕ). IsBeginning x.seen (view at).seen) (sym is) (subst (λ (x : View ℕ). IsBeginning v.seen x.seen) (sym there) since);
        older = closing.older is_coding Overflow l later above end from to;
        taken = omega arith;
        waits = ap (λ (x : View ℕ). waiting x.seen) there ∙ closing.waiting_is is_coding Overflow l later above end from to;
        few = omega arith;
      }

-- nothing is lost until then
pub over_closed_book : (capacity : ℕ) (at : List (Event ℕ)) (older : List (Item ℕ)) (q : Bounded ℕ) → IsHistory one_word kinds.Overflow capacity at
    → waiting at ≡ older ++ map Index q.values → published at ≡ handed_out at ++ (older ++ map Index q.values)
over_closed_book capacity at older q history waits =
    (listed_always one_word capacity at Overflow history at [] (sym (append-nil at))).book ∙ ap (λ xs. handed_out at ++ xs) waits
