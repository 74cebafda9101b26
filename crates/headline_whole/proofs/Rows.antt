-- Each row of what the main theorem says of whole runs refuses something, or says what it is to say.
use Rattle.std.proofs.Common.{◌≡◌, ℕ, true, false, List, [], ◌∷◌, refl, ap}
use Rattle.steps.specs.Objects.Places.{Places}
use Rattle.model.specs.declared.event.Answer.{Answer}
use Rattle.model.specs.declared.event.Answer.TheVariants.{Truth, Number, PoppedIndex, PoppedNone, Loaded, Index}
use Rattle.model.specs.declared.event.Event.{Event}
use Rattle.model.specs.declared.event.Event.TheVariants.{Begun, Finished}
use Rattle.model.specs.declared.event.Start.{Start}
use Rattle.model.specs.declared.event.Start.TheVariants.{Queues, Atomic, Bits, Indices}
use Rattle.model.specs.declared.families.atomic.AtomicStart.TheVariants as values
use Rattle.model.specs.declared.families.bits.BitsStart.TheVariants as bits
use Rattle.model.specs.declared.families.indices.IndexStart.TheVariants.{Acquire}
use Rattle.model.specs.declared.families.queues.QueueStart.TheVariants.{Pop}
use Rattle.model.specs.declared.turn.Kind.{Kind}
use Rattle.model.specs.declared.turn.Kind.TheVariants as kinds
use Rattle.model.specs.Coding.{one_word}
use Rattle.model.specs.Turns.{IsReached}
use Rattle.model.specs.World.{Trace, opened, flight_in}
use Rattle.headline_whole.specs.Dialogues.{RepliesAs, calls_of, stands_after}
use Rattle.headline_whole.specs.Kinds.{AnswersWhole}
use Rattle.headline_whole.specs.Objects.{whole_owners, whole_map}
use Rattle.headline_whole.specs.States.{HoldsPlaces, ShowsViews, is_look, kept_view}

module _ {A : Type 0} where
  -- lists that begin otherwise are not one list
  apart : (xs ys xs' ys' : List A) (x y : A) → xs ≡ x ∷ xs' → ys ≡ y ∷ ys' → (x ≡ y → ⊥) → xs ≡ ys → ⊥
  apart xs ys xs' ys' x y xs_is ys_is other same = let one : x ≡ y = cc in other one

-- a machine of capacity 1 as it opens, with these events
abbrev made : Kind → List (Event ℕ) → Trace ℕ
made kind events = record (opened one_word kind 1 1 2) { events = events }

-- a call of party 0 that ends with this answer
abbrev call : Start ℕ → Answer ℕ → List (Event ℕ) → List (Event ℕ)
call start answer more = Begun 0 start ∷ Finished 0 start answer ∷ more

-- ---- answers that no object gives

queue_refuses : (r : IsReached _) → AnswersWhole kinds.IndexQueue (made kinds.IndexQueue (call (Queues Pop) (PoppedIndex 7) [])) r → ⊥
queue_refuses r h = apart _ _ [] [] PoppedNone (PoppedIndex 7) refl refl (λ e. cc) h

overflow_refuses : (r : IsReached _) → AnswersWhole kinds.Overflow (made kinds.Overflow (call (Queues Pop) (PoppedIndex 7) [])) r → ⊥
overflow_refuses r h = apart _ _ [] [] PoppedNone (PoppedIndex 7) refl refl (λ e. cc) h

values_refuse : (r : IsReached _) → AnswersWhole kinds.Queue (made kinds.Queue (call (Queues Pop) (PoppedIndex 7) [])) r → ⊥
values_refuse r h = apart _ _ [] [] PoppedNone (PoppedIndex 7) refl refl (λ e. cc) h

value_refuses : (r : IsReached _) → AnswersWhole kinds.Atomic (made kinds.Atomic (call (Atomic values.Load) (Loaded 7) [])) r → ⊥
value_refuses r h = apart _ _ [] [] (Loaded 0) (Loaded 7) refl refl (λ e. cc) h

-- a bit is set that is set
bits_refuse : (r : IsReached _) → AnswersWhole kinds.Bits (made kinds.Bits (call (Bits (bits.IsSet 0)) (Truth true) [])) r → ⊥
bits_refuse r h = apart _ _ [] [] (Truth false) (Truth true) refl refl (λ e. cc) h

counts_refuse : (r : IsReached _) → AnswersWhole kinds.Counts (made kinds.Counts (call (Bits (bits.Set 0)) (Number 5) [])) r → ⊥
counts_refuse r h = apart _ _ [] [] (Number 0) (Number 5) refl refl (λ e. cc) h

indices_refuse : (r : IsReached _) → AnswersWhole kinds.Indices (made kinds.Indices (call (Indices Acquire) (Index 5) [])) r → ⊥
indices_refuse r h = apart _ _ [] [] (Index 0) (Index 5) refl refl (λ e. cc) h

-- what it says of owners, whose calls are read off the turns
robust_says : (t : Trace ℕ) (r : IsReached t) → AnswersWhole kinds.Robust t r ≡ RepliesAs (whole_owners t.world.capacity) (calls_of t r)
robust_says t r = refl

container_says : (t : Trace ℕ) (r : IsReached t) → AnswersWhole kinds.Container t r ≡ RepliesAs (whole_map t.world.capacity) (calls_of t r)
container_says t r = refl

-- ---- words that do not hold the object, and views

-- a bit was set, and the words are those of the opening
flags_refuse : HoldsPlaces kinds.Bits (made kinds.Bits (call (Bits (bits.Set 0)) (Truth true) [])) → ⊥
flags_refuse h = apart _ _ [] [] false true refl refl (λ e. cc) (ap (λ (p : Places). p.flags) h)

numbers_refuse : HoldsPlaces kinds.Counts (made kinds.Counts (call (Bits (bits.Set 0)) (Number 0) [])) → ⊥
numbers_refuse h = apart _ _ [] [] 0 1 refl refl (λ e. cc) h

views_say : (t : Trace ℕ) (r : IsReached t)
    → ShowsViews t r
    ≡ ((p : ℕ) → is_look (flight_in t.world p) ≡ false → kept_view t.world.kept p ≡ (stands_after (whole_map t.world.capacity) (calls_of t r)).views p)
views_say t r = refl
