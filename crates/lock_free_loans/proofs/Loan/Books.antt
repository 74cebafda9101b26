-- A sender's book stays right.
use Rattle.lock_free_sets.proofs.Names.{◌≡◌, ℕ, zero, suc, ◌+◌, ◌<◌, Bool, true, false, true≢false}
use Rattle.lock_free_sets.proofs.Names.{List, [], ◌∷◌, ◌++◌, length, map, take, subst, sym, refl, ap, ◌∙◌, arith}
use Rattle.lock_free_sets.proofs.Names.{ReleaseState, UniqueIndexSetAcquireFailure, View, frees, Holds}
use Rattle.std.proofs.Common.{set, drop, replicate, count_by, sum_by, add-one}
use Rattle.std.proofs.Common.{length-set}
use Rattle.std.proofs.lemmas.List.{length-replicate}
use Rattle.std.proofs.lemmas.List.Sums.{count_by_more_yes, count_by_more_no}
use Rattle.lock_free_sets.specs.Unique.Held.{HoldsNothing}
use Rattle.lock_free_sets.specs.Unique.Contracts.{HasAcquired, WasRefused, HasGiven}
use Rattle.lock_free_sets.proofs.Unique.Tables as tables
use Rattle.lock_free_sets.proofs.Unique.Tables.{as_number}
use Rattle.lock_free_loans.specs.declared.spsc.loan.places.Place.{Place}
use Rattle.lock_free_loans.specs.declared.spsc.loan.places.Place.TheVariants.{Free, Loaned, Sent}
use Rattle.lock_free_loans.specs.Loan.Places.{IsBookOf, is_out, is_sent, place_at, reclaimed}

-- ---- places

-- An index that is out stands below the length of the table.
within : (ps : List Place) (i : ℕ) → is_out (place_at ps i) ≡ true → i < length ps
within [] i out = absurd (true≢false (sym out))
within (p ∷ ps) zero out = omega arith
within (p ∷ ps) (suc i) out = omega (arith, within ps i out)

-- A place that is not out is free.
pub is_free : (p : Place) → is_out p ≡ false → p ≡ Free
is_free p not_out = grind arith

-- A place that is sent is out.
pub sent_out : (p : Place) → is_sent p ≡ true → is_out p ≡ true
sent_out Free sent = sent
sent_out Loaned sent = refl
sent_out Sent sent = refl

-- ---- the book

module _ {v : View ℕ} {ps : List Place} (book : IsBookOf v ps) where
  -- An index that is out in the table stands within it.
  pub out_within : (i : ℕ) → is_out (place_at ps i) ≡ true → i < length ps
  out_within i out = within ps i out

  -- The sender holds each index that its table has as out, so it can give that index back.
  pub out_held : (i : ℕ) → is_out (place_at ps i) ≡ true → Holds i v.made
  out_held i out = book.held i ∙ ap (λ b. sum_by (frees i) v.made + as_number b) out

  -- The table is right after an index that was out is given back and its place becomes free.
  pub is_freed : (i : ℕ) (state : ReleaseState) (w : View ℕ) → is_out (place_at ps i) ≡ true
      → w.capacity ≡ v.capacity → HasGiven i state v w → IsBookOf w (set ps i Free)
  is_freed i state w out same given =
      record {
        long = length-set ps i Free ∙ (book.long ∙ sym same);
        held = tables.is_freed Free is_out v ps book.held i Free (within ps i out) w state out refl given;
      }

  -- An index that the sender acquires was not out in its table.
  pub was_free : (i : ℕ) (w : View ℕ) → HasAcquired i v w → is_out (place_at ps i) ≡ false
  was_free i w taken = tables.was_free Free is_out v ps book.held i w taken

  -- A loan that was refused leaves the table right as it is.
  pub is_refused : (e : UniqueIndexSetAcquireFailure) (w : View ℕ) → w.capacity ≡ v.capacity → WasRefused e v w → IsBookOf w ps
  is_refused e w same refused =
      record { long = book.long ∙ sym same; held = tables.is_refused Free is_out v ps book.held e w refused }

  -- the book has an index that is acquired as loaned
  pub is_loaned : (i : ℕ) (w : View ℕ) → w.capacity ≡ v.capacity → i < v.capacity → HasAcquired i v w → IsBookOf w (set ps i Loaned)
  is_loaned i w same below taken =
      record {
        long = length-set ps i Loaned ∙ (book.long ∙ sym same);
        held = tables.is_taken Free is_out v ps book.held i Loaned (omega (arith, book.long)) w refl taken;
      }

-- A table with all places free is right for a sender that holds no index.
pub book_opens : (v : View ℕ) (n : ℕ) → n ≡ v.capacity → HoldsNothing v.made → IsBookOf v (replicate n Free)
book_opens v n same none =
    record {
      long = length-replicate n Free ∙ same;
      held =
          λ i. (let out : is_out (place_at (replicate n Free) i) ≡ false = ap is_out (get_or-replicate_all n i) in
          omega (arith, none i, ap as_number out));
    }
  where
    get_or-replicate_all : (n i : ℕ) → place_at (replicate n Free) i ≡ Free
    get_or-replicate_all zero i = refl
    get_or-replicate_all (suc n) zero = refl
    get_or-replicate_all (suc n) (suc i) = get_or-replicate_all n i

-- ---- reclaiming

-- The table once all places below i that were sent are freed.
abbrev pub so_far : ℕ → List Place → List Place
so_far i ps = map reclaimed (take i ps) ++ drop i ps

-- A place that the loop has not reached is as it was at the beginning.
at_so_far : (ps : List Place) (i : ℕ) → place_at (so_far i ps) i ≡ place_at ps i
at_so_far [] zero = refl
at_so_far [] (suc i) = refl
at_so_far (p ∷ ps) zero = refl
at_so_far (p ∷ ps) (suc i) = at_so_far ps i

-- Where the place i was sent, freeing it leads from the table for i to the table for i + 1.
freed_one : (ps : List Place) (i : ℕ) → is_sent (place_at ps i) ≡ true → set (so_far i ps) i Free ≡ so_far (suc i) ps
freed_one [] zero sent = absurd (true≢false (sym sent))
freed_one [] (suc i) sent = absurd (true≢false (sym sent))
freed_one (Free ∷ ps) zero sent = refl
freed_one (Loaned ∷ ps) zero sent = absurd (true≢false (sym sent))
freed_one (Sent ∷ ps) zero sent = refl
freed_one (p ∷ ps) (suc i) sent = ap (λ z. reclaimed p ∷ z) (freed_one ps i sent)

-- Where the place i was not sent, the table for i is the table for i + 1.
kept_one : (ps : List Place) (i : ℕ) → is_sent (place_at ps i) ≡ false → so_far i ps ≡ so_far (suc i) ps
kept_one [] zero not_sent = refl
kept_one [] (suc i) not_sent = refl
kept_one (Free ∷ ps) zero not_sent = refl
kept_one (Loaned ∷ ps) zero not_sent = refl
kept_one (Sent ∷ ps) zero not_sent = absurd (true≢false not_sent)
kept_one (p ∷ ps) (suc i) not_sent = ap (λ z. reclaimed p ∷ z) (kept_one ps i not_sent)

-- what the table says of an index that the loop has not reached is what it said at the beginning
pub not_reached : (ps ys : List Place) (i : ℕ) (sent : Bool) → ys ≡ so_far i ps → is_sent (place_at ys i) ≡ sent → is_sent (place_at ps i) ≡ sent
not_reached ps ys i sent e h = ap is_sent (sym (at_so_far ps i) ∙ ap (λ z. place_at z i) (sym e)) ∙ h

-- The loop that frees the sent places of the book has come to place `i`: `ys` is the book so far, `ps` the one from which it began.
module _ (ps ys : List Place) (i : ℕ) (e : ys ≡ so_far i ps) (lt : i < length ps) where
  -- At a place that was sent the loop frees it, and counts it.
  pub sent_step : is_sent (place_at ys i) ≡ true → (set ys i Free ≡ so_far (i + 1) ps) × (count_by is_sent (take (i + 1) ps) ≡ count_by is_sent (take i ps) + 1)
  sent_step sent = grind (arith, is_sent, place_at, at_so_far, set, add-one, freed_one, count_by_more_yes)

  -- At a place that was not sent the loop changes nothing.
  pub other_step : is_sent (place_at ys i) ≡ false → (ys ≡ so_far (i + 1) ps) × (count_by is_sent (take (i + 1) ps) ≡ count_by is_sent (take i ps))
  other_step not_sent =
      let there = not_reached ps ys i false e not_sent in
      (subst (λ n. ys ≡ so_far n ps) (sym (add-one i)) (e ∙ kept_one ps i there), count_by_more_no is_sent ps i Free lt there)

-- Behind the last place the table has all sent places freed.
pub so_far_all : (ps : List Place) → so_far (length ps) ps ≡ map reclaimed ps
so_far_all [] = refl
so_far_all (p ∷ ps) = ap (λ z. reclaimed p ∷ z) (so_far_all ps)
