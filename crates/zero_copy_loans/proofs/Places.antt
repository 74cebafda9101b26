-- The table where a value that was to be sent comes back at once, and how large numbers get.
use Rattle.std.proofs.Common.{◌≡◌, ℕ, zero, suc, ◌%◌, ◌<◌, ◌≤◌, true, true≢false, if◌then◌else◌, List}
use Rattle.std.proofs.Common.{[], ◌∷◌, length, sym, ap, subst, ◌∙◌, arith}
use Rattle.std.proofs.Common.{get_or-set_same, set-set}
use Rattle.std.proofs.lemmas.Nat.{mod-mul-add}
use Rattle.zero_copy_loans.specs.Words.{word_of}
use Rattle.std.specs.Prelude.{slice_set}
use Rattle.lock_free_loans.specs.Loan.Places.{is_out, is_sent, place_at, returned}
use Rattle.lock_free_loans.specs.declared.spsc.loan.places.Place.{Place}
use Rattle.lock_free_loans.specs.declared.spsc.loan.places.Place.TheVariants.{Free, Loaned, Sent}

-- A place that is out is one of the table.
within : (ps : List Place) (i : ℕ) → is_out (place_at ps i) ≡ true → i < length ps
within [] i out = absurd (true≢false (sym out))
within (p ∷ ps) zero out = omega arith
within (p ∷ ps) (suc i) out = omega (arith, within ps i out)

-- to free a Loaned place changes the table as to send it and to take it back
pub unsent : (ps : List Place) (i : ℕ) → place_at ps i ≡ Loaned → slice_set ps i Free ≡ returned i (slice_set ps i Sent)
unsent ps i h =
    let lt = within ps i (ap is_out h) in
    let sent : place_at (slice_set ps i Sent) i ≡ Sent = get_or-set_same ps i Sent Free lt in
    subst (λ p. slice_set ps i Free ≡ (if is_sent p then slice_set (slice_set ps i Sent) i Free else slice_set ps i Sent)) (sym sent)
    (sym (set-set ps i Sent Free))

-- a word whose place is past the last one names a place past the last one
pub past : (room number place places slots word : ℕ) → word_of room number place ≡ word → place < room → places ≤ place → places ≡ slots
    → slots ≤ word % room
past room number place places slots word is within le sized =
    let here : word % room ≡ place = ap (λ w. w % room) (sym is) ∙ mod-mul-add number room place within in
    omega arith
