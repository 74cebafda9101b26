-- How `next_sent` finds the first index from a given one on whose place is `Sent`.
use Rattle.std.proofs.Common.{◌≡◌, ◌∙◌, ℕ, suc, ◌+◌, ◌-◌, ◌<◌, ap, arith}
use Rattle.std.specs.Prelude.{true, false, Some, List, if◌then◌else◌}
use Rattle.steps.specs.declared.loan.places.Place.{Place}
use Rattle.steps.specs.Loan.Places.{is_sent, place_at, sent_within, next_sent}

-- the search from an index on is the test of this index and, where it is not sent, the
-- search from the next one on
one_left : (places : List Place) (slots index : ℕ) → index < slots
    → next_sent places slots index
    ≡ (if is_sent (place_at places index)
    then Some index
    else next_sent places slots (index + 1))
one_left places slots index low =
    let left : slots - index ≡ suc (slots - (index + 1)) = omega (arith, low) in
    ap (sent_within places index) left

-- where this index is sent, it is the one that is found
pub found_here : (places : List Place) (slots index : ℕ) → index < slots
    → is_sent (place_at places index) ≡ true → next_sent places slots index ≡ Some index
found_here places slots index low sent =
    one_left places slots index low
    ∙ ap (λ b. if b then Some index else next_sent places slots (index + 1)) sent

-- where this index is not sent, the search goes on with the next one
pub goes_further : (places : List Place) (slots index : ℕ) → index < slots
    → is_sent (place_at places index) ≡ false
    → next_sent places slots index ≡ next_sent places slots (index + 1)
goes_further places slots index low kept =
    one_left places slots index low
    ∙ ap (λ b. if b then Some index else next_sent places slots (index + 1)) kept
