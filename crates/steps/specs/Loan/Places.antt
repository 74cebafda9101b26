-- Where each index of a loan channel is, as its sender knows.
use Rattle.std.specs.Prelude.{ℕ, zero, suc, ◌+◌, ◌-◌, Bool, true, false, Option, Some, None, List, if◌then◌else◌, slice_index_or}
use Rattle.steps.specs.declared.loan.places.Place.{Place}
use Rattle.steps.specs.declared.loan.places.Place.TheVariants.{Free, Loaned, Sent}

-- whether the sender has sent the index
abbrev pub is_sent : Place → Bool
is_sent Free = false
is_sent Loaned = false
is_sent Sent = true

-- where the index is; an index past the slots counts as free
abbrev pub place_at : List Place → ℕ → Place
place_at places index = slice_index_or places index Free

-- the first index that is sent, among this many indices from the given one on
abbrev pub sent_within : List Place → ℕ → ℕ → Option ℕ
sent_within places from zero = None
sent_within places from (suc left) =
    if is_sent (place_at places from)
    then Some from
    else sent_within places (from + 1) left

-- the first index that is sent, from `from` on and below the number of slots
abbrev pub next_sent : List Place → (slots from : ℕ) → Option ℕ
next_sent places slots from = sent_within places from (slots - from)
