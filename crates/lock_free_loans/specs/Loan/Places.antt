-- The table that a sender keeps of its indices, and what it says of its pass.
use Rattle.std.specs.Prelude.{◌≡◌, ℕ, ◌+◌, Bool, true, false, List, length, sum_by, slice_index_or, slice_set, if◌then◌else◌}
use Rattle.history.specs.declared.view.View.{View}
use Rattle.history.specs.Held.{claims, frees}
use Rattle.lock_free_loans.specs.declared.spsc.loan.places.Place.{Place}
use Rattle.lock_free_loans.specs.declared.spsc.loan.places.Place.TheVariants.{Free, Loaned, Sent}

-- whether the index is loaned or sent
abbrev pub is_out : Place → Bool
is_out Free = false
is_out Loaned = true
is_out Sent = true

-- whether the sender has sent the index
abbrev pub is_sent : Place → Bool
is_sent Free = false
is_sent Loaned = false
is_sent Sent = true

-- the place of an index in the table; an index past the end of the table is free
abbrev pub place_at : List Place → ℕ → Place
place_at ps i = slice_index_or ps i Free

-- the table after the value `y` came back: if the index that it names was sent, it is free; any other
-- value changes nothing
abbrev pub returned : ℕ → List Place → List Place
returned y ps = if is_sent (place_at ps y) then slice_set ps y Free else ps

-- the place of an index after a reclaim: one that was sent is free
abbrev pub reclaimed : Place → Place
reclaimed Free = Free
reclaimed Loaned = Loaned
reclaimed Sent = Free

-- The table agrees with the pass that has this view: it has a place for each index below the capacity, and
-- the pass holds exactly the indices that are loaned or sent, each once.
pub record IsBookOf (v : View ℕ) (ps : List Place) : Type 0 where
  pub long : length ps ≡ v.capacity
  pub held : (i : ℕ) → sum_by (claims i) v.made
      ≡ sum_by (frees i) v.made + (if is_out (place_at ps i) then 1 else 0)
