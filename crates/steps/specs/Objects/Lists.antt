-- The lists that queues are.
use Rattle.std.specs.Prelude.{ℕ, ◌+◌, ◌-◌, ◌^◌, ◌==◌, ◌&&◌, Bool, not, Option, Some, None, List, [], ◌∷◌, ◌++◌, length}
use Rattle.std.specs.Prelude.{drop, min, nat_lt, slice_get, if◌then◌else◌}

-- A list of at most `capacity` values. Each value has a position, one more than the value before it; no value
-- has the greatest number of 64 bits as its position.
pub record Bounded (V : Type 0) : Type 0 where
  pub capacity : ℕ
  -- the position of the oldest value, or of the next one where there is none
  pub first : ℕ
  pub values : List V

module _ {V : Type 0} where
  -- an empty list whose next item has this position
  abbrev pub opened_at : (capacity position : ℕ) → Bounded V
  opened_at capacity position =
      record { capacity = capacity; first = position; values = [] }

  -- whether there is a position for a further value
  abbrev pub has_position : Bounded V → Bool
  has_position q = not (q.first + length q.values == 2 ^ 64 - 1)

  -- the front, where there is one
  abbrev pub front : Bounded V → Option V
  front q = slice_get q.values 0

  -- the list without its front, which moves its first position on
  abbrev pub popped : Bounded V → Bounded V
  popped q =
      record q { first = q.first + min 1 (length q.values); values = drop 1 q.values }

  -- ---- the bounded list

  -- the value stands behind all others, where there is room
  abbrev pub appended : ℕ → List V → V → List V
  appended capacity values value =
      if nat_lt (length values) capacity then values ++ value ∷ [] else values

  -- whether a push takes its value
  abbrev pub takes_more : Bounded V → Bool
  takes_more q = nat_lt (length q.values) q.capacity && has_position q

  -- the list with the value behind, where there is room and a position left
  abbrev pub pushed : Bounded V → V → Bounded V
  pushed q value =
      if has_position q then record q { values = appended q.capacity q.values value } else q

  -- ---- the overflowing list

  -- the front leaves where the list is too long
  abbrev pub cut : ℕ → List V → List V
  cut capacity values = if nat_lt capacity (length values) then drop 1 values else values

  -- the front that leaves where the list is too long, which a push answers
  abbrev pub cut_off : ℕ → List V → Option V
  cut_off capacity values =
      if nat_lt capacity (length values) then slice_get values 0 else None

  -- whether a push takes its value in: at capacity 0 it never does
  abbrev pub takes_in : Bounded V → Bool
  takes_in q = nat_lt 0 q.capacity && has_position q

  -- what a push hands back: the front where it has to go, its own value where that does not go in
  abbrev pub handed_back : Bounded V → V → Option V
  handed_back q value =
      if takes_in q then cut_off q.capacity (q.values ++ value ∷ []) else Some value

  -- The list once a value is pushed: it is added behind, and the oldest one is dropped where there would be more than
  -- the capacity; nothing is added at capacity 0 or without a position left.
  abbrev pub pushed_over : Bounded V → V → Bounded V
  pushed_over q value =
      if takes_in q
      then record q {
        first = q.first + (length q.values + 1 - q.capacity);
        values = cut q.capacity (q.values ++ value ∷ []);
      }
      else q
