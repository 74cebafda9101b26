-- The flags of places in the words of a bit set: where they stand, and what a change of one
-- element does to them.
use Rattle.std.proofs.Common.{◌≡◌, ◌≢◌, ℕ, zero, suc, ◌+◌, ◌<◌, ◌≤◌, Bool, false, List, ◌∷◌, length}
use Rattle.std.proofs.Common.{refl, ap, ◌∙◌, arith, slice_index, slice_set, get_or-set_same, get_or-set_other}
use Rattle.std.specs.Prelude.{map, slice_index_or}
use Rattle.plain.proofs.Names.{range_with_len, eqb_tells, get_or_past}
use Rattle.std.proofs.lemmas.List.FromFn.{get_or-map-range_with_len, length-map-range_with_len}
use Rattle.steps.specs.Bits.Words.{element_of, bit_of, has_flag, stands}
use Rattle.plain.specs.Bits.{flags_in}

-- ---- lists of flags

-- two maps over a range are the same list where they agree at each number of it
pub map_same : {X : Type 0} (f g : ℕ → X) (n a : ℕ) → ((q : ℕ) → a ≤ q → q < a + n → g q ≡ f q)
    → map g (range_with_len a n) ≡ map f (range_with_len a n)
map_same f g zero a same = refl
map_same f g (suc n) a same =
    let head = same a (omega arith) (omega arith) in
    let tail = map_same f g n (a + 1) (λ q low high. same q (omega arith) (omega arith)) in
    λ i. head i ∷ tail i

-- where g agrees with f at each number of a range but p, and is b there, its list is that of
-- f with b at p's place
map_changed_within : {X : Type 0} (f g : ℕ → X) (b : X) (n a k p : ℕ) → k < n → a + k ≡ p → g p ≡ b
    → ((q : ℕ) → a ≤ q → q < a + n → q ≢ p → g q ≡ f q)
    → map g (range_with_len a n) ≡ slice_set (map f (range_with_len a n)) k b
map_changed_within f g b zero a k p low sum new same = absurd (omega arith)
map_changed_within f g b (suc n) a zero p low sum new same =
    let here : a ≡ p = omega arith in
    let head : g a ≡ b = ap g here ∙ new in
    let tail = map_same f g n (a + 1) (λ q from below. same q (omega arith) (omega arith) (λ e. absurd (omega arith))) in
    λ i. head i ∷ tail i
map_changed_within f g b (suc n) a (suc k) p low sum new same =
    let head : g a ≡ f a = same a (omega arith) (omega arith) (λ e. absurd (omega arith)) in
    let tail = map_changed_within f g b n (a + 1) k p (omega arith) (omega arith) new (λ q from below. same q (omega arith) (omega arith)) in
    λ i. head i ∷ tail i

-- where g agrees with f at each number below n but p, and is b there, its list of those numbers is that of f with b at p's place
pub map_changed : {X : Type 0} (f g : ℕ → X) (b : X) (n p : ℕ) → p < n → g p ≡ b → ((q : ℕ) → q < n → q ≢ p → g q ≡ f q)
    → map g (range_with_len 0 n) ≡ slice_set (map f (range_with_len 0 n)) p b
map_changed f g b n p low new same = map_changed_within f g b n 0 p p low (omega arith) new (λ q from below. same q (omega arith))

module _ (capacity : ℕ) (words : List ℕ) where
  -- the flag of a place below the capacity is whether it stands in the words
  pub flag_at : (p : ℕ) → p < capacity
      → slice_index_or (flags_in capacity words) p false ≡ stands words p
  flag_at p low = get_or-map-range_with_len (stands words) 0 capacity p p false low (omega arith)

  -- there are as many flags as the capacity
  pub flags_length : length (flags_in capacity words) ≡ capacity
  flags_length = length-map-range_with_len (stands words) 0 capacity

  -- past the capacity no flag stands
  pub flag_past : (p : ℕ) → capacity ≤ p
      → slice_index_or (flags_in capacity words) p false ≡ false
  flag_past p high =
      get_or_past (flags_in capacity words) p false (omega (arith, flags_length))

-- words with the same elements have the same flags
pub same_flags : (capacity : ℕ) (ws vs : List ℕ)
    → ((p : ℕ) → slice_index vs (element_of p) ≡ slice_index ws (element_of p))
    → flags_in capacity vs ≡ flags_in capacity ws
same_flags = grind (arith, map_same, stands, has_flag)

-- ---- the element of one place gets a new word, which differs only in that place's flag

module _ (words : List ℕ) (place new : ℕ) (near : element_of place < length words) (b : Bool)
    (is : has_flag new place ≡ b)
    (leaves : (q : ℕ) → bit_of place ≢ bit_of q
    → has_flag new q ≡ has_flag (slice_index words (element_of place)) q) where
  -- the words with the new element
  abbrev now : List ℕ
  now = slice_set words (element_of place) new

  -- the place then stands as the new element says
  pub changed : stands now place ≡ b
  changed =
      ap (λ w. has_flag w place) (get_or-set_same words (element_of place) new 0 near) ∙ is

  -- the places of other elements stand as before
  elsewhere : (q : ℕ) → element_of q ≢ element_of place → stands now q ≡ stands words q
  elsewhere = grind (arith, has_flag, get_or-set_other)

  -- each other place stands as before
  pub unchanged : (q : ℕ) → q ≢ place → stands now q ≡ stands words q
  unchanged = grind (arith, has_flag, get_or-set_same, elsewhere, eqb_tells)

  -- the flags are those before with the place's flag changed
  pub flags_change : (capacity : ℕ) → place < capacity
      → flags_in capacity now ≡ slice_set (flags_in capacity words) place b
  flags_change capacity low =
      map_changed (stands words) (stands now) b capacity place low changed (λ q below. unchanged q)
