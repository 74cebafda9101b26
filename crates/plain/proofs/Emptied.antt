-- A `reset_all` of a counting bit set, one word after another: what each step does, and that the closure is
-- called with each count.
use Rattle.std.proofs.Common.{◌≡◌, ◌≢◌, ℕ, zero, suc, ◌+◌, ◌<◌, ◌≤◌, ⊎_elim, List, [], ◌∷◌, length, drop}
use Rattle.std.proofs.Common.{replicate, refl, sym, ap, subst, ◌∙◌, arith, slice_index, slice_set, eq-eqb, ne_eqb}
use Rattle.plain.proofs.Names.{FoldsTo, cases_lt, ResetAll}
use Rattle.steps.specs.Objects.Counts.{states_from, states, uncounted}
use Rattle.steps.specs.declared.bits.counting_bit_set.BitState.{BitState}
use Rattle.plain.specs.Visits.{Takes, WasCalled}

-- ---- the words after the first few steps

-- the words with the first n of them 0
abbrev pub swept : ℕ → List ℕ → List ℕ
swept zero xs = xs
swept (suc n) [] = []
swept (suc n) (x ∷ xs) = 0 ∷ swept n xs

-- the word n is not swept yet
pub swept_at : (n : ℕ) (xs : List ℕ) → slice_index (swept n xs) n ≡ slice_index xs n
swept_at zero xs = refl
swept_at (suc n) [] = refl
swept_at (suc n) (x ∷ xs) = swept_at n xs

-- to set the word n to 0 sweeps one word more
swept_more : (n : ℕ) (xs : List ℕ) → n < length xs → slice_set (swept n xs) n 0 ≡ swept (suc n) xs
swept_more n [] within = absurd (omega arith)
swept_more zero (x ∷ xs) within = refl
swept_more (suc n) (x ∷ xs) within = ap (λ ys. 0 ∷ ys) (swept_more n xs (omega arith))

-- once all words are swept, all are 0
pub swept_all : (xs : List ℕ) → swept (length xs) xs ≡ replicate (length xs) 0
swept_all [] = refl
swept_all (x ∷ xs) = ap (λ ys. 0 ∷ ys) (swept_all xs)

-- the words from n on are the word n and those after it
rest_of : (n : ℕ) (xs : List ℕ) → n < length xs → drop n xs ≡ slice_index xs n ∷ drop (suc n) xs
rest_of n [] within = absurd (omega arith)
rest_of zero (x ∷ xs) within = refl
rest_of (suc n) (x ∷ xs) within = rest_of n xs (omega arith)

-- after all words there is none
drop_all : (xs : List ℕ) → drop (length xs) xs ≡ []
drop_all [] = refl
drop_all (x ∷ xs) = drop_all xs

-- ---- the counts that are still to be handed out

-- A call that takes all counts away and hands each to a closure: the words before, and the closure.
pub record EmptyCase (F : Type 0) : Type 1 where
  pub capacity : ℕ
  pub before : List ℕ
  -- when the closure may be called with a place and its count, what the call makes of it, and the closure at first
  pub pre : F → BitState → Type 0
  pub step : F → BitState → Unit {0} → F → Type 0
  pub first : F

module _ {F : Type 0} (case : EmptyCase F) where
  open case use {capacity, before, pre, step, first}

  -- the counts from this place on, each with its place
  abbrev left : ℕ → List BitState
  left place = states_from place (drop place before)

  -- The emptying has come to this place. The words before it are 0, the closure may be called with the counts
  -- from there on, and if it is, it will have been called with all counts.
  pub record Emptying (place : ℕ) (call : ResetAll) (words : List ℕ) (visit : F) : Type 0 where
    pub long : length before ≡ capacity
    pub at : place < capacity → call ≡ record { word = place; end = capacity }
    pub words_are : words ≡ swept place before
    pub takes : Takes pre step (states_from place (drop place before)) visit
    pub calls : (last : F)
        → FoldsTo (λ p x q. step p x tt q) visit (states_from place (drop place before)) last
        → FoldsTo (λ p x q. step p x tt q) first (states before) last

  -- a place without a count is not among those left
  left_none : (place : ℕ) → place < length before → slice_index before place ≡ 0
      → left place ≡ left (place + 1)
  left_none = grind (arith, suc, rest_of, drop, eq-eqb)

  -- a place with a count is the first of those left
  left_one : (place : ℕ) → place < length before → slice_index before place ≢ 0
      → left place ≡ record { bit = place; count = slice_index before place } ∷ left (place + 1)
  left_one = grind (arith, suc, rest_of, drop, ne_eqb)

  -- the word at the place has still its count
  pub found : (place : ℕ) (call : ResetAll) (words : List ℕ) (visit : F) → Emptying place call words visit
      → slice_index words place ≡ slice_index before place
  found place call words visit emptying = ap (λ ws. slice_index ws place) emptying.words_are ∙ swept_at place before

  -- after the step one word more is 0
  more_swept : (place : ℕ) (call : ResetAll) (words now : List ℕ) (visit : F) → place < capacity
      → Emptying place call words visit → now ≡ slice_set words place 0 → now ≡ swept (place + 1) before
  more_swept = grind (arith, suc, swept_more)

  -- once it has come to the capacity all counts are 0, and the closure was called with
  -- each place that had one
  pub ends : {place : ℕ} {call : ResetAll} {words : List ℕ} {visit : F} → Emptying place call words visit → place ≡ capacity
      → (words ≡ uncounted capacity) × WasCalled step (states before) first visit
  ends {place} {call} {words} {visit} emptying_on at_end =
      let emptying : Emptying capacity call words visit = subst (λ n. Emptying n call words visit) at_end emptying_on in
      let none : left capacity ≡ [] =
      ap (λ n. states_from capacity (drop n before)) (sym emptying.long) ∙ ap (states_from capacity) (drop_all before) in (
        emptying.words_are ∙ (ap (λ n. swept n before) (sym emptying.long) ∙ (swept_all before ∙ ap (λ n. replicate n 0) emptying.long)),
        emptying.calls visit (subst (λ xs. FoldsTo (λ p x q. step p x tt q) visit xs visit) (sym none) refl),
      )

-- The emptying has come to a place below the capacity, and its step has swapped out the count n of that place.
module _ {F : Type 0} {case : EmptyCase F} {place : ℕ} {call : ResetAll} {words : List ℕ} {visit : F} (emptying : Emptying case place call words visit)
    (low : place < case.capacity) {n : ℕ} (counted : n ≡ slice_index words call.word) where
  open case use {capacity, before, pre, step, first}

  -- what the step has swapped out is the count of the place
  count_is : n ≡ slice_index before place
  count_is =
      counted ∙ (ap (λ (c : ResetAll). slice_index words c.word) (emptying.at low) ∙ found case place call words visit emptying)

  -- the place with its count
  abbrev state : BitState
  state = record { bit = place; count = n }

  -- where the count is above 0, the place is the first of those left
  split : 0 < n → left case place ≡ state ∷ left case (place + 1)
  split = grind (arith, count_is, left_one)

  -- where the count is above 0, the closure may be called with the place and then with those after it
  both : 0 < n → Takes pre step (state ∷ left case (place + 1)) visit
  both some = subst (λ xs. Takes pre step xs visit) (split some) emptying.takes

  -- where the count is above 0, the closure may be called with it
  pub callable : 0 < n → pre visit (record { bit = place; count = n })
  callable some = (both some).0

  module _ {next : ResetAll} {now : List ℕ} (is : now ≡ slice_set words call.word 0)
      (goes : call.word + 1 < call.end → next ≡ record { word = call.word + 1; end = call.end }) where
    -- after the step the word of this place is 0
    now_is : now ≡ slice_set words place 0
    now_is = is ∙ ap (λ (c : ResetAll). slice_set words c.word 0) (emptying.at low)

    -- the call goes on at the next place
    next_at : place + 1 < capacity → next ≡ record { word = place + 1; end = capacity }
    next_at = grind arith

    -- after a step, and a call of the closure where the count is above 0, the emptying has
    -- come to the next place
    pub empties_one : (later : F) → (0 < n → step visit (record { bit = place; count = n }) tt later)
        → (n ≡ 0 → later ≡ visit) → Emptying case (place + 1) next now later
    empties_one later did same =
        ⊎_elim
        -- the place has a count: the closure was called with it
        (λ (some : 0 < n).
        record {
          long = emptying.long;
          at = next_at;
          words_are = more_swept case place call words now visit low emptying now_is;
          takes = (both some).1 later (did some);
          calls = λ last f. emptying.calls last
              (subst (λ xs. FoldsTo (λ p x q. step p x tt q) visit xs last) (sym (split some)) (later, did some, f));
        })
        -- the place has no count: the closure was not called and is the same
        (λ (none : n ≤ 0).
        let long = emptying.long in
        let is_none : n ≡ 0 = omega arith in
        let rest = left_none case place (omega arith) (sym count_is ∙ is_none) in
        subst (λ f. Emptying case (place + 1) next now f) (sym (same is_none))
        (record {
          long = emptying.long;
          at = next_at;
          words_are = more_swept case place call words now visit low emptying now_is;
          takes = subst (λ xs. Takes pre step xs visit) rest emptying.takes;
          calls = λ last f. emptying.calls last (subst (λ xs. FoldsTo (λ p x q. step p x tt q) visit xs last) (sym rest) f);
        }))
        (cases_lt 0 n)
