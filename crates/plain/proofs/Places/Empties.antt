-- A `reset_all` of a bit set, one element after another: its closure is called with each place that stands,
-- and the words are then empty.
use Rattle.std.proofs.Common.{◌≡◌, ◌≢◌, ℕ, zero, suc, ◌+◌, ◌-◌, ◌*◌, ◌<◌, ◌≤◌, ⊎_elim, Bool, true, false, List}
use Rattle.std.proofs.Common.{[], ◌∷◌, ◌++◌, length, drop, replicate, refl, sym, ap, subst, ◌∙◌, arith, slice_index}
use Rattle.std.proofs.Common.{slice_set, get_or-set_same, get_or-set_other, length-set, if◌then◌else◌}
use Rattle.plain.proofs.Names.{FoldsTo, range_with_len, cases_lt, standing_from, standing, ResetAll}
use Rattle.std.specs.Prelude.{map, slice_index_or}
use Rattle.steps.specs.Bits.Words.{bit_of, element_of, elements, has_flag, stands}
use Rattle.steps.specs.Objects.Places.{emptied, unset}
use Rattle.steps.proofs.Flags.Words.{none_stands}
use Rattle.plain.specs.Bits.{flags_in, places_in, standing_in, Represents}
use Rattle.plain.specs.Visits.{Takes, WasCalled}
use Rattle.plain.proofs.Places.Flags.{flag_at, flags_length}

-- the flags from n on are the flag n and those after it
rest_of : (n : ℕ) (xs : List Bool) → n < length xs
    → drop n xs ≡ slice_index_or xs n false ∷ drop (suc n) xs
rest_of n [] within = absurd (omega arith)
rest_of zero (x ∷ xs) within = refl
rest_of (suc n) (x ∷ xs) within = rest_of n xs (omega arith)

-- after all flags there is none
drop_all : (xs : List Bool) → drop (length xs) xs ≡ []
drop_all [] = refl
drop_all (x ∷ xs) = drop_all xs

-- a test that fails at each place of a range gives `false` for all of them
none_of : (f : ℕ → Bool) (n a : ℕ) → ((q : ℕ) → a ≤ q → q < a + n → f q ≡ false)
    → map f (range_with_len a n) ≡ replicate n false
none_of f zero a fails = refl
none_of f (suc n) a fails =
    let head = fails a (omega arith) (omega arith) in
    let tail = none_of f n (a + 1) (λ q low high. fails q (omega arith) (omega arith)) in
    λ i. head i ∷ tail i

-- a list of zeros has a zero at each place
zero_at : (n j : ℕ) → slice_index (replicate n 0) j ≡ 0
zero_at zero j = refl
zero_at (suc n) zero = refl
zero_at (suc n) (suc j) = zero_at n j

-- words that are all 0 are those of a set without any place
pub opened : (capacity n : ℕ) (words : List ℕ) → words ≡ replicate n 0
    → places_in capacity words ≡ unset capacity
opened = grind (arith, none_of, stands, has_flag, zero_at, none_stands)

-- ---- the places of one element

-- no place stands in a range without flags
none_in : (found place n : ℕ) → ((q : ℕ) → place ≤ q → q < place + n → has_flag found q ≡ false)
    → standing_in found place n ≡ []
none_in found place zero clear = refl
none_in found place (suc n) clear =
    ap (λ b. if b then place ∷ standing_in found (place + 1) n else standing_in found (place + 1) n)
    (clear place (omega arith) (omega arith))
    ∙ none_in found (place + 1) n (λ q low high. clear q (omega arith) (omega arith))

-- the places of an element from one on are that place, if it stands, and those after it
next_in : (found place end : ℕ) (stood : Bool) → place < end → stood ≡ has_flag found place
    → standing_in found place (end - place)
    ≡ (if stood then place ∷ standing_in found (place + 1) (end - (place + 1)) else standing_in found (place + 1) (end - (place + 1)))
next_in found place end stood low stood_is =
    ap (standing_in found place) (let e : end - place ≡ suc (end - (place + 1)) = omega arith in e)
    ∙ ap (λ b. if b then place ∷ standing_in found (place + 1) (end - (place + 1)) else standing_in found (place + 1) (end - (place + 1))) (sym stood_is)

-- a place that may come first comes before both lists
put_before : (b : Bool) (place : ℕ) (xs ys : List ℕ)
    → (if b then place ∷ (xs ++ ys) else xs ++ ys) ≡ (if b then place ∷ xs else xs) ++ ys
put_before true place xs ys = refl
put_before false place xs ys = refl

module _ (capacity : ℕ) (before : List ℕ) where
  -- the places that stand, from this one on
  abbrev pub left : ℕ → List ℕ
  left place = standing_from place (drop place (flags_in capacity before))

  -- the places that stand from one on are that one, if it stands, and those after it
  left_is : (place : ℕ) → place < capacity
      → left place ≡ (if stands before place then place ∷ left (place + 1) else left (place + 1))
  left_is place low =
      ap (standing_from place)
      (rest_of place (flags_in capacity before) (omega (arith, flags_length capacity before)))
      ∙ (ap (λ m. if slice_index_or (flags_in capacity before) place false
      then place ∷ standing_from (place + 1) (drop m (flags_in capacity before))
      else standing_from (place + 1) (drop m (flags_in capacity before)))
      (let e : suc place ≡ place + 1 = omega arith in e)
      ∙ ap (λ b. if b then place ∷ left (place + 1) else left (place + 1)) (flag_at capacity before place low))

  -- from the capacity on no place stands
  nothing_left : left capacity ≡ []
  nothing_left =
      ap (λ n. standing_from capacity (drop n (flags_in capacity before))) (sym (flags_length capacity before))
      ∙ ap (standing_from capacity) (drop_all (flags_in capacity before))

  -- where n places from one on lie in one element, the places that stand are those of the
  -- element and those after them
  pub left_splits : (found place n : ℕ) → place + n ≤ capacity
      → ((q : ℕ) → place ≤ q → q < place + n → slice_index before (element_of q) ≡ found)
      → left place ≡ standing_in found place n ++ left (place + n)
  left_splits found place zero within word_is = ap left (let e : place ≡ place + 0 = omega arith in e)
  left_splits found place (suc n) within word_is =
      left_is place (omega arith)
      ∙ (ap (λ w. if has_flag w place then place ∷ left (place + 1) else left (place + 1)) (word_is place (omega arith) (omega arith))
      ∙ (ap (λ xs. if has_flag found place then place ∷ xs else xs)
      (left_splits found (place + 1) n (omega arith) (λ q low high. word_is q (omega arith) (omega arith))
      ∙ ap (λ m. standing_in found (place + 1) n ++ left m) (let e : place + 1 + n ≡ place + suc n = omega arith in e))
      ∙ put_before (has_flag found place) place (standing_in found (place + 1) n) (left (place + suc n))))

module _ {F : Type 0} (pre : F → ℕ → Type 0) (step : F → ℕ → Unit {0} → F → Type 0) where
  -- calls of the closure with these places, one after another, led from f to `last`
  abbrev Folds : F → List ℕ → F → Type 0
  Folds f xs last = FoldsTo (λ p x q. step p x tt q) f xs last

  -- a closure that may be called with a list may be called with the beginning of it
  takes_first : (xs ys : List ℕ) (f : F) → Takes pre step (xs ++ ys) f → Takes pre step xs f
  takes_first [] ys f may_take = tt
  takes_first (x ∷ xs) ys f may_take = (may_take.0, λ next did. takes_first xs ys next (may_take.1 next did))

  -- after the calls with a beginning of a list the closure may be called with the rest
  takes_rest : (xs ys : List ℕ) (f last : F) → Takes pre step (xs ++ ys) f → Folds f xs last → Takes pre step ys last
  takes_rest [] ys f last may_take folds = subst (Takes pre step ys) folds may_take
  takes_rest (x ∷ xs) ys f last may_take went = takes_rest xs ys went.0 last (may_take.1 went.0 went.1) went.2

  -- calls with one list and then with another are calls with both
  goes_further : (xs ys : List ℕ) (f mid last : F) → Folds f xs mid → Folds mid ys last → Folds f (xs ++ ys) last
  goes_further [] ys f mid last folds went = subst (λ m. Folds m ys last) (sym folds) went
  goes_further (x ∷ xs) ys f mid last went later = (went.0, went.1, goes_further xs ys went.0 mid last went.2 later)

  -- ---- one element is handed out

  -- The places of the element before this one are handed out. The flags of `left` from there on are those
  -- found, the closure may be called with the places that stand, and if it is, it will have been called
  -- with all of the element.
  pub record Visiting (found end at : ℕ) (first : F) (place left : ℕ) (visit : F) : Type 0 where
    pub same : (q : ℕ) → place ≤ q → q < end → has_flag left q ≡ has_flag found q
    pub takes : Takes pre step (standing_in found place (end - place)) visit
    pub calls : (last : F) → Folds visit (standing_in found place (end - place)) last
        → Folds first (standing_in found at (end - at)) last

  -- ---- all elements

  -- The emptying has come to this element and its first place. The elements before it are 0, those from it
  -- on are as before, and the closure may be called with the places that stand from there on; if it is, it
  -- will have been called with all.
  pub record Emptying (capacity : ℕ) (before : List ℕ) (first : F) (element place : ℕ) (call : ResetAll) (words : List ℕ) (visit : F) : Type 0 where
    pub fits : Represents capacity before
    -- the place is the first one of the element, or the capacity where no element is left
    pub within : place ≤ capacity
    pub near : place ≤ element * 64
    pub far : place < capacity → place ≡ element * 64
    -- where an element is left, the call is about to swap its word with 0
    pub at : element < elements capacity → call ≡ record { word = 1 + element; end = 1 + elements capacity }
    -- the words of the elements before this one are 0, and all other words are as before
    pub long : length words ≡ length before
    pub swept : (j : ℕ) → 0 < j → j ≤ element → slice_index words j ≡ 0
    pub kept : (j : ℕ) → element < j → slice_index words j ≡ slice_index before j
    pub head : slice_index words 0 ≡ slice_index before 0
    -- the calls that are left, and that with them the closure was called with all places
    pub takes : Takes pre step (left capacity before place) visit
    pub calls : (last : F) → Folds visit (left capacity before place) last
        → Folds first (standing (places_in capacity before)) last

-- The places of an element before this one are handed out.
module _ {F : Type 0} {pre : F → ℕ → Type 0} {step : F → ℕ → Unit {0} → F → Type 0} {found end at : ℕ} {first : F} {place flags : ℕ} {visit : F}
    (visiting : Visiting pre step found end at first place flags visit) where
  -- where this place stands, the closure may be called with it, and then with those of the element after it
  both : place < end → true ≡ has_flag found place → Takes pre step (place ∷ standing_in found (place + 1) (end - (place + 1))) visit
  both low some = subst (λ xs. Takes pre step xs visit) (next_in found place end true low some) visiting.takes

  -- where this place stands, the closure may be called with it
  pub may_visit : place < end → {stood : Bool} → stood ≡ has_flag found place → stood ≡ true → pre visit place
  may_visit low stood_is some = (both low (sym some ∙ stood_is)).0

  -- after a call with the place, if it stands, the places before the next one are handed out. The cases are
  -- whether it stands.
  pub visits_one : place < end → end ≤ at + 64 → at ≤ place → (stood : Bool) → stood ≡ has_flag found place → {next : ℕ} {later : F}
      → (stood ≡ true → step visit place tt later) → (stood ≡ false → later ≡ visit)
      → ((q : ℕ) → bit_of q ≢ bit_of place → has_flag next q ≡ has_flag flags q)
      → Visiting pre step found end at first (place + 1) next later
  visits_one low near from true stood_is {next} {later} did same others =
      record {
        same = λ q below high. others q (λ e. absurd (omega (arith, e))) ∙ visiting.same q (omega arith) high;
        takes = (both low stood_is).1 later (did refl);
        calls = λ last f. visiting.calls last
            (subst (λ xs. Folds pre step visit xs last) (sym (next_in found place end true low stood_is)) (later, did refl, f));
      }
  visits_one low near from false stood_is {next} {later} did same others =
      let list = next_in found place end false low stood_is in
      subst (Visiting pre step found end at first (place + 1) next) (sym (same refl))
      (record {
        same = λ q below high. others q (λ e. absurd (omega (arith, e))) ∙ visiting.same q (omega arith) high;
        takes = subst (λ xs. Takes pre step xs visit) list visiting.takes;
        calls = λ last f. visiting.calls last (subst (λ xs. Folds pre step visit xs last) (sym list) f);
      })

  -- where no flag is left, the closure was called with each place of the element that stood
  pub visited : ((q : ℕ) → place ≤ q → q < end → has_flag flags q ≡ false) → Folds pre step first (standing_in found at (end - at)) visit
  visited none =
      visiting.calls visit
      (subst (λ xs. Folds pre step visit xs visit)
      (sym (none_in found place (end - place) (λ q low high. sym (visiting.same q low (omega arith)) ∙ none q low (omega arith))))
      refl)

-- The emptying has come to this element and this place.
module _ {F : Type 0} {pre : F → ℕ → Type 0} {step : F → ℕ → Unit {0} → F → Type 0} {capacity : ℕ} {before : List ℕ} {first : F}
    {element place : ℕ} {call : ResetAll} {words : List ℕ} {visit : F}
    (emptying : Emptying pre step capacity before first element place call words visit) where
  -- The set has the element, a step has swapped out its word `found`, and its places end at `end`.
  module _ (some : element < elements capacity) {found : ℕ} (is : found ≡ slice_index words call.word) {end : ℕ} (order : place ≤ end)
      (below : end ≤ capacity) (near : end ≤ place + 64) (far : end < capacity → end ≡ place + 64) where
    -- the place is the first of the element
    here : place ≡ element * 64
    here = let n = emptying.near in let f = emptying.far in let w = emptying.within in
        ⊎_elim (λ (low : place < capacity). f low) (λ (high : capacity ≤ place). absurd (omega arith)) (cases_lt place capacity)

    -- what the step has swapped out is the element as it was before the call
    found_is : found ≡ slice_index before (1 + element)
    found_is = is ∙ (ap (λ (c : ResetAll). slice_index words c.word) (emptying.at some) ∙ emptying.kept (1 + element) (omega arith))

    -- the places that stand from here on are those of this element and those after it
    splits : left capacity before place ≡ standing_in found place (end - place) ++ left capacity before end
    splits =
        left_splits capacity before found place (end - place) (omega arith)
        (λ q low high.
        let e = here in
        ap (slice_index before) (let z : element_of q ≡ 1 + element = omega arith in z) ∙ sym found_is)
        ∙ ap (λ m. standing_in found place (end - place) ++ left capacity before m) (let z : place + (end - place) ≡ end = omega arith in z)

    -- the closure may be called with the places of this element that stand
    pub takes_element : Takes pre step (standing_in found place (end - place)) visit
    takes_element =
        takes_first pre step (standing_in found place (end - place)) (left capacity before end) visit
        (subst (λ xs. Takes pre step xs visit) splits emptying.takes)

    -- after the calls with the places of this element its word is 0, and the emptying has
    -- come to the next element
    pub empties_one : {next : ResetAll} {now : List ℕ} {later : F} → now ≡ slice_set words call.word 0
        → (call.word + 1 < call.end → next ≡ record { word = call.word + 1; end = call.end })
        → Folds pre step visit (standing_in found place (end - place)) later → Emptying pre step capacity before first (element + 1) end next now later
    empties_one {next} {now} {later} writes goes went =
        let e = here in
        let long : 1 + element < length words = omega (arith, emptying.long, emptying.fits.long) in
        let wrote : now ≡ slice_set words (1 + element) 0 = writes ∙ ap (λ (c : ResetAll). slice_set words c.word 0) (emptying.at some) in
        record {
          fits = emptying.fits;
          within = below;
          near = omega arith;
          far = λ low. far low ∙ omega arith;
          -- the call stands at the next element, if there is one
          at = λ more.
              subst (λ (c : ResetAll). c.word + 1 < c.end → next ≡ record { word = c.word + 1; end = c.end }) (emptying.at some) goes (omega arith)
              ∙ ap (λ w. record { word = w; end = 1 + elements capacity }) (let z : 1 + element + 1 ≡ 1 + (element + 1) = omega arith in z);
          long = ap length wrote ∙ (length-set words (1 + element) 0 ∙ emptying.long);
          -- the words of the elements up to this one are 0
          swept = λ j low high.
              ap (λ ws. slice_index ws j) wrote
              ∙ ⊎_elim (λ (before : j < 1 + element).
              get_or-set_other words (1 + element) j 0 0 (λ e. absurd (omega arith)) ∙ emptying.swept j low (omega arith))
              (λ (last : 1 + element ≤ j).
              ap (slice_index (slice_set words (1 + element) 0)) (let z : j ≡ 1 + element = omega arith in z)
              ∙ get_or-set_same words (1 + element) 0 0 long)
              (cases_lt j (1 + element));
          -- the words of the elements behind it are as before
          kept = λ j high.
              ap (λ ws. slice_index ws j) wrote
              ∙ (get_or-set_other words (1 + element) j 0 0 (λ e. absurd (omega arith)) ∙ emptying.kept j (omega arith));
          head = ap (λ ws. slice_index ws 0) wrote
              ∙ (get_or-set_other words (1 + element) 0 0 0 (λ e. absurd (omega arith)) ∙ emptying.head);
          -- the closure may still be called with the places behind those of this element
          takes = takes_rest pre step (standing_in found place (end - place)) (left capacity before end) visit later
              (subst (λ xs. Takes pre step xs visit) splits emptying.takes) went;
          -- once it is called with those, it was called with all
          calls = λ last f.
              emptying.calls last
              (subst (λ xs. Folds pre step visit xs last) (sym splits)
              (goes_further pre step (standing_in found place (end - place)) (left capacity before end) visit later last went f));
        }

  -- The emptying has come to its end: it has gone through all elements of the set.
  module _ (last : element ≡ elements capacity) where
    -- after the last element the place is the capacity
    at_end : place ≡ capacity
    at_end = let w = emptying.within in let f = emptying.far in
        ⊎_elim (λ (low : place < capacity). absurd (omega (arith, f low))) (λ (high : capacity ≤ place). omega arith) (cases_lt place capacity)

    -- no place stands then
    none : (q : ℕ) → q < capacity → stands words q ≡ false
    none q low =
        ap (λ w. has_flag w q) (emptying.swept (element_of q) (omega arith) (omega arith)) ∙ none_stands q

    -- the words are then those of the set emptied
    pub all_emptied : places_in capacity words ≡ emptied (places_in capacity before)
    all_emptied =
        let clear : flags_in capacity words ≡ replicate (length (flags_in capacity before)) false =
        none_of (stands words) capacity 0 (λ q low high. none q (omega arith))
        ∙ ap (λ n. replicate n false) (sym (flags_length capacity before)) in
        λ i. record { flags = clear i; start = emptying.head i }

    -- the closure was called with each place that stood
    pub all_called : WasCalled step (standing (places_in capacity before)) first visit
    all_called =
        emptying.calls visit
        (subst (λ xs. Folds pre step visit xs visit) (sym (ap (left capacity before) at_end ∙ nothing_left capacity before)) refl)
