-- The places whose flags stand in a word of a bit set (`places_in`): they are of its element, they rise, and
-- each is named once.
use Rattle.std.proofs.Common.{◌≡◌, ◌≢◌, ℕ, zero, suc, ◌+◌, ◌<◌, ◌≤◌, ◌⊎◌, inl, inr, ⊎_elim, Bool, true, false, List}
use Rattle.std.proofs.Common.{◌∷◌, refl, ap, ◌∙◌, arith, eq-eqb, ne_eqb, eqb}
use Rattle.std.specs.Prelude.{cond, ◌==◌}
use Rattle.std.specs.List.{All, AllPairs, filter, range_with_len, count_by}
use Rattle.std.proofs.lemmas.Bool.{cases_lt}
use Rattle.std.proofs.lemmas.Bool.Decides.{eqb_tells}
use Rattle.std.proofs.lemmas.List.Elements.{All-nil, All-cons, All-weaker, All-filter, filter_passes}
use Rattle.std.proofs.lemmas.List.Sums.{sum_by-cons}
use Rattle.std.proofs.lemmas.List.Kept.{AllPairs-cons, AllPairs-filter}
use Rattle.steps.specs.Bits.Words.{element_of, has_flag}
use Rattle.steps.specs.Bits.Places.{first_place, places_in}

-- ---- the numbers from a on

-- the numbers of a range lie in it
range_within : (a n : ℕ) → All (λ p. (a ≤ p) × (p < a + n)) (range_with_len a n)
range_within a zero = All-nil (λ p. (a ≤ p) × (p < a + 0))
range_within a (suc n) =
    All-cons (λ p. (a ≤ p) × (p < a + suc n)) a (range_with_len (a + 1) n) (omega arith, omega arith)
    (All-weaker (λ p. (a + 1 ≤ p) × (p < a + 1 + n)) (λ p. (a ≤ p) × (p < a + suc n))
    (λ p h. let l = h.0 in let r = h.1 in (omega arith, omega arith)) (range_with_len (a + 1) n)
    (range_within (a + 1) n))

-- the numbers of a range rise
range_rises : (a n : ℕ) → AllPairs (λ x y. x < y) (range_with_len a n)
range_rises a zero = λ i j d lt within. absurd (omega arith)
range_rises a (suc n) =
    AllPairs-cons (λ x y. x < y) a (range_with_len (a + 1) n)
    (All-weaker (λ p. (a + 1 ≤ p) × (p < a + 1 + n)) (λ p. a < p) (λ p h. let l = h.0 in omega arith) (range_with_len (a + 1) n) (range_within (a + 1) n))
    (range_rises (a + 1) n)

-- ---- how often a place is named

module _ (test : ℕ → Bool) (p : ℕ) where
  -- how often the place p is in a list
  abbrev times : List ℕ → ℕ
  times xs = count_by (λ q. q == p) xs

  -- a number other than p, kept or not, does not change how often p is in the list
  head_other : (a : ℕ) (rest : List ℕ) (n : ℕ) → a ≢ p → times rest ≡ n → (t : Bool) → times (cond t (a ∷ rest) rest) ≡ n
  head_other a rest n ne is true =
      sum_by-cons (λ q. cond (q == p) 1 0) a rest
      ∙ (ap (λ b. cond b 1 0 + times rest) (ne_eqb a p ne) ∙ (let z : 0 + times rest ≡ n = omega arith in z))
  head_other a rest n ne is false = is

  -- a place outside a range is not among the range's numbers
  named_never : (a n : ℕ) → (p < a) ⊎ (a + n ≤ p) → times (filter test (range_with_len a n)) ≡ 0
  named_never a zero out = refl
  named_never a (suc n) out =
      head_other a (filter test (range_with_len (a + 1) n)) 0
      (λ e. ⊎_elim (λ l. absurd (omega arith)) (λ l. absurd (omega arith)) out)
      (named_never (a + 1) n (⊎_elim (λ l. inl (omega arith)) (λ l. inr (omega arith)) out)) (test a)

  -- p itself, before a list without p, is there once where it is kept and else never
  head_same : (a : ℕ) (rest : List ℕ) → a ≡ p → times rest ≡ 0 → (t : Bool) → times (cond t (a ∷ rest) rest) ≡ cond t 1 0
  head_same a rest same is true =
      sum_by-cons (λ q. cond (q == p) 1 0) a rest
      ∙ (ap (λ b. cond b 1 0 + times rest) (eq-eqb a p same) ∙ (let z : 1 + times rest ≡ 1 = omega arith in z))
  head_same a rest same is false = is

  -- a place in a range is among those that pass the test once if it passes, and else never
  named_once : (a n : ℕ) → a ≤ p → p < a + n → times (filter test (range_with_len a n)) ≡ cond (test p) 1 0
  named_once a zero from to = absurd (omega arith)
  named_once a (suc n) from to =
      ⊎_elim
      (λ (t : (eqb a p ≡ true) × (a ≡ p)).
      head_same a (filter test (range_with_len (a + 1) n)) t.1 (named_never (a + 1) n (inl (let e = t.1 in omega arith))) (test a)
      ∙ ap (λ z. cond (test z) 1 0) t.1)
      (λ t. head_other a (filter test (range_with_len (a + 1) n)) (cond (test p) 1 0) t.1
      (named_once (a + 1) n (let ne = t.1 in omega arith) (omega arith)) (test a))
      (eqb_tells a p)

-- ---- the places of an element

module _ (w found : ℕ) where
  -- whether the flag of a place was found
  abbrev has : ℕ → Bool
  has p = has_flag found p

  -- each place that the word names is of its element
  pub in_element : 1 ≤ w → All (λ p. element_of p ≡ w) (places_in w found)
  in_element low =
      All-filter has (λ p. element_of p ≡ w) (range_with_len (first_place w) 64)
      (All-weaker (λ p. (first_place w ≤ p) × (p < first_place w + 64)) (λ p. element_of p ≡ w)
      (λ p h. let l = h.0 in let r = h.1 in omega arith) (range_with_len (first_place w) 64) (range_within (first_place w) 64))

  -- each place that the word names has its flag in the word
  pub each_stands : All (λ p. has_flag found p ≡ true) (places_in w found)
  each_stands = filter_passes has (range_with_len (first_place w) 64)

  -- the places that the word names rise
  pub places_rise : AllPairs (λ x y. x < y) (places_in w found)
  places_rise = AllPairs-filter (λ x y. x < y) has (range_with_len (first_place w) 64) (range_rises (first_place w) 64)

  -- each place of the element is named once where its flag stands in the word, and else never
  pub place_named : (p : ℕ) → element_of p ≡ w → count_by (λ q. q == p) (places_in w found) ≡ cond (has_flag found p) 1 0
  place_named p is = named_once has p (first_place w) 64 (omega arith) (omega arith)

  -- a place of another element is never named
  pub place_not_named : 1 ≤ w → (p : ℕ) → element_of p ≢ w → count_by (λ q. q == p) (places_in w found) ≡ 0
  place_not_named low p ne =
      named_never has p (first_place w) 64
      (⊎_elim (λ l. inl l) (λ from. ⊎_elim (λ to. absurd (ne (omega arith))) (λ l. inr l) (cases_lt p (first_place w + 64))) (cases_lt p (first_place w)))
