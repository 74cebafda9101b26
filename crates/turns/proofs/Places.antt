-- The events `Cleared` of a call that clears a bit set: for each bit of an element whose flag was
-- found, one after another.
use Rattle.std.proofs.Common.{◌≡◌, ℕ, zero, suc, ◌+◌, true, false, cond, List, [], ◌∷◌, ◌++◌, map, refl, ap, ◌∙◌, append-nil, arith}
use Rattle.std.specs.List.{filter, range_with_len}
use Rattle.std.proofs.lemmas.List.{map-append}
use Rattle.std.proofs.lemmas.List.Elements.{filter-append}
use Rattle.steps.specs.Bits.Words.{has_flag}
use Rattle.model.specs.declared.event.Event.{Event}
use Rattle.model.specs.declared.event.Event.TheVariants.{Cleared}

-- a range that is one number longer has that number behind the others
range_suc : (a n : ℕ) → range_with_len a (suc n) ≡ range_with_len a n ++ (a + n) ∷ []
range_suc a zero = let e : a + 0 ≡ a = omega arith in rw e refl
range_suc a (suc n) =
    let e : a + suc n ≡ a + 1 + n = omega arith in
    rw e (ap (λ xs. a ∷ xs) (range_suc (a + 1) n))

-- the same fact, for a length written as n + 1
range_more : (a n : ℕ) → range_with_len a (n + 1) ≡ range_with_len a n ++ (a + n) ∷ []
range_more a n = let e : n + 1 ≡ suc n = omega arith in rw e (range_suc a n)

module _ {T : Type 0} where
  -- the events `Cleared` of those of the n bits from `first` on whose flag was found
  abbrev pub clears_so_far : ℕ → ℕ → ℕ → ℕ → List (Event T)
  clears_so_far p found first n =
      map (λ b. Cleared p b) (filter (λ b. has_flag found b) (range_with_len first n))

  -- with a bit more, the events are those before it, and one more where its flag was found
  one_more : (p found first n : ℕ)
      → clears_so_far p found first (n + 1)
      ≡ clears_so_far p found first n ++ map (λ b. Cleared p b) (cond (has_flag found (first + n)) ((first + n) ∷ []) [])
  one_more p found first n =
      ap (λ bs. map (λ b. Cleared p b) (filter (λ b. has_flag found b) bs)) (range_more first n)
      ∙ (ap (λ bs. map (λ b. Cleared p b) bs) (filter-append (λ b. has_flag found b) (range_with_len first n) ((first + n) ∷ []))
      ∙ map-append (λ b. Cleared p b) (filter (λ b. has_flag found b) (range_with_len first n)) (cond (has_flag found (first + n)) ((first + n) ∷ []) []))

  -- where the flag of the next bit was found, its event `Cleared` comes behind those of the bits before it
  pub stood_more : (p found first n : ℕ) → has_flag found (first + n) ≡ true
      → clears_so_far p found first (n + 1) ≡ clears_so_far p found first n ++ Cleared p (first + n) ∷ []
  stood_more p found first n stood =
      one_more p found first n ∙ ap (λ b. clears_so_far p found first n ++ map (λ b. Cleared p b) (cond b ((first + n) ∷ []) [])) stood

  -- where the flag of the next bit was not found, no event is added
  pub clear_more : (p found first n : ℕ) → has_flag found (first + n) ≡ false → clears_so_far p found first (n + 1) ≡ clears_so_far p found first n
  clear_more p found first n clear =
      one_more p found first n
      ∙ (ap (λ b. clears_so_far p found first n ++ map (λ b. Cleared p b) (cond b ((first + n) ∷ []) [])) clear
      ∙ append-nil (clears_so_far p found first n))
