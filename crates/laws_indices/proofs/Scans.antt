-- How many flags a scan of a unique index set finds claimed before it finds a free one.
use Rattle.std.proofs.Common.{◌≡◌, ℕ, zero, suc, ◌+◌, ◌-◌, ◌<◌, ◌≤◌, ◌==◌, ⊎_elim, Bool, true, false, cond, List, refl, arith}
use Rattle.std.proofs.lemmas.Bool.{cases_lt}
use Rattle.laws_indices.proofs.Names.{nat_tests}
use Rattle.laws_indices.proofs.Core.{is_claimed}

module _ (c : ℕ) where
  -- of the `n` flags from the index `i` on, how many stand before the first that does not
  abbrev pub run : ℕ → List ℕ → ℕ → ℕ
  run zero words i = 0
  run (suc n) words i = cond (is_claimed c words i) (suc (run n words (i + 1))) 0

  -- how many flags a scan at the index `i` passes before a free one; after the last flag
  -- it goes on at index 0
  abbrev pub scan : List ℕ → ℕ → ℕ
  scan words i = cond (run (c - i) words i == c - i) (c - i + run c words 0) (run (c - i) words i)

  -- ---- the flags in a row stand

  -- no more flags stand in a row than there are
  run_most : (n : ℕ) (words : List ℕ) (i : ℕ) → run n words i ≤ n
  run_most zero words i = omega arith
  run_most (suc n) words i = go (is_claimed c words i) (run_most n words (i + 1))
    where
      -- the cases are whether the first of the flags stands
      go : (t : Bool) → run n words (i + 1) ≤ n → cond t (suc (run n words (i + 1))) 0 ≤ suc n
      go true rest = omega arith
      go false rest = omega arith

  -- each flag in a row of claimed flags stands
  run_claimed : (n : ℕ) (words : List ℕ) (i j : ℕ) → j < run n words i → is_claimed c words (i + j) ≡ true
  run_claimed zero words i j below = absurd (omega arith)
  run_claimed (suc n) words i j below = go (is_claimed c words i) refl (λ k. run_claimed n words (i + 1) k) j below
    where
      -- the cases are whether the first of the flags stands
      go : (t : Bool) → is_claimed c words i ≡ t → ((k : ℕ) → k < run n words (i + 1) → is_claimed c words (i + 1 + k) ≡ true) → (j : ℕ)
          → j < cond t (suc (run n words (i + 1))) 0 → is_claimed c words (i + j) ≡ true
      go true claimed rest zero below = let same : i + 0 ≡ i = omega arith in rw same claimed
      go true claimed rest (suc j) below = let same : i + suc j ≡ i + 1 + j = omega arith in rw same (rest j (omega arith))
      go false unclaimed rest j below = absurd (omega arith)

  -- some flag is free
  module _ (words : List ℕ) (free : ((j : ℕ) → j < c → is_claimed c words j ≡ true) → ⊥) where
    -- the row from index 0 on does not reach the end
    from_first : run c words 0 < c
    from_first = ⊎_elim (λ less. less) (λ more. absurd (free (λ j below. all more j below))) (cases_lt (run c words 0) c)
      where
        -- if the run of claimed flags from the first reaches the end, each flag is claimed
        all : c ≤ run c words 0 → (j : ℕ) → j < c → is_claimed c words j ≡ true
        all more j below =
            let same : 0 + j ≡ j = omega arith in
            rw (← same) (run_claimed c words 0 j (omega arith))

    -- where all flags from `i` on stand, the row from index 0 on ends before `i`
    before : (i : ℕ) → i < c → run (c - i) words i ≡ c - i → run c words 0 < i
    before i low whole = ⊎_elim (λ less. less) (λ more. absurd (free (λ j below. all more j below))) (cases_lt (run c words 0) i)
      where
        -- if no flag before i were free, all would stand
        all : i ≤ run c words 0 → (j : ℕ) → j < c → is_claimed c words j ≡ true
        all more j below = ⊎_elim first rest (cases_lt j i)
          where
            -- a flag before the place of the scan is claimed
            first : j < i → is_claimed c words j ≡ true
            first less =
                let same : 0 + j ≡ j = omega arith in
                rw (← same) (run_claimed c words 0 j (omega arith))

            -- a flag from the place of the scan on is claimed
            rest : i ≤ j → is_claimed c words j ≡ true
            rest past =
                let same : i + (j - i) ≡ j = omega arith in
                rw (← same) (run_claimed (c - i) words i (j - i) (omega arith))

    -- ---- a scan finds a free flag

    -- a scan from an index of the set passes fewer flags than there are indices, where one is free
    pub scan_few : (i : ℕ) → i < c → scan words i ≤ c - 1
    scan_few i low = go (run (c - i) words i == c - i) refl
      where
        -- the cases are whether all indices up to the end are claimed
        go : (t : Bool) → (run (c - i) words i == c - i) ≡ t → cond t (c - i + run c words 0) (run (c - i) words i) ≤ c - 1
        go true all_used =
            let whole : run (c - i) words i ≡ c - i = grind (arith, nat_tests) in
            let less = before i low whole in
            omega arith
        go false some_free =
            let most = run_most (c - i) words i in
            let other : run (c - i) words i < c - i = grind (arith, nat_tests) in
            omega arith

    -- a scan at the last index, whose flag stands, passes one less from the first on
    pub scan_wraps : (i : ℕ) → i < c → c ≤ i + 1 → is_claimed c words i ≡ true → scan words 0 + 1 ≤ scan words i
    scan_wraps i low last stood =
        let one : c - i ≡ suc 0 = omega arith in
        let none : c - 0 ≡ c = omega arith in
        let less = from_first in
        let not_whole : (run c words 0 == c) ≡ false = grind (arith, nat_tests) in
        rw (one, none, stood, not_whole) (omega arith)

  -- ---- a scan passes one flag less from the next index on

  -- where the row and its limit are longer by one, a scan passes at least one flag more
  one_less : (a m r : ℕ) → cond (a == m) (m + r) a + 1 ≤ cond (suc a == suc m) (suc m + r) (suc a)
  one_less = grind (arith, nat_tests)

  -- a scan at an index whose flag stands passes one flag more than a scan at the next index
  pub scan_on : (words : List ℕ) (i : ℕ) → i + 1 < c → is_claimed c words i ≡ true → scan words (i + 1) + 1 ≤ scan words i
  scan_on words i more stood =
      let next : c - i ≡ suc (c - (i + 1)) = omega arith in
      rw (next, stood) (one_less (run (c - (i + 1)) words (i + 1)) (c - (i + 1)) (run c words 0))

  -- ---- a scan passes no more flags where no flag more stands

  module _ (old new : List ℕ) (fewer : (j : ℕ) → is_claimed c new j ≡ true → is_claimed c old j ≡ true) where
    -- in a row no more stand where no flag more stands
    run_fewer : (n i : ℕ) → run n new i ≤ run n old i
    run_fewer zero i = omega arith
    run_fewer (suc n) i = go (is_claimed c new i) refl (run_fewer n (i + 1))
      where
        -- the cases are whether the first of the flags stands in the new words
        go : (t : Bool) → is_claimed c new i ≡ t → run n new (i + 1) ≤ run n old (i + 1) → cond t (suc (run n new (i + 1))) 0 ≤ run (suc n) old i
        go true claimed rest = let stood = fewer i claimed in rw stood (omega arith)
        go false unclaimed rest = omega arith

    -- where both rows are no longer, a scan passes no more flags, also when it starts over at index 0
    wrapped : (k a b r s : ℕ) → a ≤ b → b ≤ k → r ≤ s → cond (a == k) (k + r) a ≤ cond (b == k) (k + s) b
    wrapped = grind (arith, nat_tests)

    -- a scan passes no more flags where no flag more stands
    pub scan_fewer : (i : ℕ) → scan new i ≤ scan old i
    scan_fewer i =
        wrapped (c - i) (run (c - i) new i) (run (c - i) old i) (run c new 0) (run c old 0) (run_fewer (c - i) i) (run_most (c - i) old i) (run_fewer c 0)
