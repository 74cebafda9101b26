-- The shares of all seats make one whole, and splits and joins keep this.
use Rattle.std.proofs.Common.{◌≡◌, ◌≢◌, ℕ, zero, suc, ◌+◌, ◌*◌, ◌<◌, ◌≤◌, ◌⊎◌, inl, inr, ⊎_elim, List, [], ◌∷◌, ◌++◌}
use Rattle.std.proofs.Common.{length, set, sym, refl, ap, subst, ◌∙◌, arith, length-set, length-append, if◌then◌else◌}
use Rattle.std.proofs.Common.{eqb, eq-eqb, ne_eqb}
use Rattle.std.proofs.Math.Nat.{mul-le-mul_left}
use Rattle.atomic_table.proofs.Lists.{at_set}
use Rattle.threaded.specs.declared.share.Share.{Share}
use Rattle.threaded.specs.Shares.{all_shares, no_share, half_of, both_of, IsAll, tally, Shares}
use mathlib.Core.Logic.{dite}
use mathlib.Core.Option.{some, some-injective, some-ne-none}
use lib.ListN.{get_elem?}
use native.Mathlib.Decide.{dec_lt, ℕ_discrete}

-- ---- a function that is changed at one number

-- The function with another value at one place.
abbrev pub put : {A : Type 0} → (ℕ → A) → ℕ → A → ℕ → A
put f i x j = if eqb j i then x else f j

-- At the place it has that value.
pub put_same : {A : Type 0} (f : ℕ → A) (i : ℕ) (x : A) → put f i x i ≡ x
put_same f i x = ap (λ b. if b then x else f i) (eq-eqb i i refl)

-- At each other place it is as before.
pub put_other : {A : Type 0} (f : ℕ → A) (i : ℕ) (x : A) (j : ℕ) → j ≢ i → put f i x j ≡ f j
put_other f i x j ne = ap (λ b. if b then x else f j) (ne_eqb j i ne)

-- ---- sums

-- equal numbers have equal sums
tally_same : (k l : ℕ → ℕ) (n : ℕ) → ((j : ℕ) → j < n → l j ≡ k j) → tally l n ≡ tally k n
tally_same k l zero h = refl
tally_same k l (suc n) h =
    let before = tally_same k l n (λ j lt. h j (omega arith)) in
    let last = h n (omega arith) in
    let both : tally l n + l n ≡ tally k n + k n = omega arith in
    both

-- the sum after one number is changed
tally_put : (k : ℕ → ℕ) (i x n : ℕ) → i < n → tally (put k i x) n + k i ≡ tally k n + x
tally_put k i x zero lt = absurd (omega arith)
tally_put k i x (suc n) lt =
    dite (ℕ_discrete i n)
    (λ e.
    let before = tally_same k (put k i x) n (λ j low. put_other k i x j (λ h. absurd (omega arith))) in
    let last : put k i x n ≡ x = ap (put k i x) (sym e) ∙ put_same k i x in
    let here : k i ≡ k n = ap k e in
    let both : (tally (put k i x) n + put k i x n) + k i ≡ (tally k n + k n) + x = omega arith in
    both)
    (λ ne.
    let before = tally_put k i x n (omega arith) in
    let last = put_other k i x n (λ h. ne (sym h)) in
    let both : (tally (put k i x) n + put k i x n) + k i ≡ (tally k n + k n) + x = omega arith in
    both)

-- the sum of doubled numbers is doubled
tally_twice : (k : ℕ → ℕ) (n : ℕ) → tally (λ j. k j + k j) n ≡ tally k n + tally k n
tally_twice k zero = refl
tally_twice k (suc n) =
    let before = tally_twice k n in
    let both : tally (λ j. k j + k j) n + (k n + k n) ≡ (tally k n + k n) + (tally k n + k n) = omega arith in
    both

-- A number of the sum is at most the sum.
tally_at : (k : ℕ → ℕ) (i n : ℕ) → i < n → k i ≤ tally k n
tally_at k i n lt = omega (arith, tally_put k i 0 n lt)

-- two numbers at different places are together at most the sum
tally_two : (k : ℕ → ℕ) (i j n : ℕ) → j ≢ i → i < n → j < n → k i + k j ≤ tally k n
tally_two k i j n ne below lt = omega (arith, tally_put k i 0 n below, tally_at (put k i 0) j n lt, put_other k i 0 j ne)

-- ---- numbers

-- The sum of two fractions a / b and c / d of a whole has the parts of both: k + l.
shared_parts : (a b c d whole k l : ℕ) → a * whole ≡ b * k → c * whole ≡ d * l → (a * d + c * b) * whole ≡ (b * d) * (k + l)
shared_parts a b c d whole k l h g =
    let h' : a * whole * d ≡ b * k * d = ap (λ z. z * d) h in
    let g' : c * whole * b ≡ d * l * b = ap (λ z. z * b) g in
    omega arith

-- Numbers whose products with a positive m are equal are equal.
pub same_factor : (m whole k : ℕ) → 0 < m → m * whole ≡ m * k → whole ≡ k
same_factor m whole k any e =
    dite (ℕ_discrete whole k) (λ same. same)
    (λ ne. dite (dec_lt whole k) (λ lt. absurd (less whole k lt e)) (λ not. absurd (less k whole (omega arith) (sym e))))
  where
    -- A positive multiple of the lower number is lower.
    less : (a b : ℕ) → a < b → m * a ≡ m * b → ⊥
    less a b lt same = let step : m * (a + 1) ≤ m * b = mul-le-mul_left m (omega arith) in absurd (omega arith)

-- A fraction that is 0 parts of a whole is 0.
none_of_it : (a whole m : ℕ) → 0 < whole → a * whole ≡ m * 0 → a ≡ 0
none_of_it zero whole m any e = refl
none_of_it (suc a) whole m any e = absurd (omega arith)

-- A product of positive numbers is positive.
pub positive : (a b : ℕ) → 0 < a → 0 < b → 0 < a * b
positive (suc a) b p q = omega arith
positive zero b p q = absurd (omega arith)

module _ {V : Type 0} where
  -- ---- views in lists

  -- The place of an element lies below the length of its list.
  pub at_below : (l : List V) (i : ℕ) (a : V) → get_elem? l i ≡ some a → i < length l
  at_below [] i a e = absurd (some-ne-none a (sym e))
  at_below (x ∷ xs) zero a e = omega arith
  at_below (x ∷ xs) (suc i) a e = omega (arith, at_below xs i a e)

  -- An element of a list with one more at its end stands in the list, or is the one at its end.
  at_snoc_end : (l : List V) (a b : V) (j : ℕ) → get_elem? (l ++ a ∷ []) j ≡ some b → (get_elem? l j ≡ some b) ⊎ ((j ≡ length l) × (a ≡ b))
  at_snoc_end [] a b zero e = inr (refl, some-injective a b e)
  at_snoc_end [] a b (suc j) e = absurd (some-ne-none b (sym e))
  at_snoc_end (x ∷ xs) a b zero e = inl e
  at_snoc_end (x ∷ xs) a b (suc j) e = ⊎_elim (λ h. inl h) (λ t. inr (omega (arith, t.0), t.1)) (at_snoc_end xs a b j e)

  -- what holds of each seat after the change of one
  pub every : (F : ℕ → V → Type 0) (views : List V) (id : ℕ) (w : V) → ((j : ℕ) (u : V) → j ≢ id → get_elem? views j ≡ some u → F j u) → F id w
      → (j : ℕ) (u : V) → get_elem? (set views id w) j ≡ some u → F j u
  every F views id w others mine j u e =
      ⊎_elim (λ (t : (j ≡ id) × (w ≡ u)). subst (λ (z : ℕ × V). F z.0 z.1) (λ i. (sym t.0 i, t.1 i)) mine)
      (λ (t : (j ≢ id) × (get_elem? views j ≡ some u)). others j u t.0 t.1) (at_set views id j w u e)

  -- what holds of the only seat holds of each seat
  pub alone : (F : ℕ → V → Type 0) (v : V) → F 0 v → (j : ℕ) (u : V) → get_elem? (v ∷ []) j ≡ some u → F j u
  alone F v mine zero u e = subst (F 0) (some-injective v u e) mine
  alone F v mine (suc j) u e = absurd (some-ne-none u (sym e))

module _ {V : Type 0} (share : V → Share) where
  -- ---- shares

  -- the share is k of the `whole` equal parts
  abbrev Fits : ℕ → ℕ → Share → Type 0
  Fits whole k s = (0 < s.parts) × (s.part * whole ≡ s.parts * k)

  -- the only seat has all shares
  pub shares_alone : (v : V) → share v ≡ all_shares → Shares share (v ∷ [])
  shares_alone v e =
      record {
        whole = 1;
        each = λ j. 1;
        any = omega arith;
        sum = refl;
        fits = alone (λ j u. Fits 1 1 (share u)) v (subst (Fits 1 1) (sym e) (omega arith, refl));
      }

  -- the shares of all seats still make the whole after a seat's view changes and its share does not
  pub shares_stay : (views : List V) (id : ℕ) (v w : V) → get_elem? views id ≡ some v → share w ≡ share v → Shares share views → Shares share (set views id w)
  shares_stay views id v w at same h =
      record {
        whole = h.whole;
        each = h.each;
        any = h.any;
        sum = ap (tally h.each) (length-set views id w) ∙ h.sum;
        fits =
            every (λ j u. Fits h.whole (h.each j) (share u)) views id w (λ j u ne e. h.fits j u e)
            (subst (Fits h.whole (h.each id)) (sym same) (h.fits id v at));
      }

  -- The shares of all seats still make the whole after a seat gives half of its share to a new seat:
  -- the whole is then cut into twice as many parts.
  pub shares_split : (views : List V) (id : ℕ) (v left right : V) → get_elem? views id ≡ some v
      → share left ≡ half_of (share v) → share right ≡ half_of (share v) → Shares share views
      → Shares share (set views id left ++ right ∷ [])
  shares_split views id v left right at e₀ e₁ h =
      let n : ℕ = length views in
      let k = h.each in
      let twice : ℕ → ℕ = λ j. k j + k j in
      let one : ℕ → ℕ = put twice id (k id) in
      let two : ℕ → ℕ = put one n (k id) in
      let below = at_below views id v at in
      let long : length (set views id left ++ right ∷ []) ≡ suc n = omega (arith, length-append (set views id left) (right ∷ []), length-set views id left) in
      let first = tally_same one two n (λ j lt. put_other one n (k id) j (λ e. absurd (omega arith))) in
      let second = tally_put twice id (k id) n below in
      let third = tally_twice k n in
      let last : two n ≡ k id = put_same one n (k id) in
      let sum : tally two n + two n ≡ h.whole + h.whole = omega (arith, h.sum) in
      -- the seat itself and each other seat, and then the new one
      let mine = h.fits id v at in
      record {
        whole = h.whole + h.whole;
        each = two;
        any = omega (arith, h.any);
        sum = ap (tally two) long ∙ sum;
        -- The cases are whether the seat was one before or is the new one; a seat before is the split
        -- one or another.
        fits = λ j u e. ⊎_elim
            (λ e'. every (λ j u. Fits (h.whole + h.whole) (two j) (share u)) views id left
            (λ j u ne at'.
            let theirs = h.fits j u at' in
            let low = at_below views j u at' in
            let is : two j ≡ k j + k j = put_other one n (k id) j (λ e. absurd (omega arith)) ∙ put_other twice id (k id) j ne in
            (theirs.0, same_twice (share u).part h.whole (share u).parts (k j) (two j) is theirs.1))
            (let is : two id ≡ k id = put_other one n (k id) id (λ e. absurd (omega arith)) ∙ put_same twice id (k id) in
            subst (Fits (h.whole + h.whole) (two id)) (sym e₀)
            (omega (arith, mine.0), same_half (share v).part h.whole (share v).parts (k id) (two id) is mine.1))
            j u e')
            (λ (t : (j ≡ length (set views id left)) × (right ≡ u)).
            let here : j ≡ n = t.0 ∙ length-set views id left in
            let is : two j ≡ k id = ap two here ∙ last in
            subst (λ z. Fits (h.whole + h.whole) (two j) (share z)) t.1
            (subst (Fits (h.whole + h.whole) (two j)) (sym e₁)
            (omega (arith, mine.0), same_half (share v).part h.whole (share v).parts (k id) (two j) is mine.1)))
            (at_snoc_end (set views id left) right u j e);
      }
    where
      -- A share that stays has twice as many parts of a whole that is cut into twice as many.
      same_twice : (a whole b k l : ℕ) → l ≡ k + k → a * whole ≡ b * k → a * (whole + whole) ≡ b * l
      same_twice a whole b k l is e = let both : a * (whole + whole) ≡ b * (k + k) = omega arith in both ∙ ap (λ z. b * z) (sym is)

      -- Half of a share has as many parts as before, of a whole that is cut into twice as many.
      same_half : (a whole b k l : ℕ) → l ≡ k → a * whole ≡ b * k → a * (whole + whole) ≡ (b + b) * l
      same_half a whole b k l is e = let both : a * (whole + whole) ≡ (b + b) * k = omega arith in both ∙ ap (λ z. (b + b) * z) (sym is)

  -- The shares of all seats still make the whole after a seat takes over the share of another, which
  -- has none then.
  pub shares_join : (views : List V) (id other : ℕ) (v w both spent : V) → get_elem? views id ≡ some v → other ≢ id → get_elem? views other ≡ some w
      → share both ≡ both_of (share v) (share w) → share spent ≡ no_share → Shares share views → Shares share (set (set views id both) other spent)
  shares_join views id other v w both spent at apart at' e₀ e₁ h =
      let n : ℕ = length views in
      let k = h.each in
      let one : ℕ → ℕ = put k id (k id + k other) in
      let two : ℕ → ℕ = put one other 0 in
      let below = at_below views id v at in
      let below' = at_below views other w at' in
      let long : length (set (set views id both) other spent) ≡ n = length-set (set views id both) other spent ∙ length-set views id both in
      let first = tally_put k id (k id + k other) n below in
      let second = tally_put one other 0 n below' in
      let third : one other ≡ k other = put_other k id (k id + k other) other apart in
      let sum : tally two n ≡ h.whole = omega (arith, h.sum) in
      -- the seat that takes the share over, each other seat, and then the spent one
      let mine = h.fits id v at in
      let theirs = h.fits other w at' in
      record {
        whole = h.whole;
        each = two;
        any = h.any;
        sum = ap (tally two) long ∙ sum;
        -- The cases are whether the seat is the spent one, the one that takes over, or another.
        fits = every (λ j u. Fits h.whole (two j) (share u)) (set views id both) other spent
            (λ j u ne e. every (λ j u. j ≢ other → Fits h.whole (two j) (share u)) views id both
            (λ j u ne e ne'.
            let is : two j ≡ k j = put_other one other 0 j ne' ∙ put_other k id (k id + k other) j ne in
            let fact = h.fits j u e in
            (fact.0, fact.1 ∙ ap (λ z. (share u).parts * z) (sym is)))
            (λ ne'.
            let is : two id ≡ k id + k other = put_other one other 0 id ne' ∙ put_same k id (k id + k other) in
            subst (Fits h.whole (two id)) (sym e₀) (
              positive (share v).parts (share w).parts mine.0 theirs.0,
              shared_parts (share v).part (share v).parts (share w).part (share w).parts h.whole (k id) (k other) mine.1 theirs.1
                  ∙ ap (λ z. (share v).parts * (share w).parts * z) (sym is),
            ))
            j u e ne)
            (subst (Fits h.whole (two other)) (sym e₁) (omega arith, (omega (arith, put_same one other 0))));
      }

  -- where one seat has all shares, no other seat has any
  pub others_none : (views : List V) (id : ℕ) (v : V) → get_elem? views id ≡ some v → Shares share views
      → IsAll (share v) → (j : ℕ) (u : V) → j ≢ id → get_elem? views j ≡ some u → (share u).part ≡ 0
  others_none views id v at h is j u ne e =
      let mine : h.whole ≡ h.each id = let fit = h.fits id v at in
      same_factor (share v).parts h.whole (h.each id) fit.0 (ap (λ z. z * h.whole) (sym is) ∙ fit.1) in
      let both = tally_two h.each id j (length views) ne (at_below views id v at) (at_below views j u e) in
      let all = h.sum in
      let none : h.each j ≡ 0 = omega arith in
      none_of_it (share u).part h.whole (share u).parts h.any ((h.fits j u e).1 ∙ ap (λ z. (share u).parts * z) none)
