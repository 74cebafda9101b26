-- How facts about lists and lanes go on from one lane to the next in loops over all
-- lanes (`DoneTo`, `done_more`).
use Rattle.std.proofs.Common.{◌≡◌, ◌≢◌, ◌⊎◌, ℕ, zero, suc, ◌+◌, ◌<◌, ◌≤◌, Bool, false, cond, Some, List, [], ◌∷◌}
use Rattle.std.proofs.Common.{◌++◌, length, map, take, set, get_or, refl, ap, sym, ◌∙◌, subst, inl, inr, ⊎_elim}
use Rattle.std.proofs.Common.{arith}
use Rattle.std.proofs.lemmas.Bool.{cases_eq}
use Rattle.std.proofs.lemmas.List.Sums.{sum_by-cons, sum_by_more}
use Rattle.std.specs.List.{count_by}
use Rattle.std.specs.Prelude.{slice_get}
use Rattle.zero_copy_bus.specs.declared.holders.Holder.{Holder}
use Rattle.zero_copy_bus.specs.declared.holders.Holders.{Holders}
use Rattle.zero_copy_bus.specs.declared.outlet.Outlet.{Outlet}
use Rattle.zero_copy_bus.specs.Books.{KeepsBit, KeepsLoans, KeepsOthers, KeepsSlots}
use Rattle.zero_copy_bus.specs.Holders.{bit_of}
use Rattle.zero_copy_bus.specs.Outlets.{holder_of, holders_in, is_open, open_in, EachLane, HaveTheirPlaces, NobodyTakesPart}

module _ {X : Type 0} where
  pub get_same : (xs : List X) (n : ℕ) (y : X) → n < length xs → slice_get (set xs n y) n ≡ Some y
  get_same [] n y lt = absurd (omega arith)
  get_same (x ∷ xs) zero y lt = refl
  get_same (x ∷ xs) (suc n) y lt = get_same xs n y (omega arith)

  -- what stands at any other place stays
  pub get_other : (xs : List X) (n k : ℕ) (y : X) → k ≢ n → slice_get (set xs n y) k ≡ slice_get xs k
  get_other [] n k y ne = refl
  get_other (x ∷ xs) zero zero y ne = absurd (ne refl)
  get_other (x ∷ xs) zero (suc k) y ne = refl
  get_other (x ∷ xs) (suc n) zero y ne = refl
  get_other (x ∷ xs) (suc n) (suc k) y ne = get_other xs n k y (λ e. ne (ap suc e))

  pub get_is : (xs : List X) (n : ℕ) (x : X) → n < length xs → x ≡ get_or xs n x → slice_get xs n ≡ Some x
  get_is [] n x lt e = absurd (omega arith)
  get_is (y ∷ xs) zero x lt e = ap Some (sym e)
  get_is (y ∷ xs) (suc n) x lt e = get_is xs n x (omega arith) e

  pub got_within : (xs : List X) (n : ℕ) (x : X) → slice_get xs n ≡ Some x → n < length xs
  got_within [] n x e = cc
  got_within (y ∷ xs) zero x e = omega arith
  got_within (y ∷ xs) (suc n) x e = let lt = got_within xs n x e in omega arith

  -- where two tests agree on the first ones of a list, they count as many of them
  pub count_take_same : (p q : X → Bool) (xs : List X) (n : ℕ)
      → ((k : ℕ) (x : X) → k < n → slice_get xs k ≡ Some x → p x ≡ q x)
      → count_by p (take n xs) ≡ count_by q (take n xs)
  count_take_same p q xs zero same = refl
  count_take_same p q [] (suc n) same = refl
  count_take_same p q (x ∷ xs) (suc n) same =
      let here : p x ≡ q x = same 0 x (omega arith) refl in
      let rest : count_by p (take n xs) ≡ count_by q (take n xs) = count_take_same p q xs n (λ k y lt is. same (suc k) y (omega arith) is) in
      sum_by-cons (λ y. cond (p y) 1 0) x (take n xs)
      ∙ (ap (λ b. cond b 1 0 + count_by p (take n xs)) here
      ∙ (ap (λ m. cond (q x) 1 0 + m) rest ∙ sym (sum_by-cons (λ y. cond (q y) 1 0) x (take n xs))))

  -- where two tests agree on a list, they count as many of it
  pub count_same : (p q : X → Bool) (xs : List X) → ((k : ℕ) (x : X) → slice_get xs k ≡ Some x → p x ≡ q x) → count_by p xs ≡ count_by q xs
  count_same p q [] same = refl
  count_same p q (x ∷ xs) same =
      let here : p x ≡ q x = same 0 x refl in
      let rest : count_by p xs ≡ count_by q xs = count_same p q xs (λ k y is. same (suc k) y is) in
      sum_by-cons (λ y. cond (p y) 1 0) x xs
      ∙ (ap (λ b. cond b 1 0 + count_by p xs) here ∙ (ap (λ m. cond (q x) 1 0 + m) rest ∙ sym (sum_by-cons (λ y. cond (q y) 1 0) x xs)))

  pub got_or : (xs : List X) (n : ℕ) (x d : X) → slice_get xs n ≡ Some x → get_or xs n d ≡ x
  got_or [] n x d e = cc
  got_or (y ∷ xs) zero x d e = cc
  got_or (y ∷ xs) (suc n) x d e = got_or xs n x d e

  -- the count up to a place goes on to the next place, for a test that agrees with the former
  -- one before that place
  pub count_more : (p q : X → Bool) (xs : List X) (n number : ℕ) (x : X) (b : Bool)
      → ((k : ℕ) (x : X) → k < n → slice_get xs k ≡ Some x → p x ≡ q x) → slice_get xs n ≡ Some x
      → number ≡ count_by p (take n xs) → q x ≡ b → number + cond b 1 0 ≡ count_by q (take (n + 1) xs)
  count_more p q xs n number x b same is count here =
      let step : count_by q (take (n + 1) xs) ≡ count_by q (take n xs) + cond (q (get_or xs n x)) 1 0 =
      sum_by_more (λ y. cond (q y) 1 0) xs n x (got_within xs n x is) in
      let at : get_or xs n x ≡ x = got_or xs n x x is in
      let before : count_by p (take n xs) ≡ count_by q (take n xs) = count_take_same p q xs n same in
      ap (λ m. m + cond b 1 0) (count ∙ before) ∙ (ap (λ c. count_by q (take n xs) + cond c 1 0) (sym here ∙ ap q (sym at)) ∙ sym step)

  module _ {Y : Type 0} (f : X → Y) where
    pub get_map : (xs : List X) (k : ℕ) (x : X) → slice_get xs k ≡ Some x → slice_get (map f xs) k ≡ Some (f x)
    get_map [] k x e = cc
    get_map (y ∷ xs) zero x e = let same : y ≡ x = cc in ap (λ z. Some (f z)) same
    get_map (y ∷ xs) (suc k) x e = get_map xs k x e

    -- what stands in a list of images is the image of what stands there
    pub map_got : (xs : List X) (k : ℕ) (y : Y) → slice_get (map f xs) k ≡ Some y → (x : X) × (slice_get xs k ≡ Some x) × (f x ≡ y)
    map_got [] k y e = cc
    map_got (x ∷ xs) zero y e = (x, refl, (let same : f x ≡ y = cc in same))
    map_got (x ∷ xs) (suc k) y e = map_got xs k y e

    pub map_set : (xs : List X) (n : ℕ) (x y : X) → slice_get xs n ≡ Some x → f y ≡ f x → map f (set xs n y) ≡ map f xs
    map_set [] n x y is e = refl
    map_set (z ∷ xs) zero x y is e = let same : z ≡ x = cc in ap (λ w. w ∷ map f xs) (e ∙ sym (ap f same))
    map_set (z ∷ xs) (suc n) x y is e = ap (λ w. f z ∷ w) (map_set xs n x y is e)

    -- what stands in a list with one more stood there before, or is that one, at the end
    pub got_pushed : (xs : List X) (x : X) (k : ℕ) (y : Y) → slice_get (map f (xs ++ x ∷ [])) k ≡ Some y
        → (slice_get (map f xs) k ≡ Some y) ⊎ ((k ≡ length xs) × (f x ≡ y))
    got_pushed [] x zero y e = inr (refl, (let same : f x ≡ y = cc in same))
    got_pushed [] x (suc k) y e = cc
    got_pushed (z ∷ xs) x zero y e = inl e
    got_pushed (z ∷ xs) x (suc k) y e = ⊎_elim (λ is. inl is) (λ at. inr ((let it : k ≡ length xs = at.0 in omega arith), at.1)) (got_pushed xs x k y e)

-- a lane in which nobody takes part is appended at its place
module _ (lanes : List Outlet) (lane : Outlet) where
  pub placed_more : HaveTheirPlaces (holders_in lanes) → bit_of (holder_of lane) ≡ length lanes + 1 → HaveTheirPlaces (holders_in (lanes ++ lane ∷ []))
  placed_more placed next_bit place holder got = grind (arith, length, bit_of, holder_of, got_pushed)

  pub closed_more : NobodyTakesPart (open_in lanes) → is_open lane ≡ false → NobodyTakesPart (open_in (lanes ++ lane ∷ []))
  closed_more closed shut place got = grind (arith, got_pushed, is_open)

-- the lane at a place has its bit
pub placed_at : (lanes : List Outlet) (place : ℕ) (lane : Outlet) → HaveTheirPlaces (holders_in lanes)
    → slice_get lanes place ≡ Some lane → bit_of (holder_of lane) ≡ place + 1
placed_at lanes place lane placed is = placed place (holder_of lane) (get_map holder_of lanes place lane is)

-- if all lanes have the same holders before and after, so has this lane
pub same_holder : (news olds : List Outlet) (place : ℕ) (new old : Outlet) → holders_in news ≡ holders_in olds
    → slice_get news place ≡ Some new
    → slice_get olds place ≡ Some old
    → holder_of new ≡ holder_of old
same_holder news olds place new old same got was =
    let one : slice_get (holders_in news) place ≡ Some (holder_of new) = get_map holder_of news place new got in
    let two : slice_get (holders_in olds) place ≡ Some (holder_of old) = get_map holder_of olds place old was in
    let both : slice_get (holders_in news) place ≡ slice_get (holders_in olds) place = ap (λ hs. slice_get hs place) same in
    cc

-- A loop over the lanes has come to place n: `R` holds of each lane below, and the lanes
-- from n on are unchanged.
pub record DoneTo (R : Outlet → Outlet → Type 0) (n : ℕ) (olds news : List Outlet) : Type 0 where
  pub done : (k : ℕ) (old : Outlet) → k < n → slice_get olds k ≡ Some old
      → (new : Outlet) × (slice_get news k ≡ Some new) × R old new
  pub rest : (k : ℕ) → n ≤ k → slice_get news k ≡ slice_get olds k

-- a loop that has come past the last lane is done with each
pub done_all : (R : Outlet → Outlet → Type 0) (n : ℕ) (olds news : List Outlet) → length olds ≤ n → DoneTo R n olds news → EachLane R olds news
done_all R n olds news long done place old is = let lt = got_within olds place old is in done.done place old (omega arith) is

-- what holds of each lane holds in any weaker form
pub each_more : (R S : Outlet → Outlet → Type 0) (olds news : List Outlet)
    → ((k : ℕ) (old new : Outlet) → slice_get olds k ≡ Some old → R old new → S old new) → EachLane R olds news
    → EachLane S olds news
each_more R S olds news more each place old is = let it = each place old is in (it.0, it.1, more place old it.0 is it.2)

-- the holders of bits above n hold the same slots in both tables
abbrev pub KeepsAbove : ℕ → List Holders → List Holders → Type 0
KeepsAbove n old new = (i : ℕ) → n < i → i < 64 → KeepsBit i old new

-- a change for the holder of bit n + 1 leaves the bits above that
pub above_more : (n : ℕ) (holder : Holder) (one two three : List Holders) → bit_of holder ≡ n + 1
    → KeepsAbove n one two → KeepsOthers holder two three → KeepsAbove (n + 1) one three
above_more n holder one two three next_bit above others i over low slot = grind arith

-- `R` relates a lane and the table before and after. It stays true if the table changes later (`still`) or
-- changed before (`from`) for other holders only.
module _ (R : List Holders → List Holders → Outlet → Outlet → Type 0)
    (still : (one two three : List Holders) (old new : Outlet) → KeepsSlots (holder_of old) two three → R one two old new → R one three old new)
    (from : (one two three : List Holders) (old new : Outlet) → KeepsSlots (holder_of old) one two
    → KeepsLoans one two → R two three old new → R one three old new) where
  -- what one lane more does goes along with what the lanes before it have done
  pub done_more : (one two three : List Holders) (n : ℕ) (olds news : List Outlet) (was now : Outlet)
      → HaveTheirPlaces (holders_in olds) → DoneTo (R one two) n olds news → KeepsAbove n one two → KeepsLoans one two
      → slice_get news n ≡ Some was → R two three was now → KeepsOthers (holder_of was) two three
      → DoneTo (R one three) (n + 1) olds (set news n now)
  done_more one two three n olds news was now placed done above loans is step others =
      record { done = all; rest = λ k le. get_other news n k now (λ e. absurd (omega arith)) ∙ done.rest k (omega arith) }
    where
      was_old : slice_get olds n ≡ Some was
      was_old = sym (done.rest n (omega arith)) ∙ is

      bit : bit_of (holder_of was) ≡ n + 1
      bit = placed_at olds n was placed was_old

      -- lane n itself: the former steps left its subscriber's slots
      here : (k : ℕ) (old : Outlet) → k ≡ n → slice_get olds k ≡ Some old → (new : Outlet) × (slice_get (set news n now) k ≡ Some new) × R one three old new
      here k old e got =
          let there : slice_get (set news n now) n ≡ Some now = get_same news n now (got_within news n was is) in
          let old_is : slice_get olds n ≡ Some old = subst (λ j. slice_get olds j ≡ Some old) e got in
          let was_is : slice_get olds n ≡ Some was = was_old in
          let its : bit_of (holder_of was) ≡ n + 1 = bit in
          let same : was ≡ old = cc in
          let kept : KeepsSlots (holder_of was) one two = λ slot. above (bit_of (holder_of was)) (omega arith) was.holder.within slot in (
            now,
            subst (λ j. slice_get (set news n now) j ≡ Some now) (sym e) there,
            subst (λ o. R one three o now) same (from one two three was now kept loans step),
          )

      -- a lane before it: this step leaves its subscriber's slots
      below : (k : ℕ) (old : Outlet) → k < n → slice_get olds k ≡ Some old → (new : Outlet) × (slice_get (set news n now) k ≡ Some new) × R one three old new
      below k old lt got =
          let it = done.done k old lt got in
          let own : bit_of (holder_of old) ≡ k + 1 = placed_at olds k old placed got in
          let its : bit_of (holder_of was) ≡ n + 1 = bit in
          let kept : KeepsSlots (holder_of old) two three = λ slot. others slot (bit_of (holder_of old)) old.holder.within (λ e. absurd (omega arith)) in
          (it.0, get_other news n k now (λ e. absurd (omega arith)) ∙ it.1, still one two three old it.0 kept it.2)

      all : (k : ℕ) (old : Outlet) → k < n + 1 → slice_get olds k ≡ Some old → (new : Outlet) × (slice_get (set news n now) k ≡ Some new) × R one three old new
      all k old lt got = ⊎_elim (λ e. here k old e got) (λ ne. below k old (omega arith) got) (cases_eq k n)
