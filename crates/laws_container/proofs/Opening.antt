-- The container as it opens keeps the invariant: nothing stands in it, no index is filled,
-- and nobody has died.
use Rattle.laws_container.proofs.Names.{◌≡◌, ℕ, zero, suc, ◌+◌, ◌*◌, ◌%◌, ◌^◌, ◌<◌, ◌≤◌, inl, None, List, []}
use Rattle.laws_container.proofs.Names.{length, replicate, get_or, slice_get, refl, sym, ap, ◌∙◌, length-append}
use Rattle.laws_container.proofs.Names.{arith, length-replicate, get_or-replicate, get_or-append-add, change_word}
use Rattle.laws_container.proofs.Names.{count_word, no_element, value_if, Element, empty, Coding, IsCoding, shows}
use Rattle.laws_container.proofs.Names.{opening_words, fresh, Each-nil, GoneBy, cell, opening_cell}
use Rattle.std.proofs.Math.ListN.{get_or-append}
use Rattle.model.specs.Families.Indices.Robust.Opening as set_opening
use Rattle.laws_robust.proofs.Invariant as set
use Rattle.laws_container.proofs.Core.{count_at, change_at}
use Rattle.laws_container.proofs.Invariant.{moment}
use Rattle.laws_container.proofs.StateInvariant.{Sight, Rests, number_in, number_at}
use Rattle.laws_container.proofs.Sound.{Opens}
use Rattle.laws_container.proofs.Terms.{Terms}
use Rattle.laws_container.proofs.Turns.{Now}
use Rattle.laws_robust.proofs.Opening.{unfilled_good}

-- ---- the words

-- `z` is the words of a value, and `c` the capacity
module _ (z c : ℕ) where
  abbrev first : List ℕ
  first = set_opening.opening_words c

  abbrev rest : ℕ
  rest = 1 + c + z * c

  -- the words of the opening begin with the counter and the cells
  first_long : length first ≡ c + 1
  first_long = let long = length-replicate {A = ℕ} c empty in omega arith

  rest_long : length (opening_words z c) ≡ length first + rest
  rest_long = grind (arith, length-append, length-replicate)

  -- each word behind the cells is 0
  behind : (n : ℕ) → n < rest → get_or (opening_words z c) (length first + n) 0 ≡ 0
  behind n below = get_or-append-add first (replicate rest 0) n 0 ∙ get_or-replicate rest n 0 0 below

  -- the number of each element is 0
  no_count : (i : ℕ) → i < c → count_at c (opening_words z c) i ≡ 0
  no_count i below =
      let long = first_long in
      let place : count_word c i ≡ length first + (1 + i) = omega arith in
      ap (λ n. get_or (opening_words z c) n 0) place ∙ behind (1 + i) (omega arith)

  -- the number of changes is 0
  no_change : change_at c (opening_words z c) ≡ 0
  no_change =
      let long = first_long in
      let place : change_word c ≡ length first + 0 = omega arith in
      ap (λ n. get_or (opening_words z c) n 0) place ∙ behind 0 (omega arith)

  -- each cell is empty
  no_owner : (i : ℕ) → i < c → cell (opening_words z c) i ≡ empty
  no_owner i below =
      let long = first_long in
      get_or-append first (replicate rest 0) 0 (1 + i) (omega arith) ∙ opening_cell c i below

  -- the words of the opening are those of a set in which no index is filled
  words_good : {T : Type 0} {by : GoneBy} → 1 ≤ c → c < 2 ^ 32 → set.Good {T = T} by c (opening_words z c) [] [] 0
  words_good some few =
      let long = first_long in
      let all_long = rest_long in
      unfilled_good some few (omega arith) refl no_owner

-- ---- a new state

-- in a new state the number at each index is 0
module _ {T : Type 0} (e : Element T) (zero_is : e.count ≡ 0) where
  number_same : (n i : ℕ) → number_in (slice_get (replicate n e) i) ≡ 0
  number_same zero i = refl
  number_same (suc n) zero = zero_is
  number_same (suc n) (suc i) = number_same n i

-- a new state shows no value
module _ {T : Type 0} (value : T) where
  pub shows_same : (n i : ℕ) → value_if (slice_get (replicate n (record { count = 0; value = value })) i) ≡ None
  shows_same zero i = refl
  shows_same (suc n) zero = refl
  shows_same (suc n) (suc i) = shows_same n i

-- the opening of a container of this coding and capacity
module _ {T : Type 0} (terms : Terms) (code : Coding T) (c : ℕ) (coded : IsCoding code) (some : 1 ≤ c) (few : c < 2 ^ 32) where
  abbrev m : Now T
  m = moment terms (opening_words code.size c) [] []

  -- in a new state the number at each index is 0
  number_is : (i : ℕ) → number_at (fresh code c) i ≡ 0
  number_is i = number_same (no_element code.value_of code.size) refl c i

  -- a new state shows no value at any index
  shows_is : (i : ℕ) → shows (fresh code c) i ≡ None
  shows_is i = shows_same _ c i

  -- what a new state shows is what the opening has
  sight : (q : ℕ) → Sight code c m q (fresh code c) c c
  sight = grind (arith, length-replicate, number_is, shows_is, inl, no_count)

  -- a new state is at rest, for each party
  rests : (q : ℕ) → Rests code c m q (fresh code c)
  rests q =
      record {
        sight = sight q;
        known = length-replicate {A = ℕ} c 0;
        seen = refl;
        counts = λ i below. get_or-replicate c i 0 0 below ∙ sym (number_is i);
        room = length-replicate {A = ℕ} 128 0;
      }

  -- the opening shows all that `Opens` asks
  pub opens : Opens terms code c
  opens =
      let long = first_long code.size c in
      let all_long = rest_long code.size c in
      record {
        good = words_good code.size c some few;
        elements =
            record {
              coded = coded;
              wide = omega arith;
              counts = λ kept i below. let none = no_count code.size c i below in omega arith;
              change = λ kept. let none = no_change code.size c in omega arith;
              within = λ i value e. absurd (cc);
              announced = λ well_formed i e. absurd (cc);
              whole = λ well_formed i below. ap (λ n. n % 2) (no_count code.size c i below);
              asks = Each-nil _;
              recovers = Each-nil _;
              answers = Each-nil _;
              contains = λ well_formed. Each-nil _;
              places = λ well_formed. Each-nil _;
              rests = λ q s idle found. absurd (cc);
              fresh = rests;
            };
      }
