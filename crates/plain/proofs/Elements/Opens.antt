-- The words of a container that opens: an empty robust set, and then zeros.
use Rattle.std.proofs.Common.{◌≡◌, ℕ, zero, suc, ◌+◌, ◌-◌, ◌≤◌, List, [], ◌∷◌, ◌++◌, length, take, map, replicate}
use Rattle.std.proofs.Common.{refl, ap, ◌∙◌, arith, slice_index, slice_set, length-set, take_all, Result}
use Rattle.std.proofs.Common.{is_ok, is_err, false, true≢false, if◌then◌else◌}
use Rattle.plain.proofs.Names.{range_with_len, length-replicate}
use Rattle.steps.specs.Indices.Robust.Parts.{empty}
use Rattle.steps.specs.Objects.Owners.{opened_at}
use Rattle.plain_queues.specs.Queues.{words_from}
use Rattle.plain.specs.Contents.{opened, value_at, contents_in}
use Rattle.plain.proofs.Robust.Looks.{opens}

-- the first words of two joined lists, as many as the first has, are the first list
take_front : (xs ys : List ℕ) (n : ℕ) → length xs ≡ n → take n (xs ++ ys) ≡ xs
take_front [] ys zero long = refl
take_front [] ys (suc n) long = absurd (omega arith)
take_front (x ∷ xs) ys zero long = absurd (omega arith)
take_front (x ∷ xs) ys (suc n) long = ap (λ zs. x ∷ zs) (take_front xs ys n (omega arith))

-- a list of zeros has a zero at each place
zero_in : (n i : ℕ) → slice_index (replicate n 0) i ≡ 0
zero_in zero i = refl
zero_in (suc n) zero = refl
zero_in (suc n) (suc i) = zero_in n i

-- behind a list that zeros follow there are zeros
behind_zero : (xs : List ℕ) (n i : ℕ) → length xs ≤ i → slice_index (xs ++ replicate n 0) i ≡ 0
behind_zero [] n i far = zero_in n i
behind_zero (x ∷ xs) n zero far = absurd (omega arith)
behind_zero (x ∷ xs) n (suc i) far = behind_zero xs n i (omega arith)

-- a map that gives x at each number gives a list of x
same_there : {X : Type 0} (x : X) (f : ℕ → X) (n a : ℕ) → ((i : ℕ) → f i ≡ x)
    → map f (range_with_len a n) ≡ replicate n x
same_there x f zero a same = refl
same_there x f (suc n) a same =
    let head = same a in let tail = same_there x f n (a + 1) same in λ i. head i ∷ tail i

module _ {V : Type 0} (value_of : List ℕ → V) (size capacity container : ℕ)
    (set more : List ℕ) (number : ℕ)
    (set_is : set ≡ replicate (1 + capacity) empty) (more_is : more ≡ slice_set set 0 0 ++ replicate number 0) where
  -- the words of the set, with generation 0
  abbrev front : List ℕ
  front = slice_set set 0 0

  -- the words of the set are a counter and a cell for each index
  front_long : length front ≡ 1 + capacity
  front_long = length-set set 0 0 ∙ (ap length set_is ∙ length-replicate (1 + capacity) empty)

  -- the words behind those of the set are 0
  zeros : (i : ℕ) → 1 + capacity ≤ i → slice_index more i ≡ 0
  zeros = grind (arith, front_long, behind_zero)

  -- these are the words of a container that opens
  pub opens_so : contents_in value_of size capacity container more ≡ opened capacity container
  opens_so = grind (arith, take, opened_at, take_front, front_long, opens, same_there, value_at, words_from, zeros)

-- a vector that was grown with zeros, and was not refused memory, has zeros behind its old words
grown : {A B : Type 0} (r : Result A B) (old new : List ℕ) (n m : ℕ)
    → new ≡ (if is_ok r then take n old ++ replicate (n - m) 0 else old) → is_err r ≡ false
    → length old ≤ n → new ≡ old ++ replicate (n - m) 0
grown = grind (arith, take_all, true≢false)

-- a vector of a set's words that was grown with zeros has the words of a container that opens
pub opens_grown : {V A B : Type 0} (value_of : List ℕ → V) (size capacity container : ℕ)
    → (r : Result A B) (set more : List ℕ) (n m : ℕ) → set ≡ replicate (1 + capacity) empty
    → more ≡ (if is_ok r then take n (slice_set set 0 0) ++ replicate (n - m) 0 else slice_set set 0 0)
    → is_err r ≡ false → 1 + capacity ≤ n
    → contents_in value_of size capacity container more ≡ opened capacity container
opens_grown value_of size capacity container r set more n m set_is more_is fine long =
    let l : length (slice_set set 0 0) ≡ 1 + capacity =
    length-set set 0 0 ∙ (ap length set_is ∙ length-replicate (1 + capacity) empty) in
    opens_so value_of size capacity container set more (n - m) set_is
    (grown r (slice_set set 0 0) more n m more_is fine (omega arith))
