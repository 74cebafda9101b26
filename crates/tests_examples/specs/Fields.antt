-- How the fields of a value lie in words. `bin/words` writes this file, and impls that cite it.
use native.Mathlib.Nat.{ℕ_set}
use Rattle.std.specs.Prelude.{◌≡◌, ◌==◌, ◌+◌, ◌-◌, ◌*◌, ◌/◌, ◌%◌, ◌^◌, ◌≤◌, ℕ, Bool, true, false, List, ◌++◌, refl}
use Rattle.std.specs.Prelude.{min, length, take, drop, replicate, slice_range, nat_lt, if◌then◌else◌}
use Rattle.std.proofs.Common.{◌∙◌, ap, sym, subst, arith}
use Rattle.std.proofs.Math.Bridge.{le_prop}
use Rattle.std.proofs.Math.Nat.{min-le_right, min-eq_left}
use Rattle.std.proofs.lemmas.Bool.Decides.{nat_tests}
use Rattle.std.proofs.lemmas.List.{drop-drop, drop_at, length-append, length-drop}
use Rattle.std.proofs.lemmas.List.{length-replicate, length-take-le, take-append-le, take_at}

-- A number below `limit` lies in one word. A number that is not below it is given one that is no word, so that the laws
-- need no premise.
abbrev pub word_of : ℕ → ℕ → ℕ
word_of limit x = if nat_lt x limit then x else x + 2 ^ 64

abbrev pub number_of : ℕ → ℕ → ℕ
number_of limit word = if nat_lt word (2 ^ 64) then word % limit else word - 2 ^ 64

pub back_u8 : (x : ℕ) → number_of (2 ^ 8) (word_of (2 ^ 8) x) ≡ x
back_u8 x = grind (arith, nat_tests)

pub back_u16 : (x : ℕ) → number_of (2 ^ 16) (word_of (2 ^ 16) x) ≡ x
back_u16 x = grind (arith, nat_tests)

pub back_u32 : (x : ℕ) → number_of (2 ^ 32) (word_of (2 ^ 32) x) ≡ x
back_u32 x = grind (arith, nat_tests)

pub back_u128 : (x : ℕ) → x / 2 ^ 64 * 2 ^ 64 + x % 2 ^ 64 ≡ x
back_u128 x = omega arith

abbrev pub word_of_bool : Bool → ℕ
word_of_bool b = if b then 1 else 0

pub back_bool : (b : Bool) → (word_of_bool b == 1) ≡ b
back_bool true = refl
back_bool false = refl

-- what is made of a number that is at most `most`
pub back_bounded : {A : Type 0} (most : ℕ) (make : (n : ℕ) → n ≤ most → A) (x : ℕ) (q : x ≤ most)
    → make (min x most) (min-le_right x most) ≡ make x q
back_bounded most make x q =
    subst (λ z. (r : z ≤ most) → make (min x most) (min-le_right x most) ≡ make z r) (min-eq_left q)
    (λ r. ap (make (min x most)) (le_prop (min-le_right x most) r)) q

-- `n` words from `k` on, with 0 in the place of each that is missing
pub block : ℕ → ℕ → List ℕ → List ℕ
block k n words = take n (drop k words ++ replicate n 0)

pub length_block : (k n : ℕ) (words : List ℕ) → length (block k n words) ≡ n
unfolding block
length_block k n words =
    let joined = length-append (drop k words) (replicate n 0) in
    let zeros : length (replicate {A = ℕ} n 0) ≡ n = length-replicate {A = ℕ} n 0 in
    length-take-le n (drop k words ++ replicate n 0) (omega arith)

-- the words of a slice that has them all
pub block_of_slice : (k n : ℕ) (words : List ℕ) → k + n ≤ length words → block k n words ≡ slice_range words k (k + n)
unfolding block
block_of_slice k n words h =
    let left = length-drop k words in
    let long : n ≤ length (drop k words) = omega arith in
    let same : n ≡ k + n - k = omega arith in
    take-append-le n (drop k words) (replicate n 0) long ∙ ap (λ m. take m (drop k words)) same

-- a block that is all words, and one that comes after `m` of them
pub block_whole : (xs : List ℕ) (n : ℕ) → length xs ≡ n → block 0 n xs ≡ xs
unfolding block
block_whole xs n h = take_at xs (replicate n 0) n h

pub block_later : (xs rest : List ℕ) (m k n : ℕ) → length xs ≡ m → block (m + k) n (xs ++ rest) ≡ block k n rest
unfolding block
block_later xs rest m k n h =
    ap (λ l. take n (l ++ replicate n 0)) (sym (drop-drop k m (xs ++ rest)) ∙ ap (drop k) (drop_at xs rest m h))

-- what is made of an array
pub back_block : {A : Type 0} (n : ℕ) (make : (v : List ℕ) → length v ≡ n → A) {u v : List ℕ} → u ≡ v
    → (p : length u ≡ n) (q : length v ≡ n) → make u p ≡ make v q
back_block n make {u} e p q =
    subst (λ z. (r : length z ≡ n) → make u p ≡ make z r) e (λ r. ap (make u) (ℕ_set (length u) n p r)) q
