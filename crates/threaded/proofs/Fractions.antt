-- Laws of joined shares for clients: shares as parts of one whole, for any number of passes.
use Rattle.std.proofs.Common.{◌≡◌, ℕ, zero, suc, ◌+◌, ◌*◌, ◌<◌, List, [], ◌∷◌, ap, subst, ◌∙◌, arith}
use Rattle.std.specs.List.{fold, sum}
use Rattle.threaded.specs.declared.share.Share.{Share}
use Rattle.threaded.specs.Shares.{half_of, both_of, IsAll, rest, pieces, added}
use Rattle.threaded.specs.Parts.{IsPart, AreParts}
use Rattle.threaded.proofs.Shares.{positive, same_factor}

-- whoever is all of it is n of n
pub all_is_part : (n : ℕ) (s : Share) → 0 < s.parts → IsAll s → IsPart n n s
all_is_part n s any is = (any, ap (λ z. z * n) is)

-- half of k parts of a whole is k parts of a whole cut into twice as many
pub half_is_part : (k whole : ℕ) (s : Share) → IsPart k whole s → IsPart k (whole + whole) (half_of s)
half_is_part k whole s is_part = (omega (arith, is_part.0), go s.part s.parts is_part.1)
  where
    -- what is claimed of the shares, for their numbers of parts
    go : (a b : ℕ) → a * whole ≡ b * k → a * (whole + whole) ≡ (b + b) * k
    go a b e = omega arith

-- the parts of two shares add up
pub both_is_part : (k l whole : ℕ) (s t : Share) → IsPart k whole s → IsPart l whole t → IsPart (k + l) whole (both_of s t)
both_is_part k l whole s t first_part second_part =
    (positive s.parts t.parts first_part.0 second_part.0, go s.part s.parts t.part t.parts first_part.1 second_part.1)
  where
    -- what is claimed of the shares, for their numbers of parts
    go : (a b c d : ℕ) → a * whole ≡ b * k → c * whole ≡ d * l → (a * d + c * b) * whole ≡ (b * d) * (k + l)
    go a b c d e e' =
        let h' : a * whole * d ≡ b * k * d = ap (λ z. z * d) e in
        let g' : c * whole * b ≡ d * l * b = ap (λ z. z * b) e' in
        omega arith

-- who has all parts has all of it
pub part_is_all : (whole : ℕ) (s : Share) → 0 < whole → IsPart whole whole s → IsAll s
part_is_all whole s any is_part = same_factor whole s.part s.parts any (go s.part s.parts is_part.1)
  where
    -- what is claimed of the shares, for their numbers of parts
    go : (a b : ℕ) → a * whole ≡ b * whole → whole * a ≡ whole * b
    go a b e = omega arith

-- 2 k parts of a whole that is cut into twice as many are k parts of the whole.
pub fewer_parts : (k whole : ℕ) (s : Share) → IsPart (k + k) (whole + whole) s → IsPart k whole s
fewer_parts k whole s is_part = (is_part.0, go s.part s.parts is_part.1)
  where
    -- what is claimed of the shares, for their numbers of parts
    go : (a b : ℕ) → a * (whole + whole) ≡ b * (k + k) → a * whole ≡ b * k
    go a b e = omega arith

-- a share that any number of shares were split off from is all of it once they are joined to it
pub any_number : (n : ℕ) (s : Share) → 0 < s.parts → IsAll s → IsAll (added (rest n s) (pieces n s))
any_number n s any is = go n (rest n s) (rest_is n)
  where
    -- 2 to the n, as the number of parts after n splits.
    power : ℕ → ℕ
    power zero = 1
    power (suc n) = power n + power n

    -- After n splits the share that is left is one of 2^n parts.
    rest_is : (n : ℕ) → IsPart 1 (power n) (rest n s)
    rest_is zero = all_is_part 1 s any is
    rest_is (suc n) = half_is_part 1 (power n) (rest n s) (rest_is n)

    -- after n splits the share that is left takes back what was split off, the last first
    go : (n : ℕ) (r : Share) → IsPart 1 (power n) r → IsAll (added r (pieces n s))
    go zero r part = part_is_all 1 r (omega arith) part
    go (suc n) r part =
        go n (both_of r (rest (suc n) s))
        (fewer_parts 1 (power n) (both_of r (rest (suc n) s)) (both_is_part 1 1 (power (suc n)) r (rest (suc n) s) part (rest_is (suc n))))

-- shares that have all the parts, joined in any order, are all of it
pub added_parts : (whole k : ℕ) (s : Share) (ks : List ℕ) (ts : List Share) → IsPart k whole s
    → AreParts whole ks ts → IsPart (fold (λ a x. a + x) k ks) whole (added s ts)
added_parts whole k s [] [] part parts = part
added_parts whole k s [] (t ∷ ts) part parts = absurd parts
added_parts whole k s (l ∷ ks) [] part parts = absurd parts
added_parts whole k s (l ∷ ks) (t ∷ ts) part parts = added_parts whole (k + l) (both_of s t) ks ts (both_is_part k l whole s t part parts.0) parts.1

-- shares whose parts sum up to the whole are all of it, in whatever order they are joined
pub any_order : (whole : ℕ) (ks : List ℕ) (s : Share) (ts : List Share) → 0 < whole → AreParts whole ks (s ∷ ts) → sum ks ≡ whole → IsAll (added s ts)
any_order whole [] s ts any parts all = absurd parts
any_order whole (k ∷ ks) s ts any parts all =
    part_is_all whole (added s ts) any
    (subst (λ n. IsPart n whole (added s ts))
    (ap (λ n. fold (λ a x. a + x) n ks) (let e : k ≡ 0 + k = omega arith in e) ∙ all)
    (added_parts whole k s ks ts parts.0 parts.1))
