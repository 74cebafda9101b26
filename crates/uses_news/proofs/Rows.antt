-- What stands for news and what does not, worked out.
use Rattle.std.proofs.Common.{◌≡◌, lit<, lit≤, ℕ, ◌+◌, ◌<◌, ◌≤◌, None, List, [], ◌∷◌, length, map, refl, ap, ◌∙◌, arith}
use Rattle.std.proofs.lemmas.List.{length-map}
use Rattle.std.proofs.lemmas.List.Elements.{All-nil, All-cons, All-head}
use Rattle.std.specs.List.{All}
use Rattle.std.specs.Prelude.{slice_get}
use Rattle.zero_copy_bus.specs.declared.publisher.Publisher.{Publisher}
use Rattle.zero_copy_bus.specs.Ends.{lanes_of, next_of}
use Rattle.zero_copy_bus.specs.Sequences.{AreAll, Rises}
use Rattle.zero_copy_slots.specs.declared.Keeps.{Ghosts}
use Rattle.uses_news.specs.Marks.{mark, AreNewsBy, AreNewsFrom}

-- the blocks 2, 3 and 5 were read
row : AreNewsFrom 2 (7 ∷ 10 ∷ 16 ∷ [])
row =
    record {
      numbers = 2 ∷ 3 ∷ 5 ∷ [];
      next = 6;
      are = refl;
      rise = (lit≤ tt, (lit≤ tt, (lit≤ tt, refl)));
      few =
          All-cons (λ n. n < 100) 2 (3 ∷ 5 ∷ []) (lit< tt)
          (All-cons (λ n. n < 100) 3 (5 ∷ []) (lit< tt) (All-cons (λ n. n < 100) 5 [] (lit< tt) (All-nil (λ n. n < 100))));
    }

none_read : AreNewsFrom 9 []
none_read = record { numbers = []; next = 9; are = refl; rise = refl; few = All-nil (λ n. n < 100) }

-- the number of a first mark, and of a second one
first_of : (first m : ℕ) (ms numbers : List ℕ) (next : ℕ) → m ∷ ms ≡ map mark numbers → Rises first numbers next → All (λ n. n < 100) numbers
    → (n : ℕ) × (m ≡ mark n) × (first ≤ n) × (n < 100)
first_of first m ms [] next are rise few = cc
first_of first m ms (n ∷ ns) next are rise few = (n, (let same : m ≡ mark n = cc in same), rise.0, All-head (λ k. k < 100) n ns few)

-- of two marks the second is of a later number
second_of : (first m o : ℕ) (numbers : List ℕ) (next : ℕ) → m ∷ o ∷ [] ≡ map mark numbers → Rises first numbers next
    → (n k : ℕ) × (m ≡ mark n) × (o ≡ mark k) × (n + 1 ≤ k)
second_of first m o [] next are rise = cc
second_of first m o (n ∷ []) next are rise = cc
second_of first m o (n ∷ k ∷ ns) next are rise =
    (n, k, (let same : m ≡ mark n = cc in same), (let same : o ≡ mark k = cc in same), rise.1.0)

-- refused: what is the mark of no number
no_mark : AreNewsFrom 0 (8 ∷ []) → ⊥
no_mark h = let one = first_of 0 8 [] h.numbers h.next h.are h.rise h.few in let is = one.1 in absurd (omega arith)

-- that of a number below the first one
too_old : AreNewsFrom 5 (13 ∷ []) → ⊥
too_old h = let one = first_of 5 13 [] h.numbers h.next h.are h.rise h.few in let is = one.1 in let le = one.2 in absurd (omega arith)

-- that of a number which is not published
too_many : AreNewsFrom 0 (301 ∷ []) → ⊥
too_many h = let one = first_of 0 301 [] h.numbers h.next h.are h.rise h.few in let is = one.1 in let few = one.3 in absurd (omega arith)

-- a block that was read twice, and one after a later one
read_twice : AreNewsFrom 0 (7 ∷ 7 ∷ []) → ⊥
read_twice h =
    let two = second_of 0 7 7 h.numbers h.next h.are h.rise in
    let is = two.2 in
    let again = two.3 in
    let more = two.4 in
    absurd (omega arith)

-- a mark that comes after that of a later number is refused
goes_back : AreNewsFrom 0 (10 ∷ 7 ∷ []) → ⊥
goes_back h =
    let two = second_of 0 10 7 h.numbers h.next h.are h.rise in
    let is = two.2 in
    let again = two.3 in
    let more = two.4 in
    absurd (omega arith)

-- ---- read by a lane

so_many : (from to : ℕ) (numbers : List ℕ) → AreAll from to numbers → to ≡ length numbers + from
so_many from to [] h = let is : to ≡ from = h in omega arith
so_many from to (n ∷ ns) h = let first : n ≡ from = h.0 in let rest = so_many (n + 1) to ns h.1 in omega arith

module _ {X K : Type 0} {rule : Ghosts K X} where
  -- refused: more blocks than went out by the lane
  more_than_went_out : (p : Publisher X K rule) (place : ℕ) (marks : List ℕ) → next_of p < length marks → AreNewsBy p place marks → ⊥
  more_than_went_out p place marks more h =
      let lane = h.heard.2 in
      let out = so_many 0 (next_of p) lane.sent lane.every in
      let few = lane.passed_on.few in
      let read = ap length h.news.are ∙ length-map h.news.numbers mark in
      absurd (omega arith)

  -- by a lane that there is none
  by_no_lane : (p : Publisher X K rule) (place : ℕ) (marks : List ℕ) → slice_get (lanes_of p) place ≡ None → AreNewsBy p place marks → ⊥
  by_no_lane p place marks none h = let is = h.heard.1 in cc
