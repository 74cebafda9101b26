-- The words of the single value, and what each operation does to them. No event and no party is in it. A
-- value has two cells, of `size` words each: the one before the version's holds the value that stands, the
-- version's is to be written next.
use Rattle.std.proofs.Common.{◌≡◌, ◌≢◌, ℕ, zero, suc, ◌+◌, ◌-◌, ◌*◌, ◌%◌, ◌<◌, ◌≤◌, Option, Some, None, List}
use Rattle.std.proofs.Common.{◌∷◌, length, get_or, set, take, replicate, refl, subst, ◌∙◌, arith, length-set}
use Rattle.std.proofs.Common.{get_or-set_other}
use Rattle.laws_queues.proofs.Queues.Core.{cells_apart, one_more}
use Rattle.laws_queues.proofs.Ring.Words.{same_words as as_far}

-- ---- the two cells

-- word `i` of a cell lies within the words of the two cells
pub cell_within : (size n i : ℕ) → i < size → size * (n % 2) + i < size * 2
cell_within = grind arith

-- two lists that begin with the same words are equal, once the longer is cut to the length of the other
pub same_words : (n : ℕ) (xs ys : List ℕ) → length ys ≡ n → n ≤ length xs → ((i : ℕ) → i < n → get_or xs i 0 ≡ get_or ys i 0) → take n xs ≡ ys
same_words n xs ys long enough same = subst (λ m. take m xs ≡ ys) long (as_far xs ys (omega arith) (λ i below. same i (omega arith)))

-- a list of equal numbers has that number everywhere
pub zeros : (n i d : ℕ) → get_or (replicate n d) i d ≡ d
zeros zero i d = refl
zeros (suc n) zero d = refl
zeros (suc n) (suc i) d = zeros n i d

-- ---- the words

-- the word of the producer's role is 1 while nobody holds the role
abbrev pub free : Option ℕ → ℕ
free None = 1
free (Some p) = 0

module _ (a b : ℕ) (cells : List ℕ) where
  -- a word of a cell lies behind the version and the role's word
  pub word_at : (n i : ℕ) → n ≡ 2 + i → get_or (a ∷ b ∷ cells) n 0 ≡ get_or cells i 0
  word_at n i e = let two : n ≡ suc (suc i) = omega arith in rw two refl

  -- a store to a word of a cell leaves the version and the role's word
  pub set_at : (n i v : ℕ) → n ≡ 2 + i → set (a ∷ b ∷ cells) n v ≡ a ∷ b ∷ set cells i v
  set_at n i v e = let two : n ≡ suc (suc i) = omega arith in rw two refl

-- the version, the value that stands, and the words of both cells
pub record Core : Type 0 where
  pub version : ℕ
  pub now : List ℕ  -- the words of the value that stands
  pub cells : List ℕ

-- the words of the machine: the version, the role's word, and both cells
abbrev pub layout : Option ℕ → Core → List ℕ
layout holder k = k.version ∷ free holder ∷ k.cells

-- the version does not go down, and each step by which it goes up is a change of a word
pub record GoesUp (k k' : Core) (changes changes' : ℕ) : Type 0 where
  pub version : k.version ≤ k'.version
  pub paid : k'.version + changes ≤ k.version + changes'

module _ (size : ℕ) where
  -- the cell before the version's holds the value that stands, and the version is at least 1
  pub record Good (k : Core) : Type 0 where
    pub some : 1 ≤ k.version
    pub sized : length k.now ≡ size
    pub cells : length k.cells ≡ size * 2
    pub held : (i : ℕ) → i < size → get_or k.cells (size * ((k.version - 1) % 2) + i) 0 ≡ get_or k.now i 0

  -- the first `count` of these words stand in the version's cell
  abbrev pub IsFilled : Core → List ℕ → ℕ → Type 0
  IsFilled k words count = (i : ℕ) → i < count → get_or k.cells (size * (k.version % 2) + i) 0 ≡ get_or words i 0

  -- the words after `word` is stored at place `at` of the version's cell
  abbrev pub filled : Core → ℕ → ℕ → Core
  filled k at word = record { version = k.version; now = k.now; cells = set k.cells (size * (k.version % 2) + at) word }

  -- the words after 1 is added to the version: the words of the version's cell stand now
  abbrev pub stored : Core → List ℕ → Core
  stored k words = record { version = k.version + 1; now = words; cells = k.cells }

  -- a store to the version's cell leaves the value that stands
  pub fills : {k : Core} (at word : ℕ) → at < size → Good k → Good (filled k at word)
  fills {k} at word below good =
      let some = good.some in
      record {
        some = good.some;
        sized = good.sized;
        cells = length-set k.cells (size * (k.version % 2) + at) word ∙ good.cells;
        held = λ i is.
            let other : (k.version - 1) % 2 ≢ k.version % 2 = λ e. absurd (omega arith) in
            let place : size * ((k.version - 1) % 2) + i ≢ size * (k.version % 2) + at =
            cells_apart size ((k.version - 1) % 2) (k.version % 2) i at is below other in
            get_or-set_other k.cells (size * (k.version % 2) + at) (size * ((k.version - 1) % 2) + i) word 0 place ∙ good.held i is;
      }

  -- after the store of the next word, one word more stands in the version's cell
  pub one_filled : {k : Core} (words : List ℕ) (at : ℕ) → at < size → Good k → IsFilled k words at → IsFilled (filled k at (get_or words at 0)) words (at + 1)
  one_filled {k} words at below good so_far =
      let cells = good.cells in
      let low = cell_within size k.version at below in
      one_more (λ i. size * (k.version % 2) + i) k.cells words at (get_or words at 0) (λ i h e. absurd (omega arith))
      (omega arith) refl so_far

  -- where all words of a value are in the version's cell, 1 added to the version makes that value stand
  pub stores : (k : Core) (words : List ℕ) → length words ≡ size → Good k → IsFilled k words size → Good (stored k words)
  stores = grind arith
