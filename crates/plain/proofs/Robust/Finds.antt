-- A find of a robust set that runs alone: from one question to the next, or to its end.
use Rattle.std.proofs.Common.{◌≡◌, ◌≢◌, ℕ, suc, ◌+◌, ◌^◌, ◌<◌, ◌≤◌, ⊎_elim, true, false, cond, ◌==◌, nat_lt, List, []}
use Rattle.std.proofs.Common.{◌∷◌, length, drop, map, filter, refl, sym, ap, ◌∙◌, arith, slice_index, eq-eqb, ne_eqb}
use Rattle.plain.proofs.Names.{nat_tests, eqb_tells, by_test, by_eq, Question}
use Rattle.steps.specs.Indices.Robust.Parts.{cell_word, empty, one_more}
use Rattle.steps.specs.Indices.Robust.Find.{at_find, first_find, find_comes_to, find_want, find_after}
use Rattle.steps.specs.declared.ask.Question.TheVariants as questions
use Rattle.steps.specs.declared.indices.robust.find.Find.{Find}
use Rattle.steps.specs.declared.indices.robust.find.FindStage.TheVariants as finds
use Rattle.plain_queues.specs.declared.drive.Stop.{Stop}
use Rattle.plain_queues.specs.declared.drive.Stop.TheVariants.{Asked, Ended}
use Rattle.steps.specs.Objects.Owners.{Owned, taken_from}
use Rattle.plain.specs.Robust.{owner_in}
use Rattle.plain.proofs.Walks.{WalksOn}
use Rattle.plain.proofs.Robust.Parts.{here, past, next_cell, owner_free, owner_some}

module _ (owner : ℕ) where
  -- the indices of the owner among these
  abbrev pub mine_in : List Owned → List ℕ
  mine_in taken = map (λ (o : Owned). o.index) (filter (λ (o : Owned). o.owner == owner) taken)

  -- the indices of the owner in a list of cells whose first one is that of this index
  abbrev pub mine : ℕ → List ℕ → List ℕ
  mine index rest = mine_in (taken_from index (map owner_in rest))

  -- a cell with the owner adds its index
  pub hits : (index c : ℕ) (rest : List ℕ) → owner < empty → c ≡ owner → mine index (c ∷ rest) ≡ index ∷ mine (index + 1) rest
  hits = grind (arith, taken_from, map, owner_some, cond, filter, eq-eqb)

  -- a cell with another owner adds no index
  pub misses : (index c : ℕ) (rest : List ℕ) → c ≢ owner → mine index (c ∷ rest) ≡ mine (index + 1) rest
  misses index c rest other =
      ⊎_elim
      (λ (t : ((c == empty) ≡ true) × (c ≡ empty)). ap (λ o. mine_in (taken_from index (o ∷ map owner_in rest))) (owner_free c t.1))
      (λ (t : ((c == empty) ≡ false) × (c ≢ empty)). ap (λ o. mine_in (taken_from index (o ∷ map owner_in rest))) (owner_some c t.1)
      ∙ ap (λ b. map (λ (o : Owned). o.index)
      (cond b
      (record { owner = c; index = index } ∷ filter (λ (o : Owned). o.owner == owner) (taken_from (index + 1) (map owner_in rest)))
      (filter (λ (o : Owned). o.owner == owner) (taken_from (index + 1) (map owner_in rest)))))
      (ne_eqb c owner other))
      (eqb_tells c empty)

-- The words of a robust set of this capacity, a counter and its cells; the owner, whose indices are looked for, may have indices.
pub record SetWords (capacity owner : ℕ) : Type 0 where
  pub g : ℕ
  pub cells : List ℕ
  pub long : length cells ≡ capacity
  pub few : capacity < 2 ^ 32
  pub lives : owner < empty

module _ {capacity owner : ℕ} (set : SetWords capacity owner) where
  open set use {g, cells, long, few, lives}

  -- the find has stopped at a question about the first of the owner's indices that are left,
  -- and has changed no word
  pub record AsksAt (count : ℕ) (left : List ℕ) (question : Question (Unit {0})) (call : Find) (last : List ℕ) : Type 0 where
    -- the index that is asked about, the cells behind it, and what is left
    pub index : ℕ
    pub rest : List ℕ
    pub left_is : left ≡ index ∷ mine owner (index + 1) rest
    pub rest_is : drop (index + 1) cells ≡ rest
    pub low : count ≤ index
    pub near : index < capacity
    -- the question, the stage of the call, and the words, which are the same
    pub asks : question ≡ questions.Index index
    pub stands : call ≡ at_find (first_find capacity) (finds.Asks index (count + 1))
    pub same : last ≡ g ∷ cells

  -- the find has ended with this count and nothing is left, or asks about the first of the owner's indices
  -- that are left
  abbrev pub StopsAt : ℕ → List ℕ → Stop Find ℕ → List ℕ → Type 0
  StopsAt count left (Ended n) last = (left ≡ []) × (n ≡ count) × (last ≡ g ∷ cells)
  StopsAt count left (Asked question call) last = AsksAt count left question call last

  -- From this index on, with these cells left, the find stops at the owner's next index or at its end. The
  -- cases are whether a cell is left, and whether it has the owner.
  pub finds_on : (rest : List ℕ) (index count : ℕ) {left : List ℕ} → drop index cells ≡ rest → count ≤ index → left ≡ mine owner index rest
      → WalksOn (λ c. find_want c) (λ c old. find_after c owner old) (suc (length rest)) (StopsAt count left)
      (find_comes_to (first_find capacity) index count) (g ∷ cells)
  finds_on [] index count {left} dropped low all = grind (arith, past, by_test, find_want, find_after, nat_lt, nat_tests, long)
  finds_on (c ∷ rest) index count {left} dropped low all =
      let at = here cells index c rest dropped in
      let near = at.near in
      let word = next_cell g index cells ∙ at.word_is in
      by_test
      (λ a. WalksOn (λ c. find_want c) (λ c old. find_after c owner old) (suc (suc (length rest))) (StopsAt count left) a (g ∷ cells))
      (nat_lt index capacity) _ _
      -- a cell is left: the find loads it
      (λ _. by_eq
      (λ a. WalksOn (λ c. find_want c) (λ c old. find_after c owner old) (suc (length rest)) (StopsAt count left) a (g ∷ cells))
      (slice_index (g ∷ cells) (cell_word index)) owner _ _
      -- the cell has the owner: the find asks about its index
      (λ e. record {
        index = index;
        rest = rest;
        left_is = all ∙ hits owner index c rest lives (sym word ∙ e);
        rest_is = at.rest_is;
        low = low;
        near = omega (arith, long);
        asks = refl;
        stands = ap (λ n. at_find (first_find capacity) (finds.Asks index n)) (let more : one_more count ≡ count + 1 = omega (arith, long, few) in more);
        same = refl;
      })
      -- the cell has not the owner: the find goes on to the next one
      (λ n. finds_on rest (index + 1) count at.rest_is (omega arith) (all ∙ misses owner index c rest (λ e. n (word ∙ e)))))
      (λ t. let far : capacity ≤ index = grind (arith, nat_tests) in absurd (omega (arith, long)))
