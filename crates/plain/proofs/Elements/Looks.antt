-- The looks at a container that run alone, a count of the borrowed indices and a look at the lock; and the
-- words of a container that opens.
use Rattle.std.proofs.Common.{◌≡◌, ℕ, suc, ◌+◌, ◌^◌, ◌≤◌, Bool, List, [], ◌∷◌, length, take, refl, sym, ap, subst, ◌∙◌, arith}
use Rattle.plain.proofs.Names.{load, After}
use Rattle.steps.specs.Indices.Robust.Parts.{count_after}
use Rattle.steps.specs.Indices.Robust.Looks.{first_borrowed, borrowed_want, borrowed_counted, borrowed_after, locked_after}
use Rattle.steps.specs.declared.indices.robust.parts.Count as counts
use Rattle.steps.specs.declared.indices.robust.parts.Counted as ends
use Rattle.steps.specs.declared.indices.robust.looks.BorrowedIndices.{BorrowedIndices}
use Rattle.steps.specs.declared.indices.robust.looks.IsLocked.{IsLocked}
use Rattle.steps.specs.Objects.Owners.{borrowed, raised}
use Rattle.plain_queues.specs.Alone.{BehavesAs}
use Rattle.plain.specs.Robust as robust
use Rattle.plain.specs.Robust.{owners_in}
use Rattle.plain.specs.Contents.{is_locked, number, counted, contents_in, Represents}
use Rattle.plain_queues.proofs.Alone.{Runs}
use Rattle.plain.proofs.Walks.{plus, plus_sum, Walks, OnEnd, LowThen, runs}
use Rattle.plain.proofs.Fronts.{stays, front_walks}
use Rattle.plain.proofs.Robust.Looks.{borrowed_walks}
use Rattle.plain.proofs.Elements.Sets.{CountLow, count_goes_low, count_below}
use Rattle.plain.proofs.Elements.Values.{front_fits, behind_contents, behind_fits}

-- a count of the borrowed indices is walked over any words of a robust set, and answers their number
borrowed_front : (capacity : ℕ) (words : List ℕ) → robust.Represents capacity words
    → (n : ℕ) × (n ≤ 2 ^ 40) × Walks (λ (c : BorrowedIndices). borrowed_want c) (λ c old. borrowed_after c old) n
    (OnEnd (λ e last. BehavesAs (robust.Represents capacity) owners_in borrowed raised words e last)) (first_borrowed capacity) words
borrowed_front capacity [] fits = let e : 0 ≡ 1 + capacity = fits.long in absurd (omega arith)
borrowed_front capacity (g ∷ cells) fits =
    let long : suc (length cells) ≡ 1 + capacity = fits.long in
    let few = fits.few in
    let e = plus_sum (suc (suc (suc (length cells)))) 0 in (
      plus (suc (suc (suc (length cells)))) 0,
      omega arith,
      borrowed_walks capacity g cells fits.small (omega arith) fits.few fits.some,
    )

-- a count on a set of this capacity, at an index of the set
abbrev BorrowedLow : ℕ → BorrowedIndices → Type 0
BorrowedLow capacity call = (call.capacity ≡ capacity) × CountLow capacity call.count

-- a count that goes on keeps `BorrowedLow`
counted_low : (capacity : ℕ) (call : BorrowedIndices) → call.capacity ≡ capacity
    → (a : After counts.Count ends.Counted) → LowThen (CountLow capacity) a
    → LowThen {E = ℕ} (BorrowedLow capacity) (borrowed_counted call a)
counted_low = grind arith

-- each step of a count keeps `BorrowedLow`
goes_low : (capacity : ℕ) (call : BorrowedIndices) (old : ℕ) → BorrowedLow capacity call
    → LowThen {E = ℕ} (BorrowedLow capacity) (borrowed_after call old)
goes_low = grind (arith, counted_low, count_after, count_goes_low)

module _ {V : Type 0} (value_of : List ℕ → V) (size capacity container : ℕ) where
  -- from these words the count has answered how many indices have an owner, and has raised the generation
  abbrev pub Counted : List ℕ → ℕ → List ℕ → Type 0
  Counted words end last =
      BehavesAs (Represents size capacity) (contents_in value_of size capacity container) number counted words end last

  -- a count over a container, run alone, answers how many indices have an owner, and raises the generation
  pub count_at : {c : BorrowedIndices} → c ≡ first_borrowed capacity → {words : List ℕ} → Represents size capacity words
      → Runs (λ (c : BorrowedIndices) (given : Unit {0}). borrowed_want c) (λ c given old. borrowed_after c old) (λ c (room : Unit {0}) old. room) tt
      (λ e room ws. Counted words e ws) c tt words
  count_at {c} at_first {words} fits =
      let a = borrowed_front capacity (take (1 + capacity) words) (front_fits value_of size capacity words fits) in
      let bound = a.1 in
      subst (λ c. Runs (λ (c : BorrowedIndices) (given : Unit {0}). borrowed_want c) (λ c given old. borrowed_after c old) (λ c (room : Unit {0}) old. room) tt
      (λ e room ws. Counted words e ws) c tt words) (sym at_first)
      (runs a.0 (Counted words) (omega arith)
      -- the count touches the words of the set alone, so it is a count over those
      (front_walks (λ (c : BorrowedIndices). borrowed_want c) (λ c old. borrowed_after c old) (1 + capacity) (BorrowedLow capacity)
      (λ call low. count_below capacity call.count low.1) (goes_low capacity) words
      (λ e last. BehavesAs (robust.Represents capacity) owners_in borrowed raised (take (1 + capacity) words) e last) (Counted words)
      -- the words are still those of a container, and of its contents the set alone has changed
      (λ e last behind took. (
        behind_fits value_of size capacity words last behind fits took.0,
        took.1,
        behind_contents value_of size capacity container words last behind
            ∙ ap (λ set. record (contents_in value_of size capacity container words) { owners = set }) took.2,
      ))
      a.0 (first_borrowed capacity) words (refl, tt) (stays (1 + capacity) words) a.2))

  -- from these words the look has answered whether the container is locked, and has changed nothing
  abbrev pub Looked : List ℕ → Bool → List ℕ → Type 0
  Looked words end last =
      BehavesAs (Represents size capacity) (contents_in value_of size capacity container) is_locked (λ s. s) words end last

  -- a look at the lock of a container, run alone, answers whether it is locked
  pub look_at : {c : IsLocked} {words : List ℕ} → Represents size capacity words
      → Runs (λ (c : IsLocked) (given : Unit {0}). load 0) (λ c given old. locked_after c old) (λ c (room : Unit {0}) old. room) tt
      (λ e room ws. Looked words e ws) c tt words
  look_at = grind (arith, runs, load, take, suc)
