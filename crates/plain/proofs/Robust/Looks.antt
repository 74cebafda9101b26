-- The looks at a robust set that run alone: the count of the borrowed indices, and the look at the lock.
use Rattle.std.proofs.Common.{◌≡◌, ℕ, zero, suc, ◌+◌, ◌^◌, ◌<◌, ◌≤◌, Bool, List, [], ◌∷◌, length, map, replicate}
use Rattle.std.proofs.Common.{slice_set, None, refl, sym, ap, subst, arith, eq-eqb, ne_eqb, if◌then◌else◌}
use Rattle.plain.proofs.Names.{load}
use Rattle.steps.specs.Indices.Robust.Parts.{empty, locked, count_want, count_after}
use Rattle.steps.specs.Indices.Robust.Looks.{first_borrowed, borrowed_want, borrowed_after, borrowed_counted, locked_after}
use Rattle.steps.specs.declared.indices.robust.parts.Count.TheVariants as counts
use Rattle.steps.specs.declared.indices.robust.looks.BorrowedIndices.{BorrowedIndices}
use Rattle.steps.specs.declared.indices.robust.looks.IsLocked.{IsLocked}
use Rattle.plain_queues.specs.Alone.{BehavesAs}
use Rattle.steps.specs.Objects.Owners.{opened_at, is_locked, raised, borrowed}
use Rattle.plain.specs.Robust.{owner_in, owners_in, Represents}
use Rattle.plain_queues.proofs.Alone.{Runs}
use Rattle.plain.proofs.Walks.{plus, plus_sum, Walks, OnEnd, part_walks, runs, any_low}
use Rattle.plain.proofs.Robust.Parts.{number, count_walks, next_there, next_small}

module _ (capacity g : ℕ) (cells : List ℕ) (small : g < 2 ^ 64) (long : length cells ≡ capacity) (few : capacity < 2 ^ 32) where
  -- the count has answered how many indices are borrowed, and has raised the generation
  abbrev pub Counted : ℕ → List ℕ → Type 0
  Counted end last = BehavesAs (Represents capacity) owners_in borrowed raised (g ∷ cells) end last

  -- a count of borrowed indices is walked over the counter and the cells
  pub borrowed_walks : 1 ≤ capacity
      → Walks (λ (c : BorrowedIndices). borrowed_want c) (λ c old. borrowed_after c old)
      (plus (suc (suc (suc (length cells)))) 0) (OnEnd Counted) (first_borrowed capacity) (g ∷ cells)
  borrowed_walks some =
      part_walks
      (record {
        want = λ c. borrowed_want c;
        after = λ c old. borrowed_after c old;
        part_want = count_want;
        part_after = count_after capacity;
        within = λ count. record { capacity = capacity; count = count };
        lift = borrowed_counted (first_borrowed capacity);
        Low = λ d. Unit {0};
        low_on = λ d old low. any_low ((count_after capacity) d old);
        wants_so = λ d. refl;
        goes_so = λ d old low. refl;
        lifts = λ d. refl;
      })
      (suc (suc (suc (length cells)))) 0 (OnEnd Counted) counts.LoadsCounter (g ∷ cells) tt
      (count_walks capacity g cells small long few _
      -- the set is locked: the count answers 0, and the generation stays
      (λ e. (
        record { long = omega arith; some = some; few = few; small = small },
        sym (ap (λ b. if b then 0 else number cells) (eq-eqb g locked e)),
        (λ i. record { owners = map owner_in cells; generation = sym (next_there g (omega arith)) i }),
      ))
      -- the set is not locked: the count answers the filled cells, and the generation is the next one
      (λ other. (
        record { long = omega arith; some = some; few = few; small = next_small g small },
        sym (ap (λ b. if b then 0 else number cells) (ne_eqb g locked other)),
        refl,
      )))

  -- a count of borrowed indices that runs alone answers that number
  pub borrowed_runs : 1 ≤ capacity
      → Runs (λ (c : BorrowedIndices) (given : Unit {0}). borrowed_want c) (λ c given old. borrowed_after c old)
      (λ c (room : Unit {0}) old. room) tt (λ e room ws. Counted e ws) (first_borrowed capacity) tt (g ∷ cells)
  borrowed_runs some =
      runs (plus (suc (suc (suc (length cells)))) 0) Counted
      (omega (arith, plus_sum (suc (suc (suc (length cells)))) 0)) (borrowed_walks some)

  -- the look has answered whether the set is locked, and has changed nothing
  abbrev pub Looked : Bool → List ℕ → Type 0
  Looked end last = BehavesAs (Represents capacity) owners_in is_locked (λ s. s) (g ∷ cells) end last

  -- a look at the lock, run alone over a counter and cells, answers whether the set is locked
  pub looked_runs : (call : IsLocked) → 1 ≤ capacity
      → Runs (λ (c : IsLocked) (given : Unit {0}). load 0) (λ c given old. locked_after c old)
      (λ c (room : Unit {0}) old. room) tt (λ e room ws. Looked e ws) call tt (g ∷ cells)
  looked_runs = grind (arith, runs, load)

-- ---- over any words of a robust set

-- a count of the borrowed indices, run alone over any words of a robust set, answers their number
pub borrowed_at : (capacity : ℕ) (call : BorrowedIndices) → call ≡ first_borrowed capacity → (words : List ℕ) → Represents capacity words
    → Runs (λ (c : BorrowedIndices) (given : Unit {0}). borrowed_want c) (λ c given old. borrowed_after c old) (λ c (room : Unit {0}) old. room) tt
    (λ e room ws. BehavesAs (Represents capacity) owners_in borrowed raised words e ws) call tt words
borrowed_at capacity call at_first [] fits = let e : 0 ≡ 1 + capacity = fits.long in absurd (omega arith)
borrowed_at capacity call at_first (g ∷ cells) fits =
    subst (λ c. Runs (λ (c : BorrowedIndices) (given : Unit {0}). borrowed_want c) (λ c given old. borrowed_after c old) (λ c (room : Unit {0}) old. room) tt
    (λ e room ws. BehavesAs (Represents capacity) owners_in borrowed raised (g ∷ cells) e ws) c tt (g ∷ cells)) (sym at_first)
    (borrowed_runs capacity g cells fits.small (let e : suc (length cells) ≡ 1 + capacity = fits.long in omega arith) fits.few fits.some)

-- a look at the lock, run alone over any words of a robust set, answers whether it is locked
pub looked_at : (capacity : ℕ) (call : IsLocked) (words : List ℕ) → Represents capacity words
    → Runs (λ (c : IsLocked) (given : Unit {0}). load 0) (λ c given old. locked_after c old) (λ c (room : Unit {0}) old. room) tt
    (λ e room ws. BehavesAs (Represents capacity) owners_in is_locked (λ s. s) words e ws) call tt words
looked_at = grind (arith, looked_runs, suc, length)

-- ---- as it opens

-- empty cells have no owner
none_taken : (n : ℕ) → map owner_in (replicate n empty) ≡ replicate n None
none_taken zero = refl
none_taken (suc n) = λ i. None ∷ none_taken n i

-- a list of empty cells with the generation as its first word is a robust set that opens
pub opens : (items : List ℕ) (capacity generation : ℕ) → items ≡ replicate (1 + capacity) empty
    → owners_in (slice_set items 0 generation) ≡ opened_at capacity generation
opens = grind (arith, suc, empty, none_taken)
