-- Whether a handle names a value, by the words of the container.
use Rattle.std.proofs.Common.{◌≡◌, ℕ, suc, ◌+◌, ◌<◌, ◌≤◌, ◌==◌, false, List, [], ◌∷◌, length, take}
use Rattle.std.proofs.Common.{arith, slice_index, eq-eqb, ne_eqb}
use Rattle.plain.proofs.Names.{get_or-map, get_or_past, length-map, by_eq}
use Rattle.steps.specs.Indices.Robust.Parts.{cell_word, empty}
use Rattle.steps.specs.Objects.Owners.{has, owns}
use Rattle.plain.specs.Robust.{owner_in, owners_in, Represents}
use Rattle.plain.specs.Contents.{names, contents_in}
use Rattle.plain.proofs.Robust.Parts.{next_cell}

-- a cell's owner is this one where the cell has its number
owns_word : (owner : ℕ) → owner < empty → (w : ℕ) → owns (owner_in w) owner ≡ (w == owner)
owns_word = grind (arith, by_eq, owns, empty, ne_eqb)

-- an index below the capacity is the owner's where its cell has the owner's number
pub has_word : (capacity : ℕ) (words : List ℕ) → Represents capacity words → (index owner : ℕ) → owner < empty → index < capacity
    → has (owners_in words) index owner ≡ (slice_index words (cell_word index) == owner)
has_word = grind (arith, suc, length, owns, get_or-map, owns_word, next_cell)

-- an index past the capacity is nobody's
pub has_past : (capacity : ℕ) (words : List ℕ) → Represents capacity words → (index owner : ℕ) → capacity ≤ index
    → has (owners_in words) index owner ≡ false
has_past capacity [] fits index owner far = let e : 0 ≡ 1 + capacity = fits.long in absurd (omega arith)
has_past capacity (g ∷ cells) fits index owner far = grind (arith, suc, length, length-map, owner_in, owns, get_or_past)

-- a handle of this container names a value where its index is its owner's
pub names_own : {V : Type 0} (capacity size container : ℕ) (value_of : List ℕ → V) (words : List ℕ) (index owner : ℕ)
    → names (contents_in value_of size capacity container words) (record { index = index; owner = owner; container = container })
    ≡ has (owners_in (take (1 + capacity) words)) index owner
names_own = grind (arith, has, take, eq-eqb)
