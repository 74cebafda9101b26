-- What a wrong body of `next` would give of a state's entries, and the iterator's law refuses. A name says what the body does.
use Rattle.std.proofs.Common.{◌≡◌, ◌≢◌, ℕ, ◌<◌, List, ◌∷◌, length, ap, sym, ◌∙◌, arith}
use Rattle.std.specs.Prelude.{Option, Some, None}
use Rattle.std.specs.Iterator.{YieldsFirstBy}
use denote.Ref.{Bor}
use Rattle.lock_free.specs.ContainerState.{shown_at}
use Rattle.lock_free.specs.Container.Entries.{entries_from}
use Rattle.lock_free_owners.proofs.ContainerSet.Entries.{entries_give}
use Rattle.steps.specs.declared.container.state.ContainerState.{ContainerState}

module _ {T : Type 0} where
  -- what the law says of one `next`, from these entries to those
  abbrev Gives : List (ℕ × T) → Option (ℕ × Bor T) → List (ℕ × T) → Type 0
  Gives = YieldsFirstBy (λ item. (item.0, item.1.now)) (λ rest. rest)

  module _ (state : ContainerState T) (index : ℕ) (value : T) (below : index < state.capacity)
      (shown : shown_at state.shown.elements index ≡ Some value) where
    -- `next` ends although the index to which it has come shows a value, which may be the last
    pub next_ends_before_a_value : (rest : List (ℕ × T)) → Gives (entries_from state index) None rest → ⊥
    next_ends_before_a_value rest gives =
        let e = sym (entries_give state index value below shown) ∙ gives.0 in
        cc

    -- `next` gives another index, and so passes over that value
    pub next_passes_over_a_value : (other : ℕ) (r : Bor T) (rest : List (ℕ × T)) → other ≢ index
        → Gives (entries_from state index) (Some (other, r)) rest → ⊥
    next_passes_over_a_value other r rest is gives =
        let e = sym (entries_give state index value below shown) ∙ gives in
        let same : (index, value) ≡ (other, r.now) = cc in
        is (sym (ap (λ (entry : ℕ × T). entry.0) same))

    -- `next` gives another value
    pub next_gives_another_value : (r : Bor T) (rest : List (ℕ × T)) → r.now ≢ value
        → Gives (entries_from state index) (Some (index, r)) rest → ⊥
    next_gives_another_value r rest is gives =
        let e = sym (entries_give state index value below shown) ∙ gives in
        let same : (index, value) ≡ (index, r.now) = cc in
        is (sym (ap (λ (entry : ℕ × T). entry.1) same))

    -- `next` stays where it was, and would give the same entry again
    pub next_stays : (r : Bor T) → Gives (entries_from state index) (Some (index, r)) (entries_from state index) → ⊥
    next_stays r gives = longer (entries_from state index) gives
      where
        longer : {x : ℕ × T} (xs : List (ℕ × T)) → xs ≡ x ∷ xs → ⊥
        longer xs e = omega (arith, ap length e)
