-- What a `find` on a robust index set tells of the history. It only looks, so it is no call of the history,
-- and other parties act between its looks.
use Rattle.std.specs.Prelude.{◌≡◌, ◌≢◌, ℕ, ◌<◌, Some, List, All, Contains}
use Rattle.model.specs.declared.event.Event.{Event}
use Rattle.model.specs.Families.Indices.Robust.Reading.{filled_of}
use Rattle.history.specs.History.{IsBeginning}

module _ {T : Type 0} where
  -- P held at a moment from the history `old` to the history `new`
  pub record HeldBetween (P : List (Event T) → Type 0) (old new : List (Event T)) : Type 0 where
    -- the history at that moment
    pub moment : List (Event T)
    pub later : IsBeginning old moment
    pub before : IsBeginning moment new
    pub held : P moment

  -- each of these indices had this owner at a moment between the histories, and each other index below the
  -- bound did not have that owner at a moment; the moments may differ
  pub record WereOwned (owner bound : ℕ) (indices : List ℕ) (old new : List (Event T)) : Type 0 where
    pub had : All (λ index. HeldBetween (λ es. filled_of index es ≡ Some owner) old new) indices
    pub had_not : (index : ℕ) → index < bound → (Contains indices index → ⊥)
        → HeldBetween (λ es. filled_of index es ≢ Some owner) old new
