-- A look at the cell of an index of a robust set tells whether the index has a given owner at that moment, so
-- a `find` tells it of one index after another.
use Rattle.history.proofs.Names.{◌≡◌, ◌≢◌, ⊎_elim, ℕ, ◌+◌, ◌<◌, Option, Some, List, [], ◌∷◌, ◌++◌, sym, ap}
use Rattle.history.proofs.Names.{subst, ◌∙◌, arith, Contains, cases_eq, All-push}
use Rattle.history.proofs.Names.{All-weaker, Contains-push, Contains-append_left, empty, Coding, filled_of}
use Rattle.model.specs.declared.event.Event.{Event}
use Rattle.steps.specs.Indices.Robust.Parts.{cell_word}
use Rattle.model.specs.declared.turn.Kind.TheVariants as kinds
use Rattle.model.specs.Families.Indices.Robust.Promises.{cell_of}
use Rattle.history.specs.declared.view.View.{View}
use Rattle.history_owners.specs.Finds.{HeldBetween, WereOwned}
use Rattle.history.specs.History.{IsBeginning}
use Rattle.history.specs.Views.{LooksAt}
use Rattle.history.proofs.Known.{begins_further, itself}
use Rattle.history_owners.proofs.Robusts.{is_open_set, robust_size}

-- ---- what a cell says

-- a cell that has an owner's number is filled for that owner
cell_tells : (o : Option ℕ) (owner k : ℕ) → owner < empty → k ≡ cell_of o → k ≡ owner → o ≡ Some owner
cell_tells = grind arith

-- a cell that has another number is not filled for this owner
cell_denies : (o : Option ℕ) (owner k : ℕ) → k ≡ cell_of o → k ≢ owner → o ≢ Some owner
cell_denies o owner k k_is ne e = ne (k_is ∙ ap cell_of e)

-- k is what the cell of the index had as it was looked at; v and w are what the seat knew before that and after it
module _ {T : Type 0} (code : Coding T) (capacity index k : ℕ) (low : index < capacity) (v w : View T)
    (looks : LooksAt code kinds.Robust capacity (cell_word index) v k w) where
  -- the cell that was looked at has the owner of the index by the history that is seen then
  in_cell : k ≡ cell_of (filled_of index w.seen)
  in_cell =
      let sized = looks.run.sized in
      let wide = robust_size code capacity looks.trace looks.run in
      let cells = (is_open_set code capacity looks.trace looks.run).cells index (omega arith) in
      looks.word_is (omega arith) ∙ (cells ∙ ap (λ es. cell_of (filled_of index es)) (sym looks.seen))

  -- a cell that was found with the owner's number: the index has that owner in the history that is seen then
  pub tells_owner : (owner : ℕ) → owner < empty → k ≡ owner → filled_of index w.seen ≡ Some owner
  tells_owner owner fits k_is = cell_tells (filled_of index w.seen) owner k fits in_cell k_is

  -- a cell that was found with another number: the index has another owner, or none
  pub tells_other : (owner : ℕ) → k ≢ owner → filled_of index w.seen ≢ Some owner
  tells_other owner ne = cell_denies (filled_of index w.seen) owner k in_cell ne

-- ---- one index after another

module _ {T : Type 0} where
  -- what held between `old` and `mid` held between `old` and a later history
  held_later : (P : List (Event T) → Type 0) (old mid new : List (Event T)) → IsBeginning mid new → HeldBetween P old mid → HeldBetween P old new
  held_later = grind (arith, begins_further)

  -- what holds now held at a moment up to now
  held_now : {P : List (Event T) → Type 0} {old new : List (Event T)} → IsBeginning old new → P new → HeldBetween P old new
  held_now on now = grind (arith, itself)

  module _ (owner : ℕ) (old : List (Event T)) where
    -- the index had the owner at a moment between the two histories
    abbrev Had : List (Event T) → ℕ → Type 0
    Had new index = HeldBetween (λ es. filled_of index es ≡ Some owner) old new

    -- at a moment between the two histories the index did not have the owner
    abbrev HadNot : List (Event T) → ℕ → Type 0
    HadNot new index = HeldBetween (λ es. filled_of index es ≢ Some owner) old new

    -- for the bound 0, below which there is no index, nothing has to be known
    pub owned_none : (new : List (Event T)) → WereOwned owner 0 [] old new
    owned_none = grind arith

    -- what is known of the indices below the bound is known in each later history
    pub owned_later : (bound : ℕ) (indices : List ℕ) (mid new : List (Event T)) → IsBeginning mid new → WereOwned owner bound indices old mid
        → WereOwned owner bound indices old new
    owned_later bound indices mid new on were_owned =
        record {
          had = All-weaker (Had mid) (Had new) (λ i. held_later (λ es. filled_of i es ≡ Some owner) old mid new on) indices were_owned.had;
          had_not = λ i below out. held_later (λ es. filled_of i es ≢ Some owner) old mid new on (were_owned.had_not i below out);
        }

    module _ (index : ℕ) (indices : List ℕ) (new : List (Event T)) (on : IsBeginning old new) (h : WereOwned owner index indices old new) where
      -- with one index more, which has the owner now
      pub owned_more : filled_of index new ≡ Some owner → WereOwned owner (index + 1) (indices ++ index ∷ []) old new
      owned_more has =
          record {
            had = All-push (Had new) indices index h.had (held_now on has);
            had_not = past;
          }
        where
          -- each index up to this one that is not in the list did not have the owner at a moment
          past : (i : ℕ) → i < index + 1 → (Contains (indices ++ index ∷ []) i → ⊥) → HadNot new i
          past i below out =
              ⊎_elim (λ (e : i ≡ index). absurd (out (subst (Contains (indices ++ index ∷ [])) (sym e) (Contains-push indices index))))
              (λ (ne : i ≢ index). h.had_not i (omega arith) (λ among. out (Contains-append_left indices (index ∷ []) i among)))
              (cases_eq i index)

      -- with one index more, which does not have the owner now
      pub owned_past : filled_of index new ≢ Some owner → WereOwned owner (index + 1) indices old new
      owned_past = grind (arith, held_now, cases_eq)
