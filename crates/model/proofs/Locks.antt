-- The lock of an index set stays.
use Rattle.model.proofs.Names.{Event, List, [], fold, false, fold-append, refl, true, ◌++◌, ◌∙◌, ◌∷◌, ◌≡◌, ap}
use Rattle.model.specs.declared.event.Event.TheVariants.{Locked}
use Rattle.model.specs.Families.Indices.Reading.{is_locked, locked_after}

module _ {T : Type 0} where
  locked_one : (e : Event T) → locked_after true e ≡ true
  locked_one (Locked p) = refl
  locked_one e = refl

  locked_still : (es : List (Event T)) → fold locked_after true es ≡ true
  locked_still [] = refl
  locked_still (e ∷ es) = ap (λ b. fold locked_after b es) (locked_one e) ∙ locked_still es

  pub locked_later : (events es : List (Event T)) → is_locked events ≡ true → is_locked (events ++ es) ≡ true
  locked_later events es locked = fold-append locked_after false events es ∙ (ap (λ b. fold locked_after b es) locked ∙ locked_still es)
