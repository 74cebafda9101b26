-- One split more extends the list of what was split off.
use Rattle.std.proofs.Common.{List, [], ◌∷◌, ◌++◌, refl, subst}
use Rattle.lock_free_guards.specs.Cuts.{AreCut}

module _ {H : Type 0} (Cut : H → H → H → Type 0) where
  -- One more split makes the list of the halves one longer.
  pub one_more_cut : (halves : List H) (half old between new : H) → AreCut Cut halves old between → Cut between new half
      → AreCut Cut (halves ++ half ∷ []) old new
  one_more_cut [] half old between new none cut = (new, subst (λ o. Cut o new half) none cut, refl)
  one_more_cut (first ∷ halves) half old between new cuts cut =
      (cuts.0, cuts.1, one_more_cut halves half cuts.0 between new cuts.2 cut)
