-- What a pass has made holds an index for the owner to whom it was granted.
use Rattle.std.proofs.Common.{◌≡◌, ℕ, ◌==◌, true, Ok, List, [], ◌∷◌, ◌++◌, refl, ap, ◌∙◌, arith}
use Rattle.std.proofs.lemmas.Bool.Decides.{nat_tests}
use Rattle.std.proofs.lemmas.List.Sums.{fold-append}
use Rattle.model.specs.declared.event.Answer.TheVariants.{Index}
use Rattle.model.specs.declared.event.Event.{Event}
use Rattle.model.specs.declared.event.Event.TheVariants.{Begun, Filled, Granted, Finished}
use Rattle.model.specs.declared.event.Start.TheVariants.{Robust}
use Rattle.model.specs.declared.families.indices.robust.RobustStart.TheVariants.{Acquire}
use Rattle.model.specs.Families.Indices.Robust.Reading.{holder_after, holder_of}
use Rattle.history.specs.declared.view.View.{View}
use Rattle.lock_free_owners.specs.Robust.Contracts.{HasTaken, WasFilled, WasGranted}
use Rattle.lock_free_guards.specs.Held.{HoldsFor}
use Rattle.lock_free_guards.specs.Acquired.{HasAcquired}

-- v and w are what the pass knew before the acquire and after it
module _ (owner index : ℕ) (v w : View ℕ) (h : HasTaken owner (Ok index) v w) where
  -- an acquire for an owner that took an index leaves it held for him by what the pass made
  pub granted_holds : HoldsFor owner index w.made
  granted_holds =
      let party_there = h.by in
      let more : List (Event ℕ) =
      Begun party_there (Robust (Acquire owner))
      ∷ (Filled party_there index owner ∷ Granted party_there index owner
      ∷ Finished party_there (Robust (Acquire owner)) (Index index) ∷ []) in
      let made : w.made ≡ v.made ++ more =
      h.called.made
      ∙ ap (λ (es : List (Event ℕ)). v.made ++ Begun party_there (Robust (Acquire owner))
      ∷ (es ++ Finished party_there (Robust (Acquire owner)) (Index index) ∷ []))
      h.tells.1
      in
      let tests_same : (index == index) ≡ true = grind (arith, nat_tests) in
      ap (holder_of index) made ∙ (fold-append (holder_after index) _ v.made more ∙ rw tests_same refl)

  -- An index that the call filled and was granted is one that it acquired.
  pub acquired : WasFilled index owner v w → WasGranted index owner v w → HasAcquired owner index v w
  acquired filled granted = record { taken = h; filled = filled; granted = granted; holds = granted_holds }
