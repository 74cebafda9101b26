-- What a pass has made since a call began, where the call is told of step by step: its begin, and what its
-- party wrote (`MadeSoFar`).
use Rattle.std.proofs.Common.{arith}
use Rattle.history.proofs.Names.{◌≡◌, ◌⊎◌, inr, ℕ, Some, None, IfSome, List, [], ◌∷◌, ◌++◌, refl}
use Rattle.history.proofs.Names.{ap, ◌∙◌, append_assoc, append-nil, Event, Begun, Start, Flight}
use Rattle.history.specs.declared.view.View.{View}
use Rattle.history.specs.Stages.{Since, opened}

-- lists that end with the same element and are equal are equal without it
same_end : {A : Type 0} → (xs ys : List A) (z : A) → xs ++ z ∷ [] ≡ ys ++ z ∷ [] → xs ≡ ys
same_end [] [] z lists_are = refl
same_end [] (y ∷ []) z lists_are = absurd (cc)
same_end [] (y ∷ w ∷ ys) z lists_are = absurd (cc)
same_end (x ∷ []) [] z lists_are = absurd (cc)
same_end (x ∷ w ∷ xs) [] z lists_are = absurd (cc)
same_end (x ∷ xs) (y ∷ ys) z lists_are =
    let first : x ≡ y = cc in
    let rest : xs ++ z ∷ [] ≡ ys ++ z ∷ [] = cc in
    ap (λ w. w ∷ xs) first ∙ ap (λ ws. y ∷ ws) (same_end xs ys z rest)

-- what comes behind the same list in two equal lists is equal
same_rest : {A : Type 0} → (xs ys zs : List A) → xs ++ ys ≡ xs ++ zs → ys ≡ zs
same_rest [] ys zs lists_are = lists_are
same_rest (x ∷ xs) ys zs lists_are = let rest : xs ++ ys ≡ xs ++ zs = cc in same_rest xs ys zs rest

-- lists between the same first and last elements are equal if the whole lists are
pub same_between : {A : Type 0} → (xs ys zs : List A) (b f : A) → xs ++ b ∷ (ys ++ f ∷ []) ≡ xs ++ b ∷ (zs ++ f ∷ []) → ys ≡ zs
same_between = grind (arith, same_rest, same_end)

module _ {T : Type 0} (start : Start T) where
  -- the call is about to begin, or its party has begun it since `base` and has written `wrote`
  abbrev pub MadeSoFar : View T → View T → (ℕ → List (Event T)) → Type 0
  MadeSoFar base v wrote =
      ((v ≡ base) × ((p : ℕ) → wrote p ≡ []))
      ⊎ ((p : ℕ) × (v.party ≡ Some p) × (flight : Flight T) × (v.going ≡ Some (start, flight)) × (v.made ≡ base.made ++ Begun p start ∷ wrote p))

  -- after one step more, which wrote `more` and then `last`, the pass has made these too
  pub made_with : (base v w : View T) (wrote more : ℕ → List (Event T)) (last es : List (Event T)) (p : ℕ)
      → base.going ≡ None → MadeSoFar base v wrote → IfSome v.party (λ q. q ≡ p) → Since p start es last v w
      → es ≡ more p → w.made ≡ base.made ++ Begun p start ∷ ((wrote p ++ more p) ++ last)
  made_with = grind (arith, opened, append_assoc)

  -- after one step more the call is still told of step by step
  pub made_more : (base v w : View T) (wrote more : ℕ → List (Event T)) (es : List (Event T)) (p : ℕ) (flight : Flight T)
      → base.going ≡ None → MadeSoFar base v wrote → IfSome v.party (λ q. q ≡ p) → w.party ≡ Some p
      → w.going ≡ Some (start, flight) → Since p start es [] v w → es ≡ more p
      → MadeSoFar base w (λ z. wrote z ++ more z)
  made_more base v w wrote more es p flight idle so_far known mine going since es_is =
      inr (
        p,
        mine,
        flight,
        going,
        made_with base v w wrote more [] es p idle so_far known since es_is
            ∙ ap (λ zs. base.made ++ Begun p start ∷ zs) (append-nil (wrote p ++ more p)),
      )
