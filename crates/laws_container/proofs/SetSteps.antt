-- The steps of the calls of a container on its set of indices leave the elements, and keep the invariant. A
-- party that frees an index leaves no other party that may write there.
use Rattle.laws_container.proofs.Names.{◌≡◌, ◌≢◌, ⊎_elim, ℕ, ◌+◌, ◌<◌, ◌≤◌, true, false, None, List, [], ◌∷◌, ◌++◌}
use Rattle.laws_container.proofs.Names.{length, get_or, set, refl, ap, subst, ◌∙◌, arith, get_or-set_other, cases_eq}
use Rattle.laws_container.proofs.Names.{length-set, fold-append, Event, Filled, Granted, FreedOf, Locked}
use Rattle.laws_container.proofs.Names.{Party, contents_after, announced_after}
use Rattle.laws_container.proofs.Names.{filled_after, filled_of, settled_after, settled_of, is_gone, at_same}
use Rattle.laws_container.proofs.Names.{at_other, some_none, IsBy}
use Rattle.laws_container.specs.Gone.{RecoversBy}
use Rattle.laws_robust.proofs.Invariant as set_invariant
use Rattle.laws_container.proofs.Effects.{OwesStill, Turn, calmly, reads_same}
use Rattle.laws_container.proofs.Invariant.{Scene, KeepsInvariant, before, after, of_set}
use Rattle.laws_container.proofs.Left.{left_after, left_of}
use Rattle.laws_container.proofs.Stages.{Call, does_with}
use Rattle.laws_container.proofs.Turns.{WellFormed}
use Rattle.laws_container.proofs.Writers.{IsWriter, Replacing}

module _ {T : Type 0} (scene : Scene T) where
  -- the words behind the counter and the cells are those of the scene
  abbrev pub LeavesRest : List ℕ → Type 0
  LeavesRest words' = (n : ℕ) → 1 + scene.capacity ≤ n → get_or words' n 0 ≡ get_or scene.words n 0

  -- a store to the counter or to a cell leaves the words behind them
  pub rest_set : {words' : List ℕ} (m x : ℕ) → m < 1 + scene.capacity → words' ≡ set scene.words m x → LeavesRest words'
  rest_set = grind (arith, get_or-set_other)

  -- a store leaves how many words there are
  pub wide_set : {words' : List ℕ} (m x : ℕ) → words' ≡ set scene.words m x → length words' ≡ length scene.words
  wide_set m x new = ap length new ∙ length-set scene.words m x

-- `call` takes a step in the turn of the scene, after which its party is `y`
module _ {T : Type 0} (call : Call T) (y : Party T) where
  open call use {scene, inv}
  open call.scene use {capacity as c, party as p, events as events}

  -- the run was well-formed before the step if it is after it
  abbrev WellFormedBefore : List ℕ → List (Event T) → Type 0
  WellFormedBefore words' es = WellFormed (after scene words' y es) → WellFormed (before scene)

  -- the step fills or grants an index, locks the set, or frees an index, and leaves the
  -- words behind the cells
  module _ {words' : List ℕ} (rest : LeavesRest scene words') (wide : length words' ≡ length scene.words) where
    -- filling an index keeps the invariant
    pub fills : {i owner : ℕ} → set_invariant.Does (of_set scene) words' (Filled p i owner ∷ [])
        → WellFormedBefore words' (Filled p i owner ∷ [])
        → OwesStill scene y
        → KeepsInvariant scene words' scene.states y (Filled p i owner ∷ [])
    fills {i} {owner} does well_formed still =
        let turn : Turn scene words' y (Filled p i owner ∷ []) = record { inv = inv; well_formed = well_formed } in
        does_with call (calmly turn rest wide (reads_same turn (λ j o. refl) (λ j b. refl) (λ j b. refl)) still) does
        (record { asks = (tt, tt); recovers = (tt, tt); answers = (tt, tt); contains = λ holds. (tt, tt); places = λ holds. (tt, tt) })

    -- granting an index keeps the invariant
    pub grants : {i owner : ℕ} → set_invariant.Does (of_set scene) words' (Granted p i owner ∷ [])
        → WellFormedBefore words' (Granted p i owner ∷ [])
        → OwesStill scene y
        → KeepsInvariant scene words' scene.states y (Granted p i owner ∷ [])
    grants {i} {owner} does well_formed still =
        let turn : Turn scene words' y (Granted p i owner ∷ []) = record { inv = inv; well_formed = well_formed } in
        does_with call (calmly turn rest wide (reads_same turn (λ j o. refl) (λ j b. refl) (λ j b. refl)) still) does
        (record { asks = (tt, tt); recovers = (tt, tt); answers = (tt, tt); contains = λ holds. (tt, tt); places = λ holds. (tt, tt) })

    -- locking the set keeps the invariant
    pub locks : set_invariant.Does (of_set scene) words' (Locked p ∷ [])
        → WellFormedBefore words' (Locked p ∷ [])
        → OwesStill scene y → KeepsInvariant scene words' scene.states y (Locked p ∷ [])
    locks does well_formed still =
        let turn : Turn scene words' y (Locked p ∷ []) = record { inv = inv; well_formed = well_formed } in
        does_with call (calmly turn rest wide (reads_same turn (λ j o. refl) (λ j b. refl) (λ j b. refl)) still) does
        (record { asks = (tt, tt); recovers = (tt, tt); answers = (tt, tt); contains = λ holds. (tt, tt); places = λ holds. (tt, tt) })

    -- ---- an index is freed

    -- the step frees index `i` for `owner`
    module _ {i owner : ℕ} (does : set_invariant.Does (of_set scene) words' (FreedOf p i owner ∷ []))
        (well_formed : WellFormedBefore words' (FreedOf p i owner ∷ [])) where
      abbrev free : List (Event T)
      free = FreedOf p i owner ∷ []

      -- no other party, whose owner is not gone, may write at the index that is freed
      not_here : {A : Type 0} → WellFormed (after scene words' y free) → (q : ℕ) → q ≢ p → (o : ℕ)
          → is_gone scene.terms.by o events ≡ false → IsWriter q i o events → A
      not_here holds q ne o lives theirs =
          ⊎_elim
          (λ (h : IsBy q i o events).
          let k = (does.spares q ne).owned holds.calm i o lives h in
          some_none (filled_of i (events ++ free)) o (fold-append (filled_after i) None events free ∙ at_same i i None (filled_of i events) refl) k.filled)
          (λ (h : Replacing q i o events).
          let k = (does.spares q ne).settled holds.calm i o lives h.settled (tt, tt) in
          some_none (settled_of i (events ++ free)) o (fold-append (settled_after i) None events free ∙ at_same i i None (settled_of i events) refl) k)
          theirs

      -- what was left at an index is left there after the freeing
      left_on : (j : ℕ) → left_of j events ≡ true → left_of j (events ++ free) ≡ true
      left_on j was = let left = fold-append (left_after j) true events free in grind arith

      -- where another party may write and has placed its value, nothing is left after the freeing
      spared : WellFormed (after scene words' y free) → (q : ℕ) → q ≢ p → (j o : ℕ)
          → is_gone scene.terms.by o events ≡ false → IsWriter q j o events → left_of j events ≡ false
          → left_of j (events ++ free) ≡ false
      spared holds q ne j o lives theirs was =
          ⊎_elim (λ same. not_here holds q ne o lives (subst (λ k. IsWriter q k o events) same theirs))
          (λ other. fold-append (left_after j) true events free ∙ (at_other i j true (left_of j events) other ∙ was))
          (cases_eq j i)

      -- freeing an index, as a party may, keeps the invariant
      pub frees : OwesStill scene y
          → RecoversBy scene.terms.by events (FreedOf p i owner)
          → KeepsInvariant scene words' scene.states y (FreedOf p i owner ∷ [])
      frees still right =
          let turn : Turn scene words' y free = record { inv = inv; well_formed = well_formed } in
          does_with call
          (calmly turn rest wide
          (record {
            contents = λ j. fold-append (contents_after j) None events free;
            announced = λ j. fold-append (announced_after j) false events free;
            left = left_on;
            spares = spared;
          })
          still)
          does
          (record { asks = (tt, tt); recovers = (right, tt); answers = (tt, tt); contains = λ holds. (tt, tt); places = λ holds. (tt, tt) })
