-- What the begin of a call does to a robust index set, or to the set of a container: nothing, except that a
-- release or a remove takes the right to give its index back.
use Rattle.laws_robust.proofs.Names.{◌≡◌, ℕ, ◌==◌, if◌then◌else◌, Option, Some, None, List, [], ◌∷◌, ◌++◌, refl, sym}
use Rattle.laws_robust.proofs.Names.{◌∙◌, arith, eq-eqb, fold-append, Event, Begun, Start, NoneTakes}
use Rattle.laws_robust.proofs.Names.{filled_of, holder_after, holder_of, settled_after, settled_of}
use Rattle.laws_robust.proofs.Effects.{Keeps, Leaves, hands_on, same_filled}
use Rattle.lemmas_owners.proofs.Choices.{at_same}
use Rattle.laws_robust.proofs.Invariant.{Scene, Good, Does}
use Rattle.laws_robust.proofs.Rights.{Right, Settled, By, taken_by, right_after, right_of, IsBy, AreOwned}

-- ---- the right to one index

-- what is settled for an owner after a begin was settled for him before, and still is
still_settled : (T : Type 0) (p : ℕ) (start : Start T) (i o : ℕ) (old : Option ℕ) (r : Right)
    → settled_after i old (Begun p start) ≡ Some o → (old ≡ Some o → r ≡ Settled o)
    → (old ≡ Some o) × (right_after i r (Begun p start) ≡ Settled o)
still_settled T p start i o old r settled_is was = grind arith

-- what may be given back may still be, unless a release or remove of it for its owner begins
not_taken_from : (T : Type 0) (p : ℕ) (start : Start T) (i o : ℕ) (old : Option ℕ) → old ≡ Some o
    → NoneTakes i o (Begun p start ∷ []) → settled_after i old (Begun p start) ≡ Some o
not_taken_from T p start i o old old_is none = grind arith

-- a begin leaves the right of a party
still_by : (T : Type 0) (p q : ℕ) (start : Start T) (i : ℕ) (r : Right) → r ≡ By q → right_after i r (Begun p start) ≡ By q
still_by T p q start i r e = grind arith

module _ {T : Type 0} where
  -- a call that takes the right to an index has it once it has begun
  pub taken : (p index owner : ℕ) (start : Start T) (events : List (Event T))
      → ((r : Right) → right_after index r (Begun p start) ≡ (if index == index then taken_by p owner r else r))
      → AreOwned events → settled_of index events ≡ Some owner → IsBy p index owner (events ++ Begun p start ∷ [])
  taken = grind (arith, fold-append, right_of, at_same, taken_by, eq-eqb)

-- the begin of the party `p` keeps the invariant of the set (`good`), and writes one event
module _ {T : Type 0} (scene : Scene T) (good : Good scene.by scene.capacity scene.set.words scene.set.dead scene.events scene.turns) (start : Start T) where
  open scene use {party as p, events as events}

  abbrev es : List (Event T)
  es = Begun p start ∷ []

  -- the begin fills and frees nothing
  keeps : Keeps es
  keeps = grind arith

  -- the begin leaves the cells and the lock
  leaves : Leaves scene scene.set.words
  leaves = grind arith

  -- the begin leaves what each index is filled with
  same : (i : ℕ) → filled_of i (events ++ es) ≡ filled_of i events
  same i = same_filled scene good scene.set.words es leaves keeps i

  -- the begin of a call leaves the holder of each index
  same_holder : (i : ℕ) → holder_of i (events ++ es) ≡ holder_of i events
  same_holder i = fold-append (holder_after i) None events es

  -- in a run in which each index that may be given back is settled for its owner, this is so after the begin
  settles : AreOwned events → (i o : ℕ) → settled_of i (events ++ es) ≡ Some o → (filled_of i (events ++ es) ≡ Some o) × (right_of i (events ++ es) ≡ Settled o)
  settles = grind (arith, still_settled, right_of, fold-append, same)

  -- a begin does to the set what a turn may do
  pub begins : Does scene scene.set.words (Begun p start ∷ [])
  begins =
      hands_on scene good scene.set.words es leaves keeps (record {
        own = (refl, tt);
        right = (tt, tt);
        answers = (tt, tt);
        hands = record {
          owned = λ calm h. record { held = λ i owner e. same i ∙ h.held i owner (sym (same_holder i) ∙ e); settled = settles h };
          holds = λ calm. (tt, tt);
          right = λ calm q ne i owner h.
              fold-append (right_after i) _ events es ∙ (still_by T p q start i (right_of i events) h.right ∙ sym h.right);
          holder = λ calm q ne i owner h. same_holder i;
          settled = λ calm i owner h none.
              fold-append (settled_after i) None events es ∙ not_taken_from T p start i owner (settled_of i events) h none;
        };
        grants = λ unchanged less i none. same_holder i ∙ none;
      })
