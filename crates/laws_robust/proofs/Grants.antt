-- A step by which an index is granted, by which a call that was granted one ends, or both at once, does what
-- a turn may do (`Does`, Invariant). The right to the index stays with the party until its call has ended.
use Rattle.laws_robust.proofs.Names.{◌<◌, ◌≡◌, ◌≢◌, ℕ, ◌==◌, ◌&&◌, if◌then◌else◌, Bool, true, false, Option, Some}
use Rattle.laws_robust.proofs.Names.{None, List, [], ◌∷◌, ◌++◌, fold, refl, sym, subst, ◌∙◌, append_assoc, arith}
use Rattle.laws_robust.proofs.Names.{fold-append, greatest, Index, Event, Granted, Finished, Robust, SetDoes}
use Rattle.laws_robust.proofs.Names.{HoldsRight, filled_of, holder_after, holder_of, settled_after, settled_of}
use Rattle.laws_robust.proofs.Names.{is_dead, AreOwn, AreRight}
use Rattle.model.specs.declared.families.indices.robust.RobustStart.TheVariants.{Acquire}
use Rattle.laws_robust.specs.Gone.{IsCalm, AnswersBy}
use Rattle.laws_robust.proofs.Core.{counter_of}
use Rattle.laws_robust.proofs.Effects.{Keeps, Leaves, hands_on, same_filled}
use Rattle.lemmas_owners.proofs.Choices.{at_same}
use Rattle.laws_robust.proofs.Effects.{IsRaised, raised_open, raised_stays, raised_more, unlocked}
use Rattle.laws_robust.proofs.Gone.{calm_less}
use Rattle.laws_robust.proofs.Invariant.{IsWorn, Scene, Inv, Good, Does}
use Rattle.laws_robust.proofs.Rights.{Right, Settled, right_after, right_of, IsBy, AreOwned}

-- what an event sets at the index `i` it leaves at another index
other_stays : {A : Type 0} (sets : Bool) (i j : ℕ) (x y : A) → j ≢ i → (if sets && (i == j) then x else y) ≡ y
other_stays sets i j x y ne = grind arith

module _ {T : Type 0} (scene : Scene T) (inv : Inv scene) where
  open scene use {by as by, capacity as c, party as p, turns as turns, events as events}

  -- the words of the set before the step
  abbrev ws : List ℕ
  ws = scene.set.words

  good_before : Good by c ws scene.set.dead events turns
  good_before = inv.good

  -- ---- the index is granted, or the call that was granted it ends

  -- the events grant the index `i` to the owner (`granted`), or end the call that was granted it (`done`),
  -- and leave the other indices
  pub record GivesIndex (words' : List ℕ) (es : List (Event T)) (granted done : Bool) (i owner : ℕ) : Type 0 where
    -- the step leaves the cells and the lock, and its events fill and free nothing
    pub stays : Leaves scene words'
    pub keeps : Keeps es
    -- who holds each index after the events, for whom it is settled, and who has the right to it
    pub holders : (j : ℕ) (o : Option ℕ) → fold (holder_after j) o es ≡ (if granted && (i == j) then Some owner else o)
    pub settled : (j : ℕ) (o : Option ℕ) → fold (settled_after j) o es ≡ (if done && (i == j) then Some owner else o)
    pub rights : (j : ℕ) (r : Right) → fold (right_after j) r es ≡ (if done && (i == j) then Settled owner else r)
    -- in a calm run the party has the right to the index
    pub mine : IsCalm by (events ++ es) → IsBy p i owner events

  module _ {words' : List ℕ} {es : List (Event T)} {granted done : Bool} {i owner : ℕ} (given : GivesIndex words' es granted done i owner) where
    open given use {stays as leaves_cells, keeps as keeps_filled, holders, settled, rights, mine as has_right}

    -- the events leave what each index is filled with
    same : (j : ℕ) → filled_of j (events ++ es) ≡ filled_of j events
    same j = same_filled scene good_before words' es leaves_cells keeps_filled j

    -- after a grant the owner holds the index, and any other index is held as before
    holder_then : (j : ℕ) → holder_of j (events ++ es) ≡ (if granted && (i == j) then Some owner else holder_of j events)
    holder_then j = fold-append (holder_after j) None events es ∙ holders j (holder_of j events)

    -- at the end the index is settled with the owner, and any other index as before
    settled_then : (j : ℕ) → settled_of j (events ++ es) ≡ (if done && (i == j) then Some owner else settled_of j events)
    settled_then j = fold-append (settled_after j) None events es ∙ settled j (settled_of j events)

    -- at the end the right to the index is settled, and to any other index it is as before
    right_then : (j : ℕ) → right_of j (events ++ es) ≡ (if done && (i == j) then Settled owner else right_of j events)
    right_then j = fold-append (right_after j) _ events es ∙ rights j (right_of j events)

    module _ (calm : IsCalm by (events ++ es)) where
      -- each filled index has its owner after the grant, if it had him before
      still_owned : AreOwned events → AreOwned (events ++ es)
      still_owned = grind (arith, same, holder_then, settled_then, right_then)

      -- no other party has a right to it
      other_index : {q : ℕ} → q ≢ p → {j o : ℕ} → IsBy q j o events → j ≢ i
      other_index ne is_by is = let ours = (has_right calm).right in grind arith

      -- an index that may be given back is another than `i`
      unsettled : (j o : ℕ) → settled_of j events ≡ Some o → j ≢ i
      unsettled = grind (arith, calm_less)

    -- a step by which the index is granted, or its call ends, does what a turn may do
    pub gives : AreOwn p es → AreRight (SetDoes c) events es → AreRight (AnswersBy by (IsWorn by words') c) events es
        → (IsCalm by (events ++ es) → AreRight HoldsRight events es)
        → (counter_of words' ≡ counter_of ws → counter_of ws < greatest → (j : ℕ) → holder_of j events ≡ None → holder_of j (events ++ es) ≡ None)
        → Does scene words' es
    gives own right answers holds grants =
        hands_on scene good_before words' es leaves_cells keeps_filled (record {
          own = own;
          right = right;
          answers = answers;
          hands = record {
            owned = still_owned;
            holds = holds;
            right = λ calm q ne j o h. right_then j ∙ other_stays done i j (Settled owner) (right_of j events) (other_index calm ne h);
            holder = λ calm q ne j o h. holder_then j ∙ other_stays granted i j (Some owner) (holder_of j events) (other_index calm ne h);
            settled = λ calm j o h none. settled_then j ∙ (other_stays done i j (Some owner) (settled_of j events) (unsettled calm j o h) ∙ h);
          };
          grants = grants;
        })

  -- ---- the step raises the counter as it grants the index

  module _ (words' : List ℕ) (i owner : ℕ)
      (mine : IsCalm by (events ++ Granted p i owner ∷ []) → IsBy p i owner events × (holder_of i events ≡ None))
      (alive : is_dead owner events ≡ false) (raised : IsRaised scene words') where
    -- the event of a grant: the party `p` gets the index `i` for the owner
    abbrev granting : List (Event T)
    granting = Granted p i owner ∷ []

    -- the end of the acquire, with the index as its answer
    abbrev ending : List (Event T)
    ending = Finished p (Robust (Acquire owner)) (Index i) ∷ []

    -- the step leaves the cells and the lock
    stays : Leaves scene words'
    stays = (raised_stays scene inv words' raised).leaves

    -- the grant fills and frees nothing
    keeps : Keeps granting
    keeps = grind arith

    -- what is asked of steps that leave the counter below its end: this step does not, since it raises it
    raises : (es : List (Event T)) → counter_of words' ≡ counter_of ws → counter_of ws < greatest → (j : ℕ) → holder_of j events ≡ None
        → holder_of j (events ++ es) ≡ None
    raises es still less j none = absurd (omega (arith, raised_more scene inv words' raised less))

    -- where the call goes on, the party still has the right to the index, and the owner holds it
    pub owns_then : IsCalm by (events ++ Granted p i owner ∷ [])
        → IsBy p i owner (events ++ Granted p i owner ∷ []) × (holder_of i (events ++ Granted p i owner ∷ []) ≡ Some owner)
    owns_then = grind (arith, fold-append, same_filled, good_before, stays, keeps, at_same)

    -- the grant without the call's end does what a turn may do
    pub grants_alone : Does scene words' (Granted p i owner ∷ [])
    grants_alone =
        let given : GivesIndex words' granting true false i owner =
        record {
          stays = stays;
          keeps = keeps;
          holders = λ j o. refl;
          settled = λ j o. refl;
          rights = λ j r. refl;
          mine = λ calm. (mine calm).0;
        } in
        gives given (refl, tt) ((unlocked scene inv (raised_open scene inv words' raised), alive), tt) (tt, tt) (λ calm. ((mine calm).1, tt)) (raises granting)

    -- the run was well-formed and honest as the index was granted
    by_then : IsCalm by (events ++ (granting ++ ending)) → IsCalm by (events ++ granting)
    by_then calm = calm_less by (events ++ granting) ending (subst (IsCalm by) (sym (append_assoc events granting ending)) calm)

    -- the grant with the call's end does what a turn may do
    pub grants : Does scene words' (Granted p i owner ∷ Finished p (Robust (Acquire owner)) (Index i) ∷ [])
    grants =
        let given : GivesIndex words' (granting ++ ending) true true i owner =
        record {
          stays = stays;
          keeps = record { filled = λ j o. refl; locked = λ b. refl; dead = λ o b. refl };
          holders = λ j o. refl;
          settled = λ j o. refl;
          rights = λ j r. refl;
          mine = λ calm. (mine (by_then calm)).0;
        } in
        gives given (refl, (refl, tt)) ((unlocked scene inv (raised_open scene inv words' raised), alive), (tt, tt)) (tt, (tt, tt))
        (λ calm. ((mine (by_then calm)).1, (tt, tt))) (raises (granting ++ ending))
