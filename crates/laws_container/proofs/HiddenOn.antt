-- What a call knows of an index that it will free, or has freed (`HiddenKnows`), after a step of its own.
use Rattle.laws_container.proofs.Names.{◌≡◌, ◌≢◌, ◌⊎◌, ⊎_elim, inl, inr, ℕ, ◌%◌, ◌<◌, Option, None, is_some}
use Rattle.laws_container.proofs.Names.{List, [], ◌∷◌, ◌++◌, refl, sym, ap, subst, ◌∙◌, append-nil, arith}
use Rattle.laws_container.proofs.Names.{fold-append, Event, FreedOf, Hidden, Container, ContainerStart, Party, Coding}
use Rattle.laws_container.proofs.Names.{contents_after, contents_of, EmptySinceFreed, Frees, filled_of, set_acts}
use Rattle.laws_container.proofs.Names.{set_acts_of, IsOneOf, put, Open, span_of, held_later}
use Rattle.laws_container.proofs.Names.{was_one, at_same}
use Rattle.laws_container.proofs.Contents.{IsWhole, WordsShow}
use Rattle.laws_container.proofs.Core.{count_at}
use Rattle.laws_container.proofs.HiddenKnows.{Covered, RecoverCovers, StillStands, HasHidden, no_index}
use Rattle.laws_container.proofs.HiddenLater.{empty_now}
use Rattle.laws_container.proofs.Invariant.{Scene, Inv, before, after, moment, wrote_of}
use Rattle.laws_container.proofs.Stages.{NoReplace, AreInCall, all, set_acts_more, was_well_formed, was_well_formed_calmly}
use Rattle.laws_container.proofs.Turns.{Now, WellFormed, count_in}

-- ---- an index that is exempt no more, since what stood there is hidden

-- party `p` frees indices of the owner in the machine `m`; `c` is the capacity
module _ {T : Type 0} (code : Coding T) (c p owner index count : ℕ) (m : Now T) where
  -- under an even number nothing stands at the index, so all that the call has freed is hidden
  pub hidden_even : (WellFormed m → IsWhole code c m.words m.events) → index < c → count % 2 ≡ 0
      → HasHidden code c p owner (StillStands code c index count m) m → HasHidden code c p owner no_index m
  hidden_even whole below even hidden well_formed i freed = grind arith

  -- where the number is another one by now, what stood under it is hidden
  pub hidden_other : count_in code c m index ≢ count → HasHidden code c p owner (StillStands code c index count m) m → HasHidden code c p owner no_index m
  hidden_other = grind (arith, inl)

-- ---- a step of the call's own

-- a call of the scene's party that is under way under the name `start`, is no replace, and may free indices of `owner`
pub record Freeing (T : Type 0) : Type 0 where
  pub scene : Scene T
  pub inv : Inv scene
  pub start : ContainerStart T
  pub no_replace : NoReplace start
  pub span : span_of scene.party scene.events ≡ Open (Container start) (wrote_of scene.party scene.events)
  pub owner : ℕ

module _ {T : Type 0} (freeing : Freeing T) where
  open freeing use {scene, inv, start, no_replace as none, span, owner}
  open freeing.scene use {coding as code, capacity as c, party as p, latest as latest, events as events}

  -- the step writes nothing, and leaves the words `words'` and the party `y`
  module _ (words' : List ℕ) (y : Party T) where
    abbrev calm : Now T
    calm = moment scene.terms words' (put p y latest) events

    -- what the call has freed is hidden still after a step that writes nothing
    pub hidden_calm : HasHidden code c p owner no_index (before scene) → HasHidden code c p owner no_index calm
    hidden_calm hidden well_formed i freed = hidden (was_well_formed_calmly scene start none span y well_formed) i freed

    -- what stood at the index under the loaded number stands there still, or is hidden, after a step that
    -- leaves the number and writes nothing
    pub stands_calm : (index count : ℕ) → count_at c words' index ≡ count_in code c (before scene) index
        → HasHidden code c p owner (StillStands code c index count (before scene)) (before scene)
        → HasHidden code c p owner (StillStands code c index count calm) calm
    stands_calm index count same hidden well_formed i freed =
        ⊎_elim (λ gone. inl gone) (λ s. inr (s.0, same ∙ s.1, s.2)) (hidden (was_well_formed_calmly scene start none span y well_formed) i freed)

  -- the step writes the events `es`, which free nothing
  module _ (words' : List ℕ) (y : Party T) {es : List (Event T)} (written : AreInCall scene es)
      (frees_none : (i : ℕ) → IsOneOf (Frees i owner) (all scene ++ set_acts es) → IsOneOf (Frees i owner) (all scene)) where
    abbrev then_is : Now T
    then_is = after scene words' y es

    -- what a call has freed is hidden after a step that frees nothing, if each index that was exempt is
    -- exempt still or hidden now
    hidden_so : (But But' : ℕ → Type 0)
        → (WellFormed then_is → (i : ℕ) → IsOneOf (Frees i owner) (set_acts_of p (events ++ es)) → But i
        → EmptySinceFreed p owner i (events ++ es) ⊎ But' i)
        → HasHidden code c p owner But (before scene) → HasHidden code c p owner But' then_is
    hidden_so But But' stays hidden well_formed i freed =
        ⊎_elim (λ gone. inl (held_later p _ events es written.fresh gone)) (λ but. stays well_formed i freed but)
        (hidden (was_well_formed scene start none span words' y es written.own well_formed) i
        (frees_none i (subst (IsOneOf (Frees i owner)) (set_acts_more scene start span es written.own written.longer) freed)))

    -- what the call has freed is hidden still after a step that frees nothing
    pub hidden_on : HasHidden code c p owner no_index (before scene) → HasHidden code c p owner no_index then_is
    hidden_on hidden = hidden_so no_index no_index (λ well_formed i freed but. absurd but) hidden

    -- after a step that leaves the number and what stands at the index, that index alone is exempt still
    pub stands_on : (index count : ℕ) → count_at c words' index ≡ count_in code c (before scene) index
        → contents_of index (events ++ es) ≡ contents_of index events
        → HasHidden code c p owner (StillStands code c index count (before scene)) (before scene)
        → HasHidden code c p owner (StillStands code c index count then_is) then_is
    stands_on index count same contents hidden =
        hidden_so (StillStands code c index count (before scene)) (StillStands code c index count then_is)
        (λ well_formed i freed s. inr (s.0, same ∙ s.1, ap is_some contents ∙ s.2)) hidden

    -- after a step that leaves nothing at the index, no index is exempt
    pub hidden_now : (index count : ℕ) → contents_of index (events ++ es) ≡ None
        → HasHidden code c p owner (StillStands code c index count (before scene)) (before scene)
        → HasHidden code c p owner no_index then_is
    hidden_now index count nothing hidden =
        hidden_so (StillStands code c index count (before scene)) no_index
        (λ well_formed i freed s. inl (empty_now p owner i index (events ++ es) freed s.0 nothing)) hidden

  -- after a step that leaves the number and the owner of the index, the loaded number covers
  -- what stands there still
  pub covers_on : (words' : List ℕ) (y : Party T) {es : List (Event T)} → AreInCall scene es → (index count : ℕ)
      → count_at c words' index ≡ count_in code c (before scene) index
      → filled_of index (events ++ es) ≡ filled_of index events → RecoverCovers code c owner index count (before scene)
      → RecoverCovers code c owner index count (after scene words' y es)
  covers_on words' y {es} written index count same still covered well_formed filled =
      ⊎_elim (λ is. inl (same ∙ is)) (λ even. inr (ap (λ n. n % 2) same ∙ even))
      (covered (was_well_formed scene start none span words' y es written.own well_formed) (sym still ∙ filled))

  -- after a step that hides what stood at the index, no index is exempt
  pub hides_it : (words' : List ℕ) (y : Party T) (index count : ℕ)
      → HasHidden code c p owner (StillStands code c index count (before scene)) (before scene)
      → HasHidden code c p owner no_index (after scene words' y (Hidden p index ∷ []))
  hides_it words' y index count hidden =
      hidden_now words' y (record { own = (refl, tt); fresh = tt; longer = λ start w. refl })
      (λ i freed. subst (IsOneOf (Frees i owner)) (append-nil (all scene)) freed) index count
      (fold-append (contents_after index) None events (Hidden p index ∷ []) ∙ at_same index index None (contents_of index events) refl) hidden

  -- ---- it frees an index

  -- the step frees `index`, and leaves the number of its element
  module _ (index count : ℕ) (below : index < c) (words' : List ℕ) (y : Party T)
      (same : count_at c words' index ≡ count_in code c (before scene) index) where
    abbrev free : List (Event T)
    free = FreedOf p index owner ∷ []

    abbrev freed_is : Now T
    freed_is = after scene words' y free

    -- the call has done to the set what it had done, and has freed the index
    set_acts_then : set_acts_of p (events ++ free) ≡ all scene ++ Frees index owner ∷ []
    set_acts_then = set_acts_more scene start span free (refl, tt) (λ start w. refl)

    -- the freeing of the index leaves what stands there
    same_contents : contents_of index (events ++ free) ≡ contents_of index events
    same_contents = fold-append (contents_after index) None events free

    -- what stood at the freed index stands under the loaded number, or nothing stands there
    freed_now : (i : ℕ) → IsOneOf (Frees i owner) (set_acts_of p (events ++ free)) → i ≡ index
        → Covered code c index count (before scene) → (o : Option T) → contents_of index events ≡ o
        → WordsShow code c scene.words index o
        → EmptySinceFreed p owner i (events ++ free) ⊎ StillStands code c index count freed_is i
    freed_now = grind (arith, inl, empty_now, same_contents, inr, is_some)

    -- once an index is freed, all that was freed earlier is hidden still, and this index is exempt while what
    -- stood there stands
    pub hidden_freed : HasHidden code c p owner no_index (before scene)
        → (WellFormed (before scene) → WellFormed freed_is → Covered code c index count (before scene))
        → HasHidden code c p owner (StillStands code c index count freed_is) freed_is
    hidden_freed hidden covered well_formed i freed =
        let earlier = was_well_formed scene start none span words' y free (refl, tt) well_formed in
        ⊎_elim
        (λ had. ⊎_elim (λ gone. inl (held_later p _ events free tt gone)) (λ never. absurd never) (hidden earlier i had))
        (λ e. let same_index : index ≡ i = cc in
        freed_now i freed (sym same_index) (covered earlier well_formed) (contents_of index events) refl
        (inv.elements.whole earlier index below))
        (was_one (Frees i owner) (Frees index owner) (all scene) (subst (IsOneOf (Frees i owner)) set_acts_then freed))
