-- What a container's steps on its own words do to its set of indices: nothing, but that the end of an add
-- makes its index one that may be given back.
use Rattle.laws_container.proofs.Names.{◌≡◌, ℕ, ◌+◌, ◌≤◌, false, true, None, List, [], ◌∷◌, ◌++◌, length, set}
use Rattle.laws_container.proofs.Names.{refl, ◌∙◌, arith, get_or-set_other, length-set, fold-append}
use Rattle.laws_container.proofs.Names.{locked, Index, Event, Placed, Hidden, Finished, Container}
use Rattle.laws_container.proofs.Names.{holder_after, holder_of, IsCalm, cell, Quiet, GivesIndex, gives, Scene, Inv}
use Rattle.laws_container.proofs.Names.{Good, Does}
use Rattle.model.specs.declared.families.container.ContainerStart.TheVariants.{Add}
use Rattle.laws_robust.proofs.Effects.{Leaves}
use Rattle.laws_container.proofs.Writers.{Adds}

-- `scene` is a turn of party `p` on the set of indices, with the set before it
module _ {T : Type 0} {scene : Scene T} (inv : Inv scene) where
  open scene use {by as by, capacity as c, party as p, turns as turns, events as events}

  abbrev ws : List ℕ
  ws = scene.set.words

  g : Good by c ws scene.set.dead events turns
  g = inv.good

  -- ---- a word behind the cells changes

  -- a store to a word behind the cells leaves the set
  pub leaves_behind : (words' : List ℕ) (n x : ℕ) → 1 + c ≤ n → words' ≡ set ws n x → Leaves scene words'
  leaves_behind = grind (arith, get_or-set_other, length, length-set, cell, locked)

  -- ---- events that change nothing of the set

  -- that a value is placed changes nothing of the set
  pub quiet_placed : {i : ℕ} {value : T} → Quiet (Placed p i value ∷ [])
  quiet_placed = grind arith

  -- that a value is hidden changes nothing of the set
  pub quiet_hidden : (i : ℕ) → Quiet {T = T} (Hidden p i ∷ [])
  quiet_hidden i = grind arith

  -- ---- an add that was granted an index is done

  -- an add that was granted index `i` ends
  module _ {words' : List ℕ} (stays : Leaves scene words') {i owner : ℕ} (value : T)
      (mine : IsCalm by (events ++ Finished p (Container (Add value owner)) (Index i) ∷ []) → Adds p i owner events) where
    abbrev es : List (Event T)
    es = Finished p (Container (Add value owner)) (Index i) ∷ []

    -- the end of the add changes no holder
    same_holder : (j : ℕ) → holder_of j (events ++ es) ≡ holder_of j events
    same_holder j = fold-append (holder_after j) None events es

    -- the end of the add does to the set what a turn may
    pub settles : Does scene words' (Finished p (Container (Add value owner)) (Index i) ∷ [])
    settles =
        let given : GivesIndex scene inv words' es false true i owner =
        record {
          stays = stays;
          keeps = record { filled = λ j o. refl; locked = λ b. refl; dead = λ o b. refl };
          holders = λ j o. refl;
          settled = λ j o. refl;
          rights = λ j r. refl;
          mine = λ calm. (mine calm).by;
        } in
        gives scene inv given (refl, tt) (tt, tt) (tt, tt) (λ calm. (tt, tt)) (λ same less j none. same_holder j ∙ none)
