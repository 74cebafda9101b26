-- A step that frees an index does what a turn may do (`Does`, Invariant).
use Rattle.laws_robust.proofs.Names.{◌≡◌, ◌≢◌, ℕ, ◌<◌, ◌==◌, if◌then◌else◌, false, Some, None, List, [], ◌∷◌, ◌++◌}
use Rattle.laws_robust.proofs.Names.{length, set, refl, sym, ap, ◌∙◌, arith, length-set, fold-append, cell_word}
use Rattle.laws_robust.proofs.Names.{empty, locked, Event, FreedOf, locked_after, is_locked, cell_of, SetDoes}
use Rattle.laws_robust.proofs.Names.{HoldsRight, LivesToRelease, set_acts, filled_after, filled_of, holder_after}
use Rattle.laws_robust.proofs.Names.{holder_of, settled_after, settled_of, dead_after, is_dead, wrote_in, span_of}
use Rattle.laws_robust.proofs.Names.{Each-append, span_of-other}
use Rattle.laws_robust.specs.Gone.{is_gone, IsCalm, AnswersBy}
use Rattle.laws_robust.proofs.Core.{counter_of, cell, counter_stays, cell_set, cell_stays}
use Rattle.laws_robust.proofs.Effects.{well_formed_less}
use Rattle.laws_robust.proofs.Gone.{calm_less, answers_on}
use Rattle.laws_robust.proofs.Invariant.{IsWorn, worn_on, Scene, Inv, Good, Does}
use Rattle.laws_robust.proofs.Rights.{Nobody, right_after, right_of, IsBy, AreOwned}

module _ {T : Type 0} (scene : Scene T) (inv : Inv scene) where
  open scene use {by as by, capacity as c, party as p, turns as turns, events as events}

  -- the words of the set before the step
  abbrev ws : List ℕ
  ws = scene.set.words

  abbrev dead : List ℕ
  dead = scene.set.dead

  good_before : Good by c ws dead events turns
  good_before = inv.good

  abbrev pub free : ℕ → ℕ → List (Event T)
  free i owner = FreedOf p i owner ∷ []

  -- the step empties the cell of the index `i`, which is filled with the owner, and no other living owner's
  -- call may give it back
  module _ {words' : List ℕ} {i owner : ℕ} (below : i < c) (filled : filled_of i events ≡ Some owner) (lives : LivesToRelease owner events (span_of p events))
      (mine : IsCalm by (events ++ free i owner) → (q : ℕ) → q ≢ p → (o : ℕ) → is_gone by o events ≡ false → IsBy q i o events → ⊥)
      (unsettled : IsCalm by (events ++ free i owner) → (o : ℕ) → is_gone by o events ≡ false → settled_of i events ≡ Some o → ⊥)
      (new : words' ≡ set ws (cell_word i) empty) where
    -- the event of a free: the index `i` no longer has the owner
    abbrev es : List (Event T)
    es = FreedOf p i owner ∷ []

    -- after the free the index is filled with nobody, and any other index as before
    filled_then : (j : ℕ) → filled_of j (events ++ es) ≡ (if i == j then None else filled_of j events)
    filled_then j = fold-append (filled_after j) None events es

    -- after the free nobody holds the index, and any other index is held as before
    holder_then : (j : ℕ) → holder_of j (events ++ es) ≡ (if i == j then None else holder_of j events)
    holder_then j = fold-append (holder_after j) None events es

    -- after the free the index is settled with nobody, and any other index as before
    settled_then : (j : ℕ) → settled_of j (events ++ es) ≡ (if i == j then None else settled_of j events)
    settled_then j = fold-append (settled_after j) None events es

    -- after the free nobody has a right to the index, and to any other index as before
    right_then : (j : ℕ) → right_of j (events ++ es) ≡ (if i == j then Nobody else right_of j events)
    right_then j = fold-append (right_after j) _ events es

    -- the free leaves the set unlocked, or locked
    same_lock : is_locked (events ++ es) ≡ is_locked events
    same_lock = fold-append locked_after false events es

    -- the free leaves each owner dead or alive
    same_dead : (o : ℕ) → is_dead o (events ++ es) ≡ is_dead o events
    same_dead o = fold-append (dead_after o) false events es

    -- the word of the cell is one of the set's
    within_words : cell_word i < length ws
    within_words = let wide = good_before.wide in omega arith

    -- the exchange of the cell leaves the counter
    counter_same : counter_of words' ≡ counter_of ws
    counter_same = ap counter_of new ∙ counter_stays ws i empty

    -- each cell has after the free what the events say
    cells_then : (j : ℕ) → j < c → cell words' j ≡ cell_of (filled_of j (events ++ es))
    cells_then = grind (arith, filled_then, cell_set, empty, within_words, cell_stays)

    -- what is filled after the free was filled so before
    filled_was : (j o : ℕ) → filled_of j (events ++ es) ≡ Some o → filled_of j events ≡ Some o
    filled_was j o filled_is = grind (arith, filled_then j)

    -- each filled index has its owner after the free, if it had him before
    still_owned : AreOwned events → AreOwned (events ++ es)
    still_owned = grind (arith, filled_then, holder_then, settled_then, right_then)

    -- an index that nobody held is still held by nobody
    unheld_then : (j : ℕ) → holder_of j events ≡ None → holder_of j (events ++ es) ≡ None
    unheld_then j none = grind (arith, holder_then j)

    -- other parties keep their right to their indices
    owned_then : IsCalm by (events ++ es) → (q : ℕ) → q ≢ p → (j o : ℕ) → is_gone by o events ≡ false → IsBy q j o events → IsBy q j o (events ++ es)
    owned_then = grind (arith, filled_then, right_then)

    -- a step that empties the cell of an index that may be freed does to the set what it may
    pub frees : Does scene words' (free i owner)
    frees =
        record {
          own = (refl, tt);
          -- what holds of the set before the turn holds after it
          good =
              record {
                some = good_before.some;
                few = good_before.few;
                wide = let same = ap length new ∙ length-set ws (cell_word i) empty in let wide = good_before.wide in omega arith;
                cells = cells_then;
                filled = λ j o e. good_before.filled j o (filled_was j o e);
                lock = ap (λ n. n == locked) counter_same ∙ (good_before.lock ∙ sym same_lock);
                low = λ t. omega (arith, good_before.low (sym same_lock ∙ t), counter_same);
                bound = let bound = good_before.bound in omega (arith, counter_same);
                died = λ o. good_before.died o ∙ sym (same_dead o);
                does = Each-append (SetDoes c) events es good_before.does ((filled, lives), tt);
                answers =
                    Each-append (AnswersBy by (IsWorn by words') c) events es
                    (answers_on (IsWorn by ws) (IsWorn by words') (worn_on by ws words' (λ end. counter_same ∙ end)) by c events good_before.answers)
                    (tt, tt);
                owned = λ calm. still_owned (good_before.owned (calm_less by events es calm));
                holds = λ calm. Each-append HoldsRight events es (good_before.holds (calm_less by events es calm)) (tt, tt);
              };
          -- the turn does to any party no more than a turn may do
          goes =
              let same = counter_same in let filled = filled_was in let unheld = unheld_then in let dead = same_dead in
              let less = well_formed_less events es in grind arith;
          -- each other party keeps its right to an index, and what it has done
          spares = λ q ne.
              record {
                none = tt;
                set_acts = ap (λ s. set_acts (wrote_in s)) (span_of-other p q events es ne (refl, tt));
                owned = λ calm j o alive h. owned_then calm q ne j o alive h;
                unheld = λ calm j o alive h none. unheld_then j none;
                held = λ calm j o alive h here. let none = mine calm q ne o alive in grind (arith, holder_then j);
                settled = λ calm j o alive h none. let not = unsettled calm o alive in grind (arith, settled_then j);
              };
        }
