-- A step that locks the set does what a turn may do (`Does`, Invariant).
use Rattle.laws_robust.proofs.Names.{◌<◌, ◌≡◌, ℕ, true, false, None, List, [], ◌∷◌, ◌++◌, length, set, refl, sym, ap}
use Rattle.laws_robust.proofs.Names.{◌∙◌, arith, eq-eqb, length-set, fold-append, locked, greatest, Event, Locked}
use Rattle.laws_robust.proofs.Names.{locked_after, is_locked, cell_of, SetDoes, HoldsRight, set_acts, filled_after}
use Rattle.laws_robust.proofs.Names.{filled_of, holder_after, holder_of, settled_after, settled_of, dead_after}
use Rattle.laws_robust.proofs.Names.{is_dead, wrote_in, others_begin_none, AreRight, AreOwn, Each-append}
use Rattle.laws_robust.proofs.Names.{span_of-other}
use Rattle.laws_robust.specs.Gone.{IsCalm, AnswersBy}
use Rattle.laws_robust.proofs.Core.{counter_of, cell, counter_set, cells_stay}
use Rattle.laws_robust.proofs.Effects.{Quiet, well_formed_less, not_shut, unlocked}
use Rattle.lemmas_owners.proofs.Choices.{both_ways}
use Rattle.laws_robust.proofs.Gone.{calm_less, answers_on}
use Rattle.laws_robust.proofs.Invariant.{IsWorn, worn_on, Scene, Inv, Good, Does}
use Rattle.laws_robust.proofs.Rights.{right_after, right_of, AreOwned}

module _ {T : Type 0} (scene : Scene T) (inv : Inv scene) where
  open scene use {by as by, capacity as c, party as p, turns as turns, events as events}

  -- the words of the set before the step
  abbrev ws : List ℕ
  ws = scene.set.words

  good_before : Good by c ws scene.set.dead events turns
  good_before = inv.good

  -- the step sets the counter to locked, while nobody holds an index; `more` is the end of its call behind
  -- the lock, if any
  module _ {words' : List ℕ} {more : List (Event T)} (quiet : Quiet more) (own : AreOwn p more) (right : AreRight (SetDoes c) (events ++ Locked p ∷ []) more)
      (answers : AreRight (AnswersBy by (IsWorn by words') c) (events ++ Locked p ∷ []) more)
      (none : IsCalm by events → (i : ℕ) → holder_of i events ≡ None) (less : counter_of ws < greatest)
      (new : words' ≡ set ws 0 locked) where
    -- the events of the step, of which the first tells the lock
    abbrev es : List (Event T)
    es = Locked p ∷ more

    -- the counter after the step is that of a locked set
    shut : counter_of words' ≡ locked
    shut = let wide = good_before.wide in ap counter_of new ∙ counter_set ws locked (omega arith)

    -- the lock leaves what each index is filled with
    same_filled : (j : ℕ) → filled_of j (events ++ es) ≡ filled_of j events
    same_filled j = fold-append (filled_after j) None events es ∙ quiet.filled j (filled_of j events)

    -- the lock leaves the holder of each index
    same_holder : (j : ℕ) → holder_of j (events ++ es) ≡ holder_of j events
    same_holder j = fold-append (holder_after j) None events es ∙ quiet.holder j (holder_of j events)

    -- the lock leaves with whom each index is settled
    same_settled : (j : ℕ) → settled_of j (events ++ es) ≡ settled_of j events
    same_settled j = fold-append (settled_after j) None events es ∙ quiet.settled j (settled_of j events)

    -- the lock leaves the right to each index
    same_right : (j : ℕ) → right_of j (events ++ es) ≡ right_of j events
    same_right j = fold-append (right_after j) _ events es ∙ quiet.right j (right_of j events)

    -- the lock leaves each owner dead or alive
    same_dead : (o : ℕ) → is_dead o (events ++ es) ≡ is_dead o events
    same_dead o = fold-append (dead_after o) false events es ∙ quiet.dead o (is_dead o events)

    -- after the step the events say that the set is locked
    now_locked : is_locked (events ++ es) ≡ true
    now_locked = fold-append locked_after false events es ∙ quiet.locked true

    -- each filled index has its owner after the lock, if it had him before
    still_owned : IsCalm by (events ++ es) → AreOwned (events ++ es)
    still_owned = grind (arith, calm_less, same_filled, same_holder, same_settled, same_right)

    -- the step that locks does what a turn may do
    pub locks : Does scene words' (Locked p ∷ more)
    locks =
        record {
          own = (refl, own);
          -- what holds of the set before the turn holds after it
          good =
              record {
                some = good_before.some;
                few = good_before.few;
                wide = let same = ap length new ∙ length-set ws 0 locked in let wide = good_before.wide in omega arith;
                cells = λ i below. ap (λ w. cell w i) new ∙ (cells_stay ws locked i ∙ (good_before.cells i below ∙ sym (ap cell_of (same_filled i))));
                filled = λ i owner e. good_before.filled i owner (sym (same_filled i) ∙ e);
                lock = eq-eqb (counter_of words') locked shut ∙ sym now_locked;
                low = λ t. both_ways (is_locked (events ++ es)) t now_locked;
                bound = omega (arith, shut);
                died = λ o. good_before.died o ∙ sym (same_dead o);
                does = Each-append (SetDoes c) events es good_before.does (unlocked scene inv (not_shut scene inv less), right);
                answers =
                    Each-append (AnswersBy by (IsWorn by words') c) events es
                    (answers_on (IsWorn by ws) (IsWorn by words') (worn_on by ws words' (λ end. absurd (omega arith)))
                    by c events good_before.answers)
                    (tt, answers);
                owned = still_owned;
                holds =
                    λ calm. let less = calm_less by events es calm in
                    Each-append HoldsRight events es (good_before.holds less) (none less, quiet.holds (events ++ Locked p ∷ []));
              };
          -- the turn does to any party no more than a turn may do
          goes =
              let bound = good_before.bound in
              let filled = same_filled in
              let holder = same_holder in
              let dead = same_dead in
              let well_formed = well_formed_less events es in
              grind (arith, shut);
          -- each other party keeps its right to an index, and what it has done
          spares = λ q ne.
              record {
                none = others_begin_none q p es ne (refl, own);
                set_acts = ap (λ s. set_acts (wrote_in s)) (span_of-other p q events es ne (refl, own));
                owned = λ calm i owner alive h. record { right = same_right i ∙ h.right; filled = same_filled i ∙ h.filled };
                unheld = λ calm i owner alive h unheld. same_holder i ∙ unheld;
                held = λ calm i owner alive h here. same_holder i ∙ here;
                settled = λ calm i owner alive h none. same_settled i ∙ h;
              };
        }
