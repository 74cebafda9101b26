-- What each kind of step does to a robust index set and to the other parties: it does what a turn may do
-- (`Does`, Invariant).
use Rattle.laws_robust.proofs.Names.{◌⊎◌, ◌≡◌, ◌≢◌, ℕ, ◌+◌, ◌<◌, ◌≤◌, ◌==◌, ⊎_elim, if◌then◌else◌, Bool, true, false}
use Rattle.laws_robust.proofs.Names.{Option, Some, None, List, [], ◌∷◌, ◌++◌, length, get_or, set, get_or-set_other}
use Rattle.laws_robust.proofs.Names.{fold, refl, sym, ap, ◌∙◌, append_assoc, arith, eq-eqb, ne_eqb, length-set}
use Rattle.laws_robust.proofs.Names.{fold-append, cell_word, empty, locked, greatest, Answer, Event, Filled, Asked}
use Rattle.laws_robust.proofs.Names.{Told, Finished, Start, NoneTakes, locked_after, is_locked, cell_of, SetDoes}
use Rattle.laws_robust.proofs.Names.{IsWellFormed, HoldsRight, IsUnlocked, set_acts, filled_after, filled_of}
use Rattle.laws_robust.proofs.Names.{holder_after, holder_of, settled_after, settled_of, dead_after, is_dead}
use Rattle.laws_robust.proofs.Names.{wrote_in, HeldSometime, others_begin_none, AreRight, Each-append, AreOwn}
use Rattle.laws_robust.proofs.Names.{span_of-other}
use Rattle.laws_robust.specs.Gone.{IsCalm, AnswersBy}
use Rattle.laws_robust.proofs.Core.{counter_of, cell, counter_set, cells_stay, counter_stays, cell_set, cell_stays}
use Rattle.laws_robust.proofs.Gone.{calm_less, answers_on}
use Rattle.laws_robust.proofs.Invariant.{IsWorn, worn_on, Scene, Inv, Good, Does}
use Rattle.laws_robust.proofs.Rights.{Right, By, right_after, right_of, IsBy, AreOwned}

-- a right names one party
pub one_party : {r : Right} (p q : ℕ) → r ≡ By p → r ≡ By q → q ≡ p
one_party p q a b = let same : By q ≡ By p = sym b ∙ a in cc

module _ {T : Type 0} where
  -- ---- events that change nothing of the set

  -- Events that leave, whatever stood before them, who fills, holds and settled each index, who has the
  -- right to it, the lock and the dead.
  pub record Quiet (es : List (Event T)) : Type 0 where
    -- who fills, holds and settled each index, and who has the right to it
    pub filled : (i : ℕ) (o : Option ℕ) → fold (filled_after i) o es ≡ o
    pub holder : (i : ℕ) (o : Option ℕ) → fold (holder_after i) o es ≡ o
    pub settled : (i : ℕ) (o : Option ℕ) → fold (settled_after i) o es ≡ o
    pub right : (i : ℕ) (r : Right) → fold (right_after i) r es ≡ r
    -- whether the set is locked, and who is dead
    pub locked : (b : Bool) → fold locked_after b es ≡ b
    pub dead : (owner : ℕ) (b : Bool) → fold (dead_after owner) b es ≡ b
    -- an event that grants an index, or locks the set, finds nobody who holds it
    pub holds : (before : List (Event T)) → AreRight HoldsRight before es

  -- events by which no index is filled or freed, nothing is locked and nobody dies
  pub record Keeps (es : List (Event T)) : Type 0 where
    pub filled : (i : ℕ) (o : Option ℕ) → fold (filled_after i) o es ≡ o
    pub locked : (b : Bool) → fold locked_after b es ≡ b
    pub dead : (owner : ℕ) (b : Bool) → fold (dead_after owner) b es ≡ b

  -- the empty list of events changes nothing of the set
  pub quiet_none : Quiet []
  quiet_none = grind arith

  -- a question changes nothing of the set
  pub quiet_asked : {p index owner : ℕ} → Quiet (Asked p index owner ∷ [])
  quiet_asked = grind arith

  -- the answer to a question changes nothing of the set
  pub quiet_told : {p index owner : ℕ} → Quiet (Told p index owner ∷ [])
  quiet_told = grind arith

  -- where the end of a call settles no index and leaves each right (as any does but that of an acquire or an
  -- add with an index), it changes nothing of the set
  pub quiet_end : (p : ℕ) (start : Start T) (answer : Answer T) → ((i : ℕ) (o : Option ℕ) → settled_after i o (Finished p start answer) ≡ o)
      → ((i : ℕ) (r : Right) → right_after i r (Finished p start answer) ≡ r) → Quiet (Finished p start answer ∷ [])
  quiet_end p start answer settles rights = grind arith

  -- the first part of a well-formed history is well-formed
  pub well_formed_less : (events es : List (Event T)) → IsWellFormed (events ++ es) → IsWellFormed events
  well_formed_less = grind (arith, append_assoc)

module _ {T : Type 0} (scene : Scene T) where
  open scene use {by as by, capacity as c, party as p, turns as turns, events as events}

  -- the words of the set before the step
  abbrev ws : List ℕ
  ws = scene.set.words

  -- the owners that are dead before the turn
  abbrev dead : List ℕ
  dead = scene.set.dead

  -- ---- words in which no cell has changed

  -- these words have the same cells and the same lock, and a counter that is no less and no
  -- greater than it may be
  pub record Leaves (words' : List ℕ) : Type 0 where
    -- the cells and the lock are as before
    pub wide : length words' ≡ length ws
    pub cells : (i : ℕ) → i < c → cell words' i ≡ cell ws i
    pub lock : (counter_of words' == locked) ≡ (counter_of ws == locked)
    -- how far the counter may go
    pub low : (counter_of ws == locked) ≡ false → counter_of words' ≤ turns
    pub grows : counter_of ws ≤ counter_of words'
    pub bound : counter_of words' ≤ locked
    pub stuck : counter_of ws ≡ greatest → counter_of words' ≡ greatest

  -- these words differ in the counter alone
  pub record Stays (words' : List ℕ) : Type 0 where
    pub leaves : Leaves words'
    pub others : (n : ℕ) → 1 ≤ n → get_or words' n 0 ≡ get_or ws n 0

  -- the counter goes up by one, unless it is at its end
  abbrev pub IsRaised : List ℕ → Type 0
  IsRaised words' =
      ((counter_of ws < greatest) × (words' ≡ set ws 0 (counter_of ws + 1)))
      ⊎ (IsWorn by ws × (counter_of ws ≡ greatest) × (words' ≡ ws))

  -- ---- a step that leaves the cells and the lock, with events by which nothing is filled or freed and
  -- nobody dies

  -- where the run stays well-formed and honest: indices are held, may be given back and are settled rightly
  -- after the events, and other parties keep their rights
  pub record Hands (es : List (Event T)) : Type 0 where
    -- indices are held and settled rightly after the events
    pub owned : IsCalm by (events ++ es) → AreOwned events → AreOwned (events ++ es)
    pub holds : IsCalm by (events ++ es) → AreRight HoldsRight events es
    -- other parties keep their rights, and owners the indices that are settled with them
    pub right : IsCalm by (events ++ es) → (q : ℕ) → q ≢ p → (i owner : ℕ) → IsBy q i owner events
        → right_of i (events ++ es) ≡ right_of i events
    pub holder : IsCalm by (events ++ es) → (q : ℕ) → q ≢ p → (i owner : ℕ) → IsBy q i owner events
        → holder_of i (events ++ es) ≡ holder_of i events
    pub settled : IsCalm by (events ++ es) → (i owner : ℕ) → settled_of i events ≡ Some owner → NoneTakes i owner es
        → settled_of i (events ++ es) ≡ Some owner

  -- the step leaves the cells and the lock (`stays`), and its events fill and free nothing (`keeps`)
  module _ (good : Good by c ws dead events turns) (words' : List ℕ) (es : List (Event T)) (stays : Leaves words') (keeps : Keeps es) where
    -- the events leave what each index is filled with
    pub same_filled : (i : ℕ) → filled_of i (events ++ es) ≡ filled_of i events
    same_filled i = fold-append (filled_after i) None events es ∙ keeps.filled i (filled_of i events)

    -- the events leave the set unlocked, or locked
    same_lock : is_locked (events ++ es) ≡ is_locked events
    same_lock = fold-append locked_after false events es ∙ keeps.locked (is_locked events)

    -- the events leave each owner dead or alive as he was
    same_dead : (owner : ℕ) → is_dead owner (events ++ es) ≡ is_dead owner events
    same_dead owner = fold-append (dead_after owner) false events es ∙ keeps.dead owner (is_dead owner events)

    -- What has to be shown of such a step: its events are the party's, are right in what they do to the set and in their answers, hand on
    -- the indices as they may (`Hands`), and where the counter stays as it was, below its end, they grant no index.
    pub record HandsOn : Type 0 where
      pub own : AreOwn p es
      pub right : AreRight (SetDoes c) events es
      pub answers : AreRight (AnswersBy by (IsWorn by words') c) events es
      pub hands : Hands es
      pub grants : counter_of words' ≡ counter_of ws → counter_of ws < greatest → (i : ℕ) → holder_of i events ≡ None → holder_of i (events ++ es) ≡ None

    -- such a step does what a turn may do
    pub hands_on : HandsOn → Does scene words' es
    hands_on shown =
        let own = shown.own in
        let hands = shown.hands in
        record {
          own = own;
          -- what holds of the set before the turn holds after it
          good =
              record {
                some = good.some;
                few = good.few;
                wide = let same = stays.wide in let wide = good.wide in omega arith;
                cells = λ i below. stays.cells i below ∙ (good.cells i below ∙ sym (ap cell_of (same_filled i)));
                filled = λ i owner e. good.filled i owner (sym (same_filled i) ∙ e);
                lock = stays.lock ∙ (good.lock ∙ sym same_lock);
                low = λ t. let low = stays.low (good.lock ∙ (sym same_lock ∙ t)) in omega arith;
                bound = stays.bound;
                died = λ owner. good.died owner ∙ sym (same_dead owner);
                does = Each-append (SetDoes c) events es good.does shown.right;
                answers =
                    Each-append (AnswersBy by (IsWorn by words') c) events es
                    (answers_on (IsWorn by ws) (IsWorn by words') (worn_on by ws words' stays.stuck) by c events good.answers)
                    shown.answers;
                owned = λ calm. hands.owned calm (good.owned (calm_less by events es calm));
                holds = λ calm. Each-append HoldsRight events es (good.holds (calm_less by events es calm)) (hands.holds calm);
              };
          -- the turn does to any party no more than a turn may do
          goes = let grants = shown.grants in let filled = same_filled in let dead = same_dead in let less = well_formed_less events es in grind arith;
          -- each other party keeps its right to an index, and what it has done
          spares = λ q ne.
              record {
                none = others_begin_none q p es ne own;
                set_acts = ap (λ s. set_acts (wrote_in s)) (span_of-other p q events es ne own);
                owned = λ calm i owner alive h. record { right = hands.right calm q ne i owner h ∙ h.right; filled = same_filled i ∙ h.filled };
                unheld = λ calm i owner alive h none. hands.holder calm q ne i owner h ∙ none;
                held = λ calm i owner alive h here. hands.holder calm q ne i owner h ∙ here;
                settled = λ calm i owner alive h none. hands.settled calm i owner h none;
              };
        }

  -- facts from the invariant about the words before the step
  module _ (inv : Inv scene) where
    good_before : Good by c ws dead events turns
    good_before = inv.good

    -- a counter before its end is not that of the lock
    pub not_shut : counter_of ws < greatest → counter_of ws ≢ locked
    not_shut less shut = absurd (omega arith)

    -- where the counter is not that of a locked set, the events say that it is unlocked
    pub unlocked : counter_of ws ≢ locked → is_locked events ≡ false
    unlocked open_now = sym good_before.lock ∙ ne_eqb (counter_of ws) locked open_now

    -- where the counter is the one of a locked set, the events say that it is locked
    pub is_shut : counter_of ws ≡ locked → is_locked events ≡ true
    is_shut shut = sym good_before.lock ∙ eq-eqb (counter_of ws) locked shut

    -- words that are the same differ at most in the counter
    pub stays_same : (words' : List ℕ) → words' ≡ ws → Stays words'
    stays_same words' same = grind arith

    -- a step that only raises the counter, below its end, leaves what `Stays` says
    pub stays_raised : (words' : List ℕ) → counter_of ws < greatest → words' ≡ set ws 0 (counter_of ws + 1) → Stays words'
    stays_raised = grind (arith, counter_set, length, length-set, cell, cells_stay, ne_eqb, locked, not_shut, get_or-set_other)

    -- the step has raised the counter, or left it at its end
    module _ (words' : List ℕ) (raised : IsRaised words') where
      -- a counter that is raised is not that of a locked set
      pub raised_open : counter_of ws ≢ locked
      raised_open = grind (arith, not_shut)

      -- the step leaves what `Stays` says
      pub raised_stays : Stays words'
      raised_stays = ⊎_elim (λ h. stays_raised words' h.0 h.1) (λ h. stays_same words' h.2) raised

      -- below its end the counter is one more after the step
      pub raised_more : counter_of ws < greatest → counter_of words' ≡ counter_of ws + 1
      raised_more = grind (arith, counter_set)

    -- the cell of an index tells with which owner it is filled
    module _ (i : ℕ) (below : i < c) where
      -- a cell with an owner is filled with him by the events
      pub filled_by : (owner : ℕ) → owner < empty → cell ws i ≡ owner → filled_of i events ≡ Some owner
      filled_by owner fits here = grind (arith, good_before.cells i below)

      -- by the events an index with an empty cell is not filled
      pub filled_none : cell ws i ≡ empty → filled_of i events ≡ None
      filled_none here = let fits = good_before.filled i in grind (arith, good_before.cells i below)

      -- a cell that is not empty holds an owner
      pub filled_some : cell ws i ≢ empty → (cell ws i < empty) × (filled_of i events ≡ Some (cell ws i))
      filled_some other = let fits = good_before.filled i in grind (arith, good_before.cells i below)

    -- ---- a step whose events are quiet

    module _ (words' : List ℕ) (es : List (Event T)) (stays : Leaves words') (quiet : Quiet es) (own : AreOwn p es)
        (right : AreRight (SetDoes c) events es)
        (answers : AreRight (AnswersBy by (IsWorn by words') c) events es) where
      -- quiet events fill and free nothing
      keeps : Keeps es
      keeps = record { filled = quiet.filled; locked = quiet.locked; dead = quiet.dead }

      -- quiet events leave what each index is filled with
      filled_more : (i : ℕ) → filled_of i (events ++ es) ≡ filled_of i events
      filled_more i = same_filled good_before words' es stays keeps i

      -- quiet events leave the holder of each index
      holder_more : (i : ℕ) → holder_of i (events ++ es) ≡ holder_of i events
      holder_more i = fold-append (holder_after i) None events es ∙ quiet.holder i (holder_of i events)

      -- quiet events leave with whom each index is settled
      settled_more : (i : ℕ) → settled_of i (events ++ es) ≡ settled_of i events
      settled_more i = fold-append (settled_after i) None events es ∙ quiet.settled i (settled_of i events)

      -- quiet events leave the right to each index
      right_more : (i : ℕ) → right_of i (events ++ es) ≡ right_of i events
      right_more i = fold-append (right_after i) _ events es ∙ quiet.right i (right_of i events)

      -- each filled index has its owner after the events, if it had him before
      still_owned : AreOwned events → AreOwned (events ++ es)
      still_owned = grind (arith, filled_more, holder_more, settled_more, right_more)

      -- a step that leaves the cells and the lock, and whose events are quiet, does what a turn may do
      pub quietly : Does scene words' es
      quietly =
          hands_on good_before words' es stays keeps (record {
            own = own;
            right = right;
            answers = answers;
            hands = record {
              owned = λ calm. still_owned;
              holds = λ calm. quiet.holds events;
              right = λ calm q ne i owner h. right_more i;
              holder = λ calm q ne i owner h. holder_more i;
              settled = λ calm i owner h none. settled_more i ∙ h;
            };
            grants = λ same less i none. holder_more i ∙ none;
          })

    -- ---- an index is filled

    -- the step stores the owner into the empty cell of `i`, while the set was open at a moment of the call
    module _ {words' : List ℕ} {i owner : ℕ} (below : i < c) (fits : owner < empty)
        (none : filled_of i events ≡ None) (alive : is_dead owner events ≡ false)
        (was_open : HeldSometime p IsUnlocked events)
        (new : words' ≡ set ws (cell_word i) owner) where
      -- the event of a fill: the index `i` has the owner
      abbrev fill : List (Event T)
      fill = Filled p i owner ∷ []

      -- after the fill the index is filled with the owner, and any other index as before
      filled_then : (j : ℕ) → filled_of j (events ++ fill) ≡ (if i == j then Some owner else filled_of j events)
      filled_then j = fold-append (filled_after j) None events fill

      -- after the fill the right to the index is the party's, and to any other index as before
      fill_right : (j : ℕ) → right_of j (events ++ fill) ≡ (if i == j then By p else right_of j events)
      fill_right j = fold-append (right_after j) _ events fill

      -- the fill leaves the holder of each index
      fill_holder : (j : ℕ) → holder_of j (events ++ fill) ≡ holder_of j events
      fill_holder j = fold-append (holder_after j) None events fill

      -- the fill leaves with whom each index is settled
      fill_settled : (j : ℕ) → settled_of j (events ++ fill) ≡ settled_of j events
      fill_settled j = fold-append (settled_after j) None events fill

      -- the fill leaves the set unlocked, or locked
      fill_locked : is_locked (events ++ fill) ≡ is_locked events
      fill_locked = fold-append locked_after false events fill

      -- the fill leaves each owner dead or alive
      fill_dead : (o : ℕ) → is_dead o (events ++ fill) ≡ is_dead o events
      fill_dead o = fold-append (dead_after o) false events fill

      -- the word of the cell is one of the set's
      within_words : cell_word i < length ws
      within_words = let wide = good_before.wide in omega arith

      -- each cell has after the fill what the events say
      fill_cells : (j : ℕ) → j < c → cell words' j ≡ cell_of (filled_of j (events ++ fill))
      fill_cells = grind (arith, filled_then, cell_set, within_words, cell_stays)

      -- after the fill each filled index is one of the set, and its owner a number that an owner may have
      fill_filled : (j o : ℕ) → filled_of j (events ++ fill) ≡ Some o → (j < c) × (o < empty)
      fill_filled j o filled_is = let was = good_before.filled j o in grind (arith, filled_then j)

      -- each filled index has its owner after the fill, if it had him before
      fill_owned : AreOwned events → AreOwned (events ++ fill)
      fill_owned = grind (arith, filled_then, fill_holder, fill_settled, fill_right)

      -- the fill leaves the counter
      fill_counter : counter_of words' ≡ counter_of ws
      fill_counter = ap counter_of new ∙ counter_stays ws i owner

      -- an index that is filled with a dead owner after the fill was so before
      fill_dead_out : (j o : ℕ) → is_dead o events ≡ true → filled_of j (events ++ fill) ≡ Some o → filled_of j events ≡ Some o
      fill_dead_out j o is_gone filled_is = grind (arith, filled_then j)

      -- an index with its owner by the events before the fill has him after it
      fill_by : {q j o : ℕ} → IsBy q j o events → IsBy q j o (events ++ fill)
      fill_by {j = j} by_party = let filled = filled_then j in let right = fill_right j in grind arith

      -- a step that fills an empty cell with a living owner does what a turn may do
      pub fills : Does scene words' fill
      fills =
          record {
            own = (refl, tt);
            -- what holds of the set before the turn holds after it
            good =
                record {
                  some = good_before.some;
                  few = good_before.few;
                  wide = let same = ap length new ∙ length-set ws (cell_word i) owner in let wide = good_before.wide in omega arith;
                  cells = fill_cells;
                  filled = fill_filled;
                  lock = ap (λ w. counter_of w == locked) new ∙ (ap (λ n. n == locked) (counter_stays ws i owner) ∙ (good_before.lock ∙ sym fill_locked));
                  low =
                      λ t. let low = good_before.low (sym fill_locked ∙ t) in
                      let is : counter_of words' ≡ counter_of ws = ap counter_of new ∙ counter_stays ws i owner in
                      omega arith;
                  bound = let bound = good_before.bound in omega (arith, fill_counter);
                  died = λ o. good_before.died o ∙ sym (fill_dead o);
                  does = Each-append (SetDoes c) events fill good_before.does ((below, none, alive, was_open), tt);
                  answers =
                      Each-append (AnswersBy by (IsWorn by words') c) events fill
                      (answers_on (IsWorn by ws) (IsWorn by words') (worn_on by ws words' (λ end. fill_counter ∙ end))
                      by c events good_before.answers)
                      (tt, tt);
                  owned = λ calm. fill_owned (good_before.owned (calm_less by events fill calm));
                  holds = λ calm. Each-append HoldsRight events fill (good_before.holds (calm_less by events fill calm)) (tt, tt);
                };
            -- the turn does to any party no more than a turn may do
            goes =
                let same = fill_counter in
                let holder = fill_holder in
                let filled = fill_dead_out in
                let dead = fill_dead in
                let less = well_formed_less events fill in
                grind arith;
            -- each other party keeps its right to an index, and what it has done
            spares = λ q ne.
                record {
                  none = tt;
                  set_acts = ap (λ s. set_acts (wrote_in s)) (span_of-other p q events fill ne (refl, tt));
                  owned = λ calm j o lives h. fill_by h;
                  unheld = λ calm j o lives h unheld. fill_holder j ∙ unheld;
                  held = λ calm j o lives h here. fill_holder j ∙ here;
                  settled = λ calm j o lives h none. fill_settled j ∙ h;
                };
          }
