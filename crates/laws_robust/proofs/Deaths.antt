-- The death of an owner keeps the invariant of the robust index set.
use Rattle.laws_robust.proofs.Names.{◌≡◌, ℕ, ◌+◌, ◌==◌, ◌||◌, inl, false, None, List, [], ◌∷◌, ◌++◌, refl, sym, ap}
use Rattle.laws_robust.proofs.Names.{◌∙◌, arith, fold-append, Event, Died, Flight, locked_after, is_locked, has_died}
use Rattle.laws_robust.proofs.Names.{dead_with, cell_of, SetDoes, HoldsRight, set_acts, filled_after, filled_of}
use Rattle.laws_robust.proofs.Names.{holder_after, holder_of, settled_after, settled_of, dead_after, is_dead}
use Rattle.laws_robust.proofs.Names.{Each-append, span_of-death}
use Rattle.model.specs.declared.families.Flight.TheVariants as flights
use Rattle.model.proofs.Dead.{died_now, died_before}
use Rattle.laws_robust.specs.Gone.{GoneBy, AnswersBy}
use Rattle.laws_robust.proofs.Effects.{well_formed_less}
use Rattle.laws_robust.proofs.Gone.{calm_less}
use Rattle.laws_robust.proofs.Invariant.{IsWorn, Good, Knowing, view}
use Rattle.laws_robust.proofs.Knows.{Goes, Spares, knows_later}
use Rattle.laws_robust.proofs.Rights.{right_after, right_of}

-- ---- who has died

-- who has died after the death of `o`: `o`, and who had died before
pub died_with : (q o : ℕ) (dead : List ℕ) → has_died q (dead_with o dead) ≡ ((o == q) || has_died q dead)
died_with q o dead = let now = died_now q dead in let before = died_before q o dead in grind arith

-- ---- what a death does to the set and to all parties

-- `c` is the capacity, and `o` the owner who dies
module _ {T : Type 0} {by : GoneBy} {c : ℕ} {words dead : List ℕ} {events : List (Event T)} {turns : ℕ} (o : ℕ)
    (good : Good by c words dead events turns) (alive : is_dead o events ≡ false) where
  -- the event of the turn: the owner `o` dies
  abbrev es : List (Event T)
  es = Died o ∷ []

  -- the death of an owner leaves what each index is filled with
  same_filled : (j : ℕ) → filled_of j (events ++ es) ≡ filled_of j events
  same_filled j = fold-append (filled_after j) None events es

  -- the death of an owner leaves the holder of each index
  same_holder : (j : ℕ) → holder_of j (events ++ es) ≡ holder_of j events
  same_holder j = fold-append (holder_after j) None events es

  -- the death of an owner leaves with whom each index is settled
  same_settled : (j : ℕ) → settled_of j (events ++ es) ≡ settled_of j events
  same_settled j = fold-append (settled_after j) None events es

  -- a death leaves who may give an index back
  same_right : (j : ℕ) → right_of j (events ++ es) ≡ right_of j events
  same_right j = fold-append (right_after j) _ events es

  -- the death of an owner leaves the set unlocked, or locked
  same_lock : is_locked (events ++ es) ≡ is_locked events
  same_lock = fold-append locked_after false events es

  -- who is dead after the death of `o`
  dead_then : (q : ℕ) → is_dead q (events ++ es) ≡ ((o == q) || is_dead q events)
  dead_then q = fold-append (dead_after q) false events es

  -- what holds of the words, of the dead and of the events holds after a death
  pub death_good : Good by c words (dead_with o dead) (events ++ es) (turns + 1)
  death_good =
      record {
        some = good.some;
        few = good.few;
        wide = good.wide;
        cells = λ i below. good.cells i below ∙ sym (ap cell_of (same_filled i));
        filled = λ i owner e. good.filled i owner (sym (same_filled i) ∙ e);
        lock = good.lock ∙ sym same_lock;
        low = λ t. let low = good.low (sym same_lock ∙ t) in omega arith;
        bound = good.bound;
        died = λ q. died_with q o dead ∙ (ap (λ b. (o == q) || b) (good.died q) ∙ sym (dead_then q));
        does = Each-append (SetDoes c) events es good.does (alive, tt);
        answers = Each-append (AnswersBy by (IsWorn by words) c) events es good.answers (tt, tt);
        owned = λ calm.
            let filled = same_filled in
            let holder = same_holder in
            let settled = same_settled in
            let right = same_right in
            grind (arith, good.owned (calm_less by events es calm));
        holds = λ calm. Each-append HoldsRight events es (good.holds (calm_less by events es calm)) (tt, tt);
      }

  -- a death does to each party no more than a turn may do
  pub death_goes : Goes words words events es
  death_goes =
      let filled = same_filled in let holder = same_holder in let dead = dead_then in let less = well_formed_less events es in grind arith

  -- a death leaves a party what another party's turn leaves it
  pub death_spares : (q : ℕ) → Spares by q events es
  death_spares = grind (arith, set_acts, span_of-death, same_right, same_filled, same_holder, same_settled)

  -- what a party's call knows it knows after a death
  pub death_known : (q since changes backs : ℕ) (flight : Flight T)
      → Knowing c flight (view by words events q since changes backs)
      → Knowing c flight (view by words (events ++ es) q since changes backs)
  death_known q since changes backs (flights.Robust flight) knowing =
      knows_later {v = view by words events q since changes backs}
      (record { words' = words; es = es; changes' = changes; goes = death_goes; spares = death_spares q; seen = inl (refl, refl) }) c flight knowing
  death_known q since changes backs flight knowing = absurd knowing
