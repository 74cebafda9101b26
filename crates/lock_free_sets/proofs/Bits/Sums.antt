-- For clients: what each call on a bit set adds to what its pass made, place by place, and that nothing stands where a
-- pass with the whole share found none to reset.
use Rattle.lock_free_sets.proofs.Names.{◌≡◌, ◌==◌, ℕ, ◌+◌, ◌<◌, ◌≤◌, Bool, true, false, cond, Some, None, List, [], ◌∷◌}
use Rattle.lock_free_sets.proofs.Names.{◌++◌, refl, sym, ap, subst, ◌∙◌, append_assoc, arith, ⊎_elim, cases_lt, nat_tests}
use Rattle.lock_free_sets.proofs.Names.{Truth, ResetNone, Event, Begun, Finished, Cleared, Bits, Set, ResetNext, one_word}
use Rattle.lock_free_sets.proofs.Names.{IsBitSet, BeginsNone, bits_go_on, View, IsHistory}
use Rattle.std.specs.List.{sum_by}
use Rattle.model.specs.declared.event.Event.TheVariants as events
use Rattle.model.specs.declared.turn.Kind.TheVariants as kinds
use Rattle.model.specs.Families.Bits.Calls.{reset_answer}
use Rattle.model.specs.Families.Bits.Reading.{is_set_of, is_clear_of, sets, clears}
use Rattle.model.proofs.Moments.{begins_none_more}
use Rattle.laws_bits.proofs.Bits.Core.{sets_more, clears_more}
use Rattle.lock_free_sets.specs.Bits.Contracts.{HasSet, StoodOnce, HasReset, AllClearOnce}
use Rattle.lock_free_sets.proofs.Sums.{sum_made, sum_seen, same_last, reaches}

-- no place was cleared more often than it was set
pub clears_within : (capacity : ℕ) (events : List (Event ℕ)) → IsHistory one_word kinds.Bits capacity events → (b : ℕ) → clears b events ≤ sets b events
clears_within capacity events history b =
    let set : IsBitSet history.trace = bits_go_on history.trace history.run.of_kind history.run.reached in
    let all = set.conserved b in
    let s = ap (sets b) history.is in
    let c = ap (clears b) history.is in
    omega arith

-- no place past the capacity was set
pub sets_within : (capacity : ℕ) (events : List (Event ℕ)) → IsHistory one_word kinds.Bits capacity events → (b : ℕ) → capacity ≤ b → sets b events ≡ 0
sets_within capacity events h b past =
    let set : IsBitSet h.trace = bits_go_on h.trace h.run.of_kind h.run.reached in
    ap (sets b) h.is ∙ set.within b (let same = h.run.sized in omega arith)

module _ (old new : View ℕ) where
  -- ---- a set

  -- a set that answers true adds one to the sets of its place, and nothing else
  pub set_adds : (place : ℕ) → HasSet place true old new → (b : ℕ)
      → (sets b new.made ≡ sets b old.made + cond (place == b) 1 0) × (clears b new.made ≡ clears b old.made)
  set_adds place set b =
      let wrote : List (Event ℕ) = events.Set set.by place ∷ [] in
      let s = sum_made (λ e. cond (is_set_of b e) 1 0) set.by (Bits (Set place)) (Truth true) wrote old new set.called in
      let c = sum_made (λ e. cond (is_clear_of b e) 1 0) set.by (Bits (Set place)) (Truth true) wrote old new set.called in
      (omega arith, omega arith)

  -- A set that answers false adds no set and no clear to what its pass made.
  pub set_adds_none : (place : ℕ) → HasSet place false old new → (b : ℕ) → (sets b new.made ≡ sets b old.made) × (clears b new.made ≡ clears b old.made)
  set_adds_none place set b =
      let s = sum_made (λ e. cond (is_set_of b e) 1 0) set.by (Bits (Set place)) (Truth false) [] old new set.called in
      let c = sum_made (λ e. cond (is_clear_of b e) 1 0) set.by (Bits (Set place)) (Truth false) [] old new set.called in
      (omega arith, omega arith)

  -- a place that stood was set
  pub stood_was_set : (place : ℕ) → StoodOnce place new → 1 ≤ sets place new.seen
  stood_was_set place h =
      let end : List (Event ℕ) = Finished h.by (Bits (Set place)) (Truth false) ∷ [] in
      let e = ap (sets place) h.is ∙ sets_more place h.before end in
      let m = ap (sets place) h.stood.is ∙ sets_more place h.stood.part h.stood.rest in
      let stood = h.stood.held in
      omega arith

  -- a place that somebody called to set was set, by that call or before its end
  pub was_set : (place : ℕ) (answer : Bool) → HasSet place answer old new → (answer ≡ false → StoodOnce place new) → 1 ≤ sets place new.seen
  was_set place false set stood = stood_was_set place (stood refl)
  was_set place true set stood =
      let wrote : List (Event ℕ) = events.Set set.by place ∷ [] in
      let some = sum_seen (λ e. cond (is_set_of place e) 1 0) set.by (Bits (Set place)) (Truth true) wrote old new set.called in
      let t : (place == place) ≡ true = grind (arith, nat_tests) in
      let one : sets place wrote ≡ 1 = rw t refl in
      omega arith

  -- ---- a reset of the next place

  -- a reset that found a place adds one to the clears of this place, and nothing else
  pub reset_adds : (place : ℕ) → HasReset (Some place) old new → (b : ℕ)
      → (sets b new.made ≡ sets b old.made) × (clears b new.made ≡ clears b old.made + cond (place == b) 1 0)
  reset_adds place reset b =
      let wrote : List (Event ℕ) = Cleared reset.by place ∷ [] in
      let s = sum_made (λ e. cond (is_set_of b e) 1 0) reset.by (Bits ResetNext) (reset_answer (Some place)) wrote old new reset.called in
      let c = sum_made (λ e. cond (is_clear_of b e) 1 0) reset.by (Bits ResetNext) (reset_answer (Some place)) wrote old new reset.called in
      (omega arith, omega arith)

  -- A `reset_next` that finds nothing adds no set and no clear to what its pass made.
  pub reset_adds_none : HasReset None old new → (b : ℕ) → (sets b new.made ≡ sets b old.made) × (clears b new.made ≡ clears b old.made)
  reset_adds_none reset b =
      let s = sum_made (λ e. cond (is_set_of b e) 1 0) reset.by (Bits ResetNext) ResetNone [] old new reset.called in
      let c = sum_made (λ e. cond (is_clear_of b e) 1 0) reset.by (Bits ResetNext) ResetNone [] old new reset.called in
      (omega arith, omega arith)

  -- where it found none and all that was seen is what its pass made, nothing stands: each place was cleared as often as set
  pub none_left : (capacity : ℕ) → IsHistory one_word kinds.Bits capacity new.seen
      → ((f : Event ℕ → ℕ) → sum_by f old.seen ≡ sum_by f old.made)
      → ((f : Event ℕ → ℕ) → sum_by f new.seen ≡ sum_by f new.made)
      → HasReset None old new → AllClearOnce capacity new → (b : ℕ) → sets b new.made ≡ clears b new.made
  none_left capacity history before after reset clear b = ⊎_elim below past (cases_lt b capacity)
    where
      -- All sets of the place that were seen are the pass's own.
      sets_seen : sets b new.seen ≡ sets b new.made
      sets_seen = after (λ e. cond (is_set_of b e) 1 0)

      -- All clears of the place that were seen are the pass's own.
      clears_seen : clears b new.seen ≡ clears b new.made
      clears_seen = after (λ e. cond (is_clear_of b e) 1 0)

      -- The reset added no set, so all sets had been seen before it.
      sets_before : sets b old.seen ≡ sets b new.made
      sets_before = before (λ e. cond (is_set_of b e) 1 0) ∙ sym (reset_adds_none reset b).0

      -- a place past the capacity was neither set nor cleared
      past : capacity ≤ b → sets b new.made ≡ clears b new.made
      past far =
          let none = sets_within capacity new.seen history b far in
          let within = clears_within capacity new.seen history b in
          let s = sets_seen in
          let c = clears_seen in
          omega arith

      -- a place below the capacity was cleared as often as set
      below : b < capacity → sets b new.made ≡ clears b new.made
      below near =
          let p = reset.by in
          let q = clear.by in
          let end : List (Event ℕ) = Finished p (Bits ResetNext) ResetNone ∷ [] in
          let end_there : List (Event ℕ) = Finished q (Bits ResetNext) ResetNone ∷ [] in
          let front = old.seen ++ reset.called.others in
          -- At some moment of the call the place was clear.
          let once = clear.clear b near in
          let whole : front ++ Begun p (Bits ResetNext) ∷ (reset.called.during ++ end) ≡ once.part ++ (once.rest ++ end_there) =
          sym reset.called.is ∙ (clear.is ∙ (ap (λ es. es ++ end_there) once.is ∙ append_assoc once.part once.rest end_there)) in
          let ends : (front ++ Begun p (Bits ResetNext) ∷ reset.called.during) ++ end ≡ clear.before ++ end_there =
          append_assoc front (Begun p (Bits ResetNext) ∷ reset.called.during) end ∙ (sym reset.called.is ∙ clear.is) in
          let last =
          same_last (front ++ Begun p (Bits ResetNext) ∷ reset.called.during) clear.before
          (Finished p (Bits ResetNext) ResetNone) (Finished q (Bits ResetNext) ResetNone) ends in
          let party : q ≡ p = cc in
          let none : BeginsNone p (once.rest ++ end_there) =
          begins_none_more p once.rest end_there (subst (λ z. BeginsNone z once.rest) party once.within) tt in
          -- All that was seen before the begin lies before that moment, so all sets of the place do.
          let reached =
          reaches (λ e. cond (is_set_of b e) 1 0) p (Bits ResetNext) front (reset.called.during ++ end) once.part
          (once.rest ++ end_there) whole none in
          let grown = sets_more b old.seen reset.called.others in
          let later = clears_more b once.part (once.rest ++ end_there) in
          let all : clears b new.seen ≡ clears b (once.part ++ (once.rest ++ end_there)) = ap (clears b) (reset.called.is ∙ whole) in
          let clear_then = once.held in
          let within = clears_within capacity new.seen history b in
          let s = sets_seen in
          let c = clears_seen in
          let o = sets_before in
          omega arith
