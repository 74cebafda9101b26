-- The calls of a bit set act place by place.
use Rattle.history.proofs.Names.{◌≡◌, ◌≢◌, ⊎_elim, ℕ, zero, suc, ◌-◌, ◌^◌, ◌<◌, ◌≤◌, ◌==◌, ◌&&◌, true, false, cond}
use Rattle.history.proofs.Names.{Some, None, List, [], ◌∷◌, ◌++◌, refl, sym, ap, subst, ◌∙◌, append_assoc, append-nil}
use Rattle.history.proofs.Names.{arith, cases_lt}
use Rattle.model.specs.declared.event.Answer.{Answer}
use Rattle.model.specs.declared.event.Answer.TheVariants.{Truth, ResetNone, Reset}
use Rattle.model.specs.declared.event.Event.{Event}
use Rattle.model.specs.declared.event.Event.TheVariants.{Begun, Cleared}
use Rattle.history.proofs.Names.{HasCleared}
use Rattle.model.specs.declared.event.Event.TheVariants.{Finished}
use Rattle.model.specs.declared.event.Start.{Start}
use Rattle.model.specs.declared.families.bits.BitsStart.TheVariants.{Set, ResetNext, ResetAll}
use Rattle.history.proofs.Names.{BitsAnswerRight, BitsWrote, bits_promise, sets, clears, counts, standing}
use Rattle.history.proofs.Names.{BeginsNone, HeldSometime, SinceBegin, Stands, StandsRight, Each, Span, Open}
use Rattle.history.proofs.Names.{span_of}
use Rattle.laws_bits.proofs.Bits.Core.{sets_more}
use Rattle.history.proofs.Names.{Bool, one_if}
use Rattle.std.specs.Prelude.{not}
use Rattle.model.specs.declared.event.Answer.TheVariants.{Done}
use Rattle.model.specs.declared.event.Event.TheVariants as event
use Rattle.model.specs.declared.event.Start.TheVariants.{Bits}
use Rattle.model.specs.declared.families.bits.BitsStart.TheVariants.{IsSet}
use Rattle.model.specs.declared.turn.Kind.TheVariants as kinds
use Rattle.history_bits.specs.Acts.{Way, MayAct, Acts, Found, Tells, Ends, number_after, left_by, ActsByPlace}
use Rattle.history_bits.proofs.Acts.BitWays.{only_clears, cleared_in, Numbers, numbers_more, Fit, one_fits, at_place}
use Rattle.history_bits.proofs.Acts.Filling.{Marked, nothing_marked, goes_on, Fact, Stays, Silent, finishes, finishes_at}
use Rattle.history_bits.proofs.Acts.Finds.{BitFinds}
use Rattle.history.proofs.Numbers.{same_number, is_number}
use Rattle.history_bits.proofs.Acts.Marks.{both_true, number_in, way_in, number_more}
use Rattle.history_bits.proofs.Acts.Ways.{along, begins_none_later, OpenFor, open_for, Fits, WayFits, shut_way, fits_open, Ways, ways_more}

-- ---- the calls

module _ {T : Type 0} where
  abbrev set_call : ℕ → Start T
  set_call k = Bits (Set k)

  abbrev next_call : Start T
  next_call = Bits ResetNext

  abbrev all_call : Start T
  all_call = Bits ResetAll

  abbrev look_call : ℕ → Start T
  look_call k = Bits (IsSet k)

-- a look that answers whether the number is 1 answers whether it is not 0
look_tells : (answer : Bool) (n : ℕ) → n ≡ one_if answer → answer ≡ not (n == 0)
look_tells true n n_is = rw n_is refl
look_tells false n n_is = rw n_is refl

-- ---- the whole history

-- A history of a bit set of capacity c: each event is right for the span of its party's call, a place is found clear
-- as it is set and set as it is cleared, the answers are right, and no place at or behind the capacity is set.
module _ {T : Type 0} (c : ℕ) (events : List (Event T)) (spans : Each (StandsRight bits_promise c) events)
    (finds : Each BitFinds events) (answers : Each (BitsAnswerRight c) events)
    (within : (b : ℕ) → c ≤ b → sets b events ≡ 0) where
  -- of the place it is sure what a reset of all found: it was set less than 2^64 times
  abbrev Sure : ℕ → Type 0
  Sure b = counts b events < 2 ^ 64

  -- where a party's call stands at a place, and what it has found there
  abbrev WayHere : Type 0
  WayHere = Way T

  -- after every part of the history the number of each place is right
  numbers : (h rest : List (Event T)) → events ≡ h ++ rest → Numbers h
  numbers h rest is = along events Numbers (λ h after e is. numbers_more c h e (spans h after e is) (finds h after e is)) (λ b. (refl, omega arith)) h rest is

  -- after every part of the history each party's way fits its span
  ways : (h rest : List (Event T)) → events ≡ h ++ rest → Ways Fit h
  ways h rest is = along events (Ways Fit) more (λ p b. refl) h rest is
    where
      -- one event more leaves each party's way fitting its span
      more : (h after : List (Event T)) (e : Event T) → events ≡ h ++ e ∷ after → Ways Fit h → Ways Fit (h ++ e ∷ [])
      more h after e events_are was p b =
          ways_more Fit h e p b
          (one_fits c p b (number_in b 0 h) (λ q. span_of q h) (way_in p b 0 None h) e (spans h after e events_are)
          (at_place h e (finds h after e events_are) (numbers h (e ∷ after) events_are) b) (was p b))

  -- the history h can be marked: silent acts can be put between its events, so that all marks are right
  abbrev IsMarked : List (Event T) → Type 0
  IsMarked h = Marked kinds.Bits c Sure h

  module _ (h after : List (Event T)) where
    -- where party q's call stands at place b after h
    abbrev way : ℕ → ℕ → WayHere
    way q b = way_in q b 0 None h

    -- the number of place b after h
    abbrev number : ℕ → ℕ
    number b = number_in b 0 h

    -- the party's act on this place is right: it tells the number that it finds, and the call has
    -- not acted there before
    abbrev RightAct : Event T → ℕ → ℕ → Type 0
    RightAct e p b = Tells (number b) e × Acts kinds.Bits b (number b) (number_after b (number b) e) (way p b)

    -- an act that is right for its own party and place is right for whichever they are
    spread : (e : Event T) (q k p b : ℕ) → RightAct e q k → (q == p && k == b) ≡ true → RightAct e p b
    spread e q k p b right_act is_it = grind (arith, both_true, is_number)

    -- a set that sets its place acts there for the first time
    set_acts : (k : ℕ) (q : ℕ) (span : Span T) (w : WayHere) → Stands bits_promise c (event.Set q k) span
        → WayFits Fit k span w → Acts kinds.Bits k (number k) 1 w
    set_acts k q span w stands way_fits = grind arith

    -- a reset that clears a place acts there for the first time
    clear_acts : (k : ℕ) (q : ℕ) (span : Span T) (w : WayHere) → Stands bits_promise c (Cleared q k) span
        → WayFits Fit k span w → Acts kinds.Bits k (number k) 0 w
    clear_acts k q span w stands way_fits = grind arith

    module _ (m : IsMarked h) (numbered : Numbers h) (on : Ways Fit h) where
      -- with a set of a place the history with its silent acts goes on
      set_goes : (q k : ℕ) → events ≡ h ++ event.Set q k ∷ after → IsMarked (h ++ event.Set q k ∷ [])
      set_goes q k events_are =
          goes_on kinds.Bits c Sure h (event.Set q k) m (λ p b t. spread (event.Set q k) q k p b (tells, acts) t)
        where
          -- the set finds its place clear
          tells : number k ≡ 0
          tells = at_place h (event.Set q k) (finds h after (event.Set q k) events_are) numbered k refl

          acts : Acts kinds.Bits k (number k) (cond (k == k) 1 (number k)) (way q k)
          acts = rw (same_number k) (set_acts k q (span_of q h) (way q k) (spans h after (event.Set q k) events_are) (on q k))

      -- with a clear of a place the history with its silent acts goes on
      clear_goes : (q k : ℕ) → events ≡ h ++ Cleared q k ∷ after → IsMarked (h ++ Cleared q k ∷ [])
      clear_goes q k events_are =
          goes_on kinds.Bits c Sure h (Cleared q k) m (λ p b t. spread (Cleared q k) q k p b (tells, acts) t)
        where
          -- the clear finds its place set
          tells : number k ≡ 1
          tells = at_place h (Cleared q k) (finds h after (Cleared q k) events_are) numbered k refl

          acts : Acts kinds.Bits k (number k) (cond (k == k) 0 (number k)) (way q k)
          acts = rw (same_number k) (clear_acts k q (span_of q h) (way q k) (spans h after (Cleared q k) events_are) (on q k))

      -- ---- a call ends

      -- the call s of party q ends with the answer a
      module _ (q : ℕ) (s : Start T) (a : Answer T) (is : events ≡ h ++ Finished q s a ∷ after) where
        -- what is known of the call that ends at place b: it acted there by its events, or silently at a
        -- moment of the call
        abbrev ActKnown : ℕ → Type 0
        ActKnown b = Fact kinds.Bits c Sure h q s a b

        -- the call may end with its answer, where it stands at place b at `w`
        abbrev MayEnd : ℕ → WayHere → Type 0
        MayEnd b w = Ends c (Sure b) b s a w

        -- after every part of the history each place has the number 1 where it stands, else 0
        numbers_in : (part rest : List (Event T)) → h ≡ part ++ rest → Numbers part
        numbers_in part rest h_is = grind (arith, numbers, append_assoc)

        -- no place was set more often in a beginning than in all events
        sets_within : (part rest : List (Event T)) → h ≡ part ++ rest → (b : ℕ) → sets b part ≤ sets b events
        sets_within part rest cut b =
            let first : sets b events ≡ sets b (h ++ Finished q s a ∷ after) = ap (sets b) is in
            let second : sets b h ≡ sets b (part ++ rest) = ap (sets b) cut in
            omega (arith, sets_more b h (Finished q s a ∷ after), sets_more b part rest)

        -- a place that the call left silently, where it was clear
        clear_there : (b : ℕ) (part rest : List (Event T)) → h ≡ part ++ rest → BeginsNone q rest
            → way q b ≡ Some (s, None) → MayAct b s → 0 ≡ left_by kinds.Bits s (number_in b 0 part)
            → number_in b 0 part ≡ 0 → MayEnd b (Some (s, Some 0)) → ActKnown b
        clear_there b part rest cut none under may left nought ends =
            let may_end = subst (λ n. MayEnd b (Some (s, Some n))) (sym nought) ends in
            Silent (record { part = part; rest = rest; is = cut; none = none; under = under; may = may; left = nought ∙ left; ends = may_end })

        -- what the open call has found at a place fits what it has written
        here : (b : ℕ) (wrote : List (Event T)) → span_of q h ≡ Open s wrote → Fits Fit s b wrote (way q b)
        here b wrote opened = grind (arith, fits_open)

      -- with the end of a set that answers true the history with its silent acts goes on
      end_set_true : (q k : ℕ) → events ≡ h ++ Finished q (Bits (Set k)) (Truth true) ∷ after → IsMarked (h ++ Finished q (Bits (Set k)) (Truth true) ∷ [])
      end_set_true q k events_are =
          finishes q (Bits (Set k)) (Truth true) m (λ b lt. Stays (done b)) (λ b le. done b)
        where
          -- the call that ends is a set, open until now
          opened : OpenFor (Bits (Set k)) (BitsWrote c (Bits (Set k)) (Truth true)) (span_of q h)
          opened =
              open_for (Bits (Set k)) (BitsWrote c (Bits (Set k)) (Truth true)) (span_of q h)
              (spans h after (Finished q (Bits (Set k)) (Truth true)) events_are)

          -- the set found 0 at its place, and of another place nothing has to be known
          done : (b : ℕ) → Ends c (Sure b) b (Bits (Set k)) (Truth true) (way q b)
          done b =
              let fits = here q (Bits (Set k)) (Truth true) events_are b opened.wrote opened.is in
              subst (λ w. Ends c (Sure b) b (Bits (Set k)) (Truth true) w) (sym fits.is) (refl, λ same. found fits same)
            where
              -- at its own place the set has found 0
              found : (fits : Fits Fit (Bits (Set k)) b opened.wrote (way q b)) → k ≡ b → Found (λ n. true ≡ (n == 0)) fits.found
              found fits same =
                  let some : sets b opened.wrote ≡ 1 = subst (λ z. sets z opened.wrote ≡ 1) same opened.holds.1 in
                  let nought : fits.found ≡ Some 0 = fits.fit.1 (omega arith) in
                  subst (λ d. Found (λ n. true ≡ (n == 0)) d) (sym nought) refl

      -- with the end of a set that answers false the history with its silent acts goes on: it acted silently
      -- on its place
      end_set_false : (q k : ℕ) → events ≡ h ++ Finished q (Bits (Set k)) (Truth false) ∷ after → IsMarked (h ++ Finished q (Bits (Set k)) (Truth false) ∷ [])
      end_set_false q k events_are =
          finishes_at k m mine elsewhere past
        where
          -- the call that ends is a set, open until now
          opened : OpenFor (set_call k) (BitsWrote c (set_call k) (Truth false)) (span_of q h)
          opened = grind (arith, open_for, false)

          -- at a moment of the call its place stood
          once : HeldSometime q (λ part. standing k part ≡ 1) h
          once = answers h after (Finished q (set_call k) (Truth false)) events_are

          -- the set has done nothing anywhere
          under : (b : ℕ) → way q b ≡ Some ((set_call k), None)
          under b = grind (arith, here, false)

          -- at that moment the place had the number 1
          one : number_in k 0 once.part ≡ 1
          one = grind (arith, numbers_in, false, sets, clears)

          -- at another place nothing has to be known of the set
          elsewhere : (b : ℕ) → k ≢ b → Ends c (Sure b) b (set_call k) (Truth false) (way q b)
          elsewhere b k_is_not_b = grind (arith, false, under)

          -- at its own place the set acted silently, at a moment at which this place stood
          mine : Fact kinds.Bits c Sure h q (set_call k) (Truth false) k
          mine = Silent (record {
            part = once.part;
            rest = once.rest;
            is = once.is;
            none = once.within;
            under = under k;
            may = refl;
            left = one;
            ends = (refl, λ same. rw one refl);
          })

          -- a set that answers false does not act on a place past the capacity
          past : c ≤ k → ⊥
          past le =
              let stood : sets k once.part - clears k once.part ≡ 1 = once.held in
              omega (arith, within k le, sets_within q (set_call k) (Truth false) events_are once.part once.rest once.is k)

      -- with the end of a reset of the next place that answers one the history with its silent acts goes on
      end_next : (q k : ℕ) → events ≡ h ++ Finished q (Bits ResetNext) (Reset k) ∷ after → IsMarked (h ++ Finished q (Bits ResetNext) (Reset k) ∷ [])
      end_next q k events_are =
          finishes q (Bits ResetNext) (Reset k) m (λ b lt. Stays (done b)) (λ b le. done b)
        where
          -- the call that ends is a reset of the next place, open until now
          opened : OpenFor (Bits ResetNext) (BitsWrote c (Bits ResetNext) (Reset k)) (span_of q h)
          opened = grind (arith, open_for)

          -- the reset found 1 at the place that it answers, and acted on no other place
          done : (b : ℕ) → Ends c (Sure b) b (Bits ResetNext) (Reset k) (way q b)
          done b =
              let fits = here q (Bits ResetNext) (Reset k) events_are b opened.wrote opened.is in
              subst (λ w. Ends c (Sure b) b (Bits ResetNext) (Reset k) w) (sym fits.is) (refl, ((λ same. found fits same), (λ ne. none fits ne)))
            where
              -- at the place that it answers the reset has found 1
              found : (fits : Fits Fit (Bits ResetNext) b opened.wrote (way q b)) → k ≡ b → fits.found ≡ Some 1
              found fits same =
                  let some : clears b opened.wrote ≡ 1 = subst (λ z. clears z opened.wrote ≡ 1) same opened.holds.1 in
                  fits.fit.1 (omega arith)

              -- at another place than the one that it answers the reset has found nothing
              none : (fits : Fits Fit (Bits ResetNext) b opened.wrote (way q b)) → k ≢ b → fits.found ≡ None
              none fits ne = fits.fit.0 (only_clears k b opened.wrote opened.holds.0 opened.holds.1 (λ e. ne (sym e)))

      -- with the end of a reset of the next place that answers none the history with its silent acts goes on
      end_none : (q : ℕ) → events ≡ h ++ Finished q (Bits ResetNext) ResetNone ∷ after → IsMarked (h ++ Finished q (Bits ResetNext) ResetNone ∷ [])
      end_none q events_are =
          finishes q next_call ResetNone m facts
          (λ b le. subst (λ w. Ends c (Sure b) b next_call ResetNone w) (sym (under b)) (refl, λ lt. absurd (omega arith)))
        where
          -- the call that ends is a reset of the next place, open until now
          opened : OpenFor next_call (BitsWrote c next_call ResetNone) (span_of q h)
          opened = grind (arith, open_for)

          -- each place was clear at a moment of the call
          all : (b : ℕ) → b < c → HeldSometime q (λ part. standing b part ≡ 0) h
          all = answers h after (Finished q next_call ResetNone) events_are

          -- the reset has done nothing anywhere
          under : (b : ℕ) → way q b ≡ Some (next_call, None)
          under b = grind (arith, here)

          -- each place was left silently at a moment at which it was clear
          facts : (b : ℕ) → b < c → Fact kinds.Bits c Sure h q next_call ResetNone b
          facts b lt =
              let once = all b lt in
              let both = (numbers_in q next_call ResetNone events_are once.part once.rest once.is b).0 in
              let clear : sets b once.part - clears b once.part ≡ 0 = once.held in
              clear_there q next_call ResetNone events_are b once.part once.rest once.is once.within (under b) tt refl (omega arith) (refl, λ lt. refl)

      -- with the end of a reset of all the history with its silent acts goes on
      end_all : (q : ℕ) → events ≡ h ++ Finished q (Bits ResetAll) Done ∷ after → IsMarked (h ++ Finished q (Bits ResetAll) Done ∷ [])
      end_all q events_are =
          finishes q all_call Done m facts
          (λ b le. let fits = here q all_call Done events_are b opened.wrote opened.is in
          subst (λ w. Ends c (Sure b) b all_call Done w) (sym fits.is) (refl, λ sure lt. absurd (omega arith)))
        where
          -- the call that ends is a reset of all, open until now
          opened : OpenFor all_call (BitsWrote c all_call Done) (span_of q h)
          opened = grind (arith, open_for)

          -- each place that stood as the reset began was cleared since
          since : SinceBegin q (HasCleared c) h
          since = answers h after (Finished q all_call Done) events_are

          -- each place was acted on by the reset, by its events or silently
          facts : (b : ℕ) → b < c → Fact kinds.Bits c Sure h q all_call Done b
          facts b lt = ⊎_elim acted silent (cases_lt 0 (clears b opened.wrote))
            where
              fits : Fits Fit all_call b opened.wrote (way q b)
              fits = here q all_call Done events_are b opened.wrote opened.is

              -- a place that the reset cleared it acted on by that event
              acted : 0 < clears b opened.wrote → Fact kinds.Bits c Sure h q all_call Done b
              acted clears_positive = grind arith

              -- a place that the reset did not clear it acted on silently
              silent : clears b opened.wrote ≤ 0 → Fact kinds.Bits c Sure h q all_call Done b
              silent few = go (number_in b 0 since.before) refl
                where
                  -- the reset has found nothing at the place yet
                  under : way q b ≡ Some (all_call, None)
                  under = fits.is ∙ ap (λ d. Some (all_call, d)) (fits.fit.0 (omega arith))

                  was : Numbers since.before
                  was = grind (arith, numbers_in)

                  -- whatever its number was as the reset began, the place was left silently at a
                  -- moment at which it was clear
                  go : (n : ℕ) → number_in b 0 since.before ≡ n → Fact kinds.Bits c Sure h q all_call Done b
                  go zero number_is =
                      clear_there q all_call Done events_are b (since.before ++ Begun q since.start ∷ []) since.since
                      (since.is ∙ sym (append_assoc since.before (Begun q since.start ∷ []) since.since)) since.within under tt refl
                      (number_more b 0 since.before (Begun q since.start ∷ []) ∙ number_is) (refl, λ sure lt. tt)
                  go (suc n) number_is =
                      let both = (was b).0 in
                      let low = (was b).1 in
                      let out = cleared_in b since.since (since.holds b lt (omega arith)) in
                      let events_then : List (Event T) = since.before ++ Begun q since.start ∷ out.first in
                      clear_there q all_call Done events_are b (events_then ++ Cleared out.by b ∷ []) out.second
                      (since.is
                      ∙ (ap (λ xs. since.before ++ Begun q since.start ∷ xs) out.is
                      ∙ (sym (append_assoc since.before (Begun q since.start ∷ out.first) (Cleared out.by b ∷ out.second))
                      ∙ sym (append_assoc events_then (Cleared out.by b ∷ []) out.second))))
                      (begins_none_later q (Cleared out.by b ∷ []) out.second
                      (begins_none_later q out.first (Cleared out.by b ∷ out.second) (subst (BeginsNone q) out.is since.within)))
                      under tt refl
                      (number_more b 0 events_then (Cleared out.by b ∷ [])
                      ∙ ap (λ z. cond z 0 (number_in b 0 events_then)) (same_number b))
                      (refl, λ sure lt. tt)

      -- with the end of a look the history with its silent acts goes on: the look acted silently on its place
      end_look : (q k : ℕ) (answer : Bool) → events ≡ h ++ Finished q (Bits (IsSet k)) (Truth answer) ∷ after
          → IsMarked (h ++ Finished q (Bits (IsSet k)) (Truth answer) ∷ [])
      end_look q k answer events_are =
          finishes_at k m mine elsewhere (λ le. absurd (omega (arith, seen.0)))
        where
          -- the call that ends is a look, open until now
          opened : OpenFor (look_call k) (BitsWrote c (look_call k) (Truth answer)) (span_of q h)
          opened =
              open_for (look_call k) (BitsWrote c (look_call k) (Truth answer)) (span_of q h)
              (spans h after (Finished q (look_call k) (Truth answer)) events_are)

          -- the answer is right: it tells whether the place stands
          seen : (k < c) × (standing k h ≡ one_if answer)
          seen = answers h after (Finished q (look_call k) (Truth answer)) events_are

          -- the look has done nothing anywhere yet
          under : (b : ℕ) → way q b ≡ Some (look_call k, None)
          under b =
              let fits = here q (look_call k) (Truth answer) events_are b opened.wrote opened.is in
              fits.is ∙ ap (λ d. Some (look_call k, d)) (fits.fit.0 (ap (clears b) opened.holds))

          number_is : number_in k 0 h ≡ one_if answer
          number_is = omega (arith, (numbered k).0, (numbered k).1, seen.1)

          -- at another place nothing has to be known of the look
          elsewhere : (b : ℕ) → (k ≡ b → ⊥) → Ends c (Sure b) b (look_call k) (Truth answer) (way q b)
          elsewhere b ne = subst (λ w. Ends c (Sure b) b (look_call k) (Truth answer) w) (sym (under b)) (refl, λ same. absurd (ne same))

          -- at its own place the look acted silently, at its end
          mine : Fact kinds.Bits c Sure h q (look_call k) (Truth answer) k
          mine = Silent (record {
            part = h;
            rest = [];
            is = sym (append-nil h);
            none = tt;
            under = under k;
            may = refl;
            left = refl;
            ends = (refl, λ same. look_tells answer (number_in k 0 h) number_is);
          })

      -- with the end of any call the history with its silent acts goes on
      ends : (q : ℕ) (s : Start T) (a : Answer T) → events ≡ h ++ Finished q s a ∷ after → IsMarked (h ++ Finished q s a ∷ [])
      ends q s a events_are = grind (arith, end_set_true, end_set_false, end_next, end_none, end_all, end_look, open_for)

      -- with any event the history with its silent acts goes on
      more_marks : (e : Event T) → events ≡ h ++ e ∷ after → IsMarked (h ++ e ∷ [])
      more_marks e events_are = grind (arith, goes_on, shut_way, ends, set_goes, clear_goes)

  -- in a history of a bit set the calls act place by place
  pub bits_act : ActsByPlace kinds.Bits c events
  bits_act = record { marks = all.marks; is = all.is; right = all.right }
    where
      -- the whole history can be marked
      all : IsMarked events
      all =
          along events IsMarked (λ h after e is m. more_marks h after m (numbers h (e ∷ after) is) (ways h (e ∷ after) is) e is)
          (nothing_marked kinds.Bits c Sure) events [] (sym (append-nil events))
