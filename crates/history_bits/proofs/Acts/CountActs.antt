-- The calls of a counting bit set act place by place.
use Rattle.history.proofs.Names.{◌≡◌, ◌⊎◌, ⊎_elim, ℕ, zero, suc, ◌+◌, ◌-◌, ◌*◌, ◌^◌, ◌%◌, ◌<◌, ◌≤◌, ◌==◌}
use Rattle.history.proofs.Names.{◌&&◌, Bool, true, false, cond, Option, Some, None, IfSome, List, [], ◌∷◌, ◌++◌, refl}
use Rattle.history.proofs.Names.{sym, ap, subst, ◌∙◌, append_assoc, append-nil, arith, cases_eq, cases_lt}
use Rattle.model.specs.declared.event.Answer.{Answer}
use Rattle.history.proofs.Names.{HasTakenOn}
use Rattle.model.specs.declared.event.Answer.TheVariants.{Number}
use Rattle.model.specs.declared.event.Event.{Event}
use Rattle.model.specs.declared.event.Event.TheVariants.{Begun, Cleared, TakenOut, Finished}
use Rattle.model.specs.declared.event.Start.{Start}
use Rattle.model.specs.declared.families.bits.BitsStart.TheVariants.{Set, ResetAll}
use Rattle.history.proofs.Names.{CountsAnswerOn, AnswersCountOn, CountsWrote, counts_promise, counts, takes}
use Rattle.history.proofs.Names.{BeginsNone, SinceBegin, Stands, StandsRight, Each, whose, Span, Open, own_after}
use Rattle.history.proofs.Names.{span_after, span_of}
use Rattle.model.specs.declared.event.Answer.TheVariants.{Done}
use Rattle.model.specs.declared.event.Event.TheVariants as event
use Rattle.model.specs.declared.event.Event.TheVariants.{Counted}
use Rattle.model.specs.declared.event.Start.TheVariants.{Bits}
use Rattle.model.specs.declared.families.bits.BitsStart.TheVariants.{Count}
use Rattle.model.specs.Families.Bits.Reading.{count_at}
use Rattle.model.specs.declared.turn.Kind.TheVariants as kinds
use Rattle.laws_bits.proofs.Counts.Core.{counts_more, takes_more}
use Rattle.history_bits.specs.Acts.{Way, Acts, Found, Tells, Ends, number_after, way_after, found_now, ActsByPlace}
use Rattle.history_bits.proofs.Acts.Filling.{Marked, nothing_marked, goes_on, Fact, Stays, Silent, finishes, finishes_at}
use Rattle.history_bits.proofs.Acts.Finds.{CountFinds}
use Rattle.history.proofs.Numbers.{same_number, is_number}
use Rattle.history_bits.proofs.Acts.Marks.{both_true, number_in, way_in, number_more, way_more}
use Rattle.history_bits.proofs.Acts.Ways.{along, begins_none_later, OpenFor, open_for, Fits, WayFits, shut_way, fits_open}
use Rattle.history_bits.proofs.Acts.Ways.{begun_fits, finished_fits, quiet_fits, Ways, ways_more}

-- a number raised by 1 modulo 2^64 is one more, or 0 where it was at its end
next_number : (n : ℕ) → n < 2 ^ 64 → (((n + 1) % 2 ^ 64 ≡ n + 1) × (n + 1 < 2 ^ 64)) ⊎ (((n + 1) % 2 ^ 64 ≡ 0) × (n + 1 ≡ 2 ^ 64))
next_number n n_below = grind arith

-- two numbers below 2^64 are equal if both are, modulo 2^64, what was counted and not taken out
same_rest : {m n : ℕ} (v w t : ℕ) {c : ℕ} → m < 2 ^ 64 → n < 2 ^ 64 → c ≡ t + m + 2 ^ 64 * v → c ≡ t + n + 2 ^ 64 * w → m ≡ n
same_rest = grind arith

one_taken : (U : Type 0) (p k m b : ℕ) → (k == b) ≡ true → takes {T = U} b (TakenOut p k m ∷ []) ≡ m
one_taken U p k m b test_is = rw test_is (omega arith)

module _ {T : Type 0} where
  -- the events have one that takes a number out of place b, at which they are cut
  pub record TakenIn (b : ℕ) (es : List (Event T)) : Type 0 where
    pub by : ℕ
    pub number : ℕ
    pub first : List (Event T)
    pub second : List (Event T)
    pub is : es ≡ first ++ TakenOut by b number ∷ second

  taken_later : (b : ℕ) (e : Event T) (es : List (Event T)) → TakenIn b es → TakenIn b (e ∷ es)
  taken_later b e es taken_in =
      record { by = taken_in.by; number = taken_in.number; first = e ∷ taken_in.first; second = taken_in.second; is = ap (λ xs. e ∷ xs) taken_in.is }

  -- where the events took something out of a place, one of them is such an event
  taken_in : (b : ℕ) (es : List (Event T)) → 1 ≤ takes b es → TakenIn b es
  taken_in b [] some = absurd (omega arith)
  taken_in b (TakenOut p x m ∷ es) some = go (x == b) refl (λ more. taken_in b es more)
    where
      -- whether the first event takes out of this place or of another, the place lost something somewhere in the list
      go : (t : Bool) → (x == b) ≡ t → (1 ≤ takes b es → TakenIn b es) → TakenIn b (TakenOut p x m ∷ es)
      go true test_is rest = record { by = p; number = m; first = []; second = es; is = ap (λ z. TakenOut p z m ∷ es) (is_number x b test_is) }
      go false test_is rest = grind (arith, takes_more, takes, taken_later)
  taken_in b (e ∷ es) some =
      let more = takes_more b (e ∷ []) es in
      let none : takes {T = T} b (e ∷ []) ≡ 0 = refl in
      taken_later b e es (taken_in b es (omega arith))

  -- ---- numbers

  -- the number of a place is what was counted and not taken out, modulo 2^64
  pub record NumberIs (h : List (Event T)) (b : ℕ) : Type 0 where
    -- how often the count has passed 2^64
    pub wraps : ℕ
    pub whole : counts b h ≡ takes b h + number_in b 0 h + 2 ^ 64 * wraps
    pub low : number_in b 0 h < 2 ^ 64

  -- the number of each place is what was counted there and not taken out, modulo 2^64
  abbrev Numbers : List (Event T) → Type 0
  Numbers h = (b : ℕ) → NumberIs h b

  -- an event that neither counts nor takes out of the place leaves its number right
  numbers_stay : (h : List (Event T)) (e : Event T) (b : ℕ) → counts {T = T} b (e ∷ []) ≡ 0
      → takes {T = T} b (e ∷ []) ≡ 0 → number_after b (number_in b 0 h) e ≡ number_in b 0 h → NumberIs h b
      → NumberIs (h ++ e ∷ []) b
  numbers_stay h e b none nor still was =
      let c = counts_more b h (e ∷ []) in
      let t = takes_more b h (e ∷ []) in
      let number_is : number_in b 0 (h ++ e ∷ []) ≡ number_in b 0 h = number_more b 0 h (e ∷ []) ∙ still in
      let whole = was.whole in
      let low = was.low in
      record { wraps = was.wraps; whole = omega arith; low = omega arith }

  -- one event more, which takes out all that stands or counts, leaves the numbers right
  numbers_more : (c : ℕ) (h : List (Event T)) (e : Event T) → StandsRight counts_promise c h e → CountFinds h e → Numbers h → Numbers (h ++ e ∷ [])
  numbers_more c h (Counted p k) stands finds was b = go (k == b) refl
    where
      -- a count of this place, or of another, leaves the number right
      go : (t : Bool) → (k == b) ≡ t → NumberIs (h ++ Counted p k ∷ []) b
      go true test_is =
          let one : counts {T = T} b (Counted p k ∷ []) ≡ 1 = rw test_is refl in
          let none : takes {T = T} b (Counted p k ∷ []) ≡ 0 = refl in
          let c = counts_more b h (Counted p k ∷ []) in
          let k' = takes_more b h (Counted p k ∷ []) in
          let number_is : number_in b 0 (h ++ Counted p k ∷ []) ≡ (number_in b 0 h + 1) % 2 ^ 64 =
          number_more b 0 h (Counted p k ∷ []) ∙ ap (λ z. cond z ((number_in b 0 h + 1) % 2 ^ 64) (number_in b 0 h)) test_is in
          let whole = (was b).whole in
          let low = (was b).low in
          ⊎_elim
          (λ (up : ((number_in b 0 h + 1) % 2 ^ 64 ≡ number_in b 0 h + 1) × (number_in b 0 h + 1 < 2 ^ 64)).
          (let is = up.0 in let lt = up.1 in record { wraps = (was b).wraps; whole = omega arith; low = omega arith }))
          (λ (round : ((number_in b 0 h + 1) % 2 ^ 64 ≡ 0) × (number_in b 0 h + 1 ≡ 2 ^ 64)).
          (let is = round.0 in let at = round.1 in record { wraps = (was b).wraps + 1; whole = omega arith; low = omega arith }))
          (next_number (number_in b 0 h) low)
      go false test_is = grind (arith, numbers_stay, cond, number_in, was)
  numbers_more c h (TakenOut p k m) stands finds was b = go (k == b) refl
    where
      -- what is taken out of this place, or of another, leaves the number right
      go : (t : Bool) → (k == b) ≡ t → NumberIs (h ++ TakenOut p k m ∷ []) b
      go true test_is =
          let one = one_taken T p k m b test_is in
          let none : counts {T = T} b (TakenOut p k m ∷ []) ≡ 0 = refl in
          let c = counts_more b h (TakenOut p k m ∷ []) in
          let k' = takes_more b h (TakenOut p k m ∷ []) in
          let number_is : number_in b 0 (h ++ TakenOut p k m ∷ []) ≡ 0 = number_more b 0 h (TakenOut p k m ∷ []) ∙ ap
          (λ z. cond z 0 (number_in b 0 h)) test_is in
          let all : counts b h ≡ takes b h + m + 2 ^ 64 * finds.0 = subst (λ z. counts z h ≡ takes z h + m + 2 ^ 64 * finds.0)
          (is_number k b test_is) finds.1 in
          record { wraps = finds.0; whole = omega arith; low = omega arith }
      go false test_is = grind (arith, numbers_stay, cond, number_in, was)
  numbers_more c h (event.Set p k) stands finds was b = absurd stands
  numbers_more c h (Cleared p k) stands finds was b = absurd stands
  numbers_more c h e stands finds was b = numbers_stay h e b refl refl refl (was b)

  -- what an event takes out of a place is the number of that place
  takes_all : {h : List (Event T)} (p k m : ℕ) → CountFinds h (TakenOut p k m) → Numbers h → m ≡ number_in k 0 h
  takes_all {h} p k m finds numbers =
      same_rest finds.0 (numbers k).wraps (takes k h) finds.3 (numbers k).low finds.1 (numbers k).whole

  -- ---- ways

  -- What a call has found at place b fits what it has written: a set has found something only if it has
  -- counted there, and a reset of all just where it has taken something out.
  abbrev Fit : Start T → ℕ → List (Event T) → Option ℕ → Type 0
  Fit (Bits (Set place)) b wrote d = counts b wrote ≡ 0 → d ≡ None
  Fit start b wrote d = (takes b wrote ≡ 0 → d ≡ None) × (1 ≤ takes b wrote → Found (λ n. Unit {0}) d)

  fit_nil : (start : Start T) (b : ℕ) → Fit start b [] None
  fit_nil start b = grind arith

  -- an event that neither counts nor takes out of the place leaves what the call has written in
  -- keeping with what it found there
  fit_more : (start : Start T) (b : ℕ) (wrote : List (Event T)) (d : Option ℕ) (e : Event T)
      → counts {T = T} b (e ∷ []) ≡ 0 → takes {T = T} b (e ∷ []) ≡ 0 → Fit start b wrote d
      → Fit start b (wrote ++ e ∷ []) d
  fit_more (Bits (Set place)) b wrote d e none nor fit = λ z. (let c = counts_more b wrote (e ∷ []) in fit (omega arith))
  fit_more start b wrote d e none nor fit =
      let t = takes_more b wrote (e ∷ []) in
      ((λ z. fit.0 (omega arith)), (λ some. fit.1 (omega arith)))

  -- the call's own count of a place leaves its way fitting its span: the call has found the number there
  count_fits : (q k b n : ℕ) (span : Span T) (way : Way T) → Stands counts_promise 0 (Counted q k) span
      → WayFits Fit b span way → WayFits Fit b (own_after span (Counted q k)) (cond (k == b) (found_now n way) way)
  count_fits x0 x1 x2 x3 x4 x5 x6 x7 = grind arith

  -- what the call takes out of a place leaves its way fitting its span: the call has found the number there
  take_fits : (q k m b n : ℕ) (span : Span T) (way : Way T) → Stands counts_promise 0 (TakenOut q k m) span
      → WayFits Fit b span way → WayFits Fit b (own_after span (TakenOut q k m)) (cond (k == b) (found_now n way) way)
  take_fits q k m b n (Open (Bits ResetAll) wrote) way stands fits = go (k == b) refl
    where
      -- whether this place or another loses something, the way still fits the span
      go : (t : Bool) → (k == b) ≡ t → WayFits Fit b (Open (Bits ResetAll) (wrote ++ TakenOut q k m ∷ [])) (cond (k == b) (found_now n way) way)
      go true test_is =
          let one = one_taken T q k m b test_is in
          let some = stands.0 in
          let more = takes_more b wrote (TakenOut q k m ∷ []) in
          record {
            found = Some n;
            is = ap (λ z. cond z (found_now n way) way) test_is ∙ ap (λ w. found_now n w) fits.is;
            fit = ((λ none. absurd (omega arith)), (λ some. tt));
          }
      go false test_is =
          record {
            found = fits.found;
            is = ap (λ z. cond z (found_now n way) way) test_is ∙ fits.is;
            fit = fit_more (Bits ResetAll) b wrote fits.found (TakenOut q k m) refl (rw test_is refl) fits.fit;
          }
  take_fits q k m b n (Open start wrote) way stands fits = absurd stands
  take_fits q k m b n span way stands fits = absurd stands

  -- after each event the party's way still fits its span
  one_fits : (c p b n : ℕ) (spans : ℕ → Span T) (way : Way T) (e : Event T)
      → IfSome (whose e) (λ q. Stands counts_promise c e (spans q)) → WayFits Fit b (spans p) way
      → WayFits Fit b (span_after p (spans p) e) (way_after p b n way e)
  one_fits c p b n spans way (Begun q s) stands fits = begun_fits Fit p q b n (spans p) way s (fit_nil s b) fits
  one_fits c p b n spans way (Finished q s a) stands fits = finished_fits Fit p q b n (spans p) way s a fits
  one_fits c p b n spans way (Counted q k) stands fits = go (q == p) refl
    where
      -- whether the count is of this party or of another one, the way fits the span
      go : (t : Bool) → (q == p) ≡ t → WayFits Fit b (span_after p (spans p) (Counted q k)) (way_after p b n way (Counted q k))
      go t q_is = grind (arith, count_fits, is_number, fits)
  one_fits c p b n spans way (TakenOut q k m) stands fits = go (q == p) refl
    where
      -- whether what is taken out is taken by this party or by another one, the way fits the span
      go : (t : Bool) → (q == p) ≡ t → WayFits Fit b (span_after p (spans p) (TakenOut q k m)) (way_after p b n way (TakenOut q k m))
      go t q_is = grind (arith, take_fits, is_number, fits)
  one_fits c p b n spans way (event.Set q k) stands fits = absurd stands
  one_fits c p b n spans way (Cleared q k) stands fits = absurd stands
  one_fits c p b n spans way e stands fits = grind (arith, quiet_fits, fit_more)

-- ---- the calls

module _ {T : Type 0} where
  abbrev set_call : ℕ → Start T
  set_call k = Bits (Set k)

  abbrev all_call : Start T
  all_call = Bits ResetAll

  -- the starts of a set, a reset of all and a look
  abbrev look_call : ℕ → Start T
  look_call k = Bits (Count k)

-- ---- the whole history

module _ {T : Type 0} (c : ℕ) (events : List (Event T)) (spans : Each (StandsRight counts_promise c) events)
    (finds : Each CountFinds events) (answers : Each (CountsAnswerOn c) events) where
  -- of the place it is sure what a reset of all found: it was counted less than 2^64 times
  abbrev Sure : ℕ → Type 0
  Sure b = counts b events < 2 ^ 64

  -- where a party's call stands at a place, and what it has found there
  abbrev WayHere : Type 0
  WayHere = Way T

  -- after every part of the history the number of each place is right
  numbers : (h rest : List (Event T)) → events ≡ h ++ rest → Numbers h
  numbers h rest is =
      along events Numbers (λ h after e is. numbers_more c h e (spans h after e is) (finds h after e is))
      (λ b. record { wraps = 0; whole = refl; low = omega arith }) h rest is

  -- after every part of the history each party's way fits its span
  ways : (h rest : List (Event T)) → events ≡ h ++ rest → Ways Fit h
  ways h rest is = along events (Ways Fit) more (λ p b. refl) h rest is
    where
      -- one event more leaves each party's way fitting its span
      more : (h after : List (Event T)) (e : Event T) → events ≡ h ++ e ∷ after → Ways Fit h → Ways Fit (h ++ e ∷ [])
      more h after e events_are was p b =
          ways_more Fit h e p b
          (one_fits c p b (number_in b 0 h) (λ q. span_of q h) (way_in p b 0 None h) e (spans h after e events_are) (was p b))

  -- the history h can be marked: silent acts can be put between its events, so that all marks are right
  abbrev IsMarked : List (Event T) → Type 0
  IsMarked h = Marked kinds.Counts c Sure h

  module _ (h after : List (Event T)) where
    -- where party q's call stands at place b after h
    abbrev way : ℕ → ℕ → WayHere
    way q b = way_in q b 0 None h

    -- the number of place b after h
    abbrev number : ℕ → ℕ
    number b = number_in b 0 h

    -- the party's act on this place is right: it tells the number that it finds, and the call has
    -- not acted there before
    abbrev RightAct : Event T → ℕ → ℕ → Type 0
    RightAct e p b = Tells (number b) e × Acts kinds.Counts b (number b) (number_after b (number b) e) (way p b)

    -- an act that is right for its own party and place is right for whichever they are
    spread : (e : Event T) (q k p b : ℕ) → RightAct e q k → (q == p && k == b) ≡ true → RightAct e p b
    spread e q k p b right_act is_it = grind (arith, both_true, is_number)

    -- a set that counts at a place acts there for the first time
    count_acts : (k : ℕ) (q : ℕ) (span : Span T) (w : WayHere) → Stands counts_promise c (Counted q k) span
        → WayFits Fit k span w → Acts kinds.Counts k (number k) ((number k + 1) % 2 ^ 64) w
    count_acts k q span w stands way_fits = grind arith

    -- a reset that takes a number out of a place acts there for the first time, and takes more than 0
    take_acts : (k m : ℕ) (q : ℕ) (span : Span T) (w : WayHere) → Stands counts_promise c (TakenOut q k m) span
        → WayFits Fit k span w → (1 ≤ m) × Acts kinds.Counts k (number k) 0 w
    take_acts k m q span w stands way_fits = grind arith

    module _ (m : IsMarked h) (numbered : Numbers h) (on : Ways Fit h) where
      -- with a count the history with its silent acts goes on
      count_goes : (q k : ℕ) → events ≡ h ++ Counted q k ∷ after → IsMarked (h ++ Counted q k ∷ [])
      count_goes q k events_are =
          goes_on kinds.Counts c Sure h (Counted q k) m (λ p b t. spread (Counted q k) q k p b (tt, acts) t)
        where
          acts : Acts kinds.Counts k (number k) (cond (k == k) ((number k + 1) % 2 ^ 64) (number k)) (way q k)
          acts = rw (same_number k) (count_acts k q (span_of q h) (way q k) (spans h after (Counted q k) events_are) (on q k))

      -- with a number taken out the history with its silent acts goes on
      take_goes : (q k n : ℕ) → events ≡ h ++ TakenOut q k n ∷ after → IsMarked (h ++ TakenOut q k n ∷ [])
      take_goes q k n events_are =
          goes_on kinds.Counts c Sure h (TakenOut q k n) m (λ p b t. spread (TakenOut q k n) q k p b ((whole, here.0), acts) t)
        where
          here : (1 ≤ n) × Acts kinds.Counts k (number k) 0 (way q k)
          here = grind (arith, take_acts)

          whole : n ≡ number k
          whole = takes_all q k n (finds h after (TakenOut q k n) events_are) numbered

          acts : Acts kinds.Counts k (number k) (cond (k == k) 0 (number k)) (way q k)
          acts = rw (same_number k) here.1

      -- ---- a call ends

      here : (q : ℕ) {b : ℕ} {s : Start T} {wrote : List (Event T)} → span_of q h ≡ Open s wrote → Fits Fit s b wrote (way q b)
      here q opened = grind (arith, fits_open)

      found_some : (n : ℕ) (w : WayHere) (s : Start T) (d : Option ℕ) → found_now n w ≡ Some (s, d) → d ≡ Some n
      found_some n w s d found_now_is = grind arith

      -- what was counted and not taken out, modulo 2^64, is the number
      rest_is : (n t c w : ℕ) → n < 2 ^ 64 → c ≡ t + n + 2 ^ 64 * w → (c - t) % 2 ^ 64 ≡ n
      rest_is n t c w low c_is = omega arith

      -- with the end of a set the history with its silent acts goes on
      end_set : (q k n : ℕ) → events ≡ h ++ Finished q (Bits (Set k)) (Number n) ∷ after → IsMarked (h ++ Finished q (Bits (Set k)) (Number n) ∷ [])
      end_set q k n events_are =
          finishes q (set_call k) (Number n) m (λ b lt. Stays (done b)) (λ b le. done b)
        where
          -- the call that ends is a set of place k, open until now
          opened : OpenFor (set_call k) (CountsWrote c (set_call k) (Number n)) (span_of q h)
          opened = grind (arith, open_for)

          -- the answer is right: the count at a moment of the call, just before its own act
          answer : AnswersCountOn q k n h
          answer = answers h after (Finished q (set_call k) (Number n)) events_are

          was : NumberIs answer.before k
          was = grind (arith, numbers, append_assoc)

          told : n ≡ number_in k 0 answer.before
          told = answer.count ∙ rest_is (number_in k 0 answer.before) (takes k answer.before) (counts k answer.before) was.wraps was.low was.whole

          -- the party and the place of the set are its own
          both : (q == q && k == k) ≡ true
          both = rw (same_number q, same_number k) refl

          counted : way q k ≡ found_now (number_in k 0 answer.before) (way_in q k 0 None answer.before)
          counted = grind (arith, way_in, way_more, cond, found_now, number_in, both)

          -- the set has found what it answers at its place, and of another place nothing has to be known
          done : (b : ℕ) → Ends c (Sure b) b (set_call k) (Number n) (way q b)
          done b =
              let fits = here q opened.is in
              ⊎_elim (λ same. subst (λ z. Ends c (Sure z) z (set_call k) (Number n) (way q z)) same mine)
              (λ ne. subst (λ w. Ends c (Sure b) b (set_call k) (Number n) w) (sym fits.is) (refl, λ same. absurd (ne same))) (cases_eq k b)
            where
              -- at its own place the set has found the count that it answers
              mine : Ends c (Sure k) k (set_call k) (Number n) (way q k)
              mine =
                  let fits = here q opened.is in
                  let found : fits.found ≡ Some (number_in k 0 answer.before) =
                  found_some (number_in k 0 answer.before) (way_in q k 0 None answer.before) (set_call k) fits.found
                  (sym counted ∙ fits.is) in
                  subst (λ w. Ends c (Sure k) k (set_call k) (Number n) w) (sym (fits.is ∙ ap (λ d. Some ((set_call k), d)) found)) (refl, λ same. told)

      -- with the end of a look the history with its silent acts goes on: the look acted silently on its place
      end_look : (q k n : ℕ) → events ≡ h ++ Finished q (Bits (Count k)) (Number n) ∷ after → IsMarked (h ++ Finished q (Bits (Count k)) (Number n) ∷ [])
      end_look q k n events_are =
          finishes_at k m mine elsewhere (λ le. absurd (omega (arith, seen.0)))
        where
          opened : OpenFor (look_call k) (CountsWrote c (look_call k) (Number n)) (span_of q h)
          opened =
              open_for (look_call k) (CountsWrote c (look_call k) (Number n)) (span_of q h) (spans h after (Finished q (look_call k) (Number n)) events_are)

          seen : (k < c) × (n ≡ count_at k h % 2 ^ 64)
          seen = answers h after (Finished q (look_call k) (Number n)) events_are

          -- the look has done nothing anywhere yet
          under : (b : ℕ) → way q b ≡ Some (look_call k, None)
          under b =
              let fits = here q opened.is in
              fits.is ∙ ap (λ d. Some (look_call k, d)) (fits.fit.0 (ap (takes b) opened.holds))

          told : n ≡ number_in k 0 h
          told = seen.1 ∙ rest_is (number_in k 0 h) (takes k h) (counts k h) (numbered k).wraps (numbered k).low (numbered k).whole

          elsewhere : (b : ℕ) → (k ≡ b → ⊥) → Ends c (Sure b) b (look_call k) (Number n) (way q b)
          elsewhere b ne = subst (λ w. Ends c (Sure b) b (look_call k) (Number n) w) (sym (under b)) (refl, λ same. absurd (ne same))

          -- at its own place the look acted silently, at its end
          mine : Fact kinds.Counts c Sure h q (look_call k) (Number n) k
          mine = Silent
              (record { part = h; rest = []; is = sym (append-nil h); none = tt; under = under k; may = refl; left = refl; ends = (refl, λ same. told) })

      -- a place that the call left silently, where its count was 0
      clear_there : {q b : ℕ} (part rest : List (Event T)) → h ≡ part ++ rest → BeginsNone q rest
          → way q b ≡ Some (Bits ResetAll, None) → number_in b 0 part ≡ 0
          → Fact kinds.Counts c Sure h q (Bits ResetAll) Done b
      clear_there part rest cut none under nought =
          Silent (record { part = part; rest = rest; is = cut; none = none; under = under; may = tt; left = nought; ends = (refl, λ sure lt. tt) })

      -- with the end of a reset of all the history with its silent acts goes on
      end_all : (q : ℕ) → events ≡ h ++ Finished q (Bits ResetAll) Done ∷ after → IsMarked (h ++ Finished q (Bits ResetAll) Done ∷ [])
      end_all q events_are =
          finishes q all_call Done m facts
          (λ b le. let fits = here q opened.is in
          subst (λ w. Ends c (Sure b) b all_call Done w) (sym fits.is) (refl, λ sure lt. absurd (omega arith)))
        where
          opened : OpenFor all_call (CountsWrote c all_call Done) (span_of q h)
          opened = grind (arith, open_for)

          since : SinceBegin q (HasTakenOn c) h
          since = answers h after (Finished q all_call Done) events_are

          -- each place was acted on by the reset, by its events or silently
          facts : (b : ℕ) → b < c → Fact kinds.Counts c Sure h q all_call Done b
          facts b lt = ⊎_elim acted silent (cases_lt 0 (takes b opened.wrote))
            where
              fits : Fits Fit all_call b opened.wrote (way q b)
              fits = here q opened.is

              ends_so : (d : Option ℕ) → Found (λ n. Unit {0}) d → way q b ≡ Some (all_call, d) → Ends c (Sure b) b all_call Done (way q b)
              ends_so d found way_is = grind arith

              -- a place out of which the reset took something it acted on by that event
              acted : 0 < takes b opened.wrote → Fact kinds.Counts c Sure h q all_call Done b
              acted some = grind (arith, ends_so)

              -- a place out of which the reset took nothing it acted on silently
              silent : takes b opened.wrote ≤ 0 → Fact kinds.Counts c Sure h q all_call Done b
              silent few = go (number_in b 0 since.before) refl
                where
                  -- the reset has found nothing at the place yet
                  under : way q b ≡ Some (all_call, None)
                  under = fits.is ∙ ap (λ d. Some (all_call, d)) (fits.fit.0 (omega arith))

                  -- the history, cut at the begin of the reset
                  whole_is : events ≡ since.before ++ (Begun q since.start ∷ (since.since ++ Finished q all_call Done ∷ after))
                  whole_is = grind (arith, append_assoc)

                  was : NumberIs since.before b
                  was = grind (arith, numbers, whole_is)

                  -- whatever its count was as the reset began, the place was left silently where
                  -- its count was 0, or nothing has to be known of it
                  go : (n : ℕ) → number_in b 0 since.before ≡ n → Fact kinds.Counts c Sure h q all_call Done b
                  go zero number_is =
                      clear_there (since.before ++ Begun q since.start ∷ []) since.since
                      (since.is ∙ sym (append_assoc since.before (Begun q since.start ∷ []) since.since)) since.within under
                      (number_more b 0 since.before (Begun q since.start ∷ []) ∙ number_is)
                  go (suc n) number_is =
                      let all = was.whole in
                      ⊎_elim lost far (since.holds b lt (omega arith))
                    where
                      -- a place out of which another took something since was left silently right
                      -- after that, where its count was 0
                      lost : 1 ≤ takes b since.since → Fact kinds.Counts c Sure h q all_call Done b
                      lost some =
                          let out = taken_in b since.since some in
                          let events_then : List (Event T) = since.before ++ Begun q since.start ∷ out.first in
                          clear_there (events_then ++ TakenOut out.by b out.number ∷ []) out.second
                          (since.is
                          ∙ (ap (λ xs. since.before ++ Begun q since.start ∷ xs) out.is
                          ∙ (sym (append_assoc since.before (Begun q since.start ∷ out.first) (TakenOut out.by b out.number ∷ out.second))
                          ∙ sym (append_assoc events_then (TakenOut out.by b out.number ∷ []) out.second))))
                          (begins_none_later q (TakenOut out.by b out.number ∷ []) out.second
                          (begins_none_later q out.first (TakenOut out.by b out.number ∷ out.second) (subst (BeginsNone q) out.is since.within)))
                          under
                          (number_more b 0 events_then (TakenOut out.by b out.number ∷ []) ∙ ap (λ z. cond z 0 (number_in b 0 events_then)) (same_number b))

                      -- nothing has to be known of a place that was counted 2^64 times
                      far : 2 ^ 64 ≤ counts b since.before + counts b since.since → Fact kinds.Counts c Sure h q all_call Done b
                      far many =
                          let one = counts_more b since.before (Begun q since.start ∷ (since.since ++ Finished q all_call Done ∷ after)) in
                          let two = counts_more b (Begun q since.start ∷ []) (since.since ++ Finished q all_call Done ∷ after) in
                          let three = counts_more b since.since (Finished q all_call Done ∷ after) in
                          let first : counts b events
                          ≡ counts b (since.before ++ (Begun q since.start ∷ (since.since ++ Finished q all_call Done ∷ after))) =
                          ap (counts b) whole_is in
                          Stays (subst (λ w. Ends c (Sure b) b all_call Done w) (sym fits.is)
                          (refl, λ (sure : counts b events < 2 ^ 64). λ lt. absurd (omega arith)))

      -- with the end of any call the history with its silent acts goes on
      ends : (q : ℕ) (s : Start T) (a : Answer T) → events ≡ h ++ Finished q s a ∷ after → IsMarked (h ++ Finished q s a ∷ [])
      ends q s a events_are = grind (arith, end_set, end_all, end_look, open_for)

      -- with any event the history with its silent acts goes on
      more_marks : (e : Event T) → events ≡ h ++ e ∷ after → IsMarked (h ++ e ∷ [])
      more_marks e events_are = grind (arith, goes_on, shut_way, ends, count_goes, take_goes)

  -- in a history of a counting bit set the calls act place by place
  pub counts_act : ActsByPlace kinds.Counts c events
  counts_act = record { marks = all.marks; is = all.is; right = all.right }
    where
      -- the whole history can be marked
      all : IsMarked events
      all =
          along events IsMarked (λ h after e is m. more_marks h after m (numbers h (e ∷ after) is) (ways h (e ∷ after) is) e is)
          (nothing_marked kinds.Counts c Sure) events [] (sym (append-nil events))
