-- In a history of a bit set the number of a place is 1 where it stands, else 0, and where a party's call
-- stands at a place fits what the call has written.
use Rattle.history.proofs.Names.{◌≡◌, ◌≢◌, ℕ, ◌+◌, ◌≤◌, ◌==◌, Bool, true, false, cond, Option, Some, None, IfSome}
use Rattle.history.proofs.Names.{List, [], ◌∷◌, ◌++◌, length, refl, sym, ap, subst, ◌∙◌, arith}
use Rattle.model.specs.declared.event.Event.{Event}
use Rattle.model.specs.declared.event.Event.TheVariants.{Begun, Cleared}
use Rattle.history.proofs.Names.{MayClear, bits_promise}
use Rattle.model.specs.declared.event.Event.TheVariants.{TakenOut, Finished}
use Rattle.model.specs.declared.event.Start.{Start}
use Rattle.model.specs.declared.families.bits.BitsStart.TheVariants.{Set, ResetNext, ResetAll}
use Rattle.history.proofs.Names.{sets, clears, Stands, StandsRight, whose, Span, Never, Open, Ended, own_after}
use Rattle.history.proofs.Names.{span_after}
use Rattle.laws_bits.proofs.Bits.Core.{sets_more, clears_more}
use Rattle.model.specs.declared.event.Event.TheVariants as event
use Rattle.model.specs.declared.event.Event.TheVariants.{Counted}
use Rattle.model.specs.declared.event.Start.TheVariants.{Bits}
use Rattle.history_bits.specs.Acts.{Way, number_after, way_after, found_now}
use Rattle.history_bits.proofs.Acts.Finds.{BitFinds}
use Rattle.history.proofs.Numbers.{is_number}
use Rattle.history_bits.proofs.Acts.Marks.{number_in, number_more}
use Rattle.history_bits.proofs.Acts.Ways.{WayFits, begun_fits, finished_fits, quiet_fits}

module _ {T : Type 0} where
  -- ---- lists of events

  -- one event that clears this place clears no other
  pub only_clears : (k b : ℕ) (wrote : List (Event T)) → length wrote ≡ 1 → clears k wrote ≡ 1 → b ≢ k → clears b wrote ≡ 0
  only_clears k b [] one clears_are ne = absurd (cc)
  only_clears k b (Cleared p x ∷ []) one clears_are ne = go (x == k) refl
    where
      go : (t : Bool) → (x == k) ≡ t → clears {T = T} b (Cleared p x ∷ []) ≡ 0
      go true test_is =
          let other : (x == b) ≡ false = not_there (x == b) refl in
          rw other refl
        where
          -- place x is b, so it is not the other place
          not_there : (z : Bool) → (x == b) ≡ z → (x == b) ≡ false
          not_there true tested_so = absurd (ne (sym (is_number x b tested_so) ∙ is_number x k test_is))
          not_there false tested_so = tested_so
      go false test_is =
          let none : clears {T = T} k (Cleared p x ∷ []) ≡ 0 = rw test_is refl in
          absurd (omega arith)
  only_clears k b (e ∷ []) one clears_are ne = absurd (cc)
  only_clears k b (e ∷ f ∷ es) one clears_are ne = absurd (omega arith)

  -- the events have one that clears place b, at which they are cut
  pub record ClearedIn (b : ℕ) (es : List (Event T)) : Type 0 where
    pub by : ℕ
    pub first : List (Event T)
    pub second : List (Event T)
    pub is : es ≡ first ++ Cleared by b ∷ second

  cleared_later : (b : ℕ) (e : Event T) (es : List (Event T)) → ClearedIn b es → ClearedIn b (e ∷ es)
  cleared_later b e es cleared_in =
      record { by = cleared_in.by; first = e ∷ cleared_in.first; second = cleared_in.second; is = ap (λ xs. e ∷ xs) cleared_in.is }

  -- where the events cleared a place, one of them is such an event
  pub cleared_in : (b : ℕ) (es : List (Event T)) → 1 ≤ clears b es → ClearedIn b es
  cleared_in b [] some = absurd (omega arith)
  cleared_in b (Cleared p x ∷ es) some = go (x == b) refl (λ more. cleared_in b es more)
    where
      -- whether the first event clears this place or another, the place was cleared somewhere in the list
      go : (t : Bool) → (x == b) ≡ t → (1 ≤ clears b es → ClearedIn b es) → ClearedIn b (Cleared p x ∷ es)
      go true test_is rest = record { by = p; first = []; second = es; is = ap (λ z. Cleared p z ∷ es) (is_number x b test_is) }
      go false test_is rest = grind (arith, clears_more, clears, cleared_later)
  cleared_in b (e ∷ es) some =
      let more = clears_more b (e ∷ []) es in
      let none : clears {T = T} b (e ∷ []) ≡ 0 = refl in
      cleared_later b e es (cleared_in b es (omega arith))

  -- ---- numbers

  -- the number of a place is 1 where it stands, else 0
  abbrev pub Numbers : List (Event T) → Type 0
  Numbers h = (b : ℕ) → (sets b h ≡ clears b h + number_in b 0 h) × (number_in b 0 h ≤ 1)

  -- an event that neither sets nor clears the place leaves its number right
  numbers_stay : (h : List (Event T)) (e : Event T) (b : ℕ) → sets {T = T} b (e ∷ []) ≡ 0
      → clears {T = T} b (e ∷ []) ≡ 0 → number_after b (number_in b 0 h) e ≡ number_in b 0 h
      → (sets b h ≡ clears b h + number_in b 0 h) × (number_in b 0 h ≤ 1)
      → (sets b (h ++ e ∷ []) ≡ clears b (h ++ e ∷ []) + number_in b 0 (h ++ e ∷ [])) × (number_in b 0 (h ++ e ∷ []) ≤ 1)
  numbers_stay h e b none nor still was =
      let s = sets_more b h (e ∷ []) in
      let c = clears_more b h (e ∷ []) in
      let number_is : number_in b 0 (h ++ e ∷ []) ≡ number_in b 0 h = number_more b 0 h (e ∷ []) ∙ still in
      let first = was.0 in
      let low = was.1 in
      (omega arith, omega arith)

  pub numbers_more : (c : ℕ) (h : List (Event T)) (e : Event T) → StandsRight bits_promise c h e → BitFinds h e → Numbers h → Numbers (h ++ e ∷ [])
  numbers_more c h (event.Set p k) stands finds was b = go (k == b) refl
    where
      -- a set of this place, or of another, leaves the number right
      go : (t : Bool) → (k == b) ≡ t
          → (sets b (h ++ event.Set p k ∷ [])
          ≡ clears b (h ++ event.Set p k ∷ []) + number_in b 0 (h ++ event.Set p k ∷ []))
          × (number_in b 0 (h ++ event.Set p k ∷ []) ≤ 1)
      go true test_is =
          let one : sets {T = T} b (event.Set p k ∷ []) ≡ 1 = rw test_is refl in
          let none : clears {T = T} b (event.Set p k ∷ []) ≡ 0 = refl in
          let s = sets_more b h (event.Set p k ∷ []) in
          let c = clears_more b h (event.Set p k ∷ []) in
          let number_is : number_in b 0 (h ++ event.Set p k ∷ []) ≡ 1 =
          number_more b 0 h (event.Set p k ∷ []) ∙ ap (λ z. cond z 1 (number_in b 0 h)) test_is in
          let found : sets b h ≡ clears b h = subst (λ z. sets z h ≡ clears z h) (is_number k b test_is) finds in
          (omega arith, omega arith)
      go false test_is = grind (arith, numbers_stay, cond, number_in)
  numbers_more c h (Cleared p k) stands finds was b = go (k == b) refl
    where
      -- a clear of this place, or of another, leaves the number right
      go : (t : Bool) → (k == b) ≡ t
          → (sets b (h ++ Cleared p k ∷ []) ≡ clears b (h ++ Cleared p k ∷ []) + number_in b 0 (h ++ Cleared p k ∷ []))
          × (number_in b 0 (h ++ Cleared p k ∷ []) ≤ 1)
      go true test_is =
          let one : clears {T = T} b (Cleared p k ∷ []) ≡ 1 = rw test_is refl in
          let none : sets {T = T} b (Cleared p k ∷ []) ≡ 0 = refl in
          let s = sets_more b h (Cleared p k ∷ []) in
          let c = clears_more b h (Cleared p k ∷ []) in
          let number_is : number_in b 0 (h ++ Cleared p k ∷ []) ≡ 0 = number_more b 0 h (Cleared p k ∷ []) ∙ ap (λ z. cond z 0 (number_in b 0 h)) test_is in
          let found : sets b h ≡ clears b h + 1 = subst (λ z. sets z h ≡ clears z h + 1) (is_number k b test_is) finds in
          (omega arith, omega arith)
      go false test_is = grind (arith, numbers_stay, cond, number_in)
  numbers_more c h (Counted p k) stands finds was b = absurd stands
  numbers_more c h (TakenOut p k m) stands finds was b = absurd stands
  numbers_more c h e stands finds was b = numbers_stay h e b refl refl refl (was b)

  -- ---- ways

  -- What a call has found at place b fits what it has written: a set has found 0 if it has set the place, a
  -- reset 1 if it has cleared it, and neither has found anything otherwise.
  abbrev pub Fit : Start T → ℕ → List (Event T) → Option ℕ → Type 0
  Fit (Bits (Set place)) b wrote d = (sets b wrote ≡ 0 → d ≡ None) × (1 ≤ sets b wrote → d ≡ Some 0)
  Fit start b wrote d = (clears b wrote ≡ 0 → d ≡ None) × (1 ≤ clears b wrote → d ≡ Some 1)

  fit_nil : (start : Start T) (b : ℕ) → Fit start b [] None
  fit_nil start b = grind arith

  -- an event that neither sets nor clears the place leaves what the call has written in keeping
  -- with what it found there
  fit_more : (start : Start T) (b : ℕ) (wrote : List (Event T)) (d : Option ℕ) (e : Event T)
      → sets {T = T} b (e ∷ []) ≡ 0 → clears {T = T} b (e ∷ []) ≡ 0 → Fit start b wrote d
      → Fit start b (wrote ++ e ∷ []) d
  fit_more (Bits (Set place)) b wrote d e none nor fit =
      let s = sets_more b wrote (e ∷ []) in
      ((λ z. fit.0 (omega arith)), (λ some. fit.1 (omega arith)))
  fit_more start b wrote d e none nor fit =
      let c = clears_more b wrote (e ∷ []) in
      ((λ z. fit.0 (omega arith)), (λ some. fit.1 (omega arith)))

  -- a set of this place finds 0, a clear of it 1
  abbrev AtPlace : ℕ → ℕ → Event T → Type 0
  AtPlace b n (event.Set q k) = k ≡ b → n ≡ 0
  AtPlace b n (Cleared q k) = k ≡ b → n ≡ 1
  AtPlace b n e = Unit {0}

  -- the call's own set of its place leaves its way fitting its span: the call has found 0 there
  set_fits : (q k b n : ℕ) (span : Span T) (way : Way T) → Stands bits_promise 0 (event.Set q k) span
      → (k ≡ b → n ≡ 0) → WayFits Fit b span way
      → WayFits Fit b (own_after span (event.Set q k)) (cond (k == b) (found_now n way) way)
  set_fits q k b n span way stands zero_there way_fits = grind arith

  -- a call that clears this place has found 1 there
  fit_cleared : (start : Start T) (q k b : ℕ) (wrote : List (Event T)) → MayClear k start wrote → (k == b) ≡ true
      → Fit start b (wrote ++ Cleared q k ∷ []) (Some 1)
  fit_cleared (Bits ResetNext) q k b wrote may test_is = grind (arith, clears, clears_more)
  fit_cleared (Bits ResetAll) q k b wrote may test_is =
      let one : clears {T = T} b (Cleared q k ∷ []) ≡ 1 = rw test_is refl in
      let more = clears_more b wrote (Cleared q k ∷ []) in
      ((λ none. absurd (omega arith)), (λ some. refl))
  fit_cleared start q k b wrote may test_is = absurd may

  -- after a clear by the party of the way, the way still fits its span
  cleared_fits : (q k b n : ℕ) (span : Span T) (way : Way T) → Stands bits_promise 0 (Cleared q k) span
      → (k ≡ b → n ≡ 1) → WayFits Fit b span way
      → WayFits Fit b (own_after span (Cleared q k)) (cond (k == b) (found_now n way) way)
  cleared_fits q k b n Never way stands at fits = absurd stands
  cleared_fits q k b n (Ended start a wrote) way stands at fits = absurd stands
  cleared_fits q k b n (Open start wrote) way stands at fits = go (k == b) refl
    where
      -- whether the clear is of this place or of another, the way still fits the span
      go : (t : Bool) → (k == b) ≡ t → WayFits Fit b (Open start (wrote ++ Cleared q k ∷ [])) (cond (k == b) (found_now n way) way)
      go true test_is =
          record {
            found = Some 1;
            is =
                ap (λ z. cond z (found_now n way) way) test_is ∙
                (ap (λ w. found_now n w) fits.is ∙ ap (λ z. Some (start, Some z)) (at (is_number k b test_is)));
            fit = fit_cleared start q k b wrote stands test_is;
          }
      go false test_is =
          record {
            found = fits.found;
            is = ap (λ z. cond z (found_now n way) way) test_is ∙ fits.is;
            fit = fit_more start b wrote fits.found (Cleared q k) refl (rw test_is refl) fits.fit;
          }

  -- after each event the party's way still fits its span
  pub one_fits : (c p b n : ℕ) (spans : ℕ → Span T) (way : Way T) (e : Event T)
      → IfSome (whose e) (λ q. Stands bits_promise c e (spans q)) → AtPlace b n e → WayFits Fit b (spans p) way
      → WayFits Fit b (span_after p (spans p) e) (way_after p b n way e)
  one_fits c p b n spans way (Begun q s) stands at_place fits = begun_fits Fit p q b n (spans p) way s (fit_nil s b) fits
  one_fits c p b n spans way (Finished q s a) stands at_place fits = finished_fits Fit p q b n (spans p) way s a fits
  one_fits c p b n spans way (event.Set q k) stands at_place fits = go (q == p) refl
    where
      -- whether the set is of this party or of another one, the way fits the span
      go : (t : Bool) → (q == p) ≡ t → WayFits Fit b (span_after p (spans p) (event.Set q k)) (way_after p b n way (event.Set q k))
      go t q_is = grind (arith, set_fits, is_number)
  one_fits c p b n spans way (Cleared q k) stands at_place fits = go (q == p) refl
    where
      -- whether the clear is of this party or of another one, the way fits the span
      go : (t : Bool) → (q == p) ≡ t → WayFits Fit b (span_after p (spans p) (Cleared q k)) (way_after p b n way (Cleared q k))
      go t q_is = grind (arith, cleared_fits, is_number)
  one_fits c p b n spans way (Counted q k) stands at_place fits = absurd stands
  one_fits c p b n spans way (TakenOut q k m) stands at_place fits = absurd stands
  one_fits c p b n spans way e stands at_place fits = grind (arith, quiet_fits, fit_more)

  -- each act of a history finds at its place the number that stands there
  pub at_place : (h : List (Event T)) (e : Event T) → BitFinds h e → Numbers h → (b : ℕ) → AtPlace b (number_in b 0 h) e
  at_place h (event.Set q k) finds numbers b =
      λ same. (let found : sets b h ≡ clears b h = subst (λ z. sets z h ≡ clears z h) same finds in omega (arith, (numbers b).0))
  at_place h (Cleared q k) finds numbers b =
      λ same.
      (let found : sets b h ≡ clears b h + 1 = subst (λ z. sets z h ≡ clears z h + 1) same finds in omega (arith, (numbers b).0))
  at_place h e finds numbers b = tt
