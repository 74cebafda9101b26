-- Calls of which each acts once, between its begin and its end and with its answer, are linearizable where they are legal
-- in the order in which they act.
use Rattle.model.proofs.Names.{Acted, Answer, Begun, Bool, Call, Event, Finished, IfSome, IsLegal, IsLinearizable, List}
use Rattle.model.proofs.Names.{None, Option, Response, Some, Start, [], answers_from, ap, arith, cases_eq, false, map}
use Rattle.model.proofs.Names.{moments, refl, subst, sym, true, ℕ, ⊎_elim, ◌+◌, ◌<◌, ◌∙◌, ◌∷◌, ◌≡◌, ◌≢◌, ◌≤◌}
use Rattle.std.specs.List.{Contains}
use Rattle.model.specs.Linearizable.{response_in, calls_from, calls_of, StandsBefore, Precedes, Specification}
use Rattle.model.specs.Objects.{Object}
use Rattle.model.proofs.Linearizable.Acting.{Standing, call_at, entry_at, name_in, acted_clash, none_clash, passed}
use Rattle.model.proofs.Linearizable.Acting.{response_late, calls_late, ActsOnce, order_in, completed_act}
use Rattle.model.proofs.Linearizable.Members.{put, put_same, put_other, kept_if, here, there, none_there, split_if}
use Rattle.model.proofs.Linearizable.Members.{all_of, AllLater, later_if, later_so, pairs_of}

module _ {T : Type 0} (is_call : Start T → Bool) where
  -- ---- whatever stands there is a call of the object: one that is under way and has not acted, or one that begins later

  pub data Source (c : Call T) (es : List (Event T)) (place : ℕ) (going : ℕ → Standing T) (begun : ℕ → ℕ) : Type 0 where
    Pending : (p : ℕ) (start : Start T) → c ≡ call_at (begun p) p start (response_in p es place) → going p ≡ Some (start, None) → Source c es place going begun
    Later : Contains (calls_from es place) c → Source c es place going begun

  -- The response of a call that is under way at this place, or begins after it, comes no earlier
  -- than the place.
  late : (c : Call T) (r : Response T) (es : List (Event T)) (place : ℕ) {going : ℕ → Standing T} {begun : ℕ → ℕ}
      → Source c es place going begun → c.response ≡ Some r → place ≤ r.place
  late c r es place (Pending p start is under) responds = response_late p es place r (sym (ap (λ (c : Call T). c.response) is) ∙ responds)
  late c r es place (Later h) responds = (calls_late es place c h).1 r responds

  -- a call of the later events is one of all of them, and the call that begins first begins here
  source_begun : (p : ℕ) (s : Start T) (es : List (Event T)) (place : ℕ) {going : ℕ → Standing T} {begun : ℕ → ℕ} (c : Call T)
      → Source c es (place + 1) (put p (Some (s, None)) going) (put p place begun)
      → Source c (Begun p s ∷ es) place going begun
  source_begun p s es place c (Later h) = Later (there (call_at place p s (response_in p es (place + 1))) c (calls_from es (place + 1)) h)
  source_begun p s es place {going} {begun} c (Pending q start is under) = ⊎_elim mine theirs (cases_eq q p)
    where
      -- the call under way is the one that begins here
      mine : q ≡ p → Source c (Begun p s ∷ es) place going begun
      mine same =
          let whole : Some (s, None) ≡ Some (start, None) = sym (ap (put p (Some (s, None)) going) same ∙ put_same p (Some (s, None)) going) ∙ under in
          let name : s ≡ start = ap (name_in s) whole in
          let there : call_at place p s (response_in p es (place + 1)) ≡ call_at (put p place begun q) q start (response_in q es (place + 1)) =
          rw (same, put_same p place begun, name) refl
          in
          Later (here (call_at place p s (response_in p es (place + 1))) c (calls_from es (place + 1)) (there ∙ sym is))

      -- The case that the begin is of another party.
      theirs : q ≢ p → Source c (Begun p s ∷ es) place going begun
      theirs ne =
          Pending q start (is ∙ ap (λ n. call_at n q start (response_in q es (place + 1))) (put_other p q place begun ne))
          (sym (put_other p q (Some (s, None)) going ne) ∙ under)

  -- A call of the later events is one of all events, where the first event begins no call, answers no other party than `p`, and
  -- leaves `p`, which stands then as `o` says, without a call that has still to act.
  source_moved : (e : Event T) (p : ℕ) (o : Standing T) {es : List (Event T)} {place : ℕ} {going : ℕ → Standing T} {begun : ℕ → ℕ} {c : Call T}
      → calls_from (e ∷ es) place ≡ calls_from es (place + 1) → ((start : Start T) → o ≡ Some (start, None) → ⊥)
      → ((q : ℕ) → q ≢ p → response_in q (e ∷ es) place ≡ response_in q es (place + 1))
      → Source c es (place + 1) (put p o going) begun → Source c (e ∷ es) place going begun
  source_moved e p o {c = c} calls none responses (Later h) = Later (subst (λ cs. Contains cs c) (sym calls) h)
  source_moved e p o {es} {place} {going} {begun} {c} calls none responses (Pending q start is under) = ⊎_elim mine theirs (cases_eq q p)
    where
      -- the call of the party itself has acted or ended
      mine : q ≡ p → Source c (e ∷ es) place going begun
      mine same = absurd (none start (sym (ap (put p o going) same ∙ put_same p o going) ∙ under))

      theirs : q ≢ p → Source c (e ∷ es) place going begun
      theirs ne =
          Pending q start (is ∙ ap (λ (r : Option (Response T)). call_at (begun q) q start r) (sym (responses q ne)))
          (sym (put_other p q o going ne) ∙ under)

  -- A call of the later events is one of all events, if the first event neither begins nor ends a call.
  source_quiet : (e : Event T) {es : List (Event T)} {place : ℕ} {going : ℕ → Standing T} {begun : ℕ → ℕ} {c : Call T}
      → calls_from (e ∷ es) place ≡ calls_from es (place + 1)
      → ((p : ℕ) → response_in p (e ∷ es) place ≡ response_in p es (place + 1)) → Source c es (place + 1) going begun
      → Source c (e ∷ es) place going begun
  source_quiet e {c = c} calls responses (Later h) = Later (subst (λ cs. Contains cs c) (sym calls) h)
  source_quiet e {begun = begun} calls responses (Pending q start is under) =
      Pending q start (is ∙ ap (λ (o : Option (Response T)). call_at (begun q) q start o) (sym (responses q))) under

  -- the source of an entry, whose name is a call of the object
  pub record Comes (x : Call T × Answer T) (es : List (Event T)) (place : ℕ) (going : ℕ → Standing T) (begun : ℕ → ℕ) : Type 0 where
    pub source : Source x.0 es place going begun
    pub call : is_call x.0.start ≡ true

  -- each entry of the order has its source: a call that is under way, or that begins later
  comes : (es : List (Event T)) (place : ℕ) (going : ℕ → Standing T) (begun : ℕ → ℕ) → ActsOnce is_call es going
      → (x : Call T × Answer T) → Contains (order_in is_call es place begun) x → Comes x es place going begun
  comes [] place going begun once x h = absurd (none_there x h)
  comes (Begun p s ∷ es) place going begun once x h =
      let more = comes es (place + 1) (put p (Some (s, None)) going) (put p place begun) once.1 x h in
      record { source = source_begun p s es place {going = going} {begun = begun} x.0 more.source; call = more.call }
  comes (Acted p s a ∷ es) place going begun once x h =
      ⊎_elim mine (theirs (comes es (place + 1) (put p (Some (s, Some a)) going) begun once.1 x))
      (split_if (is_call s) (entry_at (begun p) p s (response_in p es (place + 1)) a) x (order_in is_call es (place + 1) begun) h)
    where
      -- The case that the act is this call's.
      mine : (is_call s ≡ true) × (entry_at (begun p) p s (response_in p es (place + 1)) a ≡ x) → Comes x (Acted p s a ∷ es) place going begun
      mine is_entry =
          let its : call_at (begun p) p s (response_in p es (place + 1)) ≡ x.0 = ap (λ (x : Call T × Answer T). x.0) is_entry.1 in
          record { source = Pending p s (sym its) once.0; call = subst (λ (c : Call T). is_call c.start ≡ true) its is_entry.0 }

      -- an entry that comes after this act has its source in the later events
      theirs : (Contains (order_in is_call es (place + 1) begun) x → Comes x es (place + 1) (put p (Some (s, Some a)) going) begun)
          → Contains (order_in is_call es (place + 1) begun) x → Comes x (Acted p s a ∷ es) place going begun
      theirs more member = record {
        source = source_moved (Acted p s a) p (Some (s, Some a)) refl (λ start. acted_clash s start a) (λ q ne. refl) (more member).source;
        call = (more member).call;
      }
  comes (Finished p s a ∷ es) place going begun once x h =
      let more = comes es (place + 1) (put p None going) begun once.1 x h in
      record {
        source =
            source_moved (Finished p s a) p None refl (λ start. none_clash (start, None)) (λ q ne. passed q p s a es place (λ h. ne (sym h)))
            more.source;
        call = more.call;
      }
  comes (e ∷ es) place going begun once x h =
      let more = comes es (place + 1) going begun once x h in
      record { source = source_quiet e {es = es} {place = place} {going = going} {begun = begun} {c = x.0} refl (λ p. refl) more.source; call = more.call }

  -- ---- each stands there once, and none behind a call that it precedes

  -- the calls under way have begun
  abbrev AreBegun : ℕ → (ℕ → Standing T) → (ℕ → ℕ) → Type 0
  AreBegun place going begun = (p : ℕ) (x : Start T × Option (Answer T)) → going p ≡ Some x → begun p < place

  abbrev MayPrecede : Call T × Answer T → Call T × Answer T → Type 0
  MayPrecede x y = (x.0 ≢ y.0) × ¬ Precedes y.0 x.0

  -- Each call under way began before the next place also after an event of the party `p`, if that is so of its own call.
  still_begun : (p : ℕ) (o : Standing T) (place : ℕ) {going : ℕ → Standing T} {begun begun' : ℕ → ℕ}
      → ((x : Start T × Option (Answer T)) → o ≡ Some x → begun' p < place + 1) → ((q : ℕ) → q ≢ p → begun' q ≡ begun q)
      → AreBegun place going begun → AreBegun (place + 1) (put p o going) begun'
  still_begun p o place {going} {begun} {begun'} own others all q x under = ⊎_elim mine theirs (cases_eq q p)
    where
      -- the call is that of the party itself
      mine : q ≡ p → begun' q < place + 1
      mine same = rw same (own x (sym (ap (put p o going) same ∙ put_same p o going) ∙ under))

      theirs : q ≢ p → begun' q < place + 1
      theirs ne = omega (arith, others q ne, all q x (sym (put_other p q o going ne) ∙ under))

  -- a call that acts now and one that acts later
  now_and_later : (p : ℕ) (s : Start T) (a : Answer T) {es : List (Event T)} (place : ℕ) (going : ℕ → Standing T)
      {begun : ℕ → ℕ} (o : Option (Response T)) {c : Call T}
      → begun p < place → Source c es (place + 1) (put p (Some (s, Some a)) going) begun
      → (call_at (begun p) p s o ≢ c) × ¬ Precedes c (call_at (begun p) p s o)
  now_and_later p s a {es} place going {begun} o {c} lt source = (differ source, before c.response refl)
    where
      -- the call that acts now is none of those that act later
      differ : Source c es (place + 1) (put p (Some (s, Some a)) going) begun → call_at (begun p) p s o ≢ c
      differ (Pending q start is under) e =
          let same : p ≡ q = ap (λ (c : Call T). c.party) (e ∙ is) in
          acted_clash s start a (sym (ap (put p (Some (s, Some a)) going) (sym same) ∙ put_same p (Some (s, Some a)) going) ∙ under)
      differ (Later h) e =
          let at : begun p ≡ c.place = ap (λ (c : Call T). c.place) e in
          omega (arith, (calls_late es (place + 1) c h).0)

      before : (response : Option (Response T)) → c.response ≡ response → ¬ StandsBefore response (begun p)
      before None responds h = h
      before (Some r) responds h = omega (arith, late c r es (place + 1) source responds)

  -- any two entries are of two calls, and the later one had not ended before the earlier one began
  in_order : (es : List (Event T)) (place : ℕ) (going : ℕ → Standing T) (begun : ℕ → ℕ) → ActsOnce is_call es going
      → AreBegun place going begun → AllLater MayPrecede (order_in is_call es place begun)
  in_order [] place going begun once all = tt
  in_order (Begun p s ∷ es) place going begun once all =
      in_order es (place + 1) (put p (Some (s, None)) going) (put p place begun) once.1
      (still_begun p (Some (s, None)) place (λ x e. omega (arith, put_same p place begun)) (λ q ne. put_other p q place begun ne) all)
  in_order (Acted p s a ∷ es) place going begun once all =
      later_if MayPrecede (is_call s) (entry_at (begun p) p s (response_in p es (place + 1)) a) (order_in is_call es (place + 1) begun)
      (λ t y h. now_and_later p s a place going (response_in p es (place + 1)) (all p (s, None) once.0)
      (comes es (place + 1) (put p (Some (s, Some a)) going) begun once.1 y h).source)
      (in_order es (place + 1) (put p (Some (s, Some a)) going) begun once.1
      (still_begun p (Some (s, Some a)) place (λ x e. omega (arith, all p (s, None) once.0)) (λ q ne. refl) all))
  in_order (Finished p s a ∷ es) place going begun once all =
      in_order es (place + 1) (put p None going) begun once.1 (still_begun p None place (λ x e. absurd (none_clash x e)) (λ q ne. refl) all)
  in_order (e ∷ es) place going begun once all =
      in_order es (place + 1) going begun once (λ p x under. omega (arith, all p x under))

  -- ---- and in that order they are legal

  module _ {State : Type 0} (o : Object T State) (others : (s : State) (start : Start T) → is_call start ≡ false → o.after s start ≡ s) where
    abbrev names : List (Call T × Answer T) → List (Start T × Answer T)
    names xs = map (λ x. (x.0.start, x.1)) xs

    abbrev IsLegalFrom : State → List (Start T × Answer T) → Type 0
    IsLegalFrom s xs = answers_from o s (map (λ m. m.0) xs) ≡ map (λ m. m.1) xs

    -- the answers in that order are those of the object, where its moments are legal
    legal_in : (es : List (Event T)) (place : ℕ) (begun : ℕ → ℕ) (s : State) → IsLegalFrom s (moments es)
        → IsLegalFrom s (names (order_in is_call es place begun))
    legal_in [] place begun s legal = refl
    legal_in (Begun p start ∷ es) place begun s legal = legal_in es (place + 1) (put p place begun) s legal
    legal_in (Acted p start answer ∷ es) place begun s legal =
        go (is_call start) refl (λ s. legal_in es (place + 1) begun s)
      where
        its : o.answer s start ≡ answer
        its = cc

        more : IsLegalFrom (o.after s start) (moments es)
        more = cc

        -- The cases are whether the call that acts is one of the object.
        go : (b : Bool) → is_call start ≡ b → ((s : State) → IsLegalFrom s (moments es) → IsLegalFrom s (names (order_in is_call es (place + 1) begun)))
            → IsLegalFrom s (names (kept_if b (entry_at (begun p) p start (response_in p es (place + 1)) answer) (order_in is_call es (place + 1) begun)))
        go true test rest = let tail = rest (o.after s start) more in cc
        go false test rest = rest s (subst (λ n. IsLegalFrom n (moments es)) (others s start test) more)
    legal_in (e ∷ es) place begun s legal = legal_in es (place + 1) begun s legal

-- the theorem: a history in which each call acts once is linearizable where its moments are legal
module _ {T State : Type 0} (spec : Specification T State) where
  -- A call of the object that has responded is in the order with its answer.
  abbrev Answered : List (Event T) → Call T → Type 0
  Answered history call =
      IfSome call.response
      (λ response. spec.is_call call.start ≡ true → Contains (order_in spec.is_call history 0 (λ p. 0)) (call, response.answer))

  -- the calls in the order in which they act are the sequential history that is asked for
  pub linearizable : (others : (s : State) (start : Start T) → spec.is_call start ≡ false → spec.object.after s start ≡ s)
      {history : List (Event T)}
      → ActsOnce spec.is_call history (λ p. None) → IsLegal spec.object (moments history)
      → IsLinearizable spec history
  linearizable others {history} once legal =
      let apart = in_order spec.is_call history 0 (λ p. None) (λ p. 0) once (λ p x e. absurd (cc)) in
      record {
        sequential = order_in spec.is_call history 0 (λ p. 0);
        legal = legal_in spec.is_call spec.object others history 0 (λ p. 0) spec.object.opening legal;
        invoked = all_of (λ x. (spec.is_call x.0.start ≡ true) × Contains (calls_of history) x.0) (order_in spec.is_call history 0 (λ p. 0)) called;
        completed = all_of (Answered history) (calls_of history) answered;
        once =
            pairs_of (λ x y. x.0 ≢ y.0) (order_in spec.is_call history 0 (λ p. 0))
            (later_so (MayPrecede spec.is_call) (λ x y. x.0 ≢ y.0) (λ x y h. h.0) (order_in spec.is_call history 0 (λ p. 0)) apart);
        real_time =
            pairs_of (λ x y. ¬ Precedes y.0 x.0) (order_in spec.is_call history 0 (λ p. 0))
            (later_so (MayPrecede spec.is_call) (λ x y. ¬ Precedes y.0 x.0) (λ x y h. h.1) (order_in spec.is_call history 0 (λ p. 0)) apart);
      }
    where
      -- Each call of the history that has responded is in the order.
      answered : (c : Call T) → Contains (calls_of history) c → Answered history c
      answered c member = go c.response refl
        where
          -- The cases are whether the call has responded.
          go : (o : Option (Response T)) → c.response ≡ o
              → IfSome o
              (λ response. spec.is_call c.start ≡ true → Contains (order_in spec.is_call history 0 (λ p. 0)) (c, response.answer))
          go None responds = tt
          go (Some r) responds = λ t. completed_act spec.is_call c r responds t history 0 (λ p. None) (λ p. 0) once member

      -- Each call in the order is one of the object, and was invoked in the history.
      called : (x : Call T × Answer T) → Contains (order_in spec.is_call history 0 (λ p. 0)) x
          → (spec.is_call x.0.start ≡ true) × Contains (calls_of history) x.0
      called x h = go (comes spec.is_call history 0 (λ p. None) (λ p. 0) once x h)
        where
          -- A call that is under way or begins later was invoked in the history.
          begins : Source spec.is_call x.0 history 0 (λ p. None) (λ p. 0) → Contains (calls_of history) x.0
          begins (Pending p start is under) = absurd (cc)
          begins (Later h) = h

          go : Comes spec.is_call x history 0 (λ p. None) (λ p. 0) → (spec.is_call x.0.start ≡ true) × Contains (calls_of history) x.0
          go its_source = (its_source.call, begins its_source.source)

  -- The sequential history that it gives is the order in which the calls act.
  pub in_that_order : (others : (s : State) (start : Start T) → spec.is_call start ≡ false → spec.object.after s start ≡ s)
      (history : List (Event T)) (once : ActsOnce spec.is_call history (λ p. None)) (legal : IsLegal spec.object (moments history))
      → (linearizable others {history = history} once legal).sequential ≡ order_in spec.is_call history 0 (λ p. 0)
  unfolding linearizable
  in_that_order others history once legal = refl
