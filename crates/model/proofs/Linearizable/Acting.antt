-- Calls of which each acts once, between its begin and its end and with its answer: in the order in which they act stand all
-- that are completed, with their answers. No machine is in it.
use Rattle.model.proofs.Names.{Acted, Answer, Begun, Bool, Call, Event, Finished, List, None, Option, Response, Some}
use Rattle.model.proofs.Names.{Start, [], ap, arith, cases_eq, false, nat_tests, refl, subst, sym, true, ℕ, ⊎_elim, ◌+◌}
use Rattle.model.proofs.Names.{◌==◌, ◌∙◌, ◌∷◌, ◌≡◌, ◌≢◌, ◌≤◌}
use Rattle.std.specs.List.{Contains}
use Rattle.model.specs.Linearizable.{response_in, calls_from}
use Rattle.model.proofs.Linearizable.Members.{put, put_same, put_other, kept_if, first, later, none_there, split}

-- ---- what is known of a party's call under way: its name and, once it has acted, its answer

abbrev pub Standing : Type 0 → Type 0
Standing T = Option (Start T × Option (Answer T))

module _ {T : Type 0} where
  abbrev pub call_at : ℕ → ℕ → Start T → Option (Response T) → Call T
  call_at place p start response = record { place = place; party = p; start = start; response = response }

  abbrev pub entry_at : ℕ → ℕ → Start T → Option (Response T) → Answer T → Call T × Answer T
  entry_at place p start response answer = (call_at place p start response, answer)

  -- Entries are equal whose places, parties, starts, responses and answers are.
  pub same_entry : {m n p q : ℕ} {s t : Start T} {x y : Option (Response T)} {a b : Answer T} → m ≡ n → p ≡ q
      → s ≡ t → x ≡ y → a ≡ b → entry_at m p s x a ≡ entry_at n q t y b
  same_entry same_place same_party same_start same_reply same_answer = rw (same_place, same_party, same_start, same_reply, same_answer) refl

  -- the parts of what is known, at None these
  abbrev pub name_in : Start T → Standing T → Start T
  name_in d None = d
  name_in d (Some x) = x.0

  -- The answer with which a call under way has acted, if it has.
  abbrev pub acted_in : Option (Answer T) → Standing T → Option (Answer T)
  acted_in d None = d
  acted_in d (Some x) = x.1

  abbrev pub under_way : Start T → Option (Answer T) → Standing T
  under_way start acted = Some (start, acted)

  -- A call that has acted is not one that has not.
  pub acted_clash : (s t : Start T) (a : Answer T) → under_way s (Some a) ≡ under_way t None → ⊥
  acted_clash s t a same_standing =
      let second : Some a ≡ None = ap (acted_in None) same_standing in
      cc

  pub none_clash : (x : Start T × Option (Answer T)) → None ≡ Some x → ⊥
  none_clash x none_is = cc

  -- ---- responses

  abbrev pub response_at : ℕ → Answer T → Response T
  response_at place answer = record { place = place; answer = answer }

  -- an event of another party is no response
  pub passed : (p q : ℕ) (start : Start T) (answer : Answer T) (es : List (Event T)) (place : ℕ) → q ≢ p
      → response_in p (Finished q start answer ∷ es) place ≡ response_in p es (place + 1)
  passed p q start answer es place ne = let tests_apart : (q == p) ≡ false = grind (arith, nat_tests) in rw tests_apart refl

  -- The party's next response is the end that comes first.
  pub responded : (p q : ℕ) (start : Start T) (answer : Answer T) (es : List (Event T)) (place : ℕ) → q ≡ p
      → response_in p (Finished q start answer ∷ es) place ≡ Some (response_at place answer)
  responded p q start answer es place same_party = let tests_same : (q == p) ≡ true = grind (arith, nat_tests) in rw tests_same refl

  -- The place of a response, if there is one.
  pub place_of : Response T → Option (Response T) → ℕ
  place_of d None = d.place
  place_of d (Some r) = r.place

  pub same_response : (r s : Response T) → Some r ≡ Some s → r ≡ s
  same_response r s same = cc

  -- a response that comes in these events stands among them
  pub response_late : (p : ℕ) (es : List (Event T)) (place : ℕ) (r : Response T) → response_in p es place ≡ Some r → place ≤ r.place
  response_late p [] place r responds = absurd (cc)
  response_late p (Finished q start answer ∷ es) place r responds = ⊎_elim mine (theirs (response_late p es (place + 1) r)) (cases_eq q p)
    where
      -- The case that the event is of the call's own party.
      mine : q ≡ p → place ≤ r.place
      mine is =
          let same : response_at place answer ≡ r = same_response (response_at place answer) r (sym (responded p q start answer es place is) ∙ responds) in
          let at : place ≡ r.place = ap (λ (r : Response T). r.place) same in
          omega arith

      theirs : (response_in p es (place + 1) ≡ Some r → place + 1 ≤ r.place) → q ≢ p → place ≤ r.place
      theirs more ne = omega (arith, more (sym (passed p q start answer es place ne) ∙ responds))
  response_late p (e ∷ es) place r responds = omega (arith, response_late p es (place + 1) r responds)

  -- the calls that begin in these events stand among them
  pub calls_late : (es : List (Event T)) (place : ℕ) (c : Call T) → Contains (calls_from es place) c
      → (place ≤ c.place) × ((r : Response T) → c.response ≡ Some r → place ≤ r.place)
  calls_late [] place c h = absurd (none_there c h)
  calls_late (Begun p start ∷ es) place c h =
      ⊎_elim mine (theirs (calls_late es (place + 1) c))
      (split (call_at place p start (response_in p es (place + 1))) c (calls_from es (place + 1)) h)
    where
      -- The case that the event begins this call.
      mine : call_at place p start (response_in p es (place + 1)) ≡ c → (place ≤ c.place) × ((r : Response T) → c.response ≡ Some r → place ≤ r.place)
      mine same_call =
          let at : place ≡ c.place = ap (λ (c : Call T). c.place) same_call in
          let its : response_in p es (place + 1) ≡ c.response = ap (λ (c : Call T). c.response) same_call in
          (omega arith, λ r e. omega (arith, response_late p es (place + 1) r (its ∙ e)))

      -- a call that begins after the first event has its place, and its end, after that event
      theirs : (Contains (calls_from es (place + 1)) c
          → (place + 1 ≤ c.place) × ((r : Response T) → c.response ≡ Some r → place + 1 ≤ r.place))
          → Contains (calls_from es (place + 1)) c
          → (place ≤ c.place) × ((r : Response T) → c.response ≡ Some r → place ≤ r.place)
      theirs more member = let far = more member in let le = far.0 in (omega arith, λ r e. omega (arith, far.1 r e))
  calls_late (e ∷ es) place c h =
      let far = calls_late es (place + 1) c h in
      let le = far.0 in
      (omega arith, λ r e. omega (arith, far.1 r e))

module _ {T : Type 0} (is_call : Start T → Bool) where
  -- ---- each call acts once, while it is under way, and ends with that answer

  -- A call that ends is the one under way, and, if it is a call of the object, has acted with its answer.
  abbrev pub Ends : Start T → Answer T → Standing T → Type 0
  Ends start answer None = ⊥
  Ends start answer (Some call) = (call.0 ≡ start) × (is_call start ≡ true → call.1 ≡ Some answer)

  -- from where each party stands, every call acts once between its beginning and its end, and ends with that answer
  abbrev pub ActsOnce : List (Event T) → (ℕ → Standing T) → Type 0
  ActsOnce [] going = Unit {0}
  ActsOnce (Begun p start ∷ es) going = (going p ≡ None) × ActsOnce es (put p (Some (start, None)) going)
  ActsOnce (Acted p start answer ∷ es) going = (going p ≡ Some (start, None)) × ActsOnce es (put p (Some (start, Some answer)) going)
  ActsOnce (Finished p start answer ∷ es) going = Ends start answer (going p) × ActsOnce es (put p None going)
  ActsOnce (e ∷ es) going = ActsOnce es going

  -- ---- the calls in the order in which they act, where the latest call of each party was begun there

  -- from a place on, each call of the object stands where it acts, with the place where its party began it
  abbrev pub order_in : List (Event T) → ℕ → (ℕ → ℕ) → List (Call T × Answer T)
  order_in [] place begun = []
  order_in (Begun p start ∷ es) place begun = order_in es (place + 1) (put p place begun)
  order_in (Acted p start answer ∷ es) place begun =
      kept_if (is_call start) (entry_at (begun p) p start (response_in p es (place + 1)) answer) (order_in es (place + 1) begun)
  order_in (e ∷ es) place begun = order_in es (place + 1) begun

  -- ---- completed calls stand there

  pub ends_as : (start : Start T) (answer : Answer T) (x : Standing T) (call : Start T) (acted : Option (Answer T))
      → x ≡ Some (call, acted) → is_call call ≡ true → Ends start answer x → acted ≡ Some answer
  ends_as = grind arith

  -- ---- the call `start` of the object, of party `p`, whose response is `r`: it acts before it ends, with the answer of `r`

  module _ (p : ℕ) (start : Start T) (r : Response T) (of_object : is_call start ≡ true) where
    -- Where the call has acted with `answer`, its response has that answer.
    pub told : (answer : Answer T) (es : List (Event T)) (place : ℕ) (going : ℕ → Standing T)
        → going p ≡ Some (start, Some answer) → ActsOnce es going → response_in p es place ≡ Some r → answer ≡ r.answer
    told answer [] place going has_acted once responds = absurd (cc)
    told answer (Begun q s ∷ es) place going has_acted once responds =
        ⊎_elim (λ (same : p ≡ q). let clash : None ≡ Some (start, Some answer) = sym once.0 ∙ (sym (ap going same) ∙ has_acted) in absurd (cc))
        (λ (other : p ≢ q). told answer es (place + 1) (put q (Some (s, None)) going) (put_other q p (Some (s, None)) going other ∙ has_acted) once.1 responds)
        (cases_eq p q)
    told answer (Acted q s a ∷ es) place going has_acted once responds =
        ⊎_elim (λ (same : p ≡ q). absurd (acted_clash start s answer (sym has_acted ∙ (ap going same ∙ once.0))))
        (λ (other : p ≢ q).
        told answer es (place + 1) (put q (Some (s, Some a)) going) (put_other q p (Some (s, Some a)) going other ∙ has_acted) once.1 responds)
        (cases_eq p q)
    told answer (Finished q s a ∷ es) place going has_acted once responds =
        ⊎_elim mine
        (λ (other : q ≢ p). told answer es (place + 1) (put q None going)
        (put_other q p None going (λ h. other (sym h)) ∙ has_acted) once.1 (sym (passed p q s a es place other) ∙ responds))
        (cases_eq q p)
      where
        -- the end of the call is here: it has the answer that the call acted with
        mine : q ≡ p → answer ≡ r.answer
        mine same =
            let here : Some answer ≡ Some a = ends_as s a (going q) start (Some answer) (ap going same ∙ has_acted) of_object once.0 in
            let its : response_at place a ≡ r = same_response (response_at place a) r (sym (responded p q s a es place same) ∙ responds) in
            let last : a ≡ r.answer = ap (λ (r : Response T). r.answer) its in
            cc
    told answer (e ∷ es) place going has_acted once responds = told answer es (place + 1) going has_acted once responds

    -- Where the call has not acted yet, its entry stands in the order of those that act from here on.
    pub acts_before : (es : List (Event T)) (place : ℕ) (going : ℕ → Standing T) (begun : ℕ → ℕ)
        → going p ≡ Some (start, None) → ActsOnce es going → response_in p es place ≡ Some r
        → Contains (order_in es place begun) (entry_at (begun p) p start (Some r) r.answer)
    acts_before [] place going begun waits once responds = absurd (cc)
    acts_before (Begun q s ∷ es) place going begun waits once responds =
        ⊎_elim (λ (same : p ≡ q). let clash : None ≡ Some (start, None) = sym once.0 ∙ (sym (ap going same) ∙ waits) in absurd (cc))
        (λ (other : p ≢ q).
        subst (λ n. Contains (order_in es (place + 1) (put q place begun)) (entry_at n p start (Some r) r.answer)) (put_other q p place begun other)
        (acts_before es (place + 1) (put q (Some (s, None)) going) (put q place begun) (put_other q p (Some (s, None)) going other ∙ waits) once.1 responds))
        (cases_eq p q)
    acts_before (Acted q s a ∷ es) place going begun waits once responds =
        ⊎_elim mine
        (λ (other : p ≢ q).
        later (is_call s) (entry_at (begun q) q s (response_in q es (place + 1)) a) (entry_at (begun p) p start (Some r) r.answer)
        (order_in es (place + 1) begun)
        (acts_before es (place + 1) (put q (Some (s, Some a)) going) begun (put_other q p (Some (s, Some a)) going other ∙ waits) once.1 responds))
        (cases_eq p q)
      where
        -- The case that the act is of the call's own party: it is this call's act, whose entry stands first.
        mine : p ≡ q → Contains (order_in (Acted q s a ∷ es) place begun) (entry_at (begun p) p start (Some r) r.answer)
        mine same =
            let whole : Some (s, None) ≡ Some (start, None) = sym once.0 ∙ (sym (ap going same) ∙ waits) in
            let name : s ≡ start = ap (name_in s) whole in
            let now : put q (Some (s, Some a)) going p ≡ Some (start, Some a) =
            ap (put q (Some (s, Some a)) going) same ∙ (put_same q (Some (s, Some a)) going ∙ ap (λ (n : Start T). Some (n, Some a)) name)
            in
            let its : a ≡ r.answer = told a es (place + 1) (put q (Some (s, Some a)) going) now once.1 responds in
            first (is_call s) (entry_at (begun q) q s (response_in q es (place + 1)) a)
            (entry_at (begun p) p start (Some r) r.answer) (order_in es (place + 1) begun)
            (ap is_call name ∙ of_object)
            (same_entry (sym (ap begun same)) (sym same) name (ap (λ n. response_in n es (place + 1)) (sym same) ∙ responds) its)
    acts_before (Finished q s a ∷ es) place going begun waits once responds =
        ⊎_elim (λ (same : q ≡ p). let clash : None ≡ Some a = ends_as s a (going q) start None (ap going same ∙ waits) of_object once.0 in absurd (cc))
        (λ (other : q ≢ p). acts_before es (place + 1) (put q None going) begun
        (put_other q p None going (λ h. other (sym h)) ∙ waits) once.1 (sym (passed p q s a es place other) ∙ responds))
        (cases_eq q p)
    acts_before (e ∷ es) place going begun waits once responds = acts_before es (place + 1) going begun waits once responds

  -- Each completed call of the object that begins in these events has its entry among those that act.
  module _ (c : Call T) (r : Response T) (responds : c.response ≡ Some r) (of_object : is_call c.start ≡ true) where
    pub completed_act : (es : List (Event T)) (place : ℕ) (going : ℕ → Standing T) (begun : ℕ → ℕ) → ActsOnce es going
        → Contains (calls_from es place) c → Contains (order_in es place begun) (c, r.answer)
    completed_act [] place going begun once member = absurd (none_there c member)
    completed_act (Begun p start ∷ es) place going begun once member =
        ⊎_elim mine (completed_act es (place + 1) (put p (Some (start, None)) going) (put p place begun) once.1)
        (split (call_at place p start (response_in p es (place + 1))) c (calls_from es (place + 1)) member)
      where
        -- the call that begins here is the one: it acts before it ends
        mine : call_at place p start (response_in p es (place + 1)) ≡ c → Contains (order_in es (place + 1) (put p place begun)) (c, r.answer)
        mine same_call =
            let name : start ≡ c.start = ap (λ (c : Call T). c.start) same_call in
            let its : response_in p es (place + 1) ≡ Some r = ap (λ (c : Call T). c.response) same_call ∙ responds in
            let whole : entry_at (put p place begun p) p start (Some r) r.answer ≡ entry_at c.place c.party c.start c.response r.answer =
            same_entry (put_same p place begun ∙ ap (λ (c : Call T). c.place) same_call) (ap (λ (c : Call T). c.party) same_call) name (sym responds) refl
            in
            subst (Contains (order_in es (place + 1) (put p place begun))) whole
            (acts_before p start r (ap is_call name ∙ of_object) es (place + 1) (put p (Some (start, None)) going) (put p place begun)
            (put_same p (Some (start, None)) going) once.1 its)
    completed_act (Acted p start answer ∷ es) place going begun once member =
        later (is_call start) (entry_at (begun p) p start (response_in p es (place + 1)) answer) (c, r.answer) (order_in es (place + 1) begun)
        (completed_act es (place + 1) (put p (Some (start, Some answer)) going) begun once.1 member)
    completed_act (Finished p start answer ∷ es) place going begun once member =
        completed_act es (place + 1) (put p None going) begun once.1 member
    completed_act (x ∷ es) place going begun once member = completed_act es (place + 1) going begun once member
