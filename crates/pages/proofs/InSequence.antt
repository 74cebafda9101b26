-- Where calls run one after another, each finds at a place what the one before it left there.
use Rattle.std.specs.List.{AllByRecursion, AllPairs, Contains}
use Rattle.std.specs.Prelude.{IfSome}
use Rattle.std.proofs.Common.{◌<◌, ◌≡◌, ◌≢◌, ◌≤◌, ◌⊎◌, ◌++◌, ◌∷◌, ◌∙◌, List, None, Option, Some, []}
use Rattle.std.proofs.Common.{ap, arith, inl, inr, map, refl, subst, suc, sym, ℕ, ⊎_elim}
use Rattle.std.proofs.lemmas.List.Elements.{Contains-append_right}
use Rattle.model.proofs.Linearizable.Members.{AllLater, here, none_there, split, there}
use Rattle.pages.specs.Machine.{Called, Event, calls_from}
use Rattle.pages.specs.Places.{Act, ActsAt, IsChain}

-- an entry of a sequence: a call, and what it did at the place
abbrev pub Entry : (Call Answer : Type 0) → Type 0
Entry Call Answer = Called Call Answer × Act

module _ {Call Answer : Type 0} where
  abbrev entry : Called Call Answer → Act → Entry Call Answer
  entry c act = (c, act)

  -- The call `c` was invoked before `d`, and its response, if there is one, came before that too.
  abbrev pub Before : Called Call Answer → Called Call Answer → Type 0
  Before c d = (c.place < d.place) × IfSome c.response (λ r. r.0 < d.place)

  -- what holds of all pairs by number holds of each entry and all later ones
  later_of : (R : Entry Call Answer → Entry Call Answer → Type 0) (xs : List (Entry Call Answer)) → AllPairs R xs → AllLater R xs
  later_of R [] pairs = tt
  later_of R (x ∷ xs) pairs = (
    λ y h. (let lt = h.1 in subst (R x) h.2 (pairs 0 (suc h.0) y (omega arith) (omega arith))),
    later_of R xs (λ i j d lt within. pairs (suc i) (suc j) d (omega arith) (omega arith)),
  )

  -- two of the calls that run one after another are one, or one of them is before the other
  ordered : (cs : List (Called Call Answer)) → AllLater Before cs → (c d : Called Call Answer) → Contains cs c → Contains cs d
      → (c ≡ d) ⊎ (Before c d ⊎ Before d c)
  ordered [] all c d a b = absurd (none_there c a)
  ordered (x ∷ cs) all c d a b =
      ⊎_elim
      (λ e. ⊎_elim (λ f. inl (sym e ∙ f)) (λ more. inr (inl (subst (λ c. Before c d) e (all.0 d more)))) (split x d cs b))
      (λ rest. ⊎_elim (λ f. inr (inr (subst (λ d. Before d c) f (all.0 c rest)))) (λ more. ordered cs all.1 c d rest more) (split x d cs b))
      (split x c cs a)

  -- The call of the first entry was invoked before that of the second.
  abbrev Sorted : Entry Call Answer → Entry Call Answer → Type 0
  Sorted x y = x.0.place < y.0.place

  -- if one list, in the order of invocations, is in another whose first call is the same, what is behind the first entry of the one is
  -- behind that of the other
  rest_in : (x y : Entry Call Answer) (xs ys : List (Entry Call Answer)) → ((z : Entry Call Answer) → Contains xs z → Sorted x z)
      → x.0.place ≡ y.0.place → ((z : Entry Call Answer) → Contains (x ∷ xs) z → Contains (y ∷ ys) z)
      → (z : Entry Call Answer) → Contains xs z → Contains ys z
  rest_in x y xs ys sorted same to z h =
      ⊎_elim
      (λ e. let lt = sorted z h in
      let same_place : y.0.place ≡ z.0.place = ap (λ (z : Entry Call Answer). z.0.place) e in
      absurd (omega arith))
      (λ more. more) (split y z ys (to z (there x z xs h)))

  -- two lists in the order of invocations that contain the same entries are equal
  same_members : (xs ys : List (Entry Call Answer)) → AllLater Sorted xs → AllLater Sorted ys → ((z : Entry Call Answer) → Contains xs z → Contains ys z)
      → ((z : Entry Call Answer) → Contains ys z → Contains xs z) → xs ≡ ys
  same_members [] [] a b to from = refl
  same_members [] (y ∷ ys) a b to from = absurd (none_there y (from y (here y y ys refl)))
  same_members (x ∷ xs) [] a b to from = absurd (none_there x (to x (here x x xs refl)))
  same_members (x ∷ xs) (y ∷ ys) a b to from =
      ap (λ zs. x ∷ zs) (same_members xs ys a.1 b.1 (rest_in x y xs ys a.0 place_is to) (rest_in y x ys xs b.0 (sym place_is) from)) ∙ ap (λ z. z ∷ ys) first
    where
      first : x ≡ y
      first =
          ⊎_elim (λ e. sym e)
          (λ x_in. ⊎_elim (λ e. e) (λ y_in. absurd (omega (arith, b.0 x x_in, a.0 y y_in))) (split x y xs (from y (here y y ys refl))))
          (split y x ys (to x (here x x xs refl)))

      place_is : x.0.place ≡ y.0.place
      place_is = ap (λ (z : Entry Call Answer). z.0.place) first

  -- what completed calls did
  module _ (at : Call → Answer → Option Act) where
    abbrev pub did : Called Call Answer → Option Act → List (Entry Call Answer)
    did c None = []
    did c (Some act) = (c, act) ∷ []

    abbrev pub did_with : Called Call Answer → Option (ℕ × Answer) → List (Entry Call Answer)
    did_with c None = []
    did_with c (Some r) = did c (at c.call r.1)

    abbrev pub acted : List (Called Call Answer) → List (Entry Call Answer)
    acted [] = []
    acted (c ∷ cs) = did_with c c.response ++ acted cs

    -- The call has responded.
    abbrev pub Responds : Called Call Answer → Type 0
    Responds c = (r : ℕ × Answer) × (c.response ≡ Some r)

    -- an entry that acted is a call whose answer acts at the place
    acted_from : (cs : List (Called Call Answer)) (z : Entry Call Answer) → Contains (acted cs) z
        → Contains cs z.0 × ((r : ℕ × Answer) × ((z.0.response ≡ Some r) × (at z.0.call r.1 ≡ Some z.1)))
    acted_from [] z h = absurd (none_there z h)
    acted_from (c ∷ cs) z h = by c.response refl h (λ more. let had = acted_from cs z more in (there c z.0 cs had.0, had.1))
      where
        -- the cases are whether the first call has responded
        by : (o : Option (ℕ × Answer)) → c.response ≡ o → Contains (did_with c o ++ acted cs) z
            → (Contains (acted cs) z → Contains (c ∷ cs) z.0 × ((r : ℕ × Answer) × ((z.0.response ≡ Some r) × (at z.0.call r.1 ≡ Some z.1))))
            → Contains (c ∷ cs) z.0 × ((r : ℕ × Answer) × ((z.0.response ≡ Some r) × (at z.0.call r.1 ≡ Some z.1)))
        by None e h rest = rest h
        by (Some r) e h rest = go (at c.call r.1) refl h
          where
            -- the cases are whether its answer acts at the place
            go : (d : Option Act) → at c.call r.1 ≡ d → Contains (did c d ++ acted cs) z
                → Contains (c ∷ cs) z.0 × ((r : ℕ × Answer) × ((z.0.response ≡ Some r) × (at z.0.call r.1 ≡ Some z.1)))
            go None f h = rest h
            go (Some act) f h =
                let this : Entry Call Answer = (c, act) in
                ⊎_elim
                (λ same. subst (λ (z : Entry Call Answer). Contains (c ∷ cs) z.0
                × ((r : ℕ × Answer) × ((z.0.response ≡ Some r) × (at z.0.call r.1 ≡ Some z.1))))
                same
                (here c c cs refl, (r, (e, f))))
                rest (split this z (acted cs) h)

    -- a completed call whose answer acts at the place is among the entries that acted
    acted_to : (cs : List (Called Call Answer)) (c : Called Call Answer) (r : ℕ × Answer) (act : Act) → Contains cs c → c.response ≡ Some r
        → at c.call r.1 ≡ Some act → Contains (acted cs) (c, act)
    acted_to [] c r act h e f = absurd (none_there c h)
    acted_to (d ∷ cs) c r act h e f =
        ⊎_elim
        (λ same. subst (λ o. Contains (did_with d o ++ acted cs) (c, act)) (sym (ap (λ (c : Called Call Answer). c.response) same ∙ e))
        (subst (λ o. Contains (did d o ++ acted cs) (c, act)) (sym (ap (λ (c : Called Call Answer). at c.call r.1) same ∙ f))
        (first d same)))
        (λ more. past (did_with d d.response) (acted_to cs c r act more e f)) (split d c cs h)
      where
        first : (d : Called Call Answer) → d ≡ c → Contains ((d, act) ∷ acted cs) (c, act)
        first d same = let this : Entry Call Answer = (d, act) in
            let that : Entry Call Answer = (c, act) in
            here this that (acted cs) (ap (λ c. entry c act) same)

        past : (xs : List (Entry Call Answer)) → Contains (acted cs) (c, act) → Contains (xs ++ acted cs) (c, act)
        past xs h = Contains-append_right xs (acted cs) (c, act) h

    -- the acts of calls that run one after another stand in the order of the invocations
    sorted_acts : (cs : List (Called Call Answer)) → AllLater Before cs → AllLater Sorted (acted cs)
    sorted_acts [] all = tt
    sorted_acts (c ∷ cs) all = by c.response (sorted_acts cs all.1)
      where
        later : (act : Act) (z : Entry Call Answer) → Contains (acted cs) z → c.place < z.0.place
        later act z h = (all.0 z.0 (acted_from cs z h).0).0

        -- the cases are whether the first call has responded
        by : (o : Option (ℕ × Answer)) → AllLater Sorted (acted cs) → AllLater Sorted (did_with c o ++ acted cs)
        by None rest = rest
        by (Some r) rest = go (at c.call r.1)
          where
            go : (d : Option Act) → AllLater Sorted (did c d ++ acted cs)
            go None = rest
            go (Some act) = (later act, rest)

    -- where the calls run one after another and all have responded, their acts in that order are a chain
    by_order : (history : List (Event Call Answer)) (now : ℕ) → AllLater Before (calls_from history 0)
        → ((c : Called Call Answer) → Contains (calls_from history 0) c → Responds c)
        → ActsAt at history now → IsChain 0 (map (λ (x : Entry Call Answer). x.1) (acted (calls_from history 0))) now
    by_order history now one_by_one all_done h = subst (λ xs. IsChain 0 (map (λ (x : Entry Call Answer). x.1) xs) now) same h.chain
      where
        cs : List (Called Call Answer)
        cs = calls_from history 0

        invoked : (x : Entry Call Answer) → Contains h.sequence x → Contains (calls_from history 0) x.0
        invoked x is = let lt = is.1 in subst (λ (x : Entry Call Answer). Contains (calls_from history 0) x.0) is.2 (h.invoked is.0 x lt)

        -- each entry of the sequence is the act of a completed call
        to : (z : Entry Call Answer) → Contains h.sequence z → Contains (acted (calls_from history 0)) z
        to z is =
            let done = all_done z.0 (invoked z is) in
            let lt = is.1 in
            let says = subst (λ (x : Entry Call Answer). (answer : Answer) × (at x.0.call answer ≡ Some x.1) × IfSome x.0.response (λ r. r.1 ≡ answer)) is.2
            (h.answered is.0 z lt) in
            let own : done.0.1 ≡ says.0 = subst (λ o. IfSome o (λ r. r.1 ≡ says.0)) done.1 says.2 in
            acted_to (calls_from history 0) z.0 done.0 z.1 (invoked z is) done.1 (ap (at z.0.call) own ∙ says.1)

        -- each act of a completed call is an entry of the sequence
        from : (z : Entry Call Answer) → Contains (acted (calls_from history 0)) z → Contains h.sequence z
        from z is =
            let had = acted_from (calls_from history 0) z is in
            let lt = had.0.1 in
            let logged = subst (λ (c : Called Call Answer). IfSome c.response (λ r. IfSome (at c.call r.1) (λ act. Contains h.sequence (c, act)))) had.0.2
            (h.completed had.0.0 z.0 lt) in
            let this = subst (λ o. IfSome o (λ r. IfSome (at z.0.call r.1) (λ act. Contains h.sequence (z.0, act)))) had.1.1.0 logged in
            subst (λ o. IfSome o (λ act. Contains h.sequence (z.0, act))) had.1.1.1 this

        -- a sequence that keeps the order in time, of calls that run one after another, is in the order of the
        -- invocations
        sorted : (xs : List (Entry Call Answer)) → ((x : Entry Call Answer) → Contains xs x → Contains h.sequence x) → AllLater (λ x y. x.0 ≢ y.0) xs
            → AllLater (λ x y. IfSome y.0.response (λ r. x.0.place ≤ r.0)) xs → AllLater Sorted xs
        sorted [] is once time = tt
        sorted (x ∷ xs) is once time = (λ y h. pair y h (is y (there x y xs h)), sorted xs (λ y h. is y (there x y xs h)) once.1 time.1)
          where
            -- an entry that stands earlier was invoked earlier
            pair : (y : Entry Call Answer) → Contains xs y → Contains h.sequence y → x.0.place < y.0.place
            pair y h seq =
                ⊎_elim (λ e. absurd (once.0 y h e))
                (λ apart. ⊎_elim (λ before. before.0)
                (λ behind.
                let done = all_done y.0 (invoked y seq) in
                let ends : done.0.0 < x.0.place = subst (λ o. IfSome o (λ r. r.0 < x.0.place)) done.1 behind.1 in
                let in_time : x.0.place ≤ done.0.0 = subst (λ o. IfSome o (λ r. x.0.place ≤ r.0)) done.1 (time.0 y h) in
                absurd (omega arith)) apart)
                (ordered (calls_from history 0) one_by_one x.0 y.0 (invoked x (is x (here x x xs refl))) (invoked y seq))

        -- the sequence is what the completed calls did, in order
        same : h.sequence ≡ acted (calls_from history 0)
        same =
            same_members h.sequence (acted (calls_from history 0))
            (sorted h.sequence (λ x is. is) (later_of (λ x y. x.0 ≢ y.0) h.sequence h.once)
            (later_of (λ x y. IfSome y.0.response (λ r. x.0.place ≤ r.0)) h.sequence h.real_time))
            (sorted_acts (calls_from history 0) one_by_one) to from

    -- each has responded before the next one begins
    abbrev pub Sequential : List (Called Call Answer) → Type 0
    Sequential [] = Unit {0}
    Sequential (c ∷ cs) = Responds c × (AllByRecursion (Before c) cs × Sequential cs)

    each_of : (P : Called Call Answer → Type 0) (cs : List (Called Call Answer)) → AllByRecursion P cs → (c : Called Call Answer) → Contains cs c → P c
    each_of P [] all c h = absurd (none_there c h)
    each_of P (d ∷ cs) all c h = ⊎_elim (λ e. subst P e all.0) (λ more. each_of P cs all.1 c more) (split d c cs h)

    one_by_one : (cs : List (Called Call Answer)) → Sequential cs → AllLater Before cs
    one_by_one [] sequential = tt
    one_by_one (c ∷ cs) sequential = (each_of (Before c) cs sequential.1.0, one_by_one cs sequential.1.1)

    all_respond : (cs : List (Called Call Answer)) → Sequential cs → (c : Called Call Answer) → Contains cs c → Responds c
    all_respond [] sequential c h = absurd (none_there c h)
    all_respond (d ∷ cs) sequential c h = ⊎_elim (λ e. subst Responds e sequential.0) (λ more. all_respond cs sequential.1.1 c more) (split d c cs h)

    -- if the calls of a history run one after another, the first finds 0 at the place, each other one what the one before it left, and
    -- the last leaves `now`
    pub in_sequence : {history : List (Event Call Answer)} {now : ℕ} → ActsAt at history now → Sequential (calls_from history 0)
        → IsChain 0 (map (λ (x : Entry Call Answer). x.1) (acted (calls_from history 0))) now
    in_sequence {history} {now} h sequential =
        by_order history now (one_by_one (calls_from history 0) sequential) (all_respond (calls_from history 0) sequential) h
