-- Lists that grow, and the calls of a history that does.
use Rattle.std.specs.List.{Contains, filter}
use Rattle.std.proofs.Common.{◌+◌, ◌==◌, ◌≡◌, ◌⊎◌, ◌++◌, ◌∷◌, Bool, List, None, Option, Some, []}
use Rattle.std.proofs.Common.{ap, arith, cond, false, inl, inr, length, map, refl, subst, sym, true, ℕ, ⊎_elim}
use Rattle.std.proofs.lemmas.List.Elements.{Contains-append_cases, Contains-append_left, Contains-append_right}
use Rattle.model.proofs.Linearizable.Members.{AllLater, here, none_there, split, there}
use Rattle.pages.specs.Machine.{Event, Invoked, Responded, Called, calls_from, response_in}

-- ---- members of lists

module _ {X : Type 0} where
  pub push_old : (xs : List X) (y z : X) → Contains xs z → Contains (xs ++ y ∷ []) z
  push_old xs y z h = Contains-append_left xs (y ∷ []) z h

  pub push_new : (xs : List X) (y : X) → Contains (xs ++ y ∷ []) y
  push_new xs y = Contains-append_right xs (y ∷ []) y (here y y [] refl)

  pub pushed : (xs : List X) (y z : X) → Contains (xs ++ y ∷ []) z → Contains xs z ⊎ (y ≡ z)
  pushed xs y z h =
      ⊎_elim (λ old. inl old) (λ new. ⊎_elim (λ e. inr e) (λ more. absurd (none_there z more)) (split y z [] new))
      (Contains-append_cases xs (y ∷ []) z h)

  -- what a filtered list contains the list contains, and it passes the test
  pub filtered : (test : X → Bool) (xs : List X) (z : X) → Contains (filter test xs) z → Contains xs z × (test z ≡ true)
  filtered test [] z h = absurd (none_there z h)
  filtered test (x ∷ xs) z h = go (test x) refl h (λ more. let had = filtered test xs z more in (there x z xs had.0, had.1))
    where
      go : (b : Bool) → test x ≡ b → Contains (cond b (x ∷ filter test xs) (filter test xs)) z
          → (Contains (filter test xs) z → Contains (x ∷ xs) z × (test z ≡ true)) → Contains (x ∷ xs) z × (test z ≡ true)
      go true t h rest = ⊎_elim (λ e. (here x z xs e, subst (λ y. test y ≡ true) e t)) rest (split x z (filter test xs) h)
      go false t h rest = rest h

  -- what a list contains and passes the test the filtered list contains
  pub passes : (test : X → Bool) (xs : List X) (z : X) → Contains xs z → test z ≡ true → Contains (filter test xs) z
  passes test [] z h passed = absurd (none_there z h)
  passes test (x ∷ xs) z h t =
      ⊎_elim (λ e. first (test x) (subst (λ y. test y ≡ true) (sym e) t) e) (λ more. later (test x) (passes test xs z more t)) (split x z xs h)
    where
      first : (b : Bool) → b ≡ true → x ≡ z → Contains (cond b (x ∷ filter test xs) (filter test xs)) z
      first true t e = here x z (filter test xs) e
      first false t e = absurd (cc)

      later : (b : Bool) → Contains (filter test xs) z → Contains (cond b (x ∷ filter test xs) (filter test xs)) z
      later true more = there x z (filter test xs) more
      later false more = more

  -- where all that stand in a list are related to one more, all pairs of the longer list are related
  pub later_push : (R : X → X → Type 0) (xs : List X) (y : X) → AllLater R xs → ((x : X) → Contains xs x → R x y) → AllLater R (xs ++ y ∷ [])
  later_push R [] y all new = (λ z h. absurd (none_there z h), tt)
  later_push R (x ∷ xs) y all new = (
    λ z h. ⊎_elim (λ old. all.0 z old) (λ e. subst (λ z. R x z) e (new x (here x x xs refl))) (pushed xs y z h),
    later_push R xs y all.1 (λ z h. new z (there x z xs h)),
  )

  -- the pairs of a filtered list are pairs of the list
  pub later_filter : (R : X → X → Type 0) (test : X → Bool) (xs : List X) → AllLater R xs → AllLater R (filter test xs)
  later_filter R test [] all = tt
  later_filter R test (x ∷ xs) all = go (test x) (later_filter R test xs all.1)
    where
      go : (b : Bool) → AllLater R (filter test xs) → AllLater R (cond b (x ∷ filter test xs) (filter test xs))
      go true rest = (λ y h. all.0 y (filtered test xs y h).0, rest)
      go false rest = rest

module _ {X Y : Type 0} (g : X → Y) where
  pub mapped : (xs : List X) (x : X) → Contains xs x → Contains (map g xs) (g x)
  mapped [] x h = absurd (none_there x h)
  mapped (y ∷ xs) x h = ⊎_elim (λ e. here (g y) (g x) (map g xs) (ap g e)) (λ more. there (g y) (g x) (map g xs) (mapped xs x more)) (split y x xs h)

  -- what is in a mapped list is the image of something in the list
  pub mapped_from : (xs : List X) (z : Y) → Contains (map g xs) z → (x : X) × (Contains xs x × (g x ≡ z))
  mapped_from [] z h = absurd (none_there z h)
  mapped_from (x ∷ xs) z h =
      ⊎_elim (λ e. (x, (here x x xs refl, e))) (λ more. let had = mapped_from xs z more in (had.0, (there x had.0 xs had.1.0, had.1.1)))
      (split (g x) z (map g xs) h)

  -- pairs that are related are mapped to pairs that are
  pub later_map : (R : X → X → Type 0) (S : Y → Y → Type 0) (xs : List X) → ((x y : X) → Contains xs x → Contains xs y → R x y → S (g x) (g y))
      → AllLater R xs → AllLater S (map g xs)
  later_map R S [] f all = tt
  later_map R S (x ∷ xs) f all = (
    λ z h.
        let had = mapped_from xs z h in
        subst (λ z. S (g x) z) had.1.1 (f x had.0 (here x x xs refl) (there x had.0 xs had.1.0) (all.0 had.0 had.1.0)),
    later_map R S xs (λ y z a b. f y z (there x y xs a) (there x z xs b)) all.1,
  )

-- ---- the calls of a history that grows

abbrev pub responded : {Answer : Type 0} → ℕ → ℕ → Answer → ℕ → Option (ℕ × Answer) → Option (ℕ × Answer)
responded p place answer q None = cond (p == q) (Some (place, answer)) None
responded p place answer q (Some r) = Some r

module _ {Call Answer : Type 0} where
  abbrev pub open_call : ℕ → ℕ → Call → Called Call Answer
  open_call place p call = record { place = place; party = p; call = call; response = None }

  -- the call as it is once this party has responded
  abbrev pub respond : ℕ → ℕ → Answer → Called Call Answer → Called Call Answer
  respond p place answer c = record c { response = responded p place answer c.party c.response }

  -- An invocation at the end adds no response.
  response_begun : (q : ℕ) (h : List (Event Call Answer)) (n p : ℕ) (call : Call)
      → response_in q (h ++ Invoked p call ∷ []) n ≡ response_in q h n
  response_begun q [] n p call = refl
  response_begun q (Invoked r c ∷ h) n p call = response_begun q h (n + 1) p call
  response_begun q (Responded r a ∷ h) n p call = ap (cond (r == q) (Some (n, a))) (response_begun q h (n + 1) p call)

  -- once a party has responded, this is its first response, if it had none before
  response_done : (q : ℕ) (h : List (Event Call Answer)) (n m p : ℕ) (answer : Answer) → m ≡ n + length h
      → response_in q (h ++ Responded p answer ∷ []) n ≡ responded p m answer q (response_in q h n)
  response_done q [] n m p answer e = let same : n ≡ m = omega arith in ap (λ (k : ℕ). cond (p == q) (Some (k, answer)) None) same
  response_done q (Invoked r c ∷ h) n m p answer e = response_done q h (n + 1) m p answer (omega arith)
  response_done q (Responded r a ∷ h) n m p answer e = go (r == q) (response_done q h (n + 1) m p answer (omega arith))
    where
      go : (b : Bool) → response_in q (h ++ Responded p answer ∷ []) (n + 1) ≡ responded p m answer q (response_in q h (n + 1))
          → cond b (Some (n, a)) (response_in q (h ++ Responded p answer ∷ []) (n + 1))
          ≡ responded p m answer q (cond b (Some (n, a)) (response_in q h (n + 1)))
      go true more = refl
      go false more = more

  -- an invocation adds an open call at the end of the calls
  pub calls_begun : (h : List (Event Call Answer)) (n m p : ℕ) (call : Call) → m ≡ n + length h
      → calls_from (h ++ Invoked p call ∷ []) n ≡ calls_from h n ++ open_call m p call ∷ []
  calls_begun [] n m p call e = let same : n ≡ m = omega arith in ap (λ k. open_call k p call ∷ []) same
  calls_begun (Invoked q c ∷ h) n m p call e =
      rw (response_begun q h (n + 1) p call) (ap (λ cs. record { place = n; party = q; call = c; response = response_in q h (n + 1) } ∷ cs)
      (calls_begun h (n + 1) m p call (omega arith)))
  calls_begun (Responded q a ∷ h) n m p call e = calls_begun h (n + 1) m p call (omega arith)

  -- a response answers the open calls of its party, and leaves all other calls
  pub calls_done : (h : List (Event Call Answer)) (n m p : ℕ) (answer : Answer) → m ≡ n + length h
      → calls_from (h ++ Responded p answer ∷ []) n ≡ map (respond p m answer) (calls_from h n)
  calls_done [] n m p answer e = refl
  calls_done (Invoked q c ∷ h) n m p answer e =
      rw (response_done q h (n + 1) m p answer (omega arith))
      (ap (λ cs. record { place = n; party = q; call = c; response = responded p m answer q (response_in q h (n + 1)) } ∷ cs)
      (calls_done h (n + 1) m p answer (omega arith)))
  calls_done (Responded q a ∷ h) n m p answer e = calls_done h (n + 1) m p answer (omega arith)
