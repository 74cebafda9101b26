-- How readings of events go on as a run grows. No kind is in it.
use Rattle.model.proofs.Names.{Died, Each, Event, IfSome, List, Never, Some, Span, [], ap, append-nil, append_assoc}
use Rattle.model.proofs.Names.{arith, false, fold, fold-append, nat_tests, own_after, refl, span_after, span_of, subst}
use Rattle.model.proofs.Names.{sym, true, whose, ℕ, ◌++◌, ◌==◌, ◌∙◌, ◌∷◌, ◌≡◌, ◌≢◌}

module _ {A : Type 0} where
  -- the last of a list, or one before it
  pub data SplitAt (xs : List A) (x : A) (before : List A) (y : A) (after : List A) : Type 0 where
    Last : xs ≡ before → x ≡ y → SplitAt xs x before y after
    Earlier : (rest : List A) → xs ≡ before ++ y ∷ rest → SplitAt xs x before y after

  -- The empty list has no element.
  pub no_more : (bs : List A) (y : A) (after : List A) → [] ≡ bs ++ y ∷ after → ⊥
  no_more [] y after split = cc
  no_more (b ∷ bs) y after split = cc

  -- a place in a list with one element more is the last one, or lies in the list before
  pub split_last : (xs : List A) (x : A) (before : List A) (y : A) (after : List A) → xs ++ x ∷ [] ≡ before ++ y ∷ after → SplitAt xs x before y after
  split_last [] x [] y after split = let h : x ≡ y = cc in Last refl h
  split_last [] x (b ∷ bs) y after split = let h : [] ≡ bs ++ y ∷ after = cc in absurd (no_more bs y after h)
  split_last (z ∷ zs) x [] y after split = let h : z ≡ y = cc in Earlier zs (ap (λ (a : A). a ∷ zs) h)
  split_last (z ∷ zs) x (b ∷ bs) y after split =
      let h : z ≡ b = cc in
      let t : zs ++ x ∷ [] ≡ bs ++ y ∷ after = cc in
      go (split_last zs x bs y after t) h
    where
      -- The cases are how the rest of the list is split: y is its last element x, or y comes earlier.
      go : SplitAt zs x bs y after → z ≡ b → SplitAt (z ∷ zs) x (b ∷ bs) y after
      go (Last p q) same = Last (cc) q
      go (Earlier rest p) same = Earlier rest (cc)

module _ {T : Type 0} where
  -- ---- a promise on each event

  -- P holds of each of these events, in order, with the events before it.
  abbrev pub AreRight : (List (Event T) → Event T → Type 0) → List (Event T) → List (Event T) → Type 0
  AreRight P before [] = Unit {0}
  AreRight P before (e ∷ es) = P before e × AreRight P (before ++ e ∷ []) es

  -- If P holds of each event of a run, and of one event more, it holds of each event of the longer run.
  one_right : (P : List (Event T) → Event T → Type 0) (events : List (Event T)) (e : Event T) → Each P events → P events e → Each P (events ++ e ∷ [])
  one_right P events e all here before after x is = go (split_last events e before x after is)
    where
      -- The cases are whether x is the event that was added, or an earlier one.
      go : SplitAt events e before x after → P before x
      go (Last p q) = subst (λ y. P before y) q (subst (λ xs. P xs e) p here)
      go (Earlier rest p) = all before rest x p

  -- What holds of each event of a run holds of each event of a longer run, if it holds of those
  -- that were added, in order.
  pub Each-append : (P : List (Event T) → Event T → Type 0) (events es : List (Event T)) → Each P events → AreRight P events es → Each P (events ++ es)
  Each-append P events [] all right = subst (Each P) (sym (append-nil events)) all
  Each-append P events (e ∷ es) all right =
      subst (Each P) (append_assoc events (e ∷ []) es)
      (Each-append P (events ++ e ∷ []) es (one_right P events e all right.0) right.1)

  pub Each-nil : (P : List (Event T) → Event T → Type 0) → Each P []
  Each-nil P before after e is = absurd (no_more before e after is)

  -- what holds of each event of a list holds of each event of its beginning
  pub Each-less : (P : List (Event T) → Event T → Type 0) (events es : List (Event T)) → Each P (events ++ es) → Each P events
  Each-less P events es all before after e is =
      all before (after ++ es) e (ap (λ xs. xs ++ es) is ∙ append_assoc before (e ∷ after) es)

  -- ---- spans

  -- All of these events are of party p.
  abbrev pub AreOwn : ℕ → List (Event T) → Type 0
  AreOwn p [] = Unit {0}
  AreOwn p (e ∷ es) = (whose e ≡ Some p) × AreOwn p es

  own_one : (p : ℕ) (span : Span T) (e : Event T) → whose e ≡ Some p → span_after p span e ≡ own_after span e
  own_one p span e whose_is = let tests_same : (p == p) ≡ true = grind (arith, nat_tests) in rw (whose_is, tests_same) refl

  other_one : (p q : ℕ) (span : Span T) (e : Event T) → q ≢ p → whose e ≡ Some p → span_after q span e ≡ span
  other_one p q span e ne whose_is = let tests_apart : (p == q) ≡ false = grind (arith, nat_tests) in rw (whose_is, tests_apart) refl

  -- Over events of its own party a span is read as if all events were that party's.
  own_fold : (p : ℕ) (span : Span T) (es : List (Event T)) → AreOwn p es → fold (span_after p) span es ≡ fold own_after span es
  own_fold p span [] own = refl
  own_fold p span (e ∷ es) own =
      ap (λ s. fold (span_after p) s es) (own_one p span e own.0) ∙ own_fold p (own_after span e) es own.1

  -- Events of party p leave the span of another party as it was.
  other_fold : (p q : ℕ) (span : Span T) (es : List (Event T)) → q ≢ p → AreOwn p es → fold (span_after q) span es ≡ span
  other_fold p q span [] ne own = refl
  other_fold p q span (e ∷ es) ne own =
      ap (λ s. fold (span_after q) s es) (other_one p q span e ne own.0) ∙ other_fold p q span es ne own.1

  -- a party's own events go on with its span
  pub span_of-own : (p : ℕ) (events es : List (Event T)) → AreOwn p es → span_of p (events ++ es) ≡ fold own_after (span_of p events) es
  span_of-own p events es own = fold-append (span_after p) Never events es ∙ own_fold p (span_of p events) es own

  -- the events of another party leave it
  pub span_of-other : (p q : ℕ) (events es : List (Event T)) → q ≢ p → AreOwn p es → span_of q (events ++ es) ≡ span_of q events
  span_of-other p q events es ne own = fold-append (span_after q) Never events es ∙ other_fold p q (span_of q events) es ne own

  -- a death leaves each party's span
  pub span_of-death : (q : ℕ) (events : List (Event T)) (o : ℕ) → span_of q (events ++ Died o ∷ []) ≡ span_of q events
  span_of-death q events o = fold-append (span_after q) Never events (Died o ∷ [])

  -- each event stands right in the span that the earlier ones leave
  abbrev pub AllFollow : (Event T → Span T → Type 0) → Span T → List (Event T) → Type 0
  AllFollow R span [] = Unit {0}
  AllFollow R span (e ∷ es) = R e span × AllFollow R (own_after span e) es

  -- events of one party that are right one after another in its span are right in the whole history
  pub spans_right : (R : Event T → Span T → Type 0) (p : ℕ) (events es : List (Event T)) (span : Span T)
      → span_of p events ≡ span → AreOwn p es → AllFollow R span es
      → AreRight (λ before e. IfSome (whose e) (λ q. R e (span_of q before))) events es
  spans_right R p events [] span span_is own all = tt
  spans_right R p events (e ∷ es) span span_is own all =
      let next : span_of p (events ++ e ∷ []) ≡ own_after span e = span_of-own p events (e ∷ []) (own.0, tt) ∙ ap (λ s. own_after s e) span_is in
      (rw own.0 (subst (R e) (sym span_is) all.0), spans_right R p (events ++ e ∷ []) es (own_after span e) next own.1 all.1)
