-- The events by which a reset of all bits clears the places of one element, as one list: each is of the
-- party, right, and may stand where it does.
use Rattle.laws_bits.proofs.Names.{◌≡◌, ℕ, zero, suc, ◌+◌, ◌≤◌, ◌==◌, Bool, true, false, cond, List, [], ◌∷◌, ◌++◌}
use Rattle.laws_bits.proofs.Names.{fold, map, refl, sym, ap, subst, ◌∙◌, append_assoc, append-nil, count_by, filter}
use Rattle.laws_bits.proofs.Names.{range_with_len, nat_tests, sum_by-cons, first_place, places_in, has_flag}
use Rattle.laws_bits.proofs.Names.{none_stands, Event, Cleared, Bits, BitsAnswerRight, bits_promise, is_clear_of}
use Rattle.laws_bits.proofs.Names.{is_set_of, sets, clears, position_after, BeginsNone, Stands, Span, Open, own_after}
use Rattle.laws_bits.proofs.Names.{AreRight, AreOwn, AllFollow}
use Rattle.std.proofs.Common.{arith}
use Rattle.model.specs.declared.families.bits.BitsStart.TheVariants.{ResetAll}
use Rattle.laws_bits.proofs.Bits.Core.{clears_more}

-- ---- lists that stand one after another

module _ {T : Type 0} where
  -- events of a party, and more events of that party, are events of that party
  pub own_more : (p : ℕ) (es more : List (Event T)) → AreOwn p es → AreOwn p more → AreOwn p (es ++ more)
  own_more p [] more first_own second_own = second_own
  own_more p (e ∷ es) more first_own second_own = (first_own.0, own_more p es more first_own.1 second_own)

  -- events that are right one after another, and more that are right after them, are right as one list
  pub right_more : (P : List (Event T) → Event T → Type 0) (before es more : List (Event T)) → AreRight P before es
      → AreRight P (before ++ es) more → AreRight P before (es ++ more)
  right_more P before [] more first_right second_right = subst (λ xs. AreRight P xs more) (append-nil before) second_right
  right_more P before (e ∷ es) more first_right second_right = (
    first_right.0,
    right_more P (before ++ e ∷ []) es more first_right.1
        (subst (λ xs. AreRight P xs more) (sym (append_assoc before (e ∷ []) es)) second_right),
  )

  -- events that may follow a span, and more that may follow it then, may follow it together
  pub follow_more : (R : Event T → Span T → Type 0) (span : Span T) (es more : List (Event T)) → AllFollow R span es
      → AllFollow R (fold own_after span es) more → AllFollow R span (es ++ more)
  follow_more R span [] more first_all_follow second_all_follow = second_all_follow
  follow_more R span (e ∷ es) more first_all_follow second_all_follow =
      (first_all_follow.0, follow_more R (own_after span e) es more first_all_follow.1 second_all_follow)

-- ---- places that rise

-- each place is above those before it, and none is below the first number
abbrev pub Rise : ℕ → List ℕ → Type 0
Rise low [] = Unit {0}
Rise low (b ∷ bs) = (low ≤ b) × Rise (b + 1) bs

-- places that rise from a number rise from each lower number
rise_from : (low high : ℕ) (bs : List ℕ) → low ≤ high → Rise high bs → Rise low bs
rise_from low high [] le rise = tt
rise_from low high (b ∷ bs) le rise = (omega (arith, rise.0), rise.1)

-- the numbers of a range that pass a test rise from the first number of the range
rise_some : (test : ℕ → Bool) (first n : ℕ) → Rise first (filter test (range_with_len first n))
rise_some test first zero = tt
rise_some test first (suc n) = go (test first) (rise_some test (first + 1) n)
  where
    -- the cases are whether the first number passes the test
    go : (t : Bool) → Rise (first + 1) (filter test (range_with_len (first + 1) n))
        → Rise first (cond t (first ∷ filter test (range_with_len (first + 1) n)) (filter test (range_with_len (first + 1) n)))
    go true rise = (omega arith, rise)
    go false rise = rise_from first (first + 1) (filter test (range_with_len (first + 1) n)) (omega arith) rise

-- the places of an element that are set rise from its first place
pub places_rise : (w found : ℕ) → Rise (first_place w) (places_in w found)
places_rise w found = rise_some (λ b. has_flag found b) (first_place w) 64

-- ---- the events

-- the events by which party `p` clears these places, in order
abbrev pub all_cleared : {T : Type 0} → ℕ → List ℕ → List (Event T)
all_cleared p bs = map (λ b. Cleared p b) bs

-- the events by which party `p` clears places
module _ (T : Type 0) (p : ℕ) where
  abbrev cleared_all : List ℕ → List (Event T)
  cleared_all bs = all_cleared p bs

  -- the events are of party `p`
  pub all_own : (bs : List ℕ) → AreOwn p (cleared_all bs)
  all_own [] = tt
  all_own (b ∷ bs) = (refl, all_own bs)

  -- the events begin no call
  pub begin_none : (bs : List ℕ) → BeginsNone p (cleared_all bs)
  begin_none [] = tt
  begin_none (b ∷ bs) = begin_none bs

  -- the events end no call, so they say nothing that may be wrong
  pub all_right : (c : ℕ) (before : List (Event T)) (bs : List ℕ) → AreRight (BitsAnswerRight c) before (cleared_all bs)
  all_right c before [] = tt
  all_right c before (b ∷ bs) = (tt, all_right c (before ++ Cleared p b ∷ []) bs)

  -- no such event sets a bit
  pub sets_none : (b : ℕ) (bs : List ℕ) → sets b (cleared_all bs) ≡ 0
  sets_none b [] = refl
  sets_none b (x ∷ bs) =
      let more = sum_by-cons (λ (e : Event T). cond (is_set_of b e) 1 0) (Cleared p x) (cleared_all bs) in
      let rest = sets_none b bs in
      omega arith

  -- no such event moves the reset position
  pub position_same : (n : ℕ) (bs : List ℕ) → fold position_after n (cleared_all bs) ≡ n
  position_same n [] = refl
  position_same n (b ∷ bs) = position_same n bs

  -- each place is cleared as often as it is in the list
  pub clears_named : (b : ℕ) (bs : List ℕ) → clears b (cleared_all bs) ≡ count_by (λ q. q == b) bs
  clears_named b [] = refl
  clears_named b (x ∷ bs) =
      let more = sum_by-cons (λ (e : Event T). cond (is_clear_of b e) 1 0) (Cleared p x) (cleared_all bs) in
      let named = sum_by-cons (λ q. cond (q == b) 1 0) x bs in
      let rest = clears_named b bs in
      omega arith

  -- a reset of all bits that has cleared no place from `low` on may clear these places in this order
  pub all_stand : (c low : ℕ) (wrote : List (Event T)) (bs : List ℕ) → Rise low bs
      → ((b : ℕ) → low ≤ b → clears b wrote ≡ 0)
      → AllFollow (Stands bits_promise c) (Open (Bits ResetAll) wrote) (cleared_all bs)
  all_stand c low wrote [] rise none = tt
  all_stand c low wrote (b ∷ bs) rise none =
      let at = rise.0 in (
        λ x above. none x (omega arith),
        all_stand c (b + 1) (wrote ++ Cleared p b ∷ []) bs rise.1
            (λ x above.
            let other : (b == x) ≡ false = grind (arith, nat_tests) in
            let before : clears x wrote ≡ 0 = none x (omega arith) in
            let this : clears {T = T} x (Cleared p b ∷ []) ≡ 0 = rw other refl in
            let more = clears_more x wrote (Cleared p b ∷ []) in
            omega arith),
      )

  -- the events make the span of a reset of all bits longer, and do not end it
  pub all_written : (wrote : List (Event T)) (bs : List ℕ)
      → fold own_after (Open (Bits ResetAll) wrote) (cleared_all bs) ≡ Open (Bits ResetAll) (wrote ++ cleared_all bs)
  all_written wrote [] = ap (λ es. Open (Bits ResetAll) es) (sym (append-nil wrote))
  all_written wrote (b ∷ bs) =
      all_written (wrote ++ Cleared p b ∷ []) bs ∙ ap (λ es. Open (Bits ResetAll) es) (append_assoc wrote (Cleared p b ∷ []) (cleared_all bs))

-- ---- an element without a bit

-- a test that no number passes leaves nothing of a list
none_passes : (test : ℕ → Bool) → ((b : ℕ) → test b ≡ false) → (bs : List ℕ) → filter test bs ≡ []
none_passes test none [] = refl
none_passes test none (b ∷ bs) = ap (λ t. cond t (b ∷ filter test bs) (filter test bs)) (none b) ∙ none_passes test none bs

-- an element of value 0 has no place that is set
pub no_places : (w : ℕ) → places_in w 0 ≡ []
no_places w = none_passes (λ b. has_flag 0 b) (λ b. none_stands b) (range_with_len (first_place w) 64)
