-- What the events say of each count: how often its place was counted, and how much was taken out; and what
-- was taken out since a party's latest call began.
use Rattle.laws_bits.proofs.Names.{◌≡◌, ◌⊎◌, inl, inr, ℕ, ◌+◌, ◌-◌, ◌*◌, ◌^◌, ◌==◌, ◌<◌, ◌≤◌, Bool, true, false, cond}
use Rattle.laws_bits.proofs.Names.{List, [], ◌∷◌, ◌++◌, refl, sym, ap, ◌∙◌, append_assoc, nat_tests, sum_by-append}
use Rattle.laws_bits.proofs.Names.{Event, Begun, SinceBegin, is_count_of, take_of, counts, takes, count_at}
use Rattle.std.proofs.Common.{arith}

-- where more was counted than taken before the call, and as much was taken as counted up to now but for a
-- multiple of 2^64, something was taken since or 2^64 was counted
either_way : (c t c' t' wraps : ℕ) → 1 ≤ c - t → c + c' ≡ t + t' + 2 ^ 64 * wraps → (1 ≤ t') ⊎ (2 ^ 64 ≤ c + c')
either_way = grind arith

module _ {T : Type 0} where
  -- a place is counted by two lists of events as often as by both together
  pub counts_more : (place : ℕ) (xs ys : List (Event T)) → counts place (xs ++ ys) ≡ counts place xs + counts place ys
  counts_more place xs ys = sum_by-append (λ e. cond (is_count_of place e) 1 0) xs ys

  -- as much is taken out of a place by two lists of events as by both together
  pub takes_more : (place : ℕ) (xs ys : List (Event T)) → takes place (xs ++ ys) ≡ takes place xs + takes place ys
  takes_more place xs ys = sum_by-append (take_of place) xs ys

  -- ---- what has been taken out since

  -- of each place below `end` that counted above 0 when the call began, something has been taken out since,
  -- unless the place was counted 2^64 times
  abbrev pub TakenBelow : ℕ → List (Event T) → List (Event T) → Type 0
  TakenBelow end before since = (b : ℕ) → b < end → 1 ≤ count_at b before → (1 ≤ takes b since) ⊎ (2 ^ 64 ≤ counts b before + counts b since)

  -- what has been taken out since the call began has been so after more events
  pub taken_still : (end : ℕ) (before since es : List (Event T)) → TakenBelow end before since → TakenBelow end before (since ++ es)
  taken_still end before since es taken b below some = go (taken b below some)
    where
      -- the cases are whether something was taken, or 2^64 was counted
      go : (1 ≤ takes b since) ⊎ (2 ^ 64 ≤ counts b before + counts b since) → (1 ≤ takes b (since ++ es)) ⊎ (2 ^ 64 ≤ counts b before + counts b (since ++ es))
      go (inl had) = let more = takes_more b since es in inl (omega arith)
      go (inr had) = let more = counts_more b since es in inr (omega arith)

  -- a place of which as much was taken out as was counted, but for a multiple of 2^64, joins those of which
  -- something was taken
  pub taken_next : (end p : ℕ) {events : List (Event T)} (now : SinceBegin p (TakenBelow end) events) (es : List (Event T)) (wraps : ℕ)
      → counts end (events ++ es) ≡ takes end (events ++ es) + 2 ^ 64 * wraps → TakenBelow (end + 1) now.before (now.since ++ es)
  taken_next end p {events} now es wraps none b below some = go (b == end) refl
    where
      -- the cases are whether the place is `end`
      go : (t : Bool) → (b == end) ≡ t → (1 ≤ takes b (now.since ++ es)) ⊎ (2 ^ 64 ≤ counts b now.before + counts b (now.since ++ es))
      go false place_test =
          let less : b < end = grind (arith, nat_tests) in
          taken_still end now.before now.since es now.holds b less some
      go true place_test =
          let same : b ≡ end = grind (arith, nat_tests) in
          let later : List (Event T) = Begun p now.start ∷ (now.since ++ es) in
          let all : counts b (events ++ es) ≡ takes b (events ++ es) + 2 ^ 64 * wraps = rw same none in
          let whole : events ++ es ≡ now.before ++ later = ap (λ xs. xs ++ es) now.is ∙ append_assoc now.before (Begun p now.start ∷ now.since) es in
          let both : counts b (now.before ++ later) ≡ takes b (now.before ++ later) + 2 ^ 64 * wraps = rw (sym whole) all in
          let c = counts_more b now.before later in
          let t = takes_more b now.before later in
          let same_takes = takes_more b (Begun p now.start ∷ []) (now.since ++ es) in
          let same_counts = counts_more b (Begun p now.start ∷ []) (now.since ++ es) in
          either_way (counts b now.before) (takes b now.before) (counts b (now.since ++ es)) (takes b (now.since ++ es)) wraps some (omega arith)
