-- What the events say of each bit: how often it was set and cleared; and what was cleared since a party's
-- latest call began.
use Rattle.laws_bits.proofs.Names.{◌≡◌, ℕ, ◌+◌, ◌<◌, ◌≤◌, cond, List, [], ◌∷◌, ◌++◌, ap, sym, ◌∙◌, append_assoc}
use Rattle.laws_bits.proofs.Names.{sum_by-append, element_of, Event, Begun, is_set_of, is_clear_of, sets}
use Rattle.laws_bits.proofs.Names.{clears, standing, SinceBegin}
use Rattle.std.proofs.Common.{arith}

module _ {T : Type 0} where
  -- a bit is set by two lists of events as often as by both together
  pub sets_more : (b : ℕ) (xs ys : List (Event T)) → sets b (xs ++ ys) ≡ sets b xs + sets b ys
  sets_more b xs ys = sum_by-append (λ e. cond (is_set_of b e) 1 0) xs ys

  -- a bit is cleared by two lists of events as often as by both together
  pub clears_more : (b : ℕ) (xs ys : List (Event T)) → clears b (xs ++ ys) ≡ clears b xs + clears b ys
  clears_more b xs ys = sum_by-append (λ e. cond (is_clear_of b e) 1 0) xs ys

  -- ---- what has been cleared since

  -- each bit of an element before `end` that stood when the call began has been cleared since
  abbrev pub ClearedBelow : ℕ → List (Event T) → List (Event T) → Type 0
  ClearedBelow end before since =
      (b : ℕ) → element_of b < end → standing b before ≡ 1 → 1 ≤ clears b since

  -- bits that were cleared since the call began are so after more events
  pub cleared_still : (end : ℕ) (before since es : List (Event T)) → ClearedBelow end before since → ClearedBelow end before (since ++ es)
  cleared_still end before since es cleared b below stood =
      let more = clears_more b since es in
      let had = cleared b below stood in
      omega arith

  -- a bit that stood when the call began, and has been set no more often than cleared, has been cleared since
  pub cleared_by : (b p : ℕ) {P : List (Event T) → List (Event T) → Type 0} {events : List (Event T)} (now : SinceBegin p P events) (es : List (Event T))
      → sets b (events ++ es) ≡ clears b (events ++ es) → standing b now.before ≡ 1 → 1 ≤ clears b (now.since ++ es)
  cleared_by b p {events = events} now es none stood =
      let later : List (Event T) = Begun p now.start ∷ (now.since ++ es) in
      let whole : events ++ es ≡ now.before ++ later = ap (λ xs. xs ++ es) now.is ∙ append_assoc now.before (Begun p now.start ∷ now.since) es in
      let both : sets b (now.before ++ later) ≡ clears b (now.before ++ later) = rw (sym whole) none in
      let c = clears_more b now.before later in
      let own_s = sets_more b (Begun p now.start ∷ []) (now.since ++ es) in
      let own_c = clears_more b (Begun p now.start ∷ []) (now.since ++ es) in
      omega (arith, sets_more b now.before later)
