-- A set that answers true has found its bit clear: each bit is set where it is clear.
use Rattle.std.proofs.Common.{◌≡◌, ◌≤◌, ℕ, ◌+◌, ◌==◌, Bool, true, false, cond, Some, List, [], ◌∷◌, ◌++◌}
use Rattle.std.proofs.Common.{if◌then◌else◌, refl, sym, ap, subst, ◌∙◌, append_assoc, append-nil, arith}
use Rattle.std.specs.List.{AllByRecursion}
use Rattle.std.proofs.lemmas.Bool.Decides.{nat_tests}
use Rattle.std.proofs.lemmas.List.Sums.{sum_by-append, sum_by-cons, sum_by_push}
use Rattle.steps.specs.Bits.Words.{stands}
use Rattle.model.specs.declared.event.Answer.TheVariants.{Truth}
use Rattle.model.specs.declared.event.Event.{Event}
use Rattle.model.specs.declared.event.Event.TheVariants.{Begun, Set, Cleared, Finished}
use Rattle.model.specs.declared.event.Start.TheVariants.{Bits}
use Rattle.model.specs.declared.families.bits.BitsStart.TheVariants as bits
use Rattle.model.specs.declared.turn.Kind.TheVariants as kinds
use Rattle.model.specs.Families.Bits.Promises.{bits_promise, bits_stand, BitsWrote, MayClear}
use Rattle.model.specs.Families.Bits.Reading.{is_set_of, is_clear_of, sets, clears, standing}
use Rattle.model.specs.Moments.{BeginsNone, HeldSometime}
use Rattle.model.specs.Promises.{IsKeptBy}
use Rattle.model.specs.Promises.Families.{promise_of}
use Rattle.model.specs.Promises.Spans.{StandsRight}
use Rattle.model.specs.Reading.{Each, Span, Never, Open, Ended, is_party, whose, own_after, span_of}
use Rattle.model.specs.Turns.{IsReached, after_turn, events_of, one_if}
use Rattle.model.specs.World.{Trace}
use Rattle.model.proofs.Moments.{held_later}
use Rattle.model.proofs.Orders.{Keeps}
use Rattle.model.proofs.Reached.{reached_more, turn_making}
use Rattle.model.proofs.Readings.{span_of-own}
use Rattle.headline_whole.specs.Answers.{FoundClear}
use Rattle.headline_whole.proofs.Spans.{same_some, is_its, is_not_its, same_open, opened, never_open, longer_open, span_then}
use Rattle.headline_whole.proofs.WrittenBy.{IsOwn, IsWritten, Writes, Opens, Dies, GoesOn, its, alone, all_last, all_written, own_events}

abbrev one_for : Bool → ℕ
one_for b = cond b 1 0

-- one truth counts at most one
at_most_one : (b : Bool) → one_if b ≤ 1
at_most_one true = omega arith
at_most_one false = omega arith

module _ {T : Type 0} where
  -- the latest call is a set of this bit
  abbrev Sets : ℕ → Span T → Type 0
  Sets b Never = ⊥
  Sets b (Open start wrote) = start ≡ Bits (bits.Set b)
  Sets b (Ended start answer wrote) = start ≡ Bits (bits.Set b)

  -- it still is after an event with which a call goes on
  still : (b p : ℕ) (span : Span T) (e : Event T) → IsOwn p e → Sets b span → Sets b (own_after span e)
  still b p Never e own is_set = absurd is_set
  still b p span (Begun q start) own is_set = absurd own
  still b p (Open start wrote) e own is_set = is_set
  still b p (Ended start answer wrote) e own is_set = is_set

  -- a set of a bit clears none
  clears_none : (b j q : ℕ) (span : Span T) → Sets b span → bits_stand (Cleared q j) span → ⊥
  clears_none b j q Never is_set may = may
  clears_none b j q (Open start wrote) is_set may = subst (λ s. MayClear j s wrote → ⊥) (sym is_set) (λ none. none) may
  clears_none b j q (Ended start answer wrote) is_set may = may

  begins_set : (p b : ℕ) (span : Span T) → bits_stand (Set p b) span → Sets b span
  begins_set p b (Open (Bits (bits.Set j)) wrote) may = ap (λ n. Bits (bits.Set n)) may.0
  begins_set p b span may = absurd may

  module _ (capacity b p : ℕ) (events : List (Event T)) (stand : Each (StandsRight bits_promise capacity) events) where
    clears_not : (past : List (Event T)) (e : Event T) → IsOwn p e → StandsRight bits_promise capacity past e → Sets b (span_of p past)
        → is_clear_of b e ≡ false
    clears_not past (Cleared q j) own stands is_set =
        absurd (clears_none b j q (span_of q past) (subst (λ n. Sets b (span_of n past)) (sym (same_some q p own)) is_set) stands)
    clears_not past e own stands is_set = refl

    -- with the events of a set no bit is cleared
    none_cleared : (past last : List (Event T)) → events ≡ past ++ last → AllByRecursion (IsOwn p) last → Sets b (span_of p past) → clears b last ≡ 0
    none_cleared past [] split own is_set = refl
    none_cleared past (e ∷ last) split own is_set =
        let here = clears_not past e own.0 (stand past last e split) is_set in
        let next : span_of p (past ++ e ∷ []) ≡ own_after (span_of p past) e = span_of-own p past (e ∷ []) (its p e own.0, tt) in
        let rest = none_cleared (past ++ e ∷ []) last (split ∙ sym (append_assoc past (e ∷ []) last)) own.1
        (subst (Sets b) (sym next) (still b p (span_of p past) e own.0 is_set)) in
        omega (sum_by-cons (λ y. one_for (is_clear_of b y)) e last, ap one_for here, rest, arith)

module _ {T : Type 0} (keeps : Keeps T kinds.Bits) where
  kept_of : (t : Trace T) → t.world.kind ≡ kinds.Bits → IsReached t → IsKeptBy bits_promise t
  kept_of t is r = subst (λ k. IsKeptBy (promise_of k) t) is (keeps.kept t is r)

  module _ (t : Trace T) (is : t.world.kind ≡ kinds.Bits) (r : IsReached t) where
    -- a bit is clear where it is set
    clear_at : (before : List (Event T)) (p b : ℕ) (x : IsWritten t.world before (Set p b)) → Writes x.turn (events_of x.old.world x.turn)
        → standing b before ≡ 0
    clear_at before p b x (Opens q start writes) = absurd (let e = alone (Begun q start) x.first (Set p b) x.last (sym writes ∙ x.wrote) in cc)
    clear_at before p b x (Dies owner writes) = absurd (let e = alone _ x.first (Set p b) x.last (sym writes ∙ x.wrote) in cc)
    clear_at before p b x (GoesOn q said goes all) =
        let old = x.old in
        let new = after_turn old x.turn in
        let own = all_last (IsOwn q) x.first (Set p b ∷ x.last) (subst (AllByRecursion (IsOwn q)) x.wrote all) in
        let mine = subst (λ n. AllByRecursion (IsOwn n) x.last) (sym (same_some p q own.0)) own.1 in
        let split : new.events ≡ before ++ Set p b ∷ x.last =
        ap (λ es. old.events ++ es) x.wrote
        ∙ (sym (append_assoc old.events x.first (Set p b ∷ x.last)) ∙ ap (λ es. es ++ Set p b ∷ x.last) (sym x.before_is)) in
        let kept = kept_of new ((turn_making old.world x.turn).kind ∙ (x.made.kind ∙ is)) (reached_more old x.turn x.allowed x.reached) in
        let split_after : new.events ≡ (before ++ Set p b ∷ []) ++ x.last = split ∙ sym (append_assoc before (Set p b ∷ []) x.last) in
        let next : span_of p (before ++ Set p b ∷ []) ≡ own_after (span_of p before) (Set p b) = span_of-own p before (Set p b ∷ []) (refl, tt) in
        let is_set = begins_set p b (span_of p before) (kept.spans before x.last (Set p b) split) in
        let none = none_cleared new.world.capacity b p new.events kept.spans (before ++ Set p b ∷ []) x.last split_after mine
        (subst (Sets b) (sym next) (still b p (span_of p before) (Set p b) refl is_set)) in
        count before p b x.last (stands new.world.words b)
        (subst (λ es. sets b es ≡ clears b es + one_if (stands new.world.words b)) split_after (kept.promised.conserved b)) none
      where
        count : (before : List (Event T)) (p b : ℕ) (last : List (Event T)) (stood : Bool)
            → sets b ((before ++ Set p b ∷ []) ++ last) ≡ clears b ((before ++ Set p b ∷ []) ++ last) + one_if stood → clears b last ≡ 0
            → standing b before ≡ 0
        count before p b last stood conserved none =
            let same : (b == b) ≡ true = grind (arith, nat_tests) in
            omega (
              conserved,
              none,
              at_most_one stood,
              ap one_for same,
              sum_by-append (λ y. one_for (is_set_of b y)) (before ++ Set p b ∷ []) last,
              sum_by_push (λ y. one_for (is_set_of b y)) before (Set p b),
              sum_by-append (λ y. one_for (is_clear_of b y)) (before ++ Set p b ∷ []) last,
              sum_by_push (λ y. one_for (is_clear_of b y)) before (Set p b),
              arith,
            )

    clear_there : (before after : List (Event T)) (p b : ℕ) → t.events ≡ before ++ Set p b ∷ after → standing b before ≡ 0
    clear_there before after p b split =
        let x = all_written t r before after (Set p b) split in
        clear_at before p b x (own_events kinds.Bits keeps (λ old ask mine e h. h) t.world is before (Set p b) x)

    -- ---- a set that has set its bit found it clear

    module _ (p b : ℕ) where
      -- a set of the bit that has set it found it clear at a moment of the call
      abbrev Found : List (Event T) → Type 0
      Found past =
          (w : List (Event T)) → span_of p past ≡ Open (Bits (bits.Set b)) w → 1 ≤ sets b w → HeldSometime p (λ part. standing b part ≡ 0) past

      others_begin : (e : Event T) → (whose e ≡ Some p → ⊥) → BeginsNone p (e ∷ [])
      others_begin (Begun q start) other = ((λ same. other (ap (λ (n : ℕ). Some n) same)), tt)
      others_begin e other = tt

      -- an event that sets it not leaves how often a call has set it
      longer_by : (v w : List (Event T)) (e : Event T) → w ≡ v ++ e ∷ [] → is_set_of b e ≡ false → 1 ≤ sets b w → 1 ≤ sets b v
      longer_by v w e is_longer not_set one =
          let more : 1 ≤ sets b (v ++ e ∷ []) = subst (λ es. 1 ≤ sets b es) is_longer one in
          omega (more, sum_by_push (λ y. one_for (is_set_of b y)) v e, ap one_for not_set, arith)

      module _ (before : List (Event T)) (found : Found before) where
        goes : (e : Event T) → BeginsNone p (e ∷ []) → is_set_of b e ≡ false → (w v : List (Event T))
            → span_of p before ≡ Open (Bits (bits.Set b)) v → w ≡ v ++ e ∷ [] → 1 ≤ sets b w
            → HeldSometime p (λ part. standing b part ≡ 0) (before ++ e ∷ [])
        goes e none not_set w v at is_longer one =
            held_later p (λ part. standing b part ≡ 0) before (e ∷ []) none (found v at (longer_by v w e is_longer not_set one))

        mine : (e : Event T) (after : List (Event T)) → t.events ≡ before ++ e ∷ after → whose e ≡ Some p → (w : List (Event T))
            → own_after (span_of p before) e ≡ Open (Bits (bits.Set b)) w → 1 ≤ sets b w
            → HeldSometime p (λ part. standing b part ≡ 0) (before ++ e ∷ [])
        mine (Begun q start) after split own w at one =
            let parts = same_open start (Bits (bits.Set b)) [] w at in
            let none : 1 ≤ sets {T = T} b [] = subst (λ es. 1 ≤ sets b es) (sym parts.1) one in
            absurd (omega (none, arith))
        mine (Finished q start answer) after split own w at one = absurd (never_open (span_of p before) answer (Bits (bits.Set b)) w at)
        mine (Set q j) after split own w at one = go (j == b) refl
          where
            go : (same : Bool) → (j == b) ≡ same → HeldSometime p (λ part. standing b part ≡ 0) (before ++ Set q j ∷ [])
            go true is_it =
                let here : j ≡ b = grind (arith, nat_tests) in
                record {
                  part = before;
                  rest = Set q j ∷ [];
                  is = refl;
                  within = tt;
                  held = subst (λ n. standing n before ≡ 0) here (clear_there before after q j split);
                }
            go false other =
                let l = longer_open (span_of p before) (Set q j) (Bits (bits.Set b)) w at in
                goes (Set q j) tt other w l.0 l.1 l.2 one
        mine e after split own w at one =
            let l = longer_open (span_of p before) e (Bits (bits.Set b)) w at in
            goes e tt refl w l.0 l.1 l.2 one

        next : (e : Event T) (after : List (Event T)) → t.events ≡ before ++ e ∷ after → Found (before ++ e ∷ [])
        next e after split w at one = go (is_party p (whose e)) refl (sym (span_then p before e) ∙ at)
          where
            go : (own : Bool) → is_party p (whose e) ≡ own
                → (if own then own_after (span_of p before) e else span_of p before) ≡ Open (Bits (bits.Set b)) w
                → HeldSometime p (λ part. standing b part ≡ 0) (before ++ e ∷ [])
            go true own there = mine e after split (is_its p (whose e) own) w there one
            go false own there =
                held_later p (λ part. standing b part ≡ 0) before (e ∷ []) (others_begin e (is_not_its p (whose e) own)) (found w there one)

      all_found : (es before after : List (Event T)) → t.events ≡ before ++ (es ++ after) → Found before → Found (before ++ es)
      all_found [] before after split found = subst Found (sym (append-nil before)) found
      all_found (e ∷ es) before after split found =
          subst Found (append_assoc before (e ∷ []) es)
          (all_found es (before ++ e ∷ []) after (split ∙ sym (append_assoc before (e ∷ []) (es ++ after))) (next before found e (es ++ after) split))

    -- a set that answers true has found its bit clear
    pub found_clear : Each FoundClear t.events
    found_clear before after e split = go e split
      where
        go : (e : Event T) → t.events ≡ before ++ e ∷ after → FoundClear before e
        go (Finished p (Bits (bits.Set b)) (Truth true)) split =
            let kept = kept_of t is r in
            let o = opened (Bits (bits.Set b)) (BitsWrote t.world.capacity (Bits (bits.Set b)) (Truth true)) (span_of p before)
            (kept.spans before after (Finished p (Bits (bits.Set b)) (Truth true)) split) in
            all_found p b before [] (Finished p (Bits (bits.Set b)) (Truth true) ∷ after) split (λ w at one. absurd (cc)) o.0 o.1 (omega (o.2.1, arith))
        go e split = tt
