-- A call that was alone, by the events: it was alone also before the latest turn of its run, and no other
-- party has a call under way.
use Rattle.laws_container.proofs.Names.{◌≡◌, ◌≢◌, ℕ, true, false, Option, Some, List, [], ◌∷◌}
use Rattle.laws_container.proofs.Names.{◌++◌, fold, refl, sym, ap, subst, ◌∙◌, append_assoc, arith, eq-eqb, ne_eqb}
use Rattle.laws_container.proofs.Names.{nat_tests, append_cancel_left, fold-append, AllByRecursion, Event, Begun}
use Rattle.laws_container.proofs.Names.{IsOwnOrDeath, WasAlone, BeginsNone, Span, Never, whose, is_party}
use Rattle.laws_container.proofs.Names.{span_after, span_of, IsShut, began_earlier}

-- an event of party `p` is none of party `q`
not_theirs : (p q : ℕ) (o : Option ℕ) → q ≢ p → is_party p o ≡ true → is_party q o ≡ false
not_theirs = grind (arith, ne_eqb, nat_tests)

module _ {T : Type 0} where
  all_less : (P : Event T → Type 0) (xs ys : List (Event T)) → AllByRecursion P (xs ++ ys) → AllByRecursion P xs
  all_less P [] ys all_are = tt
  all_less P (x ∷ xs) ys all_are = (all_are.0, all_less P xs ys all_are.1)

  all_last : (P : Event T → Type 0) (xs ys : List (Event T)) → AllByRecursion P (xs ++ ys) → AllByRecursion P ys
  all_last P [] ys all_are = all_are
  all_last P (x ∷ xs) ys all_are = all_last P xs ys all_are.1

  -- where a call is alone after further events, it was alone before them, and they are its own or deaths
  pub since_then : (p : ℕ) (events es : List (Event T)) → BeginsNone p es → (h : WasAlone p (events ++ es))
      → WasAlone p events × AllByRecursion (IsOwnOrDeath p) es
  since_then p events es none h =
      let k = began_earlier p events es h.before h.start h.since h.is none h.within in
      let same : h.since ≡ k.since ++ es =
      sym (append_cancel_left (h.before ++ Begun p h.start ∷ []) (k.since ++ es) h.since
      (append_assoc h.before (Begun p h.start ∷ []) (k.since ++ es)
      ∙ (sym (append_assoc h.before (Begun p h.start ∷ k.since) es)
      ∙ (ap (λ xs. xs ++ es) (sym k.is) ∙ (h.is ∙ sym (append_assoc h.before (Begun p h.start ∷ []) h.since)))))) in
      let all : AllByRecursion (IsOwnOrDeath p) (k.since ++ es) = subst (AllByRecursion (IsOwnOrDeath p)) same h.holds.1 in (
        record {
          before = h.before;
          start = h.start;
          since = k.since;
          is = k.is;
          within = k.within;
          holds = (h.holds.0, all_less (IsOwnOrDeath p) k.since es all);
        },
        all_last (IsOwnOrDeath p) k.since es all,
      )

  -- a call that is alone after further events of its run was alone before them
  pub alone_less : (p : ℕ) (events es : List (Event T)) → BeginsNone p es → WasAlone p (events ++ es) → WasAlone p events
  alone_less p events es none was_alone = (since_then p events es none was_alone).0

  -- ---- while a call is alone, no other party has one under way

  -- an event of party `p`, or a death, leaves the span of another party
  theirs_stays : (p q : ℕ) (span : Span T) (e : Event T) → q ≢ p → IsOwnOrDeath p e → span_after q span e ≡ span
  theirs_stays = grind (arith, not_theirs, whose)

  -- events of party `p`, and deaths, leave the span of another party
  all_stay : (p q : ℕ) (span : Span T) (es : List (Event T)) → q ≢ p → AllByRecursion (IsOwnOrDeath p) es → fold (span_after q) span es ≡ span
  all_stay p q span [] ne all_are = refl
  all_stay p q span (e ∷ es) ne all_are = ap (λ s. fold (span_after q) s es) (theirs_stays p q span e ne all_are.0) ∙ all_stay p q span es ne all_are.1

  -- while a call is alone, no other party has one under way
  pub others_shut : (p q : ℕ) (events : List (Event T)) → q ≢ p → WasAlone p events → IsShut (span_of q events)
  others_shut p q events ne was_alone =
      let began : span_of q (was_alone.before ++ Begun p was_alone.start ∷ was_alone.since) ≡ span_of q was_alone.before =
      fold-append (span_after q) Never was_alone.before (Begun p was_alone.start ∷ was_alone.since)
      ∙ all_stay p q (span_of q was_alone.before) (Begun p was_alone.start ∷ was_alone.since) ne (begun, was_alone.holds.1) in
      subst IsShut (sym (ap (span_of q) was_alone.is ∙ began)) (was_alone.holds.0 q ne)
    where
      begun : is_party p (Some p) ≡ true
      begun = eq-eqb p p refl
