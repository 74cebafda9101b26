-- Where every event stands right in its party's span, each call acts once, while it is under way, and ends with that answer.
use Rattle.model.proofs.Names.{Acted, Answer, Begun, Bool, Each, Ended, Event, Finished, IsShut, List, Never, None}
use Rattle.model.proofs.Names.{Open, Option, Promise, Some, Span, StandsRight, Start, [], ap, append-nil, append_assoc}
use Rattle.model.proofs.Names.{arith, cases_eq, false, flat_map-append, fold-append, moments, own_after, refl}
use Rattle.model.proofs.Names.{span_after, span_of, subst, sym, true, whose, ℕ, ⊎_elim, ◌++◌, ◌∙◌, ◌∷◌, ◌≡◌, ◌≢◌}
use Rattle.model.specs.Reading.{acts, is_party, longer, ended}
use Rattle.model.specs.Shape.{IsOpenFor}
use Rattle.model.proofs.Linearizable.Acting.{Standing, Ends, ActsOnce}
use Rattle.model.proofs.Linearizable.Members.{put, put_same, put_other}
use Rattle.model.proofs.Readings.{AreRight, span_of-own, span_of-other}

module _ {T : Type 0} where
  abbrev first_answer : List (Start T × Answer T) → Option (Answer T)
  first_answer [] = None
  first_answer (m ∷ ms) = Some m.1

  -- what a span tells of the call under way
  abbrev standing : Span T → Standing T
  standing Never = None
  standing (Open start wrote) = Some (start, first_answer (moments wrote))
  standing (Ended start answer wrote) = None

  abbrev StandsBySpans : (ℕ → Standing T) → List (Event T) → Type 0
  StandsBySpans going before = (p : ℕ) → going p ≡ standing (span_of p before)

  moments_more : (wrote : List (Event T)) (e : Event T) → moments (wrote ++ e ∷ []) ≡ moments wrote ++ moments (e ∷ [])
  moments_more wrote e = flat_map-append acts wrote (e ∷ [])

  shut : (span : Span T) → IsShut span → standing span ≡ None
  shut = grind arith

  not_acted : (start : Start T) (span : Span T) → IsOpenFor start (λ wrote. moments wrote ≡ []) span → standing span ≡ Some (start, None)
  not_acted = grind arith

  -- After its act the span of a call that had not acted is that of one that has, with this answer.
  acted_now : (p : ℕ) (start : Start T) (answer : Answer T) (span : Span T)
      → IsOpenFor start (λ wrote. moments wrote ≡ []) span
      → Some (start, Some answer) ≡ standing (longer span (Acted p start answer))
  acted_now = grind (arith, moments_more)

  over : (span : Span T) (answer : Answer T) → standing (ended span answer) ≡ None
  over = grind arith

  -- what an event that is no act makes of it
  quiet : (span : Span T) (e : Event T) → acts e ≡ [] → standing (longer span e) ≡ standing span
  quiet = grind (arith, moments_more, moments, append-nil)

  -- ---- one event

  -- After an event of party p the parties' standings agree with the events, if that of p is
  -- changed as its span is.
  own_step : (going : ℕ → Standing T) (before : List (Event T)) (p : ℕ) (e : Event T) (now : Standing T)
      → StandsBySpans going before → whose e ≡ Some p → now ≡ standing (own_after (span_of p before) e)
      → StandsBySpans (put p now going) (before ++ e ∷ [])
  own_step going before p e now agree mine now_is q = ⊎_elim same other (cases_eq q p)
    where
      -- The case that q is the party of the event.
      same : q ≡ p → put p now going q ≡ standing (span_of q (before ++ e ∷ []))
      same same_party =
          ap (put p now going) same_party ∙ (put_same p now going ∙ (now_is ∙ (ap standing (sym (span_of-own p before (e ∷ []) (mine, tt)))
          ∙ ap (λ n. standing (span_of n (before ++ e ∷ []))) (sym same_party))))

      other : q ≢ p → put p now going q ≡ standing (span_of q (before ++ e ∷ []))
      other ne =
          put_other p q now going ne ∙ (agree q ∙ ap standing (sym (span_of-other p q before (e ∷ []) ne (mine, tt))))

  -- After an event that only lengthens a span, and is no act, the parties' standings agree with the events.
  quiet_step : (going : ℕ → Standing T) (before : List (Event T)) (e : Event T) → StandsBySpans going before
      → ((span : Span T) → own_after span e ≡ longer span e) → acts e ≡ [] → StandsBySpans going (before ++ e ∷ [])
  quiet_step going before e agree writes none q =
      agree q ∙ (sym (stays (is_party q (whose e)) refl) ∙ ap standing (sym (fold-append (span_after q) Never before (e ∷ []))))
    where
      -- The cases are whether the event is of party q.
      stays : (b : Bool) → is_party q (whose e) ≡ b → standing (span_after q (span_of q before) e) ≡ standing (span_of q before)
      stays true test = rw test (ap standing (writes (span_of q before)) ∙ quiet (span_of q before) e none)
      stays false test = rw test refl

-- ---- all events

module _ {T : Type 0} (promise : Promise T) (capacity : ℕ) (is_call : Start T → Bool)
    (one : (start : Start T) (answer : Answer T) (wrote : List (Event T)) → is_call start ≡ true
    → promise.wrote capacity start answer wrote → moments wrote ≡ (start, answer) ∷ []) where
  ends : (start : Start T) (answer : Answer T) (span : Span T)
      → IsOpenFor start (promise.wrote capacity start answer) span → Ends is_call start answer (standing span)
  ends = grind arith

  -- in a history in which each event stands right, each call acts once
  follows : (es before : List (Event T)) (going : ℕ → Standing T) → StandsBySpans going before
      → AreRight (StandsRight promise capacity) before es → ActsOnce is_call es going
  follows [] before going agree right = tt
  follows (Begun p start ∷ es) before going agree right = (
    agree p ∙ shut (span_of p before) right.0,
    follows es (before ++ Begun p start ∷ []) (put p (Some (start, None)) going)
        (own_step going before p (Begun p start) (Some (start, None)) agree refl refl) right.1,
  )
  follows (Acted p start answer ∷ es) before going agree right = (
    agree p ∙ not_acted start (span_of p before) right.0,
    follows es (before ++ Acted p start answer ∷ []) (put p (Some (start, Some answer)) going)
        (own_step going before p (Acted p start answer) (Some (start, Some answer)) agree refl (acted_now p start answer (span_of p before) right.0)) right.1,
  )
  follows (Finished p start answer ∷ es) before going agree right = (
    subst (Ends is_call start answer) (sym (agree p)) (ends start answer (span_of p before) right.0),
    follows es (before ++ Finished p start answer ∷ []) (put p None going)
        (own_step going before p (Finished p start answer) None agree refl (sym (over (span_of p before) answer))) right.1,
  )
  follows (e ∷ es) before going agree right =
      follows es (before ++ e ∷ []) going (quiet_step going before e agree (λ span. refl) refl) right.1

  -- what holds of each event of a history holds of those that come after its first part
  all_right : (before es : List (Event T)) → Each (StandsRight promise capacity) (before ++ es) → AreRight (StandsRight promise capacity) before es
  all_right before [] each = tt
  all_right before (e ∷ es) each = (
    each before es e refl,
    all_right (before ++ e ∷ []) es (subst (Each (StandsRight promise capacity)) (sym (append_assoc before (e ∷ []) es)) each),
  )

  pub acts_once : (events : List (Event T)) → Each (StandsRight promise capacity) events → ActsOnce is_call events (λ p. None)
  acts_once events each = follows events [] (λ p. None) (λ p. refl) (all_right [] events each)
