-- No two calls that a page sees as calls of one number overlap, if in its history the calls of each number alternate: so the
-- first response that it sees after an invocation is the model's response to that call (`clean`).
use Rattle.std.proofs.Common.{◌≡◌, ℕ, ◌==◌, Bool, true, false, Option, Some, None, List, [], ◌∷◌, ◌++◌, refl, sym}
use Rattle.std.proofs.Common.{ap, subst, ◌∙◌, append_assoc, arith, is_some}
use Rattle.std.proofs.lemmas.Bool.Decides.{nat_tests}
use Rattle.std.proofs.lemmas.List.Sums.{fold_push}
use Rattle.std.specs.Prelude.{◌&&◌, if◌then◌else◌}
use Rattle.model.specs.declared.event.Answer as answers
use Rattle.model.specs.declared.event.Event.{Event}
use Rattle.model.specs.declared.event.Event.TheVariants.{Begun, Finished}
use Rattle.model.specs.declared.event.Start.{Start}
use Rattle.model.specs.Promise.{Promise}
use Rattle.model.specs.Promises.Spans.{StandsRight}
use Rattle.model.specs.Reading.{Each, Ended, Never, Open, Span, ended, is_party, longer, own_after, span_after, span_of, whose}
use Rattle.model.specs.Shape.{IsOpenFor, IsShut}
use Rattle.pages.specs.Machine as machine
use Rattle.pages.specs.RolesBridge.{Naming, all_told, named}
use Rattle.pages_threads.proofs.Alternating.{Alternates}
use Rattle.pages_threads.proofs.Renamed.{Answered, Clean}

both : (b c : Bool) → (b && c) ≡ true → (b ≡ true) × (c ≡ true)
both true c t = (refl, t)
both false c t = let never : false ≡ true = t in absurd (cc)

not_both : (b c : Bool) → (b && c) ≡ false → b ≡ true → c ≡ false
not_both true c f t = f
not_both false c f t = absurd (cc)

is_it : (p q : ℕ) → (p == q) ≡ true → p ≡ q
is_it p q same = grind (arith, nat_tests)

itself : (p : ℕ) → (p == p) ≡ true
itself p = grind (arith, nat_tests)

contrary : (b : Bool) → b ≡ true → b ≡ false → ⊥
contrary b t f = cc

same_some : (p q : ℕ) → Some p ≡ Some q → p ≡ q
same_some p q e = cc

none_some : (p : ℕ) → None ≡ Some p → ⊥
none_some p e = cc

module _ {T Call Answer : Type 0} (by : Naming T Call Answer) (n : ℕ) where
  -- a call that the page sees as one of number n
  abbrev mine : ℕ → Start T → Bool
  mine q start = by.is_call start && (named by q start == n)

  -- whether the party has one under way
  abbrev busy : ℕ → Span T → Bool
  busy q Never = false
  busy q (Open start wrote) = mine q start
  busy q (Ended start answer wrote) = false

  -- at most this party has
  abbrev Only : Option ℕ → List (Event T) → Type 0
  Only o before = (q : ℕ) → busy q (span_of q before) ≡ true → o ≡ Some q

  -- ---- what the page sees of an event

  sees_begun : (c : Bool) (m : ℕ) (call : Call) (b : Bool) (rest : List (machine.Event Call Answer))
      → Alternates n b ((if c then machine.Invoked m call ∷ [] else []) ++ rest)
      → ((c && (m == n)) ≡ true → (b ≡ false) × Alternates n true rest) × ((c && (m == n)) ≡ false → Alternates n b rest)
  sees_begun false m call b rest h = (λ t. let never : false ≡ true = t in absurd (cc), λ f. h)
  sees_begun true m call b rest h = (
    λ t. (h.0 t, subst (λ x. Alternates n (if x then true else b) rest) t h.1),
    λ f. subst (λ x. Alternates n (if x then true else b) rest) f h.1,
  )

  sees_ended : (c : Bool) (m : ℕ) (answer : Answer) (b : Bool) (rest : List (machine.Event Call Answer))
      → Alternates n b ((if c then machine.Responded m answer ∷ [] else []) ++ rest)
      → ((c && (m == n)) ≡ true → Alternates n false rest) × ((c && (m == n)) ≡ false → Alternates n b rest)
  sees_ended false m answer b rest h = (λ t. let never : false ≡ true = t in absurd (cc), λ f. h)
  sees_ended true m answer b rest h = (
    λ t. subst (λ x. Alternates n (if x then false else b) rest) t h.1,
    λ f. subst (λ x. Alternates n (if x then false else b) rest) f h.1,
  )

  -- ---- who has a call under way after an event

  ended_free : (q : ℕ) (span : Span T) (answer : answers.Answer T) → busy q (ended span answer) ≡ false
  ended_free q Never answer = refl
  ended_free q (Open start wrote) answer = refl
  ended_free q (Ended start first wrote) answer = refl

  longer_busy : (q : ℕ) (span : Span T) (e : Event T) → busy q (longer span e) ≡ busy q span
  longer_busy q Never e = refl
  longer_busy q (Open start wrote) e = refl
  longer_busy q (Ended start first wrote) e = refl

  open_busy : (q : ℕ) (start : Start T) (P : List (Event T) → Type 0) (span : Span T) → IsOpenFor start P span → busy q span ≡ mine q start
  open_busy q start P Never h = absurd h
  open_busy q start P (Open call wrote) h = ap (mine q) h.0
  open_busy q start P (Ended call answer wrote) h = absurd h

  shut_free : (q : ℕ) (span : Span T) → IsShut span → busy q span ≡ true → ⊥
  shut_free q Never shut b = cc
  shut_free q (Open start wrote) shut b = absurd shut
  shut_free q (Ended start answer wrote) shut b = cc

  at_begin : (r q : ℕ) (start : Start T) (before : List (Event T)) (b : Bool) → (q == r) ≡ b
      → busy r (span_of r (before ++ Begun q start ∷ [])) ≡ (if b then mine r start else busy r (span_of r before))
  at_begin r q start before b test = ap (busy r) (fold_push (span_after r) Never before (Begun q start)) ∙ pick b test
    where
      pick : (b : Bool) → (q == r) ≡ b
          → busy r (if q == r then Open start [] else span_of r before) ≡ (if b then mine r start else busy r (span_of r before))
      pick true t = rw t refl
      pick false t = rw t refl

  at_end : (r q : ℕ) (start : Start T) (answer : answers.Answer T) (before : List (Event T)) (b : Bool) → (q == r) ≡ b
      → busy r (span_of r (before ++ Finished q start answer ∷ [])) ≡ (if b then false else busy r (span_of r before))
  at_end r q start answer before b test = ap (busy r) (fold_push (span_after r) Never before (Finished q start answer)) ∙ pick b test
    where
      pick : (b : Bool) → (q == r) ≡ b
          → busy r (if q == r then ended (span_of r before) answer else span_of r before) ≡ (if b then false else busy r (span_of r before))
      pick true t = rw t (ended_free r (span_of r before) answer)
      pick false t = rw t refl

  -- neither the begin nor the end of a call
  abbrev IsQuiet : Event T → Type 0
  IsQuiet (Begun p start) = ⊥
  IsQuiet (Finished p start answer) = ⊥
  IsQuiet e = Unit {0}

  at_quiet : (r : ℕ) (e : Event T) (before : List (Event T)) → IsQuiet e → busy r (span_of r (before ++ e ∷ [])) ≡ busy r (span_of r before)
  at_quiet r e before quiet = ap (busy r) (fold_push (span_after r) Never before e) ∙ pick (is_party r (whose e)) e quiet
    where
      pick : (b : Bool) (e : Event T) → IsQuiet e → busy r (if b then own_after (span_of r before) e else span_of r before) ≡ busy r (span_of r before)
      pick false e quiet = refl
      pick true (Begun p start) quiet = absurd quiet
      pick true (Finished p start answer) quiet = absurd quiet
      pick true e quiet = longer_busy r (span_of r before) e

  -- ---- all events

  module _ (promise : Promise T) (capacity : ℕ) (es : List (Event T)) (spans : Each (StandsRight promise capacity) es) where
    -- while at most this party has a call of the number under way, its response is the next that the page sees
    record Goes (o : Option ℕ) (before after : List (Event T)) : Type 0 where
      pub answered : (p : ℕ) → o ≡ Some p → busy p (span_of p before) ≡ true → Answered by p n after
      pub clean : Clean by n after

    abbrev Later : List (Event T) → List (Event T) → Type 0
    Later before after = (o : Option ℕ) → Only o before → Alternates n (is_some o) (all_told by after) → Goes o before after

    begins : (q : ℕ) (start : Start T) (xs before : List (Event T)) → es ≡ before ++ Begun q start ∷ xs → Later (before ++ Begun q start ∷ []) xs
        → Later before (Begun q start ∷ xs)
    begins q start xs before is later o only sees =
        go (mine q start) refl (sees_begun (by.is_call start) (named by q start) (by.reading.call start) (is_some o) (all_told by xs) sees)
      where
        shut : IsShut (span_of q before)
        shut = spans before xs (Begun q start) is

        go : (b : Bool) → mine q start ≡ b
            → (mine q start ≡ true → (is_some o ≡ false) × Alternates n true (all_told by xs))
            × (mine q start ≡ false → Alternates n (is_some o) (all_told by xs))
            → Goes o before (Begun q start ∷ xs)
        go true own seen =
            let free = seen.0 own in
            let next : Goes (Some q) (before ++ Begun q start ∷ []) xs = later (Some q) alone free.1 in
            record {
              answered = λ p held busy_then. absurd (contrary (is_some o) (ap is_some held) free.0);
              clean = (λ call number. next.answered q refl (at_begin q q start before true (itself q) ∙ own), next.clean);
            }
          where
            alone : Only (Some q) (before ++ Begun q start ∷ [])
            alone r busy_now = who (q == r) refl
              where
                who : (b : Bool) → (q == r) ≡ b → Some q ≡ Some r
                who true t = ap (λ m. Some m) (is_it q r t)
                who false t =
                    let held = only r (sym (at_begin r q start before false t) ∙ busy_now) in
                    absurd (contrary (is_some o) (ap is_some held) (seen.0 own).0)
        go false other seen =
            let next : Goes o (before ++ Begun q start ∷ []) xs = later o still (seen.1 other) in
            record {
              answered = λ p held busy_then. next.answered p held (goes p busy_then);
              clean = (
                λ call number.
                    let test : (named by q start == n) ≡ true = grind (arith, nat_tests) in
                    absurd (contrary (named by q start == n) test (not_both (by.is_call start) (named by q start == n) other call)),
                next.clean,
              );
            }
          where
            still : Only o (before ++ Begun q start ∷ [])
            still r busy_now = who (q == r) refl
              where
                who : (b : Bool) → (q == r) ≡ b → o ≡ Some r
                who true t =
                    let now : mine r start ≡ true = sym (at_begin r q start before true t) ∙ busy_now in
                    absurd (contrary (mine q start) (subst (λ m. mine m start ≡ true) (sym (is_it q r t)) now) other)
                who false t = only r (sym (at_begin r q start before false t) ∙ busy_now)

            goes : (p : ℕ) → busy p (span_of p before) ≡ true → busy p (span_of p (before ++ Begun q start ∷ [])) ≡ true
            goes p busy_then = who (q == p) refl
              where
                who : (b : Bool) → (q == p) ≡ b → busy p (span_of p (before ++ Begun q start ∷ [])) ≡ true
                who true t = absurd (shut_free p (span_of p before) (subst (λ m. IsShut (span_of m before)) (is_it q p t) shut) busy_then)
                who false t = at_begin p q start before false t ∙ busy_then

    ends : (q : ℕ) (start : Start T) (answer : answers.Answer T) (xs before : List (Event T)) → es ≡ before ++ Finished q start answer ∷ xs
        → Later (before ++ Finished q start answer ∷ []) xs → Later before (Finished q start answer ∷ xs)
    ends q start answer xs before is later o only sees =
        go (mine q start) refl (sees_ended (by.is_call start) (named by q start) (by.reading.answer answer) (is_some o) (all_told by xs) sees)
      where
        busy_is : busy q (span_of q before) ≡ mine q start
        busy_is = open_busy q start (promise.wrote capacity start answer) (span_of q before) (spans before xs (Finished q start answer) is)

        go : (b : Bool) → mine q start ≡ b
            → (mine q start ≡ true → Alternates n false (all_told by xs)) × (mine q start ≡ false → Alternates n (is_some o) (all_told by xs))
            → Goes o before (Finished q start answer ∷ xs)
        go true own seen =
            let next : Goes None (before ++ Finished q start answer ∷ []) xs = later None free (seen.0 own) in
            let parts = both (by.is_call start) (named by q start == n) own in
            record {
              answered = λ p held busy_then. (
                λ t. (parts.0, is_it (named by q start) n parts.1),
                λ f.
                    let same : q ≡ p = same_some q p (sym holds ∙ held) in
                    absurd (contrary (q == p) (subst (λ m. (q == m) ≡ true) same (itself q)) f),
              );
              clean = next.clean;
            }
          where
            holds : o ≡ Some q
            holds = only q (busy_is ∙ own)

            free : Only None (before ++ Finished q start answer ∷ [])
            free r busy_now = who (q == r) refl
              where
                who : (b : Bool) → (q == r) ≡ b → None ≡ Some r
                who true t = let never : false ≡ true = sym (at_end r q start answer before true t) ∙ busy_now in absurd (cc)
                who false t =
                    let held = only r (sym (at_end r q start answer before false t) ∙ busy_now) in
                    let same : q ≡ r = same_some q r (sym holds ∙ held) in
                    absurd (contrary (q == r) (subst (λ m. (q == m) ≡ true) same (itself q)) t)
        go false other seen =
            let next : Goes o (before ++ Finished q start answer ∷ []) xs = later o still (seen.1 other) in
            record {
              answered = λ p held busy_then. (
                λ t.
                    absurd (contrary (busy p (span_of p before)) busy_then
                    (subst (λ m. busy m (span_of m before) ≡ false) (is_it q p t) (busy_is ∙ other))),
                λ f. (
                  λ call. not_both (by.is_call start) (named by q start == n) other call,
                  next.answered p held (at_end p q start answer before false f ∙ busy_then),
                ),
              );
              clean = next.clean;
            }
          where
            still : Only o (before ++ Finished q start answer ∷ [])
            still r busy_now = who (q == r) refl
              where
                who : (b : Bool) → (q == r) ≡ b → o ≡ Some r
                who true t = let never : false ≡ true = sym (at_end r q start answer before true t) ∙ busy_now in absurd (cc)
                who false t = only r (sym (at_end r q start answer before false t) ∙ busy_now)

    passes : (e : Event T) (xs before : List (Event T)) → IsQuiet e → Later (before ++ e ∷ []) xs → (o : Option ℕ) → Only o before
        → Alternates n (is_some o) (all_told by xs) → Goes o (before ++ e ∷ []) xs
    passes e xs before quiet later o only sees =
        later o (λ r busy_now. only r (sym (at_quiet r e before quiet) ∙ busy_now)) sees

    walk : (after before : List (Event T)) → es ≡ before ++ after → Later before after
    walk [] before is o only sees = record { answered = λ p held busy_then. tt; clean = tt }
    walk (Begun q start ∷ xs) before is o only sees =
        begins q start xs before is (walk xs (before ++ Begun q start ∷ []) (is ∙ sym (append_assoc before (Begun q start ∷ []) xs))) o only sees
    walk (Finished q start answer ∷ xs) before is o only sees =
        ends q start answer xs before is
        (walk xs (before ++ Finished q start answer ∷ []) (is ∙ sym (append_assoc before (Finished q start answer ∷ []) xs))) o only sees
    walk (e ∷ xs) before is o only sees =
        let next = passes e xs before tt (walk xs (before ++ e ∷ []) (is ∙ sym (append_assoc before (e ∷ []) xs))) o only sees in
        record { answered = λ p held busy_then. next.answered p held (at_quiet p e before tt ∙ busy_then); clean = next.clean }

    pub clean : Alternates n false (all_told by es) → Clean by n es
    clean sees = (walk es [] refl None (λ q busy_now. let never : false ≡ true = busy_now in absurd (cc)) sees).clean
