-- While a party pushes into an index queue no other does. So its page sees nothing of its producer between the invocation of a
-- push and the response to it.
use Rattle.std.proofs.Common.{◌≡◌, ℕ, ◌==◌, Bool, true, false, not, Option, Some, None, List, [], ◌∷◌, ◌++◌, refl, sym}
use Rattle.std.proofs.Common.{ap, subst, ◌∙◌, append-nil, append_assoc, arith, is_some}
use Rattle.std.proofs.lemmas.Bool.Decides.{nat_tests}
use Rattle.std.proofs.lemmas.List.Sums.{fold-append}
use Rattle.std.specs.List.{AllByRecursion}
use Rattle.std.specs.Prelude.{◌≢◌, if◌then◌else◌}
use Rattle.model.specs.declared.event.Answer.{Answer}
use Rattle.model.specs.declared.event.Event.{Event}
use Rattle.model.specs.declared.event.Event.TheVariants.{Begun, Finished}
use Rattle.model.specs.declared.event.Start.{Start}
use Rattle.model.specs.declared.event.Start.TheVariants.{Queues}
use Rattle.model.specs.declared.families.queues.QueueKind.TheVariants as queue_kinds
use Rattle.model.specs.declared.families.queues.QueueStart.TheVariants.{Push, PushIndex}
use Rattle.model.specs.declared.turn.Kind.TheVariants.{IndexQueue}
use Rattle.model.specs.Coding.{one_word}
use Rattle.model.specs.Promise.{Promise}
use Rattle.model.specs.Promises.Families.{promise_of}
use Rattle.model.specs.Promises.Spans.{StandsRight}
use Rattle.model.specs.Reading.{Each, Ended, Never, Open, Span, ended, longer, is_party, span_after, span_of, whose}
use Rattle.model.specs.Shape.{IsOpenFor}
use Rattle.laws_queues.proofs.Queues.Sound.{kept_on}
use Rattle.history.specs.declared.view.View.{View}
use Rattle.history.specs.History.{Knows, run_of}
use Rattle.history.specs.Known.{events_by, own_of}
use Rattle.history.proofs.KnownRuns.{known_run}
use Rattle.history_queues.proofs.QueueRuns.{queue_run}
use Rattle.pages.specs.IndexQueue.{index_queue}
use Rattle.pages.specs.IndexQueueBridge.{answer_seen, by_role, call_seen}
use Rattle.pages.specs.Machine as machine
use Rattle.pages.specs.RolesBridge.{all_told, told}
use Rattle.pages_threads.specs.Known.{RunsThePage, index_page, turns_of}
use Rattle.pages_threads.specs.Silent.{IsSilent, party_of}
use Rattle.pages_threads.proofs.Alternating.{Alternates, alternates}

-- whether the call is a push
abbrev is_push : Start ℕ → Bool
is_push (Queues (PushIndex value)) = true
is_push (Queues (Push value)) = true
is_push start = false

-- neither the beginning nor the end of a push
abbrev is_plain : Event ℕ → Bool
is_plain (Begun p start) = not (is_push start)
is_plain (Finished p start answer) = not (is_push start)
is_plain e = true

-- neither the beginning nor the end of a call
abbrev pub IsQuiet : Event ℕ → Type 0
IsQuiet (Begun p start) = ⊥
IsQuiet (Finished p start answer) = ⊥
IsQuiet e = Unit {0}

-- ---- what the page sees of it

plain_passes : (b : Bool) (e : Event ℕ) (rest : List (machine.Event _ _)) → is_plain e ≡ true → Alternates 0 b (told by_role e ++ rest) → Alternates 0 b rest
plain_passes b e rest plain alternating = grind arith

plain_silent : (e : Event ℕ) → is_plain e ≡ true → IsSilent 0 (told by_role e)
plain_silent e plain = grind arith

told_begun : (p : ℕ) (start : Start ℕ) → is_push start ≡ true → told by_role (Begun p start) ≡ machine.Invoked 0 (call_seen start) ∷ []
told_begun p start pushed = grind arith

told_ended : (p : ℕ) (start : Start ℕ) (answer : Answer ℕ) → is_push start ≡ true
    → told by_role (Finished p start answer) ≡ machine.Responded 0 (answer_seen answer) ∷ []
told_ended p start answer pushed = grind arith

-- ---- of whom a push is under way

-- whether a push of the party is under way
abbrev pushes : Span ℕ → Bool
pushes Never = false
pushes (Open start wrote) = is_push start
pushes (Ended start answer wrote) = false

-- at most of this party
abbrev Only : Option ℕ → List (Event ℕ) → Type 0
Only o before = (q : ℕ) → pushes (span_of q before) ≡ true → o ≡ Some q

span_more : (q : ℕ) (before : List (Event ℕ)) (e : Event ℕ) → span_of q (before ++ e ∷ []) ≡ span_after q (span_of q before) e
span_more q before e = fold-append (span_after q) Never before (e ∷ [])

never_ended : (span : Span ℕ) (answer : Answer ℕ) → pushes (ended span answer) ≡ true → ⊥
never_ended span answer pushing = grind arith

writes_more : (b : Bool) (span : Span ℕ) (e : Event ℕ) → pushes (if b then longer span e else span) ≡ true → pushes span ≡ true
writes_more b span e pushing = grind arith

begins_none : (b : Bool) (span : Span ℕ) (start : Start ℕ) → not (is_push start) ≡ true → pushes (if b then Open start [] else span) ≡ true
    → pushes span ≡ true
begins_none b span start not_push pushing = grind arith

ends_none : (b : Bool) (span : Span ℕ) (answer : Answer ℕ) → pushes (if b then ended span answer else span) ≡ true → pushes span ≡ true
ends_none b span answer pushing = grind (arith, never_ended)

-- A push that is under way after an event that neither begins nor ends one was under way before it.
after_plain : (q : ℕ) (span : Span ℕ) (e : Event ℕ) → is_plain e ≡ true → pushes (span_after q span e) ≡ true → pushes span ≡ true
after_plain q span (Begun p start) other pushing = begins_none (p == q) span start other pushing
after_plain q span (Finished p start answer) other pushing = ends_none (p == q) span answer pushing
after_plain q span e other pushing = writes_more (is_party q (whose e)) span e pushing

-- A party whose push may end has it under way.
open_pushes : (start : Start ℕ) (P : List (Event ℕ) → Type 0) (span : Span ℕ) → IsOpenFor start P span → is_push start ≡ true → pushes span ≡ true
open_pushes start P Never open_for push = absurd open_for
open_pushes start P (Open call wrote) open_for push = ap is_push open_for.0 ∙ push
open_pushes start P (Ended call answer wrote) open_for push = absurd open_for

is_it : (p q : ℕ) → (p == q) ≡ true → p ≡ q
is_it p q p_is_q = grind (arith, nat_tests)

is_not : (p q : ℕ) → (p == q) ≡ false → Some p ≡ Some q → ⊥
is_not p q p_is_not_q same = grind (arith, nat_tests)

itself : (p : ℕ) → (p == p) ≡ true
itself p = grind (arith, nat_tests)

only_plain : (o : Option ℕ) (before : List (Event ℕ)) (e : Event ℕ) → is_plain e ≡ true → Only o before → Only o (before ++ e ∷ [])
only_plain o before e plain only q pushing =
    only q (after_plain q (span_of q before) e plain (subst (λ s. pushes s ≡ true) (span_more q before e) pushing))

-- as a call begins where nobody pushed, nobody but its party pushes
only_begun : (before : List (Event ℕ)) (p : ℕ) (start : Start ℕ) → Only None before → Only (Some p) (before ++ Begun p start ∷ [])
only_begun before p start only q pushing = go (p == q) refl (subst (λ s. pushes s ≡ true) (span_more q before (Begun p start)) pushing)
  where
    -- the cases are whether q is the party p
    go : (b : Bool) → (p == q) ≡ b → pushes (span_after q (span_of q before) (Begun p start)) ≡ true → Some p ≡ Some q
    go true same pushing = ap Some (is_it p q same)
    go false other pushing =
        let there : pushes (span_of q before) ≡ true = rw other at pushing in
        let none = only q there in
        absurd (cc)

-- as the call of the one party that pushes ends, nobody pushes
only_ended : (before : List (Event ℕ)) (p : ℕ) (start : Start ℕ) (answer : Answer ℕ) → Only (Some p) before → Only None (before ++ Finished p start answer ∷ [])
only_ended before p start answer only q pushing = go (p == q) refl (subst (λ s. pushes s ≡ true) (span_more q before (Finished p start answer)) pushing)
  where
    -- the cases are whether q is the party p
    go : (b : Bool) → (p == q) ≡ b → pushes (span_after q (span_of q before) (Finished p start answer)) ≡ true → None ≡ Some q
    go true same pushing =
        let there : pushes (ended (span_of q before) answer) ≡ true = rw same at pushing in
        absurd (never_ended (span_of q before) answer there)
    go false other pushing =
        let there : pushes (span_of q before) ≡ true = rw other at pushing in
        absurd (is_not p q other (only q there))

-- ---- through the events

all_both : {A : Type 0} (P : A → Type 0) (xs ys : List A) → AllByRecursion P xs → AllByRecursion P ys → AllByRecursion P (xs ++ ys)
all_both P [] ys a b = b
all_both P (x ∷ xs) ys a b = (a.0, all_both P xs ys a.1 b)

all_after : {A : Type 0} (P : A → Type 0) (xs ys : List A) → AllByRecursion P (xs ++ ys) → AllByRecursion P ys
all_after P [] ys h = h
all_after P (x ∷ xs) ys h = all_after P xs ys h.1

none_is : (o : Option ℕ) → is_some o ≡ false → o ≡ None
none_is None nothing = refl
none_is (Some p) nothing = absurd (cc)

module _ (promise : Promise ℕ) (capacity : ℕ) (es : List (Event ℕ)) (spans : Each (StandsRight promise capacity) es) where
  -- at most this party pushes in these events, and the page sees its calls alternate from here on
  record Here (before after : List (Event ℕ)) : Type 0 where
    pub who : Option ℕ
    pub only : Only who before
    pub rest : Alternates 0 (is_some who) (all_told by_role after)

  ends_own : (before after : List (Event ℕ)) (p : ℕ) (start : Start ℕ) (answer : Answer ℕ) → es ≡ before ++ Finished p start answer ∷ after
      → is_push start ≡ true → pushes (span_of p before) ≡ true
  ends_own before after p start answer is push = open_pushes start _ (span_of p before) (spans before after (Finished p start answer) is) push

  -- an event that is no begin and no end of a push leaves who pushes
  passes : (e : Event ℕ) (before after : List (Event ℕ)) → is_plain e ≡ true → Here before (e ∷ after) → Here (before ++ e ∷ []) after
  passes e before after plain here =
      record {
        who = here.who;
        only = only_plain here.who before e plain here.only;
        rest = plain_passes (is_some here.who) e (all_told by_role after) plain here.rest;
      }

  -- as a call begins it is its party that pushes, if it is a push
  begins : (p : ℕ) (start : Start ℕ) (before after : List (Event ℕ)) → Here before (Begun p start ∷ after) → (b : Bool) → is_push start ≡ b
      → Here (before ++ Begun p start ∷ []) after
  begins p start before after here false other = passes (Begun p start) before after (ap not other) here
  begins p start before after here true push =
      let sees = subst (λ ts. Alternates 0 (is_some here.who) (ts ++ all_told by_role after)) (told_begun p start push) here.rest in
      record {
        who = Some p;
        only = only_begun before p start (subst (λ o. Only o before) (none_is here.who (sees.0 refl)) here.only);
        rest = sees.1;
      }

  -- as a call ends nobody pushes, if it was a push
  finishes : (p : ℕ) (start : Start ℕ) (answer : Answer ℕ) (before after : List (Event ℕ)) → es ≡ before ++ Finished p start answer ∷ after
      → Here before (Finished p start answer ∷ after) → (b : Bool) → is_push start ≡ b → Here (before ++ Finished p start answer ∷ []) after
  finishes p start answer before after is here false other = passes (Finished p start answer) before after (ap not other) here
  finishes p start answer before after is here true push =
      let sees = subst (λ ts. Alternates 0 (is_some here.who) (ts ++ all_told by_role after)) (told_ended p start answer push) here.rest in
      let own = here.only p (ends_own before after p start answer is push) in
      record {
        who = None;
        only = only_ended before p start answer (subst (λ o. Only o before) own here.only);
        rest = sees.1;
      }

  step : (e : Event ℕ) (before after : List (Event ℕ)) → es ≡ before ++ e ∷ after → Here before (e ∷ after) → Here (before ++ e ∷ []) after
  step (Begun p start) before after is here = begins p start before after here (is_push start) refl
  step (Finished p start answer) before after is here = finishes p start answer before after is here (is_push start) refl
  step e before after is here = passes e before after refl here

  -- over any events of the run one party at most pushes
  walk : (xs before after : List (Event ℕ)) → es ≡ before ++ (xs ++ after) → Here before (xs ++ after) → Here (before ++ xs) after
  walk [] before after is here = subst (λ bs. Here bs after) (sym (append-nil before)) here
  walk (e ∷ xs) before after is here =
      let next = step e before (xs ++ after) is here in
      subst (λ bs. Here bs after) (append_assoc before (e ∷ []) xs)
      (walk xs (before ++ e ∷ []) after (is ∙ sym (append_assoc before (e ∷ []) (xs ++ after))) next)

  -- while this party pushes, and writes nothing but what a step writes
  module _ (p : ℕ) (during before after : List (Event ℕ)) (only : Only (Some p) before) where
    -- the first event, and then the rest
    abbrev Silent : Event ℕ → Type 0
    Silent e =
        es ≡ before ++ e ∷ (during ++ after) → Alternates 0 true (all_told by_role (e ∷ during ++ after))
        → AllByRecursion IsQuiet (events_by p (e ∷ during)) → (is_plain e ≡ true → IsSilent 0 (all_told by_role during))
        → IsSilent 0 (all_told by_role (e ∷ during))

    plainly : (e : Event ℕ) → is_plain e ≡ true → Silent e
    plainly e plain is rest quiet next = all_both (λ x. party_of x ≢ 0) (told by_role e) (all_told by_role during) (plain_silent e plain) (next plain)

    -- the begin of a call leaves the producer silent
    begun : (q : ℕ) (start : Start ℕ) (b : Bool) → is_push start ≡ b → Silent (Begun q start)
    begun q start false other is rest quiet next = plainly (Begun q start) (ap not other) is rest quiet next
    begun q start true push is rest quiet next =
        let sees = subst (λ ts. Alternates 0 true (ts ++ all_told by_role (during ++ after))) (told_begun q start push) rest in
        let never = sees.0 refl in
        absurd (cc)

    -- the end of a call leaves the producer silent
    finished : (q : ℕ) (start : Start ℕ) (answer : Answer ℕ) (b : Bool) → is_push start ≡ b → Silent (Finished q start answer)
    finished q start answer false other is rest quiet next = plainly (Finished q start answer) (ap not other) is rest quiet next
    finished q start answer true push is rest quiet next =
        let own : Some p ≡ Some q = only q (ends_own before (during ++ after) q start answer is push) in
        let same : p ≡ q = cc in
        let mine : (q == p) ≡ true = subst (λ n. (n == p) ≡ true) same (itself p) in
        let ends : ⊥ × AllByRecursion IsQuiet (events_by p during) = rw mine at quiet in
        absurd ends.0

    -- No event at which the party's push goes on shows the page a call of its producer.
    one : (e : Event ℕ) → Silent e
    one (Begun q start) is rest quiet next = begun q start (is_push start) refl is rest quiet next
    one (Finished q start answer) is rest quiet next = finished q start answer (is_push start) refl is rest quiet next
    one e is rest quiet next = plainly e refl is rest quiet next

  -- while a party pushes, and ends nothing, the page sees nothing of its producer
  silent : (p : ℕ) (during before after : List (Event ℕ)) → es ≡ before ++ (during ++ after) → Only (Some p) before
      → Alternates 0 true (all_told by_role (during ++ after)) → AllByRecursion IsQuiet (events_by p during)
      → IsSilent 0 (all_told by_role during)
  silent p [] before after is only rest quiet = tt
  silent p (e ∷ during) before after is only rest quiet =
      one p during before after only e is rest quiet
      (λ plain.
      silent p during (before ++ e ∷ []) after (is ∙ sym (append_assoc before (e ∷ []) (during ++ after))) (only_plain (Some p) before e plain only)
      (plain_passes true e (all_told by_role (during ++ after)) plain rest) (all_after IsQuiet (own_of p e) (events_by p during) quiet))

  -- between the begin and the end of a push the page sees nothing of its producer
  of_push : (p value : ℕ) (answer : Answer ℕ) (before during : List (Event ℕ))
      → es ≡ before ++ Begun p (Queues (PushIndex value)) ∷ (during ++ Finished p (Queues (PushIndex value)) answer ∷ [])
      → Alternates 0 false (all_told by_role es) → AllByRecursion IsQuiet (events_by p during)
      → IsSilent 0 (all_told by_role during)
  of_push p value answer before during is sees quiet =
      let start = Queues (PushIndex value) in
      let end = Finished p start answer ∷ [] in
      let first : Here [] (before ++ Begun p start ∷ (during ++ end)) =
      record { who = None; only = λ q pushing. absurd (cc); rest = subst (λ xs. Alternates 0 false (all_told by_role xs)) is sees } in
      let there = walk before [] (Begun p start ∷ (during ++ end)) is first in
      let none = none_is there.who (there.rest.0 refl) in
      silent p during (before ++ Begun p start ∷ []) end (is ∙ sym (append_assoc before (Begun p start ∷ []) (during ++ end)))
      (only_begun before p start (subst (λ o. Only o before) none there.only)) there.rest.1 quiet

-- what a pass knows of the index queue is a run of its page, in which a push is alone
pub push_alone : (capacity : ℕ) (v : View ℕ) → Knows one_word IndexQueue capacity v → RunsThePage (index_page capacity) v
    → (p value : ℕ) (answer : Answer ℕ) (before during : List (Event ℕ))
    → v.seen ≡ before ++ Begun p (Queues (PushIndex value)) ∷ (during ++ Finished p (Queues (PushIndex value)) answer ∷ [])
    → AllByRecursion IsQuiet (events_by p during) → IsSilent 0 (all_told by_role during)
push_alone capacity v knows runs p value answer before during is quiet =
    let run_now = run_of one_word IndexQueue capacity v.turns in
    let r = known_run knows in
    let on = queue_run one_word capacity queue_kinds.IndexQueue run_now r in
    let kept = kept_on queue_kinds.IndexQueue run_now r.of_kind on.reached.coded on.reached.admitted on.fresh in
    let promise = promise_of {T = ℕ} run_now.world.kind in
    of_push promise run_now.world.capacity v.seen
    (subst (Each (StandsRight promise run_now.world.capacity)) (sym knows.is) kept.spans) p value answer before
    during is
    (subst (Alternates 0 false) (sym runs) (alternates (index_queue capacity) 0 (turns_of (index_page capacity) v))) quiet
