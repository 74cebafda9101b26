-- A call that has finished began, and acted once since then.
use Rattle.std.proofs.Common.{◌≡◌, ◌≢◌, ℕ, ◌==◌, Bool, true, false, List, [], ◌∷◌, ◌++◌, fold}
use Rattle.std.proofs.Common.{if◌then◌else◌, refl, sym, ap, subst, ◌∙◌, append_assoc, append-nil, arith}
use Rattle.std.proofs.lemmas.Bool.Decides.{nat_tests}
use Rattle.std.proofs.lemmas.List.Concat.{flat_map-append}
use Rattle.std.specs.List.{flat_map}
use Rattle.model.specs.declared.event.Answer.{Answer}
use Rattle.model.specs.declared.event.Event.{Event}
use Rattle.model.specs.declared.event.Event.TheVariants.{Begun, Acted, Finished}
use Rattle.model.specs.declared.event.Start.{Start}
use Rattle.model.specs.Moments.{BeginsNone}
use Rattle.model.specs.Promise.{Promise}
use Rattle.model.specs.Promises.{IsKeptBy}
use Rattle.model.specs.Reading.{acts, moments, whose, is_party, Span, Never, Open, Ended, longer, ended, own_after, span_after, span_of}
use Rattle.model.specs.Shape.{IsOpenFor}
use Rattle.model.specs.World.{Trace}
use Rattle.model.proofs.Moments.{begins_none_more}
use Rattle.headline.specs.Moments.{Follows, act_of, ActedOnce}
use Rattle.headline.proofs.Holding.{is_it}

is_another : (q p : ℕ) → (q == p) ≡ false → q ≢ p
is_another q p test = grind (arith, nat_tests)

module _ {T : Type 0} where
  -- ---- a call that has ended has written what its answer says

  -- What the party's call `start`, which is under way, has written, with P of it.
  pub record Wrote (P : List (Event T) → Type 0) (p : ℕ) (start : Start T) (before : List (Event T)) : Type 0 where
    pub wrote : List (Event T)
    pub opens : span_of p before ≡ Open start wrote
    pub right : P wrote

  -- a span that is open for a call has written what is right for it
  opened_for : (P : List (Event T) → Type 0) (p : ℕ) (start : Start T) (before : List (Event T)) (span : Span T) → span_of p before ≡ span
      → IsOpenFor start P span → Wrote P p start before
  opened_for P p start before Never span_is open_for = absurd open_for
  opened_for P p start before (Open call wrote) span_is open_for =
      record { wrote = wrote; opens = span_is ∙ ap (λ (c : Start T). Open c wrote) open_for.0; right = open_for.1 }
  opened_for P p start before (Ended call answer wrote) span_is open_for = absurd open_for

  -- a call that has finished has written what its answer says
  pub finished_wrote : (promise : Promise T) (t : Trace T) (p : ℕ) (start : Start T) (answer : Answer T) (before : List (Event T))
      → IsKeptBy promise t → Follows (Finished p start answer) before t.events
      → Wrote (promise.wrote t.world.capacity start answer) p start before
  finished_wrote promise t p start answer before kept follows =
      opened_for (promise.wrote t.world.capacity start answer) p start before (span_of p before) refl
      (kept.spans before follows.0 (Finished p start answer) follows.1)

  -- ---- a span that is open for a call

  module _ (p : ℕ) where
    -- The party's call `start` began at a moment of these events. Since then the party has begun no other,
    -- and its acts are those among what the call has written.
    pub record Began (start : Start T) (wrote events : List (Event T)) : Type 0 where
      pub before : List (Event T)
      pub since : List (Event T)
      pub is : events ≡ before ++ Begun p start ∷ since
      pub within : BeginsNone p since
      pub once : flat_map (act_of p) since ≡ moments wrote

    -- What the span of the party's latest call says of the events: a call under way began in them,
    -- with what `Began` says. Any other span says nothing.
    abbrev CallBegan : Span T → List (Event T) → Type 0
    CallBegan Never events = Unit {0}
    CallBegan (Open start wrote) events = Began start wrote events
    CallBegan (Ended start answer wrote) events = Unit {0}

    -- one event more, which begins no call of the party
    one_more : (start : Start T) (wrote more events : List (Event T)) (e : Event T) → BeginsNone p (e ∷ [])
        → flat_map (act_of p) (e ∷ []) ≡ moments more → Began start wrote events → Began start (wrote ++ more) (events ++ e ∷ [])
    one_more start wrote more events e none same begun =
        record {
          before = begun.before;
          since = begun.since ++ e ∷ [];
          is = ap (λ (xs : List (Event T)). xs ++ e ∷ []) begun.is ∙ append_assoc begun.before (Begun p start ∷ begun.since) (e ∷ []);
          within = begins_none_more p begun.since (e ∷ []) begun.within none;
          once = flat_map-append (act_of p) begun.since (e ∷ [])
              ∙ (ap (λ (xs : List (Start T × Answer T)). xs ++ flat_map (act_of p) (e ∷ [])) begun.once
              ∙ (ap (λ (xs : List (Start T × Answer T)). moments wrote ++ xs) same ∙ sym (flat_map-append acts wrote more)));
        }

    -- What the span says (`CallBegan`) holds of the longer span after an event that begins no call of
    -- the party, and whose act, if it is one, is the party's.
    longer_reads : (span : Span T) (before : List (Event T)) (e : Event T) → BeginsNone p (e ∷ [])
        → flat_map (act_of p) (e ∷ []) ≡ moments (e ∷ []) → CallBegan span before → CallBegan (longer span e) (before ++ e ∷ [])
    longer_reads Never before e none same reads = tt
    longer_reads (Open start wrote) before e none same reads = one_more start wrote (e ∷ []) before e none same reads
    longer_reads (Ended start answer wrote) before e none same reads = tt

    -- an event that is neither a begin nor an act of the party leaves what its span reads
    same_reads : (span : Span T) (before : List (Event T)) (e : Event T) → BeginsNone p (e ∷ [])
        → flat_map (act_of p) (e ∷ []) ≡ [] → CallBegan span before → CallBegan span (before ++ e ∷ [])
    same_reads Never before e none same reads = tt
    same_reads (Open start wrote) before e none same reads =
        rw (← append-nil wrote) (one_more start wrote [] before e none same reads)
    same_reads (Ended start answer wrote) before e none same reads = tt

    -- A span whose call has ended says nothing of the events.
    ended_reads : (span : Span T) (events : List (Event T)) (answer : Answer T) → CallBegan (ended span answer) events
    ended_reads Never events answer = tt
    ended_reads (Open start wrote) events answer = tt
    ended_reads (Ended start first wrote) events answer = tt

    -- an event that is no begin, no act and no end
    quiet_reads : (span : Span T) (before : List (Event T)) (e : Event T) → ((s : Span T) → own_after s e ≡ longer s e)
        → BeginsNone p (e ∷ []) → act_of p e ≡ [] → acts e ≡ [] → CallBegan span before
        → (b : Bool) → is_party p (whose e) ≡ b → CallBegan (if b then own_after span e else span) (before ++ e ∷ [])
    quiet_reads span before e writes none mine its reads true test =
        rw (writes span) (longer_reads span before e none (ap (λ (xs : List (Start T × Answer T)). xs ++ []) (mine ∙ sym its)) reads)
    quiet_reads span before e writes none mine its reads false test =
        same_reads span before e none (ap (λ (xs : List (Start T × Answer T)). xs ++ []) mine) reads

    -- each event leads on: where the party's span is open, its call began before, and has acted as it wrote
    step : (span : Span T) (before : List (Event T)) (e : Event T) → CallBegan span before → CallBegan (span_after p span e) (before ++ e ∷ [])
    step span before (Begun q start) reads = go (q == p) refl
      where
        -- the cases are whether the turn is the party's own
        go : (b : Bool) → (q == p) ≡ b → CallBegan (if b then Open start [] else span) (before ++ Begun q start ∷ [])
        go true test =
            record { before = before; since = []; is = ap (λ n. before ++ Begun n start ∷ []) (is_it q p test); within = tt; once = refl }
        go false test = same_reads span before (Begun q start) (is_another q p test, tt) refl reads
    step span before (Acted q start answer) reads = go (q == p) refl
      where
        -- The cases are whether the act is of this party.
        go : (b : Bool) → (q == p) ≡ b → CallBegan (if b then longer span (Acted q start answer) else span) (before ++ Acted q start answer ∷ [])
        go true test = longer_reads span before (Acted q start answer) tt (rw test refl) reads
        go false test = same_reads span before (Acted q start answer) tt (rw test refl) reads
    step span before (Finished q start answer) reads = go (q == p) refl
      where
        -- The cases are whether the end is of this party's call.
        go : (b : Bool) → (q == p) ≡ b → CallBegan (if b then ended span answer else span) (before ++ Finished q start answer ∷ [])
        go true test = ended_reads span (before ++ Finished q start answer ∷ []) answer
        go false test = same_reads span before (Finished q start answer) tt refl reads
    step span before e reads = quiet_reads span before e (λ s. refl) tt refl refl reads (is_party p (whose e)) refl

    -- What a span says (`CallBegan`) holds of the span after more events, one event after another.
    walk : (es before : List (Event T)) (span : Span T) → CallBegan span before → CallBegan (fold (span_after p) span es) (before ++ es)
    walk [] before span reads = subst (CallBegan span) (sym (append-nil before)) reads
    walk (e ∷ es) before span reads =
        subst (CallBegan (fold (span_after p) (span_after p span e) es)) (append_assoc before (e ∷ []) es)
        (walk es (before ++ e ∷ []) (span_after p span e) (step span before e reads))

    -- A call under way, by the span of its party, began in the events as `Began` says.
    began : (start : Start T) (wrote events : List (Event T)) → span_of p events ≡ Open start wrote → Began start wrote events
    began start wrote events span_is = rw span_is at (walk events [] Never tt)

  -- A call under way that has written one act, its own with this answer, acted once since it began.
  pub acted_once : (p : ℕ) (start : Start T) (answer : Answer T) (before wrote : List (Event T))
      → span_of p before ≡ Open start wrote → moments wrote ≡ (start, answer) ∷ [] → ActedOnce p start answer before
  acted_once p start answer before wrote span_is one =
      let b = began p start wrote before span_is in
      record { before = b.before; since = b.since; is = b.is; within = b.within; once = b.once ∙ one }
