-- In a run whose calls run whole one call is under way at most, and what a party does until it ends is its own.
use Rattle.std.proofs.Common.{◌≡◌, ◌≢◌, ⊎_elim, ℕ, true, Option, Some, None, is_some, IfSome, List, [], ◌∷◌, ◌++◌}
use Rattle.std.proofs.Common.{refl, sym, ap, subst, ◌∙◌, append_assoc, append-nil}
use Rattle.std.proofs.lemmas.Bool.{cases_eq}
use Rattle.std.proofs.lemmas.List.Concat.{flat_map-append}
use Rattle.std.specs.List.{flat_map}
use Rattle.model.specs.declared.event.Answer.{Answer}
use Rattle.model.specs.declared.event.Event.{Event}
use Rattle.model.specs.declared.event.Event.TheVariants.{Begun, Acted, Finished, Died}
use Rattle.model.specs.declared.event.Start.{Start}
use Rattle.model.specs.Promise.{Promise}
use Rattle.model.specs.Promises.Spans.{Stands, StandsRight}
use Rattle.model.specs.Reading.{Each, moments, whose, Span, Never, Open, Ended, longer, ended, own_after, span_of}
use Rattle.model.specs.Shape.{IsOpen, IsOpenFor, IsShut}
use Rattle.model.proofs.Readings.{span_of-own, span_of-other, span_of-death}
use Rattle.headline.specs.Holders.{claims}
use Rattle.headline.proofs.Holding.{always}
use Rattle.headline_whole.specs.Whole.{RunsWhole, answer_in}
use Rattle.headline_whole.proofs.Courses.{NoneEnds}

module _ {T : Type 0} where
  -- The event, unless it is of no party (a death).
  abbrev if_of_party : Option ℕ → Event T → List (Event T)
  if_of_party None e = []
  if_of_party (Some p) e = e ∷ []

  -- the events without the deaths
  abbrev pub of_parties : List (Event T) → List (Event T)
  of_parties events = flat_map (λ e. if_of_party (whose e) e) events

  -- the events of a call that has ended
  abbrev pub whole_call : ℕ → Start T → List (Event T) → Answer T → List (Event T)
  whole_call p start since answer = Begun p start ∷ (since ++ Finished p start answer ∷ [])

  -- a reading of events that finds nothing in a begin, an end and a death
  pub record ReadsEffects {A : Type 0} (read : Event T → List A) : Type 0 where
    pub begun : (p : ℕ) (start : Start T) → read (Begun p start) ≡ []
    pub finished : (p : ℕ) (start : Start T) (answer : Answer T) → read (Finished p start answer) ≡ []
    pub died : (owner : ℕ) → read (Died owner) ≡ []

  module _ {A : Type 0} (read : Event T → List A) (effects : ReadsEffects read) where
    -- A reading that sees nothing in a death reads the same without the deaths.
    pub reads_same : (es : List (Event T)) → flat_map read (of_parties es) ≡ flat_map read es
    reads_same [] = refl
    reads_same (Died owner ∷ es) = reads_same es ∙ sym (ap (λ (xs : List A). xs ++ flat_map read es) (effects.died owner))
    reads_same (e ∷ es) = ap (λ (xs : List A). read e ++ xs) (reads_same es)

    -- A reading that sees only effects finds in a whole call (from its begin to its end) what it
    -- finds in its effects.
    pub reads_call : (p : ℕ) (start : Start T) (since : List (Event T)) (answer : Answer T)
        → flat_map read (whole_call p start since answer) ≡ flat_map read (of_parties since)
    reads_call p start since answer =
        ap (λ (xs : List A). xs ++ flat_map read (since ++ Finished p start answer ∷ [])) (effects.begun p start)
        ∙ (flat_map-append read since (Finished p start answer ∷ [])
        ∙ (ap (λ (xs : List A). flat_map read since ++ (xs ++ [])) (effects.finished p start answer)
        ∙ (append-nil (flat_map read since) ∙ sym (reads_same since))))

  -- ---- spans

  -- A span that is shut is not open for a call.
  pub open_shut : (Such : Start T → Type 0) (P : List (Event T) → Type 0) (span : Span T) → IsShut span → IsOpen Such P span → ⊥
  open_shut Such P Never shut unshut = unshut
  open_shut Such P (Open call wrote) shut unshut = shut
  open_shut Such P (Ended call answer wrote) shut unshut = unshut

  -- A span is shut once its call has ended.
  ended_shut : (span : Span T) (answer : Answer T) → IsShut (ended span answer)
  ended_shut Never answer = tt
  ended_shut (Open call wrote) answer = tt
  ended_shut (Ended call first wrote) answer = tt

  -- The event is no begin of a call.
  abbrev BeginsNot : Event T → Type 0
  BeginsNot (Begun p start) = ⊥
  BeginsNot e = Unit {0}

  -- ---- the walk

  -- An effect stands in no shut span. `AfterWhole` holds where no call is under way: a call that ends and a death keep it.
  module _ (promise : Promise T) (capacity : ℕ) (open_only : (e : Event T) (span : Span T) → IsShut span → promise.may_stand e span → ⊥)
      (events : List (Event T)) (runs : RunsWhole events) (spans : Each (StandsRight promise capacity) events)
      (AfterWhole : List (Event T) → Type 0) (dies : (es : List (Event T)) (owner : ℕ) → AfterWhole es → AfterWhole (es ++ Died owner ∷ []))
      (ends : (p : ℕ) (start : Start T) (answer : Answer T) (begun since after : List (Event T))
      → events ≡ (begun ++ Begun p start ∷ since) ++ Finished p start answer ∷ after → NoneEnds since
      → promise.wrote capacity start answer (of_parties since) → AfterWhole begun → AfterWhole (begun ++ whole_call p start since answer)) where
    data Stage (before : List (Event T)) : Type 0 where
      BetweenCalls : ((q : ℕ) → IsShut (span_of q before)) → AfterWhole before → Stage before
      -- One call is under way, and what came since its begin ended no call.
      DuringCall : (p : ℕ) (start : Start T) (begun since : List (Event T)) → before ≡ begun ++ Begun p start ∷ since
          → span_of p before ≡ Open start (of_parties since) → NoneEnds since → ((q : ℕ) → q ≢ p → IsShut (span_of q before)) → AfterWhole begun
          → Stage before

    -- No event but a begin may stand in a span that is shut.
    stands_open : (e : Event T) (span : Span T) → BeginsNot e → IsShut span → Stands promise capacity e span → ⊥
    stands_open (Begun p start) span begins_not shut stands = begins_not
    stands_open (Acted p start answer) span begins_not shut stands = open_shut (λ call. call ≡ start) (λ wrote. moments wrote ≡ []) span shut stands
    stands_open (Finished p start answer) span begins_not shut stands = open_shut (λ call. call ≡ start) (promise.wrote capacity start answer) span shut stands
    stands_open e span begins_not shut stands = open_only e span shut stands

    -- A call that begins leaves the run in a stage: it is under way, alone, since none was before.
    begins : (before after : List (Event T)) (p : ℕ) (start : Start T) → events ≡ before ++ Begun p start ∷ after → Stage before
        → Stage (before ++ Begun p start ∷ [])
    begins before after p start split (BetweenCalls shut rest) =
        DuringCall p start before [] refl (span_of-own p before (Begun p start ∷ []) (refl, tt)) (λ is_call. refl)
        (λ q ne. subst IsShut (sym (span_of-other p q before (Begun p start ∷ []) ne (refl, tt))) (shut q)) rest
    begins before after p start split (DuringCall q call begun since is opens none others rest) =
        absurd (subst IsShut opens (runs p start before (after, split) q))

    -- an event more that ends no call
    none_more : (since : List (Event T)) (e : Event T) → NoneEnds since → NoneEnds (e ∷ []) → NoneEnds (since ++ e ∷ [])
    none_more since e none silent is_call = flat_map-append (answer_in is_call) since (e ∷ []) ∙ (λ i. none is_call i ++ silent is_call i)

    -- as a call ends, none is under way
    finishes : (before after : List (Event T)) (p : ℕ) (start : Start T) (answer : Answer T) → events ≡ before ++ Finished p start answer ∷ after
        → IsOpenFor start (promise.wrote capacity start answer) (span_of p before) → Stage before → Stage (before ++ Finished p start answer ∷ [])
    finishes before after p start answer split stands (BetweenCalls shut rest) =
        absurd (open_shut (λ call. call ≡ start) (promise.wrote capacity start answer) (span_of p before) (shut p) stands)
    finishes before after p start answer split stands (DuringCall q call begun since is opens none others rest) =
        ⊎_elim (λ (e : p ≡ q).
        let here : IsOpenFor start (promise.wrote capacity start answer) (Open call (of_parties since)) =
        subst (IsOpenFor start (promise.wrote capacity start answer)) (ap (λ n. span_of n before) e ∙ opens) stands in
        let grown : before ≡ begun ++ Begun p start ∷ since = is ∙ (λ i. begun ++ Begun (sym e i) (here.0 i) ∷ since) in
        BetweenCalls
        (λ r. ⊎_elim
        (λ (same : r ≡ p). subst (λ n. IsShut (span_of n (before ++ Finished p start answer ∷ []))) (sym same)
        (subst IsShut (sym (span_of-own p before (Finished p start answer ∷ []) (refl, tt))) (ended_shut (span_of p before) answer)))
        (λ ne. subst IsShut (sym (span_of-other p r before (Finished p start answer ∷ []) ne (refl, tt))) (others r (λ x. ne (x ∙ sym e))))
        (cases_eq r p))
        (subst AfterWhole
        (sym (ap (λ (xs : List (Event T)). xs ++ Finished p start answer ∷ []) grown
        ∙ append_assoc begun (Begun p start ∷ since) (Finished p start answer ∷ [])))
        (ends p start answer begun since after (split ∙ ap (λ (xs : List (Event T)). xs ++ Finished p start answer ∷ after) grown) none here.1 rest)))
        (λ ne. absurd (open_shut (λ call. call ≡ start) (promise.wrote capacity start answer) (span_of p before) (others p ne) stands))
        (cases_eq p q)

    -- as an owner dies one call is under way still, or none
    mourns : (before : List (Event T)) (owner : ℕ) → Stage before → Stage (before ++ Died owner ∷ [])
    mourns before owner (BetweenCalls shut rest) =
        BetweenCalls (λ q. subst IsShut (sym (span_of-death q before owner)) (shut q)) (dies before owner rest)
    mourns before owner (DuringCall q call begun since is opens none others rest) =
        DuringCall q call begun (since ++ Died owner ∷ [])
        (ap (λ (xs : List (Event T)). xs ++ Died owner ∷ []) is ∙ append_assoc begun (Begun q call ∷ since) (Died owner ∷ []))
        (span_of-death q before owner
        ∙ (opens
        ∙ ap (λ (xs : List (Event T)). Open call xs)
        (sym (flat_map-append (λ e. if_of_party (whose e) e) since (Died owner ∷ []) ∙ append-nil (of_parties since)))))
        (none_more since (Died owner) none (λ is_call. refl))
        (λ r ne. subst IsShut (sym (span_of-death r before owner)) (others r ne)) rest

    -- an event of a party with a call under way leaves that one call under way
    goes : (before : List (Event T)) (e : Event T) (p : ℕ) → whose e ≡ Some p → ((s : Span T) → own_after s e ≡ longer s e) → NoneEnds (e ∷ [])
        → (IsShut (span_of p before) → ⊥) → Stage before → Stage (before ++ e ∷ [])
    goes before e p mine writes silent unshut (BetweenCalls shut rest) = absurd (unshut (shut p))
    goes before e p mine writes silent unshut (DuringCall q call begun since is opens none others rest) =
        ⊎_elim (λ (same : p ≡ q).
        DuringCall q call begun (since ++ e ∷ [])
        (ap (λ (xs : List (Event T)). xs ++ e ∷ []) is ∙ append_assoc begun (Begun q call ∷ since) (e ∷ []))
        (span_of-own q before (e ∷ []) (mine ∙ ap (λ (n : ℕ). Some n) same, tt)
        ∙ (writes (span_of q before)
        ∙ (ap (λ (s : Span T). longer s e) opens
        ∙ ap (λ (xs : List (Event T)). Open call xs)
        (ap (λ (o : Option ℕ). of_parties since ++ (if_of_party o e ++ [])) (sym mine)
        ∙ sym (flat_map-append (λ e. if_of_party (whose e) e) since (e ∷ []))))))
        (none_more since e none silent)
        (λ r ne. subst IsShut (sym (span_of-other p r before (e ∷ []) (λ x. ne (x ∙ same)) (mine, tt))) (others r ne)) rest)
        (λ ne. absurd (unshut (others p ne))) (cases_eq p q)

    -- An event of a party that neither begins nor ends a call leaves the run at its stage: no call
    -- is under way, or one is.
    of_any : (before : List (Event T)) (e : Event T) (o : Option ℕ) → whose e ≡ o → is_some o ≡ true → ((s : Span T) → own_after s e ≡ longer s e)
        → NoneEnds (e ∷ []) → BeginsNot e → IfSome o (λ p. Stands promise capacity e (span_of p before)) → Stage before → Stage (before ++ e ∷ [])
    of_any before e None whose_is some writes silent begins_not stands stage = absurd (cc)
    of_any before e (Some p) whose_is some writes silent begins_not stands stage =
        goes before e p whose_is writes silent (λ shut. stands_open e (span_of p before) begins_not shut stands) stage

    -- each event leads from one stage to the next
    step : (e : Event T) (before after : List (Event T)) → events ≡ before ++ e ∷ after → Stage before → Stage (before ++ e ∷ [])
    step (Begun p start) before after split stage = begins before after p start split stage
    step (Finished p start answer) before after split stage =
        finishes before after p start answer split (spans before after (Finished p start answer) split) stage
    step (Died owner) before after split stage = mourns before owner stage
    step e before after split stage = of_any before e (whose e) refl refl (λ s. refl) (λ is_call. refl) tt (spans before after e split) stage

    -- A run is one that ended with no call under way, and behind it events that end no call.
    rested : Stage events → (begun : List (Event T)) × (since : List (Event T)) × (events ≡ begun ++ since) × NoneEnds since × AfterWhole begun
    rested (BetweenCalls shut rest) = (events, [], sym (append-nil events), (λ is_call. refl), rest)
    rested (DuringCall p start begun since is unshut none others rest) = (begun, Begun p start ∷ since, is, none, rest)

    -- it holds after all calls that have ended
    pub rests : AfterWhole [] → (begun : List (Event T)) × (since : List (Event T)) × (events ≡ begun ++ since) × NoneEnds since × AfterWhole begun
    rests first =
        rested (always claims Stage events (BetweenCalls (λ q. tt) first) (λ e before at stage. step e before at.0 at.1 stage)
        events [] (sym (append-nil events)))
