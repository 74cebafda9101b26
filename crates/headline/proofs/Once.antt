-- A call acts at most once, whether it has finished or not.
use Rattle.std.proofs.Common.{◌≡◌, ◌⊎◌, inl, inr, ℕ, ◌==◌, Bool, true, false, List, [], ◌∷◌, ◌++◌, if◌then◌else◌}
use Rattle.std.proofs.Common.{refl, sym, ap, subst, ◌∙◌, append_assoc, append-nil}
use Rattle.std.proofs.lemmas.List.Concat.{flat_map-append}
use Rattle.std.proofs.lemmas.List.Sums.{fold-append}
use Rattle.std.specs.List.{flat_map}
use Rattle.model.specs.declared.event.Answer.{Answer}
use Rattle.model.specs.declared.event.Event.{Event}
use Rattle.model.specs.declared.event.Event.TheVariants.{Begun, Acted, Finished}
use Rattle.model.specs.declared.event.Start.{Start}
use Rattle.model.specs.Moments.{BeginsNone}
use Rattle.model.specs.Promise.{Promise}
use Rattle.model.specs.Promises.{IsKeptBy}
use Rattle.model.specs.Promises.Spans.{StandsRight}
use Rattle.model.specs.Reading.{acts, moments, whose, is_party, Span, Never, Open, Ended, longer, ended, own_after, span_after, span_of}
use Rattle.model.specs.Shape.{IsOpenFor}
use Rattle.model.specs.World.{Trace}
use Rattle.model.proofs.Readings.{span_of-own}
use Rattle.headline.specs.Moments.{act_of, AtMostOnce}
use Rattle.headline.proofs.Holding.{is_it}

module _ {T : Type 0} (start : Start T) where
  -- The acts are none, or one: as this call, with some answer.
  abbrev HasAtMostOne : List (Start T × Answer T) → Type 0
  HasAtMostOne acted = (acted ≡ []) ⊎ ((answer : Answer T) × (acted ≡ (start, answer) ∷ []))

  -- What the span of the party says of the acts `acted` since the call began: they are at most one, and while
  -- the call is under way they are those that it has written.
  abbrev ActsOf : List (Start T × Answer T) → Span T → Type 0
  ActsOf acted Never = ⊥
  ActsOf acted (Open call wrote) = (call ≡ start) × (moments wrote ≡ acted) × HasAtMostOne acted
  ActsOf acted (Ended call answer wrote) = HasAtMostOne acted

  -- What the span says of the acts so far leaves at most one act.
  few : (acted : List (Start T × Answer T)) (span : Span T) → ActsOf acted span → HasAtMostOne acted
  few acted Never has = absurd has
  few acted (Open call wrote) has = has.2
  few acted (Ended call answer wrote) has = has

  -- a call that has not acted yet, and acts, has acted once
  acts_now : (acted : List (Start T × Answer T)) (span : Span T) (q : ℕ) (call : Start T) (answer : Answer T)
      → IsOpenFor call (λ wrote. moments wrote ≡ []) span → ActsOf acted span → ActsOf (acted ++ (call, answer) ∷ []) (longer span (Acted q call answer))
  acts_now acted Never q call answer stands has = absurd stands
  acts_now acted (Open begun wrote) q call answer stands has =
      let none : acted ≡ [] = sym has.1 ∙ stands.1 in
      let same : call ≡ start = sym stands.0 ∙ has.0 in (
        has.0,
        flat_map-append acts wrote (Acted q call answer ∷ []) ∙ ap (λ (xs : List (Start T × Answer T)). xs ++ (call, answer) ∷ []) has.1,
        inr (answer, ap (λ (xs : List (Start T × Answer T)). xs ++ (call, answer) ∷ []) none ∙ ap (λ (s : Start T). (s, answer) ∷ []) same),
      )
  acts_now acted (Ended begun first wrote) q call answer stands has = absurd stands

  -- an event that is no act leaves how the call has acted
  writes : (acted : List (Start T × Answer T)) (span : Span T) (e : Event T) → acts e ≡ [] → ActsOf acted span → ActsOf acted (longer span e)
  writes acted Never e none has = absurd has
  writes acted (Open call wrote) e none has = (
    has.0,
    flat_map-append acts wrote (e ∷ [])
        ∙ (ap (λ (xs : List (Start T × Answer T)). moments wrote ++ (xs ++ [])) none ∙ (append-nil (moments wrote) ∙ has.1)),
    has.2,
  )
  writes acted (Ended call answer wrote) e none h = h

  -- What the span says of the acts so far (`ActsOf`) holds of it at the end of its call.
  ends : (acted : List (Start T × Answer T)) (span : Span T) (answer : Answer T) → ActsOf acted span → ActsOf acted (ended span answer)
  ends acted Never answer has = absurd has
  ends acted (Open call wrote) answer has = has.2
  ends acted (Ended call first wrote) answer has = has

  module _ (promise : Promise T) (capacity p : ℕ) where
    -- Adding no act leaves what the span says of the acts.
    stays : (acted : List (Start T × Answer T)) (span : Span T) → ActsOf acted span → ActsOf (acted ++ []) span
    stays acted span has = rw (append-nil acted) has

    -- An event that is no act, and lengthens its party's span, leaves what the span says of the
    -- acts so far.
    quiet : (acted : List (Start T × Answer T)) (span : Span T) (e : Event T) → ((s : Span T) → own_after s e ≡ longer s e) → acts e ≡ []
        → ActsOf acted span → (b : Bool) → ActsOf acted (if b then own_after span e else span)
    quiet acted span e longer_by none has true = subst (ActsOf acted) (sym (longer_by span)) (writes acted span e none has)
    quiet acted span e longer_by none has false = has

    -- each event that begins no call of the party leaves its call with one act at most
    step : (acted : List (Start T × Answer T)) (before : List (Event T)) (e : Event T) → StandsRight promise capacity before e
        → BeginsNone p (e ∷ []) → ActsOf acted (span_of p before) → ActsOf (acted ++ act_of p e) (span_after p (span_of p before) e)
    step acted before (Begun q call) stands none has = go (q == p) refl
      where
        -- The cases are whether the begin is of this party, which the premise excludes.
        go : (b : Bool) → (q == p) ≡ b → ActsOf (acted ++ []) (if b then Open call [] else span_of p before)
        go true test = absurd (none.0 (is_it q p test))
        go false test = stays acted (span_of p before) has
    step acted before (Acted q call answer) stands none has = go (q == p) refl
      where
        -- an act leaves a call with one act at most, whether it is the party's or another's
        go : (b : Bool) → (q == p) ≡ b
            → ActsOf (acted ++ (if b then (call, answer) ∷ [] else [])) (if b then longer (span_of p before) (Acted q call answer) else span_of p before)
        go true test =
            acts_now acted (span_of p before) q call answer
            (rw (← is_it q p test) stands) has
        go false test = stays acted (span_of p before) has
    step acted before (Finished q call answer) stands none has = go (q == p)
      where
        -- the cases are whether the call that ends is the party's own
        go : (b : Bool) → ActsOf (acted ++ []) (if b then ended (span_of p before) answer else span_of p before)
        go true = stays acted (ended (span_of p before) answer) (ends acted (span_of p before) answer has)
        go false = stays acted (span_of p before) has
    step acted before e stands none has =
        stays acted (span_after p (span_of p before) e)
        (quiet acted (span_of p before) e (λ s. refl) refl has (is_party p (whose e)))

    -- If the party begins no call in these events, then none in the first of them.
    first_none : (e : Event T) (es : List (Event T)) → BeginsNone p (e ∷ es) → BeginsNone p (e ∷ [])
    first_none (Begun q call) es none = (none.0, tt)
    first_none e es none = tt

    rest_none : (e : Event T) (es : List (Event T)) → BeginsNone p (e ∷ es) → BeginsNone p es
    rest_none (Begun q call) es none = none.1
    rest_none e es none = none

    module _ (events after : List (Event T))
        (spans : (before rest : List (Event T)) (e : Event T) → events ≡ before ++ e ∷ rest → StandsRight promise capacity before e) where
      -- events of which none begins a call of the party leave its call with one act at most
      walk : (es before : List (Event T)) (acted : List (Start T × Answer T)) → events ≡ before ++ (es ++ after) → BeginsNone p es
          → ActsOf acted (span_of p before) → HasAtMostOne (acted ++ flat_map (act_of p) es)
      walk [] before acted split none has =
          rw (append-nil acted) (few acted (span_of p before) has)
      walk (e ∷ es) before acted split none has =
          rw (← append_assoc acted (act_of p e) (flat_map (act_of p) es))
          (walk es (before ++ e ∷ []) (acted ++ act_of p e) (split ∙ sym (append_assoc before (e ∷ []) (es ++ after))) (rest_none e es none)
          (subst (ActsOf (acted ++ act_of p e)) (sym (fold-append (span_after p) Never before (e ∷ [])))
          (step acted before e (spans before (es ++ after) e split) (first_none e es none) has)))

-- In a run that keeps its kind's promise no call acts more than once.
pub at_most_once : {T : Type 0} (promise : Promise T) (t : Trace T) → IsKeptBy promise t → AtMostOnce t.events
at_most_once promise t kept p start before since after is none =
    walk start promise t.world.capacity p t.events after kept.spans since (before ++ Begun p start ∷ []) []
    (is ∙ sym (append_assoc before (Begun p start ∷ []) (since ++ after))) none
    (subst (ActsOf start []) (sym (span_of-own p before (Begun p start ∷ []) (refl, tt))) (refl, refl, inl refl))
