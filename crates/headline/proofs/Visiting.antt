-- A recovery of a container that comes to an index began before the lock, in every run.
use Rattle.std.proofs.Common.{◌≡◌, ℕ, Bool, true, false, Some, None, List, [], ◌∷◌, ◌++◌, if◌then◌else◌, refl, sym, subst, ◌∙◌, arith}
use Rattle.std.proofs.lemmas.Grind.{fold-append}
use Rattle.std.specs.List.{AllByRecursion}
use Rattle.steps.specs.declared.indices.enums.ReleaseMode.{ReleaseMode}
use Rattle.model.specs.declared.event.Answer.{Answer}
use Rattle.model.specs.declared.event.Event.{Event}
use Rattle.model.specs.declared.event.Event.TheVariants.{Begun, Copied, Shown, FreedOf, Died}
use Rattle.model.specs.declared.event.Start.{Start}
use Rattle.model.specs.declared.event.Start.TheVariants.{Container}
use Rattle.model.specs.declared.families.container.ContainerStart.TheVariants.{Recover}
use Rattle.model.specs.declared.turn.Kind.TheVariants as kinds
use Rattle.model.specs.declared.turn.Turn.{Turn}
use Rattle.model.specs.declared.turn.Turn.TheVariants.{Begin, Next, Decide, Die}
use Rattle.model.specs.Families.Container.Promises as container_promises
use Rattle.model.specs.Families.Container.Recoveries.{IsRecovery, BeganUnlocked, VisitsRight, VisitsUnlocked}
use Rattle.model.specs.Families.Container.Spans.{may_stand}
use Rattle.model.specs.Families.Indices.Robust.Promises.{IsUnlocked}
use Rattle.model.specs.Moments.{HeldSometime, BeginsNone}
use Rattle.model.specs.Promise.{Promise}
use Rattle.model.specs.Promises.{IsKeptBy}
use Rattle.model.specs.Promises.Families.{promise_of}
use Rattle.model.specs.Promises.Turns.{IsEffectOf, IsAct, IsEndOf, WritesInOrder, WritesDown}
use Rattle.model.specs.Reading.{Each, whose, is_party, Span, Never, Open, Ended, longer, ended, own_after, span_after, span_of}
use Rattle.model.specs.Refusals.{refusal_of}
use Rattle.model.specs.Turns.{IsReached, after_turn}
use Rattle.model.specs.World.{Trace}
use Rattle.model.proofs.Moments.{held_later}
use Rattle.model.proofs.Readings.{AreRight, Each-append, Each-nil}
use Rattle.model.proofs.Reached.{kept_by_runs, reached_more, turn_making}
use Rattle.laws_container.proofs.AllRuns.{container_keeps}
use Rattle.headline.specs.Headline.{IsVisit}
use Rattle.headline.specs.Moments.{Follows, call_in}

-- What holds of all of two lists holds of all of both together.
all_and : {A : Type 0} (P : A → Type 0) (xs ys : List A) → AllByRecursion P xs → AllByRecursion P ys → AllByRecursion P (xs ++ ys)
all_and P [] ys all more = more
all_and P (x ∷ xs) ys all more = (all.0, all_and P xs ys all.1 more)

-- If P gives Q of each element, then P of all gives Q of all.
all_so : {A : Type 0} (P Q : A → Type 0) → ((x : A) → P x → Q x) → (xs : List A) → AllByRecursion P xs → AllByRecursion Q xs
all_so P Q so [] all = tt
all_so P Q so (x ∷ xs) all = (so x all.0, all_so P Q so xs all.1)

module _ {T : Type 0} where
  -- ---- events with which no call begins

  -- The event is no begin of a call.
  abbrev BeginsNo : Event T → Type 0
  BeginsNo (Begun p start) = ⊥
  BeginsNo e = Unit {0}

  effect_no : (turn : Turn T) (e : Event T) → IsEffectOf turn e → BeginsNo e
  effect_no turn (Begun p start) effect = effect
  effect_no turn e effect = tt

  act_no : (e : Event T) → IsAct e → BeginsNo e
  act_no (Begun p start) act = act
  act_no e act = tt

  end_no : (turn : Turn T) (e : Event T) → IsEndOf turn e → BeginsNo e
  end_no turn (Begun p start) end_of_call = end_of_call
  end_no turn e end_of_call = tt

  none_one : (p : ℕ) (e : Event T) → BeginsNo e → BeginsNone p (e ∷ [])
  none_one p (Begun q start) begins_no = absurd begins_no
  none_one p e begins_no = tt

  -- ---- a recovery under way after an event that begins no call was under way before it

  -- a span that is a recovery's with one event more is a recovery's without it
  longer_less : (span : Span T) (e : Event T) → IsRecovery (longer span e) → IsRecovery span
  longer_less Never e recovery = recovery
  longer_less (Open (Container (Recover owner mode)) wrote) e recovery = tt
  longer_less (Open (Container other) wrote) e recovery = absurd recovery
  longer_less (Open other wrote) e recovery = absurd recovery
  longer_less (Ended start answer wrote) e recovery = recovery

  -- After an event that begins no call a span is a recovery's only if it was one before.
  own_less : (span : Span T) (e : Event T) → BeginsNo e → IsRecovery (own_after span e) → IsRecovery span
  own_less = grind (arith, longer_less)

  -- If the span is a recovery's after an event of some party that begins no call, it was a
  -- recovery's before.
  after_less : (span : Span T) (e : Event T) → BeginsNo e → (b : Bool) → IsRecovery (if b then own_after span e else span) → IsRecovery span
  after_less span e none true recovery = own_less span e none recovery
  after_less span e none false recovery = recovery

  -- If the party is in a recovery after an event that begins no call, it was before.
  recovery_less : (p : ℕ) (before : List (Event T)) (e : Event T) → BeginsNo e → IsRecovery (span_of p (before ++ e ∷ [])) → IsRecovery (span_of p before)
  recovery_less p before e none recovery =
      after_less (span_of p before) e none (is_party p (whose e)) (subst IsRecovery (fold-append (span_after p) Never before (e ∷ [])) recovery)

  -- A recovery that began before the lock is still one after an event that begins no call.
  began_on : (p : ℕ) (before : List (Event T)) (e : Event T) → BeginsNo e → BeganUnlocked p before → BeganUnlocked p (before ++ e ∷ [])
  began_on p before e none began_unlocked recovers =
      held_later p IsUnlocked before (e ∷ []) (none_one p e none) (began_unlocked (recovery_less p before e none recovers))

  -- An event that recovery may write stays one that it may write, with one event more before it
  -- that begins no call.
  visits_on : (before : List (Event T)) (x e : Event T) → BeginsNo x → VisitsRight before e → VisitsRight (before ++ x ∷ []) e
  visits_on before x (Copied p index value) none visits_right = began_on p before x none visits_right
  visits_on before x (Shown p index) none visits_right = began_on p before x none visits_right
  visits_on before x (FreedOf p index owner) none visits_right = began_on p before x none visits_right
  visits_on before x e none visits_right = tt

  -- ---- one turn

  -- Events that begin no call are right one after another, if each of them is right after the
  -- events before the turn.
  all_right : (es before : List (Event T)) → AllByRecursion BeginsNo es → AllByRecursion (VisitsRight before) es → AreRight VisitsRight before es
  all_right [] before none all = tt
  all_right (e ∷ es) before none all = (
    all.0,
    all_right es (before ++ e ∷ []) none.1
        (all_so (VisitsRight before) (VisitsRight (before ++ e ∷ [])) (λ x h. visits_on before e x none.0 h) es all.1),
  )

  -- A turn that writes its events in order, and in which only a recovery that began before the lock comes to
  -- an index, writes each event right (`VisitsRight`).
  in_order : (promise : Promise T) (old new : Trace T) (turn : Turn T) → WritesInOrder promise old turn new.events → VisitsUnlocked old new
      → Each VisitsRight old.events → Each VisitsRight new.events
  in_order promise old new turn writes_in_order visits each =
      subst (Each VisitsRight) (sym writes_in_order.is)
      (Each-append VisitsRight old.events ((writes_in_order.effects ++ writes_in_order.acts) ++ writes_in_order.ends) each
      (all_right ((writes_in_order.effects ++ writes_in_order.acts) ++ writes_in_order.ends) old.events
      (all_and BeginsNo (writes_in_order.effects ++ writes_in_order.acts) writes_in_order.ends
      (all_and BeginsNo writes_in_order.effects writes_in_order.acts
      (all_so (IsEffectOf turn) BeginsNo (effect_no turn) writes_in_order.effects writes_in_order.are_effects)
      (all_so IsAct BeginsNo act_no writes_in_order.acts writes_in_order.are_acts))
      (all_so (IsEndOf turn) BeginsNo (end_no turn) writes_in_order.ends writes_in_order.are_ends))
      (visits ((writes_in_order.effects ++ writes_in_order.acts) ++ writes_in_order.ends) writes_in_order.is)))

  -- A turn that writes down what its promise says writes each event at which a recovery
  -- comes to an index right.
  one_turn : (promise : Promise T) (old new : Trace T) (turn : Turn T) → WritesDown promise old turn new → VisitsUnlocked old new
      → Each VisitsRight old.events → Each VisitsRight new.events
  one_turn promise old new (Begin p start) writes_down visits each =
      subst (Each VisitsRight) (sym writes_down) (Each-append VisitsRight old.events (Begun p start ∷ []) each (tt, tt))
  one_turn promise old new (Next p) writes_down visits each = in_order promise old new (Next p) writes_down visits each
  one_turn promise old new (Decide p said) writes_down visits each = in_order promise old new (Decide p said) writes_down visits each
  one_turn promise old new (Die owner) writes_down visits each =
      subst (Each VisitsRight) (sym writes_down) (Each-append VisitsRight old.events (Died owner ∷ []) each (tt, tt))

  -- ---- every run

  -- Turns reach the machine, and in a container each event at which a recovery comes to an index is right.
  abbrev HasVisited : Trace T → Type 0
  HasVisited t = IsReached t × (t.world.kind ≡ kinds.Container → Each VisitsRight t.events)

  -- Each turn of a container that is not refused writes each event at which a recovery
  -- comes to an index right.
  turn_visits : (t : Trace T) (turn : Turn T) → t.world.kind ≡ kinds.Container → refusal_of t.world turn ≡ None → IsReached t
      → Each VisitsRight t.events → Each VisitsRight (after_turn t turn).events
  turn_visits t turn of_kind free reached each =
      let turns = container_keeps.turn t turn of_kind free reached in
      let tells : container_promises.TellsRight t turn (after_turn t turn) =
      subst (λ kind. (promise_of {T = T} kind).tells t turn (after_turn t turn)) of_kind turns.tells in
      one_turn (promise_of t.world.kind) t (after_turn t turn) turn turns.events tells.visits each

  -- In every run of a container each event at which a recovery comes to an index is right: the recovery began
  -- before the lock.
  run_visits : (t : Trace T) → t.world.kind ≡ kinds.Container → IsReached t → Each VisitsRight t.events
  run_visits t of_kind reached =
      (kept_by_runs HasVisited
      (λ u turn free h. (
        reached_more u turn free h.0,
        λ same. turn_visits u turn (sym (turn_making u.world turn).kind ∙ same) free h.0 (h.1 (sym (turn_making u.world turn).kind ∙ same)),
      ))
      t
      (λ queue queued. (
        record { coded = reached.coded; admitted = reached.admitted; queue = queue; queued = queued; turns = []; is = refl },
        λ same. Each-nil VisitsRight,
      ))
      reached).1 of_kind

  -- ---- as the headline says it

  -- The recovery by which an event may stand in its party's span was under way.
  open_recovery : (Stands : Span T → Type 0) → (Stands Never → ⊥)
      → ((start : Start T) (answer : Answer T) (wrote : List (Event T)) → Stands (Ended start answer wrote) → ⊥)
      → (owner : ℕ) (mode : ReleaseMode) (span : Span T) → Stands span → call_in span ≡ Some (Container (Recover owner mode)) → IsRecovery span
  open_recovery Stands never ended owner mode Never stands call = absurd (never stands)
  open_recovery Stands never ended owner mode (Open start wrote) stands call =
      let start_is : start ≡ Container (Recover owner mode) = cc in
      rw start_is tt
  open_recovery Stands never ended owner mode (Ended start answer wrote) stands call = absurd (ended start answer wrote stands)

  -- where a recovery comes to an index, the container was unlocked at a moment of that call
  pub visits_unlocked : (t : Trace T) → t.world.kind ≡ kinds.Container → IsReached t → IsKeptBy container_promises.promise t
      → (p owner : ℕ) (mode : ReleaseMode) (e : Event T) (before : List (Event T)) → IsVisit p e → Follows e before t.events
      → call_in (span_of p before) ≡ Some (Container (Recover owner mode))
      → HeldSometime p IsUnlocked before
  visits_unlocked t of_kind reached kept p owner mode (Copied q index value) before its follows call =
      let here : call_in (span_of q before) ≡ Some (Container (Recover owner mode)) = rw its call in
      rw (← its) (run_visits t of_kind reached before follows.0 (Copied q index value) follows.1
      (open_recovery (may_stand (Copied q index value)) (λ h. h) (λ start answer wrote h. h) owner mode (span_of q before)
      (kept.spans before follows.0 (Copied q index value) follows.1) here))
  visits_unlocked t of_kind reached kept p owner mode (Shown q index) before its follows call =
      let here : call_in (span_of q before) ≡ Some (Container (Recover owner mode)) = rw its call in
      rw (← its) (run_visits t of_kind reached before follows.0 (Shown q index) follows.1
      (open_recovery (may_stand (Shown q index)) (λ h. h) (λ start answer wrote h. h) owner mode (span_of q before)
      (kept.spans before follows.0 (Shown q index) follows.1) here))
  visits_unlocked t of_kind reached kept p owner mode (FreedOf q index of) before its follows call =
      let here : call_in (span_of q before) ≡ Some (Container (Recover owner mode)) = rw its call in
      rw (← its) (run_visits t of_kind reached before follows.0 (FreedOf q index of) follows.1
      (open_recovery (may_stand (FreedOf q index of)) (λ h. h) (λ start answer wrote h. h) owner mode (span_of q before)
      (kept.spans before follows.0 (FreedOf q index of) follows.1) here))
  visits_unlocked t of_kind reached kept p owner mode e before its follows call = absurd its
