-- The laws of a unique index set's history, from those of its machine: each index is claimed as often as
-- freed, and once more while it has a holder, and a locked set stays empty.
use Rattle.std.proofs.Common.{◌≡◌, ℕ, ◌+◌, ◌≤◌, ◌==◌, Bool, true, false, Option, Some, None, is_some, List, [], ◌∷◌, ◌++◌}
use Rattle.std.proofs.Common.{if◌then◌else◌, refl, sym, ap, subst, ◌∙◌, append_assoc, append-nil, arith, sum_by}
use Rattle.std.proofs.lemmas.List.Sums.{fold-append, sum_by-append, sum_by-cons, sum_by_push}
use Rattle.model.specs.declared.event.Event.{Event}
use Rattle.model.specs.declared.event.Event.TheVariants.{Claimed, Freed, Locked, Finished}
use Rattle.model.specs.declared.event.Start.TheVariants.{Indices}
use Rattle.model.specs.declared.turn.Kind.TheVariants as kinds
use Rattle.model.specs.Coding.{Coding}
use Rattle.model.specs.Families.Indices.Promises.{HoldsRight, AnswersRight, IsIndexSet, promise}
use Rattle.model.specs.Families.Indices.Reading.{holder_after, holder_of, locked_after, is_locked, tally_of}
use Rattle.model.specs.Families.Indices.Spans.{set_acts, done_by}
use Rattle.model.specs.Promises.{IsKeptBy}
use Rattle.model.specs.Promises.Families.{promise_of}
use Rattle.model.specs.Promises.Spans.{StandsRight}
use Rattle.model.specs.Reading.{Each, whose, is_party, span_of}
use Rattle.model.specs.Turns.{one_if}
use Rattle.model.proofs.Locks.{locked_later}
use Rattle.laws_indices.proofs.Sound.{kept_on}
use Rattle.history.specs.Held.{claims, frees, Holds}
use Rattle.history.specs.History.{IsHistory}
use Rattle.history.specs.Known.{own_of, events_by, owned, if_owned}
use Rattle.history.proofs.Numbers.{is_number}
use Rattle.history_bits.proofs.Acts.Ways.{open_for, along}
use Rattle.history.proofs.Held.{held_by}
use Rattle.history_indices.proofs.Indices.{is_index_set}
use Rattle.history_laws.specs.Indices.{held_below, DidAsAnswered, IsSound}
use Rattle.history_laws.proofs.IndicesHeld.{held_is}
use Rattle.history_laws.proofs.IndicesSpans.{IsSince, since_of}
use Rattle.lemmas.proofs.Cases.{by_bool}

-- ---- one event

module _ {T : Type 0} where
  -- 1 where the index has a holder after these events, else 0
  abbrev held_once : ℕ → List (Event T) → ℕ
  held_once i events = one_if (is_some (holder_of i events))

  module _ (c i : ℕ) (before : List (Event T)) where
    -- 1 where the index has a holder after event e, else 0
    abbrev after : Event T → ℕ
    after e = one_if (is_some (holder_after i (holder_of i before) e))

    -- an index is claimed once more than it is freed where it has a holder
    moves : (e : Event T) → HoldsRight c before e → claims i e + held_once i before ≡ frees i e + after e
    moves (Claimed p index) holds_right =
        by_bool (index == i)
        (λ t.
        let none : held_once i before ≡ 0 =
        ap (λ (o : Option ℕ). one_if (is_some o)) (subst (λ n. holder_of n before ≡ None) (is_number index i t) holds_right.1) in
        rw t (omega arith))
        (λ t. rw t refl)
    moves (Freed p index) holds_right =
        by_bool (index == i)
        (λ t.
        let some : held_once i before ≡ 1 =
        ap (λ (o : Option ℕ). one_if (is_some o)) (subst (λ n. holder_of n before ≡ Some p) (is_number index i t) holds_right) in
        rw t (omega arith))
        (λ t. rw t (omega arith))
    moves e holds_right = refl

    -- no index at or behind the capacity is claimed
    behind : c ≤ i → (e : Event T) → HoldsRight c before e → claims i e ≡ 0
    behind past (Claimed p index) holds_right =
        by_bool (index == i)
        (λ t.
        let same : index ≡ i = is_number index i t in
        absurd (omega (arith, holds_right.0)))
        (λ t. rw t refl)
    behind past e holds_right = refl

    -- no index is claimed while the set is locked
    unclaimed : is_locked before ≡ true → (e : Event T) → HoldsRight c before e → claims i e ≡ 0
    unclaimed shut (Claimed p index) holds_right = let open_is = holds_right.2 in absurd (cc)
    unclaimed shut e holds_right = refl

    -- nobody holds an index of a set that is locked
    unheld : (is_locked before ≡ true → holder_of i before ≡ None) → (e : Event T) → HoldsRight c before e
        → locked_after (is_locked before) e ≡ true → holder_after i (holder_of i before) e ≡ None
    unheld none (Locked p) holds_right shut = holds_right.0 i
    unheld none (Claimed p index) holds_right shut = let open_is = holds_right.2 in absurd (cc)
    unheld none (Freed p index) holds_right shut = by_bool (index == i) (λ t. rw t refl) (λ t. rw t (none shut))
    unheld none e holds_right shut = none shut

  -- ---- all events

  module _ (c : ℕ) (events : List (Event T)) (each : Each (HoldsRight c) events) where
    -- at each moment at which the set is locked, nobody holds the index
    unheld_there : (i : ℕ) (before after : List (Event T)) → events ≡ before ++ after → is_locked before ≡ true → holder_of i before ≡ None
    unheld_there i before after is =
        along events (λ h. is_locked h ≡ true → holder_of i h ≡ None)
        (λ h rest e at none shut.
        fold-append (holder_after i) None h (e ∷ [])
        ∙ unheld c i h none e (each h rest e at) (sym (fold-append locked_after false h (e ∷ [])) ∙ shut))
        (λ shut. refl) before after is

    -- since the set was locked, the index was never claimed
    unclaimed_since : (i : ℕ) (before es : List (Event T)) → events ≡ before ++ es → is_locked before ≡ true → sum_by (claims i) es ≡ 0
    unclaimed_since i before [] is shut = refl
    unclaimed_since i before (e ∷ es) is shut =
        let later : is_locked (before ++ e ∷ []) ≡ true = locked_later before (e ∷ []) shut in
        omega (
          arith,
          unclaimed_since i (before ++ e ∷ []) es (is ∙ sym (append_assoc before (e ∷ []) es)) later,
          unclaimed c i before shut e (each before es e is),
          sum_by-cons (claims i) e es,
        )

    -- an index was claimed as often as it was freed, and once more if it has a holder
    adds_up : (i : ℕ) → sum_by (claims i) events ≡ sum_by (frees i) events + held_once i events
    adds_up i =
        along events (λ h. sum_by (claims i) h ≡ sum_by (frees i) h + held_once i h)
        (λ h rest e at so. (
        let held : held_once i (h ++ e ∷ []) ≡ one_if (is_some (holder_after i (holder_of i h) e)) =
        ap (λ (o : Option ℕ). one_if (is_some o)) (fold-append (holder_after i) None h (e ∷ [])) in
        omega (arith, sum_by_push (claims i) h e, sum_by_push (frees i) h e, moves c i h e (each h rest e at))))
        refl events [] (sym (append-nil events))

    -- an index at or behind the capacity was never claimed
    none_behind : (i : ℕ) → c ≤ i → sum_by (claims i) events ≡ 0
    none_behind i past =
        along events (λ h. sum_by (claims i) h ≡ 0)
        (λ h rest e at none. (
        omega (arith, sum_by_push (claims i) h e, behind c i h past e (each h rest e at))))
        refl events [] (sym (append-nil events))

  -- the measure of an event counts for a party where the event is the party's
  own_one : (p : ℕ) (f : Event T → ℕ) (e : Event T) (o : Option ℕ)
      → sum_by f (if is_party p o then e ∷ [] else []) ≡ if_owned (λ q. q) p o (f e)
  own_one p f e None = refl
  own_one p f e (Some q) = by_bool (q == p) (λ t. rw t (omega arith)) (λ t. rw t refl)

  -- the sum over a party's events is the sum over all events of what counts for the party
  own_sum : (p : ℕ) (f : Event T → ℕ) (events : List (Event T)) → sum_by f (events_by p events) ≡ sum_by (owned (λ q. q) p f) events
  own_sum p f [] = refl
  own_sum p f (e ∷ es) =
      omega (arith, own_sum p f es, sum_by-append f (own_of p e) (events_by p es), sum_by-cons (owned (λ q. q) p f) e es, own_one p f e (whose e))

-- ---- the laws

module _ {T : Type 0} (code : Coding T) (capacity : ℕ) (events : List (Event T)) (h : IsHistory code kinds.Indices capacity events) where
  -- the machine of the history is one of a unique index set, with its laws
  machine : IsIndexSet h.trace
  machine = is_index_set h.trace h.run.of_kind h.run.reached

  -- each event claims, frees and locks as it may
  holds : Each (HoldsRight capacity) events
  holds =
      subst (λ n. Each (HoldsRight n) events) h.run.sized
      (subst (Each (HoldsRight h.trace.world.capacity)) (sym h.is) machine.holds)

  -- each answer fits the set as it was at the last step of its call
  answers : Each (AnswersRight capacity) events
  answers =
      subst (λ n. Each (AnswersRight n) events) h.run.sized
      (subst (Each (AnswersRight h.trace.world.capacity)) (sym h.is) machine.answers)

  -- each event comes where its party's call stands for it
  spans : Each (StandsRight promise h.trace.world.capacity) events
  spans =
      let kept : IsKeptBy promise h.trace =
      subst (λ P. IsKeptBy P h.trace) (ap (promise_of {T = T}) h.run.of_kind) (kept_on h.trace h.run.of_kind h.run.reached) in
      subst (Each (StandsRight promise h.trace.world.capacity)) (sym h.is) kept.spans

  -- a call that ends did to the set what it answers
  did_so : (before : List (Event T)) (e : Event T) → StandsRight promise h.trace.world.capacity before e → DidAsAnswered before e
  did_so before (Finished p (Indices start) answer) right =
      let under = open_for (Indices start) (λ wrote. done_by start answer ≡ Some (set_acts wrote)) (span_of p before) right in
      let since_now : IsSince p (Indices start) under.wrote before = since_of p before (Indices start) under.wrote under.is in
      record {
        before = since_now.before;
        since = since_now.since;
        is = since_now.is;
        within = since_now.within;
        did = under.holds ∙ ap (λ (es : List (Event T)). Some (set_acts es)) (sym since_now.own);
      }
  did_so before e right = tt

  -- a history of a unique index set is sound (`IsSound`)
  pub sound : IsSound capacity events
  sound =
      record {
        holds = holds;
        did = λ before after e is. did_so before e (spans before after e is);
        answers = answers;
      }

  -- in a locked set nobody holds an index
  pub held_none : (before after : List (Event T)) → events ≡ before ++ after → is_locked before ≡ true → (i : ℕ) → holder_of i before ≡ None
  held_none before after is shut i = unheld_there capacity events holds i before after is shut

  -- since the set was locked no index was claimed
  pub claimed_none : (before after : List (Event T)) → events ≡ before ++ after → is_locked before ≡ true → (i : ℕ) → sum_by (claims i) after ≡ 0
  claimed_none before after is shut i = unclaimed_since capacity events holds i before after is shut

  -- each index was claimed as often as it was freed, and once more if somebody holds it
  pub conserved : (i : ℕ) → sum_by (claims i) events ≡ sum_by (frees i) events + one_if (is_some (holder_of i events))
  conserved i = adds_up capacity events holds i

  -- no index at or behind the capacity was claimed
  pub within : (i : ℕ) → capacity ≤ i → sum_by (claims i) events ≡ 0
  within i past = none_behind capacity events holds i past

  -- a party that claimed an index once more than it freed it is its holder
  pub sole : (p i : ℕ) → Holds i (events_by p events) → holder_of i events ≡ Some p
  sole p i once =
      let by_this_party = held_by (λ q. q) p capacity i events (events_by p events) holds (λ f. own_sum p f events) once in
      by_this_party.2 ∙ ap Some by_this_party.1

  -- the number that counts as held is that of the indices that somebody holds
  pub counted : (before after : List (Event T)) → events ≡ before ++ after → (tally_of before).held ≡ held_below capacity before
  counted before after is = held_is capacity events holds before after is
