-- Whoever is answered an index is its only holder, by begins and ends of calls alone: what goes along with each event.
use Rattle.std.proofs.Common.{◌≡◌, ◌<◌, ◌⊎◌, ⊎_elim, inl, inr, ℕ, ◌==◌, Bool, true, false, Some, None, List, [], ◌∷◌, ◌++◌}
use Rattle.std.proofs.Common.{if◌then◌else◌, refl, sym, ap, subst, ◌∙◌, append_assoc, append-nil}
use Rattle.std.proofs.lemmas.List.Sums.{fold_push}
use Rattle.steps.specs.declared.indices.enums.ReleaseMode.{ReleaseMode}
use Rattle.steps.specs.declared.indices.enums.ReleaseMode.TheVariants.{LockIfLastIndex}
use Rattle.steps.specs.declared.indices.enums.ReleaseState.TheVariants as states
use Rattle.model.specs.declared.event.Answer.TheVariants.{Index, State}
use Rattle.model.specs.declared.event.Event.{Event}
use Rattle.model.specs.declared.event.Event.TheVariants.{Begun, Claimed, Freed, Locked, Died, Acted, Finished}
use Rattle.model.specs.declared.event.Start.{Start}
use Rattle.model.specs.declared.event.Start.TheVariants.{Indices}
use Rattle.model.specs.declared.families.indices.IndexStart.TheVariants.{Acquire, Release}
use Rattle.model.specs.Families.Indices.Promises.{HoldsRight, AnswersRight, promise, wrote as wrote_by}
use Rattle.model.specs.Families.Indices.Reading as reads
use Rattle.model.specs.Families.Indices.Reading.{holder_of}
use Rattle.model.specs.Families.Indices.Spans.{SetActs, nothing, claimed, set_act, set_acts, may_stand}
use Rattle.model.specs.Promises.Spans.{StandsRight}
use Rattle.model.specs.Reading.{Each, Span, Open, is_party, whose, own_after, span_of}
use Rattle.model.specs.Shape.{IsOpenFor}
use Rattle.model.proofs.Names.{cases_eq}
use Rattle.headline_whole.specs.Answers as answers
use Rattle.headline_whole.specs.Answers.{holder, HoldsAlone}
use Rattle.headline_whole.proofs.Spans.{none_some, same_some, true_false, if_same, if_other, is_none, is_false, is_its, is_not_its}
use Rattle.headline_whole.proofs.Spans.{same_open, opened, never_open, longer_open, span_then}

no_acts : (d : SetActs) → None ≡ Some d → ⊥
no_acts d none = cc

same_acts : (d e : SetActs) → Some d ≡ Some e → d ≡ e
same_acts d e same = cc

no_claim : (i : ℕ) → nothing ≡ claimed i → ⊥
no_claim i e = let h : [] ≡ i ∷ [] = ap (λ (d : SetActs). d.claimed) e in absurd (cc)

module _ {T : Type 0} where
  -- ---- spans

  acquire_release : (i : ℕ) (mode : ReleaseMode) (w v : List (Event T)) (span : Span T)
      → span ≡ Open (Indices Acquire) w → span ≡ Open (Indices (Release i mode)) v → ⊥
  acquire_release i mode w v span a r = cc

  claim_stands : (q j : ℕ) (span : Span T) → may_stand (Claimed q j) span
      → (w : List (Event T)) × (span ≡ Open (Indices Acquire) w) × (set_acts w ≡ nothing)
  claim_stands q j (Open (Indices Acquire) w) h = (w, refl, h)
  claim_stands q j span h = absurd h

  free_stands : (q j : ℕ) (span : Span T) → may_stand (Freed q j) span
      → (mode : ReleaseMode) × (w : List (Event T)) × (span ≡ Open (Indices (Release j mode)) w)
  free_stands q j (Open (Indices (Release i mode)) w) h = (mode, w, ap (λ n. Open (Indices (Release n mode)) w) (sym h.0))
  free_stands q j span h = absurd h

  lock_stands : (q : ℕ) (span : Span T) → may_stand (Locked q) span
      → (i : ℕ) × (w : List (Event T)) × (span ≡ Open (Indices (Release i LockIfLastIndex)) w)
  lock_stands q (Open (Indices (Release i LockIfLastIndex)) w) h = (i, w, refl)
  lock_stands q span h = absurd h

  abbrev claim : ℕ → ℕ → Event T
  claim q j = Claimed q j

  -- what a call that had claimed nothing has claimed is what it claims now
  claimed_now : (w : List (Event T)) (q j i : ℕ) → set_acts w ≡ nothing → set_acts (w ++ Claimed q j ∷ []) ≡ claimed i → j ≡ i
  claimed_now w q j i none said =
      let now : set_act nothing (claim q j) ≡ claimed i =
      ap (λ d. set_act d (claim q j)) (sym none) ∙ (sym (fold_push set_act nothing w (claim q j)) ∙ said) in
      let h : j ∷ [] ≡ i ∷ [] = ap (λ (d : SetActs). d.claimed) now in
      cc

  -- ---- one event more

  after : (i : ℕ) (before : List (Event T)) (e : Event T) → holder_of i (before ++ e ∷ []) ≡ reads.holder_after i (holder_of i before) e
  after i before e = fold_push (reads.holder_after i) None before e

  seen : (i : ℕ) (before : List (Event T)) (e : Event T) → holder i (before ++ e ∷ []) ≡ answers.holder_after i (holder i before) e
  seen i before e = fold_push (answers.holder_after i) None before e

  module _ (c : ℕ) where
    -- What goes along: what an acquire has claimed its party holds by the events, and nobody by the answers; whoever holds an index
    -- by the answers holds it by the events; who releases it holds it by the answers no more; a locked set has no holders; and a
    -- set is locked that is said to be.
    record Goes (past : List (Event T)) : Type 0 where
      pub own : (i p : ℕ) (w : List (Event T)) → span_of p past ≡ Open (Indices Acquire) w → set_acts w ≡ claimed i
          → (holder_of i past ≡ Some p) × (holder i past ≡ None) × (i < c)
      pub held : (i p : ℕ) → holder i past ≡ Some p → holder_of i past ≡ Some p
      pub free : (i p : ℕ) (mode : ReleaseMode) (w : List (Event T)) → span_of p past ≡ Open (Indices (Release i mode)) w
          → holder i past ≡ Some p → ⊥
      pub locked : reads.is_locked past ≡ true → (i : ℕ) → holder_of i past ≡ None
      pub said : answers.is_locked past ≡ true → reads.is_locked past ≡ true

    none_held : (past : List (Event T)) → Goes past → (i : ℕ) → holder_of i past ≡ None → holder i past ≡ None
    none_held past g i none = is_none (holder i past) (λ x h. none_some x (sym none ∙ g.held i x h))

    -- an acquire that ends with an index had claimed it
    answered : (before : List (Event T)) → Goes before → (q j : ℕ)
        → StandsRight promise c before (Finished q (Indices Acquire) (Index j))
        → (holder_of j before ≡ Some q) × (holder j before ≡ None) × (j < c)
    answered before g q j stands =
        let o = opened (Indices Acquire) (wrote_by c (Indices Acquire) (Index j)) (span_of q before) stands in
        let same : claimed j ≡ set_acts o.0 = same_acts (claimed j) (set_acts o.0) o.2 in
        g.own j q o.0 o.1 (sym same)

    module _ (before : List (Event T)) (g : Goes before) where
      -- an event of others leaves who holds what an acquire has claimed
      keep : (e : Event T) → HoldsRight c before e → StandsRight promise c before e → (i p : ℕ) → (whose e ≡ Some p → ⊥)
          → holder_of i before ≡ Some p → holder i before ≡ None
          → (holder_of i (before ++ e ∷ []) ≡ Some p) × (holder i (before ++ e ∷ []) ≡ None)
      keep (Claimed q j) right stands i p other had none = (
        after i before (Claimed q j)
            ∙ (if_other j i (Some q) (holder_of i before)
            (λ same. none_some p (sym (subst (λ n. holder_of n before ≡ None) same right.1) ∙ had)) ∙ had),
        seen i before (Claimed q j) ∙ none,
      )
      keep (Freed q j) right stands i p other had none = (
        after i before (Freed q j)
            ∙ (if_other j i None (holder_of i before)
            (λ same. other (sym (subst (λ n. holder_of n before ≡ Some q) same right) ∙ had)) ∙ had),
        seen i before (Freed q j) ∙ none,
      )
      keep (Finished q (Indices Acquire) (Index j)) right stands i p other had none =
          let its = answered before g q j stands in (
            after i before (Finished q (Indices Acquire) (Index j)) ∙ had,
            seen i before (Finished q (Indices Acquire) (Index j))
                ∙ (if_other j i (Some q) (holder i before)
                (λ same. other (sym (subst (λ n. holder_of n before ≡ Some q) same its.0) ∙ had)) ∙ none),
          )
      keep (Begun q (Indices (Release j mode))) right stands i p other had none = (
        after i before (Begun q (Indices (Release j mode))) ∙ had,
        seen i before (Begun q (Indices (Release j mode)))
            ∙ ⊎_elim (λ same. if_same j i None (holder i before) same) (λ apart. if_other j i None (holder i before) apart ∙ none) (cases_eq j i),
      )
      keep e right stands i p other had none = (after i before e ∙ had, seen i before e ∙ none)

      -- an event of its own
      mine : (e : Event T) → HoldsRight c before e → StandsRight promise c before e → (i p : ℕ) → whose e ≡ Some p
          → (w : List (Event T)) → own_after (span_of p before) e ≡ Open (Indices Acquire) w → set_acts w ≡ claimed i
          → (holder_of i (before ++ e ∷ []) ≡ Some p) × (holder i (before ++ e ∷ []) ≡ None) × (i < c)
      mine (Begun q start) right stands i p its w is said =
          let parts = same_open start (Indices Acquire) [] w is in
          absurd (no_claim i (subst (λ v. set_acts v ≡ claimed i) (sym parts.1) said))
      mine (Finished q start answer) right stands i p its w is said = absurd (never_open (span_of p before) answer (Indices Acquire) w is)
      mine (Claimed q j) right stands i p its w is said =
          let same_party = same_some q p its in
          let at = claim_stands q j (span_of q before) stands in
          let at_p : span_of p before ≡ Open (Indices Acquire) at.0 = subst (λ n. span_of n before ≡ Open (Indices Acquire) at.0) same_party at.1 in
          let l = longer_open (span_of p before) (Claimed q j) (Indices Acquire) w is in
          let parts = same_open (Indices Acquire) (Indices Acquire) at.0 l.0 (sym at_p ∙ l.1) in
          let none : set_acts l.0 ≡ nothing = subst (λ v. set_acts v ≡ nothing) parts.1 at.2 in
          let same : j ≡ i = claimed_now l.0 q j i none (subst (λ v. set_acts v ≡ claimed i) l.2 said) in (
            after i before (Claimed q j) ∙ (if_same j i (Some q) (holder_of i before) same ∙ its),
            seen i before (Claimed q j) ∙ none_held before g i (subst (λ n. holder_of n before ≡ None) same right.1),
            subst (λ n. n < c) same right.0,
          )
      mine (Freed q j) right stands i p its w is said =
          let at = free_stands q j (span_of q before) stands in
          let at_p : span_of p before ≡ Open (Indices (Release j at.0)) at.1 =
          subst (λ n. span_of n before ≡ Open (Indices (Release j at.0)) at.1) (same_some q p its) at.2 in
          let l = longer_open (span_of p before) (Freed q j) (Indices Acquire) w is in
          absurd (acquire_release j at.0 l.0 at.1 (span_of p before) l.1 at_p)
      mine (Locked q) right stands i p its w is said =
          let at = lock_stands q (span_of q before) stands in
          let at_p : span_of p before ≡ Open (Indices (Release at.0 LockIfLastIndex)) at.1 =
          subst (λ n. span_of n before ≡ Open (Indices (Release at.0 LockIfLastIndex)) at.1) (same_some q p its) at.2 in
          let l = longer_open (span_of p before) (Locked q) (Indices Acquire) w is in
          absurd (acquire_release at.0 LockIfLastIndex l.0 at.1 (span_of p before) l.1 at_p)
      mine (Acted q start answer) right stands i p its w is said =
          let l = longer_open (span_of p before) (Acted q start answer) (Indices Acquire) w is in
          let had = g.own i p l.0 l.1
          (sym (fold_push set_act nothing l.0 (Acted q start answer)) ∙ subst (λ v. set_acts v ≡ claimed i) l.2 said) in
          (after i before (Acted q start answer) ∙ had.0, seen i before (Acted q start answer) ∙ had.1, had.2)
      mine (Died o) right stands i p its w is said = absurd (none_some p its)
      mine e right stands i p its w is said = absurd stands

      own_next : (e : Event T) → HoldsRight c before e → StandsRight promise c before e → (i p : ℕ) (w : List (Event T))
          → span_of p (before ++ e ∷ []) ≡ Open (Indices Acquire) w → set_acts w ≡ claimed i
          → (holder_of i (before ++ e ∷ []) ≡ Some p) × (holder i (before ++ e ∷ []) ≡ None) × (i < c)
      own_next e right stands i p w is said = go (is_party p (whose e)) refl (sym (span_then p before e) ∙ is)
        where
          go : (b : Bool) → is_party p (whose e) ≡ b → (if b then own_after (span_of p before) e else span_of p before) ≡ Open (Indices Acquire) w
              → (holder_of i (before ++ e ∷ []) ≡ Some p) × (holder i (before ++ e ∷ []) ≡ None) × (i < c)
          go true t there = mine e right stands i p (is_its p (whose e) t) w there said
          go false t there =
              let had = g.own i p w there said in
              let kept = keep e right stands i p (is_not_its p (whose e) t) had.0 had.1 in
              (kept.0, kept.1, had.2)

      held_next : (e : Event T) → HoldsRight c before e → StandsRight promise c before e → (i x : ℕ)
          → holder i (before ++ e ∷ []) ≡ Some x → holder_of i (before ++ e ∷ []) ≡ Some x
      held_next (Finished q (Indices Acquire) (Index j)) right stands i x h =
          let its = answered before g q j stands in
          let h : (if j == i then Some q else holder i before) ≡ Some x = sym (seen i before (Finished q (Indices Acquire) (Index j))) ∙ h in
          after i before (Finished q (Indices Acquire) (Index j))
          ∙ ⊎_elim (λ same. subst (λ n. holder_of n before ≡ Some q) same its.0 ∙ (sym (if_same j i (Some q) (holder i before) same) ∙ h))
          (λ apart. g.held i x (sym (if_other j i (Some q) (holder i before) apart) ∙ h)) (cases_eq j i)
      held_next (Begun q (Indices (Release j mode))) right stands i x h =
          let h : (if j == i then None else holder i before) ≡ Some x = sym (seen i before (Begun q (Indices (Release j mode)))) ∙ h in
          after i before (Begun q (Indices (Release j mode)))
          ∙ ⊎_elim (λ same. absurd (none_some x (sym (if_same j i None (holder i before) same) ∙ h)))
          (λ apart. g.held i x (sym (if_other j i None (holder i before) apart) ∙ h)) (cases_eq j i)
      held_next (Claimed q j) right stands i x h =
          let had = g.held i x (sym (seen i before (Claimed q j)) ∙ h) in
          after i before (Claimed q j)
          ∙ (if_other j i (Some q) (holder_of i before)
          (λ same. none_some x (sym (subst (λ n. holder_of n before ≡ None) same right.1) ∙ had)) ∙ had)
      held_next (Freed q j) right stands i x h =
          let held : holder i before ≡ Some x = sym (seen i before (Freed q j)) ∙ h in
          let had = g.held i x held in
          let at = free_stands q j (span_of q before) stands in
          after i before (Freed q j)
          ∙ (if_other j i None (holder_of i before)
          (λ same.
          let its : Some q ≡ Some x = sym (subst (λ n. holder_of n before ≡ Some q) same right) ∙ had in
          g.free j q at.0 at.1 at.2 (subst (λ n. holder n before ≡ Some q) (sym same) (held ∙ sym its))) ∙ had)
      held_next e right stands i x h = after i before e ∙ g.held i x (sym (seen i before e) ∙ h)

      -- whoever an event makes a holder is its party
      gained : (e : Event T) (i p : ℕ) → answers.holder_after i (holder i before) e ≡ Some p → (holder i before ≡ Some p) ⊎ (whose e ≡ Some p)
      gained (Finished q (Indices Acquire) (Index j)) i p h =
          ⊎_elim (λ same. inr (sym (if_same j i (Some q) (holder i before) same) ∙ h))
          (λ apart. inl (sym (if_other j i (Some q) (holder i before) apart) ∙ h)) (cases_eq j i)
      gained (Begun q (Indices (Release j mode))) i p h =
          ⊎_elim (λ same. absurd (none_some p (sym (if_same j i None (holder i before) same) ∙ h)))
          (λ apart. inl (sym (if_other j i None (holder i before) apart) ∙ h)) (cases_eq j i)
      gained e i p h = inl h

      freeing : (e : Event T) (i p : ℕ) (mode : ReleaseMode) (w : List (Event T)) → own_after (span_of p before) e ≡ Open (Indices (Release i mode)) w
          → holder i (before ++ e ∷ []) ≡ Some p → ⊥
      freeing (Begun q start) i p mode w is h =
          let parts = same_open start (Indices (Release i mode)) [] w is in
          let now : (if i == i then None else holder i before) ≡ Some p =
          subst (λ s. answers.holder_after i (holder i before) (Begun q s) ≡ Some p) parts.0 (sym (seen i before (Begun q start)) ∙ h) in
          none_some p (sym (if_same i i None (holder i before) refl) ∙ now)
      freeing (Finished q start answer) i p mode w is h = never_open (span_of p before) answer (Indices (Release i mode)) w is
      freeing e i p mode w is h =
          let l = longer_open (span_of p before) e (Indices (Release i mode)) w is in
          g.free i p mode l.0 l.1 (sym (seen i before e) ∙ h)

      free_next : (e : Event T) (i p : ℕ) (mode : ReleaseMode) (w : List (Event T))
          → span_of p (before ++ e ∷ []) ≡ Open (Indices (Release i mode)) w → holder i (before ++ e ∷ []) ≡ Some p → ⊥
      free_next e i p mode w is h = go (is_party p (whose e)) refl (sym (span_then p before e) ∙ is)
        where
          go : (b : Bool) → is_party p (whose e) ≡ b
              → (if b then own_after (span_of p before) e else span_of p before) ≡ Open (Indices (Release i mode)) w → ⊥
          go true t there = freeing e i p mode w there h
          go false t there =
              ⊎_elim (λ had. g.free i p mode w there had) (λ its. is_not_its p (whose e) t its)
              (gained e i p (sym (seen i before e) ∙ h))

      locks : (e : Event T) → reads.is_locked (before ++ e ∷ []) ≡ reads.locked_after (reads.is_locked before) e
      locks e = fold_push reads.locked_after false before e

      locked_next : (e : Event T) → HoldsRight c before e → reads.is_locked (before ++ e ∷ []) ≡ true → (i : ℕ) → holder_of i (before ++ e ∷ []) ≡ None
      locked_next (Locked q) right locked i = after i before (Locked q) ∙ right.0 i
      locked_next (Claimed q j) right locked i = absurd (true_false (reads.is_locked before) (sym (locks (Claimed q j)) ∙ locked) right.2)
      locked_next (Freed q j) right locked i =
          let none = g.locked (sym (locks (Freed q j)) ∙ locked) i in
          after i before (Freed q j)
          ∙ ⊎_elim (λ same. if_same j i None (holder_of i before) same) (λ apart. if_other j i None (holder_of i before) apart ∙ none) (cases_eq j i)
      locked_next e right locked i = after i before e ∙ g.locked (sym (locks e) ∙ locked) i

      says : (e : Event T) → answers.is_locked (before ++ e ∷ []) ≡ answers.locked_after (answers.is_locked before) e
      says e = fold_push answers.locked_after false before e

      -- no call but a release answers that the set is locked
      locked_said : (q : ℕ) (start : Start T) → AnswersRight c before (Finished q start (State states.Locked))
          → IsOpenFor start (wrote_by c start (State states.Locked)) (span_of q before) → reads.is_locked before ≡ true
      locked_said q (Indices (Release j mode)) right stands = right
      locked_said q (Indices start) right stands =
          absurd (let o = opened (Indices start) (wrote_by c (Indices start) (State states.Locked)) (span_of q before) stands in no_acts (set_acts o.0) o.2)
      locked_said q start right stands = absurd (opened start (wrote_by c start (State states.Locked)) (span_of q before) stands).2

      said_next : (e : Event T) → AnswersRight c before e → StandsRight promise c before e → answers.is_locked (before ++ e ∷ []) ≡ true
          → reads.is_locked (before ++ e ∷ []) ≡ true
      said_next (Finished q start (State states.Locked)) right stands said =
          locks (Finished q start (State states.Locked)) ∙ locked_said q start right stands
      said_next (Locked q) right stands said = locks (Locked q)
      said_next e right stands said = locks e ∙ g.said (sym (says e) ∙ said)

      next : (e : Event T) → HoldsRight c before e → AnswersRight c before e → StandsRight promise c before e → Goes (before ++ e ∷ [])
      next e right answers stands =
          record {
            own = own_next e right stands;
            held = held_next e right stands;
            free = free_next e;
            locked = locked_next e right;
            said = said_next e answers stands;
          }

    -- ---- all events

    module _ (events : List (Event T)) (holds : Each (HoldsRight c) events) (right : Each (AnswersRight c) events)
        (stands : Each (StandsRight promise c) events) where
      goes : (es before future : List (Event T)) → events ≡ before ++ (es ++ future) → Goes before → Goes (before ++ es)
      goes [] before future split g = subst Goes (sym (append-nil before)) g
      goes (e ∷ es) before future split g =
          subst Goes (append_assoc before (e ∷ []) es)
          (goes es (before ++ e ∷ []) future (split ∙ sym (append_assoc before (e ∷ []) (es ++ future)))
          (next before g e (holds before (es ++ future) e split) (right before (es ++ future) e split) (stands before (es ++ future) e split)))

      none_yet : Goes []
      none_yet =
          record {
            own = λ i p w is said. absurd (cc);
            held = λ i p h. absurd (cc);
            free = λ i p mode w is h. absurd (cc);
            locked = λ locked i. absurd (cc);
            said = λ said. absurd (cc);
          }

      pub alone : Each (HoldsAlone c) events
      alone before after_it e is = go e is
        where
          g : Goes before
          g = goes before [] (e ∷ after_it) is none_yet

          go : (e : Event T) → events ≡ before ++ e ∷ after_it → HoldsAlone c before e
          go (Finished q (Indices Acquire) (Index j)) is =
              let its = answered before g q j (stands before after_it (Finished q (Indices Acquire) (Index j)) is) in (
                its.2,
                its.1,
                is_false (answers.is_locked before) (λ said. none_some q (sym (g.locked (g.said said) j) ∙ its.0)),
              )
          go (Finished q (Indices (Release j mode)) (State states.Locked)) is = λ i.
              none_held before g i
              (g.locked (right before after_it (Finished q (Indices (Release j mode)) (State states.Locked)) is) i)
          go e is = tt
