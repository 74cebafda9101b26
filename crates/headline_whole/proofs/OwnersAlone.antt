-- Whoever is answered an index of a robust set or of a container has it alone, by begins and ends of calls and by frees: what goes
-- along with each event of a well-formed run.
use Rattle.std.proofs.Common.{◌≡◌, ◌<◌, ⊎_elim, ℕ, ◌==◌, Bool, true, false, Option, Some, None, List, [], ◌∷◌, ◌++◌}
use Rattle.std.proofs.Common.{fold, if◌then◌else◌, refl, sym, ap, subst, ◌∙◌, append_assoc, append-nil}
use Rattle.std.proofs.lemmas.List.Sums.{fold-append, fold_push}
use Rattle.std.specs.List.{AllByRecursion}
use Rattle.steps.specs.declared.indices.enums.ReleaseState.TheVariants as states
use Rattle.model.specs.declared.event.Answer.TheVariants.{Index, State}
use Rattle.model.specs.declared.event.Event.{Event}
use Rattle.model.specs.declared.event.Event.TheVariants.{Begun, Granted, FreedOf, Locked, Finished}
use Rattle.model.specs.declared.event.Start.{Start}
use Rattle.model.specs.declared.event.Start.TheVariants.{Robust, Container}
use Rattle.model.specs.declared.families.container.ContainerStart.TheVariants.{Add, Remove}
use Rattle.model.specs.declared.families.indices.robust.RobustStart.TheVariants.{Acquire, Release}
use Rattle.model.specs.Families.Indices.Reading as reads
use Rattle.model.specs.Families.Indices.Robust.Promises.{HoldsRight, SetDoes}
use Rattle.model.specs.Families.Indices.Robust.Reading.{holder_after, holder_of, settled_after, settled_of, without}
use Rattle.model.specs.Reading.{Each}
use Rattle.model.proofs.Names.{cases_eq}
use Rattle.headline_whole.specs.Answers as answers
use Rattle.headline_whole.specs.Answers.{OwnersAlone}
use Rattle.headline_whole.proofs.Spans.{none_some, true_false, if_same, if_other, is_none, is_false}

-- who is left without an owner was there before
was_there : (owner : ℕ) (o : Option ℕ) (x : ℕ) → without owner o ≡ Some x → o ≡ Some x
was_there owner None x is = absurd (none_some x is)
was_there owner (Some other) x is = go (other == owner) is
  where
    go : (b : Bool) → (if b then None else Some other) ≡ Some x → Some other ≡ Some x
    go true is = absurd (none_some x is)
    go false is = is

module _ {T : Type 0} where
  -- the event begins and ends no call, and grants and frees no index
  abbrev pub Quiet : Event T → Type 0
  Quiet (Begun p start) = ⊥
  Quiet (Granted p index owner) = ⊥
  Quiet (FreedOf p index owner) = ⊥
  Quiet (Finished p start answer) = ⊥
  Quiet e = Unit {0}

  pub quiet_holder : (i : ℕ) (es : List (Event T)) (o : Option ℕ) → AllByRecursion Quiet es → fold (holder_after i) o es ≡ o
  quiet_holder i [] o quiet = refl
  quiet_holder i (Granted p index owner ∷ es) o quiet = absurd quiet.0
  quiet_holder i (FreedOf p index owner ∷ es) o quiet = absurd quiet.0
  quiet_holder i (e ∷ es) o quiet = quiet_holder i es o quiet.1

  pub quiet_settled : (i : ℕ) (es : List (Event T)) (o : Option ℕ) → AllByRecursion Quiet es → fold (settled_after i) o es ≡ o
  quiet_settled i [] o quiet = refl
  quiet_settled i (Begun p start ∷ es) o quiet = absurd quiet.0
  quiet_settled i (FreedOf p index owner ∷ es) o quiet = absurd quiet.0
  quiet_settled i (Finished p start answer ∷ es) o quiet = absurd quiet.0
  quiet_settled i (e ∷ es) o quiet = quiet_settled i es o quiet.1

  -- How a call that is answered index i has it for its owner: it was granted the index in the turn in which it ends, or has
  -- held it since, while nobody might give it back.
  pub data Ends (before : List (Event T)) (i owner : ℕ) : Type 0 where
    JustGranted : (part since : List (Event T)) (p : ℕ) → before ≡ part ++ Granted p i owner ∷ since → AllByRecursion Quiet since
        → Ends before i owner
    StillHeld : holder_of i before ≡ Some owner → settled_of i before ≡ None → Ends before i owner

  -- What the kinds show of the ends of calls.
  abbrev pub EndsRight : ℕ → List (Event T) → Event T → Type 0
  EndsRight c before (Finished p (Robust (Acquire owner)) (Index index)) = (index < c) × Ends before index owner
  EndsRight c before (Finished p (Container (Add value owner)) (Index index)) = (index < c) × Ends before index owner
  EndsRight c before (Finished p start (State states.Locked)) = reads.is_locked before ≡ true
  EndsRight c before e = Unit {0}

  locked_said : (c : ℕ) (before : List (Event T)) (p : ℕ) (start : Start T) → EndsRight c before (Finished p start (State states.Locked))
      → reads.is_locked before ≡ true
  locked_said c before p (Robust (Acquire owner)) right = right
  locked_said c before p (Robust start) right = right
  locked_said c before p (Container (Add value owner)) right = right
  locked_said c before p (Container start) right = right
  locked_said c before p start right = right

  -- What goes along: who may give an index back holds it; a locked set has no holders; and a set is locked that is said to be.
  record Goes (past : List (Event T)) : Type 0 where
    pub settled : (i o : ℕ) → settled_of i past ≡ Some o → holder_of i past ≡ Some o
    pub locked : reads.is_locked past ≡ true → (i : ℕ) → holder_of i past ≡ None
    pub said : answers.is_locked past ≡ true → reads.is_locked past ≡ true

  -- it has gone along with each of these events
  abbrev Upto : List (Event T) → Type 0
  Upto past = (part rest : List (Event T)) → past ≡ part ++ rest → Goes part

  holds_then : (i : ℕ) (before : List (Event T)) (e : Event T) → holder_of i (before ++ e ∷ []) ≡ holder_after i (holder_of i before) e
  holds_then i before e = fold_push (holder_after i) None before e

  settles_then : (i : ℕ) (before : List (Event T)) (e : Event T) → settled_of i (before ++ e ∷ []) ≡ settled_after i (settled_of i before) e
  settles_then i before e = fold_push (settled_after i) None before e

  -- a beginning of a list with one event more
  data Begins (before : List (Event T)) (e : Event T) (part : List (Event T)) : Type 0 where
    Whole : part ≡ before ++ e ∷ [] → Begins before e part
    Less : (rest : List (Event T)) → before ≡ part ++ rest → Begins before e part

  begins : (before : List (Event T)) (e : Event T) (part rest : List (Event T)) → before ++ e ∷ [] ≡ part ++ rest → Begins before e part
  begins before e [] rest is = Less before refl
  begins [] e (x ∷ part) rest is = go part (cc) (cc)
    where
      go : (part : List (Event T)) → e ≡ x → [] ≡ part ++ rest → Begins [] e (x ∷ part)
      go [] same none = Whole (ap (λ y. y ∷ []) (sym same))
      go (y ∷ part) same none = absurd (cc)
  begins (y ∷ before) e (x ∷ part) rest is = go (begins before e part rest (cc)) (cc)
    where
      go : Begins before e part → y ≡ x → Begins (y ∷ before) e (x ∷ part)
      go (Whole all) same = Whole (rw (all, same) refl)
      go (Less more less) same = Less more (rw (less, same) refl)

  module _ (c : ℕ) (events : List (Event T)) (does : Each (SetDoes c) events) (holds : Each HoldsRight events) (ends : Each (EndsRight c) events) where
    module _ (before : List (Event T)) (upto : Upto before) where
      g : Goes before
      g = upto before [] (sym (append-nil before))

      -- who is answered an index holds it, and nobody might give it back
      has : (e : Event T) (after : List (Event T)) → events ≡ before ++ e ∷ after → (i o : ℕ) → Ends before i o
          → (holder_of i before ≡ Some o) × (settled_of i before ≡ None)
      has e after split i o (StillHeld held unsettled) = (held, unsettled)
      has e after split i o (JustGranted part since p is quiet) =
          let split_there = split ∙ (ap (λ xs. xs ++ e ∷ after) is ∙ append_assoc part (Granted p i o ∷ since) (e ∷ after)) in
          let none : holder_of i part ≡ None = holds part (since ++ e ∷ after) (Granted p i o) split_there in
          let goes = upto part (Granted p i o ∷ since) is in
          let unsettled = is_none (settled_of i part) (λ x h. none_some x (sym none ∙ goes.settled i x h)) in (
            subst (λ es. holder_of i es ≡ Some o) (sym is)
                (fold-append (holder_after i) None part (Granted p i o ∷ since)
                ∙ (quiet_holder i since (holder_after {T = T} i (holder_of i part) (Granted p i o)) quiet ∙ if_same i i (Some o) (holder_of i part) refl)),
            subst (λ es. settled_of i es ≡ None) (sym is)
                (fold-append (settled_after i) None part (Granted p i o ∷ since) ∙ (quiet_settled i since (settled_of i part) quiet ∙ unsettled)),
          )

      -- an answer of an index settles it for its holder
      settles : (i j o x : ℕ) → holder_of j before ≡ Some o → (if j == i then Some o else settled_of i before) ≡ Some x → holder_of i before ≡ Some x
      settles i j o x held is =
          ⊎_elim (λ same. subst (λ n. holder_of n before ≡ Some o) same held ∙ (sym (if_same j i (Some o) (settled_of i before) same) ∙ is))
          (λ apart. g.settled i x (sym (if_other j i (Some o) (settled_of i before) apart) ∙ is)) (cases_eq j i)

      -- a begin of a release leaves none settled that was not
      takes : (i j o x : ℕ) → (if j == i then without o (settled_of i before) else settled_of i before) ≡ Some x → holder_of i before ≡ Some x
      takes i j o x is =
          ⊎_elim
          (λ same. g.settled i x (was_there o (settled_of i before) x (sym (if_same j i (without o (settled_of i before)) (settled_of i before) same) ∙ is)))
          (λ apart. g.settled i x (sym (if_other j i (without o (settled_of i before)) (settled_of i before) apart) ∙ is)) (cases_eq j i)

      settled_next : (e : Event T) (after : List (Event T)) → events ≡ before ++ e ∷ after → (i x : ℕ)
          → settled_of i (before ++ e ∷ []) ≡ Some x → holder_of i (before ++ e ∷ []) ≡ Some x
      settled_next (Finished p (Robust (Acquire o)) (Index j)) after split i x is =
          let e : Event T = Finished p (Robust (Acquire o)) (Index j) in
          holds_then i before e ∙ settles i j o x (has e after split j o (ends before after e split).1).0 (sym (settles_then i before e) ∙ is)
      settled_next (Finished p (Container (Add value o)) (Index j)) after split i x is =
          let e : Event T = Finished p (Container (Add value o)) (Index j) in
          holds_then i before e ∙ settles i j o x (has e after split j o (ends before after e split).1).0 (sym (settles_then i before e) ∙ is)
      settled_next (Begun p (Robust (Release j o mode))) after split i x is =
          let e : Event T = Begun p (Robust (Release j o mode)) in
          holds_then i before e ∙ takes i j o x (sym (settles_then i before e) ∙ is)
      settled_next (Begun p (Container (Remove j o mode))) after split i x is =
          let e : Event T = Begun p (Container (Remove j o mode)) in
          holds_then i before e ∙ takes i j o x (sym (settles_then i before e) ∙ is)
      settled_next (FreedOf p j o) after split i x is =
          let is : (if j == i then None else settled_of i before) ≡ Some x = sym (settles_then i before (FreedOf p j o)) ∙ is in
          holds_then i before (FreedOf p j o)
          ∙ ⊎_elim (λ same. absurd (none_some x (sym (if_same j i None (settled_of i before) same) ∙ is)))
          (λ apart. if_other j i None (holder_of i before) apart ∙ g.settled i x (sym (if_other j i None (settled_of i before) apart) ∙ is)) (cases_eq j i)
      settled_next (Granted p j o) after split i x is =
          let held = g.settled i x (sym (settles_then i before (Granted p j o)) ∙ is) in
          holds_then i before (Granted p j o)
          ∙ (if_other j i (Some o) (holder_of i before)
          (λ same. none_some x (sym (subst (λ n. holder_of n before ≡ None) same (holds before after (Granted p j o) split)) ∙ held)) ∙ held)
      settled_next e after split i x is = holds_then i before e ∙ g.settled i x (sym (settles_then i before e) ∙ is)

      locks : (e : Event T) → reads.is_locked (before ++ e ∷ []) ≡ reads.locked_after (reads.is_locked before) e
      locks e = fold_push reads.locked_after false before e

      locked_next : (e : Event T) (after : List (Event T)) → events ≡ before ++ e ∷ after → reads.is_locked (before ++ e ∷ []) ≡ true → (i : ℕ)
          → holder_of i (before ++ e ∷ []) ≡ None
      locked_next (Locked p) after split locked i = holds_then i before (Locked p) ∙ holds before after (Locked p) split i
      locked_next (Granted p j o) after split locked i =
          absurd (true_false (reads.is_locked before) (sym (locks (Granted p j o)) ∙ locked) (does before after (Granted p j o) split).0)
      locked_next (FreedOf p j o) after split locked i =
          let none = g.locked (sym (locks (FreedOf p j o)) ∙ locked) i in
          holds_then i before (FreedOf p j o)
          ∙ ⊎_elim (λ same. if_same j i None (holder_of i before) same) (λ apart. if_other j i None (holder_of i before) apart ∙ none) (cases_eq j i)
      locked_next e after split locked i = holds_then i before e ∙ g.locked (sym (locks e) ∙ locked) i

      says : (e : Event T) → answers.is_locked (before ++ e ∷ []) ≡ answers.locked_after (answers.is_locked before) e
      says e = fold_push answers.locked_after false before e

      said_next : (e : Event T) (after : List (Event T)) → events ≡ before ++ e ∷ after → answers.is_locked (before ++ e ∷ []) ≡ true
          → reads.is_locked (before ++ e ∷ []) ≡ true
      said_next (Finished p start (State states.Locked)) after split said =
          locks (Finished p start (State states.Locked))
          ∙ locked_said c before p start (ends before after (Finished p start (State states.Locked)) split)
      said_next (Locked p) after split said = locks (Locked p)
      said_next e after split said = locks e ∙ g.said (sym (says e) ∙ said)

      next : (e : Event T) (after : List (Event T)) → events ≡ before ++ e ∷ after → Upto (before ++ e ∷ [])
      next e after split part rest is = go (begins before e part rest is)
        where
          go : Begins before e part → Goes part
          go (Whole all) =
              subst Goes (sym all) (record { settled = settled_next e after split; locked = locked_next e after split; said = said_next e after split })
          go (Less more less) = upto part more less

    goes : (es before after : List (Event T)) → events ≡ before ++ (es ++ after) → Upto before → Upto (before ++ es)
    goes [] before after split upto = subst Upto (sym (append-nil before)) upto
    goes (e ∷ es) before after split upto =
        subst Upto (append_assoc before (e ∷ []) es)
        (goes es (before ++ e ∷ []) after (split ∙ sym (append_assoc before (e ∷ []) (es ++ after))) (next before upto e (es ++ after) split))

    none_yet : Upto []
    none_yet [] rest is =
        record { settled = λ i o settled. absurd (cc); locked = λ locked i. absurd (cc); said = λ said. absurd (cc) }
    none_yet (e ∷ part) rest is = absurd (cc)

    -- whoever is answered an index has it alone
    pub owners_alone : Each (OwnersAlone c) events
    owners_alone before after e split = go e split
      where
        upto : Upto before
        upto = goes before [] (e ∷ after) split none_yet

        given : (i o : ℕ) → (i < c) × Ends before i o → (i < c) × (settled_of i before ≡ None) × (answers.is_locked before ≡ false)
        given i o end =
            let its = has before upto e after split i o end.1 in (
              end.0,
              its.1,
              is_false (answers.is_locked before)
                  (λ said. none_some o (sym ((g before upto).locked ((g before upto).said said) i) ∙ its.0)),
            )

        none : reads.is_locked before ≡ true → (i : ℕ) → settled_of i before ≡ None
        none locked i =
            is_none (settled_of i before) (λ x h. none_some x (sym ((g before upto).locked locked i) ∙ (g before upto).settled i x h))

        go : (e : Event T) → events ≡ before ++ e ∷ after → OwnersAlone c before e
        go (Finished p (Robust (Acquire o)) (Index i)) split = given i o (ends before after (Finished p (Robust (Acquire o)) (Index i)) split)
        go (Finished p (Container (Add value o)) (Index i)) split =
            given i o (ends before after (Finished p (Container (Add value o)) (Index i)) split)
        go (Finished p start (State states.Locked)) split =
            none (locked_said c before p start (ends before after (Finished p start (State states.Locked)) split))
        go e split = tt
