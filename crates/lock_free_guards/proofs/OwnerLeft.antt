-- What a recovery of one owner's indices leaves to him: none of those that he had through the call.
use Rattle.std.proofs.Common.{◌≡◌, ◌≢◌, ◌⊎◌, inl, inr, ⊎_elim, ℕ, ◌==◌, true, Some, List, [], ◌∷◌, ◌++◌, fold}
use Rattle.std.proofs.Common.{sym, ap, ap₂, subst, ◌∙◌, arith, append-nil, append_assoc, true≢false}
use Rattle.std.specs.List.{All}
use Rattle.std.proofs.lemmas.Bool.Decides.{nat_tests}
use Rattle.std.proofs.lemmas.List.{same_from_push}
use Rattle.std.proofs.lemmas.List.Concat.{flat_map-append}
use Rattle.std.proofs.lemmas.List.Elements.{All-head, All-tail}
use Rattle.std.proofs.lemmas.List.Sums.{fold-append}
use Rattle.steps.specs.declared.indices.enums.ReleaseMode.{ReleaseMode}
use Rattle.steps.specs.declared.indices.enums.ReleaseState.{ReleaseState}
use Rattle.steps.specs.declared.indices.enums.ReleaseState.TheVariants as states
use Rattle.model.specs.declared.event.Answer.TheVariants.{State}
use Rattle.model.specs.declared.event.Event.{Event}
use Rattle.model.specs.declared.event.Event.TheVariants.{Begun, Locked, Finished}
use Rattle.model.specs.declared.event.Start.{Start}
use Rattle.model.specs.declared.event.Start.TheVariants.{Robust}
use Rattle.model.specs.declared.families.indices.robust.RobustStart.TheVariants.{Recover}
use Rattle.model.specs.Families.Indices.Robust.Promises.{HeldThroughout, StillToFree}
use Rattle.model.specs.Families.Indices.Robust.Reading.{SetAct, Frees, Asks, Yes, Locks, IsOneOf, filled_of, set_act, set_acts, set_acts_of, wrote_in}
use Rattle.model.specs.Reading.{Open, Span, own_after, span_of}
use Rattle.laws_robust.specs.Gone.{HasRecoveredBy, IsHonest, Word}
use Rattle.history_owners.specs.Robust.{Came, HasAsked, WasTold, HasFreed, HasLocked, Visit, wrote_to, wrote_of, wrote_by}
use Rattle.history.specs.declared.view.View.{View}
use Rattle.history.proofs.CallsIn.{span_since}
use Rattle.lock_free_owners.specs.Robust.Callable.{was_told}
use Rattle.lock_free_owners.specs.Robust.Contracts.{IsRightRecovery}
use Rattle.lock_free_guards.specs.Recovered.{IsToldFor, HasRecoveredOwner, LeavesNone, IsRightOwnerRecovery}

-- ---- one of a list

module _ {A : Type 0} (x : A) where
  -- The empty list has no element.
  none_here : (before after : List A) → ◌≡◌ {A = List A} [] (before ++ x ∷ after) → ⊥
  none_here [] after is = absurd (cc)
  none_here (y ∷ before) after is = absurd (cc)

  -- The empty list has no element.
  not_there : IsOneOf x [] → ⊥
  not_there h = none_here h.before h.after h.is

  -- what stands in two lists one behind the other stands in one of them
  either_at : (xs ys before after : List A) → xs ++ ys ≡ before ++ x ∷ after → IsOneOf x xs ⊎ IsOneOf x ys
  either_at [] ys before after is = inr (record { before = before; after = after; is = is })
  either_at (y ∷ xs) ys [] after is =
      (let same : y ≡ x = cc in inl (record { before = []; after = xs; is = ap (λ (z : A). z ∷ xs) same }))
  either_at (y ∷ xs) ys (z ∷ before) after is =
      let first : y ≡ z = cc in
      let rest : xs ++ ys ≡ before ++ x ∷ after = cc in
      ⊎_elim
      (λ (h : IsOneOf x xs). inl (record { before = y ∷ h.before; after = h.after; is = ap (λ (zs : List A). y ∷ zs) h.is }))
      (λ (h : IsOneOf x ys). inr h)
      (either_at xs ys before after rest)

  -- What stands in two lists, one behind the other, stands in one of them.
  either : (xs ys : List A) → IsOneOf x (xs ++ ys) → IsOneOf x xs ⊎ IsOneOf x ys
  either xs ys h = either_at xs ys h.before h.after h.is

  -- What stands in the first of two lists stands in both together.
  in_front : (xs ys : List A) → IsOneOf x xs → IsOneOf x (xs ++ ys)
  in_front xs ys h =
      record { before = h.before; after = h.after ++ ys; is = ap (λ (zs : List A). zs ++ ys) h.is ∙ append_assoc h.before (x ∷ h.after) ys }

  -- What stands in the second of two lists stands in both together.
  behind : (xs ys : List A) → IsOneOf x ys → IsOneOf x (xs ++ ys)
  behind xs ys h =
      record { before = xs ++ h.before; after = h.after; is = ap (λ (zs : List A). xs ++ zs) h.is ∙ sym (append_assoc xs h.before (x ∷ h.after)) }

  -- what is one of a list is its first item, or one of the rest
  first_or : (y : A) (xs : List A) → IsOneOf x (y ∷ xs) → (y ≡ x) ⊎ IsOneOf x xs
  first_or y xs h = go h.before h.is
    where
      -- the cases are whether something stands before the item in the list
      go : (before : List A) → y ∷ xs ≡ before ++ x ∷ h.after → (y ≡ x) ⊎ IsOneOf x xs
      go [] is = (let same : y ≡ x = cc in inl same)
      go (z ∷ before) is = (let rest : xs ≡ before ++ x ∷ h.after = cc in inr (record { before = before; after = h.after; is = rest }))

-- ---- it said yes about each index of the owner that it asked about

module _ (p index owner : ℕ) where
  -- among these acts of the recovery is a question about the index of the owner; `Answer` says the same of a
  -- yes about it
  abbrev Question : List SetAct → Type 0
  Question acts = IsOneOf (Asks index owner) acts

  abbrev Answer : List SetAct → Type 0
  Answer acts = IsOneOf (Yes index owner) acts

  -- If a question and its yes stand before acts that ask nothing about the index of the owner, and one
  -- of all is about it, then the yes is.
  yes_next : (i o : ℕ) (rest : List SetAct) → (Question rest → ⊥) → Question (Asks i o ∷ Yes i o ∷ rest) → Answer (Asks i o ∷ Yes i o ∷ rest)
  yes_next i o rest no_more question =
      ⊎_elim
      (λ (e : Asks i o ≡ Asks index owner). (
      let same : i ≡ index = cc in
      let his : o ≡ owner = cc in
      record { before = Asks i o ∷ []; after = rest; is = ap₂ (λ (k n : ℕ). Asks i o ∷ Yes k n ∷ rest) same his }))
      (λ (more : Question (Yes i o ∷ rest)). absurd (⊎_elim (λ (e : Yes i o ≡ Asks index owner). differ i o e) no_more
      (first_or (Asks index owner) (Yes i o) rest more)))
      (first_or (Asks index owner) (Asks i o) (Yes i o ∷ rest) question)
    where
      differ : (k n : ℕ) → Yes k n ≡ Asks index owner → ⊥
      differ k n e = absurd (cc)

  -- Where the further acts ask nothing about the index of the owner, a free before them does not either.
  frees_none : (i o : ℕ) (rest : List SetAct) → (Question rest → ⊥) → Question (Frees i o ∷ rest) → ⊥
  frees_none i o rest no_more question =
      ⊎_elim (λ (e : Frees i o ≡ Asks index owner). differ e) no_more (first_or (Asks index owner) (Frees i o) rest question)
    where
      differ : Frees i o ≡ Asks index owner → ⊥
      differ e = absurd (cc)

  -- A lock asks about no index.
  locks_none : Question (Locks ∷ []) → ⊥
  locks_none question = ⊎_elim (λ (e : Locks ≡ Asks index owner). differ e) (not_there (Asks index owner)) (first_or (Asks index owner) Locks [] question)
    where
      differ : Locks ≡ Asks index owner → ⊥
      differ e = absurd (cc)

  -- of one visit, which was told yes just if the owner has the index: if it asked about the index
  -- of the owner, it said yes
  yes_one : (i o : ℕ) (came : Came) → was_told came ≡ (o == owner) → Question (set_acts (wrote_to {T = ℕ} p i o came))
      → Answer (set_acts (wrote_to {T = ℕ} p i o came))
  yes_one i o HasAsked told question =
      ⊎_elim
      (λ (e : Asks i o ≡ Asks index owner). (
      let his : o ≡ owner = cc in
      let tests_same : (o == owner) ≡ true = grind (arith, nat_tests) in
      absurd (true≢false (sym tests_same ∙ sym told))))
      (λ (none : Question []). absurd (not_there (Asks index owner) none))
      (first_or (Asks index owner) (Asks i o) [] question)
  yes_one i o WasTold told question = yes_next i o [] (not_there (Asks index owner)) question
  yes_one i o HasFreed told question = yes_next i o (Frees i o ∷ []) (frees_none i o [] (not_there (Asks index owner))) question
  yes_one i o HasLocked told question = yes_next i o (Frees i o ∷ Locks ∷ []) (frees_none i o (Locks ∷ []) locks_none) question

  -- What the recovery did at these visits.
  abbrev acts : List Visit → List SetAct
  acts visits = set_acts (wrote_by {T = ℕ} p visits)

  -- The acts at one visit come before those at the further visits.
  acts_more : (v : Visit) (visits : List Visit) → acts (v ∷ visits) ≡ set_acts (wrote_of {T = ℕ} p v) ++ acts visits
  acts_more v visits = flat_map-append set_act (wrote_of {T = ℕ} p v) (wrote_by {T = ℕ} p visits)

  -- of all visits: if they asked about the index of the owner, they said yes
  says_yes : (visits : List Visit) → All (IsToldFor owner) visits → Question (acts visits) → Answer (acts visits)
  says_yes [] all question = absurd (not_there (Asks index owner) question)
  says_yes (v ∷ visits) all question =
      subst Answer (sym (acts_more v visits))
      (⊎_elim
      (λ (here : Question (set_acts (wrote_of {T = ℕ} p v))). in_front (Yes index owner) (set_acts (wrote_of {T = ℕ} p v)) (acts visits)
      (yes_one v.index v.owner v.came (All-head (IsToldFor owner) v visits all) here))
      (λ (later : Question (acts visits)). behind (Yes index owner) (set_acts (wrote_of {T = ℕ} p v)) (acts visits)
      (says_yes visits (All-tail (IsToldFor owner) v visits all) later))
      (either (Asks index owner) (set_acts (wrote_of {T = ℕ} p v)) (acts visits) (subst Question (acts_more v visits) question)))

-- ---- what stands before its end

module _ (p : ℕ) (start : Start ℕ) where
  -- what a visit wrote belongs to the call that is under way
  grows_one : (es : List (Event ℕ)) (index owner : ℕ) (came : Came)
      → fold own_after (Open start es) (wrote_to p index owner came) ≡ Open start (es ++ wrote_to p index owner came)
  grows_one es index owner came = grind (arith, append_assoc)

  -- what all visits wrote belongs to the call that is under way
  grows : (es : List (Event ℕ)) (visits : List Visit) → fold own_after (Open start es) (wrote_by p visits) ≡ Open start (es ++ wrote_by p visits)
  grows es [] = ap (Open start) (sym (append-nil es))
  grows es (v ∷ visits) =
      fold-append own_after (Open start es) (wrote_of p v) (wrote_by p visits)
      ∙ (ap (λ (s : Span ℕ). fold own_after s (wrote_by p visits)) (grows_one es v.index v.owner v.came)
      ∙ (grows (es ++ wrote_of p v) visits ∙ ap (Open start) (append_assoc es (wrote_of p v) (wrote_by p visits))))

-- v and w are what the pass knew before the recovery and after it, and q is the party that ended one last.
module _ {owner : ℕ} {mode : ReleaseMode} {state : ReleaseState} {v w : View ℕ} (h : HasRecoveredOwner owner mode state v w) (q : ℕ)
    (before : List (Event ℕ)) (is : w.seen ≡ before ++ Finished q (Robust (Recover mode)) (State state) ∷ []) where
  abbrev start : Start ℕ
  start = Robust (Recover mode)

  -- What the pass has seen ends with the recovery's own end, so `before` is what it had seen, others'
  -- events, and its own from its begin on.
  ends : (before ≡ (v.seen ++ h.called.others) ++ Begun h.by start ∷ h.called.during) × (Finished q start (State state) ≡ Finished h.by start (State state))
  ends =
      same_from_push before ((v.seen ++ h.called.others) ++ Begun h.by start ∷ h.called.during) _ _
      (sym is
      ∙ (h.called.is ∙ sym (append_assoc (v.seen ++ h.called.others) (Begun h.by start ∷ h.called.during) (Finished h.by start (State state) ∷ []))))

  -- The party that ended a recovery last is the one of this recovery.
  by_it : q ≡ h.by
  by_it = (let same : Finished q start (State state) ≡ Finished h.by start (State state) = ends.1 in cc)

  -- The recovery's span in the events before its end has just what its visits wrote.
  spans : span_of h.by before ≡ Open start (wrote_by h.by h.visits)
  spans =
      ap (span_of h.by) ends.0
      ∙ (span_since h.by start (v.seen ++ h.called.others) h.called.during
      ∙ (ap (fold own_after (Open start [])) h.called.during_own ∙ grows h.by start [] h.visits))

  -- What the recovery did in the history is what its visits wrote.
  has_done : set_acts_of q before ≡ set_acts (wrote_by {T = ℕ} h.by h.visits)
  has_done = ap (λ (n : ℕ). set_acts_of n before) by_it ∙ ap (λ (s : Span ℕ). set_acts (wrote_in s)) spans

  -- A recovery that was told of this owner alone, and that is right in the history, leaves
  -- this owner no index.
  pub leaves_none : HasRecoveredBy Word q before → LeavesNone owner q before
  leaves_none right = record { told = told; freed = λ honest index his. freed_or_his index his (gone_too honest index his); gone = gone_too }
    where
      -- The closure said yes about each index that was the owner's through the call, or
      -- until the call freed it.
      told : (index : ℕ) → HeldThroughout q (StillToFree q owner index) before → IsOneOf (Yes index owner) (set_acts_of q before)
      told index his =
          subst (IsOneOf (Yes index owner)) (sym has_done)
          (says_yes h.by index owner h.visits h.told (subst (IsOneOf (Asks index owner)) has_done (right.asked index owner his)))

      -- If nobody acts for an owner who is gone, none of these indices is his by the end.
      gone_too : IsHonest before → (index : ℕ) → HeldThroughout q (StillToFree q owner index) before → filled_of index before ≢ Some owner
      gone_too honest index his = right.gone honest index owner (told index his)

      -- an index that was the owner's through the whole call, until the call freed it, and that is
      -- not his by the end, was freed by the call
      freed_or_his : (index : ℕ) → HeldThroughout q (StillToFree q owner index) before → filled_of index before ≢ Some owner
          → IsOneOf (Frees index owner) (set_acts_of q before)
      freed_or_his index his none =
          ⊎_elim
          (λ (still : filled_of index before ≡ Some owner). absurd (none still))
          (λ (freed : IsOneOf (Frees index owner) (set_acts_of q before)). freed)
          (his before [] (sym (append-nil before)) tt)

-- a recovery that is told of one owner alone and is right answers right for this owner
pub owner_answered : (owner : ℕ) (mode : ReleaseMode) (state : ReleaseState) (v w : View ℕ) → HasRecoveredOwner owner mode state v w
    → IsRightRecovery mode state v w → IsRightOwnerRecovery owner mode state v w
owner_answered owner mode states.Locked v w recovered_owner right_recovery =
    record {
      by = right_recovery.by;
      before = right_recovery.before;
      is = right_recovery.is;
      since = right_recovery.since;
      right = right_recovery.right;
    }
owner_answered owner mode states.Unlocked v w recovered_owner right_recovery =
    record {
      by = right_recovery.by;
      before = right_recovery.before;
      is = right_recovery.is;
      since = right_recovery.since;
      right = (
        right_recovery.right.0,
        leaves_none recovered_owner right_recovery.by right_recovery.before right_recovery.is right_recovery.right.1,
      );
    }
