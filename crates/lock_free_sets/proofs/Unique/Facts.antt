-- What contracts say of whole calls on a unique index set, from what their driver knows once they have ended.
use Rattle.lock_free_sets.proofs.Names.{◌≡◌, ⊎_elim, ℕ, ◌+◌, ◌<◌, ◌≤◌, ◌==◌, Bool, true, false, Some, None, Ok}
use Rattle.lock_free_sets.proofs.Names.{List, [], ◌∷◌, ◌++◌, refl, sym, ap, subst, ◌∙◌, append_assoc, arith, cases_lt}
use Rattle.lock_free_sets.proofs.Names.{nat_tests, sum_by-append, Acquired, ReleaseState, Locked, Unlocked}
use Rattle.lock_free_sets.proofs.Names.{Answer, Index, NoIndex, State, Number, Truth, Event, Begun, Claimed, Freed, Finished}
use Rattle.lock_free_sets.proofs.Names.{Indices, one_word, IsAll, View, claims, frees, Holds, IsHistory, IsOfParties, Called}
use Rattle.lock_free_sets.proofs.Names.{takes_index, gives_index, given_by, gives_or_locks, counts_out}
use Rattle.lock_free_sets.proofs.Names.{looks_locked, Calling, Ends, joined_view, Looks, held_by, holds_once}
use Rattle.std.proofs.Common.{sum_by}
use Rattle.steps.specs.declared.indices.enums.ReleaseMode.TheVariants as modes
use Rattle.steps.specs.declared.indices.enums.UniqueIndexSetAcquireFailure.TheVariants.{OutOfIndices}
use Rattle.model.specs.declared.families.indices.IndexStart.{IndexStart}
use Rattle.model.specs.declared.families.indices.IndexStart.TheVariants.{Acquire, Release, BorrowedIndices, IsLocked}
use Rattle.model.specs.declared.turn.Kind.TheVariants as kinds
use Rattle.model.specs.Families.Indices.Calls.{acquire_answer}
use Rattle.model.specs.Families.Indices.Promises.{AnswersRight, promise}
use Rattle.model.specs.Families.Indices.Spans.{SetActs, set_acts, done_by}
use Rattle.model.specs.Promises.{IsKeptBy}
use Rattle.model.specs.Promises.Families.{promise_of}
use Rattle.model.specs.Promises.Spans.{Stands}
use Rattle.laws_indices.proofs.Sound.{kept_on, reached_on_sound}
use Rattle.model.specs.Families.Indices.Reading.{holder_of, is_locked}
use Rattle.model.specs.Reading.{Span, Never, Open, Ended, span_of}
use Rattle.history_indices.specs.Indices.{claimed_by}
use Rattle.history.specs.History.{Continues, Knows}
use Rattle.history_indices.proofs.Indices.{is_index_set}
use Rattle.history.proofs.Locks.{not_locked}
use Rattle.history.proofs.OneHolder.{first_wrote}
use Rattle.lock_free_sets.specs.Unique.Held.{HoldsNothing, IsSound}
use Rattle.lock_free_sets.proofs.Ends.{made_by, aside_most}
use Rattle.lock_free_sets.proofs.Unique.Machine.{holds_right, none_held, held_within}
use Rattle.lock_free_sets.specs.UniqueIndexSet.{SetId, capacity_of, set_of, view, IsPassOf, SamePass}
use Rattle.lock_free_sets.specs.declared.mpmc.unique_index_set.Pass.{Pass}
use Rattle.lock_free_sets.specs.declared.mpmc.unique_index_set.UniqueIndexSet.{UniqueIndexSet}
use Rattle.lock_free_sets.specs.Unique.Contracts.{HasTaken, HasGiven, HasGivenOrLocked, HasCounted, HasLooked, WasFree, Answered}

-- what a pass freed it had claimed, it holds each index once, each below the capacity, and none once it has seen the lock
pub sound : (capacity : ℕ) (v : View ℕ) → v.capacity ≡ capacity → IsHistory one_word kinds.Indices capacity v.seen → IsOfParties v → IsSound v
sound capacity v same history parties =
    let once = λ (i : ℕ). holds_once history.trace.world.capacity i v (holds_right capacity v.seen history) parties in
    record {
      least = λ i. (once i).0;
      once = λ i. (once i).1;
      within = λ i holds. within i holds;
      lock = λ shut i. nothing i (once i) (none_held capacity v.seen history shut i);
    }
  where
    -- An index that the pass holds has a party of the pass as its holder.
    by : (i : ℕ) → Holds i v.made → (p : ℕ) × (parties.owner p ≡ parties.seat) × (holder_of i v.seen ≡ Some p)
    by i holds = held_by parties.owner parties.seat history.trace.world.capacity i v.seen v.made (holds_right capacity v.seen history) parties.sums holds

    -- An index that the pass holds is below the capacity.
    within : (i : ℕ) → Holds i v.made → i < v.capacity
    within i holds = subst (λ n. i < n) (sym same) (held_within capacity v.seen history i (by i holds).0 (by i holds).2)

    -- An index that has no holder in what the pass has seen is freed as often as claimed in
    -- what the pass made.
    nothing : (i : ℕ) → (sum_by (frees i) v.made ≤ sum_by (claims i) v.made) × (sum_by (claims i) v.made ≤ sum_by (frees i) v.made + 1)
        → holder_of i v.seen ≡ None → 0 + sum_by (frees i) v.made ≡ sum_by (claims i) v.made
    nothing i both none = ⊎_elim holds_it (λ less. (let low = both.0 in omega arith)) (cases_lt (sum_by (frees i) v.made) (sum_by (claims i) v.made))
      where
        -- An index that the pass claimed more often than it freed has a holder, which was ruled out.
        holds_it : sum_by (frees i) v.made < sum_by (claims i) v.made → 0 + sum_by (frees i) v.made ≡ sum_by (claims i) v.made
        holds_it more =
            let high = both.1 in
            let is = (by i (omega arith)).2 in
            absurd (cc)

-- A call that has ended leaves its pass sound.
pub sound_after : {C M E : Type 0} {call : Calling ℕ C M E} {base w : View ℕ} {e : E} {m : M} → Ends one_word kinds.Indices call base e m w → IsSound w
sound_after {base = base} {w = w} ends = sound base.capacity w ends.capacity ends.history ends.parties

-- a share makes no difference
pub sound_same : (v w : View ℕ) → w.capacity ≡ v.capacity → w.seen ≡ v.seen → w.made ≡ v.made → IsSound v → IsSound w
sound_same v w size seen made is_sound =
    record {
      least = subst (λ es. (i : ℕ) → sum_by (frees i) es ≤ sum_by (claims i) es) (sym made) is_sound.least;
      once = subst (λ es. (i : ℕ) → sum_by (claims i) es ≤ sum_by (frees i) es + 1) (sym made) is_sound.once;
      within = λ i holds. subst (λ n. i < n) (sym size) (is_sound.within i (subst (Holds i) made holds));
      lock = λ shut. subst HoldsNothing (sym made) (is_sound.lock (sym (ap is_locked seen) ∙ shut));
    }

-- ---- calls

-- the last answer, and what stood before it
module _ (base w : View ℕ) (same : w.capacity ≡ base.capacity) (h : IsHistory one_word kinds.Indices base.capacity w.seen) where
  module _ (p : ℕ) (start : IndexStart) (answer : Answer ℕ) (wrote : List (Event ℕ)) (c : Called p (Indices start) answer wrote base w) where
    -- What was seen before the end of the call.
    abbrev before : List (Event ℕ)
    before = (base.seen ++ c.others) ++ Begun p (Indices start) ∷ c.during

    -- The end of the call.
    abbrev last : Event ℕ
    last = Finished p (Indices start) answer

    -- The end of the call was seen last.
    is_last : w.seen ≡ before ++ last ∷ []
    is_last = grind (arith, append_assoc)

    -- The machine's events end with it.
    at_end : h.trace.events ≡ before ++ last ∷ []
    at_end = sym h.is ∙ is_last

    -- a call that has ended has answered right by what came before its end
    pub answered_by : Answered start answer base w
    answered_by =
        record {
          by = p;
          before = before;
          is = is_last;
          since = record { rest = c.others ++ Begun p (Indices start) ∷ c.during; is = append_assoc base.seen c.others (Begun p (Indices start) ∷ c.during) };
          right =
              subst (λ n. AnswersRight n before last) (h.run.sized ∙ sym same)
              ((is_index_set h.trace h.run.of_kind h.run.reached).answers before [] last at_end);
        }

    -- the answer is one that this call can give
    pub fits_call : (done : SetActs) × (done_by start answer ≡ Some done)
    fits_call =
        let kept = subst (λ P. IsKeptBy P h.trace) (ap (promise_of {T = ℕ}) h.run.of_kind) (kept_on h.trace h.run.of_kind h.run.reached) in
        go (span_of p before) (kept.spans before [] last at_end)
      where
        -- the cases are the spans that the party can have in the history
        go : (span : Span ℕ) → Stands promise h.trace.world.capacity last span → (done : SetActs) × (done_by start answer ≡ Some done)
        go Never stands = absurd stands
        go (Open call es) stands = (set_acts es, stands.1)
        go (Ended call other es) stands = absurd stands

  -- no more indices are counted as in use than there are
  pub at_most : (p number : ℕ) (wrote : List (Event ℕ)) → Called p (Indices BorrowedIndices) (Number number) wrote base w → number ≤ base.capacity
  at_most p number wrote c =
      let few =
      (reached_on_sound h.trace h.run.of_kind h.run.reached).holds.answers
      (before p BorrowedIndices (Number number) wrote c) [] (last p BorrowedIndices (Number number) wrote c)
      (at_end p BorrowedIndices (Number number) wrote c) in
      subst (λ n. number ≤ n) h.run.sized few.1

  -- who found none left found no lock
  pub open_still : (p : ℕ) (wrote : List (Event ℕ)) → Called p (Indices Acquire) (NoIndex OutOfIndices) wrote base w → is_locked base.seen ≡ false
  open_still p wrote c =
      let few =
      (reached_on_sound h.trace h.run.of_kind h.run.reached).holds.answers
      (before p Acquire (NoIndex OutOfIndices) wrote c) [] (last p Acquire (NoIndex OutOfIndices) wrote c)
      (at_end p Acquire (NoIndex OutOfIndices) wrote c) in
      not_locked (record {
        rest = c.others ++ Begun p (Indices Acquire) ∷ c.during;
        is = append_assoc base.seen c.others (Begun p (Indices Acquire) ∷ c.during);
      }) few.1

-- A release in the mode that does not lock answers Unlocked.
never_locks : (index : ℕ) (state : ReleaseState) (done : SetActs) → done_by {T = ℕ} (Release index modes.Default) (State state) ≡ Some done → state ≡ Unlocked
never_locks index Unlocked done e = refl
never_locks index Locked done e = absurd (cc)

module _ {base w : View ℕ} {m : Unit {0}} (idle : base.going ≡ None) where
  -- An acquire that has ended is a call of the history with its answer.
  pub taken : {answer : Acquired} → Ends one_word kinds.Indices takes_index base answer m w → HasTaken answer base w
  taken {answer} ends = made_by ends idle (λ by. claimed_by by answer) ends.tells

  module _ {i : ℕ} (ends : Ends one_word kinds.Indices takes_index base (Ok i) m w) where
    -- an index that was acquired had no holder at its claim, it lies below the capacity, and the
    -- set was not locked
    pub free : WasFree i base w
    free =
        let p = (taken ends).by in
        let c : Called p (Indices Acquire) (Index i) (Claimed p i ∷ []) base w = (taken ends).called in
        let at = first_wrote p (Indices Acquire) (Index i) (Claimed p i) [] base w c in
        let h = ends.history in
        let right = holds_right base.capacity w.seen h at.before at.after (Claimed p i) at.is in
        record {
          by = p;
          before = at.before;
          after = at.after;
          is = at.is;
          since = at.since;
          within = subst (λ n. i < n) (h.run.sized ∙ sym ends.capacity) right.0;
          free = right.1;
          unlocked = right.2;
        }

    -- Behind an acquire of an index the pass holds this index.
    pub holds : IsSound base → Holds i w.made
    holds was =
        let p = (taken ends).by in
        let c : Called p (Indices Acquire) (Index i) (Claimed p i ∷ []) base w = (taken ends).called in
        -- The call adds one claim of the index to what the pass made, and no free.
        let more : List (Event ℕ) = Begun p (Indices Acquire) ∷ (Claimed p i ∷ Finished p (Indices Acquire) (Index i) ∷ []) in
        let it : (i == i) ≡ true = grind (arith, nat_tests) in
        let one : sum_by (claims i) more ≡ 1 = rw it refl in
        let none : sum_by (frees i) more ≡ 0 = refl in
        let a : sum_by (claims i) w.made ≡ sum_by (claims i) base.made + sum_by (claims i) more =
        ap (sum_by (claims i)) c.made ∙ sum_by-append (claims i) base.made more in
        let b : sum_by (frees i) w.made ≡ sum_by (frees i) base.made + sum_by (frees i) more =
        ap (sum_by (frees i)) c.made ∙ sum_by-append (frees i) base.made more in
        let before = was.least i in
        let after = (sound base.capacity w ends.capacity ends.history ends.parties).once i in
        omega arith

  -- An acquire answers right by what came before its end.
  pub taken_answered : {answer : Acquired} → Ends one_word kinds.Indices takes_index base answer m w → Answered Acquire (acquire_answer answer) base w
  taken_answered {answer} ends = let t = taken ends in
      answered_by base w ends.capacity ends.history t.by Acquire (acquire_answer answer) (claimed_by t.by answer) t.called

  -- A release that has ended is a call of the history, which frees its index.
  pub given : {index : ℕ} {state : ReleaseState} → Ends one_word kinds.Indices (gives_index index) base state m w → HasGiven index state base w
  given {index} ends = made_by ends idle (λ by. Freed by index ∷ []) (ends.tells idle)

  -- A release that may lock, and has ended, is a call of the history with its answer.
  pub given_or_locked : {index : ℕ} {state : ReleaseState}
      → Ends one_word kinds.Indices (gives_or_locks index) base state m w → HasGivenOrLocked index state base w
  given_or_locked {index} {state} ends = made_by ends idle (λ by. given_by by index state) (ends.tells idle)

  -- A count of the borrowed indices that has ended is a call of the history.
  pub counted : {n : ℕ} → Ends one_word kinds.Indices counts_out base n m w → HasCounted n base w
  counted ends = made_by ends idle (λ by. []) ends.tells

  -- A call of `is_locked` that has ended is a call of the history.
  pub looked : {b : Bool} → Ends one_word kinds.Indices looks_locked base b m w → HasLooked b base w
  looked ends = made_by ends idle (λ by. []) ends.tells

  -- A release that may not lock answers Unlocked.
  pub unlocked : {index : ℕ} {state : ReleaseState} → Ends one_word kinds.Indices (gives_index index) base state m w → state ≡ Unlocked
  unlocked {index} {state} ends =
      let g = given ends in
      let fits = fits_call base w ends.capacity ends.history g.by (Release index modes.Default) (State state) (Freed g.by index ∷ []) g.called in
      never_locks index state fits.0 fits.1

  -- a release that may lock has answered right by what came before its end
  pub locked_answered : {index : ℕ} {state : ReleaseState}
      → Ends one_word kinds.Indices (gives_or_locks index) base state m w
      → Answered (Release index modes.LockIfLastIndex) (State state) base w
  locked_answered {index} {state} ends = let g = given_or_locked ends in
      answered_by base w ends.capacity ends.history g.by (Release index modes.LockIfLastIndex) (State state)
      (given_by g.by index state) g.called

  -- A count of the borrowed indices is right by what came before its end.
  pub counted_answered : {n : ℕ} → Ends one_word kinds.Indices counts_out base n m w → Answered BorrowedIndices (Number n) base w
  counted_answered {n} ends = let g = counted ends in answered_by base w ends.capacity ends.history g.by BorrowedIndices (Number n) [] g.called

  -- A count of the borrowed indices is at most the capacity.
  pub counted_most : {n : ℕ} → Ends one_word kinds.Indices counts_out base n m w → n ≤ base.capacity
  counted_most {n} ends = let g = counted ends in at_most base w ends.capacity ends.history g.by n [] g.called

  -- A call of `is_locked` answers right by what came before its end.
  pub looked_answered : {b : Bool} → Ends one_word kinds.Indices looks_locked base b m w → Answered IsLocked (Truth b) base w
  looked_answered {b} ends = let g = looked ends in answered_by base w ends.capacity ends.history g.by IsLocked (Truth b) [] g.called

-- Two passes of one set hold no index in common, as a look of the joined pass shows.
pub apart : (v other w : View ℕ) (i : ℕ)
    → Looks one_word kinds.Indices (joined_view v other).capacity (joined_view v other) w → Holds i v.made
    → Holds i other.made → ⊥
apart v other w i looks mine theirs =
    let one = (sound (joined_view v other).capacity w looks.capacity looks.history looks.parties).once i in
    let a : sum_by (claims i) w.made ≡ sum_by (claims i) v.made + sum_by (claims i) other.made =
    ap (sum_by (claims i)) looks.made ∙ sum_by-append (claims i) v.made other.made in
    let b : sum_by (frees i) w.made ≡ sum_by (frees i) v.made + sum_by (frees i) other.made =
    ap (sum_by (frees i)) looks.made ∙ sum_by-append (frees i) v.made other.made in
    absurd (omega arith)

-- a pass of a set has its capacity
pub same_size : (set : UniqueIndexSet) (pass : Pass) → IsPassOf set pass → (view pass).capacity ≡ capacity_of set
same_size set pass of = pass.known ∙ ap (λ (z : SetId). z.capacity) of

-- a pass that a call has left knows a run
pub knows_still : {size : ℕ} {base w : View ℕ} → base.capacity ≡ size → Continues one_word kinds.Indices base.capacity base w
    → Knows one_word kinds.Indices size w
knows_still {w = w} known ran = subst (λ n. Knows one_word kinds.Indices n w) known ran.knows

-- what a call leaves of a pass
pub same_pass : {C M E : Type 0} {call : Calling ℕ C M E} {old new : Pass} {e : E} {m : M} → set_of new ≡ set_of old
    → Ends one_word kinds.Indices call (view old) e m (view new) → SamePass old new
same_pass {old = old} {new = new} set ends =
    record {
      set = set;
      share = ends.share;
      sound = sound_after ends;
      first = ends.ran.first;
      aside = aside_most ends.aside;
      all = λ whole. ends.all (subst IsAll ends.share whole);
    }
