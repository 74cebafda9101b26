-- What the calls of a sender do to its set, and to the two queues, one after another.
use Rattle.lock_free_sets.proofs.Names.{◌≡◌, ℕ, zero, suc, ◌+◌, ◌≤◌, Bool, true, false, true≢false, cond, if◌then◌else◌}
use Rattle.lock_free_sets.proofs.Names.{List, [], ◌∷◌, ◌++◌, length, Option, Some, None, refl, sym, ap, subst, ◌∙◌, arith}
use Rattle.lock_free_sets.proofs.Names.{append_assoc, append-nil, range_with_len, Start, Answer, Event, Begun}
use Rattle.lock_free_sets.proofs.Names.{Finished, View, Called, IsBeginning, ReleaseState, Unlocked, claims, frees}
use Rattle.std.proofs.Common.{length-append, sum_by}
use Rattle.std.specs.Prelude.{not, is_some, IfNone}
use Rattle.std.specs.Option.{option_map}
use Rattle.std.specs.List.{filter}
use Rattle.std.proofs.lemmas.List.Elements.{filter-append}
use Rattle.model.specs.declared.event.Item.TheVariants.{Index}
use Rattle.history.specs.Passes.{Goes}
use Rattle.history.specs.History.{AreFirst}
use Rattle.history.proofs.OneRun.{first_all, first_further}
use Rattle.history.proofs.Known.{begins_further, itself}
use Rattle.lock_free_queues.specs.Queues.Contracts.{HasPopped, WasEmpty, FoundNone}
use Rattle.lock_free_sets.specs.declared.mpmc.unique_index_set.Pass.{Pass}
use Rattle.lock_free_loans.specs.declared.spsc.loan.places.Place.{Place}
use Rattle.lock_free_sets.specs.UniqueIndexSet.{view, SamePass}
use Rattle.lock_free_sets.specs.Unique.Contracts.{HasGiven}
use Rattle.lock_free_loans.specs.Loan.Places.{is_sent, place_at}
use Rattle.lock_free_loans.specs.Loan.Contracts.{InTurn, HasFreed, HasPoppedOne, HasEmptied, sent_back}
use Rattle.lock_free_sets.specs.Unique.Held.{times}
use Rattle.lock_free_sets.proofs.Unique.Holding.{given_moves, times_both, times_one}
use Rattle.lock_free_sets.proofs.Bits.Cleared.{range_more}

-- one further number, behind those with which `Does` held in turn
pub in_turn_more : (Does : ℕ → View ℕ → View ℕ → Type 0) (xs : List ℕ) (x : ℕ) (old now new : View ℕ)
    → InTurn Does xs old now → Does x now new → InTurn Does (xs ++ x ∷ []) old new
in_turn_more Does [] x old now new same does = (new, subst (λ v. Does x v new) same does, refl)
in_turn_more Does (y ∷ xs) x old now new each does = (each.0, each.1, in_turn_more Does xs x each.0 now new each.2 does)

-- ---- the set

-- what a pass had seen before a call is the beginning of what it has seen behind it
pub begins_before : {p : ℕ} {start : Start ℕ} {answer : Answer ℕ} {wrote : List (Event ℕ)} {old new : View ℕ}
    → Called p start answer wrote old new → IsBeginning old.seen new.seen
begins_before {p} {start} {answer} {wrote} {old} {new} called =
    record {
      rest = called.others ++ Begun p start ∷ (called.during ++ Finished p start answer ∷ []);
      is = called.is ∙ append_assoc old.seen called.others (Begun p start ∷ (called.during ++ Finished p start answer ∷ []));
    }

-- what a call on the set leaves of a pass, together with what the pass has seen since, is a view that goes on
pub set_goes : (old new : Pass) → SamePass old new → IsBeginning (view old).seen (view new).seen → Goes (view old) (view new)
set_goes old new goes since =
    record {
      share = goes.share;
      since = since;
      first = goes.first;
      all = goes.all;
    }

-- a release that answers Unlocked has freed its index, and the view of the pass goes on
pub has_freed : (old new : Pass) (index : ℕ) (state : ReleaseState) → SamePass old new → state ≡ Unlocked
    → HasGiven index state (view old) (view new) → HasFreed index (view old) (view new)
has_freed old new index state goes unlocked given =
    record {
      given = subst (λ s. HasGiven index s (view old) (view new)) unlocked given;
      goes = set_goes old new goes (begins_before given.called);
      aside = goes.aside;
    }

-- what is freed in turn is claimed no more, and freed as often as it stands in the list
pub claims_in_turn : (is : List ℕ) (old new : View ℕ) → InTurn HasFreed is old new → (i : ℕ) → sum_by (claims i) new.made ≡ sum_by (claims i) old.made
claims_in_turn [] old new same i = ap (λ (v : View ℕ). sum_by (claims i) v.made) same
claims_in_turn (x ∷ xs) old new each i =
    omega (arith, (given_moves old each.0 i x Unlocked each.1.given).claimed, claims_in_turn xs each.0 new each.2 i)

-- an index is freed as often as it stands in the list of those that are freed in turn
pub freed_in_turn : (is : List ℕ) (old new : View ℕ) → InTurn HasFreed is old new → (i : ℕ)
    → sum_by (frees i) new.made ≡ sum_by (frees i) old.made + times i is
freed_in_turn [] old new same i =
    let none : times i [] ≡ 0 = refl in
    omega (arith, ap (λ (v : View ℕ). sum_by (frees i) v.made) same)
freed_in_turn (x ∷ xs) old new each i =
    omega (arith, (given_moves old each.0 i x Unlocked each.1.given).freed, freed_in_turn xs each.0 new each.2 i, times_both i (x ∷ []) xs, times_one x i)

-- ---- a value that came back

-- A number behind the table is no sent index.
pub past_the_end : (ps : List Place) (y : ℕ) → length ps ≤ y → is_sent (place_at ps y) ≡ false
past_the_end [] y h = refl
past_the_end (p ∷ ps) zero h = absurd (omega arith)
past_the_end (p ∷ ps) (suc y) h = past_the_end ps y (omega arith)

-- ps is the table, y the value that came back; v and w are what the pass knew before that and after it
module _ (ps : List Place) (y : ℕ) (v w : View ℕ) where
  -- A value that is no sent index frees none.
  pub frees_none : is_sent (place_at ps y) ≡ false → w ≡ v → InTurn HasFreed (sent_back y ps) v w
  frees_none off same =
      subst (λ is. InTurn HasFreed is v w) (sym (ap (λ b. if b then y ∷ [] else []) off)) same

  -- A value that is a sent index frees this index.
  pub frees_it : is_sent (place_at ps y) ≡ true → HasFreed y v w → InTurn HasFreed (sent_back y ps) v w
  frees_it on freed =
      subst (λ is. InTurn HasFreed is v w) (sym (ap (λ b. if b then y ∷ [] else []) on)) (w, freed, refl)

-- ---- all that were sent

-- The indices below i whose places in the table are sent.
abbrev pub sent_below : ℕ → List Place → List ℕ
sent_below i ps = filter (λ j. is_sent (place_at ps j)) (range_with_len 0 i)

module _ (ps : List Place) (i : ℕ) where
  -- the indices below i + 1 that were sent are those below i, and i if it was sent
  next : sent_below (i + 1) ps ≡ sent_below i ps ++ cond (is_sent (place_at ps i)) (i ∷ []) []
  next =
      let same : 0 + i ≡ i = omega arith in
      let more : range_with_len 0 (i + 1) ≡ range_with_len 0 i ++ i ∷ [] =
      subst (λ n. range_with_len 0 (i + 1) ≡ range_with_len 0 i ++ n ∷ []) same (range_more 0 i) in
      ap (filter (λ j. is_sent (place_at ps j))) more
      ∙ filter-append (λ j. is_sent (place_at ps j)) (range_with_len 0 i) (i ∷ [])

  -- with this index, which was sent, all below the next one that were sent are freed in turn
  pub freed_more : (old now new : View ℕ) → is_sent (place_at ps i) ≡ true → InTurn HasFreed (sent_below i ps) old now
      → HasFreed i now new → InTurn HasFreed (sent_below (i + 1) ps) old new
  freed_more old now new on each freed =
      subst (λ is. InTurn HasFreed is old new)
      (sym (next ∙ ap (λ b. sent_below i ps ++ cond b (i ∷ []) []) on))
      (in_turn_more HasFreed (sent_below i ps) i old now new each freed)

  -- where this index was not sent, all below the next one that were sent are freed already
  pub freed_same : (old now : View ℕ) → is_sent (place_at ps i) ≡ false → InTurn HasFreed (sent_below i ps) old now
      → InTurn HasFreed (sent_below (i + 1) ps) old now
  freed_same old now off each =
      subst (λ is. InTurn HasFreed is old now)
      (sym (next ∙ (ap (λ b. sent_below i ps ++ cond b (i ∷ []) []) off ∙ append-nil (sent_below i ps)))) each

-- ---- a queue that is emptied

-- what the pops so far leave of the guard's view: its share, a view that goes on, and
-- which numbers were popped
pub record Popping (old now : View ℕ) : Type 0 where
  pub share : now.share ≡ old.share
  pub since : IsBeginning old.seen now.seen
  pub first : AreFirst old.turns now.turns
  pub numbers : List ℕ
  pub popped : InTurn HasPoppedOne numbers old now
  pub aside : now.aside ≤ old.aside + length numbers

-- Before the first pop nothing was popped.
pub pops_none : (v : View ℕ) → Popping v v
pops_none v =
    record { share = refl; since = itself v.seen; first = first_all v.turns; numbers = []; popped = refl; aside = omega arith }

-- A call pops several numbers one after the other: `before` is what it has popped so far, and the view goes on to `new`.
module _ {old now new : View ℕ} (before : Popping old now) (goes : Goes now new) where
  -- the view goes on from where the pops began
  pub still_goes : Goes old new
  still_goes =
      record {
        share = goes.share ∙ before.share;
        since = begins_further old.seen now.seen new.seen before.since goes.since;
        first = first_further old.turns now.turns new.turns before.first goes.first;
        all = goes.all;
      }

  -- a pop that found a number adds it to those that were taken out
  pub pops_on : (answer : Option ℕ) {none : Bool} → is_some answer ≡ not none → none ≡ false
      → HasPopped (option_map Index answer) now new → new.aside ≤ now.aside + 1 → Popping old new
  pops_on None is off popped once = absurd (true≢false (sym (is ∙ ap not off)))
  pops_on (Some x) is off popped once =
      record {
        share = still_goes.share;
        since = still_goes.since;
        first = still_goes.first;
        numbers = before.numbers ++ x ∷ [];
        popped = in_turn_more HasPoppedOne before.numbers x old now new before.popped popped;
        aside = omega (arith, before.aside, length-append before.numbers (x ∷ []));
      }

module _ {old now new : View ℕ} (before : Popping old now) where
  -- a pop that found none ends the pops: the queue is emptied
  pub is_emptied : (answer : Option ℕ) {none : Bool} → is_some answer ≡ not none → none ≡ true
      → HasPopped (option_map Index answer) now new → IfNone answer (FoundNone now new) → new.aside ≤ now.aside + 1 → HasEmptied old new
  is_emptied None is on popped found once =
      record {
        numbers = before.numbers;
        last = now;
        popped = before.popped;
        none = popped;
        empty = found;
        aside = omega (arith, before.aside);
      }
  is_emptied (Some x) is on popped found once = absurd (true≢false (is ∙ ap not on))

-- What was seen before pops in turn is the beginning of what is seen behind them.
in_turn_since : (xs : List ℕ) (old new : View ℕ) → InTurn HasPoppedOne xs old new → IsBeginning old.seen new.seen
in_turn_since [] old new same = subst (λ (v : View ℕ). IsBeginning old.seen v.seen) (sym same) (itself old.seen)
in_turn_since (x ∷ xs) old new each =
    begins_further old.seen each.0.seen new.seen (begins_before each.1.called) (in_turn_since xs each.0 new each.2)

-- a queue that was emptied had nothing waiting since
pub emptied_once : (old new : View ℕ) → HasEmptied old new → FoundNone old new
emptied_once old new emptied =
    let found = emptied.empty in
    record {
      by = found.by;
      before = found.before;
      after = found.after;
      is = found.is;
      since = begins_further old.seen emptied.last.seen found.before (in_turn_since emptied.numbers old emptied.last emptied.popped) found.since;
      empty = found.empty;
    }

-- A pop that met an empty queue found none.
pub none_waited : (answer : Option ℕ) (v w : View ℕ) → IfNone answer (WasEmpty v w) → IfNone answer (FoundNone v w)
none_waited None v w e = record { by = e.by; before = e.before; after = e.after; is = e.is; since = e.since; empty = e.empty }
none_waited (Some x) v w e = e
