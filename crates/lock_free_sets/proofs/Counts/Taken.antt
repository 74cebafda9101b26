-- Taking all counts out: the closure is called with just what the call takes.
use Rattle.lock_free_sets.proofs.Names.{◌≡◌, ℕ, List, ◌+◌, ◌^◌, ◌<◌, [], ◌++◌, map, refl, sym, ap, subst, ◌∙◌, arith, map-append}
use Rattle.lock_free_sets.proofs.Names.{All-nil, After, BitState, Emptying, OneWord, Event}
use Rattle.lock_free_sets.proofs.Names.{fresh, SinceBegin, View}
use Rattle.steps.specs.Bits.ResetAll.{all_counts}
use Rattle.steps.specs.declared.ask.After.TheVariants.{GoOn, Done}
use Rattle.model.specs.declared.event.Answer.TheVariants as answers
use Rattle.model.specs.declared.turn.Kind.TheVariants as kinds
use Rattle.model.specs.Families.Bits.Promises.{HasTakenOn}
use Rattle.model.specs.Families.Bits.Steps.{take_events}
use Rattle.history.specs.Steps.{TakesAtMost}
use Rattle.lock_free_sets.specs.Driven.{HasMade, HasDone, IsIdle}
use Rattle.lock_free_sets.specs.Sets.Kinds.{Counts}
use Rattle.lock_free_sets.specs.Counts.Contracts.{taken_by, HasTakenOut, MissedNoCount, ResetAllDone}
use Rattle.lock_free_sets.proofs.Ends.{before_end, to_end}
use Rattle.lock_free_sets.proofs.Sets.Answered.{counts_answer}
use Rattle.lock_free_sets.proofs.Sets.Emptying.{goes_next}
use Rattle.lock_free_sets.proofs.Steps.{counts_take}
use Rattle.lock_free_sets.proofs.Sets.Emptied.{emptying, TookStep, WroteSoFar, first_wrote, words_left, ends_all, wrote_on, wrote_all}
use Rattle.lock_free_sets.proofs.Counts.Handed.{Counted, none_counted, none_states, counted_found, found, found_events}

module _ {F : Type 0} (R : F → BitState → F → Type 0) (cap : ℕ) (visit : F) where
  -- The call that takes all counts out stands at c in the view v, and the closure was called with just
  -- the counts that the call has taken out so far.
  pub record SoFar (base v : View ℕ) (c : Emptying) (m : OneWord) (f : F) : Type 0 where
    pub handed : Counted R cap c.word visit f
    pub call : WroteSoFar Counts cap (λ p. map (taken_by p) handed.states) base v c m

  -- as the call begins nothing is taken out, and the closure was not called
  pub first_so_far : (v : View ℕ) → IsIdle cap v → 0 < cap → SoFar v v (all_counts cap) fresh visit
  first_so_far v idle some =
      record {
        handed = none_counted R cap visit 0;
        call =
            subst (λ z. WroteSoFar Counts cap z v v (all_counts cap) fresh)
            (λ i p. sym (ap (map (taken_by p)) (none_states R cap visit 0)) i) (first_wrote Counts cap v idle some);
      }

-- The call began at base and stands at c at v with room m, f is the closure; its step came to `a` with this room, and w is
-- what the pass knows then.
module _ {F : Type 0} {R : F → BitState → F → Type 0} {cap : ℕ} {visit : F} {base v w : View ℕ} {c : Emptying} {m room : OneWord} {f : F}
    {a : After Emptying (Unit {0})} (h : SoFar R cap visit base v c m f) (step : TookStep Counts v w c m room a)
  where
    -- The word of the step is one of a place.
    pub within : c.word < cap
    within =
        let left = words_left Counts h.call in
        let end = left.0 in
        let below = left.2 in
        omega arith

    -- A call that has emptied the set took at most one step for each place.
    pub taken_steps : a ≡ Done tt → TakesAtMost cap base w
    taken_steps is =
        let left = words_left Counts h.call in
        let most = left.0 in
        let below = left.2 in
        let all = ends_all Counts h.call step is in
        counts_take h.call.idle h.call.size all.0 (omega arith)

    module _ (small : room.0 < 2 ^ 64) {g : F} (hit : 0 < room.0 → R f (record { bit = c.word; count = room.0 }) g) (miss : room.0 ≡ 0 → g ≡ f) where
      -- With the count of this word, if there is one, the closure was called with all counts
      -- below the next word.
      next_handed : (x : Counted R cap (c.word + 1) visit g) × (x.states ≡ h.handed.states ++ found R cap visit c.word room.0)
      next_handed = counted_found R cap visit c.word room.0 within small hit miss h.handed

      -- The event that takes this count out comes behind those of the counts before.
      same_events : (p : ℕ) → map (taken_by p) h.handed.states ++ take_events p c.word room.0 ≡ map (taken_by p) next_handed.0.states
      same_events p = grind (arith, map, taken_by, found_events, map-append, found, next_handed)

      -- where the call goes on to its next word, `SoFar` holds with the count that it has just taken out
      pub so_far_on : {next : Emptying} → a ≡ GoOn next → SoFar R cap visit base w next room g
      so_far_on {next} is =
          record {
            handed = moved.0;
            call =
                subst (λ z. WroteSoFar Counts cap z base w next room) (λ i p. (same_events p ∙ ap (map (taken_by p)) (sym moved.1)) i)
                (wrote_on Counts h.call step is);
          }
        where
          -- The counts that were handed out, read as those below the next word.
          moved : (x : Counted R cap next.word visit g) × (x.states ≡ next_handed.0.states)
          moved =
              subst (λ k. (x : Counted R cap k visit g) × (x.states ≡ next_handed.0.states))
              (sym (ap (λ (z : Emptying). z.word) (goes_next c step.n next (step.goes_so ∙ is)).0)) (next_handed.0, refl)

      -- where the call ends, it has taken out just the counts that the closure was called with, in
      -- ascending order
      pub taken_all : a ≡ Done tt → HasTakenOut R cap visit g base w × HasDone kinds.Counts base w
      taken_all is =
          let all = wrote_all Counts h.call step is in (
            record {
              states = next_handed.0.states;
              ascend = next_handed.0.ascend;
              calls = next_handed.0.folds;
              made = subst (λ z. HasMade emptying answers.Done z base w) (λ i p. same_events p i) all.0;
            },
            all.1,
          )

-- nothing that counted was missed
missed_none : (cap : ℕ) (base w : View ℕ) (wrote : ℕ → List (Event ℕ)) → base.capacity ≡ cap → HasDone kinds.Counts base w
    → HasMade emptying answers.Done wrote base w → MissedNoCount cap w
missed_none cap base w wrote size over made =
    record {
      by = made.by;
      before = before_end made.called;
      is = to_end made.called;
      taken = subst (λ n. SinceBegin made.by (HasTakenOn n) (before_end made.called)) size (counts_answer over.history made.called);
    }

-- where there is no place, nothing is taken and the closure is not called
taken_none : {F : Type 0} (R : F → BitState → F → Type 0) (visit : F) (base w : View ℕ)
    → HasMade emptying answers.Done (λ by. []) base w → HasTakenOut R 0 visit visit base w
taken_none R visit base w made =
    record {
      states = [];
      ascend = ((λ i j d lt within. absurd (omega arith)), All-nil (λ (x : BitState). (x.bit < 0) × (0 < x.count) × (x.count < 2 ^ 64)));
      calls = refl;
      made = made;
    }

module _ {F : Type 0} {R : F → BitState → F → Type 0} {visit : F} {base w : View ℕ} {capacity : ℕ} (size : base.capacity ≡ capacity)
    (done : HasDone kinds.Counts base w) where
  -- A call that has taken all counts out has done what `ResetAllDone` says.
  pub reset_all : {cap : ℕ} {visited : F} → cap ≡ capacity → HasTakenOut R cap visit visited base w → ResetAllDone R capacity visit visited base w
  reset_all {visited = visited} same made =
      let all = subst (λ n. HasTakenOut R n visit visited base w) same made in
      record { taken = all; stood = missed_none capacity base w _ size done all.made }

  -- Of a set without places, `ResetAllDone` holds with no count.
  pub reset_none : 0 ≡ capacity → HasMade emptying answers.Done (λ by. []) base w → ResetAllDone R capacity visit visit base w
  reset_none none made = reset_all none (taken_none R visit base w made)
