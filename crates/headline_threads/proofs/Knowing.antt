-- Calls end between what a pass knew and what it knows, and finite loads do, since its turns are those of one run.
use Rattle.std.proofs.Common.{◌≡◌, ◌<◌, ◌≤◌, ◌+◌, ◌-◌, ℕ, None, List, [], ◌∷◌, ◌++◌, refl, sym, ap, subst, length}
use Rattle.std.proofs.Common.{◌∙◌, arith, ⊎_elim}
use Rattle.std.proofs.lemmas.Bool.{cases_lt}
use Rattle.std.specs.List.{AllByRecursion}
use Rattle.model.specs.declared.event.Start.{Start}
use Rattle.model.specs.declared.turn.Kind.{Kind}
use Rattle.model.specs.declared.turn.Turn.{Turn}
use Rattle.model.specs.Coding.{Coding, IsCoding}
use Rattle.model.specs.Fair.{turns_of, StepsInEach, RestsInOne}
use Rattle.model.specs.Loads.{begins_in, begun, pending, load}
use Rattle.model.specs.LockFree.{Bound, BeginsSuch, IsAmong, AreWithinEnds, ends, steps_in}
use Rattle.model.specs.Turns.{AreAllowedBy, IsReachedBy, run_by, after_turn, after_turns}
use Rattle.model.specs.World.{World, Trace, capacity_error, opening}
use Rattle.model.proofs.LockFree.Apart.{Once, once_each, all_among_more}
use Rattle.model.proofs.LockFree.Counted.{counted, begins_are}
use Rattle.model.proofs.LockFree.Fairly.{rests_by}
use Rattle.model.proofs.LockFree.Loads.{load_within, both, first_all, second_all}
use Rattle.model.proofs.LockFree.Measure.{worth}
use Rattle.model.proofs.LockFree.Weighed.{KeepsEndingBy}
use Rattle.model.proofs.Reached.{turn_making, SameMaking}
use Rattle.model.proofs.Rows.{IsPossible}
use Rattle.history.specs.declared.view.View.{View}
use Rattle.history.specs.History.{Knows, Continues, refusal_as, run_of}
use Rattle.headline_threads.specs.Ends.{ActOnly, BeginSuch, steps_between}
use Rattle.headline_threads.proofs.Passing.{all_after, all_before, turns_after, all_such, allowed_after, allowed_before, among_own, parties_of, runs_so}

-- In more steps than the bound at least one call more has ended.
more_ends : (bound steps before after : ℕ) → bound < steps → AreWithinEnds bound steps before after → before < after
more_ends bound steps before after far within = ⊎_elim (λ less. less) none (cases_lt before after)
  where
    -- If no more calls had ended after the turns than before, the steps would be more than the bound allows.
    none : after ≤ before → before < after
    none le = let paid = worth after before (bound + 1) le in absurd (omega arith)

-- what is known of the runs of a kind in which no call begins but such ones
pub record Runs {T : Type 0} (kind : Kind) (Such : Start T → Type 0) (bound : Bound) : Type 0 where
  pub possible : (w : World T) (turn : Turn T) → refusal_as kind w turn ≡ None → IsPossible w turn
  pub keeps : KeepsEndingBy (refusal_as kind) kind Such bound

module _ {T : Type 0} where
  -- Turns keep what a machine was made with: its coding, kind, capacity and number of parties.
  making_of : (t : Trace T) (turns : List (Turn T)) → SameMaking t.world (after_turns t turns).world
  making_of t [] = record { coding = refl; kind = refl; capacity = refl; parties = refl }
  making_of t (turn ∷ turns) =
      let here = turn_making t.world turn in
      let rest = making_of (after_turn t turn) turns in
      record {
        coding = rest.coding ∙ here.coding;
        kind = rest.kind ∙ here.kind;
        capacity = rest.capacity ∙ here.capacity;
        parties = rest.parties ∙ here.parties;
      }

  -- In a machine without parties no call is under way.
  pub none_pending : (ps : List ℕ) (code : Coding T) (kind : Kind) (capacity : ℕ) → pending ps (opening code kind capacity 0).world ≡ 0
  none_pending [] code kind capacity = refl
  none_pending (p ∷ ps) code kind capacity = let rest = none_pending ps code kind capacity in omega arith

  -- The runs of a kind of structure whose calls keep ending within a bound: its table opens with no party, and turns of a run follow.
  module _ (kind : Kind) (Such : Start T → Type 0) (bound : Bound) (R : Runs kind Such bound) (code : Coding T) (capacity : ℕ) where
    -- The table as it opens.
    abbrev start : Trace T
    start = opening code kind capacity 0

    -- The table after these turns.
    abbrev so_far : List (Turn T) → Trace T
    so_far turns = run_of code kind capacity turns

    -- The bound for these parties at this capacity and coding.
    abbrev most : List ℕ → ℕ
    most ps = bound (length ps) capacity code.size

    -- what is known of the first turns of a list, and of those after them
    record Later (first rest : List (Turn T)) (ps : List ℕ) : Type 0 where
      -- the machine after the first turns: its kind, its numbers, and that turns reach it
      pub of_kind : (so_far first).world.kind ≡ kind
      pub sized : (so_far first).world.capacity ≡ capacity
      pub coded : (so_far first).world.coding ≡ code
      pub reached : IsReachedBy (refusal_as kind) (so_far first)
      pub such_before : AllByRecursion (BeginsSuch Such) reached.turns
      -- the turns are allowed, the first and then the rest
      pub allowed_before : AreAllowedBy (refusal_as kind) start first
      pub allowed : AreAllowedBy (refusal_as kind) (so_far first) rest
      -- the rest are of these parties
      pub among : ActOnly ps rest
      -- the rest begin only calls for which `Such` holds
      pub such : AllByRecursion (BeginsSuch Such) rest

    -- What is known of a list of turns is known of a beginning of it, and of the turns after that.
    later_on : (first rest : List (Turn T)) (ps : List ℕ) → IsCoding code → capacity_error kind capacity ≡ None
        → AreAllowedBy (refusal_as kind) start (first ++ rest) → ActOnly ps rest → BeginSuch Such (so_far (first ++ rest)).events
        → Later first rest ps
    later_on first rest ps coded admitted allowed among such =
        let making = making_of start first in
        let all = all_such Such start (first ++ rest) such in
        let before = allowed_before (refusal_as kind) R.possible start first rest allowed in
        record {
          of_kind = making.kind;
          sized = making.capacity;
          coded = making.coding;
          reached =
              record {
                coded = rw making.coding coded;
                admitted =
                    rw making.kind (rw making.capacity admitted);
                turns = first;
                is = runs_so (refusal_as kind) R.possible start first before ∙ sym (opens making);
              };
          such_before = all_before (BeginsSuch Such) first rest all;
          allowed_before = before;
          allowed = allowed_after (refusal_as kind) R.possible start first rest allowed;
          among = among;
          such = all_after (BeginsSuch Such) first rest all;
        }
      where
        -- The opening that the first turns have been made with is the table's own start.
        opens : SameMaking start.world (so_far first).world
            → run_by (refusal_as kind) first
            (opening (so_far first).world.coding (so_far first).world.kind (so_far first).world.capacity (so_far first).world.parties)
            ≡ run_by (refusal_as kind) first start
        opens making = rw (making.coding, making.kind, making.capacity, making.parties) refl

    -- ---- of one list of turns

    module _ (first rest : List (Turn T)) (ps : List ℕ) (h : Later first rest ps) where
      -- from the first turns on, any further turns of such parties and calls keep ending calls
      all_end : (turns : List (Turn T)) → AreAllowedBy (refusal_as kind) (so_far first) turns → ActOnly ps turns
          → AllByRecursion (BeginsSuch Such) turns
          → AreWithinEnds (most ps) (steps_in (so_far first) turns) (ends (so_far first).events) (ends (after_turns (so_far first) turns).events)
      all_end turns allowed among such =
          let run_now = so_far first in
          rw h.sized at (rw h.coded at (R.keeps run_now h.of_kind h.reached h.such_before ps turns allowed among such))

      -- In the later turns calls end as often as the steps have the bound.
      ends_within : AreWithinEnds (most ps) (steps_in (so_far first) rest) (ends (so_far first).events) (ends (so_far (first ++ rest)).events)
      ends_within =
          rw (turns_after start first rest) (all_end rest h.allowed h.among h.such)

      -- all parties of these turns, each once
      every : Once T (parties_of (first ++ rest))
      every = once_each T (parties_of (first ++ rest))

      every_one : ActOnly every.once (first ++ rest)
      every_one = all_among_more (parties_of (first ++ rest)) every.once every.all (first ++ rest) (among_own (first ++ rest))

      -- The steps of the later turns are at most the load of the calls that had begun and not ended before
      -- them, and of those that begin in them.
      load_of : steps_in (so_far first) rest ≤ load (most ps) (begun (so_far (first ++ rest)).events - ends (so_far first).events)
      load_of =
          let run_now = so_far first in
          let before = all_before (IsAmong every.once) first rest every_one in
          let after = all_after (IsAmong every.once) first rest every_one in
          let steps =
          load_within (refusal_as kind) R.possible every.once (λ turn. IsAmong every.once turn × (IsAmong ps turn × BeginsSuch Such turn)) (λ turn may. may.0)
          (most ps) run_now rest h.allowed
          (both (IsAmong every.once) (λ turn. IsAmong ps turn × BeginsSuch Such turn) rest after (both (IsAmong ps) (BeginsSuch Such) rest h.among h.such))
          (λ turns allowed may.
          (let own = second_all (IsAmong every.once) (λ turn. IsAmong ps turn × BeginsSuch Such turn) turns may in
          all_end turns allowed (first_all (IsAmong ps) (BeginsSuch Such) turns own) (second_all (IsAmong ps) (BeginsSuch Such) turns own))) in
          let under = counted (refusal_as kind) R.possible every.once every.apart start first h.allowed_before before in
          let none = none_pending every.once code kind capacity in
          let began = begins_are start first in
          let begins = begins_are run_now rest in
          let runs : begun (so_far (first ++ rest)).events ≡ begun (after_turns run_now rest).events
          = ap (λ (u : Trace T). begun u.events) (turns_after start first rest) in
          let same : pending every.once run_now.world + begins_in rest ≡ begun (so_far (first ++ rest)).events - ends run_now.events = omega arith in
          rw (← same) steps

    -- ---- of what a pass knows

    module _ (old new : View T) (knows : Knows code kind capacity old) (later : Continues code kind capacity old new) (ps : List ℕ)
        (among : ActOnly ps later.first.rest) (such : BeginSuch Such new.seen) where
      seen : new.seen ≡ (so_far (old.turns ++ later.first.rest)).events
      seen = later.knows.is ∙ ap (λ ts. (so_far ts).events) later.first.is

      -- The turns that the later pass knows are those of the earlier one with more after them, and
      -- all are allowed.
      there : Later old.turns later.first.rest ps
      there =
          later_on old.turns later.first.rest ps knows.coded knows.admitted
          (subst (AreAllowedBy (refusal_as kind) start) later.first.is later.knows.allowed)
          among (subst (BeginSuch Such) seen such)

      -- The steps of the table between what the pass knew and what it knows.
      abbrev steps : ℕ
      steps = steps_between code kind capacity old new later

      -- Between what a pass knew and what it knows calls have ended as often as the steps have the bound.
      pub between : AreWithinEnds (most ps) steps (ends old.seen) (ends new.seen)
      between =
          rw seen
          (rw knows.is (ends_within old.turns later.first.rest ps there))

      pub one_more : most ps < steps → ends old.seen < ends new.seen
      one_more far = more_ends (most ps) steps (ends old.seen) (ends new.seen) far between

      -- The steps between what a pass knew and what it knows are within the load of the calls that
      -- had begun and not ended.
      pub load_between : steps ≤ load (most ps) (begun new.seen - ends old.seen)
      load_between =
          rw seen (rw knows.is (load_of old.turns later.first.rest ps there))

      -- In more rounds than that load a party that takes a step in each round has no call under
      -- way as one of them begins.
      pub rests_between : (rounds : List (List (Turn T))) → later.first.rest ≡ turns_of rounds → (p : ℕ) → StepsInEach p (so_far old.turns) rounds
          → load (most ps) (begun new.seen - ends old.seen) < length rounds → RestsInOne p (so_far old.turns) rounds
      rests_between rounds rounds_are p each many =
          rests_by p (so_far old.turns) rounds each (load (most ps) (begun new.seen - ends old.seen))
          (rw (← rounds_are) load_between) many

    -- from the opening on
    module _ (v : View T) (knows : Knows code kind capacity v) (ps : List ℕ) (among : ActOnly ps v.turns) (such : BeginSuch Such v.seen) where
      -- All turns that a pass knows, from the opening on, are allowed.
      all_there : Later [] v.turns ps
      all_there =
          later_on [] v.turns ps knows.coded knows.admitted
          knows.allowed among (subst (BeginSuch Such) knows.is such)

      -- From the opening on calls have ended as often as the steps that a pass knows have the bound.
      pub known : AreWithinEnds (most ps) (steps_in start v.turns) 0 (ends v.seen)
      known =
          rw knows.is (ends_within [] v.turns ps all_there)

      -- All steps that a pass knows are within the load of the calls that it has seen begin.
      pub load_known : steps_in start v.turns ≤ load (most ps) (begun v.seen)
      load_known =
          rw knows.is (let none : begun (so_far v.turns).events - 0 ≡ begun (so_far v.turns).events = omega arith in
          rw (← none) (load_of [] v.turns ps all_there))
