-- After a step of a seat's call, or its begin and first step, the table is a machine again (`settle`): the
-- seat's view has all turns and events.
use Rattle.history.proofs.Names.{◌≡◌, ◌≢◌, inl, ⊎_elim, ℕ, ◌<◌, ◌≤◌, List, [], ◌++◌, length, slice_set, refl}
use Rattle.history.proofs.Names.{append-nil, arith, length-set, Some, sum_by-append, at_set, Event, Kind}
use Rattle.history.proofs.Names.{Coding, Start, Flight, Turn, state_in, Trace}
use mathlib.Core.Option.{some}
use lib.ListN.{get_elem?}
use Rattle.atomic_table.specs.Table.{State}
use Rattle.history.specs.declared.view.View.{View}
use Rattle.history.specs.History.{IsBeginning, IsMachine, OneRun, Fits, call_in, steps_in, others_in, steps_of_run}
use Rattle.history.proofs.Asked.{Gains, gains_have}
use Rattle.history.proofs.Known.{itself, within, none_late}
use Rattle.history.proofs.AllSeen.{known_step}
use Rattle.history.proofs.OneRun.{one_set, knew_all}
use Rattle.history.proofs.Turns.{Between}

-- the first part of any events may be empty
none_seen : {T : Type 0} (events : List (Event T)) → IsBeginning [] events
none_seen events = record { rest = events; is = refl }

module _ {T : Type 0} (p : ℕ) where
  -- the view of the seat after the step: it is this party, has all turns and events of the machine, and these
  -- counts of operations
  abbrev pub view_with : List (Turn T) → ℕ → ℕ → ℕ → View T → List (Event T) → Trace T → View T
  view_with turns asked aside taken v gained u =
      record {
        capacity = v.capacity;
        party = Some p;
        share = v.share;
        seen = u.events;
        other = [];
        turns = turns;
        other_turns = [];
        made = v.made ++ gained;
        going = call_in u.world p;
        state = state_in u.world.kept p;
        asked = asked;
        aside = aside;
        taken = taken;
        others = others_in u.world p;
      }

  -- the view of the seat after the step, which counts the steps of its call as the machine does
  abbrev pub view_after : List (Turn T) → ℕ → ℕ → View T → List (Event T) → Trace T → View T
  view_after turns asked aside v gained u = view_with turns asked aside (steps_in u.world p) v gained u

module _ {T : Type 0} {code : Coding T} {kind : Kind} {capacity id p : ℕ} {owner : ℕ → ℕ} where
  -- The table holds the rule with this view of the seat, where the machine stands at its words and the view's
  -- counts are right.
  pub settle_with : {asked aside taken : ℕ} {words : List ℕ} (s : State (Unit {0}) (View T))
      {v : View T} {gained : List (Event T)} {u : Trace T}
      → get_elem? s.views id ≡ some v → 0 < v.share.part
      → ((call : Start T × Flight T) → call_in u.world p ≡ Some call → steps_in u.world p ≡ taken)
      → Between code kind capacity owner (record { words = words; homes = s.homes; views = s.views }) id p gained u
      → (one : OneRun code kind capacity s.views u) → Gains s.views v asked aside (steps_of_run code kind capacity one.turns)
      → IsMachine code kind capacity
      (record { words = words; homes = s.homes; views = slice_set s.views id (view_with p one.turns asked aside taken v gained u) })
  settle_with {asked} {aside} {taken} {words} s {v} {gained} {u} has_view some_share counts between one gains =
      record {
        -- the machine after the step has the table's words
        trace = u;
        run = between.run;
        words = between.words;
        owner = owner;
        -- seat `id` fits the machine with its new view, and each other seat with the view that it had
        seats =
            λ j x found. ⊎_elim (λ (e : (j ≡ id) × (now ≡ x)). mine j x e.0 e.1)
            (λ (e : (j ≢ id) × (get_elem? s.views j ≡ some x)). between.others j x e.0 e.1)
            (at_set s.views id j now x found);
        -- each party with the number of a seat belongs to a seat, and a further party belongs to none
        inside = λ q low. (let long = length-set s.views id now in let h = between.inside q (omega arith) in omega arith);
        fresh = λ q past. (let long = length-set s.views id now in between.fresh q (omega arith));
        further = λ j past. between.further j (λ e. absurd (none j past e)) (beyond j past);
        made_none = λ j past. between.made_none j (λ e. absurd (none j past e)) (beyond j past);
        -- the run, what all seats asked for, and that some seat has seen all events
        one = one_set code kind capacity s.views u id now one (knew_all code kind capacity one refl refl);
        asked = gains_have id now has_view gains some_share;
        known = known_step id now has_view refl some_share refl between.someone between.spent between.shares;
      }
    where
      -- the view of the seat after the step
      now : View T
      now = view_with p one.turns asked aside taken v gained u

      -- the table has as many seats as before
      beyond : (j : ℕ) → length (slice_set s.views id now) ≤ j → length s.views ≤ j
      beyond j past = grind (arith, length-set)

      -- the party has the number of a seat, so it is none of the further parties
      none : (j : ℕ) → length (slice_set s.views id now) ≤ j → j ≡ p → ⊥
      none = grind (arith, beyond, within)

      -- the seat fits the machine with this view
      mine : (j : ℕ) (x : View T) → j ≡ id → now ≡ x → Fits owner u j x
      mine = grind (arith, counts, itself, none_seen, state_in, none_late, inl, append-nil, sum_by-append)

  -- with the view after a step, which counts the steps that the machine has of the call, the table
  -- holds its machine again
  pub settle_so : {asked aside : ℕ} {words : List ℕ} (s : State (Unit {0}) (View T)) {v : View T} {gained : List (Event T)} {u : Trace T}
      → get_elem? s.views id ≡ some v → 0 < v.share.part
      → (b : Between code kind capacity owner (record { words = words; homes = s.homes; views = s.views }) id p gained u)
      → Gains s.views v asked aside (steps_of_run code kind capacity b.one.turns)
      → IsMachine code kind capacity (record { words = words; homes = s.homes; views = slice_set s.views id (view_after p b.one.turns asked aside v gained u) })
  settle_so s has_view some_share b gains = settle_with s has_view some_share (λ call is. refl) b b.one gains

module _ {T : Type 0} (code : Coding T) (kind : Kind) (capacity id p : ℕ) where
  -- the same holds with the table, the view and the run as explicit arguments
  pub settle : (owner : ℕ → ℕ) (asked aside : ℕ) (words : List ℕ) (s : State (Unit {0}) (View T)) (v : View T) (gained : List (Event T)) (u : Trace T)
      → get_elem? s.views id ≡ some v → 0 < v.share.part
      → (b : Between code kind capacity owner (record { words = words; homes = s.homes; views = s.views }) id p gained u)
      → Gains s.views v asked aside (steps_of_run code kind capacity b.one.turns)
      → IsMachine code kind capacity (record { words = words; homes = s.homes; views = slice_set s.views id (view_after p b.one.turns asked aside v gained u) })
  settle owner asked aside words s v gained u has_view some_share b gains = settle_so s has_view some_share b gains
