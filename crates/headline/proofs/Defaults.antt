-- A robust set and a container end calls by turns, in runs in which no call may lock with the small bounds.
use Rattle.std.proofs.Common.{◌≡◌, false, Option, Some, None, List, [], ◌∷◌, ◌++◌, refl, sym, ap, subst, ◌∙◌}
use Rattle.std.specs.List.{AllByRecursion}
use Rattle.model.specs.declared.event.Start.{Start}
use Rattle.model.specs.declared.turn.Kind.{Kind}
use Rattle.model.specs.declared.turn.Kind.TheVariants.{Robust, Container}
use Rattle.model.specs.declared.turn.Refusal.{Refusal}
use Rattle.model.specs.declared.turn.Turn.{Turn}
use Rattle.model.specs.Loads.{EndsLoadOf}
use Rattle.model.specs.LockFree.{Bound, BeginsSuch, IsDefault, default_bound, default_container_bound, parties_below}
use Rattle.model.specs.Refusals.{call_refusal, refusal_of}
use Rattle.model.specs.Turns.{IsReached, IsReachedOn, after_turn, attempt, attempt_on, run, run_on, unless_refused}
use Rattle.model.specs.World.{Trace, opened, opening}
use Rattle.model.proofs.LockFree.Machines.{all_allowed, length_below}
use Rattle.model.proofs.Names.{is_loan}
use Rattle.model.proofs.Openings.{opened_others}
use Rattle.model.proofs.Reached.{turn_making}
use Rattle.model.proofs.Rows.{passes}
use Rattle.machine.proofs.Loads.{robust_load_ends, container_load_ends}
use Rattle.headline.specs.Going.{EndsByTurnsOf}
use Rattle.headline.proofs.Nexts.{ends_within}

module _ {T : Type 0} (Such : Start T → Type 0) where
  -- Some turns lead to this machine that begin only calls of which `Such` holds.
  record ReachedBySuch (t : Trace T) : Type 0 where
    pub reached : IsReachedOn t
    pub such : AllByRecursion (BeginsSuch Such) reached.turns

  -- If all turns of a list begin only such calls, and one more turn does, so do all with it.
  all_more : (xs : List (Turn T)) (x : Turn T) → AllByRecursion (BeginsSuch Such) xs → BeginsSuch Such x → AllByRecursion (BeginsSuch Such) (xs ++ x ∷ [])
  all_more [] x all here = (here, tt)
  all_more (y ∷ xs) x all here = (all.0, all_more xs x all.1 here)

  -- A run with one more turn is the run and then an attempt of that turn.
  run_more : (xs : List (Turn T)) (x : Turn T) (first : Trace T) → run_on (xs ++ x ∷ []) first ≡ attempt_on (run_on xs first) x
  run_more [] x first = refl
  run_more (y ∷ xs) x first = run_more xs x (attempt_on first y)

  -- A turn that is not refused leads on from a list of turns to that list with the turn at its end.
  leads_on : (xs : List (Turn T)) (turn : Turn T) (t first : Trace T) → call_refusal t.world turn ≡ None → t ≡ run_on xs first
      → after_turn t turn ≡ run_on (xs ++ turn ∷ []) first
  leads_on xs turn t first not_refused is_run =
      sym (ap (unless_refused t (after_turn t turn)) not_refused) ∙ (ap (λ u. attempt_on u turn) is_run ∙ sym (run_more xs turn first))

  -- If only calls of which `Such` holds have begun on the way to a machine, then also with one turn more that
  -- is not refused and begins no other call.
  one_more : (t : Trace T) (turn : Turn T) → call_refusal t.world turn ≡ None → BeginsSuch Such turn → ReachedBySuch t → ReachedBySuch (after_turn t turn)
  one_more t turn not_refused here is_reached =
      let r = is_reached.reached in
      let making = turn_making t.world turn in
      let more = leads_on r.turns turn t (opening t.world.coding t.world.kind t.world.capacity t.world.parties) not_refused r.is in
      record {
        reached =
            record {
              coded = rw making.coding r.coded;
              admitted = rw (making.kind, making.capacity) r.admitted;
              turns = r.turns ++ turn ∷ [];
              is = rw (making.coding, making.kind, making.capacity, making.parties) more;
            };
        such = all_more r.turns turn is_reached.such here;
      }

  -- If only calls of which `Such` holds have begun on the way to a machine, then also after more turns that
  -- begin no other calls.
  by_run : (turns : List (Turn T)) (t : Trace T) → AllByRecursion (BeginsSuch Such) turns → ReachedBySuch t → ReachedBySuch (run turns t)
  by_run [] t all reached = reached
  by_run (turn ∷ turns) t all reached = by_run turns (attempt t turn) all.1 (attempted (refusal_of t.world turn) refl)
    where
      -- The cases are whether the turn is refused.
      attempted : (o : Option Refusal) → refusal_of t.world turn ≡ o → ReachedBySuch (unless_refused t (after_turn t turn) o)
      attempted None free = one_more t turn (passes t.world turn free).on all.0 reached
      attempted (Some refusal) free = reached

  -- A machine that is no loan channel, and that turns of a machine reach which begin only calls of which
  -- `Such` holds, is reached in this sense too.
  reached_by_such : (t : Trace T) → is_loan t.world.kind ≡ false → (r : IsReached t) → AllByRecursion (BeginsSuch Such) r.turns → ReachedBySuch t
  reached_by_such t no_loan r all =
      subst ReachedBySuch (sym r.is)
      (by_run r.turns (opened t.world.coding t.world.kind t.world.capacity r.queue t.world.parties) all
      (subst ReachedBySuch (sym (opened_others t.world.coding t.world.kind t.world.capacity r.queue t.world.parties no_loan))
      (record { reached = record { coded = r.coded; admitted = r.admitted; turns = []; is = refl }; such = tt })))

  -- If a load of calls of which `Such` holds ends, then each call ends whose party goes on.
  turns_end_of : (kind : Kind) → is_loan kind ≡ false → (bound : Bound) → EndsLoadOf T kind Such bound → EndsByTurnsOf T kind Such bound
  turns_end_of kind no_loan bound loads t is r before p under_way turns allowed such many =
      let none : is_loan t.world.kind ≡ false = rw is no_loan in
      let there = reached_by_such t none r before in
      let on = all_allowed t turns t.world.parties refl allowed in
      ends_within (bound t.world.parties t.world.capacity t.world.coding.size) t r p under_way turns allowed
      (rw (length_below t.world.parties) at (loads t is there.reached there.such (parties_below t.world.parties) turns on.0 on.1 such)) many

pub robust_by_turns : (T : Type 0) → EndsByTurnsOf T Robust IsDefault default_bound
robust_by_turns T = turns_end_of IsDefault Robust refl default_bound (robust_load_ends T)

-- A container in which no call may lock ends calls by turns, within its default bound.
pub container_by_turns : (T : Type 0) → EndsByTurnsOf T Container IsDefault default_container_bound
container_by_turns T = turns_end_of IsDefault Container refl default_container_bound (container_load_ends T)
