-- From calls that keep ending to finite loads that end: each call pays for the steps up to its own end, and while a step is
-- taken one is left that has not ended.
use Rattle.model.proofs.Names.{AllByRecursion, AreWithinEnds, Bound, IsAmong, KeepsEnding, Kind, List, None, Option}
use Rattle.model.proofs.Names.{Refusal, Start, Trace, Turn, World, [], after_turn, after_turns, arith, call_refusal}
use Rattle.model.proofs.Names.{ends, events_of, length, steps_in, zero, suc, ℕ, ◌*◌, ◌+◌, ◌∷◌, ◌≡◌, ◌≤◌}
use Rattle.model.specs.LockFree.{BeginsSuch, KeepsEndingOf, steps_of}
use Rattle.model.specs.Loads.{begin_in, begins_in, pending, load, EndsLoad, EndsLoadOf}
use Rattle.model.specs.Promises.Turns.{ask_in}
use Rattle.model.specs.Turns.{AreAllowedBy}
use Rattle.model.proofs.Counts.{steps_small}
use Rattle.model.proofs.LockFree.Apart.{AreApart, among_more, once_each}
use Rattle.model.proofs.LockFree.Counted.{turn_counts, steps_pending}
use Rattle.model.proofs.LockFree.Measure.{worth}
use Rattle.model.proofs.LockFree.Weighed.{ended_more}
use Rattle.model.proofs.Rows.{IsPossible, possible_on}

more_calls : (calls begins each : ℕ) → calls * each ≤ (calls + begins) * each
more_calls calls begins each = worth calls (calls + begins) each (omega arith)

-- Turns that the machine does not refuse are possible, and those that may be taken (`May`) are of these parties, each of
-- which stands in the list once.
module _ {T : Type 0} (refuses : World T → Turn T → Option Refusal) (possible : (w : World T) (turn : Turn T) → refuses w turn ≡ None → IsPossible w turn)
    (ps : List ℕ) (apart : AreApart ps) (May : Turn T → Type 0) (below : (turn : Turn T) → May turn → IsAmong ps turn) where
  -- Whatever turns are taken from this machine, after `steps` steps, all steps are within
  -- the bound between ends.
  abbrev StaysWithin : ℕ → ℕ → Trace T → ℕ → Type 0
  StaysWithin bound before t steps =
      (turns : List (Turn T)) → AreAllowedBy refuses t turns → AllByRecursion May turns
      → AreWithinEnds bound (steps + steps_in t turns) before (ends (after_turns t turns).events)

  -- Since `before` calls had ended, `calls` calls were under way or began, and `steps` steps were taken: all steps are within the
  -- bound between ends, and are no more than if each of the calls paid for one step more than the bound.
  record HavePaid (bound before calls steps : ℕ) (t : Trace T) : Type 0 where
    within : StaysWithin bound before t steps
    count : pending ps t.world + ends t.events ≡ before + calls
    paid : steps ≤ calls * (bound + 1)

  -- One step more is within the load, if one of the calls has not ended.
  one_step : {bound before calls steps : ℕ} {t : Trace T} → HavePaid bound before calls steps t → (step : ℕ) → step ≤ 1 → step ≤ pending ps t.world
      → steps + step ≤ calls * (bound + 1)
  one_step have zero one under = omega (arith, have.paid)
  one_step {bound} {before} {calls} {t = t} have (suc step) one under =
      let count = have.count in
      let now = have.within [] tt tt in
      let most = worth (ends t.events + 1) (before + calls) (bound + 1) (omega arith) in
      omega arith

  -- where `HavePaid` holds, each of its calls, and each that these turns begin, pays for one step more than the bound
  calls_pay : {bound before : ℕ} (t : Trace T) {calls steps : ℕ} (turns : List (Turn T)) → AreAllowedBy refuses t turns → AllByRecursion May turns
      → HavePaid bound before calls steps t → steps + steps_in t turns ≤ (calls + begins_in turns) * (bound + 1)
  calls_pay {bound} t {calls} [] allowed may have = omega (arith, have.paid, more_calls calls 0 (bound + 1))
  calls_pay {bound} {before} t {calls} {steps} (turn ∷ turns) allowed may have =
      let count = have.count in
      let step = steps_of t.world turn in
      let counts = turn_counts ps apart t.world turn (possible t.world turn allowed.0) (below turn may.0) in
      let more = ended_more t.events (events_of t.world turn) in
      let one = steps_small (ask_in t.world turn) in
      let under = steps_pending ps t.world turn (possible t.world turn allowed.0) (below turn may.0) in
      let here = one_step have step one under in
      let up = more_calls calls (begin_in turn) (bound + 1) in
      let then : HavePaid bound before (calls + begin_in turn) (steps + step) (after_turn t turn) =
      record {
        within = λ after all are. omega (arith, have.within (turn ∷ after) (allowed.0, all) (may.0, are));
        count = omega arith;
        paid = omega arith;
      } in
      let rest = calls_pay (after_turn t turn) turns allowed.1 may.1 then in
      omega arith

  -- turns that keep within the bound take no more steps than the load of their calls
  within_load : (bound : ℕ) (t : Trace T) (turns : List (Turn T)) → AreAllowedBy refuses t turns → AllByRecursion May turns
      → ((turns : List (Turn T)) → AreAllowedBy refuses t turns → AllByRecursion May turns
      → AreWithinEnds bound (steps_in t turns) (ends t.events) (ends (after_turns t turns).events))
      → steps_in t turns ≤ load bound (pending ps t.world + begins_in turns)
  within_load bound t turns allowed may keeps =
      let first : HavePaid bound (ends t.events) (pending ps t.world) 0 t =
      record { within = λ turns allowed may. omega (arith, keeps turns allowed may); count = omega arith; paid = omega arith } in
      let all = calls_pay t turns allowed may first in
      omega arith

-- turns that keep within the bound take no more steps than the load of their calls; a party may stand in the list twice
pub load_within : {T : Type 0} (refuses : World T → Turn T → Option Refusal)
    → ((w : World T) (turn : Turn T) → refuses w turn ≡ None → IsPossible w turn)
    → (ps : List ℕ) (May : Turn T → Type 0) → ((turn : Turn T) → May turn → IsAmong ps turn)
    → (bound : ℕ) (t : Trace T) (turns : List (Turn T)) → AreAllowedBy refuses t turns → AllByRecursion May turns
    → ((turns : List (Turn T)) → AreAllowedBy refuses t turns → AllByRecursion May turns
    → AreWithinEnds bound (steps_in t turns) (ends t.events) (ends (after_turns t turns).events))
    → steps_in t turns ≤ load bound (pending ps t.world + begins_in turns)
load_within {T} refuses possible ps May below bound t turns allowed may keeps =
    let o = once_each T ps in
    let few = within_load refuses possible o.once o.apart May (λ turn h. among_more ps o.once o.all turn (below turn h)) bound t turns allowed may keeps in
    let up = worth (pending o.once t.world + begins_in turns) (pending ps t.world + begins_in turns) (bound + 1) (omega (arith, o.fewer t.world)) in
    omega arith

module _ {T : Type 0} where
  -- If calls keep ending with this bound, then a finite load ends with it.
  pub loads_end : (kind : Kind) (bound : Bound) → KeepsEnding T kind bound → EndsLoad T kind bound
  loads_end kind bound keeps t is r ps turns allowed below =
      load_within call_refusal possible_on ps (IsAmong ps) (λ turn may. may) (bound (length ps) t.world.capacity t.world.coding.size) t turns allowed below
      (keeps t is r ps)

  -- turns of which two things hold have both of each turn
  pub both : (P Q : Turn T → Type 0) (turns : List (Turn T)) → AllByRecursion P turns → AllByRecursion Q turns → AllByRecursion (λ turn. P turn × Q turn) turns
  both P Q [] ps qs = tt
  both P Q (turn ∷ turns) ps qs = ((ps.0, qs.0), both P Q turns ps.1 qs.1)

  pub first_all : (P Q : Turn T → Type 0) (turns : List (Turn T)) → AllByRecursion (λ turn. P turn × Q turn) turns → AllByRecursion P turns
  first_all P Q [] all = tt
  first_all P Q (turn ∷ turns) all = (all.0.0, first_all P Q turns all.1)

  pub second_all : (P Q : Turn T → Type 0) (turns : List (Turn T)) → AllByRecursion (λ turn. P turn × Q turn) turns → AllByRecursion Q turns
  second_all P Q [] all = tt
  second_all P Q (turn ∷ turns) all = (all.0.1, second_all P Q turns all.1)

  -- If calls of which `Such` holds keep ending with this bound, every finite load of them ends with it.
  pub loads_end_of : (kind : Kind) (Such : Start T → Type 0) (bound : Bound) → KeepsEndingOf T kind Such bound → EndsLoadOf T kind Such bound
  loads_end_of kind Such bound keeps t is r before ps turns allowed below such =
      load_within call_refusal possible_on ps (λ turn. IsAmong ps turn × BeginsSuch Such turn) (λ turn may. may.0)
      (bound (length ps) t.world.capacity t.world.coding.size) t turns allowed (both (IsAmong ps) (BeginsSuch Such) turns below such)
      (λ turns allowed may.
      keeps t is r before ps turns allowed (first_all (IsAmong ps) (BeginsSuch Such) turns may) (second_all (IsAmong ps) (BeginsSuch Such) turns may))
