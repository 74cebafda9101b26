-- Lock-freedom of a table at each of its states, from that of what a pass would know that knew all of its turns.
use Rattle.std.proofs.Common.{◌≡◌, ◌≤◌, ℕ, ◌+◌, ◌*◌, None, refl, length, sum_by, arith}
use Rattle.std.specs.Prelude.{IfSome}
use Rattle.atomic_table.specs.Table.{State}
use Rattle.model.specs.declared.event.Start.{Start}
use Rattle.model.specs.declared.turn.Kind.{Kind}
use Rattle.model.specs.declared.turn.Kind.TheVariants.{Robust, Container}
use Rattle.model.specs.Coding.{Coding}
use Rattle.model.specs.LockFree.{AreWithinEnds, Bound, IsDefault, default_bound, default_container_bound, ends, lock_free_bound}
use Rattle.history.specs.declared.view.View.{View}
use Rattle.history.specs.History.{IsMachine, HasAsked, Knows, steps_of_run}
use Rattle.history.specs.Views.{first_view}
use Rattle.history.proofs.OneRun.{knows_all}
use Rattle.headline_threads.specs.Ends.{KnownKeepsEnding, KnownKeepsEndingOf}
use Rattle.headline_threads.specs.Tables.{TablesKeepEnding, TablesAsk, TablesKeepEndingOf, TablesAskOf}
use Rattle.headline_threads.proofs.Ending.{part_ends, robust_by_default, container_by_default}

-- a state `s` of a table
module _ {T : Type 0} {code : Coding T} {kind : Kind} {capacity : ℕ} {s : State (Unit {0}) (View T)} (m : IsMachine code kind capacity s) where
  -- what a pass would know that knew all turns of the table
  abbrev all_known : View T
  all_known =
      record (first_view capacity) { party = None; seen = m.trace.events; turns = m.one.turns; asked = steps_of_run code kind capacity m.one.turns }

  asked_all : HasAsked all_known (steps_of_run code kind capacity m.one.turns)
  asked_all = record { share = (omega arith, omega arith); most = omega arith; all = λ whole. omega arith }

  knows_so : Knows code kind capacity all_known
  knows_so = knows_all code kind capacity m.one m.run refl refl refl asked_all

  -- what the seats have asked for is what the run took, and what they have aside
  within : (bound : ℕ) → AreWithinEnds bound (steps_of_run code kind capacity m.one.turns) 0 (ends m.trace.events)
      → sum_by (λ (v : View T). v.asked) s.views ≤ sum_by (λ (v : View T). v.aside) s.views + (bound + ends m.trace.events * (bound + 1))
  within bound most = let sum = m.asked.sum in omega (most, sum, arith)

module _ {T : Type 0} where
  keep_ending : (kind : Kind) (bound : Bound) → KnownKeepsEnding T kind bound → TablesKeepEnding T kind bound
  keep_ending kind bound law code capacity s m parties act = law code capacity (all_known m) (knows_so m) parties act

  ask : (kind : Kind) (bound : Bound) → KnownKeepsEnding T kind bound → TablesAsk T kind bound
  ask kind bound law code capacity s m parties act =
      within m (bound (length parties) capacity code.size) (keep_ending kind bound law code capacity s m parties act)

  keep_ending_of : (kind : Kind) (Such : Start T → Type 0) (bound : Bound) → KnownKeepsEndingOf T kind Such bound → TablesKeepEndingOf T kind Such bound
  keep_ending_of kind Such bound law code capacity s m parties act such = law code capacity (all_known m) (knows_so m) parties act such

  ask_of : (kind : Kind) (Such : Start T → Type 0) (bound : Bound) → KnownKeepsEndingOf T kind Such bound → TablesAskOf T kind Such bound
  ask_of kind Such bound law code capacity s m parties act such =
      within m (bound (length parties) capacity code.size) (keep_ending_of kind Such bound law code capacity s m parties act such)

pub tables_keep_ending : (T : Type 0) (kind : Kind) → IfSome (lock_free_bound kind) (TablesKeepEnding T kind)
tables_keep_ending T kind = part_ends T kind (TablesKeepEnding T kind) (λ bound all. keep_ending kind bound all.known)

pub tables_ask : (T : Type 0) (kind : Kind) → IfSome (lock_free_bound kind) (TablesAsk T kind)
tables_ask T kind = part_ends T kind (TablesAsk T kind) (λ bound all. ask kind bound all.known)

pub robust_keeps_ending : (T : Type 0) → TablesKeepEndingOf T Robust IsDefault default_bound
robust_keeps_ending T = let all = robust_by_default T in keep_ending_of Robust IsDefault default_bound all.known

pub robust_asks : (T : Type 0) → TablesAskOf T Robust IsDefault default_bound
robust_asks T = let all = robust_by_default T in ask_of Robust IsDefault default_bound all.known

pub container_keeps_ending : (T : Type 0) → TablesKeepEndingOf T Container IsDefault default_container_bound
container_keeps_ending T = let all = container_by_default T in keep_ending_of Container IsDefault default_container_bound all.known

pub container_asks : (T : Type 0) → TablesAskOf T Container IsDefault default_container_bound
container_asks T = let all = container_by_default T in ask_of Container IsDefault default_container_bound all.known
