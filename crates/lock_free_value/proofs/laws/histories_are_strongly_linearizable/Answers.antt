-- The law `histories_are_strongly_linearizable` (src/laws.rt; clauses `strong` and `agree`): one function of events gives the order of
-- the stores and loads of a value, to which a history that goes on only adds.
use Rattle.std.proofs.Common.{◌≡◌, List, ap, subst, sym, ◌∙◌}
use Rattle.model.specs.declared.event.Event.{Event}
use Rattle.model.specs.declared.turn.Kind.TheVariants as kinds
use Rattle.model.specs.Coding.{Coding}
use Rattle.model.specs.Linearized.{as_value, is_store_or_load}
use Rattle.model.specs.Promises.{IsKeptBy}
use Rattle.model.specs.Promises.Families.{promise_of}
use Rattle.model.specs.StronglyLinearizable.{IsLinearizedBy}
use Rattle.model.proofs.Linearizable.Kinds.{value_by_acts}
use Rattle.model.proofs.Linearizable.Strong.{order, strongly}
use Rattle.laws_value.proofs.Sound.{kept_on}
use Rattle.history.specs.History.{IsHistory}
use Rattle.lock_free_value.proofs.laws.histories_are_strongly_linearizable.Goals as goal

-- a history of a value is linearizable as one value, in the order in which its calls act
by_acts : {T : Type 0} (code : Coding T) (events : List (Event T)) → IsHistory code kinds.Atomic 1 events
    → IsLinearizedBy (as_value code) (order is_store_or_load events) events
by_acts {T} code events h =
    let trace_now = h.trace in
    let run_now = h.run in
    let kept = kept_on trace_now run_now.of_kind run_now.reached.coded run_now.fresh in
    subst (λ es. IsLinearizedBy (as_value code) (order is_store_or_load es) es) (sym h.is)
    (subst (λ z. IsLinearizedBy (as_value z) (order is_store_or_load trace_now.events) trace_now.events) run_now.coded
    (value_by_acts (subst (λ P. IsKeptBy P trace_now) (ap (promise_of {T = T}) run_now.of_kind) kept)))

pub returns-clause-strong : goal.returns-clause-strong
returns-clause-strong g c code = strongly (IsHistory code kinds.Atomic 1) (as_value code) (by_acts code)

pub returns-clause-agree : goal.returns-clause-agree
returns-clause-agree g c code all old new begins =
    let grown = all.grows old.seen begins.rest in
    (grown.0, ap all.order begins.is ∙ grown.1)
