-- `visit_elements` (src/container/state.rt): each iteration keeps the invariant of its loop, and the closure has been
-- called with each value that is shown.
use Rattle.std.proofs.Common.{rules, ◌≡◌, ◌≤◌, ◌%◌, length, refl, arith, of_calls}
use Rattle.std.specs.Prelude.{Some, slice_get}
use Rattle.std.proofs.lemmas.Option.{slice_get_read}
use denote.Param.Always.{always_mut}
use denote.Param.Members.{Called}
use Rattle.steps.proofs.Elements.{folds_even, folds_odd, called_at, shown_all, shown_stopped}
use Rattle.steps.specs.Container.State.{at_value}
use Rattle.steps.specs.declared.enums.CallbackProgression.TheVariants.{Continue}
use Rattle.steps.proofs.container.state.visit_elements.Goals as goal
use Rattle.steps.proofs.container.state.visit_elements.Given as given

-- an element that shows no value is passed, and the closure stays as it was
pub elements-preserved-then-element-eq0 : goal.elements-preserved-then-element-eq0
elements-preserved-then-element-eq0 g c =
    let es = c.args.elements.now in
    let e = c.index-elements-index.result in
    let at : slice_get es c.elements.index ≡ Some e = search (rules, slice_get_read) in
    let even : e.count % 2 ≡ 0 = omega arith in (
      c.elements.invariant.0,
      folds_even
          (λ p x q. at_value (λ f i r said h. given.F-step g f i r said h) p x Continue q)
          c.args.visit c.elements.visit es c.elements.index e at even c.elements.invariant.1,
    )

-- each iteration over `elements` keeps the invariant of the loop
pub elements-preserved : goal.elements-preserved
elements-preserved g c =
    let es = c.args.elements.now in
    let e = c.index-elements-index.result in
    let at : slice_get es c.elements.index ≡ Some e = search (rules, slice_get_read) in
    let odd : e.count % 2 ≡ 1 = omega arith in
    let before = c.elements.invariant.0 in
    let again : always_mut g.F.FnMut c.visit.new.self = search of_calls in (
      again,
      folds_odd
          (λ p x q. at_value (λ f i r said h. given.F-step g f i r said h) p x Continue q)
          c.args.visit c.elements.visit c.visit.new.self es c.elements.index e at odd
          c.elements.invariant.1
          (called_at (λ f i r said h. Called g.F.FnMut f (i, (r, tt)) said h) _ _ _ _ _ _ _
          c.visit.ensures c.in-Continue.is refl),
    )

-- where the answer is `Stop`, its return meets what it ensures
pub returns-in-Stop : goal.returns-in-Stop
returns-in-Stop g c =
    let es = c.args.elements.now in
    let e = c.index-elements-index.result in
    let at : slice_get es c.elements.index ≡ Some e = search (rules, slice_get_read) in
    let odd : e.count % 2 ≡ 1 = omega arith in
    shown_stopped
    (λ p x said q. at_value (λ f i r s h. given.F-step g f i r s h) p x said q)
    c.args.visit c.elements.visit es c.elements.index e c.visit.new.self at odd
    c.elements.invariant.1
    (called_at (λ f i r said h. Called g.F.FnMut f (i, (r, tt)) said h) _ _ _ _ _ _ _
    c.visit.ensures c.in-Stop.is refl)

-- its return meets what it ensures
pub returns : goal.returns
returns g c =
    let es = c.args.elements.now in
    let past : length es ≤ c.elements.index = omega arith in
    shown_all
    (λ p x said q. at_value (λ f i r s h. given.F-step g f i r s h) p x said q)
    c.args.visit c.elements.visit es c.elements.index past c.elements.invariant.1
