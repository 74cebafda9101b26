-- The invariant of the loop of `visit_elements`, which calls a closure for each value that a
-- container's state shows.
use Rattle.std.proofs.Common.{take}
use Rattle.std.specs.List.{FoldsTo}
use Rattle.steps.specs.Container.State.{at_value, shown_from}
use Rattle.steps.specs.declared.enums.CallbackProgression.TheVariants.{Continue}
use Rattle.steps.proofs.container.state.visit_elements.Given as given

-- the closure can still be called, and was called for each element so far that shows a value
abbrev pub invariant-elements : given.invariant-elements
invariant-elements g l =
    given.F-IsAlwaysCallable g l.visit
    × FoldsTo
    (λ p x q. at_value (λ f i r said h. given.F-step g f i r said h) p x Continue q)
    l.fn.visit (shown_from 0 (take l.index l.elements)) l.visit
