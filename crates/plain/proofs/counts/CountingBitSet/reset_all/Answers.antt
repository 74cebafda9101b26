-- `CountingBitSet::reset_all` (src/counts.rt): its closure takes what the set has, as clause `takes` of
-- `empty` requires, and was called as clause `calls` says.
use Rattle.std.proofs.Common.{ℕ, List, subst, sym}
use Rattle.steps.specs.Objects.Counts.{states}
use Rattle.plain.specs.Visits.{Takes, WasCalled}
use Rattle.plain.proofs.counts.CountingBitSet.reset_all.Given as given
use Rattle.plain.proofs.counts.CountingBitSet.reset_all.Goals as goal

-- `empty` may be called: the closure of `reset_all` takes what the set has (clause `takes`)
pub empty-requires-clause-takes : goal.empty-requires-clause-takes
empty-requires-clause-takes g c =
    subst (λ (s : List ℕ). Takes (given.F-pre g) (given.F-step g) (states s) c.args.visit.now)
    (sym c.self.view_is) c.requires

-- `reset_all` has called the closure as its clause `calls` says
pub returns-clause-calls : goal.returns-clause-calls
returns-clause-calls g c =
    subst (λ (s : List ℕ). WasCalled (given.F-step g) (states s) c.args.visit.now c.empty.new.visit) c.self.view_is
    c.empty.ensures.calls
