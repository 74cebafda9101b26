-- `BitSet::reset_all` (src/bits.rt): its closure takes what the set has, as clause `takes` of `empty`
-- requires, and was called as clause `calls` says.
use Rattle.std.proofs.Common.{subst, sym}
use Rattle.plain.proofs.Names.{Places, standing}
use Rattle.plain.specs.Visits.{Takes, WasCalled}
use Rattle.plain.proofs.bits.BitSet.reset_all.Given as given
use Rattle.plain.proofs.bits.BitSet.reset_all.Goals as goal

-- `empty` may be called: the closure of `reset_all` takes what the set has (clause `takes`)
pub empty-requires-clause-takes : goal.empty-requires-clause-takes
empty-requires-clause-takes g c =
    subst (λ (s : Places). Takes (given.F-pre g) (given.F-step g) (standing s) c.args.visit.now)
    (sym c.self.view_is) c.requires

-- `reset_all` has called the closure as its clause `calls` says
pub returns-clause-calls : goal.returns-clause-calls
returns-clause-calls g c =
    subst (λ (s : Places). WasCalled (given.F-step g) (standing s) c.args.visit.now c.empty.new.visit) c.self.view_is
    c.empty.ensures.calls
