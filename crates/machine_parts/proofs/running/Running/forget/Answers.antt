-- `Running::forget` (src/running.rt): `self` still meets the invariant of its type.
use Rattle.model.specs.Coding.{coding_by}
use Rattle.machine_parts.specs.Parts.{trace_of}
use Rattle.machine_parts.proofs.Behind.{forgotten}
use Rattle.machine_parts.proofs.running.Running.forget.Goals as goal

pub invariant_of-self : goal.invariant_of-self
invariant_of-self g c = rw c.clear.ensures.items (forgotten (trace_of (coding_by g.T.Words) c.self.inside.parts) c.self.invariant)
