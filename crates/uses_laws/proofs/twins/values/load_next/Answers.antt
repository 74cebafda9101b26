-- `load_next` (src/twins/values.rt): its return has a version that is not below that of any load the pass knew.
use Rattle.std.proofs.Common.{◌+◌, length}
use Rattle.lock_free.specs.Value.Calls.{view}
use Rattle.lock_free.specs.Value.Contracts.{HasLoaded}
use Rattle.lock_free.specs.Value.Stored.{stored}
use Rattle.uses_laws.proofs.twins.values.load_next.Goals as goal

-- the load has a version that is at least each version of a load that was known
pub returns : goal.returns
returns g c =
    let old = view c.args.pass.now in
    let new = view c.load.new.pass in
    let has : HasLoaded c.load.result old new = c.load.ensures.loaded in
    let rises = c.versions_rise.ensures.loaded c.load.result old new has in
    (has.by, length (stored has.before) + 1, rises.0, rises.2)
