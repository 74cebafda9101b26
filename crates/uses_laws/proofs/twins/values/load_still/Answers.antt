-- `load_still` (src/twins/values.rt): where it returns a value, that is the last one stored as the second look ends.
use Rattle.std.proofs.Common.{◌≡◌, sym, subst}
use Rattle.lock_free.specs.Value.Calls.{view}
use Rattle.lock_free.specs.Value.Contracts.{HasLoaded, HasSeenVersion}
use Rattle.lock_free.specs.Value.Stored.{stored}
use Rattle.uses_laws.proofs.Unchanged.{beginning_of_both, still_last}
use Rattle.uses_laws.proofs.twins.values.load_still.Goals as goal

-- where the version is the same before and after the load, the value is still the last one stored
pub returns-then-first-later : goal.returns-then-first-later
returns-then-first-later g c =
    let old = view c.args.pass.now in
    let a = view c.version-first.new.pass in
    let b = view c.load-loaded.new.pass in
    let d = view c.version-later.new.pass in
    let n = c.version-first.result in
    let one : HasSeenVersion n old a = c.version-first.ensures.answer in
    let has : HasLoaded c.load-loaded.result a b = c.load-loaded.ensures.loaded in
    let two : HasSeenVersion c.version-later.result b d = c.version-later.ensures.answer in
    let again : HasSeenVersion n b d = subst (λ v. HasSeenVersion v b d) (sym c.if-first-later.true) two in
    let on = c.version-later.ensures.same.goes.since in
    let both = beginning_of_both a.seen b.seen d.seen c.load-loaded.ensures.same.goes.since on in
    let same : stored d.seen ≡ stored a.seen = c.equal_versions_tell.ensures n old a b d one again both in
    still_last c.load-loaded.result a b d has on same
