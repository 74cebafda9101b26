-- `BitSet::reset_all` (src/mpmc/bit_set/calls.rt): its call of `clear_all` meets the requirement `visits`, and its return meets the
-- clause `cleared`.
use Rattle.lock_free_sets.proofs.Names.{rules, ap, sym}
use Rattle.threaded.proofs.Callable.{takes_places_at}
use Rattle.lock_free_sets.specs.Sets.Calls.{SetId}
use Rattle.lock_free_sets.proofs.Bits.Cleared.{reset_all, reset_none}
use Rattle.lock_free_sets.proofs.Sets.Passes.{same_size}
use Rattle.lock_free_sets.proofs.mpmc.bit_set.calls.BitSet.reset_all.Goals as goal

pub clear_all-requires-clause-visits : goal.clear_all-requires-clause-visits
clear_all-requires-clause-visits g c = takes_places_at (ap (λ (z : SetId). z.capacity) (sym c.requires.pass)) c.requires.places

-- a set without places has no place to clear (clause `cleared`)
pub returns-then-capacity-eq0-clause-cleared : goal.returns-then-capacity-eq0-clause-cleared
returns-then-capacity-eq0-clause-cleared g c =
    reset_none (same_size c.args.self.now c.args.pass.now c.requires.pass) c.empty_none.ensures.done (search rules) c.empty_none.ensures.called

-- behind the loop all places of the set were cleared (clause `cleared`)
pub returns-else-capacity-eq0-clause-cleared : goal.returns-else-capacity-eq0-clause-cleared
returns-else-capacity-eq0-clause-cleared g c =
    reset_all (same_size c.args.self.now c.args.pass.now c.requires.pass) c.clear_all.ensures.done
    (ap (λ (z : SetId). z.capacity) c.requires.pass) c.clear_all.ensures.cleared
