-- `CountingBitSet::reset_all` (src/mpmc/counting_bit_set/calls.rt): its call of `take_all` meets the requirement `states`, and its
-- return meets the clause `taken`.
use Rattle.lock_free_sets.proofs.Names.{rules, ap, sym}
use Rattle.lock_free_sets.proofs.Counts.Handed.{takes_counts_at}
use Rattle.lock_free_sets.specs.Sets.Calls.{SetId}
use Rattle.lock_free_sets.proofs.Counts.Taken.{reset_all, reset_none}
use Rattle.lock_free_sets.proofs.Sets.Passes.{same_size}
use Rattle.lock_free_sets.proofs.mpmc.counting_bit_set.calls.CountingBitSet.reset_all.Goals as goal

pub take_all-requires-clause-states : goal.take_all-requires-clause-states
take_all-requires-clause-states g c = takes_counts_at (ap (λ (z : SetId). z.capacity) (sym c.requires.pass)) c.requires.states

-- a set without places has no count to take out (clause `taken`)
pub returns-then-capacity-eq0-clause-taken : goal.returns-then-capacity-eq0-clause-taken
returns-then-capacity-eq0-clause-taken g c =
    reset_none (same_size c.args.self.now c.args.pass.now c.requires.pass) c.empty_none.ensures.done (search rules) c.empty_none.ensures.called

-- behind the loop all counts of the set were taken out (clause `taken`)
pub returns-else-capacity-eq0-clause-taken : goal.returns-else-capacity-eq0-clause-taken
returns-else-capacity-eq0-clause-taken g c =
    reset_all (same_size c.args.self.now c.args.pass.now c.requires.pass) c.take_all.ensures.done
    (ap (λ (z : SetId). z.capacity) c.requires.pass) c.take_all.ensures.taken
