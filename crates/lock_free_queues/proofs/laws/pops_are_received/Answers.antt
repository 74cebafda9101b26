-- The law `pops_are_received` (src/laws.rt; clauses `acquired`, `popped`, `none`, `peeked` and `released`): a pop that finds a value
-- appends it to those that its pass has received; nothing is appended as the role is taken or given back, where a pop finds none, or by
-- a peek.
use Rattle.lock_free_queues.proofs.Names.{refl, []}
use Rattle.lock_free_queues.proofs.Queues.Sent.{received_none, received_one, received_still, received_peeked, received_done}
use Rattle.lock_free_queues.proofs.laws.pops_are_received.Goals as goal

-- An acquire of the role appends no value.
pub returns-clause-acquired : goal.returns-clause-acquired
returns-clause-acquired g c named role old new goes h =
    received_none {named = named} {role = role} {old = old} {new = new} {values = []} refl goes h

-- A pop that finds a value appends it.
pub returns-clause-popped : goal.returns-clause-popped
returns-clause-popped g c named values value old was new got goes h =
    received_one {named = named} {old = old} {was = was} {new = new} values value got goes h

-- A pop that finds none appends no value.
pub returns-clause-none : goal.returns-clause-none
returns-clause-none g c named values old was new got goes h =
    received_still {named = named} {old = old} {was = was} {new = new} {values = values} got goes h

-- A peek appends no value.
pub returns-clause-peeked : goal.returns-clause-peeked
returns-clause-peeked g c named values answer old was new got goes h =
    received_peeked {named = named} {old = old} {was = was} {new = new} {values = values} answer got goes h

-- A release of the role appends no value.
pub returns-clause-released : goal.returns-clause-released
returns-clause-released g c named role values old was new got goes h is =
    received_done {named = named} {role = role} {old = old}
    {was = was} {new = new} {values = values} got goes h is
