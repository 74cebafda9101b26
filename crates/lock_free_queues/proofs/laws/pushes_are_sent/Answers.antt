-- The law `pushes_are_sent` (src/laws.rt; clauses `acquired`, `pushed`, `refused` and `released`): a push that succeeds appends its
-- value to those that its pass has sent; nothing is appended as the role is taken or given back, or where a push is refused.
use Rattle.lock_free_queues.proofs.Queues.Sent.{sent_none, sent_one, sent_refused, sent_done}
use Rattle.lock_free_queues.proofs.laws.pushes_are_sent.Goals as goal

-- An acquire of the role appends no value.
pub returns-clause-acquired : goal.returns-clause-acquired
returns-clause-acquired g c named role old new goes h =
    sent_none {named = named} {role = role} {old = old} {new = new} goes h

-- A push that succeeds appends its value.
pub returns-clause-pushed : goal.returns-clause-pushed
returns-clause-pushed g c named values value old was new sent goes h =
    sent_one {named = named} {old = old} {was = was} {new = new} values value sent goes h

-- A push that was refused appends no value.
pub returns-clause-refused : goal.returns-clause-refused
returns-clause-refused g c named room values item old was new sent goes h =
    sent_refused {named = named} {old = old} {was = was}
    {new = new} {values = values} {room = room} {item = item} sent goes h

-- A release of the role appends no value.
pub returns-clause-released : goal.returns-clause-released
returns-clause-released g c named role values old was new sent goes h is =
    sent_done {named = named} {role = role} {old = old}
    {was = was} {new = new} {values = values} sent goes h is
