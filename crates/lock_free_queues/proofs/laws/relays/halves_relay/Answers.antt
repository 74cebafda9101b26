-- The law `halves_relay` (src/laws/relays.rt): once two halves of a first pass are joined and one
-- further pop was made, what one received is a beginning of what the other sent. All of it was received
-- just where that pop found nothing, and at most the capacity is left.
use Rattle.lock_free_queues.proofs.Queues.Relays.{views_relayed}
use Rattle.lock_free_queues.proofs.laws.relays.halves_relay.Goals as goal

pub returns : goal.returns
returns g c named code queue n most role first left right mine theirs joined taking last sent received answer emptied
    tells bounded opens cut s r h none history goes acquired pops now popped empty is =
    views_relayed code queue answer tells bounded opens cut s r h none history goes acquired pops now popped empty is
