-- `Container::update_state` (src/mpmc/container/looks.rt): how the look that it makes begins.
use Rattle.lock_free_owners.proofs.Names.{UpdateState, seen}
use Rattle.lock_free_owners.proofs.mpmc.container.Container.update_state.Given as given

-- as the call `update_state`, in the view of the seat, with what the given state shows
abbrev pub ghosts-bring_up : given.ghosts-bring_up
ghosts-bring_up g a = record { which = UpdateState; from = seen a.seat.now; shown = a.state.now.shown }
