-- `drain` (src/drain.rt): what was taken out of each place in all is then what was counted there.
use Rattle.std.proofs.Common.{sym, subst}
use Rattle.lock_free.specs.Coding.{one_word}
use Rattle.lock_free.specs.Shares.{IsAll}
use Rattle.lock_free.specs.Counts.Calls.{view, history, share, set_of}
use Rattle.uses_laws.proofs.Drained.{drained}
use Rattle.uses_laws.proofs.drain.drain.Goals as goal

-- after the reset as much was taken out of each place as was counted there
pub returns : goal.returns
returns c place low few =
    let old = c.args.pass.now in
    let new = c.reset_all.new.pass in
    let whole : IsAll (share new) = subst IsAll (sym c.reset_all.ensures.same.share) c.requires.whole in
    drained _ _ _ _ (view old) (view new) c.reset_all.ensures.taken.taken c.reset_all.ensures.taken.stood (c.requires.all c.requires.whole)
    (c.reset_all.ensures.same.all whole)
    (c.counts_are_taken_whole.ensures one_word (set_of new).capacity (history new) c.history.ensures.history)
    (c.counts_are_conserved.ensures.conserved one_word (set_of new).capacity (history new) c.history.ensures.history)
    place low few
