-- `total` (src/totals.rt): its arithmetic does not overflow, and its return is how often the place was counted.
use Rattle.std.proofs.Common.{sym, subst, arith}
use Rattle.lock_free.specs.Coding.{one_word}
use Rattle.lock_free.specs.Shares.{IsAll}
use Rattle.lock_free.specs.Counts.Calls.{view, history, share, set_of}
use Rattle.uses_laws.proofs.Added.{all_counted}
use Rattle.uses_laws.proofs.totals.total.Goals as goal

-- what was taken out and what still stands are together less than 2^64
pub overflow_add-result : goal.overflow_add-result
overflow_add-result c =
    let old = c.args.pass.now in
    let new = c.set-left.new.pass in
    let place = c.args.place in
    let whole : IsAll (share new) = subst IsAll (sym c.set-left.ensures.same.share) c.requires.whole in
    let so = c.counts_are_conserved.ensures.conserved one_word (set_of old).capacity (history old) c.history.ensures.history place in
    let sum =
    all_counted (view old) (view new) place c.set-left.result (c.requires.all c.requires.whole) (c.set-left.ensures.same.all whole)
    c.set-left.ensures.counted.counted c.set-left.ensures.counted.answers so c.requires.few in
    let out = c.requires.out in
    let few = c.requires.few in
    omega arith

-- what was taken out and what still stands are together what was counted
pub returns : goal.returns
returns c =
    let old = c.args.pass.now in
    let new = c.set-left.new.pass in
    let place = c.args.place in
    let whole : IsAll (share new) = subst IsAll (sym c.set-left.ensures.same.share) c.requires.whole in
    let so = c.counts_are_conserved.ensures.conserved one_word (set_of old).capacity (history old) c.history.ensures.history place in
    let sum =
    all_counted (view old) (view new) place c.set-left.result (c.requires.all c.requires.whole) (c.set-left.ensures.same.all whole)
    c.set-left.ensures.counted.counted c.set-left.ensures.counted.answers so c.requires.few in
    let out = c.requires.out in
    omega arith
