-- `take_in` (src/sole.rt): its return meets the clauses `few` and `sole`.
use Rattle.std.proofs.Common.{◌≡◌, ◌≤◌, ◌+◌, is_some, length, sym, ap, subst, ◌∙◌}
use Rattle.lock_free.specs.Coding.{one_word}
use Rattle.lock_free.specs.IndexReading.{holder_of}
use Rattle.lock_free.specs.Shares.{IsAll}
use Rattle.lock_free.specs.UniqueIndexSet.{SetId, capacity_of, history, made, share, set_of}
use Rattle.uses_laws.proofs.Shared.{few_held, none_else}
use Rattle.uses_laws.proofs.sole.take_in.Goals as goal

-- both passes together held at most as many indices as there are
pub returns-clause-few : goal.returns-clause-few
returns-clause-few c is js one two =
    let new = c.join.new.self in
    let mine = made c.args.mine.now in
    let theirs = made c.args.other in
    let whole : IsAll (share new) = subst IsAll (sym c.join.ensures.same.joined.share) c.requires.whole in
    let size : (set_of new).capacity ≡ capacity_of c.args.set.now = ap (λ (z : SetId). z.capacity) (c.join.ensures.same.set ∙ c.requires.mine) in
    subst (λ n. length is + length js ≤ n) size
    (few_held (set_of new).capacity (history new) (made new) mine theirs (λ i. is_some (holder_of i (history new))) c.join.ensures.same.joined.made
    (c.join.ensures.same.all whole)
    (c.indices_are_conserved.ensures.conserved one_word (set_of new).capacity (history new) c.history.ensures.history)
    (c.indices_are_conserved.ensures.within one_word (set_of new).capacity (history new) c.history.ensures.history) is js one two)

-- where the one pass held all indices, the other held nothing
pub returns-clause-sole : goal.returns-clause-sole
returns-clause-sole c is one long =
    let new = c.join.new.self in
    let mine = made c.args.mine.now in
    let theirs = made c.args.other in
    let whole : IsAll (share new) = subst IsAll (sym c.join.ensures.same.joined.share) c.requires.whole in
    let size : (set_of new).capacity ≡ capacity_of c.args.set.now = ap (λ (z : SetId). z.capacity) (c.join.ensures.same.set ∙ c.requires.mine) in
    none_else (set_of new).capacity (history new) (made new) mine theirs (λ i. is_some (holder_of i (history new))) c.join.ensures.same.joined.made
    (c.join.ensures.same.all whole)
    (c.indices_are_conserved.ensures.conserved one_word (set_of new).capacity (history new) c.history.ensures.history)
    (c.indices_are_conserved.ensures.within one_word (set_of new).capacity (history new) c.history.ensures.history)
    c.requires.sound.least is one (long ∙ sym size)
