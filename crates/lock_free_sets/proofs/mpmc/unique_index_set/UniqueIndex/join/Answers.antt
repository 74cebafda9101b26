-- `UniqueIndex::join` (src/mpmc/unique_index_set/index.rt): `self` meets the invariant of its type.
use Rattle.lock_free_sets.proofs.Names.{ap, subst, sym, ◌∙◌, Holds}
use Rattle.lock_free_sets.specs.UniqueIndexSet.{SetId}
use Rattle.lock_free_sets.proofs.Unique.Holding.{holds_joined}
use Rattle.lock_free_sets.proofs.mpmc.unique_index_set.UniqueIndex.join.Goals as goal

-- the pass that took the other one in still holds the index
pub invariant_of-self : goal.invariant_of-self
invariant_of-self c =
    let mine = c.args.self.now in
    let set = c.join.ensures.same.set in
    record {
      table = ap (λ (z : SetId). z.table) set ∙ mine.table;
      size = ap (λ (z : SetId). z.capacity) set ∙ mine.size;
      held =
          subst (Holds mine.index) (sym c.join.ensures.same.joined.made)
          (holds_joined mine.index mine.pass.seated.seat.me.0 c.args.other.seated.seat.me.0 c.args.other.sound
          c.join.ensures.apart mine.held);
    }
