-- `look_at` (src/mpmc/robust_unique_index_set/finds.rt): what its load tells.
use Rattle.lock_free_owners.proofs.Names.{one_word, LooksAt}
use Rattle.model.specs.declared.turn.Kind.TheVariants as kinds
use Rattle.lock_free_owners.proofs.mpmc.robust_unique_index_set.finds.look_at.Given as given

-- the load tells a look at this word: the pass then knows the history up to it
abbrev pub ghosts-look : given.ghosts-look
ghosts-look a = record { told = λ u n w. LooksAt one_word kinds.Robust u.capacity a.word u n w }
