-- `Held::load` (src/spmc/unrestricted_atomic/loads.rt): its call of `load_by` meets what that requires.
use Rattle.std.proofs.Common.{rules, refl, arith}
use Rattle.lock_free_value.proofs.spmc.unrestricted_atomic.loads.Held+T+ValueRule+T.load.Goals as goal

pub load_by-requires : goal.load_by-requires
load_by-requires g c = record { room = (2, search rules, omega arith, refl) }

pub load_by-requires-then-WORDS-le16 : goal.load_by-requires-then-WORDS-le16
load_by-requires-then-WORDS-le16 g c = record { room = (16, search rules, omega arith, refl) }
