-- The law `bit_set` (src/lib.rt): the bit set, of any parties: the theorem of its page; at each place each call acts at one moment
-- inside it, and whatever bit was set there was reset by one call, or stands.
use Rattle.pages.proofs.BitSet.{acts_at_a_place}
use Rattle.pages.proofs.bit_set.Goals as goal

pub returns : goal.returns
returns c capacity place turns below = acts_at_a_place capacity place below turns
