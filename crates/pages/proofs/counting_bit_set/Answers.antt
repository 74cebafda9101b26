-- The law `counting_bit_set` (src/lib.rt): the counting bit set, of any parties: the theorem of its page; at each place each call acts
-- at one moment inside it, and whatever was counted there was taken out by one call, or is its count; in fewer than 2^63 turns no count
-- wraps.
use Rattle.pages.proofs.CountingBitSet.{acts_at_a_place}
use Rattle.pages.proofs.counting_bit_set.Goals as goal

pub returns : goal.returns
returns c capacity place turns below few = acts_at_a_place capacity place below turns few
