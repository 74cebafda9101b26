-- The laws of a reached machine's history, and of one that a pass has seen.
use Rattle.std.proofs.Common.{arith}
use Rattle.history.proofs.Names.{◌≡◌, ℕ, List, refl, Coding, IsReachedOn, Trace}
use Rattle.model.specs.declared.event.Event.{Event}
use Rattle.model.specs.declared.turn.Kind.{Kind}
use Rattle.laws_bits.proofs.Bits.Invariant.{bit_set}
use Rattle.laws_bits.proofs.Bits.Justified.{laws as bits_laws, bits_go_on}
use Rattle.laws_bits.proofs.Counts.Invariant.{counting_set}
use Rattle.laws_bits.proofs.Counts.Justified.{laws as counts_laws, counts_go_on}
use Rattle.model.specs.declared.turn.Kind.TheVariants as kinds
use Rattle.laws_bits.proofs.Laws.{sound_on}
use Rattle.history.specs.History.{IsHistory, IsReachedAs}
use Rattle.history_bits.specs.Acts.{ActsByPlace, IsSet}
use Rattle.history_bits.proofs.Acts.BitActs.{bits_act}
use Rattle.history_bits.proofs.Acts.CountActs.{counts_act}
use Rattle.history_bits.proofs.Acts.Finds.{bits_find, counts_find}

module _ {T : Type 0} (t : Trace T) (r : IsReachedOn t) where
  -- in each run of a bit set the calls act place by place
  bits_so : t.world.kind ≡ kinds.Bits → ActsByPlace kinds.Bits t.world.capacity t.events
  bits_so kind_is =
      let kept = bits_go_on t kind_is r in
      bits_act t.world.capacity t.events (sound_on bit_set bits_laws t kind_is r).inv.spans (bits_find t kind_is r) kept.answers kept.within

  -- in each run of a counting bit set the calls act place by place
  counts_so : t.world.kind ≡ kinds.Counts → ActsByPlace kinds.Counts t.world.capacity t.events
  counts_so kind_is =
      let kept = counts_go_on t kind_is r in
      counts_act t.world.capacity t.events (sound_on counting_set counts_laws t kind_is r).inv.spans (counts_find t kind_is r) kept.answers

  of_kind : (kind : Kind) → t.world.kind ≡ kind → IsSet kind → ActsByPlace kind t.world.capacity t.events
  of_kind = grind (arith, bits_so, counts_so)

  pub runs_act : IsSet t.world.kind → ActsByPlace t.world.kind t.world.capacity t.events
  runs_act set = of_kind t.world.kind refl set

-- of a set of places `IsReachedAs` says just that turns lead to it that are not refused
reached_as_set : {T : Type 0} (kind : Kind) → IsSet kind → (t : Trace T) → IsReachedAs kind t → IsReachedOn t
reached_as_set = grind arith

-- in each history of a bit set or of a counting bit set the calls act place by place
pub histories_act : {T : Type 0} (code : Coding T) (kind : Kind) (capacity : ℕ) (events : List (Event T))
    → IsSet kind → IsHistory code kind capacity events → ActsByPlace kind capacity events
histories_act = grind (arith, runs_act, reached_as_set)
