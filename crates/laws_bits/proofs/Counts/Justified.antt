-- What a step of a call of a counting bit set writes; and with it all that a kind owes, so all that is
-- promised of every run of a counting bit set.
use Rattle.laws_bits.proofs.Names.{◌≡◌, ℕ, ◌-◌, List, refl, sym, subst, AllByRecursion, Event, BitsStart, BitsFlight}
use Rattle.laws_bits.proofs.Names.{Next, Coding, effects_of, IsEffectOf, Keeps, IsCountingOn, IsReachedOn, Trace}
use native.Mathlib.Omega.{arith}
use Rattle.model.specs.declared.turn.Kind.TheVariants as kinds
use Rattle.laws_bits.proofs.Counts.Invariant.{Holds, CallAt, counting_set, holds_more, call_still}
use Rattle.laws_bits.proofs.Counts.Kept.{counts_kept, counts_on, steps_most, backs_paid}
use Rattle.laws_bits.proofs.Counts.Sound.{opens, never_asks, step_shows, first_is, begins_own, begins_none}
use Rattle.laws_bits.proofs.Laws.{SetLaws, sets_keep, sound_on}

-- what a step of a call at its stage writes are effects of its party
are_effects : (T : Type 0) (c p old : ℕ) (wrote : List (Event T)) (start : BitsStart) (flight : BitsFlight)
    → CallAt c wrote start flight → AllByRecursion (IsEffectOf {T = T} (Next p)) (effects_of p flight old)
are_effects = grind arith

module _ {T : Type 0} where
  -- all that a kind owes holds of the counting bit sets
  pub laws : (code : Coding T) (c : ℕ) → SetLaws counting_set code c
  laws code c =
      record {
        bare = refl;
        opens = opens c;
        promise = refl;
        tells = λ old turn new. tt;
        keeps_promise = counts_kept;
        holds = λ words events turns changes words' es changes'. holds_more;
        still = λ q words events turns changes words' es changes' preserves none since. call_still q events es none;
        begins_own = begins_own c;
        begins = λ p start words events turns changes. begins_none c p start words events turns;
        first = first_is c;
        asks = never_asks c;
        effects = are_effects T c;
        most = λ wrote backs. steps_most c wrote;
        paid = λ p events words since changes. backs_paid p events (changes - since);
        step = step_shows code;
      }

  -- all that is promised of every run of a counting bit set holds
  pub counts_keep : Keeps T kinds.Counts
  counts_keep = sets_keep counting_set laws

  -- what is promised of every run holds however many turns and parties it has
  pub counts_go_on : (t : Trace T) → t.world.kind ≡ kinds.Counts → IsReachedOn t → IsCountingOn t
  counts_go_on t kind_is reached_on =
      let sound_there = sound_on counting_set laws t kind_is reached_on in
      counts_on refl (subst (λ ws. Holds t.world.capacity ws t.events t.world.turns) (sym sound_there.fit.words) sound_there.holds.0)
