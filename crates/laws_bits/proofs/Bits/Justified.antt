-- What a step of a call of a bit set writes; and with it all that a kind owes, so all that is promised of
-- every run of a bit set.
use Rattle.laws_bits.proofs.Names.{◌≡◌, ℕ, List, [], ◌∷◌, refl, sym, subst, AllByRecursion, SetStage, ResetNextStage}
use Rattle.laws_bits.proofs.Names.{places_in, Event, BitsStart, BitsFlight, Next, Coding, set_events, reset_events}
use Rattle.laws_bits.proofs.Names.{effects_of, IsEffectOf, Keeps, IsBitSet, IsReachedOn, Trace}
use native.Mathlib.Omega.{arith}
use Rattle.model.specs.declared.families.bits.BitsStart.TheVariants as starts
use Rattle.model.specs.declared.families.bits.calls.BitsFlight.TheVariants as calls
use Rattle.model.specs.declared.turn.Kind.TheVariants as kinds
use Rattle.laws_bits.proofs.Bits.Invariant.{bit_set, holds_more, call_still, Holds}
use Rattle.laws_bits.proofs.Bits.Kept.{bits_kept, steps_most, backs_paid}
use Rattle.laws_bits.proofs.Bits.Knows.{CallAt}
use Rattle.laws_bits.proofs.Bits.Lists.{all_cleared}
use Rattle.laws_bits.proofs.Bits.Sound.{opens, never_asks, step_shows, first_is, begins_own, begins_none}
use Rattle.laws_bits.proofs.Laws.{SetLaws, sets_keep, sound_on}

module _ (T : Type 0) where
  -- what a step of a set writes is an effect of its party
  set_effects : (p bit old : ℕ) (stage : SetStage) → AllByRecursion (IsEffectOf {T = T} (Next p)) (set_events p bit stage old)
  set_effects = grind arith

  -- what a step of a reset of the next bit writes is an effect of its party
  next_effects : (p c old : ℕ) (stage : ResetNextStage) → AllByRecursion (IsEffectOf {T = T} (Next p)) (reset_events p c stage old)
  next_effects = grind arith

  -- the events of cleared bits are effects of their party
  all_effects : (p : ℕ) (bs : List ℕ) → AllByRecursion (IsEffectOf {T = T} (Next p)) (all_cleared p bs)
  all_effects p [] = tt
  all_effects p (b ∷ bs) = (refl, all_effects p bs)

module _ {T : Type 0} where
  -- what a step of a call at its stage writes are effects of its party
  are_effects : (c p old : ℕ) (wrote : List (Event T)) (start : BitsStart) (flight : BitsFlight)
      → CallAt c wrote start flight → AllByRecursion (IsEffectOf {T = T} (Next p)) (effects_of p flight old)
  are_effects c p old wrote (starts.Set bit) (calls.Set run) stands = set_effects T p run.given old run.call.stage
  are_effects c p old wrote starts.ResetNext (calls.ResetNext run) stands = next_effects T p run.call.capacity old run.call.stage
  are_effects c p old wrote starts.ResetAll (calls.ResetAll run) stands = all_effects T p (places_in run.call.word old)
  are_effects c p old wrote (starts.IsSet bit) (calls.IsSet run) stands = tt
  are_effects c p old wrote start flight stands = absurd stands

  -- all that a kind owes holds of the bit sets
  pub laws : (code : Coding T) (c : ℕ) → SetLaws bit_set code c
  laws code c =
      record {
        bare = refl;
        opens = opens c;
        promise = refl;
        tells = λ old turn new. tt;
        keeps_promise = λ t same small. bits_kept same;
        holds = λ words events turns. holds_more;
        still = λ q words events turns changes words' es changes' preserves none. call_still preserves.pays q events es none;
        begins_own = begins_own c;
        begins = λ p start words events turns changes h. begins_none c p start words events changes;
        first = first_is c;
        asks = never_asks c;
        effects = are_effects c;
        most = steps_most c;
        paid = backs_paid;
        step = λ scene holds. step_shows code scene holds;
      }

  -- all that is promised of every run of a bit set holds
  pub bits_keep : Keeps T kinds.Bits
  bits_keep = sets_keep bit_set laws

  -- what is promised of a bit set holds of each run, however many turns and parties it has
  pub bits_go_on : (t : Trace T) → t.world.kind ≡ kinds.Bits → IsReachedOn t → IsBitSet t
  bits_go_on t kind_is reached_on =
      let sound_there = sound_on bit_set laws t kind_is reached_on in
      bits_kept refl (subst (λ ws. Holds t.world.capacity ws t.events) (sym sound_there.fit.words) sound_there.holds.0)
