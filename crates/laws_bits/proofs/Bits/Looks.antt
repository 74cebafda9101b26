-- The step of a look at a place of a bit set: it loads the place's element and answers
-- whether the bit stands.
use Rattle.laws_bits.proofs.Names.{◌≡◌, ℕ, ◌+◌, ◌<◌, ◌≤◌, false, Some, List, [], get_or, refl, ap, Ask, Load, element_of, has_flag}
use Rattle.laws_bits.proofs.Names.{stands, BitsFlight, Coding, standing, one_if}
use Rattle.std.proofs.Common.{arith}
use Rattle.model.specs.declared.event.Answer.TheVariants as answers
use Rattle.model.specs.declared.families.bits.BitsStart.TheVariants as starts
use Rattle.model.specs.declared.families.bits.calls.BitsFlight.TheVariants as calls
use Rattle.model.specs.Families.Bits.Calls.{look_set}
use Rattle.laws_bits.proofs.Bits.Invariant.{Holds, bit_set}
use Rattle.laws_bits.proofs.Bits.Steps.{same_bits, ends}
use Rattle.laws_bits.proofs.Family.{SetScene, ShowsStep}
use Rattle.laws_bits.proofs.Words.{load_leaves}

-- the look at this place
abbrev pub look_at : ℕ → BitsFlight
look_at bit = calls.IsSet (record { call = look_set; given = bit; room = tt })

-- the look at `bit` in the turn of the scene; the machine's words are as its events say
module _ {T : Type 0} (code : Coding T) {c : ℕ} (scene : SetScene T) (holds : Holds c scene.state.words scene.events) (bit : ℕ) (below : bit < c) where
  open scene use {state as s, events, changes, since, steps, backs}

  abbrev loading : Ask
  loading = record { word = element_of bit; op = Load }

  -- the bit stands by the events if it stands in the words
  seen : standing bit events ≡ one_if (stands s.words bit)
  seen = omega (arith, holds.conserved bit)

  -- the one step of a look ends it, with whether its bit stands
  pub look_step : steps ≤ 0 → backs + since ≤ changes → ShowsStep bit_set code c scene [] (starts.IsSet bit) (look_at bit)
  look_step few paid =
      ends (Some loading) false (answers.Truth (has_flag (get_or s.words (element_of bit) 0) bit))
      (same_bits code c scene (Some loading) (load_leaves s.words (element_of bit)))
      (ap (λ (ws : List ℕ). get_or ws 0 0) (load_leaves s.words (element_of bit)))
      (below, seen) refl (omega arith) (omega arith)
