-- The opening of a bit set keeps the invariant; each call that begins stands at its first stage; and each
-- step of a call keeps the invariant.
use Rattle.laws_bits.proofs.Names.{◌≡◌, ℕ, ◌+◌, ◌≤◌, false, Some, List, [], ◌∷◌, replicate, refl, sym, ap, subst, ◌∙◌}
use Rattle.laws_bits.proofs.Names.{length-replicate, element_of, elements, has_flag, stands, none_stands, Event}
use Rattle.laws_bits.proofs.Names.{Begun, Start, Bits, Registry, Flight, BitsStart, BitsFlight, Coding, first_of}
use Rattle.laws_bits.proofs.Names.{is_question, first, want, bits_words, is_past, clears, one_if, Each-nil}
use Rattle.std.proofs.Common.{arith}
use Rattle.model.specs.declared.families.bits.BitsStart.TheVariants as starts
use Rattle.model.specs.declared.families.bits.calls.BitsFlight.TheVariants as calls
use Rattle.model.specs.declared.turn.Kind.TheVariants as kinds
use Rattle.laws_bits.proofs.Bits.Alls.{reset_all_step}
use Rattle.laws_bits.proofs.Bits.Invariant.{Holds, Preserves, bit_set}
use Rattle.laws_bits.proofs.Bits.Knows.{CallAt, KnowsSet, KnowsNext, next_number, set_at, next_at}
use Rattle.laws_bits.proofs.Bits.Looks.{look_at, look_step}
use Rattle.laws_bits.proofs.Bits.Nexts.{next_step}
use Rattle.laws_bits.proofs.Bits.Sets.{set_step}
use Rattle.laws_bits.proofs.Family.{SetScene, ShowsStep, StepOf}
use Rattle.laws_bits.proofs.Laws.{IsOwn, IsFirst}
use Rattle.laws_bits.proofs.Words.{zeros}

-- at the opening no bit stands
opens_clear : (c b : ℕ) → stands (replicate (1 + elements c) 0) b ≡ false
opens_clear c b = ap (λ w. has_flag w b) (zeros (1 + elements c) (element_of b) 0) ∙ none_stands b

-- ---- no call of the set asks a question

-- no call of a bit set asks a question
pub never_asks : {T : Type 0} (c : ℕ) (wrote : List (Event T)) (start : BitsStart) (flight : BitsFlight)
    → CallAt c wrote start flight → is_question (want flight) ≡ false
never_asks = grind arith

module _ {T : Type 0} where
  -- the opening keeps the invariant: no bit stands and none was set
  pub opens : (c : ℕ) → Holds {T = T} c (bits_words c) []
  opens c =
      record {
        sized = length-replicate (1 + elements c) 0;
        conserved = λ b. (let none : one_if (stands (replicate (1 + elements c) 0) b) ≡ 0 = ap one_if (opens_clear c b) in omega arith);
        within = λ b past. refl;
        position = zeros (1 + elements c) 0 0;
        answers = Each-nil _;
      }

  -- ---- one step of a call

  -- the turn of the scene, where the invariant holds
  module _ (code : Coding T) {c : ℕ} (scene : SetScene T) (holds : Holds c scene.state.words scene.events) where
    open scene use {state as s, events, party as p, changes, since, steps, backs}

    -- that a step of this call keeps the invariant, where `wrote` is what its party had written before
    abbrev Shown : List (Event T) → BitsStart → BitsFlight → Type 0
    Shown wrote start flight = ShowsStep bit_set code c scene wrote start flight

    -- each step of a call of a bit set, at whatever stage, keeps the invariant (`Shows`)
    pub step_shows : (start : BitsStart) (flight : BitsFlight) (wrote : List (Event T))
        → StepOf bit_set code c scene start flight wrote
    step_shows (starts.Set bit) (calls.Set run) wrote at is from few knows =
        subst (λ n. Shown wrote (starts.Set bit) (set_at n run.call.stage)) (sym at.0)
        (subst (λ es. Shown es (starts.Set bit) (set_at bit run.call.stage)) (sym from) (set_step code scene holds bit at.1 run.call.stage at.2
        (subst (λ n. KnowsSet s.words since changes backs n run.call.stage) at.0 knows) few))
    step_shows starts.ResetNext (calls.ResetNext run) wrote at is from few knows =
        subst (λ n. Shown wrote starts.ResetNext (next_at n run.call.stage)) (sym at.0)
        (subst (λ es. Shown es starts.ResetNext (next_at c run.call.stage)) (sym from) (next_step code scene holds run.call.stage at.1
        (subst (λ n. KnowsNext n p events s.words since changes backs run.call.stage) at.0 knows)
        (subst (λ n. steps ≤ next_number n run.call.stage backs) at.0 few)))
    step_shows starts.ResetAll (calls.ResetAll run) wrote at is from few knows =
        reset_all_step code scene holds wrote is run.call.word at.1
        (λ b past. subst (λ xs. clears b xs ≡ 0) (sym from) (at.3 b past)) knows.1 knows.0 few run.room run.call.end
        at.0 (let below = at.2 in let end = at.0 in omega arith)
    step_shows (starts.IsSet bit) (calls.IsSet run) wrote at is from few knows =
        subst (λ n. Shown wrote (starts.IsSet bit) (look_at n)) (sym at.0)
        (subst (λ es. Shown es (starts.IsSet bit) (look_at bit)) (sym from) (look_step code scene holds bit at.1 few knows))
    step_shows start flight wrote at is from few knows = absurd at

  -- ---- a call begins

  -- party `p` begins a call, in the machine with these words and events
  module _ (c p : ℕ) (events : List (Event T)) (words : List ℕ) (changes : ℕ) where
    -- the call stands at its first stage, and knows what that tells
    abbrev First : BitsStart → BitsFlight → Type 0
    First start flight = IsFirst bit_set c p events words changes start flight

    -- a call that begins stands at its first stage, and knows what that tells
    pub first_is : (start : BitsStart) (flight : BitsFlight) → first kinds.Bits c start ≡ Some flight → is_past c start ≡ false → First start flight
    first_is = grind arith

  -- a call that begins on a bit set is one of a bit set's calls
  pub begins_own : (c : ℕ) (kept : Registry T) (start : Start T) (flight : Flight T) → first_of kinds.Bits c start kept ≡ Some flight → IsOwn start
  begins_own = grind arith

  -- the begin of a call changes no bit, so it preserves what holds
  pub begins_none : (c p : ℕ) (start : BitsStart) (words : List ℕ) (events : List (Event T)) (changes : ℕ)
      → Preserves c words events changes words (Begun p (Bits start) ∷ []) changes
  begins_none = grind arith
