-- The opening of a counting bit set keeps the invariant; each call that begins stands at its first stage; and
-- each step of a call keeps the invariant.
use Rattle.laws_bits.proofs.Names.{◌≡◌, ℕ, false, Some, List, [], ◌∷◌, refl, sym, subst, length-replicate, Event}
use Rattle.laws_bits.proofs.Names.{Begun, Start, Bits, Registry, Flight, BitsStart, BitsFlight, Count, TakeAll}
use Rattle.laws_bits.proofs.Names.{Coding, first_of, is_question, first, want, counts_words, is_past, takes, Each-nil}
use Rattle.std.proofs.Common.{arith}
use Rattle.model.specs.declared.families.bits.BitsStart.TheVariants as starts
use Rattle.model.specs.declared.families.bits.BitsStart.TheVariants.{Set, ResetAll}
use Rattle.model.specs.declared.families.bits.calls.BitsFlight.TheVariants.{CountOf}
use Rattle.model.specs.declared.turn.Kind.TheVariants as kinds
use Rattle.laws_bits.proofs.Counts.Invariant.{Holds, CallAt, Preserves, counting_set}
use Rattle.laws_bits.proofs.Counts.Resets.{reset_step}
use Rattle.laws_bits.proofs.Counts.Steps.{set_shows, look_shows}
use Rattle.laws_bits.proofs.Family.{SetScene, ShowsStep, StepOf}
use Rattle.laws_bits.proofs.Laws.{IsOwn, IsFirst}
use Rattle.laws_bits.proofs.Words.{zeros}

-- no call of a counting bit set asks a question
pub never_asks : {T : Type 0} (c : ℕ) (wrote : List (Event T)) (start : BitsStart) (flight : BitsFlight)
    → CallAt c wrote start flight → is_question (want flight) ≡ false
never_asks = grind arith

module _ {T : Type 0} where
  -- the opening keeps the invariant: no place was counted
  pub opens : (c : ℕ) → Holds {T = T} c (counts_words c) [] 0
  opens c =
      record {
        sized = length-replicate c 0;
        conserved = λ b. (0, (let none = zeros c b 0 in omega arith));
        within = λ b past. refl;
        low = λ b. (let none = zeros c b 0 in omega arith);
        few = λ b. omega arith;
        answers = Each-nil _;
      }

  -- ---- one step of a call

  -- the turn of the scene, where the invariant holds
  module _ (code : Coding T) {c : ℕ} (scene : SetScene T) (holds : Holds c scene.state.words scene.events scene.turns) where
    -- that a step of this call keeps the invariant, where `wrote` is what its party had written before
    abbrev Shown : List (Event T) → BitsStart → BitsFlight → Type 0
    Shown wrote start flight = ShowsStep counting_set code c scene wrote start flight

    -- each step of a call of a counting bit set, at whatever stage, keeps the invariant (`Shows`)
    pub step_shows : (start : BitsStart) (flight : BitsFlight) (wrote : List (Event T))
        → StepOf counting_set code c scene start flight wrote
    step_shows (Set place) (Count run) wrote at is from few knows =
        subst (λ n. Shown wrote (Set n) (Count run)) at.0
        (subst (λ xs. Shown xs (Set run.given) (Count run)) (sym from)
        (set_shows code c scene holds (let below = at.1 in let same = at.0 in omega arith) few knows))
    step_shows ResetAll (TakeAll run) wrote at is from few knows =
        reset_step code c scene holds wrote is run.call.word
        (λ b past. subst (λ xs. takes b xs ≡ 0) (sym from) (at.2 b past)) knows.1 knows.0 few run.room run.call.end
        at.0 at.1
    step_shows (starts.Count place) (CountOf run) wrote at is from few knows =
        subst (λ n. Shown wrote (starts.Count n) (CountOf run)) at.0
        (subst (λ xs. Shown xs (starts.Count run.given) (CountOf run)) (sym from)
        (look_shows code c scene holds run.given (let below = at.1 in let same = at.0 in omega arith) few knows))
    step_shows start flight wrote at is from few knows = absurd at

  -- ---- a call begins

  -- party `p` begins a call, in the machine with these words and events
  module _ (c p : ℕ) (events : List (Event T)) (words : List ℕ) (changes : ℕ) where
    -- the call stands at its first stage, and knows what that tells
    abbrev First : BitsStart → BitsFlight → Type 0
    First start flight = IsFirst counting_set c p events words changes start flight

    -- a call that begins stands at its first stage, and knows what that tells
    pub first_is : (start : BitsStart) (flight : BitsFlight) → first kinds.Counts c start ≡ Some flight
        → is_past c start ≡ false → First start flight
    first_is = grind arith

  -- a call that begins on a counting bit set is one of its calls
  pub begins_own : (c : ℕ) (kept : Registry T) (start : Start T) (flight : Flight T)
      → first_of kinds.Counts c start kept ≡ Some flight → IsOwn start
  begins_own = grind arith

  -- the begin of a call changes no count, so it preserves what holds
  pub begins_none : (c p : ℕ) (start : BitsStart) (words : List ℕ) (events : List (Event T)) (turns : ℕ)
      → Holds c words events turns → Preserves c words events turns words (Begun p (Bits start) ∷ [])
  begins_none = grind arith
