-- Rounds in which parties take steps, turns in which their calls go on, and what the definitions of both refuse.
use Rattle.std.proofs.Common.{◌≡◌, inl, inr, ⊎_elim, ℕ, List, [], ◌∷◌, ◌++◌, refl, arith}
use Rattle.model.specs.declared.event.Start.TheVariants.{Queues}
use Rattle.model.specs.declared.families.queues.QueueStart.TheVariants.{AcquireProducer, PushIndex, Len}
use Rattle.model.specs.declared.turn.Kind.TheVariants.{IndexQueue}
use Rattle.model.specs.declared.turn.Turn.{Turn}
use Rattle.model.specs.declared.turn.Turn.TheVariants.{Begin, Next}
use Rattle.model.specs.Coding.{one_word}
use Rattle.model.specs.Fair.{RestsInOne, StepsInEach, turns_of}
use Rattle.model.specs.Turns.{run_on}
use Rattle.model.specs.World.{Trace, opening}
use Rattle.model.proofs.Runs.{begins}

-- party 0 has a push under way, and party 1 asks for the length
abbrev pub started : Trace ℕ
started =
    run_on (begins 0 (Queues AcquireProducer) 1 ++ (Begin 0 (Queues (PushIndex 7)) ∷ Begin 1 (Queues Len) ∷ []))
    (opening one_word IndexQueue 1 2)

-- A round in which both parties take a turn.
abbrev both : List (Turn ℕ)
both = Next 0 ∷ Next 1 ∷ []

abbrev pub four : List (List (Turn ℕ))
four = both ∷ both ∷ both ∷ both ∷ []

-- A round in which only party 0 takes a turn.
abbrev mine : List (Turn ℕ)
mine = Next 0 ∷ []

-- A round in which only party 1 takes a turn.
abbrev other : List (Turn ℕ)
other = Next 1 ∷ []

all_turns : turns_of four ≡ Next 0 ∷ Next 1 ∷ Next 0 ∷ Next 1 ∷ Next 0 ∷ Next 1 ∷ Next 0 ∷ Next 1 ∷ []
all_turns = refl

-- ---- a step in each round

-- Party 0 takes a step in each of the four rounds.
steps_in_four : StepsInEach 0 started four
steps_in_four = (inr (omega arith), (inr (omega arith), (inr (omega arith), (inr (omega arith), tt))))

-- A party without a call meets what is asked of each round.
idle_in_each : StepsInEach 2 started four
idle_in_each = (inl refl, (inl refl, (inl refl, (inl refl, tt))))

-- Party 0 takes a step in each round until its call ends, and in the last round only the
-- other party takes one.
steps_until_it_ends : StepsInEach 0 started (mine ∷ mine ∷ mine ∷ mine ∷ other ∷ [])
steps_until_it_ends = (inr (omega arith), (inr (omega arith), (inr (omega arith), (inr (omega arith), (inl refl, tt)))))

-- A party with a call under way that takes no step in the first round is refused.
none_at_first : StepsInEach 0 started (other ∷ both ∷ []) → ⊥
none_at_first steps_in_each = ⊎_elim (λ rests. cc (rests)) (λ steps. absurd (omega (steps, arith))) steps_in_each.0

-- A party with a call under way that takes no step in the second round is refused.
one_left_out : StepsInEach 0 started (both ∷ other ∷ both ∷ both ∷ []) → ⊥
one_left_out steps_in_each = ⊎_elim (λ rests. cc (rests)) (λ steps. absurd (omega (steps, arith))) steps_in_each.1.0

-- A party with a call under way that takes no step in the last round is refused.
last_left_out : StepsInEach 0 started (both ∷ both ∷ both ∷ other ∷ []) → ⊥
last_left_out steps_in_each = ⊎_elim (λ rests. cc (rests)) (λ steps. absurd (omega (steps, arith))) steps_in_each.1.1.1.0

-- ---- no call under way as one of the rounds begins

-- the call has ended as the fifth round begins
rests_in_fifth : RestsInOne 0 started (four ++ [] ∷ [])
rests_in_fifth = inr (inr (inr (inr (inl refl))))

-- A party without a call has none as the first round begins.
rests_at_once : RestsInOne 2 started ([] ∷ [])
rests_at_once = inl refl

-- The call of party 0 is under way as each of the four rounds begins: it ends in the last.
rests_in_none : RestsInOne 0 started four → ⊥
rests_in_none h =
    ⊎_elim (λ e. cc)
    (λ h. ⊎_elim (λ e. cc) (λ h. ⊎_elim (λ e. cc) (λ h. ⊎_elim (λ e. cc) (λ h. h) h) h) h) h

-- party 0 rests in none of the rounds in which another party's call ends
other_rests : RestsInOne 0 started ((Next 1 ∷ Next 1 ∷ Next 1 ∷ Next 1 ∷ []) ∷ [] ∷ []) → ⊥
other_rests h = ⊎_elim (λ e. cc) (λ h. ⊎_elim (λ e. cc) (λ h. h) h) h

-- Without rounds there is none that begins without a call.
never_without_rounds : RestsInOne 0 started [] → ⊥
never_without_rounds rests_in_one = rests_in_one
