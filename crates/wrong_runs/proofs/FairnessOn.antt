-- An endless schedule of an index queue, on which turns are refused, that is fair to one party of two, and not to the other.
use Rattle.std.proofs.Common.{◌≡◌, ◌≢◌, ◌≤◌, ◌⊎◌, inl, inr, ⊎_elim, ℕ, zero, suc, ◌+◌, Some, None, ◌∷◌, [], ◌++◌, refl, sym, ap, ◌∙◌, arith}
use Rattle.model.specs.declared.event.Start.TheVariants.{Queues}
use Rattle.model.specs.declared.families.queues.QueueStart.TheVariants.{AcquireProducer, PushIndex, Len}
use Rattle.model.specs.declared.turn.Kind.TheVariants.{IndexQueue}
use Rattle.model.specs.declared.turn.Refusal.TheVariants.{Idle}
use Rattle.model.specs.declared.turn.Turn.{Turn}
use Rattle.model.specs.declared.turn.Turn.TheVariants.{Begin, Next}
use Rattle.model.specs.Coding.{one_word}
use Rattle.model.specs.Loads.{begun}
use Rattle.model.specs.LockFree.{IsAmong, parties_below}
use Rattle.model.specs.Refusals.{call_refusal}
use Rattle.model.specs.Turns.{run_on}
use Rattle.model.specs.World.{Trace, flight_in, opening}
use Rattle.model.proofs.Runs.{begins}
use Rattle.headline.specs.Going.{IsFairOn, IsStepOf, moment_on}

-- party 0 has a push under way, and party 1 asks for the length
abbrev started : Trace ℕ
started =
    run_on (begins 0 (Queues AcquireProducer) 1 ++ (Begin 0 (Queues (PushIndex 7)) ∷ Begin 1 (Queues Len) ∷ []))
    (opening one_word IndexQueue 1 2)

-- Party 1 takes a step. From then on only party 0 is scheduled, also when its push has ended.
abbrev turns : ℕ → Turn ℕ
turns zero = Next 1
turns (suc k) = Next 0

-- every later turn is refused, and changes nothing
refused_then : call_refusal (moment_on started turns 5).world (turns 5) ≡ Some Idle
refused_then = refl

-- From the fifth moment on the machine stays as it is.
stays : (n : ℕ) → moment_on started turns (suc (suc (suc (suc (suc n))))) ≡ moment_on started turns 5
stays zero = refl
stays (suc n) = let so_far = stays n in rw so_far refl

-- ---- to party 0 it is fair

-- The moment, not before moment k, at which party 0 takes a step or rests.
abbrev at : ℕ → ℕ
at zero = 1
at (suc k) = suc k

-- That moment is not before moment k.
later : (k : ℕ) → k ≤ at k
later zero = omega arith
later (suc k) = omega arith

-- after each moment party 0 takes a step, or has no call under way
goes : (k : ℕ) → (flight_in (moment_on started turns (at k)).world 0 ≡ None) ⊎ IsStepOf 0 (moment_on started turns (at k)).world (turns (at k))
goes zero = inr (refl, refl)
goes (suc zero) = inr (refl, refl)
goes (suc (suc zero)) = inr (refl, refl)
goes (suc (suc (suc zero))) = inr (refl, refl)
goes (suc (suc (suc (suc zero)))) = inr (refl, refl)
goes (suc (suc (suc (suc (suc n))))) = let so = stays n in inl (rw so refl)

-- The schedule is fair to party 0.
fair : IsFairOn started turns 0
fair = record { at = at; later = later; goes = goes }

-- ---- to party 1, which takes one step and never another, it is not

-- From the fifth moment on each party's call stays where it is.
same_call : (p n : ℕ) → flight_in (moment_on started turns (suc (suc (suc (suc (suc n)))))).world p
    ≡ flight_in (moment_on started turns 5).world p
same_call p n = ap (λ (t : Trace ℕ). flight_in t.world p) (stays n)

-- At moment 5 the call of party 1 is under way.
waits_there : flight_in (moment_on started turns 5).world 1 ≢ None
waits_there e = cc

-- From moment 5 on the call of party 1 is under way.
waits : (n : ℕ) → flight_in (moment_on started turns (suc (suc (suc (suc (suc n)))))).world 1 ≢ None
waits n none = waits_there (sym (same_call 1 n) ∙ none)

-- from the second moment on party 1 has a call under way and takes no step
none_more : (k : ℕ) → 1 ≤ k → (flight_in (moment_on started turns k).world 1 ≡ None) ⊎ IsStepOf 1 (moment_on started turns k).world (turns k) → ⊥
none_more zero past rests_or_steps = absurd (omega arith)
none_more (suc zero) past rests_or_steps = ⊎_elim (λ e. cc) (λ s. cc (s.1)) rests_or_steps
none_more (suc (suc zero)) past rests_or_steps = ⊎_elim (λ e. cc) (λ s. cc (s.1)) rests_or_steps
none_more (suc (suc (suc zero))) past rests_or_steps = ⊎_elim (λ e. cc) (λ s. cc (s.1)) rests_or_steps
none_more (suc (suc (suc (suc zero)))) past rests_or_steps = ⊎_elim (λ e. cc) (λ s. cc (s.1)) rests_or_steps
none_more (suc (suc (suc (suc (suc n))))) past rests_or_steps = ⊎_elim (waits n) (λ s. cc (s.1)) rests_or_steps

-- The schedule is not fair to party 1.
starves : IsFairOn started turns 1 → ⊥
starves fair_on = none_more (fair_on.at 1) (fair_on.later 1) (fair_on.goes 1)

-- ---- it is one of those of which `EndsIfFairOn` speaks: all turns are of two parties, and no call begins

-- Each turn of the schedule is of one of two parties.
below : (k : ℕ) → IsAmong (parties_below 2) (turns k)
below zero = inl refl
below (suc k) = inr (inl refl)

-- no call begins
none_begin : (k : ℕ) → begun (moment_on started turns k).events ≤ begun started.events + 0
none_begin zero = omega arith
none_begin (suc zero) = omega arith
none_begin (suc (suc zero)) = omega arith
none_begin (suc (suc (suc zero))) = omega arith
none_begin (suc (suc (suc (suc zero)))) = omega arith
none_begin (suc (suc (suc (suc (suc n))))) = let so = stays n in rw so (omega arith)
