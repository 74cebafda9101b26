-- An endless schedule that is fair to one party of two, and not to the other.
use Rattle.std.proofs.Common.{◌≡◌, ◌≢◌, ◌≤◌, ◌⊎◌, inl, inr, ⊎_elim, ℕ, zero, suc, false, None, List, [], ◌∷◌, refl, arith, ◌∙◌}
use Rattle.model.specs.declared.event.Start.TheVariants.{Robust}
use Rattle.model.specs.declared.families.Registry.TheVariants.{Owners}
use Rattle.model.specs.declared.families.indices.robust.RobustStart.TheVariants.{Acquire}
use Rattle.model.specs.declared.turn.Kind.TheVariants as kinds
use Rattle.model.specs.declared.turn.Turn.{Turn}
use Rattle.model.specs.declared.turn.Turn.TheVariants.{Begin, Next, Die}
use Rattle.model.specs.Coding.{one_word}
use Rattle.model.specs.Fair.{IsFair, begins_by, moment, own_step}
use Rattle.model.specs.Families.{death_rows}
use Rattle.model.specs.Families.Indices.Robust.Dead.{dead_with, has_died}
use Rattle.model.specs.Loads.{begin_in}
use Rattle.model.specs.LockFree.{IsAmong, parties_below}
use Rattle.model.specs.Refusals.{call_refusal}
use Rattle.model.specs.Rows.{first_row}
use Rattle.model.specs.Turns.{run_on}
use Rattle.model.specs.World.{Trace, flight_in, opening}
use Rattle.model.proofs.Dead.{died_before}

-- two parties acquire from a robust set of one index
abbrev started : Trace ℕ
started =
    run_on (Begin 0 (Robust (Acquire 313)) ∷ Begin 1 (Robust (Acquire 7)) ∷ []) (opening one_word kinds.Robust 1 2)

-- Party 1 takes a step, party 0 goes on to the end of its call, and from then on one owner after another dies.
abbrev turns : ℕ → Turn ℕ
turns zero = Next 1
turns (suc zero) = Next 0
turns (suc (suc zero)) = Next 0
turns (suc (suc (suc zero))) = Next 0
turns (suc (suc (suc (suc zero)))) = Next 0
turns (suc (suc (suc (suc (suc n))))) = Die n

-- ---- to party 0 it is fair

-- From the fifth moment on party 0 has no call under way.
has_ended : (n : ℕ) → flight_in (moment started turns (suc (suc (suc (suc (suc n)))))).world 0 ≡ None
has_ended zero = refl
has_ended (suc n) = has_ended n

-- The moment, not before moment k, at which party 0 takes a step or rests.
abbrev at : ℕ → ℕ
at zero = 1
at (suc k) = suc k

-- That moment is not before moment k.
later : (k : ℕ) → k ≤ at k
later zero = omega arith
later (suc k) = omega arith

-- after each moment party 0 takes a step, or has no call under way
goes : (k : ℕ) → (flight_in (moment started turns (at k)).world 0 ≡ None) ⊎ (own_step 0 (moment started turns (at k)).world (turns (at k)) ≡ 1)
goes zero = inr refl
goes (suc zero) = inr refl
goes (suc (suc zero)) = inr refl
goes (suc (suc (suc zero))) = inr refl
goes (suc (suc (suc (suc zero)))) = inr refl
goes (suc (suc (suc (suc (suc n))))) = inl (has_ended n)

-- The schedule is fair to party 0.
fair : IsFair started turns 0
fair = record { at = at; later = later; goes = goes }

-- ---- to party 1, which takes one step and never another, it is not

-- From the fifth moment on party 1 has a call under way.
waits : (n : ℕ) → flight_in (moment started turns (suc (suc (suc (suc (suc n)))))).world 1 ≢ None
waits zero = λ e. cc
waits (suc n) = waits n

-- from the second moment on party 1 has a call under way and takes no step
none_more : (k : ℕ) → 1 ≤ k → (flight_in (moment started turns k).world 1 ≡ None) ⊎ (own_step 1 (moment started turns k).world (turns k) ≡ 1) → ⊥
none_more zero past rests_or_steps = absurd (omega arith)
none_more (suc zero) past rests_or_steps = ⊎_elim (λ e. cc) (λ e. cc) rests_or_steps
none_more (suc (suc zero)) past rests_or_steps = ⊎_elim (λ e. cc) (λ e. cc) rests_or_steps
none_more (suc (suc (suc zero))) past rests_or_steps = ⊎_elim (λ e. cc) (λ e. cc) rests_or_steps
none_more (suc (suc (suc (suc zero)))) past rests_or_steps = ⊎_elim (λ e. cc) (λ e. cc) rests_or_steps
none_more (suc (suc (suc (suc (suc n))))) past rests_or_steps = ⊎_elim (waits n) (λ e. cc) rests_or_steps

-- The schedule is not fair to party 1.
starves : IsFair started turns 1 → ⊥
starves is_fair = none_more (is_fair.at 1) (is_fair.later 1) (is_fair.goes 1)

-- ---- it is one of those of which `EndsIfFair` speaks: no turn is refused, all are of two parties, and no call begins

-- The dead after n deaths: the owners below n.
abbrev dead : ℕ → List ℕ
dead zero = []
dead (suc n) = dead_with n (dead n)

-- An owner from n on is not among the first n dead.
none_later : (n m : ℕ) → n ≤ m → has_died m (dead n) ≡ false
none_later zero m le = refl
none_later (suc n) m le =
    let other : m ≢ n = λ e. absurd (omega arith) in
    died_before m n (dead n) other ∙ none_later n m (omega arith)

-- After n turns more the owners below n are dead.
have_died : (n : ℕ) → (moment started turns (suc (suc (suc (suc (suc n)))))).world.kept ≡ Owners (dead n)
have_died zero = refl
have_died (suc n) = let so_far = have_died n in rw so_far refl

-- no turn is refused
allowed : (k : ℕ) → call_refusal (moment started turns k).world (turns k) ≡ None
allowed zero = refl
allowed (suc zero) = refl
allowed (suc (suc zero)) = refl
allowed (suc (suc (suc zero))) = refl
allowed (suc (suc (suc (suc zero)))) = refl
allowed (suc (suc (suc (suc (suc n))))) =
    let lives = none_later n n (omega arith) in
    rw (have_died n) (rw lives refl)

-- all turns are of two parties
below : (k : ℕ) → IsAmong (parties_below 2) (turns k)
below zero = inl refl
below (suc zero) = inr (inl refl)
below (suc (suc zero)) = inr (inl refl)
below (suc (suc (suc zero))) = inr (inl refl)
below (suc (suc (suc (suc zero)))) = inr (inl refl)
below (suc (suc (suc (suc (suc n))))) = tt

-- no turn begins a call
begins_none : (k : ℕ) → begin_in (turns k) ≡ 0
begins_none zero = refl
begins_none (suc zero) = refl
begins_none (suc (suc zero)) = refl
begins_none (suc (suc (suc zero))) = refl
begins_none (suc (suc (suc (suc zero)))) = refl
begins_none (suc (suc (suc (suc (suc n))))) = refl

-- up to any moment no call begins
none_begin : (k : ℕ) → begins_by turns k ≤ 0
none_begin zero = omega arith
none_begin (suc k) =
    let so_far = none_begin k in
    let here = begins_none k in
    omega arith
