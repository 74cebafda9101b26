-- The step of a family's call is the same step of a machine's call, and where the name, the call and what is kept are not of one
-- family, nothing happens: lemmas, so that no goal computes a step.
use Rattle.std.proofs.Common.{◌≡◌, ℕ, false, Option, Some, None, List, [], ◌++◌, refl, sym, ap, ◌∙◌, append-nil}
use Rattle.steps.specs.declared.ask.After.{After}
use Rattle.steps.specs.declared.ask.After.TheVariants.{GoOn}
use Rattle.steps.specs.Ask.{CameTo}
use Rattle.model.specs.declared.event.Event.{Event}
use Rattle.model.specs.declared.event.Start.{Start}
use Rattle.model.specs.declared.event.Start.TheVariants as starts
use Rattle.model.specs.declared.families.Flight.{Flight}
use Rattle.model.specs.declared.families.Flight.TheVariants as flights
use Rattle.model.specs.declared.families.Registry.{Registry}
use Rattle.model.specs.declared.families.Registry.TheVariants as registries
use Rattle.model.specs.declared.families.Went.{Went}
use Rattle.model.specs.Coding.{Coding}
use Rattle.model.specs.Families.{step_of}
use Rattle.model.specs.Step.{Step, as_call, as_step}
use Rattle.turns.specs.Went.{IsOfStep}

-- what a call of one family came to is what it came to as a call of any family: it goes on as such a call, or
-- it has this answer
came_as : {R F A : Type 0} (flight : R → F) (done : Option A) (run : R) (next : After R A) → CameTo done run next
    → CameTo done (flight run) (as_call flight (λ answer. answer) next)
came_as flight None run next came_to = ap (as_call flight (λ answer. answer)) came_to
came_as flight (Some answer) run next came_to = ap (as_call flight (λ answer. answer)) came_to

-- where a family's call came to what its step says, the call of any family came to what the step of a
-- machine's call says
pub passed : {R K T : Type 0} (flight : R → Flight T) (keeps : K → Registry T) (s : Step R K T) {went : Went T} {run : R} {kept : K}
    {old new : List (Event T)} → CameTo went.done run s.after → went.back ≡ s.back → kept ≡ s.kept → new ≡ old ++ s.wrote
    → IsOfStep (as_step flight keeps s) went (flight run) (keeps kept) old new
passed flight keeps s {went} {run} after back same wrote =
    record {
      after = came_as flight went.done run s.after after;
      back = back;
      kept = ap keeps same;
      wrote = wrote;
    }

-- the step that does nothing: the call stands where it stood, what is kept stays, and no event is written
abbrev rest : {T : Type 0} → Flight T → Registry T → Step (Flight T) (Registry T) T
rest flight kept = record { after = GoOn flight; back = false; wrote = []; kept = kept }

-- The name of a call, the call and what is kept are not of one family: if the name is of the call's family, then what is kept is
-- of another.
abbrev pub AreApart : {T : Type 0} → Start T → Flight T → Registry T → Type 0
AreApart start (flights.Queues run) kept = (x y : _) → start ≡ starts.Queues x → kept ≡ registries.Queues y → ⊥
AreApart start (flights.Atomic run) kept = (x y : _) → start ≡ starts.Atomic x → kept ≡ registries.Atomic y → ⊥
AreApart start (flights.Bits run) kept = (x : _) → start ≡ starts.Bits x → kept ≡ registries.Nothing → ⊥
AreApart start (flights.Indices run) kept = (x y : _) → start ≡ starts.Indices x → kept ≡ registries.Indices y → ⊥
AreApart start (flights.Robust run) kept = (x y : _) → start ≡ starts.Robust x → kept ≡ registries.Owners y → ⊥
AreApart start (flights.Container run) kept = (x dead states : _) → start ≡ starts.Container x → kept ≡ registries.Container dead states → ⊥
AreApart start (flights.Loan run) kept = (x y : _) → start ≡ starts.Loan x → kept ≡ registries.Loan y → ⊥

-- A step whose name, call and kept things are not of one family does nothing.
apart : {T : Type 0} (code : Coding T) (words : List ℕ) (beside : Option (ℕ × ℕ)) (p : ℕ) (start : Start T) (flight : Flight T) (old : ℕ)
    (kept : Registry T) → AreApart start flight kept → step_of code words beside p start flight old kept ≡ rest flight kept
apart code words beside p (starts.Queues x) (flights.Queues run) old (registries.Queues y) other = absurd (other x y refl refl)
apart code words beside p (starts.Atomic x) (flights.Atomic run) old (registries.Atomic y) other = absurd (other x y refl refl)
apart code words beside p (starts.Bits x) (flights.Bits run) old registries.Nothing other = absurd (other x refl refl)
apart code words beside p (starts.Indices x) (flights.Indices run) old (registries.Indices y) other = absurd (other x y refl refl)
apart code words beside p (starts.Robust x) (flights.Robust run) old (registries.Owners y) other = absurd (other x y refl refl)
apart code words beside p (starts.Container x) (flights.Container run) old (registries.Container dead states) other = absurd (other x dead states refl refl)
apart code words beside p (starts.Loan x) (flights.Loan run) old (registries.Loan y) other = absurd (other x y refl refl)
apart code words beside p start flight old kept other = refl

-- A step whose name, call and kept things are not of one family is told as one that leaves its call, what is kept and the events.
pub rests : {T : Type 0} (code : Coding T) (words : List ℕ) (beside : Option (ℕ × ℕ)) (p old : ℕ) (kept : Registry T) (events : List (Event T))
    (start : Start T) (flight : Flight T) → AreApart start flight kept
    → IsOfStep (step_of code words beside p start flight old kept) (record { back = false; done = None }) flight kept events events
rests code words beside p old kept events start flight other =
    let nothing = apart code words beside p start flight old kept other in
    record {
      after = ap (λ x. x.after) nothing;
      back = sym (ap (λ x. x.back) nothing);
      kept = sym (ap (λ x. x.kept) nothing);
      wrote = sym (ap (λ x. events ++ x.wrote) nothing ∙ append-nil events);
    }
