-- A history of the single value is linearizable as one value, a load's value is that of the last store before it, and the
-- version is one more than the number of stores.
use Rattle.history.proofs.Names.{◌≡◌, ℕ, ◌+◌, ◌<◌, List, [], ◌∷◌, ◌++◌, fold, length, map, replicate, slice_index}
use Rattle.history.proofs.Names.{refl, sym, ap, subst, ◌∙◌, arith, Coding, AnswersRight}
use Rattle.model.specs.declared.event.Answer.TheVariants.{Loaded}
use Rattle.model.specs.declared.event.Event.{Event}
use Rattle.model.specs.declared.event.Event.TheVariants.{Acted}
use Rattle.history.proofs.Names.{IsLinearizable, as_value, IsLinearized, Each, moments, Trace}
use Rattle.history.proofs.Names.{run_linearizable}
use Rattle.laws_value.specs.Stored.{stored}
use Rattle.model.specs.declared.event.Start.TheVariants.{Atomic}
use Rattle.model.specs.declared.families.atomic.AtomicStart.TheVariants.{Store, Load}
use Rattle.model.specs.declared.turn.Kind.TheVariants as kinds
use Rattle.model.specs.Families.Atomic.Objects.{value_after}
use Rattle.model.specs.Families.Atomic.Promises.{value_in}
use Rattle.laws_value.proofs.Sound.{kept_on}
use Rattle.laws_value.proofs.Steps.{version_counts}
use Rattle.history.specs.History.{IsRun, IsHistory}
use Rattle.history_value.specs.Value.{last_or, IsLast}
use Rattle.history_value.proofs.Values.{value_sound, value_goes_on}

module _ {T : Type 0} (code : Coding T) (capacity : ℕ) (events : List (Event T)) (h : IsHistory code kinds.Atomic capacity events) where
  -- a history of a single value is linearizable as one value
  pub value_linearizable : IsLinearizable (as_value code) events
  value_linearizable =
      let trace_now = h.trace in
      let run_now = h.run in
      let all : IsLinearized kinds.Atomic trace_now =
      subst (λ k. IsLinearized k trace_now) run_now.of_kind
      (run_linearizable trace_now (kept_on trace_now run_now.of_kind run_now.reached.coded run_now.fresh)) in
      subst (λ es. IsLinearizable (as_value code) es) (sym h.is) (subst (λ z. IsLinearizable (as_value z) trace_now.events) run_now.coded all)

  -- each answer is that of the value that stood at its moment
  pub answers_right : Each (AnswersRight code) events
  answers_right = grind (arith, value_goes_on)

-- ---- the value that stands is the last that was stored

-- the last of a list with elements is its last element
pub last_is : {A : Type 0} (first : A) (xs : List A) → 0 < length xs → IsLast (last_or first xs) xs
last_is first [] some = absurd (omega arith)
last_is first (x ∷ []) some = record { others = []; is = refl }
last_is first (x ∷ y ∷ xs) some = (let rest = last_is x (y ∷ xs) (omega arith) in record { others = x ∷ rest.others; is = ap (λ zs. x ∷ zs) rest.is })

-- the value that stands after these events is the last that was stored, or the first value
stands_after : {T : Type 0} (value : T) (events : List (Event T)) → fold value_after value (map (λ m. m.0) (moments events)) ≡ last_or value (stored events)
stands_after value [] = refl
stands_after value (Acted p (Atomic (Store new)) answer ∷ es) = stands_after new es
stands_after value (e ∷ es) = stands_after value es

module _ {T : Type 0} (code : Coding T) (capacity : ℕ) (events : List (Event T)) (h : IsHistory code kinds.Atomic capacity events) where
  -- a load tells the last value that was stored before its act, or the one whose words are zeros
  pub load_tells : (p : ℕ) (x : T) (before after : List (Event T))
      → events ≡ before ++ Acted p (Atomic Load) (Loaded x) ∷ after
      → x ≡ last_or (code.value_of (replicate code.size 0)) (stored before)
  load_tells p x before after events_are =
      let right : Loaded x ≡ Loaded (value_in code before) = answers_right code capacity events h before after (Acted p (Atomic Load) (Loaded x)) events_are in
      let same : x ≡ value_in code before = cc in
      same ∙ stands_after (code.value_of (replicate code.size 0)) before

-- the version of a reached machine is one more than the number of stores
pub version_is_count : {T : Type 0} (code : Coding T) (capacity : ℕ) (t : Trace T)
    → IsRun code kinds.Atomic capacity t → slice_index t.world.words 0 ≡ length (stored t.events) + 1
version_is_count code capacity t run = version_counts t.world.coding t.world.capacity t (value_sound code capacity run)
