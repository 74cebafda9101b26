-- From finite loads that end to calls that end where their parties go on.
use Rattle.std.proofs.Common.{Bool, true, false, if◌then◌else◌}
use Rattle.model.proofs.Names.{AllByRecursion, AreAllowedOn, Bound, IsAmong, List, None, Trace, World, []}
use Rattle.model.proofs.Names.{after_turn, after_turns, ap, arith, call_refusal, cases_eq, flight_in, inl, inr, length, refl, steps_in, subst, suc, sym, zero}
use Rattle.model.proofs.Names.{ℕ, ⊎_elim, ◌++◌, ◌+◌, ◌<◌, ◌==◌, ◌∙◌, ◌∷◌, ◌≡◌, ◌≢◌, ◌≤◌, ◌⊎◌}
use Rattle.model.specs.declared.event.Start.{Start}
use Rattle.model.specs.declared.turn.Kind.{Kind}
use Rattle.model.specs.declared.turn.Turn.{Turn}
use Rattle.model.specs.declared.turn.Turn.TheVariants.{Begin, Decide, Die, Next}
use Rattle.model.specs.LockFree.{steps_of}
use Rattle.model.proofs.LockFree.Measure.{worth}
use Rattle.model.proofs.Reached.{after_turns_more, allowed_by_more}
use Rattle.model.specs.Loads.{begins_in, pending, load, EndsLoad, EndsLoadOf, EndsLoadRuns}
use Rattle.model.specs.Fair.{own_step, own_steps, turns_of, StepsInEach, RestsInOne, moment, begins_by, IsFair}
use Rattle.model.specs.Fair.{EndsInRounds, EndsInRoundsOf, EndsInRoundsRuns, EndsIfFair}

if_mine : (b : Bool) (steps : ℕ) → (if b then steps else 0) ≤ steps
if_mine true steps = omega arith
if_mine false steps = omega arith

module _ {T : Type 0} where
  -- The steps of one party in a turn are at most all steps of the turn.
  own_of_all : (p : ℕ) (w : World T) (turn : Turn T) → own_step p w turn ≤ steps_of w turn
  own_of_all p w (Begin q start) = omega arith
  own_of_all p w (Next q) = if_mine (q == p) (steps_of w (Next q))
  own_of_all p w (Decide q said) = omega arith
  own_of_all p w (Die owner) = omega arith

  -- the steps of one party are no more than those of all
  pub own_in_all : (p : ℕ) (t : Trace T) (turns : List (Turn T)) → own_steps p t turns ≤ steps_in t turns
  own_in_all p t [] = omega arith
  own_in_all p t (turn ∷ turns) = omega (arith, own_of_all p t.world turn, own_in_all p (after_turn t turn) turns)

  steps_of_both : (t : Trace T) (xs ys : List (Turn T)) → steps_in t (xs ++ ys) ≡ steps_in t xs + steps_in (after_turns t xs) ys
  steps_of_both t [] ys = omega arith
  steps_of_both t (turn ∷ xs) ys = omega (arith, steps_of_both (after_turn t turn) xs ys)

  -- ---- rounds

  -- A party that takes a step in each round rests as one of them begins, or there are as many
  -- steps as rounds.
  rests_or_many : (p : ℕ) (t : Trace T) (rounds : List (List (Turn T))) → StepsInEach p t rounds
      → RestsInOne p t rounds ⊎ (length rounds ≤ steps_in t (turns_of rounds))
  rests_or_many p t [] each = inr (omega arith)
  rests_or_many p t (round ∷ rounds) each = ⊎_elim (λ none. inl (inl none)) (λ some. goes some (rests_or_many p (after_turns t round) rounds each.1)) each.0
    where
      -- the party takes a step in the first round: it rests in a later one, or there are at least as many steps as rounds
      goes : 0 < own_steps p t round
          → (RestsInOne p (after_turns t round) rounds ⊎ (length rounds ≤ steps_in (after_turns t round) (turns_of rounds)))
          → (RestsInOne p t (round ∷ rounds) ⊎ (length (round ∷ rounds) ≤ steps_in t (round ++ turns_of rounds)))
      goes some rest =
          ⊎_elim (λ one. inl (inr one))
          (λ many.
          (let own = own_in_all p t round in
          let both = steps_of_both t round (turns_of rounds) in
          inr (omega (arith, many)))) rest

  pub rests_by : (p : ℕ) (t : Trace T) (rounds : List (List (Turn T))) → StepsInEach p t rounds
      → (most : ℕ) → steps_in t (turns_of rounds) ≤ most → most < length rounds → RestsInOne p t rounds
  rests_by p t rounds each most within many = ⊎_elim (λ one. one) (λ few. absurd (omega (arith, few))) (rests_or_many p t rounds each)

  pub rounds_end : (kind : Kind) (bound : Bound) → EndsLoad T kind bound → EndsInRounds T kind bound
  rounds_end kind bound ends t is r ps p rounds allowed below each many =
      rests_by p t rounds each _ (ends t is r ps (turns_of rounds) allowed below) many

  pub rounds_end_of : (kind : Kind) (Such : Start T → Type 0) (bound : Bound) → EndsLoadOf T kind Such bound → EndsInRoundsOf T kind Such bound
  rounds_end_of kind Such bound ends t is r before ps p rounds allowed below such each many =
      rests_by p t rounds each _ (ends t is r before ps (turns_of rounds) allowed below such) many

  pub rounds_end_runs : (kind : Kind) (bound : Bound) → EndsLoadRuns T kind bound → EndsInRoundsRuns T kind bound
  rounds_end_runs kind bound ends t is r p rounds allowed each many = rests_by p t rounds each _ (ends t is r (turns_of rounds) allowed) many

  -- ---- an endless schedule

  -- its first k turns as a list
  abbrev first : (ℕ → Turn T) → ℕ → List (Turn T)
  first turns zero = []
  first turns (suc k) = first turns k ++ turns k ∷ []

  module _ (t : Trace T) (turns : ℕ → Turn T) where
    -- The first k turns of the schedule lead to its moment k.
    reaches : (k : ℕ) → after_turns t (first turns k) ≡ moment t turns k
    reaches zero = refl
    reaches (suc k) =
        after_turns_more t (first turns k) (turns k) ∙ ap (λ u. after_turn u (turns k)) (reaches k)

    abbrev steps_at : ℕ → ℕ
    steps_at k = steps_of (moment t turns k).world (turns k)

    -- one turn more adds its own steps
    steps_more : (k : ℕ) → steps_in t (first turns (suc k)) ≡ steps_in t (first turns k) + steps_at k
    steps_more k =
        let here : steps_of (after_turns t (first turns k)).world (turns k) ≡ steps_at k =
        subst (λ (u : Trace T). steps_of u.world (turns k) ≡ steps_at k) (sym (reaches k)) refl in
        omega (arith, steps_of_both t (first turns k) (turns k ∷ []))

    -- At a later moment of the schedule no fewer steps have been taken.
    steps_up : (k m : ℕ) → k ≤ m → steps_in t (first turns k) ≤ steps_in t (first turns m)
    steps_up k zero le = let same : k ≡ 0 = omega arith in rw same (omega arith)
    steps_up k (suc m) le = ⊎_elim here (λ ne. there ne (steps_up k m)) (cases_eq k (suc m))
      where
        -- The case that the later moment is the next one itself.
        here : k ≡ suc m → steps_in t (first turns k) ≤ steps_in t (first turns (suc m))
        here same = rw same (omega arith)

        there : k ≢ suc m → (k ≤ m → steps_in t (first turns k) ≤ steps_in t (first turns m))
            → steps_in t (first turns k) ≤ steps_in t (first turns (suc m))
        there ne more = let rest = more (omega (arith, ne, le)) in omega (arith, steps_more m)

    begins_both : (xs ys : List (Turn T)) → begins_in (xs ++ ys) ≡ begins_in xs + begins_in ys
    begins_both [] ys = omega arith
    begins_both (x ∷ xs) ys = omega (arith, begins_both xs ys)

    begins_are : (k : ℕ) → begins_in (first turns k) ≡ begins_by turns k
    begins_are zero = refl
    begins_are (suc k) = omega (arith, begins_are k, begins_both (first turns k) (turns k ∷ []))

    all_more : (P : Turn T → Type 0) (xs : List (Turn T)) (x : Turn T) → AllByRecursion P xs → P x → AllByRecursion P (xs ++ x ∷ [])
    all_more P [] x all here = (here, tt)
    all_more P (y ∷ xs) x all here = (all.0, all_more P xs x all.1 here)

    all_of : (P : Turn T → Type 0) → ((k : ℕ) → P (turns k)) → (k : ℕ) → AllByRecursion P (first turns k)
    all_of P each zero = tt
    all_of P each (suc k) = all_more P (first turns k) (turns k) (all_of P each k) (each k)

    -- On a schedule of which no turn is refused the first k turns are not refused.
    all_allowed : ((k : ℕ) → call_refusal (moment t turns k).world (turns k) ≡ None) → (k : ℕ) → AreAllowedOn t (first turns k)
    all_allowed goes zero = tt
    all_allowed goes (suc k) =
        allowed_by_more call_refusal t (first turns k) (turns k) (all_allowed goes k)
        (subst (λ (u : Trace T). call_refusal u.world (turns k) ≡ None) (sym (reaches k)) (goes k))

    module _ {p : ℕ} (fair : IsFair t turns p) where
      abbrev IdleAtSome : Type 0
      IdleAtSome = (k : ℕ) × (flight_in (moment t turns k).world p ≡ None)

      abbrev StepsTaken : ℕ → Type 0
      StepsTaken j = (k : ℕ) × (j ≤ steps_in t (first turns k))

      -- it rests, or takes one step more
      once : (j : ℕ) → StepsTaken j → IdleAtSome ⊎ StepsTaken (suc j)
      once j (k, took) = ⊎_elim (λ none. inl (fair.at k, none)) (λ one. inr (suc (fair.at k), more one)) (fair.goes k)
        where
          -- the party's step at its next turn is one more step of all
          more : own_step p (moment t turns (fair.at k)).world (turns (fair.at k)) ≡ 1 → suc j ≤ steps_in t (first turns (suc (fair.at k)))
          more one =
              omega (arith, own_of_all p (moment t turns (fair.at k)).world (turns (fair.at k)), steps_up k (fair.at k) (fair.later k), steps_more (fair.at k))

      often : (j : ℕ) → IdleAtSome ⊎ StepsTaken j
      often zero = inr (0, omega arith)
      often (suc j) = ⊎_elim (λ rests. inl rests) (λ took. once j took) (often j)

  -- If the steps on a schedule are bounded, a party to which it is fair comes to a moment without
  -- a call under way.
  fair_by : {t : Trace T} {turns : ℕ → Turn T} {p : ℕ} → IsFair t turns p → (most : ℕ) → ((k : ℕ) → steps_in t (first turns k) ≤ most)
      → (k : ℕ) × (flight_in (moment t turns k).world p ≡ None)
  fair_by {t} {turns} {p} fair most within = ⊎_elim (λ rests. rests) none (often t turns fair (suc most))
    where
      -- More steps than the bound allows are never taken.
      none : (k : ℕ) × (suc most ≤ steps_in t (first turns k)) → (k : ℕ) × (flight_in (moment t turns k).world p ≡ None)
      none (k, many) = absurd (omega (arith, within k))

  -- no more calls have no more load
  load_up : (turns : ℕ → Turn T) (t : Trace T) (b pending calls steps k : ℕ) → begins_by turns k ≤ calls
      → steps ≤ load b (pending + begins_in (first turns k)) → steps ≤ load b (pending + calls)
  load_up turns t b pending calls steps k few within =
      let begins = begins_are t turns k in
      let up = worth (pending + begins_in (first turns k)) (pending + calls) (b + 1) (omega arith) in
      omega arith

  -- where every finite load ends, each call ends whose party goes on
  pub fair_end : (kind : Kind) (bound : Bound) → EndsLoad T kind bound → EndsIfFair T kind bound
  fair_end kind bound ends t is r ps calls turns goes below few p fair =
      let b = bound (length ps) t.world.capacity t.world.coding.size in
      fair_by fair (load b (pending ps t.world + calls))
      (λ k. load_up turns t b (pending ps t.world) calls (steps_in t (first turns k)) k (few k)
      (ends t is r ps (first turns k) (all_allowed t turns goes k) (all_of t turns (IsAmong ps) below k)))
