-- With whom an index of a loan channel is, at each moment of a run.
use Rattle.std.proofs.Common.{◌≡◌, ℕ, ◌==◌, Bool, true, false, Some, List, [], ◌∷◌, ◌++◌, if◌then◌else◌}
use Rattle.std.proofs.Common.{refl, sym, subst}
use Rattle.std.proofs.lemmas.List.Sums.{fold-append}
use Rattle.model.specs.declared.event.Answer.{Answer}
use Rattle.model.specs.declared.event.Answer.TheVariants as answers
use Rattle.model.specs.declared.event.Event.{Event}
use Rattle.model.specs.declared.event.Event.TheVariants.{Begun, Published, HandedOut, Claimed, Freed, Returned, TakenBack, Finished}
use Rattle.model.specs.declared.event.Item.TheVariants as items
use Rattle.model.specs.declared.event.Start.{Start}
use Rattle.model.specs.declared.event.Start.TheVariants as starts
use Rattle.model.specs.declared.families.loan.LoanStart.TheVariants as calls
use Rattle.model.specs.Families.Loan.Promises.{MovesRight}
use Rattle.model.specs.Families.Loan.Reading.{Spot, Free, Passing, With, Waiting, Returning, spot_after, spot_of}
use Rattle.model.specs.Reading.{Each}
use Rattle.headline.specs.Holders.{held_after, loans, holders}
use Rattle.headline.specs.Moments.{Follows}
use Rattle.headline.proofs.Holding.{is_it, latest, always, one_after}

-- The holders that an index has at a spot: none if it is free or in a queue, else its latest holder is the
-- party that it is with, or in whose call it is in passing.
abbrev pub IsWith : Spot → List ℕ → Type 0
IsWith Free held = held ≡ []
IsWith (Passing p) held = latest held ≡ Some p
IsWith (With p) held = latest held ≡ Some p
IsWith Waiting held = held ≡ []
IsWith Returning held = held ≡ []

-- With an index that goes to x its holders become x and those before, whether the move is of this
-- index or of another.
goes_to : (b : Bool) (spot to : Spot) (x : ℕ) (held : List ℕ) → IsWith to (x ∷ held) → IsWith spot held
    → IsWith (if b then to else spot) (if b then x ∷ held else held)
goes_to true spot to x held new old = new
goes_to false spot to x held new old = old

-- With an index that comes back it has no holder, whether the move is of this index or of another.
comes_back : (b : Bool) (spot to : Spot) (held : List ℕ) → IsWith to [] → IsWith spot held
    → IsWith (if b then to else spot) (if b then [] else held)
comes_back true spot to held new old = new
comes_back false spot to held new old = old

-- An index stays with its party as a call of that party that names it begins or ends.
stays_with : (b : Bool) (spot from to : Spot) (held : List ℕ) → (b ≡ true → spot ≡ from) → (IsWith from held → IsWith to held)
    → IsWith spot held → IsWith (if b then to else spot) held
stays_with true spot from to held from_spot same old = same (rw (← from_spot refl) old)
stays_with false spot from to held from_spot same old = old

module _ {T : Type 0} (slots : ℕ) where
  -- An index that an event moves is at the spot from which the event moves it.
  comes_from : (i index : ℕ) (from : Spot) (before : List (Event T)) → spot_of index before ≡ from → (index == i) ≡ true → spot_of i before ≡ from
  comes_from i index from before spot_is test = rw (← is_it index i test) spot_is

  -- an event that moves an index right leaves it with whom its spot says
  one_loan : (i : ℕ) (before : List (Event T)) (held : List ℕ) (e : Event T) → MovesRight slots before e → IsWith (spot_of i before) held
      → IsWith (spot_after i (spot_of i before) e) (held_after i held (loans e))
  one_loan i before held (Claimed p index) right old = goes_to (index == i) (spot_of i before) (Passing p) p held refl old
  one_loan i before held (HandedOut p (items.Index index)) right old = goes_to (index == i) (spot_of i before) (Passing p) p held refl old
  one_loan i before held (TakenBack p index) right old = goes_to (index == i) (spot_of i before) (Passing p) p held refl old
  one_loan i before held (Published p (items.Index index)) right old = comes_back (index == i) (spot_of i before) Waiting held refl old
  one_loan i before held (Returned p index) right old = comes_back (index == i) (spot_of i before) Returning held refl old
  one_loan i before held (Freed p index) right old = comes_back (index == i) (spot_of i before) Free held refl old
  one_loan i before held (Begun p start) right old = begun start right
    where
      -- the begin of a call leaves each index with whom its spot says
      begun : (start : Start T) → MovesRight slots before (Begun p start) → IsWith (spot_after i (spot_of i before) (Begun p start)) held
      begun (starts.Loan (calls.Send index)) right =
          stays_with (index == i) (spot_of i before) (With p) (Passing p) held (comes_from i index (With p) before right.1) (λ h. h) old
      begun (starts.Loan (calls.GiveUp index)) right =
          stays_with (index == i) (spot_of i before) (With p) (Passing p) held (comes_from i index (With p) before right.1) (λ h. h) old
      begun (starts.Loan (calls.GiveBack index)) right =
          stays_with (index == i) (spot_of i before) (With p) (Passing p) held (comes_from i index (With p) before right.1) (λ h. h) old
      begun start right = old
  one_loan i before held (Finished p start answer) right old = finished start answer right
    where
      -- the end of a call leaves each index with whom its spot says
      finished : (start : Start T) (answer : Answer T) → MovesRight slots before (Finished p start answer)
          → IsWith (spot_after i (spot_of i before) (Finished p start answer)) held
      finished (starts.Loan calls.Loan) (answers.Index index) right =
          stays_with (index == i) (spot_of i before) (Passing p) (With p) held (comes_from i index (Passing p) before right.1) (λ h. h) old
      finished (starts.Loan calls.Receive) (answers.PoppedIndex index) right =
          stays_with (index == i) (spot_of i before) (Passing p) (With p) held (comes_from i index (Passing p) before right.1) (λ h. h) old
      finished start answer right = old
  one_loan i before held e right old = old

  -- at each moment of a run each index is with whom its spot says
  pub loaned : (events : List (Event T)) → Each (MovesRight slots) events → (i : ℕ) (past future : List (Event T)) → events ≡ past ++ future
      → IsWith (spot_of i past) (holders loans i past)
  loaned events moves i =
      always loans (λ past. IsWith (spot_of i past) (holders loans i past)) events refl
      (λ e before at old.
      rw (fold-append (spot_after i) Free before (e ∷ [])) (subst (IsWith (spot_after i (spot_of i before) e)) (sym (one_after loans i before e))
      (one_loan i before (holders loans i before) e (moves before at.0 e at.1) old)))

  -- right before an event of the run
  pub loaned_at : (events : List (Event T)) → Each (MovesRight slots) events → (i : ℕ) (e : Event T) (before : List (Event T))
      → Follows e before events → (spot : Spot) → spot_of i before ≡ spot → IsWith spot (holders loans i before)
  loaned_at events moves i e before follows spot spot_is =
      rw (← spot_is) (loaned events moves i before (e ∷ follows.0) follows.1)
