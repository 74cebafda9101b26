-- The steps of the two looks at the head, `borrowed_indices` and `is_locked`, keep the invariant.
use Rattle.std.proofs.Common.{◌≡◌, ◌≢◌, ℕ, ◌+◌, ◌≤◌, true, false, Some, refl, sym, ◌∙◌, arith}
use Rattle.laws_indices.proofs.Names.{nat_tests, set-get_or, Ask, borrowed, locked, says_locked, IndexFlight}
use Rattle.laws_indices.proofs.Names.{CountsRight, words_after, Scene, Inv}
use Rattle.steps.specs.declared.ask.Op.TheVariants.{Load}
use Rattle.steps.specs.Indices.Unique.{borrowed_number}
use Rattle.model.specs.declared.families.indices.IndexStart.TheVariants as starts
use Rattle.model.specs.declared.families.indices.calls.IndexFlight.TheVariants.{BorrowedIndices, IsLocked}
use Rattle.model.specs.Families.Indices.Reading.{is_locked, Tally, tally_of, in_use}
use Rattle.laws_indices.proofs.Core.{head_of, Good}
use Rattle.laws_indices.proofs.Invariant.{IndexSet, outline}
use Rattle.laws_indices.proofs.Moves.{counts_right}
use Rattle.laws_indices.proofs.Stages.{busy, IsHere, all_in_use, StepOf, ends, same_tally}

-- the call `borrowed_indices`, which has one stage
abbrev pub borrowed_at : IndexFlight
borrowed_at = BorrowedIndices (record { call = record {}; given = tt; room = tt })

-- the call `is_locked`, which has one stage
abbrev pub locked_at : IndexFlight
locked_at = IsLocked (record { call = record {}; given = tt; room = tt })

module _ {T : Type 0} {scene : Scene T IndexSet} (inv : Inv outline scene) (straight : scene.backs ≡ 0) (few_steps : scene.steps ≤ 0) where
  open scene use {capacity as c, party as p, steps, backs, since, changes, latest, events}
  open scene.state use {words as ws, holders as hs}

  good_before : Good c ws hs (busy scene)
  good_before = inv.holds.good

  abbrev loads : Ask
  loads = record { word = 0; op = Load }

  -- the load leaves the words
  same : words_after ws (Some loads) ≡ ws
  same = set-get_or ws 0 0

  -- a load leaves the set good, with as many calls at work
  good_same : (busy' : ℕ) → busy' + 0 ≡ busy scene + 0 → Good c (words_after ws (Some loads)) hs busy'
  good_same = grind (arith, busy, same, good_before)

  -- the number in the head lies between the number of indices that are held and the number in use, or the
  -- set is locked
  counts_so : IsHere scene borrowed_at → CountsRight events (borrowed_number (head_of ws))
  counts_so here = (shut, unlocked)
    where
      -- of a locked set the number of borrowed indices is 0
      shut : is_locked events ≡ true → borrowed_number (head_of ws) ≡ 0
      shut = grind arith

      -- while the set is not locked, the number in the head lies between the indices that are held and
      -- those in use
      unlocked : is_locked events ≡ false → ((tally_of events).held ≤ borrowed_number (head_of ws)) × (borrowed_number (head_of ws) ≤ in_use (tally_of events))
      unlocked unlocked_there =
          let says : says_locked (head_of ws) ≡ false = sym inv.holds.lock ∙ unlocked_there in
          let not_locked : borrowed (head_of ws) ≢ locked = grind (arith, nat_tests) in
          let count_right = counts_right c ws hs (busy scene) good_before not_locked in
          let number = count_right.0 in
          let all = all_in_use scene here in
          rw (says, inv.holds.tally) (omega arith, omega arith)

  -- a look that ends leaves the tally
  told : (h t g t' g' : ℕ) → t' + 0 ≡ t + 0 → g' + 0 ≡ g + 0
      → ◌≡◌ {A = Tally} (record { held = h; taking = t; giving = g }) (record { held = h; taking = t'; giving = g' })
  told h t g t' g' a b = same_tally h h t t' g g' refl (omega arith) (omega arith)

  -- what the set counts is at most the capacity
  counts_few : borrowed_number (head_of ws) ≤ c
  counts_few = grind arith

  -- the load of the head by `borrowed_indices` keeps the invariant
  pub counts_step : IsHere scene borrowed_at → StepOf scene starts.BorrowedIndices borrowed_at
  counts_step = grind (arith, ends, head_of, false, good_same, told, counts_so, counts_few, same)

  -- the load of the head by `is_locked` keeps the invariant
  pub looks_step : StepOf scene starts.IsLocked locked_at
  looks_step = grind (arith, ends, head_of, false, good_same, told, same)
