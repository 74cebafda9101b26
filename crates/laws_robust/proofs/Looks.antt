-- Each step of the two calls that look, `borrowed_indices` and `is_locked`, keeps the invariant, in the form
-- that the frame asks of a turn (`Shows`, Invariant).
use Rattle.laws_robust.proofs.Names.{◌≡◌, ℕ, ◌+◌, ◌*◌, ◌≤◌, Bool, true, false, Option, Some, None, is_some}
use Rattle.laws_robust.proofs.Names.{List, [], refl, ap, arith, Ask, After, Count, Counted, count_after}
use Rattle.laws_robust.proofs.Names.{count_goes_back, went_on, Number, IsFilled, filled_of, as_it_is, as_call}
use Rattle.laws_robust.proofs.Names.{old_of, words_after}
use Rattle.steps.specs.declared.indices.robust.parts.Count.TheVariants as counts
use Rattle.steps.specs.Indices.Robust.Looks.{borrowed_counted}
use Rattle.model.specs.declared.families.indices.robust.RobustStart.TheVariants.{BorrowedIndices, IsLocked}
use Rattle.model.specs.declared.families.indices.robust.calls.RobustFlight.TheVariants as flights
use Rattle.lemmas_owners.proofs.Counting.{count_none, count_next}
use Rattle.lemmas_owners.proofs.Choices.{both_ways}
use Rattle.laws_robust.proofs.Effects.{not_shut, unlocked, is_shut, stays_same, stays_raised}
use Rattle.laws_robust.proofs.Invariant.{Scene, Inv}
use Rattle.laws_robust.proofs.Knows.{Knows, Borrowed}
use Rattle.laws_robust.proofs.CallProgress.{borrowed_at, looking, count_number, CountAt}
use Rattle.laws_robust.proofs.Parts.{count_ask, count_step, IsSaid}
use Rattle.laws_robust.proofs.Stages.{IsHere, all, now, StepOf, Leads, goes_quietly, ends_quietly}
use Rattle.lemmas_owners.proofs.Operations.{loads, loads_same}

-- an option that is None is not present
is_none : {A : Type 0} (o : Option ℕ) → o ≡ None → is_some o ≡ true → A
is_none o none some = grind arith

module _ {T : Type 0} {scene : Scene T} (inv : Inv scene) where
  open scene use {capacity as c, party as p, steps as steps, backs as backs, events as events}

  -- the words of the set before the step
  abbrev ws : List ℕ
  ws = scene.set.words

  -- what the count says: none is counted before the first index, an empty cell adds none, and
  -- a filled cell adds one
  pub said : IsSaid scene inv (Borrowed (now scene))
  said =
      record {
        none = count_none p IsFilled events;
        empty_next =
            λ k filled below none counted. count_next IsFilled counted false (omega arith)
            (λ e. absurd (cc)) (λ e some. is_none (filled_of k events) none some);
        filled_next =
            λ k filled owner below is counted. count_next IsFilled counted true (omega arith) (λ e. ap is_some is) (λ e. absurd (cc));
      }

  -- the party counts the borrowed indices, and is at this stage of the count
  module _ (here : IsHere scene BorrowedIndices) (count : Count) (at : CountAt c count) (done : all scene ≡ [])
      (knows : Knows c (borrowed_at c count) (now scene)) (few_steps : steps ≤ count_number c count + backs * (c + 2)) where
    -- a step that writes nothing, after which the count is as `r` says, keeps the invariant (`Shows`)
    abbrev counts_to : Option Ask → Bool → After Count Counted → Type 0
    counts_to ask back r =
        Leads scene BorrowedIndices ask back []
        (as_call flights.BorrowedIndices Number
        (went_on as_it_is tt tt (borrowed_counted (record { capacity = c; count = count }) r)))

    -- the step of the count keeps the invariant (`Shows`)
    count_moves : counts_to (Some (count_ask count)) (count_goes_back count (old_of ws (Some (count_ask count))))
        (count_after c count (old_of ws (Some (count_ask count))))
    count_moves =
        count_step scene inv (Borrowed (now scene)) said counts_to count (record {
          at = at;
          paid = knows.paid;
          scanned = knows.scanned;
          says = knows.says;
          goes = λ next ask back same next_at paid next_scanned says few.
              let low = few 0 (c + 2) (omega arith) (omega arith) in
              goes_quietly scene inv ask back here
              (stays_same scene inv (words_after ws ask) same) (omega arith) (refl, next_at, done)
              (record { paid = paid; scanned = next_scanned; owns = tt; says = says; gone = tt });
          meets = λ ask same shut paid few.
              let low = few 0 (c + 2) (omega arith) (omega arith) in
              ends_quietly scene inv ask false here (record {
                stays = stays_same scene inv (words_after ws ask) same;
                settles = λ i o. refl;
                rights = λ i r. refl;
                right = (λ t. refl, λ f. both_ways _ f (is_shut scene inv shut));
                done = done;
                few = omega arith;
                paid = paid;
              });
          rests = λ filled ask same worn end most says paid few.
              let low = few 0 (c + 2) (omega arith) (omega arith) in
              ends_quietly scene inv ask false here (record {
                stays = stays_same scene inv (words_after ws ask) same;
                settles = λ i o. refl;
                rights = λ i r. refl;
                right = (λ t. both_ways _ (unlocked scene inv (λ shut. absurd (omega arith))) t, λ f. says);
                done = done;
                few = omega arith;
                paid = paid;
              });
          closes = λ filled ask less new most says none paid few.
              let low = few 0 (c + 2) (omega arith) (omega arith) in
              ends_quietly scene inv ask false here (record {
                stays = stays_raised scene inv (words_after ws ask) less new;
                settles = λ i o. refl;
                rights = λ i r. refl;
                right = (λ t. both_ways _ (unlocked scene inv (not_shut scene inv less)) t, λ f. says);
                done = done;
                few = omega arith;
                paid = paid;
              });
        })

  -- each step of `borrowed_indices` keeps the invariant (`Shows`)
  pub borrowed_step : IsHere scene BorrowedIndices → (count : Count) → CountAt c count → all scene ≡ []
      → Knows c (borrowed_at c count) (now scene) → steps ≤ count_number c count + backs * (c + 2)
      → StepOf scene BorrowedIndices (borrowed_at c count)
  borrowed_step here counts.LoadsCounter at done knows few_steps = count_moves here counts.LoadsCounter at done knows few_steps
  borrowed_step here (counts.LoadsCell number i filled) at done knows few_steps = count_moves here (counts.LoadsCell number i filled) at done knows few_steps
  borrowed_step here (counts.ExchangesCounter number filled) at done knows few_steps =
      count_moves here (counts.ExchangesCounter number filled) at done knows few_steps

  -- the step of `is_locked` keeps the invariant (`Shows`)
  pub looks_step : IsHere scene IsLocked → all scene ≡ [] → Knows c looking (now scene) → steps ≤ 0 → StepOf scene IsLocked looking
  looks_step here done knows few_steps =
      ends_quietly scene inv (Some (loads 0)) false here (record {
        stays = stays_same scene inv _ (loads_same ws 0);
        settles = λ i o. refl;
        rights = λ i r. refl;
        right = inv.good.lock;
        done = done;
        few = omega arith;
        paid = let paid = knows.paid in omega arith;
      })
