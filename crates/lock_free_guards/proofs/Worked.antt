-- Examples of the definitions that the contracts cite, each computed.
use Rattle.std.proofs.Common.{◌≡◌, ℕ, true, false, Option, None, Some, List, [], ◌∷◌, refl}
use Rattle.steps.specs.declared.indices.enums.UniqueIndexSetAcquireFailure.TheVariants.{OutOfIndices}
use Rattle.model.specs.declared.event.Answer.TheVariants.{NoIndex}
use Rattle.model.specs.declared.event.Event.{Event}
use Rattle.model.specs.declared.event.Event.TheVariants.{Begun, Filled, Finished, FreedOf, Granted}
use Rattle.model.specs.declared.event.Start.{Start}
use Rattle.model.specs.declared.event.Start.TheVariants.{Indices}
use Rattle.model.specs.declared.families.indices.IndexStart.TheVariants.{Acquire}
use Rattle.history_owners.specs.Robust.{visit, HasAsked, WasTold, HasFreed}
use Rattle.lock_free_guards.specs.Held.{HoldsFor, frees_of, number_freed}
use Rattle.lock_free_guards.specs.Recovered.{IsToldFor}
use Rattle.lock_free_guards.specs.Tries.{refused_by}

-- ---- whom an index is held for

-- the party 0 filled the index 4 for the owner 7, and was granted it
abbrev got : List (Event ℕ)
got = Filled 0 4 7 ∷ Granted 0 4 7 ∷ []

it_is_held_for_its_owner : HoldsFor 7 4 got
it_is_held_for_its_owner = refl

a_filled_index_is_not_held_yet : HoldsFor 7 4 (Filled 0 4 7 ∷ []) ≡ ◌≡◌ {A = Option ℕ} None (Some 7)
a_filled_index_is_not_held_yet = refl

what_was_freed_is_not_held : HoldsFor 7 4 (Granted 0 4 7 ∷ FreedOf 0 4 7 ∷ []) ≡ ◌≡◌ {A = Option ℕ} None (Some 7)
what_was_freed_is_not_held = refl

another_index_makes_no_difference : HoldsFor 7 4 (Granted 0 4 7 ∷ Granted 0 5 8 ∷ FreedOf 0 5 8 ∷ [])
another_index_makes_no_difference = refl

the_latest_grant_counts : HoldsFor 8 4 (Granted 0 4 7 ∷ Granted 0 4 8 ∷ [])
the_latest_grant_counts = refl

-- ---- how many were freed

two_of_the_owner : number_freed 7 (FreedOf 0 4 7 ∷ FreedOf 0 5 8 ∷ FreedOf 0 6 7 ∷ []) ≡ 2
two_of_the_owner = refl

one_of_another : number_freed 8 (FreedOf 0 4 7 ∷ FreedOf 0 5 8 ∷ FreedOf 0 6 7 ∷ []) ≡ 1
one_of_another = refl

a_grant_frees_none : frees_of 7 (Granted 0 4 7) ≡ 0
a_grant_frees_none = refl

-- ---- what a recovery was told

it_freed_one_of_the_owner : IsToldFor 7 (visit 4 7 HasFreed)
it_freed_one_of_the_owner = refl

it_was_told_of_one_that_is_his_no_more : IsToldFor 7 (visit 4 7 WasTold)
it_was_told_of_one_that_is_his_no_more = refl

it_asked_about_one_of_another : IsToldFor 7 (visit 5 8 HasAsked)
it_asked_about_one_of_another = refl

it_freed_one_of_another : IsToldFor 7 (visit 5 8 HasFreed) ≡ (true ≡ false)
it_freed_one_of_another = refl

it_left_one_of_the_owner : IsToldFor 7 (visit 4 7 HasAsked) ≡ (false ≡ true)
it_left_one_of_the_owner = refl

-- ---- tries

abbrev acquire : Start ℕ
acquire = Indices Acquire

a_refused_try : refused_by acquire 3 ≡ Begun 3 acquire ∷ Finished 3 acquire (NoIndex OutOfIndices) ∷ []
a_refused_try = refl
