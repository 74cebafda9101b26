-- The laws of one index of a robust set or a container: where each call that freed it might, it was granted
-- only while nobody held it.
use Rattle.std.proofs.Common.{◌≡◌, ℕ, ◌==◌, ◌∷◌, ◌++◌, List, true, refl, sym, ap, subst, ◌∙◌, arith}
use Rattle.std.proofs.lemmas.Bool.Decides.{nat_tests}
use Rattle.std.proofs.lemmas.List.Sums.{sum_by-append, sum_by-cons}
use Rattle.model.specs.declared.event.Event.{Event}
use Rattle.model.specs.declared.event.Event.TheVariants.{FreedOf}
use Rattle.model.specs.declared.turn.Kind.TheVariants as kinds
use Rattle.model.specs.Coding.{Coding, one_word}
use Rattle.history.specs.History.{IsHistory}
use Rattle.laws_container.proofs.OpenRuns as container
use Rattle.laws_robust.proofs.OpenRuns as robust
use Rattle.history_laws.specs.Grants.{IsFreedRight, IsHeldByOne, freeing, times_freed}
use Rattle.history_laws.proofs.GrantsEvents.{container_held, set_held}

-- in a history of a robust set in which each that freed an index might, it was granted only where nobody held it
pub set_grants : (index capacity : ℕ) (events : List (Event ℕ)) → IsHistory one_word kinds.Robust capacity events → IsFreedRight index events
    → IsHeldByOne index events
set_grants index capacity events history freed =
    let is_sound = robust.reached_open_sound history.trace history.run.of_kind history.run.reached in
    subst (IsHeldByOne index) (sym history.is)
    (set_held index history.trace.world.capacity history.trace.events is_sound.holds.good.does is_sound.inv.spans (subst (IsFreedRight index) history.is freed))

-- in a history of a container in which each that freed an index might, it was granted only where nobody held it
pub container_grants : {T : Type 0} (index : ℕ) (code : Coding T) (capacity : ℕ) (events : List (Event T)) → IsHistory code kinds.Container capacity events
    → IsFreedRight index events → IsHeldByOne index events
container_grants index code capacity events history freed =
    let is_sound = container.reached_open_sound history.trace history.run.of_kind history.run.reached in
    subst (IsHeldByOne index) (sym history.is)
    (container_held index history.trace.world.capacity history.trace.events is_sound.holds.good.does
    is_sound.inv.spans (subst (IsFreedRight index) history.is freed))

-- in a history in which the index was never freed, each event that frees it is of a call that might
pub never_freed : {T : Type 0} (i : ℕ) (events : List (Event T)) → times_freed i events ≡ 0 → IsFreedRight i events
never_freed {T} i events none before after (FreedOf p index owner) is = λ same.
    (let e : Event T = FreedOf p index owner in
    let all = sum_by-append (freeing i) before (e ∷ after) in
    let here = sum_by-cons (freeing i) e after in
    let this : (index == i) ≡ true = grind (arith, nat_tests) in
    let one : freeing i e ≡ 1 = rw this refl in
    let zero : times_freed i (before ++ e ∷ after) ≡ 0 = ap (times_freed i) (sym is) ∙ none in
    absurd (omega arith))
never_freed i events none before after e is = tt
