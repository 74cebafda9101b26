-- What a wrong body of a look would answer, and which of the call's clauses refuses that. It is said of every history. A name says what
-- the body does.
use Rattle.std.proofs.Common.{◌≡◌, ◌≢◌, ℕ, ◌%◌, ◌^◌, Bool, true, false, List, [], ◌∷◌, ◌++◌, refl, sym, subst, ◌∙◌}
use Rattle.std.proofs.lemmas.List.{same_from_push}
use Rattle.model.specs.declared.event.Answer.TheVariants.{Truth, Number}
use Rattle.model.specs.declared.event.Event.{Event}
use Rattle.model.specs.declared.event.Event.TheVariants.{Finished}
use Rattle.model.specs.declared.event.Start.TheVariants.{Bits}
use Rattle.model.specs.declared.families.bits.BitsStart.TheVariants.{IsSet, Count}
use Rattle.lock_free.specs.Bits.Looks.{IsSetDone}
use Rattle.lock_free.specs.Counts.Looks.{CountDone}
use Rattle.lock_free.specs.HistoryView.View.{View}
use Rattle.lock_free.specs.Sums.{standing, count_at}
use Rattle.uses_laws.proofs.WrongBodies.{no_call}

-- a look that answers false, though its place stands as it ends
pub is_set_answers_false : (place by : ℕ) (before : List (Event ℕ)) (v w : View ℕ)
    → w.seen ≡ before ++ Finished by (Bits (IsSet place)) (Truth false) ∷ []
    → standing place before ≡ 1 → IsSetDone place false v w → ⊥
is_set_answers_false place by before v w is stood set_done =
    let same = (same_from_push _ _ _ _ (sym is ∙ set_done.is)).0 in
    let clear : standing place before ≡ 0 = subst (λ es. standing place es ≡ 0) (sym same) set_done.stood in
    let e = sym stood ∙ clear in
    cc

-- no look answers true though its place is clear as it ends
pub is_set_answers_true : (place by : ℕ) (before : List (Event ℕ)) (v w : View ℕ)
    → w.seen ≡ before ++ Finished by (Bits (IsSet place)) (Truth true) ∷ []
    → standing place before ≡ 0 → IsSetDone place true v w → ⊥
is_set_answers_true place by before v w is clear set_done =
    let same = (same_from_push _ _ _ _ (sym is ∙ set_done.is)).0 in
    let stood : standing place before ≡ 1 = subst (λ es. standing place es ≡ 1) (sym same) set_done.stood in
    let e = sym clear ∙ stood in
    cc

-- a look that answers another number than the place counts as it ends
pub count_answers_another : (place number by : ℕ) (before : List (Event ℕ)) (v w : View ℕ)
    → w.seen ≡ before ++ Finished by (Bits (Count place)) (Number number) ∷ []
    → number ≢ count_at place before % 2 ^ 64 → CountDone place number v w → ⊥
count_answers_another place number by before v w is other k =
    let same = (same_from_push _ _ _ _ (sym is ∙ k.is)).0 in
    other (subst (λ es. number ≡ count_at place es % 2 ^ 64) (sym same) k.count)

-- no look answers without having called
pub is_set_without_a_step : (place : ℕ) (answer : Bool) (v : View ℕ) → IsSetDone place answer v v → ⊥
is_set_without_a_step place answer v set_done = no_call _ _ _ _ v v refl set_done.made.called

pub count_without_a_step : (place number : ℕ) (v : View ℕ) → CountDone place number v v → ⊥
count_without_a_step place number v k = no_call _ _ _ _ v v refl k.made.called
