-- A party's first call, of a pass that had seen nothing: its events are those of this call.
use Rattle.std.proofs.Common.{◌≡◌, ◌==◌, ℕ, ◌+◌, Bool, true, false, List, [], ◌∷◌, ◌++◌, if◌then◌else◌, sum_by, refl, ap, ◌∙◌, arith}
use Rattle.std.proofs.lemmas.Bool.Decides.{nat_tests}
use Rattle.std.proofs.lemmas.List.Sums.{sum_by-append, sum_by-cons}
use Rattle.model.specs.declared.event.Answer.{Answer}
use Rattle.model.specs.declared.event.Answer.TheVariants as answers
use Rattle.model.specs.declared.event.Start.{Start}
use Rattle.model.specs.declared.event.Start.TheVariants.{Indices}
use Rattle.model.specs.declared.families.indices.IndexStart.TheVariants.{Acquire}
use Rattle.model.specs.Reading.{is_party, whose}
use Rattle.history.specs.Held.{claims, frees, Holds}
use Rattle.history.specs.Known.{events_by, own_of}
use Rattle.history.proofs.Known.{by_more}
use Rattle.lock_free.specs.Event.{Event}
use Rattle.lock_free.specs.Event.TheVariants.{Begun, Claimed, Finished}
use Rattle.lock_free.specs.History.{Called}
use Rattle.lock_free.specs.HistoryView.View.{View}

-- where nothing but what a call wrote has a part in a sum, the sum is that of what it wrote
add_up : {all a b old others begin rest during last end wrote : ℕ} → all ≡ a + b → a ≡ old + others → old ≡ 0 → others ≡ 0
    → b ≡ begin + rest
    → begin ≡ 0
    → rest ≡ during + last
    → during ≡ wrote
    → last ≡ end + 0
    → end ≡ 0
    → all ≡ wrote
add_up parts front none others opened no_begin rest during closed no_end = omega arith

module _ (f : Event ℕ → ℕ) (p : ℕ) where
  -- an event with no part in the sum adds none for its party either
  own_none : (e : Event ℕ) → f e ≡ 0 → sum_by f (own_of p e) ≡ 0
  own_none e none = go (is_party p (whose e))
    where
      go : (b : Bool) → sum_by f (if b then e ∷ [] else []) ≡ 0
      go true = omega (arith, sum_by-cons f e [])
      go false = refl

  -- the events of a party's first call sum to what the call wrote
  sum_own : (start : Start ℕ) (answer : Answer ℕ) (wrote : List (Event ℕ)) (old new : View ℕ) → Called p start answer wrote old new
      → f (Begun p start) ≡ 0
      → f (Finished p start answer) ≡ 0
      → old.seen ≡ []
      → sum_by f (events_by p new.seen) ≡ sum_by f wrote
  sum_own start answer wrote old new c begins ends first =
      let before = old.seen ++ c.others in
      let last = Finished p start answer ∷ [] in
      let call = Begun p start ∷ (c.during ++ last) in
      let all : sum_by f (events_by p new.seen) ≡ sum_by f (events_by p (before ++ call)) = ap (λ (es : List (Event ℕ)). sum_by f (events_by p es)) c.is in
      let parts : sum_by f (events_by p (before ++ call)) ≡ sum_by f (events_by p before) + sum_by f (events_by p call) =
      ap (sum_by f) (by_more p before call) ∙ sum_by-append f (events_by p before) (events_by p call) in
      let front : sum_by f (events_by p before) ≡ sum_by f (events_by p old.seen) + sum_by f (events_by p c.others) =
      ap (sum_by f) (by_more p old.seen c.others) ∙ sum_by-append f (events_by p old.seen) (events_by p c.others) in
      let none : sum_by f (events_by p old.seen) ≡ 0 = ap (λ (es : List (Event ℕ)). sum_by f (events_by p es)) first in
      let others : sum_by f (events_by p c.others) ≡ 0 = ap (sum_by f) c.others_own in
      let opened : sum_by f (events_by p call) ≡ sum_by f (own_of p (Begun p start)) + sum_by f (events_by p (c.during ++ last)) =
      sum_by-append f (own_of p (Begun p start)) (events_by p (c.during ++ last)) in
      let no_begin : sum_by f (own_of p (Begun p start)) ≡ 0 = own_none (Begun p start) begins in
      let rest : sum_by f (events_by p (c.during ++ last)) ≡ sum_by f (events_by p c.during) + sum_by f (events_by p last) =
      ap (sum_by f) (by_more p c.during last) ∙ sum_by-append f (events_by p c.during) (events_by p last) in
      let during : sum_by f (events_by p c.during) ≡ sum_by f wrote = ap (sum_by f) c.during_own in
      let closed : sum_by f (events_by p last) ≡ sum_by f (own_of p (Finished p start answer)) + 0 =
      sum_by-append f (own_of p (Finished p start answer)) [] in
      let no_end : sum_by f (own_of p (Finished p start answer)) ≡ 0 = own_none (Finished p start answer) ends in
      all ∙ add_up parts front none others opened no_begin rest during closed no_end

one_claim : (index p : ℕ) → sum_by (claims {T = ℕ} index) (Claimed p index ∷ []) ≡ 1
one_claim index p = let same : (index == index) ≡ true = grind (arith, nat_tests) in rw same refl

-- an acquire that took an index holds it
pub holds_first : (p index : ℕ) (old new : View ℕ)
    → Called p (Indices Acquire) (answers.Index index) (Claimed p index ∷ []) old new
    → old.seen ≡ []
    → Holds index (events_by p new.seen)
holds_first p index old new c first =
    let claimed = sum_own (claims index) p (Indices Acquire) (answers.Index index) (Claimed p index ∷ []) old new c refl refl first in
    let freed = sum_own (frees index) p (Indices Acquire) (answers.Index index) (Claimed p index ∷ []) old new c refl refl first in
    let none : sum_by (frees {T = ℕ} index) (Claimed p index ∷ []) ≡ 0 = refl in
    omega (arith, one_claim index p)
