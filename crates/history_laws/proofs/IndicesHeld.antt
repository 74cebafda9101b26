-- How many indices are held, as it is counted from event to event.
use Rattle.std.proofs.Common.{◌≡◌, ◌≢◌, ⊎_elim, ℕ, zero, suc, ◌+◌, ◌<◌, ◌≤◌, ◌==◌, Bool, true, false, Option, None}
use Rattle.std.proofs.Common.{is_some, List, [], ◌∷◌, ◌++◌, refl, sym, ap, ◌∙◌, arith}
use Rattle.std.proofs.lemmas.Bool.{cases_lt}
use Rattle.std.proofs.lemmas.List.Sums.{fold-append}
use Rattle.model.specs.declared.event.Answer.{Answer}
use Rattle.model.specs.declared.event.Answer.TheVariants.{NoIndex}
use Rattle.model.specs.declared.event.Event.{Event}
use Rattle.model.specs.declared.event.Event.TheVariants.{Begun, Claimed, Freed, Finished}
use Rattle.model.specs.declared.event.Start.{Start}
use Rattle.model.specs.declared.event.Start.TheVariants.{Indices}
use Rattle.model.specs.declared.families.indices.IndexStart.TheVariants.{Acquire, Release}
use Rattle.model.specs.Families.Indices.Promises.{HoldsRight}
use Rattle.model.specs.Families.Indices.Reading.{holder_after, holder_of, Tally, tally_after, tally_of}
use Rattle.model.specs.Reading.{Each}
use Rattle.model.specs.Turns.{one_if}
use Rattle.laws_indices.proofs.Sums.{sum_below, sum_moved, sum_same, sum_none}
use Rattle.history.proofs.Numbers.{same_number, other_number, is_number}
use Rattle.history_bits.proofs.Acts.Ways.{along}
use Rattle.history_laws.specs.Indices.{held_below}
use Rattle.lemmas.proofs.Cases.{by_bool}

module _ {T : Type 0} where
  -- 1 where index i has a holder after these events, else 0
  abbrev is_held : List (Event T) → ℕ → ℕ
  is_held events i = one_if (is_some (holder_of i events))

  -- how many of the first n indices have a holder, as a sum over them
  as_sum : (events : List (Event T)) (n : ℕ) → held_below n events ≡ sum_below (is_held events) n
  as_sum events zero = refl
  as_sum events (suc n) = ap (λ k. is_held events n + k) (as_sum events n)

  -- ---- one event

  -- a begin leaves how many indices count as held
  begun_still : (s : Tally) (p : ℕ) (start : Start T) → (tally_after s (Begun p start)).held ≡ s.held
  begun_still s p (Indices Acquire) = refl
  begun_still s p start = refl

  -- an end leaves how many indices count as held
  finished_still : (s : Tally) (p : ℕ) (start : Start T) (answer : Answer T) → (tally_after s (Finished p start answer)).held ≡ s.held
  finished_still s p (Indices Acquire) (NoIndex failure) = refl
  finished_still s p (Indices (Release index mode)) answer = refl
  finished_still s p start answer = refl

  module _ (c : ℕ) (before : List (Event T)) where
    -- 1 where index i has a holder after event e, else 0
    abbrev held_then : Event T → ℕ → ℕ
    held_then e i = one_if (is_some (holder_after i (holder_of i before) e))

    -- nobody comes to hold an index at or behind the capacity
    behind : (i : ℕ) → c ≤ i → (e : Event T) → HoldsRight c before e → holder_of i before ≡ None → holder_after i (holder_of i before) e ≡ None
    behind i past (Claimed p index) right none =
        by_bool (index == i)
        (λ t.
        let same : index ≡ i = is_number index i t in
        absurd (omega (arith, right.0)))
        (λ t. rw t none)
    behind i past (Freed p index) right none = by_bool (index == i) (λ t. rw t refl) (λ t. rw t none)
    behind i past e right none = none

    -- with one event more, the number that is counted from event to event is still that of the
    -- indices that somebody holds
    counts_on : ((i : ℕ) → c ≤ i → holder_of i before ≡ None) → (tally_of before).held ≡ sum_below (is_held before) c
        → (e : Event T) → HoldsRight c before e → (tally_after (tally_of before) e).held ≡ sum_below (held_then e) c
    counts_on past so (Claimed p index) right =
        let others : (i : ℕ) → i ≢ index → held_then (Claimed p index) i ≡ is_held before i =
        λ i ne. (let t : (index == i) ≡ false = other_number index i (λ same. ne (sym same)) in rw t refl) in
        let none : is_held before index ≡ 0 = ap (λ (o : Option ℕ). one_if (is_some o)) right.1 in
        let one : held_then (Claimed p index) index ≡ 1 = (let t = same_number index in rw t refl) in
        omega (arith, sum_moved (held_then (Claimed p index)) (is_held before) c index right.0 others)
    counts_on past so (Freed p index) right =
        let low : index < c = ⊎_elim (λ less. less) (λ more. (let none = past index more in absurd (cc))) (cases_lt index c) in
        let others : (i : ℕ) → i ≢ index → held_then (Freed p index) i ≡ is_held before i =
        λ i ne. (let t : (index == i) ≡ false = other_number index i (λ same. ne (sym same)) in rw t refl) in
        let some : is_held before index ≡ 1 = ap (λ (o : Option ℕ). one_if (is_some o)) right in
        let none : held_then (Freed p index) index ≡ 0 = (let t = same_number index in rw t refl) in
        omega (arith, sum_moved (held_then (Freed p index)) (is_held before) c index low others)
    counts_on past so (Begun p start) right = begun_still (tally_of before) p start ∙ so
    counts_on past so (Finished p start answer) right = finished_still (tally_of before) p start answer ∙ so
    counts_on past so e right = so

  -- ---- all events

  module _ (c : ℕ) (events : List (Event T)) (each : Each (HoldsRight c) events) where
    -- at no moment somebody holds an index at or behind the capacity
    none_behind : (before after : List (Event T)) → events ≡ before ++ after → (i : ℕ) → c ≤ i → holder_of i before ≡ None
    none_behind before after is i past =
        along events (λ h. holder_of i h ≡ None)
        (λ h rest e at none. fold-append (holder_after i) None h (e ∷ []) ∙ behind c h i past e (each h rest e at) none)
        refl before after is

    -- at each moment the number that is counted from event to event is that of the indices that somebody holds
    counted : (before after : List (Event T)) → events ≡ before ++ after → (tally_of before).held ≡ sum_below (is_held before) c
    counted =
        along events (λ h. (tally_of h).held ≡ sum_below (is_held h) c)
        (λ h rest e at so. (
        let tally : tally_of (h ++ e ∷ []) ≡ tally_after (tally_of h) e = fold-append tally_after _ h (e ∷ []) in
        let held : (i : ℕ) → i < c → held_then c h e i ≡ is_held (h ++ e ∷ []) i =
        λ i low. ap (λ (o : Option ℕ). one_if (is_some o)) (sym (fold-append (holder_after i) None h (e ∷ []))) in
        ap (λ (t : Tally). t.held) tally
        ∙ (counts_on c h (none_behind h (e ∷ rest) at) so e (each h rest e at) ∙ sum_same (held_then c h e) (is_held (h ++ e ∷ [])) c held)))
        (sym (sum_none (is_held []) c (λ i low. refl)))

    -- at each moment the number that counts as held is that of the indices that somebody holds
    pub held_is : (before after : List (Event T)) → events ≡ before ++ after → (tally_of before).held ≡ held_below c before
    held_is before after is = counted before after is ∙ sym (as_sum before c)
