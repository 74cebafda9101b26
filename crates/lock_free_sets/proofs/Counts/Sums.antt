-- For clients: what each call on a counting bit set adds to what its pass made, place by place, and what a set answers
-- where all that was seen is what its pass made.
use Rattle.lock_free_sets.proofs.Names.{◌≡◌, ◌==◌, ℕ, ◌+◌, ◌-◌, ◌^◌, ◌≤◌, true, cond, List, [], ◌∷◌, ◌++◌, map, refl, sym}
use Rattle.lock_free_sets.proofs.Names.{ap, ◌∙◌, arith, nat_tests, sum_by-cons, sum_by_push, BitState, Number, Event}
use Rattle.lock_free_sets.proofs.Names.{Finished, Bits, Set, ResetAll, one_word, IsCountingOn, counts_go_on, View, IsHistory}
use Rattle.std.proofs.Common.{◌%◌}
use Rattle.std.specs.List.{sum_by}
use Rattle.model.specs.declared.event.Answer.TheVariants.{Done}
use Rattle.model.specs.declared.event.Event.TheVariants.{Counted}
use Rattle.model.specs.declared.turn.Kind.TheVariants as kinds
use Rattle.model.specs.Families.Bits.Reading.{is_count_of, take_of, counts, takes}
use Rattle.lock_free_sets.specs.Counts.Contracts.{HasCounted, AnswersCount, HasTakenOut, taken_by}
use Rattle.lock_free_sets.specs.Counts.Sums.{taken_at}
use Rattle.lock_free_sets.proofs.Sums.{sum_made}

-- no more was taken out of a place than it was counted
pub takes_within : (capacity : ℕ) (events : List (Event ℕ)) → IsHistory one_word kinds.Counts capacity events → (b : ℕ) → takes b events ≤ counts b events
takes_within capacity events history b =
    let set : IsCountingOn history.trace = counts_go_on history.trace history.run.of_kind history.run.reached in
    let all = set.conserved b in
    let e = all.1 in
    let s = ap (counts b) history.is in
    let t = ap (takes b) history.is in
    omega arith

-- The counts that were taken out at a place, in the events of a list of counts, sum up to what this
-- list has at the place.
takes_of : (p b : ℕ) (states : List BitState) → takes b (map (taken_by p) states) ≡ taken_at b states
takes_of p b [] = refl
takes_of p b (s ∷ states) =
    sum_by-cons (take_of b) (taken_by p s) (map (taken_by p) states)
    ∙ (ap (λ n. cond (s.bit == b) s.count 0 + n) (takes_of p b states) ∙ sym (sum_by-cons (λ (z : BitState). cond (z.bit == b) z.count 0) s states))

-- what takes counts out counts no place
counts_of : (p b : ℕ) (states : List BitState) → counts b (map (taken_by p) states) ≡ 0
counts_of p b [] = refl
counts_of p b (s ∷ states) =
    let one = sum_by-cons (λ (e : Event ℕ). cond (is_count_of b e) 1 0) (taken_by p s) (map (taken_by p) states) in
    let rest = counts_of p b states in
    omega arith

module _ (old new : View ℕ) where
  -- counting a place adds one to the counts of this place, and nothing else
  pub count_adds : (place number : ℕ) → HasCounted place number old new → (b : ℕ)
      → (counts b new.made ≡ counts b old.made + cond (place == b) 1 0) × (takes b new.made ≡ takes b old.made)
  count_adds place number counted b =
      let wrote : List (Event ℕ) = Counted counted.by place ∷ [] in
      let c = sum_made (λ e. cond (is_count_of b e) 1 0) counted.by (Bits (Set place)) (Number number) wrote old new counted.called in
      let t = sum_made (take_of b) counted.by (Bits (Set place)) (Number number) wrote old new counted.called in
      (omega arith, omega arith)

  -- taking all counts out adds what came out of each place to what was taken out of it, and
  -- nothing else
  pub take_adds : {F : Type 0} {visited : F} (step : F → BitState → F → Type 0) (capacity : ℕ) (visit : F)
      (h : HasTakenOut step capacity visit visited old new) (b : ℕ)
      → (counts b new.made ≡ counts b old.made) × (takes b new.made ≡ takes b old.made + taken_at b h.states)
  take_adds step capacity visit h b =
      let p = h.made.by in
      let wrote : List (Event ℕ) = map (taken_by p) h.states in
      let c = sum_made (λ e. cond (is_count_of b e) 1 0) p (Bits ResetAll) Done wrote old new h.made.called in
      let t = sum_made (take_of b) p (Bits ResetAll) Done wrote old new h.made.called in
      let none = counts_of p b h.states in
      let some = takes_of p b h.states in
      (omega arith, omega arith)

  -- with the whole share a `set` answers the counts of the place that its pass made, less what it took
  -- out, modulo 2^64
  pub answers_count : (place number : ℕ) → ((f : Event ℕ → ℕ) → sum_by f new.seen ≡ sum_by f new.made)
      → HasCounted place number old new → AnswersCount place number new
      → number ≡ (counts place old.made - takes place old.made) % 2 ^ 64
  answers_count place number all has_counted a =
      let same : (place == place) ≡ true = grind (arith, nat_tests) in
      let one : ◌≡◌ {A = ℕ} (cond (place == place) 1 0) 1 = rw same refl in
      let made = count_adds place number has_counted place in
      let counted : List (Event ℕ) = Counted a.by place ∷ [] in
      let end : Event ℕ = Finished a.by (Bits (Set place)) (Number number) in
      let is_count : Event ℕ → ℕ = λ e. cond (is_count_of place e) 1 0 in
      -- From the count's own act on, its end adds nothing, so the sums at the act are those in what was seen.
      let c : counts place new.seen ≡ counts place a.before + cond (place == place) 1 0 + 0 =
      ap (counts place) a.is
      ∙ (sum_by_push is_count (a.before ++ counted) end ∙ ap (λ n. n + 0) (sum_by_push is_count a.before (Counted a.by place))) in
      let t : takes place new.seen ≡ takes place a.before + 0 + 0 =
      ap (takes place) a.is ∙ (sum_by_push (take_of place) (a.before ++ counted) end
      ∙ ap (λ n. n + 0) (sum_by_push (take_of place) a.before (Counted a.by place))) in
      -- All that was seen is what the pass made, by the whole share.
      let seen_c : counts place new.seen ≡ counts place new.made = all is_count in
      let seen_t : takes place new.seen ≡ takes place new.made = all (take_of place) in
      let m = made.0 in
      let k = made.1 in
      let same_c : counts place a.before ≡ counts place old.made = omega arith in
      let same_t : takes place a.before ≡ takes place old.made = omega arith in
      a.count ∙ ap (λ (z : ℕ × ℕ). (z.0 - z.1) % 2 ^ 64) (λ i. (same_c i, same_t i))
