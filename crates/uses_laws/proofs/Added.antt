-- What was taken out of a place and what one more count finds there make all that was counted.
use Rattle.std.proofs.Common.{◌≡◌, ℕ, ◌+◌, ◌-◌, ◌%◌, ◌^◌, ◌<◌, ◌≤◌, cond, arith, mod-eq_of_lt}
use Rattle.std.specs.List.{sum_by}
use Rattle.model.specs.Families.Bits.Reading.{counts, takes, count_at, is_count_of, take_of}
use Rattle.lock_free.specs.Event.{Event}
use Rattle.lock_free.specs.HistoryView.View.{View}
use Rattle.lock_free.specs.Counts.Contracts.{HasCounted, AnswersCount}
use Rattle.lock_free.proofs.Counts.Sums.{answers_count}

-- What was taken and the rest are all that was counted, also if the rest is computed with wrapping.
rest_of : (counted taken : ℕ) → taken ≤ counted → counted < 2 ^ 64 → taken + (counted - taken) % 2 ^ 64 ≡ counted
rest_of counted taken less few =
    let small : counted - taken < 2 ^ 64 = omega arith in
    let same : (counted - taken) % 2 ^ 64 ≡ counted - taken = mod-eq_of_lt small in
    omega arith

module _ (old new : View ℕ) (place left : ℕ) where
  -- what was taken out of the place, and what one more count finds there, are all that was counted
  pub all_counted : ((f : Event ℕ → ℕ) → sum_by f old.seen ≡ sum_by f old.made)
      → ((f : Event ℕ → ℕ) → sum_by f new.seen ≡ sum_by f new.made)
      → HasCounted place left old new → AnswersCount place left new
      → counts place old.seen ≡ takes place old.seen + count_at place old.seen
      → counts place old.made < 2 ^ 64 → takes place old.made + left ≡ counts place old.made
  all_counted before after counted answers conserved few =
      let c : counts place old.seen ≡ counts place old.made = before (λ e. cond (is_count_of place e) 1 0) in
      let t : takes place old.seen ≡ takes place old.made = before (take_of place) in
      let less : takes place old.made ≤ counts place old.made = omega arith in
      omega (arith, answers_count old new place left after counted answers, rest_of (counts place old.made) (takes place old.made) less few)
