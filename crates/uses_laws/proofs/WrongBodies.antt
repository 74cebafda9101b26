-- What a wrong body of a call would leave or answer, and which of the call's clauses refuses that. It is said of every history, as
-- far as a premise does not ask for more. A name says what the body does.
use Rattle.std.proofs.Common.{◌≡◌, ◌≢◌, ℕ, zero, suc, ◌+◌, ◌-◌, ◌*◌, ◌^◌, ◌<◌, ◌≤◌, ⊎_elim, true, false, Option, Some, None, List, [], ◌∷◌, ◌++◌}
use Rattle.std.proofs.Common.{if◌then◌else◌}
use Rattle.std.proofs.Common.{length, length-append, length-set, map, slice_set, get_or-set_same, get_or-append-add, append-nil, append_assoc}
use Rattle.std.proofs.Common.{add-mul, mul-add, mul-pos, refl, ap, ap₂, sym, subst, ◌∙◌, arith}
use Rattle.std.proofs.Math.Nat.{eq_of_mul-eq-mul_left}
use Rattle.std.proofs.Math.Seq.{get_or-append_seam}
use Rattle.std.proofs.lemmas.List.{append_cancel_left, same_from_push}
use Rattle.std.specs.List.{FoldsTo}
use Rattle.steps.specs.declared.enums.CallbackProgression.{CallbackProgression}
use Rattle.steps.specs.Objects.Lists.{Bounded, popped}
use Rattle.model.specs.declared.event.Answer.{Answer}
use Rattle.model.specs.declared.event.Event.{Event}
use Rattle.model.specs.declared.event.Event.TheVariants.{Begun, Finished}
use Rattle.model.specs.declared.event.Item.{Item}
use Rattle.model.specs.declared.event.Start.{Start}
use Rattle.model.specs.declared.event.Item.TheVariants.{Index}
use Rattle.model.specs.declared.families.Flight.{Flight}
use Rattle.model.specs.declared.turn.Kind.{Kind}
use Rattle.model.specs.Families.Indices.Reading.{is_locked}
use Rattle.model.specs.Families.Queues.Reading.{published, handed_out}
use Rattle.model.proofs.Locks.{locked_later}
use Rattle.steps.specs.declared.queues.roles.Role.{Role}
use Rattle.threaded.specs.Callable.{Ascends}
use Rattle.lock_free.specs.BitState.{BitState}
use Rattle.lock_free.specs.Bits.Calls as bits
use Rattle.lock_free.specs.Bits.Contracts.{HasCleanedOut}
use Rattle.lock_free.specs.Counts.Contracts.{HasTakenOut, taken_by}
use Rattle.lock_free.specs.Coding.{Coding}
use Rattle.lock_free.specs.Container.Bare.{IsCounted}
use Rattle.lock_free.specs.Container.Resting.{Settles}
use Rattle.lock_free.specs.Container.Steps.{FewAside, to_settle, one_if_some}
use Rattle.lock_free.specs.History.{Called, Knows, steps_of_run}
use Rattle.lock_free.specs.HistorySteps.{TakesAtMost}
use Rattle.lock_free.specs.HistoryView.View.{View}
use Rattle.lock_free.specs.Loan.Contracts.{InTurn, HasFreed, HasPoppedOne, HasEmptied}
use Rattle.lock_free.specs.Loan.Places.{is_sent, place_at, returned}
use Rattle.lock_free.specs.Loan.Sender.{IsAsideOnce, pass_view}
use Rattle.lock_free.specs.Passes.{HasSplit, HasJoined}
use Rattle.lock_free.specs.Place.{Place}
use Rattle.lock_free.specs.Place.TheVariants.{Free, Loaned, Sent}
use Rattle.lock_free.specs.QueueEnds.Held.{Held as QueueHeld}
use Rattle.lock_free.specs.QueueEnds.rule.Kind as QueueKind
use Rattle.lock_free.specs.QueueEnds.rule.RingRule.{RingRule}
use Rattle.lock_free.specs.Queues.Closes.{Closes}
use Rattle.lock_free.specs.Queues.Contracts as queues
use Rattle.lock_free.specs.Queues.Contracts.{PushDone, PushRefused, PopDone, PopEmpty, HasLooked}
use Rattle.lock_free.specs.Queues.Overflowing.{HasOverflowed}
use Rattle.lock_free.specs.Queues.Rings.{IsSameQueue, token_view}
use Rattle.lock_free.specs.Queues.Views.{left_view}
use Rattle.lock_free.specs.ReleaseState.TheVariants.{Unlocked}
use Rattle.lock_free.specs.Robust.Callable.{HasFound}
use Rattle.lock_free.specs.Robust.Contracts as owners
use Rattle.lock_free.specs.Robust.Contracts.{HasSearched, OnlyLooked}
use Rattle.lock_free.specs.RobustUniqueIndexSet as robust
use Rattle.lock_free_owners.specs.declared.mpmc.robust_unique_index_set.Pass.{Pass as OwnerPass}
use Rattle.lock_free.specs.Share.{Share}
use Rattle.lock_free.specs.Shares.{IsAll, half_of, both_of}
use Rattle.lock_free.specs.Unique.Contracts.{HasAcquired, HasGiven}
use Rattle.lock_free.specs.UniqueIndexSet.{view, SamePass}
use Rattle.lock_free.specs.Words
use Rattle.lock_free.specs.declared.mpmc.sets.Held.{Held as SetHeld}
use Rattle.lock_free.specs.declared.mpmc.sets.rule.Kind as SetKind
use Rattle.lock_free.specs.declared.mpmc.sets.rule.SetRule.{SetRule}
use Rattle.lock_free.specs.declared.mpmc.unique_index_set.Pass.{Pass}
use Rattle.lock_free.specs.declared.spsc.loan.LoanSender.{LoanSender}
use Rattle.lock_free.specs.Value.Contracts as value
use Rattle.lock_free.specs.Value.Contracts.{HasStored, HasLoaded}
use Rattle.lock_free.specs.Value.Calls.{IsSame, seen}
use Rattle.lock_free_value.specs.declared.spmc.unrestricted_atomic.Held.{Held as ValueHeld}
use Rattle.lock_free_value.specs.declared.spmc.unrestricted_atomic.rule.ValueRule.{ValueRule}
use Rattle.uses_laws.specs.Parted.{HasParted}

-- two halves of one fraction are less than it and another one
other_share : (part parts other others : ℕ) → 0 < parts → 0 < other → parts * others ≡ (parts + parts) * (parts + parts)
    → part * others + other * parts ≡ part * (parts + parts) + part * (parts + parts)
    → ⊥
other_share part parts other others whole some all is =
    let four = eq_of_mul-eq-mul_left parts whole _ _ (all ∙ (add-mul parts parts (parts + parts) ∙ sym (mul-add parts (parts + parts) (parts + parts)))) in
    absurd (omega (arith, ap (λ (n : ℕ). part * n) four ∙ mul-add part (parts + parts) (parts + parts), mul-pos some whole))

module _ {T : Type 0} where
  -- what a call makes: its begin, what it wrote, and its end
  pub makes : (p : ℕ) (start : Start T) (answer : Answer T) (wrote : List (Event T)) (v w : View T) → Called p start answer wrote v w
      → length w.made ≡ length v.made + (2 + length wrote)
  makes p start answer wrote v w c =
      omega (
        arith,
        length-append v.made (Begun p start ∷ (wrote ++ Finished p start answer ∷ [])),
        length-append wrote (Finished p start answer ∷ []),
        ap length c.made,
      )

  -- a pass that has made nothing has made no call
  pub no_call : (p : ℕ) (start : Start T) (answer : Answer T) (wrote : List (Event T)) (v w : View T) → w.made ≡ v.made
      → Called p start answer wrote v w
      → ⊥
  no_call p start answer wrote v w none c = absurd (omega (arith, makes p start answer wrote v w c, ap length none))

  -- one call wrote and answered one thing only: two accounts of it agree
  pub made_once : (p q : ℕ) (start : Start T) (one other : Answer T) (wrote written : List (Event T)) (v w : View T)
      → Called p start one wrote v w
      → Called q start other written v w
      → (wrote ≡ written) × (Finished p start one ≡ Finished q start other)
  made_once p q start one other wrote written v w c d =
      let same_end = append_cancel_left v.made _ _ (sym c.made ∙ d.made) in
      let rest : wrote ++ Finished p start one ∷ [] ≡ written ++ Finished q start other ∷ [] = cc in
      same_from_push _ _ _ _ rest

  -- ---- queues

  -- a push that answers true, and has not called
  pub push_writes_nothing : (item : Item T) (v : View T) → PushDone item v v → ⊥
  push_writes_nothing item v push_done = no_call _ _ _ _ v v refl push_done.0.called

  -- a push that answers false after a look, where the last position is not reached
  pub push_is_false_after_a_look : (capacity : ℕ) (item : Item T) (v w : View T) → HasLooked v w → length (published w.seen) < 2 ^ 64 - 1
      → PushRefused capacity item v w
      → ⊥
  push_is_false_after_a_look capacity item v w look few push_refused =
      ⊎_elim (λ full. no_call _ _ _ _ v w look.made full.0.called)
      (λ end. absurd (omega (arith, end.end)))
      push_refused

  -- a push that answers false because it did not get a lock, without an operation on the words
  pub mutex_round_the_words : (capacity : ℕ) (item : Item T) (v : View T) → length (published v.seen) < 2 ^ 64 - 1
      → PushRefused capacity item v v
      → ⊥
  mutex_round_the_words capacity item v few push_refused =
      push_is_false_after_a_look capacity item v v (record { made = refl; whole = λ all. refl }) few push_refused

  -- a pop that answers none after a look
  pub pop_takes_nothing : (v w : View T) → HasLooked v w → PopEmpty v w → ⊥
  pop_takes_nothing v w look pop_empty = no_call _ _ _ _ v w look.made pop_empty.0.called

  -- a pop that takes two values out, and answers the second
  pub pop_skips_a_position : (first second : Item T) (u v w : View T) → PopDone first u v → PopDone second v w → PopDone second u w → ⊥
  pop_skips_a_position first second u v w one two three =
      absurd (omega (
        arith,
        ap length (one.1).list,
        ap length (two.1).list,
        ap length (three.1).list,
        length-append (handed_out u.seen) (first ∷ []),
        length-append (handed_out v.seen) (second ∷ []),
        length-append (handed_out u.seen) (second ∷ []),
      ))

  -- a pop that takes one out, and then finds no other, has not found the queue empty
  pub pop_skips_the_last : (first : Item T) (u v w : View T) → PopDone first u v → PopEmpty v w → PopEmpty u w → ⊥
  pop_skips_the_last first u v w one none empty =
      absurd (omega (arith, ap length (one.1).list, ap length (none.1).list, ap length (empty.1).list, length-append (handed_out u.seen) (first ∷ [])))

  -- the list of `close` without its oldest value, where nobody else may have taken that
  pub close_forgets_the_oldest : {V : Type 0} (named : V → Item T) (capacity : ℕ) (v : View T) (q : Bounded V) → IsAll v.share
      → 0 < length q.values
      → Closes named capacity v q
      → Closes named capacity v (popped q)
      → ⊥
  close_forgets_the_oldest named capacity v q all some right k = absurd (omega (arith, (right.whole all).0, (k.whole all).0))

  -- a producer that is handed out without a step, or while another is one
  pub role_for_two_producers : (role : Role) (v : View T) → queues.HasAcquired role true v v → ⊥
  role_for_two_producers role v acquired = no_call _ _ _ _ v v refl acquired.called

  -- a join that takes in a half of its own in place of the other pass
  pub join_adds_a_share_of_its_own : (mine theirs left right new : View T) → HasSplit mine left right → HasJoined left right new
      → 0 < mine.share.parts
      → 0 < theirs.share.part
      → HasJoined mine theirs new
      → ⊥
  join_adds_a_share_of_its_own mine theirs left right new split joined whole some wrong_join =
      let own : new.share ≡ both_of (half_of mine.share) (half_of mine.share) = joined.share ∙ ap₂ both_of split.share split.right_share in
      let is = sym wrong_join.share ∙ own in
      other_share mine.share.part mine.share.parts theirs.share.part theirs.share.parts whole some
      (ap (λ (s : Share). s.parts) is) (ap (λ (s : Share). s.part) is)

  -- ---- the value

  pub role_without_a_step : (v : View T) → value.HasAcquired true v v → ⊥
  role_without_a_step v acquired = no_call _ _ _ _ v v refl acquired.called

  -- a store of another value than is given
  pub store_keeps_zeros : (x zeros : T) (v w : View T) → x ≢ zeros → HasStored zeros v w → HasStored x v w → ⊥
  store_keeps_zeros x zeros v w other wrong stored =
      other (same_from_push _ _ x zeros (sym stored.list ∙ wrong.list)).1

  -- a load that answers another value than it has loaded
  pub load_answers_zeros : (x zeros : T) (v w : View T) → x ≢ zeros → HasLoaded x v w → HasLoaded zeros v w → ⊥
  load_answers_zeros x zeros v w other right loads_zeros =
      let e = (made_once _ _ _ _ _ _ _ v w right.called loads_zeros.called).1 in
      let same : x ≡ zeros = cc in
      other same

  -- a look that takes two steps
  pub look_looks_twice : (u v w : View T) → v.asked ≡ u.asked + 1 → w.asked ≡ v.asked + 1 → TakesAtMost 1 u w → ⊥
  look_looks_twice u v w one two takes_at_most = absurd (omega arith)

  -- ---- what is aside

  -- a split that counts itself in what was asked for alone, as if it were a step of a call
  pub split_is_a_step : (v left right : View T) → HasSplit v left right → HasSplit v (record left { aside = v.aside }) right → ⊥
  split_is_a_step v left right split wrong_split = let e : v.aside ≡ v.aside + 1 = wrong_split.aside in absurd (omega arith)

  -- a split that counts as a step is refused by the run, which has no such step
  pub split_steps_in_no_run : (code : Coding T) (kind : Kind) (capacity : ℕ) (v : View T) → IsAll v.share → Knows code kind capacity v
      → Knows code kind capacity (record (left_view v) { aside = v.aside })
      → ⊥
  split_steps_in_no_run code kind capacity v all knows wrong_run =
      let was : v.asked ≡ v.aside + steps_of_run code kind capacity v.turns = knows.asked.all all in
      let most : v.asked + 1 ≤ v.aside + steps_of_run code kind capacity v.turns = wrong_run.asked.most in
      absurd (omega arith)

  -- a call that asks for one operation more than the run has steps
  pub call_asks_once_more : (code : Coding T) (kind : Kind) (capacity : ℕ) (v : View T) → IsAll v.share → Knows code kind capacity v
      → Knows code kind capacity (record v { asked = v.asked + 1 })
      → ⊥
  call_asks_once_more code kind capacity v all knows wrong_count =
      let was : v.asked ≡ v.aside + steps_of_run code kind capacity v.turns = knows.asked.all all in
      let most : v.asked + 1 ≤ v.aside + steps_of_run code kind capacity v.turns = wrong_count.asked.most in
      absurd (omega arith)

  -- a join that counts one operation in what was asked for alone
  pub join_takes_a_step : (mine theirs new : View T) → HasJoined mine theirs new
      → HasJoined mine theirs (record new { asked = new.asked + 1 })
      → ⊥
  join_takes_a_step mine theirs new joined wrong_join =
      let more : (new.asked + 1) + (mine.aside + theirs.aside) ≡ (mine.asked + theirs.asked) + new.aside = wrong_join.aside in
      absurd (omega (arith, joined.aside))

-- a pop that looks twice beside its steps
pub pop_looks_twice_aside : {E T : Type 0} {kind : QueueKind.Ghosts E} {words : Words.Ghosts T} (old new : QueueHeld E T (RingRule E T) kind words)
    → (token_view new).aside ≡ (token_view old).aside + 2
    → IsSameQueue old new
    → ⊥
pop_looks_twice_aside old new two same_queue = absurd (omega (arith, same_queue.aside))

-- a load, or a store, that looks twice beside its steps
pub load_looks_twice_aside : {T : Type 0} {words : Words.Ghosts T} (old new : ValueHeld T (ValueRule T) words)
    → (seen new).aside ≡ (seen old).aside + 2
    → IsSame old new
    → ⊥
load_looks_twice_aside old new two is_same = absurd (omega (arith, is_same.aside))

-- ---- bit sets

-- a set of a place that looks twice beside its steps
pub set_looks_twice_aside : {E : Type 0} {kind : SetKind.Ghosts E} {words : Words.Ghosts ℕ} (old new : SetHeld E ℕ (SetRule E) kind words)
    → (bits.view new).aside ≡ (bits.view old).aside + 2
    → bits.SamePass old new
    → ⊥
set_looks_twice_aside old new two same_pass = absurd (omega (arith, same_pass.aside))

-- a closure that notes what it is called with
abbrev notes : {X : Type 0} → List X → X → List X → Type 0
notes before x after = after ≡ before ++ x ∷ []

noted : {X : Type 0} (first xs last : List X) → FoldsTo notes first xs last → last ≡ first ++ xs
noted first [] last h = sym h ∙ sym (append-nil first)
noted first (x ∷ xs) last h = noted h.0 xs last h.2 ∙ (ap (λ zs. zs ++ xs) h.1 ∙ append_assoc first (x ∷ []) xs)

-- a list that ascends has no number twice
none_twice : (before after : List ℕ) (place capacity : ℕ) → Ascends capacity (before ++ place ∷ place ∷ after) → ⊥
none_twice before after place capacity up =
    let all = length-append before (place ∷ place ∷ after) in
    let less = up.0 (length before) (length before + 1) 0 (omega arith) (omega arith) in
    absurd (omega (arith, get_or-append_seam before place (place ∷ after) 0, get_or-append-add before (place ∷ place ∷ after) 1 0))

-- a list that ascends below the capacity has no number from the capacity on
none_past : (before after : List ℕ) (place capacity : ℕ) → capacity ≤ place → Ascends capacity (before ++ place ∷ after) → ⊥
none_past before after place capacity past up =
    let all = length-append before (place ∷ after) in
    let less = up.1 (length before) 0 (omega arith) in
    absurd (omega (arith, get_or-append_seam before place after 0))

-- a reset that visits a place twice, or one that there is not
pub reset_all_visits_twice : (capacity place : ℕ) (before after : List ℕ) (v w : View ℕ)
    → HasCleanedOut notes capacity [] (before ++ place ∷ place ∷ after) v w
    → ⊥
reset_all_visits_twice capacity place before after v w cleaned_out =
    none_twice before after place capacity (subst (Ascends capacity) (sym (noted [] cleaned_out.places _ cleaned_out.calls)) cleaned_out.ascend)

-- The reset of all calls its closure with a place that is not below the capacity.
pub reset_all_past_the_capacity : (capacity place : ℕ) (before after : List ℕ) (v w : View ℕ) → capacity ≤ place
    → HasCleanedOut notes capacity [] (before ++ place ∷ after) v w
    → ⊥
reset_all_past_the_capacity capacity place before after v w past cleaned_out =
    none_past before after place capacity past (subst (Ascends capacity) (sym (noted [] cleaned_out.places _ cleaned_out.calls)) cleaned_out.ascend)

-- two lists of counts whose take-outs are equal are equal
same_counts : (p q : ℕ) (xs ys : List BitState) → map (taken_by p) xs ≡ map (taken_by q) ys → xs ≡ ys
same_counts p q [] [] e = refl
same_counts p q [] (y ∷ ys) e = cc
same_counts p q (x ∷ xs) [] e = cc
same_counts p q (x ∷ xs) (y ∷ ys) e =
    let bit : x.bit ≡ y.bit = cc in
    let count : x.count ≡ y.count = cc in
    let rest : map (taken_by p) xs ≡ map (taken_by q) ys = cc in
    let one : x ≡ y = ap₂ (λ (b c : ℕ). record { bit = b; count = c }) bit count in
    let more = same_counts p q xs ys rest in
    cc

-- a reset of all that hands out other counts than it took is refused
pub reset_all_hands_out_at_most_1000 : (capacity : ℕ) (took told : List BitState) (v w : View ℕ) → took ≢ told
    → HasTakenOut notes capacity [] took v w
    → HasTakenOut notes capacity [] told v w
    → ⊥
reset_all_hands_out_at_most_1000 capacity took told v w other right wrong_take =
    let wrote = (made_once _ _ _ _ _ _ _ v w right.made.called wrong_take.made.called).0 in
    other (noted [] right.states took right.calls
    ∙ (same_counts _ _ right.states wrong_take.states wrote ∙ sym (noted [] wrong_take.states told wrong_take.calls)))

-- ---- indices

-- an acquire that hands out another index than it claimed
pub acquire_hands_out_a_held_index : (index held : ℕ) (v w : View ℕ) → index ≢ held → HasAcquired index v w → HasAcquired held v w → ⊥
acquire_hands_out_a_held_index index held v w other right wrong_acquire =
    let e = (made_once _ _ _ _ _ _ _ v w right.taken.called wrong_acquire.taken.called).0 in
    let same : index ≡ held = cc in
    other same

-- an acquire that makes two operations beside its steps
pub acquire_looks_twice_aside : (old new : Pass) → (view new).aside ≡ (view old).aside + 2 → SamePass old new → ⊥
acquire_looks_twice_aside old new two same_pass = absurd (omega (arith, same_pass.aside))

-- an acquire that claims an index of a set which its pass has seen locked
pub acquire_goes_on_after_the_lock : (index : ℕ) (v w : View ℕ) → is_locked v.seen ≡ true → HasAcquired index v w → ⊥
acquire_goes_on_after_the_lock index v w locked acquired =
    let still = ap is_locked acquired.free.since.is ∙ locked_later v.seen acquired.free.since.rest locked in
    let unlocked = acquired.free.unlocked in
    cc

-- ---- the loan channel

-- a loan that is given up, and stays with the pass
pub loan_give_up_keeps_the_index : (index : ℕ) (v : View ℕ) → HasGiven index Unlocked v v → ⊥
loan_give_up_keeps_the_index index v given = no_call _ _ _ _ v v refl given.called

-- a loan, or a free of an index that came back, that looks twice beside its steps
pub loan_looks_twice_aside : (old new : LoanSender) → (pass_view new).aside ≡ (pass_view old).aside + 2 → IsAsideOnce old new → ⊥
loan_looks_twice_aside old new two aside_once = absurd (omega (arith, aside_once.pass))

pub loan_settle_looks_twice_aside : (index : ℕ) (v w : View ℕ) → w.aside ≡ v.aside + 2 → HasFreed index v w → ⊥
loan_settle_looks_twice_aside index v w two freed = absurd (omega (arith, freed.aside))

-- a Loaned index is within the table
loaned_within : (places : List Place) (index : ℕ) → place_at places index ≡ Loaned → index < length places
loaned_within [] index e = cc
loaned_within (p ∷ places) zero e = omega arith
loaned_within (p ∷ places) (suc index) e = omega (arith, loaned_within places index e)

-- a send that settles its own index first leaves other places
pub loan_send_settles_before_its_table : (places : List Place) (index : ℕ) → place_at places index ≡ Loaned
    → slice_set (returned index places) index Sent ≡ returned index (slice_set places index Sent)
    → ⊥
loan_send_settles_before_its_table places index loaned e =
    let within = loaned_within places index loaned in
    let before : returned index places ≡ places =
    ap (λ (p : Place). if is_sent p then slice_set places index Free else places) loaned in
    let sent : place_at (slice_set places index Sent) index ≡ Sent = get_or-set_same places index Sent Free within in
    let after : returned index (slice_set places index Sent) ≡ slice_set (slice_set places index Sent) index Free =
    ap (λ (p : Place). if is_sent p then slice_set (slice_set places index Sent) index Free else slice_set places index Sent) sent in
    let long = length-set places index Sent in
    let free : place_at (slice_set (slice_set places index Sent) index Free) index ≡ Free =
    get_or-set_same (slice_set places index Sent) index Free Free (omega arith) in
    let wrong = ap (λ (ps : List Place). place_at (slice_set ps index Sent) index) before in
    let same = ap (λ (ps : List Place). place_at ps index) (e ∙ after) in
    let is : Sent ≡ Free = sym sent ∙ (sym wrong ∙ (same ∙ free)) in
    cc

-- a list of pops adds four events for each pop that took something
popped_all : (numbers : List ℕ) (v w : View ℕ) → InTurn HasPoppedOne numbers v w → length w.made ≡ length v.made + 4 * length numbers
popped_all [] v w in_turn = omega (arith, ap (λ (u : View ℕ). length u.made) in_turn)
popped_all (n ∷ numbers) v w in_turn = omega (arith, makes _ _ _ _ v in_turn.0 in_turn.1.called, popped_all numbers in_turn.0 w in_turn.2)

-- a pop of one value is not all that a reclaim pops
pub loan_reclaim_pops_once : (number : ℕ) (v w : View ℕ) → PopDone (Index number) v w → HasEmptied v w → ⊥
loan_reclaim_pops_once number v w one emptied =
    absurd (omega (
      arith,
      makes _ _ _ _ v w one.0.called,
      popped_all emptied.numbers v emptied.last emptied.popped,
      makes _ _ _ _ emptied.last w emptied.none.called,
    ))

-- a reclaim that makes two operations beside the steps of its last pop, and one beside
-- those of each other pop
pub loan_reclaim_looks_twice_aside : (v w : View ℕ) (k : HasEmptied v w) → w.aside ≡ v.aside + (length k.numbers + 2) → ⊥
loan_reclaim_looks_twice_aside v w k more = absurd (omega (arith, k.aside))

-- a reclaim that pushes an index that the queue takes
pub loan_reclaim_pushes : (number : ℕ) (back : Option ℕ) (v w : View ℕ) → HasOverflowed number back v w → w ≡ v → ⊥
loan_reclaim_pushes number back v w pushed k = no_call _ _ _ _ v w (ap (λ (u : View ℕ). u.made) k) pushed.called

-- ---- owners

-- an acquire of a robust set that looks twice beside its steps
pub robust_looks_twice_aside : (old new : OwnerPass) → (robust.view new).aside ≡ (robust.view old).aside + 2 → robust.SamePass old new → ⊥
robust_looks_twice_aside old new two same_pass = absurd (omega (arith, same_pass.aside))

-- a find that looks once more than at the lock and at each index
pub find_looks_once_more : (capacity : ℕ) (old new : OwnerPass) → (robust.view new).aside ≡ (robust.view old).aside + (capacity + 2)
    → robust.LeavesPass (capacity + 1) old new
    → ⊥
find_looks_once_more capacity old new more leaves_pass = absurd (omega (arith, leaves_pass.aside))

module _ {T : Type 0} where
  -- a find whose looks count as steps of calls
  pub find_looks_in_a_run : (old new : View T) → new.asked ≡ old.asked + 1 → new.aside ≡ old.aside → OnlyLooked old new → ⊥
  find_looks_in_a_run old new asked aside k = absurd (omega (arith, k.aside))

  -- a call on a container that looks twice beside its steps, and one that looks once more than that where a find rested
  pub add_looks_twice_aside : (old new : View T) → old.going ≡ None → new.aside ≡ old.aside + 2 → FewAside old new → ⊥
  add_looks_twice_aside old new idle two few_aside =
      let none : to_settle old ≡ 0 = ap one_if_some idle in
      let most : new.aside ≤ old.aside + (1 + to_settle old) = few_aside in
      absurd (omega arith)

  -- An add where a find rested looks three times beside its steps; two are allowed.
  pub add_settles_twice : (call : Start T × Flight T) (old new : View T) → old.going ≡ Some call → new.aside ≡ old.aside + 3 → FewAside old new → ⊥
  add_settles_twice call old new rests three few_aside =
      let one : to_settle old ≡ 1 = ap one_if_some rests in
      let most : new.aside ≤ old.aside + (1 + to_settle old) = few_aside in
      absurd (omega arith)

  -- the end of a find that rested, as if the run had that step
  pub settling_is_a_step : (old new : View T) → new.asked ≡ old.asked + 1 → new.aside ≡ old.aside → Settles old new → ⊥
  settling_is_a_step old new asked aside settles = absurd (omega (arith, settles.aside))

  -- an update of a state that the pass has not, as if the run had its steps
  pub update_beside_is_a_step : (old new : View T) → new.asked ≡ old.asked + 1 → new.aside ≡ old.aside → IsCounted old new → ⊥
  update_beside_is_a_step old new asked aside counted = absurd (omega (arith, counted.aside))

-- a look at the lock that answers otherwise than it found
pub is_locked_is_always_true : (v w : View ℕ) → owners.HasLooked false v w → owners.HasLooked true v w → ⊥
is_locked_is_always_true v w right wrong_look = let e = (made_once _ _ _ _ _ _ _ v w right.called wrong_look.called).1 in cc

-- a find that calls its closure twice with an index: each closure that notes them, whatever it says
abbrev hears : List ℕ → ℕ → CallbackProgression → List ℕ → Type 0
hears before index progression after = after ≡ before ++ index ∷ []

-- a closure that notes each index has heard those that the find came to
heard : (capacity owner number : ℕ) (seen : List ℕ) (old new : List (Event ℕ)) → (k : HasFound hears capacity owner [] number seen old new)
    → seen ≡ k.indices
heard capacity owner number seen old new k =
    ⊎_elim (λ all. noted [] k.indices seen all.0)
    (λ end. end.stops ∙ (ap (λ (is : List ℕ). is ++ end.index ∷ []) (noted [] end.before end.now end.calls) ∙ sym end.is))
    k.calls

-- The closure of a find is called twice in a row with the same index.
pub find_visits_twice : (capacity owner number index : ℕ) (before after : List ℕ) (v w : View ℕ)
    → HasSearched hears capacity owner [] number (before ++ index ∷ index ∷ after) v w
    → ⊥
find_visits_twice capacity owner number index before after v w searched =
    none_twice before after index capacity (subst (Ascends capacity) (sym (heard _ _ _ _ _ _ searched.found)) searched.found.ascend)

module _ {T : Type 0} where
  -- both ends, taken by a pass that looked first
  pub both_ends_looks_first : (old p c : View T) → p.asked + c.asked ≡ old.asked + 4 → HasParted old p c → ⊥
  both_ends_looks_first old p c more parted = absurd (omega (arith, parted.asked))
