-- What a wrong body of a call would leave or answer, and the clause that refuses it. A name says what the body does.
use Rattle.std.proofs.Common.{◌≡◌, ◌≢◌, inl, inr, ◌+◌, ◌-◌, ◌^◌, ◌<◌, ◌≤◌, ℕ, zero, suc, Bool, true, false, Some, None, List, [], ◌∷◌, ◌++◌, length}
use Rattle.std.proofs.Common.{refl, sym, ap, subst, ◌∙◌, arith, is_some, length-append, append-nil, true≢false}
use Rattle.std.proofs.lemmas.List.{append_cancel_left}
use Rattle.model.specs.declared.event.Event.{Event}
use Rattle.model.specs.declared.event.Event.TheVariants.{Published, HandedOut}
use Rattle.model.specs.declared.event.Item.{Item}
use Rattle.model.specs.declared.event.Item.TheVariants.{Value}
use Rattle.history.specs.declared.view.View.{View}
use Rattle.history.specs.Passes.{Goes}
use Rattle.history.specs.Steps.{TakesAtMost}
use Rattle.history.specs.Views.{first_view}
use Rattle.steps.specs.declared.queues.roles.Role.{Role}
use Rattle.steps.specs.declared.words.Words.{Ghosts}
use Rattle.lock_free_queues.specs.declared.spsc.ring.rule.Kind as kinds
use Rattle.lock_free_queues.specs.declared.spsc.ring.Producer.{Producer}
use Rattle.lock_free_queues.specs.declared.spsc.ring.Consumer.{Consumer}
use Rattle.lock_free_queues.specs.Queues.Contracts.{PushDone, PushRefused, PopDone, PopEmpty, PopFoundNone, HasReleased}
use Rattle.lock_free_queues.specs.Queues.Relays.{Sending, Receiving}
use Rattle.lock_free_queues.specs.Queues.Rings.{producer_view, consumer_view}
use Rattle.model.specs.Families.Queues.Reading.{published, handed_out}
use Rattle.uses_streams.specs.declared.element.Element.{Element}
use Rattle.uses_streams.specs.declared.element.Element.TheVariants as elements
use Rattle.uses_streams.specs.Streams.{values_in, has_end, has_values, pushed_by, popped_by, OnlyPushes, OnlyPops, CameUpTo}
use Rattle.uses_streams.specs.declared.ends.values.Values.{Values}
use Rattle.uses_streams.specs.Ends.{GainAlike}
use Rattle.uses_streams.specs.Tries.{WereRefused, WereEmpty, Times, WasPushedWithin, WasPoppedWithin, WasTakenWithin, WerePushedUpTo, WerePoppedUpTo}
use Rattle.uses_streams.specs.Values.{GivesNext, given_so_far, has_given_all}
use Rattle.uses_streams.proofs.Streams.{pushes_value, pushes_none, stops_pushing, none_ended, receives_value, receives_end, receives_nothing}

-- a list is not itself with one more element
one_more : {A : Type 0} (xs : List A) (x : A) → xs ≡ xs ++ x ∷ [] → ⊥
one_more xs x is = (absurd (omega (arith, ap length is, length-append xs (x ∷ []))))

-- the first element of a list, or `z` if it is empty
abbrev head : {A : Type 0} → A → List A → A
head z [] = z
head z (x ∷ xs) = x

module _ {T : Type 0} (v w : View (Element T)) (goes : Goes v w) where
  -- ---- `send`

  -- `send` answers true although the push was refused
  pub send_says_true_of_a_refusal : (x : T) (capacity : ℕ) → OnlyPushes v → PushRefused capacity (Value (elements.Value x)) v w
      → values_in (pushed_by w) ≡ values_in (pushed_by v) ++ x ∷ [] → ⊥
  send_says_true_of_a_refusal x capacity only_pushes full says =
      one_more (values_in (pushed_by v)) x
      (sym (ap values_in (pushes_none goes capacity (Value (elements.Value x)) only_pushes full).1) ∙ says)

  -- `send` answers false although it pushed
  pub send_says_false_of_a_push : (x : T) → OnlyPushes v → has_values (pushed_by v) ≡ true → PushDone (Value (elements.Value x)) v w
      → values_in (pushed_by w) ≡ values_in (pushed_by v) → ⊥
  send_says_false_of_a_push x only_pushes going pushed says =
      one_more (values_in (pushed_by v)) x (sym says ∙ (pushes_value goes x only_pushes going pushed).2)

  -- it pushes another value
  pub send_sends_another : (x y : T) → y ≢ x → OnlyPushes v → has_values (pushed_by v) ≡ true → PushDone (Value (elements.Value y)) v w
      → values_in (pushed_by w) ≡ values_in (pushed_by v) ++ x ∷ [] → ⊥
  send_sends_another x y other only_pushes going pushed says =
      other (ap (head y) (append_cancel_left (values_in (pushed_by v)) (y ∷ []) (x ∷ []) (sym (pushes_value goes y only_pushes going pushed).2 ∙ says)))

  -- ---- `finish`

  -- `finish` gives the role back, and pushes no end
  pub finish_writes_no_end : (role : Role) → OnlyPushes v → has_values (pushed_by v) ≡ true → HasReleased role v w
      → published w.seen ≡ published v.seen → has_end (pushed_by w) ≡ true → ⊥
  finish_writes_no_end role only_pushes going released list says =
      let left = (stops_pushing goes role only_pushes released list).1 in
      true≢false (sym says ∙ (ap has_end left ∙ none_ended (pushed_by v) going))

  -- `finish` answers that it finished although the push of the end was refused
  pub finish_says_so_of_a_refusal : (capacity : ℕ) → OnlyPushes v → has_values (pushed_by v) ≡ true
      → PushRefused capacity (Value elements.End) v w → has_end (pushed_by w) ≡ true → ⊥
  finish_says_so_of_a_refusal capacity only_pushes going full says =
      let same = (pushes_none goes capacity (Value elements.End) only_pushes full).1 in
      true≢false (sym says ∙ (ap has_end same ∙ none_ended (pushed_by v) going))

  -- ---- `receive`

  -- `receive` answers the end where the queue is empty
  pub receive_ends_an_empty_queue : OnlyPops v → CameUpTo false (popped_by v) → PopEmpty v w → has_end (popped_by w) ≡ true → ⊥
  receive_ends_an_empty_queue only_pops came empty says =
      true≢false (sym says ∙ (receives_nothing goes refl only_pops came empty).3)

  -- `receive` answers the end where it popped a value
  pub receive_ends_at_a_value : (x : T) → OnlyPops v → CameUpTo false (popped_by v) → PopDone (Value (elements.Value x)) v w
      → has_end (popped_by w) ≡ true → ⊥
  receive_ends_at_a_value x only_pops came popped says =
      true≢false (sym says ∙ (receives_value goes x refl only_pops came popped).3)

  -- `receive` pops a value, and answers nothing
  pub receive_drops_a_value : (x : T) → OnlyPops v → CameUpTo false (popped_by v) → PopDone (Value (elements.Value x)) v w
      → values_in (popped_by w) ≡ values_in (popped_by v) ++ [] → ⊥
  receive_drops_a_value x only_pops came popped says =
      one_more (values_in (popped_by v)) x
      (sym (append-nil (values_in (popped_by v))) ∙ (sym says ∙ (receives_value goes x refl only_pops came popped).2))

  -- `receive` pops the end, and answers nothing
  pub receive_drops_the_end : OnlyPops v → CameUpTo false (popped_by v) → PopDone (Value elements.End) v w
      → has_end (popped_by w) ≡ false → ⊥
  receive_drops_the_end only_pops came popped says = true≢false (sym (receives_end goes refl only_pops came popped).3 ∙ says)

-- ---- `next` of `Values`

module _ {T R : Type 0} {words : Ghosts (Element T)} (s t : Values T R words) where
  -- `next` gives a value that did not come
  pub next_gives_what_did_not_come : (x : T) → GivesNext s (Some x) t → given_so_far t ≡ given_so_far s → ⊥
  next_gives_what_did_not_come x next none = one_more (given_so_far s) x (sym none ∙ next.1)

  -- `next` gives another value
  pub next_gives_another : (x y : T) → y ≢ x → GivesNext s (Some x) t → given_so_far t ≡ given_so_far s ++ y ∷ [] → ⊥
  next_gives_another x y other next came =
      other (ap (head y) (append_cancel_left (given_so_far s) (y ∷ []) (x ∷ []) (sym came ∙ next.1)))

  -- `next` drops a value, and gives the one after it
  pub next_drops_a_value : (x y : T) → GivesNext s (Some x) t → given_so_far t ≡ given_so_far s ++ y ∷ x ∷ [] → ⊥
  next_drops_a_value x y next came =
      absurd (omega (arith, ap length (sym came ∙ next.1), length-append (given_so_far s) (y ∷ x ∷ []), length-append (given_so_far s) (x ∷ [])))

  -- `next` ends before the end came
  pub next_ends_early : GivesNext s None t → has_given_all t ≡ false → ⊥
  next_ends_early next more = true≢false (sym next.1.1 ∙ more)

-- ---- calls with a limit of tries, of a stream or of a queue's ends

module _ {T : Type 0} (v w : View T) where
  module _ (capacity : ℕ) (item : Item T) where
    -- `send_within`, or `push_within`, pushes where no try is allowed
    pub send_within_pushes_without_a_try : WasPushedWithin 0 capacity item v w → ⊥
    send_within_pushes_without_a_try was_pushed_within = (absurd (omega (arith, was_pushed_within.few)))

    -- with one try allowed, the push that was taken is the first one
    pub one_try_is_the_first : WasPushedWithin 1 capacity item v w → PushDone item v w
    one_try_is_the_first was_pushed_within =
        let few = was_pushed_within.few in
        let none : was_pushed_within.refused ≡ 0 = omega arith in
        subst (λ u. PushDone item u w)
        (subst (λ n. WereRefused n capacity item v was_pushed_within.last) none was_pushed_within.before)
        was_pushed_within.pushed

    -- with one try allowed, only one push was refused
    pub one_try_is_refused_once : WereRefused 1 capacity item v w → PushRefused capacity item v w
    one_try_is_refused_once were_refused = subst (λ u. PushRefused capacity item u w) were_refused.1 were_refused.2

  -- a pop that finds nothing makes three events
  pub finds_nothing : PopEmpty v w → length w.made ≡ length v.made + 3
  finds_nothing empty = ap length empty.0.called.made ∙ length-append v.made _

  -- `receive_within`, or `pop_within`, takes out a value where no try is allowed
  pub receive_within_pops_without_a_try : (item : Item T) → WasPoppedWithin 0 item v w → ⊥
  receive_within_pops_without_a_try item was_popped_within = (absurd (omega (arith, was_popped_within.few)))

  -- with one try allowed, the pop that took the item is the first one
  pub one_try_pops_first : (item : Item T) → WasPoppedWithin 1 item v w → PopDone item v w
  one_try_pops_first item was_popped_within =
      let few = was_popped_within.few in
      let none : was_popped_within.empty ≡ 0 = omega arith in
      subst (λ u. PopDone item u w) (subst (λ n. WereEmpty n v was_popped_within.last) none was_popped_within.before) was_popped_within.popped

module _ {T : Type 0} (v w : View T) where
  -- `receive_within` pops once where two tries are allowed
  pub receive_within_gives_up_early : WereEmpty 2 v w → length w.made ≡ length v.made + 3 → ⊥
  receive_within_gives_up_early were_empty once =
      absurd (omega (
        arith,
        finds_nothing were_empty.1.0 were_empty.0 were_empty.1.2,
        finds_nothing were_empty.0 w were_empty.2,
        ap (λ (u : View T). length u.made) were_empty.1.1,
      ))

  -- `receive_within` pops twice where one try is allowed
  pub receive_within_pops_on : WereEmpty 1 v w → length w.made ≡ length v.made + 6 → ⊥
  receive_within_pops_on were_empty twice =
      absurd (omega (arith, finds_nothing were_empty.0 w were_empty.2, ap (λ (u : View T). length u.made) were_empty.1))

-- ---- calls of a queue's ends

-- a push that is refused makes events, where the write position is not at its end
refusal_is_made : {T : Type 0} (capacity : ℕ) (item : Item T) (u v : View T) → length (published v.seen) < 2 ^ 64 - 1
    → length u.made ≡ length v.made → PushRefused capacity item u v → ⊥
refusal_is_made capacity item u v more same (inl full) =
    (let made : length v.made ≡ length u.made + 3 = ap length full.0.called.made ∙ length-append u.made _ in absurd (omega arith))
refusal_is_made capacity item u v more same (inr end) = (absurd (omega (arith, end.end)))

-- The call has a first value to pass on (`x`), and its pass knows `v`.
module _ {T : Type 0} (named : T → Item T) (x : T) (xs : List T) (v : View T) where
  -- `push_all` gives up without a try, though the write position is not at its end
  pub push_all_gives_up : (capacity : ℕ) → length (published v.seen) < 2 ^ 64 - 1 → WerePushedUpTo named capacity 0 (x ∷ xs) v v → ⊥
  push_all_gives_up capacity more h =
      refusal_is_made capacity (named x) h.last v more (ap (λ (u : View T). length u.made) h.pushed) h.stopped

  -- `pop_all` gives up without a try
  pub pop_all_gives_up : WerePoppedUpTo named [] (x ∷ xs) v v → ⊥
  pop_all_gives_up h = absurd (omega (arith, finds_nothing h.last v h.stopped, ap (λ (u : View T). length u.made) h.popped))

-- What a producer and a consumer show after a wrong call, beside what its contract says of them.
module _ {E T : Type 0} {kind : kinds.Ghosts E} {words : Ghosts T} (named : T → Item T) where
  module _ (first now : Producer E T kind words) (x : T) where
    -- `push_waiting` returns without a push
    pub push_waiting_pushes_none : Sending named first (x ∷ []) now
        → published (producer_view now).seen ≡ published (producer_view first).seen → ⊥
    push_waiting_pushes_none s none = one_more (published (producer_view first).seen) (named x) (sym none ∙ s.list)

    -- it pushes another value
    pub push_waiting_pushes_another : (item : Item T) → item ≢ named x → Sending named first (x ∷ []) now
        → published (producer_view now).seen ≡ published (producer_view first).seen ++ item ∷ [] → ⊥
    push_waiting_pushes_another item other s came =
        other (ap (head item) (append_cancel_left (published (producer_view first).seen) (item ∷ []) (named x ∷ []) (sym came ∙ s.list)))

    -- `push_waiting` pushes the value twice
    pub push_waiting_pushes_twice : Sending named first (x ∷ []) now
        → published (producer_view now).seen ≡ published (producer_view first).seen ++ named x ∷ named x ∷ [] → ⊥
    push_waiting_pushes_twice s came =
        absurd (omega (
          arith,
          ap length (sym came ∙ s.list),
          length-append (published (producer_view first).seen) (named x ∷ named x ∷ []),
          length-append (published (producer_view first).seen) (named x ∷ []),
        ))

    -- `push_all` passes over a value that was refused, and pushes the next one
    pub push_all_passes_over_a_value : Sending {V = T} named first [] now
        → published (producer_view now).seen ≡ published (producer_view first).seen ++ named x ∷ [] → ⊥
    push_all_passes_over_a_value s came =
        one_more (published (producer_view first).seen) (named x) (sym (append-nil (published (producer_view first).seen)) ∙ (sym s.list ∙ came))

  module _ (first now : Consumer E T kind words) (x : T) where
    -- `pop_waiting` gives a value that it did not pop
    pub pop_waiting_gives_another : (item : Item T) → item ≢ named x → Receiving named first (x ∷ []) now
        → handed_out (consumer_view now).seen ≡ handed_out (consumer_view first).seen ++ item ∷ [] → ⊥
    pop_waiting_gives_another item other s came =
        other (ap (head item) (append_cancel_left (handed_out (consumer_view first).seen) (item ∷ []) (named x ∷ []) (sym came ∙ s.list)))

    -- `pop_all` drops a value that it popped
    pub pop_all_drops_a_value : Receiving {V = T} named first [] now
        → handed_out (consumer_view now).seen ≡ handed_out (consumer_view first).seen ++ named x ∷ [] → ⊥
    pop_all_drops_a_value s came =
        one_more (handed_out (consumer_view first).seen) (named x) (sym (append-nil (handed_out (consumer_view first).seen)) ∙ (sym s.list ∙ came))

-- ---- calls of an overflowing queue's consumer

module _ {T : Type 0} where
  -- pops that find none make more events, if any
  finding_none_makes_more : (n : ℕ) (v w : View T) → Times n PopFoundNone v w → length v.made ≤ length w.made
  finding_none_makes_more zero v w times = omega (arith, ap (λ (u : View T). length u.made) times)
  finding_none_makes_more (suc n) v w times =
      omega (arith, finding_none_makes_more n v times.0 times.1, ap length times.2.0.called.made ∙ length-append times.0.made _)

module _ {T : Type 0} (item : Item T) (v w : View T) where
  -- `pop_overflowing_within` takes a number out where no try is allowed
  pub pop_overflowing_within_takes_without_a_try : WasTakenWithin 0 item v w → ⊥
  pop_overflowing_within_takes_without_a_try was_taken_within = (absurd (omega (arith, was_taken_within.few)))

  -- `pop_overflowing_within` gives a number where the queue has no capacity
  pub pop_overflowing_within_gives_one_without_capacity : (capacity x : ℕ) → capacity ≡ 0 → (capacity ≡ 0 → Some x ≡ None) → ⊥
  pop_overflowing_within_gives_one_without_capacity capacity x none says = true≢false (ap is_some (says none))

  pub pop_overflowing_within_looks_without_capacity : (capacity : ℕ) → capacity ≡ 0 → w.asked ≡ v.asked + 1 → (capacity ≡ 0 → w ≡ v) → ⊥
  pop_overflowing_within_looks_without_capacity capacity none looks says = absurd (omega (arith, ap (λ (u : View T). u.asked) (says none)))

  -- `pop_overflowing_waiting` answers a number, and has taken none out
  pub pop_overflowing_waiting_takes_none : (tries : ℕ) → WasTakenWithin tries item v w → length w.made ≡ length v.made → ⊥
  pop_overflowing_waiting_takes_none tries was_taken_within none =
      absurd (omega (
        arith,
        finding_none_makes_more was_taken_within.empty v was_taken_within.last was_taken_within.before,
        ap length was_taken_within.taken.0.called.made ∙ length-append was_taken_within.last.made _,
      ))

-- ---- `both_ends`

module _ {T : Type 0} (old taken new : View T) where
  -- the receiver looks into the queue, or pops, once it has its role
  pub both_ends_receives_first : taken.asked ≡ 1 → new.asked ≡ taken.asked + 1 → new.asked ≤ 1 → ⊥
  both_ends_receives_first role more few = absurd (omega arith)

  -- the sender looks, or pushes, once it has its role
  pub both_ends_sends_first : taken.asked ≡ old.asked + 2 → new.asked ≡ taken.asked + 1 → TakesAtMost 2 old new → ⊥
  both_ends_sends_first role more few = let most : new.asked ≤ old.asked + 2 = few in absurd (omega arith)

-- ---- `receive_all`

-- `receive_all` drops a value that came
pub receive_all_drops_a_value : {A : Type 0} (xs ys : List A) (x : A) → GainAlike xs (xs ++ x ∷ []) ys ys → ⊥
receive_all_drops_a_value xs ys x gain_alike =
    absurd (omega (
      arith,
      ap length gain_alike.1,
      ap length gain_alike.2,
      length-append xs (x ∷ []),
      length-append xs gain_alike.0,
      length-append ys gain_alike.0,
    ))

-- `receive_all` puts another value into the vector
pub receive_all_puts_another : {A : Type 0} (xs ys : List A) (x y : A) → y ≢ x → GainAlike xs (xs ++ x ∷ []) ys (ys ++ y ∷ []) → ⊥
receive_all_puts_another xs ys x y other gain_alike =
    let came = append_cancel_left xs (x ∷ []) gain_alike.0 gain_alike.1 in
    let put = append_cancel_left ys (y ∷ []) gain_alike.0 gain_alike.2 in
    other (ap (head y) (put ∙ sym came))

-- ---- `receive_each`, with a worker that notes what it takes

-- `receive_each` does not hand a value on
pub receive_each_drops_a_value : {A : Type 0} (xs : List A) (x : A) → (xs ≡ xs → xs ≡ xs ++ x ∷ []) → ⊥
receive_each_drops_a_value xs x taken = one_more xs x (taken refl)

-- `receive_each` hands another value on
pub receive_each_hands_another : {A : Type 0} (xs : List A) (x y : A) → y ≢ x → (xs ≡ xs → xs ++ y ∷ [] ≡ xs ++ x ∷ []) → ⊥
receive_each_hands_another xs x y other taken = other (ap (head y) (append_cancel_left xs (y ∷ []) (x ∷ []) (taken refl)))

-- `receive_each` hands a later value on first
pub receive_each_hands_a_later_one_first : {A : Type 0} (xs : List A) (x y : A) → y ≢ x
    → (xs ≡ xs → xs ++ y ∷ x ∷ [] ≡ xs ++ x ∷ y ∷ []) → ⊥
receive_each_hands_a_later_one_first xs x y other taken =
    other (ap (head y) (append_cancel_left xs (y ∷ x ∷ []) (x ∷ y ∷ []) (taken refl)))

-- ---- `join`: its law is of no constants

-- half of a queue's share, with these events, all of its own
abbrev half_with : List (Event (Element ℕ)) → View (Element ℕ)
half_with events =
    record (first_view 4) { share = record { part = 1; parts = 2 }; seen = events; made = events }

abbrev seven : Item (Element ℕ)
seven = Value (elements.Value 7)

differ : (xs : List ℕ) → [] ≡ xs → 7 ∷ [] ≡ xs → ⊥
differ xs none one = (absurd (omega (arith, ap length (none ∙ sym one))))

-- no one list is what was sent, whatever the pass pushed
pub join_knows_what_was_sent : (xs : List ℕ) → ((v : View (Element ℕ)) → OnlyPushes v → values_in (pushed_by v) ≡ xs) → ⊥
join_knows_what_was_sent xs same =
    differ xs (same (half_with []) ((refl, refl), omega arith, refl))
    (same (half_with (Published 0 seven ∷ [])) ((refl, refl), omega arith, refl))

-- no one list is what was received, whatever the pass popped
pub join_knows_what_was_received : (xs : List ℕ) → ((v : View (Element ℕ)) → OnlyPops v → values_in (popped_by v) ≡ xs) → ⊥
join_knows_what_was_received xs same =
    differ xs (same (half_with []) ((refl, refl), omega arith, refl))
    (same (half_with (HandedOut 0 seven ∷ [])) ((refl, refl), omega arith, refl))

-- no one answer says whether the end was sent, whatever the pass pushed
pub join_knows_whether_it_ended : (b : Bool) → ((v : View (Element ℕ)) → OnlyPushes v → has_end (pushed_by v) ≡ b) → ⊥
join_knows_whether_it_ended b same =
    true≢false (same (half_with (Published 0 (Value elements.End) ∷ [])) ((refl, refl), omega arith, refl)
    ∙ sym (same (half_with []) ((refl, refl), omega arith, refl)))
