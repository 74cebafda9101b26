-- Worked rows of the definitions that the contracts cite.
use Rattle.std.proofs.Common.{◌≡◌, ◌+◌, ℕ, suc, true, false, Some, None, List, [], ◌∷◌, refl, arith}
use Rattle.model.specs.declared.event.Event.TheVariants.{Published, HandedOut}
use Rattle.model.specs.declared.event.Item.{Item}
use Rattle.model.specs.declared.event.Item.TheVariants.{Value, Index}
use Rattle.history.specs.declared.view.View.{View}
use Rattle.history.specs.Views.{first_view}
use Rattle.uses_streams.specs.declared.element.Element.{Element}
use Rattle.uses_streams.specs.declared.element.Element.TheVariants as elements
use Rattle.uses_streams.specs.declared.ends.Arrival.TheVariants as arrivals
use Rattle.uses_streams.specs.Elements.{words_of_element, element_of}
use Rattle.uses_streams.specs.Ends.{arrival_of, arrived, is_end, IfNothing, IfValue, GainAlike}
use Rattle.uses_streams.specs.Streams.{last_ones, values_in, has_end, ends_once, has_values, pushed_by, popped_by, CameUpTo}
use Rattle.uses_streams.specs.Tries.{Times, InTurn, WasStopped, WasEmptied}

abbrev three : Item (Element ℕ)
three = Value (elements.Value 3)

abbrev four : Item (Element ℕ)
four = Value (elements.Value 4)

abbrev end : Item (Element ℕ)
end = Value elements.End

-- ---- words

a_value_has_one_word_more : words_of_element 2 (λ x. x ∷ 9 ∷ []) (elements.Value 5) ≡ 1 ∷ 5 ∷ 9 ∷ []
a_value_has_one_word_more = refl

the_end_is_zeros : words_of_element 2 (λ (x : ℕ). x ∷ 9 ∷ []) elements.End ≡ 0 ∷ 0 ∷ 0 ∷ []
the_end_is_zeros = refl

words_give_a_value : element_of (λ (xs : List ℕ). xs) (1 ∷ 5 ∷ 9 ∷ []) ≡ elements.Value (5 ∷ 9 ∷ [])
words_give_a_value = refl

words_give_the_end : element_of (λ (xs : List ℕ). xs) (0 ∷ 5 ∷ 9 ∷ []) ≡ elements.End
words_give_the_end = refl

-- ---- lists

the_last_two : last_ones {A = ℕ} 2 (3 ∷ 4 ∷ 5 ∷ []) ≡ 4 ∷ 5 ∷ []
the_last_two = refl

more_than_there_are : last_ones {A = ℕ} 4 (3 ∷ 4 ∷ 5 ∷ []) ≡ 3 ∷ 4 ∷ 5 ∷ []
more_than_there_are = refl

values_alone : values_in (three ∷ four ∷ []) ≡ 3 ∷ 4 ∷ []
values_alone = refl

values_before_the_end : values_in (three ∷ end ∷ four ∷ []) ≡ 3 ∷ []
values_before_the_end = refl

no_values_of_an_index : values_in (Index 5 ∷ three ∷ []) ≡ []
no_values_of_an_index = refl

no_end_yet : has_end (three ∷ four ∷ []) ≡ false
no_end_yet = refl

the_end_came : has_end (three ∷ end ∷ []) ≡ true
the_end_came = refl

an_index_is_no_end : has_end (Index 5 ∷ end ∷ []) ≡ false
an_index_is_no_end = refl

the_end_is_last : ends_once (three ∷ end ∷ []) ≡ true
the_end_is_last = refl

two_ends : ends_once (three ∷ end ∷ end ∷ []) ≡ false
two_ends = refl

a_value_after_the_end : ends_once (three ∷ end ∷ four ∷ []) ≡ false
a_value_after_the_end = refl

values_do_not_end : ends_once (three ∷ four ∷ []) ≡ false
values_do_not_end = refl

just_values : has_values (three ∷ four ∷ []) ≡ true
just_values = refl

more_than_values : has_values (three ∷ end ∷ []) ≡ false
more_than_values = refl

came_up_to_the_end : CameUpTo true (three ∷ end ∷ [])
came_up_to_the_end = (refl, refl)

came_up_to_now : CameUpTo false (three ∷ [])
came_up_to_now = (refl, refl)

-- ---- views

-- another had pushed 3 before this pass pushed 4 and the end, and popped 3 since
abbrev knows : View (Element ℕ)
knows =
    record (first_view 4) {
      seen = Published 0 three ∷ Published 1 four ∷ HandedOut 2 three ∷ Published 1 end ∷ [];
      made = Published 1 four ∷ Published 1 end ∷ [];
    }

it_pushed : pushed_by knows ≡ four ∷ end ∷ []
it_pushed = refl

it_popped_none : popped_by knows ≡ []
it_popped_none = refl

-- the pass that popped 3 has popped one element, that with the value 3
it_popped : popped_by (record knows { made = HandedOut 2 three ∷ [] }) ≡ three ∷ []
it_popped = refl

-- ---- arrivals

a_pop_found_nothing : arrival_of {T = ℕ} None ≡ arrivals.Nothing
a_pop_found_nothing = refl

a_pop_found_a_value : arrival_of {T = ℕ} (Some (elements.Value 3)) ≡ arrivals.Value 3
a_pop_found_a_value = refl

a_pop_found_the_end : arrival_of {T = ℕ} (Some elements.End) ≡ arrivals.End
a_pop_found_the_end = refl

a_value_arrived : arrived {T = ℕ} (arrivals.Value 3) ≡ 3 ∷ []
a_value_arrived = refl

nothing_arrived : arrived {T = ℕ} arrivals.Nothing ≡ []
nothing_arrived = refl

the_end_is_no_value : arrived {T = ℕ} arrivals.End ≡ []
the_end_is_no_value = refl

it_is_the_end : is_end {T = ℕ} arrivals.End ≡ true
it_is_the_end = refl

nothing_is_no_end : is_end {T = ℕ} arrivals.Nothing ≡ false
nothing_is_no_end = refl

it_is_said_of_nothing : IfNothing {T = ℕ} arrivals.Nothing ⊥ ≡ ⊥
it_is_said_of_nothing = refl

it_is_not_said_of_the_end : IfNothing {T = ℕ} arrivals.End ⊥
it_is_not_said_of_the_end = tt

it_is_said_of_the_value : IfValue {T = ℕ} (arrivals.Value 3) (λ x. ⊥) ≡ ⊥
it_is_said_of_the_value = refl

it_is_not_said_where_nothing_came : IfValue {T = ℕ} arrivals.Nothing (λ x. ⊥)
it_is_not_said_where_nothing_came = tt

nor_at_the_end : IfValue {T = ℕ} arrivals.End (λ x. ⊥)
nor_at_the_end = tt

-- ---- lists that grow alike

both_gain_two : GainAlike {T = ℕ} (3 ∷ []) (3 ∷ 4 ∷ 5 ∷ []) [] (4 ∷ 5 ∷ [])
both_gain_two = (4 ∷ 5 ∷ [], refl, refl)

none_gains : GainAlike {T = ℕ} (3 ∷ []) (3 ∷ []) [] []
none_gains = ([], refl, refl)

-- ---- tries

abbrev next : ℕ → ℕ → Type 0
next m n = n ≡ suc m

no_step : Times 0 next 4 4
no_step = refl

two_steps : Times 2 next 4 6
two_steps = (5, (4, refl, refl), refl)

two_steps_are_not_three : Times 2 next 4 7 → ⊥
two_steps_are_not_three times = (absurd (omega (arith, times.1.1, times.1.2, times.2)))

-- ---- a step for each of a list

abbrev adds : ℕ → ℕ → ℕ → Type 0
adds x m n = n ≡ m + x

none_in_turn : InTurn adds [] 4 4
none_in_turn = refl

two_in_turn : InTurn adds (3 ∷ 5 ∷ []) 4 12
two_in_turn = (7, refl, (12, refl, refl))

another_sum_is_not_reached : InTurn adds (3 ∷ []) 4 8 → ⊥
another_sum_is_not_reached in_turn = (absurd (omega (arith, in_turn.1, in_turn.2)))

nothing_is_left_to_push : WasStopped {V = Element ℕ} Value 4 [] knows knows
nothing_is_left_to_push = refl

no_room_is_left : WasEmptied {V = ℕ} [] knows knows
no_room_is_left = refl
