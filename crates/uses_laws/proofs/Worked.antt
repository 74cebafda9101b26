-- Two stores in their order, and both ends of one pass, at worked histories.
use Rattle.std.proofs.Common.{◌≡◌, ◌≢◌, ◌⊎◌, ◌<◌, ◌≤◌, ⊎_elim, ℕ, ◌+◌, true, Some, IfSome, List, [], ◌∷◌, length, get_or}
use Rattle.std.proofs.Common.{refl, sym, ap, subst, ◌∙◌, arith}
use Rattle.std.proofs.lemmas.List.Elements.{All-from_recursion}
use Rattle.std.proofs.lemmas.Option.{get_or_from_slice_get, slice_get_within}
use Rattle.std.specs.List.{slice_get, Contains}
use Rattle.steps.specs.declared.queues.roles.Role.TheVariants as roles
use Rattle.model.specs.declared.event.Answer.{Answer}
use Rattle.model.specs.declared.event.Answer.TheVariants.{Truth}
use Rattle.model.specs.declared.event.Event.{Event}
use Rattle.model.specs.declared.event.Event.TheVariants.{Begun, Acted, Finished}
use Rattle.model.specs.declared.event.Start.{Start}
use Rattle.model.specs.declared.event.Start.TheVariants.{Atomic}
use Rattle.model.specs.declared.families.atomic.AtomicStart.TheVariants.{Store}
use Rattle.model.specs.Linearizable.{Call, IsLinearizable, Precedes, calls_of}
use Rattle.model.specs.Linearized.{as_value, is_store_or_load}
use Rattle.model.proofs.Linearizable.Members.{either, pair_of}
use Rattle.lock_free.specs.Coding.{one_word}
use Rattle.lock_free.specs.HistoryView.View.{View}
use Rattle.lock_free.specs.Queues.Views.{left_view, right_view}
use Rattle.uses_laws.specs.Order.{StoredInOrder}
use Rattle.uses_laws.specs.Parted.{HasParted, role_taken}
use Rattle.uses_laws.specs.Wrong.{first}

-- ---- a party stores 5, and then 7

abbrev store : ℕ → Start ℕ
store x = Atomic (Store x)

abbrev stores : ℕ → List (Event ℕ) → List (Event ℕ)
stores x rest = Begun 0 (store x) ∷ Acted 0 (store x) (Truth true) ∷ Finished 0 (store x) (Truth true) ∷ rest

abbrev both : List (Event ℕ)
both = stores 5 (stores 7 [])

abbrev called : ℕ → ℕ → Call ℕ
called place x =
    record { place = place; party = 0; start = store x; response = Some (record { place = place + 2; answer = Truth true }) }

abbrev one : Call ℕ
one = called 0 5

abbrev two : Call ℕ
two = called 3 7

two_calls : calls_of both ≡ one ∷ two ∷ []
two_calls = refl

abbrev entry : Call ℕ → Call ℕ × Answer ℕ
entry call = (call, Truth true)

abbrev in_turn : List (Call ℕ × Answer ℕ)
in_turn = entry one ∷ entry two ∷ []

-- The entry is of a store or a load of the history.
abbrev Invoked : Call ℕ × Answer ℕ → Type 0
Invoked x = (is_store_or_load x.0.start ≡ true) × Contains (calls_of both) x.0

-- A store or a load that has responded is in the sequence, with its answer.
abbrev Completed : Call ℕ → Type 0
Completed call =
    IfSome call.response (λ response. is_store_or_load call.start ≡ true → Contains in_turn (call, response.answer))

unequal : (m n : ℕ) → m < n → m ≡ n → ⊥
unequal m n less same = omega arith

no_less : (m n : ℕ) → n ≤ m → m < n → ⊥
no_less m n most less = omega arith

-- the two stores stand in their order in the history
pub stored_in_turn : StoredInOrder 5 7 both
stored_in_turn =
    record {
      order =
          record {
            sequential = in_turn;
            legal = refl;
            invoked = All-from_recursion Invoked in_turn ((refl, (0, omega arith, refl)), ((refl, (1, omega arith, refl)), tt));
            completed = All-from_recursion Completed (calls_of both) ((λ t. (0, omega arith, refl)), ((λ t. (1, omega arith, refl)), tt));
            once = pair_of (λ x y. x.0 ≢ y.0) (entry one) (entry two) (λ e. unequal 0 3 (omega arith) (ap (λ (c : Call ℕ). c.place) e));
            real_time = pair_of (λ x y. ¬ Precedes y.0 x.0) (entry one) (entry two) (no_less 5 0 (omega arith));
          };
      place = 0;
      later = 1;
      before = omega arith;
      first_store = (one, refl, refl);
      second_store = (two, refl, refl);
    }

-- ---- what it is not

module _ (order : IsLinearizable (as_value one_word) both) (place : ℕ) (call : Call ℕ)
    (there : slice_get order.sequential place ≡ Some (entry call)) where
  -- what stands in a linearization is one of both calls
  one_of_both : (one ≡ call) ⊎ (two ≡ call)
  one_of_both =
      let at : get_or order.sequential place (entry call) ≡ entry call =
      get_or_from_slice_get order.sequential place (entry call) (entry call) there in
      let within : place < length order.sequential = slice_get_within order.sequential place (entry call) there in
      either one two call
      (subst (λ (x : Call ℕ × Answer ℕ). Contains (calls_of both) x.0) at (order.invoked place (entry call) within).1)

  -- the second call stores 7, and the first 5
  stores_seven : call.start ≡ store 7 → two ≡ call
  stores_seven is = ⊎_elim (λ e. (let wrong : store 5 ≡ store 7 = ap (λ (c : Call ℕ). c.start) e ∙ is in absurd (cc))) (λ e. e) one_of_both

  stores_five : call.start ≡ store 5 → one ≡ call
  stores_five is = ⊎_elim (λ e. e) (λ e. (let wrong : store 7 ≡ store 5 = ap (λ (c : Call ℕ). c.start) e ∙ is in absurd (cc))) one_of_both

-- a store that nobody made
pub not_stored : StoredInOrder 5 9 both → ⊥
not_stored k =
    let there = k.second_store in
    ⊎_elim (λ e. (let wrong : store 5 ≡ store 9 = ap (λ (c : Call ℕ). c.start) e ∙ there.2 in cc))
    (λ e. (let wrong : store 7 ≡ store 9 = ap (λ (c : Call ℕ). c.start) e ∙ there.2 in cc))
    (one_of_both k.order k.later there.0 there.1)

-- the two stores do not stand in the other order, since one ended before the other began
pub not_the_other_way_round : StoredInOrder 7 5 both → ⊥
not_the_other_way_round k =
    let left = k.first_store in
    let right = k.second_store in
    let all = k.order.sequential in
    let seven : two ≡ left.0 = stores_seven k.order k.place left.0 left.1 left.2 in
    let five : one ≡ right.0 = stores_five k.order k.later right.0 right.1 right.2 in
    let at : get_or all k.place (entry left.0) ≡ entry left.0 = get_or_from_slice_get all k.place (entry left.0) (entry left.0) left.1 in
    let after : get_or all k.later (entry left.0) ≡ entry right.0 = get_or_from_slice_get all k.later (entry right.0) (entry left.0) right.1 in
    let within : k.later < length all = slice_get_within all k.later (entry right.0) right.1 in
    let never = k.order.real_time k.place k.later (entry left.0) k.before within in
    let precedes : 2 < 3 = omega arith in
    let so : Precedes right.0 left.0 = subst (λ (c : Call ℕ). Precedes right.0 c) seven (subst (λ (c : Call ℕ). Precedes c two) five precedes) in
    never
    (subst (λ (x : Call ℕ × Answer ℕ). Precedes (get_or all k.later (entry left.0)).0 x.0) (sym at)
    (subst (λ (x : Call ℕ × Answer ℕ). Precedes x.0 left.0) (sym after) so))

-- ---- both ends of the first pass of a queue: one step for the split, and one for each role

abbrev producer : View ℕ
producer = record (left_view first) { seen = role_taken 0 roles.Producer; made = role_taken 0 roles.Producer; asked = 2 }

abbrev consumer : View ℕ
consumer = record (right_view first) { seen = role_taken 1 roles.Consumer; made = role_taken 1 roles.Consumer; party = Some 1; asked = 1 }

-- both ends are what the pass is parted into
pub parted_in_three : HasParted first producer consumer
parted_in_three =
    record {
      producing = record { share = refl; since = record { rest = role_taken 0 roles.Producer; is = refl }; first = record { rest = []; is = refl } };
      consuming = record { share = refl; since = record { rest = role_taken 1 roles.Consumer; is = refl }; first = record { rest = []; is = refl } };
      by = 0;
      then_by = 1;
      produces = refl;
      consumes = refl;
      asked = omega arith;
      aside = omega arith;
    }

-- refused: the ends ask for one operation more than three
asks_for_four : HasParted first (record producer { asked = 3 }) consumer → ⊥
asks_for_four parted = let most : 3 + 1 ≤ 0 + 3 = parted.asked in absurd (omega (most, arith))

four_aside : HasParted first (record producer { aside = 3 }) (record consumer { aside = 1 }) → ⊥
four_aside parted = let most : 3 + 1 ≤ 0 + 3 = parted.aside in absurd (omega (most, arith))

-- refused: an end that has the whole share
keeps_all : HasParted first (record producer { share = first.share }) consumer → ⊥
keeps_all parted = let e = parted.producing.share in cc

forgets_made : HasParted (record first { made = role_taken 2 roles.Producer }) producer consumer → ⊥
forgets_made parted = let e = parted.produces in cc

two_producers : HasParted first producer (record consumer { made = role_taken 1 roles.Producer }) → ⊥
two_producers parted = let e = parted.consumes in cc
