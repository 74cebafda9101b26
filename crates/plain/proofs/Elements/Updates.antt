-- A look of a state at a container that runs alone: within how many steps it ends, and what it leaves in the
-- state, index by index.
use Rattle.std.proofs.Common.{◌≡◌, ◌≢◌, ℕ, zero, suc, ◌+◌, ◌*◌, ◌-◌, ◌^◌, ◌<◌, ◌≤◌, ⊎_elim, Bool, true, false, ◌==◌}
use Rattle.std.proofs.Common.{nat_lt, List, [], ◌∷◌, length, map, Option, Some, None, refl, sym, ap, subst, ◌∙◌, arith}
use Rattle.std.proofs.Common.{slice_index, slice_set, length-set, eq-eqb, ne_eqb, if◌then◌else◌}
use Rattle.std.specs.Prelude.{slice_get, slice_index_or}
use Rattle.plain.proofs.Names.{nat_tests, eqb_tells, set-get_or, by_test, by_eq, word_at, change_word, count_word}
use Rattle.plain.proofs.Names.{element_word, is_even, Want, After, Done}
use Rattle.steps.specs.Container.State.{Numbers, Showing, value_shown, counted, with_change, with_count, with_word, with_value}
use Rattle.steps.specs.Container.Look.{first_look, at_look, look_comes_to, look_finds, look_want, look_after, look_kept}
use Rattle.steps.specs.Copied.{value_in}
use Rattle.steps.specs.declared.container.look.Look.{Look}
use Rattle.steps.specs.declared.container.look.LookStage.{LookStage}
use Rattle.steps.specs.declared.container.look.LookStage.TheVariants as looks
use Rattle.steps.specs.declared.container.state.Element.{Element}
use Rattle.plain_queues.specs.Queues.{words_from}
use Rattle.plain.specs.Contents.{value_at, Represents}
use Rattle.plain_queues.proofs.Alone.{Runs}
use Rattle.plain.proofs.Walks.{plus, plus_sum, Walks, WalksOn, OnEnd, goes_longer}
use Rattle.plain.proofs.Rooms.{with_room, want_both, after_both, runs_both}
use Rattle.plain.proofs.Elements.Values.{Codes, cell_within, all_small}
use Rattle.plain_queues.proofs.Words.{read_in, value_read}

-- ---- elements of a list

-- a list has an element at each place below its length
pub element_at : {X : Type 0} (l : List X) (i : ℕ) → i < length l → (x : X) × (slice_get l i ≡ Some x)
element_at [] i low = absurd (omega arith)
element_at (x ∷ l) zero low = (x, refl)
element_at (x ∷ l) (suc i) low = element_at l i (omega arith)

-- a place that was set has the new element
get_set : {X : Type 0} (l : List X) (i : ℕ) (x : X) → i < length l → slice_get (slice_set l i x) i ≡ Some x
get_set [] i x low = absurd (omega arith)
get_set (y ∷ l) zero x low = refl
get_set (y ∷ l) (suc i) x low = get_set l i x (omega arith)

-- setting one element leaves each other one
get_set_other : {X : Type 0} (l : List X) (i j : ℕ) (x : X) → j ≢ i → slice_get (slice_set l i x) j ≡ slice_get l j
get_set_other [] i j x ne = refl
get_set_other (y ∷ l) zero zero x ne = absurd (ne refl)
get_set_other (y ∷ l) zero (suc j) x ne = refl
get_set_other (y ∷ l) (suc i) zero x ne = refl
get_set_other (y ∷ l) (suc i) (suc j) x ne = get_set_other l i j x (λ e. ne (ap suc e))

-- there is no value
abbrev IsNone : {X : Type 0} → Option X → Type 0
IsNone None = Unit {0}
IsNone (Some x) = ⊥

-- the value, or d
abbrev or_else : {X : Type 0} → X → Option X → X
or_else d None = d
or_else d (Some x) = x

-- equal options have equal values
some_same : {X : Type 0} {x y : X} → Some x ≡ Some y → x ≡ y
some_same {X} {x} {y} same = ap (or_else x) same

-- a mapped list has at each place the value of the element there
pub get_mapped : {X Y : Type 0} (f : X → Y) (l : List X) (i : ℕ) (x : X) (d : Y) → slice_get l i ≡ Some x → slice_index_or (map f l) i d ≡ f x
get_mapped f [] i x d found = absurd (subst IsNone found tt)
get_mapped f (y ∷ l) zero x d found = ap f (some_same found)
get_mapped f (y ∷ l) (suc i) x d found = get_mapped f l i x d found

-- to set a place twice is to set it to the second value
set_twice : {X : Type 0} (l : List X) (i : ℕ) (x y : X) → slice_set (slice_set l i x) i y ≡ slice_set l i y
set_twice [] i x y = refl
set_twice (z ∷ l) zero x y = refl
set_twice (z ∷ l) (suc i) x y = ap (λ t. z ∷ t) (set_twice l i x y)

-- A look at the words of a container is for a state that has seen these numbers and shows `first`.
module _ {V : Type 0} (codes : Codes V) {capacity : ℕ} {words : List ℕ} (fits : Represents codes.size capacity words)
    (seen : Numbers) (first : Showing V) where
  open codes use {value_of, size, some, wide}

  -- what the look asks for
  abbrev want : Look V → Numbers → Want (Unit {0})
  want c given = look_want size c

  -- what the look asks for, of look and room as one
  abbrev pair_want : Look V × Showing V → Want (Unit {0})
  pair_want = want_both want (look_after size) (look_kept value_of size) seen

  -- what an answer makes of look and room as one
  abbrev pair_after : Look V × Showing V → ℕ → After (Look V × Showing V) (Bool × Showing V)
  pair_after = after_both want (look_after size) (look_kept value_of size) seen

  -- the look at this stage
  abbrev at : LookStage → Look V
  at stage = record { capacity = capacity; stage = stage; of = record {} }

  -- the number of an index, by the words
  abbrev pub count : ℕ → ℕ
  count i = slice_index words (count_word capacity i)

  -- the first word of an index's value
  abbrev cell : ℕ → ℕ
  cell i = element_word capacity size i 0

  -- what the state shows at first fits: it has an element for each index, with the number that the state has
  -- seen, and a copy of 128 words
  abbrev pub FitsAtFirst : Type 0
  FitsAtFirst = (length first.elements ≡ capacity) × (map (λ (e : Element V). e.count) first.elements ≡ seen.counts) × (length first.copy ≡ 128)

  -- what the look is to show at an index: what the state showed where it has seen the number, else the value
  -- of the words
  abbrev pub target : ℕ → Option V
  target i =
      if count i == slice_index seen.counts i
      then slice_index_or (map value_shown first.elements) i None
      else value_at value_of size capacity words i

  -- the element at this index has the number of the words and shows what the look is to show there
  pub record IsUpToDate (elements : List (Element V)) (j : ℕ) : Type 0 where
    pub e : Element V
    pub there : slice_get elements j ≡ Some e
    pub count_is : e.count ≡ count j
    pub shown : value_shown e ≡ target j

  -- What the state shows is up to date below index i, and as at first from i on.
  pub record UpToDateBelow (r : Showing V) (i : ℕ) : Type 0 where
    pub change : r.change ≡ slice_index words (change_word capacity)
    pub long : length r.elements ≡ capacity
    pub room : length r.copy ≡ 128
    pub done : (j : ℕ) → j < i → IsUpToDate r.elements j
    pub rest : (j : ℕ) → i ≤ j → slice_get r.elements j ≡ slice_get first.elements j

  -- once the element of index i has the number of the words and shows what it is to show, one index more is
  -- up to date
  part_next : (r r₂ : Showing V) (i : ℕ) (e : Element V) → i < capacity → e.count ≡ count i → value_shown e ≡ target i
      → r₂.change ≡ r.change → r₂.elements ≡ slice_set r.elements i e → length r₂.copy ≡ 128 → UpToDateBelow r i → UpToDateBelow r₂ (i + 1)
  part_next r r₂ i e near number_is shows change elements room below_is =
      let long = below_is.long in
      record {
        change = change ∙ below_is.change;
        long = ap length elements ∙ length-set r.elements i e ∙ below_is.long;
        room = room;
        done = λ j low. subst (λ l. IsUpToDate l j) (sym elements)
            (⊎_elim
            -- the index itself: the element written there is up to date
            (λ (t : ((j == i) ≡ true) × (j ≡ i)).
            subst (IsUpToDate (slice_set r.elements i e)) (sym t.1)
            (record { e = e; there = get_set r.elements i e (omega arith); count_is = number_is; shown = shows }))
            -- another index: its element is as it was
            (λ (t : ((j == i) ≡ false) × (j ≢ i)).
            let ne = t.1 in
            let d = below_is.done j (omega (arith, ne)) in
            record { e = d.e; there = get_set_other r.elements i j e t.1 ∙ d.there; count_is = d.count_is; shown = d.shown })
            (eqb_tells j i));
        rest = λ j far. ap (λ l. slice_get l j) elements ∙ get_set_other r.elements i j e (λ e. absurd (omega arith)) ∙ below_is.rest j (omega arith);
      }

  -- where what the state showed at first fits, it is up to date below index i
  abbrev pub UpToDateIfFits : Showing V → ℕ → Type 0
  UpToDateIfFits r i = FitsAtFirst → UpToDateBelow r i

  -- The look has ended and changed no word. With true the container has changed since, and all indices are up
  -- to date; with false it has not changed, and the state shows what it showed.
  abbrev pub Ended : Bool → Showing V → List ℕ → Type 0
  Ended true room last = (last ≡ words) × ((slice_index words (change_word capacity) == seen.change) ≡ false) × UpToDateIfFits room capacity
  Ended false room last =
      (last ≡ words) × ((slice_index words (change_word capacity) == seen.change) ≡ true)
      × (room ≡ with_change first (slice_index words (change_word capacity)))

  -- `Ended`, of answer and room as one
  abbrev pub P : Bool × Showing V → List ℕ → Type 0
  P z last = Ended z.0 z.1 last

  -- the look, run alone from these words, ends within n steps, and `Ended` holds
  abbrev LookEnds : ℕ → Look V → Showing V → List ℕ → Type 0
  LookEnds n call room ws = Walks pair_want pair_after n (OnEnd P) (call, room) ws

  -- what a step of the look has answered ends at once or within n steps more, and `Ended` holds
  abbrev LookEndsFrom : ℕ → After (Look V) Bool → Showing V → List ℕ → Type 0
  LookEndsFrom n a room ws = WalksOn pair_want pair_after n (OnEnd P) (with_room room a) ws

  -- from the stage at which word k is loaded, the look loads the words left, exchanges the number for itself,
  -- shows the value and goes on to the next index
  reads : (m i : ℕ) → i < capacity → (n k : ℕ) → k + suc n ≡ size → (room : Showing V)
      → LookEndsFrom m (look_comes_to (first_look capacity) (i + 1))
      (with_value value_of size (read_in with_word room words (cell i) k (suc n)) i (count i)) words
      → LookEnds (suc (suc (plus n m))) (at (looks.LoadsWord i (count i) k)) room words
  reads m i near zero k end room from =
      let place : element_word capacity size i k ≡ word_at (cell i) k =
      omega (arith, cell_within value_of fits i near wide, all_small value_of fits i near wide) in
      let c = count_word capacity i in
      subst
      (λ p. LookEndsFrom (suc m) (if nat_lt (k + 1) size then at_look (first_look capacity) (looks.LoadsWord i (count i) (k + 1))
      else at_look (first_look capacity) (looks.ChecksCount i (count i)))
      (with_word room k (slice_index words p)) words)
      (sym place)
      (by_test (λ a. LookEndsFrom (suc m) a (with_word room k (slice_index words (word_at (cell i) k))) words) (nat_lt (k + 1) size) _ _
      (λ t. let more : k + 1 < size = grind (arith, nat_tests) in absurd (omega arith))
      (λ t. let next = with_word room k (slice_index words (word_at (cell i) k)) in
      subst (λ b. LookEndsFrom m (if b then look_comes_to (first_look capacity) (i + 1) else look_finds (first_look capacity) i (count i))
      (if b then with_value value_of size next i (count i) else with_count next i (count i))
      (if b then slice_set words c (count i) else words))
      (sym (eq-eqb (count i) (count i) refl))
      (subst (λ ws. LookEndsFrom m (look_comes_to (first_look capacity) (i + 1)) (with_value value_of size next i (count i)) ws)
      (sym (set-get_or words c 0)) from)))
  reads m i near (suc n) k end room from =
      let place : element_word capacity size i k ≡ word_at (cell i) k =
      omega (arith, cell_within value_of fits i near wide, all_small value_of fits i near wide) in
      subst (λ p. LookEndsFrom (suc (suc (plus n m)))
      (if nat_lt (k + 1) size then at_look (first_look capacity) (looks.LoadsWord i (count i) (k + 1))
      else at_look (first_look capacity) (looks.ChecksCount i (count i)))
      (with_word room k (slice_index words p)) words)
      (sym place)
      (by_test (λ a. LookEndsFrom (suc (suc (plus n m))) a (with_word room k (slice_index words (word_at (cell i) k))) words) (nat_lt (k + 1) size) _ _
      (λ t. reads m i near n (k + 1) (omega arith) (with_word room k (slice_index words (word_at (cell i) k))) from)
      (λ t. let less : size ≤ k + 1 = grind (arith, nat_tests) in absurd (omega arith)))

  -- to load words changes only the copy: elements and number of changes stay
  read_else : (room : Showing V) (k at n : ℕ)
      → ((read_in with_word room words k at n).elements ≡ room.elements) × ((read_in with_word room words k at n).change ≡ room.change)
      × (length (read_in with_word room words k at n).copy ≡ length room.copy)
  read_else room k at zero = (refl, refl, refl)
  read_else room k at (suc n) =
      let h = read_else (with_word room at (slice_index words (word_at k at))) k (at + 1) n in
      (h.0, h.1, h.2 ∙ length-set room.copy at (slice_index words (word_at k at)))

  -- the greatest number of steps over k indices
  abbrev most : ℕ → ℕ
  most zero = zero
  most (suc k) = suc (suc (suc (plus (size - 1) (most k))))

  -- these are at most 130 for each index
  most_few : (k : ℕ) → most k ≤ 130 * k
  most_few zero = omega arith
  most_few (suc k) =
      let h = most_few k in let p = plus_sum (size - 1) (most k) in
      let e : suc (suc (suc (plus (size - 1) (most k)))) ≤ 130 * suc k = omega (arith, wide) in e

  -- the element at the next index is the one that the state showed at first
  is_at : (i : ℕ) → i < capacity → (r : Showing V) → FitsAtFirst → UpToDateBelow r i
      → (e : Element V) × (slice_get r.elements i ≡ Some e) × (slice_get first.elements i ≡ Some e)
  is_at i near r meets below_is =
      let l = meets.0 in
      let e = element_at first.elements i (omega arith) in (e.0, below_is.rest i (omega arith) ∙ e.1, e.1)

  -- the state has seen the number of the element that it showed at first
  seen_at : (i : ℕ) (e : Element V) → FitsAtFirst → slice_get first.elements i ≡ Some e → slice_index seen.counts i ≡ e.count
  seen_at = grind (arith, get_mapped)

  -- the element with another number
  abbrev with_number : Element V → ℕ → Element V
  with_number e n = record { count = n; value = e.value }

  -- where only the number of the next index has to be taken over, one index more is up to date then
  counts_next : (r : Showing V) (i : ℕ) → i < capacity → (o : Option V) → target i ≡ o
      → ((e : Element V) → slice_get first.elements i ≡ Some e → FitsAtFirst → value_shown (with_number e (count i)) ≡ o)
      → UpToDateIfFits r i → UpToDateIfFits (with_count r i (count i)) (i + 1)
  counts_next r i near o target_is shows known meets =
      let h = known meets in
      let e = is_at i near r meets h in
      part_next r (with_count r i (count i)) i (with_number e.0 (count i)) near refl (shows e.0 e.2 meets ∙ sym target_is) refl
      (ap (λ o. counted o r.elements i (count i)) e.1) h.room h

  -- where the value of the next index is read and shown, one index more is up to date then
  value_next : (r : Showing V) (i : ℕ) → i < capacity → is_even (count i) ≡ false → target i ≡ value_at value_of size capacity words i
      → UpToDateIfFits r i → UpToDateIfFits (with_value value_of size (read_in with_word (with_count r i (count i)) words (cell i) 0 size) i (count i)) (i + 1)
  value_next r i near odd target_is known meets =
      let h = known meets in
      let e = is_at i near r meets h in
      let r₁ = with_count r i (count i) in
      let t = read_else r₁ (cell i) 0 size in
      let wide_room = h.room in
      -- the words that were read make the value that stands at the index
      let v : value_in value_of size (read_in with_word r₁ words (cell i) 0 size).copy ≡ value_of (words_from words (cell i) size) =
      value_read value_of size (record { words_in = λ (s : Showing V). s.copy; with_word = with_word; put_in = λ x at word. refl }) r₁ words
      (cell i) (omega (arith, wide))
      (omega (arith, cell_within value_of fits i near wide, all_small value_of fits i near wide)) in
      let new : Element V = record { count = count i; value = value_in value_of size (read_in with_word r₁ words (cell i) 0 size).copy } in
      let shows : value_shown new ≡ Some (value_of (words_from words (cell i) size)) =
      ap (λ b. if b then None else Some new.value) odd ∙ ap Some v in
      let stands : value_at value_of size capacity words i ≡ Some (value_of (words_from words (cell i) size)) =
      ap (λ b. if b then None else Some (value_of (words_from words (cell i) size))) odd in
      part_next r (with_value value_of size (read_in with_word r₁ words (cell i) 0 size) i (count i)) i new near refl (shows ∙ sym (target_is ∙ stands)) t.1
      (ap (λ l. slice_set l i new) (t.0 ∙ ap (λ o. counted o r.elements i (count i)) e.1) ∙ set_twice r.elements i (with_number e.0 (count i)) new)
      (t.2 ∙ h.room) h

  module _ (fresh : (slice_index words (change_word capacity) == seen.change) ≡ false) where
    -- From index i on the look brings k indices up to date, where the container has changed. The cases are
    -- whether the state has seen the index's number, and whether that is even.
    looks_on : (k i : ℕ) → i + k ≡ capacity → (room : Showing V) → UpToDateIfFits room i
        → LookEndsFrom (most k) (look_comes_to (first_look capacity) i) room words
    -- no index is left: the look ends
    looks_on zero i sum room known =
        let last : i ≡ capacity = omega arith in
        by_test (λ a. LookEndsFrom zero a room words) (nat_lt i capacity) _ _
        (λ t. let near : i < capacity = grind (arith, nat_tests) in absurd (omega arith))
        (λ t. (refl, fresh, subst (UpToDateIfFits room) last known))
    looks_on (suc k) i sum room known =
        let near₀ : i < capacity = omega arith in
        let room₁ = with_count room i (count i) in
        by_test (λ a. LookEndsFrom (most (suc k)) a room words) (nat_lt i capacity) _ _
        -- the look loads the number of the index
        (λ t. by_eq (λ a. LookEndsFrom (suc (suc (plus (size - 1) (most k)))) a room₁ words) (count i) (slice_index seen.counts i) _ _
        -- the state has seen this number: what it shows at the index stays, and the look goes
        -- on to the next index
        (λ e. goes_longer pair_want pair_after (suc (suc (size - 1))) (most k) (OnEnd P) (with_room room₁ (look_comes_to (first_look capacity) (i + 1))) words
        (looks_on k (i + 1) (omega arith) room₁
        (counts_next room i near₀ (slice_index_or (map value_shown first.elements) i None)
        (ap (λ b. if b then slice_index_or (map value_shown first.elements) i None else value_at value_of size capacity words i)
        (eq-eqb (count i) (slice_index seen.counts i) e))
        (λ x there m. ap (λ n. value_shown (with_number x n)) (e ∙ seen_at i x m there) ∙ sym (get_mapped value_shown first.elements i x None there)) known)))
        -- the state has not seen this number, so it is to show what stands at the index
        (λ ne. let is : target i ≡ value_at value_of size capacity words i =
        ap (λ b. if b then slice_index_or (map value_shown first.elements) i None else value_at value_of size capacity words i)
        (ne_eqb (count i) (slice_index seen.counts i) ne) in
        by_test (λ a. LookEndsFrom (suc (suc (plus (size - 1) (most k)))) a room₁ words) (is_even (count i)) _ _
        -- the number is even: nothing stands at the index, and the look goes on to the next one
        (λ even. goes_longer pair_want pair_after (suc (suc (size - 1))) (most k) (OnEnd P) (with_room room₁ (look_comes_to (first_look capacity) (i + 1)))
        words
        (looks_on k (i + 1) (omega arith) room₁
        (counts_next room i near₀ None
        (is ∙ ap (λ b. if b then None else Some (value_of (words_from words (cell i) size))) even)
        (λ x there m. ap (λ b. if b then None else Some x.value) even) known)))
        -- the number is odd: the look reads the value and goes on to the next index
        (λ odd. let all : suc (size - 1) ≡ size = omega (arith, some) in
        reads (most k) i near₀ (size - 1) 0 (omega arith) room₁
        (subst (λ n. LookEndsFrom (most k) (look_comes_to (first_look capacity) (i + 1))
        (with_value value_of size (read_in with_word room₁ words (cell i) 0 n) i (count i)) words)
        (sym all)
        (looks_on k (i + 1) (omega arith)
        (with_value value_of size (read_in with_word room₁ words (cell i) 0 size) i (count i))
        (value_next room i near₀ odd is known))))))
        (λ t. let far : capacity ≤ i = grind (arith, nat_tests) in absurd (omega arith))

  -- once the number of changes is taken over, no index has to be up to date yet
  begins : UpToDateIfFits (with_change first (slice_index words (change_word capacity))) 0
  begins = grind arith

  -- A look that has taken no step ends within its number of steps, as `Ended` says. The cases are whether the
  -- container has changed since.
  walks : LookEnds (suc (most capacity)) (first_look capacity) first words
  walks =
      let changed = slice_index words (change_word capacity) in
      ⊎_elim
      (λ (t : ((changed == seen.change) ≡ true) × (changed ≡ seen.change)).
      subst (λ b. LookEndsFrom (most capacity) (if b then Done false else look_comes_to (first_look capacity) 0) (with_change first changed) words) (sym t.0)
      (refl, t.0, refl))
      (λ (t : ((changed == seen.change) ≡ false) × (changed ≢ seen.change)).
      subst (λ b. LookEndsFrom (most capacity) (if b then Done false else look_comes_to (first_look capacity) 0) (with_change first changed) words) (sym t.0)
      (looks_on t.0 capacity 0 (let e : 0 + capacity ≡ capacity = omega arith in e) (with_change first changed) begins))
      (eqb_tells changed seen.change)

  -- these are fewer than 2^64 steps
  few : suc (most capacity) ≤ 2 ^ 64 - 1
  few = omega (arith, most_few capacity, fits.few)

  -- a look, run alone, ends as `Ended` says
  pub look_runs : {call : Look V} → call ≡ first_look capacity
      → Runs want (look_after size) (look_kept value_of size) seen (λ e room ws. P (e, room) ws) call first words
  look_runs {call} at_first =
      subst (λ c. Runs want (look_after size) (look_kept value_of size) seen (λ e room ws. P (e, room) ws) c first words) (sym at_first)
      (runs_both (suc (most capacity)) P few walks)
