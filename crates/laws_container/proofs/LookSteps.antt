-- What a look makes of its party's state at an index: it keeps the number that it finds, and a value once its
-- copy is whole. These lemmas compare the state with one machine `m`, which does not move.
use Rattle.laws_container.proofs.Names.{◌≡◌, ◌≢◌, ◌⊎◌, ⊎_elim, inl, inr, ℕ, zero, suc, ◌+◌, ◌<◌, ◌≤◌}
use Rattle.laws_container.proofs.Names.{true, false, Option, Some, None, List, [], ◌∷◌, length, get_or, set}
use Rattle.laws_container.proofs.Names.{slice_get, slice_index_or, refl, sym, ap, subst, ◌∙◌, arith, get_or-set_same}
use Rattle.laws_container.proofs.Names.{get_or-set_other, cases_eq, cases_lt, length-set, slice_get-get_or}
use Rattle.laws_container.proofs.Names.{slice_get_past, is_even, value_if, with_change, with_count, with_word}
use Rattle.laws_container.proofs.Names.{with_value, numbers_over, value_in, ContainerState, Element, Coding, shows}
use Rattle.laws_container.proofs.Names.{WasCopied, contents_of, settled, held_now, held_so, some_none}
use Rattle.steps.specs.Container.State.{counted}
use Rattle.laws_container.proofs.KeptCopies.{IsGetting, HasCopied, ShowsOwn}
use Rattle.laws_container.proofs.StateInvariant.{number_in, number_at, Rests, Course}
use Rattle.laws_container.proofs.Terms.{Keeps}
use Rattle.laws_container.proofs.Turns.{Owing, Now, WellFormed, count_in, change_in}

module _ {T : Type 0} where
  -- ---- an element is written

  -- an element that is put at an index is there
  pub put_here : (es : List (Element T)) (i : ℕ) (e : Element T) → i < length es → slice_get (set es i e) i ≡ Some e
  put_here es i e low =
      let wide = length-set es i e in
      slice_get-get_or (set es i e) i e (omega arith) ∙ ap Some (get_or-set_same es i e e low)

  -- an element that is put at one index leaves those at other indices
  pub put_there : (es : List (Element T)) (i a : ℕ) (e : Element T) → a ≢ i → slice_get (set es i e) a ≡ slice_get es a
  put_there es i a e ne = ⊎_elim within past (cases_lt a (length es))
    where
      wide : length (set es i e) ≡ length es
      wide = length-set es i e

      within : a < length es → slice_get (set es i e) a ≡ slice_get es a
      within low = slice_get-get_or (set es i e) a e (omega (arith, wide)) ∙ (ap Some (get_or-set_other es i a e e ne) ∙ sym (slice_get-get_or es a e low))

      -- past the end of the list there is no element before or after
      past : length es ≤ a → slice_get (set es i e) a ≡ slice_get es a
      past high = slice_get_past (set es i e) a (omega (arith, wide)) ∙ sym (slice_get_past es a high)

  -- `s'` is the state `s` with another element at index `i`, and with nothing else changed
  pub record IsPut (s s' : ContainerState T) (i : ℕ) : Type 0 where
    pub wide : length s'.shown.elements ≡ length s.shown.elements
    pub there : (a : ℕ) → a ≢ i → slice_get s'.shown.elements a ≡ slice_get s.shown.elements a
    pub seen : s'.seen ≡ s.seen
    pub change : s'.shown.change ≡ s.shown.change
    pub copy : s'.shown.copy ≡ s.shown.copy

  -- the element at index `i` of the state `s`
  module _ (s : ContainerState T) (i : ℕ) (low : i < length s.shown.elements) where
    -- the element that the state shows at the index
    pub record Stood : Type 0 where
      pub element : Element T
      pub found : slice_get s.shown.elements i ≡ Some element

    -- an index below the number of elements has one
    pub stood_there : Stood
    stood_there = go (slice_get s.shown.elements i) refl
      where
        -- the cases are whether there is an element at the index
        go : (o : Option (Element T)) → slice_get s.shown.elements i ≡ o → Stood
        go None element_is = none s.shown.elements i low element_is
          where
            -- a list has an element at each index below its length
            none : (es : List (Element T)) (a : ℕ) → a < length es → slice_get es a ≡ None → Stood
            none [] a less element_is = absurd (omega arith)
            none (x ∷ xs) a less element_is = let stands_there : slice_get (x ∷ xs) a ≡ Some (get_or (x ∷ xs) a x) = slice_get-get_or (x ∷ xs) a x less in
                let same : None ≡ Some (get_or (x ∷ xs) a x) = sym element_is ∙ stands_there in
                absurd (cc)
        go (Some element) element_is = record { element = element; found = element_is }

    -- the state `counting` has the number `n` at the index, and the value that stood there
    module _ (n : ℕ) where
      abbrev pub counting : ContainerState T
      counting = record s { shown = with_count s.shown i n }

      elements_then : counting.shown.elements ≡ set s.shown.elements i (record { count = n; value = stood_there.element.value })
      elements_then = ap (λ o. counted o s.shown.elements i n) stood_there.found

      -- a state with another number at an index differs at no other index
      pub count_put : IsPut s counting i
      count_put =
          record {
            wide = ap length elements_then ∙ length-set s.shown.elements i _;
            there = λ a ne. ap (λ es. slice_get es a) elements_then ∙ put_there s.shown.elements i a _ ne;
            seen = refl;
            change = refl;
            copy = refl;
          }

      count_here : slice_get counting.shown.elements i ≡ Some (record { count = n; value = stood_there.element.value })
      count_here = ap (λ es. slice_get es i) elements_then ∙ put_here s.shown.elements i _ low

      pub counted_number : number_at counting i ≡ n
      counted_number = ap number_in count_here

      -- under an even number nothing is shown
      pub counted_none : is_even n ≡ true → shows counting i ≡ None
      counted_none = grind (arith, count_here)

      -- under the number that stood there, the state shows what it showed
      pub counted_same : n ≡ number_at s i → shows counting i ≡ shows s i
      counted_same = grind (arith, number_in, count_here)

    -- the state `showing` has the number `n` at the index, and the value of the copy
    module _ (value_of : List ℕ → T) (size n : ℕ) where
      abbrev pub showing : ContainerState T
      showing = record s { shown = with_value value_of size s.shown i n }

      -- a state with another value at an index differs at no other index
      pub value_put : IsPut s showing i
      value_put =
          record {
            wide = length-set s.shown.elements i _;
            there = λ a ne. put_there s.shown.elements i a _ ne;
            seen = refl;
            change = refl;
            copy = refl;
          }

      pub value_number : number_at showing i ≡ n
      value_number = ap number_in (put_here s.shown.elements i _ low)

      -- under an odd number the state shows the value of the copy
      pub value_here : is_even n ≡ false → shows showing i ≡ Some (value_in value_of size s.shown.copy)
      value_here = grind (arith, put_here, value_in)

-- party `p` looks at the machine `m`, of capacity `c`
module _ {T : Type 0} (code : Coding T) (c : ℕ) (m : Now T) (p : ℕ) where
  -- ---- the look begins to go over the indices

  -- a look that begins with a state at rest, and keeps the number of changes, has gone over no index
  pub course_first : {s : ContainerState T} (change : ℕ) → change ≡ change_in code c m → Rests code c m p s
      → ShowsOwn p s c m.events → Course code c m p (record s { shown = with_change s.shown change }) 0 c
  course_first change change_shown rests own = grind arith

  -- ---- at an index

  -- the look has come to index `k`, its state `s` becomes `s'`, and `x` is the index that it was copying, if any
  module _ {s s' : ContainerState T} {k x : ℕ} (below : k < c) (course : Course code c m p s k x) (put : IsPut s s' k)
      (number : number_at s' k ≡ count_in code c m k) where
    -- at other indices the state has the numbers that it had
    number_there : (i : ℕ) → i ≢ k → number_at s' i ≡ number_at s i
    number_there i ne = ap number_in (put.there i ne)

    -- at other indices the state shows what it showed
    shown_there : (i : ℕ) → i ≢ k → shows s' i ≡ shows s i
    shown_there i ne = ap value_if (put.there i ne)

    -- no number in the state is ahead of the element's own
    number_below : Keeps m.terms → (i : ℕ) → i < c → number_at s' i ≤ count_in code c m i
    number_below kept i low = grind arith

    -- the state keeps a number for each index
    known_then : length s'.seen.counts ≡ c
    known_then = ap (λ n. length n.counts) put.seen ∙ course.known

    -- the state keeps its room for a copy
    room_then : length s'.shown.copy ≡ 128
    room_then = ap length put.copy ∙ course.room

    -- at indices that the look has not come to, the state shows the numbers that it has seen
    unseen_then : (i : ℕ) → k ≤ i → i < c → i ≢ k → i ≢ x → slice_index_or s'.seen.counts i 0 ≡ number_at s' i
    unseen_then = grind (arith, number_there)

    -- the element at `k` is to be copied: what the state shows of it is not yet its value
    module _ (apart : (i : ℕ) → i < c → i ≢ k → i ≢ x) where
      -- only indices of the container are shown
      within : (i : ℕ) (value : T) → shows s i ≡ Some value → i < c
      within i value shown = ⊎_elim (λ low. low) (λ high. past high) (cases_lt i c)
        where
          -- an index past the capacity shows nothing
          past : c ≤ i → i < c
          past high =
              let wide = course.sight.wide in
              let none : shows s i ≡ None = ap value_if (slice_get_past s.shown.elements i (omega arith)) in
              some_none (shows s i) value none shown

      -- a look that begins to copy the element at an index has gone over the indices below it
      pub course_copying : Course code c m p s' k k
      course_copying =
          record {
            -- at no index but `k`, which is being copied, does the state show anything else than before
            sight =
                record {
                  wide = put.wide ∙ course.sight.wide;
                  below = number_below;
                  change = λ kept. let same = put.change in let was = course.sight.change kept in omega arith;
                  copied = λ i value ne is. let was = sym (shown_there i ne) ∙ is in course.sight.copied i value (apart i (within i value was) ne) was;
                  same = λ well_formed i low ne is. shown_there i ne ∙ course.sight.same well_formed i low (apart i low ne) (sym (number_there i ne) ∙ is);
                  caught =
                      λ well_formed is i less low said. number_there i (λ e. absurd (omega arith))
                      ∙ course.sight.caught well_formed (sym put.change ∙ is) i less low said;
                  owed =
                      λ kept is i less low. ⊎_elim (λ e. inl (number_there i (λ e. absurd (omega arith)) ∙ e))
                      (λ o. inr o) (course.sight.owed kept (sym put.change ∙ is) i less low);
                };
            known = known_then;
            room = room_then;
            unseen = λ i from low ne. unseen_then i from low ne (apart i low ne);
            fresh = λ well_formed i less low stood. number_there i (λ e. absurd (omega arith)) ∙ course.fresh well_formed i less low stood;
            once =
                λ well_formed i less low. held_so p (λ part. shows s i ≡ contents_of i part)
                (λ part. shows s' i ≡ contents_of i part) m.events
                (λ part was. shown_there i (λ e. absurd (omega arith)) ∙ was) (course.once well_formed i less low);
            alone = λ was i less low. number_there i (λ e. absurd (omega arith)) ∙ course.alone was i less low;
            own = λ getting i value ne is. let was = sym (shown_there i ne) ∙ is in course.own getting i value (apart i (within i value was) ne) was;
          }

    -- the look is done with index `k`: what the state shows there was copied by the party, and stands in a
    -- well-formed run
    module _ (apart : (i : ℕ) → i ≢ k → i ≢ c → i ≢ x)
        (copied : (value : T) → shows s' k ≡ Some value → WasCopied p k value m.events)
        (stands : WellFormed m → shows s' k ≡ contents_of k m.events)
        (mine : IsGetting p m.events → (value : T) → shows s' k ≡ Some value → HasCopied p k value m.events) where
      -- to show `P` of an index, show it of `k` and of each other index
      abbrev Both : (ℕ → Type 0) → ℕ → Type 0
      Both P i = (i ≢ k → P i) → P k → P i

      both : (P : ℕ → Type 0) (i : ℕ) → Both P i
      both P i there here = ⊎_elim (λ e. subst P (sym e) here) there (cases_eq i k)

      -- an index up to `k` that is not `k` is below it
      before_or : (i : ℕ) → i < k + 1 → i ≢ k → i < k
      before_or i less ne = omega arith

      -- a look that is done with an index has gone over one index more
      pub course_passed : Course code c m p s' (k + 1) c
      course_passed =
          record {
            -- at each index but `k` the state shows what it showed, and at `k` what the copy has shown
            sight =
                record {
                  wide = put.wide ∙ course.sight.wide;
                  below = number_below;
                  change = λ kept. let same = put.change in let was = course.sight.change kept in omega arith;
                  copied = λ i value ne is.
                      both (λ n. shows s' n ≡ Some value → WasCopied p n value m.events) i
                      (λ other shown. course.sight.copied i value (apart i other ne) (sym (shown_there i other) ∙ shown)) (copied value) is;
                  same = λ well_formed i low ne is.
                      both (λ n. number_at s' n ≡ count_in code c m n → shows s' n ≡ contents_of n m.events) i
                      (λ other was. shown_there i other
                      ∙ course.sight.same well_formed i low (apart i other ne) (sym (number_there i other) ∙ was))
                      (λ was. stands well_formed) is;
                  caught = λ well_formed is i less low said.
                      both (λ n. number_at s' n ≡ count_in code c m n) i
                      (λ other. number_there i other ∙ course.sight.caught well_formed (sym put.change ∙ is) i (before_or i less other) low said) number;
                  owed = λ kept is i less low.
                      both (λ n. (number_at s' n ≡ count_in code c m n) ⊎ Owing m.latest) i
                      (λ other. ⊎_elim (λ e. inl (number_there i other ∙ e)) (λ o. inr o)
                      (course.sight.owed kept (sym put.change ∙ is) i (before_or i less other) low))
                      (inl number);
                };
            known = known_then;
            room = room_then;
            unseen = λ i from low ne. unseen_then i (omega arith) low (λ e. absurd (omega arith)) (apart i (λ e. absurd (omega arith)) ne);
            fresh = λ well_formed i less low stood.
                both (λ n. number_at s' n ≡ count_in code c m n) i
                (λ other. number_there i other ∙ course.fresh well_formed i (before_or i less other) low stood) number;
            once = λ well_formed i less low.
                ⊎_elim
                (λ e. held_now p (λ part. shows s' i ≡ contents_of i part) m.events
                (subst (λ n. shows s' n ≡ contents_of n m.events) (sym e) (stands well_formed)))
                (λ other. held_so p (λ part. shows s i ≡ contents_of i part)
                (λ part. shows s' i ≡ contents_of i part) m.events (λ part was. shown_there i other ∙ was)
                (course.once well_formed i (before_or i less other) low))
                (cases_eq i k);
            alone = λ was i less low.
                both (λ n. number_at s' n ≡ count_in code c m n) i (λ other. number_there i other ∙ course.alone was i (before_or i less other) low) number;
            own = λ getting i value ne is.
                both (λ n. shows s' n ≡ Some value → HasCopied p n value m.events) i
                (λ other shown. course.own getting i value (apart i other ne) (sym (shown_there i other) ∙ shown)) (mine getting value) is;
          }

  -- ---- a word is read

  -- a word that is read into the copy leaves how far the look has gone
  pub course_word : {s : ContainerState T} {k x : ℕ} (at word : ℕ) → Course code c m p s k x
      → Course code c m p (record s { shown = with_word s.shown at word }) k x
  course_word {s} at word course = let room = length-set s.shown.copy at word in grind arith

  -- ---- the look has gone over all of them

  -- the numbers taken over from the elements are as many as the elements
  over_length : (counts : List ℕ) (es : List (Element T)) → length counts ≡ length es → length (numbers_over counts es) ≡ length es
  over_length [] [] same_length = refl
  over_length (n ∷ ns) [] same_length = absurd (omega arith)
  over_length [] (x ∷ xs) same_length = absurd (omega arith)
  over_length (n ∷ ns) (x ∷ xs) same_length = let more : length (numbers_over ns xs) ≡ length xs = over_length ns xs (omega arith) in omega arith

  -- the numbers taken over from the elements are, at each index, the element's own
  over_at : (counts : List ℕ) (es : List (Element T)) (i : ℕ) → length counts ≡ length es → i < length es
      → slice_index_or (numbers_over counts es) i 0 ≡ number_in (slice_get es i)
  over_at counts [] i same_length low = absurd (omega arith)
  over_at [] (x ∷ xs) i same_length low = absurd (omega arith)
  over_at (n ∷ ns) (x ∷ xs) zero same_length low = refl
  over_at (n ∷ ns) (x ∷ xs) (suc i) same_length low = over_at ns xs i (omega arith) (omega arith)

  -- a state that has gone over all indices is at rest, once it has taken over the numbers of its elements
  pub rests_settled : (s : ContainerState T) → Course code c m p s c c → Rests code c m p (settled s)
  rests_settled = grind (arith, length, over_length, over_at)
