-- Resetting all places: the closure is called with just those that the call clears.
use Rattle.lock_free_sets.proofs.Names.{◌≡◌, ⊎_elim, true≢false, ◌==◌, ℕ, zero, suc, ◌+◌, ◌<◌, ◌≤◌, Bool, true, false, cond}
use Rattle.lock_free_sets.proofs.Names.{List, [], ◌∷◌, ◌++◌, map, refl, sym, ap, subst, ◌∙◌, arith, append_assoc, append-nil}
use Rattle.lock_free_sets.proofs.Names.{map-append, FoldsTo, All, range_with_len, cases_lt, sum_by-cons, FoldsTo-push}
use Rattle.lock_free_sets.proofs.Names.{All-nil, All-cons, All-push, All-weaker, all_pairs_push, element_of, elements, has_flag, After}
use Rattle.lock_free_sets.proofs.Names.{Emptying, OneWord, Event, IsBitSet, fresh, SinceBegin}
use Rattle.lock_free_sets.proofs.Names.{bits_go_on, View, events_by}
use Rattle.std.specs.List.{filter, count_by}
use Rattle.std.proofs.lemmas.List.Elements.{All-append, All-head, All-tail, filter-append}
use Rattle.steps.specs.Bits.Places.{first_place, places_in}
use Rattle.steps.specs.Bits.ResetAll.{all_bits}
use Rattle.steps.proofs.Flags.Places.{place_named}
use Rattle.steps.specs.declared.ask.After.TheVariants.{GoOn, Done}
use Rattle.model.specs.declared.event.Answer.TheVariants as answers
use Rattle.model.specs.declared.turn.Kind.TheVariants as kinds
use Rattle.model.specs.Families.Bits.Promises.{HasCleared}
use Rattle.model.specs.Families.Bits.Steps.{clear_events}
use Rattle.model.specs.Families.Bits.Reading.{is_clear_of, clears}
use Rattle.model.specs.Reading.{whose, is_party}
use Rattle.laws_bits.proofs.Bits.Lists.{Rise, places_rise, clears_named}
use Rattle.laws_bits.proofs.Bits.Core.{clears_more}
use Rattle.history.specs.Stages.{opened}
use Rattle.history.specs.Steps.{TakesAtMost}
use Rattle.lock_free_sets.specs.Bits.Callable.{Ascends, Visited, TakesPlaces}
use Rattle.lock_free_sets.specs.Driven.{HasMade, HasDone, IsIdle}
use Rattle.lock_free_sets.specs.Sets.Kinds.{Flags}
use Rattle.lock_free_sets.specs.Bits.Contracts.{cleared_by, HasCleanedOut, MissedNoPlace, ResetAllDone}
use Rattle.lock_free_sets.proofs.Ends.{before_end, to_end}
use Rattle.lock_free_sets.proofs.Sets.Answered.{bits_answer}
use Rattle.lock_free_sets.proofs.Sets.Emptied.{emptying, Stepped, TookStep, stepped, same_capacity, WroteSoFar}
use Rattle.lock_free_sets.proofs.Sets.Emptied.{first_wrote, words_left, ends_all, wrote_on, wrote_all}
use Rattle.lock_free_sets.proofs.Sets.Emptying.{goes_next}
use Rattle.lock_free_sets.proofs.Steps.{bits_take}

-- ---- the places of one word, one after another

-- a range that is longer by one has one number more at its end
pub range_more : (a n : ℕ) → range_with_len a (n + 1) ≡ range_with_len a n ++ (a + n) ∷ []
range_more a zero = let same : a ≡ a + 0 = omega arith in ap (λ z. z ∷ []) same
range_more a (suc n) =
    let up : suc n + 1 ≡ suc (n + 1) = omega arith in
    let same : (a + 1) + n ≡ a + suc n = omega arith in
    ap (range_with_len a) up ∙ ap (λ zs. a ∷ zs) (range_more (a + 1) n ∙ ap (λ z. range_with_len (a + 1) n ++ z ∷ []) same)

-- Numbers that rise from above `first` rise with `first` in front too.
rise_cons : (low first : ℕ) (rest : List ℕ) (t : Bool) → low ≤ first → Rise (first + 1) rest → Rise low rest → Rise low (cond t (first ∷ rest) rest)
rise_cons low first rest true le up all = (le, up)
rise_cons low first rest false le up all = all

-- The numbers of a range from `first` on that pass the test ascend, from any number on that
-- is not above `first`.
rise_some : (test : ℕ → Bool) (low first n : ℕ) → low ≤ first → Rise low (filter test (range_with_len first n))
rise_some test low first zero le = tt
rise_some test low first (suc n) le =
    rise_cons low first (filter test (range_with_len (first + 1) n)) (test first) le
    (rise_some test (first + 1) (first + 1) n (omega arith)) (rise_some test low (first + 1) n (omega arith))

-- A property that all kept numbers have holds with one more in front, if that one is kept and has it.
kept_cons : (Q : ℕ → Type 0) (first : ℕ) (rest : List ℕ) (t : Bool) → (t ≡ true → Q first) → All Q rest → All Q (cond t (first ∷ rest) rest)
kept_cons Q first rest true h all = All-cons Q first rest (h refl) all
kept_cons Q first rest false h all = all

-- a property of each number of a range that passes the test holds of all numbers that the test keeps
kept_all : (Q : ℕ → Type 0) (test : ℕ → Bool) (first n : ℕ)
    → ((p : ℕ) → first ≤ p → p < first + n → test p ≡ true → Q p) → All Q (filter test (range_with_len first n))
kept_all Q test first zero h = All-nil Q
kept_all Q test first (suc n) h =
    kept_cons Q first (filter test (range_with_len (first + 1) n)) (test first)
    (h first (omega arith) (omega arith))
    (kept_all Q test (first + 1) n (λ p low high t. h p (omega arith) (omega arith) t))

-- ascending places below `low`, and behind them ascending places from `low` on, ascend together
ascends_more : (cap low : ℕ) (xs ys : List ℕ) → Ascends cap xs → All (λ x. x < low) xs → Rise low ys → All (λ y. y < cap) ys → Ascends cap (xs ++ ys)
ascends_more cap low xs [] up below rise within = subst (Ascends cap) (sym (append-nil xs)) up
ascends_more cap low xs (y ∷ ys) up below rise within =
    let r = rise.0 in
    let under : All (λ x. x < y) xs = All-weaker (λ x. x < low) (λ x. x < y) (λ x l. omega arith) xs below in
    let more : Ascends cap (xs ++ y ∷ []) =
    (all_pairs_push (λ a b. a < b) xs y up.0 under, All-push (λ x. x < cap) xs y up.1 (All-head (λ z. z < cap) y ys within)) in
    subst (Ascends cap) (append_assoc xs (y ∷ []) ys)
    (ascends_more cap (y + 1) (xs ++ y ∷ []) ys more
    (All-push (λ x. x < y + 1) xs y (All-weaker (λ x. x < y) (λ x. x < y + 1) (λ x l. omega arith) xs under) (omega arith))
    rise.1 (All-tail (λ z. z < cap) y ys within))

-- A closure called with one list and then with another was called with both together.
folds_more : {F : Type 0} (R : F → ℕ → F → Type 0) (xs ys : List ℕ) (v p q : F) → FoldsTo R v xs p → FoldsTo R p ys q → FoldsTo R v (xs ++ ys) q
folds_more R [] ys v p q a b = subst (λ z. FoldsTo R z ys q) (sym a) b
folds_more R (x ∷ xs) ys v p q a b = (a.0, a.1, folds_more R xs ys a.0 p q a.2 b)

-- After one further place the closure was called with that place if its flag is set, and not called if
-- it is clear.
pub visited_more : {F : Type 0} (R : F → ℕ → F → Type 0) (found first n : ℕ) (v : F) {p q : F} {t : Bool}
    → has_flag found (first + n) ≡ t → (t ≡ true → R p (first + n) q) → (t ≡ false → q ≡ p)
    → Visited R found first v n p → Visited R found first v (n + 1) q
visited_more {F} R found first n v {p} {q} {t} is hit miss h =
    subst (λ xs. FoldsTo R v xs q) (sym whole) (go t is hit miss)
  where
    has : ℕ → Bool
    has place = has_flag found place

    whole : filter has (range_with_len first (n + 1)) ≡ filter has (range_with_len first n) ++ cond (has (first + n)) ((first + n) ∷ []) []
    whole = ap (filter has) (range_more first n) ∙ filter-append has (range_with_len first n) ((first + n) ∷ [])

    -- The cases are whether the flag of the further place is set: then the closure was called with it.
    go : (u : Bool) → has (first + n) ≡ u → (u ≡ true → R p (first + n) q) → (u ≡ false → q ≡ p)
        → FoldsTo R v (filter has (range_with_len first n) ++ cond (has (first + n)) ((first + n) ∷ []) []) q
    go true e hits misses = rw e (FoldsTo-push R v (filter has (range_with_len first n)) p (first + n) q h (hits refl))
    go false e hits misses =
        rw e (subst (λ xs. FoldsTo R v xs q) (sym (append-nil (filter has (range_with_len first n))))
        (subst (λ z. FoldsTo R v (filter has (range_with_len first n)) z) (sym (misses refl)) h))

-- if no flag is set from a place on, the closure that was called up to this place was called up to each
-- later place too
pub visited_rest : {F : Type 0} (R : F → ℕ → F → Type 0) (found first n m : ℕ) (v p : F)
    → ((i : ℕ) → n ≤ i → i < n + m → has_flag found (first + i) ≡ false) → Visited R found first v n p
    → Visited R found first v (n + m) p
visited_rest R found first n zero v p none h =
    let same : n ≡ n + 0 = omega arith in subst (λ k. Visited R found first v k p) same h
visited_rest R found first n (suc m) v p none h =
    let up : (n + m) + 1 ≡ n + suc m = omega arith in
    subst (λ k. Visited R found first v k p) up
    (visited_more R found first (n + m) v (none (n + m) (omega arith) (omega arith))
    (λ e. absurd (true≢false (sym e))) (λ e. refl)
    (visited_rest R found first n m v p (λ i low high. none i low (omega arith)) h))

-- ---- no place past the capacity is found

-- with an event more, which is the party's own or not, the party's clears of a place are still no
-- more than all clears of the place
clears_cons : (b : ℕ) (e : Event ℕ) (own all : List (Event ℕ)) (t : Bool) → clears b own ≤ clears b all
    → clears b (cond t (e ∷ []) [] ++ own) ≤ clears b (e ∷ all)
clears_cons b e own all true less =
    let more = sum_by-cons (λ x. cond (is_clear_of b x) 1 0) e own in
    let whole = sum_by-cons (λ x. cond (is_clear_of b x) 1 0) e all in
    omega arith
clears_cons b e own all false less =
    let whole = sum_by-cons (λ x. cond (is_clear_of b x) 1 0) e all in
    omega arith

-- One party's clears of a place are at most all clears of it.
clears_of_party : (b p : ℕ) (es : List (Event ℕ)) → clears b (events_by p es) ≤ clears b es
clears_of_party b p [] = omega arith
clears_of_party b p (e ∷ es) = clears_cons b e (events_by p es) es (is_party p (whose e)) (clears_of_party b p es)

-- the word that a step cleared had no flag of a place past the capacity
pub found_clear : {cap word : ℕ} {v w : View ℕ} {room : OneWord} → 1 ≤ word
    → (s : Stepped Flags v w word room) → v.capacity ≡ cap → (place : ℕ) → element_of place ≡ word
    → cap ≤ place → has_flag room.0 place ≡ false
found_clear {cap} {word} {v} {w} {room} low s size place here past = go (has_flag room.0 place) refl
  where
    h : IsBitSet s.history.trace
    h = bits_go_on s.history.trace s.history.run.of_kind s.history.run.reached

    -- a place past the capacity was never cleared
    none : clears place w.seen ≡ 0
    none =
        let sets_none = h.within place (let same = s.history.run.sized in omega arith) in
        let all = h.conserved place in
        let zero : clears place s.history.trace.events ≡ 0 = omega arith in
        ap (clears place) s.history.is ∙ zero

    -- The step's events clear a place as often as it is among the places whose flags the step found set.
    named : clears place (clear_events {T = ℕ} s.party word room.0) ≡ count_by (λ q. q == place) (places_in word room.0)
    named = clears_named ℕ s.party place (places_in word room.0)

    -- the clears of a place that the step wrote are some of those that were seen
    some : clears place (clear_events {T = ℕ} s.party word room.0) ≤ clears place w.seen
    some =
        let within = clears_of_party place s.party s.since.during in
        let own : clears place (events_by s.party s.since.during) ≡ clears place (clear_events {T = ℕ} s.party word room.0) =
        ap (clears place) (s.since.during_own ∙ s.is) in
        let opens = opened s.party emptying v.going in
        let one = clears_more place (v.seen ++ s.since.others) (opens ++ (s.since.during ++ s.last)) in
        let two = clears_more place opens (s.since.during ++ s.last) in
        let three = clears_more place s.since.during s.last in
        let is = ap (clears place) s.since.is in
        omega arith

    -- the flag of a place past the capacity was not found, whatever was found
    go : (t : Bool) → has_flag room.0 place ≡ t → has_flag room.0 place ≡ false
    go false e = e
    go true e =
        let times : count_by (λ q. q == place) (places_in word room.0) ≡ cond (has_flag room.0 place) 1 0 = place_named word room.0 place here in
        let is_one : count_by (λ q. q == place) (places_in word room.0) ≡ 1 = times ∙ ap (λ t. cond t 1 0) e in
        let n = named in
        let s = some in
        let z = none in
        absurd (omega arith)

-- ---- the call and its closure

module _ {F : Type 0} (R : F → ℕ → F → Type 0) (cap : ℕ) (visit : F) where
  -- The call that clears all flags stands at c in the view v, and the closure was called with just the
  -- places that the call has cleared so far, all below its present word.
  pub record SoFar (base v : View ℕ) (c : Emptying) (m : OneWord) (f : F) : Type 0 where
    pub places : List ℕ
    pub call : WroteSoFar Flags cap (λ p. map (cleared_by p) places) base v c m
    pub ascend : Ascends cap places
    pub below : All (λ x. x < first_place c.word) places
    pub folds : FoldsTo R visit places f

  -- as the call begins nothing is cleared, and the closure was not called
  pub first_so_far : (v : View ℕ) → IsIdle cap v → 0 < cap → SoFar v v (all_bits cap) fresh visit
  first_so_far v idle some =
      record {
        places = [];
        call = first_wrote Flags cap v idle some;
        ascend = ((λ i j d lt within. absurd (omega arith)), All-nil (λ x. x < cap));
        below = All-nil (λ x. x < first_place 1);
        folds = refl;
      }

-- The call began at base and stands at c at v with room m, f is the closure; its step came to `a` with this room, and w is
-- what the pass knows then.
module _ {F : Type 0} {R : F → ℕ → F → Type 0} {cap : ℕ} {visit : F} {base v w : View ℕ} {c : Emptying} {m room : OneWord} {f : F}
    {a : After Emptying (Unit {0})} (h : SoFar R cap visit base v c m f) (step : TookStep Flags v w c m room a)
  where
    -- The step emptied its word, in a machine of a bit set.
    its_step : Stepped Flags v w c.word room
    its_step = stepped Flags step.n h.call.at a step.goes_so step.told

    -- The first word has no flags, so the step was at a later one.
    low : 1 ≤ c.word
    low = (words_left Flags h.call).1

    -- a flag that was found is of a place below the capacity
    place_within : (place : ℕ) → first_place c.word ≤ place → place < first_place c.word + 64 → has_flag room.0 place ≡ true → place < cap
    place_within place from to stood =
        ⊎_elim (λ l. l)
        (λ past. absurd
        (true≢false (sym stood ∙ found_clear low its_step (same_capacity Flags base v c m h.call.at ∙ h.call.size) place
        (let above = low in let is : element_of place ≡ c.word = omega arith in is) past)))
        (cases_lt place cap)

    -- the closure may be called with each place of the word that was just cleared
    pub may_visit : {pre : F → ℕ → Type 0} → TakesPlaces pre R cap visit → (k : ℕ) (now : F) → k < 64
        → has_flag room.0 (first_place c.word + k) ≡ true → Visited R room.0 (first_place c.word) f k now
        → pre now (first_place c.word + k)
    may_visit {pre} takes k now few stood visited =
        let first = first_place c.word in
        let ys = filter (λ place. has_flag room.0 place) (range_with_len first k) in
        takes.at (h.places ++ ys) now (first + k) (folds_more R h.places ys visit f now h.folds visited)
        (ascends_more cap first h.places ys h.ascend h.below (rise_some (λ place. has_flag room.0 place) first first k (omega arith))
        (kept_all (λ y. y < cap) (λ place. has_flag room.0 place) first k (λ p from to t. place_within p from (omega arith) t)))
        (All-append (λ x. x < first + k) h.places ys (All-weaker (λ x. x < first) (λ x. x < first + k) (λ x l. omega arith) h.places h.below)
        (kept_all (λ y. y < first + k) (λ place. has_flag room.0 place) first k (λ p from to t. to)))
        (place_within (first + k) (omega arith) (omega arith) stood)

    -- A reset that has ended took at most one step for each word of the set.
    pub cleared_steps : a ≡ Done tt → TakesAtMost (elements cap) base w
    cleared_steps is =
        let left = words_left Flags h.call in
        let most = left.0 in
        let above = left.1 in
        let below = left.2 in
        let all = ends_all Flags h.call step is in
        bits_take h.call.idle h.call.size all.0 (omega arith)

    -- The places that were cleared, with those of this word.
    abbrev all_places : List ℕ
    all_places = h.places ++ places_in c.word room.0

    -- These places ascend below the capacity.
    up : Ascends cap all_places
    up =
        ascends_more cap (first_place c.word) h.places (places_in c.word room.0) h.ascend h.below (places_rise c.word room.0)
        (kept_all (λ y. y < cap) (λ place. has_flag room.0 place) (first_place c.word) 64 (λ p from to t. place_within p from to t))

    -- The events that clear the places of this word come behind those of the places before.
    same_events : (p : ℕ) → map (cleared_by p) h.places ++ clear_events p c.word room.0 ≡ map (cleared_by p) all_places
    same_events p = sym (map-append (cleared_by p) h.places (places_in c.word room.0))

    module _ (g : F) (visited : Visited R room.0 (first_place c.word) f 64 g) where
      -- The closure was called with all of them, and became g.
      all_folds : FoldsTo R visit all_places g
      all_folds = folds_more R h.places (places_in c.word room.0) visit f g h.folds visited

      -- where the call goes on to its next word, `SoFar` holds with the places that it has just cleared
      pub so_far_on : {next : Emptying} → a ≡ GoOn next → SoFar R cap visit base w next room g
      so_far_on {next} is =
          let word : next.word ≡ c.word + 1 = ap (λ (z : Emptying). z.word) (goes_next c step.n next (step.goes_so ∙ is)).0 in
          record {
            places = all_places;
            call =
                subst (λ z. WroteSoFar Flags cap z base w next room) (λ i p. same_events p i)
                (wrote_on Flags h.call step is);
            ascend = up;
            below = (
                let above = low in
                let far : first_place c.word + 64 ≡ first_place next.word = omega arith in
                All-append (λ x. x < first_place next.word) h.places (places_in c.word room.0)
                (All-weaker (λ x. x < first_place c.word) (λ x. x < first_place next.word) (λ x l. omega arith) h.places h.below)
                (kept_all (λ y. y < first_place next.word) (λ place. has_flag room.0 place) (first_place c.word) 64 (λ p from to t. omega arith)));
            folds = all_folds;
          }

      -- where the call ends, it has cleared just the places that the closure was called with, in
      -- ascending order
      pub cleared_all : a ≡ Done tt → HasCleanedOut R cap visit g base w × HasDone kinds.Bits base w
      cleared_all is =
          let all = wrote_all Flags h.call step is in (
            record {
              places = all_places;
              ascend = up;
              calls = all_folds;
              made = subst (λ z. HasMade emptying answers.Done z base w) (λ i p. same_events p i) all.0;
            },
            all.1,
          )

-- nothing that stood was missed
missed_none : (cap : ℕ) (base w : View ℕ) (wrote : ℕ → List (Event ℕ)) → base.capacity ≡ cap → HasDone kinds.Bits base w
    → HasMade emptying answers.Done wrote base w → MissedNoPlace cap w
missed_none cap base w wrote size over made =
    record {
      by = made.by;
      before = before_end made.called;
      is = to_end made.called;
      cleared = subst (λ n. SinceBegin made.by (HasCleared n) (before_end made.called)) size (bits_answer over.history made.called);
    }

-- where there is no place, nothing is cleared and the closure is not called
cleared_none : {F : Type 0} (R : F → ℕ → F → Type 0) (visit : F) (base w : View ℕ)
    → HasMade emptying answers.Done (λ by. []) base w → HasCleanedOut R 0 visit visit base w
cleared_none R visit base w made =
    record {
      places = [];
      ascend = ((λ i j d lt within. absurd (omega arith)), All-nil (λ x. x < 0));
      calls = refl;
      made = made;
    }

module _ {F : Type 0} {R : F → ℕ → F → Type 0} {visit : F} {base w : View ℕ} {capacity : ℕ} (size : base.capacity ≡ capacity)
    (done : HasDone kinds.Bits base w) where
  -- A reset that has cleaned out the set has done what `ResetAllDone` says.
  pub reset_all : {cap : ℕ} {visited : F} → cap ≡ capacity → HasCleanedOut R cap visit visited base w → ResetAllDone R capacity visit visited base w
  reset_all {visited = visited} same made =
      let all = subst (λ n. HasCleanedOut R n visit visited base w) same made in
      record { cleared = all; stood = missed_none capacity base w _ size done all.made }

  -- A reset of a set without places has done what `ResetAllDone` says, with no place.
  pub reset_none : 0 ≡ capacity → HasMade emptying answers.Done (λ by. []) base w → ResetAllDone R capacity visit visit base w
  reset_none none made = reset_all none (cleared_none R visit base w made)
