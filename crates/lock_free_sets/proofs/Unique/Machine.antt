-- What is known of a set's history by its machine: once it is locked nobody holds an index; and where each call that was
-- begun has ended and a pass made all of it, what is in use is what that pass holds.
use Rattle.lock_free_sets.proofs.Names.{◌≡◌, ◌≢◌, ⊎_elim, ℕ, zero, suc, ◌+◌, ◌<◌, ◌≤◌, ◌==◌, Bool, true, false, Option, Some}
use Rattle.lock_free_sets.proofs.Names.{None, List, [], ◌∷◌, ◌++◌, length, fold, refl, sym, ap, subst, ◌∙◌, append_assoc}
use Rattle.lock_free_sets.proofs.Names.{append-nil, arith, cases_lt, nat_tests, fold-append, sum_by-cons}
use Rattle.lock_free_sets.proofs.Names.{Event, Claimed, Freed, one_word, Trace, claims, frees, View}
use Rattle.lock_free_sets.proofs.Names.{IsHistory, IsOfParties, held_by, holds_once}
use Rattle.std.proofs.Common.{sum_by}
use Rattle.std.proofs.lemmas.List.{get_or_past}
use Rattle.steps.specs.Indices.Head.{locked, says_locked}
use Rattle.model.specs.declared.families.Flight.{Flight}
use Rattle.model.specs.declared.turn.Kind.TheVariants as kinds
use Rattle.model.specs.Families.Indices.Promises.{HoldsRight}
use Rattle.model.specs.Families.Indices.Reading.{holder_after, holder_of, is_locked, Tally, tally_of}
use Rattle.model.specs.Parties.{party_of, doing_of, flight_of}
use Rattle.model.specs.Reading.{Each}
use Rattle.model.proofs.Frame as frame
use Rattle.laws_indices.proofs.Core.{head_of, counted_in, holder, one_held, held_below, none_if_zero}
use Rattle.laws_indices.proofs.Count.{counts_none}
use Rattle.laws_indices.proofs.Invariant.{Holds as OfSet, family, of_any, all_counted}
use Rattle.laws_indices.proofs.Knows.{takes, gives}
use Rattle.laws_indices.proofs.Sound.{reached_on_sound}
use Rattle.laws_indices.proofs.Stages.{same_tally}
use Rattle.laws_indices.proofs.Sums.{sum_below, sum_moved, sum_same, sum_one, sum_none}
use Rattle.laws_indices.proofs.Totals.{weight_of, weight_at, total}
use Rattle.lock_free_sets.specs.Unique.Held.{one_if, times, HeldBy}
use Rattle.lock_free_sets.specs.Whole.{begins, ends, IsDone}
use Rattle.lock_free_sets.proofs.Whole.Passed.{counted_as, goes_none}

-- ---- sums beside what a fold makes of the events

module _ {S : Type 0} (a b : Event ℕ → ℕ) (after : S → Event ℕ → S) (first : S) (weight : S → ℕ) where
  -- This event keeps the balance: its `a` and the weight before it sum up to its `b` and the weight after it.
  abbrev Moves : List (Event ℕ) → Event ℕ → Type 0
  Moves before e = a e + weight (fold after first before) ≡ b e + weight (after (fold after first before) e)

  -- If each of some events balances so (`Moves`), then over all of them the sum of `a` and the weight
  -- before are the sum of `b` and the weight after.
  adds : (before es : List (Event ℕ)) → Each Moves (before ++ es)
      → sum_by a es + weight (fold after first before) ≡ sum_by b es + weight (fold after first (before ++ es))
  adds before [] each =
      let same : weight (fold after first (before ++ [])) ≡ weight (fold after first before) =
      ap (λ xs. weight (fold after first xs)) (append-nil before) in
      omega arith
  adds before (e ∷ es) each =
      let here = each before es e refl in
      let longer_is : (before ++ e ∷ []) ++ es ≡ before ++ e ∷ es = append_assoc before (e ∷ []) es in
      let more = adds (before ++ e ∷ []) es (subst (Each Moves) (sym longer_is) each) in
      let last : weight (fold after first ((before ++ e ∷ []) ++ es)) ≡ weight (fold after first (before ++ e ∷ es)) =
      ap (λ xs. weight (fold after first xs)) longer_is in
      let next : weight (fold after first (before ++ e ∷ [])) ≡ weight (after (fold after first before) e) =
      ap weight (fold-append after first before (e ∷ [])) in
      let one = sum_by-cons a e es in
      let two = sum_by-cons b e es in
      omega arith

-- ---- an index is claimed once more than it is freed where it has a holder

module _ (c i : ℕ) (before : List (Event ℕ)) where
  -- Each event of the history keeps the balance of an index: its claims, and 1 if it had a holder, are
  -- its frees, and 1 if it has one then.
  moves : (e : Event ℕ) → HoldsRight c before e → claims i e + one_held (holder_of i before) ≡ frees i e + one_held (holder_after i (holder_of i before) e)
  moves (Claimed p index) h = go (index == i) refl
    where
      -- a claim of the index, or of another one, counts as much as it changes whether the index
      -- has a holder
      go : (b : Bool) → (index == i) ≡ b
          → claims {T = ℕ} i (Claimed p index) + one_held (holder_of i before)
          ≡ 0 + one_held (holder_after {T = ℕ} i (holder_of i before) (Claimed p index))
      go true t =
          let same : index ≡ i = grind (arith, nat_tests) in
          let none : one_held (holder_of i before) ≡ 0 = ap one_held (subst (λ n. holder_of n before ≡ None) same h.1) in
          rw t (omega arith)
      go false t = rw t refl
  moves (Freed p index) h = go (index == i) refl
    where
      -- a free of the index, or of another one, counts as much as it changes whether the index has
      -- a holder
      go : (b : Bool) → (index == i) ≡ b
          → 0 + one_held (holder_of i before)
          ≡ frees {T = ℕ} i (Freed p index) + one_held (holder_after {T = ℕ} i (holder_of i before) (Freed p index))
      go true t =
          let same : index ≡ i = grind (arith, nat_tests) in
          let some : one_held (holder_of i before) ≡ 1 = ap one_held (subst (λ n. holder_of n before ≡ Some p) same h) in
          rw t (omega arith)
      go false t = rw t (omega arith)
  moves e h = refl

-- ---- how long a list is whose numbers are below a bound

-- the length of a list of numbers below c is the sum, over the numbers below c, of how often each
-- stands in the list
pub length_is : (c : ℕ) (is : List ℕ) → ((i : ℕ) → c ≤ i → times i is ≡ 0) → sum_below (λ i. times i is) c ≡ length is
length_is c [] none = sum_none (λ i. times i []) c (λ i below. refl)
length_is c (x ∷ xs) none =
    -- The first number stands once more in the list than behind its head, and each other number as often.
    let here : times x (x ∷ xs) ≡ 1 + times x xs =
    (let t : (x == x) ≡ true = grind (arith, nat_tests) in
    let one : one_if x x ≡ 1 = rw t refl in
    let more = sum_by-cons (λ z. one_if z x) x xs in
    omega arith) in
    let below : x < c = ⊎_elim (λ less. less) (λ more. (let zero_is = none x more in absurd (omega arith))) (cases_lt x c) in
    let others : (i : ℕ) → i ≢ x → times i (x ∷ xs) ≡ times i xs =
    λ i ne. (let t : (x == i) ≡ false = grind (arith, nat_tests) in
    let none_is : one_if x i ≡ 0 = rw t refl in
    let more = sum_by-cons (λ z. one_if z i) x xs in
    omega arith) in
    -- So the sum for the rest grows by one.
    let rest = length_is c xs (λ i more. (let ne : i ≢ x = omega arith in sym (others i ne) ∙ none i more)) in
    let moved = sum_moved (λ i. times i (x ∷ xs)) (λ i. times i xs) c x below others in
    omega arith

-- A sum whose terms are each at most those of another is at most that sum.
sum_less : (f g : ℕ → ℕ) (n : ℕ) → ((i : ℕ) → f i ≤ g i) → sum_below f n ≤ sum_below g n
sum_less f g zero less = omega arith
sum_less f g (suc n) less = let here = less n in let rest = sum_less f g n less in omega arith

-- ---- the machine of a history

module _ (capacity : ℕ) (seen : List (Event ℕ)) (h : IsHistory one_word kinds.Indices capacity seen) where
  -- The trace of the history.
  abbrev t : Trace ℕ
  t = h.trace

  -- The capacity of the machine.
  abbrev c : ℕ
  c = t.world.capacity

  -- The laws of a unique index set, as a family of laws of the machine.
  abbrev of_set : frame.Family ℕ
  of_set = family t.world.coding c

  -- The machine of the history keeps the laws of unique index sets.
  machine : frame.Sound of_set t
  machine = reached_on_sound t h.run.of_kind h.run.reached

  -- Who holds each index, as the machine has it.
  abbrev hs : List (Option ℕ)
  hs = machine.state.holders

  -- The laws that the machine keeps.
  abbrev laws : OfSet c machine.state t.world.latest t.events
  laws = machine.holds

  -- Each claim of the history is of an index that nobody held, and each free is by its holder.
  pub holds_right : Each (HoldsRight c) seen
  holds_right = subst (Each (HoldsRight c)) (sym h.is) laws.holds

  -- The holder of an index in the history is the one that the machine has.
  holder_is : (i : ℕ) → holder_of i seen ≡ holder hs i
  holder_is i = ap (holder_of i) h.is ∙ laws.holders i

  -- nobody holds an index behind the last
  past : (i : ℕ) → c ≤ i → holder hs i ≡ None
  past i more = get_or_past hs i None (let long = laws.good.long in omega arith)

  -- An index that has a holder is below the capacity.
  pub held_within : (i p : ℕ) → holder_of i seen ≡ Some p → i < capacity
  held_within i p holder_of_is = grind (arith, past, holder_is, cases_lt)

  -- nobody holds one once the set is locked
  pub none_held : is_locked seen ≡ true → (i : ℕ) → holder_of i seen ≡ None
  none_held shut i =
      let says : says_locked (head_of machine.state.words) ≡ true = sym laws.lock ∙ (sym (ap is_locked h.is) ∙ shut) in
      let is : counted_in machine.state.words ≡ locked = grind (arith, nat_tests) in
      let none =
      counts_none c (counted_in machine.state.words)
      (held_below hs c + all_counted t.world.latest machine.state.seats) laws.good.few laws.good.tally is in
      holder_is i ∙ ⊎_elim
      (λ less. (let one = sum_one (λ j. one_held (holder hs j)) c i less in none_if_zero (holder hs i) (omega arith)))
      (past i)
      (cases_lt i c)

  -- an index is claimed once more than it is freed where it has a holder
  pub holder_counts : (i : ℕ) → sum_by (claims i) seen ≡ sum_by (frees i) seen + one_held (holder_of i seen)
  holder_counts i =
      let sums = adds (claims i) (frees i) (holder_after i) None one_held [] seen (λ before after e at. moves c i before e (holds_right before after e at)) in
      omega arith

  -- In a locked set no index has a holder.
  none_below : is_locked seen ≡ true → held_below hs c ≡ 0
  none_below shut = sum_none (λ i. one_held (holder hs i)) c (λ i below. ap one_held (sym (holder_is i) ∙ none_held shut i))

  -- The tally counts the indices that have a holder.
  counts_held : (tally_of seen).held ≡ held_below hs c
  counts_held = ap (λ (tally : Tally). tally.held) (ap tally_of h.is ∙ laws.tally)

  -- Of a pass that made all that happened, holds the indices `is`, and has no call under way.
  module _ (made : List (Event ℕ)) (all : (f : Event ℕ → ℕ) → sum_by f seen ≡ sum_by f made) (done : IsDone made) (is : List ℕ) (held : HeldBy is made) where
    -- no party has a call under way
    idle : (p : ℕ) → flight_of (doing_of (party_of p t.world.latest)) ≡ None
    idle p =
        let calls = (counted_as kinds.Indices t h.run.reached).calls p in
        let a = sym (all (begins p)) ∙ ap (sum_by (begins p)) h.is in
        let b = sym (all (ends p)) ∙ ap (sum_by (ends p)) h.is in
        let d = done p in
        goes_none (party_of p t.world.latest) (omega arith)

    -- No call of any sort is under way.
    none_under : (weight : Flight ℕ → ℕ) → total weight t.world.latest machine.state.seats ≡ 0
    none_under weight = sum_none (weight_at weight t.world.latest) machine.state.seats (λ p below. ap (weight_of weight) (idle p))

    -- An index stands in the list once just if it has a holder.
    times_is : (i : ℕ) → times i is ≡ one_held (holder hs i)
    times_is i = grind (arith, claims, frees, holder_counts, one_held, holder_is)

    -- As many indices have a holder as the list has.
    held_is : held_below hs c ≡ length is
    held_is =
        sum_same (λ i. one_held (holder hs i)) (λ i. times i is) c (λ i below. sym (times_is i))
        ∙ length_is c is (λ i more. times_is i ∙ ap one_held (past i more))

    -- the history's tally: as many indices are in use as the pass holds, and no acquire or
    -- release is under way
    pub tally_is : tally_of seen ≡ record { held = length is; taking = 0; giving = 0 }
    tally_is =
        ap tally_of h.is ∙ (laws.tally ∙ same_tally (held_below hs c) (length is) _ 0 _ 0 held_is (none_under (of_any takes)) (none_under (of_any gives)))

    -- The pass holds at most as many indices as the capacity.
    pub few : length is ≤ capacity
    few = grind (arith, held_below, all_counted, machine, held_is)

    -- Once the set is locked, the pass with the whole share holds no index.
    pub none_left : is_locked seen ≡ true → length is ≡ 0
    none_left shut =
        let none = none_below shut in
        let same = held_is in
        omega arith

-- ---- what one pass holds

module _ (capacity : ℕ) (v : View ℕ) (h : IsHistory one_word kinds.Indices capacity v.seen)
    (parties : IsOfParties v) (is : List ℕ) (held : HeldBy is v.made) where
  -- Who holds each index, as the machine of the history has it.
  abbrev holders : List (Option ℕ)
  holders = hs capacity v.seen h

  -- The capacity of the machine.
  abbrev size : ℕ
  size = h.trace.world.capacity

  -- An index stands in the list of what the pass holds once at most, and not at all if it has no holder.
  times_most : (i : ℕ) → times i is ≤ one_held (holder holders i)
  times_most i = ⊎_elim holds_it (λ less. (let a = held i in omega arith)) (cases_lt (sum_by (frees i) v.made) (sum_by (claims i) v.made))
    where
      -- an index that the pass claimed more often than it freed has a holder, and stands in the
      -- list once at most
      holds_it : sum_by (frees i) v.made < sum_by (claims i) v.made → times i is ≤ one_held (holder holders i)
      holds_it more =
          let right = holds_right capacity v.seen h in
          let most = (holds_once size i v right parties).1 in
          let by = held_by parties.owner parties.seat size i v.seen v.made right parties.sums (omega arith) in
          let one = ap one_held (sym (holder_is capacity v.seen h i) ∙ by.2) in
          let a = held i in
          omega arith

  -- The pass holds at most as many indices as have a holder in what it has seen.
  most_held : length is ≤ held_below holders size
  most_held =
      let less = sum_less (λ i. times i is) (λ i. one_held (holder holders i)) size times_most in
      let same = length_is size is (λ i more. (let few_is = times_most i in let none = ap one_held (past capacity v.seen h i more) in omega arith)) in
      omega arith

  -- no more than are held, and nothing once the set is locked
  pub own_few : (length is ≤ (tally_of v.seen).held) × (is_locked v.seen ≡ true → length is ≡ 0)
  own_few = grind (arith, most_held, counts_held, none_below)
