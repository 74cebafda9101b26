-- The call that empties a set: a call of the model, a word at each step.
use Rattle.lock_free_sets.proofs.Names.{◌≡◌, ℕ, ◌+◌, ◌<◌, ◌≤◌, nat_lt, Bool, true, false, Option, Some}
use Rattle.lock_free_sets.proofs.Names.{None, IfSome, [], ◌++◌, map, refl, ap, subst, ◌∙◌, arith, nat_tests}
use Rattle.lock_free_sets.proofs.Names.{by_test, elements, Ask, Emptying, OneWord, Event, Cleared, Bits, ResetAll}
use Rattle.lock_free_sets.proofs.Names.{one_word, Trace, after_of, opening_of, first_of, fresh, answered}
use Rattle.lock_free_sets.proofs.Names.{View, IsMachine, Calling, At, Ends, goes, OwesAsk, Driven, IsCallBy, KeepsEnds, keeps_to_end}
use Rattle.std.specs.List.{sum_by}
use Rattle.steps.specs.Bits.ResetAll.{reset_all_want, reset_all_after, reset_all_kept}
use Rattle.steps.specs.declared.ask.Op.TheVariants.{Load, Swap}
use Rattle.steps.specs.declared.ask.After.TheVariants.{GoOn, Done}
use Rattle.steps.specs.declared.ask.Want.{Want}
use Rattle.steps.specs.declared.ask.Want.TheVariants as wants
use Rattle.model.specs.Rows.{first_row}
use Rattle.model.specs.Families.{want_of, begin_rows}
use Rattle.laws_bits.proofs.Bits.Lists.{no_places}
use Rattle.history.specs.History.{IsRun}
use Rattle.history.specs.Known.{owned}
use Rattle.history.specs.Stages.{Starts, IsFirst}
use Rattle.history.proofs.CallsIn.{OwnStep, each_tells, last_tells}
use Rattle.history.proofs.Drives.{NeverPushes}
use Rattle.history_bits.proofs.Sets.{bits_starts, counts_starts, set_effects}
use Rattle.lock_free_sets.specs.Driven.{IsIdle}
use Rattle.lock_free_sets.specs.Sets.Kinds.{SetKind, Flags, Counts, machine_kind, first_word, words_of}
use Rattle.lock_free_sets.specs.Sets.Stages.{all_words, word_of, flight_at, emptied, empties, empties_none}
use Rattle.lock_free_sets.proofs.Sets.AtOnce.{owes_once}
use Rattle.lock_free_sets.proofs.Sets.Machines.{machines}

-- ---- how it goes on

module _ (c : Emptying) (n : ℕ) where
  -- A step that goes on leads to the next word, which lies before the end.
  pub goes_next : (d : Emptying) → reset_all_after c n ≡ GoOn d → (d ≡ record { word = c.word + 1; end = c.end }) × (d.word < d.end)
  goes_next d = grind (arith, by_test, nat_lt, nat_tests)

  -- A step that ends the call was at the last word.
  pub ends_last : (end : Unit {0}) → reset_all_after c n ≡ Done end → c.end ≤ c.word + 1
  ends_last end = grind (arith, by_test, nat_lt, nat_tests)

-- At a word before the end the call asks for a swap of this word with 0.
wants_word : (c : Emptying) → c.word < c.end → reset_all_want c ≡ wants.Ask (record { word = c.word; op = Swap 0 })
wants_word c less = let t : nat_lt c.word c.end ≡ true = grind (arith, nat_tests) in rw t refl

-- The call goes on, and fills its room, after what the driver hands back just as after the number that
-- the word had.
hears_word : (c : Emptying) (m : OneWord) (a : Ask) (n : ℕ) → reset_all_want c ≡ wants.Ask a
    → (reset_all_after c (answered a.op n) ≡ reset_all_after c n) × (reset_all_kept m (answered a.op n) ≡ reset_all_kept m n)
hears_word c m a n e = go (nat_lt c.word c.end) refl
  where
    -- the call goes on after what it is handed as after what its word had, whether its word is one
    -- of the set or not
    go : (b : Bool) → nat_lt c.word c.end ≡ b
        → (reset_all_after c (answered a.op n) ≡ reset_all_after c n) × (reset_all_kept m (answered a.op n) ≡ reset_all_kept m n)
    go true t =
        let asks : wants.Ask (record { word = c.word; op = Swap 0 }) ≡ wants.Ask a = rw t at e in
        let same : record { word = c.word; op = Swap 0 } ≡ a = cc in
        subst (λ (z : Ask). (reset_all_after c (answered z.op n) ≡ reset_all_after c n)
        × (reset_all_kept m (answered z.op n) ≡ reset_all_kept m n))
        same (refl, refl)
    go false t =
        let asks : ◌≡◌ {A = Want (Unit {0})} wants.Nothing (wants.Ask a) = rw t at e in
        absurd (cc)

-- ---- it is a call of the model, of either kind

-- The model's call asks for what that of `steps` asks for.
same_want : (kind : SetKind) (c : Emptying) (m : OneWord) → want_of one_word (flight_at {T = ℕ} kind c m) ≡ reset_all_want c
same_want Flags c m = refl
same_want Counts c m = refl

-- The model's call goes on after each number that a step finds just as that of `steps`,
-- for both kinds of sets.
same_after : (kind : SetKind) (c : Emptying) (m : OneWord) (n : ℕ)
    → after_of one_word (flight_at {T = ℕ} kind c m) n ≡ goes (empties kind) (reset_all_after c n) (reset_all_kept m n)
same_after kind c m n = go kind (nat_lt (c.word + 1) c.end) refl
  where
    -- the model's call goes on as that of `steps`, whether a word follows or not
    go : (k : SetKind) (b : Bool) → nat_lt (c.word + 1) c.end ≡ b
        → after_of one_word (flight_at {T = ℕ} k c m) n ≡ goes (empties k) (reset_all_after c n) (reset_all_kept m n)
    go Flags true t = rw t refl
    go Flags false t = rw t refl
    go Counts true t = rw t refl
    go Counts false t = rw t refl

-- What a step of the model's call writes is what emptying its word writes.
same_effects : (kind : SetKind) (p : ℕ) (c : Emptying) (m : OneWord) (n : ℕ) → set_effects {T = ℕ} p (flight_at kind c m) n ≡ emptied kind p c.word n
same_effects Flags p c m n = refl
same_effects Counts p c m n = refl

-- The call pushes nothing into a queue.
never : (kind : SetKind) → NeverPushes (flight_at {T = ℕ} kind)
never Flags c m n = tt
never Counts c m n = tt

module _ (kind : SetKind) where
  -- how the call that empties a set is driven
  abbrev driven : Driven ℕ Emptying OneWord (Unit {0})
  driven = record { want = reset_all_want; after = reset_all_after; kept = λ c m n. reset_all_kept m n; call = empties kind }

  -- emptying a set of either kind is a call of the model
  is_call : IsCallBy one_word set_effects (words_of kind) driven
  is_call =
      record {
        same_want = same_want kind;
        same_after = λ capacity c m n h. same_after kind c m n;
        hears = hears_word;
        -- A step that goes on leads to the next word of the set.
        stays = λ capacity c d n stands e. (
            let next = goes_next c n d e in
            let word : d.word ≡ c.word + 1 = ap (λ (z : Emptying). z.word) next.0 in
            let end : d.end ≡ c.end = ap (λ (z : Emptying). z.end) next.0 in
            let low = stands.1 in
            (end ∙ stands.0, omega arith, next.1));
        asks = λ capacity c stands. (record { word = c.word; op = Swap 0 }, subst (λ z. c.word < z) stands.0 stands.2, wants_word c stands.2);
        past = λ capacity c d n k h e. refl;
        finds = λ c m n small t. never kind c m n;
        leaves = λ c a n t e. absurd (cc);
        -- What was written is told of one step: the one at the word at which the pass saw the call last.
        tells =
            each_tells set_effects driven
            (λ step d e. (
            let next = goes_next step.c step.n d e in
            let word : d.word ≡ step.c.word + 1 = ap (λ (z : Emptying). z.word) next.0 in
            let low : word_of (first_word kind) step.from ≤ step.c.word = step.wrote.0 in (
              omega arith,
              λ is. absurd (omega arith),
              λ is. let here : step.c.word ≡ word_of (first_word kind) step.from = omega arith in all_of step here (step.wrote.1 here),
            )));
        tells_all =
            last_tells set_effects driven
            (λ step e skip is last. (
            let far = ends_last step.c step.n e is in
            let within = step.stands.2 in
            let end : step.c.end ≡ words_of kind step.capacity = step.stands.0 in
            let here : step.c.word ≡ word_of (first_word kind) step.from = omega arith in
            all_of step here (step.wrote.1 here)));
      }
    where
      -- what the step on the word at which the call stood wrote, behind nothing, is what
      -- emptying this word writes
      all_of : (step : OwnStep (empties {T = ℕ} kind)) → step.c.word ≡ word_of (first_word kind) step.from → step.es ≡ []
          → step.es ++ set_effects step.p (flight_at kind step.c step.m) step.n ≡ emptied kind step.p (word_of (first_word kind) step.from) step.n
      all_of step here none =
          ap (λ zs. zs ++ set_effects step.p (flight_at kind step.c step.m) step.n) none
          ∙ (same_effects kind step.p step.c step.m step.n ∙ ap (λ z. emptied kind step.p z step.n) here)

  -- each step of the call that empties a set keeps the rule of the table, and tells what is known
  -- after it
  pub keeps : KeepsEnds one_word (machine_kind kind) (words_of kind) driven
  keeps = keeps_to_end (machines kind) driven is_call (λ c n. refl)

-- ---- its begin

-- The machine begins the call at its first word, as the driver does.
pub begins : (kind : SetKind) (n : ℕ)
    → first_of (machine_kind kind) n (Bits ResetAll) ((opening_of (machine_kind kind)).kept n) ≡ Some (flight_at {T = ℕ} kind (all_words kind n) fresh)
begins Flags n = refl
begins Counts n = refl

-- The call is never refused.
may : (kind : SetKind) (n p : ℕ)
    → first_row (begin_rows {T = ℕ} (machine_kind kind) n ((opening_of (machine_kind kind)).kept n) p (Bits ResetAll)) ≡ None
may Flags n p = refl
may Counts n p = refl

-- At its begin, in a set with places, the call stands at a word that has places.
stands_first : (kind : SetKind) (n : ℕ) → 0 < n
    → ((all_words kind n).end ≡ words_of kind n) × (first_word kind ≤ (all_words kind n).word) × ((all_words kind n).word < (all_words kind n).end)
stands_first kind n n_positive = grind (arith, elements)

-- Before its first step the call has written nothing.
wrote_first : (kind : SetKind) (n p : ℕ) → (empties {T = ℕ} kind).wrote n p None (all_words kind n) fresh []
wrote_first kind n p = grind arith

-- The call may begin at any time, by the party that the pass was last.
starts : (kind : SetKind) (call : Calling ℕ Emptying OneWord (Unit {0})) (v : View ℕ) (c : Emptying) (m : OneWord)
    → ((o : Option ℕ) (p : ℕ) → IfSome o (λ q. q ≡ p) → call.by o p)
    → first_of (machine_kind kind) v.capacity call.start ((opening_of (machine_kind kind)).kept v.capacity) ≡ Some (call.flight c m)
    → ((p : ℕ) → first_row (begin_rows (machine_kind kind) v.capacity ((opening_of (machine_kind kind)).kept v.capacity) p call.start) ≡ None)
    → (t : Trace ℕ) (owner : ℕ → ℕ) (j : ℕ) → IsRun one_word (machine_kind kind) v.capacity t → owner j ≡ j
    → IfSome v.party (λ p. owner p ≡ j)
    → ((f : Event ℕ → ℕ) → sum_by f v.made ≡ sum_by (owned owner j f) t.events)
    → Starts one_word (machine_kind kind) call v c m t owner j
starts Flags = bits_starts one_word
starts Counts = counts_starts one_word

module _ (kind : SetKind) (v : View ℕ) (idle : IsIdle v.capacity v) where
  -- In a set with places the call is about to begin at its first word.
  pub first_at : 0 < v.capacity → At one_word (machine_kind kind) (empties kind) v v (all_words kind v.capacity) fresh
  first_at capacity_positive = grind (arith, stands_first, begins, starts, empties, all_words, fresh, may, wrote_first)

  -- ---- a set of no place

  -- In a set without places the call is about to begin and has no word.
  none_first : IsFirst one_word (machine_kind kind) (empties_none kind) v v (all_words kind v.capacity) fresh
  none_first = grind (arith, begins, starts, empties_none, all_words, fresh, may)

  -- as what a seat owes for it
  pub owes_none : v.capacity ≡ 0 → (words slots id word : ℕ) → word < words
      → OwesAsk (λ (z : View ℕ). z.asked) (IsMachine one_word (machine_kind kind) v.capacity) words slots id
      (λ u n w. Ends one_word (machine_kind kind) (empties_none kind) u tt (record { 0 = 0 }) w) word Load (v, [])
  owes_none none =
      owes_once (machines kind) (empties_none kind) v
      (all_words kind v.capacity) fresh fresh tt none_first (asks_none kind) (never kind)
      (ends_so kind) (writes_none kind) (λ p wrote h. h)
    where
      -- on a set of no place the call asks for no word
      asks_none : (k : SetKind) → want_of one_word (flight_at {T = ℕ} k (all_words k v.capacity) fresh) ≡ wants.Nothing
      asks_none Flags =
          let few : elements v.capacity ≡ 0 = omega arith in
          let t : nat_lt 1 (1 + elements v.capacity) ≡ false = grind (arith, nat_tests) in
          rw t refl
      asks_none Counts = let t : nat_lt 0 v.capacity ≡ false = grind (arith, nat_tests) in rw t refl

      -- on a set of no place the call ends with its first step
      ends_so : (k : SetKind) → after_of one_word (flight_at {T = ℕ} k (all_words k v.capacity) fresh) 0 ≡ Done ((empties_none k).answer tt fresh)
      ends_so Flags =
          let few : elements v.capacity ≡ 0 = omega arith in
          let t : nat_lt 2 (1 + elements v.capacity) ≡ false = grind (arith, nat_tests) in
          rw t refl
      ends_so Counts = let t : nat_lt 1 v.capacity ≡ false = grind (arith, nat_tests) in rw t refl

      -- In a set without places the call writes nothing.
      writes_none : (k : SetKind) (p : ℕ) → [] ++ set_effects {T = ℕ} p (flight_at k (all_words k v.capacity) fresh) 0 ≡ []
      writes_none Flags p = ap (map (λ b. Cleared p b)) (no_places 1)
      writes_none Counts p = refl
