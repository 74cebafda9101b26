-- Resetting the next place: a call of the model, and what it answers.
use Rattle.lock_free_sets.proofs.Names.{◌≡◌, ℕ, ◌+◌, ◌<◌, ◌≤◌, ◌==◌, nat_lt, Bool, true, false, Option, Some, None}
use Rattle.lock_free_sets.proofs.Names.{IfSome, List, [], ◌++◌, refl, sym, ap, subst, arith, nat_tests, by_test}
use Rattle.lock_free_sets.proofs.Names.{element_of, elements, has_flag, Ask, After, Event, Bits}
use Rattle.lock_free_sets.proofs.Names.{one_word, after_of, answered, View}
use Rattle.lock_free_sets.proofs.Names.{At, Ends, goes, Driven, IsCallBy, KeepsEnds, keeps_to_end}
use Rattle.steps.specs.Queues.Ring.{after_position}
use Rattle.steps.specs.Bits.BitSet.{first_reset, place_after, at_most, reset_asks, reset_want, reset_comes_to, reset_tests, reset_takes, reset_after}
use Rattle.steps.specs.Bits.Words.{without_flag}
use Rattle.steps.specs.declared.ask.Op.TheVariants.{Load, Store, Exchange}
use Rattle.steps.specs.declared.ask.After.TheVariants.{GoOn, Done}
use Rattle.steps.specs.declared.ask.Want.TheVariants as wants
use Rattle.steps.specs.declared.bits.bit_set.ResetNext.{ResetNext as Resetting}
use Rattle.steps.specs.declared.bits.bit_set.ResetNextStage.{ResetNextStage}
use Rattle.steps.specs.declared.bits.bit_set.ResetNextStage.TheVariants as resets
use Rattle.model.specs.declared.turn.Kind.TheVariants as kinds
use Rattle.history_bits.proofs.Sets.{bits_starts, set_effects}
use Rattle.lock_free_sets.specs.Driven.{IsIdle}
use Rattle.lock_free_sets.specs.Sets.Kinds.{Flags, words_of}
use Rattle.lock_free_sets.specs.Bits.Stages.{ResetStands, reset_so_far, reset_wrote, IsPlace, resets_next}
use Rattle.lock_free_sets.specs.Bits.Contracts.{HasReset, AllClearOnce, CameFromPosition, ResetDone, ResetNothing}
use Rattle.lock_free_sets.proofs.Sets.Machines.{machines}
use Rattle.lock_free_sets.proofs.Ends.{made_by, before_end, to_end}
use Rattle.lock_free_sets.proofs.Sets.Answered.{bits_answer}

-- A place that the scan comes to is below the capacity.
place_below : (cap start passed : ℕ) → start ≤ cap → passed < cap → place_after cap start passed < cap
place_below cap start passed start_up_to_cap passed_below_cap = grind (arith, by_test, nat_lt, nat_tests)

-- The position where the scan begins is at most the capacity.
at_most_below : (cap position : ℕ) → at_most cap position ≤ cap
at_most_below cap position = grind (arith, by_test, nat_lt, nat_tests)

-- The reset in a set of this capacity, at this stage.
abbrev at_stage : ℕ → ResetNextStage → Resetting
at_stage cap stage = record { capacity = cap; stage = stage }

-- ---- how it goes on

-- where it goes on it stands, and it has written this
abbrev Stands : ℕ → ℕ → After Resetting (Option ℕ) → List (Event ℕ) → Type 0
Stands cap p (GoOn d) es = (d.capacity ≡ cap) × ResetStands cap d.stage × (es ≡ reset_so_far p d.stage)
Stands cap p (Done o) es = IsPlace cap o × (es ≡ reset_wrote p o)

-- A reset that comes to a next place stands at a stage that there is, and has written nothing.
comes_to : (cap p start passed : ℕ) (from : ResetNextStage) → start ≤ cap → Stands cap p (reset_comes_to (at_stage cap from) start passed) []
comes_to cap p start passed from start_up_to_cap = grind (arith, by_test, nat_lt, nat_tests)

-- A test of the flag leaves the reset at a stage that there is, and writes nothing.
tests : (cap p start passed k : ℕ) (from : ResetNextStage) → start ≤ cap → passed < cap → Stands cap p (reset_tests (at_stage cap from) start passed k) []
tests cap p start passed k from start_up_to_cap passed_below_cap = grind (arith, by_test, has_flag, place_after, reset_comes_to, comes_to)

-- what a step makes of what the call had written
takes : (cap p n : ℕ) (m : Unit {0}) (stage : ResetNextStage) → ResetStands cap stage
    → Stands cap p (reset_after (at_stage cap stage) n)
    (reset_so_far p stage ++ set_effects p (resets_next.flight (at_stage cap stage) m) n)
takes cap p n m resets.LoadsPosition reset_stands = comes_to cap p (at_most cap n) 0 resets.LoadsPosition (at_most_below cap n)
takes cap p n m (resets.LoadsElement start passed) reset_stands = tests cap p start passed n (resets.LoadsElement start passed) reset_stands.0 reset_stands.1
takes cap p n m (resets.ExchangesElement start passed found) reset_stands = go (n == found) refl
  where
    -- after an exchange, which found what it expected or not, the call stands at a place below the
    -- capacity, and what it has written is right
    go : (b : Bool) → (n == found) ≡ b
        → Stands cap p (reset_after (at_stage cap (resets.ExchangesElement start passed found)) n)
        ([] ++ set_effects p (resets_next.flight (at_stage cap (resets.ExchangesElement start passed found)) m) n)
    go true t = rw t (refl, place_below cap start passed reset_stands.0 reset_stands.1, refl)
    go false t = rw t (tests cap p start passed n (resets.ExchangesElement start passed found) reset_stands.0 reset_stands.1)
takes cap p n m (resets.StoresPosition place) reset_stands = (reset_stands, refl)

-- Where a reset goes on it stands at a stage that there is, and what it wrote so far fits that stage.
stands_on : (cap p n : ℕ) (m : Unit {0}) (c : Resetting) → (c.capacity ≡ cap) × ResetStands cap c.stage
    → Stands cap p (reset_after c n) (reset_so_far p c.stage ++ set_effects p (resets_next.flight c m) n)
stands_on cap p n m c both = grind (arith, reset_after, reset_so_far, set_effects, resets_next, takes)

-- ---- it is a call of the model

-- the model's call goes on, or ends, as this call does after the answer n
abbrev Goes : Resetting → Unit {0} → ℕ → After Resetting (Option ℕ) → Type 0
Goes c m n a = after_of one_word ((resets_next {T = ℕ}).flight c m) n ≡ goes resets_next a m

-- The model's call goes on after each number that a step finds just as that of `steps`.
same_after : (c : Resetting) (m : Unit {0}) (n : ℕ) → Goes c m n (reset_after c n)
same_after c m n = go (reset_after c n) refl
  where
    -- the cases are whether the reset goes on or has ended
    go : (a : After Resetting (Option ℕ)) → reset_after c n ≡ a → Goes c m n a
    go (GoOn d) e = rw e refl
    go (Done o) e = rw e refl

-- The call asks for a word of the set at each of its stages.
asks : (cap : ℕ) (c : Resetting) → (c.capacity ≡ cap) × ResetStands cap c.stage → (a : Ask) × (a.word < 1 + elements cap) × (reset_want c ≡ wants.Ask a)
asks cap c h = subst (λ k. (a : Ask) × (a.word < 1 + elements cap) × (reset_asks k c.stage ≡ wants.Ask a)) (sym h.0) (at c.stage h.1)
  where
    near : (place : ℕ) → place < cap → element_of place < 1 + elements cap
    near place below = omega arith

    -- at each of its stages the call asks for a word of the set
    at : (stage : ResetNextStage) → ResetStands cap stage → (a : Ask) × (a.word < 1 + elements cap) × (reset_asks cap stage ≡ wants.Ask a)
    at resets.LoadsPosition reset_stands = (record { word = 0; op = Load }, omega arith, refl)
    at (resets.LoadsElement start passed) reset_stands = (
      record { word = element_of (place_after cap start passed); op = Load },
      near (place_after cap start passed) (place_below cap start passed reset_stands.0 reset_stands.1),
      refl,
    )
    at (resets.ExchangesElement start passed found) s = (
      record { word = element_of (place_after cap start passed); op = Exchange found (without_flag found (place_after cap start passed)) },
      near (place_after cap start passed) (place_below cap start passed s.0 s.1),
      refl,
    )
    at (resets.StoresPosition place) s = (record { word = 0; op = Store (after_position place) }, omega arith, refl)

-- a load and an exchange tell what they found, and a store is heard by nobody
hears : (c : Resetting) (a : Ask) (n : ℕ) → reset_want c ≡ wants.Ask a → reset_after c (answered a.op n) ≡ reset_after c n
hears c a n e = at c.stage e
  where
    -- at each of its stages the call goes on after what it is handed as after what its word had
    at : (stage : ResetNextStage) → reset_asks c.capacity stage ≡ wants.Ask a → reset_takes c stage (answered a.op n) ≡ reset_takes c stage n
    at resets.LoadsPosition w =
        let same : record { word = 0; op = Load } ≡ a = cc in
        ap (λ (z : Ask). reset_takes c resets.LoadsPosition (answered z.op n)) (sym same)
    at (resets.LoadsElement start passed) w =
        let same : record { word = element_of (place_after c.capacity start passed); op = Load } ≡ a = cc in
        ap (λ (z : Ask). reset_takes c (resets.LoadsElement start passed) (answered z.op n)) (sym same)
    at (resets.ExchangesElement start passed found) w =
        let same : record {
          word = element_of (place_after c.capacity start passed);
          op = Exchange found (without_flag found (place_after c.capacity start passed));
        } ≡ a =
        cc in
        ap (λ (z : Ask). reset_takes c (resets.ExchangesElement start passed found) (answered z.op n)) (sym same)
    at (resets.StoresPosition place) w = refl

-- how a `reset_next` is driven
abbrev driven : Driven ℕ Resetting (Unit {0}) (Option ℕ)
driven = record { want = reset_want; after = reset_after; kept = λ c m n. m; call = resets_next }

-- A `reset_next` is a call of the model.
is_call : IsCallBy one_word set_effects (words_of Flags) driven
is_call = grind (arith, same_after, hears, reset_so_far, set_effects, resets_next, stands_on, asks)

-- each step of a reset keeps the rule of the table, and tells what is known after it
pub next_keeps : KeepsEnds one_word kinds.Bits (words_of Flags) driven
next_keeps = keeps_to_end (machines Flags) driven is_call (λ c n. refl)

-- A `reset_next` is about to begin.
pub next_first : (v : View ℕ) (m : Unit {0}) → IsIdle v.capacity v → At one_word kinds.Bits resets_next v v (first_reset v.capacity) m
next_first v m idle = grind (arith, bits_starts, one_word, resets_next, first_reset)

-- base and w are what the pass knew before the call and after it, o is the place that it answers
module _ {base w : View ℕ} {o : Option ℕ} {m : Unit {0}} (idle : base.going ≡ None) (ends : Ends one_word kinds.Bits resets_next base o m w) where
  -- The reset is a call of the history, which cleared the place that it answers.
  cleared : HasReset o base w
  cleared = made_by ends idle (λ by. reset_wrote by o) (ends.tells.1 idle)

  -- A place that `reset_next` answers is below the capacity.
  place_in : IfSome o (λ place. place < base.capacity)
  place_in = go o ends.tells.0
    where
      -- the cases are whether the reset found a place
      go : (x : Option ℕ) → IsPlace base.capacity x → IfSome x (λ place. place < base.capacity)
      go None place = tt
      go (Some place) is_place = is_place

  -- where a reset found none, each place was clear at some moment of the call
  all_clear : o ≡ None → AllClearOnce base.capacity w
  all_clear none =
      let made : HasReset None base w = subst (λ z. HasReset z base w) none cleared in
      record { by = made.by; before = before_end made.called; is = to_end made.called; clear = bits_answer ends.history made.called }

  -- where a reset found a place, it came to this place from where the reset position stood at a
  -- moment of the call
  came_from : (place : ℕ) → o ≡ Some place → CameFromPosition base.capacity place w
  came_from place some =
      let made : HasReset (Some place) base w = subst (λ z. HasReset z base w) some cleared in
      record { by = made.by; before = before_end made.called; is = to_end made.called; came = bits_answer ends.history made.called }

  module _ {capacity : ℕ} (size : base.capacity ≡ capacity) where
    -- a reset that found a place has cleared it, it lies below the capacity, and the call came to
    -- it from the reset position
    pub found_place : (place : ℕ) → o ≡ Some place → ResetDone capacity place base w
    found_place place some =
        subst (λ n. ResetDone n place base w) size
        (record {
          place = subst (λ z. IfSome z (λ found. found < base.capacity)) some place_in;
          cleared = subst (λ z. HasReset z base w) some cleared;
          came = came_from place some;
        })

    -- A reset that found nothing has met each place clear at some moment.
    pub found_nothing : o ≡ None → ResetNothing capacity base w
    found_nothing none =
        subst (λ n. ResetNothing n base w) size (record { cleared = subst (λ z. HasReset z base w) none cleared; clear = all_clear none })
