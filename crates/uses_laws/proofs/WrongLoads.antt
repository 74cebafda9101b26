-- What bounds of steps and of operations refuse: calls that do not end, a pass that asks for more than it may, and one whose run
-- is another one.
use Rattle.std.proofs.Common.{◌≡◌, ◌≤◌, ◌<◌, ℕ, ◌+◌, ◌-◌, ◌*◌, List, [], ◌∷◌, length, inl, refl, subst, arith}
use Rattle.model.specs.declared.event.Event.{Event}
use Rattle.model.specs.declared.event.Event.TheVariants.{Begun}
use Rattle.model.specs.declared.event.Start.{Start}
use Rattle.model.specs.declared.event.Start.TheVariants.{Robust}
use Rattle.model.specs.declared.families.indices.robust.RobustStart.TheVariants.{Acquire}
use Rattle.model.specs.declared.turn.Kind.{Kind}
use Rattle.model.specs.declared.turn.Kind.TheVariants as kinds
use Rattle.model.specs.declared.turn.Turn.{Turn}
use Rattle.model.specs.declared.turn.Turn.TheVariants.{Begin, Next}
use Rattle.model.specs.Fair.{turns_of, StepsInEach, RestsInOne}
use Rattle.model.specs.Loads.{begun, load}
use Rattle.model.specs.LockFree.{AreWithinEnds, Bound, default_bound, ends, steps_in}
use Rattle.model.specs.World.{opening}
use Rattle.lock_free.specs.Coding.{Coding, one_word}
use Rattle.lock_free.specs.History.{Continues, run_of}
use Rattle.lock_free.specs.HistoryView.View.{View}
use Rattle.headline_threads.specs.Ends.{steps_between}
use Rattle.uses_laws.specs.Runs.{AllWithin, EndsWithin, GoesOn, OwnersGoOn}
use Rattle.uses_laws.specs.Wrong.{first}

-- ---- steps

module _ {T : Type 0} (code : Coding T) (kind : Kind) (capacity bound : ℕ) (old new : View T)
    (later : Continues code kind capacity old new) (k : EndsWithin code kind capacity bound old new later) where
  abbrev since : ℕ
  since = steps_between code kind capacity old new later

  -- refused: more steps than the bound since `old`, and no call has ended
  pub none_ends : bound < since → ends new.seen ≡ ends old.seen → ⊥
  none_ends more none = absurd (omega (arith, k.ends_one more))

  -- refused: only one call has ended since `old`, after more than twice the bound and one step
  pub one_ends_late : 2 * bound + 1 < since → ends old.seen ≡ 0 → ends new.seen ≡ 1 → ⊥
  one_ends_late more none one =
      let most : AreWithinEnds bound since 0 1 =
      subst (λ n. AreWithinEnds bound since n 1) none (subst (λ n. AreWithinEnds bound since (ends old.seen) n) one k.ends_since) in
      absurd (omega arith)

  -- refused: a step since `old`, where no call was pending and none has begun
  pub steps_of_no_call : 0 < since → begun new.seen ≡ ends old.seen → ⊥
  steps_of_no_call more same =
      let none : begun new.seen - ends old.seen ≡ 0 = omega arith in
      let most : since ≤ load bound 0 = subst (λ n. since ≤ load bound n) none k.load_since in
      absurd (omega arith)

  -- refused: one round more than the load, in each of which a party steps, with a call
  -- under way as each begins
  pub never_rests : (rounds : List (List (Turn T))) (p : ℕ) → later.first.rest ≡ turns_of rounds
      → StepsInEach p (run_of code kind capacity old.turns) rounds
      → load bound (begun new.seen - ends old.seen) < length rounds
      → (RestsInOne p (run_of code kind capacity old.turns) rounds → ⊥)
      → ⊥
  never_rests rounds p is steps more never = never (k.rests rounds is p steps more)

module _ {T : Type 0} (code : Coding T) (kind : Kind) (capacity bound aside : ℕ) (new : View T)
    (k : AllWithin code kind capacity bound aside new) where
  abbrev all : ℕ
  all = steps_in (opening code kind capacity 0) new.turns

  -- refused: more steps than the bound since the opening, and no call has ended
  pub none_has_ended : bound < all → ends new.seen ≡ 0 → ⊥
  none_has_ended more none =
      let most : AreWithinEnds bound all 0 0 = subst (λ n. AreWithinEnds bound all 0 n) none k.ends_all in
      absurd (omega arith)

  -- refused: a step where no call has begun
  pub steps_before_any_call : 0 < all → begun new.seen ≡ 0 → ⊥
  steps_before_any_call more none =
      let most : all ≤ load bound 0 = subst (λ n. all ≤ load bound n) none k.load_all in
      absurd (omega arith)

  -- refused: one operation more than may be aside, where no call has begun
  pub asks_for_no_call : aside < new.asked → begun new.seen ≡ 0 → ⊥
  asks_for_no_call more none =
      let most : new.asked ≤ aside + load bound 0 = subst (λ n. new.asked ≤ aside + load bound n) none k.asked in
      absurd (omega arith)

-- ---- passes of a structure of capacity 2 that knew nothing before

-- refused: a pass that has asked for two operations, where no call has begun and one may be aside
pub asks_twice : (bound : Bound) → GoesOn one_word kinds.Indices 2 bound 1 first (record first { asked = 2 }) → ⊥
asks_twice bound goes_on =
    let most : 2 ≤ 1 + load (bound 0 2 one_word.size) 0 = (goes_on.all [] tt).asked in
    absurd (omega arith)

-- a lease by the party 0
abbrev leasing : List (Event ℕ)
leasing = Begun 0 (Robust (Acquire 7)) ∷ []

abbrev begins_lease : List (Turn ℕ)
begins_lease = Begin 0 (Robust (Acquire 7)) ∷ []

by_default : load (default_bound 1 2 1) 1 ≡ 10
by_default = refl

-- refused: a lease that asks for one operation more than its load and what may be aside
pub lease_asks_once_more :
    OwnersGoOn one_word kinds.Robust 2 default_bound 1 first (record first { seen = leasing; turns = begins_lease; asked = 12 }) → ⊥
lease_asks_once_more k =
    let most : 12 ≤ 1 + load (default_bound 1 2 1) 1 = (k.all (tt, tt) (0 ∷ []) (inl refl, tt)).asked in
    absurd (omega (most, arith))

-- ---- two runs with the same events, of which neither goes on to the other

module _ (start : Start ℕ) where
  abbrev one_run : View ℕ
  one_run = record first { turns = Begin 0 start ∷ Begin 1 start ∷ Next 0 ∷ [] }

  abbrev another_run : View ℕ
  another_run = record first { turns = Begin 0 start ∷ Begin 1 start ∷ Next 1 ∷ Next 1 ∷ [] }

  pub knows_another_run : (bound : Bound) (aside : ℕ) → GoesOn one_word kinds.Indices 2 bound aside one_run another_run → ⊥
  knows_another_run bound aside goes_on = let e = goes_on.later.first.is in cc

  pub owners_know_another_run : (bound : Bound) (aside : ℕ) → OwnersGoOn one_word kinds.Robust 2 bound aside one_run another_run → ⊥
  owners_know_another_run bound aside k = let e = k.later.first.is in cc
