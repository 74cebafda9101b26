-- The driver over the rule of a machine: what it asks of the steps of a call, shown once for all calls of all kinds.
use Rattle.history.proofs.Names.{◌^◌, true, false, ◌≡◌, inl, inr, ℕ, ◌+◌, ◌<◌, Some, List, [], ◌∷◌}
use Rattle.history.proofs.Names.{length, slice_index, refl, sym, ap, subst, ◌∙◌, arith, written}
use Rattle.history.proofs.Names.{Ask, After, GoOn, Want, Event, Flight, Kind, Coding, want_of}
use Rattle.history.proofs.Names.{goes_of, is_question, Trace, answered, Owes, NextKnown}
use Rattle.history.proofs.Names.{IsFreshCall}
use Rattle.atomic_table.specs.Table.{State}
use Rattle.atomic_table.specs.Table as table
use Rattle.steps.specs.declared.ask.After.TheVariants.{Done}
use Rattle.steps.specs.declared.ask.Want.TheVariants as wants
use Rattle.threaded.specs.Driver.{Told}
use Rattle.history.specs.declared.view.View.{View}
use Rattle.history.specs.History.{IsRun, IsMachine, IsLate}
use Rattle.history.specs.Stages.{Calling, At, Ends, LeftOut, Over, StepsOnly}
use Rattle.history.specs.Views.{Looks}
use Rattle.history.proofs.Calls.{get_left}
use Rattle.history.proofs.KindLaws.{KindLaws, Machines, SteadyMachines, LoneMachines, kept_machines, steady_machines, goes_by_flight}
use Rattle.history.proofs.PassLooks.{look_by}
use Rattle.history.proofs.CallsIn.{by_bool, AsksFor, StepsThere, IsCallThere, ActsAlone, steps_alone, with_goes}
use Rattle.history.proofs.CallTurns.{Stepping, view_then, writing, asked_then, goes_then, ends_so, settled_then}
use Rattle.history.proofs.CallReady.{same_capacity, some_share, still_stands, seat_at, Seat}
use Rattle.history.proofs.Telling.{owes_more}
pub use Rattle.history.proofs.CallsIn.{Driven, goes, IsCallBy, IsCallOf, KeepsSo, KeepsEnds, KeepsOver, Met, IsCallIn, in_machine, NeverPushes}
pub use Rattle.history.proofs.Called.{called, at_itself}
pub use Rattle.history.proofs.Sized.{AtSized, EndsSized, keeps_sized}

module _ {T C M E Asks : Type 0} (machines : Machines T) (driven : Driven T C M E)
    (is_call : StepsThere Asks machines.code machines.kind machines.effects driven) where
  open machines use {code, kind, effects, size_of, laws}
  open driven use {want, after, kept, call}

  -- what is known of the call after a step that leads to `a`: it is under way at the next
  -- stage, or it is over
  abbrev KnownAfter : View T → After C E → M → View T → Type 0
  KnownAfter base a m w = NextKnown (λ (z : View T). z.capacity) (At code kind call) (Over code kind call) base a m w

  -- a step of a seat's call that asks for a word, with an answer that does not end the
  -- call outside the history
  pub record Asking : Type 0 where
    pub seat : Seat machines call
    pub ask : Ask
    -- the word is one of the structure, and it is the one that the call asks for
    pub low : ask.word < size_of seat.key
    pub wants_it : want seat.c ≡ wants.Ask ask
    -- the word is a 64-bit one, which does not end the call outside the history
    pub small : slice_index seat.s.words ask.word < 2 ^ 64
    pub skip : call.skips seat.c (slice_index seat.s.words ask.word) ≡ false

  module _ (asking : Asking) where
    open asking use {seat, seat.{s, v, key, id, c, m, at, known, y}, ask, low, wants_it, small, skip}

    -- the number that the word has
    abbrev n : ℕ
    n = slice_index s.words ask.word

    -- the machine's call asks for that word
    pub asks_it : want_of code (call.flight c m) ≡ wants.Ask ask
    asks_it = is_call.same_want c m ∙ wants_it

    -- the number is not that of a last position or version
    pub finds_it : IsFreshCall n (call.flight c m)
    finds_it = is_call.finds c m n small skip

    -- the step, as one of the machine's
    abbrev step : Stepping machines call
    step = record { seat = seat; ask = Some ask; low = low; asks_it = asks_it; finds = finds_it }

    -- the view of the seat after the step
    abbrev pub view_now : View T
    view_now = view_then machines call step

    -- the machine's call goes to the stage to which the driver's goes
    comes_there : (base : View T) → At code kind call base v c m → goes_of code y.p (call.flight c m) n y.u.world.kept ≡ goes call (after c n) (kept c m n)
    comes_there = grind arith

    -- each operation was a step of the call
    steps_so : (base : View T) → At code kind call base v c m → StepsOnly base view_now
    steps_so = asked_then machines call step refl

    -- what is known of the call after the step
    known_then : (base : View T) → At code kind call base v c m → (r : After C E) → after c n ≡ r → KnownAfter base r (kept c m n) view_now
    known_then base stage (GoOn d) leads =
        let standing = still_stands stage in
        inr (goes_then machines call step stage (record {
          leads = comes_there base stage ∙ ap (λ r. goes call r (kept c m n)) leads;
          stands = is_call.stays base.capacity c d n standing leads;
          past = λ k. is_call.past base.capacity c d n k standing leads;
          tells = is_call.tells (writing machines call step stage) d leads;
          steps = steps_so base stage;
          -- the step asked for a word, so no operation is aside
          word = refl;
        }))
    known_then base stage (Done end) leads =
        inl (ends_so machines call step stage (comes_there base stage ∙ ap (λ r. goes call r (kept c m n)) leads)
        (is_call.tells_all (writing machines call step stage) end skip leads (ap is_question wants_it)) (inl (steps_so base stage)))

    -- what the step tells: where the call stands or how it has ended, in each drive
    pub told : Told (λ (z : View T). z.capacity) (At code kind call) (Over code kind call) after kept c m v (answered ask.op n) view_now
    told = grind (arith, known_then)

    -- with that view the table holds its machine again
    pub holds_then : {base : View T} → At code kind call base v c m
        → IsMachine code kind key (table.stepped s ask.word (written ask.op n) id [] view_now table.keeps)
    holds_then stage = settled_then machines call step stage

  -- ---- a call that finds the last position or version ends outside the history: its step is a look

  -- a step of a seat's call that asks for a word, with an answer that ends the call outside the history: a
  -- look, after which the seat knows `w`
  pub record Looking : Type 0 where
    pub s : State (Unit {0}) (View T)
    pub v : View T
    pub w : View T
    pub key : ℕ
    pub c : C
    pub m : M
    pub ask : Ask
    -- the call asks for this word, which ends it outside the history
    pub known : v.capacity ≡ key
    pub wants_it : want c ≡ wants.Ask ask
    pub skip : call.skips c (slice_index s.words ask.word) ≡ true
    -- the look was one operation
    pub looked : Looks code kind key v w
    pub counts : w.asked ≡ v.asked + 1
    -- the machine that was looked at had the word that the table had
    pub t : Trace T
    pub run : IsRun code kind key t
    pub same_seen : w.seen ≡ t.events
    pub same_word : slice_index t.world.words ask.word ≡ slice_index s.words ask.word

  module _ (looking : Looking) where
    open looking use {s, v, w, key, c, m, ask, known, wants_it, skip, looked, counts, t, run, same_seen, same_word}

    -- the number that the word has, which ends the call outside the history
    abbrev seen_word : ℕ
    seen_word = slice_index s.words ask.word

    -- a call that ends with no turn of the machine is left out of the history
    left_out : (base : View T) → At code kind call base v c m → (e : E) (m' : M) → call.left e → LeftOut code kind call base e m' w
    left_out base (inl first) e m' left =
        let size : base.capacity ≡ key = sym (ap (λ (z : View T). z.capacity) first.is) ∙ known in
        record {
          looked = subst (λ z. Looks code kind z.capacity z w) first.is (subst (λ n. Looks code kind n v w) (sym known) looked);
          asked = counts ∙ ap (λ (z : View T). z.asked + 1) first.is;
          word = seen_word;
          from = c;
          skipped = skip;
          left = left;
          room = m;
          ask = ask;
          asks = is_call.same_want c m ∙ wants_it;
          trace = t;
          run = subst (λ n. IsRun code kind n t) (sym size) run;
          seen = same_seen;
          found = same_word;
        }
    left_out base (inr under) e m' left = grind (arith, false)

    -- what the look tells: the call is over, and is left out of the history
    pub told_left : Told (λ (z : View T). z.capacity) (At code kind call) (Over code kind call) after kept c m v (answered ask.op seen_word) w
    told_left = grind (arith, inr, left_out)

  -- a call that a word ends outside the history has not begun, so nothing is late for it
  calm : (base v : View T) (c : C) (m : M) (n : ℕ) → call.skips c n ≡ true → At code kind call base v c m
      → (late : List (Event T)) → IsLate kind v.going late → late ≡ []
  calm = grind arith

  -- ---- each step of the call at a word keeps the rule

  -- what a step from this stage has to tell, where the call may end outside the history
  abbrev pub ToldOver : C → M → View T → ℕ → View T → Type 0
  ToldOver c m = Told (λ (z : View T). z.capacity) (At code kind call) (Over code kind call) after kept c m

  -- each step of a call at a word keeps the rule of the machine
  pub keeps_at : {base₀ v : View T} {c : C} {m : M} {key words : ℕ} (slots id : ℕ) → words ≡ size_of key + 1 → v.capacity ≡ key → At code kind call base₀ v c m
      → AsksFor (size_of base₀.capacity) (want c)
      → Owes (λ (z : View T). z.asked) (IsMachine code kind key) words slots id (ToldOver c m) (want c) (v, [])
  keeps_at {base₀} {v} {c} {m} {key} {words} slots id wide known at₀ asked =
      -- the word that the call asks for is one of the structure's, before the last word of the table
      let ask = asked.0 in
      let same : base₀.capacity ≡ key = sym (same_capacity at₀) ∙ known in
      let low : ask.word < size_of key = subst (λ z. ask.word < size_of z) same asked.1 in
      let below : ask.word < words = omega arith in
      subst (λ w. Owes (λ (z : View T). z.asked) (IsMachine code kind key) words slots id (ToldOver c m) w (v, [])) (sym asked.2) (
        below,
        λ s r long at small. by_bool (call.skips c (slice_index s.words ask.word)) (λ skip. (
            -- the word ends the call outside the history: the step is a look, which leaves
            -- the words as they are
            let out = is_call.leaves c ask (slice_index s.words ask.word) skip asked.2 in
            let look = look_by code kind key (record {
              s = s;
              m = r;
              id = id;
              v = v;
              word = ask.word;
              has_view = at;
              some_share = some_share at₀;
              calm = calm base₀ v c m (slice_index s.words ask.word) skip at₀;
            }) in
            let wide : length r.trace.world.words ≡ size_of key = (laws key).size r.trace r.run in
            let same_word : slice_index r.trace.world.words ask.word ≡ slice_index s.words ask.word =
            sym (ap (λ ws. slice_index ws ask.word) r.words ∙ get_left r.trace.world.words (0 ∷ []) ask.word (omega arith)) in (
              look.w,
              table.keeps,
              tt,
              subst (λ n. IsMachine code kind key (table.stepped s ask.word n id [] look.w table.keeps)) (sym out.0) look.holds,
              (
                told_left (record {
                  s = s;
                  v = v;
                  w = look.w;
                  key = key;
                  c = c;
                  m = m;
                  ask = ask;
                  known = known;
                  wants_it = asked.2;
                  skip = skip;
                  looked = look.looks;
                  counts = look.asked;
                  t = r.trace;
                  run = r.run;
                  same_seen = look.seen;
                  same_word = same_word;
                }),
                look.asked,
                refl,
              ),
              -- else the step is one of the machine, and the view gains its events
            ))) (λ skip. (
            let seat = seat_at machines call (record { s = s; v = v; key = key; id = id; c = c; m = m; r = r; at = at; known = known }) at₀ in
            let asking : Asking = record { seat = seat; ask = ask; low = low; wants_it = asked.2; small = small; skip = skip } in
            (view_now asking, table.keeps, tt, holds_then asking at₀, (told asking, refl, refl)))),
      )

  -- a call that no word leaves out always ends
  module _ (never : (c : C) (n : ℕ) → call.skips c n ≡ false) where
    -- a call that is over has ended in the history
    ended : (base : View T) (e : E) (m : M) (w : View T) → Over code kind call base e m w → Ends code kind call base e m w
    ended = grind arith

    -- what is known after a step, where no word ends the call outside the history
    pub next_ended : (base : View T) (r : After C E) (m : M) (w : View T) → KnownAfter base r m w
        → NextKnown (λ (z : View T). z.capacity) (At code kind call) (Ends code kind call) base r m w
    next_ended base (GoOn d) m w known_after = known_after
    next_ended base (Done e) m w known_after = ended base e m w known_after

    -- what a step from this stage has to tell, where the call ends in the history
    abbrev ToldEnds : C → M → View T → ℕ → View T → Type 0
    ToldEnds c m = Told (λ (z : View T). z.capacity) (At code kind call) (Ends code kind call) after kept c m

    -- what is told of a call that may end outside the history is told of one that does not
    told_all : (c : C) (m : M) (x : View T) (n : ℕ) (w : View T) → ToldOver c m x n w → ToldEnds c m x n w
    told_all = grind arith

    -- a call whose steps keep the rule, and that no word ends outside the history, keeps it to its end
    pub keeps_ends : KeepsOver code kind size_of driven → KeepsEnds code kind size_of driven
    keeps_ends keeps base₀ v c m key words slots id wide known at₀ =
        let keeps_here = keeps base₀ v c m key words slots id in
        owes_more (record { key = key; words = words; slots = slots; id = id; v = v; told = ToldOver c m }) (ToldEnds c m) (want c) (keeps_here wide known at₀)
        (λ n w. told_all c m v n w)

-- ---- a call each step of which is at a word

module _ {T C M E : Type 0} (machines : Machines T) (driven : Driven T C M E) (is_call : IsCallThere machines driven) where
  open machines use {code, kind, size_of}

  -- each step of a call that is always at a word keeps the rule of the machine
  pub keeps_there : KeepsOver code kind size_of driven
  keeps_there base₀ v c m key words slots id wide known at₀ =
      keeps_at machines driven is_call slots id wide known at₀
      (is_call.asks base₀.capacity c (still_stands at₀))

  -- a call each step of which is at a word, and that no word ends outside the history,
  -- keeps the rule to its end
  pub keeps_all_there : ((c : C) (n : ℕ) → driven.call.skips c n ≡ false) → KeepsEnds code kind size_of driven
  keeps_all_there never = keeps_ends machines driven is_call never keeps_there

-- ---- calls of a kind that go on by their stage alone

module _ {T C M E : Type 0} (machines : SteadyMachines T) (driven : Driven T C M E) (is_call : IsCallIn machines driven) where
  open machines use {code, kind, effects, size_of, laws}
  open driven use {call}

  -- the steps of a call of a kind whose calls go on by themselves are calls there
  steps_there : IsCallThere (kept_machines machines) driven
  steps_there =
      with_goes code kind effects driven
      (λ capacity p c m n t run there stands.
      goes_by_flight (laws capacity) t run p (call.flight c m) n ∙ is_call.same_after capacity c m n stands)
      is_call

  -- each step of such a call keeps the rule
  pub keeps_in : KeepsOver code kind size_of driven
  keeps_in = keeps_there (kept_machines machines) driven steps_there

  -- such a call that no word ends outside the history keeps the rule to its end
  pub keeps_all_in : ((c : C) (n : ℕ) → call.skips c n ≡ false) → KeepsEnds code kind size_of driven
  keeps_all_in = keeps_all_there (kept_machines machines) driven steps_there

-- ---- calls of a kind whose parties write for themselves alone

-- a kind whose machine steps depend on the stage alone is a kind of `Machines` too
abbrev pub lone_machines : {T : Type 0} → LoneMachines T → Machines T
lone_machines machines = kept_machines (steady_machines machines)

-- a call of a kind without late events goes on by its stage, and writes for its own party alone
pub acts_alone : {T C M E : Type 0} (machines : LoneMachines T) {call : Calling T C M E}
    → ActsAlone machines.code machines.kind (λ w. machines.effects) machines.effects call
acts_alone machines {call} =
    record {
      never = λ c m late h. (machines.laws 0).alone (Some (call.start, call.flight c m)) late h;
      same = λ capacity p c m n t run. refl;
      its_own = λ capacity p c m n t run there. ((machines.laws capacity).goes_on t run p call.start (call.flight c m) there).own n;
      alike = λ capacity p c m n t run.
          goes_by_flight ((steady_machines machines).laws capacity) t run p (call.flight c m) n;
    }

module _ {T C M E : Type 0} (machines : LoneMachines T) (driven : Driven T C M E)
    (is_call : IsCallBy machines.code machines.effects machines.size_of driven) where
  open machines use {code, kind, effects, size_of}

  -- the steps of the call, as steps of the more general kind
  by_itself : IsCallThere (lone_machines machines) driven
  by_itself = steps_alone (acts_alone machines) is_call

  -- each step of such a call keeps the rule
  pub keeps : KeepsOver code kind size_of driven
  keeps = keeps_there (lone_machines machines) driven by_itself

  -- such a call that no word ends outside the history keeps the rule to its end
  pub keeps_to_end : ((c : C) (n : ℕ) → driven.call.skips c n ≡ false) → KeepsEnds code kind size_of driven
  keeps_to_end = keeps_all_there (lone_machines machines) driven by_itself

-- each step of a call keeps the rule, on a kind whose parties write for themselves alone, if no word ends the
-- call outside the history
pub keeps_all : {T C M E : Type 0} (code : Coding T) (kind : Kind) (effects : ℕ → Flight T → ℕ → List (Event T)) (size_of : ℕ → ℕ)
    (laws : (capacity : ℕ) → KindLaws code kind capacity (size_of capacity) effects) (want : C → Want (Unit {0})) (after : C → ℕ → After C E)
    (kept : C → M → ℕ → M) (call : Calling T C M E) → IsCallOf code effects size_of want after kept call
    → ((c : C) (n : ℕ) → call.skips c n ≡ false)
    → KeepsEnds code kind size_of (record { want = want; after = after; kept = kept; call = call })
keeps_all code kind effects size_of laws want after kept call =
    keeps_to_end (record { code = code; kind = kind; effects = effects; size_of = size_of; laws = laws })
    (record { want = want; after = after; kept = kept; call = call })
