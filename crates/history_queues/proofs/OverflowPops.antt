-- A pop of an overflowing queue is a call of the model, which may write the act of a push that waits for
-- room; each step keeps the rule of the table.
use Rattle.history.proofs.Names.{◌≡◌, ◌≢◌, ℕ, ◌+◌, ◌^◌, ◌%◌, ◌<◌, ◌==◌, Bool, false, Option, Some}
use Rattle.history.proofs.Names.{None, List, [], ◌∷◌, ◌++◌, get_or, length, slice_index, refl, sym, ap, subst, ◌∙◌}
use Rattle.history.proofs.Names.{arith, nat_tests, after_position}
use Rattle.steps.specs.declared.ask.Ask.{Ask}
use Rattle.steps.specs.declared.ask.Op.TheVariants.{Exchange}
use Rattle.steps.specs.declared.ask.After.TheVariants.{GoOn}
use Rattle.steps.specs.declared.copied.OneWord.{OneWord}
use Rattle.steps.specs.declared.queues.roles.Role.TheVariants.{Consumer}
use Rattle.model.specs.declared.event.Answer.{Answer}
use Rattle.model.specs.declared.event.Event.{Event}
use Rattle.model.specs.declared.event.Event.TheVariants.{HandedOut, Acted}
use Rattle.model.specs.declared.event.Item.{Item}
use Rattle.model.specs.declared.event.Start.{Start}
use Rattle.model.specs.declared.event.Start.TheVariants.{Queues}
use Rattle.model.specs.declared.families.Flight.{Flight}
use Rattle.model.specs.declared.families.queues.QueueStart.TheVariants.{PushIndex}
use Rattle.history.proofs.Names.{Coding, after_of, ask_of, beside_of, popped}
use Rattle.model.specs.declared.families.queues.QueueStart.TheVariants.{Pop}
use Rattle.history.proofs.Names.{overflow_pop_effect, takes_effect, old_of, World, Trace, stands_there}
use Rattle.laws_queues.proofs.Overflow.Core.{oldest}
use Rattle.history.proofs.Names.{answered}
use Rattle.laws_queues.proofs.Overflow.Knows.{KnowsOverflowPop}
use Rattle.laws_queues.proofs.Queues.Knows.{free}
use Rattle.steps.specs.declared.ask.Op.TheVariants.{Load}
use Rattle.steps.specs.declared.ask.After.TheVariants.{Done}
use Rattle.steps.specs.declared.ask.Want.TheVariants as wants
use Rattle.steps.specs.declared.queues.overflow.Pop.{Pop as Popping}
use Rattle.steps.specs.declared.queues.overflow.PopStage.{PopStage}
use Rattle.steps.specs.declared.queues.overflow.PopStage.TheVariants as pops
use Rattle.steps.specs.Queues.Overflow.{cell_word, first_pop, pop_asks, pop_want, pop_takes, pop_after}
use Rattle.steps.specs.Queues.Overflow.{pop_keeps, pop_kept, pop_answer}
use Rattle.model.specs.declared.families.Registry.TheVariants as registries
use Rattle.model.specs.declared.families.queues.QueueKind.TheVariants as queues
use Rattle.model.specs.declared.turn.Kind.TheVariants as kinds
use Rattle.model.specs.Families.Queues.Steps.{effects_of}
use Rattle.laws_queues.proofs.Queues.Core.{word_at}
use Rattle.laws_queues.proofs.Queues.Invariant.{family}
use Rattle.history.specs.declared.view.View.{View}
use Rattle.history.specs.Known.{events_by}
use Rattle.history_queues.specs.Overflow.{HasPopWord, pops_over}
use Rattle.history_queues.specs.Queues.{pop_wrote}
use Rattle.history.specs.Roles.{HasRole}
use Rattle.history.specs.Stages.{Calling, At}
use Rattle.history.proofs.Beginning.{at_begin}
use Rattle.history.proofs.Calls.{stands}
use Rattle.history.proofs.Drives.{IsCallIn, Met, goes, keeps_all_in}
use Rattle.history.proofs.Known.{by_mine}
use Rattle.history_queues.proofs.Overflows.{over_effects, own_of_effect, overflow_machines, room_by_own, beside_waits}
use Rattle.history.proofs.Roles.{holds_it}
use Rattle.history_queues.proofs.Queues.{role_begins, sound_of}
use Rattle.history.proofs.CallsIn.{Driven, KeepsEnds, Writing}

module _ {T : Type 0} (code : Coding T) where
  -- a pop, as a call of the model
  abbrev popping : Calling T Popping OneWord Bool
  popping = pops_over

  -- the model's pop goes on as the driver's does
  same_after : (c : Popping) (m : OneWord) (n : ℕ) → after_of code (popping.flight c m) n ≡ goes popping (pop_after c n) (pop_kept c m n)
  same_after = grind arith

  -- the pop stands at a stage that has a word, on a queue of this capacity
  abbrev StandsNext : ℕ → Popping → Type 0
  StandsNext capacity d = (d.capacity ≡ capacity) × HasPopWord d.stage

  -- a pop that goes on is on a queue of the same capacity, at a stage that has a word
  stays : (capacity : ℕ) (c d : Popping) (n : ℕ) (stage : PopStage) → c.capacity ≡ capacity → HasPopWord stage
      → pop_takes c stage n ≡ GoOn d → StandsNext capacity d
  stays = grind arith

  -- at each stage that has a word, a pop asks for a word of the queue
  asks : (capacity own : ℕ) (stage : PopStage) → own ≡ capacity → HasPopWord stage
      → (a : Ask) × (a.word < 4 + (capacity + 1)) × (pop_asks own stage ≡ wants.Ask a)
  asks capacity own pops.FindsNone same pop_word = absurd pop_word
  asks capacity own pops.LoadsRead same pop_word = (record { word = 1; op = Load }, omega arith, refl)
  asks capacity own (pops.LoadsWrite read) same pop_word = (record { word = 0; op = Load }, omega arith, refl)
  asks capacity own (pops.LoadsCell read) same pop_word =
      (record { word = cell_word own read; op = Load }, (let low : read % (own + 1) < own + 1 = omega arith in omega arith), refl)
  asks capacity own (pops.MovesRead read) same pop_word = (record { word = 1; op = Exchange read (after_position read) }, omega arith, refl)

  -- what the pop hears of the operation is what the word was before it, and its room keeps that
  abbrev HearsTheWord : Popping → OneWord → Ask → ℕ → PopStage → Type 0
  HearsTheWord c m a n stage = (pop_takes c stage (answered a.op n) ≡ pop_takes c stage n) × (pop_keeps m stage (answered a.op n) ≡ pop_keeps m stage n)

  -- what a pop hears of an operation is what the word was before it
  hears : (c : Popping) (m : OneWord) (a : Ask) (n : ℕ) (stage : PopStage) → pop_asks c.capacity stage ≡ wants.Ask a → HearsTheWord c m a n stage
  hears = grind arith

  -- ---- what a pop writes

  -- the effects of a step with which a pop goes on
  effects_on : (w : World T) (p : ℕ) (c d : Popping) (m : OneWord) (n : ℕ) → pop_after c n ≡ GoOn d
      → over_effects w p (popping.flight c m) n
      ≡ effects_of p Pop (overflow_pop_effect w.words (beside_of w.words w.kept w.latest p) c.capacity c.stage n) None
  effects_on w p c d m n leads = rw leads refl

  -- the effects of the step with which a pop ends, with its answer
  effects_end : (w : World T) (p : ℕ) (c : Popping) (b : Bool) (m : OneWord) (n : ℕ) → pop_after c n ≡ Done b
      → over_effects w p (popping.flight c m) n
      ≡ effects_of p Pop (overflow_pop_effect w.words (beside_of w.words w.kept w.latest p) c.capacity c.stage n)
      (Some (popped (pop_answer (pop_kept c m n).0 b)))
  effects_end w p c b m n leads = rw leads refl

  -- a step with which a pop goes on writes nothing
  quiet : (words : List ℕ) (waits : Option (ℕ × ℕ)) (p n : ℕ) (c d : Popping) (stage : PopStage)
      → pop_takes c stage n ≡ GoOn d
      → effects_of {T = T} p Pop (overflow_pop_effect words waits c.capacity stage n) None ≡ []
  quiet = grind arith

  -- a pop that takes out writes of its own party that it did, whether a push waits for room or not
  takes : (p : ℕ) (item : Item T) (answer : Answer T) (waits : Option (ℕ × ℕ))
      → ((q v : ℕ) → waits ≡ Some (q, v) → p ≢ q)
      → events_by p (effects_of p Pop (takes_effect item waits) (Some answer)) ≡ HandedOut p item ∷ Acted p (Queues Pop) answer ∷ []
  takes p item answer None apart = grind (arith, by_mine, own_of_effect)
  takes p item answer (Some push) apart = room_by_own p push.0 item push.1 (Some answer) (apart push.0 push.1 refl)

  -- the name of a pop is not that of a push
  pop_is_no_push : (v : ℕ) → ◌≡◌ {A = Start T} (Queues Pop) (Queues (PushIndex v)) → ⊥
  pop_is_no_push v e = absurd (cc)

  -- As a pop takes a step, the cell that it is to move past holds the index that it has read, and a push that
  -- waits for room is another party's.
  record TakesAt (capacity p : ℕ) (c : Popping) (m : OneWord) (n : ℕ) (t : Trace T) : Type 0 where
    -- the cell in front still holds that word where the exchange finds the position unmoved
    pub front : (read : ℕ) → c.stage ≡ pops.MovesRead read → n ≡ read → slice_index t.world.words (cell_word c.capacity read) ≡ m.0
    pub apart : (q v : ℕ) → beside_of t.world.words t.world.kept t.world.latest p ≡ Some (q, v) → p ≢ q

  -- where its exchange finds the read position unmoved, the cell there holds the index that the pop has read
  takes_at : {capacity p : ℕ} {from : Option (Start T × Flight T)} {c : Popping} {m : OneWord} {n : ℕ}
      {es : List (Event T)} {t : Trace T}
      → c.capacity ≡ capacity → Met code kinds.Overflow capacity popping.start (popping.flight c m) p from es n t
      → TakesAt capacity p c m n t
  takes_at {capacity} {p} {c = c} {m = m} {n = n} {t = t} same met = record { front = front; apart = apart }
    where
      -- the run keeps the invariant of the queue's laws
      s : Rattle.model.proofs.Frame.Sound (family t.world.coding queues.Overflow t.world.capacity) t
      s = sound_of code capacity queues.Overflow t met.run

      -- what the pop knows at its stage
      knows : KnowsOverflowPop t.world.capacity s.state.core m c.stage
      knows = grind (arith, stands, stands_there, family, s)

      -- where the pop moves the read position that it has read, the cell there still holds the word that it has read
      front : (read : ℕ) → c.stage ≡ pops.MovesRead read → n ≡ read → slice_index t.world.words (cell_word c.capacity read) ≡ m.0
      front read stage n_is =
          let core_now = s.state.core in
          let words = s.fit.words in
          let mine : KnowsOverflowPop t.world.capacity core_now m (pops.MovesRead read) = subst (KnowsOverflowPop t.world.capacity core_now m) stage knows in
          let found : slice_index t.world.words 1 ≡ n = subst (λ z. old_of t.world.words (ask_of (pop_asks c.capacity z)) ≡ n) stage met.found in
          let here : read ≡ core_now.read = sym n_is ∙ (sym found ∙ ap (λ ws. slice_index ws 1) words) in
          let first = mine.3 here in
          let good = s.holds.good in
          let some : 0 < length core_now.waiting = (omega (arith, ap length first.1)) in
          let old = oldest t.world.capacity core_now good some in
          let value : get_or core_now.cells (core_now.read % (t.world.capacity + 1)) 0 ≡ m.0 =
          (let both : get_or core_now.cells (core_now.read % (t.world.capacity + 1)) 0 ∷ old.0 ≡ m.0 ∷ first.0 = sym old.1 ∙ first.1 in cc) in
          let size : c.capacity ≡ t.world.capacity = same ∙ sym met.run.sized in
          ap (λ ws. slice_index ws (cell_word c.capacity read)) words
          ∙ (word_at core_now.write core_now.read (free s.state.roles.producer) (free s.state.roles.consumer) core_now.cells
          (cell_word c.capacity read) (read % (c.capacity + 1)) refl
          ∙ (ap (λ z. get_or core_now.cells (read % (z + 1)) 0) size ∙ (ap (λ z. get_or core_now.cells (z % (t.world.capacity + 1)) 0) here ∙ value)))

      -- the machine keeps the roles as the queue's laws say
      same_kept : t.world.kept ≡ registries.Queues s.state.roles
      same_kept = s.fit.kept

      -- a push that waits for room is another party's
      apart : (q v : ℕ) → beside_of t.world.words t.world.kept t.world.latest p ≡ Some (q, v) → p ≢ q
      apart = grind (arith, same_kept, beside_waits, s, pop_is_no_push)

  -- what the pop writes of its own party with its last step is what a pop with its end writes
  abbrev TellsAtEnd : ℕ → ℕ → Popping → OneWord → Trace T → PopStage → Bool → Type 0
  TellsAtEnd p n c m t stage b =
      events_by {T = T} p
      (effects_of p Pop (overflow_pop_effect t.world.words (beside_of t.world.words t.world.kept t.world.latest p) c.capacity stage n)
      (Some (popped (pop_answer (pop_keeps m stage n).0 b))))
      ≡ pop_wrote p (pop_keeps m stage n).0 b

  -- the last step of a pop writes of its own party what a pop with its end writes
  loud : (p n : ℕ) (c : Popping) (m : OneWord) {b : Bool} (t : Trace T) {stage : PopStage} → HasPopWord stage
      → ((read : ℕ) → stage ≡ pops.MovesRead read → n ≡ read → slice_index t.world.words (cell_word c.capacity read) ≡ m.0)
      → ((q v : ℕ) → beside_of t.world.words t.world.kept t.world.latest p ≡ Some (q, v) → p ≢ q) → pop_takes c stage n ≡ Done b → TellsAtEnd p n c m t stage b
  loud p n c m {b} t {stage} pop_word slice_index_is p_is_not_q pop_takes_is = grind arith

  -- what a step of the pop writes of its own party
  abbrev its_own : Writing code kinds.Overflow popping → List (Event T)
  its_own step = events_by step.p (over_effects step.t.world step.p (popping.flight step.c step.m) step.n)

  -- a pop, as the driver makes it
  abbrev pub pop_driven : Driven T Popping OneWord Bool
  pop_driven = record { want = pop_want; after = pop_after; kept = pop_kept; call = popping }

  -- a pop of the overflowing queue is a call of the model
  pub over_pop_is_call : IsCallIn (overflow_machines code) pop_driven
  over_pop_is_call =
      record {
        -- the model's pop wants the word that the driver's pop wants, and goes to the stage
        -- to which that goes
        same_want = λ c m. refl;
        same_after = λ capacity c m n h. same_after c m n;
        hears = λ c m a n e. hears c m a n c.stage e;
        stays = λ capacity c d n h e. (let next = stays capacity c d n c.stage h.1 h.2 e in (h.0, next.0, next.1));
        asks = λ capacity c h. asks capacity c.capacity c.stage h.1 h.2;
        -- no word that it loads ends it outside the history
        past = λ capacity c d n k h e. refl;
        finds = λ c m n small t. tt;
        leaves = λ c a n t e. absurd (cc);
        -- a step with which the pop goes on writes nothing
        tells = λ step d leads.
            ap (λ zs. (zs ++ step.late) ++ its_own step) step.wrote
            ∙ (ap (λ zs. zs ++ its_own step) step.waits
            ∙ ap (events_by step.p) (effects_on step.t.world step.p step.c d step.m step.n leads
            ∙ quiet step.t.world.words (beside_of step.t.world.words step.t.world.kept step.t.world.latest step.p) step.p step.n step.c d step.c.stage leads));
        -- the last step writes what a pop with its end writes, since the cell still holds the index that the
        -- pop has read
        tells_all = λ step b skip leads still. (
            let at = takes_at step.stands.1 step.met in
            ap (λ zs. (zs ++ step.late) ++ its_own step) step.wrote
            ∙ (ap (λ zs. zs ++ its_own step) step.waits
            ∙ (ap (events_by step.p) (effects_end step.t.world step.p step.c b step.m step.n leads)
            ∙ loud step.p step.n step.c step.m step.t step.stands.2 at.front at.apart leads)));
      }

  -- each step of a pop keeps the rule of the table
  pub over_pop_keeps : KeepsEnds code kinds.Overflow (λ capacity. 4 + (capacity + 1)) pop_driven
  over_pop_keeps = keeps_all_in (overflow_machines code) pop_driven over_pop_is_call (λ c n. refl)

  -- a pop begins on a pass that has the consumer's role and no call under way, on a queue with a capacity
  pub over_pop_first : (x : View T) → x.going ≡ None → x.other ≡ [] → 0 < x.share.part → 0 < x.capacity
      → x.capacity < 2 ^ 32 → HasRole Consumer x.made
      → At code kinds.Overflow popping x x (first_pop x.capacity) (record { 0 = 0 })
  over_pop_first x idle alone any has_cells small has =
      let some : (x.capacity == 0) ≡ false = grind (arith, nat_tests) in
      at_begin idle alone any (small, refl, rw some tt) refl
      (role_begins queues.Overflow Pop refl (λ kept. refl) Consumer (λ o p. tt) (λ roles p is. holds_it roles.consumer p is) has) (λ p. refl)
