-- A push of an overflowing queue is a call of the model, whose act another party's pop may write; each step
-- keeps the rule of the table.
use Rattle.history.proofs.Names.{◌≡◌, ℕ, ◌+◌, ◌^◌, ◌%◌, ◌<◌, ◌==◌, true, false, Option}
use Rattle.history.proofs.Names.{Some, None, List, [], ◌∷◌, ◌++◌, get_or, slice_index, fold, refl, sym, ap, subst}
use Rattle.history.proofs.Names.{◌∙◌, append_assoc, append-nil, arith, nat_tests, AllByRecursion, written}
use Rattle.steps.specs.declared.ask.Ask.{Ask}
use Rattle.history.proofs.Names.{after_position}
use Rattle.steps.specs.declared.ask.Op.TheVariants.{Exchange}
use Rattle.steps.specs.declared.ask.After.TheVariants.{GoOn}
use Rattle.steps.specs.declared.copied.OneWord.{OneWord}
use Rattle.steps.specs.declared.queues.roles.Role.TheVariants.{Producer}
use Rattle.model.specs.declared.event.Answer.{Answer}
use Rattle.model.specs.declared.event.Answer.TheVariants.{PoppedNone}
use Rattle.model.specs.declared.event.Event.{Event}
use Rattle.model.specs.declared.event.Event.TheVariants.{Acted}
use Rattle.model.specs.declared.event.Start.{Start}
use Rattle.model.specs.declared.families.queues.QueueStart.{QueueStart}
use Rattle.model.specs.declared.families.queues.QueueStart.TheVariants.{PushIndex}
use Rattle.model.specs.declared.families.queues.effects.Effect.{Effect}
use Rattle.history.proofs.Names.{Coding, after_of, ask_of, popped, overflow_push_effect}
use Rattle.history.proofs.Names.{acts_if_done, Open, longer, own_after, old_of, World, Trace, stands_there}
use Rattle.history.proofs.Names.{IsFreshOver, answered}
use Rattle.laws_queues.proofs.Overflow.Knows.{overflow_wrote}
use Rattle.laws_queues.proofs.Queues.Knows.{layout, free}
use Rattle.steps.specs.declared.ask.Op.TheVariants.{Load, Store}
use Rattle.steps.specs.declared.ask.After.TheVariants.{Done}
use Rattle.steps.specs.declared.ask.Want.TheVariants as wants
use Rattle.steps.specs.declared.queues.overflow.Push.{Push as Pushing}
use Rattle.steps.specs.declared.queues.overflow.PushEnd.{PushEnd}
use Rattle.steps.specs.declared.queues.overflow.PushEnd.TheVariants.{Own}
use Rattle.steps.specs.declared.queues.overflow.PushStage.{PushStage}
use Rattle.steps.specs.declared.queues.overflow.PushStage.TheVariants as pushes
use Rattle.steps.specs.Queues.Overflow.{cell_word, first_push, push_asks, push_want, push_takes, push_after}
use Rattle.steps.specs.Queues.Overflow.{push_keeps, push_kept, push_answer}
use Rattle.model.specs.declared.event.Item.TheVariants.{Index}
use Rattle.model.specs.declared.families.queues.QueueKind.TheVariants as queues
use Rattle.model.specs.declared.turn.Kind.TheVariants as kinds
use Rattle.model.specs.Families.Queues.Steps.{effects_of}
use Rattle.laws_queues.proofs.Queues.Core.{Core, word_at}
use Rattle.laws_queues.proofs.Queues.Invariant.{family}
use Rattle.history.specs.declared.view.View.{View}
use Rattle.history.specs.Known.{events_by}
use Rattle.history_queues.specs.Overflow.{IsWithin, over_push_skips, HasPushWord, HasActed, over_push_wrote, pushes_over}
use Rattle.history.specs.Roles.{HasRole}
use Rattle.history.specs.Stages.{Calling, At}
use Rattle.history.proofs.Beginning.{at_begin}
use Rattle.history.proofs.Calls.{stands}
use Rattle.history.proofs.Drives.{IsCallIn, goes, keeps_in}
use Rattle.history.proofs.Known.{by_mine}
use Rattle.history_queues.proofs.Overflows.{over_effects, push_own, overflow_machines}
use Rattle.history.proofs.Roles.{holds_it}
use Rattle.history_queues.proofs.Queues.{role_begins, sound_of}
use Rattle.history.proofs.CallsIn.{Driven, KeepsOver, Writing}

-- ---- events within a call

module _ {T : Type 0} where
  -- two lists of events within calls make one list of events within calls
  within_both : (xs ys : List (Event T)) → AllByRecursion IsWithin xs → AllByRecursion IsWithin ys → AllByRecursion IsWithin (xs ++ ys)
  within_both [] ys first_all_hold second_all_hold = second_all_hold
  within_both (x ∷ xs) ys first_all_hold second_all_hold = (first_all_hold.0, within_both xs ys first_all_hold.1 second_all_hold)

  -- the act of a call is an event within it
  within_acts : (p : ℕ) (start : QueueStart T) (o : Option (Answer T)) → AllByRecursion IsWithin (acts_if_done p start o)
  within_acts p start None = tt
  within_acts p start (Some answer) = (λ a. refl, tt)

  -- what an effect writes lies within its call
  within_effect : (p : ℕ) (start : QueueStart T) (effect : Effect T) (o : Option (Answer T)) → AllByRecursion IsWithin (effects_of p start effect o)
  within_effect = grind (arith, within_acts, within_both)

  -- what another party writes for a push is within the push
  within_late : (start : Start T) (late : List (Event T))
      → AllByRecursion (λ (e : Event T). (p : ℕ) × (e ≡ Acted p start PoppedNone)) late → AllByRecursion IsWithin late
  within_late start [] all_hold = tt
  within_late start (e ∷ es) all_hold = (λ a. subst (λ z. own_after a z ≡ longer a z) (sym all_hold.0.1) refl, within_late start es all_hold.1)

  -- events within a call make its span longer
  spans_on : (start : Start T) (xs ys : List (Event T)) → AllByRecursion IsWithin ys → fold own_after (Open start xs) ys ≡ Open start (xs ++ ys)
  spans_on start xs [] all_hold = ap (λ es. Open start es) (sym (append-nil xs))
  spans_on start xs (y ∷ ys) all_hold =
      ap (λ a. fold own_after a ys) (all_hold.0 (Open start xs))
      ∙ (spans_on start (xs ++ y ∷ []) ys all_hold.1 ∙ ap (λ es. Open start es) (append_assoc xs (y ∷ []) ys))

  -- open spans that are equal have written the same
  same_open : (start other : Start T) (xs ys : List (Event T)) → Open start xs ≡ Open other ys → xs ≡ ys
  same_open start other xs ys open_is = cc

-- ---- pushes

-- a push that no word ends outside the history ends with an end that is in the history
acts : (c : Pushing) (e : PushEnd) (n : ℕ) (stage : PushStage) → HasPushWord stage
    → over_push_skips stage n ≡ false → push_takes c stage n ≡ Done e → HasActed e
acts = grind arith

module _ {T : Type 0} (code : Coding T) (v : ℕ) where
  -- a push of this value, as a call of the model
  abbrev pushing : Calling T Pushing OneWord PushEnd
  pushing = pushes_over v

  -- the model's push goes on as the driver's does
  same_after : (c : Pushing) (m : OneWord) (n : ℕ) → after_of code (pushing.flight c m) n ≡ goes pushing (push_after c n) (push_kept c m n)
  same_after = grind arith

  -- the push stands at a stage that has a word, on a queue of this capacity, and no word ends it
  -- outside the history there
  abbrev StandsNext : ℕ → Pushing → Type 0
  StandsNext capacity d = (d.capacity ≡ capacity) × HasPushWord d.stage × ((k : ℕ) → over_push_skips d.stage k ≡ false)

  -- a push that goes on is on a queue of the same capacity, at a stage that has a word
  stays : (capacity : ℕ) (c d : Pushing) (n : ℕ) (stage : PushStage) → c.capacity ≡ capacity
      → HasPushWord stage → push_takes c stage n ≡ GoOn d → StandsNext capacity d
  stays = grind arith

  -- a push asks for a word of the queue at each stage that has one
  asks : (capacity own : ℕ) (stage : PushStage) → own ≡ capacity → HasPushWord stage
      → (a : Ask) × (a.word < 4 + (capacity + 1)) × (push_asks own stage v ≡ wants.Ask a)
  asks capacity own pushes.HandsBack same push_word = absurd push_word
  asks capacity own pushes.LoadsWrite same push_word = (record { word = 0; op = Load }, omega arith, refl)
  asks capacity own (pushes.LoadsRead write) same push_word = (record { word = 1; op = Load }, omega arith, refl)
  asks capacity own (pushes.StoresCell write read) same push_word =
      (record { word = cell_word own write; op = Store v }, (let low : write % (own + 1) < own + 1 = omega arith in omega arith), refl)
  asks capacity own (pushes.StoresWrite write read) same push_word = (record { word = 0; op = Store (after_position write) }, omega arith, refl)
  asks capacity own (pushes.MovesRead read) same push_word = (record { word = 1; op = Exchange read (after_position read) }, omega arith, refl)
  asks capacity own (pushes.LoadsCell read) same push_word =
      (record { word = cell_word own read; op = Load }, (let low : read % (own + 1) < own + 1 = omega arith in omega arith), refl)

  -- what the push hears of the operation is what the word was before it
  abbrev HearsTheWord : Pushing → OneWord → Ask → ℕ → PushStage → Type 0
  HearsTheWord c m a n stage = (push_takes c stage (answered a.op n) ≡ push_takes c stage n) × (push_keeps m stage (answered a.op n) ≡ push_keeps m stage n)

  -- what a push hears of an operation is what the word was before it
  hears : (c : Pushing) (m : OneWord) (a : Ask) (n : ℕ) (stage : PushStage) → push_asks c.capacity stage v ≡ wants.Ask a → HearsTheWord c m a n stage
  hears = grind arith

  -- a push that no word ends outside the history does not find the last position
  finds : (n : ℕ) (stage : PushStage) → n < 2 ^ 64 → over_push_skips stage n ≡ false → IsFreshOver n stage
  finds = grind arith

  -- a push that loads the last position changes no word, and ends as handed back
  leaves : (c : Pushing) (a : Ask) (n : ℕ) (stage : PushStage) → over_push_skips stage n ≡ true
      → push_asks c.capacity stage v ≡ wants.Ask a
      → (written a.op n ≡ n) × (e : PushEnd) × (e ≡ Own) × (push_takes c stage n ≡ Done e)
  leaves = grind arith

  -- ---- what a push has written, as its machine tells

  -- the machine on which a push stands at this stage: its positions, its cells, and what the
  -- push has written so far
  record StandsThere (capacity p : ℕ) (stage : PushStage) (es : List (Event T)) (n : ℕ) (t : Trace T) : Type 0 where
    -- the queue, as its laws have it, and that the push has written what its stage says
    pub core : Core ℕ
    pub wrote : es ≡ overflow_wrote capacity core p v stage
    -- the read position and the cells are those of the machine's words
    pub read : slice_index t.world.words 1 ≡ core.read
    pub cell : (position : ℕ) → slice_index t.world.words (cell_word capacity position) ≡ get_or core.cells (position % (capacity + 1)) 0
    -- the word that the push asks for is n
    pub found : old_of t.world.words (ask_of (push_asks capacity stage v)) ≡ n

  -- what the push has written, with what came late, lies within the call
  all_within : (step : Writing code kinds.Overflow pushing) → AllByRecursion IsWithin (step.es ++ step.late)
  all_within step = within_both step.es step.late step.wrote.1 (within_late pushing.start step.late step.waits)

  -- on the machine on which the driver's push is to take a step, the model's push stands, with what it has written
  there : (step : Writing code kinds.Overflow pushing) → StandsThere step.capacity step.p step.c.stage (step.es ++ step.late) step.n step.t
  there step =
      let t = step.t in
      let p = step.p in
      let es : List (Event T) = step.es ++ step.late in
      -- what the queue's laws say of the push on this machine
      let is_sound = sound_of code step.capacity queues.Overflow t step.met.run in
      let at = stands t.world p pushing.start (pushing.flight step.c step.m) step.met.there in
      let stands_now = stands_there (family t.world.coding queues.Overflow t.world.capacity) t is_sound p in
      let now = stands_now at.x at.since (pushing.flight step.c step.m) at.found at.doing in
      let core_now = is_sound.state.core in
      let words : t.world.words ≡ layout is_sound.state.roles core_now = is_sound.fit.words in
      -- the span of its party tells what the push has written
      let span : Open at.x.start (overflow_wrote t.world.capacity core_now p v step.c.stage) ≡ Open pushing.start es =
      sym now.span ∙ (step.met.span step.wrote.0 ∙ spans_on pushing.start [] es (all_within step)) in
      record {
        core = core_now;
        wrote =
            same_open pushing.start at.x.start es (overflow_wrote t.world.capacity core_now p v step.c.stage) (sym span)
            ∙ ap (λ z. overflow_wrote z core_now p v step.c.stage) step.met.run.sized;
        read = ap (λ ws. slice_index ws 1) words;
        -- each cell of the queue is where the position says
        cell =
            λ position. ap (λ ws. slice_index ws (cell_word step.capacity position)) words
            ∙ word_at core_now.write core_now.read (free is_sound.state.roles.producer) (free is_sound.state.roles.consumer) core_now.cells
            (cell_word step.capacity position) (position % (step.capacity + 1)) refl;
        found = ap (λ z. old_of t.world.words (ask_of (push_asks z step.c.stage v))) (sym step.stands.1) ∙ step.met.found;
      }

  -- the events of the step with which a push ends, by its stage and its end
  effects_end : (w : World T) (p : ℕ) (c : Pushing) (e : PushEnd) (m : OneWord) (n : ℕ) → push_after c n ≡ Done e
      → over_effects w p (pushing.flight c m) n
      ≡ effects_of p (PushIndex v) (overflow_push_effect w.words c.capacity (Index v) c.stage n)
      (Some (popped (push_answer v (push_kept c m n).0 e)))
  effects_end w p c e m n leads = rw leads refl

  -- with what was written before, the last step of the push has written what a push with this end writes
  abbrev TellsAtEnd : ℕ → ℕ → Pushing → PushEnd → OneWord → ℕ → List (Event T) → World T → PushStage → Type 0
  TellsAtEnd capacity p c e m n es w stage =
      es ++ effects_of p (PushIndex v) (overflow_push_effect w.words c.capacity (Index v) stage n)
      (Some (popped (push_answer v (push_keeps m stage n).0 e)))
      ≡ over_push_wrote p v (push_keeps m stage n).0 e

  -- the last step of a push writes what a push with its end writes in all, by the machine on which the push stands
  tells_end : {capacity p : ℕ} (c : Pushing) (e : PushEnd) (m : OneWord) {n : ℕ} {es : List (Event T)} {t : Trace T} {stage : PushStage}
      → StandsThere capacity p stage es n t → HasPushWord stage → over_push_skips stage n ≡ false → push_takes c stage n ≡ Done e
      → TellsAtEnd capacity p c e m n es t.world stage
  tells_end = grind arith

  -- what a step of the push writes
  abbrev its_effects : Writing code kinds.Overflow pushing → List (Event T)
  its_effects step = over_effects step.t.world step.p (pushing.flight step.c step.m) step.n

  -- all that the step writes is the push's own
  its_own : (step : Writing code kinds.Overflow pushing) → events_by step.p (its_effects step) ≡ its_effects step
  its_own step = by_mine step.p (its_effects step) (push_own step.t.world step.p (record { call = step.c; given = v; room = step.m }) step.n)

  -- a push, as the driver makes it
  abbrev pub push_driven : Driven T Pushing OneWord PushEnd
  push_driven = record { want = λ c. push_want c v; after = push_after; kept = push_kept; call = pushing }

  -- a push of the overflowing queue is a call of the model
  pub push_is_call : IsCallIn (overflow_machines code) push_driven
  push_is_call =
      record {
        -- the model's push wants the word that the driver's push wants, and goes to the
        -- stage to which that goes
        same_want = λ c m. refl;
        same_after = λ capacity c m n h. same_after c m n;
        hears = λ c m a n e. hears c m a n c.stage e;
        stays = λ capacity c d n h e. (let next = stays capacity c d n c.stage h.1 h.2 e in (h.0, next.0, next.1));
        asks = λ capacity c h. asks capacity c.capacity c.stage h.1 h.2;
        -- only its first load may end it outside the history
        past = λ capacity c d n k h e. (stays capacity c d n c.stage h.1 h.2 e).2 k;
        finds = λ c m n small t. finds n c.stage small t;
        leaves = λ c a n t e. leaves c a n c.stage t e;
        -- what a step writes, and what came late, lies within the call
        tells = λ step d leads. (
          step.wrote.0,
          within_both (step.es ++ step.late) (events_by step.p (its_effects step)) (all_within step)
              (subst (λ zs. AllByRecursion IsWithin zs) (sym (its_own step)) (within_effect step.p (PushIndex v) _ _)),
        );
        -- the last step writes what a push with its end writes, as the machine on which it stands has it
        tells_all = λ step e skip leads still. (
          acts step.c e step.n step.c.stage step.stands.2 skip leads,
          ap (λ zs. (step.es ++ step.late) ++ zs) (its_own step ∙ effects_end step.t.world step.p step.c e step.m step.n leads)
              ∙ tells_end step.c e step.m (there step) step.stands.2 skip leads,
        );
      }

  -- each step of a push keeps the rule of the table: it is a machine
  pub over_push_keeps : KeepsOver code kinds.Overflow (λ capacity. 4 + (capacity + 1)) push_driven
  over_push_keeps = keeps_in (overflow_machines code) push_driven push_is_call

  -- a push begins on a pass that has the producer's role and no call under way, on a queue with a capacity
  pub over_push_first : (x : View T) → x.going ≡ None → x.other ≡ [] → 0 < x.share.part → 0 < x.capacity
      → x.capacity < 2 ^ 32 → HasRole Producer x.made
      → At code kinds.Overflow pushing x x (first_push x.capacity) (record { 0 = 0 })
  over_push_first x idle alone any has_cells small has =
      let some : (x.capacity == 0) ≡ false = grind (arith, nat_tests) in
      at_begin idle alone any (small, refl, rw some tt) refl
      (role_begins queues.Overflow (PushIndex v) refl (λ kept. refl) Producer (λ o p. tt) (λ roles p is. holds_it roles.producer p is) has) (λ p. (refl, tt))
