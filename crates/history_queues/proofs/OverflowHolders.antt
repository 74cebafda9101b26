-- In each history of an overflowing queue an index is published only by the holder of the producer's role,
-- where at most the capacity waits, and what is taken out waits first.
use Rattle.history.proofs.Names.{◌≡◌, inl, inr, ℕ, ◌+◌, ◌%◌, ◌<◌, ◌==◌, Bool, true, false, cond, Option, Some, None}
use Rattle.history.proofs.Names.{List, [], ◌∷◌, ◌++◌, get_or, length, map, slice_index, refl, sym, ap, subst, ◌∙◌}
use Rattle.history.proofs.Names.{append_assoc, append-nil, arith, nat_tests, length-map, fold-append}
use Rattle.steps.specs.declared.copied.OneWord.{OneWord}
use Rattle.steps.specs.declared.queues.roles.Role.TheVariants.{Producer}
use Rattle.model.specs.declared.event.Answer.{Answer}
use Rattle.model.specs.declared.event.Answer.TheVariants.{PoppedNone}
use Rattle.model.specs.declared.event.Event.{Event}
use Rattle.model.specs.declared.event.Event.TheVariants.{Published, Acted}
use Rattle.model.specs.declared.event.Item.{Item}
use Rattle.model.specs.declared.event.Start.{Start}
use Rattle.model.specs.declared.event.Start.TheVariants.{Queues}
use Rattle.model.specs.declared.families.Flight.{Flight}
use Rattle.model.specs.declared.families.queues.QueueStart.TheVariants.{PushIndex, Pop}
use Rattle.model.specs.declared.families.queues.calls.QueueFlight.TheVariants.{Role as OnRole, Values, Length}
use Rattle.model.specs.declared.families.queues.effects.Effect.{Effect}
use Rattle.model.specs.declared.families.queues.effects.Effect.TheVariants.{Quiet}
use Rattle.history.proofs.Names.{Coding}
use Rattle.model.specs.declared.families.queues.effects.Effect.TheVariants.{Publishes, PublishesAndActs, HandsOut, TakesOut, MakesRoom}
use Rattle.model.specs.declared.party.Doing.TheVariants.{Going}
use Rattle.model.specs.declared.party.Party.{Party}
use Rattle.history.proofs.Names.{ask_of, beside_of, words_of_index, answer_in, producer_after}
use Rattle.history.proofs.Names.{consumer_after, producer_of, consumer_of, waiting, overflow_push_effect}
use Rattle.history.proofs.Names.{overflow_pop_effect, takes_effect, acts_if_done, party_of, Each, step_in, old_of}
use Rattle.history.proofs.Names.{Trace, capacity_error, AreRight, Each-nil, stands_there}
use Rattle.laws_queues.proofs.Overflow.Core.{oldest}
use Rattle.laws_queues.proofs.Overflow.Knows.{KnowsOverflowPush}
use Rattle.laws_queues.proofs.Overflow.Knows.{KnowsOverflowPop}
use Rattle.laws_queues.proofs.Queues.Invariant.{waiting_is}
use Rattle.laws_queues.proofs.Queues.Knows.{layout}
use Rattle.laws_queues.proofs.Queues.Sound.{admitted_fits}
use Rattle.steps.specs.declared.queues.overflow.Pop.{Pop as Popping}
use Rattle.steps.specs.declared.queues.overflow.PushStage.{PushStage}
use Rattle.steps.specs.declared.queues.overflow.PushStage.TheVariants as pushes
use Rattle.steps.specs.declared.routine.Running.{Running}
use Rattle.steps.specs.Queues.Overflow.{cell_word, push_asks, pop_asks}
use Rattle.steps.specs.declared.queues.overflow.PopStage.{PopStage}
use Rattle.steps.specs.declared.queues.overflow.PopStage.TheVariants as pops
use Rattle.model.specs.declared.event.Item.TheVariants.{Index}
use Rattle.model.specs.declared.families.Flight.TheVariants as flights
use Rattle.model.specs.declared.families.queues.QueueKind.TheVariants as queues
use Rattle.model.specs.declared.families.queues.calls.OverflowCall.TheVariants as overflows
use Rattle.model.specs.declared.families.queues.calls.QueueFlight.TheVariants.{Indices, Overflow}
use Rattle.model.specs.declared.turn.Kind.TheVariants as kinds
use Rattle.model.specs.Families.Queues.Calls.{after}
use Rattle.model.specs.Families.Queues.Steps.{effects_of}
use Rattle.model.specs.World.{opening}
use Rattle.model.proofs.Frame as frame
use Rattle.laws_queues.proofs.Overflow.Waiting.{Pushing}
use Rattle.laws_queues.proofs.Queues.Core.{Core, Good}
use Rattle.laws_queues.proofs.Queues.Invariant.{family}
use Rattle.laws_queues.proofs.Queues.Sound.{opening_sound, fresh_laws}
use Rattle.history.specs.History.{IsRun, IsHistory}
use Rattle.history_queues.specs.Overflow.{ByOverHolder}
use Rattle.history.specs.Roles.{ByHolderOf}
use Rattle.history.proofs.EachEvent.{each_event, IsHanded}
use Rattle.history_queues.proofs.Holders.{KeepsList, IsListed, listed_in}
use Rattle.history_queues.proofs.Overflows.{IsOwn, push_effect_own, over_effects, facts, beside_waits}
use Rattle.lemmas.proofs.Cases.{on_bool}

module _ {T : Type 0} (c : ℕ) where
  -- the event is right: its party has the role that it needs, and it publishes or takes
  -- out as the list allows
  abbrev Rightly : List (Event T) → Event T → Type 0
  Rightly before e = ByOverHolder before e × KeepsList (c + 1) before e

  -- each of these events, one after another, is right behind `before`
  abbrev AllRightly : List (Event T) → List (Event T) → Type 0
  AllRightly before es = AreRight Rightly before es

  -- a step with this effect publishes where at most the capacity waits, and takes out what waits first
  abbrev FitsList : List (Event T) → Effect T → Type 0
  FitsList before (Publishes item) = length (waiting before) < c + 1
  FitsList before (PublishesAndActs item) = length (waiting before) < c + 1
  FitsList before (HandsOut item) = (rest : List (Item T)) × (waiting before ≡ item ∷ rest)
  FitsList before (TakesOut index) = (rest : List (Item T)) × (waiting before ≡ Index index ∷ rest)
  FitsList before (MakesRoom item q pushed) = (rest : List (Item T)) × (waiting before ≡ item ∷ rest)
  FitsList before effect = Unit {0}

  -- events that are right one after the other are right together
  right_both : (before xs ys : List (Event T)) → AllRightly before xs → AllRightly (before ++ xs) ys → AllRightly before (xs ++ ys)
  right_both before [] ys first_right second_right = subst (λ zs. AllRightly zs ys) (append-nil before) second_right
  right_both before (x ∷ xs) ys first_right second_right = (
    first_right.0,
    right_both (before ++ x ∷ []) xs ys first_right.1 (subst (λ zs. AllRightly zs ys) (sym (append_assoc before (x ∷ []) xs)) second_right),
  )

  -- an event that gives the producer's role to nobody leaves it with the party
  produces : (before : List (Event T)) (e : Event T) (p : ℕ) → ((o : Option ℕ) → producer_after o e ≡ o)
      → producer_of before ≡ Some p → producer_of (before ++ e ∷ []) ≡ Some p
  produces = grind (arith, fold-append)

  -- an event that gives the consumer's role to nobody leaves it with the party
  consumes : (before : List (Event T)) (e : Event T) (p : ℕ) → ((o : Option ℕ) → consumer_after o e ≡ o)
      → consumer_of before ≡ Some p → consumer_of (before ++ e ∷ []) ≡ Some p
  consumes = grind (arith, fold-append)

  -- the act of a push is right where its party has the producer's role
  push_acts : (p v : ℕ) (o : Option (Answer T)) (before : List (Event T)) → producer_of before ≡ Some p → AllRightly before (acts_if_done p (PushIndex v) o)
  push_acts = grind arith

  -- the act of a pop is right where its party has the consumer's role
  pop_acts : (p : ℕ) (o : Option (Answer T)) (before : List (Event T)) → consumer_of before ≡ Some p → AllRightly before (acts_if_done p Pop o)
  pop_acts p None before holds = tt
  pop_acts p (Some answer) before holds = ((holds, tt), tt)

  -- the events of a push's step are right, where its effect fits the list and its party
  -- has the producer's role
  push_right : (p v : ℕ) (effect : Effect T) (o : Option (Answer T)) (before : List (Event T)) → IsOwn effect
      → FitsList before effect → producer_of before ≡ Some p → AllRightly before (effects_of p (PushIndex v) effect o)
  push_right = grind (arith, push_acts, produces, inl)

  -- a pop that hands out what waits first, as the consumer, writes right events
  hands_right : (p : ℕ) (item : Item T) (o : Option (Answer T)) (before : List (Event T))
      → FitsList before (HandsOut item) → consumer_of before ≡ Some p
      → AllRightly before (effects_of p Pop (HandsOut item) o)
  hands_right = grind (arith, inr, pop_acts, consumes)

  -- what a pop writes leaves the producer's role with its holder
  still : (p : ℕ) (item : Item T) (o : Option (Answer T)) (before : List (Event T))
      → producer_of (before ++ effects_of p Pop (HandsOut item) o) ≡ producer_of before
  still = grind (arith, fold-append)

  -- the events of a pop's step are right, also where it writes the act of a push that waits for room
  takes_right : (p : ℕ) (item : Item T) (waits : Option (ℕ × ℕ)) (o : Option (Answer T)) (before : List (Event T))
      → ((q v : ℕ) → waits ≡ Some (q, v) → producer_of before ≡ Some q) → FitsList before (HandsOut item)
      → consumer_of before ≡ Some p → AllRightly before (effects_of p Pop (takes_effect item waits) o)
  takes_right p item None o before known fits holds = hands_right p item o before fits holds
  takes_right p item (Some push) o before known fits holds =
      right_both before (effects_of p Pop (HandsOut item) o)
      (Acted push.0 (Queues (PushIndex push.1)) PoppedNone ∷ []) (hands_right p item o before fits holds)
      ((still p item o before ∙ known push.0 push.1 refl, tt), tt)

  -- a pop that is about to take out has read what waits first
  abbrev PopFits : List (Event T) → List ℕ → ℕ → ℕ → PopStage → Type 0
  PopFits before words capacity n (pops.MovesRead read) =
      n ≡ read → FitsList before (HandsOut (Index (slice_index words (cell_word capacity read))))
  PopFits before words capacity n stage = Unit {0}

  -- each step of a pop that has read what waits first writes right events
  pop_right : (words : List ℕ) (capacity p n : ℕ) (waits : Option (ℕ × ℕ)) (stage : PopStage)
      (o : Option (Answer T)) (before : List (Event T))
      → ((q v : ℕ) → waits ≡ Some (q, v) → producer_of before ≡ Some q) → PopFits before words capacity n stage
      → consumer_of before ≡ Some p
      → AllRightly before (effects_of p Pop (overflow_pop_effect words waits capacity stage n) o)
  pop_right = grind (arith, pop_acts, on_bool, takes_effect, slice_index, nat_tests, takes_right)

  -- ---- what a call knows of the list

  -- the queue's laws hold of its core k, in which there waits what the events say, and which lies in the table's words as
  -- its read position and its cells
  module _ (k : Core ℕ) (words : List ℕ) (before : List (Event T)) (good : Good 1 words_of_index (c + 1) k)
      (same : waiting before ≡ map Index k.waiting) (is_read : slice_index words 1 ≡ k.read)
      (cell : (position : ℕ) → slice_index words (cell_word c position) ≡ get_or k.cells (position % (c + 1)) 0) where
    -- what waits first stands in the cell of the read position
    front : (read : ℕ) → read ≡ k.read → 0 < length k.waiting → (rest : List (Item T)) × (waiting before ≡ Index (slice_index words (cell_word c read)) ∷ rest)
    front read here some =
        let old = oldest c k good some in
        let value : get_or k.cells (k.read % (c + 1)) 0 ≡ slice_index words (cell_word c read) =
        ap (λ z. get_or k.cells (z % (c + 1)) 0) (sym here) ∙ sym (cell read) in
        (map Index old.0, same ∙ (ap (map Index) old.1 ∙ ap (λ u. Index u ∷ map Index old.0) value))

    -- as many wait as the queue's laws say
    long : length (waiting before) ≡ length k.waiting
    long = ap length same ∙ length-map k.waiting Index

    -- each step of a push has an effect that fits the list
    push_fits : (v capacity n : ℕ) (stage : PushStage) → capacity ≡ c → KnowsOverflowPush c k v stage
        → (stage_found : old_of words (ask_of (push_asks capacity stage v)) ≡ n)
        → FitsList before (overflow_push_effect words capacity (Index v) stage n)
    push_fits v capacity n pushes.HandsBack size knows found = tt
    push_fits v capacity n pushes.LoadsWrite size knows found = tt
    push_fits v capacity n (pushes.LoadsRead write) size knows found = tt
    push_fits v capacity n (pushes.StoresCell write read) size knows found = tt
    push_fits v capacity n (pushes.StoresWrite write read) size knows found = go _
      where
        -- at most the capacity waits, so there is room for the index
        room : length (waiting before) < c + 1
        room = omega (arith, good.write, knows.2, knows.3, long)

        -- whether the push acts as it publishes or not, it publishes where there is room
        go : (b : Bool) → FitsList before (cond b (PublishesAndActs (Index v)) (Publishes (Index v)))
        go true = room
        go false = room
    push_fits v capacity n (pushes.MovesRead read) size knows found =
        on_bool (λ b. FitsList before (cond b (TakesOut (slice_index words (cell_word capacity read))) Quiet)) (n == read)
        (λ d.
        let is : n ≡ read = grind (arith, nat_tests) in
        let here : read ≡ k.read = sym is ∙ (sym found ∙ is_read) in
        let some : 0 < length k.waiting = (omega (arith, good.write, knows.2)) in
        subst (λ z. FitsList before (TakesOut (slice_index words (cell_word z read)))) (sym size) (front read here some))
        (λ d. tt)
    push_fits v capacity n (pushes.LoadsCell read) size knows found = tt

    -- each step of a pop, where it takes out, has read what waits first
    pop_fits : (room : OneWord) (capacity n : ℕ) (stage : PopStage) → capacity ≡ c
        → KnowsOverflowPop c k room stage → old_of words (ask_of (pop_asks capacity stage)) ≡ n
        → PopFits before words capacity n stage
    pop_fits room capacity n pops.FindsNone size knows found = tt
    pop_fits room capacity n pops.LoadsRead size knows found = tt
    pop_fits room capacity n (pops.LoadsWrite read) size knows found = tt
    pop_fits room capacity n (pops.LoadsCell read) size knows found = tt
    pop_fits room capacity n (pops.MovesRead read) size knows found =
        λ is.
        let here : read ≡ k.read = sym is ∙ (sym found ∙ is_read) in
        let some : 0 < length k.waiting = (omega (arith, good.write, knows.2)) in
        subst (λ z. FitsList before (HandsOut (Index (slice_index words (cell_word z read))))) (sym size) (front read here some)

  module _ (en : Coding T) {t : Trace T} (s : frame.Sound (family en queues.Overflow c) t) where
    -- the words of the machine are those of the queue, as its laws have it
    its_words : t.world.words ≡ layout s.state.roles s.state.core
    its_words = s.fit.words

    -- what waits is what the queue's laws say
    its_waiting : waiting t.events ≡ map Index s.state.core.waiting
    its_waiting = waiting_is t.events (map Index s.state.core.waiting) s.holds.book

    -- the read position is that of the queue
    its_read : slice_index t.world.words 1 ≡ s.state.core.read
    its_read = ap (λ ws. slice_index ws 1) its_words

    -- each cell has what the queue has there
    its_cell : (position : ℕ) → slice_index t.world.words (cell_word c position) ≡ get_or s.state.core.cells (position % (c + 1)) 0
    its_cell = grind arith

    -- a push is handed what stands in the word that it asks for
    push_handed : (run : Pushing) (n : ℕ)
        → IsHanded t (flights.Queues (Overflow (overflows.Push run))) n
        → old_of t.world.words (ask_of (push_asks run.call.capacity run.call.stage run.given)) ≡ n
    push_handed = grind arith

    -- a pop is handed what stands in the word that it asks for
    pop_handed : (run : Running Popping (Unit {0}) OneWord) (n : ℕ)
        → IsHanded t (flights.Queues (Overflow (overflows.Pop run))) n
        → old_of t.world.words (ask_of (pop_asks run.call.capacity run.call.stage)) ≡ n
    pop_handed = grind arith

    -- each step of any call on an overflowing queue writes right events
    over_right : (p n : ℕ) (start : Start T) (flight : Flight T)
        → (family en queues.Overflow c).At s.state p start flight → IsHanded t flight n
        → AllRightly t.events (over_effects t.world p flight n)
    over_right p n (Queues (PushIndex v)) (flights.Queues (Overflow (overflows.Push run))) stands_at handed =
        grind (arith, push_right, after, push_effect_own, push_fits, its_waiting, its_read, its_cell, push_handed)
    over_right p n (Queues Pop) (flights.Queues (Overflow (overflows.Pop run))) stands_at handed =
        -- a push that waits for room is the producer's, and the cell has the index that the pop has read
        let waits_here = beside_waits en c t en c s t.world.kept p in
        let fits_here = pop_fits s.state.core t.world.words t.events s.holds.good its_waiting its_read its_cell run.room in
        pop_right t.world.words run.call.capacity p n (beside_of t.world.words t.world.kept t.world.latest p)
        run.call.stage (answer_in (after t.world.coding (Overflow (overflows.Pop run)) n)) t.events
        (λ q v e. (waits_here q v e s.fit.kept).producer)
        (fits_here run.call.capacity n run.call.stage stands_at.1 stands_at.2 (pop_handed run n handed))
        (s.holds.consumers ∙ stands_at.0)
    over_right p n (Queues start) (flights.Queues (OnRole call)) stands_at handed = tt
    over_right p n (Queues start) (flights.Queues (Length which run)) stands_at handed = tt
    over_right p n (Queues start) (flights.Queues (Indices call)) stands_at handed = absurd stands_at
    over_right p n (Queues start) (flights.Queues (Values call)) stands_at handed = absurd stands_at
    over_right p n (Queues start) (flights.Queues (Overflow call)) stands_at handed = absurd stands_at
    over_right p n start flight stands_at handed = absurd stands_at

    -- each step of the machine writes right events
    step_right : (p n : ℕ) (x : Party T) (flight : Flight T) (since : ℕ) → party_of p t.world.latest ≡ Some x
        → x.doing ≡ Going flight since → IsHanded t flight n → AllRightly t.events (step_in t.world p x flight n).wrote
    step_right p n x flight since found doing handed =
        let there = stands_there (family en queues.Overflow c) t s p x since flight found doing in
        let facts_here = facts en c t.world en c p in
        let fact = facts_here n s.state.roles s.state.core x.start flight t.world.kept s.fit.kept there.at in
        subst (AllRightly t.events) (sym fact.writes) (over_right p n x.start flight there.at handed)

module _ {T : Type 0} (code : Coding T) (capacity : ℕ) where
  -- in every run each event is right: its party has the role that it needs, and what it publishes or takes
  -- out fits the list
  rightly : {t : Trace T} → IsRun code kinds.Overflow capacity t → Each (Rightly t.world.capacity) t.events
  rightly {t} run =
      let world_now = t.world in
      let first : Trace T = opening world_now.coding world_now.kind world_now.capacity world_now.parties in
      let admitted : capacity_error kinds.Overflow world_now.capacity ≡ None =
      subst (λ kind. capacity_error kind world_now.capacity ≡ None) run.of_kind run.reached.admitted in
      let sound : frame.Sound (family world_now.coding queues.Overflow world_now.capacity) first =
      subst (λ kind. frame.Sound (family world_now.coding queues.Overflow world_now.capacity)
      (opening world_now.coding kind world_now.capacity world_now.parties))
      (sym run.of_kind)
      (opening_sound world_now.coding run.reached.coded queues.Overflow world_now.capacity world_now.parties
      (admitted_fits queues.Overflow world_now.capacity admitted))
      in
      subst (λ z. Each (Rightly world_now.capacity) z.events) (sym run.fresh.is)
      (each_event
      (fresh_laws world_now.coding run.reached.coded queues.Overflow world_now.capacity) (Rightly world_now.capacity)
      (λ before p start. (tt, tt)) (λ before p start answer. (tt, tt)) (λ before owner. (tt, tt))
      (λ t s. step_right world_now.capacity world_now.coding s) run.fresh.turns run.fresh.fresh sound
      (Each-nil (Rightly world_now.capacity)))

  -- in every history each event is of a party with the role that it needs
  pub history_by_over_holders : (events : List (Event T)) → IsHistory code kinds.Overflow capacity events → Each ByOverHolder events
  history_by_over_holders events history =
      subst (Each ByOverHolder) (sym history.is) (λ before after e is. (rightly history.run before after e is).0)

  -- a value is published where at most the capacity waits, and taken out, by a push or by a pop, where it waits first
  pub over_lists_kept : (events : List (Event T)) → IsHistory code kinds.Overflow capacity events → Each (KeepsList (capacity + 1)) events
  over_lists_kept events history =
      subst (Each (KeepsList (capacity + 1))) (sym history.is)
      (λ before after e is. subst (λ n. KeepsList (n + 1) before e) history.run.sized (rightly history.run before after e is).1)

  -- at any time what was taken out is a beginning of what was published, and at most one more than the capacity waits
  pub over_listed : (events : List (Event T)) → IsHistory code kinds.Overflow capacity events
      → (part rest : List (Event T)) → events ≡ part ++ rest → IsListed (capacity + 1) part
  over_listed events history part rest events_are = listed_in (capacity + 1) events (over_lists_kept events history) part rest events_are

  -- who publishes as `ByOverHolder` says is the holder of the producer's role
  producer_of_it : (before : List (Event T)) (e : Event T) → ByOverHolder before e → ByHolderOf Producer before e
  producer_of_it before (Published p item) holds = holds
  producer_of_it before e holds = tt

  -- only the holder of the producer's role publishes
  pub history_by_producers : (events : List (Event T)) → IsHistory code kinds.Overflow capacity events → Each (ByHolderOf Producer) events
  history_by_producers events is_history before after e is = producer_of_it before e (history_by_over_holders events is_history before after e is)
