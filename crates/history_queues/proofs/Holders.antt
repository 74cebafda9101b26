-- In a bounded queue only the holder of a role publishes, or takes out; there is room for what is published, and what is
-- taken out waited first.
use Rattle.history.proofs.Names.{◌≡◌, ◌<◌, ◌≤◌, ℕ, Bool, false, Option, Some, None, List, [], ◌∷◌}
use Rattle.history.proofs.Names.{◌++◌, length, map, refl, sym, ap, subst, ◌∙◌, append-nil, append_assoc}
use Rattle.history.proofs.Names.{arith, length-map, fold-append}
use Rattle.model.specs.declared.event.Answer.{Answer}
use Rattle.model.specs.declared.event.Event.{Event}
use Rattle.model.specs.declared.event.Event.TheVariants.{Begun, Published, HandedOut}
use Rattle.model.specs.declared.event.Item.{Item}
use Rattle.model.specs.declared.event.Start.{Start}
use Rattle.model.specs.declared.event.Start.TheVariants.{Queues}
use Rattle.model.specs.declared.families.Flight.{Flight}
use Rattle.model.specs.declared.families.Registry.{Registry}
use Rattle.model.specs.declared.families.queues.QueueStart.{QueueStart}
use Rattle.model.specs.declared.families.queues.QueueStart.TheVariants.{PushIndex, Pop}
use Rattle.model.specs.declared.families.queues.Roles.{Roles}
use Rattle.model.specs.declared.families.queues.calls.QueueFlight.{QueueFlight}
use Rattle.model.specs.declared.families.queues.calls.QueueFlight.TheVariants.{Values, Length}
use Rattle.model.specs.declared.party.Doing.{Doing}
use Rattle.model.specs.declared.party.Party.{Party}
use Rattle.model.specs.declared.turn.Refusal.{Refusal}
use Rattle.model.specs.declared.turn.Turn.{Turn}
use Rattle.history.proofs.Names.{Coding, one_word, step_of, producer_of, consumer_of}
use Rattle.history.proofs.Names.{publishes, hands_out, published, handed_out, waiting, push_effect, pop_effect}
use Rattle.history.proofs.Names.{acts_if_done, party_of, Each, whose, is_party, call_refusal}
use Rattle.history.proofs.Names.{after_turn, events_of, events_of_answer, ending_of, number_of}
use Rattle.history.proofs.Names.{unless_refused, attempt_on, run_on, step_in, Trace, capacity_error, AreRight}
use Rattle.history.proofs.Names.{Each-append, Each-less, Each-nil, stands_there}
use Rattle.laws_queues.proofs.Queues.Invariant.{machine_kind, waiting_is}
use Rattle.laws_queues.proofs.Queues.Values.{Val}
use Rattle.laws_queues.proofs.Ring.Kinds.{Ring, of_indices}
use Rattle.history.proofs.Names.{AllMay, attempt_sound}
use Rattle.laws_queues.proofs.Ring.Kinds.{of_values, kind_of}
use Rattle.laws_queues.proofs.Ring.Knows.{KnowsPush, KnowsPop}
use Rattle.laws_queues.proofs.Queues.Sound.{admitted_fits}
use Rattle.std.proofs.Common.{length-append}
use Rattle.std.proofs.lemmas.Grind.{flat_map-append}
use Rattle.steps.specs.declared.queues.roles.Role.{Role as Side}
use Rattle.steps.specs.declared.queues.roles.Role.TheVariants.{Producer, Consumer}
use Rattle.steps.specs.declared.queues.ring.PushStage.{PushStage}
use Rattle.steps.specs.declared.queues.ring.PushStage.TheVariants as pushes
use Rattle.steps.specs.declared.queues.ring.PopStage.{PopStage}
use Rattle.steps.specs.declared.queues.ring.PopStage.TheVariants as pops
use Rattle.model.specs.declared.families.Flight.TheVariants as flights
use Rattle.model.specs.declared.families.Registry.TheVariants as registries
use Rattle.model.specs.declared.families.queues.QueueKind.TheVariants.{IndexQueue, Queue}
use Rattle.model.specs.declared.families.queues.QueueStart.TheVariants.{Push, Peek}
use Rattle.model.specs.declared.families.queues.calls.RingCall.TheVariants as rings
use Rattle.model.specs.declared.families.queues.calls.QueueFlight.TheVariants.{Role, Indices, Overflow}
use Rattle.model.specs.Families.Queues.Roles.{GrantsRight}
use Rattle.model.specs.Families.Queues.Steps.{effects_of}
use Rattle.model.specs.World.{opening}
use Rattle.model.proofs.Frame as frame
use Rattle.laws_queues.proofs.Queues.Core.{Core}
use Rattle.laws_queues.proofs.Queues.Invariant.{family}
use Rattle.laws_queues.proofs.Queues.Values as values
use Rattle.steps.specs.Copied.{value_in}
use Rattle.laws_queues.proofs.Queues.Knows.{At}
use Rattle.laws_queues.proofs.Queues.Sound.{opening_sound, fresh_laws}
use Rattle.model.specs.Fresh.{IsFreshTurn}
use Rattle.history.specs.History.{IsRun, IsHistory}
use Rattle.history.specs.Roles.{ByHolder, ByHolderOf, role_after, marks}
use Rattle.history.proofs.OneHolder as one
use Rattle.history.proofs.OneHolder.{RoleEvents, HasOneHolder}
use Rattle.history_queues.proofs.QueueRuns.{queue_run}

module _ {T : Type 0} (c : ℕ) where
  -- the event publishes a value only where fewer than the capacity wait, and takes out only the
  -- value that waits first
  abbrev pub KeepsList : List (Event T) → Event T → Type 0
  KeepsList before (Published p item) = length (waiting before) < c
  KeepsList before (HandedOut p item) = (rest : List (Item T)) × (waiting before ≡ item ∷ rest)
  KeepsList before e = Unit {0}

  -- the event is right: its party holds the role that it needs, and it keeps the list of what waits
  abbrev Rightly : List (Event T) → Event T → Type 0
  Rightly before e = ByHolder before e × KeepsList before e

  -- a push that is to publish has room: fewer than the capacity wait
  abbrev RoomAt : List (Event T) → PushStage → Type 0
  RoomAt before (pushes.StoresWrite write) = length (waiting before) < c
  RoomAt before stage = Unit {0}

  -- a pop that is to take out takes the value that waits first
  abbrev FirstAt : List (Event T) → Item T → PopStage → Type 0
  FirstAt before item (pops.StoresRead read) = (rest : List (Item T)) × (waiting before ≡ item ∷ rest)
  FirstAt before item stage = Unit {0}

  -- each of these events, one after another, is right behind `before`
  abbrev AllRightly : List (Event T) → List (Event T) → Type 0
  AllRightly before es = AreRight Rightly before es

  -- events that are right, and others that are right after anything, are right together
  both : (before xs ys : List (Event T)) → AllRightly before xs → ((b : List (Event T)) → AllRightly b ys) → AllRightly before (xs ++ ys)
  both before [] ys first_right second_right = second_right before
  both before (x ∷ xs) ys first_right second_right = (first_right.0, both (before ++ x ∷ []) xs ys first_right.1 second_right)

  -- the start of a push in this queue, of indices or of values
  abbrev push_of : (r : Ring) → Val T (kind_of r) → QueueStart T
  push_of of_indices v = PushIndex v
  push_of of_values v = Push v

  -- the act of a push is right where the producer's role is its party's
  push_acts : (r : Ring) (p : ℕ) (v : Val T (kind_of r)) (o : Option (Answer T)) (before : List (Event T))
      → producer_of before ≡ Some p → AllRightly before (acts_if_done p (push_of r v) o)
  push_acts = grind arith

  -- the act of a pop is right where the consumer's role is its party's
  pop_acts : (p : ℕ) (o : Option (Answer T)) (before : List (Event T)) → consumer_of before ≡ Some p → AllRightly before (acts_if_done p Pop o)
  pop_acts p None before holds = tt
  pop_acts p (Some answer) before holds = ((holds, tt), tt)

  -- the end of a call is right
  ending_right : (p : ℕ) (start : Start T) (o : Option (Answer T)) (before : List (Event T)) → AllRightly before (ending_of p start o)
  ending_right = grind arith

  -- the events of a step of a push are right, where its party has the producer's role and there is room
  push_right : (r : Ring) (p : ℕ) (v : Val T (kind_of r)) (item : Item T) (stage : PushStage)
      (o : Option (Answer T)) (before : List (Event T))
      → producer_of before ≡ Some p → RoomAt before stage
      → AllRightly before (effects_of p (push_of r v) (push_effect item stage) o)
  push_right = grind (arith, push_acts, fold-append)

  -- the events of a step of a pop are right, where its party has the consumer's role and
  -- its value waits first
  pop_right : (p : ℕ) (item : Item T) (stage : PopStage) (o : Option (Answer T)) (before : List (Event T))
      → consumer_of before ≡ Some p → FirstAt before item stage
      → AllRightly before (effects_of p Pop (pop_effect item stage) o)
  pop_right = grind (arith, pop_acts, fold-append)

  -- what a push and a pop know of the list, where these values wait
  module _ {V : Type 0} (code : Coding V) (named : V → Item T) (k : Core V) (before : List (Event T)) (same : waiting before ≡ map named k.waiting) where
    -- a push that is to publish has room
    room_at : (v : V) (stage : PushStage) → KnowsPush code c k v stage → RoomAt before stage
    room_at = grind (arith, length, waiting, length-map)

    -- a pop that is to take out has read the value that waits first
    first_at : (words : List ℕ) (stage : PopStage) → KnowsPop code c k words stage → FirstAt before (named (value_in code.value_of code.size words)) stage
    first_at = grind arith

  -- A step of a call of party p, which finds n, after events of which the queue has these roles: a push publishes
  -- as the producer where its stage knows room, and a pop takes out as the consumer what its stage has read first.
  module _ (en : Coding T) (words : List ℕ) (waits : Option (ℕ × ℕ)) (p n : ℕ) (ro : Roles)
      (before : List (Event T)) (producers : producer_of before ≡ ro.producer)
      (consumers : consumer_of before ≡ ro.consumer) where
    -- each step of a call on a queue publishes only where there is room, and takes out only what waits first
    flight_right : (r : Ring) (k : Core (Val T (kind_of r)))
        → waiting before ≡ map (values.item (kind_of r)) k.waiting → (start : QueueStart T) (flight : QueueFlight T)
        → At {T = T} en (kind_of r) c ro k p start flight
        → AllRightly before (step_of en words waits p (Queues start) (flights.Queues flight) n (registries.Queues ro)).wrote
    -- an index queue: its push has room, and its pop takes what waits first
    flight_right of_indices k same (PushIndex v) (Indices (rings.Push run)) stands_at =
        push_right of_indices p v _ run.call.stage _ before (producers ∙ stands_at.0)
        (room_at one_word (values.item IndexQueue) k before same v run.call.stage stands_at.3)
    flight_right of_indices k same Pop (Indices (rings.Pop run)) stands_at = grind (arith, pop_right, first_at, one_word)
    flight_right of_indices k same Peek (Indices (rings.Peek run)) stands_at = tt
    flight_right of_indices k same start (Indices call) stands_at = absurd stands_at
    flight_right of_indices k same start (Values call) stands_at = absurd stands_at
    flight_right of_indices k same start (Overflow call) stands_at = absurd stands_at
    -- a queue of values: its push has room, and its pop takes what waits first
    flight_right of_values k same (Push v) (Values (rings.Push run)) stands_at =
        push_right of_values p v _ run.call.stage _ before (producers ∙ stands_at.0)
        (room_at en (values.item Queue) k before same v run.call.stage stands_at.3)
    flight_right of_values k same Pop (Values (rings.Pop run)) stands_at = grind (arith, pop_right, first_at)
    flight_right of_values k same Peek (Values (rings.Peek run)) stands_at = tt
    flight_right of_values k same start (Indices call) stands_at = absurd stands_at
    flight_right of_values k same start (Values call) stands_at = absurd stands_at
    flight_right of_values k same start (Overflow call) stands_at = absurd stands_at
    -- the calls on roles and lengths publish and take out nothing
    flight_right r k same start (Role call) stands_at = tt
    flight_right r k same start (Length which run) stands_at = tt

  module _ (en : Coding T) (r : Ring) where
    -- the trace is one that the laws of this kind of queue allow
    abbrev SoundAt : Trace T → Type 0
    SoundAt t = frame.Sound (family en (kind_of r) c) t

    module _ (t : Trace T) (s : SoundAt t) where
      -- the step of any party's call publishes only where there is room, and takes out only what waits first
      any_right : (p n : ℕ) (waits : Option (ℕ × ℕ)) (start : Start T) (flight : Flight T) (kept : Registry T)
          → kept ≡ registries.Queues s.state.roles → (family en (kind_of r) c).At s.state p start flight
          → AllRightly t.events (step_of t.world.coding t.world.words waits p start flight n kept).wrote
      any_right p n waits (Queues start) (flights.Queues flight) kept kept_is stands_at =
          let right_here = flight_right en t.world.words waits p n s.state.roles t.events s.holds.producers s.holds.consumers in
          subst (λ z. AllRightly t.events (step_of z t.world.words waits p (Queues start) (flights.Queues flight) n kept).wrote) (sym s.coding)
          (subst (λ k. AllRightly t.events (step_of en t.world.words waits p (Queues start) (flights.Queues flight) n k).wrote) (sym kept_is)
          (right_here r s.state.core (waiting_is t.events (map (values.item (kind_of r)) s.state.core.waiting) s.holds.book) start flight stands_at))
      any_right p n waits start flight kept kept_is stands_at = absurd stands_at

      -- the machine keeps the roles as the queue's laws say
      same_kept : t.world.kept ≡ registries.Queues s.state.roles
      same_kept = s.fit.kept

      -- what the machine writes with an answer of a word to a call is right
      answer_right : (p n : ℕ) (x : Party T) → party_of p t.world.latest ≡ Some x → (doing : Doing T)
          → x.doing ≡ doing → AllRightly t.events (events_of_answer t.world p x n doing)
      answer_right = grind (arith, stands_there, family, same_kept, both, step_in, any_right, ending_right)

      -- what a turn that goes on with a call writes is right
      next_right : (p : ℕ) (o : Option (Party T)) → party_of p t.world.latest ≡ o → AllRightly t.events (Rattle.model.specs.Turns.events_of_next t.world p o)
      next_right = grind (arith, answer_right)

      -- what the machine writes with an answer to a question is right
      decision_right : (p : ℕ) (said : Bool) (o : Option (Party T)) → party_of p t.world.latest ≡ o
          → AllRightly t.events (Rattle.model.specs.Turns.events_of_decision t.world p said o)
      decision_right p said None party_is = tt
      decision_right p said (Some x) party_is = answer_right p (number_of said) x party_is x.doing refl

      -- what any turn writes is right
      turn_right : (turn : Turn T) → AllRightly t.events (events_of t.world turn)
      turn_right = grind (arith, next_right, decision_right)

    -- each event of the trace is right
    abbrev EachRightly : Trace T → Type 0
    EachRightly t = Each Rightly t.events

    -- a turn leaves all events right, refused or not
    attempt_right : (t : Trace T) (turn : Turn T) (o : Option Refusal) → SoundAt t → EachRightly t → EachRightly (unless_refused t (after_turn t turn) o)
    attempt_right t turn None sound_at all = Each-append Rightly t.events (events_of t.world turn) all (turn_right t sound_at turn)
    attempt_right t turn (Some refusal) sound_at all = all

    -- in every run of fresh turns each event is right
    runs_right : (law : Rattle.model.specs.Coding.IsCoding en) (turns : List (Turn T)) (t : Trace T)
        → AllMay IsFreshTurn turns t → SoundAt t → EachRightly t → EachRightly (run_on turns t)
    runs_right law [] t may sound_at all = all
    runs_right law (turn ∷ turns) t may sound_at all =
        runs_right law turns (attempt_on t turn) may.1
        (attempt_sound (family en (kind_of r) c) IsFreshTurn (fresh_laws en law (kind_of r) c) t turn
        (call_refusal t.world turn) refl may.0 sound_at)
        (attempt_right t turn (call_refusal t.world turn) sound_at all)

module _ {T : Type 0} (code : Coding T) (r : Ring) (capacity : ℕ) where
  -- the machine is one of a run of a queue of this capacity
  abbrev IsQueueRun : Trace T → Type 0
  IsQueueRun t = IsRun code (machine_kind (kind_of r)) capacity t

  -- in every machine on a table each event is right
  rightly : (t : Trace T) → IsQueueRun t → Each (Rightly t.world.capacity) t.events
  rightly t run =
      let world_now = t.world in
      let kd = kind_of r in
      let run_here = queue_run code capacity kd t run in
      let first : Trace T = opening world_now.coding world_now.kind world_now.capacity world_now.parties in
      let admitted : capacity_error (machine_kind kd) world_now.capacity ≡ None = subst
      (λ kind. capacity_error kind world_now.capacity ≡ None) run.of_kind run_here.reached.admitted in
      let sound : frame.Sound (family world_now.coding kd world_now.capacity) first = subst
      (λ kind. frame.Sound (family world_now.coding kd world_now.capacity)
      (opening world_now.coding kind world_now.capacity world_now.parties))
      (sym run.of_kind)
      (opening_sound world_now.coding run_here.reached.coded kd world_now.capacity world_now.parties (admitted_fits kd world_now.capacity admitted)) in
      subst (λ z. Each (Rightly world_now.capacity) z.events) (sym run_here.fresh.is)
      (runs_right world_now.capacity world_now.coding r run_here.reached.coded run_here.fresh.turns first
      run_here.fresh.fresh sound (Each-nil (Rightly world_now.capacity)))

  -- in every machine on a table each event is of the party with the role that it needs
  pub by_holders : (t : Trace T) → IsQueueRun t → Each ByHolder t.events
  by_holders t run before after e is = (rightly t run before after e is).0

  -- in every machine on a table each event keeps the list
  pub lists_kept : (t : Trace T) → IsQueueRun t → Each (KeepsList capacity) t.events
  lists_kept t run before after e is = subst (λ n. KeepsList n before e) run.sized (rightly t run before after e is).1

  -- in every history each event is of the party with the role that it needs
  pub history_by_holders : (events : List (Event T)) → IsHistory code (machine_kind (kind_of r)) capacity events → Each ByHolder events
  history_by_holders events history = subst (Each ByHolder) (sym history.is) (by_holders history.trace history.run)

-- ---- at any time what was taken out is a beginning of what was published, and no more than the capacity is left

module _ {T : Type 0} (c : ℕ) where
  -- what was published is what was taken out and then what waits, and at most the capacity waits
  pub record IsListed (events : List (Event T)) : Type 0 where
    -- what was published is what was taken out, and then what waits
    pub book : published events ≡ handed_out events ++ waiting events
    -- at most the capacity waits
    pub few : length (waiting events) ≤ c

  -- with one event more, which publishes or takes out rightly, what was published is still what was taken out and what
  -- waits, and at most the capacity waits
  one_more : (before : List (Event T)) (e : Event T) → KeepsList c before e → IsListed before → IsListed (before ++ e ∷ [])
  -- a value is published: it comes behind those that wait, of which there were fewer than the capacity
  one_more before (Published p x) room listed =
      let more : published (before ++ Published p x ∷ []) ≡ published before ++ x ∷ [] = flat_map-append publishes before (Published p x ∷ []) in
      let same : handed_out (before ++ Published p x ∷ []) ≡ handed_out before =
      flat_map-append hands_out before (Published p x ∷ []) ∙ append-nil (handed_out before) in
      let book : published (before ++ Published p x ∷ []) ≡ handed_out (before ++ Published p x ∷ []) ++ (waiting before ++ x ∷ []) =
      more ∙ (ap (λ xs. xs ++ x ∷ []) listed.book
      ∙ (append_assoc (handed_out before) (waiting before) (x ∷ []) ∙ ap (λ xs. xs ++ (waiting before ++ x ∷ [])) (sym same))) in
      let rest = waiting_is (before ++ Published p x ∷ []) (waiting before ++ x ∷ []) book in
      record {
        book = book ∙ ap (λ xs. handed_out (before ++ Published p x ∷ []) ++ xs) (sym rest);
        few = omega (arith, length-append (waiting before) (x ∷ []), ap length rest);
      }
  -- a value is taken out: it was the first of those that wait
  one_more before (HandedOut p x) first listed =
      let more : handed_out (before ++ HandedOut p x ∷ []) ≡ handed_out before ++ x ∷ [] = flat_map-append hands_out before (HandedOut p x ∷ []) in
      let same : published (before ++ HandedOut p x ∷ []) ≡ published before =
      flat_map-append publishes before (HandedOut p x ∷ []) ∙ append-nil (published before) in
      let book : published (before ++ HandedOut p x ∷ []) ≡ handed_out (before ++ HandedOut p x ∷ []) ++ first.0 =
      same ∙ (listed.book ∙ (ap (λ xs. handed_out before ++ xs) first.1
      ∙ (sym (append_assoc (handed_out before) (x ∷ []) first.0) ∙ ap (λ xs. xs ++ first.0) (sym more)))) in
      let rest = waiting_is (before ++ HandedOut p x ∷ []) first.0 book in
      record {
        book = book ∙ ap (λ xs. handed_out (before ++ HandedOut p x ∷ []) ++ xs) (sym rest);
        few = omega (arith, ap length first.1, ap length rest, listed.few);
      }
  -- any other event leaves what was published and what was taken out
  one_more before e room listed =
      let out : published (before ++ e ∷ []) ≡ published before = flat_map-append publishes before (e ∷ []) ∙ append-nil (published before) in
      let same : handed_out (before ++ e ∷ []) ≡ handed_out before = flat_map-append hands_out before (e ∷ []) ∙ append-nil (handed_out before) in
      let book : published (before ++ e ∷ []) ≡ handed_out (before ++ e ∷ []) ++ waiting before =
      out ∙ (listed.book ∙ ap (λ xs. xs ++ waiting before) (sym same)) in
      let rest = waiting_is (before ++ e ∷ []) (waiting before) book in
      record {
        book = book ∙ ap (λ xs. handed_out (before ++ e ∷ []) ++ xs) (sym rest);
        few = omega (arith, ap length rest, listed.few);
      }

  -- after a right beginning, events that publish and take out rightly leave the list right
  listed_from : {before : List (Event T)} (es : List (Event T)) → Each (KeepsList c) (before ++ es) → IsListed before → IsListed (before ++ es)
  listed_from {before} [] each listed = subst IsListed (sym (append-nil before)) listed
  listed_from {before} (e ∷ es) each listed =
      let longer : (before ++ e ∷ []) ++ es ≡ before ++ e ∷ es = append_assoc before (e ∷ []) es in
      subst IsListed longer (listed_from {before = (before ++ e ∷ [])} es (subst (Each (KeepsList c)) (sym longer) each)
      (one_more before e (each before es e refl) listed))

  -- where each event keeps the list, it is right after every part of the history
  pub listed_in : (events : List (Event T)) → Each (KeepsList c) events → (part rest : List (Event T)) → events ≡ part ++ rest → IsListed part
  listed_in events each part rest events_are =
      listed_from {before = []} part (Each-less (KeepsList c) part rest (subst (Each (KeepsList c)) events_are each))
      (record { book = refl; few = omega arith })

  -- in every history of a queue the list is right after every part of it
  pub always_listed : (code : Coding T) (r : Ring) (events : List (Event T))
      → IsHistory code (machine_kind (kind_of r)) c events → (part rest : List (Event T)) → events ≡ part ++ rest
      → IsListed part
  always_listed code r events history = listed_in events (subst (Each (KeepsList c)) (sym history.is) (lists_kept code r c history.trace history.run))

-- ---- one party at a time holds a role

module _ {T : Type 0} where
  -- a role of a queue, with the items that its holder publishes or takes out
  abbrev pub queue_role : Side → RoleEvents T (Item T)
  queue_role role = record { holder_after = role_after role; marks = marks role; ByItsHolder = ByHolderOf role; Grants = GrantsRight }

  -- who holds the role after these events, if somebody does
  abbrev pub held : Side → List (Event T) → Option ℕ
  held role = one.held (queue_role role)

  begun_leaves : (role : Side) (o : Option ℕ) (p : ℕ) (start : Start T) → role_after {T = T} role o (Begun p start) ≡ o
  begun_leaves Producer o p start = refl
  begun_leaves Consumer o p start = refl

  begun_marks : (role : Side) (p : ℕ) (start : Start T) → marks {T = T} role (Begun p start) ≡ []
  begun_marks Producer p start = refl
  begun_marks Consumer p start = refl

module _ {T : Type 0} (p : ℕ) where
  -- who has the role after an event of another party had it before
  back_from : (role : Side) (before : List (Event T)) (e : Event T) → ByHolderOf role before e
      → is_party p (whose e) ≡ false → role_after role (held role before) e ≡ Some p
      → (held role before ≡ Some p) × (marks role e ≡ [])
  back_from = grind arith

  -- while the party holds the role, an event of another party leaves it there, and publishes
  -- or takes out nothing
  forth_from : (role : Side) (before : List (Event T)) (e : Event T) → ByHolderOf role before e
      → GrantsRight before e → is_party p (whose e) ≡ false → held role before ≡ Some p
      → (marks role e ≡ []) × (role_after role (Some p) e ≡ Some p)
  forth_from = grind arith

module _ {T : Type 0} where
  -- a role has one holder at a time
  pub one_holder : (role : Side) → HasOneHolder (queue_role {T = T} role)
  one_holder role =
      record {
        back = λ p before e by other leaves. back_from p role before e by other leaves;
        forth = λ p before e by grants other now. forth_from p role before e by grants other now;
        begin = λ o p start. (begun_leaves role o p start, begun_marks role p start);
      }
