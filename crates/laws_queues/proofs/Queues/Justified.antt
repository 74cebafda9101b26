-- A turn writes first what its step did to the queue, then the acts, then the end, and each act is
-- justified. A push that answers false, and a pop that answers None, acts in its own turn, as it loads the
-- other position; in an overflowing queue without capacity a pop loads none. A push that is taken, and a
-- pop that answers a value, acts as its position goes on.
use Rattle.laws_queues.proofs.Names.{◌≡◌, ℕ, ◌-◌, ◌^◌, ◌<◌, ◌≤◌, ◌==◌, Bool, true, false, cond, inr, Option, Some}
use Rattle.laws_queues.proofs.Names.{None, List, [], ◌∷◌, ◌++◌, get_or, refl, sym, ap, subst, ◌∙◌, nat_tests, Ask}
use Rattle.laws_queues.proofs.Names.{Exchange, After, GoOn, Done, OneWord, after_position, went_on, Answer, Event}
use Rattle.laws_queues.proofs.Names.{Published, HandedOut, Acted, Item, Index, Start, Queues, Flight, QueueStart}
use Rattle.laws_queues.proofs.Names.{PushIndex, Pop, Roles, QueueFlight, Role, Indices, Values, Length, Effect}
use Rattle.laws_queues.proofs.Names.{Quiet, Acts, Publishes, PublishesAndActs, TakesOut, MakesRoom, Party}
use Rattle.laws_queues.proofs.Names.{QueueKind, Turn, Next, Coding, IsCoding, ask_of, AnswersRight, read_word, want}
use Rattle.laws_queues.proofs.Names.{after, popped, load_of_write, finding_none, AddsOne, promise, pending_at}
use Rattle.laws_queues.proofs.Names.{beside, takes_effect, effect_of, acts_if_done, effects_of, party_of, doing_of}
use Rattle.laws_queues.proofs.Names.{flight_of, as_call, answer_in, old_of, Trace, AreRight, StandsThere}
use Rattle.std.proofs.Common.{arith}
use Rattle.std.specs.List.{AllByRecursion}
use Rattle.steps.specs.declared.queues.overflow.Pop as overflow_pop
use Rattle.steps.specs.declared.queues.overflow.PushStage as overflow_pushes
use Rattle.steps.specs.declared.queues.overflow.PopStage.{PopStage}
use Rattle.steps.specs.declared.queues.overflow.PopStage.TheVariants as overflow_pops
use Rattle.steps.specs.declared.copied.Buffer as cells
use Rattle.steps.specs.Queues.Overflow.{cell_word, pop_answer}
use Rattle.model.specs.declared.event.Answer.TheVariants as answers
use Rattle.model.specs.declared.families.Flight.TheVariants as flights
use Rattle.model.specs.declared.families.Registry.TheVariants as registries
use Rattle.model.specs.declared.families.queues.calls.OverflowCall.{OverflowCall}
use Rattle.model.specs.declared.families.queues.calls.OverflowCall.TheVariants as overflows
use Rattle.model.specs.declared.families.queues.calls.QueueFlight.TheVariants.{Overflow}
use Rattle.model.specs.declared.families.queues.calls.RingCall as rings
use Rattle.model.specs.declared.families.queues.effects.Effect.TheVariants.{HandsOut}
use Rattle.model.specs.declared.families.queues.QueueKind.TheVariants as kinds
use Rattle.model.specs.Promises.Turns.{ask_in, IsParty, IsEffectOf, IsAct, ActsRight}
use Rattle.model.proofs.Frame as frame
use Rattle.model.proofs.FamilyLaws.{Writes}
use Rattle.model.proofs.Scenes.{step_from}
use Rattle.laws_queues.proofs.Overflow.Knows.{overflow_push_at, overflow_pop_at, KnowsOverflowPush, KnowsOverflowPop, OverflowAt}
use Rattle.laws_queues.proofs.Queues.Core.{Core}
use Rattle.laws_queues.proofs.Queues.Invariant.{outline, family}
use Rattle.laws_queues.proofs.Queues.Knows.{all_fresh, layout, IndexAt, ValueAt, At}
use Rattle.laws_queues.proofs.Queues.Steps.{step_moves, scene_of, inv_of}
use Rattle.laws_queues.proofs.Queues.Stages.{told_after}
use Rattle.laws_queues.proofs.Queues.Values.{Val, item}
use Rattle.laws_queues.proofs.Ring.Kinds.{Ring, of_indices, of_values, kind_of, push}

-- a pop of a bounded queue finds nothing by its load of the write position
ring_finds : (r : Ring) (c : ℕ) → finding_none (kind_of r) c ≡ Some load_of_write
ring_finds = grind arith

-- a pop of an overflowing queue finds nothing by its load of the write position, without capacity by no load
overflow_finds : (c : ℕ) → (0 < c → finding_none kinds.Overflow c ≡ Some load_of_write) × (c ≡ 0 → finding_none kinds.Overflow c ≡ None)
overflow_finds = grind arith

module _ {T : Type 0} where
  -- ---- the order

  -- what a step writes of the queue: a value that was published or handed out
  abbrev did : ℕ → Effect T → List (Event T)
  did p Quiet = []
  did p Acts = []
  did p (Publishes item) = Published p item ∷ []
  did p (PublishesAndActs item) = Published p item ∷ []
  did p (HandsOut item) = HandedOut p item ∷ []
  did p (TakesOut index) = HandedOut p (Index index) ∷ []
  did p (MakesRoom item q pushed) = HandedOut p item ∷ []

  -- the acts that a step writes: of the call itself, and of the push for which a pop makes room
  abbrev acts_of : ℕ → QueueStart T → Effect T → Option (Answer T) → List (Event T)
  acts_of p start Quiet outcome = []
  acts_of p start Acts outcome = acts_if_done p start outcome
  acts_of p start (Publishes item) outcome = acts_if_done p start outcome
  acts_of p start (PublishesAndActs item) outcome = Acted p (Queues start) answers.PoppedNone ∷ []
  acts_of p start (HandsOut item) outcome = acts_if_done p start outcome
  acts_of p start (TakesOut index) outcome = Acted p (Queues start) (answers.PoppedIndex index) ∷ []
  acts_of p start (MakesRoom item q pushed) outcome = acts_if_done p start outcome ++ Acted q (Queues (PushIndex pushed)) answers.PoppedNone ∷ []

  -- a step writes what it did to the queue, and then the acts
  effects_are : (p : ℕ) (start : QueueStart T) (effect : Effect T) (outcome : Option (Answer T))
      → effects_of p start effect outcome ≡ did p effect ++ acts_of p start effect outcome
  effects_are = grind arith

  -- the events of a step are effects of its turn
  did_effects : (turn : Turn T) (p : ℕ) (effect : Effect T) → IsParty turn p → AllByRecursion (IsEffectOf turn) (did p effect)
  did_effects = grind arith

  -- what a call writes of its acts are events that tell an act, and nothing else
  all_act : (p : ℕ) (start : QueueStart T) (effect : Effect T) (outcome : Option (Answer T)) → AllByRecursion IsAct (acts_of p start effect outcome)
  all_act = grind arith

-- ---- what an act tells

-- a turn of a machine of this kind of queue, which one party alone takes
pub record OwnTurn (T : Type 0) : Type 0 where
  pub kind : QueueKind
  pub trace : Trace T  -- the run before the turn
  pub turn : Turn T
  pub party : ℕ
  pub mine : IsParty turn party
  pub alone : (q : ℕ) → IsParty turn q → q ≡ party
  -- the words before the turn, as the state of the queue has them, and the push that is pending then
  pub words : List ℕ
  pub waits : Option (ℕ × ℕ)

module _ {T : Type 0} (m : OwnTurn T) where
  open m use {kind as own, trace as t, turn, party as p, mine, alone, words, waits}

  abbrev en : Coding T
  en = t.world.coding

  abbrev c : ℕ
  c = t.world.capacity

  abbrev asked : Option Ask
  asked = ask_in t.world turn

  -- each of these events tells the truth at its place in the run
  abbrev Right : List (Event T) → Type 0
  Right es = AreRight (AnswersRight c) t.events es

  -- each of these acts is justified by the turn
  abbrev Justified : List (Event T) → Type 0
  Justified es = AllByRecursion (ActsRight (promise own) t turn) es

  -- the turn adds 1 to this word
  abbrev Adds : ℕ → Type 0
  Adds word = AddsOne word t.world.words asked

  -- the call goes on, or is done with None
  abbrev FindsNone : After (QueueFlight T) (Answer T) → Type 0
  FindsNone (GoOn flight) = Unit {0}
  FindsNone (Done answer) = answer ≡ answers.PoppedNone

  -- the act of a pop that is done with None is justified, where this turn made the load by
  -- which a pop finds nothing
  pop_acts : (after : After (QueueFlight T) (Answer T)) → FindsNone after → asked ≡ finding_none own c
      → Right (told_after p Pop Acts after) → Justified (acts_if_done p Pop (answer_in after))
  pop_acts = grind arith

  -- ---- the positions

  -- the two positions as the words hold them
  record Positions (write read : ℕ) : Type 0 where
    pub rest : List ℕ
    pub words : t.world.words ≡ write ∷ read ∷ rest
    pub few : write < 2 ^ 64 - 1
    pub low : read ≤ write

  module _ {write read : ℕ} (at : Positions write read) where
    -- the exchange of the read position from the one in the words adds 1 to it
    moves_read : asked ≡ Some (record { word = read_word; op = Exchange read (after_position read) }) → Adds read_word
    moves_read = grind arith

  -- what the call's step writes tells the truth
  abbrev WritesTruth : QueueStart T → QueueFlight T → ℕ → Type 0
  WritesTruth start flight old = Right (told_after p start (effect_of en words waits flight old) (after en flight old))

  -- each act that the call's step writes is justified, where these are the words and
  -- `waits` is the pending push
  abbrev Acting : QueueStart T → QueueFlight T → ℕ → Type 0
  Acting start flight old = Justified (acts_of p start (effect_of en words waits flight old) (answer_in (after en flight old)))

  -- in a step of an overflowing queue's push each act is justified
  module _ (k : Core ℕ) (place : Positions k.write k.read) (v : ℕ) (room : OneWord) where
    -- each act that a step of an overflowing queue's push writes is justified
    overflow_push_right : (stage : overflow_pushes.PushStage) (old : ℕ) → KnowsOverflowPush c k v stage
        → asked ≡ ask_of (want en (Overflow (overflow_push_at c v room stage)))
        → old ≡ old_of (k.write ∷ k.read ∷ place.rest) asked
        → Acting (PushIndex v) (Overflow (overflow_push_at c v room stage)) old
    overflow_push_right = grind arith

  -- where a pop moves the read position, its act with a value is justified, and so is the
  -- act of the pending push
  taking : (item : Item T) (push : Option (ℕ × ℕ)) → ((q w : ℕ) → push ≡ Some (q, w) → q ≡ p → ⊥)
      → (room : OneWord) (on : overflow_pop.Pop) (b : Bool) → (b ≡ true → Adds read_word)
      → Justified (acts_of p Pop (cond b (takes_effect item push) Quiet)
      (answer_in {C = QueueFlight T}
      (as_call (λ r. Overflow (overflows.Pop r)) popped
      (went_on (λ end given room. pop_answer room.0 end) tt room (cond b (Done true) (GoOn on))))))
  taking item None other room on true adds = ((mine, adds refl), tt)
  taking item (Some push) other room on true adds = ((mine, adds refl), (inr ((λ his. other push.0 push.1 refl (alone push.0 his)), adds refl), tt))
  taking item push other room on false adds = tt

  -- if the pending push is of the party `p`, it is this call
  abbrev Waits : QueueFlight T → Type 0
  Waits flight = (q w : ℕ) → waits ≡ Some (q, w) → q ≡ p → pending_at (get_or words 1 0) (Some (flights.Queues flight)) ≡ Some w

  -- what is known of the step of a call that is handed the value `old`, in a queue of the core `k`
  record Facts {V : Type 0} (k : Core V) (place : Positions k.write k.read) (start : QueueStart T) (flight : QueueFlight T) (old : ℕ) : Type 0 where
    asks : asked ≡ ask_of (want en flight)
    handed : old ≡ old_of (k.write ∷ k.read ∷ place.rest) asked
    waiter : Waits flight
    tells : WritesTruth start flight old

  -- in a step of an overflowing queue's pop each act is justified
  overflow_pop_right :
      (k : Core ℕ) (place : Positions k.write k.read) (room : OneWord) (stage : PopStage) (old : ℕ)
      → KnowsOverflowPop c k room stage → Facts k place Pop (Overflow (overflow_pop_at c room stage)) old
      → (0 < c → finding_none own c ≡ Some load_of_write) → (c ≡ 0 → finding_none own c ≡ None)
      → Acting Pop (Overflow (overflow_pop_at c room stage)) old
  overflow_pop_right k place room overflow_pops.FindsNone old knows facts some none =
      pop_acts (after en (Overflow (overflow_pop_at c room overflow_pops.FindsNone)) old) refl (facts.asks ∙ sym (none knows)) facts.tells
  overflow_pop_right k place room overflow_pops.LoadsRead old knows facts some none = tt
  overflow_pop_right k place room (overflow_pops.LoadsWrite read) old knows facts some none =
      pop_acts (after en flight old) (finds (old == read) refl) (facts.asks ∙ sym (some knows.0)) facts.tells
    where
      -- the pop at the load of the write position
      flight : QueueFlight T
      flight = Overflow (overflow_pop_at c room (overflow_pops.LoadsWrite read))

      -- the cases are whether the write position is the read position that was loaded, so
      -- that nothing waits
      finds : (b : Bool) → (old == read) ≡ b → FindsNone (after en flight old)
      finds true read_same = rw read_same refl
      finds false read_moved = rw read_moved tt
  overflow_pop_right k place room (overflow_pops.LoadsCell read) old knows facts some none = tt
  overflow_pop_right k place room (overflow_pops.MovesRead read) old knows facts some none =
      taking (Index (get_or words (cell_word c read) 0)) waits
      (λ q w is same. let here = facts.waiter q w is same in absurd (cc)) room
      (record { capacity = c; stage = overflow_pops.LoadsCell old }) (old == read)
      (λ e.
      let found : old ≡ read = grind (arith, nat_tests) in
      let now : old ≡ k.read = facts.handed ∙ ap (old_of (k.write ∷ k.read ∷ place.rest)) facts.asks in
      let same : read ≡ k.read = sym found ∙ now in
      moves_read place (facts.asks ∙ ap (λ n. Some (record { word = read_word; op = Exchange n (after_position n) })) same))

  -- in a step of a call of the index queue each act is justified
  index_right : (ro : Roles) (k : Core ℕ) (place : Positions k.write k.read)
      → (start : QueueStart T) (call : rings.RingCall ℕ OneWord) (old : ℕ)
      → IndexAt kinds.IndexQueue c ro k p start call → Facts k place start (Indices call) old
      → finding_none own c ≡ Some load_of_write → Acting start (Indices call) old
  index_right ro k place start call old index_at facts finding_none_is = grind arith

  -- in a step of a call of the queue of values each act is justified
  value_right : (ro : Roles) (k : Core T) (place : Positions k.write k.read)
      → (start : QueueStart T) (call : rings.RingCall T (cells.Buffer 128)) (old : ℕ)
      → ValueAt en kinds.Queue c ro k p start call → Facts k place start (Values call) old
      → finding_none own c ≡ Some load_of_write → Acting start (Values call) old
  value_right ro k place start call old value_at facts finding_none_is = grind arith

  -- in a step of any push or pop of an overflowing queue each act is justified
  overflow_right :
      (ro : Roles) (k : Core ℕ) (place : Positions k.write k.read) (start : QueueStart T) (call : OverflowCall) (old : ℕ)
      → OverflowAt c ro k p start call → Facts k place start (Overflow call) old
      → ((0 < c → finding_none own c ≡ Some load_of_write) × (c ≡ 0 → finding_none own c ≡ None)) → Acting start (Overflow call) old
  overflow_right ro k place (PushIndex v) (overflows.Push run) old at facts finds =
      subst (λ n. asked ≡ ask_of (want en (Overflow (overflow_push_at n run.given run.room run.call.stage)))
      → Acting (PushIndex v) (Overflow (overflow_push_at n run.given run.room run.call.stage)) old)
      (sym at.1)
      (rw at.2 (λ asks. overflow_push_right k place v run.room run.call.stage old at.3 asks facts.handed))
      facts.asks
  overflow_right ro k place Pop (overflows.Pop run) old at facts finds =
      subst (λ x. Facts k place Pop (Overflow (overflow_pop_at x run.room run.call.stage)) old
      → Acting Pop (Overflow (overflow_pop_at x run.room run.call.stage)) old)
      (sym at.1)
      (λ known. overflow_pop_right k place run.room run.call.stage old at.2 known finds.0 finds.1)
      facts
  overflow_right ro k place start call old at facts finds = absurd at

  -- in a step of a call of any of the three kinds each act is justified
  step_right : (kd : QueueKind) → own ≡ kd → (ro : Roles) (k : Core (Val T kd)) {place : Positions k.write k.read}
      (start : QueueStart T) (flight : QueueFlight T) {old : ℕ}
      → At en kd c ro k p start flight → Facts k place start flight old → Acting start flight old
  step_right kd same ro k start (Role call) at facts = tt
  step_right kinds.IndexQueue same ro k {place} start (Indices call) {old} at facts =
      index_right ro k place start call old at facts (ap (λ n. finding_none n c) same ∙ ring_finds of_indices c)
  step_right kinds.Overflow same ro k start (Indices call) at facts = absurd at
  step_right kinds.Queue same ro k start (Indices call) at facts = absurd at
  step_right kinds.IndexQueue same ro k start (Values call) at facts = absurd at
  step_right kinds.Overflow same ro k start (Values call) at facts = absurd at
  step_right kinds.Queue same ro k {place} start (Values call) {old} at facts =
      value_right ro k place start call old at facts (ap (λ n. finding_none n c) same ∙ ring_finds of_values c)
  step_right kinds.IndexQueue same ro k start (Overflow call) at facts = absurd at
  step_right kinds.Overflow same ro k {place} start (Overflow call) {old} at facts =
      let finds = overflow_finds c in
      overflow_right ro k place start call old at facts
      (λ some. ap (λ n. finding_none n c) same ∙ finds.0 some, λ none. ap (λ n. finding_none n c) same ∙ finds.1 none)
  step_right kinds.Queue same ro k start (Overflow call) at facts = absurd at
  step_right kd same ro k start (Length which call) at facts = tt

-- ---- every turn

-- a pending push of the party `p` is the call that `p` has under way
waiter_is : {T : Type 0} (roles : Roles) (words : List ℕ) (latest : List (ℕ × Party T)) (p : ℕ) (flight : QueueFlight T)
    → flight_of (doing_of (party_of p latest)) ≡ Some (flights.Queues flight) → (q w : ℕ)
    → beside roles words latest p ≡ Some (q, w) → q ≡ p
    → pending_at (get_or words 1 0) (Some (flights.Queues flight)) ≡ Some w
waiter_is = grind arith

module _ {T : Type 0} (en : Coding T) (law : IsCoding en) (kd : QueueKind) (c : ℕ) (t : Trace T) (s : frame.Sound (family en kd c) t) where
  -- a step of a call that stands in the machine writes in this order, and each act in it is justified
  pub writes : (p : ℕ) (x : Party T) (since : ℕ) → t.world.turns < 2 ^ 64 - 2 → (start : Start T) (flight : Flight T)
      → StandsThere (family en kd c) t s p x since start flight
      → Writes (outline kd) t (Next p)
      (step_from t p t.world.coding (layout s.state.roles s.state.core) (registries.Queues s.state.roles) start flight)
  writes p x since small (Queues start) (flights.Queues flight) here =
      let scene = scene_of law kd c s p x since in
      let words = layout s.state.roles s.state.core in
      -- the step keeps the invariant, so what it writes tells the truth
      let moves =
      step_moves law kd scene (inv_of law kd c s p x since) start flight (record {
        at = here.at;
        steps = here.steps;
        knows = here.knows;
        fresh = all_fresh s.state.core.write flight (let low = s.holds.reached in omega arith);
        is = (here.found, here.span);
      }) in
      let z = t.world.coding in
      let old = old_of words (ask_of (want z flight)) in
      let waits = beside s.state.roles words t.world.latest p in
      let effect : Effect T = effect_of z words waits flight old in
      let outcome : Option (Answer T) = answer_in (after z flight old) in
      let asks : ask_in t.world (Next p) ≡ ask_of (want z flight) = rw here.found refl in
      let reached = s.holds.reached in
      let good = s.holds.good.write in
      let own : OwnTurn T =
      record { kind = kd; trace = t; turn = Next p; party = p; mine = refl; alone = λ q his. his; words = words; waits = waits } in
      let place : Positions own s.state.core.write s.state.core.read =
      record { rest = _; words = s.fit.words; few = omega arith; low = omega arith } in
      record {
        effects = did p effect;
        acts = acts_of p start effect outcome;
        is = effects_are p start effect outcome;
        are_effects = did_effects (Next p) p effect refl;
        are_acts = all_act p start effect outcome;
        -- each act is justified, as the call stands at its stage in the words of the machine
        right = step_right own kd refl s.state.roles s.state.core {place = place} start flight
            (rw (s.coding, s.capacity) here.at)
            (record {
              asks = asks;
              handed = ap (old_of words) (sym asks);
              waiter = waiter_is s.state.roles words t.world.latest p flight here.found;
              tells = rw (s.capacity, s.coding) moves.2.right;
            });
      }
  writes p x since small start flight here = absurd here.at
