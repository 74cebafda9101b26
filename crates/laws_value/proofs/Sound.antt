-- What a value promises is kept by every turn, and so by every run. A store acts as it adds 1 to the version,
-- and a load as it finds the version unchanged, with the value that stands.
use Rattle.std.proofs.Common.{◌≡◌, ℕ, ◌+◌, ◌-◌, ◌*◌, ◌^◌, ◌<◌, Option, None, replicate, refl, sym, ap, subst, ◌∙◌}
use Rattle.std.proofs.Common.{arith, false, suc, ◌%◌, ◌≤◌, drop, take, List, []}
use Rattle.std.proofs.lemmas.List.{length-replicate, get_or-drop, length-drop}
use Rattle.std.proofs.Math.Nat.{mul-le-mul_left}
use Rattle.std.specs.List.{AllByRecursion}
use Rattle.laws_value.proofs.Names.{cell_word, Ask, Next, Answer, Event, Start, Atomic, Flight, AtomicStart}
use Rattle.laws_value.proofs.Names.{AtomicFlight, Party, Coding, IsCoding, old_of, ask_of, want, after}
use Rattle.laws_value.proofs.Names.{inv_of}
use Rattle.model.specs.declared.families.Registry.TheVariants as registries
use Rattle.model.specs.declared.turn.Kind.TheVariants as kinds
use Rattle.model.specs.declared.turn.Turn.{Turn}
use Rattle.model.specs.declared.families.Flight.TheVariants as flights
use Rattle.model.specs.Promises.{IsKeptBy, IsKept}
use Rattle.model.specs.Promises.Families.{promise_of}
use Rattle.model.specs.World.{Trace, opening}
use Rattle.model.specs.Families.Atomic.Promises.{cell_in, IsValue, AnswersRight, promise}
use Rattle.model.specs.Families.Atomic.Roles.{KeepsHolder}
use Rattle.model.specs.Families.Atomic.Steps.{acted}
use Rattle.model.specs.Promises.Turns.{ask_in, IsParty, IsAct, ActsRight}
use Rattle.model.specs.Step.{answer_in}
use Rattle.model.specs.Families.{want_of, is_question}
use Rattle.model.proofs.FamilyLaws as laws
use Rattle.model.proofs.FamilyLaws.{Opens, Turns, AllTurns, Owed}
use Rattle.model.proofs.Frame as frame
use Rattle.model.proofs.Orders.{Keeps}
use Rattle.model.proofs.Readings.{Each-nil, AreRight}
use Rattle.model.proofs.Scenes.{StandsThere, step_from}
use Rattle.lemmas.proofs.MayRuns.{run_sound}
use Rattle.model.specs.Fresh.{IsFreshTurn, IsFreshRun}
use Rattle.laws_queues.proofs.Queues.Knows.{any_fresh}
use Rattle.laws_value.proofs.Core.{layout, zeros, Core, Good, same_words}
use Rattle.laws_value.proofs.Invariant.{Value, outline, family, holds_more}
use Rattle.laws_value.proofs.Steps.{step_shows, begin_shows, few_turns, step_moves}
use Rattle.laws_value.proofs.Knows.{At}
use Rattle.laws_value.proofs.Stages.{told_after}

-- ---- the value in the words

-- the cell before the version's holds the value that stands
cell_is : {size : ℕ} (holder : Option ℕ) {k : Core} → Good size k → cell_in size (layout holder k) ≡ k.now
cell_is {size} holder {k} good =
    let place : cell_word size (k.version - 1) ≡ suc (suc (size * ((k.version - 1) % 2))) = omega arith in
    let step : size * ((k.version - 1) % 2 + 1) ≤ size * 2 = mul-le-mul_left size (omega arith) in
    let long = length-drop (size * ((k.version - 1) % 2)) k.cells in
    let cells = good.cells in
    ap (λ n. take size (drop n (layout holder k))) place
    ∙ same_words size (drop (size * ((k.version - 1) % 2)) k.cells) k.now good.sized (omega arith)
    (λ i below. get_or-drop (size * ((k.version - 1) % 2)) k.cells i 0 ∙ good.held i below)

module _ {T : Type 0} where
  -- the events by which a call acts are acts
  all_act : (p : ℕ) (start : AtomicStart T) (outcome : Option (Answer T)) → AllByRecursion IsAct (acted p start outcome)
  all_act = grind arith

-- ---- what an act tells

module _ {T : Type 0} (t : Trace T) (turn : Turn T) (p : ℕ) (mine : IsParty turn p) where
  -- the turn of party `p`, from the run `t`
  abbrev code : Coding T
  code = t.world.coding

  -- the operation of the turn
  abbrev asked : Option Ask
  asked = ask_in t.world turn

  -- each of these acts is right in the turn, as the promise says
  abbrev ActsAreRight : List (Event T) → Type 0
  ActsAreRight es = AllByRecursion (ActsRight promise t turn) es

  -- a call acts right in its last step, since its answer is right and its act comes with the operation that
  -- it asks for
  step_right : (holder : Option ℕ) (k : Core) (z : Coding T) (start : AtomicStart T) (flight : AtomicFlight T) (old : ℕ)
      → At z holder k p start flight → asked ≡ ask_of (want code flight) → old ≡ old_of t.world.words asked
      → AreRight (AnswersRight code) t.events (told_after p start (after code flight old)) → ActsAreRight (acted p start (answer_in (after code flight old)))
  step_right = grind arith

-- ---- what is promised, and what a turn writes down

-- the run `t` is sound
module _ {T : Type 0} (code : Coding T) (c : ℕ) (t : Trace T) (sound : frame.Sound (family code c) t) where
  -- between two turns the words hold the value that stands by the events, the moments and the answers so far
  -- are right, and the machine keeps who holds the role
  value_kept : t.world.coding ≡ code → IsValue t
  value_kept same =
      let world = t.world in
      let cell : cell_in code.size world.words ≡ sound.state.core.now =
      ap (cell_in code.size) sound.fit.words ∙ cell_is sound.state.holder sound.holds.good in
      record {
        moments = rw same sound.holds.legal;
        answers = rw same sound.holds.answers;
        cell = rw same (ap code.value_of cell ∙ sym sound.holds.stand);
        roles = sound.holds.grants;
        holder = subst (λ kept. KeepsHolder kept t.events) (sym sound.fit.kept) (sym sound.holds.holders);
      }

  -- a step of a call at its stage writes the act of the call, if it acts, and its end last
  writes : (p : ℕ) (x : Party T) (since : ℕ) → t.world.turns < 2 ^ 64 - 2 → (start : Start T) (flight : Flight T)
      → StandsThere (family code c) t sound p x since start flight
      → laws.Writes outline t (Next p)
      (step_from t p t.world.coding (layout sound.state.holder sound.state.core) (registries.Atomic sound.state.holder) start flight)
  writes p x since small (Atomic start) (flights.Atomic flight) here =
      let words = layout sound.state.holder sound.state.core in
      let low = sound.holds.reached in
      let moves =
      step_moves
      (inv_of outline code c t sound p x.steps x.backs since) start flight here.at here.steps
      here.knows (any_fresh sound.state.core.version (flights.Atomic flight) (omega arith)) in
      let z = t.world.coding in
      let old = old_of words (ask_of (want z flight)) in
      let outcome : Option (Answer T) = answer_in (after z flight old) in
      let asks : ask_in t.world (Next p) ≡ ask_of (want z flight) = rw here.found refl in
      let handed : old ≡ old_of t.world.words (ask_in t.world (Next p)) = rw (sound.fit.words, asks) refl in
      record {
        effects = [];
        acts = acted p start outcome;
        is = refl;
        are_effects = tt;
        are_acts = all_act p start outcome;
        right = step_right t (Next p) p refl sound.state.holder sound.state.core code start flight old here.at asks handed
            (subst (λ (y : Coding T). AreRight (AnswersRight y) t.events
            (told_after p start (after y flight (old_of words (ask_of (want y flight))))))
            (sym sound.coding) moves.2.preserves.right);
      }
  writes p x since small start flight here = absurd here.at

-- ---- the laws of the family

module _ {T : Type 0} where
  -- the opening of a value is sound
  opens : (code : Coding T) (c : ℕ) → IsCoding code → Opens outline code c
  opens code c coded =
      record {
        state = record { holder = None; core = record { version = 1; now = replicate code.size 0; cells = replicate (code.size * 2) 0 } };
        kept = refl;
        words = refl;
        holds =
            record {
              coded = coded;
              good =
                  record {
                    some = omega arith;
                    sized = length-replicate code.size 0;
                    cells = length-replicate (code.size * 2) 0;
                    held = λ i below. zeros (code.size * 2) _ 0 ∙ sym (zeros code.size i 0);
                  };
              stand = refl;
              legal = refl;
              answers = Each-nil _;
              holders = refl;
              grants = Each-nil _;
              reached = omega arith;
              within = omega arith;
              counted = refl;
            };
      }

  -- no call of the value asks a question
  no_question : (code : Coding T) (c : ℕ) (s : Value) (p : ℕ) (start : Start T) (flight : Flight T) → (family code c).At s p start flight
      → is_question (want_of code flight) ≡ false
  no_question = grind arith

  -- each begin, step, decision and death of a value keeps its invariant, in the form that the frame asks
  turns : (code : Coding T) (c : ℕ) → Turns outline code c IsFreshTurn
  turns code c =
      laws.turns_alone outline code c IsFreshTurn
      (record {
        holds_on = λ scene s' was y es changes' under preserves h. holds_more preserves h;
        stays = λ scene s' was y es changes' preserves h own q ne start flight at. let others = preserves.others q ne in grind arith;
        knows = λ scene s' was y es changes' preserves own q ne since backs flight h. grind (arith, preserves.up);
        begin = λ t s p start flight may e rows. begin_shows code c s p e rows;
        step = λ t s p x since fresh found. step_shows code c s p fresh;
        no_question = no_question code c;
        no_owners = λ s. refl;
      })

  -- all that the frame asks of the family beside its turns: its promise, its bounds, and what a step writes
  owed : {code : Coding T} {c : ℕ} → Owed outline code c
  owed {code} {c} =
      record {
        promise = refl;
        bounds = grind arith;
        promised = λ t s few. value_kept code c t s s.coding;
        writes = writes code c;
        decides = λ t s p x since said start flight asks here. laws.asks_none _ (no_question code c s.state p start flight here.at) asks;
        goes = λ s p start flight at z words beside answer. grind arith;
        tells = λ t turn e s. tt;
      }

  -- where few turns are taken no store finds the last version
  few : (code : Coding T) (c : ℕ) (t : Trace T) (turn : Turn T) → frame.Sound (family code c) t → t.world.turns < 2 ^ 64 - 2 → IsFreshTurn t turn
  few z c t (Next p) sound small = few_turns z c t sound small p
  few z c t turn sound small = tt

  -- all turns of a value in which no store finds the last version are sound
  all_turns : AllTurns {T = T} outline IsFreshTurn
  all_turns = record { opens = λ code c coded admitted. opens code c coded; turns = λ code c coded admitted. turns code c; few = few }

  -- the laws of the frame hold of the value in such turns
  pub fresh_laws : (code : Coding T) (c : ℕ) → frame.LawsWhere (family code c) IsFreshTurn
  fresh_laws code c = laws.laws outline code c IsFreshTurn (turns code c)

  -- the machine of a value as it opens is sound, for any number of parties
  pub opening_sound : (code : Coding T) (c parties : ℕ) → IsCoding code → frame.Sound (family code c) (opening code kinds.Atomic c parties)
  opening_sound code c parties coded = laws.opening_sound outline code c (opens code c coded) parties

  -- all that is promised of every run of the single value holds
  pub value_keeps : Keeps T kinds.Atomic
  value_keeps = laws.keeps outline IsFreshTurn all_turns (λ code c coded admitted. owed)

  -- each machine of a run in which no store finds the last version is sound, however many turns it has
  pub sound_on : (t : Trace T) → t.world.kind ≡ kinds.Atomic → IsCoding t.world.coding → IsFreshRun t
      → frame.Sound (family t.world.coding t.world.capacity) t
  sound_on t kind_is coded fresh_run =
      let world = t.world in
      let F = family world.coding world.capacity in
      subst (frame.Sound F) (sym fresh_run.is)
      (run_sound F IsFreshTurn (fresh_laws world.coding world.capacity) fresh_run.turns
      (opening world.coding world.kind world.capacity world.parties) fresh_run.fresh
      (subst (λ kind. frame.Sound F (opening world.coding kind world.capacity world.parties)) (sym kind_is)
      (opening_sound world.coding world.capacity world.parties coded)))

  -- a run in which no store finds the last version keeps what is promised, however many turns it has
  pub kept_on : (t : Trace T) → t.world.kind ≡ kinds.Atomic → IsCoding t.world.coding → IsFreshRun t → IsKept t
  kept_on t kind_is coded fresh_run =
      let sound_there = sound_on t kind_is coded fresh_run in
      subst (λ P. IsKeptBy P t) (sym (ap (promise_of {T = T}) kind_is))
      (record {
        spans = sound_there.inv.spans;
        progress = laws.progress outline t.world.coding t.world.capacity (owed) t sound_there;
        promised = value_kept t.world.coding t.world.capacity t sound_there refl;
      })
