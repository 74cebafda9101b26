-- What every turn that is taken keeps holds of every run.
use Rattle.model.proofs.Names.{AreAllowed, Ask, Bool, Coding, Doing, Flight, IsCoding, IsReached, IsReachedOn, Kind}
use Rattle.model.proofs.Names.{List, None, Option, Party, Refusal, Some, Start, Trace, Turn, World, [], after_answer}
use Rattle.model.proofs.Names.{after_begin, after_decision, after_next, after_turn, after_turns, ap, arith}
use Rattle.model.proofs.Names.{call_refusal, capacity_error, first_of, get_or, length, number_of, opened, opening}
use Rattle.model.proofs.Names.{queue_error, refl, refusal_of, run, run_on, subst, sym, take, unless_refused, world_after, ℕ}
use Rattle.model.proofs.Names.{◌++◌, ◌+◌, ◌<◌, ◌∙◌, ◌∷◌, ◌≡◌}
use Rattle.std.proofs.lemmas.List.{take_more}
use Rattle.model.specs.declared.turn.Shape.{Shape}
use Rattle.model.specs.World.{opening_as, shape_error, queue_in}
use Rattle.model.specs.Turns.{attempt_by, run_by, AreAllowedBy, IsReachedBy}
use Rattle.model.proofs.Openings.{opened_at_one, queue_admitted, shape_admitted}

module _ {T : Type 0} where
  -- ---- what a machine is made with stays

  -- The two machines were made with the same coding, kind, capacity and number of parties.
  pub record SameMaking (old new : World T) : Type 0 where
    pub coding : new.coding ≡ old.coding
    pub kind : new.kind ≡ old.kind
    pub capacity : new.capacity ≡ old.capacity
    pub parties : new.parties ≡ old.parties

  -- A machine was made as itself.
  abbrev same : (w : World T) → SameMaking w w
  same w = record { coding = refl; kind = refl; capacity = refl; parties = refl }

  made_on : {first next last : World T} → SameMaking first next → SameMaking next last → SameMaking first last
  made_on one two =
      record {
        coding = two.coding ∙ one.coding;
        kind = two.kind ∙ one.kind;
        capacity = two.capacity ∙ one.capacity;
        parties = two.parties ∙ one.parties;
      }

  begin_making : (w : World T) (p : ℕ) (start : Start T) (flight : Option (Flight T)) → SameMaking w (after_begin w p start flight)
  begin_making = grind arith

  answer_making : (w : World T) (p : ℕ) (x : Party T) (ask : Option Ask) (answer : ℕ) (doing : Doing T) → SameMaking w (after_answer w p x ask answer doing)
  answer_making = grind arith

  next_making : (w : World T) (p : ℕ) (o : Option (Party T)) → SameMaking w (after_next w p o)
  next_making = grind (arith, answer_making)

  decision_making : (w : World T) (p : ℕ) (said : Bool) (o : Option (Party T)) → SameMaking w (after_decision w p said o)
  decision_making w p said None = same w
  decision_making w p said (Some x) = answer_making w p x None (number_of said) x.doing

  pub turn_making : (w : World T) (turn : Turn T) → SameMaking w (world_after w turn)
  turn_making = grind (arith, begin_making, first_of, next_making, decision_making)

  -- ---- one turn more, whichever turns are refused

  module _ (refuses : World T → Turn T → Option Refusal) where
    -- One turn more is attempted after all others.
    pub run_by_more : (turns : List (Turn T)) (turn : Turn T) (t : Trace T)
        → run_by refuses (turns ++ turn ∷ []) t ≡ attempt_by refuses (run_by refuses turns t) turn
    run_by_more [] turn t = refl
    run_by_more (x ∷ xs) turn t = run_by_more xs turn (attempt_by refuses t x)

    allowed_is : (t : Trace T) (turn : Turn T) → refuses t.world turn ≡ None → attempt_by refuses t turn ≡ after_turn t turn
    allowed_is t turn not_refused = ap (unless_refused t (after_turn t turn)) not_refused

    -- a turn more leads on from wherever the run began
    leads_on : (turns : List (Turn T)) (turn : Turn T) (t first : Trace T) → refuses t.world turn ≡ None
        → t ≡ run_by refuses turns first → after_turn t turn ≡ run_by refuses (turns ++ turn ∷ []) first
    leads_on turns turn t first not_refused is_run =
        sym (allowed_is t turn not_refused) ∙ (ap (λ u. attempt_by refuses u turn) is_run ∙ sym (run_by_more turns turn first))

    -- a machine that turns have reached, and one turn more that is not refused
    pub reached_by_more : (t : Trace T) (turn : Turn T) → refuses t.world turn ≡ None → IsReachedBy refuses t → IsReachedBy refuses (after_turn t turn)
    reached_by_more t turn not_refused reached =
        let making = turn_making t.world turn in
        let more : after_turn t turn
        ≡ run_by refuses (reached.turns ++ turn ∷ [])
        (opening t.world.coding t.world.kind t.world.capacity t.world.parties) =
        leads_on reached.turns turn t (opening t.world.coding t.world.kind t.world.capacity t.world.parties) not_refused reached.is in
        record {
          coded = rw making.coding reached.coded;
          admitted = rw (making.kind, making.capacity) reached.admitted;
          turns = reached.turns ++ turn ∷ [];
          is = rw (making.coding, making.kind, making.capacity, making.parties) more;
        }

  -- With one turn more that the machine does not refuse, a machine that turns reach leads to
  -- one that turns reach.
  pub reached_more : (t : Trace T) (turn : Turn T) → refusal_of t.world turn ≡ None → IsReached t → IsReached (after_turn t turn)
  reached_more t turn not_refused reached =
      let making = turn_making t.world turn in
      let more : after_turn t turn ≡ run (reached.turns ++ turn ∷ []) (opened t.world.coding t.world.kind t.world.capacity reached.queue t.world.parties) =
      leads_on refusal_of reached.turns turn t (opened t.world.coding t.world.kind t.world.capacity reached.queue t.world.parties) not_refused reached.is in
      record {
        coded = rw making.coding reached.coded;
        admitted = rw (making.kind, making.capacity) reached.admitted;
        queue = reached.queue;
        queued = rw making.kind reached.queued;
        turns = reached.turns ++ turn ∷ [];
        is = rw (making.coding, making.kind, making.capacity, making.parties) more;
      }

  pub reached_on_more : (t : Trace T) (turn : Turn T) → call_refusal t.world turn ≡ None → IsReachedOn t → IsReachedOn (after_turn t turn)
  reached_on_more t turn not_refused reached_on = reached_by_more call_refusal t turn not_refused reached_on

  -- a machine that has just been opened is reached, by no turn
  pub reached_opening : (code : Coding T) (kind : Kind) (capacity parties : ℕ) → IsCoding code
      → capacity_error kind capacity ≡ None → IsReached (opening code kind capacity parties)
  reached_opening code kind capacity parties coded is_admitted =
      record {
        coded = coded;
        admitted = is_admitted;
        queue = capacity;
        queued = queue_admitted kind capacity is_admitted;
        turns = [];
        is = sym (opened_at_one code kind capacity parties);
      }

  -- A machine that has just been opened with this shape, which a loan channel has too, is
  -- reached, by no turn.
  pub reached_as : (code : Coding T) (shape : Shape) (parties : ℕ) → IsCoding code → shape_error shape ≡ None
      → IsReached (opening_as code shape parties)
  reached_as code shape parties coded is_admitted =
      let admits = shape_admitted shape is_admitted in
      record {
        coded = coded;
        admitted = admits.0;
        queue = queue_in shape;
        queued = admits.1;
        turns = [];
        is = refl;
      }

  pub reached_is : (t u : Trace T) → t ≡ u → IsReached u → IsReached t
  reached_is t u same reached = subst IsReached (sym same) reached

  -- ---- the turns that were taken

  -- One turn more is taken after all others.
  pub after_turns_more : (t : Trace T) (turns : List (Turn T)) (turn : Turn T) → after_turns t (turns ++ turn ∷ []) ≡ after_turn (after_turns t turns) turn
  after_turns_more t [] turn = refl
  after_turns_more t (x ∷ xs) turn = after_turns_more (after_turn t x) xs turn

  -- Turns that are not refused, and one more after them that is not, are turns that are not refused.
  pub allowed_by_more : (refuses : World T → Turn T → Option Refusal) (t : Trace T) (turns : List (Turn T)) (turn : Turn T)
      → AreAllowedBy refuses t turns → refuses (after_turns t turns).world turn ≡ None → AreAllowedBy refuses t (turns ++ turn ∷ [])
  allowed_by_more refuses t [] turn all not_refused = (not_refused, tt)
  allowed_by_more refuses t (x ∷ xs) turn all not_refused = (all.0, allowed_by_more refuses (after_turn t x) xs turn all.1 not_refused)

  -- Turns that a machine as it runs does not refuse, and one more after them that it does not refuse, are turns that it does not
  -- refuse.
  pub AreAllowed-more : (t : Trace T) (turns : List (Turn T)) (turn : Turn T) → AreAllowed t turns
      → refusal_of (after_turns t turns).world turn ≡ None → AreAllowed t (turns ++ turn ∷ [])
  AreAllowed-more = allowed_by_more refusal_of

  -- one turn more of a list
  pub one_more :
      (t now new : Trace T) (turns : List (Turn T)) (at : ℕ) (turn : Turn T) → at < length turns → turn ≡ get_or turns at turn
      → AreAllowed t (take at turns) → now ≡ after_turns t (take at turns) → refusal_of now.world turn ≡ None → new ≡ after_turn now turn
      → AreAllowed t (take (at + 1) turns) × (new ≡ after_turns t (take (at + 1) turns))
  one_more t now new turns at turn below same_turn allowed so_far free goes =
      let more : take (at + 1) turns ≡ take at turns ++ turn ∷ [] =
      take_more turns at turn below ∙ ap (λ (x : Turn T). take at turns ++ x ∷ []) (sym same_turn)
      in
      let here : refusal_of (after_turns t (take at turns)).world turn ≡ None = rw so_far at free in (
        rw more (AreAllowed-more t (take at turns) turn allowed here),
        rw more (goes ∙ (ap (λ u. after_turn u turn) so_far ∙ sym (after_turns_more t (take at turns) turn))),
      )

  -- ---- whole runs

  -- what every turn that is taken keeps
  module _ (refuses : World T → Turn T → Option Refusal) (P : Trace T → Type 0)
      (keeps : (t : Trace T) (turn : Turn T) → refuses t.world turn ≡ None → P t → P (after_turn t turn)) where
    -- What each turn that is taken keeps, a turn that is attempted keeps.
    attempt_keeps : (t : Trace T) (turn : Turn T) (o : Option Refusal) → refuses t.world turn ≡ o → P t → P (unless_refused t (after_turn t turn) o)
    attempt_keeps t turn None refusal_is h = keeps t turn refusal_is h
    attempt_keeps t turn (Some refusal) refusal_is h = h

    -- What each turn that is taken keeps, a list of turns that are attempted keeps.
    pub run_keeps : (turns : List (Turn T)) (t : Trace T) → P t → P (run_by refuses turns t)
    run_keeps [] t h = h
    run_keeps (turn ∷ turns) t h = run_keeps turns (attempt_by refuses t turn) (attempt_keeps t turn (refuses t.world turn) refl h)

    -- What holds at the opening, and is kept by each turn, holds of what turns reach.
    pub kept_by : (t : Trace T) → P (opening t.world.coding t.world.kind t.world.capacity t.world.parties) → IsReachedBy refuses t → P t
    kept_by t first reached =
        subst P (sym reached.is)
        (run_keeps reached.turns (opening t.world.coding t.world.kind t.world.capacity t.world.parties) first)

  module _ (P : Trace T → Type 0) (keeps : (t : Trace T) (turn : Turn T) → refusal_of t.world turn ≡ None → P t → P (after_turn t turn)) where
    -- what holds when a machine is opened, and is kept by each turn that is taken, holds of every reached machine
    pub kept_by_runs : (t : Trace T)
        → ((queue : ℕ) → queue_error t.world.kind queue ≡ None
        → P (opened t.world.coding t.world.kind t.world.capacity queue t.world.parties))
        → IsReached t → P t
    kept_by_runs t first reached =
        subst P (sym reached.is)
        (run_keeps refusal_of P keeps reached.turns (opened t.world.coding t.world.kind t.world.capacity reached.queue t.world.parties)
        (first reached.queue reached.queued))

  -- what is kept by each turn holds of every machine reached where neither turns nor parties have a bound
  pub kept_by_runs_on : (P : Trace T → Type 0)
      → ((t : Trace T) (turn : Turn T) → call_refusal t.world turn ≡ None → P t → P (after_turn t turn)) → (t : Trace T)
      → P (opening t.world.coding t.world.kind t.world.capacity t.world.parties) → IsReachedOn t → P t
  kept_by_runs_on P keeps t first reached_on = kept_by call_refusal P keeps t first reached_on

  -- Turns that a machine takes or refuses, without a bound, leave what it was made with.
  pub run_making : (turns : List (Turn T)) (t : Trace T) → SameMaking t.world (run_on turns t).world
  run_making turns t =
      run_keeps call_refusal (λ u. SameMaking t.world u.world) (λ u turn e made. made_on made (turn_making u.world turn)) turns t (same t.world)

  -- A machine that turns reach without a bound leads by such turns to one that they reach.
  pub run_reached : (turns : List (Turn T)) {t : Trace T} → IsReachedOn t → IsReachedOn (run_on turns t)
  run_reached turns {t} reached = run_keeps call_refusal IsReachedOn reached_on_more turns t reached

  -- A machine that has just been opened is reached, by no turn, also where turns have no bound.
  pub reached_on_opening : (code : Coding T) (kind : Kind) (capacity parties : ℕ) → IsCoding code
      → capacity_error kind capacity ≡ None → IsReachedOn (opening code kind capacity parties)
  reached_on_opening code kind capacity parties coded is_admitted = record { coded = coded; admitted = is_admitted; turns = []; is = refl }
