-- Every turn of a reached machine, of any family, is as `IsTurn` says: it changes one word at most, leads its
-- call on, counts it, and writes its events in order.
use Rattle.model.proofs.Names.{AllByRecursion, Answer, AreAllowed, Begin, Bool, Decide, Die, Doing, Flight, Going}
use Rattle.model.proofs.Names.{IsKept, IsParty, IsReached, IsTurnBy, Kind, List, Next, None, Option, Over, Party, Some}
use Rattle.model.proofs.Names.{Start, Trace, Turn, WritesInOrder, [], after_turn, ap, arith, ask_of, ask_of_doing}
use Rattle.model.proofs.Names.{doing_of, ending_of, events_of_answer, events_of_decision, events_of_next}
use Rattle.model.proofs.Names.{events_of_step, flight_in, flight_of, goes_of, is_due, is_question, number_of, old_of}
use Rattle.model.proofs.Names.{party_of, refl, refusal_of, step_in, true, want_of, ℕ, ◌++◌, ◌-◌, ◌<◌, ◌^◌, ◌∙◌, ◌∷◌}
use Rattle.model.proofs.Names.{◌≡◌}
use Rattle.model.specs.Promises.{IsTurn, AreTurns}
use Rattle.model.specs.Promises.Turns.{IsEndOf, WritesDown}
use Rattle.model.proofs.Frame.{Family, Sound, is_true}
use Rattle.model.proofs.Reached.{reached_more}
use Rattle.model.proofs.Rows.{passes, must_be_due}
use Rattle.model.proofs.Small.{reached_small}
use Rattle.model.proofs.Turns.{one_turn_later, writes_one_word, goes_on, counts_turn, counts_others}

-- the end of a call is its party's own
pub ends_end : {T : Type 0} (turn : Turn T) (p : ℕ) (start : Start T) (outcome : Option (Answer T)) → IsParty turn p
    → AllByRecursion (IsEndOf turn) (ending_of p start outcome)
ends_end turn p start None mine = tt
ends_end turn p start (Some answer) mine = (mine, tt)

module _ {T : Type 0} (F : Family T) where
  -- what a family owes of a step and of a decision: the order of what is written down, and that the call goes on as its table says
  pub record Orders : Type 0 where
    -- A step of a call under way writes its events in order.
    pub step : (t : Trace T) (p : ℕ) (x : Party T) (flight : Flight T) (since : ℕ) → Sound F t
        → t.world.turns < 2 ^ 64 - 2 → party_of p t.world.latest ≡ Some x → x.doing ≡ Going flight since
        → WritesInOrder F.promise t (Next p)
        (t.events
        ++ events_of_step p x.start (step_in t.world p x flight (old_of t.world.words (ask_of (want_of t.world.coding flight)))))
    -- A decision for a call under way writes its events in order.
    pub decision : (t : Trace T) (p : ℕ) (x : Party T) (flight : Flight T) (since : ℕ) (said : Bool) → Sound F t
        → t.world.turns < 2 ^ 64 - 2 → party_of p t.world.latest ≡ Some x → x.doing ≡ Going flight since
        → is_question (want_of t.world.coding flight) ≡ true
        → WritesInOrder F.promise t (Decide p said) (t.events ++ events_of_step p x.start (step_in t.world p x flight (number_of said)))
    -- A step of a call under way leads where the family's table of steps says.
    pub after : (t : Trace T) (p : ℕ) (x : Party T) (flight : Flight T) (since answer : ℕ) → Sound F t
        → party_of p t.world.latest ≡ Some x → x.doing ≡ Going flight since
        → (step_in t.world p x flight answer).after ≡ goes_of t.world.coding p flight answer t.world.kept
    pub tells : (t : Trace T) (turn : Turn T) → refusal_of t.world turn ≡ None → Sound F t → F.promise.tells t turn (after_turn t turn)

  nothing : {t : Trace T} {turn : Turn T} → WritesInOrder F.promise t turn (t.events ++ [])
  nothing = record { effects = []; acts = []; ends = []; is = refl; are_effects = tt; are_acts = tt; are_ends = tt; right = tt }

  -- The machine keeps the invariant (`s`), and it is the turn of party `p`.
  module _ (orders : Orders) {t : Trace T} (s : Sound F t) (small : t.world.turns < 2 ^ 64 - 2) (p : ℕ) where
    -- A turn `Next` of a party writes its events in order, whether the party has begun a call or not.
    next_in_order : (o : Option (Party T)) → party_of p t.world.latest ≡ o → WritesInOrder F.promise t (Next p) (t.events ++ events_of_next t.world p o)
    next_in_order None found = nothing
    next_in_order (Some x) found = go x.doing refl
      where
        -- The cases are whether the party's call is under way or over.
        go : (doing : Doing T) → x.doing ≡ doing
            → WritesInOrder F.promise t (Next p)
            (t.events ++ events_of_answer t.world p x (old_of t.world.words (ask_of_doing t.world.coding doing)) doing)
        go (Over others) same_doing = nothing
        go (Going flight since) same_doing = orders.step t p x flight since s small found same_doing

    -- an answer to a question of a call writes its events in order
    decision_in_order : (said : Bool) → is_due t.world.coding (flight_in t.world p) ≡ true → (o : Option (Party T))
        → party_of p t.world.latest ≡ o
        → WritesInOrder F.promise t (Decide p said) (t.events ++ events_of_decision t.world p said o)
    decision_in_order said due None e = nothing
    decision_in_order said due (Some x) e = go x.doing refl
      where
        -- The cases are whether the party's call is under way or over.
        go : (doing : Doing T) → x.doing ≡ doing → WritesInOrder F.promise t (Decide p said) (t.events ++ events_of_answer t.world p x (number_of said) doing)
        go (Over others) same_doing = nothing
        go (Going flight since) same_doing =
            let here : flight_in t.world p ≡ Some flight = ap (λ o. flight_of (doing_of o)) e ∙ ap (λ same_doing. flight_of (Some same_doing)) same_doing in
            orders.decision t p x flight since said s small e same_doing (rw here at due)

  -- a turn writes down what it did, in order
  writes_down : Orders → (t : Trace T) (turn : Turn T) → refusal_of t.world turn ≡ None → Sound F t → WritesDown F.promise t turn (after_turn t turn)
  writes_down orders t (Begin p start) not_refused sound = refl
  writes_down orders t (Next p) free sound = next_in_order orders sound (passes t.world (Next p) free).turns p (party_of p t.world.latest) refl
  writes_down orders t (Decide p said) not_refused sound =
      decision_in_order orders sound (passes t.world (Decide p said) not_refused).turns p said
      (is_true (is_due t.world.coding (flight_in t.world p)) (must_be_due t.world p said (passes t.world (Decide p said) not_refused).on))
      (party_of p t.world.latest) refl
  writes_down orders t (Die owner) not_refused sound = refl

  -- every turn of a reached machine does what the turn says, and writes that down
  pub turn_is : Orders → (t : Trace T) (turn : Turn T) → refusal_of t.world turn ≡ None → IsReached t → Sound F t
      → IsTurnBy F.promise t turn (after_turn t turn)
  turn_is orders t turn not_refused reached sound =
      record {
        later = one_turn_later t.world turn (passes t.world turn not_refused).on;
        word = writes_one_word t.world turn;
        call =
            goes_on t.world turn (λ p x flight since answer found doing. orders.after t p x flight since answer sound found doing)
            (passes t.world turn not_refused).on;
        counts = counts_turn t.world turn (passes t.world turn not_refused).on;
        others = counts_others t.world turn (reached_small t reached);
        events = writes_down orders t turn not_refused sound;
        tells = orders.tells t turn not_refused sound;
      }

-- ---- what a kind's family proves of every run

-- The law of a kind: every run keeps what is promised of runs, and every turn what is promised of turns.
pub record Keeps (T : Type 0) (kind : Kind) : Type 0 where
  pub kept : (t : Trace T) → t.world.kind ≡ kind → IsReached t → IsKept t
  pub turn : (t : Trace T) (turn : Turn T) → t.world.kind ≡ kind → refusal_of t.world turn ≡ None → IsReached t → IsTurn t turn (after_turn t turn)

module _ {T : Type 0} (laws : (kind : Kind) → Keeps T kind) where
  pub reached_kept : (t : Trace T) → IsReached t → IsKept t
  reached_kept t reached = (laws t.world.kind).kept t refl reached

  reached_turn : (t : Trace T) (turn : Turn T) → refusal_of t.world turn ≡ None → IsReached t → IsTurn t turn (after_turn t turn)
  reached_turn t turn not_refused reached = (laws t.world.kind).turn t turn refl not_refused reached

  -- In a machine that turns reach, turns that are not refused are all as `IsTurn` says.
  pub reached_turns : (t : Trace T) (turns : List (Turn T)) → IsReached t → AreAllowed t turns → AreTurns t turns
  reached_turns t [] reached all = tt
  reached_turns t (turn ∷ turns) reached all =
      (reached_turn t turn all.0 reached, reached_turns (after_turn t turn) turns (reached_more t turn all.0 reached) all.1)

  -- A turn of a machine that turns reach, and that equals `now`, is as `IsTurn` says from `now` to `new`.
  pub step_turn : (inside now new : Trace T) (turn : Turn T) → inside ≡ now → IsReached inside
      → refusal_of inside.world turn ≡ None → new ≡ after_turn inside turn → IsTurn now turn new
  step_turn = grind (arith, reached_turn)
