-- What turns make of a machine whose first events were forgotten.
use Rattle.std.proofs.Common.{◌≡◌, ℕ, ◌+◌, List, [], ◌∷◌, ◌++◌, None, replicate, refl, sym, ap, ◌∙◌, subst}
use Rattle.std.proofs.lemmas.Grind.{replicate_next}
use Rattle.std.proofs.lemmas.List.{append_assoc, append-nil}
use Rattle.model.specs.declared.event.Event.{Event}
use Rattle.model.specs.declared.turn.Turn.{Turn}
use Rattle.model.specs.Refusals.{refusal_of}
use Rattle.model.specs.Small.{IsSmall}
use Rattle.model.specs.Turns.{after_turn, after_turns, events_of, AreAllowed, IsReached}
use Rattle.model.specs.World.{Trace}
use Rattle.model.proofs.Reached.{reached_more, after_turns_more, AreAllowed-more}
use Rattle.model.proofs.Small.{reached_small}
use Rattle.machine_parts.specs.Forgotten.{behind, IsReachedBehind}

module _ {T : Type 0} where
  -- a turn makes the same of a machine, whatever events stand before its own
  pub behind_turn : (before : List (Event T)) (t : Trace T) (turn : Turn T)
      → after_turn (behind before t) turn ≡ behind before (after_turn t turn)
  behind_turn before t turn =
      ap (λ l. record { world = (after_turn t turn).world; events = l }) (append_assoc before t.events (events_of t.world turn))

  pub opened_behind : (t : Trace T) → IsReached t → IsReachedBehind t
  opened_behind t reached = record { before = []; reached = reached }

  pub small_behind : (t : Trace T) → IsReachedBehind t → IsSmall t.world
  small_behind t r = reached_small (behind r.before t) r.reached

  pub more_behind : (t : Trace T) (turn : Turn T) → refusal_of t.world turn ≡ None → IsReachedBehind t
      → IsReachedBehind (after_turn t turn)
  more_behind t turn free r =
      record {
        before = r.before;
        reached = subst IsReached (behind_turn r.before t turn) (reached_more (behind r.before t) turn free r.reached);
      }

  pub all_behind : (t : Trace T) (turns : List (Turn T)) → AreAllowed t turns → IsReachedBehind t
      → IsReachedBehind (after_turns t turns)
  all_behind t [] all r = r
  all_behind t (turn ∷ turns) all r = all_behind (after_turn t turn) turns all.1 (more_behind t turn all.0 r)

  pub behind_is : (t u : Trace T) → t ≡ u → IsReachedBehind u → IsReachedBehind t
  behind_is t u same r = subst IsReachedBehind (sym same) r

  -- the events may be forgotten: they are then among those before
  pub forgotten : (t : Trace T) → IsReachedBehind t → IsReachedBehind (record t { events = [] })
  forgotten t r =
      record {
        before = r.before ++ t.events;
        reached = subst IsReached (ap (λ l. record { world = t.world; events = l }) (sym (append-nil (r.before ++ t.events)))) r.reached;
      }

  -- ---- what the batches that were forgotten say together

  pub behind_turns : (before : List (Event T)) (t : Trace T) (turns : List (Turn T))
      → after_turns (behind before t) turns ≡ behind before (after_turns t turns)
  behind_turns before t [] = refl
  behind_turns before t (turn ∷ turns) =
      ap (λ u. after_turns u turns) (behind_turn before t turn) ∙ behind_turns before (after_turn t turn) turns

  -- Of a machine whose events are forgotten and that then takes these turns: all events, those forgotten and
  -- those that it has now, are the events of the machine that forgets nothing, on the same turns.
  pub whole : (before : List (Event T)) (t new : Trace T) (turns : List (Turn T))
      → new ≡ after_turns (record t { events = [] }) turns
      → behind (before ++ t.events) new ≡ after_turns (behind before t) turns
  whole before t new turns e =
      ap (behind (before ++ t.events)) e
      ∙ sym (behind_turns (before ++ t.events) (record t { events = [] }) turns)
      ∙ ap (λ l. after_turns (record { world = t.world; events = l }) turns) (append-nil (before ++ t.events))

-- after n turns that were all this turn and were not refused, the same turn, not refused, makes n + 1 of them
pub once_more : {T : Type 0} (t now new : Trace T) (n : ℕ) (turn : Turn T) → AreAllowed t (replicate n turn) → now ≡ after_turns t (replicate n turn)
    → refusal_of now.world turn ≡ None → new ≡ after_turn now turn
    → AreAllowed t (replicate (n + 1) turn) × (new ≡ after_turns t (replicate (n + 1) turn))
once_more {T} t now new n turn allowed so_far free goes =
    let more : replicate (n + 1) turn ≡ replicate n turn ++ turn ∷ [] = replicate_next n turn in
    let here : refusal_of (after_turns t (replicate n turn)).world turn ≡ None = subst (λ (u : Trace T). refusal_of u.world turn ≡ None) so_far free in (
      subst (AreAllowed t) (sym more) (AreAllowed-more t (replicate n turn) turn allowed here),
      goes ∙ ap (λ u. after_turn u turn) so_far ∙ sym (after_turns_more t (replicate n turn) turn) ∙ ap (after_turns t) (sym more),
    )
