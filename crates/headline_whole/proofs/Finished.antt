-- The calls of a run are all that end in its events.
use Rattle.std.proofs.Common.{◌≡◌, Option, Some, None, List, [], ◌∷◌, ◌++◌, map, refl, sym, ap, subst, ◌∙◌}
use Rattle.std.proofs.lemmas.List.{map-append}
use Rattle.std.proofs.lemmas.List.Elements.{filter-append}
use Rattle.std.specs.List.{flat_map, filter}
use Rattle.model.specs.declared.event.Event.{Event}
use Rattle.model.specs.declared.event.Event.TheVariants.{Finished}
use Rattle.model.specs.declared.turn.Refusal.{Refusal}
use Rattle.model.specs.declared.turn.Turn.{Turn}
use Rattle.model.specs.Refusals.{refusal_of}
use Rattle.model.specs.Turns.{IsReached, events_of, after_turn, attempt, run}
use Rattle.model.specs.Turns as turns
use Rattle.model.specs.World.{Trace, opened}
use Rattle.headline_whole.specs.Dialogues.{Decision, Story, told_after, finished_in, story_after, story_on, calls_of, is_end, as_end, AreFinished}
use Rattle.headline_whole.specs.Dialogues as stories

module _ {T : Type 0} where
  -- The calls that a list of events finishes are, as events, its ends of calls.
  same_ends : (told : List (Decision T)) (es : List (Event T)) → map as_end (flat_map (finished_in told) es) ≡ filter is_end es
  same_ends told [] = refl
  same_ends told (Finished p start answer ∷ es) = ap (λ (xs : List (Event T)). Finished p start answer ∷ xs) (same_ends told es)
  same_ends told (e ∷ es) = same_ends told es

  -- a turn adds to the finished calls those that its events end
  a_turn : (t : Trace T) (turn : Turn T) (story : Story T) → AreFinished story.calls t.events
      → AreFinished (story_after t.world turn story).calls (after_turn t turn).events
  a_turn t turn story so =
      map-append as_end story.calls (flat_map (finished_in (told_after t.world turn story.told)) (events_of t.world turn))
      ∙ ((λ i. so i ++ same_ends (told_after t.world turn story.told) (events_of t.world turn) i)
      ∙ sym (filter-append is_end t.events (events_of t.world turn)))

  -- The calls told so far are all that ended, after a turn that is taken or refused.
  an_attempt : (t : Trace T) (turn : Turn T) (story : Story T) (o : Option Refusal) → AreFinished story.calls t.events
      → AreFinished (stories.unless_refused story (story_after t.world turn story) o).calls
      (turns.unless_refused t (after_turn t turn) o).events
  an_attempt t turn story None so = a_turn t turn story so
  an_attempt t turn story (Some refusal) so = so

  -- a list of turns adds to the finished calls those that its events end
  a_run : (turns : List (Turn T)) (t : Trace T) (story : Story T) → AreFinished story.calls t.events
      → AreFinished (story_on turns t story).calls (run turns t).events
  a_run [] t story so = so
  a_run (turn ∷ turns) t story so =
      a_run turns (attempt t turn) (stories.unless_refused story (story_after t.world turn story) (refusal_of t.world turn))
      (an_attempt t turn story (refusal_of t.world turn) so)

  -- The calls that `calls_of` lists for a run are all that ended in its events.
  pub all_finished : (t : Trace T) (r : IsReached t) → AreFinished (calls_of t r) t.events
  all_finished t r =
      subst (λ (u : Trace T). AreFinished (calls_of t r) u.events) (sym r.is)
      (a_run r.turns (opened t.world.coding t.world.kind t.world.capacity r.queue t.world.parties) (record { told = []; calls = [] }) refl)
