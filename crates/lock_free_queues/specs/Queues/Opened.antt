-- The history with which a queue opens at a position: as many pushes and pops of one item by one party.
use Rattle.std.specs.Prelude.{ℕ, ◌-◌, zero, suc, true, Some, None, List, [], ◌∷◌, ◌++◌}
use Rattle.model.specs.declared.event.Answer.{Answer}
use Rattle.model.specs.declared.event.Answer.TheVariants.{Truth, Done, PoppedNone}
use Rattle.model.specs.declared.event.Event.{Event}
use Rattle.model.specs.declared.event.Event.TheVariants.{Begun, Published, HandedOut, Acted, Finished}
use Rattle.model.specs.declared.event.Item.{Item}
use Rattle.model.specs.declared.event.Item.TheVariants.{Index}
use Rattle.model.specs.declared.event.Start.{Start}
use Rattle.model.specs.declared.event.Start.TheVariants.{Queues}
use Rattle.model.specs.declared.turn.Turn.{Turn}
use Rattle.model.specs.declared.turn.Turn.TheVariants.{Begin, Next}
use Rattle.model.specs.declared.families.queues.QueueStart.TheVariants.{AcquireProducer, ReleaseProducer, AcquireConsumer, ReleaseConsumer, Pop}
use Rattle.threaded.specs.Shares.{all_shares}
use Rattle.history.specs.declared.view.View.{View}
use Rattle.history.specs.History.{nexts}
use Rattle.lock_free_queues.specs.Queues.Contracts.{push_of, popped_item}

module _ {T : Type 0} where
  -- the events in which party 0 takes both roles
  abbrev pub taken_roles : List (Event T)
  taken_roles =
      Begun 0 (Queues AcquireProducer) ∷ Finished 0 (Queues AcquireProducer) (Truth true)
      ∷ Begun 0 (Queues AcquireConsumer) ∷ Finished 0 (Queues AcquireConsumer) (Truth true) ∷ []

  -- the events of a push of the item by party 0, with this answer
  abbrev pub pushed_once : Answer T → Item T → List (Event T)
  pushed_once answer item =
      Begun 0 (Queues (push_of item)) ∷ Published 0 item
      ∷ Acted 0 (Queues (push_of item)) answer ∷ Finished 0 (Queues (push_of item)) answer ∷ []

  -- the events of a pop of the item by party 0
  abbrev pub popped_once : Item T → List (Event T)
  popped_once item =
      Begun 0 (Queues Pop) ∷ HandedOut 0 item ∷ Acted 0 (Queues Pop) (popped_item (Some item))
      ∷ Finished 0 (Queues Pop) (popped_item (Some item)) ∷ []

  -- the events in which party 0 gives both roles back
  abbrev pub given_roles : List (Event T)
  given_roles =
      Begun 0 (Queues ReleaseProducer) ∷ Finished 0 (Queues ReleaseProducer) Done
      ∷ Begun 0 (Queues ReleaseConsumer) ∷ Finished 0 (Queues ReleaseConsumer) Done ∷ []

  -- party 0 takes both roles, and then pushes and pops the item as many times as the number says
  abbrev pub rounds : Answer T → Item T → ℕ → List (Event T)
  rounds answer item zero = taken_roles
  rounds answer item (suc n) =
      rounds answer item n ++ (pushed_once answer item ++ popped_once item)

  -- the history with which a queue opens at this position; at position 0 nothing has happened
  abbrev pub opened : Answer T → Item T → ℕ → List (Event T)
  opened answer item zero = []
  opened answer item (suc n) = rounds answer item (suc n) ++ given_roles

module _ {T : Type 0} where
  -- the given turns, and behind them this number of steps of party 0
  abbrev pub then_next : List (Turn T) → ℕ → List (Turn T)
  then_next ts zero = ts
  then_next ts (suc k) = then_next (ts ++ Next 0 ∷ []) k

  -- the given turns, and behind them those of a call of party 0 that takes this number of steps
  abbrev pub call_turns : List (Turn T) → Start T → ℕ → List (Turn T)
  call_turns ts start steps = then_next (ts ++ Begin 0 start ∷ []) steps

  -- The given turns, and behind them those of a push or a pop by party 0: it loads two positions, goes
  -- through the words of a cell, and stores a position.
  abbrev pub moved_turns : ℕ → Start T → List (Turn T) → List (Turn T)
  moved_turns size start ts = then_next (then_next (call_turns ts start 2) (suc (size - 1))) 1

  -- the turns of this number of rounds of a push and a pop, where a cell has `size` words
  abbrev pub round_turns : ℕ → Item T → ℕ → List (Turn T)
  round_turns size item zero = call_turns (call_turns [] (Queues AcquireProducer) 1) (Queues AcquireConsumer) 1
  round_turns size item (suc n) = moved_turns size (Queues Pop) (moved_turns size (Queues (push_of item)) (round_turns size item n))

  -- the given turns, and behind them those in which party 0 gives both roles back
  abbrev pub given_turns : List (Turn T) → List (Turn T)
  given_turns ts = call_turns (call_turns ts (Queues ReleaseProducer) 1) (Queues ReleaseConsumer) 1

  -- the turns with which a queue opens at this position
  abbrev pub opened_turns : ℕ → Item T → ℕ → List (Turn T)
  opened_turns size item zero = []
  opened_turns size item (suc n) = given_turns (round_turns size item (suc n))

-- the position at which a queue of this capacity opens: without capacity there is no push
abbrev pub position_at : ℕ → ℕ → ℕ
position_at zero position = 0
position_at (suc less) position = position

module _ {T : Type 0} where
  -- What the first pass knows, where a cell has `size` words and each push was answered by `answer`: it
  -- is party 0, which made all that has happened, and it has the whole share.
  abbrev pub opened_with : ℕ → Answer T → Item T → (capacity position : ℕ) → View T
  opened_with size answer item capacity position =
      record {
        capacity = capacity;
        party = Some 0;
        share = all_shares;
        seen = opened answer item (position_at capacity position);
        other = [];
        turns = opened_turns size item (position_at capacity position);
        other_turns = [];
        made = opened answer item (position_at capacity position);
        going = None;
        state = None;
        asked = nexts (opened_turns size item (position_at capacity position));
        aside = 0;
        taken = 0;
        others = 0;
      }

  -- what a pass knows of a bounded queue that has opened at this position
  abbrev pub opened_view : ℕ → Item T → (capacity position : ℕ) → View T
  opened_view size item capacity position = opened_with size (Truth true) item capacity position

  -- what a pass knows of an overflowing queue that has opened at this position, with the number 0 in each cell
  abbrev pub over_opened_view : (capacity position : ℕ) → View T
  over_opened_view capacity position = opened_with 1 PoppedNone (Index 0) capacity position
