-- The history with which a table of a single value opens: party 0 takes the producer's role, stores the value
-- as often as the version at which it opens says, and gives the role back.
use Rattle.std.specs.Prelude.{ℕ, ◌-◌, zero, suc, true, Some, None, List, [], ◌∷◌, ◌++◌, replicate}
use Rattle.model.specs.declared.event.Answer.TheVariants.{Truth, Done}
use Rattle.model.specs.declared.event.Event.{Event}
use Rattle.model.specs.declared.event.Event.TheVariants.{Begun, Acted, Finished}
use Rattle.model.specs.declared.event.Start.TheVariants.{Atomic}
use Rattle.model.specs.declared.families.atomic.AtomicStart.TheVariants.{AcquireProducer, ReleaseProducer, Store}
use Rattle.model.specs.declared.turn.Turn.{Turn}
use Rattle.model.specs.declared.turn.Turn.TheVariants.{Begin, Next}
use Rattle.model.specs.Coding.{Coding}
use Rattle.threaded.specs.Shares.{all_shares}
use Rattle.history.specs.declared.view.View.{View}
use Rattle.history.specs.History.{nexts}

-- how many stores open a value at this version: one less than the version, and one at least
abbrev pub first_stores : ℕ → ℕ
first_stores zero = 1
first_stores (suc zero) = 1
first_stores (suc (suc more)) = suc more

module _ {T : Type 0} (value : T) where
  -- the events of one store of the value by party 0
  abbrev pub stored_once : List (Event T)
  stored_once =
      Begun 0 (Atomic (Store value)) ∷ Acted 0 (Atomic (Store value)) (Truth true)
      ∷ Finished 0 (Atomic (Store value)) (Truth true) ∷ []

  -- the events in which party 0 takes the producer's role and stores the value this number of times
  abbrev pub stored_times : ℕ → List (Event T)
  stored_times zero =
      Begun 0 (Atomic AcquireProducer) ∷ Finished 0 (Atomic AcquireProducer) (Truth true) ∷ []
  stored_times (suc n) = stored_times n ++ stored_once

  -- the history with which a value opens: party 0 takes the role, stores the value `stores` times, and gives
  -- the role back
  abbrev pub opened : ℕ → List (Event T)
  opened stores =
      stored_times stores
      ++ Begun 0 (Atomic ReleaseProducer) ∷ Finished 0 (Atomic ReleaseProducer) Done ∷ []

  -- The turns of one store by party 0, where a value has `size` words: it loads the version, stores the
  -- words, and adds 1 to the version.
  abbrev pub store_turns : ℕ → List (Turn T)
  store_turns size = Begin 0 (Atomic (Store value)) ∷ Next 0 ∷ (replicate (suc (size - 1)) (Next 0) ++ Next 0 ∷ [])

  -- the turns in which party 0 takes the role and stores the value this number of times, where a
  -- value has `size` words
  abbrev pub stored_turns : ℕ → ℕ → List (Turn T)
  stored_turns size zero = Begin 0 (Atomic AcquireProducer) ∷ Next 0 ∷ []
  stored_turns size (suc n) = stored_turns size n ++ store_turns size

  -- the turns with which a value opens: those of the acquire and the stores, and the two in which
  -- the role is given back
  abbrev pub opened_turns : (size stores : ℕ) → List (Turn T)
  opened_turns size stores = stored_turns size stores ++ Begin 0 (Atomic ReleaseProducer) ∷ Next 0 ∷ []

  -- The view of the first pass of a value of `size` words that opens at this version: it is party 0, has the
  -- whole share, and has made the whole history.
  abbrev pub opened_view : (size version : ℕ) → View T
  opened_view size version =
      record {
        capacity = 1;
        party = Some 0;
        share = all_shares;
        seen = opened (first_stores version);
        other = [];
        turns = opened_turns size (first_stores version);
        other_turns = [];
        made = opened (first_stores version);
        going = None;
        state = None;
        asked = nexts (opened_turns size (first_stores version));
        aside = 0;
        taken = 0;
        others = 0;
      }

-- The words of the value's two cells after this number of stores: zeros in both before the first store, the
-- value in the second cell after one, and in both after more.
abbrev pub opened_cells : {T : Type 0} → Coding T → T → ℕ → List ℕ
opened_cells code value zero = replicate code.size 0 ++ replicate code.size 0
opened_cells code value (suc zero) = replicate code.size 0 ++ code.words_of value
opened_cells code value (suc (suc more)) = code.words_of value ++ code.words_of value
