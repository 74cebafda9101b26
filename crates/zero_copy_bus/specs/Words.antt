-- A word that goes out by a lane is number * room + slot: the slot in a word, and which
-- words a guard has popped.
use Rattle.std.specs.Prelude.{ℕ, ◌%◌, Option, Some, None, List, ◌++◌}
use Rattle.history.specs.declared.view.View.{View}
use Rattle.lock_free_queues.specs.Queues.Merges.{HasTaken}

-- the slot in the word that a push handed back, if it handed one back
abbrev pub slot_back : ℕ → Option ℕ → Option ℕ
slot_back room None = None
slot_back room (Some word) = Some (word % room)

-- whatever words a guard had popped until it knew `old`, it has popped these too when it knows `new`
abbrev pub TakesOn : List ℕ → View ℕ → View ℕ → Type 0
TakesOn words old new = (v : View ℕ) (before : List ℕ) → HasTaken before v old → HasTaken (before ++ words) v new
