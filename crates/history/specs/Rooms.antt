-- The room of a threaded call as one of the model, which has 128 words.
use Rattle.std.specs.Prelude.{ℕ, ◌-◌, List, ◌++◌, length, replicate, nat_lt, if◌then◌else◌}
use Rattle.steps.specs.declared.copied.Buffer as buffers
use Rattle.steps.specs.Copied.{value_in}
use Rattle.model.specs.Coding.{Coding}

-- the words of a room, with zeros behind them up to 128, where a value of `size` words fits;
-- else the words alone
abbrev pub room_of : ℕ → List ℕ → buffers.Buffer 128
room_of size words =
    if nat_lt (length words) size
    then record { words = words }
    else record { words = words ++ replicate (128 - length words) 0 }

-- the value that the words in a room make
module _ {T R : Type 0} (code : Coding T) (words_in : R → List ℕ) where
  abbrev pub value_of_room : R → T
  value_of_room room = value_in code.value_of code.size (words_in room)

  abbrev pub value_there : R → T
  value_there room = value_in code.value_of code.size (words_in room)
