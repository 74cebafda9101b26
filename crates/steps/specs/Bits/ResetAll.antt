-- The call that empties the words of a set, one after another. `reset_all_want` says what the call asks for,
-- and `reset_all_after` where the answer leads: to a next stage (`GoOn`) or to its end (`Done`).
-- `reset_all_kept` says what its room keeps, and `reset_all_left` is a number that each step lowers.
use Rattle.std.specs.Prelude.{ℕ, ◌+◌, ◌-◌, if◌then◌else◌, nat_lt}
use Rattle.steps.specs.Bits.Words.{elements}
use Rattle.steps.specs.declared.ask.Op.TheVariants.{Swap}
use Rattle.steps.specs.declared.ask.Want.{Want}
use Rattle.steps.specs.declared.ask.Want.TheVariants as wants
use Rattle.steps.specs.declared.ask.After.{After}
use Rattle.steps.specs.declared.ask.After.TheVariants.{GoOn, Done}
use Rattle.steps.specs.declared.bits.reset_all.ResetAll.{ResetAll}
use Rattle.steps.specs.declared.copied.OneWord.{OneWord}

-- a reset of all bits before its first step: the elements stand behind the reset position
abbrev pub all_bits : ℕ → ResetAll
all_bits capacity = record { word = 1; end = 1 + elements capacity }

-- a reset of all counts before its first step
abbrev pub all_counts : ℕ → ResetAll
all_counts capacity = record { word = 0; end = capacity }

-- a reset of all swaps its word with 0
abbrev pub reset_all_want : ResetAll → Want (Unit {0})
reset_all_want call =
    if nat_lt call.word call.end
    then wants.Ask (record { word = call.word; op = Swap 0 })
    else wants.Nothing

-- the reset goes on to the next word, and ends behind the last one
abbrev pub reset_all_after : ResetAll → ℕ → After ResetAll (Unit {0})
reset_all_after call old =
    if nat_lt (call.word + 1) call.end
    then GoOn (record { word = call.word + 1; end = call.end })
    else Done tt

-- what stood in the word that was swapped last
abbrev pub reset_all_kept : OneWord → ℕ → OneWord
reset_all_kept room old = record { 0 = old }

-- a number that each step of the reset lowers
abbrev pub reset_all_left : ResetAll → ℕ
reset_all_left call = call.end - call.word
