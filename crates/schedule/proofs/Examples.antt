-- The text of an output (`output_of`), computed for worked schedules and for malformed ones.
use Rattle.std.proofs.Common.{◌≡◌, ℕ, false, List, [], ◌∷◌, Ok, Err, refl, true, codes}
use Rattle.std.specs.Fmt.{digits}
use Rattle.texts.specs.declared.error.Cause.TheVariants as causes
use Rattle.texts.specs.Atomic as value
use Rattle.texts.specs.Bits.{set, any_set_call, bit_set_call, counting_bit_set_call}
use Rattle.texts.specs.Container as container
use Rattle.texts.specs.Indices.{mode_at, release, any_index_call, index_call}
use Rattle.texts.specs.Indices.Robust as robust
use Rattle.texts.specs.Loan as loan
use Rattle.texts.specs.Queues.{push_index, push_value, any_queue_call, index_queue_call, overflow_call, value_queue_call}
use Rattle.texts.specs.Grammar.{number_at, setup_of, begin_of, next_of, decision_of, turn_of, death_of, command_of}
use Rattle.texts.specs.Print.{event_text, refusal_text}
use Rattle.schedule.specs.Output.{Output, outcome, nexts, lines_from, machine_of, output_of_lines, output_of, stopped}

-- the output that prints this text and ends well
abbrev printed_whole : List ℕ → Output
printed_whole text = record { text = text; end = Ok tt }

-- a push that stops before its last step, and a pop that finds nothing
stopped_push : output_of (codes
    "index_queue 1 2\n0 begin acquire_producer\n0 next\n1 begin acquire_consumer\n1 next\n0 begin push 5\n0 next 3\n1 begin pop\n1 next 4\n0 next\n") []
    ≡ printed_whole (codes
    "0 begun acquire_producer\n0 finished acquire_producer -> true\n1 begun acquire_consumer\n1 finished acquire_consumer -> true\n0 begun push 5\n1 begun pop\n1 acted pop -> none\n1 finished pop -> none\n0 published 5\n0 acted push 5 -> true\n0 finished push 5 -> true\n")
unfolding output_of_lines machine_of setup_of number_at lines_from command_of turn_of begin_of index_queue_call any_queue_call
    push_index next_of nexts outcome event_text digits
stopped_push = refl

-- a push of a value of two words that stops inside its cell
stopped_in_a_cell : output_of
    (codes
    "queue 1 2\n0 begin acquire_producer\n0 next\n1 begin acquire_consumer\n1 next\n0 begin push 18446744073709551618\n0 next 4\n1 begin pop\n1 next 9\n0 next\n0 begin len\n0 next 9\n")
    []
    ≡ printed_whole (codes
    "0 begun acquire_producer\n0 finished acquire_producer -> true\n1 begun acquire_consumer\n1 finished acquire_consumer -> true\n0 begun push 18446744073709551618\n1 begun pop\n1 acted pop -> none\n1 finished pop -> none\n0 published 18446744073709551618\n0 acted push 18446744073709551618 -> true\n0 finished push 18446744073709551618 -> true\n0 begun len\n0 finished len -> 1\n")
unfolding output_of_lines machine_of setup_of number_at lines_from command_of turn_of begin_of value_queue_call any_queue_call
    push_value next_of nexts outcome event_text digits
stopped_in_a_cell = refl

-- a length between the cell and the publication of a push, and one after it
lengths : output_of (codes
    "index_queue 1 2\n0 begin acquire_producer\n0 next\n0 begin push 5\n0 next 3\n1 begin len\n1 next 9\n0 next\n1 begin is_full\n1 next 9\n") []
    ≡ printed_whole (codes
    "0 begun acquire_producer\n0 finished acquire_producer -> true\n0 begun push 5\n1 begun len\n1 finished len -> 0\n0 published 5\n0 acted push 5 -> true\n0 finished push 5 -> true\n1 begun is_full\n1 finished is_full -> true\n")
unfolding output_of_lines machine_of setup_of number_at lines_from command_of turn_of begin_of index_queue_call any_queue_call
    push_index next_of nexts outcome event_text digits
lengths = refl

-- a peek whose loads of the positions come before and after the last step of a push
peeked : output_of
    (codes
    "index_queue 1 2\n0 begin acquire_producer\n0 next\n1 begin acquire_consumer\n1 next\n0 begin push 5\n0 next 3\n1 begin peek\n1 next\n0 next\n1 next 9\n0 begin has_consumer\n0 next\n")
    []
    ≡ printed_whole (codes
    "0 begun acquire_producer\n0 finished acquire_producer -> true\n1 begun acquire_consumer\n1 finished acquire_consumer -> true\n0 begun push 5\n1 begun peek\n0 published 5\n0 acted push 5 -> true\n0 finished push 5 -> true\n1 finished peek -> some 5\n0 begun has_consumer\n0 finished has_consumer -> true\n")
unfolding output_of_lines machine_of setup_of number_at lines_from command_of turn_of begin_of index_queue_call any_queue_call
    push_index next_of nexts outcome event_text digits
peeked = refl

-- an overflowing queue has no peek: the line is malformed
no_peek : output_of (codes "overflow 1 1\n0 begin peek") [] ≡ stopped 2 causes.UnknownCall
unfolding output_of_lines machine_of setup_of number_at lines_from command_of turn_of begin_of overflow_call any_queue_call
no_peek = refl

-- a version before the last step of a store, and one after it
versions : output_of (codes
    "atomic 1 2\n0 begin acquire_producer\n0 next\n0 begin store 5\n0 next 3\n1 begin version\n1 next\n0 next\n1 begin version\n1 next\n")
    []
    ≡ printed_whole (codes
    "0 begun acquire_producer\n0 finished acquire_producer -> true\n0 begun store 5\n1 begun version\n1 finished version -> 1\n0 acted store 5 -> true\n0 finished store 5 -> true\n1 begun version\n1 finished version -> 2\n")
unfolding output_of_lines machine_of setup_of number_at lines_from command_of turn_of begin_of value.value_call
    value.any_value_call value.store next_of nexts outcome event_text digits
versions = refl

-- two flags are set, and a reset of all clears both in one turn
two_flags : output_of (codes "bits 8 1\n0 begin set 1\n0 next 9\n0 begin set 3\n0 next 9\n0 begin reset_all\n0 next 9\n") []
    ≡ printed_whole (codes
    "0 begun set 1\n0 set 1\n0 finished set 1 -> true\n0 begun set 3\n0 set 3\n0 finished set 3 -> true\n0 begun reset_all\n0 cleared 1\n0 cleared 3\n0 finished reset_all -> done\n")
unfolding output_of_lines machine_of setup_of number_at lines_from command_of turn_of begin_of bit_set_call
    any_set_call set next_of nexts outcome event_text digits
two_flags = refl

-- a set that finds its element changed by a neighbour goes back
set_goes_back : output_of (codes "bits 70 2\n0 begin set 3\n0 next\n1 begin set 40\n1 next 9\n0 next\n0 next\n") []
    ≡ printed_whole (codes "0 begun set 3\n1 begun set 40\n1 set 40\n1 finished set 40 -> true\n0 set 3\n0 finished set 3 -> true\n")
unfolding output_of_lines machine_of setup_of number_at lines_from command_of turn_of begin_of bit_set_call
    any_set_call set next_of nexts outcome event_text digits
set_goes_back = refl

-- a place is counted twice and taken out
two_counts : output_of (codes "counts 2 1\n0 begin set 1\n0 next\n0 begin set 1\n0 next\n0 begin reset_all\n0 next 9\n0 begin set 2\n") []
    ≡ printed_whole (codes
    "0 begun set 1\n0 counted 1\n0 finished set 1 -> 0\n0 begun set 1\n0 counted 1\n0 finished set 1 -> 1\n0 begun reset_all\n0 taken_out 1 2\n0 finished reset_all -> done\nrefused BadIndex\n")
unfolding output_of_lines machine_of setup_of number_at lines_from command_of turn_of begin_of counting_bit_set_call
    any_set_call set next_of nexts outcome event_text refusal_text digits
two_counts = refl

-- a release whose exchange fails subtracts
falls_back : output_of (codes
    "indices 2 2\n0 begin acquire\n0 next 9\n0 begin release 0 default\n0 next 3\n1 begin acquire\n1 next 9\n0 next 2\n1 begin acquire\n1 next 9\n") []
    ≡ printed_whole (codes
    "0 begun acquire\n0 claimed 0\n0 finished acquire -> 0\n0 begun release 0 default\n0 freed 0\n1 begun acquire\n1 claimed 1\n1 finished acquire -> 1\n0 finished release 0 default -> Unlocked\n1 begun acquire\n1 claimed 0\n1 finished acquire -> 0\n")
unfolding output_of_lines machine_of setup_of number_at lines_from command_of turn_of begin_of index_call
    any_index_call release mode_at next_of nexts outcome event_text digits
falls_back = refl

-- an acquire fills a cell that the lock has read as empty, and meets the lock
meets_the_lock : output_of
    (codes
    "robust 1 2\n0 begin acquire 313\n0 next 9\n0 begin release 0 313 lock\n0 next 5\n1 begin acquire 7\n1 next 2\n0 next 9\n1 next 9\n1 begin find 7\n1 next\n1 yes\n")
    []
    ≡ printed_whole (codes
    "0 begun acquire 313\n0 filled 0 313\n0 granted 0 313\n0 finished acquire 313 -> 0\n0 begun release 0 313 lock\n0 freed 0 313\n1 begun acquire 7\n1 filled 0 7\n0 locked\n0 finished release 0 313 lock -> Locked\n1 finished acquire 7 -> IsLocked\n1 begun find 7\n1 finished find 7 -> 1\n")
unfolding output_of_lines machine_of setup_of number_at lines_from command_of turn_of begin_of decision_of
    robust.robust_call robust.any_robust_call robust.acquire robust.release robust.find mode_at next_of nexts outcome
    event_text digits
meets_the_lock = refl

-- a recovery asks, is refused a yes while the owner lives, and frees once it has died
recovers : output_of (codes "robust 1 2\n0 begin acquire 1\n0 next 9\n1 begin recover default\n1 next 9\n1 yes\ndie 1\n1 yes\n1 next 9\n") []
    ≡ printed_whole (codes
    "0 begun acquire 1\n0 filled 0 1\n0 granted 0 1\n0 finished acquire 1 -> 0\n1 begun recover default\n1 asked 0 1\nrefused OwnerLives\ndied 1\n1 told 0 1\n1 freed 0 1\n1 finished recover default -> Unlocked\n")
unfolding output_of_lines machine_of setup_of number_at lines_from command_of turn_of death_of begin_of decision_of
    robust.robust_call robust.any_robust_call robust.acquire robust.recover mode_at next_of nexts outcome event_text
    refusal_text digits
recovers = refl

-- an add stops between the two words of its value, its owner dies, and the index is freed without a question
dies_in_an_add : output_of
    (codes
    "container 1 2\n0 begin add 18446744073709551618 1\n0 next 6\ndie 1\n1 begin recover 1 default\n1 next 20\n1 begin add 7 2\n1 next 20\n1 begin get_state\n1 next 20\n")
    []
    ≡ printed_whole (codes
    "0 begun add 18446744073709551618 1\n0 filled 0 1\n0 granted 0 1\ndied 1\n1 begun recover 1 default\n1 shown 0\n1 freed 0 1\n1 finished recover 1 default -> Unlocked\n1 begun add 7 2\n1 filled 0 2\n1 granted 0 2\n1 placed 0 7\n1 finished add 7 2 -> 0\n1 begun get_state\n1 copied 0 7\n1 finished get_state -> 1\n")
unfolding output_of_lines machine_of setup_of number_at lines_from command_of turn_of death_of begin_of
    container.container_call container.any_container_call container.add container.recover mode_at next_of nexts outcome
    event_text digits
dies_in_an_add = refl

-- a replace, and a state that is brought up to date
replaced : output_of (codes
    "container 1 2\n0 begin add 5 1\n0 next 9\n1 begin get_state\n1 next 20\n0 begin replace 0 6 1\n0 next 20\n1 begin update_state\n1 next 20\n") []
    ≡ printed_whole (codes
    "0 begun add 5 1\n0 filled 0 1\n0 granted 0 1\n0 placed 0 5\n0 finished add 5 1 -> 0\n1 begun get_state\n1 copied 0 5\n1 finished get_state -> 1\n0 begun replace 0 6 1\n0 hidden 0\n0 placed 0 6\n0 finished replace 0 6 1 -> done\n1 begun update_state\n1 copied 0 6\n1 finished update_state -> true\n")
unfolding output_of_lines machine_of setup_of number_at lines_from command_of turn_of begin_of
    container.container_call container.any_container_call container.add container.replace next_of nexts outcome
    event_text digits
replaced = refl

-- a full queue hands the oldest index back, the receiver dies with the other one, and the sender takes it back
reclaimed : output_of (codes
    "loan 2 1 3\n0 begin loan\n0 next 20\n0 begin send 0\n0 next 20\n0 begin loan\n0 next 20\n0 begin send 1\n0 next 20\n1 begin receive\n1 next 20\n0 begin loan\n0 next 20\ndie 1\n0 begin reclaim\n0 next 20\n")
    []
    ≡ printed_whole (codes
    "0 begun loan\n0 claimed 0\n0 finished loan -> 0\n0 begun send 0\n0 published 0\n0 acted send 0 -> none\n0 finished send 0 -> none\n0 begun loan\n0 claimed 1\n0 finished loan -> 1\n0 begun send 1\n0 published 1\n0 handed_out 0\n0 acted send 1 -> some 0\n0 freed 0\n0 finished send 1 -> some 0\n1 begun receive\n1 handed_out 1\n1 acted receive -> some 1\n1 finished receive -> some 1\n0 begun loan\n0 claimed 0\n0 finished loan -> 0\ndied 1\n0 begun reclaim\n0 freed 1\n0 finished reclaim -> 1\n")
unfolding output_of_lines machine_of setup_of number_at lines_from command_of turn_of death_of begin_of
    loan.loan_call loan.any_loan_call loan.send next_of nexts outcome event_text digits
reclaimed = refl

-- both numbers of a loan channel are tested, first whether one is above its greatest
too_many_slots : output_of (codes "loan 16777215 0 1") [] ≡ stopped 1 causes.ProvidedCapacityGreaterThanMaxCapacity
unfolding output_of_lines machine_of setup_of number_at
too_many_slots = refl

-- a loan channel whose submission queue has no place is refused
no_room_to_send : output_of (codes "loan 1 0 1") [] ≡ stopped 1 causes.ProvidedCapacityIsZero
unfolding output_of_lines machine_of setup_of number_at
no_room_to_send = refl

-- memory is refused to the second turn, and the run goes on with the next line
short_turn : output_of (codes "index_queue 1 1\n0 begin acquire_producer\n0 next\n0 next") (false ∷ true ∷ [])
    ≡ printed_whole (codes "0 begun acquire_producer\nrefused NoMemory\n0 finished acquire_producer -> true\n")
unfolding output_of_lines machine_of setup_of number_at lines_from command_of turn_of begin_of index_queue_call any_queue_call
    next_of outcome event_text refusal_text digits
short_turn = refl

-- memory is refused to the third of several turns: the events of the first two are printed,
-- and the line is over
short_of_several : output_of (codes "counts 3 1\n0 begin set 1\n0 next\n0 begin reset_all\n0 next 9\n0 next\n0 next\n0 next")
    (false ∷ false ∷ false ∷ false ∷ false ∷ true ∷ [])
    ≡ printed_whole (codes
    "0 begun set 1\n0 counted 1\n0 finished set 1 -> 0\n0 begun reset_all\n0 taken_out 1 1\nrefused NoMemory\n0 finished reset_all -> done\nrefused Idle\nrefused Idle\n")
unfolding output_of_lines machine_of setup_of number_at lines_from command_of turn_of begin_of counting_bit_set_call
    any_set_call set next_of nexts outcome event_text refusal_text digits
short_of_several = refl

-- a turn that is refused for another reason is not for memory, and one that lacked memory can be tried again
refused_first : output_of (codes "index_queue 1 1\n0 next\n0 begin len\n0 begin len\n0 next 9") (true ∷ true ∷ false ∷ true ∷ [])
    ≡ printed_whole (codes "refused Idle\nrefused NoMemory\n0 begun len\nrefused NoMemory\n")
unfolding output_of_lines machine_of setup_of number_at lines_from command_of turn_of begin_of index_queue_call any_queue_call
    push_index next_of nexts outcome event_text refusal_text digits
refused_first = refl

-- the lines behind a refused turn are read as ever
short_and_malformed : output_of (codes "index_queue 1 1\n0 begin len\n0 begin push") (true ∷ [])
    ≡ record { text = codes "refused NoMemory\n"; end = Err (3, causes.MissingValue) }
unfolding output_of_lines machine_of setup_of number_at lines_from command_of turn_of begin_of index_queue_call any_queue_call
    push_index outcome refusal_text
short_and_malformed = refl

-- an empty text has no first line: a value is missing in line 1
missing : output_of [] [] ≡ stopped 1 causes.MissingValue
unfolding output_of_lines machine_of setup_of
missing = refl

-- the capacity is tested after all words
too_large : output_of (codes "index_queue 4294967296 1") [] ≡ stopped 1 causes.ProvidedCapacityGreaterThanMaxCapacity
unfolding output_of_lines machine_of setup_of number_at
too_large = refl

-- a word too many in the first line is malformed, whatever the capacity is
extra : output_of (codes "index_queue 4294967296 1 x") [] ≡ stopped 1 causes.ExtraWords
unfolding output_of_lines machine_of setup_of number_at
extra = refl

-- the lines before a malformed one are printed, and empty lines are counted
malformed : output_of (codes "index_queue 1 1\n\ndie 1\n0 begin push") [] ≡ record { text = codes "refused WrongCall\n"; end = Err (4, causes.MissingValue) }
unfolding output_of_lines machine_of setup_of number_at lines_from command_of turn_of death_of begin_of index_queue_call
    push_index outcome refusal_text
malformed = refl
