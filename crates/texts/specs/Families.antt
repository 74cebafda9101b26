-- The families of calls: the name of each kind, and a line for each call, answer and event, which passes on to the
-- family's file. An answer or an event that several families can have, of words and numbers alone, prints here.
use Rattle.std.specs.Prelude.{ℕ, Bool, true, false, List, ◌++◌, Option, Some, None, Result, if◌then◌else◌, bytes_eq, codes, decimal}
use Rattle.model.specs.declared.event.Answer.{Answer}
use Rattle.model.specs.declared.event.Answer.TheVariants as answers
use Rattle.model.specs.declared.event.Event.{Event}
use Rattle.model.specs.declared.event.Event.TheVariants as events
use Rattle.model.specs.declared.event.Start.{Start}
use Rattle.model.specs.declared.event.Start.TheVariants as starts
use Rattle.model.specs.declared.turn.Kind.{Kind}
use Rattle.model.specs.declared.turn.Kind.TheVariants as kinds
use Rattle.texts.specs.declared.error.Cause.{Cause}
use Rattle.texts.specs.Atomic as atomic
use Rattle.texts.specs.Bits as bits
use Rattle.texts.specs.Container as container
use Rattle.texts.specs.Indices as indices
use Rattle.texts.specs.Indices.Robust as robust
use Rattle.texts.specs.Loan as loan
use Rattle.texts.specs.Queues as queues

-- ---- how they are read

-- the kind of this name, if there is one
abbrev pub kind_named : List ℕ → Option Kind
kind_named name =
    if bytes_eq name (codes "index_queue") then Some kinds.IndexQueue
    else if bytes_eq name (codes "overflow") then Some kinds.Overflow
    else if bytes_eq name (codes "queue") then Some kinds.Queue
    else if bytes_eq name (codes "atomic") then Some kinds.Atomic
    else if bytes_eq name (codes "bits") then Some kinds.Bits
    else if bytes_eq name (codes "counts") then Some kinds.Counts
    else if bytes_eq name (codes "indices") then Some kinds.Indices
    else if bytes_eq name (codes "robust") then Some kinds.Robust
    else if bytes_eq name (codes "container") then Some kinds.Container
    else if bytes_eq name (codes "loan") then Some kinds.Loan
    else None

-- the call of this name on a structure of this kind
abbrev pub call_named : Kind → List ℕ → List (List ℕ) → Result (Start ℕ × List (List ℕ)) Cause
call_named kinds.IndexQueue name ws = queues.index_queue_call name ws
call_named kinds.Overflow name ws = queues.overflow_call name ws
call_named kinds.Queue name ws = queues.value_queue_call name ws
call_named kinds.Atomic name ws = atomic.value_call name ws
call_named kinds.Bits name ws = bits.bit_set_call name ws
call_named kinds.Counts name ws = bits.counting_bit_set_call name ws
call_named kinds.Indices name ws = indices.index_call name ws
call_named kinds.Robust name ws = robust.robust_call name ws
call_named kinds.Container name ws = container.container_call name ws
call_named kinds.Loan name ws = loan.loan_call name ws

-- ---- how they print

-- a call with its arguments, as it is printed
abbrev pub text_of_call : Start ℕ → List ℕ
text_of_call (starts.Queues start) = queues.call_text start
text_of_call (starts.Atomic start) = atomic.call_text start
text_of_call (starts.Bits start) = bits.call_text start
text_of_call (starts.Indices start) = indices.call_text start
text_of_call (starts.Robust start) = robust.call_text start
text_of_call (starts.Container start) = container.call_text start
text_of_call (starts.Loan start) = loan.call_text start

-- a number that there was, as it is printed
abbrev pub some_text : ℕ → List ℕ
some_text number = codes "some " ++ decimal number

-- a truth value, as it is printed
abbrev pub truth_text : Bool → List ℕ
truth_text true = codes "true"
truth_text false = codes "false"

-- an answer, as it is printed
abbrev pub text_of_answer : Answer ℕ → List ℕ
text_of_answer answers.Done = codes "done"
text_of_answer (answers.Truth said) = truth_text said
text_of_answer (answers.Number number) = decimal number
text_of_answer answers.PoppedNone = codes "none"
text_of_answer (answers.PoppedIndex index) = some_text index
text_of_answer (answers.Popped value) = some_text value
text_of_answer (answers.Loaded value) = decimal value
text_of_answer answers.ResetNone = codes "none"
text_of_answer (answers.Reset bit) = some_text bit
text_of_answer (answers.Index index) = decimal index
text_of_answer (answers.NoIndex failure) = indices.failure_text failure
text_of_answer (answers.State state) = indices.state_text state
text_of_answer (answers.NotOwned failure) = robust.failure_text failure
text_of_answer (answers.NoPlace failure) = container.add_failure_text failure
text_of_answer (answers.NotRemoved error) = container.remove_error_text error

-- a call and its answer, as they are printed
abbrev pub answered_text : Start ℕ → Answer ℕ → List ℕ
answered_text start answer = text_of_call start ++ codes " -> " ++ text_of_answer answer

-- whose event it is, and what was done, as it is printed; a death is no party's
abbrev pub text_of_event : Event ℕ → List ℕ
text_of_event (events.Begun party start) = decimal party ++ codes " begun " ++ text_of_call start
text_of_event (events.Published party item) =
    decimal party ++ codes " published " ++ queues.item_text item
text_of_event (events.HandedOut party item) =
    decimal party ++ codes " handed_out " ++ queues.item_text item
text_of_event (events.Set party bit) = decimal party ++ codes " set " ++ decimal bit
text_of_event (events.Cleared party bit) = decimal party ++ codes " cleared " ++ decimal bit
text_of_event (events.Counted party place) = decimal party ++ codes " counted " ++ decimal place
text_of_event (events.TakenOut party place count) =
    decimal party ++ codes " taken_out " ++ bits.taken_text place count
text_of_event (events.Claimed party index) = decimal party ++ codes " claimed " ++ decimal index
text_of_event (events.Freed party index) = decimal party ++ codes " freed " ++ decimal index
text_of_event (events.Locked party) = decimal party ++ codes " locked"
text_of_event (events.Filled party index owner) =
    decimal party ++ codes " filled " ++ robust.owned_text index owner
text_of_event (events.Granted party index owner) =
    decimal party ++ codes " granted " ++ robust.owned_text index owner
text_of_event (events.FreedOf party index owner) =
    decimal party ++ codes " freed " ++ robust.owned_text index owner
text_of_event (events.Asked party index owner) =
    decimal party ++ codes " asked " ++ robust.owned_text index owner
text_of_event (events.Told party index owner) =
    decimal party ++ codes " told " ++ robust.owned_text index owner
text_of_event (events.Placed party index value) =
    decimal party ++ codes " placed " ++ container.placed_text index value
text_of_event (events.Hidden party index) = decimal party ++ codes " hidden " ++ decimal index
text_of_event (events.Copied party index value) =
    decimal party ++ codes " copied " ++ container.placed_text index value
text_of_event (events.Shown party index) = decimal party ++ codes " shown " ++ decimal index
text_of_event (events.Returned party index) = decimal party ++ codes " returned " ++ decimal index
text_of_event (events.TakenBack party index) =
    decimal party ++ codes " taken_back " ++ decimal index
text_of_event (events.Died owner) = codes "died " ++ decimal owner
text_of_event (events.Acted party start answer) =
    decimal party ++ codes " acted " ++ answered_text start answer
text_of_event (events.Finished party start answer) =
    decimal party ++ codes " finished " ++ answered_text start answer
