-- What a step of a call of a loan channel writes down, and what the machine keeps of the channel after it.
use Rattle.std.specs.Prelude.{ℕ, ◌+◌, ◌%◌, ◌^◌, ◌==◌, ◌&&◌, Option, Some, None, option_map, List, [], ◌∷◌, fold, if◌then◌else◌, slice_index, slice_set}
use Rattle.steps.specs.declared.indices.unique.ReleaseStage.{ReleaseStage}
use Rattle.steps.specs.declared.indices.unique.ReleaseStage.TheVariants as releases
use Rattle.steps.specs.declared.loan.places.Place.TheVariants.{Free, Loaned, Sent}
use Rattle.steps.specs.declared.loan.reclaim.ReclaimStage.{ReclaimStage}
use Rattle.steps.specs.declared.loan.reclaim.ReclaimStage.TheVariants as reclaims
use Rattle.steps.specs.declared.loan.send.SendStage.{SendStage}
use Rattle.steps.specs.declared.loan.send.SendStage.TheVariants as sends
use Rattle.steps.specs.declared.loan.take_back.TakeBackStage.{TakeBackStage}
use Rattle.steps.specs.declared.loan.take_back.TakeBackStage.TheVariants as take_backs
use Rattle.steps.specs.declared.queues.overflow.PushStage.{PushStage}
use Rattle.steps.specs.declared.queues.overflow.PushStage.TheVariants as overflow_pushes
use Rattle.steps.specs.declared.queues.overflow.PopStage.{PopStage}
use Rattle.steps.specs.declared.queues.overflow.PopStage.TheVariants as overflow_pops
use Rattle.steps.specs.declared.queues.ring.PushStage as pushes
use Rattle.steps.specs.declared.queues.ring.PopStage as pops
use Rattle.steps.specs.Loan.Back.{index_in}
use Rattle.steps.specs.Loan.Layout.{submission_word, completion_word}
use Rattle.steps.specs.Queues.Overflow.{cell_word}
use Rattle.steps.specs.Queues.Ring as ring
use Rattle.steps.specs.Queues.Ring.{distance, word_at}
use Rattle.model.specs.declared.event.Item.TheVariants.{Index}
use Rattle.model.specs.declared.event.Start.TheVariants as starts
use Rattle.model.specs.declared.event.Answer.{Answer}
use Rattle.model.specs.declared.event.Answer.TheVariants as answers
use Rattle.model.specs.declared.event.Event.{Event}
use Rattle.model.specs.declared.event.Event.TheVariants.{Published, HandedOut, Claimed, Freed, Returned, TakenBack, Acted}
use Rattle.model.specs.declared.families.Flight.{Flight}
use Rattle.model.specs.declared.families.Flight.TheVariants as flights
use Rattle.model.specs.declared.families.loan.Book.{Book}
use Rattle.model.specs.declared.families.loan.LoanStart.{LoanStart}
use Rattle.model.specs.declared.families.loan.LoanStart.TheVariants as calls
use Rattle.model.specs.declared.families.loan.effects.Effect.{Effect}
use Rattle.model.specs.declared.families.loan.effects.Effect.TheVariants as effects
use Rattle.model.specs.declared.families.loan.calls.LoanFlight.{LoanFlight}
use Rattle.model.specs.declared.families.loan.calls.LoanFlight.TheVariants.{Loan, Send, GiveUp, TakeBack, Receive, GiveBack, Reclaim}
use Rattle.model.specs.declared.party.Party.{Party}
use Rattle.model.specs.Families.Loan.Calls.{after, goes_back}
use Rattle.model.specs.Parties.{party_of, doing_of, flight_of}
use Rattle.model.specs.Step.{Step, answer_in}

-- ---- the words of the two queues

-- the read position of a queue that begins at this word
abbrev pub read_in : ℕ → List ℕ → ℕ
read_in base words = slice_index words (word_at base 1)

-- what stands in a cell of the submission queue, which begins at this word, by its position
abbrev pub sent_at : (base queue : ℕ) → List ℕ → ℕ → ℕ
sent_at base queue words position = slice_index words (word_at base (cell_word queue position))

-- What stands in a cell of the completion queue,
-- which begins at this word and has a cell for each slot, by its position.
abbrev pub given_back_at : (base slots : ℕ) → List ℕ → ℕ → ℕ
given_back_at base slots words position =
    slice_index words (word_at base (ring.cell_word slots 1 position))

-- ---- a send that has published over a full queue, and acts once the read position goes on

-- the index of a push that is about to move the read position from this one
abbrev pub pending_push : (position index : ℕ) → PushStage → Option ℕ
pending_push position index (overflow_pushes.MovesRead read) =
    if read == position then Some index else None
pending_push position index stage = None

-- the index of a send that is about to move the read position from this one
abbrev pub pending_send : (position index : ℕ) → SendStage → Option ℕ
pending_send position index (sends.Pushes stage) = pending_push position index stage
pending_send position index (sends.Releases other stage) = None

module _ {T : Type 0} where
  -- The index of the call under way, if that is a send that is
  -- about to move the read position from the one in the words.
  abbrev pub pending : List ℕ → Option (Flight T) → Option ℕ
  pending words (Some (flights.Loan (Send run))) =
      pending_send (read_in (submission_word run.call.slots) words) run.given run.call.stage
  pending words other = None

  -- the send that acts where this party moves the read position, which the receiver alone can do meanwhile
  abbrev pub beside : Book → List ℕ → List (ℕ × Party T) → ℕ → Option (ℕ × ℕ)
  beside book words latest p =
      if p == book.receiver
      then option_map (λ index. (0, index))
      (pending words (flight_of (doing_of (party_of 0 latest))))
      else None

-- ---- what the next step of a call does

-- What the next step of a send's push does to the submission queue, which begins at the word `base`. A push
-- that publishes over a full queue acts only once the read position moves: by its own step, or by one of a
-- receive. If the read position has moved before it publishes, there is room, and it acts as it publishes.
abbrev pub push_effect : (base queue : ℕ) → List ℕ → ℕ → PushStage → ℕ → Effect
push_effect base queue words index (overflow_pushes.StoresWrite write read) old =
    if distance write read == queue && (read_in base words == read)
    then effects.Publishes index
    else effects.PublishesAndActs index
push_effect base queue words index (overflow_pushes.MovesRead read) old =
    if old == read then effects.TakesOut index (sent_at base queue words read) else effects.Quiet
push_effect base queue words index stage old = effects.Quiet

-- the first step of a release clears the flag of its index
abbrev pub release_effect : ℕ → ReleaseStage → Effect
release_effect index releases.ClearsFlag = effects.Frees index
release_effect index stage = effects.Quiet

-- what the next step of a send does: one of its push, or one of its release of the index that the push took out
abbrev pub send_effect : (base queue : ℕ) → List ℕ → ℕ → SendStage → ℕ → Effect
send_effect base queue words index (sends.Pushes stage) old =
    push_effect base queue words index stage old
send_effect base queue words index (sends.Releases back stage) old =
    release_effect back stage

-- what the next step of a receive does; `push` is the send that waits for the read position, if there is one
abbrev pub receive_effect : (base queue : ℕ) → List ℕ → Option (ℕ × ℕ) → PopStage → ℕ → Effect
receive_effect base queue words push (overflow_pops.LoadsWrite read) old =
    if old == read then effects.FindsNone else effects.Quiet
receive_effect base queue words push (overflow_pops.MovesRead read) old =
    if old == read then effects.Receives (sent_at base queue words read) push else effects.Quiet
receive_effect base queue words push stage old = effects.Quiet

-- what the next step of a take-back does: its pop takes an index out as it moves the read position, and then frees it
abbrev pub take_back_effect : TakeBackStage → Effect
take_back_effect (take_backs.Pops (pops.TheVariants.StoresRead read) found) =
    effects.TakesBack found.0
take_back_effect (take_backs.Pops stage found) = effects.Quiet
take_back_effect (take_backs.Releases index stage) = release_effect index stage

-- what the next step of a give-back does: the index is back as the write position moves
abbrev pub give_back_effect : ℕ → pushes.PushStage → Effect
give_back_effect index (pushes.TheVariants.StoresWrite write) = effects.Returns index
give_back_effect index stage = effects.Quiet

-- What the next step of a reclaim does that drains the submission queue:
-- an index is handed out as the read position moves.
abbrev pub drains_effect : (base queue : ℕ) → List ℕ → PopStage → ℕ → Effect
drains_effect base queue words (overflow_pops.MovesRead read) old =
    if old == read then effects.HandsOut (sent_at base queue words read) else effects.Quiet
drains_effect base queue words stage old = effects.Quiet

-- What the next step of a reclaim does that empties the completion queue:
-- an index is taken back as the read position moves.
abbrev pub empties_effect : (base slots : ℕ) → List ℕ → pops.PopStage → Effect
empties_effect base slots words (pops.TheVariants.StoresRead read) =
    effects.TakesBack (given_back_at base slots words read)
empties_effect base slots words stage = effects.Quiet

-- what the next step of a reclaim does: it drains the submission queue, empties the completion queue, or frees an index
abbrev pub reclaim_effect : (slots queue : ℕ) → List ℕ → ReclaimStage → ℕ → Effect
reclaim_effect slots queue words (reclaims.Drains stage) old =
    drains_effect (submission_word slots) queue words stage old
reclaim_effect slots queue words (reclaims.Empties stage) old =
    empties_effect (completion_word slots queue) slots words stage
reclaim_effect slots queue words (reclaims.Releases number index stage) old =
    release_effect index stage

-- What the next step of a call does to the channel, given its words, the send that waits for the read
-- position (`push`), and the old value of the word that the step is on.
abbrev pub effect_of : List ℕ → Option (ℕ × ℕ) → LoanFlight → ℕ → Effect
effect_of words push (Loan run) old = effects.Claims
effect_of words push (Send run) old =
    send_effect (submission_word run.call.slots) run.call.queue words run.given run.call.stage old
effect_of words push (GiveUp run) old = release_effect run.given run.call.stage
effect_of words push (TakeBack run) old = take_back_effect run.call.stage
effect_of words push (Receive by run) old =
    receive_effect run.call.base run.call.call.capacity words push run.call.call.stage old
effect_of words push (GiveBack by run) old = give_back_effect run.given run.call.call.stage
effect_of words push (Reclaim call) old =
    reclaim_effect call.slots call.queue words call.stage old

module _ {T : Type 0} where
  -- ---- the events

  -- The event by which a call acts with this answer.
  abbrev pub acts : ℕ → LoanStart → Answer T → Event T
  acts p start answer = Acted p (starts.Loan start) answer

  -- the claim of a loan that answers an index
  abbrev pub claimed : ℕ → Option (Answer T) → List (Event T)
  claimed p (Some (answers.Index index)) = Claimed p index ∷ []
  claimed p outcome = []

  -- a send that waited for the read position acts after the receive that has moved it
  abbrev pub room_made : Option (ℕ × ℕ) → List (Event T)
  room_made None = []
  room_made (Some push) = acts push.0 (calls.Send push.1) answers.PoppedNone ∷ []

  -- The events of what a step does to the channel, and then of the calls that act with it.
  abbrev pub effects_of : ℕ → Effect → Option (Answer T) → List (Event T)
  effects_of p effects.Quiet outcome = []
  effects_of p effects.Claims outcome = claimed p outcome
  effects_of p (effects.Publishes index) outcome = Published p (Index index) ∷ []
  effects_of p (effects.PublishesAndActs index) outcome =
      Published p (Index index)
      ∷ acts p (calls.Send index) answers.PoppedNone
      ∷ []
  effects_of p (effects.TakesOut index oldest) outcome =
      HandedOut p (Index oldest)
      ∷ acts p (calls.Send index) (answers.PoppedIndex oldest)
      ∷ []
  effects_of p effects.FindsNone outcome =
      acts p calls.Receive answers.PoppedNone ∷ []
  effects_of p (effects.Receives oldest push) outcome =
      HandedOut p (Index oldest)
      ∷ acts p calls.Receive (answers.PoppedIndex oldest)
      ∷ room_made push
  effects_of p (effects.HandsOut oldest) outcome = HandedOut p (Index oldest) ∷ []
  effects_of p (effects.Returns index) outcome = Returned p index ∷ []
  effects_of p (effects.TakesBack index) outcome = TakenBack p index ∷ []
  effects_of p (effects.Frees index) outcome = Freed p index ∷ []

  -- what the next step of a call writes down
  abbrev pub wrote : List ℕ → Option (ℕ × ℕ) → ℕ → LoanFlight → ℕ → Option (Answer T)
      → List (Event T)
  wrote words push p flight old outcome = effects_of p (effect_of words push flight old) outcome

  -- ---- what is kept

  -- What the machine keeps of the channel after an event: the sender's table says of the index that it is
  -- loaned, sent or free, and an index that is freed has no holder.
  abbrev pub book_after : Book → Event T → Book
  book_after book (Claimed p index) =
      record book { places = slice_set book.places index Loaned }
  book_after book (Published p (Index index)) =
      record book { places = slice_set book.places index Sent }
  book_after book (Freed p index) =
      record book {
        places = slice_set book.places index Free;
        holders = slice_set book.holders index None;
      }
  book_after book e = book

  -- A party has an index from the end of the call that has got it. A reclaim that is done leaves the next receiver,
  -- whose number, at most one a turn, has 64 bits.
  abbrev pub ended_book : ℕ → LoanStart → Option (Answer T) → Book → Book
  ended_book p calls.Loan (Some (answers.Index index)) book =
      record book { holders = slice_set book.holders index (Some p) }
  ended_book p calls.Receive (Some (answers.PoppedIndex index)) book =
      record book { holders = slice_set book.holders (index_in index) (Some p) }
  ended_book p calls.Reclaim (Some (answers.Number number)) book =
      record book { receiver = (book.receiver + 1) % 2 ^ 64 }
  ended_book p start outcome book = book

  -- ---- all that a step comes to

  -- all that a step of a loan channel's call comes to, where its word has this old value
  abbrev pub step : List ℕ → Option (ℕ × ℕ) → ℕ → LoanStart → LoanFlight → ℕ → Book
      → Step LoanFlight Book T
  step words push p start flight old book =
      record {
        after = after book.places flight old;
        back = goes_back flight old;
        wrote = wrote words push p flight old (answer_in (after book.places flight old));
        kept = ended_book p start (answer_in (after book.places flight old))
            (fold book_after book
            (wrote words push p flight old (answer_in (after book.places flight old))));
      }
