-- How the events of a loan channel are read: where each index is, and what the sender's table is to say.
use Rattle.std.specs.Prelude.{ℕ, ◌+◌, ◌==◌, Bool, true, false, Option, Some, None, List, [], ◌∷◌, ◌++◌, fold, if◌then◌else◌}
use Rattle.std.specs.List.{flat_map}
use Rattle.steps.specs.declared.loan.places.Place.{Place}
use Rattle.steps.specs.declared.loan.places.Place.TheVariants as places
use Rattle.model.specs.declared.event.Answer.{Answer}
use Rattle.model.specs.declared.event.Answer.TheVariants.{PoppedIndex}
use Rattle.model.specs.declared.event.Answer.TheVariants as answers
use Rattle.model.specs.declared.event.Event.{Event}
use Rattle.model.specs.declared.event.Event.TheVariants.{Begun, Published, HandedOut, Claimed, Freed, Returned, TakenBack, Died, Acted, Finished}
use Rattle.model.specs.declared.event.Item.TheVariants.{Index}
use Rattle.model.specs.declared.event.Start.{Start}
use Rattle.model.specs.declared.event.Start.TheVariants.{Loan, Queues}
use Rattle.model.specs.declared.families.loan.LoanStart.TheVariants as calls
use Rattle.model.specs.declared.families.queues.QueueStart.TheVariants.{PushIndex, Pop}

-- ---- places

-- where an index is: nobody has it; it is in passing in a call of this party; this party has it, in no call; it waits
-- in the submission queue; or in the completion queue
pub data Spot : Type 0 where
  Free : Spot
  Passing : (party : ℕ) → Spot
  With : (party : ℕ) → Spot
  Waiting : Spot
  Returning : Spot

-- an index goes from one place to another
pub record Move : Type 0 where
  pub index : ℕ
  pub from : Spot
  pub to : Spot

module _ {T : Type 0} where
  -- the move that an event tells
  abbrev pub move_of : Event T → Option Move
  move_of (Claimed p index) = Some (record { index = index; from = Free; to = Passing p })
  move_of (Finished p (Loan calls.Loan) (answers.Index index)) =
      Some (record { index = index; from = Passing p; to = With p })
  move_of (Begun p (Loan (calls.Send index))) =
      Some (record { index = index; from = With p; to = Passing p })
  move_of (Begun p (Loan (calls.GiveUp index))) =
      Some (record { index = index; from = With p; to = Passing p })
  move_of (Published p (Index index)) =
      Some (record { index = index; from = Passing p; to = Waiting })
  move_of (HandedOut p (Index index)) =
      Some (record { index = index; from = Waiting; to = Passing p })
  move_of (Finished p (Loan calls.Receive) (PoppedIndex index)) =
      Some (record { index = index; from = Passing p; to = With p })
  move_of (Begun p (Loan (calls.GiveBack index))) =
      Some (record { index = index; from = With p; to = Passing p })
  move_of (Returned p index) = Some (record { index = index; from = Passing p; to = Returning })
  move_of (TakenBack p index) = Some (record { index = index; from = Returning; to = Passing p })
  move_of (Freed p index) = Some (record { index = index; from = Passing p; to = Free })
  move_of e = None

-- where an index is after a move of it or of another one
abbrev pub moved : ℕ → Spot → Option Move → Spot
moved i spot None = spot
moved i spot (Some move) = if move.index == i then move.to else spot

module _ {T : Type 0} where
  -- where the index is after an event
  abbrev pub spot_after : ℕ → Spot → Event T → Spot
  spot_after i spot e = moved i spot (move_of e)

  -- where the index is after these events
  abbrev pub spot_of : ℕ → List (Event T) → Spot
  spot_of i events = fold (spot_after i) Free events

  -- ---- the sender's table

  -- an index is Loaned from its claim on, Sent from its publication on, and Free from its free on
  abbrev pub place_after : ℕ → Place → Event T → Place
  place_after i place (Claimed p index) = if index == i then places.Loaned else place
  place_after i place (Published p (Index index)) = if index == i then places.Sent else place
  place_after i place (Freed p index) = if index == i then places.Free else place
  place_after i place e = place

  -- what the sender's table has of the index after these events
  abbrev pub place_of : ℕ → List (Event T) → Place
  place_of i events = fold (place_after i) places.Free events

  -- ---- the receiver, and who has died

  -- each finished reclaim makes the party of the next number the receiver
  abbrev pub receiver_after : ℕ → Event T → ℕ
  receiver_after p (Finished q (Loan calls.Reclaim) answer) = p + 1
  receiver_after p e = p

  -- which party is the receiver after these events: 1 first
  abbrev pub receiver_of : List (Event T) → ℕ
  receiver_of events = fold receiver_after 1 events

  -- whether the party has died, after an event
  abbrev pub died_after : ℕ → Bool → Event T → Bool
  died_after p dead (Died q) = if q == p then true else dead
  died_after p dead e = dead

  -- whether the party has died in these events
  abbrev pub has_died_by : ℕ → List (Event T) → Bool
  has_died_by p events = fold (died_after p) false events

  -- ---- the completion queue

  -- the index that the event gives back, if it gives one back
  abbrev pub gives_back : Event T → List ℕ
  gives_back (Returned p index) = index ∷ []
  gives_back e = []

  -- the index that the event takes back, if it takes one back
  abbrev pub takes_back : Event T → List ℕ
  takes_back (TakenBack p index) = index ∷ []
  takes_back e = []

  -- All indices that were given back, in order.
  abbrev pub given_back : List (Event T) → List ℕ
  given_back events = flat_map gives_back events

  -- all indices that were taken back, in order
  abbrev pub taken_back : List (Event T) → List ℕ
  taken_back events = flat_map takes_back events

  -- the index that the event frees, if it frees one
  abbrev pub frees : Event T → List ℕ
  frees (Freed p index) = index ∷ []
  frees e = []

  -- all indices that were freed, in order
  abbrev pub freed : List (Event T) → List ℕ
  freed events = flat_map frees events

  -- the index that the event claims, if it claims one
  abbrev pub claims : Event T → List ℕ
  claims (Claimed p index) = index ∷ []
  claims e = []

  -- all indices that were claimed, in order
  abbrev pub claimed : List (Event T) → List ℕ
  claimed events = flat_map claims events

  -- ---- the submission queue as a queue: a send pushes, a receive pops, and so does a reclaim for each index that it
  -- hands out

  -- whether a reclaim is under way
  abbrev pub reclaims_after : Bool → Event T → Bool
  reclaims_after now (Begun p (Loan calls.Reclaim)) = true
  reclaims_after now (Finished p (Loan calls.Reclaim) answer) = false
  reclaims_after now e = now

  -- the push or pop that acts at an event, and its answer
  abbrev pub queue_acts : Bool → Event T → List (Start T × Answer T)
  queue_acts reclaims (Acted p (Loan (calls.Send index)) answer) =
      (Queues (PushIndex index), answer) ∷ []
  queue_acts reclaims (Acted p (Loan calls.Receive) answer) = (Queues Pop, answer) ∷ []
  queue_acts reclaims (HandedOut p (Index index)) =
      if reclaims then (Queues Pop, PoppedIndex index) ∷ [] else []
  queue_acts reclaims e = []

  -- the pushes and pops that act at these events, with their answers, where a reclaim is under way before them or not
  abbrev pub as_queue : Bool → List (Event T) → List (Start T × Answer T)
  as_queue reclaims [] = []
  as_queue reclaims (e ∷ es) =
      queue_acts reclaims e ++ as_queue (reclaims_after reclaims e) es

  -- The pushes and pops on the submission queue, in the order in which they acted, with their answers.
  abbrev pub queue_moments : List (Event T) → List (Start T × Answer T)
  queue_moments events = as_queue false events
