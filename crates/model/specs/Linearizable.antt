-- Linearizability of a history, as Herlihy and Wing define it.
use Rattle.std.specs.Prelude.{◌≡◌, ◌≢◌, ◌<◌, ℕ, ◌+◌, ◌==◌, Bool, true, Option, Some, None, IfSome, List, [], ◌∷◌, map, All, if◌then◌else◌}
use Rattle.std.specs.List.{AllPairs, Contains}
use Rattle.model.specs.declared.event.Start.{Start}
use Rattle.model.specs.declared.event.Answer.{Answer}
use Rattle.model.specs.declared.event.Event.{Event}
use Rattle.model.specs.declared.event.Event.TheVariants.{Begun, Finished}
use Rattle.model.specs.Objects.{Object, IsLegal}

-- The response of a call: its answer, and its place in the history.
pub record Response (T : Type 0) : Type 0 where
  pub place : ℕ  -- where it stands in the history
  pub answer : Answer T

-- A call of a history: its invocation, and its response if it has got one.
pub record Call (T : Type 0) : Type 0 where
  pub place : ℕ  -- where the invocation stands in the history
  pub party : ℕ
  pub start : Start T
  pub response : Option (Response T)  -- None while the call is pending

module _ {T : Type 0} where
  -- ---- a history: Begun is an invocation, Finished a response, and nothing else is looked at

  -- the party's next response in these events, of which the first stands at this place
  abbrev pub response_in : ℕ → List (Event T) → ℕ → Option (Response T)
  response_in p [] place = None
  response_in p (Finished q start answer ∷ es) place =
      if q == p
      then Some (record { place = place; answer = answer })
      else response_in p es (place + 1)
  response_in p (e ∷ es) place = response_in p es (place + 1)

  -- the calls that begin among these events, of which the first stands at this place of the history
  abbrev pub calls_from : List (Event T) → ℕ → List (Call T)
  calls_from [] place = []
  calls_from (Begun p start ∷ es) place =
      record { place = place; party = p; start = start; response = response_in p es (place + 1) }
      ∷ calls_from es (place + 1)
  calls_from (e ∷ es) place = calls_from es (place + 1)

  -- the calls of a history, in the order of their invocations
  abbrev pub calls_of : List (Event T) → List (Call T)
  calls_of history = calls_from history 0

  -- ---- the real-time order

  -- there is a response, and it stands before this place
  abbrev pub StandsBefore : Option (Response T) → ℕ → Type 0
  StandsBefore None place = ⊥
  StandsBefore (Some response) place = response.place < place

  -- the response to x stands before the invocation of y
  abbrev pub Precedes : Call T → Call T → Type 0
  Precedes x y = StandsBefore x.response y.place

-- What a history is compared with: a sequential object, and which calls are calls of it.
pub record Specification (T State : Type 0) : Type 0 where
  pub is_call : Start T → Bool
  pub object : Object T State

-- There is a legal sequential history of the object's completed calls, with the answers that they gave, and of some of
-- its pending ones, with answers that they may yet give, in an order that keeps the real-time order.
-- In this order the object gives the answers. Each call of it was invoked in the history, each completed call is in it,
-- none is in it twice, and none comes before one that had responded as it was invoked.
pub record IsLinearizable {T State : Type 0} (spec : Specification T State) (history : List (Event T))
    : Type 0 where
  -- the calls in the sequential order, with their answers
  pub sequential : List (Call T × Answer T)
  -- in this order the object gives these answers
  pub legal : IsLegal spec.object (map (λ x. (x.0.start, x.1)) sequential)
  -- each is a call of the object that was invoked in the history
  pub invoked : All (λ x. (spec.is_call x.0.start ≡ true) × Contains (calls_of history) x.0) sequential
  -- each completed call of the object is in the order, with its answer
  pub completed : All
      (λ call. IfSome call.response
      (λ response. spec.is_call call.start ≡ true → Contains sequential (call, response.answer)))
      (calls_of history)
  -- no call is in the order twice
  pub once : AllPairs (λ x y. x.0 ≢ y.0) sequential
  -- no call comes before one whose response precedes its invocation
  pub real_time : AllPairs (λ x y. ¬ Precedes y.0 x.0) sequential
