-- The calls of the bit sets as acts on single places, each at one moment of its call.
use Rattle.std.specs.Prelude.{◌≡◌, ◌≢◌, ◌≤◌, ◌<◌, ℕ, ◌+◌, ◌^◌, ◌%◌, ◌==◌, ◌&&◌, Bool, true, false, not, Option, Some, None, List, [], ◌∷◌, if◌then◌else◌}
use Rattle.model.specs.declared.event.Answer.{Answer}
use Rattle.model.specs.declared.event.Answer.TheVariants.{Done, Truth, Number, ResetNone, Reset}
use Rattle.model.specs.declared.event.Event.{Event}
use Rattle.model.specs.declared.event.Event.TheVariants as events
use Rattle.model.specs.declared.event.Event.TheVariants.{Begun, Cleared, Counted, TakenOut, Finished}
use Rattle.model.specs.declared.event.Start.{Start}
use Rattle.model.specs.declared.event.Start.TheVariants.{Bits}
use Rattle.model.specs.declared.families.bits.BitsStart.TheVariants as calls
use Rattle.model.specs.declared.families.bits.BitsStart.TheVariants.{Set, ResetNext, ResetAll}
use Rattle.model.specs.declared.turn.Kind.{Kind}
use Rattle.model.specs.declared.turn.Kind.TheVariants as kinds
use Rattle.model.specs.Families.Bits.Reading.{counts}

-- What stands in a history to which the silent acts are added: an event, or that a call of this party has
-- acted on this place and left its number as it was.
pub data Mark (T : Type 0) : Type 0 where
  Happens : (e : Event T) → Mark T
  Leaves : (party place : ℕ) → Mark T

-- ---- the object: a number for each place, 0 at first

-- what a set makes of the number of its place: 1 where it is a flag, one more (modulo
-- 2^64) where it is a count
abbrev pub after_set : Kind → ℕ → ℕ
after_set kinds.Counts n = (n + 1) % 2 ^ 64
after_set kind n = 1

-- a party's call under way, and, once it has acted on one given place, the number that it found there
abbrev pub Way : Type 0 → Type 0
Way T = Option (Start T × Option ℕ)

-- the call has acted on the place, and P holds of the number that it found
abbrev pub Found : (ℕ → Type 0) → Option ℕ → Type 0
Found P None = ⊥
Found P (Some n) = P n

module _ {T : Type 0} where
  -- the number that the call leaves where it finds this one; a reset leaves 0, and a look leaves it
  abbrev pub left_by : Kind → Start T → ℕ → ℕ
  left_by kind (Bits (Set place)) n = after_set kind n
  left_by kind (Bits (calls.IsSet place)) n = n
  left_by kind (Bits (calls.Count place)) n = n
  left_by kind start n = 0

  -- ---- marks

  -- the history without the silent acts
  abbrev pub told : List (Mark T) → List (Event T)
  told [] = []
  told (Happens e ∷ ms) = e ∷ told ms
  told (Leaves p b ∷ ms) = told ms

  -- whether the event is an act of party p on place b
  abbrev pub does : ℕ → ℕ → Event T → Bool
  does p b (events.Set q c) = q == p && c == b
  does p b (Cleared q c) = q == p && c == b
  does p b (Counted q c) = q == p && c == b
  does p b (TakenOut q c m) = q == p && c == b
  does p b e = false

  -- the number of the place after an event
  abbrev pub number_after : ℕ → ℕ → Event T → ℕ
  number_after b n (events.Set q c) = if c == b then 1 else n
  number_after b n (Cleared q c) = if c == b then 0 else n
  number_after b n (Counted q c) = if c == b then (n + 1) % 2 ^ 64 else n
  number_after b n (TakenOut q c m) = if c == b then 0 else n
  number_after b n e = n

  -- what the event tells of the number that it found: a flag is set where it was clear and cleared where it stood, and
  -- what is taken out of a count is all of it, and something
  abbrev pub Tells : ℕ → Event T → Type 0
  Tells n (events.Set q c) = n ≡ 0
  Tells n (Cleared q c) = n ≡ 1
  Tells n (TakenOut q c m) = (m ≡ n) × (1 ≤ m)
  Tells n e = Unit {0}

  -- ---- one party's call and one place

  -- the call may act on place b: a set and a look act on their own place alone, a reset of the next place and
  -- one of all on any
  abbrev pub MayAct : ℕ → Start T → Type 0
  MayAct b (Bits (Set place)) = place ≡ b
  MayAct b (Bits ResetNext) = Unit {0}
  MayAct b (Bits ResetAll) = Unit {0}
  MayAct b (Bits (calls.IsSet place)) = place ≡ b
  MayAct b (Bits (calls.Count place)) = place ≡ b
  MayAct b start = ⊥

  -- The call acts now where this number stands, and leaves that one: a call acts on a place at most once.
  abbrev pub Acts : Kind → (b n left : ℕ) → Way T → Type 0
  Acts kind b n left None = ⊥
  Acts kind b n left (Some (start, Some found)) = ⊥
  Acts kind b n left (Some (start, None)) = MayAct b start × (left ≡ left_by kind start n)

  -- What a call that ends has found at the place. A set: what it answers, at its place. A reset of the next place: 1 at
  -- the place that it answers, and it acted on no other; where it answers none, 0 at each place. A reset of all:
  -- whatever it found at each place of which it is sure. A look: what it answers, at its place.
  abbrev pub Answers : ℕ → Type 0 → ℕ → Start T → Answer T → Option ℕ → Type 0
  Answers capacity Sure b (Bits (Set place)) (Truth answer) found =
      place ≡ b → Found (λ n. answer ≡ (n == 0)) found
  Answers capacity Sure b (Bits (Set place)) (Number number) found =
      place ≡ b → Found (λ n. number ≡ n) found
  Answers capacity Sure b (Bits ResetNext) (Reset place) found =
      (place ≡ b → found ≡ Some 1) × (place ≢ b → found ≡ None)
  Answers capacity Sure b (Bits ResetNext) ResetNone found = b < capacity → found ≡ Some 0
  Answers capacity Sure b (Bits ResetAll) Done found = Sure → b < capacity → Found (λ n. Unit {0}) found
  Answers capacity Sure b (Bits (calls.IsSet place)) (Truth answer) found =
      place ≡ b → Found (λ n. answer ≡ not (n == 0)) found
  Answers capacity Sure b (Bits (calls.Count place)) (Number number) found =
      place ≡ b → Found (λ n. number ≡ n) found
  Answers capacity Sure b start answer found = ⊥

  -- A call of the party may end with this answer: it is the call that the party began, and what it found at
  -- place b fits the answer.
  abbrev pub Ends : ℕ → Type 0 → ℕ → Start T → Answer T → Way T → Type 0
  Ends capacity Sure b start answer None = ⊥
  Ends capacity Sure b start answer (Some call) =
      (call.0 ≡ start) × Answers capacity Sure b start answer call.1

  -- ---- the marks, one after another

  -- the call under way has found this number at the place
  abbrev pub found_now : ℕ → Way T → Way T
  found_now n None = None
  found_now n (Some call) = Some (call.0, Some n)

  -- Where party p's call stands at place b after an event: a begin opens the call, its end closes it, and an
  -- act of the party on the place finds the number n.
  abbrev pub way_after : ℕ → ℕ → ℕ → Way T → Event T → Way T
  way_after p b n way (Begun q start) = if q == p then Some (start, None) else way
  way_after p b n way (Finished q start answer) = if q == p then None else way
  way_after p b n way e = if does p b e then found_now n way else way

  -- The event may come where place b has the number n and party p's call stands there at `way`: the party
  -- begins one call at a time, ends it with an answer that fits what it found, and acts there at most once.
  abbrev pub IsRightEvent : Kind → ℕ → Type 0 → ℕ → ℕ → ℕ → Way T → Event T → Type 0
  IsRightEvent kind capacity Sure p b n way (Begun q start) = q ≡ p → way ≡ None
  IsRightEvent kind capacity Sure p b n way (Finished q start answer) =
      q ≡ p → Ends capacity Sure b start answer way
  IsRightEvent kind capacity Sure p b n way e =
      does p b e ≡ true → Tells n e × Acts kind b n (number_after b n e) way

  -- From here on each mark is right for party p and place b, where the place has the number n and the party's
  -- call stands there at `way`.
  abbrev pub IsRight : Kind → ℕ → Type 0 → ℕ → ℕ → ℕ → Way T → List (Mark T) → Type 0
  IsRight kind capacity Sure p b n way [] = Unit {0}
  IsRight kind capacity Sure p b n way (Happens e ∷ ms) =
      IsRightEvent kind capacity Sure p b n way e
      × IsRight kind capacity Sure p b (number_after b n e) (way_after p b n way e) ms
  IsRight kind capacity Sure p b n way (Leaves q c ∷ ms) =
      ((q == p && c == b) ≡ true → Acts kind b n n way)
      × IsRight kind capacity Sure p b n (if q == p && c == b then found_now n way else way) ms

-- The silent acts can be put between the events of the history, so that the marks are right for each party
-- and each place: each call acts on single places, on each at most once, between its begin and its end, and
-- in the order of these acts it has found what it answers. A reset of all counts may pass over a place that
-- was counted 2^64 times.
pub record ActsByPlace {T : Type 0} (kind : Kind) (capacity : ℕ) (history : List (Event T)) : Type 0 where
  -- the history with the silent acts in it
  pub marks : List (Mark T)
  pub is : told marks ≡ history
  -- at first each place has the number 0 and no party has a call under way
  pub right : (p b : ℕ) → IsRight kind capacity (counts b history < 2 ^ 64) p b 0 None marks

-- the kinds whose calls act by place: bit sets and counting bit sets
abbrev pub IsSet : Kind → Type 0
IsSet kinds.Bits = Unit {0}
IsSet kinds.Counts = Unit {0}
IsSet kind = ⊥
