-- The calls on queues of indices as calls of the model: where each may stand, and which events it writes
-- (`Calling`, in `Stages`).
use Rattle.std.specs.Prelude.{◌≡◌, ℕ, ◌-◌, ◌^◌, ◌<◌, ◌==◌, Bool, true, false, IfSome, List, [], ◌∷◌}
use Rattle.history.specs.Stages.{Calling}
use Rattle.model.specs.Families.Queues.Calls.{popped, length_answer}
use Rattle.model.specs.declared.event.Answer.TheVariants as answers
use Rattle.model.specs.declared.event.Answer.TheVariants.{Truth}
use Rattle.model.specs.declared.event.Event.TheVariants.{Published, HandedOut, Acted}
use Rattle.model.specs.declared.event.Event.{Event}
use Rattle.model.specs.declared.event.Item.TheVariants.{Index}
use Rattle.model.specs.declared.event.Start.TheVariants.{Queues}
use Rattle.model.specs.declared.families.Flight.TheVariants as flights
use Rattle.model.specs.declared.families.queues.QueueStart.{QueueStart}
use Rattle.model.specs.declared.families.queues.QueueStart.TheVariants.{PushIndex, Pop, Peek, Len, IsEmpty, IsFull}
use Rattle.model.specs.declared.families.queues.calls.LengthOf.{LengthOf}
use Rattle.model.specs.declared.families.queues.calls.LengthOf.TheVariants as measures
use Rattle.model.specs.declared.families.queues.calls.QueueFlight.TheVariants as flying
use Rattle.model.specs.declared.families.queues.calls.RoleCall.TheVariants as roles
use Rattle.steps.specs.declared.queues.lengths.Len.{Len as Counting}
use Rattle.steps.specs.declared.queues.roles.AcquireRole.{AcquireRole}
use Rattle.steps.specs.declared.queues.roles.LookRole.{LookRole}
use Rattle.steps.specs.declared.queues.roles.ReleaseRole.{ReleaseRole}
use Rattle.steps.specs.declared.queues.roles.Role.{Role}
use Rattle.history.specs.Roles.{role_word, acquire_start, release_start, look_start}
use Rattle.model.specs.declared.families.queues.calls.QueueFlight.TheVariants.{Indices}
use Rattle.model.specs.declared.families.queues.calls.RingCall.TheVariants as rings
use Rattle.steps.specs.Queues.Ring.{cell_word, pop_answer}
use Rattle.steps.specs.declared.copied.OneWord.{OneWord}
use Rattle.steps.specs.declared.queues.peek.Peek as peek_calls
use Rattle.steps.specs.declared.queues.peek.PeekStage as peeks
use Rattle.steps.specs.declared.queues.ring.Pop as pop_calls
use Rattle.steps.specs.declared.queues.ring.PopStage as pops
use Rattle.steps.specs.declared.queues.ring.Push.{Push}
use Rattle.steps.specs.declared.queues.ring.PushStage as pushes

-- the push has found the last write position, and ends without a trace
abbrev pub push_skips : pushes.PushStage → ℕ → Bool
push_skips pushes.TheVariants.LoadsWrite n = n == 2 ^ 64 - 1
push_skips stage n = false

-- a push that stores its index stores it to the cell of the write position
abbrev pub PushStage : ℕ → pushes.PushStage → Type 0
PushStage capacity (pushes.TheVariants.StoresCell write cell at) = (0 < capacity) × (cell ≡ cell_word capacity 1 write) × (at ≡ 0)
PushStage capacity stage = Unit {0}

-- the push is one on a queue of this capacity, below 2^32
abbrev pub PushStands : ℕ → Push ℕ → Type 0
PushStands capacity c = (capacity < 2 ^ 32) × (c.capacity ≡ capacity) × PushStage capacity c.stage

module _ {T : Type 0} where
  -- what a push has written once it has ended
  abbrev pub push_wrote : ℕ → ℕ → Bool → List (Event T)
  push_wrote p v true = Published p (Index v) ∷ Acted p (Queues (PushIndex v)) (Truth true) ∷ []
  push_wrote p v false = Acted p (Queues (PushIndex v)) (Truth false) ∷ []

  -- A push of this index, by any party. It ends with whether there was room, and writes its events as it ends. A push
  -- that loads the last write position answers false, and is none of the history.
  abbrev pub pushes_index : ℕ → Calling T (Push ℕ) (Unit {0}) Bool
  pushes_index v =
      record {
        start = Queues (PushIndex v);
        -- any party may make the call, whichever party the pass was last
        by = λ was p. Unit {0};
        -- what holds of the call between two steps, and which call of the model is then under way
        stands = PushStands;
        -- loading the last position or version ends it outside the history
        skips = λ c n. push_skips c.stage n;
        left = λ e. e ≡ false;
        flight = λ c m. flights.Queues (Indices (rings.Push (record { call = c; given = v; room = m })));
        answer = λ e m. Truth e;
        -- under way it has written nothing yet
        wrote = λ capacity p from c m es. es ≡ [];
        wrote_all = λ capacity p from e m es. es ≡ push_wrote p v e;
      }

-- a pop of an index
abbrev pub Taking : Type 0
Taking = pop_calls.Pop ℕ OneWord

-- a pop that loads an index loads it from the cell of the read position
abbrev pub PopStage : ℕ → pops.PopStage → Type 0
PopStage capacity (pops.TheVariants.LoadsCell read cell at) = (0 < capacity) × (cell ≡ cell_word capacity 1 read) × (at ≡ 0)
PopStage capacity stage = Unit {0}

-- the pop is one on a queue of this capacity, below 2^32
abbrev pub PopStands : ℕ → Taking → Type 0
PopStands capacity c = (capacity < 2 ^ 32) × (c.capacity ≡ capacity) × PopStage capacity c.stage

-- a peek at an index
abbrev pub Peeking : Type 0
Peeking = peek_calls.Peek ℕ OneWord

-- a peek that loads an index loads it from the cell of some position
abbrev pub PeekStage : ℕ → peeks.PeekStage → Type 0
PeekStage capacity (peeks.TheVariants.LoadsCell cell at) =
    (position : ℕ) × (0 < capacity) × (cell ≡ cell_word capacity 1 position) × (at ≡ 0)
PeekStage capacity stage = Unit {0}

-- the peek is one on a queue of this capacity, below 2^32
abbrev pub PeekStands : ℕ → Peeking → Type 0
PeekStands capacity c = (capacity < 2 ^ 32) × (c.capacity ≡ capacity) × PeekStage capacity c.stage

module _ {T : Type 0} where
  -- what a pop has written once it has ended, with this index or none
  abbrev pub pop_wrote : ℕ → ℕ → Bool → List (Event T)
  pop_wrote p v true = HandedOut p (Index v) ∷ Acted p (Queues Pop) (answers.PoppedIndex v) ∷ []
  pop_wrote p v false = Acted p (Queues Pop) answers.PoppedNone ∷ []

  -- A pop of an index, by any party. It ends with whether it took an index out, which is then in its room, and writes
  -- its events as it ends.
  abbrev pub pops_index : Calling T Taking OneWord Bool
  pops_index =
      record {
        start = Queues Pop;
        -- any party may make the call, whichever party the pass was last
        by = λ was p. Unit {0};
        -- what holds of the call between two steps, and which call of the model is then under way
        stands = PopStands;
        -- no word that it loads ends it outside the history
        skips = λ c n. false;
        left = λ e. ⊥;
        flight = λ c m. flights.Queues (Indices (rings.Pop (record { call = c; given = tt; room = m })));
        answer = λ e m. popped (pop_answer m.0 e);
        -- under way it has written nothing yet
        wrote = λ capacity p from c m es. es ≡ [];
        wrote_all = λ capacity p from e m es. es ≡ pop_wrote p m.0 e;
      }

  -- A peek at an index, by any party. It ends with whether there was one, which is then in its room, and
  -- writes nothing between its begin and its end.
  abbrev pub peeks_index : Calling T Peeking OneWord Bool
  peeks_index =
      record {
        start = Queues Peek;
        -- any party may make the call, whichever party the pass was last
        by = λ was p. Unit {0};
        -- what holds of the call between two steps, and which call of the model is then under way
        stands = PeekStands;
        -- no word that it loads ends it outside the history
        skips = λ c n. false;
        left = λ e. ⊥;
        flight = λ c m. flights.Queues (Indices (rings.Peek (record { call = c; given = tt; room = m })));
        answer = λ e m. popped (pop_answer m.0 e);
        -- under way it has written nothing yet
        wrote = λ capacity p from c m es. es ≡ [];
        wrote_all = λ capacity p from e m es. es ≡ [];
      }

  -- ---- the calls on roles

  -- An acquire of this role by the party that the pass has been, if it has been one. It ends with whether the pass got
  -- the role, and writes nothing between its begin and its end.
  abbrev pub takes_role : Role → Calling T AcquireRole (Unit {0}) Bool
  takes_role role =
      record {
        start = Queues (acquire_start role);
        -- the party that the pass was last makes the call, if the pass has been a party
        by = λ was p. IfSome was (λ q. q ≡ p);
        -- what holds of the call between two steps, and which call of the model is then under way
        stands = λ capacity c. c.word ≡ role_word role;
        flight = λ c m. flights.Queues (flying.Role (roles.Acquire (record { call = c; given = tt; room = m })));
        answer = λ b m. Truth b;
        -- no word that it loads ends it outside the history
        skips = λ c n. false;
        left = λ e. ⊥;
        -- under way it has written nothing yet
        wrote = λ capacity p from c m es. es ≡ [];
        wrote_all = λ capacity p from b m es. es ≡ [];
      }

  -- A release of this role. (The machine refuses a party that does not hold it.) It writes nothing between its begin and its end.
  abbrev pub gives_role : Role → Calling T ReleaseRole (Unit {0}) (Unit {0})
  gives_role role =
      record {
        start = Queues (release_start role);
        -- any party may make the call, whichever party the pass was last
        by = λ was p. Unit {0};
        -- what holds of the call between two steps, and which call of the model is then under way
        stands = λ capacity c. c.word ≡ role_word role;
        flight = λ c m. flights.Queues (flying.Role (roles.Release (record { call = c; given = tt; room = m })));
        answer = λ e m. answers.Done;
        -- no word that it loads ends it outside the history
        skips = λ c n. false;
        left = λ e. ⊥;
        -- under way it has written nothing yet
        wrote = λ capacity p from c m es. es ≡ [];
        wrote_all = λ capacity p from e m es. es ≡ [];
      }

  -- A call that tells whether somebody has the role. It writes nothing between its begin and its end.
  abbrev pub looks_role : Role → Calling T LookRole (Unit {0}) Bool
  looks_role role =
      record {
        start = Queues (look_start role);
        -- the party that the pass was last makes the call, if the pass has been a party
        by = λ was p. IfSome was (λ q. q ≡ p);
        -- what holds of the call between two steps, and which call of the model is then under way
        stands = λ capacity c. c.word ≡ role_word role;
        flight = λ c m. flights.Queues (flying.Role (roles.Look (record { call = c; given = tt; room = m })));
        answer = λ b m. Truth b;
        -- no word that it loads ends it outside the history
        skips = λ c n. false;
        left = λ e. ⊥;
        -- under way it has written nothing yet
        wrote = λ capacity p from c m es. es ≡ [];
        wrote_all = λ capacity p from b m es. es ≡ [];
      }

  -- ---- the calls on lengths

  -- the model's call that tells the length, or only whether it is 0 or the capacity
  abbrev pub length_start : LengthOf → QueueStart T
  length_start measures.Len = Len
  length_start measures.IsEmpty = IsEmpty
  length_start measures.IsFull = IsFull

  -- A call that tells the length of a queue of capacity `size`, or only whether it is empty or full. It ends with the
  -- length, and writes nothing between its begin and its end.
  abbrev pub counts_waiting : LengthOf → ℕ → Calling T Counting (Unit {0}) ℕ
  counts_waiting which size =
      record {
        start = Queues (length_start which);
        -- the party that the pass was last makes the call, if the pass has been a party
        by = λ was p. IfSome was (λ q. q ≡ p);
        -- what holds of the call between two steps, and which call of the model is then under way
        stands = λ capacity c. (c.capacity ≡ capacity) × (c.capacity ≡ size);
        flight = λ c m. flights.Queues (flying.Length which (record { call = c; given = tt; room = m }));
        answer = λ n m. length_answer which size n;
        -- no word that it loads ends it outside the history
        skips = λ c n. false;
        left = λ e. ⊥;
        -- under way it has written nothing yet
        wrote = λ capacity p from c m es. es ≡ [];
        wrote_all = λ capacity p from n m es. es ≡ [];
      }
