-- What holds of the machine of a bit set, and of one of a counting bit set, after any turns.
use Rattle.std.specs.Prelude.{◌≡◌, ◌≤◌, ◌<◌, ◌⊎◌, ℕ, ◌+◌, ◌*◌, ◌^◌, ◌%◌, true, false, Option, List, [], ◌∷◌, ◌++◌, length, slice_index}
use Rattle.steps.specs.declared.ask.Ask.{Ask}
use Rattle.steps.specs.Bits.BitSet.{place_after, at_most}
use Rattle.steps.specs.Bits.Words.{stands}
use Rattle.model.specs.declared.event.Answer.{Answer}
use Rattle.model.specs.declared.event.Answer.TheVariants.{Done, Truth, Number, ResetNone, Reset}
use Rattle.model.specs.declared.event.Event.{Event}
use Rattle.model.specs.declared.event.Event.TheVariants as events
use Rattle.model.specs.declared.event.Event.TheVariants.{Cleared, Counted, TakenOut, Finished}
use Rattle.model.specs.declared.event.Start.{Start}
use Rattle.model.specs.declared.event.Start.TheVariants.{Bits}
use Rattle.model.specs.declared.families.bits.BitsStart.TheVariants.{Set, ResetNext, ResetAll, IsSet, Count}
use Rattle.model.specs.Families.Bits.Bounds.{most_bits_steps, most_counts_steps}
use Rattle.model.specs.Families.Bits.Reading.{sets, clears, counts, takes, standing, position_of, count_at}
use Rattle.model.specs.Moments.{HeldSometime, SinceBegin}
use Rattle.model.specs.Promise.{Promise}
use Rattle.model.specs.Reading.{Each, Span, Open}
use Rattle.model.specs.Turns.{one_if}
use Rattle.model.specs.World.{Trace}

module _ {T : Type 0} where
  -- nobody acts: no call is said to act at one moment
  abbrev pub acts_never : Trace T → Option Ask → (ℕ → Type 0) → Event T → Type 0
  acts_never old ask IsTurnOf e = ⊥

  -- ---- a bit set

  -- Each bit that stood when the party's call began has been cleared since, by this call or another one.
  abbrev pub HasCleared : ℕ → List (Event T) → List (Event T) → Type 0
  HasCleared capacity before since =
      (b : ℕ) → b < capacity → standing b before ≡ 1 → 1 ≤ clears b since

  -- The reset has come to this bit by going round the places (place 0 follows the last one) from
  -- where the reset position stood at a moment of the call. Each place that it passed was clear at
  -- a moment of the call.
  pub record CameTo (p capacity bit : ℕ) (events : List (Event T)) : Type 0 where
    -- the place at which its search began
    pub start : ℕ
    -- how many places it passed
    pub passed : ℕ
    pub within : passed < capacity
    pub is : place_after capacity start passed ≡ bit
    -- the reset position stood there at a moment of the call
    pub begun : HeldSometime p (λ part. at_most capacity (position_of part) ≡ start) events
    -- each place that it passed was clear at a moment of the call
    pub clear : (k : ℕ) → k < passed
        → HeldSometime p (λ part. standing (place_after capacity start k) part ≡ 0) events

  -- A set answers false only if the bit stood at a moment of the call. A reset of the next one begins at the reset
  -- position, and answers None only if each bit was clear at some moment of it. A reset of all clears what stood. A
  -- look answers whether its bit stands as it ends.
  abbrev pub BitsAnswerRight : ℕ → List (Event T) → Event T → Type 0
  BitsAnswerRight capacity before (Finished p (Bits (Set bit)) (Truth false)) =
      HeldSometime p (λ part. standing bit part ≡ 1) before
  BitsAnswerRight capacity before (Finished p (Bits ResetNext) (Reset bit)) =
      CameTo p capacity bit before
  BitsAnswerRight capacity before (Finished p (Bits ResetNext) ResetNone) =
      (b : ℕ) → b < capacity → HeldSometime p (λ part. standing b part ≡ 0) before
  BitsAnswerRight capacity before (Finished p (Bits ResetAll) answer) =
      SinceBegin p (HasCleared capacity) before
  BitsAnswerRight capacity before (Finished p (Bits (IsSet bit)) (Truth answer)) =
      (bit < capacity) × (standing bit before ≡ one_if answer)
  BitsAnswerRight capacity before e = Unit {0}

  -- What holds of a bit set's machine after any turns: each bit was set as often as it was cleared, and
  -- once more if it stands; no bit past the capacity was set; each answer is right.
  pub record IsBitSet (t : Trace T) : Type 0 where
    pub conserved : (b : ℕ) → sets b t.events ≡ clears b t.events + one_if (stands t.world.words b)
    pub within : (b : ℕ) → t.world.capacity ≤ b → sets b t.events ≡ 0
    pub answers : Each (BitsAnswerRight t.world.capacity) t.events

  -- A bit may be set only by a call `Set` of that bit, which has written nothing yet.
  abbrev pub MaySet : ℕ → Start T → List (Event T) → Type 0
  MaySet bit (Bits (Set b)) wrote = (b ≡ bit) × (wrote ≡ [])
  MaySet bit start wrote = ⊥

  -- A bit may be cleared by a reset of the next bit that has written nothing yet, and by a reset of all,
  -- which clears bits in ascending order.
  abbrev pub MayClear : ℕ → Start T → List (Event T) → Type 0
  MayClear bit (Bits ResetNext) wrote = wrote ≡ []
  MayClear bit (Bits ResetAll) wrote = (b : ℕ) → bit ≤ b → clears b wrote ≡ 0
  MayClear bit start wrote = ⊥

  -- Where in its party's span (what its call has written so far) a bit may be set or cleared.
  abbrev pub bits_stand : Event T → Span T → Type 0
  bits_stand (events.Set p bit) (Open start wrote) = MaySet bit start wrote
  bits_stand (Cleared p bit) (Open start wrote) = MayClear bit start wrote
  bits_stand e span = ⊥

  -- What a finished call of a bit set has written: a set that answers true has set its bit, a reset of
  -- the next bit has cleared the bit that it answers, and a look, a set that answers false and a reset of
  -- the next bit that answers none have written nothing.
  abbrev pub BitsWrote : ℕ → Start T → Answer T → List (Event T) → Type 0
  BitsWrote capacity (Bits (Set bit)) (Truth true) wrote =
      (length wrote ≡ 1) × (sets bit wrote ≡ 1)
  BitsWrote capacity (Bits (Set bit)) (Truth false) wrote = wrote ≡ []
  BitsWrote capacity (Bits ResetNext) (Reset bit) wrote =
      (length wrote ≡ 1) × (clears bit wrote ≡ 1)
  BitsWrote capacity (Bits ResetNext) ResetNone wrote = wrote ≡ []
  BitsWrote capacity (Bits ResetAll) Done wrote = Unit {0}
  BitsWrote capacity (Bits (IsSet bit)) (Truth answer) wrote = wrote ≡ []
  BitsWrote capacity start answer wrote = ⊥

  -- how many steps a call of a bit set takes at most
  abbrev pub most_of_bits : (capacity size : ℕ) → Start T → ℕ → ℕ
  most_of_bits capacity size (Bits start) backs = most_bits_steps capacity start backs
  most_of_bits capacity size start backs = 0

  -- what a bit set promises of each run
  abbrev pub bits_promise : Promise T
  bits_promise =
      record {
        may_stand = bits_stand;
        wrote = BitsWrote;
        most_steps = most_of_bits;
        acts_right = acts_never;
        tells = λ old turn new. Unit {0};
        holds = IsBitSet;
      }

  -- ---- a counting bit set

  -- Something has been taken out of each place that counted above 0 when the party's call began, by this
  -- call or another one.
  abbrev pub HasTaken : ℕ → List (Event T) → List (Event T) → Type 0
  HasTaken capacity before since =
      (b : ℕ) → b < capacity → 1 ≤ count_at b before → 1 ≤ takes b since

  -- A set of a counting bit set answers what its place counted just before the call counted it.
  pub record AnswersCount (p place number : ℕ) (events : List (Event T)) : Type 0 where
    pub before : List (Event T)
    pub is : events ≡ before ++ Counted p place ∷ []
    pub count : number ≡ count_at place before

  -- A reset of all takes out what counted. A look answers the count of its place as it ends.
  abbrev pub CountsAnswerRight : ℕ → List (Event T) → Event T → Type 0
  CountsAnswerRight capacity before (Finished p (Bits (Set place)) (Number number)) =
      AnswersCount p place number before
  CountsAnswerRight capacity before (Finished p (Bits ResetAll) answer) =
      SinceBegin p (HasTaken capacity) before
  CountsAnswerRight capacity before (Finished p (Bits (Count place)) (Number number)) =
      (place < capacity) × (number ≡ count_at place before)
  CountsAnswerRight capacity before e = Unit {0}

  -- What holds of a counting bit set's machine after any turns: the number of times that a place was
  -- counted is what was taken out of it plus what it counts now; no place past the capacity was counted;
  -- each answer is right.
  pub record IsCountingSet (t : Trace T) : Type 0 where
    pub conserved : (b : ℕ) → counts b t.events ≡ takes b t.events + slice_index t.world.words b
    pub within : (b : ℕ) → t.world.capacity ≤ b → counts b t.events ≡ 0
    pub answers : Each (CountsAnswerRight t.world.capacity) t.events

  -- ---- where neither turns nor parties have a bound: a count wraps at 2^64

  -- A set answers what its place had counted just before the call counted it, modulo 2^64.
  pub record AnswersCountOn (p place number : ℕ) (events : List (Event T)) : Type 0 where
    pub before : List (Event T)
    pub is : events ≡ before ++ Counted p place ∷ []
    pub count : number ≡ count_at place before % 2 ^ 64

  -- something was taken out of each place that counted above 0, unless it was counted 2^64 times
  abbrev pub HasTakenOn : ℕ → List (Event T) → List (Event T) → Type 0
  HasTakenOn capacity before since =
      (b : ℕ) → b < capacity → 1 ≤ count_at b before
      → (1 ≤ takes b since) ⊎ (2 ^ 64 ≤ counts b before + counts b since)

  -- As `CountsAnswerRight`, where a count may wrap: answers are modulo 2^64, and a place that was counted 2^64 times
  -- may be passed over.
  abbrev pub CountsAnswerOn : ℕ → List (Event T) → Event T → Type 0
  CountsAnswerOn capacity before (Finished p (Bits (Set place)) (Number number)) =
      AnswersCountOn p place number before
  CountsAnswerOn capacity before (Finished p (Bits ResetAll) answer) =
      SinceBegin p (HasTakenOn capacity) before
  CountsAnswerOn capacity before (Finished p (Bits (Count place)) (Number number)) =
      (place < capacity) × (number ≡ count_at place before % 2 ^ 64)
  CountsAnswerOn capacity before e = Unit {0}

  -- What holds of a counting bit set's machine whose turns have no bound: the number of times that a
  -- place was counted is what was taken out of it, plus what it counts now, plus 2^64 for each time that
  -- the count wrapped.
  pub record IsCountingOn (t : Trace T) : Type 0 where
    pub conserved : (b : ℕ)
        → (wraps : ℕ)
        × (counts b t.events ≡ takes b t.events + slice_index t.world.words b + 2 ^ 64 * wraps)
    pub within : (b : ℕ) → t.world.capacity ≤ b → counts b t.events ≡ 0
    pub answers : Each (CountsAnswerOn t.world.capacity) t.events

  -- A place may be counted only by a call `Set` of that place, which has written nothing yet.
  abbrev pub MayCount : ℕ → Start T → List (Event T) → Type 0
  MayCount place (Bits (Set b)) wrote = (b ≡ place) × (wrote ≡ [])
  MayCount place start wrote = ⊥

  -- A count may be taken out only if it is above 0, by a reset of all, which goes through the places in
  -- ascending order.
  abbrev pub MayTake : (place number : ℕ) → Start T → List (Event T) → Type 0
  MayTake place number (Bits ResetAll) wrote =
      (1 ≤ number) × ((b : ℕ) → place ≤ b → takes b wrote ≡ 0)
  MayTake place number start wrote = ⊥

  -- Where in its party's span (what its call has written so far) a place may be counted, or
  -- its count taken out.
  abbrev pub counts_stand : Event T → Span T → Type 0
  counts_stand (Counted p place) (Open start wrote) = MayCount place start wrote
  counts_stand (TakenOut p place number) (Open start wrote) = MayTake place number start wrote
  counts_stand e span = ⊥

  -- What a finished call of a counting bit set has written: a set has counted its place once, and a look
  -- has written nothing.
  abbrev pub CountsWrote : ℕ → Start T → Answer T → List (Event T) → Type 0
  CountsWrote capacity (Bits (Set place)) (Number number) wrote =
      (length wrote ≡ 1) × (counts place wrote ≡ 1)
  CountsWrote capacity (Bits ResetAll) Done wrote = Unit {0}
  CountsWrote capacity (Bits (Count place)) (Number number) wrote = wrote ≡ []
  CountsWrote capacity start answer wrote = ⊥

  -- how many steps a call of a counting bit set takes at most
  abbrev pub most_of_counts : (capacity size : ℕ) → Start T → ℕ → ℕ
  most_of_counts capacity size (Bits start) backs = most_counts_steps capacity start
  most_of_counts capacity size start backs = 0

  -- what a counting bit set promises of each run
  abbrev pub counts_promise : Promise T
  counts_promise =
      record {
        may_stand = counts_stand;
        wrote = CountsWrote;
        most_steps = most_of_counts;
        acts_right = acts_never;
        tells = λ old turn new. Unit {0};
        holds = IsCountingSet;
      }
