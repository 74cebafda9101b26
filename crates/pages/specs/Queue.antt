-- The queue of values: its words, its calls stage by stage, and the list.
use Rattle.std.specs.Prelude.{◌≡◌, ◌≤◌, ℕ, ◌+◌, ◌-◌, ◌*◌, ◌%◌, ◌^◌, ◌==◌, ◌||◌, ◌++◌, ◌∷◌, Bool, true, false, Option, Some}
use Rattle.std.specs.Prelude.{None, List, [], drop, if◌then◌else◌, length, nat_lt, replicate, slice_get, slice_index}
use Rattle.pages.specs.Machine.{Operation, Load, Store, After, GoOn, Done, Structure, Object}

pub record Written (T : Type 0) : Type 0 where  -- how a value is written in words, which give it back
  pub size : ℕ
  pub words_of : T → List ℕ
  pub value_of : List ℕ → T
  pub fits : (1 ≤ size) × (size ≤ 128)
  pub sized : (value : T) → length (words_of value) ≡ size
  pub given_back : (value : T) → value_of (words_of value) ≡ value

pub data Call (T : Type 0) : Type 0 where  -- the calls of the queue of values
  Push : (value : T) → Call T
  Pop : Call T

-- answers: of Push whether the value was taken, of Pop the value that it took out, if any
pub data Answer (T : Type 0) : Type 0 where
  Pushed : (taken : Bool) → Answer T
  Popped : (value : Option T) → Answer T

pub data Stage (T : Type 0) : Type 0 where  -- what a call does next, with all that it knows
  PushLoadsWrite : (value : T) → Stage T
  PushLoadsRead : (value : T) (write : ℕ) → Stage T
  PushStoresCell : (value : T) (write word : ℕ) → Stage T
  PushStoresWrite : (value : T) (write : ℕ) → Stage T
  PopLoadsRead : Stage T
  PopLoadsWrite : (read : ℕ) → Stage T
  PopLoadsCell : (read : ℕ) (loaded : List ℕ) → Stage T
  PopStoresRead : (read : ℕ) (loaded : List ℕ) → Stage T

abbrev pub may : {T : Type 0} → ℕ → Call T → Bool  -- party 0 is the producer, party 1 the consumer
may p (Push value) = p == 0
may p Pop = p == 1

module _ {T : Type 0} (how : Written T) (capacity : ℕ) where
  abbrev pub first : Call T → Stage T  -- the stage with which a call begins
  first (Push value) = PushLoadsWrite value
  first Pop = PopLoadsRead

  -- whether a queue with these positions, which count modulo 2^64, is full; one of capacity 0 always is
  abbrev pub is_full : (write read : ℕ) → Bool
  is_full write read = capacity == 0 || (write + 2 ^ 64 - read) % 2 ^ 64 == capacity

  abbrev pub at : (position word : ℕ) → ℕ  -- where a word of the position's cell stands
  at position word = 4 + how.size * (position % capacity) + word

  abbrev pub stores : T → (write word : ℕ) → Stage T  -- a value goes into its cell word by word, and out
  stores value write word = if nat_lt word how.size then PushStoresCell value write word else PushStoresWrite value write

  abbrev pub loads : ℕ → List ℕ → Stage T
  loads read loaded = if nat_lt (length loaded) how.size then PopLoadsCell read loaded else PopStoresRead read loaded

  -- at each stage the word, the operation, and how the call goes on with the word's old value
  abbrev pub does : Stage T → ℕ × Operation × (ℕ → After (Stage T) (Answer T))
  does (PushLoadsWrite value) = (0, Load, λ old. if old == 2 ^ 64 - 1 then Done (Pushed false) else GoOn (PushLoadsRead value old))
  does (PushLoadsRead value write) = (1, Load, λ old. if is_full write old then Done (Pushed false) else GoOn (stores value write 0))
  does (PushStoresCell value write word) =
      (at write word, Store (slice_index (how.words_of value) word), λ old. GoOn (stores value write (word + 1)))
  does (PushStoresWrite value write) = (0, Store ((write + 1) % 2 ^ 64), λ old. Done (Pushed true))
  does PopLoadsRead = (1, Load, λ old. GoOn (PopLoadsWrite old))
  does (PopLoadsWrite read) = (0, Load, λ old. if capacity == 0 || old == read then Done (Popped None) else GoOn (loads read []))
  does (PopLoadsCell read loaded) = (at read (length loaded), Load, λ old. GoOn (loads read (loaded ++ old ∷ [])))
  does (PopStoresRead read loaded) = (1, Store ((read + 1) % 2 ^ 64), λ old. Done (Popped (Some (how.value_of loaded))))

  -- write position, read position, a word 0 for each role, since it is taken, and the cells
  abbrev pub queue : Structure (Call T) (Stage T) (Answer T)
  queue = record { words = 0 ∷ 0 ∷ 0 ∷ 0 ∷ replicate (how.size * capacity) 0; may = may; first = first; does = does }

-- what the list answers to a call, and the list after it: a push of a full list answers false
abbrev pub listed : {T : Type 0} → ℕ → List T → Call T → Answer T × List T
listed capacity items (Push value) =
    if nat_lt (length items) capacity then (Pushed true, items ++ value ∷ []) else (Pushed false, items)
listed capacity items Pop = (Popped (slice_get items 0), drop 1 items)

abbrev pub bounded_list : {T : Type 0} → ℕ → Object (Call T) (Answer T) (List T)  -- a list of at most this many values
bounded_list capacity = record { opening = []; act = listed capacity }
