-- The unique index set: its words, its calls stage by stage, and who holds an index.
use Rattle.std.specs.Prelude.{◌≡◌, ◌<◌, ℕ, ◌+◌, ◌-◌, ◌*◌, ◌/◌, ◌%◌, ◌^◌, ◌==◌, ◌&&◌, Bool, true, false, not, Option, Some, None}
use Rattle.std.specs.Prelude.{List, ◌∷◌, ◌++◌, bit_and, fold, replicate, if◌then◌else◌, nat_lt}
use Rattle.std.specs.List.{range_with_len}
use Rattle.pages.specs.Machine.{Operation, Load, Store, Exchange, Sub, And, Or, After, GoOn, Done, Structure, Event, Invoked, Responded}

-- a release with `may_lock` locks the set if its index is the last one that is not free
pub data Call : Type 0 where
  Acquire : Call
  Release : (index : ℕ) (may_lock : Bool) → Call

-- answers: of Acquire the index or why there is none, of Release whether it locked the set
pub data Answer : Type 0 where
  Acquired : (index : ℕ) → Answer
  OutOfIndices : Answer
  IsLocked : Answer
  Released : (locked : Bool) → Answer

pub data Stage : Type 0 where  -- what a call does next, with all that it knows
  AcquireLoadsHead : Stage
  AcquireLoadsNext : (head : ℕ) → Stage
  AcquireExchangesHead : (head next : ℕ) → Stage
  AcquireClaims : (index : ℕ) → Stage
  AcquireScans : (index : ℕ) → Stage
  ReleaseClearsFlag : (index : ℕ) (may_lock : Bool) → Stage
  ReleaseLoadsHead : (index : ℕ) (may_lock : Bool) → Stage
  ReleaseStoresNext : (index : ℕ) (may_lock : Bool) (head : ℕ) → Stage
  ReleaseExchangesHead : (index : ℕ) (may_lock : Bool) (head : ℕ) → Stage
  ReleaseSubtracts : (index : ℕ) → Stage

abbrev pub first : Call → Stage  -- the stage with which a call begins
first Acquire = AcquireLoadsHead
first (Release index may_lock) = ReleaseClearsFlag index may_lock

-- the head, from its highest bit on: 24 bits for the index that is proposed, 16 for a count of exchanges, which wraps, and 24
-- for the number of indices that are not free. The greatest such number says that the set is locked.
abbrev pub head_of : (head index borrowed : ℕ) → ℕ
head_of head index borrowed = index % 2 ^ 24 * 2 ^ 40 + (head / 2 ^ 24 % 2 ^ 16 + 1) % 2 ^ 16 * 2 ^ 24 + borrowed % 2 ^ 24

abbrev pub has_flag : (word index : ℕ) → Bool  -- whether the flag of an index stands in this word
has_flag word index = not (bit_and word (2 ^ (index % 64)) == 0)

-- An acquire that sees this head finds the set locked or without a free index, or goes on with the
-- index proposed.
abbrev pub sees : (c head : ℕ) → After Stage Answer
sees c head =
    if head % 2 ^ 24 == 2 ^ 24 - 1
    then Done IsLocked
    else if head % 2 ^ 24 == c
    then Done OutOfIndices
    else if nat_lt (head / 2 ^ 40) c
    then GoOn (AcquireLoadsNext head)
    else GoOn (AcquireExchangesHead head (head / 2 ^ 40))

-- it is the last index, and the set is locked
abbrev pub locks : Bool → ℕ → Bool
locks may_lock head = may_lock && (head % 2 ^ 24 == 1)

-- at each stage the word, the operation, and how the call goes on with the word's old value
abbrev pub does : ℕ → Stage → ℕ × Operation × (ℕ → After Stage Answer)
does c AcquireLoadsHead = (0, Load, λ old. sees c old)
does c (AcquireLoadsNext head) = (1 + head / 2 ^ 40, Load, λ old. GoOn (AcquireExchangesHead head (old % 2 ^ 24)))
does c (AcquireExchangesHead head next) = (
  0,
  Exchange head (head_of head next (head % 2 ^ 24 + 1)),
  λ old.
      if old == head
      then GoOn (if nat_lt (head / 2 ^ 40) c then AcquireClaims (head / 2 ^ 40) else AcquireScans 0)
      else sees c old,
)
does c (AcquireClaims index) = (
  1 + c + index / 64,
  Or (2 ^ (index % 64)),
  λ old. if has_flag old index then GoOn (AcquireScans 0) else Done (Acquired index),
)
does c (AcquireScans index) = (
  1 + c + index / 64,
  Or (2 ^ (index % 64)),
  λ old. if has_flag old index then GoOn (AcquireScans (if nat_lt (index + 1) c then index + 1 else 0)) else Done (Acquired index),
)
does c (ReleaseClearsFlag index may_lock) =
    (1 + c + index / 64, And (2 ^ 64 - 1 - 2 ^ (index % 64)), λ old. GoOn (ReleaseLoadsHead index may_lock))
does c (ReleaseLoadsHead index may_lock) = (0, Load, λ old. GoOn (ReleaseStoresNext index may_lock old))
does c (ReleaseStoresNext index may_lock head) =
    (1 + index, Store (head / 2 ^ 40), λ old. GoOn (ReleaseExchangesHead index may_lock head))
does c (ReleaseExchangesHead index may_lock head) = (
  0,
  Exchange head (head_of head index (if locks may_lock head then 2 ^ 24 - 1 else (head % 2 ^ 24 + (2 ^ 32 - 1)) % 2 ^ 32)),
  λ old.
      if old == head
      then Done (Released (locks may_lock head))
      else if may_lock
      then GoOn (ReleaseStoresNext index may_lock old)
      else GoOn (ReleaseSubtracts index),
)
does c (ReleaseSubtracts index) = (0, Sub 1, λ old. Done (Released false))

-- the head, which proposes index 0; after each index the next; and no flag
abbrev pub unique_index_set : ℕ → Structure Call Stage Answer
unique_index_set c =
    record {
      words = 0 ∷ range_with_len 1 c ++ replicate ((c + 63) / 64) 0;
      may = λ p call. true;
      first = first;
      does = does c;
    }

-- ---- holders: an index has one from the response of an acquire to the invocation of its release

abbrev pub holder_after : ℕ → Option ℕ → Event Call Answer → Option ℕ
holder_after i holder (Responded p (Acquired index)) = if index == i then Some p else holder
holder_after i holder (Invoked p (Release index may_lock)) = if index == i then None else holder
holder_after i holder e = holder

abbrev pub holder : ℕ → List (Event Call Answer) → Option ℕ
holder i history = fold (holder_after i) None history

abbrev pub locked_after : Bool → Event Call Answer → Bool
locked_after locked (Responded p (Released true)) = true
locked_after locked e = locked

abbrev pub is_locked : List (Event Call Answer) → Bool
is_locked history = fold locked_after false history

-- P holds of each event and of those before it
abbrev pub Each : (List (Event Call Answer) → Event Call Answer → Type 0) → List (Event Call Answer) → Type 0
Each P history = (before after : List (Event Call Answer)) (e : Event Call Answer) → history ≡ before ++ e ∷ after → P before e

-- who releases an index is its holder
abbrev pub ReleasesOwn : List (Event Call Answer) → Event Call Answer → Type 0
ReleasesOwn before (Invoked p (Release index may_lock)) = holder index before ≡ Some p
ReleasesOwn before e = Unit {0}

-- Whoever gets an index is its only holder. No index is got once the set is locked. When it is locked, no index has a holder.
-- That an acquire gets one is not said.
abbrev pub HoldsAlone : ℕ → List (Event Call Answer) → Event Call Answer → Type 0
HoldsAlone c before (Responded p (Acquired index)) =
    (index < c) × (holder index before ≡ None) × (is_locked before ≡ false)
HoldsAlone c before (Responded p (Released true)) = (index : ℕ) → holder index before ≡ None
HoldsAlone c before e = Unit {0}
