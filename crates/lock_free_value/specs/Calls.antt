-- Which value a pass is for, and what it knows of the value's history.
use Rattle.std.specs.Prelude.{◌≡◌, ◌≤◌, ◌+◌, ◌-◌, ◌^◌, length}
use Rattle.laws_value.specs.Stored.{stored}
use Rattle.atomic_table.specs.Seated.{TableId}
use Rattle.steps.specs.declared.words.Words.{Ghosts}
use Rattle.model.specs.declared.turn.Kind.TheVariants as kinds
use Rattle.model.specs.Coding.{Coding, coding_by}
use Rattle.threaded.specs.Seats.{home_id}
use Rattle.history.specs.declared.view.View.{View}
use Rattle.history.specs.History.{IsHistory}
pub use Rattle.history.specs.Passes.{MissesNothing}
use Rattle.history.specs.Passes.{Goes, HasJoined}
use Rattle.lock_free_value.specs.declared.spmc.unrestricted_atomic.UnrestrictedAtomic.{UnrestrictedAtomic}
use Rattle.lock_free_value.specs.declared.spmc.unrestricted_atomic.Held.{Held}
use Rattle.lock_free_value.specs.declared.spmc.unrestricted_atomic.Pass.{Pass}
use Rattle.lock_free_value.specs.declared.spmc.unrestricted_atomic.Producer.{Producer}
use Rattle.lock_free_value.specs.declared.spmc.unrestricted_atomic.rule.ValueRule.{ValueRule}

-- what names a value
abbrev pub value_id : {T : Type 0} → UnrestrictedAtomic T → TableId
value_id a = home_id a.home

-- what was seen is a history of a value
abbrev pub HasHistory : {T : Type 0} → Coding T → View T → Type 0
HasHistory code v = IsHistory code kinds.Atomic 1 v.seen

-- A store was refused, since the version is the last one. It is no call of the history.
pub record WasAtEnd {T : Type 0} (old new : View T) : Type 0 where
  pub made : new.made ≡ old.made
  pub end : length (stored new.seen) + 1 ≡ 2 ^ 64 - 1
  pub list : stored new.seen ≡ stored old.seen  -- nothing was stored since

module _ {T : Type 0} {words : Ghosts T} where
  -- what a seat knows of the value
  abbrev pub seen : Held T (ValueRule T) words → View T
  seen t = t.seated.seat.me.0

  -- which value a seat is for
  abbrev pub table_of : Held T (ValueRule T) words → TableId
  table_of t = t.seated.seat.table_id

  -- what the pass knows of the value
  abbrev pub view : Pass T words → View T
  view p = seen p.token

  -- the value of the pass
  abbrev pub value_of_pass : Pass T words → TableId
  value_of_pass p = table_of p.token

  -- the pass is one of this value
  abbrev pub IsPassOf : UnrestrictedAtomic T → Pass T words → Type 0
  IsPassOf a p = value_of_pass p ≡ value_id a

  -- what the producer knows of the value
  abbrev pub producer_view : Producer T words → View T
  producer_view p = seen p.token

  -- the value of the producer
  abbrev pub value_of_producer : Producer T words → TableId
  value_of_producer p = table_of p.token

  -- how its values are written in words
  abbrev pub code_of : Held T (ValueRule T) words → Coding T
  code_of t = coding_by words

  -- what each call leaves of a seat: the same value, and a view that goes on
  pub record IsSame (old new : Held T (ValueRule T) words) : Type 0 where
    pub table : table_of new ≡ table_of old
    pub goes : Goes (seen old) (seen new)
    -- at most one operation was no step of a call
    pub aside : (seen new).aside ≤ (seen old).aside + 1

  -- the pass is still of the same value, and its view goes on
  abbrev pub SamePass : Pass T words → Pass T words → Type 0
  SamePass old new = IsSame old.token new.token

  -- the producer is still of the same value, and its view goes on
  abbrev pub SameProducer : Producer T words → Producer T words → Type 0
  SameProducer old new = IsSame old.token new.token

  -- the producer is of the pass's value, and its view goes on from the pass's
  abbrev pub ToProducer : Pass T words → Producer T words → Type 0
  ToProducer pass end = IsSame pass.token end.token

  -- the pass is of the producer's value, and its view goes on from the producer's
  abbrev pub FromProducer : Producer T words → Pass T words → Type 0
  FromProducer end pass = IsSame end.token pass.token

  -- what a join leaves of a seat: the same value, and a view that has what both views had
  pub record Joins (old other new : Held T (ValueRule T) words) : Type 0 where
    pub table : table_of new ≡ table_of old
    pub joined : HasJoined (seen old) (seen other) (seen new)
    pub all : MissesNothing (seen new)

  -- the pass is of the same value, and has what both had
  abbrev pub PassJoins : Pass T words → Pass T words → Pass T words → Type 0
  PassJoins old other new = Joins old.token other.token new.token

  -- the producer is of the same value, and has what both had
  abbrev pub ProducerJoins : Producer T words → Pass T words → Producer T words → Type 0
  ProducerJoins old other new = Joins old.token other.token new.token
