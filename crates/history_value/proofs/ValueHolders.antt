-- Only the holder of the producer's role stores, so while a pass has it the stores are its own.
use Rattle.history.proofs.Names.{◌≡◌, ℕ, false, Some, List, []}
use Rattle.history.proofs.Names.{refl, sym, subst, arith}
use Rattle.model.specs.declared.event.Event.{Event}
use Rattle.model.specs.declared.families.Flight.{Flight}
use Rattle.history.proofs.Names.{Coding, party_of, Each}
use Rattle.model.specs.declared.party.Doing.TheVariants.{Going}
use Rattle.model.specs.declared.party.Party.{Party}
use Rattle.history.proofs.Names.{whose, is_party, step_in, Trace, AreRight, Each-nil}
use Rattle.laws_value.specs.Stored.{stores}
use Rattle.model.specs.declared.turn.Kind.TheVariants as kinds
use Rattle.model.specs.Families.Atomic.Reading.{holder_after, holder_of}
use Rattle.model.specs.Families.Atomic.Roles.{GrantsRight}
use Rattle.model.specs.World.{opening}
use Rattle.model.proofs.Frame as frame
use Rattle.model.specs.Fresh.{IsFreshTurn}
use Rattle.laws_value.proofs.Invariant.{family}
use Rattle.laws_value.proofs.Sound.{opening_sound, fresh_laws}
use Rattle.history.specs.History.{IsRun, IsHistory}
use Rattle.history_value.specs.Value.{ByProducer}
use Rattle.history.proofs.EachEvent.{each_event}
use Rattle.history.proofs.OneHolder.{RoleEvents, HasOneHolder}

module _ {T : Type 0} where
  -- each act of a store among the events is of the party that holds the producer's role then
  abbrev AreByProducer : List (Event T) → List (Event T) → Type 0
  AreByProducer before es = AreRight ByProducer before es

  -- t is a trace, of which s says that it is sound
  module _ (en : Coding T) (c : ℕ) {t : Trace T} (s : frame.Sound (family en c) t) where
    -- what a step of any call writes is right in this sense
    step_right : (p n : ℕ) (x : Party T) (flight : Flight T) (since : ℕ) → party_of p t.world.latest ≡ Some x
        → x.doing ≡ Going flight since → AreByProducer t.events (step_in t.world p x flight n).wrote
    step_right = grind arith

module _ {T : Type 0} (code : Coding T) (capacity : ℕ) where
  -- in each run only the holder of the producer's role stores
  by_producers : {t : Trace T} → IsRun code kinds.Atomic capacity t → Each ByProducer t.events
  by_producers {t} run =
      let world_now = t.world in
      let first : Trace T = opening world_now.coding world_now.kind world_now.capacity world_now.parties in
      let sound : frame.Sound (family world_now.coding world_now.capacity) first =
      subst (λ kind. frame.Sound (family world_now.coding world_now.capacity) (opening world_now.coding kind world_now.capacity world_now.parties))
      (sym run.of_kind) (opening_sound world_now.coding world_now.capacity world_now.parties run.reached.coded) in
      subst (λ z. Each ByProducer z.events) (sym run.fresh.is)
      (each_event (fresh_laws world_now.coding world_now.capacity) ByProducer
      (λ before p start. tt) (λ before p start answer. tt) (λ before owner. tt)
      (λ t s p n x flight since found doing handed. (
      let right = step_right world_now.coding world_now.capacity s in right p n x flight since found doing))
      run.fresh.turns run.fresh.fresh sound (Each-nil ByProducer))

  -- in each history of a single value only the holder of the producer's role stores
  pub history_by_producers : (events : List (Event T)) → IsHistory code kinds.Atomic capacity events → Each ByProducer events
  history_by_producers events history = subst (Each ByProducer) (sym history.is) (by_producers history.run)

-- ---- one party at a time holds the producer's role

module _ {T : Type 0} (p : ℕ) where
  -- before an event of another party that leaves the role with the party, the party held it, and
  -- the event stores nothing
  back_from : (before : List (Event T)) (e : Event T) → ByProducer before e → is_party p (whose e) ≡ false
      → holder_after (holder_of before) e ≡ Some p → (holder_of before ≡ Some p) × (stores e ≡ [])
  back_from = grind arith

  -- while the party holds the role, an event of another party leaves it there and stores nothing
  forth_from : (before : List (Event T)) (e : Event T) → ByProducer before e → GrantsRight before e
      → is_party p (whose e) ≡ false → holder_of before ≡ Some p → (stores e ≡ []) × (holder_after (Some p) e ≡ Some p)
  forth_from = grind arith

module _ {T : Type 0} where
  -- the producer's role, with the values that its holder stores
  abbrev pub value_role : RoleEvents T T
  value_role = record { holder_after = holder_after; marks = stores; ByItsHolder = ByProducer; Grants = GrantsRight }

  -- the producer's role of a single value has one holder at a time
  pub one_holder : HasOneHolder value_role
  one_holder =
      record {
        back = λ p before e by other leaves. back_from p before e by other leaves;
        forth = λ p before e by grants other now. forth_from p before e by grants other now;
        begin = λ o p start. (refl, refl);
      }
