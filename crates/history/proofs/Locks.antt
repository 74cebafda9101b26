-- The lock of a unique index set stays: whoever has seen more events has seen it too.
use Rattle.history.proofs.Names.{◌≡◌, true, false, List, sym, ap, ◌∙◌, Event}
use Rattle.std.proofs.Common.{true≢false}
use Rattle.model.specs.Families.Indices.Reading.{is_locked}
use Rattle.model.proofs.Locks.{locked_later}
use Rattle.history.specs.History.{IsBeginning}
use Rattle.lemmas.proofs.Cases.{by_bool}

module _ {T : Type 0} where
  -- a set that was locked is locked with more events
  pub lock_stays : {seen events : List (Event T)} → IsBeginning seen events → is_locked seen ≡ true → is_locked events ≡ true
  lock_stays {seen} {events} beginning shut =
      ap is_locked beginning.is ∙ locked_later seen beginning.rest shut

  -- a set that is not locked was not locked before
  pub not_locked : {seen events : List (Event T)} → IsBeginning seen events → is_locked events ≡ false → is_locked seen ≡ false
  not_locked {seen} {events} beginning unlocked =
      by_bool (is_locked seen)
      (λ t. (let shut = lock_stays beginning t in absurd (true≢false (sym shut ∙ unlocked))))
      (λ t. t)
