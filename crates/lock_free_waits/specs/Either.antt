-- What a try of two things has done that brought something of one of them.
use Rattle.std.specs.Prelude.{◌≡◌}
use Rattle.lock_free_waits.specs.declared.both.Either.{Either}
use Rattle.lock_free_waits.specs.declared.both.Either.TheVariants.{One, Two}
use Rattle.lock_free_waits.specs.declared.both.Both.{Both}

module _ {A B T U : Type 0} (CameA : T → A → A → Type 0) (NothingA : A → A → Type 0) (CameB : U → B → B → Type 0) where
  -- the first brought this and the second was not tried, or the first brought nothing and the second brought this
  abbrev pub CameOfEither : Either T U → (old new : Both A B) → Type 0
  CameOfEither (One x) old new = CameA x old.one new.one × (new.two ≡ old.two)
  CameOfEither (Two x) old new = NothingA old.one new.one × CameB x old.two new.two
