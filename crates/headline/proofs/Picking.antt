-- What holds of each of a list holds of one of them.
use Rattle.std.proofs.Common.{List, [], ◌∷◌, ◌++◌, subst}
use Rattle.std.specs.List.{AllByRecursion}
use Rattle.model.specs.Families.Indices.Robust.Reading.{IsOneOf}

module _ {A : Type 0} (P : A → Type 0) where
  -- What holds of each element of a list holds of the one between `before` and `after`.
  there : (before : List A) (one : A) (after : List A) → AllByRecursion P (before ++ one ∷ after) → P one
  there [] one after all = all.0
  there (x ∷ xs) one after all = there xs one after all.1

  pub picked : (one : A) (all : List A) → IsOneOf one all → AllByRecursion P all → P one
  picked one all one_of each = there one_of.before one one_of.after (subst (AllByRecursion P) one_of.is each)
