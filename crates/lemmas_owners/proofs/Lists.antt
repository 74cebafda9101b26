-- What holds of all elements of a list, and what is one of its elements.
use Rattle.std.proofs.Common.{arith}
use Rattle.model.proofs.Names.{◌≡◌, ◌⊎◌, inl, inr, Bool, true, false, List, [], ◌∷◌, ◌++◌, refl, subst}
use Rattle.model.proofs.Names.{append_assoc, append-nil, if◌then◌else◌, AllByRecursion, IsOneOf}
use Rattle.model.specs.Families.Indices.Robust.Reading.{IsLatest}
use Rattle.model.proofs.Readings.{SplitAt, Last, Earlier, split_last}

module _ {A : Type 0} where
  -- what holds of all elements of two lists holds of all elements of both
  pub all_both : (P : A → Type 0) (xs ys : List A) → AllByRecursion P xs → AllByRecursion P ys → AllByRecursion P (xs ++ ys)
  all_both P [] ys all_hold rest_hold = rest_hold
  all_both P (x ∷ xs) ys all_hold rest_hold = (all_hold.0, all_both P xs ys all_hold.1 rest_hold)

  -- what holds of all elements of two lists holds of those of whichever list the test chooses
  pub all_either : (P : A → Type 0) (b : Bool) (xs ys : List A) → AllByRecursion P xs → AllByRecursion P ys → AllByRecursion P (if b then xs else ys)
  all_either P true xs ys left right = left
  all_either P false xs ys left right = right

  -- if `P` holds of all elements of a list, and `Q` follows from `P`, then `Q` holds of all of them
  pub all_so : (P Q : A → Type 0) (xs : List A) → ((x : A) → P x → Q x) → AllByRecursion P xs → AllByRecursion Q xs
  all_so P Q [] follows all_hold = tt
  all_so P Q (x ∷ xs) follows all_hold = (follows x all_hold.0, all_so P Q xs follows all_hold.1)

  -- ---- one of the elements

  -- one of the elements is still one where more stand behind them
  pub still_one : (one : A) (all more : List A) → IsOneOf one all → IsOneOf one (all ++ more)
  still_one = grind (arith, append_assoc)

  -- the last element is one of the elements
  pub last_one : (last : A) (all : List A) → IsOneOf last (all ++ last ∷ [])
  last_one last all = record { before = all; after = []; is = refl }

  -- the latest element is one of the elements
  pub by_latest : (one : A) (all : List A) → IsLatest one all → IsOneOf one all
  by_latest one all latest = record { before = latest.before; after = []; is = latest.is }

  -- with no more elements each is one of those that there were
  pub one_of_none : (one : A) (all : List A) → IsOneOf one (all ++ []) → IsOneOf one all
  one_of_none one all is_one = subst (IsOneOf one) (append-nil all) is_one

  -- with one element more each is one of those that there were, or this one
  pub was_one : (one last : A) (all : List A) → IsOneOf one (all ++ last ∷ []) → IsOneOf one all ⊎ (last ≡ one)
  was_one one last all is_one = go (split_last all last is_one.before one is_one.after is_one.is)
    where
      -- the cases are whether it is the last of them or an earlier one
      go : SplitAt all last is_one.before one is_one.after → IsOneOf one all ⊎ (last ≡ one)
      go (Last p q) = inr q
      go (Earlier rest p) = inl (record { before = is_one.before; after = rest; is = p })
