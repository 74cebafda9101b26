-- A find calls its closure with the indices of a list, one after another, for as long as that says Continue.
use Rattle.std.proofs.Common.{◌≡◌, ℕ, ◌+◌, ◌≤◌, inl, inr, List, [], ◌∷◌, ◌++◌, length, refl, sym, ap, subst, ◌∙◌}
use Rattle.plain.proofs.Names.{FoldsTo, append_assoc, append-nil, length-append}
use Rattle.steps.specs.declared.enums.CallbackProgression.{CallbackProgression}
use Rattle.steps.specs.declared.enums.CallbackProgression.TheVariants.{Continue, Stop}
use Rattle.plain.specs.Callable.{HasFound}

-- calls with a list, and one more call, are calls with the list and one more at its end
pub folds_more : {P A : Type 0} (R : P → A → P → Type 0) (p q r : P) (xs : List A) (x : A)
    → FoldsTo R p xs q → R q x r → FoldsTo R p (xs ++ x ∷ []) r
folds_more R p q r [] x folds step = (r, subst (λ z. R z x r) (sym folds) step, refl)
folds_more R p q r (y ∷ xs) x folds step = (folds.0, folds.1, folds_more R folds.0 q r xs x folds.2 step)

-- what the closure was called with so far: with the indices of `before`, and it said Continue each time; those of `left` are left
pub record Visited {F : Type 0} (step : F → ℕ → CallbackProgression → F → Type 0) (all : List ℕ) (first : F) (most done : ℕ) (now : F) : Type 0 where
  -- the indices at which the closure was called, and those that are left: together all of the list
  pub before : List ℕ
  pub left : List ℕ
  pub joined : before ++ left ≡ all
  -- the closure's calls so far, as many as were counted, and at most `most`
  pub calls : FoldsTo (λ p x q. step p x Continue q) first before now
  pub number : length before ≡ done
  pub low : done ≤ most

module _ {F : Type 0} {step : F → ℕ → CallbackProgression → F → Type 0} {all : List ℕ} {first : F} {most done : ℕ} {now : F}
    (visited : Visited step all first most done now) where
  -- where nothing is left, this is what was found
  pub found_all : {n : ℕ} → visited.left ≡ [] → n ≡ done → HasFound step all first n now
  found_all none counted =
      record {
        before = visited.before;
        now = now;
        calls = visited.calls;
        ended = inl (
          sym (append-nil visited.before) ∙ (ap (λ l. visited.before ++ l) (sym none) ∙ visited.joined),
          refl,
          counted ∙ sym visited.number,
        );
      }

  module _ {index : ℕ} {rest : List ℕ} (left_is : visited.left ≡ index ∷ rest) where
    -- the indices so far, the next one and those after it are all
    pub joined : visited.before ++ index ∷ rest ≡ all
    joined = ap (λ l. visited.before ++ l) (sym left_is) ∙ visited.joined

    -- after a call with the next index that said Continue, those after it are left
    abbrev pub visit_more : {next : F} → step now index Continue next → done + 1 ≤ most → Visited step all first most (done + 1) next
    visit_more {next} called low =
        record {
          before = visited.before ++ index ∷ [];
          left = rest;
          joined = append_assoc visited.before (index ∷ []) rest ∙ joined;
          calls = folds_more (λ p x q. step p x Continue q) first now next visited.before index visited.calls called;
          number = length-append visited.before (index ∷ []) ∙ ap (λ n. n + 1) visited.number;
          low = low;
        }

    -- after a call with the next index that said Stop, this is what was found
    pub found_some : {next : F} → step now index Stop next → HasFound step all first (done + 1) next
    found_some called =
        record {
          before = visited.before;
          now = now;
          calls = visited.calls;
          ended = inr (index, rest, joined, called, ap (λ n. n + 1) (sym visited.number));
        }
