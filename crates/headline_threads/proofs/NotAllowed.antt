-- A pass that would know a turn which is refused knows no run.
use Rattle.std.proofs.Common.{◌≡◌, ℕ, None, List, [], ◌∷◌, refl, arith}
use Rattle.model.specs.declared.event.Start.{Start}
use Rattle.model.specs.declared.event.Start.TheVariants.{Indices, Queues, Robust}
use Rattle.model.specs.declared.families.indices.IndexStart.TheVariants.{Acquire}
use Rattle.model.specs.declared.families.indices.robust.RobustStart.TheVariants.{Find}
use Rattle.model.specs.declared.families.queues.QueueStart.TheVariants.{PushIndex}
use Rattle.model.specs.declared.turn.Kind.{Kind}
use Rattle.model.specs.declared.turn.Kind.TheVariants as kinds
use Rattle.model.specs.declared.turn.Turn.{Turn}
use Rattle.model.specs.declared.turn.Turn.TheVariants.{Begin, Next, Die}
use Rattle.model.specs.Coding.{IsCoding, one_word}
use Rattle.model.specs.World.{capacity_error, opening}
use Rattle.history.specs.declared.view.View.{View}
use Rattle.history.specs.History.{AreFresh, Knows, run_of}
use Rattle.history.specs.Views.{first_view}

-- a pass that has seen all events of these turns
abbrev knowing : Kind → ℕ → List (Turn ℕ) → View ℕ
knowing kind capacity turns =
    record (first_view capacity) { seen = (run_of one_word kind capacity turns).events; turns = turns }

-- A pass knows these turns, and what they have written, as a run of the table.
abbrev IsKnown : Kind → ℕ → List (Turn ℕ) → Type 0
IsKnown kind capacity turns = Knows one_word kind capacity (knowing kind capacity turns)

one_word_codes : IsCoding one_word
one_word_codes = record { some = omega arith; few = omega arith; sized = λ n. refl; given_back = λ n. refl }

-- ---- a party begins a call while it has one under way

abbrev acquire : Start ℕ
acquire = Indices Acquire

-- A party begins an acquire while its acquire is under way.
abbrev again : List (Turn ℕ)
again = Begin 0 acquire ∷ Begin 0 acquire ∷ []

-- All that `Knows` says of these turns holds, but that they are allowed.
all_but_allowed : IsCoding one_word
    × ((capacity_error kinds.Indices 1 ≡ None)
    × (AreFresh (opening one_word kinds.Indices 1 0) again
    × ((knowing kinds.Indices 1 again).seen ≡ (run_of one_word kinds.Indices 1 again).events)))
all_but_allowed = (one_word_codes, (refl, ((tt, (tt, tt)), refl)))

busy : IsKnown kinds.Indices 1 again → ⊥
busy known = cc (known.allowed.1.0)

-- the first of both it may know
one_begun : IsKnown kinds.Indices 1 (Begin 0 acquire ∷ [])
one_begun =
    record {
      coded = one_word_codes;
      admitted = refl;
      allowed = (refl, tt);
      fresh = (tt, tt);
      is = refl;
      others = refl;
      asked = record { share = (omega arith, omega arith); most = omega arith; all = λ whole. refl };
    }

-- ---- a party without a call goes on, a party without the role pushes, a set of indices is told of a death

idle : IsKnown kinds.Indices 1 (Next 0 ∷ []) → ⊥
idle known = cc (known.allowed.0)

no_role : IsKnown kinds.IndexQueue 1 (Begin 0 (Queues (PushIndex 7)) ∷ []) → ⊥
no_role known = cc (known.allowed.0)

no_owners : IsKnown kinds.Indices 1 (Die 0 ∷ []) → ⊥
no_owners known = cc (known.allowed.0)

-- a call of another kind
other_kind : IsKnown kinds.Indices 1 (Begin 0 (Robust (Find 7)) ∷ []) → ⊥
other_kind known = cc (known.allowed.0)
