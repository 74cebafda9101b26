-- A call that each party may begin, begins as the party that the pass was last.
use Rattle.std.proofs.Common.{arith}
use Rattle.history.proofs.Names.{◌≡◌, ℕ, Option, Some, None, IfSome, Kind, Coding, first_of}
use Rattle.history.proofs.Names.{first_row, Trace}
use Rattle.history.specs.declared.view.View.{View}
use Rattle.history.specs.Stages.{Calling, Starts, rows_as}

-- a call that every party may begin begins for the party that the pass was last
pub starts_by_last : {T C M E : Type 0} {code : Coding T} {kind : Kind} {call : Calling T C M E} {base : View T} {c : C} {m : M} {t : Trace T}
    {owner : ℕ → ℕ} {j : ℕ} → ((o : Option ℕ) (p : ℕ) → IfSome o (λ q. q ≡ p) → call.by o p) → owner j ≡ j → IfSome base.party (λ p. owner p ≡ j)
    → first_of kind base.capacity call.start t.world.kept ≡ Some (call.flight c m)
    → ((p : ℕ) → first_row (rows_as kind base.capacity t.world.kept p call.start) ≡ None)
    → Starts code kind call base c m t owner j
starts_by_last = grind arith
