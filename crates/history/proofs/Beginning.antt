-- A call begins on a pass that has no call under way.
use Rattle.history.proofs.Names.{◌≡◌, inl, ℕ, ◌<◌, Some, None, IfSome, [], refl, sum_by, Event, Kind, Coding, Trace}
use Rattle.history.proofs.Names.{first_of, opening_of}
use Rattle.history.specs.declared.view.View.{View}
use Rattle.history.specs.History.{IsRun}
use Rattle.history.specs.Known.{owned}
use Rattle.history.specs.Stages.{Calling, At, Starts}

-- On a pass that has no call under way, knows one history alone and has a share, a call is about to begin (`At`), if its
-- stage is one at which such a call stands, the model begins it at this stage, a party of the pass may begin it on each
-- machine that fits what the pass made, and it may have written nothing yet.
pub at_begin : {T C M E : Type 0} {code : Coding T} {kind : Kind} {call : Calling T C M E} {x : View T} {c : C} {m : M}
    → x.going ≡ None → x.other ≡ [] → 0 < x.share.part → call.stands x.capacity c
    → first_of kind x.capacity call.start ((opening_of kind).kept x.capacity) ≡ Some (call.flight c m)
    → ((t : Trace T) (owner : ℕ → ℕ) (j : ℕ) → IsRun code kind x.capacity t → owner j ≡ j → IfSome x.party (λ p. owner p ≡ j)
    → ((f : Event T → ℕ) → sum_by f x.made ≡ sum_by (owned owner j f) t.events) → Starts code kind call x c m t owner j)
    → ((p : ℕ) → call.wrote x.capacity p None c m []) → At code kind call x x c m
at_begin idle alone any standing first starts wrote =
    inl (record { is = refl; idle = idle; fresh = alone; standing = standing; some = any; first = first; starts = starts; wrote = wrote })
