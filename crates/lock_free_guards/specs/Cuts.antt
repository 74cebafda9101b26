-- What many splits of one handle or pass leave.
use Rattle.std.specs.Prelude.{◌≡◌, List, [], ◌∷◌}

module _ {H : Type 0} (Cut : H → H → H → Type 0) where
  -- these handles or passes were split off one after another, each from what the split before had left
  abbrev pub AreCut : List H → (old new : H) → Type 0
  AreCut [] old new = new ≡ old
  AreCut (half ∷ halves) old new = (between : H) × Cut old between half × AreCut halves between new
