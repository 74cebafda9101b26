-- The terms on which a run is spoken of: by what an owner is gone, and whether the run is faithful and of few
-- turns, so that no number of an element comes round.
use Rattle.laws_container.proofs.Names.{◌≡◌, Bool, true, GoneBy, Death}

-- by what an owner is gone; and whether nobody takes a step for an owner who is gone, in a run of few turns
pub record Terms : Type 0 where
  pub by : GoneBy
  pub kept : Bool

-- the terms of a machine whose owners die, which refuses steps for the dead
abbrev pub dying : Terms
dying = record { by = Death; kept = true }

-- the run is faithful and of few turns
abbrev pub Keeps : Terms → Type 0
Keeps terms = terms.kept ≡ true
