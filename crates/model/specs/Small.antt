-- The counts of a machine stay below the number of its turns, so that none of them wraps.
use Rattle.std.specs.Prelude.{◌≡◌, ℕ, ◌-◌, ◌≤◌, ◌^◌, Some}
use Rattle.model.specs.declared.party.Doing.{Doing}
use Rattle.model.specs.declared.party.Doing.TheVariants.{Going, Over}
use Rattle.model.specs.declared.party.Party.{Party}
use Rattle.model.specs.Parties.{party_of}
use Rattle.model.specs.World.{World}

module _ {T : Type 0} where
  -- A call counts at most as many changes of words as there were in all.
  abbrev pub HasSmallCount : ℕ → Doing T → Type 0
  HasSmallCount changes (Going flight since) = since ≤ changes
  HasSmallCount changes (Over others) = others ≤ changes

  -- A party's latest call counts no more steps than the machine has had turns,
  -- and no more changes than its words have had.
  pub record HasSmallCounts (turns changes : ℕ) (x : Party T) : Type 0 where
    pub steps : x.steps ≤ turns
    pub backs : x.backs ≤ turns
    pub doing : HasSmallCount changes x.doing

  -- a machine whose counts do not wrap at 2^64 in its next turn
  pub record IsSmall (w : World T) : Type 0 where
    pub turns : w.turns ≤ 2 ^ 64 - 2
    pub changes : w.changes ≤ w.turns
    pub latest : (p : ℕ) (x : Party T) → party_of p w.latest ≡ Some x
        → HasSmallCounts w.turns w.changes x
