-- Shares of the right to know all that has happened to a structure.
use Rattle.std.specs.Prelude.{◌≡◌, ℕ, zero, suc, ◌+◌, ◌*◌, ◌<◌, List, [], ◌∷◌, length}
use mathlib.Core.Option.{some}
use lib.ListN.{get_elem?}
use Rattle.threaded.specs.declared.share.Share.{Share}

-- the whole share
abbrev pub all_shares : Share
all_shares = record { part = 1; parts = 1 }

-- no share
abbrev pub no_share : Share
no_share = record { part = 0; parts = 1 }

-- half of a share
abbrev pub half_of : Share → Share
half_of s = record { part = s.part; parts = s.parts + s.parts }

-- the sum of two fractions
abbrev pub both_of : Share → Share → Share
both_of s t =
    record { part = s.part * t.parts + t.part * s.parts; parts = s.parts * t.parts }

-- it is the whole share
abbrev pub IsAll : Share → Type 0
IsAll s = s.part ≡ s.parts

-- what is left of a share after n splits of it
abbrev pub rest : ℕ → Share → Share
rest zero s = s
rest (suc n) s = half_of (rest n s)

-- what was split off a share in n splits, the last first
abbrev pub pieces : ℕ → Share → List Share
pieces zero s = []
pieces (suc n) s = rest (suc n) s ∷ pieces n s

-- the share to which the shares of the list were joined, one after the other
abbrev pub added : Share → List Share → Share
added s [] = s
added s (t ∷ ts) = added (both_of s t) ts

-- the first n of the numbers, added up
abbrev pub tally : (ℕ → ℕ) → ℕ → ℕ
tally k zero = 0
tally k (suc n) = tally k n + k n

-- The shares of all seats, those of dropped passes too, make the whole.
pub record Shares {V : Type 0} (share : V → Share) (views : List V) : Type 0 where
  -- into how many equal parts the whole is cut
  pub whole : ℕ
  -- how many of them each share is
  pub each : ℕ → ℕ
  pub any : 0 < whole
  -- together they are all
  pub sum : tally each (length views) ≡ whole
  -- each share, a fraction, is the same as its number of parts over the whole
  pub fits : (j : ℕ) (v : V) → get_elem? views j ≡ some v
      → (0 < (share v).parts) × ((share v).part * whole ≡ (share v).parts * each j)
