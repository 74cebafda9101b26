-- Shares of the right to know, measured in equal parts of one whole.
use Rattle.std.specs.Prelude.{◌≡◌, ℕ, ◌*◌, ◌<◌, List, [], ◌∷◌}
use Rattle.threaded.specs.declared.share.Share.{Share}

-- the share is `k` of `parts` equal parts of the whole
abbrev pub IsPart : (k parts : ℕ) → Share → Type 0
IsPart k parts s = (0 < s.parts) × (s.part * parts ≡ s.parts * k)

-- each share of the second list has as many of the equal parts as the number at its place
-- in the first list says
abbrev pub AreParts : ℕ → List ℕ → List Share → Type 0
AreParts parts [] [] = Unit {0}
AreParts parts [] (t ∷ ts) = ⊥
AreParts parts (k ∷ ks) [] = ⊥
AreParts parts (k ∷ ks) (t ∷ ts) = IsPart k parts t × AreParts parts ks ts
