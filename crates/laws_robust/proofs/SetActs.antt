-- What a call has done to the set, once it does one thing `d` more.
use Rattle.std.proofs.Common.{arith}
use Rattle.laws_robust.proofs.Names.{◌≡◌, ℕ, ◌<◌, List, [], ◌∷◌, ◌++◌, append-nil, AllByRecursion, flat_map-append}
use Rattle.laws_robust.proofs.Names.{SetAct, Frees, Asks, index_asked, asked_in, IsOneOf, ⊎_elim}
use Rattle.lemmas_owners.proofs.Lists.{all_both, still_one}
pub use Rattle.lemmas_owners.proofs.Lists.{was_one}

-- with one more act each index asked about is below `n`, if its own is
pub asks_more : (n : ℕ) (d : SetAct) (all : List SetAct) → AllByRecursion (λ i. i < n) (asked_in all)
    → AllByRecursion (λ i. i < n) (index_asked d) → AllByRecursion (λ i. i < n) (asked_in (all ++ d ∷ []))
asks_more = grind (arith, flat_map-append, append-nil, all_both)

-- each index that was freed was asked about before
abbrev pub FreedWereAsked : List SetAct → Type 0
FreedWereAsked all = (i owner : ℕ) → IsOneOf (Frees i owner) all → IsOneOf (Asks i owner) all

-- with one more act each freed index was asked about, if the index of this act was
pub freed_more : (d : SetAct) (all : List SetAct) → FreedWereAsked all
    → ((i owner : ℕ) → d ≡ Frees i owner → IsOneOf (Asks i owner) all) → FreedWereAsked (all ++ d ∷ [])
freed_more d all were_asked asks i owner freed =
    still_one (Asks i owner) all (d ∷ [])
    (⊎_elim (λ earlier. were_asked i owner earlier) (λ is. asks i owner is) (was_one (Frees i owner) d all freed))
