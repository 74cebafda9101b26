-- The unique index set as it opens: nobody holds an index, and no flag stands.
use Rattle.std.proofs.Common.{◌≡◌, ℕ, zero, suc, ◌+◌, ◌/◌, ◌<◌, ◌≤◌, inl, None, is_some, ◌++◌, length}
use Rattle.std.proofs.Common.{replicate, get_or, refl, ap, ◌∙◌, arith, length-append, get_or-append-add}
use Rattle.std.proofs.lemmas.List.{length-replicate}
use Rattle.std.proofs.lemmas.List.FromFn.{length-range_with_len}
use Rattle.std.specs.List.{range_with_len}
use Rattle.laws_indices.proofs.Names.{flag_word, has_flag, locked}
use Rattle.steps.proofs.Flags.Words.{none_stands}
use Rattle.model.specs.declared.turn.Kind.TheVariants as kinds
use Rattle.model.specs.Families.Indices.Opening.{opening_words, flag_words}
use Rattle.model.specs.World.{capacity_error}
use Rattle.laws_indices.proofs.Core.{size, holder, one_held, held_below, Good}
use Rattle.laws_indices.proofs.Sums.{sum_none}

-- a list of zeros has 0 at each place
zeros : (n i : ℕ) → get_or (replicate {A = ℕ} n 0) i 0 ≡ 0
zeros zero i = refl
zeros (suc n) zero = refl
zeros (suc n) (suc i) = zeros n i

-- in the opening state no index has a holder
pub nobody_holds : (n i : ℕ) → holder (replicate n None) i ≡ None
nobody_holds zero i = refl
nobody_holds (suc n) zero = refl
nobody_holds (suc n) (suc i) = nobody_holds n i

-- the set opens with as many words as its capacity asks for
opening_long : (c : ℕ) → length (opening_words c) ≡ size c
opening_long = grind (arith, length-append, length-range_with_len, length-replicate)

-- the words of flags open as 0
opening_flag : (c i : ℕ) → get_or (opening_words c) (flag_word c i) 0 ≡ 0
opening_flag c i =
    let place : flag_word c i ≡ suc (c + i / 64) = omega arith in
    let first = length-range_with_len 1 c in
    let behind : c + i / 64 ≡ length (range_with_len 1 c) + i / 64 = omega arith in
    ap (λ n. get_or (opening_words c) n 0) place
    ∙ (ap (λ n. get_or (range_with_len 1 c ++ replicate (flag_words c) 0) n 0) behind
    ∙ (get_or-append-add (range_with_len 1 c) (replicate (flag_words c) 0) (i / 64) 0 ∙ zeros (flag_words c) (i / 64)))

-- in the opening state no index is held
pub none_held : (c : ℕ) → held_below (replicate c None) c ≡ 0
none_held c = sum_none (λ i. one_held (holder (replicate c None) i)) c (λ i below. ap one_held (nobody_holds c i))

-- the opening words are right, with no holder and no busy call
pub opening_good : (c : ℕ) → 1 ≤ c → c < locked → Good c (opening_words c) (replicate c None) 0
opening_good = grind (arith, none_held, opening_long, length-replicate, has_flag, opening_flag, none_stands, is_some, nobody_holds, inl)

-- an admitted capacity is from 1 to below that of a locked head
pub admitted_is : (c : ℕ) → capacity_error kinds.Indices c ≡ None → (1 ≤ c) × (c < locked)
admitted_is = grind arith
