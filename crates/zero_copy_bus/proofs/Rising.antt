-- Examples of `Rises`, `AreAll` and `Delivers`, lists that they refuse, and laws: one list after another, and
-- what is delivered rises.
use Rattle.std.proofs.Common.{◌≡◌, lit<, lit≤, ℕ, ◌+◌, ◌<◌, ◌≤◌, List, [], ◌∷◌, ◌++◌, refl, sym, ap, subst, ◌∙◌, inl, inr, arith}
use Rattle.zero_copy_bus.specs.Sequences.{AreAll, Delivers, Rises}

-- numbers rise with gaps: 0, 1 and 4 are missed
row : Rises 0 (2 ∷ 3 ∷ 5 ∷ []) 6
row = (lit≤ tt, (lit≤ tt, (lit≤ tt, refl)))

-- numbers may rise without gaps, and there may be none
next_ones : Rises 4 (4 ∷ 5 ∷ []) 6
next_ones = (lit≤ tt, (lit≤ tt, refl))

none_yet : Rises 7 [] 7
none_yet = refl

-- `Rises` refuses a number twice, one that is lower than the one before, one below the first bound, and a
-- wrong number after the last
twice : Rises 0 (3 ∷ 3 ∷ []) 4 → ⊥
twice h = let again : 3 + 1 ≤ 3 = h.1.0 in absurd (omega arith)

goes_back : Rises 0 (5 ∷ 2 ∷ []) 3 → ⊥
goes_back h = let below : 5 + 1 ≤ 2 = h.1.0 in absurd (omega arith)

below_first : Rises 4 (3 ∷ []) 4 → ⊥
below_first h = let below : 4 ≤ 3 = h.0 in absurd (omega arith)

behind_last : Rises 0 (2 ∷ []) 9 → ⊥
behind_last h = let other : 9 ≡ 2 + 1 = h.1 in absurd (omega arith)

no_more_than_all : Rises 3 [] 4 → ⊥
no_more_than_all h = let other : 4 ≡ 3 = h in absurd (omega arith)

-- `AreAll` has all numbers from the first bound up to below the second
all_of_three : AreAll 2 5 (2 ∷ 3 ∷ 4 ∷ [])
all_of_three = (refl, (refl, (refl, refl)))

all_of_none : AreAll 7 7 []
all_of_none = refl

-- `AreAll` refuses a list in which one number is missing: inside, the first or the last
one_is_missing : AreAll 2 5 (2 ∷ 4 ∷ []) → ⊥
one_is_missing h = let other : 4 ≡ 2 + 1 = h.1.0 in absurd (omega arith)

first_is_missing : AreAll 2 5 (3 ∷ 4 ∷ []) → ⊥
first_is_missing h = let other : 3 ≡ 2 = h.0 in absurd (omega arith)

last_is_missing : AreAll 2 5 (2 ∷ 3 ∷ []) → ⊥
last_is_missing h = let other : 5 ≡ 3 + 1 = h.1.1 in absurd (omega arith)

-- of three numbers that came the second is older than the first, and not delivered
delivered : Delivers 2 (3 ∷ 2 ∷ 7 ∷ []) (3 ∷ 7 ∷ []) 8
delivered = inr (lit≤ tt, 7 ∷ [], refl, inl (lit< tt, inr (lit≤ tt, [], refl, (refl, refl))))

-- `Delivers` refuses to drop a number that is not below the one expected
delivers_all : Delivers 2 (3 ∷ []) [] 2 → ⊥
delivers_all (inl h) = let older : 3 < 2 = h.0 in absurd (omega arith)
delivers_all (inr h) = let none : [] ≡ 3 ∷ h.1 = h.2 in absurd (cc)

-- if the numbers that came rise, each is delivered
pub all_delivered : (from to next : ℕ) (came ds : List ℕ) → Delivers from came ds next → Rises from came to → ds ≡ came
all_delivered from to next [] ds h rise = h.0
all_delivered from to next (n ∷ ns) ds (inl h) rise = let older = h.0 in let le = rise.0 in absurd (omega arith)
all_delivered from to next (n ∷ ns) ds (inr h) rise = h.2 ∙ ap (λ xs. n ∷ xs) (all_delivered (n + 1) to next ns h.1 h.3 rise.1)

-- the numbers that were delivered rise
pub delivers_rise : (from next : ℕ) (came ds : List ℕ) → Delivers from came ds next → Rises from ds next
delivers_rise from next [] ds h = subst (λ l. Rises from l next) (sym h.0) h.1
delivers_rise from next (n ∷ ns) ds (inl h) = delivers_rise from next ns ds h.1
delivers_rise from next (n ∷ ns) ds (inr h) = subst (λ l. Rises from l next) (sym h.2) (h.0, delivers_rise (n + 1) next ns h.1 h.3)

-- numbers that rise up to b, and then from b on, rise together
pub rises_then : (a b c : ℕ) (xs ys : List ℕ) → Rises a xs b → Rises b ys c → Rises a (xs ++ ys) c
rises_then a b c [] ys none more = subst (λ n. Rises n ys c) none more
rises_then a b c (x ∷ xs) ys h more = (h.0, rises_then (x + 1) b c xs ys h.1 more)

-- all numbers up to b, and then all from b on, are all numbers together
pub all_then : (a b c : ℕ) (xs ys : List ℕ) → AreAll a b xs → AreAll b c ys → AreAll a c (xs ++ ys)
all_then a b c [] ys none more = subst (λ n. AreAll n c ys) none more
all_then a b c (x ∷ xs) ys h more = (h.0, all_then (x + 1) b c xs ys h.1 more)

-- if numbers rise from a up to b, a is at most b
pub rises_on : (a b : ℕ) (xs : List ℕ) → Rises a xs b → a ≤ b
rises_on a b [] none = omega arith
rises_on a b (x ∷ xs) h = let on = rises_on (x + 1) b xs h.1 in let le = h.0 in omega arith
