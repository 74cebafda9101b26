-- Two lists that are merged, as those that a producer and a consumer take out of an overflowing queue, and lists that are not.
use Rattle.std.proofs.Common.{inl, inr, ⊎_elim, ℕ, [], ◌∷◌, refl}
use Rattle.lock_free_queues.specs.Queues.Merges.{Merges, StandIn}

-- 1 and 3 were popped, 2 was handed back
in_turn : Merges {A = ℕ} (1 ∷ 3 ∷ []) (2 ∷ []) (1 ∷ 2 ∷ 3 ∷ [])
in_turn = inl (3 ∷ [], refl, inr ([], refl, inl ([], refl, (refl, refl))))

-- of equal numbers each stands once
equal_ones : Merges {A = ℕ} (1 ∷ []) (1 ∷ []) (1 ∷ 1 ∷ [])
equal_ones = inr ([], refl, inl ([], refl, (refl, refl)))

none : Merges {A = ℕ} [] [] []
none = (refl, refl)

-- one of the pushed is in neither, at the beginning, in the middle or at the end
first_dropped : Merges {A = ℕ} (2 ∷ []) (3 ∷ []) (1 ∷ 2 ∷ 3 ∷ []) → ⊥
first_dropped merges = ⊎_elim (λ x. cc (x.1)) (λ x. cc (x.1)) merges

one_dropped : Merges {A = ℕ} (1 ∷ []) (3 ∷ []) (1 ∷ 2 ∷ 3 ∷ []) → ⊥
one_dropped merges =
    ⊎_elim (λ x. let e = x.1 in ⊎_elim (λ y. let f = y.1 in cc) (λ y. let f = y.1 in cc) x.2) (λ x. let e = x.1 in cc) merges

last_dropped : Merges {A = ℕ} (1 ∷ []) [] (1 ∷ 2 ∷ []) → ⊥
last_dropped merges =
    ⊎_elim (λ x. let e = x.1 in ⊎_elim (λ y. let f = y.1 in cc) (λ y. let f = y.1 in cc) x.2) (λ x. let e = x.1 in cc) merges

-- one is in both that was pushed once
twice : Merges {A = ℕ} (1 ∷ []) (1 ∷ []) (1 ∷ []) → ⊥
twice merges = ⊎_elim (λ x. cc (x.2.1)) (λ x. cc (x.2.0)) merges

-- one was never pushed
invented : Merges {A = ℕ} (1 ∷ []) (4 ∷ []) (1 ∷ []) → ⊥
invented merges = ⊎_elim (λ x. cc (x.2.1)) (λ x. cc (x.1)) merges

-- two stand in the other order
out_of_order : Merges {A = ℕ} (2 ∷ 1 ∷ []) [] (1 ∷ 2 ∷ []) → ⊥
out_of_order merges = ⊎_elim (λ x. cc (x.1)) (λ x. cc (x.1)) merges

-- ---- lists that stand in another, in its order

stand : StandIn {A = ℕ} (1 ∷ 3 ∷ []) (1 ∷ 2 ∷ 3 ∷ [])
stand = inl (refl, inr (inl (refl, tt)))

not_in_order : StandIn {A = ℕ} (2 ∷ 1 ∷ []) (1 ∷ 2 ∷ []) → ⊥
not_in_order h =
    ⊎_elim (λ x. cc (x.0)) (λ h. ⊎_elim (λ x. x.1) (λ no. no) h) h

not_there : StandIn {A = ℕ} (4 ∷ []) (1 ∷ []) → ⊥
not_there h = ⊎_elim (λ x. cc (x.0)) (λ no. no) h
