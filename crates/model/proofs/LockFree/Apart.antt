-- Lists in which each party stands once, as a list from which the doubles are left out.
use Rattle.model.proofs.Names.{List, [], arith, cases_eq, inl, inr, suc, sym, subst, zero, ℕ, World, ⊎_elim, ◌<◌, ◌∷◌, ◌≢◌, ◌≤◌, ◌⊎◌}
use Rattle.model.proofs.Names.{AllByRecursion, Turn, Begin, Next, Decide, Die}
use Rattle.model.specs.LockFree.{IsAmong, IsOneIn, parties_below}
use Rattle.model.specs.Loads.{pending}

-- no party stands in the list twice
abbrev pub AreApart : List ℕ → Type 0
AreApart [] = Unit {0}
AreApart (p ∷ ps) = (IsOneIn ps p → ⊥) × AreApart ps

-- a party is one of the list, or it is not
is_in : (ps : List ℕ) (p : ℕ) → IsOneIn ps p ⊎ (IsOneIn ps p → ⊥)
is_in [] p = inr (λ one. one)
is_in (q ∷ ps) p =
    ⊎_elim (λ same. inl (inl same))
    (λ ne. ⊎_elim (λ one. inl (inr one)) (λ none. inr (λ one. ⊎_elim (λ same. ne same) (λ later. none later) one)) (is_in ps p)) (cases_eq p q)

-- the parties of a list, each once
pub record Once (T : Type 0) (ps : List ℕ) : Type 0 where
  pub once : List ℕ
  pub apart : AreApart once
  pub all : (p : ℕ) → IsOneIn ps p → IsOneIn once p
  pub fewer : (w : World T) → pending once w ≤ pending ps w

-- the list with one party more
one_more : (T : Type 0) (p : ℕ) (ps : List ℕ) → Once T ps → Once T (p ∷ ps)
one_more T p ps rest = ⊎_elim there anew (is_in rest.once p)
  where
    there : IsOneIn rest.once p → Once T (p ∷ ps)
    there one =
        record {
          once = rest.once;
          apart = rest.apart;
          all = λ q among. ⊎_elim (λ same. subst (IsOneIn rest.once) (sym same) one) (λ later. rest.all q later) among;
          fewer = λ w. omega (arith, rest.fewer w);
        }

    anew : (IsOneIn rest.once p → ⊥) → Once T (p ∷ ps)
    anew none =
        record {
          once = p ∷ rest.once;
          apart = (none, rest.apart);
          all = λ q among. ⊎_elim (λ same. inl same) (λ later. inr (rest.all q later)) among;
          fewer = λ w. omega (arith, rest.fewer w);
        }

pub once_each : (T : Type 0) (ps : List ℕ) → Once T ps
once_each T [] = record { once = []; apart = tt; all = λ p one. one; fewer = λ w. omega arith }
once_each T (p ∷ ps) = one_more T p ps (once_each T ps)

-- ---- the parties below a number

-- a party below n is one of them
pub below_in : (n p : ℕ) → p < n → IsOneIn (parties_below n) p
below_in zero p less = absurd (omega arith)
below_in (suc n) p less = ⊎_elim (λ same. inl same) (λ ne. later ne (below_in n p)) (cases_eq p n)
  where
    later : p ≢ n → (p < n → IsOneIn (parties_below n) p) → IsOneIn (parties_below (suc n)) p
    later ne more = let less_one : p < n = omega (arith, ne) in inr (more less_one)

module _ {T : Type 0} where
  -- a turn of one of these parties is of one of those, if each of these is one of those
  pub among_more : (ps qs : List ℕ) → ((p : ℕ) → IsOneIn ps p → IsOneIn qs p) → (turn : Turn T) → IsAmong ps turn → IsAmong qs turn
  among_more ps qs more (Begin p start) one = more p one
  among_more ps qs more (Next p) one = more p one
  among_more ps qs more (Decide p said) one = more p one
  among_more ps qs more (Die owner) one = tt

  pub all_among_more : (ps qs : List ℕ) → ((p : ℕ) → IsOneIn ps p → IsOneIn qs p) → (turns : List (Turn T)) → AllByRecursion (IsAmong ps) turns
      → AllByRecursion (IsAmong qs) turns
  all_among_more ps qs more [] all = tt
  all_among_more ps qs more (turn ∷ turns) all = (among_more ps qs more turn all.0, all_among_more ps qs more turns all.1)
