-- The parties' latest calls, by number.
use Rattle.model.proofs.Names.{AllByRecursion, List, None, Option, Party, Some, [], ap, arith, cases_eq, cond, false}
use Rattle.model.proofs.Names.{nat_tests, party_of, refl, subst, sym, true, ℕ, ⊎_elim, ◌<◌, ◌∙◌, ◌∷◌, ◌≡◌, ◌≢◌}
use Rattle.std.specs.BTreeMap.{insert_entry, is_at}
use Rattle.std.specs.List.Sorted.{IsStrictlySortedBy}
use Rattle.std.specs.Map.{keys_of, lookup, remove_entry, set_value}
use Rattle.std.proofs.lemmas.Map.Keys.{sorted_head, sorted_tail}
use Rattle.std.specs.declared.cmp.Ordering.{Ordering}
use Rattle.std.specs.declared.cmp.Ordering.TheVariants.{Less, Equal, Greater}
use Rattle.model.specs.Parties.{put}
use Rattle.std.specs.Ordering.{is_eq, match_ordering, nat_cmp}

-- Numbers that compare as equal are equal.
equal_keys : (p q : ℕ) → nat_cmp p q ≡ Equal → p ≡ q
equal_keys = grind (arith, nat_tests)

-- Two different numbers do not compare as equal.
pub apart : (p q : ℕ) → p ≢ q → is_eq (nat_cmp p q) ≡ false
apart = grind (arith, nat_tests)

pub itself : (p : ℕ) → is_eq (nat_cmp p p) ≡ true
itself = grind (arith, false, nat_tests)

-- A number that compares as less is less.
less_is : (p q : ℕ) → nat_cmp p q ≡ Less → p < q
less_is = grind (arith, nat_tests)

module _ {X : Type 0} where
  -- The lookup of p among the entries.
  abbrev find : ℕ → List (ℕ × X) → Option X
  find p es = lookup (is_at (nat_cmp p)) es

  -- After an entry is put for p, the lookup of p finds it.
  pub found_put_same : (p : ℕ) (x : X) (es : List (ℕ × X)) → find p (insert_entry nat_cmp es p x) ≡ Some x
  found_put_same p x [] = rw (itself p) refl
  found_put_same p x (e ∷ es) = by (nat_cmp p e.0) refl (found_put_same p x es)
    where
      -- The cases are how p compares with the first key.
      by : (r : Ordering) → nat_cmp p e.0 ≡ r → find p (insert_entry nat_cmp es p x) ≡ Some x
          → find p (match_ordering r ((p, x) ∷ e ∷ es) ((e.0, x) ∷ es) (e ∷ insert_entry nat_cmp es p x)) ≡ Some x
      by Less compared more = rw (itself p) refl
      by Equal compared more = rw compared refl
      by Greater compared more = rw compared more

  -- After an entry is put for p, the lookup of another key finds what it found before.
  pub found_put_other : (q p : ℕ) (x : X) (es : List (ℕ × X)) → q ≢ p → find q (insert_entry nat_cmp es p x) ≡ find q es
  found_put_other q p x [] ne = rw (apart q p ne) refl
  found_put_other q p x (e ∷ es) ne = by (nat_cmp p e.0) refl (found_put_other q p x es ne)
    where
      -- the comparison with the first key says where the entry of p goes: the lookup of q answers as before in each case
      by : (r : Ordering) → nat_cmp p e.0 ≡ r → find q (insert_entry nat_cmp es p x) ≡ find q es
          → find q (match_ordering r ((p, x) ∷ e ∷ es) ((e.0, x) ∷ es) (e ∷ insert_entry nat_cmp es p x)) ≡ find q (e ∷ es)
      by Less compared more = rw (apart q p ne) refl
      by Equal compared more =
          let same = equal_keys p e.0 compared in
          let other : q ≢ e.0 = λ h. ne (h ∙ sym same) in
          rw (apart q e.0 other) refl
      by Greater compared more = ap (cond (is_eq (nat_cmp q e.0)) (Some e.1)) more

  -- ---- a party written in its place

  -- a number below all keys of a list has no entry in it
  none_below : (p k : ℕ) (es : List (ℕ × X)) → p < k → AllByRecursion (λ q. nat_cmp k q ≡ Less) (keys_of es) → find p es ≡ None
  none_below p k [] below all = refl
  none_below p k (e ∷ es) below all =
      let more = less_is k e.0 all.0 in
      let other : p ≢ e.0 = λ h. absurd (omega arith) in
      rw (apart p e.0 other) (none_below p k es below all.1)

  -- Where p has an entry already, setting its value is putting an entry for p.
  pub set_is_put : (p : ℕ) (x y : X) (es : List (ℕ × X)) → IsStrictlySortedBy nat_cmp (keys_of es) → find p es ≡ Some y
      → set_value (is_at (nat_cmp p)) es x ≡ insert_entry nat_cmp es p x
  set_is_put p x y [] sorted found = absurd (cc)
  set_is_put p x y (e ∷ es) sorted found = by (nat_cmp p e.0) refl (set_is_put p x y es (sorted_tail nat_cmp e.0 (keys_of es) sorted))
    where
      -- the comparison with the first key says where p stands: to set the value there is to insert it
      by : (r : Ordering) → nat_cmp p e.0 ≡ r → (find p es ≡ Some y → set_value (is_at (nat_cmp p)) es x ≡ insert_entry nat_cmp es p x)
          → set_value (is_at (nat_cmp p)) (e ∷ es) x ≡ match_ordering r ((p, x) ∷ e ∷ es) ((e.0, x) ∷ es) (e ∷ insert_entry nat_cmp es p x)
      by Less compared more =
          let behind : find p es ≡ Some y = rw compared at found in
          let none = none_below p e.0 es (less_is p e.0 compared) (sorted_head nat_cmp e.0 (keys_of es) sorted) in
          absurd (cc)
      by Equal compared more = rw compared refl
      by Greater compared more =
          let behind : find p es ≡ Some y = rw compared at found in
          rw compared (ap (λ xs. e ∷ xs) (more behind))

  -- one that was not there is taken out again
  pub put_removed : (p : ℕ) (x : X) (es : List (ℕ × X)) → find p es ≡ None → remove_entry (is_at (nat_cmp p)) (insert_entry nat_cmp es p x) ≡ es
  put_removed p x [] absent = rw (itself p) refl
  put_removed p x (e ∷ es) absent = by (nat_cmp p e.0) refl (put_removed p x es)
    where
      -- the comparison with the first key says where the entry of p goes: once taken out again, the list is as it was
      by : (r : Ordering) → nat_cmp p e.0 ≡ r → (find p es ≡ None → remove_entry (is_at (nat_cmp p)) (insert_entry nat_cmp es p x) ≡ es)
          → remove_entry (is_at (nat_cmp p)) (match_ordering r ((p, x) ∷ e ∷ es) ((e.0, x) ∷ es) (e ∷ insert_entry nat_cmp es p x)) ≡ e ∷ es
      by Less compared more = rw (itself p) refl
      by Equal compared more =
          let found : Some e.1 ≡ None = rw compared at absent in
          absurd (cc)
      by Greater compared more =
          let behind : find p es ≡ None = rw compared at absent in
          rw compared (ap (λ xs. e ∷ xs) (more behind))

-- What holds of one number and of each other one holds of all.
pub each_by : (P : ℕ → Type 0) (p : ℕ) → P p → ((q : ℕ) → q ≢ p → P q) → (q : ℕ) → P q
each_by P p here others q = ⊎_elim (λ same. subst P (sym same) here) (λ ne. others q ne) (cases_eq q p)

module _ {T : Type 0} where
  pub party_put_same : (p : ℕ) (x : Party T) (latest : List (ℕ × Party T)) → party_of p (put p x latest) ≡ Some x
  party_put_same p x latest = found_put_same p x latest

  pub party_put_other : (q p : ℕ) (x : Party T) (latest : List (ℕ × Party T)) → q ≢ p → party_of q (put p x latest) ≡ party_of q latest
  party_put_other q p x latest ne = found_put_other q p x latest ne

  -- What holds of a party once its call is put, and of each other party by its latest call, holds of all parties then.
  pub put_each : (P : ℕ → Option (Party T) → Type 0) (p : ℕ) (y : Party T) (latest : List (ℕ × Party T)) → P p (Some y)
      → ((q : ℕ) → q ≢ p → P q (party_of q latest)) → (q : ℕ) → P q (party_of q (put p y latest))
  put_each P p y latest here others =
      each_by (λ q. P q (party_of q (put p y latest))) p (subst (P p) (sym (party_put_same p y latest)) here)
      (λ q ne. subst (P q) (sym (party_put_other q p y latest ne)) (others q ne))

  -- What holds of the call that is put, and of the latest calls of other parties, holds of all latest calls then.
  pub found_each : (P : ℕ → Party T → Type 0) (p : ℕ) (y : Party T) (latest : List (ℕ × Party T)) → P p y
      → ((q : ℕ) (x : Party T) → q ≢ p → party_of q latest ≡ Some x → P q x)
      → (q : ℕ) (x : Party T) → party_of q (put p y latest) ≡ Some x → P q x
  found_each P p y latest here others =
      put_each (λ q o. (x : Party T) → o ≡ Some x → P q x) p y latest (λ x both. (let same : y ≡ x = cc in subst (P p) same here))
      (λ q ne x. others q x ne)
