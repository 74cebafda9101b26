-- The table of holders and the pass of the set of free slots agree (`IsBookOf`): acquires and counts of slots, and
-- a holder who takes a slot, keep that. Then what one change of the table leaves as it was (`ChangesAt` and the
-- predicates of `specs/Books.antt`).
use Rattle.std.proofs.Common.{◌≡◌, ◌≢◌, inl, inr, lit<, Result, Ok, Err, IfErr, ℕ, zero, suc, ◌+◌, ◌<◌, ◌==◌, Bool, true, false, nat_lt}
use Rattle.std.proofs.Common.{true≢false, if◌then◌else◌, ◌⊎◌, List, [], ◌∷◌, ◌++◌, length, length-append, set, replicate, ◌≤◌}
use Rattle.std.proofs.Common.{get_or-set_same, get_or-set_other, subst, sym, refl, ap, ◌∙◌, ⊎_elim, arith}
use Rattle.std.proofs.lemmas.Bool.{cases_eq}
use Rattle.std.proofs.lemmas.Bool.Decides.{nat_tests}
use Rattle.std.proofs.lemmas.List.Sums.{sum_by-cons}
use Rattle.std.proofs.lemmas.Nat.Bits.{bit_at-zero}
use Rattle.std.specs.Int.{bit_at}
use Rattle.threaded.specs.Shares.{IsAll}
use Rattle.history.specs.declared.view.View.{View}
use Rattle.history.specs.Held.{Holds}
use Rattle.lock_free_sets.specs.Unique.Held.{one_if, times, HeldBy, HoldsAll, HoldsNothing, IsSound}
use Rattle.lock_free_sets.specs.Unique.Contracts.{HasAcquired, HasCounted, WasRefused}
use Rattle.lock_free_sets.proofs.Unique.Holding.{counted_moves, refused_moves, taken_moves, times_both, times_one}
use Rattle.lock_free_sets.proofs.Unique.Tables.{as_number, none_if}
use Rattle.steps.specs.declared.indices.enums.UniqueIndexSetAcquireFailure.{UniqueIndexSetAcquireFailure}
use Rattle.zero_copy_bus.specs.declared.holders.Holder.{Holder}
use Rattle.zero_copy_bus.specs.declared.holders.Holders.{Holders}
use Rattle.zero_copy_bus.specs.Books.{holders_at, AllFree, ChangesAt, GainsNone, GainsOnly, HasNone, HasSlot, held_number}
use Rattle.zero_copy_bus.specs.Books.{HoldsEach, IsBookOf, KeepsAllOrNone, KeepsBook, KeepsLoans, KeepsOthers}
use Rattle.zero_copy_bus.specs.Holders.{is_held, nobody, Has, SameBut}

-- ---- places of a table

-- a word of holders in which nobody is among them is 0
pub free_is : (h : Holders) → is_held h ≡ false → h ≡ nobody
free_is h free = ap (λ n. record { bits = n }) (none h.bits free)
  where
    none : (n : ℕ) → nat_lt 0 n ≡ false → n ≡ 0
    none zero not = refl
    none (suc n) not = absurd (let it : nat_lt 0 (suc n) ≡ true = grind (arith, nat_tests) in true≢false (sym it ∙ not))

-- a slot that some holder has is held
pub is_somebody : (h : Holders) (holder : Holder) → Has h holder → is_held h ≡ true
is_somebody h holder has = some h.bits has
  where
    some : (n : ℕ) → bit_at n holder.bit ≡ 1 → nat_lt 0 n ≡ true
    some zero one = absurd (let none = bit_at-zero holder.bit in omega arith)
    some (suc n) one = grind (arith, nat_tests)

-- if no slot within the table is held, no slot is
pub all_free : (table : List Holders) → ((slot : ℕ) → slot < length table → is_held (holders_at table slot) ≡ false) → AllFree table
all_free [] free slot = refl
all_free (h ∷ table) free zero = free zero (omega arith)
all_free (h ∷ table) free (suc slot) = all_free table (λ i lt. free (suc i) (omega arith)) slot

-- a pass holds nothing if nobody holds a slot by the table and none is kept
pub holds_nothing : (v : View ℕ) (table : List Holders) → AllFree table → IsBookOf v [] table → HoldsNothing v.made
holds_nothing v table free book i =
    let none : as_number (is_held (holders_at table i)) ≡ 0 = ap as_number (free i) in
    let was = book.held i in
    omega arith

-- in a table of free slots each slot is free
pub free_at : (n slot : ℕ) → holders_at (replicate n nobody) slot ≡ nobody
free_at zero slot = refl
free_at (suc n) zero = refl
free_at (suc n) (suc slot) = free_at n slot

-- ---- how many are held

-- the slots that somebody holds, by their numbers, of which this is the first
abbrev pub held_from : ℕ → List Holders → List ℕ
held_from n [] = []
held_from n (h ∷ table) = if is_held h then n ∷ held_from (suc n) table else held_from (suc n) table

module _ (n : ℕ) (h : Holders) (table : List Holders) where
  -- the list of held slots is one longer if the first slot is held
  one_more : length (held_from n (h ∷ table)) ≡ as_number (is_held h) + length (held_from (suc n) table)
  one_more = go (is_held h) refl
    where
      -- the cases are whether somebody holds the first slot
      go : (b : Bool) → is_held h ≡ b → length (held_from n (h ∷ table)) ≡ as_number (is_held h) + length (held_from (suc n) table)
      go true e = rw e (omega arith)
      go false e = rw e (omega arith)

  -- the list of held slots has the number of the first slot once if it is held
  times_more : (i : ℕ) → times i (held_from n (h ∷ table)) ≡ (if n == i then as_number (is_held h) else 0) + times i (held_from (suc n) table)
  times_more i = go (is_held h) refl
    where
      go : (b : Bool) → is_held h ≡ b
          → times i (held_from n (h ∷ table)) ≡ (if n == i then as_number (is_held h) else 0) + times i (held_from (suc n) table)
      go true e = rw e (sum_by-cons (λ x. one_if x i) n (held_from (suc n) table))
      go false e = let none = none_if (n == i) in rw e (omega arith)

-- the list of held slots is as long as the number of held slots
pub as_many : (n : ℕ) (table : List Holders) → length (held_from n table) ≡ held_number table
as_many n [] = refl
as_many n (h ∷ table) =
    let more = one_more n h table in
    let rest = as_many (suc n) table in
    omega arith ∙ sym (sum_by-cons (λ x. as_number (is_held x)) h table)

-- the list of held slots has no number below the first one
none_below : (i n : ℕ) (table : List Holders) → i < n → times i (held_from n table) ≡ 0
none_below i n [] lt = refl
none_below i n (h ∷ table) lt =
    let more = times_more n h table i in
    let other : (n == i) ≡ false = grind (arith, nat_tests) in
    let here = ap (λ b. if b then as_number (is_held h) else 0) other in
    let rest = none_below i (suc n) table (omega arith) in
    omega arith

-- the list of held slots has each number once if its slot is held, and else not
pub once_where_held : (i n : ℕ) (table : List Holders) → times (n + i) (held_from n table) ≡ as_number (is_held (holders_at table i))
once_where_held i n [] = refl
once_where_held zero n (h ∷ table) =
    let more = times_more n h table (n + 0) in
    let same : (n == (n + 0)) ≡ true = grind (arith, nat_tests) in
    let here = ap (λ b. if b then as_number (is_held h) else 0) same in
    let rest = none_below (n + 0) (suc n) table (omega arith) in
    omega arith
once_where_held (suc i) n (h ∷ table) =
    let more = times_more n h table (suc n + i) in
    let other : (n == (suc n + i)) ≡ false = grind (arith, nat_tests) in
    let here = ap (λ b. if b then as_number (is_held h) else 0) other in
    let rest = once_where_held i (suc n) table in
    let once : times (suc n + i) (held_from n (h ∷ table)) ≡ as_number (is_held (holders_at table i)) = omega arith in
    subst (λ k. times k (held_from n (h ∷ table)) ≡ as_number (is_held (holders_at table i))) (omega arith) once

-- ---- the book

-- how often a number is in a list of kept slots that is one longer
times_then : (i j : ℕ) (kept : List ℕ) → times j (kept ++ i ∷ []) ≡ times j kept + one_if i j
times_then i j kept =
    let both = times_both j kept (i ∷ []) in
    let one = times_one i j in
    omega arith

one_is : (i : ℕ) → one_if i i ≡ 1
one_is i = let same : (i == i) ≡ true = grind (arith, nat_tests) in rw same refl

-- When slot i of a table becomes h, any other slot j is held or not as before, and i is held or not as h
-- says: both cases in one equation of numbers.
held_then : (table : List Holders) (i j : ℕ) (h : Holders) → i < length table
    → as_number (is_held (holders_at (set table i h) j)) + (if i == j then as_number (is_held (holders_at table i)) else 0)
    ≡ as_number (is_held (holders_at table j)) + (if i == j then as_number (is_held h) else 0)
held_then table i j h lt = ⊎_elim here there (cases_eq j i)
  where
    -- the changed slot itself
    here : j ≡ i → as_number (is_held (holders_at (set table i h) j)) + (if i == j then as_number (is_held (holders_at table i)) else 0)
        ≡ as_number (is_held (holders_at table j)) + (if i == j then as_number (is_held h) else 0)
    here e =
        let same : (i == i) ≡ true = grind (arith, nat_tests) in
        let now : as_number (is_held (holders_at (set table i h) i)) ≡ as_number (is_held h) =
        ap (λ z. as_number (is_held z)) (get_or-set_same table i h nobody lt) in
        subst (λ n. as_number (is_held (holders_at (set table i h) n)) + (if i == n then as_number (is_held (holders_at table i)) else 0)
        ≡ as_number (is_held (holders_at table n)) + (if i == n then as_number (is_held h) else 0)) (sym e) (rw same (omega arith))

    -- any other slot
    there : j ≢ i → as_number (is_held (holders_at (set table i h) j)) + (if i == j then as_number (is_held (holders_at table i)) else 0)
        ≡ as_number (is_held (holders_at table j)) + (if i == j then as_number (is_held h) else 0)
    there ne =
        let other : (i == j) ≡ false = grind (arith, nat_tests) in
        let now : as_number (is_held (holders_at (set table i h) j)) ≡ as_number (is_held (holders_at table j)) =
        ap (λ z. as_number (is_held z)) (get_or-set_other table i j h nobody ne) in
        rw other (omega arith)

-- a fact holds in the case of any error
pub on_error : (answer : Result ℕ UniqueIndexSetAcquireFailure) (P : Type 0) → P → IfErr answer (λ _. P)
on_error (Ok slot) P so = tt
on_error (Err e) P so = so

-- the book stays the same if the list of kept slots does
pub book_stays : (v : View ℕ) (before after : List ℕ) → before ≡ after → KeepsBook v before v after
book_stays v before after same table book = subst (λ k. IsBookOf v k table) same book

module _ (v w : View ℕ) (kept : List ℕ) (i : ℕ) where
  -- an acquired index is out of the set and held by nobody: it joins the kept slots
  pub is_acquired : HasAcquired i v w → KeepsBook v kept w (kept ++ i ∷ [])
  is_acquired taken table book =
      record {
        held =
            λ j. (let m = taken_moves v w j i taken.taken in
            let a = m.claimed in
            let b = m.freed in
            let more = times_then i j kept in
            let was = book.held j in
            omega arith);
      }

  -- the pass holds the slot that was kept last
  pub last_held : IsSound v → HoldsEach (kept ++ i ∷ []) v.made → Holds i v.made
  last_held sound holds =
      let once = sound.once i in
      let more = times_then i i kept in
      let one = one_is i in
      let was = holds i in
      omega arith

-- a refused acquire leaves the book as it was
pub is_refused : (v w : View ℕ) (kept : List ℕ) (e : UniqueIndexSetAcquireFailure) → WasRefused e v w → KeepsBook v kept w kept
is_refused v w kept e refused table book =
    record {
      held =
          λ j. (let m = refused_moves v w j e refused.taken in
          let a = m.claimed in
          let b = m.freed in
          let was = book.held j in
          omega arith);
    }

module _ {v : View ℕ} {kept : List ℕ} {table : List Holders} (book : IsBookOf v kept table) where
  -- a count of the borrowed indices leaves the book as it was
  pub is_counted : (n : ℕ) (w : View ℕ) → HasCounted n v w → IsBookOf w kept table
  is_counted n w counted =
      record {
        held = λ j. (let m = counted_moves v w j n counted in let a = m.claimed in let b = m.freed in let was = book.held j in omega arith);
      }

  -- the pass holds each slot that somebody holds by the table
  pub holds_held : (i : ℕ) → IsSound v → is_held (holders_at table i) ≡ true → Holds i v.made
  holds_held i sound held =
      let once = sound.once i in
      let one : as_number (is_held (holders_at table i)) ≡ 1 = ap as_number held in
      let was = book.held i in
      omega arith

  -- the pass holds the slots that somebody holds by the table and the kept ones
  pub holds_all : HeldBy (held_from 0 table ++ kept) v.made
  holds_all i =
      let was = book.held i in
      let both = times_both i (held_from 0 table) kept in
      let once : times i (held_from 0 table) ≡ as_number (is_held (holders_at table i)) =
      subst (λ k. times k (held_from 0 table) ≡ as_number (is_held (holders_at table i))) (omega arith) (once_where_held i 0 table) in
      omega arith

  -- these slots are at most as many as are out of the set
  pub most_are_held : (n : ℕ) → ((is : List ℕ) → HeldBy is v.made → length is ≤ n) → held_number table + length kept ≤ n
  most_are_held n least =
      let all = least (held_from 0 table ++ kept) holds_all in
      let both = length-append (held_from 0 table) kept in
      let many = as_many 0 table in
      omega arith

  -- with the whole share they are exactly as many as are out of the set
  pub all_are_held : (n : ℕ) → HoldsAll n v → IsAll v.share → held_number table + length kept ≡ n
  all_are_held n holds all =
      let just = holds all (held_from 0 table ++ kept) holds_all in
      let both = length-append (held_from 0 table) kept in
      let many = as_many 0 table in
      omega arith

-- a take of the slot that was kept last, i
module _ (v : View ℕ) (kept : List ℕ) (table : List Holders) (i : ℕ) (sound : IsSound v) (book : IsBookOf v (kept ++ i ∷ []) table) where
  -- nobody holds the slot by the table
  pub was_free : is_held (holders_at table i) ≡ false
  was_free =
      let once = sound.once i in
      let more = times_then i i kept in
      let one = one_is i in
      let was = book.held i in
      go (is_held (holders_at table i)) (omega arith)
    where
      go : (b : Bool) → as_number b ≡ 0 → b ≡ false
      go false e = refl
      go true e = absurd (omega arith)

  -- the book stays right if a holder takes the slot, which is then kept no more
  pub is_taken : (h : Holders) → i < length table → is_held h ≡ true → IsBookOf v kept (set table i h)
  is_taken h lt held =
      record {
        held =
            λ j. (let was_then = held_then table i j h lt in
            let x : (if i == j then as_number (is_held h) else 0) ≡ one_if i j = ap (λ b. if i == j then as_number b else 0) held in
            let y : (if i == j then as_number (is_held (holders_at table i)) else 0) ≡ (if i == j then zero else zero) =
            ap (λ b. if i == j then as_number b else 0) was_free in
            let z : (if i == j then zero else zero) ≡ 0 = none_if (i == j) in
            let more = times_then i j kept in
            let was = book.held j in
            omega arith);
      }

-- a pass that holds nothing agrees with a table in which nobody holds a slot, if none is kept
pub book_opens : (v : View ℕ) (n : ℕ) → HoldsNothing v.made → IsBookOf v [] (replicate n nobody)
book_opens v n none =
    record {
      held =
          λ i. (let was = none i in
          let free : is_held (holders_at (replicate n nobody) i) ≡ false = ap is_held (free_at n i) in
          let z = ap as_number free in
          omega arith);
    }

-- ---- changes

-- to set one slot of a table to other holders, that differ by one holder, is a change at
-- this slot for this holder
pub set_changes : (table : List Holders) (i : ℕ) (h : Holders) (holder : Holder) → i < length table
    → SameBut holder (holders_at table i) h → ChangesAt i holder table (set table i h)
set_changes table i h holder i_below same_but = grind (arith, get_or-set_other, nobody, holders_at, get_or-set_same)

-- what one holder changes at one slot leaves all that others hold
pub changes_keep : (slot : ℕ) (holder : Holder) (old new : List Holders) → ChangesAt slot holder old new → KeepsOthers holder old new
changes_keep slot holder old new changes other = ⊎_elim here there (cases_eq other slot)
  where
    here : other ≡ slot → SameBut holder (holders_at old other) (holders_at new other)
    here e = subst (λ k. SameBut holder (holders_at old k) (holders_at new k)) (sym e) changes.here

    there : other ≢ slot → SameBut holder (holders_at old other) (holders_at new other)
    there ne = subst (λ h. SameBut holder (holders_at old other) h) (sym (changes.elsewhere other ne)) (λ i small not. refl)

-- two steps that each leave the slots of all other holders leave them together
pub keeps_both : (holder : Holder) (one two three : List Holders) → KeepsOthers holder one two → KeepsOthers holder two three → KeepsOthers holder one three
keeps_both holder one two three first second slot i small ne = second slot i small ne ∙ first slot i small ne

-- One slot (`slot`) has changed hands. Of each other slot the holders are the same as before.
module _ (slot : ℕ) (holder : Holder) (old new : List Holders) (number : ℕ) (changes : ChangesAt slot holder old new) (ne : number ≢ slot) where
  -- a slot other than the changed one was held by this holder before
  pub had_elsewhere : HasSlot new number holder → HasSlot old number holder
  had_elsewhere has = subst (λ h. Has h holder) (changes.elsewhere number ne) has

  -- a slot other than the changed one is still held by this holder
  pub has_elsewhere : HasSlot old number holder → HasSlot new number holder
  has_elsewhere has = subst (λ h. Has h holder) (sym (changes.elsewhere number ne)) has

-- ---- who gains

-- if nobody gains a slot in either of two steps, nobody does in both together
pub gains_both : (one two three : List Holders) → GainsNone one two → GainsNone two three → GainsNone one three
gains_both one two three first second slot i small has = first slot i small (second slot i small has)

-- if nobody gains another slot than this one in either of two steps, nobody does in both together
pub only_both : (slot : ℕ) (one two three : List Holders) → GainsOnly slot one two → GainsOnly slot two three → GainsOnly slot one three
only_both slot one two three earlier later other differs i low stands = grind arith

-- ---- loans

-- two steps that each leave the same slots on loan leave them on loan together
pub loans_both : (one two three : List Holders) → KeepsLoans one two → KeepsLoans two three → KeepsLoans one three
loans_both one two three first second slot = second slot ∙ first slot

-- what changes for a subscriber alone leaves the same slots on loan
pub keeps_loans : (holder : Holder) (old new : List Holders) → 0 < holder.bit → KeepsOthers holder old new → KeepsLoans old new
keeps_loans holder old new subscribes keeps slot = keeps slot 0 (lit< tt) (λ e. absurd (omega arith))

-- ---- all or none

-- if each holder keeps all its slots or has none after either of two steps, so it is after both together
pub all_both : (one two three : List Holders) → KeepsAllOrNone one two → KeepsAllOrNone two three → KeepsAllOrNone one three
all_both one two three first second i small =
    ⊎_elim (λ same. ⊎_elim (λ was. inl (λ slot. same slot ∙ was slot))
    (λ none. inr (λ slot has. none slot (sym (same slot) ∙ has))) (first i small))
    (λ none. inr none) (second i small)

-- if the table changes only for one holder, which holds no slot then, each holder keeps all
-- its slots or has none
pub all_or_none : (holder : Holder) (old new : List Holders) → KeepsOthers holder old new → HasNone holder new → KeepsAllOrNone old new
all_or_none holder old new keeps none i small =
    ⊎_elim (λ e. inr (λ slot has. none slot (subst (λ k. bit_at (holders_at new slot).bits k ≡ 1) e has)))
    (λ ne. inl (λ slot. keeps slot i small ne)) (cases_eq i holder.bit)
