-- A state that follows its container shows the map once it is brought up to date: the laws
-- `opens`, `updates` and `gets`.
use Rattle.plain.specs.Contents.{Contents, capacity}
use Rattle.plain.specs.States.{Snapshot, blank, value_then, updated}
use Rattle.std.proofs.Common.{◌≡◌, ℕ, ◌*◌, ◌≤◌, ◌==◌, Bool, true, false, Option, None, List, replicate, get_or, map, if◌then◌else◌, refl, sym, ap, ◌∙◌, arith}
use Rattle.std.proofs.lemmas.Bool.Decides.{nat_tests}
use Rattle.std.proofs.lemmas.List.{ext_get_or, get_or-replicate, get_or_past, length-replicate}
use Rattle.std.specs.List.{range_with_len}
use Rattle.steps.specs.Container.Layout.{is_even}
use Rattle.std.proofs.lemmas.List.FromFn.{get_or-map-range_with_len, length-map-range_with_len}
use Rattle.plain.specs.Contents.{opened}
use Rattle.plain.specs.Following.{IsCounted, Follows}

-- a list that repeats one value, read with that value as the default, has it at each place
same_all : {A : Type 0} (n i : ℕ) (x : A) → get_or (replicate n x) i x ≡ x
same_all n i x = grind (arith, get_or-replicate, length-replicate, get_or_past)

-- 0 is at most every number
zero_most : (n m : ℕ) → n ≡ 0 → n ≤ m
zero_most n m zero_is = omega arith

-- where no change was counted, a number that at most grows with changes is 0
none_yet : (n m changes : ℕ) → n ≤ 2 * changes → changes ≡ 0 → m ≡ 0 → n ≡ m
none_yet n m changes few none zero_is = omega arith

module _ {V : Type 0} where
  -- the numbers of a container that opens are as `IsCounted` says
  pub opens : (size container : ℕ) → IsCounted {V = V} (opened size container)
  opens size container = grind (arith, length-replicate, zero_most, same_all)

  -- ---- brought up to date

  module _ (s : Contents V) (seen : Snapshot V) (follows : Follows s seen) where
    -- where no change was counted since, the state shows all values
    shows_all : s.changes ≡ seen.changes → seen.values ≡ s.values
    shows_all same =
        let a = follows.values in
        let b = follows.counted.values in
        ext_get_or None seen.values s.values (omega arith) (λ i below. follows.same i (ap (λ l. get_or l i 0) (follows.all same)))

    -- the values that an update shows
    abbrev now : List (Option V)
    now = map (value_then s seen) (range_with_len 0 (capacity s))

    -- an update shows at an index what the contents have there; the cases are whether the
    -- state has seen its number
    value_is : (i : ℕ) → value_then s seen i ≡ get_or s.values i None
    value_is i = go (get_or s.counts i 0 == get_or seen.counts i 0) refl
      where
        -- the cases: the state has seen the index's number, or it has not
        go : (b : Bool) → (get_or s.counts i 0 == get_or seen.counts i 0) ≡ b
            → (if b then get_or seen.values i None else get_or s.values i None) ≡ get_or s.values i None
        go true seen_is = let same : get_or s.counts i 0 ≡ get_or seen.counts i 0 = grind (arith, nat_tests) in follows.same i same
        go false seen_is = refl

    -- an update shows all values of the contents
    now_is : now ≡ s.values
    now_is =
        let a = length-map-range_with_len (value_then s seen) 0 (capacity s) in
        let b = follows.counted.values in
        ext_get_or None now s.values (omega arith)
        (λ i below. get_or-map-range_with_len (value_then s seen) 0 (capacity s) i i None (omega arith) (omega arith) ∙ value_is i)

    -- the snapshot of the contents
    abbrev then_seen : Snapshot V
    then_seen = record { changes = s.changes; counts = s.counts; values = now }

    -- a state that has seen all of the contents follows them
    follows_now : Follows s then_seen
    follows_now = grind (arith, length-map-range_with_len, capacity, now_is)

  -- a state that follows its container follows it when brought up to date, and shows its values
  pub updates : (s : Contents V) (seen : Snapshot V) → Follows s seen → Follows s (updated s seen) × ((updated s seen).values ≡ s.values)
  updates s seen follows = go (s.changes == seen.changes) refl
    where
      -- whether the container has changed since or not, the state that is brought up to date follows it and shows its values
      go : (b : Bool) → (s.changes == seen.changes) ≡ b
          → Follows s (if b then seen else record { changes = s.changes; counts = s.counts; values = map (value_then s seen) (range_with_len 0 (capacity s)) })
          × ((if b then seen else
          record { changes = s.changes; counts = s.counts; values = map (value_then s seen) (range_with_len 0 (capacity s)) }).values
          ≡ s.values)
      go true seen_is = let is : s.changes ≡ seen.changes = grind (arith, nat_tests) in (follows, shows_all s seen follows is)
      go false seen_is = (follows_now s seen follows, now_is s seen follows)

  -- ---- a new state

  -- a snapshot that shows nothing follows any contents that are counted
  blank_follows : (s : Contents V) → IsCounted s → Follows s (blank (capacity s))
  blank_follows s is_counted =
      record {
        counted = is_counted;
        counts = length-replicate (capacity s) 0;
        values = length-replicate (capacity s) None;
        fewer = omega arith;
        numbers = λ i. zero_most (get_or (replicate (capacity s) 0) i 0) (get_or s.counts i 0) (same_all (capacity s) i 0);
        same = λ i e. same_all (capacity s) i None ∙ sym (is_counted.even i (even_zero (get_or s.counts i 0) (e ∙ same_all (capacity s) i 0)));
        all = λ none.
            ext_get_or 0 s.counts (replicate (capacity s) 0) (is_counted.counts ∙ sym (length-replicate (capacity s) 0))
            (λ i below. none_yet (get_or s.counts i 0) (get_or (replicate (capacity s) 0) i 0) s.changes (is_counted.few i) none (same_all (capacity s) i 0));
      }
    where
      -- 0 is even
      even_zero : (n : ℕ) → n ≡ 0 → is_even n ≡ true
      even_zero n zero_is = ap is_even zero_is

  -- a new state that is brought up to date follows the container, and shows its values
  pub gets : (s : Contents V) → IsCounted s → Follows s (updated s (blank (capacity s))) × ((updated s (blank (capacity s))).values ≡ s.values)
  gets s counted = updates s (blank (capacity s)) (blank_follows s counted)
