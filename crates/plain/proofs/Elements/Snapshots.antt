-- What a state shows after a look has brought it up to date, by the contents of the container.
use Rattle.std.proofs.Common.{◌≡◌, ℕ, zero, suc, ◌+◌, ◌<◌, Bool, true, false, not, ◌==◌, List, []}
use Rattle.std.proofs.Common.{◌∷◌, length, take, map, None, refl, sym, ap, subst, ◌∙◌, arith, slice_index}
use Rattle.std.proofs.Common.{if◌then◌else◌, true≢false}
use Rattle.std.specs.Prelude.{replicate}
use Rattle.plain.proofs.Names.{range_with_len, eqb_tells, length-map, length-replicate, count_word}
use Rattle.std.proofs.lemmas.List.{ext_get_or}
use Rattle.std.proofs.lemmas.List.FromFn.{get_or-map-range_with_len, length-map-range_with_len}
use Rattle.steps.specs.Container.State.{Showing, value_shown, numbers_over, seen_of, no_numbers, shows_nothing}
use Rattle.steps.specs.declared.container.state.Element.{Element}
use Rattle.steps.specs.declared.container.state.ContainerState.{ContainerState}
use Rattle.plain.specs.Contents as contents
use Rattle.plain.specs.Contents.{Contents, value_at, counts_in, contents_in, Represents}
use Rattle.plain.specs.States.{blank, snapshot_of, IsStateOf, IsSettled, value_then, updated, Brought}
use Rattle.plain.proofs.Elements.Adds.{owners_long}
use Rattle.plain.proofs.Elements.Values.{Codes, front_fits}
use Rattle.plain.proofs.Elements.Updates.{get_mapped, target, UpToDateBelow, P}

-- numbers that the test finds equal are equal
equal : (a b : ℕ) → (a == b) ≡ true → a ≡ b
equal = grind (arith, false, true≢false, eqb_tells)

-- the numbers over a list of counts of the same length are those of the elements
over_all : {V : Type 0} (counts : List ℕ) (elements : List (Element V)) → length counts ≡ length elements
    → numbers_over counts elements ≡ map (λ (e : Element V). e.count) elements
over_all [] [] long = refl
over_all (n ∷ counts) [] long = absurd (omega arith)
over_all [] (x ∷ elements) long = absurd (omega arith)
over_all (n ∷ counts) (x ∷ elements) long = ap (λ l. x.count ∷ l) (over_all counts elements (omega arith))

-- A look of a state at a container: how values are stored, the container's words, and the state as the look began.
pub record LookCase (V : Type 0) : Type 0 where
  pub codes : Codes V
  pub capacity : ℕ
  pub container : ℕ
  pub words : List ℕ
  pub fits : Represents codes.size capacity words
  pub old : ContainerState V

module _ {V : Type 0} (look : LookCase V) where
  open look use {codes, codes.{value_of, size}, capacity, container, words, fits, old}

  -- the contents of the words
  abbrev s : Contents V
  s = contents_in value_of size capacity container words

  -- the number of an element
  abbrev number : Element V → ℕ
  number e = e.count

  -- the contents have the capacity of the words
  capacity_is : contents.capacity s ≡ capacity
  capacity_is = owners_long capacity (take (1 + capacity) words) (front_fits value_of size capacity words fits)

  module _ (room : Showing V) (below : UpToDateBelow codes fits old.seen old.shown room capacity) where
    -- once all indices are up to date, the state shows the numbers of the words
    counts_are : map number room.elements ≡ counts_in value_of size capacity words
    counts_are =
        let l = length-map room.elements number in let k = below.long in
        let m = length-map-range_with_len (λ i. slice_index words (count_word capacity i)) 0 capacity in
        ext_get_or 0 (map number room.elements) (counts_in value_of size capacity words) (l ∙ k ∙ sym m)
        (λ i low. let near : i < capacity = omega arith in
        let r = below.done i near in
        get_mapped number room.elements i r.e 0 r.there ∙ r.count_is
        ∙ sym (get_or-map-range_with_len (λ i. slice_index words (count_word capacity i)) 0 capacity i i 0 near (omega arith)))

    -- what the look is to show at an index is what an update of the snapshot shows there
    target_is : (i : ℕ) → i < capacity → target codes fits old.seen old.shown i ≡ value_then s (snapshot_of old) i
    target_is = grind (arith, get_or-map-range_with_len, value_at, map)

    -- once all indices are up to date, the state shows the values of the updated snapshot
    values_are : map value_shown room.elements ≡ map (value_then s (snapshot_of old)) (range_with_len 0 capacity)
    values_are =
        let l = length-map room.elements value_shown in let k = below.long in
        let m = length-map-range_with_len (value_then s (snapshot_of old)) 0 capacity in
        ext_get_or None (map value_shown room.elements) (map (value_then s (snapshot_of old)) (range_with_len 0 capacity)) (l ∙ k ∙ sym m)
        (λ i low. let near : i < capacity = omega arith in
        let r = below.done i near in
        get_mapped value_shown room.elements i r.e None r.there ∙ r.shown ∙ target_is i near
        ∙ sym (get_or-map-range_with_len (value_then s (snapshot_of old)) 0 capacity i i None near (omega arith)))

  -- the look has ended with this answer, and has left this in what the state shows
  abbrev Ended : Bool → Showing V → List ℕ → Type 0
  Ended end room last = P codes fits old.seen old.shown (end, room) last

  -- a look that has ended with false has left the state as it was
  brought_without : (room : Showing V) (last : List ℕ) → Ended false room last
      → Brought s old false (record old { shown = room })
  brought_without = grind (arith, map, equal, length)

  -- a look that has ended with true has brought the state up to date, once the state has seen what it shows
  brought_so : (room : Showing V) (last : List ℕ) → Ended true room last
      → Brought s old true (record old { seen = seen_of old.seen room; shown = room })
  brought_so room last ended =
      record {
        answers = sym (ap not ended.1);
        of = (refl, refl);
        left = λ e. absurd (true≢false e);
        -- where the state fitted the container before the look, it has now seen the number of changes and all
        -- numbers, and shows what stands at the indices
        shows = λ h long.
            let p = ended.2 (h.long ∙ long ∙ capacity_is, h.counts, h.room) in
            let many : length old.seen.counts ≡ length room.elements =
            ap length (sym h.counts) ∙ length-map old.shown.elements number ∙ (h.long ∙ long ∙ capacity_is) ∙ sym p.long in
            let over = over_all old.seen.counts room.elements many in
            let counts = counts_are room p in
            let values = values_are room p in (
              record { change = refl; counts = sym over; long = p.long ∙ sym (long ∙ capacity_is); room = p.room },
              -- the snapshot after the look is the updated one: the number of changes, the numbers and the
              -- values of the container
              (λ i. record {
                changes = p.change i;
                counts = (over ∙ counts) i;
                values = (values ∙ ap (λ n. map (value_then s (snapshot_of old)) (range_with_len 0 n)) (sym capacity_is)) i;
              })
                  ∙ sym (ap (λ b. if b then snapshot_of old else record {
                    changes = s.changes;
                    counts = s.counts;
                    values = map (value_then s (snapshot_of old)) (range_with_len 0 (contents.capacity s));
                  }) ended.1),
            );
      }

  -- a look changes no word
  pub words_kept : (end : Bool) (room : Showing V) (last : List ℕ) → Ended end room last → last ≡ words
  words_kept true room last ended = ended.0
  words_kept false room last ended = ended.0

  -- where the look's answer is true and the state has seen what it shows, the state is brought up to date
  pub brought_if : (end : Bool) (room : Showing V) (last : List ℕ) → Ended end room last → end ≡ true
      → {new : ContainerState V} → new ≡ record old { seen = seen_of old.seen room; shown = room } → Brought s old true new
  brought_if = grind (arith, brought_so)

  -- where the look's answer is false, the state is as it was
  pub brought_not : (end : Bool) (room : Showing V) (last : List ℕ) → Ended end room last → end ≡ false
      → Brought s old false (record old { shown = room })
  brought_not end room last ended answers = brought_without room last (subst (λ b. Ended b room last) answers ended)

-- ---- a new state

-- a map over a list that repeats one value repeats the mapped value
mapped_all : {X Y : Type 0} (f : X → Y) (x : X) (n : ℕ) → map f (replicate n x) ≡ replicate n (f x)
mapped_all f x zero = refl
mapped_all f x (suc n) = ap (λ l. f x ∷ l) (mapped_all f x n)

module _ {V : Type 0} (value_of : List ℕ → V) (size capacity : ℕ) (s : Contents V) (long : contents.capacity s ≡ capacity)
    (fresh : ContainerState V) (is : fresh.capacity ≡ capacity)
    (seen : fresh.seen ≡ no_numbers capacity) (shown : fresh.shown ≡ shows_nothing value_of size capacity) where
  -- a new state is settled
  settled : IsSettled fresh
  settled = grind (arith, map, mapped_all, length, length-replicate)

  -- the snapshot of a new state is the blank one
  is_blank : snapshot_of fresh ≡ blank (contents.capacity s)
  is_blank = grind (arith, map, mapped_all, blank)

  -- a new state that is brought up to date is settled, and its snapshot is the blank one updated
  pub got_settled : {answer : Bool} {new : ContainerState V} → Brought s fresh answer new
      → IsSettled new × (snapshot_of new ≡ updated s (blank (contents.capacity s)))
  got_settled {answer} {new} brought =
      let t = brought.shows settled (is ∙ sym long) in (t.0, t.1 ∙ ap (updated s) is_blank)

-- a new state that is brought up to date is a settled state of the container, and its snapshot is the blank one updated
pub got : {V : Type 0} (value_of : List ℕ → V) {size capacity : ℕ} (container : ℕ) {words : List ℕ} → Represents size capacity words
    → {self : Contents V} → contents_in value_of size capacity container words ≡ self
    → {fresh : ContainerState V} → fresh.container ≡ container → fresh.capacity ≡ capacity → fresh.seen ≡ no_numbers capacity
    → fresh.shown ≡ shows_nothing value_of size capacity → {answer : Bool} {new : ContainerState V}
    → Brought (contents_in value_of size capacity container words) fresh answer new
    → (IsStateOf self new × IsSettled new) × (snapshot_of new ≡ updated self (blank (contents.capacity self)))
got {V} value_of {size} {capacity} container {words} fits {self} contents_are {fresh} its_own long seen shown {answer} {new} brought =
    let capacity_is : contents.capacity (contents_in value_of size capacity container words) ≡ capacity =
    owners_long capacity (take (1 + capacity) words) (front_fits value_of size capacity words fits) in
    let t = got_settled value_of size capacity (contents_in value_of size capacity container words) capacity_is fresh long seen shown brought in
    subst (λ z. (IsStateOf z new × IsSettled new) × (snapshot_of new ≡ updated z (blank (contents.capacity z)))) contents_are
    (((brought.of.0 ∙ its_own, brought.of.1 ∙ long ∙ sym capacity_is), t.0), t.1)
