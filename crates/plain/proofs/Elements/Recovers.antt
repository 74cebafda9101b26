-- A recovery of a container that runs alone, from one question to the next, or to its end.
use Rattle.std.proofs.Common.{◌≡◌, ◌≢◌, ℕ, zero, suc, ◌+◌, ◌-◌, ◌^◌, ◌<◌, ◌≤◌, ⊎_elim, true, false, cond, ◌==◌, nat_lt}
use Rattle.std.proofs.Common.{List, [], ◌∷◌, length, drop, filter, map, take, Some, refl, sym, ap, subst, ◌∙◌, arith}
use Rattle.std.proofs.Common.{slice_index, slice_set, eq-eqb, ne_eqb, get_or-set_other, if◌then◌else◌}
use Rattle.plain.proofs.Names.{nat_tests, eqb_tells, set-get_or, drop-set-lt, by_test, by_eq, word_at, count_word}
use Rattle.plain.proofs.Names.{element_word, is_even, Want, After, Done, ReleaseMode, LockIfLastIndex}
use Rattle.plain.proofs.Names.{Default, ReleaseState, Locked, Unlocked}
use Rattle.steps.specs.Copied.{value_in}
use Rattle.steps.specs.Indices.Robust.Parts.{cell_word, empty, locked, one_more, raise_want, raise_after, lock_want, lock_after, first_lock}
use Rattle.steps.specs.Container.Recover.{first_recover, goes_to, recover_comes_to, recover_raises, recover_raised}
use Rattle.steps.specs.Container.Recover.{recover_locked, recover_sees, recover_want, recover_after, recover_kept}
use Rattle.steps.specs.Objects.Owners.{Owned, taken, taken_from, state_of, next_generation}
use Rattle.steps.specs.declared.ask.Question.TheVariants as questions
use Rattle.steps.specs.declared.container.recover.Recover.{Recover}
use Rattle.steps.specs.declared.container.recover.RecoverStage.{RecoverStage}
use Rattle.steps.specs.declared.container.recover.RecoverStage.TheVariants as recovers
use Rattle.steps.specs.declared.container.recover.DeadOwner.{DeadOwner}
use Rattle.steps.specs.declared.indices.robust.parts.Raise.TheVariants as raises
use Rattle.plain_queues.specs.declared.drive.Stop.{Stop}
use Rattle.plain_queues.specs.declared.drive.Stop.TheVariants.{Asked, Ended}
use Rattle.plain.specs.Robust.{owner_in, owners_in}
use Rattle.plain.specs.Contents.{Contents, contents_in, Holds}
use Rattle.plain.specs.Visited.{Stands, to_ask, freed, one_change}
use Rattle.plain.proofs.Walks.{plus, Walks, WalksOn, longer, goes_longer, part_walks, any_low}
use Rattle.plain.proofs.Fronts.{Behind, behind_more}
use Rattle.plain.proofs.Rooms.{with_room, want_both, after_both}
use Rattle.plain_queues.proofs.Words.{Room, read_in, value_read}
use Rattle.plain.proofs.Robust.Parts.{tail_of, here, past, next_small, owner_free, owner_some}
use Rattle.plain.proofs.Robust.Releases.{counter_then}
use Rattle.plain.proofs.Elements.Finds.{counter, cells_long, front, cell_is, odd_at, stands_at, small_at, long_read}
use Rattle.plain.proofs.Elements.Frees.{head_is, generation_is, counter_low, counts_so, counted, bare, emptied_long}
use Rattle.plain.proofs.Elements.Frees.{bare_front, bare_behind, frees_so, raise_over, lock_over}

module _ (owner : ℕ) where
  -- the indices of the owner, with it, in a list of cells whose first one is that of this index
  abbrev pub of_owner : ℕ → List ℕ → List Owned
  of_owner index rest = filter (λ (o : Owned). o.owner == owner) (taken_from index (map owner_in rest))

  -- a cell with the owner adds its index
  of_hit : (index c : ℕ) (rest : List ℕ) → owner < empty → c ≡ owner
      → of_owner index (c ∷ rest) ≡ record { owner = owner; index = index } ∷ of_owner (index + 1) rest
  of_hit = grind (arith, filter, taken_from, map, owner_some, cond, eq-eqb)

  -- a cell with another owner adds no index
  of_miss : (index c : ℕ) (rest : List ℕ) → c ≢ owner → of_owner index (c ∷ rest) ≡ of_owner (index + 1) rest
  of_miss index c rest other =
      ⊎_elim
      (λ (t : ((c == empty) ≡ true) × (c ≡ empty)). ap
      (λ o. filter (λ (o : Owned). o.owner == owner) (taken_from index (o ∷ map owner_in rest))) (owner_free c t.1))
      (λ (t : ((c == empty) ≡ false) × (c ≢ empty)). ap
      (λ o. filter (λ (o : Owned). o.owner == owner) (taken_from index (o ∷ map owner_in rest))) (owner_some c t.1)
      ∙ ap (λ b. cond b (record { owner = c; index = index } ∷ of_owner (index + 1) rest) (of_owner (index + 1) rest)) (ne_eqb c owner other))
      (eqb_tells c empty)

-- A recovery of the indices of a dead owner: how values are read, the container, the owner and the mode.
pub record Recovery (V R : Type 0) : Type 0 where
  -- a value by its words, the room into which these are read, and how many they are: 1 to 128
  pub value_of : List ℕ → V
  pub as_room : Room R
  pub size : ℕ
  pub some : 1 ≤ size
  pub wide : size ≤ 128
  pub capacity : ℕ
  pub container : ℕ
  pub owner : ℕ
  pub lives : owner < empty
  pub mode : ReleaseMode

module _ {V R : Type 0} (recovery : Recovery V R) where
  open recovery use {value_of, as_room, as_room.{words_in, with_word}, size, some, wide, capacity, container, owner, lives, mode}

  -- what the recovery is given
  abbrev given : DeadOwner
  given = record { owner = owner; mode = mode }

  -- what the recovery asks for, of recovery and room as one
  abbrev pair_want : Recover V R × R → Want (Unit {0})
  pair_want = want_both (recover_want size) (recover_after size) (recover_kept with_word) given

  -- what an answer makes of recovery and room as one
  abbrev pair_after : Recover V R × R → ℕ → After (Recover V R × R) (ReleaseState × R)
  pair_after = after_both (recover_want size) (recover_after size) (recover_kept with_word) given

  -- a recovery that has taken no step
  abbrev pub first : Recover V R
  first = first_recover capacity

  -- the recovery at this stage
  abbrev pub at : RecoverStage → Recover V R
  at stage = record { capacity = capacity; stage = stage; of = record {} }

  -- the contents of the words
  abbrev pub read : List ℕ → Contents V
  read words = contents_in value_of size capacity container words

  -- these are the words of a container
  abbrev pub Fit : List ℕ → Type 0
  Fit words = Holds value_of size capacity container words

  -- the cells of the owners, which stand behind the first word
  abbrev pub cells_of : List ℕ → List ℕ
  cells_of words = tail_of (take (1 + capacity) words)

  -- The recovery has stopped at a question about the first of the owner's indices that are left, at no index
  -- below `from`. Its room has the value that stands there, and s are the contents.
  pub record AsksAt (s : Contents V) (from : ℕ) (left : List Owned) (call : Recover V R) (room : R) (last : List ℕ) : Type 0 where
    -- the index that is asked about, the cells behind it, and what is left
    pub index : ℕ
    pub rest : List ℕ
    pub left_is : left ≡ record { owner = owner; index = index } ∷ of_owner owner (index + 1) rest
    pub rest_is : drop (index + 1) (cells_of last) ≡ rest
    -- the index is not below `from`, and below the capacity
    pub low : from ≤ index
    pub near : index < capacity
    -- the words are those of a container with contents s, in which the owner has the index
    pub holds : Fit last
    pub is : read last ≡ s
    pub owns : slice_index (cells_of last) index ≡ owner
    -- the stage of the call, and that the value of the index is in the room, which is long enough
    pub stands : call ≡ at (recovers.Asks index (slice_index last (count_word capacity index)))
    pub copied : Stands s index (value_in value_of size (words_in room))
    pub roomy : size ≤ length (words_in room)

  -- the recovery has ended with the state of s, nothing is left, and the contents are s with one change more
  pub record EndsAt (s : Contents V) (left : List Owned) (state : ReleaseState) (last : List ℕ) : Type 0 where
    pub none : left ≡ []
    pub holds : Fit last
    pub state_is : state ≡ state_of s.owners
    pub is : read last ≡ one_change s

  -- the recovery has ended, or asks about the first of the owner's indices that are left
  abbrev pub StopsAt : Contents V → ℕ → List Owned → Stop (Recover V R × R) (ReleaseState × R) → List ℕ → Type 0
  StopsAt s from left (Ended z) last = EndsAt s left z.0 last
  StopsAt s from left (Asked question z) last = AsksAt s from left z.0 z.1 last

  -- the greatest number of steps at one value
  abbrev pub each : ℕ
  each = suc (suc (suc (suc (size - 1))))

  -- the greatest number of steps over the cells that are left, up to a question or the end
  abbrev pub fuel : List ℕ → ℕ
  fuel rest = plus (suc (suc (suc (length rest)))) each

  -- ---- over words that stay as they are

  module _ {words : List ℕ} (holds : Fit words) where
    -- the number of an index
    abbrev number_at : ℕ → ℕ
    number_at i = slice_index words (count_word capacity i)

    -- the first word of an index's value
    abbrev cell_at : ℕ → ℕ
    cell_at i = element_word capacity size i 0

    -- from the stage at which word k is loaded, the recovery loads the words left, exchanges the number for
    -- itself and asks its question
    reads : (P : Stop (Recover V R × R) (ReleaseState × R) → List ℕ → Type 0) (i : ℕ) → i < capacity → (n k : ℕ) → k + suc n ≡ size → (room : R)
        → P (Asked (questions.Value i tt)
        (at (recovers.Asks i (number_at i)), read_in with_word room words (cell_at i) k (suc n)))
        words
        → Walks pair_want pair_after (suc (suc (suc n))) P (at (recovers.LoadsWord i (number_at i) k), room) words
    reads P i near zero k end room stops =
        let place : element_word capacity size i k ≡ word_at (cell_at i) k =
        omega (arith, small_at value_of container holds i near wide) in
        let c = count_word capacity i in
        let next = with_word room k (slice_index words (word_at (cell_at i) k)) in
        subst (λ p. WalksOn pair_want pair_after 2 P (with_room (with_word room k (slice_index words p))
        (if nat_lt (k + 1) size then goes_to first (recovers.LoadsWord i (number_at i) (k + 1)) else
        goes_to first (recovers.ChecksCount i (number_at i))))
        words)
        (sym place)
        (by_test (λ a. WalksOn pair_want pair_after 2 P (with_room next a) words) (nat_lt (k + 1) size) _ _
        (λ t. let more : k + 1 < size = grind (arith, nat_tests) in absurd (omega arith))
        (λ t. subst (λ b. WalksOn pair_want pair_after 1 P
        (with_room next (if b then goes_to first (recovers.Asks i (number_at i)) else recover_sees first i (number_at i)))
        (if b then slice_set words c (number_at i) else words))
        (sym (eq-eqb (number_at i) (number_at i) refl))
        (subst (λ ws. Walks pair_want pair_after 1 P (at (recovers.Asks i (number_at i)), next) ws) (sym (set-get_or words c 0)) stops)))
    reads P i near (suc n) k end room stops =
        let place : element_word capacity size i k ≡ word_at (cell_at i) k =
        omega (arith, small_at value_of container holds i near wide) in
        let next = with_word room k (slice_index words (word_at (cell_at i) k)) in
        subst (λ p. WalksOn pair_want pair_after (suc (suc (suc n))) P
        (with_room (with_word room k (slice_index words p))
        (if nat_lt (k + 1) size then goes_to first (recovers.LoadsWord i (number_at i) (k + 1)) else
        goes_to first (recovers.ChecksCount i (number_at i))))
        words)
        (sym place)
        (by_test (λ a. WalksOn pair_want pair_after (suc (suc (suc n))) P (with_room next a) words) (nat_lt (k + 1) size) _ _
        (λ t. reads P i near n (k + 1) (omega arith) next stops)
        (λ t. let less : size ≤ k + 1 = grind (arith, nat_tests) in absurd (omega arith)))

    module _ {s : Contents V} (is : read words ≡ s) (from : ℕ) where
      -- at an index whose cell has the owner, the recovery reads the value and asks about that index
      hit : (i : ℕ) {rest : List ℕ} {left : List Owned} → i < capacity → from ≤ i
          → slice_index (cells_of words) i ≡ owner → drop (i + 1) (cells_of words) ≡ rest
          → left ≡ record { owner = owner; index = i } ∷ of_owner owner (i + 1) rest → (room : R) → size ≤ length (words_in room)
          → Walks pair_want pair_after each (StopsAt s from left) (at (recovers.LoadsCount i), room) words
      hit i {rest} {left} near low owns rest_is left_is room long =
          -- the number of the value is odd, so a value stands at the index and the recovery reads it
          let odd = odd_at value_of container holds i owner near lives owns in
          let all : size ≡ suc (size - 1) = omega (arith, some) in
          let small = small_at value_of container holds i near wide in
          subst (λ b. WalksOn pair_want pair_after (suc (suc (suc (size - 1)))) (StopsAt s from left)
          (with_room room (goes_to first
          (if b then recovers.EmptiesCell i (number_at i) else recovers.LoadsWord i (number_at i) 0)))
          words)
          (sym odd)
          -- after the loads of the value's words the recovery asks about the index
          (reads (StopsAt s from left) i near (size - 1) 0 (omega arith) room
          (subst (λ n. StopsAt s from left
          (Asked (questions.Value i tt)
          (at (recovers.Asks i (number_at i)), read_in with_word room words (cell_at i) 0 n))
          words)
          all
          (record {
            index = i;
            rest = rest;
            left_is = left_is;
            rest_is = rest_is;
            low = low;
            near = near;
            holds = holds;
            is = is;
            owns = owns;
            stands = refl;
            -- the value that was read is the one that stands at the index
            copied = subst (λ (t : Contents V). Stands t i (value_in value_of size (words_in (read_in with_word room words (cell_at i) 0 size)))) is
                (stands_at value_of container holds i near odd
                ∙ ap Some (sym (value_read value_of size as_room room words (cell_at i) long (omega arith))));
            roomy = subst (λ n. size ≤ n) (sym (long_read as_room words room (cell_at i) size 0)) long;
          })))

      -- where nothing is left, the recovery counts the change and ends
      ends : (left : List Owned) (state : ReleaseState) → left ≡ [] → state ≡ state_of s.owners
          → EndsAt s left state (counted value_of container holds)
      ends left state none state_is =
          let there = counts_so value_of container holds in
          record { none = none; holds = there.fit; state_is = state_is; is = there.is ∙ ap one_change is }

      -- the state that the counter says is that of the contents
      state_at : (if slice_index words 0 == locked then Locked else Unlocked) ≡ state_of s.owners
      state_at = grind (arith, locked, head_is, generation_is)

      -- the recovery has come to this index, and these cells and these indices of the owner are left
      pub record ComesTo (index : ℕ) (rest : List ℕ) (left : List Owned) : Type 0 where
        pub rest_is : drop index (cells_of words) ≡ rest
        pub left_is : left ≡ of_owner owner index rest
        pub low : from ≤ index

      -- From this index on, with these cells left, the recovery stops at the owner's next index or at its
      -- end. The cases are whether a cell is left, and whether it has the owner.
      pub recovers_on : (rest : List ℕ) (index : ℕ) {left : List Owned} → ComesTo index rest left → (room : R) → size ≤ length (words_in room)
          → WalksOn pair_want pair_after (fuel rest) (StopsAt s from left) (with_room room (recover_comes_to first index)) words
      recovers_on [] index {left} comes room long =
          let far = past (cells_of words) index comes.rest_is in
          let size_is = cells_long value_of container holds in
          by_test (λ stage. WalksOn pair_want pair_after (suc (suc (suc each))) (StopsAt s from left) (with_room room (goes_to first stage)) words)
          (nat_lt index capacity) _ _
          (λ t. let near : index < capacity = grind (arith, nat_tests) in absurd (omega arith))
          (λ _. ends left (if slice_index words 0 == locked then Locked else Unlocked) comes.left_is state_at)
      recovers_on (c ∷ rest) index {left} comes room long =
          let there = here (cells_of words) index c rest comes.rest_is in
          let low = comes.low in
          let size_is = cells_long value_of container holds in
          let below = there.near in
          let near : index < capacity = omega arith in
          let word = cell_is value_of container holds index near ∙ there.word_is in
          by_test (λ stage. WalksOn pair_want pair_after (suc (suc (suc (suc (plus (length rest) each))))) (StopsAt s from left)
          (with_room room (goes_to first stage)) words)
          (nat_lt index capacity) _ _
          -- a cell is left: the recovery loads it
          (λ _. by_eq (λ a. WalksOn pair_want pair_after (suc (suc (suc (plus (length rest) each)))) (StopsAt s from left) (with_room room a) words)
          (slice_index words (cell_word index)) owner _ _
          -- the cell has the owner: the recovery reads the value and asks about it
          (λ e. longer pair_want pair_after (suc (suc (suc (length rest)))) each (StopsAt s from left) (at (recovers.LoadsCount index), room) words
          (hit index near low (there.word_is ∙ (sym word ∙ e)) there.rest_is (comes.left_is ∙ of_hit owner index c rest lives (sym word ∙ e)) room long))
          -- the cell has not the owner: the recovery goes on to the next one
          (λ n. recovers_on rest (index + 1)
          (record { rest_is = there.rest_is; left_is = comes.left_is ∙ of_miss owner index c rest (λ e. n (word ∙ e)); low = omega arith }) room long))
          (λ t. let far : capacity ≤ index = grind (arith, nat_tests) in absurd (omega arith))

    -- from its begin the recovery stops at the owner's first index, or at its end where the container is
    -- locked or the owner has none
    pub begin_walk : (room : R) → size ≤ length (words_in room)
        → Walks pair_want pair_after (suc (fuel (cells_of words))) (StopsAt (read words) 0 (to_ask (read words) owner)) (first, room) words
    begin_walk room long =
        let g = counter value_of container holds in
        let generation = generation_is value_of container holds in
        let head = head_is value_of container holds in
        by_eq (λ a. WalksOn pair_want pair_after (fuel (cells_of words)) (StopsAt (read words) 0 (to_ask (read words) owner)) (with_room room a) words)
        (slice_index words 0) locked _ _
        -- the container is locked: the recovery counts the change and ends
        (λ e. ends refl 0 (to_ask (read words) owner) Locked
        (ap (λ b. filter (λ (o : Owned). o.owner == owner) (if b then [] else taken (read words).owners))
        (eq-eqb (read words).owners.generation locked (generation ∙ (sym head ∙ e))))
        (sym (ap (λ b. if b then Locked else Unlocked) (eq-eqb (read words).owners.generation locked (generation ∙ (sym head ∙ e))))))
        -- the container is not locked: the recovery goes through the cells
        (λ other. recovers_on refl 0 (cells_of words) 0
        (record {
          rest_is = refl;
          left_is = ap (λ b. filter (λ (o : Owned). o.owner == owner) (if b then [] else taken (read words).owners))
              (ne_eqb (read words).owners.generation locked (λ e. other (head ∙ (sym generation ∙ e))))
              ∙ ap (λ ws. filter (λ (o : Owned). o.owner == owner) (taken (owners_in ws))) (front value_of container holds);
          low = omega arith;
        })
        room long)

  -- ---- an index is freed

  -- The contents of the words are s, in which the owner has the index, and the set is not locked; `rest` are the
  -- cells behind the index.
  module _ {words : List ℕ} (holds : Fit words) {s : Contents V} (is : read words ≡ s) (index : ℕ) (near : index < capacity)
      (owns : slice_index (cells_of words) index ≡ owner) (opens : counter value_of container holds ≢ locked)
      {rest : List ℕ} (rest_is : drop (index + 1) (cells_of words) ≡ rest) (room : R) (long : size ≤ length (words_in room)) where
    -- the number of the index is odd, since a value stands there
    odd : is_even (slice_index words (count_word capacity index)) ≡ false
    odd = odd_at value_of container holds index owner near lives owns

    -- the counter of the set
    abbrev g : ℕ
    g = counter value_of container holds

    -- the cells with this one emptied
    abbrev gone : List ℕ
    gone = slice_set (cells_of words) index empty

    -- the number of the index
    abbrev n : ℕ
    n = slice_index words (count_word capacity index)

    -- the words with the value hidden
    abbrev hid : List ℕ
    hid = slice_set words (count_word capacity index) (one_more n)

    -- the recovery stops at the owner's next index after this one, or at its end, with this index freed
    abbrev P : Stop (Recover V R × R) (ReleaseState × R) → List ℕ → Type 0
    P stop last = StopsAt (freed mode s index) (index + 1) (of_owner owner (index + 1) rest) stop last

    -- the greatest number of steps of a lock over these cells
    abbrev locks : ℕ
    locks = plus (suc (suc (suc (length gone)))) 1

    low : g < 2 ^ 64
    low = counter_low value_of container holds

    -- the cells with this one emptied are as many as before
    gone_long : length gone ≡ capacity
    gone_long = emptied_long value_of container holds wide mode index near odd

    -- where value and owner of the index are gone and the counter is that of the mode, the recovery goes on
    -- from the next index
    then_on : (last : List ℕ) → Behind (1 + capacity) hid last → take (1 + capacity) last ≡ counter_then mode g gone ∷ gone
        → WalksOn pair_want pair_after (fuel rest) P (with_room room (recover_comes_to first (index + 1))) last
    then_on last behind front_is =
        let there = frees_so value_of container holds wide mode index near odd behind front_is in
        recovers_on there.fit (there.is ∙ ap (λ t. freed mode t index) is) (index + 1) rest (index + 1)
        (record {
          rest_is = ap (λ ws. drop (index + 1) (tail_of ws)) front_is
              ∙ (drop-set-lt (index + 1) (cells_of words) index empty (let t : index < index + 1 = omega arith in t) ∙ rest_is);
          left_is = refl;
          low = (let t : index + 1 ≤ index + 1 = omega arith in t);
        })
        room long

    -- after the raise of the counter the recovery goes on, in this mode, to where it stops next
    abbrev After_raise : ReleaseMode → List ℕ → Type 0
    After_raise m last = WalksOn pair_want pair_after (plus locks (fuel rest)) P (with_room room (recover_raised first index m (Done Unlocked))) last

    -- once the counter is raised, the recovery goes on from the next index, in the mode
    -- that locks after a lock
    on_raised : (m : ReleaseMode) → mode ≡ m → (last : List ℕ) → Behind (1 + capacity) hid last → take (1 + capacity) last ≡ next_generation g ∷ gone
        → After_raise m last
    on_raised Default mode_is last behind front_is =
        goes_longer pair_want pair_after locks (fuel rest) P (with_room room (recover_comes_to first (index + 1))) last
        (then_on last behind (front_is ∙ ap (λ m. counter_then m g gone ∷ gone) (sym mode_is)))
    on_raised LockIfLastIndex mode_is last behind front_is =
        part_walks
        (record {
          want = pair_want;
          after = pair_after;
          part_want = lock_want;
          part_after = lock_after capacity;
          within = λ l. (at (recovers.Locks index l), room);
          lift = λ a. with_room room (recover_locked first index a);
          Low = λ d. Unit {0};
          low_on = λ d old low. any_low ((lock_after capacity) d old);
          wants_so = λ d. refl;
          goes_so = λ d old low. refl;
          lifts = λ d. refl;
        })
        locks (fuel rest) P first_lock last tt
        (lock_over capacity last (next_small g low) front_is gone_long holds.0.few _
        (λ state later more front_later. then_on later (behind_more (1 + capacity) hid last later behind more)
        (front_later ∙ ap (λ m. counter_then m g gone ∷ gone) (sym mode_is))))

    -- the greatest number of steps from a yes to the next question or the end
    abbrev pub rounds : ℕ
    rounds = suc (suc (plus 2 (plus locks (fuel rest))))

    -- with the value hidden and the cell emptied the recovery raises the counter, and goes on
    -- to where it stops next
    raises_on : Walks pair_want pair_after (plus 2 (plus locks (fuel rest))) P
        (at (recovers.Raises index raises.LoadsCounter), room)
        (bare value_of container holds wide mode index near odd)
    raises_on =
        part_walks
        (record {
          want = pair_want;
          after = pair_after;
          part_want = raise_want;
          part_after = raise_after;
          within = λ r. (at (recovers.Raises index r), room);
          lift = λ a. with_room room (recover_raised first index mode a);
          Low = λ d. Unit {0};
          low_on = λ d old low. any_low (raise_after d old);
          wants_so = λ d. refl;
          goes_so = λ d old low. refl;
          lifts = λ d. refl;
        })
        2 (plus locks (fuel rest)) P raises.LoadsCounter (bare value_of container holds wide mode index near odd) tt
        (raise_over capacity (bare value_of container holds wide mode index near odd) low
        (bare_front value_of container holds wide mode index near odd) opens _
        (λ last behind front_is. on_raised mode refl last
        (behind_more (1 + capacity) hid (bare value_of container holds wide mode index near odd)
        last (bare_behind value_of container holds wide mode index near odd) behind)
        front_is))

    -- after a yes the recovery empties the cell, hides the value, raises the counter and goes on
    -- to where it stops next
    pub frees_on : Walks pair_want pair_after rounds P (at (recovers.EmptiesCell index n), room) words
    frees_on =
        let word = cell_is value_of container holds index near ∙ owns in
        let ci = cell_word index in
        let without = slice_set words ci empty in
        let same : slice_index without (count_word capacity index) ≡ n =
        get_or-set_other words ci (count_word capacity index) empty 0 (λ e. absurd (omega arith)) in
        -- the exchange empties the cell, which has the owner
        subst (λ b. WalksOn pair_want pair_after (suc (plus 2 (plus locks (fuel rest)))) P
        (with_room room
        (if b then (if is_even n then recover_raises first index else goes_to first (recovers.Hides index n))
        else recover_comes_to first (index + 1)))
        (if b then slice_set words ci empty else words))
        (sym (eq-eqb (slice_index words ci) owner word))
        -- the number is odd, so the recovery goes on to hide the value
        (subst (λ b. WalksOn pair_want pair_after (suc (plus 2 (plus locks (fuel rest)))) P
        (with_room room (if b then recover_raises first index else goes_to first (recovers.Hides index n)))
        without)
        (sym odd)
        -- the exchange makes the number even, and the recovery goes on to raise the counter
        (subst (λ b. Walks pair_want pair_after (plus 2 (plus locks (fuel rest))) P
        (at (recovers.Raises index raises.LoadsCounter), room)
        (if b then slice_set without (count_word capacity index) (one_more n) else without))
        (sym (eq-eqb (slice_index without (count_word capacity index)) n same))
        raises_on))
