-- The steps of a find. It loads each cell; where the cell has its owner, it loads the number of the element
-- and, under an odd one, copies the value, checks the number by an exchange for itself, and asks its caller
-- whether to go on. What a step has to show is said by `StepOf` and `Leads` of `Stages`.
use Rattle.laws_container.proofs.Names.{◌≡◌, ◌≢◌, ⊎_elim, ℕ, ◌+◌, ◌*◌, ◌%◌, ◌<◌, ◌≤◌, ◌==◌, if◌then◌else◌, nat_lt}
use Rattle.laws_container.proofs.Names.{Bool, false, true, Option, Some, is_some, List, [], ◌∷◌, ◌++◌, suc, refl, sym}
use Rattle.laws_container.proofs.Names.{ap, subst, ◌∙◌, append-nil, arith, cases_eq, nat_tests, length-set}
use Rattle.laws_container.proofs.Names.{flat_map-append, Ask, After, GoOn, FindStage, at_find, find_comes_to}
use Rattle.laws_container.proofs.Names.{count_word, element_word, is_even, cell_word, empty, one_more, went_on}
use Rattle.laws_container.proofs.Names.{Answer, Event, Finished, Container, ContainerStart, ContainerFlight, Party}
use Rattle.laws_container.proofs.Names.{Coding, Act, index_seen, seen_in, contents_of, cell_of, count_below}
use Rattle.laws_container.proofs.Names.{IsFilledWith, IsCount, as_it_is, kept_at, as_call, words_after, step_count}
use Rattle.laws_container.proofs.Names.{held_now, cell, times_below, count_next, count_within, chosen_with, with_here}
use Rattle.laws_container.proofs.Names.{with_there, count_with, still_once, still_through, all_so, both_ways}
use Rattle.laws_container.proofs.Names.{filled_by, through_now, loads_same, all_both}
use Rattle.steps.specs.declared.ask.After.TheVariants.{Done}
use Rattle.steps.specs.declared.container.find.Find as find_calls
use Rattle.steps.specs.declared.container.find.FindStage.TheVariants as finds
use Rattle.steps.specs.declared.copied.Buffer as buffers
use Rattle.model.specs.declared.event.Answer.TheVariants as answers
use Rattle.model.specs.declared.families.container.ContainerStart.TheVariants.{Find}
use Rattle.model.specs.declared.families.container.calls.ContainerFlight.TheVariants as calls
use Rattle.lemmas_owners.proofs.Operations as operations
use Rattle.laws_container.proofs.Contents.{WordsShow}
use Rattle.laws_container.proofs.Core.{count_at}
use Rattle.laws_container.proofs.Copies.{copying_first, copying_more}
use Rattle.laws_container.proofs.Invariant.{right_end, Scene, Inv, AreAllRight, before, of_set, inv_of_set}
use Rattle.laws_container.proofs.Knows.{View, IsPaid, HasFoundBelow, Finds, Steady, Copying, FindKnows, IsLong, Knows}
use Rattle.laws_container.proofs.StateInvariant.{StoodThere}
use Rattle.laws_container.proofs.Silent.{silently}
use Rattle.laws_container.proofs.Stages.{sees_calmly, Call, IsUnderWay, all, done, sees_now, StepOf, Leads, none_lengthens}
use Rattle.laws_container.proofs.Stages.{party_then}
use Rattle.laws_container.proofs.Stages.{goes_calmly, ends, owes_none, was_well_formed, was_well_formed_calmly}
use Rattle.laws_container.proofs.CallProgress.{find_at, find_number, AreBelow, FindAt}
use Rattle.laws_container.proofs.Turns.{WellFormed, count_in, datum_in}
use Rattle.laws_container.proofs.Writing.{even_is, odd_is}
use Rattle.lemmas.proofs.Cases.{on_bool}

-- ---- what a find has seen and done

-- indices below a bound are below a larger one
pub below_more : (n m : ℕ) (xs : List ℕ) → n ≤ m → AreBelow n xs → AreBelow m xs
below_more n m xs few are_below = all_so (λ i. i < n) (λ i. i < m) xs (λ i less. omega arith) are_below

module _ {T : Type 0} where
  -- one act more, at an index below the bound, leaves all that a find has seen below the bound
  pub seen_more : (n : ℕ) (all : List (Act T)) (one : Act T) → AreBelow n (seen_in all) → AreBelow n (index_seen one) → AreBelow n (seen_in (all ++ one ∷ []))
  seen_more = grind (arith, flat_map-append, append-nil, all_both)

  -- under an even number nothing stands
  pub nothing_stands : (code : Coding T) (c : ℕ) (words : List ℕ) (i : ℕ) (o : Option T) → WordsShow code c words i o
      → count_at c words i % 2 ≡ 0 → is_some o ≡ false
  nothing_stands = grind arith

-- a find for `owner`, which a cell can hold, by the party of the scene; `inv` is what holds of the machine
-- before its step
pub record Finding (T : Type 0) : Type 0 where
  -- the turn, and what holds of the machine before it
  pub scene : Scene T
  pub inv : Inv scene
  -- the argument of the call, an owner that can be in a cell
  pub owner : ℕ
  pub fits : owner < empty

-- the steps of one find, whose party sees `v` of the machine
module _ {T : Type 0} (finding : Finding T) where
  open finding use {scene, inv, owner, fits}
  open finding.scene use {coding as code, capacity as c, party as p, steps, events, latest}

  abbrev ws : List ℕ
  ws = scene.words

  abbrev z : ℕ
  z = code.size

  abbrev start : ContainerStart T
  start = Find owner

  abbrev v : View T
  v = sees_now scene

  -- how the find goes on, as a call of the container
  abbrev pub as_find : buffers.Buffer 128 → After (find_calls.Find T (buffers.Buffer 128)) ℕ → After (ContainerFlight T) (Answer T)
  as_find room a = as_call calls.Find answers.Number (went_on as_it_is owner room a)

  abbrev pub first : find_calls.Find T (buffers.Buffer 128)
  first = record { capacity = c; stage = finds.LoadsCell 0 0; of = record {} }

  -- what the find has counted below `bound` is `number`
  abbrev HasCounted : ℕ → ℕ → Type 0
  HasCounted bound number = IsCount p (IsFilledWith owner) bound number events

  -- what the find has counted below `bound` is `number`, and it has copied what stood at the
  -- counted indices below `k`
  abbrev HasFoundUpTo : ℕ → ℕ → ℕ → Type 0
  HasFoundUpTo bound k number =
      WellFormed (before scene) → HasFoundBelow code c owner bound k number v

  -- ---- what a cell tells

  -- the find loads the cell of index `k`, with `found` indices counted below it
  module _ (k found : ℕ) (below : k < c) where
    -- a cell that has the owner adds one to those counted
    one_counts : cell ws k ≡ owner → HasCounted k found → HasCounted (k + 1) (one_more found)
    one_counts has_owner counted =
        let few = inv.good.few in
        let most = count_within p (IsFilledWith owner) k found events counted in
        let next : one_more found ≡ 1 + found = omega arith in
        count_next (IsFilledWith owner) counted true next
        (λ e. filled_by (of_set scene) (inv_of_set scene inv) k below owner fits has_owner) (λ e. absurd (cc))

    -- a cell without the owner adds nothing to the indices counted
    pub none_counts : cell ws k ≢ owner → HasCounted k found → HasCounted (k + 1) found
    none_counts other counted =
        count_next (IsFilledWith owner) counted false (omega arith) (λ e. absurd (cc))
        (λ e filled. other (inv.good.cells k below ∙ ap cell_of filled))

    -- `b` says whether the index is counted, as it is if the cell has the owner and is not if it never had;
    -- `new` is the count with it
    module _ (b : Bool) (new : ℕ) (adds : new ≡ (if b then 1 else 0) + found)
        (once : b ≡ true → IsFilledWith owner k events) (not : b ≡ false → IsFilledWith owner k events → ⊥)
        (found_below : HasFoundBelow code c owner k k found v) where
      is_counted : count_below (chosen_with found_below.count.chosen k b) (k + 1) ≡ new
      is_counted = grind (arith, suc, count_below, count_with)

      -- the count with this index added to it, or left out
      abbrev counted_with : IsCount p (IsFilledWith owner) (k + 1) new events
      counted_with =
          record {
            chosen = chosen_with found_below.count.chosen k b;
            is = is_counted;
            once = still_once (IsFilledWith owner) found_below.count b adds once not;
            through = still_through (IsFilledWith owner) found_below.count b adds once not;
          }

      -- a find that counts the index, or leaves it out, has counted to the next bound, and the element at the
      -- index is still to be copied
      found_with : HasFoundBelow code c owner (k + 1) k new v
      found_with =
          record {
            count = counted_with;
            copied =
                λ i less chosen through. found_below.copied i less
                (sym (with_there found_below.count.chosen k b i (λ e. absurd (omega arith))) ∙ chosen) through;
          }

      -- an index that is left out need not be copied, so the find has come past it
      found_without : b ≡ false → HasFoundBelow code c owner (k + 1) (k + 1) new v
      found_without off =
          record {
            count = counted_with;
            copied = λ i less chosen through.
                ⊎_elim (λ e. both_ways (chosen_with found_below.count.chosen k b i)
                (ap (chosen_with found_below.count.chosen k b) e ∙ (with_here found_below.count.chosen k b ∙ off))
                chosen)
                (λ ne. found_below.copied i (omega arith) (sym (with_there found_below.count.chosen k b i ne) ∙ chosen) through) (cases_eq i k);
          }

    -- a cell that has the owner adds one to the indices found, of which this one is still to be copied
    found_one : cell ws k ≡ owner → HasFoundUpTo k k found → HasCounted k found → HasFoundUpTo (k + 1) k (one_more found)
    found_one has_owner h counted well_formed =
        let few = inv.good.few in
        let most = count_within p (IsFilledWith owner) k found events counted in
        let next : one_more found ≡ 1 + found = omega arith in
        found_with true (one_more found) next
        (λ e. filled_by (of_set scene) (inv_of_set scene inv) k below owner fits has_owner) (λ e. absurd (cc))
        (h well_formed)

    -- a cell without the owner adds nothing to the indices found, and the find has come past it
    pub found_none : cell ws k ≢ owner → HasFoundUpTo k k found → HasFoundUpTo (k + 1) (k + 1) found
    found_none = grind (arith, found_without, false)

  -- an index at which nothing has stood through the call need not be copied, so the find has come past it
  pub found_past : (k found : ℕ) → (WellFormed (before scene) → StoodThere p k events → ⊥) → HasFoundUpTo (k + 1) k found → HasFoundUpTo (k + 1) (k + 1) found
  found_past k found gone h well_formed =
      let g = h well_formed in
      record {
        count = g.count;
        copied =
            λ i less chosen through. ⊎_elim
            (λ e. absurd (gone well_formed (subst (λ n. StoodThere p n events) e through)))
            (λ ne. g.copied i (omega arith) chosen through) (cases_eq i k);
      }

  -- ---- what a step leads to

  -- the party's call under way is this find, at this stage, and has done nothing to the set
  pub record IsAtStage (stage : FindStage) : Type 0 where
    pub room : buffers.Buffer 128
    pub call : IsUnderWay scene (Find owner) (find_at c owner room stage)
    pub nothing : all scene ≡ []

  -- the party after the step by which the find comes to stage `next` with this room
  abbrev pub then_at : buffers.Buffer 128 → FindStage → Option Ask → Party T
  then_at room' next ask = party_then scene start ask false (GoOn (find_at c owner room' next))

  -- what the find sees after a step that writes nothing and leads to stage `next`
  abbrev SeesCalmly : buffers.Buffer 128 → FindStage → Option Ask → View T
  SeesCalmly room' next ask =
      sees_calmly scene ask false scene.states (then_at room' next ask)

  -- What has to be shown of a step that leaves the words, with which the find has come past index `k`: it has paid, is within its steps, has
  -- seen no index behind `k`, and has counted `found` indices up to `k` and copied what stood there.
  pub record ComesPast (k found : ℕ) (ask : Option Ask) : Type 0 where
    pub same : words_after ws ask ≡ ws
    pub below : k < c
    pub paid : IsPaid v
    pub few : steps + step_count ask ≤ (k + 1) * (z + 3)
    pub seen : AreBelow (k + 1) (seen_in (done scene))
    pub counted : HasCounted (k + 1) found
    pub has_found : HasFoundUpTo (k + 1) (k + 1) found

  -- the find is at `stage`
  module _ {stage : FindStage} (here : IsAtStage stage) where
    -- the find at its stage, as a call of the container
    abbrev pub as_given : Call T
    as_given = record { scene = scene; inv = inv; start = start; flight = find_at c owner here.room stage; no_look = tt; here = here.call }

    right_none : (words' : List ℕ) (y : Party T) → AreAllRight scene words' y []
    right_none = grind arith

    -- a step that leaves the words and writes nothing leads a find to the stage `next`, where the conditions
    -- of that stage hold
    calm_step : (room' : buffers.Buffer 128) (next : FindStage) (ask : Option Ask) → words_after ws ask ≡ ws
        → steps + step_count ask ≤ find_number z next → FindAt c z (all scene) (done scene) next
        → Knows code c (find_at c owner room' next) (SeesCalmly room' next ask)
        → Leads scene start ask false scene.states [] (GoOn (find_at c owner room' next))
    calm_step room' next ask same few stands known =
        let party_after = then_at room' next ask in
        goes_calmly scene (find_at c owner room' next) ask false here.call.span (record {
          does =
              silently as_given same tt tt
              (was_well_formed scene start tt here.call.span (words_after ws ask) party_after [] tt)
              (owes_none scene party_after here.call refl) (right_none (words_after ws ask) party_after);
          few = few;
          stands = (refl, refl, fits, stands);
          known = known;
        })

    -- a step that writes nothing leaves right what a find has counted and copied
    counts_calm : (room' : buffers.Buffer 128) (next : FindStage) (ask : Option Ask) {bound k number : ℕ}
        → IsPaid v × HasCounted bound number × HasFoundUpTo bound k number → Finds code c owner bound k number (SeesCalmly room' next ask)
    counts_calm room' next ask known =
        let (paid, counted, found) = known in (
          omega arith,
          counted,
          λ holds.
              let g = found (was_well_formed_calmly scene start tt here.call.span (then_at room' next ask) holds) in
              record { count = g.count; copied = g.copied },
        )

    -- a step that leaves the words ends a find that has no index left, with the number that it has counted
    pub ends_there : (ask : Option Ask) → words_after ws ask ≡ ws → (bound number : ℕ) → bound ≤ c → IsPaid v
        → steps + step_count ask ≤ c * (z + 3) → HasCounted bound number
        → Leads scene start ask false scene.states [] (Done (answers.Number number))
    ends_there ask same bound number within paid few counted =
        let party_after = party_then scene start ask false (Done (answers.Number number)) in
        let written : List (Event T) = Finished p (Container start) (answers.Number number) ∷ [] in
        ends scene (answers.Number number) ask false here.call.span (record {
          longer = none_lengthens;
          does =
              silently as_given same (tt, tt) (refl, tt)
              (was_well_formed scene start tt here.call.span (words_after ws ask) party_after written (refl, tt))
              (owes_none scene party_after here.call refl)
              (right_end scene (record { bound = bound; within = within; count = counted }) (λ h. tt));
          follows = ((refl, here.nothing), tt);
          few = few;
          paid = omega arith;
        })

    -- a step that leaves the words brings a find to the next index, or ends it behind the last one
    pub comes_to_next : IsLong here.room → (k found : ℕ) (ask : Option Ask) → ComesPast k found ask
        → Leads scene start ask false scene.states [] (as_find here.room (find_comes_to first (k + 1) found))
    comes_to_next long k found ask past =
        on_bool (λ b. Leads scene start ask false scene.states []
        (as_find here.room (if b then GoOn (at_find first (finds.LoadsCell (k + 1) found)) else Done found)))
        (nat_lt (k + 1) c)
        (λ t.
        let more : k + 1 < c = grind (arith, nat_tests) in
        calm_step here.room (finds.LoadsCell (k + 1) found) ask past.same past.few (here.nothing, more, past.seen)
        (long, counts_calm here.room (finds.LoadsCell (k + 1) found) ask (past.paid, past.counted, past.has_found)))
        (λ t.
        let below = past.below in
        let few = past.few in
        let all_of = times_below c k (z + 3) below in
        ends_there ask past.same (k + 1) found (omega arith) past.paid (omega arith) past.counted)

  -- ---- a cell is loaded

  -- the find loads the cell of index `k`, and has counted the indices below it
  module _ {k found : ℕ} (here : IsAtStage (finds.LoadsCell k found)) (long : IsLong here.room)
      (stands : FindAt c z (all scene) (done scene) (finds.LoadsCell k found))
      (knows : Finds code c owner k k found v) (few_steps : steps ≤ k * (z + 3)) where
    abbrev load_cell : Option Ask
    load_cell = Some (operations.loads (cell_word k))

    -- the step in which a find loads a cell: it goes on to the element if the cell has the owner, and else to
    -- the next index
    pub cell_step : StepOf scene start (find_at c owner here.room (finds.LoadsCell k found))
    cell_step =
        on_bool (λ b. Leads scene start (Some (operations.loads (cell_word k))) false scene.states []
        (as_find here.room (if b then GoOn (at_find first (finds.LoadsCount k (one_more found))) else find_comes_to first (k + 1) found)))
        (cell ws k == owner)
        (λ t.
        let has_owner : cell ws k ≡ owner = grind (arith, nat_tests) in
        calm_step here here.room (finds.LoadsCount k (one_more found)) load_cell (loads_same ws (cell_word k)) (omega arith) stands (
          long,
          (
            counts_calm here here.room (finds.LoadsCount k (one_more found)) load_cell (
              knows.0,
              one_counts k found stands.1 has_owner knows.1,
              found_one k found stands.1 has_owner knows.2 knows.1,
            ),
            held_now p (IsFilledWith owner k) events (filled_by (of_set scene) (inv_of_set scene inv) k stands.1 owner fits has_owner),
          ),
        ))
        (λ t.
        let other : cell ws k ≢ owner = grind (arith, nat_tests) in
        comes_to_next here long k found load_cell (record {
          same = loads_same ws (cell_word k);
          below = stands.1;
          paid = knows.0;
          few = omega arith;
          seen = below_more k (k + 1) _ (omega arith) stands.2;
          counted = none_counts k found stands.1 other knows.1;
          has_found = found_none k found stands.1 other knows.2;
        }))

  -- ---- the number of the element is loaded

  -- the cell of index `k` has the owner, and the find loads the number of the element
  module _ {k found : ℕ} (here : IsAtStage (finds.LoadsCount k found)) (long : IsLong here.room)
      (stands : FindAt c z (all scene) (done scene) (finds.LoadsCount k found))
      (knows : FindKnows code c owner here.room (finds.LoadsCount k found) v) (few_steps : steps ≤ 1 + k * (z + 3)) where
    abbrev pub number : ℕ
    number = count_in code c (before scene) k

    abbrev load_it : Option Ask
    load_it = Some (operations.loads (count_word c k))

    -- the step in which a find loads the number of an element: it passes the index under an even number, and
    -- goes on to the words under an odd one
    pub count_step : StepOf scene start (find_at c owner here.room (finds.LoadsCount k found))
    count_step =
        on_bool (λ b. Leads scene start (Some (operations.loads (count_word c k))) false scene.states []
        (as_find here.room (if b then find_comes_to first (k + 1) found else GoOn (at_find first (finds.LoadsWord k found number 0)))))
        (is_even number)
        -- the number is even: nothing stands at the index, and the find passes it
        (λ t.
        comes_to_next here long k found load_it (record {
          same = loads_same ws (count_word c k);
          below = stands.1;
          paid = knows.0.0;
          few = omega arith;
          seen = below_more k (k + 1) _ (omega arith) stands.2;
          counted = knows.0.1;
          has_found =
              found_past k found
              (λ holds through. both_ways (is_some (contents_of k events))
              (nothing_stands code c ws k (contents_of k events) (inv.elements.whole holds k stands.1) (even_is number t))
              (through_now p (λ part. is_some (contents_of k part) ≡ true) events through))
              knows.0.2;
        }))
        -- the number is odd: the find goes on to the first word
        (λ t.
        let some = inv.elements.coded.some in
        let same = loads_same ws (count_word c k) in
        let next = finds.LoadsWord k found number 0 in
        calm_step here here.room next load_it same (omega arith)
        (stands.0, (stands.1, stands.2, odd_is number t), omega arith) (
          long,
          (
            counts_calm here here.room next load_it knows.0,
            (λ holds through. ap (λ w. count_at c w k) same),
            copying_first code c stands.1 long (odd_is number t) (λ kept. omega (arith, ap (λ w. count_at c w k) same)),
            knows.1,
          ),
        ))

  -- ---- a word of it is loaded

  -- the find copies the element at index `k`, of which `at` words are read under the number `count`
  module _ {k found count at : ℕ} (here : IsAtStage (finds.LoadsWord k found count at))
      (stands : FindAt c z (all scene) (done scene) (finds.LoadsWord k found count at))
      (knows : FindKnows code c owner here.room (finds.LoadsWord k found count at) v) (few_steps : steps ≤ 2 + at + k * (z + 3)) where
    abbrev word : ℕ
    word = datum_in code c (before scene) k at

    abbrev room' : buffers.Buffer 128
    room' = kept_at here.room at word

    abbrev load_word : Option Ask
    load_word = Some (operations.loads (element_word c z k at))

    same_words : words_after ws load_word ≡ ws
    same_words = loads_same ws (element_word c z k at)

    -- after the load of a word, the copy has one word more
    copied_on : (next : FindStage) → Copying code c k count room'.words (at + 1) (SeesCalmly room' next load_word)
    copied_on next =
        copying_more code c stands.2 inv.elements.coded.few same_words (λ kept. kept)
        (was_well_formed_calmly scene start tt here.call.span (then_at room' next load_word)) knows.2

    -- after the load of a word, the element that stands at the index still has the number
    -- under which it is copied
    steady_on : (next : FindStage) → Steady code c k count (SeesCalmly room' next load_word)
    steady_on next holds through =
        ap (λ w. count_at c w k) same_words
        ∙ knows.1 (was_well_formed_calmly scene start tt here.call.span (then_at room' next load_word) holds)
        through

    -- after the load of a word, what the find has counted is still counted right
    counted_on : (next : FindStage) → Finds code c owner (k + 1) k found (SeesCalmly room' next load_word)
    counted_on next = counts_calm here room' next load_word knows.0

    long_on : IsLong room'
    long_on = length-set here.room.words at word ∙ knows.2.room

    -- the step in which a find loads a word: it goes on to the next word, or to the check of the number
    pub word_step : StepOf scene start (find_at c owner here.room (finds.LoadsWord k found count at))
    word_step =
        on_bool (λ b. Leads scene start (Some (operations.loads (element_word c z k at))) false scene.states []
        (as_find room' (if b then GoOn (at_find first (finds.LoadsWord k found count (at + 1))) else GoOn
        (at_find first (finds.ChecksCount k found count)))))
        (nat_lt (at + 1) z)
        -- a further word follows: the find goes on to it
        (λ t.
        let more : at + 1 < z = grind (arith, nat_tests) in
        let next = finds.LoadsWord k found count (at + 1) in
        calm_step here room' next load_word same_words (omega arith) (stands.0, stands.1, more)
        (long_on, (counted_on next, steady_on next, copied_on next, knows.3)))
        -- that was the last word: the find goes on to the check
        (λ t.
        let last : z ≤ at + 1 = grind (arith, nat_tests) in
        let ats = stands.2 in
        let is_last : at + 1 ≡ z = omega arith in
        let next = finds.ChecksCount k found count in
        calm_step here room' next load_word same_words (omega arith) (stands.0, stands.1) (
          long_on,
          (
            counted_on next,
            steady_on next,
            subst (λ n. Copying code c k count room'.words n (SeesCalmly room' next load_word)) is_last (copied_on next),
            knows.3,
          ),
        ))
