-- How a look goes over the indices, one step after another: how each step changes the state of its party, and
-- what holds of that state then. The caller of these lemmas (`get_state` or `update_state`) says what each
-- step leads to, in a record `Walker`.
use Rattle.laws_container.proofs.Names.{◌≡◌, ◌≢◌, ⊎_elim, inl, inr, ℕ, ◌+◌, ◌*◌, ◌%◌, ◌<◌, ◌≤◌, ◌==◌, if◌then◌else◌}
use Rattle.laws_container.proofs.Names.{nat_lt, Bool, true, false, not, Option, Some, None, List, [], ◌∷◌, ◌++◌}
use Rattle.laws_container.proofs.Names.{length, set, slice_index_or, refl, sym, ap, subst, ◌∙◌, append-nil, arith}
use Rattle.laws_container.proofs.Names.{ne_eqb, nat_tests, set-get_or, flat_map-append, Ask, After, GoOn, LookStage}
use Rattle.laws_container.proofs.Names.{ContainerState, change_word, count_word, element_word, is_even, look_asks}
use Rattle.laws_container.proofs.Names.{look_goes_back, look_comes_to, look_finds, look_after, with_change, with_word}
use Rattle.laws_container.proofs.Names.{Event, Copied, Party, Coding, ask_of, look_shows, shows, WasCopied, Act}
use Rattle.laws_container.proofs.Names.{Copies, seen_in, acts, contents_of, state_of, look_effects}
use Rattle.laws_container.proofs.Names.{copy_in, set_acts, old_of, words_after, step_count, some_none, loads}
use Rattle.laws_container.proofs.Names.{exchanges, loads_same, fails_same, exchange_sets}
use Rattle.steps.specs.declared.ask.After.TheVariants.{Done}
use Rattle.steps.specs.declared.container.look.Look.{Look}
use Rattle.steps.specs.declared.container.look.LookStage.TheVariants as stages
use Rattle.steps.specs.Picks.{by_test, by_eq}
use Rattle.laws_container.proofs.Contents.{WordsShow}
use Rattle.laws_container.proofs.Copies.{copying_first, copying_more, copied_value}
use Rattle.laws_container.proofs.Core.{count_at, change_at}
use Rattle.laws_container.proofs.LookSteps.{counting, count_put, counted_number, counted_none, counted_same, showing}
use Rattle.laws_container.proofs.LookSteps.{value_put, value_number, value_here, course_first, course_copying}
use Rattle.laws_container.proofs.LookSteps.{course_passed, course_word}
use Rattle.laws_container.proofs.Invariant.{Scene, Inv, before, view}
use Rattle.laws_container.proofs.KeptCopies.{HasCopied, ShowsOwn, copies_of, CallsOn, own_later}
use Rattle.laws_container.proofs.Knows.{IsPaid, Copying, CheckPaid, LookKnows, LookCopies}
use Rattle.laws_container.proofs.StateInvariant.{number_at, Rests, Course}
use Rattle.laws_container.proofs.Stages.{all, done, sees_now, since_then, changes_then, backs_then}
use Rattle.laws_container.proofs.CallProgress.{AreBelow, LookAt, look_number}
use Rattle.laws_container.proofs.Turns.{Now, WellFormed, count_in, datum_in, change_in}
use Rattle.laws_container.proofs.Writing.{even_is, odd_is}
use Rattle.lemmas.proofs.Cases.{on_bool}

-- ---- the indices that it has come to

-- indices below a bound are below a larger one
below_more : (b d : ℕ) → b ≤ d → (xs : List ℕ) → AreBelow b xs → AreBelow d xs
below_more b d more [] are_below = tt
below_more b d more (x ∷ xs) are_below = (let first = are_below.0 in omega arith, below_more b d more xs are_below.1)

below_both : (b : ℕ) (xs ys : List ℕ) → AreBelow b xs → AreBelow b ys → AreBelow b (xs ++ ys)
below_both b [] ys first_below second_below = second_below
below_both b (x ∷ xs) ys first_below second_below = (first_below.0, below_both b xs ys first_below.1 second_below)

pub not_even : (n : ℕ) → n % 2 ≡ 1 → is_even n ≡ false
not_even n odd = ne_eqb (n % 2) 0 (λ e. absurd (omega arith))

module _ {T : Type 0} where
  -- a look whose seen indices lie below `index`, and which copies at `index`, has seen
  -- indices below `index + 1`
  pub seen_copied : (index : ℕ) (value : T) (did : List (Act T)) → AreBelow index (seen_in did)
      → AreBelow (index + 1) (seen_in (did ++ Copies index value ∷ []))
  seen_copied = grind (arith, flat_map-append, below_both, below_more)

  -- a look whose seen indices lie below `index`, and which passes `index`, has seen indices below `index + 1`
  pub seen_passed : (index : ℕ) (did : List (Act T)) → AreBelow index (seen_in did) → AreBelow (index + 1) (seen_in (did ++ []))
  seen_passed = grind (arith, append-nil, below_more)

  pub seen_still : (index : ℕ) (did : List (Act T)) → AreBelow index (seen_in did) → AreBelow index (seen_in (did ++ []))
  seen_still index did are_below = subst (λ a. AreBelow index (seen_in a)) (sym (append-nil did)) are_below

  -- under an even number nothing stands
  pub nothing_stands : (code : Coding T) (c : ℕ) (words : List ℕ) (i : ℕ) (o : Option T) → WordsShow code c words i o → count_at c words i % 2 ≡ 0 → o ≡ None
  nothing_stands = grind arith

-- `scene` is a turn of party `p` with the machine before it, and `inv` what holds there; the
-- party's call is a look
module _ {T : Type 0} (scene : Scene T) (inv : Inv scene) where
  open scene use {coding as code, capacity as c, party as p, steps as steps, backs as backs, latest as latest, events as events}

  abbrev ws : List ℕ
  ws = scene.words

  abbrev m : Now T
  m = before scene

  -- the machine after a step of the look that writes a copy, or nothing: what it leaves as it was, and what
  -- its party knows still
  pub record IsAfterLookStep (m' : Now T) (what : Option (ℕ × T)) : Type 0 where
    -- the step leaves the words and what stands, and the run was well-formed before it
    pub well_formed : WellFormed m' → WellFormed m
    pub words : m'.words ≡ ws
    pub contents : (i : ℕ) → contents_of i m'.events ≡ contents_of i events
    -- what holds of a state that a look goes over, or that is at rest, holds of it after the step
    pub later : (s : ContainerState T) (k x : ℕ) → Course code c m p s k x → Course code c m' p s k x
    pub rests : (s : ContainerState T) → Rests code c m p s → Rests code c m' p s
    -- the party has copied `what`, and its call has gone on
    pub copied : (i : ℕ) (value : T) → what ≡ Some (i, value) → WasCopied p i value m'.events
    pub on : CallsOn p what events m'.events

  -- a copy that a look writes is of an index past those that it has seen, and in a well-formed run of the
  -- value that stands there
  abbrev pub IsRight : Option (ℕ × T) → Type 0
  IsRight None = Unit {0}
  IsRight (Some copy) =
      AreBelow copy.0 (seen_in (done scene)) × (WellFormed m → contents_of copy.0 events ≡ Some copy.1)

  -- the look of this container at a stage
  abbrev pub call_at : LookStage → Look T
  call_at stage = record { capacity = c; stage = stage; of = record {} }

  -- ---- what the caller shows

  -- what the caller shows: where a look leads that goes on to a stage, that ends behind the last index, or
  -- that ends since nothing has changed
  pub record Walker (s : ContainerState T) (ask : Option Ask) (Lead : Bool → List (Event T) → ContainerState T → After (Look T) Bool → Type 0) : Type 0 where
    pub goes : (next : LookStage) (back : Bool) (what : Option (ℕ × T)) (s' : ContainerState T) → IsRight what → words_after ws ask ≡ ws
        → LookAt c code.size (all scene ++ set_acts (copies_of p what)) (done scene ++ acts (copies_of p what)) next
        → steps + step_count ask ≤ look_number code.size next (backs_then scene back)
        → ((words' : List ℕ) (states' : List (ℕ × ContainerState T)) (latest' : List (ℕ × Party T)) (es' : List (Event T))
        → IsAfterLookStep (record { terms = scene.terms; words = words'; latest = latest'; events = es' }) what
        → state_of p states' ≡ Some s'
        → LookKnows code c next (view scene.terms words' states' latest' es' p (since_then scene ask) (changes_then scene ask) (backs_then scene back)))
        → Lead back (copies_of p what) s' (GoOn (call_at next))
    -- the look has gone over all indices, and answers true
    pub ends : (back : Bool) (what : Option (ℕ × T)) (s' : ContainerState T) → IsRight what → words_after ws ask ≡ ws → all scene ≡ []
        → steps + step_count ask ≤ 1 + c * (code.size + 2) + backs_then scene back * (code.size + 1)
        → backs_then scene back + since_then scene ask ≤ changes_then scene ask
        → ((m' : Now T) → IsAfterLookStep m' what → Course code c m' p s' c c)
        → Lead back (copies_of p what) s' (Done true)
    -- the number of changes is the one that the state has seen, and the look answers false
    pub stays : words_after ws ask ≡ ws → all scene ≡ [] → steps + step_count ask ≤ 1
        → backs_then scene false + since_then scene ask ≤ changes_then scene ask → Rests code c m p s
        → ShowsOwn p s c events → s.shown.change ≡ change_in code c m → Lead false [] s (Done false)

  -- `s` is the state of the party; `Lead` says what a step leads to, by whether it goes back, what it writes,
  -- the state that it leaves, and how the look goes on
  module _ (s : ContainerState T) (Lead : Bool → List (Event T) → ContainerState T → After (Look T) Bool → Type 0) where
    -- what the step of a look at this stage leads to, when it is handed `old`
    abbrev pub WalkOf : LookStage → Option Ask → ℕ → Type 0
    WalkOf stage ask old =
        Lead (look_goes_back stage old) (look_effects p (copy_in code s) stage old)
        (look_shows code (call_at stage) s old) (look_after code.size (call_at stage) s.seen old)

    -- what the step of a look at this stage leads to, when it is handed the word that it asks for
    abbrev pub WalkAt : LookStage → Type 0
    WalkAt stage = WalkOf stage (ask_of (look_asks code.size c stage)) (old_of ws (ask_of (look_asks code.size c stage)))

    module _ (none : all scene ≡ []) where
      -- ---- an index is done with

      -- the operation `ask` leaves the words, the look has paid for its turns back, and `index` is below the capacity
      record LeavesWords (ask : Option Ask) (back : Bool) (index : ℕ) : Type 0 where
        pub same : words_after ws ask ≡ ws
        pub paid : backs_then scene back + since_then scene ask ≤ changes_then scene ask
        pub below : index < c

      -- the look has such a step, and has done with `index`
      module _ (stage : LookStage) {ask : Option Ask} (walker : Walker s ask Lead) {back : Bool} {index : ℕ} (leaves : LeavesWords ask back index) where
        open leaves use {same, paid, below}

        none_more : (what : Option (ℕ × T)) → all scene ++ set_acts (copies_of p what) ≡ []
        none_more = grind arith

        -- a look that has done with an index comes to the next one, or ends behind the last
        comes_to : (what : Option (ℕ × T)) (s' : ContainerState T) → IsRight what
            → AreBelow (index + 1) (seen_in (done scene ++ acts (copies_of p what)))
            → steps + step_count ask ≤ 1 + (index + 1) * (code.size + 2) + backs_then scene back * (code.size + 1)
            → ((m' : Now T) → IsAfterLookStep m' what → Course code c m' p s' (index + 1) c)
            → Lead back (copies_of p what) s' (look_comes_to (call_at stage) (index + 1))
        comes_to what s' right seen few course =
            by_test (Lead back (copies_of p what) s') (nat_lt (index + 1) c) (GoOn (call_at (stages.LoadsCount (index + 1)))) (Done true)
            (λ t.
            let more : index + 1 < c = grind (arith, nat_tests) in
            walker.goes (stages.LoadsCount (index + 1)) back what s' right same (none_more what, more, seen) few
            (λ words' states' latest' es' comes found. (
              paid,
              record {
                state = s';
                found = found;
                course = course (record { terms = scene.terms; words = words'; latest = latest'; events = es' }) comes;
              },
            )))
            (λ t.
            let last : index + 1 ≡ c = grind (arith, nat_tests) in
            let total : (index + 1) * (code.size + 2) ≡ c * (code.size + 2) = ap (λ n. n * (code.size + 2)) last in
            walker.ends back what s' right same none (omega arith) paid (λ m' comes. subst (λ n. Course code c m' p s' n c) last (course m' comes)))

        -- ---- a number is found that is not the one seen

        -- the number at `index` is loaded; `x` is the index that the look was copying before, if any
        module _ (x : ℕ) (apart : (i : ℕ) → i ≢ index → i ≢ c → i ≢ x) (course : Course code c m p s index x)
            (seen : AreBelow index (seen_in (done scene)))
            (few : steps + step_count ask ≤ 2 + index * (code.size + 2) + backs_then scene back * (code.size + 1)) where
          abbrev n : ℕ
          n = count_in code c m index

          low : index < length s.shown.elements
          low = let wide = course.sight.wide in let less = leaves.below in omega arith

          abbrev s' : ContainerState T
          s' = counting s index low n

          -- after the step the number at the index is the one that was loaded
          count_same : (m' : Now T) (what : Option (ℕ × T)) → IsAfterLookStep m' what → count_in code c m' index ≡ n
          count_same m' what comes = ap (λ w. count_at c w index) comes.words

          number_is : (m' : Now T) (what : Option (ℕ × T)) → IsAfterLookStep m' what → number_at s' index ≡ count_in code c m' index
          number_is m' what comes = counted_number s index low n ∙ sym (count_same m' what comes)

          -- where the number is even the look has passed the index, and the state shows nothing there
          passed_even : is_even n ≡ true → (m' : Now T) → IsAfterLookStep m' None → Course code c m' p s' (index + 1) c
          passed_even even m' comes =
              course_passed code c m' p below (comes.later s index x course) (count_put s index low n) (number_is m' None comes) apart
              (λ value is. some_none (shows s' index) value (counted_none s index low n even) is)
              (λ well_formed.
              counted_none s index low n even
              ∙ sym (comes.contents index ∙ nothing_stands code c ws index (contents_of index events)
              (inv.elements.whole (comes.well_formed well_formed) index below) (even_is n even)))
              (λ getting value is. some_none (shows s' index) value (counted_none s index low n even) is)

          -- a look that finds at an index a number that the state has not seen copies the element if the
          -- number is odd, and passes it if it is even
          finds : Lead back [] s' (look_finds (call_at stage) index n)
          finds =
              on_bool (λ b. Lead back [] s' (if b then look_comes_to (call_at stage) (index + 1) else GoOn (call_at (stages.LoadsWord index n 0)))) (is_even n)
              (λ t.
              comes_to None s' tt (seen_passed index (done scene) seen) (omega arith) (passed_even t))
              (λ t.
              let some = inv.elements.coded.some in
              let odd = odd_is n t in
              walker.goes (stages.LoadsWord index n 0) back None s' tt same
              (none_more None, (below, seen_still index (done scene) seen, odd), omega arith) (omega arith)
              (λ words' states' latest' es' comes found.
              let m' : Now T = record { terms = scene.terms; words = words'; latest = latest'; events = es' } in
              let is = count_same m' None comes in (
                inl (is, paid),
                record {
                  looks =
                      record {
                        state = s';
                        found = found;
                        course =
                            course_copying code c m' p below (comes.later s index x course)
                            (count_put s index low n) (number_is m' None comes)
                            (λ i less ne. apart i ne (λ e. absurd (omega arith)));
                      };
                  number = counted_number s index low n;
                  copying =
                      copying_first code c below course.room odd (λ kept. omega arith);
                },
              )))

          -- the number is the one that the state has seen, so the state shows what stands at the index
          module _ (was : n ≡ number_at s index) (other : index ≢ x) where
            -- where the number is the one that the state has seen, the look has passed the index, and the
            -- state shows there what it showed
            passed_same : (m' : Now T) → IsAfterLookStep m' None → Course code c m' p s' (index + 1) c
            passed_same m' comes =
                let h = comes.later s index x course in
                course_passed code c m' p below h (count_put s index low n) (number_is m' None comes) apart
                (λ value is. h.sight.copied index value other (sym (counted_same s index low n was) ∙ is))
                (λ well_formed. counted_same s index low n was ∙ h.sight.same well_formed index below other (sym was ∙ sym (count_same m' None comes)))
                (λ getting value is. h.own getting index value other (sym (counted_same s index low n was) ∙ is))

            passes : Lead back [] s' (look_comes_to (call_at stage) (index + 1))
            passes = comes_to None s' tt (seen_passed index (done scene) seen) (omega arith) passed_same

      -- ---- the number of changes is loaded

      -- the step in which a look loads the number of changes: it ends if the state has seen that number, and
      -- else goes to the first index
      pub walks_change : Walker s (Some (loads (change_word c))) Lead → steps ≤ 0 → IsPaid (sees_now scene)
          → done scene ≡ [] → Rests code c m p s → ShowsOwn p s c events → WalkAt stages.LoadsChange
      walks_change walker few paid nothing rests own =
          by_eq (Lead false [] (record s { shown = with_change s.shown (change_in code c m) })) (change_in code c m)
          s.seen.change (Done false) (look_comes_to (call_at stages.LoadsChange) 0)
          (λ is.
          let same : change_in code c m ≡ s.shown.change = is ∙ rests.seen in
          subst (λ n. Lead false [] (record s { shown = with_change s.shown n }) (Done false)) (sym same)
          (walker.stays (loads_same ws (change_word c)) none (omega arith) (omega arith) rests own (sym same)))
          (λ other.
          by_test (Lead false [] (record s { shown = with_change s.shown (change_in code c m) })) (nat_lt 0 c)
          (GoOn (call_at (stages.LoadsCount 0))) (Done true)
          (λ t.
          let some = inv.good.some in
          walker.goes (stages.LoadsCount 0) false None
          (record s { shown = with_change s.shown (change_in code c m) }) tt (loads_same ws (change_word c))
          (ap (λ d. d ++ []) none, omega arith, ap_below nothing) (omega arith)
          (λ words' states' latest' es' comes found. (
            omega arith,
            record {
              state = record s { shown = with_change s.shown (change_in code c m) };
              found = found;
              course =
                  course_first code c (record { terms = scene.terms; words = words'; latest = latest'; events = es' })
                  p (change_in code c m) (sym (ap (change_at c) comes.words)) (comes.rests s rests)
                  (own_later comes.on s c own);
            },
          )))
          (λ t. let some = inv.good.some in let less : c ≤ 0 = grind (arith, nat_tests) in absurd (omega arith)))
        where
          ap_below : done scene ≡ [] → AreBelow 0 (seen_in (done scene ++ []))
          ap_below done_is_empty = subst (λ a. AreBelow 0 (seen_in (a ++ []))) (sym done_is_empty) tt

      -- ---- the number of an element is loaded

      -- the step in which a look loads the number of an element: it passes the index, or goes on to
      -- copy what stands there
      pub walks_count : (index : ℕ) → index < c → Walker s (Some (loads (count_word c index))) Lead
          → steps ≤ 1 + index * (code.size + 2) + backs * (code.size + 1) → IsPaid (sees_now scene)
          → AreBelow index (seen_in (done scene)) → Course code c m p s index c
          → WalkAt (stages.LoadsCount index)
      walks_count index below walker few paid seen course =
          let stage = stages.LoadsCount index in
          let ask = Some (loads (count_word c index)) in
          let leaves : LeavesWords ask false index =
          record { same = loads_same ws (count_word c index); paid = omega arith; below = below } in
          let unseen = course.unseen index (omega arith) below (λ e. absurd (omega arith)) in
          by_eq (Lead false [] (look_shows code (call_at stage) s (count_in code c m index)))
          (count_in code c m index) (slice_index_or s.seen.counts index 0)
          (look_comes_to (call_at stage) (index + 1)) (look_finds (call_at stage) index (count_in code c m index))
          (λ is. passes stage walker leaves c (λ i ne other. other) course seen (omega arith) (is ∙ unseen) (λ e. absurd (omega arith)))
          (λ other. finds stage walker leaves c (λ i ne other. other) course seen (omega arith))

      -- ---- a word of the element is loaded

      -- The look copies the element at `index`, of which `at` words are read under the odd number `count`: it is on its way over the
      -- indices, has seen none from this one on, has paid for a failed check, and what is read is the element's.
      pub record CopiesWord (index count at : ℕ) : Type 0 where
        pub below : index < c
        pub word : at < code.size
        pub odd : count % 2 ≡ 1
        pub few : steps ≤ 2 + at + index * (code.size + 2) + backs * (code.size + 1)
        pub paid : CheckPaid code c index count (sees_now scene)
        pub seen : AreBelow index (seen_in (done scene))
        pub course : Course code c m p s index index
        pub number : number_at s index ≡ count
        pub copying : Copying code c index count s.shown.copy at (sees_now scene)

      module _ {index count at : ℕ} (copies : CopiesWord index count at) where
        open copies use {below, word as ats, odd, few, paid, seen, course, number, copying}

        abbrev word_ask : Option Ask
        word_ask = Some (loads (element_word c code.size index at))

        same_words : words_after ws word_ask ≡ ws
        same_words = loads_same ws (element_word c code.size index at)

        abbrev with_it : ContainerState T
        with_it = record s { shown = with_word s.shown at (datum_in code c m index at) }

        -- after the load of a word, a failed check is still paid for by another party's change
        paid_then : (words' : List ℕ) (states' : List (ℕ × ContainerState T)) (latest' : List (ℕ × Party T)) (es' : List (Event T))
            → IsAfterLookStep (record { terms = scene.terms; words = words'; latest = latest'; events = es' }) None
            → CheckPaid code c index count
            (view scene.terms words' states' latest' es' p (since_then scene word_ask) (changes_then scene word_ask)
            (backs_then scene false))
        paid_then = grind (arith, inl, count_at, inr)

        -- after the load of a word the look has copied one word more, and a failed check is still paid for
        knows_then : (k : ℕ) → at + 1 ≡ k
            → (words' : List ℕ) (states' : List (ℕ × ContainerState T)) (latest' : List (ℕ × Party T)) (es' : List (Event T))
            → IsAfterLookStep (record { terms = scene.terms; words = words'; latest = latest'; events = es' }) None → state_of p states' ≡ Some with_it
            → CheckPaid code c index count
            (view scene.terms words' states' latest' es' p (since_then scene word_ask) (changes_then scene word_ask)
            (backs_then scene false))
            × LookCopies code c index count k
            (view scene.terms words' states' latest' es' p (since_then scene word_ask) (changes_then scene word_ask)
            (backs_then scene false))
        knows_then k is words' states' latest' es' comes found = (
          paid_then words' states' latest' es' comes,
          record {
            looks =
                record {
                  state = with_it;
                  found = found;
                  course =
                      course_word code c (record { terms = scene.terms; words = words'; latest = latest'; events = es' })
                      p at (datum_in code c m index at) (comes.later s index index course);
                };
            number = number;
            copying =
                subst (λ k. Copying code c index count with_it.shown.copy k
                (view scene.terms words' states' latest' es' p (since_then scene word_ask)
                (changes_then scene word_ask) (backs_then scene false)))
                is
                (copying_more code c ats inv.elements.coded.few comes.words (λ kept. kept)
                comes.well_formed copying);
          },
        )

        -- the step in which a look loads a word: it goes on to the next word, or to the check of the number
        pub walks_word : Walker s (Some (loads (element_word c code.size index at))) Lead → WalkAt (stages.LoadsWord index count at)
        walks_word walker =
            by_test (Lead false [] with_it) (nat_lt (at + 1) code.size)
            (GoOn (call_at (stages.LoadsWord index count (at + 1))))
            (GoOn (call_at (stages.ChecksCount index count)))
            -- a further word follows: the look goes on to it, with one word more in its copy
            (λ t.
            let more : at + 1 < code.size = grind (arith, nat_tests) in
            let allowed = few in
            walker.goes (stages.LoadsWord index count (at + 1)) false None with_it tt same_words
            (ap (λ d. d ++ []) none, (below, seen_still index (done scene) seen, odd), more) (omega arith) (knows_then (at + 1) refl))
            -- that was the last word: the look goes on to the check, with a whole copy
            (λ t.
            let last : code.size ≤ at + 1 = grind (arith, nat_tests) in
            let within = ats in
            let is_last : at + 1 ≡ code.size = omega arith in
            let allowed = few in
            walker.goes (stages.ChecksCount index count) false None with_it tt same_words
            (ap (λ d. d ++ []) none, (below, seen_still index (done scene) seen, odd)) (omega arith) (knows_then code.size is_last))

      -- ---- the number is exchanged for itself

      -- All words of the element at `index` are read under the odd number `count`, and the look checks that number by an exchange for
      -- itself: it is on its way over the indices, has seen none from this one on, has paid for a failed check, and its copy is whole.
      pub record ChecksNumber (index count : ℕ) : Type 0 where
        pub below : index < c
        pub odd : count % 2 ≡ 1
        pub few : steps ≤ 2 + code.size + index * (code.size + 2) + backs * (code.size + 1)
        pub paid : CheckPaid code c index count (sees_now scene)
        pub seen : AreBelow index (seen_in (done scene))
        pub course : Course code c m p s index index
        pub copying : Copying code c index count s.shown.copy code.size (sees_now scene)

      module _ {index count : ℕ} (checks : ChecksNumber index count) where
        abbrev check_ask : Option Ask
        check_ask = Some (exchanges (count_word c index) count count)

        abbrev value : T
        value = copy_in code s

        within : index < length s.shown.elements
        within = let wide = checks.course.sight.wide in let low = checks.below in omega arith

        abbrev shown_now : ContainerState T
        shown_now = showing s index within code.value_of code.size count

        -- the number is still the one under which the words were read
        module _ (same_number : count_in code c m index ≡ count) where
          -- the copy is the value that stands at the index
          stands_now : WellFormed m → contents_of index events ≡ Some value
          stands_now well_formed =
              copied_value code c inv.elements.coded inv.elements.whole
              checks.copying same_number well_formed

          same_count : words_after ws check_ask ≡ ws
          same_count = grind (arith, exchange_sets, set, set-get_or)

          -- where the number is the one under which it was copied, the look has passed the index, and the
          -- state shows the copy
          passed_copied : (m' : Now T) → IsAfterLookStep m' (Some (index, value)) → Course code c m' p shown_now (index + 1) c
          passed_copied m' comes =
              course_passed code c m' p checks.below (comes.later s index index checks.course)
              (value_put s index within code.value_of code.size count)
              (value_number s index within code.value_of code.size count ∙ sym (ap (λ w. count_at c w index) comes.words ∙ same_number)) (λ i ne other. ne)
              (λ shown e. let same : Some value ≡ Some shown =
              sym (value_here s index within code.value_of code.size count (not_even count checks.odd)) ∙ e in
              let eq : value ≡ shown = cc in
              subst (λ v. WasCopied p index v m'.events) eq (comes.copied index value refl))
              (λ well_formed. value_here s index within code.value_of code.size count (not_even count checks.odd)
              ∙ sym (comes.contents index ∙ stands_now (comes.well_formed well_formed)))
              (λ getting shown e. let same : Some value ≡ Some shown =
              sym (value_here s index within code.value_of code.size count (not_even count checks.odd)) ∙ e in
              let eq : value ≡ shown = cc in
              subst (λ v. HasCopied p index v m'.events) eq (comes.on.now index value refl))

        -- the step in which a look exchanges the number for itself: the state shows the copy if that number
        -- is there, and else the look loads it again
        pub walks_check : Walker s (Some (exchanges (count_word c index) count count)) Lead → WalkAt (stages.ChecksCount index count)
        walks_check walker =
            on_bool (λ b. Lead (not b) (if b then Copied p index (copy_in code s) ∷ [] else []) (record s {
              shown =
                  if b then shown_now.shown else (look_shows code (call_at (stages.LoadsCount index)) s (count_in code c m index)).shown;
            })
            (if b then look_comes_to (call_at (stages.ChecksCount index count)) (index + 1) else look_finds
            (call_at (stages.ChecksCount index count)) index (count_in code c m index)))
            (count_in code c m index == count)
            (λ t.
            let is : count_in code c m index ≡ count = grind (arith, nat_tests) in
            let paid_now : backs + scene.since ≤ scene.changes = ⊎_elim (λ k. k.1) (λ more. omega arith) checks.paid in
            let few = checks.few in
            let leaves : LeavesWords check_ask false index = record { same = same_count is; paid = omega arith; below = checks.below } in
            comes_to (stages.ChecksCount index count) walker leaves (Some (index, value)) shown_now (checks.seen, stands_now is)
            (seen_copied index value (done scene) checks.seen) (omega arith) (passed_copied is))
            (λ t.
            let other : count_in code c m index ≢ count = grind (arith, nat_tests) in
            let paid_now : backs + scene.since + 1 ≤ scene.changes = ⊎_elim (λ k. absurd (other k.0)) (λ more. more) checks.paid in
            let few = checks.few in
            let leaves : LeavesWords check_ask true index =
            record { same = fails_same ws (count_word c index) count count other; paid = omega arith; below = checks.below } in
            finds (stages.ChecksCount index count) walker leaves index (λ i ne out. ne) checks.course checks.seen (omega arith))
