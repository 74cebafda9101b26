-- What the steps of a container's calls on the words of elements do: a load, a hide, the store of a word, the
-- placing of a value, and an end that counts a change. Each is shown to keep the invariant (`KeepsInvariant`).
use Rattle.laws_container.proofs.Names.{◌≡◌, ◌≢◌, ⊎_elim, ℕ, ◌%◌, ◌<◌, true, false, Some, None, is_some, List, []}
use Rattle.laws_container.proofs.Names.{◌∷◌, ◌++◌, length, get_or, set, refl, sym, ap, subst, ◌∙◌, arith, cases_eq}
use Rattle.laws_container.proofs.Names.{fold-append, change_word, count_word, element_word, one_more, Answer, Event}
use Rattle.laws_container.proofs.Names.{Placed, Hidden, Finished, Container, Party, contents_after, contents_of}
use Rattle.laws_container.proofs.Names.{announced_after, announced_of, filled_of, flight_of, is_gone, at_same}
use Rattle.laws_container.proofs.Names.{at_other, both_ways}
use Rattle.laws_robust.proofs.Effects as set_effects
use Rattle.laws_robust.proofs.Invariant as set_invariant
use Rattle.laws_container.specs.Gone.{AnswersBy}
use Rattle.laws_container.proofs.Contents.{IsWhole, Writing, place_none, place_whole, hide_some, hide_whole}
use Rattle.laws_container.proofs.Effects.{OwesStill, Turn, LeavesReadings, calmly, counts_change, stores, IsCounted, counts_one, reads_same}
use Rattle.laws_container.proofs.HiddenKnows.{EndsRight}
use Rattle.laws_container.proofs.Invariant.{right_end, ActsFor, Elements, AreAllRight, KeepsInvariant, before, after, of_set, inv_of_set}
use Rattle.laws_container.proofs.Left.{left_after, left_of}
use Rattle.laws_container.proofs.Sets.{leaves_behind, quiet_placed, quiet_hidden}
use Rattle.laws_container.proofs.Stages.{Call, does_with}
use Rattle.laws_container.proofs.Turns.{owes, WellFormed, count_in, change_in}
use Rattle.laws_container.proofs.Writers.{IsWriter, one_writer}

-- `call` takes a step in the turn of the scene, after which its party is `y`
module _ {T : Type 0} (call : Call T) (y : Party T) where
  open call use {scene, inv, start, here}
  open call.scene use {coding as code, capacity as c, party as p, turns as turns, events as events}

  e : Elements code c (before scene) scene.states turns
  e = inv.elements

  -- the run was well-formed before the step if it is after it
  abbrev WellFormedBefore : List ℕ → List (Event T) → Type 0
  WellFormedBefore words' es = WellFormed (after scene words' y es) → WellFormed (before scene)

  -- of the empty list of events all are right
  pub right_none : {words' : List ℕ} → AreAllRight scene words' y []
  right_none = record { asks = tt; recovers = tt; answers = tt; contains = λ well_formed. tt; places = λ well_formed. tt }

  -- to write nothing changes no reading of the elements
  pub calm_none : {words' : List ℕ} (turn : Turn scene words' y []) → LeavesReadings turn
  calm_none turn = reads_same turn (λ i o. refl) (λ i b. refl) (λ i b. refl)

  -- the end of this call, which the set does not read, does nothing to the set
  pub end_does : {words' : List ℕ} {answer : Answer T} → set_effects.Leaves (of_set scene) words'
      → set_effects.Quiet (Finished p (Container start) answer ∷ [])
      → set_invariant.Does (of_set scene) words' (Finished p (Container start) answer ∷ [])
  end_does {words'} {answer} leaves quiet =
      set_effects.quietly (of_set scene) (inv_of_set scene inv) words' (Finished p (Container start) answer ∷ []) leaves quiet
      (refl, tt) (tt, tt) (tt, tt)

  -- ---- it changes nothing, and writes nothing

  -- a step that leaves the words and writes nothing keeps the invariant, if a raise that is owed to the
  -- changes is owed still
  pub loads : {words' : List ℕ} → words' ≡ scene.words → WellFormedBefore words' [] → OwesStill scene y → KeepsInvariant scene words' scene.states y []
  loads {words'} same well_formed still =
      let turn : Turn scene words' y [] = record { inv = inv; well_formed = well_formed } in
      does_with call
      (calmly turn (λ n behind. ap (λ w. get_or w n 0) same) (ap length same) (calm_none turn) still)
      (set_effects.quietly (of_set scene) (inv_of_set scene inv) words' []
      (set_effects.stays_same (of_set scene) (inv_of_set scene inv) words' same).leaves set_effects.quiet_none tt tt
      tt)
      (right_none)

  -- ---- a writer stores a word

  -- the step stores word `k` of `value` at index `i`, where its party may write for this owner and has stored the words before
  pub record StoresWord (words' : List ℕ) (i k : ℕ) (value : T) (owner : ℕ) : Type 0 where
    pub below : i < c
    pub word : k < code.size
    pub mine : WellFormed (before scene) → IsWriter p i owner events
    pub writing : WellFormed (before scene) → Writing code c scene.words i value k
    pub new : words' ≡ set scene.words (element_word c code.size i k) (get_or (code.words_of value) k 0)

  -- a store of the next word of a value, by a party that may write there, keeps the invariant
  pub stores_word : {words' : List ℕ} {i k : ℕ} {value : T} {owner : ℕ} → StoresWord words' i k value owner
      → WellFormedBefore words' [] → OwesStill scene y → KeepsInvariant scene words' scene.states y []
  stores_word {words'} {i} {k} {value} {owner} stored well_formed still =
      let turn : Turn scene words' y [] = record { inv = inv; well_formed = well_formed } in
      let below = stored.below in
      does_with call
      (stores turn stored.below stored.word owner stored.mine stored.writing stored.new (calm_none turn) still)
      (set_effects.quietly (of_set scene) (inv_of_set scene inv) words' []
      (leaves_behind (inv_of_set scene inv) words' (element_word c code.size i k) _ (omega arith) stored.new)
      set_effects.quiet_none tt tt tt)
      (right_none)

  -- ---- the number of an element changes

  -- the step raises the number of the element at index `i` by one, and its party owes the changes a raise after it
  pub record RaisesNumber (words' : List ℕ) (i : ℕ) : Type 0 where
    pub below : i < c
    pub new : words' ≡ set scene.words (count_word c i) (one_more (count_in code c (before scene) i))
    pub owed : owes (flight_of (Some y.doing)) ≡ true

  module _ {words' : List ℕ} {i : ℕ} (raises : RaisesNumber words' i) where
    open raises use {below, new, owed}

    abbrev n : ℕ
    n = count_in code c (before scene) i

    leaves : set_effects.Leaves (of_set scene) words'
    leaves = let low = raises.below in leaves_behind (inv_of_set scene inv) words' (count_word c i) (one_more n) (omega arith) new

    -- the number is odd, so the step hides what stands at the index
    module _ (odd : n % 2 ≡ 1)
        (stale : WellFormed (before scene) → (q : ℕ) → q ≢ p → (o : ℕ) → IsWriter q i o events → left_of i events ≡ false → ⊥)
        (well_formed : WellFormedBefore words' (Hidden p i ∷ [])) where
      hidden_here : contents_of i (events ++ Hidden p i ∷ []) ≡ None
      hidden_here = grind (arith, fold-append, at_same)

      abbrev hides_turn : Turn scene words' y (Hidden p i ∷ [])
      hides_turn = record { inv = inv; well_formed = well_formed }

      -- an odd number that is made even, with the event that the element is hidden, is counted right
      counted : IsCounted hides_turn below new (refl, tt) here.span owed
      counted =
          record {
            contents = λ a ne. fold-append (contents_after a) None events (Hidden p i ∷ []) ∙ at_other i a None (contents_of a events) ne;
            announced =
                λ holds a said. ⊎_elim (λ same. gone a same said) (λ ne. (
                  ne,
                  sym (fold-append (announced_after a) false events (Hidden p i ∷ []) ∙ at_other i a false (announced_of a events) ne) ∙ said,
                )) (cases_eq a i);
            left = λ a ne. fold-append (left_after a) true events (Hidden p i ∷ []);
            placed = λ holds q ne o theirs fresh some. stale (well_formed holds) q ne o theirs fresh;
            stood = λ holds was now. both_ways (is_some (contents_of i (events ++ Hidden p i ∷ []))) (ap is_some hidden_here) now;
            under =
                λ holds q ne a o theirs even same.
                let is : count_in code c (before scene) a ≡ n = ap (count_in code c (before scene)) same in
                absurd (omega arith);
            over = λ holds q ne o theirs. omega arith;
            lost = λ holds o dead filled. odd;
            whole =
                λ holds. subst (λ w. IsWhole code c w (events ++ Hidden p i ∷ [])) (sym new)
                (hide_whole code c scene.words events (e.whole (well_formed holds)) e.wide i below p (one_more n) (omega arith));
          }
        where
          -- nothing at the index is announced after it was hidden
          gone : {A : Type 0} → (a : ℕ) → a ≡ i → announced_of a (events ++ Hidden p i ∷ []) ≡ true → A
          gone = grind (arith, both_ways, fold-append, false, at_same)

      -- hiding what stands at an index keeps the invariant
      pub hides : KeepsInvariant scene words' scene.states y (Hidden p i ∷ [])
      hides =
          does_with call
          (counts_one hides_turn below new (refl, tt) here.span owed counted)
          (set_effects.quietly (of_set scene) (inv_of_set scene inv) words' (Hidden p i ∷ []) leaves
          (quiet_hidden (inv_of_set scene inv) i) (refl, tt) (tt, tt) (tt, tt))
          (record {
            asks = (tt, tt);
            recovers = (tt, tt);
            answers = (tt, tt);
            contains = λ holds. (hide_some code c scene.words events (e.whole (well_formed holds)) e.wide i below odd, tt);
            places = λ holds. (tt, tt);
          })

    -- the party has stored all words of its value, and the number is even, so the step places the value
    module _ {value : T} {owner : ℕ} (acts : ActsFor scene owner)
        (mine : WellFormed (before scene) → IsWriter p i owner events)
        (writing : WellFormed (before scene) → Writing code c scene.words i value code.size)
        (well_formed : WellFormedBefore words' (Placed p i value ∷ [])) where
      abbrev places_turn : Turn scene words' y (Placed p i value ∷ [])
      places_turn = record { inv = inv; well_formed = well_formed }

      nothing : WellFormed (before scene) → contents_of i events ≡ None
      nothing holds = place_none code c scene.words events (e.whole holds) e.wide i below (writing holds)

      no_other : {A : Type 0} → WellFormed (before scene) → (q : ℕ) → q ≢ p → (o : ℕ) → IsWriter q i o events → A
      no_other = grind (arith, one_writer)

      -- an index that an owner who is gone fills is not the one where the party places its value
      fills_it : {A : Type 0} → WellFormed (before scene) → (o : ℕ) → is_gone scene.terms.by o events ≡ true → filled_of i events ≡ Some o → A
      fills_it holds o dead filled = grind arith

      -- an even number that is made odd, with the event that the value is placed, is counted right
      placed_one : IsCounted places_turn below new (refl, tt) here.span owed
      placed_one =
          record {
            contents = λ a ne. fold-append (contents_after a) None events (Placed p i value ∷ []) ∙ at_other i a (Some value) (contents_of a events) ne;
            announced =
                λ holds a said. let was = sym (fold-append (announced_after a) false events (Placed p i value ∷ [])) ∙ said in
                (λ same. unannounced (well_formed holds) a same was, was);
            left = λ a ne. fold-append (left_after a) true events (Placed p i value ∷ []) ∙ at_other i a false (left_of a events) ne;
            placed = λ holds q ne o theirs fresh some. no_other (well_formed holds) q ne o theirs;
            stood = λ holds was now. both_ways (is_some (contents_of i events)) (ap is_some (nothing (well_formed holds))) was;
            under = λ holds q ne a o theirs even same. no_other (well_formed holds) q ne o (subst (λ b. IsWriter q b o events) same theirs);
            over = λ holds q ne o theirs. no_other (well_formed holds) q ne o theirs;
            lost = λ holds o dead filled. fills_it (well_formed holds) o dead filled;
            whole = λ holds.
                let w = writing (well_formed holds) in
                let even = w.even in
                subst (λ w. IsWhole code c w (events ++ Placed p i value ∷ [])) (sym new)
                (place_whole code c scene.words events (e.whole (well_formed holds)) e.wide i below p (one_more n) value w (omega arith));
          }
        where
          unannounced : WellFormed (before scene) → (a : ℕ) → a ≡ i → announced_of a events ≡ true → ⊥
          unannounced = grind (arith, both_ways, is_some, nothing)

      -- placing a value, by a party that may write there, keeps the invariant
      pub places : KeepsInvariant scene words' scene.states y (Placed p i value ∷ [])
      places =
          does_with call
          (counts_one places_turn below new (refl, tt) here.span owed placed_one)
          (set_effects.quietly (of_set scene) (inv_of_set scene inv) words' (Placed p i value ∷ []) leaves
          (quiet_placed (inv_of_set scene inv)) (refl, tt) (tt, tt) (tt, tt))
          (record {
            asks = (tt, tt);
            recovers = (tt, tt);
            answers = (tt, tt);
            contains = λ holds. (nothing (well_formed holds), tt);
            places = λ holds. (tt, tt);
          })

    -- the run is not well-formed after the step, so nothing has to be said of what stands
    module _ (well_formed : WellFormedBefore words' []) (ill_formed : WellFormed (after scene words' y []) → ⊥) where
      abbrev odd_turn : Turn scene words' y []
      odd_turn = record { inv = inv; well_formed = well_formed }

      miscounted : IsCounted odd_turn below new tt here.span owed
      miscounted = grind (arith, fold-append, left_after)

      -- a step that raises a number and writes nothing keeps the invariant, if the run is not
      -- well-formed after it
      pub misplaces : KeepsInvariant scene words' scene.states y []
      misplaces =
          does_with call
          (counts_one odd_turn below new tt here.span owed miscounted)
          (set_effects.quietly (of_set scene) (inv_of_set scene inv) words' [] leaves set_effects.quiet_none tt tt tt)
          (right_none)

  -- ---- the call ends

  -- the words after the number of changes is raised
  abbrev pub changed_words : List ℕ
  changed_words = set scene.words (change_word c) (one_more (change_in code c (before scene)))

  -- the step ends the call with `answer`, and keeps what holds of the set
  pub record EndsAs (words' : List ℕ) (answer : Answer T) : Type 0 where
    pub set_does : set_invariant.Does (of_set scene) words' (Finished p (Container start) answer ∷ [])
    -- the answer is right, and a call that has to place a value has placed it
    pub answers : AnswersBy scene.terms.by (set_invariant.IsWorn scene.terms.by words') c events (Finished p (Container start) answer)
    pub placed : WellFormed (after scene words' y (Finished p (Container start) answer ∷ [])) → EndsRight events (Finished p (Container start) answer)
    pub well_formed : WellFormedBefore words' (Finished p (Container start) answer ∷ [])

  module _ {words' : List ℕ} {answer : Answer T} (ends : EndsAs words' answer) where
    open ends use {set_does, answers, placed, well_formed}

    abbrev finish : List (Event T)
    finish = Finished p (Container start) answer ∷ []

    abbrev end_turn : Turn scene words' y finish
    end_turn = record { inv = inv; well_formed = well_formed }

    end_right : AreAllRight scene words' y finish
    end_right = right_end scene answers placed

    -- an end that raises the number of changes keeps the invariant, if all that is announced then stands
    pub ends_counted : words' ≡ changed_words
        → (WellFormed (before scene) → (i : ℕ)
        → announced_after i (announced_of i events) (Finished p (Container start) answer) ≡ true
        → is_some (contents_of i events) ≡ true)
        → KeepsInvariant scene words' scene.states y finish
    ends_counted new says =
        does_with call
        (counts_change end_turn new
        (λ i. fold-append (contents_after i) None events finish)
        (λ i. fold-append (left_after i) true events finish)
        (λ holds i said. says (well_formed holds) i (sym (fold-append (announced_after i) false events finish) ∙ said)))
        set_does end_right
