-- The steps of a `set` of a bit set: it loads the element of its bit, and ends with false where the bit
-- stands; else it exchanges the element for one with the bit, and turns back to the test if another has
-- changed the element.
use Rattle.laws_bits.proofs.Names.{◌≡◌, ◌≢◌, ℕ, ◌+◌, ◌<◌, ◌≤◌, ◌==◌, Bool, true, false, Option, Some, List, [], ◌∷◌}
use Rattle.laws_bits.proofs.Names.{length, get_or, set, refl, sym, ap, ◌∙◌, get_or-set_other, nat_tests, Ask, Load}
use Rattle.laws_bits.proofs.Names.{Exchange, After, GoOn, Done, SetStage, element_of, elements, has_flag, with_flag}
use Rattle.laws_bits.proofs.Names.{stands, set_stands, set_leaves, elements_after, Answer, Event, Finished, Bits}
use Rattle.laws_bits.proofs.Names.{BitsFlight, Coding, after, goes_back, sets, standing, effects_of, one_if}
use Rattle.laws_bits.proofs.Names.{words_after, held_now}
use Rattle.std.proofs.Common.{arith}
use Rattle.steps.specs.declared.bits.bit_set.SetStage.TheVariants as setting
use Rattle.model.specs.declared.event.Answer.TheVariants as answers
use Rattle.model.specs.declared.event.Event.TheVariants as told
use Rattle.model.specs.declared.families.bits.BitsStart.TheVariants as starts
use Rattle.laws_bits.proofs.Bits.Invariant.{Holds, bit_set}
use Rattle.laws_bits.proofs.Bits.Knows.{SetStands, KnowsSet, set_at, set_number}
use Rattle.model.proofs.Counts.{as_long}
use Rattle.laws_bits.proofs.Bits.Steps.{same_bits, ends, pays_by}
use Rattle.laws_bits.proofs.Family.{SetScene, StepShows, ShowsStep}
use Rattle.laws_bits.proofs.Words.{load_leaves, failed_leaves, done_writes}

-- a bit below the capacity has its element among the words
pub element_near : (c bit : ℕ) (words : List ℕ) → length words ≡ 1 + elements c → bit < c → element_of bit < length words
element_near = omega arith

-- the set of `bit` in the turn of the scene; the machine's words are as its events say
module _ {T : Type 0} (code : Coding T) {c : ℕ} (scene : SetScene T) (holds : Holds c scene.state.words scene.events) (bit : ℕ) (below : bit < c) where
  open scene use {state as s, events, party as p, changes, since, steps, backs}

  abbrev element : ℕ
  element = element_of bit

  abbrev word : ℕ
  word = get_or s.words element 0

  -- what a step with the operation `ask` has to show, by what becomes of the set and which events it writes
  abbrev ShowsWith : Option Ask → Bool → After BitsFlight (Answer T) → List (Event T) → Type 0
  ShowsWith ask back after fx = StepShows bit_set code c scene [] (starts.Set bit) ask back after fx

  -- what a step of the set at this stage has to show
  abbrev StageShows : SetStage → Type 0
  StageShows stage = ShowsStep bit_set code c scene [] (starts.Set bit) (set_at bit stage)

  -- a bit that stands in the words stands by the events
  stood_now : has_flag word bit ≡ true → standing bit events ≡ 1
  stood_now = grind arith

  -- ---- the test of the element, after a step that leaves the words

  -- the step leaves the words, and has read the element
  module _ (a : Ask) (back : Bool) (same : words_after s.words (Some a) ≡ s.words) (paid : backs + one_if back + since ≤ changes) where
    -- where the bit stands the set ends with false
    stood : steps + 1 ≤ 2 + (backs + one_if back) → has_flag word bit ≡ true → ShowsWith (Some a) back (Done (answers.Truth false)) []
    stood = grind (arith, ends, false, same_bits, same, held_now, standing, stood_now)

    -- where the bit is clear the set goes on to the exchange of the element
    clear : steps + 1 ≤ 1 + (backs + one_if back) → has_flag word bit ≡ false
        → ShowsWith (Some a) back (GoOn (set_at bit (setting.ExchangesElement word))) []
    clear = grind arith

  -- ---- the steps

  abbrev loading : Ask
  loading = record { word = element; op = Load }

  -- the step in which a set loads its element: it ends with false where the bit stands, and else
  -- goes on to the exchange
  loads : backs + since ≤ changes → steps ≤ backs → StageShows setting.LoadsElement
  loads paid few = go (has_flag word bit) refl
    where
      -- the cases are whether the bit is set
      go : (t : Bool) → has_flag word bit ≡ t → StageShows setting.LoadsElement
      go true flag_test = rw flag_test (stood loading false (load_leaves s.words element) (omega arith) (omega arith) flag_test)
      go false flag_test = rw flag_test (clear loading false (load_leaves s.words element) (omega arith) (omega arith) flag_test)

  abbrev exchanging : ℕ → Ask
  exchanging found = record { word = element; op = Exchange found (with_flag found bit) }

  abbrev truth : Event T
  truth = Finished p (Bits (starts.Set bit)) (answers.Truth true)

  -- an exchange that finds the element unchanged sets the bit, and ends the set with true
  sets_it : (found : ℕ) → has_flag found bit ≡ false → (word == found) ≡ true → backs + since ≤ changes
      → steps ≤ 1 + backs
      → ShowsWith (Some (exchanging found)) false (Done (answers.Truth true)) (told.Set p bit ∷ [])
  sets_it found was word_is_found paid few =
      record {
        preserves = record {
          sized = as_long s.words (Some (exchanging found));
          moved = λ b. moved b (bit == b) refl;
          within = λ b past. (let word_is_found : (bit == b) ≡ false = grind (arith, nat_tests) in rw word_is_found refl);
          position = ap (λ ws. get_or ws 0 0) new ∙ get_or-set_other s.words element 0 (with_flag word bit) 0 (λ e. elements_after bit (sym e));
          pays = pays_by s.words (Some (exchanging found)) changes;
          right = (tt, (tt, tt));
        };
        own = (refl, (refl, tt));
        stands = ((refl, refl), ((refl, (refl, one)), tt));
        here = record { answer = answers.Truth true; wrote = told.Set p bit ∷ []; span = refl; steps = omega arith };
        knows = omega arith;
      }
    where
      same : found ≡ word
      same = grind (arith, nat_tests)

      near : element < length s.words
      near = element_near c bit s.words holds.sized below

      then : List ℕ
      then = words_after s.words (Some (exchanging found))

      new : then ≡ set s.words element (with_flag word bit)
      new = grind (arith, done_writes, with_flag, set, same)

      one : sets {T = T} bit (told.Set p bit ∷ []) ≡ 1
      one = let word_is_found : (bit == bit) ≡ true = grind (arith, nat_tests) in rw word_is_found refl

      -- by the exchange this bit is set, and no other bit changes
      moved : (b : ℕ) (u : Bool) → (bit == b) ≡ u
          → sets {T = T} b (told.Set p bit ∷ truth ∷ []) + one_if (stands s.words b) ≡ 0 + one_if (stands then b)
      moved b true place_test =
          let here : bit ≡ b = grind (arith, nat_tests) in
          let before : stands s.words b ≡ false = ap (λ n. stands s.words n) (sym here) ∙ (ap (λ n. has_flag n bit) (sym same) ∙ was) in
          let after : stands then b ≡ true =
          ap (λ ws. stands ws b) new
          ∙ (ap (λ n. stands (set s.words element (with_flag word bit)) n) (sym here) ∙ set_stands s.words bit near) in
          rw (place_test, before, after) refl
      moved b false place_test =
          let other : bit ≢ b = grind (arith, nat_tests) in
          let after : stands then b ≡ stands s.words b = ap (λ ws. stands ws b) new ∙ set_leaves s.words bit b near other in
          rw (place_test, after) refl

  -- the step in which a set exchanges its element: it ends with true if the element was unchanged; else it
  -- ends with false or tries again, by whether the bit stands now
  exchanges : (found : ℕ) → has_flag found bit ≡ false → backs + since ≤ changes
      → (word ≢ found → backs + since + 1 ≤ changes) → steps ≤ 1 + backs
      → StageShows (setting.ExchangesElement found)
  exchanges found was paid more few = go (word == found) refl (has_flag word bit) refl
    where
      stage : SetStage
      stage = setting.ExchangesElement found

      -- the step keeps the invariant if `ShowsWith` holds of what is told of it: whether it turns back, what
      -- becomes of the call, and its events
      parts : (back : Bool) (then : After BitsFlight (Answer T)) (fx : List (Event T))
          → goes_back (set_at bit stage) word ≡ back → after (set_at bit stage) word ≡ then
          → effects_of p (set_at bit stage) word ≡ fx → ShowsWith (Some (exchanging found)) back then fx → StageShows stage
      parts = grind arith

      -- the cases are whether the word is still what was read and whether the bit is set
      go : (t : Bool) → (word == found) ≡ t → (u : Bool) → has_flag word bit ≡ u → StageShows stage
      go true element_test u flag_test =
          parts false (Done (answers.Truth true)) (told.Set p bit ∷ []) (rw element_test refl) (rw element_test refl)
          (rw element_test refl) (sets_it found was element_test paid few)
      go false element_test true flag_test =
          let differs : word ≢ found = grind (arith, nat_tests) in
          let next = more differs in
          parts true (Done (answers.Truth false)) [] (rw element_test refl) (rw (element_test, flag_test) refl) (rw element_test refl)
          (stood (exchanging found) true (failed_leaves s.words element found (with_flag found bit) element_test) (omega arith) (omega arith) flag_test)
      go false element_test false flag_test =
          let differs : word ≢ found = grind (arith, nat_tests) in
          let next = more differs in
          parts true (GoOn (set_at bit (setting.ExchangesElement word))) [] (rw element_test refl) (rw (element_test, flag_test) refl) (rw element_test refl)
          (clear (exchanging found) true (failed_leaves s.words element found (with_flag found bit) element_test) (omega arith) (omega arith) flag_test)

  -- any step of a set, at whatever stage, keeps the invariant
  pub set_step : (stage : SetStage) → SetStands bit stage → KnowsSet s.words since changes backs bit stage → steps ≤ set_number stage backs → StageShows stage
  set_step setting.LoadsElement stands knows few = loads knows few
  set_step (setting.ExchangesElement found) stands knows few = exchanges found stands knows.0 knows.1 few
