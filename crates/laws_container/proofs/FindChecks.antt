-- The last steps of a find at an index: it checks the number under which it has copied the element, and is
-- told whether to go on. At last, any step of a find, and any decision that one waits for. What a step has to
-- show is said by `StepOf` and `Leads` of `Stages`.
use Rattle.laws_container.proofs.Names.{◌≡◌, ◌≢◌, ⊎_elim, ℕ, ◌+◌, ◌*◌, ◌≤◌, ◌==◌, if◌then◌else◌, Bool, false, true}
use Rattle.laws_container.proofs.Names.{Option, Some, None, is_some, List, [], ◌∷◌, ◌++◌, set, refl, sym, ap, subst}
use Rattle.laws_container.proofs.Names.{◌∙◌, arith, cases_eq, nat_tests, set-get_or, Ask, GoOn, FindStage, at_find}
use Rattle.laws_container.proofs.Names.{find_comes_to, count_word, Event, Copied, ContainerStart, Copies, acts_of}
use Rattle.laws_container.proofs.Names.{contents_of, IsFilledWith, SetAct, IsOneOf, read_in, words_after, held_later}
use Rattle.laws_container.proofs.Names.{times_below, count_later, through_less, exchanges, exchange_sets, fails_same}
use Rattle.laws_container.proofs.Names.{still_one, last_one}
use Rattle.steps.specs.declared.ask.After.TheVariants.{Done}
use Rattle.steps.specs.declared.container.find.FindStage.TheVariants as finds
use Rattle.steps.specs.declared.copied.Buffer as buffers
use Rattle.model.specs.declared.families.container.ContainerStart.TheVariants.{Find}
use Rattle.laws_container.proofs.Copies.{copied_value}
use Rattle.laws_container.proofs.Invariant.{before}
use Rattle.laws_container.proofs.Knows.{View, FindKnows, Knows}
use Rattle.laws_container.proofs.Silent.{silently}
use Rattle.laws_container.proofs.Stages.{IsUnderWay, all, done, sees_now, StepOf, AnswerOf, Leads}
use Rattle.laws_container.proofs.Stages.{acts_more, goes_on}
use Rattle.laws_container.proofs.Stages.{owes_none, was_well_formed}
use Rattle.laws_container.proofs.CallProgress.{find_at, find_number, FindAt}
use Rattle.laws_container.proofs.Turns.{count_in}
use Rattle.laws_container.proofs.Finds.{Finding, IsAtStage, as_given, below_more, cell_step, comes_to_next}
use Rattle.laws_container.proofs.Finds.{count_step, ends_there, found_past, seen_more, then_at}
use Rattle.laws_container.proofs.Finds.{word_step, as_find, first}
use Rattle.lemmas.proofs.Cases.{on_bool}

-- the steps of one find, whose party sees `v` of the machine
module _ {T : Type 0} (finding : Finding T) where
  open finding use {scene, inv, owner, fits}
  open finding.scene use {coding as code, capacity as c, party as p, steps, events}

  abbrev ws : List ℕ
  ws = scene.words

  abbrev z : ℕ
  z = code.size

  abbrev start : ContainerStart T
  start = Find owner

  abbrev v : View T
  v = sees_now scene

  -- ---- its number is checked

  -- the find has read all words of the element at index `k` under the number `count`, and checks that number
  module _ {k found count : ℕ} (here : IsAtStage finding (finds.ChecksCount k found count))
      (stands : FindAt c z (all scene) (done scene) (finds.ChecksCount k found count))
      (knows : FindKnows code c owner here.room (finds.ChecksCount k found count) v) (few_steps : steps ≤ 2 + z + k * (z + 3)) where
    abbrev count_now : ℕ
    count_now = count_in code c (before scene) k

    abbrev check_it : Option Ask
    check_it = Some (exchanges (count_word c k) count count)

    abbrev value : T
    value = read_in code here.room

    abbrev copying : List (Event T)
    copying = Copied p k value ∷ []

    -- where the number is still the one under which the words were read, the copy is whole, and
    -- the find asks about it
    copies : count_now ≡ count → Leads scene start check_it false scene.states copying (GoOn (find_at c owner here.room (finds.Asks k found)))
    copies is =
        -- the check leaves the words, since it exchanges the number for itself
        let same : words_after ws check_it ≡ ws =
        exchange_sets ws (count_word c k) count count is ∙ (ap (set ws (count_word c k)) (sym is) ∙ set-get_or ws (count_word c k) 0) in
        let party_after = then_at finding here.room (finds.Asks k found) check_it in
        let well_formed = was_well_formed scene start tt here.call.span (words_after ws check_it) party_after copying (refl, tt) in
        let acts_then : acts_of p (events ++ copying) ≡ done scene ++ Copies k value ∷ [] =
        acts_more scene start here.call.span copying (refl, tt) (λ start w. refl) in
        goes_on scene (find_at c owner here.room (finds.Asks k found)) check_it false here.call.span (record {
          longer = λ start w. refl;
          does =
              silently (as_given finding here) same (tt, tt) (refl, tt) well_formed (owes_none scene party_after here.call refl)
              -- its event is right: the copy is the value that stands
              (record {
                asks = (tt, tt);
                recovers = (tt, tt);
                answers = (tt, tt);
                contains =
                    λ holds. (copied_value code c inv.elements.coded inv.elements.whole knows.2 is (well_formed holds), tt);
                places = λ holds. (tt, tt);
              });
          follows = (stands.1.1, tt);
          few = omega arith;
          stands = (
            -- where the find stands at its question: it has come past the index, and has done
            -- nothing to the set
            refl,
            refl,
            fits,
            (
              ap (λ (d : List SetAct). d ++ []) stands.0,
              stands.1.0,
              seen_more (k + 1) (done scene) (Copies k value) (below_more k (k + 1) _ (omega arith) stands.1.1) (omega arith, tt),
            ),
          );
          -- what the find knows at its question: it has copied the counted indices up to this one
          known = (
            knows.2.room,
            (
              (
                let paid = knows.0.0 in omega arith,
                count_later p (IsFilledWith owner) (k + 1) found events knows.0.1 copying tt,
                λ holds.
                    let g = knows.0.2 (well_formed holds) in
                    record {
                      count =
                          record {
                            chosen = g.count.chosen;
                            is = g.count.is;
                            once = λ i less chosen. held_later p (IsFilledWith owner i) events copying tt (g.count.once i less chosen);
                            through = λ i less through. g.count.through i less (through_less p (IsFilledWith owner i) events copying tt through);
                          };
                      copied = λ i less chosen through.
                          ⊎_elim (λ e. (
                            value,
                            subst (λ n. IsOneOf (Copies n value) (acts_of p (events ++ copying))) (sym e)
                                (subst (IsOneOf (Copies k value)) (sym acts_then) (last_one (Copies k value) (done scene))),
                          ))
                          (λ ne.
                          let had = g.copied i (omega arith) chosen (through_less p (λ part. is_some (contents_of i part) ≡ true) events copying tt through) in
                          (had.0, subst (IsOneOf (Copies i had.0)) (sym acts_then) (still_one (Copies i had.0) (done scene) (Copies k value ∷ []) had.1)))
                          (cases_eq i k);
                    },
              ),
              record { before = done scene; is = acts_then },
            ),
          );
        })

    -- a find whose check finds another number passes the index without a copy
    fails : count_now ≢ count → Leads scene start check_it false scene.states [] (as_find finding here.room (find_comes_to (first finding) (k + 1) found))
    fails other =
        comes_to_next finding here knows.2.room k found check_it (record {
          same = fails_same ws (count_word c k) count count other;
          below = stands.1.0;
          paid = knows.0.0;
          few = omega arith;
          seen = below_more k (k + 1) _ (omega arith) stands.1.1;
          counted = knows.0.1;
          has_found = found_past finding k found (λ holds through. other (knows.1 holds through)) knows.0.2;
        })

    -- the step in which a find checks the number: it asks about its copy if the number is the same, and else
    -- passes the index
    check_step : StepOf scene start (find_at c owner here.room (finds.ChecksCount k found count))
    check_step =
        on_bool (λ b. Leads scene start (Some (exchanges (count_word c k) count count)) false scene.states
        ((if b then Copied p k (read_in code here.room) ∷ [] else []) ++ [])
        (as_find finding here.room (if b then GoOn (at_find (first finding) (finds.Asks k found)) else find_comes_to (first finding) (k + 1) found)))
        (count_now == count)
        (λ t. let same_count : count_now ≡ count = grind (arith, nat_tests) in copies same_count)
        (λ t. let other : count_now ≢ count = grind (arith, nat_tests) in fails other)

  -- ---- it is told whether to go on

  -- the find is at its stage with this room, and has done nothing to the set
  abbrev is_at : (room : buffers.Buffer 128) (stage : FindStage) → IsUnderWay scene (Find owner) (find_at c owner room stage)
      → all scene ≡ [] → IsAtStage finding stage
  is_at room stage here nothing = record { room = room; call = here; nothing = nothing }

  -- a find that is told no ends with its count, and one that is told yes goes on to the next index
  pub find_decided : (room : buffers.Buffer 128) (k found : ℕ)
      → FindAt c z (all scene) (done scene) (finds.Asks k found)
      → IsUnderWay scene (Find owner) (find_at c owner room (finds.Asks k found))
      → Knows code c (find_at c owner room (finds.Asks k found)) v
      → steps ≤ find_number z (finds.Asks k found) → (answer : ℕ)
      → AnswerOf scene (Find owner) (find_at c owner room (finds.Asks k found)) None answer
  find_decided room k found stands here knows few_steps answer = go (answer == 0)
    where
      at_question : IsAtStage finding (finds.Asks k found)
      at_question = is_at room (finds.Asks k found) here stands.0

      -- the cases are whether the find was told no
      go : (b : Bool) → Leads scene start None false scene.states []
          (as_find finding room (if b then Done found else find_comes_to (first finding) (k + 1) found))
      go true = let all_of = times_below c k (z + 3) stands.1 in
          let below = stands.1 in
          ends_there finding at_question None refl (k + 1) found (omega arith) knows.1.0.0 (omega arith) knows.1.0.1
      go false =
          comes_to_next finding at_question knows.0 k found None (record {
            same = refl;
            below = stands.1;
            paid = knows.1.0.0;
            few = omega arith;
            seen = stands.2;
            counted = knows.1.0.1;
            has_found = knows.1.0.2;
          })

  -- ---- any step

  -- any step of a find, at whatever stage, keeps the invariant
  pub find_step : (room : buffers.Buffer 128) (stage : FindStage) → FindAt c z (all scene) (done scene) stage
      → IsUnderWay scene (Find owner) (find_at c owner room stage) → Knows code c (find_at c owner room stage) v
      → steps ≤ find_number z stage → StepOf scene (Find owner) (find_at c owner room stage)
  find_step room (finds.LoadsCell k found) stands here knows few_steps =
      cell_step finding (is_at room (finds.LoadsCell k found) here stands.0) knows.0 stands knows.1 few_steps
  find_step room (finds.LoadsCount k found) stands here knows few_steps =
      count_step finding (is_at room (finds.LoadsCount k found) here stands.0) knows.0 stands knows.1 few_steps
  find_step room (finds.LoadsWord k found count word) stands here knows few_steps =
      word_step finding (is_at room (finds.LoadsWord k found count word) here stands.0) stands knows.1 few_steps
  find_step room (finds.ChecksCount k found count) stands here knows few_steps =
      check_step (is_at room (finds.ChecksCount k found count) here stands.0) stands knows.1 few_steps
  find_step room (finds.Asks k found) stands here knows few_steps = find_decided room k found stands here knows few_steps 0
