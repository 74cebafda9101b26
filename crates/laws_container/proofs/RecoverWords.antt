-- The steps of a recovery by which it reads the words of an element, checks the number of the element by an
-- exchange for itself, and is told whether to free the index. What a step has to show is said by `StepOf` and
-- `Leads` of `Stages`.
use Rattle.laws_container.proofs.Names.{◌≡◌, ◌≢◌, ⊎_elim, inl, inr, ℕ, ◌+◌, ◌*◌, ◌<◌, ◌≤◌, ◌==◌, if◌then◌else◌}
use Rattle.laws_container.proofs.Names.{nat_lt, false, true, not, Option, Some, None, List, [], ◌∷◌, ◌++◌, set, fold}
use Rattle.laws_container.proofs.Names.{refl, sym, ap, subst, ◌∙◌, append-nil, append_assoc, arith, nat_tests}
use Rattle.laws_container.proofs.Names.{set-get_or, length-set, flat_map-append, fold-append, Ask, GoOn, RecoverStage}
use Rattle.laws_container.proofs.Names.{count_word, element_word, is_even, recover_comes_to, recover_sees, Event}
use Rattle.laws_container.proofs.Names.{Asked, Told, Copied, Shown, Container, ContainerStart, Copies, Sees, act}
use Rattle.laws_container.proofs.Names.{acts, acts_of, IsFilledWith, IsUnlocked, Frees, Asks, Yes, set_act, set_acts}
use Rattle.laws_container.proofs.Names.{set_acts_of, filled_after, IsOneOf, asked_in, read_in, kept_at, Open}
use Rattle.laws_container.proofs.Names.{own_after, words_after, held_later, gone_more, IsWorn, was_one, last_one}
use Rattle.laws_container.proofs.Names.{loads_same, exchanges, exchange_sets, fails_same, still_one, one_of_none}
use Rattle.steps.specs.declared.container.recover.RecoverStage.TheVariants as recovers
use Rattle.steps.specs.declared.copied.Buffer as buffers
use Rattle.model.specs.declared.families.container.ContainerStart.TheVariants.{Recover}
use Rattle.lemmas_owners.proofs.Operations as operations
use Rattle.laws_container.proofs.Copies.{copying_more, copied_value}
use Rattle.laws_container.proofs.Core.{count_at}
use Rattle.laws_container.proofs.HiddenKnows.{RecoverCovers}
use Rattle.laws_container.proofs.Invariant.{before, after, wrote_of}
use Rattle.laws_container.proofs.KeptLocks.{NoIndex, FilledBut}
use Rattle.laws_container.proofs.Knows.{View, WasFilled, Copying, CheckPaid, Recovers, RecoverKnows, IsLong}
use Rattle.laws_container.proofs.RecoverParts.{Recovery, IsAtStage, OwnStep, fill_same, none, as_recover, first, then_at, reads_does}
use Rattle.laws_container.proofs.RecoverParts.{go_on, recs, fills_on, asked_on, asked_more, hidden_then, covers_then}
use Rattle.laws_container.proofs.Recoveries.{course_then}
use Rattle.laws_container.proofs.Stages.{none_lengthens, all, done, sees_now, then_sees, StepOf, AnswerOf, Leads}
use Rattle.laws_container.proofs.Stages.{set_acts_more, acts_more}
use Rattle.laws_container.proofs.Stages.{was_well_formed}
use Rattle.laws_container.proofs.CallProgress.{recover_at, for_back, for_index, AreBelow, RecoverAt}
use Rattle.laws_container.proofs.Turns.{count_in, datum_in}
use Rattle.laws_container.proofs.RecoverReads.{LeadsToStage, LeadsOn, LeavesWords, FindsNumber, silent_step}
use Rattle.laws_container.proofs.RecoverReads.{back_at_least, calm_next, calm_on, calm_recs, course_calm, index_at_least, sees_number}
use Rattle.lemmas.proofs.Cases.{on_bool}

-- a recovery of `owner` in mode `mode` is under way, by party `p` of the scene
module _ {T : Type 0} (recovery : Recovery T) where
  open recovery use {scene, inv, owner, mode}
  open recovery.scene use {coding as code, capacity as c, party as p, steps, backs, events, latest}

  abbrev ws : List ℕ
  ws = scene.words

  abbrev z : ℕ
  z = code.size

  -- ---- a word of the element

  -- the recovery copies the element at `index`, of which `at` words are read under the number `count`
  module _ {index count at : ℕ} (here : IsAtStage recovery (recovers.LoadsWord index count at))
      (stands : RecoverAt c z (all scene) (done scene) owner mode (recovers.LoadsWord index count at))
      (knows : RecoverKnows code c owner mode here.room (recovers.LoadsWord index count at) (sees_now scene))
      (few_steps : steps ≤ 3 + at + index * for_index c z mode + backs * for_back c z mode)
      (filled_since : FilledBut (IsWorn scene.terms.by ws) mode p owner NoIndex events) where
    abbrev word : ℕ
    word = datum_in code c (before scene) index at

    abbrev room' : buffers.Buffer 128
    room' = kept_at here.room at word

    abbrev load_word : Option Ask
    load_word = Some (operations.loads (element_word c z index at))

    leaves : LeavesWords recovery load_word false
    leaves =
        record { same = loads_same ws (element_word c z index at); paid = ⊎_elim (λ h. let paid = h.1 in omega arith) (λ h. omega arith) knows.0 }

    same_words : words_after ws load_word ≡ ws
    same_words = leaves.same

    long_word : IsLong room'
    long_word = length-set here.room.words at word ∙ here.long

    -- what the recovery sees after the load, by which it comes to the stage `next`
    abbrev SeesThen : RecoverStage → View T
    SeesThen next = then_sees scene load_word false scene.states (then_at recovery room' next load_word false) []

    -- what a recovery knows of its copy, and of the indices below, after it has read one word more
    knows_word : (next : RecoverStage) {n : ℕ} → n ≡ at + 1
        → CheckPaid code c index count (SeesThen next) × Recovers code c owner index none none (SeesThen next)
        × WasFilled owner index (SeesThen next) × Copying code c index count room'.words n (SeesThen next)
        × RecoverCovers code c owner index count
        (after scene (words_after ws load_word) (then_at recovery room' next load_word false) [])
    knows_word next is =
        let party_after = then_at recovery room' next load_word false in
        let step : OwnStep recovery load_word false party_after [] = silent_step recovery false party_after [] same_words tt tt tt none_lengthens in (
          ⊎_elim (λ h. let paid = h.1 in inl (ap (λ w. count_at c w index) same_words ∙ h.0, omega arith)) (λ h. inr (omega arith)) knows.0,
          calm_recs recovery here leaves party_after index knows.1,
          held_later p (IsFilledWith owner index) events [] tt knows.2,
          subst (λ m. Copying code c index count room'.words m (SeesThen next)) (sym is)
              (copying_more code c stands.2 inv.elements.coded.few
              same_words (λ kept. kept)
              (was_well_formed scene (Recover owner mode) tt here.call.span (words_after ws load_word) party_after [] tt) knows.3),
          covers_then recovery here step index count
              (ap (λ w. count_at c w index) same_words) (fold-append (filled_after index) None events []) knows.4,
        )

    -- the step in which a recovery loads a word: it goes on to the next word, or to the check of the number
    pub word_step : StepOf scene (Recover owner mode) (recover_at c owner mode here.room (recovers.LoadsWord index count at))
    word_step =
        on_bool (λ b. Leads scene (Recover owner mode) (Some (operations.loads (element_word c z index at))) false
        scene.states []
        (as_recover recovery room'
        (if b then GoOn (record (first recovery) { stage = recovers.LoadsWord index count (at + 1) }) else GoOn
        (record (first recovery) { stage = recovers.ChecksCount index count }))))
        (nat_lt (at + 1) z)
        (λ t.
        let more : at + 1 < z = grind (arith, nat_tests) in
        calm_on recovery here leaves room' (recovers.LoadsWord index count (at + 1)) (omega arith)
        (course_calm recovery index index index index stands.0 stands.0.within (omega arith), stands.1, more) (
          long_word,
          knows_word (recovers.LoadsWord index count (at + 1)) refl,
          fill_same recovery load_word same_words NoIndex filled_since,
        ))
        (λ t.
        let last : z ≤ at + 1 = grind (arith, nat_tests) in
        let ats = stands.2 in
        calm_on recovery here leaves room' (recovers.ChecksCount index count) (omega arith)
        (course_calm recovery index index index index stands.0 stands.0.within (omega arith), stands.1) (
          long_word,
          knows_word (recovers.ChecksCount index count) (omega arith),
          fill_same recovery load_word same_words NoIndex filled_since,
        ))

  -- ---- the number of the element is checked

  -- the recovery has read all words of the element at `index` under the number `count`
  module _ {index count : ℕ} (here : IsAtStage recovery (recovers.ChecksCount index count))
      (stands : RecoverAt c z (all scene) (done scene) owner mode (recovers.ChecksCount index count))
      (knows : RecoverKnows code c owner mode here.room (recovers.ChecksCount index count) (sees_now scene))
      (few_steps : steps ≤ 3 + z + index * for_index c z mode + backs * for_back c z mode)
      (filled_since : FilledBut (IsWorn scene.terms.by ws) mode p owner NoIndex events) where
    abbrev check_it : Option Ask
    check_it = Some (exchanges (count_word c index) count count)

    abbrev count_now : ℕ
    count_now = count_in code c (before scene) index

    abbrev value : T
    value = read_in code here.room

    abbrev asking : List (Event T)
    asking = Copied p index value ∷ Asked p index owner ∷ []

    -- a copy and a question make the span of an open call longer, and do not end it
    asking_longer : (start : ContainerStart T) (w : List (Event T))
        → fold own_after (Open (Container start) w) (Copied p index value ∷ Asked p index owner ∷ [])
        ≡ Open (Container start) (w ++ Copied p index value ∷ Asked p index owner ∷ [])
    asking_longer = grind (arith, append_assoc)

    -- where the number is still the one under which the words were read, the copy is whole, and the recovery
    -- asks about it
    asks : count_now ≡ count → LeadsToStage recovery check_it false asking here.room (recovers.Asks index count)
    asks is =
        -- the check leaves the words, since it exchanges the number for itself
        let same : words_after ws check_it ≡ ws =
        exchange_sets ws (count_word c index) count count is
        ∙ (ap (set ws (count_word c index)) (sym is) ∙ set-get_or ws (count_word c index) 0) in
        let party_after = then_at recovery here.room (recovers.Asks index count) check_it false in
        let step : OwnStep recovery check_it false party_after asking =
        silent_step recovery false party_after asking same (tt, (tt, tt)) (refl, (refl, tt)) tt asking_longer in
        -- with this step the recovery has copied the element, and has asked about it
        let set_acts_then : set_acts_of p (events ++ asking) ≡ all scene ++ Asks index owner ∷ [] =
        set_acts_more scene (Recover owner mode) here.call.span asking (refl, (refl, tt)) asking_longer in
        let acts_then : acts_of p (events ++ asking) ≡ done scene ++ Copies index value ∷ [] =
        acts_more scene (Recover owner mode) here.call.span asking (refl, (refl, tt)) asking_longer in
        let copy_acts : acts (wrote_of p events ++ Copied p index value ∷ []) ≡ done scene ++ Copies index value ∷ [] =
        flat_map-append act (wrote_of p events) (Copied p index value ∷ []) in
        let copy_set_acts : set_acts (wrote_of p events ++ Copied p index value ∷ []) ≡ all scene =
        flat_map-append set_act (wrote_of p events) (Copied p index value ∷ []) ∙ append-nil (all scene) in
        go_on recovery here here.room (recovers.Asks index count) check_it false (record {
          longer = asking_longer;
          -- its events are right: the copy is the value that stands, and the question is of an
          -- index that its owner had
          does = reads_does recovery here same (tt, (tt, tt)) (refl, (refl, tt)) (record {
            asks = (
              tt,
              (
                (
                  held_later p (IsFilledWith owner index) events (Copied p index value ∷ []) tt knows.2,
                  held_later p IsUnlocked events (Copied p index value ∷ []) tt knows.1.was_open,
                  gone_more scene.terms.by owner events (Copied p index value ∷ []) knows.1.dead,
                ),
                tt,
              ),
            );
            recovers = (tt, (tt, tt));
            answers = (tt, (tt, tt));
            contains =
                λ holds. (
                  copied_value code c inv.elements.coded inv.elements.whole knows.3 is
                      (was_well_formed scene (Recover owner mode) tt here.call.span (words_after ws check_it) party_after asking (refl, (refl, tt)) holds),
                  (tt, tt),
                );
            places = λ holds. (tt, (tt, tt));
          })
              refl;
          -- its events may stand in the span of the recovery
          follows = (
            stands.0.seen,
            (
              (
                refl,
                record { value = value; latest = record { before = done scene; is = copy_acts } },
                subst (λ d. AreBelow index (asked_in d)) (sym copy_set_acts) stands.0.asked,
              ),
              tt,
            ),
          );
          few = omega arith;
          -- the recovery keeps its course, with one index more seen and asked about
          stands = (
            course_then (Asks index owner ∷ []) (Copies index value ∷ []) stands.0 stands.0.within (omega arith) (omega arith, tt) (omega arith, tt)
                (λ j was. ⊎_elim (λ had. inl had) (λ e. absurd (cc)) (was_one (Frees j owner) (Asks index owner) (all scene) was)),
            stands.1,
            record { before = all scene; is = refl },
          );
          -- what the recovery knows at its question
          known = (
            here.long,
            (
              ⊎_elim (λ h. let paid = h.1 in omega arith) (λ h. omega arith) knows.0,
              recs recovery here step knows.1 (record {
                New = none;
                asked =
                    asked_more recovery here step index knows.1.asked
                    (λ through. inl (subst (IsOneOf (Asks index owner)) (sym set_acts_then) (last_one (Asks index owner) (all scene))));
                told = λ i said. inl
                    (⊎_elim (λ yes. ⊎_elim (λ had. inl had) (λ e. absurd (cc)) (was_one (Yes i owner) (Asks index owner) (all scene) yes))
                    (λ seen. ⊎_elim (λ had. inr had) (λ e. absurd (cc)) (was_one (Sees i) (Copies index value) (done scene) seen))
                    said);
                was = λ i e. absurd e;
                new = λ i e. absurd e;
                hidden = hidden_then recovery here step
                    (λ i was. ⊎_elim (λ had. had) (λ e. absurd (cc)) (was_one (Frees i owner) (Asks index owner) (all scene) was))
                    knows.1.hidden;
              }),
              stands.0.within,
              λ kept. let eq = ap (λ w. count_at c w index) same in let low = knows.3.below kept in omega arith,
              record { before = done scene; is = acts_then },
              covers_then recovery here step index count (ap (λ w. count_at c w index) same)
                  (fold-append (filled_after index) None events asking) knows.4,
            ),
            fills_on recovery here step NoIndex NoIndex
                (λ i was. ⊎_elim (λ had. inl had) (λ e. absurd (cc)) (was_one (Frees i owner) (Asks index owner) (all scene) was))
                (λ i e. e) filled_since,
          );
        })

    -- the step in which a recovery checks the number: it asks if the number is the one under which it read,
    -- and else begins anew at the number that it finds
    pub check_step : StepOf scene (Recover owner mode) (recover_at c owner mode here.room (recovers.ChecksCount index count))
    check_step =
        on_bool (λ b. Leads scene (Recover owner mode) (Some (exchanges (count_word c index) count count)) (not b)
        scene.states
        ((if b then Copied p index (read_in code here.room) ∷ [] else (if is_even count_now then Shown p index ∷ [] else []))
        ++ (if b then Asked p index owner ∷ [] else []))
        (as_recover recovery here.room
        (if b then GoOn (record (first recovery) { stage = recovers.Asks index count }) else recover_sees
        (first recovery) index count_now)))
        (count_now == count)
        -- the number is the one under which the words were read: the recovery asks about its copy
        (λ t. let same_count : count_now ≡ count = grind (arith, nat_tests) in asks same_count)
        -- the number is another one: the recovery begins anew at that number
        (λ t.
        let other : count_now ≢ count = grind (arith, nat_tests) in
        let wide = back_at_least c z mode in
        let finds : FindsNumber recovery index check_it true =
        record {
          leaves = record {
            same = fails_same ws (count_word c index) count count other;
            paid = ⊎_elim (λ h. absurd (other h.0)) (λ h. omega arith) knows.0;
          };
          few = omega arith;
          course = stands.0;
          filled = knows.2;
          rec = knows.1;
          filled_since = filled_since;
        } in
        sees_number recovery here finds)

  -- ---- it is told whether to free it

  -- the recovery waits to be told whether to free `index`, whose value it has copied
  module _ {index count : ℕ} (here : IsAtStage recovery (recovers.Asks index count))
      (stands : RecoverAt c z (all scene) (done scene) owner mode (recovers.Asks index count))
      (knows : RecoverKnows code c owner mode here.room (recovers.Asks index count) (sees_now scene))
      (few_steps : steps ≤ 4 + z + index * for_index c z mode + backs * for_back c z mode)
      (filled_since : FilledBut (IsWorn scene.terms.by ws) mode p owner NoIndex events) where
    abbrev telling : List (Event T)
    telling = Told p index owner ∷ []

    nothing_asked : LeavesWords recovery None false
    nothing_asked = record { same = refl; paid = let paid = knows.0 in omega arith }

    -- a recovery that is told yes goes on to empty the cell
    says_yes : LeadsToStage recovery None false telling here.room (recovers.EmptiesCell index count)
    says_yes =
        let party_after = then_at recovery here.room (recovers.EmptiesCell index count) None false in
        let step : OwnStep recovery None false party_after telling =
        silent_step recovery false party_after telling refl (tt, tt) (refl, tt) tt (λ start w. refl) in
        go_on recovery here here.room (recovers.EmptiesCell index count) None false (record {
          longer = λ start w. refl;
          does = reads_does recovery here refl (tt, tt) (refl, tt) (record {
            asks = (knows.1.dead, tt);
            recovers = (tt, tt);
            answers = (tt, tt);
            contains = λ holds. (tt, tt);
            places = λ holds. (tt, tt);
          })
              refl;
          follows = ((refl, stands.2), tt);
          few = omega arith;
          -- the recovery keeps its course, and was told to free the index that it asked about
          stands = (
            course_then (Yes index owner ∷ []) [] stands.0 stands.0.within (omega arith) tt tt
                (λ j was. ⊎_elim (λ had. inl had) (λ e. absurd (cc)) (was_one (Frees j owner) (Yes index owner) (all scene) was)),
            inl (
              record { before = all scene; is = refl },
              still_one (Asks index owner) (all scene) (Yes index owner ∷ [])
                  (record { before = stands.2.before; after = []; is = stands.2.is }),
            ),
          );
          -- what the recovery knows before it empties the cell: `index` is the one that it is about to free
          known = (
            here.long,
            (
              nothing_asked.paid,
              recs recovery here step knows.1 (record {
                New = λ i. i ≡ index;
                asked = asked_on recovery here step (index + 1) knows.1.asked;
                told = λ i said.
                    ⊎_elim (λ yes. ⊎_elim (λ had. inl (inl had)) (λ e. let is : index ≡ i = cc in inr (sym is))
                    (was_one (Yes i owner) (Yes index owner) (all scene) yes))
                    (λ seen. inl (inr (one_of_none (Sees i) (done scene) seen))) said;
                was = λ i e. absurd e;
                new = λ i e. inr e;
                hidden = hidden_then recovery here step
                    (λ i was. ⊎_elim (λ had. had) (λ e. absurd (cc)) (was_one (Frees i owner) (Yes index owner) (all scene) was))
                    knows.1.hidden;
              }),
              knows.2,
              knows.3,
              covers_then recovery here step index count refl (fold-append (filled_after index) None events telling) knows.5,
            ),
            fills_on recovery here step NoIndex NoIndex
                (λ i was. ⊎_elim (λ had. inl had) (λ e. absurd (cc)) (was_one (Frees i owner) (Yes index owner) (all scene) was))
                (λ i e. e) filled_since,
          );
        })

    -- a recovery that is told no goes on to the next index
    says_no : LeadsOn recovery None false [] here.room (recover_comes_to (first recovery) (index + 1))
    says_no =
        let wide = index_at_least c z mode in
        calm_next recovery here nothing_asked index (omega arith) (inr stands.0)
        (λ y. calm_recs recovery here nothing_asked y (index + 1) knows.1) filled_since

    -- a decision that a recovery waits for lets it go on as it is told
    pub decided : (answer : ℕ) → AnswerOf scene (Recover owner mode) (recover_at c owner mode here.room (recovers.Asks index count)) None answer
    decided = grind (arith, says_yes, says_no)
