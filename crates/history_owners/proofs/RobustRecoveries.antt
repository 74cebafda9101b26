-- That a recovery of the robust index set is a call of the model, which puts questions.
use Rattle.history.proofs.Names.{◌≡◌, inl, inr, ℕ, ◌+◌, ◌<◌, ◌≤◌, ◌==◌, Bool, true, false, Option, Some, None}
use Rattle.history.proofs.Names.{List, [], ◌∷◌, ◌++◌, append_assoc, append-nil, refl, sym, ap, subst, ◌∙◌, arith}
use Rattle.history.proofs.Names.{nat_tests, empty, locked, raise_after, lock_after, by_test}
use Rattle.history.proofs.Names.{went_on}
use Rattle.steps.specs.declared.ask.Ask.{Ask}
use Rattle.steps.specs.declared.ask.After.{After}
use Rattle.steps.specs.declared.ask.After.TheVariants.{GoOn}
use Rattle.steps.specs.declared.indices.enums.ReleaseMode.{ReleaseMode}
use Rattle.steps.specs.declared.indices.enums.ReleaseMode.TheVariants.{LockIfLastIndex, Default}
use Rattle.steps.specs.declared.indices.enums.ReleaseState.{ReleaseState}
use Rattle.history.proofs.Names.{Coding}
use Rattle.steps.specs.declared.indices.robust.parts.Lock.{Lock}
use Rattle.steps.specs.declared.indices.robust.parts.Raise.{Raise}
use Rattle.model.specs.declared.event.Answer.{Answer}
use Rattle.model.specs.declared.event.Event.{Event}
use Rattle.model.specs.declared.event.Event.TheVariants.{Begun, FreedOf}
use Rattle.model.specs.declared.families.Flight.{Flight}
use Rattle.history.proofs.Names.{is_question, as_it_is, as_call, number_of, answered}
use Rattle.laws_robust.proofs.Sound.{raise_asks_none, lock_asks_none}
use Rattle.history.proofs.Names.{Owes, NextKnown, ToldOf}
use Rattle.steps.specs.Indices.Robust.Recover.{first_recover, recover_asks, recover_want}
use Rattle.steps.specs.Indices.Robust.Recover.{recover_comes_to}
use Rattle.steps.specs.Indices.Robust.Recover.{recover_raised, recover_locked, recover_takes, recover_after}
use Rattle.steps.specs.declared.ask.After.TheVariants.{Done}
use Rattle.steps.specs.declared.ask.Want.TheVariants as wants
use Rattle.steps.specs.declared.indices.enums.ReleaseState.TheVariants as states
use Rattle.steps.specs.declared.indices.robust.parts.Lock.TheVariants as locks
use Rattle.steps.specs.declared.indices.robust.recover.Recover.{Recover as Recovering}
use Rattle.steps.specs.declared.indices.robust.recover.RecoverStage.{RecoverStage}
use Rattle.steps.specs.declared.indices.robust.recover.RecoverStage.TheVariants as recovers
use Rattle.model.specs.declared.event.Answer.TheVariants.{State}
use Rattle.model.specs.declared.event.Event.TheVariants.{Told, Locked}
use Rattle.model.specs.declared.event.Start.TheVariants.{Robust}
use Rattle.model.specs.declared.families.Flight.TheVariants as flights
use Rattle.model.specs.declared.families.indices.robust.RobustStart.TheVariants.{Recover}
use Rattle.model.specs.declared.families.indices.robust.calls.RobustFlight.TheVariants as calls
use Rattle.model.specs.declared.turn.Kind.TheVariants as kinds
use Rattle.model.specs.Families.Indices.Robust.Steps.{recover_effects}
use Rattle.history.specs.declared.view.View.{View}
use Rattle.history.specs.History.{IsMachine}
use Rattle.history_owners.specs.Robust.{RecoverIn, Came, HasAsked, WasTold, HasFreed, HasLocked, Visit, visit, AreVisits}
use Rattle.history_owners.specs.Robust.{came_to, HasCome, VisitsAt, visits_taken, visits_after, wrote_by}
use Rattle.history_owners.specs.Robust.{wrote_now, recovers_owned}
use Rattle.history.specs.Stages.{opened, IsFirst, IsUnderWay, Ends, AtAsked}
use Rattle.history.proofs.CallsIn.{AsksFor, Driven, KeepsSo, each_tells, last_tells}
use Rattle.history_owners.proofs.Decisions.{IsAskingOf, keeps_asked}
use Rattle.history.proofs.Drives.{goes, acts_alone, lone_machines}
use Rattle.history_owners.proofs.RobustParts.{LockOn, lock_on}
use Rattle.history_owners.proofs.RobustVisits.{same_before, none_yet, wider, one_more, came_past, comes_on, wrote_last, wrote_on, same_visits}
use Rattle.history_owners.proofs.Robusts.{robust_effects, cells_and_counter, robust_starts, robust_machines}
use Rattle.history.proofs.Telling.{owes_more}
use Rattle.lemmas.proofs.Cases.{by_bool}

-- ---- what a recovery asks for

-- what a recovery hears of an operation is what the word was before it
recover_found : (stage : RecoverStage) (a : Ask) (n : ℕ) → recover_asks stage ≡ wants.Ask a → answered a.op n ≡ n
recover_found = grind arith

-- at each stage that is no question a recovery asks for a word of the set
recover_words : (capacity : ℕ) (mode : ReleaseMode) (stage : RecoverStage) → RecoverIn capacity mode stage → is_question (recover_asks stage) ≡ false
    → AsksFor (capacity + 1) (recover_asks stage)
recover_words = grind arith

-- the recovery goes on after an answer, at a stage that is no question
abbrev AnswersOn : After Recovering ReleaseState → Type 0
AnswersOn (GoOn d) = is_question (recover_want d) ≡ false
AnswersOn (Done e) = ⊥

module _ (c : Recovering) (mode : ReleaseMode) where
  -- a Bool is not false and true
  no_answer : {A : Type 0} (b : Bool) → b ≡ false → b ≡ true → A
  no_answer b still due = (let both : false ≡ true = sym still ∙ due in absurd (cc))

  -- an answer to a question leads a recovery to a stage that is no question
  answers_on : (stage : RecoverStage) (n : ℕ) → is_question (recover_asks stage) ≡ true → AnswersOn (recover_takes c stage mode n)
  answers_on = grind arith

-- ---- where a recovery goes on after a step, and what it has written then

module _ {T : Type 0} (capacity : ℕ) (c : Recovering) (same : c.capacity ≡ capacity) (p : ℕ) (mode : ReleaseMode) where
  -- after a step a recovery stands within the set and has written what its visits say, or it has ended and
  -- has written just that
  abbrev RecoverGoes : List (Event T) → List Visit → After Recovering ReleaseState → Type 0
  RecoverGoes es visits (GoOn d) =
      (recovers_owned {T = T} mode).stands capacity d × VisitsAt capacity mode d.stage visits × (es ≡ wrote_by p visits ++ wrote_now p d.stage)
  RecoverGoes es visits (Done e) = AreVisits mode capacity visits × (es ≡ wrote_by p visits)

  -- to write nothing more leaves what was written
  quiet : (es whole : List (Event T)) → es ≡ whole → es ++ [] ≡ whole
  quiet es whole es_is = append-nil es ∙ es_is

  -- what was written is also written with nothing behind it
  between : (es whole : List (Event T)) → es ≡ whole → es ≡ whole ++ []
  between es whole es_is = es_is ∙ sym (append-nil whole)

  -- what was written with nothing behind it is what was written
  all_of : (es whole : List (Event T)) → es ≡ whole ++ [] → es ≡ whole
  all_of es whole es_is = es_is ∙ append-nil whole

  -- a recovery that comes to a cell, or behind the last one, has written what its visits say
  comes_to : (index : ℕ) → index ≤ capacity → (es : List (Event T)) (visits : List Visit) → AreVisits mode index visits → es ≡ wrote_by p visits
      → RecoverGoes es visits (recover_comes_to c index)
  comes_to = grind (arith, by_test, between, nat_tests)

  -- a recovery that goes on behind an index has written what its visits say
  next_to : (index : ℕ) → index < capacity → (es : List (Event T)) (visits : List Visit) → AreVisits mode (index + 1) visits → es ≡ wrote_by p visits
      → RecoverGoes es visits (recover_comes_to c (index + 1))
  next_to index low es visits passed es_is = comes_to (index + 1) (omega arith) es visits passed es_is

  -- after a raise of the counter a recovery has written what its visits say, also where it then
  -- locks the set or ends
  raised : {index : ℕ} → index < capacity → (m : ReleaseMode) → mode ≡ m → {owner : ℕ} (es : List (Event T)) {visits : List Visit}
      → HasCome mode index HasFreed owner visits → es ≡ wrote_by p visits → (r : After Raise ReleaseState) → RecoverGoes es visits (recover_raised c index m r)
  raised {index} low m may {owner} es {visits} come es_is r = go m may r
    where
      -- with the last visit the visits are of indices up to that one
      past : AreVisits mode (index + 1) visits
      past = came_past mode tt come

      -- the recovery has written just what its visits say
      still : es ≡ wrote_by p visits ++ []
      still = between es (wrote_by p visits) es_is

      -- after a raise the recovery goes on behind the index, raises on, or ends, and has written what it did
      go : (m : ReleaseMode) → mode ≡ m → (r : After Raise ReleaseState) → RecoverGoes es visits (recover_raised c index m r)
      go LockIfLastIndex may (GoOn raise) = ((same, low), (owner, come), still)
      go Default may (GoOn raise) = ((same, low), (owner, come), still)
      go LockIfLastIndex may (Done states.Locked) = (wider mode (index + 1) capacity visits (omega arith) past, es_is)
      go Default may (Done states.Locked) = (wider mode (index + 1) capacity visits (omega arith) past, es_is)
      go LockIfLastIndex may (Done states.Unlocked) = ((same, (may, low, tt)), (owner, come), still)
      go Default may (Done states.Unlocked) = next_to index low es visits past es_is

  -- after a step of its lock a recovery has written what its visits say
  counted : {index : ℕ} → index < capacity → mode ≡ LockIfLastIndex → {owner : ℕ} (es : List (Event T)) {visits : List Visit}
      → HasCome mode index HasFreed owner visits → es ≡ wrote_by p visits → (r : After Lock ReleaseState) → LockOn capacity r
      → RecoverGoes es visits (recover_locked c index r)
  counted low may es come es_is (GoOn lock) on = grind (arith, between)
  counted {index} low may {owner} es {visits} come es_is (Done state) on = next_to index low es visits (came_past mode tt come) es_is

  -- what a recovery has written after a step, where it goes on or ends
  recovers_so : (stage : RecoverStage) (k : ℕ) (es : List (Event T)) (visits : List Visit) → RecoverIn capacity mode stage
      → VisitsAt capacity mode stage visits → es ≡ wrote_by p visits ++ wrote_now p stage
      → RecoverGoes (es ++ recover_effects p stage k) (visits_taken stage visits k) (recover_takes c stage mode k)
  recovers_so recovers.LoadsCounter k es visits recover_in visits_at es_is = grind (arith, quiet, all_of, by_test, locked, none_yet, comes_to)
  recovers_so (recovers.LoadsCell index) k es visits recover_in visits_at es_is = go (k == empty) refl
    where
      -- the recovery has written just what its visits say
      wrote : es ≡ wrote_by p visits
      wrote = all_of es (wrote_by p visits) es_is

      -- at a cell it goes on to the next one where the cell has no owner, and else to the question about him
      go : (b : Bool) → (k == empty) ≡ b → RecoverGoes (es ++ recover_effects p (recovers.LoadsCell index) k) visits
          (recover_takes c (recovers.LoadsCell index) mode k)
      go = grind (arith, next_to, wider, quiet, wrote)
  recovers_so (recovers.Asks index owner) k es visits recover_in visits_at es_is =
      by_bool (k == 0)
      (λ e. rw e (next_to index recover_in (es ++ []) more (one_more mode index owner HasAsked visits tt visits_at) (quiet es (wrote_by p more) wrote)))
      (λ e. grind (arith, wrote))
    where
      -- the visits with that of the question
      more : List Visit
      more = visits ++ visit index owner HasAsked ∷ []

      -- the visits, with that of the question, tell all that was written
      wrote : es ≡ wrote_by p more
      wrote = es_is ∙ sym (wrote_last p visits (visit index owner HasAsked))
  recovers_so (recovers.EmptiesCell index owner) k es visits recover_in visits_at es_is = go (k == owner) refl
    where
      -- the event of the answer yes
      told : Event T
      told = Told p index owner

      -- the event by which the index is free
      gone : Event T
      gone = FreedOf p index owner

      -- with the cell emptied the last visit tells that the index is free
      freed : es ++ gone ∷ [] ≡ wrote_by p (came_to HasFreed visits)
      freed =
          ap (λ zs. zs ++ gone ∷ []) es_is ∙ (append_assoc (wrote_by p visits) (told ∷ []) (gone ∷ [])
          ∙ wrote_on p HasFreed (wrote_by p visits) (told ∷ gone ∷ []) refl visits_at refl)

      -- with another number in the cell, the last visit tells of the answer alone
      left : es ≡ wrote_by p (came_to WasTold visits)
      left = es_is ∙ wrote_on p WasTold (wrote_by p visits) (told ∷ []) refl visits_at refl

      -- where it empties a cell, it has freed the index, or found another owner, and has written which
      go : (b : Bool) → (k == owner) ≡ b → RecoverGoes (es ++ recover_effects p (recovers.EmptiesCell index owner) k)
          (visits_taken (recovers.EmptiesCell index owner) visits k) (recover_takes c (recovers.EmptiesCell index owner) mode k)
      go true test_is = rw test_is (
        (same, recover_in),
        (owner, comes_on mode index owner HasAsked HasFreed visits visits_at),
        between (es ++ gone ∷ []) (wrote_by p (came_to HasFreed visits)) freed,
      )
      go false e = rw e (next_to index recover_in (es ++ []) (came_to WasTold visits)
          (came_past mode tt (comes_on mode index owner HasAsked WasTold visits visits_at))
          (quiet es (wrote_by p (came_to WasTold visits)) left))
  recovers_so (recovers.Raises index raise) k es visits recover_in visits_at es_is =
      raised recover_in mode refl (es ++ []) visits_at.1 (quiet es (wrote_by p visits) (all_of es (wrote_by p visits) es_is))
      (raise_after raise k)
  recovers_so (recovers.Locks index (locks.Counts count)) k es visits recover_in visits_at es_is =
      counted recover_in.1 recover_in.0 (es ++ []) visits_at.1 (quiet es (wrote_by p visits) (all_of es (wrote_by p visits) es_is))
      (lock_after c.capacity (locks.Counts count) k) (lock_on capacity c.capacity same (locks.Counts count) k)
  recovers_so (recovers.Locks index (locks.ExchangesCounter counter)) k es visits recover_in visits_at es_is =
      by_bool (k == counter)
      (λ e. rw e (next_to index recover_in.1 (es ++ Locked p ∷ []) shut
      (came_past mode recover_in.0 (comes_on mode index visits_at.0 HasFreed HasLocked visits visits_at.1))
      (wrote_on p HasLocked es (Locked p ∷ []) refl visits_at.1 wrote)))
      (λ e. grind (arith, between, quiet, wrote))
    where
      -- before the step the recovery has written what its visits say
      wrote : es ≡ wrote_by p visits
      wrote = all_of es (wrote_by p visits) es_is

      -- the visits of which the last has locked the set
      shut : List Visit
      shut = came_to HasLocked visits
  recovers_so recovers.LoadsCounterAgain k es visits recover_in visits_at es_is = grind (arith, by_test, locked, quiet, all_of)

-- ---- a recovery

module _ {T : Type 0} (code : Coding T) (mode : ReleaseMode) where
  abbrev after : Recovering → ℕ → After Recovering ReleaseState
  after c n = recover_after c mode n

  -- how the driver's recovery goes on, the model's call goes on
  as_recovered : (visits : List Visit) (r : After Recovering ReleaseState) → as_call flights.Robust (λ (answer : Answer T). answer)
      (as_call calls.Recover State (went_on as_it_is mode tt r)) ≡ goes (recovers_owned {T = T} mode) r visits
  as_recovered visits (GoOn d) = refl
  as_recovered visits (Done e) = refl

  -- after a step the recovery stands, and has written, as the laws of a call ask
  goes_so : {capacity : ℕ} (p : ℕ) (c : Recovering) (n : ℕ) {es : List (Event T)} (visits : List Visit) {r : After Recovering ReleaseState}
      → (h : (recovers_owned {T = T} mode).stands capacity c) → VisitsAt capacity mode c.stage visits → es ≡ wrote_by p visits ++ wrote_now p c.stage
      → after c n ≡ r → RecoverGoes capacity c h.0 p mode (es ++ recover_effects p c.stage n) (visits_after c visits n) r
  goes_so = grind (arith, recovers_so)

  -- a recovery that visited no index before this one has come to a visit of it
  come_first : (index : ℕ) (came : Came) → HasCome mode index came 0 (visit index 0 came ∷ [])
  come_first = grind arith

  -- at each stage there is a list of visits
  some_visits : (capacity : ℕ) (stage : RecoverStage) → (visits : List Visit) × VisitsAt capacity mode stage visits
  some_visits capacity recovers.LoadsCounter = ([], refl)
  some_visits capacity (recovers.LoadsCell index) = ([], none_yet mode index [] refl)
  some_visits capacity (recovers.Asks index owner) = ([], none_yet mode index [] refl)
  some_visits capacity (recovers.EmptiesCell index owner) =
      (visit index owner HasAsked ∷ [], record { before = []; passed = none_yet mode index [] refl; is = refl })
  some_visits capacity (recovers.Raises index raise) = (_, (0, come_first index HasFreed))
  some_visits capacity (recovers.Locks index lock) = (_, (0, come_first index HasFreed))
  some_visits capacity recovers.LoadsCounterAgain = ([], none_yet mode capacity [] refl)

  stands_so : (capacity : ℕ) (c d : Recovering) (n : ℕ) → (recovers_owned {T = T} mode).stands capacity c → after c n ≡ GoOn d
      → (recovers_owned {T = T} mode).stands capacity d
  stands_so capacity c d n h leads =
      (let some = some_visits capacity c.stage in (goes_so 0 c n some.0 h some.1 refl leads).0)

  -- the driver's recovery, if the flight is one of a recovery of a robust set
  abbrev recovery_of : Recovering → Flight T → Recovering
  recovery_of c (flights.Robust (calls.Recover run)) = run.call
  recovery_of c flight = c

  -- the same recovery, where there is a flight
  abbrev begun_recovery : Recovering → Option (Flight T) → Recovering
  begun_recovery c None = c
  begun_recovery c (Some flight) = recovery_of c flight

  same_recovery : (c d : Recovering) (m k : List Visit) → (recovers_owned {T = T} mode).flight c m ≡ (recovers_owned mode).flight d k → c ≡ d
  same_recovery c d m k flight_is = ap (recovery_of c) flight_is

  -- two lists of visits that are equal after an answer to the question were equal before it
  same_asked : (stage : RecoverStage) (m k : List Visit) (a b : ℕ) → is_question (recover_asks stage) ≡ true
      → visits_taken stage m a ≡ visits_taken stage k b → m ≡ k
  same_asked = grind (arith, same_before, visit, no_answer, raise_asks_none, lock_asks_none)

  -- the recovery as the driver makes it
  abbrev driven : Driven T Recovering (List Visit) ReleaseState
  driven = record { want = recover_want; after = after; kept = visits_after; call = recovers_owned mode }

  -- a recovery is a call of the model that asks
  pub recover_call : IsAskingOf code kinds.Robust robust_effects cells_and_counter driven
  recover_call =
      record {
        asking =
            record {
              steps =
                  record {
                    -- the model's recovery wants what the driver's recovery wants, and goes to the stage to
                    -- which that goes
                    same_want = λ c m. refl;
                    same_after = λ capacity c m n h. as_recovered (visits_after c m n) (after c n);
                    hears = λ c m a n e. (ap (after c) (recover_found c.stage a n e), ap (visits_after c m) (recover_found c.stage a n e));
                    stays = λ capacity c d n h e. stands_so capacity c d n h e;
                    asks = λ capacity c h still. recover_words capacity mode c.stage h.1 still;
                    -- no word that it loads ends it outside the history
                    past = λ capacity c d n k h e. refl;
                    finds = λ c m n small t. tt;
                    leaves = λ c a n t e. absurd (cc);
                    -- what a step writes, and what the last step writes, is what the visits tell
                    tells = each_tells robust_effects driven (λ step d leads new. (
                        let wrote = step.wrote new in
                        let so = goes_so step.p step.c step.n step.m step.stands wrote.0 wrote.1 leads in (so.1, so.2)));
                    tells_all = last_tells robust_effects driven (λ step end skip leads new. (
                        let wrote = step.wrote new in goes_so step.p step.c step.n step.m step.stands wrote.0 wrote.1 leads));
                  };
              never = λ c n. refl;
              -- its stage can be told from its flight, and an answer tells no lists of visits apart
              -- that it leaves equal
              same_call = same_recovery;
              same_room = λ capacity p from c m k a b es due e keeps wrote.
                  subst (λ (z : List Visit). (recovers_owned mode).wrote capacity p from c z es) (same_asked c.stage m k a b due keeps) wrote;
              -- it begins at no question, and none comes right after another
              first = λ n c m e. ap (λ (z : Recovering). is_question (recover_want z)) (sym (ap (λ (o : Option (Flight T)). begun_recovery c o) e));
              one = λ c d n due e. subst AnswersOn e (answers_on c mode c.stage n due);
            };
        lasts = λ c end n due e. subst AnswersOn e (answers_on c mode c.stage n due);
      }

  -- the recovery is about to begin or under way, or has heard an answer
  abbrev RecoveryStands : View T → View T → Recovering → List Visit → Type 0
  RecoveryStands = AtAsked code kinds.Robust after visits_after (recovers_owned mode)

  -- the recovery has ended with this state of the set
  abbrev RecoveryEnded : View T → ReleaseState → List Visit → View T → Type 0
  RecoveryEnded = Ends code kinds.Robust (recovers_owned mode)

  -- each step of a recovery keeps the rule of the table; at a question the machine is handed the answer with the step after it
  pub recover_keeps : KeepsSo code kinds.Robust cells_and_counter driven RecoveryStands RecoveryEnded
  recover_keeps =
      keeps_asked (lone_machines (robust_machines code)) tt (acts_alone (robust_machines code)) recover_call

  -- a recovery that has asked goes on from the answer
  pub recover_hears : (base v : View T) (c d : Recovering) (m : List Visit) (said : Bool) → is_question (recover_want c) ≡ true
      → after c (number_of said) ≡ GoOn d → RecoveryStands base v c m → RecoveryStands base v d (visits_after c m (number_of said))
  recover_hears = grind arith

  -- a recovery begins on a pass with no call under way, without visits
  pub recover_first : (v : View T) → v.going ≡ None → v.other ≡ [] → 0 < v.share.part → RecoveryStands v v (first_recover v.capacity) []
  recover_first = grind (arith, robust_starts, recovers_owned, first_recover)

  -- ---- what a view has seen tells which visits its recovery has made

  -- what the pass made since the recovery began: its begin, and what its visits and its stage tell
  made_there : (base v : View T) (c : Recovering) (m : List Visit) → base.going ≡ None
      → (under : IsUnderWay code kinds.Robust (recovers_owned mode) base v c m)
      → v.made ≡ base.made ++ Begun under.party (Robust (Recover mode)) ∷ (wrote_by under.party m ++ wrote_now under.party c.stage)
  made_there = grind (arith, opened, append-nil)

  -- a view has one list of visits of a recovery under way in it
  under_same : {base other v : View T} {c : Recovering} {m k : List Visit} → base.going ≡ None → other.going ≡ None
      → IsUnderWay code kinds.Robust (recovers_owned mode) base v c m → IsUnderWay code kinds.Robust (recovers_owned mode) other v c k → m ≡ k
  under_same {base} {other} {v} {c} {m} {k} idle too first_under_way second_under_way =
      let both : ◌≡◌ {A = Option ℕ} (Some first_under_way.party) (Some second_under_way.party) = sym first_under_way.mine ∙ second_under_way.mine in
      let by : first_under_way.party ≡ second_under_way.party = cc in
      same_visits base.capacity other.capacity mode
      (Robust (Recover mode)) c.stage v.made base.made other.made m k by
      (first_under_way.tells idle).0 (second_under_way.tells too).0
      (sym first_under_way.capacity ∙ second_under_way.capacity) (made_there base v c m idle first_under_way)
      (made_there other v c k too second_under_way)

  -- as it begins a recovery has no visits
  none_first : {base v : View T} {c : Recovering} {m : List Visit} → IsFirst code kinds.Robust (recovers_owned mode) base v c m → m ≡ []
  none_first {base} {c = c} {m = m} first =
      let is : first_recover base.capacity ≡ c = ap (λ (o : Option (Flight T)). begun_recovery c o) first.first in
      subst (λ (z : Recovering). VisitsAt base.capacity mode z.stage m) (sym is) (first.wrote 0 refl).0

  -- a recovery that goes on from an answer does not stand at that question
  not_both : {A : Type 0} (c asking : Recovering) (n : ℕ) → c ≡ asking → is_question (recover_want asking) ≡ true → after asking n ≡ GoOn c → A
  not_both = grind arith

  -- the answer to a question changes the visits in the same way, whatever it is
  asked_alike : (stage : RecoverStage) (m : List Visit) (a b : ℕ) → is_question (recover_asks stage) ≡ true → visits_taken stage m a ≡ visits_taken stage m b
  asked_alike = grind arith

  -- a view in which no call is under way is not one in which a recovery is
  clash : {A : Type 0} (base v : View T) (flight : Flight T) → v ≡ base → base.going ≡ None → v.going ≡ Some (Robust (Recover mode), flight) → A
  clash = grind arith

  -- a view has one stage of a recovery under way
  going_same : (v : View T) (c d : Recovering) (m k : List Visit) → v.going ≡ Some (Robust (Recover mode), (recovers_owned mode).flight c m)
      → v.going ≡ Some (Robust (Recover mode), (recovers_owned mode).flight d k) → c ≡ d
  going_same = grind arith

  -- a view has one list of visits of a recovery, about to begin or under way
  same_there : {base other v : View T} {c : Recovering} {m k : List Visit} → base.going ≡ None → other.going ≡ None → RecoveryStands base v c m
      → RecoveryStands other v c k
      → m ≡ k
  same_there {base} {other} {v} {c} {m} {k} idle too (inl (inl a)) (inl (inl b)) = none_first a ∙ sym (none_first b)
  same_there {base} {other} {v} {c} {m} {k} idle too (inl (inl a)) (inl (inr b)) = clash base v _ a.is idle b.going
  same_there {base} {other} {v} {c} {m} {k} idle too (inl (inl a)) (inr b) = clash base v _ a.is idle b.before.going
  same_there {base} {other} {v} {c} {m} {k} idle too (inl (inr a)) (inl (inl b)) = clash other v _ b.is too a.going
  same_there {base} {other} {v} {c} {m} {k} idle too (inl (inr a)) (inl (inr b)) = under_same idle too a b
  same_there {base} {other} {v} {c} {m} {k} idle too (inl (inr a)) (inr b) = grind (arith, not_both, number_of, going_same)
  same_there {base} {other} {v} {c} {m} {k} idle too (inr a) (inl (inl b)) = clash other v _ b.is too a.before.going
  same_there {base} {other} {v} {c} {m} {k} idle too (inr a) (inl (inr b)) = grind (arith, not_both, number_of, going_same)
  same_there {base} {other} {v} {c} {m} {k} idle too (inr a) (inr b) =
      let same = going_same v b.asking a.asking b.room a.room b.before.going a.before.going in
      let rooms = under_same idle too a.before
      (subst (λ (z : Recovering). IsUnderWay code kinds.Robust (recovers_owned mode) other v z b.room) same b.before) in
      a.keeps
      ∙ (asked_alike a.asking.stage a.room (number_of a.said) (number_of b.said) a.asks
      ∙ (ap (λ vs. visits_after a.asking vs (number_of b.said)) rooms
      ∙ (ap (λ (z : Recovering). visits_after z b.room (number_of b.said)) (sym same) ∙ sym b.keeps)))

  -- what a step tells, whatever the view and the visits with which the recovery began
  abbrev pub Tells : Recovering → View T → ℕ → View T → Type 0
  Tells c v n w =
      (w.capacity ≡ v.capacity)
      × ((base : View T) (visits : List Visit) → base.going ≡ None → RecoveryStands base v c visits
      → NextKnown (λ (z : View T). z.capacity) RecoveryStands RecoveryEnded base (after c n) (visits_after c visits n) w)

  -- what a step of the recovery has to tell of one list of visits
  abbrev ToldOfVisits : Recovering → List Visit → View T → ℕ → View T → Type 0
  ToldOfVisits c m = ToldOf (λ (z : View T). z.capacity) RecoveryStands RecoveryEnded after visits_after c m

  -- each step of a recovery keeps the rule, and tells of all its visits at once, since a view
  -- has one list of them
  pub recover_tells : (base v : View T) (c : Recovering) (m : List Visit) (key words slots id : ℕ) → words ≡ cells_and_counter key + 1
      → v.capacity ≡ key → base.going ≡ None → RecoveryStands base v c m
      → Owes (λ (z : View T). z.asked) (IsMachine code kinds.Robust key) words slots id (Tells c) (recover_want c) (v, [])
  recover_tells base v c m key words slots id wide known idle recovery_stands =
      let keeps_here = recover_keeps base v c m key words slots id in
      owes_more (record { key = key; words = words; slots = slots; id = id; v = v; told = ToldOfVisits c m }) (Tells c) (recover_want c)
      (keeps_here wide known recovery_stands) all
    where
      -- what a step tells of one list of visits it tells of each, since there is only one
      all : (n : ℕ) (w : View T) → ToldOfVisits c m v n w → Tells c v n w
      all n w told_so = (
        told_so.0,
        λ other visits too there. (
            let same = same_there idle too recovery_stands there in
            subst (λ vs. NextKnown (λ (z : View T). z.capacity) RecoveryStands RecoveryEnded other (after c n) (visits_after c vs n) w) same
            (told_so.1 other (subst (RecoveryStands other v c) (sym same) there))),
      )
