-- A recovery of a container is a call of the model that puts questions; each step keeps the rule of the
-- table, and what it wrote is told by its visits.
use Rattle.history.proofs.Names.{◌≡◌, ◌⊎◌, inl, inr, ℕ, ◌+◌, ◌<◌, Bool, true, false, Option, Some, None}
use Rattle.history.proofs.Names.{option_map, List, [], ◌∷◌, ◌++◌, slice_set, if◌then◌else◌, fold, refl, sym, ap}
use Rattle.history.proofs.Names.{subst, ◌∙◌, arith, append_cancel_right, recover_keeps, empty}
use Rattle.steps.specs.declared.ask.After.{After}
use Rattle.steps.specs.declared.ask.After.TheVariants.{GoOn}
use Rattle.steps.specs.declared.ask.Want.{Want}
use Rattle.steps.specs.declared.container.recover.DeadOwner.{DeadOwner}
use Rattle.steps.specs.declared.indices.enums.ReleaseState.{ReleaseState}
use Rattle.model.specs.declared.event.Answer.{Answer}
use Rattle.history.proofs.Names.{Coding, IsCoding, after_of, is_question}
use Rattle.model.specs.declared.event.Event.{Event}
use Rattle.model.specs.declared.event.Start.{Start}
use Rattle.model.specs.declared.families.Flight.{Flight}
use Rattle.history.proofs.Names.{recover_of, is_owner, question_of, fresh_cell, kept_at, read_in, own_after}
use Rattle.history.proofs.Names.{Open, number_of}
use Rattle.steps.specs.Container.Recover.{first_recover, recover_asks, recover_want}
use Rattle.steps.specs.Container.Recover.{recover_takes, recover_after}
use Rattle.steps.specs.declared.ask.After.TheVariants.{Done}
use Rattle.steps.specs.declared.container.recover.Recover.{Recover as Recovering}
use Rattle.steps.specs.declared.container.recover.RecoverStage.{RecoverStage}
use Rattle.steps.specs.declared.copied.Buffer as buffers
use Rattle.model.specs.declared.event.Answer.TheVariants.{State}
use Rattle.model.specs.declared.families.Flight.TheVariants as flights
use Rattle.model.specs.declared.families.container.calls.ContainerFlight.TheVariants as calls
use Rattle.model.specs.declared.turn.Kind.TheVariants as kinds
use Rattle.model.specs.Families.Container.Steps.{recover_effects}
use Rattle.history.specs.declared.view.View.{View}
use Rattle.history_owners.specs.ContainerRecovery.{RecoverIn, Came, wrote_visits, visits_after, VisitsAt, told_yet, recover_visits, recovers_values}
use Rattle.history.specs.Rooms.{room_of}
use Rattle.history.specs.Stages.{Calling, IsUnderWay, Ends, AtAsked}
use Rattle.history.specs.Rooms.{value_there}
use Rattle.history.proofs.CallsIn.{AsksFor, Driven, KeepsSo, each_tells, last_tells}
use Rattle.history_owners.proofs.Containers.{plain_effects, plain_acts, container_words}
use Rattle.history_owners.proofs.Decisions.{IsAskingOf, keeps_asked, hears_answer}
use Rattle.history.proofs.Drives.{goes}
use Rattle.history.proofs.Rooms.{room_set, room_read}
use Rattle.history_owners.proofs.Written.{same_written}
use Rattle.history_owners.proofs.RecoverySteps.{recover_words, recover_found, AnswersOn, answers_on, Keeps}
use Rattle.history_owners.proofs.RecoverySteps.{RecoveryCase, RecoverGoes, recovers_so, some_visits, wrote}
use Rattle.history_owners.proofs.RecoveryVisits.{one_list, inside_both, inside_visits, inside_yet}
use Rattle.history_owners.proofs.Containers.{container_machines}

-- ---- a recovery

-- R is the room of a value's words: `words_in` are its words, and `with_word` puts one of them
module _ {T R : Type 0} (code : Coding T) (law : IsCoding code) (words_in : R → List ℕ) (with_word : R → ℕ → ℕ → R)
    (put_in : (x : R) (at word : ℕ) → words_in (with_word x at word) ≡ slice_set (words_in x) at word) (given : DeadOwner) where
  -- the words that the recovery copies into, and its visits, for the proofs alone
  abbrev Room : Type 0
  Room = R × List (ℕ × Came T)

  -- the recovery, as a call of the model
  abbrev recovering : Calling T (Recovering T R) Room ReleaseState
  recovering = recovers_values code words_in given

  abbrev after : Recovering T R → ℕ → After (Recovering T R) ReleaseState
  after c n = recover_after code.size c given n

  abbrev want : Recovering T R → Want (Unit {0})
  want c = recover_want code.size c given

  abbrev kept : Recovering T R → Room → ℕ → Room
  kept = recover_visits code words_in with_word given

  -- a value has a word, at least
  has_words : 0 < code.size
  has_words = omega (arith, law.some)

  -- the words of the room, as the model has them
  abbrev room_in : R → buffers.Buffer 128
  room_in m = room_of code.size (words_in m)

  -- ---- the driver's recovery goes on as the model's

  -- the model's recovery at this stage, with this room
  abbrev flight_at : ℕ → RecoverStage → buffers.Buffer 128 → Flight T
  flight_at capacity stage room =
      flights.Container (calls.Recover (record { call = record { capacity = capacity; stage = stage; of = record {} }; given = given; room = room }))

  -- how a recovery goes on, as a call of the model's families
  abbrev goes_with : buffers.Buffer 128 → After (Recovering T R) ReleaseState → After (Flight T) (Answer T)
  goes_with room (GoOn d) = GoOn (flight_at d.capacity d.stage room)
  goes_with room (Done e) = Done (State e)

  -- how the model's recovery goes on is what the driver's says
  goes_is : (m : Room) (r : After (Recovering T R) ReleaseState) → goes_with (room_in m.0) r ≡ goes recovering r m
  goes_is m (GoOn d) = refl
  goes_is m (Done e) = refl

  module _ (c : Recovering T R) (n : ℕ) (room : buffers.Buffer 128) where
    -- at this stage the model's recovery takes the same step as the driver's
    abbrev SameTakes : RecoverStage → Type 0
    SameTakes stage =
        after_of code (flight_at c.capacity stage room) n ≡ goes_with (recover_keeps kept_at stage room n) (recover_takes code.size c stage given n)

    -- at each stage the model's recovery takes the same step as the driver's
    same_takes : (stage : RecoverStage) → SameTakes stage
    same_takes = grind arith

  -- a word that is put to its place in the room is put there in the model's room too
  put_there : (m : R) (at n : ℕ) → at < code.size → kept_at (room_in m) at n ≡ room_in (with_word m at n)
  put_there m at n below = grind (arith, room_set, room_of)

  -- the room keeps the words that the model's room keeps
  keeps_there : (capacity : ℕ) (m : R) (n : ℕ) (stage : RecoverStage) → RecoverIn code.size capacity given.mode stage
      → recover_keeps kept_at stage (room_in m) n ≡ room_in (recover_keeps with_word stage m n)
  keeps_there = grind (arith, put_there)

  -- the model's recovery goes on as the driver's does
  same_after_so : (capacity : ℕ) (c : Recovering T R) (m : Room) (n : ℕ) → recovering.stands capacity c
      → after_of code (recovering.flight c m) n ≡ goes recovering (after c n) (kept c m n)
  same_after_so = grind (arith, same_takes, keeps_there, goes_is)

  -- ---- what a recovery has written after a step

  -- the model's room has the value that the driver's room has
  value_in_room : (m : R) → read_in code (room_in m) ≡ value_there code words_in m
  value_in_room m = room_read code (words_in m)

  -- the check of the element's number leaves the value in the room
  check_keeps : (m : R) (n : ℕ) (stage : RecoverStage)
      → Keeps stage (value_there code words_in m) (value_there code words_in (recover_keeps with_word stage m n))
  check_keeps = grind arith

  -- the value in the room
  abbrev value_at : Room → T
  value_at m = value_there code words_in m.0

  -- a recovery at this stage, with this value in its room, has these visits, and has written what they tell
  abbrev WroteAt : ℕ → RecoverStage → T → List (ℕ × Came T) → List (Event T) → Type 0
  WroteAt p stage value visits es = VisitsAt stage value visits × (es ≡ wrote_visits p given.owner visits ++ told_yet p given.owner stage)

  -- the recovery at the stage of c, as party p makes it on a container of this capacity
  abbrev recovery : {capacity : ℕ} (p : ℕ) (c : Recovering T R) → c.capacity ≡ capacity → RecoveryCase T R
  recovery {capacity} p c same =
      record { code = code; some = has_words; words_in = words_in; capacity = capacity; c = c; same = same; p = p; given = given }

  -- after a step the recovery goes on or ends, and has written what its visits tell
  goes_so : {capacity : ℕ} (p : ℕ) (c : Recovering T R) (m : Room) (n : ℕ) {es : List (Event T)} {r : After (Recovering T R) ReleaseState}
      → (h : recovering.stands capacity c) → WroteAt p c.stage (value_at m) m.1 es → after c n ≡ r
      → RecoverGoes (recovery p c h.0) (value_at (kept c m n)) (kept c m n).1 (es ++ plain_effects code p (recovering.flight c m) n) r
  goes_so p c m n {es} h wrote_at leads =
      let now = value_at (kept c m n) in
      subst (RecoverGoes (recovery p c h.0) now (kept c m n).1 (es ++ plain_effects code p (recovering.flight c m) n)) leads
      (subst (λ v. RecoverGoes (recovery p c h.0) now (kept c m n).1
      (es ++ (recover_effects p given v c.stage n ++ question_of p given c.stage n)) (after c n)) (sym (value_in_room m.0))
      (recovers_so (recovery p c h.0) (value_at m) now c.stage n m.1 (check_keeps m.0 n c.stage) h.1 wrote_at))

  -- a recovery that goes on stands within the container
  stands_so : (capacity : ℕ) (c d : Recovering T R) (n : ℕ) → recovering.stands capacity c → after c n ≡ GoOn d → recovering.stands capacity d
  stands_so capacity c d n h leads =
      let value : T = code.value_of [] in
      let here = recovery 0 c h.0 in
      let some = some_visits here c.stage value in
      let events_then : List (Event T) = wrote_visits 0 given.owner some.0 ++ told_yet 0 given.owner c.stage in
      (subst (RecoverGoes here value (visits_after given.owner c.stage n value some.0) (events_then ++ wrote here value c.stage n)) leads
      (recovers_so here value value c.stage n some.0 (same_keeps value c.stage) h.1 (some.1, refl))).0
    where
      -- a value that is the same is kept, as `Keeps` says, at each stage
      same_keeps : (value : T) (stage : RecoverStage) → Keeps stage value value
      same_keeps = grind arith

  -- ---- which recovery a flight is, and with which room

  -- the recovery that the flight is one of, or this one
  abbrev recovery_of : Recovering T R → Flight T → Recovering T R
  recovery_of c (flights.Container (calls.Recover run)) = record { capacity = run.call.capacity; stage = run.call.stage; of = record {} }
  recovery_of c flight = c

  -- a recovery begins at a stage that is no question
  first_so : (capacity : ℕ) (c : Recovering T R) (m : Room) (named : Bool)
      → option_map flights.Container (if named then Some (recover_of capacity given.owner given.mode) else None) ≡ Some (recovering.flight c m)
      → is_question (want c) ≡ false
  first_so = grind arith

  -- an answer to its question changes neither its room nor its visits
  asked_room : (c : Recovering T R) (m : Room) (n : ℕ) (stage : RecoverStage) → is_question (recover_asks code.size c.capacity stage given.owner) ≡ true
      → ◌≡◌ {A = Room} (recover_keeps with_word stage m.0 n, visits_after given.owner stage n (value_at m) m.1) m
  asked_room = grind arith

  -- the recovery, as the driver makes it
  abbrev driven : Driven T (Recovering T R) Room ReleaseState
  driven = record { want = want; after = after; kept = kept; call = recovering }

  -- a recovery is a call of the model that asks
  pub recover_call : IsAskingOf code kinds.Container (plain_effects code) (container_words code) driven
  recover_call =
      record {
        asking =
            record {
              steps =
                  record {
                    -- the model's recovery wants what the driver's recovery wants, and goes to the stage to
                    -- which that goes
                    same_want = λ c m. refl;
                    same_after = λ capacity c m n h. same_after_so capacity c m n h;
                    hears = λ c m a n e. (let is = recover_found code.size c.capacity given c.stage a n e in (ap (after c) is, ap (kept c m) is));
                    stays = λ capacity c d n h e. stands_so capacity c d n h e;
                    asks = λ capacity c h still. asks_so capacity c h still;
                    past = λ capacity c d n k h e. refl;
                    -- no word that it loads ends it outside the history
                    finds = λ c m n small t. tt;
                    leaves = λ c a n t e. absurd (cc);
                    -- what a step writes, and what the last step writes, is what the visits tell
                    tells = each_tells (plain_effects code) driven
                        (λ step d leads new. (goes_so step.p step.c step.m step.n step.stands (step.wrote new) leads).1);
                    tells_all = last_tells (plain_effects code) driven
                        (λ step end skip leads new. goes_so step.p step.c step.m step.n step.stands (step.wrote new) leads);
                  };
              -- its stage can be told from its flight, and an answer changes nothing that was written
              never = λ c n. refl;
              same_call = λ c d m k e. ap (recovery_of c) e;
              same_room = λ capacity p from c m k a b es due e keeps wrote.
                  subst (λ (z : Room). from ≡ None → WroteAt p c.stage (value_at z) z.1 es)
                  (sym (asked_room c m a c.stage due) ∙ (keeps ∙ asked_room c k b c.stage due)) wrote;
              -- it begins at no question, and none comes right after another
              first = λ n c m e. first_so n c m (is_owner given.owner) e;
              one = λ c d n due e. subst (AnswersOn code.size c given) e (answers_on code.size c given c.stage n due);
            };
        lasts = λ c end n due e. subst (AnswersOn code.size c given) e (answers_on code.size c given c.stage n due);
      }
    where
      -- at each stage that is no question the recovery asks for a word of the container
      asks_so : (capacity : ℕ) (c : Recovering T R) → recovering.stands capacity c → is_question (want c) ≡ false
          → AsksFor (container_words code capacity) (want c)
      asks_so = grind (arith, false, recover_words)

  -- each step of a recovery keeps the rule of the table; at a question the machine is handed the answer with the step after it
  pub container_recover_keeps : KeepsSo code kinds.Container (container_words code) driven (AtAsked code kinds.Container after kept recovering)
      (Ends code kinds.Container recovering)
  container_recover_keeps = keeps_asked (container_machines code) tt (plain_acts code recovering (λ c m. tt)) recover_call

  -- a recovery that is answered so that it goes on has heard the answer
  pub container_recover_hears : (base v : View T) (c d : Recovering T R) (m : Room) (said : Bool) → is_question (want c) ≡ true
      → after c (number_of said) ≡ GoOn d → AtAsked code kinds.Container after kept recovering base v c m
      → AtAsked code kinds.Container after kept recovering base v d (kept c m (number_of said))
  container_recover_hears = hears_answer (container_machines code) tt (plain_acts code recovering (λ c m. tt)) recover_call

  -- a recovery begins in a room of zeros in which a value fits
  pub container_recover_first : (v : View T) (m : Room) → room_in m.0 ≡ fresh_cell → m.1 ≡ [] → v.going ≡ None
      → v.other ≡ [] → 0 < v.share.part → given.owner < empty
      → AtAsked code kinds.Container after kept recovering v v (first_recover v.capacity) m
  container_recover_first = grind arith

  -- ---- what a pass has seen tells the visits of its recovery

  -- a recovery with these visits is under way in the view
  record VisitsUnderWay (base v : View T) (m : Room) : Type 0 where
    stage : Recovering T R
    in_room : Room
    same : in_room.1 ≡ m.1
    under : IsUnderWay code kinds.Container recovering base v stage in_room

  -- the recovery has not begun, without visits, or it is under way in the view with these visits
  abbrev HasMadeVisits : View T → View T → Recovering T R → Room → Type 0
  HasMadeVisits base v c m = ((v.going ≡ None) × (m.1 ≡ [])) ⊎ VisitsUnderWay base v m

  -- a recovery at any stage, also after an answer, has not begun or is under way with these visits
  stands_at : (base v : View T) (c : Recovering T R) (m : Room) → AtAsked code kinds.Container after kept recovering base v c m → HasMadeVisits base v c m
  stands_at base v c m (inl (inl first)) =
      let none = no_first (wrote_visits 0 given.owner m.1) (told_yet 0 given.owner c.stage) (first.wrote 0 refl).1 in
      inl (ap (λ (z : View T). z.going) first.is ∙ first.idle, one_list 0 given.owner m.1 [] none)
    where
      -- where two lists together are empty, the first one is
      no_first : (xs ys : List (Event T)) → [] ≡ xs ++ ys → xs ≡ []
      no_first [] ys lists_are = refl
      no_first (x ∷ xs) ys lists_are = absurd (cc)
  stands_at base v c m (inl (inr under)) = inr (record { stage = c; in_room = m; same = refl; under = under })
  stands_at base v c m (inr h) =
      let same = ap (λ (z : Room). z.1) (sym (h.keeps ∙ asked_room h.asking h.room (number_of h.said) h.asking.stage h.asks)) in
      inr (record { stage = h.asking; in_room = h.room; same = same; under = h.before })

  -- two recoveries at a stage of one view, counted from any views in which they had not begun,
  -- have the same visits
  pub recover_did : (base other v : View T) (c d : Recovering T R) (m k : Room) → base.going ≡ None → other.going ≡ None
      → AtAsked code kinds.Container after kept recovering base v c m → AtAsked code kinds.Container after kept recovering other v d k → m.1 ≡ k.1
  recover_did base other v c d m k idle still at_asked there = go (stands_at base v c m at_asked) (stands_at other v d k there)
    where
      -- the start of the recovery
      start : Start T
      start = recovering.start

      -- what a recovery writes ends no call, so its span is still open
      long : (x : View T) (e : Recovering T R) (r : Room) → x.going ≡ None → (under : IsUnderWay code kinds.Container recovering x v e r)
          → fold own_after (Open start []) under.wrote ≡ Open start under.wrote
      long = grind (arith, fold, start, inside_both, inside_visits, inside_yet)

      -- both have not begun, or both are under way: then their visits tell the events of one
      -- call, and are one list
      go : HasMadeVisits base v c m → HasMadeVisits other v d k → m.1 ≡ k.1
      go (inl x) (inl y) = x.1 ∙ sym y.1
      go (inl x) (inr y) = grind (arith, start)
      go (inr x) (inl y) = grind (arith, start)
      -- both are under way: they are one call of one party, so their visits write the same events
      go (inr x) (inr y) =
          let first = x.under in
          let second = y.under in
          let party_now = first.party in
          let same = same_written code kinds.Container recovering idle still first second
          (long base x.stage x.in_room idle first) (long other y.stage y.in_room still second) in
          let both : ◌≡◌ {A = Option (Start T × Flight T)} (Some (start, recovering.flight x.stage x.in_room))
          (Some (start, recovering.flight y.stage y.in_room)) =
          sym first.going ∙ second.going in
          let pair : ◌≡◌ {A = Start T × Flight T} (start, recovering.flight x.stage x.in_room) (start, recovering.flight y.stage y.in_room) = cc in
          let call : x.stage ≡ y.stage = ap (λ (z : Start T × Flight T). recovery_of x.stage z.1) pair in
          let lists : wrote_visits party_now given.owner x.in_room.1 ++ told_yet party_now given.owner x.stage.stage
          ≡ wrote_visits party_now given.owner y.in_room.1 ++ told_yet party_now given.owner x.stage.stage
          =
          sym (first.tells idle).1 ∙ (same.1
          ∙ ((second.tells still).1 ∙ (ap (λ q. wrote_visits q given.owner y.in_room.1 ++ told_yet q given.owner y.stage.stage) (sym same.0)
          ∙ ap (λ (z : Recovering T R). wrote_visits party_now given.owner y.in_room.1 ++ told_yet party_now given.owner z.stage) (sym call)))) in
          sym x.same ∙ (one_list party_now given.owner x.in_room.1 y.in_room.1
          (append_cancel_right (wrote_visits party_now given.owner x.in_room.1) (wrote_visits party_now given.owner y.in_room.1)
          (told_yet party_now given.owner x.stage.stage) lists)
          ∙ y.same)
