-- A recovery of a container between two turns, as a call of the history: each of its steps keeps the
-- rule of the table, and it may take an answer of its closure.
use Rattle.lock_free_owners.proofs.Names.{◌≡◌, inl, inr, ℕ, ◌<◌, nat_lt, Bool, true, false, None}
use Rattle.lock_free_owners.proofs.Names.{List, [], ◌∷◌, ◌++◌, slice_set, refl, sym, ap, subst, ◌∙◌, append_assoc}
use Rattle.lock_free_owners.proofs.Names.{◌+◌, IsMachine, total_words, weaker_owes, append-nil, arith, goes_to, empty, by_test, After, GoOn, Done, DeadOwner}
use Rattle.lock_free_owners.proofs.Names.{Buffer, ReleaseState, State, Event, Begun, Copied, Asked, Finished}
use Rattle.lock_free_owners.proofs.Names.{Container, Coding, IsCoding, is_question, is_locked, fresh_cell, kept_at}
use Rattle.lock_free_owners.proofs.Names.{Each, number_of, Word, DriverTold, View, wrote_visits, told_yet, Called}
use Rattle.lock_free_owners.proofs.Names.{room_of, IsResting, SettledFrom, Waits, IsUnderWay, Ends, AsksFor}
use Rattle.lock_free_owners.proofs.Names.{recover_call, container_recover_keeps, container_recover_hears}
use Rattle.lock_free_owners.proofs.Names.{container_recover_first, recover_did, container_words, Keeps, rested_asks}
use Rattle.lock_free_owners.proofs.Names.{apart_asked, room_fresh}
use Rattle.steps.specs.Container.Recover.{first_recover, recover_asks, recover_want, recover_keeps as keeps_of}
use Rattle.steps.specs.Container.Recover.{recover_takes}
use Rattle.steps.specs.declared.container.recover.Recover.{Recover}
use Rattle.steps.specs.declared.container.recover.RecoverStage.{RecoverStage}
use Rattle.steps.specs.declared.container.recover.RecoverStage.TheVariants as recovers
use Rattle.steps.specs.declared.indices.enums.ReleaseState.TheVariants as states
use Rattle.model.specs.declared.families.container.ContainerStart.TheVariants as starts
use Rattle.model.specs.declared.turn.Kind.TheVariants as kinds
use Rattle.laws_robust.proofs.Sound.{raise_asks_none, lock_asks_none}
use Rattle.laws_container.specs.Gone.{AsksBy}
use Rattle.threaded.specs.Driver.{Next, Owes}
use Rattle.history_owners.specs.ContainerRecovery.{Came, visits_after, VisitsAt}
use Rattle.history.specs.Rooms.{value_there}
use Rattle.lock_free_owners.specs.Robust.Contracts.{FoundState}
use Rattle.lock_free_owners.specs.Container.FindTurns.{words_in}
use Rattle.lock_free_owners.specs.Container.Idle.{IsIdle}
use Rattle.lock_free_owners.specs.Container.RecoverTurns.{Visiting, BeginsRecover, recovering, recover_goes}
use Rattle.lock_free_owners.specs.Container.RecoverTurns.{recover_visiting, RecoverBegun, RecoverAt, RecoverEnds}
use Rattle.lock_free_owners.specs.Container.RecoverTurns.{RecoverTells}
use Rattle.lock_free_owners.specs.Container.Contracts.{IsRightRecovery}
use Rattle.lock_free_owners.proofs.ContainerSet.Idle.{rested_begins}
use Rattle.lock_free_owners.proofs.ContainerSet.Began.{AnsweredBy, idle_from, seen_is, from_since}
use Rattle.lock_free_owners.proofs.ContainerSet.Began.{ended_called, ended_answered, open_since}
use Rattle.lock_free_owners.proofs.ContainerSet.Sound.{sound_history}
use Rattle.history.proofs.Locks.{lock_stays, not_locked}
use Rattle.lock_free_owners.proofs.RobustSet.Events.{find_own, covers}

module _ {T : Type 0} (code : Coding T) (law : IsCoding code) (given : DeadOwner) where
  -- A word that is kept in the room replaces the one at its place.
  pub put_in : (x : Buffer 128) (at word : ℕ) → words_in (kept_at x at word) ≡ slice_set (words_in x) at word
  put_in x at word = refl

  -- A room made of the words of the fresh room is the fresh room.
  fresh_room : room_of code.size (words_in fresh_cell) ≡ fresh_cell
  fresh_room = (let few = law.few in room_fresh code.size 128 few (omega arith))

  -- ---- where it begins

  -- A recovery asks for a word of the container at its first stage.
  begins_asks : (capacity : ℕ) (c : Recover T (Buffer 128)) (m : Visiting T) → BeginsRecover given capacity c m
      → AsksFor (container_words code capacity) (recover_want code.size c given)
  begins_asks capacity c m b =
      subst (λ (d : Recover T (Buffer 128)). AsksFor (container_words code capacity) (recover_want code.size d given)) (sym b.0) (_, omega arith, refl)

  -- a recovery may begin at a pass that has no call under way
  begins_first : (v : View T) (c : Recover T (Buffer 128)) (m : Visiting T) → BeginsRecover given v.capacity c m → v.going ≡ None → v.other ≡ []
      → 0 < v.share.part
      → RecoverBegun code given v v c m
  begins_first v c m begins_recover going_is_none other_is_empty part_positive =
      grind (arith, container_recover_first, words_in, kept_at, put_in, room_of, fresh_room)

  -- the recovery goes on at another stage than its first one, to which no answer leads back
  abbrev IsLater : After (Recover T (Buffer 128)) ReleaseState → Type 0
  IsLater (GoOn d) = d.stage ≡ recovers.LoadsCounter → ⊥
  IsLater (Done e) = Unit {0}

  clash : {A : Type 0} (b : Bool) → b ≡ true → b ≡ false → A
  clash b there still = (let both : true ≡ false = sym there ∙ still in absurd (cc))

  -- An answer never leads a recovery back to its first stage.
  answers_later : (c : Recover T (Buffer 128)) (n : ℕ) (stage : RecoverStage) → is_question (recover_asks code.size c.capacity stage given.owner) ≡ true
      → IsLater (recover_takes code.size c stage given n)
  answers_later c n stage is_question_true = grind (arith, by_test, goes_to, nat_lt, clash, is_question, raise_asks_none, lock_asks_none)

  -- A recovery that goes on after an answer is not one that is about to begin.
  never_first : (capacity : ℕ) (c d : Recover T (Buffer 128)) (m : Visiting T) (n : ℕ) → is_question (recover_want code.size c given) ≡ true
      → recover_goes code given c n ≡ GoOn d → BeginsRecover given capacity d m → ⊥
  never_first capacity c d m n is_question_true recover_goes_is begins_recover = grind (arith, answers_later)

  -- each step of a recovery keeps the rule of the table, and tells what is known after it
  recover_keeps : Keeps code (RecoverAt code given) (RecoverEnds code given) (λ c. recover_want code.size c given) (recover_goes code given)
      (recover_visiting code given)
  recover_keeps =
      rested_asks code (recovering code given) (λ c. recover_want code.size c given) (λ c m. refl) (BeginsRecover given) begins_asks
      (recover_goes code given) (recover_visiting code given) (Ends code kinds.Container (recovering code given))
      never_first (container_recover_keeps code law words_in kept_at put_in given) begins_first

  -- A recovery that is about to begin behind a rested call is not one that has begun.
  apart : (base v : View T) (c : Recover T (Buffer 128)) (m k : Visiting T) → IsResting code v → BeginsRecover given v.capacity c k
      → RecoverBegun code given base v c m → ⊥
  apart = grind (arith, apart_asked, recovering, recover_want, begins_asks, recover_goes, recover_visiting, never_first, container_recover_keeps, words_in)

  -- the recovery has not begun, since the last call of the pass still rests
  abbrev WaitsAt : View T → View T → Recover T (Buffer 128) → Visiting T → Type 0
  WaitsAt = Waits code kinds.Container (λ base. BeginsRecover given base.capacity)

  -- A recovery that waits to begin does so behind a call that rests.
  rested_at : (base v : View T) (c : Recover T (Buffer 128)) (m : Visiting T) → WaitsAt base v c m → IsResting code v
  rested_at base v c m waits = subst (λ z. IsResting code z) (sym waits.is) waits.resting

  -- A recovery that waits to begin stands at its first stage.
  begins_at : (base v : View T) (c : Recover T (Buffer 128)) (m : Visiting T) → WaitsAt base v c m → BeginsRecover given v.capacity c m
  begins_at base v c m waits_at = grind arith

  -- A recovery at one stage in one view has made the same visits, whichever view it is said to have begun in.
  same_visits : (base other v : View T) (c : Recover T (Buffer 128)) (m k : Visiting T) → RecoverAt code given base v c m → RecoverAt code given other v c k
      → m.1 ≡ k.1
  same_visits base other v c m k (inl x) (inl y) =
      recover_did code law words_in kept_at put_in given x.from y.from v c c m k (idle_from x.settled) (idle_from y.settled)
      x.stage y.stage
  same_visits base other v c m k (inl x) (inr y) = absurd (apart x.from v c m k (rested_at other v c k y) (begins_at other v c k y) x.stage)
  same_visits base other v c m k (inr x) (inl y) = absurd (apart y.from v c k m (rested_at base v c m x) (begins_at base v c m x) y.stage)
  same_visits base other v c m k (inr x) (inr y) = ap (λ (z : Visiting T). z.1) (x.first.2 ∙ sym y.first.2)

  -- What one step tells holds whichever list of visits the recovery is said to have made: there is one
  -- such list only.
  recover_tells : {base v : View T} {c : Recover T (Buffer 128)} {room : Buffer 128} {visits : List (ℕ × Came T)}
      → RecoverAt code given base v c (room, visits)
      → (n : ℕ) (w : View T)
      → DriverTold (λ (z : View T). z.capacity) (RecoverAt code given) (RecoverEnds code given)
      (recover_goes code given) (recover_visiting code given) c (room, visits) v n w
      → (w.capacity ≡ v.capacity) × RecoverTells code given c room v n w
  recover_tells {base} {v} {c} {room} {visits} at n w h = (
    h.0,
    λ other more there. (
        let same : visits ≡ more = same_visits base other v c (room, visits) (room, more) at there in
        subst (λ xs. Next (λ (z : View T). z.capacity) (RecoverAt code given) (RecoverEnds code given) other (recover_goes code given c n)
        (recover_visiting code given c (room, xs) n) w) same
        (h.1 other (subst (λ xs. RecoverAt code given other v c (room, xs)) (sym same) there))),
  )

  -- A step of the recovery is one that the rule of the table allows, and it goes on by it, whichever list of visits it is
  -- said to have made.
  pub recover_owes : {base v : View T} {c : Recover T (Buffer 128)} {room : Buffer 128} {visits : List (ℕ × Came T)}
      → RecoverAt code given base v c (room, visits) → {key words : ℕ} (slots id : ℕ) → words ≡ total_words key code.size + 1 → v.capacity ≡ key
      → Owes (λ (z : View T). z.asked) (IsMachine code kinds.Container key) words slots id
      (λ u n w. (w.capacity ≡ u.capacity) × RecoverTells code given c room u n w) (recover_want code.size c given) (v, [])
  recover_owes {base} {v} {c} {room} {visits} at {key} {words} slots id sized known =
      let told : View T → ℕ → View T → Type 0 =
      DriverTold (λ (z : View T). z.capacity) (RecoverAt code given) (RecoverEnds code given) (recover_goes code given) (recover_visiting code given)
      c (room, visits) in
      let more : View T → ℕ → View T → Type 0 = λ u n w. (w.capacity ≡ u.capacity) × RecoverTells code given c room u n w in
      let weaker = weaker_owes (λ (z : View T). z.asked) (IsMachine code kinds.Container key) words slots id in
      let keeps = recover_keeps base v c (room, visits) key words slots id in
      weaker told more (recover_want code.size c given) (v, []) (λ n w h. recover_tells at n w h) (keeps sized known at)

  -- A recovery of an owner that there may be is about to begin by an idle pass.
  pub recover_begins : (v : View T) → given.owner < empty → IsIdle v → v.other ≡ [] → 0 < v.share.part
      → RecoverAt code given v v (first_recover v.capacity) (fresh_cell, [])
  recover_begins v fits idle alone any =
      rested_begins code (BeginsRecover given) (RecoverBegun code given) (Ends code kinds.Container (recovering code given)) v (first_recover v.capacity)
      (fresh_cell, []) (refl, fits, refl)
      (λ none. begins_first v (first_recover v.capacity) (fresh_cell, []) (refl, fits, refl) none alone any) idle alone any

  -- ---- at its question

  -- The recovery stands at the question about this index.
  module _ (c : Recover T (Buffer 128)) {index count : ℕ} (is : c.stage ≡ recovers.Asks index count) where
    -- The recovery stands at a question.
    due : is_question (recover_want code.size c given) ≡ true
    due = ap (λ stage. is_question (recover_asks code.size c.capacity stage given.owner)) is

    -- A recovery at a question is under way and has heard no answer to that question yet.
    under_at : (from v : View T) (m : Visiting T) → RecoverBegun code given from v c m → IsUnderWay code kinds.Container (recovering code given) from v c m
    under_at from v m recover_begun = grind (arith, clash, is_question, recover_want, due, recover_call, words_in, kept_at, put_in, number_of)

    -- A recovery at a question has begun, so it is under way from a settled view.
    asked_from : {base v : View T} {m : Visiting T} → RecoverAt code given base v c m
        → (from : View T) × SettledFrom code kinds.Container base from × IsUnderWay code kinds.Container (recovering code given) from v c m
    asked_from recover_at = grind (arith, under_at)

    -- An answer changes no visit.
    same_room : (m : Visiting T) (n : ℕ) → recover_visiting code given c m n ≡ m
    same_room m n = ap (λ stage. (keeps_of kept_at stage m.0 n, visits_after given.owner stage n (value_there code words_in m.0) m.1)) is

    -- an answer is heard, and the recovery goes on
    pub heard_on : {base v : View T} {d : Recover T (Buffer 128)} {m : Visiting T} (said : Bool) → recover_goes code given c (number_of said) ≡ GoOn d
        → RecoverAt code given base v c m → RecoverAt code given base v d m
    heard_on {v} {d} {m} said goes at =
        let (from, settled, under) = asked_from at in
        inl (record {
          from = from;
          settled = settled;
          stage = subst (RecoverBegun code given from v d) (same_room m (number_of said))
              (container_recover_hears code law words_in kept_at put_in given from v c d m said due goes (inl (inr under)));
        })

    -- No answer of the closure ends a recovery: behind the last question it still loads the counter.
    pub answer_last : {A : Type 0} {e : ReleaseState} (said : Bool) → recover_goes code given c (number_of said) ≡ Done e → A
    answer_last {e} said goes = absurd ((recover_call code law words_in kept_at put_in given).lasts c e (number_of said) due goes)

    -- the container was not locked when it began
    module _ {base v : View T} {m : Visiting T} (at : RecoverAt code given base v c m) where
      abbrev x : (from : View T) × SettledFrom code kinds.Container base from × IsUnderWay code kinds.Container (recovering code given) from v c m
      x = asked_from at

      -- a recovery that asks began before the lock was seen
      pub asked_open : is_locked base.seen ≡ false
      asked_open =
          let from = x.0 in
          let settled = x.1 in
          let under = x.2 in
          let p = under.party in
          let start = Container (starts.Recover given.owner given.mode) in
          let begin : Event T = Begun p start in
          let others : List (Event T) = from.seen ++ under.since.others in
          let value : T = value_there code words_in m.0 in
          let tells = under.tells (idle_from settled) in
          -- The events of the recovery so far end with the copy of the value and the question.
          let last = subst (λ stage. VisitsAt stage value m.1) is tells.0 in
          let before : List (Event T) = wrote_visits p given.owner last.0 in
          let question : Event T = Asked p index given.owner in
          let told : under.wrote ≡ (before ++ Copied p index value ∷ []) ++ question ∷ [] = tells.1
          ∙ (ap (λ stage. wrote_visits p given.owner m.1 ++ told_yet p given.owner stage) is
          ∙ (append-nil (wrote_visits p given.owner m.1)
          ∙ (ap (wrote_visits p given.owner) last.1 ∙ sym (append_assoc before (Copied p index value ∷ []) (question ∷ []))))) in
          let part = find_own p under.since.during (before ++ Copied p index value ∷ []) [] question (under.since.during_own ∙ told) in
          let whole : v.seen ≡ (others ++ begin ∷ part.0) ++ question ∷ (part.1 ++ []) =
          seen_is settled under.since
          ∙ (ap (λ ds. others ++ begin ∷ (ds ++ [])) part.2
          ∙ (ap (λ zs. others ++ begin ∷ zs) (append_assoc part.0 (question ∷ part.1) [])
          ∙ sym (append_assoc others (begin ∷ part.0) (question ∷ (part.1 ++ [])))))
          in
          -- By the laws a question is asked only where the lock was not seen at some moment since the
          -- recovery began.
          let each : Each (AsksBy Word) v.seen = (sound_history code from.capacity v.seen under.history).asks in
          let once = (each (others ++ begin ∷ part.0) (part.1 ++ []) question whole).1 in
          let after = covers p start part.0 others once.part once.rest once.is once.within in
          not_locked (from_since settled (under.since.others ++ after.rest) once.part
          (after.is ∙ append_assoc from.seen under.since.others after.rest)) once.held

  -- ---- where it has ended

  -- base and w are what the pass knew before the recovery and after it, e is its answer, m its
  -- room then
  module _ {base w : View T} {e : ReleaseState} {m : Visiting T} (ends : RecoverEnds code given base e m w) where
    -- In the history, a recovery that has ended is one call, and its party wrote just the
    -- events of its visits.
    pub recovered_called : Called ends.over.party (Container (starts.Recover given.owner given.mode)) (State e)
        (wrote_visits ends.over.party given.owner m.1) ends.from w
    recovered_called = grind (arith, idle_from, ended_called, recovering)

    -- A recovery answers right by what came before its end, in the words of the laws.
    recovered_by : AnsweredBy (starts.Recover given.owner given.mode) (State e) base w
    recovered_by =
        ended_answered ends.settled (recovering code given) ends.over (starts.Recover given.owner given.mode) refl (State e) refl

  -- The state that a recovery answers is right.
  pub recovered_answered : (base w : View T) (state : ReleaseState) (m : Visiting T) → RecoverEnds code given base state m w
      → IsRightRecovery given state base w
  recovered_answered base w states.Locked m ends = recovered_by ends
  recovered_answered base w states.Unlocked m ends = recovered_by ends

  -- a recovery that answers Locked has seen the lock, and one that answers Unlocked began before
  -- the lock was seen
  recovered_lock_so : (state : ReleaseState) (base w : View T) (m : Visiting T) (ends : RecoverEnds code given base state m w)
      → FoundState state base w
  recovered_lock_so states.Locked base w m ends =
      let a = recovered_answered base w states.Locked m ends in
      lock_stays (record { rest = Finished a.by (Container (starts.Recover given.owner given.mode)) (State states.Locked) ∷ []; is = a.is }) a.right
  recovered_lock_so states.Unlocked base w m ends =
      let call = recovering code given in
      let start = starts.Recover given.owner given.mode in
      let answer = State states.Unlocked in
      open_since ends.settled call ends.over start refl answer refl (ended_answered ends.settled call ends.over start refl answer refl).right.0

  -- The state that a recovery answers tells of the lock what `FoundState` says.
  pub recovered_lock : (base w : View T) (state : ReleaseState) (m : Visiting T) → RecoverEnds code given base state m w → FoundState state base w
  recovered_lock base w state m ends = recovered_lock_so state base w m ends
