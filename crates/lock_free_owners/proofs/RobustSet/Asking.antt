-- A recovery of a robust set that asks about an index, or was told to free it, began
-- before the set was locked.
use Rattle.lock_free_owners.proofs.Names.{◌≡◌, inl, inr, ℕ, ◌+◌, ◌<◌, ◌==◌, nat_lt, Bool, true, false, true≢false}
use Rattle.lock_free_owners.proofs.Names.{refl, arith, Option, Some, None, List, [], ◌∷◌, ◌++◌, sym, ap, subst, ◌∙◌}
use Rattle.lock_free_owners.proofs.Names.{append_assoc, at_recover, by_test, After, GoOn, Done}
use Rattle.lock_free_owners.proofs.Names.{ReleaseMode, ReleaseState, Recovering, Event, Begun, Asked, Robust, Flight}
use Rattle.lock_free_owners.proofs.Names.{one_word, is_question, is_locked, Each, number_of, Word, View, IsHistory}
use Rattle.lock_free_owners.proofs.Names.{recovers_owned, HasAsked, WasTold, HasLocked, Visit, visit, visits_taken}
use Rattle.lock_free_owners.proofs.Names.{wrote_to, wrote_by, wrote_now, wider, wrote_last, Since, opened, IsUnderWay}
use Rattle.lock_free_owners.proofs.Names.{IsFirst, is_open_set}
use Rattle.steps.specs.Indices.Robust.Recover.{recover_asks, recover_comes_to, recover_takes}
use Rattle.steps.specs.declared.indices.robust.recover.RecoverStage.{RecoverStage}
use Rattle.steps.specs.declared.indices.robust.recover.RecoverStage.TheVariants as recovers
use Rattle.model.specs.declared.event.Event.TheVariants.{Told}
use Rattle.model.specs.declared.families.Flight.TheVariants as flights
use Rattle.model.specs.declared.families.indices.robust.RobustStart.TheVariants.{Recover}
use Rattle.model.specs.declared.families.indices.robust.calls.RobustFlight.TheVariants as calls
use Rattle.model.specs.declared.turn.Kind.TheVariants as kinds
use Rattle.laws_robust.specs.Gone.{AsksBy}
use Rattle.laws_robust.proofs.Sound.{raise_asks_none, lock_asks_none}
use Rattle.history_owners.specs.Robust.{RecoverIn, Came, HasFreed}
use Rattle.history_owners.specs.Robust.{VisitsAt, visits_after}
use Rattle.history_owners.proofs.RobustVisits.{one_more}
use Rattle.lock_free_owners.specs.Robust.Turns.{RecoverAt}
use Rattle.history.proofs.Locks.{not_locked}
use Rattle.lock_free_owners.proofs.RobustSet.Events.{find_own, covers}
use Rattle.lock_free_owners.proofs.Rules.Robust.Recovering.{IsOpenAt, Knows}

-- ---- which stage asks

-- the stage of a recovery that is a flight
abbrev stage_in : Option (Flight ℕ) → RecoverStage
stage_in (Some (flights.Robust (calls.Recover run))) = run.call.stage
stage_in flight = recovers.LoadsCounter

module _ (mode : ReleaseMode) (base v : View ℕ) (idle : base.going ≡ None) where
  -- The set was seen locked when the recovery began.
  abbrev shut : Bool
  shut = is_locked base.seen

  -- If the recovery has asked about an index, the set was not locked when it began.
  asked_open : (p index owner : ℕ) (wrote first rest last : List (Event ℕ)) → Since p (Robust (Recover mode)) wrote last base v
      → IsHistory one_word kinds.Robust base.capacity v.seen → wrote ≡ first ++ Asked p index owner ∷ rest → shut ≡ false
  asked_open p index owner wrote first rest last since h is =
      let begin : Event ℕ = Begun p (Robust (Recover mode)) in
      let asks : Event ℕ = Asked p index owner in
      let others : List (Event ℕ) = base.seen ++ since.others in
      let opens : opened p (Robust (Recover mode)) base.going ≡ begin ∷ [] = ap (opened p (Robust (Recover mode))) idle in
      let part = find_own p since.during first rest asks (since.during_own ∙ is) in
      let whole : v.seen ≡ (others ++ begin ∷ part.0) ++ asks ∷ (part.1 ++ last) =
      since.is
      ∙ (ap (λ os. others ++ (os ++ (since.during ++ last))) opens
      ∙ (ap (λ ds. others ++ begin ∷ (ds ++ last)) part.2
      ∙ (ap (λ zs. others ++ begin ∷ zs) (append_assoc part.0 (asks ∷ part.1) last)
      ∙ sym (append_assoc others (begin ∷ part.0) (asks ∷ (part.1 ++ last))))))
      in
      let each : Each (AsksBy Word) v.seen = subst (Each (AsksBy Word)) (sym h.is) (is_open_set one_word base.capacity h.trace h.run).asks in
      let once = (each (others ++ begin ∷ part.0) (part.1 ++ last) asks whole).1 in
      let after = covers p (Robust (Recover mode)) part.0 others once.part once.rest once.is once.within in
      not_locked (record { rest = since.others ++ after.rest; is = after.is ∙ append_assoc base.seen since.others after.rest }) once.held

  -- a recovery that is under way has visited these indices, and if it has asked, the set was not locked
  -- when it began
  knows_under : (c : Recovering) (m : List Visit) → IsUnderWay one_word kinds.Robust (recovers_owned mode) base v c m
      → Knows base.capacity mode shut c.stage m
  knows_under c m under = (let so = under.tells idle in (go c.stage under.standing.1 so.0 so.1, so.0))
    where
      p : ℕ
      p = under.party

      -- If the recovery under way has asked about an index, the set was not locked when it began.
      open_by : (index owner : ℕ) (first rest : List (Event ℕ)) → under.wrote ≡ first ++ Asked p index owner ∷ rest → shut ≡ false
      open_by index owner first rest is = asked_open p index owner under.wrote first rest [] under.since under.history is

      -- of a recovery under way at each stage: it has visited these indices, and where it has
      -- asked the set was not locked when it began
      go : (stage : RecoverStage) → RecoverIn base.capacity mode stage → VisitsAt base.capacity mode stage m
          → under.wrote ≡ wrote_by p m ++ wrote_now p stage → IsOpenAt base.capacity shut stage
      go recovers.LoadsCounter low at is = tt
      go (recovers.LoadsCell index) low at is = tt
      go (recovers.Asks index owner) low at is = (open_by index owner (wrote_by p m) [] is, low)
      go (recovers.EmptiesCell index owner) low at is = (
        open_by index owner (wrote_by p at.before) (Told p index owner ∷ [])
            (is
            ∙ (ap (λ vs. wrote_by p vs ++ Told p index owner ∷ []) at.is
            ∙ (ap (λ zs. zs ++ Told p index owner ∷ []) (wrote_last p at.before (visit index owner HasAsked))
            ∙ append_assoc (wrote_by p at.before) (Asked p index owner ∷ []) (Told p index owner ∷ [])))),
        low,
      )
      go (recovers.Raises index raise) low at is = tt
      go (recovers.Locks index lock) low at is = tt
      go recovers.LoadsCounterAgain low at is = tt

  -- what is known of a recovery that goes on; of one that has ended nothing
  abbrev KnowsOn : After Recovering ReleaseState → List Visit → Type 0
  KnowsOn (GoOn d) visits = Knows base.capacity mode shut d.stage visits
  KnowsOn (Done e) visits = Unit {0}

  -- of a recovery that hears an answer at a question: it has visited these indices, and where it
  -- has asked the set was not locked when it began
  knows_heard : (c : Recovering) (stage : RecoverStage) (m : List Visit) (n : ℕ) → is_question (recover_asks stage) ≡ true
      → Knows base.capacity mode shut stage m → KnowsOn (recover_takes c stage mode n) (visits_taken stage m n)
  knows_heard c recovers.LoadsCounter m n due at = absurd (cc)
  knows_heard c (recovers.LoadsCell index) m n due at = absurd (cc)
  knows_heard c (recovers.Asks index owner) m n due at =
      let more : List Visit = m ++ visit index owner HasAsked ∷ [] in
      let past = one_more mode index owner HasAsked m tt at.1 in
      let low : index < base.capacity = at.0.1 in
      by_test (λ (a : After Recovering ReleaseState). KnowsOn a more) (n == 0) (recover_comes_to c (index + 1))
      (GoOn (at_recover c (recovers.EmptiesCell index owner)))
      (λ t. by_test (λ (stage : RecoverStage). KnowsOn (GoOn (at_recover c stage)) more) (nat_lt (index + 1) c.capacity) (recovers.LoadsCell (index + 1))
      recovers.LoadsCounterAgain (λ u. (tt, past)) (λ u. (tt, wider mode (index + 1) base.capacity more (omega arith) past)))
      (λ t. (at.0, record { before = m; passed = at.1; is = refl }))
  knows_heard c (recovers.EmptiesCell index owner) m n due at = absurd (cc)
  knows_heard c (recovers.Raises index raise) m n due at = absurd (true≢false (sym due ∙ raise_asks_none raise))
  knows_heard c (recovers.Locks index lock) m n due at = absurd (true≢false (sym due ∙ lock_asks_none lock))
  knows_heard c recovers.LoadsCounterAgain m n due at = absurd (cc)

  -- A recovery that is about to begin stands at its load of the counter.
  first_stage : (c : Recovering) (m : List Visit) → IsFirst one_word kinds.Robust (recovers_owned mode) base v c m → recovers.LoadsCounter ≡ c.stage
  first_stage c m first = ap stage_in first.first

  -- of a recovery between two turns: it has visited these indices, and where it has asked the set
  -- was not locked when it began
  pub knows : (c : Recovering) (m : List Visit) → RecoverAt mode base v c m → Knows base.capacity mode shut c.stage m
  knows c m (inl (inl first)) =
      subst (λ stage. VisitsAt base.capacity mode stage m → Knows base.capacity mode shut stage m) (first_stage c m first) (λ at. (tt, at))
      (first.wrote 0 refl).0
  knows c m (inl (inr under)) = knows_under c m under
  knows c m (inr heard) =
      subst (KnowsOn (GoOn c)) (sym heard.keeps)
      (subst (λ a. KnowsOn a (visits_after heard.asking heard.room (number_of heard.said))) heard.goes
      (knows_heard heard.asking heard.asking.stage heard.room (number_of heard.said) heard.asks (knows_under heard.asking heard.room heard.before)))

  -- A recovery that began where the lock had been seen has visited no index.
  pub visits_none : {p : ℕ} (visits : List Visit) {wrote last : List (Event ℕ)} → Since p (Robust (Recover mode)) wrote last base v
      → IsHistory one_word kinds.Robust base.capacity v.seen → wrote ≡ wrote_by p visits → shut ≡ true → visits ≡ []
  visits_none [] since h is lock = refl
  visits_none {p} (z ∷ visits) {wrote} {last} since h is lock = absurd (true≢false (sym lock ∙ go z.came is))
    where
      -- the cases are how far the recovery came at this visit
      go : (came : Came) → wrote ≡ wrote_to p z.index z.owner came ++ wrote_by p visits → shut ≡ false
      go HasAsked so = asked_open p z.index z.owner wrote [] _ last since h so
      go WasTold so = asked_open p z.index z.owner wrote [] _ last since h so
      go HasFreed so = asked_open p z.index z.owner wrote [] _ last since h so
      go HasLocked so = asked_open p z.index z.owner wrote [] _ last since h so
