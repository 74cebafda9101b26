-- An owner who is gone stays gone; a run that is honest and well-formed was so before its last turns; and
-- in an honest run nothing is filled again with an owner who is gone.
use Rattle.laws_robust.proofs.Names.{⊎_elim, ◌≡◌, ℕ, ◌==◌, ◌||◌, Bool, true, false, Option, Some, None, List, [], ◌∷◌}
use Rattle.laws_robust.proofs.Names.{◌++◌, fold, refl, sym, ap, subst, ◌∙◌, append_assoc, append-nil, eq-eqb, arith}
use Rattle.laws_robust.proofs.Names.{fold-append, Each-less, ReleaseMode, LockIfLastIndex, Index, NoIndex, State, Event, Begun}
use Rattle.laws_robust.proofs.Names.{Granted, FreedOf, Told, Died, Finished, Robust, Container, AsksRight, FreesRight}
use Rattle.laws_robust.proofs.Names.{AnswersRight, filled_after, filled_of, dead_after, is_dead, Each}
use Rattle.steps.specs.declared.indices.enums.ReleaseState.TheVariants.{Unlocked}
use Rattle.steps.specs.declared.indices.enums.UniqueIndexSetAcquireFailure.TheVariants.{OutOfIndices}
use Rattle.model.specs.declared.families.container.ContainerStart.TheVariants as containers
use Rattle.model.specs.declared.families.indices.robust.RobustStart.TheVariants.{Acquire, Release, Recover}
use Rattle.laws_robust.specs.Gone.{GoneBy, Death, Word, gone_after, is_gone, ActsForRight, IsHonest, IsHonestBy, IsCalm, MayBeTold, AsksBy, AnswersBy}

-- a disjunction with a true part is true
or_true : (b : Bool) → (b || true) ≡ true
or_true true = refl
or_true false = refl

-- a test that cannot be true is false
was_false : (b : Bool) → (b ≡ true → true ≡ false) → b ≡ false
was_false true not_true = not_true refl
was_false false not_true = refl

module _ {T : Type 0} where
  -- ---- who is gone

  -- an owner who is dead stays dead
  dead_stays : (owner : ℕ) (es : List (Event T)) → fold (dead_after owner) true es ≡ true
  dead_stays owner [] = refl
  dead_stays owner (Died o ∷ es) = ap (λ b. fold (dead_after owner) b es) (or_true (o == owner)) ∙ dead_stays owner es
  dead_stays owner (e ∷ es) = dead_stays owner es

  -- an owner who is gone stays gone
  gone_stays : (owner : ℕ) (es : List (Event T)) → fold (gone_after owner) true es ≡ true
  gone_stays owner [] = refl
  gone_stays owner (Died o ∷ es) = ap (λ b. fold (gone_after owner) b es) (or_true (o == owner)) ∙ gone_stays owner es
  gone_stays owner (Told p i o ∷ es) = ap (λ b. fold (gone_after owner) b es) (or_true (o == owner)) ∙ gone_stays owner es
  gone_stays owner (Begun p (Container (containers.Recover o mode)) ∷ es) =
      ap (λ b. fold (gone_after owner) b es) (or_true (o == owner)) ∙ gone_stays owner es
  gone_stays owner (e ∷ es) = gone_stays owner es

  -- an owner who is gone is gone after further events
  pub gone_more : (by : GoneBy) (owner : ℕ) (events es : List (Event T)) → is_gone by owner events ≡ true → is_gone by owner (events ++ es) ≡ true
  gone_more = grind (arith, fold-append, false, fold, dead_stays, gone_stays)

  -- an owner who is not gone after further events was not gone before
  pub gone_less : (by : GoneBy) (owner : ℕ) (events es : List (Event T)) → is_gone by owner (events ++ es) ≡ false → is_gone by owner events ≡ false
  gone_less = grind (arith, was_false, gone_more)

  -- an owner of whom a recovery is told to free an index is gone
  pub gone_told : (by : GoneBy) (p index owner : ℕ) (events : List (Event T)) → MayBeTold by owner events
      → is_gone by owner (events ++ Told p index owner ∷ []) ≡ true
  gone_told = grind (arith, gone_more, fold-append, false, eq-eqb)

  -- an owner for whom a container's recovery begins is gone
  pub gone_begun : (p owner : ℕ) (mode : ReleaseMode) (events : List (Event T))
      → is_gone Word owner (events ++ Begun p (Container (containers.Recover owner mode)) ∷ []) ≡ true
  gone_begun = grind (arith, fold-append, false, eq-eqb)

  -- ---- honest runs

  -- a history that is honest with further events was honest before
  pub honest_less : (by : GoneBy) (events es : List (Event T)) → IsHonestBy by (events ++ es) → IsHonestBy by events
  honest_less Death events es honest = tt
  honest_less Word events es honest = Each-less ActsForRight events es honest

  -- a history that is calm with further events was calm before
  pub calm_less : (by : GoneBy) (events es : List (Event T)) → IsCalm by (events ++ es) → IsCalm by events
  calm_less by events es calm = (Each-less FreesRight events es calm.0, honest_less by events es calm.1)

  -- an owner for whom an index is granted in an honest run is not gone
  pub lives_granted : (by : GoneBy) (p index owner : ℕ) (events : List (Event T)) → is_dead owner events ≡ false
      → IsHonestBy by (events ++ Granted p index owner ∷ []) → is_gone by owner events ≡ false
  lives_granted = grind arith

  -- an owner for whom a release frees an index in an honest run is not gone
  pub lives_freed : (by : GoneBy) (p index owner : ℕ) (events : List (Event T)) → is_dead owner events ≡ false
      → (IsHonest (events ++ FreedOf p index owner ∷ []) → is_gone Word owner events ≡ false)
      → IsHonestBy by (events ++ FreedOf p index owner ∷ []) → is_gone by owner events ≡ false
  lives_freed = grind arith

  -- an owner for whom an add ends with an index in an honest run is not gone
  pub lives_settled : (by : GoneBy) (p index owner : ℕ) (value : T) (events : List (Event T)) → is_dead owner events ≡ false
      → IsHonestBy by (events ++ Finished p (Container (containers.Add value owner)) (Index index) ∷ []) → is_gone by owner events ≡ false
  lives_settled = grind arith

  -- ---- nothing is filled with an owner who is gone

  -- the owner is gone, and an index is filled with him after the event `e`: it was before
  module _ (i owner : ℕ) (events : List (Event T)) (gone : is_gone Word owner events ≡ true) where
    -- an event that leaves the index with this owner found him there, if its acts are right
    filled_before : (e : Event T) (old : Option ℕ) → ActsForRight events e → filled_after i old e ≡ Some owner → old ≡ Some owner
    filled_before e old lives filled_is = grind arith

  -- in an honest run, an index that is filled with an owner who was gone before was filled with him then
  lost_so_far : (i owner : ℕ) (events es : List (Event T)) → IsHonest (events ++ es)
      → is_gone Word owner events ≡ true → filled_of i (events ++ es) ≡ Some owner → filled_of i events ≡ Some owner
  lost_so_far i owner events [] honest gone filled_is = rw (← append-nil events) filled_is
  lost_so_far i owner events (e ∷ es) honest gone filled_is =
      let joined : events ++ e ∷ es ≡ (events ++ e ∷ []) ++ es = sym (append_assoc events (e ∷ []) es) in
      let later : filled_of i (events ++ e ∷ []) ≡ Some owner =
      lost_so_far i owner (events ++ e ∷ []) es (subst IsHonest joined honest)
      (gone_more Word owner events (e ∷ []) gone) (rw (← joined) filled_is) in
      filled_before i owner events gone e (filled_of i events) (honest events es e refl) (sym (fold-append (filled_after i) None events (e ∷ [])) ∙ later)

  -- what an owner who is gone has lost stays lost to him
  pub stays_lost : (by : GoneBy) (events es : List (Event T))
      → ((i owner : ℕ) → is_dead owner events ≡ true → filled_of i (events ++ es) ≡ Some owner → filled_of i events ≡ Some owner)
      → (i owner : ℕ) → IsHonestBy by (events ++ es) → is_gone by owner events ≡ true
      → filled_of i (events ++ es) ≡ Some owner → filled_of i events ≡ Some owner
  stays_lost = grind (arith, lost_so_far)

  -- ---- what answers say where owners die

  -- an event that asks as it may where owners die asks as promised
  ask_right : (before : List (Event T)) (e : Event T) → AsksBy Death before e → AsksRight before e
  ask_right before (Told p i o) asked = asked
  ask_right before e asked = asked

  -- questions as they may be where owners die are as promised
  pub asks_right : (events : List (Event T)) → Each (AsksBy Death) events → Each AsksRight events
  asks_right events asks before after e is = ask_right before e (asks before after e is)

  module _ (worn worn' : Type 0) (on : worn → worn') where
    -- an answer stays right where `worn` is replaced by what follows from it
    still_right : (by : GoneBy) (c : ℕ) (before : List (Event T)) (e : Event T) → AnswersBy by worn c before e → AnswersBy by worn' c before e
    still_right by c before e answered = grind arith

    -- an answer that says no more than that the counter is at its end says so later as well
    pub answers_on : (by : GoneBy) (c : ℕ) (events : List (Event T)) → Each (AnswersBy by worn c) events → Each (AnswersBy by worn' c) events
    answers_on by c events answers before after e is = still_right by c before e (answers before after e is)

  module _ (worn : Type 0) (not_worn : worn → ⊥) where
    -- in an honest run whose counter is not at its end, an answer is right as `AnswersRight` says, which is
    -- for machines whose owners die
    answer_right : (by : GoneBy) (c : ℕ) (before : List (Event T)) (e : Event T) → IsHonestBy by before → AnswersBy by worn c before e → AnswersRight c before e
    answer_right by c before (Finished p (Robust (Acquire owner)) (NoIndex OutOfIndices)) honest answered =
        (answered.0, ⊎_elim (λ w. absurd (not_worn w)) (λ k. k) answered.1)
    answer_right by c before (Finished p (Robust (Release index owner LockIfLastIndex)) (State Unlocked)) honest answered =
        (answered.0, ⊎_elim (λ w. absurd (not_worn w)) (λ k. k) answered.1)
    answer_right by c before (Finished p (Robust (Recover mode)) (State Unlocked)) honest answered =
        (answered.0, record { gone = answered.1.gone honest; asked = answered.1.asked })
    answer_right by c before e honest answered = answered

    -- each answer in an honest history is right
    pub answers_right : (by : GoneBy) (c : ℕ) (events : List (Event T)) → IsHonestBy by events
        → Each (AnswersBy by worn c) events → Each (AnswersRight c) events
    answers_right = grind (arith, answer_right, honest_less)
