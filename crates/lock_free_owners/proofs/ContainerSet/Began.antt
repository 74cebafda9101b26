-- What a call on a pass whose last call may rest leaves of the pass: a call that has ended,
-- and a find that rests.
use Rattle.std.proofs.Common.{arith}
use Rattle.lock_free_owners.proofs.Names.{◌≡◌, ◌≤◌, ⊎_elim, inl, inr, ℕ, ◌+◌, false, Option, Some, None, IfSome, List, [], ◌∷◌, ◌++◌}
use Rattle.lock_free_owners.proofs.Names.{sym, ap, subst, ◌∙◌, append_assoc, append-nil, Answer, Event, Begun}
use Rattle.lock_free_owners.proofs.Names.{Finished, Start, Container, ContainerStart, Coding, is_locked, IsUnlocked}
use Rattle.lock_free_owners.proofs.Names.{HeldSometime, IsAll, View, IsHistory, Called, IsBeginning, Goes}
use Rattle.lock_free_owners.proofs.Names.{SettledFrom, KeepsState, Calling, LeavesState, IsUnderWay, Ends, Since}
use Rattle.lock_free_owners.proofs.Names.{opened, called}
use Rattle.model.specs.declared.turn.Kind.TheVariants as kinds
use Rattle.laws_robust.specs.Gone.{Word}
use Rattle.laws_container.specs.Gone.{AnswersBy}
use Rattle.lock_free_owners.specs.Container.Contracts.{Answered}
use Rattle.lock_free_owners.specs.Container.Steps.{one_if_some, to_settle, FewAside}
use Rattle.lock_free_owners.specs.Worn.{MayBeWorn}
use Rattle.lock_free_owners.proofs.ContainerSet.Sound.{sound_history, worn_on}
use Rattle.lock_free_owners.proofs.Worn.Laws.{worn_container}
use Rattle.history.specs.History.{AreFirst, Continues, Knows}
use Rattle.history.proofs.OneRun.{first_all, continues_further}
use Rattle.history.proofs.Locks.{not_locked}
use Rattle.lock_free_owners.proofs.RobustSet.Events.{covers}

-- what an answer says, in the words of the laws
abbrev pub AnsweredBy : {T : Type 0} → ContainerStart T → Answer T → View T → View T → Type 0
AnsweredBy start answer old new =
    Answered start answer (λ p before. AnswersBy Word (MayBeWorn new.seen) old.capacity before (Finished p (Container start) answer)) old new

module _ {T : Type 0} {code : Coding T} {base from : View T} (settled : SettledFrom code kinds.Container base from) where
  -- ---- where it began

  -- What the pass had seen is the beginning of what it has seen once its last call is settled.
  settled_since : SettledFrom code kinds.Container base from → IsBeginning base.seen from.seen
  settled_since settled_from = grind (arith, append-nil, append_assoc)

  -- Once it is settled, no call is under way.
  settled_idle : SettledFrom code kinds.Container base from → from.going ≡ None
  settled_idle settled_from = grind arith

  -- Settling keeps the capacity that the pass knows.
  settled_capacity : SettledFrom code kinds.Container base from → from.capacity ≡ base.capacity
  settled_capacity settled_from = grind arith

  -- Settling keeps the share.
  settled_share : SettledFrom code kinds.Container base from → from.share ≡ base.share
  settled_share settled_from = grind arith

  -- Settling keeps the party that the pass was last.
  settled_party : SettledFrom code kinds.Container base from → from.party ≡ base.party
  settled_party settled_from = grind arith

  -- Settling keeps the state that the pass has.
  settled_state : SettledFrom code kinds.Container base from → from.state ≡ base.state
  settled_state settled_from = grind arith

  -- Settling has one operation aside at most, and none where no call rested.
  settled_aside : SettledFrom code kinds.Container base from → from.aside ≤ base.aside + to_settle base
  settled_aside (inl h) = (let same = ap (λ (z : View T). z.aside) h.0 in omega arith)
  settled_aside (inr h) =
      (let few = h.asked in let all = h.aside in let rests = ap one_if_some h.resting.going in omega arith)

  -- The run that the pass knew is the first part of the one that it knows once it is settled.
  pub settled_ran : SettledFrom code kinds.Container base from → AreFirst base.turns from.turns
  settled_ran (inl h) = subst (λ (z : View T). AreFirst base.turns z.turns) (sym h.0) (first_all base.turns)
  settled_ran (inr h) = h.ran.first

  -- No call is under way in the settled view.
  pub idle_from : from.going ≡ None
  idle_from = settled_idle settled

  -- The settled view has the same capacity.
  pub capacity_from : from.capacity ≡ base.capacity
  capacity_from = settled_capacity settled

  -- The settled view has the same share.
  pub share_from : from.share ≡ base.share
  share_from = settled_share settled

  -- A run that goes on from the settled view goes on from the view before it.
  ran_base : (w : View T) → Continues code kinds.Container from.capacity from w → Continues code kinds.Container base.capacity base w
  ran_base w h =
      subst (λ n. Continues code kinds.Container n base w) capacity_from
      (continues_further code kinds.Container from.capacity base from w (settled_ran settled) h)

  -- What is seen behind the settled view goes on from what was seen before.
  pub later : (xs : List (Event T)) → IsBeginning base.seen (from.seen ++ xs)
  later xs = grind (arith, settled_since, append_assoc)

  -- Events that go on from those of the settled view go on from what was seen before.
  pub from_since : (xs ys : List (Event T)) → ys ≡ from.seen ++ xs → IsBeginning base.seen ys
  from_since xs ys is = (let all = later xs in record { rest = all.rest; is = is ∙ all.is })

  -- The party p of the call has written these events since the settled view, and w is what the pass knows then.
  module _ {p : ℕ} {start : Start T} {wrote last : List (Event T)} {w : View T} (s : Since p start wrote last from w) where
    -- As no call is under way, the call's events open with its begin.
    pub opens : opened p start from.going ≡ Begun p start ∷ []
    opens = ap (opened p start) idle_from

    -- What is seen is what was seen before, others' events, the begin, and what came since.
    pub seen_is : w.seen ≡ (from.seen ++ s.others) ++ Begun p start ∷ (s.during ++ last)
    seen_is = s.is ∙ ap (λ os. (from.seen ++ s.others) ++ (os ++ (s.during ++ last))) opens

    -- What the pass made is what it had made, the begin, and what the call wrote.
    pub made_is : w.made ≡ from.made ++ Begun p start ∷ (wrote ++ last)
    made_is = s.made ∙ ap (λ os. from.made ++ (os ++ (wrote ++ last))) opens

    -- What is seen goes on from what was seen before the last call was settled.
    pub since_base : IsBeginning base.seen w.seen
    since_base = grind (arith, from_since, seen_is, append_assoc)

  module _ {C M E : Type 0} (call : Calling T C M E) where
    -- ---- it has ended

    module _ {w : View T} {e : E} {m : M} (ends : Ends code kinds.Container call from e m w) where
      -- What is seen behind the call is a history of the container.
      pub history_of : IsHistory code kinds.Container base.capacity w.seen
      history_of = subst (λ n. IsHistory code kinds.Container n w.seen) capacity_from ends.history

      -- A pass that knew a run of the container when the call began knows a run of it that gives all
      -- that it saw by the call's end.
      pub ended_knows : Knows code kinds.Container base.capacity w
      ended_knows = (ran_base w ends.ran).knows

      -- a call that has ended leaves the share, and a history and a run that go on from those that
      -- were known before the last call rested
      pub ended_goes : Goes base w
      ended_goes =
          record {
            share = ends.share ∙ share_from;
            since = since_base ends.since;
            first = (ran_base w ends.ran).first;
            all = λ whole. ends.all (subst IsAll ends.share whole);
          }

      -- A call that has ended leaves at most one operation aside, and one more where the last call rested.
      pub ended_aside : FewAside base w
      ended_aside =
          let before = settled_aside settled in
          ⊎_elim (λ (same : w.aside ≡ from.aside). omega arith) (λ (more : w.aside ≡ from.aside + 1). omega arith) ends.aside

      module _ (start : ContainerStart T) (is_start : call.start ≡ Container start) (answer : Answer T) (is_answer : call.answer e m ≡ answer) where
        -- a call that has ended is a call of the history from where the last one of the pass had
        -- ended
        pub ended_called : Called ends.party (Container start) answer ends.wrote from w
        ended_called = grind (arith, called, idle_from)

        unfoldable pub ended_answered : AnsweredBy start answer base w
        ended_answered =
            let c = ended_called in
            let begin : Event T = Begun ends.party (Container start) in
            let end : Event T = Finished ends.party (Container start) answer in
            let before : List (Event T) = (from.seen ++ c.others) ++ begin ∷ c.during in
            let is_last : w.seen ≡ before ++ end ∷ [] = c.is ∙ sym (append_assoc (from.seen ++ c.others) (begin ∷ c.during) (end ∷ [])) in
            record {
              by = ends.party;
              before = before;
              is = is_last;
              since = subst (IsBeginning base.seen) (sym (append_assoc from.seen c.others (begin ∷ c.during))) (later (c.others ++ begin ∷ c.during));
              right = worn_on (worn_container code base.capacity w.seen) base.capacity before end
                  ((sound_history code base.capacity w.seen history_of).answers before [] end is_last);
            }

        -- what was unlocked at a moment of the call was when it began
        pub open_since : {P : List (Event T) → Type 0} → HeldSometime ended_answered.by (λ part. IsUnlocked part × P part) ended_answered.before
            → is_locked base.seen ≡ false
        unfolding ended_answered
        open_since once =
            let c = ended_called in
            let covered = covers ends.party (Container start) c.during (from.seen ++ c.others) once.part once.rest once.is once.within in
            not_locked (from_since (c.others ++ covered.rest) once.part (covered.is ∙ append_assoc from.seen c.others covered.rest)) once.held.0

    -- ---- it is under way

    module _ {w : View T} {c : C} {m : M} (under : IsUnderWay code kinds.Container call from w c m) where
      -- A pass with the call under way knows a run of the container that gives all that it saw.
      pub under_knows : Knows code kinds.Container base.capacity w
      under_knows = (ran_base w under.ran).knows

      -- a call under way leaves the share, and a history and a run that go on from those that were
      -- known before the last call rested
      pub under_goes : Goes base w
      under_goes =
          record {
            share = under.share ∙ share_from;
            since = since_base under.since;
            first = (ran_base w under.ran).first;
            all = λ whole. under.all (subst IsAll under.share whole);
          }

      -- A call under way leaves at most one operation aside, and one more where the last call rested.
      pub under_aside : FewAside base w
      under_aside = (let before = settled_aside settled in let same = under.aside in omega arith)

    -- ---- its party has the state that it had

    module _ (leaves : LeavesState call) (by_same : (was : Option ℕ) (p : ℕ) → call.by was p → IfSome was (λ q. q ≡ p)) where
      -- The call is by the party that the pass was last.
      same_party : (p party : ℕ) → call.by from.party party → base.party ≡ Some p → p ≡ party
      same_party p party by_holds party_is = grind (arith, settled_party)

      -- If the call keeps the state where the party stays, it keeps the state of its pass.
      kept_by : (w : View T) (party : ℕ) → w.party ≡ Some party → call.by from.party party
          → (from.party ≡ Some party → w.state ≡ from.state) → KeepsState base w
      kept_by w party party_is by_party same_state p p_is = grind (arith, same_party, settled_party, settled_state)

      -- A call that has ended keeps the state of its pass.
      pub ended_keeps : {w : View T} {e : E} {m : M} → Ends code kinds.Container call from e m w → KeepsState base w
      ended_keeps {w} ends = kept_by w ends.party ends.mine ends.same (ends.state leaves)

      -- A call under way keeps the state of its pass.
      pub under_keeps : {w : View T} {c : C} {m : M} → IsUnderWay code kinds.Container call from w c m → KeepsState base w
      under_keeps {w} under = kept_by w under.party under.mine under.same (under.state leaves)
