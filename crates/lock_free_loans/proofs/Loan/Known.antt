-- What a pass knew each time it had freed one index of several is a beginning of the run that it knows in the end.
use Rattle.lock_free_sets.proofs.Names.{◌≡◌, ℕ, ◌<◌, List, [], ◌∷◌, ◌++◌, length, refl, sym, ap, subst, ◌∙◌, arith, append_assoc, one_word}
use Rattle.lock_free_sets.proofs.Names.{Event, Begun, Finished, Start, Answer, View, Called, IsBeginning}
use Rattle.std.proofs.Common.{length-append, sum_by}
use Rattle.steps.specs.declared.indices.enums.ReleaseMode.TheVariants as modes
use Rattle.steps.specs.declared.indices.enums.ReleaseState.TheVariants.{Unlocked}
use Rattle.model.specs.declared.event.Answer.TheVariants.{State}
use Rattle.model.specs.declared.event.Event.TheVariants.{Freed}
use Rattle.model.specs.declared.event.Start.TheVariants.{Indices}
use Rattle.model.specs.declared.families.indices.IndexStart.TheVariants.{Release}
use Rattle.model.specs.declared.turn.Kind.TheVariants as kinds
use Rattle.threaded.specs.Shares.{IsAll}
use Rattle.history.specs.History.{AreFirst, IsPart, Knows}
use Rattle.history.proofs.Ended.{known_then, less_first, then_view}
use Rattle.history.proofs.Known.{begins_further, itself}
use Rattle.history.proofs.OneRun.{first_all, first_further}
use Rattle.lock_free_sets.specs.Driven.{HasMade}
use Rattle.lock_free_loans.specs.Loan.Contracts.{InTurn, HasFreed, HasFreedInRun}

-- the begin of a release of this index by this party, and below its end
abbrev starts_so : ℕ → ℕ → Event ℕ
starts_so by index = Begun by (Indices (Release index modes.Default))

-- The end of that release, with the answer Unlocked.
abbrev ends_so : ℕ → ℕ → Event ℕ
ends_so by index = Finished by (Indices (Release index modes.Default)) (State Unlocked)

-- The views differ at most in the run that their passes know.
record AreAlike (v w : View ℕ) : Type 0 where
  pub seen : w.seen ≡ v.seen
  pub made : w.made ≡ v.made
  pub party : w.party ≡ v.party
  pub share : w.share ≡ v.share
  pub aside : w.aside ≡ v.aside

-- A view differs from itself in nothing.
alike : (v : View ℕ) → AreAlike v v
alike v = record { seen = refl; made = refl; party = refl; share = refl; aside = refl }

-- Two views that differ at most in the run that they know, before and after a call: the call says the same of both.
module _ {old old' new new' : View ℕ} (a : AreAlike old old') (b : AreAlike new new') where
  -- a call from one view to another is one between views that differ from them at most in the run that they know
  called_alike : (p : ℕ) (start : Start ℕ) (answer : Answer ℕ) (wrote : List (Event ℕ)) → Called p start answer wrote old new
      → Called p start answer wrote old' new'
  called_alike p start answer wrote h =
      record {
        others = h.others;
        during = h.during;
        is = b.seen ∙ (h.is ∙ ap (λ es. (es ++ h.others) ++ Begun p start ∷ (h.during ++ Finished p start answer ∷ [])) (sym a.seen));
        alone = λ all. h.alone (subst IsAll a.share all);
        others_own = h.others_own;
        during_own = h.during_own;
        made = b.made ∙ (h.made ∙ ap (λ es. es ++ Begun p start ∷ (wrote ++ Finished p start answer ∷ [])) (sym a.made));
      }

  -- A call of the history between two views is one between views that differ from them at
  -- most in the known run.
  made_alike : (start : Start ℕ) (answer : Answer ℕ) (wrote : ℕ → List (Event ℕ)) → HasMade start answer wrote old new → HasMade start answer wrote old' new'
  made_alike start answer wrote has_made =
      record { by = has_made.by; mine = b.party ∙ has_made.mine; called = called_alike has_made.by start answer (wrote has_made.by) has_made.called }

  -- an index was freed in a run that is a beginning of the one known in the end
  freed_so : {capacity index : ℕ} (now : View ℕ) → HasFreed index old new → AreFirst old'.turns now.turns → AreFirst new'.turns now.turns
      → Knows one_word kinds.Indices capacity old' → Knows one_word kinds.Indices capacity new' → HasFreedInRun capacity index old' new'
  freed_so {capacity} {index} now freed first then before after =
      record {
        given = made_alike (Indices (Release index modes.Default)) (State Unlocked) (λ by. Freed by index ∷ []) freed.given;
        goes =
            record {
              share = b.share ∙ (freed.goes.share ∙ sym a.share);
              since = subst (λ es. IsBeginning es new'.seen) (sym a.seen) (subst (λ es. IsBeginning old.seen es) (sym b.seen) freed.goes.since);
              first = less_first one_word kinds.Indices capacity old'.turns new'.turns old'.seen new'.seen now.turns first then before.is after.is less;
              all = λ whole f. ap (sum_by f) b.seen ∙ (freed.goes.all (subst IsAll b.share whole) f ∙ ap (sum_by f) (sym b.made));
            };
        aside = omega (arith, freed.aside, a.aside, b.aside);
        knows = after;
      }
    where
      -- a free adds to what was seen
      less : length old'.seen < length new'.seen
      less =
          let c = freed.given.called in
          let all : length new'.seen ≡ length ((old.seen ++ c.others) ++ starts_so freed.given.by index ∷ (c.during ++ ends_so freed.given.by index ∷ [])) =
          ap length (b.seen ∙ c.is) in
          let one = length-append (old.seen ++ c.others) (starts_so freed.given.by index ∷ (c.during ++ ends_so freed.given.by index ∷ [])) in
          omega (arith, ap length a.seen, length-append old.seen c.others)

-- What was seen before frees in turn is the beginning of what is seen behind them.
begins_in_turn : (is : List ℕ) (old new : View ℕ) → InTurn HasFreed is old new → IsBeginning old.seen new.seen
begins_in_turn [] old new same = subst (λ (v : View ℕ). IsBeginning old.seen v.seen) (sym same) (itself old.seen)
begins_in_turn (x ∷ xs) old new each = begins_further old.seen each.0.seen new.seen each.1.goes.since (begins_in_turn xs each.0 new each.2)

-- What a pass that has freed the index x saw last is the end of that release.
module _ (x : ℕ) (old new : View ℕ) (h : HasFreed x old new) where
  -- What was seen until the end of the release.
  abbrev until_end : List (Event ℕ)
  until_end = (old.seen ++ h.given.called.others) ++ starts_so h.given.by x ∷ h.given.called.during

  -- Behind it the pass saw just that end.
  seen_is : new.seen ≡ until_end ++ ends_so h.given.by x ∷ []
  seen_is = h.given.called.is
      ∙ sym (append_assoc (old.seen ++ h.given.called.others) (starts_so h.given.by x ∷ h.given.called.during) (ends_so h.given.by x ∷ []))

module _ (capacity : ℕ) where
  -- indices that are freed in turn are freed each with a run that was known then, from a view on that knows a run
  from_there : (x : ℕ) (xs : List ℕ) (old old' new : View ℕ) → AreAlike old old' → InTurn HasFreed (x ∷ xs) old new → AreFirst old'.turns new.turns
      → Knows one_word kinds.Indices capacity old' → Knows one_word kinds.Indices capacity new → InTurn (HasFreedInRun capacity) (x ∷ xs) old' new
  from_there x [] old old' new are_alike each first before after =
      (new, freed_so are_alike (alike new) new (subst (λ v. HasFreed x old v) (sym each.2) each.1) first (first_all new.turns) before after, refl)
  from_there x (y ∷ ys) old old' new are_alike each first before after =
      let k =
      known_then one_word kinds.Indices capacity each.0 new (until_end x old each.0 each.1) each.1.given.by
      (Indices (Release x modes.Default)) (State Unlocked) after
      (subst IsPart (are_alike.share ∙ sym each.1.goes.share) before.asked.share)
      (seen_is x old each.0 each.1) (begins_in_turn (y ∷ ys) each.0 new each.2) in
      let now : View ℕ = then_view one_word kinds.Indices capacity each.0 k.0 in
      let alike_now : AreAlike each.0 now = record { seen = refl; made = refl; party = refl; share = refl; aside = refl } in (
        now,
        freed_so are_alike alike_now new each.1 first k.1 before k.2,
        from_there y ys each.0 now new alike_now each.2 k.1 k.2 after,
      )

-- The run that is known before frees in turn is the first part of the one known behind them.
first_in_turn : (is : List ℕ) (old new : View ℕ) → InTurn HasFreed is old new → AreFirst old.turns new.turns
first_in_turn [] old new same = subst (λ (v : View ℕ). AreFirst old.turns v.turns) (sym same) (first_all old.turns)
first_in_turn (x ∷ xs) old new each = first_further old.turns each.0.turns new.turns each.1.goes.first (first_in_turn xs each.0 new each.2)

-- If the pass knows a run before the indices are freed in turn, and one at the end, it knew the run up
-- to each of these releases when that release ended.
pub known_in_turn : (is : List ℕ) (capacity : ℕ) (old new : View ℕ) → InTurn HasFreed is old new
    → Knows one_word kinds.Indices capacity old → Knows one_word kinds.Indices capacity new → InTurn (HasFreedInRun capacity) is old new
known_in_turn [] capacity old new same before after = same
known_in_turn (x ∷ xs) capacity old new each before after =
    from_there capacity x xs old old new (alike old) each (first_in_turn (x ∷ xs) old new each) before after
