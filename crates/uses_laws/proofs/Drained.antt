-- A reset of all counts that has met nobody has taken out all that was counted.
use Rattle.std.proofs.Common.{◌≡◌, ◌⊎◌, ⊎_elim, ℕ, ◌+◌, ◌%◌, ◌^◌, ◌<◌, ◌≤◌, ◌==◌, Bool, true, false, cond, List, [], ◌∷◌, ◌++◌}
use Rattle.std.proofs.Common.{refl, sym, ap, subst, ◌∙◌, append_assoc, arith, mod-eq_of_lt}
use Rattle.std.proofs.lemmas.Bool.{cases_lt}
use Rattle.std.proofs.lemmas.Bool.Decides.{nat_tests}
use Rattle.std.proofs.lemmas.List.Sums.{sum_by-append}
use Rattle.std.specs.List.{sum_by}
use Rattle.steps.specs.declared.bits.counting_bit_set.BitState.{BitState}
use Rattle.model.specs.declared.event.Answer.TheVariants.{Done}
use Rattle.model.specs.declared.event.Event.TheVariants.{Begun, TakenOut, Finished}
use Rattle.model.specs.declared.event.Start.{Start}
use Rattle.model.specs.declared.event.Start.TheVariants.{Bits}
use Rattle.model.specs.declared.families.bits.BitsStart.TheVariants.{ResetAll}
use Rattle.model.specs.Families.Bits.Reading.{counts, takes, count_at, is_count_of, take_of}
use Rattle.model.specs.Moments.{BeginsNone}
use Rattle.model.specs.Reading.{Each}
use Rattle.model.proofs.Moments.{begins_none_more}
use Rattle.lock_free.specs.Counts.Contracts.{HasTakenOut, MissedNoCount}
use Rattle.lock_free.specs.Event.{Event}
use Rattle.lock_free.specs.HistoryView.View.{View}
use Rattle.lock_free.proofs.Counts.Sums.{take_adds}
use Rattle.lock_free.proofs.Sums.{same_last, reaches}
use Rattle.lock_free.specs.CountLaws.{TakesAll}

counts_more : (place : ℕ) (xs ys : List (Event ℕ)) → counts place (xs ++ ys) ≡ counts place xs + counts place ys
counts_more place xs ys = sum_by-append (λ e. cond (is_count_of place e) 1 0) xs ys

-- two lists of events, one after the other, took out of a place what each of them took out
takes_more : (place : ℕ) (xs ys : List (Event ℕ)) → takes place (xs ++ ys) ≡ takes place xs + takes place ys
takes_more place xs ys = sum_by-append (take_of place) xs ys

-- ---- where something was taken out

-- an event of the list took this number out of the place
record TakenIn (place : ℕ) (events : List (Event ℕ)) : Type 0 where
  by : ℕ
  number : ℕ
  first : List (Event ℕ)
  second : List (Event ℕ)
  is : events ≡ first ++ TakenOut by place number ∷ second

later : (place : ℕ) (e : Event ℕ) (es : List (Event ℕ)) → TakenIn place es → TakenIn place (e ∷ es)
later place e es h = record { by = h.by; number = h.number; first = e ∷ h.first; second = h.second; is = ap (λ xs. e ∷ xs) h.is }

-- where something was taken out of a place, an event says by whom and how much
taken_in : (place : ℕ) (es : List (Event ℕ)) → 1 ≤ takes place es → TakenIn place es
taken_in place [] some = absurd (omega arith)
taken_in place (TakenOut p x m ∷ es) some = go (x == place) refl (λ more. taken_in place es more)
  where
    -- an event that takes out of this place is the first one, or one of the later ones
    go : (t : Bool) → (x == place) ≡ t → (1 ≤ takes place es → TakenIn place es) → TakenIn place (TakenOut p x m ∷ es)
    go true t rest =
        let same : x ≡ place = grind (arith, nat_tests) in
        record { by = p; number = m; first = []; second = es; is = ap (λ z. TakenOut p z m ∷ es) same }
    go false t rest =
        let more = takes_more place (TakenOut p x m ∷ []) es in
        let none : takes {T = ℕ} place (TakenOut p x m ∷ []) ≡ 0 = rw t refl in
        later place (TakenOut p x m) es (rest (omega arith))
taken_in place (e ∷ es) some =
    let more = takes_more place (e ∷ []) es in
    let none : takes {T = ℕ} place (e ∷ []) ≡ 0 = refl in
    later place e es (taken_in place es (omega arith))

one_taken : (p place number : ℕ) → takes {T = ℕ} place (TakenOut p place number ∷ []) ≡ number
one_taken p place number = let same : (place == place) ≡ true = grind (arith, nat_tests) in rw same (omega arith)

-- ---- all is taken out

module _ (place p : ℕ) (start : Start ℕ) (end : Event ℕ) (events earlier since : List (Event ℕ))
    (is : events ≡ (earlier ++ Begun p start ∷ since) ++ end ∷ []) (each : Each TakesAll events)
    (few : counts place events < 2 ^ 64) (same : counts place events ≤ counts place earlier) where
  -- a take-out since then was of all that was counted
  by_one : TakenIn place since → counts place events ≤ takes place events
  by_one x =
      let before : List (Event ℕ) = earlier ++ Begun p start ∷ x.first in
      let here : Event ℕ = TakenOut x.by place x.number in
      let after : List (Event ℕ) = x.second ++ end ∷ [] in
      let whole : events ≡ before ++ here ∷ after =
      is ∙ (ap (λ zs. (earlier ++ Begun p start ∷ zs) ++ end ∷ []) x.is
      ∙ (append_assoc earlier (Begun p start ∷ (x.first ++ here ∷ x.second)) (end ∷ [])
      ∙ (ap (λ zs. earlier ++ Begun p start ∷ zs) (append_assoc x.first (here ∷ x.second) (end ∷ []))
      ∙ sym (append_assoc earlier (Begun p start ∷ x.first) (here ∷ after))))) in
      let right : (x.number ≡ count_at place before % 2 ^ 64) × (1 ≤ x.number) = each before after here whole in
      let all = right.0 in
      let some = right.1 in
      let counted = ap (counts place) whole ∙ counts_more place before (here ∷ after) in
      let counted_then = counts_more place earlier (Begun p start ∷ x.first) in
      let taken = ap (takes place) whole ∙ takes_more place before (here ∷ after) in
      let taken_then = takes_more place (here ∷ []) after in
      let one = one_taken x.by place x.number in
      let small : count_at place before < 2 ^ 64 = omega arith in
      let rest : count_at place before % 2 ^ 64 ≡ count_at place before = mod-eq_of_lt small in
      omega arith

  -- all that was counted is taken out, whether the place counted something as the call began or not
  all_taken : (1 ≤ count_at place earlier → (1 ≤ takes place since) ⊎ (2 ^ 64 ≤ counts place earlier + counts place since))
      → counts place events ≤ takes place events
  all_taken missed = ⊎_elim some none (cases_lt 0 (count_at place earlier))
    where
      counted : counts place events ≡ counts place (earlier ++ Begun p start ∷ since) + counts place (end ∷ [])
      counted = ap (counts place) is ∙ counts_more place (earlier ++ Begun p start ∷ since) (end ∷ [])

      taken : takes place events ≡ takes place (earlier ++ Begun p start ∷ since) + takes place (end ∷ [])
      taken = ap (takes place) is ∙ takes_more place (earlier ++ Begun p start ∷ since) (end ∷ [])

      none : count_at place earlier ≤ 0 → counts place events ≤ takes place events
      none low = omega (arith, taken, takes_more place earlier (Begun p start ∷ since))

      -- where the place counted something before the call, as much was taken out of it as was counted
      some : 0 < count_at place earlier → counts place events ≤ takes place events
      some stood = ⊎_elim (λ out. by_one (taken_in place since out)) wrapped (missed (omega arith))
        where
          -- too little was counted for the count to wrap
          wrapped : 2 ^ 64 ≤ counts place earlier + counts place since → counts place events ≤ takes place events
          wrapped many =
              absurd (omega (arith, counted, counts_more place earlier (Begun p start ∷ since), counts_more place (Begun p start ∷ []) since))

-- ---- a call of a pass with the whole share

module _ {F : Type 0} (step : F → BitState → F → Type 0) (capacity : ℕ) (visit visited : F) (old new : View ℕ)
    (taken : HasTakenOut step capacity visit visited old new) (missed : MissedNoCount capacity new)
    (before : (f : Event ℕ → ℕ) → sum_by f old.seen ≡ sum_by f old.made)
    (after : (f : Event ℕ → ℕ) → sum_by f new.seen ≡ sum_by f new.made)
    (each : Each TakesAll new.seen)
    (conserved : (place : ℕ) → counts place new.seen ≡ takes place new.seen + count_at place new.seen) where
  -- a reset of all, of a pass that knows all, has taken out of each place what was counted there
  pub drained : (place : ℕ) → place < capacity → counts place old.made < 2 ^ 64 → takes place new.made ≡ counts place new.made
  drained place low few =
      let is_count : Event ℕ → ℕ = λ e. cond (is_count_of place e) 1 0 in
      let party_there = taken.made.by in
      let q = missed.by in
      let c = taken.made.called in
      let s = missed.taken in
      let front : List (Event ℕ) = old.seen ++ c.others in
      let end : List (Event ℕ) = Finished party_there (Bits ResetAll) Done ∷ [] in
      let end_there : List (Event ℕ) = Finished q (Bits ResetAll) Done ∷ [] in
      -- the call's end is the last event of both accounts of it, so they are of one party
      let ends : (front ++ Begun party_there (Bits ResetAll) ∷ c.during) ++ end ≡ missed.before ++ end_there =
      append_assoc front (Begun party_there (Bits ResetAll) ∷ c.during) end ∙ (sym c.is ∙ missed.is) in
      let last =
      same_last (front ++ Begun party_there (Bits ResetAll) ∷ c.during) missed.before (Finished party_there (Bits ResetAll) Done)
      (Finished q (Bits ResetAll) Done) ends in
      let party : q ≡ party_there = cc in
      -- the history up to the call's begin (`part`), and from there on (`rest`)
      let there : new.seen ≡ (s.before ++ Begun q s.start ∷ s.since) ++ end_there = missed.is ∙ ap (λ es. es ++ end_there) s.is in
      let part : List (Event ℕ) = s.before ++ Begun q s.start ∷ [] in
      let rest : List (Event ℕ) = s.since ++ end_there in
      let cut : (s.before ++ Begun q s.start ∷ s.since) ++ end_there ≡ part ++ rest =
      append_assoc s.before (Begun q s.start ∷ s.since) end_there ∙ sym (append_assoc s.before (Begun q s.start ∷ []) rest) in
      let both : front ++ Begun party_there (Bits ResetAll) ∷ (c.during ++ end) ≡ part ++ rest = sym c.is ∙ (there ∙ cut) in
      let none : BeginsNone party_there rest = begins_none_more party_there s.since end_there (subst (λ z. BeginsNone z s.since) party s.within) tt in
      -- all that was counted before is counted when the call begins
      let reached : counts place front ≤ counts place part =
      reaches is_count party_there (Bits ResetAll) front (c.during ++ end) part rest both none in
      let grown = counts_more place old.seen c.others in
      let begun = counts_more place s.before (Begun q s.start ∷ []) in
      let adds = (take_adds old new step capacity visit taken place).0 in
      -- with the whole share what was seen is what was made
      let b : counts place old.seen ≡ counts place old.made = before is_count in
      let a : counts place new.seen ≡ counts place new.made = after is_count in
      let t : takes place new.seen ≡ takes place new.made = after (take_of place) in
      let all = conserved place in
      -- since then all that was counted was taken out
      let most =
      all_taken place q s.start (Finished q (Bits ResetAll) Done) new.seen s.before s.since there each (omega arith) (omega arith)
      (s.holds place low) in
      omega arith
