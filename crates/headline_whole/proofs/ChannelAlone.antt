-- Whoever is answered an index of a loan channel has it alone, since by the events it is with that party, and none that a
-- reclaim frees.
use Rattle.std.proofs.Common.{◌≡◌, ◌⊎◌, inl, inr, ⊎_elim, ℕ, ◌==◌, Bool, true, false, Option, Some, None, List, [], ◌∷◌, ◌++◌}
use Rattle.std.proofs.Common.{if◌then◌else◌, refl, sym, ap, subst, ◌∙◌, append_assoc, append-nil}
use Rattle.std.proofs.lemmas.List.Sums.{fold_push}
use Rattle.model.specs.declared.event.Answer.TheVariants.{Index, PoppedIndex}
use Rattle.model.specs.declared.event.Event.{Event}
use Rattle.model.specs.declared.event.Event.TheVariants.{Begun, Published, HandedOut, Claimed, Freed, Returned, TakenBack, Died, Finished}
use Rattle.model.specs.declared.event.Item.TheVariants as items
use Rattle.model.specs.declared.event.Start.{Start}
use Rattle.model.specs.declared.event.Start.TheVariants.{Loan}
use Rattle.model.specs.declared.families.loan.LoanStart.TheVariants as loans
use Rattle.model.specs.Families.Loan.Promises.{BeginsRight, IsLeft, IsReclaiming, LivesRight, MovesRight, promise}
use Rattle.model.specs.Families.Loan.Reading.{Spot, Free, Passing, With, Waiting, Returning, spot_after, spot_of}
use Rattle.model.specs.Families.Loan.Reading.{died_after, has_died_by, receiver_after, receiver_of}
use Rattle.model.specs.Promises.Spans.{StandsRight}
use Rattle.model.specs.Reading.{Each, Open, is_party, whose, own_after, span_of}
use Rattle.model.proofs.Names.{cases_eq}
use Rattle.headline_whole.specs.Answers.{LoansAlone, kept_by, user_after, user_of}
use Rattle.headline_whole.proofs.Spans.{none_some, same_some, true_false, if_same, if_other, is_none, is_its, is_not_its}
use Rattle.headline_whole.proofs.Spans.{same_open, opened, never_open, longer_open, span_then}

-- an index that a party has is not at another spot
not_free : (x : ℕ) → Free ≡ With x → ⊥
not_free x same = cc

not_passing : (p x : ℕ) → Passing p ≡ With x → ⊥
not_passing p x same = cc

not_waiting : (x : ℕ) → Waiting ≡ With x → ⊥
not_waiting x same = cc

not_returning : (x : ℕ) → Returning ≡ With x → ⊥
not_returning x same = cc

same_with : (x y : ℕ) → With x ≡ With y → x ≡ y
same_with x y same = cc

-- who has an index still, where a reclaim begins, had it, and begins it
kept_was : (p : ℕ) (u : Option ℕ) (x : ℕ) → kept_by p u ≡ Some x → (u ≡ Some x) × (x ≡ p)
kept_was p None x h = absurd (none_some x h)
kept_was p (Some u) x h =
    ⊎_elim
    (λ same. let its = sym (if_same u p (Some u) None same) ∙ h in (its, sym (same_some u x its) ∙ same))
    (λ apart. absurd (none_some x (sym (if_other u p (Some u) None apart) ∙ h))) (cases_eq u p)

module _ {T : Type 0} where
  -- the party's call under way is a reclaim
  abbrev InReclaim : ℕ → List (Event T) → Type 0
  InReclaim p past = (w : List (Event T)) × (span_of p past ≡ Open (Loan loans.Reclaim) w)

  -- What a reclaim under way says: it is the sender's, the receiver is dead, and by the answers it has no index.
  record Reclaims (past : List (Event T)) (p : ℕ) : Type 0 where
    pub sender : p ≡ 0
    pub dead : has_died_by (receiver_of past) past ≡ true
    pub left : (i : ℕ) → user_of i past ≡ Some (receiver_of past) → ⊥

  -- whoever has an index by the answers has it by the events
  record Goes (past : List (Event T)) : Type 0 where
    pub has : (i x : ℕ) → user_of i past ≡ Some x → spot_of i past ≡ With x
    pub reclaims : (p : ℕ) → InReclaim p past → Reclaims past p

  module _ (c : ℕ) (before : List (Event T)) (g : Goes before) where
    spot_then : (i : ℕ) (e : Event T) → spot_of i (before ++ e ∷ []) ≡ spot_after i (spot_of i before) e
    spot_then i e = fold_push (spot_after i) Free before e

    user_then : (i : ℕ) (e : Event T) → user_of i (before ++ e ∷ []) ≡ user_after i (user_of i before) e
    user_then i e = fold_push (user_after i) None before e

    receiver_then : (e : Event T) → receiver_of (before ++ e ∷ []) ≡ receiver_after (receiver_of before) e
    receiver_then e = fold_push receiver_after 1 before e

    died_then : (r : ℕ) (e : Event T) → has_died_by r (before ++ e ∷ []) ≡ died_after r (has_died_by r before) e
    died_then r e = fold_push (died_after r) false before e

    -- an index goes to whoever is answered it
    gains : (i j p x : ℕ) → (if j == i then Some p else user_of i before) ≡ Some x → (if j == i then With p else spot_of i before) ≡ With x
    gains i j p x has =
        ⊎_elim
        (λ same. if_same j i (With p) (spot_of i before) same
        ∙ ap (λ n. With n) (same_some p x (sym (if_same j i (Some p) (user_of i before) same) ∙ has)))
        (λ apart. if_other j i (With p) (spot_of i before) apart ∙ g.has i x (sym (if_other j i (Some p) (user_of i before) apart) ∙ has)) (cases_eq j i)

    -- nobody has one that is sent, given up or given back
    loses : (i j x : ℕ) (to : Spot) → (if j == i then None else user_of i before) ≡ Some x → (if j == i then to else spot_of i before) ≡ With x
    loses i j x to has =
        ⊎_elim (λ same. absurd (none_some x (sym (if_same j i None (user_of i before) same) ∙ has)))
        (λ apart. if_other j i to (spot_of i before) apart ∙ g.has i x (sym (if_other j i None (user_of i before) apart) ∙ has)) (cases_eq j i)

    -- an index that moves from another spot is not one that somebody has
    stays : (i j x : ℕ) (from to : Spot) → spot_of j before ≡ from → (from ≡ With x → ⊥) → user_of i before ≡ Some x
        → (if j == i then to else spot_of i before) ≡ With x
    stays i j x from to is never has =
        if_other j i to (spot_of i before) (λ same. never (sym (subst (λ n. spot_of n before ≡ from) same is) ∙ g.has i x has)) ∙ g.has i x has

    -- nor is one that is freed
    frees : (p j x : ℕ) → MovesRight c before (Freed p j) → user_of j before ≡ Some x → ⊥
    frees p j x right has = go right.1
      where
        go : (spot_of j before ≡ Passing p) ⊎ (IsReclaiming (span_of p before) × IsLeft before (spot_of j before)) → ⊥
        go (inl passing) = not_passing p x (sym passing ∙ g.has j x has)
        go (inr left) =
            let o = opened (Loan loans.Reclaim) (λ w. Unit {0}) (span_of p before) left.0 in
            ⊎_elim
            (λ with. (g.reclaims p (o.0, o.1)).left j (has ∙ ap (λ n. Some n) (same_with x (receiver_of before) (sym (g.has j x has) ∙ with))))
            (λ passing. not_passing (receiver_of before) x (sym passing ∙ g.has j x has)) left.1.1

    has_next : (e : Event T) → MovesRight c before e → (i x : ℕ) → user_of i (before ++ e ∷ []) ≡ Some x → spot_of i (before ++ e ∷ []) ≡ With x
    has_next (Finished p (Loan loans.Loan) (Index j)) right i x has =
        let e : Event T = Finished p (Loan loans.Loan) (Index j) in
        spot_then i e ∙ gains i j p x (sym (user_then i e) ∙ has)
    has_next (Finished p (Loan loans.Receive) (PoppedIndex j)) right i x has =
        let e : Event T = Finished p (Loan loans.Receive) (PoppedIndex j) in
        spot_then i e ∙ gains i j p x (sym (user_then i e) ∙ has)
    has_next (Begun p (Loan (loans.Send j))) right i x has =
        let e : Event T = Begun p (Loan (loans.Send j)) in
        spot_then i e ∙ loses i j x (Passing p) (sym (user_then i e) ∙ has)
    has_next (Begun p (Loan (loans.GiveUp j))) right i x has =
        let e : Event T = Begun p (Loan (loans.GiveUp j)) in
        spot_then i e ∙ loses i j x (Passing p) (sym (user_then i e) ∙ has)
    has_next (Begun p (Loan (loans.GiveBack j))) right i x has =
        let e : Event T = Begun p (Loan (loans.GiveBack j)) in
        spot_then i e ∙ loses i j x (Passing p) (sym (user_then i e) ∙ has)
    has_next (Begun p (Loan loans.Reclaim)) right i x has =
        let e : Event T = Begun p (Loan loans.Reclaim) in
        spot_then i e ∙ g.has i x (kept_was p (user_of i before) x (sym (user_then i e) ∙ has)).0
    has_next (Freed p j) right i x has =
        let had : user_of i before ≡ Some x = sym (user_then i (Freed p j)) ∙ has in
        spot_then i (Freed p j)
        ∙ (if_other j i Free (spot_of i before) (λ same. frees p j x right (subst (λ n. user_of n before ≡ Some x) (sym same) had)) ∙ g.has i x had)
    has_next (Claimed p j) right i x has =
        spot_then i (Claimed p j) ∙ stays i j x Free (Passing p) right.1 (not_free x) (sym (user_then i (Claimed p j)) ∙ has)
    has_next (Published p (items.Index j)) right i x has =
        let e : Event T = Published p (items.Index j) in
        spot_then i e ∙ stays i j x (Passing p) Waiting right.1 (not_passing p x) (sym (user_then i e) ∙ has)
    has_next (HandedOut p (items.Index j)) right i x has =
        let e : Event T = HandedOut p (items.Index j) in
        spot_then i e ∙ stays i j x Waiting (Passing p) right.1 (not_waiting x) (sym (user_then i e) ∙ has)
    has_next (Returned p j) right i x has =
        spot_then i (Returned p j) ∙ stays i j x (Passing p) Returning right.1 (not_passing p x) (sym (user_then i (Returned p j)) ∙ has)
    has_next (TakenBack p j) right i x has =
        spot_then i (TakenBack p j) ∙ stays i j x Returning (Passing p) right.1 (not_returning x) (sym (user_then i (TakenBack p j)) ∙ has)
    has_next e right i x has = spot_then i e ∙ g.has i x (sym (user_then i e) ∙ has)

    -- an index in passing is nobody's
    unused : (p i : ℕ) → spot_of i before ≡ Passing p → user_of i before ≡ None
    unused p i passing = is_none (user_of i before) (λ x has. not_passing p x (sym passing ∙ g.has i x has))

    -- ---- a reclaim under way

    -- the dead stay dead
    dies : (e : Event T) (r : ℕ) → has_died_by r before ≡ true → has_died_by r (before ++ e ∷ []) ≡ true
    dies (Died q) r dead =
        died_then r (Died q)
        ∙ ⊎_elim (λ same. if_same q r true (has_died_by r before) same) (λ apart. if_other q r true (has_died_by r before) apart ∙ dead) (cases_eq q r)
    dies e r dead = died_then r e ∙ dead

    -- who has died is answered no index
    alive : (i j q r : ℕ) → has_died_by q before ≡ false → has_died_by r before ≡ true → (if j == i then Some q else user_of i before) ≡ Some r
        → user_of i before ≡ Some r
    alive i j q r lives dead h =
        ⊎_elim
        (λ same. absurd (true_false (has_died_by r before) dead
        (subst (λ n. has_died_by n before ≡ false) (same_some q r (sym (if_same j i (Some q) (user_of i before) same) ∙ h)) lives)))
        (λ apart. sym (if_other j i (Some q) (user_of i before) apart) ∙ h) (cases_eq j i)

    fewer : (i j r : ℕ) → (if j == i then None else user_of i before) ≡ Some r → user_of i before ≡ Some r
    fewer i j r h =
        ⊎_elim (λ same. absurd (none_some r (sym (if_same j i None (user_of i before) same) ∙ h)))
        (λ apart. sym (if_other j i None (user_of i before) apart) ∙ h) (cases_eq j i)

    had : (e : Event T) → LivesRight before e → (i r : ℕ) → has_died_by r before ≡ true → user_after i (user_of i before) e ≡ Some r
        → user_of i before ≡ Some r
    had (Finished q (Loan loans.Loan) (Index j)) lives i r dead h = alive i j q r lives dead h
    had (Finished q (Loan loans.Receive) (PoppedIndex j)) lives i r dead h = alive i j q r lives dead h
    had (Begun q (Loan (loans.Send j))) lives i r dead h = fewer i j r h
    had (Begun q (Loan (loans.GiveUp j))) lives i r dead h = fewer i j r h
    had (Begun q (Loan (loans.GiveBack j))) lives i r dead h = fewer i j r h
    had (Begun q (Loan loans.Reclaim)) lives i r dead h = (kept_was q (user_of i before) r h).0
    had e lives i r dead h = h

    -- a reclaim goes on, if no reclaim ends
    keeps : (e : Event T) → LivesRight before e → (p : ℕ) → Reclaims before p → receiver_of (before ++ e ∷ []) ≡ receiver_of before
        → Reclaims (before ++ e ∷ []) p
    keeps e lives p r same =
        record {
          sender = r.sender;
          dead = dies e (receiver_of (before ++ e ∷ [])) (subst (λ n. has_died_by n before ≡ true) (sym same) r.dead);
          left = λ i has.
              r.left i (had e lives i (receiver_of before) r.dead (sym (user_then i e) ∙ (has ∙ ap (λ n. Some n) same)));
        }

    -- of another party
    others : (e : Event T) → LivesRight before e → StandsRight promise c before e → (p : ℕ) → (whose e ≡ Some p → ⊥) → Reclaims before p
        → Reclaims (before ++ e ∷ []) p
    others (Finished q (Loan loans.Reclaim) answer) lives stands p other r =
        let o = opened (Loan loans.Reclaim) (promise.wrote c (Loan loans.Reclaim) answer) (span_of q before) stands in
        absurd (other (ap (λ n. Some n) ((g.reclaims q (o.0, o.1)).sender ∙ sym r.sender)))
    others e lives stands p other r = keeps e lives p r (receiver_then e)

    -- its own
    own : (e : Event T) → BeginsRight before e → LivesRight before e → (p : ℕ) → whose e ≡ Some p
        → (w : List (Event T)) → own_after (span_of p before) e ≡ Open (Loan loans.Reclaim) w → Reclaims (before ++ e ∷ []) p
    own (Begun q start) begins lives p its w is = begun start (same_open start (Loan loans.Reclaim) [] w is).0 begins lives
      where
        begun : (start : Start T) → start ≡ Loan loans.Reclaim → BeginsRight before (Begun q start) → LivesRight before (Begun q start)
            → Reclaims (before ++ Begun q start ∷ []) p
        begun start same begins lives =
            let e : Event T = Begun q (Loan loans.Reclaim) in
            let sender : q ≡ 0 = subst (λ s. BeginsRight before (Begun q s)) same begins in
            let living = subst (λ s. LivesRight before (Begun q s)) same lives in
            subst (λ s. Reclaims (before ++ Begun q s ∷ []) p) (sym same)
            (record {
              sender = sym (same_some q p its) ∙ sender;
              dead =
                  dies e (receiver_of (before ++ e ∷ [])) (subst (λ n. has_died_by n before ≡ true) (sym (receiver_then e)) living.1);
              left = λ i has.
                  let still = kept_was q (user_of i before) (receiver_of before) (sym (user_then i e) ∙ (has ∙ ap (λ n. Some n) (receiver_then e))) in
                  true_false (has_died_by q before) (subst (λ n. has_died_by n before ≡ true) still.1 living.1) living.0;
            })
    own (Finished q start answer) begins lives p its w is = absurd (never_open (span_of p before) answer (Loan loans.Reclaim) w is)
    own e begins lives p its w is =
        let l = longer_open (span_of p before) e (Loan loans.Reclaim) w is in
        keeps e lives p (g.reclaims p (l.0, l.1)) (receiver_then e)

    reclaims_next : (e : Event T) → BeginsRight before e → LivesRight before e → StandsRight promise c before e → (p : ℕ)
        → InReclaim p (before ++ e ∷ []) → Reclaims (before ++ e ∷ []) p
    reclaims_next e begins lives stands p (w, is) = go (is_party p (whose e)) refl (sym (span_then p before e) ∙ is)
      where
        go : (b : Bool) → is_party p (whose e) ≡ b
            → (if b then own_after (span_of p before) e else span_of p before) ≡ Open (Loan loans.Reclaim) w → Reclaims (before ++ e ∷ []) p
        go true t there = own e begins lives p (is_its p (whose e) t) w there
        go false t there = others e lives stands p (is_not_its p (whose e) t) (g.reclaims p (w, there))

    next : (e : Event T) → MovesRight c before e → BeginsRight before e → LivesRight before e → StandsRight promise c before e → Goes (before ++ e ∷ [])
    next e right begins lives stands = record { has = has_next e right; reclaims = reclaims_next e begins lives stands }

  module _ (c : ℕ) (events : List (Event T)) (moves : Each (MovesRight c) events) (begins : Each BeginsRight events)
      (lives : Each LivesRight events) (stands : Each (StandsRight promise c) events) where
    goes : (es before after : List (Event T)) → events ≡ before ++ (es ++ after) → Goes before → Goes (before ++ es)
    goes [] before after split g = subst Goes (sym (append-nil before)) g
    goes (e ∷ es) before after split g =
        subst Goes (append_assoc before (e ∷ []) es)
        (goes es (before ++ e ∷ []) after (split ∙ sym (append_assoc before (e ∷ []) (es ++ after)))
        (next c before g e (moves before (es ++ after) e split) (begins before (es ++ after) e split) (lives before (es ++ after) e split)
        (stands before (es ++ after) e split)))

    none_yet : Goes []
    none_yet = record { has = λ i x has. absurd (cc); reclaims = λ p (w, is). absurd (cc) }

    -- whoever is answered an index of a loan channel has it alone
    pub loans_alone : Each (LoansAlone c) events
    loans_alone before after e split = go e split
      where
        g : Goes before
        g = goes before [] (e ∷ after) split none_yet

        go : (e : Event T) → events ≡ before ++ e ∷ after → LoansAlone c before e
        go (Finished p (Loan loans.Loan) (Index i)) split =
            let right = moves before after (Finished p (Loan loans.Loan) (Index i)) split in (right.0, unused c before g p i right.1)
        go (Finished p (Loan loans.Receive) (PoppedIndex i)) split =
            let right = moves before after (Finished p (Loan loans.Receive) (PoppedIndex i)) split in (right.0, unused c before g p i right.1)
        go e split = tt
