-- A seat with a share has seen all events (`Known`), through each change of the table: an operation of a
-- seat, a split and a join.
use Rattle.history.proofs.Names.{◌≡◌, ◌≢◌, inl, inr, ⊎_elim, ℕ, zero, suc, ◌<◌, Option, Some, None, List, [], ◌∷◌}
use Rattle.history.proofs.Names.{◌++◌, length, set, refl, sym, ap, subst, ◌∙◌, arith, sum_by, ◌==◌, true, ◌≤◌}
use Rattle.history.proofs.Names.{cases_eq, nat_tests, at_longer, set_here, set_else, Shares, IsAll, all_shares, Event}
use Rattle.history.proofs.Names.{whose, Trace}
use mathlib.Core.Option.{some, some-injective, some-ne-none}
use lib.ListN.{get_elem?}
use Rattle.threaded.proofs.Shares.{shares_alone, shares_stay, shares_split, shares_join, others_none, positive}
use Rattle.history.specs.declared.view.View.{View}
use Rattle.history.specs.Views.{right_view, left_view, joined_view, spent_view}
use Rattle.history.specs.History.{IsBeginning, Fits}
use Rattle.history.specs.Known.{HasSeen, Known, own_of, events_by, owned, if_owned, of_none}
use Rattle.history.proofs.Known.{nat_cases, within, nil_left, nil_right, own_mine, sum_first}

-- a list has an element at each place below its length
there_is : {A : Type 0} → (xs : List A) (j : ℕ) → j < length xs → (x : A) × (get_elem? xs j ≡ some x)
there_is [] j low = absurd (omega arith)
there_is (x ∷ xs) zero low = (x, refl)
there_is (x ∷ xs) (suc j) low = there_is xs j (omega arith)

module _ {T : Type 0} where
  -- ---- who made all

  -- 1 for each event
  abbrev one : Event T → ℕ
  one e = 1

  -- by every measure, all events are those of this seat's parties, where the parties of all
  -- other seats did nothing
  pub all_owned : (owner : ℕ → ℕ) (id n : ℕ) (f : Event T → ℕ) (es : List (Event T))
      → ((q : ℕ) → q < n → owner q < n) → ((j : ℕ) → j ≢ id → j < n → sum_by (owned owner j one) es ≡ 0)
      → ((q : ℕ) → owner q ≢ id → n ≤ q → events_by q es ≡ []) → sum_by (λ e. of_none (whose e)) es ≡ 0
      → sum_by f es ≡ sum_by (owned owner id f) es
  all_owned owner id n f [] inside none beyond someone = refl
  all_owned owner id n f (e ∷ es) inside none beyond someone =
      let here = first (whose e) refl in
      let sum_none = sum_first (λ x. of_none (whose x)) e es in
      let more =
      all_owned owner id n f es inside
      (λ j ne low. omega (arith, none j ne low, sum_first (owned owner j one) e es))
      (λ q ne past. nil_right (own_of q e) (events_by q es) (beyond q ne past)) (omega arith) in
      omega (arith, sum_first f e es, sum_first (owned owner id f) e es)
    where
      -- the event counts as one of this seat's
      first : (o : Option ℕ) → whose e ≡ o → f e ≡ owned owner id f e
      first None whose_is = (let k : of_none (whose e) ≡ 1 = ap of_none whose_is in absurd (omega (arith, sum_first (λ x. of_none (whose x)) e es)))
      first (Some q) whose_is = ⊎_elim mine other (cases_eq (owner q) id)
        where
          -- an event of a party of this seat counts as one of this seat's
          mine : owner q ≡ id → f e ≡ owned owner id f e
          mine = grind (arith, nat_tests)

          -- an event whose party is of another seat counts as much as one of this seat's, since there is no such event
          other : owner q ≢ id → f e ≡ owned owner id f e
          other ne =
              ⊎_elim (λ (past : n ≤ q).
              (let no : e ∷ [] ≡ [] = sym (own_mine q e whose_is) ∙ nil_left (own_of q e) (events_by q es) (beyond q ne past) in absurd (cc)))
              (λ (low : q < n). (
              let z = none (owner q) ne (inside q low) in
              let s = sum_first (owned owner (owner q) one) e es in
              let tests_same : (owner q == owner q) ≡ true = grind (arith, nat_tests) in
              let k : owned owner (owner q) one e ≡ 1 = ap (λ o. if_owned owner (owner q) o 1) whose_is ∙ rw tests_same refl in
              absurd (omega arith))) (nat_cases n q)

  -- a seat without a share, which made nothing and has no call under way, has no party that did something
  pub spent_owned : (owner : ℕ → ℕ) (t : Trace T) (j : ℕ) (v : View T) (f : Event T → ℕ) → Fits owner t j v
      → v.made ≡ [] → v.going ≡ None → sum_by (owned owner j f) t.events ≡ 0
  spent_owned = grind arith

  -- ---- what all seats know

  abbrev share_of : View T → Rattle.threaded.specs.declared.share.Share.Share
  share_of v = v.share

  -- each seat without a share has made nothing and has no call under way
  abbrev SpentIn : List (View T) → Type 0
  SpentIn views = (j : ℕ) (u : View T) → get_elem? views j ≡ some u → u.share.part ≡ 0 → (u.made ≡ []) × (u.going ≡ None)

  -- a table with one seat, which has the whole share, holds what `Known` says while nothing has happened
  pub known_alone : (v : View T) → v.share ≡ all_shares → v.seen ≡ [] → Known (v ∷ []) []
  known_alone v all seen =
      record {
        shares = shares_alone share_of v all;
        by = 0;
        last = v;
        at = refl;
        any = omega (arith, ap (λ s. s.part) all);
        all = inl seen;
        someone = refl;
        spent = spent;
      }
    where
      -- the only seat has a share, so nothing has to hold of seats without one
      spent : SpentIn (v ∷ [])
      spent zero u at part =
          (absurd (omega (arith, ap (λ (z : View T). z.share.part) (some-injective v u at), ap (λ s. s.part) all)))
      spent (suc j) u at part = absurd (some-ne-none u (sym at))

  -- with a new view of one seat, each seat without a share has made nothing and has no call under way
  spent_set : (views : List (View T)) (id : ℕ) (w : View T) → SpentIn views → (w.share.part ≡ 0 → (w.made ≡ []) × (w.going ≡ None)) → SpentIn (set views id w)
  spent_set views id w spent own j u at part =
      ⊎_elim (λ (e : (j ≡ id) × (w ≡ u)). subst (λ (z : View T). (z.made ≡ []) × (z.going ≡ None)) e.1
      (own (ap (λ (z : View T). z.share.part) e.1 ∙ part)))
      (λ (e : (j ≢ id) × (get_elem? views j ≡ some u)). spent j u e.1 part)
      (Rattle.atomic_table.proofs.Lists.at_set views id j w u at)

  -- a seat with a share that has now seen all events holds what `Known` says
  pub known_step : {views : List (View T)} {events : List (Event T)} (id : ℕ) {v : View T} (w : View T)
      → get_elem? views id ≡ some v → w.share ≡ v.share → 0 < v.share.part → w.seen ≡ events
      → sum_by (λ e. of_none (whose e)) events ≡ 0 → SpentIn views → Shares share_of views
      → Known (set views id w) events
  known_step {views} id {v} w has_view same part seen someone spent shares =
      record {
        shares = shares_stay share_of views id v w has_view same shares;
        by = id;
        last = w;
        at = set_here views id w (within views id v has_view);
        any = omega (arith, ap (λ s. s.part) same);
        all = inl seen;
        someone = someone;
        spent = spent_set views id w spent (λ none. (absurd (omega (arith, ap (λ s. s.part) same))));
      }

  -- where one seat has the whole share, it has seen all events
  pub known_whole : {views : List (View T)} {events : List (Event T)} (id : ℕ) {v : View T}
      → get_elem? views id ≡ some v → IsAll v.share → Known views events → HasSeen v events
  known_whole {views} {events} id {v} has_view whole known = ⊎_elim mine theirs (cases_eq known.by id)
    where
      -- the seat that has seen all is this one, since no other has a share
      mine : known.by ≡ id → HasSeen v events
      mine by_is_id =
          let there : some known.last ≡ some v = sym known.at ∙ (ap (get_elem? views) by_is_id ∙ has_view) in
          subst (λ z. HasSeen z events) (some-injective known.last v there) known.all

      -- the seat that has seen all is not another one, since only this one has a share
      theirs : known.by ≢ id → HasSeen v events
      theirs ne =
          let none = others_none share_of views id v has_view known.shares whole in
          absurd (omega (arith, none known.by known.last ne known.at, known.any))

  -- where one seat has the whole share, its parties did all that was done
  pub owned_whole : {owner : ℕ → ℕ} {t : Trace T} {views : List (View T)} {id : ℕ} {v : View T}
      → get_elem? views id ≡ some v → IsAll v.share → Shares share_of views → SpentIn views
      → ((j : ℕ) (u : View T) → j ≢ id → get_elem? views j ≡ some u → Fits owner t j u)
      → ((q : ℕ) → q < length views → owner q < length views)
      → ((q : ℕ) → owner q ≢ id → length views ≤ q → events_by q t.events ≡ [])
      → sum_by (λ e. of_none (whose e)) t.events ≡ 0
      → (f : Event T → ℕ) → sum_by f t.events ≡ sum_by (owned owner id f) t.events
  owned_whole {owner} {t} {views} {id} {v} has_view whole shares spent fits inside beyond someone f =
      all_owned owner id (length views) f t.events inside none beyond someone
    where
      -- the parties of no other seat did anything
      none : (j : ℕ) → j ≢ id → j < length views → sum_by (owned owner j one) t.events ≡ 0
      none j ne low =
          let u = there_is views j low in
          let no_share = others_none share_of views id v has_view shares whole in
          let gone = spent j u.0 u.1 (no_share j u.0 ne u.1) in
          spent_owned owner t j u.0 one (fits j u.0 ne u.1) gone.0 gone.1

  -- after a split some seat with a share has seen all events
  pub known_split : {views : List (View T)} {events : List (Event T)} (id : ℕ) (v : View T) → id < length views
      → get_elem? views id ≡ some v → Known views events
      → Known (set views id (left_view v) ++ right_view v ∷ []) events
  known_split {views} {events} id v low has_view known = ⊎_elim mine theirs (cases_eq known.by id)
    where
      -- the views after the split, without the new seat
      cut : List (View T)
      cut = set views id (left_view v) ++ right_view v ∷ []

      -- after the split the shares still make the whole
      shares : Shares share_of cut
      shares = let splits = shares_split share_of views id v (left_view v) (right_view v) in splits has_view refl refl known.shares

      -- after the split each seat without a share has made nothing
      spent : SpentIn cut
      spent =
          spent_end (set views id (left_view v)) (right_view v)
          (spent_set views id (left_view v) known.spent (λ none. known.spent id v has_view none)) refl refl
        where
          -- a new seat at the end that has made nothing keeps what holds of seats without a share
          spent_end : (xs : List (View T)) (w : View T) → SpentIn xs → w.made ≡ [] → w.going ≡ None → SpentIn (xs ++ w ∷ [])
          spent_end [] w spent_in none idle zero u e part = grind (arith, some-injective)
          spent_end [] w spent_in none idle (suc j) u e part = absurd (some-ne-none u (sym e))
          spent_end (x ∷ xs) w spent_in none idle zero u e part = spent_in zero u e part
          spent_end (x ∷ xs) w spent_in none idle (suc j) u e part = spent_end xs w (λ i z. spent_in (suc i) z) none idle j u e part

      -- if the seat that was split had seen all, its left half has
      mine : known.by ≡ id → Known cut events
      mine by_is_id =
          let there : some known.last ≡ some v = sym known.at ∙ (ap (get_elem? views) by_is_id ∙ has_view) in
          let same : known.last ≡ v = some-injective known.last v there in
          let any : 0 < v.share.part = subst (λ (z : View T). 0 < z.share.part) same known.any in
          let all : HasSeen v events = subst (λ z. HasSeen z events) same known.all in
          record {
            shares = shares;
            by = id;
            last = left_view v;
            at = at_longer (set views id (left_view v)) (right_view v ∷ []) id (left_view v) (set_here views id (left_view v) low);
            any = any;
            all = all;
            someone = known.someone;
            spent = spent;
          }

      -- if another seat had seen all, it still has
      theirs : known.by ≢ id → Known cut events
      theirs ne =
          record {
            shares = shares;
            by = known.by;
            last = known.last;
            at = at_longer (set views id (left_view v)) (right_view v ∷ []) known.by known.last (set_else views id known.by (left_view v) ne ∙ known.at);
            any = known.any;
            all = known.all;
            someone = known.someone;
            spent = spent;
          }

  -- after a join some seat with a share has seen all events
  pub known_join : {views : List (View T)} {events : List (Event T)} {id other : ℕ} {v w : View T}
      → get_elem? views id ≡ some v → ¬ (other ≡ id) → get_elem? views other ≡ some w → 0 < v.share.part
      → IsBeginning v.seen events → v.other ≡ [] → w.other ≡ [] → Known views events
      → Known (set (set views id (joined_view v w)) other spent_view) events
  known_join {views} {events} {id} {other} {v} {w} first_has_view apart second_has_view part mine_seen alone alone' known =
      ⊎_elim mine (λ ne. ⊎_elim theirs (third ne) (cases_eq known.by other)) (cases_eq known.by id)
    where
      -- the views after the join
      both : List (View T)
      both = set (set views id (joined_view v w)) other spent_view

      -- after the join the shares make the whole
      shares : Shares share_of both
      shares = shares_join share_of views id other v w (joined_view v w) spent_view first_has_view apart second_has_view refl refl known.shares

      -- the seat that takes in has its joined view
      there : get_elem? both id ≡ some (joined_view v w)
      there = grind (arith, set_else, set, other, set_here, within)

      -- the joined seat has a share
      more : 0 < v.share.part → 0 < (joined_view v w).share.part
      more any = omega (arith, positive v.share.part w.share.parts any (known.shares.fits other w second_has_view).0)

      -- after the join each seat without a share has made nothing
      spent : SpentIn both
      spent = grind (arith, spent_set, set, other, more)

      -- a list with more behind it that is empty in all is empty
      none_left : (xs rest : List (Event T)) → [] ≡ xs ++ rest → xs ≡ []
      none_left [] rest lists_are = refl
      none_left (x ∷ xs) rest lists_are = absurd (cc)

      -- where nothing has happened, each seat has seen all
      early : events ≡ [] → v.seen ≡ events
      early events_are_empty = none_left v.seen mine_seen.rest (sym events_are_empty ∙ mine_seen.is) ∙ sym events_are_empty

      -- if the joined view has seen all events, all is known after the join (`Known`)
      joined : HasSeen (joined_view v w) events → Known both events
      joined all =
          record { shares = shares; by = id; last = joined_view v w; at = there; any = more part; all = all; someone = known.someone; spent = spent }

      -- if the seat that takes in had seen all, the joined one has
      mine : known.by ≡ id → Known both events
      mine by_is_id =
          let same : known.last ≡ v = some-injective known.last v (sym known.at ∙ (ap (get_elem? views) by_is_id ∙ first_has_view)) in
          joined (⊎_elim (λ h. inl h) (λ h. inl (early (sym h ∙ alone))) (subst (λ z. HasSeen z events) same known.all))

      -- if the seat that was taken in had seen all, the joined one knows it as `other`
      theirs : known.by ≡ other → Known both events
      theirs by_is_other =
          let same : known.last ≡ w = some-injective known.last w (sym known.at ∙ (ap (get_elem? views) by_is_other ∙ second_has_view)) in
          joined (⊎_elim (λ h. inr h) (λ h. inl (early (sym h ∙ alone'))) (subst (λ z. HasSeen z events) same known.all))

      -- if a third seat had seen all, it still has
      third : known.by ≢ id → known.by ≢ other → Known both events
      third = grind (arith, shares, set_else, set, other, spent)
