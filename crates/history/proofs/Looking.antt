-- A look through the history, and another one after it, are together one look (`looks_then`).
use Rattle.history.proofs.Names.{◌≡◌, ◌≢◌, inl, inr, ⊎_elim, ℕ, ◌<◌}
use Rattle.history.proofs.Names.{List, [], ◌∷◌, ◌++◌, length, sum_by, refl, sym, ap, subst, ◌∙◌, append_assoc}
use Rattle.history.proofs.Names.{arith, cases_eq, Event, Kind, Coding, IsAll}
use Rattle.std.proofs.Common.{length-append}
use Rattle.history.specs.declared.view.View.{View}
use Rattle.history.specs.History.{IsOfParties}
use Rattle.history.specs.Known.{own_of, events_by, owned}
use Rattle.history.specs.Views.{Looks}
use Rattle.history.proofs.OneRun.{first_further, continues_further}
use Rattle.history.proofs.Known.{begins_further, by_more, nil_right, none_before, sum_first}

-- a list of length 0 is empty
no_length : {A : Type 0} → (xs : List A) → length xs ≡ 0 → xs ≡ []
no_length [] none = refl
no_length (x ∷ xs) none = absurd (omega arith)

-- a list with more behind it that is empty in all is empty
none_left : {A : Type 0} → (xs rest : List A) → [] ≡ xs ++ rest → xs ≡ []
none_left [] rest lists_are = refl
none_left (x ∷ xs) rest lists_are = absurd (cc)

-- ---- how many events of a party a seat knows

module _ {T : Type 0} (p : ℕ) where
  -- 1 for an event of the party p, 0 for any other
  abbrev ones : Event T → ℕ
  ones e = length (own_of p e)

  module _ (owner : ℕ → ℕ) (j : ℕ) where
    -- an event of p is no event of a seat that does not act for p
    one_none : owner p ≢ j → (e : Event T) → owned owner j ones e ≡ 0
    one_none = grind arith

    -- an event of p counts once for the seat that acts for p
    one_mine : owner p ≡ j → (e : Event T) → owned owner j ones e ≡ ones e
    one_mine = grind arith

    -- events of p count nothing for a seat that does not act for p
    sum_none : owner p ≢ j → (es : List (Event T)) → sum_by (owned owner j ones) es ≡ 0
    sum_none apart [] = refl
    sum_none apart (e ∷ es) = omega (arith, one_none apart e, sum_none apart es, sum_first (owned owner j ones) e es)

    -- the events of p that the seat which acts for p owns are all of them
    sum_mine : owner p ≡ j → (es : List (Event T)) → sum_by (owned owner j ones) es ≡ length (events_by p es)
    sum_mine mine [] = refl
    sum_mine mine (e ∷ es) =
        omega (arith, one_mine mine e, sum_mine mine es, sum_first (owned owner j ones) e es, length-append (own_of p e) (events_by p es))

  -- a seat that acts for p has made all the events of p that it has seen
  made_mine : {v : View T} (h : IsOfParties v) → h.owner p ≡ h.seat → sum_by ones v.made ≡ length (events_by p v.seen)
  made_mine {v} h mine = h.sums ones ∙ sum_mine h.owner h.seat mine v.seen

  -- a seat that does not act for p has made no event of p
  made_none : {v : View T} (h : IsOfParties v) → h.owner p ≢ h.seat → sum_by ones v.made ≡ 0
  made_none {v} h apart = h.sums ones ∙ sum_none h.owner h.seat apart v.seen

-- ---- two looks

-- a is a look from u to v, b one from v to w
module _ {T : Type 0} (code : Coding T) (kind : Kind) (size : ℕ) (u v w : View T) (a : Looks code kind size u v) (b : Looks code kind size v w) where
  -- a party that another seat had at the first look wrote nothing that the second look tells
  nothing_of : (p : ℕ) → b.parties.owner p ≡ b.parties.seat → a.parties.owner p ≢ a.parties.seat → events_by p a.mine.rest ≡ []
  nothing_of p mine apart =
      let made : sum_by (ones p) w.made ≡ 0 = ap (sum_by (ones p)) b.made ∙ made_none p a.parties apart in
      let none : events_by p w.seen ≡ [] = no_length (events_by p w.seen) (sym (made_mine p b.parties mine) ∙ made) in
      let before : events_by p v.seen ≡ [] = none_before p v.seen w.seen b.mine none in
      nil_right (events_by p u.seen) (events_by p a.mine.rest) (sym (by_more p u.seen a.mine.rest) ∙ (sym (ap (events_by p) a.mine.is) ∙ before))

  -- of the seat's own parties the two looks tell no event
  apart_both : u.other ≡ [] → 0 < u.share.part → (p : ℕ) → b.parties.owner p ≡ b.parties.seat → events_by p (a.mine.rest ++ b.mine.rest) ≡ []
  apart_both = grind (arith, nothing_of, cases_eq, by_more)

  -- what is seen after both looks is what had been seen, and what each of them told
  mine_both : w.seen ≡ u.seen ++ (a.mine.rest ++ b.mine.rest)
  mine_both = grind (arith, append_assoc)

  -- two looks, one after the other, are one look
  pub looks_then : Looks code kind size u w
  looks_then =
      record {
        -- each look leaves capacity, party, call, state, share and what was made
        capacity = b.capacity ∙ a.capacity;
        party = b.party ∙ a.party;
        going = b.going ∙ a.going;
        state = b.state ∙ a.state;
        share = b.share ∙ a.share;
        other = b.other;
        made = b.made ∙ a.made;
        aside = omega (arith, a.aside, b.aside);
        -- what had been seen, and what the pass that was taken in had seen, are beginnings of what
        -- the second look tells
        mine = record { rest = a.mine.rest ++ b.mine.rest; is = mine_both };
        theirs = begins_further u.other v.seen w.seen a.theirs b.mine;
        -- with the whole share the pass had seen all of it, or the pass that it took in had
        whole = λ all. ⊎_elim (λ (e : w.seen ≡ v.seen). ⊎_elim (λ f. inl (e ∙ f)) (λ f. inr (e ∙ f)) (a.whole all))
            (λ (e : w.seen ≡ v.other).
            (let none : w.seen ≡ [] = e ∙ a.other in inl (none ∙ sym (none_left u.seen (a.mine.rest ++ b.mine.rest) (sym none ∙ mine_both)))))
            (b.whole (subst IsAll (sym a.share) all));
        all = λ all f. b.all (subst IsAll (sym a.share) all) f;
        history = b.history;
        ran = continues_further code kind size u v w a.ran.first b.ran;
        theirs_ran = first_further u.other_turns v.turns w.turns a.theirs_ran b.ran.first;
        parties = b.parties;
        apart = apart_both;
      }
