-- Where the events of a party stand in a history; a moment of a call comes after all that stood before its begin.
use Rattle.lock_free_owners.proofs.Names.{◌≡◌, ℕ, Bool, true, false, List, [], ◌∷◌, ◌++◌, refl, sym}
use Rattle.lock_free_owners.proofs.Names.{ap, subst, ◌∙◌, Event, Begun, Start, BeginsNone}
use Rattle.lock_free_owners.proofs.Names.{whose, is_party, IsBeginning}
use Rattle.lock_free_owners.proofs.Names.{append_assoc, Answer, Finished, View, Called}
use Rattle.history.specs.Known.{events_by}
use Rattle.lock_free_owners.specs.Robust.Contracts.{WroteAt}

module _ {T : Type 0} where
  -- The list `xs` has the event `e` at some place.
  abbrev pub StandsIn : Event T → List (Event T) → Type 0
  StandsIn e xs = (before : List (Event T)) × (after : List (Event T)) × (xs ≡ before ++ e ∷ after)

  -- The empty list has no element.
  none_in : (first rest : List (Event T)) (e : Event T) → ◌≡◌ {A = List (Event T)} [] (first ++ e ∷ rest) → ⊥
  none_in [] rest e is = absurd (cc)
  none_in (x ∷ first) rest e is = absurd (cc)

  -- an event that a party wrote stands in the history
  pub find_own : (p : ℕ) (xs first rest : List (Event T)) (e : Event T) → events_by p xs ≡ first ++ e ∷ rest → StandsIn e xs
  find_own p [] first rest e is = absurd (none_in first rest e is)
  find_own p (x ∷ xs) first rest e is = go (is_party p (whose x)) refl (λ front more. find_own p xs front rest e more)
    where
      -- What stands in a list stands in it with one more event in front.
      later : StandsIn e xs → StandsIn e (x ∷ xs)
      later h = (x ∷ h.0, h.1, ap (λ zs. x ∷ zs) h.2)

      -- An own event stands first, or among the further events.
      own : (front : List (Event T)) → x ∷ events_by p xs ≡ front ++ e ∷ rest
          → ((front : List (Event T)) → events_by p xs ≡ front ++ e ∷ rest → StandsIn e xs) → StandsIn e (x ∷ xs)
      own [] here next = (let same : x ≡ e = cc in ([], xs, ap (λ z. z ∷ xs) same))
      own (y ∷ front) here next = (let more : events_by p xs ≡ front ++ e ∷ rest = cc in later (next front more))

      -- the cases are whether the first event is the party's
      go : (b : Bool) → is_party p (whose x) ≡ b → ((front : List (Event T)) → events_by p xs ≡ front ++ e ∷ rest → StandsIn e xs)
          → StandsIn e (x ∷ xs)
      go true t next = (let here : x ∷ events_by p xs ≡ first ++ e ∷ rest = rw t at is in own first here next)
      go false t next = (let here : events_by p xs ≡ first ++ e ∷ rest = rw t at is in later (next first here))

-- ---- a moment of a call comes after what stood before its begin

module _ {T : Type 0} (p : ℕ) (start : Start T) (since : List (Event T)) where
  -- Events without a begin of the party have none before others.
  none_begun : (before : List (Event T)) → BeginsNone p (before ++ Begun p start ∷ since) → ⊥
  none_begun [] h = h.0 refl
  none_begun (Begun q other ∷ before) h = none_begun before h.1
  none_begun (e ∷ before) h = none_begun before h

  -- a moment of a call behind which its party begins no call comes after all that stood before the
  -- call's begin
  pub covers : (before part rest : List (Event T)) → before ++ Begun p start ∷ since ≡ part ++ rest → BeginsNone p rest → IsBeginning before part
  covers [] part rest is none = record { rest = part; is = refl }
  covers (e ∷ before) [] rest is none = absurd (none_begun (e ∷ before) (subst (BeginsNone p) (sym is) none))
  covers (e ∷ before) (x ∷ part) rest is none =
      let same : e ≡ x = cc in
      let more : before ++ Begun p start ∷ since ≡ part ++ rest = cc in
      let longer = covers before part rest more none in
      record { rest = longer.rest; is = ap (λ z. z ∷ part) (sym same) ∙ ap (λ zs. e ∷ zs) longer.is }

-- A list of events is a beginning of itself with more behind it.
pub ahead : {T : Type 0} (xs ys : List (Event T)) → IsBeginning xs (xs ++ ys)
ahead xs ys = record { rest = ys; is = refl }

-- A call of party p led from the view `from`, which goes on from `base`, to w, and wrote the events `wrote`.
module _ {T : Type 0} {p : ℕ} {start : Start T} {answer : Answer T} {wrote : List (Event T)} {base from w : View T}
    (onward : (xs : List (Event T)) → IsBeginning base.seen (from.seen ++ xs)) (c : Called p start answer wrote from w) where
  -- If the call wrote this event, and `Before` holds of each history that stands before such an event, then the event is written as
  -- `WroteAt` says: `Before` holds of the history before it, which goes on from `base`.
  pub wrote_there : (event : ℕ → Event T) (first rest : List (Event T)) → wrote ≡ first ++ event p ∷ rest → {Before : ℕ → List (Event T) → Type 0}
      → ((before after : List (Event T)) → w.seen ≡ before ++ event p ∷ after → Before p before) → WroteAt event Before base w
  wrote_there event first rest is held =
      let begin : Event T = Begun p start in
      let end : Event T = Finished p start answer in
      let part = find_own p c.during first rest (event p) (c.during_own ∙ is) in
      let others : List (Event T) = from.seen ++ c.others in
      let whole : w.seen ≡ (others ++ begin ∷ part.0) ++ event p ∷ (part.1 ++ end ∷ []) =
      c.is
      ∙ (ap (λ ds. others ++ begin ∷ (ds ++ end ∷ [])) part.2
      ∙ (ap (λ zs. others ++ begin ∷ zs) (append_assoc part.0 (event p ∷ part.1) (end ∷ []))
      ∙ sym (append_assoc others (begin ∷ part.0) (event p ∷ (part.1 ++ end ∷ [])))))
      in
      record {
        by = p;
        before = others ++ begin ∷ part.0;
        after = part.1 ++ end ∷ [];
        is = whole;
        since = subst (IsBeginning base.seen) (sym (append_assoc from.seen c.others (begin ∷ part.0))) (onward (c.others ++ begin ∷ part.0));
        held = held (others ++ begin ∷ part.0) (part.1 ++ end ∷ []) whole;
      }
