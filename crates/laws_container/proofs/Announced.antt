-- A value that was announced when a call began, and has stood through the call, is announced still.
use Rattle.laws_container.proofs.Names.{◌≡◌, ℕ, Bool, true, false, Option, Some, None, List, [], ◌∷◌, ◌++◌, refl, sym}
use Rattle.laws_container.proofs.Names.{ap, subst, ◌∙◌, append_assoc, append-nil, arith, fold-append, Event, Begun}
use Rattle.laws_container.proofs.Names.{WasAnnounced, StoodThrough, contents_after, contents_of, announced_after}
use Rattle.laws_container.proofs.Names.{announced_of, BeginsNone}

module _ {T : Type 0} where
  -- an event after which a value stands at the index leaves it announced
  one_stays : (i : ℕ) (value : T) (e : Event T) (o : Option T) (c : Bool) → contents_after i o e ≡ Some value → c ≡ true → announced_after i c e ≡ true
  one_stays i value e o c here h = grind arith

  -- a value that was announced, and stood after each of these events, is announced after them
  all_stays : (i : ℕ) (value : T) (es part : List (Event T))
      → ((mid rest : List (Event T)) → es ≡ mid ++ rest → contents_of i (part ++ mid) ≡ Some value)
      → announced_of i part ≡ true → announced_of i (part ++ es) ≡ true
  all_stays i value [] part stood said = ap (announced_of i) (append-nil part) ∙ said
  all_stays i value (e ∷ es) part stood said =
      let here : contents_after i (contents_of i part) e ≡ Some value = sym (fold-append (contents_after i) None part (e ∷ [])) ∙ stood (e ∷ []) es refl in
      let now : announced_of i (part ++ e ∷ []) ≡ true =
      fold-append (announced_after i) false part (e ∷ []) ∙ one_stays i value e (contents_of i part) (announced_of i part) here said in
      let later : announced_of i ((part ++ e ∷ []) ++ es) ≡ true =
      all_stays i value es (part ++ e ∷ [])
      (λ mid rest is. ap (contents_of i) (append_assoc part (e ∷ []) mid) ∙ stood (e ∷ mid) rest (ap (λ (xs : List (Event T)). e ∷ xs) is)) now in
      ap (announced_of i) (sym (append_assoc part (e ∷ []) es)) ∙ later

  -- events that begin no call of the party, without the first ones, begin none either
  none_rest : (p : ℕ) (mid rest : List (Event T)) → BeginsNone p (mid ++ rest) → BeginsNone p rest
  none_rest p [] rest begins_none = begins_none
  none_rest p (Begun q s ∷ es) rest begins_none = none_rest p es rest begins_none.1
  none_rest p (e ∷ es) rest begins_none = none_rest p es rest begins_none

  -- what was announced when a call began, and has stood through it with one value, is announced now
  pub announced_through : (p i : ℕ) (value : T) (events : List (Event T)) → WasAnnounced p i events
      → StoodThrough p i value events → announced_of i events ≡ true
  announced_through p i value events said through =
      let part : List (Event T) = said.before ++ Begun p said.start ∷ [] in
      let joined : part ++ said.since ≡ events = append_assoc said.before (Begun p said.start ∷ []) said.since ∙ sym said.is in
      let begun : announced_of i part ≡ true = fold-append (announced_after i) false said.before (Begun p said.start ∷ []) ∙ said.holds in
      subst (λ es. announced_of i es ≡ true) joined
      (all_stays i value said.since part
      (λ mid rest e. through (part ++ mid) rest
      (sym joined ∙ (ap (λ xs. part ++ xs) e ∙ sym (append_assoc part mid rest)))
      (none_rest p mid rest (subst (BeginsNone p) e said.within)))
      begun)
