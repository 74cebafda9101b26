-- The rank of an event that tells something: how much the events before it tell.
use Rattle.history.proofs.Names.{◌≡◌, ◌+◌, ◌<◌, ◌≤◌, List, [], ◌∷◌, ◌++◌, length, sym, ap, ◌∙◌, arith, flat_map, Event}
use Rattle.std.proofs.lemmas.Grind.{flat_map-append}
use Rattle.std.proofs.lemmas.List.{length-append}
use Rattle.history.specs.History.{IsBeginning}

module _ {T A : Type 0} (hit : Event T → List A) where
  -- what these events tell, one after another
  abbrev hits : List (Event T) → List A
  hits events = flat_map hit events

  -- two events of one history that tell something, with equal ranks, are the same event
  pub same_place : (b1 b2 a1 a2 : List (Event T)) (e1 e2 : Event T) (x1 x2 : A) → hit e1 ≡ x1 ∷ [] → hit e2 ≡ x2 ∷ []
      → b1 ++ e1 ∷ a1 ≡ b2 ++ e2 ∷ a2 → length (hits b1) ≡ length (hits b2) → e1 ≡ e2
  same_place [] [] a1 a2 e1 e2 x1 x2 h1 h2 same ranks = cc
  same_place [] (c ∷ b2) a1 a2 e1 e2 x1 x2 h1 h2 same ranks =
      let first : e1 ≡ c = cc in
      let one : length (hit c) ≡ 1 = ap length (sym (ap hit first) ∙ h1) in
      absurd (omega (arith, length-append (hit c) (hits b2)))
  same_place (c ∷ b1) [] a1 a2 e1 e2 x1 x2 h1 h2 same ranks =
      let first : e2 ≡ c = cc in
      let one : length (hit c) ≡ 1 = ap length (sym (ap hit first) ∙ h2) in
      absurd (omega (arith, length-append (hit c) (hits b1)))
  same_place (c ∷ b1) (d ∷ b2) a1 a2 e1 e2 x1 x2 h1 h2 same ranks =
      let first : c ≡ d = cc in
      let rest : b1 ++ e1 ∷ a1 ≡ b2 ++ e2 ∷ a2 = cc in
      let alike : length (hit c) ≡ length (hit d) = ap (λ z. length (hit z)) first in
      let long = length-append (hit c) (hits b1) in
      let long' = length-append (hit d) (hits b2) in
      same_place b1 b2 a1 a2 e1 e2 x1 x2 h1 h2 rest (omega arith)

  -- what all events tell is what those before an event tell, then it, then those behind it
  pub hits_split : (events before after : List (Event T)) (e : Event T) → events ≡ before ++ e ∷ after
      → hits events ≡ hits before ++ (hit e ++ hits after)
  hits_split events before after e events_are = ap hits events_are ∙ flat_map-append hit before (e ∷ after)

  -- an event and those before it tell at most as much as all events
  pub before_low : (events before after : List (Event T)) (e : Event T) → events ≡ before ++ e ∷ after
      → length (hits before) + length (hit e) ≤ length (hits events)
  before_low events before after e events_are =
      omega (
        arith,
        ap length (hits_split events before after e events_are),
        length-append (hits before) (hit e ++ hits after),
        length-append (hit e)
            (hits after),
      )

  -- the rank of an event that tells something is below the number of what all events tell
  pub rank_low : (events before after : List (Event T)) (e : Event T) (x : A) → hit e ≡ x ∷ []
      → events ≡ before ++ e ∷ after → length (hits before) < length (hits events)
  rank_low = grind (arith, length, flat_map-append, length-append)

  -- more events tell at least as much
  pub hits_grow : (old before : List (Event T)) → IsBeginning old before → length (hits old) ≤ length (hits before)
  hits_grow = grind (arith, length, flat_map-append, length-append)
