-- Which call a party has under way before a turn, and which after it.
use Rattle.std.proofs.Common.{arith}
use Rattle.laws_machine.proofs.Names.{◌≡◌, ℕ, Bool, Option, Some, None, refl, ap, ◌∙◌, After, GoOn, Done}
use Rattle.laws_machine.proofs.Names.{Answer, Flight, Doing, Going, Over, Party, Next, Decide, want_of, ask_of, goes_of}
use Rattle.laws_machine.proofs.Names.{party_of, doing_of, flight_of, StandsAt, GoesOn, old_of, number_of, World, Trace}
use Rattle.laws_machine.proofs.Names.{flight_in, StandsThere, stands_there, events_of, events_of_answer, events_of_next}
use Rattle.laws_machine.proofs.Names.{events_of_decision, events_of_step, step_in, ask_of_doing}
use Rattle.model.proofs.Frame.{Family, Sound}

module _ {T : Type 0} where
  -- ---- after a turn

  -- the call that is under way afterwards, if it goes on
  abbrev pub left_by : After (Flight T) (Answer T) → Option (Flight T)
  left_by (GoOn flight) = Some flight
  left_by (Done answer) = None

  -- a party that stands as `a` says has the call that `a` leaves
  stands_left : (w : World T) (p : ℕ) (a : After (Flight T) (Answer T)) → StandsAt w p a → flight_in w p ≡ left_by a
  stands_left w p (GoOn flight) standing = standing
  stands_left w p (Done answer) standing = standing

  module _ (old new : World T) (p : ℕ) (flight : Flight T) (here : flight_in old p ≡ Some flight) where
    -- after a step, the party has the call that the table of steps leaves
    pub next_left : GoesOn old (Next p) new
        → flight_in new p ≡ left_by (goes_of old.coding p flight (old_of old.words (ask_of (want_of old.coding flight))) old.kept)
    next_left = grind (arith, stands_left)

    -- after a decision, the party has the call that the table of steps leaves for that answer
    pub decision_left : (said : Bool) → GoesOn old (Decide p said) new → flight_in new p ≡ left_by (goes_of old.coding p flight (number_of said) old.kept)
    decision_left = grind (arith, stands_left, number_of)

-- ---- before a turn

module _ {T : Type 0} (F : Family T) (t : Trace T) (sound : Sound F t) (p : ℕ) where
  -- the party has this call under way, and the call stands in the machine as its family says
  pub record IsUnderWay (flight : Flight T) : Type 0 where
    -- the party, as the machine has it, and when its call began
    pub party : Party T
    pub since : ℕ
    pub found : party_of p t.world.latest ≡ Some party
    -- it is in this call, which stands as its family says
    pub doing : party.doing ≡ Going flight since
    pub there : StandsThere F t sound p party since party.start flight

  -- two calls that are present and equal as options are equal
  some_flight : (a b : Flight T) → ◌≡◌ {A = Option (Flight T)} (Some a) (Some b) → a ≡ b
  some_flight a b e = cc

  -- a call that the machine has for a party is under way as `IsUnderWay` says
  pub under_way : (flight : Flight T) → flight_in t.world p ≡ Some flight → IsUnderWay flight
  under_way flight here = go (party_of p t.world.latest) refl here
    where
      -- the cases are what the party is doing
      by : (x : Party T) → party_of p t.world.latest ≡ Some x → (doing : Doing T) → x.doing ≡ doing → flight_of (Some doing) ≡ Some flight → IsUnderWay flight
      by x found (Over others) same_doing flight_is = absurd (cc)
      by x found (Going f since) same_doing flight_is =
          let same = same_doing ∙ ap (λ g. Going g since) (some_flight f flight flight_is) in
          record { party = x; since = since; found = found; doing = same; there = stands_there F t sound p x since flight found same }

      -- the cases are whether the party has made a call
      go : (o : Option (Party T)) → party_of p t.world.latest ≡ o → flight_of (doing_of o) ≡ Some flight → IsUnderWay flight
      go None found flight_is = absurd (cc)
      go (Some x) found flight_is = by x found x.doing refl flight_is

  -- what a turn of a call under way writes is what its step writes
  module _ {flight : Flight T} (call : IsUnderWay flight) where
    -- the turn `Next` of the party writes the events of the step that is handed the old value of the call's word
    pub next_wrote : events_of t.world (Next p)
        ≡ events_of_step p call.party.start
        (step_in t.world p call.party flight (old_of t.world.words (ask_of (want_of t.world.coding flight))))
    next_wrote =
        ap (events_of_next t.world p) call.found
        ∙ ap (λ d. events_of_answer t.world p call.party (old_of t.world.words (ask_of_doing t.world.coding d)) d) call.doing

    -- an answer to the call's question writes the events of the step that is handed the decision
    pub decision_wrote : (said : Bool)
        → events_of t.world (Decide p said) ≡ events_of_step p call.party.start (step_in t.world p call.party flight (number_of said))
    decision_wrote said =
        ap (events_of_decision t.world p said) call.found ∙ ap (events_of_answer t.world p call.party (number_of said)) call.doing
