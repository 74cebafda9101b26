-- Which call a party of a container has under way after a turn: the one that the table of steps leaves.
use Rattle.laws_machine.proofs.Names.{◌≡◌, ℕ, Bool, Option, Some, None, List, refl, ap, ◌∙◌, arith, After, GoOn, Done, Ask}
use Rattle.laws_machine.proofs.Names.{Answer, Start, Flight, Registry, Party, Next, Decide, want_of, ask_of, goes_of, beside_of}
use Rattle.laws_machine.proofs.Names.{step_of, doing_of, flight_of, old_of, number_of, ask_of_doing, step_in, after_answer}
use Rattle.laws_machine.proofs.Names.{after_next, after_decision, world_after, doing_after, World, Trace, flight_in, party_put_same}
use Rattle.laws_machine.proofs.Names.{Coding, Step}
use Rattle.model.specs.declared.families.Registry.TheVariants as registries
use Rattle.model.specs.Turns.{after_step}
use Rattle.model.proofs.Frame as frame
use Rattle.laws_container.proofs.Invariant.{ContainerNow, family_by}
use Rattle.laws_container.proofs.Terms.{Terms}
use Rattle.laws_machine.proofs.CallTransition.{IsUnderWay, left_by}

module _ {T : Type 0} where
  -- the call that a step leaves a party with is the one with which it goes on, if it does
  doing_left : (changes since : ℕ) (a : After (Flight T) (Answer T)) → flight_of (Some (doing_after changes since a)) ≡ left_by a
  doing_left changes since (GoOn flight) = refl
  doing_left changes since (Done answer) = refl

  -- after a step the party has the call that the step leaves
  stepped_left : (w : World T) (p : ℕ) (x : Party T) (since : ℕ) (ask : Option Ask) (s : Step (Flight T) (Registry T) T)
      → flight_in (after_step w p x since ask s) p ≡ left_by s.after
  stepped_left w p x since ask s = ap (λ o. flight_of (doing_of o)) (party_put_same p _ w.latest) ∙ doing_left _ _ s.after

  -- a call of the container goes on as the table of steps says
  told : (terms : Terms) (code z : Coding T) (c : ℕ) (words : List ℕ) (beside : Option (ℕ × ℕ)) (s : ContainerNow T)
      (p : ℕ) (start : Start T) (flight : Flight T) (answer : ℕ) (kept : Registry T)
      → kept ≡ registries.Container s.dead s.states → (family_by terms code c).At s p start flight
      → (step_of z words beside p start flight answer kept).after ≡ goes_of z p flight answer kept
  told = grind arith

module _ {T : Type 0} (terms : Terms) {t : Trace T} (s : frame.Sound (family_by terms t.world.coding t.world.capacity) t) (p : ℕ) where
  abbrev w : World T
  w = t.world

  module _ {flight : Flight T} (call : IsUnderWay (family_by terms t.world.coding t.world.capacity) t s p flight) where
    -- the step of a call under way leaves what the table of steps says
    goes_so : (answer : ℕ) → (step_in w p call.party flight answer).after ≡ goes_of w.coding p flight answer w.kept
    goes_so answer =
        let goes = told terms w.coding w.coding w.capacity w.words (beside_of w.words w.kept w.latest p) s.state p in
        goes call.party.start flight answer w.kept s.fit.kept call.there.at

    -- after a step the party's call is what the table leaves of it, for the old value of the
    -- word that it asked for
    pub next_leaves : flight_in (world_after w (Next p)) p
        ≡ left_by (goes_of w.coding p flight (old_of w.words (ask_of (want_of w.coding flight))) w.kept)
    next_leaves =
        let caller = call.party in
        ap (λ o. flight_in (after_next w p o) p) call.found
        ∙ (ap (λ d. flight_in (after_answer w p caller (ask_of_doing w.coding d) (old_of w.words (ask_of_doing w.coding d)) d) p) call.doing
        ∙ (stepped_left w p caller call.since (ask_of (want_of w.coding flight)) (step_in w p caller flight (old_of w.words (ask_of (want_of w.coding flight))))
        ∙ ap left_by (goes_so (old_of w.words (ask_of (want_of w.coding flight))))))

  -- after a decision the party's call is what the table leaves of it, for that answer
  pub decision_leaves : (said : Bool) {flight : Flight T}
      → IsUnderWay (family_by terms t.world.coding t.world.capacity) t s p flight
      → flight_in (world_after w (Decide p said)) p ≡ left_by (goes_of w.coding p flight (number_of said) w.kept)
  decision_leaves said {flight} call =
      let caller = call.party in
      ap (λ o. flight_in (after_decision w p said o) p) call.found
      ∙ (ap (λ d. flight_in (after_answer w p caller None (number_of said) d) p) call.doing
      ∙ (stepped_left w p caller call.since None (step_in w p caller flight (number_of said)) ∙ ap left_by (goes_so call (number_of said))))
