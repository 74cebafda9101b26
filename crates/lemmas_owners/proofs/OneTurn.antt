-- A step or a decision of a party. Where the party has no call under way, the machine stays as it is and the turn writes nothing. So a
-- property of the machine after the turn and of the events of the turn has to be shown in that case, and for the turn of a call under way.
use Rattle.model.proofs.Names.{◌≡◌, ℕ, Bool, Option, Some, None, List, [], refl, ap, ◌∙◌, Ask}
use Rattle.model.specs.declared.event.Event.{Event}
use Rattle.model.specs.declared.families.Flight.{Flight}
use Rattle.model.specs.declared.party.Doing.{Doing}
use Rattle.model.specs.declared.party.Doing.TheVariants.{Going, Over}
use Rattle.model.specs.declared.party.Party.{Party}
use Rattle.model.proofs.Names.{want_of, ask_of, party_of, doing_of, flight_of}
use Rattle.model.proofs.Names.{old_of, number_of, ask_of_doing, events_of_answer, events_of_next}
use Rattle.model.proofs.Names.{events_of_decision, World, flight_in}
use Rattle.model.specs.Turns.{after_answer, after_next, after_decision}

-- the latest call of the party is under way
pub record HasCall {T : Type 0} (w : World T) (q : ℕ) (x : Party T) (flight : Flight T) (since : ℕ) : Type 0 where
  pub found : party_of q w.latest ≡ Some x
  pub doing : x.doing ≡ Going flight since
  pub here : flight_in w q ≡ Some flight

-- `P` is said of the machine after the turn and of the events of the turn, and holds where nothing happens
module _ {T : Type 0} (w : World T) (q : ℕ) (P : World T → List (Event T) → Type 0) (nothing : P w []) where
  -- `P` holds once the call, with the operation `ask`, is handed `answer`
  abbrev pub HoldsThen : Party T → Option Ask → ℕ → Doing T → Type 0
  HoldsThen x ask answer doing = P (after_answer w q x ask answer doing) (events_of_answer w q x answer doing)

  -- `P` holds after the turn of the party's latest call, if it does where that call is under way
  by_doing : (ask : Doing T → Option Ask) (answer : Doing T → ℕ) (x : Party T) → party_of q w.latest ≡ Some x
      → ((flight : Flight T) (since : ℕ) → HasCall w q x flight since
      → HoldsThen x (ask (Going flight since)) (answer (Going flight since)) (Going flight since))
      → HoldsThen x (ask x.doing) (answer x.doing) x.doing
  by_doing ask answer x found going = go x.doing refl
    where
      -- the cases are whether the party's call is over or under way
      go : (doing : Doing T) → x.doing ≡ doing → HoldsThen x (ask doing) (answer doing) doing
      go (Over others) same_doing = nothing
      go (Going flight since) same_doing =
          going flight since
          (record {
            found = found;
            doing = same_doing;
            here = ap (λ o. flight_of (doing_of o)) found ∙ ap (λ d. flight_of (Some d)) same_doing;
          })

  -- `P` holds after a step of the party, if it does after a step of a call under way
  pub by_next : ((x : Party T) (flight : Flight T) (since : ℕ) → HasCall w q x flight since
      → HoldsThen x (ask_of (want_of w.coding flight)) (old_of w.words (ask_of (want_of w.coding flight))) (Going flight since))
      → P (after_next w q (party_of q w.latest)) (events_of_next w q (party_of q w.latest))
  by_next going = by_party (party_of q w.latest) refl
    where
      -- the cases are whether the party has begun a call
      by_party : (o : Option (Party T)) → party_of q w.latest ≡ o → P (after_next w q o) (events_of_next w q o)
      by_party None found = nothing
      by_party (Some x) found = by_doing (ask_of_doing w.coding) (λ doing. old_of w.words (ask_of_doing w.coding doing)) x found (going x)

  -- `P` holds after a decision for the party, if it does after a decision for a call under way
  pub by_decision : (said : Bool)
      → ((x : Party T) (flight : Flight T) (since : ℕ) → HasCall w q x flight since → HoldsThen x None (number_of said) (Going flight since))
      → P (after_decision w q said (party_of q w.latest)) (events_of_decision w q said (party_of q w.latest))
  by_decision said going = by_party (party_of q w.latest) refl
    where
      -- the cases are whether the party has begun a call
      by_party : (o : Option (Party T)) → party_of q w.latest ≡ o → P (after_decision w q said o) (events_of_decision w q said o)
      by_party None found = nothing
      by_party (Some x) found = by_doing (λ doing. None) (λ doing. number_of said) x found (going x)
