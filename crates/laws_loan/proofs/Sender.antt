-- A step of a party's call that writes events of this party alone: what it has to show (`Steps`), and that
-- a step which shows it gives the frame what it asks of a turn.
use Rattle.laws_loan.proofs.Names.{◌≡◌, ◌≢◌, ℕ, ◌+◌, Bool, Option, Some, List, [], ◌++◌, fold, ap, ◌∙◌, Ask, After}
use Rattle.laws_loan.proofs.Names.{Answer, Event, Start, Flight, LoanStart, LoanFlight, Effect, Party, Coding}
use Rattle.laws_loan.proofs.Names.{promise, ended_book, book_after, effects_of, Stands, Span, own_after, span_of}
use Rattle.laws_loan.proofs.Names.{as_call, answer_in, words_after, change_of, step_count, party_after, ending_of}
use Rattle.laws_loan.proofs.Names.{AreOwn, AllFollow, span_of-other, GoesUp}
use Rattle.std.proofs.Common.{arith}
use Rattle.model.specs.declared.event.Start.TheVariants as starts
use Rattle.model.specs.declared.families.Flight.TheVariants as flights
use Rattle.model.specs.declared.families.Registry.TheVariants as registries
use Rattle.model.proofs.Frame as frame
use Rattle.laws_loan.proofs.Channel.{Channel, words_in}
use Rattle.laws_loan.proofs.Invariant.{family}
use Rattle.laws_loan.proofs.Scene.{Scene}
use Rattle.laws_loan.proofs.SenderInterference.{Others, knows_keeps}
use Rattle.laws_loan.proofs.Turns.{Shows}

module _ {T : Type 0} where
  -- a call of the channel as one of any family
  abbrev pub any_call : After LoanFlight (Answer T) → After (Flight T) (Answer T)
  any_call after = as_call flights.Loan (λ answer. answer) after

  -- the party after a step with this operation
  abbrev pub party_then : Scene T → LoanStart → Option Ask → Bool → After LoanFlight (Answer T) → Party T
  party_then scene start ask back after =
      party_after (record (scene.caller) { start = starts.Loan start }) scene.since scene.changes (step_count ask)
      (change_of (words_in scene.state) ask) (record { after = any_call after; back = back; wrote = []; kept = registries.Loan scene.state.book })

-- A turn of one party that writes events of its own, in which the calls of the other parties stand where they stood.
pub record OwnTurn (T : Type 0) : Type 0 where
  pub coding : Coding T
  pub slots : ℕ
  pub queue : ℕ
  -- the channel before the turn and after it, and how often words have changed before and after
  pub before : Channel T
  pub after : Channel T
  pub changes : ℕ
  pub changes_then : ℕ
  -- the party, which is `party_then` after the turn, and the span of its call before the turn
  pub party : ℕ
  pub party_then : Party T
  pub from : Span T
  -- the events of the turn are the party's own and may follow in its span
  pub told : List (Event T)
  pub events : after.events ≡ before.events ++ told
  pub own : AreOwn party told
  pub stands : AllFollow (Stands promise slots) from told
  -- the party's call fits its span afterwards and knows what its stage says
  pub here : frame.Fits (family coding slots queue) after party (Some party_then) (fold own_after from told)
  pub knows : frame.KnowsDoing (family coding slots queue) after party (before.events ++ told) changes_then party_then.backs party_then.doing
  -- the calls of the other parties stand where they stood, and the positions only go up
  pub at_others : Others slots queue before after party
  pub up : GoesUp before.submission after.submission changes changes_then

module _ {T : Type 0} (turn : OwnTurn T) where
  open turn use {coding as code, slots, queue, before as s, after as s', changes, changes_then as changes', party as p, party_then as y, from, told as es}
  open turn use {events, own}

  abbrev any : frame.Family T
  any = family code slots queue

  -- the spans of the other parties stay
  same_span : (q : ℕ) → q ≢ p → span_of q s'.events ≡ span_of q s.events
  same_span q ne = ap (span_of q) events ∙ span_of-other p q s.events es ne own

  -- the calls of the other parties stand where they stood
  others : (q : ℕ) → q ≢ p → (other : Start T) (call : Flight T) → any.At s q other call
      → any.At s' q other call × (any.written s' q call ≡ any.written s q call)
  others = grind (arith, same_span)

  -- the calls of the other parties know what they knew
  others_know : (q : ℕ) → q ≢ p → (sooner backs : ℕ) (call : Flight T) → any.Knows s q s.events sooner changes backs call
      → any.Knows s' q (s.events ++ es) sooner changes' backs call
  others_know = grind (arith, knows_keeps)

  -- the turn gives the frame what it asks, where the invariant held before it
  pub owes_by : {latest : List (ℕ × Party T)} → span_of p s.events ≡ from → frame.Inv any s latest s.events changes
      → frame.Owes any s' p y latest s.events es changes'
  owes_by {latest} span_is inv =
      frame.owes any s s' from p y latest s.events es changes changes' span_is inv
      (record { own = own; stands = turn.stands; here = turn.here; knows = turn.knows; others = others; others_know = others_know })

module _ {T : Type 0} (scene : Scene T) (p : ℕ) where
  open scene use {coding as code, slots, queue, state as s, latest, turns, changes}

  -- the family of the channel that the scene shows
  abbrev channel : frame.Family T
  channel = family code slots queue

  -- What a step with the operation `ask` shows that leaves the channel `s'`, where the span of its call was
  -- `from`, the call is afterwards `after`, and the step writes `es`.
  pub record Steps (s' : Channel T) (from : Span T) (start : LoanStart) (ask : Option Ask) (back : Bool)
      (after : After LoanFlight (Answer T)) (es : List (Event T)) : Type 0 where
    -- the words afterwards, and what a turn has to show of the channel
    pub words : words_after (words_in s) ask ≡ words_in s'
    pub shows : Shows slots queue s s' p (party_then scene start ask back after) latest turns es
    -- the events are the party's own and may follow in its span, and its call fits the span and knows what
    -- its stage says
    pub own : AreOwn p es
    pub stands : AllFollow (Stands promise slots) from es
    pub here : frame.Fits channel s' p (Some (party_then scene start ask back after)) (fold own_after from es)
    pub knows : frame.KnowsDoing channel s' p (s.events ++ es) (changes + change_of (words_in s) ask) (party_then scene start ask back after).backs
        (party_then scene start ask back after).doing
    -- the calls of other parties stand where they stood, and the positions only go up
    pub others : Others slots queue s s' p
    pub up : GoesUp s.submission s'.submission changes (changes + change_of (words_in s) ask)

  -- the events of a step with this effect
  abbrev pub told_by : LoanStart → After LoanFlight (Answer T) → Effect → List (Event T)
  told_by start after effect = effects_of p effect (answer_in after) ++ ending_of p (starts.Loan start) (answer_in (any_call after))

  -- a step with this effect keeps the invariant, and the channel has the book that the effect says
  abbrev pub StepBy : Channel T → Span T → LoanStart → Option Ask → Bool → After LoanFlight (Answer T) → Effect → Type 0
  StepBy s' from start ask back after effect =
      Steps s' from start ask back after (told_by start after effect)
      × (ended_book {T = T} p start (answer_in after) (fold (book_after {T = T}) s.book (effects_of p effect (answer_in after))) ≡ s'.book)

-- a step of the call `start` shows what `Steps` asks
module _ {T : Type 0} {scene : Scene T} {p : ℕ} {s' : Channel T} {from : Span T} {start : LoanStart} {ask : Option Ask} {back : Bool}
    {after : After LoanFlight (Answer T)} {es : List (Event T)} (steps : Steps scene p s' from start ask back after es) where
  open scene use {coding as code, slots, queue, state as s, latest, changes}

  -- a step that shows this gives the frame what it asks of a turn
  pub step_owes : span_of p s.events ≡ from → frame.Inv (family code slots queue) s latest s.events changes
      → frame.Owes (family code slots queue) s' p (party_then scene start ask back after) latest s.events es (changes + change_of (words_in s) ask)
  step_owes span_is inv =
      let turn : OwnTurn T =
      record {
        coding = code;
        slots = slots;
        queue = queue;
        before = s;
        after = s';
        changes = changes;
        changes_then = changes + change_of (words_in s) ask;
        party = p;
        party_then = party_then scene start ask back after;
        from = from;
        told = es;
        events = steps.shows.events;
        own = steps.own;
        stands = steps.stands;
        here = steps.here;
        knows = steps.knows;
        at_others = steps.others;
        up = steps.up;
      } in
      owes_by turn span_is inv
