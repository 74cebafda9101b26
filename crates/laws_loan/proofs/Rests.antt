-- A step of the sender's call that moves no index and leaves both queues. It changes at most the words of
-- the indices, and writes nothing but, if the call ends, its end.
use Rattle.laws_loan.proofs.Names.{◌≡◌, ◌≢◌, ℕ, ◌+◌, ◌≤◌, false, Option, Some, None, List, [], ◌∷◌, ◌++◌, fold, refl}
use Rattle.laws_loan.proofs.Names.{sym, ap, ◌∙◌, append-nil, Ask, After, GoOn, locked, Answer, Event, Finished}
use Rattle.laws_loan.proofs.Names.{LoanStart, LoanFlight, Party, most_steps, MovesRight, BeginsRight}
use Rattle.laws_loan.proofs.Names.{AnswersRight, promise, reclaims_after, Wrote, flight_of, Stands, Span, Open}
use Rattle.laws_loan.proofs.Names.{own_after, span_of, words_after, change_of, step_count, AreRight, AreOwn}
use Rattle.laws_loan.proofs.Names.{AllFollow, Passing, spot_of}
use Rattle.std.proofs.Common.{arith}
use Rattle.steps.specs.declared.ask.After.TheVariants.{Done}
use Rattle.model.specs.declared.event.Start.TheVariants as starts
use Rattle.model.specs.declared.families.Flight.TheVariants as flights
use Rattle.model.proofs.Frame as frame
use Rattle.laws_indices.proofs.Core as indices
use Rattle.laws_loan.proofs.Carried.{span_then, carried_on}
use Rattle.laws_loan.proofs.Channel.{Channel, words_in}
use Rattle.laws_loan.proofs.Invariant.{sends_at, counted_for, hung, reclaims_in, Carries, HoldsNow, family}
use Rattle.laws_loan.proofs.Knows.{counts, number_of, wrote_in, At, FlightKnows}
use Rattle.laws_loan.proofs.Scene.{Scene, HoldsIn}
use Rattle.laws_loan.proofs.Sender.{party_then, Steps}
use Rattle.laws_loan.proofs.Still.{Still, AreStill, spots_still, receiver_still, placed_still}
use Rattle.laws_loan.proofs.SenderInterference.{others_beside}
use Rattle.laws_loan.proofs.QueueEvents.{is_reclaiming, Tells, silent_tells}
use Rattle.laws_loan.proofs.Turns.{Shows, sends_now}

-- What holds of the words of the indices after a step with the operation `ask`: they are `set'`, with `busy` calls of the set in an acquire
-- or a release; the set is not locked, and no send waits.
pub record KeepsSet {T : Type 0} (slots queue : ℕ) (s : Channel T) (latest : List (ℕ × Party T)) (ask : Option Ask) (set' : List ℕ) (busy : ℕ) : Type 0 where
  pub words : words_after (words_in s) ask ≡ words_in (record s { set = set' })
  pub good : indices.Good slots set' s.claims busy
  pub unlocked : indices.counted_in set' ≢ locked
  pub calm : hung s.submission.read (sends_at latest) ≡ None

-- a step that changes no word leaves the words of the indices as `KeepsSet` says, with no busy call
pub keeps_all : {T : Type 0} {slots queue : ℕ} {s : Channel T} {latest : List (ℕ × Party T)} {ask : Option Ask} {turns : ℕ}
    → HoldsNow slots queue s latest s.events turns → words_after (words_in s) ask ≡ words_in s
    → counted_for (sends_at latest) ≡ 0 → hung s.submission.read (sends_at latest) ≡ None → KeepsSet slots queue s latest ask s.set 0
keeps_all = grind arith

-- A step of the sender's call that moves no index and leaves both queues: the operation `ask` of a call begun with `start`, which has written
-- `wrote`. Afterwards the words of the indices are `set_then`.
pub record SetStep (T : Type 0) : Type 0 where
  -- the scene, in which the invariant holds before the step
  pub scene : Scene T
  pub holds : HoldsIn scene
  -- the call, which has not turned back
  pub straight : scene.caller.backs ≡ 0
  pub start : LoanStart
  pub wrote : List (Event T)
  pub from : span_of 0 scene.state.events ≡ Open (starts.Loan start) wrote
  -- what the step does
  pub ask : Option Ask
  pub set_then : List ℕ

-- the step of the sender's call with this span that takes the operation `ask`, after which the words of the indices are `set_then`
abbrev pub set_step : {T : Type 0} → (scene : Scene T) → HoldsIn scene → scene.caller.backs ≡ 0 → {start : LoanStart} {wrote : List (Event T)}
    → span_of 0 scene.state.events ≡ Open (starts.Loan start) wrote → Option Ask → List ℕ → SetStep T
set_step scene holds straight {start} {wrote} from ask set_then =
    record { scene = scene; holds = holds; straight = straight; start = start; wrote = wrote; from = from; ask = ask; set_then = set_then }

module _ {T : Type 0} (step : SetStep T) where
  open step use {scene, holds, start, wrote, from, ask, set_then}
  open scene use {coding as code, slots, queue, state as s, latest, turns, changes, since, caller as x}

  abbrev channel : frame.Family T
  channel = family code slots queue

  abbrev spanned : Span T
  spanned = Open (starts.Loan start) wrote

  -- the channel after the step, with these events
  abbrev then_on : List (Event T) → Channel T
  then_on es = record s { set = set_then; claims = s.claims; book = s.book; events = s.events ++ es }

  -- the sender after a step that leads to `after`
  abbrev y : After LoanFlight (Answer T) → Party T
  y after = party_then scene start ask false after

  -- what a step shows that leads to `after` and writes `es`, where these events move no index
  record StillStep (after : After LoanFlight (Answer T)) (es : List (Event T)) : Type 0 where
    still : AreStill es
    own : AreOwn 0 es
    -- the words of the indices, and that the sender's call does not wait
    keeps : KeepsSet slots queue s latest ask set_then (counted_for (flight_of (Some (y after).doing)))
    calm : hung s.submission.read (flight_of (Some (y after).doing)) ≡ None
    -- what the events tell of the queues, and of a reclaim
    tells : Tells queue (is_reclaiming s.events) s.submission.waiting s.submission.waiting s.completion.waiting s.completion.waiting es
    reclaims : fold reclaims_after (reclaims_in spanned) es ≡ reclaims_in (fold own_after spanned es)
    -- moves, begins and answers are right, and what the span carried it still carries
    moves : AreRight (MovesRight slots) s.events es
    begins : AreRight BeginsRight s.events es
    answers : AreRight (AnswersRight slots) s.events es
    carries : (i : ℕ) → Carries i spanned → Carries i (fold own_after spanned es)
    -- the call fits its span afterwards, and knows what its stage says
    stands : AllFollow (Stands promise slots) spanned es
    here : frame.Fits channel (then_on es) 0 (Some (y after)) (fold own_after spanned es)
    knows : frame.KnowsDoing channel (then_on es) 0 (s.events ++ es) (changes + change_of (words_in s) ask) (y after).backs (y after).doing

  module _ (after : After LoanFlight (Answer T)) (es : List (Event T)) (shown : StillStep after es) where
    -- the step keeps what holds between two turns (`Shows`, Turns)
    shows : Shows slots queue s (then_on es) 0 (y after) latest turns es
    shows =
        let same = receiver_still s.events es shown.still in
        let placed = placed_still es shown.still holds.parts.placed in
        let span = span_then 0 s.events es shown.own from in
        let passing : (i q : ℕ) → spot_of i (s.events ++ es) ≡ Passing q → Carries i (span_of q (s.events ++ es)) =
        λ i q e. carried_on 0 s.events es shown.own from i q (holds.passing i q (sym (spots_still i s.events es shown.still) ∙ e)) (shown.carries i) in
        grind (arith, sends_now)

    -- the step keeps the invariant (`Steps`, Sender)
    rests : Steps scene 0 (then_on es) spanned start ask false after es
    rests =
        let words = shown.keeps.words in
        let others =
        others_beside slots queue s (then_on es) refl refl (λ room stage known. known) (λ i stage known. known)
        (λ q ne i e. spots_still i s.events es shown.still ∙ e) in
        grind (arith, shows)

  -- ---- the call goes on

  -- a step after which the call goes on keeps the invariant, where the call stands at its next stage within
  -- its bound of steps
  pub goes_on : (flight : LoanFlight) → KeepsSet slots queue s latest ask set_then (counts flight)
      → hung {T = T} s.submission.read (Some (flights.Loan flight)) ≡ None
      → x.steps + step_count ask ≤ number_of slots wrote flight (x.backs + 0)
      → At slots queue (then_on []) 0 wrote start flight
      → FlightKnows slots queue (then_on []) (since + change_of (words_in s) ask) (changes + change_of (words_in s) ask) (x.backs + 0) flight
      → Steps scene 0 (then_on []) spanned start ask false (GoOn flight) []
  goes_on flight keeps calm steps at knows =
      let was : wrote ≡ wrote_in (span_of 0 (s.events ++ [])) = sym (ap wrote_in (ap (span_of 0) (append-nil s.events) ∙ from)) in
      rests (GoOn flight) [] (record {
        still = tt;
        own = tt;
        keeps = keeps;
        calm = calm;
        tells = silent_tells [] refl refl refl (append-nil s.completion.waiting);
        reclaims = refl;
        moves = tt;
        begins = tt;
        answers = tt;
        carries = λ i carried. carried;
        stands = tt;
        here = grind arith;
        knows = knows;
      })

  -- ---- the call ends, with no index in passing

  -- a step that ends the call keeps the invariant, where the answer is right and the call
  -- has no index in passing
  pub ends : (answer : Answer T) → KeepsSet slots queue s latest ask set_then 0 → Still (Finished 0 (starts.Loan start) answer)
      → reclaims_after (reclaims_in spanned) (Finished 0 (starts.Loan start) answer) ≡ false
      → AnswersRight slots s.events (Finished 0 (starts.Loan start) answer) → ((i : ℕ) → Carries i spanned → ⊥)
      → Wrote start answer wrote → x.steps + step_count ask ≤ most_steps slots start (x.backs + 0)
      → Steps scene 0 (then_on (Finished 0 (starts.Loan start) answer ∷ []))
      spanned start ask false (Done answer) (Finished 0 (starts.Loan start) answer ∷ [])
  ends answer keeps still reclaims right none done steps =
      let straight = step.straight in
      rests (Done answer) (Finished 0 (starts.Loan start) answer ∷ []) (record {
        still = (still, tt);
        own = (refl, tt);
        keeps = keeps;
        calm = refl;
        tells = silent_tells (Finished 0 (starts.Loan start) answer ∷ []) refl refl refl (append-nil s.completion.waiting);
        reclaims = reclaims;
        moves = (rw still.moves tt, tt);
        begins = (tt, tt);
        answers = (right, tt);
        carries = none;
        stands = ((refl, done), tt);
        here = record { answer = answer; wrote = wrote; span = refl; steps = steps };
        knows = omega arith;
      })
