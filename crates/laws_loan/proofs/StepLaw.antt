-- A step with the fields of `Steps` (Sender) leaves a machine with the invariant.
use Rattle.laws_loan.proofs.Names.{◌≡◌, ℕ, ◌+◌, Bool, Option, List, ◌++◌, subst, fold, Ask, After, Answer, Event}
use Rattle.laws_loan.proofs.Names.{Book, LoanStart, LoanFlight, Effect, Coding, ended_book, book_after}
use Rattle.laws_loan.proofs.Names.{effects_of, put, Span, span_of, answer_in, words_after, change_of, step_count}
use Rattle.laws_loan.proofs.Names.{party_after, ending_of}
use Rattle.std.proofs.Common.{arith}
use Rattle.model.specs.declared.event.Start.TheVariants as starts
use Rattle.model.specs.declared.families.Registry.TheVariants as registries
use Rattle.model.proofs.Frame as frame
use Rattle.laws_loan.proofs.Channel.{Channel, words_in}
use Rattle.laws_loan.proofs.Invariant.{HoldsNow, family}
use Rattle.laws_loan.proofs.Scene.{Scene, Underway, scene_of}
use Rattle.laws_loan.proofs.Sender.{any_call, party_then, StepBy, step_owes}
use Rattle.laws_loan.proofs.Turns.{Shows, now_more}

module _ {T : Type 0} where
  abbrev pub channel : Coding T → ℕ → ℕ → frame.Family T
  channel code slots queue = family code slots queue

module _ {T : Type 0} (m : Underway T) where
  open m use {coding as code, slots, queue, trace as t, sound, caller as x, since}

  abbrev any : frame.Family T
  any = channel code slots queue

  abbrev scene : Scene T
  scene = scene_of m

  abbrev pub now : Channel T
  now = sound.state

  -- what holds between two turns holds in the machine
  pub holds_now : HoldsNow slots queue now t.world.latest now.events t.world.turns
  holds_now = grind arith

  -- the invariant of the frame, before the step
  pub inv_now : frame.Inv any now t.world.latest now.events t.world.changes
  inv_now = grind arith

  -- a step of the party `p` with the operation `ask`, after which the call is `after`, that writes `wrote`
  -- and leaves the book `book`, leaves a machine with the invariant
  abbrev pub ComesWith : ℕ → LoanStart → Option Ask → Bool → After LoanFlight (Answer T) → List (Event T) → Book → Type 0
  ComesWith p start ask back after wrote book =
      frame.Comes any t p (registries.Loan book) (words_after (words_in now) ask)
      (party_after (record x { start = starts.Loan start }) since t.world.changes (step_count ask) (change_of (words_in now) ask)
      (record { after = any_call after; back = back; wrote = wrote; kept = registries.Loan book }))
      (wrote ++ ending_of p (starts.Loan start) (answer_in (any_call after))) (t.world.changes + change_of (words_in now) ask)

  -- a step of the party's call with this effect leaves a machine with the invariant
  abbrev pub ComesBy : ℕ → LoanStart → Option Ask → Bool → After LoanFlight (Answer T) → Effect → Type 0
  ComesBy p start ask back after effect =
      ComesWith p start ask back after (effects_of p effect (answer_in after))
      (ended_book {T = T} p start (answer_in after) (fold (book_after {T = T}) now.book (effects_of p effect (answer_in after))))

  -- a step with the fields of `Shows` (Turns) that gives the frame what it asks of a turn leaves a machine
  -- with the invariant
  pub comes : {p : ℕ} (start : LoanStart) (ask : Option Ask) (back : Bool) (after : After LoanFlight (Answer T))
      {es : List (Event T)} {book : Book} {s' : Channel T}
      → book ≡ s'.book → words_after (words_in now) ask ≡ words_in s'
      → Shows slots queue now s' p (party_then scene start ask back after) t.world.latest t.world.turns es
      → frame.Owes any s' p (party_then scene start ask back after) t.world.latest
      now.events es (t.world.changes + change_of (words_in now) ask)
      → frame.Comes any t p (registries.Loan book) (words_after (words_in now) ask) (party_then scene start ask back after) es
      (t.world.changes + change_of (words_in now) ask)
  comes {p} start ask back after {es} {book} {s'} kept words shows owes =
      record {
        state = s';
        fit = (kept, words);
        holds =
            subst (λ events. HoldsNow slots queue s' (put p (party_then scene start ask back after) t.world.latest) (events ++ es)
            (t.world.turns + 1))
            sound.holds.same (now_more holds_now shows);
        owes =
            subst (λ events. frame.Owes any s' p (party_then scene start ask back after)
            t.world.latest events es (t.world.changes + change_of (words_in now) ask))
            sound.holds.same owes;
      }

  -- a step with this effect that has the fields of `Steps` leaves a machine with the invariant
  pub step_comes : (p : ℕ) (start : LoanStart) (ask : Option Ask) (back : Bool) (after : After LoanFlight (Answer T))
      (effect : Effect) (s' : Channel T) (from : Span T) → span_of p now.events ≡ from
      → StepBy scene p s' from start ask back after effect
      → ComesBy p start ask back after effect
  step_comes p start ask back after effect s' from span_is step =
      comes start ask back after step.1 step.0.words step.0.shows (step_owes step.0 span_is inv_now)
