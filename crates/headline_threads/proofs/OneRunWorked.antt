-- The definitions of one run at worked runs, and what passes they refuse.
use Rattle.std.proofs.Common.{◌≡◌, ℕ, List, [], ◌∷◌, ◌++◌, length, refl, sym, ap, ◌∙◌, arith, Option, Some, None}
use Rattle.std.proofs.Common.{◌+◌, ◌-◌, ◌≤◌, inl, inr, ⊎_elim, length-append, subst}
use Rattle.std.specs.Prelude.{IfSome}
use Rattle.model.specs.declared.event.Event.{Event}
use Rattle.model.specs.declared.event.Start.{Start}
use Rattle.model.specs.declared.event.Start.TheVariants.{Indices}
use Rattle.model.specs.declared.families.Flight.{Flight}
use Rattle.model.specs.declared.families.indices.IndexStart.TheVariants.{Acquire}
use Rattle.model.specs.declared.turn.Kind.TheVariants as kinds
use Rattle.model.specs.declared.turn.Turn.{Turn}
use Rattle.model.specs.declared.turn.Turn.TheVariants.{Begin, Next}
use Rattle.model.specs.Coding.{IsCoding, one_word}
use Rattle.model.specs.Families.{ask_of, want_of}
use Rattle.model.specs.Loads.{begun, load}
use Rattle.model.specs.LockFree.{ends, lock_free_bound, steps_in, stretch}
use Rattle.model.specs.Turns.{events_of, old_of}
use Rattle.model.specs.World.{Trace, opening, flight_in}
use Rattle.model.proofs.Reached.{after_turns_more}
use Rattle.model.proofs.Runs.{begins}
use Rattle.model.specs.Fresh.{IsFreshCall, IsFreshTurn}
use Rattle.threaded.specs.Shares.{all_shares, half_of}
use Rattle.history.specs.declared.view.View.{View}
use Rattle.history.specs.History.{Continues, IsBeginning, HasAsked, Knows, nexts, run_of}
use Rattle.history.specs.Passes.{Goes, MissesNothing}
use Rattle.history.specs.Views.{first_view}
use Rattle.headline_threads.specs.Ends.{ActOnly, steps_between}

-- ---- a unique index set of capacity 1, and what a pass knows that has seen all of these turns

abbrev acquire : Start ℕ
acquire = Indices Acquire

-- A unique index set of capacity 1 after these turns.
abbrev after : List (Turn ℕ) → Trace ℕ
after turns = run_of one_word kinds.Indices 1 turns

-- what a pass knows with the whole share that has seen and made these events and knows these turns
abbrev told : List (Turn ℕ) → List (Event ℕ) → View ℕ
told turns events =
    record (first_view 1) { seen = events; turns = turns; made = events; asked = nexts turns }

-- What a pass knows that has seen all that these turns have written.
abbrev knowing : List (Turn ℕ) → View ℕ
knowing turns = told turns (after turns).events

one_word_codes : IsCoding one_word
one_word_codes = record { some = omega arith; few = omega arith; sized = λ n. refl; given_back = λ n. refl }

-- ---- two parties acquire, one after the other: the second finds no index left

-- Party 0 acquires the one index.
abbrev first : List (Turn ℕ)
first = begins 0 acquire 4

-- Party 1 begins an acquire and takes one step.
abbrev second : List (Turn ℕ)
second = begins 1 acquire 1

abbrev knew : View ℕ
knew = knowing first

abbrev knows : View ℕ
knows = knowing (first ++ second)

-- no turn of such a set is a push or a store
abbrev IsPlain : Trace ℕ → Option (Flight ℕ) → Type 0
IsPlain t o = IfSome o (λ f. IsFreshCall (old_of t.world.words (ask_of (want_of t.world.coding f))) f)

no_push : (t : Trace ℕ) (p : ℕ) → IsPlain t (flight_in t.world p) → IsFreshTurn t (Next p)
no_push t p plain flight is = subst (IsPlain t) is plain

-- the pass that has seen all of these turns knows the run
known : Knows one_word kinds.Indices 1 knows
known =
    record {
      coded = one_word_codes;
      admitted = refl;
      allowed = (refl, (refl, (refl, (refl, (refl, (refl, (refl, tt)))))));
      fresh = (
        tt,
        (
          no_push (after (begins 0 acquire 0)) 0 tt,
          (
            no_push (after (begins 0 acquire 1)) 0 tt,
            (
              no_push (after (begins 0 acquire 2)) 0 tt,
              (no_push (after (begins 0 acquire 3)) 0 tt, (tt, (no_push (after (first ++ begins 1 acquire 0)) 1 tt, tt))),
            ),
          ),
        ),
      );
      is = refl;
      others = refl;
      asked = record { share = (omega arith, omega arith); most = omega arith; all = λ whole. refl };
    }

abbrev later : Continues one_word kinds.Indices 1 knew knows
later = record { first = record { rest = second; is = refl }; knows = known }

-- its one step is a load, which finds that no index is left
takes_a_step : steps_between one_word kinds.Indices 1 knew knows later ≡ 1
takes_a_step = refl

took_four : steps_in (opening one_word kinds.Indices 1 0) knew.turns ≡ 4
took_four = refl

-- Two calls have begun, and for two parties the bound is 20: so all five steps are at most 42, and the one since the first call
-- has ended at most 21, the load of the other.
two_begun : (begun knows.seen ≡ 2) × (begun knows.seen - ends knew.seen ≡ 1)
two_begun = (refl, refl)

bounded : lock_free_bound kinds.Indices ≡ Some (λ n capacity size. stretch n 1 (capacity + 4))
bounded = refl

loads : (load (stretch 2 1 5) 2 ≡ 42) × (load (stretch 2 1 5) 1 ≡ 21)
loads = (refl, refl)

took_five : steps_in (opening one_word kinds.Indices 1 0) knows.turns ≡ 5
took_five = refl

-- the turns are of the parties 0 and 1, and since the first call has ended of party 1 alone: for one party the bound is 5
both_act : ActOnly (0 ∷ 1 ∷ []) knows.turns
both_act = (inl refl, (inl refl, (inl refl, (inl refl, (inl refl, (inr (inl refl), (inr (inl refl), tt)))))))

one_acts : ActOnly (1 ∷ []) later.first.rest
one_acts = (inl refl, (inl refl, tt))

few : stretch 1 1 5 ≡ 5
few = refl

no_other : ActOnly (0 ∷ []) later.first.rest → ⊥
no_other act = ⊎_elim (λ one. cc (one)) (λ none. none) act.0

-- ---- what the definitions refuse

-- Two runs with the same events, which differ in whose call has loaded the head. Each of both is a history, so the events alone
-- do not say that the one run goes on to the other.
abbrev mine : List (Turn ℕ)
mine = Begin 0 acquire ∷ Begin 1 acquire ∷ Next 0 ∷ []

abbrev others : List (Turn ℕ)
others = Begin 0 acquire ∷ Begin 1 acquire ∷ Next 1 ∷ Next 1 ∷ []

same_events : (after mine).events ≡ (after others).events
same_events = refl

another_run : Continues one_word kinds.Indices 1 (knowing mine) (knowing others) → ⊥
another_run continues = cc (continues.first.is)

-- all that a call says of its pass but that its run went on
as_much : (knowing others).share ≡ (knowing mine).share
    × IsBeginning (knowing mine).seen (knowing others).seen
    × MissesNothing (knowing others)
as_much = (refl, record { rest = []; is = refl }, λ all f. refl)

not_gone_on : Goes (knowing mine) (knowing others) → ⊥
not_gone_on goes = cc (goes.first.is)

-- a pass that has seen the events of a turn that is not among its turns
module _ (turns : List (Turn ℕ)) (turn : Turn ℕ) (e : Event ℕ) (wrote : List (Event ℕ))
    (writes : events_of (after turns).world turn ≡ e ∷ wrote) where
  -- a pass that lacks the last turn knows no run
  one_too_few : Knows one_word kinds.Indices 1 (told turns (after (turns ++ turn ∷ [])).events) → ⊥
  one_too_few knows =
      let start : Trace ℕ = opening one_word kinds.Indices 1 0 in
      let more : (after turns).events ++ e ∷ wrote ≡ (after turns).events =
      ap (λ ws. (after turns).events ++ ws) (sym writes) ∙ (sym (ap (λ (t : Trace ℕ). t.events) (after_turns_more start turns turn)) ∙ knows.is) in
      let long = ap length more in
      let one = length-append (after turns).events (e ∷ wrote) in
      absurd (omega arith)

-- so the pass of a call that has ended knows its last turn
last_left_out : Knows one_word kinds.Indices 1 (told (begins 0 acquire 3) (after first).events) → ⊥
last_left_out knows = one_too_few (begins 0 acquire 3) (Next 0) _ _ refl knows

-- nor does it count a change by another that its run does not have
one_change_too_many : Knows one_word kinds.Indices 1 (record knows { others = 1 }) → ⊥
one_change_too_many knows = cc (knows.others)

-- nor has it asked for less than the run took, where it has the whole share, or for more
one_asked_too_few : Knows one_word kinds.Indices 1 (record knows { asked = 4 }) → ⊥
one_asked_too_few knows = let e : 4 ≡ 0 + 5 = knows.asked.all refl in absurd (omega (e, arith))

one_asked_too_many : Knows one_word kinds.Indices 1 (record knows { asked = 6 }) → ⊥
one_asked_too_many knows = let e : 6 ≤ 0 + 5 = knows.asked.most in absurd (omega (e, arith))

-- a split is aside, and half the share may have asked for less
split_off : HasAsked (record knows { asked = 3; aside = 1; share = half_of all_shares }) 5
split_off = record { share = (omega arith, omega arith); most = omega arith; all = λ whole. absurd (omega (whole, arith)) }

-- what the run took is what was asked for: 4 steps of the one call and 1 of the other
all_five : (knows.asked ≡ 5) × (knows.aside ≡ 0)
all_five = (refl, refl)
