-- The turns of one command, one or several: what they do to the machine and what text they print.
use Rattle.std.proofs.Common.{◌≡◌, ◌≢◌, ◌⊎◌, inl, inr, ℕ, zero, suc, ◌+◌, ◌-◌, ◌<◌, ◌≤◌, Bool, true, false, not}
use Rattle.std.proofs.Common.{Option, None, Some, is_none, Result, Ok, Err, OnOk, IfErr, List}
use Rattle.std.proofs.Common.{[], ◌∷◌, ◌++◌, replicate, refl, sym, ap, ◌∙◌, subst, append_assoc, append-nil, length, take, drop, cond, arith}
use Rattle.std.specs.Io.KnownBytes.{Appends}
use Rattle.std.proofs.KnownBytes.{Appends-trans}
use Rattle.std.proofs.lemmas.Grind.{flat_map-append}
use Rattle.std.proofs.lemmas.List.{take_rest, drop_at}
use Rattle.model.specs.declared.event.Event.{Event}
use Rattle.model.specs.declared.families.Flight.{Flight}
use Rattle.model.specs.declared.turn.Refusal.{Refusal}
use Rattle.model.specs.declared.turn.Refusal.TheVariants.{Idle, Undecided}
use Rattle.model.specs.declared.turn.Turn.{Turn}
use Rattle.model.specs.declared.turn.Turn.TheVariants.{Next}
use Rattle.model.specs.Coding.{Coding}
use Rattle.model.specs.World.{World, Trace, flight_in}
use Rattle.model.specs.Refusals.{refusal_of, IsRefusal, is_going, is_due, goes}
use Rattle.model.specs.Turns.{world_after, events_of, after_turn, after_turns, AreAllowed}
use Rattle.model.proofs.Rows.{passes, row_passed}
use Rattle.machine_parts.specs.declared.running.Stopped.{Stopped}
use Rattle.texts.specs.declared.error.ScheduleError.{ScheduleError}
use Rattle.texts.specs.Print.{event_text, events_text, refusal_text}
use Rattle.schedule.specs.Written.{AppendsPart, Writes}
use Rattle.schedule.specs.Output.{Outcome, outcome, outcome_as, refusal_where, State, Printed, after_text, printed, goes_on, nexts, commanded}
use Rattle.texts.specs.declared.grammar.Command.TheVariants.{Once}
use Rattle.schedule.specs.Run.{IsTurn, Leads, Prints}
use Rattle.schedule.proofs.Writing.{AppendsPart_more, part_within}

-- ---- one turn

-- of a list that is longer by `told`, what stands behind the old part is `told`
pub events_behind : {X : Type 0} (old new told : List X) → new ≡ old ++ told → take (length new - length old) (drop (length old) new) ≡ told
events_behind old new told e = take_rest new (length old) ∙ ap (drop (length old)) e ∙ drop_at old told (length old) refl

-- the outcome of a turn that is taken: the world after it, and the text of its events
abbrev taken_as : World ℕ → Turn ℕ → Outcome
taken_as w turn = record { text = events_text (events_of w turn); is_taken = true; world = world_after w turn }

-- the outcome of a turn that is refused: the same world, and the text of the refusal
abbrev refused_as : World ℕ → Refusal → Outcome
refused_as w refusal = record { text = refusal_text refusal; is_taken = false; world = w }

-- a turn that the machine does not refuse, and to which memory is not refused, is taken
outcome_taken : (w : World ℕ) (turn : Turn ℕ) → refusal_of w turn ≡ None → outcome false w turn ≡ taken_as w turn
unfolding outcome
outcome_taken w turn e = ap (λ r. outcome_as w turn (refusal_where false r)) e

-- a refusal of the turn, by the machine or for want of memory, is the outcome of the turn
outcome_refused : (w : World ℕ) (turn : Turn ℕ) (refusal : Refusal) → IsRefusal w turn refusal → (short : Bool) × (outcome short w turn ≡ refused_as w refusal)
unfolding outcome
outcome_refused w turn refusal (inl e) = (false, ap (λ r. outcome_as w turn (refusal_where false r)) e)
outcome_refused w turn refusal (inr (e, same)) = (true, ap (λ r. outcome_as w turn (refusal_where true r)) e ∙ ap (refused_as w) (sym same))

-- a turn that was taken and whose events were written, or a beginning of them where the write failed, is a
-- turn as `IsTurn` says
pub taken_told : (w new : World ℕ) (turn : Turn ℕ) (b a : Option (List ℕ)) (r : Result (Unit {0}) ScheduleError) → refusal_of w turn ≡ None
    → new ≡ world_after w turn → Writes b a r (events_text (events_of w turn)) → (short : Bool) × IsTurn (outcome short w turn) new b a r
taken_told w new turn b a (Ok u) e same p = (false, subst (λ o. IsTurn o new b a (Ok u)) (sym (outcome_taken w turn e)) (same, p))
taken_told w new turn b a (Err error) e same p = (false, subst (λ o. IsTurn o new b a (Err error)) (sym (outcome_taken w turn e)) p)

-- a turn that the machine refuses leaves it as it was, and writes the text of the refusal
pub refused_told : (w new : World ℕ) (turn : Turn ℕ) (b a : Option (List ℕ)) (refusal : Refusal) (r : Result (Unit {0}) ScheduleError)
    → IsRefusal w turn refusal → new ≡ w → Writes b a r (refusal_text refusal) → (short : Bool) × IsTurn (outcome short w turn) new b a r
refused_told w new turn b a refusal (Ok u) e same p =
    let o = outcome_refused w turn refusal e in
    (o.0, subst (λ o. IsTurn o new b a (Ok u)) (sym o.1) (same, p))
refused_told w new turn b a refusal (Err error) e same p =
    let o = outcome_refused w turn refusal e in
    (o.0, subst (λ o. IsTurn o new b a (Err error)) (sym o.1) p)

-- ---- several turns

-- the state of a schedule: the machine's world, and to which of the next turns memory is refused
abbrev pub at : World ℕ → List Bool → State
at w refusals = record { world = w; refusals = refusals }

-- this text was printed, and this state reached
abbrev pub as_printed : State → List ℕ → Printed
as_printed s text = record { text = text; state = s }

-- a text printed before what another text is printed before is printed before both
after_text-after_text : (s t : List ℕ) (p : Printed) → after_text s (after_text t p) ≡ after_text (s ++ t) p
after_text-after_text s t p = ap (as_printed p.state) (sym (append_assoc s t p.text))

-- where the party's call goes on, the text of the turn comes before that of the turns behind it
nexts_going : (left party : ℕ) (w : World ℕ) (short : Bool) (more : List Bool) → goes_on party (outcome short w (Next party)) ≡ true
    → nexts (suc left) party (at w (short ∷ more))
    ≡ after_text (outcome short w (Next party)).text (nexts left party (at (outcome short w (Next party)).world more))
unfolding nexts
nexts_going left party w short more e =
    let o = outcome short w (Next party) in
    ap (λ g. cond g (after_text o.text (nexts left party (at o.world more))) (printed o more)) e

-- where the party's call ends or is refused, no more turns are taken
nexts_ending : (left party : ℕ) (w : World ℕ) (short : Bool) (more : List Bool) → goes_on party (outcome short w (Next party)) ≡ false
    → nexts (suc left) party (at w (short ∷ more)) ≡ printed (outcome short w (Next party)) more
unfolding nexts
nexts_ending left party w short more e =
    let o = outcome short w (Next party) in
    ap (λ g. cond g (after_text o.text (nexts left party (at o.world more))) (printed o more)) e

-- zero turns print nothing and leave the state as it is
nexts_none : (party : ℕ) (s : State) → nexts 0 party s ≡ as_printed s []
unfolding nexts
nexts_none party s = refl

-- a turn that is taken, behind which the call goes on
one_going : (left p : ℕ) (w : World ℕ) (more : List Bool) → refusal_of w (Next p) ≡ None → is_going (world_after w (Next p)) p ≡ true
    → nexts (suc left) p (at w (false ∷ more)) ≡ after_text (events_text (events_of w (Next p))) (nexts left p (at (world_after w (Next p)) more))
one_going left p w more e going =
    let same = outcome_taken w (Next p) e in
    nexts_going left p w false more (ap (goes_on p) same ∙ going) ∙ ap (λ (o : Outcome). after_text o.text (nexts left p (at o.world more))) same

-- a turn that is taken, behind which the call does not go on
one_ending : (left p : ℕ) (w : World ℕ) (more : List Bool) → refusal_of w (Next p) ≡ None → is_going (world_after w (Next p)) p ≡ false
    → nexts (suc left) p (at w (false ∷ more)) ≡ as_printed (at (world_after w (Next p)) more) (events_text (events_of w (Next p)))
one_ending left p w more e ending =
    let same = outcome_taken w (Next p) e in
    nexts_ending left p w false more (ap (goes_on p) same ∙ ending) ∙ ap (λ (o : Outcome). printed o more) same

-- a call that is under way and is due no decision goes on by a turn `Next`
goes_where : (code : Coding ℕ) (o : Option (Flight ℕ)) → is_none o ≡ false → is_due code o ≡ false → goes code o ≡ true
goes_where code None e due = absurd (cc)
goes_where code (Some flight) e due = ap not due

-- a party whose turn `Next` is not refused has a call that goes on by such a turn
allowed_going : (w : World ℕ) (p : ℕ) → refusal_of w (Next p) ≡ None → is_going w p ≡ true
allowed_going w p e =
    let begun = row_passed (is_none (flight_in w p)) Idle _ (passes w (Next p) e).on in
    let free = row_passed (is_due w.coding (flight_in w p)) Undecided _ begun.1 in
    goes_where w.coding (flight_in w p) begun.0 free.0

-- what the turns behind the first n ones print: nothing where one of the n has ended the call, and otherwise
-- what they print as the call goes on
abbrev pub left_over : ℕ → World ℕ → ℕ → ℕ → List Bool → Printed
left_over zero now p left more = nexts left p (at now more)
left_over (suc taken) now p left more = cond (is_going now p) (nexts left p (at now more)) (as_printed (at now more) [])

-- n turns of the party were taken, led from the world `old` to `now`, and wrote these events
abbrev pub Taken : ℕ → ℕ → World ℕ → World ℕ → List (Event ℕ) → Type 0
Taken taken p old now told =
    (left : ℕ) (more : List Bool) → nexts (taken + left) p (at old (replicate taken false ++ more))
    ≡ after_text (events_text told) (left_over taken now p left more)

-- zero turns lead from a world to itself, and write nothing
after_nothing : (p : ℕ) (w : World ℕ) → Taken 0 p w w []
after_nothing p w left more =
    let none : 0 + left ≡ left = omega arith in
    ap (λ n. nexts n p (at w more)) none

-- one turn that is not refused was taken
after_one : (p : ℕ) (w : World ℕ) → refusal_of w (Next p) ≡ None → Taken 1 p w (world_after w (Next p)) (events_of w (Next p))
after_one p w e left more =
    let one : 1 + left ≡ suc left = omega arith in
    ap (λ n. nexts n p (at w (false ∷ more))) one ∙ by (is_going (world_after w (Next p)) p) refl
  where
    text : List ℕ
    text = events_text (events_of w (Next p))

    by : (b : Bool) → is_going (world_after w (Next p)) p ≡ b → nexts (suc left) p (at w (false ∷ more))
        ≡ after_text text (cond b (nexts left p (at (world_after w (Next p)) more)) (as_printed (at (world_after w (Next p)) more) []))
    by true going = one_going left p w more e going
    by false ending = one_ending left p w more e ending ∙ ap (as_printed (at (world_after w (Next p)) more)) (sym (append-nil text))

-- one allowed turn comes before those that were taken, as the call goes on after it
after_more : (n p : ℕ) (w now : World ℕ) (told : List (Event ℕ)) → refusal_of w (Next p) ≡ None → is_going (world_after w (Next p)) p ≡ true
    → Taken (suc n) p (world_after w (Next p)) now told → Taken (suc (suc n)) p w now (events_of w (Next p) ++ told)
after_more n p w now told e going taken left more =
    let first = events_of w (Next p) in
    let one : suc (suc n) + left ≡ suc (suc n + left) = omega arith in
    ap (λ k. nexts k p (at w (replicate (suc (suc n)) false ++ more))) one
    ∙ one_going (suc n + left) p w (replicate (suc n) false ++ more) e going
    ∙ ap (after_text (events_text first)) (taken left more)
    ∙ after_text-after_text (events_text first) (events_text told) (left_over (suc n) now p left more)
    ∙ ap (λ text. after_text text (left_over (suc n) now p left more)) (sym (flat_map-append event_text first told))

-- n turns of the party that are not refused write, as text, the events that the machine's
-- history has more after them
pub taken_is : (n p : ℕ) (t : Trace ℕ) → AreAllowed t (replicate n (Next p))
    → (told : List (Event ℕ)) × ((after_turns t (replicate n (Next p))).events ≡ t.events ++ told)
    × Taken n p t.world (after_turns t (replicate n (Next p))).world told
taken_is zero p t all = ([], sym (append-nil t.events), after_nothing p t.world)
taken_is (suc zero) p t (e, all) = (events_of t.world (Next p), refl, after_one p t.world e)
taken_is (suc (suc n)) p t (e, all) =
    let rest = taken_is (suc n) p (after_turn t (Next p)) all in (
      events_of t.world (Next p) ++ rest.0,
      rest.1 ∙ append_assoc t.events (events_of t.world (Next p)) rest.0,
      after_more n p t.world (after_turns (after_turn t (Next p)) (replicate (suc n) (Next p))).world rest.0 e
          (allowed_going (world_after t.world (Next p)) p all.0) rest.2,
    )

-- ---- what they print

-- where no turn is left, nothing more is printed
none_left : (n p : ℕ) (now : World ℕ) (more : List Bool) → left_over n now p 0 more ≡ as_printed (at now more) []
none_left zero p now more = nexts_none p (at now more)
none_left (suc n) p now more = by (is_going now p)
  where
    by : (b : Bool) → cond b (nexts 0 p (at now more)) (as_printed (at now more) []) ≡ as_printed (at now more) []
    by true = nexts_none p (at now more)
    by false = refl

-- where no turn was taken yet, or the call goes on after those that were taken, the next turn is tried
goes_over : (n p left : ℕ) (now : World ℕ) (more : List Bool) → (n ≡ 0) ⊎ (is_going now p ≡ true) → left_over n now p left more ≡ nexts left p (at now more)
goes_over zero p left now more h = refl
goes_over (suc n) p left now more (inl none) = absurd (omega arith)
goes_over (suc n) p left now more (inr going) = ap (λ b. cond b (nexts left p (at now more)) (as_printed (at now more) [])) going

-- where a turn was taken and the call does not go on after it, no further turn is tried
stops_over : (n p left : ℕ) (now : World ℕ) (more : List Bool) → n ≢ 0 → is_going now p ≡ false → left_over n now p left more ≡ as_printed (at now more) []
stops_over zero p left now more some ending = absurd (some refl)
stops_over (suc n) p left now more some ending = ap (λ b. cond b (nexts left p (at now more)) (as_printed (at now more) [])) ending

-- a turn that is refused prints the text of its refusal, and is the last one
refused_over : (p left : ℕ) (now : World ℕ) (refusal : Refusal) → IsRefusal now (Next p) refusal
    → (short : Bool) × ((more : List Bool) → nexts (suc left) p (at now (short ∷ more)) ≡ as_printed (at now more) (refusal_text refusal))
refused_over p left now refusal is =
    let r = outcome_refused now (Next p) refusal is in (
      r.0,
      λ more. nexts_ending left p now r.0 more (ap (goes_on p) r.1) ∙ ap (λ (o : Outcome). printed o more) r.1,
    )

-- all turns of the command were taken: their events are what it prints
pub all_taken : (most p : ℕ) (old now : World ℕ) (told : List (Event ℕ)) (b a : Option (List ℕ)) → Taken most p old now told
    → Appends b a (events_text told) → Prints (nexts most p) old now b a (Ok tt)
all_taken most p old now told b a taken q =
    let none : most ≡ most + 0 = omega arith in (
      replicate most false,
      events_text told,
      (λ more. ap (λ n. nexts n p (at old (replicate most false ++ more))) none ∙ taken 0 more
          ∙ ap (after_text (events_text told)) (none_left most p now more)
          ∙ ap (as_printed (at now more)) (append-nil (events_text told))),
      q,
    )

-- the call ended before the command's turns were over: the events of the turns that were
-- taken are what it prints
pub call_ended : (most n p : ℕ) (old now : World ℕ) (told : List (Event ℕ)) (b a : Option (List ℕ)) → n < most → n ≢ 0 → is_going now p ≡ false
    → Taken n p old now told → Appends b a (events_text told) → Prints (nexts most p) old now b a (Ok tt)
call_ended most n p old now told b a below some ending taken q =
    let split : most ≡ n + (most - n) = omega arith in (
      replicate n false,
      events_text told,
      (λ more. ap (λ k. nexts k p (at old (replicate n false ++ more))) split ∙ taken (most - n) more
          ∙ ap (after_text (events_text told)) (stops_over n p (most - n) now more some ending)
          ∙ ap (as_printed (at now more)) (append-nil (events_text told))),
      q,
    )

-- the turns that were taken lead to the refusal of the next one
refused_leads : (most n p : ℕ) (old now : World ℕ) (told : List (Event ℕ)) (refusal : Refusal) → n < most → (n ≡ 0) ⊎ (is_going now p ≡ true)
    → Taken n p old now told → IsRefusal now (Next p) refusal
    → (refusals : List Bool) × Leads (nexts most p) old now refusals (events_text told ++ refusal_text refusal)
refused_leads most n p old now told refusal below goes taken is =
    let left = most - n - 1 in
    let r = refused_over p left now refusal is in
    let split : most ≡ n + suc left = omega arith in (
      replicate n false ++ r.0 ∷ [],
      λ more. ap (λ l. nexts most p (at old l)) (append_assoc (replicate n false) (r.0 ∷ []) more)
          ∙ ap (λ k. nexts k p (at old (replicate n false ++ r.0 ∷ more))) split
          ∙ taken (suc left) (r.0 ∷ more)
          ∙ ap (after_text (events_text told)) (goes_over n p (suc left) now (r.0 ∷ more) goes ∙ r.1 more),
    )

-- the turns that were taken and the refusal of the next one are what the command prints
pub next_refused : (most n p : ℕ) (old now : World ℕ) (told : List (Event ℕ)) (refusal : Refusal) (b m a : Option (List ℕ)) → n < most
    → (n ≡ 0) ⊎ (is_going now p ≡ true) → Taken n p old now told → IsRefusal now (Next p) refusal
    → Appends b m (events_text told) → Appends m a (refusal_text refusal) → Prints (nexts most p) old now b a (Ok tt)
next_refused most n p old now told refusal b m a below goes taken is q r =
    let leads = refused_leads most n p old now told refusal below goes taken is in
    (leads.0, events_text told ++ refusal_text refusal, leads.1, Appends-trans b m a (events_text told) (refusal_text refusal) q r)

-- a write of the events failed: what was written is a beginning of what the command prints
pub events_failed : (most n p : ℕ) (old now : World ℕ) (told : List (Event ℕ)) (b a : Option (List ℕ)) → n ≤ most → Taken n p old now told
    → AppendsPart b a (events_text told) → (refusals : List Bool) × AppendsPart b a (nexts most p (at old refusals)).text
events_failed most n p old now told b a within taken q =
    let split : most ≡ n + (most - n) = omega arith in (
      replicate n false ++ [],
      subst (AppendsPart b a)
          (sym (ap (λ (r : Printed). r.text) (ap (λ k. nexts k p (at old (replicate n false ++ []))) split ∙ taken (most - n) [])))
          (AppendsPart_more b a (events_text told) (left_over n now p (most - n) []).text q),
    )

-- a write of the refusal that failed has written a part of what the command prints
pub refusal_failed : (most n p : ℕ) (old now : World ℕ) (told : List (Event ℕ)) (refusal : Refusal) (b m a : Option (List ℕ)) → n < most
    → (n ≡ 0) ⊎ (is_going now p ≡ true) → Taken n p old now told → IsRefusal now (Next p) refusal
    → Appends b m (events_text told) → AppendsPart m a (refusal_text refusal)
    → (refusals : List Bool) × AppendsPart b a (nexts most p (at old refusals)).text
refusal_failed most n p old now told refusal b m a below goes taken is q r =
    let leads = refused_leads most n p old now told refusal below goes taken is in (
      leads.0 ++ [],
      part_within b m a (events_text told) (refusal_text refusal) [] (nexts most p (at old (leads.0 ++ []))).text q r
          (append-nil (events_text told ++ refusal_text refusal) ∙ sym (ap (λ (p : Printed). p.text) (leads.1 []))),
    )

-- where the next turn is refused, the command prints the events and the refusal, or a beginning of them where
-- the write of the refusal fails
pub refused_prints : (most n p : ℕ) (old now : World ℕ) (told : List (Event ℕ)) (refusal : Refusal) (b m a : Option (List ℕ))
    (r : Result (Unit {0}) ScheduleError) → n < most → (n ≡ 0) ⊎ (is_going now p ≡ true) → Taken n p old now told → IsRefusal now (Next p) refusal
    → Appends b m (events_text told) → Writes m a r (refusal_text refusal) → Prints (nexts most p) old now b a r
refused_prints most n p old now told refusal b m a (Ok u) below goes taken is q r =
    next_refused most n p old now told refusal b m a below goes taken is q r
refused_prints most n p old now told refusal b m a (Err e) below goes taken is q r =
    let failed = refusal_failed most n p old now told refusal b m a below goes taken is q r.1 in
    (r.0, failed.0, failed.1)

-- ---- as a machine answers them

-- at most `most` turns of the party led from the trace t to the trace u, and `told` are the
-- events that they wrote
pub record Ran (most p : ℕ) (t u : Trace ℕ) : Type 0 where
  pub taken : ℕ
  pub within : taken ≤ most
  pub told : List (Event ℕ)
  pub events : u.events ≡ t.events ++ told
  pub is : Taken taken p t.world u.world told

-- n turns that are not refused lead from the trace t to the trace u: the events that they wrote, which stand
-- behind the older ones
pub ran_of : (most n p : ℕ) (t u : Trace ℕ) → n ≤ most → AreAllowed t (replicate n (Next p)) → u ≡ after_turns t (replicate n (Next p))
    → (told : List (Event ℕ)) × (u.events ≡ t.events ++ told) × Taken n p t.world u.world told
ran_of most n p t u within all is =
    subst (λ (v : Trace ℕ). (told : List (Event ℕ)) × (v.events ≡ t.events ++ told) × Taken n p t.world v.world told) (sym is) (taken_is n p t all)

-- from what `nexts` of a machine answers, how many turns it took and which events they wrote
pub ran_is : (most p : ℕ) (t u : Trace ℕ) (r : Result (Unit {0}) Stopped) → OnOk r (AreAllowed t (replicate most (Next p)))
    → OnOk r (u ≡ after_turns t (replicate most (Next p))) → IfErr r (λ stopped. stopped.taken < most)
    → IfErr r (λ stopped. AreAllowed t (replicate stopped.taken (Next p)))
    → IfErr r (λ stopped. u ≡ after_turns t (replicate stopped.taken (Next p))) → Ran most p t u
ran_is most p t u (Ok x) all is below allowed taken =
    let within : most ≤ most = omega arith in
    let ran = ran_of most most p t u within all is in
    record { taken = most; within = within; told = ran.0; events = ran.1; is = ran.2 }
ran_is most p t u (Err stopped) all is below allowed taken =
    let within : stopped.taken ≤ most = omega (arith, below) in
    let ran = ran_of most stopped.taken p t u within allowed taken in
    record { taken = stopped.taken; within = within; told = ran.0; events = ran.1; is = ran.2 }

-- ---- one turn as a command

-- one turn as a command prints what the turn prints
pub once_told : (turn : Turn ℕ) (old new : World ℕ) (b a : Option (List ℕ)) (short : Bool) (r : Result (Unit {0}) ScheduleError)
    → IsTurn (outcome short old turn) new b a r → Prints (commanded (Once turn)) old new b a r
once_told turn old new b a short (Ok u) p =
    let o = outcome short old turn in
    (short ∷ [], o.text, (λ more. ap (λ v. as_printed (at v more) o.text) (sym p.0)), p.1)
once_told turn old new b a short (Err error) p = (p.0, short ∷ [], p.1)
