-- A machine on which roles change hands runs the page, turn by turn, for any structure that is tied to the model.
use Rattle.std.proofs.Common.{◌⊎◌, inl, inr}
use Rattle.std.proofs.lemmas.List.Sums.{fold-append}
use Rattle.model.proofs.Names.{fold, Bool, Coding, List, None, Option, Some, Trace, World, [], after_begin}
use Rattle.model.proofs.Names.{after_turn, ap, append-nil, ask_of, call_refusal, cases_eq}
use Rattle.model.proofs.Names.{cond, doing_of, false, first_of, first_row, flight_of, has_owners, is_due}
use Rattle.model.proofs.Names.{is_question, not, party_at_begin, party_of, refl}
use Rattle.model.proofs.Names.{subst, sym, true, want_of, ℕ, ⊎_elim, ◌++◌, ◌+◌}
use Rattle.model.proofs.Names.{◌∙◌, ◌∷◌, ◌≡◌, ◌≢◌}
use Rattle.model.specs.declared.event.Event.TheVariants.{Begun}
use Rattle.model.specs.declared.event.Start.{Start}
use Rattle.model.specs.declared.families.Flight.{Flight}
use Rattle.model.specs.declared.families.Registry.{Registry}
use Rattle.model.specs.declared.party.Doing.{Doing}
use Rattle.model.specs.declared.party.Doing.TheVariants.{Going, Over}
use Rattle.model.specs.declared.party.Party.{Party}
use Rattle.model.specs.declared.turn.Kind.{Kind}
use Rattle.model.specs.declared.turn.Turn.{Turn}
use Rattle.model.specs.declared.turn.Turn.TheVariants.{Begin, Decide, Die, Next}
use Rattle.model.specs.Families.{begin_of}
use Rattle.model.specs.Parties.{put}
use Rattle.model.specs.Turns.{AreAllowedOn, after_turns}
use Rattle.model.proofs.Parties.{party_put_same}
use Rattle.model.proofs.Rows.{may_begin, may_decide, may_die, may_next, must_be_due, not_none}
use Rattle.pages.specs.RolesBridge.{Naming, RunsByRole, all_told, turn_taken, turns_taken}
use Rattle.pages.specs.Machine as machine
use Rattle.pages.proofs.Hands.{Held, Hands, OwnAt, OwnBegin, Sim, Stands, both_ways, going, leaves_others, not_two, put_other, put_same, put_stands}
use Rattle.pages.proofs.Hands.{still, still_held, told_more, trace, world_with}
use Rattle.pages.proofs.HandsSteps.{goes_on, goes_on_other}
use Rattle.pages.proofs.Simulates.{TieOf}
use Rattle.pages.proofs.Turns.{asks_no_question}

module _ {T Call Stage Answer Room : Type 0} {of : machine.Structure Call Stage Answer} {by : Naming T Call Answer} {kind : Kind} {capacity : ℕ}
    {at : Registry T} {code : Coding T} {tie : TieOf Room of by.reading by.is_call kind capacity at code} {Kept : Type 0} {hands : Hands by tie Kept}
    {w : machine.World Call Stage Answer} {run : Trace T} (s : Sim hands w run)
  where
    open s use {k, words, latest, changes, turns, events, inv}

    abbrev world : World T
    world = world_with hands (hands.registry k) words latest changes turns

    abbrev t : Trace T
    t = trace hands (hands.registry k) words latest changes turns events

    abbrev begun_by : ℕ → Start T → Option (Flight T) → Trace T
    begun_by p start o = record { world = after_begin world p start o; events = events ++ Begun p start ∷ [] }

    -- what the model's machine is once a call has begun
    begin_is : (p : ℕ) (start : Start T) (flight : Flight T) → first_of kind capacity start (hands.registry k) ≡ Some flight
        → after_turn t (Begin p start)
        ≡ trace hands (hands.registry k) words (put p (party_at_begin start flight changes) latest)
        changes (turns + 1) (events ++ Begun p start ∷ [])
    begin_is p start flight e =
        ap (begun_by p start) e
        ∙ ap (λ r. trace hands r words (put p (party_at_begin start flight changes) latest) changes (turns + 1) (events ++ Begun p start ∷ []))
        (hands.keeps k p start flight e)

    -- who has no call under way has none of the page
    is_idle : (p n : ℕ) (stage : Stage) (h : Held hands k n stage latest) → flight_of (doing_of (party_of p latest)) ≡ None → h.party ≢ p
    is_idle p n stage h free e =
        let goes : flight_of (doing_of (party_of p latest)) ≡ Some (tie.flight h.room stage) =
        ap (λ i. flight_of (doing_of (party_of i latest))) (sym e) ∙ ap (λ o. flight_of (doing_of o)) h.found in
        absurd (cc)

    -- a role whose holder has no call under way has no call on the page
    free_place : (p n : ℕ) → hands.who k n ≡ Some p → flight_of (doing_of (party_of p latest)) ≡ None → w.pending n ≡ None
    free_place p n here free = go (w.pending n) refl
      where
        go : (o : Option Stage) → w.pending n ≡ o → w.pending n ≡ None
        go None e = e
        go (Some stage) e =
            let held_there = inv.held n stage e in
            not_two here held_there.who_is (is_idle p n stage held_there free)

    -- Once a call has begun on the model the two machines are the same, if the page has come to `now` with the same words, the events
    -- tell the history of `now`, each party's call stands where it may, and each stage of `now` is of some party's call.
    begun_same : {p : ℕ} {start : Start T} {flight : Flight T} {now : machine.World Call Stage Answer}
        → first_of kind capacity start (hands.registry k) ≡ Some flight
        → fold (machine.turned of) w (turn_taken by world (Begin p start)) ≡ now → now.words ≡ w.words
        → all_told by (events ++ Begun p start ∷ []) ≡ now.history
        → Stands hands k now.pending p (Some (party_at_begin start flight changes))
        → ((q : ℕ) → q ≢ p → Stands hands k now.pending q (party_of q latest))
        → ((m : ℕ) (stage : Stage) → now.pending m ≡ Some stage → Held hands k m stage (put p (party_at_begin start flight changes) latest))
        → Sim hands (fold (machine.turned of) w (turn_taken by world (Begin p start))) (after_turn t (Begin p start))
    begun_same {p} {start} {flight} {now} named comes same_words told_is here others held =
        let party_after = party_at_begin start flight changes in
        subst (λ v. Sim hands v (after_turn t (Begin p start))) (sym comes)
        (record {
          k = k;
          words = words;
          latest = put p party_after latest;
          changes = changes;
          turns = turns + 1;
          events = events ++ Begun p start ∷ [];
          is = begin_is p start flight named;
          inv =
              record {
                blanked = same_words ∙ inv.blanked;
                tells = inv.tells;
                told_is = told_is;
                stands = put_stands hands k now.pending p party_after latest here others;
                held = held;
              };
        })

    -- a call of the page that begins on the model begins on the page, as the party of its role
    begin_own : (p : ℕ) (start : Start T) (flight : Flight T) → by.is_call start ≡ true → first_of kind capacity start (hands.registry k) ≡ Some flight
        → flight_of (doing_of (party_of p latest)) ≡ None → OwnBegin by tie (hands.who k) p start flight
        → Sim hands (fold (machine.turned of) w (turn_taken by world (Begin p start))) (after_turn t (Begin p start))
    begin_own p start flight mine named free b =
        let call = b.call in
        let n = by.number p call in
        let reads : by.reading.call start ≡ call = ap by.reading.call b.start_is ∙ tie.reads_start call in
        let party_after = party_at_begin start flight changes in
        let place = free_place p n b.who_is free in
        let now : machine.World Call Stage Answer =
        record { words = w.words; pending = machine.put n (Some (of.first call)) w.pending; history = w.history ++ machine.Invoked n call ∷ [] } in
        let comes : fold (machine.turned of) w (turn_taken by world (Begin p start)) ≡ now =
        ap (λ c. fold (machine.turned of) w (cond c (machine.Begin (by.number p (by.reading.call start)) (by.reading.call start) ∷ []) [])) mine
        ∙ (ap (λ c. machine.begun of w (by.number p c) c (of.may (by.number p c) c) (w.pending (by.number p c))) reads
        ∙ (ap (λ c. machine.begun of w n call c (w.pending n)) b.may ∙ ap (machine.begun of w n call true) place)) in
        let here : Stands hands k now.pending p (Some party_after) =
        inl
        (record {
          stage = of.first call;
          room = tie.room;
          start_is = b.start_is ∙ ap tie.start (sym (tie.first_at call));
          flight_is = b.flight_is;
          fits = tie.first_fits call;
          waits = ap now.pending (ap (by.number p) (tie.first_at call)) ∙ put_same n (Some (of.first call)) w.pending;
          who_is = ap (hands.who k) (ap (by.number p) (tie.first_at call)) ∙ b.who_is;
        }) in
        begun_same named comes refl
        (told_more by events (Begun p start ∷ []) inv.told_is
        (ap (λ c. cond c (machine.Invoked (by.number p (by.reading.call start)) (by.reading.call start) ∷ []) [] ++ []) mine
        ∙ ap (λ c. machine.Invoked (by.number p c) c ∷ []) reads))
        here (λ q ne. still hands (leaves_others hands k w.pending n (Some (of.first call)) b.who_is ne) (party_of q latest) (inv.stands q)) held
      where
        -- each stage that the page then has is that of a call under way on the model
        held : (m : ℕ) (stage : Stage) → machine.put (by.number p b.call) (Some (of.first b.call)) w.pending m ≡ Some stage
            → Held hands k m stage (put p (party_at_begin start flight changes) latest)
        held m stage e = ⊎_elim same other (cases_eq m (by.number p b.call))
          where
            -- the role for which the call begins
            same : m ≡ by.number p b.call → Held hands k m stage (put p (party_at_begin start flight changes) latest)
            same is =
                let first : of.first b.call ≡ stage = the_same (sym (put_same (by.number p b.call) (Some (of.first b.call)) w.pending)
                ∙ (ap (machine.put (by.number p b.call) (Some (of.first b.call)) w.pending) (sym is) ∙ e)) in
                subst (λ i. Held hands k m i (put p (party_at_begin start flight changes) latest)) first
                (record {
                  party = p;
                  who_is = ap (hands.who k) is ∙ b.who_is;
                  steps = 0;
                  backs = 0;
                  since = changes;
                  room = tie.room;
                  found =
                      party_put_same p (party_at_begin start flight changes) latest
                      ∙ (ap (λ s. Some (going s 0 0 flight changes)) (b.start_is ∙ ap tie.start (sym (tie.first_at b.call)))
                      ∙ ap (λ f. Some (going (tie.start (tie.call_at (of.first b.call))) 0 0 f changes)) b.flight_is);
                  number_is = ap (by.number p) (tie.first_at b.call) ∙ sym is;
                })
              where
                the_same : {party_after y : Stage} → Some party_after ≡ Some y → party_after ≡ y
                the_same e = cc

            other : m ≢ by.number p b.call → Held hands k m stage (put p (party_at_begin start flight changes) latest)
            other ne =
                let old : w.pending m ≡ Some stage = sym (put_other (by.number p b.call) m (Some (of.first b.call)) w.pending ne) ∙ e in
                let held_there = inv.held m stage old in
                still_held hands p (party_at_begin start flight changes) held_there
                (is_idle p m stage held_there free) held_there.who_is

    -- a call that is none of the page's begins on the model, and the page takes no turn
    begin_other : (p : ℕ) (start : Start T) (flight : Flight T) → by.is_call start ≡ false → first_of kind capacity start (hands.registry k) ≡ Some flight
        → flight_of (doing_of (party_of p latest)) ≡ None → hands.Other k p start flight
        → Sim hands (fold (machine.turned of) w (turn_taken by world (Begin p start))) (after_turn t (Begin p start))
    begin_other p start flight mine named free b =
        -- the page takes no turn
        let comes : fold (machine.turned of) w (turn_taken by world (Begin p start)) ≡ w =
        ap (λ c. fold (machine.turned of) w (cond c (machine.Begin (by.number p (by.reading.call start)) (by.reading.call start) ∷ []) [])) mine in
        begun_same named comes refl
        (told_more by events (Begun p start ∷ []) inv.told_is
        (ap (λ c. cond c (machine.Invoked (by.number p (by.reading.call start)) (by.reading.call start) ∷ []) [] ++ []) mine)
        ∙ append-nil w.history)
        (inr b) (λ q ne. inv.stands q)
        (λ m stage e.
        let held_there = inv.held m stage e in
        still_held hands p (party_at_begin start flight changes) held_there (is_idle p m stage held_there free) held_there.who_is)

    -- a call that is not refused begins, and the two machines stay the same
    begins : (p : ℕ) (start : Start T) → call_refusal world (Begin p start) ≡ None
        → Sim hands (fold (machine.turned of) w (turn_taken by world (Begin p start))) (after_turn t (Begin p start))
    begins p start e =
        let may = may_begin world p start e in
        let flight = not_none (first_of kind capacity start (hands.registry k)) may.call in
        go (by.is_call start) refl flight.0 flight.1 may.rows may.free
      where
        -- the cases are whether it is a call of the page
        go : (c : Bool) → by.is_call start ≡ c → (flight : Flight T) → first_of kind capacity start (hands.registry k) ≡ Some flight
            → first_row ((begin_of kind capacity start).rows (hands.registry k) p) ≡ None → flight_of (doing_of (party_of p latest)) ≡ None
            → Sim hands (fold (machine.turned of) w (turn_taken by world (Begin p start))) (after_turn t (Begin p start))
        go true mine flight named rows free = begin_own p start flight mine named free (hands.own k p start flight mine named rows)
        go false mine flight named rows free = begin_other p start flight mine named free (hands.other k p start flight mine named rows)

    -- ---- every turn

    -- a party has a call under way: one of the page, or another that the machine has
    record GoesBy (p : ℕ) (flight : Flight T) : Type 0 where
      start : Start T
      steps : ℕ
      backs : ℕ
      since : ℕ
      found : party_of p latest ≡ Some (going start steps backs flight since)
      stands : OwnAt hands k w.pending p start flight ⊎ hands.Other k p start flight

    stands_here : (p : ℕ) (flight : Flight T) (start : Start T) (steps backs since : ℕ) → party_of p latest ≡ Some (going start steps backs flight since)
        → OwnAt hands k w.pending p start flight ⊎ hands.Other k p start flight
    stands_here p flight start steps backs since is = subst (Stands hands k w.pending p) is (inv.stands p)

    -- a party with a call under way makes one of the page, or another that the machine has
    goes_by : (p : ℕ) (flight : Flight T) → flight_of (doing_of (party_of p latest)) ≡ Some flight → GoesBy p flight
    goes_by p flight e = go (party_of p latest) refl e
      where
        -- the cases are whether the party has a latest call
        go : (o : Option (Party T)) → party_of p latest ≡ o → flight_of (doing_of o) ≡ Some flight → GoesBy p flight
        go None found e = absurd (cc)
        go (Some x) found e = inside x.doing refl e
          where
            -- the cases are whether that call is under way or over
            inside : (d : Doing T) → x.doing ≡ d → flight_of (Some d) ≡ Some flight → GoesBy p flight
            inside (Going it since) d e =
                let same : it ≡ flight = the_same e in
                let found_there : party_of p latest ≡ Some (going x.start x.steps x.backs flight since) =
                found ∙ ap (λ d. Some (record { start = x.start; steps = x.steps; backs = x.backs; doing = d })) (d ∙ ap (λ f. Going f since) same) in
                record {
                  start = x.start;
                  steps = x.steps;
                  backs = x.backs;
                  since = since;
                  found = found_there;
                  stands = stands_here p flight x.start x.steps x.backs since found_there;
                }
              where
                the_same : {x y : Flight T} → Some x ≡ Some y → x ≡ y
                the_same e = cc
            inside (Over others) d e = absurd (cc)

    -- a turn that is not refused is one of the page, or none, and the two machines stay the same
    one_turn : (turn : Turn T) → call_refusal world turn ≡ None
        → Sim hands (fold (machine.turned of) w (turn_taken by world turn)) (after_turn t turn)
    one_turn (Begin p start) e = begins p start e
    one_turn (Next p) e =
        let may = may_next world p e in
        let g = goes_by p may.flight may.is in
        ⊎_elim (λ own. goes_on s p g.found own)
        (λ other. goes_on_other s p g.found other)
        g.stands
    one_turn (Decide p said) e =
        let may = may_decide world p said e in
        let g = goes_by p may.flight may.is in
        let none : is_question (want_of code may.flight) ≡ false =
        ⊎_elim
        (λ (a : OwnAt hands k w.pending p g.start may.flight).
        asks_no_question (want_of code may.flight) _ (ap (λ f. ask_of (want_of code f)) a.flight_is ∙ tie.asks a.room a.stage a.fits))
        (λ (h : hands.Other k p g.start may.flight). hands.asks_nothing k p g.start may.flight h) g.stands in
        let due : not (is_question (want_of code may.flight)) ≡ false =
        ap (λ o. not (is_due code o)) (sym may.is) ∙ must_be_due world p said e in
        both_ways (not (is_question (want_of code may.flight))) (ap not none) due
    one_turn (Die owner) e =
        both_ways (not (has_owners (hands.registry k))) (ap not (hands.no_owners k)) (may_die world owner e).owners

module _ {T Call Stage Answer Room : Type 0} {of : machine.Structure Call Stage Answer} {by : Naming T Call Answer} {kind : Kind} {capacity : ℕ}
    {at : Registry T} {code : Coding T} {tie : TieOf Room of by.reading by.is_call kind capacity at code} {Kept : Type 0} {hands : Hands by tie Kept}
  where
    -- from any two machines that are the same, a turn that is not refused leaves them the same
    any_turn : {w : machine.World Call Stage Answer} {t : Trace T} (turn : Turn T) → Sim hands w t → call_refusal t.world turn ≡ None
        → Sim hands (fold (machine.turned of) w (turn_taken by t.world turn)) (after_turn t turn)
    any_turn {w} turn s allowed =
        subst (λ (u : Trace T). call_refusal u.world turn ≡ None
        → Sim hands (fold (machine.turned of) w (turn_taken by u.world turn)) (after_turn u turn))
        (sym s.is) (one_turn s turn) allowed

    -- from any two machines that are the same, turns of which none is refused leave them the same
    all_turns : (turns : List (Turn T)) {w : machine.World Call Stage Answer} {t : Trace T} → Sim hands w t → AreAllowedOn t turns
        → Sim hands (fold (machine.turned of) w (turns_taken by t turns)) (after_turns t turns)
    all_turns [] s allowed = s
    all_turns (turn ∷ turns) {w} {t} s allowed =
        subst (λ v. Sim hands v (after_turns (after_turn t turn) turns))
        (sym (fold-append (machine.turned of) w (turn_taken by t.world turn) (turns_taken by (after_turn t turn) turns)))
        (all_turns turns (any_turn turn s allowed.0) allowed.1)

    pub by_role : {first : Trace T} → Sim hands (machine.opening of) first → RunsByRole by of first
    by_role s turns allowed =
        let last = all_turns turns s allowed in
        ap (λ (u : Trace T). all_told by u.events) last.is ∙ last.inv.told_is
