-- A call under way takes a step, on a machine on which roles change hands and on the page that it runs: the
-- machine's trace `t` runs the page's world `w` (`Sim`) after the step too, whether it is a call of the page
-- (`goes_on`) or not (`goes_on_other`). Here `by` names the page's party for a party's call, `tie` gives the
-- model's stages for the page's, `hands` says who has which role, and `s` is that the trace runs the page's world
-- before the step: of it, `k` is what the machine keeps of the roles, and `inv` what holds (`Inv` of `Hands.antt`).
use Rattle.std.proofs.Common.{inl, inr}
use Rattle.std.specs.Prelude.{slice_set}
use Rattle.model.proofs.Names.{fold, Bool, Coding, List, None, Option, Some, Trace, World, [], after_next, after_step}
use Rattle.model.proofs.Names.{after_turn, ap, append-nil, answer_in, ask_of, beside_of, cases_eq, change_of}
use Rattle.model.proofs.Names.{cond, events_of_next, false}
use Rattle.model.proofs.Names.{old_of, one_if, party_of, refl, slice_index}
use Rattle.model.proofs.Names.{step_count, step_of, subst, sym, true, want_of, words_after, ℕ, ⊎_elim, ◌++◌, ◌+◌, ◌-◌}
use Rattle.model.proofs.Names.{◌∙◌, ◌∷◌, ◌≡◌, ◌≢◌}
use Rattle.model.specs.declared.event.Answer as answers
use Rattle.model.specs.declared.event.Event.{Event}
use Rattle.model.specs.declared.event.Event.TheVariants.{Finished}
use Rattle.model.specs.declared.event.Start.{Start}
use Rattle.model.specs.declared.families.Flight.{Flight}
use Rattle.model.specs.declared.families.Registry.{Registry}
use Rattle.model.specs.declared.party.Doing.TheVariants.{Over}
use Rattle.model.specs.declared.party.Party.{Party}
use Rattle.model.specs.declared.turn.Kind.{Kind}
use Rattle.model.specs.declared.turn.Turn.TheVariants.{Next}
use Rattle.model.specs.Parties.{put}
use Rattle.model.specs.Step.{Step}
use Rattle.model.specs.Turns.{doing_after, ending_of}
use Rattle.model.proofs.Parties.{party_put_same}
use Rattle.steps.specs.declared.ask.After.{After}
use Rattle.steps.specs.declared.ask.After.TheVariants as afters
use Rattle.steps.specs.declared.ask.Ask.{Ask}
use Rattle.pages.specs.RolesBridge.{Naming, all_told, next_taken, turn_taken}
use Rattle.pages.specs.Machine as machine
use Rattle.pages.specs.Reading.{all_seen, asked}
use Rattle.pages.proofs.Hands.{Held, Hands, Leaves, LeavesParty, OtherStep, OwnAt, Sim, Stands, StandsAt, both_ways, going, leaves_others}
use Rattle.pages.proofs.Hands.{not_two, put_other, put_same, put_stands, started, still, still_held, told_more, trace, unseen_untold, world_with}
use Rattle.pages.proofs.Relates.{went}
use Rattle.pages.proofs.Simulates.{GoesRight, TieOf}
use Rattle.pages.proofs.Turns.{words_same}

module _ {T Call Stage Answer Room : Type 0} {of : machine.Structure Call Stage Answer} {by : Naming T Call Answer} {kind : Kind} {capacity : ℕ}
    {at : Registry T} {code : Coding T} {tie : TieOf Room of by.reading by.is_call kind capacity at code} {Kept : Type 0} {hands : Hands by tie Kept}
    {w : machine.World Call Stage Answer} {run : Trace T} (s : Sim hands w run)
  where
    open s use {k, words, latest, changes, turns, events, inv}

    -- the machine's world before the step
    abbrev world : World T
    world = world_with hands (hands.registry k) words latest changes turns

    -- the machine's trace before the step
    abbrev t : Trace T
    t = trace hands (hands.registry k) words latest changes turns events

    -- the trace after a step of the party has come to `step`
    abbrev made : ℕ → Party T → ℕ → Option Ask → Step (Flight T) (Registry T) T → Trace T
    made p x since ask step =
        record { world = after_step world p x since ask step; events = events ++ (step.wrote ++ ending_of p x.start (answer_in step.after)) }

    -- the model's step of a party's call, by the operation that it asks for
    abbrev step_at : ℕ → Start T → Flight T → Option Ask → Step (Flight T) (Registry T) T
    step_at p start flight ask = step_of code words (beside_of words (hands.registry k) latest p) p start flight (old_of words ask) (hands.registry k)

    -- the trace after a step of a party whose latest call is `o`
    abbrev after_party : ℕ → Option (Party T) → Trace T
    after_party p o = record { world = after_next world p o; events = events ++ events_of_next world p o }

    -- what the model's machine is once a party has taken a step of its call
    next_is : (p : ℕ) {start : Start T} {steps backs : ℕ} {flight : Flight T} {since : ℕ}
        → party_of p latest ≡ Some (going start steps backs flight since)
        → after_turn t (Next p)
        ≡ made p (going start steps backs flight since) since (ask_of (want_of code flight)) (step_at p start flight (ask_of (want_of code flight)))
    next_is p found = ap (after_party p) found

    -- ---- a call of the page goes on

    -- A call of the page that is under way, of party p: where it stands on the model, and where on the page.
    record OnPage (p : ℕ) : Type 0 where
      stage : Stage
      room : Room
      steps : ℕ
      backs : ℕ
      since : ℕ
      found : party_of p latest ≡ Some (going (tie.start (tie.call_at stage)) steps backs (tie.flight room stage) since)
      fits : tie.fits stage ≡ true
      waits : w.pending (by.number p (tie.call_at stage)) ≡ Some stage
      who_is : hands.who k (by.number p (tie.call_at stage)) ≡ Some p

    module _ (p : ℕ) (on_page : OnPage p) where
      open on_page use {stage, room, steps, backs, since, found, fits, waits, who_is}

      abbrev call : Call
      call = tie.call_at stage

      -- the page's party that the call is of
      abbrev n : ℕ
      n = by.number p call

      -- the party of the model as the call goes on
      abbrev x : Party T
      x = going (tie.start call) steps backs (tie.flight room stage) since

      -- the word that the step is at, what it does to the word, and what the word was
      abbrev word : ℕ
      word = (of.does stage).0

      abbrev op : machine.Operation
      op = (of.does stage).1

      abbrev old : ℕ
      old = slice_index words word

      abbrev ask : Option Ask
      ask = Some (asked word op)

      -- the page's words after the step
      abbrev words_now : List ℕ
      words_now = slice_set (hands.blank words) word (machine.written op old)

      leaves : Leaves hands.blank (hands.Tells k) words word
      leaves = hands.leaves k words stage fits inv.tells

      -- The page's world after the step. The party's call is the page's (`tie.is_own`), the page reads it as that call
      -- (`tie.reads_start`), and the word that it operates on is the same as on the machine (`same_old`).
      own_comes : fold (machine.turned of) w (turn_taken by world (Next p)) ≡ machine.gone of w n words_now ((of.does stage).2 old)
      own_comes =
          let same_old : slice_index w.words word ≡ old = ap (λ ws. slice_index ws word) inv.blanked ∙ leaves.old in
          ap (λ o. fold (machine.turned of) w (next_taken by p o)) found
          ∙ (ap (λ c. fold (machine.turned of) w (cond c (machine.Next (by.number p (by.reading.call x.start)) ∷ []) [])) (tie.is_own call)
          ∙ (ap (λ c. machine.stepped of w (by.number p c) (w.pending (by.number p c))) (tie.reads_start call)
          ∙ (ap (machine.stepped of w n) waits
          ∙ (ap (λ old. machine.gone of w n (slice_set w.words word (machine.written op old)) ((of.does stage).2 old)) same_old
          ∙ ap (λ ws. machine.gone of w n (slice_set ws word (machine.written op old)) ((of.does stage).2 old)) inv.blanked))))

      -- a call of the page that is under way for another of the page's parties is not this party's call
      one_place : (m : ℕ) (other : Stage) (h : Held hands k m other latest) → m ≢ n → h.party ≢ p
      one_place m other h ne e =
          let both : Some (going (tie.start (tie.call_at other)) h.steps h.backs (tie.flight h.room other) h.since) ≡ Some x =
          sym h.found ∙ (ap (λ i. party_of i latest) e ∙ found) in
          let calls : tie.call_at other ≡ call =
          sym (tie.reads_start (tie.call_at other)) ∙ (ap by.reading.call (started both) ∙ tie.reads_start call) in
          ne (sym h.number_is ∙ (ap (λ i. by.number i (tie.call_at other)) e ∙ ap (by.number p) calls))

      -- a stage of any other party of the page was there before, and is another party's call
      held_apart : (x : Party T) (o : Option Stage) (m : ℕ) (other : Stage) → machine.put n o w.pending m ≡ Some other → m ≢ n
          → Held hands k m other (put p x latest)
      held_apart x o m other e ne =
          let before = inv.held m other (sym (put_other n m o w.pending ne) ∙ e) in
          still_held hands p x before (one_place m other before ne) before.who_is

      stands_apart : (o : Option Stage) (q : ℕ) → q ≢ p → Stands hands k (machine.put n o w.pending) q (party_of q latest)
      stands_apart o q ne = still hands (leaves_others hands k w.pending n o who_is ne) (party_of q latest) (inv.stands q)

      -- The machine's trace after a step that writes `more` runs the page's world in which the page's party of the call has the stage
      -- `o`, if the events tell its history, the party's call is then `x_now` and stands where it may, and the stage is of that call.
      step_same : (o : Option Stage) (x_now : Party T) (more : List (Event T)) {history : List (machine.Event Call Answer)}
          → all_told by (events ++ more) ≡ history → Stands hands k (machine.put n o w.pending) p (Some x_now)
          → ((m : ℕ) (other : Stage) → machine.put n o w.pending m ≡ Some other → m ≡ n → Held hands k m other (put p x_now latest))
          → Sim hands (record { words = words_now; pending = machine.put n o w.pending; history = history })
          (trace hands (hands.registry k) (words_after words ask) (put p x_now latest) (changes + change_of words ask) (turns + 1) (events ++ more))
      step_same o x_now more told_is here held_here =
          let wrote_words : words_after words ask ≡ slice_set words word (machine.written op old) = words_same words word op in
          record {
            k = k;
            words = words_after words ask;
            latest = put p x_now latest;
            changes = changes + change_of words ask;
            turns = turns + 1;
            events = events ++ more;
            is = refl;
            inv =
                record {
                  blanked = sym (ap hands.blank wrote_words ∙ leaves.new (machine.written op old));
                  tells = subst (hands.Tells k) (sym wrote_words) (leaves.tells (machine.written op old) inv.tells);
                  told_is = told_is;
                  stands = put_stands hands k (machine.put n o w.pending) p x_now latest here (stands_apart o);
                  held = λ m other e. ⊎_elim (held_here m other e) (held_apart x_now o m other e) (cases_eq m n);
                };
          }

      -- the party's call as it goes on at the stage `next`
      abbrev going_on : Room → Bool → Stage → Party T
      going_on room_now back next =
          going (tie.start call) (steps + step_count ask) (backs + one_if back) (tie.flight room_now next) (since + change_of words ask)

      -- After a step of the page's call that comes to `a` the machine's trace still runs the page's
      -- world. The cases are whether the call goes on (`GoOn next`) or is done (`Done answer`).
      finish : (room_now : Room) (back : Bool) (wrote : List (Event T)) → all_seen by.reading wrote ≡ []
          → (a : machine.After Stage Answer) → GoesRight tie.call_at tie.fits call a
          → Sim hands (machine.gone of w n words_now a)
          (made p x since ask (record { after = went (tie.flight room_now) tie.answered a; back = back; wrote = wrote; kept = hands.registry k }))
      finish room_now back wrote unseen (machine.GoOn next) right =
          let place : by.number p (tie.call_at next) ≡ n = ap (by.number p) right.0 in
          step_same (Some next) (going_on room_now back next) (wrote ++ [])
          (told_more by events (wrote ++ []) inv.told_is (told_more by wrote [] (unseen_untold by wrote unseen) refl) ∙ append-nil w.history)
          (inl
          (record {
            stage = next;
            room = room_now;
            start_is = ap tie.start (sym right.0);
            flight_is = refl;
            fits = right.1;
            waits = ap (machine.put n (Some next) w.pending) place ∙ put_same n (Some next) w.pending;
            who_is = ap (hands.who k) place ∙ who_is;
          }))
          same
        where
          -- the page's party whose call goes on: its stage is `next`
          same : (m : ℕ) (other : Stage) → machine.put n (Some next) w.pending m ≡ Some other → m ≡ n
              → Held hands k m other (put p (going_on room_now back next) latest)
          same m other e is =
              let now : next ≡ other = the_same (sym (put_same n (Some next) w.pending) ∙ (ap (machine.put n (Some next) w.pending) (sym is) ∙ e)) in
              subst (λ i. Held hands k m i (put p (going_on room_now back next) latest)) now
              (record {
                party = p;
                who_is = ap (hands.who k) is ∙ who_is;
                steps = steps + step_count ask;
                backs = backs + one_if back;
                since = since + change_of words ask;
                room = room_now;
                found =
                    party_put_same p (going_on room_now back next) latest
                    ∙ ap (λ c. Some (going (tie.start c) (steps + step_count ask) (backs + one_if back) (tie.flight room_now next)
                    (since + change_of words ask))) (sym right.0);
                number_is = ap (by.number p) right.0 ∙ sym is;
              })
            where
              -- equal options have equal values
              the_same : {x y : Stage} → Some x ≡ Some y → x ≡ y
              the_same e = cc
      finish room_now back wrote unseen (machine.Done answer) right =
          let start = tie.start call in
          let end = Finished p start (tie.answered answer) ∷ [] in
          let x_now : Party T =
          record {
            start = start;
            steps = steps + step_count ask;
            backs = backs + one_if back;
            doing = Over (changes + change_of words ask - (since + change_of words ask));
          } in
          let ends : all_told by end ≡ machine.Responded n answer ∷ [] =
          ap
          (λ c. cond c (machine.Responded (by.number p (by.reading.call start)) (by.reading.answer (tie.answered answer)) ∷ []) []
          ++ [])
          (tie.is_own call)
          ∙ (ap (λ c. machine.Responded (by.number p c) (by.reading.answer (tie.answered answer)) ∷ []) (tie.reads_start call)
          ∙ ap (λ a. machine.Responded n a ∷ []) (tie.reads_answer answer)) in
          step_same None x_now (wrote ++ end)
          (told_more by events (wrote ++ end) inv.told_is (told_more by wrote end (unseen_untold by wrote unseen) ends)) tt
          (λ m other e is. none_some (sym (put_same n None w.pending) ∙ (ap (machine.put n None w.pending) (sym is) ∙ e)))
        where
          -- `None` is not `Some y`
          none_some : {A : Type 0} {y : Stage} → None ≡ Some y → A
          none_some e = absurd (cc)

      -- A step of a call of the page is a step of that call on the page, and the machine's trace runs the
      -- page's world after it.
      own_goes_on : Sim hands (fold (machine.turned of) w (turn_taken by world (Next p))) (after_turn t (Next p))
      own_goes_on =
          -- what the model's step comes to
          let comes = hands.goes k words (beside_of words (hands.registry k) latest p) p room stage old fits in
          let step = step_at p (tie.start call) (tie.flight room stage) ask in
          -- the trace after the turn
          let is : after_turn t (Next p)
          ≡ made p x since ask
          (record {
            after = went (tie.flight comes.room) tie.answered ((of.does stage).2 old);
            back = step.back;
            wrote = step.wrote;
            kept = hands.registry k;
          }) =
          next_is p found
          ∙ (ap (λ asks. made p x since asks (step_at p (tie.start call) (tie.flight room stage) asks)) (tie.asks room stage fits)
          ∙ (ap (λ after. made p x since ask (record { after = after; back = step.back; wrote = step.wrote; kept = step.kept })) comes.after_is
          ∙ ap (λ kept. made p x since ask
          (record { after = went (tie.flight comes.room) tie.answered ((of.does stage).2 old); back = step.back; wrote = step.wrote; kept = kept }))
          comes.kept_is)) in
          subst (λ v. Sim hands v (after_turn t (Next p))) (sym own_comes)
          (subst (Sim hands (machine.gone of w n words_now ((of.does stage).2 old))) (sym is)
          (finish comes.room step.back step.wrote comes.unseen ((of.does stage).2 old) (tie.right stage old fits)))

    -- a call of the page takes a step on the page as it does on the machine, whose trace still runs the page's world
    pub goes_on : (p : ℕ) {start : Start T} {steps backs : ℕ} {flight : Flight T} {since : ℕ}
        → party_of p latest ≡ Some (going start steps backs flight since)
        → OwnAt hands k w.pending p start flight → Sim hands (fold (machine.turned of) w (turn_taken by world (Next p))) (after_turn t (Next p))
    goes_on p {start} {steps} {backs} {flight} {since} found own =
        own_goes_on p
        (record {
          stage = own.stage;
          room = own.room;
          steps = steps;
          backs = backs;
          since = since;
          found =
              found
              ∙ (ap (λ s. Some (going s steps backs flight since)) own.start_is
              ∙ ap (λ f. Some (going (tie.start (tie.call_at own.stage)) steps backs f since)) own.flight_is);
          fits = own.fits;
          waits = own.waits;
          who_is = own.who_is;
        })

    -- ---- a call that the page has not goes on

    module _ (p : ℕ) {start : Start T} {steps backs : ℕ} {flight : Flight T} {since : ℕ}
        (found : party_of p latest ≡ Some (going start steps backs flight since)) (other : hands.Other k p start flight)
      where
        abbrev asks : Option Ask
        asks = ask_of (want_of code flight)

        abbrev step : Step (Flight T) (Registry T) T
        step = step_at p start flight asks

        abbrev party_now : Party T
        party_now =
            record {
              start = start;
              steps = steps + step_count asks;
              backs = backs + one_if step.back;
              doing = doing_after (changes + change_of words asks) (since + change_of words asks) step.after;
            }

        -- what the step comes to
        comes : OtherStep code hands.registry hands.who hands.blank hands.Tells hands.Other k p start flight words step
        comes = hands.goes_other k words (beside_of words (hands.registry k) latest p) p start flight other inv.tells

        open comes use {next, who_is}

        not_own : by.is_call start ≡ false
        not_own = hands.not_own k p start flight other

        -- the end of a call that the page has not is no response on the page
        no_ending : (after : After (Flight T) (answers.Answer T)) → all_told by (ending_of p start (answer_in after)) ≡ []
        no_ending (afters.GoOn then) = refl
        no_ending (afters.Done answer) =
            ap (λ c. cond c (machine.Responded (by.number p (by.reading.call start)) (by.reading.answer answer) ∷ []) [] ++ []) not_own

        -- a call that goes on is one that the page has not, and of one that is over there is
        -- nothing to show
        stands_then : (after : After (Flight T) (answers.Answer T)) → ((then : Flight T) → after ≡ afters.GoOn then → hands.Other next p start then)
            → StandsAt hands next w.pending p start (doing_after (changes + change_of words asks) (since + change_of words asks) after)
        stands_then (afters.GoOn then) stays = inr (stays then refl)
        stands_then (afters.Done answer) stays = tt

        -- each role that another party holds stays that party's
        who_then : (m : ℕ) {q : ℕ} → hands.who k m ≡ Some q → q ≢ p → hands.who next m ≡ Some q
        who_then m is ne =
            ⊎_elim (λ same. same ∙ is) (λ others. ⊎_elim (λ none. absurd (no_one (sym none ∙ is))) (λ mine. not_two mine is ne) others) (who_is m)
          where
            -- the option of no party is not that of a party
            no_one : {q : ℕ} → None ≡ Some q → ⊥
            no_one e = absurd (cc)

        -- a call of the page that is under way is another party's
        not_mine : (m : ℕ) (stage : Stage) (h : Held hands k m stage latest) → h.party ≢ p
        not_mine m stage h e =
            let both : Some (going (tie.start (tie.call_at stage)) h.steps h.backs (tie.flight h.room stage) h.since)
            ≡ Some (going start steps backs flight since) =
            sym h.found ∙ (ap (λ i. party_of i latest) e ∙ found) in
            both_ways (by.is_call start) (sym (ap by.is_call (started both)) ∙ tie.is_own (tie.call_at stage)) not_own

        -- a turn of this call leaves every other party its roles and its calls
        leaves_other : (q : ℕ) → q ≢ p → LeavesParty hands k next w.pending w.pending q
        leaves_other q ne =
            record { own = λ m stage is waits. (waits, who_then m is ne); other = λ start flight another. comes.others q start flight ne another }

        -- as a call takes a step that is none of the page's, the page takes no turn, and the two machines stay the
        -- same
        pub goes_on_other : Sim hands (fold (machine.turned of) w (turn_taken by world (Next p))) (after_turn t (Next p))
        goes_on_other =
            -- the page takes no turn
            let stays : fold (machine.turned of) w (turn_taken by world (Next p)) ≡ w =
            ap (λ o. fold (machine.turned of) w (next_taken by p o)) found
            ∙ ap (λ c. fold (machine.turned of) w (cond c (machine.Next (by.number p (by.reading.call start)) ∷ []) [])) not_own in
            let is : after_turn t (Next p) ≡ made p (going start steps backs flight since) since asks (record step { kept = hands.registry next }) =
            next_is p found ∙ ap (λ kept. made p (going start steps backs flight since) since asks (record step { kept = kept })) comes.kept_is in
            subst (λ v. Sim hands v (after_turn t (Next p))) (sym stays)
            (subst (Sim hands w) (sym is)
            (record {
              k = next;
              words = words_after words asks;
              latest = put p party_now latest;
              changes = changes + change_of words asks;
              turns = turns + 1;
              events = events ++ (step.wrote ++ ending_of p start (answer_in step.after));
              is = refl;
              inv =
                  record {
                    blanked = inv.blanked ∙ sym comes.blank_is;
                    tells = comes.tells;
                    told_is =
                        told_more by events (step.wrote ++ ending_of p start (answer_in step.after)) inv.told_is
                        (told_more by step.wrote (ending_of p start (answer_in step.after))
                        (unseen_untold by step.wrote (ap (all_seen by.reading) comes.silent)) (no_ending step.after))
                        ∙ append-nil w.history;
                    stands =
                        put_stands hands next w.pending p party_now latest (stands_then step.after comes.stays)
                        (λ q ne. still hands (leaves_other q ne) (party_of q latest) (inv.stands q));
                    held =
                        λ m stage e.
                        let h = inv.held m stage e in
                        let ne : h.party ≢ p = not_mine m stage h in
                        still_held hands p party_now h ne (who_then m h.who_is ne);
                  };
            }))
