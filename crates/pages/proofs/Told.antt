-- What is told of a run of the model, with what its calls handed out on their way.
use Rattle.std.proofs.lemmas.Bool.Decides.{nat_tests}
use Rattle.model.proofs.Names.{Bool, List, None, Option, Some, [], ap, append-nil, append_assoc, answer_in, arith, cond, false, fold, fold-append}
use Rattle.model.proofs.Names.{refl, subst, sym, true, ℕ, ◌++◌, ◌==◌, ◌∙◌, ◌∷◌, ◌≡◌, ◌≢◌}
use Rattle.model.specs.declared.event.Answer as answers
use Rattle.model.specs.declared.event.Event.{Event}
use Rattle.model.specs.declared.event.Event.TheVariants.{Begun, Finished}
use Rattle.model.specs.declared.event.Start.{Start}
use Rattle.model.specs.declared.families.Flight.{Flight}
use Rattle.model.specs.Turns.{ending_of}
use Rattle.std.specs.Prelude.{slice_index}
use Rattle.steps.specs.declared.ask.After as steps
use Rattle.pages.specs.Handed.{HandedReading, handed, handed_after, handed_with, seen, told}
use Rattle.pages.specs.Machine as machine
use Rattle.pages.proofs.Relates.{Pairing, went}

module _ {Call Answer Item : Type 0} (read : HandedReading Call Answer Item) where
  -- what is told of two runs of events, one behind the other, is what is told of the one and then of the other
  told_more : (before es more : List (Event ℕ)) → told read before (es ++ more) ≡ told read before es ++ told read (before ++ es) more
  told_more before [] more = ap (λ b. told read b more) (sym (append-nil before))
  told_more before (e ∷ es) more =
      ap (λ h. seen read before e ++ h)
      (told_more (before ++ e ∷ []) es more
      ∙ ap (λ b. told read (before ++ e ∷ []) es ++ told read b more) (append_assoc before (e ∷ []) es))
      ∙ sym (append_assoc (seen read before e) (told read (before ++ e ∷ []) es) (told read (before ++ e ∷ es) more))

  handed_more : (q : ℕ) (events es : List (Event ℕ)) → handed read q (events ++ es) ≡ fold (handed_after read q) (handed read q events) es
  handed_more q events es = fold-append (handed_after read q) [] events es

  -- a step writes these events, tells nothing by them, and hands these items out
  pub record Writes (p : ℕ) (wrote : List (Event ℕ)) (items : List Item) : Type 0 where
    pub quiet : (before : List (Event ℕ)) → told read before wrote ≡ []
    pub own : (acc : List Item) → fold (handed_after read p) acc wrote ≡ acc ++ items
    pub others : (q : ℕ) (acc : List Item) → q ≢ p → fold (handed_after read q) acc wrote ≡ acc

  -- the end is no event that hands out
  abbrev pub EndsQuiet : Type 0
  EndsQuiet = (p : ℕ) (start : Start ℕ) (answer : answers.Answer ℕ) → read.item (Finished p start answer) ≡ None

module _ {Call Stage Answer Item : Type 0} (of : machine.Structure Call Stage Answer) (read : HandedReading Call Answer Item)
    (HandsAt : Stage → List Item → Type 0)
  where
    -- A pending call has handed out what its stage says.
    abbrev pub Hands : Option Stage → List Item → Type 0
    Hands None items = Unit {0}
    Hands (Some stage) items = HandsAt stage items

    -- The page's history is what is told of the model's events, and each party's pending call has
    -- handed out what its stage says.
    pub record IsRead (events : List (Event ℕ)) (w : machine.World Call Stage Answer) : Type 0 where
      pub history : told read [] events ≡ w.history
      pub hands : (p : ℕ) → Hands (w.pending p) (handed read p events)

    -- what a step comes to, which leaves this handed out
    abbrev pub Reads : (Answer → answers.Answer ℕ) → List Item → machine.After Stage Answer → Type 0
    Reads answered items (machine.GoOn next) = HandsAt next items
    Reads answered items (machine.Done answer) = read.answer items (answered answer) ≡ answer

-- the events read as the page's world (`is_read`), and the machine goes on
module _ {Call Stage Answer Item : Type 0} {of : machine.Structure Call Stage Answer} {read : HandedReading Call Answer Item}
    {HandsAt : Stage → List Item → Type 0} {events : List (Event ℕ)} {w : machine.World Call Stage Answer} (is_read : IsRead of read HandsAt events w)
  where
    -- if one party comes to a stage that has handed these items out, and no other party hands anything out,
    -- each party's stage has its items
    hands_put : (p : ℕ) (o : Option Stage) (es : List (Event ℕ)) → Hands of read HandsAt o (handed read p (events ++ es))
        → ((q : ℕ) → q ≢ p → handed read q (events ++ es) ≡ handed read q events)
        → (q : ℕ) → Hands of read HandsAt (machine.put p o w.pending q) (handed read q (events ++ es))
    hands_put p o es own others q = go (q == p) refl
      where
        go : (b : Bool) → (q == p) ≡ b → Hands of read HandsAt (cond b o (w.pending q)) (handed read q (events ++ es))
        go true t = let same : p ≡ q = grind (arith, nat_tests) in subst (λ q. Hands of read HandsAt o (handed read q (events ++ es))) same own
        go false t =
            let other : q ≢ p = grind (arith, nat_tests) in
            subst (Hands of read HandsAt (w.pending q)) (sym (others q other)) (is_read.hands q)

    -- as a call is invoked the page reads one invocation more, and nothing is handed out by it
    pub begins : (p : ℕ) {call : Call} (start : Start ℕ) → read.call start ≡ call → HandsAt (of.first call) []
        → IsRead of read HandsAt (events ++ Begun p start ∷ []) (machine.begun of w p call true None)
    begins p {call} start is first =
        record {
          history = told_more read [] events (Begun p start ∷ []) ∙ (ap (λ h. h ++ machine.Invoked p (read.call start) ∷ []) is_read.history
              ∙ ap (λ c. w.history ++ machine.Invoked p c ∷ []) is);
          hands = hands_put p (Some (of.first call)) (Begun p start ∷ [])
              (subst (HandsAt (of.first call)) (sym (handed_more read p events (Begun p start ∷ []) ∙ emptied (handed read p events))) first)
              (λ q ne. handed_more read q events (Begun p start ∷ []) ∙ left q ne (handed read q events));
        }
      where
        emptied : (acc : List Item) → cond (p == p) [] acc ≡ []
        emptied acc = let is_same : (p == p) ≡ true = grind (arith, nat_tests) in rw is_same refl

        left : (q : ℕ) → q ≢ p → (acc : List Item) → cond (p == q) [] acc ≡ acc
        left q ne acc = let is_other : (p == q) ≡ false = grind (arith, nat_tests) in rw is_other refl

    -- a step that writes these events leads the page to where the call goes: to a stage, with the items handed out, or
    -- to its response
    pub steps_on : {Room : Type 0} → (pairing : Pairing ℕ Room of) {p : ℕ} {wrote : List (Event ℕ)} {items : List Item}
        → EndsQuiet read → Writes read p wrote items → (stage : Stage) (room : Room)
        → Reads of read HandsAt pairing.answered (handed read p events ++ items) ((of.does stage).2 (slice_index w.words (of.does stage).0))
        → {z : steps.After (Flight ℕ) (answers.Answer ℕ)}
        → z ≡ went (pairing.flight room) pairing.answered ((of.does stage).2 (slice_index w.words (of.does stage).0))
        → IsRead of read HandsAt (events ++ (wrote ++ ending_of p (pairing.start (pairing.call_at stage)) (answer_in z))) (machine.stepped of w p (Some stage))
    steps_on pairing {p} {wrote} {items} quiet writes stage room reads is =
        subst (λ z. IsRead of read HandsAt (events ++ (wrote ++ ending_of p (pairing.start (pairing.call_at stage)) (answer_in z)))
        (machine.stepped of w p (Some stage))) (sym is) (by _ ((of.does stage).2 (slice_index w.words (of.does stage).0)) reads)
      where
        now : handed read p (events ++ wrote) ≡ handed read p events ++ items
        now = handed_more read p events wrote ∙ writes.own (handed read p events)

        others : (q : ℕ) → q ≢ p → handed read q (events ++ wrote) ≡ handed read q events
        others q ne = handed_more read q events wrote ∙ writes.others q (handed read q events) ne

        -- the cases are whether the call goes on or is done
        by : (words : List ℕ) (a : machine.After Stage Answer) → Reads of read HandsAt pairing.answered (handed read p events ++ items) a
            → IsRead of read HandsAt
            (events ++ (wrote ++ ending_of p (pairing.start (pairing.call_at stage)) (answer_in (went (pairing.flight room) pairing.answered a))))
            (machine.gone of w p words a)
        by words (machine.GoOn next) hands =
            subst (λ es. IsRead of read HandsAt (events ++ es) (machine.gone of w p words (machine.GoOn next))) (sym (append-nil wrote))
            (record {
              history =
                  told_more read [] events wrote
                  ∙ (ap (λ h. told read [] events ++ h) (writes.quiet events) ∙ (append-nil (told read [] events) ∙ is_read.history));
              hands = hands_put p (Some next) wrote (subst (HandsAt next) (sym now) hands) others;
            })
        by words (machine.Done answer) is_answer =
            let start = pairing.start (pairing.call_at stage) in
            let end = Finished p start (pairing.answered answer) ∷ [] in
            record {
              history = told_more read [] events (wrote ++ end)
                  ∙ (ap (λ h. h ++ told read events (wrote ++ end)) is_read.history
                  ∙ ap (λ h. w.history ++ h) (told_more read events wrote end
                  ∙ (ap (λ h. h ++ told read (events ++ wrote) end) (writes.quiet events)
                  ∙ ap (λ b. machine.Responded p b ∷ []) (ap (λ xs. read.answer xs (pairing.answered answer)) now ∙ is_answer))));
              hands = hands_put p None (wrote ++ end) tt
                  (λ q ne. ap (handed read q) (sym (append_assoc events wrote end))
                  ∙ (handed_more read q (events ++ wrote) end
                  ∙ (ap (λ o. handed_with read q (handed read q (events ++ wrote)) o) (quiet p start (pairing.answered answer)) ∙ others q ne)));
            }
