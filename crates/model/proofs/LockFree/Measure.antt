-- From a measure of each call to a bound of the steps between two ends.
use Rattle.model.proofs.Names.{After, Answer, Ask, Begin, Bool, Die, Flight, GoOn, Going, List, None, Option, length}
use Rattle.model.proofs.Names.{Party, Refusal, Registry, Some, Start, Step, Trace, Turn, World, after_step, after_turn}
use Rattle.model.proofs.Names.{answer_in, ap, arith, ask_of, change_of, doing_after, doing_of}
use Rattle.model.proofs.Names.{ending_of, ends, events_of_step, flight_in, flight_of, is_question, kept_after_begin}
use Rattle.model.proofs.Names.{kept_after_death, number_of, old_of, party_after, party_of, refl, step_count, step_in}
use Rattle.model.proofs.Names.{stretch, true, want_of, words_after, ℕ, ⊎_elim, ◌*◌, ◌+◌, ◌-◌}
use Rattle.model.proofs.Names.{◌∙◌, ◌≡◌, ◌≢◌, ◌≤◌, ◌⊎◌}
use Rattle.steps.specs.declared.ask.After.TheVariants.{Done}
use Rattle.model.proofs.Counts.{steps_small}
use Rattle.model.proofs.Parties.{party_put_same, party_put_other, each_by}
use Rattle.model.proofs.LockFree.Stays.{IsUnder}
use Rattle.model.proofs.LockFree.Weighed.{ended_more}
use Rattle.model.specs.LockFree.{IsOneIn}
use Rattle.model.proofs.LockFree.Sums.{sum_over, sum_le, sum_falls, sum_rises, sum_most}

-- more of them are worth more
pub worth : (fewer more each : ℕ) → fewer ≤ more → fewer * each ≤ more * each
worth fewer more each le = let rest : more ≡ fewer + (more - fewer) = omega arith in rw rest (spread fewer (more - fewer) each)
  where
    -- A number times `each` is at most a greater number times `each`.
    spread : (a b each : ℕ) → a * each ≤ (a + b) * each
    spread = omega arith

-- what is said of each call under way, in these words and by what is kept beside them
pub record Measure (T : Type 0) : Type 0 where
  pub left : List ℕ → Registry T → Flight T → ℕ  -- how many steps it takes at most before its last one, while no other call adds to them
  pub pays : Flight T → ℕ  -- how many changes it makes at most that can add to the steps of others, before its last step
  pub alone : ℕ  -- no call has more steps left
  pub changes : ℕ  -- and none has more such changes to make

-- one to which nothing counts but the words
pub record WordMeasure (T : Type 0) : Type 0 where
  pub left : List ℕ → Flight T → ℕ
  pub pays : Flight T → ℕ
  pub alone : ℕ
  pub changes : ℕ

abbrev pub of_words : {T : Type 0} → WordMeasure T → Measure T
of_words M = record { left = λ words kept flight. M.left words flight; pays = M.pays; alone = M.alone; changes = M.changes }

module _ {T : Type 0} (M : Measure T) where
  -- these words, with this beside them, leave the call no more steps
  abbrev pub Leaves : World T → List ℕ → Registry T → Flight T → Type 0
  Leaves w new now flight = M.left new now flight ≤ M.left w.words w.kept flight

  -- with these words and this registry no call of another party has more steps left than before
  abbrev pub Harmless : World T → ℕ → List ℕ → Registry T → Type 0
  Harmless w p new now = (q : ℕ) → q ≢ p → (other : Flight T) → flight_in w q ≡ Some other → Leaves w new now other

  -- With its step a call that goes on has a step less to take. Either it gives no other call more steps, or
  -- it has a change less to make.
  abbrev pub Falls : World T → ℕ → List ℕ → Registry T → ℕ → Flight T → Flight T → Type 0
  Falls w p new now steps was next =
      (M.left new now next + steps ≤ M.left w.words w.kept was)
      × ((Harmless w p new now × (M.pays next ≤ M.pays was)) ⊎ (M.pays next + 1 ≤ M.pays was))

  -- A step of the call that goes on makes it fall as `Falls` says.
  abbrev pub FallsBy : World T → ℕ → Party T → Flight T → Option Ask → ℕ → Type 0
  FallsBy w p x flight ask answer =
      (next : Flight T) → (step_in w p x flight answer).after ≡ GoOn next
      → Falls w p (words_after w.words ask) (step_in w p x flight answer).kept (step_count ask) flight next

  -- The operation that a call under way asks for, if any.
  abbrev pub asked : World T → Flight T → Option Ask
  asked w flight = ask_of (want_of w.coding flight)

  -- What a family owes, of the machines of which P holds, and of turns of which May holds and that are
  -- not refused: P stays true (`keeps`), the measure is bounded (`most`), a begin and a death give no
  -- other call more steps (`begins`, `dies`), and with a step or a decision the measure of the call
  -- falls (`step`, `decision`).
  pub record Owed (refuses : World T → Turn T → Option Refusal) (P : Trace T → Type 0) (May : Turn T → Type 0) : Type 0 where
    pub keeps : (t : Trace T) (turn : Turn T) → refuses t.world turn ≡ None → May turn → P t → P (after_turn t turn)
    pub most : (t : Trace T) → P t → (p : ℕ) (flight : Flight T) → flight_in t.world p ≡ Some flight
        → (M.left t.world.words t.world.kept flight ≤ M.alone) × (M.pays flight ≤ M.changes)
    pub begins : (t : Trace T) → P t → (p : ℕ) (start : Start T) → refuses t.world (Begin p start) ≡ None → May (Begin p start)
        → Harmless t.world p t.world.words (kept_after_begin t.world.coding t.world.capacity start p t.world.kept)
    pub dies : (t : Trace T) → P t → (owner : ℕ) → refuses t.world (Die owner) ≡ None → May (Die owner)
        → (q : ℕ) (other : Flight T) → flight_in t.world q ≡ Some other
        → Leaves t.world t.world.words (kept_after_death t.world.kept owner) other
    pub step : (t : Trace T) → P t → (p : ℕ) (x : Party T) (flight : Flight T) (since : ℕ)
        → party_of p t.world.latest ≡ Some x → x.doing ≡ Going flight since
        → FallsBy t.world p x flight (asked t.world flight) (old_of t.world.words (asked t.world flight))
    pub decision : (t : Trace T) → P t → (p : ℕ) (x : Party T) (flight : Flight T) (since : ℕ) (said : Bool)
        → party_of p t.world.latest ≡ Some x → x.doing ≡ Going flight since
        → is_question (want_of t.world.coding flight) ≡ true → FallsBy t.world p x flight None (number_of said)

  -- ---- what the parties of a list have left

  -- How many steps a party's call can take alone, by the measure. A party without a call may begin one, and
  -- has the most.
  abbrev pub left_of : List ℕ → Registry T → Option (Flight T) → ℕ
  left_of words kept None = M.alone
  left_of words kept (Some flight) = M.left words kept flight

  -- How many changes that can cost others a party's call can make. A party without a call may begin one, and
  -- has the most.
  abbrev pub pays_of : Option (Flight T) → ℕ
  pays_of None = M.changes
  pays_of (Some flight) = M.pays flight

  abbrev pub left_at : World T → ℕ → ℕ
  left_at w p = left_of w.words w.kept (flight_in w p)

  abbrev pub pays_at : World T → ℕ → ℕ
  pays_at w p = pays_of (flight_in w p)

  module _ (ps : List ℕ) where
    -- What one change of a word can cost the other parties in steps.
    abbrev pub price : ℕ
    price = (length ps - 1) * M.alone

    -- The weight of a machine: the steps that these parties can take before one of their calls ends.
    abbrev pub weight : World T → ℕ
    weight w = sum_over ps (pays_at w) * price + sum_over ps (left_at w)

    abbrev pub bound : ℕ
    bound = stretch (length ps) M.changes M.alone

    -- No party has more steps to take, or more changes to make, than the measure allows a call.
    pub record IsWithin (w : World T) : Type 0 where
      pub left : (q : ℕ) → left_at w q ≤ M.alone
      pub pays : (q : ℕ) → pays_at w q ≤ M.changes

    -- the weight of a machine is never above the bound
    pub at_most : {w : World T} → IsWithin w → weight w ≤ bound
    at_most {w} within =
        let pays = sum_most ps (pays_at w) M.changes within.pays in
        omega (arith, sum_most ps (left_at w) M.alone within.left, worth (sum_over ps (pays_at w)) (length ps * M.changes) price pays)

    -- ---- one turn

    -- With a turn in which party p has `steps` steps less to take, and no party more, the weight
    -- falls by these steps.
    pub by_left : (old new : World T) (p steps : ℕ) → IsOneIn ps p → ((q : ℕ) → left_at new q ≤ left_at old q) → left_at new p + steps ≤ left_at old p
        → ((q : ℕ) → pays_at new q ≤ pays_at old q) → steps + weight new ≤ weight old
    by_left old new p steps below left here pays =
        let no_more = worth (sum_over ps (pays_at new)) (sum_over ps (pays_at old)) price (sum_le ps (pays_at new) (pays_at old) pays) in
        omega (arith, sum_falls ps (left_at new) (left_at old) p steps below left here)

    -- A step that changes a word may give other parties more steps to take. Its call pays for that with one
    -- of its changes.
    by_change : (old new : World T) (p steps : ℕ) → IsOneIn ps p → ((q : ℕ) → left_at new q ≤ M.alone) → left_at new p + steps ≤ left_at old p
        → ((q : ℕ) → pays_at new q ≤ pays_at old q) → pays_at new p + 1 ≤ pays_at old p → steps + weight new ≤ weight old
    by_change old new p steps below left left_here pays here =
        let less = sum_falls ps (pays_at new) (pays_at old) p 1 below pays here in
        omega (
          arith,
          sum_rises ps (left_at new) (left_at old) p steps M.alone below left left_here,
          worth (sum_over ps (pays_at new) + 1) (sum_over ps (pays_at old)) price less,
        )

    -- what a turn shows
    abbrev pub Shows : World T → World T → ℕ → ℕ → Type 0
    Shows old new steps ended = steps + weight new ≤ weight old + ended * (bound + 1)

    -- an answer by which a call ends, or falls as `FallsBy` says, shows what a turn shows (`Shows`), if all are within the measure then
    pub resumes : (w : World T) (p : ℕ) {flight : Flight T} (u : IsUnder w p flight) (answer : ℕ) (ask : Option Ask) → IsOneIn ps p
        → FallsBy w p u.party flight ask answer → IsWithin (after_step w p u.party u.since ask (step_in w p u.party flight answer))
        → Shows w (after_step w p u.party u.since ask (step_in w p u.party flight answer)) (step_count ask)
        (ends (events_of_step p u.party.start (step_in w p u.party flight answer)))
    resumes w p {flight} u answer ask below falls within = go s.after refl
      where
        x : Party T
        x = u.party

        since : ℕ
        since = u.since

        -- `s` is the step of the party's call.
        s : Step (Flight T) (Registry T) T
        s = step_in w p x flight answer

        new : World T
        new = after_step w p x since ask s

        was : flight_in w p ≡ Some flight
        was = ap (λ o. flight_of (doing_of o)) u.found ∙ ap (λ d. flight_of (Some d)) u.doing

        others : (q : ℕ) → q ≢ p → flight_in new q ≡ flight_in w q
        others q ne = ap (λ o. flight_of (doing_of o)) (party_put_other q p _ w.latest ne)

        here : flight_in new p ≡ flight_of (doing_of (Some (party_after x since w.changes (step_count ask) (change_of w.words ask) s)))
        here = ap (λ o. flight_of (doing_of o)) (party_put_same p _ w.latest)

        goes_on : (next : Flight T) → s.after ≡ GoOn next → Shows w new (step_count ask) (ends (events_of_step p x.start s))
        goes_on next e = ⊎_elim by_less by_pay fell.1
          where
            -- The call has fallen with this step, as `Falls` says.
            fell : Falls w p new.words new.kept (step_count ask) flight next
            fell = falls next e

            now : flight_in new p ≡ Some next
            now = here ∙ ap (λ a. flight_of (Some (doing_after (w.changes + change_of w.words ask) (since + change_of w.words ask) a))) e

            no_less : (q : ℕ) → M.pays next ≤ M.pays flight → pays_at new q ≤ pays_at w q
            no_less q le = each_by (λ q. pays_at new q ≤ pays_at w q) p (rw (now, was) le) (λ q ne. rw (others q ne) (omega arith)) q

            -- If the step harms no other call, each has no more steps to take than before.
            still : (q : ℕ) → q ≢ p → Harmless w p new.words new.kept → (o : Option (Flight T)) → flight_in w q ≡ o
                → left_of new.words new.kept o ≤ left_of w.words w.kept o
            still q ne harmless None flight_is = omega arith
            still q ne harmless (Some other) flight_is = harmless q ne other flight_is

            left_here : left_at new p + step_count ask ≤ left_at w p
            left_here = rw (now, was) fell.0

            -- an answer that harms no other call and leads to less of its own takes its steps off the weight
            by_less : (Harmless w p new.words new.kept × (M.pays next ≤ M.pays flight))
                → Shows w new (step_count ask) (ends (events_of_step p x.start s))
            by_less harmless = omega (arith, by_left w new p (step_count ask) below left_no_less left_here (λ q. no_less q harmless.1))
              where
                -- No party has more steps to take than before.
                left_no_less : (q : ℕ) → left_at new q ≤ left_at w q
                left_no_less =
                    each_by (λ q. left_at new q ≤ left_at w q) p (let here = left_here in omega arith)
                    (λ q ne. rw (others q ne) (still q ne harmless.0 (flight_in w q) refl))

            -- The case that the step pays for what it changes: its call has a change less to make.
            by_pay : M.pays next + 1 ≤ M.pays flight → Shows w new (step_count ask) (ends (events_of_step p x.start s))
            by_pay h =
                let less = by_change w new p (step_count ask) below within.left left_here (λ q. no_less q (omega (arith, h))) (rw (now, was) h) in
                omega arith

        -- a call that goes on pays by its measure, and one that ends pays with its end
        go : (after : After (Flight T) (Answer T)) → s.after ≡ after → Shows w new (step_count ask) (ends (events_of_step p x.start s))
        go (GoOn next) same_after = goes_on next same_after
        go (Done answer) same_after =
            let most = at_most within in
            let one = steps_small ask in
            let more = ended_more s.wrote (ending_of p x.start (answer_in s.after)) in
            let end : ends (ending_of p x.start (answer_in s.after)) ≡ 1 = rw same_after refl in
            let paid = worth 1 (ends (events_of_step p x.start s)) (bound + 1) (omega arith) in
            omega arith
