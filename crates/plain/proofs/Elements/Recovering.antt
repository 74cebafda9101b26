-- A recovery of a container with its closure, from one question to the next: what the closure was asked, and
-- that it may be asked about the next value.
use Rattle.std.proofs.Common.{◌≡◌, ◌≢◌, ℕ, suc, ◌+◌, ◌-◌, ◌^◌, ◌<◌, ◌≤◌, Bool, true, false, ◌==◌, nat_lt}
use Rattle.std.proofs.Common.{if◌then◌else◌, List, [], ◌∷◌, ◌++◌, length, filter, None, refl, sym, ap, subst, ◌∙◌}
use Rattle.std.proofs.Common.{arith, slice_index, slice_set, length-set, get_or-set_other, eq-eqb}
use Rattle.std.specs.Prelude.{slice_index_or}
use Rattle.plain.proofs.Names.{FoldsTo, append_assoc, append-nil, length-drop, drop-set-lt, fold-append, count_word}
use Rattle.plain.proofs.Names.{Want, After, GoOn, Done, Question, ReleaseMode, ReleaseState}
use Rattle.steps.specs.Copied.{value_in}
use Rattle.steps.specs.Indices.Robust.Parts.{empty, locked}
use Rattle.steps.specs.Container.Recover.{first_recover, recover_want, recover_after, recover_kept}
use Rattle.steps.specs.Objects.Owners.{Owners, Owned, taken, state_of, given_back}
use Rattle.steps.specs.declared.container.recover.Recover.{Recover}
use Rattle.steps.specs.declared.container.recover.RecoverStage.{RecoverStage}
use Rattle.steps.specs.declared.container.recover.RecoverStage.TheVariants as recovers
use Rattle.steps.specs.declared.container.recover.DeadOwner.{DeadOwner}
use Rattle.plain_queues.specs.declared.drive.Stop.{Stop}
use Rattle.plain_queues.specs.declared.drive.Stop.TheVariants as stops
use Rattle.plain_queues.specs.Alone.{CanStop, StopsAlike}
use Rattle.plain.specs.Callable.{Asked, questions, agreed, asks, TakesQuestions}
use Rattle.plain.specs.Robust.{owners_in}
use Rattle.plain.specs.Contents.{Contents, contents_in, Holds}
use Rattle.plain.specs.Visited.{Stands, to_ask, MayAsk, Says, freed, all_freed, one_change, HasRecovered}
use Rattle.plain_queues.proofs.Alone.{Halts, can_stop, stops_so}
use Rattle.plain.proofs.Walks.{plus, plus_sum}
use Rattle.plain.proofs.Rooms.{Apart, halts_both}
use Rattle.plain.proofs.Robust.Releases.{counter_then, given_back_is}
use Rattle.plain.proofs.Found.{folds_more}
use Rattle.plain.proofs.Robust.Recovering.{locked_leaves, an_answer, questions_more, agreed_no, agreed_yes}
use Rattle.plain.proofs.Elements.Finds.{Ready, counter, cells, cells_long, front}
use Rattle.plain.proofs.Elements.Frees.{counter_low}
use Rattle.plain_queues.proofs.Words.{Room}
use Rattle.plain.proofs.Elements.Recovers.{Recovery, of_owner, AsksAt, StopsAt, recovers_on, begin_walk, frees_on}

-- A recovery with its closure: how values are read, the container and its words as the recovery began, the dead
-- owner and the mode, and the closure.
pub record RecoverCase (V R F : Type 0) : Type 1 where
  -- a value by its words, the room into which these are read, and how many they are
  pub value_of : List ℕ → V
  pub as_room : Room R
  pub size : ℕ
  pub capacity : ℕ
  pub container : ℕ
  pub owner : ℕ
  pub mode : ReleaseMode
  pub words : List ℕ
  -- what a question about a value with this answer makes of the closure, and the closure at first
  pub step : F → V → Bool → F → Type 0
  pub first : F

module _ {V R F : Type 0} (case : RecoverCase V R F) where
  open case use {value_of, as_room, as_room.{words_in, with_word}, size, capacity, container, owner, mode, words, step, first}

  -- what the recovery is given
  abbrev given : DeadOwner
  given = record { owner = owner; mode = mode }

  -- what the recovery asks for
  abbrev want : Recover V R → DeadOwner → Want (Unit {0})
  want = recover_want size

  -- the room after an answer
  abbrev kept : Recover V R → R → ℕ → R
  kept = recover_kept with_word

  -- the contents of the words
  abbrev read : List ℕ → Contents V
  read ws = contents_in value_of size capacity container ws

  -- the contents before the recovery
  abbrev old : Contents V
  old = read words

  -- the indices that the recovery is to ask about
  abbrev all : List Owned
  all = to_ask old owner

  -- what a recovery needs to begin
  abbrev Begun : Type 0
  Begun = Ready value_of size capacity container owner words

  -- the recovery alone, once it may begin
  abbrev alone : Begun → Recovery V R
  alone ready =
      record {
        value_of = value_of;
        as_room = as_room;
        size = size;
        some = ready.some;
        wide = ready.wide;
        capacity = capacity;
        container = container;
        owner = owner;
        lives = ready.lives;
        mode = mode;
      }

  -- the recovery stops at the first of the indices that are left, at no index below `from`, or at its end,
  -- with contents s
  abbrev RecoveryStopsAt : Begun → Contents V → ℕ → List Owned → Stop (Recover V R × R) (ReleaseState × R) → List ℕ → Type 0
  RecoveryStopsAt ready s from left stop last = StopsAt (alone ready) s from left stop last

  -- The recovery is under way: the closure has answered the questions of `asked`, and those of `left` are
  -- left, at no index below `from`. The contents s are those before with the indices of a yes freed, and
  -- where the call stops next they are the contents of the words.
  pub record Recovering (ready : Begun) (done : ℕ) (call : Recover V R) (room : R) (p : F) (items : List ℕ) : Type 0 where
    -- the contents at the next stop, and the index from which on it asks
    pub s : Contents V
    pub from : ℕ
    -- the questions that are left and those that were answered: together all that the recovery is to ask
    pub left : List Owned
    pub asked : List Asked
    pub joined : questions asked ++ left ≡ all
    -- the closure's answers, and the contents: those before with the indices of a yes freed, and unchanged
    -- from `from` on
    pub answers : FoldsTo (asks (Says step old)) first asked p
    pub s_is : s ≡ all_freed mode old (agreed asked)
    pub same : (j : ℕ) → from ≤ j → slice_index_or s.values j None ≡ slice_index_or old.values j None
    -- nothing is left once the set is locked
    pub shut : s.owners.generation ≡ locked → left ≡ []
    pub low : done ≤ from
    pub high : from ≤ capacity
    -- where the call halts next
    pub run : Halts want (recover_after size) kept given (Apart (RecoveryStopsAt ready s from left)) call room items

  -- what a step has answered: the recovery is under way; it does not end before a further step
  abbrev Onward : Begun → ℕ → After (Recover V R) ReleaseState → R → F → List ℕ → Type 0
  Onward ready done (GoOn call) room p items = Recovering ready done call room p items
  Onward ready done (Done state) room p items = ⊥

  -- what holds at the end: the words are those of a container, the answer is its state, and the closure was
  -- called as `HasRecovered` says
  pub record Gone (state : ReleaseState) (p : F) (last : List ℕ) : Type 0 where
    pub fit : Holds value_of size capacity container last
    pub state_is : state ≡ state_of (read last).owners
    pub calls : HasRecovered step owner mode old (read last) first p

  -- a recovery that begins has asked nothing yet
  begins : (ready : Begun) (room : R) → size ≤ length (words_in room) → Recovering ready 0 (first_recover capacity) room first words
  begins ready room long =
      let size_is = cells_long value_of container ready.holds in
      let few = ready.holds.0.few in
      let wide = ready.wide in
      let its_cells : List ℕ = cells value_of container ready.holds in
      record {
        s = old;
        from = 0;
        left = all;
        asked = [];
        joined = refl;
        answers = refl;
        s_is = refl;
        same = λ j l. refl;
        shut = λ e. ap (λ b. filter (λ (o : Owned). o.owner == owner) (if b then [] else taken old.owners)) (eq-eqb old.owners.generation locked e);
        low = omega arith;
        high = omega arith;
        -- the call halts at the owner's first index, or at its end
        run =
            halts_both
            (suc (plus (suc (suc (suc (length its_cells)))) (suc (suc (suc (suc (size - 1))))))) (RecoveryStopsAt ready old 0 all)
            (omega (arith, plus_sum (suc (suc (suc (length its_cells)))) (suc (suc (suc (suc (size - 1)))))))
            (begin_walk (alone ready) ready.holds room long);
      }

  -- ---- at a question

  -- The recovery is under way and has stopped at a question; `value` is the value that its room has.
  module _ {ready : Begun} {done : ℕ} {call : Recover V R} {room₀ : R} {p : F} {items : List ℕ} (so_far : Recovering ready done call room₀ p items)
      {put : Recover V R} {room : R} {last : List ℕ} (stopped : AsksAt (alone ready) so_far.s so_far.from so_far.left put room last)
      {value : V} (value_is : value ≡ value_in value_of size (words_in room)) where
    -- the index that the question is about, with its owner
    abbrev it : Owned
    it = record { owner = owner; index = stopped.index }

    -- the indices that are left after it
    abbrev left_then : List Owned
    left_then = of_owner owner (stopped.index + 1) stopped.rest

    -- the cells of the owners
    abbrev its_cells : List ℕ
    its_cells = cells value_of container stopped.holds

    -- the counter of the set
    abbrev g : ℕ
    g = counter value_of container stopped.holds

    -- the questions so far, this one and those left are all that the recovery is to ask
    asked_so : questions so_far.asked ++ it ∷ left_then ≡ all
    asked_so = ap (λ l. questions so_far.asked ++ l) (sym stopped.left_is) ∙ so_far.joined

    -- the questions with this one answered and those left are all that the recovery is to ask
    joined_then : (b : Bool) → questions (so_far.asked ++ an_answer it b ∷ []) ++ left_then ≡ all
    joined_then = grind (arith, questions_more, append_assoc, questions, asked_so)

    -- the value that the room has stood at the index before the recovery
    stood : Stands old stopped.index (value_in value_of size (words_in room))
    stood = sym (so_far.same stopped.index stopped.low) ∙ stopped.copied

    -- the closure may be asked about the value that the room has
    pub may_ask : (pre : F → V → Type 0) → TakesQuestions (MayAsk pre old) (Says step old) all first → pre p value
    may_ask = grind (arith, asked_so, value_in, stood)

    -- with this answer the closure has answered one question more
    answers_then : (b : Bool) (q : F) → step p value b q → FoldsTo (asks (Says step old)) first (so_far.asked ++ an_answer it b ∷ []) q
    answers_then = grind (arith, folds_more, asks, value_in, stood)

    -- the owners of the contents are those of counter and cells
    owners_are : so_far.s.owners ≡ owners_in (g ∷ its_cells)
    owners_are = grind (arith, front)

    -- at a question the container is not locked
    opens : g ≢ locked
    opens = grind (arith, owners_are, length, suc)

    -- the cells left are at most as many as the capacity
    short : length stopped.rest ≤ capacity
    short =
        omega (arith, length-drop (stopped.index + 1) its_cells, ap length stopped.rest_is, cells_long value_of container stopped.holds)

    -- the stage after a no: the load of the next cell, or of the counter after the last
    abbrev next_stage : RecoverStage
    next_stage =
        if nat_lt (stopped.index + 1) capacity then recovers.LoadsCell (stopped.index + 1) else recovers.LoadsCounterAgain

    -- after a no the recovery is under way with one question more, and the contents stay
    on_no : (q : F) → step p value false q → Recovering ready (done + 1) (record { capacity = capacity; stage = next_stage; of = record {} }) room q last
    on_no q called =
        let far = short in
        let few = stopped.holds.0.few in
        let wide = ready.wide in
        let low = so_far.low in
        let from = stopped.low in
        let near = stopped.near in
        record {
          s = so_far.s;
          from = stopped.index + 1;
          left = left_then;
          -- the question that was answered is behind those before it
          asked = so_far.asked ++ an_answer it false ∷ [];
          joined = joined_then false;
          answers = answers_then false q called;
          -- a no frees nothing, so the contents stay
          s_is = so_far.s_is ∙ ap (all_freed mode old) (sym (agreed_no so_far.asked it));
          same = λ j l. so_far.same j (omega arith);
          shut = λ e. absurd (opens (sym (ap (λ (o : Owners). o.generation) owners_are) ∙ e));
          low = omega arith;
          high = omega arith;
          -- the recovery goes on to the next question or to its end, over the same words
          run =
              halts_both
              (plus (suc (suc (suc (length stopped.rest)))) (suc (suc (suc (suc (size - 1))))))
              (RecoveryStopsAt ready so_far.s (stopped.index + 1) left_then)
              (omega (arith, plus_sum (suc (suc (suc (length stopped.rest)))) (suc (suc (suc (suc (size - 1)))))))
              (recovers_on (alone ready) stopped.holds stopped.is (stopped.index + 1) stopped.rest (stopped.index + 1)
              (record { rest_is = stopped.rest_is; left_is = refl; low = omega arith }) room stopped.roomy);
        }

    -- the cells with this one emptied
    abbrev gone : List ℕ
    gone = slice_set its_cells stopped.index empty

    -- the generation once the index is given back
    generation_then : (given_back mode so_far.s.owners stopped.index).generation ≡ counter_then mode g gone
    generation_then = grind (arith, given_back, owners_are, given_back_is)

    -- where giving the index back locks the set, nothing is left to ask about
    shut_then : (given_back mode so_far.s.owners stopped.index).generation ≡ locked → left_then ≡ []
    shut_then locks =
        ap (of_owner owner (stopped.index + 1))
        (sym stopped.rest_is ∙ sym
        (drop-set-lt (stopped.index + 1) its_cells stopped.index empty (let l : stopped.index < stopped.index + 1 = omega arith in l)))
        ∙ ap (filter (λ (o : Owned). o.owner == owner))
        (locked_leaves mode g gone (stopped.index + 1) (stopped.index + 1) (counter_low value_of container stopped.holds) opens
        (sym generation_then ∙ locks))

    -- the stage after a yes: the exchange of the cell to empty
    abbrev emptying : RecoverStage
    emptying = recovers.EmptiesCell stopped.index (slice_index last (count_word capacity stopped.index))

    -- after a yes the recovery is under way with one question more, and goes on to empty the cell
    on_yes : (q : F) → step p value true q → Recovering ready (done + 1) (record { capacity = capacity; stage = emptying; of = record {} }) room q last
    on_yes q called =
        let far = short in
        let few = stopped.holds.0.few in
        let wide = ready.wide in
        let low = so_far.low in
        let from = stopped.low in
        let near = stopped.near in
        let set = length-set its_cells stopped.index empty in
        let size_is = cells_long value_of container stopped.holds in
        record {
          s = freed mode so_far.s stopped.index;
          from = stopped.index + 1;
          left = left_then;
          -- the question that was answered is behind those before it
          asked = so_far.asked ++ an_answer it true ∷ [];
          joined = joined_then true;
          answers = answers_then true q called;
          -- a yes frees the index: the contents are those before without it
          s_is = ap (λ c. freed mode c stopped.index) so_far.s_is
              ∙ (sym (fold-append (λ c (o : Owned). freed mode c o.index) old (agreed so_far.asked) (it ∷ []))
              ∙ ap (all_freed mode old) (sym (agreed_yes so_far.asked it)));
          -- the values from the next index on are as before
          same = λ j l. get_or-set_other so_far.s.values stopped.index j None None (λ e. absurd (omega arith)) ∙ so_far.same j (omega arith);
          shut = shut_then;
          low = omega arith;
          high = omega arith;
          -- the recovery empties the cell, frees its value, and goes on to the next question or to its end
          run = halts_both
              (suc (suc (plus 2 (plus (plus (suc (suc (suc (length gone)))) 1)
              (plus (suc (suc (suc (length stopped.rest)))) (suc (suc (suc (suc (size - 1))))))))))
              (RecoveryStopsAt ready (freed mode so_far.s stopped.index) (stopped.index + 1) left_then)
              (let c = plus_sum (plus (suc (suc (suc (length gone)))) 1) (plus (suc (suc (suc (length stopped.rest)))) (suc (suc (suc (suc (size - 1)))))) in
              let d =
              plus_sum 2 (plus (plus (suc (suc (suc (length gone)))) 1)
              (plus (suc (suc (suc (length stopped.rest)))) (suc (suc (suc (suc (size - 1))))))) in
              omega (arith, plus_sum (suc (suc (suc (length stopped.rest)))) (suc (suc (suc (suc (size - 1))))), plus_sum (suc (suc (suc (length gone)))) 1))
              (frees_on (alone ready) stopped.holds stopped.is stopped.index stopped.near stopped.owns opens stopped.rest_is room stopped.roomy);
        }

    -- after the question was answered the recovery is under way with one question more
    onward : (said : Bool) (q : F) → step p value said q → Onward ready (done + 1) (recover_after size put given (if said then 1 else 0)) room q last
    onward = grind (arith, on_no, on_yes)

  -- ---- as the driver holds it

  -- a recovery over these words has begun as it may, and is under way
  pub record Searching (done : ℕ) (call : Recover V R) (room : R) (p : F) (items : List ℕ) : Type 0 where
    pub ready : Begun
    pub recovering : Recovering ready done call room p items

  -- what an answer has led to: the recovery is under way; it does not end before a further step
  abbrev pub Further : ℕ → After (Recover V R) ReleaseState → R → F → List ℕ → Type 0
  Further done (GoOn call) room p items = Searching done call room p items
  Further done (Done state) room p items = ⊥

  -- a recovery that has taken no step is under way
  pub starts : (call : Recover V R) → call ≡ first_recover capacity → (room : R) → size ≤ length (words_in room)
      → Begun → Searching 0 call room first words
  starts call at_first room long ready =
      subst (λ c. Searching 0 c room first words) (sym at_first) (record { ready = ready; recovering = begins ready room long })

-- A recovery that a driver holds: the closure has answered `done` questions, and is `p` as these have left it.
module _ {V R F : Type 0} {case : RecoverCase V R F} {done : ℕ} {call : Recover V R} {room₀ : R} {p : F} {items : List ℕ}
    (so_far : Searching case done call room₀ p items) where
  open case use {value_of, as_room.{words_in}, size, owner, step, first}
  open so_far use {ready, recovering}

  -- a recovery under way can stop
  pub can_go : CanStop (want case) (recover_after size) (kept case) (given case) call room₀ items
  can_go = can_stop recovering.run

  -- this is the stop of the recovery, whatever steps a driver has taken to it
  abbrev StopsSo : Stop (Recover V R) ReleaseState → R → List ℕ → Type 0
  StopsSo stop room last = StopsAlike (want case) (recover_after size) (kept case) (given case) call room₀ items stop room last

  -- where a driver has brought a recovery under way to a stop, it is one of those that `RecoveryStopsAt` says
  pub stops_at : {stop : Stop (Recover V R) ReleaseState} {room : R} {last : List ℕ} → StopsSo stop room last
      → Apart (RecoveryStopsAt case ready recovering.s recovering.from recovering.left) stop room last
  stops_at alike = stops_so recovering.run alike

  -- a recovery under way that a driver has brought to its end has done all that it says
  pub ended_so : {state : ReleaseState} {room : R} {last : List ℕ} → StopsSo (stops.Ended state) room last → Gone case state p last
  ended_so = grind (arith, stops_at, append-nil, questions, one_change)

  -- a recovery asks fewer than 2^64 - 1 questions
  pub few_rounds : done < 2 ^ 64 - 1
  few_rounds = omega (arith, recovering.low, recovering.high, ready.holds.0.few)

  -- A driver has brought the recovery to a question; `value` is the value that the room has.
  module _ {question : Question (Unit {0})} {put : Recover V R} {room : R} {last : List ℕ}
      (alike : StopsSo (stops.Asked question put) room last)
      {value : V} (value_is : value ≡ value_in value_of size (words_in room)) where
    -- the closure may be asked about the value
    pub may_so : (pre : F → V → Type 0) → TakesQuestions (MayAsk pre (old case)) (Says step (old case)) (all case) first → pre p value
    may_so = may_ask case recovering (stops_at alike) value_is

    -- `Onward` of a recovery that has begun is `Further`
    further : (a : After (Recover V R) ReleaseState) (q : F) → Onward case ready (done + 1) a room q last → Further case (done + 1) a room q last
    further (GoOn d) q on_it_goes = record { ready = ready; recovering = on_it_goes }
    further (Done state) q on_it_goes = on_it_goes

    -- the call was handed the closure's answer as a number: this is what it has led to, and the room then
    pub record IsHanded (said : Bool) (b : After (Recover V R) ReleaseState) (later : R) : Type 0 where
      pub answer : ℕ
      pub answer_is : answer ≡ (if said then 1 else 0)
      pub goes : b ≡ recover_after size put (given case) answer
      pub keeps : later ≡ kept case put room answer

    -- after the question was answered and the call was handed the answer as a number, the
    -- recovery is under way
    pub further_so : (said : Bool) (q : F) → step p value said q → {b : After (Recover V R) ReleaseState} {later : R}
        → IsHanded said b later → Further case (done + 1) b later q last
    further_so said q called {b} {later} handed =
        let at = stops_at alike in
        subst (λ z. Further case (done + 1) z later q last) (sym (handed.goes ∙ ap (recover_after size put (given case)) handed.answer_is))
        (subst (λ r. Further case (done + 1) (recover_after size put (given case) (if said then 1 else 0)) r q last)
        (sym (handed.keeps ∙ ap (λ c. kept case c room handed.answer) at.stands))
        (further (recover_after size put (given case) (if said then 1 else 0)) q (onward case recovering at value_is said q called)))

-- `TakesQuestions` of the values of one container is that of equal contents
pub questions_at : {V F : Type 0} (pre : F → V → Type 0) (step : F → V → Bool → F → Type 0) (owner : ℕ) {a b : Contents V} {f : F}
    → a ≡ b → TakesQuestions (MayAsk pre a) (Says step a) (to_ask a owner) f → TakesQuestions (MayAsk pre b) (Says step b) (to_ask b owner) f
questions_at {V} {F} pre step owner {a} {b} {f} same takes_questions =
    subst (λ (z : Contents V). TakesQuestions (MayAsk pre z) (Says step z) (to_ask z owner) f) same takes_questions

-- `HasRecovered` of one container is that of equal contents
pub recovered_at : {V F : Type 0} (step : F → V → Bool → F → Type 0) {a b new : Contents V} {owner : ℕ} {mode : ReleaseMode} {f last : F}
    → a ≡ b → HasRecovered step owner mode a new f last → HasRecovered step owner mode b new f last
recovered_at {V} {F} step {a} {b} {new} {owner} {mode} {f} {last} same recovered =
    subst (λ (z : Contents V). HasRecovered step owner mode z new f last) same recovered
