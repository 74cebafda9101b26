-- A recovery of a robust set with its two closures, from one question to the next: what they were called
-- with, and that they may be called at the next question.
use Rattle.std.proofs.Common.{◌≡◌, ◌≢◌, ℕ, zero, suc, ◌+◌, ◌-◌, ◌^◌, ◌<◌, ◌≤◌, ⊎_elim, Bool, true, false, ◌==◌, not}
use Rattle.std.proofs.Common.{◌&&◌, nat_lt, if◌then◌else◌, List, [], ◌∷◌, ◌++◌, length, drop, map, filter, Option}
use Rattle.std.proofs.Common.{Some, None, refl, sym, ap, subst, ◌∙◌, arith, slice_set, length-set, eq-eqb, ne_eqb}
use Rattle.std.proofs.Common.{IsTrue, IsFalse}
use Rattle.plain.proofs.Names.{FoldsTo, drop-set-lt, append_assoc, append-nil, length-append, length-map, length-drop}
use Rattle.plain.proofs.Names.{fold-append, eqb_tells, by_test, by_eq, After, GoOn, Done, Question, Want, ReleaseMode}
use Rattle.plain.proofs.Names.{LockIfLastIndex, Default, ReleaseState, Locked, Unlocked}
use Rattle.std.proofs.lemmas.List.{map-append}
use Rattle.std.proofs.lemmas.List.Elements.{filter-append}
use Rattle.steps.specs.Indices.Robust.Parts.{empty, locked, greatest}
use Rattle.steps.specs.Indices.Robust.Recover.{at_recover, first_recover, recover_want, recover_after}
use Rattle.steps.specs.declared.ask.Question.TheVariants as questions
use Rattle.steps.specs.declared.indices.robust.recover.Recover.{Recover}
use Rattle.steps.specs.declared.indices.robust.recover.RecoverStage.TheVariants as recovers
use Rattle.steps.specs.Objects.Owners.{Owners, Owned, taken_from, taken, next_generation, state_of, given_back, to_recover, recovered}
use Rattle.plain_queues.specs.declared.drive.Stop.TheVariants as stops
use Rattle.plain_queues.specs.Alone.{CanStop, StopsAlike}
use Rattle.plain.specs.Callable.{index_in, Asked, asks, tells, agreed, TakesQuestions, TakesFreed, HasRecovered}
use Rattle.plain.specs.Callable as said
use Rattle.plain.specs.Robust.{owner_in, owners_in, Represents}
use Rattle.plain_queues.proofs.Alone.{Halts, can_stop, stops_so}
use Rattle.plain.proofs.Walks.{plus, plus_sum, Walks, WalksOn, halts}
use Rattle.plain.proofs.Robust.Parts.{head_or, tail_of, split, number, locking, next_below, next_there, next_small}
use Rattle.plain.proofs.Robust.Releases.{counter_then, counter_small, given_back_is}
use Rattle.plain.proofs.Found.{folds_more}
use Rattle.plain.proofs.Robust.Recovers.{AsksAt, StopsAt, recovers_on, frees_on, rounds}

-- holds of false and not of true
abbrev holds_none : Bool → Type 0
holds_none true = ⊥
holds_none false = Unit {0}

-- ---- numbers of taken indices

-- there are no more taken indices than indices
taken_most : (i : ℕ) (os : List (Option ℕ)) → length (taken_from i os) ≤ length os
taken_most i [] = (let z : 0 ≤ 0 = omega arith in z)
taken_most i (None ∷ os) =
    let h = taken_most (i + 1) os in
    let z : length (taken_from (i + 1) os) ≤ suc (length os) = omega arith in z
taken_most i (Some o ∷ os) =
    let h = taken_most (i + 1) os in
    let z : suc (length (taken_from (i + 1) os)) ≤ suc (length os) = omega arith in z

-- how many indices have an owner does not depend on the number of the first one
taken_base : (i j : ℕ) (os : List (Option ℕ)) → length (taken_from i os) ≡ length (taken_from j os)
taken_base i j [] = refl
taken_base i j (None ∷ os) = taken_base (i + 1) (j + 1) os
taken_base i j (Some o ∷ os) = ap suc (taken_base (i + 1) (j + 1) os)

-- with one index more before them as many have an owner, or more
taken_less : (i k : ℕ) (o : Option ℕ) (os : List (Option ℕ)) → length (taken_from i os) ≤ length (taken_from k (o ∷ os))
taken_less = grind (arith, taken_base, length, taken_from, suc)

-- the taken ones from a place on are among all
taken_within : (n i k : ℕ) (cells : List ℕ) → length (taken_from i (map owner_in (drop n cells))) ≤ length (taken_from k (map owner_in cells))
taken_within zero i k cells = grind (arith, taken_base, map, owner_in, length, taken_from)
taken_within (suc n) i k [] = (let z : 0 ≤ 0 = omega arith in z)
taken_within (suc n) i k (c ∷ cells) =
    let h = taken_within n i 0 cells in
    let l = taken_less 0 k (owner_in c) (map owner_in cells) in
    let z : length (taken_from i (map owner_in (drop n cells))) ≤ length (taken_from k (owner_in c ∷ map owner_in cells)) = omega arith in z

-- a list of at most 0 is empty
none_left : (xs : List Owned) → length xs ≤ 0 → xs ≡ []
none_left [] low = refl
none_left (x ∷ xs) low = absurd (omega arith)

-- the next generation of an unlocked set is not that of a locked one
next_opens : (g : ℕ) → g < 2 ^ 64 → g ≢ locked → next_generation g ≢ locked
next_opens = grind (arith, greatest, next_there, false, next_below, eqb_tells)

-- Where giving an index back locks the set, no cell from n on has an owner. The cases are the mode, and
-- whether a cell has an owner.
pub locked_leaves : (mode : ReleaseMode) (g : ℕ) (emptied : List ℕ) (n i : ℕ) → g < 2 ^ 64 → g ≢ locked → counter_then mode g emptied ≡ locked
    → taken_from i (map owner_in (drop n emptied)) ≡ []
locked_leaves Default g emptied n i small other locks = absurd (next_opens g small other locks)
locked_leaves LockIfLastIndex g emptied n i small other locks =
    ⊎_elim
    (λ (t : ((number emptied == 0) ≡ true) × (number emptied ≡ 0)).
    none_left (taken_from i (map owner_in (drop n emptied)))
    (omega (arith, taken_within n i 0 emptied, t.1)))
    (λ (t : ((number emptied == 0) ≡ false) × (number emptied ≢ 0)).
    let stays : locking (next_generation g) emptied ≡ next_generation (next_generation g) =
    ap (λ b. if b && not (next_generation (next_generation g) == greatest) then locked else next_generation (next_generation g)) t.0 in
    absurd (next_opens (next_generation g) (next_small g small) (next_opens g small other) (sym stays ∙ locks)))
    (eqb_tells (number emptied) 0)

-- ---- one more question

-- a question about this index and its owner, with its answer
abbrev pub an_answer : Owned → Bool → Asked
an_answer o told = record { of = o; yes = told }

-- one more answer at the end is one more question at the end
pub questions_more : (xs : List Asked) (a : Asked) → said.questions (xs ++ a ∷ []) ≡ said.questions xs ++ a.of ∷ []
questions_more xs a = map-append (λ (a : Asked). a.of) xs (a ∷ [])

-- the indices of a yes in two lists are those of the first and then of the second
agreed_more : (xs ys : List Asked) → agreed (xs ++ ys) ≡ agreed xs ++ agreed ys
agreed_more = grind (arith, map, filter-append, map-append, filter)

-- a no at the end adds no index to those of a yes
pub agreed_no : (xs : List Asked) (o : Owned) → agreed (xs ++ an_answer o false ∷ []) ≡ agreed xs
agreed_no xs o = agreed_more xs (an_answer o false ∷ []) ∙ append-nil (agreed xs)

-- a yes at the end adds its index to those of a yes
pub agreed_yes : (xs : List Asked) (o : Owned) → agreed (xs ++ an_answer o true ∷ []) ≡ agreed xs ++ o ∷ []
agreed_yes xs o = agreed_more xs (an_answer o true ∷ [])

-- A recovery with its two closures: the mode, the capacity and the words of the set, and the closures.
pub record RecoverCase (F S : Type 0) : Type 1 where
  pub mode : ReleaseMode
  pub capacity : ℕ
  pub words : List ℕ
  -- what a question about an owner and its index makes of the closure that answers, and that closure at first
  pub step : F → ℕ → ℕ → Bool → F → Type 0
  pub answering : F
  -- what a call about an owner and its index makes of the closure that is told, and that closure at first
  pub tell : S → ℕ → ℕ → S → Type 0
  pub hearing : S

-- what the recovery asks for next, which does not depend on the mode
abbrev want : Recover → ReleaseMode → Want (Unit {0})
want c given = recover_want c

-- a recovery of a robust set keeps nothing in a room
abbrev kept : Recover → Unit {0} → ℕ → Unit {0}
kept c room _ = room

module _ {F S : Type 0} (case : RecoverCase F S) where
  open case use {mode, capacity, words as first, step, answering, tell, hearing}

  -- the map before the recovery
  abbrev old : Owners
  old = owners_in first

  -- The recovery is under way: one closure has answered the questions of `asked`, the other was told of those
  -- of a yes, and the questions of `left` are left. Where the call stops next, the words are g and cells: the
  -- map with those of a yes given back.
  pub record Recovering (done : ℕ) (call : Recover) (p : F) (q : S) (words : List ℕ) : Type 0 where
    -- the counter and the cells of the words at the next stop: they are the words of a robust set
    pub g : ℕ
    pub cells : List ℕ
    pub fits : Represents capacity (g ∷ cells)
    -- the questions that were answered and those that are left: together all of the old map
    pub asked : List Asked
    pub left : List Owned
    pub joined : said.questions asked ++ left ≡ to_recover old
    -- the answers of the first closure, what the other was told, and the map, without the indices of a yes
    pub answers : FoldsTo (asks step) answering asked p
    pub told : FoldsTo (tells tell) hearing (agreed asked) q
    pub map_is : owners_in (g ∷ cells) ≡ recovered mode old (agreed asked)
    -- nothing is left once the set is locked
    pub shut : g ≡ locked → left ≡ []
    pub number : length asked ≡ done
    -- where the call halts next
    pub run : Halts want recover_after kept mode (λ s room ws. StopsAt capacity g cells left s ws) call tt words

  -- what holds at the end: the words are those of a robust set, the answer is its state, and the closures
  -- were called as `HasRecovered` says
  pub record Gone (state : ReleaseState) (p : F) (q : S) (last : List ℕ) : Type 0 where
    pub fits : Represents capacity last
    pub state_is : state ≡ state_of (owners_in last)
    pub calls : HasRecovered step tell mode old (owners_in last) answering hearing p q

  -- what an answer has led to: the recovery is under way; it does not end before a further step
  abbrev pub Onward : ℕ → F → S → After Recover ReleaseState → List ℕ → Type 0
  Onward done p q (GoOn next) words = Recovering done next p q words
  Onward done p q (Done state) words = ⊥

-- A recovery that a driver holds: `done` questions are answered, and the closures are `p` and `q` as these have left them.
module _ {F S : Type 0} {case : RecoverCase F S} {done : ℕ} {call : Recover} {p : F} {q : S} {words : List ℕ}
    (so_far : Recovering case done call p q words) where
  open case use {mode, capacity, words as first, step, answering, tell, hearing}

  -- a recovery under way can stop
  pub can_go : CanStop want recover_after kept mode call tt words
  can_go = can_stop so_far.run

  -- a recovery under way that a driver has brought to its end has done all that it says
  pub ended_so : {state : ReleaseState} {r : Unit {0}} {last : List ℕ}
      → StopsAlike want recover_after kept mode call tt words (stops.Ended state) r last → Gone case state p q last
  ended_so = grind (arith, stops_so, append-nil)

  -- a recovery under way that a driver has brought to a question asks about the first index that is left
  pub asks_so : {question : Question (Unit {0})} {put : Recover} {r : Unit {0}} {last : List ℕ}
      → StopsAlike want recover_after kept mode call tt words (stops.Asked question put) r last
      → AsksAt capacity so_far.g so_far.cells so_far.left question put last
  asks_so alike = stops_so so_far.run alike

  -- ---- at a question

  module _ {question : Question (Unit {0})} {put : Recover} {last : List ℕ}
      (stopped : AsksAt capacity so_far.g so_far.cells so_far.left question put last) where
    -- the index that the question is about, with its owner
    abbrev it : Owned
    it = record { owner = stopped.owner; index = stopped.index }

    -- the indices that are left after it
    abbrev left_then : List Owned
    left_then = taken_from (stopped.index + 1) (map owner_in stopped.rest)

    -- there are as many cells as the capacity
    long : length so_far.cells ≡ capacity
    long = let e : suc (length so_far.cells) ≡ 1 + capacity = so_far.fits.long in omega arith

    -- the questions so far, this one and those left are all there is to recover
    asked_so : said.questions so_far.asked ++ it ∷ left_then ≡ to_recover (old case)
    asked_so = ap (λ l. said.questions so_far.asked ++ l) (sym stopped.left_is) ∙ so_far.joined

    -- the questions with this one answered and those left are all there is to recover
    joined_then : (b : Bool) → said.questions (so_far.asked ++ an_answer it b ∷ []) ++ left_then ≡ to_recover (old case)
    joined_then = grind (arith, questions_more, append_assoc, asked_so)

    -- one question more is answered
    number_then : (b : Bool) → length (so_far.asked ++ an_answer it b ∷ []) ≡ done + 1
    number_then b = length-append so_far.asked (an_answer it b ∷ []) ∙ ap (λ n. n + 1) so_far.number

    -- at a question the set is not locked
    opens : so_far.g ≢ locked
    opens = grind (arith, length, suc)

    -- the cells left are at most as many as the capacity
    short : length stopped.rest ≤ capacity
    short = grind (arith, length-drop, length, long)

    -- after a no the recovery is under way with one question more, and no cell is emptied
    on_no : (p₂ : F) → step p stopped.owner stopped.index false p₂
        → Recovering case (done + 1)
        (at_recover (first_recover capacity)
        (if nat_lt (stopped.index + 1) capacity then recovers.LoadsCell (stopped.index + 1) else
        recovers.LoadsCounterAgain))
        p₂ q last
    on_no p₂ called =
        let size = short in
        let few = so_far.fits.few in
        record {
          g = so_far.g;
          cells = so_far.cells;
          fits = so_far.fits;
          asked = so_far.asked ++ an_answer it false ∷ [];
          -- the question that was answered is behind those before it, and those behind it are left
          left = left_then;
          joined = joined_then false;
          answers = folds_more (asks step) answering p p₂ so_far.asked (an_answer it false) so_far.answers called;
          -- a no gives nothing back: the other closure was told of nothing more, and the map stays
          told = subst (λ l. FoldsTo (tells tell) hearing l q) (sym (agreed_no so_far.asked it)) so_far.told;
          map_is = so_far.map_is ∙ ap (recovered mode (old case)) (sym (agreed_no so_far.asked it));
          shut = λ e. absurd (opens e);
          number = number_then false;
          -- the recovery goes on to the next question or to its end, over the same words
          run =
              subst (λ ws. Halts want recover_after kept mode (λ s room vs. StopsAt capacity so_far.g so_far.cells left_then s vs)
              (at_recover (first_recover capacity)
              (if nat_lt (stopped.index + 1) capacity then recovers.LoadsCell (stopped.index + 1) else
              recovers.LoadsCounterAgain))
              tt ws)
              (sym stopped.same)
              (halts (suc (suc (length stopped.rest))) (StopsAt capacity so_far.g so_far.cells left_then) (omega arith)
              (recovers_on capacity mode so_far.g so_far.cells long stopped.rest (stopped.index + 1) stopped.rest_is refl));
        }

    -- the cells with this one emptied
    abbrev emptied : List ℕ
    emptied = slice_set so_far.cells stopped.index empty

    -- the cells with this one emptied are as many as before
    emptied_long : length emptied ≡ capacity
    emptied_long = length-set so_far.cells stopped.index empty ∙ long

    -- after a yes, of which the other closure was told, the recovery is under way with one question more, and
    -- goes on to empty the cell
    on_yes : (p₂ : F) (q₂ : S) → step p stopped.owner stopped.index true p₂ → tell q stopped.owner stopped.index q₂
        → Recovering case (done + 1) (at_recover (first_recover capacity) (recovers.EmptiesCell stopped.index stopped.owner)) p₂ q₂ last
    on_yes p₂ q₂ called heard =
        let size = short in
        let few = so_far.fits.few in
        let k = emptied_long in
        record {
          g = counter_then mode so_far.g emptied;
          cells = emptied;
          fits = record { long = omega arith; some = so_far.fits.some; few = so_far.fits.few; small = counter_small mode so_far.g emptied so_far.fits.small };
          -- the question that was answered is behind those before it, and those behind it are left
          asked = so_far.asked ++ an_answer it true ∷ [];
          left = left_then;
          joined = joined_then true;
          answers = folds_more (asks step) answering p p₂ so_far.asked (an_answer it true) so_far.answers called;
          -- the other closure was told of one index more, and the map is without that index
          told = subst (λ l. FoldsTo (tells tell) hearing l q₂) (sym (agreed_yes so_far.asked it))
              (folds_more (tells tell) hearing q q₂ (agreed so_far.asked) it so_far.told heard);
          map_is = sym (given_back_is mode so_far.g so_far.cells stopped.index)
              ∙ (ap (λ m. given_back mode m stopped.index) so_far.map_is
              ∙ (sym (fold-append (λ m (o : Owned). given_back mode m o.index) (old case) (agreed so_far.asked) (it ∷ []))
              ∙ ap (recovered mode (old case)) (sym (agreed_yes so_far.asked it))));
          -- where giving the index back locks the set, no other cell has an owner, so nothing is left to ask
          shut =
              λ e. ap (λ r. taken_from (stopped.index + 1) (map owner_in r))
              (sym stopped.rest_is
              ∙ sym (drop-set-lt (stopped.index + 1) so_far.cells stopped.index empty (let l : stopped.index < stopped.index + 1 = omega arith in l)))
              ∙ locked_leaves mode so_far.g emptied (stopped.index + 1) (stopped.index + 1) so_far.fits.small opens e;
          number = number_then true;
          -- the recovery empties the cell and goes on to the next question or to its end
          run =
              subst (λ ws. Halts want recover_after kept mode
              (λ s room vs. StopsAt capacity (counter_then mode so_far.g emptied) emptied left_then s vs)
              (at_recover (first_recover capacity) (recovers.EmptiesCell stopped.index stopped.owner)) tt ws)
              (sym stopped.same)
              (halts
              (suc (suc (suc (rounds so_far.cells so_far.fits.small long so_far.fits.few opens stopped.index stopped.rest_is))))
              (StopsAt capacity (counter_then mode so_far.g emptied) emptied left_then)
              (omega (
                arith,
                plus_sum (plus (suc (suc (suc (length emptied)))) 1) (suc (suc (length stopped.rest))),
                plus_sum
                    (suc (suc (suc (length emptied)))) 1,
              ))
              (frees_on so_far.cells so_far.fits.small long so_far.fits.few opens stopped.index stopped.rest_is mode stopped.word_is));
        }

    -- ---- as the question was matched

    -- the owner that the question names, or 0
    abbrev owner_of : Question (Unit {0}) → ℕ
    owner_of (questions.Owned owner index) = owner
    owner_of (questions.Index index) = 0
    owner_of (questions.Value index unit) = 0

    module _ {owner index : ℕ} (is : question ≡ questions.Owned owner index) where
      -- the owner of the question is the one at which the recovery stopped
      owner_is : owner ≡ stopped.owner
      owner_is = ap owner_of (sym is ∙ stopped.asks)

      -- the index of the question is the one at which the recovery stopped
      index_is : index ≡ stopped.index
      index_is = ap index_in (sym is ∙ stopped.asks)

      -- the closure may be asked about the question's owner and index
      pub may_ask : {pre : F → ℕ → ℕ → Type 0} → TakesQuestions pre step (to_recover (old case)) answering → pre p owner index
      may_ask {pre} may =
          subst (λ (z : ℕ × ℕ). pre p z.0 z.1) (λ i. (sym owner_is i, sym index_is i))
          (may.at so_far.asked p it left_then so_far.answers asked_so)

      -- after a yes the other closure may be told of the question's owner and index
      pub may_tell : {pre : S → ℕ → ℕ → Type 0} → TakesFreed step pre tell (to_recover (old case)) answering hearing → (p₂ : F) (b : Bool)
          → step p owner index b p₂ → IsTrue b → pre q owner index
      may_tell {pre} may p₂ true called agrees =
          subst (λ (z : ℕ × ℕ). pre q z.0 z.1) (λ i. (sym owner_is i, sym index_is i))
          (may.at so_far.asked p p₂ q it left_then so_far.answers (subst (λ (z : ℕ × ℕ). step p z.0 z.1 true p₂) (λ i. (owner_is i, index_is i)) called)
          asked_so so_far.told)
      may_tell {pre} may p₂ false called agrees = absurd (subst holds_none agrees tt)

      -- after the question was answered, and the other closure told of a yes, the recovery is under way
      onward : (b : Bool) (p₂ : F) (q₂ : S) → step p owner index b p₂ → (IsTrue b → tell q owner index q₂) → (IsFalse b → q₂ ≡ q)
          → Onward case (done + 1) p₂ q₂ (recover_after put mode (if b then 1 else 0)) last
      onward = grind (arith, on_yes, owner_is, index_is, on_no)

      -- what the closures made of the question: one answered, and the other was told of a yes
      pub record IsAnswered (agrees : Bool) (p₂ : F) (q₂ : S) : Type 0 where
        pub called : step p owner index agrees p₂
        pub told : IsTrue agrees → tell q owner index q₂
        pub passed : IsFalse agrees → q₂ ≡ q

      -- after the question was answered and the call was handed the answer as a number, the
      -- recovery is under way
      pub onward_so : (agrees : Bool) (p₂ : F) (q₂ : S) → IsAnswered agrees p₂ q₂ → {answer : ℕ} → answer ≡ (if agrees then 1 else 0)
          → {b : After Recover ReleaseState} → b ≡ recover_after put mode answer → Onward case (done + 1) p₂ q₂ b last
      onward_so agrees p₂ q₂ answered {answer} answer_is {b} goes =
          subst (λ z. Onward case (done + 1) p₂ q₂ z last) (sym (goes ∙ ap (recover_after put mode) answer_is))
          (onward agrees p₂ q₂ answered.called answered.told answered.passed)

-- ---- as it begins

-- from its begin the recovery stops at the first taken index, or at its end
begin_walk : (mode : ReleaseMode) (capacity g : ℕ) (cells : List ℕ) → length cells ≡ capacity
    → Walks (λ c. recover_want c) (λ c old. recover_after c mode old) (suc (suc (suc (length cells))))
    (StopsAt capacity g cells (to_recover (owners_in (g ∷ cells)))) (first_recover capacity) (g ∷ cells)
begin_walk mode capacity g cells long =
    by_eq (λ a. WalksOn (λ c. recover_want c) (λ c old. recover_after c mode old) (suc (suc (length cells)))
    (StopsAt capacity g cells (to_recover (owners_in (g ∷ cells)))) a (g ∷ cells))
    g locked _ _
    (λ e. (
      ap (λ b. if b then [] else taken (owners_in (g ∷ cells))) (eq-eqb g locked e),
      sym (ap (λ b. if b then Locked else Unlocked) (eq-eqb g locked e)),
      refl,
    ))
    (λ other. recovers_on capacity mode g cells long cells 0 refl
    (ap (λ b. if b then [] else taken (owners_in (g ∷ cells))) (ne_eqb g locked other)))

-- there are no more questions than cells
asks_few : (capacity : ℕ) (words : List ℕ) → Represents capacity words → length (to_recover (owners_in words)) ≤ capacity
asks_few capacity [] fits = let e : 0 ≡ 1 + capacity = fits.long in absurd (omega arith)
asks_few capacity (g ∷ cells) fits =
    let e : suc (length cells) ≡ 1 + capacity = fits.long in
    by_test (λ l. length l ≤ capacity) (g == locked) [] (taken (owners_in (g ∷ cells)))
    (λ _. omega arith)
    (λ _. omega (arith, taken_most 0 (map owner_in cells), length-map cells owner_in))

module _ {F S : Type 0} (case : RecoverCase F S) where
  open case use {mode, capacity, words, answering, hearing}

  -- a recovery that begins has asked nothing yet
  pub starts : (call : Recover) → call ≡ first_recover capacity → Represents capacity words → Recovering case 0 call answering hearing words
  starts call at_first fits =
      let few = fits.few in
      let front : words ≡ head_or 0 words ∷ tail_of words = split capacity fits.long in
      let g : ℕ = head_or 0 words in
      let cells : List ℕ = tail_of words in
      let long : length cells ≡ capacity = (let e : suc (length cells) ≡ 1 + capacity = sym (ap length front) ∙ fits.long in omega arith) in
      record {
        g = g;
        cells = cells;
        fits = subst (Represents capacity) front fits;
        asked = [];
        left = to_recover (owners_in (g ∷ cells));
        joined = ap (λ ws. to_recover (owners_in ws)) (sym front);
        answers = refl;
        told = refl;
        map_is = ap owners_in (sym front);
        shut = λ e. ap (λ b. if b then [] else taken (owners_in (g ∷ cells))) (eq-eqb g locked e);
        number = refl;
        -- the call halts at the first filled cell, or at its end
        run =
            subst (λ (z : Recover × List ℕ). Halts want recover_after kept mode
            (λ s room vs. StopsAt capacity g cells (to_recover (owners_in (g ∷ cells))) s vs) z.0 tt z.1)
            (λ i. (sym at_first i, sym front i))
            (halts (suc (suc (suc (length cells)))) (StopsAt capacity g cells (to_recover (owners_in (g ∷ cells)))) (omega arith)
            (begin_walk mode capacity g cells long));
      }

-- a recovery asks fewer questions than a driver counts
pub few_rounds : {F S : Type 0} {case : RecoverCase F S} {done : ℕ} {call : Recover} {p : F} {q : S} {words : List ℕ}
    → Represents case.capacity case.words → Recovering case done call p q words → done < 2 ^ 64 - 1
few_rounds {F} {S} {case} {done} fits recovering =
    let few = fits.few in
    let all : length (said.questions recovering.asked) + length recovering.left ≡ length (to_recover (owners_in case.words)) =
    sym (length-append (said.questions recovering.asked) recovering.left) ∙ ap length recovering.joined in
    let number : length (said.questions recovering.asked) ≡ done = length-map recovering.asked (λ (a : Asked). a.of) ∙ recovering.number in
    omega (arith, asks_few case.capacity case.words fits)

-- `TakesQuestions` of one list is `TakesQuestions` of an equal one
pub questions_at : {F : Type 0} {pre : F → ℕ → ℕ → Type 0} {step : F → ℕ → ℕ → Bool → F → Type 0} {a b : List Owned} {f : F}
    → a ≡ b → TakesQuestions pre step a f → TakesQuestions pre step b f
questions_at {F} {pre} {step} {a} {b} {f} same takes_questions = subst (λ z. TakesQuestions pre step z f) same takes_questions

-- `TakesFreed` of one list is `TakesFreed` of an equal one
pub freed_at : {F S : Type 0} {step : F → ℕ → ℕ → Bool → F → Type 0} {pre : S → ℕ → ℕ → Type 0}
    {tell : S → ℕ → ℕ → S → Type 0} {a b : List Owned} {f : F} {s : S}
    → a ≡ b → TakesFreed step pre tell a f s → TakesFreed step pre tell b f s
freed_at {F} {S} {step} {pre} {tell} {a} {b} {f} {s} same takes_freed = subst (λ z. TakesFreed step pre tell z f s) same takes_freed

-- `HasRecovered` of one map is `HasRecovered` of an equal one
pub recovered_at : {F S : Type 0} {step : F → ℕ → ℕ → Bool → F → Type 0} {tell : S → ℕ → ℕ → S → Type 0} {mode : ReleaseMode} {a b new : Owners}
    {f f_last : F} {s s_last : S} → a ≡ b → HasRecovered step tell mode a new f s f_last s_last → HasRecovered step tell mode b new f s f_last s_last
recovered_at {F} {S} {step} {tell} {mode} {a} {b} {new} {f} {f_last} {s} {s_last} same has_recovered =
    subst (λ z. HasRecovered step tell mode z new f s f_last s_last) same has_recovered
