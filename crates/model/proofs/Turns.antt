-- What a turn does, in its own words.
use Rattle.model.proofs.Names.{After, Answer, Ask, Begin, Bool, Decide, Die, Doing, Flight, GoOn, Going, IfSome, List}
use Rattle.model.proofs.Names.{Next, None, Option, Over, Party, Registry, Some, Start, Step, Turn, World, after_answer}
use Rattle.model.proofs.Names.{after_begin, after_decision, after_next, after_step, ap, arith, ask_of, ask_of_doing}
use Rattle.model.proofs.Names.{ask_of_flight, call_refusal, cases_lt, change_of, cond, doing_after, doing_of, false}
use Rattle.model.proofs.Names.{first_of, flight_in, flight_of, get_or, goes_of, inl, inr, is_none, is_some, length}
use Rattle.model.proofs.Names.{nat_tests, number_of, old_of, one_if, party_after, party_of, progress_after, progress_in}
use Rattle.model.proofs.Names.{refl, set, set-get_or, step_count, step_in, sym, true, want_of, words_after, world_after}
use Rattle.model.proofs.Names.{ℕ, ⊎_elim, ◌+◌, ◌-◌, ◌<◌, ◌==◌, ◌∙◌, ◌≡◌, ◌≢◌, ◌≤◌, ◌⊎◌}
use Rattle.std.proofs.Common.{get_or-set_same}
use Rattle.std.proofs.lemmas.List.{set_past}
use Rattle.steps.specs.Ask.{written}
use Rattle.steps.specs.declared.ask.After.TheVariants.{Done}
use Rattle.model.specs.Promises.Turns.{IsOneTurnLater, WritesOneWord, StandsAt, GoesOn, BothGoOn, CountsTurn, BothSee, CountsOthers}
use Rattle.model.specs.Small.{HasSmallCount, IsSmall}
use Rattle.model.proofs.LockFree.Stays.{IsUnder, under_way}
use Rattle.model.proofs.Parties.{party_put_same, party_put_other}
use Rattle.model.proofs.Reached.{turn_making}
use Rattle.model.proofs.Rows.{may_begin, may_next, may_decide}

later : (changes since change : ℕ) → (changes + change) - (since + change) ≡ changes - since
later = omega arith

-- ---- a change of a word

-- The change that a test counts: none if the word has kept its value, else one.
abbrev counts_for : Bool → ℕ
counts_for b = cond b 0 1

change_is : (b : Bool) → (b ≡ true → counts_for b ≡ 0) × (b ≡ false → counts_for b ≡ 1)
change_is = grind arith

pub unchanged_words : (words : List ℕ) (ask : Option Ask) → words_after words ask ≡ words → change_of words ask ≡ 0
unchanged_words = grind (arith, change_is, nat_tests)

-- a word that keeps its value leaves all of them
pub kept_words : (words : List ℕ) (at value : ℕ) → get_or (set words at value) at 0 ≡ get_or words at 0 → set words at value ≡ words
kept_words words at value same_word = ⊎_elim within past (cases_lt at (length words))
  where
    -- Within the words, setting a word to its own value changes none.
    within : at < length words → set words at value ≡ words
    within at_below =
        let now : value ≡ get_or words at 0 = sym (get_or-set_same words at value 0 at_below) ∙ same_word in
        ap (set words at) now ∙ set-get_or words at 0

    past : length words ≤ at → set words at value ≡ words
    past past_end = set_past words at value past_end

-- An operation that changes the words counts as one change.
pub changed_words : (words : List ℕ) (ask : Option Ask) → words_after words ask ≢ words → change_of words ask ≡ 1
changed_words words None ne = absurd (ne refl)
changed_words words (Some ask) ne = go (get_or (words_after words (Some ask)) ask.word 0 == get_or words ask.word 0) refl
  where
    -- The cases are whether the word has its old value after the operation.
    go : (b : Bool) → (get_or (words_after words (Some ask)) ask.word 0 == get_or words ask.word 0) ≡ b → counts_for b ≡ 1
    go true test =
        let same : get_or (words_after words (Some ask)) ask.word 0 ≡ get_or words ask.word 0 = grind (arith, nat_tests) in
        absurd (ne (kept_words words ask.word (written ask.op (get_or words ask.word 0)) same))
    go false test = refl

-- The steps of a call grow by one if an operation was asked for.
one_more_if : (o : Option Ask) (n : ℕ) → n + step_count o ≡ cond (is_some o) (n + 1) n
one_more_if None n = omega arith
one_more_if (Some ask) n = refl

-- The turns back of a call stay, or grow by one.
one_or_more : (old : ℕ) (back : Bool) → (old + one_if back ≡ old) ⊎ (old + one_if back ≡ old + 1)
one_or_more old true = inr refl
one_or_more old false = inl (omega arith)

module _ {T : Type 0} where
  -- each call goes on as its table alone says, whatever its step does besides
  abbrev pub GoesAsTold : World T → Type 0
  GoesAsTold w =
      (p : ℕ) (x : Party T) (flight : Flight T) (since answer : ℕ) → party_of p w.latest ≡ Some x
      → x.doing ≡ Going flight since → (step_in w p x flight answer).after ≡ goes_of w.coding p flight answer w.kept

  -- ---- the machine

  same_but_turns : (w : World T) (turn : Turn T) → (world_after w turn).turns ≡ w.turns + 1 → IsOneTurnLater w (world_after w turn)
  same_but_turns = grind (arith, turn_making)

  -- An admitted begin counts one turn.
  begin_turns : (w : World T) (p : ℕ) (start : Start T) (o : Option (Flight T)) → is_none o ≡ false → (after_begin w p start o).turns ≡ w.turns + 1
  begin_turns w p start None some = absurd (cc)
  begin_turns w p start (Some flight) some = refl

  -- An answer to a call under way counts one turn.
  answer_turns : (w : World T) (p : ℕ) (x : Party T) (ask : Option Ask) (answer : ℕ) (flight : Flight T) (doing : Doing T)
      → flight_of (Some doing) ≡ Some flight → (after_answer w p x ask answer doing).turns ≡ w.turns + 1
  answer_turns = grind arith

  next_turns : (w : World T) (p : ℕ) (flight : Flight T) (o : Option (Party T)) → flight_of (doing_of o) ≡ Some flight → (after_next w p o).turns ≡ w.turns + 1
  next_turns = grind (arith, answer_turns)

  -- A decision for a call under way counts one turn.
  decision_turns : (w : World T) (p : ℕ) (said : Bool) (flight : Flight T) (o : Option (Party T))
      → flight_of (doing_of o) ≡ Some flight → (after_decision w p said o).turns ≡ w.turns + 1
  decision_turns = grind (arith, answer_turns, number_of)

  -- after a turn the number of turns has risen by one, and what the machine was made with is the same
  pub one_turn_later : (w : World T) (turn : Turn T) → call_refusal w turn ≡ None → IsOneTurnLater w (world_after w turn)
  one_turn_later w (Begin p start) not_refused =
      same_but_turns w (Begin p start) (begin_turns w p start (first_of w.kind w.capacity start w.kept) (may_begin w p start not_refused).call)
  one_turn_later w (Next p) not_refused =
      let may = may_next w p not_refused in
      same_but_turns w (Next p) (next_turns w p may.flight (party_of p w.latest) may.is)
  one_turn_later w (Decide p said) not_refused =
      let may = may_decide w p said not_refused in
      same_but_turns w (Decide p said) (decision_turns w p said may.flight (party_of p w.latest) may.is)
  one_turn_later w (Die owner) not_refused = record { coding = refl; kind = refl; capacity = refl; parties = refl; turns = refl }

  -- ---- one word

  -- A begin changes no word.
  begin_word : (w : World T) (p : ℕ) (start : Start T) (flight : Option (Flight T)) → (after_begin w p start flight).words ≡ w.words
  begin_word w p start None = refl
  begin_word w p start (Some flight) = refl

  -- After an answer to a call the words are those after the operation that the call asked for.
  answer_word : (w : World T) (p : ℕ) (x : Party T) (answer : ℕ) (doing : Doing T)
      → (after_answer w p x (ask_of_doing w.coding doing) answer doing).words
      ≡ words_after w.words (ask_of_flight w.coding (flight_of (Some doing)))
  answer_word = grind arith

  next_word : (w : World T) (p : ℕ) (o : Option (Party T)) → (after_next w p o).words ≡ words_after w.words (ask_of_flight w.coding (flight_of (doing_of o)))
  next_word = grind (arith, answer_word)

  decided_word : (w : World T) (p : ℕ) (x : Party T) (answer : ℕ) (doing : Doing T) → (after_answer w p x None answer doing).words ≡ w.words
  decided_word = grind arith

  -- A decision changes no word.
  decision_word : (w : World T) (p : ℕ) (said : Bool) (o : Option (Party T)) → (after_decision w p said o).words ≡ w.words
  decision_word w p said None = refl
  decision_word w p said (Some x) = decided_word w p x (number_of said) x.doing

  pub writes_one_word : (w : World T) (turn : Turn T) → WritesOneWord w turn (world_after w turn)
  writes_one_word = grind (arith, begin_word, first_of, next_word, decision_word)

  -- ---- the party's own call

  -- the party after its call went on
  step_here : (w : World T) (p : ℕ) (x : Party T) (since : ℕ) (ask : Option Ask) (s : Step (Flight T) (Registry T) T)
      → party_of p (after_step w p x since ask s).latest ≡ Some (party_after x since w.changes (step_count ask) (change_of w.words ask) s)
  step_here = grind (arith, party_put_same)

  -- A party's call stands where its latest step has led it.
  stands : (changes since : ℕ) (after : After (Flight T) (Answer T)) (w : World T) (p : ℕ) (x : Party T)
      → party_of p w.latest ≡ Some x → x.doing ≡ doing_after changes since after → StandsAt w p after
  stands = grind arith

  -- After a step the party's call stands where the step has led it.
  goes : (w : World T) (p : ℕ) (x : Party T) (flight : Flight T) (since : ℕ) (ask : Option Ask) (answer : ℕ)
      → (step_in w p x flight answer).after ≡ goes_of w.coding p flight answer w.kept
      → StandsAt (after_step w p x since ask (step_in w p x flight answer)) p (goes_of w.coding p flight answer w.kept)
  goes = grind (arith, step_in, after_step, stands, step_here)

  -- What holds of the call that a party has under way, with its place in the machine, holds of its call, if it has one.
  by_call : (w : World T) (p : ℕ) (Q : Flight T → Type 0) → ((flight : Flight T) → IsUnder w p flight → Q flight) → IfSome (flight_in w p) Q
  by_call w p Q each = go (flight_in w p) refl
    where
      go : (o : Option (Flight T)) → flight_in w p ≡ o → IfSome o Q
      go None none = tt
      go (Some flight) some = each flight (under_way w p flight some)

  -- after a step the party's call goes on as the table of its steps says
  next_goes : (w : World T) (p : ℕ) → GoesAsTold w → GoesOn w (Next p) (world_after w (Next p))
  next_goes w p tells =
      by_call w p _ (λ flight u.
      (let ask = ask_of (want_of w.coding flight) in
      rw (u.found, u.doing)
      (goes w p u.party flight u.since ask (old_of w.words ask) (tells p u.party flight u.since (old_of w.words ask) u.found u.doing))))

  -- after an answer to its question the party's call goes on as the table of its steps says
  decision_goes : (w : World T) (p : ℕ) (said : Bool) → GoesAsTold w → GoesOn w (Decide p said) (world_after w (Decide p said))
  decision_goes w p said tells =
      by_call w p _ (λ flight u.
      rw (u.found, u.doing)
      (goes w p u.party flight u.since None (number_of said) (tells p u.party flight u.since (number_of said) u.found u.doing)))

  begin_goes : (w : World T) (p : ℕ) (start : Start T) (o : Option (Flight T)) → is_none o ≡ false → flight_in (after_begin w p start o) p ≡ o
  begin_goes = grind (arith, party_put_same)

  -- Each turn that is not refused leaves its party's call where `GoesOn` says.
  pub goes_on : (w : World T) (turn : Turn T) → GoesAsTold w → call_refusal w turn ≡ None → GoesOn w turn (world_after w turn)
  goes_on w (Begin p start) tells not_refused = begin_goes w p start (first_of w.kind w.capacity start w.kept) (may_begin w p start not_refused).call
  goes_on w (Next p) tells not_refused = next_goes w p tells
  goes_on w (Decide p said) tells not_refused = decision_goes w p said tells
  goes_on w (Die owner) tells not_refused = tt

  -- ---- its counts

  -- what a party that goes on counts in a step: one step more where it asked for one, and a turn
  -- back where it was turned back
  going_on : (changes : ℕ) {since : ℕ} (steps change : ℕ) (asks : Bool) (s : Step (Flight T) (Registry T) T) (x : Party T) {flight : Flight T}
      → x.doing ≡ Going flight since → x.steps + steps ≡ cond asks (x.steps + 1) x.steps
      → BothGoOn asks (is_none (flight_of (doing_of (Some (party_after x since changes steps change s)))))
      (progress_after changes (Some x))
      (progress_after (changes + change) (Some (party_after x since changes steps change s)))
  going_on changes {since} steps change asks s x same_doing count = go s.after
    where
      -- whether the step ends the call or not, it counts itself, and one more turn back if it was turned back
      go : (after : After (Flight T) (Answer T))
          → BothGoOn asks (is_none (flight_of (Some (doing_after (changes + change) (since + change) after))))
          (progress_after changes (Some x)) (progress_after (changes + change) (Some (record {
            start = x.start;
            steps = x.steps + steps;
            backs = x.backs + one_if s.back;
            doing = doing_after (changes + change) (since + change) after;
          })))
      go (GoOn next) =
          let same = later changes since change in
          rw same_doing (record { steps = count; backs = one_or_more x.backs s.back; others = same; finished = refl })
      go (Done answer) =
          let same = later changes since change in
          rw same_doing (record { steps = count; backs = one_or_more x.backs s.back; others = same; finished = refl })

  -- The counts of a party's call before and after its own step in the machine are as `BothGoOn` says.
  counted : (w : World T) (p : ℕ) (x : Party T) {flight : Flight T} {since : ℕ} (ask : Option Ask) (answer : ℕ)
      → party_of p w.latest ≡ Some x → x.doing ≡ Going flight since
      → BothGoOn (is_some ask) (is_none (flight_in (after_step w p x since ask (step_in w p x flight answer)) p))
      (progress_in w p) (progress_in (after_step w p x since ask (step_in w p x flight answer)) p)
  counted w p x {flight} {since} ask answer found same_doing =
      let s = step_in w p x flight answer in
      let y = party_after x since w.changes (step_count ask) (change_of w.words ask) s in
      let here = step_here w p x since ask s in
      let goal = going_on w.changes (step_count ask) (change_of w.words ask) (is_some ask) s x same_doing (one_more_if ask x.steps) in
      rw (here, found) goal

  -- a step counts itself, and the changes of others that its call has seen
  next_counts : (w : World T) (p : ℕ) → CountsTurn w (Next p) (world_after w (Next p))
  next_counts w p =
      by_call w p _ (λ flight u.
      (let ask = ask_of (want_of w.coding flight) in
      rw (u.found, u.doing) (rw (u.found, u.doing) at (counted w p u.party ask (old_of w.words ask) u.found u.doing))))

  -- an answer counts no step
  decision_counts : (w : World T) (p : ℕ) (said : Bool) → CountsTurn w (Decide p said) (world_after w (Decide p said))
  decision_counts w p said =
      by_call w p _ (λ flight u. rw (u.found, u.doing) (rw (u.found, u.doing) at (counted w p u.party None (number_of said) u.found u.doing)))

  -- A call that has just begun has counted nothing.
  begin_counts : (w : World T) (p : ℕ) (start : Start T) (o : Option (Flight T)) → is_none o ≡ false
      → progress_in (after_begin w p start o) p ≡ Some record { steps = 0; backs = 0; others = 0; finished = false }
  begin_counts = grind (arith, party_put_same)

  -- each turn counts what it did
  pub counts_turn : (w : World T) (turn : Turn T) → call_refusal w turn ≡ None → CountsTurn w turn (world_after w turn)
  counts_turn w (Begin p start) not_refused = begin_counts w p start (first_of w.kind w.capacity start w.kept) (may_begin w p start not_refused).call
  counts_turn w (Next p) not_refused = next_counts w p
  counts_turn w (Decide p said) not_refused = decision_counts w p said
  counts_turn w (Die owner) not_refused = tt

  -- ---- the counts of the other parties

  -- a change of the words is one more change, and no change is none
  record Tells (old new : World T) : Type 0 where
    pub same : new.words ≡ old.words → new.changes ≡ old.changes
    pub changed : new.words ≢ old.words → new.changes ≡ old.changes + 1

  -- Another party's latest call counts at most one change of a word's value in the turn.
  sees : (old new : World T) (x : Party T) → Tells old new → HasSmallCount old.changes x.doing
      → BothSee old new (progress_after old.changes (Some x)) (progress_after new.changes (Some x))
  sees old new x tells small = go x.doing refl small
    where
      -- the steps of a party that took no turn stay, and it has seen one more change if the words changed
      go : (doing : Doing T) → x.doing ≡ doing → HasSmallCount old.changes doing
          → BothSee old new (progress_after old.changes (Some x)) (progress_after new.changes (Some x))
      go (Going flight since) same_doing small_count =
          rw same_doing
          (record {
            steps = refl;
            backs = refl;
            finished = refl;
            same = λ s. ap (λ n. n - since) (tells.same s);
            changed = λ ne. omega (arith, tells.changed ne);
          })
      go (Over others) same_doing small_count = rw same_doing (record { steps = refl; backs = refl; finished = refl; same = λ s. refl; changed = λ ne. refl })

  -- A party whose latest call is the same before and after the turn counts at most one change of a word.
  seen : (old new : World T) (q : ℕ) (o : Option (Party T)) → party_of q old.latest ≡ o → party_of q new.latest ≡ o
      → Tells old new → IsSmall old → BothSee old new (progress_in old q) (progress_in new q)
  seen = grind (arith, sees)

  still_tells : (old new : World T) → new.words ≡ old.words → new.changes ≡ old.changes → Tells old new
  still_tells = grind arith

  step_tells : (w : World T) (p : ℕ) (x : Party T) (since : ℕ) (ask : Option Ask) (s : Step (Flight T) (Registry T) T) → Tells w (after_step w p x since ask s)
  step_tells = grind (arith, unchanged_words, changed_words)

  -- A begin leaves every other party's counts as `BothSee` says.
  begin_others : (w : World T) (p : ℕ) (start : Start T) (o : Option (Flight T)) (q : ℕ) → q ≢ p → IsSmall w
      → BothSee w (after_begin w p start o) (progress_in w q) (progress_in (after_begin w p start o) q)
  begin_others = grind (arith, seen, still_tells, party_put_other)

  -- An answer to one party's call leaves every other party's counts as `BothSee` says.
  answer_others : (w : World T) (p : ℕ) (x : Party T) (ask : Option Ask) (answer : ℕ) (doing : Doing T) (q : ℕ)
      → q ≢ p → IsSmall w
      → BothSee w (after_answer w p x ask answer doing) (progress_in w q) (progress_in (after_answer w p x ask answer doing) q)
  answer_others = grind (arith, seen, still_tells, step_in, after_step, party_put_other, step_tells)

  -- A turn `Next` leaves every other party's counts as `BothSee` says.
  next_others : (w : World T) (p : ℕ) (o : Option (Party T)) (q : ℕ) → q ≢ p → IsSmall w
      → BothSee w (after_next w p o) (progress_in w q) (progress_in (after_next w p o) q)
  next_others = grind (arith, seen, still_tells, answer_others)

  -- A decision leaves every other party's counts as `BothSee` says.
  decision_others : (w : World T) (p : ℕ) (said : Bool) (o : Option (Party T)) (q : ℕ) → q ≢ p → IsSmall w
      → BothSee w (after_decision w p said o) (progress_in w q) (progress_in (after_decision w p said o) q)
  decision_others = grind (arith, seen, still_tells, answer_others, number_of)

  pub counts_others : (w : World T) (turn : Turn T) → IsSmall w → CountsOthers w turn (world_after w turn)
  counts_others = grind (arith, begin_others, first_of, next_others, decision_others, seen, still_tells)
