-- A history that ends where a call of a pass ended is that of the first turns of its run, so the pass knew
-- that run (`known_then`).
use Rattle.history.proofs.Names.{◌≡◌, ⊎_elim, inl, inr, ◌⊎◌, ℕ, ◌+◌, ◌<◌, ◌≤◌, Bool, Option, Some, None, List, [], ◌∷◌, ◌++◌, length, refl}
use Rattle.history.proofs.Names.{sym, ap, subst, ◌∙◌, arith, append_assoc, append-nil, Answer, Event, Begun, Finished, Start, Kind, Trace}
use Rattle.history.proofs.Names.{Doing, Going, Over, Party, Turn, Begin, Next, Decide, Coding, party_of, answer_in, after_turn, ask_of_doing}
use Rattle.history.proofs.Names.{ending_of, events_of, events_of_next, events_of_decision, number_of, old_of, step_in, World, Refusal}
use Rattle.std.proofs.Common.{length-append}
use Rattle.std.proofs.lemmas.List.Sums.{sum_by-cons}
use Rattle.model.specs.declared.turn.Turn.TheVariants.{Die}
use Rattle.model.specs.Families.{beside_of}
use Rattle.model.specs.LockFree.{end_of, ends}
use Rattle.model.specs.Turns.{AreAllowedBy, after_turns, events_of_answer}
use Rattle.model.specs.World.{opening}
use Rattle.model.proofs.LockFree.Writes.{writes_no_end}
use Rattle.history.specs.declared.view.View.{View}
use Rattle.history.specs.History.{AreFirst, AreFresh, IsBeginning, Knows, others_by, refusal_as, run_of, IsPart, steps_of_run}

-- ---- lists

module _ {A : Type 0} where
  -- of two first parts of one list, one is a first part of the other
  prefixes : (xs ys xs' ys' : List A) → xs ++ xs' ≡ ys ++ ys' → ((more : List A) × (ys ≡ xs ++ more)) ⊎ ((more : List A) × (xs ≡ ys ++ more))
  prefixes [] ys xs' ys' lists_are = inl (ys, refl)
  prefixes (x ∷ xs) [] xs' ys' lists_are = inr (x ∷ xs, refl)
  prefixes (x ∷ xs) (y ∷ ys) xs' ys' lists_are =
      let here : x ≡ y = cc in
      let rest : xs ++ xs' ≡ ys ++ ys' = cc in
      ⊎_elim (λ (a : (more : List A) × (ys ≡ xs ++ more)). inl (a.0, ap (λ z. z ∷ ys) (sym here) ∙ ap (λ zs. x ∷ zs) a.1))
      (λ (b : (more : List A) × (xs ≡ ys ++ more)). inr (b.0, ap (λ z. z ∷ xs) here ∙ ap (λ zs. y ∷ zs) b.1))
      (prefixes xs ys xs' ys' rest)

  -- what comes behind the same list in two equal lists is equal
  same_rest : (xs ys zs : List A) → xs ++ ys ≡ xs ++ zs → ys ≡ zs
  same_rest [] ys zs lists_are = lists_are
  same_rest (x ∷ xs) ys zs lists_are = let rest : xs ++ ys ≡ xs ++ zs = cc in same_rest xs ys zs rest

  -- if a list that ends with f has `es` first, what is behind `es` is nothing, or ends with f too
  last_too : (xs es a : List A) (f : A) → xs ++ f ∷ [] ≡ es ++ a → (a ≡ []) ⊎ ((less : List A) × (a ≡ less ++ f ∷ []))
  last_too xs [] a f lists_are = inr (xs, sym lists_are)
  last_too [] (x ∷ es) a f e = inl (none es a (let rest : [] ≡ es ++ a = cc in sym rest))
    where
      -- lists that are empty together: the second is empty
      none : (es a : List A) → es ++ a ≡ [] → a ≡ []
      none [] a lists_are = lists_are
      none (x ∷ es) a lists_are = absurd (cc)
  last_too (y ∷ xs) (x ∷ es) a f lists_are = let rest : xs ++ f ∷ [] ≡ es ++ a = cc in last_too xs es a f rest

  -- a list is not its own first part with an element more
  no_less : (xs ys : List A) (f : A) (later : List A) → xs ≡ (xs ++ (ys ++ f ∷ [])) ++ later → ⊥
  no_less xs ys f later xs_is =
      absurd (omega (arith, ap length xs_is, length-append (xs ++ (ys ++ f ∷ [])) later, length-append xs (ys ++ f ∷ []), length-append ys (f ∷ [])))

module _ {T : Type 0} where
  -- ---- the end of a call is the last event of its turn

  -- a step ends at most one call
  one_ending : (p : ℕ) (start : Start T) (o : Option (Answer T)) → length (ending_of p start o) ≤ 1
  one_ending p start None = omega arith
  one_ending p start (Some answer) = omega arith

  -- the events of a turn have the end of a call with this answer, and `ys` stand behind it
  module _ (p : ℕ) (start : Start T) (answer : Answer T) (ys : List (Event T)) where
    -- an end of a call among the events of a turn is the last of them, where the turn's effects end no call
    last_of : (wrote tail xs : List (Event T)) → ends wrote ≡ 0 → length tail ≤ 1 → wrote ++ tail ≡ xs ++ Finished p start answer ∷ ys → ys ≡ []
    last_of [] [] [] none few lists_are = absurd (cc)
    last_of [] [] (x ∷ xs) none few lists_are = absurd (cc)
    last_of [] (t ∷ []) [] none few lists_are = (let rest : [] ≡ ys = cc in sym rest)
    last_of [] (t ∷ u ∷ tail) [] none few lists_are = absurd (omega arith)
    last_of [] (t ∷ tail) (x ∷ xs) none few lists_are =
        last_of [] tail xs refl (omega arith) (let rest : tail ≡ xs ++ Finished p start answer ∷ ys = cc in rest)
    last_of (w ∷ wrote) tail [] none few lists_are =
        let is : w ≡ Finished p start answer = cc in
        let one : end_of w ≡ 1 = ap end_of is in
        absurd (omega (arith, sum_by-cons end_of w wrote))
    last_of (w ∷ wrote) tail (x ∷ xs) none few lists_are =
        last_of wrote tail xs (omega (arith, sum_by-cons end_of w wrote)) few
        (let rest : wrote ++ tail ≡ xs ++ Finished p start answer ∷ ys = cc in rest)

    -- the end of a call that an answer to a step writes is the last event of the turn
    last_answered : (w : World T) (q : ℕ) (x : Party T) (n : ℕ) (doing : Doing T) (xs : List (Event T))
        → events_of_answer w q x n doing ≡ xs ++ Finished p start answer ∷ ys → ys ≡ []
    last_answered w q x n (Over others) [] events_of_answer_is = absurd (cc)
    last_answered w q x n (Over others) (y ∷ xs) events_of_answer_is = absurd (cc)
    last_answered w q x n (Going flight since) xs events_of_answer_is =
        last_of (step_in w q x flight n).wrote (ending_of q x.start (answer_in (step_in w q x flight n).after)) xs
        (writes_no_end T w.coding w.words (beside_of w.words w.kept w.latest q) q x.start flight n w.kept)
        (one_ending q x.start (answer_in (step_in w q x flight n).after)) events_of_answer_is

    -- the end of a call that a turn of a step writes is the last event of the turn
    last_next : (w : World T) (q : ℕ) (o : Option (Party T)) (xs : List (Event T)) → events_of_next w q o ≡ xs ++ Finished p start answer ∷ ys → ys ≡ []
    last_next w q None [] events_of_next_is = absurd (cc)
    last_next w q None (y ∷ xs) events_of_next_is = absurd (cc)
    last_next w q (Some x) xs events_of_next_is =
        last_answered w q x (old_of w.words (ask_of_doing w.coding x.doing)) x.doing xs events_of_next_is

    -- the end of a call that an answer to a question writes is the last event of the turn
    last_decision : (w : World T) (q : ℕ) (said : Bool) (o : Option (Party T)) (xs : List (Event T))
        → events_of_decision w q said o ≡ xs ++ Finished p start answer ∷ ys → ys ≡ []
    last_decision w q said None [] events_of_decision_is = absurd (cc)
    last_decision w q said None (y ∷ xs) events_of_decision_is = absurd (cc)
    last_decision w q said (Some x) xs events_of_decision_is = last_answered w q x (number_of said) x.doing xs events_of_decision_is

    -- the end of a call that any turn writes is the last event of the turn
    last_end : (w : World T) (turn : Turn T) (xs : List (Event T)) → events_of w turn ≡ xs ++ Finished p start answer ∷ ys → ys ≡ []
    last_end w (Begin q s) xs events_are = last_of [] (Begun q s ∷ []) xs refl (omega arith) events_are
    last_end w (Next q) xs events_are = last_next w q (party_of q w.latest) xs events_are
    last_end w (Decide q said) xs events_are = last_decision w q said (party_of q w.latest) xs events_are
    last_end w (Die owner) xs events_are = last_of [] (events_of w (Die owner)) xs refl (omega arith) events_are

  -- ---- the turns until then

  -- further turns leave the events, and put others behind them
  grown : (t : Trace T) (turns : List (Turn T)) → (more : List (Event T)) × ((after_turns t turns).events ≡ t.events ++ more)
  grown t [] = ([], sym (append-nil t.events))
  grown t (turn ∷ turns) =
      let rest = grown (after_turn t turn) turns in
      (events_of t.world turn ++ rest.0, rest.1 ∙ append_assoc t.events (events_of t.world turn) rest.0)

  -- the first of these turns lead to just these events
  pub record UpTo (t : Trace T) (turns : List (Turn T)) (events : List (Event T)) : Type 0 where
    pub first : List (Turn T)
    pub rest : List (Turn T)
    pub is : turns ≡ first ++ rest
    pub told : (after_turns t first).events ≡ events

  -- the events up to an end of a call are those of the first turns
  pub up_to : {t : Trace T} {turns : List (Turn T)} (xs : List (Event T)) (p : ℕ) (start : Start T) (answer : Answer T) (later : List (Event T))
      → (after_turns t turns).events ≡ (t.events ++ (xs ++ Finished p start answer ∷ [])) ++ later
      → UpTo t turns (t.events ++ (xs ++ Finished p start answer ∷ []))
  up_to {t} {turns = []} xs p start answer later events_are = absurd (no_less t.events xs (Finished p start answer) later events_are)
  up_to {t} {turns = (turn ∷ turns)} xs p start answer later events_are =
      go (λ less e'. up_to {t = (after_turn t turn)} {turns = turns} less p start answer later e') (prefixes es end more.0 later both)
    where
      -- the events of the first turn
      es : List (Event T)
      es = events_of t.world turn

      -- the events up to the end of the call
      end : List (Event T)
      end = xs ++ Finished p start answer ∷ []

      -- what the later turns write
      more : (more : List (Event T)) × ((after_turns (after_turn t turn) turns).events ≡ (after_turn t turn).events ++ more)
      more = grown (after_turn t turn) turns

      -- the two ways to cut the events at the end of the call are equal
      both : es ++ more.0 ≡ end ++ later
      both =
          same_rest t.events (es ++ more.0) (end ++ later)
          (sym (append_assoc t.events es more.0) ∙ (sym more.1 ∙ (events_are ∙ append_assoc t.events end later)))

      -- the call ends with the events of the first turn
      here : end ≡ es → UpTo t (turn ∷ turns) (t.events ++ end)
      here same = record { first = turn ∷ []; rest = turns; is = refl; told = ap (λ zs. t.events ++ zs) (sym same) }

      -- whether the events of the first turn end within those up to the end of the call or go on
      -- behind it, the first turns lead just to that end
      go : ((less : List (Event T)) → (after_turns (after_turn t turn) turns).events ≡ ((t.events ++ es) ++ (less ++ Finished p start answer ∷ [])) ++ later
          → UpTo (after_turn t turn) turns ((t.events ++ es) ++ (less ++ Finished p start answer ∷ [])))
          → ((rest : List (Event T)) × (end ≡ es ++ rest)) ⊎ ((rest : List (Event T)) × (es ≡ end ++ rest)) → UpTo t (turn ∷ turns) (t.events ++ end)
      go on (inr b) =
          let none : b.0 ≡ [] = last_end p start answer b.0 t.world turn xs (b.1 ∙ append_assoc xs (Finished p start answer ∷ []) b.0) in
          here (sym (b.1 ∙ (ap (λ zs. end ++ zs) none ∙ append-nil end)))
      go on (inl a) = ⊎_elim now later_on (last_too xs es a.0 (Finished p start answer) a.1)
        where
          -- the first turn ends the call
          now : a.0 ≡ [] → UpTo t (turn ∷ turns) (t.events ++ end)
          now none = here (a.1 ∙ (ap (λ zs. es ++ zs) none ∙ append-nil es))

          -- where the call ends only behind the events of the first turn, the first turns lead just to that end
          later_on : (less : List (Event T)) × (a.0 ≡ less ++ Finished p start answer ∷ []) → UpTo t (turn ∷ turns) (t.events ++ end)
          later_on l =
              let same : t.events ++ end ≡ (t.events ++ es) ++ (l.0 ++ Finished p start answer ∷ []) =
              ap (λ zs. t.events ++ zs) (a.1 ∙ ap (λ zs. es ++ zs) l.1) ∙ sym (append_assoc t.events es (l.0 ++ Finished p start answer ∷ [])) in
              let u = on l.0 (events_are ∙ ap (λ zs. zs ++ later) same) in
              record { first = turn ∷ u.first; rest = u.rest; is = ap (λ ts. turn ∷ ts) u.is; told = u.told ∙ sym same }

  -- of turns none of which is refused, the first ones are not refused
  allowed_first : (refuses : World T → Turn T → Option Refusal) (t : Trace T) (first rest : List (Turn T)) → AreAllowedBy refuses t (first ++ rest)
      → AreAllowedBy refuses t first
  allowed_first refuses t [] rest all = tt
  allowed_first refuses t (turn ∷ first) rest all = (all.0, allowed_first refuses (after_turn t turn) first rest all.1)

  -- of turns in none of which the last position or version is found, this holds of the first ones
  fresh_first : (t : Trace T) (first rest : List (Turn T)) → AreFresh t (first ++ rest) → AreFresh t first
  fresh_first t [] rest all = tt
  fresh_first t (turn ∷ first) rest all = (all.0, fresh_first (after_turn t turn) first rest all.1)

  -- two lists of turns lead where the second leads from where the first has led
  turns_more : (t : Trace T) (xs ys : List (Turn T)) → after_turns t (xs ++ ys) ≡ after_turns (after_turns t xs) ys
  turns_more t [] ys = refl
  turns_more t (x ∷ xs) ys = turns_more (after_turn t x) xs ys

  -- ---- what a pass knew as a call ended that it has seen

  module _ (code : Coding T) (kind : Kind) (capacity : ℕ) where
    -- the view that the pass had when it knew these turns alone
    abbrev pub then_view : View T → List (Turn T) → View T
    then_view v turns =
        record v {
          turns = turns;
          others = others_by (run_of code kind capacity turns).world v.party;
          asked = v.aside + steps_of_run code kind capacity turns;
        }

    -- what the pass has seen up to the end of a call is what the run of some of its first turns has
    pub known_then : (v now : View T) (xs : List (Event T)) (p : ℕ) (start : Start T) (answer : Answer T)
        → Knows code kind capacity now → IsPart v.share → v.seen ≡ xs ++ Finished p start answer ∷ [] → IsBeginning v.seen now.seen
        → (first : List (Turn T)) × AreFirst first now.turns × Knows code kind capacity (then_view v first)
    known_then v now xs p start answer knows share ends since =
        let begin : Trace T = opening code kind capacity 0 in
        let u = up_to xs p start answer since.rest (sym knows.is ∙ (since.is ∙ ap (λ es. es ++ since.rest) ends)) in (
          u.first,
          record { rest = u.rest; is = u.is },
          record {
            coded = knows.coded;
            admitted = knows.admitted;
            allowed = allowed_first (refusal_as kind) begin u.first u.rest (subst (λ ts. AreAllowedBy (refusal_as kind) begin ts) u.is knows.allowed);
            fresh = fresh_first begin u.first u.rest (subst (λ ts. AreFresh begin ts) u.is knows.fresh);
            is = ends ∙ sym u.told;
            others = refl;
            asked = record { share = share; most = omega arith; all = λ whole. omega arith };
          },
        )

    -- of two first parts of one run, the one with fewer events has fewer turns
    pub less_first : (x y : List (Turn T)) (a b : List (Event T)) (now : List (Turn T)) → AreFirst x now → AreFirst y now
        → a ≡ (run_of code kind capacity x).events → b ≡ (run_of code kind capacity y).events → length a < length b → AreFirst x y
    less_first x y a b now of_x of_y is_a is_b less =
        ⊎_elim (λ (e : (more : List (Turn T)) × (y ≡ x ++ more)). record { rest = e.0; is = e.1 }) (λ e. absurd (no e))
        (prefixes x y of_x.rest of_y.rest (sym of_x.is ∙ of_y.is))
      where
        -- more turns do not lead to fewer events
        no : (more : List (Turn T)) × (x ≡ y ++ more) → ⊥
        no e =
            let all : run_of code kind capacity x ≡ after_turns (run_of code kind capacity y) e.0 =
            ap (run_of code kind capacity) e.1 ∙ turns_more (opening code kind capacity 0) y e.0 in
            let grown_run = grown (run_of code kind capacity y) e.0 in
            let one : length a ≡ length ((run_of code kind capacity y).events ++ grown_run.0) =
            ap length (is_a ∙ (ap (λ (t : Trace T). t.events) all ∙ grown_run.1)) in
            omega (arith, length-append (run_of code kind capacity y).events grown_run.0, ap length is_b)
