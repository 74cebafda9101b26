-- That the calls of a page's machine act at each place at one moment, from what each stage does there.
use Rattle.std.specs.List.{Contains}
use Rattle.std.specs.Prelude.{IfSome}
use Rattle.std.proofs.Common.{◌+◌, ◌<◌, ◌==◌, ◌≡◌, ◌≢◌, ◌≤◌, ◌++◌, ◌∷◌, Bool, List, None, Option, Some, []}
use Rattle.std.proofs.Common.{ap, arith, cond, false, fold, length, refl, slice_index, slice_set, subst, sym, true, ℕ}
use Rattle.std.proofs.lemmas.Bool.Decides.{nat_tests}
use Rattle.pages.specs.Machine as machine
use Rattle.pages.specs.Machine.{Structure, Turn, World, After, GoOn, Done, Begin, Next, Invoked, Responded, calls_from, written}
use Rattle.pages.specs.Places.{Act, ActsAt}
use Rattle.model.proofs.Linearizable.Members.{all_of, later_so, none_there, pairs_of}
use Rattle.pages.proofs.Log.{Core, IsOpen, Party, Entry, Possible, conserved}
use Rattle.pages.proofs.Log as logs

-- what a step has done at the place: nothing more; it acts, for the first time; or it has only found what it left, and that does not count
pub data Moves {Call Answer : Type 0} (at : Call → Answer → Option Act) (call : Call) (did then : Option Act) (v w : ℕ) : Type 0 where
  Stays : then ≡ did → w ≡ v → Moves at call did then v w
  Acts : did ≡ None → (act : Act) → then ≡ Some act → act.found ≡ v → act.left ≡ w → Possible at call act → Moves at call did then v w
  Forgets : (act : Act) → did ≡ Some act → act.found ≡ act.left → then ≡ None → w ≡ v → Moves at call did then v w

module _ {Call Stage Answer : Type 0} (of : Structure Call Stage Answer) (at : Call → Answer → Option Act) where
  module _ (call_at : Stage → Call) (did : Stage → Option Act) (Fits : Stage → Type 0) where
    -- A call's first stage is one of that call, has done nothing at the place yet, and fits.
    pub record Begins (call : Call) : Type 0 where
      pub is : call_at (of.first call) ≡ call
      pub nothing : did (of.first call) ≡ None
      pub fits : Fits (of.first call)

    -- A call goes on to the stage `next`, by a step that takes the place from `v` to `w`.
    pub record GoesOn (stage next : Stage) (v w : ℕ) : Type 0 where
      pub call : call_at next ≡ call_at stage
      pub fits : Fits next
      pub moves : Moves at (call_at stage) (did stage) (did next) v w

    -- What a step from this stage came to is right: a call that goes on has done at the place what
    -- its next stage says, and one that is done what its answer says.
    abbrev pub Goes : Stage → After Stage Answer → ℕ → ℕ → Type 0
    Goes stage (GoOn next) v w = GoesOn stage next v w
    Goes stage (Done answer) v w = Moves at (call_at stage) (did stage) (at (call_at stage) answer) v w

  -- the words after the operation that a stage asks for
  abbrev pub words_then : List ℕ → Stage → List ℕ
  words_then words stage =
      slice_set words (of.does stage).0 (written (of.does stage).1 (slice_index words (of.does stage).0))

  -- what a structure owes at a place
  pub record Law : Type 1 where
    pub call_at : Stage → Call
    pub did : Stage → Option Act
    pub value : List ℕ → ℕ
    pub Fits : Stage → Type 0
    pub Few : ℕ → Type 0  -- so many turns have been taken
    pub Good : ℕ → List ℕ → Type 0  -- what holds of the words after so many
    pub opens : Good 0 of.words × (value of.words ≡ 0)
    pub waits : (n : ℕ) (words : List ℕ) → Good n words → Good (n + 1) words
    pub begins : (p : ℕ) (call : Call) → of.may p call ≡ true → Begins call_at did Fits call
    pub steps : (n : ℕ) (words : List ℕ) (stage : Stage) → Few n → Good n words → Fits stage
        → Good (n + 1) (words_then words stage)
        × Goes call_at did Fits stage ((of.does stage).2 (slice_index words (of.does stage).0)) (value words) (value (words_then words stage))

  module _ (law : Law) where
    abbrev Pending : Option Stage → Option (Call × Option Act)
    Pending None = None
    Pending (Some stage) = Some (law.call_at stage, law.did stage)

    -- The stage of a pending call fits.
    abbrev FitsIn : Option Stage → Type 0
    FitsIn None = Unit {0}
    FitsIn (Some stage) = law.Fits stage

    -- After `n` turns there is a log of what the calls did at the place, and it has what each
    -- party's pending call did there.
    record Holds (w : World Call Stage Answer) (n : ℕ) : Type 0 where
      pub log : List (Entry at)
      pub good : law.Good n w.words
      pub core : Core at w.history log (law.value w.words)
      pub fits : (p : ℕ) → FitsIn (w.pending p)
      pub parties : (p : ℕ) → Party at w.history log p (Pending (w.pending p))

    -- P holds of each party and its stage, once party `p` has the stage `o`.
    abbrev Putting : ℕ → Option Stage → (ℕ → Option Stage) → (ℕ → Option Stage → Type 0) → Type 0
    Putting p o pending P = (q : ℕ) → P q (machine.put p o pending q)

    -- what holds of one party's new stage and of all others' old ones holds of each party once the new one is put in
    put_all : (p : ℕ) (o : Option Stage) (pending : ℕ → Option Stage) (P : ℕ → Option Stage → Type 0)
        → P p o → ((q : ℕ) → q ≢ p → P q (pending q)) → Putting p o pending P
    put_all p o pending P own others q = go (q == p) refl
      where
        go : (b : Bool) → (q == p) ≡ b → P q (cond b o (pending q))
        go true t = let same : p ≡ q = grind (arith, nat_tests) in subst (λ q. P q o) same own
        go false t = let other : q ≢ p = grind (arith, nat_tests) in others q other

    -- at the opening there is a log that says what has been done at the place
    opening_holds : Holds (machine.opening of) 0
    opening_holds =
        record {
          log = [];
          good = law.opens.0;
          core = record {
            chain = sym law.opens.1;
            invoked = λ x is. absurd (none_there x is);
            answered = λ x is. absurd (none_there x is);
            completed = λ c is. absurd (none_there c is);
            once = tt;
            real_time = tt;
            earlier = λ c is. absurd (none_there c is);
            one = λ c d is. absurd (none_there c is);
          };
          fits = λ p. tt;
          parties = λ p c is. absurd (none_there c is);
        }

    -- ---- a call begins

    -- as a call begins it has done nothing at the place yet
    begins : (w : World Call Stage Answer) (n p : ℕ) (call : Call) → Holds w n → of.may p call ≡ true → w.pending p ≡ None
        → Holds (machine.begun of w p call true None) (n + 1)
    begins w n p call s may free =
        let first = law.begins p call may in
        let own =
        logs.begun_own at s.core p call
        (subst (λ o. Party at w.history s.log p (Pending o)) free (s.parties p)) in
        let h = w.history ++ Invoked p call ∷ [] in
        record {
          log = s.log;
          good = law.waits n w.words s.good;
          core = logs.begun_core at s.core p call;
          fits = put_all p (Some (of.first call)) w.pending (λ q o. FitsIn o) first.fits (λ q ne. s.fits q);
          parties = put_all p (Some (of.first call)) w.pending (λ q o. Party at h s.log q (Pending o))
              (subst (λ d. IsOpen at h s.log p (law.call_at (of.first call)) d) (sym first.nothing)
              (subst (λ c. IsOpen at h s.log p c None) (sym first.is) own))
              (λ q ne. logs.begun_other at s.core p call q ne (Pending (w.pending q)) (s.parties q));
        }

    -- ---- a call takes a step

    -- the log once a step has done this at the place
    record Logged (h : List (machine.Event Call Answer)) (old : List (Entry at)) (v : ℕ) (p : ℕ) (call : Call) (then : Option Act) : Type 0 where
      pub log : List (Entry at)
      pub core : Core at h log v
      pub own : IsOpen at h log p call then
      pub others : (q : ℕ) → q ≢ p → (o : Option (Call × Option Act)) → Party at h old q o → Party at h log q o

    -- the log goes along with what a step does at the place
    logged : {h : List (machine.Event Call Answer)} {log : List (Entry at)} {v w p : ℕ} {call : Call} {did then : Option Act}
        → Core at h log v → IsOpen at h log p call did → Moves at call did then v w → Logged h log w p call then
    logged {h} {log} {v} {w} {p} {call} {did} {then} core own (Stays same stays) =
        record {
          log = log;
          core = subst (Core at h log) (sym stays) core;
          own = subst (IsOpen at h log p call) (sym same) own;
          others = λ q ne o had. had;
        }
    logged {h} {log} {v} {w} {p} {call} {did} {then} core own (Acts none act is finds leaves possible) =
        let nothing_yet = subst (IsOpen at h log p call) none own in
        record {
          log = logs.log_acted at core act nothing_yet;
          core = subst (Core at h _) leaves (logs.acted_core at core act nothing_yet possible finds);
          own = subst (IsOpen at h _ p call) (sym is) (logs.acted_own at core act nothing_yet);
          others = logs.acted_other at core act nothing_yet;
        }
    logged {h} {log} {v} {w} {p} {call} {did} {then} core own (Forgets act had idle none stays) =
        let had_done = subst (IsOpen at h log p call) had own in
        record {
          log = logs.log_forgotten at core had_done idle;
          core = subst (Core at h _) (sym stays) (logs.forgotten_core at core had_done idle);
          own = subst (IsOpen at h _ p call) (sym none) (logs.forgotten_own at core had_done idle);
          others = logs.forgotten_other at core had_done idle;
        }

    -- as a call takes a step there is a log again, of the words that the step leaves
    goes_on : (w : World Call Stage Answer) (n p : ℕ) (stage : Stage) → law.Few n → Holds w n → w.pending p ≡ Some stage
        → Holds (machine.stepped of w p (Some stage)) (n + 1)
    goes_on w n p stage few s pending =
        let old = slice_index w.words (of.does stage).0 in
        let words = words_then w.words stage in
        let step = law.steps n w.words stage few s.good (subst FitsIn pending (s.fits p)) in
        let own = subst (λ o. Party at w.history s.log p (Pending o)) pending (s.parties p) in
        by ((of.does stage).2 old) words step.0 own step.1
      where
        -- the cases are whether the call goes on or is done
        by : (a : After Stage Answer) (words : List ℕ) → law.Good (n + 1) words → IsOpen at w.history s.log p (law.call_at stage) (law.did stage)
            → Goes law.call_at law.did law.Fits stage a (law.value w.words) (law.value words)
            → Holds (machine.gone of w p words a) (n + 1)
        by (GoOn next) words good own goes =
            -- the log after what the step did at the place
            let l = logged s.core own goes.moves in
            record {
              log = l.log;
              good = good;
              core = l.core;
              fits = put_all p (Some next) w.pending (λ q o. FitsIn o) goes.fits (λ q ne. s.fits q);
              parties = put_all p (Some next) w.pending (λ q o. Party at w.history l.log q (Pending o))
                  (subst (λ c. IsOpen at w.history l.log p c (law.did next)) (sym goes.call) l.own)
                  (λ q ne. l.others q ne (Pending (w.pending q)) (s.parties q));
            }
        by (Done answer) words good own goes =
            let call = law.call_at stage in
            -- the log after what the step did at the place, and then after the response
            let l = logged s.core own goes in
            let h = w.history ++ Responded p answer ∷ [] in
            let done = logs.log_done at l.core answer l.own in
            record {
              log = done;
              good = good;
              core = logs.done_core at l.core answer l.own;
              fits = put_all p None w.pending (λ q o. FitsIn o) tt (λ q ne. s.fits q);
              parties = put_all p None w.pending (λ q o. Party at h done q (Pending o))
                  (logs.done_own at l.core answer l.own)
                  (λ q ne. logs.done_other at l.core answer l.own q ne (Pending (w.pending q))
                  (l.others q ne (Pending (w.pending q)) (s.parties q)));
            }

    -- ---- every turn

    waits : (w : World Call Stage Answer) (n : ℕ) → Holds w n → Holds w (n + 1)
    waits w n s = record { log = s.log; good = law.waits n w.words s.good; core = s.core; fits = s.fits; parties = s.parties }

    -- after each turn there is a log that says what has been done at the place
    one_turn : (w : World Call Stage Answer) (n : ℕ) (turn : Turn Call) → law.Few n → Holds w n → Holds (machine.turned of w turn) (n + 1)
    one_turn w n (Begin p call) few s = go (of.may p call) refl (w.pending p) refl
      where
        -- the cases are whether the party may begin the call and whether it has one under way
        go : (b : Bool) → of.may p call ≡ b → (o : Option Stage) → w.pending p ≡ o → Holds (machine.begun of w p call b o) (n + 1)
        go true may None free = begins w n p call s may free
        go true may (Some stage) e = waits w n s
        go false may o e = waits w n s
    one_turn w n (Next p) few s = go (w.pending p) refl
      where
        go : (o : Option Stage) → w.pending p ≡ o → Holds (machine.stepped of w p o) (n + 1)
        go None e = waits w n s
        go (Some stage) e = goes_on w n p stage few s e

    -- after a list of turns, each within the number of turns that the law allows (`Few`), there is such a log
    all_turns : (turns : List (Turn Call)) (w : World Call Stage Answer) (n : ℕ) → ((k : ℕ) → n ≤ k → k < n + length turns → law.Few k) → Holds w n
        → Holds (fold (machine.turned of) w turns) (n + length turns)
    all_turns [] w n few s = let same : n ≡ n + 0 = omega arith in subst (Holds w) same s
    all_turns (turn ∷ turns) w n few s =
        let same : n + 1 + length turns ≡ n + length (turn ∷ turns) = omega arith in
        subst (Holds (fold (machine.turned of) (machine.turned of w turn) turns)) same
        (all_turns turns (machine.turned of w turn) (n + 1) (λ k le lt. few k (omega arith) (omega arith))
        (one_turn w n turn (few n (omega arith) (omega arith)) s))

    -- where there is a log, each call acts at the place at one moment
    acts_at : (w : World Call Stage Answer) (n : ℕ) → Holds w n → ActsAt at w.history (law.value w.words)
    acts_at w n s =
        record {
          sequence = s.log;
          chain = s.core.chain;
          conserved = (let all = conserved 0 (logs.acts at s.log) (law.value w.words) s.core.chain in omega arith);
          invoked = all_of (λ x. Contains (calls_from w.history 0) x.0) s.log s.core.invoked;
          answered =
              all_of (λ x. (answer : Answer) × (at x.0.call answer ≡ Some x.1) × IfSome x.0.response (λ r. r.1 ≡ answer))
              s.log (λ x is. let had = s.core.answered x is in (had.0, had.1.0, had.1.1));
          completed =
              all_of (λ call. IfSome call.response (λ r. IfSome (at call.call r.1) (λ act. Contains s.log (call, act))))
              (calls_from w.history 0) s.core.completed;
          once =
              pairs_of (λ x y. x.0 ≢ y.0) s.log
              (later_so (λ x y. x.0.place ≢ y.0.place) (λ x y. x.0 ≢ y.0)
              (λ x y ne e. ne (ap (λ (c : machine.Called Call Answer). c.place) e)) s.log s.core.once);
          real_time = pairs_of (λ x y. IfSome y.0.response (λ r. x.0.place ≤ r.0)) s.log s.core.real_time;
        }

    -- After so few turns the calls of the machine act at the place, each at one moment.
    pub acts : (turns : List (Turn Call)) → ((k : ℕ) → k < length turns → law.Few k)
        → ActsAt at (fold (machine.turned of) (machine.opening of) turns).history (law.value (fold (machine.turned of) (machine.opening of) turns).words)
    acts turns few =
        acts_at (fold (machine.turned of) (machine.opening of) turns) (0 + length turns)
        (all_turns turns (machine.opening of) 0 (λ k le lt. few k (omega arith)) opening_holds)
