-- What a step of a call of the robust index set has to show (`Leads`, `StepOf`), and the lemmas for a call
-- that goes on and for one that ends.
use Rattle.laws_robust.proofs.Names.{◌≡◌, ◌≢◌, ℕ, ◌+◌, ◌≤◌, ◌==◌, ⊎_elim, inl, inr, if◌then◌else◌, Bool, true, false}
use Rattle.laws_robust.proofs.Names.{Option, Some, None, List, [], ◌∷◌, ◌++◌, get_or, set, fold, refl, sym, ap}
use Rattle.laws_robust.proofs.Names.{◌∙◌, append-nil, arith, nat_tests, flat_map-append}
use Rattle.laws_robust.proofs.Names.{fold-append, Ask, After, GoOn, Done, Answer, Event, Finished, Robust, Flight}
use Rattle.laws_robust.proofs.Names.{RobustStart, RobustFlight, Over, Party, ask_of, most_steps, want, after}
use Rattle.laws_robust.proofs.Names.{goes_back, promise, SetAct, set_act, set_acts, settled_after}
use Rattle.laws_robust.proofs.Names.{set_acts_of, HasDone, effects, Stands, Open, own_after, span_of, as_call}
use Rattle.laws_robust.proofs.Names.{answer_in, one_if, old_of, words_after, change_of, step_count, number_of}
use Rattle.laws_robust.proofs.Names.{party_after, ending_of, AreOwn, AllFollow, AreRight, span_of-own}
use Rattle.steps.specs.Ask.{written}
use Rattle.model.specs.declared.families.Flight.TheVariants as flights
use Rattle.model.specs.declared.families.Registry.TheVariants as registries
use Rattle.model.proofs.Turns.{kept_words}
use Rattle.laws_robust.specs.Gone.{AsksBy, AnswersBy}
use Rattle.laws_robust.proofs.Core.{counter_of}
use Rattle.laws_robust.proofs.Effects.{Stays, quiet_none, quiet_end, quietly}
use Rattle.laws_robust.proofs.Invariant.{IsWorn, Scene, Inv, Does, Shows, wrote_of, view}
use Rattle.laws_robust.proofs.CallProgress as standing
use Rattle.laws_robust.proofs.Knows.{View, Knows, IsSeen, IsPaid, PaidUnless, Holding}
use Rattle.laws_robust.proofs.CallProgress.{At}
use Rattle.laws_robust.proofs.Rights.{Right, right_after}
use Rattle.lemmas.proofs.Cases.{on_bool}

-- a step leaves the words as they are, or the number of changes goes up
pub is_seen : (words : List ℕ) (ask : Option Ask) (changes : ℕ) → IsSeen words (words_after words ask) changes (changes + change_of words ask)
is_seen words None changes = inl (refl, omega arith)
is_seen words (Some ask) changes =
    on_bool (λ b. IsSeen words (words_after words (Some ask)) changes (changes + (if b then 0 else 1)))
    (get_or (words_after words (Some ask)) ask.word 0 == get_or words ask.word 0)
    (λ t.
    let same : get_or (words_after words (Some ask)) ask.word 0 ≡ get_or words ask.word 0 = grind (arith, nat_tests) in
    inl (kept_words words ask.word (written ask.op (get_or words ask.word 0)) same, omega arith))
    (λ t. inr refl)

module _ {T : Type 0} where
  -- a call of the set as one of any family
  abbrev pub any_call : After RobustFlight (Answer T) → After (Flight T) (Answer T)
  any_call after = as_call flights.Robust (λ answer. answer) after

  -- events that make an open span longer, and do not end it
  abbrev pub Lengthens : List (Event T) → Type 0
  Lengthens es =
      (start : RobustStart) (w : List (Event T)) → fold own_after (Open (Robust start) w) es ≡ Open (Robust start) (w ++ es)

  -- the empty list of events lengthens an open span by nothing
  pub none_lengthens : Lengthens []
  none_lengthens start w = ap (λ es. Open (Robust start) es) (sym (append-nil w))

-- `c` is the capacity, `p` the party that takes the step
module _ {T : Type 0} (scene : Scene T) where
  open scene use {by as by, capacity as c, party as p, steps as steps, backs as backs, since as since, changes as changes, events as events}

  -- the words of the set before the step
  abbrev pub ws : List ℕ
  ws = scene.set.words

  -- what the call under way has written, and done
  abbrev pub wrote : List (Event T)
  wrote = wrote_of p events

  -- what the call under way has done to the set
  abbrev pub all : List SetAct
  all = set_acts_of p events

  -- the party has a call of this name under way
  abbrev pub IsHere : RobustStart → Type 0
  IsHere start = span_of p events ≡ Open (Robust start) (wrote_of p events)

  -- ---- a step

  abbrev party : RobustStart → Party T
  party start = record { start = Robust start; steps = steps; backs = backs; doing = Over 0 }

  -- the party after the step
  abbrev pub party_then : RobustStart → Option Ask → Bool → After RobustFlight (Answer T) → Party T
  party_then start ask back after =
      party_after (party start) since changes (step_count ask) (change_of ws ask)
      (record { after = any_call after; back = back; wrote = []; kept = registries.Owners scene.set.dead })

  -- how often words had changed when the call began, not counting this step
  abbrev pub since_then : Option Ask → ℕ
  since_then ask = since + change_of ws ask

  -- how often words have changed after a step with this operation
  abbrev pub changes_then : Option Ask → ℕ
  changes_then ask = changes + change_of ws ask

  -- how often the call has turned back after this step
  abbrev pub backs_then : Bool → ℕ
  backs_then back = backs + one_if back

  -- what the call sees before the step
  abbrev pub now : View T
  now = view by ws events p since changes backs

  -- what the call sees after a step with this operation, where the events are then `later`
  abbrev pub seen : Option Ask → Bool → List (Event T) → View T
  seen ask back later = view by (words_after ws ask) later p (since_then ask) (changes_then ask) (backs_then back)

  -- what it sees after a step that writes the events `es`
  abbrev pub then_sees : Option Ask → Bool → List (Event T) → View T
  then_sees ask back es = seen ask back (events ++ es)

  -- what it sees after a step that writes nothing
  abbrev pub sees : Option Ask → Bool → View T
  sees ask back = seen ask back events

  -- a step with the operation `ask` that wrote `did`, after which the call is as `after` says, keeps the
  -- invariant (`Shows`, Invariant)
  abbrev pub Leads : RobustStart → Option Ask → Bool → List (Event T) → After RobustFlight (Answer T) → Type 0
  Leads start ask back did after =
      Shows scene (words_after ws ask) (Open (Robust start) (wrote_of p events)) (party_then start ask back after)
      (did ++ ending_of p (Robust start) (answer_in (any_call after))) (changes + change_of ws ask)

  -- the turn in which this call gets the answer `answer` keeps the invariant (`Shows`)
  abbrev pub AnswerOf : RobustStart → RobustFlight → Option Ask → ℕ → Type 0
  AnswerOf start flight ask answer =
      Leads start ask (goes_back flight answer) (effects p flight answer) (after flight answer)

  -- the next step of this call keeps the invariant (`Shows`)
  abbrev pub StepOf : RobustStart → RobustFlight → Type 0
  StepOf start flight = AnswerOf start flight (ask_of (want flight)) (old_of ws (ask_of (want flight)))

  -- a decision for this call keeps the invariant (`Shows`)
  abbrev pub DecisionOf : RobustStart → RobustFlight → Bool → Type 0
  DecisionOf start flight said = AnswerOf start flight None (number_of said)

  -- ---- what the call knows of the counts after a step

  -- turns back that are paid, one more unless `P` holds, are paid
  pub paid_of : (P : Type 0) → PaidUnless P now → IsPaid now
  paid_of P paid_unless = ⊎_elim (λ k. k.1) (λ k. omega arith) paid_unless

  -- turns back that are paid stay so after a step of the call itself
  pub paid_then : (ask : Option Ask) (later : List (Event T)) → IsPaid now → IsPaid (seen ask false later)
  paid_then ask later paid = omega arith

  -- a counter that has moved on from the number that the call holds pays for a turn back
  pub paid_back : (number : ℕ) (ask : Option Ask) (later : List (Event T)) → counter_of ws ≢ number → Holding number now → IsPaid (seen ask true later)
  paid_back number ask later other holding = ⊎_elim (λ k. absurd (other k.0)) (λ k. omega arith) holding.paid

  -- a step that leaves the counter leaves what the call knows of it
  pub holds_on : (number : ℕ) (ask : Option Ask) (later : List (Event T))
      → counter_of (words_after ws ask) ≡ counter_of ws → Holding number now → Holding number (seen ask false later)
  holds_on number ask later same holding = grind arith

  -- ---- what the party has written

  module _ (start : RobustStart) (here : IsHere start) (es : List (Event T)) (own : AreOwn p es) (longer : Lengthens es) where
    -- the party has written after the step what it had written and the events of the step
    wrote_more : wrote_of p (events ++ es) ≡ wrote_of p events ++ es
    wrote_more = grind (arith, span_of-own, fold)

    -- the acts of the party after the step are those before it and those of the step
    pub set_acts_more : set_acts_of p (events ++ es) ≡ set_acts_of p events ++ set_acts es
    set_acts_more = ap set_acts wrote_more ∙ flat_map-append set_act (wrote_of p events) es

  -- ---- the call goes on, or ends

  -- What has to be shown of a step with the operation `ask` after which the call goes on: the events `did` that it writes do not end the call
  -- and may stand in it, it does to the set what a turn may do, and after it the call is within its steps, stands at its next
  -- stage and knows what that stage says.
  pub record GoesOn (start : RobustStart) (flight : RobustFlight) (ask : Option Ask) (back : Bool) (did : List (Event T)) : Type 0 where
    pub longer : Lengthens (did ++ [])
    pub does : Does scene (words_after ws ask) (did ++ [])
    pub follows : AllFollow (Stands promise c) (Open (Robust start) (wrote_of p events)) (did ++ [])
    pub asks : AreRight (AsksBy by) events (did ++ [])
    pub few : steps + step_count ask ≤ standing.number_of c flight (backs_then back)
    pub stands : At c (set_acts_of p events ++ set_acts (did ++ [])) start flight
    pub known : Knows c flight (then_sees ask back (did ++ []))

  -- such a step keeps the invariant (`Shows`)
  pub goes_on : {start : RobustStart} {flight : RobustFlight} (ask : Option Ask) (back : Bool) (did : List (Event T))
      → IsHere start → GoesOn start flight ask back did → Leads start ask back did (GoOn flight)
  goes_on {start = start} ask back did here goes =
      let own = goes.does.own in
      record {
        does = goes.does;
        stands = goes.follows;
        asks = goes.asks;
        here =
            record {
              span =
                  goes.longer start (wrote_of p events)
                  ∙ ap (λ es. Open (Robust start) es) (sym (wrote_more start here (did ++ []) own goes.longer));
              steps = goes.few;
              at = rw (set_acts_more start here (did ++ []) own goes.longer) goes.stands;
            };
        knows = goes.known;
        seen = is_seen ws ask changes;
      }

  -- What has to be shown of a step with the operation `ask` that ends the call with `answer`: the events `did`, and then the end, may stand in the
  -- call, it does to the set what a turn may do, and the call is within its bound of steps and has paid for its turns back.
  pub record Ends (start : RobustStart) (answer : Answer T) (ask : Option Ask) (back : Bool) (did : List (Event T)) : Type 0 where
    pub longer : Lengthens did
    pub does : Does scene (words_after ws ask) (did ++ Finished p (Robust start) answer ∷ [])
    pub follows : AllFollow (Stands promise c) (Open (Robust start) (wrote_of p events)) (did ++ Finished p (Robust start) answer ∷ [])
    pub asks : AreRight (AsksBy by) events (did ++ Finished p (Robust start) answer ∷ [])
    pub few : steps + step_count ask ≤ most_steps c start (backs_then back)
    pub paid : IsPaid (then_sees ask back (did ++ Finished p (Robust start) answer ∷ []))

  -- such a step keeps the invariant (`Shows`)
  pub ends : {start : RobustStart} (answer : Answer T) (ask : Option Ask) (back : Bool) (did : List (Event T))
      → IsHere start → Ends start answer ask back did → Leads start ask back did (Done answer)
  ends {start = start} answer ask back did here ending =
      let paid = ending.paid in
      record {
        does = ending.does;
        stands = ending.follows;
        asks = ending.asks;
        here =
            record {
              answer = answer;
              wrote = wrote_of p events ++ did;
              span =
                  fold-append own_after (Open (Robust start) (wrote_of p events)) did (Finished p (Robust start) answer ∷ [])
                  ∙ ap (λ s. own_after s (Finished p (Robust start) answer)) (ending.longer start (wrote_of p events));
              steps = ending.few;
            };
        knows = omega arith;
        seen = is_seen ws ask changes;
      }

  -- ---- a step that writes nothing but an end, and leaves the cells

  module _ (inv : Inv scene) where
    -- a step that writes nothing, and after which the call goes on, keeps the invariant (`Shows`)
    pub goes_quietly :
        {start : RobustStart} {flight : RobustFlight} (ask : Option Ask) (back : Bool) → IsHere start → Stays scene (words_after ws ask)
        → steps + step_count ask ≤ standing.number_of c flight (backs_then back)
        → At c (set_acts_of p events) start flight
        → Knows c flight (view by (words_after ws ask) events p (since_then ask) (changes_then ask) (backs_then back))
        → Leads start ask back [] (GoOn flight)
    goes_quietly {start = start} {flight = flight} ask back here stays few at known =
        goes_on ask back [] here (record {
          longer = none_lengthens;
          does = quietly scene inv (words_after ws ask) [] stays.leaves quiet_none tt tt tt;
          follows = tt;
          asks = tt;
          few = few;
          stands = rw (append-nil (set_acts_of p events)) at;
          known = rw (append-nil events) known;
        })

    -- What has to be shown of a step that ends the call with `answer`, leaves all words but the counter and writes nothing but the end: the
    -- set reads nothing in that end, the answer is right and as the call has done, and the call is within its steps and has paid.
    pub record EndsQuietly (start : RobustStart) (answer : Answer T) (ask : Option Ask) (back : Bool) : Type 0 where
      pub stays : Stays scene (words_after ws ask)
      pub settles : (i : ℕ) (o : Option ℕ) → settled_after i o (Finished p (Robust start) answer) ≡ o
      pub rights : (i : ℕ) (r : Right) → right_after i r (Finished p (Robust start) answer) ≡ r
      pub right : AnswersBy by (IsWorn by (words_after ws ask)) c events (Finished p (Robust start) answer)
      pub done : HasDone start answer (set_acts_of p events)
      pub few : steps + step_count ask ≤ most_steps c start (backs_then back)
      pub paid : IsPaid (then_sees ask back (Finished p (Robust start) answer ∷ []))

    -- such a step keeps the invariant (`Shows`)
    pub ends_quietly : {start : RobustStart} {answer : Answer T} (ask : Option Ask) (back : Bool)
        → IsHere start → EndsQuietly start answer ask back → Leads start ask back [] (Done answer)
    ends_quietly {start = start} {answer = answer} ask back here ending =
        ends answer ask back [] here (record {
          longer = none_lengthens;
          does =
              quietly scene inv (words_after ws ask) (Finished p (Robust start) answer ∷ []) ending.stays.leaves
              (quiet_end p (Robust start) answer ending.settles ending.rights) (refl, tt) (tt, tt) (ending.right, tt);
          follows = ((refl, ending.done), tt);
          asks = (tt, tt);
          few = ending.few;
          paid = ending.paid;
        })
