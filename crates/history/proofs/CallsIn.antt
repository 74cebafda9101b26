-- When a call of the driver is a call of the model (`StepsOf`, `StepsAs`): it wants the same words, goes on
-- in the same way and writes what it tells.
use Rattle.history.proofs.Names.{◌^◌, ◌+◌, true, false, ◌≡◌, ℕ, ◌<◌, Option, Some, None, List, [], ◌∷◌, ◌++◌, refl}
use Rattle.history.proofs.Names.{sym, ap, subst, ◌∙◌, append_assoc, append-nil, arith, fold, ◌==◌, nat_tests}
use Rattle.history.proofs.Names.{fold-append, written, Ask, After, GoOn, Want, Answer, Event, Begun, Start, Flight}
use Rattle.history.proofs.Names.{Kind, Coding, want_of, after_of, goes_of, ask_of, is_question, whose, is_party}
use Rattle.history.proofs.Names.{span_of, span_after, own_after, Span, Never, Open, old_of, World, Trace, answered}
use Rattle.history.proofs.Names.{IsAll, IsFreshCall, KeepsRule}
use Rattle.steps.specs.declared.ask.After.TheVariants.{Done}
use Rattle.steps.specs.declared.ask.Want.TheVariants as wants
use Rattle.history.specs.declared.view.View.{View}
use Rattle.history.specs.Known.{events_by}
use Rattle.history.specs.History.{IsRun, IsMachine, IsLate, call_in}
use Rattle.history.specs.Stages.{Calling, At, Ends, Over, opened}
use Rattle.history.proofs.Known.{AreOf, by_mine}
use Rattle.history.proofs.KindLaws.{Machines, SteadyMachines}
pub use Rattle.lemmas.proofs.Cases.{by_bool}

-- a list that stays the same with `rest` behind it has an empty `rest`
pub no_rest : {A : Type 0} → (xs rest : List A) → xs ≡ xs ++ rest → rest ≡ []
no_rest [] rest xs_is = sym xs_is
no_rest (x ∷ xs) rest xs_is = let same : xs ≡ xs ++ rest = cc in no_rest xs rest same

-- what comes behind the same list in two equal lists is equal
pub same_rest : {A : Type 0} → (xs a b : List A) → xs ++ a ≡ xs ++ b → a ≡ b
same_rest [] a b lists_are = lists_are
same_rest (x ∷ xs) a b lists_are = (let same : xs ++ a ≡ xs ++ b = cc in same_rest xs a b same)

-- nothing comes behind a list that is empty in all
pub none_after : {A : Type 0} → (xs rest : List A) → [] ≡ xs ++ rest → rest ≡ []
none_after [] rest lists_are = sym lists_are
none_after (x ∷ xs) rest lists_are = absurd (cc)

-- the list of what a call began or went on with, with more behind it, in another order of brackets
pub regroup : {A : Type 0} → (xs os ds es ls : List A) → (xs ++ (os ++ ds)) ++ (es ++ ls) ≡ xs ++ (os ++ ((ds ++ es) ++ ls))
regroup = grind (arith, append_assoc)

-- a call of the driver as a call of the model
module _ {T C M E : Type 0} (call : Calling T C M E) where
  -- how the model's call goes on, by how the driver's does: at the flight of the next stage, or with the
  -- answer of its end
  abbrev pub goes : After C E → M → After (Flight T) (Answer T)
  goes (GoOn d) m = GoOn (call.flight d m)
  goes (Done e) m = Done (call.answer e m)

-- a call of the driver: what it wants at each stage, how it goes on, what it keeps in its room, and what call
-- of the model it is
pub record Driven (T C M E : Type 0) : Type 1 where
  pub want : C → Want (Unit {0})
  pub after : C → ℕ → After C E
  pub kept : C → M → ℕ → M
  pub call : Calling T C M E

-- what is wanted is one of the first `size` words
abbrev pub AsksFor : ℕ → Want (Unit {0}) → Type 0
AsksFor size want = (a : Ask) × (a.word < size) × (want ≡ wants.Ask a)

-- the steps of a call whose kind's parties write for themselves alone, with what is known of the words that it asks for
module _ {T C M E : Type 0} (Asks : Type 0) (code : Coding T) (effects : ℕ → Flight T → ℕ → List (Event T)) (driven : Driven T C M E) where
  open driven use {want, after, kept, call}

  -- The model's call wants the same word, goes on in the same way, and its effects are what the driver's call
  -- tells, where these depend on the call's stage alone.
  pub record StepsOf : Type 0 where
    -- the model's call wants what the driver's call wants, and goes to the stage to which that goes
    pub same_want : (c : C) (m : M) → want_of code (call.flight c m) ≡ want c
    pub same_after : (capacity : ℕ) (c : C) (m : M) (n : ℕ) → call.stands capacity c → after_of code (call.flight c m) n ≡ goes call (after c n) (kept c m n)
    -- what the call hears of an operation is what it found, since the operation's answer does not change how
    -- it goes on
    pub hears : (c : C) (m : M) (a : Ask) (n : ℕ) → want c ≡ wants.Ask a → (after c (answered a.op n) ≡ after c n) × (kept c m (answered a.op n) ≡ kept c m n)
    -- a call that goes on stands as its `stands` says, and asks for what `Asks` says
    pub stays : (capacity : ℕ) (c d : C) (n : ℕ) → call.stands capacity c → after c n ≡ GoOn d → call.stands capacity d
    pub asks : Asks
    -- only a call at its first stage may be ended by a word outside the history
    pub past : (capacity : ℕ) (c d : C) (n k : ℕ) → call.stands capacity c → after c n ≡ GoOn d → call.skips d k ≡ false
    -- a word that does not end the call outside the history is not the last position or version
    pub finds : (c : C) (m : M) (n : ℕ) → n < 2 ^ 64 → call.skips c n ≡ false → IsFreshCall n (call.flight c m)
    -- a word that ends the call outside the history is left unchanged, and the call ends with an
    -- end that `left` allows
    pub leaves : (c : C) (a : Ask) (n : ℕ) → call.skips c n ≡ true → want c ≡ wants.Ask a → (written a.op n ≡ n) × (e : E) × call.left e × (after c n ≡ Done e)
    -- what a step with which the call goes on writes, together with what was written, may have been written
    -- up to the next stage
    pub tells : (capacity p : ℕ) (from : Option (Start T × Flight T)) (c d : C) (m : M) (n : ℕ) (es : List (Event T))
        → call.stands capacity c → call.wrote capacity p from c m es → after c n ≡ GoOn d
        → call.wrote capacity p from d (kept c m n) (es ++ effects p (call.flight c m) n)
    -- what the last step writes, together with what was written, may have been written in all
    pub tells_all : (capacity p : ℕ) (from : Option (Start T × Flight T)) (c : C) (e : E) (m : M) (n : ℕ) (es : List (Event T))
        → call.stands capacity c → call.skips c n ≡ false → call.wrote capacity p from c m es → after c n ≡ Done e
        → is_question (want c) ≡ false
        → call.wrote_all capacity p from e (kept c m n) (es ++ effects p (call.flight c m) n)

-- A step of the call at the stage c with the room m, where the word that it asks for is n. Since `from` its
-- party p has written `es`, which is what the call may have written up to this stage.
pub record OwnStep {T C M E : Type 0} (call : Calling T C M E) : Type 0 where
  pub capacity : ℕ
  pub p : ℕ
  pub from : Option (Start T × Flight T)
  pub c : C
  pub m : M
  pub n : ℕ
  pub es : List (Event T)
  pub stands : call.stands capacity c
  pub wrote : call.wrote capacity p from c m es

module _ {T C M E : Type 0} (effects : ℕ → Flight T → ℕ → List (Event T)) (driven : Driven T C M E) where
  open driven use {want, after, kept, call}

  -- what the call has written after the step
  abbrev wrote_with : OwnStep call → List (Event T)
  wrote_with step = step.es ++ effects step.p (call.flight step.c step.m) step.n

  -- the `tells` of `StepsOf`, from what is known of such a step with which the call goes on
  pub each_tells : ((step : OwnStep call) (d : C) → after step.c step.n ≡ GoOn d
      → call.wrote step.capacity step.p step.from d (kept step.c step.m step.n) (wrote_with step))
      → (capacity p : ℕ) (from : Option (Start T × Flight T)) (c d : C) (m : M) (n : ℕ) (es : List (Event T))
      → call.stands capacity c → call.wrote capacity p from c m es → after c n ≡ GoOn d
      → call.wrote capacity p from d (kept c m n) (es ++ effects p (call.flight c m) n)
  each_tells tells capacity p from c d m n es stands wrote =
      tells (record { capacity = capacity; p = p; from = from; c = c; m = m; n = n; es = es; stands = stands; wrote = wrote }) d

  -- the `tells_all` of `StepsOf`, from what is known of such a step that ends the call in the history
  pub last_tells : ((step : OwnStep call) (e : E) → call.skips step.c step.n ≡ false → after step.c step.n ≡ Done e
      → call.wrote_all step.capacity step.p step.from e (kept step.c step.m step.n) (wrote_with step))
      → (capacity p : ℕ) (from : Option (Start T × Flight T)) (c : C) (e : E) (m : M) (n : ℕ) (es : List (Event T))
      → call.stands capacity c → call.skips c n ≡ false → call.wrote capacity p from c m es → after c n ≡ Done e
      → is_question (want c) ≡ false → call.wrote_all capacity p from e (kept c m n) (es ++ effects p (call.flight c m) n)
  last_tells tells capacity p from c e m n es stands skip wrote leads still =
      tells (record { capacity = capacity; p = p; from = from; c = c; m = m; n = n; es = es; stands = stands; wrote = wrote }) e skip leads

-- at each stage the call asks for a word of the structure
abbrev pub AsksThere : {T C M E : Type 0} → (ℕ → ℕ) → Driven T C M E → Type 0
AsksThere {T} {C} size_of driven = (capacity : ℕ) (c : C) → driven.call.stands capacity c → AsksFor (size_of capacity) (driven.want c)

-- a call of the model each step of which is at a word of the structure, and whose effects
-- depend on its stage alone
abbrev pub IsCallBy : {T C M E : Type 0} → Coding T → (ℕ → Flight T → ℕ → List (Event T)) → (ℕ → ℕ) → Driven T C M E → Type 0
IsCallBy code effects size_of driven = StepsOf (AsksThere size_of driven) code effects driven

-- a call of the driver that is a call of the model, whose effects depend on its stage alone
abbrev pub IsCallOf : {T C M E : Type 0} → Coding T → (ℕ → Flight T → ℕ → List (Event T)) → (ℕ → ℕ) → (C → Want (Unit {0})) → (C → ℕ → After C E)
    → (C → M → ℕ → M) → Calling T C M E → Type 0
IsCallOf code effects size_of want after kept call = IsCallBy code effects size_of (record { want = want; after = after; kept = kept; call = call })

-- each step of the call keeps the rule of the machines, where `at` holds of its stage; it ends as `ends` says
abbrev pub KeepsSo : {T C M E : Type 0} → Coding T → Kind → (ℕ → ℕ) → Driven T C M E → (View T → View T → C → M → Type 0)
    → (View T → E → M → View T → Type 0) → Type 0
KeepsSo {T} code kind size_of driven at ends =
    KeepsRule (λ (z : View T). z.asked) (λ (z : View T). z.capacity) at ends (λ key. size_of key + 1) (λ key. key)
    (λ key. IsMachine code kind key) driven.want driven.after driven.kept

-- each step keeps the rule, and the call always ends in the history
abbrev pub KeepsEnds : {T C M E : Type 0} → Coding T → Kind → (ℕ → ℕ) → Driven T C M E → Type 0
KeepsEnds code kind size_of driven = KeepsSo code kind size_of driven (At code kind driven.call) (Ends code kind driven.call)

-- each step keeps the rule, and the call ends in the history, or a word ends it outside
abbrev pub KeepsOver : {T C M E : Type 0} → Coding T → Kind → (ℕ → ℕ) → Driven T C M E → Type 0
KeepsOver code kind size_of driven = KeepsSo code kind size_of driven (At code kind driven.call) (Over code kind driven.call)

-- The machine on which the call is to take a step: the call stands there at this flight, the word that it
-- asks for is n, and, where the call began in this drive, its party has written these events since.
pub record Met {T : Type 0} (code : Coding T) (kind : Kind) (capacity : ℕ) (start : Start T) (flight : Flight T)
    (p : ℕ) (from : Option (Start T × Flight T)) (es : List (Event T)) (n : ℕ) (t : Trace T) : Type 0 where
  pub run : IsRun code kind capacity t
  pub there : call_in t.world p ≡ Some (start, flight)
  pub found : old_of t.world.words (ask_of (want_of code flight)) ≡ n
  pub span : from ≡ None → span_of p t.events ≡ fold own_after (Open start []) es

-- A step of the call at the stage c with the room m, on the machine t, where the word that it asks for is n.
-- Since `from` its party p had written `es` as far as it has seen, and another party wrote `late` for it.
pub record Writing {T C M E : Type 0} (code : Coding T) (kind : Kind) (call : Calling T C M E) : Type 0 where
  pub capacity : ℕ
  pub p : ℕ
  pub from : Option (Start T × Flight T)
  pub c : C
  pub m : M
  pub n : ℕ
  pub es : List (Event T)
  pub late : List (Event T)
  pub t : Trace T
  -- the stage is one of the call, and the call may have written `es` up to there
  pub stands : call.stands capacity c
  pub wrote : call.wrote capacity p from c m es
  -- what came late may come late for the call there, which stands so on the machine
  pub waits : IsLate kind (Some (call.start, call.flight c m)) late
  pub met : Met code kind capacity call.start (call.flight c m) p from (es ++ late) n t

-- how it goes on: by itself, or by what the machine keeps
module _ {T C M E : Type 0} (code : Coding T) (kind : Kind) (driven : Driven T C M E) where
  open driven use {after, kept, call}

  -- how the model's call goes on depends on its stage alone
  abbrev pub GoesAlike : Type 0
  GoesAlike =
      (capacity : ℕ) (c : C) (m : M) (n : ℕ) → call.stands capacity c → after_of code (call.flight c m) n ≡ goes call (after c n) (kept c m n)

  -- how the model's call goes on may depend on what the machine keeps
  abbrev pub GoesThere : Type 0
  GoesThere =
      (capacity p : ℕ) (c : C) (m : M) (n : ℕ) (t : Trace T) → IsRun code kind capacity t → call_in t.world p ≡ Some (call.start, call.flight c m)
      → call.stands capacity c → goes_of code p (call.flight c m) n t.world.kept ≡ goes call (after c n) (kept c m n)

-- The steps of a call of a kind whose effects may depend on the machine, and where another party may write
-- for the call.
module _ {T C M E : Type 0} (Asks Goes : Type 0) (code : Coding T) (kind : Kind) (effects : World T → ℕ → Flight T → ℕ → List (Event T))
    (driven : Driven T C M E) where
  open driven use {want, after, kept, call}

  -- what the call has written after the step: what it had, what came late for it, and the step's effects that
  -- are its party's own
  abbrev pub written_with : Writing code kind call → List (Event T)
  written_with step = (step.es ++ step.late) ++ events_by step.p (effects step.t.world step.p (call.flight step.c step.m) step.n)

  -- The model's call wants the same word, goes on in the same way, and its effects, with what another party
  -- wrote for it, are what the driver's call tells. What it writes may depend on the machine.
  pub record StepsAs : Type 0 where
    -- the model's call wants what the driver's wants, and goes on as `Goes` says
    pub same_want : (c : C) (m : M) → want_of code (call.flight c m) ≡ want c
    pub same_after : Goes
    -- what the call hears of an operation is what it found
    pub hears : (c : C) (m : M) (a : Ask) (n : ℕ) → want c ≡ wants.Ask a → (after c (answered a.op n) ≡ after c n) × (kept c m (answered a.op n) ≡ kept c m n)
    -- a call that goes on stands as its `stands` says, and asks for what `Asks` says
    pub stays : (capacity : ℕ) (c d : C) (n : ℕ) → call.stands capacity c → after c n ≡ GoOn d → call.stands capacity d
    pub asks : Asks
    -- only a call at its first stage may be ended by a word outside the history
    pub past : (capacity : ℕ) (c d : C) (n k : ℕ) → call.stands capacity c → after c n ≡ GoOn d → call.skips d k ≡ false
    -- a word that does not end the call outside the history is not the last position or version
    pub finds : (c : C) (m : M) (n : ℕ) → n < 2 ^ 64 → call.skips c n ≡ false → IsFreshCall n (call.flight c m)
    -- a word that ends the call outside the history is left unchanged, and the call ends with an
    -- end that `left` allows
    pub leaves : (c : C) (a : Ask) (n : ℕ) → call.skips c n ≡ true → want c ≡ wants.Ask a → (written a.op n ≡ n) × (e : E) × call.left e × (after c n ≡ Done e)
    -- what a step with which the call goes on writes, with what came late, may have been written
    -- up to the next stage
    pub tells : (step : Writing code kind call) (d : C) → after step.c step.n ≡ GoOn d
        → call.wrote step.capacity step.p step.from d (kept step.c step.m step.n) (written_with step)
    -- what the last step writes, with what came late, may have been written in all
    pub tells_all : (step : Writing code kind call) (e : E) → call.skips step.c step.n ≡ false → after step.c step.n ≡ Done e
        → is_question (want step.c) ≡ false → call.wrote_all step.capacity step.p step.from e (kept step.c step.m step.n) (written_with step)

-- the steps of a call that goes on by its stage alone, and those of one that may go on by
-- what the machine keeps
abbrev pub StepsIn : {T C M E : Type 0} → Type 0 → Coding T → Kind → (World T → ℕ → Flight T → ℕ → List (Event T)) → Driven T C M E → Type 0
StepsIn Asks code kind effects driven = StepsAs Asks (GoesAlike code kind driven) code kind effects driven

-- the steps of a call that may go on by what the machine keeps
abbrev pub StepsThere : {T C M E : Type 0} → Type 0 → Coding T → Kind → (World T → ℕ → Flight T → ℕ → List (Event T)) → Driven T C M E → Type 0
StepsThere Asks code kind effects driven = StepsAs Asks (GoesThere code kind driven) code kind effects driven

-- a call that goes on by its stage alone, each step at a word, on a kind where another party may write for it
abbrev pub IsCallIn : {T C M E : Type 0} → SteadyMachines T → Driven T C M E → Type 0
IsCallIn machines driven = StepsIn (AsksThere machines.size_of driven) machines.code machines.kind machines.effects driven

-- a call whose machine steps may depend on what the machine keeps, each at a word
abbrev pub IsCallThere : {T C M E : Type 0} → Machines T → Driven T C M E → Type 0
IsCallThere machines driven = StepsThere (AsksThere machines.size_of driven) machines.code machines.kind machines.effects driven

-- A call whose effects depend on its stage alone, on a kind where nobody writes for another: its steps are
-- those of the more general kind.
module _ {T C M E Asks : Type 0} {code : Coding T} {kind : Kind} (effects : World T → ℕ → Flight T → ℕ → List (Event T))
    {own : ℕ → Flight T → ℕ → List (Event T)} {driven : Driven T C M E}
    (never : (c : C) (m : M) (late : List (Event T)) → IsLate kind (Some (driven.call.start, driven.call.flight c m)) late → late ≡ [])
    (same : (capacity p : ℕ) (c : C) (m : M) (n : ℕ) (t : Trace T) → IsRun code kind capacity t
    → call_in t.world p ≡ Some (driven.call.start, driven.call.flight c m)
    → events_by p (effects t.world p (driven.call.flight c m) n) ≡ own p (driven.call.flight c m) n)
    (h : StepsOf Asks code own driven) where
  open driven use {kept, call}

  -- nothing is late for the call, and of its effects those of its own party are all
  all : (step : Writing code kind call)
      → (step.es ++ step.late) ++ events_by step.p (effects step.t.world step.p (call.flight step.c step.m) step.n)
      ≡ step.es ++ own step.p (call.flight step.c step.m) step.n
  all = grind (arith, append-nil)

  -- the steps of a call that writes for its own party alone, by its stage, are steps of the more general kind
  pub steps_as : {Goes : Type 0} → Goes → StepsAs Asks Goes code kind effects driven
  steps_as goes_so =
      record {
        same_want = h.same_want;
        same_after = goes_so;
        hears = h.hears;
        stays = h.stays;
        asks = h.asks;
        past = h.past;
        finds = h.finds;
        leaves = h.leaves;
        tells = λ step d leads. (
            let tells = h.tells step.capacity step.p step.from step.c d step.m step.n in
            subst (call.wrote step.capacity step.p step.from d (kept step.c step.m step.n)) (sym (all step))
            (tells step.es step.stands step.wrote leads));
        tells_all = λ step e skip leads still. (
            let tells = h.tells_all step.capacity step.p step.from step.c e step.m step.n in
            subst (call.wrote_all step.capacity step.p step.from e (kept step.c step.m step.n)) (sym (all step))
            (tells step.es step.stands skip step.wrote leads still));
      }

  pub in_machine : StepsIn Asks code kind effects driven
  in_machine = steps_as h.same_after

-- the steps stay those of the model's call where something else is said of how it goes on
pub with_goes : {T C M E Asks Goes Others : Type 0} (code : Coding T) (kind : Kind) (effects : World T → ℕ → Flight T → ℕ → List (Event T))
    (driven : Driven T C M E) → Others → StepsAs Asks Goes code kind effects driven → StepsAs Asks Others code kind effects driven
with_goes = grind arith

-- A call for which nothing is late, whose effects are `own` on every machine, all of them its own party's,
-- and which goes on by its stage alone.
pub record ActsAlone {T C M E : Type 0} (code : Coding T) (kind : Kind) (effects : World T → ℕ → Flight T → ℕ → List (Event T))
    (own : ℕ → Flight T → ℕ → List (Event T)) (call : Calling T C M E) : Type 0 where
  pub never : (c : C) (m : M) (late : List (Event T)) → IsLate kind (Some (call.start, call.flight c m)) late → late ≡ []
  pub same : (capacity p : ℕ) (c : C) (m : M) (n : ℕ) (t : Trace T) → IsRun code kind capacity t
      → effects t.world p (call.flight c m) n ≡ own p (call.flight c m) n
  pub its_own : (capacity p : ℕ) (c : C) (m : M) (n : ℕ) (t : Trace T) → IsRun code kind capacity t → call_in t.world p ≡ Some (call.start, call.flight c m)
      → AreOf p (own p (call.flight c m) n)
  -- on every machine the call goes on as its stage says
  pub alike : (capacity p : ℕ) (c : C) (m : M) (n : ℕ) (t : Trace T) → IsRun code kind capacity t
      → goes_of code p (call.flight c m) n t.world.kept ≡ after_of code (call.flight c m) n

module _ {T C M E : Type 0} {code : Coding T} {kind : Kind} {effects : World T → ℕ → Flight T → ℕ → List (Event T)}
    {own : ℕ → Flight T → ℕ → List (Event T)} {call : Calling T C M E} (acts : ActsAlone code kind effects own call) where
  -- the events of a step are those of its own party
  pub written_alone : (capacity p : ℕ) (c : C) (m : M) (n : ℕ) (t : Trace T) → IsRun code kind capacity t
      → call_in t.world p ≡ Some (call.start, call.flight c m)
      → events_by p (effects t.world p (call.flight c m) n) ≡ own p (call.flight c m) n
  written_alone = grind (arith, by_mine)

-- on a kind whose parties write for themselves alone, the steps of a call are steps of the more general kind
pub steps_alone : {T C M E Asks : Type 0} {code : Coding T} {kind : Kind} {effects : World T → ℕ → Flight T → ℕ → List (Event T)}
    {own : ℕ → Flight T → ℕ → List (Event T)} {driven : Driven T C M E}
    → ActsAlone code kind effects own driven.call → StepsOf Asks code own driven → StepsThere Asks code kind effects driven
steps_alone {code = code} {kind = kind} {effects = effects} {own = own} {driven = driven} acts steps_of =
    steps_as effects acts.never (written_alone acts) steps_of
    (λ capacity p c m n t run there stands. acts.alike capacity p c m n t run ∙ steps_of.same_after capacity c m n stands)

-- no stage of the call is one at which a push loads its position, or a store its version
abbrev pub NeverPushes : {T C M : Type 0} → (C → M → Flight T) → Type 0
NeverPushes {T} {C} {M} flight = (c : C) (m : M) (n : ℕ) → IsFreshCall n (flight c m)

-- what was seen and made since the view `base`, up to before the step
pub record Prior {T : Type 0} (p : ℕ) (start : Start T) (wrote : List (Event T)) (base : View T) (events made : List (Event T)) : Type 0 where
  -- what others did, and what happened from the call's begin on, or since `base`
  pub others : List (Event T)
  pub during : List (Event T)
  pub is : events ≡ (base.seen ++ others) ++ (opened p start base.going ++ during)
  -- with the whole share nobody else did anything before, and the party itself did nothing before
  pub alone : IsAll base.share → others ≡ []
  pub others_own : events_by p others ≡ []
  -- since then the party wrote just `wrote`, and that is what the pass made
  pub during_own : events_by p during ≡ wrote
  pub made_is : made ≡ base.made ++ (opened p start base.going ++ wrote)

-- the span of a party depends on that party's events alone
span_by : {T : Type 0} (p : ℕ) (a : Span T) (es : List (Event T)) → fold (span_after p) a es ≡ fold own_after a (events_by p es)
span_by p a [] = refl
span_by p a (e ∷ es) = by_bool (is_party p (whose e)) (λ t. rw t (span_by p (own_after a e) es)) (λ t. rw t (span_by p a es))

-- the span of a party that began its latest call after `xs`, by what it has written since
pub span_since : {T : Type 0} (p : ℕ) (start : Start T) (xs during : List (Event T))
    → span_of p (xs ++ Begun p start ∷ during) ≡ fold own_after (Open start []) (events_by p during)
span_since {T} p start xs during =
    fold-append (span_after p) Never xs (Begun p start ∷ during)
    ∙ (ap (λ a. fold (span_after p) a during) (begins (span_of p xs)) ∙ span_by p (Open start []) during)
  where
    begins : (a : Span T) → span_after p a (Begun p start) ≡ Open start []
    begins a = (let same : (p == p) ≡ true = grind (arith, nat_tests) in rw same refl)
