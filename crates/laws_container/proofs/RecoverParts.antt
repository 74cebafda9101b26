-- What the steps of a recovery have in common: how it goes on to a stage, how it comes to the next index, and
-- what it knows after a step.
use Rattle.laws_container.proofs.Names.{◌≡◌, ◌⊎◌, inl, inr, ℕ, ◌+◌, ◌*◌, ◌<◌, ◌≤◌, if◌then◌else◌, nat_lt, Bool, true}
use Rattle.laws_container.proofs.Names.{Option, Some, List, [], ◌++◌, refl, sym, ap, subst, arith, AllByRecursion}
use Rattle.laws_container.proofs.Names.{nat_tests, Ask, After, GoOn, RecoverStage, ReleaseMode, ReleaseState}
use Rattle.laws_container.proofs.Names.{recover_comes_to, empty, went_on, Answer, Event, Container, ContainerStart}
use Rattle.laws_container.proofs.Names.{ContainerFlight, Party, WasShown, promise, Sees, acts, acts_of}
use Rattle.laws_container.proofs.Names.{HeldThroughout, StillToFree, Frees, Asks, Yes, set_acts, set_acts_of}
use Rattle.laws_container.proofs.Names.{filled_of, IsOneOf, as_it_is, BeginsNone, put, flight_of, Stands, Open}
use Rattle.laws_container.proofs.Names.{as_call, words_after, step_count, AreOwn, AllFollow, IsWorn, worn_on, Goes}
use Rattle.laws_container.proofs.Names.{one_of_none}
use Rattle.steps.specs.declared.container.recover.Recover as recover_calls
use Rattle.steps.specs.declared.container.recover.RecoverStage.TheVariants as recovers
use Rattle.steps.specs.declared.copied.Buffer as buffers
use Rattle.model.specs.declared.event.Answer.TheVariants as answers
use Rattle.model.specs.declared.families.container.ContainerStart.TheVariants.{Recover}
use Rattle.model.specs.declared.families.container.calls.ContainerFlight.TheVariants as calls
use Rattle.laws_robust.proofs.Effects as set_effects
use Rattle.laws_container.proofs.Core.{count_at}
use Rattle.laws_container.proofs.HiddenKnows.{HasHidden, RecoverCovers}
use Rattle.laws_container.proofs.HiddenOn.{Freeing, hidden_on, covers_on}
use Rattle.laws_container.proofs.Invariant.{Scene, Inv, before, after, AreAllRight, KeepsInvariant, of_set, wrote_of}
use Rattle.model.proofs.Locks.{locked_later}
use Rattle.laws_container.proofs.KeptLocks.{NoIndex, FilledBut, filled_then, filled_calm}
use Rattle.laws_container.proofs.Knows.{AskedBelow, Recovers, IsLong, Knows}
use Rattle.laws_container.proofs.Recoveries as knowing
use Rattle.laws_container.proofs.Silent.{Silent, silently}
use Rattle.laws_container.proofs.Stages.{AreInCall, IsUnderWay, Lengthens, none_in_call, all, done, sees_now, then_sees, ShowsThen}
use Rattle.laws_container.proofs.Stages.{party_then, since_then, changes_then, backs_then, set_acts_more, acts_more}
use Rattle.laws_container.proofs.Stages.{Call, goes_on, was_well_formed}
use Rattle.laws_container.proofs.CallProgress.{recover_at, recover_number, for_back, for_index, IsInCourse, RecoverAt}
use Rattle.laws_container.proofs.SetStays.{moves}
use Rattle.laws_container.proofs.Turns.{owes, count_in}
use Rattle.lemmas.proofs.Cases.{on_bool}

-- no index is exempt
abbrev pub none : ℕ → Type 0
none i = ⊥

-- a recovery by the party of the scene: of which owner, in which mode
pub record Recovery (T : Type 0) : Type 0 where
  -- the turn, and what holds of the machine before it
  pub scene : Scene T
  pub inv : Inv scene
  -- the arguments of the call, whose owner can be in a cell
  pub owner : ℕ
  pub mode : ReleaseMode
  pub fits : owner < empty

-- the steps of one recovery
module _ {T : Type 0} (recovery : Recovery T) where
  open recovery use {scene, inv, owner, mode, fits}
  open recovery.scene use {coding as code, capacity as c, party as p, steps, events, latest}

  abbrev ws : List ℕ
  ws = scene.words

  abbrev z : ℕ
  z = code.size

  abbrev start : ContainerStart T
  start = Recover owner mode

  -- how the recovery goes on, as a call of the container
  abbrev pub as_recover : buffers.Buffer 128 → After (recover_calls.Recover T (buffers.Buffer 128)) ReleaseState → After (ContainerFlight T) (Answer T)
  as_recover room a =
      as_call calls.Recover answers.State
      (went_on as_it_is (record { owner = owner; mode = mode }) room a)

  abbrev pub first : recover_calls.Recover T (buffers.Buffer 128)
  first = record { capacity = c; stage = recovers.LoadsCounter; of = record {} }

  -- the recovery has taken at most `n` steps beside those of the indices below `index` and of its turns back
  abbrev pub Few : Option Ask → Bool → ℕ → ℕ → Type 0
  Few ask back n index =
      steps + step_count ask ≤ n + index * for_index c z mode + backs_then scene back * for_back c z mode

  -- a step that leaves the words and writes nothing leaves what a recovery knows of its locks
  pub fill_same : (ask : Option Ask) → words_after ws ask ≡ ws → (But : ℕ → Type 0)
      → FilledBut (IsWorn scene.terms.by ws) mode p owner But events
      → FilledBut (IsWorn scene.terms.by (words_after ws ask)) mode p owner But (events ++ [])
  fill_same ask same But filled_but =
      filled_calm p owner (IsWorn scene.terms.by ws) (IsWorn scene.terms.by (words_after ws ask))
      (λ end. subst (IsWorn scene.terms.by) (sym same) end) mode But events filled_but

  -- a step that leaves all words but the counter, and writes nothing, leaves what a
  -- recovery knows of its locks
  pub fill_stays : (ask : Option Ask) → set_effects.Stays (of_set scene) (words_after ws ask) → (But : ℕ → Type 0)
      → FilledBut (IsWorn scene.terms.by ws) mode p owner But events
      → FilledBut (IsWorn scene.terms.by (words_after ws ask)) mode p owner But (events ++ [])
  fill_stays ask stays But filled_but =
      filled_calm p owner (IsWorn scene.terms.by ws) (IsWorn scene.terms.by (words_after ws ask))
      (worn_on scene.terms.by ws (words_after ws ask) stays.leaves.stuck) mode But events filled_but

  -- the party after the step by which the recovery comes to stage `next`, with this room for its copy
  abbrev pub then_at : buffers.Buffer 128 → RecoverStage → Option Ask → Bool → Party T
  then_at room' next ask back =
      party_then scene start ask back (GoOn (recover_at c owner mode room' next))

  -- the party's call under way is this recovery, at this stage, and the room for its copy has its 128 words
  pub record IsAtStage (stage : RecoverStage) : Type 0 where
    pub room : buffers.Buffer 128
    pub call : IsUnderWay scene (Recover owner mode) (recover_at c owner mode room stage)
    pub long : IsLong room

  -- A step with the operation `ask` of the recovery, after which its party is `y`, and which writes the events `es`: they are the party's,
  -- and neither begin nor end a call of it; and what the step does to the words and in the events of the set is allowed (`Goes`).
  pub record OwnStep (ask : Option Ask) (back : Bool) (y : Party T) (es : List (Event T)) : Type 0 where
    pub own : AreOwn p es
    pub fresh : BeginsNone p es
    pub longer : Lengthens es
    pub goes : Goes ws (words_after ws ask) events es

  -- What has to be shown of a step by which the recovery comes to the stage `next`, with this room for its copy: its events do not end the
  -- call and may stand in it, it keeps the invariant, and after it the recovery is within its steps, stands there and knows what the stage tells.
  pub record ComesTo (room' : buffers.Buffer 128) (next : RecoverStage) (ask : Option Ask) (back : Bool) (es : List (Event T)) : Type 0 where
    pub longer : Lengthens es
    pub does : KeepsInvariant scene (words_after ws ask) scene.states (then_at room' next ask back) es
    pub follows : AllFollow (Stands promise c) (Open (Container (Recover owner mode)) (wrote_of p events)) es
    pub few : steps + step_count ask ≤ recover_number c z mode next (backs_then scene back)
    pub stands : RecoverAt c z (all scene ++ set_acts es) (done scene ++ acts es) owner mode next
    pub known : Knows code c (recover_at c owner mode room' next) (then_sees scene ask back scene.states (then_at room' next ask back) es)

  -- What has to be shown of a step with which the recovery has come past `index`, whatever stage it comes to: its events do not end the call and
  -- may stand in it, it keeps the invariant, and after it the recovery keeps its course, has paid, and knows of the indices up to this one.
  pub record ComesPast (index : ℕ) (ask : Option Ask) (back : Bool) (es : List (Event T)) : Type 0 where
    pub longer : Lengthens es
    pub follows : AllFollow (Stands promise c) (Open (Container (Recover owner mode)) (wrote_of p events)) es
    pub does : (y : Party T) → owes (flight_of (Some y.doing)) ≡ true → KeepsInvariant scene (words_after ws ask) scene.states y es
    pub few : Few ask back 1 (index + 1)
    pub below : index < c
    pub course : (i : ℕ) → i < c → IsInCourse c z (all scene ++ set_acts es) (done scene ++ acts es) owner i (index + 1)
    pub paid : backs_then scene back + since_then scene ask ≤ changes_then scene ask
    pub rec : (y : Party T) → Recovers code c owner (index + 1) none none (then_sees scene ask back scene.states y es)
    pub fill : FilledBut (IsWorn scene.terms.by (words_after ws ask)) mode p owner NoIndex (events ++ es)

  -- the recovery is at `stage`
  module _ {stage : RecoverStage} (here : IsAtStage stage) where
    -- the recovery at its stage, as a call of the container
    abbrev pub as_given : Call T
    as_given = record { scene = scene; inv = inv; start = start; flight = recover_at c owner mode here.room stage; no_look = tt; here = here.call }

    -- the recovery as a call that frees indices of its owner
    abbrev pub freeing : Freeing T
    freeing = record { scene = scene; inv = inv; start = start; no_replace = tt; span = here.call.span; owner = owner }

    -- ---- what a step does

    -- a step that leaves the words, and writes events that change nothing of the set or of what
    -- stands, keeps the invariant
    pub reads_does : {words' : List ℕ} → words' ≡ ws → {y : Party T} {es : List (Event T)}
        → AllByRecursion Silent es → AreOwn p es → AreAllRight scene words' y es
        → owes (flight_of (Some y.doing)) ≡ true → KeepsInvariant scene words' scene.states y es
    reads_does {words'} same {y} {es} silent own right owe =
        silently as_given same silent own (was_well_formed scene start tt here.call.span words' y es own) (λ was. owe) right

    -- a step that leaves all words but the counter, and writes nothing, keeps the invariant
    pub stays_does : {words' : List ℕ} → set_effects.Stays (of_set scene) words' → {y : Party T}
        → owes (flight_of (Some y.doing)) ≡ true → KeepsInvariant scene words' scene.states y []
    stays_does {words'} stays {y} owe =
        moves as_given y stays (was_well_formed scene start tt here.call.span words' y [] tt) (λ was. owe)

    -- ---- it goes on

    -- a step leads a recovery to the stage `next`, where the conditions of that stage hold
    pub go_on : (room' : buffers.Buffer 128) (next : RecoverStage) (ask : Option Ask) (back : Bool) {es : List (Event T)}
        → ComesTo room' next ask back es
        → ShowsThen scene start ask back scene.states es (GoOn (recover_at c owner mode room' next))
    go_on room' next ask back {es} comes =
        goes_on scene (recover_at c owner mode room' next) ask back here.call.span (record {
          longer = comes.longer;
          does = comes.does;
          follows = comes.follows;
          few = comes.few;
          stands = (refl, refl, fits, comes.stands);
          known = comes.known;
        })

    -- ---- what it knows then

    module _ {ask : Option Ask} {back : Bool} {y : Party T} {es : List (Event T)} (step : OwnStep ask back y es) where
      in_call : AreInCall scene es
      in_call = record { own = step.own; fresh = step.fresh; longer = step.longer }

      -- the step as a turn of the recovery's party: what the party sees before it, what it leaves, and its events
      abbrev turn : knowing.OwnTurn T
      turn =
          record {
            code = code;
            capacity = c;
            owner = owner;
            view = sees_now scene;
            words' = words_after ws ask;
            states' = scene.states;
            latest' = put p y latest;
            since' = since_then scene ask;
            changes' = changes_then scene ask;
            backs' = backs_then scene back;
            es = es;
            fresh = step.fresh;
            set_acts_more = set_acts_more scene start here.call.span es step.own step.longer;
            acts_more = acts_more scene start here.call.span es step.own step.longer;
            goes = step.goes;
          }

      -- what a recovery knows after a step, from what it knew, and from what it has learned in the step
      pub recs : {k k' : ℕ} {Was Now But But' : ℕ → Type 0} → Recovers code c owner k Was But (sees_now scene)
          → knowing.Learns turn k' Was Now But'
          → Recovers code c owner k' Now But' (then_sees scene ask back scene.states y es)
      recs known learns = knowing.recovers_then turn known learns

      -- after the step a recovery still knows of its locks what was filled since each freed index
      pub fills_on : (Was But : ℕ → Type 0)
          → ((i : ℕ) → IsOneOf (Frees i owner) (set_acts_of p events ++ set_acts es) → IsOneOf (Frees i owner) (set_acts_of p events) ⊎ But i)
          → ((i : ℕ) → Was i → But i) → FilledBut (IsWorn scene.terms.by ws) mode p owner Was events
          → FilledBut (IsWorn scene.terms.by (words_after ws ask)) mode p owner But (events ++ es)
      fills_on Was But split more filled_but =
          filled_then p owner (IsWorn scene.terms.by ws) (IsWorn scene.terms.by (words_after ws ask))
          (worn_on scene.terms.by ws (words_after ws ask) step.goes.stuck) mode Was But events es step.fresh
          (λ i was. split i (subst (IsOneOf (Frees i owner)) turn.set_acts_more was))
          more (locked_later events es) filled_but

      -- after the step a recovery has still asked about the indices below `k`
      pub asked_on : (k : ℕ) → AskedBelow code c owner k (sees_now scene) → AskedBelow code c owner k (then_sees scene ask back scene.states y es)
      asked_on k asked_below = knowing.asked_then turn k asked_below

      -- a recovery has asked about one index more, if it need not free that one, or has asked about it, or
      -- was shown it
      pub asked_more : (k : ℕ) → AskedBelow code c owner k (sees_now scene)
          → (HeldThroughout p (StillToFree p owner k) (events ++ es)
          → IsOneOf (Asks k owner) (set_acts_of p (events ++ es)) ⊎ WasShown p k (events ++ es))
          → AskedBelow code c owner (k + 1) (then_sees scene ask back scene.states y es)
      asked_more k asked_below now = knowing.asked_next turn k asked_below now

      -- what the recovery has freed is hidden still after a step that frees nothing
      pub hidden_then : ((i : ℕ) → IsOneOf (Frees i owner) (all scene ++ set_acts es) → IsOneOf (Frees i owner) (all scene))
          → HasHidden code c p owner none (before scene)
          → HasHidden code c p owner none (after scene (words_after ws ask) y es)
      hidden_then frees_none hidden =
          hidden_on freeing (words_after ws ask) y in_call frees_none hidden

      -- the loaded number covers what stands at the index after a step that leaves the number and the owner there
      pub covers_then : (index count : ℕ) → count_at c (words_after ws ask) index ≡ count_in code c (before scene) index
          → filled_of index (events ++ es) ≡ filled_of index events → RecoverCovers code c owner index count (before scene)
          → RecoverCovers code c owner index count (after scene (words_after ws ask) y es)
      covers_then index count same still covered =
          covers_on freeing (words_after ws ask) y in_call index count same still covered

    -- events that tell and show nothing add no index that it was told to free or was shown
    pub told_none : (i : ℕ) → IsOneOf (Yes i owner) (set_acts_of p events ++ []) ⊎ IsOneOf (Sees i) (acts_of p events ++ [])
        → (IsOneOf (Yes i owner) (set_acts_of p events) ⊎ WasShown p i events) ⊎ none i
    told_none = grind (arith, inl, one_of_none, inr)

    -- a step that frees nothing adds no freed index
    none_freed : (i : ℕ) → IsOneOf (Frees i owner) (set_acts_of p events ++ []) → IsOneOf (Frees i owner) (set_acts_of p events)
    none_freed i was = one_of_none (Frees i owner) (set_acts_of p events) was

    -- what the recovery has freed is hidden still after a step that writes nothing
    pub hidden_still : (ask : Option Ask) (y : Party T) → HasHidden code c p owner none (before scene)
        → HasHidden code c p owner none (after scene (words_after ws ask) y [])
    hidden_still ask y hidden = hidden_on freeing (words_after ws ask) y (none_in_call scene) none_freed hidden

    -- ---- it comes to the next index, or to the counter

    -- a recovery that has come past an index goes on to the next one, or behind the last one to its last
    -- load of the counter
    pub comes_to_next : (index : ℕ) (ask : Option Ask) (back : Bool) {es : List (Event T)} → ComesPast index ask back es
        → ShowsThen scene start ask back scene.states es (as_recover here.room (recover_comes_to first (index + 1)))
    comes_to_next index ask back {es} past =
        on_bool (λ b. ShowsThen scene start ask back scene.states es
        (as_recover here.room (GoOn (record first { stage = if b then recovers.LoadsCell (index + 1) else recovers.LoadsCounterAgain }))))
        (nat_lt (index + 1) c)
        (λ t.
        let more : index + 1 < c = grind (arith, nat_tests) in
        let party_after = then_at here.room (recovers.LoadsCell (index + 1)) ask back in
        go_on here.room (recovers.LoadsCell (index + 1)) ask back (record {
          longer = past.longer;
          does = past.does party_after refl;
          follows = past.follows;
          few = past.few;
          stands = past.course (index + 1) more;
          known = (here.long, (past.paid, past.rec party_after), past.fill);
        }))
        (λ t.
        let last : c ≤ index + 1 = grind (arith, nat_tests) in
        let few = past.few in
        let below = past.below in
        let is_last : index + 1 ≡ c = omega arith in
        let times : (index + 1) * for_index c z mode ≡ c * for_index c z mode = ap (λ n. n * for_index c z mode) is_last in
        let party_after = then_at here.room recovers.LoadsCounterAgain ask back in
        go_on here.room recovers.LoadsCounterAgain ask back (record {
          longer = past.longer;
          does = past.does party_after refl;
          follows = past.follows;
          few = omega arith;
          stands = (past.course index below).freed;
          known = (
            here.long,
            (
              past.paid,
              subst (λ n. Recovers code c owner n none none (then_sees scene ask back scene.states party_after es)) is_last (past.rec party_after),
            ),
            past.fill,
          );
        }))
