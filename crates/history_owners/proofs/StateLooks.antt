-- A look of a state of a container (`get_state`, `update_state`) is a call of the model whose steps depend on
-- the state that the machine keeps for its party; each step keeps the rule of the table.
use Rattle.history.proofs.Names.{◌≡◌, inl, inr, ℕ, zero, suc, ◌+◌, ◌<◌, Bool, true, false, Some, None, IfSome}
use Rattle.history.proofs.Names.{List, [], ◌++◌, slice_index, append-nil, refl, sym, ap, subst, ◌∙◌, arith}
use Rattle.history.proofs.Names.{first_look, look_want, look_after, look_kept, Numbers, Showing}
use Rattle.history.proofs.Names.{shown_at}
use Rattle.steps.specs.declared.ask.Ask.{Ask}
use Rattle.steps.specs.declared.ask.After.{After}
use Rattle.steps.specs.declared.ask.After.TheVariants.{GoOn}
use Rattle.steps.specs.declared.ask.Want.{Want}
use Rattle.steps.specs.declared.container.look.LookStage.{LookStage}
use Rattle.steps.specs.declared.container.state.ContainerState.{ContainerState}
use Rattle.model.specs.declared.event.Event.{Event}
use Rattle.model.specs.declared.event.Start.TheVariants.{Container}
use Rattle.history.proofs.Names.{Coding, IsCoding, kept_after_begin}
use Rattle.model.specs.declared.families.Flight.{Flight}
use Rattle.model.specs.declared.families.Registry.{Registry}
use Rattle.model.specs.declared.families.container.calls.LookOf.{LookOf}
use Rattle.history.proofs.Names.{step_of, beside_of, first_call, settled_if, state_in, is_looking, WasCopied}
use Rattle.history.proofs.Names.{names_owner, look_effects, flight_in, found_put_same, answered, Owes}
use Rattle.history.proofs.Names.{NextKnown, KeepsRule}
use mathlib.Core.Option.{some}
use Rattle.atomic_table.specs.Table.{State}
use Rattle.atomic_table.specs.Table as table
use Rattle.steps.specs.Copied.{value_in}
use Rattle.steps.specs.declared.ask.After.TheVariants.{Done}
use Rattle.steps.specs.declared.ask.Want.TheVariants as wants
use Rattle.steps.specs.declared.container.look.Look.{Look as Looking}
use Rattle.model.specs.declared.families.Flight.TheVariants as flights
use Rattle.model.specs.declared.families.Registry.TheVariants as registries
use Rattle.model.specs.declared.families.container.calls.LookOf.TheVariants as which_looks
use Rattle.model.specs.declared.turn.Kind.TheVariants as kinds
use Rattle.model.specs.Families.Container.States.{fresh}
use Rattle.threaded.specs.Driver.{Told}
use Rattle.history.specs.declared.view.View.{View}
use Rattle.history_owners.specs.ContainerFind.{HasCopied}
use Rattle.history_owners.specs.ContainerLooks.{look_start, state_of_look, HasState, LookedAt, HasLookedAll}
use Rattle.history_owners.specs.ContainerLooks.{ShowsCopied, looking, BeginsWith, StateLooks, StateLooked}
use Rattle.history.specs.History.{IsMachine}
use Rattle.history.specs.Known.{events_by}
use Rattle.history.specs.Stages.{Calling, At, Ends, StepsOnly}
use Rattle.history.proofs.Calls.{stands, no_flight}
use Rattle.history.proofs.CallsIn.{AsksFor, goes}
use Rattle.history.proofs.CallTurns.{Stepping, then_trace, settled_then}
use Rattle.history.proofs.KindLaws.{Machines}
use Rattle.history.proofs.CallReady.{same_capacity, still_stands, Ready, seat_at, Seat}
use Rattle.history.proofs.CallTurns.{next_between, comes_now, kept_now, view_then, asked_then, goes_then, ends_so}
use Rattle.history_owners.proofs.ContainerLooks.{look_words, look_found, LookCase, LookStep, LookGoes, looks_so, look_goes_so, look_keeps_so, look_writes_so}
use Rattle.history_owners.proofs.Containers.{container_effects, effects_of_party, container_words, container_machines, kept_there}
use Rattle.history_owners.proofs.Containers.{container_first, container_starts, is_open_container}
use Rattle.history.proofs.Known.{by_mine}

module _ {T : Type 0} (code : Coding T) (law : IsCoding code) (which : LookOf) (cells : ℕ) (seen : Numbers) where
  abbrev call : Calling T (Looking T) (Showing T) Bool
  call = looking code which cells seen

  abbrev machines : Machines T
  machines = container_machines code

  abbrev want : Looking T → Want (Unit {0})
  want c = look_want code.size c

  abbrev after : Looking T → ℕ → After (Looking T) Bool
  after c n = look_after code.size c seen n

  abbrev kept : Looking T → Showing T → ℕ → Showing T
  kept c m n = look_kept code.value_of code.size c m n

  -- the look is about to begin, or under way, from the state that its party has
  abbrev LookStands : View T → View T → Looking T → Showing T → Type 0
  LookStands = StateLooks code which cells seen

  -- the look has ended, and its party has the state that it left
  abbrev LookEnded : View T → Bool → Showing T → View T → Type 0
  LookEnded = StateLooked code which cells seen

  -- a value has a word, at least
  has_words : 0 < code.size
  has_words = omega (arith, law.some)

  -- a look at a stage, with the state of its party, is a call at that stage
  pub plain : (base v : View T) (c : Looking T) (m : Showing T) → LookStands base v c m → At code kinds.Container call base v c m
  plain base v c m (size, inl h) = inl h.0
  plain base v c m (size, inr h) = inr h.0

  -- ---- the state with which a look begins

  -- as the look begins, the machine keeps for its party the state with which it begins
  begins_with : (w : LookOf) (p : ℕ) (base : View T) (m : Showing T) {k : Registry T} {dead : List ℕ} {states : List (ℕ × ContainerState T)}
      → k ≡ registries.Container dead states → (base.party ≡ Some p → state_in k p ≡ base.state) → IfSome base.party (λ q. q ≡ p)
      → BeginsWith code which cells seen w base m
      → HasState (kept_after_begin code cells (Container (look_start w)) p k) p (state_of_look cells seen m)
  begins_with = grind (arith, found_put_same, fresh, state_in)

  -- ---- where a look goes on after a step, and what it has written then

  none_copied : (p index : ℕ) → HasCopied {T = T} p 0 index []
  none_copied p zero = refl
  none_copied p (suc index) = inl (none_copied p index)

  none_looked : (p : ℕ) (stage : LookStage) → LookedAt {T = T} p stage []
  none_looked = grind (arith, none_copied)

  -- the value whose words the look has read
  abbrev value_read : Showing T → T
  value_read m = value_in code.value_of code.size m.copy

  -- the look at a stage, as party p makes it on a container of this capacity
  abbrev look_of : {capacity : ℕ} (p : ℕ) (c : Looking T) → c.capacity ≡ capacity → LookCase T
  look_of {capacity} p c same =
      record { size = code.size; some = has_words; which = which; capacity = capacity; cells = cells; seen = seen; c = c; same = same; p = p }

  -- after a step the look stands within the container, and has written copies from the
  -- indices that it has passed
  goes_so : {capacity : ℕ} (p : ℕ) (c : Looking T) (m : Showing T) (n : ℕ) (es : List (Event T)) {a : After (Looking T) Bool} → (h : call.stands capacity c)
      → LookedAt p c.stage es → after c n ≡ a → LookGoes (look_of p c h.0) (es ++ look_effects p (value_read m) c.stage n) a
  goes_so p c m n es h looked_at leads =
      subst (LookGoes (look_of p c h.0) (es ++ look_effects p (value_read m) c.stage n)) leads
      (looks_so (look_of p c h.0) (value_read m) c.stage n es h.1 looked_at)

  -- ---- a step

  -- the machine before the look's next step, after its begin where it has not begun
  abbrev ReadyAt : State (Unit {0}) (View T) → View T → ℕ → ℕ → Looking T → Showing T → Type 0
  ReadyAt = Ready machines call

  -- a step of a look of a state, which asks for a word of the container
  pub record Asking : Type 0 where
    pub seat : Seat machines call
    pub ask : Ask
    pub low : ask.word < container_words code seat.key
    pub wants_it : want seat.c ≡ wants.Ask ask
    -- the machine keeps for the look's party the state that the look has
    pub has : HasState seat.y.u.world.kept seat.y.p (state_of_look cells seen seat.m)

  module _ (asking : Asking) where
    open asking use {seat, seat.{s, v, key, id, c, m, at, known, y}, ask, low, wants_it, has}

    -- the step, as one of the machine's
    abbrev step : Stepping machines call
    step = record { seat = seat; ask = Some ask; low = low; asks_it = wants_it; finds = tt }

    -- the number that the word has
    abbrev n : ℕ
    n = slice_index s.words ask.word

    -- what the state shows after the step
    abbrev now : Showing T
    now = kept c m n

    -- the flight of the look
    abbrev its_flight : Flight T
    its_flight = call.flight c m

    -- the view of the seat after the step
    abbrev view_now : View T
    view_now = view_then machines call step

    -- the step, on a machine that keeps the look's state
    abbrev look_step : LookStep T
    look_step = record { which = which; cells = cells; seen = seen; p = y.p; c = c; m = m; n = n; kept = y.u.world.kept; has = has }

    -- the machine's look goes to the stage to which the driver's goes
    comes : comes_now machines call step ≡ goes call (after c n) now
    comes = look_goes_so code look_step

    -- the state that the step leaves
    abbrev left : ContainerState T
    left = settled_if (after c n) (state_of_look cells seen now)

    -- the party of the view has the state that the step leaves
    state_then : view_now.state ≡ Some left
    state_then =
        let w = y.u.world in
        let here = stands w y.p call.start its_flight y.there in
        let beside = beside_of w.words w.kept w.latest y.p in
        ap (λ k. state_in k y.p) (kept_now machines call step)
        ∙ subst (λ z. HasState (step_of z w.words beside y.p here.x.start its_flight n w.kept).kept y.p left) (sym y.between.run.coded)
        (subst (λ st. HasState (step_of code w.words beside y.p st its_flight n w.kept).kept y.p left) (sym here.named)
        (look_keeps_so code look_step w.words beside (look_start which)))

    -- the state that the look leaves shows what the room shows
    left_shows : (a : After (Looking T) Bool) → (settled_if a (state_of_look cells seen now)).shown ≡ now
    left_shows = grind arith

    -- once the look has ended, each value that the state shows was copied by its party
    shows_copied : view_now.going ≡ None → ShowsCopied now view_now
    shows_copied idle p i value is shown =
        let u = then_trace machines call step in
        let run = (next_between machines call step).run in
        let still : is_looking (flight_in u.world y.p) ≡ false = ap is_looking (no_flight u.world y.p idle) in
        let copied : WasCopied y.p i value u.events =
        (is_open_container code key u run).states y.p i left value still state_then
        (ap (λ (z : Showing T). shown_at z.elements i) (left_shows (after c n)) ∙ shown)
        in
        let same : y.p ≡ p = cc in
        subst (λ q. WasCopied q i value u.events) same copied

    -- the effects of the step are all the look's own
    its_own : (es late : List (Event T)) → late ≡ []
        → (es ++ late) ++ events_by y.p (container_effects y.u.world y.p its_flight n) ≡ es ++ look_effects y.p (value_read m) c.stage n
    its_own = grind (arith, append-nil, by_mine, effects_of_party, look_writes_so code look_step)

    -- each operation was a step of the look
    steps_so : (base : View T) → At code kinds.Container call base v c m → StepsOnly base view_now
    steps_so = asked_then machines call step refl

    -- after its step the look stands at its next stage, or has ended, with the state that it leaves
    known_then : (base : View T) → LookStands base v c m → (a : After (Looking T) Bool) → after c n ≡ a
        → NextKnown (λ (z : View T). z.capacity) LookStands LookEnded base a now view_now
    -- the step leads to another stage: the look is under way there, with the state that the step leaves
    known_then base stage (GoOn d) leads =
        let there = plain base v c m stage in
        let standing = still_stands there in
        let before = y.prior base there in (
          stage.0,
          inr (
            goes_then machines call step there (record {
              leads = comes ∙ ap (λ a. goes call a now) leads;
              stands = (goes_so y.p c m n [] standing (none_looked y.p c.stage) leads).0;
              past = λ k. refl;
              tells = λ new. subst (λ zs. LookedAt y.p d.stage zs) (sym (its_own before.wrote before.late before.waits))
                  (goes_so y.p c m n before.wrote standing (before.tells new) leads).1;
              steps = steps_so base there;
              word = refl;
            }),
            state_then ∙ ap (λ a. Some (settled_if a (state_of_look cells seen now))) leads,
          ),
        )
    -- the step ends the look: it has ended with whether the state changed, and what the
    -- state shows was copied
    known_then base stage (Done changed) leads =
        let there = plain base v c m stage in
        let standing = still_stands there in
        let before = y.prior base there in
        let ends : Ends code kinds.Container call base changed now view_now =
        ends_so machines call step there (comes ∙ ap (λ a. goes call a now) leads)
        (λ new. subst (λ zs. HasLookedAll base.capacity y.p changed zs) (sym (its_own before.wrote before.late before.waits))
        (goes_so y.p c m n before.wrote standing (before.tells new) leads))
        (inl (steps_so base there)) in
        (ends, state_then ∙ ap (λ a. Some (settled_if a (state_of_look cells seen now))) leads, shows_copied ends.idle)

    -- what the step tells: where the look stands or how it has ended, in each drive
    told : Told (λ (z : View T). z.capacity) LookStands LookEnded after kept c m v (answered ask.op n) view_now
    told = grind (arith, answered, look_found, known_then)

  -- ---- each step keeps the rule

  -- each step of a look keeps the rule of the table, and tells what is known after it
  pub state_looks_keep : KeepsRule (λ (z : View T). z.asked) (λ (z : View T). z.capacity) LookStands LookEnded (λ key. container_words code key + 1)
      (λ key. key)
      (λ key. IsMachine code kinds.Container key) want after kept
  state_looks_keep base₀ v c m key words slots id wide known at₀ =
      let there₀ = plain base₀ v c m at₀ in
      let standing = still_stands there₀ in
      let same : base₀.capacity ≡ key =
      sym (same_capacity there₀) ∙ known
      in
      let asked : AsksFor (container_words code key) (want c) = asks_so standing same in
      let ask = asked.0 in
      -- the word is one of the container's, before the last word of the table
      let low = asked.1 in
      let below : ask.word < words = omega arith in
      subst (λ w. Owes (λ (z : View T). z.asked) (IsMachine code kinds.Container key) words slots id
      (Told (λ (z : View T). z.capacity) LookStands LookEnded after kept c m) w (v, []))
      (sym asked.2) (
        below,
        -- the step is one of the machine, on which the look's party has the state with which it began
        λ s r long at small. (
            let seat = seat_at machines call (record { s = s; v = v; key = key; id = id; c = c; m = m; r = r; at = at; known = known }) there₀ in
            let asking : Asking = record { seat = seat; ask = ask; low = low; wants_it = asked.2; has = has_so s seat.y at₀ same } in
            (view_now asking, table.keeps, tt, settled_then machines call (step asking) there₀, (told asking, refl, refl))),
      )
    where
      -- at each stage the look asks for a word of the container
      asks_so : call.stands base₀.capacity c → base₀.capacity ≡ key → AsksFor (container_words code key) (want c)
      asks_so = grind (arith, look_words)

      -- the machine on which the look stands keeps for its party the state with which it began
      has_so : (s : State (Unit {0}) (View T)) (y : ReadyAt s v key id c m) → LookStands base₀ v c m → base₀.capacity ≡ key
          → HasState y.u.world.kept y.p (state_of_look cells seen m)
      has_so s y (size, inl h) same =
          let idle : v.going ≡ None = ap (λ (z : View T). z.going) h.0.is ∙ h.0.idle in
          let b = y.began idle in
          let k = kept_there code key b.t b.run in
          let cells_are : cells ≡ key = sym size ∙ same in
          subst (λ z. HasState z y.p (state_of_look cells seen m))
          (sym (b.kept ∙ ap (λ z. kept_after_begin code z call.start y.p b.t.world.kept) (sym cells_are)))
          (begins_with which y.p base₀ m k.2
          (subst (λ (z : View T). z.party ≡ Some y.p → state_in b.t.world.kept y.p ≡ z.state) h.0.is b.stated)
          (y.by base₀ (inl h.0)) h.1)
      has_so s y (size, inr h) same = y.held h.0.going ∙ h.1

  -- ---- a look begins

  module _ (m : Showing T) where
    look_named : (w : LookOf) → names_owner {T = T} (look_start w) ≡ true
    look_named which_looks.GetState = refl
    look_named which_looks.UpdateState = refl

    -- the first stage of the look is that of the model's call
    look_flies : (w : LookOf) (capacity : ℕ)
        → flights.Container (first_call capacity (look_start w)) ≡ (looking code w cells seen).flight (first_look capacity) m
    look_flies = grind arith

    -- a look begins at its first stage, on a pass with no call under way, with the state
    -- that `BeginsWith` names
    pub state_look_first : (v : View T) → v.capacity ≡ cells → v.going ≡ None → v.other ≡ [] → 0 < v.share.part → BeginsWith code which cells seen which v m
        → LookStands v v (first_look v.capacity) m
    state_look_first = grind (arith, look_named, look_flies, inl, fresh, some, container_first, container_starts)
