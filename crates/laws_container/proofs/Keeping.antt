-- What a call of the container knows at its stage it knows still after any turn of another party.
use Rattle.laws_container.proofs.Names.{◌≡◌, ⊎_elim, inl, inr, ℕ, ◌+◌, ◌<◌, true, is_some, List}
use Rattle.laws_container.proofs.Names.{◌++◌, sym, ap, subst, ◌∙◌, arith, AddStage}
use Rattle.laws_container.proofs.Names.{FindStage, RemoveStage, ReplaceStage, ContainerState, ReleaseMode}
use Rattle.laws_container.proofs.Names.{ReleaseState, ReleaseStage, Event, Party}
use Rattle.laws_container.proofs.Names.{Coding, MayReplace, Copies, acts, acts_of, places}
use Rattle.laws_container.proofs.Names.{contents_of, state_of, IsFilledWith}
use Rattle.laws_container.proofs.Names.{FilledSinceFreed, set_acts_of, wrote_in, IsLatest, IsOneOf, read_in}
use Rattle.laws_container.proofs.Names.{HeldSometime, party_of, span_of, held_later, gone_less, worn_on, count_later}
use Rattle.laws_container.proofs.Names.{Goes, Spares, IsSeen, knows_later, through_less, through_now}
use Rattle.laws_container.proofs.Names.{release_at}
use Rattle.steps.specs.declared.container.add.AddStage.TheVariants as adds
use Rattle.steps.specs.declared.container.find.FindStage.TheVariants as finds
use Rattle.steps.specs.declared.container.remove.RemoveStage.TheVariants as removes
use Rattle.steps.specs.declared.container.replace.ReplaceStage.TheVariants as replaces
use Rattle.steps.specs.declared.copied.Buffer as buffers
use Rattle.steps.specs.declared.indices.robust.release.ReleaseStage.TheVariants as releases
use Rattle.laws_robust.proofs.Knows as set
use Rattle.laws_container.proofs.HiddenKnows.{no_index}
use Rattle.model.proofs.Locks.{locked_later}
use Rattle.laws_container.proofs.HiddenLater.{TurnOfAnother, remove_covers, hidden_stands, hidden_later}
use Rattle.laws_container.proofs.Knows.{View, of_set, now, IsPaid, Lives, Worn, WasFilled, AddOwns, HasFound}
use Rattle.laws_container.proofs.Knows.{ReplaceKnows, Covers, Writes, HasPlaced, Stood, AddKnows, ReplacesKnow}
use Rattle.laws_container.proofs.Knows.{RemoveSays, HasCome, HasLeft, ReleaseHides, ReleaseLeft, RemoveKnows, Copying}
use Rattle.laws_container.proofs.Knows.{HasCopied, CheckPaid, HasFoundBelow, Finds, Steady, FindKnows}
use Rattle.laws_container.proofs.Replaces.{ReplaceOwns, replace_later, add_later}
use Rattle.laws_container.proofs.StateInvariant.{StoodThere}
use Rattle.laws_container.proofs.Terms.{Keeps}
use Rattle.laws_container.proofs.Turns.{WellFormed, count_in, Passes, LeavesParty}
use Rattle.laws_container.proofs.Writers.{Replacing, IsWriter}

module _ {T : Type 0} where
  -- in a well-formed run a replace that has taken a step and found its owner was begun where it might replace
  pub may_replace : (index owner : ℕ) (value : T) (v : View T) → HasFound index owner value v
      → WasFilled owner index v → WellFormed (now v) → MayReplace v.party index owner v.events
  may_replace = grind arith

  -- in a well-formed run a replace that has found its owner in the cell may write at its index, if that owner
  -- is not gone
  pub replacing : (c index owner : ℕ) (value : T) (v : View T) → ReplaceKnows c index owner value v
      → WellFormed (now v) → Lives owner v → Replacing v.party index owner v.events
  replacing = grind (arith, may_replace)

  -- a turn of another party, and what it leaves to the party that has this view
  pub record OthersTurn (code : Coding T) (c : ℕ) (v : View T) : Type 0 where
    -- the words, the states, the calls and the changes after the turn, and the events that it writes
    pub words_then : List ℕ
    pub states_then : List (ℕ × ContainerState T)
    pub latest_then : List (ℕ × Party T)
    pub es : List (Event T)
    pub changes_then : ℕ
    -- what it does to the set, and to the elements
    pub goes : Goes v.words words_then v.events es
    pub spares : Spares v.terms.by v.party v.events es
    pub seen : IsSeen v.words words_then v.changes changes_then
    pub passes : Passes code c (now v) (record { terms = v.terms; words = words_then; latest = latest_then; events = v.events ++ es })
    pub leaves : LeavesParty code c v.party (now v) (record { terms = v.terms; words = words_then; latest = latest_then; events = v.events ++ es })
    -- it leaves the party's own events, call and state as they were
    pub span : span_of v.party (v.events ++ es) ≡ span_of v.party v.events
    pub same_party : party_of v.party latest_then ≡ party_of v.party v.latest
    pub same_state : state_of v.party states_then ≡ state_of v.party v.states

-- `c` is the capacity, `v` what the party sees before the turn of another party, and `later`
-- what it sees after it
module _ {T : Type 0} (code : Coding T) (c : ℕ) (v : View T) (turn : OthersTurn code c v) where
  open turn use {
    words_then as words',
    states_then as states',
    latest_then as latest',
    es as es,
    changes_then as changes',
    goes as goes,
    spares as spares,
    seen as seen,
    passes as passes,
    leaves as leaves,
    span as span,
    same_party as same_party,
  }

  -- the turn, as the machine without the parties' states has it
  abbrev pub of_another : TurnOfAnother code c v.party (now v)
  of_another = record { words' = words'; latest' = latest'; es = es; goes = goes; spares = spares; passes = passes; leaves = leaves }

  -- the turn, as the set has it
  abbrev pub of_set_turn : set.OthersTurn (of_set v)
  of_set_turn = record { words' = words'; es = es; changes' = changes'; goes = goes; spares = spares; seen = seen }

  -- what the party sees after the turn
  abbrev pub later : View T
  later =
      record {
        terms = v.terms;
        words = words';
        states = states';
        latest = latest';
        events = v.events ++ es;
        party = v.party;
        since = v.since;
        changes = changes';
        backs = v.backs;
      }

  -- the party that knows
  abbrev q : ℕ
  q = v.party

  abbrev events : List (Event T)
  events = v.events

  -- what the call has paid for its turns back is paid still
  pub paid : IsPaid v → IsPaid later
  paid is_paid = ⊎_elim (λ s. let same = s.1 in omega arith) (λ more. omega arith) seen

  -- a failed check that is paid for stays paid for
  pub check_paid : (index count : ℕ) → CheckPaid code c index count v → CheckPaid code c index count later
  check_paid index count was_paid = grind arith

  -- an owner who is not gone after the turn was not gone before it
  lives : (owner : ℕ) → Lives owner later → Lives owner v
  lives owner alive = gone_less v.terms.by owner events es alive

  -- what the call knows of the set it knows still
  pub set_knows : {flight : _} → set.Knows c flight (of_set v) → set.Knows c flight (of_set later)
  set_knows {flight} knows = knows_later of_set_turn c flight knows

  -- what held at a moment of the party's call held at one still
  pub once : (P : List (Event T) → Type 0) → HeldSometime q P events → HeldSometime q P (events ++ es)
  once P held_once = held_later q P events es spares.none held_once

  -- the other party's turn adds nothing to what the call has done to elements
  pub acts_same : acts_of q (events ++ es) ≡ acts_of q events
  acts_same = ap (λ s. acts (wrote_in s)) span

  -- the other party's turn adds nothing to what the call has done to the set
  pub set_acts_same : set_acts_of q (events ++ es) ≡ set_acts_of q events
  set_acts_same = spares.set_acts

  -- ---- a writer

  -- an add still owns its index
  add_owns : {owner index : ℕ} → AddOwns c owner index v → AddOwns c owner index later
  add_owns {owner} {index} owned = record { paid = paid owned.paid; within = owned.within; owns = add_later spares owned.owns }

  -- a replace that has taken a step is still the party's call
  pub found : (index owner : ℕ) (value : T) → HasFound index owner value v → HasFound index owner value later
  found = grind arith

  -- a replace still has its right to the index
  replace_owns : (index owner : ℕ) → ReplaceOwns v.terms.by q index owner events → ReplaceOwns v.terms.by q index owner (events ++ es)
  replace_owns index owner owned = replace_later index owner spares owned

  -- a replace that has found its owner in the cell knows so still
  replace_knows : {index owner : ℕ} {value : T} → ReplaceKnows c index owner value v → ReplaceKnows c index owner value later
  replace_knows {index} {owner} {value} knows =
      record {
        paid = paid knows.paid;
        within = knows.within;
        owns = replace_owns index owner knows.owns;
        found = found index owner value knows.found;
        filled = once (IsFilledWith owner index) knows.filled;
      }

  -- the party may write at the index, in a well-formed run and while its owner is not gone
  abbrev IsTheWriter : ℕ → ℕ → Type 0
  IsTheWriter owner index = WellFormed (now v) → Lives owner v → IsWriter q index owner events

  -- an add that owns its index may write there
  adds_write : {owner index : ℕ} → AddOwns c owner index v → IsTheWriter owner index
  adds_write owns well_formed alive = inl (owns.owns well_formed.calm alive).by

  -- a replace that has found its owner may write at its index
  replaces_write : {owner index : ℕ} {value : T} → ReplaceKnows c index owner value v → IsTheWriter owner index
  replaces_write {owner} {index} {value} knows well_formed alive = inr (replacing c index owner value v knows well_formed alive)

  -- the loaded number is still there, or what stood there is hidden
  covers : (owner index count : ℕ) → index < c → IsTheWriter owner index → Covers code c owner index count v → Covers code c owner index count later
  covers owner index count below writer covered well_formed alive = let by_lives = lives in grind arith

  -- the words that a writer has stored stand there still
  writes : {owner index : ℕ} {value : T} {k : ℕ} → index < c → IsTheWriter owner index
      → Writes code c owner index value k v → Writes code c owner index value k later
  writes below writer wrote = let by_lives = lives in grind arith

  -- a value that a call has placed is still the one that it has placed
  placed : (index : ℕ) (value : T) → HasPlaced code c index value v → HasPlaced code c index value later
  placed index value has_placed well_formed = ap (λ a. places a) acts_same ∙ has_placed (passes.well_formed well_formed)

  -- a value that a call has placed stands at its index still
  stood : (owner index : ℕ) → index < c → IsTheWriter owner index → Stood code c owner index v → Stood code c owner index later
  stood = grind (arith, lives)

  -- an add at any stage knows what it knew before
  pub add_knows : (value : T) (owner : ℕ) (stage : AddStage) → AddKnows code c value owner stage v → AddKnows code c value owner stage later
  add_knows value owner (adds.Acquires stage) knew = set_knows knew
  add_knows value owner (adds.LoadsCount index) knew = add_owns knew
  add_knows value owner (adds.Hides index count) knew =
      (add_owns knew.0, covers owner index count knew.0.within (adds_write knew.0) knew.1)
  add_knows value owner (adds.Stores index at) knew = (
    add_owns knew.0,
    writes knew.0.within (adds_write knew.0) knew.1,
  )
  add_knows value owner (adds.AddsCount index) knew = (
    add_owns knew.0,
    writes knew.0.within (adds_write knew.0) knew.1,
  )
  add_knows value owner (adds.AddsChange index) knew = (
    add_owns knew.0,
    placed index value knew.1,
    stood owner index knew.0.within (adds_write knew.0) knew.2,
  )

  -- a replace at any stage knows what it knew before
  pub replaces_know : (index : ℕ) (value : T) (owner : ℕ) (stage : ReplaceStage)
      → ReplacesKnow code c index value owner stage v → ReplacesKnow code c index value owner stage later
  replaces_know index value owner replaces.Refuses knew = paid knew
  replaces_know index value owner replaces.LoadsCell knew = (paid knew.0, replace_owns index owner knew.1)
  replaces_know index value owner replaces.LoadsCount knew = replace_knows knew
  replaces_know index value owner (replaces.Hides count) knew = (
    replace_knows knew.0,
    covers owner index count knew.0.within (replaces_write knew.0)
        knew.1,
  )
  replaces_know index value owner (replaces.Stores at) knew = (
    replace_knows knew.0,
    writes knew.0.within
        (replaces_write knew.0) knew.1,
  )
  replaces_know index value owner replaces.AddsCount knew = (
    replace_knows knew.0,
    writes knew.0.within
        (replaces_write knew.0) knew.1,
  )
  replaces_know index value owner replaces.AddsChange knew = (
    replace_knows knew.0,
    placed index value knew.1,
    stood owner index knew.0.within (replaces_write knew.0) knew.2,
  )

  -- ---- a remove

  -- an index that was filled after the call had freed its own was so also by the later events
  freed_later : (owner index : ℕ) → FilledSinceFreed q owner index events → FilledSinceFreed q owner index (events ++ es)
  freed_later owner index filled_since = record { other = filled_since.other; once = once _ filled_since.once }

  -- a counter at its end stays at its end
  pub worn : Worn v → Worn later
  worn end = worn_on v.terms.by v.words words' goes.stuck end

  -- what a remove's state will say it will say still
  remove_says : (index owner : ℕ) (mode : ReleaseMode) (state : ReleaseState)
      → RemoveSays code c index owner mode state v → RemoveSays code c index owner mode state later
  remove_says = grind (arith, locked_later, once, inl, worn, inr, freed_later)

  -- the number of an element is still at least the one that was loaded, where few turns are taken
  pub count_below : (index count : ℕ) → index < c → HasCome code c index count v → HasCome code c index count later
  count_below index count low has_come kept = grind arith

  -- a number that is there after the turn, and was loaded before it, was there before it
  was_there : (index count : ℕ) → index < c → HasCome code c index count v → Keeps v.terms
      → count_in code c (now later) index ≡ count → count_in code c (now v) index ≡ count
  was_there index count low come kept same_number = grind arith

  -- what a remove left at its index is left there still
  pub has_left : {index count : ℕ} → HasLeft code c index count v → HasLeft code c index count later
  has_left left = grind arith

  -- what a release in a remove knows of what it left it knows still
  release_left : (index count : ℕ) (stage : ReleaseStage) → ReleaseLeft code c index count stage v → ReleaseLeft code c index count stage later
  release_left index count stage was_left = grind arith

  -- what a release in a remove knows of the element that stood at its index it knows still
  release_hides : (index owner : ℕ) (mode : ReleaseMode) (count : ℕ) (stage : ReleaseStage)
      → set.Knows c (release_at c index owner mode stage) (of_set v) → ReleaseLeft code c index count stage v
      → ReleaseHides code c index owner count stage v → ReleaseHides code c index owner count stage later
  release_hides index owner mode count releases.EmptiesCell knows left was_hidden =
      remove_covers of_another owner index count left.0 knows.owns was_hidden
  release_hides index owner mode count (releases.Raises raise) knows left was_hidden =
      hidden_stands of_another owner index count left.within was_hidden
  release_hides index owner mode count (releases.Locks lock) knows left was_hidden =
      hidden_stands of_another owner index count left.within was_hidden

  -- a remove at any stage knows what it knew before
  pub remove_knows : (index owner : ℕ) (mode : ReleaseMode) (stage : RemoveStage)
      → RemoveKnows code c index owner mode stage v → RemoveKnows code c index owner mode stage later
  remove_knows index owner mode removes.Refuses knew = paid knew
  remove_knows index owner mode removes.LoadsCount knew = set_knows knew
  remove_knows index owner mode (removes.Releases count stage) knew = (
    set_knows knew.0,
    release_left index count stage knew.1,
    release_hides index owner mode count stage knew.0 knew.1 knew.2,
  )
  remove_knows index owner mode (removes.Hides count state) h = (
    paid h.0,
    remove_says index owner mode state h.1,
    has_left h.2,
    hidden_stands of_another owner index count h.2.within h.3,
  )
  remove_knows index owner mode (removes.AddsChange state) h =
      (paid h.0, remove_says index owner mode state h.1, hidden_later of_another owner no_index h.2)

  -- ---- a copy, and a find

  -- the words of a copy that are read are still those that stand under the loaded number
  pub copying : (index count : ℕ) (copy : List ℕ) (k : ℕ) → Copying code c index count copy k v → Copying code c index count copy k later
  copying = grind (arith, count_below, was_there)

  -- the latest act of the call is still its copy
  pub has_copied : (index : ℕ) (room : buffers.Buffer 128) → HasCopied code c index room v → HasCopied code c index room later
  has_copied index room copied = subst (IsLatest (Copies index (read_in code room))) (sym acts_same) copied

  -- what stood at an index through the call up to now stood there through the call up to the turn
  through_before : (i : ℕ) → StoodThere q i (events ++ es) → StoodThere q i events
  through_before i through = through_less q (λ part. is_some (contents_of i part) ≡ true) events es spares.none through

  -- the indices that a find has counted and copied are counted and copied still
  found_below : (owner bound k number : ℕ) → HasFoundBelow code c owner bound k number v → HasFoundBelow code c owner bound k number later
  found_below owner bound k number has_found_below =
      record {
        count =
            record {
              chosen = has_found_below.count.chosen;
              is = has_found_below.count.is;
              once = λ i below chosen. once (IsFilledWith owner i) (has_found_below.count.once i below chosen);
              through = λ i below through. has_found_below.count.through i below (through_less q (IsFilledWith owner i) events es spares.none through);
            };
        copied = λ i less chosen through.
            let had = has_found_below.copied i less chosen (through_before i through) in
            (had.0, subst (IsOneOf _) (sym acts_same) had.1);
      }

  -- what a find has counted is still counted right
  finds_on : (owner bound k number : ℕ) → Finds code c owner bound k number v → Finds code c owner bound k number later
  finds_on = grind (arith, paid, count_later, found_below)

  -- the element at the index, if it has stood through the call, still has the loaded number
  steady : (index count : ℕ) → index < c → Steady code c index count v → Steady code c index count later
  steady = grind (arith, through_before, through_now, is_some)

  -- a find at any stage knows what it knew before
  pub find_knows : (owner : ℕ) (room : buffers.Buffer 128) (stage : FindStage) → FindKnows code c owner room stage v → FindKnows code c owner room stage later
  find_knows owner room (finds.LoadsCell index number) knew = finds_on owner index index number knew
  find_knows owner room (finds.LoadsCount index number) knew =
      (finds_on owner (index + 1) index number knew.0, once (IsFilledWith owner index) knew.1)
  find_knows owner room (finds.LoadsWord index number count at) knew = (
    finds_on owner (index + 1) index number knew.0,
    steady index count knew.2.within knew.1,
    copying index count room.words at knew.2,
    once (IsFilledWith owner index) knew.3,
  )
  find_knows owner room (finds.ChecksCount index number count) h = (
    finds_on owner (index + 1) index number h.0,
    steady index count h.2.within h.1,
    copying index count room.words code.size h.2,
    once (IsFilledWith owner index) h.3,
  )
  find_knows owner room (finds.Asks index number) h = (finds_on owner (index + 1) (index + 1) number h.0, has_copied index room h.1)
