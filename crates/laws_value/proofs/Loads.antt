-- The steps of a load of the single value: it loads the version, loads the words of the cell before the
-- version's, and loads the version again; it ends if that is the same, and else begins again.
use Rattle.std.proofs.Common.{◌≡◌, ℕ, ◌+◌, ◌*◌, ◌^◌, ◌<◌, ◌≤◌, ◌==◌, nat_lt, Bool, true, false, Option}
use Rattle.std.proofs.Common.{Some, length, get_or, take, refl, sym, subst, ◌∙◌, arith, length-set}
use Rattle.laws_value.proofs.Names.{nat_tests, Ask, After, GoOn, Done, LoadStage, cell_word, before_version, word_at}
use Rattle.laws_value.proofs.Names.{Answer, AtomicFlight, IsCoding, after, goes_back, change_of, Scene, Inv}
use Rattle.std.proofs.lemmas.List.{set-get_or}
use Rattle.steps.specs.declared.ask.Op.TheVariants.{Load, Exchange}
use Rattle.steps.specs.declared.atomic.LoadStage.TheVariants as loading
use Rattle.steps.specs.declared.copied.Buffer as buffers
use Rattle.model.specs.declared.event.Answer.TheVariants as answers
use Rattle.model.specs.declared.families.atomic.AtomicStart.TheVariants as starts
use Rattle.model.specs.Families.Queues.Calls.{kept_at, read_in}
use Rattle.laws_queues.proofs.Queues.Core.{one_more}
use Rattle.laws_value.proofs.Core.{Core, Good, layout, same_words}
use Rattle.laws_value.proofs.Invariant.{Value, outline}
use Rattle.laws_value.proofs.Knows.{KnowsLoad, KnowsBacks, IsCopied, load_at, load_number}
use Rattle.laws_value.proofs.Stages.{StepShowsBy, StepOf, quiet, changes_then}

-- a room that has all words of the value that stands begins with that value
whole_room : (size : ℕ) (k : Core) (room : buffers.Buffer 128) → size ≤ 128 → length room.words ≡ 128
    → length k.now ≡ size → IsCopied k room size → take size room.words ≡ k.now
whole_room size k room few long sized copied = same_words size room.words k.now sized (omega arith) copied

-- the load in the turn of the scene; the version fits its word
module _ {T : Type 0} {scene : Scene T Value} (inv : Inv outline scene) (small : scene.state.core.version < 2 ^ 64) where
  open scene.state use {holder as ho, core as k}
  open scene use {coding as code, party as p, steps, backs, since, changes}

  g : Good code.size k
  g = inv.holds.good

  coded : IsCoding code
  coded = inv.holds.coded

  -- what a step with the operation `ask`, after which the load is this, has to show
  abbrev StepShows : Option Ask → Bool → After (AtomicFlight T) (Answer T) → Type 0
  StepShows ask back after = StepShowsBy scene starts.Load ask back after

  -- what a step of the load at this stage has to show, with this room
  abbrev StageShows : buffers.Buffer 128 → LoadStage → Type 0
  StageShows room stage = StepOf scene starts.Load (load_at room stage)

  -- the step in which a load loads the version: it goes on to the first word of the cell
  loads : (room : buffers.Buffer 128) → length room.words ≡ 128 → steps ≤ 0 → backs + since ≤ changes → StageShows room loading.LoadsVersion
  loads = grind arith

  -- ---- the cell

  -- the load has read `at` words of the cell under the number `version`
  module _ (room : buffers.Buffer 128) (version at : ℕ) (long : length room.words ≡ 128) (below : at < code.size)
      (copied : version ≡ k.version → IsCopied k room at) where
    -- the word that is loaded, what is found there, and the room with it
    abbrev place : ℕ
    place = word_at (cell_word code.size (before_version version)) at

    abbrev loads_word : Option Ask
    loads_word = Some (record { word = place; op = Load })

    abbrev found : ℕ
    found = get_or (layout ho k) place 0

    abbrev room_then : buffers.Buffer 128
    room_then = kept_at room at found

    -- while the version is the one that was loaded, the word that is found is one of the value that stands
    found_is : version ≡ k.version → found ≡ get_or k.now at 0
    found_is = grind arith

    -- while the version is the one that was loaded, the room has one word more of the value that stands
    copied_more : version ≡ k.version → IsCopied k room_then (at + 1)
    copied_more same =
        let few = coded.few in
        one_more (λ n. n) room.words k.now at found (λ n h e. absurd (omega arith)) (omega arith) (found_is same) (copied same)

    -- the load of a word leads to the stage `stage`, where the load knows what that stage asks
    loaded_word : (stage : LoadStage) → KnowsLoad code.size k room_then stage
        → steps + 1 ≤ load_number code.size stage (backs + 0)
        → KnowsBacks k (since + change_of (layout ho k) loads_word) (changes_then scene loads_word) (backs + 0) stage
        → StepShows loads_word false (GoOn (load_at room_then stage))
    loaded_word stage knows few_steps paid =
        quiet scene inv false starts.Load loads_word (load_at room_then stage) k (record {
          version = refl;
          now = refl;
          good = g;
          words_then = set-get_or (layout ho k) place 0;
          steps = few_steps;
          at = knows;
          knows = paid;
          others = λ q ne st f h. h;
        })

    abbrev next_cell : LoadStage
    next_cell = loading.LoadsCell version (cell_word code.size (before_version version)) (at + 1)

    -- the step in which a load reads a word of the cell: it goes on to the next word, or to the version again
    loads_cell : version ≤ k.version → backs + since + k.version ≤ changes + version
        → steps ≤ 1 + at + backs * (1 + code.size)
        → StageShows room (loading.LoadsCell version (cell_word code.size (before_version version)) at)
    loads_cell low paid few_steps = go (nat_lt (at + 1) code.size) refl
      where
        long_then : length room_then.words ≡ 128
        long_then = length-set room.words at found ∙ long

        -- the cases are whether a further word of the cell is to be loaded
        go : (t : Bool) → nat_lt (at + 1) code.size ≡ t → StageShows room (loading.LoadsCell version (cell_word code.size (before_version version)) at)
        go true word_test =
            let next : at + 1 < code.size = grind (arith, nat_tests) in
            let goes : after code
            (load_at room (loading.LoadsCell version (cell_word code.size (before_version version)) at))
            found
            ≡ GoOn (load_at room_then next_cell) =
            rw word_test refl in
            subst (λ a. StepShows loads_word false a) (sym goes)
            (loaded_word next_cell (long_then, refl, next, low, copied_more) (omega arith) (low, omega arith))
        go false word_test =
            let last : at + 1 ≡ code.size = grind (arith, nat_tests) in
            let goes : after code
            (load_at room (loading.LoadsCell version (cell_word code.size (before_version version)) at))
            found
            ≡ GoOn (load_at room_then (loading.ChecksVersion version)) =
            rw word_test refl in
            subst (λ a. StepShows loads_word false a) (sym goes)
            (loaded_word (loading.ChecksVersion version)
            (long_then, low, λ same. subst (λ n. IsCopied k room_then n) last (copied_more same)) (omega arith)
            (low, omega arith))

  -- ---- the version again

  abbrev checks : ℕ → Option Ask
  checks version = Some (record { word = 0; op = Exchange version version })

  -- a room that has all words of the value that stands reads as that value
  value_is : (room : buffers.Buffer 128) → length room.words ≡ 128 → IsCopied k room code.size → read_in code room ≡ code.value_of k.now
  value_is = grind (arith, length, false, whole_room, nat_tests)

  -- a load that finds the version unchanged ends with the value that stands
  ends : (version : ℕ) → backs + since ≤ changes → steps ≤ 1 + code.size + backs * (1 + code.size)
      → StepShows (checks version) false (Done (answers.Loaded (code.value_of k.now)))
  ends = grind arith

  abbrev checking : ℕ → LoadStage
  checking version = loading.ChecksVersion version

  -- the step in which a load reads the version again: it ends where the version is the same, and else begins
  -- again with the new version
  checks_version : (room : buffers.Buffer 128) (version : ℕ) → length room.words ≡ 128 → version ≤ k.version
      → (version ≡ k.version → IsCopied k room code.size) → backs + since + k.version ≤ changes + version
      → steps ≤ 1 + code.size + backs * (1 + code.size)
      → StageShows room (loading.ChecksVersion version)
  checks_version room version long low copied paid few_steps = go (k.version == version) refl
    where
      -- the cases are whether the version is still what was read
      go : (b : Bool) → (k.version == version) ≡ b → StageShows room (checking version)
      go true version_test =
          let same : version ≡ k.version = grind (arith, nat_tests) in
          let goes : after code (load_at room (checking version)) k.version ≡ Done (answers.Loaded (read_in code room)) = rw version_test refl in
          let back : goes_back {T = T} (load_at room (checking version)) k.version ≡ false = rw version_test refl in
          subst (λ a. StepShows (checks version) (goes_back {T = T} (load_at room (checking version)) k.version) a) (sym goes)
          (subst (λ b. StepShows (checks version) b (Done (answers.Loaded (read_in code room)))) (sym back)
          (subst (λ x. StepShows (checks version) false (Done (answers.Loaded x)))
          (sym (value_is room long (copied same))) (ends version (omega arith) few_steps)))
      go false version_test = grind arith

  -- each step of a load, at whatever stage, keeps the invariant
  pub load_step : (room : buffers.Buffer 128) (stage : LoadStage) → KnowsLoad code.size k room stage
      → KnowsBacks k since changes backs stage → steps ≤ load_number code.size stage backs → StageShows room stage
  load_step room loading.LoadsVersion knows paid few_steps = loads room knows few_steps paid
  load_step room (loading.LoadsCell version cell at) knows paid few_steps =
      subst (λ n. StageShows room (loading.LoadsCell version n at)) (sym knows.1) (loads_cell room version at knows.0 knows.2 knows.4 knows.3 paid.1 few_steps)
  load_step room (loading.ChecksVersion version) knows paid few_steps = checks_version room version knows.0 knows.1 knows.2 paid.1 few_steps
