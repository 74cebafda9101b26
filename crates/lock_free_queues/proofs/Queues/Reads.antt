-- What one load of a queue's word tells, and what the loads of all words tell together.
use Rattle.lock_free_queues.proofs.Names.{◌≡◌, ⊎_elim, ℕ, None, ◌+◌, ◌<◌, ◌≤◌, ◌^◌, List, [], ◌∷◌, ◌++◌, length}
use Rattle.lock_free_queues.proofs.Names.{set, slice_index, refl, sym, ap, subst, ◌∙◌, append-nil}
use Rattle.lock_free_queues.proofs.Names.{length-set, get_or-set_same, get_or-set_other, arith, cases_lt}
use Rattle.lock_free_queues.proofs.Names.{Me, Allows, Event, QueueKind, Kind, Coding, IsAll, MissesNothing}
use Rattle.lock_free_queues.proofs.Names.{publishes, published, handed_out, machine_kind, View, IsBeginning, IsMachine, IsRun, Looks}
use Rattle.lock_free_queues.proofs.Names.{LooksAt, first_view, queue_goes_on}
use Rattle.lock_free_queues.proofs.Names.{Option, Start, Flight, get_left}
use Rattle.std.proofs.Common.{length-append}
use Rattle.history.proofs.PassLooks.{looks_at}
use Rattle.history.specs.History.{IsLate}
use Rattle.steps.specs.declared.ask.Op.TheVariants.{Load}
use Rattle.threaded.specs.Driver.{OwesAsk}
use Rattle.lock_free_queues.specs.Queues.Kinds.{words_in_cells}
use Rattle.lock_free_queues.specs.Queues.Contracts.{HasLooked}
use Rattle.lock_free_queues.proofs.Queues.Kinds.{words_long}
use Rattle.lock_free_queues.specs.Queues.Reads.{WasRead, CellsRead, HasRead, LastWords}
use Rattle.history.proofs.Known.{begins_further, itself}
use Rattle.history.proofs.Ranks.{hits_grow}
use Rattle.lock_free_queues.proofs.Queues.Whole.{none_more}

module _ {T : Type 0} where
  -- A beginning of the empty list is empty.
  begins_nothing : (xs : List (Event T)) → IsBeginning xs [] → xs ≡ []
  begins_nothing [] beginning = refl
  begins_nothing (x ∷ xs) beginning = (let no : [] ≡ x ∷ (xs ++ beginning.rest) = beginning.is in absurd (cc))

  -- Two reads, one after the other, are one from the first view to the last.
  pub then_read : {v w x : View T} → HasRead v w → HasRead w x → HasRead v x
  then_read {v} {w} {x} first_read second_read = grind (arith, begins_further)

  -- before its first load a pass has read what it had seen
  pub not_read : (v : View T) → MissesNothing v → HasRead v v
  not_read v all = record { share = refl; since = itself v.seen; made = refl; whole = λ x. refl; all = all }

module _ {T : Type 0} {code : Coding T} (kd : QueueKind) where
  -- v and w are what the pass knew before a look at the word and after it, l says how it looked
  module _ {capacity word found : ℕ} {v w : View T} (same : v.capacity ≡ capacity)
      (l : LooksAt code (machine_kind kd) v.capacity word v found w)
      (low : word < 4 + words_in_cells code.size kd capacity) where
    -- The load was of a run of the queue's machine.
    run : IsRun code (machine_kind kd) capacity l.trace
    run = subst (λ n. IsRun code (machine_kind kd) n l.trace) same l.run

    -- The load found the word of that machine.
    has_word : found ≡ slice_index l.trace.world.words word
    has_word = l.word_is (omega (arith, words_long code kd capacity l.trace run))

    -- The events of that machine are a beginning of what the pass knows then.
    ends_there : IsBeginning l.trace.events w.seen
    ends_there = record { rest = []; is = l.seen ∙ sym (append-nil l.trace.events) }

    -- So the word was read between what the pass knew before and after the load.
    pub was_read : WasRead code (machine_kind kd) capacity v w word found
    was_read = record { trace = l.trace; run = run; since = subst (IsBeginning v.seen) l.seen l.looks.mine; until = ends_there; found_is = has_word }

    -- a word that was looked at was read of a machine whose history is just what is seen then
    pub was_read_last : WasRead code (machine_kind kd) capacity w w word found
    was_read_last =
        record {
          trace = l.trace;
          run = run;
          since = subst (IsBeginning w.seen) l.seen (itself w.seen);
          until = ends_there;
          found_is = has_word;
        }

    -- a look changes nothing of what the pass has made and of its share, and with the whole share of what it has seen
    pub has_read : v.other ≡ [] → HasRead v w
    has_read alone =
        record {
          share = l.looks.share;
          since = l.looks.mine;
          made = l.looks.made;
          all = λ all. l.looks.all (subst IsAll l.looks.share all);
          whole =
              λ all. ⊎_elim (λ e. e) (λ e.
              (let none : w.seen ≡ [] = e ∙ alone in none ∙ sym (begins_nothing v.seen (subst (IsBeginning v.seen) none l.looks.mine))))
              (l.looks.whole all);
        }

module _ {T : Type 0} (code : Coding T) (kd : QueueKind) where
  -- what a look owes, where the seat knows this
  abbrev pub Owed : ℕ → ℕ → ℕ → ℕ → Me (Unit {0}) (View T) → Type 0
  Owed key slots id word me =
      Allows (IsMachine code (machine_kind kd) key) slots id me word (λ n. n)
      (λ found new. LooksAt code (machine_kind kd) me.0.capacity word me.0 found new.0
      × (new.0.asked ≡ me.0.asked + 1) × (new.1 ≡ []))

  -- while no call is under way nothing is late
  calm : (kind : QueueKind) (going : Option (Start T × Flight T)) → going ≡ None → (late : List (Event T)) → IsLate (machine_kind kind) going late → late ≡ []
  calm kind going going_is_none late is_late = grind arith

  -- a seat that has a share and no call under way owes for a look only what the rule grants
  pub owed : (key slots id word : ℕ) (v : View T) (me : Me (Unit {0}) (View T)) → me ≡ (v, []) → v.capacity ≡ key
      → v.going ≡ None → 0 < v.share.part → Owed key slots id word me
  owed key slots id word v me same size idle some =
      subst (Owed key slots id word) (sym same)
      (subst (λ k. Owed k slots id word (v, [])) size
      (λ s holds many at low.
      -- The load is a look at the whole history, and what it finds is the word in the machine of that moment.
      let looked = looks_at code (machine_kind kd) v.capacity slots id word v some (calm kd v.going idle) s holds many at low in (
        looked.0,
        looked.1,
        looked.2,
        looked.3,
        (
          record {
            looks = looked.4.0;
            trace = holds.trace;
            run = holds.run;
            seen = looked.5;
            word_is =
                λ below. ap (λ ws. slice_index ws word) holds.words ∙ get_left holds.trace.world.words (0 ∷ []) word below;
          },
          looked.6,
          looked.4.1,
        ),
      )))

  -- a look is what a seat owes for one operation, where it has a share and no call under way
  pub owes_look : (key words slots id word : ℕ) (v : View T) (xs : List (ℕ × Unit {0})) → word < words → xs ≡ [] → v.capacity ≡ key
      → v.going ≡ None → 0 < v.share.part
      → OwesAsk (λ (z : View T). z.asked) (IsMachine code (machine_kind kd) key) words slots id
      (λ u n w. LooksAt code (machine_kind kd) u.capacity word u n w) word Load (v, xs)
  owes_look key words slots id word v xs below bare size idle some =
      subst (λ ys. OwesAsk (λ (z : View T). z.asked) (IsMachine code (machine_kind kd) key) words slots id
      (λ u n w. LooksAt code (machine_kind kd) u.capacity word u n w) word Load (v, ys)) (sym bare)
      (below, owed key slots id word v (v, []) refl size idle some)

module _ {T : Type 0} {code : Coding T} {kind : Kind} where
  -- with the whole share, a look sees nothing more
  pub has_looked : {v w : View T} → v.other ≡ [] → Looks code kind v.capacity v w → HasLooked v w
  has_looked {v} {w} alone looks =
      record {
        made = looks.made;
        whole =
            λ all. ⊎_elim (λ e. e)
            (λ e. (let none : w.seen ≡ [] = e ∙ alone in none ∙ sym (begins_nothing v.seen (subst (IsBeginning v.seen) none looks.mine))))
            (looks.whole all);
      }

  -- ---- one load after another

  -- a word that was read since a later view was read since an earlier one
  pub read_since : {capacity word found : ℕ} {v w x : View T} → HasRead v w
      → WasRead code kind capacity w x word found → WasRead code kind capacity v x word found
  read_since {capacity} {word} {found} {v} {w} {x} read r =
      record {
        trace = r.trace;
        run = r.run;
        since = begins_further v.seen w.seen r.trace.events read.since r.since;
        until = r.until;
        found_is = r.found_is;
      }

  -- a word that was read until an earlier view was read until a later one
  pub read_until : {capacity word found : ℕ} {v w x : View T} → WasRead code kind capacity v w word found
      → HasRead w x → WasRead code kind capacity v x word found
  read_until {capacity} {word} {found} {v} {w} {x} r read =
      record {
        trace = r.trace;
        run = r.run;
        since = r.since;
        until = begins_further r.trace.events w.seen x.seen r.until read.since;
        found_is = r.found_is;
      }

module _ {T : Type 0} (code : Coding T) (kind : Kind) where
  -- the words of cells below one were read
  abbrev pub ReadTo : ℕ → View T → View T → ℕ → List ℕ → Type 0
  ReadTo capacity v w at words = (word : ℕ) → 4 ≤ word → word < at → WasRead code kind capacity v w word (slice_index words word)

  -- At first no word of a cell was read.
  pub none_read : (capacity : ℕ) (v w : View T) (words : List ℕ) → ReadTo capacity v w 4 words
  none_read capacity v w words word high low = absurd (omega arith)

module _ {T : Type 0} {code : Coding T} {kind : Kind} {capacity : ℕ} where
  -- A word of the cells that is read at the place `at` adds to the words that were read: those below at + 1.
  pub one_read : {v w x : View T} {at found : ℕ} (words : List ℕ) → at < length words → HasRead v w → HasRead w x
      → ReadTo code kind capacity v w at words → WasRead code kind capacity w x at found
      → ReadTo code kind capacity v x (at + 1) (set words at found)
  one_read {v} {w} {x} {at} {found} words inside a b cells r word high low =
      ⊎_elim (λ (before : word < at). subst (WasRead code kind capacity v x word)
      (sym (get_or-set_other words at word found 0 (λ e. absurd (omega arith))))
      (read_until (cells word high before) b))
      (λ (last : at ≤ word).
      let here : word ≡ at = omega arith in
      let is : slice_index (set words at found) word ≡ found = ap (λ k. slice_index (set words at found) k) here ∙ get_or-set_same words at found 0 inside in
      subst (WasRead code kind capacity v x word) (sym is)
      (subst (λ k. WasRead code kind capacity v x k found) (sym here) (read_since a r)))
      (cases_lt word at)

  -- The words that were read, with both positions put in, are those of the queue at the moment when the
  -- read position was read.
  pub last_words : (wide : ℕ) {v w x y : View T} (words : List ℕ) {write taken : ℕ} → capacity < 2 ^ 32 → length words ≡ 4 + wide → write < 2 ^ 64
      → HasRead v w → HasRead w x → HasRead x y → WasRead code kind capacity w w 0 write
      → CellsRead code kind capacity w x words → WasRead code kind capacity x x 1 taken → WasRead code kind capacity y y 0 write
      → (l : LastWords code kind wide capacity v (set (set words 0 write) 1 taken)) × (l.new ≡ x)
  last_words wide {v} {w} {x} {y} words {write} {taken} small long low opening reading ending first cells took last =
      let a : List ℕ = set words 0 write in
      let la = length-set words 0 write in
      let lb = length-set a 1 taken in
      -- Putting in the read position leaves the write position, and no word of a cell is changed by either.
      let write_is : slice_index (set a 1 taken) 0 ≡ write =
      get_or-set_other a 1 0 taken 0 (λ e. absurd (omega arith)) ∙ get_or-set_same words 0 write 0 (omega arith) in
      let taken_is : slice_index (set a 1 taken) 1 ≡ taken = get_or-set_same a 1 taken 0 (omega arith) in (
        record {
          begun = w;
          new = x;
          ended = y;
          opening = opening;
          reading = reading;
          ending = ending;
          small = small;
          long = omega arith;
          fits = subst (λ n. n < 2 ^ 64) (sym write_is) low;
          first_read = subst (WasRead code kind capacity w w 0) (sym write_is) first;
          cells = λ word high inside. (
              let same : slice_index (set a 1 taken) word ≡ slice_index words word =
              get_or-set_other a 1 word taken 0 (λ e. absurd (omega arith))
              ∙ get_or-set_other words 0 word write 0 (λ e. absurd (omega arith)) in
              subst (WasRead code kind capacity w x word) (sym same) (cells word high (omega arith)));
          taken_read = subst (WasRead code kind capacity x x 1) (sym taken_is) took;
          last_read = subst (WasRead code kind capacity y y 0) (sym write_is) last;
        },
        refl,
      )

module _ {T : Type 0} (code : Coding T) (kd : QueueKind) where
  module _ (capacity : ℕ) (v : View T) where
    -- a word that was read as all this was seen
    pub read_here : (word found : ℕ) → (r : WasRead code (machine_kind kd) capacity v v word found) → r.trace.events ≡ v.seen
    read_here word found r =
        let low = ap length r.since.is in
        let a = length-append v.seen r.since.rest in
        let high = ap length r.until.is in
        let b = length-append r.trace.events r.until.rest in
        none_more v.seen r.since.rest r.trace.events r.since.is (omega arith)

    -- the positions say how many were published and taken out
    pub write_here : (n : ℕ) → WasRead code (machine_kind kd) capacity v v 0 n → n ≡ length (published v.seen)
    write_here n r =
        r.found_is
        ∙ ((queue_goes_on code kd (first_view capacity) r.trace r.run).book.write ∙ ap (λ es. length (published es)) (read_here 0 n r))

    -- The read position that is read as the pass stands now is the number of items that it
    -- has seen taken out.
    pub taken_here : (n : ℕ) → WasRead code (machine_kind kd) capacity v v 1 n → n ≡ length (handed_out v.seen)
    taken_here n r =
        r.found_is
        ∙ ((queue_goes_on code kd (first_view capacity) r.trace r.run).book.read ∙ ap (λ es. length (handed_out es)) (read_here 1 n r))

-- the write position never sinks
pub writes_rise : {T : Type 0} {code : Coding T} (kd : QueueKind) {capacity n m : ℕ} {v w : View T} → HasRead v w
    → WasRead code (machine_kind kd) capacity v v 0 n → WasRead code (machine_kind kd) capacity w w 0 m → n ≤ m
writes_rise {T} {code} kd {capacity} {n} {m} {v} {w} read first_was_read second_was_read =
    omega (
      arith,
      write_here code kd capacity v n first_was_read,
      write_here code kd capacity w m second_was_read,
      hits_grow publishes v.seen w.seen read.since,
    )
