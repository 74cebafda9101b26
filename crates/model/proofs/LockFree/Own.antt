-- What holds of the machines of a family of which nothing has to be known but where each call under way may stand: every turn
-- keeps it, and from a measure of those calls it follows that calls keep ending.
use Rattle.model.proofs.Names.{After, AllByRecursion, Answer, AreWithinEnds, Ask, Begin, Bool, Bound, Coding, Decide}
use Rattle.model.proofs.Names.{Die, Doing, Flight, GoOn, Going, IsAmong, IsCoding, KeepsEnding, Kind, List}
use Rattle.model.proofs.Names.{Next, None, Option, Over, Party, Refusal, Registry, Some, Start, Trace, Turn, World, []}
use Rattle.model.proofs.Names.{after_answer, after_begin, after_decision, after_next, after_of, after_turn, after_turns}
use Rattle.model.proofs.Names.{arith, ask_of, ask_of_doing, beside_of, call_refusal, capacity_error}
use Rattle.model.proofs.Names.{change_of, doing_after, ends, first_of, flight_in, goes_of, is_question}
use Rattle.model.proofs.Names.{kept_after_begin, kept_after_death, length, number_of, old_of, opening, opening_of, party_after}
use Rattle.model.proofs.Names.{party_at_begin, party_of, refl, step_count, step_in, step_of, steps_in, stretch}
use Rattle.model.proofs.Names.{subst, sym, true, unless_refused, want_of, words_after, world_after, ℕ, ◌+◌, ◌∙◌}
use Rattle.model.proofs.Names.{◌∷◌, ◌≡◌, ◌≤◌}
use Rattle.steps.specs.declared.ask.After.TheVariants.{Done}
use Rattle.model.specs.LockFree.{BeginsSuch}
use Rattle.model.specs.Parties.{put}
use Rattle.model.specs.Turns.{attempt_by, run_by, IsReachedBy}
use Rattle.model.proofs.Counts.{as_long}
use Rattle.model.proofs.LockFree.Falls.{falls_by, FallsIn, StepFalls, StepFallsBy}
use Rattle.model.proofs.LockFree.Measure.{Measure, WordMeasure, of_words, Owed, FallsBy}
use Rattle.model.proofs.LockFree.Stays.{under_way}
use Rattle.model.proofs.LockFree.Walks.{calls_end}
use Rattle.model.proofs.LockFree.Weighed.{KeepsEndingBy}
use Rattle.model.proofs.Parties.{put_each}
use Rattle.model.proofs.Reached.{turn_making}
use Rattle.model.proofs.Rows.{IsPossible, possible_on}

-- what is said of a family, for each coding and each capacity
pub record Outline (T : Type 0) : Type 1 where
  pub kind : Kind
  pub Such : Start T → Type 0  -- the calls that begin
  pub Kept : Registry T → Type 0  -- what is kept beside the words
  pub At : Coding T → ℕ → Start T → Flight T → Type 0  -- where a call of this name may stand
  pub Known : ℕ → Registry T → Flight T → Type 0  -- what is so of a party's call by what is kept
  pub measure : Coding T → ℕ → WordMeasure T

module _ {T : Type 0} (K : Outline T) where
  abbrev pub OwnAfter : Coding T → ℕ → Start T → After (Flight T) (Answer T) → Type 0
  OwnAfter code c start (GoOn flight) = K.At code c start flight
  OwnAfter code c start (Done answer) = Unit {0}

  abbrev pub KnownAfter : ℕ → Registry T → After (Flight T) (Answer T) → Type 0
  KnownAfter p kept (GoOn flight) = K.Known p kept flight
  KnownAfter p kept (Done answer) = Unit {0}

  -- What is known of a call by what was kept is known by what is kept now.
  abbrev pub Lasts : Registry T → Registry T → Type 0
  Lasts was now = (p : ℕ) (flight : Flight T) → K.Known p was flight → K.Known p now flight

  -- There are as many words as at the opening.
  abbrev pub IsWide : Coding T → ℕ → List ℕ → Type 0
  IsWide code c words = length words ≡ length ((opening_of K.kind).words code.size c)

  -- What a family owes, for a coding and an admitted capacity: what is kept stays as it may be (`opens`,
  -- `stays`, `dies`), each call stands where it may (`begins`, `goes`), and its measure falls with each of
  -- its turns (`decides`, `falls`) and is bounded (`most`).
  pub record OwnLaws (code : Coding T) (c : ℕ) : Type 0 where
    pub opens : K.Kept ((opening_of K.kind).kept c)
    pub begins : (start : Start T) (kept : Registry T) (flight : Flight T) → K.Such start → K.Kept kept → first_of K.kind c start kept ≡ Some flight
        → K.At code c start flight × ((p : ℕ) → K.Kept (kept_after_begin code c start p kept))
    pub knows : (start : Start T) (kept : Registry T) (flight : Flight T) (p : ℕ) → K.Kept kept → first_of K.kind c start kept ≡ Some flight
        → K.Known p (kept_after_begin code c start p kept) flight × Lasts kept (kept_after_begin code c start p kept)
    pub stays : (words : List ℕ) (beside : Option (ℕ × ℕ)) (p : ℕ) (start : Start T) (flight : Flight T) (old : ℕ) (kept : Registry T)
        → K.At code c start flight → K.Kept kept
        → K.Kept (step_of code words beside p start flight old kept).kept × Lasts kept (step_of code words beside p start flight old kept).kept
    pub goes : (p : ℕ) (start : Start T) (flight : Flight T) (old : ℕ) (kept : Registry T)
        → K.At code c start flight → K.Kept kept → K.Known p kept flight
        → OwnAfter code c start (goes_of code p flight old kept) × KnownAfter p kept (goes_of code p flight old kept)
    pub told : (words : List ℕ) (beside : Option (ℕ × ℕ)) (p : ℕ) (start : Start T) (flight : Flight T) (old : ℕ) (kept : Registry T)
        → K.At code c start flight → K.Kept kept
        → (step_of code words beside p start flight old kept).after ≡ goes_of code p flight old kept
    pub dies : (kept : Registry T) (owner : ℕ) → K.Kept kept → K.Kept (kept_after_death kept owner) × Lasts kept (kept_after_death kept owner)
    pub decides : (words : List ℕ) (p : ℕ) (kept : Registry T) (start : Start T) (flight : Flight T) (said : Bool)
        → K.At code c start flight → K.Kept kept → is_question (want_of code flight) ≡ true
        → FallsIn (K.measure code c) words words 0 flight (goes_of code p flight (number_of said) kept)
    pub most : (words : List ℕ) (start : Start T) (flight : Flight T) → K.At code c start flight
        → ((K.measure code c).left words flight ≤ (K.measure code c).alone) × ((K.measure code c).pays flight ≤ (K.measure code c).changes)
    pub falls : (words : List ℕ) (p : ℕ) (kept : Registry T) (start : Start T) (flight : Flight T)
        → K.At code c start flight → K.Kept kept → K.Known p kept flight → IsWide code c words
        → StepFallsBy (K.measure code c) code words p kept flight

  -- What a family owes whose tables of steps see nothing of what is kept beside the words: that each stage of
  -- a call leads to one where `At` holds (`begins`, `goes`), and that each step, decision and measure of a
  -- call is as its table says.
  pub record TableLaws (code : Coding T) (c : ℕ) : Type 0 where
    pub opens : K.Kept ((opening_of K.kind).kept c)
    pub known : (p : ℕ) (kept : Registry T) (flight : Flight T) → K.Known p kept flight
    pub begins : (start : Start T) (kept : Registry T) (flight : Flight T) → K.Such start → K.Kept kept → first_of K.kind c start kept ≡ Some flight
        → K.At code c start flight × ((p : ℕ) → K.Kept (kept_after_begin code c start p kept))
    pub stays : (words : List ℕ) (beside : Option (ℕ × ℕ)) (p : ℕ) (start : Start T) (flight : Flight T) (old : ℕ) (kept : Registry T)
        → K.At code c start flight → K.Kept kept → K.Kept (step_of code words beside p start flight old kept).kept
    pub goes : (start : Start T) (flight : Flight T) (old : ℕ) → K.At code c start flight → OwnAfter code c start (after_of code flight old)
    pub told : (words : List ℕ) (beside : Option (ℕ × ℕ)) (p : ℕ) (start : Start T) (flight : Flight T) (old : ℕ) (kept : Registry T)
        → K.At code c start flight → K.Kept kept
        → ((step_of code words beside p start flight old kept).after ≡ after_of code flight old)
        × (goes_of code p flight old kept ≡ after_of code flight old)
    pub dies : (kept : Registry T) (owner : ℕ) → K.Kept kept → K.Kept (kept_after_death kept owner)
    pub decides : (words : List ℕ) (start : Start T) (flight : Flight T) (said : Bool) → K.At code c start flight
        → is_question (want_of code flight) ≡ true → FallsIn (K.measure code c) words words 0 flight (after_of code flight (number_of said))
    pub most : (words : List ℕ) (start : Start T) (flight : Flight T) → K.At code c start flight
        → ((K.measure code c).left words flight ≤ (K.measure code c).alone) × ((K.measure code c).pays flight ≤ (K.measure code c).changes)
    pub falls : (words : List ℕ) (start : Start T) (flight : Flight T) → K.At code c start flight → IsWide code c words
        → StepFalls (K.measure code c) code words flight

  -- the laws of a family whose tables see nothing of what is kept give those of one whose tables do
  pub by_table : (code : Coding T) (c : ℕ) → TableLaws code c → OwnLaws code c
  by_table code c L =
      record {
        opens = L.opens;
        begins = L.begins;
        knows = λ start kept flight p held e. (L.known p (kept_after_begin code c start p kept) flight, lasts kept (kept_after_begin code c start p kept));
        stays = λ words beside p start flight old kept at held.
            (L.stays words beside p start flight old kept at held, lasts kept (step_of code words beside p start flight old kept).kept);
        goes = λ p start flight old kept at held known. (
          subst (OwnAfter code c start) (sym (L.told [] None p start flight old kept at held).1) (L.goes start flight old at),
          any_after p kept (goes_of code p flight old kept),
        );
        told = λ words beside p start flight old kept at held.
            (let told = L.told words beside p start flight old kept at held in told.0 ∙ sym told.1);
        dies = λ kept owner held. (L.dies kept owner held, lasts kept (kept_after_death kept owner));
        decides = λ words p kept start flight said at held due.
            subst (FallsIn (K.measure code c) words words 0 flight) (sym (L.told [] None p start flight (number_of said) kept at held).1)
            (L.decides words start flight said at due);
        most = L.most;
        falls = λ words p kept start flight at held known wide.
            (let ask = ask_of (want_of code flight) in
            subst (FallsIn (K.measure code c) words (words_after words ask) (step_count ask) flight)
            (sym (L.told [] None p start flight (old_of words ask) kept at held).1) (L.falls words start flight at wide));
      }
    where
      -- What is known does not depend on what is kept, so it lasts.
      lasts : (was now : Registry T) → Lasts was now
      lasts was now p flight known = L.known p now flight

      any_after : (p : ℕ) (kept : Registry T) (after : After (Flight T) (Answer T)) → KnownAfter p kept after
      any_after p kept (GoOn flight) = L.known p kept flight
      any_after p kept (Done answer) = tt

  module _ (laws : (code : Coding T) (c : ℕ) → IsCoding code → capacity_error K.kind c ≡ None → OwnLaws code c) where
    abbrev OwnDoing : World T → Registry T → ℕ → Start T → Doing T → Type 0
    OwnDoing w kept p start (Going flight since) = K.At w.coding w.capacity start flight × K.Known p kept flight
    OwnDoing w kept p start (Over others) = Unit {0}

    -- The party's latest call stands where the family knows it to stand, if it has begun one.
    abbrev OwnParty : World T → Registry T → ℕ → Option (Party T) → Type 0
    OwnParty w kept p None = Unit {0}
    OwnParty w kept p (Some x) = OwnDoing w kept p x.start x.doing

    record IsOwn (w : World T) : Type 0 where
      -- the machine is of the kind, with an admitted coding and capacity
      pub kind : w.kind ≡ K.kind
      pub coded : IsCoding w.coding
      pub admitted : capacity_error K.kind w.capacity ≡ None
      -- what is kept is as the family says, and there are as many words as at the opening
      pub kept : K.Kept w.kept
      pub wide : IsWide w.coding w.capacity w.words
      -- each call under way stands where it is known to
      pub calls : (p : ℕ) → OwnParty w w.kept p (party_of p w.latest)

    laws_of : {w : World T} → IsOwn w → OwnLaws w.coding w.capacity
    laws_of {w} own = laws w.coding w.capacity own.coded own.admitted

    -- ---- every turn keeps it

    -- what is kept becomes another
    party_lasts : (w : World T) (was now : Registry T) → Lasts was now → (p : ℕ) (o : Option (Party T)) → OwnParty w was p o → OwnParty w now p o
    party_lasts w was now lasts p None own = tt
    party_lasts w was now lasts p (Some x) own = go x.doing own
      where
        -- The cases are whether the party's latest call is under way or over.
        go : (doing : Doing T) → OwnDoing w was p x.start doing → OwnDoing w now p x.start doing
        go (Going flight since) own = (own.0, lasts p flight own.1)
        go (Over others) own = tt

    -- After a turn each party's call stands where it is known to, if that of the turn's own party does.
    put_own : (w : World T) (now : Registry T) (p : ℕ) (y : Party T) (latest : List (ℕ × Party T)) → Lasts w.kept now → OwnParty w now p (Some y)
        → ((q : ℕ) → OwnParty w w.kept q (party_of q latest)) → (q : ℕ) → OwnParty w now q (party_of q (put p y latest))
    put_own w now p y latest lasts mine all =
        put_each (OwnParty w now) p y latest mine (λ q ne. party_lasts w w.kept now lasts q (party_of q latest) (all q))

    -- After its step a call stands where it is known to, or it is over.
    doing_own : (w : World T) (now : Registry T) (p : ℕ) (start : Start T) (changes since : ℕ) (after : After (Flight T) (Answer T)) → Lasts w.kept now
        → OwnAfter w.coding w.capacity start after → KnownAfter p w.kept after → OwnDoing w now p start (doing_after changes since after)
    doing_own w now p start changes since (GoOn flight) lasts own_after known = (own_after, lasts p flight known)
    doing_own w now p start changes since (Done answer) lasts own_after known = tt

    -- `IsOwn` still holds of the machine when a call has gone on by an answer
    answer_keeps : {w : World T} (p : ℕ) (x : Party T) (ask : Option Ask) (answer : ℕ) (doing : Doing T) → IsOwn w
        → OwnDoing w w.kept p x.start doing → IsOwn (after_answer w p x ask answer doing)
    answer_keeps p x ask answer (Over others) is_own own = is_own
    answer_keeps {w} p x ask answer (Going flight since) is_own own =
        let beside = beside_of w.words w.kept w.latest p in
        let L = laws_of is_own in
        let told = L.told w.words beside p x.start flight answer w.kept own.0 is_own.kept in
        let goes = L.goes p x.start flight answer w.kept own.0 is_own.kept own.1 in
        let stays = L.stays w.words beside p x.start flight answer w.kept own.0 is_own.kept in
        let s = step_in w p x flight answer in
        record {
          kind = is_own.kind;
          coded = is_own.coded;
          admitted = is_own.admitted;
          kept = stays.0;
          wide = as_long w.words ask ∙ is_own.wide;
          calls =
              put_own w s.kept p (party_after x since w.changes (step_count ask) (change_of w.words ask) s) w.latest stays.1
              (doing_own w s.kept p x.start (w.changes + change_of w.words ask) (since + change_of w.words ask) s.after stays.1
              (subst (OwnAfter w.coding w.capacity x.start) (sym told) goes.0) (subst (KnownAfter p w.kept) (sym told) goes.1)) is_own.calls;
        }

    own_there : {w : World T} → IsOwn w → (p : ℕ) (x : Party T) → party_of p w.latest ≡ Some x → OwnDoing w w.kept p x.start x.doing
    own_there {w} own p x found = subst (OwnParty w w.kept p) found (own.calls p)

    -- A turn `Next` keeps what is known of the machine.
    next_keeps : {w : World T} (p : ℕ) → IsOwn w → (o : Option (Party T)) → party_of p w.latest ≡ o → IsOwn (after_next w p o)
    next_keeps p own None found = own
    next_keeps {w} p own (Some x) found =
        answer_keeps p x (ask_of_doing w.coding x.doing) (old_of w.words (ask_of_doing w.coding x.doing)) x.doing own (own_there own p x found)

    -- A decision keeps what is known of the machine.
    decision_keeps : {w : World T} (p : ℕ) (said : Bool) → IsOwn w → (o : Option (Party T)) → party_of p w.latest ≡ o
        → IsOwn (after_decision w p said o)
    decision_keeps p said own None found = own
    decision_keeps {w} p said own (Some x) found = answer_keeps p x None (number_of said) x.doing own (own_there own p x found)

    -- `IsOwn` still holds of the machine when a call has begun
    begun_keeps : {w : World T} (p : ℕ) (start : Start T) → K.Such start → IsOwn w → (o : Option (Flight T)) → first_of w.kind w.capacity start w.kept ≡ o
        → IsOwn (after_begin w p start o)
    begun_keeps p start such own None e = own
    begun_keeps {w} p start such is_own (Some flight) e =
        let L = laws_of is_own in
        let first : first_of K.kind w.capacity start w.kept ≡ Some flight = subst (λ kind. first_of kind w.capacity start w.kept ≡ Some flight) is_own.kind e in
        let own = L.begins start w.kept flight such is_own.kept first in
        let knows = L.knows start w.kept flight p is_own.kept first in
        record {
          kind = is_own.kind;
          coded = is_own.coded;
          admitted = is_own.admitted;
          kept = own.1 p;
          wide = is_own.wide;
          calls =
              put_own w (kept_after_begin w.coding w.capacity start p w.kept) p (party_at_begin start flight w.changes) w.latest knows.1
              (own.0, knows.0) is_own.calls;
        }

    -- `IsOwn` still holds of the machine after each turn
    turn_keeps : (w : World T) (turn : Turn T) → BeginsSuch K.Such turn → IsOwn w → IsOwn (world_after w turn)
    turn_keeps w (Begin p start) such own = begun_keeps p start such own (first_of w.kind w.capacity start w.kept) refl
    turn_keeps w (Next p) such own = next_keeps p own (party_of p w.latest) refl
    turn_keeps w (Decide p said) such own = decision_keeps p said own (party_of p w.latest) refl
    turn_keeps w (Die owner) such own =
        let L = laws_of own in
        let dies = L.dies w.kept owner own.kept in
        record {
          kind = own.kind;
          coded = own.coded;
          admitted = own.admitted;
          kept = dies.0;
          wide = own.wide;
          calls = λ p. party_lasts w w.kept (kept_after_death w.kept owner) dies.1 p (party_of p w.latest) (own.calls p);
        }

    -- What is known of a machine holds at its opening.
    opens : (code : Coding T) (c parties : ℕ) → IsCoding code → capacity_error K.kind c ≡ None → IsOwn (opening code K.kind c parties).world
    opens code c parties coded admitted =
        let L = laws code c coded admitted in
        record { kind = refl; coded = coded; admitted = admitted; kept = L.opens; wide = refl; calls = λ p. tt }

    -- What is known of a machine holds after a turn that is taken or refused.
    attempt_keeps : (t : Trace T) (turn : Turn T) → BeginsSuch K.Such turn → IsOwn t.world → (o : Option Refusal)
        → IsOwn (unless_refused t (after_turn t turn) o).world
    attempt_keeps t turn such own None = turn_keeps t.world turn such own
    attempt_keeps t turn such own (Some refusal) = own

    -- ---- each call under way

    -- A call under way stands where it is known to.
    call_there : {w : World T} → IsOwn w → {p : ℕ} (x : Party T) {flight : Flight T} {since : ℕ} → party_of p w.latest ≡ Some x
        → x.doing ≡ Going flight since → K.At w.coding w.capacity x.start flight × K.Known p w.kept flight
    call_there {w} own {p} x found doing = subst (OwnDoing w w.kept p x.start) doing (own_there own p x found)

    pub record Stands (w : World T) (flight : Flight T) : Type 0 where
      pub start : Start T
      pub at : K.At w.coding w.capacity start flight

    -- The flight of a party is that of a call which stands where it is known to.
    stands : {w : World T} → IsOwn w → (p : ℕ) {flight : Flight T} → flight_in w p ≡ Some flight → Stands w flight
    stands {w} own p {flight} flight_is =
        let under = under_way w p flight flight_is in
        let there = call_there own under.party under.found under.doing in
        record { start = under.party.start; at = there.0 }

    abbrev measure_of : World T → WordMeasure T
    measure_of w = K.measure w.coding w.capacity

    -- the measure of each machine of this coding and this capacity
    abbrev measured_in : Coding T → ℕ → Measure T
    measured_in code c = of_words (K.measure code c)

    -- a step by the table makes the measure of its call fall
    table_falls : {w : World T} → IsOwn w → {p : ℕ} (x : Party T) {flight : Flight T}
        → K.At w.coding w.capacity x.start flight → K.Known p w.kept flight
        → FallsBy (of_words (measure_of w)) w p x flight (ask_of (want_of w.coding flight)) (old_of w.words (ask_of (want_of w.coding flight)))
    table_falls {w} own {p} x {flight} stands_at known next e =
        let L = laws_of own in
        let ask = ask_of (want_of w.coding flight) in
        let old = old_of w.words ask in
        let told = L.told w.words (beside_of w.words w.kept w.latest p) p x.start flight old w.kept stands_at own.kept in
        falls_by (measure_of w) w p (words_after w.words ask) (step_in w p x flight old).kept (step_count ask) flight
        (goes_of w.coding p flight old w.kept) (L.falls w.words p w.kept x.start flight stands_at own.kept known own.wide) next (sym told ∙ e)

    -- an answer to a question makes the measure of its call fall
    decision_falls : {w : World T} → IsOwn w → (p : ℕ) (x : Party T) (flight : Flight T) (said : Bool) → K.At w.coding w.capacity x.start flight
        → is_question (want_of w.coding flight) ≡ true → FallsBy (of_words (measure_of w)) w p x flight None (number_of said)
    decision_falls {w} own p x flight said stands_at asks next e =
        let L = laws_of own in
        let told = L.told w.words (beside_of w.words w.kept w.latest p) p x.start flight (number_of said) w.kept stands_at own.kept in
        falls_by (measure_of w) w p w.words (step_in w p x flight (number_of said)).kept 0 flight
        (goes_of w.coding p flight (number_of said) w.kept) (L.decides w.words p w.kept x.start flight said stands_at own.kept asks) next (sym told ∙ e)

    abbrev May : List ℕ → Turn T → Type 0
    May ps turn = IsAmong ps turn × BeginsSuch K.Such turn

    -- Turns of parties below n that begin only calls of which `Such` holds are turns that may be taken.
    both_may : (ps : List ℕ) (turns : List (Turn T)) → AllByRecursion (IsAmong ps) turns → AllByRecursion (BeginsSuch K.Such) turns
        → AllByRecursion (May ps) turns
    both_may ps [] below such = tt
    both_may ps (turn ∷ turns) below such = ((below.0, such.0), both_may ps turns below.1 such.1)

    abbrev IsAt : Coding T → ℕ → Trace T → Type 0
    IsAt code c t = IsOwn t.world × (t.world.coding ≡ code) × (t.world.capacity ≡ c)

    -- the bound that the measure gives
    abbrev pub measured : Coding T → ℕ → ℕ → ℕ
    measured code c n = stretch n (K.measure code c).changes (K.measure code c).alone

    -- ---- every run of turns that are not refused

    module _ (refuses : World T → Turn T → Option Refusal) (possible : (w : World T) (turn : Turn T) → refuses w turn ≡ None → IsPossible w turn) where
      -- What is known of a machine holds after any list of turns that begin only calls of which `Such` holds.
      run_keeps : (turns : List (Turn T)) (t : Trace T) → AllByRecursion (BeginsSuch K.Such) turns → IsOwn t.world → IsOwn (run_by refuses turns t).world
      run_keeps [] t such own = own
      run_keeps (turn ∷ turns) t such own =
          run_keeps turns (attempt_by refuses t turn) such.1 (attempt_keeps t turn such.0 own (refuses t.world turn))

      -- `IsOwn` holds of every machine of this kind that such turns have reached
      reached_own : {t : Trace T} → t.world.kind ≡ K.kind → (r : IsReachedBy refuses t) → AllByRecursion (BeginsSuch K.Such) r.turns → IsOwn t.world
      reached_own {t} is r such =
          let world_now = t.world in
          subst (λ (u : Trace T). IsOwn u.world) (sym r.is)
          (run_keeps r.turns (opening world_now.coding world_now.kind world_now.capacity world_now.parties) such
          (subst (λ kind. IsOwn (opening world_now.coding kind world_now.capacity world_now.parties).world) (sym is)
          (opens world_now.coding world_now.capacity world_now.parties r.coded (subst (λ kind. capacity_error kind world_now.capacity ≡ None) is r.admitted))))

      -- what the measure has to show of each turn follows from these laws
      owed : (code : Coding T) (c : ℕ) (ps : List ℕ) → Owed (measured_in code c) refuses (IsAt code c) (May ps)
      owed code c ps =
          record {
            keeps = λ t turn e may h.
                (turn_keeps t.world turn may.1 h.0, (turn_making t.world turn).coding ∙ h.1, (turn_making t.world turn).capacity ∙ h.2);
            most = λ t h p flight e.
                (let L = laws_of h.0 in
                let there = stands h.0 p e in
                subst (λ z. ((K.measure z c).left t.world.words flight ≤ (K.measure z c).alone) × ((K.measure z c).pays flight ≤ (K.measure z c).changes)) h.1
                (subst
                (λ n. ((K.measure t.world.coding n).left t.world.words flight ≤ (K.measure t.world.coding n).alone)
                × ((K.measure t.world.coding n).pays flight ≤ (K.measure t.world.coding n).changes)) h.2
                (L.most t.world.words there.start flight there.at)));
            begins = λ t h p start e may q ne other is. omega arith;
            dies = λ t h owner e may q other is. omega arith;
            step = λ t h p x flight since found doing.
                (let ask = ask_of (want_of t.world.coding flight) in
                let there = call_there h.0 x found doing in
                subst (λ z. FallsBy (measured_in z c) t.world p x flight ask (old_of t.world.words ask)) h.1
                (subst (λ n. FallsBy (measured_in t.world.coding n) t.world p x flight ask (old_of t.world.words ask)) h.2
                (table_falls h.0 x there.0 there.1)));
            decision = λ t h p x flight since said found doing asks.
                subst (λ z. FallsBy (measured_in z c) t.world p x flight None (number_of said)) h.1
                (subst (λ n. FallsBy (measured_in t.world.coding n) t.world p x flight None (number_of said)) h.2
                (decision_falls h.0 p x flight said (call_there h.0 x found doing).0 asks));
          }

      -- from each machine reached, calls end as often as the bound says
      pub keeps_ending_by : (bound : Bound) → ((code : Coding T) (c n : ℕ) → bound n c code.size ≡ measured code c n)
          → KeepsEndingBy refuses K.kind K.Such bound
      keeps_ending_by bound same t is r such_before ps turns allowed below such =
          let world_now = t.world in
          subst (λ b. AreWithinEnds b (steps_in t turns) (ends t.events) (ends (after_turns t turns).events))
          (sym (same world_now.coding world_now.capacity (length ps)))
          (calls_end possible (owed world_now.coding world_now.capacity ps) ps
          (λ turn may. may.0) t (reached_own is r such_before, refl, refl) turns allowed (both_may ps turns below such))

    -- where any call may begin, all turns begin such calls
    all_such : ((start : Start T) → K.Such start) → (turns : List (Turn T)) → AllByRecursion (BeginsSuch K.Such) turns
    all_such any [] = tt
    all_such any (turn ∷ turns) = (one turn, all_such any turns)
      where
        -- If `Such` holds of every call, then of each that a turn begins.
        one : (turn : Turn T) → BeginsSuch K.Such turn
        one (Begin p start) = any start
        one (Next p) = tt
        one (Decide p said) = tt
        one (Die owner) = tt

    -- If `Such` holds of every call, calls keep ending with the bound of the measure.
    pub keeps_ending : ((start : Start T) → K.Such start) → (bound : Bound) → ((code : Coding T) (c n : ℕ) → bound n c code.size ≡ measured code c n)
        → KeepsEnding T K.kind bound
    keeps_ending any bound same t is r ps turns allowed below =
        keeps_ending_by call_refusal possible_on bound same t is r (all_such any r.turns) ps turns allowed below (all_such any turns)
