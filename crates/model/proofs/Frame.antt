-- What holds of a machine of any family between two turns, how a turn keeps it, and so that every run has it.
use Rattle.model.proofs.Names.{Answer, Ask, Begin, Begun, Bool, Coding, Decide, Die, Died, Doing, Each, Ended, Event}
use Rattle.model.proofs.Names.{Flight, Going, IsReached, IsReachedOn, IsShut, Kind, List, Never, Next, None, Open}
use Rattle.model.proofs.Names.{Option, Over, Party, Progresses, Promise, Registry, Some, Span, Stands, StandsRight}
use Rattle.model.proofs.Names.{Start, Trace, Turn, [], after_answer, after_begin, after_decision, after_next}
use Rattle.model.proofs.Names.{after_turn, ap, append-nil, arith, ask_of, ask_of_doing, call_refusal}
use Rattle.model.proofs.Names.{change_of, doing_of, events_of_answer, events_of_decision, events_of_next}
use Rattle.model.proofs.Names.{events_of_step, false, first_of, first_row, flight_in, flight_of, fold, going_rows}
use Rattle.model.proofs.Names.{has_owners, is_due, is_loan, is_none, is_question, kept_after_begin, kept_after_death}
use Rattle.model.proofs.Names.{number_of, old_of, opened, opening, own_after, party_after, party_at_begin}
use Rattle.model.proofs.Names.{party_of, progress_after, queue_error, refl, span_of, step_count, step_in, subst, sym}
use Rattle.model.proofs.Names.{true, want_of, words_after, ℕ, ◌++◌, ◌+◌, ◌-◌, ◌<◌, ◌^◌, ◌∙◌, ◌∷◌, ◌≡◌, ◌≢◌, ◌≤◌}
use Rattle.model.specs.Parties.{put}
use Rattle.model.proofs.Openings.{opened_others}
use Rattle.model.proofs.Parties.{put_each}
use Rattle.model.proofs.Reached.{kept_by_runs, kept_by_runs_on}
use Rattle.model.proofs.Readings.{AreRight, Each-append, AreOwn, AllFollow, span_of-own, span_of-other, span_of-death, spans_right}
pub use Rattle.model.proofs.Rows.{is_true}
use Rattle.model.proofs.Rows.{may_begin, may_die, must_be_due, next_passes, decision_passes, passes, MayBegin, MayDie}

-- A family of machines as the frame takes it: its structure, what its states are, and what holds of its calls under way.
pub record Family (T : Type 0) : Type 1 where
  pub coding : Coding T
  pub kind : Kind
  pub promise : Promise T
  pub capacity : ℕ
  pub State : Type 0  -- what the words and what is kept beside them hold
  pub Represents : Registry T → List ℕ → State → Type 0  -- what is kept and the words hold this state
  pub Holds : State → List (ℕ × Party T) → List (Event T) → ℕ → Type 0  -- what holds of a state, the calls and the events after a number of turns
  pub written : State → ℕ → Flight T → List (Event T)  -- what a party's call under way has written since its begin
  pub number : List (Event T) → Flight T → ℕ → ℕ  -- the most steps of the call so far, by what it has written and how often it has turned back
  pub At : State → ℕ → Start T → Flight T → Type 0  -- a call under way may stand at this stage
  pub Knows : State → ℕ → List (Event T) → ℕ → ℕ → ℕ → Flight T → Type 0  -- what a call under way knows of the events and of the counts

module _ {T : Type 0} (F : Family T) where
  -- ---- a party's latest call beside its span

  -- A call under way: its span is open with what it has written, its steps are bounded, and it
  -- stands where the family says.
  pub record IsUnderWay (s : F.State) (p : ℕ) (x : Party T) (flight : Flight T) (seen : Span T) : Type 0 where
    pub span : seen ≡ Open x.start (F.written s p flight)
    pub steps : x.steps ≤ F.number (F.written s p flight) flight x.backs
    pub at : F.At s p x.start flight

  -- A call that has ended: its span has its answer, and its steps are within the promised bound.
  pub record HasEnded (x : Party T) (seen : Span T) : Type 0 where
    pub answer : Answer T
    pub wrote : List (Event T)
    pub span : seen ≡ Ended x.start answer wrote
    pub steps : x.steps ≤ F.promise.most_steps F.capacity F.coding.size x.start x.backs

  -- The party's latest call, under way or over, fits its span.
  abbrev pub FitsDoing : F.State → ℕ → Party T → Doing T → Span T → Type 0
  FitsDoing s p x (Going flight since) span = IsUnderWay s p x flight span
  FitsDoing s p x (Over others) span = HasEnded x span

  -- The party's latest call fits its span. A party that has begun none has an empty span.
  abbrev pub Fits : F.State → ℕ → Option (Party T) → Span T → Type 0
  Fits s p None span = span ≡ Never
  Fits s p (Some x) span = FitsDoing s p x x.doing span

  -- What is known of a call: while it is under way what the family says, and once it is over that
  -- it turned back at most as often as other parties changed words.
  abbrev pub KnowsDoing : F.State → ℕ → List (Event T) → ℕ → ℕ → Doing T → Type 0
  KnowsDoing s p events changes backs (Going flight since) = F.Knows s p events since changes backs flight
  KnowsDoing s p events changes backs (Over others) = backs ≤ others

  -- what is known of a party by its latest call: of a call under way what the family knows of it, and of one that is over
  -- that it turned back at most as often as others changed words
  abbrev pub KnowsParty : F.State → ℕ → List (Event T) → ℕ → Option (Party T) → Type 0
  KnowsParty s p events changes None = Unit {0}
  KnowsParty s p events changes (Some x) = KnowsDoing s p events changes x.backs x.doing

  -- ---- the invariant

  -- The invariant: each event stands where it may, each party's latest call fits its span, and
  -- what is known of it holds.
  pub record Inv (s : F.State) (latest : List (ℕ × Party T)) (events : List (Event T)) (changes : ℕ) : Type 0 where
    pub spans : Each (StandsRight F.promise F.capacity) events
    pub calls : (p : ℕ) → Fits s p (party_of p latest) (span_of p events)
    pub knows : (p : ℕ) → KnowsParty s p events changes (party_of p latest)

  -- what a turn of the party p owes, which can write events of other parties too
  pub record Owes (s : F.State) (p : ℕ) (y : Party T) (latest : List (ℕ × Party T)) (events es : List (Event T)) (changes : ℕ) : Type 0 where
    pub stands : AreRight (StandsRight F.promise F.capacity) events es
    pub here : Fits s p (Some y) (span_of p (events ++ es))
    pub knows : KnowsDoing s p (events ++ es) changes y.backs y.doing
    pub others : (q : ℕ) → q ≢ p → Fits s q (party_of q latest) (span_of q (events ++ es))
    pub others_know : (q : ℕ) → q ≢ p → KnowsParty s q (events ++ es) changes (party_of q latest)

  -- the invariant stands after a turn that owes what the frame asks of it
  pub advance : {s s' : F.State} {p : ℕ} {y : Party T} {latest : List (ℕ × Party T)} {events es : List (Event T)} {changes changes' : ℕ}
      → Inv s latest events changes → Owes s' p y latest events es changes'
      → Inv s' (put p y latest) (events ++ es) changes'
  advance {s' = s'} {p = p} {y = y} {latest = latest} {events = events} {es = es} {changes' = changes'} inv owes =
      record {
        spans = Each-append (StandsRight F.promise F.capacity) events es inv.spans owes.stands;
        calls = put_each (λ q o. Fits s' q o (span_of q (events ++ es))) p y latest owes.here owes.others;
        knows = put_each (λ q o. KnowsParty s' q (events ++ es) changes' o) p y latest owes.knows owes.others_know;
      }

  -- ---- a turn that writes events of its own party alone

  -- what it shows, where its span was this
  pub record Shows (s s' : F.State) (from : Span T) (p : ℕ) (y : Party T) (events es : List (Event T)) (changes changes' : ℕ) : Type 0 where
    -- all its events are of its party, and each stands where it may
    pub own : AreOwn p es
    pub stands : AllFollow (Stands F.promise F.capacity) from es
    -- the call of its party fits its span, and what is known of it holds
    pub here : Fits s' p (Some y) (fold own_after from es)
    pub knows : KnowsDoing s' p (events ++ es) changes' y.backs y.doing
    -- the calls of other parties stand where they stood, and know what they knew
    pub others : (q : ℕ) → q ≢ p → (start : Start T) (flight : Flight T) → F.At s q start flight
        → F.At s' q start flight × (F.written s' q flight ≡ F.written s q flight)
    pub others_know : (q : ℕ) → q ≢ p → (since backs : ℕ) (flight : Flight T)
        → F.Knows s q events since changes backs flight → F.Knows s' q (events ++ es) since changes' backs flight

  -- a call of another party stays where its span does
  module _ (s s' : F.State) (q : ℕ)
      (others : (start : Start T) (flight : Flight T) → F.At s q start flight
      → F.At s' q start flight × (F.written s' q flight ≡ F.written s q flight)) where
    -- What another party is doing still fits its span after the turn.
    doing_fits : (x : Party T) (doing : Doing T) (span : Span T) → FitsDoing s q x doing span → FitsDoing s' q x doing span
    doing_fits x (Going flight since) span fits_doing =
        let both = others x.start flight fits_doing.at in
        record {
          span = fits_doing.span ∙ ap (λ es. Open x.start es) (sym both.1);
          steps = subst (λ es. x.steps ≤ F.number es flight x.backs) (sym both.1) fits_doing.steps;
          at = both.0;
        }
    doing_fits x (Over others) span fits_doing =
        record { answer = fits_doing.answer; wrote = fits_doing.wrote; span = fits_doing.span; steps = fits_doing.steps }

    -- The latest call of another party fits its span after the turn.
    pub still_fits : (o : Option (Party T)) (span : Span T) → Fits s q o span → Fits s' q o span
    still_fits None span fits = fits
    still_fits (Some x) span fits = doing_fits x x.doing span fits

  -- Party `q` is not the one whose turn it is. What its call knows before the turn holds after it (`others`).
  module _ (s s' : F.State) (q : ℕ) (events es : List (Event T)) (changes changes' : ℕ)
      (others : (since backs : ℕ) (flight : Flight T) → F.Knows s q events since changes backs flight
      → F.Knows s' q (events ++ es) since changes' backs flight) where
    -- What another party's call knows it still knows after the turn.
    doing_knows : (backs : ℕ) (doing : Doing T) → KnowsDoing s q events changes backs doing → KnowsDoing s' q (events ++ es) changes' backs doing
    doing_knows backs (Going flight since) knows_doing = others since backs flight knows_doing
    doing_knows backs (Over others) knows_doing = knows_doing

    -- What is known of another party it is still known after the turn.
    pub still_knows : (o : Option (Party T)) → KnowsParty s q events changes o → KnowsParty s' q (events ++ es) changes' o
    still_knows None knows_party = tt
    still_knows (Some x) knows_party = doing_knows x.backs x.doing knows_party

  -- A turn that writes events of its own party alone owes what `Shows` says, and nothing
  -- more to other parties.
  pub owes : (s s' : F.State) (from : Span T) (p : ℕ) (y : Party T) (latest : List (ℕ × Party T))
      (events es : List (Event T)) (changes changes' : ℕ)
      → span_of p events ≡ from → Inv s latest events changes
      → Shows s s' from p y events es changes changes' → Owes s' p y latest events es changes'
  owes s s' from p y latest events es changes changes' span_is inv shows =
      let span : span_of p (events ++ es) ≡ fold own_after from es = span_of-own p events es shows.own ∙ ap (λ a. fold own_after a es) span_is in
      record {
        stands = spans_right (Stands F.promise F.capacity) p events es from span_is shows.own shows.stands;
        here = subst (λ a. Fits s' p (Some y) a) (sym span) shows.here;
        knows = shows.knows;
        others = λ q ne.
            subst (λ a. Fits s' q (party_of q latest) a) (sym (span_of-other p q events es ne shows.own))
            (still_fits s s' q (shows.others q ne) (party_of q latest) (span_of q events) (inv.calls q));
        others_know = λ q ne. still_knows s s' q events es changes changes' (shows.others_know q ne) (party_of q latest) (inv.knows q);
      }

  -- a party without a call under way has a span that is shut
  pub shut : (s : F.State) (p : ℕ) (o : Option (Party T)) (seen : Span T) → flight_of (doing_of o) ≡ None → Fits s p o seen → IsShut seen
  shut s p None seen e fits = subst IsShut (sym fits) tt
  shut s p (Some x) seen e fits = go x.doing e fits
    where
      -- The cases are whether the party's latest call is under way or over.
      go : (doing : Doing T) → flight_of (Some doing) ≡ None → FitsDoing s p x doing seen → IsShut seen
      go (Going flight since) no_flight fits = absurd (cc)
      go (Over others) no_flight fits = subst IsShut (sym fits.span) tt

  -- A call under way that fits its span is as `IsUnderWay` says.
  pub under_way : (s : F.State) (p : ℕ) (x : Party T) (doing : Doing T) (flight : Flight T) (since : ℕ) (seen : Span T)
      → doing ≡ Going flight since → FitsDoing s p x doing seen → IsUnderWay s p x flight seen
  under_way s p x doing flight since seen same_doing fits_doing = subst (λ d. FitsDoing s p x d seen) same_doing fits_doing

  -- what is known of a call under way, from what is known of its party
  pub knows_now : (s : F.State) (p : ℕ) (events : List (Event T)) (changes : ℕ) (o : Option (Party T)) (x : Party T)
      (flight : Flight T) (since : ℕ)
      → o ≡ Some x → x.doing ≡ Going flight since → KnowsParty s p events changes o
      → F.Knows s p events since changes x.backs flight
  knows_now s p events changes o x flight since found doing knows_party =
      subst (KnowsDoing s p events changes x.backs) doing (subst (KnowsParty s p events changes) found knows_party)

  -- ---- every turn

  -- A machine that is sound: it is of this family, its words and registry hold a state of it, and
  -- the invariant holds.
  pub record Sound (t : Trace T) : Type 0 where
    -- the machine is one of the family
    pub coding : t.world.coding ≡ F.coding
    pub kind : t.world.kind ≡ F.kind
    pub capacity : t.world.capacity ≡ F.capacity
    -- the state that its words and registry hold, and what the family says of it
    pub state : F.State
    pub fit : F.Represents t.world.kept t.world.words state
    pub holds : F.Holds state t.world.latest t.events t.world.turns
    -- the invariant
    pub inv : Inv state t.world.latest t.events t.world.changes

  -- A turn after which the machine has `kept`, `words` and `changes`, party `p` is `y`, and `es` follow the events: the family's state
  -- then, and what holds of it.
  pub record Comes (t : Trace T) (p : ℕ) (kept : Registry T) (words : List ℕ) (y : Party T) (es : List (Event T)) (changes : ℕ) : Type 0 where
    pub state : F.State
    pub fit : F.Represents kept words state
    pub holds : F.Holds state (put p y t.world.latest) (t.events ++ es) (t.world.turns + 1)
    pub owes : Owes state p y t.world.latest t.events es changes

  -- the step of a party's call from this answer, with this operation
  abbrev pub ComesByStep : Trace T → ℕ → Party T → Flight T → ℕ → Option Ask → ℕ → Type 0
  ComesByStep t p x flight since ask answer =
      Comes t p (step_in t.world p x flight answer).kept (words_after t.world.words ask)
      (party_after x since t.world.changes (step_count ask) (change_of t.world.words ask) (step_in t.world p x flight answer))
      (events_of_step p x.start (step_in t.world p x flight answer)) (t.world.changes + change_of t.world.words ask)

  -- what a death comes to: no party's call goes on
  pub record ComesByDeath (t : Trace T) (s : Sound t) (owner : ℕ) : Type 0 where
    pub state : F.State
    pub fit : F.Represents (kept_after_death t.world.kept owner) t.world.words state
    pub holds : F.Holds state t.world.latest (t.events ++ Died owner ∷ []) (t.world.turns + 1)
    pub calls : (q : ℕ) (start : Start T) (flight : Flight T) → F.At s.state q start flight
        → F.At state q start flight × (F.written state q flight ≡ F.written s.state q flight)
    pub calls_know : (q since backs : ℕ) (flight : Flight T)
        → F.Knows s.state q t.events since t.world.changes backs flight
        → F.Knows state q (t.events ++ Died owner ∷ []) since t.world.changes backs flight

  -- a family that keeps no owners owes nothing for a death, since none dies
  pub no_death : ((kept : Registry T) (words : List ℕ) (state : F.State) → F.Represents kept words state → has_owners kept ≡ false)
      → (t : Trace T) (owner : ℕ) (s : Sound t) → MayDie t.world owner → ComesByDeath t s owner
  no_death none t owner s may =
      let owners = is_true (has_owners t.world.kept) may.owners in
      let without = none t.world.kept t.world.words s.state s.fit in
      absurd (cc)

  -- ---- a turn that comes to this

  -- a turn that comes to what the family says leaves a machine that keeps the invariant
  pub comes_sound : {t : Trace T} {p : ℕ} {kept : Registry T} {words : List ℕ} {y : Party T} {es : List (Event T)} {changes : ℕ}
      → Sound t → Comes t p kept words y es changes
      → Sound record {
        world =
            record t.world { kept = kept; words = words; latest = put p y t.world.latest; changes = changes; turns = t.world.turns + 1 };
        events = t.events ++ es;
      }
  comes_sound {t} {p} {y = y} {es = es} {changes = changes} sound comes =
      record {
        coding = sound.coding;
        kind = sound.kind;
        capacity = sound.capacity;
        state = comes.state;
        fit = comes.fit;
        holds = comes.holds;
        inv = advance sound.inv comes.owes;
      }

  same : {t : Trace T} → Sound t → Sound record { world = t.world; events = t.events ++ [] }
  same {t} sound = subst (λ es. Sound record { world = t.world; events = es }) (sym (append-nil t.events)) sound

  -- a call that goes on from this answer; one that is done stays
  answered : {t : Trace T} (p : ℕ) (x : Party T) (ask : Option Ask) (answer : ℕ) (doing : Doing T) → Sound t
      → ((flight : Flight T) (since : ℕ) → doing ≡ Going flight since → ComesByStep t p x flight since ask answer)
      → Sound record { world = after_answer t.world p x ask answer doing; events = t.events ++ events_of_answer t.world p x answer doing }
  answered {t} p x ask answer (Going flight since) sound comes = comes_sound sound (comes flight since refl)
  answered {t} p x ask answer (Over others) sound comes = same sound

  -- the party has this call under way
  pub record IsUnder (t : Trace T) (p : ℕ) (x : Party T) (flight : Flight T) (since : ℕ) : Type 0 where
    pub found : party_of p t.world.latest ≡ Some x
    pub doing : x.doing ≡ Going flight since
    pub is : flight_in t.world p ≡ Some flight

  -- A party whose latest call goes on has it under way.
  under : {t : Trace T} {p : ℕ} {x : Party T} {flight : Flight T} {since : ℕ} → party_of p t.world.latest ≡ Some x
      → x.doing ≡ Going flight since → IsUnder t p x flight since
  under e d = record { found = e; doing = d; is = ap (λ o. flight_of (doing_of o)) e ∙ ap (λ d. flight_of (Some d)) d }

  -- its step, its decision and its begin
  pub next_sound : (t : Trace T) (p : ℕ) → Sound t
      → ((x : Party T) (flight : Flight T) (since : ℕ) → IsUnder t p x flight since
      → ComesByStep t p x flight since (ask_of (want_of t.world.coding flight)) (old_of t.world.words (ask_of (want_of t.world.coding flight))))
      → (o : Option (Party T)) → party_of p t.world.latest ≡ o
      → Sound record { world = after_next t.world p o; events = t.events ++ events_of_next t.world p o }
  next_sound t p sound comes None found = same sound
  next_sound t p sound comes (Some x) found =
      let ask : Doing T → Option Ask = ask_of_doing t.world.coding in
      answered p x (ask x.doing) (old_of t.world.words (ask x.doing)) x.doing sound (λ flight since d.
      subst (λ a. ComesByStep t p x flight since a (old_of t.world.words a)) (sym (ap ask d)) (comes x flight since (under found d)))

  -- an answer to a question of a call leaves a sound machine sound
  pub decision_sound : (t : Trace T) (p : ℕ) (said : Bool) → Sound t
      → ((x : Party T) (flight : Flight T) (since : ℕ) → IsUnder t p x flight since → ComesByStep t p x flight since None (number_of said))
      → (o : Option (Party T)) → party_of p t.world.latest ≡ o
      → Sound record { world = after_decision t.world p said o; events = t.events ++ events_of_decision t.world p said o }
  decision_sound t p said sound comes None found = same sound
  decision_sound t p said sound comes (Some x) found =
      answered p x None (number_of said) x.doing sound (λ flight since d. comes x flight since (under found d))

  -- a begin leaves a sound machine sound
  pub begin_sound : (t : Trace T) (p : ℕ) (start : Start T) → is_none (first_of t.world.kind t.world.capacity start t.world.kept) ≡ false → Sound t
      → ((flight : Flight T) → first_of t.world.kind t.world.capacity start t.world.kept ≡ Some flight
      → Comes t p (kept_after_begin t.world.coding t.world.capacity start p t.world.kept) t.world.words
      (party_at_begin start flight t.world.changes) (Begun p start ∷ []) t.world.changes)
      → (o : Option (Flight T)) → first_of t.world.kind t.world.capacity start t.world.kept ≡ o
      → Sound record { world = after_begin t.world p start o; events = t.events ++ Begun p start ∷ [] }
  begin_sound t p start call sound comes None named =
      let none = rw named at call in
      absurd (cc)
  begin_sound t p start call sound comes (Some flight) named = comes_sound sound (comes flight named)

  -- what a family owes, of a call that passes its rows, in a turn that may be taken
  pub record LawsWhere (May : Trace T → Turn T → Type 0) : Type 0 where
    -- A step of a call under way that is not refused comes to a state of the family.
    pub step : (t : Trace T) (p : ℕ) (x : Party T) (flight : Flight T) (since : ℕ) → Sound t → May t (Next p)
        → first_row (going_rows t.world.coding t.world.kept (Some flight) None) ≡ None
        → party_of p t.world.latest ≡ Some x → x.doing ≡ Going flight since
        → ComesByStep t p x flight since (ask_of (want_of t.world.coding flight)) (old_of t.world.words (ask_of (want_of t.world.coding flight)))
    -- A decision for a call under way that is not refused comes to a state of the family.
    pub decision : (t : Trace T) (p : ℕ) (x : Party T) (flight : Flight T) (since : ℕ) (said : Bool) → Sound t
        → May t (Decide p said) → first_row (going_rows t.world.coding t.world.kept (Some flight) (Some said)) ≡ None
        → party_of p t.world.latest ≡ Some x → x.doing ≡ Going flight since
        → is_question (want_of t.world.coding flight) ≡ true
        → ComesByStep t p x flight since None (number_of said)
    -- A begin that is not refused comes to a state of the family.
    pub begin : (t : Trace T) (p : ℕ) (start : Start T) (flight : Flight T) → Sound t → May t (Begin p start)
        → MayBegin t.world p start → first_of t.world.kind t.world.capacity start t.world.kept ≡ Some flight
        → Comes t p (kept_after_begin t.world.coding t.world.capacity start p t.world.kept) t.world.words
        (party_at_begin start flight t.world.changes) (Begun p start ∷ []) t.world.changes
    pub death : (t : Trace T) (owner : ℕ) (s : Sound t) → MayDie t.world owner → ComesByDeath t s owner

  module _ (May : Trace T → Turn T → Type 0) (laws : LawsWhere May) where
    -- the death of an owner leaves a sound machine sound
    death_sound : {t : Trace T} {owner : ℕ} → MayDie t.world owner → Sound t → Sound (after_turn t (Die owner))
    death_sound {t} {owner} may sound =
        let world_now = t.world in
        let es = Died owner ∷ [] in
        let comes = laws.death t owner sound may in
        record {
          coding = sound.coding;
          kind = sound.kind;
          capacity = sound.capacity;
          state = comes.state;
          fit = comes.fit;
          holds = comes.holds;
          inv =
              record {
                spans = Each-append (StandsRight F.promise F.capacity) t.events es sound.inv.spans (tt, tt);
                calls = λ q.
                    subst (λ a. Fits comes.state q (party_of q world_now.latest) a) (sym (span_of-death q t.events owner))
                    (still_fits sound.state comes.state q (comes.calls q) (party_of q world_now.latest) (span_of q t.events) (sound.inv.calls q));
                knows =
                    λ q. still_knows sound.state comes.state q t.events es world_now.changes world_now.changes (comes.calls_know q)
                    (party_of q world_now.latest) (sound.inv.knows q);
              };
        }

    -- every turn that is not refused leaves a sound machine sound
    pub turn_sound : (t : Trace T) (turn : Turn T) → call_refusal t.world turn ≡ None → May t turn → Sound t → Sound (after_turn t turn)
    turn_sound t (Begin p start) not_refused may sound =
        let begins = may_begin t.world p start not_refused in
        begin_sound t p start begins.call sound (λ flight is. laws.begin t p start flight sound may begins is)
        (first_of t.world.kind t.world.capacity start t.world.kept) refl
    turn_sound t (Next p) not_refused may sound =
        next_sound t p sound (λ x flight since u. laws.step t p x flight since sound may
        (subst (λ o. first_row (going_rows t.world.coding t.world.kept o None) ≡ None) u.is (next_passes t.world p not_refused)) u.found u.doing)
        (party_of p t.world.latest) refl
    turn_sound t (Decide p said) free may sound =
        let due = is_true (is_due t.world.coding (flight_in t.world p)) (must_be_due t.world p said free) in
        decision_sound t p said sound (λ x flight since u. laws.decision t p x flight since said sound may
        (subst (λ o. first_row (going_rows t.world.coding t.world.kept o (Some said)) ≡ None) u.is (decision_passes t.world p said free)) u.found u.doing
        (subst (λ o. is_due t.world.coding o ≡ true) u.is due))
        (party_of p t.world.latest) refl
    turn_sound t (Die owner) not_refused may sound = death_sound (may_die t.world owner not_refused) sound

  -- the laws of a machine that can take a turn more
  abbrev pub Laws : Type 0
  Laws = LawsWhere (λ t turn. t.world.turns < 2 ^ 64 - 2)

  -- the laws of a machine without an end
  abbrev pub LawsOn : Type 0
  LawsOn = LawsWhere (λ t turn. Unit {0})

  -- a machine that was reached is sound, where each opening of it is, at any second number that is admitted
  pub reached_from : Laws → {t : Trace T}
      → ((queue : ℕ) → queue_error t.world.kind queue ≡ None
      → Sound (opened t.world.coding t.world.kind t.world.capacity queue t.world.parties))
      → IsReached t → Sound t
  reached_from laws {t} first reached =
      kept_by_runs Sound (λ u turn e h. turn_sound (λ t turn. t.world.turns < 2 ^ 64 - 2) laws u turn (passes u.world turn e).on
      (passes u.world turn e).turns h)
      t first reached

  -- a machine that has no second number and was reached is sound, where its opening is
  pub reached_sound : Laws → {t : Trace T} → is_loan t.world.kind ≡ false
      → Sound (opening t.world.coding t.world.kind t.world.capacity t.world.parties) → IsReached t → Sound t
  reached_sound laws {t} other first reached =
      let world_now = t.world in
      reached_from laws (λ queue admitted. subst Sound
      (sym (opened_others world_now.coding world_now.kind world_now.capacity queue world_now.parties other)) first)
      reached

  pub reached_on_sound : LawsOn → {t : Trace T} → Sound (opening t.world.coding t.world.kind t.world.capacity t.world.parties) → IsReachedOn t → Sound t
  reached_on_sound laws {t} first reached_on = kept_by_runs_on Sound (λ u turn e h. turn_sound (λ t turn. Unit {0}) laws u turn e tt h) t first reached_on

  -- laws of the turns that may be taken are laws of fewer turns
  pub laws_with : {May Fewer : Trace T → Turn T → Type 0} → ((t : Trace T) (turn : Turn T) → Sound t → Fewer t turn → May t turn)
      → LawsWhere May → LawsWhere Fewer
  laws_with may laws =
      record {
        step = λ t p x flight since s few passed found doing. laws.step t p x flight since s (may t (Next p) s few) passed found doing;
        decision = λ t p x flight since said s few passed found doing asks.
            laws.decision t p x flight since said s (may t (Decide p said) s few) passed found doing asks;
        begin = λ t p start flight s few free e. laws.begin t p start flight s (may t (Begin p start) s few) free e;
        death = laws.death;
      }

  -- ---- progress

  -- what a family says of the counts of a call under way
  pub record Bounds : Type 0 where
    pub most : (s : F.State) (p backs : ℕ) (start : Start T) (flight : Flight T) → F.At s p start flight
        → F.number (F.written s p flight) flight backs ≤ F.promise.most_steps F.capacity F.coding.size start backs
    pub paid : (s : F.State) (p : ℕ) (events : List (Event T)) (since changes backs : ℕ) (flight : Flight T)
        → F.Knows s p events since changes backs flight → backs ≤ changes - since

  -- a party's latest call has taken no more steps, and has been turned back no more often, than its promise grants
  pub progresses : Bounds → (s : F.State) (p : ℕ) (events : List (Event T)) (changes : ℕ) (o : Option (Party T)) (seen : Span T)
      → Fits s p o seen → KnowsParty s p events changes o
      → Progresses F.promise F.capacity F.coding.size seen (progress_after changes o)
  progresses bounds s p events changes None seen fits knows = subst (λ a. Progresses {T = T} F.promise F.capacity F.coding.size a None) (sym fits) tt
  progresses bounds s p events changes (Some x) seen fits knows = go x.doing refl fits knows
    where
      -- whether the call is under way or over, its steps and its turns back are within its promise
      go : (doing : Doing T) → x.doing ≡ doing → FitsDoing s p x doing seen
          → KnowsDoing s p events changes x.backs doing
          → Progresses F.promise F.capacity F.coding.size seen (progress_after changes (Some x))
      go (Going flight since) same_doing fits knows =
          let most = bounds.most s p x.backs x.start flight fits.at in
          let steps = fits.steps in
          rw (fits.span, same_doing) (record { steps = omega arith; backs = bounds.paid s p events since changes x.backs flight knows }, refl)
      go (Over others) same_doing fits knows = rw (fits.span, same_doing) (record { steps = fits.steps; backs = knows }, refl)
