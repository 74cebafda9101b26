-- What holds between two turns of a machine on which roles change hands, and the page that it runs (`Inv`,
-- `Sim`), and what is to be shown of a structure (`Hands`). The page numbers parties by what they call,
-- whoever has the role; calls that the page has not are acquires, releases and looks.
use Rattle.std.proofs.Common.{◌⊎◌, inl, inr}
use Rattle.std.proofs.lemmas.Bool.Decides.{nat_tests}
use Rattle.std.proofs.lemmas.List.Concat.{flat_map-append}
use Rattle.std.specs.Prelude.{slice_set}
use Rattle.model.proofs.Names.{Bool, Coding, List, None, Option, Some, Trace, World, []}
use Rattle.model.proofs.Names.{ap, arith, ask_of, cases_eq}
use Rattle.model.proofs.Names.{cond, false, first_of, first_row, has_owners}
use Rattle.model.proofs.Names.{is_question, kept_after_begin, old_of, party_of, refl, slice_index}
use Rattle.model.proofs.Names.{step_of, subst, sym, true, want_of, words_after, ℕ, ⊎_elim, ◌++◌, ◌==◌}
use Rattle.model.proofs.Names.{◌∙◌, ◌∷◌, ◌≡◌, ◌≢◌}
use Rattle.model.specs.declared.event.Event.{Event}
use Rattle.model.specs.declared.event.Event.TheVariants.{Begun, Finished}
use Rattle.model.specs.declared.event.Start.{Start}
use Rattle.model.specs.declared.families.Flight.{Flight}
use Rattle.model.specs.declared.families.Registry.{Registry}
use Rattle.model.specs.declared.party.Doing.{Doing}
use Rattle.model.specs.declared.party.Doing.TheVariants.{Going, Over}
use Rattle.model.specs.declared.party.Party.{Party}
use Rattle.model.specs.declared.turn.Kind.{Kind}
use Rattle.model.specs.Families.{begin_of}
use Rattle.model.specs.Parties.{put}
use Rattle.model.specs.Step.{Step}
use Rattle.model.proofs.Parties.{party_put_same, party_put_other}
use Rattle.steps.specs.declared.ask.After.TheVariants as afters
use Rattle.pages.specs.RolesBridge.{Naming, all_told, told}
use Rattle.pages.specs.Machine as machine
use Rattle.pages.specs.Reading.{all_seen}
use Rattle.pages.proofs.Simulates.{StepIs, TieOf}

-- an option that is Some p is not Some q, if q is not p
pub not_two : {A : Type 0} {o : Option ℕ} {p q : ℕ} → o ≡ Some p → o ≡ Some q → q ≢ p → A
not_two e f ne = absurd (ne (same (sym f ∙ e)))
  where
    same : {p q : ℕ} → Some q ≡ Some p → q ≡ p
    same e = cc

-- equal parties have begun equal calls
pub started : {T : Type 0} {x y : Party T} → Some x ≡ Some y → x.start ≡ y.start
started {T} e = ap (λ (x : Party T). x.start) (inside e)
  where
    inside : {x y : Party T} → Some x ≡ Some y → x ≡ y
    inside e = cc

-- a test is not both true and false
pub both_ways : {A : Type 0} → (b : Bool) → b ≡ true → b ≡ false → A
both_ways b e f = absurd (cc)

-- a party's call as it is under way
abbrev pub going : {T : Type 0} → Start T → ℕ → ℕ → Flight T → ℕ → Party T
going start steps backs flight since = record { start = start; steps = steps; backs = backs; doing = Going flight since }

-- ---- what is to be shown of a structure, of whatever its family keeps

-- What a step of a call that the page has not comes to: it writes no event, and leaves the page's words.
pub record OtherStep {T Kept : Type 0} (code : Coding T) (registry : Kept → Registry T) (who : Kept → ℕ → Option ℕ) (blank : List ℕ → List ℕ)
    (Tells : Kept → List ℕ → Type 0) (Other : Kept → ℕ → Start T → Flight T → Type 0) (k : Kept) (p : ℕ) (start : Start T) (flight : Flight T)
    (words : List ℕ) (s : Step (Flight T) (Registry T) T) : Type 0 where
  -- the roles after the step
  pub next : Kept
  pub kept_is : s.kept ≡ registry next
  pub silent : s.wrote ≡ []
  pub blank_is : blank (words_after words (ask_of (want_of code flight))) ≡ blank words
  pub tells : Tells next (words_after words (ask_of (want_of code flight)))
  -- a call that goes on is still one that the page has not
  pub stays : (then : Flight T) → s.after ≡ afters.GoOn then → Other next p start then
  -- a role keeps its holder, or was free, or was this party's; the calls of other parties
  -- stay where they stand
  pub who_is : (n : ℕ) → (who next n ≡ who k n) ⊎ ((who k n ≡ None) ⊎ (who k n ≡ Some p))
  pub others : (q : ℕ) (start : Start T) (flight : Flight T) → q ≢ p → Other k q start flight → Other next q start flight

-- A step of a call of the page is at no word of a role, so it reads and writes the same on the page.
pub record Leaves (blank : List ℕ → List ℕ) (Tells : List ℕ → Type 0) (words : List ℕ) (word : ℕ) : Type 0 where
  pub old : slice_index (blank words) word ≡ slice_index words word
  pub new : (value : ℕ) → blank (slice_set words word value) ≡ slice_set (blank words) word value
  pub tells : (value : ℕ) → Tells words → Tells (slice_set words word value)

-- events in which the page sees no call tell the page nothing
pub unseen_untold : {T Call Answer : Type 0} → (by : Naming T Call Answer) (es : List (Event T)) → all_seen by.reading es ≡ [] → all_told by es ≡ []
unseen_untold by [] sees_none = refl
unseen_untold by (Begun p start ∷ es) sees_none = absurd (cc)
unseen_untold by (Finished p start answer ∷ es) sees_none = absurd (cc)
unseen_untold by (other ∷ es) sees_none = unseen_untold by es sees_none

-- what more events tell is appended to the page's history
pub told_more : {T Call Answer : Type 0} → (by : Naming T Call Answer) (events more : List (Event T)) {history new : List (machine.Event Call Answer)}
    → all_told by events ≡ history → all_told by more ≡ new → all_told by (events ++ more) ≡ history ++ new
told_more by events more {history} e f = flat_map-append (told by) events more ∙ (ap (λ h. h ++ all_told by more) e ∙ ap (λ h. history ++ h) f)

-- the stage that was put is there
pub put_same : {Stage : Type 0} → (n : ℕ) (o : Option Stage) (pending : ℕ → Option Stage) → machine.put n o pending n ≡ o
put_same n o pending = let same : (n == n) ≡ true = grind (arith, nat_tests) in ap (λ b. cond b o (pending n)) same

-- any other stage stays
pub put_other : {Stage : Type 0} → (n m : ℕ) (o : Option Stage) (pending : ℕ → Option Stage) → m ≢ n → machine.put n o pending m ≡ pending m
put_other n m o pending ne = let other : (m == n) ≡ false = grind (arith, nat_tests) in ap (λ b. cond b o (pending m)) other

module _ {T Call Stage Answer Room : Type 0} {of : machine.Structure Call Stage Answer} (by : Naming T Call Answer)
    {kind : Kind} {capacity : ℕ} {at : Registry T} {code : Coding T} (tie : TieOf Room of by.reading by.is_call kind capacity at code)
  where
    -- a call of the page that begins
    pub record OwnBegin (who : ℕ → Option ℕ) (p : ℕ) (start : Start T) (flight : Flight T) : Type 0 where
      pub call : Call
      pub start_is : start ≡ tie.start call
      pub flight_is : flight ≡ tie.flight tie.room (of.first call)
      pub who_is : who (by.number p call) ≡ Some p
      pub may : of.may (by.number p call) call ≡ true

    -- What is to be shown of a structure whose roles change hands. `Kept` is what its family
    -- keeps of the roles.
    pub record Hands (Kept : Type 0) : Type 1 where
      pub registry : Kept → Registry T
      pub who : Kept → ℕ → Option ℕ  -- the party that is this party of the page
      pub blank : List ℕ → List ℕ  -- the words where each role is taken
      pub Tells : Kept → List ℕ → Type 0  -- the words of the roles say who is free
      pub Other : Kept → ℕ → Start T → Flight T → Type 0  -- where a call stands that the page has not
      -- a call that the model admits is one of the page (`own`), which its party may begin,
      -- or another (`other`)
      pub own : (k : Kept) (p : ℕ) (start : Start T) (flight : Flight T) → by.is_call start ≡ true
          → first_of kind capacity start (registry k) ≡ Some flight → first_row ((begin_of kind capacity start).rows (registry k) p) ≡ None
          → OwnBegin (who k) p start flight
      pub other : (k : Kept) (p : ℕ) (start : Start T) (flight : Flight T) → by.is_call start ≡ false
          → first_of kind capacity start (registry k) ≡ Some flight → first_row ((begin_of kind capacity start).rows (registry k) p) ≡ None
          → Other k p start flight
      pub keeps : (k : Kept) (p : ℕ) (start : Start T) (flight : Flight T) → first_of kind capacity start (registry k) ≡ Some flight
          → kept_after_begin code capacity start p (registry k) ≡ registry k
      -- a step of the page's call: what it comes to, and which words it leaves
      pub goes : (k : Kept) (words : List ℕ) (beside : Option (ℕ × ℕ)) (p : ℕ) (r : Room) (stage : Stage) (old : ℕ) → tie.fits stage ≡ true
          → StepIs Room of by.reading by.is_call kind capacity (registry k) tie.flight tie.answered
          (step_of code words beside p (tie.start (tie.call_at stage)) (tie.flight r stage) old (registry k)) ((of.does stage).2 old)
      pub leaves : (k : Kept) (words : List ℕ) (stage : Stage) → tie.fits stage ≡ true → Tells k words → Leaves blank (Tells k) words (of.does stage).0
      -- a step of a call that the page has not
      pub not_own : (k : Kept) (p : ℕ) (start : Start T) (flight : Flight T) → Other k p start flight → by.is_call start ≡ false
      pub goes_other : (k : Kept) (words : List ℕ) (beside : Option (ℕ × ℕ)) (p : ℕ) (start : Start T) (flight : Flight T)
          → Other k p start flight → Tells k words
          → OtherStep code registry who blank Tells Other k p start flight words
          (step_of code words beside p start flight (old_of words (ask_of (want_of code flight))) (registry k))
      pub asks_nothing : (k : Kept) (p : ℕ) (start : Start T) (flight : Flight T) → Other k p start flight → is_question (want_of code flight) ≡ false
      pub no_owners : (k : Kept) → has_owners (registry k) ≡ false

module _ {T Call Stage Answer Room : Type 0} {of : machine.Structure Call Stage Answer} {by : Naming T Call Answer} {kind : Kind} {capacity : ℕ}
    {at : Registry T} {code : Coding T} {tie : TieOf Room of by.reading by.is_call kind capacity at code} {Kept : Type 0} (hands : Hands by tie Kept)
  where
    -- ---- where the calls stand

    -- a party's call is one of the page, at the stage that the page has for it
    pub record OwnAt (k : Kept) (pending : ℕ → Option Stage) (p : ℕ) (start : Start T) (flight : Flight T) : Type 0 where
      pub stage : Stage
      pub room : Room
      pub start_is : start ≡ tie.start (tie.call_at stage)
      pub flight_is : flight ≡ tie.flight room stage
      pub fits : tie.fits stage ≡ true
      pub waits : pending (by.number p (tie.call_at stage)) ≡ Some stage
      pub who_is : hands.who k (by.number p (tie.call_at stage)) ≡ Some p

    -- a call under way is one of the page or another; of one that is over nothing is said
    abbrev pub StandsAt : Kept → (ℕ → Option Stage) → ℕ → Start T → Doing T → Type 0
    StandsAt k pending p start (Going flight since) = OwnAt k pending p start flight ⊎ hands.Other k p start flight
    StandsAt k pending p start (Over others) = Unit {0}

    -- a party that has a call stands where its call is: at a stage of the page or at another call
    abbrev pub Stands : Kept → (ℕ → Option Stage) → ℕ → Option (Party T) → Type 0
    Stands k pending p None = Unit {0}
    Stands k pending p (Some x) = StandsAt k pending p x.start x.doing

    -- A stage that the page has for its party n is that of some party's call under way.
    pub record Held (k : Kept) (n : ℕ) (stage : Stage) (latest : List (ℕ × Party T)) : Type 0 where
      pub party : ℕ
      pub who_is : hands.who k n ≡ Some party
      pub steps : ℕ
      pub backs : ℕ
      pub since : ℕ
      pub room : Room
      pub found : party_of party latest ≡ Some (going (tie.start (tie.call_at stage)) steps backs (tie.flight room stage) since)
      pub number_is : by.number party (tie.call_at stage) ≡ n

    -- What holds between the page's world and the machine's, before and after each turn.
    pub record Inv (w : machine.World Call Stage Answer) (k : Kept) (words : List ℕ) (latest : List (ℕ × Party T)) (events : List (Event T)) : Type 0 where
      -- the page has the machine's words, with each role taken, and the words of the roles tell who is free
      pub blanked : w.words ≡ hands.blank words
      pub tells : hands.Tells k words
      -- the page's history is what the machine's events tell of the page's calls
      pub told_is : all_told by events ≡ w.history
      -- each party's call stands where it may, and each stage of the page is of some party's call
      pub stands : (p : ℕ) → Stands k w.pending p (party_of p latest)
      pub held : (n : ℕ) (stage : Stage) → w.pending n ≡ Some stage → Held k n stage latest

    -- the world of a machine with this registry, these words and these parties
    abbrev pub world_with : Registry T → List ℕ → List (ℕ × Party T) → ℕ → ℕ → World T
    world_with kept words latest changes turns =
        record {
          coding = code;
          kind = kind;
          capacity = capacity;
          parties = 0;
          words = words;
          kept = kept;
          latest = latest;
          changes = changes;
          turns = turns;
        }

    -- the trace with this world and these events
    abbrev pub trace : Registry T → List ℕ → List (ℕ × Party T) → ℕ → ℕ → List (Event T) → Trace T
    trace kept words latest changes turns events = record { world = world_with kept words latest changes turns; events = events }

    -- The machine's trace runs the page's world: some roles, words and parties of it satisfy `Inv`.
    pub record Sim (w : machine.World Call Stage Answer) (t : Trace T) : Type 0 where
      pub k : Kept
      pub words : List ℕ
      pub latest : List (ℕ × Party T)
      pub changes : ℕ
      pub turns : ℕ
      pub events : List (Event T)
      pub is : t ≡ trace (hands.registry k) words latest changes turns events
      pub inv : Inv w k words latest events

    -- ---- what stays

    -- where one party's call stands as it may, and all others' do, each party's does once that call is put in
    pub put_stands : (k : Kept) (pending : ℕ → Option Stage) (p : ℕ) (x : Party T) (latest : List (ℕ × Party T)) → Stands k pending p (Some x)
        → ((q : ℕ) → q ≢ p → Stands k pending q (party_of q latest))
        → (q : ℕ) → Stands k pending q (party_of q (put p x latest))
    put_stands k pending p x latest here others q = ⊎_elim same other (cases_eq q p)
      where
        -- the call that is put in stands for its own party
        same : q ≡ p → Stands k pending q (party_of q (put p x latest))
        same e =
            subst (λ n. Stands k pending n (party_of n (put p x latest))) (sym e) (subst (Stands k pending p) (sym (party_put_same p x latest)) here)

        -- any other party's call stands as before
        other : q ≢ p → Stands k pending q (party_of q (put p x latest))
        other ne = subst (Stands k pending q) (sym (party_put_other q p x latest ne)) (others q ne)

    -- A turn leaves party q its roles, the calls of the page that wait at these, and its other calls.
    pub record LeavesParty (k next : Kept) (pending now : ℕ → Option Stage) (q : ℕ) : Type 0 where
      pub own : (n : ℕ) (stage : Stage) → hands.who k n ≡ Some q → pending n ≡ Some stage → (now n ≡ Some stage) × (hands.who next n ≡ Some q)
      pub other : (start : Start T) (flight : Flight T) → hands.Other k q start flight → hands.Other next q start flight

    -- a call of another party stands where it did
    pub still : {k next : Kept} {pending now : ℕ → Option Stage} {q : ℕ} → LeavesParty k next pending now q
        → (o : Option (Party T)) → Stands k pending q o → Stands next now q o
    still leaves None stands = tt
    still {k} {next} {pending} {now} {q} leaves (Some x) stands = go x.doing stands
      where
        -- the cases are whether the call is under way or over
        go : (d : Doing T) → StandsAt k pending q x.start d → StandsAt next now q x.start d
        go (Going flight since) stands =
            ⊎_elim
            (λ (a : OwnAt k pending q x.start flight).
            let both = leaves.own (by.number q (tie.call_at a.stage)) a.stage a.who_is a.waits in
            inl
            (record {
              stage = a.stage;
              room = a.room;
              start_is = a.start_is;
              flight_is = a.flight_is;
              fits = a.fits;
              waits = both.0;
              who_is = both.1;
            }))
            (λ another. inr (leaves.other x.start flight another)) stands
        go (Over others) stands = tt

    -- a call of the page that is another party's stays that party's as this one's call is put in
    pub still_held : {k next : Kept} {n : ℕ} {stage : Stage} {latest : List (ℕ × Party T)} → (p : ℕ) (x : Party T) (h : Held k n stage latest) → h.party ≢ p
        → hands.who next n ≡ Some h.party → Held next n stage (put p x latest)
    still_held {latest = latest} p x h ne who_is =
        record {
          party = h.party;
          who_is = who_is;
          steps = h.steps;
          backs = h.backs;
          since = h.since;
          room = h.room;
          found = party_put_other h.party p x latest ne ∙ h.found;
          number_is = h.number_is;
        }

    -- A turn that changes the stage of one place, and no role, leaves every party but the one that has the role of that place.
    pub leaves_others : (k : Kept) (pending : ℕ → Option Stage) {p q : ℕ} (n : ℕ) (o : Option Stage) → hands.who k n ≡ Some p → q ≢ p
        → LeavesParty k k pending (machine.put n o pending) q
    leaves_others k pending {p} {q} n o here ne =
        record {
          own =
              λ m stage who_is waits.
              ⊎_elim
              (λ (e : m ≡ n). not_two (subst (λ i. hands.who k i ≡ Some p) (sym e) here) who_is ne)
              (λ other. (put_other n m o pending other ∙ waits, who_is))
              (cases_eq m n);
          other = λ start flight another. another;
        }
