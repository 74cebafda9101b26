-- What the set promises is kept by every turn, and so by every run. What a turn writes down is in order:
-- first what the step did to the set, then the end. No call of the set acts.
use Rattle.std.proofs.Common.{◌≡◌, ℕ, ◌<◌, ◌≤◌, false, Option, None, List, replicate, refl, sym, arith}
use Rattle.std.specs.List.{AllByRecursion}
use Rattle.laws_indices.proofs.Names.{locked, Answer, Start, Indices, Flight, Coding, Trace}
use Rattle.model.specs.declared.families.Flight.TheVariants as flights
use Rattle.model.specs.declared.families.Registry.TheVariants as registries
use Rattle.model.specs.declared.turn.Kind.TheVariants as kinds
use Rattle.model.specs.declared.turn.Turn.{Turn}
use Rattle.model.specs.declared.turn.Turn.TheVariants.{Next}
use Rattle.model.specs.Families.Indices.Opening.{opening_words}
use Rattle.model.specs.Families.Indices.Promises.{IsIndexSet}
use Rattle.model.specs.Families.Indices.Steps.{effects}
use Rattle.model.specs.Promises.{IsKept}
use Rattle.model.specs.Promises.Turns.{IsEffectOf}
use Rattle.model.specs.Turns.{IsReachedOn}
use Rattle.model.specs.Families.{want_of, is_question}
use Rattle.model.proofs.FamilyLaws as laws
use Rattle.model.proofs.FamilyLaws.{Opens, Turns, AllTurns, Owed}
use Rattle.model.proofs.Frame as frame
use Rattle.model.proofs.Orders.{Keeps, Orders}
use Rattle.model.proofs.Readings.{Each-nil}
use Rattle.model.proofs.Scenes.{step_from}
use Rattle.laws_indices.proofs.Core.{held_below}
use Rattle.laws_indices.proofs.Invariant.{IndexSet, FlightAt, outline, family, holds_more}
use Rattle.laws_indices.proofs.Opening.{nobody_holds, none_held, opening_good, admitted_is}
use Rattle.laws_indices.proofs.Stages.{same_tally}
use Rattle.laws_indices.proofs.Steps.{step_shows, begin_shows}

module _ {T : Type 0} where
  -- the invariant gives what a unique index set promises
  set_kept : (code : Coding T) (c : ℕ) {t : Trace T} → frame.Sound (family code c) t → IsIndexSet t
  set_kept code c sound =
      let kept = sound.fit.kept in
      let words = sound.fit.words in
      grind arith

  -- what a step writes before the end is what it did to the set
  all_effects : (p : ℕ) (freed : Option ℕ) (outcome : Option (Answer T)) → AllByRecursion (IsEffectOf {T = T} (Next p)) (effects p freed outcome)
  all_effects = grind arith

  -- what a step writes is in order
  writes : (c : ℕ) (t : Trace T) (p : ℕ) (words : List ℕ) (holders : List (Option ℕ)) (start : Start T) (flight : Flight T)
      → FlightAt c holders p start flight
      → laws.Writes outline t (Next p) (step_from t p t.world.coding words (registries.Indices holders) start flight)
  writes c t p words holders (Indices start) (flights.Indices flight) at = laws.only_effects outline t (Next p) _ (all_effects p _ _)
  writes c t p words holders start flight at = absurd at

  -- the opening of a set of an admitted capacity is sound
  opens : (code : Coding T) (c : ℕ) → 1 ≤ c → c < locked → Opens outline code c
  opens code c some few =
      record {
        state = record { words = opening_words c; holders = replicate c None; seats = 0 };
        kept = refl;
        words = refl;
        holds =
            record {
              bounded = λ p x found. absurd (cc);
              good = opening_good c some few;
              tally = same_tally 0 (held_below (replicate c None) c) 0 0 0 0 (sym (none_held c)) refl refl;
              holders = λ i. sym (nobody_holds c i);
              lock = refl;
              straight = λ p x found. absurd (cc);
              holds = Each-nil _;
              answers = Each-nil _;
            };
      }

  -- any turn may be taken
  abbrev May : Trace T → Turn T → Type 0
  May t turn = Unit {0}

  -- no call of the set asks a question
  no_question : (code : Coding T) (c : ℕ) (s : IndexSet) (p : ℕ) (start : Start T) (flight : Flight T) → (family code c).At s p start flight
      → is_question (want_of code flight) ≡ false
  no_question = grind arith

  -- each begin, step, decision and death keeps what holds of the set
  turns : (code : Coding T) (c : ℕ) → Turns outline code c May
  turns code c =
      laws.turns_alone outline code c May
      (record {
        holds_on = λ scene s' was y es changes'. holds_more;
        stays = λ scene s' was y es changes' preserves h own q ne start flight at. let keeps = preserves.keeps q ne in grind arith;
        knows = λ scene s' was y es changes' preserves own q ne since backs flight h. let seen = preserves.seen in grind arith;
        begin = λ t s p start flight may e rows. begin_shows code c s p e rows;
        step = λ t s p x since may found. step_shows code c s p found;
        no_question = no_question code c;
        no_owners = λ s. refl;
      })

  -- the family has what is owed beside the turns: its promise, its bounds, and that what a step writes is
  -- in order, among others
  owed : {code : Coding T} {c : ℕ} → Owed outline code c
  owed {code} {c} =
      record {
        promise = refl;
        bounds = grind arith;
        promised = λ t s few. set_kept code c s;
        writes = λ t s p x since small start flight here. writes c t p s.state.words s.state.holders start flight here.at;
        decides = λ t s p x since said start flight asks here. laws.asks_none _ (no_question code c s.state p start flight here.at) asks;
        goes = λ s p start flight at z words beside answer. grind arith;
        tells = λ t turn e s. tt;
      }

  -- the set opens soundly and each turn keeps what holds, at every capacity that is admitted
  all_turns : AllTurns {T = T} outline May
  all_turns =
      record {
        opens = λ code c coded admitted. let may = admitted_is c admitted in opens code c may.0 may.1;
        turns = λ code c coded admitted. turns code c;
        few = λ code c t turn s small. tt;
      }

  -- what is proved of every run of the unique index set
  pub index_keeps : Keeps T kinds.Indices
  index_keeps = laws.keeps outline May all_turns (λ code c coded admitted. owed)

  -- a step writes down in order, and its call goes on as its table says
  pub orders_of : (code : Coding T) (c : ℕ) → Orders (family code c)
  orders_of code c = laws.orders outline code c (owed)

  -- what holds of every run where neither turns nor parties have a bound
  pub reached_on_sound : (t : Trace T) → t.world.kind ≡ kinds.Indices → IsReachedOn t → frame.Sound (family t.world.coding t.world.capacity) t
  reached_on_sound = laws.reached_on_sound outline all_turns

  -- a run without a bound on turns or parties keeps what the set promises
  pub kept_on : (t : Trace T) → t.world.kind ≡ kinds.Indices → IsReachedOn t → IsKept t
  kept_on t kind_is reached_on =
      let sound_there = reached_on_sound t kind_is reached_on in
      laws.kept_by outline May all_turns (λ code c coded admitted. owed) t kind_is reached_on.coded
      reached_on.admitted sound_there (set_kept t.world.coding t.world.capacity sound_there)
