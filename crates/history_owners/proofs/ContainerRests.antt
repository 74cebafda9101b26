-- Each call of a container may begin on a pass whose last call rests at a `find`'s question: with its first
-- step the machine is handed the answer that ended the `find`.
use Rattle.std.proofs.Common.{arith}
use Rattle.history.proofs.Names.{Bool, true, false, ◌≡◌, ℕ, ◌+◌, ◌<◌, Option, None, List, []}
use Rattle.history.proofs.Names.{sym, ◌∙◌, subst}
use Rattle.steps.specs.declared.ask.After.{After}
use Rattle.steps.specs.declared.ask.After.TheVariants.{GoOn}
use Rattle.steps.specs.declared.ask.Want.{Want}
use Rattle.history.proofs.Names.{Coding, want_of}
use Rattle.model.specs.declared.event.Answer.{Answer}
use Rattle.model.specs.declared.event.Event.{Event}
use Rattle.model.specs.declared.event.Start.{Start}
use Rattle.model.specs.declared.families.Flight.{Flight}
use Rattle.history.proofs.Names.{goes_of, is_question, number_of, World}
use Rattle.history.proofs.Names.{KeepsRule}
use Rattle.steps.specs.declared.ask.After.TheVariants.{Done}
use Rattle.model.specs.declared.turn.Kind.TheVariants as kinds
use Rattle.history.specs.declared.view.View.{View}
use Rattle.history.specs.History.{IsMachine, IsLate}
use Rattle.history_owners.specs.Settled.{IsResting, AtRested, EndsRested}
use Rattle.history.specs.Stages.{Calling, At, Ends, AtAsked}
use Rattle.history.proofs.CallsIn.{AsksFor}
use Rattle.history_owners.proofs.Containers.{container_effects, container_words, container_machines}
use Rattle.history_owners.proofs.Settling.{KeepsWhere, Hearing, NextCall, keeps_waiting, keeps_waiting_where}

-- a Bool is not true and false
pub clash : {A : Type 0} (b : Bool) → b ≡ true → b ≡ false → A
clash b due still = (let both : true ≡ false = sym due ∙ still in absurd (cc))

module _ {T : Type 0} where
  -- ---- an answer that ends a call writes nothing

  module _ (code : Coding T) (w : World T) (p : ℕ) (answer : Answer T) where
    -- an answer that ends a `find` writes no effect
    quietly : (flight : Flight T) → is_question (want_of code flight) ≡ true → goes_of code p flight (number_of false) w.kept ≡ Done answer
        → container_effects w p flight (number_of false) ≡ []
    quietly = grind arith

  -- an answer that ends any container's call writes no effect
  pub ends_quiet : (code : Coding T) (w : World T) (p : ℕ) (flight : Flight T) (answer : Answer T) → is_question (want_of code flight) ≡ true
      → goes_of code p flight (number_of false) w.kept ≡ Done answer → container_effects w p flight (number_of false) ≡ []
  ends_quiet code w p flight answer due leads = quietly code w p answer flight due leads

-- ---- a call of the container comes after one that rests

module _ {T : Type 0} (code : Coding T) where
  -- each step of a call of a container keeps the rule of the table
  abbrev pub Keeps : {C M E : Type 0} → (View T → View T → C → M → Type 0) → (View T → E → M → View T → Type 0) → (C → Want (Unit {0})) → (C → ℕ → After C E)
      → (C → M → ℕ → M) → Type 0
  Keeps at ends want after kept =
      KeepsRule (λ (z : View T). z.asked) (λ (z : View T). z.capacity) at ends (λ key. container_words code key + 1) (λ key. key)
      (λ key. IsMachine code kinds.Container key) want after kept

  -- nothing is late for a call of a container
  pub never_late : (going : Option (Start T × Flight T)) (late : List (Event T)) → IsLate kinds.Container going late → late ≡ []
  never_late going late is_late = is_late

  -- containers hear answers, and an answer that ends a call writes nothing
  abbrev pub container_hears : Hearing T
  container_hears = record { machines = container_machines code; decides = tt; alone = never_late; quiet = ends_quiet code }

  module _ {C M E : Type 0} (call : Calling T C M E) (want : C → Want (Unit {0})) (same_want : (c : C) (m : M) → want_of code (call.flight c m) ≡ want c) where
    module _ (Begins : ℕ → C → M → Type 0)
        (asks : (capacity : ℕ) (c : C) (m : M) → Begins capacity c m → AsksFor (container_words code capacity) (want c)) where
      -- a pass whose call rests is not at the first stage of another call
      apart_at : (base v : View T) (c : C) (m k : M) → IsResting code v → Begins v.capacity c k → At code kinds.Container call base v c m → ⊥
      apart_at = grind arith

      -- of a call that puts questions, of which no answer leads to where it begins
      module _ (after : C → ℕ → After C E) (kept : C → M → ℕ → M) (Over : View T → E → M → View T → Type 0)
          (never : (capacity : ℕ) (c d : C) (m : M) (n : ℕ) → is_question (want c) ≡ true → after c n ≡ GoOn d → Begins capacity d m → ⊥)
          (keeps : Keeps (AtAsked code kinds.Container after kept call) Over want after kept)
          (first : (v : View T) (c : C) (m : M) → Begins v.capacity c m → v.going ≡ None → v.other ≡ [] → 0 < v.share.part
          → AtAsked code kinds.Container after kept call v v c m) where
        -- a pass whose call rests is not at the first stage of a call that may have heard an answer
        pub apart_asked : (base v : View T) (c : C) (m k : M) → IsResting code v → Begins v.capacity c k
            → AtAsked code kinds.Container after kept call base v c m → ⊥
        apart_asked = grind arith

        -- the call, as one that may begin where the last call of the pass rests
        abbrev next : NextCall container_hears C M E
        next =
            record {
              want = want;
              after = after;
              kept = kept;
              Stage = AtAsked code kinds.Container after kept call;
              Over = Over;
              may = λ c. Unit {0};
              keeps = λ base v c m key words slots id ok. keeps base v c m key words slots id;
              Begins = λ v. Begins v.capacity;
              asks = λ v. asks v.capacity;
              stays = λ v w c m settled. subst (λ n. Begins n c m) (sym settled.capacity);
              first = first;
              apart = λ base v c m. apart_asked base v c m m;
            }

        -- a call that puts questions keeps the rule, also if the last call of the pass rests
        pub rested_asks : Keeps (AtRested code kinds.Container Begins (AtAsked code kinds.Container after kept call) Over)
            (EndsRested code kinds.Container Begins (AtAsked code kinds.Container after kept call) Over) want after kept
        rested_asks = keeps_waiting container_hears next (λ c. tt)

        -- the steps of a call at a word keep the rule, also if the last call of the pass rests
        pub rested_words : (Ended : View T → E → M → View T → Type 0)
            → KeepsWhere code kinds.Container (container_words code) (λ c. is_question (want c) ≡ false)
            (AtAsked code kinds.Container after kept call) Ended want after kept
            → KeepsWhere code kinds.Container (container_words code) (λ c. is_question (want c) ≡ false)
            (AtRested code kinds.Container Begins (AtAsked code kinds.Container after kept call) Ended)
            (EndsRested code kinds.Container Begins (AtAsked code kinds.Container after kept call) Ended) want after kept
        rested_words Ended words =
            keeps_waiting_where container_hears (record next { Over = Ended; may = λ c. is_question (want c) ≡ false; keeps = words })

    -- a call that puts no question rests and keeps the rule, whatever is in its room where it begins
    module _ (Begins : ℕ → C → Type 0) (asks : (capacity : ℕ) (c : C) → Begins capacity c → AsksFor (container_words code capacity) (want c))
        (after : C → ℕ → After C E) (kept : C → M → ℕ → M) (keeps : Keeps (At code kinds.Container call) (Ends code kinds.Container call) want after kept)
        (first : (v : View T) (c : C) (m : M) → Begins v.capacity c → v.going ≡ None → v.other ≡ []
        → 0 < v.share.part → At code kinds.Container call v v c m) where
      -- a call that puts no question keeps the rule, also if the last call of the pass rests
      pub rested_keeps : Keeps (AtRested code kinds.Container (λ capacity c m. Begins capacity c) (At code kinds.Container call)
          (Ends code kinds.Container call))
          (EndsRested code kinds.Container (λ capacity c m. Begins capacity c) (At code kinds.Container call) (Ends code kinds.Container call)) want after kept
      rested_keeps =
          keeps_waiting container_hears
          (record {
            want = want;
            after = after;
            kept = kept;
            Stage = At code kinds.Container call;
            Over = Ends code kinds.Container call;
            may = λ c. Unit {0};
            keeps = λ base v c m key words slots id ok. keeps base v c m key words slots id;
            Begins = λ v c m. Begins v.capacity c;
            asks = λ v c m. asks v.capacity c;
            stays = λ v w c m settled. subst (λ n. Begins n c) (sym settled.capacity);
            first = first;
            apart = λ base v c m. apart_at (λ capacity c m. Begins capacity c) (λ capacity c m begins. asks capacity c begins) base v c m m;
          })
          (λ c. tt)
