-- The one run of a table (`OneRun`): how it grows with a turn, what a seat knows of it, and that it goes on
-- from call to call, and over splits and joins.
use Rattle.history.proofs.Names.{◌≡◌, ◌≢◌, ⊎_elim, ℕ, Option, None, List, [], ◌∷◌, ◌++◌, set, refl, sym, ap, subst, ◌∙◌}
use Rattle.history.proofs.Names.{append-nil, append_assoc, at_set, Kind, Turn, Coding, IsCoding, Refusal, after_turn, World, Trace}
use Rattle.history.proofs.Names.{inl, inr, ◌⊎◌, capacity_error, arith}
use Rattle.atomic_table.specs.Table.{State}
use mathlib.Core.Option.{some}
use lib.ListN.{get_elem?}
use Rattle.model.specs.Turns.{AreAllowedBy, after_turns}
use Rattle.model.specs.World.{opening}
use Rattle.model.proofs.Reached.{after_turns_more}
use Rattle.history.specs.declared.view.View.{View}
use Rattle.history.specs.Passes.{HasSplit, HasJoined}
use Rattle.history.specs.Views.{first_view}
use Rattle.history.specs.History.{IsMachine, IsRun, IsReachedAs, HasAsked, steps_of_run, AreFirst, AreFresh, Knew}
use Rattle.history.specs.History.{OneRun, Knows, Continues, refusal_as, run_of, others_by}
use Rattle.history.specs.OneRun.{KnowOneRun, SeatsKnowOneRun}
use Rattle.history.proofs.Asked.{left_asked, right_asked}
use Rattle.model.specs.Fresh.{IsFreshTurn}
use Rattle.model.specs.declared.turn.Kind.TheVariants as kinds

module _ {T : Type 0} where
  pub first_all : (turns : List (Turn T)) → AreFirst turns turns
  first_all turns = record { rest = []; is = sym (append-nil turns) }

  pub first_none : (turns : List (Turn T)) → AreFirst [] turns
  first_none turns = record { rest = turns; is = refl }

  -- the first of the first turns of a list are first turns of the list
  pub first_further : (xs ys zs : List (Turn T)) → AreFirst xs ys → AreFirst ys zs → AreFirst xs zs
  first_further xs ys zs are_first then_first =
      record {
        rest = are_first.rest ++ then_first.rest;
        is = then_first.is ∙ (ap (λ ts. ts ++ then_first.rest) are_first.is ∙ append_assoc xs are_first.rest then_first.rest);
      }

  pub first_more : {xs ys : List (Turn T)} (zs : List (Turn T)) → AreFirst xs ys → AreFirst xs (ys ++ zs)
  first_more {xs} {ys} zs first = first_further xs ys (ys ++ zs) first (record { rest = zs; is = refl })

  -- of two that are first turns of one list, one is a first part of the other
  either_first : (xs ys xs' ys' : List (Turn T)) → xs ++ xs' ≡ ys ++ ys' → AreFirst xs ys ⊎ AreFirst ys xs
  either_first [] ys xs' ys' lists_are = inl (first_none ys)
  either_first (x ∷ xs) [] xs' ys' lists_are = inr (first_none (x ∷ xs))
  either_first (x ∷ xs) (y ∷ ys) xs' ys' lists_are =
      let here : x ≡ y = cc in
      let rest : xs ++ xs' ≡ ys ++ ys' = cc in
      ⊎_elim (λ (a : AreFirst xs ys). inl (record { rest = a.rest; is = ap (λ z. z ∷ ys) (sym here) ∙ ap (λ zs. x ∷ zs) a.is }))
      (λ (a : AreFirst ys xs). inr (record { rest = a.rest; is = ap (λ z. z ∷ xs) here ∙ ap (λ zs. y ∷ zs) a.is }))
      (either_first xs ys xs' ys' rest)

  pub know_one : (turns : List (Turn T)) (v w : View T) → Knew turns v → Knew turns w → KnowOneRun v w
  know_one turns v w first_knew second_knew =
      either_first v.turns w.turns first_knew.mine.rest second_knew.mine.rest (sym first_knew.mine.is ∙ second_knew.mine.is)

  -- a turn that is not refused can follow turns none of which is refused
  pub allowed_more : (refuses : World T → Turn T → Option Refusal) (t : Trace T) (turns : List (Turn T)) (turn : Turn T)
      → AreAllowedBy refuses t turns → refuses (after_turns t turns).world turn ≡ None → AreAllowedBy refuses t (turns ++ turn ∷ [])
  allowed_more refuses t [] turn all free = (free, tt)
  allowed_more refuses t (x ∷ xs) turn all free = (all.0, allowed_more refuses (after_turn t x) xs turn all.1 free)

  -- a turn that finds neither the last position nor the last version can follow turns of which this holds
  pub fresh_turns_more : (t : Trace T) (turns : List (Turn T)) (turn : Turn T)
      → AreFresh t turns → IsFreshTurn (after_turns t turns) turn → AreFresh t (turns ++ turn ∷ [])
  fresh_turns_more t [] turn all fresh = (fresh, tt)
  fresh_turns_more t (x ∷ xs) turn all fresh = (all.0, fresh_turns_more (after_turn t x) xs turn all.1 fresh)

  -- a reached machine has a coding that gives values back, and a capacity that its kind admits
  pub admits : (kind : Kind) (t : Trace T) → IsReachedAs kind t → IsCoding t.world.coding × (capacity_error t.world.kind t.world.capacity ≡ None)
  admits kinds.Robust t reached = (reached.coded, reached.admitted)
  admits kinds.Container t reached = (reached.coded, reached.admitted)
  admits kind t reached = (reached.coded, reached.admitted)

  module _ (code : Coding T) (kind : Kind) (capacity : ℕ) where
    abbrev start : Trace T
    start = opening code kind capacity 0

    -- a table that has just been opened has the run of no turns, which each seat knows
    abbrev pub one_opens : (views : List (View T)) → ((j : ℕ) (x : View T) → get_elem? views j ≡ some x → Knew [] x) → OneRun code kind capacity views start
    one_opens views knew = record { turns = []; allowed = tt; fresh = tt; is = refl; knew = knew }

    -- the run with one turn more, which is not refused; each seat still knows first turns of it
    abbrev pub one_more : (views : List (View T)) (u : Trace T) (turn : Turn T) → refusal_as kind u.world turn ≡ None → IsFreshTurn u turn
        → OneRun code kind capacity views u → OneRun code kind capacity views (after_turn u turn)
    one_more views u turn free fresh one =
        record {
          turns = one.turns ++ turn ∷ [];
          allowed =
              allowed_more (refusal_as kind) start one.turns turn one.allowed
              (subst (λ (t : Trace T). refusal_as kind t.world turn ≡ None) one.is free);
          fresh = fresh_turns_more start one.turns turn one.fresh (subst (λ (t : Trace T). IsFreshTurn t turn) one.is fresh);
          is = ap (λ (t : Trace T). after_turn t turn) one.is ∙ sym (after_turns_more start one.turns turn);
          knew = λ j v at. (
              let k = one.knew j v at in
              record {
                mine = first_more (turn ∷ []) k.mine;
                theirs = first_more (turn ∷ []) k.theirs;
              });
        }

    -- one seat gets another view, which knows first turns of the run
    abbrev pub one_set : (views : List (View T)) (u : Trace T) (id : ℕ) (w : View T) (one : OneRun code kind capacity views u)
        → Knew one.turns w → OneRun code kind capacity (set views id w) u
    one_set views u id w one now =
        record {
          turns = one.turns;
          allowed = one.allowed;
          fresh = one.fresh;
          is = one.is;
          knew =
              λ j x found. ⊎_elim (λ (e : (j ≡ id) × (w ≡ x)). subst (λ z. Knew one.turns z) e.1 now)
              (λ (e : (j ≢ id) × (get_elem? views j ≡ some x)). one.knew j x e.1) (at_set views id j w x found);
        }

    -- a view that has all turns of the run knows first turns of it
    pub knew_all : {views : List (View T)} {u : Trace T} {w : View T} (one : OneRun code kind capacity views u)
        → w.turns ≡ one.turns → w.other_turns ≡ [] → Knew one.turns w
    knew_all one turns_are none =
        record {
          mine = subst (λ ts. AreFirst ts one.turns) (sym turns_are) (first_all one.turns);
          theirs = subst (λ ts. AreFirst ts one.turns) (sym none) (first_none one.turns);
        }

    -- a view with all turns and all events of the run, its operations and its changes by others, knows it
    pub knows_all : {views : List (View T)} {u : Trace T} {w : View T} (one : OneRun code kind capacity views u)
        → IsRun code kind capacity u → w.turns ≡ one.turns → w.seen ≡ u.events → w.others ≡ others_by u.world w.party
        → HasAsked w (steps_of_run code kind capacity one.turns) → Knows code kind capacity w
    knows_all {u = u} {w = w} one run turns_are seen others asked =
        let may = admits kind u run.reached in
        record {
          coded = subst IsCoding run.coded may.0;
          admitted =
              subst (λ k. capacity_error k capacity ≡ None) run.of_kind
              (subst (λ n. capacity_error u.world.kind n ≡ None) run.sized may.1);
          allowed = subst (λ ts. AreAllowedBy (refusal_as kind) start ts) (sym turns_are) one.allowed;
          fresh = subst (λ ts. AreFresh start ts) (sym turns_are) one.fresh;
          is = seen ∙ ap (λ (t : Trace T). t.events) (one.is ∙ ap (run_of code kind capacity) (sym turns_are));
          others = others ∙ ap (λ (t : Trace T). others_by t.world w.party) (one.is ∙ ap (run_of code kind capacity) (sym turns_are));
          asked = subst (λ ts. HasAsked w (steps_of_run code kind capacity ts)) (sym turns_are) asked;
        }

    pub continues_further : (x y z : View T) → AreFirst x.turns y.turns → Continues code kind capacity y z → Continues code kind capacity x z
    continues_further x y z are_first continues = record { first = first_further x.turns y.turns z.turns are_first continues.first; knows = continues.knows }

    -- a pass with the same turns, events and changes by others as another knows the run that the other knows
    same_run : {old new : View T} → new.turns ≡ old.turns → new.seen ≡ old.seen
        → new.others ≡ others_by (run_of code kind capacity old.turns).world new.party
        → HasAsked new (steps_of_run code kind capacity old.turns) → Knows code kind capacity old
        → Continues code kind capacity old new
    same_run {old} {new} turns seen others asked knows =
        record {
          first = subst (λ ts. AreFirst old.turns ts) (sym turns) (first_all old.turns);
          knows =
              record {
                coded = knows.coded;
                admitted = knows.admitted;
                allowed = subst (λ ts. AreAllowedBy (refusal_as kind) start ts) (sym turns) knows.allowed;
                fresh = subst (λ ts. AreFresh start ts) (sym turns) knows.fresh;
                is = seen ∙ (knows.is ∙ ap (λ ts. (run_of code kind capacity ts).events) (sym turns));
                others = others ∙ ap (λ ts. others_by (run_of code kind capacity ts).world new.party) (sym turns);
                asked = subst (λ ts. HasAsked new (steps_of_run code kind capacity ts)) (sym turns) asked;
              };
        }

    -- both passes of a split go on from what the pass knew
    pub continues_split : {old left right : View T} → HasSplit old left right → Knows code kind capacity old
        → Continues code kind capacity old left × Continues code kind capacity old right
    continues_split {old} {left} {right} cut knows = (
      same_run cut.turns cut.seen (cut.others ∙ (knows.others ∙ ap (others_by (run_of code kind capacity old.turns).world) (sym cut.party)))
          (left_asked old left (steps_of_run code kind capacity old.turns) knows.asked cut.share cut.asked cut.aside) knows,
      same_run cut.right_turns cut.right_seen
          (cut.right_others ∙ ap (others_by (run_of code kind capacity old.turns).world) (sym cut.right_party))
          (right_asked knows.asked cut.right_share cut.right_asked cut.right_aside) knows,
    )

    -- the run that a joined pass knows goes on from the runs that both passes knew
    pub continues_join : {mine theirs new : View T} → HasJoined mine theirs new → Knows code kind capacity new
        → Continues code kind capacity mine new × Continues code kind capacity theirs new
    continues_join joined knows =
        (record { first = joined.ours_ran; knows = knows }, record { first = joined.theirs_ran; knows = knows })

    -- ---- a table

    -- the first pass knows that nothing has happened
    pub knows_first : IsCoding code → capacity_error kind capacity ≡ None → Knows code kind capacity (first_view capacity)
    knows_first = grind arith

    pub seats_know_one : {s : State (Unit {0}) (View T)} → IsMachine code kind capacity s → SeatsKnowOneRun s
    seats_know_one is_machine i j v w at there = know_one is_machine.one.turns v w (is_machine.one.knew i v at) (is_machine.one.knew j w there)

-- the run that a seat knew goes on to the whole run of the table
pub continues_all : {T : Type 0} {code : Coding T} {kind : Kind} {capacity : ℕ} {views : List (View T)} {u : Trace T} (id : ℕ) {v w : View T}
    (one : OneRun code kind capacity views u)
    → get_elem? views id ≡ some v → IsRun code kind capacity u → w.turns ≡ one.turns → w.seen ≡ u.events → w.others ≡ others_by u.world w.party
    → HasAsked w (steps_of_run code kind capacity one.turns) → Continues code kind capacity v w
continues_all {code = code} {kind = kind} {capacity = capacity} id {v = v} one has_view run turns_are seen others asked =
    record {
      first = subst (λ ts. AreFirst v.turns ts) (sym turns_are) (one.knew id v has_view).mine;
      knows = knows_all code kind capacity one run turns_are seen others asked;
    }
