-- What a pass knows is a run of the page, since it is a run of the model on which roles change hands.
use Rattle.std.proofs.Common.{◌≡◌, false, None, List, [], ◌∷◌, ◌++◌, ap, append_assoc, refl, subst, sym, ◌∙◌}
use Rattle.model.specs.declared.turn.Turn.{Turn}
use Rattle.model.specs.Objects as model
use Rattle.model.specs.Promise.{Promise}
use Rattle.model.specs.Promises.Spans.{StandsRight}
use Rattle.model.specs.Reading.{Each}
use Rattle.model.specs.StronglyLinearizable as strong
use Rattle.model.specs.Turns.{AreAllowedBy, AreAllowedOn, after_turn, after_turns}
use Rattle.model.specs.World.{Trace, capacity_error, opening}
use Rattle.model.proofs.Linearizable.Strong as model_order
use Rattle.history.specs.declared.view.View.{View}
use Rattle.history.specs.History.{Knows, refusal_as}
use Rattle.pages.specs.Machine.{Object}
use Rattle.pages.specs.RolesBridge.{Naming, RunsByRole, all_told, turn_taken, turns_taken}
use Rattle.pages.proofs.Seen.{IsObject}
use Rattle.pages_threads.specs.Known.{IsLinearizedBy, Paged, PassesAreLinearizable, PassesAreStronglyLinearizable, PassesRun, RunsThePage, turns_of}
use Rattle.pages_threads.proofs.Alternating.{Alternates, alternates}
use Rattle.pages_threads.proofs.Orders.{carried_by, grows, order}
use Rattle.pages_threads.proofs.Overlaps.{clean}

module _ {T Call Answer : Type 0} (by : Naming T Call Answer) where
  -- The page takes the turns of two lists as those of the first and then of the second.
  taken_more : (t : Trace T) (xs ys : List (Turn T)) → turns_taken by t (xs ++ ys) ≡ turns_taken by t xs ++ turns_taken by (after_turns t xs) ys
  taken_more t [] ys = refl
  taken_more t (x ∷ xs) ys =
      ap (λ ts. turn_taken by t.world x ++ ts) (taken_more (after_turn t x) xs ys)
      ∙ sym (append_assoc (turn_taken by t.world x) (turns_taken by (after_turn t x) xs) (turns_taken by (after_turns t (x ∷ xs)) ys))

-- Runs of the page are runs of the model whose roles change hands (`runs`), and no turn of a pass is refused there (`free`).
module _ {T Call Stage Answer : Type 0} (page : Paged T Call Stage Answer)
    (free : (t : Trace T) (turns : List (Turn T)) → AreAllowedBy (refusal_as page.kind) t turns → AreAllowedOn t turns)
    (runs : capacity_error page.kind page.capacity ≡ None → RunsByRole page.by page.structure (opening page.code page.kind page.capacity 0))
  where
    -- A pass that knows a run of the machine knows a run of the page.
    known : (v : View T) → Knows page.code page.kind page.capacity v → RunsThePage page v
    known v knows =
        ap (all_told page.by) knows.is
        ∙ runs knows.admitted v.turns (free (opening page.code page.kind page.capacity 0) v.turns knows.allowed)

    -- what passes know is a run of the page, and what one knows later is that run, gone on
    pub passing : PassesRun page
    passing =
        record {
          known = known;
          later = λ old new goes.
              let start = opening page.code page.kind page.capacity 0 in
              record {
                more = turns_taken page.by (after_turns start old.turns) goes.first.rest;
                is = ap (turns_taken page.by start) goes.first.is ∙ taken_more page.by start old.turns goes.first.rest;
                runs = known new goes.knows;
              };
        }

-- What a pass knows is linearizable as the model has it, and the page sees it so.
module _ {T Call Stage Answer Items State : Type 0} (page : Paged T Call Stage Answer) (given : model.Object T Items) (object : Object Call Answer State)
    (is_object : IsObject page.by.reading (record { is_call = page.by.is_call; object = given }) object) (passes : PassesRun page) (promise : Promise T)
    (spans : (v : View T) → Knows page.code page.kind page.capacity v → Each (StandsRight promise page.capacity) v.seen)
    (linearized : (v : View T) → Knows page.code page.kind page.capacity v
    → strong.IsLinearizedBy (record { is_call = page.by.is_call; object = given }) (model_order.order page.by.is_call v.seen) v.seen)
  where
    linearized_by : (v : View T) → Knows page.code page.kind page.capacity v → IsLinearizedBy object (order page.by v.seen) (all_told page.by v.seen)
    linearized_by v knows =
        carried_by page.by is_object v.seen
        (λ n. clean page.by n promise page.capacity v.seen (spans v knows)
        (subst (Alternates n false) (sym (passes.known v knows)) (alternates page.structure n (turns_of page v))))
        (linearized v knows)

    pub strongly : PassesAreStronglyLinearizable page object
    strongly = record { order = order page.by; each = linearized_by; grows = grows page.by }

-- what is strongly linearizable is linearizable
pub linear : {T Call Stage Answer State : Type 0} (page : Paged T Call Stage Answer) (object : Object Call Answer State)
    → PassesAreStronglyLinearizable page object → PassesAreLinearizable page object
linear page object all v knows = let l = all.each v knows in l.by
