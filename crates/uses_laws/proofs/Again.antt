-- A place that is set twice was cleared in between.
use Rattle.std.proofs.Common.{◌≡◌, ◌==◌, ℕ, ◌+◌, ◌<◌, ◌≤◌, Bool, true, cond, List, [], ◌∷◌, ◌++◌, ap, arith}
use Rattle.std.proofs.lemmas.Bool.Decides.{nat_tests}
use Rattle.std.proofs.lemmas.List.Sums.{sum_by-append, sum_by-cons}
use Rattle.std.specs.List.{sum_by}
use Rattle.model.specs.declared.event.Answer.{Answer}
use Rattle.model.specs.declared.event.Event.TheVariants as events
use Rattle.model.specs.declared.event.Event.TheVariants.{Begun, Finished}
use Rattle.model.specs.declared.event.Start.{Start}
use Rattle.model.specs.Families.Bits.Reading.{sets, clears, standing, is_set_of}
use Rattle.model.specs.Reading.{whose, is_party}
use Rattle.lock_free.specs.Bits.Contracts.{HasSet}
use Rattle.lock_free.specs.Event.{Event}
use Rattle.lock_free.specs.History.{Called}
use Rattle.lock_free.specs.HistoryKnown.{events_by}
use Rattle.lock_free.specs.HistoryView.View.{View}

-- a party's events are some of all events
some_of : (f : Event ℕ → ℕ) (e : Event ℕ) (own all : List (Event ℕ)) (mine : Bool) → sum_by f own ≤ sum_by f all
    → sum_by f (cond mine (e ∷ []) [] ++ own) ≤ sum_by f (e ∷ all)
some_of f e own all mine sum_by_up_to = grind (arith, sum_by-cons)

of_party : (f : Event ℕ → ℕ) (p : ℕ) (es : List (Event ℕ)) → sum_by f (events_by p es) ≤ sum_by f es
of_party f p [] = omega arith
of_party f p (e ∷ es) = some_of f e (events_by p es) es (is_party p (whose e)) (of_party f p es)

-- what a call wrote is seen beside all that was seen
seen_more : (f : Event ℕ → ℕ) (p : ℕ) (start : Start ℕ) (answer : Answer ℕ) (wrote : List (Event ℕ)) (old new : View ℕ)
    → Called p start answer wrote old new → sum_by f old.seen + sum_by f wrote ≤ sum_by f new.seen
seen_more f p start answer wrote old new c =
    let end : List (Event ℕ) = Finished p start answer ∷ [] in
    let all = ap (sum_by f) c.is in
    let first = sum_by-append f (old.seen ++ c.others) (Begun p start ∷ (c.during ++ end)) in
    let before = sum_by-append f old.seen c.others in
    omega (arith, sum_by-cons f (Begun p start) (c.during ++ end), sum_by-append f c.during end, ap (sum_by f) c.during_own, of_party f p c.during)

-- a set that answers true has set its place once more than was seen before
set_once : (place : ℕ) (old new : View ℕ) → HasSet place true old new → sets place old.seen + 1 ≤ sets place new.seen
set_once place old new set =
    let wrote : List (Event ℕ) = events.Set set.by place ∷ [] in
    let more : sets place old.seen + sets place wrote ≤ sets place new.seen =
    seen_more (λ e. cond (is_set_of place e) 1 0) set.by _ _ wrote old new set.called in
    let same : (place == place) ≡ true = grind (arith, nat_tests) in
    let one : sets place wrote ≡ 1 = rw same (omega arith) in
    omega arith

-- between two sets of one place that both answer true the place was cleared
pub cleared_since : (place : ℕ) (old between new : View ℕ) → HasSet place true old between → HasSet place true between new
    → sets place old.seen ≡ clears place old.seen + standing place old.seen
    → sets place new.seen ≡ clears place new.seen + standing place new.seen → standing place new.seen ≤ 1
    → clears place old.seen < clears place new.seen
cleared_since place old between new one two before after most =
    omega (arith, set_once place old between one, set_once place between new two)
