-- What a pass with the whole share knows of a queue's history: nobody else published or took out anything.
use Rattle.lock_free_queues.proofs.Names.{◌≡◌, ℕ, ◌+◌, List, [], ◌∷◌, ◌++◌, length, None, refl, sym, ap, subst, ◌∙◌}
use Rattle.lock_free_queues.proofs.Names.{append-nil, sum_by, arith, flat_map-append, sum_by-append, flat_map}
use Rattle.lock_free_queues.proofs.Names.{PoppedNone, Event, Begun, Acted, Finished, Item, Queues, QueueKind, Pop}
use Rattle.lock_free_queues.proofs.Names.{publishes, hands_out, published, handed_out, IsAll, View, IsBeginning}
use Rattle.lock_free_queues.proofs.Names.{sum_first, Coding, machine_kind, IsHistory, Goes, MissesNothing}
use Rattle.std.proofs.Common.{length-append}
use Rattle.lock_free_queues.specs.Queues.Contracts.{HasPopped, FoundNone}
use Rattle.lock_free_queues.proofs.Queues.Facts.{found_none, listed_always}

-- A list that begins with another and is as long is that other.
pub none_more : {A : Type 0} (xs ys zs : List A) → zs ≡ xs ++ ys → length zs ≡ length xs → zs ≡ xs
none_more xs [] zs is long = is ∙ append-nil xs
none_more xs (y ∷ ys) zs is long = (absurd (omega (arith, ap length is, length-append xs (y ∷ ys))))

module _ {T : Type 0} (m : Event T → List (Item T)) where
  -- How many items an event tells of.
  abbrev counts : Event T → ℕ
  counts e = length (m e)

  -- The events count as many as they tell of.
  counted : (es : List (Event T)) → sum_by counts es ≡ length (flat_map m es)
  counted [] = refl
  counted (e ∷ es) = omega (arith, sum_first counts e es, counted es, length-append (m e) (flat_map m es))

  -- who has the whole share has seen no more than it made
  module _ (old new : View T) (es : List (Event T))
      (all : IsAll old.share) (before : MissesNothing old) (goes : Goes old new)
      (made : new.made ≡ old.made ++ es) where
    -- with the whole share, what the history tells grows by as much as the pass itself has made
    as_many : length (flat_map m new.seen) ≡ length (flat_map m old.seen) + length (flat_map m es)
    as_many =
        let was = before all counts in
        let now = goes.all (subst IsAll (sym goes.share) all) counts in
        let sum : sum_by counts new.made ≡ sum_by counts (old.made ++ es) = ap (sum_by counts) made in
        let both = sum_by-append counts old.made es in
        omega (arith, counted old.seen, counted new.seen, counted es)

    -- A call that tells of nothing leaves the list as it was, as nobody else did anything.
    pub nothing_more : flat_map m es ≡ [] → flat_map m new.seen ≡ flat_map m old.seen
    nothing_more writes_none = grind (arith, length, as_many, none_more, flat_map-append)

-- where a pop finds nothing, all that was published was taken
pub all_taken : {T : Type 0} (code : Coding T) (kd : QueueKind) (capacity : ℕ) {old new : View T} → IsAll old.share
    → MissesNothing old → Goes old new → IsHistory code (machine_kind kd) capacity new.seen → HasPopped None old new
    → (published new.seen ≡ published old.seen) × (handed_out new.seen ≡ published new.seen)
all_taken {T} code kd capacity {old} {new} all before goes history popping =
    let party_there = popping.by in
    let events_then : List (Event T) =
    Begun party_there (Queues Pop) ∷ Acted party_there (Queues Pop) PoppedNone ∷ Finished party_there (Queues Pop) PoppedNone ∷ [] in
    -- the pop published nothing, and took nothing out; at a moment of it nothing waited
    let out : published new.seen ≡ published old.seen =
    nothing_more publishes old new events_then all before goes popping.called.made refl in
    let took : handed_out new.seen ≡ handed_out old.seen =
    nothing_more hands_out old new events_then all before goes popping.called.made refl in
    let empty : FoundNone old new = found_none code kd capacity old new history popping in
    let after : List (Event T) = Acted empty.by (Queues Pop) PoppedNone ∷ empty.after in
    let book = (listed_always code capacity new.seen kd history empty.before after empty.is).book in
    let same : published empty.before ≡ published old.seen = between publishes empty.before after old new empty.since empty.is out in
    let taken : handed_out empty.before ≡ handed_out old.seen = between hands_out empty.before after old new empty.since empty.is took in
    let rest : published empty.before ≡ handed_out empty.before =
    book ∙ (ap (λ xs. handed_out empty.before ++ xs) empty.empty ∙ append-nil (handed_out empty.before)) in
    (out, took ∙ (sym taken ∙ (sym rest ∙ (same ∙ sym out))))
  where
    -- what stands between two that tell the same
    between : (m : Event T → List (Item T)) (xs ys : List (Event T)) (v w : View T) → IsBeginning v.seen xs
        → w.seen ≡ xs ++ ys → flat_map m w.seen ≡ flat_map m v.seen → flat_map m xs ≡ flat_map m v.seen
    between m xs ys v w low is same =
        let longer : flat_map m xs ≡ flat_map m v.seen ++ flat_map m low.rest = ap (flat_map m) low.is ∙ flat_map-append m v.seen low.rest in
        let whole : flat_map m w.seen ≡ flat_map m xs ++ flat_map m ys = ap (flat_map m) is ∙ flat_map-append m xs ys in
        let a = ap length longer in
        let b = ap length whole in
        let c = length-append (flat_map m v.seen) (flat_map m low.rest) in
        let d = length-append (flat_map m xs) (flat_map m ys) in
        let e = ap length same in
        none_more (flat_map m v.seen) (flat_map m low.rest) (flat_map m xs) longer (omega arith)
