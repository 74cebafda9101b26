-- Acquires in turn: what several to which no index was left leave of what a pass knows, and how the last one ends them.
use Rattle.std.proofs.Common.{◌≡◌, ℕ, ◌+◌, false, List, [], ◌∷◌, ◌++◌, flat_map, sum_by}
use Rattle.std.proofs.Common.{refl, sym, ap, ◌∙◌, arith, append-nil, append_assoc, length-append}
use Rattle.std.proofs.lemmas.List.Concat.{flat_map-append}
use Rattle.std.proofs.lemmas.List.Sums.{sum_by-append, sum_by-cons}
use Rattle.steps.specs.declared.indices.enums.UniqueIndexSetAcquireFailure.TheVariants.{OutOfIndices}
use Rattle.model.specs.declared.event.Answer.TheVariants.{NoIndex}
use Rattle.model.specs.declared.event.Event.{Event}
use Rattle.model.specs.declared.event.Event.TheVariants.{Begun, Finished}
use Rattle.model.specs.declared.event.Start.{Start}
use Rattle.model.specs.Families.Indices.Reading.{is_locked}
use Rattle.history.specs.History.{Called}
use Rattle.history.specs.Passes.{Goes}
use Rattle.history.specs.declared.view.View.{View}
use Rattle.history.proofs.Known.{begins_further}
use Rattle.history.proofs.Locks.{not_locked}
use Rattle.history.proofs.OneRun.{first_all, first_further}
use Rattle.lock_free_guards.specs.Tries.{refused_by, HasTried, EndsTries}

module _ (start : Start ℕ) where
  -- Before the first try nothing has changed.
  pub none_tried : (v : View ℕ) → HasTried 0 start v v
  none_tried v =
      record {
        share = refl;
        since = record { rest = []; is = sym (append-nil v.seen) };
        first = first_all v.turns;
        parties = [];
        so_many = refl;
        made = sym (append-nil v.made);
      }

  -- from u to v the pass has tried n times; it goes on from v to w
  module _ (n : ℕ) (u v w : View ℕ) (h : HasTried n start u v) (goes : Goes v w) where
    -- One more try to which no index was left makes n + 1 tries.
    pub one_more : (p : ℕ) → Called p start (NoIndex OutOfIndices) [] v w → HasTried (n + 1) start u w
    one_more p called =
        record {
          share = goes.share ∙ h.share;
          since = begins_further u.seen v.seen w.seen h.since goes.since;
          first = first_further u.turns v.turns w.turns h.first goes.first;
          parties = h.parties ++ p ∷ [];
          so_many = omega (arith, length-append h.parties (p ∷ []), h.so_many);
          made =
              called.made
              ∙ (ap (λ (es : List (Event ℕ)). es ++ refused_by start p) h.made
              ∙ (append_assoc u.made (flat_map (refused_by start) h.parties) (refused_by start p)
              ∙ ap (λ (es : List (Event ℕ)). u.made ++ es) (sym longer)));
        }
      where
        -- The events of one more try come behind those of the tries before.
        longer : flat_map (refused_by start) (h.parties ++ p ∷ []) ≡ flat_map (refused_by start) h.parties ++ refused_by start p
        longer =
            flat_map-append (refused_by start) h.parties (p ∷ [])
            ∙ ap (λ (es : List (Event ℕ)). flat_map (refused_by start) h.parties ++ es) (append-nil (refused_by start p))

    -- The last try, whatever its answer, ends them: n tries found no index before it.
    pub last_try : (Last : View ℕ → View ℕ → Type 0) → Last v w → EndsTries n start Last u w
    last_try Last last =
        record {
          begun = v;
          tried = h;
          last = last;
          goes =
              record {
                share = goes.share ∙ h.share;
                since = begins_further u.seen v.seen w.seen h.since goes.since;
                first = first_further u.turns v.turns w.turns h.first goes.first;
                all = goes.all;
              };
        }

  -- a sum over what the pass made stays over tries that took none, where no event of such a try counts
  module _ (f : Event ℕ → ℕ) (begins : (p : ℕ) → f (Begun p start) ≡ 0) (ends : (p : ℕ) → f (Finished p start (NoIndex OutOfIndices)) ≡ 0) where
    -- the tries that took none count nothing, however many
    sum_refused : (ps : List ℕ) → sum_by f (flat_map (refused_by start) ps) ≡ 0
    sum_refused [] = refl
    sum_refused (p ∷ ps) =
        let both = sum_by-append f (refused_by start p) (flat_map (refused_by start) ps) in
        let one = sum_by-cons f (Begun p start) (Finished p start (NoIndex OutOfIndices) ∷ []) in
        let two = sum_by-cons f (Finished p start (NoIndex OutOfIndices)) [] in
        let none : sum_by f [] ≡ 0 = refl in
        let rest = sum_refused ps in
        omega (arith, begins p, ends p)

    -- over tries that took none, a sum over what the pass made stays, if neither their begin nor their end counts
    pub sum_stays : (n : ℕ) (u v : View ℕ) → HasTried n start u v → sum_by f v.made ≡ sum_by f u.made
    sum_stays n u v tried =
        omega (arith, ap (sum_by f) tried.made, sum_by-append f u.made (flat_map (refused_by start) tried.parties), sum_refused tried.parties)

  -- If no lock was seen after the tries, none was seen before them.
  pub unlocked_before : (n : ℕ) (u v : View ℕ) → HasTried n start u v → is_locked v.seen ≡ false → is_locked u.seen ≡ false
  unlocked_before n u v tried free = not_locked tried.since free
