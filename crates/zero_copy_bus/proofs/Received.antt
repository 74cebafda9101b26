-- What came to a subscriber in one call of `receive`, and in calls one after the other (`HasHad`).
use Rattle.std.proofs.Common.{◌≡◌, ℕ, ◌+◌, ◌%◌, ◌<◌, ◌≤◌, List, [], ◌∷◌, ◌++◌, refl, sym, ap, subst, ◌∙◌, inl, inr}
use Rattle.std.specs.Prelude.{Some, None}
use Rattle.model.specs.declared.event.Item.TheVariants.{Index}
use Rattle.lock_free_queues.specs.Queues.Contracts.{HasPopped}
use Rattle.lock_free_queues.specs.Queues.Rings.{QueueId}
use Rattle.history.specs.Passes.{Goes}
use Rattle.zero_copy_bus.specs.declared.subscriber.Subscriber.{Subscriber}
use Rattle.zero_copy_bus.specs.Ends.{expected_at, layout_at, place_at, receives_queue, receives_view, shape_of, HasHad}
use Rattle.zero_copy_bus.specs.Sequences.{Delivers}
use Rattle.zero_copy_loans.specs.Numbers.{Shape, ReceivesOn}
use Rattle.zero_copy_loans.specs.Words.{word_of}
use Rattle.zero_copy_loans.specs.declared.words.Layout.{Layout}
use Rattle.zero_copy_loans.proofs.Numbers.{receives_nothing, receives_one, receives_other, receives_still, receives_then}
use Rattle.zero_copy_slots.specs.declared.Keeps.{Ghosts}

-- what two calls delivered, one after the other, is delivered by both together
pub delivers_then : (a b c : ℕ) (xs ys ds es : List ℕ) → Delivers a xs ds b → Delivers b ys es c → Delivers a (xs ++ ys) (ds ++ es) c
delivers_then a b c [] ys ds es h more =
    subst (λ zs. Delivers a ys (zs ++ es) c) (sym h.0) (subst (λ n. Delivers n ys es c) h.1 more)
delivers_then a b c (x ∷ xs) ys ds es (inl h) more = inl (h.0, delivers_then a b c xs ys ds es h.1 more)
delivers_then a b c (x ∷ xs) ys ds es (inr h) more =
    inr (h.0, h.1 ++ es, ap (λ zs. zs ++ es) h.2, delivers_then (x + 1) b c xs ys h.1 es h.3 more)

module _ {X K : Type 0} {rule : Ghosts K X} where
  -- A call of `receive` leaves the subscriber's queue, layout and place, and its view goes on.
  module _ (old new : Subscriber X K rule) (queue : receives_queue new ≡ receives_queue old) (layout : layout_at new ≡ layout_at old)
      (place : place_at new ≡ place_at old) (goes : 0 < (receives_queue old).capacity → Goes (receives_view old) (receives_view new)) where
    abbrev s : Shape
    s = shape_of (layout_at old) (receives_queue old)

    -- a call whose pop found nothing received no record
    pub had_none : (0 < (receives_queue old).capacity → HasPopped None (receives_view old) (receives_view new)) → expected_at new ≡ expected_at old
        → HasHad [] [] old new
    had_none p same =
        record {
          queue = queue;
          layout = layout;
          place = place;
          receives = λ some. receives_nothing s (receives_view old) (receives_view new) (goes some) (p some);
          delivers = (refl, same);
        }

    -- a call that popped a word of no slot received no record
    pub had_other : (word : ℕ) → (layout_at old).places ≤ word % (layout_at old).room → HasPopped (Some (Index word)) (receives_view old) (receives_view new)
        → expected_at new ≡ expected_at old
        → HasHad [] [] old new
    had_other word past p same =
        record {
          queue = queue;
          layout = layout;
          place = place;
          receives = λ some. receives_other s (receives_view old) (receives_view new) word past (goes some) p;
          delivers = (refl, same);
        }

    -- The pop has found a word with this number and this slot, which came to the subscriber.
    module _ (number slot word : ℕ) (within : slot < (layout_at old).room) (is : word_of (layout_at old).room number slot ≡ word)
        (p : HasPopped (Some (Index word)) (receives_view old) (receives_view new)) where
      came : 0 < (receives_queue old).capacity → ReceivesOn s (number ∷ []) (receives_view old) (receives_view new)
      came some =
          receives_one s (receives_view old) (receives_view new) number slot within (goes some)
          (subst (λ w. HasPopped (Some (Index w)) (receives_view old) (receives_view new)) (sym is) p)

      -- a call that popped a number below the one expected received no record
      pub had_older : number < expected_at old → expected_at new ≡ expected_at old → HasHad (number ∷ []) [] old new
      had_older older same = record { queue = queue; layout = layout; place = place; receives = came; delivers = inl (older, (refl, same)) }

      -- a call that popped a number not below the one expected received its record
      pub had_one : expected_at old ≤ number → expected_at new ≡ number + 1 → HasHad (number ∷ []) (number ∷ []) old new
      had_one le next = record { queue = queue; layout = layout; place = place; receives = came; delivers = inr (le, [], refl, (refl, next)) }

  -- calls that receive nothing
  pub had_still : (old new : Subscriber X K rule) → receives_queue new ≡ receives_queue old → layout_at new ≡ layout_at old
      → place_at new ≡ place_at old
      → receives_view new ≡ receives_view old
      → expected_at new ≡ expected_at old
      → HasHad [] [] old new
  had_still old new queue layout place view same =
      record {
        queue = queue;
        layout = layout;
        place = place;
        receives = λ some. receives_still (shape_of (layout_at old) (receives_queue old)) (receives_view old) (receives_view new) view;
        delivers = (refl, same);
      }

  -- what came in two calls, one after the other, came in both together
  pub had_then : (xs ys ds es : List ℕ) (a b c : Subscriber X K rule) → HasHad xs ds a b → HasHad ys es b c → HasHad (xs ++ ys) (ds ++ es) a c
  had_then xs ys ds es a b c h k =
      record {
        queue = k.queue ∙ h.queue;
        layout = k.layout ∙ h.layout;
        place = k.place ∙ h.place;
        receives =
            λ some.
            receives_then (shape_of (layout_at a) (receives_queue a)) xs ys (receives_view a) (receives_view b) (receives_view c) (h.receives some)
            (subst (λ (l : Layout). ReceivesOn (shape_of l (receives_queue a)) ys (receives_view b) (receives_view c)) h.layout
            (subst (λ (q : QueueId). ReceivesOn (shape_of (layout_at b) q) ys (receives_view b) (receives_view c)) h.queue
            (k.receives (subst (λ (q : QueueId). 0 < q.capacity) (sym h.queue) some))));
        delivers = delivers_then (expected_at a) (expected_at b) (expected_at c) xs ys ds es h.delivers k.delivers;
      }
