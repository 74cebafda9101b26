-- What is read, one block after the other, and what is known of it in the end.
use Rattle.std.proofs.Common.{◌≡◌, ◌≢◌, ℕ, ◌<◌, ◌≤◌, true, List, [], ◌∷◌, ◌++◌, map, sym, ap, subst, append_assoc, append-nil, ◌∙◌, arith}
use Rattle.std.proofs.lemmas.List.Elements.{All-nil, All-cons, All-append}
use Rattle.std.specs.Prelude.{Some, slice_get}
use mathlib.Core.List.{map-append}
use Rattle.zero_copy_bus.specs.declared.publisher.Publisher.{Publisher}
use Rattle.zero_copy_bus.specs.declared.subscriber.Left.{Left}
use Rattle.zero_copy_bus.specs.declared.subscriber.Subscriber.{Subscriber}
use Rattle.zero_copy_bus.specs.Ends.{expected_at, lanes_of, layout_of, next_of, place_at, place_left, receives_left, receives_queue, HasHad, HasLeft, IsOfLane}
use Rattle.zero_copy_bus.specs.Outlets.{open_in, AllNew, AtLane, EachOther, WasRejoined}
use Rattle.zero_copy_bus.specs.Relays.{HasHeardAt, HasPublished, LanesPassOn}
use Rattle.zero_copy_bus.specs.Sequences.{Rises}
use Rattle.zero_copy_bus.proofs.Heard.{heard, heard_kept, lane_both, lane_differs, lane_first, lane_kept, lane_left, lane_next, lane_out}
use Rattle.zero_copy_bus.proofs.Heard.{HasLane, HasSubscribed}
use Rattle.zero_copy_bus.proofs.Received.{had_then}
use Rattle.zero_copy_bus.proofs.Rising.{delivers_rise}
use Rattle.zero_copy_slots.specs.declared.Keeps.{Ghosts}
use Rattle.uses_news.specs.Marks.{mark, AreNewsBy, AreNewsFrom, HasRead}

module _ {X K : Type 0} {rule : Ghosts K X} where
  pub reads_none : (xs came : List ℕ) (s t : Subscriber X K rule) → HasHad came [] s t → HasRead xs xs s t
  reads_none xs came s t had = record { came = came; numbers = []; had = had; are = sym (append-nil xs); few = All-nil (λ n. n < 100) }

  -- one is read and given back
  pub reads_one : (xs ys came : List ℕ) (n m : ℕ) (s t u : Subscriber X K rule) → ys ≡ xs ++ m ∷ [] → m ≡ mark n → n < 100
      → HasHad came (n ∷ []) s t → HasHad [] [] t u → HasRead xs ys s u
  reads_one xs ys came n m s t u is marked small had still =
      record {
        came = came ++ [];
        numbers = n ∷ [];
        had = had_then came [] (n ∷ []) [] s t u had still;
        are = is ∙ ap (λ k. xs ++ k ∷ []) marked;
        few = All-cons (λ k. k < 100) n [] small (All-nil (λ k. k < 100));
      }

  -- what is read by two calls, one after the other, is read by both
  pub reads_then : (xs ys zs : List ℕ) (s t u : Subscriber X K rule) → HasRead xs ys s t → HasRead ys zs t u → HasRead xs zs s u
  reads_then xs ys zs s t u h k =
      record {
        came = h.came ++ k.came;
        numbers = h.numbers ++ k.numbers;
        had = had_then h.came k.came h.numbers k.numbers s t u h.had k.had;
        are =
            k.are
            ∙ (ap (λ ws. ws ++ map mark k.numbers) h.are
            ∙ (append_assoc xs (map mark h.numbers) (map mark k.numbers) ∙ ap (λ ws. xs ++ ws) (sym (map-append mark h.numbers k.numbers))));
        few = All-append (λ n. n < 100) h.numbers k.numbers h.few k.few;
      }

  -- a subscriber that has read marks from the first number on has read the marks of rising numbers
  abbrev pub news : (xs : List ℕ) (first : ℕ) (s t : Subscriber X K rule) → expected_at s ≡ first → HasRead [] xs s t → AreNewsFrom first xs
  news xs first s t is h =
      record {
        numbers = h.numbers;
        next = expected_at t;
        are = h.are;
        rise = subst (λ n. Rises n h.numbers (expected_at t)) is (delivers_rise (expected_at s) (expected_at t) h.came h.numbers h.had.delivers);
        few = h.few;
      }

  -- two have subscribed, one after the other, and then records were published, and each of the two has read some
  pub record HasRun (xs ys : List ℕ) (p0 p1 p2 p3 : Publisher X K rule) (s u t w : Subscriber X K rule) : Type 0 where
    pub new : AllNew (lanes_of p0)
    pub one : HasSubscribed p0 p1 s
    pub two : HasSubscribed p1 p2 t
    pub on : slice_get (open_in (lanes_of p2)) (place_at s) ≡ Some true
    pub out : HasPublished p2 p3
    pub read_one : HasRead [] xs s u
    pub read_two : HasRead [] ys t w

  -- A whole run of the program: two subscribers, `s` and `t`, of one publisher, which have received `xs` and `ys` in the end.
  module _ (xs ys : List ℕ) (p0 p1 p2 p3 : Publisher X K rule) (s u t w : Subscriber X K rule) (h : HasRun xs ys p0 p1 p2 p3 s u t w) where
    -- the two have a lane each
    pub apart : place_at t ≢ place_at s
    apart = lane_differs (next_of p1) p1 p2 s t (lane_first p0 p1 s h.new h.one) h.two.leased

    pub first_lane : HasLane s (next_of p1) p3
    first_lane = lane_out (next_of p1) p2 p3 s (lane_both (next_of p1) p1 p2 s t (lane_first p0 p1 s h.new h.one) h.two h.on) h.out

    pub first_left : (left : Left) → HasLeft u left → IsOfLane left p3
    first_left left gone = lane_left (next_of p1) p3 s u left h.read_one.came h.read_one.numbers first_lane h.read_one.had gone

    -- what the first one had is taken in
    pub second_lane : (p4 : Publisher X K rule) (left : Left) → HasLeft u left
        → EachOther (place_left left) (λ old new. new ≡ old) (lanes_of p3) (lanes_of p4) → layout_of p4 ≡ layout_of p3 → next_of p4 ≡ next_of p3
        → HasLane t (next_of p2) p4
    second_lane p4 left gone others layout next =
        lane_kept (next_of p2) (place_left left) p3 p4 t (lane_out (next_of p2) p2 p3 t (lane_next p0 p1 p2 s t h.new h.one h.two) h.out)
        others
        (λ e. apart (e ∙ (gone.place ∙ h.read_one.had.place)))
        layout next

    pub second_left : (p4 : Publisher X K rule) (left : Left) → HasLane t (next_of p2) p4 → HasLeft w left → IsOfLane left p4
    second_left p4 left lane gone = lane_left (next_of p2) p4 t w left h.read_two.came h.read_two.numbers lane h.read_two.had gone

  -- and one of them has left
  pub are_news : LanesPassOn → (marks : List ℕ) (from : ℕ) (p q : Publisher X K rule) (s t : Subscriber X K rule) (left : Left)
      → HasLane s from p → from ≡ 0 → expected_at s ≡ from → HasRead [] marks s t → HasLeft t left
      → AtLane (place_left left) (WasRejoined (receives_left left)) (lanes_of p) (lanes_of q)
      → layout_of q ≡ layout_of p → next_of q ≡ next_of p
      → (receives_queue s).capacity ≢ 0 → next_of p ≤ 100 → AreNewsBy q (place_at s) marks
  are_news law marks from p q s t left lane zero first read gone taken layout next some hundred =
      record {
        news = news marks 0 s t (first ∙ zero) read;
        heard =
            subst (λ n. HasHeardAt q (place_at s) n read.numbers) zero
            (heard law from p q s t left read.came read.numbers lane first read.had gone taken layout next (omega arith) (omega arith));
      }

  -- and then another one
  pub news_kept : (but place : ℕ) (p q : Publisher X K rule) (marks : List ℕ) → AreNewsBy p place marks
      → EachOther but (λ old new. new ≡ old) (lanes_of p) (lanes_of q) → place ≢ but → layout_of q ≡ layout_of p → next_of q ≡ next_of p
      → AreNewsBy q place marks
  news_kept but place p q marks h others ne layout next =
      record { news = h.news; heard = heard_kept but place 0 p q h.news.numbers h.heard others ne layout next }
