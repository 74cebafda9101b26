-- What the events tell of the two queues, and of the indices that wait in them; and what the events of a
-- turn add to it.
use Rattle.laws_loan.proofs.Names.{◌≡◌, ℕ, Bool, false, List, [], ◌∷◌, ◌++◌, map, take, fold, refl, sym, ap, subst}
use Rattle.laws_loan.proofs.Names.{◌∙◌, append-nil, append_assoc, flat_map-append, Event, Item, Index, gives_back}
use Rattle.laws_loan.proofs.Names.{takes_back, given_back, taken_back, reclaims_after, queue_acts, as_queue}
use Rattle.laws_loan.proofs.Names.{queue_moments, overflowing_list, hands_out, handed_out, IsLegal, standing}
use Rattle.laws_loan.proofs.Names.{answers_from}
use Rattle.std.proofs.Common.{arith}
use Rattle.std.proofs.Common.{flat_map}
use Rattle.model.specs.Families.Queues.Reading.{publishes, published}
use Rattle.model.proofs.Replays.{calls_of, answers_of, standing_more, legal_more}

-- what goes into a list at its end, and what comes out at its front, before and after more events
module _ {A X : Type 0} (goes_in comes_out : A → List X) (events es : List A) (old new : List X) where
  -- what went in is what came out and what is left, with further events as well
  pub rest_more : flat_map goes_in events ≡ flat_map comes_out events ++ old → old ++ flat_map goes_in es ≡ flat_map comes_out es ++ new
      → flat_map goes_in (events ++ es) ≡ flat_map comes_out (events ++ es) ++ new
  rest_more = grind (arith, flat_map-append, append_assoc)

module _ {T : Type 0} where
  abbrev pub items : List ℕ → List (Item T)
  items xs = map Index xs

  -- whether a reclaim is under way after these events
  abbrev pub is_reclaiming : List (Event T) → Bool
  is_reclaiming events = fold reclaims_after false events

  -- the calls on the queue in two lists of events, one behind the other, are those of the first and then
  -- those of the second, which goes on where the first ended
  as_queue_more : (b : Bool) (xs ys : List (Event T)) → as_queue b (xs ++ ys) ≡ as_queue b xs ++ as_queue (fold reclaims_after b xs) ys
  as_queue_more b [] ys = refl
  as_queue_more b (x ∷ xs) ys =
      ap (λ l. queue_acts b x ++ l) (as_queue_more (reclaims_after b x) xs ys)
      ∙ sym (append_assoc (queue_acts b x) (as_queue (reclaims_after b x) xs) (as_queue (fold reclaims_after (reclaims_after b x) xs) ys))

  -- the moments of the queue go on with those of further events
  moments_more : (events es : List (Event T)) → queue_moments (events ++ es) ≡ queue_moments events ++ as_queue (is_reclaiming events) es
  moments_more events es = as_queue_more false events es

  -- what the events tell of a channel: `queue` is the capacity of its submission queue, `sent` waits in that,
  -- and `back` in the completion queue
  pub record Told (queue : ℕ) (sent back : List ℕ) (events : List (Event T)) : Type 0 where
    pub book : published events ≡ handed_out events ++ items sent
    pub given : given_back events ≡ taken_back events ++ back
    pub stand : standing (overflowing_list queue) (queue_moments events) ≡ items (take queue sent)
    pub legal : IsLegal (overflowing_list queue) (queue_moments events)

  -- what the events `es` of a turn tell of the two queues, where `sent` and `back` wait before them, and
  -- `sent'` and `back'` after them; `reclaims` is whether a reclaim was under way
  pub record Tells (queue : ℕ) (reclaims : Bool) (sent sent' back back' : List ℕ) (es : List (Event T)) : Type 0 where
    pub book : items sent ++ published es ≡ handed_out es ++ items sent'
    pub given : back ++ given_back es ≡ taken_back es ++ back'
    pub goes : fold (overflowing_list queue).after (items (take queue sent)) (calls_of (as_queue reclaims es)) ≡ items (take queue sent')
    pub answers : answers_from (overflowing_list queue) (items (take queue sent)) (calls_of (as_queue reclaims es)) ≡ answers_of (as_queue reclaims es)

  -- `events` tell of the queues before a turn, and `es` are the events of the turn
  module _ {queue : ℕ} {sent sent' back back' : List ℕ} {events es : List (Event T)} where
    -- what the events tell of the channel, with those of one turn more
    pub told_more : Told queue sent back events → Tells queue (is_reclaiming events) sent sent' back back' es → Told queue sent' back' (events ++ es)
    told_more told tells =
        let more = moments_more events es in
        record {
          book = rest_more publishes hands_out events es (items sent) (items sent') told.book tells.book;
          given = rest_more gives_back takes_back events es back back' told.given tells.given;
          stand =
              ap (standing (overflowing_list queue)) more
              ∙ standing_more (overflowing_list queue) (queue_moments events) (as_queue (is_reclaiming events) es)
              (items (take queue sent)) (items (take queue sent')) told.stand tells.goes;
          legal =
              subst (IsLegal (overflowing_list queue)) (sym more)
              (legal_more (overflowing_list queue) (queue_moments events) (as_queue (is_reclaiming events) es)
              (items (take queue sent)) told.legal told.stand tells.answers);
        }

-- events that tell nothing of the submission queue tell what `Tells` asks, where they tell it of the
-- completion queue
pub silent_tells : {T : Type 0} {queue : ℕ} {reclaims : Bool} {sent back back' : List ℕ} (es : List (Event T))
    → published es ≡ [] → handed_out es ≡ [] → as_queue reclaims es ≡ []
    → back ++ given_back es ≡ taken_back es ++ back' → Tells queue reclaims sent sent back back' es
silent_tells = grind (arith, items, append-nil)
