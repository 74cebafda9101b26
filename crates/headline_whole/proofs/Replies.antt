-- The calls of an object that put questions, as a course of a run.
use Rattle.std.proofs.Common.{◌≡◌, List, [], ◌∷◌, ◌++◌, fold, map, refl, sym, ap, ◌∙◌}
use Rattle.std.proofs.lemmas.List.{map-append}
use Rattle.std.proofs.lemmas.List.Sums.{fold-append}
use Rattle.headline_whole.specs.Dialogues.{Request, Reply, Dialogue, replies_from, RepliesAs, stands_after, as_request, as_reply}
use Rattle.headline_whole.proofs.Courses.{Course}

module _ {T State : Type 0} (D : Dialogue T State) where
  abbrev requests : List (Request T × Reply T) → List (Request T)
  requests calls = map (λ x. x.0) calls

  -- The replies of these calls, in order.
  abbrev replies : List (Request T × Reply T) → List (Reply T)
  replies calls = map (λ x. x.1) calls

  -- the replies in `calls` are those of the object, which is `object` after them
  pub record HasReplied (object : State) (calls : List (Request T × Reply T)) : Type 0 where
    pub legal : RepliesAs D calls
    pub stands : stands_after D calls ≡ object

  -- The replies to two lists of calls are those to the first, then those to the second from the
  -- state after the first.
  replies_more : (s : State) (calls more : List (Request T))
      → replies_from D s (calls ++ more) ≡ replies_from D s calls ++ replies_from D (fold D.after s calls) more
  replies_more s [] more = refl
  replies_more s (call ∷ calls) more = ap (λ (xs : List (Reply T)). D.reply s call ∷ xs) (replies_more (D.after s call) calls more)

  -- one more call that replies as the object does leaves the object as that call does
  pub once_more : (object : State) (calls : List (Request T × Reply T)) (request : Request T) (reply : Reply T) → reply ≡ D.reply object request
      → HasReplied object calls → HasReplied (D.after object request) (calls ++ (request, reply) ∷ [])
  once_more object calls request reply said replied =
      let asked : requests (calls ++ (request, reply) ∷ []) ≡ requests calls ++ request ∷ [] =
      map-append (λ (x : Request T × Reply T). x.0) calls ((request, reply) ∷ []) in
      let told : replies (calls ++ (request, reply) ∷ []) ≡ replies calls ++ reply ∷ [] =
      map-append (λ (x : Request T × Reply T). x.1) calls ((request, reply) ∷ []) in
      record {
        legal = ap (replies_from D D.opening) asked
            ∙ (replies_more D.opening (requests calls) (request ∷ [])
            ∙ ((λ i. replied.legal i ++ (ap (λ s. D.reply s request) replied.stands ∙ sym said) i ∷ []) ∙ sym told));
        stands = ap (fold D.after D.opening) asked
            ∙ (fold-append D.after D.opening (requests calls) (request ∷ []) ∙ ap (λ s. D.after s request) replied.stands);
      }

  -- a course in which each reply is what the object replies to the request
  abbrev pub course : Course T
  course =
      record {
        State = State;
        after = D.after;
        Says = λ s request reply. reply ≡ D.reply s request;
        HasAnswered = λ s events calls. HasReplied s calls;
        quiet = λ s events es calls none h. h;
        once = λ s events wrote calls p start told answer none said h.
            once_more s calls (as_request p start told) (as_reply told answer) said h;
      }
