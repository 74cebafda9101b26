-- For clients: what each call adds to what a pass has sent and received.
use Rattle.lock_free_queues.proofs.Names.{◌≡◌, inl, inr, ℕ, ◌+◌, ◌<◌, ◌≤◌, true, Option, List, []}
use Rattle.lock_free_queues.proofs.Names.{◌∷◌, ◌++◌, length, map, get_or, take, refl, sym, ap, subst, ◌∙◌, arith}
use Rattle.lock_free_queues.proofs.Names.{append-nil, append_assoc, flat_map, flat_map-append, Role, Event, Item}
use Rattle.lock_free_queues.proofs.Names.{publishes, hands_out, published, handed_out, View, IsBeginning, Goes}
use Rattle.std.proofs.Common.{length-append}
use Rattle.std.proofs.lemmas.List.{take_all, take_more}
use mathlib.Core.List.{map-append}
use Rattle.lock_free_queues.specs.Queues.Sent.{HasAppended, HasSent, HasReceived}
use Rattle.lock_free_queues.specs.Queues.Sums.{HasDone}
use Rattle.lock_free_queues.specs.Queues.Contracts.{PushDone, PushRefused, PopDone, PopEmpty}
use Rattle.lock_free_queues.specs.Queues.Contracts.{HasPeeked, HasAcquired, HasReleased}
use Rattle.lock_free_queues.proofs.Queues.Sums.{done_pushed, done_refused, done_popped, done_none, done_peeked, done_acquired, done_released, done_then}

-- ---- a list that grows

-- A list of length 0 is empty.
none_there : {A : Type 0} (xs : List A) → length xs ≡ 0 → xs ≡ []
none_there [] length_is_zero = refl
none_there (x ∷ xs) length_is_zero = absurd (omega arith)

-- As many items as values: the names of a list are as many as the list.
pub length_named : {A B : Type 0} (named : A → B) (xs : List A) → length (map named xs) ≡ length xs
length_named named [] = refl
length_named named (x ∷ xs) = omega (arith, length_named named xs)

module _ {T V : Type 0} (tells : Event T → List (Item T)) (named : V → Item T) where
  -- a call that publishes and takes out nothing itself adds no value to the list
  pub appended_none : (v w : View T) → IsBeginning v.seen w.seen → w.share ≡ v.share → HasDone 0 0 v w → HasAppended tells named [] 0 0 v w
  appended_none v w begins share done =
      record {
        others = flat_map tells begins.rest;
        list =
            ap (flat_map tells) begins.is
            ∙ (flat_map-append tells v.seen begins.rest ∙ sym (append-nil (flat_map tells v.seen ++ flat_map tells begins.rest)));
        done = done;
        share = share;
      }

-- from v to w the pass has added xs, as k says; in each lemma it goes on from w to a view u
module _ {T V : Type 0} {tells : Event T → List (Item T)} {named : V → Item T} {xs : List V} {put got : ℕ} {v w : View T}
    (k : HasAppended tells named xs put got v w) where
  -- a call that ends the list with one value's item adds this value, and its own counts
  pub appended_more : {u : View T} → u.share ≡ w.share → (x : V) {p g : ℕ} → HasDone p g w u → flat_map tells u.seen ≡ flat_map tells w.seen ++ named x ∷ []
      → HasAppended tells named (xs ++ x ∷ []) (put + p) (got + g) v u
  appended_more {u} share x {p} {g} done is =
      record {
        others = k.others;
        list = is
            ∙ (ap (λ ys. ys ++ named x ∷ []) k.list
            ∙ (append_assoc (flat_map tells v.seen ++ k.others) (map named xs) (named x ∷ [])
            ∙ ap (λ ys. (flat_map tells v.seen ++ k.others) ++ ys) (sym (map-append named xs (x ∷ [])))));
        done = done_then put got p g v w u k.done done;
        share = share ∙ k.share;
      }

  -- a call that leaves the list as it was, and publishes and takes out nothing itself, leaves what was added
  pub appended_same : {u : View T} → u.share ≡ w.share → HasDone 0 0 w u → flat_map tells u.seen ≡ flat_map tells w.seen
      → HasAppended tells named xs put got v u
  appended_same share done is =
      let a = k.done in
      record {
        others = k.others;
        list = is ∙ k.list;
        done =
            record {
              puts_more = omega (arith, a.puts_more, done.puts_more);
              gets_more = omega (arith, a.gets_more, done.gets_more);
            };
        share = share ∙ k.share;
      }

  -- nothing else was told where the list is no longer
  pub only_these : {seen : List (Event T)} → flat_map tells v.seen ≡ [] → IsBeginning w.seen seen → length (flat_map tells seen) ≡ length xs
      → flat_map tells seen ≡ map named xs
  only_these {seen} fresh begins long =
      let rest : List (Item T) = flat_map tells begins.rest in
      let list : flat_map tells seen ≡ (k.others ++ map named xs) ++ rest =
      ap (flat_map tells) begins.is
      ∙ (flat_map-append tells w.seen begins.rest
      ∙ ap (λ ys. ys ++ rest) (k.list ∙ ap (λ ys. (ys ++ k.others) ++ map named xs) fresh)) in
      let size = ap length list in
      let one = length-append (k.others ++ map named xs) rest in
      let two = length-append k.others (map named xs) in
      let same = length_named named xs in
      let no_others : k.others ≡ [] = none_there k.others (omega arith) in
      let no_rest : rest ≡ [] = none_there rest (omega arith) in
      list ∙ (ap (λ ys. (k.others ++ map named xs) ++ ys) no_rest
      ∙ (append-nil (k.others ++ map named xs) ∙ ap (λ ys. ys ++ map named xs) no_others))

-- ---- who pushes

-- A push that was refused published nothing.
none_published : {T : Type 0} (capacity : ℕ) (item : Item T) (was new : View T) → PushRefused capacity item was new
    → published new.seen ≡ published was.seen
none_published capacity item was new (inl h) = h.1.list
none_published capacity item was new (inr h) = h.list

module _ {T V : Type 0} {named : V → Item T} where
  -- An acquire of the role sends no value.
  pub sent_none : {role : Role} {old new : View T} → Goes old new → HasAcquired role true old new → HasSent named [] old new
  sent_none {role} {old} {new} goes acquired = appended_none publishes named old new goes.since goes.share (done_acquired old new role true acquired)

  -- a push that was taken adds its value to those that were sent
  pub sent_one : {old was new : View T} (values : List V) (value : V) → HasSent named values old was
      → Goes was new → PushDone (named value) was new → HasSent named (values ++ value ∷ []) old new
  sent_one {old} {was} {new} values value sent goes push_done =
      subst (λ n. HasAppended publishes named (values ++ value ∷ []) n 0 old new) (sym (length-append values (value ∷ [])))
      (appended_more sent goes.share value
      (done_pushed was new (named value) push_done.0) push_done.1.list)

  -- A push of the next value of a list makes the values that were sent one longer, still a
  -- beginning of the list.
  pub sent_next : {old was new : View T} (all : List V) (n : ℕ) (default : V) → HasSent named (take n all) old was
      → n < length all → Goes was new → PushDone (named (get_or all n default)) was new
      → HasSent named (take (n + 1) all) old new
  sent_next {old} {was} {new} all n default sent below goes push_done =
      subst (λ xs. HasSent named xs old new) (sym (take_more all n default below))
      (sent_one {old = old} {was = was} {new = new} (take n all) (get_or all n default) sent goes push_done)

  -- A push that was refused leaves the values that were sent as they were.
  pub sent_refused : {old was new : View T} {values : List V} {room : ℕ} {item : Item T} → HasSent named values old was
      → Goes was new → PushRefused room item was new → HasSent named values old new
  sent_refused {old} {was} {new} {values} {room} {item} sent goes push_refused =
      appended_same sent goes.share (done_refused was new item room push_refused)
      (none_published room item was new push_refused)

  -- The release of the role leaves the values that were sent as they were.
  pub sent_done : {role : Role} {old was new : View T} {values : List V} → HasSent named values old was → Goes was new
      → HasReleased role was new → published new.seen ≡ published was.seen → HasSent named values old new
  sent_done {role} {old} {was} {new} {values} sent goes released is =
      appended_same sent goes.share (done_released was new role released) is

  -- Once the role is given back behind the last value of a list, the pass has sent the whole list.
  pub sent_all : {role : Role} {old was new : View T} (all : List V) (n : ℕ) → HasSent named (take n all) old was → length all ≤ n
      → Goes was new → HasReleased role was new → published new.seen ≡ published was.seen → HasSent named all old new
  sent_all {role} {old} {was} {new} all n sent past goes released is =
      subst (λ xs. HasSent named xs old new) (take_all n all past)
      (sent_done {role = role} {old = old} {was = was} {new = new} {values = take n all} sent goes released is)

  -- ---- who pops

  -- An acquire of the role receives no value.
  pub received_none : {role : Role} {old new : View T} {values : List V} → values ≡ [] → Goes old new
      → HasAcquired role true old new → HasReceived named values old new
  received_none {role} {old} {new} is goes acquired =
      subst (λ xs. HasReceived named xs old new) (sym is)
      (appended_none hands_out named old new goes.since goes.share (done_acquired old new role true acquired))

  -- after a pop of one more value, the received values are the old ones with this one behind them
  pub received_one : {old was new : View T} (values : List V) (value : V) → HasReceived named values old was → Goes was new
      → PopDone (named value) was new → HasReceived named (values ++ value ∷ []) old new
  received_one {old} {was} {new} values value received goes pop_done =
      subst (λ n. HasAppended hands_out named (values ++ value ∷ []) 0 n old new) (sym (length-append values (value ∷ [])))
      (appended_more received goes.share value
      (done_popped was new (named value) pop_done.0) pop_done.1.list)

  -- A pop that took a value makes the values that were received a list that has this value at its end.
  pub received_next : {old was new : View T} (values more : List V) (value : V) → HasReceived named values old was
      → Goes was new → PopDone (named value) was new
      → more ≡ values ++ value ∷ [] → HasReceived named more old new
  received_next {old} {was} {new} values more value received goes pop_done is =
      subst (λ xs. HasReceived named xs old new) (sym is)
      (received_one {old = old} {was = was} {new = new} values value received goes pop_done)

  -- A pop that found the queue empty leaves the values that were received as they were.
  pub received_still : {old was new : View T} {values : List V} → HasReceived named values old was → Goes was new
      → PopEmpty was new → HasReceived named values old new
  received_still {old} {was} {new} {values} received goes pop_empty =
      appended_same received goes.share (done_none was new pop_empty.0) pop_empty.1.list

  -- A peek leaves the values that were received as they were.
  pub received_peeked : {old was new : View T} {values : List V} (answer : Option (Item T)) → HasReceived named values old was → Goes was new
      → HasPeeked answer was new → HasReceived named values old new
  received_peeked {old} {was} {new} {values} answer received goes peeked =
      appended_same received goes.share (done_peeked was new answer peeked) peeked.list

  -- The release of the role leaves the values that were received as they were.
  pub received_done : {role : Role} {old was new : View T} {values : List V} → HasReceived named values old was → Goes was new
      → HasReleased role was new → handed_out new.seen ≡ handed_out was.seen → HasReceived named values old new
  received_done {role} {old} {was} {new} {values} received goes released is =
      appended_same received goes.share (done_released was new role released) is
