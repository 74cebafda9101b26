-- For clients of the overflowing queue: that what was pushed is a merge of what the pops took out and of what the pushes did, once the passes are joined.
use Rattle.std.proofs.Common.{◌≡◌, inl, inr, ℕ, suc, ◌+◌, ◌-◌, ◌^◌, ◌<◌, ◌≤◌, Bool, true, false, true≢false}
use Rattle.std.proofs.Common.{if◌then◌else◌, List, [], ◌∷◌, ◌++◌, length, map, sym, refl, ap, subst, ◌∙◌, arith}
use Rattle.std.proofs.Common.{length-append, sum_by}
use mathlib.Core.List.{map-append}
use Rattle.lock_free_queues.proofs.Names.{sum_by-append, Event, HandedOut, Acted, events_by, View, IsBeginning, IsAll, Item}
use Rattle.lock_free_queues.proofs.Names.{Index, Role, Queues, Pop, first_view, published, handed_out, MissesNothing}
use Rattle.threaded.specs.declared.share.Share.{Share}
use Rattle.threaded.specs.Shares.{all_shares, half_of, both_of}
use Rattle.lock_free_queues.specs.Queues.Merges.{Merges, StandIn, by_pop, by_push, taken, HasPushedAll, HasPushedUpTo}
use Rattle.lock_free_queues.specs.Queues.Merges.{HasTaken, HasDrained}
use Rattle.lock_free_queues.specs.Queues.Overflowing.{Goes}
use Rattle.lock_free_queues.specs.Queues.Sums.{puts, gets}
use Rattle.lock_free_queues.specs.Queues.Contracts.{HasAcquired, HasSplit, HasJoined}
use Rattle.history.proofs.Known.{begins_further}
use Rattle.lock_free_queues.proofs.Queues.Sent.{length_named, only_these}
use Rattle.lock_free_queues.proofs.Queues.Sums.{done_acquired, whole_counted}
use Rattle.lock_free_queues.proofs.Queues.TakenOut.{item, same_list, no_longer, grows, pop_lasts, push_lasts, seen_later}

-- ---- all that was taken out is a merge of both

-- Events that a pop acted in are not those of a push.
one_of_two : (es : List (Event ℕ)) → by_pop es ≡ true → by_push es ≡ false
one_of_two [] is_pop = refl
one_of_two (Acted p (Queues Pop) answer ∷ es) is_pop = refl
one_of_two (e ∷ es) is_pop = absurd (true≢false (sym is_pop))

-- Pops and pushes together have taken out at most what was handed out.
pub few_taken : (es : List (Event ℕ)) → length (taken by_pop es) + length (taken by_push es) ≤ length (handed_out es)
few_taken [] = omega arith
few_taken (HandedOut p x ∷ es) = go (by_pop (events_by p es)) (by_push (events_by p es)) refl refl (few_taken es)
  where
    -- with the next event, which takes out x, the pops and the pushes took out no more together than was taken out
    go : (a b : Bool) → by_pop (events_by p es) ≡ a → by_push (events_by p es) ≡ b
        → length (taken by_pop es) + length (taken by_push es) ≤ length (handed_out es)
        → length (if a then x ∷ taken by_pop es else taken by_pop es) + length (if b then x ∷ taken by_push es else taken by_push es)
        ≤ suc (length (handed_out es))
    go true true s t few = absurd (true≢false (sym t ∙ one_of_two (events_by p es) s))
    go true false s t few = omega arith
    go false true s t few = omega arith
    go false false s t few = omega arith
few_taken (e ∷ es) = few_taken es

-- If pops and pushes together have taken out all that was handed out, that list is a merge of what each
-- of both took out.
pub merged : (es : List (Event ℕ)) → length (taken by_pop es) + length (taken by_push es) ≡ length (handed_out es)
    → Merges (taken by_pop es) (taken by_push es) (handed_out es)
merged [] e = (refl, refl)
merged (HandedOut p x ∷ es) e = go (by_pop (events_by p es)) (by_push (events_by p es)) refl refl (few_taken es) (λ k. merged es k) e
  where
    pops : List (Item ℕ)
    pops = taken by_pop es

    pushes : List (Item ℕ)
    pushes = taken by_push es

    -- with the next event, which takes out x, what was taken out is a merge of what pops and of
    -- what pushes took out, if both together took out all of it
    go : (a b : Bool) → by_pop (events_by p es) ≡ a → by_push (events_by p es) ≡ b
        → length pops + length pushes ≤ length (handed_out es)
        → (length pops + length pushes ≡ length (handed_out es) → Merges pops pushes (handed_out es))
        → length (if a then x ∷ pops else pops) + length (if b then x ∷ pushes else pushes) ≡ suc (length (handed_out es))
        → Merges (if a then x ∷ pops else pops) (if b then x ∷ pushes else pushes) (x ∷ handed_out es)
    go true true s t few later k = absurd (true≢false (sym t ∙ one_of_two (events_by p es) s))
    go true false s t few later k = inl (pops, refl, later (omega arith))
    go false true s t few later k = inr (pushes, refl, later (omega arith))
    go false false s t few later k = absurd (omega arith)
merged (e ∷ es) k = merged es k

-- Only the empty list of numbers gives the empty list of items.
none_of : (xs : List ℕ) → map item xs ≡ [] → xs ≡ []
none_of [] no_items = refl
none_of (x ∷ xs) no_items = absurd (cc)

-- where a list of numbers as items begins with the item of z, the list of numbers begins with z
first_of_items : (xs : List ℕ) (z : ℕ) (rest : List (Item ℕ)) → map item xs ≡ item z ∷ rest → (ws : List ℕ) × (xs ≡ z ∷ ws) × (rest ≡ map item ws)
first_of_items [] z rest e = absurd (cc)
first_of_items (x ∷ xs) z rest e =
    let here : item x ≡ item z = cc in
    let same : x ≡ z = cc in
    let more : map item xs ≡ rest = cc in
    (xs, ap (λ w. w ∷ xs) same, sym more)

-- a merge of lists of numbers as items is one of the numbers
pub numbers_merge : (xs ys zs : List ℕ) → Merges (map item xs) (map item ys) (map item zs) → Merges xs ys zs
numbers_merge xs ys [] merges = (none_of xs merges.0, none_of ys merges.1)
numbers_merge xs ys (z ∷ zs) (inl h) =
    let first_item = first_of_items xs z h.0 h.1 in
    inl (first_item.0, first_item.1, numbers_merge first_item.0 ys zs (subst (λ rest. Merges rest (map item ys) (map item zs)) first_item.2 h.2))
numbers_merge xs ys (z ∷ zs) (inr h) =
    let first_item = first_of_items ys z h.0 h.1 in
    inr (first_item.0, first_item.1, numbers_merge xs first_item.0 zs (subst (λ rest. Merges (map item xs) rest (map item zs)) first_item.2 h.2))

-- ---- both joined, and what waited is popped

-- The first pass v of a queue of capacity n is split into left and right. With left all numbers
-- are pushed, which hand back the numbers back, with right those of came are popped; both are
-- joined to z, and with k, which has the consumer's role, what waits is popped, which leaves u.
module _ (n : ℕ) (role : Role) (all back came new : List ℕ) (v left right a b z k u : View ℕ)
    (fits : length all < 2 ^ 64 - 1) (opens : v ≡ first_view n) (cut : HasSplit v left right)
    (s : HasPushedUpTo all back left a) (r : HasTaken came right b) (h : HasJoined a b z) (none : MissesNothing z)
    (goes : Goes z k) (acquired : HasAcquired role true z k) (drain : HasDrained came new k u) where
  -- the pass that takes the consumer's role after both were joined has the whole share
  whole : IsAll k.share
  whole =
      let start : v.share ≡ all_shares = ap (λ (t : View ℕ). t.share) opens in
      subst IsAll (sym (goes.share ∙ (h.share ∙ ap (λ (t : Share × Share). both_of t.0 t.1) (λ i. (
        (s.share ∙ (cut.share ∙ ap half_of start)) i,
        (r.share ∙ (cut.right_share ∙ ap half_of start)) i,
      ))))) refl

  -- At the end the pass has the whole share.
  whole_there : IsAll u.share
  whole_there = subst IsAll (sym drain.popped.share) whole

  -- So all that was published and handed out it made itself.
  counted : (length (published u.seen) ≡ sum_by puts u.made) × (length (handed_out u.seen) ≡ sum_by gets u.made)
  counted = whole_counted u whole_there (drain.popped.all goes.all)

  -- The half that pushed began with an empty history.
  fresh_left : left.seen ≡ []
  fresh_left = cut.seen ∙ ap (λ (t : View ℕ). t.seen) opens

  -- What the half that pushed had seen is the beginning of what is seen in the end.
  since : IsBeginning a.seen u.seen
  since = begins_further _ _ _ (begins_further _ _ _ h.ours goes.since) drain.popped.since

  -- how much was pushed, and taken out
  puts_all : sum_by puts u.made ≡ sum_by puts a.made
  puts_all =
      let both : sum_by puts z.made ≡ sum_by puts a.made + sum_by puts b.made = ap (sum_by puts) h.made ∙ sum_by-append puts a.made b.made in
      let theirs : sum_by puts right.made ≡ 0 = ap (sum_by puts) cut.right_made in
      omega (arith, drain.popped.done.puts_more, (done_acquired z k role true acquired).puts_more, r.done.puts_more)

  -- The half that pushed had pushed nothing before.
  mine : sum_by puts left.made ≡ 0
  mine = ap (sum_by puts) cut.made ∙ ap (λ (t : View ℕ). sum_by puts t.made) opens

  -- It has pushed all numbers of the list, as they are fewer than positions.
  pushed : HasPushedAll all back left a
  pushed = s.all (let low = seen_later a u since in omega (arith, counted.0, s.few, puts_all, mine))

  -- What was published in the end are the numbers of the list.
  all_published : published u.seen ≡ map Index all
  all_published =
      only_these pushed.added (ap published fresh_left) since
      (omega (arith, counted.0, puts_all, mine, pushed.added.done.puts_more))

  -- All that was published was handed out.
  emptied : handed_out u.seen ≡ published u.seen
  emptied = drain.emptied whole goes.all

  -- in the end as many numbers were taken out as the pushes handed back and the pops took
  gets_all : length (handed_out u.seen) ≡ length back + (length came + length drain.more)
  gets_all =
      let size = counted.1 in
      let both : sum_by gets z.made ≡ sum_by gets a.made + sum_by gets b.made = ap (sum_by gets) h.made ∙ sum_by-append gets a.made b.made in
      let ours : sum_by gets left.made ≡ 0 = ap (sum_by gets) cut.made ∙ ap (λ (t : View ℕ). sum_by gets t.made) opens in
      let theirs : sum_by gets right.made ≡ 0 = ap (sum_by gets) cut.right_made in
      omega (arith, drain.popped.done.gets_more, (done_acquired z k role true acquired).gets_more, pushed.added.done.gets_more, r.done.gets_more)

  -- what each had stands in what its calls took out
  in_pushes : StandIn (map Index back) (taken by_push u.seen)
  in_pushes =
      subst (λ es. StandIn (map Index back) (taken by_push es)) (sym since.is)
      (grows by_push push_lasts (map Index back) a.seen since.rest (pushed.returned [] tt))

  -- the numbers that were popped, before and after both were joined, stand in their order in what pops took out
  in_pops : StandIn (map Index came ++ map Index drain.more) (taken by_pop u.seen)
  in_pops =
      let on = begins_further _ _ _ h.others goes.since in
      drain.popped.popped (map Index came)
      (subst (λ es. StandIn (map Index came) (taken by_pop es)) (sym on.is)
      (grows by_pop pop_lasts (map Index came) b.seen on.rest (r.popped [] tt)))

  -- a list of numbers has as many items as numbers
  sizes : (length (map {B = Item ℕ} Index back) ≡ length back)
      × (length (map {B = Item ℕ} Index came ++ map Index drain.more) ≡ length came + length drain.more)
  sizes = (
    length_named item back,
    (omega (arith, length-append (map {B = Item ℕ} Index came) (map Index drain.more), length_named item came, length_named item drain.more)),
  )

  -- the numbers that pushes handed back are all that pushes took out
  all_pushes : map Index back ≡ taken by_push u.seen
  all_pushes =
      same_list (map Index back) (taken by_push u.seen) in_pushes
      (let low = no_longer _ _ in_pops in
      let few = few_taken u.seen in
      let all = gets_all in
      omega (arith, sizes.0, sizes.1))

  -- the numbers that were popped, before and after both were joined, are all that pops took out
  all_pops : map Index came ++ map Index drain.more ≡ taken by_pop u.seen
  all_pops =
      same_list (map Index came ++ map Index drain.more) (taken by_pop u.seen) in_pops
      (let low = no_longer _ _ in_pushes in
      let few = few_taken u.seen in
      let all = gets_all in
      omega (arith, sizes.0, sizes.1))

  -- what was pushed is a merge of what came and what was handed back
  pub overflowed : Merges new back all
  overflowed =
      let both =
      merged u.seen (let all = gets_all in
      omega (arith, sizes.0, sizes.1, ap length all_pops, ap length all_pushes)) in
      let pops : taken by_pop u.seen ≡ map item new = sym all_pops ∙ (sym (map-append Index came drain.more) ∙ ap (map item) (sym drain.numbers)) in
      numbers_merge new back all
      (subst (λ zs. Merges (map item new) (map item back) zs) (emptied ∙ all_published)
      (subst (λ ys. Merges (map item new) ys (handed_out u.seen)) (sym all_pushes)
      (subst (λ xs. Merges xs (taken by_push u.seen) (handed_out u.seen)) pops both)))
