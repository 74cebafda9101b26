-- What was received and what came back are a beginning of what was sent, once the views of both ends are joined.
use Rattle.std.proofs.Common.{◌≡◌, inl, inr, ℕ, zero, suc, ◌+◌, ◌-◌, ◌^◌, ◌<◌, ◌≤◌}
use Rattle.std.proofs.Common.{List, [], ◌∷◌, ◌++◌, length, map, take, sym, refl, ap, subst, ◌∙◌, arith}
use Rattle.std.proofs.Common.{length-append, append-nil, sum_by}
use Rattle.std.specs.List.{All, flat_map}
use Rattle.std.proofs.lemmas.List.{take-map}
use Rattle.std.proofs.lemmas.List.Elements.{All-nil, All-cons, All-head, All-tail}
use Rattle.std.proofs.lemmas.Grind.{flat_map-append}
use lib.Seq.{take-append_seam}
use mathlib.Core.List.{map-append}
use Rattle.model.specs.Coding.{one_word}
use Rattle.model.specs.declared.event.Item.TheVariants.{Index}
use Rattle.model.specs.declared.turn.Kind.TheVariants as kinds
use Rattle.model.specs.Families.Queues.Reading.{publishes, published, handed_out, waiting}
use Rattle.history.specs.declared.view.View.{View}
use Rattle.history.specs.History.{IsBeginning, IsHistory}
use Rattle.history.specs.Passes.{MissesNothing}
use Rattle.threaded.specs.Shares.{IsAll}
use Rattle.lock_free_queues.specs.Queues.Merges.{Merges, StandIn, by_pop, by_push, taken, HasPushedAll, HasPushedUpTo, HasTaken}
use Rattle.lock_free_queues.specs.Queues.Sums.{puts, gets}
use Rattle.lock_free_queues.proofs.Queues.Merging.{few_taken, merged, numbers_merge}
use Rattle.lock_free_queues.proofs.Queues.Promised.{over_sound}
use Rattle.lock_free_queues.proofs.Queues.Sent.{length_named}
use Rattle.lock_free_queues.proofs.Queues.Sums.{whole_counted}
use Rattle.zero_copy_loans.specs.Numbers.{HavePassed}
use Rattle.lock_free_queues.proofs.Queues.TakenOut.{item, same_list, no_longer, grows, pop_lasts, push_lasts, seen_later}

-- ---- merges

-- each element of the two is one of the third
pub merges_within : {A : Type 0} (P : A → Type 0) (xs ys zs : List A) → Merges xs ys zs → All P zs → All P xs
merges_within P xs ys [] merges all = subst (All P) (sym merges.0) (All-nil P)
merges_within P xs ys (z ∷ zs) (inl h) all =
    subst (All P) (sym h.1) (All-cons P z h.0 (All-head P z zs all) (merges_within P h.0 ys zs h.2 (All-tail P z zs all)))
merges_within P xs ys (z ∷ zs) (inr h) all = merges_within P xs h.0 zs h.2 (All-tail P z zs all)

-- what is a merge stays one, if each of the numbers is read in another way
pub merges_map : (f : ℕ → ℕ) (xs ys zs : List ℕ) → Merges xs ys zs → Merges (map f xs) (map f ys) (map f zs)
merges_map f xs ys [] merges = (ap (map f) merges.0, ap (map f) merges.1)
merges_map f xs ys (z ∷ zs) (inl h) = inl (map f h.0, ap (map f) h.1, merges_map f h.0 ys zs h.2)
merges_map f xs ys (z ∷ zs) (inr h) = inr (map f h.0, ap (map f) h.1, merges_map f xs h.0 zs h.2)

-- where nothing came back, what was received is all of it
pub merges_none : {A : Type 0} (xs zs : List A) → Merges xs [] zs → xs ≡ zs
merges_none xs [] merges = merges.0
merges_none xs (z ∷ zs) (inl h) = h.1 ∙ ap (λ ws. z ∷ ws) (merges_none h.0 zs h.2)
merges_none xs (z ∷ zs) (inr h) = (let none : [] ≡ z ∷ h.0 = h.1 in absurd (cc))

-- What holds of all of a list holds of its first `k`.
all_taken : {A : Type 0} (P : A → Type 0) (k : ℕ) (xs : List A) → All P xs → All P (take k xs)
all_taken P zero xs all = All-nil P
all_taken P (suc k) [] all = All-nil P
all_taken P (suc k) (x ∷ xs) all = All-cons P x (take k xs) (All-head P x xs all) (all_taken P k xs (All-tail P x xs all))

later_ones : {A : Type 0} (P : A → Type 0) (xs ys : List A) → All P (xs ++ ys) → All P ys
later_ones P [] ys all = all
later_ones P (x ∷ xs) ys all = later_ones P xs ys (All-tail P x (xs ++ ys) all)

stand_in_itself : {A : Type 0} (xs : List A) → StandIn xs xs
stand_in_itself [] = tt
stand_in_itself (x ∷ xs) = inl (refl, stand_in_itself xs)

no_more : {A : Type 0} (xs : List A) → length xs ≡ 0 → xs ≡ []
no_more [] length_is_zero = refl
no_more (x ∷ xs) length_is_zero = absurd (omega arith)

-- ---- both joined: `was` is what was known before, with the whole share

module _ (n : ℕ) (words words_back words_received all back came : List ℕ) (was left right a b z : View ℕ)
    (fits : length words + length all < 2 ^ 64 - 1) (known : HavePassed words words_back words_received was)
    (left_seen : left.seen ≡ was.seen) (right_seen : right.seen ≡ was.seen) (none_put : sum_by puts left.made ≡ 0) (none_got : sum_by gets left.made ≡ 0)
    (right_put : sum_by puts right.made ≡ 0) (right_got : sum_by gets right.made ≡ 0)
    (s : HasPushedUpTo all back left a) (r : HasTaken came right b)
    (since : IsBeginning a.seen z.seen) (on : IsBeginning b.seen z.seen)
    (puts_z : sum_by puts z.made ≡ sum_by puts was.made + (sum_by puts a.made + sum_by puts b.made))
    (gets_z : sum_by gets z.made ≡ sum_by gets was.made + (sum_by gets a.made + sum_by gets b.made))
    (whole : IsAll z.share) (none : MissesNothing z) (history : IsHistory one_word kinds.Overflow n z.seen) where
  counted : (length (published z.seen) ≡ sum_by puts z.made) × (length (handed_out z.seen) ≡ sum_by gets z.made)
  counted = whole_counted z whole none

  was_counted : (length (published was.seen) ≡ sum_by puts was.made) × (length (handed_out was.seen) ≡ sum_by gets was.made)
  was_counted = whole_counted was known.whole known.all

  -- what the whole has pushed is what was known before, and what the sender pushed
  puts_all : sum_by puts z.made ≡ length words + sum_by puts a.made
  puts_all =
      let before = ap length known.list ∙ length_named item words in
      let size = was_counted.0 in
      omega (arith, r.done.puts_more, puts_z, right_put)

  pushed : HasPushedAll all back left a
  pushed = s.all (let low = seen_later a z since in omega (arith, counted.0, s.few, puts_all, none_put))

  put_z : length (published z.seen) ≡ length words + length all
  put_z = omega (arith, counted.0, puts_all, none_put, pushed.added.done.puts_more)

  -- what was published: the words known before, others' words, the sender's words, and what came later
  parted : published z.seen ≡ ((map Index words ++ pushed.added.others) ++ map Index all) ++ flat_map publishes since.rest
  parted =
      ap published since.is
      ∙ (flat_map-append publishes a.seen since.rest
      ∙ ap (λ xs. xs ++ flat_map publishes since.rest)
      (pushed.added.list ∙ ap (λ xs. (xs ++ pushed.added.others) ++ map Index all) (ap published left_seen ∙ known.list)))

  -- the number of words published, as a sum of what was sent before, by others, by this sender and later
  sizes : length (published z.seen) ≡ ((length words + length pushed.added.others) + length all) + length (flat_map publishes since.rest)
  sizes =
      let one = ap length parted in
      let two = length-append ((map Index words ++ pushed.added.others) ++ map Index all) (flat_map publishes since.rest) in
      let three = length-append (map Index words ++ pushed.added.others) (map Index all) in
      let four = length-append (map Index words) pushed.added.others in
      omega (arith, length_named item words, length_named item all)

  no_others : pushed.added.others ≡ []
  no_others = no_more _ (omega (arith, sizes, put_z))

  nothing_later : flat_map publishes since.rest ≡ []
  nothing_later = no_more _ (omega (arith, sizes, put_z))

  -- what was published is what was known before, and all that the sender pushed
  all_published : published z.seen ≡ map Index (words ++ all)
  all_published =
      parted
      ∙ (ap (λ xs. ((map Index words ++ pushed.added.others) ++ map Index all) ++ xs) nothing_later
      ∙ (append-nil ((map Index words ++ pushed.added.others) ++ map Index all)
      ∙ (ap (λ xs. (map Index words ++ xs) ++ map Index all) no_others
      ∙ (ap (λ xs. xs ++ map Index all) (append-nil (map Index words)) ∙ sym (map-append Index words all)))))

  -- as many words were taken out as were received and came back
  gets_all : length (handed_out z.seen) ≡ length (words_received ++ came) + length (words_back ++ back)
  gets_all =
      let size = counted.1 in
      let ours = none_got in
      let theirs = right_got in
      let pushes = pushed.added.done.gets_more in
      let pops = r.done.gets_more in
      let before = was_counted.1 in
      let out = known.out in
      omega (arith, gets_z, length-append words_received came, length-append words_back back)

  -- what came back stands, in order, in what pushes took out
  in_pushes : StandIn (map item (words_back ++ back)) (taken by_push z.seen)
  in_pushes =
      let start : taken by_push left.seen ≡ map Index words_back = ap (taken by_push) left_seen ∙ known.pushes in
      let there : StandIn (map Index words_back ++ map Index back) (taken by_push a.seen) =
      pushed.returned (map Index words_back) (subst (λ xs. StandIn (map Index words_back) xs) (sym start) (stand_in_itself (map Index words_back))) in
      subst (λ es. StandIn (map item (words_back ++ back)) (taken by_push es)) (sym since.is)
      (grows by_push push_lasts (map item (words_back ++ back)) a.seen since.rest
      (subst (λ xs. StandIn xs (taken by_push a.seen)) (sym (map-append Index words_back back)) there))

  -- what was received stands, in order, in what pops took out
  in_pops : StandIn (map item (words_received ++ came)) (taken by_pop z.seen)
  in_pops =
      let start : taken by_pop right.seen ≡ map Index words_received = ap (taken by_pop) right_seen ∙ known.pops in
      let there : StandIn (map Index words_received ++ map Index came) (taken by_pop b.seen) =
      r.popped (map Index words_received) (subst (λ xs. StandIn (map Index words_received) xs) (sym start) (stand_in_itself (map Index words_received))) in
      subst (λ es. StandIn (map item (words_received ++ came)) (taken by_pop es)) (sym on.is)
      (grows by_pop pop_lasts (map item (words_received ++ came)) b.seen on.rest
      (subst (λ xs. StandIn xs (taken by_pop b.seen)) (sym (map-append Index words_received came)) there))

  -- what came back is all that pushes took out
  all_pushes : map item (words_back ++ back) ≡ taken by_push z.seen
  all_pushes =
      same_list (map item (words_back ++ back)) (taken by_push z.seen) in_pushes
      (let low = no_longer _ _ in_pops in
      let few = few_taken z.seen in
      let out = gets_all in
      omega (arith, length_named item (words_back ++ back), length_named item (words_received ++ came)))

  -- what was received is all that pops took out
  all_pops : map item (words_received ++ came) ≡ taken by_pop z.seen
  all_pops =
      same_list (map item (words_received ++ came)) (taken by_pop z.seen) in_pops
      (let low = no_longer _ _ in_pushes in
      let few = few_taken z.seen in
      let out = gets_all in
      omega (arith, length_named item (words_back ++ back), length_named item (words_received ++ came)))

  -- what was taken out is a merge of both
  both : Merges (map item (words_received ++ came)) (map item (words_back ++ back)) (handed_out z.seen)
  both =
      subst (λ ys. Merges (map item (words_received ++ came)) ys (handed_out z.seen)) (sym all_pushes)
      (subst (λ xs. Merges xs (taken by_push z.seen) (handed_out z.seen)) (sym all_pops)
      (merged z.seen (let out = gets_all in
      omega (arith, length_named item (words_back ++ back), length_named item (words_received ++ came), ap length all_pops, ap length all_pushes))))

  -- what was sent is what was taken out and what waits
  listed : map item (words ++ all) ≡ handed_out z.seen ++ waiting z.seen
  listed = sym all_published ∙ (over_sound one_word n z history).book z.seen [] (sym (append-nil z.seen))

  -- no more was received and came back than was sent
  few_out : length (words_received ++ came) + length (words_back ++ back) ≤ length (words ++ all)
  few_out = omega (arith, ap length listed ∙ length-append (handed_out z.seen) (waiting z.seen), gets_all, length_named item (words ++ all))

  abbrev first_ones : List ℕ
  first_ones = take (length (words_received ++ came) + length (words_back ++ back)) (words ++ all)

  -- what was taken out is a beginning of what was sent
  begins : handed_out z.seen ≡ map item first_ones
  begins =
      let size : length (handed_out z.seen) ≡ length (words_received ++ came) + length (words_back ++ back) = omega (arith, gets_all) in
      sym (take-append_seam (handed_out z.seen) (waiting z.seen))
      ∙ (ap (λ k. take k (handed_out z.seen ++ waiting z.seen)) size
      ∙ (ap (take (length (words_received ++ came) + length (words_back ++ back))) (sym listed)
      ∙ take-map item (length (words_received ++ came) + length (words_back ++ back)) (words ++ all)))

  merge : Merges (words_received ++ came) (words_back ++ back) first_ones
  merge =
      numbers_merge (words_received ++ came) (words_back ++ back) first_ones
      (subst (λ zs. Merges (map item (words_received ++ came)) (map item (words_back ++ back)) zs) begins both)

  -- all words have passed that were known before, or that both ends sent and received
  pub have_passed : HavePassed (words ++ all) (words_back ++ back) (words_received ++ came) z
  have_passed =
      record {
        whole = whole;
        all = none;
        list = all_published;
        pushes = sym all_pushes;
        pops = sym all_pops;
        out = gets_all;
        passed_on = record { few = few_out; merged = merge };
      }

  -- each word that was received is one that was sent
  pub came_of : (P : ℕ → Type 0) → All P (words ++ all) → All P came
  came_of P these =
      later_ones P words_received came
      (merges_within P _ _ _ merge (all_taken P (length (words_received ++ came) + length (words_back ++ back)) (words ++ all) these))
