-- What a turn does to the elements (`KeepsElements`), by what it changes: nothing of them; the number of
-- changes; a word of an element, by a party that writes there; or the number of an element, where a
-- value is placed or hidden.
use Rattle.laws_container.proofs.Names.{◌≡◌, ◌≢◌, inl, ℕ, ◌+◌, ◌%◌, ◌<◌, ◌≤◌, Bool, true, false, Option, Some}
use Rattle.laws_container.proofs.Names.{is_some, List, ◌++◌, length, get_or, set, fold, sym, ap, subst, ◌∙◌, arith}
use Rattle.laws_container.proofs.Names.{get_or-set_other, length-set, fold-append, change_word, count_word}
use Rattle.laws_container.proofs.Names.{element_word, one_more, Event, Start, Party, WasAlone, contents_after}
use Rattle.laws_container.proofs.Names.{contents_of, announced_after, announced_of, filled_of, party_of, put}
use Rattle.laws_container.proofs.Names.{doing_of, flight_of, Open, span_of, IsShut, others_begin_none, party_put_same}
use Rattle.laws_container.proofs.Names.{party_put_other, AreOwn, is_gone}
use Rattle.laws_container.proofs.Alone.{alone_less, others_shut}
use Rattle.laws_container.proofs.Contents.{IsWhole, Writing, WordsShow, stands_on, store_whole}
use Rattle.laws_container.proofs.Core.{count_at, change_at, counts_stay, data_stay, count_set, count_stays}
use Rattle.laws_container.proofs.Core.{data_all_stay, change_set, changes_no_count, changes_no_datum}
use Rattle.laws_container.proofs.Invariant.{Scene, Inv, Elements, KeepsElements, before, after}
use Rattle.laws_container.proofs.Left.{left_after, left_of}
use Rattle.laws_container.proofs.Terms.{Keeps}
use Rattle.laws_container.proofs.Turns.{Owing, owes, Now, WellFormed, count_in, datum_in, change_in}
use Rattle.laws_container.proofs.Writers.{IsWriter}

module _ {T : Type 0} (scene : Scene T) where
  -- a raise that the party of the scene owed to the changes it owes still, where its call is now `y`
  abbrev pub OwesStill : Party T → Type 0
  OwesStill y =
      owes (flight_of (doing_of (party_of scene.party scene.latest))) ≡ true → owes (flight_of (Some y.doing)) ≡ true

  -- The turn of the scene, in a machine that keeps the invariant, leaves the words `words'` and the call `y` of its party, and
  -- writes the events `es`. The run was well-formed before the turn if it is after it, so what the invariant says of well-formed runs holds.
  pub record Turn (words' : List ℕ) (y : Party T) (es : List (Event T)) : Type 0 where
    pub inv : Inv scene
    pub well_formed : WellFormed (after scene words' y es) → WellFormed (before scene)

module _ {T : Type 0} {scene : Scene T} {words' : List ℕ} {y : Party T} {es : List (Event T)} (turn : Turn scene words' y es) where
  open turn use {inv, well_formed}
  open scene use {coding as code, capacity as c, party as p, turns as turns, latest as latest, events as events}

  abbrev ws : List ℕ
  ws = scene.words

  abbrev m : Now T
  m = before scene

  abbrev m' : Now T
  m' = after scene words' y es

  e : Elements code c m scene.states turns
  e = inv.elements

  -- where a raise is owed before the turn, one is owed after it, if the party still owes its own
  owing_still : OwesStill scene y → Owing latest → Owing (put p y latest)
  owing_still still o =
      let here = party_put_same p y latest in let there = party_put_other o.party p y latest in grind arith

  -- after the turn the party owes the changes a raise
  owing_now : owes (flight_of (Some y.doing)) ≡ true → Owing (put p y latest)
  owing_now is = record { party = p; is = ap (λ x. owes (flight_of (doing_of x))) (party_put_same p y latest) ∙ is }

  -- the events change nothing of what stands, of what is announced and of what is left
  pub record LeavesReadings : Type 0 where
    pub contents : (i : ℕ) → contents_of i (events ++ es) ≡ contents_of i events
    pub announced : (i : ℕ) → announced_of i (events ++ es) ≡ announced_of i events
    pub left : (i : ℕ) → left_of i events ≡ true → left_of i (events ++ es) ≡ true
    -- it frees no index where another party writes
    pub spares : WellFormed m' → (q : ℕ) → q ≢ p → (i o : ℕ) → is_gone scene.terms.by o events ≡ false
        → IsWriter q i o events → left_of i events ≡ false → left_of i (events ++ es) ≡ false

  -- events that change no reading of the elements are calm
  pub reads_same : ((i : ℕ) (o : Option T) → fold (contents_after i) o es ≡ o) → ((i : ℕ) (b : Bool) → fold (announced_after i) b es ≡ b)
      → ((i : ℕ) (b : Bool) → fold (left_after i) b es ≡ b) → LeavesReadings
  reads_same = grind (arith, fold-append, false, left_after)

  -- where numbers, words and contents stay, the words still say what stands
  still_stands : ((i : ℕ) → i < c → count_in code c m' i ≡ count_in code c m i)
      → ((i : ℕ) → i < c → (j : ℕ) → j < code.size → datum_in code c m' i j ≡ datum_in code c m i j)
      → ((i : ℕ) → contents_of i (events ++ es) ≡ contents_of i events) → WellFormed m' → IsWhole code c words' (events ++ es)
  still_stands = grind (arith, stands_on)

  -- ---- a turn that leaves the words of the elements and the number of changes

  -- all words behind the counter and the cells stay, and the events of the turn are calm
  module _ (rest : (n : ℕ) → 1 + c ≤ n → get_or words' n 0 ≡ get_or ws n 0) (wide : length words' ≡ length ws)
      (calm : LeavesReadings) (still : OwesStill scene y) where
    same_count : (i : ℕ) → i < c → count_in code c m' i ≡ count_in code c m i
    same_count i low = rest (count_word c i) (omega arith)

    same_datum : (i j : ℕ) → datum_in code c m' i j ≡ datum_in code c m i j
    same_datum i j = rest (element_word c code.size i j) (omega arith)

    same_change : change_in code c m' ≡ change_in code c m
    same_change = rest (change_word c) (omega arith)

    -- a turn that leaves the words of the elements, and whose events are calm, leaves the
    -- elements as a turn must
    pub calmly : KeepsElements scene words' y es
    calmly =
        record {
          passes =
              let count = same_count in let datum = same_datum in let change = same_change in let owing = owing_still still in grind arith;
          leaves = λ q ne.
              record {
                under = λ holds i o low lives mine even. (same_count i low, λ j js. same_datum i j);
                over = λ holds i o low lives mine. inl (same_count i low);
                placed = λ holds i o low lives mine fresh some. (calm.spares holds q ne i o lives mine fresh, ap is_some (calm.contents i) ∙ some);
                alone = λ was i low. same_count i low;
              };
          wide = wide;
          counts = λ kept i low. let same = same_count i low in let few = e.counts kept i low in omega arith;
          change = λ kept. let same = same_change in let few = e.change kept in omega arith;
          within = λ i value is. e.within i value (sym (calm.contents i) ∙ is);
          announced = λ holds i said. ap is_some (calm.contents i) ∙ e.announced (well_formed holds) i (sym (calm.announced i) ∙ said);
          whole = still_stands same_count (λ i low j js. same_datum i j) calm.contents;
        }

  -- ---- a turn that raises the number of changes

  -- the turn raises the number of changes, and its events announce only what stands
  module _ (new : words' ≡ set ws (change_word c) (one_more (change_in code c m))) (contents : (i : ℕ) → contents_of i (events ++ es) ≡ contents_of i events)
      (left : (i : ℕ) → left_of i (events ++ es) ≡ left_of i events)
      (says : WellFormed m' → (i : ℕ) → announced_of i (events ++ es) ≡ true → is_some (contents_of i events) ≡ true) where
    within_words : change_word c < length ws
    within_words = let wide = e.wide in omega arith

    raised : change_in code c m' ≡ one_more (change_in code c m)
    raised = ap (change_at c) new ∙ change_set c code.size ws (one_more (change_in code c m)) within_words

    raised_few : Keeps scene.terms → change_in code c m' ≡ change_in code c m + 1
    raised_few = grind (arith, raised)

    count_as_it_was : (i : ℕ) → count_in code c m' i ≡ count_in code c m i
    count_as_it_was i = ap (λ w. count_at c w i) new ∙ changes_no_count c code.size ws (one_more (change_in code c m)) i

    datum_as_it_was : (i j : ℕ) → datum_in code c m' i j ≡ datum_in code c m i j
    datum_as_it_was = grind (arith, changes_no_datum, one_more)

    -- a turn that raises the number of changes, and announces only what stands, leaves the
    -- elements as a turn must
    pub counts_change : KeepsElements scene words' y es
    counts_change = grind (arith, count_as_it_was, datum_as_it_was, raised, raised_few, length, length-set, one_more, is_some, still_stands)

  -- ---- a turn that stores a word of an element, by the party that writes there

  -- the turn stores word `k` of `value` at index `i`, where its party writes and has stored the words before
  module _ {i : ℕ} (below : i < c) {k : ℕ} (ks : k < code.size) {value : T} (owner : ℕ)
      (mine : WellFormed m → IsWriter p i owner events) (writing : WellFormed m → Writing code c ws i value k)
      (new : words' ≡ set ws (element_word c code.size i k) (get_or (code.words_of value) k 0)) (calm : LeavesReadings) (still : OwesStill scene y) where
    count_kept : (a : ℕ) → a < c → count_in code c m' a ≡ count_in code c m a
    count_kept a low = ap (λ w. count_at c w a) new ∙ counts_stay c code.size ws i k _ a low

    datum_kept : (a j : ℕ) → a ≢ i → j < code.size → datum_in code c m' a j ≡ datum_in code c m a j
    datum_kept = grind (arith, data_stay)

    change_kept : change_in code c m' ≡ change_in code c m
    change_kept = grind (arith, get_or-set_other)

    -- what stands under an odd number is not at the index where the party writes
    elsewhere : WellFormed m' → (a : ℕ) → count_in code c m a % 2 ≡ 1 → a ≢ i
    elsewhere holds a odd same = grind arith

    -- what another party writes is at another index
    not_theirs : WellFormed m' → (q : ℕ) → q ≢ p → (a o : ℕ) → IsWriter q a o events → a ≢ i
    not_theirs holds q ne a o theirs same = grind arith

    -- a turn that stores a word of a value, by a party that may write there, leaves the
    -- elements as a turn must
    pub stores : KeepsElements scene words' y es
    stores =
        record {
          passes =
              let count = count_kept in
              let datum = datum_kept in
              let change = change_kept in
              let there = elsewhere in
              let owing = owing_still still in
              grind arith;
          leaves = λ q ne.
              record {
                under = λ holds a o low lives theirs even. (count_kept a low, λ j js. datum_kept a j (not_theirs holds q ne a o theirs) js);
                over = λ holds a o low lives theirs. inl (count_kept a low);
                placed = λ holds a o low lives theirs fresh some. (calm.spares holds q ne a o lives theirs fresh, ap is_some (calm.contents a) ∙ some);
                alone = λ was a low. count_kept a low;
              };
          wide = ap length new ∙ length-set ws (element_word c code.size i k) _;
          counts = λ kept a low. let same = count_kept a low in let few = e.counts kept a low in omega arith;
          change = λ kept. let same = change_kept in let few = e.change kept in omega arith;
          within = λ a v is. e.within a v (sym (calm.contents a) ∙ is);
          announced = λ holds a said. ap is_some (calm.contents a) ∙ e.announced (well_formed holds) a (sym (calm.announced a) ∙ said);
          whole = λ holds a low.
              let h = well_formed holds in
              let all : IsWhole code c words' events =
              subst (λ w. IsWhole code c w events) (sym new)
              (store_whole code c ws events (e.whole h) e.wide i below ks (writing h)) in
              subst (WordsShow code c words' a) (sym (calm.contents a)) (all a low);
        }

  -- ---- a turn that raises the number of an element

  -- the turn raises the number of the element at index `i` by one, and its party owes the
  -- changes a raise after it
  module _ {i : ℕ} (below : i < c) (new : words' ≡ set ws (count_word c i) (one_more (count_in code c m i)))
      (own : AreOwn p es) {start : Start T} {wrote : List (Event T)} (open_now : span_of p events ≡ Open start wrote)
      (owed : owes (flight_of (Some y.doing)) ≡ true) where
    count_here : count_in code c m' i ≡ one_more (count_in code c m i)
    count_here = grind (arith, count_at, count_set, one_more)

    count_few : Keeps scene.terms → count_in code c m' i ≡ count_in code c m i + 1
    count_few = grind (arith, count_here)

    count_there : (a : ℕ) → a ≢ i → count_in code c m' a ≡ count_in code c m a
    count_there a ne = ap (λ w. count_at c w a) new ∙ count_stays c code.size ws i (one_more (count_in code c m i)) a ne

    datum_all : (a j : ℕ) → datum_in code c m' a j ≡ datum_in code c m a j
    datum_all = grind (arith, data_all_stay, one_more)

    change_same : change_in code c m' ≡ change_in code c m
    change_same = grind (arith, get_or-set_other)

    -- where a number has stayed, the index is not `i`
    moved : (a : ℕ) → count_in code c m' a ≡ count_in code c m a → a ≢ i
    moved a is same = let by_count_here = count_here in grind arith

    -- while another party's call was alone, this party could not take the turn
    not_alone : {A : Type 0} → (q : ℕ) → q ≢ p → WasAlone q (events ++ es) → A
    not_alone q ne was =
        absurd (subst IsShut open_now (others_shut q p events (λ e. ne (sym e)) (alone_less q events es (others_begin_none q p es ne own) was)))

    -- what the events of the turn say, where it raises the number at index `i`: of what stands, is announced
    -- and is left, at `i` and elsewhere; and that no other party was writing there
    pub record IsCounted : Type 0 where
      -- at other indices nothing changes of what stands and of what is left, and nothing is announced anew
      pub contents : (a : ℕ) → a ≢ i → contents_of a (events ++ es) ≡ contents_of a events
      pub announced : WellFormed m' → (a : ℕ) → announced_of a (events ++ es) ≡ true → (a ≢ i) × (announced_of a events ≡ true)
      pub left : (a : ℕ) → a ≢ i → left_of a (events ++ es) ≡ left_of a events
      -- no other party was writing at `i`; and a value does not stand there both before and after the turn
      pub placed : WellFormed m' → (q : ℕ) → q ≢ p → (o : ℕ) → IsWriter q i o events → left_of i events ≡ false → is_some (contents_of i events) ≡ true → ⊥
      pub stood : WellFormed m' → is_some (contents_of i events) ≡ true → is_some (contents_of i (events ++ es)) ≡ true → ⊥
      pub under : WellFormed m' → (q : ℕ) → q ≢ p → (a o : ℕ) → IsWriter q a o events → count_in code c m a % 2 ≡ 0 → a ≢ i
      pub over : WellFormed m' → (q : ℕ) → q ≢ p → (o : ℕ) → IsWriter q i o events → one_more (count_in code c m i) % 2 ≡ 0
      -- an owner who is gone may lose what stands at his index; and the words say what stands
      pub lost : WellFormed m' → (o : ℕ) → is_gone scene.terms.by o events ≡ true → filled_of i events ≡ Some o → count_in code c m i % 2 ≡ 1
      pub whole : WellFormed m' → IsWhole code c words' (events ++ es)

    -- a turn that raises the number of an element, where the events are as `IsCounted` says, leaves the
    -- elements as a turn must
    pub counts_one : IsCounted → KeepsElements scene words' y es
    counts_one counted =
        record {
          passes =
              let here = count_here in
              let by_one = count_few in
              let there = count_there in
              let datum = datum_all in
              let change = change_same in
              let elsewhere = moved in
              let owing = owing_now owed in
              grind arith;
          leaves = λ q ne.
              record {
                under = λ holds a o low lives theirs even. (count_there a (counted.under holds q ne a o theirs even), λ j js. datum_all a j);
                over = λ holds a o low lives theirs. let here = count_here in let there = count_there a in grind (arith, counted.over holds q ne o);
                placed =
                    λ holds a o low lives theirs fresh some. let here = counted.placed holds q ne o in
                    let left = counted.left a in let same = counted.contents a in grind arith;
                alone = λ was a low. not_alone q ne was;
              };
          wide = ap length new ∙ length-set ws (count_word c i) _;
          counts = λ kept a low. let here = count_few kept in let few = e.counts kept in let there = count_there a in grind arith;
          change = λ kept. let same = change_same in let few = e.change kept in omega arith;
          within = λ a v is. let was = e.within a v in let there = counted.contents a in grind arith;
          announced = λ holds a said. let k = counted.announced holds a said in ap is_some (counted.contents a k.0) ∙ e.announced (well_formed holds) a k.1;
          whole = counted.whole;
        }
