-- A look of a state keeps the rule of a container at each of its stages.
use Rattle.lock_free_owners.proofs.Names.{◌≡◌, ℕ, ◌+◌, ◌<◌, ◌≤◌, nat_lt, Bool, false, List, [], slice_index_or}
use Rattle.lock_free_owners.proofs.Names.{refl, sym, subst, ◌∙◌, arith, nat_tests, written, by_test, by_eq, After}
use Rattle.lock_free_owners.proofs.Names.{Done, change_word, count_word, element_word, total_words, is_even}
use Rattle.lock_free_owners.proofs.Names.{Numbers, Showing, at_look, look_asks, look_want, look_comes_to, look_finds}
use Rattle.lock_free_owners.proofs.Names.{look_takes, look_after, look_kept, Owes, KeepsRule, View, IsMachine, Coding, Allows, moves}
use Rattle.steps.specs.declared.ask.Op.TheVariants as ops
use Rattle.steps.specs.declared.container.look.Look.{Look}
use Rattle.steps.specs.declared.container.look.LookStage as looks
use Rattle.threaded.specs.Driver.{Told}
use Rattle.model.specs.declared.turn.Kind.TheVariants as kinds
use Rattle.lock_free_owners.specs.Container.Bare.{Still, LookStage, LookStands, LookEnds}
use Rattle.lock_free_owners.proofs.Rules.Container.Bare.{Stays, one_more, counted_on, counted_one, still_tells, leaves, unchanged}
use Rattle.lock_free_owners.proofs.Rules.Container.Places.{change_fits, count_fits, element_fits}

-- A look updates a state that the pass has not, by steps of a seat at a container's table.
record LookStep (T : Type 0) : Type 0 where
  -- how a value is coded in words, how one is read from them, and how many they are
  code : Coding T
  value_of : List ℕ → T
  size : ℕ
  some_words : 1 ≤ size
  -- the numbers that the state has seen, what the pass knows, the look, and what the state shows
  seen : Numbers
  v : View T
  c : Look T
  same : c.capacity ≡ v.capacity
  room : Showing T
  -- the container's capacity, the words and slots of its table, and the number of the seat
  cap : ℕ
  words : ℕ
  slots : ℕ
  id : ℕ
  sized : words ≡ total_words cap size + 1
  known : v.capacity ≡ cap

module _ {T : Type 0} (step : LookStep T) where
  open step use {code, value_of, size, some_words, seen, v, c, same, room, cap, words, slots, id, sized, known}

  -- The look after a number that it hears.
  abbrev after : Look T → ℕ → After (Look T) Bool
  after d k = look_after size d seen k

  -- a look that goes on, or ends, leaves what the seat knows
  abbrev Here : After (Look T) Bool → Type 0
  Here = Stays {C = Look T} {E = Bool} {M = Showing T} (LookStands size) LookEnds v

  -- what a step of this look tells
  abbrev Says : View T → ℕ → View T → Type 0
  Says = Told (λ (z : View T). z.capacity) (Still (LookStands size)) LookEnds after (look_kept value_of size) c room

  -- What holds of the look after the number is what a step tells.
  says : (k : ℕ) → Here (after c k) → Says v k (one_more v)
  says = still_tells (LookStands size) LookEnds v (λ base e n same h. counted_on base v same) after (look_kept value_of size) c room

  -- The rule allows an operation that leaves each word unchanged, where the look goes on by it as `Here` says.
  word_kept : (word : ℕ) (f : ℕ → ℕ) → ((k : ℕ) → f k ≡ k) → ((k : ℕ) → Here (after c k))
      → Allows (IsMachine code kinds.Container cap) slots id (v, []) word f (λ found new. moves (λ (z : View T). z.asked) Says (v, []) found new)
  word_kept word f same_word goes_on = leaves code cap slots id v word f same_word Says (λ k. says k (goes_on k))

  -- The table has the words of a container and one more.
  full : words ≡ total_words c.capacity size + 1
  full = subst (λ z. words ≡ total_words z size + 1) (sym (same ∙ known)) sized

  -- the next element, or the end
  comes : (index : ℕ) → Here (look_comes_to c index)
  comes index = grind (arith, by_test, nat_lt, at_look, nat_tests)

  -- A look that finds a number of an element stands at a stage that there is.
  finds : (index count : ℕ) → index < v.capacity → Here (look_finds c index count)
  finds index count index_below_capacity = grind (arith, by_test, is_even, look_comes_to, at_look, comes)

  -- at each of its stages the step of a look of a state that the pass has not keeps the rule, and
  -- leaves what is known
  stage_owes : (stage : looks.LookStage) → ((k : ℕ) → look_takes size c stage seen k ≡ look_after size c seen k) → LookStage size v stage
      → Owes (λ (z : View T). z.asked) (IsMachine code kinds.Container cap) words slots id Says (look_asks size c.capacity stage) (v, [])
  stage_owes looks.TheVariants.LoadsChange is at = (
    change_fits c.capacity size words full,
    word_kept (change_word c.capacity) (λ x. x) (λ k. refl)
        (λ k. subst Here (is k)
        (by_eq Here k seen.change (Done false) (look_comes_to c 0) (λ e n. counted_one v) (λ ne. comes 0))),
  )
  stage_owes (looks.TheVariants.LoadsCount index) is at = (
    count_fits c.capacity size words full index (let l = at in omega arith),
    word_kept (count_word c.capacity index) (λ x. x) (λ k. refl)
        (λ k. subst Here (is k)
        (by_eq Here k (slice_index_or seen.counts index 0) (look_comes_to c (index + 1)) (look_finds c index k) (λ e. comes (index + 1))
        (λ ne. finds index k at))),
  )
  stage_owes (looks.TheVariants.LoadsWord index count place) is at = (
    element_fits c.capacity size words full index place (let l = at.0 in omega arith) at.1,
    word_kept (element_word c.capacity size index place) (λ x. x) (λ k. refl)
        (λ k. subst Here (is k)
        (by_test Here (nat_lt (place + 1) size) (at_look c (looks.TheVariants.LoadsWord index count (place + 1)))
        (at_look c (looks.TheVariants.ChecksCount index count))
        (λ t n. (counted_one v, (same, (at.0, (let l : place + 1 < size = grind (arith, nat_tests) in l)))))
        (λ t n. (counted_one v, (same, at.0))))),
  )
  stage_owes (looks.TheVariants.ChecksCount index count) is at = (
    count_fits c.capacity size words full index (let l = at in omega arith),
    word_kept (count_word c.capacity index) (written (ops.Exchange count count)) (unchanged count)
        (λ k. subst Here (is k)
        (by_eq Here k count (look_comes_to c (index + 1)) (look_finds c index k) (λ e. comes (index + 1)) (λ ne. finds index k at))),
  )

-- each step of a look that leaves what is known keeps the rule of a container's table
pub state_rule : {T : Type 0} (code : Coding T) (value_of : List ℕ → T) (size : ℕ) → 1 ≤ size → (seen : Numbers)
    → KeepsRule (λ (z : View T). z.asked) (λ (z : View T). z.capacity) (Still (LookStands size)) LookEnds (λ key. total_words key size + 1) (λ key. key)
    (λ key. IsMachine code kinds.Container key) (λ (c : Look T). look_want size c) (λ c k. look_after size c seen k) (look_kept value_of size)
state_rule {T} code value_of size some_words seen base v c room key words slots id sized known at =
    let step : LookStep T =
    record {
      code = code;
      value_of = value_of;
      size = size;
      some_words = some_words;
      seen = seen;
      v = v;
      c = c;
      same = at.1.0;
      room = room;
      cap = key;
      words = words;
      slots = slots;
      id = id;
      sized = sized;
      known = known;
    }
    in
    stage_owes step c.stage (λ k. refl) at.1.1
