-- What a step owes with one thing to tell it owes with all that follows from it.
use Rattle.history.proofs.Names.{ℕ, [], slice_set, set-set, subst, Ask, Want, Kind, Coding, Owes, OwesAsk}
use Rattle.atomic_table.specs.Table.{State}
use Rattle.atomic_table.specs.Table as table
use Rattle.steps.specs.declared.ask.Want.TheVariants as wants
use Rattle.history.specs.declared.view.View.{View}
use Rattle.history.specs.History.{IsMachine}

-- a seat with the view v that owes a step, on a table that is a machine, and what the step has to tell
pub record Owing {T : Type 0} (code : Coding T) (kind : Kind) : Type 1 where
  pub key : ℕ  -- of the table
  pub words : ℕ
  pub slots : ℕ
  pub id : ℕ  -- of the seat
  pub v : View T
  pub told : View T → ℕ → View T → Type 0

module _ {T : Type 0} {code : Coding T} {kind : Kind} (owing : Owing code kind) (more : View T → ℕ → View T → Type 0) where
  open owing use {key, words, slots, id, v, told}

  -- a step at a word tells what follows from what it tells
  pub word_owes : (ask : Ask) → OwesAsk (λ (z : View T). z.asked) (IsMachine code kind key) words slots id told ask.word ask.op (v, [])
      → ((n : ℕ) (w : View T) → told v n w → more v n w)
      → OwesAsk (λ (z : View T). z.asked) (IsMachine code kind key) words slots id more ask.word ask.op (v, [])
  word_owes ask owes tells = (
    owes.0,
    λ s r long at small. (
        let (w, act, valid, holds, (told_so, counts, carried)) = owes.1 s r long at small in
        (w, act, valid, holds, (tells _ w told_so, counts, carried))),
  )

  -- whatever the call wants, its step tells what follows from what it tells
  pub owes_more : (want : Want (Unit {0})) → Owes (λ (z : View T). z.asked) (IsMachine code kind key) words slots id told want (v, [])
      → ((n : ℕ) (w : View T) → told v n w → more v n w)
      → Owes (λ (z : View T). z.asked) (IsMachine code kind key) words slots id more want (v, [])
  owes_more (wants.Ask ask) owes tells = word_owes ask owes tells
  owes_more (wants.Question q) owes tells = tells 0 v owes
  owes_more wants.Nothing owes tells = tells 0 v owes

-- what a step leaves of a table with a seat's view put to it first is what it leaves of the table: the step puts the view again
pub holds_put : {V : Type 0} (holds : State (Unit {0}) V → Type 0) (s : State (Unit {0}) V) (id : ℕ) (u w : V) (word n : ℕ) (act : table.Act (Unit {0}))
    → holds (table.stepped (record { words = s.words; homes = s.homes; views = slice_set s.views id u }) word n id [] w act)
    → holds (table.stepped s word n id [] w act)
holds_put holds s id u w word n act =
    subst (λ vs. holds (record { words = slice_set s.words word n; homes = table.homes_after s.homes [] act; views = vs })) (set-set s.views id u w)
