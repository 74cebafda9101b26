-- What a call knows of an index that it will free, or has freed (`HiddenKnows`), it knows still after any
-- turn of another party.
use Rattle.std.proofs.Common.{arith}
use Rattle.laws_container.proofs.Names.{◌≡◌, ◌⊎◌, ⊎_elim, inl, inr, ℕ, ◌%◌, ◌<◌, Bool, false, true, Option, Some}
use Rattle.laws_container.proofs.Names.{None, is_some, List, ◌++◌, refl, ap, ◌∙◌, Event, Party, Coding}
use Rattle.laws_container.proofs.Names.{contents_of, EmptySinceFreed, Frees, settled_of, set_acts_of, IsOneOf}
use Rattle.laws_container.proofs.Names.{SinceBegin, held_now, held_later, is_gone, IsCalm, gone_less, stays_lost}
use Rattle.laws_container.proofs.Names.{Goes, Spares, since_less, IsBy}
use Rattle.laws_container.proofs.HiddenKnows.{RemoveCovers, RecoverCovers, StillStands, HasHidden}
use Rattle.laws_container.proofs.Turns.{Now, WellFormed, Passes, LeavesParty}

module _ {T : Type 0} where
  -- a value that is not there is none
  pub nothing_is : (o : Option T) → is_some o ≡ false → o ≡ None
  nothing_is None nothing = refl
  nothing_is (Some value) nothing = absurd (cc)

  -- where nothing stands now at an index that has been freed, nothing has stood there at a moment since
  pub empty_now : (p owner i index : ℕ) (events : List (Event T)) → IsOneOf (Frees i owner) (set_acts_of p events)
      → i ≡ index → contents_of index events ≡ None → EmptySinceFreed p owner i events
  empty_now = grind (arith, held_now)

-- A turn of another party than `q`, from the machine `m`: the words and calls that it leaves, the events that it writes, what it does
-- to the set and spares of it for `q`, and what it leaves of the elements to any party and to `q`.
pub record TurnOfAnother {T : Type 0} (code : Coding T) (c q : ℕ) (m : Now T) : Type 0 where
  pub words' : List ℕ
  pub latest' : List (ℕ × Party T)
  pub es : List (Event T)
  pub goes : Goes m.words words' m.events es
  pub spares : Spares m.terms.by q m.events es
  pub passes : Passes code c m (record { terms = m.terms; words = words'; latest = latest'; events = m.events ++ es })
  pub leaves : LeavesParty code c q m (record { terms = m.terms; words = words'; latest = latest'; events = m.events ++ es })

-- what party `q` knows in the machine `m` of an index below the capacity, after a turn of another party
module _ {T : Type 0} {code : Coding T} {c q : ℕ} {m : Now T} (turn : TurnOfAnother code c q m) (owner index count : ℕ) (below : index < c) where
  open turn use {words', latest', es, goes, spares, passes, leaves}

  abbrev m' : Now T
  m' = record { terms = m.terms; words = words'; latest = latest'; events = m.events ++ es }

  -- a number that covered what stands at the index, for a remove, covers it after the turn of another party
  pub remove_covers : (IsCalm m.terms.by m.events → is_gone m.terms.by owner m.events ≡ false
      → SinceBegin q (λ part since. settled_of index part ≡ Some owner) m.events → IsBy q index owner m.events)
      → RemoveCovers code c q owner index count m → RemoveCovers code c q owner index count m'
  remove_covers owns covered well_formed alive since =
      let before = passes.well_formed well_formed in
      let lives = gone_less m.terms.by owner m.events es alive in
      let began = since_less q (λ part. settled_of index part ≡ Some owner) m.events es spares.none since in
      let mine = owns before.calm lives began in
      ⊎_elim
      (λ is. ⊎_elim (λ same. inl (same ∙ is)) (λ even. inr even) (leaves.over well_formed index owner below lives (inl mine)))
      (λ even. inr (ap (λ n. n % 2) (leaves.under well_formed index owner below lives (inl mine) even).0 ∙ even))
      (covered before lives began)

  -- a number that covered what stands at the index, for a recovery, covers it after the turn of another party
  pub recover_covers : is_gone m.terms.by owner m.events ≡ true → RecoverCovers code c owner index count m → RecoverCovers code c owner index count m'
  recover_covers = grind (arith, stays_lost, inl, inr)

  -- what stood at the index under the loaded number stands there still, or is hidden now
  stands_on : WellFormed m' → (i : ℕ) → IsOneOf (Frees i owner) (set_acts_of q (m.events ++ es))
      → StillStands code c index count m i → (b : Bool) → is_some (contents_of index (m.events ++ es)) ≡ b
      → EmptySinceFreed q owner i (m.events ++ es) ⊎ StillStands code c index count m' i
  stands_on = grind (arith, inr, inl, empty_now, nothing_is)

  -- what a call has freed is hidden still, but for the index where the same value stands
  -- under the same number
  pub hidden_stands : HasHidden code c q owner (StillStands code c index count m) m → HasHidden code c q owner (StillStands code c index count m') m'
  hidden_stands = grind (arith, inl, held_later, stands_on, is_some)

module _ {T : Type 0} {code : Coding T} {c q : ℕ} {m : Now T} (turn : TurnOfAnother code c q m) (owner : ℕ) (But : ℕ → Type 0) where
  open turn use {words' as then_words, latest' as then_latest, es as wrote, spares as spares_it, passes as passes_it}

  -- what a call has freed is hidden still, with the same exempt indices
  pub hidden_later : HasHidden code c q owner But m
      → HasHidden code c q owner But (record { terms = m.terms; words = then_words; latest = then_latest; events = m.events ++ wrote })
  hidden_later = grind (arith, inl, held_later, inr)
