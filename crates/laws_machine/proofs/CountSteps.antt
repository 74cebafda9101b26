-- What a step of a container's call does to the word that counts the changes: it goes up by 1 as a call
-- ends that has changed the container, and else it stays.
use Rattle.laws_machine.proofs.Names.{◌≡◌, ◌≢◌, ℕ, ◌<◌, Option, Some, None, List, refl, ap, arith}
use Rattle.laws_machine.proofs.Names.{Ask}
use Rattle.laws_machine.proofs.Names.{AcquireStage, Count, Lock, Raise, GiveBack, ReleaseStage, change_word}
use Rattle.laws_machine.proofs.Names.{acquire_asks, cell_word, empty, locked, one_more, raise_want, count_want}
use Rattle.laws_machine.proofs.Names.{lock_want, release_asks, Answer, Finished, Container, ContainerStart}
use Rattle.laws_machine.proofs.Names.{ask_of, SetAct, words_after, loads, exchanges, loads_same}
use Rattle.laws_machine.proofs.Names.{AcquireAt, change_at}
use Rattle.std.proofs.Common.{get_or-set_other}
use Rattle.steps.specs.Ask.{written}
use Rattle.steps.specs.declared.indices.robust.acquire.AcquireStage.TheVariants as acquires
use Rattle.steps.specs.declared.indices.robust.parts.Count.TheVariants as counts
use Rattle.steps.specs.declared.indices.robust.parts.Lock.TheVariants as locks
use Rattle.steps.specs.declared.indices.robust.parts.Raise.TheVariants as raises
use Rattle.steps.specs.declared.indices.robust.release.ReleaseStage.TheVariants as releases
use Rattle.laws_machine.specs.Changes.{change_in}

module _ {T : Type 0} where
  -- how many changes of the container the end of a call counts for, 0 or 1
  abbrev pub ends_count : ℕ → ContainerStart T → Option (Answer T) → ℕ
  ends_count p start None = 0
  ends_count p start (Some answer) = change_in (Finished p (Container start) answer)

-- `c` is the container's capacity, and `ws` are its words
module _ (c : ℕ) (ws : List ℕ) where
  -- the operation leaves the number of changes as it is
  abbrev pub IsCalm : Option Ask → Type 0
  IsCalm ask = change_at c (words_after ws ask) ≡ change_at c ws

  -- ---- operations that leave the number of changes

  -- an operation on a word other than the number of changes leaves that number
  pub calm_apart : (ask : Ask) → ask.word ≢ change_word c → IsCalm (Some ask)
  calm_apart = grind (arith, get_or-set_other, written)

  -- a load leaves the number of changes
  pub calm_load : (word : ℕ) → IsCalm (Some (loads word))
  calm_load word = ap (change_at c) (loads_same ws word)

  -- no operation of a raise changes the number of changes
  pub raise_calm : (raise : Raise) → IsCalm (ask_of (raise_want raise))
  raise_calm raises.LoadsCounter = calm_load 0
  raise_calm (raises.ExchangesCounter counter) = calm_apart (exchanges 0 counter (one_more counter)) (λ e. absurd (omega arith))

  -- no operation of a count changes it
  pub count_calm : (count : Count) → IsCalm (ask_of (count_want count))
  count_calm counts.LoadsCounter = calm_load 0
  count_calm (counts.LoadsCell counter index filled) = calm_load (cell_word index)
  count_calm (counts.ExchangesCounter counter filled) = calm_apart (exchanges 0 counter (one_more counter)) (λ e. absurd (omega arith))

  -- no operation of a lock changes it
  pub lock_calm : (lock : Lock) → IsCalm (ask_of (lock_want lock))
  lock_calm (locks.Counts count) = count_calm count
  lock_calm (locks.ExchangesCounter counter) = calm_apart (exchanges 0 counter locked) (λ e. absurd (omega arith))

  -- no operation of an acquire changes it
  pub acquire_calm : (all : List SetAct) (owner : ℕ) (stage : AcquireStage) → AcquireAt c owner all stage → IsCalm (ask_of (acquire_asks stage owner))
  acquire_calm all owner acquires.LoadsCounter at = calm_load 0
  acquire_calm all owner (acquires.FillsCell counter index) at = let below = at.0 in
      calm_apart (exchanges (cell_word index) empty owner) (λ e. absurd (omega arith))
  acquire_calm all owner (acquires.ChecksCounter counter) at = calm_apart (exchanges 0 counter counter) (λ e. absurd (omega arith))
  acquire_calm all owner (acquires.Raises index raise) at = raise_calm raise

  -- no operation of a release changes it
  pub release_calm : (given : GiveBack) (stage : ReleaseStage) → given.index < c → IsCalm (ask_of (release_asks stage given))
  release_calm given releases.EmptiesCell below = calm_apart (exchanges (cell_word given.index) given.owner empty) (λ e. absurd (omega arith))
  release_calm given (releases.Raises raise) below = raise_calm raise
  release_calm given (releases.Locks lock) below = lock_calm lock

-- A call none of whose answers counts for a change of the container ends without one.
pub silent : {T : Type 0} (p : ℕ) (start : ContainerStart T) → ((answer : Answer T) → change_in (Finished p (Container start) answer) ≡ 0)
    → (o : Option (Answer T)) → ends_count p start o ≡ 0
silent p start none None = refl
silent p start none (Some answer) = none answer
