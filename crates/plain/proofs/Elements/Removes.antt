-- A remove from a container that runs alone: within how many steps it ends, and that it does to the words
-- what a remove does to the contents.
use Rattle.std.proofs.Common.{◌≡◌, ℕ, suc, ◌+◌, ◌<◌, ◌≤◌, ⊎_elim, true, false, nat_lt, List, take, None, Result, Ok}
use Rattle.std.proofs.Common.{Err, refl, sym, ap, subst, ◌∙◌, arith, slice_index, eq-eqb, if◌then◌else◌}
use Rattle.plain.proofs.Names.{cases_Bool, nat_tests, by_test, count_word, After, Done, ReleaseState}
use Rattle.plain.proofs.Names.{Unlocked, GiveBack, ContainerHandle}
use Rattle.steps.specs.Indices.Robust.Parts.{empty, one_more}
use Rattle.steps.specs.Indices.Robust.Release.{Released, first_release, release_takes, release_want, release_after}
use Rattle.steps.specs.Container.Remove.{Removed, first_remove, inner_release, remove_want, remove_released, remove_after}
use Rattle.steps.specs.Objects.Owners.{has, given_back, release_state, released, after_release}
use Rattle.steps.specs.declared.indices.enums.RobustUniqueIndexSetReleaseError.TheVariants.{IndexIsNotOwnedByProvidedOwner}
use Rattle.steps.specs.declared.container.enums.ContainerRemoveError.TheVariants.{ContainerHandleNotOwnedByContainer}
use Rattle.steps.specs.declared.container.remove.Remove.{Remove}
use Rattle.steps.specs.declared.container.remove.RemoveStage.{RemoveStage}
use Rattle.steps.specs.declared.container.remove.RemoveStage.TheVariants as removes
use Rattle.plain_queues.specs.Alone.{BehavesAs}
use Rattle.plain.specs.Robust as robust
use Rattle.plain.specs.Robust.{owners_in}
use Rattle.plain.specs.Contents.{Contents, changed, names, removed, after_remove, contents_in, Represents}
use Rattle.plain_queues.proofs.Alone.{Runs}
use Rattle.plain.proofs.Walks.{plus, plus_sum, WalksOn, OnEnd, part_walks, runs}
use Rattle.plain.proofs.Fronts.{Behind, stays, front_walks}
use Rattle.plain.proofs.Elements.Adds.{IsAnswer}
use Rattle.plain.proofs.Elements.Handles.{has_past, names_own}
use Rattle.plain.proofs.Elements.Sets.{ReleaseLow, release_goes_low, release_below, release_front}
use Rattle.plain.proofs.Elements.Values.{Codes, front_fits, behind_contents, behind_fits, hidden, hides, gone, after_change, change_fits, change_contents}

-- the state that a release has answered, or Unlocked
abbrev state_in : {B : Type 0} → Result ReleaseState B → ReleaseState
state_in (Ok state) = state
state_in (Err e) = Unlocked

module _ {V : Type 0} (codes : Codes V) (capacity container : ℕ) (given : GiveBack) where
  open codes use {value_of, size, wide}
  open given use {index, owner, mode}

  -- the handle of this index and owner
  abbrev handle : ContainerHandle
  handle = record { index = index; owner = owner; container = container }

  -- what a step of the remove has answered ends at once or within n steps more, and P holds of the answer and
  -- the last words
  abbrev RemoveEndsFrom : ℕ → (Removed → List ℕ → Type 0) → After Remove Removed → List ℕ → Type 0
  RemoveEndsFrom n P a words = WalksOn (λ c. remove_want c given) (λ c old. remove_after c given old) n (OnEnd P) a words

  -- the remove at this stage
  abbrev call : RemoveStage → Remove
  call stage = record { capacity = capacity; stage = stage }

  -- from these words the remove has done what a remove does to the contents, with this end
  -- and these last words
  abbrev pub Gone : List ℕ → Removed → List ℕ → Type 0
  Gone words end last =
      BehavesAs (Represents size capacity) (contents_in value_of size capacity container)
      (λ s. removed s handle mode) (λ s. after_remove s handle mode) words end last

  -- after its release the remove hides the value and counts the change
  hides_on : (P : Removed → List ℕ → Type 0) (state : ReleaseState) (ws : List ℕ) (fits : Represents size capacity ws) (near : index < capacity) (count : ℕ)
      → slice_index ws (count_word capacity index) ≡ count
      → P (Ok state) (after_change value_of fits index near wide (hidden value_of fits index near wide))
      → RemoveEndsFrom 2 P (remove_released (call removes.LoadsCount) count (Done (Ok state))) ws
  hides_on = grind (arith, one_more, by_test, eq-eqb)

  module _ (words : List ℕ) (fits : Represents size capacity words) (lives : owner < empty) where
    -- the contents before the remove
    abbrev old : Contents V
    old = contents_in value_of size capacity container words

    -- the number of the index before the remove
    abbrev count : ℕ
    count = slice_index words (count_word capacity index)

    -- the handle names a value where its index is its owner's
    own : names old handle ≡ has old.owners index owner
    own = names_own capacity size container value_of words index owner

    -- where the handle names no value, the error with the contents as they were is what a remove does
    refused : names old handle ≡ false → (last : List ℕ) → Represents size capacity last → contents_in value_of size capacity container last ≡ old
        → Gone words (Err ContainerHandleNotOwnedByContainer) last
    refused = grind (arith, given_back, changed)

    -- the release has done what a release does to the map of the set's words
    abbrev ReleaseBehaves : Released → List ℕ → Type 0
    ReleaseBehaves e last =
        BehavesAs (robust.Represents capacity) owners_in (λ s. released s index owner mode)
        (λ s. after_release s index owner mode) (take (1 + capacity) words) e last

    -- from this end of the release the remove goes on to an end of which `Gone` holds
    abbrev RemoveGoesOn : Released → List ℕ → Type 0
    RemoveGoesOn e last =
        RemoveEndsFrom 2 (Gone words) (remove_released (call removes.LoadsCount) count (Done e)) last

    -- From an end of the release the remove goes on: with a state it hides the value, and with an error it
    -- ends. The cases are what the release has answered, and whether the index is the owner's.
    so : index < capacity → (e : Released) (last : List ℕ) → Behind (1 + capacity) words last → ReleaseBehaves e (take (1 + capacity) last)
        → RemoveGoesOn e last
    so near (Ok state) last behind gave =
        let fits₂ = behind_fits value_of size capacity words last behind fits gave.0 in
        let there = hides value_of fits₂ index near wide in
        ⊎_elim
        -- the release gave the index back, and it was the owner's: the remove hides the value
        -- and counts the change
        (λ (t : has old.owners index owner ≡ true).
        let hit = own ∙ t in
        let state_is : state ≡ release_state mode (given_back mode old.owners index) =
        ap state_in (gave.1 ∙ ap (λ b. if b then Ok (release_state mode (given_back mode old.owners index)) else Err IndexIsNotOwnedByProvidedOwner) t) in
        let set : owners_in (take (1 + capacity) last) ≡ given_back mode old.owners index =
        gave.2 ∙ ap (λ b. if b then given_back mode old.owners index else old.owners) t in
        hides_on (Gone words) state last fits₂ near count (behind.same (count_word capacity index) (omega arith)) (
          change_fits value_of fits₂ index near wide there.writes,
          ap Ok state_is ∙ sym (ap (λ b. if b then Ok (release_state mode (given_back mode old.owners index)) else Err ContainerHandleNotOwnedByContainer) hit),
          change_contents value_of fits₂ index near wide container there.writes
              (gone value_of fits₂ index near wide there)
              ∙ (ap (λ s. changed s (owners_in (take (1 + capacity) last)) index None) (behind_contents value_of size capacity container words last behind)
              ∙ (ap (λ set. changed old set index None) set
              ∙ sym (ap (λ b. if b then changed old (given_back mode old.owners index) index None else old) hit))),
        ))
        -- the index was not the owner's: then the release cannot have given it back
        (λ (t : has old.owners index owner ≡ false).
        absurd (subst IsAnswer (gave.1
        ∙ ap (λ b. if b then Ok (release_state mode (given_back mode old.owners index)) else Err IndexIsNotOwnedByProvidedOwner) t)
        tt))
        (cases_Bool (has old.owners index owner))
    so near (Err failure) last behind gave =
        ⊎_elim
        -- the release failed and the index was the owner's: a release does not fail then
        (λ (t : has old.owners index owner ≡ true).
        absurd (subst IsAnswer (sym (gave.1
        ∙ ap (λ b. if b then Ok (release_state mode (given_back mode old.owners index)) else Err IndexIsNotOwnedByProvidedOwner) t))
        tt))
        -- the index was not the owner's: the remove is refused, and the contents stay
        (λ (t : has old.owners index owner ≡ false).
        let set : owners_in (take (1 + capacity) last) ≡ old.owners =
        gave.2 ∙ ap (λ b. if b then given_back mode old.owners index else old.owners) t in
        refused (own ∙ t) last (behind_fits value_of size capacity words last behind fits gave.0)
        (behind_contents value_of size capacity container words last behind ∙ ap (λ set. record old { owners = set }) set))
        (cases_Bool (has old.owners index owner))

    -- A remove that has taken no step does what a remove does to the contents. The cases are whether its
    -- index is below the capacity.
    pub remove_runs : Runs remove_want remove_after (λ c (room : Unit {0}) old. room) given
        (λ e room ws. Gone words e ws) (first_remove capacity index) tt words
    remove_runs =
        by_test (λ stage. Runs remove_want remove_after (λ c (room : Unit {0}) old. room) given
        (λ e room ws. Gone words e ws) (call stage) tt words) (nat_lt index capacity) _ _
        -- the index is one of the container: the remove loads its number and releases the index,
        -- and goes on from there
        (λ t. let near : index < capacity = grind (arith, nat_tests) in
        let a = release_front capacity index owner mode lives (take (1 + capacity) words) (front_fits value_of size capacity words fits) near in
        let bound = a.1 in
        runs (suc (plus a.0 2)) (Gone words) (omega (arith, plus_sum a.0 2))
        (part_walks
        (record {
          want = λ c. remove_want c given;
          after = λ c old. remove_after c given old;
          part_want = λ c. release_want c given;
          part_after = λ c old. release_after c given old;
          within = λ d. call (removes.Releases count d.stage);
          lift = remove_released (call removes.LoadsCount) count;
          Low = ReleaseLow capacity;
          low_on = release_goes_low capacity given;
          wants_so = λ d. refl;
          goes_so = λ d old low.
              ap (λ n. remove_released (call removes.LoadsCount) count (release_takes (inner_release n d.stage) d.stage given old)) (sym low.0);
          lifts = λ d. refl;
        })
        a.0 2 (OnEnd (Gone words)) (first_release capacity) words (refl, tt)
        (front_walks (λ c. release_want c given) (λ c old. release_after c given old) (1 + capacity) (ReleaseLow capacity)
        (release_below capacity given near) (release_goes_low capacity given) words ReleaseBehaves RemoveGoesOn (so near) a.0
        (first_release capacity) words (refl, tt) (stays (1 + capacity) words) a.2)))
        -- the index is not one of the container: the remove is refused in its first step
        (λ t. let far : capacity ≤ index = grind (arith, nat_tests) in
        runs 1 (Gone words) (omega arith)
        (refused (own ∙ has_past capacity (take (1 + capacity) words) (front_fits value_of size capacity words fits) index owner far) words fits refl))

  -- a remove, run alone, does what a remove does to the contents
  pub remove_at : {number : ℕ} → number ≡ owner → number < empty → {c : Remove} → c ≡ first_remove capacity index
      → {words : List ℕ} → Represents size capacity words
      → Runs remove_want remove_after (λ c (room : Unit {0}) old. room) given (λ e room ws. Gone words e ws) c tt words
  remove_at = grind (arith, remove_runs)
