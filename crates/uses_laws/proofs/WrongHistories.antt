-- For fields of the contracts between threads: to each a history that the field refuses.
use Rattle.std.proofs.Common.{◌≡◌, ◌≤◌, ◌<◌, ⊎_elim, ℕ, false, Some, List, [], ◌∷◌, ◌++◌, refl, ap, subst, ◌∙◌, append_assoc, arith}
use Rattle.std.specs.List.{FoldsTo}
use Rattle.model.specs.declared.event.Answer.TheVariants.{State}
use Rattle.model.specs.declared.event.Event.{Event}
use Rattle.model.specs.declared.event.Event.TheVariants.{Begun, Published, HandedOut, FreedOf, Locked, Asked, Told, Finished}
use Rattle.model.specs.declared.event.Item.{Item}
use Rattle.model.specs.declared.event.Item.TheVariants.{Index}
use Rattle.model.specs.declared.event.Start.TheVariants.{Robust}
use Rattle.model.specs.declared.families.indices.robust.RobustStart.TheVariants.{Recover}
use Rattle.model.specs.Families.Queues.Reading.{waiting}
use Rattle.model.proofs.Readings.{no_more}
use Rattle.history_owners.specs.Robust.{Visit, Came, HasAsked, WasTold, HasFreed, HasLocked, visit, wrote_to, wrote_by}
use Rattle.lock_free.specs.HistoryView.View.{View}
use Rattle.lock_free.specs.Passes.{HasSplit}
use Rattle.lock_free.specs.Queues.Closes.{Closes}
use Rattle.lock_free.specs.Queues.Contracts.{HasTakenFirst}
use Rattle.lock_free.specs.Queues.Views.{right_view}
use Rattle.lock_free.specs.ReleaseMode.TheVariants.{Default}
use Rattle.lock_free.specs.ReleaseState.TheVariants.{Unlocked}
use Rattle.lock_free.specs.Robust.Callable.{asks, tells, questions_of, freed_of, was_told}
use Rattle.lock_free.specs.Robust.Contracts.{HasRecovered}
use Rattle.lock_free.specs.Share.{Share}
use Rattle.lock_free.specs.Shares.{all_shares}
use Rattle.uses_laws.specs.Wrong.{first, having_seen, took_the_second, knows_of_one, nothing_left, stays, same_party}
use Rattle.uses_laws.specs.Wrong.{never_asked, may_be_asked, says_no, never_told, may_be_told, asked_of_one, freed_one}

-- ---- a pop of an overflowing queue

-- a pop that has taken out the second of two is refused
second_out : (before after : List (Event ℕ)) (by : ℕ) (rest : List (Item ℕ))
    → took_the_second.seen ≡ before ++ HandedOut by (Index 8) ∷ after
    → waiting before ≡ Index 8 ∷ rest
    → ⊥
second_out [] after by rest is oldest = cc
second_out (a ∷ []) after by rest is oldest = cc
second_out (a ∷ b ∷ []) after by rest is oldest =
    let one : a ≡ Published 0 (Index 7) = cc in
    let two : b ≡ Published 0 (Index 8) = cc in
    let waits = subst (λ (x : Event ℕ). waiting (Published 0 (Index 7) ∷ x ∷ []) ≡ Index 8 ∷ rest) two
    (subst (λ (x : Event ℕ). waiting (x ∷ b ∷ []) ≡ Index 8 ∷ rest) one oldest) in
    cc
second_out (a ∷ b ∷ c ∷ before) after by rest is oldest =
    let none : [] ≡ before ++ HandedOut by (Index 8) ∷ after = cc in no_more before (HandedOut by (Index 8)) after none

pub takes_the_second : HasTakenFirst (Index 8) first took_the_second → ⊥
takes_the_second taken_first = second_out taken_first.before taken_first.after taken_first.by taken_first.rest taken_first.is taken_first.oldest

-- a pop that took its value out before the call began is refused
seen_before : (before after rest : List (Event ℕ)) (by : ℕ) → took_the_second.seen ≡ before ++ HandedOut by (Index 8) ∷ after
    → before ≡ took_the_second.seen ++ rest
    → ⊥
seen_before before after rest by is since =
    let longer : took_the_second.seen ≡ (took_the_second.seen ++ rest) ++ HandedOut by (Index 8) ∷ after =
    subst (λ (es : List (Event ℕ)). took_the_second.seen ≡ es ++ HandedOut by (Index 8) ∷ after) since is
    in
    let none : [] ≡ rest ++ HandedOut by (Index 8) ∷ after = cc in
    no_more rest (HandedOut by (Index 8)) after none

takes_again : HasTakenFirst (Index 8) took_the_second took_the_second → ⊥
takes_again taken_first = seen_before taken_first.before taken_first.after taken_first.since.rest taken_first.by taken_first.is taken_first.since.is

-- ---- a close

-- a `close` whose list is without a number that waits is refused
pub loses_one : Closes Index 2 knows_of_one nothing_left → ⊥
loses_one k = ⊎_elim (λ (below : 0 < 0). absurd (omega arith)) (λ there. let e = there.1 in cc) (k.published_there 0 7 refl)

-- a `close` whose list begins at a number that was taken out is refused
keeps_taken : Closes Index 2 took_the_second nothing_left → ⊥
keeps_taken k = let e : 1 ≤ 0 = k.taken in absurd (omega arith)

-- a `close` whose list has another capacity is refused
grows : Closes {T = ℕ} Index 3 first nothing_left → ⊥
grows k = let e = k.same in cc

-- a `close` whose list has a number that was never pushed is refused, if the pass knows all
invents : Closes {T = ℕ} Index 2 first (record nothing_left { values = 7 ∷ [] }) → ⊥
invents k = let e = (k.whole refl).1 in cc

-- ---- a split

pub takes_the_party : HasSplit first stays same_party → ⊥
takes_the_party split = let e = split.right_party in cc

-- the view of the new pass after a split
abbrev new : View ℕ
new = right_view first

-- a split that the contract admits; each of those below differs from it in one field
splits_right : HasSplit first stays new
splits_right =
    record {
      seen = refl;
      made = refl;
      party = refl;
      right_seen = refl;
      right_made = refl;
      right_party = refl;
      turns = refl;
      right_turns = refl;
      others = refl;
      right_others = refl;
      asked = refl;
      aside = refl;
      right_asked = refl;
      right_aside = refl;
      share = refl;
      right_share = refl;
    }

sees_more : HasSplit first stays (record new { seen = Locked 0 ∷ [] }) → ⊥
sees_more split = let e = split.right_seen in cc

has_made : HasSplit first stays (record new { made = Locked 0 ∷ [] }) → ⊥
has_made split = let e = split.right_made in cc

has_all : HasSplit first stays (record new { share = all_shares }) → ⊥
has_all split = let e = ap (λ (s : Share). s.parts) split.right_share in cc

-- refused: the pass that was split has forgotten what it saw
forgets_seen : HasSplit (having_seen (Locked 0 ∷ [])) stays (record new { seen = Locked 0 ∷ [] }) → ⊥
forgets_seen split = let e = split.seen in cc

forgets_made : HasSplit (record first { made = Locked 0 ∷ [] }) stays new → ⊥
forgets_made split = let e = split.made in cc

forgets_party : HasSplit first new new → ⊥
forgets_party split = let e = split.party in cc

keeps_all : HasSplit first first new → ⊥
keeps_all split = let e = split.share in cc

-- refused: the new pass counts changes by others that it has not seen
counts_more : HasSplit first stays (record new { others = 1 }) → ⊥
counts_more split = let e = split.right_others in cc

forgets_others : HasSplit (record first { others = 1 }) stays new → ⊥
forgets_others split = let e = split.others in cc

-- refused: the split is not counted among the operations of the pass
asks_nothing : HasSplit first (record stays { asked = 0 }) new → ⊥
asks_nothing split = let e = split.asked in cc

is_a_step : HasSplit first (record stays { aside = 0 }) new → ⊥
is_a_step split = let e = split.aside in cc

both_ask : HasSplit first stays (record new { asked = 1 }) → ⊥
both_ask split = let e = split.right_asked in cc

both_aside : HasSplit first stays (record new { aside = 1 }) → ⊥
both_aside split = let e = split.right_aside in cc

-- ---- a recovery of a robust set

-- what a recovery has written begins with a question, or it is its end
abbrev Heads : Event ℕ → Type 0
Heads (Asked p index owner) = Unit {0}
Heads (Finished p start answer) = Unit {0}
Heads e = ⊥

abbrev ends : ℕ → List (Event ℕ)
ends by = Finished by (Robust (Recover Default)) (State Unlocked) ∷ []

-- what a recovery writes at an index begins with a question
head_came : (by index owner : ℕ) (came : Came) (more : List (Event ℕ)) (e : Event ℕ) (rest : List (Event ℕ))
    → e ∷ rest ≡ wrote_to by index owner came ++ more
    → Heads e
head_came by index owner HasAsked more e rest is = let asked : Asked by index owner ≡ e = cc in subst Heads asked tt
head_came by index owner WasTold more e rest is = let asked : Asked by index owner ≡ e = cc in subst Heads asked tt
head_came by index owner HasFreed more e rest is = let asked : Asked by index owner ≡ e = cc in subst Heads asked tt
head_came by index owner HasLocked more e rest is = let asked : Asked by index owner ≡ e = cc in subst Heads asked tt

-- The first event of what a recovery writes is a question, or its end.
head_is : (by : ℕ) (visits : List Visit) (e : Event ℕ) (rest : List (Event ℕ)) → e ∷ rest ≡ wrote_by by visits ++ ends by → Heads e
head_is by [] e rest is = let ended : Finished by (Robust (Recover Default)) (State Unlocked) ≡ e = cc in subst Heads ended tt
head_is by (v ∷ visits) e rest is =
    head_came by v.index v.owner v.came (wrote_by by visits ++ ends by) e rest
    (is ∙ append_assoc (wrote_to by v.index v.owner v.came) (wrote_by by visits) (ends by))

-- no list of what a recovery came to gives that it asked about an index and never called its closure
none_asked : (by : ℕ) (visits : List Visit) → asked_of_one.made ≡ Begun by (Robust (Recover Default)) ∷ (wrote_by by visits ++ ends by)
    → FoldsTo (asks never_asked) [] (questions_of visits) []
    → ⊥
none_asked by [] is asked = cc
none_asked by (v ∷ visits) is asked = asked.1

pub asks_nobody : HasRecovered never_asked never_told Default Unlocked [] [] [] [] first asked_of_one → ⊥
asks_nobody recovered = none_asked recovered.by recovered.visits recovered.called.made recovered.visited.asked

-- what a recovery wrote at an index that it freed gives a call of its second closure
one_freed : (by index owner : ℕ) (came : Came) (visits : List Visit)
    → Asked 0 0 7 ∷ Told 0 0 7 ∷ FreedOf 0 0 7 ∷ ends 0 ≡ wrote_to by index owner came ++ (wrote_by by visits ++ ends by)
    → FoldsTo (tells never_told) [] (freed_of (visit index owner came ∷ visits)) []
    → ⊥
one_freed by index owner HasAsked visits is told =
    head_is by visits (Told 0 0 7) (FreedOf 0 0 7 ∷ ends 0) (cc)
one_freed by index owner WasTold visits is told =
    head_is by visits (FreedOf 0 0 7) (ends 0) (cc)
one_freed by index owner HasFreed visits is told = told.1
one_freed by index owner HasLocked visits is told = told.1

-- no list of what a recovery came to gives that it freed an index and told nobody
none_told : (by : ℕ) (visits : List Visit) → freed_one.made ≡ Begun by (Robust (Recover Default)) ∷ (wrote_by by visits ++ ends by)
    → FoldsTo (tells never_told) [] (freed_of visits) []
    → ⊥
none_told by [] is told = cc
none_told by (v ∷ visits) is told =
    let wrote : Asked 0 0 7 ∷ Told 0 0 7 ∷ FreedOf 0 0 7 ∷ ends 0 ≡ wrote_by by (v ∷ visits) ++ ends by = cc in
    one_freed by v.index v.owner v.came visits
    (wrote ∙ append_assoc (wrote_to by v.index v.owner v.came) (wrote_by by visits) (ends by)) told

pub tells_nobody : HasRecovered may_be_asked never_told Default Unlocked [] [] [] [] first freed_one → ⊥
tells_nobody recovered = none_told recovered.by recovered.visits recovered.called.made recovered.visited.told

-- what a recovery wrote at an index that it freed gives that its closure said yes
no_to_one : (by index owner : ℕ) (came : Came) (visits : List Visit)
    → Asked 0 0 7 ∷ Told 0 0 7 ∷ FreedOf 0 0 7 ∷ ends 0 ≡ wrote_to by index owner came ++ (wrote_by by visits ++ ends by)
    → was_told came ≡ false
    → ⊥
no_to_one by index owner HasAsked visits is said = head_is by visits (Told 0 0 7) (FreedOf 0 0 7 ∷ ends 0) (cc)
no_to_one by index owner WasTold visits is said = cc
no_to_one by index owner HasFreed visits is said = cc
no_to_one by index owner HasLocked visits is said = cc

-- no list of what a recovery came to gives that it freed an index and was told no
none_agreed : (by : ℕ) (visits : List Visit) → freed_one.made ≡ Begun by (Robust (Recover Default)) ∷ (wrote_by by visits ++ ends by)
    → FoldsTo (asks says_no) [] (questions_of visits) []
    → ⊥
none_agreed by [] is asked = cc
none_agreed by (v ∷ visits) is asked =
    let wrote : Asked 0 0 7 ∷ Told 0 0 7 ∷ FreedOf 0 0 7 ∷ ends 0 ≡ wrote_by by (v ∷ visits) ++ ends by = cc in
    no_to_one by v.index v.owner v.came visits
    (wrote ∙ append_assoc (wrote_to by v.index v.owner v.came) (wrote_by by visits) (ends by)) asked.1

pub recover_tells_after_a_no : HasRecovered says_no may_be_told Default Unlocked [] [] [] [] first freed_one → ⊥
recover_tells_after_a_no recovered = none_agreed recovered.by recovered.visits recovered.called.made recovered.visited.asked

-- a view that has seen the lock
abbrev locked : View ℕ
locked = having_seen (Locked 1 ∷ [])

-- no recovery has a history in which it asked about an index of a set that it had found locked
asks_locked : HasRecovered may_be_asked never_told Default Unlocked [] [] [] [] locked (record asked_of_one { seen = Locked 1 ∷ asked_of_one.seen }) → ⊥
asks_locked recovered =
    none_asked recovered.by []
    (subst (λ (visits : List Visit). asked_of_one.made
    ≡ Begun recovered.by (Robust (Recover Default)) ∷ (wrote_by recovered.by visits ++ ends recovered.by))
    (recovered.nothing refl) recovered.called.made)
    refl

-- refused: another party than the pass's made the recovery
not_mine : HasRecovered may_be_asked never_told Default Unlocked [] [] [] [] first (record asked_of_one { party = Some 1 }) → ⊥
not_mine recovered =
    let by : recovered.by ≡ 0 = cc in
    let mine = recovered.mine in
    cc
