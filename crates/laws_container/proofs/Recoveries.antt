-- What a recovery knows once its party has taken a turn: what it has asked about, been told and been shown,
-- and which indices its owner has lost.
use Rattle.laws_container.proofs.Names.{◌≡◌, ◌≢◌, ◌⊎◌, ⊎_elim, inl, inr, ℕ, ◌+◌, ◌<◌, ◌≤◌, Some, List, ◌++◌, sym}
use Rattle.laws_container.proofs.Names.{subst, arith, cases_eq, flat_map-append, ContainerState, Event, Party, Coding}
use Rattle.laws_container.proofs.Names.{WasShown, Act, Sees, acts, acts_of, index_seen, seen_in, IsUnlocked}
use Rattle.laws_container.proofs.Names.{HeldThroughout, StillToFree, SetAct, Frees, Asks, Yes, index_asked, asked_in}
use Rattle.laws_container.proofs.Names.{set_acts, set_acts_of, filled_of, IsOneOf, BeginsNone, held_later, gone_more}
use Rattle.laws_container.proofs.Names.{honest_less, stays_lost, Goes, through_less, all_both, still_one}
use Rattle.laws_container.proofs.Finds.{below_more}
use Rattle.laws_container.proofs.HiddenKnows.{HasHidden}
use Rattle.laws_container.proofs.Knows.{View, now, IsGone, AskedBelow, GoneBut, Recovers}
use Rattle.laws_container.proofs.CallProgress.{AreBelow, AskedOrShown, IsInCourse}

-- ---- what the recovery has done

module _ {T : Type 0} where
  -- the recovery keeps its course when it has done more, if it has seen and asked about indices below the new
  -- bound, and has freed none but those it had, or had asked about or was shown
  pub course_then : {c z : ℕ} {all : List SetAct} (ds : List SetAct) {done : List (Act T)} (fresh : List (Act T)) {owner i b i' b' : ℕ}
      → IsInCourse c z all done owner i b → i' < c → b ≤ b' → AreBelow b' (seen_in fresh) → AreBelow b' (asked_in ds)
      → ((j : ℕ) → IsOneOf (Frees j owner) (all ++ ds) → IsOneOf (Frees j owner) all ⊎ AskedOrShown c z all done owner j)
      → IsInCourse c z (all ++ ds) (done ++ fresh) owner i' b'
  course_then {c} {z} {all} ds {done} fresh {owner} {b = b} {b' = b'} in_course low more seen asked freed =
      record {
        within = low;
        seen =
            subst (AreBelow b') (sym (flat_map-append index_seen done fresh))
            (all_both (λ n. n < b') (seen_in done) (seen_in fresh) (below_more b b' (seen_in done) more in_course.seen) seen);
        asked =
            subst (AreBelow b') (sym (flat_map-append index_asked all ds))
            (all_both (λ n. n < b') (asked_in all) (asked_in ds) (below_more b b' (asked_in all) more in_course.asked) asked);
        freed = λ j was. later j (⊎_elim (λ earlier. in_course.freed j earlier) (λ known. known) (freed j was));
      }
    where
      -- what the recovery has asked about or was shown it has asked about or was shown still
      later : (j : ℕ) → AskedOrShown c z all done owner j → AskedOrShown c z (all ++ ds) (done ++ fresh) owner j
      later j asked_or_shown =
          ⊎_elim (λ asked. inl (still_one (Asks j owner) all ds asked)) (λ shown. inr (still_one (Sees j) done fresh shown)) asked_or_shown

-- ---- what the recovery knows

-- A turn of the party of a recovery. It changes the set as it may (`Goes`), and begins no call of the party; and what the call has
-- done to the set and to elements after the turn is what it had done before, and what the events of the turn do.
pub record OwnTurn (T : Type 0) : Type 0 where
  -- how the container is laid out, and whose indices are recovered
  pub code : Coding T
  pub capacity : ℕ
  pub owner : ℕ
  -- what the party sees before the turn
  pub view : View T
  -- what the turn leaves: words, states and calls, how often words had changed when the call began and have now, and the turns back
  pub words' : List ℕ
  pub states' : List (ℕ × ContainerState T)
  pub latest' : List (ℕ × Party T)
  pub since' : ℕ
  pub changes' : ℕ
  pub backs' : ℕ
  -- which events it writes, and what they are
  pub es : List (Event T)
  pub fresh : BeginsNone view.party es
  pub set_acts_more : set_acts_of view.party (view.events ++ es) ≡ set_acts_of view.party view.events ++ set_acts es
  pub acts_more : acts_of view.party (view.events ++ es) ≡ acts_of view.party view.events ++ acts es
  pub goes : Goes view.words words' view.events es

module _ {T : Type 0} (turn : OwnTurn T) where
  open turn use {code, capacity as c, owner, view as v, es, fresh, set_acts_more, acts_more, goes}

  abbrev p : ℕ
  p = v.party

  abbrev events : List (Event T)
  events = v.events

  -- what the party sees after the turn
  abbrev pub then_view : View T
  then_view =
      record {
        terms = v.terms;
        words = turn.words';
        states = turn.states';
        latest = turn.latest';
        events = v.events ++ es;
        party = v.party;
        since = turn.since';
        changes = turn.changes';
        backs = turn.backs';
      }

  -- what the recovery was told to free or shown by the end of the turn, it was told or shown
  -- before, or is in `New`
  abbrev pub SplitsTold : (ℕ → Type 0) → Type 0
  SplitsTold New =
      (i : ℕ) → IsOneOf (Yes i owner) (set_acts_of v.party v.events ++ set_acts es) ⊎ IsOneOf (Sees i) (acts_of v.party v.events ++ acts es)
      → (IsOneOf (Yes i owner) (set_acts_of v.party v.events) ⊎ WasShown v.party i v.events) ⊎ New i

  -- What a recovery learns in the turn, where it was about to free the indices in `Was`: it has asked about the indices below `k` by now, and
  -- was told of or shown those in `New` alone; each one in `Was` or `New` is the owner's no more or is in `Now`; a freed one is hidden or in `But`.
  pub record Learns (k : ℕ) (Was Now But : ℕ → Type 0) : Type 1 where
    pub New : ℕ → Type 0
    pub asked : AskedBelow code c owner k then_view
    pub told : SplitsTold New
    pub was : (i : ℕ) → Was i → (filled_of i (v.events ++ es) ≢ Some owner) ⊎ Now i
    pub new : (i : ℕ) → New i → (filled_of i (v.events ++ es) ≢ Some owner) ⊎ Now i
    pub hidden : HasHidden code c v.party owner But (now then_view)

  -- the recovery has still asked about the indices below `k`
  pub asked_then : (k : ℕ) → AskedBelow code c owner k v → AskedBelow code c owner k then_view
  asked_then k asked_so i below through =
      ⊎_elim (λ a. inl (subst (IsOneOf (Asks i owner)) (sym set_acts_more) (still_one (Asks i owner) (set_acts_of p events) (set_acts es) a)))
      (λ s. inr (subst (IsOneOf (Sees i)) (sym acts_more) (still_one (Sees i) (acts_of p events) (acts es) s)))
      (asked_so i below (through_less p (StillToFree p owner i) events es fresh through))

  -- the recovery has asked about one index more, if it need not free that one, or has asked
  -- about it, or was shown it
  pub asked_next : (k : ℕ) → AskedBelow code c owner k v
      → (HeldThroughout v.party (StillToFree v.party owner k) (v.events ++ es)
      → IsOneOf (Asks k owner) (set_acts_of v.party (v.events ++ es)) ⊎ WasShown v.party k (v.events ++ es))
      → AskedBelow code c owner (k + 1) then_view
  asked_next = grind (arith, asked_then, cases_eq)

  -- the indices that its owner has lost are lost still; of those told or shown in the turn,
  -- `Now` is not lost yet
  pub gone_then : (Was Now New : ℕ → Type 0) → IsGone owner v → GoneBut code c owner Was v → SplitsTold New
      → ((i : ℕ) → Was i → (filled_of i (v.events ++ es) ≢ Some owner) ⊎ Now i)
      → ((i : ℕ) → New i → (filled_of i (v.events ++ es) ≢ Some owner) ⊎ Now i) → GoneBut code c owner Now then_view
  gone_then = grind (arith, inl, stays_lost, honest_less, inr)

  -- what a recovery knows after a turn, from what it knew, and from what it has learned in the turn
  pub recovers_then : {k k' : ℕ} {Was Now But But' : ℕ → Type 0} → Recovers code c owner k Was But v
      → Learns k' Was Now But' → Recovers code c owner k' Now But' then_view
  recovers_then {Was = Was} {Now = Now} recovers learns =
      record {
        dead = gone_more v.terms.by owner events es recovers.dead;
        was_open = held_later p IsUnlocked events es fresh recovers.was_open;
        asked = learns.asked;
        gone = gone_then Was Now learns.New recovers.dead recovers.gone learns.told learns.was learns.new;
        hidden = learns.hidden;
      }

-- what a recovery knows with other indices exempt from being hidden
pub rehidden : {T : Type 0} (code : Coding T) (c owner k : ℕ) (Now But But' : ℕ → Type 0) (v : View T)
    → Recovers code c owner k Now But v → HasHidden code c v.party owner But' (now v)
    → Recovers code c owner k Now But' v
rehidden = grind arith
