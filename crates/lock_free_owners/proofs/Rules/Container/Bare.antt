-- A step of a container's table that leaves each word as it is may leave what its seat knows.
use Rattle.std.proofs.Common.{arith}
use Rattle.lock_free_owners.proofs.Names.{◌≡◌, ℕ, List, [], set, slice_index, refl, sym, ap, subst}
use Rattle.lock_free_owners.proofs.Names.{◌∙◌, Allows, keeps, written, by_eq, After, Coding, moves, View, IsMachine}
use Rattle.lock_free_owners.proofs.Names.{set_same, cases_eq, ⊎_elim, ◌≢◌, ◌+◌, ◌<◌, None, GoOn, Done, Event}
use mathlib.Core.Option.{some, some-injective}
use lib.ListN.{get_elem?}
use Rattle.steps.specs.declared.ask.Op.TheVariants as ops
use Rattle.model.specs.declared.turn.Kind.TheVariants as kinds
use Rattle.threaded.specs.Driver.{Next, Told}
use Rattle.history.specs.History.{HaveAsked, steps_of_run}
use Rattle.history.specs.Known.{Known, HasSeen}
use Rattle.history.proofs.Asked.{have_more}
use Rattle.history.proofs.Known.{within}
use Rattle.history.proofs.PassLooks.{reseat}
use Rattle.atomic_table.proofs.Lists.{at_set, set_else, set_here}
use Rattle.threaded.proofs.Shares.{shares_stay}
use Rattle.lock_free_owners.specs.Container.Bare.{IsCounted, Still}

-- An exchange that replaces a number by itself leaves the word as it was.
pub unchanged : (count found : ℕ) → written (ops.Exchange count count) found ≡ found
unchanged count found = grind (arith, by_eq)

-- the view of a seat that has asked for one operation more, which is no step of a call
abbrev pub one_more : {T : Type 0} → View T → View T
one_more v = record v { asked = v.asked + 1; aside = v.aside + 1 }

-- The seat `id` has the view v. It counts one operation more, which is no step of a call, and what the seats know of the
-- events stays true.
module _ {T : Type 0} (views : List (View T)) (events : List (Event T)) (id : ℕ) (v : View T) (at : get_elem? views id ≡ some v)
    (k : Known views events) where
  -- with one operation more asked for, each seat without a share has still made nothing, and has
  -- no call under way
  spent_on : (j : ℕ) (u : View T) → get_elem? (set views id (one_more v)) j ≡ some u → u.share.part ≡ 0 → (u.made ≡ []) × (u.going ≡ None)
  spent_on j u found part =
      ⊎_elim (λ (e : (j ≡ id) × (one_more v ≡ u)). subst (λ (z : View T). (z.made ≡ []) × (z.going ≡ None)) e.1
      (k.spent id v at (ap (λ (z : View T). z.share.part) e.1 ∙ part)))
      (λ (e : (j ≢ id) × (get_elem? views j ≡ some u)). k.spent j u e.1 part)
      (at_set views id j (one_more v) u found)

  -- the views still know all events after this seat's view is replaced by the one that
  -- counts one operation more
  known_on : Known (set views id (one_more v)) events
  known_on = ⊎_elim mine theirs (cases_eq k.by id)
    where
      -- if the seat is the one that knows all, it still knows all after one operation more
      mine : k.by ≡ id → Known (set views id (one_more v)) events
      mine e =
          let there : some k.last ≡ some v = sym k.at ∙ (ap (get_elem? views) e ∙ at) in
          let same : k.last ≡ v = some-injective k.last v there in
          record {
            shares = shares_stay (λ (z : View T). z.share) views id v (one_more v) at refl k.shares;
            by = id;
            last = one_more v;
            at = set_here views id (one_more v) (within views id v at);
            any = subst (λ (z : View T). 0 < z.share.part) same k.any;
            all = subst (λ (z : View T). HasSeen z events) same k.all;
            someone = k.someone;
            spent = spent_on;
          }

      -- if another seat knows all, that one still knows all after one operation more
      theirs : k.by ≢ id → Known (set views id (one_more v)) events
      theirs ne =
          record {
            shares = shares_stay (λ (z : View T). z.share) views id v (one_more v) at refl k.shares;
            by = k.by;
            last = k.last;
            at = set_else views id k.by (one_more v) ne ∙ k.at;
            any = k.any;
            all = k.all;
            someone = k.someone;
            spent = spent_on;
          }

no_more : (n : ℕ) → n + 0 ≡ n
no_more n = omega arith

-- what the seats have asked for still adds up after one of them has counted one operation more, which
-- is no step
asked_on : {T : Type 0} (views : List (View T)) (steps id : ℕ) (v : View T) → get_elem? views id ≡ some v → HaveAsked views steps
    → HaveAsked (set views id (one_more v)) steps
asked_on views steps id v at h =
    subst (λ n. HaveAsked (set views id (one_more v)) n) (no_more steps)
    (have_more views id v (one_more v) steps 0 at h (omega arith) (λ none. (let same = h.spent id v at none in omega arith)))

-- A seat has the view v, at a table of a container of capacity `key`.
module _ {T : Type 0} (code : Coding T) (key slots id : ℕ) (v : View T) where
  -- an operation that leaves each word as it is leaves the table its machine, with a view that has
  -- asked for one operation more
  pub leaves : (word : ℕ) (f : ℕ → ℕ) → ((k : ℕ) → f k ≡ k) → (Says : View T → ℕ → View T → Type 0) → ((k : ℕ) → Says v k (one_more v))
      → Allows (IsMachine code kinds.Container key) slots id (v, []) word f (λ found new. moves (λ (z : View T). z.asked) Says (v, []) found new)
  leaves word f same Says says s r wide at small =
      let fits = r.seats id v at in (
        one_more v,
        keeps,
        tt,
        reseat code kinds.Container key (set s.words word (f (slice_index s.words word))) s r id v (one_more v)
            (ap (set s.words word) (same (slice_index s.words word)) ∙ set_same s.words word) at
            -- The view fits the trace as before, as it has only counted one operation more.
            (record {
              seen = fits.seen;
              other = fits.other;
              self = fits.self;
              going = fits.going;
              idle = fits.idle;
              stated = fits.stated;
              counted = fits.counted;
              party = fits.party;
              late = fits.late;
              waits = fits.waits;
              of_party = fits.of_party;
              own = fits.own;
              made = fits.made;
            })
            (known_on s.views r.trace.events id v at r.known)
            (record { mine = (r.one.knew id v at).mine; theirs = (r.one.knew id v at).theirs })
            (asked_on s.views (steps_of_run code kinds.Container key r.one.turns) id v at r.asked),
        (says _, refl, refl),
      )

-- what was counted before is counted still
pub counted_on : {T : Type 0} (base v : View T) → IsCounted base v → IsCounted base (one_more v)
counted_on {T} base v same =
    record {
      known = ap (λ (z : View T). record z { asked = v.asked + 1; aside = v.aside + 1 }) same.known;
      aside = (let is = same.aside in omega arith);
    }

-- the view itself, once one operation more is counted
pub counted_one : {T : Type 0} (v : View T) → IsCounted v (one_more v)
counted_one v = record { known = refl; aside = omega arith }

-- a call whose view stays until its end
module _ {T C E M : Type 0} (stands : View T → C → Type 0) (ends : View T → E → M → View T → Type 0) (v : View T) where
  -- a call that goes on by one load, or ends by it, leaves what the seat knows
  abbrev pub Stays : After C E → Type 0
  Stays a = (n : M) → Next (λ (z : View T). z.capacity) (Still stands) ends v a n (one_more v)

  -- a load that leaves what is known tells what a step of the call tells
  pub still_tells : ((base : View T) (e : E) (n : M) → IsCounted base v → ends v e n (one_more v) → ends base e n (one_more v))
      → (after : C → ℕ → After C E) (kept : C → M → ℕ → M) (c : C) (m : M) (k : ℕ) → Stays (after c k)
      → Told (λ (z : View T). z.capacity) (Still stands) ends after kept c m v k (one_more v)
  still_tells carries after kept c m k stays = (refl, λ base at. go base at.0 (after c k) (stays (kept c m k)))
    where
      -- the cases are whether the call goes on or has ended
      go : (base : View T) → IsCounted base v → (a : After C E) → Next (λ (z : View T). z.capacity) (Still stands) ends v a (kept c m k) (one_more v)
          → Next (λ (z : View T). z.capacity) (Still stands) ends base a (kept c m k) (one_more v)
      go base same (GoOn d) h = (counted_on base v same, h.1)
      go base same (Done e) h = carries base e (kept c m k) same h
