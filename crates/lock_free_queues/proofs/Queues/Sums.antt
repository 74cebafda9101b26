-- What each call adds to how much its pass has published and taken out itself, what that says to who has the whole, and
-- which roles a call moves.
use Rattle.lock_free_queues.proofs.Names.{◌≡◌, ◌⊎◌, inl, inr, ℕ, ◌+◌, Bool, true, false, Option, Some, None, List, [], ◌∷◌}
use Rattle.lock_free_queues.proofs.Names.{length, refl, sym, ap, ◌∙◌, sum_by, arith, sum_by-append, Role}
use Rattle.lock_free_queues.proofs.Names.{Producer, Consumer, Answer, Event, Begun, Published, HandedOut, Finished}
use Rattle.lock_free_queues.proofs.Names.{Item, Start, LengthOf, publishes, hands_out, published, handed_out, View}
use Rattle.lock_free_queues.proofs.Names.{Called, takes, gives, sum_first, IsAll, MissesNothing}
use Rattle.std.proofs.Common.{length-append}
use Rattle.lock_free_queues.specs.Queues.Overflowing.{HasOverflowed}
use Rattle.lock_free_queues.specs.Queues.Roles.{Moved, other_role}
use Rattle.lock_free_queues.specs.Queues.Sums.{puts, gets, HasDone}
use Rattle.lock_free_queues.specs.Queues.Contracts.{HasPushed, PushRefused, WasAtEnd, HasPopped, HasPeeked, HasMeasured, HasAcquired}
use Rattle.lock_free_queues.specs.Queues.Contracts.{HasReleased, HasSeenRole}

module _ {T : Type 0} where
  -- ---- by the call

  module _ {p : ℕ} {start : Start T} {answer : Answer T} {wrote : List (Event T)} {old new : View T} (c : Called p start answer wrote old new) where
    -- A sum over what the pass made grows by the begin of the call, by what it wrote, and by its end.
    made_more : (f : Event T → ℕ) {more : ℕ} → f (Begun p start) + (sum_by f wrote + f (Finished p start answer)) ≡ more
        → sum_by f new.made ≡ sum_by f old.made + more
    made_more f {more} more_is = grind (arith, sum_by-append, sum_first)

    -- A call has done as many puts and gets as it wrote.
    pub done : HasDone (sum_by puts wrote + 0) (sum_by gets wrote + 0) old new
    done =
        record {
          puts_more = made_more puts {more = sum_by puts wrote + 0} (omega arith);
          gets_more = made_more gets {more = sum_by gets wrote + 0} (omega arith);
        }

    -- A call moves a role as often as its events take it and give it back.
    moves : (role : Role) {taken given : ℕ}
        → takes role (Begun p start) + (sum_by (takes role) wrote + takes role (Finished p start answer)) ≡ taken
        → gives role (Begun p start) + (sum_by (gives role) wrote + gives role (Finished p start answer)) ≡ given
        → Moved role taken given old.made new.made
    moves role taken_is given_is = record { takes = made_more (takes role) taken_is; gives = made_more (gives role) given_is }

  module _ (old new : View T) where
    -- A push that answers true has published one item and taken out none.
    pub done_pushed : (item : Item T) → HasPushed item true old new → HasDone 1 0 old new
    done_pushed item pushed = (let done_here = done pushed.called in done_here)

    -- a push that was refused, or a look
    pub done_refused : (item : Item T) (capacity : ℕ) → PushRefused capacity item old new → HasDone 0 0 old new
    done_refused item capacity (inl h) = (let done_here = done h.0.called in done_here)
    done_refused item capacity (inr h) = same_made h.made
      where
        -- A pass that made nothing more has done nothing.
        same_made : new.made ≡ old.made → HasDone 0 0 old new
        same_made e = record { puts_more = omega (arith, ap (sum_by puts) e); gets_more = omega (arith, ap (sum_by gets) e) }

    -- A push into an overflowing queue that handed nothing back has published one item and taken out none.
    pub done_added : (value : ℕ) → HasOverflowed value None old new → HasDone 1 0 old new
    done_added value overflowed = (let done_here = done overflowed.called in done_here)

    -- A push into an overflowing queue that handed the oldest number back has published one item and
    -- taken out one.
    pub done_replaced : (value oldest : ℕ) → HasOverflowed value (Some oldest) old new → HasDone 1 1 old new
    done_replaced value oldest overflowed = (let done_here = done overflowed.called in done_here)

    -- A pop that answers an item has taken out one.
    pub done_popped : (item : Item T) → HasPopped (Some item) old new → HasDone 0 1 old new
    done_popped item popped = (let done_here = done popped.called in done_here)

    -- A pop that found the queue empty has taken out none.
    pub done_none : HasPopped None old new → HasDone 0 0 old new
    done_none popped = (let done_here = done popped.called in done_here)

    -- A peek publishes and takes out nothing.
    pub done_peeked : (answer : Option (Item T)) → HasPeeked answer old new → HasDone 0 0 old new
    done_peeked answer peeked = (let done_here = done peeked.called in done_here)

    -- An acquire of a role publishes and takes out nothing.
    pub done_acquired : (role : Role) (taken : Bool) → HasAcquired role taken old new → HasDone 0 0 old new
    done_acquired role taken acquired = (let done_here = done acquired.called in done_here)

    -- A release of a role publishes and takes out nothing.
    pub done_released : (role : Role) → HasReleased role old new → HasDone 0 0 old new
    done_released role released = (let done_here = done released.called in done_here)

    -- A look at a role publishes and takes out nothing.
    pub done_seen : (role : Role) (taken : Bool) → HasSeenRole role taken old new → HasDone 0 0 old new
    done_seen role taken seen_role = (let done_here = done seen_role.called in done_here)

    -- A call on the length publishes and takes out nothing.
    pub done_measured : (which : LengthOf) (capacity : ℕ) (answer : Answer T) → HasMeasured which capacity answer old new → HasDone 0 0 old new
    done_measured which capacity answer measured = (let done_here = done measured.called in done_here)

    -- ---- what it moves of the roles

    -- a call that takes a role moves it once where it answers true, and else not, and never moves the other role
    pub acquired_moves : (role : Role) (taken : Bool) → HasAcquired role taken old new
        → (taken ≡ true → Moved role 1 0 old.made new.made) × (taken ≡ false → Moved role 0 0 old.made new.made)
        × Moved (other_role role) 0 0 old.made new.made
    acquired_moves Producer true acquired = (
      λ is. moves acquired.called Producer refl refl,
      λ is. absurd (cc),
      moves acquired.called Consumer refl refl,
    )
    acquired_moves Producer false h = (
      λ is. absurd (cc),
      λ is. moves h.called Producer refl refl,
      moves h.called Consumer refl refl,
    )
    acquired_moves Consumer true h = (
      λ is. moves h.called Consumer refl refl,
      λ is. absurd (cc),
      moves h.called Producer refl refl,
    )
    acquired_moves Consumer false h = (
      λ is. absurd (cc),
      λ is. moves h.called Consumer refl refl,
      moves h.called Producer refl refl,
    )

    -- a call that gives a role back moves it by one, and does not move the other role
    pub released_moves : (role : Role) → HasReleased role old new → Moved role 0 1 old.made new.made × Moved (other_role role) 0 0 old.made new.made
    released_moves Producer released = (
      moves released.called Producer refl refl,
      moves released.called Consumer refl refl,
    )
    released_moves Consumer released = (
      moves released.called Consumer refl refl,
      moves released.called Producer refl refl,
    )

    -- A peek takes and gives no role.
    pub peeked_moves : (answer : Option (Item T)) → HasPeeked answer old new → (q : Role) → Moved q 0 0 old.made new.made
    peeked_moves answer peeked Producer = moves peeked.called Producer refl refl
    peeked_moves answer peeked Consumer = moves peeked.called Consumer refl refl

    -- A look at a role moves no role: neither takes nor gives of the pass change.
    pub seen_moves : (role : Role) (taken : Bool) → HasSeenRole role taken old new → (q : Role) → Moved q 0 0 old.made new.made
    seen_moves Producer taken seen_role Producer = moves seen_role.called Producer refl refl
    seen_moves Producer taken seen_role Consumer = moves seen_role.called Consumer refl refl
    seen_moves Consumer taken seen_role Producer = moves seen_role.called Producer refl refl
    seen_moves Consumer taken seen_role Consumer = moves seen_role.called Consumer refl refl

    -- A push into an overflowing queue that is a call of the history takes and gives no role.
    overflowed_moves : (value : ℕ) (back : Option ℕ) → HasOverflowed value back old new → (q : Role) → Moved q 0 0 old.made new.made
    overflowed_moves value None overflowed Producer = moves overflowed.called Producer refl refl
    overflowed_moves value None overflowed Consumer = moves overflowed.called Consumer refl refl
    overflowed_moves value (Some oldest) overflowed Producer = moves overflowed.called Producer refl refl
    overflowed_moves value (Some oldest) overflowed Consumer = moves overflowed.called Consumer refl refl

    -- a push into an overflowing queue, or a look in its place, moves no role
    pub over_push_moves : (value : ℕ) (back : Option ℕ) → HasOverflowed value back old new ⊎ (back ≡ Some value) × WasAtEnd old new
        → (q : Role) → Moved q 0 0 old.made new.made
    over_push_moves value back (inl h) q = overflowed_moves value back h q
    over_push_moves value back (inr h) q =
        (let e = h.1.made in
        let a = ap (sum_by (takes q)) e in
        let b = ap (sum_by (gives q)) e in
        record { takes = omega arith; gives = omega arith })

  -- A call that did a and b, and then one that did c and d, have together done a + c and b + d.
  pub done_then : (a b c d : ℕ) (u v w : View T) → HasDone a b u v → HasDone c d v w → HasDone (a + c) (b + d) u w
  done_then a b c d u v w first_done second_done = grind arith

  -- ---- what they count

  -- the number of pushes that events count is the number of items that were published
  pub all_puts : (events : List (Event T)) → sum_by puts events ≡ length (published events)
  all_puts [] = refl
  all_puts (e ∷ es) =
      (omega (arith, sum_first puts e es, all_puts es, length-append (publishes e) (published es), put_once e))
    where
      -- An event counts as many puts as items that it publishes.
      put_once : (x : Event T) → puts x ≡ length (publishes x)
      put_once (Published p item) = refl
      put_once x = refl

  -- the number of pops that events count is the number of items that were taken out
  pub all_gets : (events : List (Event T)) → sum_by gets events ≡ length (handed_out events)
  all_gets [] = refl
  all_gets (e ∷ es) =
      (omega (arith, sum_first gets e es, all_gets es, length-append (hands_out e) (handed_out es), got_once e))
    where
      -- An event counts as many gets as items that it hands out.
      got_once : (x : Event T) → gets x ≡ length (hands_out x)
      got_once (HandedOut p item) = refl
      got_once x = refl

  -- who has the whole share knows how much was published and taken out
  pub whole_counted : (v : View T) → IsAll v.share → MissesNothing v
      → (length (published v.seen) ≡ sum_by puts v.made) × (length (handed_out v.seen) ≡ sum_by gets v.made)
  whole_counted v all missing = (sym (all_puts v.seen) ∙ missing all puts, sym (all_gets v.seen) ∙ missing all gets)
