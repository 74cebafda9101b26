-- Between two turns a loan channel's machine keeps its promise.
use Rattle.laws_loan.proofs.Names.{◌≡◌, ◌≢◌, ℕ, ◌<◌, ◌≤◌, ◌⊎◌, true, true≢false, is_some, List, ◌++◌, length, get_or}
use Rattle.laws_loan.proofs.Names.{take, drop, refl, sym, ap, subst, ◌∙◌, drop_at, get_or_append_left, map-append}
use Rattle.laws_loan.proofs.Names.{take-map, flag_word, has_flag, Event, Item, Index, sent_in, given_back_in}
use Rattle.laws_loan.proofs.Names.{AreThose, KeepsBook, LivesRight, IsChannelBy, IsChannel, promise, Spot, Free}
use Rattle.laws_loan.proofs.Names.{Waiting, Returning, spot_of, place_of, receiver_of, given_back, taken_back}
use Rattle.laws_loan.proofs.Names.{queue_moments, overflowing_list, handed_out, waiting, IsLegal, standing, IsKeptBy}
use Rattle.laws_loan.proofs.Names.{Each, span_of, Trace, flag_within, layout}
use Rattle.std.proofs.Common.{arith}
use Rattle.model.specs.Families.Queues.Reading.{published}
use Rattle.model.specs.Parties.{party_of}
use Rattle.model.proofs.Frame as frame
use Rattle.laws_loan.proofs.Bounds.{bounds}
use Rattle.laws_loan.proofs.Channel.{kept_is, no_roles}
use Rattle.laws_loan.proofs.Invariant.{sends_at, counted_for, carried_open, family}
use Rattle.laws_loan.proofs.Placed.{claim_of, IsBy}
use Rattle.laws_loan.proofs.Spots.{is_waiting, is_returning, waits_there, returns_there}
use Rattle.laws_loan.proofs.Tabled.{IsTabled, place_in}
use Rattle.laws_loan.proofs.QueueEvents.{items}
use Rattle.laws_loan.proofs.Waits.{sent_is, back_is, are_those}

-- an index that the sender has claimed is not free, and the other way round
claim_tells : (spot : Spot) → is_some (claim_of spot) ≡ true → spot ≢ Free
claim_tells spot some e = true≢false (sym some ∙ ap (λ x. is_some (claim_of x)) e)

-- an index that is not free is claimed
claim_told : (spot : Spot) → spot ≢ Free → is_some (claim_of spot) ≡ true
claim_told = grind arith

module _ {T : Type 0} where
  -- what was published and not handed out is what waits
  pub waiting_is : (events : List (Event T)) (rest : List (Item T)) → published events ≡ handed_out events ++ rest → waiting events ≡ rest
  waiting_is = grind (arith, drop, length, handed_out, drop_at)

  -- between two turns the words, the book and the events of the machine agree as `IsChannel` (the promise
  -- about a channel's machine) says, where dead parties do nothing more and the table is right
  channel_kept : (t : Trace T) (queue : ℕ) → (s : frame.Sound (family t.world.coding t.world.capacity queue) t)
      → Each LivesRight t.events → IsTabled t → IsChannel t
  channel_kept t queue s lives tabled =
      let world = t.world in
      let channel_now = s.state in
      let hold = s.holds in
      let parts = hold.parts in
      let told = hold.told in
      let kept_there = kept_is world.kept world.words channel_now s.fit in
      let busy = counted_for (sends_at world.latest) in
      -- the indices that wait in the submission queue, by the words of the machine
      let sent : sent_in world.coding world.capacity channel_now.book.queue world.words ≡ items channel_now.submission.waiting =
      ap (λ q. sent_in world.coding world.capacity q world.words) parts.capacity
      ∙ (ap (sent_in world.coding world.capacity queue) kept_there.words ∙ sent_is world.coding world.capacity queue channel_now busy parts)
      in
      -- the indices that wait in the completion queue, by the words of the machine
      let back : given_back_in world.coding world.capacity channel_now.book.queue world.words ≡ items channel_now.completion.waiting =
      ap (λ q. given_back_in world.coding world.capacity q world.words) parts.capacity
      ∙ (ap (given_back_in world.coding world.capacity queue) kept_there.words ∙ back_is world.coding world.capacity queue channel_now busy parts)
      in
      -- the flag of an index stands just where the index is claimed by its spot
      let flag : (index : ℕ) → index < world.capacity
      → has_flag (get_or world.words (flag_word world.capacity index) 0) index ≡ is_some (claim_of (spot_of index t.events)) =
      λ index below.
      let wide = parts.set.wide in
      let within = flag_within world.capacity index below in
      let read : get_or world.words (flag_word world.capacity index) 0 ≡ get_or channel_now.set (flag_word world.capacity index) 0 =
      ap (λ ws. get_or ws (flag_word world.capacity index) 0) kept_there.words
      ∙ get_or_append_left channel_now.set (layout no_roles channel_now.submission ++ layout no_roles channel_now.completion) 0
      (flag_word world.capacity index) (omega arith)
      in
      ap (λ x. has_flag x index) read
      ∙ (parts.set.flags index below
      ∙ (ap is_some (parts.placed.claimed index below) ∙ ap (λ es. is_some (claim_of (spot_of index es))) hold.same))
      in
      subst (λ kept. IsChannelBy kept t) (sym kept_there.kept)
      (record {
        -- each move, begin and answer is right, and a dead party does nothing more
        moves = hold.moves;
        begins = hold.begins;
        answers = hold.answers;
        lives = lives;
        -- the table, the spans, the parties and the flags agree with where each index is by the events
        table = λ index. subst (λ kept. place_in kept index ≡ place_of index t.events) kept_there.kept (tabled index);
        passing = λ index p e. carried_open index (span_of p t.events) (hold.passing index p e);
        parties = λ index p by. subst (λ es. IsBy p (spot_of index es) → (p ≡ 0) ⊎ (p ≡ receiver_of es)) hold.same (parts.placed.parties index p) by;
        flags =
            λ index below. (
              λ some. claim_tells (spot_of index t.events) (sym (flag index below) ∙ some),
              λ ne. flag index below ∙ claim_told (spot_of index t.events) ne,
            );
        -- the submission queue: what it holds, and the list that sends and receives answer as
        sent =
            subst (λ es. published es ≡ handed_out es ++ sent_in world.coding world.capacity channel_now.book.queue world.words) hold.same
            (told.book ∙ ap (λ xs. handed_out channel_now.events ++ xs) (sym sent));
        waits =
            subst (λ xs. AreThose Waiting xs t.events) (sym sent)
            (rw (← hold.same) (are_those Waiting is_waiting refl waits_there channel_now.submission.waiting channel_now.events parts.placed.waits));
        list =
            subst (λ q. standing (overflowing_list q) (queue_moments t.events) ≡ take q (waiting t.events)) (sym parts.capacity)
            (rw (← hold.same) (told.stand ∙ (sym (take-map Index queue channel_now.submission.waiting)
            ∙ ap (take queue) (sym (waiting_is channel_now.events (items channel_now.submission.waiting) told.book)))));
        legal =
            subst (λ q. IsLegal (overflowing_list q) (queue_moments t.events)) (sym parts.capacity)
            (rw (← hold.same) told.legal);
        -- the completion queue, and the book
        returned =
            subst (λ es. items (given_back es)
            ≡ items (taken_back es) ++ given_back_in world.coding world.capacity channel_now.book.queue world.words)
            hold.same
            (ap items told.given ∙ (map-append Index (taken_back channel_now.events) channel_now.completion.waiting
            ∙ ap (λ xs. items (taken_back channel_now.events) ++ xs) (sym back)));
        returns =
            subst (λ xs. AreThose Returning xs t.events) (sym back)
            (rw (← hold.same) (are_those Returning is_returning refl returns_there channel_now.completion.waiting channel_now.events parts.placed.returns));
        keeps = subst (λ es. KeepsBook channel_now.book es) hold.same parts.placed.keeps;
      })

  -- the machine keeps the promise
  pub kept_by : (t : Trace T) (queue : ℕ) → 1 ≤ t.world.capacity
      → (s : frame.Sound (family t.world.coding t.world.capacity queue) t) → Each LivesRight t.events → IsTabled t
      → IsKeptBy promise t
  kept_by t queue some s lives tabled =
      let world = t.world in
      record {
        spans = s.inv.spans;
        progress =
            λ p. frame.progresses (family world.coding world.capacity queue) (bounds world.coding world.capacity queue some) s.state p
            t.events world.changes (party_of p world.latest) (span_of p t.events) (s.inv.calls p) (s.inv.knows p);
        promised = channel_kept t queue s lives tabled;
      }
