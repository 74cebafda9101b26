-- The death of a party keeps the invariant of a loan channel: its calls take no further step, and
-- nothing else changes.
use Rattle.laws_loan.proofs.Names.{◌≡◌, ◌≢◌, ℕ, ◌+◌, ◌==◌, ◌||◌, ⊎_elim, if◌then◌else◌, Bool, true, false, List}
use Rattle.laws_loan.proofs.Names.{[], ◌∷◌, ◌++◌, refl, sym, ap, subst, ◌∙◌, append-nil, eq-eqb, ne_eqb, cases_eq}
use Rattle.laws_loan.proofs.Names.{fold-append, Event, Died, Start, Flight, Registry, LoanStart, LoanFlight, Party}
use Rattle.laws_loan.proofs.Names.{Coding, kept_after_death, has_died, dead_with, MovesRight, BeginsRight}
use Rattle.laws_loan.proofs.Names.{AnswersRight, spot_of, receiver_after, receiver_of, died_after, has_died_by}
use Rattle.laws_loan.proofs.Names.{reclaims_after, Trace, Each-append, span_of-death, MayDie}
use Rattle.std.proofs.Common.{arith}
use Rattle.model.proofs.Dead.{died_now, died_before}
use Rattle.model.proofs.Frame as frame
use Rattle.laws_loan.proofs.Channel.{Channel, Represents, Holds}
use Rattle.laws_loan.proofs.Invariant.{sends_at, counted_for, HoldsNow, family}
use Rattle.laws_loan.proofs.Keeping.{at_stays}
use Rattle.laws_loan.proofs.Knows.{wrote_in, At}
use Rattle.laws_loan.proofs.Lists.{lists_stay}
use Rattle.laws_loan.proofs.Placed.{Placed, placed_on}
use Rattle.laws_loan.proofs.Spots.{is_waiting, is_returning, spot_stays}
use Rattle.laws_loan.proofs.QueueEvents.{items, Told, told_more}

-- ---- who has died

-- who has died after the death of `o`: `o`, and who had died before
died_with : (q o : ℕ) (dead : List ℕ) → has_died q (dead_with o dead) ≡ ((o == q) || has_died q dead)
died_with q o dead = ⊎_elim now before (cases_eq q o)
  where
    -- the owner who dies is dead by both tests
    now : q ≡ o → has_died q (dead_with o dead) ≡ ((o == q) || has_died q dead)
    now e = ap (λ n. has_died q (dead_with n dead)) (sym e) ∙ (died_now q dead ∙ sym (ap (λ b. b || has_died q dead) (eq-eqb o q (sym e))))

    -- another owner is dead by both tests if he was before
    before : q ≢ o → has_died q (dead_with o dead) ≡ ((o == q) || has_died q dead)
    before ne = died_before q o dead ne ∙ sym (ap (λ b. b || has_died q dead) (ne_eqb o q (λ e. ne (sym e))))

-- a disjunction is a choice by its first part
either_way : (b d : Bool) → (b || d) ≡ (if b then true else d)
either_way = grind arith

-- who was dead is dead after a death
still_dead : (b d : Bool) → d ≡ true → (b || d) ≡ true
still_dead = grind arith

-- who is alive after a death was alive before
was_alive : (b d : Bool) → (b || d) ≡ false → d ≡ false
was_alive = grind arith

module _ {T : Type 0} (slots queue : ℕ) (s : Channel T) (o : ℕ) where
  -- the channel after the death of `o`
  abbrev pub after : Channel T
  after = record s { book = record s.book { dead = dead_with o s.book.dead }; events = s.events ++ Died o ∷ [] }

  -- each index is where it was
  same_spot : (i : ℕ) → spot_of i (s.events ++ Died o ∷ []) ≡ spot_of i s.events
  same_spot i = spot_stays s.events (Died o) i refl

  -- the death of an owner leaves the receiver
  same_receiver : receiver_of (s.events ++ Died o ∷ []) ≡ receiver_of s.events
  same_receiver = fold-append receiver_after 1 s.events (Died o ∷ [])

  -- ---- what holds

  -- where each index is still agrees with the claims, the queues and the book
  placed_then : Placed slots s.claims s.submission.waiting s.completion.waiting s.book s.events
      → Placed slots after.claims after.submission.waiting after.completion.waiting after.book after.events
  placed_then placed =
      placed_on s.events (Died o) refl placed
      (record {
        places = refl;
        holders = refl;
        receiver = placed.keeps.receiver ∙ sym same_receiver;
        dead = λ p. died_with p o s.book.dead
            ∙ (ap (λ d. (o == p) || d) (placed.keeps.dead p)
            ∙ (either_way (o == p) (has_died_by p s.events) ∙ sym (fold-append (died_after p) false s.events (Died o ∷ []))));
        parties = λ i p by. rw same_receiver (placed.parties i p by);
      })
      (lists_stay is_waiting s.submission.waiting s.events (Died o) placed.waits refl)
      (lists_stay is_returning s.completion.waiting s.events (Died o) placed.returns refl)

  -- the parts of the channel hold after the death
  parts_then : (busy : ℕ) → Holds slots queue s busy → Holds slots queue after busy
  parts_then = grind (arith, placed_then)

  -- the events tell of the two queues as before the death
  told_then : Told queue s.submission.waiting s.completion.waiting s.events → Told queue s.submission.waiting s.completion.waiting (s.events ++ Died o ∷ [])
  told_then told =
      told_more {es = Died o ∷ []} told
      (record { book = append-nil (items s.submission.waiting); given = append-nil s.completion.waiting; goes = refl; answers = refl })

  -- what holds between two turns holds after the turn in which the owner dies
  now_then : (latest : List (ℕ × Party T)) (turns : ℕ) → HoldsNow slots queue s latest s.events turns
      → HoldsNow slots queue after latest (s.events ++ Died o ∷ []) (turns + 1)
  now_then latest turns holds_now =
      let sent = holds_now.sent in
      let given = holds_now.given in
      let some = holds_now.receivers.0 in
      let most = holds_now.receivers.1 in
      let same = same_receiver in
      let parts = parts_then (counted_for (sends_at latest)) holds_now.parts in
      let told = told_then holds_now.told in
      let reclaiming = fold-append reclaims_after false s.events (Died o ∷ []) in
      let span = span_of-death 0 s.events o in
      let moves = Each-append (MovesRight slots) s.events (Died o ∷ []) holds_now.moves (tt, tt) in
      let begins = Each-append BeginsRight s.events (Died o ∷ []) holds_now.begins (tt, tt) in
      let answers = Each-append (AnswersRight slots) s.events (Died o ∷ []) holds_now.answers (tt, tt) in
      grind (arith, span_of-death, same_spot)

  -- ---- the calls of all parties stand and know what they did

  -- a call stands where it stood
  at_on : (p : ℕ) (wrote : List (Event T)) (start : LoanStart) (flight : LoanFlight)
      → At slots queue s p wrote start flight → At slots queue after p wrote start flight
  at_on = grind (arith, at_stays, same_spot, was_alive, died_with, still_dead)

-- ---- the turn

module _ {T : Type 0} (code : Coding T) (slots queue : ℕ) where
  abbrev channel : frame.Family T
  channel = family code slots queue

  -- after the death the machine has the words and the book of the channel
  fit_then : (kept : Registry T) (words : List ℕ) (s : Channel T) (o : ℕ) → Represents kept words s
      → Represents (kept_after_death kept o) words (after slots queue s o)
  fit_then = grind arith

  -- a call of any party stands where it stood
  call_on : (s : Channel T) (o q : ℕ) (start : Start T) (flight : Flight T) → channel.At s q start flight → channel.At (after slots queue s o) q start flight
  call_on = grind (arith, span_of-death, at_on)

  -- what a call of the party that dies knows stays true after the death
  known_on : (s : Channel T) (o since changes backs : ℕ) (flight : Flight T)
      → channel.Knows s o s.events since changes backs flight
      → channel.Knows (after slots queue s o) o (s.events ++ Died o ∷ []) since changes backs flight
  known_on = grind arith

  -- a death that the turns admit comes to what the frame asks of a death
  pub death_comes : (t : Trace T) (owner : ℕ) (sound : frame.Sound channel t) → MayDie t.world owner → frame.ComesByDeath channel t sound owner
  death_comes t owner sound may =
      let channel_now = sound.state in
      let same = sound.holds.same in
      let holds : HoldsNow slots queue channel_now t.world.latest channel_now.events t.world.turns =
      subst (λ es. HoldsNow slots queue channel_now t.world.latest es t.world.turns) (sym same) sound.holds in
      record {
        state = after slots queue channel_now owner;
        fit = fit_then t.world.kept t.world.words channel_now owner sound.fit;
        holds =
            subst (λ es. HoldsNow slots queue (after slots queue channel_now owner) t.world.latest (es ++ Died owner ∷ []) (t.world.turns + 1))
            same (now_then slots queue channel_now owner t.world.latest t.world.turns holds);
        calls = λ q start flight h. (call_on channel_now owner q start flight h, ap wrote_in (span_of-death q channel_now.events owner));
        calls_know = λ q since backs flight h. known_on channel_now owner since t.world.changes backs flight h;
      }
