-- Lock-freedom of a family whose frame holds of every run without a bound of turns: from a measure of its
-- calls it follows that calls keep ending.
use Rattle.model.proofs.Names.{AreWithinEnds, Begin, Bool, Bound, Coding, Die, Flight, Going, IsAmong, IsReachedOn}
use Rattle.model.proofs.Names.{KeepsEnding, Kind, List, None, Party, Some, Start, Trace, after_turns, call_refusal}
use Rattle.model.proofs.Names.{ends, flight_in, is_question, kept_after_begin, kept_after_death, length, number_of, old_of}
use Rattle.model.proofs.Names.{party_of, refl, steps_in, stretch, subst, sym, true, want_of, ℕ, ◌∙◌, ◌≡◌, ◌≤◌}
use Rattle.model.proofs.Frame.{Family, Sound}
use Rattle.model.proofs.LockFree.Measure.{Measure, Owed, Leaves, Harmless, FallsBy, asked}
use Rattle.model.proofs.LockFree.Stays.{under_way}
use Rattle.model.proofs.LockFree.Walks.{calls_end}
use Rattle.model.proofs.Reached.{turn_making, reached_on_more}
use Rattle.model.proofs.Rows.{possible_on}

module _ {T : Type 0} (kind : Kind) (F : Coding T → ℕ → Family T) (M : ℕ → Measure T) where
  abbrev SoundThere : Trace T → Type 0
  SoundThere t = Sound (F t.world.coding t.world.capacity) t

  -- The measure of the family at the capacity of this machine.
  abbrev there : Trace T → Measure T
  there t = M t.world.capacity

  -- What the family owes, of each machine that turns reach: its frame holds (`sound`), the measure of a call
  -- under way is bounded (`most`), a begin and a death give no other call more steps (`begins`, `dies`), and
  -- with a step or a decision the measure of the call falls (`step`, `decision`).
  pub record FramedLaws : Type 0 where
    pub sound : (t : Trace T) → t.world.kind ≡ kind → IsReachedOn t → SoundThere t
    pub most : (t : Trace T) → SoundThere t → (p : ℕ) (x : Party T) (flight : Flight T) (since : ℕ)
        → party_of p t.world.latest ≡ Some x → x.doing ≡ Going flight since
        → ((there t).left t.world.words t.world.kept flight ≤ (there t).alone) × ((there t).pays flight ≤ (there t).changes)
    pub begins : (t : Trace T) → SoundThere t → (p : ℕ) (start : Start T) → call_refusal t.world (Begin p start) ≡ None
        → Harmless (there t) t.world p t.world.words (kept_after_begin t.world.coding t.world.capacity start p t.world.kept)
    pub dies : (t : Trace T) → SoundThere t → (owner : ℕ) → call_refusal t.world (Die owner) ≡ None
        → (q : ℕ) (other : Flight T) → flight_in t.world q ≡ Some other
        → Leaves (there t) t.world t.world.words (kept_after_death t.world.kept owner) other
    pub step : (t : Trace T) → SoundThere t → (p : ℕ) (x : Party T) (flight : Flight T) (since : ℕ)
        → party_of p t.world.latest ≡ Some x → x.doing ≡ Going flight since
        → FallsBy (there t) t.world p x flight (asked (there t) t.world flight) (old_of t.world.words (asked (there t) t.world flight))
    pub decision : (t : Trace T) → SoundThere t → (p : ℕ) (x : Party T) (flight : Flight T) (since : ℕ) (said : Bool)
        → party_of p t.world.latest ≡ Some x → x.doing ≡ Going flight since → is_question (want_of t.world.coding flight) ≡ true
        → FallsBy (there t) t.world p x flight None (number_of said)

  module _ (L : FramedLaws) where
    record IsThere (c : ℕ) (t : Trace T) : Type 0 where
      pub is : t.world.kind ≡ kind
      pub capacity : t.world.capacity ≡ c
      pub reached : IsReachedOn t

    there_sound : {c : ℕ} {t : Trace T} → IsThere c t → SoundThere t
    there_sound {t = t} is_there = L.sound t is_there.is is_there.reached

    -- what the measure has to show of each turn follows from the laws of the kind
    owed : {c : ℕ} (ps : List ℕ) → Owed (M c) call_refusal (IsThere c) (IsAmong ps)
    owed {c} ps =
        record {
          keeps = λ t turn e may h.
              (let making = turn_making t.world turn in
              record { is = making.kind ∙ h.is; capacity = making.capacity ∙ h.capacity; reached = reached_on_more t turn e h.reached });
          most = λ t h p flight e.
              (let under = under_way t.world p flight e in
              subst (λ n. ((M n).left t.world.words t.world.kept flight ≤ (M n).alone) × ((M n).pays flight ≤ (M n).changes)) h.capacity
              (L.most t (there_sound h) p under.party flight under.since under.found under.doing));
          begins = λ t h p start e may.
              subst (λ n. Harmless (M n) t.world p t.world.words (kept_after_begin t.world.coding t.world.capacity start p t.world.kept)) h.capacity
              (L.begins t (there_sound h) p start e);
          dies = λ t h owner e may q other is.
              subst (λ n. Leaves (M n) t.world t.world.words (kept_after_death t.world.kept owner) other) h.capacity
              (L.dies t (there_sound h) owner e q other is);
          step = λ t h p x flight since found doing.
              subst (λ n. FallsBy (M n) t.world p x flight (asked (M n) t.world flight) (old_of t.world.words (asked (M n) t.world flight))) h.capacity
              (L.step t (there_sound h) p x flight since found doing);
          decision = λ t h p x flight since said found doing asks.
              subst (λ n. FallsBy (M n) t.world p x flight None (number_of said)) h.capacity
              (L.decision t (there_sound h) p x flight since said found doing asks);
        }

    -- from each machine reached, calls end as often as the bound says
    pub framed_keep_ending : (bound : Bound) → ((c n size : ℕ) → bound n c size ≡ stretch n (M c).changes (M c).alone) → KeepsEnding T kind bound
    framed_keep_ending bound same t is r ps turns allowed below =
        let c = t.world.capacity in
        subst (λ b. AreWithinEnds b (steps_in t turns) (ends t.events) (ends (after_turns t turns).events))
        (sym (same c (length ps) t.world.coding.size))
        (calls_end possible_on (owed ps) ps (λ turn may. may) t
        (record { is = is; capacity = refl; reached = r }) turns allowed below)
