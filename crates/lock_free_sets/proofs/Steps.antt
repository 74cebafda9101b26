-- How many operations the calls on sets take, from the bounds of the model.
use Rattle.lock_free_sets.proofs.Names.{◌≡◌, ℕ, ◌+◌, ◌≤◌, ⊎_elim, Option, Some, None, refl, sym, ap, subst, ◌∙◌, arith}
use Rattle.lock_free_sets.proofs.Names.{Calling, Ends, Kind, Bits, ResetAll, Start, OneWord, one_word, View}
use Rattle.model.specs.declared.party.Party.{Party}
use Rattle.model.specs.declared.turn.Kind.TheVariants as kinds
use Rattle.model.specs.Parties.{party_of}
use Rattle.model.specs.Progress.{WaitFree, IsWithin, guarantee_of}
use Rattle.model.specs.World.{Trace}
use Rattle.history.specs.History.{started, steps_of, run_of}
use Rattle.history.specs.Stages.{StepsOnly, taken_by}
use Rattle.history.specs.Steps.{TakesAtMost}
use Rattle.history.proofs.KnownRuns.{known_run}
use Rattle.history_indices.proofs.Indices.{index_pays}
use Rattle.history.proofs.Paid.{AllowsOne, Pays, TakesBy, takes, progress_of}
use Rattle.history_bits.proofs.Sets.{bits_pays, counts_pays}
use Rattle.lock_free_sets.specs.Sets.Kinds.{SetKind, Flags, Counts, machine_kind}
use Rattle.lock_free_sets.specs.Sets.Stages.{empties_none}

-- base and w are what the pass knew before the call and after it, e is its end, m its room then
module _ {C M E : Type 0} {call : Calling ℕ C M E} {base w : View ℕ} {e : E} {m : M} (idle : base.going ≡ None) {capacity : ℕ}
    (size : base.capacity ≡ capacity) where
  -- a call that has ended took no more operations than the model says of it
  take : (kind : Kind) → ((n : ℕ) → Pays {T = ℕ} one_word kind n) → Ends one_word kind call base e m w
      → AllowsOne (guarantee_of kind capacity one_word.size call.start)
      → TakesBy one_word kind capacity (guarantee_of kind capacity one_word.size call.start) base w
  take kind pays ends least =
      subst (λ n. AllowsOne (guarantee_of kind n one_word.size call.start)
      → TakesBy one_word kind n (guarantee_of kind n one_word.size call.start) base w) size
      (λ some. takes one_word kind call base w e m idle (pays base.capacity) some ends) least

  -- A call on a bit set takes what the model guarantees of it.
  pub bits_take : Ends one_word kinds.Bits call base e m w → AllowsOne (guarantee_of kinds.Bits capacity one_word.size call.start)
      → TakesBy one_word kinds.Bits capacity (guarantee_of kinds.Bits capacity one_word.size call.start) base w
  bits_take = take kinds.Bits (bits_pays one_word)

  -- A call on a counting bit set takes what the model guarantees of it.
  pub counts_take : Ends one_word kinds.Counts call base e m w → AllowsOne (guarantee_of kinds.Counts capacity one_word.size call.start)
      → TakesBy one_word kinds.Counts capacity (guarantee_of kinds.Counts capacity one_word.size call.start) base w
  counts_take = take kinds.Counts (counts_pays one_word)

  -- A call on a unique index set takes what the model guarantees of it.
  pub indices_take : Ends one_word kinds.Indices call base e m w → AllowsOne (guarantee_of kinds.Indices capacity one_word.size call.start)
      → TakesBy one_word kinds.Indices capacity (guarantee_of kinds.Indices capacity one_word.size call.start) base w
  indices_take = take kinds.Indices (index_pays one_word)

-- ---- a call that takes no step of the machine is one look at most

-- base and w are what the pass knew before the call and after it, e is its end, m its room then
module _ {kind : Kind} {C M E : Type 0} {call : Calling ℕ C M E} {base w : View ℕ} {e : E} {m : M} (ends : Ends one_word kind call base e m w)
    (idle : base.going ≡ None) (pays : Pays {T = ℕ} one_word kind base.capacity)
    (none : guarantee_of kind base.capacity one_word.size call.start ≡ WaitFree 0) where
  -- The trace of the run that the pass knows.
  abbrev known : Trace ℕ
  known = run_of one_word kind base.capacity w.turns

  -- The call has taken no step of the machine.
  no_step : w.taken ≤ 0
  no_step = go (party_of ends.party known.world.latest) refl
    where
      -- a call for which the model says no step has taken none
      go : (o : Option (Party ℕ)) → party_of ends.party known.world.latest ≡ o → w.taken ≤ 0
      go None is = (let no : ◌≡◌ {A = Option (Start ℕ)} None (Some call.start) = sym (ap started is) ∙ ends.named in absurd (cc))
      go (Some x) is =
          let named : ◌≡◌ {A = Option (Start ℕ)} (Some x.start) (Some call.start) = sym (ap started is) ∙ ends.named in
          let same : x.start ≡ call.start = cc in
          let steps : x.steps ≡ w.taken = sym (ap steps_of is) ∙ ends.counted in
          let within : IsWithin (WaitFree 0) (progress_of known.world.changes x) =
          subst (λ g. IsWithin g (progress_of known.world.changes x))
          (ap (guarantee_of kind base.capacity one_word.size) same ∙ none)
          (pays known (known_run ends.ran.knows) ends.party x is) in
          omega arith

  -- The call has asked for one operation at most.
  one_look : TakesAtMost 1 base w
  one_look = ⊎_elim only (λ once. once) ends.took
    where
      -- If all that was asked for are steps of the call, nothing was asked for.
      only : StepsOnly base w → w.asked ≤ base.asked + 1
      only is =
          let all : w.asked + taken_by base.going base.taken ≤ base.asked + w.taken = is in
          let zero = no_step in
          omega arith

-- emptying a set without places takes one operation at most
pub none_takes : (kind : SetKind) (base w : View ℕ) (m : OneWord) → base.going ≡ None → base.capacity ≡ 0
    → Ends one_word (machine_kind kind) (empties_none kind) base tt m w → TakesAtMost 1 base w
none_takes Flags base w m idle none ends =
    one_look ends idle (bits_pays one_word base.capacity) (ap (λ n. guarantee_of {T = ℕ} kinds.Bits n one_word.size (Bits ResetAll)) none)
none_takes Counts base w m idle none ends =
    one_look ends idle (counts_pays one_word base.capacity) (ap (λ n. guarantee_of {T = ℕ} kinds.Counts n one_word.size (Bits ResetAll)) none)
