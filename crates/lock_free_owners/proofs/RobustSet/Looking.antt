-- A look at a word takes one operation, and the pass then knows the history up to this load.
use Rattle.lock_free_owners.proofs.Names.{ℕ, ◌<◌, [], ◌∷◌, slice_index, ap, ◌∙◌, OwesAsk, one_word, View, IsMachine, LooksAt}
use Rattle.steps.specs.declared.ask.Op.TheVariants.{Load}
use Rattle.model.specs.declared.turn.Kind.TheVariants as kinds
use Rattle.history.proofs.Calls.{get_left}
use Rattle.history.proofs.PassLooks.{looks_at}

-- the load of any word keeps the rule of the table, and tells what a look at this word tells
pub owes_word : (capacity words slots id word : ℕ) (v : View ℕ) → word < words → 0 < v.share.part
    → OwesAsk (λ (z : View ℕ). z.asked) (IsMachine one_word kinds.Robust capacity) words slots id
    (λ u n w. LooksAt one_word kinds.Robust capacity word u n w) word Load (v, [])
owes_word capacity words slots id word v below some = (
  below,
  λ s m long at small. (
      -- The load is a look at the whole history, and what it finds is the word in the machine of that moment.
      let look = looks_at one_word kinds.Robust capacity slots id word v some (λ late h. h) in
      let (after, act, valid, kept, (looks, same_slots), seen, counted) = look s m long at small in (
        after,
        act,
        valid,
        kept,
        (
          record {
            looks = looks;
            trace = m.trace;
            run = m.run;
            seen = seen;
            word_is = λ low. ap (λ ws. slice_index ws word) m.words ∙ get_left m.trace.world.words (0 ∷ []) word low;
          },
          counted,
          same_slots,
        ),
      )),
)
