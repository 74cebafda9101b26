-- What a call, a split and a join leave of what passes know, and what the whole share says.
use Rattle.std.specs.Prelude.{◌≡◌, ◌⊎◌, ◌++◌, ◌+◌, ℕ, None, [], sum_by}
use Rattle.model.specs.declared.event.Event.{Event}
use Rattle.threaded.specs.Shares.{half_of, both_of, IsAll}
use Rattle.history.specs.declared.view.View.{View}
use Rattle.history.specs.History.{IsBeginning, AreFirst}

module _ {T : Type 0} where
  -- A pass with the whole share has made its whole history: by every measure, what it has
  -- seen is what it made.
  abbrev pub MissesNothing : View T → Type 0
  MissesNothing v = IsAll v.share → (f : Event T → ℕ) → sum_by f v.seen ≡ sum_by f v.made

  -- The pass kept its share, and its history and its run go on from those that it knew. With the whole share
  -- it misses nothing. That the history is one of a run of the structure's kind is a law of each pass.
  pub record Goes (old new : View T) : Type 0 where
    pub share : new.share ≡ old.share
    -- what had been seen is a beginning of what is seen
    pub since : IsBeginning old.seen new.seen
    -- the turns that were known are the first of those that are
    pub first : AreFirst old.turns new.turns
    -- with the whole share nothing is missing
    pub all : MissesNothing new

  -- The pass `old` was split into `left`, which goes on as it was, and `right`, a new one that has seen the
  -- same, has made nothing and is no party yet. Each has half of the share.
  pub record HasSplit (old left right : View T) : Type 0 where
    -- the pass that was split has seen, has made and is what it was
    pub seen : left.seen ≡ old.seen
    pub made : left.made ≡ old.made
    pub party : left.party ≡ old.party
    -- the new pass has seen the same, and has made nothing, as no party
    pub right_seen : right.seen ≡ old.seen
    pub right_made : right.made ≡ []
    pub right_party : right.party ≡ None
    -- both know the run that was known; the count of changes by others stays with the first
    pub turns : left.turns ≡ old.turns
    pub right_turns : right.turns ≡ old.turns
    pub others : left.others ≡ old.others
    pub right_others : right.others ≡ 0
    -- the split is one operation, and no step of a call
    pub asked : left.asked ≡ old.asked + 1
    pub aside : left.aside ≡ old.aside + 1
    pub right_asked : right.asked ≡ 0
    pub right_aside : right.aside ≡ 0
    -- each has half of the share
    pub share : left.share ≡ half_of old.share
    pub right_share : right.share ≡ half_of old.share

  -- The pass `theirs` was joined into `mine`. The joined pass knows one history, of which what
  -- each of the two had seen is a beginning, and one run. With the whole share it has seen just
  -- what one of the two had seen.
  pub record HasJoined (mine theirs new : View T) : Type 0 where
    -- it made what both made, is the party that `mine` was, and has both shares
    pub made : new.made ≡ mine.made ++ theirs.made
    pub party : new.party ≡ mine.party
    pub share : new.share ≡ both_of mine.share theirs.share
    -- what each of the two had seen is a beginning of what it has seen, and their turns are
    -- first turns of its own
    pub ours : IsBeginning mine.seen new.seen
    pub others : IsBeginning theirs.seen new.seen
    pub ours_ran : AreFirst mine.turns new.turns
    pub theirs_ran : AreFirst theirs.turns new.turns
    -- each operation of the join is aside: no step of a call
    pub aside : new.asked + (mine.aside + theirs.aside) ≡ (mine.asked + theirs.asked) + new.aside
    -- with the whole share, one of the two had seen all that it has seen
    pub whole : IsAll new.share → (new.seen ≡ mine.seen) ⊎ (new.seen ≡ theirs.seen)
