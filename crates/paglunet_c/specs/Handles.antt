-- What lies behind a handle that C holds.
use Rattle.std.specs.Prelude.{None, Some}
use Rattle.std.specs.declared.option.Option.{Option}
use Rattle.std.specs.declared.alloc.Global.{Global}
use Rattle.std.specs.contracts.impls.GlobalAllocator.TheImpl.{ghosts}
use Rattle.std.specs.Box.Ownership.{box_owns}
use base.Fml.{Fml, ftrue, fex}
use denote.RawPtr.{Ptr}
use Rattle.paglunet_c.specs.declared.held.Held.{Held}
use Rattle.paglunet_c.specs.contracts.held.Held.{the_row as held_row}

-- a full handle owns what a box of its value owns, an empty one owns nothing
abbrev pub owned : Ptr → Option Held → Fml
owned p None = ftrue
owned p (Some v) = fex Global (λ heap. box_owns (ghosts.dealloc_token heap) held_row p v)
