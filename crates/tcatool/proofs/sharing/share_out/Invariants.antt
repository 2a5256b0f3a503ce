use Rattle.tcatool.proofs.SharedItems.{IsSharedTo}
use Rattle.tcatool.proofs.sharing.share_out.Given as goal

-- the items before this one were given their shares
abbrev pub invariant-loop-item : goal.invariant-loop-item
invariant-loop-item l = IsSharedTo l.plan l.fn.items l.items l.item-index l.accounts
