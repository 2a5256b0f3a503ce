use Rattle.std.proofs.Common.{◌≡◌, ℕ, take}
use Rattle.std.specs.Prelude.{option_map}
use Rattle.std.specs.BTreeMap.{get}
use Rattle.std.specs.Ordering.{nat_cmp}
use Rattle.tca_split.specs.inside.Buffering.{empty_for}
use Rattle.tca_split.proofs.buffers.Buffers.new.Given as goal

-- the first domains have buffers
abbrev pub invariant-loop-domain : goal.invariant-loop-domain
invariant-loop-domain l = record {
  made : (d : ℕ) → option_map (λ v. v.items) (get nat_cmp l.buffers d) ≡ empty_for (take l.domain-index l.domains) d;
}
