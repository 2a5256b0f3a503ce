use Rattle.std.proofs.Common.{◌≡◌, [], ◌∷◌, None, refl, arith}
use Rattle.tcatool.specs.Listed.{share_fields}
use Rattle.tcatool.proofs.ShareNames.{name_short, none_shared, past_all}
use Rattle.tcatool.proofs.item.share_names.Goals as goal
use Rattle.tcatool.proofs.item.share_names.Goals.{in_default-via-in-Some-Some+else-share-accounts, in_default-via-in-Some+in_default, in_default-via-in_default}

pub returns-in-Some-Some-clause-short : goal.returns-in-Some-Some-clause-short
returns-in-Some-Some-clause-short c = name_short c.in-Some-Some.plan.accounts _ c.name.result.now c.accounts.ensures.limits.named c.name.ensures

pub returns-in_default-clause-fields : goal.returns-in_default-clause-fields
returns-in_default-clause-fields c = elim c.in_default.branch [
  | in_default-via-in-Some-Some+else-share-accounts w ↦ let past = past_all w.in-Some-Some.plan w.in-Some-Some.share (omega arith) in cc
  | in_default-via-in-Some+in_default w ↦ let none = none_shared c.args.plan.now in cc
  | in_default-via-in_default w ↦ let none : share_fields None c.args.share ≡ [] ∷ [] ∷ [] = refl in cc
]
