use Rattle.std.proofs.Common.{◌∙◌, ◌++◌, ◌∷◌, [], sym, ap, refl, length}
use Rattle.std.proofs.lemmas.List.{append_assoc}
use Rattle.tca_figures.proofs.Others.{line_push, names_push, not_empty, not_same, other_name, same_name, other_here, too_few, too_many}
use Rattle.tca_figures.proofs.sum.other_account.Goals as goal

pub loop-account-init : goal.loop-account-init
loop-account-init c = ([], [], refl, refl, refl, refl)

pub returns-in_default-split_first : goal.returns-in_default-split_first
returns-in_default-split_first c =
    let i = c.loop-account.invariant in
    other_here c.args.accounts.now c.args.others.now i.0 c.loop-account.left.now i.1 c.loop-account.right.now c.loop-account.line i.2 i.3 i.4
    (too_few c.in-Some.account.now c.loop-account.left.now c.in-Some.left_behind.now c.loop-account.right.now c.in-Some.ensures.cases.0 c.in_default-split_first.ensures.cases) i.5

pub returns-then-ne : goal.returns-then-ne
returns-then-ne c =
    let i = c.loop-account.invariant in
    let a = c.in-Some.account.now in
    let b = c.in-Some-split_first.other.now in
    let apart = other_name c.name.result.now c.name-in-Some.result.now a.name b.name c.if-ne.ensures c.name.ensures c.name-in-Some.ensures in
    other_here c.args.accounts.now c.args.others.now i.0 c.loop-account.left.now i.1 c.loop-account.right.now c.loop-account.line i.2 i.3 i.4
    (not_same a b c.loop-account.left.now c.in-Some.left_behind.now c.loop-account.right.now c.in-Some-split_first.right_behind.now
    c.in-Some.ensures.cases.0 c.in-Some-split_first.ensures.cases.0 apart) i.5

pub loop-account-preserved : goal.loop-account-preserved
loop-account-preserved c =
    let i = c.loop-account.invariant in
    let a = c.in-Some.account.now in
    let b = c.in-Some-split_first.other.now in
    let same = same_name c.name.result.now c.name-in-Some.result.now a.name b.name c.if-ne.ensures c.name.ensures c.name-in-Some.ensures in (
      i.0 ++ a ∷ [],
      i.1 ++ b ∷ [],
      i.2 ∙ (ap (λ z. i.0 ++ z) c.in-Some.ensures.cases.0 ∙ sym (append_assoc i.0 (a ∷ []) c.in-Some.left_behind.now)),
      i.3 ∙ (ap (λ z. i.1 ++ z) c.in-Some-split_first.ensures.cases.0 ∙ sym (append_assoc i.1 (b ∷ []) c.in-Some-split_first.right_behind.now)),
      names_push i.0 i.1 a b i.4 same,
      line_push i.1 b c.loop-account.line c.line_behind-line.result i.5 c.line_behind-line.ensures,
    )

pub returns-else-is_empty : goal.returns-else-is_empty
returns-else-is_empty c =
    let i = c.loop-account.invariant in
    other_here c.args.accounts.now c.args.others.now i.0 c.loop-account.left.now i.1 c.loop-account.right.now c.loop-account.line i.2 i.3 i.4
    (too_many c.loop-account.left.now c.loop-account.right.now c.in_default.ensures.cases (not_empty (length c.loop-account.right.now) c.if-is_empty.ensures)) i.5
