use Rattle.std.proofs.Common.{◌∙◌, ◌++◌, ◌∷◌, [], inl, inr, rules, sym, subst, ap}
use Rattle.std.specs.List.{AllByRecursion}
use Rattle.std.proofs.lemmas.List.{append-nil, append_assoc}
use Rattle.tca_figures.specs.Figures.{AllFit64, StatedAccount}
use Rattle.tca_figures.specs.Sums.{AreInOrder, FitsAccount, added_account, added_accounts, names}
use Rattle.tca_figures.proofs.Ascending.{all_push}
use Rattle.tca_figures.proofs.InForm.{added_none, added_step, names_behind}
use Rattle.tca_figures.proofs.Sound.{both_parts}
use Rattle.tca_figures.proofs.Wanting.{wanted_at}
use Rattle.tca_figures.proofs.sum.account_sums.Goals as goal

pub returns-in_err-sum-clause-refused : goal.returns-in_err-sum-clause-refused
returns-in_err-sum-clause-refused c =
    let i = c.loop-account.invariant in
    let a = c.in-Some.account.now in
    let b = c.in-Some-split_first.other.now in
    let behind = added_accounts c.in-Some.left_behind.now c.in-Some-split_first.right_behind.now in
    let step = added_step c.loop-account.left.now c.loop-account.right.now a c.in-Some.left_behind.now b c.in-Some-split_first.right_behind.now c.in-Some.ensures.cases.0 c.in-Some-split_first.ensures.cases.0 in
    let worse : ¬ FitsAccount (added_account a b) → ¬ AllByRecursion FitsAccount (added_accounts c.args.accounts.now c.args.others.now) = λ n f. n
    (both_parts FitsAccount c.loop-account.sums.items (added_account a b ∷ behind) (subst (AllByRecursion FitsAccount) (i.0 ∙ ap (λ z. c.loop-account.sums.items ++ z) step) f)).1.0 in
    elim c.in_err-sum.ensures.refused [
      | inl memory ↦
          let wanted = wanted_at (added_accounts c.args.accounts.now c.args.others.now) c.loop-account.sums.items (added_account a b) behind (i.0 ∙ ap (λ z. c.loop-account.sums.items ++ z) step) i.2 memory.1 in
          search (rules, memory.0, wanted)
      | inr range ↦ let wide = worse range.1 in search (rules, wide, range.0)
    ]

pub returns-in_err-push_account-clause-refused : goal.returns-in_err-push_account-clause-refused
returns-in_err-push_account-clause-refused c =
    let i = c.loop-account.invariant in
    let a = c.in-Some.account.now in
    let b = c.in-Some-split_first.other.now in
    let sum = c.in_ok-sum.ensures.added in
    let behind = added_accounts c.in-Some.left_behind.now c.in-Some-split_first.right_behind.now in
    let step = added_step c.loop-account.left.now c.loop-account.right.now a c.in-Some.left_behind.now b c.in-Some-split_first.right_behind.now c.in-Some.ensures.cases.0 c.in-Some-split_first.ensures.cases.0 in
    let wanted = wanted_at (added_accounts c.args.accounts.now c.args.others.now) c.loop-account.sums.items (added_account a b) behind (i.0 ∙ ap (λ z. c.loop-account.sums.items ++ z) step) i.2
    (subst (λ (z : StatedAccount). AllFit64 z.total) sum.0 sum.1.0) in
    search (rules, wanted)

pub loop-account-preserved : goal.loop-account-preserved
loop-account-preserved c =
    let i = c.loop-account.invariant in
    let a = c.in-Some.account.now in
    let b = c.in-Some-split_first.other.now in
    let sum = c.in_ok-sum.ensures.added in
    let el = c.in-Some.ensures.cases.0 in
    let er = c.in-Some-split_first.ensures.cases.0 in
    let behind = added_accounts c.in-Some.left_behind.now c.in-Some-split_first.right_behind.now in
    let step = added_step c.loop-account.left.now c.loop-account.right.now a c.in-Some.left_behind.now b c.in-Some-split_first.right_behind.now el er in
    let pushed = c.in_ok-push_account.ensures in (
      i.0 ∙ (ap (λ z. c.loop-account.sums.items ++ z) (step ∙ ap (λ z. z ∷ behind) (sym sum.0))
          ∙ (sym (append_assoc c.loop-account.sums.items (c.in_ok-sum.sum ∷ []) behind) ∙ ap (λ z. z ++ behind) (sym pushed))),
      names_behind a b c.in-Some.left_behind.now c.in-Some-split_first.right_behind.now (sym (ap names el) ∙ (i.1 ∙ ap names er)),
      subst (AllByRecursion FitsAccount) (sym pushed) (all_push FitsAccount c.loop-account.sums.items c.in_ok-sum.sum i.2 sum.1),
      (subst (AllByRecursion (λ (z : StatedAccount). AreInOrder z.spans)) el i.3).1,
      (subst (AllByRecursion (λ (z : StatedAccount). AreInOrder z.spans)) er i.4).1,
    )

pub returns-clause-added : goal.returns-clause-added
returns-clause-added c =
    let i = c.loop-account.invariant in
    let none = added_none c.loop-account.left.now c.loop-account.right.now c.in_default.ensures.cases i.1 in
    (sym (i.0 ∙ (ap (λ z. c.loop-account.sums.items ++ z) none ∙ append-nil c.loop-account.sums.items)), i.2)
