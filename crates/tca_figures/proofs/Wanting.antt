-- Where memory is wanted for a sum.
use Rattle.std.proofs.Common.{◌≡◌, ◌∙◌, ◌++◌, ◌∷◌, List, length, take, sym, ap, subst}
use Rattle.std.specs.Prelude.{slice_get}
use Rattle.std.specs.List.{AllByRecursion}
use Rattle.std.proofs.Math.Seq.{take-append_seam}
use Rattle.tca_figures.specs.Figures.{AllFit64, StatedAccount}
use Rattle.tca_figures.specs.Sums.{FitsAccount, SumsWantMemory}
use Rattle.tca_figures.proofs.Cuts.{at_seam}

-- it is wanted for this account, behind those in front
pub wanted_at : (sums done : List StatedAccount) (one : StatedAccount) (behind : List StatedAccount) → sums ≡ done ++ one ∷ behind
    → AllByRecursion FitsAccount done → AllFit64 one.total → SumsWantMemory sums
wanted_at sums done one behind e fit total = record {
  before = length done;
  fit = subst (AllByRecursion FitsAccount) (sym (ap (take (length done)) e ∙ take-append_seam done (one ∷ behind))) fit;
  account = one;
  account_is = ap (λ z. slice_get z (length done)) e ∙ at_seam done one behind;
  total = total;
}
