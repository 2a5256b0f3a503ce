use Rattle.std.proofs.Common.{◌∙◌, ◌∷◌, [], ◌++◌, List, ap, arith}
use Rattle.tcatool.specs.declared.sharing.Running.{Running}
use Rattle.tcatool.proofs.SharedItems.{opened_more}
use Rattle.tcatool.proofs.sharing.begin.Goals as goal

pub loop-n-preserved : goal.loop-n-preserved
loop-n-preserved c =
    c.in_ok-push.ensures.items
    ∙ ap (λ (l : List Running). l ++ c.new.result ∷ []) c.loop-n.invariant
    ∙ opened_more c.args.plan.now.accounts c.loop-n.n c.meter.result c.other.result c.new.result (omega (arith, c.accounts-n-end.ensures.value)) c.meter.ensures.value c.other.ensures c.new.ensures
