use Rattle.std.proofs.lemmas.Grind.{common_steps}
use Rattle.std.proofs.Common.{◌≡◌, ◌∙◌, ℕ, List, take, ap, arith}
use Rattle.std.proofs.Math.Seq.{take-length}
use Rattle.tca_gossip.specs.Coupling.{counts_of}
use Rattle.tca_gossip.specs.Replicas.{appended, chain_of}
use Rattle.tca_gossip.specs.Runs.{RunView, delta_of, rests, summary_count}
use Rattle.tca_commands.proofs.replicas.tell.Goals as goal

pub returns-clause-told : goal.returns-clause-told
returns-clause-told c =
    let into = c.args.into.now in
    let from = c.args.from.now in
    let delta = c.in_ok-delta.delta in
    let ok = c.in_ok-of_absorb.ensures.absorbed in
    let lacking : delta ≡ delta_of (summary_count (counts_of into.chains)) from.chains =
    c.in_ok-delta.ensures ∙ ap (λ (counts : List (ℕ × ℕ)). delta_of (summary_count counts) from.chains) c.in_ok-summary.ensures.exact in
    (rw ok at c.absorb.ensures.state)
    ∙ ap (λ n. appended into (take n (rests (chain_of into) delta))) (rw ok at c.absorb.ensures.outcome).1
    ∙ ap (appended into) (take-length (rests (chain_of into) delta))
    ∙ ap (λ (runs : List RunView). appended into (rests (chain_of into) runs)) lacking

pub returns-in_err-summary-clause-told : goal.returns-in_err-summary-clause-told
returns-in_err-summary-clause-told c = grind (arith, common_steps)

pub returns-in_err-summary-clause-refused : goal.returns-in_err-summary-clause-refused
returns-in_err-summary-clause-refused c = grind (arith, common_steps)

pub returns-in_err-delta-clause-told : goal.returns-in_err-delta-clause-told
returns-in_err-delta-clause-told c = grind (arith, common_steps)

pub returns-in_err-delta-clause-refused : goal.returns-in_err-delta-clause-refused
returns-in_err-delta-clause-refused c = grind (arith, common_steps)

pub returns-in_err-of_absorb-clause-told : goal.returns-in_err-of_absorb-clause-told
returns-in_err-of_absorb-clause-told c = grind (arith, common_steps)

pub returns-in_err-of_absorb-clause-refused : goal.returns-in_err-of_absorb-clause-refused
returns-in_err-of_absorb-clause-refused c = grind (arith, common_steps)
