use Rattle.std.proofs.Common.{◌≡◌, ◌-◌, ◌++◌, ◌∙◌, List, drop, length, sym, ap, arith, length-drop}
use Rattle.std.proofs.lemmas.List.{nil_from_length}
use Rattle.tca_report.specs.report.Reports.{PacketReport}
use Rattle.tca_gossip.specs.Replicas.{of, with_origin}
use Rattle.tca_gossip.specs.inside.Storage.{held_of}
use Rattle.tca_gossip.specs.Runs.{rest_of}
use Rattle.tca_gossip.proofs.RunsAtOnce.{none_more}
use Rattle.tca_gossip.proofs.at_once.extend_one.Goals as goal
use Rattle.tca_gossip.proofs.at_once.extend_one.Goals.{then-len-gt0+in_ok-share+in_ok-extend, else-len-gt0}

pub extend-requires : goal.extend-requires
extend-requires c =
    let skip = length c.held_of.result.now - c.args.run.now.start in
    rw c.in_ok-share.ensures (omega (arith, ap length c.in_ok-rest.ensures, length-drop skip c.args.run.now.reports, ap length c.held_of.ensures.items, c.held_of.ensures.limit, c.requires))

pub returns-clause-kept : goal.returns-clause-kept
returns-clause-kept c =
    let run = c.args.run.now in
    let held = held_of c.args.chains.now in
    let rest : c.in_ok-rest.rest ≡ rest_of held run =
    c.in_ok-rest.ensures ∙ ap (λ (l : List PacketReport). drop (length l - run.start) run.reports) (c.held_of.ensures.items ∙ ap held c.origin-origin.ensures.value) in
    elim c.if-len-gt0.branch [
      | then-len-gt0+in_ok-share+in_ok-extend w ↦ λ q. rw w.chains-is (w.in_ok-extend.ensures q ∙ (λ j. held q ++ of q (with_origin (c.origin-origin.ensures.value j) ((w.in_ok-share.ensures ∙ rest) j))))
      | else-len-gt0 w ↦ λ q. rw w.chains-is (none_more c.args.chains.now run.origin (rest_of held run) (sym rest ∙ nil_from_length c.in_ok-rest.rest (omega (arith, w.if-len-gt0.false, c.len.ensures))) q)
    ]

pub returns-clause-rest : goal.returns-clause-rest
returns-clause-rest c =
    let run = c.args.run.now in
    c.in_ok-rest.ensures ∙ ap (λ (l : List PacketReport). drop (length l - run.start) run.reports) (c.held_of.ensures.items ∙ ap (held_of c.args.chains.now) c.origin-origin.ensures.value)
