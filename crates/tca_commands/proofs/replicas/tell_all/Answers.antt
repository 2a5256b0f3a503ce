use Rattle.std.proofs.Common.{◌≡◌, ◌∙◌, ◌++◌, [], map, ap, ap₂, sym}
use Rattle.std.proofs.Math.ListN.{drop_of_length-le}
use Rattle.std.proofs.lemmas.List.{append-nil, take_all}
use Rattle.std.proofs.lemmas.List.Edits.{map_over_more}
use Rattle.std.specs.Prelude.{List, slice_set}
use Rattle.tca_gossip.specs.Replicas.{ReplicaView}
use Rattle.tca_ingest.specs.Closed.{ClosedView}
use Rattle.tca_ingest.specs.Entries.{EntryView}
use Rattle.tca_commands.specs.inside.Absorbs.{closed_with, with_lacking}
use Rattle.tca_commands.proofs.replicas.tell_all.Goals as goal

pub loop-other-preserved : goal.loop-other-preserved
loop-other-preserved c =
    let l = c.loop-other in
    let first = c.args.first.now in
    let item = c.other-item.result in
    let was = c.other.view_is ∙ sym c.other-item.is in
    let told : c.tell.new.into ≡ with_lacking item.replica first = c.in_ok-tell.ensures.told ∙ ap (λ (v : ClosedView). with_lacking v.replica first) was in
    ap₂ (λ (r : ReplicaView) (j : List EntryView). slice_set l.others l.other-index (record { replica = r; journal = j })) told (ap (λ (v : ClosedView). v.journal) was)
    ∙ map_over_more (closed_with first) c.args.others.now l.others l.other-index item c.loop-other-test.true l.invariant c.other-item.is

pub returns-clause-told : goal.returns-clause-told
returns-clause-told c =
    let l = c.loop-other in
    let others = c.args.others.now in
    let past = c.loop-other-test.false in
    let whole : l.others ≡ map (closed_with c.args.first.now) others ++ [] = rw (drop_of_length-le others past) at (rw (take_all l.other-index others past) at l.invariant) in
    whole ∙ append-nil (map (closed_with c.args.first.now) others)
