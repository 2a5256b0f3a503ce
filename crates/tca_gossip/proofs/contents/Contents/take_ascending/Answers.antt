use Rattle.std.proofs.Common.{◌≡◌, ◌∙◌, ◌+◌, ◌++◌, List, [], length, refl, sym, ap, arith}
use Rattle.tca_join.specs.Sets.{in_order}
use Rattle.tca_join.proofs.Merge.{in_order_of_rising}
use Rattle.tca_report.specs.report.Reports.{PacketReport, report_cmp}
use Rattle.tca_report.proofs.lemmas.report.Order.{report_total, report_exact}
use Rattle.tca_accounts.specs.Plans.{AccountPlan}
use Rattle.tca_gossip.specs.Replicas.{appended, fresh_of, with_origin}
use Rattle.tca_gossip.specs.inside.Storage.{replica_of}
use Rattle.tca_gossip.proofs.Agreeing.{without_book}
use Rattle.tca_gossip.proofs.AtOnce.{own_is, own_replica, own_room, own_within_all, refilled}
use Rattle.tca_gossip.proofs.Newcomers.{whole_fresh}
use Rattle.tca_gossip.proofs.contents.Contents.take_ascending.Goals as goal

pub extended_copy-requires : goal.extended_copy-requires
extended_copy-requires c =
    let few = length c.args.reports.now in
    own_room c.self.inside.name c.self.inside.log c.self.inside.chains c.self.inside.billing few few (few + length c.self.inside.log) c.self.invariant (omega arith) refl
    (omega (arith, c.len.ensures.length, c.if-len-gt0.false, c.len-else-len-gt0.ensures, c.if-len-gt-LIMIT.false))

pub invariant_of-self : goal.invariant_of-self
invariant_of-self c = rw c.in_err-take_shared.ensures.err c.self.invariant

pub invariant_of-self-then-not-branch : goal.invariant_of-self-then-not-branch
invariant_of-self-then-not-branch c = rw (c.in_ok-take_shared.ensures.kept c.if-not-branch.true) c.self.invariant

pub returns-then-not-branch-clause-kept : goal.returns-then-not-branch-clause-kept
returns-then-not-branch-clause-kept c = rw (c.in_ok-take_shared.ensures.kept c.if-not-branch.true, ← c.self.view_is) (λ e. refl)

pub invariant_of-self-2 : goal.invariant_of-self-2
invariant_of-self-2 c =
    let name = c.self.inside.name in
    let log = c.self.inside.log in
    let more = c.take_shared.new.self in
    let es = c.self.inside.chains in
    let fs = c.in_ok-chains.chains in
    let billing = c.self.inside.billing in
    let reports = c.args.reports.now in
    let took = c.if-not-branch.false in
    let none : log ≡ [] = c.in_ok-take_shared.ensures.none took in
    let rising = in_order_of_rising report_cmp report_total report_exact reports (c.in_ok-take_shared.ensures.rises took) in
    let logs : more ≡ in_order report_cmp (log ++ reports) = c.in_ok-take_shared.ensures.new took ∙ sym (ap (λ (l : List PacketReport). in_order report_cmp (l ++ reports)) none ∙ rising) in
    let rises = c.in_ok-chains.ensures.rises in
    let kept = c.in_ok-chains.ensures.kept in
    let replica = own_replica name log more es fs billing c.self.invariant reports rises kept logs in
    let within = own_within_all name log more es fs billing c.self.invariant reports rises kept logs (omega (arith, ap length (c.in_ok-take_shared.ensures.new took), ap length none)) in
    refilled name billing.plan more fs c.release.new.self rises replica within c.release.ensures.plan (without_book more c.release.new.self c.release.ensures.kept)

pub returns-clause-fresh : goal.returns-clause-fresh
returns-clause-fresh c =
    let log = c.self.inside.log in
    let reports = c.args.reports.now in
    let took = c.if-not-branch.false in
    let rising = in_order_of_rising report_cmp report_total report_exact reports (c.in_ok-take_shared.ensures.rises took) in
    let whole : fresh_of log reports ≡ reports = whole_fresh log reports reports (sym rising) (ap length (c.in_ok-take_shared.ensures.none took)) refl in
    rw (← c.self.view_is) (λ e. whole)

pub returns-clause-state : goal.returns-clause-state
returns-clause-state c =
    let name = c.self.inside.name in
    let log = c.self.inside.log in
    let more = c.take_shared.new.self in
    let es = c.self.inside.chains in
    let fs = c.in_ok-chains.chains in
    let billing = c.self.inside.billing in
    let reports = c.args.reports.now in
    let took = c.if-not-branch.false in
    let none : log ≡ [] = c.in_ok-take_shared.ensures.none took in
    let rising = in_order_of_rising report_cmp report_total report_exact reports (c.in_ok-take_shared.ensures.rises took) in
    let fresh : fresh_of log reports ≡ reports = whole_fresh log reports reports (sym rising) (ap length none) refl in
    let logs : more ≡ in_order report_cmp (log ++ reports) = c.in_ok-take_shared.ensures.new took ∙ sym (ap (λ (l : List PacketReport). in_order report_cmp (l ++ reports)) none ∙ rising) in
    let plan = ap (λ (p : AccountPlan). replica_of name p more fs) c.release.ensures.plan in
    let grown = own_is name log more es fs billing c.self.invariant reports c.in_ok-chains.ensures.rises c.in_ok-chains.ensures.kept logs in
    let state = plan ∙ grown ∙ ap (λ (l : List PacketReport). appended (replica_of name billing.plan log es) (with_origin name l)) (sym fresh) in
    rw (← c.self.view_is) (λ e. state)
