use Rattle.std.proofs.lemmas.Grind.{common_steps}
use Rattle.std.proofs.Common.{◌≡◌, None, Ok, Err, rules, subst, inl, inr, arith}
use Rattle.tca_ingest.specs.EntryViews.{entry_view}
use Rattle.tca_ingest.specs.Entries.{Took}
use Rattle.tca_ingest.specs.Works.{IsResult}
use Rattle.tca_ingest.specs.declared.job.JobFault.TheVariants as job
use Rattle.tca_commands.specs.Replicated.{AnswerView}
use Rattle.tca_program.specs.Unions.{HoldsReports}
use Rattle.tca_commands.proofs.ReadLaws.{holds_if_taken, noted_if_taken, own_fault, read_of}
use Rattle.tca_commands.proofs.answers.read_answer.Goals as goal

pub returns-in-Err-Input-clause-refused : goal.returns-in-Err-Input-clause-refused
returns-in-Err-Input-clause-refused c =
    let fault = c.in-Err-Input.fault in
    let result : c.args.answer.result ≡ Err (job.Input fault) = search rules in
    let is : IsResult c.args.answer.input c.args.answer.result = subst (λ (v : AnswerView). IsResult v.input v.result) c.answer.view_is c.answer.invariant in
    inl (own_fault c.args.n c.args.answer.input fault c.input.result c.input.ensures.fault (subst (IsResult c.args.answer.input) result is))

pub returns-in-Err-Share-clause-refused : goal.returns-in-Err-Share-clause-refused
returns-in-Err-Share-clause-refused c =
    let fault = c.in-Err-Share.fault in
    let input = c.args.answer.input in
    let result : c.args.answer.result ≡ Err (job.Share fault) = search rules in
    let is : IsResult input c.args.answer.result = subst (λ (v : AnswerView). IsResult v.input v.result) c.answer.view_is c.answer.invariant in
    let read = subst (IsResult input) result is in
    inr (read_of input read.1.0 read.1.1 read.1.2, inr (fault, read.0, c.share.ensures))

pub returns-in-Took-default-default-default-Some-clause-refused :
    goal.returns-in-Took-default-default-default-Some-clause-refused
returns-in-Took-default-default-default-Some-clause-refused c =
    let input = c.args.answer.input in
    let result : c.args.answer.result ≡ Ok (c.in-Ok.notes, c.in-Ok.receipt) = search rules in
    let is : IsResult input c.args.answer.result = subst (λ (v : AnswerView). IsResult v.input v.result) c.answer.view_is c.answer.invariant in
    let read = subst (IsResult input) result is in
    inr (read_of input read.0 c.in-Ok.notes read.1, inl (_, c.log.ensures))

pub returns-in-Took-default-default-default-None-clause-noted :
    goal.returns-in-Took-default-default-default-None-clause-noted
returns-in-Took-default-default-default-None-clause-noted c =
    let result : c.args.answer.result ≡ Ok (c.in-Ok.notes, c.in-Ok.receipt) = search rules in
    let is : IsResult c.args.answer.input c.args.answer.result = subst (λ (v : AnswerView). IsResult v.input v.result) c.answer.view_is c.answer.invariant in
    noted_if_taken c.args.answer.input c.in-Ok.notes c.in-Ok.receipt (subst (IsResult c.args.answer.input) result is)

pub returns-in-Took-default-default-default-None-clause-holds :
    goal.returns-in-Took-default-default-default-None-clause-holds
returns-in-Took-default-default-default-None-clause-holds c =
    let w = c.in-Took-default-default-default-None in
    let result : c.args.answer.result ≡ Ok (c.in-Ok.notes, c.in-Ok.receipt) = search rules in
    let is : IsResult c.args.answer.input c.args.answer.result = subst (λ (v : AnswerView). IsResult v.input v.result) c.answer.view_is c.answer.invariant in
    let says : entry_view c.in-Ok.receipt.entry ≡ Took w.pass w.reports w.fresh None = search rules in
    let held = holds_if_taken c.args.answer.input c.in-Ok.notes c.in-Ok.receipt w.pass w.fresh w.reports (subst (IsResult c.args.answer.input) result is) says in
    subst (HoldsReports c.args.answer.input) (search rules) held

pub unreachable-requires : goal.unreachable-requires
unreachable-requires c = grind (arith, common_steps)

pub unreachable-unreachable : goal.unreachable-unreachable
unreachable-unreachable c = grind (arith, common_steps)

pub returns-in-Err-Input-clause-told : goal.returns-in-Err-Input-clause-told
returns-in-Err-Input-clause-told c = grind (arith, common_steps)

pub returns-in-Err-Share-clause-told : goal.returns-in-Err-Share-clause-told
returns-in-Err-Share-clause-told c = grind (arith, common_steps)
