use Rattle.std.proofs.lemmas.Grind.{common_steps}
use Rattle.std.proofs.Common.{◌≡◌, ◌∙◌, ◌++◌, ◌≤◌, Ok, Err, length, sym, ap, le-ltb, arith, rules}
use Rattle.tca_join.specs.Sets.{in_order}
use Rattle.tca_report.specs.report.Reports.{report_cmp}
use Rattle.tca_report.specs.input.Inputs.{input_view, read_input}
use Rattle.tca_program.specs.Unions.{with_input, with_reports}
use Rattle.tca_program.proofs.InputLaws.{memory_of_gather, refused_as, gathered_ok}
use Rattle.tca_program.proofs.inputs.add_input.Goals as goal

pub returns-in-Ok-add_all-clause-exact : goal.returns-in-Ok-add_all-clause-exact
returns-in-Ok-add_all-clause-exact c =
    let reports = c.in-Ok.gathered.reports.items in
    let all = in_order report_cmp (c.args.log.now ++ reports) in
    let is : c.add_all.new.self ≡ all = c.in-Ok-add_all.ensures.ok in
    let few : length all ≤ 4194304 = rw is at c.reports-reports.ensures.limit in
    let so_far = gathered_ok _ _ (rw c.deref.ensures.value at c.in-Ok.ensures.exact) in
    ap (with_input c.args.n c.args.log.now) so_far.1 ∙ ap (with_reports c.args.n c.args.log.now) (sym so_far.2) ∙ rw (le-ltb 4194304 (length all) few) (ap Ok (sym is))

pub returns-in-Ok-add_all-clause-found : goal.returns-in-Ok-add_all-clause-found
returns-in-Ok-add_all-clause-found c =
    let so_far = gathered_ok _ _ (rw c.deref.ensures.value at c.in-Ok.ensures.exact) in (
      c.in-Ok.gathered.reports.items,
      record { so_far = so_far.0; read = so_far.1; reports = so_far.2 },
      c.in-Ok-add_all.ensures.ok,
    )

pub returns-in-Ok-add_all-clause-noted : goal.returns-in-Ok-add_all-clause-noted
returns-in-Ok-add_all-clause-noted c =
    let so_far = gathered_ok _ _ (rw c.deref.ensures.value at c.in-Ok.ensures.exact) in
    record { so_far = so_far.0; read = so_far.1; notes_are = so_far.3 }

pub returns-in-Err-clause-memory_last : goal.returns-in-Err-clause-memory_last
returns-in-Err-clause-memory_last c =
    memory_of_gather c.args.n (input_view c.args.input.now) c.in-Err.fault c.input.result c.input.ensures.fault (λ m. rw c.deref.ensures.value at (c.in-Err.ensures.memory_wanted (ap Err m)))

pub returns-in-Err-clause-exact : goal.returns-in-Err-clause-exact
returns-in-Err-clause-exact c =
    refused_as c.args.n c.args.log.now (read_input (input_view c.args.input.now)) c.in-Err.fault c.input.result c.input.ensures.fault (rw c.deref.ensures.value at c.in-Err.ensures.exact)

pub returns-in-Err-clause-named : goal.returns-in-Err-clause-named
returns-in-Err-clause-named c = grind (arith, common_steps)

pub returns-in-Err-clause-no_write : goal.returns-in-Err-clause-no_write
returns-in-Err-clause-no_write c = grind (arith, common_steps)

pub returns-in-Err-clause-log_memory : goal.returns-in-Err-clause-log_memory
returns-in-Err-clause-log_memory c = grind (arith, common_steps)

pub returns-in-Ok-add_all-clause-rises : goal.returns-in-Ok-add_all-clause-rises
returns-in-Ok-add_all-clause-rises c = grind (arith, common_steps)

pub returns-in-Err-add_all-clause-named : goal.returns-in-Err-add_all-clause-named
returns-in-Err-add_all-clause-named c = grind (arith, common_steps)

pub returns-in-Err-add_all-clause-no_write : goal.returns-in-Err-add_all-clause-no_write
returns-in-Err-add_all-clause-no_write c = grind (arith, common_steps)

pub returns-in-Err-add_all-clause-memory_last : goal.returns-in-Err-add_all-clause-memory_last
returns-in-Err-add_all-clause-memory_last c = grind (arith, common_steps)

pub returns-in-Err-clause-kept : goal.returns-in-Err-clause-kept
returns-in-Err-clause-kept c = search rules
