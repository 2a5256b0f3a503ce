use Rattle.std.proofs.lemmas.Grind.{common_steps}
use Rattle.std.proofs.Common.{◌≡◌, ◌+◌, ℕ, List, refl, sym, ap, subst, ◌∙◌, arith}
use Rattle.std.proofs.lemmas.Result.{err_from_is_err_and}
use Rattle.std.specs.Prelude.{Some, Err, true, false}
use Rattle.std.specs.Option.{is_some}
use Rattle.tca_templates.specs.Templates.{Templates, known}
use Rattle.tca_templates.specs.Fields.{template_of, templates_of}
use Rattle.tca_templates.proofs.Sets.{set_2, set_3, set_skipped, set_stopped, set_unknown, set_known}
use Rattle.tca_templates.specs.declared.fault.DecodeFault.TheVariants.{Memory}
use Rattle.tca_templates.specs.Specifiers.{template_front}
use Rattle.tca_templates.specs.Records.{data_front}
use Rattle.tca_templates.specs.Reading.{body_of}
use Rattle.tca_templates.specs.Wants.{TemplateSet, OptionsTemplateSet, DataSet}
use Rattle.tca_templates.specs.Refusals.{OfTemplates, OfOptionsTemplates, OfData, StopsBehind}
use Rattle.tca_templates.proofs.TakingSteps.{set_changes, set_records}
use Rattle.tca_templates.proofs.Wanting.{wanted_at, none_is}
use Rattle.tca_templates.proofs.reading.read_set.Goals as goal

pub returns-in_err-read_templates-clause-exact : goal.returns-in_err-read_templates-clause-exact
returns-in_err-read_templates-clause-exact g c =
    let m = c.args.message.now in
    let p = err_from_is_err_and c.from_residual.result c.from_residual.ensures.1 in
    rw (p.1, p.2) (λ start given come other.
    set_changes c.args.source m.octets.now given c.args.set false (templates_of c.args.templates.now) c.set_body-body.result.now _ (set_2 c.args.source m.octets.now given c.args.set c.if-set-eq2.true) come.templates c.set_body-body.ensures
    (c.in_err-read_templates.ensures.exact other))

pub returns-then-set-eq2-clause-exact : goal.returns-then-set-eq2-clause-exact
returns-then-set-eq2-clause-exact g c = λ start given come.
    let m = c.args.message.now in (
      record given { templates = templates_of c.read_templates.new.templates },
      set_changes c.args.source m.octets.now given c.args.set false (templates_of c.args.templates.now) c.set_body-body.result.now _ (set_2 c.args.source m.octets.now given c.args.set c.if-set-eq2.true) come.templates c.set_body-body.ensures
          c.in_ok-read_templates.ensures.exact,
      record { templates = refl; records = come.records; count = come.count; unplaced = come.unplaced; skipped = come.skipped },
    )

pub returns-in_err-read_templates-2-clause-exact : goal.returns-in_err-read_templates-2-clause-exact
returns-in_err-read_templates-2-clause-exact g c =
    let m = c.args.message.now in
    let p = err_from_is_err_and c.from_residual-in_err-read_templates-2.result c.from_residual-in_err-read_templates-2.ensures.1 in
    rw (p.1, p.2) (λ start given come other.
    set_changes c.args.source m.octets.now given c.args.set true (templates_of c.args.templates.now) c.set_body-body.result.now _ (set_3 c.args.source m.octets.now given c.args.set c.if-set-eq2.false c.if-set-eq3.true) come.templates c.set_body-body.ensures
    (c.in_err-read_templates-2.ensures.exact other))

pub returns-then-set-eq3-clause-exact : goal.returns-then-set-eq3-clause-exact
returns-then-set-eq3-clause-exact g c = λ start given come.
    let m = c.args.message.now in (
      record given { templates = templates_of c.read_templates-then-set-eq3.new.templates },
      set_changes c.args.source m.octets.now given c.args.set true (templates_of c.args.templates.now) c.set_body-body.result.now _ (set_3 c.args.source m.octets.now given c.args.set c.if-set-eq2.false c.if-set-eq3.true) come.templates c.set_body-body.ensures
          c.in_ok-read_templates-2.ensures.exact,
      record { templates = refl; records = come.records; count = come.count; unplaced = come.unplaced; skipped = come.skipped },
    )

pub returns-then-set-lt256-clause-exact : goal.returns-then-set-lt256-clause-exact
returns-then-set-lt256-clause-exact g c = λ start given come.
    let m = c.args.message.now in (
      record given { skipped = given.skipped + 1 },
      set_skipped c.args.source m.octets.now given c.args.set c.if-set-eq2.false c.if-set-eq3.false c.if-set-lt256.true,
      record { templates = come.templates; records = come.records; count = come.count; unplaced = come.unplaced; skipped = ap (λ n. n + 1) come.skipped },
    )

pub returns-then-is_some-clause-exact : goal.returns-then-is_some-clause-exact
returns-then-is_some-clause-exact g c = λ start given come.
    let m = c.args.message.now in (
      given,
      set_stopped c.args.source m.octets.now given c.args.set c.if-set-eq2.false c.if-set-eq3.false c.if-set-lt256.false (ap is_some come.unplaced ∙ sym c.is_some.ensures ∙ c.if-is_some.true),
      come,
    )

pub returns-in_default-clause-exact : goal.returns-in_default-clause-exact
returns-in_default-clause-exact g c = λ start given come.
    let m = c.args.message.now in (
      record given { unplaced = Some c.args.set.id },
      set_unknown c.args.source m.octets.now given c.args.set c.if-set-eq2.false c.if-set-eq3.false c.if-set-lt256.false (ap is_some come.unplaced ∙ sym c.is_some.ensures ∙ c.if-is_some.false)
          (ap (λ (ts : Templates). known (c.args.source.domain, c.args.set.id) ts) come.templates ∙ sym c.in_default.ensures),
      record { templates = come.templates; records = come.records; count = come.count; unplaced = refl; skipped = come.skipped },
    )

pub returns-in_err-count-clause-exact : goal.returns-in_err-count-clause-exact
returns-in_err-count-clause-exact g c =
    let m = c.args.message.now in
    let t = template_of c.in-Some.template.now in
    let p = err_from_is_err_and c.from_residual-in_err-count.result c.from_residual-in_err-count.ensures.1 in
    rw (p.1, p.2) (λ start given come other.
    set_records c.args.source m.octets.now given c.args.set t c.set_body-body.result.now _
    (set_known c.args.source m.octets.now given c.args.set c.if-set-eq2.false c.if-set-eq3.false c.if-set-lt256.false (ap is_some come.unplaced ∙ sym c.is_some.ensures ∙ c.if-is_some.false) t
    (ap (λ (ts : Templates). known (c.args.source.domain, c.args.set.id) ts) come.templates ∙ sym c.in-Some.ensures))
    c.set_body-body.ensures (c.in_err-count.ensures.exact start given.records (come.records, come.count) other))

pub returns-clause-exact : goal.returns-clause-exact
returns-clause-exact g c = λ start given come.
    let m = c.args.message.now in
    let t = template_of c.in-Some.template.now in
    let read = c.in_ok-count.ensures.exact start given.records (come.records, come.count) in (
      record given { records = read.0 },
      set_records c.args.source m.octets.now given c.args.set t c.set_body-body.result.now _
          (set_known c.args.source m.octets.now given c.args.set c.if-set-eq2.false c.if-set-eq3.false c.if-set-lt256.false (ap is_some come.unplaced ∙ sym c.is_some.ensures ∙ c.if-is_some.false) t
          (ap (λ (ts : Templates). known (c.args.source.domain, c.args.set.id) ts) come.templates ∙ sym c.in-Some.ensures))
          c.set_body-body.ensures read.1,
      record { templates = come.templates; records = read.2.0; count = read.2.1; unplaced = come.unplaced; skipped = come.skipped },
    )

pub returns-in_err-read_templates-clause-wanted : goal.returns-in_err-read_templates-clause-wanted
returns-in_err-read_templates-clause-wanted g c =
    let m = c.args.message.now in
    let p = err_from_is_err_and c.from_residual.result c.from_residual.ensures.1 in
    rw (p.1, p.2) (λ memory start given come.
    let same : c.in_err-read_templates.field-0.0 ≡ Memory = cc in
    TemplateSet c.if-set-eq2.true (wanted_at (template_front c.args.source.domain false) given.templates (templates_of c.args.templates.now) (c.args.set.at + 4) (body_of m.octets.now c.args.set) c.set_body-body.result.now
    come.templates (sym c.set_body-body.ensures) (c.in_err-read_templates.ensures.wanted (ap (λ f. Err f) same))))

pub returns-in_err-read_templates-2-clause-wanted : goal.returns-in_err-read_templates-2-clause-wanted
returns-in_err-read_templates-2-clause-wanted g c =
    let m = c.args.message.now in
    let p = err_from_is_err_and c.from_residual-in_err-read_templates-2.result c.from_residual-in_err-read_templates-2.ensures.1 in
    rw (p.1, p.2) (λ memory start given come.
    let same : c.in_err-read_templates-2.field-0.0 ≡ Memory = cc in
    OptionsTemplateSet c.if-set-eq3.true (wanted_at (template_front c.args.source.domain true) given.templates (templates_of c.args.templates.now) (c.args.set.at + 4) (body_of m.octets.now c.args.set) c.set_body-body.result.now
    come.templates (sym c.set_body-body.ensures) (c.in_err-read_templates-2.ensures.wanted (ap (λ f. Err f) same))))

pub returns-in_err-count-clause-wanted : goal.returns-in_err-count-clause-wanted
returns-in_err-count-clause-wanted g c =
    let m = c.args.message.now in
    let t = template_of c.in-Some.template.now in
    let p = err_from_is_err_and c.from_residual-in_err-count.result c.from_residual-in_err-count.ensures.1 in
    rw (p.1, p.2) (λ memory start given come.
    let same : c.in_err-count.field-0.0 ≡ Memory = cc in
    DataSet c.if-set-lt256.false (come.unplaced ∙ none_is c.args.aside.unplaced (sym c.is_some.ensures ∙ c.if-is_some.false)) t
    (ap (λ (ts : Templates). known (c.args.source.domain, c.args.set.id) ts) come.templates ∙ sym c.in-Some.ensures)
    (wanted_at (data_front c.args.source t) given.records given.records (c.args.set.at + 4) (body_of m.octets.now c.args.set) c.set_body-body.result.now refl (sym c.set_body-body.ensures)
    (c.in_err-count.ensures.wanted (ap (λ f. Err f) same) start given.records (come.records, come.count))))

pub returns-in_err-read_templates-clause-held : goal.returns-in_err-read_templates-clause-held
returns-in_err-read_templates-clause-held g c =
    let p = err_from_is_err_and c.from_residual.result c.from_residual.ensures.1 in
    rw (p.1, p.2) (λ start given come. record {
      records = given.records;
      in_front = OfTemplates c.if-set-eq2.true refl;
      held = come.records;
    })

pub returns-in_err-read_templates-2-clause-held : goal.returns-in_err-read_templates-2-clause-held
returns-in_err-read_templates-2-clause-held g c =
    let p = err_from_is_err_and c.from_residual-in_err-read_templates-2.result c.from_residual-in_err-read_templates-2.ensures.1 in
    rw (p.1, p.2) (λ start given come. record {
      records = given.records;
      in_front = OfOptionsTemplates c.if-set-eq3.true refl;
      held = come.records;
    })

pub returns-in_err-count-clause-held : goal.returns-in_err-count-clause-held
returns-in_err-count-clause-held g c =
    let m = c.args.message.now in
    let t = template_of c.in-Some.template.now in
    let p = err_from_is_err_and c.from_residual-in_err-count.result c.from_residual-in_err-count.ensures.1 in
    rw (p.1, p.2) (λ start given come.
    let h = c.in_err-count.ensures.held start given.records (come.records, come.count) in
    record {
      records = h.records;
      in_front = OfData c.if-set-lt256.false (come.unplaced ∙ none_is c.args.aside.unplaced (sym c.is_some.ensures ∙ c.if-is_some.false)) t
          (ap (λ (ts : Templates). known (c.args.source.domain, c.args.set.id) ts) come.templates ∙ sym c.in-Some.ensures)
          (subst (λ (o : List ℕ). StopsBehind (data_front c.args.source t) Memory c.in_err-count.field-0.0 given.records (c.args.set.at + 4) o h.records) c.set_body-body.ensures h.stops);
      held = h.held;
    })

pub returns-in_err-read_templates-clause-few : goal.returns-in_err-read_templates-clause-few
returns-in_err-read_templates-clause-few g c = grind (arith, common_steps)

pub returns-in_err-read_templates-clause-before : goal.returns-in_err-read_templates-clause-before
returns-in_err-read_templates-clause-before g c = grind (arith, common_steps)

pub returns-in_err-read_templates-clause-memory : goal.returns-in_err-read_templates-clause-memory
returns-in_err-read_templates-clause-memory g c = grind (arith, common_steps)

pub returns-then-set-eq2-clause-wanted : goal.returns-then-set-eq2-clause-wanted
returns-then-set-eq2-clause-wanted g c = grind (arith, common_steps)

pub returns-then-set-eq2-clause-few : goal.returns-then-set-eq2-clause-few
returns-then-set-eq2-clause-few g c = grind (arith, common_steps)

pub returns-then-set-eq2-clause-skipped : goal.returns-then-set-eq2-clause-skipped
returns-then-set-eq2-clause-skipped g c = grind (arith, common_steps)

pub returns-then-set-eq2-clause-before : goal.returns-then-set-eq2-clause-before
returns-then-set-eq2-clause-before g c = grind (arith, common_steps)

pub returns-then-set-eq2-clause-memory : goal.returns-then-set-eq2-clause-memory
returns-then-set-eq2-clause-memory g c = grind (arith, common_steps)

pub returns-in_err-read_templates-2-clause-few : goal.returns-in_err-read_templates-2-clause-few
returns-in_err-read_templates-2-clause-few g c = grind (arith, common_steps)

pub returns-then-set-eq3-clause-wanted : goal.returns-then-set-eq3-clause-wanted
returns-then-set-eq3-clause-wanted g c = grind (arith, common_steps)

pub returns-then-set-eq3-clause-few : goal.returns-then-set-eq3-clause-few
returns-then-set-eq3-clause-few g c = grind (arith, common_steps)

pub returns-then-set-eq3-clause-skipped : goal.returns-then-set-eq3-clause-skipped
returns-then-set-eq3-clause-skipped g c = grind (arith, common_steps)

pub returns-then-set-eq3-clause-before : goal.returns-then-set-eq3-clause-before
returns-then-set-eq3-clause-before g c = grind (arith, common_steps)

pub returns-then-set-eq3-clause-memory : goal.returns-then-set-eq3-clause-memory
returns-then-set-eq3-clause-memory g c = grind (arith, common_steps)

pub returns-then-set-lt256-clause-wanted : goal.returns-then-set-lt256-clause-wanted
returns-then-set-lt256-clause-wanted g c = grind (arith, common_steps)

pub returns-then-set-lt256-clause-few : goal.returns-then-set-lt256-clause-few
returns-then-set-lt256-clause-few g c = grind (arith, common_steps)

pub returns-then-set-lt256-clause-skipped : goal.returns-then-set-lt256-clause-skipped
returns-then-set-lt256-clause-skipped g c = grind (arith, common_steps)

pub returns-then-set-lt256-clause-before : goal.returns-then-set-lt256-clause-before
returns-then-set-lt256-clause-before g c = grind (arith, common_steps)

pub returns-then-set-lt256-clause-memory : goal.returns-then-set-lt256-clause-memory
returns-then-set-lt256-clause-memory g c = grind (arith, common_steps)

pub returns-then-is_some-clause-wanted : goal.returns-then-is_some-clause-wanted
returns-then-is_some-clause-wanted g c = grind (arith, common_steps)

pub returns-then-is_some-clause-few : goal.returns-then-is_some-clause-few
returns-then-is_some-clause-few g c = grind (arith, common_steps)

pub returns-then-is_some-clause-skipped : goal.returns-then-is_some-clause-skipped
returns-then-is_some-clause-skipped g c = grind (arith, common_steps)

pub returns-then-is_some-clause-before : goal.returns-then-is_some-clause-before
returns-then-is_some-clause-before g c = grind (arith, common_steps)

pub returns-then-is_some-clause-memory : goal.returns-then-is_some-clause-memory
returns-then-is_some-clause-memory g c = grind (arith, common_steps)

pub returns-in_default-clause-wanted : goal.returns-in_default-clause-wanted
returns-in_default-clause-wanted g c = grind (arith, common_steps)

pub returns-in_default-clause-few : goal.returns-in_default-clause-few
returns-in_default-clause-few g c = grind (arith, common_steps)

pub returns-in_default-clause-skipped : goal.returns-in_default-clause-skipped
returns-in_default-clause-skipped g c = grind (arith, common_steps)

pub returns-in_default-clause-before : goal.returns-in_default-clause-before
returns-in_default-clause-before g c = grind (arith, common_steps)

pub returns-in_default-clause-memory : goal.returns-in_default-clause-memory
returns-in_default-clause-memory g c = grind (arith, common_steps)

pub returns-in_err-count-clause-few : goal.returns-in_err-count-clause-few
returns-in_err-count-clause-few g c = grind (arith, common_steps)

pub returns-in_err-count-clause-skipped : goal.returns-in_err-count-clause-skipped
returns-in_err-count-clause-skipped g c = grind (arith, common_steps)

pub returns-in_err-count-clause-before : goal.returns-in_err-count-clause-before
returns-in_err-count-clause-before g c = grind (arith, common_steps)

pub returns-in_err-count-clause-memory : goal.returns-in_err-count-clause-memory
returns-in_err-count-clause-memory g c = grind (arith, common_steps)

pub returns-clause-wanted : goal.returns-clause-wanted
returns-clause-wanted g c = grind (arith, common_steps)

pub returns-clause-few : goal.returns-clause-few
returns-clause-few g c = grind (arith, common_steps)

pub returns-clause-skipped : goal.returns-clause-skipped
returns-clause-skipped g c = grind (arith, common_steps)

pub returns-clause-before : goal.returns-clause-before
returns-clause-before g c = grind (arith, common_steps)

pub returns-clause-memory : goal.returns-clause-memory
returns-clause-memory g c = grind (arith, common_steps)

pub returns-then-set-eq2-clause-held : goal.returns-then-set-eq2-clause-held
returns-then-set-eq2-clause-held g c = grind (arith, common_steps)

pub returns-then-set-eq3-clause-held : goal.returns-then-set-eq3-clause-held
returns-then-set-eq3-clause-held g c = grind (arith, common_steps)

pub returns-then-set-lt256-clause-held : goal.returns-then-set-lt256-clause-held
returns-then-set-lt256-clause-held g c = grind (arith, common_steps)

pub returns-then-is_some-clause-held : goal.returns-then-is_some-clause-held
returns-then-is_some-clause-held g c = grind (arith, common_steps)

pub returns-in_default-clause-held : goal.returns-in_default-clause-held
returns-in_default-clause-held g c = grind (arith, common_steps)

pub returns-clause-held : goal.returns-clause-held
returns-clause-held g c = grind (arith, common_steps)
