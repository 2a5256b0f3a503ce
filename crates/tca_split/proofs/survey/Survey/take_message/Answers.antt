use Rattle.std.proofs.Common.{◌≡◌, ℕ, ◌+◌, ◌^◌, ◌-◌, ◌||◌, ◌==◌, ◌++◌, ◌∷◌, [], ◌∙◌, ap, sym, true, false, Err}
use Rattle.std.specs.Prelude.{min}
use Rattle.std.specs.BTreeSet.{contains}
use Rattle.std.specs.Ordering.{nat_cmp}
use Rattle.std.proofs.lemmas.Result.{err_from_is_err_and}
use Rattle.tca_split.specs.Parts.{domain_of}
use Rattle.tca_split.specs.declared.survey.Survey.{Survey}
use Rattle.tca_split.specs.declared.fault.SplitFault.{SplitFault}
use Rattle.tca_split.proofs.SurveySteps.{survey_again, survey_new, survey_refused}
use Rattle.tca_split.proofs.survey.Survey.take_message.Goals as goal
use Rattle.tca_split.proofs.survey.Survey.take_message.Goals.{then-not-contains+in_ok-add_domain, else-not-contains}

pub returns-in_err-add_domain-clause-err : goal.returns-in_err-add_domain-clause-err
returns-in_err-add_domain-clause-err c = λ ms h.
    let p = err_from_is_err_and c.from_residual.result c.from_residual.ensures.1 in
    let absent : c.contains.result ≡ false = cc in
    let new : contains nat_cmp c.args.self.known (domain_of c.args.message.now) ≡ false = ap (contains nat_cmp c.args.self.known) (sym c.domain_of-domain.ensures) ∙ sym c.contains.ensures ∙ absent in
    rw (p.1, p.2) (survey_refused ms c.args.message.now c.args.self c.in_err-add_domain.field-0.0 h new c.in_err-add_domain.ensures.kind
    (λ is. c.in_err-add_domain.ensures.limits (ap (λ (x : SplitFault). Err x) is)))

pub returns-clause-ok : goal.returns-clause-ok
returns-clause-ok c = λ ms h.
    let m = c.args.message.now in
    let old = c.args.self in
    let its : contains nat_cmp old.known (domain_of m) ≡ c.contains.result = ap (contains nat_cmp old.known) (sym c.domain_of-domain.ensures) ∙ sym c.contains.ensures in
    elim c.if-not-contains.branch [
      | then-not-contains+in_ok-add_domain w ↦
          let new : c.contains.result ≡ false = cc in
          survey_new ms m old _ h
          (ap (λ (s : Survey). s.domains.items) w.survey-is ∙ w.in_ok-add_domain.ensures.domains ∙ ap (λ (d : ℕ). old.domains.items ++ d ∷ []) c.domain_of-domain.ensures)
          (λ e. ap (λ (s : Survey). contains nat_cmp s.known e) w.survey-is ∙ w.in_ok-add_domain.ensures.known e ∙ ap (λ (d : ℕ). contains nat_cmp old.known e || (e == d)) c.domain_of-domain.ensures)
          (its ∙ new) w.in_ok-add_domain.ensures.room
          (c.saturating_add.ensures ∙ ap (λ (s : Survey). min (s.messages + 1) (2 ^ 64 - 1)) w.survey-is ∙ ap (λ n. min (n + 1) (2 ^ 64 - 1)) w.in_ok-add_domain.ensures.messages)
      | else-not-contains w ↦
          let there : c.contains.result ≡ true = cc in
          survey_again ms m old _ h (ap (λ (s : Survey). s.domains.items) w.survey-is) (ap (λ (s : Survey). s.known.keys) w.survey-is) (its ∙ there)
          (c.saturating_add.ensures ∙ ap (λ (s : Survey). min (s.messages + 1) (2 ^ 64 - 1)) w.survey-is)
    ]
