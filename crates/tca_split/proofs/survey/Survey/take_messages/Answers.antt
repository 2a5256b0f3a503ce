use Rattle.std.proofs.Common.{◌≡◌, ◌∷◌, [], ◌++◌, ◌∙◌, Err, sym, ap, subst, ℕ, List, append_assoc, append-nil}
use Rattle.std.specs.Prelude.{IsErrOf}
use Rattle.std.specs.List.{AllByRecursion}
use Rattle.std.proofs.lemmas.Result.{err_from_is_err_and}
use Rattle.tca_wire.specs.Frames.{IsFrame}
use Rattle.tca_split.specs.inside.Surveying.{Surveys, AreTooMany}
use Rattle.tca_split.specs.declared.survey.Survey.{Survey}
use Rattle.tca_split.specs.declared.fault.SplitFault.{SplitFault}
use Rattle.tca_split.specs.declared.fault.SplitFault.TheVariants.{Memory}
use Rattle.tca_split.proofs.SurveySteps.{still_many}
use Rattle.tca_split.proofs.survey.Survey.take_messages.Goals as goal

pub take_message-requires : goal.take_message-requires
take_message-requires c =
    let parts : c.loop-message.message-iterator ≡ c.in-Some.message.now ∷ c.next.new.self = c.in-Some.ensures.steps in
    let frames = subst (λ (l : List (List ℕ)). AllByRecursion IsFrame l) parts c.loop-message.invariant.frames in
    frames.0.room

pub loop-message-init : goal.loop-message-init
loop-message-init c =
    let is : c.into_iter-message-iterator.result ≡ c.args.messages = c.into_iter-message-iterator.ensures.into_iter_gives in
    record {
      frames = subst (λ (l : List (List ℕ)). AllByRecursion IsFrame l) (sym is) c.requires.frames;
      so_far = ([], sym is, λ ms h. subst (λ (l : List (List ℕ)). Surveys l c.args.self) (sym (append-nil ms)) h);
    }

pub loop-message-preserved : goal.loop-message-preserved
loop-message-preserved c =
    let m = c.in-Some.message.now in
    let rest = c.next.new.self in
    let parts : c.loop-message.message-iterator ≡ m ∷ rest = c.in-Some.ensures.steps in
    let frames = subst (λ (l : List (List ℕ)). AllByRecursion IsFrame l) parts c.loop-message.invariant.frames in
    let t = c.loop-message.invariant.so_far in
    record {
      frames = frames.1;
      so_far = (
        t.0 ++ m ∷ [],
        t.1 ∙ ap (λ (l : List (List ℕ)). t.0 ++ l) parts ∙ sym (append_assoc t.0 (m ∷ []) rest),
        λ ms h. subst (λ (l : List (List ℕ)). Surveys l c.in_ok-survey.survey) (append_assoc ms t.0 (m ∷ [])) (c.in_ok-survey.ensures.ok (ms ++ t.0) (t.2 ms h)),
      );
    }

pub returns-in_err-survey-clause-err : goal.returns-in_err-survey-clause-err
returns-in_err-survey-clause-err c = λ ms h.
    let m = c.in-Some.message.now in
    let rest = c.next.new.self in
    let parts : c.loop-message.message-iterator ≡ m ∷ rest = c.in-Some.ensures.steps in
    let t = c.loop-message.invariant.so_far in
    let p = err_from_is_err_and c.from_residual.result c.from_residual.ensures.1 in
    let whole : ((ms ++ t.0) ++ m ∷ []) ++ rest ≡ ms ++ c.args.messages =
    append_assoc (ms ++ t.0) (m ∷ []) rest ∙ append_assoc ms t.0 (m ∷ rest) ∙ ap (λ (l : List (List ℕ)). ms ++ l) (ap (λ (l : List (List ℕ)). t.0 ++ l) (sym parts) ∙ sym t.1) in
    rw (p.1, p.2) (subst (λ (l : List (List ℕ)). AreTooMany l c.in_err-survey.field-0.0) whole (still_many ((ms ++ t.0) ++ m ∷ []) rest c.in_err-survey.field-0.0 (c.in_err-survey.ensures.err (ms ++ t.0) (t.2 ms h))))

pub returns-in_err-survey-clause-memory : goal.returns-in_err-survey-clause-memory
returns-in_err-survey-clause-memory c = λ is ms h.
    let rest = c.next.new.self in
    let parts : c.loop-message.message-iterator ≡ c.in-Some.message.now ∷ rest = c.in-Some.ensures.steps in
    let t = c.loop-message.invariant.so_far in
    let p = err_from_is_err_and c.from_residual.result c.from_residual.ensures.1 in
    let told : IsErrOf {T = Survey} {E = SplitFault} (Err c.in_err-survey.field-0.0) Memory = ap (λ (x : SplitFault). Err x) (sym p.2) ∙ sym p.1 ∙ is in
    record {
      before = t.0;
      message = c.in-Some.message.now;
      behind = rest;
      parts = t.1 ∙ ap (λ (l : List (List ℕ)). t.0 ++ l) parts;
      new = c.in_err-survey.ensures.memory told (ms ++ t.0) (t.2 ms h);
    }

pub returns-clause-ok : goal.returns-clause-ok
returns-clause-ok c = λ ms h.
    let t = c.loop-message.invariant.so_far in
    subst (λ (l : List (List ℕ)). Surveys l c.loop-message.survey)
    (ap (λ (l : List (List ℕ)). ms ++ l) (sym (t.1 ∙ ap (λ (l : List (List ℕ)). t.0 ++ l) c.in-None.ensures.steps.0 ∙ append-nil t.0))) (t.2 ms h)
