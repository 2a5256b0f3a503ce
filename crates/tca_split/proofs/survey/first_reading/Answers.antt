use Rattle.std.proofs.Common.{◌≡◌, ◌<◌, ◌++◌, ◌∙◌, [], Err, sym, ap, subst, refl, ℕ, List, length, arith, take, append_assoc, inr, rules}
use Rattle.std.proofs.lemmas.Result.{err_from_is_err_and}
use Rattle.std.proofs.lemmas.Bool.Decides.{nat_tests}
use Rattle.tca_split.specs.inside.Surveying.{IsFirstRefused, IsFramed}
use Rattle.tca_split.specs.declared.fault.SplitFault.{SplitFault}
use Rattle.tca_split.specs.declared.fault.SplitFault.TheVariants.{Memory}
use Rattle.tca_split.specs.Wants.{BringMore}
use Rattle.std.specs.Prelude.{IsErrOf}
use Rattle.std.proofs.lemmas.List.{length-take}
use Rattle.tca_split.specs.declared.survey.Survey.{Survey}
use Rattle.tca_split.proofs.SurveySteps.{framed_none, end_ok, end_err, end_memory, wants_memory}
use Rattle.tca_split.proofs.ReadSteps.{read_on, read_end, whole, same_front}
use Rattle.tca_split.proofs.survey.first_reading.Goals as goal

pub loop-turn-init : goal.loop-turn-init
loop-turn-init g c = record {
  room = c.in_ok-piece.ensures;
  so_far = λ octets e. ([], octets, [], refl, e, subst (λ x. IsFramed [] [] x) (sym c.new-framer.ensures) framed_none, c.new-survey.ensures);
  calm = refl;
  turns = omega arith;
}

pub loop-turn-preserved : goal.loop-turn-preserved
loop-turn-preserved g c = record {
  room = search rules;
  so_far = λ octets e.
      let t = c.loop-turn.invariant.so_far octets e in
      let own = take c.in-Ok.n c.read.new.into in
      let r = read_on (g.R.Read.left c.loop-turn.reader) (g.R.Read.left c.read.new.self) t.1 own t.4 c.in-Ok.ensures.octets.0 in
      let same = ap (take c.in-Ok.n) c.deref.ensures.value ∙ same_front c.in-Ok.n c.loop-turn.piece.len c.read.new.into c.loop-turn.piece.items c.in-Ok.ensures.bound (omega arith) in
      let o = c.in_ok-survey-in-Ok.ensures.ok t.0 t.2 t.5 t.6 in (
        t.0 ++ own,
        r.0,
        o.0,
        t.3 ∙ ap (λ (l : List ℕ). t.0 ++ l) r.2 ∙ sym (append_assoc t.0 own r.0),
        r.1,
        subst (λ (l : List ℕ). IsFramed (t.0 ++ l) o.0 c.take_piece.new.framer) same o.1,
        o.2,
      );
  calm = c.in-Ok.ensures.count ∙ c.loop-turn.invariant.calm;
  turns = omega (arith, c.in-Ok.ensures.one, c.loop-turn.invariant.turns);
}

pub returns-in-Ok-eq0-clause-ok : goal.returns-in-Ok-eq0-clause-ok
returns-in-Ok-eq0-clause-ok g c = λ octets e.
    let t = c.loop-turn.invariant.so_far octets e in
    let room : 0 < length c.read.new.into = omega arith in
    let zero : c.in-Ok-eq0.field-0 ≡ 0 = grind (arith, nat_tests, c.in-Ok-eq0.field-0-test) in
    let none = read_end (g.R.Read.left c.loop-turn.reader) (g.R.Read.left c.read.new.self) t.1 (take c.in-Ok-eq0.field-0 c.read.new.into) t.4 (ap (λ n. take n c.read.new.into) zero) c.in-Ok-eq0.ensures.octets.0 (c.in-Ok-eq0.ensures.octets.1 zero room) in
    let framed = subst (λ (l : List ℕ). IsFramed l t.2 c.loop-turn.framer) (whole octets t.0 t.1 t.3 none) t.5 in
    end_ok octets t.2 c.loop-turn.framer c.loop-turn.survey c.finish.result framed t.6 c.finish.ensures.ok

pub returns-in-Ok-eq0-clause-err : goal.returns-in-Ok-eq0-clause-err
returns-in-Ok-eq0-clause-err g c = λ octets e.
    let t = c.loop-turn.invariant.so_far octets e in
    let room : 0 < length c.read.new.into = omega arith in
    let zero : c.in-Ok-eq0.field-0 ≡ 0 = grind (arith, nat_tests, c.in-Ok-eq0.field-0-test) in
    let none = read_end (g.R.Read.left c.loop-turn.reader) (g.R.Read.left c.read.new.self) t.1 (take c.in-Ok-eq0.field-0 c.read.new.into) t.4 (ap (λ n. take n c.read.new.into) zero) c.in-Ok-eq0.ensures.octets.0 (c.in-Ok-eq0.ensures.octets.1 zero room) in
    let framed = subst (λ (l : List ℕ). IsFramed l t.2 c.loop-turn.framer) (whole octets t.0 t.1 t.3 none) t.5 in
    end_err octets t.2 c.loop-turn.framer c.loop-turn.survey c.finish.result framed t.6 c.finish.ensures.fault

pub returns-in-Ok-eq0-clause-memory : goal.returns-in-Ok-eq0-clause-memory
returns-in-Ok-eq0-clause-memory g c = λ is octets e.
    let t = c.loop-turn.invariant.so_far octets e in
    end_memory t.0 octets (g.R.Read.left c.read.new.self) (g.R.Read.reads c.args.reader.now) (g.R.Read.reads c.read.new.self) t.2 c.loop-turn.framer c.finish.result t.5 c.finish.ensures.fault is

pub returns-in_err-survey-in-Ok-clause-err : goal.returns-in_err-survey-in-Ok-clause-err
returns-in_err-survey-in-Ok-clause-err g c = λ octets e.
    let t = c.loop-turn.invariant.so_far octets e in
    let own = take c.in-Ok.n c.read.new.into in
    let r = read_on (g.R.Read.left c.loop-turn.reader) (g.R.Read.left c.read.new.self) t.1 own t.4 c.in-Ok.ensures.octets.0 in
    let same = ap (take c.in-Ok.n) c.deref.ensures.value ∙ same_front c.in-Ok.n c.loop-turn.piece.len c.read.new.into c.loop-turn.piece.items c.in-Ok.ensures.bound (omega arith) in
    let all : (t.0 ++ own) ++ r.0 ≡ octets = append_assoc t.0 own r.0 ∙ ap (λ (l : List ℕ). t.0 ++ l) (sym r.2) ∙ sym t.3 in
    let o = c.in_err-survey-in-Ok.ensures.err t.0 r.0 t.2 t.5 t.6 in
    let p = err_from_is_err_and c.from_residual-in_err-survey-in-Ok.result c.from_residual-in_err-survey-in-Ok.ensures.1 in
    rw (p.1, p.2) (subst (λ (l : List ℕ). IsFirstRefused l c.in_err-survey-in-Ok.field-0.0) all
    (subst (λ (l : List ℕ). IsFirstRefused ((t.0 ++ l) ++ r.0) c.in_err-survey-in-Ok.field-0.0) same o))

pub returns-in_err-survey-in-Ok-clause-memory : goal.returns-in_err-survey-in-Ok-clause-memory
returns-in_err-survey-in-Ok-clause-memory g c = λ is octets e.
    let t = c.loop-turn.invariant.so_far octets e in
    let own = take c.in-Ok.n c.read.new.into in
    let r = read_on (g.R.Read.left c.loop-turn.reader) (g.R.Read.left c.read.new.self) t.1 own t.4 c.in-Ok.ensures.octets.0 in
    let same = ap (take c.in-Ok.n) c.deref.ensures.value ∙ same_front c.in-Ok.n c.loop-turn.piece.len c.read.new.into c.loop-turn.piece.items c.in-Ok.ensures.bound (omega arith) in
    let all : octets ≡ (t.0 ++ own) ++ r.0 = t.3 ∙ ap (λ (l : List ℕ). t.0 ++ l) r.2 ∙ sym (append_assoc t.0 own r.0) in
    let p = err_from_is_err_and c.from_residual-in_err-survey-in-Ok.result c.from_residual-in_err-survey-in-Ok.ensures.1 in
    let told : IsErrOf {T = Survey} {E = SplitFault} (Err c.in_err-survey-in-Ok.field-0.0) Memory = ap (λ (x : SplitFault). Err x) (sym p.2) ∙ sym p.1 ∙ is in
    inr (wants_memory octets t.0 own r.0 t.2 c.loop-turn.framer c.loop-turn.survey (g.R.Read.left c.read.new.self) t.5 t.6 all r.1 (omega (arith, length-take c.in-Ok.n c.read.new.into))
    (subst (λ (l : List ℕ). BringMore t.0 l) same (c.in_err-survey-in-Ok.ensures.memory told t.0 t.2 t.5 t.6)))

pub returns-in-Err-clause-memory : goal.returns-in-Err-clause-memory
returns-in-Err-clause-memory g c = search rules

pub returns-in-Err-clause-read : goal.returns-in-Err-clause-read
returns-in-Err-clause-read g c = search rules
