use Rattle.std.proofs.lemmas.Grind.{common_steps}
use Rattle.std.proofs.Common.{◌≡◌, ◌+◌, ◌∷◌, ◌∙◌, arith, ap, sym, subst, length, List, ℕ}
use Rattle.std.specs.List.{AllByRecursion, concat}
use Rattle.std.proofs.lemmas.List.{length-append}
use Rattle.std.proofs.lemmas.Result.{err_from_is_err_and}
use Rattle.tca_wire.specs.Frames.{IsFrame}
use Rattle.tca_report.specs.input.Inputs.{capture_after}
use Rattle.tca_report.specs.inside.CaptureReaders.{IsWantedAmong}
use Rattle.tca_report.proofs.lemmas.input.CaptureParts.{all_none, all_next, all_refused}
use Rattle.tca_report.proofs.lemmas.input.CaptureWants.{wanted_first, wanted_later}
use Rattle.tca_report.proofs.input.capture.CaptureReader.take_messages.Goals as goal

pub returns-in_err-reader-clause-exact : goal.returns-in_err-reader-clause-exact
returns-in_err-reader-clause-exact c = λ so_far k.
    let now = c.loop-message.invariant.so_far so_far k in
    let at = c.loop-message.reader.at in
    let octets = c.in-Some.message.now in
    let rest = c.next.new.self in
    let parts : c.loop-message.message-iterator ≡ octets ∷ rest = c.in-Some.ensures.steps in
    let p = err_from_is_err_and c.from_residual.result c.from_residual.ensures.1 in
    rw (p.1, p.2) (λ ne.
    sym now.2 ∙ ap (capture_after at now.0) parts ∙ all_refused at now.0 octets rest _ (c.in_err-reader.ensures.exact now.0 now.1 ne))

pub returns-in_err-reader-clause-wanted : goal.returns-in_err-reader-clause-wanted
returns-in_err-reader-clause-wanted c =
    let p = err_from_is_err_and c.from_residual.result c.from_residual.ensures.1 in
    rw (p.1, p.2) (λ e so_far k.
    let now = c.loop-message.invariant.so_far so_far k in
    let at = c.loop-message.reader.at in
    let octets = c.in-Some.message.now in
    let rest = c.next.new.self in
    let parts : c.loop-message.message-iterator ≡ octets ∷ rest = c.in-Some.ensures.steps in
    let wanted = c.in_err-reader.ensures.wanted e now.0 now.1 in
    now.3 (subst (λ (l : List (List ℕ)). IsWantedAmong at now.0 l) (sym parts) (wanted_first at now.0 octets rest wanted)))

pub loop-message-preserved : goal.loop-message-preserved
loop-message-preserved c =
    let at = c.loop-message.reader.at in
    let octets = c.in-Some.message.now in
    let rest = c.next.new.self in
    let parts : c.loop-message.message-iterator ≡ octets ∷ rest = c.in-Some.ensures.steps in
    let frames = subst (λ (l : List (List ℕ)). AllByRecursion IsFrame l) parts c.loop-message.invariant.frames in
    let there : c.in_ok-reader.reader.at ≡ at + length octets = c.in_ok-reader.ensures.at ∙ ap (λ (n : ℕ). at + n) frames.0.whole in
    record {
      so_far = λ so_far k.
          let now = c.loop-message.invariant.so_far so_far k in
          let next = c.in_ok-reader.ensures.exact now.0 now.1 in (
            next.0,
            next.2,
            ap (λ (n : ℕ). capture_after n next.0 rest) there ∙ sym (all_next at now.0 next.0 octets rest next.1) ∙ ap (capture_after at now.0) (sym parts) ∙ now.2,
            λ wanted. now.3 (subst (λ (l : List (List ℕ)). IsWantedAmong at now.0 l) (sym parts)
                (wanted_later at now.0 next.0 octets rest next.1 (subst (λ (n : ℕ). IsWantedAmong n next.0 rest) there wanted))),
          );
      frames = frames.1;
      at = omega (arith, there, c.loop-message.invariant.at, ap (λ (l : List (List ℕ)). length (concat l)) parts, length-append octets (concat rest));
    }

pub returns-clause-exact : goal.returns-clause-exact
returns-clause-exact c = λ so_far k.
    let now = c.loop-message.invariant.so_far so_far k in
    let none = c.in-None.ensures.steps in
    (now.0, sym now.2 ∙ ap (capture_after c.loop-message.reader.at now.0) none.0 ∙ all_none c.loop-message.reader.at now.0, now.1)

pub returns-in_err-reader-clause-at : goal.returns-in_err-reader-clause-at
returns-in_err-reader-clause-at c = grind (arith, common_steps)

pub returns-clause-at : goal.returns-clause-at
returns-clause-at c = grind (arith, common_steps)

pub returns-clause-wanted : goal.returns-clause-wanted
returns-clause-wanted c = grind (arith, common_steps)
