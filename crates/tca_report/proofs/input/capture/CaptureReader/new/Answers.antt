use Rattle.std.proofs.Common.{[], refl, ap, inl, arith}
use Rattle.tca_templates.specs.Templates.{SessionView}
use Rattle.tca_report.specs.input.Inputs.{nothing}
use Rattle.tca_report.proofs.lemmas.input.CaptureParts.{all_none}
use Rattle.tca_report.proofs.input.capture.CaptureReader.new.Goals as goal

pub returns : goal.returns
returns c = record {
  messages = [];
  held = [];
  so_far = nothing c.args.session;
  stream = record { rest = []; whole = refl; each = tt; ends = (refl, inl (omega arith)) };
  holds = refl;
  read = all_none 0 (nothing c.args.session);
  agrees = record {
    session = ap (λ (d : SessionView). d.number) c.new.ensures;
    templates = ap (λ (d : SessionView). d.templates) c.new.ensures;
    reports = c.new-2.ensures.items;
    notes = refl;
    messages = omega arith;
    reasons = omega arith;
    unplaced_messages = omega arith;
    skipped = omega arith;
  };
  at = refl;
}
