use Rattle.std.proofs.lemmas.Grind.{common_steps}
use Rattle.std.proofs.Common.{◌≡◌, ◌<◌, ◌≤◌, ◌∙◌, ap, ap₂, sym, refl, arith, length, length-drop, [], List, ℕ}
use Rattle.std.specs.Prelude.{Ok, Err}
use Rattle.std.proofs.lemmas.Bool.Decides.{nat_tests}
use Rattle.std.proofs.lemmas.Result.{err_from_is_err_and}
use Rattle.tca_wire.specs.Frames.{Holds}
use Rattle.tca_report.specs.report.Reports.{PacketReport}
use Rattle.tca_report.specs.input.Gathered.{gathered_of}
use Rattle.tca_report.specs.inside.CaptureReaders.{StandsIn}
use Rattle.tca_report.specs.declared.input.Notes.{Notes}
use Rattle.tca_report.specs.declared.input.InputFault.{InputFault}
use Rattle.tca_report.specs.declared.input.InputFault.TheVariants as faults
use Rattle.tca_report.proofs.lemmas.input.CapturePieces.{all_gathered}
use Rattle.tca_report.proofs.lemmas.input.InPlace.{goes_on, refused_here, wanted_here, all_read}
use Rattle.tca_report.proofs.input.capture.CaptureReader.read_in_place.Goals as goal

pub returns-in_err-reader-clause-exact : goal.returns-in_err-reader-clause-exact
returns-in_err-reader-clause-exact c = λ session stands.
    let octets = c.args.octets.now in
    let reader = c.loop-reader.reader in
    let s = c.loop-reader.invariant.so_far session stands in
    let left = c.split_at.result.1.now in
    let more : reader.at < length octets = grind (arith, nat_tests, c.loop-reader-test.true) in
    let some : 0 < length left = omega (arith, more, ap length c.split_at.ensures.back, length-drop reader.at octets) in
    let p = err_from_is_err_and c.from_residual.result c.from_residual.ensures.1 in
    rw (p.1, p.2) (λ ne.
    ap gathered_of (refused_here session octets left reader s c.split_at.ensures.back _ some (c.in_err-reader.ensures.exact s.so_far s.agrees ne)))

pub returns-in_err-reader-clause-wanted : goal.returns-in_err-reader-clause-wanted
returns-in_err-reader-clause-wanted c = λ session stands.
    let s = c.loop-reader.invariant.so_far session stands in
    let p = err_from_is_err_and c.from_residual.result c.from_residual.ensures.1 in
    rw (p.1, p.2) (λ e.
    let is : c.in_err-reader.field-0.0 ≡ faults.Memory = cc in
    wanted_here session c.args.octets.now c.split_at.result.1.now c.loop-reader.reader s c.split_at.ensures.back
    (c.in_err-reader.ensures.wanted (ap (λ (f : InputFault). Err f) is) s.so_far s.agrees))

pub take_message-requires-clause-held : goal.take_message-requires-clause-held
take_message-requires-clause-held c = let s = c.loop-reader.invariant.held.1 in (s.so_far, s.agrees)

pub loop-reader-init : goal.loop-reader-init
loop-reader-init c = record { held = c.requires; so_far = λ session stands. stands }

pub loop-reader-preserved : goal.loop-reader-preserved
loop-reader-preserved c =
    let octets = c.args.octets.now in
    let left = c.split_at.result.1.now in
    let goes = λ (session : ℕ) (s : StandsIn session octets c.loop-reader.reader).
    let next = c.in_ok-reader.ensures.exact s.so_far s.agrees in
    goes_on session octets left c.loop-reader.reader s c.split_at.ensures.back c.in_ok-reader.reader next.0 next.1 next.2 c.in_ok-reader.ensures.frame c.in_ok-reader.ensures.at in
    let held = c.loop-reader.invariant.held in
    record {
      held = (held.0, goes held.0 held.1);
      so_far = λ session stands. goes session (c.loop-reader.invariant.so_far session stands);
    }

pub returns-clause-exact : goal.returns-clause-exact
returns-clause-exact c = λ session stands.
    let octets = c.args.octets.now in
    let reader = c.loop-reader.reader in
    let end : length octets ≤ reader.at = grind (arith, nat_tests, c.loop-reader-test.false) in
    all_gathered session octets (Holds []) reader (all_read session octets reader (c.loop-reader.invariant.so_far session stands) end) refl
    ∙ ap₂ (λ (reports : List PacketReport) (notes : Notes). Ok (reports, notes)) (sym c.gathered.ensures.reports) (sym c.gathered.ensures.notes)

pub returns-clause-wanted : goal.returns-clause-wanted
returns-clause-wanted c = grind (arith, common_steps)
