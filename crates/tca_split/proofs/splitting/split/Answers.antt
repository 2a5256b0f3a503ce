use Rattle.std.proofs.Common.{◌≡◌, ◌∙◌, ap, sym, inr, length, refl, Some, Err}
use Rattle.std.proofs.lemmas.Result.{err_from_is_err_and}
use Rattle.tca_wire.specs.Frames.{frames_of}
use Rattle.tca_split.specs.Parts.{domains_of}
use Rattle.tca_split.specs.Surveys.{is_among}
use Rattle.tca_split.specs.Folders.{Files}
use Rattle.tca_split.specs.Splits.{IsFree}
use Rattle.tca_split.specs.declared.fault.SplitFault.{SplitFault}
use Rattle.tca_split.specs.declared.fault.SplitFault.TheVariants.{Memory}
use Rattle.tca_split.proofs.Refusals.{right_of, told_is, look_no_want, first_wanted, writing_refused}
use Rattle.tca_split.proofs.splitting.split.Goals as goal

pub returns-in_err-write_parts-clause-refused : goal.returns-in_err-write_parts-clause-refused
returns-in_err-write_parts-clause-refused g c =
    let p = err_from_is_err_and c.from_residual-in_err-write_parts.result c.from_residual-in_err-write_parts.ensures.1 in
    rw (p.1, p.2) (λ octets files left again known.
    let s = c.in_ok-survey.ensures.ok octets left in
    let own : c.as_slice-domains.result.now ≡ domains_of (frames_of octets).0 = c.as_slice-domains.ensures.value ∙ s.0.domains in
    let free : IsFree octets files = λ d has. c.in_ok-check_free.ensures.free files known d (ap (is_among d) own ∙ has) in
    let same : g.F.Folder.files c.check_free.new.folder ≡ Some files = c.in_ok-check_free.ensures.files ∙ known in
    writing_refused octets files (g.F.Folder.files c.write_parts.new.folder) c.in_err-write_parts.field-0.0 (right_of octets c.in_ok-survey.survey s.0 s.1) s.1 free
    (c.in_err-write_parts.ensures.err octets files again same own free) (c.in_err-write_parts.ensures.fault octets again own)
    (λ is. c.write_parts.ensures.memory (c.in_err-write_parts.was ∙ ap (λ (e : SplitFault). Err e) is) ∙ same))

pub returns-in_err-survey-clause-memory : goal.returns-in_err-survey-clause-memory
returns-in_err-survey-clause-memory g c = λ is octets left.
    let p = err_from_is_err_and c.from_residual.result c.from_residual.ensures.1 in
    let told : c.in_err-survey.field-0.0 ≡ Memory = sym p.2 ∙ told_is _ _ Memory p.1 is in
    first_wanted (c.in_err-survey.ensures.memory (ap (λ (e : SplitFault). Err e) told) octets left)

pub returns-in_err-check_free-clause-memory : goal.returns-in_err-check_free-clause-memory
returns-in_err-check_free-clause-memory g c = λ is octets left.
    let p = err_from_is_err_and c.from_residual-in_err-check_free.result c.from_residual-in_err-check_free.ensures.1 in
    let told : c.in_err-check_free.field-0.0 ≡ Memory = sym p.2 ∙ told_is _ _ Memory p.1 is in
    absurd (look_no_want c.in_err-check_free.field-0.0 c.in_err-check_free.ensures.fault told)

pub returns-in_err-write_parts-clause-memory : goal.returns-in_err-write_parts-clause-memory
returns-in_err-write_parts-clause-memory g c = λ is octets left.
    let s = c.in_ok-survey.ensures.ok octets left in
    let own : c.as_slice-domains.result.now ≡ domains_of (frames_of octets).0 = c.as_slice-domains.ensures.value ∙ s.0.domains in
    let free : (files : Files) → g.F.Folder.files c.args.folder.now ≡ Some files → IsFree octets files = λ files known d has. c.in_ok-check_free.ensures.free files known d (ap (is_among d) own ∙ has) in
    inr (inr (right_of octets c.in_ok-survey.survey s.0 s.1, free))

pub returns-in_err-write_parts-clause-untouched : goal.returns-in_err-write_parts-clause-untouched
returns-in_err-write_parts-clause-untouched g c =
    let p = err_from_is_err_and c.from_residual-in_err-write_parts.result c.from_residual-in_err-write_parts.ensures.1 in
    rw (p.1, p.2) (λ told. c.write_parts.ensures.memory (c.in_err-write_parts.was ∙ ap (λ (e : SplitFault). Err e) (told_is _ c.in_err-write_parts.field-0.0 Memory refl told))
    ∙ c.in_ok-check_free.ensures.files)

pub returns-clause-done : goal.returns-clause-done
returns-clause-done g c = λ octets files left again known.
    let s = c.in_ok-survey.ensures.ok octets left in
    let own : c.as_slice-domains.result.now ≡ domains_of (frames_of octets).0 = c.as_slice-domains.ensures.value ∙ s.0.domains in
    let same : g.F.Folder.files c.check_free.new.folder ≡ Some files = c.in_ok-check_free.ensures.files ∙ known in
    record {
      right = right_of octets c.in_ok-survey.survey s.0 s.1;
      domains = ap length own;
      messages = s.0.count;
      free = λ d has. c.in_ok-check_free.ensures.free files known d (ap (is_among d) own ∙ has);
      written = c.in_ok-write_parts.ensures.ok octets files again same own;
    }
