use Rattle.std.proofs.Common.{◌≡◌, ◌++◌, ◌∙◌, sym, ap, subst, ℕ, List, [], Err}
use Rattle.std.specs.Prelude.{IsErrOf}
use Rattle.std.proofs.lemmas.Result.{err_from_is_err_and}
use Rattle.tca_wire.specs.Frames.{Failed, Feeds}
use Rattle.tca_wire.specs.declared.fault.WireFault.TheVariants as wire
use Rattle.tca_split.specs.Faults.{framing_fault}
use Rattle.tca_split.specs.inside.Surveying.{IsFirstRefused, IsOfFraming}
use Rattle.tca_split.specs.declared.survey.Survey.{Survey}
use Rattle.tca_split.specs.declared.fault.SplitFault.{SplitFault}
use Rattle.tca_split.specs.declared.fault.SplitFault.TheVariants.{Memory}
use Rattle.tca_split.proofs.LentFrames.{both_frames}
use Rattle.tca_split.proofs.SurveySteps.{fed, framed_on, failed_stream, surveyed_is, refused_by_fault, refused_within, wanted_by, brought_by, framing_kind, header_fault}
use Rattle.tca_split.proofs.survey.Survey.take_piece.Goals as goal

pub take_messages-requires : goal.take_messages-requires
take_messages-requires c = record { frames = both_frames _ _ _ c.messages.ensures }

pub returns-in-Err-clause-err : goal.returns-in-Err-clause-err
returns-in-Err-clause-err c = λ octets behind ms f h.
    let is : c.in-Err.fault ≡ wire.Memory = c.in-Err.ensures.memory in
    subst (λ (e : SplitFault). IsFirstRefused ((octets ++ c.args.piece.now) ++ behind) e) (sym (c.framing_fault.ensures ∙ ap framing_fault is)) tt

pub returns-in_err-survey-clause-err : goal.returns-in_err-survey-clause-err
returns-in_err-survey-clause-err c = λ octets behind ms f h.
    let ns = c.messages.result in
    let feeds = subst (λ (l : List (List ℕ)). Feeds c.args.framer.now c.args.piece.now l c.lend.new.self) (sym c.messages.ensures) c.in-Ok.ensures.stream in
    let s = fed octets c.args.piece.now ms ns c.args.framer.now c.lend.new.self f feeds in
    let p = err_from_is_err_and c.from_residual.result c.from_residual.ensures.1 in
    rw (p.1, p.2) (refused_within (octets ++ c.args.piece.now) behind (ms ++ ns) c.lend.new.self _ s (c.in_err-survey.ensures.err ms h))

pub returns-in-Some-clause-err : goal.returns-in-Some-clause-err
returns-in-Some-clause-err c = λ octets behind ms f h.
    let ns = c.messages.result in
    let feeds = subst (λ (l : List (List ℕ)). Feeds c.args.framer.now c.args.piece.now l c.lend.new.self) (sym c.messages.ensures) c.in-Ok.ensures.stream in
    let s = fed octets c.args.piece.now ms ns c.args.framer.now c.lend.new.self f feeds in
    let now = c.in_ok-survey.ensures.ok ms h in
    let failed = failed_stream (octets ++ c.args.piece.now) behind (ms ++ ns) c.lend.new.self c.in-Some.fault s (sym c.in-Ok.ensures.fault ∙ c.in-Some.is) in
    let told = surveyed_is ((octets ++ c.args.piece.now) ++ behind) (ms ++ ns) (Failed c.in-Some.fault) failed now.few in
    subst (λ (e : SplitFault). IsFirstRefused ((octets ++ c.args.piece.now) ++ behind) e) (sym c.framing_fault-in-Some.ensures) (refused_by_fault ((octets ++ c.args.piece.now) ++ behind) c.in-Some.fault told)

pub returns-clause-ok : goal.returns-clause-ok
returns-clause-ok c = λ octets ms f h.
    let ns = c.messages.result in
    let feeds = subst (λ (l : List (List ℕ)). Feeds c.args.framer.now c.args.piece.now l c.lend.new.self) (sym c.messages.ensures) c.in-Ok.ensures.stream in
    let s = fed octets c.args.piece.now ms ns c.args.framer.now c.lend.new.self f feeds in
    (ms ++ ns, framed_on (octets ++ c.args.piece.now) (ms ++ ns) c.lend.new.self s (sym c.in-Ok.ensures.fault ∙ c.in-None.is), c.in_ok-survey.ensures.ok ms h)

pub returns-in-Err-clause-memory : goal.returns-in-Err-clause-memory
returns-in-Err-clause-memory c = λ is octets ms f h. wanted_by octets c.args.piece.now ms c.args.framer.now f c.in-Err.ensures.needed

pub returns-in-Err-clause-kind : goal.returns-in-Err-clause-kind
returns-in-Err-clause-kind c = subst (λ (e : SplitFault). IsOfFraming e) (sym c.framing_fault.ensures) (framing_kind c.in-Err.fault)

pub returns-in_err-survey-clause-memory : goal.returns-in_err-survey-clause-memory
returns-in_err-survey-clause-memory c = λ is octets ms f h.
    let p = err_from_is_err_and c.from_residual.result c.from_residual.ensures.1 in
    let told : IsErrOf {T = Survey} {E = SplitFault} (Err c.in_err-survey.field-0.0) Memory = ap (λ (x : SplitFault). Err x) (sym p.2) ∙ sym p.1 ∙ is in
    let ns = c.messages.result in
    let feeds = subst (λ (l : List (List ℕ)). Feeds c.args.framer.now c.args.piece.now l c.lend.new.self) (sym c.messages.ensures) c.in-Ok.ensures.stream in
    brought_by octets c.args.piece.now ms ns c.args.framer.now c.lend.new.self f feeds (c.in_err-survey.ensures.memory told ms h)

pub returns-in-Some-clause-memory : goal.returns-in-Some-clause-memory
returns-in-Some-clause-memory c = λ is octets ms f h.
    let ns = c.messages.result in
    let feeds = subst (λ (l : List (List ℕ)). Feeds c.args.framer.now c.args.piece.now l c.lend.new.self) (sym c.messages.ensures) c.in-Ok.ensures.stream in
    let s = fed octets c.args.piece.now ms ns c.args.framer.now c.lend.new.self f feeds in
    let failed = failed_stream (octets ++ c.args.piece.now) [] (ms ++ ns) c.lend.new.self c.in-Some.fault s (sym c.in-Ok.ensures.fault ∙ c.in-Some.is) in
    let told : c.framing_fault-in-Some.result ≡ Memory = cc in
    absurd (header_fault _ (ms ++ ns) c.in-Some.fault failed (sym c.framing_fault-in-Some.ensures ∙ told))

pub returns-in-Some-clause-kind : goal.returns-in-Some-clause-kind
returns-in-Some-clause-kind c = subst (λ (e : SplitFault). IsOfFraming e) (sym c.framing_fault-in-Some.ensures) (framing_kind c.in-Some.fault)
