-- Each part of a capture that is read without a fault is read so.
use Rattle.std.proofs.Common.{◌≡◌, ℕ, ◌+◌, Bool, true, false, cond, ◌&&◌, List, [], ◌∷◌, ◌++◌, length, Result, Ok, Err, refl, sym, ap, ap₂, subst, ◌∙◌, arith, append-nil}
use Rattle.std.specs.Prelude.{◌==◌, nat_le}
use Rattle.std.specs.List.{concat, AllByRecursion}
use Rattle.std.proofs.lemmas.Bool.Decides.{nat_tests}
use Rattle.std.proofs.lemmas.List.Elements.{filter-append}
use Rattle.tca_join.specs.Results.{◌>>=◌}
use Rattle.tca_wire.specs.Messages.{version_at}
use Rattle.tca_wire.specs.Frames.{IsFrame, Framing, Holds, Failed, frames_of}
use Rattle.tca_wire.specs.declared.message.Header.{Header}
use Rattle.tca_wire.proofs.Framings.{version_front}
use Rattle.tca_wire.proofs.FramesOf.{is_stream}
use Rattle.tca_templates.specs.Templates.{Templates}
use Rattle.tca_templates.specs.Records.{source_of}
use Rattle.tca_templates.specs.Reading.{ReadMessage}
use Rattle.tca_templates.specs.Sessions.{IsReading}
use Rattle.tca_templates.proofs.SessionMaps.{session_opens, reading_places}
use Rattle.tca_report.specs.report.Reports.{PacketReport}
use Rattle.tca_report.specs.export.Reading.{has_magic, reading}
use Rattle.tca_report.specs.input.Inputs.{CaptureSoFar, nothing, one_if, with_message, capture_after, capture_of, ended, exported, count_of_reason, reasons_of, reports_of, is_export}
use Rattle.tca_report.specs.input.Captures.{AreRead, ACapture}
use Rattle.tca_report.specs.declared.input.extraction.NotReport.{NotReport}
use Rattle.tca_report.specs.declared.input.InputFault.{InputFault}
use Rattle.tca_report.proofs.lemmas.input.CaptureLaws.{all_found, frames_all, input_only}
use Rattle.tca_split.specs.Parts.{domain_of, domains_of, messages_of, part_of}
use Rattle.tca_split.specs.Losses.{reports_in, AddUp, SplittingLosesNothing}
use Rattle.tca_split.proofs.DomainTemplates.{templates_in}
use Rattle.tca_split.proofs.DomainReadings.{kept, reading_in, reading_out}
use Rattle.tca_split.proofs.DomainReports.{reports_of_source}
use Rattle.tca_split.proofs.Added.{times, one_more, none_of, each_once}

-- what has come of a domain's part, where that has come of the capture
pub record IsPartOf (d : ℕ) (whole part : CaptureSoFar) : Type 0 where
  pub session : part.session ≡ whole.session
  pub templates : part.templates ≡ templates_in d whole.templates
  pub reports : part.reports ≡ reports_in d whole.reports

-- a part with one message more, which is of this domain
with_own : CaptureSoFar → (ℕ → CaptureSoFar) → ReadMessage → ℕ → ℕ → CaptureSoFar
with_own so_far parts given e d = cond (d == e) (with_message (parts d) (kept d given)) (parts d)

-- a message of the domain
own_read : (d : ℕ) (so_far part : CaptureSoFar) (m : List ℕ) (h : Header) (ss : List _) (given : ReadMessage) → d ≡ h.domain → IsPartOf d so_far part
    → IsReading so_far.templates (source_of so_far.session h) m ss given → IsReading part.templates (source_of part.session h) m ss (kept d given)
own_read d so_far part m h ss given same p r =
    let own : IsReading (templates_in d so_far.templates) (source_of so_far.session h) m ss (kept d given) =
    subst (λ (z : ℕ). IsReading (templates_in z so_far.templates) (source_of so_far.session h) m ss (kept z given)) (sym same) (reading_in so_far.templates (source_of so_far.session h) m ss given r) in
    subst (λ (s : ℕ). IsReading part.templates (source_of s h) m ss (kept d given)) (sym p.session)
    (subst (λ (ts : Templates). IsReading ts (source_of so_far.session h) m ss (kept d given)) (sym p.templates) own)

-- the parts with one message more
part_more : (d : ℕ) (so_far : CaptureSoFar) (parts : ℕ → CaptureSoFar) (m : List ℕ) (h : Header) (ss : List _) (given : ReadMessage) → IsPartOf d so_far (parts d)
    → IsReading so_far.templates (source_of so_far.session h) m ss given → IsPartOf d (with_message so_far given) (with_own so_far parts given h.domain d)
unfolding with_own
part_more d so_far parts m h ss given p r = go (d == h.domain) refl
  where
    all : reports_in d (reports_of given.records) ≡ cond (d == h.domain) (reports_of given.records) []
    all = reports_of_source d (source_of so_far.session h) 0 given.records (reading_places so_far.templates (source_of so_far.session h) m ss given r)

    go : (b : Bool) → (d == h.domain) ≡ b → IsPartOf d (with_message so_far given) (cond b (with_message (parts d) (kept d given)) (parts d))
    go true e = record {
      session = p.session;
      templates = refl;
      reports =
          ap₂ (λ (a b : List PacketReport). a ++ b) p.reports (sym (all ∙ ap (λ t. cond t (reports_of given.records) []) e))
          ∙ sym (filter-append (λ x. d == x.domain) so_far.reports (reports_of given.records));
    }
    go false e = record {
      session = p.session;
      templates = p.templates ∙ sym (reading_out d so_far.templates (source_of so_far.session h) m ss given e r);
      reports =
          p.reports ∙ sym (append-nil (reports_in d so_far.reports))
          ∙ ap (λ (b : List PacketReport). reports_in d so_far.reports ++ b) (sym (all ∙ ap (λ t. cond t (reports_of given.records) []) e))
          ∙ sym (filter-append (λ x. d == x.domain) so_far.reports (reports_of given.records));
    }

counted_both : (n : ℕ) (a b : List NotReport) → count_of_reason n (a ++ b) ≡ count_of_reason n a + count_of_reason n b
counted_both n [] b = omega arith
counted_both n (r ∷ a) b = let k = counted_both n a b in omega (arith, k)

-- the notes with one message more, whose domain is among the domains once
notes_more : (ds : List ℕ) (so_far : CaptureSoFar) (parts : ℕ → CaptureSoFar) (given : ReadMessage) (e : ℕ) → times e ds ≡ 1 → AddUp ds so_far parts
    → AddUp ds (with_message so_far given) (with_own so_far parts given e)
unfolding with_own
notes_more ds so_far parts given e once a = record {
  messages = ap (λ n. n + 1) a.messages ∙ sym (one_more (λ d. (parts d).messages) (λ d. (with_own so_far parts given e d).messages) 1 e (λ d. by (λ x. x.messages) 1 d refl) ds once);
  not_reports = λ reason.
      counted_both reason so_far.reasons (reasons_of given.records) ∙ ap (λ n. n + count_of_reason reason (reasons_of given.records)) (a.not_reports reason)
      ∙ sym (one_more (λ d. count_of_reason reason (parts d).reasons) (λ d. count_of_reason reason (with_own so_far parts given e d).reasons) (count_of_reason reason (reasons_of given.records)) e
      (λ d. by (λ x. count_of_reason reason x.reasons) (count_of_reason reason (reasons_of given.records)) d (counted_both reason (parts d).reasons (reasons_of given.records))) ds once);
  unplaced = ap (λ n. n + one_if given.unplaced) a.unplaced
      ∙ sym (one_more (λ d. (parts d).unplaced_messages) (λ d. (with_own so_far parts given e d).unplaced_messages) (one_if given.unplaced) e (λ d. by (λ x. x.unplaced_messages) (one_if given.unplaced) d refl) ds once);
  skipped = ap (λ n. n + given.skipped) a.skipped
      ∙ sym (one_more (λ d. (parts d).skipped) (λ d. (with_own so_far parts given e d).skipped) given.skipped e (λ d. by (λ x. x.skipped) given.skipped d refl) ds once);
}
  where
    by : (number : CaptureSoFar → ℕ) (x d : ℕ) → number (with_message (parts d) (kept d given)) ≡ number (parts d) + x
        → number (cond (d == e) (with_message (parts d) (kept d given)) (parts d)) ≡ cond (e == d) (number (parts d) + x) (number (parts d))
    by number x d more = go (d == e) refl
      where
        go : (b : Bool) → (d == e) ≡ b → number (cond b (with_message (parts d) (kept d given)) (parts d)) ≡ cond (e == d) (number (parts d) + x) (number (parts d))
        go true p =
            let back : (e == d) ≡ true = grind (arith, nat_tests, p) in
            more ∙ sym (ap (λ b. cond b (number (parts d) + x) (number (parts d))) back)
        go false p =
            let back : (e == d) ≡ false = grind (arith, nat_tests, p) in
            sym (ap (λ b. cond b (number (parts d) + x) (number (parts d))) back)

-- What comes of all parts.
pub record EndsIn (ds : List ℕ) (parts : ℕ → CaptureSoFar) (ms : List (List ℕ)) (after : CaptureSoFar) : Type 0 where
  pub ends : ℕ → CaptureSoFar
  pub read : (d : ℕ) → AreRead (parts d) (messages_of d ms) (ends d)
  pub are : (d : ℕ) → IsPartOf d after (ends d)
  pub notes : AddUp ds after ends

-- the first message, and then the others
with_first : (ds : List ℕ) (so_far after : CaptureSoFar) (parts : ℕ → CaptureSoFar) (m : List ℕ) (ms : List (List ℕ)) (p : AreRead so_far (m ∷ ms) after) → ((d : ℕ) → IsPartOf d so_far (parts d))
    → EndsIn ds (with_own so_far parts p.given p.header.domain) ms after → EndsIn ds parts (m ∷ ms) after
unfolding with_own
with_first ds so_far after parts m ms p are rest = record {
  ends = rest.ends;
  read = λ d. own d (domain_of m == d) refl (rest.read d);
  are = rest.are;
  notes = rest.notes;
}
  where
    same : p.header.domain ≡ domain_of m
    same = ap (λ (y : Header). y.domain) p.message.header

    own : (d : ℕ) (b : Bool) → (domain_of m == d) ≡ b → AreRead (cond (d == p.header.domain) (with_message (parts d) (kept d p.given)) (parts d)) (messages_of d ms) (rest.ends d)
        → AreRead (parts d) (cond b (m ∷ messages_of d ms) (messages_of d ms)) (rest.ends d)
    own d true e read =
        let one : domain_of m ≡ d = grind (arith, nat_tests, e) in
        let is : d ≡ p.header.domain = sym (same ∙ one) in
        let here : (d == p.header.domain) ≡ true = grind (arith, nat_tests, is) in
        record {
          header = p.header;
          sets = p.sets;
          given = kept d p.given;
          message = p.message;
          whole = p.whole;
          reading = own_read d so_far (parts d) m p.header p.sets p.given is (are d) p.reading;
          others = subst (λ b. AreRead (cond b (with_message (parts d) (kept d p.given)) (parts d)) (messages_of d ms) (rest.ends d)) here read;
        }
    own d false e read =
        let other : (d == domain_of m) ≡ false = grind (arith, nat_tests, e) in
        let there : (d == p.header.domain) ≡ false = subst (λ z. (d == z) ≡ false) (sym same) other in
        subst (λ b. AreRead (cond b (with_message (parts d) (kept d p.given)) (parts d)) (messages_of d ms) (rest.ends d)) there read

parts_read : (ds : List ℕ) (so_far after : CaptureSoFar) (parts : ℕ → CaptureSoFar) (ms : List (List ℕ)) → AllByRecursion (λ m. times (domain_of m) ds ≡ 1) ms → ((d : ℕ) → IsPartOf d so_far (parts d))
    → AddUp ds so_far parts → AreRead so_far ms after → EndsIn ds parts ms after
parts_read ds so_far after parts [] once are notes p = record {
  ends = parts;
  read = λ d. refl;
  are = λ d. subst (λ (x : CaptureSoFar). IsPartOf d x (parts d)) (sym p) (are d);
  notes = subst (λ (x : CaptureSoFar). AddUp ds x parts) (sym p) notes;
}
parts_read ds so_far after parts (m ∷ ms) once are notes p =
    let same : p.header.domain ≡ domain_of m = ap (λ (y : Header). y.domain) p.message.header in
    with_first ds so_far after parts m ms p are
    (parts_read ds (with_message so_far p.given) after (with_own so_far parts p.given p.header.domain) ms once.1
    (λ d. part_more d so_far parts m p.header p.sets p.given (are d) p.reading)
    (notes_more ds so_far parts p.given p.header.domain (ap (λ e. times e ds) same ∙ once.0) notes) p.others)

-- messages are no export
magic_version : (octets : List ℕ) → has_magic octets ≡ true → version_at octets ≡ 21571
magic_version [] e = absurd cc
magic_version (a ∷ []) e = absurd (let bad : ((a == 84) && false) ≡ true = e in grind (arith, nat_tests, bad))
magic_version (a ∷ (b ∷ rest)) e = grind (arith, nat_tests, e)

no_export : (ms : List (List ℕ)) → AllByRecursion IsFrame ms → is_export (concat ms) ≡ false
no_export [] each = refl
no_export (m ∷ ms) each = go (nat_le 4 (length (m ++ concat ms))) (has_magic (m ++ concat ms)) refl
  where
    ten : version_at (m ++ concat ms) ≡ 10
    ten = version_front m (concat ms) each.0.room ∙ each.0.version

    go : (a b : Bool) → has_magic (m ++ concat ms) ≡ b → (a && b) ≡ false
    go false b e = refl
    go true false e = refl
    go true true e = absurd (omega (arith, ten, magic_version (m ++ concat ms) e))

same_whole : (a b : CaptureSoFar) → let x : Result CaptureSoFar InputFault = Ok a in x ≡ Ok b → a ≡ b
same_whole a b e = cc

ended_well : (at : ℕ) (x : Framing) (now after : CaptureSoFar) → ended at x now ≡ Ok after → now ≡ after
ended_well at (Holds []) now after e = same_whole now after e
ended_well at (Holds (b ∷ bs)) now after e = absurd cc
ended_well at (Failed f) now after e = absurd cc

-- a capture's messages, as they are read
messages_read : (session : ℕ) (octets : List ℕ) (whole : CaptureSoFar) → capture_of session octets ≡ Ok whole → AreRead (nothing session) (frames_of octets).0 whole
messages_read session octets whole e = go (capture_after 0 (nothing session) (frames_of octets).0) refl e
  where
    go : (r : Result CaptureSoFar InputFault) → capture_after 0 (nothing session) (frames_of octets).0 ≡ r
        → (r >>= (ended (length (concat (frames_of octets).0)) (frames_of octets).1)) ≡ Ok whole → AreRead (nothing session) (frames_of octets).0 whole
    go (Err f) k e = absurd cc
    go (Ok now) k e =
        let is = ended_well (length (concat (frames_of octets).0)) (frames_of octets).1 now whole e in
        all_found 0 (nothing session) whole (frames_of octets).0 (is_stream octets).each session_opens (k ∙ ap (λ (x : CaptureSoFar). Ok x) is)

pub loses_nothing : SplittingLosesNothing
loses_nothing session octets whole other e = record {
  parts = last.ends;
  read = λ d. input_only (record { session = session; octets = part_of d octets }) (last.ends d) (ACapture (no_export (messages_of d (frames_of octets).0) (frames_all (nothing session) (messages_of d (frames_of octets).0) (last.ends d) (last.read d)))
      (record { messages = messages_of d (frames_of octets).0; whole = refl; read = last.read d }));
  reports = λ d. (last.are d).reports;
  notes = last.notes;
}
  where
    capture : capture_of session octets ≡ Ok whole
    capture = sym (ap (λ b. cond b (exported session (reading octets)) (capture_of session octets)) other) ∙ e

    last : EndsIn (domains_of (frames_of octets).0) (λ d. nothing session) (frames_of octets).0 whole
    last = parts_read (domains_of (frames_of octets).0) (nothing session) whole (λ d. nothing session) (frames_of octets).0 (each_once (frames_of octets).0)
        (λ d. record { session = refl; templates = refl; reports = refl })
        (record {
          messages = sym (none_of _ (λ d. refl) (domains_of (frames_of octets).0));
          not_reports = λ reason. sym (none_of _ (λ d. refl) (domains_of (frames_of octets).0));
          unplaced = sym (none_of _ (λ d. refl) (domains_of (frames_of octets).0));
          skipped = sym (none_of _ (λ d. refl) (domains_of (frames_of octets).0));
        })
        (messages_read session octets whole capture)
