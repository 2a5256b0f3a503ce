-- What is read of an input is what it is, and nothing else is.
use Rattle.std.proofs.Common.{◌≡◌, ℕ, zero, suc, ◌+◌, ◌<◌, Bool, true, false, cond, ◌&&◌, List, [], ◌∷◌, ◌++◌, length, take, nat_le, Result, Ok, Err, refl, sym, ap, subst, ◌∙◌, arith, inl, take_all, append-nil}
use Rattle.std.specs.List.{concat, AllByRecursion}
use Rattle.std.proofs.lemmas.Bool.Decides.{nat_tests}
use Rattle.tca_join.specs.Results.{◌>>=◌}
use Rattle.tca_wire.specs.Messages.{IsMessage, message_of}
use Rattle.tca_wire.specs.Frames.{IsFrame, Framing, Holds, Failed, EndsAs, IsStream, frames_of}
use Rattle.tca_wire.specs.declared.message.Header.{Header}
use Rattle.tca_wire.specs.declared.message.SetSpan.{SetSpan}
use Rattle.tca_wire.specs.declared.fault.WireFault.{WireFault}
use Rattle.tca_wire.proofs.Tiles.{message_found, message_only}
use Rattle.tca_wire.proofs.FramesOf.{is_stream}
use Rattle.tca_templates.specs.Records.{source_of}
use Rattle.tca_templates.specs.Reading.{ReadMessage, read_of}
use Rattle.tca_templates.specs.Sessions.{IsSession, IsReading}
use Rattle.tca_templates.specs.declared.fault.DecodeFault.{DecodeFault}
use Rattle.tca_templates.proofs.SessionLaws.{reading_found, reading_only}
use Rattle.tca_templates.proofs.SessionMaps.{session_opens, session_stays}
use Rattle.tca_report.specs.report.Reports.{PacketReport}
use Rattle.tca_report.specs.export.Spelling.{spelling, IsExport}
use Rattle.tca_report.specs.export.Reading.{has_magic, reading}
use Rattle.tca_report.specs.input.Inputs.{CaptureSoFar, nothing, with_message, with_reading, with_split, capture_with, capture_after, ended, capture_of, is_export, exported, read_input, InputView}
use Rattle.tca_report.specs.input.Captures.{AreRead, IsCapture, IsInput, AnExport, ACapture}
use Rattle.tca_report.specs.declared.export.ExportFault.{ExportFault}
use Rattle.tca_report.specs.declared.input.InputFault.{InputFault}
use Rattle.tca_report.proofs.lemmas.export.Spelling.{length-spelling, reading-export, reading_takes}
use Rattle.tca_report.proofs.lemmas.export.Records.{IsBytes}
use Rattle.tca_report.proofs.lemmas.input.CaptureParts.{all_none, all_next, capture_ends}
use Rattle.tca_report.proofs.lemmas.input.ReaderAgrees.{with_is}

same_capture : (a b : CaptureSoFar) → let x : Result CaptureSoFar InputFault = Ok a in x ≡ Ok b → a ≡ b
same_capture a b e = cc

-- one message that was read
pub record IsNext (so_far : CaptureSoFar) (octets : List ℕ) (next : CaptureSoFar) : Type 0 where
  pub header : Header
  pub sets : List SetSpan
  pub given : ReadMessage
  pub message : IsMessage octets header sets
  pub whole : header.length ≡ length octets
  pub reading : IsReading so_far.templates (source_of so_far.session header) octets sets given
  pub is : next ≡ with_message so_far given

seen_holds : (at : ℕ) (so_far next : CaptureSoFar) (r : Result ReadMessage DecodeFault) → with_reading at so_far r ≡ Ok next → (given : ReadMessage) × (r ≡ Ok given) × (next ≡ with_message so_far given)
seen_holds at so_far next (Ok given) e = (given, refl, sym (same_capture (with_message so_far given) next e))
seen_holds at so_far next (Err f) e = absurd cc

pub with_found : (at : ℕ) (so_far next : CaptureSoFar) (m : List ℕ) → IsFrame m → IsSession so_far.templates → capture_with at so_far m ≡ Ok next → IsNext so_far m next
with_found at so_far next m frame ok e = go (message_of m) refl e
  where
    go : (r : Result (Header × List SetSpan) WireFault) → message_of m ≡ r → with_split at so_far m r ≡ Ok next → IsNext so_far m next
    go (Err f) k e = absurd cc
    go (Ok x) k e =
        let message : IsMessage m x.0 x.1 = message_found m x.0 x.1 k in
        let whole : x.0.length ≡ length m = ap (λ (y : Header). y.length) message.header ∙ frame.whole in
        let own : take x.0.length m ≡ m = take_all x.0.length m (omega (arith, whole)) in
        let t = seen_holds at so_far next (read_of so_far.templates (source_of so_far.session x.0) (take x.0.length m) x.1) e in
        let read : read_of so_far.templates (source_of so_far.session x.0) m x.1 ≡ Ok t.0 = ap (λ (o : List ℕ). read_of so_far.templates (source_of so_far.session x.0) o x.1) (sym own) ∙ t.1 in
        record {
          header = x.0;
          sets = x.1;
          given = t.0;
          message = message;
          whole = whole;
          reading = reading_found so_far.templates (source_of so_far.session x.0) m x.1 t.0 ok.octets read;
          is = t.2;
        }

pub all_found : (at : ℕ) (so_far after : CaptureSoFar) (ms : List (List ℕ)) → AllByRecursion IsFrame ms → IsSession so_far.templates → capture_after at so_far ms ≡ Ok after → AreRead so_far ms after
unfolding capture_after
all_found at so_far after [] each ok e = sym (same_capture so_far after e)
all_found at so_far after (m ∷ ms) each ok e = go (λ next session k. all_found (at + length m) next after ms each.1 session k) (capture_with at so_far m) refl e
  where
    go : ((next : CaptureSoFar) → IsSession next.templates → capture_after (at + length m) next ms ≡ Ok after → AreRead next ms after)
        → (r : Result CaptureSoFar InputFault) → capture_with at so_far m ≡ r → (r >>= (λ next. capture_after (at + length m) next ms)) ≡ Ok after → AreRead so_far (m ∷ ms) after
    go more (Err f) k e = absurd cc
    go more (Ok next) k e =
        let n = with_found at so_far next m each.0 ok k in
        let session : IsSession next.templates = subst (λ (x : CaptureSoFar). IsSession x.templates) (sym n.is) (session_stays so_far.templates (source_of so_far.session n.header) m n.sets n.given ok n.reading) in
        record {
          header = n.header;
          sets = n.sets;
          given = n.given;
          message = n.message;
          whole = n.whole;
          reading = n.reading;
          others = subst (λ (x : CaptureSoFar). AreRead x ms after) n.is (more next session e);
        }

ended_holds : (at : ℕ) (x : Framing) (now after : CaptureSoFar) → ended at x now ≡ Ok after → (x ≡ Holds []) × (now ≡ after)
ended_holds at (Holds []) now after e = (refl, same_capture now after e)
ended_holds at (Holds (b ∷ bs)) now after e = absurd cc
ended_holds at (Failed f) now after e = absurd cc

capture_found : (session : ℕ) (octets : List ℕ) (after : CaptureSoFar) → capture_of session octets ≡ Ok after → IsCapture session octets after
capture_found session octets after e = go (capture_after 0 (nothing session) (frames_of octets).0) refl e
  where
    go : (r : Result CaptureSoFar InputFault) → capture_after 0 (nothing session) (frames_of octets).0 ≡ r
        → (r >>= (ended (length (concat (frames_of octets).0)) (frames_of octets).1)) ≡ Ok after → IsCapture session octets after
    go (Err f) k e = absurd cc
    go (Ok now) k e =
        let s = is_stream octets in
        let t = ended_holds (length (concat (frames_of octets).0)) (frames_of octets).1 now after e in
        let ends : EndsAs s.rest (Holds []) = subst (λ (x : Framing). EndsAs s.rest x) t.0 s.ends in
        record {
          messages = (frames_of octets).0;
          whole = s.whole ∙ ap (λ (rest : List ℕ). concat (frames_of octets).0 ++ rest) (sym ends.0) ∙ append-nil (concat (frames_of octets).0);
          read = all_found 0 (nothing session) after (frames_of octets).0 s.each session_opens (k ∙ ap (λ (x : CaptureSoFar). Ok x) t.1);
        }

pub frames_all : (so_far : CaptureSoFar) (ms : List (List ℕ)) (after : CaptureSoFar) → AreRead so_far ms after → AllByRecursion IsFrame ms
frames_all so_far [] after p = tt
frames_all so_far (m ∷ ms) after p =
    let facts : p.header.length ≡ _ = ap (λ (y : Header). y.length) p.message.header in
    let frame : IsFrame m = record {
      version = p.message.version;
      whole = sym facts ∙ p.whole;
      room = omega (arith, p.message.room, p.whole);
    } in
    (frame, frames_all (with_message so_far p.given) ms after p.others)

with_only : (at : ℕ) (so_far : CaptureSoFar) (m : List ℕ) (header : Header) (sets : List SetSpan) (given : ReadMessage) → IsMessage m header sets → header.length ≡ length m
    → IsReading so_far.templates (source_of so_far.session header) m sets given → capture_with at so_far m ≡ Ok (with_message so_far given)
with_only at so_far m header sets given message whole reading =
    let own : take header.length m ≡ m = take_all header.length m (omega (arith, whole)) in
    with_is at so_far m m so_far.session so_far.templates header sets (Ok given) (message_only m header sets message) refl refl (sym own) (reading_only so_far.templates (source_of so_far.session header) m sets given reading)

pub all_only : (at : ℕ) (so_far : CaptureSoFar) (ms : List (List ℕ)) (after : CaptureSoFar) → AreRead so_far ms after → capture_after at so_far ms ≡ Ok after
all_only at so_far [] after p = all_none at so_far ∙ ap (λ (x : CaptureSoFar). Ok x) (sym p)
all_only at so_far (m ∷ ms) after p =
    all_next at so_far (with_message so_far p.given) m ms (with_only at so_far m p.header p.sets p.given p.message p.whole p.reading)
    ∙ all_only (at + length m) (with_message so_far p.given) ms after p.others

capture_only : (session : ℕ) (octets : List ℕ) (after : CaptureSoFar) → IsCapture session octets after → capture_of session octets ≡ Ok after
capture_only session octets after p =
    let stream : IsStream octets p.messages (Holds []) = record {
      rest = [];
      whole = p.whole ∙ sym (append-nil (concat p.messages));
      each = frames_all (nothing session) p.messages after p.read;
      ends = (refl, inl (omega arith));
    } in
    capture_ends session octets p.messages (Holds []) after stream (all_only 0 (nothing session) p.messages after p.read)

pub bytes : (octets : List ℕ) → AllByRecursion (λ (b : ℕ). b < 256) octets → IsBytes octets
bytes [] all i = omega arith
bytes (b ∷ bs) all zero = all.0
bytes (b ∷ bs) all (suc i) = bytes bs all.1 i

exported_holds : (session : ℕ) (r : Result (List PacketReport) ExportFault) (after : CaptureSoFar) → exported session r ≡ Ok after → (rs : List PacketReport) × (r ≡ Ok rs) × (after ≡ record (nothing session) { reports = rs })
exported_holds session (Ok rs) after e = (rs, refl, sym (same_capture (record (nothing session) { reports = rs }) after e))
exported_holds session (Err f) after e = absurd cc

pub input_found : (input : InputView) (after : CaptureSoFar) → AllByRecursion (λ (b : ℕ). b < 256) input.octets → read_input input ≡ Ok after → IsInput input after
input_found input after all e = go (is_export input.octets) refl e
  where
    go : (b : Bool) → is_export input.octets ≡ b → cond b (exported input.session (reading input.octets)) (capture_of input.session input.octets) ≡ Ok after → IsInput input after
    go true k e =
        let t = exported_holds input.session (reading input.octets) after e in
        AnExport t.0 (reading_takes input.octets t.0 (bytes input.octets all) t.1) t.2
    go false k e = ACapture k (capture_found input.session input.octets after e)

begins : (octets : List ℕ) (rs : List PacketReport) → IsExport octets rs → is_export octets ≡ true
begins octets rs p =
    let all = spelling p.format rs in
    let long : nat_le 4 (length all) ≡ true = grind (arith, nat_tests, length-spelling p.format rs) in
    ap is_export p.whole ∙ ap (λ z. z && has_magic all) long

pub input_only : (input : InputView) (after : CaptureSoFar) → IsInput input after → read_input input ≡ Ok after
input_only input after (AnExport rs p is) =
    ap (λ z. cond z (exported input.session (reading input.octets)) (capture_of input.session input.octets)) (begins input.octets rs p)
    ∙ ap (λ (r : Result (List PacketReport) ExportFault). exported input.session r) (reading-export input.octets rs p) ∙ ap (λ (x : CaptureSoFar). Ok x) (sym is)
input_only input after (ACapture other p) =
    ap (λ z. cond z (exported input.session (reading input.octets)) (capture_of input.session input.octets)) other ∙ capture_only input.session input.octets after p
