-- Reading a capture where it lies, message by message.
use Rattle.std.proofs.Common.{◌≡◌, ℕ, ◌+◌, ◌<◌, ◌≤◌, List, [], ◌∷◌, ◌++◌, length, take, drop, take_all, append_assoc, Result, Ok, Err, refl, sym, ap, subst, ◌∙◌, arith, inl}
use Rattle.std.specs.List.{concat}
use Rattle.std.proofs.Math.Seq.{drop-append_seam}
use Rattle.std.proofs.lemmas.List.{length-append, length-take-le, take-append-drop, nil_from_length}
use Rattle.std.proofs.lemmas.List.Folds.{concat-append}
use Rattle.tca_wire.specs.Messages.{length_at, IsMessage, message_of}
use Rattle.tca_wire.specs.Frames.{IsFrame, Framing, Holds}
use Rattle.tca_wire.specs.declared.message.Header.{Header}
use Rattle.tca_wire.specs.declared.message.SetSpan.{SetSpan}
use Rattle.tca_wire.specs.declared.fault.WireFault.{WireFault}
use Rattle.tca_wire.proofs.Tiles.{message_found, message_only}
use Rattle.tca_wire.proofs.FirstFaults.{fault_found}
use Rattle.tca_wire.proofs.Framings.{length_front, each_both, frame_more}
use Rattle.tca_templates.specs.Records.{source_of}
use Rattle.tca_templates.specs.Reading.{read_of}
use Rattle.tca_templates.proofs.SessionMaps.{session_opens}
use Rattle.tca_report.specs.input.Inputs.{CaptureSoFar, nothing, with_split, capture_with, capture_after, capture_of}
use Rattle.tca_report.specs.input.Captures.{AreRead}
use Rattle.tca_report.specs.input.Wants.{IsWantedFor, IsWantedInCapture}
use Rattle.tca_report.specs.inside.CaptureReaders.{Agrees, HasRead, StandsIn}
use Rattle.tca_report.specs.declared.input.InputFault.{InputFault}
use Rattle.tca_report.specs.declared.input.capture.CaptureReader.{CaptureReader}
use Rattle.tca_report.proofs.lemmas.input.CaptureParts.{all_none, all_on, all_next}
use Rattle.tca_report.proofs.lemmas.input.ReaderAgrees.{with_is}
use Rattle.tca_report.proofs.lemmas.input.CaptureLaws.{all_found}
use Rattle.tca_report.proofs.lemmas.input.CaptureFaults.{message_own, frame_own, refused_there, no_message}

-- A message at the front of octets, without what is behind it.
module _ (octets : List ℕ) (header : Header) (sets : List SetSpan) (p : IsMessage octets header sets) where
  abbrev m : List ℕ
  m = take header.length octets

  abbrev behind : List ℕ
  behind = drop header.length octets

  parts : octets ≡ m ++ behind
  parts = sym (take-append-drop header.length octets)

  size : length m ≡ header.length
  size = length-take-le header.length octets p.whole

  there : IsMessage (m ++ behind) header sets
  there = subst (λ (o : List ℕ). IsMessage o header sets) parts p

  own : IsMessage m header sets
  own = message_own m behind header sets (sym size) there

  own_frame : IsFrame m
  own_frame =
      let facts : length_at (m ++ behind) ≡ length m = sym (ap (λ (x : Header). x.length) there.header) ∙ sym size in
      frame_own m behind (omega (arith, size, p.room)) there.version facts

  -- it is read as with them
  own_with : (at : ℕ) (so_far : CaptureSoFar) → capture_with at so_far m ≡ capture_with at so_far octets
  own_with at so_far =
      let whole : take header.length m ≡ m = take_all header.length m (omega (arith, size)) in
      with_is at so_far m m so_far.session so_far.templates header sets (read_of so_far.templates (source_of so_far.session header) m sets) (message_only m header sets own) refl refl (sym whole) refl
      ∙ sym (with_is at so_far octets m so_far.session so_far.templates header sets (read_of so_far.templates (source_of so_far.session header) m sets) (message_only octets header sets p) refl refl refl refl)

-- the frame of a message that was split off
pub front_frame : (octets : List ℕ) (header : Header) (sets : List SetSpan) → IsMessage octets header sets → IsFrame (take (length_at octets) octets)
front_frame octets header sets p =
    subst (λ (n : ℕ). IsFrame (take n octets)) (ap (λ (x : Header). x.length) p.header) (own_frame octets header sets p)

own_read : (at : ℕ) (so_far next : CaptureSoFar) (octets : List ℕ) → capture_with at so_far octets ≡ Ok next → capture_with at so_far (take (length_at octets) octets) ≡ Ok next
own_read at so_far next octets e = go (message_of octets) refl e
  where
    go : (r : Result (Header × List SetSpan) WireFault) → message_of octets ≡ r → with_split at so_far octets r ≡ Ok next → capture_with at so_far (take (length_at octets) octets) ≡ Ok next
    go (Err f) k j = absurd cc
    go (Ok x) k j =
        let p = message_found octets x.0 x.1 k in
        let size : x.0.length ≡ length_at octets = ap (λ (y : Header). y.length) p.header in
        subst (λ (n : ℕ). capture_with at so_far (take n octets) ≡ Ok next) size (own_with octets x.0 x.1 p at so_far ∙ e)

-- a reader stands behind the messages that it has read
pub stands : (session : ℕ) (octets done behind : List ℕ) (framer : Framing) (p : CaptureReader) → HasRead session done framer p → octets ≡ done ++ behind → StandsIn session octets p
stands session octets done behind framer p r e = record {
  messages = r.messages;
  rest = r.stream.rest ++ behind;
  so_far = r.so_far;
  whole = e ∙ ap (λ z. z ++ behind) r.stream.whole ∙ append_assoc (concat r.messages) r.stream.rest behind;
  each = r.stream.each;
  read = r.read;
  agrees = r.agrees;
  at = r.at;
}

module _ (session : ℕ) (octets left : List ℕ) (p : CaptureReader) (s : StandsIn session octets p) (cut : left ≡ drop p.at octets) where
  left_is : s.rest ≡ left
  left_is = sym (cut ∙ ap (λ (n : ℕ). drop n octets) s.at ∙ ap (λ (o : List ℕ). drop (length (concat s.messages)) o) s.whole ∙ drop-append_seam (concat s.messages) s.rest)

  split : octets ≡ concat s.messages ++ left
  split = s.whole ∙ ap (λ (o : List ℕ). concat s.messages ++ o) left_is

  before : AreRead (nothing session) s.messages s.so_far
  before = all_found 0 (nothing session) s.so_far s.messages s.each session_opens s.read

  pub goes_on : (q : CaptureReader) (next : CaptureSoFar) → capture_with p.at s.so_far left ≡ Ok next → Agrees q next → IsFrame (take (length_at left) left)
      → q.at ≡ p.at + length_at left → StandsIn session octets q
  goes_on q next e agrees frame at =
      let m = take (length_at left) left in
      let behind = drop (length_at left) left in
      let parts : left ≡ m ++ behind = sym (take-append-drop (length_at left) left) in
      let size : length_at left ≡ length m = ap (λ (o : List ℕ). length_at o) parts ∙ length_front m behind frame.room ∙ frame.whole in
      let here : 0 + length (concat s.messages) ≡ p.at = omega (arith, s.at) in
      let far = ap length (concat-append s.messages (m ∷ [])) in
      record {
        messages = s.messages ++ m ∷ [];
        rest = behind;
        so_far = next;
        whole = frame_more octets s.messages m left behind split parts;
        each = each_both s.messages (m ∷ []) s.each (frame, tt);
        read = all_on 0 (nothing session) s.messages (m ∷ []) s.so_far s.read ∙ ap (λ (n : ℕ). capture_after n s.so_far (m ∷ [])) here
            ∙ all_next p.at s.so_far next m [] (own_read p.at s.so_far next left e) ∙ all_none (p.at + length m) next;
        agrees = agrees;
        at = omega (arith, at, s.at, size, far, length-append (concat s.messages) (m ++ []), length-append m []);
      }

  pub refused_here : (fault : InputFault) → 0 < length left → capture_with p.at s.so_far left ≡ Err fault → capture_of session octets ≡ Err fault
  refused_here fault some e = go (message_of left) refl (ap (λ (n : ℕ). capture_with n s.so_far left) (sym s.at) ∙ e)
    where
      go : (r : Result (Header × List SetSpan) WireFault) → message_of left ≡ r → with_split (length (concat s.messages)) s.so_far left r ≡ Err fault → capture_of session octets ≡ Err fault
      go (Err f) k j = no_message session octets s.messages left s.so_far split before f some (fault_found left f k) ∙ j
      go (Ok x) k j =
          let message = message_found left x.0 x.1 k in
          refused_there session octets s.messages left s.so_far split before (take x.0.length left) (drop x.0.length left) fault (parts left x.0 x.1 message) (own_frame left x.0 x.1 message)
          (own_with left x.0 x.1 message (length (concat s.messages)) s.so_far ∙ ap (λ (n : ℕ). capture_with n s.so_far left) (sym s.at) ∙ e)

  pub wanted_here : IsWantedFor s.so_far left → IsWantedInCapture session octets
  wanted_here w = record {
    messages = s.messages;
    rest = left;
    so_far = s.so_far;
    whole = split;
    before = before;
    wanted = w;
  }

-- nothing is left of the capture
pub all_read : (session : ℕ) (octets : List ℕ) (p : CaptureReader) → StandsIn session octets p → length octets ≤ p.at → HasRead session octets (Holds []) p
all_read session octets p s end =
    let none : s.rest ≡ [] = nil_from_length s.rest (omega (arith, end, s.at, ap length s.whole, length-append (concat s.messages) s.rest)) in
    record {
      messages = s.messages;
      held = [];
      so_far = s.so_far;
      stream = record {
        rest = [];
        whole = s.whole ∙ ap (λ (o : List ℕ). concat s.messages ++ o) none;
        each = s.each;
        ends = (refl, inl (omega arith));
      };
      holds = refl;
      read = s.read;
      agrees = s.agrees;
      at = s.at;
    }
