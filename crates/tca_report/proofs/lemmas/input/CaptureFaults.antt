-- The fault that an input is refused for is the first from the left, and the first from the left is the one that it is refused for.
use Rattle.std.proofs.Common.{◌≡◌, ℕ, ◌+◌, ◌<◌, ◌≤◌, Bool, true, false, cond, List, [], ◌∷◌, ◌++◌, length, take, drop, take_all, append-nil, append_assoc, Result, Ok, Err, refl, sym, ap, subst, ◌∙◌, arith, inl, inr}
use Rattle.std.specs.Prelude.{◌≢◌, IfErr}
use Rattle.std.specs.List.{concat, AllByRecursion}
use Rattle.std.proofs.lemmas.List.{length-append, length-drop, length-take-le, take-append-le, drop-append-le, take-append-drop}
use Rattle.byteorder.specs.Endian.{big_number}
use Rattle.byteorder.specs.Numbers.{big_from-take}
use Rattle.tca_join.specs.Results.{Gives, ◌>>=◌}
use Rattle.tca_wire.specs.Messages.{version_at, length_at, header_at, tile, IsMessage, message_of}
use Rattle.tca_wire.specs.Frames.{IsFrame, IsFaulty, Framing, Holds, Failed, EndsAs, IsStream, frames_of}
use Rattle.tca_wire.specs.FirstFaults as wire
use Rattle.tca_wire.specs.declared.message.Header.{Header}
use Rattle.tca_wire.specs.declared.message.SetSpan.{SetSpan}
use Rattle.tca_wire.specs.declared.fault.WireFault.{WireFault}
use Rattle.tca_wire.specs.declared.fault.WireFault.TheVariants.{Short, BadVersion, BadLength, SetLength, SetPastEnd, Trailing, Memory}
use Rattle.tca_wire.proofs.Walking.{gives_err}
use Rattle.tca_wire.proofs.Tiles.{message_found, message_only}
use Rattle.tca_wire.proofs.FirstFaults.{fault_found, fault_only}
use Rattle.tca_wire.proofs.Framings.{version_front, length_front, each_both, frame_more}
use Rattle.tca_wire.proofs.FramesOf.{is_stream}
use Rattle.tca_templates.specs.Records.{source_of}
use Rattle.tca_templates.specs.Reading.{ReadMessage, read_of}
use Rattle.tca_templates.specs.Sessions.{IsSession}
use Rattle.tca_templates.specs.FirstFaults as templates
use Rattle.tca_templates.specs.declared.fault.DecodeFault.{DecodeFault}
use Rattle.tca_templates.proofs.FirstFaults.{reading_fault, reading_no_other}
use Rattle.tca_templates.proofs.SessionMaps.{session_opens, session_stays}
use Rattle.tca_report.specs.report.Reports.{PacketReport}
use Rattle.tca_report.specs.export.Reading.{reading}
use Rattle.tca_report.specs.input.Inputs.{CaptureSoFar, nothing, with_message, with_reading, with_split, capture_with, capture_after, ended, capture_of, is_export, exported, read_input, InputView}
use Rattle.tca_report.specs.input.Captures.{AreRead}
use Rattle.tca_report.specs.input.FirstFaults.{IsFaultyMessage, NoMessage, WrongMessage, IsFaultyCapture, IsFirstFault, AnExport, ACapture}
use Rattle.tca_report.specs.input.Gathered.{gathered_of, gathered_view}
use Rattle.tca_report.specs.declared.export.ExportFault.{ExportFault}
use Rattle.tca_report.specs.declared.input.Gathered.{Gathered}
use Rattle.tca_report.specs.declared.input.InputFault.{InputFault}
use Rattle.tca_report.specs.declared.input.InputFault.TheVariants.{Export, Wire, Decode}
use Rattle.tca_report.specs.declared.input.InputFault.TheVariants as faults
use Rattle.tca_report.proofs.lemmas.input.CaptureParts.{still_faulty, all_on, all_refused, capture_ends, capture_stops}
use Rattle.tca_report.proofs.lemmas.input.ReaderAgrees.{with_is}
use Rattle.tca_report.proofs.lemmas.input.CaptureLaws.{with_found, all_found, frames_all, all_only, bytes}
use Rattle.tca_report.specs.export.FirstFaults.{IsFaultyExport}
use Rattle.tca_report.proofs.lemmas.export.FirstFaults.{export_fault, export_no_other}

same_fault : (a b : InputFault) → let x : Result CaptureSoFar InputFault = Err a in x ≡ Err b → a ≡ b
same_fault a b e = cc

-- a number reads no octet behind its own
front_number : (n : ℕ) (xs ys : List ℕ) → n ≤ length xs → big_number n (xs ++ ys) ≡ big_number n xs
front_number n xs ys h =
    sym (big_from-take 0 n n (xs ++ ys) (omega arith)) ∙ ap (λ (zs : List ℕ). big_number n zs) (take-append-le n xs ys h) ∙ big_from-take 0 n n xs (omega arith)

later_number : (n k : ℕ) (xs ys : List ℕ) → k + n ≤ length xs → big_number n (drop k (xs ++ ys)) ≡ big_number n (drop k xs)
later_number n k xs ys h =
    ap (λ (zs : List ℕ). big_number n zs) (drop-append-le k xs ys (omega (arith, h))) ∙ front_number n (drop k xs) ys (omega (arith, h, length-drop k xs))

-- Octets of 16 or more, and what they are with others behind them.
header_front : (m behind : List ℕ) → 16 ≤ length m → header_at (m ++ behind) ≡ header_at m
header_front m behind long =
    let size = length_front m behind long in
    let time = later_number 4 4 m behind (omega (arith, long)) in
    let sequence = later_number 4 8 m behind (omega (arith, long)) in
    let domain = later_number 4 12 m behind (omega (arith, long)) in
    λ i. record { length = size i; export_time = time i; sequence = sequence i; domain = domain i }

own_octets : (m behind : List ℕ) → 16 ≤ length m → length_at m ≤ length m → take (length_at (m ++ behind)) (m ++ behind) ≡ take (length_at m) m
own_octets m behind long within =
    ap (λ (n : ℕ). take n (m ++ behind)) (length_front m behind long) ∙ take-append-le (length_at m) m behind within

pub frame_own : (m behind : List ℕ) → 16 ≤ length m → version_at (m ++ behind) ≡ 10 → length_at (m ++ behind) ≡ length m → IsFrame m
frame_own m behind long version facts = record {
  version = sym (version_front m behind long) ∙ version;
  whole = sym (length_front m behind long) ∙ facts;
  room = long;
}

pub message_front : (m behind : List ℕ) (h : Header) (ss : List SetSpan) → IsMessage m h ss → IsMessage (m ++ behind) h ss
message_front m behind h ss p =
    let long : 16 ≤ length m = omega (arith, p.room, p.whole) in
    let own = take-append-le h.length m behind p.whole in
    record {
      version = version_front m behind long ∙ p.version;
      header = p.header ∙ sym (header_front m behind long);
      room = p.room;
      whole = omega (arith, p.whole, length-append m behind);
      sets = subst (λ (o : List ℕ). tile 16 ss (drop 16 o) ≡ true) (sym own) p.sets;
    }

pub message_own : (m behind : List ℕ) (h : Header) (ss : List SetSpan) → h.length ≡ length m → IsMessage (m ++ behind) h ss → IsMessage m h ss
message_own m behind h ss size p =
    let long : 16 ≤ length m = omega (arith, p.room, size) in
    let within : h.length ≤ length m = omega (arith, size) in
    let own = take-append-le h.length m behind within in
    record {
      version = sym (version_front m behind long) ∙ p.version;
      header = p.header ∙ header_front m behind long;
      room = p.room;
      whole = within;
      sets = subst (λ (o : List ℕ). tile 16 ss (drop 16 o) ≡ true) own p.sets;
    }

no_set_front : (m behind : List ℕ) (f : WireFault) → wire.HasNoSet m f → wire.HasNoSet (m ++ behind) f
no_set_front m behind f p =
    let long : 16 ≤ length m = omega (arith, p.room, p.whole) in
    let size = length_front m behind long in
    record {
      version = version_front m behind long ∙ p.version;
      room = omega (arith, size, p.room);
      whole = omega (arith, size, p.whole, length-append m behind);
      before = p.before;
      sets = subst (λ (o : List ℕ). wire.EndsInNoSet p.before 16 (drop 16 o) f) (sym (own_octets m behind long p.whole)) p.sets;
    }

no_set_own : (m behind : List ℕ) (f : WireFault) → length_at (m ++ behind) ≡ length m → wire.HasNoSet (m ++ behind) f → wire.HasNoSet m f
no_set_own m behind f facts p =
    let long : 16 ≤ length m = omega (arith, p.room, facts) in
    let size = length_front m behind long in
    let within : length_at m ≤ length m = omega (arith, size, facts) in
    record {
      version = sym (version_front m behind long) ∙ p.version;
      room = omega (arith, size, p.room);
      whole = within;
      before = p.before;
      sets = subst (λ (o : List ℕ). wire.EndsInNoSet p.before 16 (drop 16 o) f) (own_octets m behind long within) p.sets;
    }

-- what is wrong with a frame is wrong with octets that begin with it
fault_front : (m behind : List ℕ) (f : WireFault) → IsFrame m → wire.IsFirstFault m f → wire.IsFirstFault (m ++ behind) f
fault_front m behind f frame h =
    elim h [
      | inl part ↦ elim part.1 [
        | inl few ↦ absurd (omega (arith, few, frame.room))
        | inr cut ↦ absurd (omega (arith, cut.2, frame.whole))
      ]
      | inr more ↦ elim more [
        | inl bad ↦ inr (inl (still_faulty m behind f bad))
        | inr sets ↦ inr (inr (no_set_front m behind f sets))
      ]
    ]

-- a message that is refused, and what is behind it
with_wrong : (at : ℕ) (h : CaptureSoFar) (m behind : List ℕ) (fault : InputFault) → IsFrame m → IsSession h.templates → capture_with at h m ≡ Err fault
    → IsFaultyMessage h at (m ++ behind) fault
with_wrong at h m behind fault frame ok e = go (message_of m) refl e
  where
    some : 0 < length (m ++ behind)
    some = omega (arith, frame.room, length-append m behind)

    read : (x : Header × List SetSpan) → IsMessage m x.0 x.1 → (r : Result ReadMessage DecodeFault) → read_of h.templates (source_of h.session x.0) (take x.0.length m) x.1 ≡ r
        → with_reading at h r ≡ Err fault → IsFaultyMessage h at (m ++ behind) fault
    read x message (Ok given) j e = absurd cc
    read x message (Err f) j e =
        let own = take-append-le x.0.length m behind message.whole in
        let wrong = reading_fault h.templates (source_of h.session x.0) (take x.0.length m) x.1 f ok.octets j in
        WrongMessage x.0 x.1 (message_front m behind x.0 x.1 message) f
        (subst (λ (o : List ℕ). templates.IsFirstFault h.templates (source_of h.session x.0) o x.1 f) (sym own) wrong) (sym (same_fault (Decode at f) fault e))

    go : (r : Result (Header × List SetSpan) WireFault) → message_of m ≡ r → with_split at h m r ≡ Err fault → IsFaultyMessage h at (m ++ behind) fault
    go (Err f) k e = NoMessage some f (fault_front m behind f frame (fault_found m f k)) (sym (same_fault (Wire at f) fault e))
    go (Ok x) k e = read x (message_found m x.0 x.1 k) (read_of h.templates (source_of h.session x.0) (take x.0.length m) x.1) refl e

-- Messages that are read, and behind them the first that isn't.
record IsUpTo (at : ℕ) (h : CaptureSoFar) (octets : List ℕ) (fault : InputFault) : Type 0 where
  messages : List (List ℕ)
  rest : List ℕ
  last : CaptureSoFar
  whole : octets ≡ concat messages ++ rest
  before : AreRead h messages last
  wrong : IsFaultyMessage last (at + length (concat messages)) rest fault

first_wrong : (at : ℕ) (h : CaptureSoFar) (ms : List (List ℕ)) (behind : List ℕ) (fault : InputFault) → AllByRecursion IsFrame ms → IsSession h.templates
    → capture_after at h ms ≡ Err fault → IsUpTo at h (concat ms ++ behind) fault
unfolding capture_after
first_wrong at h [] behind fault each ok e = absurd cc
first_wrong at h (m ∷ ms) behind fault each ok e = go (λ next session k. first_wrong (at + length m) next ms behind fault each.1 session k) (capture_with at h m) refl e
  where
    front : (m ++ concat ms) ++ behind ≡ m ++ (concat ms ++ behind)
    front = append_assoc m (concat ms) behind

    go : ((next : CaptureSoFar) → IsSession next.templates → capture_after (at + length m) next ms ≡ Err fault → IsUpTo (at + length m) next (concat ms ++ behind) fault)
        → (r : Result CaptureSoFar InputFault) → capture_with at h m ≡ r → (r >>= (λ next. capture_after (at + length m) next ms)) ≡ Err fault
        → IsUpTo at h ((m ++ concat ms) ++ behind) fault
    go more (Err f) k e =
        let wrong = with_wrong at h m (concat ms ++ behind) fault each.0 ok (k ∙ e) in
        let here : at ≡ at + 0 = omega arith in
        record {
          messages = [];
          rest = m ++ (concat ms ++ behind);
          last = h;
          whole = front;
          before = refl;
          wrong = subst (λ (n : ℕ). IsFaultyMessage h n (m ++ (concat ms ++ behind)) fault) here wrong;
        }
    go more (Ok next) k e =
        let n = with_found at h next m each.0 ok k in
        let session : IsSession next.templates = subst (λ (x : CaptureSoFar). IsSession x.templates) (sym n.is) (session_stays h.templates (source_of h.session n.header) m n.sets n.given ok n.reading) in
        let r = more next session e in
        let far : at + length m + length (concat r.messages) ≡ at + length (m ++ concat r.messages) = omega (arith, length-append m (concat r.messages)) in
        record {
          messages = m ∷ r.messages;
          rest = r.rest;
          last = r.last;
          whole = front ∙ ap (λ (o : List ℕ). m ++ o) r.whole ∙ sym (append_assoc m (concat r.messages) r.rest);
          before = record {
            header = n.header;
            sets = n.sets;
            given = n.given;
            message = n.message;
            whole = n.whole;
            reading = n.reading;
            others = subst (λ (x : CaptureSoFar). AreRead x r.messages r.last) n.is r.before;
          };
          wrong = subst (λ (n : ℕ). IsFaultyMessage r.last n r.rest fault) far r.wrong;
        }

faulty_some : (octets : List ℕ) (f : WireFault) → IsFaulty octets f → 0 < length octets
faulty_some octets (BadVersion v) bad = omega (arith, bad.0)
faulty_some octets (BadLength n) bad = omega (arith, bad.0)
faulty_some octets Short bad = absurd bad
faulty_some octets (SetLength at) bad = absurd bad
faulty_some octets (SetPastEnd at) bad = absurd bad
faulty_some octets (Trailing at) bad = absurd bad
faulty_some octets Memory bad = absurd bad

-- what stands behind the last message
ended_wrong : (at : ℕ) (rest : List ℕ) (x : Framing) (h : CaptureSoFar) (fault : InputFault) → EndsAs rest x → ended at x h ≡ Err fault → IsFaultyMessage h at rest fault
ended_wrong at rest (Holds []) h fault ends e = absurd cc
ended_wrong at rest (Holds (b ∷ bs)) h fault ends e =
    let some : 0 < length (b ∷ bs) = omega arith in
    NoMessage (subst (λ (o : List ℕ). 0 < length o) ends.0 some) Short (inl (refl, ends.1)) (sym (same_fault (Wire at Short) fault e))
ended_wrong at rest (Failed f) h fault ends e = NoMessage (faulty_some rest f ends) f (inr (inl ends)) (sym (same_fault (Wire at f) fault e))

capture_fault : (session : ℕ) (octets : List ℕ) (fault : InputFault) → capture_of session octets ≡ Err fault → IsFaultyCapture session octets fault
capture_fault session octets fault e = go (capture_after 0 (nothing session) (frames_of octets).0) refl e
  where
    go : (r : Result CaptureSoFar InputFault) → capture_after 0 (nothing session) (frames_of octets).0 ≡ r
        → (r >>= (ended (length (concat (frames_of octets).0)) (frames_of octets).1)) ≡ Err fault → IsFaultyCapture session octets fault
    go (Err f) k e =
        let s = is_stream octets in
        let p = first_wrong 0 (nothing session) (frames_of octets).0 s.rest fault s.each session_opens (k ∙ e) in
        let here : 0 + length (concat p.messages) ≡ length (concat p.messages) = omega arith in
        record {
          messages = p.messages;
          rest = p.rest;
          so_far = p.last;
          whole = s.whole ∙ p.whole;
          before = p.before;
          wrong = subst (λ (n : ℕ). IsFaultyMessage p.last n p.rest fault) here p.wrong;
        }
    go (Ok now) k e =
        let s = is_stream octets in
        record {
          messages = (frames_of octets).0;
          rest = s.rest;
          so_far = now;
          whole = s.whole;
          before = all_found 0 (nothing session) now (frames_of octets).0 s.each session_opens k;
          wrong = ended_wrong (length (concat (frames_of octets).0)) s.rest (frames_of octets).1 now fault s.ends e;
        }

pub input_fault : (input : InputView) (fault : InputFault) → (is_export input.octets ≡ true → AllByRecursion (λ (b : ℕ). b < 256) input.octets) → read_input input ≡ Err fault → IsFirstFault input fault
input_fault input fault all e = go (is_export input.octets) refl e
  where
    read : is_export input.octets ≡ true → (r : Result (List PacketReport) ExportFault) → reading input.octets ≡ r → exported input.session r ≡ Err fault → IsFirstFault input fault
    read k (Ok rs) j e = absurd cc
    read k (Err f) j e = AnExport k f (export_fault input.octets f (bytes input.octets (all k)) j) (sym (same_fault (Export f) fault e))

    go : (b : Bool) → is_export input.octets ≡ b → cond b (exported input.session (reading input.octets)) (capture_of input.session input.octets) ≡ Err fault → IsFirstFault input fault
    go true k e = read k (reading input.octets) refl e
    go false k e = ACapture k (capture_fault input.session input.octets fault e)

-- the session after messages that were read
session_kept : (h : CaptureSoFar) (ms : List (List ℕ)) (after : CaptureSoFar) → AreRead h ms after → IsSession h.templates → IsSession after.templates
session_kept h [] after p ok = subst (λ (x : CaptureSoFar). IsSession x.templates) (sym p) ok
session_kept h (m ∷ ms) after p ok = session_kept (with_message h p.given) ms after p.others (session_stays h.templates (source_of h.session p.header) m p.sets p.given ok p.reading)

cut_short : (at : ℕ) (rest : List ℕ) (h : CaptureSoFar) → 0 < length rest → ended at (Holds rest) h ≡ Err (Wire at Short)
cut_short at [] h some = absurd (omega (arith, some))
cut_short at (b ∷ bs) h some = refl

-- Octets of a capture behind messages that are read.
module _ (session : ℕ) (octets : List ℕ) (ms : List (List ℕ)) (rest : List ℕ) (h : CaptureSoFar) (split : octets ≡ concat ms ++ rest) (before : AreRead (nothing session) ms h) where
  abbrev at : ℕ
  at = length (concat ms)

  all_after : capture_after 0 (nothing session) ms ≡ Ok h
  all_after = all_only 0 (nothing session) ms h before

  frames : AllByRecursion IsFrame ms
  frames = frames_all (nothing session) ms h before

  -- they begin with a message that is refused
  pub refused_there : (m behind : List ℕ) (fault : InputFault) → rest ≡ m ++ behind → IsFrame m → capture_with at h m ≡ Err fault → capture_of session octets ≡ Err fault
  refused_there m behind fault parts frame e =
      let all = ms ++ m ∷ [] in
      let stream : IsStream (concat all) all (Holds []) = record {
        rest = [];
        whole = sym (append-nil (concat all));
        each = each_both ms (m ∷ []) frames (frame, tt);
        ends = (refl, inl (omega arith));
      } in
      let here : 0 + at ≡ at = omega arith in
      let stops : capture_after 0 (nothing session) all ≡ Err fault =
      all_on 0 (nothing session) ms (m ∷ []) h all_after ∙ ap (λ (n : ℕ). capture_after n h (m ∷ [])) here ∙ all_refused at h m [] fault e in
      ap (λ (o : List ℕ). capture_of session o) (frame_more octets ms m rest behind split parts) ∙ capture_stops session (concat all) behind all (Holds []) fault stream stops

  pub no_message : (f : WireFault) → 0 < length rest → wire.IsFirstFault rest f → capture_of session octets ≡ Err (Wire at f)
  no_message f some w =
      elim w [
        | inl part ↦
            let stream : IsStream octets ms (Holds rest) = record { rest = rest; whole = split; each = frames; ends = (refl, part.1) } in
            capture_ends session octets ms (Holds rest) h stream all_after ∙ cut_short at rest h some ∙ ap (λ (x : WireFault). Err (Wire at x)) (sym part.0)
        | inr more ↦ elim more [
          | inl bad ↦
              let stream : IsStream octets ms (Failed f) = record { rest = rest; whole = split; each = frames; ends = bad } in
              capture_ends session octets ms (Failed f) h stream all_after
          | inr sets ↦
              let m = take (length_at rest) rest in
              let behind = drop (length_at rest) rest in
              let parts : rest ≡ m ++ behind = sym (take-append-drop (length_at rest) rest) in
              let size : length m ≡ length_at rest = length-take-le (length_at rest) rest sets.whole in
              let long : 16 ≤ length m = omega (arith, size, sets.room) in
              let own : wire.HasNoSet (m ++ behind) f = subst (λ (o : List ℕ). wire.HasNoSet o f) parts sets in
              let facts : length_at (m ++ behind) ≡ length m = ap (λ (o : List ℕ). length_at o) (sym parts) ∙ sym size in
              refused_there m behind (Wire at f) parts (frame_own m behind long own.version facts)
              (ap (λ (r : Result (Header × List SetSpan) WireFault). with_split at h m r) (fault_only m f (inr (inr (no_set_own m behind f facts own)))))
        ]
      ]

  wrong_message : (header : Header) (sets : List SetSpan) (f : DecodeFault) → IsMessage rest header sets
      → templates.IsFirstFault h.templates (source_of h.session header) (take header.length rest) sets f → capture_of session octets ≡ Err (Decode at f)
  wrong_message header sets f p w =
      let m = take header.length rest in
      let behind = drop header.length rest in
      let parts : rest ≡ m ++ behind = sym (take-append-drop header.length rest) in
      let size : length m ≡ header.length = length-take-le header.length rest p.whole in
      let long : 16 ≤ length m = omega (arith, size, p.room) in
      let there : IsMessage (m ++ behind) header sets = subst (λ (o : List ℕ). IsMessage o header sets) parts p in
      let facts : length_at (m ++ behind) ≡ length m = sym (ap (λ (x : Header). x.length) there.header) ∙ sym size in
      let own : IsMessage m header sets = message_own m behind header sets (sym size) there in
      let kept = session_kept (nothing session) ms h before session_opens in
      let whole : take header.length m ≡ m = take_all header.length m (omega (arith, size)) in
      refused_there m behind (Decode at f) parts (frame_own m behind long there.version facts)
      (with_is at h m m h.session h.templates header sets (Err f) (message_only m header sets own) refl refl (sym whole) (reading_no_other h.templates (source_of h.session header) m sets f kept.octets w))

capture_no_other : (session : ℕ) (octets : List ℕ) (fault : InputFault) → IsFaultyCapture session octets fault → capture_of session octets ≡ Err fault
capture_no_other session octets fault p = go p.wrong
  where
    go : IsFaultyMessage p.so_far (length (concat p.messages)) p.rest fault → capture_of session octets ≡ Err fault
    go (NoMessage some f w is) = no_message session octets p.messages p.rest p.so_far p.whole p.before f some w ∙ ap (λ (x : InputFault). Err x) (sym is)
    go (WrongMessage header sets message f w is) =
        wrong_message session octets p.messages p.rest p.so_far p.whole p.before header sets f message w ∙ ap (λ (x : InputFault). Err x) (sym is)

pub input_no_other : (input : InputView) (fault : InputFault) → IsFirstFault input fault → read_input input ≡ Err fault
input_no_other input fault (AnExport k f wrong is) =
    ap (λ z. cond z (exported input.session (reading input.octets)) (capture_of input.session input.octets)) k ∙ ap (λ (r : Result (List PacketReport) ExportFault). exported input.session r) (export_no_other input.octets f wrong)
    ∙ ap (λ (x : InputFault). Err x) (sym is)
input_no_other input fault (ACapture k p) = ap (λ z. cond z (exported input.session (reading input.octets)) (capture_of input.session input.octets)) k ∙ capture_no_other input.session input.octets fault p

-- a fault of what was gathered is the fault of the reading
gathered_holds : (r : Result CaptureSoFar InputFault) (fault : InputFault) → gathered_of r ≡ Err fault → r ≡ Err fault
gathered_holds (Ok h) fault e = absurd cc
gathered_holds (Err f) fault e = let same : f ≡ fault = cc in ap (λ (x : InputFault). Err x) same

pub capture_first : (input : InputView) (r : Result Gathered InputFault) → is_export input.octets ≡ false → Gives faults.Memory gathered_view r (gathered_of (capture_of input.session input.octets))
    → IfErr r (λ f. f ≢ faults.Memory → IsFirstFault input f)
capture_first input r other g =
    gives_err faults.Memory gathered_view (λ (f : InputFault). IsFirstFault input f) r (gathered_of (capture_of input.session input.octets))
    (λ f e. ACapture other (capture_fault input.session input.octets f (gathered_holds (capture_of input.session input.octets) f e))) g

pub export_first : (input : InputView) (f : ExportFault) → is_export input.octets ≡ true → IsFaultyExport input.octets f → IsFirstFault input (Export f)
export_first input f is wrong = AnExport is f wrong refl
