-- Where memory is wanted for a capture all that stands before is right.
use Rattle.std.proofs.Common.{◌≡◌, ℕ, ◌+◌, ◌<◌, List, [], ◌∷◌, ◌++◌, length, take, drop, true, Result, Ok, Err, refl, sym, ap, subst, ◌∙◌, arith, append_assoc, inl, inr}
use Rattle.std.specs.Prelude.{◌==◌, IsOk}
use Rattle.std.specs.List.{concat, AllByRecursion}
use Rattle.std.proofs.lemmas.Bool.Decides.{nat_tests}
use Rattle.std.proofs.lemmas.List.{take-append-le, nil_from_length}
use Rattle.std.proofs.lemmas.List.Folds.{concat-append}
use Rattle.tca_wire.specs.Messages.{length_at, judged, tile, HasSet, IsMessage, message_of}
use Rattle.tca_wire.specs.Frames.{IsFrame, Framing, Feeds}
use Rattle.tca_wire.specs.FirstFaults as wire
use Rattle.tca_wire.specs.declared.message.Header.{Header}
use Rattle.tca_wire.specs.declared.message.SetSpan.{SetSpan}
use Rattle.tca_wire.specs.declared.fault.WireFault.{WireFault}
use Rattle.tca_wire.specs.declared.fault.WireFault.TheVariants.{Memory}
use Rattle.tca_wire.proofs.Tiles.{message_found}
use Rattle.tca_wire.proofs.FirstFaults.{fault_found}
use Rattle.tca_templates.specs.Records.{source_of}
use Rattle.tca_templates.specs.Wants as templates
use Rattle.tca_templates.proofs.SessionMaps.{session_opens}
use Rattle.tca_report.specs.input.Inputs.{CaptureSoFar, nothing, capture_with, capture_after}
use Rattle.tca_report.specs.input.Wants.{IsWantedFor, TheSets, ARecord, IsWantedInCapture}
use Rattle.tca_report.specs.inside.CaptureReaders.{HasRead, IsWantedAmong}
use Rattle.tca_report.specs.declared.input.capture.CaptureReader.{CaptureReader}
use Rattle.tca_report.proofs.lemmas.input.CaptureParts.{all_none, all_on, all_next}
use Rattle.tca_report.proofs.lemmas.input.CapturePieces.{fed}
use Rattle.tca_report.proofs.lemmas.input.CaptureLaws.{all_found}
use Rattle.tca_report.proofs.lemmas.input.CaptureFaults.{message_front}

no_set_memory : (before : List SetSpan) (at : ℕ) (octets : List ℕ) → wire.EndsInNoSet before at octets Memory → ⊥
no_set_memory [] at octets h = h
no_set_memory (s ∷ before) at octets h = no_set_memory before (at + s.length) (drop s.length octets) h.1

-- want of memory is no fault of octets
pub no_memory : (octets : List ℕ) → wire.IsFirstFault octets Memory → ⊥
no_memory octets h =
    elim h [
      | inl part ↦ let same = part.0 in absurd cc
      | inr more ↦ elim more [
        | inl bad ↦ absurd bad
        | inr sets ↦ no_set_memory sets.before 16 (drop 16 (take (length_at octets) octets)) sets.sets
      ]
    ]

-- octets with no fault but want of memory begin with a message
begins : (octets : List ℕ) → ((f : WireFault) → wire.IsFirstFault octets f → f ≡ Memory) → (header : Header) × (sets : List SetSpan) × IsMessage octets header sets
begins octets none = go (message_of octets) refl
  where
    go : (r : Result (Header × List SetSpan) WireFault) → message_of octets ≡ r → (header : Header) × (sets : List SetSpan) × IsMessage octets header sets
    go (Ok x) k = (x.0, x.1, message_found octets x.0 x.1 k)
    go (Err f) k =
        let wrong = fault_found octets f k in
        absurd (no_memory octets (subst (λ (g : WireFault). wire.IsFirstFault octets g) (none f wrong) wrong))

no_octets : (body : List ℕ) → (length body == 0) ≡ true → length body ≡ 0
no_octets body e = grind (arith, nat_tests, e)

-- a message with a set behind its header has one in its list
some_set : (octets : List ℕ) (header : Header) (sets : List SetSpan) → IsMessage octets header sets → HasSet octets → 0 < length sets
unfolding tile
some_set octets header (s ∷ sets) p q = omega arith
some_set octets header [] p q =
    let size : header.length ≡ length_at octets = ap (λ (x : Header). x.length) p.header in
    let body = drop 16 (take header.length octets) in
    let none : body ≡ [] = nil_from_length body (no_octets body p.sets) in
    let there : IsOk (judged 16 body) = subst (λ (n : ℕ). IsOk (judged 16 (drop 16 (take n octets)))) (sym size) q.set in
    let here : IsOk (judged 16 []) = subst (λ (o : List ℕ). IsOk (judged 16 o)) none there in
    absurd cc

-- memory that is wanted where octets are split, with no fault in them
pub wanted_for_sets : (so_far : CaptureSoFar) (octets : List ℕ) → ((f : WireFault) → wire.IsFirstFault octets f → f ≡ Memory) → HasSet octets → IsWantedFor so_far octets
wanted_for_sets so_far octets none has =
    let p = begins octets none in
    TheSets p.0 p.1 p.2 (some_set octets p.0 p.1 p.2 has)

-- octets behind a message change nothing
pub wanted_front : (so_far : CaptureSoFar) (m behind : List ℕ) → IsWantedFor so_far m → IsWantedFor so_far (m ++ behind)
wanted_front so_far m behind (TheSets header sets p some) = TheSets header sets (message_front m behind header sets p) some
wanted_front so_far m behind (ARecord header sets p w) =
    let own = take-append-le header.length m behind p.whole in
    ARecord header sets (message_front m behind header sets p) (subst (λ (o : List ℕ). templates.WantsMemory so_far.templates (source_of so_far.session header) o sets) (sym own) w)

pub wanted_first : (at : ℕ) (so_far : CaptureSoFar) (m : List ℕ) (ms : List (List ℕ)) → IsWantedFor so_far m → IsWantedAmong at so_far (m ∷ ms)
wanted_first at so_far m ms w = record {
  before = [];
  message = m;
  others = ms;
  now = so_far;
  whole = refl;
  read = all_none at so_far;
  wanted = w;
}

pub wanted_later : (at : ℕ) (so_far next : CaptureSoFar) (m : List ℕ) (ms : List (List ℕ)) → capture_with at so_far m ≡ Ok next
    → IsWantedAmong (at + length m) next ms → IsWantedAmong at so_far (m ∷ ms)
wanted_later at so_far next m ms e w = record {
  before = m ∷ w.before;
  message = w.message;
  others = w.others;
  now = w.now;
  whole = ap (λ (l : List (List ℕ)). m ∷ l) w.whole;
  read = all_next at so_far next m w.before e ∙ w.read;
  wanted = w.wanted;
}

front_frames : (a b : List (List ℕ)) → AllByRecursion IsFrame (a ++ b) → AllByRecursion IsFrame a
front_frames [] b all = tt
front_frames (m ∷ a) b all = (all.0, front_frames a b all.1)

-- one of some messages, with what stands behind it
around : (octets behind rest m : List ℕ) (a others : List (List ℕ)) → octets ≡ concat (a ++ m ∷ others) ++ rest
    → octets ++ behind ≡ concat a ++ (m ++ ((concat others ++ rest) ++ behind))
around octets behind rest m a others whole =
    let parts : octets ≡ concat a ++ (m ++ (concat others ++ rest)) =
    whole ∙ ap (λ z. z ++ rest) (concat-append a (m ∷ others)) ∙ append_assoc (concat a) (m ++ concat others) rest
    ∙ ap (λ z. concat a ++ z) (append_assoc m (concat others) rest) in
    ap (λ z. z ++ behind) parts ∙ append_assoc (concat a) (m ++ (concat others ++ rest)) behind
    ∙ ap (λ z. concat a ++ z) (append_assoc m (concat others ++ rest) behind)

-- memory that is wanted for a message of a piece
pub wanted_in_piece : (session : ℕ) (octets piece : List ℕ) (framer after : Framing) (p : CaptureReader) (ms : List (List ℕ)) (r : HasRead session octets framer p) → Feeds framer piece ms after
    → (behind : List ℕ) → IsWantedAmong p.at r.so_far ms → IsWantedInCapture session ((octets ++ piece) ++ behind)
wanted_in_piece session octets piece framer after p ms r feeds behind w =
    let stream = fed session octets piece framer after p ms r feeds in
    let parts : r.messages ++ ms ≡ (r.messages ++ w.before) ++ (w.message ∷ w.others) =
    ap (λ (l : List (List ℕ)). r.messages ++ l) w.whole ∙ sym (append_assoc r.messages w.before (w.message ∷ w.others)) in
    let here : 0 + length (concat r.messages) ≡ p.at = omega (arith, r.at) in
    record {
      messages = r.messages ++ w.before;
      rest = w.message ++ ((concat w.others ++ stream.rest) ++ behind);
      so_far = w.now;
      whole = around (octets ++ piece) behind stream.rest w.message (r.messages ++ w.before) w.others (stream.whole ∙ ap (λ (l : List (List ℕ)). concat l ++ stream.rest) parts);
      before = all_found 0 (nothing session) w.now (r.messages ++ w.before)
          (front_frames (r.messages ++ w.before) (w.message ∷ w.others) (subst (λ (l : List (List ℕ)). AllByRecursion IsFrame l) parts stream.each)) session_opens
          (all_on 0 (nothing session) r.messages w.before r.so_far r.read ∙ ap (λ (n : ℕ). capture_after n r.so_far w.before) here ∙ w.read);
      wanted = wanted_front w.now w.message ((concat w.others ++ stream.rest) ++ behind) w.wanted;
    }
