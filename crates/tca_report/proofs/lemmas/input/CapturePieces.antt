-- Reading a capture piece by piece.
use Rattle.std.proofs.Common.{◌≡◌, ◌≢◌, ℕ, ◌+◌, ◌≤◌, List, [], ◌∷◌, ◌++◌, length, Some, None, Result, Ok, Err, refl, sym, ap, ap₂, subst, ◌∙◌, arith}
use Rattle.std.specs.List.{AllByRecursion, concat}
use Rattle.std.proofs.lemmas.List.{length-append}
use Rattle.std.proofs.lemmas.List.Folds.{concat-append}
use Rattle.tca_wire.specs.Frames.{IsFrame, IsFaulty, Framing, Holds, Failed, Feeds, IsStream, fault_of, ending}
use Rattle.tca_wire.specs.declared.fault.WireFault.{WireFault}
use Rattle.tca_wire.specs.declared.fault.WireFault.TheVariants.{Short, Memory}
use Rattle.tca_wire.proofs.Framings.{joined}
use Rattle.tca_report.specs.report.Reports.{PacketReport}
use Rattle.tca_report.specs.input.Inputs.{CaptureSoFar, nothing, capture_after, ended, capture_of}
use Rattle.tca_report.specs.input.Gathered.{gathered_of}
use Rattle.tca_report.specs.inside.CaptureReaders.{noted, Agrees, HasRead}
use Rattle.tca_report.specs.declared.input.InputFault.{InputFault}
use Rattle.tca_report.specs.declared.input.InputFault.TheVariants.{Wire}
use Rattle.tca_report.specs.declared.input.Notes.{Notes}
use Rattle.tca_report.specs.declared.input.capture.CaptureReader.{CaptureReader}
use Rattle.tca_report.proofs.lemmas.input.CaptureParts.{all_on, capture_ends, capture_stops, capture_fails}

same_fault : (a b : WireFault) → Some a ≡ Some b → a ≡ b
same_fault a b e = cc

back_frames : (a b : List (List ℕ)) → AllByRecursion IsFrame (a ++ b) → AllByRecursion IsFrame b
back_frames [] b all = all
back_frames (m ∷ a) b all = back_frames a b all.1

module _ (session : ℕ) (octets piece : List ℕ) (framer after : Framing) (p : CaptureReader) (ms : List (List ℕ)) (r : HasRead session octets framer p) (feeds : Feeds framer piece ms after) where
  pub fed : IsStream (octets ++ piece) (r.messages ++ ms) after
  fed = joined octets piece r.held r.messages ms after r.stream (subst (λ f. Feeds f piece ms after) r.holds feeds)

  far : length (concat (r.messages ++ ms)) ≡ p.at + length (concat ms)
  far = omega (arith, r.at, ap length (concat-append r.messages ms), length-append (concat r.messages) (concat ms))

  pub each_brought : AllByRecursion IsFrame ms
  each_brought = back_frames r.messages ms fed.each

  -- a header with a fault doesn't want memory
  pub no_memory_behind : (fault : WireFault) → fault_of after ≡ Some fault → fault ≢ Memory
  no_memory_behind fault bad is = go after bad fed
    where
      go : (x : Framing) → fault_of x ≡ Some fault → IsStream (octets ++ piece) (r.messages ++ ms) x → ⊥
      go (Holds held) some stream = absurd cc
      go (Failed other) some stream = subst (λ (f : WireFault). IsFaulty stream.rest f) (same_fault other fault some ∙ is) stream.ends

  pub within_piece : p.at + length (concat ms) ≤ length octets + length piece
  within_piece = omega (arith, far, ap length fed.whole, length-append octets piece, length-append (concat (r.messages ++ ms)) fed.rest)

  after_on : (given : Result CaptureSoFar InputFault) → capture_after p.at r.so_far ms ≡ given → capture_after 0 (nothing session) (r.messages ++ ms) ≡ given
  after_on given e =
      let here : 0 + length (concat r.messages) ≡ p.at = omega (arith, r.at) in
      all_on 0 (nothing session) r.messages ms r.so_far r.read ∙ ap (λ n. capture_after n r.so_far ms) here ∙ e

  pub read_on : (q : CaptureReader) (now : CaptureSoFar) → fault_of after ≡ None → capture_after p.at r.so_far ms ≡ Ok now → Agrees q now → q.at ≡ p.at + length (concat ms) → HasRead session (octets ++ piece) after q
  read_on q now well e agrees at = go after well fed
    where
      go : (x : Framing) → fault_of x ≡ None → IsStream (octets ++ piece) (r.messages ++ ms) x → HasRead session (octets ++ piece) x q
      go (Holds held) none stream = record {
        messages = r.messages ++ ms;
        held = held;
        so_far = now;
        stream = stream;
        holds = refl;
        read = after_on (Ok now) e;
        agrees = agrees;
        at = at ∙ sym far;
      }
      go (Failed fault) none stream = absurd cc

  pub stops_here : (behind : List ℕ) (fault : InputFault) → capture_after p.at r.so_far ms ≡ Err fault → capture_of session ((octets ++ piece) ++ behind) ≡ Err fault
  stops_here behind fault e = capture_stops session (octets ++ piece) behind (r.messages ++ ms) after fault fed (after_on (Err fault) e)

  pub fails_here : (behind : List ℕ) (fault : WireFault) (now : CaptureSoFar) → fault_of after ≡ Some fault → capture_after p.at r.so_far ms ≡ Ok now
      → capture_of session ((octets ++ piece) ++ behind) ≡ Err (Wire (p.at + length (concat ms)) fault)
  fails_here behind fault now bad e = go after bad fed
    where
      go : (x : Framing) → fault_of x ≡ Some fault → IsStream (octets ++ piece) (r.messages ++ ms) x → capture_of session ((octets ++ piece) ++ behind) ≡ Err (Wire (p.at + length (concat ms)) fault)
      go (Holds held) some stream = absurd cc
      go (Failed other) some stream =
          capture_fails session (octets ++ piece) behind (r.messages ++ ms) other now stream (after_on (Ok now) e)
          ∙ ap₂ (λ (n : ℕ) (f : WireFault). Err (Wire n f)) far (same_fault other fault some)

ends_well : (at : ℕ) (held : List ℕ) (so_far : CaptureSoFar) → ending (Holds held) ≡ Ok tt → ended at (Holds held) so_far ≡ Ok so_far
ends_well at [] so_far e = refl
ends_well at (b ∷ bs) so_far e = absurd cc

ends_badly : (at : ℕ) (held : List ℕ) (so_far : CaptureSoFar) (fault : WireFault) → ending (Holds held) ≡ Err fault → ended at (Holds held) so_far ≡ Err (Wire at fault)
ends_badly at [] so_far fault e = absurd cc
ends_badly at (b ∷ bs) so_far fault e = let same : Short ≡ fault = cc in ap (λ (f : WireFault). Err (Wire at f)) same

cut_alone : (held : List ℕ) (fault : WireFault) → ending (Holds held) ≡ Err fault → fault ≡ Short
cut_alone [] fault e = absurd cc
cut_alone (b ∷ bs) fault e = cc

-- a capture's end takes no memory
pub no_memory_at_end : (session : ℕ) (octets : List ℕ) (framer : Framing) (p : CaptureReader) (fault : WireFault) → HasRead session octets framer p → ending framer ≡ Err fault → fault ≢ Memory
no_memory_at_end session octets framer p fault r e =
    let cut = cut_alone r.held fault (ap ending (sym r.holds) ∙ e) in
    λ m. cc

-- a capture that ends behind a message
pub all_gathered : (session : ℕ) (octets : List ℕ) (framer : Framing) (p : CaptureReader) → HasRead session octets framer p → ending framer ≡ Ok tt → gathered_of (capture_of session octets) ≡ Ok (p.taken.reports.items, noted p)
all_gathered session octets framer p r e =
    let well = ends_well (length (concat r.messages)) r.held r.so_far (ap ending (sym r.holds) ∙ e) in
    ap gathered_of (capture_ends session octets r.messages (Holds r.held) r.so_far r.stream r.read ∙ well)
    ∙ ap₂ (λ (reports : List PacketReport) (notes : Notes). Ok (reports, notes)) (sym r.agrees.reports) (sym r.agrees.notes)

-- a capture that ends within one
pub cut_at : (session : ℕ) (octets : List ℕ) (framer : Framing) (p : CaptureReader) (fault : WireFault) → HasRead session octets framer p → ending framer ≡ Err fault → capture_of session octets ≡ Err (Wire p.at fault)
cut_at session octets framer p fault r e =
    capture_ends session octets r.messages (Holds r.held) r.so_far r.stream r.read
    ∙ ends_badly (length (concat r.messages)) r.held r.so_far fault (ap ending (sym r.holds) ∙ e)
    ∙ ap (λ (n : ℕ). Err (Wire n fault)) (sym r.at)
