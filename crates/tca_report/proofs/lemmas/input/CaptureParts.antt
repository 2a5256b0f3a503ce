-- The messages of a stream, read one after the other.
use Rattle.std.proofs.Common.{◌≡◌, ℕ, ◌+◌, List, [], ◌∷◌, ◌++◌, length, Result, Ok, Err, refl, sym, ap, ap₂, subst, ◌∙◌, arith, append_assoc}
use Rattle.std.specs.List.{concat}
use Rattle.std.proofs.lemmas.List.{length-append, append-nil}
use Rattle.tca_join.specs.Results.{◌>>=◌}
use Rattle.tca_wire.specs.Frames.{IsFaulty, Framing, Holds, Failed, IsStream, frames_of}
use Rattle.tca_wire.specs.declared.fault.WireFault.{WireFault}
use Rattle.tca_wire.specs.declared.fault.WireFault.TheVariants.{Short, BadVersion, BadLength, SetLength, SetPastEnd, Trailing, Memory}
use Rattle.tca_wire.proofs.Framings.{joined, version_front, length_front}
use Rattle.tca_wire.proofs.FramesOf.{is_stream, frames_are}
use Rattle.tca_report.specs.input.Inputs.{CaptureSoFar, nothing, capture_with, capture_after, ended, capture_of}
use Rattle.tca_report.specs.declared.input.InputFault.{InputFault}
use Rattle.tca_report.specs.declared.input.InputFault.TheVariants.{Wire}

-- the messages in front, and then the others
pub all_both : (at : ℕ) (so_far : CaptureSoFar) (a b : List (List ℕ)) → capture_after at so_far (a ++ b) ≡ ((capture_after at so_far a) >>= (λ next. capture_after (at + length (concat a)) next b))
unfolding capture_after
all_both at so_far [] b = let e : at + 0 ≡ at = omega arith in ap (λ n. capture_after n so_far b) (sym e)
all_both at so_far (m ∷ ms) b = go (λ next. all_both (at + length m) next ms b) (capture_with at so_far m)
  where
    far : at + length m + length (concat ms) ≡ at + length (m ++ concat ms)
    far = omega (arith, length-append m (concat ms))

    go : ((next : CaptureSoFar) → capture_after (at + length m) next (ms ++ b) ≡ ((capture_after (at + length m) next ms) >>= (λ last. capture_after (at + length m + length (concat ms)) last b)))
        → (r : Result CaptureSoFar InputFault) → (r >>= (λ next. capture_after (at + length m) next (ms ++ b)))
        ≡ (((r >>= (λ next. capture_after (at + length m) next ms))) >>= (λ last. capture_after (at + length (m ++ concat ms)) last b))
    go more (Ok next) = more next ∙ ap (λ n. ((capture_after (at + length m) next ms) >>= (λ last. capture_after n last b))) far
    go more (Err fault) = refl

pub all_on : (at : ℕ) (so_far : CaptureSoFar) (a b : List (List ℕ)) (now : CaptureSoFar) → capture_after at so_far a ≡ Ok now → capture_after at so_far (a ++ b) ≡ capture_after (at + length (concat a)) now b
all_on at so_far a b now e = all_both at so_far a b ∙ ap (λ (r : Result CaptureSoFar InputFault). (r >>= (λ next. capture_after (at + length (concat a)) next b))) e

pub all_stop : (at : ℕ) (so_far : CaptureSoFar) (a b : List (List ℕ)) (fault : InputFault) → capture_after at so_far a ≡ Err fault → capture_after at so_far (a ++ b) ≡ Err fault
all_stop at so_far a b fault e = all_both at so_far a b ∙ ap (λ (r : Result CaptureSoFar InputFault). (r >>= (λ next. capture_after (at + length (concat a)) next b))) e

-- a faulty header stays faulty, whatever octets follow it
pub still_faulty : (octets more : List ℕ) (fault : WireFault) → IsFaulty octets fault → IsFaulty (octets ++ more) fault
still_faulty octets more (BadVersion v) bad =
    (omega (arith, bad.0, length-append octets more), version_front octets more bad.0 ∙ bad.1, bad.2)
still_faulty octets more (BadLength n) bad =
    (omega (arith, bad.0, length-append octets more), version_front octets more bad.0 ∙ bad.1, length_front octets more bad.0 ∙ bad.2, bad.3)
still_faulty octets more Short bad = bad
still_faulty octets more (SetLength at) bad = bad
still_faulty octets more (SetPastEnd at) bad = bad
still_faulty octets more (Trailing at) bad = bad
still_faulty octets more Memory bad = bad

pub fails_on : (octets behind : List ℕ) (ms : List (List ℕ)) (fault : WireFault) → IsStream octets ms (Failed fault) → IsStream (octets ++ behind) ms (Failed fault)
fails_on octets behind ms fault s = record {
  rest = s.rest ++ behind;
  whole = ap (λ z. z ++ behind) s.whole ∙ append_assoc (concat ms) s.rest behind;
  each = s.each;
  ends = still_faulty s.rest behind fault s.ends;
}

-- the messages of a stream are in front of those of a longer one
pub in_longer : (octets behind : List ℕ) (ms : List (List ℕ)) (after : Framing) → IsStream octets ms after → (more : List (List ℕ)) × (last : Framing) × IsStream (octets ++ behind) (ms ++ more) last
in_longer octets behind ms (Holds held) s =
    ((frames_of (held ++ behind)).0, (frames_of (held ++ behind)).1, joined octets behind held ms (frames_of (held ++ behind)).0 (frames_of (held ++ behind)).1 s (is_stream (held ++ behind)))
in_longer octets behind ms (Failed fault) s = ([], Failed fault, subst (λ z. IsStream (octets ++ behind) z (Failed fault)) (sym (append-nil ms)) (fails_on octets behind ms fault s))

capture_is : (session : ℕ) (octets : List ℕ) (ms : List (List ℕ)) (after : Framing) → IsStream octets ms after
    → capture_of session octets ≡ ((capture_after 0 (nothing session) ms) >>= (ended (length (concat ms)) after))
capture_is session octets ms after s =
    let same = frames_are octets ms after s in
    ap₂ (λ (z : List (List ℕ)) (x : Framing). ((capture_after 0 (nothing session) z) >>= (ended (length (concat z)) x))) same.0 same.1

-- the end of a capture whose messages are read
pub capture_ends : (session : ℕ) (octets : List ℕ) (ms : List (List ℕ)) (after : Framing) (now : CaptureSoFar) → IsStream octets ms after → capture_after 0 (nothing session) ms ≡ Ok now
    → capture_of session octets ≡ ended (length (concat ms)) after now
capture_ends session octets ms after now s e = capture_is session octets ms after s ∙ ap (λ (r : Result CaptureSoFar InputFault). (r >>= (ended (length (concat ms)) after))) e

-- a message in front that is refused
pub capture_stops : (session : ℕ) (octets behind : List ℕ) (ms : List (List ℕ)) (after : Framing) (fault : InputFault) → IsStream octets ms after → capture_after 0 (nothing session) ms ≡ Err fault
    → capture_of session (octets ++ behind) ≡ Err fault
capture_stops session octets behind ms after fault s e =
    let l = in_longer octets behind ms after s in
    capture_is session (octets ++ behind) (ms ++ l.0) l.1 l.2 ∙ ap (λ (r : Result CaptureSoFar InputFault). (r >>= (ended (length (concat (ms ++ l.0))) l.1))) (all_stop 0 (nothing session) ms l.0 fault e)

-- a header with a fault, behind messages that are read
pub capture_fails : (session : ℕ) (octets behind : List ℕ) (ms : List (List ℕ)) (fault : WireFault) (now : CaptureSoFar) → IsStream octets ms (Failed fault) → capture_after 0 (nothing session) ms ≡ Ok now
    → capture_of session (octets ++ behind) ≡ Err (Wire (length (concat ms)) fault)
capture_fails session octets behind ms fault now s e = capture_ends session (octets ++ behind) ms (Failed fault) now (fails_on octets behind ms fault s) e

pub all_none : (at : ℕ) (so_far : CaptureSoFar) → capture_after at so_far [] ≡ Ok so_far
unfolding capture_after
all_none at so_far = refl

pub all_next : (at : ℕ) (so_far next : CaptureSoFar) (m : List ℕ) (ms : List (List ℕ)) → capture_with at so_far m ≡ Ok next → capture_after at so_far (m ∷ ms) ≡ capture_after (at + length m) next ms
unfolding capture_after
all_next at so_far next m ms e = ap (λ (r : Result CaptureSoFar InputFault). (r >>= (λ now. capture_after (at + length m) now ms))) e

pub all_refused : (at : ℕ) (so_far : CaptureSoFar) (m : List ℕ) (ms : List (List ℕ)) (fault : InputFault) → capture_with at so_far m ≡ Err fault → capture_after at so_far (m ∷ ms) ≡ Err fault
unfolding capture_after
all_refused at so_far m ms fault e = ap (λ (r : Result CaptureSoFar InputFault). (r >>= (λ now. capture_after (at + length m) now ms))) e
