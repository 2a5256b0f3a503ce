-- Messages at the front of octets, one after the other.
use Rattle.std.proofs.Common.{◌≡◌, ℕ, List, [], ◌∷◌, ◌++◌, Option, refl, sym, subst, ◌∙◌, append-nil}
use Rattle.tca_wire.specs.Frames.{Framing, Holds, Failed, IsFrame, IsFaulty, frames_of}
use Rattle.tca_wire.specs.declared.fault.WireFault.{WireFault}
use Rattle.tca_wire.proofs.Framings.{frame_more, frames_more, each_both}
use Rattle.tca_wire.proofs.FramesOf.{is_stream}
use Rattle.tca_split.specs.Folders.{Files}
use Rattle.tca_split.specs.inside.Buffering.{Kept, Takes, Begins, SameDomains, AreRefused, IsPieceRefused, HasTaken, StopsInPiece}
use Rattle.tca_split.specs.declared.fault.SplitFault.{SplitFault}
use Rattle.tca_split.specs.declared.fault.SplitFault.TheVariants.{Read, Wire, Limits, Exists, Changed, Write, Memory}
use Rattle.tca_split.proofs.BufferSteps.{takes_more, begins_more, begins_longer, begins_taken}
use Rattle.tca_split.proofs.Strangers.{refused_among}

-- why messages aren't taken, whatever stands behind them
piece_refused : (messages : List (List ℕ)) (after : Framing) (k : Kept) (e : SplitFault) → AreRefused messages k e → IsPieceRefused messages after k e
piece_refused messages after k (Read fault) h = h
piece_refused messages after k (Wire fault) h = absurd h
piece_refused messages after k Limits h = h
piece_refused messages after k Exists h = h
piece_refused messages after k Changed h = h
piece_refused messages after k Write h = h
piece_refused messages after k Memory h = h

module _ (octets rest : List ℕ) (k l : Kept) (x y : Option Files) (h : HasTaken octets rest k x l y) where
  -- one message more
  pub taken_more : (m behind : List ℕ) (n : Kept) (z : Option Files) → rest ≡ m ++ behind → IsFrame m → Takes (m ∷ []) l y n z → HasTaken octets behind k x n z
  taken_more m behind n z parts frame t = record {
    messages = h.messages ++ m ∷ [];
    whole = frame_more octets h.messages m rest behind h.whole parts;
    each = each_both h.messages (m ∷ []) h.each (frame, tt);
    taken = takes_more h.messages (m ∷ []) k l n x y z h.taken t;
  }

  -- a header with a fault is left
  pub at_fault : (fault : WireFault) → IsFaulty rest fault → StopsInPiece (Holds []) octets k x y (Wire fault)
  at_fault fault bad = record {
    messages = h.messages;
    after = Failed fault;
    fed = record { rest = rest; whole = h.whole; each = h.each; ends = bad };
    begun = subst (λ (ms : List (List ℕ)). Begins ms k x y) (append-nil h.messages) (begins_taken h.messages [] k l x y h.taken);
    refused = refl;
  }

  -- a message isn't taken
  pub at_message : (m behind : List ℕ) (z : Option Files) (e : SplitFault) → rest ≡ m ++ behind → IsFrame m → SameDomains k l → Begins (m ∷ []) l y z → AreRefused (m ∷ []) l e
      → StopsInPiece (Holds []) octets k x z e
  at_message m behind z e parts frame same begun refused =
      let s = is_stream behind in
      let front = frame_more octets h.messages m rest behind h.whole parts in
      let all = (h.messages ++ m ∷ []) ++ (frames_of behind).0 in
      record {
        messages = all;
        after = (frames_of behind).1;
        fed = record {
          rest = s.rest;
          whole = frames_more octets (h.messages ++ m ∷ []) (frames_of behind).0 behind s.rest front s.whole;
          each = each_both (h.messages ++ m ∷ []) (frames_of behind).0 (each_both h.messages (m ∷ []) h.each (frame, tt)) s.each;
          ends = s.ends;
        };
        begun = begins_longer (h.messages ++ m ∷ []) (frames_of behind).0 k x z (begins_more h.messages (m ∷ []) k l x y z h.taken begun);
        refused = piece_refused all (frames_of behind).1 k e (refused_among h.messages (m ∷ []) (frames_of behind).0 all k l e refl same refused);
      }

-- what stops the messages of octets that are held and of a piece stops the piece
pub piece_stopped : (held piece octets : List ℕ) (k : Kept) (x y : Option Files) → octets ≡ held ++ piece → (e : SplitFault) → StopsInPiece (Holds []) octets k x y e → StopsInPiece (Holds held) piece k x y e
piece_stopped held piece octets k x y parts e s = record {
  messages = s.messages;
  after = s.after;
  fed = record { rest = s.fed.rest; whole = sym parts ∙ s.fed.whole; each = s.fed.each; ends = s.fed.ends };
  begun = s.begun;
  refused = s.refused;
}

-- want of memory is none of it
pub not_memory : (framer : Framing) (piece : List ℕ) (k : Kept) (x y : Option Files) (e : SplitFault) → StopsInPiece framer piece k x y e → e ≡ Memory → ⊥
not_memory framer piece k x y e s is = subst (λ (f : SplitFault). IsPieceRefused s.messages s.after k f) is s.refused
