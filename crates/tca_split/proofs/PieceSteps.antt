-- A second reading, piece by piece.
use Rattle.std.proofs.Common.{◌≡◌, ℕ, List, [], ◌++◌, Option, Some, Err, refl, sym, ap, subst, ◌∙◌, append_assoc, append-nil, arith, length, take, drop, take_all}
use Rattle.std.proofs.lemmas.List.{drop_all}
use Rattle.std.specs.Prelude.{Result, Ok, IfErr}
use Rattle.std.specs.Io.KnownBytes.{Consumes, IsAtEnd}
use Rattle.tca_wire.specs.Frames.{Framing, Holds, Failed, IsStream, frames_of, ending}
use Rattle.tca_wire.specs.declared.fault.WireFault.{WireFault}
use Rattle.tca_wire.proofs.FramesOf.{frames_are}
use Rattle.tca_report.proofs.lemmas.input.CaptureParts.{in_longer}
use Rattle.tca_split.specs.Failures.{CountsWriteFault, CountsWrite, CountsReadFault, CountsRead}
use Rattle.tca_split.specs.Folders.{Files}
use Rattle.tca_split.specs.inside.Surveying.{IsFramed}
use Rattle.tca_split.specs.inside.Buffering.{Kept, Takes, Begins, SameDomains, IsPieceRefused, TakesPiece, StopsInPiece, HasRead, IsSecondRefused}
use Rattle.tca_split.specs.declared.fault.SplitFault.{SplitFault}
use Rattle.tca_split.specs.declared.fault.SplitFault.TheVariants.{Read, Wire, Limits, Exists, Changed, Write, Memory}
use Rattle.tca_split.proofs.BufferSteps.{takes_none, takes_more, begins_more, begins_longer, begins_taken}
use Rattle.tca_split.proofs.ReadSteps.{read_on, read_end}
use Rattle.tca_split.proofs.Strangers.{stranger_among}
use Rattle.tca_split.proofs.SurveySteps.{fed, framed_on, framed_stream, framed_whole, failed_stream, framed_none}

-- nothing was read yet
pub read_none : (octets : List ℕ) (left : Option (List ℕ)) (framer : Framing) (k : Kept) (x : Option Files) → left ≡ Some octets → framer ≡ Holds [] → HasRead octets left framer k x k x
read_none octets left framer k x e new = record {
  read = [];
  rest = octets;
  messages = [];
  parts = refl;
  still = e;
  framed = subst (λ (f : Framing). IsFramed [] [] f) (sym new) framed_none;
  taken = takes_none k x;
}

-- the octets, where a piece of what was left was read
cut : (octets read rest piece behind : List ℕ) → octets ≡ read ++ rest → rest ≡ piece ++ behind → octets ≡ (read ++ piece) ++ behind
cut octets read rest piece behind parts e = parts ∙ ap (λ (l : List ℕ). read ++ l) e ∙ sym (append_assoc read piece behind)

module _ (octets : List ℕ) (left : Option (List ℕ)) (framer : Framing) (k l : Kept) (x y : Option Files) (h : HasRead octets left framer k x l y) where
  -- one piece more
  pub read_more : (now : Option (List ℕ)) (piece : List ℕ) (after : Framing) (m : Kept) (z : Option Files) → Consumes left now piece → TakesPiece framer piece after l y m z → HasRead octets now after k x m z
  read_more now piece after m z consumes t =
      let r = read_on left now h.rest piece h.still consumes in
      record {
        read = h.read ++ piece;
        rest = r.0;
        messages = h.messages ++ t.messages;
        parts = cut octets h.read h.rest piece r.0 h.parts r.2;
        still = r.1;
        framed = framed_on (h.read ++ piece) (h.messages ++ t.messages) after (fed h.read piece h.messages t.messages framer after h.framed t.fed) t.right;
        taken = takes_more h.messages t.messages k l m x y z h.taken t.taken;
      }

  -- where a piece wasn't taken
  pub stopped_begins : (now : Option (List ℕ)) (piece : List ℕ) (z : Option Files) (e : SplitFault) → Consumes left now piece → StopsInPiece framer piece l y z e → Begins (frames_of octets).0 k x z
  stopped_begins now piece z e consumes s =
      let r = read_on left now h.rest piece h.still consumes in
      let stream = fed h.read piece h.messages s.messages framer s.after h.framed s.fed in
      let longer = in_longer (h.read ++ piece) r.0 (h.messages ++ s.messages) s.after stream in
      let same = frames_are ((h.read ++ piece) ++ r.0) ((h.messages ++ s.messages) ++ longer.0) longer.1 longer.2 in
      subst (λ (o : List ℕ). Begins (frames_of o).0 k x z) (sym (cut octets h.read h.rest piece r.0 h.parts r.2))
      (subst (λ (ms : List (List ℕ)). Begins ms k x z) (sym same.0)
      (begins_longer (h.messages ++ s.messages) longer.0 k x z (begins_more h.messages s.messages k l x y z h.taken s.begun)))

  -- and why
  pub stopped_refused : (now : Option (List ℕ)) (piece : List ℕ) (z : Option Files) (e : SplitFault) → SameDomains k l → Consumes left now piece → StopsInPiece framer piece l y z e → IsSecondRefused octets k e
  stopped_refused now piece z e alike consumes s = go e s.refused
    where
      r : (behind : List ℕ) × (now ≡ Some behind) × (h.rest ≡ piece ++ behind)
      r = read_on left now h.rest piece h.still consumes

      stream : IsStream (h.read ++ piece) (h.messages ++ s.messages) s.after
      stream = fed h.read piece h.messages s.messages framer s.after h.framed s.fed

      go : (e : SplitFault) → IsPieceRefused s.messages s.after l e → IsSecondRefused octets k e
      go (Read fault) p = absurd p
      go (Wire fault) p =
          let same = frames_are ((h.read ++ piece) ++ r.0) (h.messages ++ s.messages) (Failed fault) (failed_stream (h.read ++ piece) r.0 (h.messages ++ s.messages) s.after fault stream p) in
          ap (λ (o : List ℕ). ending (frames_of o).1) (cut octets h.read h.rest piece r.0 h.parts r.2) ∙ ap ending same.1
      go Limits p = p
      go Exists p = p
      go Changed p =
          let longer = in_longer (h.read ++ piece) r.0 (h.messages ++ s.messages) s.after stream in
          let same = frames_are ((h.read ++ piece) ++ r.0) ((h.messages ++ s.messages) ++ longer.0) longer.1 longer.2 in
          stranger_among h.messages s.messages longer.0 (frames_of octets).0 k l
          (ap (λ (o : List ℕ). (frames_of o).0) (cut octets h.read h.rest piece r.0 h.parts r.2) ∙ same.0) alike p
      go Write p = tt
      go Memory p = p

  -- where no piece more was read
  pub so_far_begins : Begins (frames_of octets).0 k x y
  so_far_begins =
      let longer = in_longer h.read h.rest h.messages framer (framed_stream h.read h.messages framer h.framed) in
      let same = frames_are (h.read ++ h.rest) (h.messages ++ longer.0) longer.1 longer.2 in
      subst (λ (o : List ℕ). Begins (frames_of o).0 k x y) (sym h.parts)
      (subst (λ (ms : List (List ℕ)). Begins ms k x y) (sym same.0) (begins_taken h.messages longer.0 k l x y h.taken))

  -- at the end all was read
  at_end : (now : Option (List ℕ)) (piece : List ℕ) → piece ≡ [] → Consumes left now piece → IsAtEnd now → ((frames_of octets).0 ≡ h.messages) × ((frames_of octets).1 ≡ framer)
  at_end now piece none consumes end =
      let all : octets ≡ h.read = h.parts ∙ ap (λ (l : List ℕ). h.read ++ l) (read_end left now h.rest piece h.still none consumes end) ∙ append-nil h.read in
      let same = framed_whole h.read h.messages framer h.framed in
      (ap (λ (o : List ℕ). (frames_of o).0) all ∙ same.0, ap (λ (o : List ℕ). (frames_of o).1) all ∙ same.1)

  pub ended_takes : (now : Option (List ℕ)) (piece : List ℕ) → piece ≡ [] → Consumes left now piece → IsAtEnd now → Takes (frames_of octets).0 k x l y
  ended_takes now piece none consumes end = subst (λ (ms : List (List ℕ)). Takes ms k x l y) (sym (at_end now piece none consumes end).0) h.taken

  pub ended_right : (now : Option (List ℕ)) (piece : List ℕ) → piece ≡ [] → Consumes left now piece → IsAtEnd now → ending framer ≡ Ok tt → ending (frames_of octets).1 ≡ Ok tt
  ended_right now piece none consumes end e = ap ending (at_end now piece none consumes end).1 ∙ e

  pub ended_refused : (now : Option (List ℕ)) (piece : List ℕ) (fault : WireFault) → piece ≡ [] → Consumes left now piece → IsAtEnd now → ending framer ≡ Err fault → IsSecondRefused octets k (Wire fault)
  ended_refused now piece fault none consumes end e = ap ending (at_end now piece none consumes end).1 ∙ e

-- the same of a result
pub ended_if_refused : (start left now : Option (List ℕ)) (framer : Framing) (k l : Kept) (x y : Option Files) (piece : List ℕ) (r : Result (Unit {0}) SplitFault)
    → ((octets : List ℕ) → start ≡ Some octets → HasRead octets left framer k x l y) → piece ≡ [] → Consumes left now piece → IsAtEnd now
    → IfErr r (λ e. (fault : WireFault) × (ending framer ≡ Err fault) × (e ≡ Wire fault)) → IfErr r (λ e. (octets : List ℕ) → start ≡ Some octets → IsSecondRefused octets k e)
ended_if_refused start left now framer k l x y piece (Ok u) so_far none consumes end h = tt
ended_if_refused start left now framer k l x y piece (Err e) so_far none consumes end h = λ octets known.
    subst (IsSecondRefused octets k) (sym h.2) (ended_refused octets left framer k l x y (so_far octets known) now piece h.0 none consumes end h.1)

-- a fault of the framing counts nothing
pub counts_no_write : (r : Result (Unit {0}) SplitFault) (framer : Framing) (m n : ℕ) → IfErr r (λ e. (fault : WireFault) × (ending framer ≡ Err fault) × (e ≡ Wire fault)) → n ≡ m → CountsWrite r m n
counts_no_write (Ok u) framer m n h e = e
counts_no_write (Err f) framer m n h e = subst (λ f. CountsWriteFault f m n) (sym h.2) e

pub counts_no_read : (r : Result (Unit {0}) SplitFault) (framer : Framing) (m n : ℕ) → IfErr r (λ e. (fault : WireFault) × (ending framer ≡ Err fault) × (e ≡ Wire fault)) → n ≡ m → CountsRead r m n
counts_no_read (Ok u) framer m n h e = e
counts_no_read (Err f) framer m n h e = subst (λ f. CountsReadFault f m n) (sym h.2) e

-- a piece counts no read
pub stopped_reads : (framer : Framing) (piece : List ℕ) (k : Kept) (x y : Option Files) (e : SplitFault) (m n : ℕ) → StopsInPiece framer piece k x y e → n ≡ m → CountsReadFault e m n
stopped_reads framer piece k x y e m n s h = go e s.refused
  where
    go : (e : SplitFault) → IsPieceRefused s.messages s.after k e → CountsReadFault e m n
    go (Read fault) p = absurd p
    go (Wire fault) p = h
    go Limits p = absurd p
    go Exists p = absurd p
    go Changed p = h
    go Write p = h
    go Memory p = absurd p

-- all of a piece's octets, as a read left them
pub whole_piece : (len : ℕ) (into items : List ℕ) → length into ≡ length items → length items ≡ len → take len (into ++ drop (length into) items) ≡ into
whole_piece len into items same all =
    let none : drop (length into) items ≡ [] = drop_all (length into) items (omega (arith, same)) in
    ap (λ (l : List ℕ). take len (into ++ l)) none ∙ ap (take len) (append-nil into) ∙ take_all len into (omega (arith, same, all))
