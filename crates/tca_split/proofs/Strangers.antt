-- Messages of domains without a buffer.
use Rattle.std.proofs.Common.{◌≡◌, ℕ, List, ◌∷◌, ◌++◌, sym, ap, ◌∙◌, append_assoc}
use Rattle.tca_split.specs.Parts.{domain_of}
use Rattle.tca_split.specs.inside.Buffering.{Kept, SameDomains, HasStranger, AreRefused}
use Rattle.tca_split.specs.declared.fault.SplitFault.{SplitFault}
use Rattle.tca_split.specs.declared.fault.SplitFault.TheVariants.{Read, Wire, Limits, Exists, Changed, Write, Memory}

-- messages in front and behind
pub stranger_among : (a b c ms : List (List ℕ)) (k l : Kept) → ms ≡ (a ++ b) ++ c → SameDomains k l → HasStranger b l → HasStranger ms k
stranger_among a b c ms k l parts same h = record {
  front = a ++ h.front;
  message = h.message;
  behind = h.behind ++ c;
  parts = parts ∙ ap (λ (s : List (List ℕ)). (a ++ s) ++ c) h.parts ∙ ap (λ (s : List (List ℕ)). s ++ c) (sym (append_assoc a h.front (h.message ∷ h.behind)))
      ∙ append_assoc (a ++ h.front) (h.message ∷ h.behind) c;
  stranger = sym (same (domain_of h.message)) ∙ h.stranger;
}

pub refused_among : (a b c ms : List (List ℕ)) (k l : Kept) (e : SplitFault) → ms ≡ (a ++ b) ++ c → SameDomains k l → AreRefused b l e → AreRefused ms k e
refused_among a b c ms k l (Read fault) parts same h = h
refused_among a b c ms k l (Wire fault) parts same h = h
refused_among a b c ms k l Limits parts same h = h
refused_among a b c ms k l Exists parts same h = h
refused_among a b c ms k l Changed parts same h = stranger_among a b c ms k l parts same h
refused_among a b c ms k l Write parts same h = tt
refused_among a b c ms k l Memory parts same h = h
