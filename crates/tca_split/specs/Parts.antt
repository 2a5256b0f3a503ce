-- What of a capture is an observation domain's: its messages, octet by octet, in their order.
use Rattle.std.specs.Prelude.{ℕ, ◌==◌, not, List, [], ◌∷◌, filter}
use Rattle.std.specs.List.{concat}
use Rattle.tca_wire.specs.Messages.{header_at}
use Rattle.tca_wire.specs.Frames.{frames_of}

-- the observation domain that a message's header says
abbrev pub domain_of : List ℕ → ℕ
domain_of message = (header_at message).domain

-- the messages of a domain, in their order
abbrev pub messages_of : ℕ → List (List ℕ) → List (List ℕ)
messages_of domain messages = filter (λ m. domain_of m == domain) messages

-- a domain's part of a capture
abbrev pub part_of : ℕ → List ℕ → List ℕ
part_of domain octets = concat (messages_of domain (frames_of octets).0)

-- the domains of some messages, each once, in the order in which they first come
unfoldable pub domains_of : List (List ℕ) → List ℕ
domains_of [] = []
domains_of (m ∷ ms) = domain_of m ∷ filter (λ d. not (d == domain_of m)) (domains_of ms)
