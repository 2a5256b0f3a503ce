-- Each stream has frames.
use Rattle.std.proofs.Common.{◌≡◌, ℕ, zero, suc, ◌<◌, ◌≤◌, inl, inr, Bool, true, false, cond, List, [], ◌++◌, length, take, drop, refl, sym, ap, ◌∙◌, arith, append_assoc}
use Rattle.std.specs.Prelude.{nat_lt, ◌==◌, not}
use Rattle.std.specs.List.{concat}
use Rattle.std.proofs.lemmas.Bool.Decides.{nat_tests}
use Rattle.std.proofs.lemmas.List.{length-drop, length-take-le, take-append-drop}
use Rattle.tca_wire.specs.Messages.{version_at, length_at}
use Rattle.tca_wire.specs.Frames.{IsFrame, IsPart, IsFaulty, Framing, Holds, Failed, IsStream, AtFront, Whole, Part, Faulty, at_front, in_front, frames_for, frames_of}
use Rattle.tca_wire.specs.declared.fault.WireFault.TheVariants.{BadVersion, BadLength}
use Rattle.tca_wire.proofs.Framings.{version_front, length_front, one_framing}

-- what the front is
abbrev IsAtFront : List ℕ → AtFront → Type 0
IsAtFront octets (Whole n) = (n ≤ length octets) × (16 ≤ n) × IsFrame (take n octets)
IsAtFront octets Part = IsPart octets
IsAtFront octets (Faulty fault) = IsFaulty octets fault

pub whole_front : (octets : List ℕ) (n : ℕ) → 16 ≤ n → n ≤ length octets → version_at octets ≡ 10 → length_at octets ≡ n → IsFrame (take n octets)
whole_front octets n room within version facts =
    let size = length-take-le n octets within in
    let long : 16 ≤ length (take n octets) = omega (arith, size, room) in
    let parts = take-append-drop n octets in
    record {
      version = sym (version_front (take n octets) (drop n octets) long) ∙ ap (λ z. version_at z) parts ∙ version;
      whole = sym (length_front (take n octets) (drop n octets) long) ∙ ap (λ z. length_at z) parts ∙ facts ∙ sym size;
      room = long;
    }

front_holds : (octets : List ℕ) → IsAtFront octets (at_front octets)
front_holds octets = few (nat_lt (length octets) 16) refl
  where
    tail : (b : Bool) → nat_lt (length octets) (length_at octets) ≡ b → 16 ≤ length octets → version_at octets ≡ 10 → 16 ≤ length_at octets
        → IsAtFront octets (cond b Part (Whole (length_at octets)))
    tail true t long version room = inr (version, room, grind (arith, nat_tests, t))
    tail false t long version room =
        let within : length_at octets ≤ length octets = grind (arith, nat_tests, t) in
        (within, room, whole_front octets (length_at octets) room within version refl)

    small : (b : Bool) → nat_lt (length_at octets) 16 ≡ b → 16 ≤ length octets → version_at octets ≡ 10
        → IsAtFront octets (cond b (Faulty (BadLength (length_at octets))) (cond (nat_lt (length octets) (length_at octets)) Part (Whole (length_at octets))))
    small true t long version = (long, version, refl, grind (arith, nat_tests, t))
    small false t long version = tail (nat_lt (length octets) (length_at octets)) refl long version (grind (arith, nat_tests, t))

    other : (b : Bool) → (version_at octets == 10) ≡ b → 16 ≤ length octets
        → IsAtFront octets (cond (not b) (Faulty (BadVersion (version_at octets))) (cond (nat_lt (length_at octets) 16) (Faulty (BadLength (length_at octets)))
        (cond (nat_lt (length octets) (length_at octets)) Part (Whole (length_at octets)))))
    other true t long = small (nat_lt (length_at octets) 16) refl long (grind (arith, nat_tests, t))
    other false t long = (long, refl, grind (arith, nat_tests, t))

    few : (b : Bool) → nat_lt (length octets) 16 ≡ b
        → IsAtFront octets (cond b Part (cond (not (version_at octets == 10)) (Faulty (BadVersion (version_at octets))) (cond (nat_lt (length_at octets) 16) (Faulty (BadLength (length_at octets)))
        (cond (nat_lt (length octets) (length_at octets)) Part (Whole (length_at octets))))))
    few true t = inl (grind (arith, nat_tests, t))
    few false t = other (version_at octets == 10) refl (grind (arith, nat_tests, t))

abbrev framed : ℕ → List ℕ → AtFront → List (List ℕ) × Framing
framed most octets (Whole n) = in_front (take n octets) (frames_for most (drop n octets))
framed most octets Part = ([], Holds octets)
framed most octets (Faulty fault) = ([], Failed fault)

stream_for : (most : ℕ) (octets : List ℕ) → length octets < most → IsStream octets (frames_for most octets).0 (frames_for most octets).1
unfolding frames_for
stream_for zero octets lt = absurd (omega arith)
stream_for (suc most) octets lt = go (λ rest l. stream_for most rest l) (at_front octets) (front_holds octets)
  where
    go : ((rest : List ℕ) → length rest < most → IsStream rest (frames_for most rest).0 (frames_for most rest).1)
        → (x : AtFront) → IsAtFront octets x → IsStream octets (framed most octets x).0 (framed most octets x).1
    go more Part facts = record { rest = octets; whole = refl; each = tt; ends = (refl, facts) }
    go more (Faulty fault) facts = record { rest = octets; whole = refl; each = tt; ends = facts }
    go more (Whole n) facts =
        let r = more (drop n octets) (omega (arith, facts.0, facts.1, length-drop n octets)) in
        record {
          rest = r.rest;
          whole = sym (take-append-drop n octets) ∙ ap (λ z. take n octets ++ z) r.whole ∙ sym (append_assoc (take n octets) (concat (frames_for most (drop n octets)).0) r.rest);
          each = (facts.2, r.each);
          ends = r.ends;
        }

pub is_stream : (octets : List ℕ) → IsStream octets (frames_of octets).0 (frames_of octets).1
is_stream octets = stream_for (suc (length octets)) octets (omega arith)

-- A stream that was cut into frames has those of its octets.
pub frames_are : (octets : List ℕ) (frames : List (List ℕ)) (after : Framing) → IsStream octets frames after → (frames_of octets).0 ≡ frames × ((frames_of octets).1 ≡ after)
frames_are octets frames after p = one_framing octets (frames_of octets).0 frames (frames_of octets).1 after (is_stream octets) p
