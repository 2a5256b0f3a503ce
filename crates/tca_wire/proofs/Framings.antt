-- A stream has one framing alone, and may be cut anywhere.
use Rattle.std.proofs.Common.{◌≡◌, ℕ, ◌≤◌, inl, inr, true, false, cond, List, [], ◌∷◌, ◌++◌, length, take, drop, refl, sym, ap, subst, ◌∙◌, arith, append_assoc}
use Rattle.std.specs.Prelude.{◌==◌}
use Rattle.std.specs.List.{concat, AllByRecursion}
use Rattle.std.proofs.lemmas.Bool.Decides.{nat_tests}
use Rattle.std.proofs.lemmas.List.{append-nil, length-append, length-drop, take-append-le, drop-append-le, take_at, drop_at, take-append-drop}
use Rattle.std.proofs.lemmas.List.Folds.{concat-append}
use Rattle.byteorder.specs.Endian.{big_number}
use Rattle.byteorder.specs.Numbers.{big_from-take}
use Rattle.tca_wire.specs.Messages.{version_at, length_at}
use Rattle.tca_wire.specs.Frames.{IsFrame, IsPart, IsFaulty, Framing, Holds, Failed, EndsAs, IsStream, Feeds}
use Rattle.tca_wire.specs.declared.fault.WireFault.{WireFault}
use Rattle.tca_wire.specs.declared.fault.WireFault.TheVariants.{Short, BadVersion, BadLength, SetLength, SetPastEnd, Trailing, Memory}

-- a number reads no octet behind its own
front_number : (n : ℕ) (xs ys : List ℕ) → n ≤ length xs → big_number n (xs ++ ys) ≡ big_number n xs
front_number n xs ys h =
    sym (big_from-take 0 n n (xs ++ ys) (omega arith)) ∙ ap (λ (zs : List ℕ). big_number n zs) (take-append-le n xs ys h) ∙ big_from-take 0 n n xs (omega arith)

pub version_front : (xs ys : List ℕ) → 16 ≤ length xs → version_at (xs ++ ys) ≡ version_at xs
version_front xs ys h = front_number 2 xs ys (omega arith)

pub length_front : (xs ys : List ℕ) → 16 ≤ length xs → length_at (xs ++ ys) ≡ length_at xs
length_front xs ys h =
    ap (λ (zs : List ℕ). big_number 2 zs) (drop-append-le 2 xs ys (omega arith)) ∙ front_number 2 (drop 2 xs) ys (omega (arith, length-drop 2 xs))

-- two frames in front of the same octets are one
same_frame : (f g p q : List ℕ) → IsFrame f → IsFrame g → f ++ p ≡ g ++ q → (f ≡ g) × (p ≡ q)
same_frame f g p q hf hg e =
    let facts : length_at f ≡ length_at g = sym (length_front f p hf.room) ∙ ap (λ (zs : List ℕ). length_at zs) e ∙ length_front g q hg.room in
    let long : length g ≡ length f = sym hg.whole ∙ sym facts ∙ hf.whole in (
      sym (take_at f p (length f) refl) ∙ ap (take (length f)) e ∙ take_at g q (length f) long,
      sym (drop_at f p (length f) refl) ∙ ap (drop (length f)) e ∙ drop_at g q (length f) long,
    )

not_faulty : (g p : List ℕ) (fault : WireFault) → IsFrame g → IsFaulty (g ++ p) fault → ⊥
not_faulty g p (BadVersion v) h bad = bad.2 (sym bad.1 ∙ version_front g p h.room ∙ h.version)
not_faulty g p (BadLength n) h bad =
    let facts = length_front g p h.room in
    omega (arith, facts, h.whole, h.room, bad.2, bad.3)
not_faulty g p Short h bad = bad
not_faulty g p (SetLength at) h bad = bad
not_faulty g p (SetPastEnd at) h bad = bad
not_faulty g p (Trailing at) h bad = bad
not_faulty g p Memory h bad = bad

-- no frame stands in front of a rest
pub no_frame : (g p : List ℕ) (x : Framing) → IsFrame g → EndsAs (g ++ p) x → ⊥
no_frame g p (Holds held) h ends =
    let facts = length_front g p h.room in
    elim ends.1 [
      | inl short ↦ omega (arith, short, h.room, length-append g p)
      | inr part ↦ omega (arith, part.2, facts, h.whole, length-append g p)
    ]
no_frame g p (Failed fault) h ends = not_faulty g p fault h ends

-- what begins with a frame, behind others or none, isn't part of one
pub not_part_of_one : (octets : List ℕ) (a : List (List ℕ)) (rest : List ℕ) (n : ℕ) → octets ≡ concat a ++ rest → AllByRecursion IsFrame a → IsFrame (take n rest) → IsPart octets → ⊥
not_part_of_one octets [] rest n e each frame part =
    let parts : octets ≡ take n rest ++ drop n rest = e ∙ sym (take-append-drop n rest) in
    no_frame (take n rest) (drop n rest) (Holds octets) frame (parts, subst (λ z. IsPart z) parts part)
not_part_of_one octets (f ∷ a) rest n e each frame part =
    let parts : octets ≡ f ++ (concat a ++ rest) = e ∙ append_assoc f (concat a) rest in
    no_frame f (concat a ++ rest) (Holds octets) each.0 (parts, subst (λ z. IsPart z) parts part)

fault_at : List ℕ → WireFault
fault_at octets = cond (version_at octets == 10) (BadLength (length_at octets)) (BadVersion (version_at octets))

fault_is : (octets : List ℕ) (fault : WireFault) → IsFaulty octets fault → fault ≡ fault_at octets
unfolding fault_at
fault_is octets (BadVersion v) bad =
    let other : (version_at octets == 10) ≡ false = grind (arith, nat_tests, bad.1, bad.2) in
    ap (λ (n : ℕ). BadVersion n) (sym bad.1) ∙ ap (λ b. cond b (BadLength (length_at octets)) (BadVersion (version_at octets))) (sym other)
fault_is octets (BadLength n) bad =
    let right : (version_at octets == 10) ≡ true = grind (arith, nat_tests, bad.1) in
    ap (λ (n : ℕ). BadLength n) (sym bad.2) ∙ ap (λ b. cond b (BadLength (length_at octets)) (BadVersion (version_at octets))) (sym right)
fault_is octets Short bad = absurd bad
fault_is octets (SetLength at) bad = absurd bad
fault_is octets (SetPastEnd at) bad = absurd bad
fault_is octets (Trailing at) bad = absurd bad
fault_is octets Memory bad = absurd bad

pub not_part : (octets : List ℕ) (fault : WireFault) → IsPart octets → IsFaulty octets fault → ⊥
not_part octets (BadVersion v) part bad =
    elim part [
      | inl short ↦ omega (arith, short, bad.0)
      | inr more ↦ bad.2 (sym bad.1 ∙ more.0)
    ]
not_part octets (BadLength n) part bad =
    elim part [
      | inl short ↦ omega (arith, short, bad.0)
      | inr more ↦ omega (arith, more.1, bad.2, bad.3)
    ]
not_part octets Short part bad = bad
not_part octets (SetLength at) part bad = bad
not_part octets (SetPastEnd at) part bad = bad
not_part octets (Trailing at) part bad = bad
not_part octets Memory part bad = bad

one_end : (octets : List ℕ) (x y : Framing) → EndsAs octets x → EndsAs octets y → x ≡ y
one_end octets (Holds a) (Holds b) h k = ap (λ (held : List ℕ). Holds held) (h.0 ∙ sym k.0)
one_end octets (Holds a) (Failed g) h k = absurd (not_part octets g h.1 k)
one_end octets (Failed f) (Holds b) h k = absurd (not_part octets f k.1 h)
one_end octets (Failed f) (Failed g) h k = ap (λ (fault : WireFault). Failed fault) (fault_is octets f h ∙ sym (fault_is octets g k))

one_framing_of : (a b : List (List ℕ)) (r s : List ℕ) (x y : Framing) → AllByRecursion IsFrame a → AllByRecursion IsFrame b → concat a ++ r ≡ concat b ++ s
    → EndsAs r x → EndsAs s y → (a ≡ b) × (x ≡ y)
one_framing_of [] [] r s x y ha hb e ex ey = (refl, one_end s x y (subst (λ z. EndsAs z x) e ex) ey)
one_framing_of [] (g ∷ b) r s x y ha hb e ex ey =
    absurd (no_frame g (concat b ++ s) x hb.0 (subst (λ z. EndsAs z x) (e ∙ append_assoc g (concat b) s) ex))
one_framing_of (f ∷ a) [] r s x y ha hb e ex ey =
    absurd (no_frame f (concat a ++ r) y ha.0 (subst (λ z. EndsAs z y) (sym e ∙ append_assoc f (concat a) r) ey))
one_framing_of (f ∷ a) (g ∷ b) r s x y ha hb e ex ey =
    let same = same_frame f g (concat a ++ r) (concat b ++ s) ha.0 hb.0 (sym (append_assoc f (concat a) r) ∙ e ∙ append_assoc g (concat b) s) in
    let more = one_framing_of a b r s x y ha.1 hb.1 same.1 ex ey in
    (ap (λ z. z ∷ a) same.0 ∙ ap (λ z. g ∷ z) more.0, more.1)

pub one_framing : (octets : List ℕ) (a b : List (List ℕ)) (x y : Framing) → IsStream octets a x → IsStream octets b y → (a ≡ b) × (x ≡ y)
one_framing octets a b x y h k = one_framing_of a b h.rest k.rest x y h.each k.each (sym h.whole ∙ k.whole) h.ends k.ends

pub each_both : (a b : List (List ℕ)) → AllByRecursion IsFrame a → AllByRecursion IsFrame b → AllByRecursion IsFrame (a ++ b)
each_both [] b ha hb = hb
each_both (f ∷ a) b ha hb = (ha.0, each_both a b ha.1 hb)

pub frames_more : (octets : List ℕ) (a b : List (List ℕ)) (held rest : List ℕ) → octets ≡ concat a ++ held → held ≡ concat b ++ rest → octets ≡ concat (a ++ b) ++ rest
frames_more octets a b held rest e k =
    e ∙ ap (λ z. concat a ++ z) k ∙ sym (append_assoc (concat a) (concat b) rest) ∙ ap (λ z. z ++ rest) (sym (concat-append a b))

-- one frame more
pub frame_more : (octets : List ℕ) (a : List (List ℕ)) (f held rest : List ℕ) → octets ≡ concat a ++ held → held ≡ f ++ rest → octets ≡ concat (a ++ f ∷ []) ++ rest
frame_more octets a f held rest e k = frames_more octets a (f ∷ []) held rest e (k ∙ ap (λ z. z ++ rest) (sym (append-nil f)))

pub joined : (a b held : List ℕ) (fs gs : List (List ℕ)) (after : Framing) → IsStream a fs (Holds held) → IsStream (held ++ b) gs after → IsStream (a ++ b) (fs ++ gs) after
joined a b held fs gs after h k =
    let front : a ≡ concat fs ++ held = h.whole ∙ ap (λ z. concat fs ++ z) (sym h.ends.0) in
    let whole : a ++ b ≡ concat fs ++ (held ++ b) = ap (λ z. z ++ b) front ∙ append_assoc (concat fs) held b in
    record { rest = k.rest; whole = frames_more (a ++ b) fs gs (held ++ b) k.rest whole k.whole; each = each_both fs gs h.each k.each; ends = k.ends }

-- what is wrong with a header stays wrong with more octets behind it
still_faulty : (rest b : List ℕ) (fault : WireFault) → IsFaulty rest fault → IsFaulty (rest ++ b) fault
still_faulty rest b (BadVersion v) bad = (omega (arith, bad.0, length-append rest b), version_front rest b bad.0 ∙ bad.1, bad.2)
still_faulty rest b (BadLength n) bad = (omega (arith, bad.0, length-append rest b), version_front rest b bad.0 ∙ bad.1, length_front rest b bad.0 ∙ bad.2, bad.3)
still_faulty rest b Short bad = bad
still_faulty rest b (SetLength at) bad = bad
still_faulty rest b (SetPastEnd at) bad = bad
still_faulty rest b (Trailing at) bad = bad
still_faulty rest b Memory bad = bad

still_failed : (a b : List ℕ) (fs : List (List ℕ)) (fault : WireFault) → IsStream a fs (Failed fault) → IsStream (a ++ b) fs (Failed fault)
still_failed a b fs fault h = record {
  rest = h.rest ++ b;
  whole = ap (λ z. z ++ b) h.whole ∙ append_assoc (concat fs) h.rest b;
  each = h.each;
  ends = still_faulty h.rest b fault h.ends;
}

-- in two pieces as in one
pub pieces : (a b : List ℕ) (fs gs : List (List ℕ)) (between after : Framing) → IsStream a fs between → Feeds between b gs after → IsStream (a ++ b) (fs ++ gs) after
pieces a b fs gs (Holds held) after h k = joined a b held fs gs after h k
pieces a b fs gs (Failed fault) after h k =
    let same : fs ++ gs ≡ fs = ap (λ z. fs ++ z) k.0 ∙ append-nil fs in
    subst (λ (z : List (List ℕ)). IsStream (a ++ b) z after) (sym same)
    (subst (λ (x : Framing). IsStream (a ++ b) fs x) (sym k.1) (still_failed a b fs fault h))
