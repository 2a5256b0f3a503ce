-- Messages that lie whole in octets, and what has to be copied.
use Rattle.std.proofs.Common.{◌≡◌, ℕ, ◌+◌, ◌-◌, ◌<◌, ◌≤◌, inl, inr, Bool, true, false, List, [], ◌∷◌, ◌++◌, length, take, drop, Option, Some, None, Ok, refl, sym, ap, ap₂, subst, ◌∙◌, arith, append_assoc}
use Rattle.std.specs.Prelude.{nat_lt, not, ◌==◌, ◌⊎◌, IfSome, IfNone, is_some}
use Rattle.std.specs.List.{concat, AllByRecursion}
use Rattle.std.proofs.lemmas.Bool.Decides.{nat_tests}
use Rattle.std.proofs.lemmas.List.{append-nil, length-append, take_at, drop_at, take-append-drop}
use Rattle.std.proofs.Math.Seq.{take-append-add}
use Rattle.tca_wire.specs.Messages.{version_at, length_at, judged_length}
use Rattle.tca_wire.specs.Frames.{IsFrame, AreFrames, IsPart, IsFaulty, Framing, Holds, Failed, EndsAs, HoldsPart, IsStream, Feeds, frames_of, frames_of_both, framing}
use Rattle.tca_wire.specs.declared.fault.WireFault.{WireFault}
use Rattle.tca_wire.specs.declared.fault.WireFault.TheVariants.{BadVersion, BadLength}
use Rattle.tca_wire.proofs.Sets.{refused}
use Rattle.tca_wire.proofs.FramesOf.{whole_front, is_stream, frames_are}
use Rattle.tca_wire.proofs.Framings.{length_front, no_frame, not_part, one_framing, each_both, frame_more, joined}

-- frames, one after the other, are those of their octets
pub are_frames : (frames : List (List ℕ)) (octets : List ℕ) → AllByRecursion IsFrame frames → octets ≡ concat frames → ((frames_of octets).0 ≡ frames) × AreFrames octets
are_frames frames octets each e =
    frames_are octets frames (Holds []) (record { rest = []; whole = e ∙ sym (append-nil (concat frames)); each = each; ends = (refl, inl (omega arith)) })

pub one_frame : (octets : List ℕ) → IsFrame octets → AreFrames octets
one_frame octets frame = (are_frames (octets ∷ []) octets (frame, tt) (sym (append-nil octets))).1

pub no_frames : (octets : List ℕ) → length octets ≡ 0 → AreFrames octets
no_frames [] none = (are_frames [] [] tt refl).1
no_frames (b ∷ bs) none = absurd (omega arith)

pub whole_stream : (octets : List ℕ) → AreFrames octets → IsStream octets (frames_of octets).0 (Holds [])
whole_stream octets h = subst (λ (x : Framing). IsStream octets (frames_of octets).0 x) h (is_stream octets)

-- The first of some frames has the length that it says, and the others are behind it.
pub record HasFirst (octets : List ℕ) : Type 0 where
  pub room : 16 ≤ length octets
  pub within : length_at octets ≤ length octets
  pub frames : (frames_of octets).0 ≡ take (length_at octets) octets ∷ (frames_of (drop (length_at octets) octets)).0
  pub behind : AreFrames (drop (length_at octets) octets)

pub has_first : (octets : List ℕ) → AreFrames octets → 0 < length octets → HasFirst octets
has_first octets h some = go (frames_of octets).0 refl (whole_stream octets h)
  where
    go : (fs : List (List ℕ)) → (frames_of octets).0 ≡ fs → IsStream octets fs (Holds []) → HasFirst octets
    go [] e s = absurd (omega (arith, some, ap length s.whole, ap length s.ends.0))
    go (f ∷ gs) e s =
        let whole : octets ≡ f ++ (concat gs ++ s.rest) = s.whole ∙ append_assoc f (concat gs) s.rest in
        let said : length f ≡ length_at octets = sym (ap (λ (z : List ℕ). length_at z) whole ∙ length_front f (concat gs ++ s.rest) s.each.0.room ∙ s.each.0.whole) in
        let first : take (length_at octets) octets ≡ f = ap (take (length_at octets)) whole ∙ take_at f (concat gs ++ s.rest) (length_at octets) said in
        let none : concat gs ++ s.rest ≡ concat gs = ap (λ (z : List ℕ). concat gs ++ z) (sym s.ends.0) ∙ append-nil (concat gs) in
        let others : drop (length_at octets) octets ≡ concat gs = ap (drop (length_at octets)) whole ∙ drop_at f (concat gs ++ s.rest) (length_at octets) said ∙ none in
        let are = are_frames gs (drop (length_at octets) octets) s.each.1 others in
        let long = ap length whole ∙ length-append f (concat gs ++ s.rest) in
        record {
          room = omega (arith, long, s.each.0.room);
          within = omega (arith, long, said);
          frames = e ∙ ap₂ (λ (z : List ℕ) (zs : List (List ℕ)). z ∷ zs) (sym first) (sym are.0);
          behind = are.1;
        }

pub none_first : (octets : List ℕ) → length octets ≡ 0 → (frames_of octets).0 ≡ []
none_first [] none = (are_frames [] [] tt refl).0
none_first (b ∷ bs) none = absurd (omega arith)

-- The octets are frames and then the rest.
pub record IsCut (octets rest : List ℕ) : Type 0 where
  pub frames : List (List ℕ)
  pub whole : octets ≡ concat frames ++ rest
  pub each : AllByRecursion IsFrame frames

pub cut_more : (octets rest : List ℕ) (n : ℕ) → IsCut octets rest → IsFrame (take n rest) → IsCut octets (drop n rest)
cut_more octets rest n cut frame = record {
  frames = cut.frames ++ take n rest ∷ [];
  whole = frame_more octets cut.frames (take n rest) rest (drop n rest) cut.whole (sym (take-append-drop n rest));
  each = each_both cut.frames (take n rest ∷ []) cut.each (frame, tt);
}

pub record IsCutAt (octets rest : List ℕ) (n : ℕ) : Type 0 where
  pub front : AreFrames (take n octets)
  pub behind : drop n octets ≡ rest

pub cut_at : (octets rest : List ℕ) (n : ℕ) → IsCut octets rest → n + length rest ≡ length octets → IsCutAt octets rest n
cut_at octets rest n cut here =
    let front : length (concat cut.frames) ≡ n = omega (arith, here, ap length cut.whole, length-append (concat cut.frames) rest) in
    let taken : take n octets ≡ concat cut.frames = ap (take n) cut.whole ∙ take_at (concat cut.frames) rest n front in
    record {
      front = (are_frames cut.frames (take n octets) cut.each taken).1;
      behind = ap (drop n) cut.whole ∙ drop_at (concat cut.frames) rest n front;
    }

pub cut_short : (octets rest : List ℕ) → IsCut octets rest → (length octets - length rest) + length rest ≡ length octets
cut_short octets rest cut = omega (arith, ap length cut.whole, length-append (concat cut.frames) rest)

pub none_lent : (begun whole : List ℕ) → begun ≡ [] → whole ≡ [] → frames_of_both begun whole ≡ []
none_lent begun whole hb hw =
    ap₂ (λ (a b : List ℕ). frames_of_both a b) hb hw ∙ ap₂ (λ (a b : List (List ℕ)). a ++ b) (none_first [] refl) (none_first [] refl)

judged_length_ok : (octets : List ℕ) (n : ℕ) → judged_length octets ≡ Ok n → (version_at octets ≡ 10) × (length_at octets ≡ n) × (16 ≤ n)
judged_length_ok octets n e =
    let a = refused (not (version_at octets == 10)) (BadVersion (version_at octets)) _ n e in
    let b = refused (nat_lt (length_at octets) 16) (BadLength (length_at octets)) _ n a.1 in
    let said : length_at octets ≡ n = cc in
    (grind (arith, nat_tests, a.0), said, grind (arith, nat_tests, b.0, said))

-- part of a message is shorter than the message
begun_longer : (held piece : List ℕ) (n : ℕ) → IsPart held → 16 ≤ n → length_at (held ++ piece) ≡ n → length held < n
begun_longer held piece n part room said = go (nat_lt (length held) 16) refl
  where
    go : (b : Bool) → nat_lt (length held) 16 ≡ b → length held < n
    go true t = let few : length held < 16 = grind (arith, nat_tests, t) in omega (arith, few, room)
    go false t =
        let all : 16 ≤ length held = grind (arith, nat_tests, t) in
        elim part [
          | inl few ↦ absurd (omega (arith, few, all))
          | inr more ↦ omega (arith, more.2, length_front held piece all, said)
        ]

-- a message that begins in what is held and ends in the piece
pub frame_across : (held piece : List ℕ) (n : ℕ) → IsPart held → judged_length (held ++ piece) ≡ Ok n → n - length held ≤ length piece → IsFrame (held ++ take (n - length held) piece)
frame_across held piece n part judged within =
    let said = judged_length_ok (held ++ piece) n judged in
    let longer = begun_longer held piece n part said.2 said.1 in
    let there : n ≤ length (held ++ piece) = omega (arith, longer, within, length-append held piece) in
    let same : length held + (n - length held) ≡ n = omega (arith, longer) in
    let taken : take n (held ++ piece) ≡ held ++ take (n - length held) piece = ap (λ (m : ℕ). take m (held ++ piece)) (sym same) ∙ take-append-add held piece (n - length held) in
    subst (λ (z : List ℕ). IsFrame z) taken (whole_front (held ++ piece) n said.2 there said.0 said.1)

-- a stream of frames in two parts, and what is behind them
pub parts_stream : (front whole rest behind : List ℕ) (after : Framing) → AreFrames front → AreFrames whole → behind ≡ whole ++ rest → EndsAs rest after
    → IsStream (front ++ behind) (frames_of_both front whole) after
parts_stream front whole rest behind after hf hw e ends =
    let s = whole_stream whole hw in
    let parts : behind ≡ concat (frames_of whole).0 ++ rest = e ∙ ap (λ (z : List ℕ). z ++ rest) (s.whole ∙ ap (λ (z : List ℕ). concat (frames_of whole).0 ++ z) (sym s.ends.0) ∙ append-nil (concat (frames_of whole).0)) in
    joined front behind [] (frames_of front).0 (frames_of whole).0 after (whole_stream front hf) (record { rest = rest; whole = parts; each = s.each; ends = ends })

-- Behind octets that begin no faulty header there are messages or part of one.
pub something_to_keep : (held piece : List ℕ) (found : Option ℕ) (frames : List (List ℕ)) (after : Framing) → IfSome found (λ n. IsFrame (held ++ take n piece)) → IfNone found (IsPart (held ++ piece))
    → 0 < length (held ++ piece) → IsStream (held ++ piece) frames after → (0 < length frames) ⊎ HoldsPart after
something_to_keep held piece found (f ∷ fs) after frame part some s = inl (omega arith)
something_to_keep held piece (Some n) [] after frame part some s =
    let parts : s.rest ≡ (held ++ take n piece) ++ drop n piece =
    sym s.whole ∙ ap (λ (z : List ℕ). held ++ z) (sym (take-append-drop n piece)) ∙ sym (append_assoc held (take n piece) (drop n piece)) in
    absurd (no_frame (held ++ take n piece) (drop n piece) after frame (subst (λ (z : List ℕ). EndsAs z after) parts s.ends))
something_to_keep held piece None [] (Holds part) frame is some s =
    inr (omega (arith, some, ap length s.whole, ap length s.ends.0))
something_to_keep held piece None [] (Failed fault) frame is some s =
    absurd (not_part (held ++ piece) fault is (subst (λ (z : List ℕ). IsFaulty z fault) (sym s.whole) s.ends))

pub no_fault : (fault : Option WireFault) → is_some fault ≡ false → fault ≡ None
no_fault None e = refl
no_fault (Some f) e = absurd cc

-- a faulty header at the front of what is held and the piece
pub faulty_feeds : (held piece : List ℕ) (fault : Option WireFault) (before : Framing) (wrong : WireFault) → framing held fault ≡ before → fault ≡ None → IsFaulty (held ++ piece) wrong
    → Feeds before piece [] (Failed wrong)
faulty_feeds held piece fault before wrong is well bad =
    let here : Holds held ≡ before = ap (framing held) (sym well) ∙ is in
    subst (λ (x : Framing). Feeds x piece [] (Failed wrong)) here (record { rest = held ++ piece; whole = refl; each = tt; ends = bad })

-- what a framer that has not failed has to keep of a piece
pub feed_needs : (held piece : List ℕ) (fault : Option WireFault) (before : Framing) (found : Option ℕ) → framing held fault ≡ before → fault ≡ None
    → IfSome found (λ n. IsFrame (held ++ take n piece)) → IfNone found (IsPart (held ++ piece)) → 0 < length (held ++ piece)
    → (frames : List (List ℕ)) (after : Framing) → Feeds before piece frames after → (0 < length frames) ⊎ HoldsPart after
feed_needs held piece fault before found is well frame part some frames after feeds =
    let here : before ≡ Holds held = sym is ∙ ap (framing held) well in
    something_to_keep held piece found frames after frame part some (subst (λ (x : Framing). Feeds x piece frames after) here feeds)

pub not_part_some : (octets : List ℕ) → (IsPart octets → ⊥) → 0 < length octets
not_part_some [] more = absurd (more (inl (omega arith)))
not_part_some (b ∷ bs) more = omega arith

pub holds_same : (held other : List ℕ) (fault : Option WireFault) (before : Framing) → framing held fault ≡ before → before ≡ Holds other → held ≡ other
holds_same held other None before is holds = let same : Holds held ≡ Holds other = is ∙ holds in cc
holds_same held other (Some f) before is holds = let same : Failed f ≡ Holds other = is ∙ holds in absurd cc

pub failed_same : (held other : List ℕ) (fault : Option WireFault) → is_some fault ≡ true → framing held fault ≡ framing other fault
failed_same held other None e = absurd cc
failed_same held other (Some f) e = refl

pub holds_rest : (rest : List ℕ) (fault : Option WireFault) → is_some fault ≡ false → 0 < length rest → HoldsPart (framing rest fault)
holds_rest rest None e some = some
holds_rest rest (Some f) e some = absurd cc

pub holds_part : (held : List ℕ) (before : Framing) → before ≡ Holds held → 0 < length held → HoldsPart before
holds_part held before is some = subst (λ (x : Framing). HoldsPart x) (sym is) some

-- A piece that ends what was begun, and has frames and a rest behind that.
module _ (held piece : List ℕ) (n : ℕ) (whole rest : List ℕ) (before after : Framing) (is : before ≡ Holds held) (front : AreFrames (held ++ take n piece)) (frames : AreFrames whole)
    (parts : drop n piece ≡ whole ++ rest) (ends : EndsAs rest after) where
  all : IsStream (held ++ piece) (frames_of_both (held ++ take n piece) whole) after
  all =
      let same : (held ++ take n piece) ++ drop n piece ≡ held ++ piece = append_assoc held (take n piece) (drop n piece) ∙ ap (λ (z : List ℕ). held ++ z) (take-append-drop n piece) in
      subst (λ (z : List ℕ). IsStream z (frames_of_both (held ++ take n piece) whole) after) same (parts_stream (held ++ take n piece) whole rest (drop n piece) after front frames parts ends)

  pub lends : Feeds before piece (frames_of_both (held ++ take n piece) whole) after
  lends = subst (λ (x : Framing). Feeds x piece (frames_of_both (held ++ take n piece) whole) after) (sym is) all

  -- no others are lent
  one : (gs : List (List ℕ)) (other : Framing) → Feeds before piece gs other → (frames_of_both (held ++ take n piece) whole ≡ gs) × (after ≡ other)
  one gs other feeds = one_framing (held ++ piece) (frames_of_both (held ++ take n piece) whole) gs after other all (subst (λ (x : Framing). Feeds x piece gs other) is feeds)

  -- part is left
  pub part_needs : HoldsPart after → (gs : List (List ℕ)) (other : Framing) → Feeds before piece gs other → (HoldsPart before × (0 < length gs)) ⊎ HoldsPart other
  part_needs part gs other feeds = inr (subst (λ (x : Framing). HoldsPart x) (one gs other feeds).1 part)

  -- a message that was begun is ended
  pub begun_needs : HoldsPart before → 0 < length (held ++ take n piece) → (gs : List (List ℕ)) (other : Framing) → Feeds before piece gs other
      → (HoldsPart before × (0 < length gs)) ⊎ HoldsPart other
  begun_needs part some gs other feeds =
      let first = has_first (held ++ take n piece) front some in
      let many = ap length first.frames in
      let both = ap length (one gs other feeds).0 in
      inl (part, omega (arith, many, both, length-append (frames_of (held ++ take n piece)).0 (frames_of whole).0))

-- what a framer that holds part of a message has to keep of a piece
pub lend_needs : (before : Framing) (frames : List (List ℕ)) (after : Framing) → HoldsPart before → (0 < length frames) ⊎ HoldsPart after → (HoldsPart before × (0 < length frames)) ⊎ HoldsPart after
lend_needs before frames after part (inl some) = inl (part, some)
lend_needs before frames after part (inr rest) = inr rest
