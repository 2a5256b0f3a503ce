-- The files of a capture's domains, from the making of them to their end.
use Rattle.std.proofs.Common.{◌≡◌, ℕ, true, List, [], Option, Some, inl, refl, ap, subst, append-nil, ◌∙◌}
use Rattle.tca_wire.specs.Frames.{frames_of}
use Rattle.tca_split.specs.Parts.{domains_of}
use Rattle.tca_split.specs.Surveys.{is_among}
use Rattle.tca_split.specs.Folders.{Files, Creates}
use Rattle.tca_split.specs.Splits.{AreSplit, AreBegun}
use Rattle.tca_split.specs.inside.Buffering.{Kept, empty_for, StartsMaking, Takes, Begins}
use Rattle.tca_split.proofs.BufferSteps.{takes_more, begins_more}
use Rattle.tca_split.proofs.Endings.{ends, stopped, making_stopped}

-- nothing was made
pub nothing_begun : (octets : List ℕ) (fs : Files) (y : Option Files) → y ≡ Some fs → AreBegun octets fs y
nothing_begun octets fs y e = (fs, e, λ d. inl refl)

-- the making of files stopped
pub making_begun : (octets ds : List ℕ) (fs : Files) (x y : Option Files) → ds ≡ domains_of (frames_of octets).0 → x ≡ Some fs → StartsMaking ds x y → AreBegun octets fs y
making_begun octets ds fs x y own e s =
    making_stopped octets fs y (subst (λ (o : Option Files). StartsMaking (domains_of (frames_of octets).0) o y) e (subst (λ (l : List ℕ). StartsMaking l x y) own s))

made_for : (octets ds : List ℕ) (fs : Files) (x y : Option Files) → ds ≡ domains_of (frames_of octets).0 → x ≡ Some fs → Creates ds x y → Creates (domains_of (frames_of octets).0) (Some fs) y
made_for octets ds fs x y own e c = subst (λ (o : Option Files). Creates (domains_of (frames_of octets).0) o y) e (subst (λ (l : List ℕ). Creates l x y) own c)

-- the reading stopped
pub reading_begun : (octets ds : List ℕ) (k : Kept) (fs : Files) (x y z : Option Files) → ds ≡ domains_of (frames_of octets).0 → x ≡ Some fs → Creates ds x y → ((d : ℕ) → k d ≡ empty_for ds d)
    → Begins (frames_of octets).0 k y z → AreBegun octets fs z
reading_begun octets ds k fs x y z own e made empty b =
    stopped octets k fs y z (made_for octets ds fs x y own e made) (subst (λ (l : List ℕ). (d : ℕ) → k d ≡ empty_for l d) own empty) b

-- the last octets of the buffers were written in part
pub emptying_begun : (octets ds : List ℕ) (k l : Kept) (fs : Files) (x y z after : Option Files) → ds ≡ domains_of (frames_of octets).0 → x ≡ Some fs → Creates ds x y → ((d : ℕ) → k d ≡ empty_for ds d)
    → Takes (frames_of octets).0 k y l z → Begins [] l z after → AreBegun octets fs after
emptying_begun octets ds k l fs x y z after own e made empty t b =
    reading_begun octets ds k fs x y after own e made empty
    (subst (λ (ms : List (List ℕ)). Begins ms k y after) (append-nil (frames_of octets).0) (begins_more (frames_of octets).0 [] k l y z after t b))

-- all was written
pub all_split : (octets ds : List ℕ) (k l m : Kept) (fs : Files) (x y z after : Option Files) → ds ≡ domains_of (frames_of octets).0 → x ≡ Some fs → Creates ds x y → ((d : ℕ) → k d ≡ empty_for ds d)
    → Takes (frames_of octets).0 k y l z → Takes [] l z m after → ((d : ℕ) (kept : List ℕ) → is_among d ds ≡ true → m d ≡ Some kept → kept ≡ []) → AreSplit octets fs after
all_split octets ds k l m fs x y z after own e made empty t u none =
    ends octets k m fs y after (made_for octets ds fs x y own e made) (subst (λ (a : List ℕ). (d : ℕ) → k d ≡ empty_for a d) own empty)
    (subst (λ (ms : List (List ℕ)). Takes ms k y m after) (append-nil (frames_of octets).0) (takes_more (frames_of octets).0 [] k l m y z after t u))
    (λ d kept p. none d kept (ap (is_among d) own ∙ p))
