-- Why a capture isn't split, by what its steps are refused for.
use Rattle.std.proofs.Common.{◌≡◌, ◌≢◌, ◌⊎◌, ℕ, Bool, true, false, cond, inl, inr, List, [], ◌∷◌, ◌++◌, append_assoc, Option, Some, None, Ok, Err, refl, sym, ap, subst, ◌∙◌}
use Rattle.std.specs.Prelude.{Result, is_some}
use Rattle.tca_wire.specs.Frames.{frames_of, ending}
use Rattle.tca_wire.proofs.FramesOf.{is_stream}
use Rattle.tca_report.specs.device.Devices.{Rises}
use Rattle.tca_report.specs.declared.device.octets.ReadFault.TheVariants as read
use Rattle.tca_split.specs.Parts.{domain_of, domains_of}
use Rattle.tca_split.specs.Surveys.{is_among, unless_cut, IsRight}
use Rattle.tca_split.specs.Failures.{CountsReadFault, CountsWriteFault}
use Rattle.tca_split.specs.Folders.{Files}
use Rattle.tca_split.specs.Splits.{has_part, IsFree, AreBegun, IsRefused}
use Rattle.tca_split.specs.inside.Surveying.{Surveys, IsFirstRefused, IsOfReading}
use Rattle.tca_split.specs.inside.Buffering.{Kept, empty_for, HasStranger, IsSecondRefused, IsWritingRefused}
use Rattle.tca_split.specs.declared.survey.Survey.{Survey}
use Rattle.tca_split.specs.declared.fault.SplitFault.{SplitFault}
use Rattle.tca_split.specs.declared.fault.SplitFault.TheVariants.{Read, Wire, Limits, Exists, Changed, Write, Memory}
use Rattle.tca_split.proofs.SurveySteps.{surveyed_is}
use Rattle.tca_split.proofs.DomainLists.{among_own, among_more}

pub right_of : (octets : List ℕ) (s : Survey) → Surveys (frames_of octets).0 s → ending (frames_of octets).1 ≡ Ok tt → IsRight octets
right_of octets s h e =
    surveyed_is octets (frames_of octets).0 (frames_of octets).1 (is_stream octets) h.few ∙ ap (unless_cut (domains_of (frames_of octets).0) _) e

-- the first reading ended early
pub first_refused : (octets : List ℕ) (fs : Files) (y : Option Files) (e : SplitFault) → y ≡ Some fs → IsFirstRefused octets e → IsRefused octets fs y e
first_refused octets fs y (Read read.Read) same h = inl same
first_refused octets fs y (Read read.Turns) same h = inl same
first_refused octets fs y (Read read.Memory) same h = h
first_refused octets fs y (Wire fault) same h = (h, same)
first_refused octets fs y Limits same h = (h, same)
first_refused octets fs y Exists same h = absurd h
first_refused octets fs y Changed same h = h
first_refused octets fs y Write same h = absurd h
first_refused octets fs y Memory same h = same

-- a file was there, or couldn't be looked for
pub look_refused : (octets : List ℕ) (fs : Files) (y : Option Files) (e : SplitFault) → y ≡ Some fs → IsRight octets → (e ≡ Exists) ⊎ (e ≡ Write)
    → (e ≡ Exists → (d : ℕ) × (has_part octets d ≡ true) × (fs d ≢ None)) → IsRefused octets fs y e
look_refused octets fs y e same right (inl is) found =
    let there = found is in
    subst (λ (x : SplitFault). IsRefused octets fs y x) (sym is) (record { right = right; domain = there.0; own = there.1; there = there.2; untouched = same })
look_refused octets fs y e same right (inr is) found = subst (λ (x : SplitFault). IsRefused octets fs y x) (sym is) (right, inl same)

-- the writing ended early
pub writing_refused : (octets : List ℕ) (fs : Files) (y : Option Files) (e : SplitFault) → IsRight octets → ending (frames_of octets).1 ≡ Ok tt → IsFree octets fs → AreBegun octets fs y → IsWritingRefused octets e
    → (e ≡ Memory → y ≡ Some fs) → IsRefused octets fs y e
writing_refused octets fs y (Read read.Read) right end free begun h kept = inr (record { right = right; free = free; begun = begun })
writing_refused octets fs y (Read read.Turns) right end free begun h kept = inr (record { right = right; free = free; begun = begun })
writing_refused octets fs y (Read read.Memory) right end free begun h kept = h
writing_refused octets fs y (Wire fault) right end free begun h kept = absurd (let bad : Ok tt ≡ Err fault = sym end ∙ h in cc)
writing_refused octets fs y Limits right end free begun h kept = absurd h
writing_refused octets fs y Exists right end free begun h kept = absurd h
writing_refused octets fs y Changed right end free begun h kept = h
writing_refused octets fs y Write right end free begun h kept = (right, inr (record { right = right; free = free; begun = begun }))
writing_refused octets fs y Memory right end free begun h kept = kept refl

-- each domain of a message has a buffer
no_stranger : (octets ds : List ℕ) (k : Kept) → ds ≡ domains_of (frames_of octets).0 → ((d : ℕ) → k d ≡ empty_for ds d) → HasStranger (frames_of octets).0 k → ⊥
no_stranger octets ds k own empty h =
    let there : is_among (domain_of h.message) (domains_of (frames_of octets).0) ≡ true =
    ap (λ (ms : List (List ℕ)). is_among (domain_of h.message) (domains_of ms)) (h.parts ∙ sym (append_assoc h.front (h.message ∷ []) h.behind))
    ∙ among_more (h.front ++ h.message ∷ []) h.behind (domain_of h.message) (among_own h.front h.message) in
    has_one (is_among (domain_of h.message) ds) (k (domain_of h.message)) (ap (is_among (domain_of h.message)) own ∙ there) (empty (domain_of h.message)) h.stranger
  where
    has_one : (b : Bool) (kept : Option (List ℕ)) → b ≡ true → kept ≡ cond b (Some []) None → is_some kept ≡ false → ⊥
    has_one true None e is none = absurd cc
    has_one true (Some l) e is none = absurd cc
    has_one false kept e is none = absurd cc

-- the second reading ended early, where it has the domains of the first
pub second_refused : (octets ds : List ℕ) (k : Kept) (e : SplitFault) → ds ≡ domains_of (frames_of octets).0 → ((d : ℕ) → k d ≡ empty_for ds d) → IsSecondRefused octets k e → IsWritingRefused octets e
second_refused octets ds k (Read read.Read) own empty h = tt
second_refused octets ds k (Read read.Turns) own empty h = tt
second_refused octets ds k (Read read.Memory) own empty h = h
second_refused octets ds k (Wire fault) own empty h = h
second_refused octets ds k Limits own empty h = h
second_refused octets ds k Exists own empty h = h
second_refused octets ds k Changed own empty h = no_stranger octets ds k own empty h
second_refused octets ds k Write own empty h = tt
second_refused octets ds k Memory own empty h = absurd h

pub write_refused : (octets : List ℕ) (e : SplitFault) → e ≡ Write → IsWritingRefused octets e
write_refused octets e is = subst (λ (x : SplitFault). IsWritingRefused octets x) (sym is) tt

-- a result tells one fault
pub told_is : {T : Type 0} (r : Result T SplitFault) (d e : SplitFault) → r ≡ Err d → r ≡ Err e → d ≡ e
told_is r d e p q = let both : Err d ≡ Err e = sym p ∙ q in cc

-- nothing was written where memory is told, since something else is
pub no_want : (r : Result (Unit {0}) SplitFault) (d : SplitFault) (x y : Option Files) → r ≡ Err d → (d ≡ Memory → ⊥) → r ≡ Err Memory → y ≡ x
no_want r d x y is not told = absurd (not (told_is r d Memory is told))

pub write_no_want : (d : SplitFault) → d ≡ Write → d ≡ Memory → ⊥
write_no_want d is told = let bad : Write ≡ Memory = sym is ∙ told in absurd cc

-- nor is a file that was there or couldn't be looked for a want of memory
pub look_no_want : (d : SplitFault) → (d ≡ Exists) ⊎ (d ≡ Write) → d ≡ Memory → ⊥
look_no_want d (inl is) told = let bad : Exists ≡ Memory = sym is ∙ told in absurd cc
look_no_want d (inr is) told = write_no_want d is told

-- memory that the first reading wanted
pub first_wanted : {A B C : Type 0} → A ⊎ B → A ⊎ B ⊎ C
first_wanted (inl a) = inl a
first_wanted (inr b) = inr (inl b)

-- a count that didn't rise, since no failed read was told
pub calm_read : (e : SplitFault) (old new : ℕ) → CountsReadFault e old new → (e ≡ Read read.Read → ⊥) → new ≡ old
calm_read (Read read.Read) old new h not = absurd (not refl)
calm_read (Read read.Turns) old new h not = h
calm_read (Read read.Memory) old new h not = h
calm_read (Wire fault) old new h not = h
calm_read Limits old new h not = h
calm_read Exists old new h not = h
calm_read Changed old new h not = h
calm_read Write old new h not = h
calm_read Memory old new h not = h

-- one that rose, since it was
pub risen_read : (e : SplitFault) (old new : ℕ) → CountsReadFault e old new → e ≡ Read read.Read → Rises old new
risen_read e old new h is = subst (λ (x : SplitFault). CountsReadFault x old new) is h

-- a fault of the first reading is no failed write
pub calm_write : (e : SplitFault) (n : ℕ) → IsOfReading e → CountsWriteFault e n n
calm_write (Read fault) n h = refl
calm_write (Wire fault) n h = refl
calm_write Limits n h = refl
calm_write Exists n h = refl
calm_write Changed n h = refl
calm_write Write n h = absurd h
calm_write Memory n h = refl
