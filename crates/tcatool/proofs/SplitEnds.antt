-- How `split` ends: what its refusals tell of the faults of splitting, and what printing leaves.
use Rattle.std.proofs.Common.{◌≡◌, ◌⊎◌, ◌∙◌, ℕ, List, false, Option, Some, inl, inr, Result, Ok, Err, OnOk, IfErr, refl, ap, sym, subst, true≢false, arith}
use Rattle.tca_report.specs.declared.device.octets.ReadFault.TheVariants as read
use Rattle.tca_split.specs.declared.fault.SplitFault.{SplitFault}
use Rattle.tca_split.specs.declared.fault.SplitFault.TheVariants.{Read, Wire, Limits, Exists, Changed, Write, Memory}
use Rattle.tca_split.specs.declared.splitting.Parts.{Parts}
use Rattle.tca_split.specs.Folders.{Files}
use Rattle.tca_split.specs.Splits.{IsRefused, IsSplit}
use Rattle.tca_program.specs.Devices.{Device, IsCutOff, Receives}
use Rattle.tca_program.specs.Unions.{is_family, is_write, memory_refusal, refusal, write_refusal}
use Rattle.tca_program.specs.declared.fault.Family.TheVariants as family
use Rattle.tca_program.specs.declared.fault.RunFault.{RunFault}
use Rattle.tcatool.specs.Splitting.{IsFilesRefused, IsPartsPrinted, IsSplitDone, IsSplitRefused, Place, Readings, WhereKnown, parts_text, split_refusal}

-- a result tells one thing
pub same_told : {T E : Type 0} (r : Result T E) (x y : E) → r ≡ Err x → r ≡ Err y → x ≡ y
same_told {T} {E} r x y is also = sym (subst (λ (s : Result T E). IfErr s (λ (z : E). z ≡ x)) also (subst (λ (s : Result T E). IfErr s (λ (z : E). z ≡ x)) (sym is) refl))

-- a failed write is told as no other family
pub not_write : (r : Result (Unit {0}) RunFault) (Part : RunFault → Type 0) (e : RunFault) → IfErr r (λ d. (d ≡ write_refusal) × Part d) → is_write e ≡ false → r ≡ Err e → ⊥
not_write r Part e h other is =
    let p = subst (λ (s : Result (Unit {0}) RunFault). IfErr s (λ d. (d ≡ write_refusal) × Part d)) is h in
    true≢false (sym (ap is_write p.0) ∙ other)

-- want of memory is told for nothing else
pub only_memory : (fault : SplitFault) → split_refusal fault ≡ memory_refusal → fault ≡ Memory
only_memory (Read f) h = absurd (true≢false (ap (λ (e : RunFault). is_family e.family family.Read) h))
only_memory (Wire f) h = absurd (true≢false (ap (λ (e : RunFault). is_family e.family family.Wire) h))
only_memory Limits h = absurd (true≢false (ap (λ (e : RunFault). is_family e.family family.Limits) h))
only_memory Exists h = absurd (true≢false (ap is_write h))
only_memory Changed h = absurd (true≢false (ap (λ (e : RunFault). is_family e.family family.Read) h))
only_memory Write h = absurd (true≢false (ap is_write h))
only_memory Memory h = refl

-- a failed read is told for itself and for a capture that changed
pub only_read : (fault : SplitFault) → split_refusal fault ≡ refusal (Some 0) family.Read 1 → (fault ≡ Read read.Read) ⊎ (fault ≡ Changed)
only_read (Read read.Read) h = inl refl
only_read (Read read.Turns) h = absurd (omega (arith, ap (λ (e : RunFault). e.number) h))
only_read (Read read.Memory) h = absurd (omega (arith, ap (λ (e : RunFault). e.number) h))
only_read (Wire f) h = absurd (true≢false (ap (λ (e : RunFault). is_family e.family family.Wire) h))
only_read Limits h = absurd (true≢false (ap (λ (e : RunFault). is_family e.family family.Limits) h))
only_read Exists h = absurd (true≢false (ap is_write h))
only_read Changed h = inr refl
only_read Write h = absurd (true≢false (ap is_write h))
only_read Memory h = absurd (true≢false (ap (λ (e : RunFault). is_family e.family family.Memory) h))

-- a reading that didn't end is told for nothing else
pub only_turns : (fault : SplitFault) → split_refusal fault ≡ refusal (Some 0) family.Read 2 → fault ≡ Read read.Turns
only_turns (Read read.Read) h = absurd (omega (arith, ap (λ (e : RunFault). e.number) h))
only_turns (Read read.Turns) h = refl
only_turns (Read read.Memory) h = absurd (omega (arith, ap (λ (e : RunFault). e.number) h))
only_turns (Wire f) h = absurd (true≢false (ap (λ (e : RunFault). is_family e.family family.Wire) h))
only_turns Limits h = absurd (true≢false (ap (λ (e : RunFault). is_family e.family family.Limits) h))
only_turns Exists h = absurd (true≢false (ap is_write h))
only_turns Changed h = absurd (omega (arith, ap (λ (e : RunFault). e.number) h))
only_turns Write h = absurd (true≢false (ap is_write h))
only_turns Memory h = absurd (true≢false (ap (λ (e : RunFault). is_family e.family family.Memory) h))

-- a result that is `Ok` tells no fault
pub no_fault : (parts : Parts) (f : SplitFault) → Ok parts ≡ Err f → ⊥
no_fault parts f h = subst (λ (r : Result Parts SplitFault). IfErr r (λ y. ⊥)) h tt

pub one_of : {A B C : Type 0} → (A × C) ⊎ B → A ⊎ B
one_of (inl h) = inl h.0
one_of (inr h) = inr h

-- Where both readings tell the same octets, the capture hasn't changed; so a read failed.
pub failed_read : {A B C : Type 0} (octets : List ℕ) (files : Files) (after : Option Files) (fault : SplitFault) → (fault ≡ Read read.Read) ⊎ (fault ≡ Changed) → IsRefused octets files after fault
    → (fault ≡ Read read.Read → (A × C) ⊎ B) → A ⊎ B
failed_read octets files after fault (inl is) why reads = one_of (reads is)
failed_read octets files after fault (inr is) why reads = absurd (subst (λ (f : SplitFault). IsRefused octets files after f) is why)

module _ (readings : Readings) (before after : Place) (old new : Device) (parts : Parts) (split : WhereKnown readings before (λ octets files. IsSplit octets files after.files parts)) (calm : after.failures ≡ before.failures) where
  -- all was printed
  pub all_printed : (r : Result (Unit {0}) RunFault) → OnOk r (Receives (parts_text parts) old new) → OnOk r (IsSplitDone readings before after old new)
  all_printed (Ok x) written = record { parts = parts; split = split; calm = calm; printed = written }
  all_printed (Err e) none = tt

  -- a write failed
  pub part_printed : (r : Result (Unit {0}) RunFault) → IfErr r (λ e. (e ≡ write_refusal) × IsCutOff (parts_text parts) old new) → IfErr r (IsSplitRefused readings before after old new)
  part_printed (Ok x) none = tt
  part_printed (Err e) cut = inr (record { fault = cut.0; parts = parts; split = split; calm = calm; part = cut.1 })

module _ (readings : Readings) (before after : Place) (old new : Device) where
  -- what is told where no octets are known
  pub parts_printed : (r : Result (Unit {0}) RunFault) → OnOk r (IsSplitDone readings before after old new) → OnOk r (IsPartsPrinted old new)
  parts_printed (Ok x) done = record { parts = done.parts; printed = done.printed }
  parts_printed (Err e) none = tt

  one_refused : (e : RunFault) → IsSplitRefused readings before after old new e → IsFilesRefused old new e
  one_refused e (inl h) = inl (record { fault = h.fault; told = h.told; unprinted = h.unprinted })
  one_refused e (inr h) = inr (record { fault = h.fault; parts = h.parts; part = h.part })

  pub files_refused : (r : Result (Unit {0}) RunFault) → IfErr r (IsSplitRefused readings before after old new) → IfErr r (IsFilesRefused old new)
  files_refused (Ok x) none = tt
  files_refused (Err e) h = one_refused e h

-- a file that can't be opened or asked for
pub unread : (d : Device) (e : RunFault) → e ≡ refusal (Some 0) family.Read 1 → IsFilesRefused d d e
unread d e h = inl (record { fault = Read read.Read; told = h; unprinted = refl })
