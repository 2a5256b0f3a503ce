-- Refusals of commands: one of a write that failed, and one with weaker reasons and weaker parts.
use Rattle.std.proofs.Common.{◌≡◌, ◌∙◌, ap, sym, true≢false}
use Rattle.tca_program.specs.declared.fault.RunFault.{RunFault}
use Rattle.tca_program.specs.Outcomes.{IsCommandRefused}
use Rattle.tca_program.specs.Unions.{is_write, write_refusal}

-- a write failed
pub cut_off : {D : Type 0} (Unmade : RunFault → Type 0) (InPart : D → D → Type 0) (old new : D) (e : RunFault) → e ≡ write_refusal → InPart old new
    → IsCommandRefused Unmade InPart old new e
cut_off Unmade InPart old new e is part = record {
  unmade = λ no. absurd (true≢false (sym (ap is_write is) ∙ no));
  untouched = λ no. absurd (true≢false (sym (ap is_write is) ∙ no));
  fault = λ write. is;
  in_part = λ write. part;
}

-- each reason is another one, and each part another one
pub refused_as : {D : Type 0} (Unmade Other : RunFault → Type 0) (InPart Part : D → D → Type 0) (old new : D) → ((e : RunFault) → Unmade e → Other e)
    → (InPart old new → Part old new) → (e : RunFault) → IsCommandRefused Unmade InPart old new e → IsCommandRefused Other Part old new e
refused_as Unmade Other InPart Part old new due part e h = record {
  unmade = λ no. due e (h.unmade no);
  untouched = h.untouched;
  fault = h.fault;
  in_part = λ write. part (h.in_part write);
}
