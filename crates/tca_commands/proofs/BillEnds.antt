-- How a bill ends once it was prepared.
use Rattle.std.proofs.Common.{◌≡◌, ℕ, List, Option, Result, Ok, Err, IfErr, false, sym, subst}
use Rattle.std.specs.Global.{Vec}
use Rattle.std.specs.Prelude.{IfOk}
use Rattle.tca_report.specs.export.Spelling.{export}
use Rattle.tca_report.specs.input.Inputs.{InputView}
use Rattle.tca_report.specs.declared.input.Notes.{Notes}
use Rattle.tca_accounts.specs.Plans.{AccountPlan}
use Rattle.tca_program.specs.Devices.{Device}
use Rattle.tca_program.specs.Noted.{AreNotes, IsUniting}
use Rattle.tca_program.specs.Outcomes.{AreCutOff, IsCommandRefused, Outlets, ReceiveBoth, outlets}
use Rattle.tca_program.specs.Planned.{IsPlannedRefused}
use Rattle.tca_program.specs.Unions.{IsUnion, is_write, united}
use Rattle.tca_program.specs.declared.fault.RunFault.{RunFault}
use Rattle.tca_program.proofs.Refusing.{refused_as}
use Rattle.tca_commands.specs.Billed.{IsBillCutOff, IsBillDone, IsPlainCutOff}
use Rattle.tca_commands.specs.declared.bill.Prepared.{Prepared}
use Rattle.tca_commands.specs.inside.Outputs.{IsPut, IsPutInPart, IsUnput}
use Rattle.tca_statements.specs.Statements.{statement_under}
use Rattle.tca_accounts.specs.Documents.{IsPlanOf}

-- what was prepared is the statement of its reports under the plan of a text
abbrev pub IsStated : List ℕ → Prepared → Type 0
IsStated plan m = (p : AccountPlan) × IsPlanOf plan p × (m.statement ≡ statement_under p m.reports.items)

-- what inputs that were united are, by what was prepared of them
module _ (inputs : List InputView) where
  pub union_in : (made : Result Prepared RunFault) → IfOk made (λ (m : Prepared). IsUniting inputs m.reports.items m.notes.items) → IfOk made (λ (m : Prepared). IsUnion inputs m.reports.items)
  union_in (Ok m) h = h.union
  union_in (Err e) h = tt

  pub taken_in : (made : Result Prepared RunFault) → IfOk made (λ (m : Prepared). IsUniting inputs m.reports.items m.notes.items) → IfOk made (λ (m : Prepared). united inputs ≡ Ok m.reports.items)
  taken_in (Ok m) h = h.taken
  taken_in (Err e) h = tt

  pub noted_in : (made : Result Prepared RunFault) → IfOk made (λ (m : Prepared). IsUniting inputs m.reports.items m.notes.items) → IfOk made (λ (m : Prepared). AreNotes inputs m.notes.items)
  noted_in (Ok m) h = h.noted
  noted_in (Err e) h = tt

  pub unwritten_in : (plan : List ℕ) (made : Result Prepared RunFault) → IfErr made (IsPlannedRefused plan inputs) → IfErr made (λ e. is_write e ≡ false)
  unwritten_in plan (Ok m) h = tt
  unwritten_in plan (Err e) h = h.no_write

module _ (plan : List ℕ) (inputs : List InputView) (made : Result Prepared RunFault)
    (stated : IfOk made (IsStated plan)) (union : IfOk made (λ (m : Prepared). IsUnion inputs m.reports.items)) where
  pub bill_done : IfOk made (λ (m : Prepared). AreNotes inputs m.notes.items) → (old_export new_export : Option Device) (old new : Device)
      → (r : Result (Vec Notes) RunFault) → IfOk r (λ (notes : Vec Notes). IsPut made (outlets old_export old) (outlets new_export new) notes.items)
      → IfOk r (λ (notes : Vec Notes). IsBillDone plan inputs old_export new_export old new notes.items)
  bill_done noted old_export new_export old new (Err e) none = tt
  bill_done noted old_export new_export old new (Ok notes) put =
      let s : IsStated plan put.prepared = subst (λ (r : Result Prepared RunFault). IfOk r (IsStated plan)) put.is stated in
      let n : AreNotes inputs put.prepared.notes.items = subst (λ (r : Result Prepared RunFault). IfOk r (λ (m : Prepared). AreNotes inputs m.notes.items)) put.is noted in
      record {
        under = s.0;
        named = s.1;
        reports = put.prepared.reports.items;
        union = subst (λ (r : Result Prepared RunFault). IfOk r (λ (m : Prepared). IsUnion inputs m.reports.items)) put.is union;
        written = subst (λ (text : List ℕ). ReceiveBoth (export put.prepared.reports.items) text (outlets old_export old) (outlets new_export new)) s.2 put.written;
        noted = subst (AreNotes inputs) (sym put.noted) n;
      }

  pub bill_cut_off : (old new : Outlets) → IsPutInPart made old new → IsBillCutOff plan inputs old new
  bill_cut_off old new put =
      let s : IsStated plan put.prepared = subst (λ (r : Result Prepared RunFault). IfOk r (IsStated plan)) put.is stated in
      record {
        under = s.0;
        named = s.1;
        reports = put.prepared.reports.items;
        union = subst (λ (r : Result Prepared RunFault). IfOk r (λ (m : Prepared). IsUnion inputs m.reports.items)) put.is union;
        part = subst (λ (text : List ℕ). AreCutOff (export put.prepared.reports.items) text old new) s.2 put.part;
      }

  pub plain_cut_off : IfOk made (λ (m : Prepared). united inputs ≡ Ok m.reports.items) → (old new : Outlets) → IsPutInPart made old new → IsPlainCutOff plan inputs old new
  unfolding bill_cut_off
  plain_cut_off taken old new put = (bill_cut_off old new put, subst (λ (r : Result Prepared RunFault). IfOk r (λ (m : Prepared). united inputs ≡ Ok m.reports.items)) put.is taken)

-- the refusal of what was to be prepared, or of a write
module _ (made : Result Prepared RunFault) (Unmade : RunFault → Type 0) (InPart : Outlets → Outlets → Type 0) (unmade : IfErr made Unmade) where
  pub bill_refused : ((old new : Outlets) → IsPutInPart made old new → InPart old new) → (old new : Outlets)
      → (r : Result (Vec Notes) RunFault) → IfErr r (IsUnput made old new) → IfErr r (IsCommandRefused Unmade InPart old new)
  bill_refused part old new (Ok notes) none = tt
  bill_refused part old new (Err e) h =
      refused_as (λ f. made ≡ Err f) Unmade (IsPutInPart made) InPart old new (λ f is. subst (λ (r : Result Prepared RunFault). IfErr r Unmade) is unmade) (part old new) e h
