-- Which plan a text is, and what a command with a plan and inputs is refused for before it writes.
use Rattle.std.specs.Prelude.{◌≡◌, ◌≢◌, ◌⊎◌, ℕ, false, List, None, Err, IsUtf8}
use Rattle.toml.specs.Parse.{parse_document}
use Rattle.tca_accounts.specs.Plans.{AccountPlan}
use Rattle.tca_accounts.specs.Documents.{IsPlanOf, plan_in}
use Rattle.tca_accounts.specs.Faults.{plan_number}
use Rattle.tca_accounts.specs.declared.fault.PlanFault.{PlanFault}
use Rattle.tca_accounts.specs.declared.fault.PlanFault.TheVariants.{Syntax, Memory}
use Rattle.tca_report.specs.input.Inputs.{InputView}
use Rattle.tca_program.specs.declared.fault.RunFault.{RunFault}
use Rattle.tca_program.specs.declared.fault.Family.TheVariants as family
use Rattle.tca_program.specs.Unions.{IsInTurn, is_family, is_write, refusal, united, wants_memory}

-- a text is refused as a plan with this fault, or memory ran out
abbrev pub RefusesPlan : List ℕ → PlanFault → Type 0
RefusesPlan text f = f ≢ Memory → (IsUtf8 text → plan_in (parse_document text) ≡ Err f) × (¬ IsUtf8 text → f ≡ Syntax)

-- the plan's refusal
abbrev pub IsPlanRefused : List ℕ → RunFault → Type 0
IsPlanRefused plan e = (f : PlanFault) × RefusesPlan plan f × (e ≡ refusal None family.Plan (plan_number f))

-- the refusal that is due: that of the plan, or else the first of the inputs
abbrev pub IsPlannedRefusalDue : List ℕ → List InputView → RunFault → Type 0
IsPlannedRefusalDue plan inputs e = IsPlanRefused plan e ⊎ ((p : AccountPlan) × IsPlanOf plan p × (united inputs ≡ Err e))

-- Why nothing is made of the inputs under the plan: the first refusal that is due, the plan's before those of the inputs in order,
-- also where memory ran out.
pub record IsPlannedRefused (plan : List ℕ) (inputs : List InputView) (e : RunFault) : Type 0 where
  pub due : wants_memory e ≡ false → IsPlannedRefusalDue plan inputs e
  pub plan_first : is_family e.family family.Plan ≡ false → (p : AccountPlan) × IsPlanOf plan p
  pub turn : is_family e.family family.Plan ≡ false → IsInTurn inputs e
  pub no_write : is_write e ≡ false
