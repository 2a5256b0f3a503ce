-- A refusal before the first write is no refusal of a write.
use Rattle.std.proofs.Common.{◌≡◌, ◌∙◌, ◌⊎◌, ℕ, List, false, refl, ap, inl, inr}
use Rattle.tca_report.specs.declared.input.InputFault.{InputFault}
use Rattle.tca_report.specs.declared.input.InputFault.TheVariants.{Export, Wire, Decode, Memory}
use Rattle.tca_report.specs.input.Inputs.{InputView}
use Rattle.tca_program.specs.declared.fault.RunFault.{RunFault}
use Rattle.tca_program.specs.declared.fault.Family.{Family}
use Rattle.tca_program.specs.declared.fault.Family.TheVariants as family
use Rattle.tca_commands.specs.Replicated.{AreReplicasRefused, IsInputFault, IsLogRefusal, IsReplicatedUnmade, IsExchangeNumber, IsShareRefusal}
use Rattle.tca_commands.proofs.RefusalLaws.{in_run}
use Rattle.tca_program.specs.Unions.{input_refusal, is_family, is_write}

of_run : (f : Family) (n : ℕ) → IsExchangeNumber f n → is_family f family.Write ≡ false
of_run family.Read n h = refl
of_run family.Export n h = refl
of_run family.Wire n h = refl
of_run family.Decode n h = refl
of_run family.Plan n h = refl
of_run family.Spec n h = refl
of_run family.Log n h = refl
of_run family.Share n h = refl
of_run family.Work n h = refl
of_run family.Close n h = refl
of_run family.Absorb n h = refl
of_run family.Statement n h = refl
of_run family.Limits n h = refl
of_run family.Write n h = absurd h
of_run family.Memory n h = refl

of_take : (n : ℕ) (e : RunFault) → IsLogRefusal n e ⊎ IsShareRefusal n e → is_write e ≡ false
of_take n e (inl log) = ap is_write log.1
of_take n e (inr share) = ap is_write share.2

of_input : (n : ℕ) (fault : InputFault) → is_write (input_refusal n fault) ≡ false
of_input n (Export fault) = refl
of_input n (Wire at fault) = refl
of_input n (Decode at fault) = refl
of_input n Memory = refl

at_input : (n : ℕ) (input : InputView) (e : RunFault) → IsInputFault n input e → is_write e ≡ false
at_input n input e (inl own) = ap is_write own.1 ∙ of_input n own.0
at_input n input e (inr untaken) = of_take n e untaken.1

of_replicas : (inputs : List InputView) (e : RunFault) → AreReplicasRefused inputs e → is_write e ≡ false
of_replicas inputs e (inl reading) = let run = in_run e reading in of_run e.family e.number run.1
of_replicas inputs e (inr (inl at)) = at_input at.place at.input e at.why
of_replicas inputs e (inr (inr telling)) = of_run e.family e.number telling.1.1

pub no_write : (plan : List ℕ) (inputs : List InputView) (e : RunFault) → IsReplicatedUnmade plan inputs e → is_write e ≡ false
no_write plan inputs e (inl of_plan) = ap is_write of_plan.2
no_write plan inputs e (inr run) = of_replicas inputs e run.2
