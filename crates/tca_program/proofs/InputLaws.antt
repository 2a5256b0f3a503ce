-- What an input holds, as it is added to a set.
use Rattle.std.proofs.Common.{◌≡◌, ◌≢◌, ◌∙◌, ℕ, true, false, List, Result, Ok, Err, inl, inr, refl, sym, ap}
use Rattle.tca_report.specs.report.Reports.{PacketReport}
use Rattle.tca_report.specs.input.Inputs.{CaptureSoFar, InputView, read_input}
use Rattle.tca_report.specs.input.Wants.{WantsMemory}
use Rattle.tca_report.specs.input.Gathered.{notes_of, gathered_of, reports_and_notes}
use Rattle.tca_report.specs.declared.input.Notes.{Notes}
use Rattle.tca_report.specs.declared.input.InputFault.{InputFault}
use Rattle.tca_report.specs.declared.input.InputFault.TheVariants.{Export, Wire, Decode, Memory}
use Rattle.tca_program.specs.declared.fault.RunFault.{RunFault}
use Rattle.tca_program.specs.Unions.{IsRefusedAs, MayLackMemory, input_refusal, is_memory, wants_memory, with_input}

-- reports and notes are those of a capture that was read
pub gathered_ok : (r : Result CaptureSoFar InputFault) (x : List PacketReport × Notes) → gathered_of r ≡ Ok x → (h : CaptureSoFar) × (r ≡ Ok h) × (x.0 ≡ h.reports) × (x.1 ≡ notes_of h)
gathered_ok (Ok h) x e =
    let same : reports_and_notes h ≡ x = cc in
    (h, refl, sym (ap (λ (p : List PacketReport × Notes). p.0) same), sym (ap (λ (p : List PacketReport × Notes). p.1) same))
gathered_ok (Err f) x e = absurd cc

pub gathered_err : (r : Result CaptureSoFar InputFault) (fault : InputFault) → gathered_of r ≡ Err fault → r ≡ Err fault
gathered_err (Ok h) fault e = absurd cc
gathered_err (Err f) fault e = let same : f ≡ fault = cc in ap (λ (x : InputFault). Err x) same

-- the refusal of an input where its fault was given
pub refused_as : (n : ℕ) (held : List PacketReport) (r : Result CaptureSoFar InputFault) (fault : InputFault) (e : RunFault) → e ≡ input_refusal n fault
    → (fault ≢ Memory → gathered_of r ≡ Err fault) → IsRefusedAs e (with_input n held r)
refused_as n held r fault e is given = λ none.
    let other : fault ≢ Memory = λ m.
    let short : true ≡ false = sym (ap (λ (x : RunFault). wants_memory x) (is ∙ ap (input_refusal n) m)) ∙ none in
    absurd cc in
    ap (with_input n held) (gathered_err r fault (given other)) ∙ ap (λ (x : RunFault). Err x) (sym is)

-- only want of memory is refused as such
memory_alone : (n : ℕ) (fault : InputFault) → is_memory (input_refusal n fault) ≡ true → fault ≡ Memory
memory_alone n (Export fault) e = absurd cc
memory_alone n (Wire at fault) e = absurd cc
memory_alone n (Decode at fault) e = absurd cc
memory_alone n Memory e = refl

-- want of memory of an input is that of gathering it, which comes where all before is right
pub memory_of_gather : (n : ℕ) (input : InputView) (fault : InputFault) (e : RunFault) → e ≡ input_refusal n fault → (fault ≡ Memory → WantsMemory input) → is_memory e ≡ true → MayLackMemory input
memory_of_gather n input fault e is wanted short = inl (wanted (memory_alone n fault (sym (ap is_memory is) ∙ short)))

-- nothing is wrong with an input that was read
pub may_lack_if_read : (input : InputView) (h : CaptureSoFar) → read_input input ≡ Ok h → MayLackMemory input
may_lack_if_read input h read = inr (rw read refl)
