-- What the words of a command line ask for, by clap's meaning of the commands.
use Rattle.std.specs.Prelude.{ℕ, List, [], ◌∷◌, ◌&&◌, Option, Some, None, codes, length, nat_le, option_and_then, option_map, if◌then◌else◌}
use Rattle.std.specs.Str.{bytes_eq}
use Rattle.std.specs.Str.Parse.{digits_value, without_leading_plus}
use Rattle.clap.specs.Words.{Row, Text, all_of, fault_of, first_of, one_of, subcommand_of}
use Rattle.clap.specs.ValueTests.{is_unsigned_in}
use Rattle.tca_program.specs.Arguments.{order_met}
use Rattle.tca_program.specs.Words.{texts}
use Rattle.tca_commands.specs.Commands.{most_billed, most_replicas, most_workers, program}
use Rattle.tca_commands.specs.Replicated.{IsWithinLimits}
use Rattle.tca_commands.specs.declared.line.Line.{Line}
use Rattle.tca_commands.specs.declared.line.Line.TheVariants as line

-- a command line that was read, with texts in the place of references
pub data Order : Type 0 where
  meter : (spec : Text) → (inputs : List Text) → Order
  combine : (out : Text) → (inputs : List Text) → Order
  bill : (replicas workers : ℕ) → (export : Option Text) → (plan : Text) → (inputs : List Text) → Order
  audit : (plan export statement : Text) → Order

abbrev pub order_of : Line → Order
order_of (line.Meter spec inputs) = meter spec.now (texts inputs.items)
order_of (line.Combine out inputs) = combine out.now (texts inputs.items)
order_of (line.Bill replicas workers export plan inputs) =
    bill replicas workers (option_map (λ s. s.now) export) plan.now (texts inputs.items)
order_of (line.Audit plan export statement) = audit plan.now export.now statement.now

-- the name of a command
abbrev pub command_of : Order → Text
command_of (meter spec inputs) = codes "meter"
command_of (combine out inputs) = codes "combine"
command_of (bill replicas workers export plan inputs) = codes "bill"
command_of (audit plan export statement) = codes "audit"

-- the words of a command's inputs
abbrev pub inputs_of : Order → List Text
inputs_of (meter spec inputs) = inputs
inputs_of (combine out inputs) = inputs
inputs_of (bill replicas workers export plan inputs) = inputs
inputs_of (audit plan export statement) = []

-- the words of the files that a refusal of a read may name by their number: the inputs, or an audit's export and statement
abbrev pub files_of : Order → List Text
files_of (meter spec inputs) = inputs
files_of (combine out inputs) = inputs
files_of (bill replicas workers export plan inputs) = inputs
files_of (audit plan export statement) = export ∷ statement ∷ []

abbrev pub meter_of : List Row → Option Order
meter_of rows = option_and_then (λ spec. option_map (λ inputs. meter spec inputs)
    (all_of (codes "INPUT") rows)) (first_of (codes "SPEC") rows)

abbrev pub combine_of : List Row → Option Order
combine_of rows = option_and_then (λ out. option_map (λ inputs. combine out inputs)
    (all_of (codes "INPUT") rows)) (first_of (codes "OUT") rows)

-- the number from 1 to `most` that a text writes
abbrev pub number_in : ℕ → Text → Option ℕ
number_in most text =
    if is_unsigned_in 1 most text then Some (digits_value 10 (without_leading_plus text)) else None

abbrev pub number_at : ℕ → Text → List Row → Option ℕ
number_at most id rows = option_and_then (number_in most) (one_of id rows)

-- the inputs of a bill, where there are neither too few nor too many
abbrev pub billed : List Text → Option (List Text)
billed inputs = if nat_le 1 (length inputs) && nat_le (length inputs) most_billed then Some inputs else None

abbrev pub bill_of : List Row → Option Order
bill_of rows = option_and_then (λ replicas. option_and_then (λ workers. option_and_then (λ plan.
    option_map (λ inputs. bill replicas workers (first_of (codes "export") rows) plan inputs)
    (option_and_then billed (all_of (codes "INPUT") rows))) (first_of (codes "PLAN") rows))
    (number_at most_workers (codes "workers") rows)) (number_at most_replicas (codes "replicas") rows)

abbrev pub audit_of : List Row → Option Order
audit_of rows = option_and_then (λ plan. option_and_then (λ export. option_map (λ statement. audit plan export statement)
    (first_of (codes "STATEMENT") rows)) (first_of (codes "EXPORT") rows)) (first_of (codes "PLAN") rows)

-- the order that a command's matches give
abbrev pub order_from : Text → List Row → Option Order
order_from name rows =
    if bytes_eq name (codes "meter") then meter_of rows
    else (if bytes_eq name (codes "combine") then combine_of rows
    else (if bytes_eq name (codes "bill") then bill_of rows
    else (if bytes_eq name (codes "audit") then audit_of rows else None)))

-- the order that the words give, the program's own name first
abbrev pub order_in : List Text → Option Order
order_in words = order_met order_from (fault_of program words) (subcommand_of program words)

-- the replicas, workers and inputs of a bill are within their limits
abbrev pub IsWithin : Order → Type 0
IsWithin (bill replicas workers export plan inputs) = IsWithinLimits replicas workers (length inputs)
IsWithin other = Unit {0}
