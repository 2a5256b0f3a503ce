-- What the words of a command line ask for, by clap's meaning of the commands.
use Rattle.std.specs.Prelude.{Bool, List, [], ◌∷◌, Option, None, codes, option_and_then, option_map, if◌then◌else◌}
use Rattle.std.specs.Str.{bytes_eq}
use Rattle.clap.specs.Words.{Row, Text, all_of, fault_of, first_of, subcommand_of}
use Rattle.tca_program.specs.Arguments.{is_given, order_met}
use Rattle.tca_program.specs.Words.{texts}
use Rattle.tcatool.specs.Commands.{program}
use Rattle.tcatool.specs.declared.line.Line.{Line}
use Rattle.tcatool.specs.declared.line.Line.TheVariants as line

-- a command line that was read, with texts in the place of references
pub data Order : Type 0 where
  pairs : (inputs : List Text) → Order
  list : (plan : Option Text) → (inputs : List Text) → Order
  diff : (a b : Text) → Order
  table : (statement : Text) → Order
  json : (statement : Text) → Order
  page : (progress : Bool) → (out statement : Text) → Order
  split : (progress : Bool) → (folder capture : Text) → Order
  add : (statements : List Text) → Order

abbrev pub order_of : Line → Order
order_of (line.Pairs inputs) = pairs (texts inputs.items)
order_of (line.List plan inputs) = list (option_map (λ s. s.now) plan) (texts inputs.items)
order_of (line.Diff a b) = diff a.now b.now
order_of (line.Table statement) = table statement.now
order_of (line.Json statement) = json statement.now
order_of (line.Page progress out statement) = page progress out.now statement.now
order_of (line.Split progress folder capture) = split progress folder.now capture.now
order_of (line.Add statements) = add (texts statements.items)

-- the name of a command
abbrev pub command_of : Order → Text
command_of (pairs inputs) = codes "pairs"
command_of (list plan inputs) = codes "list"
command_of (diff a b) = codes "diff"
command_of (table statement) = codes "table"
command_of (json statement) = codes "json"
command_of (page progress out statement) = codes "page"
command_of (split progress folder capture) = codes "split"
command_of (add statements) = codes "add"

-- the words of the files that a refusal may name by their number: inputs, statements or the capture
abbrev pub files_of : Order → List Text
files_of (pairs inputs) = inputs
files_of (list plan inputs) = inputs
files_of (diff a b) = a ∷ b ∷ []
files_of (table statement) = statement ∷ []
files_of (json statement) = statement ∷ []
files_of (page progress out statement) = statement ∷ []
files_of (split progress folder capture) = capture ∷ []
files_of (add statements) = statements

abbrev pub pairs_of : List Row → Option Order
pairs_of rows = option_map (λ inputs. pairs inputs) (all_of (codes "INPUT") rows)

abbrev pub list_of : List Row → Option Order
list_of rows = option_map (λ inputs. list (first_of (codes "plan") rows) inputs) (all_of (codes "INPUT") rows)

abbrev pub diff_of : List Row → Option Order
diff_of rows = option_and_then (λ a. option_map (λ b. diff a b) (first_of (codes "B") rows)) (first_of (codes "A") rows)

abbrev pub table_of : List Row → Option Order
table_of rows = option_map (λ statement. table statement) (first_of (codes "STATEMENT") rows)

abbrev pub json_of : List Row → Option Order
json_of rows = option_map (λ statement. json statement) (first_of (codes "STATEMENT") rows)

abbrev pub page_of : List Row → Option Order
page_of rows = option_and_then (λ out. option_map (λ statement. page (is_given (codes "progress") rows) out statement)
    (first_of (codes "STATEMENT") rows)) (first_of (codes "OUT") rows)

abbrev pub split_of : List Row → Option Order
split_of rows = option_and_then (λ folder. option_map (λ capture. split (is_given (codes "progress") rows) folder capture)
    (first_of (codes "CAPTURE") rows)) (first_of (codes "DIR") rows)

abbrev pub add_of : List Row → Option Order
add_of rows = option_map (λ statements. add statements) (all_of (codes "STATEMENT") rows)

-- the order that the matches give of a command over inputs
abbrev pub order_over_inputs : Text → List Row → Option Order
order_over_inputs name rows =
    if bytes_eq name (codes "pairs") then pairs_of rows
    else (if bytes_eq name (codes "list") then list_of rows
    else (if bytes_eq name (codes "diff") then diff_of rows
    else (if bytes_eq name (codes "split") then split_of rows else None)))

-- the order that a command's matches give
abbrev pub order_from : Text → List Row → Option Order
order_from name rows =
    if bytes_eq name (codes "table") then table_of rows
    else (if bytes_eq name (codes "json") then json_of rows
    else (if bytes_eq name (codes "page") then page_of rows
    else (if bytes_eq name (codes "add") then add_of rows else order_over_inputs name rows)))

-- the order that the words give, the program's own name first
abbrev pub order_in : List Text → Option Order
order_in words = order_met order_from (fault_of program words) (subcommand_of program words)
