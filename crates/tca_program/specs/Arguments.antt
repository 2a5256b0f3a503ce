-- The arguments of commands as clap sees them, and what a parse of them asks for.
use Rattle.std.specs.Prelude.{ℕ, Bool, List, [], ◌∷◌, Option, Some, None, true, false, codes, option_and_then}
use Rattle.std.specs.Str.{bytes_eq}
use Rattle.clap.specs.Words.{Kinds, Row, Rule, Text, first_of, new_rule}
use Rattle.clap.specs.declared.builder.action.ArgAction.TheVariants.{SetTrue}

-- a word that has to be given once
abbrev pub one_word : Text → Rule
one_word id = record (new_rule id) { required = true }

-- a word that has to be given, from once to `most` times
abbrev pub many_words : Text → ℕ → Rule
many_words id most = record (new_rule id) {
  required = true;
  range = Some (record { start_inclusive = 1; end_inclusive = most });
}

-- `--id WORD`, which may be left out; help has a name of its own for the word
abbrev pub option_word : Text → Rule
option_word id = record (new_rule id) { long = Some id; value_names = 1 }

-- `--id`, which may be left out and takes no word
abbrev pub flag : Text → Rule
flag id = record (new_rule id) { long = Some id; action = Some SetTrue }

-- whether the text of a flag says that it was given
abbrev pub says_given : Option Text → Bool
says_given None = false
says_given (Some text) = bytes_eq text (codes "true")

-- whether a flag was given
abbrev pub is_given : Text → List Row → Bool
is_given id rows = says_given (first_of id rows)

-- what a command's name and the rows of its matches ask for; none where clap has a fault to find
abbrev pub order_met : {O : Type 0} → (Text → List Row → Option O) → Kinds → Option (Text × List Row) → Option O
order_met order_from [] met = option_and_then (λ p. order_from p.0 p.1) met
order_met order_from (k ∷ ks) met = None
