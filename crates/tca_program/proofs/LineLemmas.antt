-- From a parse to the order that the words give.
use Rattle.std.proofs.Common.{◌≡◌, List, [], ◌∷◌, Option, Some, None, option_map, ap, ap₂, refl, inl, inr}
use Rattle.std.specs.Prelude.{unwrap_or}
use Rattle.clap.specs.Words.{HasKind, Kinds, Row, Text, kind_of, subcommand_name_of, subcommand_rows_of}
use Rattle.clap.specs.Matches.{found_of as matches_found}
use Rattle.clap.specs.declared.error.Error.{Error}
use Rattle.clap.specs.declared.error.kind.ErrorKind.TheVariants.{OutOfMemory}
use Rattle.clap.specs.declared.parser.matches.ArgMatches.{ArgMatches}
use Rattle.clap.specs.declared.parser.matches.ArgMatches.TheViews.{out-ArgMatches, out-SubCommand}
use Rattle.clap.specs.Walk.{rows_of}
use Rattle.std.specs.Box.{box_value}
use Rattle.tca_program.specs.Arguments.{order_met}

-- a parse that failed for another cause than memory had a fault to find
pub none_met : {O : Type 0} (order_from : Text → List Row → Option O) (kinds : Kinds) (e : Error) (met : Option (Text × List Row)) → HasKind kinds e → (kind_of e ≡ OutOfMemory → ⊥) → order_met order_from kinds met ≡ None
none_met order_from [] e met has other = elim has [ inl h ↦ absurd (other h) | inr h ↦ absurd h ]
none_met order_from (k ∷ ks) e met has other = refl

pub order_here : {O : Type 0} (order_from : Text → List Row → Option O) (kinds : Kinds) (met : Option (Text × List Row)) (name : Text) (rows : List Row) → kinds ≡ [] → met ≡ Some (name, rows)
    → order_met order_from kinds met ≡ order_from name rows
order_here order_from kinds met name rows e f = ap₂ (order_met order_from) e f

-- what a subcommand gives: its name, and the rows of its matches
abbrev seen : {X : Type 0} → (X → Text) → (X → List Row) → X → Text × List Row
seen f g x = (f x, g x)

abbrev second : Text × List Row → List Row
second p = p.1

both_met : {X : Type 0} (f : X → Text) (g : X → List Row) (o : Option X) (name : Text) (rows : List Row) → Some name ≡ option_map f o
    → Some rows ≡ option_map second (option_map (seen f g) o) → option_map (seen f g) o ≡ Some (name, rows)
both_met f g None name rows a b = cc
both_met f g (Some x) name rows a b =
    let named : name ≡ f x = ap (λ o. unwrap_or o name) a in
    let listed : rows ≡ g x = ap (λ o. unwrap_or o rows) b in
    rw (named, listed) refl

-- the subcommand that was met, by its name and its matches
pub met_is : (m : ArgMatches) (name : Text) (rows : List Row) → Some name ≡ subcommand_name_of m → Some rows ≡ option_map second (subcommand_rows_of m)
    → subcommand_rows_of m ≡ Some (name, rows)
met_is m name rows a b = both_met (λ b. (out-SubCommand (box_value b)).name.now) (λ b. rows_of (matches_found (out-SubCommand (box_value b)).matches)) (out-ArgMatches m).subcommand name rows a b
