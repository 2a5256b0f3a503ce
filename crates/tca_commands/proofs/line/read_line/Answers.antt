use Rattle.std.proofs.Common.{◌≡◌, ◌∙◌, [], ap, map, option_map, refl, sym, true}
use Rattle.clap.specs.Words.{App, fault_of, found_of, is_simple, is_simple_and_free, rows_of, subcommand_of, subcommand_rows_of}
use Rattle.tca_commands.specs.Commands.{program}
use Rattle.tca_commands.specs.Lines.{order_from, order_of}
use Rattle.tca_program.specs.Arguments.{order_met}
use Rattle.tca_program.proofs.LineLemmas.{met_is, none_met, order_here}
use Rattle.tca_commands.proofs.line.read_line.Goals as goal

is_plain : is_simple_and_free program ≡ true
is_plain = refl

has_order : is_simple program ≡ true
has_order = refl

pub returns-in-Err-try_get_matches_from-clause-refused :
    goal.returns-in-Err-try_get_matches_from-clause-refused
returns-in-Err-try_get_matches_from-clause-refused c = λ other.
    let error = c.in-Err-try_get_matches_from.error in
    let kinds = c.in-Err-try_get_matches_from.ensures.kinds (ap is_simple_and_free c.in-Ok.ensures ∙ is_plain) in
    let words = map (λ s. s.now) c.args.words.now in
    ap (λ (a : App). order_met order_from (fault_of a words) (subcommand_of program words)) (sym c.in-Ok.ensures) ∙ none_met order_from _ error _ kinds (λ e. other (c.of.ensures.memory e))

pub returns-in-Ok-Some-clause-ok : goal.returns-in-Ok-Some-clause-ok
returns-in-Ok-Some-clause-ok c =
    let words = map (λ s. s.now) c.args.words.now in
    let m = c.in-Ok-try_get_matches_from.matches in
    let parse = c.in-Ok-try_get_matches_from.ensures in
    let no_fault : fault_of program words ≡ [] = ap (λ (a : App). fault_of a words) (sym c.in-Ok.ensures) ∙ parse.kinds (ap is_simple_and_free c.in-Ok.ensures ∙ is_plain) in
    let met : subcommand_of program words ≡ subcommand_rows_of m =
    ap (λ (a : App). subcommand_of a words) (sym c.in-Ok.ensures) ∙ sym (parse.matches (ap is_simple c.in-Ok.ensures ∙ has_order)).1 in
    let rows = rows_of (found_of c.in-Some.inner.now) in
    let is = met_is m c.in-Some.name.now rows c.in-Some.ensures.name c.in-Some.ensures.rows in
    order_here order_from _ _ c.in-Some.name.now rows no_fault (met ∙ is) ∙ sym c.in-Ok-Some.ensures.line ∙ ap (option_map order_of) c.in-Ok-Some.field-0-is

pub returns-in-Ok-None-clause-refused : goal.returns-in-Ok-None-clause-refused
returns-in-Ok-None-clause-refused c = λ other.
    let words = map (λ s. s.now) c.args.words.now in
    let m = c.in-Ok-try_get_matches_from.matches in
    let parse = c.in-Ok-try_get_matches_from.ensures in
    let no_fault : fault_of program words ≡ [] = ap (λ (a : App). fault_of a words) (sym c.in-Ok.ensures) ∙ parse.kinds (ap is_simple_and_free c.in-Ok.ensures ∙ is_plain) in
    let met : subcommand_of program words ≡ subcommand_rows_of m =
    ap (λ (a : App). subcommand_of a words) (sym c.in-Ok.ensures) ∙ sym (parse.matches (ap is_simple c.in-Ok.ensures ∙ has_order)).1 in
    let rows = rows_of (found_of c.in-Some.inner.now) in
    let is = met_is m c.in-Some.name.now rows c.in-Some.ensures.name c.in-Some.ensures.rows in
    order_here order_from _ _ c.in-Some.name.now rows no_fault (met ∙ is) ∙ sym c.in-Ok-None.ensures.line ∙ ap (option_map order_of) c.in-Ok-None.field-0-is
