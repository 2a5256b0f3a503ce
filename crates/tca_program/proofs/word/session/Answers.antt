use Rattle.std.proofs.Common.{◌≡◌, ◌∙◌, Some, None, true, sym, rules}
use Rattle.std.specs.Str.Parse.{digits_value}
use Rattle.tca_program.specs.Words.{is_session}
use Rattle.tca_program.proofs.Splitting.{none_some, number_read}
use Rattle.tca_program.proofs.word.session.Goals as goal

pub returns-in_err-number : goal.returns-in_err-number
returns-in_err-number c =
    let yes : is_session c.args.text.now ≡ true = search rules in
    let some : c.ok.result ≡ Some (digits_value 10 c.args.text.now) = c.ok.ensures.value ∙ number_read c.args.text.now c.parse.result yes c.parse.ensures.value.0 in
    let none : c.ok.result ≡ None = search rules in
    absurd (none_some _ (sym none ∙ some))

pub returns : goal.returns
returns c =
    let yes : is_session c.args.text.now ≡ true = search rules in
    let some = c.ok.ensures.value ∙ number_read c.args.text.now c.parse.result yes c.parse.ensures.value.0 in
    search rules
