use Rattle.std.proofs.Common.{◌∙◌, Some, None, sym, ap, arith}
use Rattle.std.specs.Prelude.{option_and_then}
use Rattle.std.specs.Str.Parse.{ParsesUnsigned, ExplainsUnsignedError, HasUnsignedDigitsIfOk}
use Rattle.clap.specs.Words.{found_of, one_text}
use Rattle.clap.proofs.WalkLemmas.{one_text-rows}
use Rattle.tca_commands.specs.Lines.{number_in}
use Rattle.tca_commands.proofs.NumberLemmas.{kept_outside, kept_within, number_is}
use Rattle.tca_commands.proofs.line.number.Goals as goal

pub returns-in-Some-clause-number : goal.returns-in-Some-clause-number
returns-in-Some-clause-number c =
    let found = found_of c.args.matches.now in
    let id = c.args.id.now in
    let most = c.args.most in
    let same = number_is _ (λ bs r. ParsesUnsigned 32 10 bs r × ExplainsUnsignedError 10 bs r × HasUnsignedDigitsIfOk bs r) (λ t x g. g.0) most c.ranges.most.fits
    (one_text found id) (Some c.in-Some.n) c.in-Some.ensures.none c.in-Some.ensures.value in
    sym (kept_within most c.in-Some.n c.if-n-ge1.true c.if-n-most.true) ∙ same ∙ ap (option_and_then (number_in most)) (one_text-rows found id)

pub returns-in_default-clause-number : goal.returns-in_default-clause-number
returns-in_default-clause-number c =
    let found = found_of c.args.matches.now in
    let id = c.args.id.now in
    let most = c.args.most in
    let same = number_is _ (λ bs r. ParsesUnsigned 32 10 bs r × ExplainsUnsignedError 10 bs r × HasUnsignedDigitsIfOk bs r) (λ t x g. g.0) most c.ranges.most.fits
    (one_text found id) (Some c.in-Some.n) c.in-Some.ensures.none c.in-Some.ensures.value in
    sym (kept_outside most c.in-Some.n (λ p. omega (arith, p.1, c.if-n-most.false))) ∙ same ∙ ap (option_and_then (number_in most)) (one_text-rows found id)

pub returns-in_default-2-clause-number : goal.returns-in_default-2-clause-number
returns-in_default-2-clause-number c =
    let found = found_of c.args.matches.now in
    let id = c.args.id.now in
    let most = c.args.most in
    let same = number_is _ (λ bs r. ParsesUnsigned 32 10 bs r × ExplainsUnsignedError 10 bs r × HasUnsignedDigitsIfOk bs r) (λ t x g. g.0) most c.ranges.most.fits
    (one_text found id) (Some c.in-Some.n) c.in-Some.ensures.none c.in-Some.ensures.value in
    sym (kept_outside most c.in-Some.n (λ p. omega (arith, p.0, c.if-n-ge1.false))) ∙ same ∙ ap (option_and_then (number_in most)) (one_text-rows found id)

pub returns-in_default-3-clause-number : goal.returns-in_default-3-clause-number
returns-in_default-3-clause-number c =
    let found = found_of c.args.matches.now in
    let id = c.args.id.now in
    let same = number_is _ (λ bs r. ParsesUnsigned 32 10 bs r × ExplainsUnsignedError 10 bs r × HasUnsignedDigitsIfOk bs r) (λ t x g. g.0) c.args.most c.ranges.most.fits
    (one_text found id) None c.in_default.ensures.none c.in_default.ensures.value in
    same ∙ ap (option_and_then (number_in c.args.most)) (one_text-rows found id)
