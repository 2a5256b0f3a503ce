use Rattle.std.proofs.lemmas.Grind.{common_steps}
use Rattle.std.proofs.Common.{◌≡◌, ◌∙◌, ◌+◌, ◌%◌, ◌==◌, true, false, List, [], ◌∷◌, ◌++◌, map, drop, ap, sym, rules, arith}
use Rattle.std.specs.Borrow.{Bor}
use Rattle.std.proofs.Math.ListN.{drop_of_length-le}
use Rattle.std.proofs.lemmas.List.{append-nil, map-append}
use Rattle.tca_report.specs.input.Inputs.{InputView, input_view}
use Rattle.tca_report.specs.declared.input.Input.{Input}
use Rattle.tca_program.specs.Unions.{views_of}
use Rattle.tca_commands.proofs.ShareLaws.{share_ends, share_is, share_skips, share_takes}
use Rattle.tca_program.proofs.Uniting.{cut}
use Rattle.tca_commands.proofs.replicas.share_of.Goals.{then-n-divisor+in_ok-push, else-n-divisor}
use Rattle.tca_commands.proofs.replicas.share_of.Goals as goal

pub loop-n-preserved : goal.loop-n-preserved
loop-n-preserved c =
    let l = c.loop-n in
    let input = c.index-inputs-n.result in
    let rest = views_of (drop (l.n + 1) c.args.inputs.now) in
    let here = cut input_view c.args.inputs.now l.n input c.loop-n-test.true c.index-inputs-n.is in
    let so_far : List InputView = map (λ (s : Bor Input). input_view s.now) l.share.items in
    let within = l.invariant.within in
    elim c.if-n-divisor.branch [
      | then-n-divisor+in_ok-push w ↦
          let chosen : (l.n % c.args.divisor == c.args.remainder) ≡ true = search rules in
          let more : map (λ (s : Bor Input). input_view s.now) c.if-n-divisor.share.items ≡ so_far ++ input_view input ∷ [] =
          ap (λ (v : _). map (λ (s : Bor Input). input_view s.now) v.items) w.share-is ∙ ap (map (λ (s : Bor Input). input_view s.now)) w.in_ok-push.ensures.items
          ∙ map-append (λ (s : Bor Input). input_view s.now) l.share.items (_ ∷ []) in
          record { within = search (arith, rules); whole = rw more (share_takes l.n c.args.remainder c.args.divisor so_far (input_view input) rest chosen ∙ (rw here at l.invariant.whole)) }
      | else-n-divisor w ↦
          let skipped : (l.n % c.args.divisor == c.args.remainder) ≡ false = search rules in
          let same : c.if-n-divisor.share ≡ l.share = search rules in
          record { within = search (arith, rules); whole = rw same (share_skips l.n c.args.remainder c.args.divisor so_far (input_view input) rest skipped ∙ (rw here at l.invariant.whole)) }
    ]

pub returns-clause-share : goal.returns-clause-share
returns-clause-share c =
    let l = c.loop-n in
    let so_far : List InputView = map (λ (s : Bor Input). input_view s.now) l.share.items in
    sym (append-nil so_far)
    ∙ ap (λ (r : List InputView). so_far ++ r) (sym (share_ends l.n c.args.remainder c.args.divisor))
    ∙ (rw (drop_of_length-le c.args.inputs.now c.loop-n-test.false) at l.invariant.whole)
    ∙ share_is c.args.remainder c.args.divisor (views_of c.args.inputs.now)

pub loop-n-init : goal.loop-n-init
loop-n-init c = grind (arith, common_steps)

pub offset_bounds-inputs-n : goal.offset_bounds-inputs-n
offset_bounds-inputs-n c = grind (arith, common_steps)

pub bounds-inputs-n : goal.bounds-inputs-n
bounds-inputs-n c = grind (arith, common_steps)

pub nonzero_rem-n : goal.nonzero_rem-n
nonzero_rem-n c = grind (arith, common_steps)

pub returns-in_err-push-clause-share : goal.returns-in_err-push-clause-share
returns-in_err-push-clause-share c = grind (arith, common_steps)

pub returns-in_err-push-clause-within : goal.returns-in_err-push-clause-within
returns-in_err-push-clause-within c = grind (arith, common_steps)

pub returns-clause-within : goal.returns-clause-within
returns-clause-within c = grind (arith, common_steps)
