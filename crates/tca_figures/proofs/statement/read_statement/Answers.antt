use Rattle.std.proofs.Common.{◌≡◌, ◌++◌, ◌∷◌, ℕ, suc, [], List, refl, sym, ap, ◌∙◌, arith, length, subst, Err, drop, true≢false}
use Rattle.std.proofs.lemmas.List.{append_assoc, length-append, nil_from_length}
use Rattle.std.specs.Prelude.{◌==◌}
use Rattle.std.proofs.lemmas.Bool.{eqb-true}
use Rattle.tca_figures.specs.inside.Progress.{Follow, Follows, IsSound, Progress, unread}
use Rattle.tca_figures.specs.Reading.{parts, whole_lines}
use Rattle.tca_figures.specs.inside.Refusals.{IsRefused, fault_at}
use Rattle.tca_figures.specs.declared.reader.Refusal.TheVariants as refusals
use Rattle.tca_figures.proofs.Beginning.{faults_are_first}
use Rattle.tca_figures.proofs.Cuts.{all_lines, follow_back, follow_cut, follow_on, front_lines}
use Rattle.tca_figures.specs.Lines.{IsTextOf}
use Rattle.tca_figures.proofs.Says.{said}
use Rattle.tca_figures.proofs.Written.{written}
use Rattle.tca_figures.proofs.Sound.{no_wrong_sum, sound_back}
use Rattle.tca_figures.proofs.Told.{nothing_left, only_memory, told, told_early}
use Rattle.tca_figures.proofs.statement.read_statement.Goals.{else-is_empty-via-then-is_empty+else-is_ended, else-is_empty-via-else-is_empty}
use Rattle.tca_figures.proofs.statement.read_statement.Goals as goal

pub loop-line-init : goal.loop-line-init
unfolding Follow
loop-line-init c = ([], refl, refl, omega arith, c.new-reader.ensures, λ q h. h ∙ sym c.new-reader.ensures, subst IsSound (sym c.new-reader.ensures) tt)

pub loop-line-preserved : goal.loop-line-preserved
loop-line-preserved c =
    let i = c.loop-line.invariant in
    let line = c.in-Some.line.now in
    let t = c.in_default-take_octets.ensures in (
      i.0 ++ line ∷ [],
      i.1 ∙ (ap (λ z. i.0 ++ z) c.in-Some.ensures.first ∙ sym (append_assoc i.0 (line ∷ []) (parts c.in-Some.behind.now))),
      omega (arith, i.2, length-append i.0 (line ∷ [])),
      omega (arith, i.3, ap length c.in-Some.ensures.cut, length-append line (10 ∷ c.in-Some.behind.now)),
      follow_on unread i.0 c.loop-line.reader line c.take_octets.new.self i.4 t.taken,
      λ q h. let back = follow_back unread i.0 line q h in sym (t.only q (subst (λ z. Follows z line q) (i.5 back.0 back.1) back.2)),
      t.sound i.6,
    )

pub returns-in-Err-clause-only : goal.returns-in-Err-clause-only
returns-in-Err-clause-only c s is =
    let w = written c.args.octets.now s is in
    let p = w.progress in
    let i = c.loop-line.invariant in
    let line = c.in-Some.line.now in
    let e = c.in-Err.ensures in
    let front = front_lines c.args.octets.now i.0 line c.in-Some.behind.now (i.1 ∙ ap (λ z. i.0 ++ z) c.in-Some.ensures.first) in
    let cut = follow_cut unread (whole_lines c.args.octets.now) p (length i.0) line w.follow front.1 in
    let here = i.5 cut.0 (subst (λ z. Follow unread z cut.0) front.0 cut.2) in
    let follows = subst (λ z. Follows z line cut.1) here cut.3 in
    let next_sound = sound_back cut.1 (drop (suc (length i.0)) (whole_lines c.args.octets.now)) p cut.4 w.sound in
    c.fault_at.ensures ∙ only_memory c.in-Err.refusal c.loop-line.before c.spans.result (e.only cut.1 follows)
    (λ is. no_wrong_sum c.loop-line.reader line cut.1 follows next_sound (e.sum (ap Err is)))

pub returns-in-Err-clause-refused : goal.returns-in-Err-clause-refused
returns-in-Err-clause-refused c =
    let i = c.loop-line.invariant in
    let e = c.in-Err.ensures in
    let one = told c.args.octets.now i.0 c.in-Some.line.now c.in-Some.behind.now c.loop-line.reader c.in-Err.refusal c.spans.result
    (i.1 ∙ ap (λ z. i.0 ++ z) c.in-Some.ensures.first) i.4 i.6 e.only (λ is. e.sum (ap Err is))
    (λ is. c.spans.ensures ∙ ap (λ (z : Progress). length z.account.spans) (e.kept (ap Err is))) (λ is. e.memory (ap Err is)) in
    faults_are_first c.args.octets.now c.fault_at.result (subst (IsRefused c.args.octets.now) (sym c.fault_at.ensures)
    (subst (λ n. IsRefused c.args.octets.now (fault_at c.in-Err.refusal n c.spans.result)) i.2 one))

pub returns-then-is_ended-clause-found : goal.returns-then-is_ended-clause-found
returns-then-is_ended-clause-found c =
    let i = c.loop-line.invariant in
    let last = i.1 ∙ ap (λ z. i.0 ++ z) (c.in_default.ensures.none refl) in
    let whole = all_lines c.args.octets.now i.0 c.loop-line.rest.now last in
    let nothing : c.loop-line.rest.now ≡ [] = nil_from_length c.loop-line.rest.now (eqb-true _ _ (sym c.if-is_empty.ensures)) in
    let cut = last ∙ (ap (λ z. i.0 ++ z ∷ []) nothing ∙ ap (λ z. z ++ [] ∷ []) (sym whole)) in
    subst (IsTextOf c.args.octets.now) (sym c.into_figures.ensures)
    (said c.args.octets.now c.loop-line.reader (subst (λ z. Follow unread z c.loop-line.reader) (sym whole) i.4) (c.if-is_ended.ensures, cut) i.6)

pub returns-then-is_ended-clause-only : goal.returns-then-is_ended-clause-only
returns-then-is_ended-clause-only c s is =
    let w = written c.args.octets.now s is in
    let i = c.loop-line.invariant in
    let last = i.1 ∙ ap (λ z. i.0 ++ z) (c.in_default.ensures.none refl) in
    let whole = all_lines c.args.octets.now i.0 c.loop-line.rest.now last in
    c.into_figures.ensures ∙ (ap (λ (z : Progress). z.stated) (sym (i.5 w.progress (subst (λ z. Follow unread z w.progress) whole w.follow))) ∙ w.stated)

pub returns-else-is_empty-clause-refused : goal.returns-else-is_empty-clause-refused
returns-else-is_empty-clause-refused c =
    let i = c.loop-line.invariant in
    let f = c.fault_at-else-is_empty.ensures in
    let last = i.1 ∙ ap (λ z. i.0 ++ z) (c.in_default.ensures.none refl) in
    let one = told_early c.args.octets.now i.0 c.loop-line.rest.now c.loop-line.reader last i.4 i.6
    (λ ended nothing. elim c.else-is_empty.branch [
      | else-is_empty-via-then-is_empty+else-is_ended w ↦ w.if-is_ended.ensures ended
      | else-is_empty-via-else-is_empty w ↦ true≢false (sym (w.if-is_empty.ensures ∙ ap (λ (z : List ℕ). length z == 0) nothing))
    ]) in
    faults_are_first c.args.octets.now c.fault_at-else-is_empty.result
    (subst (IsRefused c.args.octets.now) (sym f) (subst (λ n. IsRefused c.args.octets.now (fault_at refusals.Line n 0)) i.2 one))

pub returns-else-is_empty-clause-only : goal.returns-else-is_empty-clause-only
returns-else-is_empty-clause-only c s is =
    let w = written c.args.octets.now s is in
    let i = c.loop-line.invariant in
    let last = i.1 ∙ ap (λ z. i.0 ++ z) (c.in_default.ensures.none refl) in
    let whole = all_lines c.args.octets.now i.0 c.loop-line.rest.now last in
    let here = i.5 w.progress (subst (λ z. Follow unread z w.progress) whole w.follow) in
    let nothing = nothing_left c.args.octets.now i.0 c.loop-line.rest.now w.progress last w.whole in
    elim c.else-is_empty.branch [
      | else-is_empty-via-then-is_empty+else-is_ended v ↦ absurd (v.if-is_ended.ensures (ap (λ (z : Progress). z.stage) (sym here) ∙ w.whole.0))
      | else-is_empty-via-else-is_empty v ↦ absurd (true≢false (sym (v.if-is_empty.ensures ∙ ap (λ (z : List ℕ). length z == 0) nothing)))
    ]

pub into_figures-requires : goal.into_figures-requires
into_figures-requires c =
    let i = c.loop-line.invariant in
    let last = i.1 ∙ ap (λ z. i.0 ++ z) (c.in_default.ensures.none refl) in
    let whole = all_lines c.args.octets.now i.0 c.loop-line.rest.now last in
    let nothing : c.loop-line.rest.now ≡ [] = nil_from_length c.loop-line.rest.now (eqb-true _ _ (sym c.if-is_empty.ensures)) in
    let cut = last ∙ (ap (λ z. i.0 ++ z ∷ []) nothing ∙ ap (λ z. z ++ [] ∷ []) (sym whole)) in
    (said c.args.octets.now c.loop-line.reader (subst (λ z. Follow unread z c.loop-line.reader) (sym whole) i.4) (c.if-is_ended.ensures, cut) i.6).in_form
