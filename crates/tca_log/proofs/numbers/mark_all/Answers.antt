use Rattle.std.proofs.Common.{rules, ◌≡◌, ℕ, ◌<◌, List, [], ◌∷◌, ◌++◌, get_or, set, append_assoc, sym, ap, subst, ◌∙◌, arith}
use Rattle.tca_report.specs.report.Reports.{PacketReport}
use Rattle.tca_report.specs.report.Identities.{identity_of}
use Rattle.tca_log.specs.inside.Numbers.{AreMarked, number}
use Rattle.tca_log.specs.inside.Spans.{one_more}
use Rattle.tca_log.proofs.Numbered.{apart_more, apart_none, marked_more, marked_none}
use Rattle.tca_log.proofs.numbers.mark_all.Goals as goal

pub loop-report-init : goal.loop-report-init
loop-report-init g c =
    let bits = c.args.bits in
    let all : c.into_iter-report-iterator.result ≡ c.args.reports.now.rows = search rules in
    record {
      seen = [];
      split = all;
      marked = subst (λ (ms : List ℕ). AreMarked bits [] ms) (sym c.requires.unmarked) (marked_none bits);
      apart = λ e i. subst (λ (ms : List ℕ). get_or ms (number bits i) 0 < 2) (sym c.requires.unmarked) (apart_none bits i);
    }

pub loop-report-preserved-then-mark-gt0 : goal.loop-report-preserved-then-mark-gt0
loop-report-preserved-then-mark-gt0 g c =
    let bits = c.args.bits in
    let r = c.in-Some.report.now in
    let seen = c.loop-report.invariant.seen in
    let marks = c.loop-report.marks in
    let at : c.number_of.result ≡ number bits (identity_of r) = c.number_of.ensures.number ∙ ap (number bits) c.identity.ensures in
    let after = c.mark.ensures.after ∙ ap (λ (p : ℕ). set marks p (one_more (get_or marks p 0))) at in
    record {
      seen = seen ++ r ∷ [];
      split = append_assoc seen (r ∷ []) c.next.new.self ∙ ap (λ (l : List PacketReport). seen ++ l) (sym c.in-Some.ensures.steps) ∙ c.loop-report.invariant.split;
      marked = marked_more bits seen marks c.mark.new.marks r c.loop-report.invariant.marked after;
      apart = λ e. absurd cc;
    }

pub loop-report-preserved : goal.loop-report-preserved
loop-report-preserved g c =
    let bits = c.args.bits in
    let r = c.in-Some.report.now in
    let seen = c.loop-report.invariant.seen in
    let marks = c.loop-report.marks in
    let at : c.number_of.result ≡ number bits (identity_of r) = c.number_of.ensures.number ∙ ap (number bits) c.identity.ensures in
    let after = c.mark.ensures.after ∙ ap (λ (p : ℕ). set marks p (one_more (get_or marks p 0))) at in
    let none : get_or marks (number bits (identity_of r)) 0 ≡ 0 = omega (arith, c.if-mark-gt0.false, c.mark.ensures.before ∙ ap (λ (p : ℕ). get_or marks p 0) at) in
    record {
      seen = seen ++ r ∷ [];
      split = append_assoc seen (r ∷ []) c.next.new.self ∙ ap (λ (l : List PacketReport). seen ++ l) (sym c.in-Some.ensures.steps) ∙ c.loop-report.invariant.split;
      marked = marked_more bits seen marks c.mark.new.marks r c.loop-report.invariant.marked after;
      apart = λ e. apart_more bits seen marks c.mark.new.marks r c.loop-report.invariant.marked after none (c.loop-report.invariant.apart e);
    }
