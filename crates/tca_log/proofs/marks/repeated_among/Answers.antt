use Rattle.std.proofs.Common.{rules, ◌≡◌, ℕ, Bool, cond, List, [], ◌∷◌, ◌++◌, get_or, set, append_assoc, sym, ap, subst, ◌∙◌, arith}
use Rattle.std.specs.Prelude.{nat_lt}
use Rattle.std.specs.List.{AllByRecursion}
use Rattle.std.proofs.lemmas.Bool.{eq-eqb, ne_eqb}
use Rattle.std.proofs.lemmas.List.{append-nil}
use Rattle.tca_report.specs.report.Reports.{PacketReport}
use Rattle.tca_report.specs.declared.report.Identity.{Identity}
use Rattle.tca_report.specs.report.Identities.{identity_of}
use Rattle.tca_log.specs.inside.Logs.{count_at}
use Rattle.tca_log.specs.inside.Spans.{IsAmong, one_more, slot}
use Rattle.tca_log.proofs.Marked.{marked_more, marked_none}
use Rattle.tca_log.proofs.Slots.{slot_within}
use Rattle.tca_log.proofs.marks.repeated_among.Goals as goal

pub loop-report-init : goal.loop-report-init
loop-report-init g c =
    let all : c.into_iter-report-iterator.result ≡ c.args.reports.now.rows = search rules in
    record { seen = []; split = all; left = rw all c.requires.among; marked = rw (c.new-again.ensures.items, c.requires.unmarked) (marked_none c.args.spans.now) }

pub slot_of-requires-clause-among : goal.slot_of-requires-clause-among
slot_of-requires-clause-among g c =
    let among = subst (AllByRecursion (λ (q : PacketReport). IsAmong c.args.spans.now (identity_of q))) c.in-Some.ensures.steps c.loop-report.invariant.left in
    subst (IsAmong c.args.spans.now) (sym c.identity-identity.ensures) among.0

pub mark-requires : goal.mark-requires
mark-requires g c =
    let among = subst (AllByRecursion (λ (q : PacketReport). IsAmong c.args.spans.now (identity_of q))) c.in-Some.ensures.steps c.loop-report.invariant.left in
    let number = slot_within c.args.spans.now (identity_of c.in-Some.report.now) among.0 in
    let is = ap (slot c.args.spans.now) c.identity-identity.ensures in
    omega (arith, number, is, c.slot_of.ensures, c.loop-report.invariant.marked.size)

pub loop-report-preserved-in-Continue-1 : goal.loop-report-preserved-in-Continue-1
loop-report-preserved-in-Continue-1 g c =
    let r = c.in-Some.report.now in
    let spans = c.args.spans.now in
    let seen = c.loop-report.invariant.seen in
    let marks = c.loop-report.marks in
    let again = c.loop-report.again.items in
    let among = subst (AllByRecursion (λ (q : PacketReport). IsAmong spans (identity_of q))) c.in-Some.ensures.steps c.loop-report.invariant.left in
    let at : c.identity-identity.result ≡ identity_of r = c.identity-identity.ensures in
    let number : c.slot_of.result ≡ slot spans (identity_of r) = c.slot_of.ensures ∙ ap (slot spans) at in
    let was : get_or marks (slot spans (identity_of r)) 0 ≡ 1 = sym (ap (λ (p : ℕ). get_or marks p 0) number) ∙ sym c.mark.ensures.before ∙ c.if-mark-eq1.true in
    record {
      seen = seen ++ r ∷ [];
      split = append_assoc seen (r ∷ []) c.next.new.self ∙ ap (λ (l : List PacketReport). seen ++ l) (sym c.in-Some.ensures.steps) ∙ c.loop-report.invariant.split;
      left = among.1;
      marked = marked_more spans seen marks c.mark.new.marks again c.push.new.self.items r c.loop-report.invariant.marked among.0
          (c.mark.ensures.after ∙ ap (λ (p : ℕ). set marks p (one_more (get_or marks p 0))) number)
          (c.in_ok-push.ensures.items ∙ ap (λ (i : Identity). again ++ i ∷ []) at ∙ sym (ap (λ (b : Bool). cond b (again ++ identity_of r ∷ []) again) (eq-eqb (get_or marks (slot spans (identity_of r)) 0) 1 was)));
    }

pub loop-report-preserved : goal.loop-report-preserved
loop-report-preserved g c =
    let r = c.in-Some.report.now in
    let spans = c.args.spans.now in
    let seen = c.loop-report.invariant.seen in
    let marks = c.loop-report.marks in
    let again = c.loop-report.again.items in
    let among = subst (AllByRecursion (λ (q : PacketReport). IsAmong spans (identity_of q))) c.in-Some.ensures.steps c.loop-report.invariant.left in
    let at : c.identity-identity.result ≡ identity_of r = c.identity-identity.ensures in
    let number : c.slot_of.result ≡ slot spans (identity_of r) = c.slot_of.ensures ∙ ap (slot spans) at in
    record {
      seen = seen ++ r ∷ [];
      split = append_assoc seen (r ∷ []) c.next.new.self ∙ ap (λ (l : List PacketReport). seen ++ l) (sym c.in-Some.ensures.steps) ∙ c.loop-report.invariant.split;
      left = among.1;
      marked = marked_more spans seen marks c.mark.new.marks again again r c.loop-report.invariant.marked among.0
          (c.mark.ensures.after ∙ ap (λ (p : ℕ). set marks p (one_more (get_or marks p 0))) number)
          (sym (ap (λ (b : Bool). cond b (again ++ identity_of r ∷ []) again) (ne_eqb (get_or marks (slot spans (identity_of r)) 0) 1 (λ e. c.if-mark-eq1.false (c.mark.ensures.before ∙ ap (λ (p : ℕ). get_or marks p 0) number ∙ e)))));
    }

pub returns : goal.returns
returns g c i =
    let seen = c.loop-report.invariant.seen in
    let all : seen ≡ c.args.reports.now.rows = sym (append-nil seen) ∙ ap (λ (l : List PacketReport). seen ++ l) (sym c.in-None.ensures.steps.0) ∙ c.loop-report.invariant.split in
    c.loop-report.invariant.marked.twice i ∙ ap (λ (l : List PacketReport). nat_lt 1 (count_at l i)) all
