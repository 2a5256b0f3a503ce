use Rattle.std.proofs.Common.{rules, ℕ, List, sym, ap, subst, ◌∙◌, arith}
use Rattle.std.specs.Prelude.{Option}
use Rattle.std.specs.Map.{lookup}
use Rattle.tca_templates.specs.declared.ids.Ids.{Ids}
use Rattle.tca_templates.specs.inside.Slotted.{Kind, same_kind, IsAhead, IsAmong}
use Rattle.tca_templates.proofs.KeyOrder.{kind_written, kind_lookup}
use Rattle.tca_templates.proofs.CoverLaws.{ahead_one, among_one, one_is, stands_more, stands_last}
use Rattle.tca_templates.proofs.slots.list.Goals as goal

pub returns-in_err-push-clause-ahead : goal.returns-in_err-push-clause-ahead
returns-in_err-push-clause-ahead c =
    ahead_one c.args.kind _ _ _ (kind_written c.args.kind _ _ _ ((c.get_mut.follows.holds _).3 (search rules)).0)
    (λ i a. rw c.in_err-push.ensures.items (subst (λ (o : Option Ids). IsAhead o i) (sym (c.in-Some.ensures.value ∙ kind_lookup c.args.kind _)) a))

pub returns-in_err-push-clause-among : goal.returns-in_err-push-clause-among
returns-in_err-push-clause-among c =
    among_one c.args.kind _ _ _ (kind_written c.args.kind _ _ _ ((c.get_mut.follows.holds _).3 (search rules)).0)
    (λ i a. rw c.in_err-push.ensures.items (subst (λ (o : Option Ids). IsAmong o i) (sym (c.in-Some.ensures.value ∙ kind_lookup c.args.kind _)) a))

pub returns-in-Some-clause-ahead : goal.returns-in-Some-clause-ahead
returns-in-Some-clause-ahead c =
    ahead_one c.args.kind _ _ _ (kind_written c.args.kind _ _ _ ((c.get_mut.follows.holds _).3 (search rules)).0)
    (λ i a. stands_more _ c.args.id i _ _ c.in_ok-push.ensures.items (subst (λ (o : Option Ids). IsAhead o i) (sym (c.in-Some.ensures.value ∙ kind_lookup c.args.kind _)) a))

pub returns-in-Some-clause-among : goal.returns-in-Some-clause-among
returns-in-Some-clause-among c =
    among_one c.args.kind _ _ _ (kind_written c.args.kind _ _ _ ((c.get_mut.follows.holds _).3 (search rules)).0)
    (λ i a. stands_more _ c.args.id i _ _ c.in_ok-push.ensures.items (subst (λ (o : Option Ids). IsAmong o i) (sym (c.in-Some.ensures.value ∙ kind_lookup c.args.kind _)) a))

pub returns-in-Some-clause-ok : goal.returns-in-Some-clause-ok
returns-in-Some-clause-ok c =
    subst (λ (o : Option Ids). IsAhead o c.args.id) (one_is c.args.kind c.args.kinds.now.entries _ _ (kind_written c.args.kind _ _ _ ((c.get_mut.follows.holds _).3 (search rules)).0))
    (stands_last _ c.args.id _ _ c.in_ok-push.ensures.items c.in-Some.ids.now.within)

pub returns-clause-ahead : goal.returns-clause-ahead
returns-clause-ahead c =
    subst (λ (es : List (Kind × Ids)). (k : Kind) (i : ℕ) → IsAhead (lookup (same_kind k) es) i → IsAhead (lookup (same_kind k) c.insert.new.self.entries) i)
    (ap (λ m. m.entries) c.get_mut.follows.holds-at-none)
    (ahead_one c.args.kind _ _ _ (kind_written c.args.kind _ _ _ c.in_ok-insert.ensures.updates.0)
    (λ i a. absurd (subst (λ (o : Option Ids). IsAhead o i) (sym (c.in_default.ensures.value ∙ kind_lookup c.args.kind _)) (subst (λ (es : List (Kind × Ids)). IsAhead (lookup (same_kind c.args.kind) es) i) (ap (λ m. m.entries) c.get_mut.follows.holds-at-none) a))))

pub returns-clause-among : goal.returns-clause-among
returns-clause-among c =
    subst (λ (es : List (Kind × Ids)). (k : Kind) (i : ℕ) → IsAmong (lookup (same_kind k) es) i → IsAmong (lookup (same_kind k) c.insert.new.self.entries) i)
    (ap (λ m. m.entries) c.get_mut.follows.holds-at-none)
    (among_one c.args.kind _ _ _ (kind_written c.args.kind _ _ _ c.in_ok-insert.ensures.updates.0)
    (λ i a. absurd (subst (λ (o : Option Ids). IsAmong o i) (sym (c.in_default.ensures.value ∙ kind_lookup c.args.kind _)) (subst (λ (es : List (Kind × Ids)). IsAmong (lookup (same_kind c.args.kind) es) i) (ap (λ m. m.entries) c.get_mut.follows.holds-at-none) a))))

pub returns-clause-ok : goal.returns-clause-ok
returns-clause-ok c =
    subst (λ (o : Option Ids). IsAhead o c.args.id) (one_is c.args.kind _ _ _ (kind_written c.args.kind _ _ _ c.in_ok-insert.ensures.updates.0))
    (stands_last 0 c.args.id c.new-all.result.items _ c.in_ok-push-2.ensures.items (omega arith))
