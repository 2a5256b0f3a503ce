use Rattle.std.proofs.lemmas.Grind.{common_steps}
use Rattle.std.proofs.Common.{◌≡◌, List, [], ◌∷◌, ◌++◌, length, sym, ap, subst, ◌∙◌, arith, append_assoc, length-append}
use Rattle.std.proofs.lemmas.List.{append-nil}
use Rattle.std.specs.Prelude.{IfOk}
use Rattle.std.specs.List.Sorted.{IsStrictlySortedBy}
use Rattle.tca_log.specs.Rows.Ordered.{without_each}
use Rattle.tca_log.proofs.OrderedRows.Each.{beyond_held, beyond_new, beyond_none, beyond_rises}
use Rattle.tca_log.proofs.OrderedRows.Passing.{ArePassing, passing_next}
use Rattle.tca_log.proofs.rows.beyond.difference.Goals as goal

pub loop-key-preserved-in-Continue-branch-2 : goal.loop-key-preserved-in-Continue-branch-2
loop-key-preserved-in-Continue-branch-2 g c =
    let R = g.K.Ord.cmp in
    let rows = c.args.rows.now.rows in
    let rest = c.loop-key.rest.items in
    let was = subst (λ l. ArePassing R l rows c.loop-key.finder) c.in-Some.ensures.steps c.loop-key.invariant.passing in
    let new = beyond_new R g.met.K.Ord.total rows c.in-Some.key.now c.next.new.self (sym was.same.0 ∙ sym c.has.ensures.there ∙ c.if-not-has.true) in
    let step : rest ++ without_each R rows (c.in-Some.key.now ∷ c.next.new.self) ≡ without_each R rows c.args.keys = ap (λ l. rest ++ without_each R rows l) (sym c.in-Some.ensures.steps) ∙ c.loop-key.invariant.so_far in
    rw c.in_ok-push.ensures.items (record {
      passing = passing_next R g.met.K.Ord.total c.in-Some.key.now c.next.new.self rows c.loop-key.finder c.has.new.self was c.has.ensures.rises c.has.ensures.later;
      so_far = append_assoc rest (c.in-Some.key.now ∷ []) (without_each R rows c.next.new.self) ∙ ap (λ (l : List _). rest ++ l) (sym new) ∙ step;
    })

pub loop-key-preserved : goal.loop-key-preserved
loop-key-preserved g c =
    let R = g.K.Ord.cmp in
    let rows = c.args.rows.now.rows in
    let rest = c.loop-key.rest.items in
    let was = subst (λ l. ArePassing R l rows c.loop-key.finder) c.in-Some.ensures.steps c.loop-key.invariant.passing in
    let held = beyond_held R g.met.K.Ord.total rows c.in-Some.key.now c.next.new.self (sym was.same.0 ∙ sym c.has.ensures.there ∙ c.if-not-has.false) in
    let step : rest ++ without_each R rows (c.in-Some.key.now ∷ c.next.new.self) ≡ without_each R rows c.args.keys = ap (λ l. rest ++ without_each R rows l) (sym c.in-Some.ensures.steps) ∙ c.loop-key.invariant.so_far in
    record {
      passing = passing_next R g.met.K.Ord.total c.in-Some.key.now c.next.new.self rows c.loop-key.finder c.has.new.self was c.has.ensures.rises c.has.ensures.later;
      so_far = ap (λ (l : List _). rest ++ l) (sym held) ∙ step;
    }

pub returns-in_err-push-clause-nothing : goal.returns-in_err-push-clause-nothing
returns-in_err-push-clause-nothing g c none =
    let R = g.K.Ord.cmp in
    let rows = c.args.rows.now.rows in
    let rest = c.loop-key.rest.items in
    let was = subst (λ l. ArePassing R l rows c.loop-key.finder) c.in-Some.ensures.steps c.loop-key.invariant.passing in
    let new = beyond_new R g.met.K.Ord.total rows c.in-Some.key.now c.next.new.self (sym was.same.0 ∙ sym c.has.ensures.there ∙ c.if-not-has.true) in
    let step : rest ++ c.in-Some.key.now ∷ without_each R rows c.next.new.self ≡ without_each R rows c.args.keys = ap (λ (l : List _). rest ++ l) (sym new) ∙ ap (λ l. rest ++ without_each R rows l) (sym c.in-Some.ensures.steps) ∙ c.loop-key.invariant.so_far in
    absurd (omega (arith, ap length step, length-append rest (c.in-Some.key.now ∷ without_each R rows c.next.new.self), c.requires.new, none))

pub of_ascending-requires-clause-rises : goal.of_ascending-requires-clause-rises
of_ascending-requires-clause-rises g c =
    let R = g.K.Ord.cmp in
    let rows = c.args.rows.now.rows in
    let rest = c.loop-key.rest.items in
    let all : rest ≡ without_each R rows c.args.keys = sym (append-nil rest) ∙ ap (λ (l : List _). rest ++ l) (sym (ap (without_each R rows) c.in-None.ensures.steps.0 ∙ beyond_none R g.met.K.Ord.total rows)) ∙ c.loop-key.invariant.so_far in
    subst (IsStrictlySortedBy R) (sym all) (beyond_rises R g.met.K.Ord.total rows c.args.keys c.requires.rises)

pub of_ascending-requires-clause-few : goal.of_ascending-requires-clause-few
of_ascending-requires-clause-few g c =
    let R = g.K.Ord.cmp in
    let rows = c.args.rows.now.rows in
    let rest = c.loop-key.rest.items in
    let all : rest ≡ without_each R rows c.args.keys = sym (append-nil rest) ∙ ap (λ (l : List _). rest ++ l) (sym (ap (without_each R rows) c.in-None.ensures.steps.0 ∙ beyond_none R g.met.K.Ord.total rows)) ∙ c.loop-key.invariant.so_far in
    omega (arith, ap length all, c.requires.new, c.requires.few)

pub returns-clause-rest : goal.returns-clause-rest
returns-clause-rest g c =
    let R = g.K.Ord.cmp in
    let rows = c.args.rows.now.rows in
    let rest = c.loop-key.rest.items in
    let all : rest ≡ without_each R rows c.args.keys = sym (append-nil rest) ∙ ap (λ (l : List _). rest ++ l) (sym (ap (without_each R rows) c.in-None.ensures.steps.0 ∙ beyond_none R g.met.K.Ord.total rows)) ∙ c.loop-key.invariant.so_far in
    subst (λ (l : List _). IfOk c.of_ascending.result (λ o. o.rows ≡ l)) all c.of_ascending.ensures.rows

pub returns-clause-nothing : goal.returns-clause-nothing
returns-clause-nothing g c none =
    let R = g.K.Ord.cmp in
    let rows = c.args.rows.now.rows in
    let rest = c.loop-key.rest.items in
    let all : rest ≡ without_each R rows c.args.keys = sym (append-nil rest) ∙ ap (λ (l : List _). rest ++ l) (sym (ap (without_each R rows) c.in-None.ensures.steps.0 ∙ beyond_none R g.met.K.Ord.total rows)) ∙ c.loop-key.invariant.so_far in
    c.of_ascending.ensures.none (omega (arith, ap length all, c.requires.new, none))

pub returns-in_err-rest-clause-rest : goal.returns-in_err-rest-clause-rest
returns-in_err-rest-clause-rest g c = grind (arith, common_steps)

pub returns-in_err-rest-clause-nothing : goal.returns-in_err-rest-clause-nothing
returns-in_err-rest-clause-nothing g c = grind (arith, common_steps)

pub has-requires : goal.has-requires
has-requires g c = grind (arith, common_steps)

pub returns-in_err-push-clause-rest : goal.returns-in_err-push-clause-rest
returns-in_err-push-clause-rest g c = grind (arith, common_steps)
