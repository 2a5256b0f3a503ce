use Rattle.std.proofs.Common.{◌≡◌, [], ◌∷◌, sym, ap, subst, ◌∙◌}
use Rattle.std.specs.Prelude.{option_copied}
use Rattle.std.specs.Ordering.{is_lt}
use Rattle.std.specs.List.Sorted.{IsStrictlySortedBy}
use Rattle.tca_join.specs.Sets.{has}
use Rattle.tca_log.specs.Rows.Ordered.{from_key, seen_first}
use Rattle.tca_log.proofs.OrderedRows.Passing.{from_less, from_rest, from_none, has_less, has_equal, has_greater, has_none, seen_next, tail_rises}
use Rattle.tca_log.proofs.rows.left.Left.pass.Goals as goal

pub loop-self-preserved : goal.loop-self-preserved
loop-self-preserved g c =
    let R = g.K.Ord.cmp in
    let o = g.met.K.Ord.total in
    let key = c.args.key.now in
    let row = c.in-Some.row.now in
    let later = c.loop-self.self-inside.later in
    let now : seen_first (option_copied c.loop-self.self-inside.next) later ≡ row ∷ later = ap (λ x. seen_first (option_copied x) later) c.in-Some.is in
    let less = sym c.cmp.ensures ∙ c.in-Less.is in
    let next : seen_first (option_copied c.next-self-inside.result) c.next-self-inside.new.self ≡ later = seen_next later c.next-self-inside.new.self c.next-self-inside.result c.next-self-inside.ensures.steps in
    let rises = subst (IsStrictlySortedBy R) now c.loop-self.invariant.rises in
    rw next (record {
      rises = tail_rises R o row later rises;
      there = sym (has_less R o key row later less) ∙ ap (λ l. has R l key) (sym now) ∙ c.loop-self.invariant.there;
      left = sym (from_less R o key row later less) ∙ ap (from_key R key) (sym now) ∙ c.loop-self.invariant.left;
    })

pub returns-in-Equal-clause-there : goal.returns-in-Equal-clause-there
returns-in-Equal-clause-there g c =
    let later = c.loop-self.self-inside.later in
    let now : seen_first (option_copied c.loop-self.self-inside.next) later ≡ c.in-Some.row.now ∷ later = ap (λ x. seen_first (option_copied x) later) c.in-Some.is in
    sym (sym c.loop-self.invariant.there ∙ ap (λ l. has g.K.Ord.cmp l c.args.key.now) now ∙ has_equal g.K.Ord.cmp g.met.K.Ord.total c.args.key.now c.in-Some.row.now later (sym c.cmp.ensures ∙ c.in-Equal.is))

pub returns-in-Equal-clause-left : goal.returns-in-Equal-clause-left
returns-in-Equal-clause-left g c =
    let later = c.loop-self.self-inside.later in
    let now : seen_first (option_copied c.loop-self.self-inside.next) later ≡ c.in-Some.row.now ∷ later = ap (λ x. seen_first (option_copied x) later) c.in-Some.is in
    now
    ∙ sym (from_rest g.K.Ord.cmp g.met.K.Ord.total c.args.key.now c.in-Some.row.now later (subst (IsStrictlySortedBy g.K.Ord.cmp) now c.loop-self.invariant.rises) (ap is_lt (sym c.cmp.ensures ∙ c.in-Equal.is)))
    ∙ ap (from_key g.K.Ord.cmp c.args.key.now) (sym now)
    ∙ c.loop-self.invariant.left

pub returns-in-Greater-clause-there : goal.returns-in-Greater-clause-there
returns-in-Greater-clause-there g c =
    let later = c.loop-self.self-inside.later in
    let now : seen_first (option_copied c.loop-self.self-inside.next) later ≡ c.in-Some.row.now ∷ later = ap (λ x. seen_first (option_copied x) later) c.in-Some.is in
    sym (sym c.loop-self.invariant.there ∙ ap (λ l. has g.K.Ord.cmp l c.args.key.now) now ∙ has_greater g.K.Ord.cmp g.met.K.Ord.total c.args.key.now c.in-Some.row.now later (subst (IsStrictlySortedBy g.K.Ord.cmp) now c.loop-self.invariant.rises) (sym c.cmp.ensures ∙ c.in-Greater.is))

pub returns-in-Greater-clause-left : goal.returns-in-Greater-clause-left
returns-in-Greater-clause-left g c =
    let later = c.loop-self.self-inside.later in
    let now : seen_first (option_copied c.loop-self.self-inside.next) later ≡ c.in-Some.row.now ∷ later = ap (λ x. seen_first (option_copied x) later) c.in-Some.is in
    now
    ∙ sym (from_rest g.K.Ord.cmp g.met.K.Ord.total c.args.key.now c.in-Some.row.now later (subst (IsStrictlySortedBy g.K.Ord.cmp) now c.loop-self.invariant.rises) (ap is_lt (sym c.cmp.ensures ∙ c.in-Greater.is)))
    ∙ ap (from_key g.K.Ord.cmp c.args.key.now) (sym now)
    ∙ c.loop-self.invariant.left

pub returns-clause-there : goal.returns-clause-there
returns-clause-there g c =
    let now : seen_first (option_copied c.loop-self.self-inside.next) c.loop-self.self-inside.later ≡ [] = ap (λ x. seen_first (option_copied x) c.loop-self.self-inside.later) c.in_default.is in
    sym (sym c.loop-self.invariant.there ∙ ap (λ l. has g.K.Ord.cmp l c.args.key.now) now ∙ has_none g.K.Ord.cmp g.met.K.Ord.total c.args.key.now)

pub returns-clause-left : goal.returns-clause-left
returns-clause-left g c =
    let now : seen_first (option_copied c.loop-self.self-inside.next) c.loop-self.self-inside.later ≡ [] = ap (λ x. seen_first (option_copied x) c.loop-self.self-inside.later) c.in_default.is in
    now ∙ sym (from_none g.K.Ord.cmp g.met.K.Ord.total c.args.key.now) ∙ ap (from_key g.K.Ord.cmp c.args.key.now) (sym now) ∙ c.loop-self.invariant.left
