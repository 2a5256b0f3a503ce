use Rattle.std.proofs.Common.{◌≡◌, false, List, [], ◌∷◌, ◌++◌, sym, ap, subst, ◌∙◌, append_assoc}
use Rattle.std.specs.Prelude.{option_copied}
use Rattle.std.specs.Ordering.{is_lt}
use Rattle.std.specs.List.Sorted.{IsStrictlySortedBy}
use Rattle.std.proofs.lemmas.List.{append-nil}
use Rattle.tca_log.specs.Rows.Ordered.{before_key, from_key, seen_first}
use Rattle.tca_log.proofs.OrderedRows.Parts.{lt_less}
use Rattle.tca_log.proofs.OrderedRows.Passing.{before_less, before_none, before_rest, from_less, from_none, from_rest, seen_next, tail_rises}
use Rattle.tca_log.proofs.rows.left.Left.move_before.Goals as goal

-- nothing is left to move
ended : {K : Type 0} (list before all : List K) → before ≡ [] → list ++ before ≡ all → list ≡ all
ended list before all none so_far = sym (append-nil list) ∙ ap (λ (l : List _). list ++ l) (sym none) ∙ so_far

pub returns-then-not-is_lt-clause-list : goal.returns-then-not-is_lt-clause-list
returns-then-not-is_lt-clause-list g c =
    let later = c.loop-self.self-inside.later in
    let now : seen_first (option_copied c.loop-self.self-inside.next) later ≡ c.in-Some.row.now ∷ later = ap (λ x. seen_first (option_copied x) later) c.in-Some.is in
    let rest : is_lt (g.K.Ord.cmp c.in-Some.row.now c.args.key.now) ≡ false = ap is_lt (sym c.cmp.ensures) ∙ sym c.is_lt.ensures ∙ c.if-not-is_lt.true in
    ended c.loop-self.list.items _ _ (ap (before_key g.K.Ord.cmp c.args.key.now) now ∙ before_rest g.K.Ord.cmp g.met.K.Ord.total c.args.key.now c.in-Some.row.now later (subst (IsStrictlySortedBy g.K.Ord.cmp) now c.loop-self.invariant.rises) rest) c.loop-self.invariant.moved

pub returns-then-not-is_lt-clause-left : goal.returns-then-not-is_lt-clause-left
returns-then-not-is_lt-clause-left g c =
    let later = c.loop-self.self-inside.later in
    let now : seen_first (option_copied c.loop-self.self-inside.next) later ≡ c.in-Some.row.now ∷ later = ap (λ x. seen_first (option_copied x) later) c.in-Some.is in
    let rest : is_lt (g.K.Ord.cmp c.in-Some.row.now c.args.key.now) ≡ false = ap is_lt (sym c.cmp.ensures) ∙ sym c.is_lt.ensures ∙ c.if-not-is_lt.true in
    now
    ∙ sym (from_rest g.K.Ord.cmp g.met.K.Ord.total c.args.key.now c.in-Some.row.now later (subst (IsStrictlySortedBy g.K.Ord.cmp) now c.loop-self.invariant.rises) rest)
    ∙ ap (from_key g.K.Ord.cmp c.args.key.now) (sym now)
    ∙ c.loop-self.invariant.left

pub loop-self-preserved : goal.loop-self-preserved
loop-self-preserved g c =
    let R = g.K.Ord.cmp in
    let o = g.met.K.Ord.total in
    let key = c.args.key.now in
    let row = c.in-Some.row.now in
    let later = c.loop-self.self-inside.later in
    let now : seen_first (option_copied c.loop-self.self-inside.next) later ≡ row ∷ later = ap (λ x. seen_first (option_copied x) later) c.in-Some.is in
    let less = lt_less (R row key) (ap is_lt (sym c.cmp.ensures) ∙ sym c.is_lt.ensures ∙ c.if-not-is_lt.false) in
    let next : seen_first (option_copied c.next-self-inside.result) c.next-self-inside.new.self ≡ later = seen_next later c.next-self-inside.new.self c.next-self-inside.result c.next-self-inside.ensures.steps in
    rw (next, c.in_ok-push.ensures.items) (record {
      rises = tail_rises R o row later (subst (IsStrictlySortedBy R) now c.loop-self.invariant.rises);
      moved = append_assoc c.loop-self.list.items (row ∷ []) (before_key R key later) ∙ ap (λ (l : List _). c.loop-self.list.items ++ l) (sym (before_less R o key row later less) ∙ ap (before_key R key) (sym now)) ∙ c.loop-self.invariant.moved;
      left = sym (from_less R o key row later less) ∙ ap (from_key R key) (sym now) ∙ c.loop-self.invariant.left;
    })

pub returns-clause-list : goal.returns-clause-list
returns-clause-list g c =
    let now : seen_first (option_copied c.loop-self.self-inside.next) c.loop-self.self-inside.later ≡ [] = ap (λ x. seen_first (option_copied x) c.loop-self.self-inside.later) c.in_default.is in
    ended c.loop-self.list.items _ _ (ap (before_key g.K.Ord.cmp c.args.key.now) now ∙ before_none g.K.Ord.cmp g.met.K.Ord.total c.args.key.now) c.loop-self.invariant.moved

pub returns-clause-left : goal.returns-clause-left
returns-clause-left g c =
    let now : seen_first (option_copied c.loop-self.self-inside.next) c.loop-self.self-inside.later ≡ [] = ap (λ x. seen_first (option_copied x) c.loop-self.self-inside.later) c.in_default.is in
    now ∙ sym (from_none g.K.Ord.cmp g.met.K.Ord.total c.args.key.now) ∙ ap (from_key g.K.Ord.cmp c.args.key.now) (sym now) ∙ c.loop-self.invariant.left
