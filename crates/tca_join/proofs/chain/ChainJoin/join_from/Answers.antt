use Rattle.std.proofs.Common.{◌≤◌, ◌∙◌, sym, ap, arith, length, false}
use Rattle.tca_join.specs.Chains.{chain, longer}
use Rattle.tca_join.proofs.Differ.{longer_covers, longer_extends_at, rest_fits}
use Rattle.tca_join.proofs.chain.ChainJoin.join_from.Goals as goal

pub returns-then-theirs-have-clause-ok : goal.returns-then-theirs-have-clause-ok
returns-then-theirs-have-clause-ok g c =
    let few : length c.args.other.now.items ≤ length c.args.self.now.items = omega (arith, c.if-theirs-have.true, ap length c.items-have.ensures, ap length c.as_slice-theirs.ensures, ap (λ z. length z.items) c.other.view_is) in
    ap (λ z. chain z.items false) c.self.view_is ∙ ap (λ l. chain l false) (sym (longer_covers c.args.self.now.items c.args.other.now.items few))

pub extend-requires : goal.extend-requires
extend-requires g c =
    rest_fits c.args.self.now.items c.as_slice-theirs.result.now (length c.items-have.result.now) 4194304 (ap length c.items-have.ensures) (omega (arith, c.if-theirs-have.false)) (omega (arith, ap length c.as_slice-theirs.ensures, c.other.invariant.within))

pub returns-clause-ok : goal.returns-clause-ok
returns-clause-ok g c =
    let mine = c.args.self.now.items in
    c.in_ok-extend.ensures.ok
    ∙ ap (λ l. chain l false) (longer_extends_at mine c.as_slice-theirs.result.now (length c.items-have.result.now) (ap length c.items-have.ensures))
    ∙ ap (λ l. chain (longer mine l) false) (c.as_slice-theirs.ensures ∙ ap (λ z. z.items) c.other.view_is)
