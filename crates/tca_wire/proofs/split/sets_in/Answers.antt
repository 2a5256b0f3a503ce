use Rattle.std.proofs.Common.{◌≡◌, ◌<◌, ◌+◌, ◌++◌, ◌∷◌, [], List, ℕ, length, inr, sym, ap, subst, ◌∙◌, arith}
use Rattle.std.specs.Prelude.{IsOk}
use Rattle.tca_wire.specs.Walks.{walk}
use Rattle.tca_wire.specs.Messages.{set_front, sets_of}
use Rattle.tca_wire.specs.declared.fault.WireFault.TheVariants.{Memory}
use Rattle.std.proofs.lemmas.Bool.Decides.{nat_tests}
use Rattle.std.proofs.lemmas.List.{length-drop}
use Rattle.std.proofs.lemmas.Result.{err_from_is_err_and}
use Rattle.tca_wire.proofs.Sets.{judged_ok, first_found, sets_next, sets_bad, sets_end}
use Rattle.tca_wire.proofs.split.sets_in.Goals as goal

pub loop-rest-preserved : goal.loop-rest-preserved
loop-rest-preserved c =
    let rest = c.loop-rest.rest.now in
    let some : 0 < length rest = grind (arith, nat_tests, c.is_empty.ensures, c.loop-rest-test.true) in
    let j = judged_ok c.loop-rest.at rest c.in_ok-set.set (sym c.in_ok-set.ensures.exact) in
    record {
      so_far = rw (c.in-Ok.ensures.items, c.split_at.ensures.back)
          (sym (sets_next c.loop-rest.sets.items c.loop-rest.at rest c.in_ok-set.set some (sym c.in_ok-set.ensures.exact)) ∙ c.loop-rest.invariant.so_far);
      place = rw c.split_at.ensures.back (omega (arith, j.within, length-drop c.in_ok-set.set.length rest, c.loop-rest.invariant.place));
      first = inr (first_found c.args.octets.now c.loop-rest.at rest c.in_ok-set.set c.loop-rest.invariant.first (sym c.in_ok-set.ensures.exact));
    }

pub returns-in_err-set-clause-exact : goal.returns-in_err-set-clause-exact
returns-in_err-set-clause-exact c =
    let rest = c.loop-rest.rest.now in
    let some : 0 < length rest = grind (arith, nat_tests, c.is_empty.ensures, c.loop-rest-test.true) in
    let p = err_from_is_err_and c.from_residual.result c.from_residual.ensures.1 in
    rw (p.1, p.2) (λ _. sym c.loop-rest.invariant.so_far ∙ sets_bad c.loop-rest.sets.items c.loop-rest.at rest _ some (sym c.in_err-set.ensures.exact))

pub returns-clause-exact : goal.returns-clause-exact
returns-clause-exact c =
    let none : length c.loop-rest.rest.now ≡ 0 = grind (arith, nat_tests, c.is_empty.ensures, c.loop-rest-test.false) in
    sym c.loop-rest.invariant.so_far ∙ sets_end c.loop-rest.sets.items c.loop-rest.at c.loop-rest.rest.now none

pub returns-in_default-clause-exact : goal.returns-in_default-clause-exact
returns-in_default-clause-exact c = λ ne.
    let rest = c.loop-rest.rest.now in
    let set = c.in_ok-set.set in
    let some : 0 < length rest = grind (arith, nat_tests, c.is_empty.ensures, c.loop-rest-test.true) in
    sym c.loop-rest.invariant.so_far
    ∙ sets_next c.loop-rest.sets.items c.loop-rest.at rest set some (sym c.in_ok-set.ensures.exact)
    ∙ ap (λ (o : List ℕ). walk set_front (c.loop-rest.sets.items ++ set ∷ []) (c.loop-rest.at + set.length) o) (sym c.split_at.ensures.back)
    ∙ c.refused.ensures.fault ne (c.loop-rest.sets.items ++ set ∷ [])

pub returns-in_default-clause-last : goal.returns-in_default-clause-last
returns-in_default-clause-last c = λ wanted.
    let rest = c.loop-rest.rest.now in
    let set = c.in_ok-set.set in
    let some : 0 < length rest = grind (arith, nat_tests, c.is_empty.ensures, c.loop-rest-test.true) in
    let is : c.refused.result ≡ Memory = cc in
    let whole : walk set_front (c.loop-rest.sets.items ++ set ∷ []) (c.loop-rest.at + set.length) c.split_at.result.1.now ≡ sets_of c.args.octets.now =
    ap (λ (o : List ℕ). walk set_front (c.loop-rest.sets.items ++ set ∷ []) (c.loop-rest.at + set.length) o) c.split_at.ensures.back
    ∙ sym (sets_next c.loop-rest.sets.items c.loop-rest.at rest set some (sym c.in_ok-set.ensures.exact))
    ∙ c.loop-rest.invariant.so_far in
    subst (λ r. IsOk r) whole (c.refused.ensures.memory is (c.loop-rest.sets.items ++ set ∷ []))
