use Rattle.std.proofs.Common.{◌≡◌, ◌<◌, [], ◌∷◌, ◌++◌, length, refl, sym, subst, ◌∙◌, arith}
use Rattle.std.specs.Prelude.{IsOk}
use Rattle.std.proofs.lemmas.Bool.Decides.{nat_tests}
use Rattle.std.proofs.lemmas.List.{length-drop}
use Rattle.tca_wire.proofs.Sets.{judged_ok, sets_next, sets_bad, sets_end}
use Rattle.tca_wire.proofs.split.refused.Goals as goal

pub loop-rest-init : goal.loop-rest-init
loop-rest-init c = record { so_far = λ before. (before, refl); place = refl }

pub returns-in-Err-clause-fault : goal.returns-in-Err-clause-fault
returns-in-Err-clause-fault c = λ _ before.
    let rest = c.loop-rest.rest.now in
    let some : 0 < length rest = grind (arith, nat_tests, c.is_empty.ensures, c.loop-rest-test.true) in
    let now = c.loop-rest.invariant.so_far before in
    sym now.1 ∙ sets_bad now.0 c.loop-rest.at rest _ some (sym c.in-Err.ensures.exact)

pub overflow_add-at : goal.overflow_add-at
overflow_add-at c =
    let j = judged_ok c.loop-rest.at c.loop-rest.rest.now c.in-Ok.set (sym c.in-Ok.ensures.exact) in
    omega (arith, j.within, c.loop-rest.invariant.place, c.requires)

pub loop-rest-smaller : goal.loop-rest-smaller
loop-rest-smaller c =
    let j = judged_ok c.loop-rest.at c.loop-rest.rest.now c.in-Ok.set (sym c.in-Ok.ensures.exact) in
    rw c.split_at.ensures.back (omega (arith, j.least, j.within, length-drop c.in-Ok.set.length c.loop-rest.rest.now))

pub loop-rest-preserved : goal.loop-rest-preserved
loop-rest-preserved c =
    let rest = c.loop-rest.rest.now in
    let some : 0 < length rest = grind (arith, nat_tests, c.is_empty.ensures, c.loop-rest-test.true) in
    let j = judged_ok c.loop-rest.at rest c.in-Ok.set (sym c.in-Ok.ensures.exact) in
    record {
      so_far = λ before.
          let now = c.loop-rest.invariant.so_far before in
          (now.0 ++ c.in-Ok.set ∷ [], rw c.split_at.ensures.back (sym (sets_next now.0 c.loop-rest.at rest c.in-Ok.set some (sym c.in-Ok.ensures.exact)) ∙ now.1));
      place = rw c.split_at.ensures.back (omega (arith, j.within, length-drop c.in-Ok.set.length rest, c.loop-rest.invariant.place));
    }

pub returns-clause-memory : goal.returns-clause-memory
returns-clause-memory c = λ _ before.
    let none : length c.loop-rest.rest.now ≡ 0 = grind (arith, nat_tests, c.is_empty.ensures, c.loop-rest-test.false) in
    let now = c.loop-rest.invariant.so_far before in
    subst (λ r. IsOk r) (sym (sets_end now.0 c.loop-rest.at c.loop-rest.rest.now none) ∙ now.1) refl
