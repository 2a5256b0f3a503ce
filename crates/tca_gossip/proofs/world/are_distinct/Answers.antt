use Rattle.std.proofs.lemmas.Grind.{common_steps}
use Rattle.std.proofs.Common.{◌≡◌, ◌∷◌, sym, ◌∙◌, arith}
use Rattle.tca_gossip.proofs.Naming.{apart_there, apart_back, twice}
use Rattle.tca_gossip.proofs.world.are_distinct.Goals as goal

pub returns-then-contains : goal.returns-then-contains
returns-then-contains c =
    let rest = c.loop-name.rest.now in
    let name = c.in-Some.name.now in
    let others = c.in-Some.others.now in
    let parts : rest ≡ name ∷ others = c.in-Some.ensures.cases.0 in
    (λ no. absurd cc, λ apart. absurd (twice rest name others parts (sym c.contains.ensures.value ∙ c.if-contains.true) (c.loop-name.invariant.there apart)))

pub loop-name-preserved : goal.loop-name-preserved
loop-name-preserved c =
    let rest = c.loop-name.rest.now in
    let name = c.in-Some.name.now in
    let others = c.in-Some.others.now in
    let parts : rest ≡ name ∷ others = c.in-Some.ensures.cases.0 in
    record {
      there = λ apart. apart_there rest name others parts (c.loop-name.invariant.there apart);
      back = λ apart. c.loop-name.invariant.back (apart_back rest name others parts (sym c.contains.ensures.value ∙ c.if-contains.false) apart);
    }

pub loop-name-init : goal.loop-name-init
loop-name-init c = grind (arith, common_steps)

pub loop-name-smaller : goal.loop-name-smaller
loop-name-smaller c = grind (arith, common_steps)

pub returns : goal.returns
returns c = grind (arith, common_steps)
