use Rattle.std.proofs.lemmas.Grind.{common_steps}
use Rattle.std.proofs.Common.{◌≡◌, ◌∙◌, ◌+◌, Err, List, [], ◌∷◌, length, map, ap, sym, subst, subst₂, length-append, rules, arith, inr}
use Rattle.std.specs.List.{All}
use Rattle.std.proofs.lemmas.List.{length-map}
use Rattle.tca_ingest.specs.Closed.{ClosedView, replicas_of}
use Rattle.tca_ingest.specs.Shares.{IsReplayed}
use Rattle.tca_commands.specs.inside.Absorbs.{HasAbsorbed, HasRightJournal, closed_with}
use Rattle.tca_commands.proofs.ReadLaws.{all_sound}
use Rattle.tca_commands.proofs.replicas.run_replicas.Goals as goal

pub returns-in_err-first-clause-refused : goal.returns-in_err-first-clause-refused
returns-in_err-first-clause-refused g c =
    let is : c.from_residual-in_err-first.result ≡ Err c.in_err-first.field-0.0 = search rules in
    rw is (inr (inr (all_sound _ _ c.in_ok-readings.ensures.read.noted, c.in_err-first.ensures.refused)))

pub returns-in_err-all-clause-refused : goal.returns-in_err-all-clause-refused
returns-in_err-all-clause-refused g c =
    let is : c.from_residual-in_err-all.result ≡ Err c.in_err-all.field-0.0 = search rules in
    rw is (inr (inr (all_sound _ _ c.in_ok-readings.ensures.read.noted, c.in_err-all.ensures.refused)))

pub returns-clause-joined : goal.returns-clause-joined
returns-clause-joined g c =
    let first = c.in_ok-first.first in
    let others = c.in_ok-others.others.items in
    let agreed = c.in_ok-all.ensures.agreed in
    let more = c.in_ok-others.ensures.many in
    let each : length c.in_ok-all.all.items ≡ length (map (closed_with first.replica) others) + 1 = ap length agreed.each ∙ length-append (map (closed_with first.replica) others) (first ∷ []) in
    let same : length (map (closed_with first.replica) others) ≡ length others = length-map others (closed_with first.replica) in
    record {
      first = first;
      others = others;
      right = subst₂ (λ p n. IsReplayed p n first.replica first.journal) (sym c.requires.plan) (sym c.requires.called) c.in_ok-first.ensures.replayed;
      names = c.in_ok-others.ensures.names;
      others_right = subst (λ p. All (HasRightJournal p) others) c.requires.same c.in_ok-others.ensures.right;
      absorbed = subst (λ (cs : List ClosedView). HasAbsorbed (replicas_of cs) first.journal) c.deref.ensures.value c.in_ok-first.ensures.absorbed;
      agreed = agreed;
      many = omega arith;
    }

pub returns-in_err-places-clause-joined : goal.returns-in_err-places-clause-joined
returns-in_err-places-clause-joined g c = grind (arith, common_steps)

pub returns-in_err-places-clause-read : goal.returns-in_err-places-clause-read
returns-in_err-places-clause-read g c = grind (arith, common_steps)

pub returns-in_err-places-clause-refused : goal.returns-in_err-places-clause-refused
returns-in_err-places-clause-refused g c = grind (arith, common_steps)

pub same-mine : goal.same-mine
same-mine g c = grind (arith, common_steps)

pub new-requires-clause-name : goal.new-requires-clause-name
new-requires-clause-name g c = grind (arith, common_steps)

pub new-requires-clause-parts : goal.new-requires-clause-parts
new-requires-clause-parts g c = grind (arith, common_steps)

pub new-requires-clause-called : goal.new-requires-clause-called
new-requires-clause-called g c = grind (arith, common_steps)

pub new-requires-clause-plan : goal.new-requires-clause-plan
new-requires-clause-plan g c = grind (arith, common_steps)

pub returns-in_err-shared-clause-joined : goal.returns-in_err-shared-clause-joined
returns-in_err-shared-clause-joined g c = grind (arith, common_steps)

pub returns-in_err-shared-clause-read : goal.returns-in_err-shared-clause-read
returns-in_err-shared-clause-read g c = grind (arith, common_steps)

pub returns-in_err-shared-clause-refused : goal.returns-in_err-shared-clause-refused
returns-in_err-shared-clause-refused g c = grind (arith, common_steps)

pub read_share-requires-after_bounds : goal.read_share-requires-after_bounds
read_share-requires-after_bounds g c κs within = grind (arith, common_steps)

pub returns-in_err-passes-clause-joined : goal.returns-in_err-passes-clause-joined
returns-in_err-passes-clause-joined g c = grind (arith, common_steps)

pub returns-in_err-passes-clause-read : goal.returns-in_err-passes-clause-read
returns-in_err-passes-clause-read g c = grind (arith, common_steps)

pub returns-in_err-passes-clause-refused : goal.returns-in_err-passes-clause-refused
returns-in_err-passes-clause-refused g c = grind (arith, common_steps)

pub others_of-requires-after_bounds : goal.others_of-requires-after_bounds
others_of-requires-after_bounds g c κs within = grind (arith, common_steps)

pub returns-in_err-others-clause-joined : goal.returns-in_err-others-clause-joined
returns-in_err-others-clause-joined g c = grind (arith, common_steps)

pub returns-in_err-others-clause-read : goal.returns-in_err-others-clause-read
returns-in_err-others-clause-read g c = grind (arith, common_steps)

pub returns-in_err-others-clause-refused : goal.returns-in_err-others-clause-refused
returns-in_err-others-clause-refused g c = grind (arith, common_steps)

pub readings_of-requires : goal.readings_of-requires
readings_of-requires g c = grind (arith, common_steps)

pub returns-in_err-readings-clause-joined : goal.returns-in_err-readings-clause-joined
returns-in_err-readings-clause-joined g c = grind (arith, common_steps)

pub returns-in_err-readings-clause-read : goal.returns-in_err-readings-clause-read
returns-in_err-readings-clause-read g c = grind (arith, common_steps)

pub returns-in_err-readings-clause-refused : goal.returns-in_err-readings-clause-refused
returns-in_err-readings-clause-refused g c = grind (arith, common_steps)

pub returns-in_err-first-clause-joined : goal.returns-in_err-first-clause-joined
returns-in_err-first-clause-joined g c = grind (arith, common_steps)

pub returns-in_err-first-clause-read : goal.returns-in_err-first-clause-read
returns-in_err-first-clause-read g c = grind (arith, common_steps)

pub returns-in_err-all-clause-joined : goal.returns-in_err-all-clause-joined
returns-in_err-all-clause-joined g c = grind (arith, common_steps)

pub returns-in_err-all-clause-read : goal.returns-in_err-all-clause-read
returns-in_err-all-clause-read g c = grind (arith, common_steps)

pub returns-clause-read : goal.returns-clause-read
returns-clause-read g c = grind (arith, common_steps)
