use Rattle.std.proofs.lemmas.Grind.{common_steps}
use Rattle.std.proofs.Common.{◌≡◌, ◌+◌, suc, true, is_ok, [], ◌∷◌, ◌++◌, length, ap, ◌∙◌, sym, subst, subst₂, length-append, arith}
use Rattle.std.specs.List.{All, range_with_len}
use Rattle.std.proofs.lemmas.List.{map-append}
use Rattle.std.proofs.lemmas.List.Elements.{All-append, All-cons, All-nil}
use Rattle.tca_ingest.specs.Shares.{IsReplayed}
use Rattle.tca_commands.specs.inside.Absorbs.{HasRightJournal, names_of}
use Rattle.tca_commands.proofs.AbsorbLaws.{range_more}
use Rattle.tca_commands.proofs.replicas.others_of.Goals as goal

pub loop-name-preserved : goal.loop-name-preserved
loop-name-preserved g c =
    let l = c.loop-name in
    let plan = c.args.plan.now in
    let other = c.in_ok-other.other in
    let told = c.is_err.ensures in
    let room : is_ok c.push.result ≡ true = search (told.negation, c.if-is_err.false) in
    let pushed : c.push.new.self.items ≡ l.others.items ++ other ∷ [] = rw room at c.push.ensures.items in
    let longer : length c.push.new.self.items ≡ length l.others.items + 1 = ap length pushed ∙ length-append l.others.items (other ∷ []) in
    let so_far = l.invariant.many in
    let its = c.in_ok-other.ensures.replayed in
    let one : HasRightJournal plan other = subst₂ (λ p n. IsReplayed p n other.replica other.journal) c.in_ok-copy.ensures (sym its.name_is) its in
    let named : other.replica.name ≡ 2 + length l.others.items = its.name_is ∙ omega arith in
    let more : suc (length l.others.items) ≡ length c.push.new.self.items = omega arith in
    record {
      many = omega arith;
      names = ap names_of pushed ∙ map-append (λ v. v.replica.name) l.others.items (other ∷ []) ∙ ap (λ ns. ns ++ other.replica.name ∷ []) l.invariant.names ∙ ap (λ n. range_with_len 2 (length l.others.items) ++ n ∷ []) named ∙ sym (range_more 2 (length l.others.items)) ∙ ap (range_with_len 2) more;
      right = subst (All (HasRightJournal plan)) (sym pushed) (All-append (HasRightJournal plan) l.others.items (other ∷ []) l.invariant.right (All-cons (HasRightJournal plan) other [] one (All-nil (HasRightJournal plan))));
    }

pub overflow_add-name-end : goal.overflow_add-name-end
overflow_add-name-end g c = grind (arith, common_steps)

pub loop-name-init : goal.loop-name-init
loop-name-init g c = grind (arith, common_steps)

pub returns-in_err-copy-clause-many : goal.returns-in_err-copy-clause-many
returns-in_err-copy-clause-many g c = grind (arith, common_steps)

pub returns-in_err-copy-clause-names : goal.returns-in_err-copy-clause-names
returns-in_err-copy-clause-names g c = grind (arith, common_steps)

pub returns-in_err-copy-clause-right : goal.returns-in_err-copy-clause-right
returns-in_err-copy-clause-right g c = grind (arith, common_steps)

pub returns-in_err-copy-clause-refused : goal.returns-in_err-copy-clause-refused
returns-in_err-copy-clause-refused g c = grind (arith, common_steps)

pub read_and_close-requires-clause-name : goal.read_and_close-requires-clause-name
read_and_close-requires-clause-name g c κs within = grind (arith, common_steps)

pub read_and_close-requires-clause-parts : goal.read_and_close-requires-clause-parts
read_and_close-requires-clause-parts g c κs within = grind (arith, common_steps)

pub read_and_close-requires-clause-called : goal.read_and_close-requires-clause-called
read_and_close-requires-clause-called g c κs within = grind (arith, common_steps)

pub read_and_close-requires-clause-plan : goal.read_and_close-requires-clause-plan
read_and_close-requires-clause-plan g c κs within = grind (arith, common_steps)

pub read_and_close-requires-clause-above : goal.read_and_close-requires-clause-above
read_and_close-requires-clause-above g c κs within = grind (arith, common_steps)

pub read_and_close-requires-clause-limits : goal.read_and_close-requires-clause-limits
read_and_close-requires-clause-limits g c κs within = grind (arith, common_steps)

pub returns-in_err-other-clause-many : goal.returns-in_err-other-clause-many
returns-in_err-other-clause-many g c = grind (arith, common_steps)

pub returns-in_err-other-clause-names : goal.returns-in_err-other-clause-names
returns-in_err-other-clause-names g c = grind (arith, common_steps)

pub returns-in_err-other-clause-right : goal.returns-in_err-other-clause-right
returns-in_err-other-clause-right g c = grind (arith, common_steps)

pub returns-in_err-other-clause-refused : goal.returns-in_err-other-clause-refused
returns-in_err-other-clause-refused g c = grind (arith, common_steps)

pub returns-then-is_err-clause-refused : goal.returns-then-is_err-clause-refused
returns-then-is_err-clause-refused g c = grind (arith, common_steps)

pub returns-clause-many : goal.returns-clause-many
returns-clause-many g c = grind (arith, common_steps)

pub returns-clause-names : goal.returns-clause-names
returns-clause-names g c = grind (arith, common_steps)

pub returns-clause-right : goal.returns-clause-right
returns-clause-right g c = grind (arith, common_steps)
