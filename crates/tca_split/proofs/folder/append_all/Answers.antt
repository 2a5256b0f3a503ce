use Rattle.std.proofs.Common.{◌≡◌, ◌∙◌, rules, arith, take, drop, sym, subst, length, List, ℕ, take_all}
use Rattle.std.proofs.lemmas.List.{take_rest, take-append-drop}
use Rattle.tca_split.specs.Folders.{Lengthens}
use Rattle.tca_split.proofs.FileSteps.{lengthens_none, lengthens_next}
use Rattle.tca_split.proofs.folder.append_all.Goals as goal

pub loop-done-init : goal.loop-done-init
loop-done-init g c = record { within = omega arith; written = lengthens_none _ _; calm = search rules }

pub loop-done-preserved : goal.loop-done-preserved
loop-done-preserved g c = record {
  within = search rules;
  written = lengthens_next _ _ _ _ c.args.octets.now c.loop-done.done c.in-Ok.n c.loop-done.invariant.written (rw (take_rest c.args.octets.now c.loop-done.done) at c.in-Ok.ensures.octets);
  calm = c.in-Ok.ensures.count ∙ c.loop-done.invariant.calm;
}

pub returns-in-Err-clause-part : goal.returns-in-Err-clause-part
returns-in-Err-clause-part g c = record {
  front = take c.loop-done.done c.args.octets.now;
  rest = drop c.loop-done.done c.args.octets.now;
  parts = sym (take-append-drop c.loop-done.done c.args.octets.now);
  grown = subst (λ x. Lengthens c.args.domain (take c.loop-done.done c.args.octets.now) (g.F.Folder.files c.args.folder.now) x) (sym c.in-Err.ensures.kept) c.loop-done.invariant.written;
}

pub returns-clause-all : goal.returns-clause-all
returns-clause-all g c =
    let whole : length c.args.octets.now ≡ c.loop-done.done = omega arith in
    subst (λ (l : List ℕ). Lengthens c.args.domain l (g.F.Folder.files c.args.folder.now) (g.F.Folder.files c.loop-done.folder)) (take_all c.loop-done.done c.args.octets.now (omega arith)) c.loop-done.invariant.written
