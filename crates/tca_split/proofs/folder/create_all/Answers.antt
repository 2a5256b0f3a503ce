use Rattle.std.proofs.Common.{◌∙◌, take, drop, sym, subst}
use Rattle.std.proofs.lemmas.List.{take-append-drop}
use Rattle.tca_split.specs.Folders.{Creates}
use Rattle.tca_split.proofs.OnResults.{on_err}
use Rattle.tca_split.proofs.folder.create_all.Goals as goal

pub returns-then-is_err-clause-part : goal.returns-then-is_err-clause-part
returns-then-is_err-clause-part g c =
    let made = take c.loop-domain.domain-index c.args.domains.now in
    record {
      made = made;
      rest = drop c.loop-domain.domain-index c.args.domains.now;
      parts = sym (take-append-drop c.loop-domain.domain-index c.args.domains.now);
      creates = subst (λ x. Creates made (g.F.Folder.files c.args.folder.now) x) (sym (on_err _ c.create.result (sym c.is_err.ensures.value ∙ c.if-is_err.true) c.create.ensures.kept)) c.loop-domain.invariant.made;
    }
