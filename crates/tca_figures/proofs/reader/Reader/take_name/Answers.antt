use Rattle.std.proofs.Common.{◌≡◌, rules, refl, subst, sym, true}
use Rattle.tca_figures.specs.inside.Progress.{FollowsAt, IsOpened, is_kept, opened}
use Rattle.tca_figures.proofs.reader.Reader.take_name.Goals as goal

pub returns-in_err-self-inside-clause-memory : goal.returns-in_err-self-inside-clause-memory
returns-in_err-self-inside-clause-memory c e =
    let q = opened c.in-Some.name.now c.args.self.now in
    let is_opened : IsOpened c.args.self.now c.args.line.now q = search rules in
    record {
      kept = subst (λ stage. is_kept stage ≡ true) (sym c.requires) refl;
      next = q;
      follows = subst (λ stage. FollowsAt stage c.args.self.now c.args.line.now q) (sym c.requires) is_opened;
      sound = λ h. h;
    }
