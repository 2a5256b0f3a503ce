use Rattle.std.proofs.Common.{rules, sym, subst, inl, inr, refl, true, ◌≡◌, ◌++◌, ◌∷◌, []}
use Rattle.tca_figures.specs.Lines.{end_line}
use Rattle.tca_figures.specs.Figures.{IsSpan, IsSummed}
use Rattle.tca_figures.specs.inside.Progress.{FollowsAt, Progress, closed, ended, is_kept, opened}
use Rattle.tca_figures.proofs.Ascending.{all_push}
use Rattle.tca_figures.proofs.Sound.{ends_at_end, ends_at_name}
use Rattle.tca_figures.proofs.reader.Reader.take_behind_total.Goals as goal

pub returns-then-eq-clause-sum : goal.returns-then-eq-clause-sum
returns-then-eq-clause-sum c e =
    let is_end : c.args.line.now ≡ end_line = search rules in
    record {
      next = ended c.args.self.now;
      follows = subst (λ stage. FollowsAt stage c.args.self.now c.args.line.now (ended c.args.self.now)) (sym c.requires) (inr (inr (is_end, refl)));
      ends = λ q h. ends_at_end c.args.self.now c.args.line.now q is_end (subst (λ stage. FollowsAt stage c.args.self.now c.args.line.now q) c.requires h);
      wrong = c.take_end.ensures.sum e;
    }

pub returns-in-Some-name_in-clause-sum : goal.returns-in-Some-name_in-clause-sum
returns-in-Some-name_in-clause-sum c e =
    let s = c.take_next_name.ensures.sum e in
    record {
      next = opened c.in-Some-name_in.name.now (closed c.args.self.now);
      follows = subst (λ stage. FollowsAt stage c.args.self.now c.args.line.now (opened c.in-Some-name_in.name.now (closed c.args.self.now)))
          (sym c.requires) (inr (inl (rw c.in-Some-name_in.ensures.found.0 s.1)));
      ends = λ q h. ends_at_name c.args.self.now c.args.line.now c.in-Some-name_in.name.now q c.in-Some-name_in.ensures.found.0
          (subst (λ stage. FollowsAt stage c.args.self.now c.args.line.now q) c.requires h);
      wrong = s.0;
    }

pub returns-in-Some-clause-memory : goal.returns-in-Some-clause-memory
returns-in-Some-clause-memory c e =
    let p = c.args.self.now in
    let span = c.in-Some.span in
    let found = c.in-Some.ensures.found in
    let is_span : IsSpan p.stated.period span = subst (λ (q : Progress). IsSpan q.stated.period span) c.self.view_is found.1 in
    let q = record p { account = record p.account { spans = p.account.spans ++ span ∷ [] } } in
    record {
      kept = subst (λ stage. is_kept stage ≡ true) (sym c.requires) refl;
      next = q;
      follows = subst (λ stage. FollowsAt stage p c.args.line.now q) (sym c.requires)
          (inl (record { span = span; line_is = found.0; is_span = is_span; behind = c.take_span.ensures.memory e; next = refl }));
      sound = λ h. h;
    }

pub returns-then-eq-clause-memory : goal.returns-then-eq-clause-memory
returns-then-eq-clause-memory c e =
    let p = c.args.self.now in
    let is_end : c.args.line.now ≡ end_line = search rules in
    record {
      kept = subst (λ stage. is_kept stage ≡ true) (sym c.requires) refl;
      next = ended p;
      follows = subst (λ stage. FollowsAt stage p c.args.line.now (ended p)) (sym c.requires) (inr (inr (is_end, refl)));
      sound = λ h. all_push IsSummed p.stated.accounts p.account h (c.take_end.ensures.memory e);
    }

pub returns-in-Some-name_in-clause-memory : goal.returns-in-Some-name_in-clause-memory
returns-in-Some-name_in-clause-memory c e =
    let p = c.args.self.now in
    let s = c.take_next_name.ensures.memory e in
    let q = opened c.in-Some-name_in.name.now (closed p) in
    record {
      kept = subst (λ stage. is_kept stage ≡ true) (sym c.requires) refl;
      next = q;
      follows = subst (λ stage. FollowsAt stage p c.args.line.now q) (sym c.requires) (inr (inl (rw c.in-Some-name_in.ensures.found.0 s.1)));
      sound = λ h. all_push IsSummed p.stated.accounts p.account h s.0;
    }
