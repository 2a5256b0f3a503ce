-- The totals of accounts whose lines are all read.
use Rattle.std.proofs.Common.{◌≡◌, ◌⊎◌, inl, inr, ◌++◌, ◌∷◌, [], ℕ, List, arith, subst, sym, ap, ◌∙◌}
use Rattle.std.specs.List.{AllByRecursion}
use Rattle.tca_figures.specs.Figures.{IsSummed}
use Rattle.tca_figures.specs.Lines.{end_line, name_line}
use Rattle.tca_figures.specs.inside.Progress.{Follow, Follows, FollowsAt, IsSound, IsWrongSum, Progress}
use Rattle.tca_figures.specs.declared.reader.Stage.{Stage}
use Rattle.tca_figures.specs.declared.reader.Stage.TheVariants as stages

-- what holds of all holds of those in front and of those behind
pub both_parts : {X : Type 0} (P : X → Type 0) (xs ys : List X) → AllByRecursion P (xs ++ ys) → AllByRecursion P xs × AllByRecursion P ys
both_parts P [] ys h = (tt, h)
both_parts P (x ∷ xs) ys h = let more = both_parts P xs ys h.1 in ((h.0, more.0), more.1)

-- a line leaves the accounts whose lines are all read, or it ends those of one more
grows_at : (stage : Stage) (p : Progress) (line : List ℕ) (q : Progress) → FollowsAt stage p line q
    → (q.stated.accounts ≡ p.stated.accounts) ⊎ (q.stated.accounts ≡ p.stated.accounts ++ p.account ∷ [])
grows_at stages.Title p line q h = inl (ap (λ z. z.stated.accounts) h.1)
grows_at stages.Period p line q h = inl (ap (λ z. z.stated.accounts) h.4)
grows_at stages.Reports p line q h = inl (ap (λ z. z.stated.accounts) h.2)
grows_at stages.Disputed p line q h = inl (ap (λ z. z.stated.accounts) h.2)
grows_at stages.Unassigned p line q h = inl (ap (λ z. z.stated.accounts) h.2)
grows_at stages.Account p line q h = inl (ap (λ z. z.stated.accounts) h.next)
grows_at stages.Total p line q h = inl (ap (λ z. z.stated.accounts) h.3)
grows_at stages.Spans p line q (inl h) = inl (ap (λ z. z.stated.accounts) h.next)
grows_at stages.Spans p line q (inr (inl h)) = inr (ap (λ z. z.stated.accounts) h.next)
grows_at stages.Spans p line q (inr (inr h)) = inr (ap (λ z. z.stated.accounts) h.1)
grows_at stages.Ended p line q h = absurd h

sound_before : (p q : Progress) → (q.stated.accounts ≡ p.stated.accounts) ⊎ (q.stated.accounts ≡ p.stated.accounts ++ p.account ∷ []) → IsSound q → IsSound p
sound_before p q (inl e) h = subst (AllByRecursion IsSummed) e h
sound_before p q (inr e) h = (both_parts IsSummed p.stated.accounts (p.account ∷ []) (subst (AllByRecursion IsSummed) e h)).0

-- what is right behind lines is right in front of them
pub sound_back : (p : Progress) (lines : List (List ℕ)) (q : Progress) → Follow p lines q → IsSound q → IsSound p
unfolding Follow
sound_back p [] q f h = subst IsSound f h
sound_back p (line ∷ lines) q f h = sound_before p f.0 (grows_at p.stage p line f.0 f.1) (sound_back f.0 lines q f.2 h)

first_octet : (a b : ℕ) (xs ys : List ℕ) → a ∷ xs ≡ b ∷ ys → a ≡ b
first_octet a b xs ys e = cc

-- the last line, and that of a name, end the lines of the account in front of them
pub ends_at_end : (p : Progress) (line : List ℕ) (q : Progress) → line ≡ end_line → FollowsAt stages.Spans p line q → q.stated.accounts ≡ p.stated.accounts ++ p.account ∷ []
ends_at_end p line q e (inl h) = absurd (omega (arith, first_octet 101 115 _ _ (sym e ∙ h.line_is)))
ends_at_end p line q e (inr (inl h)) = absurd (omega (arith, first_octet 101 97 _ _ (sym e ∙ h.line_is)))
ends_at_end p line q e (inr (inr h)) = ap (λ z. z.stated.accounts) h.1

pub ends_at_name : (p : Progress) (line name : List ℕ) (q : Progress) → line ≡ name_line name → FollowsAt stages.Spans p line q → q.stated.accounts ≡ p.stated.accounts ++ p.account ∷ []
ends_at_name p line name q e (inl h) = absurd (omega (arith, first_octet 97 115 _ _ (sym e ∙ h.line_is)))
ends_at_name p line name q e (inr (inl h)) = ap (λ z. z.stated.accounts) h.next
ends_at_name p line name q e (inr (inr h)) = absurd (omega (arith, first_octet 97 101 _ _ (sym e ∙ h.0)))

-- no line ends an account whose total is wrong in front of lines behind which all totals are right
pub no_wrong_sum : (p : Progress) (line : List ℕ) (q : Progress) → Follows p line q → IsSound q → IsWrongSum p line → ⊥
no_wrong_sum p line q h sound w = w.wrong (both_parts IsSummed p.stated.accounts (p.account ∷ []) (subst (AllByRecursion IsSummed) (w.ends q h) sound)).1.0
