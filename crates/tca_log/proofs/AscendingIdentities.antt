-- Reports whose identities ascend: no two have one identity.
use Rattle.std.proofs.Common.{◌≡◌, ℕ, ◌+◌, ◌≤◌, Bool, true, false, cond, List, [], ◌∷◌, ◌++◌, refl, sym, ap, subst, ◌∙◌, le-ltb, arith}
use Rattle.std.specs.Cmp.{Equal-is, tied_itself}
use Rattle.std.specs.List.Sorted.{IsStrictlySortedBy}
use Rattle.std.specs.Ordering.{eq_by_cmp}
use Rattle.std.specs.declared.cmp.Ordering.TheVariants.{Less, Equal}
use Rattle.tca_join.specs.Sets.{has}
use Rattle.tca_report.specs.report.Reports.{PacketReport}
use Rattle.tca_report.specs.report.Identities.{identity_of, identity_cmp, identity_total}
use Rattle.tca_report.specs.declared.report.Identity.{Identity}
use Rattle.tca_report.proofs.lemmas.report.Identities.{identity_exact}
use Rattle.tca_log.specs.Disputes.{contents, disputed}
use Rattle.tca_log.specs.inside.Logs.{count_at}
use Rattle.tca_log.proofs.Contents.{disputed_is}
use Rattle.tca_log.proofs.ReportAdditions.{count_snoc}

differ : (i j : Identity) → (i ≡ j → ⊥) → eq_by_cmp identity_cmp i j ≡ false
differ i j apart = by (eq_by_cmp identity_cmp i j) refl
  where
    by : (b : Bool) → eq_by_cmp identity_cmp i j ≡ b → b ≡ false
    by true e = absurd (apart (identity_exact i j ((Equal-is (identity_cmp i j)).0 e)))
    by false e = refl

-- no report that was seen is above an identity, and no two have one identity
pub record AreBelow (seen : List PacketReport) (last : Identity) : Type 0 where
  pub beyond : (i : Identity) → identity_cmp last i ≡ Less → count_at seen i ≡ 0
  pub alone : (i : Identity) → count_at seen i ≤ 1

-- an identity doesn't come before itself
unlike : (i : Identity) → identity_cmp i i ≡ Less → ⊥
unlike i less = let l : Equal ≡ Less = sym (tied_itself identity_total i) ∙ less in absurd cc

counted_less : (seen : List PacketReport) (r : PacketReport) (i : Identity) → identity_cmp (identity_of r) i ≡ Less → count_at (seen ++ r ∷ []) i ≡ count_at seen i
counted_less seen r i less =
    let apart : i ≡ identity_of r → ⊥ = λ same. unlike i (subst (λ (j : Identity). identity_cmp j i ≡ Less) (sym same) less) in
    let more : count_at (seen ++ r ∷ []) i ≡ count_at seen i + 0 = count_snoc seen r i ∙ ap (λ (b : Bool). count_at seen i + cond b 1 0) (differ i (identity_of r) apart) in
    omega (arith, more)

-- one report more, which none that was seen has the identity of
one_more : (seen : List PacketReport) (r : PacketReport) → ((i : Identity) → count_at seen i ≤ 1) → count_at seen (identity_of r) ≡ 0 → (i : Identity) → count_at (seen ++ r ∷ []) i ≤ 1
one_more seen r alone none i = subst (λ (n : ℕ). n ≤ 1) (sym (count_snoc seen r i)) (by (eq_by_cmp identity_cmp i (identity_of r)) refl)
  where
    by : (b : Bool) → eq_by_cmp identity_cmp i (identity_of r) ≡ b → count_at seen i + cond b 1 0 ≤ 1
    by true e =
        let same : i ≡ identity_of r = identity_exact i (identity_of r) ((Equal-is (identity_cmp i (identity_of r))).0 e) in
        let first : count_at seen i ≡ 0 = subst (λ (j : Identity). count_at seen j ≡ 0) (sym same) none in
        omega (arith, first)
    by false e = omega (arith, alone i)

pub none_alone : (i : Identity) → count_at [] i ≤ 1
unfolding contents
none_alone i = omega arith

pub below_first : (r : PacketReport) → AreBelow (r ∷ []) (identity_of r)
unfolding contents
below_first r = record { beyond = λ i less. counted_less [] r i less; alone = one_more [] r (λ i. omega arith) refl }

pub below_more : (seen : List PacketReport) (last : Identity) (r : PacketReport) → AreBelow seen last → identity_cmp last (identity_of r) ≡ Less → AreBelow (seen ++ r ∷ []) (identity_of r)
below_more seen last r so_far above = record {
  beyond = λ i less. counted_less seen r i less ∙ so_far.beyond i (identity_total.trans last (identity_of r) i above less);
  alone = one_more seen r so_far.alone (so_far.beyond (identity_of r) above);
}

-- where no identity has two members none is disputed
pub none_disputed : (rs : List PacketReport) → ((i : Identity) → count_at rs i ≤ 1) → disputed rs ≡ []
unfolding IsStrictlySortedBy has
none_disputed rs alone = sym (disputed_is rs [] tt (λ i. sym (le-ltb 1 (count_at rs i) (alone i))))
