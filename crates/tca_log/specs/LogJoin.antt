-- The join of logs: their union, where it is within the limit. Its laws, with their proofs.
use Rattle.std.specs.Prelude.{◌≡◌, ℕ, ◌≤◌, Bool, false, nat_lt, List, ◌++◌, length, Option, None, refl}
use Rattle.std.specs.List.Sorted.{IsStrictlySortedBy}
use Rattle.std.proofs.Common.{◌∙◌, sym, ap, subst, arith, le-ltb}
use Rattle.std.proofs.lemmas.Bool.{ltb-false}
use Rattle.tca_join.specs.Sets.{in_order}
use Rattle.tca_join.specs.Joins.{IsJoin}
use Rattle.tca_join.proofs.Sets.{rises_in_order}
use Rattle.tca_join.proofs.Unions.{union_commutes, union_associates, union_again, union_longer}
use Rattle.tca_report.specs.report.Reports.{PacketReport, report_cmp, most_reports}
use Rattle.tca_report.proofs.lemmas.report.Order.{report_total, report_exact}

-- a log's set rises strictly and has at most 4,194,304 reports
pub record IsLogSet (rs : List PacketReport) : Type 0 where
  pub rises : IsStrictlySortedBy report_cmp rs
  pub limit : length rs ≤ most_reports

-- no two logs clash
abbrev pub log_clash : List PacketReport → List PacketReport → Option ℕ
log_clash a b = None

-- the union of two logs
abbrev pub log_joined : List PacketReport → List PacketReport → List PacketReport
log_joined a b = in_order report_cmp (a ++ b)

-- whether the union has too many reports
abbrev pub log_full : List PacketReport → List PacketReport → Bool
log_full a b = nat_lt most_reports (length (log_joined a b))

few : (a b : List PacketReport) → log_full a b ≡ false → length (log_joined a b) ≤ most_reports
few a b h = ltb-false most_reports (length (log_joined a b)) h

fits : (a b : List PacketReport) → length (log_joined a b) ≤ most_reports → log_full a b ≡ false
fits a b h = le-ltb most_reports (length (log_joined a b)) h

commutes : (a b : List PacketReport) → log_joined a b ≡ log_joined b a
commutes = union_commutes report_cmp report_total report_exact

associates : (a b c : List PacketReport) → log_joined (log_joined a b) c ≡ log_joined a (log_joined b c)
associates = union_associates report_cmp report_total report_exact

-- the right two have fewer reports than all three
within_all : (a b c : List PacketReport) → length (log_joined b c) ≤ length (log_joined (log_joined a b) c)
within_all a b c =
    let one = union_longer report_cmp report_total report_exact (log_joined b c) a (rises_in_order report_cmp report_total _) in
    let same : log_joined (log_joined b c) a ≡ log_joined (log_joined a b) c = commutes (log_joined b c) a ∙ sym (associates a b c) in
    omega (arith, one, ap length same)

pub log_laws : IsJoin IsLogSet log_clash log_full (λ a b. a ≡ b) log_joined
log_laws = record {
  itself = λ a. refl;
  back = λ a b h. sym h;
  through = λ a b c h k. h ∙ k;
  stays = λ a b p q e. record { rises = rises_in_order report_cmp report_total _; limit = few a b e.1 };
  alike = λ a b x y p q r s h k e. ((refl, subst (λ z. log_full z y ≡ false) h (subst (λ z. log_full a z ≡ false) k e.1)), λ i. log_joined (h i) (k i));
  again = λ a p.
      let is = union_again report_cmp report_total report_exact a p.rises in
      ((refl, fits a a (omega (arith, ap length is, p.limit))), is);
  commutes = λ a b p q e. ((refl, ap (λ (z : List PacketReport). nat_lt most_reports (length z)) (commutes b a) ∙ e.1), commutes a b);
  associates = λ a b c p q r e f.
      let all = few (log_joined a b) c f.1 in (
        (refl, fits b c (omega (arith, within_all a b c, all))),
        (refl, fits a (log_joined b c) (omega (arith, ap length (associates a b c), all))),
        associates a b c,
      );
}
