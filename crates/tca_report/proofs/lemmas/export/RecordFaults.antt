-- The first report of a list of octets that is out of range or order is the one that the reading stops at, and no other.
use Rattle.std.proofs.Common.{◌≡◌, ℕ, zero, suc, ◌+◌, Bool, true, false, cond, List, [], ◌∷◌, ◌++◌, length, Option, Some, Result, Ok, Err, refl, sym, ap, subst, ◌∙◌, arith, inl, inr, append_assoc}
use Rattle.std.specs.Prelude.{◌⊎◌}
use Rattle.std.specs.List.{flat_map, AllByRecursion}
use Rattle.std.proofs.lemmas.List.Concat.{flat_map-cons}
use Rattle.tca_report.specs.report.Reports.{PacketReport, InRange, in_range}
use Rattle.tca_report.specs.export.Spelling.{record_octets, records_size, HaveSessions}
use Rattle.tca_report.specs.export.Reading.{record_at, above, with_first, records_at}
use Rattle.tca_report.specs.export.FirstFaults.{HasWidths}
use Rattle.tca_report.specs.declared.export.Format.{Format}
use Rattle.tca_report.specs.declared.export.ExportFault.{ExportFault}
use Rattle.tca_report.specs.declared.export.ExportFault.TheVariants.{Range, Order}
use Rattle.tca_report.proofs.lemmas.export.ReadingLoop.{rest_length, size_more}
use Rattle.tca_report.proofs.lemmas.export.Records.{IsBytes, record_again, record_takes, in_range_true, in_range_widths, Follows, follows_head, follows_more, follows_none, records_step, widths_at, ranges_at, rest_fits}

-- the last report, if only of those before
abbrev pub last_of : Option PacketReport → List PacketReport → Option PacketReport
last_of last [] = last
last_of last (r ∷ rs) = last_of (Some r) rs

-- one more report behind those that rise, above the last of them
pub follows_snoc : (last : Option PacketReport) (rs : List PacketReport) (r : PacketReport) → Follows last rs → above (last_of last rs) r ≡ true → Follows last (rs ++ r ∷ [])
follows_snoc last [] r follows higher = follows_more last r [] higher (follows_none (Some r))
follows_snoc last (x ∷ xs) r follows higher =
    let head = follows_head last x xs follows in
    follows_more last x (xs ++ r ∷ []) head.0 (follows_snoc (Some x) xs r head.1 higher)

pub follows_last : (last : Option PacketReport) (rs : List PacketReport) (r : PacketReport) → Follows last (rs ++ r ∷ []) → above (last_of last rs) r ≡ true
follows_last last [] r follows = (follows_head last r [] follows).0
follows_last last (x ∷ xs) r follows = follows_last (Some x) xs r (follows_head last x (xs ++ r ∷ []) follows).1

-- the report of this number is out of range, or in range and not above the last
abbrev pub IsWrong : ℕ → Option PacketReport → PacketReport → ExportFault → Type 0
IsWrong n last r fault = ((in_range r ≡ false) × (fault ≡ Range n)) ⊎ ((in_range r ≡ true) × (above last r ≡ false) × (fault ≡ Order n))

-- reports that are right, and behind them one that is wrong
pub record IsUpTo (format : Format) (n : ℕ) (last : Option PacketReport) (octets : List ℕ) (fault : ExportFault) : Type 0 where
  pub before : List PacketReport
  pub r : PacketReport
  pub behind : List ℕ
  pub whole : octets ≡ flat_map (record_octets format) before ++ (record_octets format r ++ behind)
  pub follows : Follows last before
  pub ranges : AllByRecursion InRange before
  pub sessions : HaveSessions format before
  pub widths : HasWidths format r
  pub wrong : IsWrong (n + length before) (last_of last before) r fault

passed : (b : Bool) (x : Result (List PacketReport) ExportFault) (f g : ExportFault) → cond b x (Err f) ≡ Err g → ((b ≡ false) × (f ≡ g)) ⊎ ((b ≡ true) × (x ≡ Err g))
passed true x f g e = inr (refl, e)
passed false x f g e = inl (refl, cc)

first_refused : (r : PacketReport) (read : Result (List PacketReport) ExportFault) (fault : ExportFault) → with_first r read ≡ Err fault → read ≡ Err fault
first_refused r (Ok rs) fault e = absurd cc
first_refused r (Err f) fault e = cc

pub first_wrong : (format : Format) (count n : ℕ) (last : Option PacketReport) (octets : List ℕ) (fault : ExportFault) → IsBytes octets → length octets ≡ records_size format count
    → records_at format count n last octets ≡ Err fault → IsUpTo format n last octets fault
unfolding records_at
first_wrong format zero n last octets fault fits long e = absurd cc
first_wrong format (suc count) n last octets fault fits long e =
    let x = record_at format octets in
    let size = size_more format count in
    let here : octets ≡ record_octets format x.0 ++ x.1 = sym (record_takes format octets fits (omega (arith, long, size))) in
    let widths = widths_at format octets fits in
    let none : n ≡ n + 0 = omega arith in
    elim (passed (in_range x.0) _ (Range n) fault e) [
      | inl bad ↦ record {
        before = [];
        r = x.0;
        behind = x.1;
        whole = here;
        follows = follows_none last;
        ranges = tt;
        sessions = tt;
        widths = widths;
        wrong = inl (bad.0, sym bad.1 ∙ ap (λ (k : ℕ). Range k) none);
      }
      | inr range ↦ elim (passed (above last x.0) _ (Order n) fault range.1) [
        | inl low ↦ record {
          before = [];
          r = x.0;
          behind = x.1;
          whole = here;
          follows = follows_none last;
          ranges = tt;
          sessions = tt;
          widths = widths;
          wrong = inr (range.0, low.0, sym low.1 ∙ ap (λ (k : ℕ). Order k) none);
        }
        | inr more ↦
            let rest = first_wrong format count (n + 1) (Some x.0) x.1 fault (rest_fits format octets fits) (omega (arith, rest_length format octets, long, size)) (first_refused x.0 _ fault more.1) in
            let tail = record_octets format rest.r ++ rest.behind in
            let far : n + 1 + length rest.before ≡ n + length (x.0 ∷ rest.before) = omega arith in
            record {
              before = x.0 ∷ rest.before;
              r = rest.r;
              behind = rest.behind;
              whole =
                  here ∙ ap (λ (l : List ℕ). record_octets format x.0 ++ l) rest.whole
                  ∙ sym (append_assoc (record_octets format x.0) (flat_map (record_octets format) rest.before) tail)
                  ∙ ap (λ (l : List ℕ). l ++ tail) (sym (flat_map-cons (record_octets format) x.0 rest.before));
              follows = follows_more last x.0 rest.before more.0 rest.follows;
              ranges = (ranges_at format octets fits range.0, rest.ranges);
              sessions = (widths.session, rest.sessions);
              widths = rest.widths;
              wrong = subst (λ (k : ℕ). IsWrong k (last_of (Some x.0) rest.before) rest.r fault) far rest.wrong;
            }
      ]
    ]

range_stops : (format : Format) (count n : ℕ) (last : Option PacketReport) (octets : List ℕ) (r : PacketReport) (rest : List ℕ) → record_at format octets ≡ (r, rest) → in_range r ≡ false
    → records_at format (suc count) n last octets ≡ Err (Range n)
unfolding records_at
range_stops format count n last octets r rest e range =
    ap (λ (x : PacketReport × List ℕ). cond (in_range x.0) (cond (above last x.0) (with_first x.0 (records_at format count (n + 1) (Some x.0) x.1)) (Err (Order n))) (Err (Range n))) e
    ∙ rw range refl

order_stops : (format : Format) (count n : ℕ) (last : Option PacketReport) (octets : List ℕ) (r : PacketReport) (rest : List ℕ) → record_at format octets ≡ (r, rest) → in_range r ≡ true → above last r ≡ false
    → records_at format (suc count) n last octets ≡ Err (Order n)
unfolding records_at
order_stops format count n last octets r rest e range order =
    ap (λ (x : PacketReport × List ℕ). cond (in_range x.0) (cond (above last x.0) (with_first x.0 (records_at format count (n + 1) (Some x.0) x.1)) (Err (Order n))) (Err (Range n))) e
    ∙ rw (range, order) refl

-- the reading stops at the first report that is wrong
pub stops_at : (format : Format) (before : List PacketReport) (count k n : ℕ) (last : Option PacketReport) (r : PacketReport) (behind : List ℕ) (fault : ExportFault)
    → count ≡ suc (length before + k) → Follows last before → AllByRecursion InRange before → HaveSessions format before → HasWidths format r
    → IsWrong (n + length before) (last_of last before) r fault
    → records_at format count n last (flat_map (record_octets format) before ++ (record_octets format r ++ behind)) ≡ Err fault
stops_at format [] count k n last r behind fault many follows ranges sessions widths wrong =
    let none : n + 0 ≡ n = omega arith in
    let one : count ≡ suc k = omega (arith, many) in
    let octets = record_octets format r ++ behind in
    let here = record_again format r behind widths in
    ap (λ (c : ℕ). records_at format c n last octets) one
    ∙ elim wrong [
      | inl bad ↦ range_stops format k n last octets r behind here bad.0 ∙ ap (λ (m : ℕ). Err (Range m)) (sym none) ∙ ap (λ (f : ExportFault). Err f) (sym bad.1)
      | inr low ↦ order_stops format k n last octets r behind here low.0 low.1 ∙ ap (λ (m : ℕ). Err (Order m)) (sym none) ∙ ap (λ (f : ExportFault). Err f) (sym low.2)
    ]
stops_at format (x ∷ xs) count k n last r behind fault many follows ranges sessions widths wrong =
    let tail = record_octets format r ++ behind in
    let octets = flat_map (record_octets format) (x ∷ xs) ++ tail in
    let rest = flat_map (record_octets format) xs ++ tail in
    let m = suc (length xs + k) in
    let one : count ≡ suc m = omega (arith, many) in
    let far : n + length (x ∷ xs) ≡ n + 1 + length xs = omega arith in
    let parts : octets ≡ record_octets format x ++ rest =
    ap (λ (l : List ℕ). l ++ tail) (flat_map-cons (record_octets format) x xs) ∙ append_assoc (record_octets format x) (flat_map (record_octets format) xs) tail in
    let here : record_at format octets ≡ (x, rest) = ap (record_at format) parts ∙ record_again format x rest (in_range_widths format x ranges.0 sessions.0) in
    let head = follows_head last x xs follows in
    ap (λ (c : ℕ). records_at format c n last octets) one
    ∙ records_step format m n last octets x rest here (in_range_true x ranges.0) head.0
    ∙ ap (with_first x) (stops_at format xs m k (n + 1) (Some x) r behind fault refl head.1 ranges.1 sessions.1 widths (subst (λ (j : ℕ). IsWrong j (last_of (Some x) xs) r fault) far wrong))
