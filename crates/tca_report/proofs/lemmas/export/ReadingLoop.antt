-- Reading reports one after the other, as a loop does.
use Rattle.std.proofs.Common.{◌≡◌, ℕ, suc, ◌-◌, ◌+◌, ◌≤◌, ◌<◌, true, false, cond, List, [], ◌∷◌, ◌++◌, Option, Some, None, Result, Ok, Err, refl, sym, ap, ◌∙◌, append_assoc, arith, length, drop}
use Rattle.std.proofs.lemmas.List.{length-drop}
use Rattle.std.proofs.lemmas.List.{append-nil}
use Rattle.std.specs.Prelude.{IsOkAnd}
use Rattle.tca_report.specs.declared.export.Format.{Format}
use Rattle.tca_report.specs.declared.export.Format.TheVariants.{Version1, Version2}
use Rattle.tca_report.specs.declared.export.ExportFault.{ExportFault}
use Rattle.tca_report.specs.declared.export.ExportFault.TheVariants.{Range, Order}
use Rattle.tca_report.specs.report.Reports.{PacketReport, in_range, ranged}
use Rattle.tca_report.specs.export.Spelling.{session_size, record_size, records_size}
use Rattle.tca_report.specs.export.Reading.{session_at, record_at, above, with_first, records_at}

-- what was read before, and what is still read
abbrev pub with_front : List PacketReport → Result (List PacketReport) ExportFault → Result (List PacketReport) ExportFault
with_front front (Ok rs) = Ok (front ++ rs)
with_front front (Err e) = Err e

-- nothing was read before
pub none_before : (read : Result (List PacketReport) ExportFault) → with_front [] read ≡ read
none_before (Ok rs) = refl
none_before (Err e) = refl

-- a whole list has so many reports
pub counted_whole : (front : List PacketReport) (count : ℕ) (read : Result (List PacketReport) ExportFault) → read ≡ Ok front → length front ≡ count → IsOkAnd read (λ rs. length rs ≡ count)
counted_whole front count read e n = rw e n

regroup : (front : List PacketReport) (r : PacketReport) (read : Result (List PacketReport) ExportFault) → with_front front (with_first r read) ≡ with_front (front ++ r ∷ []) read
regroup front r (Ok rs) = ap (λ (l : List PacketReport). Ok l) (sym (append_assoc front (r ∷ []) rs))
regroup front r (Err e) = refl

module _ (format : Format) (front : List PacketReport) (count i : ℕ) (last : Option PacketReport) (octets : List ℕ) (total : Result (List PacketReport) ExportFault) (lt : i < count)
    (so_far : with_front front (records_at format (count - i) i last octets) ≡ total) where
  left : count - i ≡ suc (count - (i + 1))
  left = omega arith

  pub goes_on : in_range (record_at format octets).0 ≡ true → above last (record_at format octets).0 ≡ true
      → with_front (front ++ (record_at format octets).0 ∷ []) (records_at format (count - (i + 1)) (i + 1) (Some (record_at format octets).0) (record_at format octets).1) ≡ total
  unfolding records_at
  goes_on range order =
      let one : with_front front (records_at format (count - i) i last octets) ≡ with_front (front ++ (record_at format octets).0 ∷ []) (records_at format (count - (i + 1)) (i + 1) (Some (record_at format octets).0) (record_at format octets).1) =
      rw (left, range, order) (regroup front (record_at format octets).0 (records_at format (count - (i + 1)) (i + 1) (Some (record_at format octets).0) (record_at format octets).1)) in
      sym one ∙ so_far

  pub range_ends : in_range (record_at format octets).0 ≡ false → total ≡ Err (Range i)
  unfolding records_at
  range_ends range =
      let one : with_front front (records_at format (count - i) i last octets) ≡ Err (Range i) = rw (left, range) refl in
      sym so_far ∙ one

  pub order_ends : in_range (record_at format octets).0 ≡ true → above last (record_at format octets).0 ≡ false → total ≡ Err (Order i)
  unfolding records_at
  order_ends range order =
      let one : with_front front (records_at format (count - i) i last octets) ≡ Err (Order i) = rw (left, range, order) refl in
      sym so_far ∙ one

pub is_done : (format : Format) (front : List PacketReport) (count i : ℕ) (last : Option PacketReport) (octets : List ℕ) (total : Result (List PacketReport) ExportFault) → count ≤ i → with_front front (records_at format (count - i) i last octets) ≡ total → total ≡ Ok front
unfolding records_at
is_done format front count i last octets total le so_far =
    let k : count - i ≡ 0 = omega arith in
    let one : with_front front (records_at format (count - i) i last octets) ≡ Ok front = rw k (ap (λ (l : List PacketReport). Ok l) (append-nil front)) in
    sym so_far ∙ one

pub ranged_none : (r : PacketReport) → None ≡ ranged r → in_range r ≡ false
ranged_none r e = elim (in_range r) as (λ b. None ≡ cond b (Some r) None → b ≡ false) [ true ↦ λ e. absurd cc | false ↦ λ e. refl ] e

pub ranged_some : (r s : PacketReport) → Some s ≡ ranged r → (in_range r ≡ true) × (s ≡ r)
ranged_some r s e = elim (in_range r) as (λ b. Some s ≡ cond b (Some r) None → (b ≡ true) × (s ≡ r)) [ true ↦ λ e. (refl, cc) | false ↦ λ e. absurd cc ] e

pub session_rest : (format : Format) (octets : List ℕ) → length (session_at format octets).1 ≡ length octets - session_size format
session_rest Version1 octets = omega arith
session_rest Version2 octets = length-drop 4 octets

pub rest_length : (format : Format) (octets : List ℕ) → length (record_at format octets).1 ≡ length octets - record_size format
rest_length format octets =
    let a = drop 8 octets in
    let b = drop 4 a in
    let s = (session_at format b).1 in
    let c = drop 4 s in
    let d = drop 4 c in
    let e = drop 1 d in
    omega (arith, length-drop 8 octets, length-drop 4 a, session_rest format b, length-drop 4 s, length-drop 4 c, length-drop 1 d, length-drop 4 e)

-- one report more takes so many octets more
pub size_more : (format : Format) (count : ℕ) → records_size format (suc count) ≡ record_size format + records_size format count
size_more Version1 count = omega arith
size_more Version2 count = omega arith

pub size_none : (format : Format) → records_size format 0 ≡ 0
size_none Version1 = refl
size_none Version2 = refl

-- the octets of the reports that are left
pub size_left : (format : Format) (count i : ℕ) → i < count → records_size format (count - i) ≡ record_size format + records_size format (count - (i + 1))
size_left format count i lt =
    let next : count - i ≡ suc (count - (i + 1)) = omega arith in
    ap (records_size format) next ∙ size_more format (count - (i + 1))
