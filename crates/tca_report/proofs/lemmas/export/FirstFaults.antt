-- The fault that an export is refused for is the first from the left, and the first from the left is the one that it is refused for.
use Rattle.std.proofs.Common.{◌≡◌, ◌≢◌, ℕ, suc, ◌+◌, ◌-◌, ◌^◌, ◌<◌, ◌≤◌, Bool, true, false, cond, not, List, ◌++◌, length, take, drop, Option, Some, None, Result, Ok, Err, refl, sym, ap, subst, ◌∙◌, arith, inl, inr, length-append, take_all}
use Rattle.std.specs.Prelude.{◌⊎◌, nat_lt, ◌==◌, IsErrOf, IsOkAnd}
use Rattle.std.specs.List.{flat_map}
use Rattle.std.specs.Int.{w16, w32, from_be_bytes, to_be_bytes}
use Rattle.std.proofs.lemmas.Bool.Decides.{nat_tests}
use Rattle.std.proofs.lemmas.List.{take-append-drop, take-append-le, length-take, length-drop}
use Rattle.std.proofs.lemmas.Nat.{from_be_bytes-to_be_bytes_2, from_be_bytes-to_be_bytes_4}
use Rattle.tca_join.specs.Results.{Gives}
use Rattle.tca_report.specs.report.Reports.{PacketReport, in_range, most_reports}
use Rattle.tca_report.specs.export.Spelling.{version_of, records_size, record_octets, header_octets, magic, IsExport}
use Rattle.tca_report.specs.export.Reading.{above, records_at, has_magic, format_of, counted, header_of, after_header, reading}
use Rattle.tca_report.specs.export.FirstFaults.{HasReport, IsFaultyExport, CutLetters, OtherLetters, CutHeader, OtherVersion, ManyReports, CutReports, MoreOctets, OutOfRange, NotAbove}
use Rattle.tca_report.specs.declared.export.Format.{Format}
use Rattle.tca_report.specs.declared.export.Format.TheVariants.{Version1, Version2}
use Rattle.tca_report.specs.declared.export.ExportFault.{ExportFault}
use Rattle.tca_report.specs.declared.export.ExportFault.TheVariants.{Magic, Version, Count, Cut, Range, Order, Memory}
use Rattle.tca_report.proofs.lemmas.export.Records.{IsBytes, octets_drop, octets_take, below_4, in_range_true, widths_in_range}
use Rattle.tca_report.proofs.lemmas.export.Spelling.{length-records, header_is, counted_is, header_of_all, version_in, format_holds, four_letters, version_spelled, header_spelled, IsRight, header_right, reading_takes}
use Rattle.tca_report.proofs.lemmas.export.RecordFaults.{last_of, follows_snoc, follows_last, IsWrong, first_wrong, stops_at}

-- one test of a chain of refusals: it refuses, or what follows it does
refused_by : (b : Bool) (f : ExportFault) (more : Result (Format × ℕ) ExportFault) (g : ExportFault) → cond b (Err f) more ≡ Err g → ((b ≡ true) × (f ≡ g)) ⊎ ((b ≡ false) × (more ≡ Err g))
refused_by true f more g e = inl (refl, cc)
refused_by false f more g e = inr (refl, e)

either : (b : Bool) → (b ≡ true) ⊎ (b ≡ false)
either true = inl refl
either false = inr refl

lt_true : (m n : ℕ) → m < n → nat_lt m n ≡ true
lt_true m n h = grind (arith, nat_tests, h)

lt_false : (m n : ℕ) → n ≤ m → nat_lt m n ≡ false
lt_false m n h = grind (arith, nat_tests, h)

lt_holds : (m n : ℕ) → nat_lt m n ≡ true → m < n
lt_holds m n h = grind (arith, nat_tests, h)

le_holds : (m n : ℕ) → nat_lt m n ≡ false → n ≤ m
le_holds m n h = grind (arith, nat_tests, h)

none_for : (n : ℕ) → n ≢ 1 → n ≢ 2 → format_of n ≡ None
none_for n one two =
    let p : (n == 1) ≡ false = grind (arith, nat_tests, one) in
    let q : (n == 2) ≡ false = grind (arith, nat_tests, two) in
    rw (p, q) refl

none_holds : (n : ℕ) → format_of n ≡ None → (n ≢ 1) × (n ≢ 2)
none_holds n e = (
  λ is. let some : format_of n ≡ Some Version1 = ap format_of is in absurd cc,
  λ is. let some : format_of n ≡ Some Version2 = ap format_of is in absurd cc,
)

not_true : (b : Bool) → not b ≡ true → b ≡ false
not_true true e = absurd cc
not_true false e = refl

not_false : (b : Bool) → not b ≡ false → b ≡ true
not_false true e = refl
not_false false e = absurd cc

true_false : true ≡ false → ⊥
true_false e = absurd cc

same_fault : (f g : ExportFault) → let x : Result (List PacketReport) ExportFault = Err f in x ≡ Err g → f ≡ g
same_fault f g e = cc

below_2 : (octets : List ℕ) → IsBytes octets → from_be_bytes w16 (take 2 octets) < 2 ^ 16
below_2 octets fits = let h = octets_take 2 octets fits in omega (arith, h 0, h 1)

same_version : (f g : ExportFault) → let x : Result (Format × ℕ) ExportFault = Err f in x ≡ Err g → f ≡ g
same_version f g e = cc

-- what is wrong with version and count, and with how many octets follow them
counted_fault : (octets : List ℕ) (fault : ExportFault) → IsBytes octets → 10 ≤ length octets → has_magic octets ≡ true
    → (given : Option Format) → format_of (from_be_bytes w16 (take 2 (drop 4 octets))) ≡ given
    → counted (from_be_bytes w16 (take 2 (drop 4 octets))) (from_be_bytes w32 (take 4 (drop 6 octets))) (length octets) given ≡ Err fault → IsFaultyExport octets fault
counted_fault octets fault fits room right None k e =
    let version = from_be_bytes w16 (take 2 (drop 4 octets)) in
    let other = none_holds version k in
    OtherVersion version (drop 6 octets) (version_spelled octets fits room right) (below_2 (drop 4 octets) (octets_drop 4 octets fits))
    other.0 other.1 (omega (arith, length-drop 6 octets, room)) (sym (same_version (Version version) fault e))
counted_fault octets fault fits room right (Some format) k e =
    let version = from_be_bytes w16 (take 2 (drop 4 octets)) in
    let count = from_be_bytes w32 (take 4 (drop 6 octets)) in
    let size = length-drop 10 octets in
    let whole = header_spelled octets format fits room right (format_holds version format k) in
    elim (refused_by (nat_lt most_reports count) Count _ fault e) [
      | inl many ↦ ManyReports format count (drop 10 octets) whole (below_4 (drop 6 octets) (octets_drop 6 octets fits)) (lt_holds _ _ many.0) (sym many.1)
      | inr some ↦ elim (refused_by (nat_lt (length octets) (10 + records_size format count)) Cut _ fault some.1) [
        | inl cut ↦ CutReports format count (drop 10 octets) whole (le_holds _ _ some.0) (omega (arith, size, room, lt_holds _ _ cut.0)) (sym cut.1)
        | inr enough ↦ elim (refused_by (nat_lt (10 + records_size format count) (length octets)) Count _ fault enough.1) [
          | inl more ↦ MoreOctets format count (drop 10 octets) whole (le_holds _ _ some.0) (omega (arith, size, room, lt_holds _ _ more.0)) (sym more.1)
          | inr fails ↦ absurd cc
        ]
      ]
    ]

-- what is wrong with a header, and with how many octets follow it
header_fault : (octets : List ℕ) (fault : ExportFault) → IsBytes octets → header_of octets ≡ Err fault → IsFaultyExport octets fault
unfolding header_of
header_fault octets fault fits e =
    let version = from_be_bytes w16 (take 2 (drop 4 octets)) in
    elim (refused_by (nat_lt (length octets) 4) Cut _ fault e) [
      | inl few ↦ CutLetters (lt_holds _ _ few.0) (sym few.1)
      | inr four ↦ elim (refused_by (not (has_magic octets)) Magic _ fault four.1) [
        | inl other ↦
            let long = le_holds _ _ four.0 in
            let fails : has_magic octets ≡ false = not_true (has_magic octets) other.0 in
            OtherLetters (take 4 octets) (drop 4 octets) (sym (take-append-drop 4 octets)) (omega (arith, length-take 4 octets, long))
            (λ is.
            let whole : octets ≡ magic ++ drop 4 octets = sym (take-append-drop 4 octets) ∙ ap (λ (z : List ℕ). z ++ drop 4 octets) is in
            let holds : has_magic octets ≡ true = ap has_magic whole in
            absurd cc)
            (sym other.1)
        | inr letters ↦
            let long = le_holds _ _ four.0 in
            let right : has_magic octets ≡ true = not_false (has_magic octets) letters.0 in
            elim (refused_by (nat_lt (length octets) 10) Cut _ fault letters.1) [
              | inl few ↦ CutHeader (drop 4 octets) (sym (four_letters octets long right)) (omega (arith, length-drop 4 octets, long, lt_holds _ _ few.0)) (sym few.1)
              | inr ten ↦ counted_fault octets fault fits (le_holds _ _ ten.0) right (format_of version) refl ten.1
            ]
      ]
    ]

-- what is wrong with a report behind a right header
report_fault : (octets : List ℕ) (format : Format) (count : ℕ) (fault : ExportFault) → IsBytes octets → IsRight octets format count
    → records_at format count 0 None (drop 10 octets) ≡ Err fault → IsFaultyExport octets fault
report_fault octets format count fault fits right e =
    let u = first_wrong format count 0 None (drop 10 octets) fault (octets_drop 10 octets fits) right.long e in
    let number : 0 + length u.before ≡ length u.before = omega arith in
    let has : HasReport octets u.before u.r = record {
      format = format;
      count = count;
      behind = u.behind;
      whole = right.whole ∙ ap (λ (z : List ℕ). header_octets format count ++ z) u.whole;
      few = right.few;
      long = sym (ap length u.whole) ∙ right.long;
      rises = u.follows;
      ranges = u.ranges;
      sessions = u.sessions;
      widths = u.widths;
    } in
    elim u.wrong [
      | inl bad ↦
          OutOfRange u.before u.r has (λ ranged. let holds = in_range_true u.r ranged in absurd (true_false (sym holds ∙ bad.0)))
          (bad.1 ∙ ap (λ (m : ℕ). Range m) number)
      | inr low ↦
          NotAbove u.before u.r has (widths_in_range format u.r u.widths low.0)
          (λ rises. absurd (true_false (sym (follows_last None u.before u.r rises) ∙ low.1)))
          (low.2 ∙ ap (λ (m : ℕ). Order m) number)
    ]

pub export_fault : (octets : List ℕ) (fault : ExportFault) → IsBytes octets → reading octets ≡ Err fault → IsFaultyExport octets fault
export_fault octets fault fits e = go (header_of octets) refl e
  where
    go : (r : Result (Format × ℕ) ExportFault) → header_of octets ≡ r → after_header octets r ≡ Err fault → IsFaultyExport octets fault
    go (Err f) k e = header_fault octets fault fits (k ∙ ap (λ (g : ExportFault). Err g) (same_fault f fault e))
    go (Ok x) k e = report_fault octets x.0 x.1 fault fits (header_right octets x fits k) e

-- the tests of a header, each with those before it
module _ (octets : List ℕ) where
  letters_cut : length octets < 4 → header_of octets ≡ Err Cut
  unfolding header_of
  letters_cut few = let a = lt_true (length octets) 4 few in rw a refl

  letters_other : 4 ≤ length octets → has_magic octets ≡ false → header_of octets ≡ Err Magic
  unfolding header_of
  letters_other long m = let a = lt_false (length octets) 4 long in rw (a, m) refl

  header_cut : has_magic octets ≡ true → 4 ≤ length octets → length octets < 10 → header_of octets ≡ Err Cut
  unfolding header_of
  header_cut m long few =
      let a = lt_false (length octets) 4 long in
      let b = lt_true (length octets) 10 few in
      rw (a, m, b) refl

  version_other : (v : ℕ) → has_magic octets ≡ true → 10 ≤ length octets → from_be_bytes w16 (take 2 (drop 4 octets)) ≡ v → v ≢ 1 → v ≢ 2 → header_of octets ≡ Err (Version v)
  version_other v m long is one two =
      let count = from_be_bytes w32 (take 4 (drop 6 octets)) in
      header_is octets m long
      ∙ ap (λ (z : ℕ). counted z count (length octets) (format_of z)) is
      ∙ ap (λ (z : Option Format). counted v count (length octets) z) (none_for v one two)

  module _ (format : Format) (count : ℕ) (m : has_magic octets ≡ true) (v : from_be_bytes w16 (take 2 (drop 4 octets)) ≡ version_of format) (n : from_be_bytes w32 (take 4 (drop 6 octets)) ≡ count)
      (long : 10 ≤ length octets) where
    count_many : most_reports < count → header_of octets ≡ Err Count
    count_many many =
        let c = lt_true most_reports count many in
        counted_is octets format count m long v n ∙ rw c refl

    count_cut : count ≤ most_reports → length octets < 10 + records_size format count → header_of octets ≡ Err Cut
    count_cut few cut =
        let c = lt_false most_reports count few in
        let d = lt_true (length octets) (10 + records_size format count) cut in
        counted_is octets format count m long v n ∙ rw (c, d) refl

    count_more : count ≤ most_reports → 10 + records_size format count < length octets → header_of octets ≡ Err Count
    count_more few more =
        let c = lt_false most_reports count few in
        let d = lt_false (length octets) (10 + records_size format count) (omega (arith, more)) in
        let e = lt_true (10 + records_size format count) (length octets) more in
        counted_is octets format count m long v n ∙ rw (c, d, e) refl

-- the reading of octets whose header is refused
header_ends : (octets : List ℕ) (f fault : ExportFault) → header_of octets ≡ Err f → fault ≡ f → reading octets ≡ Err fault
header_ends octets f fault e is = ap (after_header octets) e ∙ ap (λ (g : ExportFault). Err g) (sym is)

whole_length : (format : Format) (count : ℕ) (rest : List ℕ) → length (header_octets format count ++ rest) ≡ 10 + length rest
whole_length format count rest = omega (arith, length-append (header_octets format count) rest)

-- so many octets have room for one report behind those before it
reports_within : (format : Format) (before : List PacketReport) (r : PacketReport) (behind : List ℕ) (count : ℕ)
    → length (flat_map (record_octets format) before ++ (record_octets format r ++ behind)) ≡ records_size format count → suc (length before) ≤ count
reports_within Version1 before r behind count long =
    omega (arith, long, length-append (flat_map (record_octets Version1) before) (record_octets Version1 r ++ behind), length-append (record_octets Version1 r) behind, length-records Version1 before)
reports_within Version2 before r behind count long =
    omega (arith, long, length-append (flat_map (record_octets Version2) before) (record_octets Version2 r ++ behind), length-append (record_octets Version2 r) behind, length-records Version2 before)

-- the reading of octets whose report is refused
report_ends : (octets : List ℕ) (before : List PacketReport) (r : PacketReport) (fault : ExportFault) → HasReport octets before r
    → IsWrong (length before) (last_of None before) r fault → reading octets ≡ Err fault
report_ends octets before r fault h wrong =
    let f = h.format in
    let body = flat_map (record_octets f) before ++ (record_octets f r ++ h.behind) in
    let all = header_octets f h.count ++ body in
    let k = h.count - suc (length before) in
    let few = h.few in
    let many : h.count ≡ suc (length before + k) = omega (arith, reports_within f before r h.behind h.count h.long) in
    let long : length all ≡ 10 + records_size f h.count = omega (arith, whole_length f h.count body, h.long) in
    let n = from_be_bytes-to_be_bytes_4 h.count (omega (arith, few)) in
    let number : length before ≡ 0 + length before = omega arith in
    ap reading h.whole
    ∙ ap (after_header all) (header_of_all all f h.count refl (version_in f h.count body) n few long)
    ∙ stops_at f before h.count k 0 None r h.behind fault many h.rises h.ranges h.sessions h.widths (subst (λ (m : ℕ). IsWrong m (last_of None before) r fault) number wrong)

pub export_no_other : (octets : List ℕ) (fault : ExportFault) → IsFaultyExport octets fault → reading octets ≡ Err fault
export_no_other octets fault (CutLetters few is) = header_ends octets Cut fault (letters_cut octets few) is
export_no_other octets fault (OtherLetters letters rest whole four other is) =
    let long : 4 ≤ length octets = omega (arith, ap length whole, length-append letters rest, four) in
    elim (either (has_magic octets)) [
      | inl holds ↦
          let front : take 4 octets ≡ letters =
          ap (take 4) whole ∙ take-append-le 4 letters rest (omega (arith, four)) ∙ take_all 4 letters (omega (arith, four)) in
          let same : letters ≡ magic = sym front ∙ sym (ap (take 4) (four_letters octets long holds)) in
          absurd (other same)
      | inr fails ↦ header_ends octets Magic fault (letters_other octets long fails) is
    ]
export_no_other octets fault (CutHeader rest whole few is) =
    let all = magic ++ rest in
    ap reading whole ∙ header_ends all Cut fault (header_cut all refl (omega arith) (omega (arith, few))) is
export_no_other octets fault (OtherVersion version rest whole small one two long is) =
    let all = magic ++ (to_be_bytes w16 version ++ rest) in
    ap reading whole ∙ header_ends all (Version version) fault (version_other all version refl (omega (arith, long)) (from_be_bytes-to_be_bytes_2 version small) one two) is
export_no_other octets fault (ManyReports format count rest whole small many is) =
    let all = header_octets format count ++ rest in
    let size = whole_length format count rest in
    ap reading whole
    ∙ header_ends all Count fault (count_many all format count refl (version_in format count rest) (from_be_bytes-to_be_bytes_4 count small) (omega (arith, size)) many) is
export_no_other octets fault (CutReports format count rest whole few cut is) =
    let all = header_octets format count ++ rest in
    let size = whole_length format count rest in
    ap reading whole
    ∙ header_ends all Cut fault (count_cut all format count refl (version_in format count rest) (from_be_bytes-to_be_bytes_4 count (omega (arith, few))) (omega (arith, size)) few (omega (arith, size, cut))) is
export_no_other octets fault (MoreOctets format count rest whole few more is) =
    let all = header_octets format count ++ rest in
    let size = whole_length format count rest in
    ap reading whole
    ∙ header_ends all Count fault (count_more all format count refl (version_in format count rest) (from_be_bytes-to_be_bytes_4 count (omega (arith, few))) (omega (arith, size)) few (omega (arith, size, more))) is
export_no_other octets fault (OutOfRange before r h out is) =
    elim (either (in_range r)) [
      | inl holds ↦ absurd (out (widths_in_range h.format r h.widths holds))
      | inr fails ↦ report_ends octets before r fault h (inl (fails, is))
    ]
export_no_other octets fault (NotAbove before r h ranged falls is) =
    elim (either (above (last_of None before) r)) [
      | inl holds ↦ absurd (falls (follows_snoc None before r h.rises holds))
      | inr fails ↦ report_ends octets before r fault h (inr (in_range_true r ranged, fails, is))
    ]

-- a call that gives what is read, and wants memory for what is in order alone, answers the first fault
pub answers_fault : {X : Type 0} (view : X → List PacketReport) (result : Result X ExportFault) (octets : List ℕ) → Gives Memory view result (reading octets)
    → (IsErrOf result Memory → IsOkAnd (reading octets) (λ rs. 0 < length rs)) → (fault : ExportFault) → IsFaultyExport octets fault → result ≡ Err fault
answers_fault {X = X} view result octets gives memory fault wrong = go result gives memory (export_no_other octets fault wrong)
  where
    ok_and : (r : Result (List PacketReport) ExportFault) → r ≡ Err fault → IsOkAnd r (λ rs. 0 < length rs) → ⊥
    ok_and (Ok rs) e some = absurd cc
    ok_and (Err f) e some = some

    go : (r : Result X ExportFault) → Gives Memory view r (reading octets) → (IsErrOf r Memory → IsOkAnd (reading octets) (λ rs. 0 < length rs)) → reading octets ≡ Err fault → r ≡ Err fault
    go (Ok x) gives memory e = absurd cc
    go (Err Memory) gives memory e = absurd (ok_and (reading octets) e (memory refl))
    go (Err Magic) gives memory e = let p : reading octets ≡ Err Magic = gives (λ x. cc) in cc
    go (Err (Version v)) gives memory e = let p : reading octets ≡ Err (Version v) = gives (λ x. cc) in cc
    go (Err Count) gives memory e = let p : reading octets ≡ Err Count = gives (λ x. cc) in cc
    go (Err Cut) gives memory e = let p : reading octets ≡ Err Cut = gives (λ x. cc) in cc
    go (Err (Range n)) gives memory e = let p : reading octets ≡ Err (Range n) = gives (λ x. cc) in cc
    go (Err (Order n)) gives memory e = let p : reading octets ≡ Err (Order n) = gives (λ x. cc) in cc

-- what is read and has a report is the spelling of a list that has one
pub spells_some : (octets : List ℕ) → IsBytes octets → IsOkAnd (reading octets) (λ rs. 0 < length rs) → (rs : List PacketReport) × IsExport octets rs × (0 < length rs)
spells_some octets fits some = go (reading octets) refl some
  where
    go : (r : Result (List PacketReport) ExportFault) → reading octets ≡ r → IsOkAnd r (λ rs. 0 < length rs) → (rs : List PacketReport) × IsExport octets rs × (0 < length rs)
    go (Ok rs) e more = (rs, reading_takes octets rs fits e, more)
    go (Err f) e more = absurd more

pub same_export : {X : Type 0} (f g : ExportFault) → let x : Result X ExportFault = Err f in x ≡ Err g → f ≡ g
same_export f g e = cc

-- want of memory is no fault of an export
pub never_memory : (octets : List ℕ) (fault : ExportFault) → IsFaultyExport octets fault → fault ≢ Memory
never_memory octets fault (CutLetters few is) m = let e : Cut ≡ Memory = sym is ∙ m in absurd cc
never_memory octets fault (OtherLetters letters rest whole four other is) m = let e : Magic ≡ Memory = sym is ∙ m in absurd cc
never_memory octets fault (CutHeader rest whole few is) m = let e : Cut ≡ Memory = sym is ∙ m in absurd cc
never_memory octets fault (OtherVersion version rest whole small one two long is) m = let e : Version version ≡ Memory = sym is ∙ m in absurd cc
never_memory octets fault (ManyReports format count rest whole small many is) m = let e : Count ≡ Memory = sym is ∙ m in absurd cc
never_memory octets fault (CutReports format count rest whole few cut is) m = let e : Cut ≡ Memory = sym is ∙ m in absurd cc
never_memory octets fault (MoreOctets format count rest whole few more is) m = let e : Count ≡ Memory = sym is ∙ m in absurd cc
never_memory octets fault (OutOfRange before r h out is) m = let e : Range (length before) ≡ Memory = sym is ∙ m in absurd cc
never_memory octets fault (NotAbove before r h ranged falls is) m = let e : Order (length before) ≡ Memory = sym is ∙ m in absurd cc
