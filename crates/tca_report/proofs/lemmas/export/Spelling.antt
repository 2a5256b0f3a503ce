-- The header of an export, joined to its reports.
use Rattle.std.proofs.Common.{◌≡◌, ◌≢◌, ℕ, ◌+◌, ◌*◌, ◌≤◌, Bool, true, false, cond, not, ◌&&◌, List, [], ◌∷◌, ◌++◌, length, take, drop, Option, Some, None, Result, Ok, Err, refl, sym, ap, ◌∙◌, arith, length-append}
use Rattle.std.specs.Prelude.{nat_lt, ◌==◌, IfOk, MatchResult}
use Rattle.std.specs.List.{flat_map}
use Rattle.std.specs.Int.{w16, w32, from_be_bytes, to_be_bytes}
use Rattle.std.proofs.lemmas.Bool.Decides.{nat_tests}
use Rattle.std.proofs.lemmas.List.{take-append-drop, length-take, length-drop, drop-drop}
use Rattle.std.proofs.lemmas.List.Concat.{flat_map-cons}
use Rattle.std.proofs.lemmas.Nat.{be_bytes_2, from_be_bytes-to_be_bytes_4}
use Rattle.tca_join.specs.Results.{Gives}
use Rattle.tca_report.specs.declared.export.Format.{Format}
use Rattle.tca_report.specs.declared.export.Format.TheVariants.{Version1, Version2}
use Rattle.tca_report.specs.declared.export.ExportFault.{ExportFault}
use Rattle.tca_report.specs.declared.export.ExportFault.TheVariants.{Magic, Version, Count, Cut, Range, Order, Memory}
use Rattle.tca_report.specs.report.Reports.{PacketReport, most_reports}
use Rattle.tca_report.specs.export.Spelling.{version_of, record_size, records_size, record_octets, header_octets, spelling, export, magic, IsExportable, HaveSessions, IsExport}
use Rattle.tca_report.specs.export.Reading.{records_at, has_magic, format_of, counted, header_of, after_header, reading}
use Rattle.tca_report.proofs.lemmas.export.ReadingLoop.{size_more, size_none}
use Rattle.tca_report.proofs.lemmas.export.Records.{IsBytes, octets_drop, octets_take, front4, list_again, list_takes}

length-record : (format : Format) (r : PacketReport) → length (record_octets format r) ≡ record_size format
length-record Version1 r = refl
length-record Version2 r = refl

pub length-records : (format : Format) (rs : List PacketReport) → length (flat_map (record_octets format) rs) ≡ records_size format (length rs)
length-records format [] = sym (size_none format)
length-records format (r ∷ rs) =
    ap length (flat_map-cons (record_octets format) r rs)
    ∙ omega (arith, length-records format rs, length-append (record_octets format r) (flat_map (record_octets format) rs), length-record format r, size_more format (length rs))

pub length-spelling : (format : Format) (rs : List PacketReport) → length (spelling format rs) ≡ 10 + records_size format (length rs)
length-spelling format rs = omega (arith, length-records format rs, length-append (header_octets format (length rs)) (flat_map (record_octets format) rs))

pub length-export : (rs : List PacketReport) → length (export rs) ≡ 10 + 29 * length rs
length-export rs = length-spelling Version2 rs

format_again : (format : Format) → format_of (version_of format) ≡ Some format
format_again Version1 = refl
format_again Version2 = refl

pub version_again : (format : Format) → from_be_bytes w16 (to_be_bytes w16 (version_of format)) ≡ version_of format
version_again Version1 = refl
version_again Version2 = refl

-- a header whose letters are right
pub header_is : (octets : List ℕ) → has_magic octets ≡ true → 10 ≤ length octets
    → let version = from_be_bytes w16 (take 2 (drop 4 octets)) in let count = from_be_bytes w32 (take 4 (drop 6 octets)) in
    header_of octets ≡ counted version count (length octets) (format_of version)
unfolding header_of
header_is octets m long =
    let a : nat_lt (length octets) 4 ≡ false = grind (arith, nat_tests, long) in
    let b : nat_lt (length octets) 10 ≡ false = grind (arith, nat_tests, long) in
    rw (a, m, b) refl

-- and whose version is this
pub counted_is : (octets : List ℕ) (format : Format) (count : ℕ) → has_magic octets ≡ true → 10 ≤ length octets → from_be_bytes w16 (take 2 (drop 4 octets)) ≡ version_of format
    → from_be_bytes w32 (take 4 (drop 6 octets)) ≡ count → header_of octets ≡ counted (version_of format) count (length octets) (Some format)
counted_is octets format count m long v n =
    header_is octets m long
    ∙ ap (λ (z : ℕ). counted z (from_be_bytes w32 (take 4 (drop 6 octets))) (length octets) (format_of z)) v
    ∙ ap (λ (z : ℕ). counted (version_of format) z (length octets) (format_of (version_of format))) n
    ∙ ap (λ (z : Option Format). counted (version_of format) count (length octets) z) (format_again format)

pub header_of_all : (octets : List ℕ) (format : Format) (count : ℕ) → has_magic octets ≡ true → from_be_bytes w16 (take 2 (drop 4 octets)) ≡ version_of format
    → from_be_bytes w32 (take 4 (drop 6 octets)) ≡ count → count ≤ most_reports → length octets ≡ 10 + records_size format count → header_of octets ≡ Ok (format, count)
header_of_all octets format count m v n few long =
    let c : nat_lt most_reports count ≡ false = grind (arith, nat_tests) in
    let d : nat_lt (length octets) (10 + records_size format count) ≡ false = grind (arith, nat_tests, long) in
    let e : nat_lt (10 + records_size format count) (length octets) ≡ false = grind (arith, nat_tests, long) in
    counted_is octets format count m (omega (arith, long)) v n ∙ rw (c, d, e) refl

-- the version in the octets of a header
pub version_in : (format : Format) (count : ℕ) (rest : List ℕ) → from_be_bytes w16 (take 2 (drop 4 (header_octets format count ++ rest))) ≡ version_of format
version_in Version1 count rest = refl
version_in Version2 count rest = refl

-- what is spelled is read
pub reading-spelling : (format : Format) (rs : List PacketReport) → IsExportable rs → HaveSessions format rs → reading (spelling format rs) ≡ Ok rs
reading-spelling format rs h sessions =
    let few = h.few in
    let n = from_be_bytes-to_be_bytes_4 (length rs) (omega arith) in
    ap (after_header (spelling format rs)) (header_of_all (spelling format rs) format (length rs) refl (version_in format (length rs) (flat_map (record_octets format) rs)) n few (length-spelling format rs))
    ∙ list_again format rs 0 None h.ranges sessions h.rises

pub reading-export : (octets : List ℕ) (rs : List PacketReport) → IsExport octets rs → reading octets ≡ Ok rs
reading-export octets rs p = ap reading p.whole ∙ reading-spelling p.format rs p.exportable p.sessions

chosen : {A : Type 0} (b : Bool) (x : Result A ExportFault) (f : ExportFault) (y : A) → cond b (Err f) x ≡ Ok y → (b ≡ false) × (x ≡ Ok y)
chosen true x f y e = absurd cc
chosen false x f y e = (refl, e)

chosen_not : {A : Type 0} (b : Bool) (x : Result A ExportFault) (f : ExportFault) (y : A) → cond (not b) (Err f) x ≡ Ok y → (b ≡ true) × (x ≡ Ok y)
chosen_not true x f y e = (refl, e)
chosen_not false x f y e = absurd cc

is_equal : (a b : ℕ) → (a == b) ≡ true → a ≡ b
is_equal a b e = grind (arith, nat_tests)

pub format_holds : (version : ℕ) (format : Format) → format_of version ≡ Some format → version ≡ version_of format
format_holds version format e = go (version == 1) (version == 2) refl refl e
  where
    go : (b c : Bool) → (version == 1) ≡ b → (version == 2) ≡ c → cond b (Some Version1) (cond c (Some Version2) None) ≡ Some format → version ≡ version_of format
    go true c p q e = let same : Version1 ≡ format = cc in is_equal version 1 p ∙ ap version_of same
    go false true p q e = let same : Version2 ≡ format = cc in is_equal version 2 q ∙ ap version_of same
    go false false p q e = absurd cc

-- the tests of version and count that a header passed
record IsSized (count size : ℕ) (given : Option Format) (x : Format × ℕ) : Type 0 where
  format : given ≡ Some x.0
  stated : count ≡ x.1
  few : count ≤ most_reports
  long : size ≡ 10 + records_size x.0 count

counted_holds : (version count size : ℕ) (given : Option Format) (x : Format × ℕ) → counted version count size given ≡ Ok x → IsSized count size given x
counted_holds version count size None x e = absurd cc
counted_holds version count size (Some format) x e =
    let f = chosen (nat_lt most_reports count) _ Count x e in
    let g = chosen (nat_lt size (10 + records_size format count)) _ Cut x f.1 in
    let h = chosen (nat_lt (10 + records_size format count) size) _ Count x g.1 in
    let same : (format, count) ≡ x = cc (h.1) in
    let few : count ≤ most_reports = grind (arith, nat_tests, f.0) in
    let long : size ≡ 10 + records_size format count = grind (arith, nat_tests, g.0, h.0) in
    record {
      format = ap (λ (y : Format × ℕ). Some y.0) same;
      stated = ap (λ (y : Format × ℕ). y.1) same;
      few = few;
      long = long ∙ ap (λ (y : Format × ℕ). 10 + records_size y.0 count) same;
    }

-- the tests that a header passed
pub record IsCounted (octets : List ℕ) (format : Format) (count : ℕ) : Type 0 where
  pub letters : has_magic octets ≡ true
  pub version : from_be_bytes w16 (take 2 (drop 4 octets)) ≡ version_of format
  pub stated : from_be_bytes w32 (take 4 (drop 6 octets)) ≡ count
  pub few : count ≤ most_reports
  pub long : length octets ≡ 10 + records_size format count

pub tests_passed : (octets : List ℕ) (x : Format × ℕ) → header_of octets ≡ Ok x → IsCounted octets x.0 x.1
unfolding header_of
tests_passed octets x e =
    let version = from_be_bytes w16 (take 2 (drop 4 octets)) in
    let count = from_be_bytes w32 (take 4 (drop 6 octets)) in
    let a = chosen (nat_lt (length octets) 4) _ Cut x e in
    let b = chosen_not (has_magic octets) _ Magic x a.1 in
    let c = chosen (nat_lt (length octets) 10) _ Cut x b.1 in
    let d = counted_holds version count (length octets) (format_of version) x c.1 in
    record {
      letters = b.0;
      version = format_holds version x.0 d.format;
      stated = d.stated;
      few = omega (arith, d.stated, d.few);
      long = d.long ∙ ap (λ (n : ℕ). 10 + records_size x.0 n) d.stated;
    }

after_ok : (octets : List ℕ) (given : Result (Format × ℕ) ExportFault) (rs : List PacketReport) → after_header octets given ≡ Ok rs
    → (x : Format × ℕ) × (given ≡ Ok x) × (records_at x.0 x.1 0 None (drop 10 octets) ≡ Ok rs)
after_ok octets (Ok x) rs e = (x, refl, e)
after_ok octets (Err f) rs e = absurd cc

both_true : (a b : Bool) → (a && b) ≡ true → (a ≡ true) × (b ≡ true)
both_true true b e = (refl, e)
both_true false b e = absurd cc

pub four_letters : (octets : List ℕ) → 4 ≤ length octets → has_magic octets ≡ true → magic ++ drop 4 octets ≡ octets
four_letters [] long e = absurd (omega arith)
four_letters (a ∷ []) long e = absurd (omega arith)
four_letters (a ∷ b ∷ []) long e = absurd (omega arith)
four_letters (a ∷ b ∷ c ∷ []) long e = absurd (omega arith)
four_letters (a ∷ b ∷ c ∷ d ∷ rest) long e =
    let x = both_true (a == 84) _ e in
    let y = both_true (b == 67) _ x.1 in
    let z = both_true (c == 65) (d == 88) y.1 in
    let t = is_equal a 84 x.0 in
    let u = is_equal b 67 y.0 in
    let v = is_equal c 65 z.0 in
    let w = is_equal d 88 z.1 in
    cc

pub front2 : (octets : List ℕ) → IsBytes octets → 2 ≤ length octets → to_be_bytes w16 (from_be_bytes w16 (take 2 octets)) ++ drop 2 octets ≡ octets
front2 octets fits long = ap (λ (x : List ℕ). x ++ drop 2 octets) (be_bytes_2 (take 2 octets) _ (omega (arith, length-take 2 octets)) (octets_take 2 octets fits) refl) ∙ take-append-drop 2 octets

-- letters and version, and what follows them
pub version_spelled : (octets : List ℕ) → IsBytes octets → 10 ≤ length octets → has_magic octets ≡ true
    → octets ≡ magic ++ (to_be_bytes w16 (from_be_bytes w16 (take 2 (drop 4 octets))) ++ drop 6 octets)
version_spelled octets fits long letters =
    let a = drop 4 octets in
    sym (
    ap (λ (z : List ℕ). magic ++ (to_be_bytes w16 (from_be_bytes w16 (take 2 a)) ++ z)) (sym (drop-drop 2 4 octets))
    ∙ ap (λ (z : List ℕ). magic ++ z) (front2 a (octets_drop 4 octets fits) (omega (arith, length-drop 4 octets, long)))
    ∙ four_letters octets (omega arith) letters
    )

-- a header of this version, and what follows it
pub header_spelled : (octets : List ℕ) (format : Format) → IsBytes octets → 10 ≤ length octets → has_magic octets ≡ true → from_be_bytes w16 (take 2 (drop 4 octets)) ≡ version_of format
    → octets ≡ header_octets format (from_be_bytes w32 (take 4 (drop 6 octets))) ++ drop 10 octets
header_spelled octets format fits long letters version =
    let b = drop 6 octets in
    let n = from_be_bytes w32 (take 4 b) in
    let last : to_be_bytes w32 n ++ drop 10 octets ≡ b =
    ap (λ (z : List ℕ). to_be_bytes w32 n ++ z) (sym (drop-drop 4 6 octets)) ∙ front4 b (octets_drop 6 octets fits) (omega (arith, length-drop 6 octets, long)) in
    version_spelled octets fits long letters
    ∙ ap (λ (v : ℕ). magic ++ (to_be_bytes w16 v ++ b)) version
    ∙ ap (λ (z : List ℕ). magic ++ (to_be_bytes w16 (version_of format) ++ z)) (sym last)

-- a header has just the octets that its count needs
pub record IsRight (octets : List ℕ) (format : Format) (count : ℕ) : Type 0 where
  pub whole : octets ≡ header_octets format count ++ drop 10 octets
  pub few : count ≤ most_reports
  pub long : length (drop 10 octets) ≡ records_size format count

pub header_right : (octets : List ℕ) (x : Format × ℕ) → IsBytes octets → header_of octets ≡ Ok x → IsRight octets x.0 x.1
header_right octets x fits e =
    let t = tests_passed octets x e in
    let room : 10 ≤ length octets = omega (arith, t.long) in
    record {
      whole = header_spelled octets x.0 fits room t.letters t.version ∙ ap (λ (m : ℕ). header_octets x.0 m ++ drop 10 octets) t.stated;
      few = t.few;
      long = omega (arith, length-drop 10 octets, t.long);
    }

-- what is read is spelled so
pub reading_takes : (octets : List ℕ) (rs : List PacketReport) → IsBytes octets → reading octets ≡ Ok rs → IsExport octets rs
reading_takes octets rs fits e =
    let given = after_ok octets (header_of octets) rs e in
    let x = given.0 in
    let right = header_right octets x fits given.1 in
    let read = list_takes x.0 x.1 0 None (drop 10 octets) rs (octets_drop 10 octets fits) right.long given.2 in
    record {
      exportable = record { few = omega (arith, right.few, read.many); rises = read.follows; ranges = read.ranges };
      format = x.0;
      sessions = read.sessions;
      whole = right.whole ∙ ap (λ (z : List ℕ). header_octets x.0 x.1 ++ z) read.spelled ∙ ap (λ (n : ℕ). header_octets x.0 n ++ flat_map (record_octets x.0) rs) (sym read.many);
    }

-- where the octets spell a list, no fault but want of memory is answered
pub memory_only : (e : ExportFault) (given : Result (List PacketReport) ExportFault) (rs : List PacketReport) → (e ≢ Memory → given ≡ Err e) → given ≡ Ok rs → e ≡ Memory
memory_only Memory given rs h k = refl
memory_only Magic given rs h k = absurd (cc (h (λ x. cc)))
memory_only (Version v) given rs h k = absurd (cc (h (λ x. cc)))
memory_only Count given rs h k = absurd (cc (h (λ x. cc)))
memory_only Cut given rs h k = absurd (cc (h (λ x. cc)))
memory_only (Range n) given rs h k = absurd (cc (h (λ x. cc)))
memory_only (Order n) given rs h k = absurd (cc (h (λ x. cc)))

pub one_spelling : (octets : List ℕ) (a b : List PacketReport) → IsExport octets a → IsExport octets b → a ≡ b
one_spelling octets a b ha hb =
    let ra = reading-export octets a ha in
    let rb = reading-export octets b hb in
    cc

pub found_spelled : {X : Type 0} (view : X → List PacketReport) (result : Result X ExportFault) (octets : List ℕ) → IsBytes octets → Gives Memory view result (reading octets) → IfOk result (λ v. IsExport octets (view v))
found_spelled view (Ok v) octets fits h = reading_takes octets (view v) fits h
found_spelled view (Err e) octets fits h = tt

pub only_spelled : {X : Type 0} (view : X → List PacketReport) (result : Result X ExportFault) (octets : List ℕ) → Gives Memory view result (reading octets) → (rs : List PacketReport) → IsExport octets rs → MatchResult result (λ v. view v ≡ rs) (λ e. e ≡ Memory)
only_spelled view (Ok v) octets h rs p = let again = reading-export octets rs p in cc
only_spelled view (Err f) octets h rs p = memory_only f (reading octets) rs h (reading-export octets rs p)
