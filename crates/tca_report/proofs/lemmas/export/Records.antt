-- What is read is spelled so, and what is spelled so is read.
use Rattle.std.proofs.Common.{◌≡◌, ℕ, zero, suc, ◌+◌, ◌^◌, ◌<◌, ◌≤◌, Bool, true, false, cond, List, [], ◌∷◌, ◌++◌, length, get_or, take, drop, Option, Some, None, Result, Ok, Err, refl, sym, subst, ap, ◌∙◌, arith, inl, inr, append_assoc}
use Rattle.std.specs.declared.cmp.Ordering.{Ordering}
use Rattle.std.specs.declared.cmp.Ordering.TheVariants.{Less, Equal, Greater}
use Rattle.std.proofs.lemmas.List.{nil_from_length}
use Rattle.tca_report.proofs.lemmas.report.Order.{report_total}
use Rattle.tca_report.proofs.lemmas.export.ReadingLoop.{session_rest, rest_length, size_more, size_none}
use Rattle.tca_report.specs.declared.export.Format.{Format}
use Rattle.tca_report.specs.declared.export.Format.TheVariants.{Version1, Version2}
use Rattle.tca_report.specs.declared.export.ExportFault.{ExportFault}
use Rattle.std.specs.List.{flat_map, AllByRecursion}
use Rattle.std.specs.List.Sorted.{IsStrictlySortedBy}
use Rattle.std.specs.Int.{w32, w64, from_be_bytes, to_be_bytes}
use Rattle.std.specs.Ordering.{is_lt}
use Rattle.std.proofs.lemmas.Bool.{cases_lt}
use Rattle.std.proofs.lemmas.Bool.Decides.{nat_tests}
use Rattle.std.proofs.lemmas.List.{take-append-drop, length-take, length-drop, get_or-drop, get_or-take, get_or_past}
use Rattle.std.proofs.lemmas.List.Concat.{flat_map-cons}
use Rattle.std.proofs.lemmas.Nat.{be_bytes_4, be_bytes_8, from_be_bytes-to_be_bytes_4, from_be_bytes-to_be_bytes_8}
use Rattle.tca_report.specs.report.Reports.{PacketReport, InRange, in_range, report_cmp}
use Rattle.tca_report.specs.declared.export.ExportFault.TheVariants.{Range, Order}
use Rattle.tca_report.specs.export.Spelling.{session_end, session_size, record_size, records_size, session_octets, record_octets, HaveSessions}
use Rattle.tca_report.specs.export.FirstFaults.{HasWidths}
use Rattle.tca_report.specs.export.Reading.{session_at, record_at, above, with_first, records_at}

abbrev pub IsBytes : List ℕ → Type 0
IsBytes octets = (i : ℕ) → get_or octets i 0 < 256

pub octets_drop : (n : ℕ) (octets : List ℕ) → IsBytes octets → IsBytes (drop n octets)
octets_drop n octets h i = rw get_or-drop (h (n + i))

pub octets_take : (n : ℕ) (octets : List ℕ) → IsBytes octets → IsBytes (take n octets)
octets_take n octets h i =
    elim (cases_lt i n) [
      | inl lt ↦ rw (get_or-take n octets i 0 lt) (h i)
      | inr le ↦ rw (get_or_past (take n octets) i 0 (omega (arith, length-take n octets))) (omega arith)
    ]

-- a record that was written is read again
pub record_again : (format : Format) (r : PacketReport) (rest : List ℕ) → HasWidths format r → record_at format (record_octets format r ++ rest) ≡ (r, rest)
record_again Version1 r rest ranges =
    let t = from_be_bytes-to_be_bytes_8 r.time ranges.time in
    let d = from_be_bytes-to_be_bytes_4 r.domain ranges.domain in
    let s : 0 ≡ r.session = omega (arith, ranges.session) in
    let p = from_be_bytes-to_be_bytes_4 r.place ranges.place in
    let o = from_be_bytes-to_be_bytes_4 r.octets ranges.octets in
    let f = from_be_bytes-to_be_bytes_4 r.iface ranges.iface in
    λ i. (record { time = t i; domain = d i; session = s i; place = p i; octets = o i; dscp = r.dscp; iface = f i }, rest)
record_again Version2 r rest ranges =
    let t = from_be_bytes-to_be_bytes_8 r.time ranges.time in
    let d = from_be_bytes-to_be_bytes_4 r.domain ranges.domain in
    let s = from_be_bytes-to_be_bytes_4 r.session ranges.session in
    let p = from_be_bytes-to_be_bytes_4 r.place ranges.place in
    let o = from_be_bytes-to_be_bytes_4 r.octets ranges.octets in
    let f = from_be_bytes-to_be_bytes_4 r.iface ranges.iface in
    λ i. (record { time = t i; domain = d i; session = s i; place = p i; octets = o i; dscp = r.dscp; iface = f i }, rest)

-- and one that is read was spelled so
pub front4 : (octets : List ℕ) → IsBytes octets → 4 ≤ length octets → to_be_bytes w32 (from_be_bytes w32 (take 4 octets)) ++ drop 4 octets ≡ octets
front4 octets fits long = ap (λ (x : List ℕ). x ++ drop 4 octets) (be_bytes_4 (take 4 octets) _ (omega (arith, length-take 4 octets)) (octets_take 4 octets fits) refl) ∙ take-append-drop 4 octets

front8 : (octets : List ℕ) → IsBytes octets → 8 ≤ length octets → to_be_bytes w64 (from_be_bytes w64 (take 8 octets)) ++ drop 8 octets ≡ octets
front8 octets fits long = ap (λ (x : List ℕ). x ++ drop 8 octets) (be_bytes_8 (take 8 octets) _ (omega (arith, length-take 8 octets)) (octets_take 8 octets fits) refl) ∙ take-append-drop 8 octets

front1 : (octets : List ℕ) → 1 ≤ length octets → get_or octets 0 0 ∷ drop 1 octets ≡ octets
front1 [] long = absurd (omega arith)
front1 (b ∷ octets) long = refl

pub below_4 : (octets : List ℕ) → IsBytes octets → from_be_bytes w32 (take 4 octets) < 2 ^ 32
below_4 octets fits = let h = octets_take 4 octets fits in omega (arith, h 0, h 1, h 2, h 3)

-- the session at the front
pub session_below : (format : Format) (octets : List ℕ) → IsBytes octets → (session_at format octets).0 < session_end format
session_below Version1 octets fits = omega arith
session_below Version2 octets fits = below_4 octets fits

pub session_fits : (format : Format) (octets : List ℕ) → IsBytes octets → IsBytes (session_at format octets).1
session_fits Version1 octets fits = fits
session_fits Version2 octets fits = octets_drop 4 octets fits

session_front : (format : Format) (octets : List ℕ) → IsBytes octets → session_size format ≤ length octets → session_octets format (session_at format octets).0 ++ (session_at format octets).1 ≡ octets
session_front Version1 octets fits long = refl
session_front Version2 octets fits long = front4 octets fits long

session_wide : (format : Format) (session : ℕ) → session < session_end format → session < 2 ^ 32
session_wide Version1 session less = omega (arith, less)
session_wide Version2 session less = less

pub record_takes : (format : Format) (octets : List ℕ) → IsBytes octets → record_size format ≤ length octets → record_octets format (record_at format octets).0 ++ (record_at format octets).1 ≡ octets
record_takes format octets fits long =
    let a = drop 8 octets in
    let b = drop 4 a in
    let s = session_at format b in
    let c = drop 4 s.1 in
    let d = drop 4 c in
    let e = drop 1 d in
    let fa = octets_drop 8 octets fits in
    let fb = octets_drop 4 a fa in
    let fs = session_fits format b fb in
    let fc = octets_drop 4 s.1 fs in
    let fd = octets_drop 4 c fc in
    let fe = octets_drop 1 d fd in
    let la = length-drop 8 octets in
    let lb = length-drop 4 a in
    let ls = session_rest format b in
    let lc = length-drop 4 s.1 in
    let ld = length-drop 4 c in
    let le = length-drop 1 d in
    let t = to_be_bytes w64 (from_be_bytes w64 (take 8 octets)) in
    let m = to_be_bytes w32 (from_be_bytes w32 (take 4 a)) in
    let n = session_octets format s.0 in
    let p = to_be_bytes w32 (from_be_bytes w32 (take 4 s.1)) in
    let o = to_be_bytes w32 (from_be_bytes w32 (take 4 c)) in
    let x = get_or d 0 0 in
    let i = to_be_bytes w32 (from_be_bytes w32 (take 4 e)) in
    ap (λ (z : List ℕ). t ++ (m ++ z)) (append_assoc n (p ++ (o ++ (x ∷ i))) (drop 4 e))
    ∙ ap (λ (z : List ℕ). t ++ (m ++ (n ++ (p ++ (o ++ (x ∷ z)))))) (front4 e fe (omega arith))
    ∙ ap (λ (z : List ℕ). t ++ (m ++ (n ++ (p ++ (o ++ z))))) (front1 d (omega arith))
    ∙ ap (λ (z : List ℕ). t ++ (m ++ (n ++ (p ++ z)))) (front4 c fc (omega arith))
    ∙ ap (λ (z : List ℕ). t ++ (m ++ (n ++ z))) (front4 s.1 fs (omega arith))
    ∙ ap (λ (z : List ℕ). t ++ (m ++ z)) (session_front format b fb (omega arith))
    ∙ ap (λ (z : List ℕ). t ++ z) (front4 a fa (omega arith))
    ∙ front8 octets fits (omega arith)

pub in_range_true : (r : PacketReport) → InRange r → in_range r ≡ true
in_range_true r h = grind (arith, nat_tests, h.time, h.some, h.octets, h.dscp)

all_more : {K : Type 0} (P Q : K → Type 0) → ((x : K) → P x → Q x) → (xs : List K) → AllByRecursion P xs → AllByRecursion Q xs
all_more P Q f [] h = tt
all_more P Q f (x ∷ xs) h = (f x h.0, all_more P Q f xs h.1)

-- a list that rises from after the last one
abbrev pub Follows : Option PacketReport → List PacketReport → Type 0
Follows None rs = IsStrictlySortedBy report_cmp rs
Follows (Some last) rs = IsStrictlySortedBy report_cmp (last ∷ rs)

pub follows_head : (last : Option PacketReport) (r : PacketReport) (rs : List PacketReport) → Follows last (r ∷ rs) → (above last r ≡ true) × Follows (Some r) rs
unfolding IsStrictlySortedBy
follows_head None r rs h = (refl, h)
follows_head (Some last) r rs h = (ap is_lt (h.0.0), h.1)

none_read : (format : Format) (n : ℕ) (last : Option PacketReport) → records_at format zero n last [] ≡ Ok []
unfolding records_at
none_read format n last = refl

pub records_step : (format : Format) (count n : ℕ) (last : Option PacketReport) (octets : List ℕ) (r : PacketReport) (rest : List ℕ) → record_at format octets ≡ (r, rest) → in_range r ≡ true → above last r ≡ true
    → records_at format (suc count) n last octets ≡ with_first r (records_at format count (n + 1) (Some r) rest)
unfolding records_at
records_step format count n last octets r rest e range order =
    ap (λ (x : PacketReport × List ℕ). cond (in_range x.0) (cond (above last x.0) (with_first x.0 (records_at format count (n + 1) (Some x.0) x.1)) (Err (Order n))) (Err (Range n))) e
    ∙ rw (range, order) refl

pub in_range_widths : (format : Format) (r : PacketReport) → InRange r → r.session < session_end format → HasWidths format r
in_range_widths format r h session = record {
  time = omega (arith, h.time);
  domain = h.domain;
  session = session;
  place = h.place;
  octets = omega (arith, h.octets);
  dscp = omega (arith, h.dscp);
  iface = h.iface;
}

pub list_again : (format : Format) (rs : List PacketReport) (n : ℕ) (last : Option PacketReport) → AllByRecursion InRange rs → HaveSessions format rs → Follows last rs
    → records_at format (length rs) n last (flat_map (record_octets format) rs) ≡ Ok rs
list_again format [] n last ranges sessions follows = none_read format n last
list_again format (r ∷ rs) n last ranges sessions follows =
    let one : record_at format (flat_map (record_octets format) (r ∷ rs)) ≡ (r, flat_map (record_octets format) rs) =
    ap (record_at format) (flat_map-cons (record_octets format) r rs) ∙ record_again format r (flat_map (record_octets format) rs) (in_range_widths format r ranges.0 sessions.0) in
    let head = follows_head last r rs follows in
    records_step format (length rs) n last (flat_map (record_octets format) (r ∷ rs)) r (flat_map (record_octets format) rs) one (in_range_true r ranges.0) head.0
    ∙ ap (with_first r) (list_again format rs (n + 1) (Some r) ranges.1 sessions.1 head.1)

pub in_range_holds : (r : PacketReport) → r.domain < 2 ^ 32 → r.session < 2 ^ 32 → r.place < 2 ^ 32 → r.iface < 2 ^ 32 → in_range r ≡ true → InRange r
in_range_holds r d s p f h = record { time = grind (arith, nat_tests, h); some = grind (arith, nat_tests, h); octets = grind (arith, nat_tests, h); dscp = grind (arith, nat_tests, h); domain = d; session = s; place = p; iface = f }

-- the same of numbers that a version can spell
pub widths_in_range : (format : Format) (r : PacketReport) → HasWidths format r → in_range r ≡ true → InRange r
widths_in_range format r w h = in_range_holds r w.domain (session_wide format r.session w.session) w.place w.iface h

below_8 : (octets : List ℕ) → IsBytes octets → from_be_bytes w64 (take 8 octets) < 2 ^ 64
below_8 octets fits = let h = octets_take 8 octets fits in omega (arith, h 0, h 1, h 2, h 3, h 4, h 5, h 6, h 7)

-- what the octets of a report spell has the widths of their numbers
pub widths_at : (format : Format) (octets : List ℕ) → IsBytes octets → HasWidths format (record_at format octets).0
widths_at format octets fits =
    let a = octets_drop 8 octets fits in
    let b = octets_drop 4 (drop 8 octets) a in
    let s = session_at format (drop 4 (drop 8 octets)) in
    let g = session_fits format (drop 4 (drop 8 octets)) b in
    let c = octets_drop 4 s.1 g in
    let d = octets_drop 4 (drop 4 s.1) c in
    let e = octets_drop 1 (drop 4 (drop 4 s.1)) d in
    record {
      time = below_8 octets fits;
      domain = below_4 (drop 8 octets) a;
      session = session_below format (drop 4 (drop 8 octets)) b;
      place = below_4 s.1 g;
      octets = below_4 (drop 4 s.1) c;
      dscp = omega (arith, d 0);
      iface = below_4 (drop 1 (drop 4 (drop 4 s.1))) e;
    }

pub ranges_at : (format : Format) (octets : List ℕ) → IsBytes octets → in_range (record_at format octets).0 ≡ true → InRange (record_at format octets).0
ranges_at format octets fits h = widths_in_range format (record_at format octets).0 (widths_at format octets fits) h

pub rest_fits : (format : Format) (octets : List ℕ) → IsBytes octets → IsBytes (record_at format octets).1
rest_fits format octets fits = octets_drop 4 _ (octets_drop 1 _ (octets_drop 4 _ (octets_drop 4 _ (session_fits format _ (octets_drop 4 _ (octets_drop 8 octets fits))))))

-- A list of records that was read: their spelling, range and order.
pub record AreSpelled (format : Format) (count : ℕ) (last : Option PacketReport) (octets : List ℕ) (rs : List PacketReport) : Type 0 where
  pub spelled : octets ≡ flat_map (record_octets format) rs
  pub many : length rs ≡ count
  pub ranges : AllByRecursion InRange rs
  pub sessions : HaveSessions format rs
  pub follows : Follows last rs

less_holds : (o : Ordering) → is_lt o ≡ true → o ≡ Less
less_holds Less h = refl
less_holds Equal h = absurd cc
less_holds Greater h = absurd cc

pub follows_more : (last : Option PacketReport) (r : PacketReport) (rs : List PacketReport) → above last r ≡ true → Follows (Some r) rs → Follows last (r ∷ rs)
unfolding IsStrictlySortedBy
follows_more None r rs h f = f
follows_more (Some last) r rs h f = let l = less_holds (report_cmp last r) h in ((l, all_more (λ y. report_cmp r y ≡ Less) (λ y. report_cmp last y ≡ Less) (λ y m. report_total.trans last r y l m) rs f.0), f)

some_first : (r : PacketReport) (read : Result (List PacketReport) ExportFault) (rs : List PacketReport) → with_first r read ≡ Ok rs → (more : List PacketReport) × (read ≡ Ok more) × (r ∷ more ≡ rs)
some_first r (Ok more) rs e = (more, refl, cc)
some_first r (Err f) rs e = absurd cc

pub follows_none : (last : Option PacketReport) → Follows last []
unfolding IsStrictlySortedBy
follows_none None = tt
follows_none (Some last) = (tt, tt)

chosen_first : (b : Bool) (x : Result (List PacketReport) ExportFault) (f : ExportFault) (rs : List PacketReport) → cond b x (Err f) ≡ Ok rs → (b ≡ true) × (x ≡ Ok rs)
chosen_first true x f rs e = (refl, e)
chosen_first false x f rs e = absurd cc

pub list_takes : (format : Format) (count n : ℕ) (last : Option PacketReport) (octets : List ℕ) (rs : List PacketReport) → IsBytes octets → length octets ≡ records_size format count
    → records_at format count n last octets ≡ Ok rs → AreSpelled format count last octets rs
unfolding records_at
list_takes format zero n last octets rs fits long e =
    let none : octets ≡ [] = nil_from_length octets (long ∙ size_none format) in
    let empty : [] ≡ rs = cc in
    subst (λ (l : List PacketReport). AreSpelled format zero last octets l) empty (record { spelled = none; many = refl; ranges = tt; sessions = tt; follows = follows_none last })
list_takes format (suc count) n last octets rs fits long e =
    let x = record_at format octets in
    let range = chosen_first (in_range x.0) _ (Range n) rs e in
    let order = chosen_first (above last x.0) _ (Order n) rs range.1 in
    let more = some_first x.0 _ rs order.1 in
    let size = size_more format count in
    let rest = list_takes format count (n + 1) (Some x.0) x.1 more.0 (rest_fits format octets fits) (omega (arith, rest_length format octets, long, size)) more.1 in
    let whole : octets ≡ flat_map (record_octets format) (x.0 ∷ more.0) =
    sym (record_takes format octets fits (omega (arith, long, size))) ∙ ap (λ (l : List ℕ). record_octets format x.0 ++ l) rest.spelled ∙ sym (flat_map-cons (record_octets format) x.0 more.0) in
    let widths = widths_at format octets fits in
    subst (λ (l : List PacketReport). AreSpelled format (suc count) last octets l) more.2 (record {
      spelled = whole;
      many = ap suc rest.many;
      ranges = (ranges_at format octets fits range.0, rest.ranges);
      sessions = (widths.session, rest.sessions);
      follows = follows_more last x.0 more.0 order.0 rest.follows;
    })
