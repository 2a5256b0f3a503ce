-- What new reports add to a log.
use Rattle.std.proofs.Common.{◌≡◌, ℕ, zero, suc, ◌+◌, ◌<◌, ◌≤◌, Bool, true, false, ◌||◌, cond, List, [], ◌∷◌, ◌++◌, length, get_or, drop, filter, refl, sym, ap, subst, ◌∙◌, arith, add-one, length-append, add_assoc, append_assoc}
use Rattle.std.specs.Prelude.{nat_lt}
use Rattle.std.proofs.Math.Seq.{drop-cons}
use Rattle.std.specs.List.{AllByRecursion}
use Rattle.std.specs.Ordering.{eq_by_cmp, is_eq}
use Rattle.std.specs.Cmp.{tied_itself, Equal-is}
use Rattle.std.specs.declared.cmp.Ordering.{Ordering}
use borrow.Author.Tests.{ltb-true, ltb-false}
use Rattle.std.proofs.lemmas.List.{append-nil}
use Rattle.std.proofs.lemmas.List.Elements.{filter-append}
use Rattle.tca_join.specs.Sets.{has, put}
use Rattle.tca_join.proofs.Sets.{has-put, has-append, all_put, all_more, or_swap}
use Rattle.tca_report.specs.report.Reports.{PacketReport, report_cmp}
use Rattle.tca_report.specs.report.Identities.{identity_of, identity_cmp, identity_total}
use Rattle.tca_report.proofs.lemmas.report.Order.{report_total}
use Rattle.tca_report.proofs.lemmas.report.Identities.{identity_exact}
use Rattle.tca_report.specs.declared.report.Identity.{Identity}
use Rattle.tca_log.specs.declared.by_identity.ByIdentity.{ByIdentity}
use Rattle.tca_log.specs.Rows.Ordered.{put_each}
use Rattle.tca_log.specs.Disputes.{has_identity, contents}
use Rattle.tca_log.specs.inside.Logs.{index_cmp, indexed, count_at, IsLog}
use Rattle.tca_log.specs.inside.Additions.{AreAdditions, AddedRows, with_report, with_reports, reports_in}
use Rattle.tca_log.proofs.Contents.{has-disputed}
use Rattle.tca_log.proofs.OrderedRows.Parts.{or_parts}
use Rattle.tca_log.proofs.OrderedRows.Small.{put_longest}
use Rattle.tca_log.proofs.Logs.{index_total, one_more, one_more_there, first_one, second_one, further_one}

pub or_comm : (a b : Bool) → (a || b) ≡ (b || a)
or_comm true true = refl
or_comm true false = refl
or_comm false true = refl
or_comm false false = refl

pub or_true : (b : Bool) → (b || true) ≡ true
or_true true = refl
or_true false = refl

module _ {K : Type 0} (R : K → K → Ordering) where
  pub put_each_longest : (ks xs : List K) → length (put_each R ks xs) ≤ length xs + length ks
  unfolding put_each
  put_each_longest [] xs = omega arith
  put_each_longest (k ∷ ks) xs = omega (arith, put_each_longest ks (put R k xs), put_longest R k xs)

-- additions grow by one at most
pub fresh_grows : (index : List ByIdentity) (disputed_identities : List Identity) (key : ByIdentity) (n : AddedRows) → length (with_report index disputed_identities key n).fresh ≤ length n.fresh + 1
fresh_grows index disputed_identities key n =
    elim (has index_cmp index key || has index_cmp n.fresh key) as (λ b. length (cond b (cond (has identity_cmp disputed_identities (identity_of key.report) || has identity_cmp n.newly_disputed (identity_of key.report)) n (record { fresh = n.fresh; newly_disputed = put identity_cmp (identity_of key.report) n.newly_disputed })) (record { fresh = put index_cmp key n.fresh; newly_disputed = n.newly_disputed })).fresh ≤ length n.fresh + 1) [
      | true ↦ elim (has identity_cmp disputed_identities (identity_of key.report) || has identity_cmp n.newly_disputed (identity_of key.report)) as (λ b. length (cond b n (record { fresh = n.fresh; newly_disputed = put identity_cmp (identity_of key.report) n.newly_disputed })).fresh ≤ length n.fresh + 1) [ true ↦ omega arith | false ↦ omega arith ]
      | false ↦ put_longest index_cmp key n.fresh
    ]

pub disputed_grows : (index : List ByIdentity) (disputed_identities : List Identity) (key : ByIdentity) (n : AddedRows) → length (with_report index disputed_identities key n).newly_disputed ≤ length n.newly_disputed + 1
disputed_grows index disputed_identities key n =
    elim (has index_cmp index key || has index_cmp n.fresh key) as (λ b. length (cond b (cond (has identity_cmp disputed_identities (identity_of key.report) || has identity_cmp n.newly_disputed (identity_of key.report)) n (record { fresh = n.fresh; newly_disputed = put identity_cmp (identity_of key.report) n.newly_disputed })) (record { fresh = put index_cmp key n.fresh; newly_disputed = n.newly_disputed })).newly_disputed ≤ length n.newly_disputed + 1) [
      | true ↦ elim (has identity_cmp disputed_identities (identity_of key.report) || has identity_cmp n.newly_disputed (identity_of key.report)) as (λ b. length (cond b n (record { fresh = n.fresh; newly_disputed = put identity_cmp (identity_of key.report) n.newly_disputed })).newly_disputed ≤ length n.newly_disputed + 1) [ true ↦ omega arith | false ↦ put_longest identity_cmp (identity_of key.report) n.newly_disputed ]
      | false ↦ omega arith
    ]

-- one more report
pub reports_more : (index : List ByIdentity) (disputed_identities : List Identity) (keys : List ByIdentity) (i : ℕ) (key : ByIdentity) (n : AddedRows) → i < length keys → key ≡ get_or keys i key → with_reports index disputed_identities (drop (i + 1) keys) (with_report index disputed_identities key n) ≡ with_reports index disputed_identities (drop i keys) n
unfolding with_reports
reports_more index disputed_identities keys i key n h is =
    let cut : drop i keys ≡ key ∷ drop (i + 1) keys = rw add-one (drop-cons keys i key h ∙ ap (λ (y : ByIdentity). y ∷ drop (suc i) keys) (sym is)) in
    sym (ap (λ (l : List ByIdentity). with_reports index disputed_identities l n) cut)

pub reports_end : (index : List ByIdentity) (disputed_identities : List Identity) (keys : List ByIdentity) (i : ℕ) (n : AddedRows) → length keys ≤ i → n ≡ with_reports index disputed_identities (drop i keys) n
unfolding with_reports
reports_end index disputed_identities [] zero n h = refl
reports_end index disputed_identities [] (suc i) n h = refl
reports_end index disputed_identities (k ∷ keys) zero n h = absurd (omega arith)
reports_end index disputed_identities (k ∷ keys) (suc i) n h = reports_end index disputed_identities keys i n (omega arith)

pub count_snoc : (rs : List PacketReport) (r : PacketReport) (i : Identity) → count_at (rs ++ r ∷ []) i ≡ count_at rs i + cond (eq_by_cmp identity_cmp i (identity_of r)) 1 0
unfolding contents
count_snoc rs r i =
    ap length (filter-append (has_identity i) rs (r ∷ []))
    ∙ length-append (filter (has_identity i) rs) (filter (has_identity i) (r ∷ []))
    ∙ ap (λ n. length (filter (has_identity i) rs) + n) (one (has_identity i r))
  where
    one : (b : Bool) → length (cond b (r ∷ []) []) ≡ cond b 1 0
    one true = refl
    one false = refl

-- before the first report
notes_none : (rs : List PacketReport) (index : List ByIdentity) (disputed_identities : List Identity) → IsLog rs index disputed_identities → AreAdditions rs index disputed_identities [] [] []
unfolding has contents
notes_none rs index disputed_identities log = record {
  known = λ r. or_none (has index_cmp index (indexed r)) ∙ log.known r ∙ ap (nat_lt 0) (plus_none (count_at rs (identity_of r)));
  disputed_are = λ i. or_none (has identity_cmp disputed_identities i) ∙ ap (λ is. has identity_cmp is i) log.disputed_are ∙ has-disputed rs i ∙ ap (nat_lt 1) (plus_none (count_at rs i));
  among = tt;
  apart = tt;
  apart_disputed = tt;
  fewer = omega arith;
  fewer_disputed = omega arith;
}
  where
    or_none : (b : Bool) → (b || false) ≡ b
    or_none true = refl
    or_none false = refl

    plus_none : (n : ℕ) → n ≡ n + 0
    plus_none n = omega arith

module _ (rs : List PacketReport) (index : List ByIdentity) (disputed_identities : List Identity) (seen : List PacketReport) (fresh : List ByIdentity) (newly_disputed : List Identity) (additions : AreAdditions rs index disputed_identities seen fresh newly_disputed) (r : PacketReport) where
  sum_at : (i : Identity) → count_at rs i + count_at (seen ++ r ∷ []) i ≡ (count_at rs i + count_at seen i) + cond (eq_by_cmp identity_cmp i (identity_of r)) 1 0
  sum_at i = ap (λ n. count_at rs i + n) (count_snoc seen r i) ∙ sym (add_assoc (count_at rs i) (count_at seen i) (cond (eq_by_cmp identity_cmp i (identity_of r)) 1 0))

  alike_at : (i : Identity) → eq_by_cmp identity_cmp i (identity_of r) ≡ true → count_at rs i + count_at seen i ≡ count_at rs (identity_of r) + count_at seen (identity_of r)
  alike_at i e = ap (λ j. count_at rs j + count_at seen j) (identity_exact i (identity_of r) ((Equal-is (identity_cmp i (identity_of r))).0 e))

  one_longer : length (seen ++ r ∷ []) ≡ length seen + 1
  one_longer = length-append seen (r ∷ [])

  old_among : AllByRecursion (λ b. has report_cmp (seen ++ r ∷ []) b.report ≡ true) fresh
  old_among = all_more (λ b. has report_cmp seen b.report ≡ true) (λ b. has report_cmp (seen ++ r ∷ []) b.report ≡ true) (λ b e. has-append report_cmp report_total seen (r ∷ []) b.report ∙ ap (λ c. c || has report_cmp (r ∷ []) b.report) e) fresh additions.among

  last_among : has report_cmp (seen ++ r ∷ []) r ≡ true
  last_among = has-append report_cmp report_total seen (r ∷ []) r ∙ ap (λ b. has report_cmp seen r || b) (itself r) ∙ or_true (has report_cmp seen r)
    where
      itself : (x : PacketReport) → has report_cmp (x ∷ []) x ≡ true
      itself x = unfold has in ap (λ o. is_eq o || false) (tied_itself report_total x)

  -- an identity that was unknown
  module _ (absent : (has index_cmp index (indexed r) || has index_cmp fresh (indexed r)) ≡ false) where
    none : count_at rs (identity_of r) + count_at seen (identity_of r) ≡ 0
    none = let least = ltb-false 0 (count_at rs (identity_of r) + count_at seen (identity_of r)) (sym (additions.known r) ∙ absent) in omega (arith, least)

    pub notes_fresh : AreAdditions rs index disputed_identities (seen ++ r ∷ []) (put index_cmp (indexed r) fresh) newly_disputed
    notes_fresh = record {
      known = λ q.
          ap (λ b. has index_cmp index (indexed q) || b) (has-put index_cmp index_total (indexed r) fresh (indexed q))
          ∙ or_swap (has index_cmp index (indexed q)) (eq_by_cmp identity_cmp (identity_of q) (identity_of r)) (has index_cmp fresh (indexed q))
          ∙ ap (λ b. eq_by_cmp identity_cmp (identity_of q) (identity_of r) || b) (additions.known q)
          ∙ one_more (eq_by_cmp identity_cmp (identity_of q) (identity_of r)) (count_at rs (identity_of q) + count_at seen (identity_of q))
          ∙ ap (nat_lt 0) (sym (sum_at (identity_of q)));
      disputed_are = λ i. additions.disputed_are i ∙ first_one (eq_by_cmp identity_cmp i (identity_of r)) (count_at rs i + count_at seen i) (λ e. alike_at i e ∙ none) ∙ ap (nat_lt 1) (sym (sum_at i));
      among = all_put index_cmp index_total (λ b. has report_cmp (seen ++ r ∷ []) b.report ≡ true) (indexed r) fresh last_among old_among;
      apart = all_put index_cmp index_total (λ b. has index_cmp index b ≡ false) (indexed r) fresh (or_parts (has index_cmp index (indexed r)) (has index_cmp fresh (indexed r)) absent).0 additions.apart;
      apart_disputed = additions.apart_disputed;
      fewer = omega (arith, put_longest index_cmp (indexed r) fresh, additions.fewer, one_longer);
      fewer_disputed = omega (arith, additions.fewer_disputed, one_longer);
    }

  -- one that was known
  module _ (present : (has index_cmp index (indexed r) || has index_cmp fresh (indexed r)) ≡ true) where
    some : 0 < count_at rs (identity_of r) + count_at seen (identity_of r)
    some = ltb-true 0 (count_at rs (identity_of r) + count_at seen (identity_of r)) (sym (additions.known r) ∙ present)

    some_at : (i : Identity) → eq_by_cmp identity_cmp i (identity_of r) ≡ true → 0 < count_at rs i + count_at seen i
    some_at i e = subst (λ n. 0 < n) (sym (alike_at i e)) some

    still_known : (q : PacketReport) → (has index_cmp index (indexed q) || has index_cmp fresh (indexed q)) ≡ nat_lt 0 (count_at rs (identity_of q) + count_at (seen ++ r ∷ []) (identity_of q))
    still_known q = additions.known q ∙ one_more_there (eq_by_cmp identity_cmp (identity_of q) (identity_of r)) (count_at rs (identity_of q) + count_at seen (identity_of q)) (some_at (identity_of q)) ∙ ap (nat_lt 0) (sym (sum_at (identity_of q)))

    pub notes_second : (has identity_cmp disputed_identities (identity_of r) || has identity_cmp newly_disputed (identity_of r)) ≡ false → AreAdditions rs index disputed_identities (seen ++ r ∷ []) fresh (put identity_cmp (identity_of r) newly_disputed)
    notes_second single = record {
      known = still_known;
      disputed_are = λ i.
          ap (λ b. has identity_cmp disputed_identities i || b) (has-put identity_cmp identity_total (identity_of r) newly_disputed i)
          ∙ or_swap (has identity_cmp disputed_identities i) (eq_by_cmp identity_cmp i (identity_of r)) (has identity_cmp newly_disputed i)
          ∙ ap (λ b. eq_by_cmp identity_cmp i (identity_of r) || b) (additions.disputed_are i)
          ∙ second_one (eq_by_cmp identity_cmp i (identity_of r)) (count_at rs i + count_at seen i) (some_at i)
          ∙ ap (nat_lt 1) (sym (sum_at i));
      among = old_among;
      apart = additions.apart;
      apart_disputed = all_put identity_cmp identity_total (λ i. has identity_cmp disputed_identities i ≡ false) (identity_of r) newly_disputed (or_parts (has identity_cmp disputed_identities (identity_of r)) (has identity_cmp newly_disputed (identity_of r)) single).0 additions.apart_disputed;
      fewer = omega (arith, additions.fewer, one_longer);
      fewer_disputed = omega (arith, put_longest identity_cmp (identity_of r) newly_disputed, additions.fewer_disputed, one_longer);
    }

    pub notes_further : (has identity_cmp disputed_identities (identity_of r) || has identity_cmp newly_disputed (identity_of r)) ≡ true → AreAdditions rs index disputed_identities (seen ++ r ∷ []) fresh newly_disputed
    notes_further double = record {
      known = still_known;
      disputed_are = λ i. additions.disputed_are i ∙ further_one (eq_by_cmp identity_cmp i (identity_of r)) (count_at rs i + count_at seen i) (λ e. subst (λ n. 1 < n) (sym (alike_at i e)) (ltb-true 1 (count_at rs (identity_of r) + count_at seen (identity_of r)) (sym (additions.disputed_are (identity_of r)) ∙ double))) ∙ ap (nat_lt 1) (sym (sum_at i));
      among = old_among;
      apart = additions.apart;
      apart_disputed = additions.apart_disputed;
      fewer = omega (arith, additions.fewer, one_longer);
      fewer_disputed = omega (arith, additions.fewer_disputed, one_longer);
    }

-- one more report
notes_next : (rs : List PacketReport) (index : List ByIdentity) (disputed_identities : List Identity) (seen : List PacketReport) (n : AddedRows) (key : ByIdentity) → AreAdditions rs index disputed_identities seen n.fresh n.newly_disputed
    → AreAdditions rs index disputed_identities (seen ++ key.report ∷ []) (with_report index disputed_identities key n).fresh (with_report index disputed_identities key n).newly_disputed
notes_next rs index disputed_identities seen n key additions =
    elim (has index_cmp index key || has index_cmp n.fresh key) as (λ b. (has index_cmp index key || has index_cmp n.fresh key) ≡ b → AreAdditions rs index disputed_identities (seen ++ key.report ∷ [])
    (cond b (cond (has identity_cmp disputed_identities (identity_of key.report) || has identity_cmp n.newly_disputed (identity_of key.report)) n (record { fresh = n.fresh; newly_disputed = put identity_cmp (identity_of key.report) n.newly_disputed })) (record { fresh = put index_cmp key n.fresh; newly_disputed = n.newly_disputed })).fresh
    (cond b (cond (has identity_cmp disputed_identities (identity_of key.report) || has identity_cmp n.newly_disputed (identity_of key.report)) n (record { fresh = n.fresh; newly_disputed = put identity_cmp (identity_of key.report) n.newly_disputed })) (record { fresh = put index_cmp key n.fresh; newly_disputed = n.newly_disputed })).newly_disputed) [
      | true ↦ λ e. elim (has identity_cmp disputed_identities (identity_of key.report) || has identity_cmp n.newly_disputed (identity_of key.report)) as (λ b. (has identity_cmp disputed_identities (identity_of key.report) || has identity_cmp n.newly_disputed (identity_of key.report)) ≡ b → AreAdditions rs index disputed_identities (seen ++ key.report ∷ []) (cond b n (record { fresh = n.fresh; newly_disputed = put identity_cmp (identity_of key.report) n.newly_disputed })).fresh (cond b n (record { fresh = n.fresh; newly_disputed = put identity_cmp (identity_of key.report) n.newly_disputed })).newly_disputed) [
        | true ↦ λ d. notes_further rs index disputed_identities seen n.fresh n.newly_disputed additions key.report e d
        | false ↦ λ d. notes_second rs index disputed_identities seen n.fresh n.newly_disputed additions key.report e d
      ] refl
      | false ↦ λ e. notes_fresh rs index disputed_identities seen n.fresh n.newly_disputed additions key.report e
    ] refl

notes_each : (rs : List PacketReport) (index : List ByIdentity) (disputed_identities : List Identity) (seen : List PacketReport) (n : AddedRows) (keys : List ByIdentity) → AreAdditions rs index disputed_identities seen n.fresh n.newly_disputed
    → AreAdditions rs index disputed_identities (seen ++ reports_in keys) (with_reports index disputed_identities keys n).fresh (with_reports index disputed_identities keys n).newly_disputed
unfolding with_reports
notes_each rs index disputed_identities seen n [] additions = subst (λ (l : List PacketReport). AreAdditions rs index disputed_identities l n.fresh n.newly_disputed) (sym (append-nil seen)) additions
notes_each rs index disputed_identities seen n (key ∷ keys) additions =
    subst (λ (l : List PacketReport). AreAdditions rs index disputed_identities l (with_reports index disputed_identities keys (with_report index disputed_identities key n)).fresh (with_reports index disputed_identities keys (with_report index disputed_identities key n)).newly_disputed) (append_assoc seen (key.report ∷ []) (reports_in keys))
    (notes_each rs index disputed_identities (seen ++ key.report ∷ []) (with_report index disputed_identities key n) keys (notes_next rs index disputed_identities seen n key additions))

-- what all reports add
pub additions_all : (rs : List PacketReport) (index : List ByIdentity) (disputed_identities : List Identity) (keys : List ByIdentity) (n : AddedRows) → IsLog rs index disputed_identities → n ≡ with_reports index disputed_identities keys (record { fresh = []; newly_disputed = [] }) → AreAdditions rs index disputed_identities (reports_in keys) n.fresh n.newly_disputed
additions_all rs index disputed_identities keys n log is =
    subst (λ (m : AddedRows). AreAdditions rs index disputed_identities (reports_in keys) m.fresh m.newly_disputed) (sym is) (notes_each rs index disputed_identities [] (record { fresh = []; newly_disputed = [] }) keys (notes_none rs index disputed_identities log))
