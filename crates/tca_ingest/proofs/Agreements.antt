-- Chains that agree: one begins with the other, and a program that compares them finds no difference.
use Rattle.std.proofs.Common.{◌≡◌, ◌≤◌, true, Option, None, Some, List, [], ◌∷◌, length, take, refl, sym, subst, arith, inl, inr}
use Rattle.std.specs.Cmp.{tied_itself}
use Rattle.tca_report.specs.report.Reports.{PacketReport, report_cmp}
use Rattle.tca_report.proofs.lemmas.report.Order.{report_total, report_exact}
use Rattle.tca_join.specs.Maps.{clash_with}
use Rattle.tca_join.specs.Chains.{differ_at}
use Rattle.tca_gossip.specs.Replicas.{or_empty}
use Rattle.tca_gossip.specs.Runs.{same_report}
use Rattle.tca_gossip.specs.Holding.{Begins, Agree}
use Rattle.tca_gossip.proofs.MergedLogs.{parts}
use Rattle.tca_ingest.proofs.Holdings.{equal_of}

pub begins_itself : (xs : List PacketReport) → Begins xs xs
begins_itself [] = tt
begins_itself (x ∷ xs) = (refl, begins_itself xs)

pub begins_length : (xs ys : List PacketReport) → Begins xs ys → length xs ≤ length ys
begins_length [] ys h = omega arith
begins_length (x ∷ xs) [] h = absurd h
begins_length (x ∷ xs) (y ∷ ys) h = omega (arith, begins_length xs ys h.1)

-- what a chain begins with is its first reports
pub begins_take : (xs ys : List PacketReport) → Begins xs ys → xs ≡ take (length xs) ys
begins_take [] ys h = refl
begins_take (x ∷ xs) [] h = absurd h
begins_take (x ∷ xs) (y ∷ ys) h = λ i. h.0 i ∷ begins_take xs ys h.1 i

both_ways : (xs ys : List PacketReport) → Begins ys xs → length xs ≤ length ys → Begins xs ys
both_ways [] ys h l = tt
both_ways (x ∷ xs) [] h l = absurd (omega arith)
both_ways (x ∷ xs) (y ∷ ys) h l = (sym h.0, both_ways xs ys h.1 (omega (arith, l)))

-- of two chains that agree the longer begins with the other
pub shorter_begins : (xs ys : List PacketReport) → Agree xs ys → length xs ≤ length ys → Begins xs ys
shorter_begins xs ys (inl h) l = h
shorter_begins xs ys (inr h) l = both_ways xs ys h l

-- and where they are as long, they are one
pub equal_chains : (xs ys : List PacketReport) → Agree xs ys → length xs ≡ length ys → xs ≡ ys
equal_chains xs ys agree same = whole xs ys (shorter_begins xs ys agree (omega (arith, same))) same where
  whole : (xs ys : List PacketReport) → Begins xs ys → length xs ≡ length ys → xs ≡ ys
  whole [] [] h e = refl
  whole [] (y ∷ ys) h e = absurd (omega (arith, e))
  whole (x ∷ xs) [] h e = absurd h
  whole (x ∷ xs) (y ∷ ys) h e = λ i. h.0 i ∷ whole xs ys h.1 (omega (arith, e)) i

pub agree_back : (xs ys : List PacketReport) → Agree xs ys → Agree ys xs
agree_back xs ys (inl h) = inr h
agree_back xs ys (inr h) = inl h

-- as a program compares them
alike : (x : PacketReport) → same_report x x ≡ true
alike x = rw (tied_itself report_total x) refl

exact : (x y : PacketReport) → same_report x y ≡ true → x ≡ y
exact x y e = report_exact x y (equal_of (report_cmp x y) e)

begins_none : (xs ys : List PacketReport) → Begins xs ys → differ_at same_report xs ys ≡ None
begins_none [] ys h = refl
begins_none (x ∷ xs) [] h = absurd h
begins_none (x ∷ xs) (y ∷ ys) h = rw (subst (λ z. same_report x z ≡ true) h.0 (alike x), begins_none xs ys h.1) refl

back_none : (xs ys : List PacketReport) → Begins ys xs → differ_at same_report xs ys ≡ None
back_none [] ys h = refl
back_none (x ∷ xs) [] h = refl
back_none (x ∷ xs) (y ∷ ys) h = rw (subst (λ z. same_report z y ≡ true) h.0 (alike y), back_none xs ys h.1) refl

none_agree : (xs ys : List PacketReport) → differ_at same_report xs ys ≡ None → Agree xs ys
none_agree [] ys e = inl tt
none_agree (x ∷ xs) [] e = inr tt
none_agree (x ∷ xs) (y ∷ ys) e =
    let both = parts same_report exact x y xs ys e in
    elim (none_agree xs ys both.1) [
      | inl h ↦ inl (exact x y both.0, h)
      | inr h ↦ inr (sym (exact x y both.0), h)
    ]

-- chains that may be missing
pub agree_clash : (a b : Option (List PacketReport)) → Agree (or_empty a) (or_empty b) → clash_with (differ_at same_report) a b ≡ None
agree_clash None b h = refl
agree_clash (Some a) None h = refl
agree_clash (Some a) (Some b) (inl h) = begins_none a b h
agree_clash (Some a) (Some b) (inr h) = back_none a b h

pub clash_agree : (a b : Option (List PacketReport)) → clash_with (differ_at same_report) a b ≡ None → Agree (or_empty a) (or_empty b)
clash_agree None b e = inl tt
clash_agree (Some a) None e = inr tt
clash_agree (Some a) (Some b) e = none_agree a b e
