-- What an answer has of the reports that its pass took before it.
use Rattle.std.proofs.Common.{◌≡◌, ℕ, Bool, true, false, ◌||◌, cond, List, [], ◌∷◌, ◌++◌, ◌==◌, refl, sym, ap, ◌∙◌, subst, inl, inr}
use Rattle.std.proofs.lemmas.Bool.{or_left, or_right, or_cases}
use Rattle.tca_report.specs.report.Reports.{PacketReport, report_cmp}
use Rattle.tca_report.proofs.lemmas.report.Order.{report_total}
use Rattle.tca_join.specs.Sets.{has}
use Rattle.tca_join.proofs.Sets.{has-append}
use Rattle.tca_accounts.specs.Plans.{AccountPlan}
use Rattle.tca_accounts.specs.declared.bill.Bill.{Bill}
use Rattle.tca_gossip.specs.Replicas.{reports_in}
use Rattle.tca_gossip.specs.Runs.{RunView}
use Rattle.tca_ingest.specs.Entries.{EntryView, Took, Absorbed, Answered, Asked, Sent, pass_of}
use Rattle.tca_ingest.specs.Journals.{no_lists, list_of, lists, took_in, AreRight}
use Rattle.tca_ingest.specs.Passes.{calls_of, IsAnswered, IsAsked, IsSent}
use Rattle.tca_ingest.proofs.Brought.{brought_held, counts_lists, listed_somewhere, right_front, told}
use Rattle.tca_ingest.proofs.Holdings.{has_after}
use Rattle.tca_ingest.proofs.Histories.{right_at}
use Rattle.tca_ingest.proofs.Listings.{listed_from}

-- an entry of another kind takes nothing
others_take : (b : Bool) (e : EntryView) (es : List EntryView) (q : PacketReport) → took_in (e ∷ es) ≡ took_in es → has report_cmp (took_in (cond b (e ∷ es) es)) q ≡ true → has report_cmp (took_in es) q ≡ true
others_take true e es q same h = ap (λ (rs : List PacketReport). has report_cmp rs q) (sym same) ∙ h
others_take false e es q same h = h

-- what entries of a pass take is among what all take
took_within : (number : ℕ) (es : List EntryView) (q : PacketReport) → has report_cmp (took_in (calls_of number es)) q ≡ true → has report_cmp (took_in es) q ≡ true
unfolding took_in
took_within number [] q h = h
took_within number (Took pass reports fresh stop ∷ es) q h =
    has-append report_cmp report_total reports (took_in es) q
    ∙ elim (pass == number) as (λ b. has report_cmp (took_in (cond b (Took pass reports fresh stop ∷ calls_of number es) (calls_of number es))) q ≡ true → (has report_cmp reports q || has report_cmp (took_in es) q) ≡ true) [
      | true ↦ λ h. elim (or_cases (has report_cmp reports q) (has report_cmp (took_in (calls_of number es)) q) (sym (has-append report_cmp report_total reports (took_in (calls_of number es)) q) ∙ h)) [
        | inl a ↦ or_left (has report_cmp reports q) (has report_cmp (took_in es) q) a
        | inr a ↦ or_right (has report_cmp reports q) (has report_cmp (took_in es) q) (took_within number es q a)
      ]
      | false ↦ λ h. or_right (has report_cmp reports q) (has report_cmp (took_in es) q) (took_within number es q h)
    ] h
took_within number (Absorbed pass runs result ∷ es) q h = took_within number es q (others_take (pass == number) (Absorbed pass runs result) (calls_of number es) q refl h)
took_within number (Answered pass bill ∷ es) q h = took_within number es q (others_take (pass == number) (Answered pass bill) (calls_of number es) q refl h)
took_within number (Asked pass summary ∷ es) q h = took_within number es q (others_take (pass == number) (Asked pass summary) (calls_of number es) q refl h)
took_within number (Sent pass since delta ∷ es) q h = took_within number es q (others_take (pass == number) (Sent pass since delta) (calls_of number es) q refl h)

head_is : (x y : EntryView) (xs ys : List EntryView) → x ∷ xs ≡ y ∷ ys → x ≡ y
head_is x y xs ys e = cc

tail_is : (x y : EntryView) (xs ys : List EntryView) → x ∷ xs ≡ y ∷ ys → xs ≡ ys
tail_is x y xs ys e = cc

-- where an entry of a pass stands in the journal
abbrev Stands : ℕ → List EntryView → List EntryView → EntryView → Type 0
Stands number xs cs e = (before : List EntryView) × (rest : List EntryView) × (xs ≡ before ++ e ∷ rest) × (calls_of number before ≡ cs)

stands_here : (number : ℕ) (x : EntryView) (xs cs ds : List EntryView) (e : EntryView) → pass_of x == number ≡ true → x ∷ calls_of number xs ≡ cs ++ e ∷ ds → ((more : List EntryView) → calls_of number xs ≡ more ++ e ∷ ds → Stands number xs more e) → Stands number (x ∷ xs) cs e
stands_here number x xs [] ds e its is go = ([], xs, ap (λ y. y ∷ xs) (head_is x e (calls_of number xs) ds is), refl)
stands_here number x xs (c ∷ cs) ds e its is go =
    let found = go cs (tail_is x c (calls_of number xs) (cs ++ e ∷ ds) is) in
    (x ∷ found.0, found.1, ap (λ (l : List EntryView). x ∷ l) found.2, ap (λ b. cond b (x ∷ calls_of number found.0) (calls_of number found.0)) its ∙ (λ i. head_is x c (calls_of number xs) (cs ++ e ∷ ds) is i ∷ found.3 i))

stands : (number : ℕ) (xs cs ds : List EntryView) (e : EntryView) → calls_of number xs ≡ cs ++ e ∷ ds → Stands number xs cs e
stands number [] [] ds e is = absurd cc
stands number [] (c ∷ cs) ds e is = absurd cc
stands number (x ∷ xs) cs ds e is =
    elim (pass_of x == number) as (λ b. pass_of x == number ≡ b → cond b (x ∷ calls_of number xs) (calls_of number xs) ≡ cs ++ e ∷ ds → Stands number (x ∷ xs) cs e) [
      | true ↦ λ its is. stands_here number x xs cs ds e its is (λ more m. stands number xs more ds e m)
      | false ↦ λ its is. let found = stands number xs cs ds e is in (x ∷ found.0, found.1, ap (λ (l : List EntryView). x ∷ l) found.2, ap (λ b. cond b (x ∷ calls_of number found.0) (calls_of number found.0)) its ∙ found.3)
    ] refl is

pub answer_has : (plan : AccountPlan) (name : ℕ) (journal calls rest : List EntryView) (number pass : ℕ) (bill : Bill) → AreRight plan name journal → calls_of number journal ≡ calls ++ Answered pass bill ∷ rest → IsAnswered plan name journal calls number pass bill
answer_has plan name journal calls rest number pass bill right is =
    let found = stands number journal calls rest (Answered pass bill) is in
    record {
      before = found.0;
      later = found.1;
      split = found.2;
      own_calls = found.3;
      bill_is = right_at plan name no_lists found.0 found.1 (Answered pass bill) (subst (AreRight plan name) found.2 right);
      took = λ q h.
          has_after (lists name found.0) q
          ∙ ap (λ (xs : List PacketReport). has report_cmp xs q || has report_cmp (reports_in (lists name found.0).gained) q) (listed_from name no_lists found.0)
          ∙ or_left (has report_cmp (took_in found.0) q) (has report_cmp (reports_in (lists name found.0).gained) q) (took_within number found.0 q (subst (λ (xs : List EntryView). has report_cmp (took_in xs) q ≡ true) (sym found.3) h));
      holds = brought_held name number found.0;
    }

pub summary_has : (plan : AccountPlan) (name : ℕ) (journal calls rest : List EntryView) (number pass : ℕ) (summary : List (ℕ × ℕ)) → AreRight plan name journal → calls_of number journal ≡ calls ++ Asked pass summary ∷ rest → IsAsked name journal calls number pass summary
summary_has plan name journal calls rest number pass summary right is =
    let found = stands number journal calls rest (Asked pass summary) is in
    let whole = subst (AreRight plan name) found.2 right in
    record {
      before = found.0;
      later = found.1;
      split = found.2;
      own_calls = found.3;
      counts = counts_lists (list_of name (lists name found.0)) summary (right_at plan name no_lists found.0 found.1 (Asked pass summary) whole);
      holds = λ q h. listed_somewhere plan name found.0 (right_front plan name no_lists found.0 (Asked pass summary ∷ found.1) whole) q (brought_held name number found.0 q h);
    }

pub delta_has : (plan : AccountPlan) (name : ℕ) (journal calls rest : List EntryView) (number pass : ℕ) (since : List (ℕ × ℕ)) (delta : List RunView) → AreRight plan name journal → calls_of number journal ≡ calls ++ Sent pass since delta ∷ rest
    → IsSent name journal calls number pass since delta
delta_has plan name journal calls rest number pass since delta right is =
    let found = stands number journal calls rest (Sent pass since delta) is in
    let whole = subst (AreRight plan name) found.2 right in
    let answer = right_at plan name no_lists found.0 found.1 (Sent pass since delta) whole in
    record {
      before = found.0;
      later = found.1;
      split = found.2;
      own_calls = found.3;
      answer = answer;
      holds = λ q h.
          let at = listed_somewhere plan name found.0 (right_front plan name no_lists found.0 (Sent pass since delta ∷ found.1) whole) q (brought_held name number found.0 q h) in
          (at.0, told (list_of name (lists name found.0)) since delta answer at.0 q at.1);
    }
