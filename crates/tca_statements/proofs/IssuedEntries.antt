-- What a change at one key makes of the amounts issued.
use Rattle.std.proofs.Common.{◌≡◌, ◌∙◌, ◌++◌, ◌<◌, ℕ, List, [], ◌∷◌, false, Option, Some, Result, Ok, Err, OnErr, sym, ap, refl, arith}
use Rattle.std.proofs.lemmas.Bool.Decides.{nat_tests}
use Rattle.std.proofs.lemmas.Cmp.{ranked}
use Rattle.std.proofs.lemmas.Map.Steps.{set_value_same}
use Rattle.std.specs.BTreeMap.{BTreeMap, UpdatesBy, get_by, is_at}
use Rattle.std.specs.Map.{lookup, set_value}
use Rattle.std.specs.Ordering.{nat_cmp, ordering_then, is_eq, MatchOrdering}
use Rattle.std.specs.declared.cmp.Ordering.{Ordering}
use Rattle.std.specs.declared.cmp.Ordering.TheVariants.{Less, Equal, Greater}
use Rattle.tca_accounts.specs.Plans.{same_pair}
use Rattle.tca_accounts.specs.declared.bill.Bill.{Bill}
use Rattle.tca_statements.specs.declared.amount.Amount.{Amount}
use Rattle.tca_statements.specs.Issues.{Issued, due_now, entry_cmp, issued_for, less, next_amount, or_none, sum_of}
use Rattle.tca_statements.proofs.AmountSums.{sum_made}

apart_by : (a b c d : ℕ) (o p : Ordering) → MatchOrdering o (a < c) (a ≡ c) (c < a) → MatchOrdering p (b < d) (b ≡ d) (d < b) → same_pair (a, b) (c, d) ≡ false → is_eq (ordering_then o p) ≡ false
apart_by a b c d Less p first second differ = refl
apart_by a b c d Greater p first second differ = refl
apart_by a b c d Equal Less first second differ = refl
apart_by a b c d Equal Greater first second differ = refl
apart_by a b c d Equal Equal first second differ = absurd (grind (arith, nat_tests, first, second, differ))

-- pairs that differ compare so
apart : (a b c d : ℕ) → same_pair (a, b) (c, d) ≡ false → is_at (entry_cmp (a, b)) (c, d) ≡ false
apart a b c d differ = apart_by a b c d (nat_cmp a c) (nat_cmp b d) (ranked a c _ refl) (ranked b d _ refl) differ

-- what holds anyway holds of an error
pub on_err : {X Y P : Type 0} (r : Result X Y) → P → OnErr r P
on_err (Ok x) p = tt
on_err (Err e) p = p

-- the amounts of a key before the change: those that the map has there
pub issued_before : (old : Issued) (account span : ℕ) (m : BTreeMap (ℕ × ℕ) (List Amount)) (found : Option (List Amount)) → old.entries ≡ m.entries → found ≡ get_by (entry_cmp (account, span)) m
    → issued_for old account span ≡ or_none found
unfolding issued_for
issued_before old account span m found was looked = ap (λ es. or_none (lookup (is_at (entry_cmp (account, span))) es)) was ∙ ap or_none (sym looked)

-- so that is the next amount
pub next_is : (bill : Bill) (old : Issued) (account span : ℕ) (m : BTreeMap (ℕ × ℕ) (List Amount)) (found : Option (List Amount)) (a due : Amount) → old.entries ≡ m.entries
    → found ≡ get_by (entry_cmp (account, span)) m → a ≡ less due (sum_of (or_none found)) → due ≡ due_now bill account span → a ≡ next_amount bill old account span
next_is bill old account span m found a due was looked missing due_is =
    missing ∙ ap (λ before. less due (sum_of before)) (sym (issued_before old account span m found was looked)) ∙ ap (λ d. less d (sum_of (issued_for old account span))) due_is

-- entries in which what was there is written again
pub same_entries : (m n : BTreeMap (ℕ × ℕ) (List Amount)) (account span : ℕ) (before value : List Amount) → Some before ≡ get_by (entry_cmp (account, span)) m → value ≡ before
    → n.entries ≡ set_value (is_at (entry_cmp (account, span))) m.entries value → n.entries ≡ m.entries
same_entries m n account span before value looked same written = written ∙ ap (set_value (is_at (entry_cmp (account, span))) m.entries) same ∙ set_value_same _ m.entries before (sym looked)

module _ (old new : Issued) (account span : ℕ) (m n : BTreeMap (ℕ × ℕ) (List Amount)) (found : Option (List Amount)) (was : old.entries ≡ m.entries) (looked : found ≡ get_by (entry_cmp (account, span)) m)
    (is : new.entries ≡ n.entries) (value : List Amount) (updates : UpdatesBy entry_cmp (entry_cmp (account, span)) m n (Some value)) where
  -- the amounts of the key
  issued_here : issued_for new account span ≡ value
  unfolding issued_for
  issued_here = ap (λ es. or_none (lookup (is_at (entry_cmp (account, span))) es)) is ∙ ap or_none updates.1

  -- and of the others
  pub issued_elsewhere : (k s : ℕ) → same_pair (account, span) (k, s) ≡ false → issued_for new k s ≡ issued_for old k s
  unfolding issued_for
  issued_elsewhere k s differ =
      ap (λ es. or_none (lookup (is_at (entry_cmp (k, s))) es)) is
      ∙ ap or_none (updates.2 (k, s) (apart account span k s differ))
      ∙ ap (λ es. or_none (lookup (is_at (entry_cmp (k, s))) es)) (sym was)

  -- with one amount more
  pub issued_more : (a : Amount) → value ≡ or_none found ++ a ∷ [] → issued_for new account span ≡ issued_for old account span ++ a ∷ []
  issued_more a listed = issued_here ∙ listed ∙ ap (λ before. before ++ a ∷ []) (sym (issued_before old account span m found was looked))

-- the next amount makes the sum what is due
pub issued_sum : (bill : Bill) (old new : Issued) (account span : ℕ) (a : Amount) → a ≡ next_amount bill old account span → issued_for new account span ≡ issued_for old account span ++ a ∷ []
    → sum_of (issued_for new account span) ≡ due_now bill account span
issued_sum bill old new account span a missing listed =
    let before = issued_for old account span in
    ap sum_of listed ∙ ap (λ x. sum_of (before ++ x ∷ [])) missing ∙ sum_made before (due_now bill account span)
