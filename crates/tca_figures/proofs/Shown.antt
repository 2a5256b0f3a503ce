-- The octets of a statement, account by account.
use Rattle.std.proofs.Common.{◌≡◌, ◌++◌, ◌∷◌, [], ℕ, List, refl, sym, ap, ◌∙◌}
use Rattle.std.specs.Prelude.{codes, decimal}
use Rattle.std.specs.List.{flat_map}
use Rattle.std.proofs.lemmas.Grind.{flat_map-append}
use Rattle.std.proofs.lemmas.List.{append_assoc}
use Rattle.tca_figures.specs.Figures.{Stated, StatedAccount}
use Rattle.tca_figures.specs.Lines.{account_lines, end_line, octets_of, opening_lines, statement_octets}

-- the octets of accounts
abbrev pub account_octets : List StatedAccount → List ℕ
account_octets accounts = flat_map (λ a. octets_of (account_lines a)) accounts

octets_both : (lines more : List (List ℕ)) → octets_of (lines ++ more) ≡ octets_of lines ++ octets_of more
octets_both lines more = flat_map-append (λ line. line ++ 10 ∷ []) lines more

by_account : (accounts : List StatedAccount) → account_octets accounts ≡ octets_of (flat_map account_lines accounts)
by_account [] = refl
by_account (a ∷ accounts) = ap (λ z. octets_of (account_lines a) ++ z) (by_account accounts) ∙ sym (octets_both (account_lines a) (flat_map account_lines accounts))

pub all_octets : (s : Stated) → (octets_of (opening_lines s) ++ account_octets s.accounts) ++ octets_of (end_line ∷ []) ≡ statement_octets s
all_octets s =
    let accounts = flat_map account_lines s.accounts in
    append_assoc (octets_of (opening_lines s)) (account_octets s.accounts) (octets_of (end_line ∷ []))
    ∙ (ap (λ z. octets_of (opening_lines s) ++ (z ++ octets_of (end_line ∷ []))) (by_account s.accounts)
    ∙ (ap (λ z. octets_of (opening_lines s) ++ z) (sym (octets_both accounts (end_line ∷ [])))
    ∙ sym (octets_both (opening_lines s) (accounts ++ end_line ∷ []))))

line_next : (n : ℕ) (word x y : List ℕ) → x ≡ y → (decimal n ++ 10 ∷ []) ++ (word ++ x) ≡ decimal n ++ 10 ∷ (word ++ y)
line_next n word x y e = append_assoc (decimal n) (10 ∷ []) (word ++ x) ∙ ap (λ z. decimal n ++ 10 ∷ (word ++ z)) e

-- the text of the lines in front of the accounts
pub opening_text : (s : Stated) → codes "tcacct statement 1" ++ 10 ∷ (codes "period " ++ (decimal s.period ++ 10 ∷ (codes "reports " ++ (decimal s.reports
    ++ 10 ∷ (codes "disputed " ++ (decimal s.disputed ++ 10 ∷ (codes "unassigned " ++ (decimal s.unassigned ++ 10 ∷ [])))))))) ≡ octets_of (opening_lines s)
opening_text s =
    let last = append_assoc (decimal s.unassigned) (10 ∷ []) [] in
    let disputed = line_next s.disputed (codes "unassigned ") _ _ last in
    let reports = line_next s.reports (codes "disputed ") _ _ disputed in
    let period = line_next s.period (codes "reports ") _ _ reports in
    sym (ap (λ z. codes "tcacct statement 1" ++ 10 ∷ (codes "period " ++ z)) period)
