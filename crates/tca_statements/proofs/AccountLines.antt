-- The lines of accounts one by one.
use Rattle.std.proofs.Common.{◌≡◌, ◌∙◌, ◌++◌, ◌<◌, ℕ, suc, zero, List, [], ◌∷◌, Some, length, map, take, slice_get, get_or, sym, ap, arith}
use Rattle.std.proofs.lemmas.List.{append_assoc, append-nil}
use Rattle.std.specs.Option.{unwrap_or}
use Rattle.std.specs.List.{flat_map, zip}
use Rattle.tca_accounts.specs.Plans.{PlannedAccount}
use Rattle.tca_accounts.specs.declared.tally.Tally.{Tally}
use Rattle.tca_statements.specs.Statements.{account_lines}

-- the lines of accounts with their tallies
abbrev pub lines_of : List (PlannedAccount × Tally) → List ℕ
lines_of pairs = flat_map (λ a. account_lines a.0.name a.1) pairs

-- one account more
pub lines_more : (accounts : List PlannedAccount) (tallies : List Tally) (n : ℕ) (name : List ℕ) (tally : Tally) → slice_get (map (λ a. a.name) accounts) n ≡ Some name → n < length tallies
    → tally ≡ get_or tallies n tally → lines_of (take (suc n) (zip accounts tallies)) ≡ lines_of (take n (zip accounts tallies)) ++ account_lines name tally
lines_more [] tallies n name tally named below counted = absurd cc
lines_more (a ∷ accounts) [] n name tally named below counted = absurd (omega arith)
lines_more (a ∷ accounts) (t ∷ tallies) zero name tally named below counted =
    append-nil (account_lines a.name t) ∙ ap (λ text. account_lines text t) (ap (λ found. unwrap_or found []) named) ∙ ap (account_lines name) (sym counted)
lines_more (a ∷ accounts) (t ∷ tallies) (suc n) name tally named below counted =
    ap (λ rest. account_lines a.name t ++ rest) (lines_more accounts tallies n name tally named (omega arith) counted)
    ∙ sym (append_assoc (account_lines a.name t) (lines_of (take n (zip accounts tallies))) (account_lines name tally))
