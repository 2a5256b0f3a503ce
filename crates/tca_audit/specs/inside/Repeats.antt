-- Which members of a sorted list stand there more than once. No public contract cites this: it serves private functions and their
-- proofs alone.
use Rattle.std.specs.Prelude.{Bool, false, ◌&&◌, not, List, [], ◌∷◌, drop, if◌then◌else◌}
use Rattle.std.specs.Ordering.{eq_by_cmp}
use Rattle.tca_report.specs.report.Identities.{identity_cmp}
use Rattle.tca_report.specs.declared.report.Identity.{Identity}

-- whether an identity is the first of a list
unfoldable pub begins_with : Identity → List Identity → Bool
begins_with i [] = false
begins_with i (x ∷ xs) = eq_by_cmp identity_cmp i x

-- the members that stand once more behind, and then no more
unfoldable pub repeats : List Identity → List Identity
repeats [] = []
repeats (x ∷ xs) = if begins_with x xs && not (begins_with x (drop 1 xs)) then x ∷ repeats xs else repeats xs
