-- The order of domains ties those that are one, so what a tree says of a domain is said by their test.
use Rattle.std.proofs.Common.{◌≡◌, ℕ, ◌<◌, ◌==◌, refl, arith}
use Rattle.std.proofs.lemmas.Bool.Decides.{nat_tests}
use Rattle.std.proofs.lemmas.Cmp.{ranked}
use Rattle.std.specs.BTreeMap.{is_at}
use Rattle.std.specs.Ordering.{nat_cmp, is_eq, MatchOrdering}
use Rattle.std.specs.declared.cmp.Ordering.{Ordering}
use Rattle.std.specs.declared.cmp.Ordering.TheVariants.{Less, Equal, Greater}

tied : (a b : ℕ) (o : Ordering) → MatchOrdering o (a < b) (a ≡ b) (b < a) → is_eq o ≡ (a == b)
tied a b Less h = grind (arith, nat_tests, h)
tied a b Equal h = grind (arith, nat_tests, h)
tied a b Greater h = grind (arith, nat_tests, h)

pub domain_at : (d e : ℕ) → is_at (nat_cmp d) e ≡ (d == e)
domain_at d e = tied d e (nat_cmp d e) (ranked d e _ refl)
