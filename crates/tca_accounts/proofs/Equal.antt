-- Sums and spans that the code finds equal are one.
use Rattle.std.proofs.Common.{◌≡◌, ◌&&◌, ◌==◌, ap}
use Rattle.std.specs.Bool.{Decides}
use Rattle.std.specs.Str.{bytes_eq}
use Rattle.std.proofs.lemmas.Bool.Decides.{Decides-and, Decides-eqb, Decides-like}
use Rattle.std.proofs.lemmas.Slice.Eq.{bytes_eq-Decides}
use Rattle.tca_accounts.specs.Sums.{ColourSums}
use Rattle.tca_accounts.specs.declared.span.Span.{Span}

pub sums_decide : (a b : ColourSums) → Decides (bytes_eq a.octets b.octets && bytes_eq a.packets b.packets) (a ≡ b)
sums_decide a b =
    Decides-like (bytes_eq a.octets b.octets && bytes_eq a.packets b.packets) (λ p i. record { octets = p.0 i; packets = p.1 i }) (λ e. (ap (λ s. s.octets) e, ap (λ s. s.packets) e))
    (Decides-and (bytes_eq a.octets b.octets) (bytes_eq a.packets b.packets) (bytes_eq-Decides a.octets b.octets) (bytes_eq-Decides a.packets b.packets))

pub span_decides : (a b : Span) → Decides ((a.index == b.index) && (bytes_eq a.sums.octets b.sums.octets && bytes_eq a.sums.packets b.sums.packets)) (a ≡ b)
span_decides a b =
    let same = bytes_eq a.sums.octets b.sums.octets && bytes_eq a.sums.packets b.sums.packets in
    Decides-like ((a.index == b.index) && same) (λ p i. record { index = p.0 i; sums = p.1 i }) (λ e. (ap (λ s. s.index) e, ap (λ s. s.sums) e)) (Decides-and (a.index == b.index) same (Decides-eqb a.index b.index) (sums_decide a.sums b.sums))
