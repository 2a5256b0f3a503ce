-- The lines of a statement have printable octets of ASCII alone.
use Rattle.std.proofs.Common.{◌≡◌, ◌<◌, ◌^◌, ◌++◌, ◌∷◌, [], ℕ, List, true, false, Bool, ◌&&◌, inl, inr, codes, arith, subst, sym, refl, ◌∙◌, nat_lt, nat_le}
use Rattle.std.specs.Prelude.{decimal, ◌==◌}
use Rattle.std.specs.List.{AllByRecursion, list_all}
use Rattle.std.specs.Str.{IsAscii, IsUtf8}
use Rattle.std.specs.Char.{digit_value}
use Rattle.std.specs.Str.Parse.{AllDigits, digits_value}
use Rattle.std.proofs.lemmas.Bool.{and_parts}
use Rattle.std.proofs.lemmas.Bool.Decides.{nat_tests}
use Rattle.std.proofs.lemmas.Fmt.{digits_decimal}
use Rattle.std.proofs.lemmas.List.Folds.{list_all-append}
use Rattle.std.proofs.lemmas.Str.{IsUtf8-from_ascii}
use Rattle.std.proofs.lemmas.Str.Ascii.{IsAscii-nil, IsAscii-cons}
use Rattle.std.proofs.lemmas.Str.Parse.{IsNumeralModel, digit_at, numerals_by_value, tells_digits}
use Rattle.tca_figures.specs.Figures.{AreFigures}
use Rattle.tca_figures.specs.Lines.{colour_fields, name_line, number_line}
use Rattle.tca_figures.specs.inside.Progress.{Follows, FollowsAt, IsNumberRead, IsOpened, IsPeriodRead, Progress, closed}
use Rattle.tca_accounts.specs.Plans.{is_name, is_name_octet}
use Rattle.tca_figures.specs.declared.figures.ColourFigures.{ColourFigures}
use Rattle.tca_figures.specs.declared.reader.Stage.{Stage}
use Rattle.tca_figures.specs.declared.reader.Stage.TheVariants as stages

abbrev is_plain : ℕ → Bool
is_plain b = nat_le 32 b && nat_lt b 128

abbrev IsPlain : List ℕ → Type 0
IsPlain bs = list_all is_plain bs ≡ true

plain_append : (xs ys : List ℕ) → IsPlain xs → IsPlain ys → IsPlain (xs ++ ys)
plain_append xs ys h k = list_all-append is_plain xs ys ∙ (rw (h, k) refl)

plain_cons : (b : ℕ) (bs : List ℕ) → is_plain b ≡ true → IsPlain bs → IsPlain (b ∷ bs)
plain_cons b bs h k = rw (h, k) refl

own : IsNumeralModel (AllDigits 10) (digits_value 10)
own = numerals_by_value _ tells_digits

digit_plain : (b : ℕ) → digit_value b < 10 → is_plain b ≡ true
digit_plain b h =
    let range = digit_at (b ∷ []) 0 (h, tt) (omega arith) in
    grind (arith, nat_tests, range)

digits_plain : (ds : List ℕ) → AllDigits 10 ds → IsPlain ds
digits_plain [] h = refl
digits_plain (b ∷ ds) h = plain_cons b ds (digit_plain b h.0) (digits_plain ds h.1)

decimal_plain : (n : ℕ) → n < 2 ^ 64 → IsPlain (decimal n)
decimal_plain n small = digits_plain (decimal n) (digits_decimal own n small)

name_octet : (b : ℕ) → is_name_octet b ≡ true → is_plain b ≡ true
name_octet b e = grind (arith, nat_tests, e)

name_octets : (name : List ℕ) → list_all is_name_octet name ≡ true → IsPlain name
name_octets [] e = refl
name_octets (b ∷ name) e = let p = and_parts (is_name_octet b) (list_all is_name_octet name) e in plain_cons b name (name_octet b p.0) (name_octets name p.1)

name_plain : (name : List ℕ) → is_name name ≡ true → IsPlain name
name_plain name e = name_octets name (and_parts _ _ (and_parts _ _ e).1).1

behind_space : (n : ℕ) (rest : List ℕ) → n < 2 ^ 64 → IsPlain rest → IsPlain (decimal n ++ (32 ∷ rest))
behind_space n rest small h = plain_append (decimal n) (32 ∷ rest) (decimal_plain n small) (plain_cons 32 rest refl h)

fields_plain : (c : ColourFigures) → AreFigures c → IsPlain (colour_fields c)
fields_plain c h =
    behind_space c.green.octets _ h.green.octets (behind_space c.green.packets _ h.green.packets
    (behind_space c.yellow.octets _ h.yellow.octets (behind_space c.yellow.packets _ h.yellow.packets
    (behind_space c.red.octets _ h.red.octets (decimal_plain c.red.packets h.red.packets)))))

number_plain : (word : List ℕ) (n : ℕ) → IsPlain word → n < 2 ^ 64 → IsPlain (number_line word n)
number_plain word n h small = plain_append word (32 ∷ decimal n) h (plain_cons 32 (decimal n) refl (decimal_plain n small))

name_line_plain : (name : List ℕ) → is_name name ≡ true → IsPlain (name_line name)
name_line_plain name e = plain_append (codes "account ") name refl (name_plain name e)

opened_plain : (p : Progress) (line : List ℕ) (q : Progress) → IsOpened p line q → IsPlain line
opened_plain p line q h = subst IsPlain (sym h.line_is) (name_line_plain h.name h.is_name)

span_plain : (p : Progress) (line : List ℕ) (q : Progress) → IsPeriodRead p line q → IsPlain line
span_plain p line q h = subst IsPlain (sym h.line_is)
    (plain_append (codes "span ") (decimal h.span.index ++ 32 ∷ colour_fields h.span.sums) refl (behind_space h.span.index (colour_fields h.span.sums) h.is_span.small (fields_plain h.span.sums h.is_span.sums)))

count_plain : (word line : List ℕ) (n : ℕ) → IsPlain word → IsNumberRead word line n → IsPlain line
count_plain word line n w h = subst IsPlain (sym h.line_is) (number_plain word n w h.small)

at_plain : (stage : Stage) (p : Progress) (line : List ℕ) (q : Progress) → FollowsAt stage p line q → IsPlain line
at_plain stages.Title p line q h = subst IsPlain (sym h.0) refl
at_plain stages.Period p line q h = subst IsPlain (sym h.1) (number_plain (codes "period") h.0 refl (omega (arith, h.3)))
at_plain stages.Reports p line q h = count_plain (codes "reports") line h.0 refl h.1
at_plain stages.Disputed p line q h = count_plain (codes "disputed") line h.0 refl h.1
at_plain stages.Unassigned p line q h = count_plain (codes "unassigned") line h.0 refl h.1
at_plain stages.Account p line q h = opened_plain p line q h
at_plain stages.Total p line q h = subst IsPlain (sym h.1) (plain_append (codes "total ") (colour_fields h.0) refl (fields_plain h.0 h.2))
at_plain stages.Spans p line q (inl h) = span_plain p line q h
at_plain stages.Spans p line q (inr (inl h)) = opened_plain (closed p) line q h
at_plain stages.Spans p line q (inr (inr h)) = subst IsPlain (sym h.0) refl
at_plain stages.Ended p line q h = absurd h

below : (b : ℕ) → is_plain b ≡ true → b < 128
below b e = grind (arith, nat_tests, e)

ascii : (bs : List ℕ) → IsPlain bs → IsAscii bs
ascii [] e = IsAscii-nil
ascii (b ∷ bs) e = let p = and_parts (is_plain b) (list_all is_plain bs) e in IsAscii-cons b bs (below b p.0) (ascii bs p.1)

-- so such a line is a text
pub follows_utf8 : (p : Progress) (line : List ℕ) (q : Progress) → Follows p line q → IsUtf8 line
follows_utf8 p line q h = IsUtf8-from_ascii line (ascii line (at_plain p.stage p line q h))

no_feed : (b : ℕ) → is_plain b ≡ true → (b == 10) ≡ false
no_feed b e = grind (arith, nat_tests, e)

no_feeds : (bs : List ℕ) → IsPlain bs → AllByRecursion (λ b. (b == 10) ≡ false) bs
no_feeds [] e = tt
no_feeds (b ∷ bs) e = let p = and_parts (is_plain b) (list_all is_plain bs) e in (no_feed b p.0, no_feeds bs p.1)

-- and has no line feed
pub follows_feed : (p : Progress) (line : List ℕ) (q : Progress) → Follows p line q → AllByRecursion (λ b. (b == 10) ≡ false) line
follows_feed p line q h = no_feeds line (at_plain p.stage p line q h)
