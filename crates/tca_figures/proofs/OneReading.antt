-- A line says one thing behind those before it; so octets are the text of one statement at most, and texts have one sum at most.
use Rattle.std.proofs.Common.{◌≡◌, ◌≢◌, inl, inr, ◌<◌, ◌^◌, ◌++◌, ◌∷◌, [], ℕ, List, codes, arith, subst, sym, ap, refl, ◌∙◌}
use Rattle.std.specs.Prelude.{decimal}
use Rattle.std.specs.List.{AllByRecursion}
use Rattle.std.specs.Str.Parse.{AllDigits, digits_value}
use Rattle.std.proofs.lemmas.Fmt.{decimal_injective, digits_decimal}
use Rattle.std.proofs.lemmas.List.{append_cancel_left}
use Rattle.std.proofs.lemmas.Str.Parse.{IsNumeralModel, digit_from_value, numerals_by_value, tells_digits}
use Rattle.tca_figures.specs.Figures.{AreFigures, Stated}
use Rattle.tca_figures.specs.Lines.{IsTextOf, colour_fields, number_line}
use Rattle.tca_figures.specs.inside.Progress.{Follow, FollowsAt, IsNumberRead, IsOpened, IsPeriodRead, Progress, closed, opened, unread}
use Rattle.tca_figures.specs.Reading.{whole_lines}
use Rattle.tca_figures.specs.Sums.{added}
use Rattle.tca_figures.specs.Totals.{Adds, IsSumOf}
use Rattle.tca_figures.specs.declared.figures.ColourFigures.{ColourFigures}
use Rattle.tca_figures.specs.declared.figures.SpanFigures.{SpanFigures}
use Rattle.tca_figures.specs.declared.reader.Stage.{Stage}
use Rattle.tca_figures.specs.declared.reader.Stage.TheVariants as stages
use Rattle.tca_figures.proofs.Written.{written}

own : IsNumeralModel (AllDigits 10) (digits_value 10)
own = numerals_by_value _ tells_digits

abbrev HasNoSpace : List ℕ → Type 0
HasNoSpace octets = AllByRecursion (λ octet. octet ≢ 32) octets

digits_apart : (ds : List ℕ) → AllDigits 10 ds → HasNoSpace ds
digits_apart [] d = tt
digits_apart (c ∷ cs) d = (λ e. omega (arith, digit_from_value c d.0, e), digits_apart cs d.1)

head_alike : (a b : ℕ) (xs ys : List ℕ) → a ∷ xs ≡ b ∷ ys → a ≡ b
head_alike a b xs ys e = cc

tail_alike : (a b : ℕ) (xs ys : List ℕ) → a ∷ xs ≡ b ∷ ys → xs ≡ ys
tail_alike a b xs ys e = cc

-- what stands before the first space, and behind it
cut_alike : (xs ys left right : List ℕ) → HasNoSpace xs → HasNoSpace ys → xs ++ 32 ∷ left ≡ ys ++ 32 ∷ right → (xs ≡ ys) × (left ≡ right)
cut_alike [] [] left right h k e = (refl, tail_alike 32 32 left right e)
cut_alike [] (y ∷ ys) left right h k e = absurd (k.0 (sym (head_alike 32 y left (ys ++ 32 ∷ right) e)))
cut_alike (x ∷ xs) [] left right h k e = absurd (h.0 (head_alike x 32 (xs ++ 32 ∷ left) right e))
cut_alike (x ∷ xs) (y ∷ ys) left right h k e =
    let first = head_alike x y (xs ++ 32 ∷ left) (ys ++ 32 ∷ right) e in
    let more = cut_alike xs ys left right h.1 k.1 (tail_alike x y (xs ++ 32 ∷ left) (ys ++ 32 ∷ right) e) in
    (λ i. first i ∷ more.0 i, more.1)

field_alike : (m n : ℕ) (left right : List ℕ) → m < 2 ^ 64 → n < 2 ^ 64 → decimal m ++ 32 ∷ left ≡ decimal n ++ 32 ∷ right → (m ≡ n) × (left ≡ right)
field_alike m n left right h k e =
    let cut = cut_alike (decimal m) (decimal n) left right (digits_apart (decimal m) (digits_decimal own m h)) (digits_apart (decimal n) (digits_decimal own n k)) e in
    (decimal_injective m n h k cut.0, cut.1)

fields_alike : (c d : ColourFigures) → AreFigures c → AreFigures d → colour_fields c ≡ colour_fields d → c ≡ d
fields_alike c d h k e =
    let one = field_alike c.green.octets d.green.octets _ _ h.green.octets k.green.octets e in
    let two = field_alike c.green.packets d.green.packets _ _ h.green.packets k.green.packets one.1 in
    let three = field_alike c.yellow.octets d.yellow.octets _ _ h.yellow.octets k.yellow.octets two.1 in
    let four = field_alike c.yellow.packets d.yellow.packets _ _ h.yellow.packets k.yellow.packets three.1 in
    let five = field_alike c.red.octets d.red.octets _ _ h.red.octets k.red.octets four.1 in
    let six = decimal_injective c.red.packets d.red.packets h.red.packets k.red.packets five.1 in
    λ i. record {
      green = record { octets = one.0 i; packets = two.0 i };
      yellow = record { octets = three.0 i; packets = four.0 i };
      red = record { octets = five.0 i; packets = six i };
    }

number_alike : (word : List ℕ) (m n : ℕ) → m < 2 ^ 64 → n < 2 ^ 64 → number_line word m ≡ number_line word n → m ≡ n
number_alike word m n h k e = decimal_injective m n h k (tail_alike 32 32 (decimal m) (decimal n) (append_cancel_left word (32 ∷ decimal m) (32 ∷ decimal n) e))

read_alike : (word line : List ℕ) (m n : ℕ) → IsNumberRead word line m → IsNumberRead word line n → m ≡ n
read_alike word line m n h k = number_alike word m n h.small k.small (sym h.line_is ∙ k.line_is)

opened_alike : (p : Progress) (line : List ℕ) (q r : Progress) → IsOpened p line q → IsOpened p line r → q ≡ r
opened_alike p line q r h k =
    h.next ∙ (ap (λ (name : List ℕ). opened name p) (append_cancel_left (codes "account ") h.name k.name (sym h.line_is ∙ k.line_is)) ∙ sym k.next)

period_alike : (p : Progress) (line : List ℕ) (q r : Progress) → IsPeriodRead p line q → IsPeriodRead p line r → q ≡ r
period_alike p line q r h k =
    let cut = field_alike h.span.index k.span.index (colour_fields h.span.sums) (colour_fields k.span.sums) h.is_span.small k.is_span.small
    (append_cancel_left (codes "span ") (decimal h.span.index ++ 32 ∷ colour_fields h.span.sums) (decimal k.span.index ++ 32 ∷ colour_fields k.span.sums) (sym h.line_is ∙ k.line_is)) in
    let sums = fields_alike h.span.sums k.span.sums h.is_span.sums k.is_span.sums cut.1 in
    let span : h.span ≡ k.span = λ i. record { index = cut.0 i; sums = sums i } in
    h.next ∙ (ap (λ (s : SpanFigures). record p { account = record p.account { spans = p.account.spans ++ s ∷ [] } }) span ∙ sym k.next)

one_at : (stage : Stage) (p : Progress) (line : List ℕ) (q r : Progress) → FollowsAt stage p line q → FollowsAt stage p line r → q ≡ r
one_at stages.Title p line q r h k = h.1 ∙ sym k.1
one_at stages.Period p line q r h k =
    let same = number_alike (codes "period") h.0 k.0 (omega (arith, h.3)) (omega (arith, k.3)) (sym h.1 ∙ k.1) in
    h.4 ∙ (ap (λ (n : ℕ). record p { stage = stages.Reports; stated = record p.stated { period = n } }) same ∙ sym k.4)
one_at stages.Reports p line q r h k =
    h.2 ∙ (ap (λ (n : ℕ). record p { stage = stages.Disputed; stated = record p.stated { reports = n } }) (read_alike (codes "reports") line h.0 k.0 h.1 k.1) ∙ sym k.2)
one_at stages.Disputed p line q r h k =
    h.2 ∙ (ap (λ (n : ℕ). record p { stage = stages.Unassigned; stated = record p.stated { disputed = n } }) (read_alike (codes "disputed") line h.0 k.0 h.1 k.1) ∙ sym k.2)
one_at stages.Unassigned p line q r h k =
    h.2 ∙ (ap (λ (n : ℕ). record p { stage = stages.Account; stated = record p.stated { unassigned = n } }) (read_alike (codes "unassigned") line h.0 k.0 h.1 k.1) ∙ sym k.2)
one_at stages.Account p line q r h k = opened_alike p line q r h k
one_at stages.Total p line q r h k =
    let same = fields_alike h.0 k.0 h.2 k.2 (append_cancel_left (codes "total ") (colour_fields h.0) (colour_fields k.0) (sym h.1 ∙ k.1)) in
    h.3 ∙ (ap (λ (c : ColourFigures). record p { stage = stages.Spans; account = record p.account { total = c } }) same ∙ sym k.3)
one_at stages.Spans p line q r (inl h) (inl k) = period_alike p line q r h k
one_at stages.Spans p line q r (inl h) (inr (inl k)) = absurd (omega (arith, head_alike 115 97 _ _ (sym h.line_is ∙ k.line_is)))
one_at stages.Spans p line q r (inl h) (inr (inr k)) = absurd (omega (arith, head_alike 115 101 _ _ (sym h.line_is ∙ k.0)))
one_at stages.Spans p line q r (inr (inl h)) (inl k) = absurd (omega (arith, head_alike 97 115 _ _ (sym h.line_is ∙ k.line_is)))
one_at stages.Spans p line q r (inr (inl h)) (inr (inl k)) = opened_alike (closed p) line q r h k
one_at stages.Spans p line q r (inr (inl h)) (inr (inr k)) = absurd (omega (arith, head_alike 97 101 _ _ (sym h.line_is ∙ k.0)))
one_at stages.Spans p line q r (inr (inr h)) (inl k) = absurd (omega (arith, head_alike 101 115 _ _ (sym h.0 ∙ k.line_is)))
one_at stages.Spans p line q r (inr (inr h)) (inr (inl k)) = absurd (omega (arith, head_alike 101 97 _ _ (sym h.0 ∙ k.line_is)))
one_at stages.Spans p line q r (inr (inr h)) (inr (inr k)) = h.1 ∙ sym k.1
one_at stages.Ended p line q r h k = absurd h

-- lines say one thing behind those before them
pub follow_one : (p : Progress) (lines : List (List ℕ)) (q r : Progress) → Follow p lines q → Follow p lines r → q ≡ r
unfolding Follow
follow_one p [] q r h k = h ∙ sym k
follow_one p (line ∷ lines) q r h k =
    let same = one_at p.stage p line h.0 k.0 h.1 k.1 in
    follow_one k.0 lines q r (subst (λ z. Follow z lines q) same h.2) k.2

pub one_text : (octets : List ℕ) (s t : Stated) → IsTextOf octets s → IsTextOf octets t → s ≡ t
one_text octets s t h k =
    let a = written octets s h in
    let b = written octets t k in
    sym a.stated ∙ (ap (λ (p : Progress). p.stated) (follow_one unread (whole_lines octets) a.progress b.progress a.follow b.follow) ∙ b.stated)

one_more : (texts : List (List ℕ)) (held s t : Stated) → Adds held texts s → Adds held texts t → s ≡ t
unfolding Adds
one_more [] held s t h k = h ∙ sym k
one_more (text ∷ texts) held s t h k =
    let same = one_text text h.0 k.0 h.1 k.1 in
    one_more texts (added held k.0) s t (subst (λ (more : Stated). Adds (added held more) texts s) same h.4) k.4

pub one_sum : (texts : List (List ℕ)) (s t : Stated) → IsSumOf texts s → IsSumOf texts t → s ≡ t
one_sum [] s t h k = absurd h
one_sum (text ∷ texts) s t h k =
    let same = one_text text h.0 k.0 h.1 k.1 in
    one_more texts k.0 s t (subst (λ (first : Stated). Adds first texts s) same h.2) k.2
