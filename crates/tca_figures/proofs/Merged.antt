-- The sum of ascending periods, period by period.
use Rattle.std.proofs.Common.{◌≡◌, ◌+◌, ◌||◌, ◌++◌, ◌∷◌, [], ℕ, List, Bool, true, false, arith, subst, sym, ap, refl, ◌∙◌}
use Rattle.std.specs.Prelude.{map}
use Rattle.std.specs.List.{AllByRecursion}
use Rattle.std.specs.Ordering.{nat_cmp, eq_by_cmp}
use Rattle.std.specs.declared.cmp.Ordering.TheVariants.{Less, Equal}
use Rattle.std.proofs.lemmas.Bool.{eq-eqb, ne_eqb}
use Rattle.std.proofs.lemmas.Cmp.{nat_cmp_total, ranked}
use Rattle.tca_figures.specs.Figures.{none, plus}
use Rattle.tca_join.specs.Sets.{has, in_order, put}
use Rattle.tca_figures.specs.Sums.{added_spans, indexes, sums_at}
use Rattle.tca_figures.specs.declared.figures.ColourFigures.{ColourFigures}
use Rattle.tca_figures.specs.declared.figures.SpanFigures.{SpanFigures}
use Rattle.tca_figures.proofs.Ascending.{less}
use Rattle.tca_join.proofs.Sets.{all_put, has-append, has-in_order, only_one, rises_in_order}

exact : (m n : ℕ) → nat_cmp m n ≡ Equal → m ≡ n
exact m n h = ranked m n Equal (sym h)

same_set : (ks ls : List ℕ) → ((q : ℕ) → has nat_cmp ks q ≡ has nat_cmp ls q) → in_order nat_cmp ks ≡ in_order nat_cmp ls
same_set ks ls h =
    only_one nat_cmp nat_cmp_total exact (in_order nat_cmp ks) (in_order nat_cmp ls) (rises_in_order nat_cmp nat_cmp_total ks) (rises_in_order nat_cmp nat_cmp_total ls)
    (λ q. has-in_order nat_cmp nat_cmp_total ks q ∙ (h q ∙ sym (has-in_order nat_cmp nat_cmp_total ls q)))

all_in_order : (P : ℕ → Type 0) (ks : List ℕ) → AllByRecursion P ks → AllByRecursion P (in_order nat_cmp ks)
unfolding in_order
all_in_order P [] h = tt
all_in_order P (k ∷ ks) h = all_put nat_cmp nat_cmp_total P k (in_order nat_cmp ks) h.0 (all_in_order P ks h.1)

put_least : (k : ℕ) (ks : List ℕ) → AllByRecursion (λ q. nat_cmp k q ≡ Less) ks → put nat_cmp k ks ≡ k ∷ ks
unfolding put
put_least k [] h = refl
put_least k (x ∷ ks) h = rw h.0 refl

-- the least number is the first in order
least : (k : ℕ) (ks : List ℕ) → AllByRecursion (λ q. nat_cmp k q ≡ Less) ks → in_order nat_cmp (k ∷ ks) ≡ k ∷ in_order nat_cmp ks
unfolding in_order
least k ks h = put_least k (in_order nat_cmp ks) (all_in_order (λ q. nat_cmp k q ≡ Less) ks h)

pub all_both : {K : Type 0} (P : K → Type 0) (xs ys : List K) → AllByRecursion P xs → AllByRecursion P ys → AllByRecursion P (xs ++ ys)
all_both P [] ys h g = g
all_both P (x ∷ xs) ys h g = (h.0, all_both P xs ys h.1 g)

move : (a b c : Bool) → (a || (b || c)) ≡ (b || (a || c))
move true true c = refl
move true false c = refl
move false b c = refl

twice : (a b c : Bool) → (a || (b || (a || c))) ≡ (a || (b || c))
twice true b c = refl
twice false b c = refl

moved : (xs : List ℕ) (y : ℕ) (ys : List ℕ) → in_order nat_cmp (xs ++ y ∷ ys) ≡ in_order nat_cmp (y ∷ (xs ++ ys))
unfolding has
moved xs y ys = same_set (xs ++ y ∷ ys) (y ∷ (xs ++ ys)) (λ q.
    has-append nat_cmp nat_cmp_total xs (y ∷ ys) q
    ∙ (move (has nat_cmp xs q) (eq_by_cmp nat_cmp q y) (has nat_cmp ys q)
    ∙ ap (λ b. eq_by_cmp nat_cmp q y || b) (sym (has-append nat_cmp nat_cmp_total xs ys q))))

once : (x : ℕ) (xs ys : List ℕ) → in_order nat_cmp ((x ∷ xs) ++ x ∷ ys) ≡ in_order nat_cmp (x ∷ (xs ++ ys))
unfolding has
once x xs ys = same_set ((x ∷ xs) ++ x ∷ ys) (x ∷ (xs ++ ys)) (λ q.
    ap (λ b. eq_by_cmp nat_cmp q x || b) (has-append nat_cmp nat_cmp_total xs (x ∷ ys) q)
    ∙ (twice (eq_by_cmp nat_cmp q x) (has nat_cmp xs q) (has nat_cmp ys q)
    ∙ ap (λ b. eq_by_cmp nat_cmp q x || b) (sym (has-append nat_cmp nat_cmp_total xs ys q))))

-- all periods are behind one
abbrev pub AreBehind : ℕ → List SpanFigures → Type 0
AreBehind k spans = AllByRecursion (λ q. nat_cmp k q ≡ Less) (indexes spans)

here : (x : SpanFigures) (spans : List SpanFigures) → sums_at (x ∷ spans) x.index ≡ x.sums
unfolding sums_at
here x spans = rw (eq-eqb x.index x.index refl) refl

later : (x : SpanFigures) (spans : List SpanFigures) (k : ℕ) → nat_cmp x.index k ≡ Less → sums_at (x ∷ spans) k ≡ sums_at spans k
unfolding sums_at
later x spans k h = let l = less x.index k h in rw (ne_eqb x.index k (λ e. omega (arith, e, l))) refl

nowhere : (spans : List SpanFigures) (k : ℕ) → AreBehind k spans → sums_at spans k ≡ none
unfolding sums_at
nowhere [] k h = refl
nowhere (x ∷ spans) k h = let l = less k x.index h.0 in rw (ne_eqb x.index k (λ e. omega (arith, e, l))) (nowhere spans k h.1)

plus_none : (c : ColourFigures) → plus c none ≡ c
plus_none c =
    let z : (n : ℕ) → n + 0 ≡ n = λ n. omega arith in
    rw (z c.green.octets, z c.green.packets, z c.yellow.octets, z c.yellow.packets, z c.red.octets, z c.red.packets) refl

none_plus : (c : ColourFigures) → plus none c ≡ c
none_plus c =
    let z : (n : ℕ) → 0 + n ≡ n = λ n. omega arith in
    rw (z c.green.octets, z c.green.packets, z c.yellow.octets, z c.yellow.packets, z c.red.octets, z c.red.packets) refl

abbrev sum_at : List SpanFigures → List SpanFigures → ℕ → SpanFigures
sum_at as_ bs k = record { index = k; sums = plus (sums_at as_ k) (sums_at bs k) }

same_sums : (as_ bs cs ds : List SpanFigures) (ks : List ℕ) → AllByRecursion (λ k. (sums_at as_ k ≡ sums_at cs k) × (sums_at bs k ≡ sums_at ds k)) ks
    → map (sum_at as_ bs) ks ≡ map (sum_at cs ds) ks
same_sums as_ bs cs ds [] h = refl
same_sums as_ bs cs ds (k ∷ ks) h = rw (h.0.0, h.0.1, same_sums as_ bs cs ds ks h.1) refl

all_so : (P Q : ℕ → Type 0) → ((k : ℕ) → P k → Q k) → (ks : List ℕ) → AllByRecursion P ks → AllByRecursion Q ks
all_so P Q f [] h = tt
all_so P Q f (k ∷ ks) h = (f k h.0, all_so P Q f ks h.1)

-- one period is the first, and those behind it are of these
first : (as_ bs cs ds : List SpanFigures) (x : SpanFigures) → in_order nat_cmp (indexes as_ ++ indexes bs) ≡ in_order nat_cmp (x.index ∷ (indexes cs ++ indexes ds))
    → AreBehind x.index cs → AreBehind x.index ds
    → ((k : ℕ) → nat_cmp x.index k ≡ Less → (sums_at as_ k ≡ sums_at cs k) × (sums_at bs k ≡ sums_at ds k))
    → plus (sums_at as_ x.index) (sums_at bs x.index) ≡ x.sums
    → added_spans as_ bs ≡ x ∷ added_spans cs ds
first as_ bs cs ds x e c d apart sums =
    let all = all_both (λ q. nat_cmp x.index q ≡ Less) (indexes cs) (indexes ds) c d in
    ap (map (sum_at as_ bs)) (e ∙ least x.index (indexes cs ++ indexes ds) all)
    ∙ (ap (λ z. record { index = x.index; sums = z } ∷ map (sum_at as_ bs) (in_order nat_cmp (indexes cs ++ indexes ds))) sums
    ∙ ap (λ z. x ∷ z) (same_sums as_ bs cs ds (in_order nat_cmp (indexes cs ++ indexes ds))
    (all_so (λ q. nat_cmp x.index q ≡ Less) (λ k. (sums_at as_ k ≡ sums_at cs k) × (sums_at bs k ≡ sums_at ds k)) apart _
    (all_in_order (λ q. nat_cmp x.index q ≡ Less) (indexes cs ++ indexes ds) all))))

pub left_first : (x : SpanFigures) (as_ bs : List SpanFigures) → AreBehind x.index as_ → AreBehind x.index bs → added_spans (x ∷ as_) bs ≡ x ∷ added_spans as_ bs
left_first x as_ bs a b =
    first (x ∷ as_) bs as_ bs x refl a b (λ k h. (later x as_ k h, refl)) (rw (here x as_, nowhere bs x.index b) (plus_none x.sums))

pub right_first : (as_ : List SpanFigures) (y : SpanFigures) (bs : List SpanFigures) → AreBehind y.index as_ → AreBehind y.index bs → added_spans as_ (y ∷ bs) ≡ y ∷ added_spans as_ bs
right_first as_ y bs a b =
    first as_ (y ∷ bs) as_ bs y (moved (indexes as_) y.index (indexes bs)) a b (λ k h. (refl, later y bs k h)) (rw (here y bs, nowhere as_ y.index a) (none_plus y.sums))

pub both_first : (x : SpanFigures) (as_ : List SpanFigures) (y : SpanFigures) (bs : List SpanFigures) → x.index ≡ y.index → AreBehind x.index as_ → AreBehind x.index bs
    → added_spans (x ∷ as_) (y ∷ bs) ≡ record { index = x.index; sums = plus x.sums y.sums } ∷ added_spans as_ bs
both_first x as_ y bs e a b =
    let sum : SpanFigures = record { index = x.index; sums = plus x.sums y.sums } in
    let there : sums_at (y ∷ bs) x.index ≡ y.sums = subst (λ k. sums_at (y ∷ bs) k ≡ y.sums) (sym e) (here y bs) in
    first (x ∷ as_) (y ∷ bs) as_ bs sum
    (subst (λ k. in_order nat_cmp ((x.index ∷ indexes as_) ++ k ∷ indexes bs) ≡ in_order nat_cmp (x.index ∷ (indexes as_ ++ indexes bs))) e (once x.index (indexes as_) (indexes bs)))
    a b (λ k h. (later x as_ k h, later y bs k (subst (λ n. nat_cmp n k ≡ Less) e h))) (rw (here x as_, there) refl)
