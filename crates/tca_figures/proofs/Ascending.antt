-- Periods that ascend, and accounts no two of which have one name.
use Rattle.std.proofs.Common.{◌≡◌, ◌<◌, ◌-◌, ◌||◌, ◌++◌, ◌∷◌, [], ℕ, suc, zero, List, Bool, true, false, length, arith, subst, sym, ap, refl, ◌∙◌, Some}
use Rattle.std.specs.Prelude.{map, slice_get}
use Rattle.std.specs.Cmp.{nat_cmp_is}
use Rattle.std.specs.List.{AllByRecursion}
use Rattle.std.specs.List.Sorted.{IsStrictlySortedBy}
use Rattle.std.specs.Ordering.{nat_cmp}
use Rattle.std.specs.Str.{bytes_eq}
use Rattle.std.specs.declared.cmp.Ordering.TheVariants.{Less}
use Rattle.std.proofs.lemmas.Cmp.{ranked}
use Rattle.std.proofs.lemmas.Map.Keys.{IsDistinct-cons, IsDistinct-head, IsDistinct-tail}
use Rattle.std.proofs.lemmas.Option.{none-some}
use Rattle.tca_figures.specs.Figures.{AreApart, Ascend, StatedAccount}
use Rattle.tca_figures.specs.inside.Progress.{IsBehind, has_name}
use Rattle.tca_figures.specs.declared.figures.SpanFigures.{SpanFigures}

-- one more
pub all_push : {K : Type 0} (P : K → Type 0) (xs : List K) (x : K) → AllByRecursion P xs → P x → AllByRecursion P (xs ++ x ∷ [])
all_push P [] x h p = (p, tt)
all_push P (y ∷ xs) x h p = (h.0, all_push P xs x h.1 p)

pub all_mapped_push : {K L : Type 0} (P : L → Type 0) (f : K → L) (xs : List K) (x : K) → AllByRecursion P (map f xs) → P (f x) → AllByRecursion P (map f (xs ++ x ∷ []))
all_mapped_push P f [] x h p = (p, tt)
all_mapped_push P f (y ∷ xs) x h p = (h.0, all_mapped_push P f xs x h.1 p)

-- one among others
pub one_of : {K L : Type 0} (P : L → Type 0) (f : K → L) (xs : List K) (y : K) (ys : List K) → AllByRecursion P (map f (xs ++ y ∷ ys)) → P (f y)
one_of P f [] y ys h = h.0
one_of P f (x ∷ xs) y ys h = one_of P f xs y ys h.1

pub less : (m n : ℕ) → nat_cmp m n ≡ Less → m < n
less m n h = ranked m n Less (sym h)

pub less_is : (m n : ℕ) → m < n → nat_cmp m n ≡ Less
less_is m n h = sym (nat_cmp_is m n Less h)

same : (s t : SpanFigures) → Some s ≡ Some t → s ≡ t
same s t e = cc

earlier : (done : List SpanFigures) (span : SpanFigures) (rest : List SpanFigures) (n : ℕ) (t : SpanFigures) → slice_get done n ≡ Some t
    → Ascend (done ++ span ∷ rest) → t.index < span.index
unfolding IsStrictlySortedBy
earlier [] span rest n t e h = absurd (none-some t e)
earlier (x ∷ done) span rest zero t e h =
    subst (λ (z : SpanFigures). z.index < span.index) (same x t e) (less x.index span.index (one_of (λ n. nat_cmp x.index n ≡ Less) (λ s. s.index) done span rest h.0))
earlier (x ∷ done) span rest (suc n) t e h = earlier done span rest n t e h.1

-- a period is behind those that stand in front of it
pub is_behind : (done : List SpanFigures) (span : SpanFigures) (rest : List SpanFigures) → Ascend (done ++ span ∷ rest) → IsBehind span.index done
is_behind done span rest h t e = earlier done span rest (length done - 1) t e h

-- periods ascend with one behind the last
pub ascend_push : (done : List SpanFigures) (span : SpanFigures) → Ascend done → IsBehind span.index done → Ascend (done ++ span ∷ [])
unfolding IsStrictlySortedBy
ascend_push [] span h b = (tt, tt)
ascend_push (x ∷ []) span h b = ((less_is x.index span.index (b x refl), tt), (tt, tt))
ascend_push (x ∷ y ∷ done) span h b =
    let last : length (x ∷ y ∷ done) - 1 ≡ suc (length (y ∷ done) - 1) = omega arith in
    let more : Ascend ((y ∷ done) ++ span ∷ []) = ascend_push (y ∷ done) span h.1 (λ t e. b t (ap (slice_get (x ∷ y ∷ done)) last ∙ e)) in
    let next = less x.index y.index h.0.0 in
    let far = less y.index span.index (one_of (λ n. nat_cmp y.index n ≡ Less) (λ s. s.index) done span [] more.0) in
    (all_mapped_push (λ n. nat_cmp x.index n ≡ Less) (λ s. s.index) (y ∷ done) span h.0 (less_is x.index span.index (omega (arith, next, far))), more)

neither : (a b : Bool) → (a || b) ≡ false → (a ≡ false) × (b ≡ false)
neither true b h = absurd cc
neither false b h = (refl, h)

-- names are apart with a new one
pub apart_push : (accounts : List StatedAccount) (a : StatedAccount) → AreApart accounts → has_name a.name accounts ≡ false → AreApart (accounts ++ a ∷ [])
apart_push [] a h new = IsDistinct-cons bytes_eq a.name [] tt h
apart_push (b ∷ accounts) a h new =
    let apart = neither (bytes_eq b.name a.name) (has_name a.name accounts) new in
    IsDistinct-cons bytes_eq b.name (map (λ z. z.name) (accounts ++ a ∷ []))
    (all_mapped_push (λ n. bytes_eq b.name n ≡ false) (λ z. z.name) accounts a (IsDistinct-head bytes_eq b.name (map (λ z. z.name) accounts) h) apart.0)
    (apart_push accounts a (IsDistinct-tail bytes_eq b.name (map (λ z. z.name) accounts) h) apart.1)

-- and a name is new behind those in front of it
pub is_new : (accounts : List StatedAccount) (a : StatedAccount) (rest : List StatedAccount) → AreApart (accounts ++ a ∷ rest) → has_name a.name accounts ≡ false
is_new [] a rest h = refl
is_new (b ∷ accounts) a rest h =
    let others = map (λ z. z.name) (accounts ++ a ∷ rest) in
    rw (one_of (λ n. bytes_eq b.name n ≡ false) (λ z. z.name) accounts a rest (IsDistinct-head bytes_eq b.name others h))
    (is_new accounts a rest (IsDistinct-tail bytes_eq b.name others h))
