-- Going through chains for a summary.
use Rattle.std.proofs.Common.{◌≡◌, ℕ, suc, zero, ◌+◌, ◌<◌, ◌≤◌, List, [], ◌∷◌, ◌++◌, length, take, get_or, refl, sym, ap, ◌∙◌, subst, arith}
use Rattle.std.proofs.lemmas.List.{append-nil, take_all}
use Rattle.std.specs.List.{AllByRecursion}
use Rattle.tca_report.specs.report.Reports.{PacketReport}
use Rattle.tca_join.specs.Chains.{ChainView}
use Rattle.tca_join.specs.Maps.{Rises, with_value}
use Rattle.tca_join.proofs.Positions.{greater_is}
use Rattle.tca_gossip.specs.Coupling.{counts_of}
use Rattle.tca_gossip.specs.inside.Storage.{before_others, held_in}

-- a key above all others goes last
put_last : (key count : ℕ) (out : List (ℕ × ℕ)) → AllByRecursion (λ p. p.0 < key) out → with_value key count out ≡ out ++ (key, count) ∷ []
put_last key count [] h = refl
put_last key count (p ∷ out) h = rw (greater_is key p.0 h.0) (ap (λ l. p ∷ l) (put_last key count out h.1))

above : (low : ℕ) (es : List (ℕ × ChainView PacketReport)) (i : ℕ) (e : ℕ × ChainView PacketReport) → AllByRecursion (λ next. low < next.0) es → i < length es → e ≡ get_or es i e → low < e.0
above low [] i e h l is = absurd (omega arith)
above low (x ∷ es) zero e h l is = subst (λ (z : ℕ × ChainView PacketReport). low < z.0) (sym is) h.0
above low (x ∷ es) (suc i) e h l is = above low es i e h.1 (omega arith) is

below : (es : List (ℕ × ChainView PacketReport)) (i : ℕ) (e : ℕ × ChainView PacketReport) → Rises es → i < length es → e ≡ get_or es i e → AllByRecursion (λ p. p.0 < e.0) (counts_of (held_in (take i es)))
unfolding counts_of
below [] i e r h is = absurd (omega arith)
below (x ∷ es) zero e r h is = tt
below (x ∷ es) (suc i) e r h is = first x.1.items (above x.0 es i e r.0 (omega arith) is) (below es i e r.1 (omega arith) is) where
  first : (items : List PacketReport) → x.0 < e.0 → AllByRecursion (λ p. p.0 < e.0) (counts_of (held_in (take i es))) → AllByRecursion (λ p. p.0 < e.0) (counts_of (before_others x.0 items (held_in (take i es))))
  first [] low rest = rest
  first (q ∷ qs) low rest = (low, rest)

-- the count of one chain, where it holds something
abbrev count_of : ℕ → List PacketReport → List (ℕ × ℕ)
count_of o [] = []
count_of o (q ∷ qs) = (o, length (q ∷ qs)) ∷ []

one_more : (es : List (ℕ × ChainView PacketReport)) (i : ℕ) (e : ℕ × ChainView PacketReport) → i < length es → e ≡ get_or es i e → counts_of (held_in (take (i + 1) es)) ≡ counts_of (held_in (take i es)) ++ count_of e.0 e.1.items
unfolding counts_of
one_more [] i e h is = absurd (omega arith)
one_more (x ∷ es) zero e h is = subst (λ (z : ℕ × ChainView PacketReport). counts_of (before_others x.0 x.1.items []) ≡ count_of z.0 z.1.items) (sym is) (alone x.1.items) where
  alone : (items : List PacketReport) → counts_of (before_others x.0 items []) ≡ count_of x.0 items
  alone [] = refl
  alone (q ∷ qs) = refl
one_more (x ∷ es) (suc i) e h is = ap (λ n. counts_of (held_in (take n (x ∷ es)))) (more i) ∙ first x.1.items (one_more es i e (omega arith) is) where
  more : (i : ℕ) → suc i + 1 ≡ suc (i + 1)
  more i = omega arith

  first : (items : List PacketReport) → counts_of (held_in (take (i + 1) es)) ≡ counts_of (held_in (take i es)) ++ count_of e.0 e.1.items → counts_of (before_others x.0 items (held_in (take (i + 1) es))) ≡ counts_of (before_others x.0 items (held_in (take i es))) ++ count_of e.0 e.1.items
  first [] rest = rest
  first (q ∷ qs) rest = ap (λ l. (x.0, length (q ∷ qs)) ∷ l) rest

module _ (es : List (ℕ × ChainView PacketReport)) (i : ℕ) (e : ℕ × ChainView PacketReport) (rises : Rises es) (h : i < length es) (is : e ≡ get_or es i e) (out more : List (ℕ × ℕ)) (so_far : out ≡ counts_of (held_in (take i es))) (count : ℕ) (count_is : count ≡ length e.1.items) where
  pub count_set : 0 < count → more ≡ with_value e.0 count out → more ≡ counts_of (held_in (take (i + 1) es))
  count_set some e-is =
      e-is ∙ put_last e.0 count out (subst (AllByRecursion (λ p. p.0 < e.0)) (sym so_far) (below es i e rises h is))
      ∙ ap (λ l. l ++ (e.0, count) ∷ []) so_far ∙ ap (λ l. counts_of (held_in (take i es)) ++ l) (one e.1.items count_is) ∙ sym (one_more es i e h is) where
        one : (items : List PacketReport) → count ≡ length items → (e.0, count) ∷ [] ≡ count_of e.0 items
        one [] none = absurd (omega (arith, some, none))
        one (q ∷ qs) same = ap (λ n. (e.0, n) ∷ []) same

  pub count_skip : count ≡ 0 → more ≡ out → more ≡ counts_of (held_in (take (i + 1) es))
  count_skip none e-is =
      e-is ∙ so_far ∙ sym (append-nil (counts_of (held_in (take i es)))) ∙ ap (λ l. counts_of (held_in (take i es)) ++ l) (one e.1.items (sym none ∙ count_is)) ∙ sym (one_more es i e h is) where
        one : (items : List PacketReport) → 0 ≡ length items → [] ≡ count_of e.0 items
        one [] same = refl
        one (q ∷ qs) same = absurd cc

pub count_start : [] ≡ counts_of []
unfolding counts_of
count_start = refl

pub count_ends : (es : List (ℕ × ChainView PacketReport)) (i : ℕ) (out : List (ℕ × ℕ)) → length es ≤ i → out ≡ counts_of (held_in (take i es)) → out ≡ counts_of (held_in es)
count_ends es i out h so_far = so_far ∙ ap (λ l. counts_of (held_in l)) (take_all i es h)
