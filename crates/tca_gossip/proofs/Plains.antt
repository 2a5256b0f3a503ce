-- What is kept of chains, and the chains that hold something.
use Rattle.std.proofs.Common.{◌≡◌, ℕ, ◌<◌, Bool, true, false, cond, Option, None, Some, List, [], ◌∷◌, ◌++◌, ◌==◌, refl, sym, ap, ◌∙◌, subst}
use Rattle.std.specs.List.{AllByRecursion}
use Rattle.std.proofs.lemmas.Bool.{eqb-true}
use Rattle.tca_report.specs.report.Reports.{PacketReport}
use Rattle.tca_join.specs.Chains.{ChainView, chain, differ_at, longer, chain_clash, chain_joined}
use Rattle.tca_join.specs.Maps.{get, put, Rises, with_value, join_with, merged, clash_key, clash_with, first_of}
use Rattle.tca_join.specs.laws.MapLaws.{not_there, get_put, rises_put, get_merged, rises_merged}
use Rattle.tca_join.proofs.Firsts.{only_map}
use Rattle.tca_gossip.specs.Replicas.{or_empty}
use Rattle.tca_gossip.specs.inside.Storage.{chain_items, held_of, before_others, held_in}

-- a chain that holds something
abbrev pub some_chain : List PacketReport → Option (List PacketReport)
some_chain [] = None
some_chain (r ∷ rs) = Some (r ∷ rs)

all_before : (P : ℕ × List PacketReport → Type 0) (o : ℕ) (rs : List PacketReport) (others : List (ℕ × List PacketReport)) → ((l : List PacketReport) → P (o, l)) → AllByRecursion P others → AllByRecursion P (before_others o rs others)
all_before P o [] others p h = h
all_before P o (r ∷ rs) others p h = (p (r ∷ rs), h)

above_held : (low : ℕ) (es : List (ℕ × ChainView PacketReport)) → AllByRecursion (λ next. low < next.0) es → AllByRecursion (λ next. low < next.0) (held_in es)
above_held low [] h = tt
above_held low (e ∷ es) h = all_before (λ next. low < next.0) e.0 e.1.items (held_in es) (λ l. h.0) (above_held low es h.1)

pub rises_held : (es : List (ℕ × ChainView PacketReport)) → Rises es → Rises (held_in es)
rises_held [] h = tt
rises_held (e ∷ es) h = first e.1.items (rises_held es h.1) where
  first : (items : List PacketReport) → Rises (held_in es) → Rises (before_others e.0 items (held_in es))
  first [] rest = rest
  first (r ∷ rs) rest = (above_held e.0 es h.0, rest)

-- the chain of an origin
pub get_held : (es : List (ℕ × ChainView PacketReport)) (q : ℕ) → Rises es → get (held_in es) q ≡ some_chain (held_of es q)
get_held [] q h = refl
get_held (e ∷ es) q h = first e.1.items (get_held es q h.1) where
  none : q ≡ e.0 → get (held_in es) q ≡ None
  none is = subst (λ z. get (held_in es) z ≡ None) (sym is) (not_there (held_in es) e.0 (above_held e.0 es h.0))

  first : (items : List PacketReport) → get (held_in es) q ≡ some_chain (held_of es q) → get (before_others e.0 items (held_in es)) q ≡ some_chain (chain_items (cond (q == e.0) (Some (chain items e.1.room)) (get es q)))
  first [] rest = elim (q == e.0) as (λ b. q == e.0 ≡ b → get (held_in es) q ≡ some_chain (chain_items (cond b (Some (chain [] e.1.room)) (get es q)))) [
    | true ↦ λ is. none (eqb-true q e.0 is)
    | false ↦ λ is. rest
  ] refl
  first (r ∷ rs) rest = elim (q == e.0) as (λ b. cond b (Some (r ∷ rs)) (get (held_in es) q) ≡ some_chain (chain_items (cond b (Some (chain (r ∷ rs) e.1.room)) (get es q)))) [
    | true ↦ refl
    | false ↦ rest
  ]

some_or_empty : (l : List PacketReport) → or_empty (some_chain l) ≡ l
some_or_empty [] = refl
some_or_empty (r ∷ rs) = refl

pub chain_held : (es : List (ℕ × ChainView PacketReport)) (q : ℕ) → Rises es → or_empty (get (held_in es) q) ≡ held_of es q
chain_held es q h = ap or_empty (get_held es q h) ∙ some_or_empty (held_of es q)

-- Two rising maps with the same at each key are one.
only_chains : (a b : List (ℕ × List PacketReport)) → Rises a → Rises b → ((q : ℕ) → get a q ≡ get b q) → a ≡ b
only_chains = only_map (List PacketReport)

last_items : (a : Option (ChainView PacketReport)) (c : ChainView PacketReport) → chain_items (join_with (λ _ w. w) a (Some c)) ≡ c.items
last_items None c = refl
last_items (Some a) c = refl

one_more : (l : List PacketReport) (r : PacketReport) → some_chain (l ++ r ∷ []) ≡ join_with (λ w u. w ++ u) (some_chain l) (Some (r ∷ []))
one_more [] r = refl
one_more (x ∷ l) r = refl

module _ (es : List (ℕ × ChainView PacketReport)) (rises : Rises es) (o : ℕ) where
  pub kept_set : (c : ChainView PacketReport) (q : ℕ) → held_of (with_value o c es) q ≡ cond (q == o) c.items (held_of es q)
  kept_set c q =
      ap chain_items (get_put (λ _ w. w) o c es q rises)
      ∙ elim (q == o) as (λ b. chain_items (cond b (join_with (λ _ w. w) (get es o) (Some c)) (get es q)) ≡ cond b c.items (held_of es q)) [
        | true ↦ last_items (get es o) c
        | false ↦ refl
      ]

  -- a report more at the end of what is kept of an origin
  pub held_puts : (r : PacketReport) (room : Bool) → held_in (with_value o (chain (held_of es o ++ r ∷ []) room) es) ≡ put (λ w u. w ++ u) o (r ∷ []) (held_in es)
  held_puts r room =
      let c : ChainView PacketReport = chain (held_of es o ++ r ∷ []) room in
      let more : Rises (with_value o c es) = rises_put (λ _ w. w) o c es rises in
      only_chains (held_in (with_value o c es)) (put (λ w u. w ++ u) o (r ∷ []) (held_in es)) (rises_held (with_value o c es) more) (rises_put (λ w u. w ++ u) o (r ∷ []) (held_in es) (rises_held es rises)) (λ q.
      get_held (with_value o c es) q more
      ∙ ap some_chain (kept_set c q)
      ∙ elim (q == o) as (λ b. some_chain (cond b (held_of es o ++ r ∷ []) (held_of es q)) ≡ cond b (join_with (λ w u. w ++ u) (get (held_in es) o) (Some (r ∷ []))) (get (held_in es) q)) [
        | true ↦ one_more (held_of es o) r ∙ ap (λ z. join_with (λ w u. w ++ u) z (Some (r ∷ []))) (sym (get_held es o rises))
        | false ↦ sym (get_held es q rises)
      ]
      ∙ sym (get_put (λ w u. w ++ u) o (r ∷ []) (held_in es) q (rises_held es rises)))

  -- the same reports, with or without room
  pub held_same : (room : Bool) → held_in (with_value o (chain (held_of es o) room) es) ≡ held_in es
  held_same room =
      let c : ChainView PacketReport = chain (held_of es o) room in
      let more : Rises (with_value o c es) = rises_put (λ _ w. w) o c es rises in
      only_chains (held_in (with_value o c es)) (held_in es) (rises_held (with_value o c es) more) (rises_held es rises) (λ q.
      get_held (with_value o c es) q more
      ∙ ap some_chain (kept_set c q ∙ elim (q == o) as (λ b. q == o ≡ b → cond b (held_of es o) (held_of es q) ≡ held_of es q) [
        | true ↦ λ is. ap (held_of es) (sym (eqb-true q o is))
        | false ↦ λ is. refl
      ] refl)
      ∙ sym (get_held es q rises))

-- the longer of two chains
pub some_joined : (a b : Option (ChainView PacketReport)) → some_chain (chain_items (join_with chain_joined a b)) ≡ join_with longer (some_chain (chain_items a)) (some_chain (chain_items b))
some_joined None b = refl
some_joined (Some a) None = alone a.items where
  alone : (l : List PacketReport) → some_chain l ≡ join_with longer (some_chain l) None
  alone [] = refl
  alone (x ∷ l) = refl
some_joined (Some a) (Some b) = both a.items b.items where
  both : (l k : List PacketReport) → some_chain (longer l k) ≡ join_with longer (some_chain l) (some_chain k)
  both [] k = refl
  both (x ∷ l) [] = refl
  both (x ∷ l) (y ∷ k) = refl

pub held_merged : (es fs : List (ℕ × ChainView PacketReport)) → Rises es → Rises fs → held_in (merged chain_joined es fs) ≡ merged longer (held_in es) (held_in fs)
held_merged es fs r s =
    let more : Rises (merged chain_joined es fs) = rises_merged chain_joined es fs r in
    only_chains (held_in (merged chain_joined es fs)) (merged longer (held_in es) (held_in fs)) (rises_held (merged chain_joined es fs) more) (rises_merged longer (held_in es) (held_in fs) (rises_held es r)) (λ q.
    get_held (merged chain_joined es fs) q more
    ∙ ap (λ z. some_chain (chain_items z)) (get_merged chain_joined es fs q r s)
    ∙ some_joined (get es q) (get fs q)
    ∙ (λ i. join_with longer (sym (get_held es q r) i) (sym (get_held fs q s) i))
    ∙ sym (get_merged longer (held_in es) (held_in fs) q (rises_held es r) (rises_held fs s)))

module _ (eq : PacketReport → PacketReport → Bool) where
  clash_held_at : (a : Option (ChainView PacketReport)) (x : PacketReport) (l : List PacketReport) (room : Bool) → clash_with (chain_clash eq) a (Some (chain (x ∷ l) room)) ≡ clash_with (differ_at eq) (some_chain (chain_items a)) (Some (x ∷ l))
  clash_held_at None x l room = refl
  clash_held_at (Some a) x l room = by_items a.items where
    by_items : (k : List PacketReport) → differ_at eq k (x ∷ l) ≡ clash_with (differ_at eq) (some_chain k) (Some (x ∷ l))
    by_items [] = refl
    by_items (y ∷ k) = refl

  no_clash_at : (a : Option (ChainView PacketReport)) (room : Bool) → clash_with (chain_clash eq) a (Some (chain [] room)) ≡ None
  no_clash_at None room = refl
  no_clash_at (Some a) room = by_items a.items where
    by_items : (k : List PacketReport) → differ_at eq k [] ≡ None
    by_items [] = refl
    by_items (y ∷ k) = refl

  -- where kept chains clash, those that hold something do
  pub clash_held : (es fs : List (ℕ × ChainView PacketReport)) → Rises es → clash_key (chain_clash eq) es fs ≡ clash_key (differ_at eq) (held_in es) (held_in fs)
  clash_held es [] r = refl
  clash_held es (e ∷ fs) r = by_items e.1.items (clash_held es fs r) where
    by_items : (items : List PacketReport) → clash_key (chain_clash eq) es fs ≡ clash_key (differ_at eq) (held_in es) (held_in fs) → first_of (clash_with (chain_clash eq) (get es e.0) (Some (chain items e.1.room))) e.0 (clash_key (chain_clash eq) es fs) ≡ clash_key (differ_at eq) (held_in es) (before_others e.0 items (held_in fs))
    by_items [] rest = ap (λ z. first_of z e.0 (clash_key (chain_clash eq) es fs)) (no_clash_at (get es e.0) e.1.room) ∙ rest
    by_items (x ∷ l) rest =
        (λ i. first_of (clash_held_at (get es e.0) x l e.1.room i) e.0 (rest i))
        ∙ ap (λ z. first_of (clash_with (differ_at eq) z (Some (x ∷ l))) e.0 (clash_key (differ_at eq) (held_in es) (held_in fs))) (sym (get_held es e.0 r))
