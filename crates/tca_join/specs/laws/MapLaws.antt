-- The laws of the join of maps key by key, from those of the values'.
use Rattle.std.specs.Prelude.{◌≡◌, ℕ, ◌<◌, Option, None, Some, Bool, true, false, cond, List, [], ◌∷◌, ◌==◌, ◌||◌}
use Rattle.std.proofs.Common.{refl, sym, ◌∙◌, ap, subst, arith}
use Rattle.std.specs.List.{AllByRecursion}
use Rattle.std.specs.Ordering.{nat_cmp}
use Rattle.std.specs.declared.cmp.Ordering.TheVariants.{Less, Equal, Greater}
use Rattle.std.proofs.lemmas.Cmp.{ranked}
use Rattle.std.proofs.lemmas.Bool.{eq-eqb, ne_eqb, eqb-true}
use Rattle.tca_join.specs.Joins.{IsJoin, Joins}
use Rattle.tca_join.specs.Sets.{by_order}
use Rattle.tca_join.specs.Maps.{get, put, merged, Rises, MapProper, MapSame, OptionSame, clash_key, clash_with, full_with, map_full, join_with, first_of}

-- missing, or there and proper
abbrev pub OptionProper : {V : Type 0} → (V → Type 0) → Option V → Type 0
OptionProper proper None = Unit {0}
OptionProper proper (Some v) = proper v

-- The laws of a value that may be missing.
module _ {V : Type 0} {proper : V → Type 0} {clash : V → V → Option ℕ} {full : V → V → Bool} {same : V → V → Type 0} {joined : V → V → V} (laws : IsJoin proper clash full same joined) where
  -- the two have a join, as where one is missing
  abbrev Both : Option V → Option V → Type 0
  Both a b = Joins (clash_with clash) (full_with full) a b

  o-itself : (a : Option V) → OptionSame same a a
  o-itself None = tt
  o-itself (Some a) = laws.itself a

  o-back : (a b : Option V) → OptionSame same a b → OptionSame same b a
  o-back None None h = tt
  o-back None (Some b) h = absurd h
  o-back (Some a) None h = absurd h
  o-back (Some a) (Some b) h = laws.back a b h

  o-through : (a b c : Option V) → OptionSame same a b → OptionSame same b c → OptionSame same a c
  o-through None None c h k = k
  o-through None (Some b) c h k = absurd h
  o-through (Some a) None c h k = absurd h
  o-through (Some a) (Some b) None h k = absurd k
  o-through (Some a) (Some b) (Some c) h k = laws.through a b c h k

  o-stays : (a b : Option V) → OptionProper proper a → OptionProper proper b → Both a b → OptionProper proper (join_with joined a b)
  o-stays None b p q e = q
  o-stays (Some a) None p q e = p
  o-stays (Some a) (Some b) p q e = laws.stays a b p q e

  o-alike : (a b x y : Option V) → OptionProper proper a → OptionProper proper b → OptionProper proper x → OptionProper proper y → OptionSame same a x → OptionSame same b y → Both a b
      → Both x y × OptionSame same (join_with joined a b) (join_with joined x y)
  o-alike None b None y p q r s h k e = ((refl, refl), k)
  o-alike None b (Some x) y p q r s h k e = absurd h
  o-alike (Some a) b None y p q r s h k e = absurd h
  o-alike (Some a) None (Some x) None p q r s h k e = ((refl, refl), h)
  o-alike (Some a) None (Some x) (Some y) p q r s h k e = absurd k
  o-alike (Some a) (Some b) (Some x) None p q r s h k e = absurd k
  o-alike (Some a) (Some b) (Some x) (Some y) p q r s h k e = laws.alike a b x y p q r s h k e

  o-again : (a : Option V) → OptionProper proper a → Both a a × OptionSame same (join_with joined a a) a
  o-again None p = ((refl, refl), tt)
  o-again (Some a) p = laws.again a p

  o-commutes : (a b : Option V) → OptionProper proper a → OptionProper proper b → Both a b → Both b a × OptionSame same (join_with joined a b) (join_with joined b a)
  o-commutes None None p q e = ((refl, refl), tt)
  o-commutes None (Some b) p q e = ((refl, refl), laws.itself b)
  o-commutes (Some a) None p q e = ((refl, refl), laws.itself a)
  o-commutes (Some a) (Some b) p q e = laws.commutes a b p q e

  o-associates : (a b c : Option V) → OptionProper proper a → OptionProper proper b → OptionProper proper c → Both a b → Both (join_with joined a b) c
      → Both b c × Both a (join_with joined b c) × OptionSame same (join_with joined (join_with joined a b) c) (join_with joined a (join_with joined b c))
  o-associates None b c p q r e f = (f, (refl, refl), o-itself (join_with joined b c))
  o-associates (Some a) None c p q r e f = ((refl, refl), f, o-itself (join_with joined (Some a) c))
  o-associates (Some a) (Some b) None p q r e f = ((refl, refl), e, laws.itself (joined a b))
  o-associates (Some a) (Some b) (Some c) p q r e f = laws.associates a b c p q r e f

first_none : (o : Option ℕ) (key : ℕ) (rest : Option ℕ) → first_of o key rest ≡ None → (o ≡ None) × (rest ≡ None)
first_none None key rest e = (refl, e)
first_none (Some n) key rest e = absurd cc

none_first : (o : Option ℕ) (key : ℕ) (rest : Option ℕ) → o ≡ None → rest ≡ None → first_of o key rest ≡ None
none_first None key rest e f = f
none_first (Some n) key rest e f = absurd cc

neither : (a b : Bool) → (a || b) ≡ false → (a ≡ false) × (b ≡ false)
neither true b e = absurd cc
neither false b e = (refl, e)

both_false : (a b : Bool) → a ≡ false → b ≡ false → (a || b) ≡ false
both_false true b e f = absurd cc
both_false false b e f = f

-- Look-ups after a change.
module _ {V : Type 0} where
  -- a key below all of these is not among them
  pub not_there : (es : List (ℕ × V)) (key : ℕ) → AllByRecursion (λ next. key < next.0) es → get es key ≡ None
  not_there [] key h = refl
  not_there (e ∷ es) key h = rw (ne_eqb key e.0 (λ is. omega (arith, h.0, is))) (not_there es key h.1)

  pub all_above : (es : List (ℕ × V)) (low key : ℕ) → low < key → AllByRecursion (λ next. key < next.0) es → AllByRecursion (λ next. low < next.0) es
  all_above [] low key l h = tt
  all_above (e ∷ es) low key l h = (omega (arith, h.0), all_above es low key l h.1)

  pub all_put : (P : ℕ × V → Type 0) (f : V → V → V) (key : ℕ) (v : V) (es : List (ℕ × V)) → P (key, v) → ((w : V) → P (key, w) → P (key, f w v)) → AllByRecursion P es → AllByRecursion P (put f key v es)
  all_put P f key v [] new more h = (new, tt)
  all_put P f key v (e ∷ es) new more h =
      elim (nat_cmp key e.0) as (λ r. nat_cmp key e.0 ≡ r → AllByRecursion P (by_order r ((key, v) ∷ e ∷ es) ((key, f e.1 v) ∷ es) (e ∷ put f key v es))) [
        | Less ↦ λ is. (new, h)
        | Equal ↦ λ is. (more e.1 (subst (λ k. P (k, e.1)) (sym (ranked key e.0 Equal (sym is))) h.0), h.1)
        | Greater ↦ λ is. (h.0, all_put P f key v es new more h.1)
      ] refl

  pub rises_put : (f : V → V → V) (key : ℕ) (v : V) (es : List (ℕ × V)) → Rises es → Rises (put f key v es)
  rises_put f key v [] h = (tt, tt)
  rises_put f key v (e ∷ es) h =
      elim (nat_cmp key e.0) as (λ r. nat_cmp key e.0 ≡ r → Rises (by_order r ((key, v) ∷ e ∷ es) ((key, f e.1 v) ∷ es) (e ∷ put f key v es))) [
        | Less ↦ λ is. let l : key < e.0 = ranked key e.0 Less (sym is) in ((l, all_above es key e.0 l h.0), h)
        | Equal ↦ λ is. (subst (λ k. AllByRecursion (λ next. k < next.0) es) (sym (ranked key e.0 Equal (sym is))) h.0, h.1)
        | Greater ↦ λ is. let l : e.0 < key = ranked key e.0 Greater (sym is) in (all_put (λ next. e.0 < next.0) f key v es l (λ w m. l) h.0, rises_put f key v es h.1)
      ] refl

  pub get_put : (f : V → V → V) (key : ℕ) (v : V) (es : List (ℕ × V)) (q : ℕ) → Rises es → get (put f key v es) q ≡ cond (q == key) (join_with f (get es key) (Some v)) (get es q)
  get_put f key v [] q h = refl
  get_put f key v (e ∷ es) q h =
      elim (nat_cmp key e.0) as (λ r. nat_cmp key e.0 ≡ r → get (by_order r ((key, v) ∷ e ∷ es) ((key, f e.1 v) ∷ es) (e ∷ put f key v es)) q ≡ cond (q == key) (join_with f (cond (key == e.0) (Some e.1) (get es key)) (Some v)) (cond (q == e.0) (Some e.1) (get es q))) [
        | Less ↦ λ is. let l : key < e.0 = ranked key e.0 Less (sym is) in
            rw (ne_eqb key e.0 (λ is. omega (arith, l, is)), not_there es key (all_above es key e.0 l h.0)) refl
        | Equal ↦ λ is. let m : key ≡ e.0 = ranked key e.0 Equal (sym is) in
            rw (eq-eqb key e.0 m) (subst (λ k. cond (q == key) (Some (f e.1 v)) (get es q) ≡ cond (q == key) (Some (f e.1 v)) (cond (q == k) (Some e.1) (get es q))) m (same_test (q == key) (Some (f e.1 v)) (Some e.1) (get es q)))
        | Greater ↦ λ is. let l : e.0 < key = ranked key e.0 Greater (sym is) in
            rw (ne_eqb key e.0 (λ is. omega (arith, l, is)), get_put f key v es q h.1) (swap_tests q key e.0 (join_with f (get es key) (Some v)) (Some e.1) (get es q) (λ is. omega (arith, l, is)))
      ] refl where
        same_test : (b : Bool) (x y z : Option V) → cond b x z ≡ cond b x (cond b y z)
        same_test true x y z = refl
        same_test false x y z = refl

        swap_tests : (q k m : ℕ) (x y z : Option V) → (k ≡ m → ⊥) → cond (q == m) y (cond (q == k) x z) ≡ cond (q == k) x (cond (q == m) y z)
        swap_tests q k m x y z apart =
            elim (q == m) as (λ b. q == m ≡ b → cond b y (cond (q == k) x z) ≡ cond (q == k) x (cond b y z)) [
              | true ↦ λ is. rw (ne_eqb q k (λ e. apart (sym e ∙ eqb-true q m is))) refl
              | false ↦ λ is. refl
            ] refl

  join_none : (f : V → V → V) (a : Option V) → join_with f a None ≡ a
  join_none f None = refl
  join_none f (Some a) = refl

  pub get_merged : (f : V → V → V) (es more : List (ℕ × V)) (q : ℕ) → Rises es → Rises more → get (merged f es more) q ≡ join_with f (get es q) (get more q)
  get_merged f es [] q h k = sym (join_none f (get es q))
  get_merged f es (e ∷ more) q h k =
      get_merged f (put f e.0 e.1 es) more q (rises_put f e.0 e.1 es h) k.1
      ∙ ap (λ a. join_with f a (get more q)) (get_put f e.0 e.1 es q h)
      ∙ elim (q == e.0) as (λ b. q == e.0 ≡ b → join_with f (cond b (join_with f (get es e.0) (Some e.1)) (get es q)) (get more q) ≡ join_with f (get es q) (cond b (Some e.1) (get more q))) [
        | true ↦ λ is. let m : q ≡ e.0 = eqb-true q e.0 is in
            ap (join_with f (join_with f (get es e.0) (Some e.1))) (subst (λ z. get more z ≡ None) (sym m) (not_there more e.0 k.0)) ∙ join_none f (join_with f (get es e.0) (Some e.1)) ∙ ap (λ z. join_with f (get es z) (Some e.1)) (sym m)
        | false ↦ λ is. refl
      ] refl

  pub rises_merged : (f : V → V → V) (es more : List (ℕ × V)) → Rises es → Rises (merged f es more)
  rises_merged f es [] h = h
  rises_merged f es (e ∷ more) h = rises_merged f (put f e.0 e.1 es) more (rises_put f e.0 e.1 es h)

  clash_none : (clash : V → V → Option ℕ) (a : Option V) → clash_with clash a None ≡ None
  clash_none clash None = refl
  clash_none clash (Some a) = refl

  -- no key clashes
  pub clash_at : (clash : V → V → Option ℕ) (es more : List (ℕ × V)) (q : ℕ) → clash_key clash es more ≡ None → clash_with clash (get es q) (get more q) ≡ None
  clash_at clash es [] q e = clash_none clash (get es q)
  clash_at clash es (m ∷ more) q e =
      let parts = first_none (clash_with clash (get es m.0) (Some m.1)) m.0 (clash_key clash es more) e in
      elim (q == m.0) as (λ b. q == m.0 ≡ b → clash_with clash (get es q) (cond b (Some m.1) (get more q)) ≡ None) [
        | true ↦ λ is. subst (λ z. clash_with clash (get es z) (Some m.1) ≡ None) (sym (eqb-true q m.0 is)) parts.0
        | false ↦ λ is. clash_at clash es more q parts.1
      ] refl

  pub clash_nowhere : (clash : V → V → Option ℕ) (es more : List (ℕ × V)) → Rises more → ((q : ℕ) → clash_with clash (get es q) (get more q) ≡ None) → clash_key clash es more ≡ None
  clash_nowhere clash es [] h all = refl
  clash_nowhere clash es (m ∷ more) h all =
      none_first (clash_with clash (get es m.0) (Some m.1)) m.0 (clash_key clash es more)
      (rw (eq-eqb m.0 m.0 refl) at (all m.0))
      (clash_nowhere clash es more h.1 (λ q.
      elim (q == m.0) as (λ b. q == m.0 ≡ b → clash_with clash (get es q) (cond b (Some m.1) (get more q)) ≡ None → clash_with clash (get es q) (get more q) ≡ None) [
        | true ↦ λ is _. ap (clash_with clash (get es q)) (subst (λ z. get more z ≡ None) (sym (eqb-true q m.0 is)) (not_there more m.0 h.0)) ∙ clash_none clash (get es q)
        | false ↦ λ is e. e
      ] refl (all q)))

  full_none : (full : V → V → Bool) (a : Option V) → full_with full a None ≡ false
  full_none full None = refl
  full_none full (Some a) = refl

  -- at no key is the join too large
  pub full_at : (full : V → V → Bool) (es more : List (ℕ × V)) (q : ℕ) → map_full full es more ≡ false → full_with full (get es q) (get more q) ≡ false
  full_at full es [] q e = full_none full (get es q)
  full_at full es (m ∷ more) q e =
      let parts = neither (full_with full (get es m.0) (Some m.1)) (map_full full es more) e in
      elim (q == m.0) as (λ b. q == m.0 ≡ b → full_with full (get es q) (cond b (Some m.1) (get more q)) ≡ false) [
        | true ↦ λ is. subst (λ z. full_with full (get es z) (Some m.1) ≡ false) (sym (eqb-true q m.0 is)) parts.0
        | false ↦ λ is. full_at full es more q parts.1
      ] refl

  pub full_nowhere : (full : V → V → Bool) (es more : List (ℕ × V)) → Rises more → ((q : ℕ) → full_with full (get es q) (get more q) ≡ false) → map_full full es more ≡ false
  full_nowhere full es [] h all = refl
  full_nowhere full es (m ∷ more) h all =
      both_false (full_with full (get es m.0) (Some m.1)) (map_full full es more)
      (rw (eq-eqb m.0 m.0 refl) at (all m.0))
      (full_nowhere full es more h.1 (λ q.
      elim (q == m.0) as (λ b. q == m.0 ≡ b → full_with full (get es q) (cond b (Some m.1) (get more q)) ≡ false → full_with full (get es q) (get more q) ≡ false) [
        | true ↦ λ is _. ap (full_with full (get es q)) (subst (λ z. get more z ≡ None) (sym (eqb-true q m.0 is)) (not_there more m.0 h.0)) ∙ full_none full (get es q)
        | false ↦ λ is e. e
      ] refl (all q)))

-- The laws of maps.
module _ {V : Type 0} {proper : V → Type 0} {clash : V → V → Option ℕ} {full : V → V → Bool} {same : V → V → Type 0} {joined : V → V → V} (laws : IsJoin proper clash full same joined) where
  -- two maps have a join
  abbrev H : List (ℕ × V) → List (ℕ × V) → Type 0
  H a b = Joins (clash_key clash) (map_full full) a b

  abbrev At : List (ℕ × V) → List (ℕ × V) → ℕ → Type 0
  At a b k = Joins (clash_with clash) (full_with full) (get a k) (get b k)

  -- where two maps have a join, the values at each key do, and the other way round
  at_each : (a b : List (ℕ × V)) → H a b → (k : ℕ) → At a b k
  at_each a b e k = (clash_at clash a b k e.0, full_at full a b k e.1)

  from_each : (a b : List (ℕ × V)) → Rises b → ((k : ℕ) → At a b k) → H a b
  from_each a b h all = (clash_nowhere clash a b h (λ k. (all k).0), full_nowhere full a b h (λ k. (all k).1))

  at_key : (es : List (ℕ × V)) (q : ℕ) → AllByRecursion (λ e. proper e.1) es → OptionProper proper (get es q)
  at_key [] q h = tt
  at_key (e ∷ es) q h =
      elim (q == e.0) as (λ b. OptionProper proper (cond b (Some e.1) (get es q))) [ true ↦ h.0 | false ↦ at_key es q h.1 ]

  -- from what holds of each value that can be looked up
  all_values : (es : List (ℕ × V)) → Rises es → ((q : ℕ) → OptionProper proper (get es q)) → AllByRecursion (λ e. proper e.1) es
  all_values [] h all = tt
  all_values (e ∷ es) h all = (
    rw (eq-eqb e.0 e.0 refl) at (all e.0),
    all_values es h.1 (λ q.
        elim (q == e.0) as (λ b. q == e.0 ≡ b → OptionProper proper (cond b (Some e.1) (get es q)) → OptionProper proper (get es q)) [
          | true ↦ λ is _. subst (OptionProper proper) (sym (subst (λ z. get es z ≡ None) (sym (eqb-true q e.0 is)) (not_there es e.0 h.0))) tt
          | false ↦ λ is p. p
        ] refl (all q)),
  )

  -- the join of two maps
  abbrev J : List (ℕ × V) → List (ℕ × V) → List (ℕ × V)
  J a b = merged joined a b

  stays : (a b : List (ℕ × V)) → MapProper proper a → MapProper proper b → H a b → MapProper proper (J a b)
  stays a b p q e =
      let rises : Rises (J a b) = rises_merged joined a b p.0 in
      (rises, all_values (J a b) rises (λ k. subst (OptionProper proper) (sym (get_merged joined a b k p.0 q.0)) (o-stays laws (get a k) (get b k) (at_key a k p.1) (at_key b k q.1) (at_each a b e k))))

  pub map_laws : IsJoin (MapProper proper) (clash_key clash) (map_full full) (MapSame same) (merged joined)
  map_laws = record {
    itself = λ a k. o-itself laws (get a k);
    back = λ a b h k. o-back laws (get a k) (get b k) (h k);
    through = λ a b c h m k. o-through laws (get a k) (get b k) (get c k) (h k) (m k);
    stays = stays;
    alike = λ a b x y p q r s h m e.
        let at = λ (k : ℕ). o-alike laws (get a k) (get b k) (get x k) (get y k) (at_key a k p.1) (at_key b k q.1) (at_key x k r.1) (at_key y k s.1) (h k) (m k) (at_each a b e k) in
        (from_each x y s.0 (λ k. (at k).0), λ k. rw (get_merged joined a b k p.0 q.0, get_merged joined x y k r.0 s.0) (at k).1);
    again = λ a p.
        let at = λ (k : ℕ). o-again laws (get a k) (at_key a k p.1) in
        (from_each a a p.0 (λ k. (at k).0), λ k. rw (get_merged joined a a k p.0 p.0) (at k).1);
    commutes = λ a b p q e.
        let at = λ (k : ℕ). o-commutes laws (get a k) (get b k) (at_key a k p.1) (at_key b k q.1) (at_each a b e k) in
        (from_each b a p.0 (λ k. (at k).0), λ k. rw (get_merged joined a b k p.0 q.0, get_merged joined b a k q.0 p.0) (at k).1);
    associates = λ a b c p q r e f.
        let ab : MapProper proper (J a b) = stays a b p q e in
        let at = λ (k : ℕ). o-associates laws (get a k) (get b k) (get c k) (at_key a k p.1) (at_key b k q.1) (at_key c k r.1) (at_each a b e k) (subst (λ z. Joins (clash_with clash) (full_with full) z (get c k)) (get_merged joined a b k p.0 q.0) (at_each (J a b) c f k)) in
        let bc : H b c = from_each b c r.0 (λ k. (at k).0) in
        let p-bc : MapProper proper (J b c) = stays b c q r bc in (
          bc,
          from_each a (J b c) p-bc.0 (λ k. subst (λ z. Joins (clash_with clash) (full_with full) (get a k) z) (sym (get_merged joined b c k q.0 r.0)) (at k).1),
          λ k. rw (get_merged joined (J a b) c k ab.0 r.0, get_merged joined a b k p.0 q.0, get_merged joined a (J b c) k p.0 p-bc.0, get_merged joined b c k q.0 r.0) (at k).2,
        );
  }
