-- A merge of compatible replicas is the least upper bound of what they hold.
use Rattle.std.proofs.Common.{◌≡◌, ◌⊎◌, ℕ, ◌≤◌, ◌<◌, Bool, true, false, cond, nat_lt, Option, None, Some, List, [], ◌∷◌, length, refl, sym, ap, ◌∙◌, subst, inl, inr, arith}
use Rattle.std.proofs.lemmas.Bool.{ltb-true, ltb-false, le-ltb}
use Rattle.tca_report.specs.report.Reports.{PacketReport, report_cmp}
use Rattle.tca_report.proofs.lemmas.report.Order.{report_total, report_exact}
use Rattle.tca_join.specs.Maps.{get, Rises, join_with, clash_key, clash_with, merged}
use Rattle.tca_join.specs.laws.MapLaws.{clash_at, clash_nowhere, get_merged, rises_merged}
use Rattle.tca_join.specs.Chains.{differ_at, longer}
use Rattle.tca_join.specs.laws.ChainLaws.{longer_within}
use Rattle.tca_join.proofs.Firsts.{only_map, clash_is_least}
use Rattle.tca_join.proofs.Unions.{union_above, union_again, union_associates, union_commutes, union_least}
use Rattle.tca_gossip.specs.Replicas.{ReplicaView, IsReplica, chain_of, least_of, merge_clash, merged_with, or_empty}
use Rattle.tca_gossip.specs.Holding.{Agree, AreCompatible, Begins, IsLeastFault, MayTakeIn, MergeAbove, MergeAgain, MergeAssociates, MergeCommutes, MergeLeast}
use Rattle.tca_gossip.proofs.Worlds.{or_join}
use Rattle.tca_gossip.proofs.MergedLogs.{parts, replica_merged}
use Rattle.tca_gossip.proofs.Agreeing.{neither, not_ahead}

-- chains
begins_itself : (a : List PacketReport) → Begins a a
begins_itself [] = tt
begins_itself (x ∷ a) = (refl, begins_itself a)

begins_length : (a b : List PacketReport) → Begins a b → length a ≤ length b
begins_length [] b h = omega arith
begins_length (x ∷ a) [] h = absurd h
begins_length (x ∷ a) (y ∷ b) h = omega (arith, begins_length a b h.1)

takes : (a b : List PacketReport) → Begins a b → longer a b ≡ b
takes [] b h = refl
takes (x ∷ a) [] h = absurd h
takes (x ∷ a) (y ∷ b) h = λ i. h.0 i ∷ takes a b h.1 i

keeps : (a b : List PacketReport) → Begins b a → longer a b ≡ a
keeps [] [] h = refl
keeps [] (y ∷ b) h = absurd h
keeps (x ∷ a) [] h = refl
keeps (x ∷ a) (y ∷ b) h = ap (λ (l : List PacketReport). x ∷ l) (keeps a b h.1)

longer_commutes : (a b : List PacketReport) → Agree a b → longer a b ≡ longer b a
longer_commutes a b (inl h) = takes a b h ∙ sym (keeps b a h)
longer_commutes a b (inr h) = keeps a b h ∙ sym (takes b a h)

longer_associates : (a b c : List PacketReport) → longer (longer a b) c ≡ longer a (longer b c)
longer_associates [] b c = refl
longer_associates (x ∷ a) [] c = refl
longer_associates (x ∷ a) (y ∷ b) [] = refl
longer_associates (x ∷ a) (y ∷ b) (z ∷ c) = ap (λ (l : List PacketReport). x ∷ l) (longer_associates a b c)

longer_again : (a : List PacketReport) → longer a a ≡ a
longer_again a = keeps a a (begins_itself a)

begins_longer : (a b : List PacketReport) → Begins a (longer a b)
begins_longer [] b = tt
begins_longer (x ∷ a) [] = begins_itself (x ∷ a)
begins_longer (x ∷ a) (y ∷ b) = (refl, begins_longer a b)

begins_other : (a b : List PacketReport) → Agree a b → Begins b (longer a b)
begins_other a b h = subst (Begins b) (sym (longer_commutes a b h)) (begins_longer b a)

longer_least : (a b c : List PacketReport) → Begins a c → Begins b c → Begins (longer a b) c
longer_least [] b c h k = k
longer_least (x ∷ a) [] c h k = h
longer_least (x ∷ a) (y ∷ b) [] h k = absurd h
longer_least (x ∷ a) (y ∷ b) (z ∷ c) h k = (h.0, longer_least a b c h.1 k.1)

agree_back : (a b : List PacketReport) → Agree a b → Agree b a
agree_back a b (inl h) = inr h
agree_back a b (inr h) = inl h

agree_longer : (a b c : List PacketReport) → Agree a b → Agree a c → Agree b c → Agree (longer a b) c
agree_longer a b c (inl h) p q = subst (λ (l : List PacketReport). Agree l c) (sym (takes a b h)) q
agree_longer a b c (inr h) p q = subst (λ (l : List PacketReport). Agree l c) (sym (keeps a b h)) p

-- chains that may be missing
with_commutes : (a b : Option (List PacketReport)) → Agree (or_empty a) (or_empty b) → join_with longer a b ≡ join_with longer b a
with_commutes None None h = refl
with_commutes None (Some b) h = refl
with_commutes (Some a) None h = refl
with_commutes (Some a) (Some b) h = ap (λ (l : List PacketReport). Some l) (longer_commutes a b h)

with_associates : (a b c : Option (List PacketReport)) → join_with longer (join_with longer a b) c ≡ join_with longer a (join_with longer b c)
with_associates None b c = refl
with_associates (Some a) None c = refl
with_associates (Some a) (Some b) None = refl
with_associates (Some a) (Some b) (Some c) = ap (λ (l : List PacketReport). Some l) (longer_associates a b c)

with_again : (a : Option (List PacketReport)) → join_with longer a a ≡ a
with_again None = refl
with_again (Some a) = ap (λ (l : List PacketReport). Some l) (longer_again a)

-- replicas
chain_merged : (v w : ReplicaView) (o : ℕ) → IsReplica v → IsReplica w → chain_of (merged_with v w) o ≡ longer (chain_of v o) (chain_of w o)
chain_merged v w o p r = ap or_empty (get_merged longer v.chains w.chains o p.rises r.rises) ∙ or_join (get v.chains o) (get w.chains o)

pub merge_commutes : MergeCommutes
merge_commutes v w p r c = record {
  chains = only_map (List PacketReport) (merged longer v.chains w.chains) (merged longer w.chains v.chains) (rises_merged longer v.chains w.chains p.rises) (rises_merged longer w.chains v.chains r.rises)
      (λ o. get_merged longer v.chains w.chains o p.rises r.rises ∙ with_commutes (get v.chains o) (get w.chains o) (c.0.chains o) ∙ sym (get_merged longer w.chains v.chains o r.rises p.rises));
  log = union_commutes report_cmp report_total report_exact v.log w.log;
}

-- what two hold together may be taken in with what a third holds
takes_merged : (v w u : ReplicaView) → IsReplica v → IsReplica w → MayTakeIn v w → MayTakeIn v u → MayTakeIn w u → MayTakeIn (merged_with v w) u
takes_merged v w u p r vw vu wu = record {
  chains = λ o. subst (λ (l : List PacketReport). Agree l (chain_of u o)) (sym (chain_merged v w o p r)) (agree_longer (chain_of v o) (chain_of w o) (chain_of u o) (vw.chains o) (vu.chains o) (wu.chains o));
  own = omega (arith, vu.own, begins_length (chain_of v v.name) (longer (chain_of v v.name) (chain_of w v.name)) (begins_longer (chain_of v v.name) (chain_of w v.name)), ap length (chain_merged v w v.name p r));
}

-- and by a third
merged_taken : (v w u : ReplicaView) → IsReplica v → IsReplica w → MayTakeIn v w → MayTakeIn u v → MayTakeIn u w → MayTakeIn u (merged_with v w)
merged_taken v w u p r vw uv uw = record {
  chains = λ o. subst (Agree (chain_of u o)) (sym (chain_merged v w o p r))
      (agree_back (longer (chain_of v o) (chain_of w o)) (chain_of u o)
      (agree_longer (chain_of v o) (chain_of w o) (chain_of u o) (vw.chains o) (agree_back (chain_of u o) (chain_of v o) (uv.chains o)) (agree_back (chain_of u o) (chain_of w o) (uw.chains o))));
  own = omega (arith, longer_within (length (chain_of u u.name)) (chain_of v u.name) (chain_of w u.name) uv.own uw.own, ap length (chain_merged v w u.name p r));
}

pub merge_associates : MergeAssociates
merge_associates v w u p r s vw vu wu =
    let left : Rises (merged longer v.chains w.chains) = rises_merged longer v.chains w.chains p.rises in
    let right : Rises (merged longer w.chains u.chains) = rises_merged longer w.chains u.chains r.rises in (
      (takes_merged v w u p r vw.0 vu.0 wu.0, merged_taken v w u p r vw.0 vu.1 wu.1),
      (merged_taken w u v r s wu.0 vw.0 vu.0, takes_merged w u v r s wu.0 vw.1 vu.1),
      record {
        chains = only_map (List PacketReport) (merged longer (merged longer v.chains w.chains) u.chains) (merged longer v.chains (merged longer w.chains u.chains))
            (rises_merged longer (merged longer v.chains w.chains) u.chains left) (rises_merged longer v.chains (merged longer w.chains u.chains) p.rises)
            (λ o.
            get_merged longer (merged longer v.chains w.chains) u.chains o left s.rises
            ∙ ap (λ z. join_with longer z (get u.chains o)) (get_merged longer v.chains w.chains o p.rises r.rises)
            ∙ with_associates (get v.chains o) (get w.chains o) (get u.chains o)
            ∙ ap (join_with longer (get v.chains o)) (sym (get_merged longer w.chains u.chains o r.rises s.rises))
            ∙ sym (get_merged longer v.chains (merged longer w.chains u.chains) o p.rises right));
        log = union_associates report_cmp report_total report_exact v.log w.log u.log;
      },
    )

itself : (v : ReplicaView) → MayTakeIn v v
itself v = record { chains = λ o. inl (begins_itself (chain_of v o)); own = omega arith }

pub merge_again : MergeAgain
merge_again v p = (
  (itself v, itself v),
  record {
    chains = only_map (List PacketReport) (merged longer v.chains v.chains) v.chains (rises_merged longer v.chains v.chains p.rises) p.rises (λ o. get_merged longer v.chains v.chains o p.rises p.rises ∙ with_again (get v.chains o));
    log = union_again report_cmp report_total report_exact v.log p.log_rises;
  },
)

pub merge_above : MergeAbove
merge_above v w p r c = (
  record {
    chains = λ o. subst (Begins (chain_of v o)) (sym (chain_merged v w o p r)) (begins_longer (chain_of v o) (chain_of w o));
    log = λ q. (union_above report_cmp report_total report_exact v.log w.log q).0;
  },
  record {
    chains = λ o. subst (Begins (chain_of w o)) (sym (chain_merged v w o p r)) (begins_other (chain_of v o) (chain_of w o) (c.0.chains o));
    log = λ q. (union_above report_cmp report_total report_exact v.log w.log q).1;
  },
)

pub merge_least : MergeLeast
merge_least v w u p r s h k = record {
  chains = λ o. subst (λ (l : List PacketReport). Begins l (chain_of u o)) (sym (chain_merged v w o p r)) (longer_least (chain_of v o) (chain_of w o) (chain_of u o) (h.chains o) (k.chains o));
  log = λ q. union_least report_cmp report_total report_exact v.log w.log u.log q (h.log q) (k.log q);
}

-- of the origins at which chains don't agree, and the own one, the least
module _ (Agrees Ahead : ℕ → Type 0) (name : ℕ) where
  abbrev At : ℕ → Type 0
  At p = (Agrees p → ⊥) ⊎ ((p ≡ name) × Ahead p)

  none_before : (o : ℕ) → ((p : ℕ) → p < o → Agrees p) → ((p : ℕ) → p < o → p ≡ name → Ahead p → ⊥) → (p : ℕ) → p < o → At p → ⊥
  none_before o f g p h (inl differ) = differ (f p h)
  none_before o f g p h (inr own) = g p h own.0 own.1

  least_at : (x : Option ℕ) (b : Bool) (o : ℕ) → (x ≡ None → (p : ℕ) → Agrees p) → ((k : ℕ) → x ≡ Some k → (Agrees k → ⊥) × ((p : ℕ) → p < k → Agrees p)) → (b ≡ true → Ahead name) → (b ≡ false → Ahead name → ⊥)
      → least_of x (cond b (Some name) None) ≡ Some o → At o × ((p : ℕ) → p < o → At p → ⊥)
  least_at None false o none some ahead within e = absurd cc
  least_at None true o none some ahead within e =
      let is : name ≡ o = cc in
      (inr (sym is, subst Ahead is (ahead refl)), none_before o (λ p h. none refl p) (λ p h at more. absurd (omega (arith, h, at, is))))
  least_at (Some k) false o none some ahead within e =
      let is : k ≡ o = cc in
      let first = some k refl in
      (inl (subst (λ z. Agrees z → ⊥) is first.0), none_before o (λ p h. first.1 p (omega (arith, h, is))) (λ p h at more. within refl (subst Ahead at more)))
  least_at (Some k) true o none some ahead within e =
      let first = some k refl in
      elim (nat_lt name k) as (λ b. nat_lt name k ≡ b → Some (cond b name k) ≡ Some o → At o × ((p : ℕ) → p < o → At p → ⊥)) [
        | true ↦ λ below e.
            let is : name ≡ o = cc in
            (inr (sym is, subst Ahead is (ahead refl)), none_before o (λ p h. first.1 p (omega (arith, h, is, ltb-true name k below))) (λ p h at more. absurd (omega (arith, h, at, is))))
        | false ↦ λ above e.
            let is : k ≡ o = cc in
            (inl (subst (λ z. Agrees z → ⊥) is first.0), none_before o (λ p h. first.1 p (omega (arith, h, is))) (λ p h at more. absurd (omega (arith, h, at, is, ltb-false name k above))))
      ] refl e

module _ (eq : PacketReport → PacketReport → Bool) (alike : (x : PacketReport) → eq x x ≡ true) (exact : (x y : PacketReport) → eq x y ≡ true → x ≡ y) where
  begins_none : (a b : List PacketReport) → Begins a b → differ_at eq a b ≡ None
  begins_none [] b h = refl
  begins_none (x ∷ a) [] h = absurd h
  begins_none (x ∷ a) (y ∷ b) h = rw (subst (λ z. eq x z ≡ true) h.0 (alike x), begins_none a b h.1) refl

  back_none : (a b : List PacketReport) → Begins b a → differ_at eq a b ≡ None
  back_none [] b h = refl
  back_none (x ∷ a) [] h = refl
  back_none (x ∷ a) (y ∷ b) h = rw (subst (λ z. eq z y ≡ true) h.0 (alike y), back_none a b h.1) refl

  agree_none : (a b : List PacketReport) → Agree a b → differ_at eq a b ≡ None
  agree_none a b (inl h) = begins_none a b h
  agree_none a b (inr h) = back_none a b h

  none_agree : (a b : List PacketReport) → differ_at eq a b ≡ None → Agree a b
  none_agree [] b e = inl tt
  none_agree (x ∷ a) [] e = inr tt
  none_agree (x ∷ a) (y ∷ b) e =
      let both = parts eq exact x y a b e in
      elim (none_agree a b both.1) [
        | inl h ↦ inl (exact x y both.0, h)
        | inr h ↦ inr (sym (exact x y both.0), h)
      ]

  with_none : (a b : Option (List PacketReport)) → Agree (or_empty a) (or_empty b) → clash_with (differ_at eq) a b ≡ None
  with_none None b h = refl
  with_none (Some a) None h = refl
  with_none (Some a) (Some b) h = agree_none a b h

  none_with : (a b : Option (List PacketReport)) → clash_with (differ_at eq) a b ≡ None → Agree (or_empty a) (or_empty b)
  none_with None b e = inl tt
  none_with (Some a) None e = inr tt
  none_with (Some a) (Some b) e = none_agree a b e

  pub joins : (v w : ReplicaView) → IsReplica v → IsReplica w → MayTakeIn v w → merge_clash eq v w ≡ None
  joins v w p r may =
      rw (clash_nowhere (differ_at eq) v.chains w.chains r.rises (λ o. with_none (get v.chains o) (get w.chains o) (may.chains o)), le-ltb (length (chain_of v v.name)) (length (chain_of w v.name)) may.own) refl

  pub may : (v w : ReplicaView) → IsReplica v → IsReplica w → merge_clash eq v w ≡ None → MayTakeIn v w
  may v w p r none =
      let ahead = nat_lt (length (chain_of v v.name)) (length (chain_of w v.name)) in
      let both = neither (clash_key (differ_at eq) v.chains w.chains) (cond ahead (Some v.name) None) none in
      record {
        chains = λ o. none_with (get v.chains o) (get w.chains o) (clash_at (differ_at eq) v.chains w.chains o both.0);
        own = ltb-false (length (chain_of v v.name)) (length (chain_of w v.name)) (not_ahead ahead v.name both.1);
      }

  pub clashes : (v w : ReplicaView) (o : ℕ) → IsReplica v → IsReplica w → merge_clash eq v w ≡ Some o → IsLeastFault v w o
  clashes v w o p r e =
      let have = length (chain_of v v.name) in
      let said = length (chain_of w v.name) in
      let found =
      least_at (λ q. Agree (chain_of v q) (chain_of w q)) (λ q. length (chain_of v q) < length (chain_of w q)) v.name (clash_key (differ_at eq) v.chains w.chains) (nat_lt have said) o
      (λ none q. none_with (get v.chains q) (get w.chains q) (clash_at (differ_at eq) v.chains w.chains q none))
      (λ k some.
      let first = clash_is_least (List PacketReport) (differ_at eq) v.chains w.chains k r.rises some in
      (λ agree. first.here (with_none (get v.chains k) (get w.chains k) agree), λ q h. none_with (get v.chains q) (get w.chains q) (first.below q h)))
      (ltb-true have said) (λ no h. absurd (omega (arith, h, ltb-false have said no))) e in
      record { here = found.0; below = found.1 }

  pub stays : (v w : ReplicaView) → IsReplica v → IsReplica w → AreCompatible v w → IsReplica (merged_with v w)
  stays v w p r both = replica_merged eq exact v w p r (neither (clash_key (differ_at eq) v.chains w.chains) (cond (nat_lt (length (chain_of v v.name)) (length (chain_of w v.name))) (Some v.name) None) (joins v w p r both.0)).0
