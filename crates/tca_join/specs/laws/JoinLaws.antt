-- What follows of every join: it associates both ways, being below is an order, and the join is the least upper bound.
use Rattle.std.specs.Prelude.{ℕ, Bool, Option}
use Rattle.tca_join.specs.Joins.{Joins, IsJoin, AssociatesBack, IsAbove, IsLeast, IsTransitive, IsAntisymmetric}

module _ {V : Type 0} {proper : V → Type 0} {clash : V → V → Option ℕ} {full : V → V → Bool} {same : V → V → Type 0} {joined : V → V → V} (laws : IsJoin proper clash full same joined) where
  -- the two have a join
  abbrev Has : V → V → Type 0
  Has a b = Joins clash full a b

  -- a joined with b is b
  abbrev Below : V → V → Type 0
  Below a b = Has a b × same (joined a b) b

  -- from the other law, by commuting before it and after it
  pub associates_back : AssociatesBack proper clash full same joined
  associates_back a b c p q r bc abc =
      let cb = laws.commutes b c q r bc in
      let p-bc : proper (joined b c) = laws.stays b c q r bc in
      let p-cb : proper (joined c b) = laws.stays c b r q cb.0 in
      let bc-a = laws.commutes a (joined b c) p p-bc abc in
      let cb-a = laws.alike (joined b c) a (joined c b) a p-bc p p-cb p cb.1 (laws.itself a) bc-a.0 in
      let turned = laws.associates c b a r q p cb.0 cb-a.0 in
      let ab = laws.commutes b a q p turned.0 in
      let p-ab : proper (joined a b) = laws.stays a b p q ab.0 in
      let p-ba : proper (joined b a) = laws.stays b a q p turned.0 in
      let c-ab = laws.alike c (joined b a) c (joined a b) r p-ba r p-ab (laws.itself c) ab.1 turned.1 in
      let ab-c = laws.commutes c (joined a b) r p-ab c-ab.0 in
      (ab.0, ab-c.0, (laws.associates a b c p q r ab.0 ab-c.0).2)

  pub above_left : (a b : V) → proper a → proper b → Has a b → Below a (joined a b)
  above_left a b p q ab =
      let aa = laws.again a p in
      let p-aa : proper (joined a a) = laws.stays a a p p aa.0 in
      let p-ab : proper (joined a b) = laws.stays a b p q ab in
      let aa-b = laws.alike a b (joined a a) b p q p-aa q (laws.back (joined a a) a aa.1) (laws.itself b) ab in
      let parts = laws.associates a a b p p q aa.0 aa-b.0 in
      (parts.1, laws.through (joined a (joined a b)) (joined (joined a a) b) (joined a b) (laws.back (joined (joined a a) b) (joined a (joined a b)) parts.2) (laws.back (joined a b) (joined (joined a a) b) aa-b.1))

  pub above_right : (a b : V) → proper a → proper b → Has a b → Below b (joined a b)
  above_right a b p q ab =
      let ba = laws.commutes a b p q ab in
      let p-ab : proper (joined a b) = laws.stays a b p q ab in
      let p-ba : proper (joined b a) = laws.stays b a q p ba.0 in
      let up = above_left b a q p ba.0 in
      let same-ba-ab : same (joined b a) (joined a b) = laws.back (joined a b) (joined b a) ba.1 in
      let there = laws.alike b (joined b a) b (joined a b) q p-ba q p-ab (laws.itself b) same-ba-ab up.0 in
      (there.0, laws.through (joined b (joined a b)) (joined b (joined b a)) (joined a b) (laws.back (joined b (joined b a)) (joined b (joined a b)) there.1) (laws.through (joined b (joined b a)) (joined b a) (joined a b) up.1 same-ba-ab))

  pub least_above : IsLeast proper clash full same joined
  least_above a b d p q r ad bd =
      let p-bd : proper (joined b d) = laws.stays b d q r bd.0 in
      let a-bd = laws.alike a d a (joined b d) p r p p-bd (laws.itself a) (laws.back (joined b d) d bd.1) ad.0 in
      let all = associates_back a b d p q r bd.0 a-bd.0 in
      (all.0, (all.1, laws.through (joined (joined a b) d) (joined a (joined b d)) d all.2 (laws.through (joined a (joined b d)) (joined a d) d (laws.back (joined a d) (joined a (joined b d)) a-bd.1) ad.1)))

  pub above_both : IsAbove proper clash full same joined
  above_both a b p q ab = (above_left a b p q ab, above_right a b p q ab)

  pub transitive : IsTransitive proper clash full same joined
  transitive a b c p q r ab bc =
      let p-ab : proper (joined a b) = laws.stays a b p q ab.0 in
      let p-bc : proper (joined b c) = laws.stays b c q r bc.0 in
      let ab-c = laws.alike b c (joined a b) c q r p-ab r (laws.back (joined a b) b ab.1) (laws.itself c) bc.0 in
      let all = laws.associates a b c p q r ab.0 ab-c.0 in
      let ac = laws.alike a (joined b c) a c p p-bc p r (laws.itself a) bc.1 all.1 in
      let left : same (joined (joined a b) c) c = laws.through (joined (joined a b) c) (joined b c) c (laws.back (joined b c) (joined (joined a b) c) ab-c.1) bc.1 in
      let right : same (joined a (joined b c)) c = laws.through (joined a (joined b c)) (joined (joined a b) c) c (laws.back (joined (joined a b) c) (joined a (joined b c)) all.2) left in
      (ac.0, laws.through (joined a c) (joined a (joined b c)) c (laws.back (joined a (joined b c)) (joined a c) ac.1) right)

  pub antisymmetric : IsAntisymmetric proper clash full same joined
  antisymmetric a b p q ab ba =
      let turned = laws.commutes a b p q ab.0 in
      let to-both : same a (joined a b) = laws.through a (joined b a) (joined a b) (laws.back (joined b a) a ba.1) (laws.back (joined a b) (joined b a) turned.1) in
      laws.through a (joined a b) b to-both ab.1
