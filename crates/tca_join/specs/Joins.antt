-- What a join is: a partial operation on values, with its laws up to a sameness of values.
use Rattle.std.specs.Prelude.{◌≡◌, ℕ, Bool, false, Option, None}

-- two values are compatible: they clash at nothing
abbrev pub Compatible : {V : Type 0} → (V → V → Option ℕ) → V → V → Type 0
Compatible clash a b = clash a b ≡ None

-- two values have a join: they are compatible, and their join is within each limit
abbrev pub Joins : {V : Type 0} → (V → V → Option ℕ) → (V → V → Bool) → V → V → Type 0
Joins clash full a b = Compatible clash a b × (full a b ≡ false)

module _ {V : Type 0} (proper : V → Type 0) (clash : V → V → Option ℕ) (full : V → V → Bool) (same : V → V → Type 0) (joined : V → V → V) where
  -- what each type of values that join keeps to
  pub record IsJoin : Type 0 where
    pub itself : (a : V) → same a a
    pub back : (a b : V) → same a b → same b a
    pub through : (a b c : V) → same a b → same b c → same a c
    pub stays : (a b : V) → proper a → proper b → Joins clash full a b → proper (joined a b)
    pub alike : (a b x y : V) → proper a → proper b → proper x → proper y → same a x → same b y → Joins clash full a b → Joins clash full x y × same (joined a b) (joined x y)
    pub again : (a : V) → proper a → Joins clash full a a × same (joined a a) a
    pub commutes : (a b : V) → proper a → proper b → Joins clash full a b → Joins clash full b a × same (joined a b) (joined b a)
    pub associates : (a b c : V) → proper a → proper b → proper c → Joins clash full a b → Joins clash full (joined a b) c
        → Joins clash full b c × Joins clash full a (joined b c) × same (joined (joined a b) c) (joined a (joined b c))

  -- a joined with b is b
  abbrev pub IsBelow : V → V → Type 0
  IsBelow a b = Joins clash full a b × same (joined a b) b

  -- the order of two values doesn't matter
  abbrev pub Commutes : Type 0
  Commutes = (a b : V) → proper a → proper b → Joins clash full a b → Joins clash full b a × same (joined a b) (joined b a)

  -- where the left two have a join, and it has one with the third, the right two have one, the first has one with it, and both ways give the same
  abbrev pub Associates : Type 0
  Associates = (a b c : V) → proper a → proper b → proper c → Joins clash full a b → Joins clash full (joined a b) c
      → Joins clash full b c × Joins clash full a (joined b c) × same (joined (joined a b) c) (joined a (joined b c))

  -- and the other way round, so that each way is defined exactly where the other is
  abbrev pub AssociatesBack : Type 0
  AssociatesBack = (a b c : V) → proper a → proper b → proper c → Joins clash full b c → Joins clash full a (joined b c)
      → Joins clash full a b × Joins clash full (joined a b) c × same (joined (joined a b) c) (joined a (joined b c))

  -- a value joined with itself is that value
  abbrev pub IsIdempotent : Type 0
  IsIdempotent = (a : V) → proper a → Joins clash full a a × same (joined a a) a

  -- a join is above both of the values joined
  abbrev pub IsAbove : Type 0
  IsAbove = (a b : V) → proper a → proper b → Joins clash full a b → IsBelow a (joined a b) × IsBelow b (joined a b)

  -- two values below a third have a join, and it is below the third
  abbrev pub IsLeast : Type 0
  IsLeast = (a b c : V) → proper a → proper b → proper c → IsBelow a c → IsBelow b c → Joins clash full a b × IsBelow (joined a b) c

  -- a value below a second one, which is below a third, is below the third
  abbrev pub IsTransitive : Type 0
  IsTransitive = (a b c : V) → proper a → proper b → proper c → IsBelow a b → IsBelow b c → IsBelow a c

  -- two values, each below the other, count as one
  abbrev pub IsAntisymmetric : Type 0
  IsAntisymmetric = (a b : V) → proper a → proper b → IsBelow a b → IsBelow b a → same a b
