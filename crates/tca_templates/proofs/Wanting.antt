-- The steps towards the record that memory is wanted for.
use Rattle.std.proofs.Common.{◌≡◌, ℕ, zero, suc, ◌+◌, ◌<◌, List, [], ◌∷◌, ◌++◌, length, take, drop, get_or, Option, Some, None, Result, Ok, Err, refl, sym, ap, ap₂, subst, ◌∙◌, arith}
use Rattle.std.specs.Prelude.{is_some, false}
use Rattle.tca_wire.specs.Walks.{Front, Next}
use Rattle.tca_join.specs.Results.{◌>>=◌}
use Rattle.tca_templates.specs.declared.source.Source.{Source}
use Rattle.tca_wire.specs.declared.message.SetSpan.{SetSpan}
use Rattle.tca_wire.proofs.Tiles.{blank_set}
use Rattle.tca_templates.specs.declared.fault.DecodeFault.{DecodeFault}
use Rattle.tca_templates.specs.Reading.{ReadMessage, set_of, sets_on}
use Rattle.tca_templates.specs.Wants.{Leads, IsWanted}

module _ {S F : Type 0} (front : S → ℕ → List ℕ → Front S F) where
  -- one piece more
  pub leads_more : (k : ℕ) (s t u : S) (at there n : ℕ) (octets rest : List ℕ) → Leads front k s at octets t there rest → front t there rest ≡ Next u n
      → Leads front (suc k) s at octets u (there + n) (drop n rest)
  leads_more zero s t u at there n octets rest l e = (
    u,
    n,
    ap₂ (λ (x : S) (a : ℕ). front x a octets) l.0 l.1 ∙ ap (λ (o : List ℕ). front t there o) l.2 ∙ e,
    (refl, ap (λ (a : ℕ). a + n) l.1, ap (drop n) l.2),
  )
  leads_more (suc k) s t u at there n octets rest l e =
      (l.0, l.1, l.2, leads_more k l.0 t u (at + l.1) there n (drop l.1 octets) rest l.3 e)

-- before the first set
pub none_read : (h : Source) (octets : List ℕ) (first : ReadMessage) → sets_on h octets first [] ≡ Ok first
unfolding sets_on
none_read h octets first = refl

-- the sets so far, and one more
pub sets_more : (h : Source) (octets : List ℕ) (first given next : ReadMessage) (ss : List SetSpan) (i : ℕ) → i < length ss → sets_on h octets first (take i ss) ≡ Ok given
    → set_of h octets given (get_or ss i blank_set) ≡ Ok next → sets_on h octets first (take (suc i) ss) ≡ Ok next
unfolding sets_on
sets_more h octets first given next [] i lt read here = absurd (omega arith)
sets_more h octets first given next (s ∷ ss) zero lt read here =
    let same : first ≡ given = cc in
    ap (λ (g : ReadMessage). set_of h octets g s >>= (λ more. sets_on h octets more [])) same ∙ ap (λ (r : Result ReadMessage DecodeFault). r >>= (λ more. sets_on h octets more [])) here
sets_more h octets first given next (s ∷ ss) (suc i) lt read here = go (λ more r. sets_more h octets more given next ss i (omega arith) r here) (set_of h octets first s) refl read
  where
    go : ((more : ReadMessage) → sets_on h octets more (take i ss) ≡ Ok given → sets_on h octets more (take (suc i) ss) ≡ Ok next)
        → (r : Result ReadMessage DecodeFault) → set_of h octets first s ≡ r → (r >>= (λ more. sets_on h octets more (take i ss))) ≡ Ok given
        → (set_of h octets first s >>= (λ more. sets_on h octets more (take (suc i) ss))) ≡ Ok next
    go others (Ok more) e read = ap (λ (r : Result ReadMessage DecodeFault). r >>= (λ more. sets_on h octets more (take (suc i) ss))) e ∙ others more read
    go others (Err f) e read = absurd cc

-- a list in front of one of its places, that place, and what is behind
pub three_parts : (ss : List SetSpan) (i : ℕ) → i < length ss → ss ≡ take i ss ++ get_or ss i blank_set ∷ drop (suc i) ss
three_parts [] i lt = absurd (omega arith)
three_parts (s ∷ ss) zero lt = refl
three_parts (s ∷ ss) (suc i) lt = ap (λ (l : List SetSpan). s ∷ l) (three_parts ss i (omega arith))

pub none_is : (u : Option ℕ) → is_some u ≡ false → u ≡ None
none_is None e = refl
none_is (Some id) e = absurd cc

-- the same place
pub wanted_at : {S F : Type 0} (front : S → ℕ → List ℕ → Front S F) (s t : S) (at : ℕ) (octets others : List ℕ) → s ≡ t → octets ≡ others → IsWanted front t at others → IsWanted front s at octets
wanted_at front s t at octets others same here w = subst (λ x. IsWanted front x at octets) (sym same) (subst (λ (o : List ℕ). IsWanted front t at o) (sym here) w)
