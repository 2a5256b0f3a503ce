-- The steps of reading the records of a data set.
use Rattle.std.proofs.Common.{◌≡◌, ℕ, ◌+◌, ◌<◌, ◌≤◌, Bool, true, false, cond, List, [], ◌∷◌, ◌++◌, length, drop, Option, Some, None, Ok, Err, refl, sym, ap, subst, ◌∙◌, arith, append_assoc}
use Rattle.std.specs.Prelude.{nat_lt, option_map}
use Rattle.std.proofs.lemmas.Bool.Decides.{nat_tests}
use Rattle.std.proofs.lemmas.List.{append-nil}
use Rattle.tca_wire.specs.Walks.{Ends, Bad, Next, walk, Advances}
use Rattle.tca_templates.specs.declared.source.Source.{Source}
use Rattle.tca_wire.proofs.Walking.{walk_next, walk_ends, walk_bad}
use Rattle.tca_templates.specs.declared.template.FieldSpec.{FieldSpec}
use Rattle.tca_templates.specs.declared.fault.DecodeFault.TheVariants.{RecordCut}
use Rattle.tca_templates.specs.Templates.{TemplateView, shortest_of}
use Rattle.tca_templates.specs.Records.{FieldView, PlacedView, field_at, fields_on, placed, after_record, data_front}
use Rattle.tca_templates.specs.Fields.{IsSound}
use Rattle.tca_templates.proofs.Fields.{field_of, fields_next, fields_cut, fields_done, fields_holds}

abbrev in_front : List FieldView → Option (List FieldView × ℕ) → Option (List FieldView × ℕ)
in_front front None = None
in_front front (Some x) = Some (front ++ x.0, x.1)

-- fields that were read before stay in front
behind : (front fields : List FieldView) (used : ℕ) (specs : List FieldSpec) (octets : List ℕ)
    → fields_on (front ++ fields) used specs octets ≡ in_front front (fields_on fields used specs octets)
behind front fields used [] octets = fields_done (front ++ fields) used octets ∙ ap (in_front front) (sym (fields_done fields used octets))
behind front fields used (s ∷ ss) octets = go (λ more u rest. behind front more u ss rest) (field_at s.length octets) refl
  where
    go : ((more : List FieldView) (u : ℕ) (rest : List ℕ) → fields_on (front ++ more) u ss rest ≡ in_front front (fields_on more u ss rest))
        → (o : Option (ℕ × ℕ)) → field_at s.length octets ≡ o → fields_on (front ++ fields) used (s ∷ ss) octets ≡ in_front front (fields_on fields used (s ∷ ss) octets)
    go more None e = fields_cut (front ++ fields) used s ss octets e ∙ ap (in_front front) (sym (fields_cut fields used s ss octets e))
    go more (Some x) e =
        fields_next (front ++ fields) used s ss octets x e
        ∙ ap (λ (l : List FieldView). fields_on l (used + (x.0 + x.1)) ss (drop (x.0 + x.1) octets)) (append_assoc front fields (field_of s x octets ∷ []))
        ∙ more (fields ++ field_of s x octets ∷ []) (used + (x.0 + x.1)) (drop (x.0 + x.1) octets)
        ∙ ap (in_front front) (sym (fields_next fields used s ss octets x e))

-- how many octets they have doesn't rest on those before
pub size_alone : (front : List FieldView) (used : ℕ) (specs : List FieldSpec) (octets : List ℕ)
    → option_map (λ x. x.1) (fields_on front used specs octets) ≡ option_map (λ x. x.1) (fields_on [] used specs octets)
size_alone front used specs octets =
    ap (λ (l : List FieldView). option_map (λ x. x.1) (fields_on l used specs octets)) (sym (append-nil front))
    ∙ ap (option_map (λ (x : List FieldView × ℕ). x.1)) (behind front [] used specs octets)
    ∙ same (fields_on [] used specs octets)
  where
    same : (o : Option (List FieldView × ℕ)) → option_map (λ x. x.1) (in_front front o) ≡ option_map (λ x. x.1) o
    same None = refl
    same (Some x) = refl

-- the record at the front of a data set
module _ (h : Source) (t : TemplateView) where
  pub front_bad : (records : List PlacedView) (at : ℕ) (octets : List ℕ) → shortest_of t.specs ≤ length octets → fields_on [] 0 t.specs octets ≡ None
      → data_front h t records at octets ≡ Bad (RecordCut at)
  unfolding data_front
  front_bad records at octets le e =
      let l : nat_lt (length octets) (shortest_of t.specs) ≡ false = grind (arith, nat_tests) in
      ap (λ b. cond b Ends (after_record h t.options records at (fields_on [] 0 t.specs octets))) l ∙ ap (after_record h t.options records at) e

  pub front_next : (records : List PlacedView) (at : ℕ) (octets : List ℕ) (own : List FieldView) (n : ℕ) → shortest_of t.specs ≤ length octets → fields_on [] 0 t.specs octets ≡ Some (own, n)
      → data_front h t records at octets ≡ Next (records ++ placed h t.options records own ∷ []) n
  unfolding data_front
  front_next records at octets own n le e =
      let l : nat_lt (length octets) (shortest_of t.specs) ≡ false = grind (arith, nat_tests) in
      ap (λ b. cond b Ends (after_record h t.options records at (fields_on [] 0 t.specs octets))) l ∙ ap (after_record h t.options records at) e

  pub front_sound : (records : List PlacedView) (at : ℕ) (octets : List ℕ) (own : List FieldView) (n : ℕ) → shortest_of t.specs ≤ length octets → fields_on [] 0 t.specs octets ≡ Some (own, n)
      → IsSound (data_front h t records at octets)
  front_sound records at octets own n le e = subst (λ f. IsSound f) (sym (front_next records at octets own n le e)) tt

-- going over the records of a data set
module _ (h : Source) (t : TemplateView) (some : 0 < shortest_of t.specs) where
  pub data_advances : Advances (data_front h t)
  unfolding data_front
  data_advances records next at n octets e = go (nat_lt (length octets) (shortest_of t.specs)) (fields_on [] 0 t.specs octets) refl refl e
    where
      go : (b : Bool) (o : Option (List FieldView × ℕ)) → nat_lt (length octets) (shortest_of t.specs) ≡ b → fields_on [] 0 t.specs octets ≡ o
          → cond b Ends (after_record h t.options records at o) ≡ Next next n → (0 < n) × (n ≤ length octets)
      go true o l f e = absurd cc
      go false None l f e = absurd cc
      go false (Some x) l f e =
          let k : x.1 ≡ n = cc in
          let facts = fields_holds [] 0 t.specs octets x f in
          (omega (arith, facts.least, some, k), omega (arith, facts.within, k))

  pub data_ends : (records : List PlacedView) (at : ℕ) (octets : List ℕ) → length octets < shortest_of t.specs → walk (data_front h t) records at octets ≡ Ok records
  unfolding data_front
  data_ends records at octets lt =
      let l : nat_lt (length octets) (shortest_of t.specs) ≡ true = grind (arith, nat_tests) in
      walk_ends (data_front h t) data_advances records at octets (ap (λ b. cond b Ends (after_record h t.options records at (fields_on [] 0 t.specs octets))) l)

  pub data_bad : (records : List PlacedView) (at : ℕ) (octets : List ℕ) → shortest_of t.specs ≤ length octets → fields_on [] 0 t.specs octets ≡ None
      → walk (data_front h t) records at octets ≡ Err (RecordCut at)
  data_bad records at octets le e = walk_bad (data_front h t) data_advances records at octets (RecordCut at) (front_bad h t records at octets le e)

  pub data_next : (records : List PlacedView) (at : ℕ) (octets : List ℕ) (own : List FieldView) (n : ℕ) → shortest_of t.specs ≤ length octets → fields_on [] 0 t.specs octets ≡ Some (own, n)
      → walk (data_front h t) records at octets ≡ walk (data_front h t) (records ++ placed h t.options records own ∷ []) (at + n) (drop n octets)
  data_next records at octets own n le e =
      walk_next (data_front h t) data_advances records (records ++ placed h t.options records own ∷ []) at n octets (front_next h t records at octets own n le e)
