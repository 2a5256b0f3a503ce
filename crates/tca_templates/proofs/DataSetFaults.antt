-- What is found wrong in a data set is the first of its octets that are no record, and nothing else is.
use Rattle.std.proofs.Common.{◌≡◌, ℕ, zero, suc, ◌+◌, ◌<◌, ◌≤◌, Bool, true, false, List, [], ◌∷◌, ◌++◌, length, take, drop, Option, Some, None, Err, refl, sym, ap, subst, ◌∙◌, arith, append_assoc}
use Rattle.std.specs.Prelude.{nat_lt}
use Rattle.std.proofs.lemmas.Bool.Decides.{nat_tests}
use Rattle.std.proofs.lemmas.List.{length-drop, length-append, length-take-le, take-append-drop}
use Rattle.tca_wire.specs.Walks.{walk}
use Rattle.tca_templates.specs.declared.source.Source.{Source}
use Rattle.tca_templates.specs.declared.fault.DecodeFault.{DecodeFault}
use Rattle.tca_templates.specs.declared.fault.DecodeFault.TheVariants.{RecordCut}
use Rattle.tca_templates.specs.Templates.{TemplateView, shortest_of}
use Rattle.tca_templates.specs.Records.{FieldView, PlacedView, fields_on, placed, data_front}
use Rattle.tca_templates.specs.Parts.{BeginsWith}
use Rattle.tca_templates.specs.DataSets.{IsRecord, placed_behind}
use Rattle.tca_templates.specs.FirstFaults.{IsFaultyDataSet}
use Rattle.tca_templates.proofs.Choices.{one_fault, no_fault}
use Rattle.tca_templates.proofs.Fields.{fields_holds}
use Rattle.tca_templates.proofs.Records.{data_ends, data_bad, data_next}
use Rattle.tca_templates.proofs.DataSetLaws.{fields_found, fields_only, records_pass}

-- where the fields are cut off, no record begins
none_begins : (t : TemplateView) (octets : List ℕ) → fields_on [] 0 t.specs octets ≡ None → (fields : List FieldView) → BeginsWith (IsRecord t.specs) (fields ∷ []) octets → ⊥
none_begins t octets none fields p =
    let found : List FieldView × ℕ = (fields, 0 + length p.own) in
    let read : fields_on [] 0 t.specs octets ≡ Some found = ap (λ os. fields_on [] 0 t.specs os) p.whole ∙ fields_only [] 0 t.specs fields p.own p.rest p.is in
    let bad : None ≡ Some found = sym none ∙ read in
    absurd cc

-- and where no record begins, they are
none_there : (t : TemplateView) (octets : List ℕ) → ((fields : List FieldView) → BeginsWith (IsRecord t.specs) (fields ∷ []) octets → ⊥) → fields_on [] 0 t.specs octets ≡ None
none_there t octets cut = go (fields_on [] 0 t.specs octets) refl
  where
    go : (o : Option (List FieldView × ℕ)) → fields_on [] 0 t.specs octets ≡ o → fields_on [] 0 t.specs octets ≡ None
    go None o = o
    go (Some x) o =
        let f = fields_found [] 0 t.specs octets x o in
        absurd (cut f.more (record {
          own = take f.size octets;
          rest = drop f.size octets;
          whole = sym (take-append-drop f.size octets);
          is = f.each;
          behind = tt;
        }))

module _ (h : Source) (t : TemplateView) (some : 0 < shortest_of t.specs) where
  fault_for : (most : ℕ) (before : List PlacedView) (at : ℕ) (octets : List ℕ) (fault : DecodeFault) → length octets < most
      → walk (data_front h t) before at octets ≡ Err fault → IsFaultyDataSet t at octets fault
  fault_for zero before at octets fault lt e = absurd (omega arith)
  fault_for (suc most) before at octets fault lt e =
      start (λ now at rest l k. fault_for most now at rest fault l k) (nat_lt (length octets) (shortest_of t.specs)) refl
    where
      Further : Type 0
      Further = (now : List PlacedView) (at : ℕ) (rest : List ℕ) → length rest < most → walk (data_front h t) now at rest ≡ Err fault → IsFaultyDataSet t at rest fault

      go : Further → shortest_of t.specs ≤ length octets → (o : Option (List FieldView × ℕ)) → fields_on [] 0 t.specs octets ≡ o → IsFaultyDataSet t at octets fault
      go further le None o =
          let same : fault ≡ RecordCut at = one_fault (walk (data_front h t) before at octets) fault (RecordCut at) e (data_bad h t some before at octets le o) in
          let here : at ≡ at + 0 = omega arith in
          record {
            records = [];
            front = [];
            rest = octets;
            whole = refl;
            each = refl;
            more = le;
            cut = none_begins t octets o;
            is = same ∙ ap (λ (n : ℕ). RecordCut n) here;
          }
      go further le (Some x) o =
          let f = fields_found [] 0 t.specs octets x o in
          let facts = fields_holds [] 0 t.specs octets x o in
          let n = x.1 in
          let size : x.1 ≡ f.size = omega (arith, f.all) in
          let within : n ≤ length octets = omega (arith, facts.within) in
          let next = data_next h t some before at octets x.0 n le o in
          let r = further (before ++ placed h t.options before x.0 ∷ []) (at + n) (drop n octets) (omega (arith, facts.least, facts.within, some, length-drop n octets)) (sym next ∙ e) in
          let more : IsRecord t.specs f.more (take n octets) = subst (λ m. IsRecord t.specs f.more (take m octets)) (sym size) f.each in
          let own : IsRecord t.specs x.0 (take n octets) = subst (λ (fs : List FieldView). IsRecord t.specs fs (take n octets)) (sym f.is) more in
          let there : at + n + length r.front ≡ at + length (take n octets ++ r.front) = omega (arith, length-append (take n octets) r.front, length-take-le n octets within) in
          record {
            records = x.0 ∷ r.records;
            front = take n octets ++ r.front;
            rest = r.rest;
            whole = sym (take-append-drop n octets) ∙ ap (λ rest. take n octets ++ rest) r.whole ∙ sym (append_assoc (take n octets) r.front r.rest);
            each = record { own = take n octets; rest = r.front; whole = refl; is = own; behind = r.each };
            more = r.more;
            cut = r.cut;
            is = r.is ∙ ap (λ (m : ℕ). RecordCut m) there;
          }

      start : Further → (b : Bool) → nat_lt (length octets) (shortest_of t.specs) ≡ b → IsFaultyDataSet t at octets fault
      start further true l =
          let few : length octets < shortest_of t.specs = grind (arith, nat_tests, l) in
          absurd (no_fault before fault (sym (data_ends h t some before at octets few) ∙ e))
      start further false l = go further (grind (arith, nat_tests, l)) (fields_on [] 0 t.specs octets) refl

  pub data_set_fault : (before : List PlacedView) (at : ℕ) (octets : List ℕ) (fault : DecodeFault)
      → walk (data_front h t) before at octets ≡ Err fault → IsFaultyDataSet t at octets fault
  data_set_fault before at octets fault e = fault_for (suc (length octets)) before at octets fault (omega arith) e

  pub data_set_no_other : (before : List PlacedView) (at : ℕ) (octets : List ℕ) (fault : DecodeFault)
      → IsFaultyDataSet t at octets fault → walk (data_front h t) before at octets ≡ Err fault
  data_set_no_other before at octets fault p =
      ap (λ os. walk (data_front h t) before at os) p.whole ∙ records_pass h t some p.records before at p.front p.rest p.each
      ∙ data_bad h t some (placed_behind h t.options before p.records) (at + length p.front) p.rest p.more (none_there t p.rest p.cut)
      ∙ ap (λ (f : DecodeFault). Err f) (sym p.is)
