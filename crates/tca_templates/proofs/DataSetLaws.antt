-- What is read of a data set is its grammar, and nothing else is.
use Rattle.std.proofs.Common.{◌≡◌, ◌≢◌, ℕ, zero, suc, ◌+◌, ◌<◌, ◌≤◌, Bool, true, false, cond, List, [], ◌∷◌, ◌++◌, length, take, drop, Option, Some, None, Ok, Err, refl, sym, ap, ap₂, subst, ◌∙◌, arith, inl, inr, append_assoc, take-add}
use Rattle.std.specs.Prelude.{nat_lt, ◌==◌, slice_index}
use Rattle.std.proofs.lemmas.Bool.Decides.{nat_tests}
use Rattle.std.proofs.lemmas.List.{length-drop, length-append, length-take-le, append-nil, take_at, drop_at, take-append-drop}
use Rattle.byteorder.specs.Endian.{big_number}
use Rattle.tca_wire.specs.Walks.{walk}
use Rattle.tca_templates.specs.declared.source.Source.{Source}
use Rattle.tca_templates.specs.declared.template.FieldSpec.{FieldSpec}
use Rattle.tca_templates.specs.declared.fault.DecodeFault.TheVariants.{RecordCut}
use Rattle.tca_templates.specs.Templates.{TemplateView, shortest_of}
use Rattle.tca_templates.specs.Records.{FieldView, PlacedView, fits, field_at, fields_on, placed, data_front}
use Rattle.tca_templates.specs.Parts.{InTurn}
use Rattle.tca_templates.specs.DataSets.{IsValue, Fixed, Short, Long, IsRecord, IsDataSet, placed_behind}
use Rattle.tca_templates.proofs.Choices.{chosen, passed, same_some, same_ok}
use Rattle.tca_templates.proofs.Fields.{field_of, field_holds, fields_next, fields_cut, fields_done, fields_holds}
use Rattle.tca_templates.proofs.Records.{data_ends, data_bad, data_next}

-- a value of this size behind so many octets
fits_found : (octets : List ℕ) (skip size : ℕ) (x : ℕ × ℕ) → fits octets skip size ≡ Some x → (skip + size ≤ length octets) × ((skip, size) ≡ x)
fits_found octets skip size x e =
    let found : ℕ × ℕ = (skip, size) in
    let a = passed (nat_lt (length octets) (skip + size)) (Some found) x e in
    (grind (arith, nat_tests, a.0), same_some found x a.1)

short_found : (size b : ℕ) (bs : List ℕ) (x : ℕ × ℕ) → size ≡ 65535 → b < 255 → fits (b ∷ bs) 1 b ≡ Some x
    → IsValue size (take x.1 (drop x.0 (b ∷ bs))) (take (x.0 + x.1) (b ∷ bs))
short_found size b bs x is few e =
    let f = fits_found (b ∷ bs) 1 b x e in
    subst (λ (p : ℕ × ℕ). IsValue size (take p.1 (drop p.0 (b ∷ bs))) (take (p.0 + p.1) (b ∷ bs))) f.1
    (Short is (record { size = b; whole = take-add 1 b (b ∷ bs); few = few; measured = length-take-le b bs (omega (arith, f.0)) }))

long_found : (size a b c : ℕ) (bs : List ℕ) (x : ℕ × ℕ) → size ≡ 65535 → 255 ≤ a → fits (a ∷ (b ∷ (c ∷ bs))) 3 (big_number 2 (b ∷ (c ∷ bs))) ≡ Some x
    → IsValue size (take x.1 (drop x.0 (a ∷ (b ∷ (c ∷ bs))))) (take (x.0 + x.1) (a ∷ (b ∷ (c ∷ bs))))
long_found size a b c bs x is marks e =
    let octets = a ∷ (b ∷ (c ∷ bs)) in
    let n = big_number 2 (b ∷ (c ∷ bs)) in
    let f = fits_found octets 3 n x e in
    subst (λ (p : ℕ × ℕ). IsValue size (take p.1 (drop p.0 octets)) (take (p.0 + p.1) octets)) f.1
    (Long is (record { marker = a; high = b; low = c; whole = take-add 3 n octets; marks = marks; measured = length-take-le n bs (omega (arith, f.0)) }))

variable_found : (size : ℕ) (octets : List ℕ) (x : ℕ × ℕ) → size ≡ 65535
    → cond (length octets == 0) None
    (cond (nat_lt (slice_index octets 0) 255) (fits octets 1 (slice_index octets 0))
    (cond (nat_lt (length octets) 3) None (fits octets 3 (big_number 2 (drop 1 octets))))) ≡ Some x
    → IsValue size (take x.1 (drop x.0 octets)) (take (x.0 + x.1) octets)
variable_found size [] x is e = absurd cc
variable_found size (a ∷ rest) x is e =
    let some = passed (length (a ∷ rest) == 0) _ x e in
    elim (chosen (nat_lt a 255) (fits (a ∷ rest) 1 a) (cond (nat_lt (length (a ∷ rest)) 3) None (fits (a ∷ rest) 3 (big_number 2 rest))) (Some x) some.1) [
      | inl w ↦ let few : a < 255 = grind (arith, nat_tests, w.0) in short_found size a rest x is few w.1
      | inr w ↦
          let three = passed (nat_lt (length (a ∷ rest)) 3) _ x w.1 in
          let marks : 255 ≤ a = grind (arith, nat_tests, w.0) in
          let room : 3 ≤ length (a ∷ rest) = grind (arith, nat_tests, three.0) in
          long rest marks room three.1
    ]
  where
    long : (rest : List ℕ) → 255 ≤ a → 3 ≤ length (a ∷ rest) → fits (a ∷ rest) 3 (big_number 2 rest) ≡ Some x → IsValue size (take x.1 (drop x.0 (a ∷ rest))) (take (x.0 + x.1) (a ∷ rest))
    long [] marks room e = absurd (omega (arith, room))
    long (b ∷ []) marks room e = absurd (omega (arith, room))
    long (b ∷ (c ∷ bs)) marks room e = long_found size a b c bs x is marks e

value_found : (size : ℕ) (octets : List ℕ) (x : ℕ × ℕ) → field_at size octets ≡ Some x → IsValue size (take x.1 (drop x.0 octets)) (take (x.0 + x.1) octets)
value_found size octets x e = go (size == 65535) refl e
  where
    go : (b : Bool) → (size == 65535) ≡ b
        → cond b
        (cond (length octets == 0) None
        (cond (nat_lt (slice_index octets 0) 255) (fits octets 1 (slice_index octets 0))
        (cond (nat_lt (length octets) 3) None (fits octets 3 (big_number 2 (drop 1 octets))))))
        (fits octets 0 size) ≡ Some x
        → IsValue size (take x.1 (drop x.0 octets)) (take (x.0 + x.1) octets)
    go true t e = variable_found size octets x (grind (arith, nat_tests, t)) e
    go false t e =
        let f = fits_found octets 0 size x e in
        let other : size ≢ 65535 = grind (arith, nat_tests, t) in
        subst (λ (p : ℕ × ℕ). IsValue size (take p.1 (drop p.0 octets)) (take (p.0 + p.1) octets)) f.1 (Fixed other (take-add 0 size octets) (length-take-le size octets (omega (arith, f.0))))

-- the fields that were read, behind others
pub record AreFields (fields : List FieldView) (used : ℕ) (specs : List FieldSpec) (octets : List ℕ) (x : List FieldView × ℕ) : Type 0 where
  pub more : List FieldView
  pub size : ℕ
  pub is : x.0 ≡ fields ++ more
  pub all : x.1 ≡ used + size
  pub within : size ≤ length octets
  pub each : IsRecord specs more (take size octets)

pub fields_found : (fields : List FieldView) (used : ℕ) (specs : List FieldSpec) (octets : List ℕ) (x : List FieldView × ℕ)
    → fields_on fields used specs octets ≡ Some x → AreFields fields used specs octets x
fields_found fields used [] octets x e =
    let done : List FieldView × ℕ = (fields, used) in
    let k : done ≡ x = same_some done x (sym (fields_done fields used octets) ∙ e) in
    let u : used ≡ x.1 = ap (λ (p : List FieldView × ℕ). p.1) k in
    record { more = []; size = 0; is = sym (ap (λ (p : List FieldView × ℕ). p.0) k) ∙ sym (append-nil fields); all = omega (arith, u); within = omega arith; each = refl }
fields_found fields used (s ∷ ss) octets x e = go (λ more u rest h. fields_found more u ss rest x h) (field_at s.length octets) refl
  where
    go : ((more : List FieldView) (u : ℕ) (rest : List ℕ) → fields_on more u ss rest ≡ Some x → AreFields more u ss rest x)
        → (o : Option (ℕ × ℕ)) → field_at s.length octets ≡ o → AreFields fields used (s ∷ ss) octets x
    go found None o = let bad : None ≡ Some x = sym (fields_cut fields used s ss octets o) ∙ e in absurd cc
    go found (Some y) o =
        let n = y.0 + y.1 in
        let own = field_of s y octets in
        let r = found (fields ++ own ∷ []) (used + n) (drop n octets) (sym (fields_next fields used s ss octets y o) ∙ e) in
        let f = field_holds s octets y o in
        record {
          more = own ∷ r.more;
          size = n + r.size;
          is = r.is ∙ append_assoc fields (own ∷ []) r.more;
          all = omega (arith, r.all);
          within = omega (arith, r.within, f.0, length-drop n octets);
          each = record { own = take n octets; rest = take r.size (drop n octets); whole = take-add n r.size octets; is = record { element = refl; enterprise = refl; value = value_found s.length octets y o }; behind = r.each };
        }

-- the records of a data set, and where they are placed
pub record IsPlaced (h : Source) (t : TemplateView) (before after : List PlacedView) (octets : List ℕ) : Type 0 where
  pub records : List (List FieldView)
  pub set : IsDataSet t records octets
  pub is : after ≡ placed_behind h t.options before records

module _ (h : Source) (t : TemplateView) (some : 0 < shortest_of t.specs) where
  found_for : (most : ℕ) (before after : List PlacedView) (at : ℕ) (octets : List ℕ) → length octets < most
      → walk (data_front h t) before at octets ≡ Ok after → IsPlaced h t before after octets
  found_for zero before after at octets lt e = absurd (omega arith)
  found_for (suc most) before after at octets lt e =
      start (λ now at rest l k. found_for most now after at rest l k) (nat_lt (length octets) (shortest_of t.specs)) refl
    where
      Further : Type 0
      Further = (now : List PlacedView) (at : ℕ) (rest : List ℕ) → length rest < most → walk (data_front h t) now at rest ≡ Ok after → IsPlaced h t now after rest

      go : Further → shortest_of t.specs ≤ length octets → (o : Option (List FieldView × ℕ)) → fields_on [] 0 t.specs octets ≡ o → IsPlaced h t before after octets
      go further le None o = let bad : Err (RecordCut at) ≡ Ok after = sym (data_bad h t some before at octets le o) ∙ e in absurd cc
      go further le (Some x) o =
          let f = fields_found [] 0 t.specs octets x o in
          let facts = fields_holds [] 0 t.specs octets x o in
          let n = x.1 in
          let size : x.1 ≡ f.size = omega (arith, f.all) in
          let next = data_next h t some before at octets x.0 n le o in
          let r = further (before ++ placed h t.options before x.0 ∷ []) (at + n) (drop n octets) (omega (arith, facts.least, facts.within, some, length-drop n octets)) (sym next ∙ e) in
          let own : IsRecord t.specs x.0 (take n octets) = subst (λ (fs : List FieldView). IsRecord t.specs fs (take n octets)) (sym f.is) (subst (λ m. IsRecord t.specs f.more (take m octets)) (sym size) f.each) in
          record {
            records = x.0 ∷ r.records;
            set = record {
              front = take n octets ++ r.set.front;
              padding = r.set.padding;
              whole = sym (take-append-drop n octets) ∙ ap (λ rest. take n octets ++ rest) r.set.whole ∙ sym (append_assoc (take n octets) r.set.front r.set.padding);
              each = record { own = take n octets; rest = r.set.front; whole = refl; is = own; behind = r.set.each };
              few = r.set.few;
            };
            is = r.is;
          }

      start : Further → (b : Bool) → nat_lt (length octets) (shortest_of t.specs) ≡ b → IsPlaced h t before after octets
      start further true l =
          let few : length octets < shortest_of t.specs = grind (arith, nat_tests, l) in
          let same : before ≡ after = same_ok before after (sym (data_ends h t some before at octets few) ∙ e) in
          record { records = []; set = record { front = []; padding = octets; whole = refl; each = refl; few = few }; is = sym same }
      start further false l = go further (grind (arith, nat_tests, l)) (fields_on [] 0 t.specs octets) refl

  pub data_set_found : (before after : List PlacedView) (at : ℕ) (octets : List ℕ)
      → walk (data_front h t) before at octets ≡ Ok after → IsPlaced h t before after octets
  data_set_found before after at octets e = found_for (suc (length octets)) before after at octets (omega arith) e

-- what a field of a variable length is
abbrev variable : List ℕ → Option (ℕ × ℕ)
variable octets =
    cond (length octets == 0) None
    (cond (nat_lt (slice_index octets 0) 255) (fits octets 1 (slice_index octets 0))
    (cond (nat_lt (length octets) 3) None (fits octets 3 (big_number 2 (drop 1 octets)))))

-- a value in front of other octets
record IsInFront (size : ℕ) (value own rest : List ℕ) : Type 0 where
  skip : ℕ
  at : field_at size (own ++ rest) ≡ Some (skip, length value)
  all : skip + length value ≡ length own
  value_is : take (length value) (drop skip (own ++ rest)) ≡ value

value_front : (size : ℕ) (value own rest : List ℕ) → IsValue size value own → IsInFront size value own rest
value_front size value own rest (Fixed other is long) =
    let t1 : (size == 65535) ≡ false = grind (arith, nat_tests, other) in
    let n = length-append own rest in
    let same : length own ≡ length value = ap length is in
    let t2 : nat_lt (length (own ++ rest)) (0 + size) ≡ false = grind (arith, nat_tests, n, same, long) in
    record {
      skip = 0;
      at = ap (λ b. cond b (variable (own ++ rest)) (fits (own ++ rest) 0 size)) t1 ∙ ap (λ b. cond b None (Some (0, size))) t2 ∙ ap (λ m. Some (0, m)) (sym long);
      all = omega (arith, same);
      value_is = ap (λ os. take (length value) (os ++ rest)) is ∙ take_at value rest (length value) refl;
    }
value_front size value own rest (Short is p) =
    let octets = p.size ∷ (value ++ rest) in
    let whole : own ++ rest ≡ octets = ap (λ os. os ++ rest) p.whole in
    let t1 : (size == 65535) ≡ true = grind (arith, nat_tests, is) in
    let t2 : (length octets == 0) ≡ false = grind (arith, nat_tests) in
    let t3 : nat_lt p.size 255 ≡ true = grind (arith, nat_tests, p.few) in
    let n = length-append value rest in
    let t4 : nat_lt (length octets) (1 + p.size) ≡ false = grind (arith, nat_tests, n, p.measured) in
    let long : Option (ℕ × ℕ) = cond (nat_lt (length octets) 3) None (fits octets 3 (big_number 2 (drop 1 octets))) in
    let more : Option (ℕ × ℕ) = cond (nat_lt p.size 255) (fits octets 1 p.size) long in
    record {
      skip = 1;
      at = ap (field_at size) whole ∙ ap (λ b. cond b (variable octets) (fits octets 0 size)) t1 ∙ ap (λ b. cond b None more) t2
          ∙ ap (λ b. cond b (fits octets 1 p.size) long) t3 ∙ ap (λ b. cond b None (Some (1, p.size))) t4 ∙ ap (λ m. Some (1, m)) (sym p.measured);
      all = omega (arith, ap length p.whole);
      value_is = ap (λ os. take (length value) (drop 1 os)) whole ∙ take_at value rest (length value) refl;
    }
value_front size value own rest (Long is p) =
    let octets = p.marker ∷ (p.high ∷ (p.low ∷ (value ++ rest))) in
    let whole : own ++ rest ≡ octets = ap (λ os. os ++ rest) p.whole in
    let many : ℕ = big_number 2 (p.high ∷ (p.low ∷ [])) in
    let t1 : (size == 65535) ≡ true = grind (arith, nat_tests, is) in
    let t2 : (length octets == 0) ≡ false = grind (arith, nat_tests) in
    let t3 : nat_lt p.marker 255 ≡ false = grind (arith, nat_tests, p.marks) in
    let t5 : nat_lt (length octets) 3 ≡ false = grind (arith, nat_tests) in
    let n = length-append value rest in
    let t4 : nat_lt (length octets) (3 + many) ≡ false = grind (arith, nat_tests, n, p.measured) in
    let long : Option (ℕ × ℕ) = cond (nat_lt (length octets) 3) None (fits octets 3 many) in
    let more : Option (ℕ × ℕ) = cond (nat_lt p.marker 255) (fits octets 1 p.marker) long in
    record {
      skip = 3;
      at = ap (field_at size) whole ∙ ap (λ b. cond b (variable octets) (fits octets 0 size)) t1 ∙ ap (λ b. cond b None more) t2
          ∙ ap (λ b. cond b (fits octets 1 p.marker) long) t3 ∙ ap (λ b. cond b None (fits octets 3 many)) t5 ∙ ap (λ b. cond b None (Some (3, many))) t4 ∙ ap (λ m. Some (3, m)) (sym p.measured);
      all = omega (arith, ap length p.whole);
      value_is = ap (λ os. take (length value) (drop 3 os)) whole ∙ take_at value rest (length value) refl;
    }

pub fields_only : (fields : List FieldView) (used : ℕ) (specs : List FieldSpec) (more : List FieldView) (own rest : List ℕ) → IsRecord specs more own
    → fields_on fields used specs (own ++ rest) ≡ Some (fields ++ more, used + length own)
fields_only fields used [] [] own rest p =
    let none : length own ≡ 0 = ap length p in
    let all : used ≡ used + length own = omega (arith, none) in
    fields_done fields used (own ++ rest) ∙ ap₂ (λ (fs : List FieldView) (n : ℕ). Some (fs, n)) (sym (append-nil fields)) all
fields_only fields used [] (f ∷ more) own rest p = absurd p
fields_only fields used (s ∷ ss) [] own rest p = absurd p
fields_only fields used (s ∷ ss) (f ∷ more) own rest p =
    let tail = p.rest ++ rest in
    let octets : own ++ rest ≡ p.own ++ tail = ap (λ os. os ++ rest) p.whole ∙ append_assoc p.own p.rest rest in
    let v = value_front s.length f.value p.own tail p.is.value in
    let x : ℕ × ℕ = (v.skip, length f.value) in
    let found = field_of s x (p.own ++ tail) in
    let same : found ≡ f = λ i. record { element = sym p.is.element i; enterprise = sym p.is.enterprise i; value = v.value_is i } in
    let size : length own ≡ length p.own + length p.rest = ap length p.whole ∙ length-append p.own p.rest in
    let all : used + length p.own + length p.rest ≡ used + length own = omega (arith, size) in
    ap (λ os. fields_on fields used (s ∷ ss) os) octets
    ∙ fields_next fields used s ss (p.own ++ tail) x v.at
    ∙ ap₂ (λ (fs : List FieldView) (n : ℕ). fields_on fs (used + n) ss (drop n (p.own ++ tail))) (ap (λ (g : FieldView). fields ++ g ∷ []) same) v.all
    ∙ ap (λ os. fields_on (fields ++ f ∷ []) (used + length p.own) ss os) (drop_at p.own tail (length p.own) refl)
    ∙ fields_only (fields ++ f ∷ []) (used + length p.own) ss more p.rest rest p.behind
    ∙ ap₂ (λ (fs : List FieldView) (n : ℕ). Some (fs, n)) (append_assoc fields (f ∷ []) more) all

module _ (h : Source) (t : TemplateView) where
  -- records in front of other octets are read one after the other
  pub records_pass : 0 < shortest_of t.specs → (rs : List (List FieldView)) (before : List PlacedView) (at : ℕ) (front rest : List ℕ) → InTurn (IsRecord t.specs) rs front
      → walk (data_front h t) before at (front ++ rest) ≡ walk (data_front h t) (placed_behind h t.options before rs) (at + length front) rest
  records_pass some [] before at front rest p =
      let none : length front ≡ 0 = ap length p in
      let here : at ≡ at + length front = omega (arith, none) in
      ap (λ os. walk (data_front h t) before at (os ++ rest)) p ∙ ap (λ n. walk (data_front h t) before n rest) here
  records_pass some (r ∷ rs) before at front rest p =
      let tail = p.rest ++ rest in
      let octets : front ++ rest ≡ p.own ++ tail = ap (λ os. os ++ rest) p.whole ∙ append_assoc p.own p.rest rest in
      let all : 0 + length p.own ≡ length p.own = omega arith in
      let read : fields_on [] 0 t.specs (p.own ++ tail) ≡ Some (r, length p.own) = fields_only [] 0 t.specs r p.own tail p.is ∙ ap (λ n. Some (r, n)) all in
      let facts = fields_holds [] 0 t.specs (p.own ++ tail) (r, length p.own) read in
      let size : length front ≡ length p.own + length p.rest = ap length p.whole ∙ length-append p.own p.rest in
      let there : at + length p.own + length p.rest ≡ at + length front = omega (arith, size) in
      ap (λ os. walk (data_front h t) before at os) octets
      ∙ data_next h t some before at (p.own ++ tail) r (length p.own) (omega (arith, facts.least, length-append p.own tail)) read
      ∙ ap (λ os. walk (data_front h t) (before ++ placed h t.options before r ∷ []) (at + length p.own) os) (drop_at p.own tail (length p.own) refl)
      ∙ records_pass some rs (before ++ placed h t.options before r ∷ []) (at + length p.own) p.rest rest p.behind
      ∙ ap (λ n. walk (data_front h t) (placed_behind h t.options before (r ∷ rs)) n rest) there

  pub data_set_only : (rs : List (List FieldView)) (before : List PlacedView) (at : ℕ) (octets : List ℕ)
      → IsDataSet t rs octets → walk (data_front h t) before at octets ≡ Ok (placed_behind h t.options before rs)
  data_set_only rs before at octets p =
      let some : 0 < shortest_of t.specs = omega (arith, p.few) in
      ap (λ os. walk (data_front h t) before at os) p.whole ∙ records_pass some rs before at p.front p.padding p.each
      ∙ data_ends h t some (placed_behind h t.options before rs) (at + length p.front) p.padding p.few
