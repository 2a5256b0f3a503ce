-- The grammar of data sets (RFC 7011, sections 3.3, 3.4.3 and 7): records of one template one after the other, and padding.
use Rattle.std.specs.Prelude.{◌≡◌, ◌≢◌, ℕ, ◌≤◌, ◌<◌, Bool, List, [], ◌∷◌, ◌++◌, length}
use Rattle.byteorder.specs.Endian.{big_number}
use Rattle.tca_templates.specs.declared.source.Source.{Source}
use Rattle.tca_templates.specs.declared.template.FieldSpec.{FieldSpec}
use Rattle.tca_templates.specs.Templates.{TemplateView, shortest_of}
use Rattle.tca_templates.specs.Records.{FieldView, PlacedView, placed}
use Rattle.tca_templates.specs.Parts.{InTurn, StartsWith}

-- A value whose length stands before it in one octet below 255.
pub record IsShort (value octets : List ℕ) : Type 0 where
  pub size : ℕ
  pub whole : octets ≡ size ∷ value
  pub few : size < 255
  pub measured : length value ≡ size

-- A value whose length stands before it in two octets behind a marker of 255. No octet is above 255. Short lengths may have
-- this form too.
pub record IsLong (value octets : List ℕ) : Type 0 where
  pub marker : ℕ
  pub high : ℕ
  pub low : ℕ
  pub whole : octets ≡ marker ∷ (high ∷ (low ∷ value))
  pub marks : 255 ≤ marker
  pub measured : length value ≡ big_number 2 (high ∷ (low ∷ []))

-- A value in a field of this length: of just so many octets, or of a variable length where that is 65535 (RFC 7011, section 7).
pub data IsValue (size : ℕ) (value octets : List ℕ) : Type 0 where
  Fixed : size ≢ 65535 → octets ≡ value → length value ≡ size → IsValue size value octets
  Short : size ≡ 65535 → IsShort value octets → IsValue size value octets
  Long : size ≡ 65535 → IsLong value octets → IsValue size value octets

-- A field of a record by its specifier.
pub record IsField (s : FieldSpec) (f : FieldView) (octets : List ℕ) : Type 0 where
  pub element : f.element ≡ s.element
  pub enterprise : f.enterprise ≡ s.enterprise
  pub value : IsValue s.length f.value octets

-- A data record: a field for each specifier of the template, in their order.
abbrev pub IsRecord : List FieldSpec → List FieldView → List ℕ → Type 0
IsRecord [] [] octets = octets ≡ []
IsRecord [] (f ∷ fs) octets = ⊥
IsRecord (s ∷ ss) [] octets = ⊥
IsRecord (s ∷ ss) (f ∷ fs) octets = StartsWith (IsField s) f (IsRecord ss fs) octets

-- A data set of a template: records, and fewer octets of padding than the shortest record has.
pub record IsDataSet (t : TemplateView) (records : List (List FieldView)) (octets : List ℕ) : Type 0 where
  pub front : List ℕ
  pub padding : List ℕ
  pub whole : octets ≡ front ++ padding
  pub each : InTurn (IsRecord t.specs) records front
  pub few : length padding < shortest_of t.specs

-- Records behind those of the message that stand before them. Record i of a message, counted from 0, has the place of its
-- sequence number and i, modulo 2^32; records of options templates are counted with the others.
abbrev pub placed_behind : Source → Bool → List PlacedView → List (List FieldView) → List PlacedView
placed_behind source options before [] = before
placed_behind source options before (r ∷ rs) = placed_behind source options (before ++ placed source options before r ∷ []) rs
