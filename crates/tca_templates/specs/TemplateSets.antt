-- The grammar of template sets (RFC 7011, sections 3.2 and 3.4): template records one after the other, and padding.
use Rattle.std.specs.Prelude.{◌≡◌, ◌⊎◌, ⊤, ℕ, ◌+◌, ◌≤◌, ◌<◌, Bool, true, false, List, [], ◌∷◌, ◌++◌, length, drop, Some, None, Result, Ok}
use Rattle.byteorder.specs.Endian.{big_number}
use Rattle.tca_join.specs.Results.{◌>>=◌}
use Rattle.tca_templates.specs.declared.template.FieldSpec.{FieldSpec}
use Rattle.tca_templates.specs.declared.fault.DecodeFault.{DecodeFault}
use Rattle.tca_templates.specs.Templates.{Templates, shortest_of}
use Rattle.tca_templates.specs.Specifiers.{ChangeView, AllGone, Gone, New, set_id, changed}
use Rattle.tca_templates.specs.Parts.{InTurn}

-- A field specifier without an enterprise number: the element with the enterprise bit clear, and the field's length.
pub record IsPlain (s : FieldSpec) (octets : List ℕ) : Type 0 where
  pub size : length octets ≡ 4
  pub enterprise : s.enterprise ≡ None
  pub free : big_number 2 octets < 32768
  pub element : s.element ≡ big_number 2 octets
  pub width : s.length ≡ big_number 2 (drop 2 octets)

-- A field specifier with one: the enterprise bit set, the element, the field's length, the enterprise number.
pub record IsOfEnterprise (s : FieldSpec) (octets : List ℕ) : Type 0 where
  pub size : length octets ≡ 8
  pub enterprise : s.enterprise ≡ Some (big_number 4 (drop 4 octets))
  pub element : 32768 + s.element ≡ big_number 2 octets
  pub width : s.length ≡ big_number 2 (drop 2 octets)

-- A field specifier (RFC 7011, section 3.2).
abbrev pub IsSpecifier : FieldSpec → List ℕ → Type 0
IsSpecifier s octets = IsPlain s octets ⊎ IsOfEnterprise s octets

-- A withdrawal: the identifier, and no fields (RFC 7011, section 8.1).
pub record IsWithdrawal (template : ℕ) (octets : List ℕ) : Type 0 where
  pub size : length octets ≡ 4
  pub id : big_number 2 octets ≡ template
  pub none : big_number 2 (drop 2 octets) ≡ 0

-- The octets before the specifiers: identifier and count of fields, and in an options template the count of its scope fields.
abbrev pub head_size : Bool → ℕ
head_size false = 4
head_size true = 6

-- The scope of an options template: at least one of its fields, at most all (RFC 7011, section 3.4.2.2).
abbrev pub HasScope : Bool → ℕ → List ℕ → Type 0
HasScope false count octets = ⊤
HasScope true count octets = (0 < big_number 2 (drop 4 octets)) × (big_number 2 (drop 4 octets) ≤ count)

-- The definition of a template: an identifier of 256 or more, and 1 to 512 fields, whose records have an octet at least.
pub record IsDefinition (options : Bool) (template : ℕ) (specs : List FieldSpec) (octets : List ℕ) : Type 0 where
  pub head : head_size options ≤ length octets
  pub id : big_number 2 octets ≡ template
  pub least : 256 ≤ template
  pub count : big_number 2 (drop 2 octets) ≡ length specs
  pub most : length specs ≤ 512
  pub scope : HasScope options (length specs) octets
  pub fields : InTurn IsSpecifier specs (drop (head_size options) octets)
  pub some : 0 < shortest_of specs

-- A template record, and what it does: the withdrawal of all templates of the set's kind has the set's own identifier.
abbrev pub IsTemplateRecord : Bool → ChangeView → List ℕ → Type 0
IsTemplateRecord options AllGone octets = IsWithdrawal (set_id options) octets
IsTemplateRecord options (Gone id) octets = (256 ≤ id) × IsWithdrawal id octets
IsTemplateRecord options (New id specs) octets = IsDefinition options id specs octets

-- The templates after these changes, one after the other.
abbrev pub after_changes : ℕ → Bool → Templates → List ChangeView → Result Templates DecodeFault
after_changes domain options ts [] = Ok ts
after_changes domain options ts (c ∷ cs) = changed domain options ts c >>= (λ us. after_changes domain options us cs)

-- A template set of an observation domain: its octets are template records and at most three octets of padding. It takes the
-- templates before it to those after it.
pub record IsTemplateSet (domain : ℕ) (options : Bool) (before after : Templates) (octets : List ℕ) : Type 0 where
  pub changes : List ChangeView
  pub records : List ℕ
  pub padding : List ℕ
  pub whole : octets ≡ records ++ padding
  pub each : InTurn (IsTemplateRecord options) changes records
  pub few : length padding ≤ 3
  pub effect : after_changes domain options before changes ≡ Ok after
