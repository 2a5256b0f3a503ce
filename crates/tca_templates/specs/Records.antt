-- The records of a data set (RFC 7011, section 3.4.3).
use Rattle.std.specs.Prelude.{ℕ, ◌+◌, ◌%◌, ◌^◌, ◌==◌, nat_lt, Bool, if◌then◌else◌, List, [], ◌∷◌, ◌++◌, length, take, drop, slice_index, Option, Some, None}
use Rattle.byteorder.specs.Endian.{big_number}
use Rattle.tca_wire.specs.Walks.{Front, Ends, Bad, Next}
use Rattle.tca_wire.specs.declared.message.Header.{Header}
use Rattle.tca_templates.specs.declared.source.Source.{Source}
use Rattle.tca_templates.specs.declared.template.FieldSpec.{FieldSpec}
use Rattle.tca_templates.specs.declared.fault.DecodeFault.{DecodeFault}
use Rattle.tca_templates.specs.declared.fault.DecodeFault.TheVariants.{RecordCut}
use Rattle.tca_templates.specs.Templates.{TemplateView, shortest_of}

-- a field of a record, without where it lies in memory
pub record FieldView : Type 0 where
  pub element : ℕ
  pub enterprise : Option ℕ
  pub value : List ℕ

-- A data record with its place among those of its observation domain in its session.
pub record PlacedView : Type 0 where
  pub session : ℕ
  pub domain : ℕ
  pub place : ℕ
  pub options : Bool
  pub fields : List FieldView

-- a value of so many octets behind so many others, where all of them are there
abbrev pub fits : List ℕ → ℕ → ℕ → Option (ℕ × ℕ)
fits octets skip size = if nat_lt (length octets) (skip + size) then None else Some (skip, size)

-- How many octets stand before the field's value, and how many it has. A variable length stands before it, in one octet
-- or, behind an octet of 255, in two (RFC 7011, section 7). The long form is taken for lengths below 255 too.
abbrev pub field_at : ℕ → List ℕ → Option (ℕ × ℕ)
field_at size octets =
    if size == 65535 then (
    if length octets == 0 then None
    else (if nat_lt (slice_index octets 0) 255 then fits octets 1 (slice_index octets 0)
    else (if nat_lt (length octets) 3 then None
    else fits octets 3 (big_number 2 (drop 1 octets)))))
    else fits octets 0 size

-- The fields of the specifiers, behind those that were read, and the octets of them all.
unfoldable pub fields_on : List FieldView → ℕ → List FieldSpec → List ℕ → Option (List FieldView × ℕ)
fields_on fields used [] octets = Some (fields, used)
fields_on fields used (s ∷ ss) octets = elim (field_at s.length octets) [
  | None ↦ None
  | Some x ↦ fields_on (fields ++ record { element = s.element; enterprise = s.enterprise; value = take x.1 (drop x.0 octets) } ∷ []) (used + (x.0 + x.1)) ss (drop (x.0 + x.1) octets)
]

-- whose records a message of this header has in a session of this number
abbrev pub source_of : ℕ → Header → Source
source_of session header = record { session = session; domain = header.domain; sequence = header.sequence }

-- The place of the next record: the records before it are counted from the sequence number on, modulo 2^32. The
-- sequence number counts data records (RFC 7011, section 3.1), and records of options templates are read as such.
abbrev pub placed : Source → Bool → List PlacedView → List FieldView → PlacedView
placed source options records fields =
    record { session = source.session; domain = source.domain; place = (source.sequence + length records) % 2 ^ 32; options = options; fields = fields }

-- a record that begins and isn't there whole is cut
abbrev pub after_record : Source → Bool → List PlacedView → ℕ → Option (List FieldView × ℕ) → Front (List PlacedView) DecodeFault
after_record source options records at None = Bad (RecordCut at)
after_record source options records at (Some x) = Next (records ++ placed source options records x.0 ∷ []) x.1

-- Fewer octets than the shortest record are padding. RFC 7011, section 3.3.1, has exporters write zeros there; here
-- any value is taken.
unfoldable pub data_front : Source → TemplateView → List PlacedView → ℕ → List ℕ → Front (List PlacedView) DecodeFault
data_front source t records at octets =
    if nat_lt (length octets) (shortest_of t.specs) then Ends else after_record source t.options records at (fields_on [] 0 t.specs octets)
