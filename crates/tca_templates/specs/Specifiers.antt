-- The records of a template set (RFC 7011, sections 3.4.1 and 3.4.2).
use Rattle.std.specs.Prelude.{ℕ, zero, suc, ◌+◌, ◌-◌, ◌==◌, nat_lt, Bool, true, false, not, ◌&&◌, ◌||◌, if◌then◌else◌, List, [], ◌∷◌, ◌++◌, length, drop, Option, Some, None, Result, Ok, Err}
use Rattle.std.specs.Option.{is_none}
use Rattle.byteorder.specs.Endian.{big_number}
use Rattle.tca_wire.specs.Walks.{Front, Ends, Bad, Next}
use Rattle.tca_templates.specs.declared.template.FieldSpec.{FieldSpec}
use Rattle.tca_templates.specs.declared.fault.DecodeFault.{DecodeFault}
use Rattle.tca_templates.specs.declared.fault.DecodeFault.TheVariants.{TemplateId, TemplateCut, Scope, EmptyTemplate, TooMany}
use Rattle.tca_templates.specs.Templates.{Templates, define, withdraw, withdraw_all, known, shortest_of}

-- The field specifier at the front, and how many octets it has: eight where the enterprise bit is set (RFC 7011, section 3.2).
abbrev pub spec_at : List ℕ → Option (FieldSpec × ℕ)
spec_at octets =
    if nat_lt (length octets) 4 then None
    else (if nat_lt (big_number 2 octets) 32768 then Some (record { element = big_number 2 octets; enterprise = None; length = big_number 2 (drop 2 octets) }, 4)
    else (if nat_lt (length octets) 8 then None
    else Some (record { element = big_number 2 octets - 32768; enterprise = Some (big_number 4 (drop 4 octets)); length = big_number 2 (drop 2 octets) }, 8)))

-- So many specifiers behind those that were read, and the octets of them all; where they are cut off, this fault.
unfoldable pub specs_on : DecodeFault → List FieldSpec → ℕ → ℕ → List ℕ → Result (List FieldSpec × ℕ) DecodeFault
specs_on cut specs used zero octets = Ok (specs, used)
specs_on cut specs used (suc count) octets = elim (spec_at octets) [
  | None ↦ Err cut
  | Some x ↦ specs_on cut (specs ++ x.0 ∷ []) (used + x.1) count (drop x.1 octets)
]

-- the specifiers of so many that are there
unfoldable pub specs_in : ℕ → List ℕ → List FieldSpec
specs_in zero octets = []
specs_in (suc count) octets = elim (spec_at octets) [
  | None ↦ []
  | Some x ↦ x.0 ∷ specs_in count (drop x.1 octets)
]

-- What a template record does.
pub data ChangeView : Type 0 where
  AllGone : ChangeView
  Gone : ℕ → ChangeView
  New : ℕ → List FieldSpec → ChangeView

-- the identifier of a set, by the kind of its templates (RFC 7011, section 3.3.2)
abbrev pub set_id : Bool → ℕ
set_id true = 3
set_id false = 2

-- The octets before the specifiers: four, and two more in an options template, where they say how many fields are
-- scope (RFC 7011, section 3.4.2.2): not none, and no more than there are.
abbrev pub head_of : Bool → ℕ → ℕ → List ℕ → Result ℕ DecodeFault
head_of false at count octets = Ok 4
head_of true at count octets =
    if nat_lt (length octets) 6 then Err (TemplateCut at)
    else (if (big_number 2 (drop 4 octets) == 0) || nat_lt count (big_number 2 (drop 4 octets)) then Err (Scope at) else Ok 6)

-- what a record with these specifiers defines
abbrev pub defined : ℕ → Result (List FieldSpec × ℕ) DecodeFault → Result (ChangeView × ℕ) DecodeFault
defined id (Err f) = Err f
defined id (Ok x) = if shortest_of x.0 == 0 then Err (EmptyTemplate id) else Ok (New id x.0, x.1)

-- the specifiers behind so many octets
abbrev pub behind_head : ℕ → ℕ → ℕ → List ℕ → Result ℕ DecodeFault → Result (ChangeView × ℕ) DecodeFault
behind_head id at count octets (Err f) = Err f
behind_head id at count octets (Ok n) = defined id (specs_on (TemplateCut at) [] n count (drop n octets))

-- The template record at the front of at least four octets, and how many octets it has. An identifier of 2 in a
-- template set, or 3 in an options template set, withdraws where it counts no field; no other one below 256 does.
-- At most 512 fields, and no record without an octet, are this project's own limits.
unfoldable pub change_at : Bool → ℕ → List ℕ → Result (ChangeView × ℕ) DecodeFault
change_at options at octets =
    let id = big_number 2 octets in
    let count = big_number 2 (drop 2 octets) in
    if (id == set_id options) && (count == 0) then Ok (AllGone, 4)
    else (if nat_lt id 256 then Err (TemplateId at)
    else (if count == 0 then Ok (Gone id, 4)
    else (if nat_lt 512 count then Err TooMany
    else behind_head id at count octets (head_of options at count octets))))

-- The templates after it. At most 4,096 are known, over all domains.
abbrev pub changed : ℕ → Bool → Templates → ChangeView → Result Templates DecodeFault
changed domain options ts AllGone = Ok (withdraw_all domain options ts)
changed domain options ts (Gone id) = Ok (withdraw (domain, id) ts)
changed domain options ts (New id specs) =
    if is_none (known (domain, id) ts) && not (nat_lt (length ts) 4096) then Err TooMany
    else Ok (define (domain, id) (record { options = options; specs = specs }) ts)

abbrev pub onward : {S : Type 0} → ℕ → Result S DecodeFault → Front S DecodeFault
onward n (Ok t) = Next t n
onward n (Err f) = Bad f

abbrev pub after_change : ℕ → Bool → Templates → Result (ChangeView × ℕ) DecodeFault → Front Templates DecodeFault
after_change domain options ts (Err f) = Bad f
after_change domain options ts (Ok x) = onward x.1 (changed domain options ts x.0)

-- At most three octets are padding. RFC 7011, section 3.3.1, has exporters write zeros there; here any value is taken.
unfoldable pub template_front : ℕ → Bool → Templates → ℕ → List ℕ → Front Templates DecodeFault
template_front domain options ts at octets =
    if nat_lt (length octets) 4 then Ends else after_change domain options ts (change_at options at octets)
