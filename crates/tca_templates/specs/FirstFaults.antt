-- Messages that no reading in their session takes, and the fault that is the first from the left.
use Rattle.std.specs.Prelude.{◌≡◌, ◌≢◌, ◌⊎◌, ℕ, ◌+◌, ◌≤◌, ◌<◌, Bool, true, false, List, [], ◌∷◌, ◌++◌, length, drop, Some, None, Ok}
use Rattle.byteorder.specs.Endian.{big_number}
use Rattle.tca_templates.specs.declared.source.Source.{Source}
use Rattle.tca_wire.specs.declared.message.SetSpan.{SetSpan}
use Rattle.tca_templates.specs.declared.template.FieldSpec.{FieldSpec}
use Rattle.tca_templates.specs.declared.fault.DecodeFault.{DecodeFault}
use Rattle.tca_templates.specs.declared.fault.DecodeFault.TheVariants.{TemplateId, TemplateCut, Scope, EmptyTemplate, TooMany, RecordCut}
use Rattle.tca_templates.specs.Templates.{Templates, TemplateView, known, shortest_of}
use Rattle.tca_templates.specs.Specifiers.{ChangeView, set_id}
use Rattle.tca_templates.specs.Records.{FieldView}
use Rattle.tca_templates.specs.Reading.{ReadMessage, body_of}
use Rattle.tca_templates.specs.Parts.{InTurn, BeginsWith}
use Rattle.tca_templates.specs.TemplateSets.{IsSpecifier, IsTemplateRecord, HasScope, head_size, after_changes}
use Rattle.tca_templates.specs.DataSets.{IsRecord}
use Rattle.tca_templates.specs.Sessions.{IsReading}

-- the identifier of a template record, and how many fields it counts
abbrev pub id_at : List ℕ → ℕ
id_at octets = big_number 2 octets

abbrev pub count_at : List ℕ → ℕ
count_at octets = big_number 2 (drop 2 octets)

-- the count of scope fields in the head of an options template
abbrev pub scope_at : List ℕ → ℕ
scope_at octets = big_number 2 (drop 4 octets)

-- A definition begins: an identifier of 256 or more, and 1 to 512 fields.
pub record Defines (octets : List ℕ) : Type 0 where
  pub least : 256 ≤ id_at octets
  pub some : 0 < count_at octets
  pub most : count_at octets ≤ 512

-- Its head is whole and right, and behind it stand so many field specifiers as it counts.
pub record HasFields (options : Bool) (specs : List FieldSpec) (octets : List ℕ) : Type 0 where
  pub head : head_size options ≤ length octets
  pub scope : HasScope options (count_at octets) octets
  pub count : length specs ≡ count_at octets
  pub fields : BeginsWith IsSpecifier specs (drop (head_size options) octets)

-- What is wrong with a template record of four octets or more at this place of the message.
pub data IsFaultyTemplate (domain : ℕ) (options : Bool) (templates : Templates) (at : ℕ) (octets : List ℕ) (fault : DecodeFault) : Type 0 where
  -- An identifier below 256, where it isn't the withdrawal of all templates of the set's kind.
  BadId : id_at octets < 256 → (id_at octets ≡ set_id options → count_at octets ≢ 0) → fault ≡ TemplateId at
      → IsFaultyTemplate domain options templates at octets fault
  -- More than 512 fields.
  ManyFields : 256 ≤ id_at octets → 512 < count_at octets → fault ≡ TooMany → IsFaultyTemplate domain options templates at octets fault
  -- The octets end within the head.
  CutHead : Defines octets → length octets < head_size options → fault ≡ TemplateCut at → IsFaultyTemplate domain options templates at octets fault
  -- An options template with no scope field, or with more of them than fields.
  BadScope : Defines octets → options ≡ true → 6 ≤ length octets → (scope_at octets ≡ 0) ⊎ (count_at octets < scope_at octets) → fault ≡ Scope at
      → IsFaultyTemplate domain options templates at octets fault
  -- The octets end within the specifiers: so many as it counts don't stand there.
  CutFields : Defines octets → head_size options ≤ length octets → HasScope options (count_at octets) octets
      → ((specs : List FieldSpec) → HasFields options specs octets → ⊥) → fault ≡ TemplateCut at
      → IsFaultyTemplate domain options templates at octets fault
  -- Its records would have no octet.
  NoOctets : Defines octets → (specs : List FieldSpec) → HasFields options specs octets → shortest_of specs ≡ 0 → fault ≡ EmptyTemplate (id_at octets)
      → IsFaultyTemplate domain options templates at octets fault
  -- It is a new one beside 4,096 others.
  Full : Defines octets → (specs : List FieldSpec) → HasFields options specs octets → 0 < shortest_of specs → known (domain, id_at octets) templates ≡ None
      → 4096 ≤ length templates → fault ≡ TooMany → IsFaultyTemplate domain options templates at octets fault

-- A template set that begins at this place: template records, and behind them the first that is wrong.
pub record IsFaultyTemplateSet (domain : ℕ) (options : Bool) (before : Templates) (at : ℕ) (octets : List ℕ) (fault : DecodeFault) : Type 0 where
  pub changes : List ChangeView
  pub templates : Templates
  pub records : List ℕ
  pub rest : List ℕ
  pub whole : octets ≡ records ++ rest
  pub each : InTurn (IsTemplateRecord options) changes records
  pub effect : after_changes domain options before changes ≡ Ok templates
  pub more : 4 ≤ length rest
  pub wrong : IsFaultyTemplate domain options templates (at + length records) rest fault

-- A data set that begins at this place: records of its template, and behind them octets that are no padding and begin with no
-- whole record.
pub record IsFaultyDataSet (t : TemplateView) (at : ℕ) (octets : List ℕ) (fault : DecodeFault) : Type 0 where
  pub records : List (List FieldView)
  pub front : List ℕ
  pub rest : List ℕ
  pub whole : octets ≡ front ++ rest
  pub each : InTurn (IsRecord t.specs) records front
  pub more : shortest_of t.specs ≤ length rest
  pub cut : (fields : List FieldView) → BeginsWith (IsRecord t.specs) (fields ∷ []) rest → ⊥
  pub is : fault ≡ RecordCut (at + length front)

-- A set that is wrong, when this has come of the message before it. What is skipped or unread is never wrong.
pub data IsFaultySet (source : Source) (octets : List ℕ) (given : ReadMessage) (s : SetSpan) (fault : DecodeFault) : Type 0 where
  TemplateSet : s.id ≡ 2 → IsFaultyTemplateSet source.domain false given.templates (s.at + 4) (body_of octets s) fault → IsFaultySet source octets given s fault
  OptionsTemplateSet : s.id ≡ 3 → IsFaultyTemplateSet source.domain true given.templates (s.at + 4) (body_of octets s) fault → IsFaultySet source octets given s fault
  DataSet : 256 ≤ s.id → given.unplaced ≡ None → (t : TemplateView) → known (source.domain, s.id) given.templates ≡ Some t
      → IsFaultyDataSet t (s.at + 4) (body_of octets s) fault → IsFaultySet source octets given s fault

-- The sets of a message up to the first that is wrong, and its fault.
pub record IsFirstFault (ts : Templates) (source : Source) (octets : List ℕ) (sets : List SetSpan) (fault : DecodeFault) : Type 0 where
  pub before : List SetSpan
  pub set : SetSpan
  pub behind : List SetSpan
  pub given : ReadMessage
  pub whole : sets ≡ before ++ set ∷ behind
  pub read : IsReading ts source octets before given
  pub wrong : IsFaultySet source octets given set fault
