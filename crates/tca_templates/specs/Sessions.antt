-- What a message is in a session: its sets take effect in their order (RFC 7011, section 3.1).
use Rattle.std.specs.Prelude.{◌≡◌, ◌≢◌, ⊤, ℕ, ◌+◌, ◌%◌, ◌^◌, ◌≤◌, ◌<◌, Bool, true, false, if◌then◌else◌, List, [], ◌∷◌, length, Option, Some, None}
use Rattle.std.specs.List.{IsDistinct, AllByRecursion}
use Rattle.std.specs.Map.{keys_of}
use Rattle.tca_templates.specs.declared.source.Source.{Source}
use Rattle.tca_wire.specs.declared.message.SetSpan.{SetSpan}
use Rattle.tca_templates.specs.Templates.{Key, Templates, TemplateView, same_key, stays, known, shortest_of}
use Rattle.tca_templates.specs.Records.{FieldView, PlacedView}
use Rattle.tca_templates.specs.Reading.{ReadMessage, body_of, before}
use Rattle.tca_templates.specs.TemplateSets.{IsTemplateSet}
use Rattle.tca_templates.specs.DataSets.{IsDataSet, placed_behind}

-- No template gives its records no octet. So it is with the templates of every session: one that did would be refused.
abbrev pub HaveOctets : Templates → Type 0
HaveOctets [] = ⊤
HaveOctets (e ∷ es) = (0 < shortest_of e.1.specs) × HaveOctets es

-- What a session may know is a finite map from observation domain and identifier to a template: no two templates of one of these, at
-- most 4,096 over all domains, and each of at most 512 fields and with records that have an octet.
pub record IsSession (ts : Templates) : Type 0 where
  pub once : IsDistinct same_key (keys_of ts)
  pub few : length ts ≤ 4096
  pub fields : AllByRecursion (λ (e : Key × TemplateView). length e.1.specs ≤ 512) ts
  pub octets : HaveOctets ts

-- a template of an identifier, unless it is of this domain and kind
abbrev pub of_others : ℕ → Bool → Key → Option TemplateView → Option TemplateView
of_others domain options k None = None
of_others domain options k (Some t) = if stays domain options (k, t) then Some t else None

-- Records of the message's session and observation domain, the first of which has so many before it: each has the place of the sequence number
-- and the count of those before it, modulo 2^32.
abbrev pub ArePlaced : Source → ℕ → List PlacedView → Type 0
ArePlaced source i [] = ⊤
ArePlaced source i (r ∷ rs) = (r.session ≡ source.session) × (r.domain ≡ source.domain) × (r.place ≡ (source.sequence + i) % 2 ^ 32) × ArePlaced source (i + 1) rs

-- One set, and what has come of the message before it and with it.
pub data IsSet (source : Source) (octets : List ℕ) (given after : ReadMessage) (s : SetSpan) : Type 0 where
  -- A template set, of identifier 2.
  TemplateSet : s.id ≡ 2 → (ts : Templates) → IsTemplateSet source.domain false given.templates ts (body_of octets s)
      → after ≡ record given { templates = ts } → IsSet source octets given after s
  -- An options template set, of identifier 3.
  OptionsTemplateSet : s.id ≡ 3 → (ts : Templates) → IsTemplateSet source.domain true given.templates ts (body_of octets s)
      → after ≡ record given { templates = ts } → IsSet source octets given after s
  -- The other identifiers below 256 are skipped and counted.
  Skipped : s.id < 256 → s.id ≢ 2 → s.id ≢ 3 → after ≡ record given { skipped = given.skipped + 1 } → IsSet source octets given after s
  -- A data set of a template that is known by then.
  DataSet : 256 ≤ s.id → given.unplaced ≡ None → (t : TemplateView) → known (source.domain, s.id) given.templates ≡ Some t
      → (records : List (List FieldView)) → IsDataSet t records (body_of octets s)
      → after ≡ record given { records = placed_behind source t.options given.records records } → IsSet source octets given after s
  -- The first data set of a template that isn't known: how many records it has isn't known, so no record from here on has a place.
  Unplaced : 256 ≤ s.id → given.unplaced ≡ None → known (source.domain, s.id) given.templates ≡ None
      → after ≡ record given { unplaced = Some s.id } → IsSet source octets given after s
  -- Any data set behind it.
  Unread : 256 ≤ s.id → (id : ℕ) → given.unplaced ≡ Some id → after ≡ given → IsSet source octets given after s

-- What comes of these sets, one after the other.
pub record Then (source : Source) (octets : List ℕ) (given : ReadMessage) (s : SetSpan) (Others : ReadMessage → Type 0) : Type 0 where
  pub next : ReadMessage
  pub first : IsSet source octets given next s
  pub others : Others next

abbrev pub AreSets : Source → List ℕ → ReadMessage → List SetSpan → ReadMessage → Type 0
AreSets source octets given [] after = after ≡ given
AreSets source octets given (s ∷ ss) after = Then source octets given s (λ next. AreSets source octets next ss after)

-- A message of this source and these sets, read when these templates are known: its records in their order, the first data set
-- that has no known template, how many sets were skipped, and the templates after it.
abbrev pub IsReading : Templates → Source → List ℕ → List SetSpan → ReadMessage → Type 0
IsReading ts source octets sets after = AreSets source octets (before ts) sets after
