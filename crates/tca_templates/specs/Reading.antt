-- The records of a message, and the templates after it.
use Rattle.std.specs.Prelude.{ℕ, ◌+◌, ◌==◌, nat_lt, true, false, if◌then◌else◌, List, [], ◌∷◌, take, drop, Option, Some, None, Result, Ok, Err}
use Rattle.tca_join.specs.Results.{◌>>=◌}
use Rattle.tca_wire.specs.Walks.{walk}
use Rattle.tca_templates.specs.declared.source.Source.{Source}
use Rattle.tca_wire.specs.declared.message.SetSpan.{SetSpan}
use Rattle.tca_templates.specs.declared.fault.DecodeFault.{DecodeFault}
use Rattle.tca_templates.specs.Templates.{Templates, TemplateView, known}
use Rattle.tca_templates.specs.Specifiers.{template_front}
use Rattle.tca_templates.specs.Records.{PlacedView, data_front}

-- what has come of a message so far
pub record ReadMessage : Type 0 where
  pub templates : Templates
  pub records : List PlacedView
  pub unplaced : Option ℕ
  pub skipped : ℕ

-- the templates behind a template set
abbrev pub with_templates : ReadMessage → Result Templates DecodeFault → Result ReadMessage DecodeFault
with_templates given (Ok ts) = Ok (record given { templates = ts })
with_templates given (Err f) = Err f

-- the records behind a data set
abbrev pub with_records : ReadMessage → Result (List PlacedView) DecodeFault → Result ReadMessage DecodeFault
with_records given (Ok rs) = Ok (record given { records = rs })
with_records given (Err f) = Err f

-- the octets of a set, behind its identifier and length
abbrev pub body_of : List ℕ → SetSpan → List ℕ
body_of octets s = drop (s.at + 4) (take (s.at + s.length) octets)

-- A data set: of a known template its records follow. From the first set of an unknown template on none is read.
abbrev pub data_of : Source → List ℕ → SetSpan → ReadMessage → Option ℕ → Option TemplateView → Result ReadMessage DecodeFault
data_of source octets s given (Some id) t = Ok given
data_of source octets s given None None = Ok (record given { unplaced = Some s.id })
data_of source octets s given None (Some t) = with_records given (walk (data_front source t) given.records (s.at + 4) (body_of octets s))

-- What a set does. The identifiers 0, 1 and 4 to 255 aren't used or are reserved (RFC 7011, section 3.3.2): their sets
-- are skipped and counted, wherever they stand. A set without records is accepted.
unfoldable pub set_of : Source → List ℕ → ReadMessage → SetSpan → Result ReadMessage DecodeFault
set_of source octets given s =
    if s.id == 2 then with_templates given (walk (template_front source.domain false) given.templates (s.at + 4) (body_of octets s))
    else (if s.id == 3 then with_templates given (walk (template_front source.domain true) given.templates (s.at + 4) (body_of octets s))
    else (if nat_lt s.id 256 then Ok (record given { skipped = given.skipped + 1 })
    else data_of source octets s given given.unplaced (known (source.domain, s.id) given.templates)))

-- The sets take effect one after the other, and none is read behind a fault.
unfoldable pub sets_on : Source → List ℕ → ReadMessage → List SetSpan → Result ReadMessage DecodeFault
sets_on source octets given [] = Ok given
sets_on source octets given (s ∷ ss) = set_of source octets given s >>= (λ more. sets_on source octets more ss)

-- before the first set
abbrev pub before : Templates → ReadMessage
before ts = record { templates = ts; records = []; unplaced = None; skipped = 0 }

-- what has come at the end of a message, or the first fault from the left
abbrev pub read_of : Templates → Source → List ℕ → List SetSpan → Result ReadMessage DecodeFault
read_of ts source octets sets = sets_on source octets (before ts) sets
