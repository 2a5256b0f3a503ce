-- Where memory is wanted for a message: all that stands before is right, and so is the record that it is wanted for.
use Rattle.std.specs.Prelude.{◌≡◌, ℕ, zero, suc, ◌+◌, ◌≤◌, false, true, List, ◌∷◌, ◌++◌, drop, Some, None}
use Rattle.tca_wire.specs.Walks.{Front, Next}
use Rattle.tca_templates.specs.declared.source.Source.{Source}
use Rattle.tca_wire.specs.declared.message.SetSpan.{SetSpan}
use Rattle.tca_templates.specs.Templates.{Templates, TemplateView, known}
use Rattle.tca_templates.specs.Specifiers.{template_front}
use Rattle.tca_templates.specs.Records.{data_front}
use Rattle.tca_templates.specs.Reading.{ReadMessage, body_of}
use Rattle.tca_templates.specs.Sessions.{IsReading}
use Rattle.tca_templates.specs.Fields.{IsSound}

-- So many pieces from the left, nothing of which is wrong, lead to this place, and this is what has come by then.
abbrev pub Leads : {S F : Type 0} → (S → ℕ → List ℕ → Front S F) → ℕ → S → ℕ → List ℕ → S → ℕ → List ℕ → Type 0
Leads front zero s at octets t there rest = (s ≡ t) × (at ≡ there) × (octets ≡ rest)
Leads {S = S} front (suc k) s at octets t there rest = (u : S) × (n : ℕ) × (front s at octets ≡ Next u n) × Leads front k u (at + n) (drop n octets) t there rest

-- Nothing is wrong with some pieces from the left, and with one more behind them.
pub record IsWanted {S F : Type 0} (front : S → ℕ → List ℕ → Front S F) (s : S) (at : ℕ) (octets : List ℕ) : Type 0 where
  pub pieces : ℕ
  pub come : S
  pub there : ℕ
  pub rest : List ℕ
  pub leads : Leads front pieces s at octets come there rest
  pub sound : IsSound (front come there rest)

-- The set with that record, when this has come of the message before it.
pub data IsWantedInSet (source : Source) (octets : List ℕ) (given : ReadMessage) (s : SetSpan) : Type 0 where
  TemplateSet : s.id ≡ 2 → IsWanted (template_front source.domain false) given.templates (s.at + 4) (body_of octets s) → IsWantedInSet source octets given s
  OptionsTemplateSet : s.id ≡ 3 → IsWanted (template_front source.domain true) given.templates (s.at + 4) (body_of octets s) → IsWantedInSet source octets given s
  DataSet : 256 ≤ s.id → given.unplaced ≡ None → (t : TemplateView) → known (source.domain, s.id) given.templates ≡ Some t
      → IsWanted (data_front source t) given.records (s.at + 4) (body_of octets s) → IsWantedInSet source octets given s

-- The sets of a message before that one are a reading.
pub record WantsMemory (ts : Templates) (source : Source) (octets : List ℕ) (sets : List SetSpan) : Type 0 where
  pub before : List SetSpan
  pub set : SetSpan
  pub behind : List SetSpan
  pub given : ReadMessage
  pub whole : sets ≡ before ++ set ∷ behind
  pub read : IsReading ts source octets before given
  pub wanted : IsWantedInSet source octets given set
