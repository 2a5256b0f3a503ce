-- What a taker holds where a message is refused: the records in front of the fault, or of the piece that memory is wanted for, each once and in their order.
use Rattle.std.specs.Prelude.{◌≡◌, ◌≢◌, ℕ, ◌+◌, ◌≤◌, List, ◌∷◌, ◌++◌, Some, None, Err}
use Rattle.tca_wire.specs.Walks.{Front, Ends, Bad, Next}
use Rattle.tca_wire.specs.declared.message.SetSpan.{SetSpan}
use Rattle.tca_templates.specs.declared.source.Source.{Source}
use Rattle.tca_templates.specs.declared.fault.DecodeFault.{DecodeFault}
use Rattle.tca_templates.specs.declared.fault.DecodeFault.TheVariants.{Memory}
use Rattle.tca_templates.specs.Templates.{Templates, TemplateView, known}
use Rattle.tca_templates.specs.Records.{PlacedView, data_front}
use Rattle.tca_templates.specs.Reading.{ReadMessage, body_of, set_of}
use Rattle.tca_templates.specs.Sessions.{IsReading}
use Rattle.tca_templates.specs.Wants.{Leads}

-- This fault stands here, or a piece that nothing is wrong with and that memory is wanted for.
abbrev pub IsStop : {S F : Type 0} → F → F → Front S F → Type 0
IsStop memory fault Ends = ⊥
IsStop memory fault (Bad f) = fault ≡ f
IsStop memory fault (Next t n) = fault ≡ memory

-- The pieces from the left, nothing of which is wrong, give this, and behind them it stops.
pub record StopsBehind {S F : Type 0} (front : S → ℕ → List ℕ → Front S F) (memory fault : F) (s : S) (at : ℕ) (octets : List ℕ) (come : S) : Type 0 where
  pub pieces : ℕ
  pub there : ℕ
  pub rest : List ℕ
  pub leads : Leads front pieces s at octets come there rest
  pub stop : IsStop memory fault (front come there rest)

-- The taker holds the records that came before those of these octets, and of these octets all that are in front of the fault.
pub record HoldsRecords {T : Type 0} (took : T → List PlacedView → T → Type 0) (start now : T) (source : Source) (t : TemplateView) (fault : DecodeFault) (first : List PlacedView) (at : ℕ) (octets : List ℕ) : Type 0 where
  pub records : List PlacedView
  pub stops : StopsBehind (data_front source t) Memory fault first at octets records
  pub held : took start records now

-- These are the records of the message in front of the fault in this set, when this has come of the message before it.
pub data AreInFront (source : Source) (octets : List ℕ) (given : ReadMessage) (s : SetSpan) (fault : DecodeFault) (records : List PlacedView) : Type 0 where
  -- A template set has none.
  OfTemplates : s.id ≡ 2 → records ≡ given.records → AreInFront source octets given s fault records
  -- An options template set has none.
  OfOptionsTemplates : s.id ≡ 3 → records ≡ given.records → AreInFront source octets given s fault records
  -- Of a data set all from the left, up to the fault.
  OfData : 256 ≤ s.id → given.unplaced ≡ None → (t : TemplateView) → known (source.domain, s.id) given.templates ≡ Some t
      → StopsBehind (data_front source t) Memory fault given.records (s.at + 4) (body_of octets s) records → AreInFront source octets given s fault records

-- The taker holds the records of the message in front of the fault in this set.
pub record HoldsInSet {T : Type 0} (took : T → List PlacedView → T → Type 0) (start now : T) (source : Source) (octets : List ℕ) (given : ReadMessage) (s : SetSpan) (fault : DecodeFault) : Type 0 where
  pub records : List PlacedView
  pub in_front : AreInFront source octets given s fault records
  pub held : took start records now

-- The sets before the refused one are a reading, and the taker holds its records and behind them those of the refused set that are in front
-- of the fault: each of them once, in their order, and none from the fault on.
pub record HoldsInFront {T : Type 0} (took : T → List PlacedView → T → Type 0) (start now : T) (ts : Templates) (source : Source) (octets : List ℕ) (sets : List SetSpan) (fault : DecodeFault) : Type 0 where
  pub before : List SetSpan
  pub set : SetSpan
  pub behind : List SetSpan
  pub given : ReadMessage
  pub whole : sets ≡ before ++ set ∷ behind
  pub read : IsReading ts source octets before given
  pub refused : fault ≢ Memory → set_of source octets given set ≡ Err fault
  pub holds : HoldsInSet took start now source octets given set fault
