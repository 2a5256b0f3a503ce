-- What handing on the records of a message returns, as the definitions see it.
use Rattle.std.specs.Prelude.{◌≡◌, ◌≤◌, ℕ, List, length}
use Rattle.tca_templates.specs.declared.decoder.Handed.{Handed}
use Rattle.tca_templates.specs.Records.{PlacedView}
use Rattle.tca_templates.specs.Reading.{ReadMessage}

-- The session has its number as before and knows the templates after the message, the taker holds what its records give, and what else it had was counted. The records are
-- at most so many.
pub record IsHanded {T : Type 0} (took : T → List PlacedView → T → Type 0) (start now : T) (session most : ℕ) (handed : Handed) (given : ReadMessage) : Type 0 where
  pub number : handed.decoder.number ≡ session
  pub templates : given.templates ≡ handed.decoder.templates
  pub records : took start given.records now
  pub unplaced : given.unplaced ≡ handed.unplaced
  pub skipped : given.skipped ≡ handed.skipped
  pub few : length given.records ≤ most
