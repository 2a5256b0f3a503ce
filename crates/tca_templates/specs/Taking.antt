-- What comes of a message whose records are handed, one after the other, to a taker, which says by a relation of its own what it made of
-- them.
use Rattle.std.specs.Prelude.{◌≡◌, ◌≢◌, ℕ, List, length, Result, Ok, Err}
use Rattle.tca_templates.specs.declared.reading.Aside.{Aside}
use Rattle.tca_templates.specs.Records.{PlacedView}
use Rattle.tca_templates.specs.Reading.{ReadMessage}
use Rattle.tca_templates.specs.Fields.{SlotsView, templates_of}

-- What a call returned stands in this relation to what the definition gives, unless memory ran out.
abbrev pub GivesAs : {X Y F : Type 0} → F → (X → Y → Type 0) → Result X F → Result Y F → Type 0
GivesAs {Y = Y} memory Is (Ok x) given = (y : Y) × (given ≡ Ok y) × Is x y
GivesAs memory Is (Err e) given = e ≢ memory → given ≡ Err e

-- The taker holds what these records give, of which there are so many.
abbrev pub Took : {T : Type 0} → (T → List PlacedView → T → Type 0) → T → T → ℕ → List PlacedView → Type 0
Took took start now count records = took start records now × (length records ≡ count)

-- What has come of a message, as the code and the taker hold it.
pub record HasCome {T : Type 0} (took : T → List PlacedView → T → Type 0) (start now : T) (entries : SlotsView) (aside : Aside) (given : ReadMessage) : Type 0 where
  pub templates : given.templates ≡ templates_of entries
  pub records : took start given.records now
  pub count : length given.records ≡ aside.count
  pub unplaced : given.unplaced ≡ aside.unplaced
  pub skipped : given.skipped ≡ aside.skipped
