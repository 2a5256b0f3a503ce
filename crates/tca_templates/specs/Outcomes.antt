-- What a reading returns, as the definitions see it.
use Rattle.std.specs.Prelude.{map}
use Rattle.tca_templates.specs.declared.outcome.FieldValue.{FieldValue}
use Rattle.tca_templates.specs.declared.outcome.PlacedFields.{PlacedFields}
use Rattle.tca_templates.specs.declared.outcome.Outcome.{Outcome}
use Rattle.tca_templates.specs.Templates.{Templates}
use Rattle.tca_templates.specs.Records.{FieldView, PlacedView}
use Rattle.tca_templates.specs.Reading.{ReadMessage}

abbrev pub value_view : FieldValue → FieldView
value_view f = record { element = f.element; enterprise = f.enterprise; value = f.value.items }

abbrev pub placed_view : PlacedFields → PlacedView
placed_view r = record { session = r.session; domain = r.domain; place = r.place; options = r.options; fields = map value_view r.fields.items }

abbrev pub outcome_view : Templates → Outcome → ReadMessage
outcome_view ts o = record { templates = ts; records = map placed_view o.fields.items; unplaced = o.unplaced; skipped = o.skipped }
