use Rattle.std.proofs.Common.{◌≡◌, ◌≤◌, ◌<◌, [], length, take, drop, get_or, Ok}
use Rattle.tca_wire.proofs.Tiles.{blank_set}
use Rattle.tca_templates.specs.Reading.{ReadMessage, sets_on, read_of}
use Rattle.tca_templates.specs.Fields.{templates_of}
use Rattle.tca_templates.specs.Taking.{HasCome}
use Rattle.tca_templates.proofs.reading.read_sets.Given as goal

abbrev pub invariant-loop-set : goal.invariant-loop-set
invariant-loop-set g l = record {
  so_far : (start : _) → g.T.TakesRecords.took start [] l.fn.taker
      → (given : ReadMessage) × HasCome g.T.TakesRecords.took start l.taker l.templates l.aside given
      × (sets_on l.source l.message.octets.now given (drop l.set-index l.message.sets.items) ≡ read_of (templates_of l.fn.templates) l.source l.message.octets.now l.message.sets.items)
      × (read_of (templates_of l.fn.templates) l.source l.message.octets.now (take l.set-index l.message.sets.items) ≡ Ok given);
  few : l.set-index < length l.message.sets.items → l.aside.count ≤ (get_or l.message.sets.items l.set-index blank_set).at;
  bound : l.aside.count ≤ length l.message.octets.now;
  sets : l.set-index ≤ length l.message.sets.items;
  skipped : l.aside.skipped ≤ l.set-index;
  before : l.templates.before ≡ l.fn.templates.before;
}
