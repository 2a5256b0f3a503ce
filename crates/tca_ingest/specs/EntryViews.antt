-- An entry as contracts see it.
use Rattle.std.specs.Prelude.{List, map}
use Rattle.tca_ingest.specs.Entries.{EntryView, Took as took, Absorbed as absorbed, Answered as answered, Asked as asked, Sent as sent}
use Rattle.tca_ingest.specs.declared.entry.Entry.{Entry}
use Rattle.tca_ingest.specs.declared.entry.Entry.TheVariants.{Took, Absorbed, Answered, Asked, Sent}

abbrev pub entry_view : Entry → EntryView
entry_view (Took pass reports fresh stop) = took pass reports fresh stop
entry_view (Absorbed pass runs result) = absorbed pass runs.items result
entry_view (Answered pass bill) = answered pass bill
entry_view (Asked pass summary) = asked pass summary
entry_view (Sent pass since delta) = sent pass since delta

abbrev pub entry_views : List Entry → List EntryView
entry_views es = map entry_view es
