use Rattle.std.proofs.Common.{◌≡◌, ◌<◌, ◌+◌, ◌*◌, ℕ, length, min, drop}
use Rattle.tca_ingest.specs.Works.{AreLentResults}
use Rattle.tca_commands.specs.Replicated.{answers_of}
use Rattle.tca_commands.proofs.ShareLaws.{put_from}
use Rattle.tca_commands.proofs.answers.put_answers.Given as goal

-- those left are the results of the inputs that are left, and put from here on they complete the places; there was a place for each so far
abbrev pub invariant-loop-input : goal.invariant-loop-input
invariant-loop-input l = record {
  results : AreLentResults (drop l.input-index l.share) l.left.items;
  at : l.at ≡ min (l.first + l.input-index * l.step) 18446744073709551615;
  many : length l.places.items ≡ length l.initial.places.items;
  inside : (k : ℕ) → k < l.input-index → l.first + k * l.step < length l.initial.places.items;
  whole : put_from (l.first + l.input-index * l.step) l.step l.places.items (answers_of (drop l.input-index l.share) l.left.items) ≡ put_from l.first l.step l.initial.places.items (answers_of l.share l.fn.done.items);
}
