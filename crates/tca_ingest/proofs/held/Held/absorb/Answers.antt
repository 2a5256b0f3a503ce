use Rattle.std.proofs.lemmas.Grind.{common_steps}
use Rattle.std.proofs.Common.{◌∷◌, [], length, ap, ◌∙◌, arith}
use Rattle.std.proofs.lemmas.List.{length-append}
use Rattle.tca_ingest.specs.Entries.{Absorbed, pass_of}
use Rattle.tca_ingest.specs.EntryViews.{entry_views}
use Rattle.tca_ingest.proofs.Histories.{push_absorbed}
use Rattle.tca_ingest.proofs.Replayed.{history_noted, whose_noted}
use Rattle.tca_ingest.proofs.held.Held.absorb.Goals as goal

pub invariant_of-self-2 : goal.invariant_of-self-2
invariant_of-self-2 g c =
    let plan = g.L.Side.plan in
    let name = g.L.Side.called in
    let answer = c.absorb-answer.result in
    let number = c.mine.inside.number in
    let runs = c.args.delta.now in
    let given = c.into_entries-entry.result in
    let old = c.self.inside.journal.items in (
      history_noted plan name c.absorb-answer.new.self old c.reserve.new.journal.items c.note.new.journal.items given (Absorbed number runs answer)
          (push_absorbed plan name c.self.inside.replica (entry_views old) c.self.invariant.0 c.absorb-answer.new.self number runs answer c.absorb-answer.ensures.state c.absorb-answer.ensures.outcome c.absorb-answer.ensures.stop)
          c.reserve.ensures.journal c.note.ensures.journal (c.into_entries-entry.ensures ∙ ap (λ rs. Absorbed number rs answer) (c.in_ok-copies.ensures ∙ c.runs.ensures.all)),
      c.note.ensures.book,
      c.self.invariant.2,
      c.self.invariant.3,
    )

pub invariant_of-mine-2 : goal.invariant_of-mine-2
invariant_of-mine-2 g c = (
  c.note.ensures.share.1,
  c.note.ensures.share.0,
  omega (arith, ap length c.note.ensures.places ∙ length-append c.reserve.new.places.items (length c.reserve.new.journal.items ∷ []), c.note.ensures.grown, ap length c.reserve.ensures.places, ap length c.reserve.ensures.calls, c.mine.invariant.2),
  whose_noted c.mine.inside.number c.mine.inside.calls.items c.reserve.new.calls.items c.note.new.calls.items c.into_entries-entry.result c.mine.invariant.3 c.reserve.ensures.calls c.note.ensures.calls (ap pass_of c.into_entries-entry.ensures),
)

pub returns-clause-absorbed : goal.returns-clause-absorbed
returns-clause-absorbed g c =
    let answer = c.absorb-answer.result in
    let number = c.mine.inside.number in
    rw (← c.self.view_is, ← c.mine.view_is) (record {
      result = answer;
      entry = c.note.ensures.entry ∙ c.into_entries-entry.ensures ∙ ap (λ rs. Absorbed number rs answer) (c.in_ok-copies.ensures ∙ c.runs.ensures.all);
      outcome = c.absorb-answer.ensures.outcome;
      stop = c.absorb-answer.ensures.stop;
    })

pub same-self : goal.same-self
same-self g c = grind (arith, common_steps)

pub returns-then-is_full-clause-full : goal.returns-then-is_full-clause-full
returns-then-is_full-clause-full g c = grind (arith, common_steps)

pub returns-then-is_full-clause-fault : goal.returns-then-is_full-clause-fault
returns-then-is_full-clause-fault g c = grind (arith, common_steps)

pub returns-then-is_full-clause-err : goal.returns-then-is_full-clause-err
returns-then-is_full-clause-err g c = grind (arith, common_steps)

pub same-self-in_err-copies : goal.same-self-in_err-copies
same-self-in_err-copies g c = grind (arith, common_steps)

pub returns-in_err-copies-clause-appends : goal.returns-in_err-copies-clause-appends
returns-in_err-copies-clause-appends g c = grind (arith, common_steps)

pub returns-in_err-copies-clause-absorbed : goal.returns-in_err-copies-clause-absorbed
returns-in_err-copies-clause-absorbed g c = grind (arith, common_steps)

pub returns-in_err-copies-clause-full : goal.returns-in_err-copies-clause-full
returns-in_err-copies-clause-full g c = grind (arith, common_steps)

pub returns-in_err-copies-clause-fault : goal.returns-in_err-copies-clause-fault
returns-in_err-copies-clause-fault g c = grind (arith, common_steps)

pub returns-in_err-copies-clause-err : goal.returns-in_err-copies-clause-err
returns-in_err-copies-clause-err g c = grind (arith, common_steps)

pub invariant_of-self : goal.invariant_of-self
invariant_of-self g c = grind (arith, common_steps)

pub returns-in_err-reserve-clause-appends : goal.returns-in_err-reserve-clause-appends
returns-in_err-reserve-clause-appends g c = grind (arith, common_steps)

pub returns-in_err-reserve-clause-absorbed : goal.returns-in_err-reserve-clause-absorbed
returns-in_err-reserve-clause-absorbed g c = grind (arith, common_steps)

pub returns-in_err-reserve-clause-full : goal.returns-in_err-reserve-clause-full
returns-in_err-reserve-clause-full g c = grind (arith, common_steps)

pub returns-in_err-reserve-clause-fault : goal.returns-in_err-reserve-clause-fault
returns-in_err-reserve-clause-fault g c = grind (arith, common_steps)

pub returns-in_err-reserve-clause-err : goal.returns-in_err-reserve-clause-err
returns-in_err-reserve-clause-err g c = grind (arith, common_steps)

pub same-copies : goal.same-copies
same-copies g c = grind (arith, common_steps)

pub note-requires-clause-room : goal.note-requires-clause-room
note-requires-clause-room g c = grind (arith, common_steps)

pub note-requires-clause-counted : goal.note-requires-clause-counted
note-requires-clause-counted g c = grind (arith, common_steps)

pub returns-clause-appends : goal.returns-clause-appends
returns-clause-appends g c = grind (arith, common_steps)

pub returns-clause-full : goal.returns-clause-full
returns-clause-full g c = grind (arith, common_steps)
