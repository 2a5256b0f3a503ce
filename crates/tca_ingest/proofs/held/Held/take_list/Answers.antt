use Rattle.std.proofs.lemmas.Grind.{common_steps}
use Rattle.std.proofs.Common.{◌∷◌, [], take, length, ap, ◌≡◌, ◌∙◌, arith}
use Rattle.std.proofs.lemmas.List.{length-append}
use Rattle.tca_ingest.specs.Entries.{Took, pass_of}
use Rattle.tca_ingest.specs.EntryViews.{entry_views}
use Rattle.tca_ingest.proofs.Histories.{push_took}
use Rattle.tca_ingest.proofs.Replayed.{history_noted, whose_noted}
use Rattle.tca_ingest.proofs.held.Held.take_list.Goals as goal

pub invariant_of-self-2 : goal.invariant_of-self-2
invariant_of-self-2 g c =
    let plan = g.L.Side.plan in
    let name = g.L.Side.called in
    let t = c.take_shared-taken.result in
    let number = c.mine.inside.number in
    let copies = c.in_ok-copies.copies in
    let read = c.in_ok-list.ensures in
    let given = c.into_entries-entry.result in
    let old = c.self.inside.journal.items in (
      history_noted plan name c.take_shared-taken.new.self old c.reserve.new.journal.items c.note.new.journal.items given (Took number (take t.taken copies) t.fresh t.stop)
          (push_took plan name c.self.inside.replica (entry_views old) c.self.invariant.0 c.take_shared-taken.new.self number copies t.taken t.fresh t.stop (rw read at c.take_shared-taken.ensures.state) (rw read at c.take_shared-taken.ensures.fresh) (rw read at c.take_shared-taken.ensures.stop))
          c.reserve.ensures.journal c.note.ensures.journal c.into_entries-entry.ensures,
      c.note.ensures.book,
      c.self.invariant.2,
      c.self.invariant.3,
    )

pub invariant_of-mine-2 : goal.invariant_of-mine-2
invariant_of-mine-2 g c = (
  c.note.ensures.share.1,
  c.note.ensures.share.0,
  omega (arith, ap length c.note.ensures.places ∙ length-append c.reserve.new.places.items (length c.reserve.new.journal.items ∷ []), c.note.ensures.grown, ap length c.reserve.ensures.places, ap length c.reserve.ensures.calls, c.mine.invariant.2),
  whose_noted c.mine.inside.number c.mine.inside.calls.items c.reserve.new.calls.items c.note.new.calls.items c.into_entries-entry.result c.mine.invariant.3 c.reserve.ensures.calls c.note.ensures.calls (ap pass_of c.into_entries-entry.ensures),
)

pub returns-clause-took : goal.returns-clause-took
returns-clause-took g c =
    let t = c.take_shared-taken.result in
    let number = c.mine.inside.number in
    let given : c.in_ok-list.list ≡ c.args.reports = c.in_ok-list.ensures ∙ c.in_ok-copies.ensures in
    rw (← c.mine.view_is) (record {
      taken = t.taken;
      fresh = t.fresh;
      stop = t.stop;
      entry = c.note.ensures.entry ∙ c.into_entries-entry.ensures ∙ ap (λ rs. Took number (take t.taken rs) t.fresh t.stop) c.in_ok-copies.ensures;
      within = rw given at c.take_shared-taken.ensures.within;
      stops = rw given at c.take_shared-taken.ensures.stop;
    })

pub same-self : goal.same-self
same-self g c = grind (arith, common_steps)

pub returns-then-is_full-clause-full : goal.returns-then-is_full-clause-full
returns-then-is_full-clause-full g c = grind (arith, common_steps)

pub returns-then-is_full-clause-fault : goal.returns-then-is_full-clause-fault
returns-then-is_full-clause-fault g c = grind (arith, common_steps)

pub returns-then-is_full-clause-err : goal.returns-then-is_full-clause-err
returns-then-is_full-clause-err g c = grind (arith, common_steps)

pub same-self-in_err-copies : goal.same-self-in_err-copies
same-self-in_err-copies g c = grind (arith, common_steps)

pub returns-in_err-copies-clause-appends : goal.returns-in_err-copies-clause-appends
returns-in_err-copies-clause-appends g c = grind (arith, common_steps)

pub returns-in_err-copies-clause-took : goal.returns-in_err-copies-clause-took
returns-in_err-copies-clause-took g c = grind (arith, common_steps)

pub returns-in_err-copies-clause-full : goal.returns-in_err-copies-clause-full
returns-in_err-copies-clause-full g c = grind (arith, common_steps)

pub returns-in_err-copies-clause-fault : goal.returns-in_err-copies-clause-fault
returns-in_err-copies-clause-fault g c = grind (arith, common_steps)

pub returns-in_err-copies-clause-err : goal.returns-in_err-copies-clause-err
returns-in_err-copies-clause-err g c = grind (arith, common_steps)

pub invariant_of-self : goal.invariant_of-self
invariant_of-self g c = grind (arith, common_steps)

pub returns-in_err-reserve-clause-appends : goal.returns-in_err-reserve-clause-appends
returns-in_err-reserve-clause-appends g c = grind (arith, common_steps)

pub returns-in_err-reserve-clause-took : goal.returns-in_err-reserve-clause-took
returns-in_err-reserve-clause-took g c = grind (arith, common_steps)

pub returns-in_err-reserve-clause-full : goal.returns-in_err-reserve-clause-full
returns-in_err-reserve-clause-full g c = grind (arith, common_steps)

pub returns-in_err-reserve-clause-fault : goal.returns-in_err-reserve-clause-fault
returns-in_err-reserve-clause-fault g c = grind (arith, common_steps)

pub returns-in_err-reserve-clause-err : goal.returns-in_err-reserve-clause-err
returns-in_err-reserve-clause-err g c = grind (arith, common_steps)

pub same-copies : goal.same-copies
same-copies g c = grind (arith, common_steps)

pub into_entries-entry-requires : goal.into_entries-entry-requires
into_entries-entry-requires g c = grind (arith, common_steps)

pub note-requires-clause-room : goal.note-requires-clause-room
note-requires-clause-room g c = grind (arith, common_steps)

pub note-requires-clause-counted : goal.note-requires-clause-counted
note-requires-clause-counted g c = grind (arith, common_steps)

pub returns-clause-appends : goal.returns-clause-appends
returns-clause-appends g c = grind (arith, common_steps)

pub returns-clause-full : goal.returns-clause-full
returns-clause-full g c = grind (arith, common_steps)
