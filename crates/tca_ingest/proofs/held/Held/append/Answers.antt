use Rattle.std.proofs.lemmas.Grind.{common_steps}
use Rattle.std.proofs.Common.{◌∷◌, [], length, ap, sym, ◌∙◌, arith}
use Rattle.std.proofs.lemmas.List.{length-append}
use Rattle.tca_ingest.specs.Entries.{pass_of}
use Rattle.tca_ingest.specs.Passes.{PassView}
use Rattle.tca_ingest.proofs.Replayed.{whose_noted}
use Rattle.tca_ingest.proofs.held.Held.append.Goals as goal

pub invariant_of-mine-2 : goal.invariant_of-mine-2
invariant_of-mine-2 g c = (
  c.note.ensures.share.1,
  c.note.ensures.share.0,
  omega (arith, ap length c.note.ensures.places ∙ length-append c.reserve.new.places.items (length c.reserve.new.journal.items ∷ []), c.note.ensures.grown, ap length c.reserve.ensures.places, ap length c.reserve.ensures.calls, c.mine.invariant.2),
  whose_noted c.mine.inside.number c.mine.inside.calls.items c.reserve.new.calls.items c.note.new.calls.items c.in_ok-entry.entry c.mine.invariant.3 c.reserve.ensures.calls c.note.ensures.calls (ap pass_of c.in_ok-entry.ensures ∙ c.requires.whose ∙ ap (λ (p : PassView). p.number) (sym c.mine.view_is)),
)

pub same-self : goal.same-self
same-self g c = grind (arith, common_steps)

pub returns-in_err-entry-clause-appends : goal.returns-in_err-entry-clause-appends
returns-in_err-entry-clause-appends g c = grind (arith, common_steps)

pub returns-in_err-entry-clause-exact : goal.returns-in_err-entry-clause-exact
returns-in_err-entry-clause-exact g c = grind (arith, common_steps)

pub returns-in_err-entry-clause-fault : goal.returns-in_err-entry-clause-fault
returns-in_err-entry-clause-fault g c = grind (arith, common_steps)

pub returns-in_err-entry-clause-err : goal.returns-in_err-entry-clause-err
returns-in_err-entry-clause-err g c = grind (arith, common_steps)

pub invariant_of-self : goal.invariant_of-self
invariant_of-self g c = grind (arith, common_steps)

pub returns-in_err-reserve-clause-appends : goal.returns-in_err-reserve-clause-appends
returns-in_err-reserve-clause-appends g c = grind (arith, common_steps)

pub returns-in_err-reserve-clause-exact : goal.returns-in_err-reserve-clause-exact
returns-in_err-reserve-clause-exact g c = grind (arith, common_steps)

pub returns-in_err-reserve-clause-fault : goal.returns-in_err-reserve-clause-fault
returns-in_err-reserve-clause-fault g c = grind (arith, common_steps)

pub returns-in_err-reserve-clause-err : goal.returns-in_err-reserve-clause-err
returns-in_err-reserve-clause-err g c = grind (arith, common_steps)

pub same-entry : goal.same-entry
same-entry g c = grind (arith, common_steps)

pub note-requires-clause-room : goal.note-requires-clause-room
note-requires-clause-room g c = grind (arith, common_steps)

pub note-requires-clause-counted : goal.note-requires-clause-counted
note-requires-clause-counted g c = grind (arith, common_steps)

pub invariant_of-self-2 : goal.invariant_of-self-2
invariant_of-self-2 g c = grind (arith, common_steps)

pub returns-clause-appends : goal.returns-clause-appends
returns-clause-appends g c = grind (arith, common_steps)

pub returns-clause-exact : goal.returns-clause-exact
returns-clause-exact g c = grind (arith, common_steps)
