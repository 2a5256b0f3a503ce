use Rattle.std.proofs.Common.{◌≡◌, ◌∙◌, ℕ, List, Some, refl, sym, ap, subst, rules, arith, take, length}
use Rattle.std.specs.Io.KnownBytes.{Consumes}
use Rattle.std.specs.Prelude.{Ok, Err, OnOk, IfErr}
use Rattle.std.proofs.lemmas.Result.{err_from_is_err_and}
use Rattle.tca_wire.specs.Frames.{Holds, ending}
use Rattle.tca_wire.specs.declared.fault.WireFault.{WireFault}
use Rattle.tca_report.specs.device.Devices.{Rises}
use Rattle.tca_split.specs.Failures.{CountsWriteFault, CountsReadFault}
use Rattle.tca_split.specs.declared.fault.SplitFault.TheVariants.{Wire}
use Rattle.tca_split.specs.inside.Buffering.{buffered, IsSecondRefused}
use Rattle.tca_split.proofs.FrontSteps.{not_memory}
use Rattle.tca_split.proofs.OnResults.{ok_map, ok_of, err_of}
use Rattle.tca_split.proofs.PieceSteps.{read_none, read_more, stopped_begins, stopped_refused, so_far_begins, ended_takes, ended_right, ended_if_refused, counts_no_write, counts_no_read, stopped_reads, whole_piece}
use Rattle.tca_split.proofs.buffers.Buffers.take_all.Goals as goal

pub loop-turn-init : goal.loop-turn-init
loop-turn-init g c = record {
  room = c.requires.piece;
  few = omega (arith, c.args.held.ok.0, ap (λ (l : List ℕ). length l) c.requires.none);
  space = c.requires.room;
  same = λ d. refl;
  so_far = λ octets known. read_none octets _ _ _ _ known (ap (λ (l : List ℕ). Holds l) c.requires.none);
  calm = refl;
  quiet = refl;
  turns = omega arith;
}

pub loop-turn-preserved : goal.loop-turn-preserved
loop-turn-preserved g c =
    let slice = c.as_mut_slice.ensures in
    let kept : length c.read.new.into ≡ length c.loop-turn.piece.items = c.read.auto.into ∙ ap (λ (l : List ℕ). length l) slice.value in
    let all = whole_piece c.loop-turn.piece.len c.read.new.into c.loop-turn.piece.items kept (sym (ap (λ (l : List ℕ). length l) slice.value) ∙ slice.len) in
    record {
      room = ap (λ (l : List ℕ). length l) all ∙ kept ∙ c.loop-turn.invariant.room;
      few = c.in_ok-take_piece-in-Ok.ensures.few;
      space = omega (arith, c.loop-turn.invariant.space, c.in_ok-take_piece-in-Ok.ensures.room);
      same = λ d. c.in_ok-take_piece-in-Ok.ensures.same d ∙ c.loop-turn.invariant.same d;
      so_far = λ octets known. read_more octets _ _ _ _ _ _ (c.loop-turn.invariant.so_far octets known) _ _ _ _ _
          (subst (λ (l : List ℕ). Consumes (g.R.Read.left c.loop-turn.reader) (g.R.Read.left c.read.new.self) (take c.in-Ok.n l)) (sym (c.deref.ensures.value ∙ all)) c.in-Ok.ensures.octets.0)
          c.in_ok-take_piece-in-Ok.ensures.ok;
      calm = c.in_ok-take_piece-in-Ok.ensures.count ∙ c.loop-turn.invariant.calm;
      quiet = c.in-Ok.ensures.count ∙ c.loop-turn.invariant.quiet;
      turns = omega (arith, c.in-Ok.ensures.one, c.loop-turn.invariant.turns);
    }

pub returns-in-Ok-eq0-clause-same : goal.returns-in-Ok-eq0-clause-same
returns-in-Ok-eq0-clause-same g c = c.loop-turn.invariant.same

pub returns-in-Ok-eq0-clause-ok : goal.returns-in-Ok-eq0-clause-ok
returns-in-Ok-eq0-clause-ok g c =
    let kept : length c.read.new.into ≡ 65536 = c.read.auto.into ∙ ap (λ (l : List ℕ). length l) c.as_mut_slice.ensures.value ∙ c.loop-turn.invariant.room in
    ok_of _ c.finish.result (λ octets known. ended_takes octets _ _ _ _ _ _ (c.loop-turn.invariant.so_far octets known) _ _ (ap (λ n. take n c.read.new.into) c.in-Ok-eq0.field-0-test) c.in-Ok-eq0.ensures.octets.0
    (c.in-Ok-eq0.ensures.octets.1 c.in-Ok-eq0.field-0-test (omega (arith, kept))))

pub returns-in-Ok-eq0-clause-right : goal.returns-in-Ok-eq0-clause-right
returns-in-Ok-eq0-clause-right g c =
    let kept : length c.read.new.into ≡ 65536 = c.read.auto.into ∙ ap (λ (l : List ℕ). length l) c.as_mut_slice.ensures.value ∙ c.loop-turn.invariant.room in
    ok_map _ _ c.finish.result (λ e octets known. ended_right octets _ _ _ _ _ _ (c.loop-turn.invariant.so_far octets known) _ _ (ap (λ n. take n c.read.new.into) c.in-Ok-eq0.field-0-test)
    c.in-Ok-eq0.ensures.octets.0 (c.in-Ok-eq0.ensures.octets.1 c.in-Ok-eq0.field-0-test (omega (arith, kept))) e)
    (subst (λ (o : List ℕ). OnOk c.finish.result (ending (Holds o) ≡ Ok tt)) c.as_slice.ensures.value c.finish.ensures.right)

pub returns-in-Ok-eq0-clause-err : goal.returns-in-Ok-eq0-clause-err
returns-in-Ok-eq0-clause-err g c = err_of _ c.finish.result (λ octets known. so_far_begins octets _ _ _ _ _ _ (c.loop-turn.invariant.so_far octets known))

pub returns-in-Ok-eq0-clause-fault : goal.returns-in-Ok-eq0-clause-fault
returns-in-Ok-eq0-clause-fault g c =
    let kept : length c.read.new.into ≡ 65536 = c.read.auto.into ∙ ap (λ (l : List ℕ). length l) c.as_mut_slice.ensures.value ∙ c.loop-turn.invariant.room in
    ended_if_refused _ _ _ _ _ _ _ _ _ (c.finish.result) c.loop-turn.invariant.so_far (ap (λ n. take n c.read.new.into) c.in-Ok-eq0.field-0-test) c.in-Ok-eq0.ensures.octets.0
    (c.in-Ok-eq0.ensures.octets.1 c.in-Ok-eq0.field-0-test (omega (arith, kept)))
    (subst (λ (o : List ℕ). IfErr c.finish.result (λ e. (fault : WireFault) × (ending (Holds o) ≡ Err fault) × (e ≡ Wire fault))) c.as_slice.ensures.value c.finish.ensures.fault)

pub returns-in-Ok-eq0-clause-count : goal.returns-in-Ok-eq0-clause-count
returns-in-Ok-eq0-clause-count g c = counts_no_write c.finish.result (Holds c.as_slice.result.now) _ _ c.finish.ensures.fault c.loop-turn.invariant.calm

pub returns-in-Ok-eq0-clause-read : goal.returns-in-Ok-eq0-clause-read
returns-in-Ok-eq0-clause-read g c = counts_no_read c.finish.result (Holds c.as_slice.result.now) _ _ c.finish.ensures.fault (c.in-Ok-eq0.ensures.count ∙ c.loop-turn.invariant.quiet)

pub returns-in_err-take_piece-in-Ok-clause-same : goal.returns-in_err-take_piece-in-Ok-clause-same
returns-in_err-take_piece-in-Ok-clause-same g c = λ d. c.in_err-take_piece-in-Ok.ensures.same d ∙ c.loop-turn.invariant.same d

pub returns-in_err-take_piece-in-Ok-clause-err : goal.returns-in_err-take_piece-in-Ok-clause-err
returns-in_err-take_piece-in-Ok-clause-err g c =
    let slice = c.as_mut_slice.ensures in
    let kept : length c.read.new.into ≡ length c.loop-turn.piece.items = c.read.auto.into ∙ ap (λ (l : List ℕ). length l) slice.value in
    let all = whole_piece c.loop-turn.piece.len c.read.new.into c.loop-turn.piece.items kept (sym (ap (λ (l : List ℕ). length l) slice.value) ∙ slice.len) in
    let consumes = subst (λ (l : List ℕ). Consumes (g.R.Read.left c.loop-turn.reader) (g.R.Read.left c.read.new.self) (take c.in-Ok.n l)) (sym (c.deref.ensures.value ∙ all)) c.in-Ok.ensures.octets.0 in
    err_of _ c.from_residual.result
    (λ octets known. stopped_begins octets _ _ _ _ _ _ (c.loop-turn.invariant.so_far octets known) _ _ _ _ consumes c.in_err-take_piece-in-Ok.ensures.err)

pub returns-in_err-take_piece-in-Ok-clause-fault : goal.returns-in_err-take_piece-in-Ok-clause-fault
returns-in_err-take_piece-in-Ok-clause-fault g c =
    let slice = c.as_mut_slice.ensures in
    let kept : length c.read.new.into ≡ length c.loop-turn.piece.items = c.read.auto.into ∙ ap (λ (l : List ℕ). length l) slice.value in
    let all = whole_piece c.loop-turn.piece.len c.read.new.into c.loop-turn.piece.items kept (sym (ap (λ (l : List ℕ). length l) slice.value) ∙ slice.len) in
    let consumes = subst (λ (l : List ℕ). Consumes (g.R.Read.left c.loop-turn.reader) (g.R.Read.left c.read.new.self) (take c.in-Ok.n l)) (sym (c.deref.ensures.value ∙ all)) c.in-Ok.ensures.octets.0 in
    let refused : (octets : List ℕ) → g.R.Read.left c.args.reader.now ≡ Some octets → IsSecondRefused octets (buffered c.args.self.now) c.in_err-take_piece-in-Ok.field-0.0
    = λ octets known. stopped_refused octets _ _ _ _ _ _ (c.loop-turn.invariant.so_far octets known) _ _ _ _ c.loop-turn.invariant.same consumes c.in_err-take_piece-in-Ok.ensures.err in
    search rules

pub returns-in_err-take_piece-in-Ok-clause-count : goal.returns-in_err-take_piece-in-Ok-clause-count
returns-in_err-take_piece-in-Ok-clause-count g c =
    let count : CountsWriteFault c.in_err-take_piece-in-Ok.field-0.0 (g.F.Folder.failures c.args.folder.now) (g.F.Folder.failures c.take_piece.new.folder)
    = subst (λ n. CountsWriteFault c.in_err-take_piece-in-Ok.field-0.0 n (g.F.Folder.failures c.take_piece.new.folder)) c.loop-turn.invariant.calm c.in_err-take_piece-in-Ok.ensures.count in
    search rules

pub returns-in_err-take_piece-in-Ok-clause-read : goal.returns-in_err-take_piece-in-Ok-clause-read
returns-in_err-take_piece-in-Ok-clause-read g c =
    let count : CountsReadFault c.in_err-take_piece-in-Ok.field-0.0 (g.R.Read.failures c.args.reader.now) (g.R.Read.failures c.read.new.self)
    = stopped_reads _ _ _ _ _ _ _ _ c.in_err-take_piece-in-Ok.ensures.err (c.in-Ok.ensures.count ∙ c.loop-turn.invariant.quiet) in
    search rules

pub returns-in_err-take_piece-in-Ok-clause-memory : goal.returns-in_err-take_piece-in-Ok-clause-memory
returns-in_err-take_piece-in-Ok-clause-memory g c =
    let p = err_from_is_err_and c.from_residual.result c.from_residual.ensures.1 in
    rw (p.1, p.2) (not_memory _ _ _ _ _ _ c.in_err-take_piece-in-Ok.ensures.err)

pub returns-in-Err-clause-same : goal.returns-in-Err-clause-same
returns-in-Err-clause-same g c = c.loop-turn.invariant.same

pub returns-in-Err-clause-err : goal.returns-in-Err-clause-err
returns-in-Err-clause-err g c = λ octets known. so_far_begins octets _ _ _ _ _ _ (c.loop-turn.invariant.so_far octets known)

pub returns-in-Err-clause-count : goal.returns-in-Err-clause-count
returns-in-Err-clause-count g c = c.loop-turn.invariant.calm

pub returns-in-Err-clause-read : goal.returns-in-Err-clause-read
returns-in-Err-clause-read g c = subst (λ n. Rises n (g.R.Read.failures c.read.new.self)) c.loop-turn.invariant.quiet c.in-Err.ensures.count

pub returns-clause-same : goal.returns-clause-same
returns-clause-same g c = c.loop-turn.invariant.same

pub returns-clause-err : goal.returns-clause-err
returns-clause-err g c = λ octets known. so_far_begins octets _ _ _ _ _ _ (c.loop-turn.invariant.so_far octets known)

pub returns-clause-count : goal.returns-clause-count
returns-clause-count g c = c.loop-turn.invariant.calm

pub returns-clause-read : goal.returns-clause-read
returns-clause-read g c = c.loop-turn.invariant.quiet

pub returns-clause-turns : goal.returns-clause-turns
returns-clause-turns g c is = omega (arith, c.loop-turn.invariant.turns)
