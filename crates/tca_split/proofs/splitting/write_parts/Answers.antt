use Rattle.std.proofs.Common.{refl}
use Rattle.std.proofs.lemmas.Result.{err_from_is_err_and}
use Rattle.tca_split.specs.inside.Buffering.{buffered}
use Rattle.tca_split.proofs.PartSteps.{nothing_begun, making_begun, reading_begun, emptying_begun, all_split}
use Rattle.tca_split.proofs.Refusals.{no_want, second_refused, write_no_want}
use Rattle.tca_split.proofs.splitting.write_parts.Goals as goal

pub returns-in_err-buffers-clause-err : goal.returns-in_err-buffers-clause-err
returns-in_err-buffers-clause-err g c =
    let p = err_from_is_err_and c.from_residual.result c.from_residual.ensures.1 in
    rw (p.1) (λ octets files read known own free. nothing_begun octets files (g.F.Folder.files c.args.folder.now) known)

pub returns-in_err-piece-clause-err : goal.returns-in_err-piece-clause-err
returns-in_err-piece-clause-err g c =
    let p = err_from_is_err_and c.from_residual-in_err-piece.result c.from_residual-in_err-piece.ensures.1 in
    rw (p.1) (λ octets files read known own free. nothing_begun octets files (g.F.Folder.files c.args.folder.now) known)

pub returns-in_err-held-clause-err : goal.returns-in_err-held-clause-err
returns-in_err-held-clause-err g c =
    let p = err_from_is_err_and c.from_residual-in_err-held.result c.from_residual-in_err-held.ensures.1 in
    rw (p.1) (λ octets files read known own free. nothing_begun octets files (g.F.Folder.files c.args.folder.now) known)

pub returns-in_err-create_all-clause-memory : goal.returns-in_err-create_all-clause-memory
returns-in_err-create_all-clause-memory g c =
    let p = err_from_is_err_and c.from_residual-in_err-create_all.result c.from_residual-in_err-create_all.ensures.1 in
    rw (p.1, p.2) (λ told. no_want _ c.in_err-create_all.field-0.0 _ _ refl (write_no_want _ c.in_err-create_all.ensures.fault) told)

pub returns-in_err-take_all-clause-memory : goal.returns-in_err-take_all-clause-memory
returns-in_err-take_all-clause-memory g c =
    let p = err_from_is_err_and c.from_residual-in_err-take_all.result c.from_residual-in_err-take_all.ensures.1 in
    rw (p.1, p.2) (λ told. no_want _ c.in_err-take_all.field-0.0 _ _ refl c.in_err-take_all.ensures.memory told)

pub returns-in_err-empty-clause-memory : goal.returns-in_err-empty-clause-memory
returns-in_err-empty-clause-memory g c =
    let p = err_from_is_err_and c.from_residual-in_err-empty.result c.from_residual-in_err-empty.ensures.1 in
    rw (p.1, p.2) (λ told. no_want _ c.in_err-empty.field-0.0 _ _ refl (write_no_want _ c.in_err-empty.ensures.fault) told)

pub returns-in_err-create_all-clause-err : goal.returns-in_err-create_all-clause-err
returns-in_err-create_all-clause-err g c =
    let p = err_from_is_err_and c.from_residual-in_err-create_all.result c.from_residual-in_err-create_all.ensures.1 in
    rw (p.1) (λ octets files read known own free.
    making_begun octets c.args.domains.now files (g.F.Folder.files c.args.folder.now) (g.F.Folder.files c.create_all.new.folder) own known c.in_err-create_all.ensures.part)

pub returns-in_err-take_all-clause-err : goal.returns-in_err-take_all-clause-err
returns-in_err-take_all-clause-err g c =
    let p = err_from_is_err_and c.from_residual-in_err-take_all.result c.from_residual-in_err-take_all.ensures.1 in
    rw (p.1) (λ octets files read known own free.
    reading_begun octets c.args.domains.now (buffered c.in_ok-buffers.buffers) files (g.F.Folder.files c.args.folder.now) (g.F.Folder.files c.create_all.new.folder) (g.F.Folder.files c.take_all.new.folder) own known
    c.in_ok-create_all.ensures.all c.in_ok-buffers.ensures (c.in_err-take_all.ensures.err octets read))

pub returns-in_err-take_all-clause-fault : goal.returns-in_err-take_all-clause-fault
returns-in_err-take_all-clause-fault g c =
    let p = err_from_is_err_and c.from_residual-in_err-take_all.result c.from_residual-in_err-take_all.ensures.1 in
    rw (p.1, p.2) (λ octets read own.
    second_refused octets c.args.domains.now (buffered c.in_ok-buffers.buffers) c.in_err-take_all.field-0.0 own c.in_ok-buffers.ensures (c.in_err-take_all.ensures.fault octets read))

pub returns-in_err-empty-clause-err : goal.returns-in_err-empty-clause-err
returns-in_err-empty-clause-err g c =
    let p = err_from_is_err_and c.from_residual-in_err-empty.result c.from_residual-in_err-empty.ensures.1 in
    rw (p.1) (λ octets files read known own free.
    emptying_begun octets c.args.domains.now (buffered c.in_ok-buffers.buffers) (buffered c.take_all.new.self) files (g.F.Folder.files c.args.folder.now) (g.F.Folder.files c.create_all.new.folder)
    (g.F.Folder.files c.take_all.new.folder) (g.F.Folder.files c.empty.new.folder) own known c.in_ok-create_all.ensures.all c.in_ok-buffers.ensures (c.in_ok-take_all.ensures.ok octets read) c.in_err-empty.ensures.err)

pub returns-clause-ok : goal.returns-clause-ok
returns-clause-ok g c = λ octets files read known own.
    all_split octets c.args.domains.now (buffered c.in_ok-buffers.buffers) (buffered c.take_all.new.self) (buffered c.empty.new.self) files (g.F.Folder.files c.args.folder.now) (g.F.Folder.files c.create_all.new.folder)
    (g.F.Folder.files c.take_all.new.folder) (g.F.Folder.files c.empty.new.folder) own known c.in_ok-create_all.ensures.all c.in_ok-buffers.ensures (c.in_ok-take_all.ensures.ok octets read) c.in_ok-empty.ensures.ok c.in_ok-empty.ensures.empty
