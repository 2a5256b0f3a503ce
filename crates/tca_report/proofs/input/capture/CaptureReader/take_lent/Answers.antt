use Rattle.std.proofs.lemmas.Grind.{common_steps}
use Rattle.std.proofs.Common.{◌≡◌, ◌∙◌, arith, ap, sym, subst, List, ℕ}
use Rattle.std.specs.Prelude.{Err}
use Rattle.std.specs.List.{AllByRecursion}
use Rattle.std.proofs.lemmas.Result.{err_from_is_err_and}
use Rattle.tca_wire.specs.Frames.{IsFrame, Feeds}
use Rattle.tca_wire.specs.declared.fault.WireFault.TheVariants as wire
use Rattle.tca_report.specs.declared.input.InputFault.{InputFault}
use Rattle.tca_report.specs.declared.input.InputFault.TheVariants.{Wire}
use Rattle.tca_report.proofs.lemmas.input.CapturePieces.{within_piece, read_on, stops_here, fails_here, each_brought, no_memory_behind}
use Rattle.tca_report.proofs.lemmas.input.CaptureWants.{wanted_in_piece}
use Rattle.tca_report.proofs.input.capture.CaptureReader.take_lent.Goals as goal

pub take_messages-requires-clause-within : goal.take_messages-requires-clause-within
take_messages-requires-clause-within c =
    let w = c.requires.within in
    let b = w.4 in
    let ms = c.messages.result in
    let feeds = subst (λ (l : List (List ℕ)). Feeds b.framer w.2 l w.3) (sym c.messages.ensures) b.feeds in
    omega (arith, w.5, within_piece w.0 w.1 w.2 b.framer w.3 c.args.self ms b.read feeds)

pub take_messages-requires-clause-frames : goal.take_messages-requires-clause-frames
take_messages-requires-clause-frames c =
    let w = c.requires.within in
    let b = w.4 in
    subst (λ (l : List (List ℕ)). AllByRecursion IsFrame l) (sym c.messages.ensures) (each_brought w.0 w.1 w.2 b.framer w.3 c.args.self _ b.read b.feeds)

pub returns-in_err-reader-clause-err : goal.returns-in_err-reader-clause-err
returns-in_err-reader-clause-err c = λ session octets piece behind after b.
    let ms = c.messages.result in
    let feeds = subst (λ (l : List (List ℕ)). Feeds b.framer piece l after) (sym c.messages.ensures) b.feeds in
    let p = err_from_is_err_and c.from_residual.result c.from_residual.ensures.1 in
    rw (p.1, p.2) (λ ne.
    stops_here session octets piece b.framer after c.args.self ms b.read feeds behind _ (c.in_err-reader.ensures.exact b.read.so_far b.read.agrees ne))

pub returns-in_err-reader-clause-wanted : goal.returns-in_err-reader-clause-wanted
returns-in_err-reader-clause-wanted c =
    let p = err_from_is_err_and c.from_residual.result c.from_residual.ensures.1 in
    rw (p.1, p.2) (λ session octets piece behind after b e.
    let ms = c.messages.result in
    let feeds = subst (λ (l : List (List ℕ)). Feeds b.framer piece l after) (sym c.messages.ensures) b.feeds in
    wanted_in_piece session octets piece b.framer after c.args.self ms b.read feeds behind (c.in_err-reader.ensures.wanted e b.read.so_far b.read.agrees))

pub returns-in-Some-clause-err : goal.returns-in-Some-clause-err
returns-in-Some-clause-err c = λ session octets piece behind after b ne.
    let ms = c.messages.result in
    let feeds = subst (λ (l : List (List ℕ)). Feeds b.framer piece l after) (sym c.messages.ensures) b.feeds in
    let now = c.in_ok-reader.ensures.exact b.read.so_far b.read.agrees in
    fails_here session octets piece b.framer after c.args.self ms b.read feeds behind c.in-Some.fault now.0 (sym b.fault ∙ c.in-Some.is) now.1
    ∙ ap (λ (n : ℕ). Err (Wire n c.in-Some.fault)) (sym c.in_ok-reader.ensures.at)
    ∙ ap (λ (e : InputFault). Err e) (sym (c.wire_fault.ensures.fault ne).1)

pub returns-in-Some-clause-wanted : goal.returns-in-Some-clause-wanted
returns-in-Some-clause-wanted c = λ session octets piece behind after b e.
    let is : c.in-Some.fault ≡ wire.Memory = c.wire_fault.ensures.memory cc in
    absurd (no_memory_behind session octets piece b.framer after c.args.self _ b.read b.feeds c.in-Some.fault (sym b.fault ∙ c.in-Some.is) is)

pub returns-in-None-clause-ok : goal.returns-in-None-clause-ok
returns-in-None-clause-ok c = λ session octets piece after b.
    let ms = c.messages.result in
    let feeds = subst (λ (l : List (List ℕ)). Feeds b.framer piece l after) (sym c.messages.ensures) b.feeds in
    let now = c.in_ok-reader.ensures.exact b.read.so_far b.read.agrees in
    read_on session octets piece b.framer after c.args.self ms b.read feeds c.in_ok-reader.reader now.0 (sym b.fault ∙ c.in-None.is) now.1 now.2 c.in_ok-reader.ensures.at

pub returns-in_err-reader-clause-ok : goal.returns-in_err-reader-clause-ok
returns-in_err-reader-clause-ok c = grind (arith, common_steps)

pub returns-in-Some-clause-ok : goal.returns-in-Some-clause-ok
returns-in-Some-clause-ok c = grind (arith, common_steps)

pub returns-in-None-clause-err : goal.returns-in-None-clause-err
returns-in-None-clause-err c = grind (arith, common_steps)

pub returns-in-None-clause-wanted : goal.returns-in-None-clause-wanted
returns-in-None-clause-wanted c = grind (arith, common_steps)
