use Rattle.std.proofs.Common.{◌≡◌, ◌∙◌, ℕ, List, ap, map, subst, length}
use Rattle.std.specs.Prelude.{IfErr}
use Rattle.std.specs.Borrow.{Bor}
use Rattle.std.proofs.lemmas.List.{length-map}
use Rattle.std.proofs.lemmas.Result.{IfOk-weaker}
use Rattle.std.proofs.lemmas.Slice.Zip.{AllZip-long}
use Rattle.tca_report.specs.declared.input.Input.{Input}
use Rattle.tca_program.specs.Reads.{IsReadRefused}
use Rattle.tca_program.specs.Words.{HaveSessions, IsSplit, texts}
use Rattle.tca_program.specs.declared.word.Asked.{Asked}
use Rattle.tca_program.proofs.Asking.{as_many, have_sessions}
use Rattle.tca_program.proofs.files.read_inputs.Goals as goal

abbrev sessions_asked : List Asked → List ℕ
sessions_asked = map (λ (a : Asked). a.session)

as_texts : (words : List (Bor (List ℕ))) → length (texts words) ≡ length words
as_texts words = length-map words (λ (b : Bor (List ℕ)). b.now)

pub returns-clause-sessions : goal.returns-clause-sessions
returns-clause-sessions g c =
    let words = texts c.args.words.now in
    IfOk-weaker c.read_asked.result (λ inputs. map (λ (i : Input). i.session) inputs.items ≡ sessions_asked c.deref.result.now) (λ inputs. HaveSessions words inputs.items)
    (λ inputs same. have_sessions words c.in_ok-asked.asked.items inputs.items c.in_ok-asked.ensures (same ∙ ap sessions_asked c.deref.ensures.value))
    c.read_asked.ensures.sessions

pub returns-clause-each : goal.returns-clause-each
returns-clause-each g c =
    let words = texts c.args.words.now in
    IfOk-weaker c.read_asked.result (λ inputs. HaveSessions words inputs.items) (λ inputs. length inputs.items ≡ length c.args.words.now)
    (λ inputs have. as_many words inputs.items have ∙ as_texts c.args.words.now) (returns-clause-sessions g c)

pub returns-clause-refused : goal.returns-clause-refused
returns-clause-refused g c =
    let words = texts c.args.words.now in
    let many : length c.deref.result.now ≡ length c.args.words.now =
    ap length c.deref.ensures.value ∙ AllZip-long (λ (w : List ℕ) (a : Asked). IsSplit w a.session a.path.now) words c.in_ok-asked.asked.items c.in_ok-asked.ensures ∙ as_texts c.args.words.now in
    subst (λ n. IfErr c.read_asked.result (IsReadRefused n)) many c.read_asked.ensures.refused
