use Rattle.std.proofs.lemmas.Grind.{common_steps}
use Rattle.std.proofs.Common.{◌≡◌, ℕ, List, [], Result, Ok, Err, inl, inr, sym, ap, ◌∙◌, arith}
use Rattle.std.specs.Prelude.{IfOk, OnErr}
use Rattle.tca_gossip.specs.Runs.{RunView}
use Rattle.tca_ingest.specs.Entries.{EntryView, Took, Absorbed, Answered, Asked, Sent, pass_of}
use Rattle.tca_ingest.specs.EntryViews.{entry_view}
use Rattle.tca_ingest.specs.Shares.{IsNoted, IsAbsorb, IsExchange, with_call}
use Rattle.tca_ingest.specs.Passes.{PassView}
use Rattle.tca_ingest.specs.declared.entry.Receipt.{Receipt}
use Rattle.tca_ingest.proofs.shared.exchange.Goals as goal

-- what holds anyway, of any error
on_err : {T E : Type 0} (r : Result T E) (P : Type 0) → P → OnErr r P
on_err (Ok x) P p = tt
on_err (Err e) P p = p

-- what follows from what holds of an error
err_so : {T E : Type 0} (r : Result T E) (P Q : Type 0) → (P → Q) → OnErr r P → OnErr r Q
err_so (Ok x) P Q f h = tt
err_so (Err e) P Q f h = f h

-- and from two facts of a value
ok_so : {T E : Type 0} (r : Result T E) (P Q R : T → Type 0) → ((x : T) → P x → Q x → R x) → IfOk r P → IfOk r Q → IfOk r R
ok_so (Ok x) P Q R f p q = f x p q
ok_so (Err e) P Q R f p q = tt

-- the runs of an entry of a delta
abbrev runs_sent : EntryView → List RunView
runs_sent (Took pass reports fresh stop) = []
runs_sent (Absorbed pass runs result) = []
runs_sent (Answered pass bill) = []
runs_sent (Asked pass summary) = []
runs_sent (Sent pass since delta) = delta

pub returns-in_err-sent-clause-err : goal.returns-in_err-sent-clause-err
returns-in_err-sent-clause-err g c =
    let asked = c.in_ok-asked.ensures.exact in
    on_err c.from_residual-in_err-sent.result _ (inr (asked.0, c.in_ok-asked.ensures.noted.calls ∙ ap (with_call c.args.mine.now) asked.1, inl c.in_err-sent.ensures.err))

pub returns-clause-ok : goal.returns-clause-ok
returns-clause-ok g c =
    let noted = c.in_ok-asked.ensures.noted in
    let entry : entry_view c.in_ok-asked.asked.entry ≡ Asked c.args.mine.now.number c.in-Asked.summary = ap entry_view c.in-Asked.is ∙ ap (λ (n : ℕ). Asked n c.in-Asked.summary) (sym (ap (λ e. pass_of (entry_view e)) c.in-Asked.is) ∙ noted.whose) in
    let mine : c.summary.new.mine ≡ with_call c.args.mine.now (Asked c.args.mine.now.number c.in-Asked.summary) = noted.calls ∙ ap (with_call c.args.mine.now) entry in
    let sent = c.in_ok-sent.ensures.exact in
    let entry_sent : entry_view c.in_ok-sent.sent.entry ≡ Sent c.args.theirs.now.number c.in-Asked.summary c.in-Sent.delta = sent.1 ∙ ap (λ (s : List (ℕ × ℕ)). Sent c.args.theirs.now.number s sent.0) c.in-Asked.summary-is ∙ ap (λ (d : List RunView). Sent c.args.theirs.now.number c.in-Asked.summary d) (sym (ap runs_sent sent.1) ∙ ap (λ e. runs_sent (entry_view e)) c.in-Sent.is) in
    let absorbed : IfOk c.absorb.result (λ (r : Receipt). IsAbsorb c.in-Sent.delta c.summary.new.mine.number (entry_view r.entry)) = rw c.in-Sent.delta-is at c.absorb.ensures.absorbed in
    ok_so c.absorb.result (λ (r : Receipt). IsNoted c.summary.new.mine c.absorb.new.mine (entry_view r.entry) r.front) (λ (r : Receipt). IsAbsorb c.in-Sent.delta c.summary.new.mine.number (entry_view r.entry)) (λ (r : Receipt). IsExchange c.args.mine.now c.absorb.new.mine c.args.theirs.now c.delta.new.mine (entry_view r.entry) r.front)
    (λ r n a.
    let is : entry_view r.entry ≡ Absorbed c.args.mine.now.number c.in-Sent.delta a.0 = a.1 ∙ ap (λ (m : PassView). Absorbed m.number c.in-Sent.delta a.0) mine in
    record {
      summary = c.in-Asked.summary;
      delta = c.in-Sent.delta;
      result = a.0;
      calls = n.calls ∙ (λ i. with_call (mine i) (is i));
      others = c.in_ok-sent.ensures.noted.calls ∙ ap (with_call c.args.theirs.now) entry_sent;
      entry = is;
      within = n.within;
    })
    c.absorb.ensures.noted absorbed

pub returns-clause-err : goal.returns-clause-err
returns-clause-err g c =
    let noted = c.in_ok-asked.ensures.noted in
    let asked : entry_view c.in_ok-asked.asked.entry ≡ Asked c.args.mine.now.number c.in-Asked.summary = ap entry_view c.in-Asked.is ∙ ap (λ (n : ℕ). Asked n c.in-Asked.summary) (sym (ap (λ e. pass_of (entry_view e)) c.in-Asked.is) ∙ noted.whose) in
    let sent = c.in_ok-sent.ensures.exact in
    err_so c.absorb.result _ _ (λ same. inr (c.in-Asked.summary, same ∙ noted.calls ∙ ap (with_call c.args.mine.now) asked, inr (sent.0, c.in_ok-sent.ensures.noted.calls ∙ ap (with_call c.args.theirs.now) (sent.1 ∙ ap (λ (s : List (ℕ × ℕ)). Sent c.args.theirs.now.number s sent.0) c.in-Asked.summary-is)))) c.absorb.ensures.err

pub returns-in_err-asked-clause-ok : goal.returns-in_err-asked-clause-ok
returns-in_err-asked-clause-ok g c = grind (arith, common_steps)

pub returns-in_err-asked-clause-fault : goal.returns-in_err-asked-clause-fault
returns-in_err-asked-clause-fault g c = grind (arith, common_steps)

pub returns-in_err-asked-clause-err : goal.returns-in_err-asked-clause-err
returns-in_err-asked-clause-err g c = grind (arith, common_steps)

pub unreachable-requires : goal.unreachable-requires
unreachable-requires g c = grind (arith, common_steps)

pub unreachable-unreachable : goal.unreachable-unreachable
unreachable-unreachable g c = grind (arith, common_steps)

pub returns-in_err-sent-clause-ok : goal.returns-in_err-sent-clause-ok
returns-in_err-sent-clause-ok g c = grind (arith, common_steps)

pub returns-in_err-sent-clause-fault : goal.returns-in_err-sent-clause-fault
returns-in_err-sent-clause-fault g c = grind (arith, common_steps)

pub unreachable-requires-in_default-entry : goal.unreachable-requires-in_default-entry
unreachable-requires-in_default-entry g c = grind (arith, common_steps)

pub unreachable-unreachable-in_default-entry : goal.unreachable-unreachable-in_default-entry
unreachable-unreachable-in_default-entry g c = grind (arith, common_steps)

pub returns-clause-fault : goal.returns-clause-fault
returns-clause-fault g c = grind (arith, common_steps)
