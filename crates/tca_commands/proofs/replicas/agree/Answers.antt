use Rattle.std.proofs.Common.{◌≡◌, ◌∙◌, ◌++◌, List, [], ◌∷◌, true, is_ok, length, map, take, drop, ap, sym, subst}
use Rattle.std.specs.List.{AllPairs}
use Rattle.std.proofs.Math.Seq.{take-append_seam}
use Rattle.std.proofs.lemmas.List.{length-map}
use Rattle.tca_ingest.specs.Closed.{AgreeAll, ClosedView, replicas_of}
use Rattle.tca_commands.specs.inside.Absorbs.{closed_with}
use Rattle.tca_commands.proofs.replicas.agree.Goals as goal

pub returns-clause-agreed : goal.returns-clause-agreed
returns-clause-agreed c =
    let others = c.args.others.items in
    let now = c.tell_all.new.others in
    let all : now ≡ map (closed_with c.args.first.replica) others =
    c.in_ok-tell_all.ensures.told
    ∙ ap (λ (v : ClosedView). map (closed_with v.replica) c.deref_mut.result.now) c.first.view_is
    ∙ ap (λ (cs : List ClosedView). map (closed_with c.args.first.replica) cs) c.deref_mut.ensures.value in
    let many : c.args.others.len ≡ length others = c.args.others.ok.0 in
    let kept : take c.args.others.len (now ++ drop (length now) others) ≡ now =
    ap (λ n. take n (now ++ drop (length now) others)) (many ∙ sym (ap length all ∙ length-map others (closed_with c.args.first.replica)))
    ∙ take-append_seam now (drop (length now) others) in
    let told = c.is_err.ensures in
    let room : is_ok c.push.result ≡ true = search (told.negation, c.if-is_err.false) in
    let pushed : c.push.new.self.items ≡ now ++ c.args.first ∷ [] = (rw room at c.push.ensures.items) ∙ ap (λ (cs : List ClosedView). cs ++ c.args.first ∷ []) kept in
    record {
      each = pushed ∙ ap (λ (cs : List ClosedView). cs ++ c.args.first ∷ []) all;
      agree = subst (λ (cs : List ClosedView). AllPairs AgreeAll (replicas_of cs)) c.deref.ensures.value c.in_ok-close_all.ensures.ok;
    }
