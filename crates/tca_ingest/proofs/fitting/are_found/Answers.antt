use Rattle.std.proofs.Common.{◌≡◌, ◌≢◌, ◌<◌, ◌∙◌, ap, arith, false, get_or, length, length-set, set, subst, sym, true}
use Rattle.std.specs.List.{All, AllPairs}
use Rattle.std.proofs.lemmas.List.{take_all}
use Rattle.tca_ingest.specs.EntryViews.{entry_views}
use Rattle.tca_ingest.specs.Passes.{IsFound, PassView}
use Rattle.tca_ingest.proofs.Matches.{apart_more, each_more, now_given, still_given}
use Rattle.tca_ingest.proofs.fitting.are_found.Goals as goal

twice : true ≡ false → ⊥
twice e = cc

pub loop-pass-preserved : goal.loop-pass-preserved
loop-pass-preserved g c =
    let passes = c.args.passes.now in
    let l = c.loop-pass in
    let x : PassView = c.pass-item.result in
    let n = c.number-number.result in
    let is : x.number ≡ n = sym c.number-number.ensures in
    let low : n < length l.given = omega (arith, c.if-number-ge-NUMBERS.false, l.invariant.numbers) in
    let free : get_or l.given n false ≡ false = c.if-given-number.false in
    record {
      numbers = length-set l.given n true ∙ l.invariant.numbers;
      marked = each_more (λ (p : PassView). get_or (set l.given n true) p.number false ≡ true) passes l.pass-index x c.loop-pass-test.true c.pass-item.is (λ k d under. still_given l.given n _ (l.invariant.marked k d under)) (now_given l.given n x.number low is);
      apart = apart_more (λ (p q : PassView). p.number ≢ q.number) passes l.pass-index x c.loop-pass-test.true c.pass-item.is l.invariant.apart (λ k d under same. twice (sym (l.invariant.marked k d under) ∙ ap (λ m. get_or l.given m false) (same ∙ is) ∙ free));
      found = each_more (IsFound (entry_views c.args.journal.now)) passes l.pass-index x c.loop-pass-test.true c.pass-item.is l.invariant.found (c.is_found.ensures c.if-not-is_found.false);
    }

pub returns-clause-apart : goal.returns-clause-apart
returns-clause-apart g c _ = subst (AllPairs (λ (p q : PassView). p.number ≢ q.number)) (take_all c.loop-pass.pass-index c.args.passes.now c.loop-pass-test.false) c.loop-pass.invariant.apart

pub returns-clause-found : goal.returns-clause-found
returns-clause-found g c _ = subst (All (IsFound (entry_views c.args.journal.now))) (take_all c.loop-pass.pass-index c.args.passes.now c.loop-pass-test.false) c.loop-pass.invariant.found
