use Rattle.std.proofs.Common.{◌≡◌, ◌∷◌, [], sym, ◌∙◌, arith}
use Rattle.std.specs.Prelude.{map}
use Rattle.std.proofs.lemmas.List.{append-nil, append_assoc, nil_from_length}
use Rattle.tca_audit.specs.inside.Metering.{tally_so_far}
use Rattle.tca_audit.proofs.bill.finish.Goals as goal

pub finish-requires : goal.finish-requires
finish-requires c =
    let cut : c.loop-account.account-iterator.rest.items ≡ c.in-Some.account ∷ c.next.new.self.rest.items = c.in-Some.ensures.steps.0 in
    (rw cut at c.loop-account.invariant.rise).0

pub loop-account-preserved : goal.loop-account-preserved
loop-account-preserved c =
    let cut : c.loop-account.account-iterator.rest.items ≡ c.in-Some.account ∷ c.next.new.self.rest.items = c.in-Some.ensures.steps.0 in
    let rest = map tally_so_far c.next.new.self.rest.items in
    record {
      tallies = rw (c.in_ok-push.ensures.items, c.in_ok-finish.ensures) (append_assoc c.loop-account.list.items (tally_so_far c.in-Some.account ∷ []) rest ∙ (rw cut at c.loop-account.invariant.tallies));
      rise = (rw cut at c.loop-account.invariant.rise).1;
    }

pub returns : goal.returns
returns c =
    let rest = c.loop-account.account-iterator.rest in
    let none : rest.items ≡ [] = nil_from_length rest.items (omega (arith, rest.ok.0, c.in-None.ensures.steps.0)) in
    c.new.ensures ∙ sym (append-nil c.loop-account.list.items) ∙ (rw none at c.loop-account.invariant.tallies)
