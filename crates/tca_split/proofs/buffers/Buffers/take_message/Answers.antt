use Rattle.std.proofs.Common.{◌≡◌, ℕ, [], rules, refl, sym, ap, subst, false}
use Rattle.std.specs.Prelude.{Option, option_map, is_some}
use Rattle.std.specs.Global.{Vec}
use Rattle.std.specs.BTreeMap.{get}
use Rattle.std.specs.Ordering.{nat_cmp}
use Rattle.tca_split.specs.inside.Buffering.{buffered}
use Rattle.tca_split.proofs.OnResults.{err_map, ok_map}
use Rattle.tca_split.proofs.BufferSteps.{looked_up, takes_kept, begins_kept}
use Rattle.tca_split.proofs.buffers.Buffers.take_message.Goals as goal

pub returns-in-Some-clause-ok : goal.returns-in-Some-clause-ok
returns-in-Some-clause-ok g c =
    let there = ap (option_map (λ (v : Vec ℕ). v.items)) (sym c.in-Some.ensures.value) in
    let wrote = looked_up (λ (v : Vec ℕ). v.items) _ c.keep.new.buffer (get nat_cmp c.args.self.now.buffers) (get nat_cmp (c.get_mut.follows.lender c.keep.new.buffer))
    ((c.get_mut.follows.holds c.keep.new.buffer).3 (search rules)).0 in
    ok_map _ _ c.keep.result (λ s. takes_kept _ c.args.message.now _ _ _ _ _ _ c.domain_of-domain.ensures there wrote s) c.keep.ensures.ok

pub returns-in-Some-clause-err : goal.returns-in-Some-clause-err
returns-in-Some-clause-err g c =
    let there = ap (option_map (λ (v : Vec ℕ). v.items)) (sym c.in-Some.ensures.value) in
    err_map _ _ c.keep.result (λ s. begins_kept _ c.args.message.now _ (buffered c.args.self.now) _ _ c.domain_of-domain.ensures there s) c.keep.ensures.err

pub returns-in-None-clause-fault : goal.returns-in-None-clause-fault
returns-in-None-clause-fault g c = record {
  front = [];
  message = c.args.message.now;
  behind = [];
  parts = refl;
  stranger = subst (λ d. is_some (buffered c.args.self.now d) ≡ false) c.domain_of-domain.ensures (ap (λ (o : Option (Vec ℕ)). is_some (option_map (λ (v : Vec ℕ). v.items) o)) (sym c.in-None.ensures.value));
}
