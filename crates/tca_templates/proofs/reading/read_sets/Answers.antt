use Rattle.std.proofs.lemmas.Grind.{common_steps}
use Rattle.std.proofs.Common.{◌≡◌, suc, take, subst, refl, ◌<◌, ◌+◌, sym, ap, ◌∙◌, arith, add-one, List, length, drop, get_or}
use Rattle.std.specs.Prelude.{Ok, Err}
use Rattle.std.proofs.lemmas.List.{length-drop}
use Rattle.std.proofs.lemmas.Result.{err_from_is_err_and}
use Rattle.tca_wire.specs.declared.message.SetSpan.{SetSpan}
use Rattle.tca_wire.proofs.Tiles.{blank_set, tile_span, tile_next, tile_few}
use Rattle.tca_templates.specs.Reading.{set_of, before}
use Rattle.tca_templates.specs.declared.fault.DecodeFault.TheVariants.{Memory}
use Rattle.tca_templates.specs.Fields.{templates_of}
use Rattle.tca_templates.specs.Wants.{IsWantedInSet}
use Rattle.tca_templates.specs.Refusals.{HoldsInSet}
use Rattle.tca_templates.proofs.SessionLaws.{templates_have, reading_found}
use Rattle.tca_templates.proofs.Wanting.{sets_more, none_read, three_parts}
use Rattle.tca_templates.proofs.Sets.{sets_step, sets_all}
use Rattle.tca_templates.proofs.reading.read_sets.Goals as goal

pub read_set-requires-clause-least : goal.read_set-requires-clause-least
read_set-requires-clause-least g c =
    let m = c.args.message.now in
    let lt : c.loop-set.set-index < length m.sets.items = omega (arith, c.loop-set-test.true, ap length c.deref-set-items.ensures.value) in
    rw c.deref-set-items.ensures.value (tile_span m.sets.items 16 (drop 16 m.octets.now) m.tiled c.loop-set.set-index lt).least

pub read_set-requires-clause-within : goal.read_set-requires-clause-within
read_set-requires-clause-within g c =
    let m = c.args.message.now in
    let lt : c.loop-set.set-index < length m.sets.items = omega (arith, c.loop-set-test.true, ap length c.deref-set-items.ensures.value) in
    let s = tile_span m.sets.items 16 (drop 16 m.octets.now) m.tiled c.loop-set.set-index lt in
    rw c.deref-set-items.ensures.value (omega (arith, s.within, m.whole, m.room, length-drop 16 m.octets.now))

pub read_set-requires-clause-short : goal.read_set-requires-clause-short
read_set-requires-clause-short g c = let m = c.args.message.now in omega (arith, m.whole, m.short)

pub read_set-requires-clause-skipped : goal.read_set-requires-clause-skipped
read_set-requires-clause-skipped g c =
    let m = c.args.message.now in
    omega (arith, c.loop-set.invariant.skipped, c.loop-set-test.true, ap length c.deref-set-items.ensures.value, tile_few m.sets.items 16 (drop 16 m.octets.now) m.tiled, length-drop 16 m.octets.now, m.whole, m.short)

pub loop-set-init : goal.loop-set-init
loop-set-init g c =
    let m = c.args.message.now in
    record {
      so_far = λ start taken. (before _, record { templates = refl; records = taken; count = refl; unplaced = refl; skipped = refl }, refl, none_read c.args.source m.octets.now (before (templates_of c.args.templates.now)));
      few = λ some. omega arith;
      bound = omega arith;
      sets = omega arith;
      skipped = omega arith;
      before = refl;
    }

pub returns-in_err-aside-clause-exact : goal.returns-in_err-aside-clause-exact
returns-in_err-aside-clause-exact g c =
    let m = c.args.message.now in
    let lt : c.loop-set.set-index < length m.sets.items = omega (arith, c.loop-set-test.true, ap length c.deref-set-items.ensures.value) in
    let p = err_from_is_err_and c.from_residual.result c.from_residual.ensures.1 in
    rw (p.1, p.2) (λ start taken other.
    let w = c.loop-set.invariant.so_far start taken in
    let same = ap (λ (l : List SetSpan). set_of c.args.source m.octets.now w.0 (get_or l c.loop-set.set-index blank_set)) (sym c.deref-set-items.ensures.value) in
    sym w.2 ∙ sets_step c.args.source m.octets.now w.0 m.sets.items c.loop-set.set-index (Err c.in_err-aside.field-0.0) lt (same ∙ c.in_err-aside.ensures.exact start w.0 w.1 other))

pub loop-set-preserved : goal.loop-set-preserved
loop-set-preserved g c =
    let m = c.args.message.now in
    let lt : c.loop-set.set-index < length m.sets.items = omega (arith, c.loop-set-test.true, ap length c.deref-set-items.ensures.value) in
    let here : get_or c.deref-set-items.result.now c.loop-set.set-index blank_set ≡ get_or m.sets.items c.loop-set.set-index blank_set = ap (λ (l : List SetSpan). get_or l c.loop-set.set-index blank_set) c.deref-set-items.ensures.value in
    record {
      so_far = λ start taken.
          let w = c.loop-set.invariant.so_far start taken in
          let same = ap (λ (l : List SetSpan). set_of c.args.source m.octets.now w.0 (get_or l c.loop-set.set-index blank_set)) (sym c.deref-set-items.ensures.value) in
          let next = c.in_ok-aside.ensures.exact start w.0 w.1 in
          let step = sets_step c.args.source m.octets.now w.0 m.sets.items c.loop-set.set-index (Ok next.0) lt (same ∙ next.1) in
          (next.0, next.2, sym step ∙ w.2, rw add-one (sets_more c.args.source m.octets.now (before (templates_of c.args.templates.now)) w.0 next.0 m.sets.items c.loop-set.set-index lt w.3 (same ∙ next.1)));
      few = λ more. rw add-one (omega (arith, tile_next m.sets.items 16 (drop 16 m.octets.now) m.tiled c.loop-set.set-index (omega arith), c.in_ok-aside.ensures.few, ap (λ (s : SetSpan). s.at + s.length) here));
      bound = omega (arith, c.in_ok-aside.ensures.few, ap (λ (s : SetSpan). s.at + s.length) here, (tile_span m.sets.items 16 (drop 16 m.octets.now) m.tiled c.loop-set.set-index lt).within, m.whole, m.room, length-drop 16 m.octets.now);
      sets = omega (arith, lt);
      skipped = omega (arith, c.in_ok-aside.ensures.skipped, c.loop-set.invariant.skipped);
      before = c.in_ok-aside.ensures.before ∙ c.loop-set.invariant.before;
    }

pub returns-clause-exact : goal.returns-clause-exact
returns-clause-exact g c = λ start taken.
    let m = c.args.message.now in
    let w = c.loop-set.invariant.so_far start taken in
    (w.0, sym w.2 ∙ sets_all c.args.source m.octets.now w.0 m.sets.items c.loop-set.set-index (omega (arith, c.loop-set-test.false, ap length c.deref-set-items.ensures.value)), w.1)

pub returns-clause-skipped : goal.returns-clause-skipped
returns-clause-skipped g c =
    let m = c.args.message.now in
    omega (arith, c.loop-set.invariant.skipped, c.loop-set.invariant.sets, tile_few m.sets.items 16 (drop 16 m.octets.now) m.tiled, length-drop 16 m.octets.now, m.whole)

pub returns-in_err-aside-clause-wanted : goal.returns-in_err-aside-clause-wanted
returns-in_err-aside-clause-wanted g c =
    let m = c.args.message.now in
    let i = c.loop-set.set-index in
    let lt : i < length m.sets.items = omega (arith, c.loop-set-test.true, ap length c.deref-set-items.ensures.value) in
    let here : get_or c.deref-set-items.result.now i blank_set ≡ get_or m.sets.items i blank_set = ap (λ (l : List SetSpan). get_or l i blank_set) c.deref-set-items.ensures.value in
    let p = err_from_is_err_and c.from_residual.result c.from_residual.ensures.1 in
    rw (p.1, p.2) (λ memory start taken.
    let same : c.in_err-aside.field-0.0 ≡ Memory = cc in
    let w = c.loop-set.invariant.so_far start taken in
    record {
      before = take i m.sets.items;
      set = get_or m.sets.items i blank_set;
      behind = drop (suc i) m.sets.items;
      given = w.0;
      whole = three_parts m.sets.items i lt;
      read = reading_found (templates_of c.args.templates.now) c.args.source m.octets.now (take i m.sets.items) w.0 (templates_have c.args.templates.now) w.3;
      wanted = subst (λ (s : SetSpan). IsWantedInSet c.args.source m.octets.now w.0 s) here (c.in_err-aside.ensures.wanted (ap (λ f. Err f) same) start w.0 w.1);
    })

pub returns-in_err-aside-clause-held : goal.returns-in_err-aside-clause-held
returns-in_err-aside-clause-held g c =
    let m = c.args.message.now in
    let i = c.loop-set.set-index in
    let lt : i < length m.sets.items = omega (arith, c.loop-set-test.true, ap length c.deref-set-items.ensures.value) in
    let here : get_or c.deref-set-items.result.now i blank_set ≡ get_or m.sets.items i blank_set = ap (λ (l : List SetSpan). get_or l i blank_set) c.deref-set-items.ensures.value in
    let p = err_from_is_err_and c.from_residual.result c.from_residual.ensures.1 in
    rw (p.1, p.2) (λ start taken.
    let w = c.loop-set.invariant.so_far start taken in
    record {
      before = take i m.sets.items;
      set = get_or m.sets.items i blank_set;
      behind = drop (suc i) m.sets.items;
      given = w.0;
      whole = three_parts m.sets.items i lt;
      read = reading_found (templates_of c.args.templates.now) c.args.source m.octets.now (take i m.sets.items) w.0 (templates_have c.args.templates.now) w.3;
      refused = λ other. ap (λ (s : SetSpan). set_of c.args.source m.octets.now w.0 s) (sym here) ∙ c.in_err-aside.ensures.exact start w.0 w.1 other;
      holds = subst (λ (s : SetSpan). HoldsInSet g.T.TakesRecords.took start c.read_set.new.taker c.args.source m.octets.now w.0 s c.in_err-aside.field-0.0) here (c.in_err-aside.ensures.held start w.0 w.1);
    })

pub returns-in_err-aside-clause-few : goal.returns-in_err-aside-clause-few
returns-in_err-aside-clause-few g c = grind (arith, common_steps)

pub returns-in_err-aside-clause-skipped : goal.returns-in_err-aside-clause-skipped
returns-in_err-aside-clause-skipped g c = grind (arith, common_steps)

pub returns-in_err-aside-clause-before : goal.returns-in_err-aside-clause-before
returns-in_err-aside-clause-before g c = grind (arith, common_steps)

pub returns-in_err-aside-clause-memory : goal.returns-in_err-aside-clause-memory
returns-in_err-aside-clause-memory g c = grind (arith, common_steps)

pub returns-clause-wanted : goal.returns-clause-wanted
returns-clause-wanted g c = grind (arith, common_steps)

pub returns-clause-few : goal.returns-clause-few
returns-clause-few g c = grind (arith, common_steps)

pub returns-clause-before : goal.returns-clause-before
returns-clause-before g c = grind (arith, common_steps)

pub returns-clause-memory : goal.returns-clause-memory
returns-clause-memory g c = grind (arith, common_steps)

pub returns-clause-held : goal.returns-clause-held
returns-clause-held g c = grind (arith, common_steps)
