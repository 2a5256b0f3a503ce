use Rattle.std.proofs.lemmas.Grind.{common_steps}
use Rattle.std.proofs.Common.{◌≡◌, ◌<◌, ◌≤◌, Some, length, get_or, slice_get, sym, ap, ◌∙◌, subst, arith}
use Rattle.std.proofs.lemmas.List.{get_or_default}
use Rattle.tca_ingest.specs.EntryViews.{entry_view, entry_views}
use Rattle.tca_ingest.proofs.CallSearch.{found_more, next_more}
use Rattle.tca_ingest.proofs.Matches.{found_at, view_at, views_length}
use Rattle.tca_ingest.proofs.fitting.is_found.Goals as goal

pub loop-i-preserved : goal.loop-i-preserved
loop-i-preserved g c =
    let l = c.loop-i in
    let journal = c.args.journal.now in
    let calls = c.calls-calls.result.now in
    let places = c.places-places.result.now in
    let place = get_or places l.i 0 in
    let x = c.index-calls-i.result in
    let y = c.index-journal-place.result in
    let low = c.loop-i-test.true in
    let among : l.i < length (entry_views calls) = omega (arith, low, views_length calls) in
    let placed : l.i < length places = omega (arith, low, c.places-places.ensures, ap length c.calls-calls.ensures.calls, views_length calls) in
    let there : place ≡ get_or places l.i place = get_or_default places l.i 0 place placed in
    let found : slice_get (entry_views journal) place ≡ Some (entry_view x) = found_at journal place y (omega (arith, c.if-place-journal.false)) c.index-journal-place.is ∙ ap Some (c.is_same.ensures.0 c.if-not-is_same.false) in
    record {
      at = found_more (entry_views journal) (entry_views calls) places l.i place (entry_view x) among placed (view_at calls l.i x low c.index-calls-i.is) there l.invariant.at (subst (λ n. n ≤ place) (sym l.invariant.next) c.if-place-next.false) found;
      next = next_more places l.i place placed there;
    }

pub loop-i-init : goal.loop-i-init
loop-i-init g c = grind (arith, common_steps)

pub offset_bounds-places-i : goal.offset_bounds-places-i
offset_bounds-places-i g c = grind (arith, common_steps)

pub bounds-places-i : goal.bounds-places-i
bounds-places-i g c = grind (arith, common_steps)

pub returns-then-place-next : goal.returns-then-place-next
returns-then-place-next g c = grind (arith, common_steps)

pub offset_bounds-journal-place : goal.offset_bounds-journal-place
offset_bounds-journal-place g c = grind (arith, common_steps)

pub bounds-journal-place : goal.bounds-journal-place
bounds-journal-place g c = grind (arith, common_steps)

pub offset_bounds-calls-i : goal.offset_bounds-calls-i
offset_bounds-calls-i g c = grind (arith, common_steps)

pub bounds-calls-i : goal.bounds-calls-i
bounds-calls-i g c = grind (arith, common_steps)

pub returns-then-not-is_same : goal.returns-then-not-is_same
returns-then-not-is_same g c = grind (arith, common_steps)

pub overflow_add-next : goal.overflow_add-next
overflow_add-next g c = grind (arith, common_steps)

pub returns : goal.returns
returns g c = grind (arith, common_steps)
