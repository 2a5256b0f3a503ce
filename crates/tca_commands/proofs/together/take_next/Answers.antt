use Rattle.std.proofs.Common.{◌≡◌, ◌∙◌, ◌&&◌, ◌||◌, ◌+◌, ◌<◌, ℕ, suc, Bool, true, false, Some, List, length, slice_get, slice_set, refl, sym, ap, subst, arith, rules}
use Rattle.std.proofs.lemmas.List.{length-set}
use Rattle.std.proofs.lemmas.Option.{slice_get_read}
use Rattle.std.specs.Ordering.{eq_by_cmp}
use Rattle.tca_join.specs.Sets.{has}
use Rattle.tca_join.proofs.Sets.{or_again}
use Rattle.tca_report.specs.report.Reports.{PacketReport, report_cmp}
use Rattle.tca_commands.specs.inside.Together.{left_of}
use Rattle.tca_commands.proofs.TogetherLaws.{next_taken}
use Rattle.tca_commands.proofs.together.take_next.Invariants.{AreTaken}
use Rattle.tca_commands.proofs.together.take_next.Goals.{then-stands_at, else-stands_at}
use Rattle.tca_commands.proofs.together.take_next.Goals as goal

-- what was taken once more
once_more : (b e left : Bool) → ((b && e) || (e || left)) ≡ ((true && e) || left)
once_more true e left = sym (or_again e left)
once_more false e left = refl

pub loop-n-preserved : goal.loop-n-preserved
loop-n-preserved c = elim c.if-stands_at.branch [
  | then-stands_at w ↦
      let lists = c.args.lists.now in
      let before = c.loop-n.taken.items in
      let n = c.loop-n.n in
      let list : List PacketReport = c.index-lists-n.result in
      let at = w.index_mut.result.now in
      let r = c.args.report.now in
      let inside : n < length before = omega (arith, c.loop-n-test.true, c.loop-n.invariant.count) in
      let of_list : slice_get lists n ≡ Some list = slice_get_read lists (length lists) n list refl c.loop-n-test.true c.index-lists-n.is in
      let of_taken : slice_get before n ≡ Some at = slice_get_read before (length before) n at refl inside w.index_mut.ensures.value in
      let read : slice_get before n ≡ Some c.index.result.now = slice_get_read before (length before) n c.index.result.now refl inside c.index.ensures in
      let one : Some c.index.result.now ≡ Some at = sym read ∙ of_taken in
      let same : c.index.result.now ≡ at = cc in
      let is : slice_get list at ≡ Some r = subst (λ (k : ℕ). slice_get list k ≡ Some r) same (subst (λ (rs : List PacketReport). slice_get rs c.index.result.now ≡ Some r) c.as_slice.ensures (c.stands_at.ensures w.if-stands_at.true)) in
      let on : at + 1 ≡ suc at = omega arith in
      let after : c.if-stands_at.taken.items ≡ slice_set before n (suc at) = ap (λ v. v.items) w.taken-is ∙ ap (slice_set before n) on in
      let next = next_taken lists before n list at r of_list of_taken is in
      record {
        count = ap length after ∙ length-set before n (suc at) ∙ c.loop-n.invariant.count;
        members = λ q. c.loop-n.invariant.members q ∙ ap (λ b. (c.loop-n.is_next && eq_by_cmp report_cmp q r) || b) (next q)
            ∙ once_more c.loop-n.is_next (eq_by_cmp report_cmp q r) (has report_cmp (left_of lists (slice_set before n (suc at))) q)
            ∙ ap (λ b. (b && eq_by_cmp report_cmp q r) || has report_cmp (left_of lists (slice_set before n (suc at))) q) (sym w.is_next-is)
            ∙ ap (λ (ns : List ℕ). (c.if-stands_at.is_next && eq_by_cmp report_cmp q r) || has report_cmp (left_of lists ns) q) (sym after);
      }
  | else-stands_at w ↦
      subst (λ v. AreTaken c.args.lists.now c.args.taken.now.items v.items c.if-stands_at.is_next c.args.report.now) (sym w.taken-is)
      (subst (λ (b : Bool). AreTaken c.args.lists.now c.args.taken.now.items c.loop-n.taken.items b c.args.report.now) (sym w.is_next-is) c.loop-n.invariant)
]

pub loop-n-init : goal.loop-n-init
loop-n-init c = search rules
