use Rattle.std.proofs.Common.{◌≡◌, ◌+◌, ◌-◌, length, take, drop, ap, ◌∙◌, arith, length-drop, take_all}
use lib.Seq.{paste}
use Rattle.std.proofs.lemmas.List.Edits.{take-paste}
use Rattle.tca_split.proofs.buffers.leave_end.Goals as goal

pub returns-clause-items : goal.returns-clause-items
returns-clause-items c =
    let all = c.args.held.now.items in
    let left = c.args.left in
    let taken = c.len.result - left in
    let rest : length (drop taken all) ≡ left = omega (arith, length-drop taken all, c.args.held.now.ok.0, c.len.ensures) in
    let more : c.args.held.now.len - taken ≡ left = omega (arith, c.len.ensures) in
    let same : left ≡ 0 + left = omega arith in
    let moved : c.copy_within.new.self.items ≡ paste all 0 (drop taken all) (c.args.held.now.len - taken) = c.copy_within.ensures.items in
    c.truncate.ensures.items ∙ ap (take left) (moved ∙ ap (λ k. paste all 0 (drop taken all) k) more)
    ∙ ap (λ k. take k (paste all 0 (drop taken all) left)) same ∙ take-paste all 0 (drop taken all) left (omega arith) (omega (arith, rest))
    ∙ take_all left (drop taken all) (omega (arith, rest)) ∙ ap (λ n. drop (n - left) all) c.len.ensures
