use Rattle.std.proofs.lemmas.Grind.{common_steps}
use Rattle.std.proofs.Common.{◌&&◌, ◌≡◌, ◌∙◌, [], ap, rules, sym, false, List, ℕ, arith}
use Rattle.std.specs.List.{list_all, list_any}
use Rattle.std.specs.Str.{bytes_eq}
use Rattle.std.specs.Map.{keys_of}
use Rattle.tca_accounts.specs.Documents.{key_name}
use Rattle.tca_accounts.proofs.TableKeys.{has_only-names, known}
use Rattle.tca_accounts.proofs.document.has_only.Goals as goal

pub returns : goal.returns
returns c =
    let same = has_only-names c.args.keys.now c.args.table.now.entries in
    let start : list_all (known c.args.keys.now) (keys_of c.args.table.now.entries) ≡ list_all (known c.args.keys.now) c.loop-name.name-iterator = search (rules, c.loop-name.invariant) in
    let empty : c.loop-name.name-iterator ≡ [] = search rules in
    sym (same ∙ start ∙ ap (list_all (known c.args.keys.now)) empty)

pub returns-then-not-is_known : goal.returns-then-not-is_known
returns-then-not-is_known c =
    let keys = c.args.keys.now in
    let same = has_only-names keys c.args.table.now.entries in
    let start : list_all (known keys) (keys_of c.args.table.now.entries) ≡ list_all (known keys) c.loop-name.name-iterator = search (rules, c.loop-name.invariant) in
    let here : known keys c.in-Some.name.now ≡ false =
    ap (λ (t : List ℕ). list_any (λ k. bytes_eq (key_name k) t) keys) (sym c.as_str.ensures.value) ∙ sym c.is_known.ensures ∙ c.if-not-is_known.true in
    sym (same ∙ start ∙ ap (list_all (known keys)) c.in-Some.ensures.steps ∙ ap (λ b. b && list_all (known keys) c.next.new.self) here)

pub loop-name-preserved : goal.loop-name-preserved
loop-name-preserved c = grind (arith, common_steps)
