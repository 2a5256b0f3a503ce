use Rattle.std.proofs.lemmas.Grind.{common_steps}
use Rattle.std.proofs.Common.{◌≡◌, ◌∙◌, ◌≤◌, List, ℕ, Ok, ap, arith, drop, length, rules}
use Rattle.std.proofs.lemmas.List.{take_rest}
use Rattle.byteorder.specs.Endian.{big_number}
use Rattle.tca_wire.specs.Messages.{judged}
use Rattle.tca_wire.specs.declared.message.SetSpan.{SetSpan}
use Rattle.tca_wire.proofs.split.set_at.Goals as goal

abbrev set : ℕ → ℕ → ℕ → SetSpan
set id at n = record { id = id; at = at; length = n }

judged_with : (octets : List ℕ) (id at n : ℕ) → id ≡ big_number 2 octets → n ≡ big_number 2 (drop 2 octets) → 4 ≤ length octets → 4 ≤ n → n ≤ length octets
    → Ok (set id at n) ≡ judged at octets
judged_with octets id at n said long header some within = search rules

pub returns-then-octets-lt4-clause-exact : goal.returns-then-octets-lt4-clause-exact
returns-then-octets-lt4-clause-exact c = search rules

pub returns-then-octets-lt4-clause-no_memory : goal.returns-then-octets-lt4-clause-no_memory
returns-then-octets-lt4-clause-no_memory c = λ e. cc

pub returns-clause-exact : goal.returns-clause-exact
returns-clause-exact c =
    judged_with c.args.octets.now _ _ _ c.read_u16-id.ensures (c.read_u16-length.ensures ∙ ap (big_number 2) (take_rest c.args.octets.now 2)) (omega arith) (omega arith)
    (omega arith)

pub returns-then-length-lt4-clause-exact : goal.returns-then-length-lt4-clause-exact
returns-then-length-lt4-clause-exact c = grind (arith, common_steps)

pub returns-then-octets-length-clause-exact : goal.returns-then-octets-length-clause-exact
returns-then-octets-length-clause-exact c = grind (arith, common_steps)
