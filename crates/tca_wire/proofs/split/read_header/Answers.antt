use Rattle.std.proofs.Common.{◌≡◌, ◌∙◌, List, ℕ, Ok, ap, drop, rules}
use Rattle.std.proofs.lemmas.List.{take_rest}
use Rattle.byteorder.specs.Endian.{big_number}
use Rattle.tca_wire.specs.Messages.{judged_header, judged_length}
use Rattle.tca_wire.specs.declared.message.Header.{Header}
use Rattle.tca_wire.proofs.split.read_header.Goals as goal

abbrev header : ℕ → ℕ → ℕ → ℕ → Header
header n e s d = record { length = n; export_time = e; sequence = s; domain = d }

judged_with : (octets : List ℕ) (n e s d : ℕ) → Ok n ≡ judged_length octets → e ≡ big_number 4 (drop 4 octets) → s ≡ big_number 4 (drop 8 octets)
    → d ≡ big_number 4 (drop 12 octets) → Ok (header n e s d) ≡ judged_header octets
judged_with octets n e s d length time sequence domain = search rules

pub returns-clause-exact : goal.returns-clause-exact
returns-clause-exact c =
    judged_with c.args.octets.now _ _ _ _ c.in_ok-length.ensures.exact (c.read_u32.ensures ∙ ap (big_number 4) (take_rest c.args.octets.now 4))
    (c.read_u32-2.ensures ∙ ap (big_number 4) (take_rest c.args.octets.now 8)) (c.read_u32-3.ensures ∙ ap (big_number 4) (take_rest c.args.octets.now 12))
