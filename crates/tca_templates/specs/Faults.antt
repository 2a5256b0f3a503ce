-- The numbers that stand for faults in a program's messages.
use Rattle.std.specs.Prelude.{ℕ}
use Rattle.tca_templates.specs.declared.fault.DecodeFault.{DecodeFault}
use Rattle.tca_templates.specs.declared.fault.DecodeFault.TheVariants as decode

abbrev pub decode_number : DecodeFault → ℕ
decode_number (decode.TemplateId at) = 1
decode_number (decode.TemplateCut at) = 2
decode_number (decode.Scope at) = 3
decode_number (decode.EmptyTemplate id) = 4
decode_number decode.TooMany = 5
decode_number (decode.RecordCut at) = 6
decode_number decode.Memory = 7
