use Rattle.std.proofs.Common.{rules}
use Rattle.tca_templates.proofs.decoder.Decoder.new.Goals as goal

pub returns : goal.returns
returns c = search rules
