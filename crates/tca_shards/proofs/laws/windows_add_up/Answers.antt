use Rattle.tca_shards.proofs.Windows.{windows_add_up}
use Rattle.tca_shards.proofs.AllWindows.{all_windows_add_up}
use Rattle.tca_shards.proofs.laws.windows_add_up.Goals as goal

pub returns : goal.returns
returns c = record { two = windows_add_up; all = all_windows_add_up }
