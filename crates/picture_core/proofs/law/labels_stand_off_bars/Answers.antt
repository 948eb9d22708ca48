use Rattle.picture_core.proofs.Off.{labels_stand_off_bars}
use Rattle.picture_core.proofs.law.labels_stand_off_bars.Goals as goal

pub returns : goal.returns
returns c = labels_stand_off_bars
