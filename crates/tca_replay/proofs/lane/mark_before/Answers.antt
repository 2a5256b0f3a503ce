use Rattle.tca_replay.proofs.Resume.{back}
use Rattle.tca_replay.proofs.lane.mark_before.Goals as goal

pub returns-clause-before : goal.returns-clause-before
returns-clause-before c = (back c.args.every c.args.kept c.args.marks c.min.result c.requires.some c.min.ensures c.requires.reach).before

pub returns-clause-near : goal.returns-clause-near
returns-clause-near c = (back c.args.every c.args.kept c.args.marks c.min.result c.requires.some c.min.ensures c.requires.reach).near

pub returns-clause-inside : goal.returns-clause-inside
returns-clause-inside c = (back c.args.every c.args.kept c.args.marks c.min.result c.requires.some c.min.ensures c.requires.reach).inside
