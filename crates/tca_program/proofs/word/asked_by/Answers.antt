use Rattle.tca_program.proofs.Asking.{asked_more}
use Rattle.tca_program.proofs.word.asked_by.Goals as goal

pub loop-word-preserved : goal.loop-word-preserved
loop-word-preserved c = asked_more c.args.words.now c.loop-word.word-index _ c.loop-word.all.items c.push.new.self.items _ c.loop-word-test.true c.split_word-session.ensures c.in_ok-push.ensures.items c.loop-word.invariant
