use Rattle.std.proofs.Common.{◌≡◌, subst, arith}
use Rattle.tca_log.proofs.OrderedRows.Each.{ArePutting, putting_none, putting_more, putting_all, putting_nothing}
use Rattle.tca_log.proofs.rows.Rows.put_all.Goals as goal

pub returns-then-len-eq0-clause-ok : goal.returns-then-len-eq0-clause-ok
returns-then-len-eq0-clause-ok g c = putting_nothing g.K.Ord.cmp g.met.K.Ord.total c.args.other.now.rows c.args.self.now.rows (omega (arith, c.len.ensures.length))

pub loop-key-init : goal.loop-key-init
loop-key-init g c =
    let all : c.into_iter-key-iterator.result ≡ c.args.other.now.rows = cc in
    rw (all, c.reserve.ensures.rows) (putting_none g.K.Ord.cmp g.met.K.Ord.total c.args.other.now.rows c.args.self.now.rows c.len.ensures.rises c.requires.apart c.requires.few)

pub loop-key-preserved : goal.loop-key-preserved
loop-key-preserved g c =
    let now = subst (λ l. ArePutting g.K.Ord.cmp c.args.other.now.rows c.args.self.now.rows c.loop-key.self.rows l) c.in-Some.ensures.steps c.loop-key.invariant in
    rw (c.put.ensures, c.in_default.ensures.rows) (putting_more g.K.Ord.cmp g.met.K.Ord.total c.args.other.now.rows c.args.self.now.rows c.loop-key.self.rows c.in-Some.key.now c.next.new.self now)

pub returns-clause-ok : goal.returns-clause-ok
returns-clause-ok g c =
    let now = subst (λ l. ArePutting g.K.Ord.cmp c.args.other.now.rows c.args.self.now.rows c.loop-key.self.rows l) c.in-None.ensures.steps.0 c.loop-key.invariant in
    putting_all g.K.Ord.cmp g.met.K.Ord.total c.args.other.now.rows c.args.self.now.rows c.loop-key.self.rows now
