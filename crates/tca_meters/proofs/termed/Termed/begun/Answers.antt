use Rattle.std.proofs.Common.{arith}
use Rattle.tca_meters.proofs.Slots.{begun_before, begun_never, begun_some, has_slot}
use Rattle.tca_meters.proofs.termed.Termed.begun.Goals as goal
use Rattle.tca_meters.proofs.termed.Termed.begun.Goals.{else-number-gt0-via-then-number-gt0+else-from-self, else-number-gt0-via-else-number-gt0}

pub listed : goal.listed
listed c =
    let i = c.self.inside in
    let h = c.self.invariant in
    omega (arith, has_slot c.args.self.now i.first i.count i.later.terms h c.self.view_is c.args.to c.started-number.result c.started-number.ensures, h.inside, h.many)

pub bounds-self-inside-number : goal.bounds-self-inside-number
bounds-self-inside-number c =
    let i = c.self.inside in
    let h = c.self.invariant in
    omega (arith, has_slot c.args.self.now i.first i.count i.later.terms h c.self.view_is c.args.to c.started-number.result c.started-number.ensures, h.inside)

pub returns-then-from-self : goal.returns-then-from-self
returns-then-from-self c =
    let i = c.self.inside in
    begun_some c.args.self.now i.first i.count i.later.terms c.self.invariant c.self.view_is c.args.from c.args.to c.started-number.result c.index-self-number.result c.started-number.ensures c.if-number-gt0.true c.if-from-self.true

pub returns-else-number-gt0 : goal.returns-else-number-gt0
returns-else-number-gt0 c =
    let i = c.self.inside in
    elim c.else-number-gt0.branch [
      | else-number-gt0-via-then-number-gt0+else-from-self w ↦ begun_before c.args.self.now i.first i.count i.later.terms c.self.invariant c.self.view_is c.args.from c.args.to c.started-number.result w.index-self-number.result c.started-number.ensures w.if-number-gt0.true w.if-from-self.false
      | else-number-gt0-via-else-number-gt0 w ↦ begun_never c.args.self.now i.first i.count i.later.terms c.self.invariant c.self.view_is c.args.from c.args.to c.started-number.result (0, i.first) c.started-number.ensures w.if-number-gt0.false
    ]
