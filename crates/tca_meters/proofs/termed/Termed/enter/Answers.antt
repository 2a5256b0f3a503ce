use Rattle.std.proofs.Common.{◌≡◌, ◌∙◌, Some, sym, arith}
use Rattle.tca_meters.specs.AnyMeters.{any_rule}
use Rattle.tca_meters.specs.Termed.{begun}
use Rattle.tca_meters.specs.laws.TermedLaws.{has_started}
use Rattle.tca_meters.proofs.Slots.{began, has_slot, slot_has}
use Rattle.tca_meters.proofs.termed.Termed.enter.Goals as goal

pub listed : goal.listed
listed c =
    let i = c.self.inside in
    let h = c.self.invariant in
    let b = began c.args.self.now c.args.from c.args.to c.in-Some.number (sym c.in-Some.is ∙ c.begun.ensures) in
    omega (arith, has_slot c.args.self.now i.first i.count i.later.terms h c.self.view_is c.args.to c.in-Some.number b.number, b.some, h.inside, h.many)

pub bounds-self-inside-number : goal.bounds-self-inside-number
bounds-self-inside-number c =
    let i = c.self.inside in
    let h = c.self.invariant in
    let b = began c.args.self.now c.args.from c.args.to c.in-Some.number (sym c.in-Some.is ∙ c.begun.ensures) in
    omega (arith, has_slot c.args.self.now i.first i.count i.later.terms h c.self.view_is c.args.to c.in-Some.number b.number, b.some, h.inside)

pub returns-clause-entered : goal.returns-clause-entered
returns-clause-entered c =
    let i = c.self.inside in
    let n = c.in-Some.number in
    let is : Some n ≡ begun c.args.self.now c.args.from c.args.to = sym c.in-Some.is ∙ c.begun.ensures in
    let b = began c.args.self.now c.args.from c.args.to n is in
    let slot = slot_has c.args.self.now i.first i.count i.later.terms c.self.invariant c.self.view_is n c.index-self-number.result b.some (has_slot c.args.self.now i.first i.count i.later.terms c.self.invariant c.self.view_is c.args.to n b.number) in
    rw (← is, c.start-full.ensures) (λ j. (record { term = n; levels = (any_rule (slot j).1).opening }, (slot j).0))

pub returns-clause-order : goal.returns-clause-order
returns-clause-order c =
    let i = c.self.inside in
    let n = c.in-Some.number in
    let b = began c.args.self.now c.args.from c.args.to n (sym c.in-Some.is ∙ c.begun.ensures) in
    let slot = slot_has c.args.self.now i.first i.count i.later.terms c.self.invariant c.self.view_is n c.index-self-number.result b.some (has_slot c.args.self.now i.first i.count i.later.terms c.self.invariant c.self.view_is c.args.to n b.number) in
    rw slot (has_started c.args.self.now c.args.to n (omega (arith, b.number)))
