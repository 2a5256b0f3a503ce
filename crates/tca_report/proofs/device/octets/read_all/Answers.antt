use Rattle.std.proofs.Common.{arith, ◌++◌, length, take, length-append, ◌≤◌, ◌*◌, ◌+◌, ◌-◌, ◌≡◌, ℕ, subst}
use Rattle.std.proofs.lemmas.Bool.Decides.{nat_tests}
use Rattle.std.proofs.lemmas.List.{length-take}
use Rattle.std.proofs.lemmas.Grind.{common_steps}
use Rattle.tca_report.proofs.lemmas.device.KnownBytes.{consumes_more}
use Rattle.tca_report.proofs.device.octets.read_all.Goals as goal

-- one more read adds a buffer at most
one_more : (size reads left less octets n : ℕ) → octets ≤ size * (reads - left) → n ≤ size → less + 1 ≡ left → left ≤ reads → octets + n ≤ size * (reads - less)
one_more size reads left less octets n most bound spent within =
    let e : reads - less ≡ (reads - left) + 1 = omega arith in
    rw e (grind (arith, common_steps))

pub returns-in-Ok-clause-most : goal.returns-in-Ok-clause-most
returns-in-Ok-clause-most g c = (
  c.loop-from.octets.items ++ take c.in-Ok.field-0 c.read.new.into,
  consumes_more _ _ _ c.loop-from.octets.items (take c.in-Ok.field-0 c.read.new.into) c.loop-from.invariant.taken c.in-Ok.ensures.octets.0,
  omega arith,
  simp length-append (one_more (length c.args.buffer.now) c.args.from.now.reads_left c.loop-from.from.reads_left c.read.new.self.reads_left (length c.loop-from.octets.items) (length (take c.in-Ok.field-0 c.read.new.into)) c.loop-from.invariant.most (omega (arith, length-take c.in-Ok.field-0 c.read.new.into)) (omega arith) (omega arith)),
)

-- the last read takes an octet at least, as each before it did
pub returns-in-Ok-clause-turns : goal.returns-in-Ok-clause-turns
returns-in-Ok-clause-turns g c = λ _.
    let last : c.read.new.self.reads_left ≡ 0 = grind (arith, nat_tests, c.if-reads_left-eq0.true) in
    let own = take c.in-Ok.field-0 c.read.new.into in
    let size = length-take c.in-Ok.field-0 c.read.new.into in
    let parts = length-append c.loop-from.octets.items own in
    let reads = c.args.from.now.reads_left in
    let most = one_more (length c.args.buffer.now) reads c.loop-from.from.reads_left c.read.new.self.reads_left (length c.loop-from.octets.items) (length own) c.loop-from.invariant.most (omega (arith, size)) (omega arith) (omega arith) in
    let all : reads - c.read.new.self.reads_left ≡ reads = omega (arith, last) in (
      last,
      omega (arith, last, c.in-Ok.ensures.one, c.loop-from.invariant.counted),
      (
        c.loop-from.octets.items ++ own,
        consumes_more _ _ _ c.loop-from.octets.items own c.loop-from.invariant.taken c.in-Ok.ensures.octets.0,
        omega (arith, last, size, parts, c.loop-from.invariant.least),
        simp length-append (subst (λ (m : ℕ). length c.loop-from.octets.items + length own ≤ length c.args.buffer.now * m) all most),
      ),
    )

pub returns-then-is_err-clause-most : goal.returns-then-is_err-clause-most
returns-then-is_err-clause-most g c = (
  c.loop-from.octets.items ++ take c.in-Ok-2.n c.read.new.into,
  consumes_more _ _ _ c.loop-from.octets.items (take c.in-Ok-2.n c.read.new.into) c.loop-from.invariant.taken c.in-Ok-2.ensures.octets.0,
  omega arith,
  simp length-append (one_more (length c.args.buffer.now) c.args.from.now.reads_left c.loop-from.from.reads_left c.read.new.self.reads_left (length c.loop-from.octets.items) (length (take c.in-Ok-2.n c.read.new.into)) c.loop-from.invariant.most (omega (arith, length-take c.in-Ok-2.n c.read.new.into)) (omega arith) (omega arith)),
)

pub returns-in-Ok-eq0-clause-most : goal.returns-in-Ok-eq0-clause-most
returns-in-Ok-eq0-clause-most g = grind (arith, common_steps)

pub loop-from-preserved : goal.loop-from-preserved
loop-from-preserved g = grind (arith, common_steps)

pub returns-in-Err-clause-most : goal.returns-in-Err-clause-most
returns-in-Err-clause-most g = grind (arith, common_steps)

pub returns-in-Ok-eq0-clause-same_reader : goal.returns-in-Ok-eq0-clause-same_reader
returns-in-Ok-eq0-clause-same_reader g c = grind (arith, common_steps)

pub returns-in-Ok-eq0-clause-octets : goal.returns-in-Ok-eq0-clause-octets
returns-in-Ok-eq0-clause-octets g c = grind (arith, common_steps)

pub returns-in-Ok-eq0-clause-all : goal.returns-in-Ok-eq0-clause-all
returns-in-Ok-eq0-clause-all g c = grind (arith, common_steps)

pub returns-in-Ok-eq0-clause-reads : goal.returns-in-Ok-eq0-clause-reads
returns-in-Ok-eq0-clause-reads g c = grind (arith, common_steps)

pub returns-in-Ok-eq0-clause-counted : goal.returns-in-Ok-eq0-clause-counted
returns-in-Ok-eq0-clause-counted g c = grind (arith, common_steps)

pub returns-in-Ok-eq0-clause-turns : goal.returns-in-Ok-eq0-clause-turns
returns-in-Ok-eq0-clause-turns g c = grind (arith, common_steps)

pub returns-in-Ok-eq0-clause-memory : goal.returns-in-Ok-eq0-clause-memory
returns-in-Ok-eq0-clause-memory g c = grind (arith, common_steps)

pub returns-in-Ok-eq0-clause-failed : goal.returns-in-Ok-eq0-clause-failed
returns-in-Ok-eq0-clause-failed g c = grind (arith, common_steps)

pub returns-in-Ok-eq0-clause-quiet : goal.returns-in-Ok-eq0-clause-quiet
returns-in-Ok-eq0-clause-quiet g c = grind (arith, common_steps)

pub returns-in-Ok-clause-same_reader : goal.returns-in-Ok-clause-same_reader
returns-in-Ok-clause-same_reader g c = grind (arith, common_steps)

pub returns-in-Ok-clause-octets : goal.returns-in-Ok-clause-octets
returns-in-Ok-clause-octets g c = grind (arith, common_steps)

pub returns-in-Ok-clause-all : goal.returns-in-Ok-clause-all
returns-in-Ok-clause-all g c = grind (arith, common_steps)

pub returns-in-Ok-clause-reads : goal.returns-in-Ok-clause-reads
returns-in-Ok-clause-reads g c = grind (arith, common_steps)

pub returns-in-Ok-clause-counted : goal.returns-in-Ok-clause-counted
returns-in-Ok-clause-counted g c = grind (arith, common_steps)

pub returns-in-Ok-clause-memory : goal.returns-in-Ok-clause-memory
returns-in-Ok-clause-memory g c = grind (arith, common_steps)

pub returns-in-Ok-clause-failed : goal.returns-in-Ok-clause-failed
returns-in-Ok-clause-failed g c = grind (arith, common_steps)

pub returns-in-Ok-clause-quiet : goal.returns-in-Ok-clause-quiet
returns-in-Ok-clause-quiet g c = grind (arith, common_steps)

pub returns-then-is_err-clause-same_reader : goal.returns-then-is_err-clause-same_reader
returns-then-is_err-clause-same_reader g c = grind (arith, common_steps)

pub returns-then-is_err-clause-octets : goal.returns-then-is_err-clause-octets
returns-then-is_err-clause-octets g c = grind (arith, common_steps)

pub returns-then-is_err-clause-all : goal.returns-then-is_err-clause-all
returns-then-is_err-clause-all g c = grind (arith, common_steps)

pub returns-then-is_err-clause-reads : goal.returns-then-is_err-clause-reads
returns-then-is_err-clause-reads g c = grind (arith, common_steps)

pub returns-then-is_err-clause-counted : goal.returns-then-is_err-clause-counted
returns-then-is_err-clause-counted g c = grind (arith, common_steps)

pub returns-then-is_err-clause-turns : goal.returns-then-is_err-clause-turns
returns-then-is_err-clause-turns g c = grind (arith, common_steps)

pub returns-then-is_err-clause-memory : goal.returns-then-is_err-clause-memory
returns-then-is_err-clause-memory g c = grind (arith, common_steps)

pub returns-then-is_err-clause-failed : goal.returns-then-is_err-clause-failed
returns-then-is_err-clause-failed g c = grind (arith, common_steps)

pub returns-then-is_err-clause-quiet : goal.returns-then-is_err-clause-quiet
returns-then-is_err-clause-quiet g c = grind (arith, common_steps)

pub returns-in-Err-clause-same_reader : goal.returns-in-Err-clause-same_reader
returns-in-Err-clause-same_reader g c = grind (arith, common_steps)

pub returns-in-Err-clause-octets : goal.returns-in-Err-clause-octets
returns-in-Err-clause-octets g c = grind (arith, common_steps)

pub returns-in-Err-clause-all : goal.returns-in-Err-clause-all
returns-in-Err-clause-all g c = grind (arith, common_steps)

pub returns-in-Err-clause-reads : goal.returns-in-Err-clause-reads
returns-in-Err-clause-reads g c = grind (arith, common_steps)

pub returns-in-Err-clause-counted : goal.returns-in-Err-clause-counted
returns-in-Err-clause-counted g c = grind (arith, common_steps)

pub returns-in-Err-clause-turns : goal.returns-in-Err-clause-turns
returns-in-Err-clause-turns g c = grind (arith, common_steps)

pub returns-in-Err-clause-memory : goal.returns-in-Err-clause-memory
returns-in-Err-clause-memory g c = grind (arith, common_steps)

pub returns-in-Err-clause-failed : goal.returns-in-Err-clause-failed
returns-in-Err-clause-failed g c = grind (arith, common_steps)

pub returns-in-Err-clause-quiet : goal.returns-in-Err-clause-quiet
returns-in-Err-clause-quiet g c = grind (arith, common_steps)

pub returns-clause-same_reader : goal.returns-clause-same_reader
returns-clause-same_reader g c = grind (arith, common_steps)

pub returns-clause-octets : goal.returns-clause-octets
returns-clause-octets g c = grind (arith, common_steps)

pub returns-clause-all : goal.returns-clause-all
returns-clause-all g c = grind (arith, common_steps)

pub returns-clause-reads : goal.returns-clause-reads
returns-clause-reads g c = grind (arith, common_steps)

pub returns-clause-counted : goal.returns-clause-counted
returns-clause-counted g c = grind (arith, common_steps)

pub returns-clause-most : goal.returns-clause-most
returns-clause-most g c = grind (arith, common_steps)

pub returns-clause-turns : goal.returns-clause-turns
returns-clause-turns g c = grind (arith, common_steps)

pub returns-clause-memory : goal.returns-clause-memory
returns-clause-memory g c = grind (arith, common_steps)

pub returns-clause-failed : goal.returns-clause-failed
returns-clause-failed g c = grind (arith, common_steps)

pub returns-clause-quiet : goal.returns-clause-quiet
returns-clause-quiet g c = grind (arith, common_steps)
