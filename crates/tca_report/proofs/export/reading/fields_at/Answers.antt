use Rattle.std.proofs.Common.{ℕ, length, ap, arith, length-drop}
use Rattle.std.proofs.lemmas.Grind.{common_steps}
use Rattle.tca_report.proofs.export.reading.fields_at.Goals as goal

pub u32_at-octets-requires : goal.u32_at-octets-requires
u32_at-octets-requires c =
    omega (arith, length-drop {A = ℕ}, ap length c.u64_at-time.ensures.rest, ap length c.u32_at-domain.ensures.rest, c.read_session-session.ensures.size, ap length c.u32_at-place.ensures.rest)

pub bounds-rest-0 : goal.bounds-rest-0
bounds-rest-0 c =
    omega (arith, length-drop {A = ℕ}, ap length c.u64_at-time.ensures.rest, ap length c.u32_at-domain.ensures.rest, c.read_session-session.ensures.size, ap length c.u32_at-place.ensures.rest, ap length c.u32_at-octets.ensures.rest)

pub slice_bounds-u32_at-start : goal.slice_bounds-u32_at-start
slice_bounds-u32_at-start c =
    omega (arith, length-drop {A = ℕ}, ap length c.u64_at-time.ensures.rest, ap length c.u32_at-domain.ensures.rest, c.read_session-session.ensures.size, ap length c.u32_at-place.ensures.rest, ap length c.u32_at-octets.ensures.rest)

pub slice_bounds-u32_at-count : goal.slice_bounds-u32_at-count
slice_bounds-u32_at-count c =
    omega (arith, length-drop {A = ℕ}, ap length c.u64_at-time.ensures.rest, ap length c.u32_at-domain.ensures.rest, c.read_session-session.ensures.size, ap length c.u32_at-place.ensures.rest, ap length c.u32_at-octets.ensures.rest)

pub u32_at-iface-requires : goal.u32_at-iface-requires
u32_at-iface-requires c =
    omega (arith, length-drop {A = ℕ}, ap length c.u64_at-time.ensures.rest, ap length c.u32_at-domain.ensures.rest, c.read_session-session.ensures.size, ap length c.u32_at-place.ensures.rest, ap length c.u32_at-octets.ensures.rest)

pub returns : goal.returns
returns c = grind (arith, common_steps)
