use Rattle.std.proofs.Common.{ℕ, length-take, arith}
use Rattle.devices.proofs.Known.{reads_within, reads_more}
use Rattle.devices.proofs.read.read_all.Goals as goal

pub returns-then-given-room-clause-too_long : goal.returns-then-given-room-clause-too_long
returns-then-given-room-clause-too_long g c =
    reads_more _ _ _ c.loop-bytes.bytes.items _ _ _ c.in_ok-given.ensures.fits c.loop-bytes.invariant.given c.in_ok-given.ensures.given
    (omega (arith, c.loop-bytes.bytes.ok.0))

pub returns-then-given-room-clause-within : goal.returns-then-given-room-clause-within
returns-then-given-room-clause-within g c =
    reads_within _ _ _ c.loop-bytes.bytes.items _ _ _ c.in_ok-given.ensures.fits c.loop-bytes.invariant.given c.in_ok-given.ensures.given
    (omega (arith, c.loop-bytes.bytes.ok.0, c.in_ok-given.ensures.fits, c.next.auto.buf, length-take {A = ℕ}))

pub returns-in_err-extend_from_slice-clause-within :
    goal.returns-in_err-extend_from_slice-clause-within
returns-in_err-extend_from_slice-clause-within g c =
    reads_within _ _ _ c.loop-bytes.bytes.items _ _ _ c.in_ok-given.ensures.fits c.loop-bytes.invariant.given c.in_ok-given.ensures.given
    (omega (arith, c.loop-bytes.bytes.ok.0))
