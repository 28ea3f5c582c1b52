use Rattle.std.proofs.Common.{rules, arith, ℕ, ◌≡◌, ◌≤◌, ◌∙◌, refl, sym, ap, drop, length, length-take, ◌+◌}
use Rattle.std.proofs.lemmas.List.{length-take-le, take-append-le}
use Rattle.std.proofs.lemmas.Result.{err_from_is_err_and}
use Rattle.std.specs.Io.KnownBytes.{IsAtEnd, prepend_known}
use Rattle.triplets.specs.TextReading.{bytes_fed}
use Rattle.requests.proofs.Reading.{text_obstacle}
use Rattle.requests.proofs.Pieces.{fault_at_end, fed_on, fed_within, nothing_more}
use Rattle.requests.proofs.input.read_listed.Goals as goal

pub returns-in_err-finish-clause-obstacle : goal.returns-in_err-finish-clause-obstacle
returns-in_err-finish-clause-obstacle g c =
    let p = err_from_is_err_and c.from_residual-in_err-finish.result c.from_residual-in_err-finish.ensures.1 in
    let same : g.S.Source.faults c.next.new.self ≡ g.S.Source.faults c.args.source.now = search rules in
    let end : IsAtEnd (g.S.Source.left c.next.new.self) = search rules in
    let all = nothing_more c.args.notation _ _ _ c.loop-reader.invariant.fed _ c.in_ok-given.given c.next.new.buf c.if-given-eq0.true c.in_ok-given.ensures.given in
    let few : bytes_fed c.loop-reader.reader ≤ 65536 = omega (arith, c.loop-reader.invariant.room) in
    rw (p.1, p.2) (text_obstacle (g.S.Source.left c.args.source.now) _ _ same c.args.notation c.in_err-finish.field-0.0
    (fault_at_end c.args.notation _ _ _ all end few c.in_err-finish.field-0.0 _ refl c.in_err-finish.ensures.again c.in_err-finish.ensures.answer))

pub returns-then-given-room-clause-within : goal.returns-then-given-room-clause-within
returns-then-given-room-clause-within g c =
    fed_within c.args.notation _ _ _ c.loop-reader.invariant.fed _ _ c.in_ok-given.ensures.given 65537
    (omega (arith, c.loop-reader.invariant.room, c.in_ok-given.ensures.fits, c.next.auto.buf, length-take {A = ℕ}))

pub loop-reader-preserved : goal.loop-reader-preserved
loop-reader-preserved g c =
    let h = c.feed.ensures in
    let front = take-append-le c.in_ok-given.given c.next.new.buf (drop (c.min-wanted.result + 1) c.loop-reader.piece) c.in_ok-given.ensures.fits in
    record {
      fed = fed_on c.args.notation _ _ _ c.loop-reader.invariant.fed _ _ (c.in_ok-given.ensures.given ∙ ap (λ piece. prepend_known piece (g.S.Source.left c.next.new.self)) (sym front)) _ _ h.fed h.stands h.again h.kept;
      room = omega (arith, h.fed, ap length front, length-take-le c.in_ok-given.given c.next.new.buf c.in_ok-given.ensures.fits, c.loop-reader.invariant.room, c.if-given-room.false);
      unfailed = search rules;
      steady = search rules;
    }
