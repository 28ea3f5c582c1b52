use Rattle.std.proofs.Common.{◌≡◌, ◌+◌, ◌-◌, length-drop, length-take, arith, subst, ◌∙◌, drop, rules, None, Some}
use Rattle.std.proofs.lemmas.List.{take_rest}
use Rattle.devices.specs.Transfers.{Offers, none, took, failed}
use Rattle.devices.proofs.Known.{append_known-take}
use Rattle.devices.proofs.put.put_all.Goals as goal

pub loop-taken-init : goal.loop-taken-init
loop-taken-init g c = record {
  fits = search rules;
  holds = search rules;
  unfailed = search rules;
  offers = none;
  steady = search rules;
}

pub loop-taken-preserved : goal.loop-taken-preserved
loop-taken-preserved g c =
    let text = c.args.text.now in
    let taken = c.loop-taken.taken in
    let more = c.in_ok-taken.field-0 in
    let rest = simp (length-take, length-drop) at c.in_ok-taken.ensures.fits in
    record {
      fits = omega (arith, rest);
      holds = append_known-take _ _ _ taken more text c.loop-taken.invariant.holds c.in_ok-taken.ensures.taken;
      unfailed = c.in_ok-taken.ensures.unfailed ∙ c.loop-taken.invariant.unfailed;
      offers =
          took c.loop-taken.invariant.offers (omega arith)
          (subst (λ piece. g.K.Sink.IsPut c.loop-taken.out piece (Some more) c.put.new.self) (take_rest text taken) c.in_ok-taken.ensures.put);
      steady = λ n takes room.
          let now = c.loop-taken.invariant.steady n takes room in
          let then = c.in_ok-taken.ensures.steady (n - taken) now (simp (length-take, length-drop) (omega arith)) in
          let same : n - taken - more ≡ n - (taken + more) = omega arith in
          subst (λ k. g.K.Sink.Takes c.put.new.self k) same then;
    }

pub returns-in_err-taken-clause-offers_front : goal.returns-in_err-taken-clause-offers_front
returns-in_err-taken-clause-offers_front g c =
    let text = c.args.text.now in
    let offered : g.K.Sink.IsPut c.loop-taken.out (drop c.loop-taken.taken text) None c.put.new.self =
    subst (λ piece. g.K.Sink.IsPut c.loop-taken.out piece None c.put.new.self) (take_rest text c.loop-taken.taken) c.in_err-taken.ensures.put in
    let offers : Offers g.K.Sink.IsPut text c.args.out.now None c.put.new.self =
    failed c.loop-taken.invariant.offers (omega arith) offered in
    search (rules, offers)
