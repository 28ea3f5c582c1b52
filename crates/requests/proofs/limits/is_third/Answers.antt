use Rattle.std.proofs.Common.{rules, ◌≡◌, FitsSigned, w64}
use Rattle.requests.proofs.ThirdIndices.{zero_sum}
use Rattle.requests.proofs.limits.is_third.Goals as goal

pub returns-in-Some : goal.returns-in-Some
returns-in-Some c =
    let h : c.from.result ≡ c.args.words.h = search rules in
    let k : c.from-in-Some.result ≡ c.args.words.k = search rules in
    let i : c.from-in-Some-2.result ≡ c.in-Some.i = search rules in
    let h_fits : FitsSigned w64 c.args.words.h = search rules in
    let k_fits : FitsSigned w64 c.args.words.k = search rules in
    let i_fits : FitsSigned w64 c.in-Some.i = search rules in
    rw (c.in-Some.is, h, k, i) (zero_sum c.args.words.h c.args.words.k c.in-Some.i h_fits k_fits i_fits)
