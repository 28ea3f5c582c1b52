use Rattle.std.proofs.Common.{◌≡◌, ℕ, ◌∙◌, sym, ap, subst}
use Rattle.std.specs.Prelude.{Option, Some, None, MatchOption}
use Rattle.motions.specs.PlaneMatrices.{Matrix2}
use Rattle.motions.specs.PlaneSizes.{IsMatrix2Within}
use Rattle.recognition.specs.RodChanges.{Carries}
use Rattle.recognition.specs.Order.{size_of}
use Rattle.recognition.specs.RodOrigins.{IsLeastIn, IsNotIn}
use Rattle.recognition.specs.RodSearch.{matrix_at}
use Rattle.recognition.proofs.RodOrders.{bounded_at}
use Rattle.recognition.proofs.rod_search.try_place.Goals as goal

pub least_origin-requires-clause-p : goal.least_origin-requires-clause-p
least_origin-requires-clause-p c = subst (IsMatrix2Within 2) (sym c.matrix_at-p.ensures) (bounded_at c.args.i c.requires.i)

pub size_of-requires : goal.size_of-requires
size_of-requires c = subst (IsMatrix2Within 2) (sym c.matrix_at-p.ensures) (bounded_at c.args.i c.requires.i)

of_this_size : (E Nowhere : Type 0) (Least : ℕ → Type 0) (o : Option ℕ) → E → MatchOption o Nowhere Least → MatchOption o (E → Nowhere) (λ z. E × Least z)
of_this_size E Nowhere Least None e h = λ _. h
of_this_size E Nowhere Least (Some z) e h = (e, h)

pub returns : goal.returns
returns c =
    let At : Matrix2 → Type 0 = λ p. MatchOption c.least_origin.result (IsNotIn 96 (Carries c.args.section.now c.args.ops.now p)) (IsLeastIn 96 (Carries c.args.section.now c.args.ops.now p)) in
    let C = Carries c.args.section.now c.args.ops.now (matrix_at c.args.i) in
    of_this_size (size_of (matrix_at c.args.i) ≡ c.args.size) (IsNotIn 96 C) (IsLeastIn 96 C) c.least_origin.result (ap size_of (sym c.matrix_at-p.ensures) ∙ sym c.size_of.ensures ∙ c.if-size_of-size.false)
    (subst At c.matrix_at-p.ensures c.least_origin.ensures)
