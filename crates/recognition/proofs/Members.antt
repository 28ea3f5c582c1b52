-- Lines and conditions as congruences, and the members of a class.
use Rattle.std.proofs.Common.{◌≡◌, ◌↔◌, ℕ, ◌+◌, ◌-◌, ◌*◌, ◌/◌, ◌%◌, ◌<◌, ◌≤◌, IsTrue, nat_eq, ℤ, pos, ◌+ℤ◌, ◌*ℤ◌, sym, ap, subst, ◌∙◌, arith}
use Rattle.std.specs.Prelude.{MatchOption, Option, None, Some}
use Rattle.std.proofs.lemmas.Bool.Decides.{Decides-eqb}
use Rattle.std.proofs.lemmas.Int.{ints}
use Rattle.std.proofs.Math.Nat.{mul-mod_left}
use native.Mathlib.Nat.{div-add-mod'}
use Rattle.recognition.specs.Grid.{grid}
use Rattle.recognition.specs.declared.classes.Class.{Class}
use Rattle.recognition.specs.declared.line.Condition.{Condition}
use Rattle.recognition.specs.declared.line.Line.{Line}
use Rattle.motions.specs.Rationals.{IsMultiple}
use Rattle.recognition.specs.Classes.{InClass, IsOnLine, Meets, Solves}

-- ---- members

pub member : (y step x : ℕ) → 1 ≤ step → x < grid → y ≤ x → IsTrue (nat_eq ((x - y) % step) 0) ↔ InClass y step x
member y step x one small le = (
  λ t. let e = (Decides-eqb ((x - y) % step) 0).0 t in (small, ((x - y) / step, split e)),
  λ (s, (k, e)). (Decides-eqb ((x - y) % step) 0).1 (ap (λ n. n % step) (rest k e) ∙ mul-mod_left k step),
)
  where
    split : (x - y) % step ≡ 0 → x ≡ y + (x - y) / step * step
    split e =
        let whole : (x - y) / step * step + (x - y) % step ≡ x - y = div-add-mod' (x - y) step in
        omega (arith, e, whole)

    rest : (k : ℕ) → x ≡ y + k * step → x - y ≡ k * step
    rest k e = omega (arith, e)

-- ---- x

nothing : (z v : ℤ) → z +ℤ pos 0 *ℤ v ≡ z
nothing z v = omega (arith, ints)

module _ (l : Line) (c a : ℤ) (e : c ≡ l.c) (f : a ≡ l.x) (none : l.y ≡ pos 0) where
  solves_x : (x y : ℕ) → IsOnLine l x y → Solves c a x
  solves_x x y h =
      subst (IsMultiple (pos grid))
      (ap (λ z. (l.c +ℤ l.x *ℤ pos x) +ℤ z *ℤ pos y) none ∙ nothing (l.c +ℤ l.x *ℤ pos x) (pos y) ∙ sym (λ i. e i +ℤ f i *ℤ pos x)) h

  pub by_x : (y step : ℕ) (o : Option Class)
      → MatchOption o ((v : ℕ) → InClass y step v → ¬ (Solves c a v)) (λ n. (v : ℕ) → InClass n.y n.step v ↔ (InClass y step v × Solves c a v))
      → MatchOption o ((x v : ℕ) → InClass y step x → ¬ (IsOnLine l x v)) (λ n. (x v : ℕ) → InClass y step x → IsOnLine l x v → InClass n.y n.step x)
  by_x y step None h = λ x v i on. h x i (solves_x x v on)
  by_x y step (Some n) h = λ x v i on. (h x).1 (i, solves_x x v on)

pub both_x : (c : Condition) (y step : ℕ) (half : Class) (o : Option Class)
    → ((x v : ℕ) → InClass y step x → IsOnLine c.first x v → InClass half.y half.step x)
    → MatchOption o ((x v : ℕ) → InClass half.y half.step x → ¬ (IsOnLine c.second x v)) (λ n. (x v : ℕ) → InClass half.y half.step x → IsOnLine c.second x v → InClass n.y n.step x)
    → MatchOption o ((x v : ℕ) → InClass y step x → ¬ (Meets c x v)) (λ n. (x v : ℕ) → InClass y step x → Meets c x v → InClass n.y n.step x)
both_x c y step half None f h = λ x v i m. h x v (f x v i m.first) m.second
both_x c y step half (Some n) f h = λ x v i m. h x v (f x v i m.first) m.second

-- ---- y

solves_is : (l : Line) (x : ℕ) (c a : ℤ) → c ≡ l.c +ℤ l.x *ℤ pos x → a ≡ l.y → (v : ℕ) → Solves c a v ↔ IsOnLine l x v
solves_is l x c a e f v =
    let is : c +ℤ a *ℤ pos v ≡ (l.c +ℤ l.x *ℤ pos x) +ℤ l.y *ℤ pos v = λ i. e i +ℤ f i *ℤ pos v in
    (subst (IsMultiple (pos grid)) is, subst (IsMultiple (pos grid)) (sym is))

module _ (k : Condition) (x y step : ℕ) (c a : ℤ) (e : c ≡ k.first.c +ℤ k.first.x *ℤ pos x) (f : a ≡ k.first.y) where
  pub none_of_first : ((v : ℕ) → InClass y step v → ¬ (Solves c a v)) → (v : ℕ) → InClass y step v → ¬ (Meets k x v)
  none_of_first none v i m = none v i ((solves_is k.first x c a e f v).1 m.first)

  pub both_y : (d b : ℤ) → d ≡ k.second.c +ℤ k.second.x *ℤ pos x → b ≡ k.second.y → (half : Class) (o : Option Class)
      → ((v : ℕ) → InClass half.y half.step v ↔ (InClass y step v × Solves c a v))
      → MatchOption o ((v : ℕ) → InClass half.y half.step v → ¬ (Solves d b v)) (λ n. (v : ℕ) → InClass n.y n.step v ↔ (InClass half.y half.step v × Solves d b v))
      → MatchOption o ((v : ℕ) → InClass y step v → ¬ (Meets k x v)) (λ n. (v : ℕ) → InClass n.y n.step v ↔ (InClass y step v × Meets k x v))
  both_y d b g h half None by none = λ v i m. none v ((by v).1 (i, (solves_is k.first x c a e f v).1 m.first)) ((solves_is k.second x d b g h v).1 m.second)
  both_y d b g h half (Some n) by some = λ v. (
    λ i.
        let (j, s) = (some v).0 i in
        let (l, r) = (by v).0 j in
        (l, record { first = (solves_is k.first x c a e f v).0 r; second = (solves_is k.second x d b g h v).0 s }),
    λ (i, m). (some v).1 ((by v).1 (i, (solves_is k.first x c a e f v).1 m.first), (solves_is k.second x d b g h v).1 m.second),
  )
