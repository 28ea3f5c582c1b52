-- Translations that stand at a pair of signs are told by one of them, and two such sets by two.
use Rattle.std.proofs.Common.{◌≡◌, ℤ, pos, ◌+ℤ◌, ◌-ℤ◌, ◌*ℤ◌, subst, arith}
use Rattle.std.specs.Prelude.{⊤, Option, Some, None}
use Rattle.std.proofs.lemmas.Int.{ints}
use Rattle.fractions.specs.Parts.{edge}

-- nothing has the property, or exactly one number and those whole edges away
abbrev pub Shows : (ℤ → Type 0) → Option ℤ → Type 0
Shows H None = (u : ℤ) → ¬ (H u)
Shows H (Some t) = ((k : ℤ) → H (t +ℤ k *ℤ edge)) × ((u : ℤ) → H u → (k : ℤ) × (u ≡ t +ℤ k *ℤ edge))

-- both are nothing, or the one is the other, moved by m, but for whole edges
abbrev pub Agree : ℤ → Option ℤ → Option ℤ → Type 0
Agree m None None = ⊤
Agree m None (Some v) = ⊥
Agree m (Some t) None = ⊥
Agree m (Some t) (Some v) = (k : ℤ) × (t ≡ v +ℤ m +ℤ k *ℤ edge)

-- the numbers with the one property are those with the other, moved by m
pub record Moves (m : ℤ) (H L : ℤ → Type 0) : Type 0 where
  pub forth : (u : ℤ) → H u → L (u -ℤ m)
  pub back : (u : ℤ) → L (u -ℤ m) → H u

pub itself : (H : ℤ → Type 0) (t : ℤ) → Shows H (Some t) → H t
itself H t a = subst H (omega (arith, ints)) (a.0 (pos 0))

pub agree : (m : ℤ) (H L : ℤ → Type 0) (s v : Option ℤ) → Shows H s → Shows L v → Moves m H L → Agree m s v
agree m H L None None a b h = tt
agree m H L None (Some v) a b h = a (v +ℤ m) (h.back (v +ℤ m) (subst L (omega (arith, ints)) (itself L v b)))
agree m H L (Some t) None a b h = b (t -ℤ m) (h.forth t (itself H t a))
agree m H L (Some t) (Some v) a b h = let (k, e) = b.1 (t -ℤ m) (h.forth t (itself H t a)) in (k, omega (arith, ints))

pub moves : (m : ℤ) (H L : ℤ → Type 0) (s v : Option ℤ) → Shows H s → Shows L v → Agree m s v → Moves m H L
moves m H L None None a b g = record { forth = λ u h. absurd (a u h); back = λ u h. absurd (b (u -ℤ m) h) }
moves m H L None (Some v) a b g = absurd g
moves m H L (Some t) None a b g = absurd g
moves m H L (Some t) (Some v) a b (k, e) = record {
  forth = λ u h. let (j, f) = a.1 u h in let is : v +ℤ (k +ℤ j) *ℤ edge ≡ u -ℤ m = omega (arith, ints) in subst L is (b.0 (k +ℤ j));
  back = λ u h. let (j, f) = b.1 (u -ℤ m) h in let is : t +ℤ (j -ℤ k) *ℤ edge ≡ u = omega (arith, ints) in subst H is (a.0 (j -ℤ k));
}
