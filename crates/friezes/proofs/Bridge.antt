-- A change carries a section onto a type exactly where it moves the translations at each pair of signs onto each other.
use Rattle.std.proofs.Common.{◌≡◌, ℕ, ℤ, pos, ◌+ℤ◌, ◌-ℤ◌, ◌*ℤ◌, ◌≤ℤ◌, refl, sym, ◌∙◌, ap, subst, arith, List}
use Rattle.std.proofs.lemmas.Int.{ints}
use Rattle.fractions.specs.declared.part.TheConstants.{UNIT}
use Rattle.fractions.specs.Fraction.{SameFraction, IsWhole, fraction_minus}
use Rattle.fractions.specs.Parts.{edge}
use Rattle.quotient.specs.Closure.{IsFactor, IsProduct}
use Rattle.motions.specs.declared.motion.Sign.{Sign}
use Rattle.motions.specs.declared.motion.Sign.TheVariants.{Plus, Minus}
use Rattle.motions.specs.Signs.{sign_value}
use Rattle.motions.specs.FriezeMotions.{FriezeOperation, frieze_translation}
use Rattle.line_types.specs.Lines.{modulo_lattice}
use Rattle.line_types.specs.Friezes.{frieze_line}
use Rattle.line_types.specs.FriezeRows.{frieze_row}
use Rattle.line_types.specs.Laws.FriezeLaws.{frieze_line_laws}
use Rattle.friezes.specs.declared.line_op.LineOp.{LineOp}
use Rattle.friezes.specs.declared.found_frieze.TheConstants.{GRID}
use Rattle.friezes.specs.RationalLines.{RationalLine, IsRationalLine, IsListedLine, half_parts}
use Rattle.friezes.specs.Changes.{CarriesOnto, IsCarried, grid_part, origin_moved}
use Rattle.friezes.specs.Types.{IsOfFriezeType}
use Rattle.friezes.specs.Told.{StandsAt}
use Rattle.friezes.proofs.Agreement.{Moves}
use Rattle.friezes.proofs.RationalShifts.{doubled, from_edges, from_whole, to_edges, to_whole}

-- a translation by u half parts stands in a list at these signs, but for whole edges
pub record InList (section : List LineOp) (f e : Sign) (u : ℤ) : Type 0 where
  pub listed : ℤ
  pub stands : StandsAt section f e listed
  pub times : ℤ
  pub is : u ≡ listed +ℤ times *ℤ edge

-- it stands in a type
pub record InType (n : ℕ) (f e : Sign) (u : ℤ) : Type 0 where
  pub operation : FriezeOperation
  pub product : IsProduct (modulo_lattice frieze_line) (frieze_row n).generators operation
  pub along : operation.along ≡ f
  pub across : operation.across ≡ e
  pub is : u ≡ pos 2 *ℤ operation.translation

-- how far a motion with the sign moves the origin x, in half parts
abbrev pub moved : Sign → ℕ → ℤ
moved Plus x = pos 0
moved Minus x = pos x

-- the motion with a translation in half parts, as one of rationals
abbrev at : Sign → Sign → ℤ → RationalLine
at f e u = record { along = f; across = e; translation = half_parts u }

edge_positive : pos 1 ≤ℤ edge
edge_positive = omega (arith, ints)

-- what is one of rationals is counted in half parts
record IsCounted (H : Sign → Sign → ℤ → Type 0) (op : RationalLine) : Type 0 where
  u : ℤ
  stands : H op.along op.across u
  same : SameFraction op.translation (half_parts u)

listed_to : (section : List LineOp) (op : RationalLine) → IsListedLine section op → IsCounted (InList section) op
listed_to section op h =
    let (k, whole) = h.translation in
    record {
      u = h.motion.t +ℤ k *ℤ edge;
      stands = record {
        listed = h.motion.t;
        stands = record { motion = h.motion; listed = h.listed; along = sym h.along; across = sym h.across; translation = refl };
        times = k;
        is = refl;
      };
      same = to_edges edge op.translation.den op.translation.num h.motion.t k whole;
    }

listed_from : (section : List LineOp) (op : RationalLine) (u : ℤ) → InList section op.along op.across u → SameFraction op.translation (half_parts u)
    → IsListedLine section op
listed_from section op u h same =
    let m = h.stands.motion in
    let far : u ≡ m.t +ℤ h.times *ℤ edge = h.is ∙ ap (λ t. t +ℤ h.times *ℤ edge) (sym h.stands.translation) in
    record {
      motion = m;
      listed = h.stands.listed;
      along = sym h.stands.along;
      across = sym h.stands.across;
      translation = (h.times, from_edges edge op.translation.den op.translation.num m.t h.times (same ∙ ap (λ t. t *ℤ op.translation.den) far));
    }

type_to : (n : ℕ) (op : RationalLine) → IsOfFriezeType n op → IsCounted (InType n) op
type_to n op h = record {
  u = pos 2 *ℤ h.operation.translation;
  stands = record { operation = h.operation; product = h.product; along = sym h.along; across = sym h.across; is = refl };
  same = doubled UNIT op.translation.den op.translation.num h.operation.translation h.translation;
}

type_from : (n : ℕ) (f e : Sign) (u : ℤ) → InType n f e u → IsOfFriezeType n (at f e u)
type_from n f e u h =
    let is = h.is in
    record { operation = h.operation; product = h.product; along = sym h.along; across = sym h.across; translation = omega (arith, ints) }

-- a type has whole edges as translations
type_moved : (n : ℕ) (f e : Sign) (u k : ℤ) → InType n f e u → InType n f e (u +ℤ k *ℤ edge)
type_moved n f e u k h =
    let is = h.is in
    let o = h.operation in
    let by = frieze_translation (k *ℤ UNIT) in
    let shift : (modulo_lattice frieze_line).IsShift by = (frieze_line.translation_by (k *ℤ UNIT), record { times = k; is = refl }, refl) in
    record {
      operation = record o { translation = o.translation +ℤ k *ℤ UNIT };
      product = subst (IsProduct (modulo_lattice frieze_line) (frieze_row n).generators) (frieze_line_laws.after o (k *ℤ UNIT))
          (IsProduct.further o by h.product (IsFactor.shift shift));
      along = h.along;
      across = h.across;
      is = omega (arith, ints);
    }

-- the point x of the grid, moved by a motion, in half parts
moved_is : (f : Sign) (x : ℕ) → (pos x -ℤ sign_value f *ℤ pos x) *ℤ edge ≡ moved f x *ℤ pos GRID
moved_is Plus x = omega (arith, ints)
moved_is Minus x = omega (arith, ints)

-- a motion of rationals and one of the type that is counted in half parts
module _ (x : ℕ) (op like : RationalLine) (v : ℤ) (counted : SameFraction like.translation (half_parts v)) where
  abbrev Rest : Type 0
  Rest = IsWhole (fraction_minus (fraction_minus op.translation like.translation) (origin_moved (sign_value op.along) (grid_part x)))

  abbrev drift : ℤ
  drift = pos x -ℤ sign_value op.along *ℤ pos x

  rest_to : (k : ℤ) → SameFraction op.translation (half_parts (v +ℤ moved op.along x +ℤ k *ℤ edge)) → Rest
  rest_to k same =
      (k, to_whole edge (pos GRID) op.translation.den like.translation.den op.translation.num like.translation.num v drift (moved op.along x) k counted (moved_is op.along x) edge_positive same)

  rest_from : IsRationalLine like → Rest → (k : ℤ) × SameFraction op.translation (half_parts (v +ℤ moved op.along x +ℤ k *ℤ edge))
  rest_from rational (k, whole) = (
    k,
    from_whole edge (pos GRID) op.translation.den like.translation.den op.translation.num like.translation.num v drift (moved op.along x) k counted (moved_is op.along x) rational
        (omega (arith, ints)) whole,
  )

one_number : (u v : ℤ) → SameFraction (half_parts u) (half_parts v) → u ≡ v
one_number u v e = omega (arith, ints)

module _ (section : List LineOp) (n x : ℕ) where
  abbrev Carries : Type 0
  Carries = CarriesOnto (IsListedLine section) (IsOfFriezeType n) (grid_part x)

  abbrev pub AllMove : Type 0
  AllMove = (f e : Sign) → Moves (moved f x) (InList section f e) (InType n f e)

  in_list : (f e : Sign) (u : ℤ) → InList section f e u → IsListedLine section (at f e u)
  in_list f e u h = listed_from section (at f e u) u h refl

  -- what the change makes of a listed motion
  made : (f e : Sign) (u : ℤ) → (like : RationalLine) → IsRationalLine like → IsOfFriezeType n like → IsCarried (grid_part x) (at f e u) like
      → InType n f e (u -ℤ moved f x)
  made f e u like rational is carried =
      let c = type_to n like is in
      let (k, same) = rest_from x (at f e u) like c.u c.same rational carried.translation in
      let far : u ≡ c.u +ℤ moved f x +ℤ k *ℤ edge = one_number u (c.u +ℤ moved f x +ℤ k *ℤ edge) same in
      let less : c.u +ℤ k *ℤ edge ≡ u -ℤ moved f x = omega (arith, ints) in
      let there : InType n f e c.u = subst (λ s. InType n f s c.u) (sym carried.across) (subst (λ s. InType n s like.across c.u) (sym carried.along) c.stands) in
      subst (InType n f e) less (type_moved n f e c.u k there)

  -- the motion of the type with the translation without what the origin moves
  carried_by : (op : RationalLine) (u : ℤ) → SameFraction op.translation (half_parts u) → IsCarried (grid_part x) op (at op.along op.across (u -ℤ moved op.along x))
  carried_by op u same =
      let v = u -ℤ moved op.along x in
      let is : u ≡ v +ℤ moved op.along x +ℤ pos 0 *ℤ edge = omega (arith, ints) in
      record {
        along = refl;
        across = refl;
        translation = rest_to x op (at op.along op.across v) v refl (pos 0) (subst (λ t. SameFraction op.translation (half_parts t)) is same);
      }

  pub carries_moves : Carries → AllMove
  carries_moves h f e = record {
    forth = λ u s. let (like, rational, is, carried) = (h (at f e u) edge_positive).0 (in_list f e u s) in made f e u like rational is carried;
    back = λ u s.
        let v = u -ℤ moved f x in
        let in_it = (h (at f e u) edge_positive).1 (at f e v, edge_positive, type_from n f e v s, carried_by (at f e u) u refl) in
        let c = listed_to section (at f e u) in_it in
        subst (InList section f e) (sym (one_number u c.u c.same)) c.stands;
  }

  pub moves_carries : AllMove → Carries
  moves_carries h op rational = (
    λ in_it.
        let c = listed_to section op in_it in
        let v = c.u -ℤ moved op.along x in
        (at op.along op.across v, edge_positive, type_from n op.along op.across v ((h op.along op.across).forth c.u c.stands), carried_by op c.u c.same),
    λ (like, high, is, carried).
        let c = type_to n like is in
        let (k, same) = rest_from x op like c.u c.same high carried.translation in
        let there : InType n op.along op.across c.u =
        subst (λ s. InType n op.along s c.u) (sym carried.across) (subst (λ s. InType n s like.across c.u) (sym carried.along) c.stands) in
        let u = c.u +ℤ moved op.along x +ℤ k *ℤ edge in
        let less : c.u +ℤ k *ℤ edge ≡ u -ℤ moved op.along x = omega (arith, ints) in
        listed_from section op u ((h op.along op.across).back u (subst (InType n op.along op.across) less (type_moved n op.along op.across c.u k there))) same,
  )
