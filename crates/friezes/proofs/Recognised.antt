-- The type and the origin are told by the translations at three pairs of signs.
use Rattle.std.proofs.Common.{◌≡◌, ℕ, ◌<◌, ◌≤◌, ◌⊎◌, inl, inr, ℤ, pos, ◌+ℤ◌, ◌-ℤ◌, ◌*ℤ◌, ◌≤ℤ◌, ◌<ℤ◌, refl, sym, ap, subst, arith, List, Bool, true, false}
use Rattle.std.specs.Prelude.{⊤, All, MatchOption, Option, Some, None, cond, unsigned_abs}
use Rattle.std.specs.Ordering.{int_eq}
use Rattle.std.proofs.lemmas.Int.{ints}
use Rattle.fractions.specs.declared.part.TheConstants.{UNIT}
use Rattle.fractions.specs.Parts.{edge, rest_of_edge}
use Rattle.motions.specs.declared.motion.Sign.{Sign}
use Rattle.motions.specs.declared.motion.Sign.TheVariants.{Plus, Minus}
use Rattle.friezes.specs.declared.line_op.LineOp.{LineOp}
use Rattle.friezes.specs.declared.found_frieze.TheConstants.{GRID}
use Rattle.friezes.specs.Laws.ShiftLaws.{divided, one_rest}
use Rattle.friezes.specs.Order.{Change, IsBounded, IsFirst}
use Rattle.friezes.specs.Sections.{IsSection}
use Rattle.friezes.specs.Told.{StandsAt, mirror_or_glide, number_of, origin_of}
use Rattle.friezes.specs.Types.{HasChange}
use Rattle.friezes.proofs.Agreement.{Agree, Shows, agree, itself, moves}
use Rattle.friezes.proofs.Bridge.{InList, carries_moves, moved, moves_carries}
use Rattle.friezes.proofs.SectionShape.{plain, product, section_shows}
use Rattle.friezes.proofs.TypeShape.{seven, shape, type_shows}

-- ---- a mirror or a glide

abbrev IsEdges : ℤ → Type 0
IsEdges t = (k : ℤ) × (t ≡ k *ℤ edge)

abbrev IsHalfAnEdge : ℤ → Type 0
IsHalfAnEdge t = (k : ℤ) × (t ≡ UNIT +ℤ k *ℤ edge)

mirror_is : (a b : ℕ) (t : ℤ) → IsEdges t → mirror_or_glide a b t ≡ a
mirror_is a b t (k, e) = ap (λ r. cond (int_eq r (pos 0)) a b) (one_rest t k (pos 0) (omega (arith, ints)) (omega (arith, ints)) (omega (arith, ints)))

glide_is : (a b : ℕ) (t : ℤ) → IsHalfAnEdge t → mirror_or_glide a b t ≡ b
glide_is a b t (k, e) = ap (λ r. cond (int_eq r (pos 0)) a b) (one_rest t k UNIT e (omega (arith, ints)) (omega (arith, ints)))

-- twice the translation is whole edges
half_or_whole : (t k : ℤ) → t +ℤ t ≡ k *ℤ edge → IsEdges t ⊎ IsHalfAnEdge t
half_or_whole t k e =
    let d = divided t in
    let least = d.least in
    let below = d.below in
    let is = d.is in
    elim (rests (rest_of_edge t) (k -ℤ pos 2 *ℤ d.edges) least below (omega (arith, ints))) [
      | inl z ↦ inl (d.edges, omega (arith, ints))
      | inr h ↦ inr (d.edges, omega (arith, ints))
    ]
  where
    rests : (r k : ℤ) → pos 0 ≤ℤ r → r <ℤ edge → r +ℤ r ≡ k *ℤ edge → (r ≡ pos 0) ⊎ (r ≡ UNIT)
    rests r k l b e = grind (arith, ints)

-- ---- the least origin

least_rest : (t : ℤ) (x : ℕ) (k : ℤ) → t ≡ pos x +ℤ k *ℤ edge → unsigned_abs (rest_of_edge t) ≤ x
least_rest t x k e = let d = divided t in let least = d.least in let below = d.below in let is = d.is in omega (arith, ints)

rest_size : (t : ℤ) → pos (unsigned_abs (rest_of_edge t)) ≡ rest_of_edge t
rest_size t = let d = divided t in let least = d.least in omega (arith, ints)

rest_below : (t : ℤ) → unsigned_abs (rest_of_edge t) < GRID
rest_below t = let d = divided t in let least = d.least in let below = d.below in omega (arith, ints)

pub origin_below : (turn mirror : Option ℤ) → origin_of turn mirror < GRID
origin_below (Some t) q = rest_below t
origin_below None (Some t) = rest_below t
origin_below None None = omega arith

-- ---- the number

either : (a b : ℕ) (t : ℤ) → 1 ≤ a → a ≤ 7 → 1 ≤ b → b ≤ 7 → (1 ≤ mirror_or_glide a b t) × (mirror_or_glide a b t ≤ 7)
either a b t h k i j = by (int_eq (rest_of_edge t) (pos 0))
  where
    by : (c : Bool) → (1 ≤ cond c a b) × (cond c a b ≤ 7)
    by true = (h, k)
    by false = (i, j)

pub number_within : (glide mirror turn : Option ℤ) → (1 ≤ number_of glide mirror turn) × (number_of glide mirror turn ≤ 7)
number_within None None None = (omega arith, omega arith)
number_within None None (Some h) = (omega arith, omega arith)
number_within None (Some q) h = (omega arith, omega arith)
number_within (Some p) q None = either 4 5 p (omega arith) (omega arith) (omega arith) (omega arith)
number_within (Some p) q (Some h) = either 6 7 p (omega arith) (omega arith) (omega arith) (omega arith)

-- ---- what products say of the three translations

abbrev IsTwiceWhole : ℤ → Type 0
IsTwiceWhole p = (k : ℤ) × (p +ℤ p ≡ k *ℤ edge)

-- the glide is half an edge or none; and of the glide, the mirror and the half-turn one is the product of the other two
abbrev AreClosed : Option ℤ → Option ℤ → Option ℤ → Type 0
AreClosed None None None = ⊤
AreClosed None None (Some h) = ⊤
AreClosed None (Some q) None = ⊤
AreClosed None (Some q) (Some h) = ⊥
AreClosed (Some p) None None = IsTwiceWhole p
AreClosed (Some p) None (Some h) = ⊥
AreClosed (Some p) (Some q) None = ⊥
AreClosed (Some p) (Some q) (Some h) = IsTwiceWhole p × ((k : ℤ) × (q ≡ h +ℤ p +ℤ k *ℤ edge))

module _ (section : List LineOp) (is : IsSection section) where
  abbrev H : Sign → Sign → ℤ → Type 0
  H = InList section

  twice : (p : ℤ) → Shows (H Plus Minus) (Some p) → IsTwiceWhole p
  twice p a =
      let (k, e) = (plain section is).1 (pos 1 *ℤ p +ℤ p) (product section is Plus Minus Plus Minus p p (itself (H Plus Minus) p a) (itself (H Plus Minus) p a)) in
      (k, omega (arith, ints))

  closed : (glide mirror turn : Option ℤ) → Shows (H Plus Minus) glide → Shows (H Minus Plus) mirror → Shows (H Minus Minus) turn → AreClosed glide mirror turn
  closed None None None a b c = tt
  closed None None (Some h) a b c = tt
  closed None (Some q) None a b c = tt
  closed None (Some q) (Some h) a b c = a _ (product section is Minus Plus Minus Minus q h (itself (H Minus Plus) q b) (itself (H Minus Minus) h c))
  closed (Some p) None None a b c = twice p a
  closed (Some p) None (Some h) a b c = b _ (product section is Plus Minus Minus Minus p h (itself (H Plus Minus) p a) (itself (H Minus Minus) h c))
  closed (Some p) (Some q) None a b c = c _ (product section is Plus Minus Minus Plus p q (itself (H Plus Minus) p a) (itself (H Minus Plus) q b))
  closed (Some p) (Some q) (Some h) a b c =
      let (k, e) = c.1 _ (product section is Plus Minus Minus Plus p q (itself (H Plus Minus) p a) (itself (H Minus Plus) q b)) in
      (twice p a, (k, omega (arith, ints)))

-- ---- the change carries the section

-- what stands at each pair of signs
abbrev at : Option ℤ → Option ℤ → Option ℤ → Sign → Sign → Option ℤ
at glide mirror turn Plus Plus = Some (pos 0)
at glide mirror turn Plus Minus = glide
at glide mirror turn Minus Plus = mirror
at glide mirror turn Minus Minus = turn

abbrev Fits : Option ℤ → Option ℤ → Option ℤ → ℕ → ℕ → Type 0
Fits glide mirror turn n x = (f e : Sign) → Agree (moved f x) (at glide mirror turn f e) (shape n f e)

four : (glide mirror turn : Option ℤ) (n x : ℕ) → Agree (pos 0) (Some (pos 0)) (shape n Plus Plus) → Agree (pos 0) glide (shape n Plus Minus)
    → Agree (pos x) mirror (shape n Minus Plus) → Agree (pos x) turn (shape n Minus Minus) → Fits glide mirror turn n x
four glide mirror turn n x a b c d Plus Plus = a
four glide mirror turn n x a b c d Plus Minus = b
four glide mirror turn n x a b c d Minus Plus = c
four glide mirror turn n x a b c d Minus Minus = d

nothing : (m : ℤ) → m ≡ pos 0 → Agree m (Some (pos 0)) (Some (pos 2 *ℤ pos 0))
nothing m e = (pos 0, omega (arith, ints))

-- at the least origin a translation is whole edges
at_rest : (t : ℤ) → Agree (pos (unsigned_abs (rest_of_edge t))) (Some t) (Some (pos 2 *ℤ pos 0))
at_rest t = let d = divided t in let size = rest_size t in let is = d.is in (d.edges, omega (arith, ints))

fits : (glide mirror turn : Option ℤ) → AreClosed glide mirror turn → Fits glide mirror turn (number_of glide mirror turn) (origin_of turn mirror)
fits None None None c = four None None None 1 0 (nothing (pos 0) refl) tt tt tt
fits None None (Some h) c = four None None (Some h) 2 _ (nothing (pos 0) refl) tt tt (at_rest h)
fits None (Some q) None c = four None (Some q) None 3 _ (nothing (pos 0) refl) tt (at_rest q) tt
fits None (Some q) (Some h) c = absurd c
fits (Some p) None None (k, e) =
    elim (half_or_whole p k e) [
      | inl (j, w) ↦ subst (λ n. Fits (Some p) None None n 0) (sym (mirror_is 4 5 p (j, w)))
          (four (Some p) None None 4 0 (nothing (pos 0) refl) (j, omega (arith, ints)) tt tt)
      | inr (j, w) ↦ subst (λ n. Fits (Some p) None None n 0) (sym (glide_is 4 5 p (j, w)))
          (four (Some p) None None 5 0 (nothing (pos 0) refl) (j, omega (arith, ints)) tt tt)
    ]
fits (Some p) None (Some h) c = absurd c
fits (Some p) (Some q) None c = absurd c
fits (Some p) (Some q) (Some h) ((k, e), (l, f)) =
    let (m, at_turn) = at_rest h in
    let x = unsigned_abs (rest_of_edge h) in
    elim (half_or_whole p k e) [
      | inl (j, w) ↦ subst (λ n. Fits (Some p) (Some q) (Some h) n x) (sym (mirror_is 6 7 p (j, w)))
          (four (Some p) (Some q) (Some h) 6 x (nothing (pos 0) refl) (j, omega (arith, ints)) (l +ℤ j +ℤ m, omega (arith, ints)) (m, at_turn))
      | inr (j, w) ↦ subst (λ n. Fits (Some p) (Some q) (Some h) n x) (sym (glide_is 6 7 p (j, w)))
          (four (Some p) (Some q) (Some h) 7 x (nothing (pos 0) refl) (j, omega (arith, ints)) (l +ℤ j +ℤ m, omega (arith, ints)) (m, at_turn))
    ]

-- ---- no other number does, and no lesser origin

record IsTold (glide mirror turn : Option ℤ) (n x : ℕ) : Type 0 where
  number : n ≡ number_of glide mirror turn
  origin : origin_of turn mirror ≤ x

-- of one type: what stands at the three pairs of signs of a section that is carried onto it
abbrev IsOnly : ℕ → Type 0
IsOnly n =
    (x : ℕ) (glide mirror turn : Option ℤ) → Agree (pos 0) glide (shape n Plus Minus) → Agree (pos x) mirror (shape n Minus Plus)
    → Agree (pos x) turn (shape n Minus Minus) → IsTold glide mirror turn n x

p1 : IsOnly 1
p1 x None None None a b c = record { number = refl; origin = omega arith }
p1 x (Some p) q h a b c = absurd a
p1 x None (Some q) h a b c = absurd b
p1 x None None (Some h) a b c = absurd c

p211 : IsOnly 2
p211 x None None (Some h) a b (k, e) = record { number = refl; origin = least_rest h x k (omega (arith, ints)) }
p211 x (Some p) q h a b c = absurd a
p211 x None (Some q) h a b c = absurd b
p211 x None None None a b c = absurd c

p1m1 : IsOnly 3
p1m1 x None (Some q) None a (k, e) c = record { number = refl; origin = least_rest q x k (omega (arith, ints)) }
p1m1 x (Some p) q h a b c = absurd a
p1m1 x None None h a b c = absurd b
p1m1 x None (Some q) (Some h) a b c = absurd c

p11m : IsOnly 4
p11m x (Some p) None None (k, e) b c = record { number = sym (mirror_is 4 5 p (k, omega (arith, ints))); origin = omega arith }
p11m x None q h a b c = absurd a
p11m x (Some p) (Some q) h a b c = absurd b
p11m x (Some p) None (Some h) a b c = absurd c

p11g : IsOnly 5
p11g x (Some p) None None (k, e) b c = record { number = sym (glide_is 4 5 p (k, omega (arith, ints))); origin = omega arith }
p11g x None q h a b c = absurd a
p11g x (Some p) (Some q) h a b c = absurd b
p11g x (Some p) None (Some h) a b c = absurd c

p2mm : IsOnly 6
p2mm x (Some p) (Some q) (Some h) (k, e) b (l, f) =
    record { number = sym (mirror_is 6 7 p (k, omega (arith, ints))); origin = least_rest h x l (omega (arith, ints)) }
p2mm x None q h a b c = absurd a
p2mm x (Some p) None h a b c = absurd b
p2mm x (Some p) (Some q) None a b c = absurd c

p2mg : IsOnly 7
p2mg x (Some p) (Some q) (Some h) (k, e) b (l, f) =
    record { number = sym (glide_is 6 7 p (k, omega (arith, ints))); origin = least_rest h x l (omega (arith, ints)) }
p2mg x None q h a b c = absurd a
p2mg x (Some p) None h a b c = absurd b
p2mg x (Some p) (Some q) None a b c = absurd c

only : (n : ℕ) → 1 ≤ n → n ≤ 7 → IsOnly n
only = seven IsOnly p1 p211 p1m1 p11m p11g p2mm p2mg

-- ---- the first change

abbrev HasNone : List LineOp → Sign → Sign → Type 0
HasNone section f e = All (λ m. ¬ ((m.f ≡ f) × (m.e ≡ e))) section

module _ (section : List LineOp) (is : IsSection section) (glide mirror turn : Option ℤ)
    (g : MatchOption glide (HasNone section Plus Minus) (StandsAt section Plus Minus))
    (q : MatchOption mirror (HasNone section Minus Plus) (StandsAt section Minus Plus))
    (h : MatchOption turn (HasNone section Minus Minus) (StandsAt section Minus Minus)) where
  shows : (f e : Sign) → Shows (InList section f e) (at glide mirror turn f e)
  shows Plus Plus = plain section is
  shows Plus Minus = section_shows section is Plus Minus glide g
  shows Minus Plus = section_shows section is Minus Plus mirror q
  shows Minus Minus = section_shows section is Minus Minus turn h

  abbrev told : Change
  told = record { number = number_of glide mirror turn; x = origin_of turn mirror }

  has_told : HasChange section told
  has_told =
      let (from, to) = number_within glide mirror turn in
      let agrees = fits glide mirror turn (closed section is glide mirror turn (shows Plus Minus) (shows Minus Plus) (shows Minus Minus)) in
      moves_carries section told.number told.x
      (λ f e. moves (moved f told.x) (InList section f e) _ (at glide mirror turn f e) (shape told.number f e) (shows f e) (type_shows told.number from to f e) (agrees f e))

  is_told : (d : Change) → IsBounded d → HasChange section d → IsTold glide mirror turn d.number d.x
  is_told d b has =
      let all = carries_moves section d.number d.x has in
      let agrees : (f e : Sign) → Agree (moved f d.x) (at glide mirror turn f e) (shape d.number f e) =
      λ f e. agree (moved f d.x) (InList section f e) _ (at glide mirror turn f e) (shape d.number f e) (shows f e) (type_shows d.number b.from b.to f e) (all f e) in
      only d.number b.from b.to d.x glide mirror turn (agrees Plus Minus) (agrees Minus Plus) (agrees Minus Minus)

  pub first_change : IsFirst (HasChange section) told
  first_change = record {
    bounded = record { from = (number_within glide mirror turn).0; to = (number_within glide mirror turn).1; x = origin_below turn mirror };
    has = has_told;
    first = λ d b has.
        let t = is_told d b has in
        elim (same_or_less told.x d.x t.origin) [
          | inl same ↦ inl (λ i. record { number = t.number i; x = sym same i })
          | inr less ↦ inr (inr (sym t.number, less))
        ];
  }
    where
      same_or_less : (x y : ℕ) → x ≤ y → (x ≡ y) ⊎ (x < y)
      same_or_less x y h = grind arith
