-- The motions of a section: at each pair of signs none, or one but for whole edges; and their products.
use Rattle.std.proofs.Common.{◌≡◌, ◌<◌, ℤ, pos, ◌+ℤ◌, ◌-ℤ◌, ◌*ℤ◌, refl, sym, ◌∙◌, ap, subst, arith, List, length, map, slice_index_or}
use Rattle.std.specs.Prelude.{All, Contains, MatchOption, Option, Some, None}
use Rattle.std.proofs.lemmas.Int.{ints}
use Rattle.std.proofs.lemmas.List.{get_or-map, get_or_default, length-map}
use Rattle.std.proofs.lemmas.List.Elements.{All-contains}
use Rattle.fractions.specs.Parts.{edge}
use Rattle.motions.specs.declared.motion.Sign.{Sign}
use Rattle.motions.specs.declared.motion.Sign.TheVariants.{Plus, Minus}
use Rattle.motions.specs.Signs.{sign_product, sign_value}
use Rattle.motions.specs.Laws.SignLaws.{sign_product-same}
use Rattle.motions.specs.FriezeMotions.{FriezeOperation, frieze_followed_by, frieze_identity}
use Rattle.friezes.specs.declared.line_op.LineOp.{LineOp}
use Rattle.friezes.specs.Lines.{line_of}
use Rattle.friezes.specs.Laws.ShiftLaws.{same_to}
use Rattle.friezes.specs.Sections.{IsSection, IsTurnOrShift}
use Rattle.friezes.specs.Told.{StandsAt}
use Rattle.friezes.proofs.Agreement.{Shows}
use Rattle.friezes.proofs.Bridge.{InList}

some_motion : LineOp
some_motion = record { f = Plus; e = Plus; t = pos 0 }

-- a motion of the list is an operation of its meanings, and the other way round
pub contains_line : (list : List LineOp) (m : LineOp) → Contains list m → Contains (map line_of list) (line_of m)
contains_line list m (k, within, is) =
    (k, subst (λ l. k < l) (sym (length-map list line_of)) within, get_or-map line_of list k m (line_of m) within ∙ ap line_of is)

pub motion_of_line : (list : List LineOp) (o : FriezeOperation) → Contains (map line_of list) o → (m : LineOp) × Contains list m × (line_of m ≡ o)
motion_of_line list o (k, within, is) =
    let below : k < length list = subst (λ l. k < l) (length-map list line_of) within in
    let m = slice_index_or list k some_motion in
    (m, (k, below, get_or_default list k m some_motion below), sym (get_or-map line_of list k some_motion o below) ∙ is)

turned_sum : (f : Sign) (s t a b r k : ℤ) → sign_value f *ℤ s +ℤ t ≡ r +ℤ k *ℤ edge
    → sign_value f *ℤ (s +ℤ a *ℤ edge) +ℤ (t +ℤ b *ℤ edge) ≡ r +ℤ (k +ℤ sign_value f *ℤ a +ℤ b) *ℤ edge
turned_sum Plus s t a b r k e = omega (arith, ints)
turned_sum Minus s t a b r k e = omega (arith, ints)

-- two translations whose sums with a third are whole edges
one_turn : (f : Sign) (s t k l : ℤ) → sign_value f *ℤ s +ℤ s ≡ pos 0 +ℤ k *ℤ edge → sign_value f *ℤ s +ℤ t ≡ pos 0 +ℤ l *ℤ edge → t ≡ s +ℤ (l -ℤ k) *ℤ edge
one_turn f s t k l a b = omega (arith, ints)

module _ (section : List LineOp) (is : IsSection section) where
  in_list : (m : LineOp) → Contains section m → InList section m.f m.e m.t
  in_list m h = record {
    listed = m.t;
    stands = record { motion = m; listed = h; along = refl; across = refl; translation = refl };
    times = pos 0;
    is = omega (arith, ints);
  }

  -- at the signs of the identity stand the whole edges
  pub plain : Shows (InList section Plus Plus) (Some (pos 0))
  plain = (all, only)
    where
      only : (u : ℤ) → InList section Plus Plus u → (k : ℤ) × (u ≡ pos 0 +ℤ k *ℤ edge)
      only u h =
          let m = h.stands.motion in
          let s = All-contains IsTurnOrShift section m is.plain h.stands.listed h.stands.along h.stands.across in
          let shift : m.t ≡ s.times *ℤ edge = ap (λ (o : FriezeOperation). o.translation) s.is in
          let same = h.stands.translation in
          let far = h.is in
          (s.times +ℤ h.times, omega (arith, ints))

      all : (k : ℤ) → InList section Plus Plus (pos 0 +ℤ k *ℤ edge)
      all k =
          let one = is.group.identity in
          let (m, h, e) = motion_of_line section one.of one.listed in
          let by = same_to frieze_identity one.of one.same in
          let shift : pos 0 ≡ one.of.translation +ℤ by.times *ℤ edge = by.translation in
          let same : m.t ≡ one.of.translation = ap (λ (o : FriezeOperation). o.translation) e in
          record {
            listed = m.t;
            stands = record {
              motion = m;
              listed = h;
              along = ap (λ (o : FriezeOperation). o.along) e ∙ sym by.along;
              across = ap (λ (o : FriezeOperation). o.across) e ∙ sym by.across;
              translation = refl;
            };
            times = k +ℤ by.times;
            is = omega (arith, ints);
          }

  listed_product : (m n : LineOp) → Contains section m → Contains section n
      → InList section (sign_product n.f m.f) (sign_product n.e m.e) (sign_value n.f *ℤ m.t +ℤ n.t)
  listed_product m n h k =
      let l = is.group.closed (line_of m) (line_of n) (contains_line section m h) (contains_line section n k) in
      let (p, in_it, e) = motion_of_line section l.of l.listed in
      let by = same_to (frieze_followed_by (line_of m) (line_of n)) l.of l.same in
      record {
        listed = p.t;
        stands = record {
          motion = p;
          listed = in_it;
          along = ap (λ (o : FriezeOperation). o.along) e ∙ sym by.along;
          across = ap (λ (o : FriezeOperation). o.across) e ∙ sym by.across;
          translation = refl;
        };
        times = by.times;
        is = by.translation ∙ ap (λ (o : FriezeOperation). o.translation +ℤ by.times *ℤ edge) (sym e);
      }

  pub product : (f e f' e' : Sign) (u u' : ℤ) → InList section f e u → InList section f' e' u'
      → InList section (sign_product f' f) (sign_product e' e) (sign_value f' *ℤ u +ℤ u')
  product f e f' e' u u' h k =
      let m = h.stands in
      let n = k.stands in
      let p = listed_product m.motion n.motion m.listed n.listed in
      let along : sign_product n.motion.f m.motion.f ≡ sign_product f' f = λ i. sign_product (n.along i) (m.along i) in
      let across : sign_product n.motion.e m.motion.e ≡ sign_product e' e = λ i. sign_product (n.across i) (m.across i) in
      let sum : sign_value f' *ℤ h.listed +ℤ k.listed ≡ p.listed +ℤ p.times *ℤ edge =
      sym (λ i. sign_value (n.along i) *ℤ m.translation i +ℤ n.translation i) ∙ p.is in
      record {
        listed = p.listed;
        stands = subst (λ s. StandsAt section (sign_product f' f) s p.listed) across
            (subst (λ s. StandsAt section s (sign_product n.motion.e m.motion.e) p.listed) along p.stands);
        times = p.times +ℤ sign_value f' *ℤ h.times +ℤ k.times;
        is = (λ i. sign_value f' *ℤ h.is i +ℤ k.is i) ∙ turned_sum f' h.listed k.listed h.times k.times p.listed p.times sum;
      }

  -- what a motion turns twice is turned back
  plain_product : (f e : Sign) (u v : ℤ) → InList section f e u → InList section f e v → (k : ℤ) × (sign_value f *ℤ u +ℤ v ≡ pos 0 +ℤ k *ℤ edge)
  plain_product f e u v h k =
      plain.1 (sign_value f *ℤ u +ℤ v)
      (subst (λ s. InList section Plus s (sign_value f *ℤ u +ℤ v)) (sign_product-same e)
      (subst (λ s. InList section s (sign_product e e) (sign_value f *ℤ u +ℤ v)) (sign_product-same f) (product f e f e u v h k)))

  pub section_shows : (f e : Sign) (r : Option ℤ) → MatchOption r (All (λ m. ¬ ((m.f ≡ f) × (m.e ≡ e))) section) (StandsAt section f e)
      → Shows (InList section f e) r
  section_shows f e None none =
      λ u h. All-contains (λ m. ¬ ((m.f ≡ f) × (m.e ≡ e))) section h.stands.motion none h.stands.listed (h.stands.along, h.stands.across)
  section_shows f e (Some t) stands = (
    λ k. record { listed = t; stands = stands; times = k; is = refl },
    λ u h.
        let one : InList section f e t = record { listed = t; stands = stands; times = pos 0; is = omega (arith, ints) } in
        let (k, a) = plain_product f e t t one one in
        let (l, b) = plain_product f e t u one h in
        (l -ℤ k, one_turn f t u k l a b),
  )
