-- Of the triples within a survey that are equivalent to one, the greatest.
use Rattle.std.proofs.Common.{◌≡◌, ℕ, zero, suc, ◌<◌, ℤ, ◌<ℤ◌, ◌⊎◌, inl, inr, List, [], ◌∷◌, length, get_or, refl, sym, ◌∙◌, ap, subst, arith, nat_abs}
use Rattle.std.specs.Prelude.{Contains}
use Rattle.std.proofs.lemmas.Bool.{cases_lt, cases_order}
use Rattle.std.proofs.lemmas.Int.{ints, by_lt_z}
use Rattle.std.proofs.lemmas.List.{get_or_default}
use Rattle.integers.specs.Size.{IsWithin}
use Rattle.symmetry.specs.Vectors.{Vector, opposite, row_times}
use Rattle.symmetry.specs.Motions.{Motion}
use Rattle.symmetry.specs.Planes.{IsCoprime}
use Rattle.symmetry.specs.Groups.{IsGroup, Listing}
use Rattle.symmetry.specs.Sizes.{IsVectorWithin}
use Rattle.symmetry.proofs.VectorLaws.{vector_path}
use Rattle.surveys.specs.Surveys.{AreEquivalent, IsGreater, IsRepresentative, IsSurvey, IsUpToSign, IsWithinSurvey, SurveyedPlane}
use Rattle.surveys.proofs.Equivalence.{equivalent_back, equivalent_coprime, equivalent_on, equivalent_to_itself}

-- ---- sizes

is_within_or_not : (n : ℕ) (z : ℤ) → IsWithin n z ⊎ ¬ IsWithin n z
is_within_or_not n z = elim (cases_lt n (nat_abs z)) [
  | inl h ↦ inr (λ w. absurd (omega (arith, h, w.most)))
  | inr h ↦ inl (record { most = omega (arith, h) })
]

vector_within_or_not : (n : ℕ) (v : Vector) → IsVectorWithin n v ⊎ ¬ IsVectorWithin n v
vector_within_or_not n v = elim (is_within_or_not n v.x) [
  | inr x ↦ inr (λ w. x w.x)
  | inl x ↦ elim (is_within_or_not n v.y) [
    | inr y ↦ inr (λ w. y w.y)
    | inl y ↦ elim (is_within_or_not n v.z) [ inr z ↦ inr (λ w. z w.z) | inl z ↦ inl (record { x = x; y = y; z = z }) ]
  ]
]

-- ---- the lexicographic order

pub data Compared (r s : Vector) : Type 0 where
  greater : IsGreater r s → Compared r s
  equal : r ≡ s → Compared r s
  less : IsGreater s r → Compared r s

data ComparedNumbers (a b : ℤ) : Type 0 where
  above : b <ℤ a → ComparedNumbers a b
  one : a ≡ b → ComparedNumbers a b
  below : a <ℤ b → ComparedNumbers a b

compared_numbers : (a b : ℤ) → ComparedNumbers a b
compared_numbers a b = by_lt_z a b (λ l. below l) (λ le. by_lt_z b a (λ l. above l) (λ le'. one (omega (arith, ints, le, le'))))

pub compared : (r s : Vector) → Compared r s
compared r s = elim (compared_numbers r.x s.x) [
  | above h ↦ greater (inl h)
  | below h ↦ less (inl h)
  | one x ↦ elim (compared_numbers r.y s.y) [
    | above h ↦ greater (inr (x, inl h))
    | below h ↦ less (inr (sym x, inl h))
    | one y ↦ elim (compared_numbers r.z s.z) [
      | above h ↦ greater (inr (x, inr (y, h)))
      | below h ↦ less (inr (sym x, inr (sym y, h)))
      | one z ↦ equal (vector_path x y z)
    ]
  ]
]

pub greater_on : (r s t : Vector) → IsGreater r s → IsGreater s t → IsGreater r t
greater_on r s t (inl a) (inl b) = inl (omega (arith, ints, a, b))
greater_on r s t (inl a) (inr b) = inl (omega (arith, ints, a, b.0))
greater_on r s t (inr a) (inl b) = inl (omega (arith, ints, a.0, b))
greater_on r s t (inr (x, inl a)) (inr (x', inl b)) = inr (x ∙ x', inl (omega (arith, ints, a, b)))
greater_on r s t (inr (x, inl a)) (inr (x', inr b)) = inr (x ∙ x', inl (omega (arith, ints, a, b.0)))
greater_on r s t (inr (x, inr a)) (inr (x', inl b)) = inr (x ∙ x', inl (omega (arith, ints, a.0, b)))
greater_on r s t (inr (x, inr (y, a))) (inr (x', inr (y', b))) = inr (x ∙ x', inr (y ∙ y', omega (arith, ints, a, b)))

pub not_itself : (v : Vector) → ¬ IsGreater v v
not_itself v (inl h) = absurd (omega (arith, ints, h))
not_itself v (inr (x, inl h)) = absurd (omega (arith, ints, h))
not_itself v (inr (x, inr (y, h))) = absurd (omega (arith, ints, h))

-- ---- the greatest

-- a triple within the survey, equivalent to r, such that none of a set is greater
record Top (g : Listing) (n : ℕ) (r : Vector) (P : Vector → Type 0) : Type 0 where
  top : Vector
  within : IsWithinSurvey n top
  equivalent : AreEquivalent g r top
  most : (t : Vector) → IsWithinSurvey n t → P t → ¬ IsGreater t top

module _ (g : Listing) (group : IsGroup g) (n : ℕ) (r : Vector) (coprime : IsCoprime r) where
  -- one more triple
  top_with : (P : Vector → Type 0) (t : Vector) → AreEquivalent g r t → Top g n r P → Top g n r (λ u. P u ⊎ (u ≡ t))
  top_with P t equivalent by = elim (vector_within_or_not n t) [
    | inr large ↦ kept (λ within more. large within.size)
    | inl small ↦ elim (compared t by.top) [
      | greater more ↦ record {
        top = t;
        within = record { coprime = equivalent_coprime g group r t coprime equivalent; size = small };
        equivalent = equivalent;
        most = λ u within in_it. elim in_it [
          | inl old ↦ λ h. by.most u within old (greater_on u t by.top h more)
          | inr same ↦ λ h. not_itself t (subst (λ v. IsGreater v t) same h)
        ];
      }
      | equal e ↦ kept (λ within more. not_itself by.top (subst (λ v. IsGreater v by.top) e more))
      | less h ↦ kept (λ within more. not_itself t (greater_on t by.top t more h))
    ]
  ]
    where
      kept : (IsWithinSurvey n t → ¬ IsGreater t by.top) → Top g n r (λ u. P u ⊎ (u ≡ t))
      kept not = record {
        top = by.top;
        within = by.within;
        equivalent = by.equivalent;
        most = λ u within in_it. elim in_it [
          | inl old ↦ by.most u within old
          | inr same ↦ λ h. not (subst (IsWithinSurvey n) same within) (subst (λ v. IsGreater v by.top) same h)
        ];
      }

  abbrev IsImageOf : List Motion → Vector → Type 0
  IsImageOf ms t = (m : Motion) × Contains ms m × IsUpToSign (row_times r m.matrix) t

  image_cases : (m : Motion) (ms : List Motion) (t : Vector) → IsImageOf (m ∷ ms) t
      → (IsImageOf ms t ⊎ (t ≡ row_times r m.matrix)) ⊎ (t ≡ opposite (row_times r m.matrix))
  image_cases m ms t (x, (zero, within, is), up) = here (subst (λ (y : Motion). IsUpToSign (row_times r y.matrix) t) (sym is) up)
    where
      here : IsUpToSign (row_times r m.matrix) t → (IsImageOf ms t ⊎ (t ≡ row_times r m.matrix)) ⊎ (t ≡ opposite (row_times r m.matrix))
      here (inl e) = inl (inr e)
      here (inr e) = inr e
  image_cases m ms t (x, (suc k, within, is), up) = inl (inl (x, (k, omega (arith, within), is), up))

  top_of : IsWithinSurvey n r → (ms : List Motion) → ((m : Motion) → Contains ms m → Contains g.ops m) → Top g n r (IsImageOf ms)
  top_of within [] listed = record {
    top = r;
    within = within;
    equivalent = equivalent_to_itself g group r;
    most = λ t small (m, (k, none, is), up). absurd (omega (arith, none));
  }
  top_of within (m ∷ ms) listed =
      let row = row_times r m.matrix in
      let first : Contains g.ops m = listed m (0, omega arith, refl) in
      let rest = top_of within ms (λ x (k, in_it, is). listed x (suc k, omega (arith, in_it), is)) in
      let one = top_with (IsImageOf ms) row (m, first, inl refl) rest in
      let both = top_with (λ t. IsImageOf ms t ⊎ (t ≡ row)) (opposite row) (m, first, inr refl) one in
      record {
        top = both.top;
        within = both.within;
        equivalent = both.equivalent;
        most = λ t small image. both.most t small (image_cases m ms t image);
      }

-- ---- representatives

module _ (g : Listing) (group : IsGroup g) (n : ℕ) where
  pub some_representative : (r : Vector) → IsWithinSurvey n r → (s : Vector) × IsRepresentative g n s × AreEquivalent g r s
  some_representative r within =
      let by = top_of g group n r within.coprime within g.ops (λ m listed. listed) in (
        by.top,
        record { within = by.within; greatest = λ t small equivalent. by.most t small (equivalent_on g group r by.top t by.equivalent equivalent) },
        by.equivalent,
      )

  pub only_representative : (r s t : Vector) → IsRepresentative g n s → IsRepresentative g n t → AreEquivalent g r s → AreEquivalent g r t → s ≡ t
  only_representative r s t first second to_s to_t =
      elim (compared s t) [
        | equal e ↦ e
        | greater h ↦ absurd (second.greatest s first.within (equivalent_on g group t r s (equivalent_back g group r t to_t) to_s) h)
        | less h ↦ absurd (first.greatest t second.within (equivalent_on g group s r t (equivalent_back g group r s to_s) to_t) h)
      ]

  -- so to exactly one of the list
  pub one_listed : (list : List SurveyedPlane) (r : Vector) → IsSurvey g n list → IsWithinSurvey n r
      → (p : SurveyedPlane) × Contains list p × AreEquivalent g r p.plane
      × ((q : SurveyedPlane) → Contains list q → AreEquivalent g r q.plane → q ≡ p)
  one_listed list r survey within =
      let (s, representative, equivalent) = some_representative r within in
      let (k, p, inside, is, plane) = survey.whole s representative in (
        p,
        (k, inside, is),
        subst (AreEquivalent g r) (sym plane) equivalent,
        λ q (j, inside', is') equivalent'.
            let plane' : q.plane ≡ s =
            only_representative r q.plane s (subst (λ (x : SurveyedPlane). IsRepresentative g n x.plane) is' (survey.each j q inside')) representative equivalent' equivalent in
            sym is' ∙ ap (λ i. get_or list i q) (one_place j k q inside' inside (ap (λ (x : SurveyedPlane). x.plane) is' ∙ plane' ∙ sym plane ∙ ap (λ (x : SurveyedPlane). x.plane) (sym is) ∙ ap (λ (x : SurveyedPlane). x.plane) (get_or_default list k p q inside)))
            ∙ get_or_default list k q p inside ∙ is,
      )
    where
      one_place : (j k : ℕ) (d : SurveyedPlane) → j < length list → k < length list → (get_or list j d).plane ≡ (get_or list k d).plane → j ≡ k
      one_place j k d h l e = elim (cases_order j k) [
        | inl same ↦ same
        | inr apart ↦ elim apart [
          | inl first ↦ absurd (not_itself (get_or list k d).plane (subst (λ v. IsGreater v (get_or list k d).plane) e (survey.falling j k d first l)))
          | inr first ↦ absurd (not_itself (get_or list j d).plane (subst (λ v. IsGreater v (get_or list j d).plane) (sym e) (survey.falling k j d first h)))
        ]
      ]
