-- The special heights in a period are the halves of the shifts, and of what is a period more.
use Rattle.std.proofs.Common.{◌≡◌, ℕ, ◌+◌, ◌*◌, ℤ, pos, negsuc, ◌+ℤ◌, ◌-ℤ◌, ◌*ℤ◌, ◌≤ℤ◌, ◌⊎◌, inl, inr, List, [], ◌∷◌, ◌++◌, length, map, refl, sym, ◌∙◌, ap, subst, arith}
use Rattle.std.proofs.lemmas.Int.{ints, by_lt_z}
use Rattle.std.proofs.lemmas.List.{length-append, length-map}
use Rattle.fractions.specs.LowestTerms.{IsLowestForm, lowest_terms}
use Rattle.fractions.specs.declared.part.TheConstants.{UNIT}
use Rattle.fractions.proofs.Lowest.{IsLowestForm-lowest_terms, lowest_terms-only, same_half}
use Rattle.integers.proofs.Order.{mul_left_cancel_pos}
use Rattle.integers.proofs.Ring.{add_comm}
use Rattle.integers.proofs.Solver.{Expr.{var, num, ◌⊕◌, ◌⊗◌}, given, linear}
use Rattle.symmetry.specs.Vectors.{Vector, dot, minus, multiple, plus, row_times}
use Rattle.symmetry.specs.Motions.{Motion}
use Rattle.symmetry.specs.Planes.{Height, IsCoprime}
use Rattle.symmetry.specs.Groups.{IsGroup, IsInLattice, Listing}
use Rattle.symmetry.specs.Frames.{IsPeriod, IsSpecial}
use Rattle.symmetry.specs.Scans.{IsInPeriod}
use Rattle.symmetry.proofs.PlaneRows.{special_by_row}
use Rattle.symmetry.proofs.VectorLaws.{dot-multiple, dot-plus, minus-plus, plus-minus_first}
use Rattle.symmetry.proofs.LatticeLaws.{lattice-multiple}
use Rattle.scanning.specs.Levels.{IsInTwoPeriods, IsLevel, IsTurned}
use Rattle.scanning.proofs.HeightNumbers.{height_below, height_from, level_below, level_from}
use Rattle.scanning.proofs.MadeHeights.{level_of_form}
use Rattle.surveys.specs.Surveys.{IsSpecialCount, ListsSet}
use Rattle.surveys.specs.TurnedShifts.{IsTurnedShift}
use Rattle.surveys.proofs.LatticeNumbers.{whole_periods}
use Rattle.surveys.proofs.Sets.{lists_both, lists_images, lists_same}

-- ---- levels

module _ (r : Vector) (d : ℤ) (ops : List Motion) where
  -- twice the special heights, in parts
  record IsSpecialLevel (x : ℤ) : Type 0 where
    within : IsInTwoPeriods d x
    turned : IsTurned r d ops x

  periods_on : (t u k : ℤ) → u ≡ t +ℤ k *ℤ d → IsTurned r d ops t → IsTurned r d ops u
  periods_on t u k e is = record {
    op = is.op;
    listed = is.listed;
    row = is.row;
    periods = is.periods +ℤ k;
    is = linear (t ∷ u ∷ k ∷ d ∷ dot r is.op.translation ∷ is.periods ∷ []) (var 1) (var 4 ⊕ (var 5 ⊕ var 2) ⊗ var 3)
        (given (num (pos 1)) (var 1) (var 0 ⊕ var 2 ⊗ var 3) ∷ given (num (pos 1)) (var 0) (var 4 ⊕ var 5 ⊗ var 3) ∷ []) tt (e, (is.is, tt));
  }

  abbrev IsLater : ℤ → Type 0
  IsLater x = IsTurnedShift r d ops (x -ℤ d)

  to_level : (x : ℤ) → IsTurnedShift r d ops x ⊎ IsLater x → IsSpecialLevel x
  to_level x (inl is) = record { within = record { from = is.from; below = omega (arith, ints, is.from, is.below) }; turned = is.turned }
  to_level x (inr is) = record {
    within = record { from = omega (arith, ints, is.from, is.below); below = omega (arith, ints, is.from, is.below) };
    turned = periods_on (x -ℤ d) x (pos 1) (omega (arith, ints)) is.turned;
  }

  from_level : (x : ℤ) → IsSpecialLevel x → IsTurnedShift r d ops x ⊎ IsLater x
  from_level x is =
      by_lt_z x d
      (λ below. inl (record { from = is.within.from; below = below; turned = is.turned }))
      (λ above. inr (record { from = omega (arith, ints, above); below = omega (arith, ints, is.within.below); turned = periods_on x (x -ℤ d) (negsuc 0) (omega (arith, ints)) is.turned }))

  abbrev levels : List ℤ → List ℤ
  levels ts = ts ++ map (λ t. t +ℤ d) ts

  lists_levels : (ts : List ℤ) → ListsSet (IsTurnedShift r d ops) ts → ListsSet IsSpecialLevel (levels ts)
  lists_levels ts lists =
      lists_same (λ x. IsTurnedShift r d ops x ⊎ IsLater x) IsSpecialLevel (levels ts) to_level from_level
      (lists_both (IsTurnedShift r d ops) IsLater ts (map (λ t. t +ℤ d) ts) (λ x first last. absurd (omega (arith, ints, first.below, last.from))) lists
      (lists_images (λ t. t +ℤ d) (IsTurnedShift r d ops) IsLater ts
      (λ x is. subst (IsTurnedShift r d ops) (back x) is) (λ x y _ _ e. omega (arith, ints, e)) (λ z is. (z -ℤ d, is, omega (arith, ints))) lists))
    where
      back : (x : ℤ) → x ≡ x +ℤ d -ℤ d
      back x = omega (arith, ints)

-- ---- heights

-- the half of x parts
abbrev half : ℤ → Height
half x = lowest_terms x (pos 2 *ℤ UNIT)

half_form : (x : ℤ) → IsLowestForm (half x) x (pos 2 *ℤ UNIT)
half_form x = IsLowestForm-lowest_terms x (pos 2 *ℤ UNIT) (λ e. absurd (omega (arith, ints, e)))

half_level : (x : ℤ) → IsLevel (half x) x
half_level x = level_of_form (half x) x (half_form x)

one_level : (s : Height) (x y : ℤ) → pos 1 ≤ℤ s.den → IsLevel s x → IsLevel s y → x ≡ y
one_level s x y high e f = mul_left_cancel_pos s.den x y high (e ∙ sym f)

half_once : (x y : ℤ) → half x ≡ half y → x ≡ y
half_once x y e = one_level (half x) x y (half_form x).positive (half_level x) (subst (λ (s : Height). IsLevel s y) (sym e) (half_level y))

half_is : (s : Height) (d x : ℤ) → IsInPeriod d s → IsLevel s x → half x ≡ s
half_is s d x inside level =
    sym (lowest_terms-only s x (pos 2 *ℤ UNIT) (λ e. absurd (omega (arith, ints, e)))
    (record { positive = inside.positive; lowest = inside.lowest; same = same_half s.num s.den x UNIT level }))

module _ (g : Listing) (r : Vector) (d : ℤ) (group : IsGroup g) (coprime : IsCoprime r) (period : IsPeriod g r d) where
  abbrev IsSpecialHeight : Height → Type 0
  IsSpecialHeight s = IsInPeriod d s × IsSpecial g r s

  to_height : (x : ℤ) → IsSpecialLevel r d g.ops x → IsSpecialHeight (half x)
  to_height x is = (
    record {
      positive = (half_form x).positive;
      lowest = (half_form x).lowest;
      from = height_from UNIT (half x).num (half x).den x (omega (arith, ints)) (half_form x).positive (half_level x) is.within.from;
      below = height_below UNIT (half x).num (half x).den x (omega (arith, ints)) (half_form x).positive (half_level x) d is.within.below;
    },
    (special_by_row g r (half x) group coprime (half_form x).positive).1 (
      record { matrix = is.turned.op.matrix; translation = plus is.turned.op.translation by },
      record {
        of = is.turned.op;
        listed = is.turned.listed;
        same = record {
          matrix = refl;
          translation = subst (IsInLattice g) (sym (plus-minus_first is.turned.op.translation by)) (lattice-multiple g is.turned.periods period.taken.0 period.taken.1);
        };
      },
      (is.turned.row, sym (half_level x) ∙ ap (λ z. (half x).den *ℤ z) (is.turned.is ∙ sym shift)),
    ),
  )
    where
      by : Vector
      by = multiple is.turned.periods period.taken.0

      shift : dot r (plus is.turned.op.translation by) ≡ dot r is.turned.op.translation +ℤ is.turned.periods *ℤ d
      shift =
          dot-plus r is.turned.op.translation by
          ∙ ap (λ z. dot r is.turned.op.translation +ℤ z) (dot-multiple r is.turned.periods period.taken.0 ∙ ap (λ z. is.turned.periods *ℤ z) period.taken.2)

  from_height : (s : Height) → IsSpecialHeight s → (x : ℤ) × IsSpecialLevel r d g.ops x × (half x ≡ s)
  from_height s (inside, special) =
      let (m, member, (row, twice)) = (special_by_row g r s group coprime inside.positive).0 special in
      let x = dot r m.translation in
      let level : IsLevel s x = sym twice in
      let (k, value) = whole_periods g r d period (minus m.translation member.of.translation) member.same.translation in
      let shift : x ≡ dot r member.of.translation +ℤ k *ℤ d =
      ap (dot r) (sym (minus-plus m.translation member.of.translation)) ∙ dot-plus r (minus m.translation member.of.translation) member.of.translation
      ∙ ap (λ z. z +ℤ dot r member.of.translation) value ∙ add_comm (k *ℤ d) (dot r member.of.translation) in (
        x,
        record {
          within = record {
            from = level_from UNIT s.num s.den x (omega (arith, ints)) inside.positive level inside.from;
            below = level_below UNIT s.num s.den x (omega (arith, ints)) inside.positive level d inside.below;
          };
          turned = record { op = member.of; listed = member.listed; row = ap (row_times r) (sym member.same.matrix) ∙ row; periods = k; is = shift };
        },
        half_is s d x inside level,
      )

  -- two for each shift
  pub special_count : (ts : List ℤ) (n : ℕ) → n ≡ 2 * length ts → ListsSet (IsTurnedShift r d g.ops) ts → IsSpecialCount g r d n
  special_count ts n e lists = record {
    members = map half (levels r d g.ops ts);
    are = lists_images half (IsSpecialLevel r d g.ops) IsSpecialHeight (levels r d g.ops ts) to_height (λ x y _ _ e. half_once x y e) from_height (lists_levels r d g.ops ts lists);
    count = let whole = length-append ts (map (λ t. t +ℤ d) ts) in omega (arith, e, whole, length-map (levels r d g.ops ts) half, length-map ts (λ t. t +ℤ d));
  }
