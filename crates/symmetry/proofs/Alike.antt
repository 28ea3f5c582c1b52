-- Listings of one group: to be alike is an equivalence, under which frames, periods and special heights are the same.
use Rattle.std.proofs.Common.{◌≡◌, ◌⊎◌, ℕ, ℤ, List, subst}
use Rattle.symmetry.specs.Vectors.{Vector, Matrix, minus, image, row_times, opposite}
use Rattle.symmetry.specs.Motions.{Motion, followed_by}
use Rattle.symmetry.specs.Planes.{Height}
use Rattle.symmetry.specs.Groups.{Listing, IsGroup, IsMember, SameModulo}
use Rattle.symmetry.specs.Frames.{Basis, combination, IsFrame, IsPeriod, IsSkewed, IsSpecial}
use Rattle.symmetry.specs.Lists.{ComesBefore, IsFirstPlace, motion_at}
use Rattle.symmetry.specs.Listings.{AreAlike}
use Rattle.symmetry.proofs.LatticeLaws.{listed_member}

-- ---- the order of the members, by another sameness that says the same

module _ (Same Same' : Motion → Motion → Type 0)
    (to : (m n : Motion) → Same m n → Same' m n) (from : (m n : Motion) → Same' m n → Same m n) (ops : List Motion) where
  first_as : (m : Motion) (p : ℕ) → IsFirstPlace ops (Same m) p → IsFirstPlace ops (Same' m) p
  first_as m p f = record {
    within = f.within;
    has = to m (motion_at ops p) f.has;
    none_before = λ q l same. f.none_before q l (from m (motion_at ops q) same);
  }

  before_as : (m n : Motion) → ComesBefore Same ops m n → ComesBefore Same' ops m n
  before_as m n b = record {
    p = b.p;
    q = b.q;
    first_of_m = first_as m b.p b.first_of_m;
    first_of_n = first_as n b.q b.first_of_n;
    before = b.before;
  }

-- ---- a listed operation is a member, so that the other listing has one with its matrix

pub skewed_as : (g h : Listing) → ((m : Motion) → IsMember g m → IsMember h m) → (r : Vector) (f : Basis) → IsSkewed g r f → IsSkewed h r f
skewed_as g h members r f s =
    let member : IsMember h s.op = members s.op (listed_member g s.op s.listed) in
    record {
      op = member.of;
      listed = member.listed;
      scanning = subst (λ (w : Matrix). (row_times r w ≡ r) ⊎ (row_times r w ≡ opposite r)) member.same.matrix s.scanning;
      coefficients = s.coefficients;
      of = subst (λ (w : Matrix). (combination f s.coefficients ≡ image w f.a) ⊎ ((combination f s.coefficients ≡ image w f.b) ⊎ (combination f s.coefficients ≡ image w f.tau))) member.same.matrix s.of;
      large = s.large;
    }

-- ---- from the one listing to the other

module _ (g h : Listing) (alike : AreAlike g h) where
  pub member_to : (m : Motion) → IsMember g m → IsMember h m
  member_to m = (alike.members m).0

  pub member_from : (m : Motion) → IsMember h m → IsMember g m
  member_from m = (alike.members m).1

  pub same_to : (m n : Motion) → SameModulo g m n → SameModulo h m n
  same_to m n p = record { matrix = p.matrix; translation = (alike.lattice (minus m.translation n.translation)).0 p.translation }

  pub same_from : (m n : Motion) → SameModulo h m n → SameModulo g m n
  same_from m n p = record { matrix = p.matrix; translation = (alike.lattice (minus m.translation n.translation)).1 p.translation }

  -- the sameness of g in place of that of h, and back
  order_to : (ops : List Motion) (m n : Motion) → ComesBefore (SameModulo g) ops m n → ComesBefore (SameModulo h) ops m n
  order_to ops = before_as (SameModulo g) (SameModulo h) same_to same_from ops

  order_from : (ops : List Motion) (m n : Motion) → ComesBefore (SameModulo h) ops m n → ComesBefore (SameModulo g) ops m n
  order_from ops = before_as (SameModulo h) (SameModulo g) same_from same_to ops

  pub before_from : (m n : Motion) → ComesBefore (SameModulo h) h.ops m n → ComesBefore (SameModulo g) g.ops m n
  before_from m n b = (alike.order m n).1 (order_from h.ops m n b)

  pub group_from : IsGroup h → IsGroup g
  group_from is = record {
    has_identity = member_from _ is.has_identity;
    products = λ m n a b. member_from (followed_by m n) (is.products m n (member_to m a) (member_to n b));
    inverses = λ m a. let i = is.inverses m (member_to m a) in (i.0, member_from i.0 i.1, i.2, i.3);
  }

  pub frame_to : (r : Vector) (f : Basis) → IsFrame g r f → IsFrame h r f
  frame_to r f frame = record {
    spans = λ t is. frame.spans t ((alike.lattice t).1 is);
    once = frame.once;
    inside = λ c. (alike.lattice (combination f c)).0 (frame.inside c);
    a_in_plane = frame.a_in_plane;
    b_in_plane = frame.b_in_plane;
    tau_above = frame.tau_above;
    right_handed = frame.right_handed;
  }

  pub period_from : (r : Vector) (d : ℤ) → IsPeriod h r d → IsPeriod g r d
  period_from r d is = record {
    positive = is.positive;
    taken = (is.taken.0, (alike.lattice is.taken.0).1 is.taken.1, is.taken.2);
    least = λ t within above. is.least t ((alike.lattice t).0 within) above;
  }

  pub special_from : (r : Vector) (s : Height) → IsSpecial h r s → IsSpecial g r s
  special_from r s (m, fixes, not_all) = (m, (member_from m fixes.0, fixes.1), λ all. not_all (member_to m all.0, all.1))

-- ---- to be alike is an equivalence

pub alike_refl : (g : Listing) → AreAlike g g
alike_refl g = record { lattice = λ t. (λ is. is, λ is. is); members = λ m. (λ is. is, λ is. is); order = λ m n. (λ b. b, λ b. b) }

pub alike_sym : (g h : Listing) → AreAlike g h → AreAlike h g
alike_sym g h alike = record {
  lattice = λ t. ((alike.lattice t).1, (alike.lattice t).0);
  members = λ m. ((alike.members m).1, (alike.members m).0);
  order = λ m n. (
    λ b. order_to g h alike g.ops m n ((alike.order m n).1 (order_from g h alike h.ops m n b)),
    λ b. order_to g h alike h.ops m n ((alike.order m n).0 (order_from g h alike g.ops m n b)),
  );
}

pub alike_trans : (g h k : Listing) → AreAlike g h → AreAlike h k → AreAlike g k
alike_trans g h k gh hk = record {
  lattice = λ t. (λ is. (hk.lattice t).0 ((gh.lattice t).0 is), λ is. (gh.lattice t).1 ((hk.lattice t).1 is));
  members = λ m. (λ is. (hk.members m).0 ((gh.members m).0 is), λ is. (gh.members m).1 ((hk.members m).1 is));
  order = λ m n. (
    λ b. order_from g h gh k.ops m n ((hk.order m n).0 (order_to g h gh h.ops m n ((gh.order m n).0 b))),
    λ b. (gh.order m n).1 (order_from g h gh h.ops m n ((hk.order m n).1 (order_to g h gh k.ops m n b))),
  );
}

-- ---- and back

pub frame_from : (g h : Listing) → AreAlike g h → (r : Vector) (f : Basis) → IsFrame h r f → IsFrame g r f
frame_from g h alike = frame_to h g (alike_sym g h alike)

pub special_to : (g h : Listing) → AreAlike g h → (r : Vector) (s : Height) → IsSpecial g r s → IsSpecial h r s
special_to g h alike = special_from h g (alike_sym g h alike)
