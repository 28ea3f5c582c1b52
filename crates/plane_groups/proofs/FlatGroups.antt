-- What flat operations list and generate is a plane group.
use Rattle.std.proofs.Common.{◌≡◌, sym, ap, subst, ◌∙◌, refl, inl, inr, lit<, pos, negsuc, ◌-ℤ◌, arith}
use Rattle.std.specs.Prelude.{All, List, Contains, unsigned_abs}
use Rattle.std.proofs.lemmas.List.Elements.{All-contains, All-contains_itself, All-weaker}
use Rattle.std.proofs.lemmas.Int.{ints}
use Rattle.fractions.specs.declared.part.TheConstants.{UNIT}
use Rattle.integers.specs.Size.{Divides}
use Rattle.quotient.specs.Closure.{IsFactor}
use Rattle.quotient.specs.Closure.IsFactor.{generator, inverse, shift}
use Rattle.quotient.specs.Closure.IsProduct.{empty, further}
use Rattle.quotient.proofs.Firsts.{Contains-from_firsts}
use Rattle.symmetry.specs.Vectors.{Vector}
use Rattle.symmetry.specs.Motions.{Motion, identity, translation}
use Rattle.symmetry.specs.Groups.{Listing, Generates, IsInLattice, zero_vector, added, subtracted}
use Rattle.closure.specs.declared.group.Group.{Group}
use Rattle.closure.specs.Fineness.{centrings_alone}
use Rattle.closure.specs.Generated.{generating_kind, IsDerivedListing, IsGenerated, IsLeast}
use Rattle.closure.specs.Groups.{group_listing, IsGroupOf}
use Rattle.symmetry.proofs.LatticeLaws.{lattice-made}
use Rattle.closure.specs.Lattices.{residues_of}
use Rattle.closure.specs.Laws.ShiftLaws.{residues-reduced}
use Rattle.integers.proofs.Remainders.{Divides-zero, rem-same}
use Rattle.quotient.proofs.ListLaws.{nothing_contained}
use Rattle.closure.specs.Residues.{residue}
use Rattle.closure.proofs.Made.{edge-whole}
use Rattle.plane_motions.specs.PlaneMotions.{IsFlat, IsFlatListing}
use Rattle.plane_groups.specs.PlaneGroups.{IsFlatGroup}
use Rattle.plane_groups.proofs.Upright.{IsLevel, IsUpright, flat-upright, level-plus, level-multiple, upright-product, upright-inverse}

level_if_zero : (v : Vector) → v.z ≡ pos 0 → IsLevel v
level_if_zero v e = subst (Divides (unsigned_abs UNIT)) (sym e) (Divides-zero (unsigned_abs UNIT))

-- a lattice that is made of level vectors has no others
lattice_level : (g : Listing) → ((v : Vector) → Generates g v → IsLevel v) → (t : Vector) → IsInLattice g t → IsLevel t
lattice_level g each _ zero_vector = Divides-zero (unsigned_abs UNIT)
lattice_level g each _ (added t v k made) = level-plus t v (lattice_level g each t k) (each v made)
lattice_level g each _ (subtracted t v k made) = level-plus t _ (lattice_level g each t k) (level-multiple (negsuc 0) v (each v made))

-- a level vector with entries from 0 to below an edge lies in the plane
reduced_zero : (v : Vector) → IsLevel v → residue v ≡ v → v.z ≡ pos 0
unfolding residue
reduced_zero v level reduced =
    sym (ap (λ (v : Vector). v.z) reduced) ∙ rem-same (unsigned_abs UNIT) (lit< tt) v.z (pos 0) whole
  where
    whole : Divides (unsigned_abs UNIT) (v.z -ℤ pos 0)
    whole = subst (Divides (unsigned_abs UNIT)) (omega (arith, ints)) level

-- so an upright motion whose translation is such a vector is flat
reduced_flat : (m : Motion) → IsUpright m → residue m.translation ≡ m.translation → IsFlat m
reduced_flat m p reduced = record {
  row_x = p.row_x;
  row_y = p.row_y;
  row_z = p.row_z;
  column_x = p.column_x;
  column_y = p.column_y;
  translation = reduced_zero m.translation p.level reduced;
}

module _ (g : Listing) (flat : IsFlatListing g) where
  operation_flat : (m : Motion) → Contains g.ops m → IsFlat m
  operation_flat m is = All-contains IsFlat g.ops m flat.operations is

  centring_level : (v : Vector) → Contains g.centrings v → IsLevel v
  centring_level v is = level_if_zero v (All-contains (λ (v : Vector). v.z ≡ pos 0) g.centrings v flat.centrings is)

  made_level : (v : Vector) → Generates g v → IsLevel v
  made_level v (inl edge) = let whole = edge-whole v edge in whole.z
  made_level v (inr (inl centring)) = centring_level v centring
  made_level v (inr (inr listed)) = let is = operation_flat (translation v) listed in level_if_zero v is.translation

  pub listing_flat : IsFlatGroup g
  listing_flat = record { operations = operation_flat; heights = lattice_level g made_level }

  -- ---- what they generate

  alone_level : (v : Vector) → Generates (centrings_alone g.centrings) v → IsLevel v
  alone_level v (inl edge) = made_level v (inl edge)
  alone_level v (inr (inl centring)) = centring_level v centring
  alone_level v (inr (inr none)) = absurd (nothing_contained _ none)

  identity_upright : IsUpright identity
  identity_upright = record { row_x = refl; row_y = refl; row_z = refl; column_x = refl; column_y = refl; level = Divides-zero (unsigned_abs UNIT) }

  translation_upright : (v : Vector) → IsLevel v → IsUpright (translation v)
  translation_upright v level = record { row_x = refl; row_y = refl; row_z = refl; column_x = refl; column_y = refl; level = level }

  factor_upright : (m : Motion) → IsFactor (generating_kind g) g.ops m → IsUpright m
  factor_upright m (generator is) = flat-upright m (operation_flat m is)
  factor_upright m (inverse k is back) = upright-inverse k m back.after back.before (flat-upright k (operation_flat k is))
  factor_upright m (shift (e, inside)) =
      subst IsUpright (λ i. record { matrix = sym e i; translation = m.translation })
      (translation_upright m.translation (lattice_level (centrings_alone g.centrings) alone_level m.translation inside))

  generated_upright : (m : Motion) → IsGenerated g m → IsUpright m
  generated_upright _ empty = identity_upright
  generated_upright _ (further m f p x) = upright-product m f (generated_upright m p) (factor_upright f x)

  pub derived_flat : (h : Listing) → IsDerivedListing g h → IsFlatGroup h
  derived_flat h d = record {
    operations = λ m is.
        let least = All-contains (λ (m : Motion). IsLeast g m.translation) h.ops m d.ops.order.home is in
        reduced_flat m (generated_upright m (All-contains (IsGenerated g) h.ops m d.ops.inside is)) least.reduced;
    heights = λ t is.
        let up = generated_upright (translation t) ((d.lattice t).1 is) in
        up.level;
  }

-- the operations of the Group of a plane group are listed, and its lattice is the same
pub group_flat : (g : Listing) (group : Group) → IsFlatGroup g → IsGroupOf g group → IsFlatGroup (group_listing group)
group_flat g group flat is = record {
  operations = λ m listed. flat.operations m (Contains-from_firsts g.ops (group_listing group).ops is.firsts m listed);
  heights = λ t inside. flat.heights t ((is.alike.lattice t).1 inside);
}

-- its operations are flat, and its residues, which are its centring vectors, lie in the plane
pub listing_of_flat : (group : Group) → IsFlatGroup (group_listing group) → IsFlatListing (group_listing group)
listing_of_flat group flat = record {
  operations = each IsFlat (group_listing group).ops flat.operations;
  centrings = each (λ (v : Vector). v.z ≡ pos 0) (residues_of group.lattice) in_plane;
}
  where
    each : {A : Type 0} (P : A → Type 0) (xs : List A) → ((x : A) → Contains xs x → P x) → All P xs
    each P xs h = All-weaker (Contains xs) P h xs (All-contains_itself xs)

    in_plane : (v : Vector) → Contains (residues_of group.lattice) v → v.z ≡ pos 0
    in_plane v is =
        reduced_zero v (flat.heights v (lattice-made (group_listing group) v (inr (inl is))))
        (All-contains (λ r. residue r ≡ r) (residues_of group.lattice) v (residues-reduced group.lattice) is)
