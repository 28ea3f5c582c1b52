-- The texts of the tables of types are read as the motions that the tables take them for: computed.
use Rattle.std.proofs.Common.{◌≡◌, ℕ, pos, ◌*ℤ◌, Bool, true, false, ◌&&◌, List, All, Option, Some, None, Result, Ok, Err, refl, subst}
use Rattle.std.specs.List.{list_all}
use Rattle.std.specs.Ordering.{int_eq}
use Rattle.std.proofs.lemmas.Bool.{and_parts}
use Rattle.std.proofs.lemmas.Bool.Decides.{Decides-int_eq}
use Rattle.std.proofs.lemmas.List.Elements.{All-weaker}
use Rattle.std.proofs.lemmas.List.Sums.{AllPass-from_list_all}
use Rattle.symmetry.specs.Motions.{Motion}
use Rattle.motions.specs.declared.motion.Motion3.{Motion3}
use Rattle.motions.specs.Views.{motion_of}
use Rattle.motions.specs.Equality.{same_matrix, same_motion}
use Rattle.motions.specs.Laws.MotionLaws.{same_matrix-is, same_motion-is}
use Rattle.motions.specs.Layers.{IsBlockForm, block_matrix}
use Rattle.motions.specs.RodMotions.{rod_block}
use Rattle.motions.specs.FriezeMotions.{frieze_block}
use Rattle.motions.specs.WrittenMotions.{frieze_written, planar_written, rod_written}
use Rattle.layer_types.specs.Rows.{layer_rows}
use Rattle.line_types.specs.RodRows.{rod_rows}
use Rattle.line_types.specs.FriezeRows.{frieze_rows}
use Rattle.triplets.specs.declared.fault.TextKind.{TextKind}
use Rattle.triplets.specs.declared.notation.Notation.{Notation}
use Rattle.triplets.specs.declared.notation.Notation.TheVariants.{Pairs, Triplets}
use Rattle.triplets.specs.declared.triplet.TripletReader.{TripletReader}
use Rattle.triplets.specs.Grammar.{IsOperation}
use Rattle.triplets.specs.TripletReading.{run, start, value}
use Rattle.triplets.proofs.Runs.{going}
use Rattle.triplets.proofs.Wholes.{is_triplet}
use Rattle.report.specs.WrittenGenerators.{IsFriezeGenerator, IsLayerGenerator, IsRodGenerator}

-- ---- a text is read, and its value passes a test

module _ (nt : Notation) (text : List ℕ) (test : Motion → Bool) where
  abbrev value_passes : Option Motion3 → Bool
  value_passes None = false
  value_passes (Some t) = test (motion_of t)

  abbrev run_passes : Result TripletReader TextKind → Bool
  run_passes (Err k) = false
  run_passes (Ok s) = value_passes (value nt s)

  abbrev passes : Bool
  passes = run_passes (run nt (Ok start) text)

  -- what such a text is
  record Read : Type 0 where
    motion : Motion
    is : IsOperation nt text motion
    met : test motion ≡ true

  by_value : (s : TripletReader) (o : Option Motion3) → run nt (Ok start) text ≡ going s → value nt s ≡ o → value_passes o ≡ true → Read
  by_value s None r v e = absurd cc
  by_value s (Some t) r v e = record { motion = motion_of t; is = is_triplet nt text s t r v; met = e }

  by_run : (r : Result TripletReader TextKind) → run nt (Ok start) text ≡ r → run_passes r ≡ true → Read
  by_run (Err k) h e = absurd cc
  by_run (Ok s) h e = by_value s (value nt s) h refl e

  read : passes ≡ true → Read
  read e = by_run (run nt (Ok start) text) refl e

-- the value is this motion
read_as : (nt : Notation) (text : List ℕ) (m : Motion) → passes nt text (λ n. same_motion n m) ≡ true → IsOperation nt text m
read_as nt text m e =
    let r = read nt text (λ n. same_motion n m) e in
    subst (IsOperation nt text) ((same_motion-is r.motion m).0 r.met) r.is

-- ---- a generator of each kind

abbrev is_layer_block : List ℕ → Motion → Bool
is_layer_block text m =
    let planar = planar_written text in
    same_matrix m.matrix (block_matrix planar)
    && (int_eq planar.translation.x (pos 2 *ℤ m.translation.x)
    && (int_eq planar.translation.y (pos 2 *ℤ m.translation.y)
    && int_eq m.translation.z (pos 0)))

layer_block : (text : List ℕ) (m : Motion) → is_layer_block text m ≡ true → IsBlockForm (planar_written text) m
layer_block text m e =
    let planar = planar_written text in
    let (matrix, e1) = and_parts (same_matrix m.matrix (block_matrix planar)) _ e in
    let (x, e2) = and_parts (int_eq planar.translation.x (pos 2 *ℤ m.translation.x)) _ e1 in
    let (y, z) = and_parts (int_eq planar.translation.y (pos 2 *ℤ m.translation.y)) _ e2 in
    record {
      matrix = (same_matrix-is m.matrix (block_matrix planar)).0 matrix;
      x = (Decides-int_eq planar.translation.x (pos 2 *ℤ m.translation.x)).0 x;
      y = (Decides-int_eq planar.translation.y (pos 2 *ℤ m.translation.y)).0 y;
      z = (Decides-int_eq m.translation.z (pos 0)).0 z;
    }

abbrev is_layer_generator : List ℕ → Bool
is_layer_generator text = passes Triplets text (is_layer_block text)

layer_generator : (text : List ℕ) → is_layer_generator text ≡ true → IsLayerGenerator text
layer_generator text e =
    let r = read Triplets text (is_layer_block text) e in
    record { value = r.motion; is_triplet = r.is; is_block = layer_block text r.motion r.met }

abbrev is_rod_generator : List ℕ → Bool
is_rod_generator text = passes Triplets text (λ m. same_motion m (rod_block (rod_written text)))

abbrev is_frieze_generator : List ℕ → Bool
is_frieze_generator text = passes Pairs text (λ m. same_motion m (frieze_block (frieze_written text)))

-- ---- the tables

-- each generator of each row passes
module _ {R : Type 0} (generators : R → List (List ℕ)) (test : List ℕ → Bool) (P : List ℕ → Type 0) (sound : (text : List ℕ) → test text ≡ true → P text) where
  abbrev rows_pass : List R → Bool
  rows_pass rows = list_all (λ row. list_all test (generators row)) rows

  each_is : (rows : List R) → rows_pass rows ≡ true → All (λ row. All P (generators row)) rows
  each_is rows e =
      All-weaker (λ row. list_all test (generators row) ≡ true) (λ row. All P (generators row))
      (λ row h. All-weaker (λ text. test text ≡ true) P sound (generators row) (AllPass-from_list_all test (generators row) h))
      rows (AllPass-from_list_all (λ row. list_all test (generators row)) rows e)

pub layers : All (λ row. All IsLayerGenerator row.generators) layer_rows
unfolding layer_rows
layers = each_is (λ row. row.generators) is_layer_generator IsLayerGenerator layer_generator layer_rows refl

pub rods : All (λ row. All IsRodGenerator row.generators) rod_rows
unfolding rod_rows
rods = each_is (λ row. row.generators) is_rod_generator IsRodGenerator (λ text. read_as Triplets text (rod_block (rod_written text))) rod_rows refl

pub friezes : All (λ row. All IsFriezeGenerator row.generators) frieze_rows
unfolding frieze_rows
friezes = each_is (λ row. row.generators) is_frieze_generator IsFriezeGenerator (λ text. read_as Pairs text (frieze_block (frieze_written text))) frieze_rows refl
