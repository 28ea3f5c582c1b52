-- JSON values behind values, and that a report has no float.
use Rattle.std.proofs.Common.{◌≡◌, ℕ, ◌+◌, ◌<◌, ℤ, pos, negsuc, List, [], ◌∷◌, ◌++◌, Bool, false, ◌||◌, Option, Some, None, length, map, take, get_or, refl, sym, ap, ◌∙◌}
use Rattle.std.proofs.lemmas.List.{map_more, map_push}
use Rattle.serde_json.specs.Data.{Data, string}
use Rattle.serde_json.specs.Find.{is_float, of_integer}
use Rattle.serde_json.specs.View.{items_of, view}
use Rattle.serde_json.specs.Written.{has_float, items_have_float}
use Rattle.serde_json.specs.declared.value.Value.{Value}
use Rattle.fractions.specs.Fractions.{Fractions}
use Rattle.symmetry.specs.Frames.{Basis}
use Rattle.symmetry.specs.Motions.{Motion}
use Rattle.symmetry.specs.Planes.{Height}
use Rattle.symmetry.specs.Vectors.{Vector}
use Rattle.triplets.specs.Writing.{triplet_text}
use Rattle.recognition.specs.Order.{Change}
use Rattle.report.specs.Reports.{HeightBlock, Report}
use Rattle.report.specs.TypeVectors.{lowest_point, origin_at_height, origin_in_plane}
use Rattle.report.specs.Values.{fractions_data, general_data, general_type_data, height_data, indices_data, named_data, operations_data, report_data, type_data, vector_data}

-- one value more behind those of the first i
pub one_value_more : {X Y : Type 0} (shown : Y → Data) (seen : X → Y) (values : List Value) (value : Value) (xs : List X) (i : ℕ) (d : X) → i < length xs
    → map view values ≡ map shown (map seen (take i xs)) → view value ≡ shown (seen (get_or xs i d))
    → map view (values ++ value ∷ []) ≡ map shown (map seen (take (i + 1) xs))
one_value_more shown seen values value xs i d lt before here =
    map_push view values value
    ∙ (λ k. before k ++ here k ∷ [])
    ∙ sym (ap (map shown) (map_more seen xs i d lt) ∙ map_push shown (map seen (take i xs)) (seen (get_or xs i d)))

neither : (a b : Bool) → a ≡ false → b ≡ false → (a || b) ≡ false
neither a b e h = rw e h

items_no_float : {X : Type 0} (shown : X → Data) (xs : List X) → ((x : X) → has_float (shown x) ≡ false) → items_have_float (items_of (map shown xs)) ≡ false
items_no_float shown [] h = refl
items_no_float shown (x ∷ xs) h = neither _ _ (h x) (items_no_float shown xs h)

whole_no_float : (z : ℤ) → is_float (of_integer z) ≡ false
whole_no_float (pos n) = refl
whole_no_float (negsuc n) = refl

indices_no_float : (v : Vector) → has_float (indices_data v) ≡ false
unfolding indices_data
indices_no_float v = neither _ _ (whole_no_float v.x) (neither _ _ (whole_no_float v.y) (neither _ _ (whole_no_float v.z) refl))

operations_no_float : (ops : List Motion) → has_float (operations_data ops) ≡ false
unfolding operations_data
operations_no_float ops = items_no_float (λ m. string (triplet_text m)) ops (λ m. refl)

named_no_float : (f : Basis) (mean origin : Fractions) (c : Change) → has_float (named_data f mean origin c) ≡ false
unfolding named_data vector_data fractions_data
named_no_float f mean origin c = refl

general_type_no_float : (report : Report) (found : Option Change) → has_float (general_type_data report found) ≡ false
general_type_no_float report None = refl
general_type_no_float report (Some c) = named_no_float report.basis report.mean (lowest_point (origin_in_plane report.basis c)) c

type_no_float : (report : Report) (s : Height) (found : Option Change) → has_float (type_data report s found) ≡ false
type_no_float report s None = refl
type_no_float report s (Some c) = named_no_float report.basis report.mean (lowest_point (origin_at_height report.period s report.basis c)) c

general_no_float : (report : Report) → has_float (general_data report) ≡ false
unfolding general_data
general_no_float report = neither _ _ (operations_no_float report.general.ops) (neither _ _ (general_type_no_float report report.general.found) refl)

height_no_float : (report : Report) (block : HeightBlock) → has_float (height_data report block) ≡ false
unfolding height_data
height_no_float report block =
    neither _ _ (operations_no_float block.section.ops) (neither _ _ (type_no_float report block.height block.section.found) refl)

pub report_no_float : (report : Report) → has_float (report_data report) ≡ false
unfolding report_data vector_data fractions_data
report_no_float report =
    neither _ _ (general_no_float report)
    (neither _ _ (items_no_float (height_data report) report.heights (height_no_float report)) (neither _ _ (indices_no_float report.row) refl))
