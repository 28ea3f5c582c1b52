-- What a text of pairs lists is flat.
use Rattle.std.proofs.Common.{◌≡◌, ℕ, ℤ, pos, Bool, true, false, List, [], ◌∷◌, refl, sym, subst}
use Rattle.std.specs.Prelude.{All}
use Rattle.std.proofs.lemmas.List.Elements.{All-append, All-nil}
use Rattle.symmetry.specs.Vectors.{Vector}
use Rattle.symmetry.specs.Groups.{Listing}
use Rattle.quotient.proofs.ListLaws.{All-single}
use Rattle.plane_motions.specs.PlaneMotions.{IsFlat, IsFlatListing}
use Rattle.triplets.specs.declared.notation.Notation.{Notation}
use Rattle.triplets.specs.declared.notation.Notation.TheVariants.{Triplets, Pairs}
use Rattle.triplets.specs.FlatTexts.{IsListedIn}
use Rattle.triplets.specs.declared.marks.Axis.{Axis}
use Rattle.triplets.specs.declared.marks.Axis.TheVariants.{X, Y, Z}
use Rattle.motions.specs.declared.motion.Sign.{Sign}
use Rattle.triplets.specs.declared.part.Row.{Row}
use Rattle.triplets.specs.Marks.{has_axis}
use Rattle.triplets.specs.Rows.{axis_row, with_entry, motion_with}
use Rattle.triplets.specs.Grammar.{Term, letter, multiple, whole, fraction, Lead, bare, sign, more, lead_letters, lead_row, lead_sign, with_term, IsNew, IsLead, Written, part_row}
use Rattle.triplets.specs.Lines.{centring_value, Centrings, one, further, centrings_value, Form, empty, operation, row, form_value}
use Rattle.triplets.specs.Texts.{lines_of, AreLines, AreTextLines, IsGroupText}

-- a row without z
abbrev IsWithout : Row → Type 0
IsWithout r = r.z ≡ pos 0

entry_without : (a : Axis) (v : ℤ) (r : Row) → has_axis Pairs a ≡ true → IsWithout r → IsWithout (with_entry a v r)
entry_without X v r axis h = h
entry_without Y v r axis h = h
entry_without Z v r axis h = absurd cc

term_without : (s : Sign) (t : Term) (u : _) (r : Row) → IsNew Pairs t u → IsWithout r → IsWithout (with_term s t r)
term_without s (letter a c) u r new h = entry_without a _ r new.0 h
term_without s (multiple d low a c) u r new h = entry_without a _ r new.0 h
term_without s (whole n) u r new h = h
term_without s (fraction n d) u r new h = h

lead_without : (l : Lead) → IsLead Pairs l → IsWithout (lead_row l)
lead_without (bare bs) h = refl
lead_without (sign bs s cs) h = refl
lead_without (more l t bs s cs) h = term_without (lead_sign l) t (lead_letters l) (lead_row l) h.1 (lead_without l h.0)

part_without : (w : Written Pairs) → IsWithout (part_row Pairs w)
part_without w = term_without (lead_sign w.lead) w.last (lead_letters w.lead) (lead_row w.lead) w.new (lead_without w.lead w.good)

operation_flat : (v w : Written Pairs) → IsFlat (motion_with (part_row Pairs v) (part_row Pairs w) axis_row)
operation_flat v w = record { row_x = refl; row_y = refl; row_z = refl; column_x = part_without v; column_y = part_without w; translation = refl }

abbrev IsLevel : Vector → Type 0
IsLevel v = v.z ≡ pos 0

centrings_level : (vs : Centrings Pairs) → All IsLevel (centrings_value Pairs vs)
centrings_level (one v) = All-single IsLevel (centring_value Pairs v) refl
centrings_level (further vs v) = All-append IsLevel (centrings_value Pairs vs) (centring_value Pairs v ∷ []) (centrings_level vs) (All-single IsLevel (centring_value Pairs v) refl)

form_flat : (f : Form Pairs) → IsFlatListing (form_value Pairs f)
form_flat (empty bs) = record { operations = All-nil IsFlat; centrings = All-nil IsLevel }
form_flat (operation l v w x) = record { operations = All-single IsFlat (motion_with (part_row Pairs v) (part_row Pairs w) axis_row) (operation_flat v w); centrings = All-nil IsLevel }
form_flat (row vs bs) = record { operations = All-nil IsFlat; centrings = centrings_level vs }

lines_flat : (ls : List (List ℕ)) (g : Listing) → AreLines Pairs ls g → IsFlatListing g
lines_flat [] g h = subst IsFlatListing (sym h) (record { operations = All-nil IsFlat; centrings = All-nil IsLevel })
lines_flat (l ∷ ls) g h =
    let a = subst IsFlatListing (sym h.2.value) (form_flat h.2.form) in
    let b = lines_flat ls h.1 h.3 in
    subst IsFlatListing (sym h.4) (record {
      operations = All-append IsFlat h.0.ops h.1.ops a.operations b.operations;
      centrings = All-append IsLevel h.0.centrings h.1.centrings a.centrings b.centrings;
    })

text_lines_flat : (b : Bool) (ls : List (List ℕ)) (g : Listing) → AreTextLines Pairs b ls g → IsFlatListing g
text_lines_flat true [] g h = absurd h
text_lines_flat true (l ∷ ls) g h = lines_flat ls g h.1
text_lines_flat false ls g h = lines_flat ls g h

pub pairs_are_flat : (text : List ℕ) (b : Bool) (g : Listing) → IsGroupText Pairs text b g → IsFlatListing g
pairs_are_flat text b g h = text_lines_flat b (lines_of text) g h

pub listed_in : (nt : Notation) (text : List ℕ) (b : Bool) (g : Listing) → IsGroupText nt text b g → IsListedIn nt g
listed_in Triplets text b g h = tt
listed_in Pairs text b g h = pairs_are_flat text b g h
