-- How a count over the sections of a report grows.
use Rattle.std.proofs.Common.{◌≡◌, ℕ, ◌+◌, ◌<◌, Bool, true, false, List, get_or, length, map, take, refl, sym, ap, ◌∙◌, arith}
use Rattle.std.proofs.Math.Numerals.{add-one}
use Rattle.std.specs.Prelude.{Option, None, Some, count_by, is_none, is_some, not, option_map}
use Rattle.std.proofs.lemmas.List.{get_or-map, length-map}
use Rattle.std.proofs.lemmas.List.Sums.{count_by_more_no, count_by_more_yes}
use Rattle.recognition.specs.Order.{Change}
use Rattle.recognition.specs.declared.found.Found.{Found}
use Rattle.recognition.specs.Search.{change_of}
use Rattle.report.specs.declared.report.Report.{Report}
use Rattle.report.specs.declared.report.HeightSection.{HeightSection}
use Rattle.report.specs.Reports.{HeightBlock}
use Rattle.report.specs.ReportView.{report_of}
use Rattle.report.specs.SectionView.{block_of}
use Rattle.sample.specs.Counted.{types_of}

-- a section without a type, by the answer of the code
pub no_type : (found : Option Found) (b : Bool) → is_some found ≡ not b → is_none (option_map change_of found) ≡ b
no_type None true e = refl
no_type None false e = cc
no_type (Some f) true e = cc
no_type (Some f) false e = refl

module _ (report : Report) where
  abbrev pub heights : List HeightSection
  heights = report.heights.items

  abbrev pub types : List (Option Change)
  types = types_of (report_of report)

  pub length-types : length types ≡ length heights + 1
  length-types = omega (arith, length-map (map block_of heights) (λ (block : HeightBlock). block.section.found), length-map heights block_of)

  -- what is found of the section of the height at i
  pub type_at : (i : ℕ) (h : HeightSection) → i < length heights → get_or types (i + 1) None ≡ option_map change_of (get_or heights i h).section.found
  type_at i h within =
      let placed : i < length (map block_of heights) = omega (arith, length-map heights block_of) in
      ap (λ k. get_or types k None) (add-one i)
      ∙ get_or-map (λ (block : HeightBlock). block.section.found) (map block_of heights) i (block_of h) None placed
      ∙ ap (λ (block : HeightBlock). block.section.found) (get_or-map block_of heights i h (block_of h) within)

  module _ (p : Option Change → Bool) (i : ℕ) (h : HeightSection) (within : i < length heights) (is : h ≡ get_or heights i h) where
    abbrev here : Option Change
    here = option_map change_of h.section.found

    at_place : p (get_or types (i + 1) None) ≡ p here
    at_place = ap p (type_at i h within ∙ ap (λ (x : HeightSection). option_map change_of x.section.found) (sym is))

    pub counted : (n n' : ℕ) → n ≡ count_by p (take (i + 1) types) → n' ≡ n + 1 → p here ≡ true → n' ≡ count_by p (take (i + 1 + 1) types)
    counted n n' so_far more passes =
        more ∙ ap (λ k. k + 1) so_far ∙ sym (count_by_more_yes p types (i + 1) None (omega (arith, within, length-types)) (at_place ∙ passes))

    pub not_counted : (n n' : ℕ) → n ≡ count_by p (take (i + 1) types) → n' ≡ n → p here ≡ false → n' ≡ count_by p (take (i + 1 + 1) types)
    not_counted n n' so_far same fails =
        same ∙ so_far ∙ sym (count_by_more_no p types (i + 1) None (omega (arith, within, length-types)) (at_place ∙ fails))
