-- What the calls answer.
use Rattle.std.proofs.Common.{◌≡◌, ℕ, false, List, [], map, Some, None, Result, Ok, Err, refl, sym, ◌∙◌, ap, subst, inr}
use Rattle.symmetry.specs.Groups.{Listing}
use Rattle.symmetry.specs.Motions.{Motion}
use Rattle.symmetry.specs.Vectors.{Vector}
use Rattle.motions.specs.declared.listed.Listed.{Listed}
use Rattle.std.specs.Prelude.{◌^◌}
use Rattle.std.specs.List.{All}
use Rattle.std.proofs.lemmas.List.Elements.{All-nil}
use Rattle.motions.specs.ListedSizes.{IsSmallWithin, IsListedSmall}
use Rattle.symmetry.specs.Sizes.{IsVectorWithin}
use Rattle.motions.specs.Views.{motion_of, parts}
use Rattle.cif_symops.specs.declared.fault.CifFault.{CifFault}
use Rattle.cif_symops.specs.declared.fault.CifFault.TheVariants as faults
use Rattle.cif_symops.specs.declared.operation.Misread.{Misread}
use Rattle.cif_symops.specs.declared.operation.Operations.{Operations}
use Rattle.cif_symops.specs.Words.{Word}
use Rattle.cif_symops.specs.Layout.{Outcome, without_end, no_symops, ragged, operations}
use Rattle.cif_symops.specs.Operations.{IsFirstMisread, AreOperations, IsKept, AreKept}
use Rattle.cif_symops.specs.Answers.{Say, IsGiven, Gives, answer_of, without_end_fault, ragged_fault, symop_fault}

abbrev pub failed : CifFault → Result Listed CifFault
failed f = Err f

abbrev pub said_fault : CifFault → Result Listing CifFault
said_fault f = Err f

abbrev pub said_listing : List Motion → List Vector → Result Listing CifFault
said_listing ops centrings = Ok (record { ops = ops; centrings = centrings })

pub gives_without_end : (bytes : List ℕ) (o : Outcome) (w : Word) (f : CifFault) → o ≡ without_end w →
    f ≡ without_end_fault bytes w.form w.start → Gives bytes o (failed f)
gives_without_end bytes o w f e k =
    inr (subst (λ x. IsGiven bytes x (failed f)) (sym e)
    (record { says = ap said_fault k; no_generators = tt; small = tt }))

pub given_ragged : (bytes : List ℕ) (o : Outcome) (n : ℕ) (f : CifFault) → o ≡ ragged n →
    f ≡ ragged_fault bytes n → IsGiven bytes o (failed f)
given_ragged bytes o n f e k =
    subst (λ x. IsGiven bytes x (failed f)) (sym e)
    (record { says = ap said_fault k; no_generators = tt; small = tt })

pub gives_no_symops : (bytes : List ℕ) (o : Outcome) → o ≡ no_symops → Gives bytes o (failed faults.NoSymops)
gives_no_symops bytes o e =
    inr (subst (λ x. IsGiven bytes x (failed faults.NoSymops)) (sym e)
    (record { says = refl; no_generators = tt; small = tt }))

listed_small : (listed : Listed) → All (λ m. IsSmallWithin 9 (motion_of m)) listed.ops.items →
    listed.centrings.items ≡ [] → IsListedSmall 9 listed
listed_small listed h c = record {
  ops = h;
  centrings = subst (All (λ v. IsVectorWithin (2 ^ 40) (parts v))) (sym c)
      (All-nil (λ v. IsVectorWithin (2 ^ 40) (parts v)));
}

-- the operations
pub given_operations : (bytes : List ℕ) (ws : List Word) (kept : Operations) (listed : Listed) →
    kept.fault ≡ None → AreKept ws kept → All (λ m. IsSmallWithin 9 (motion_of m)) kept.read.items →
    listed.ops ≡ kept.read → listed.centrings.items ≡ [] → listed.generated ≡ false →
    IsGiven bytes (operations ws) (Ok listed)
given_operations bytes ws kept listed n h s e c g =
    let k : AreOperations ws (map motion_of kept.read.items) = subst
    (IsKept ws (map motion_of kept.read.items)) n h in
    let a : map motion_of listed.ops.items ≡ map motion_of kept.read.items = ap (λ v. map motion_of v.items) e in
    let b : map parts listed.centrings.items ≡ [] = ap (map parts) c in
    let same : answer_of (Ok listed) ≡ said_listing (map motion_of kept.read.items) [] = ap
    (λ x. said_listing x (map parts listed.centrings.items)) a ∙ ap
    (λ x. said_listing (map motion_of kept.read.items) x) b in
    record {
      says = subst (Say bytes ws) (sym same) (k, refl);
      no_generators = g;
      small = listed_small listed (subst (λ v. All (λ m. IsSmallWithin 9 (motion_of m)) v.items) (sym e) s) c;
    }

-- the first that is none
pub given_misread : (bytes : List ℕ) (ws : List Word) (kept : Operations) (m : Misread) (f : CifFault) →
    kept.fault ≡ Some m → AreKept ws kept → f ≡ symop_fault bytes m.offset m.kind →
    IsGiven bytes (operations ws) (failed f)
given_misread bytes ws kept m f n h e =
    let k : IsFirstMisread ws m.offset m.kind = subst (IsKept ws (map motion_of kept.read.items)) n h in
    record {
      says = (m.offset, m.kind, k, e);
      no_generators = tt;
      small = tt;
    }
