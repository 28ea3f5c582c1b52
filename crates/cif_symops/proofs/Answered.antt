-- What is answered is what the file says.
use Rattle.std.proofs.Common.{◌≡◌, ◌⊎◌, ℕ, true, List, length, None, Result, Err, sym, subst, inl, inr, arith}
use Rattle.symmetry.specs.Groups.{Listing}
use Rattle.motions.specs.declared.listed.Listed.{Listed}
use Rattle.std.specs.Prelude.{IfOk}
use Rattle.motions.specs.ListedSizes.{IsListedSmall}
use Rattle.cif_symops.specs.declared.fault.CifFault.{CifFault}
use Rattle.cif_symops.specs.declared.fault.CifFault.TheVariants as faults
use Rattle.cif_symops.specs.Words.{Word, AreWords}
use Rattle.cif_symops.specs.Layout.{Outcome}
use Rattle.cif_symops.specs.Reading.{seek}
use Rattle.cif_symops.specs.Answers.{FileSays, Gives, IsAnswer, AreNoGenerators, answer_of}
use Rattle.cif_symops.proofs.WordLists.{words_exist}
use Rattle.cif_symops.proofs.Layouts.{outcome_exists, words_whole}
use Rattle.cif_symops.proofs.OneAnswer.{one_answer}

says : (bytes : List ℕ) (ws : List Word) (answer : Result Listed CifFault) → AreWords 0 true bytes ws →
    Gives bytes (seek None ws) answer → (answer ≡ Err faults.NoMemory) ⊎ FileSays bytes (answer_of answer)
says bytes ws answer w (inl m) = inl m
says bytes ws answer w (inr g) = inr (ws, seek None ws, w, outcome_exists ws (words_whole 0 true bytes ws w), g.says)

only : (bytes : List ℕ) (answer : Result Listed CifFault) (said : Result Listing CifFault) →
    FileSays bytes said → (answer ≡ Err faults.NoMemory) ⊎ FileSays bytes (answer_of answer) →
    (answer ≡ Err faults.NoMemory) ⊎ (said ≡ answer_of answer)
only bytes answer said f (inl m) = inl m
only bytes answer said f (inr g) = inr (one_answer bytes said (answer_of answer) f g)

no_generators_answer : (bytes : List ℕ) (o : Outcome) (answer : Result Listed CifFault) →
    Gives bytes o answer → AreNoGenerators answer
no_generators_answer bytes o answer (inl m) = subst AreNoGenerators (sym m) tt
no_generators_answer bytes o answer (inr g) = g.no_generators

small_answer : (bytes : List ℕ) (o : Outcome) (answer : Result Listed CifFault) →
    Gives bytes o answer → IfOk answer (IsListedSmall 9)
small_answer bytes o answer (inl m) = subst (λ x. IfOk x (IsListedSmall 9)) (sym m) tt
small_answer bytes o answer (inr g) = g.small

pub answered : (bytes : List ℕ) (answer : Result Listed CifFault) →
    ((ws : List Word) → AreWords 0 true bytes ws → Gives bytes (seek None ws) answer) → IsAnswer bytes answer
answered bytes answer h =
    let w = words_exist (length bytes) 0 true bytes (omega arith) in
    let is = says bytes w.0 answer w.1 (h w.0 w.1) in
    record {
      is = is;
      only = λ said f. only bytes answer said f is;
      no_generators = no_generators_answer bytes (seek None w.0) answer (h w.0 w.1);
    }

pub answered_small : (bytes : List ℕ) (answer : Result Listed CifFault) →
    ((ws : List Word) → AreWords 0 true bytes ws → Gives bytes (seek None ws) answer) →
    IfOk answer (IsListedSmall 9)
answered_small bytes answer h =
    let w = words_exist (length bytes) 0 true bytes (omega arith) in
    small_answer bytes (seek None w.0) answer (h w.0 w.1)
