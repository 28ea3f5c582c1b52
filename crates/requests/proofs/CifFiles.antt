-- What a CIF file gives: one group, or what keeps it from one.
use Rattle.std.proofs.Common.{◌≡◌, ◌≤◌, ◌⊎◌, ℕ, List, length, Option, Some, Result, Ok, Err, refl, sym, subst, inl, inr}
use Rattle.symmetry.specs.Groups.{Listing}
use Rattle.motions.specs.Views.{listing_of}
use Rattle.motions.specs.declared.listed.Listed.{Listed}
use Rattle.cif_symops.specs.Answers.{FileSays, IsAnswer}
use Rattle.cif_symops.specs.declared.fault.CifFault.{CifFault}
use Rattle.cif_symops.specs.declared.fault.CifFault.TheVariants as cifs
use Rattle.cif_symops.proofs.OneAnswer.{one_answer}
use Rattle.closure.specs.GroupErrors.{IsWithinLimits}
use Rattle.closure.specs.Groups.{IsGroupOf}
use Rattle.closure.specs.declared.group.Group.{Group}
use Rattle.requests.specs.declared.request.Format.TheVariants.{Cif}
use Rattle.requests.specs.declared.obstacle.Obstacle.TheVariants as obstacles
use Rattle.requests.specs.declared.refusal.Refusal.{Refusal}
use Rattle.requests.specs.Obstacles.{obstacle_of_cif}
use Rattle.requests.specs.Inputs.{of_cif, IsGroupOfInput, IsRefusedInput, IsShort}
use Rattle.requests.specs.Causes.{IsSourceObstacle}

-- ---- its group

pub one_list : (input : List ℕ) (g h : Listing) → FileSays input (Ok g) → FileSays input (Ok h) → g ≡ h
one_list input g h p q = let same = one_answer input (Ok g) (Ok h) p q in cc

pub group_of_file : (input : List ℕ) (group : Group) (g : Listing) → IsShort Cif input × FileSays input (Ok g) → IsWithinLimits g
    → IsGroupOf g group → IsGroupOfInput Cif input group
group_of_file input group g (short, says) within made = record {
  short = short;
  some = (g, record { is_listed = says; within = within; is_group = made.is_group });
  is_of = λ h lists. subst (λ (l : Listing). IsGroupOf l group) (one_list input g h says lists.is_listed) made;
}

-- ---- a source that is read to its end

-- a fault that the file says is told
told : (left : Option (List ℕ)) (faults faults' : ℕ) (fault : CifFault)
    → ((r : Refusal) → obstacle_of_cif fault ≡ obstacles.Refused r → (input : List ℕ) → left ≡ Some input → IsRefusedInput Cif input r)
    → faults' ≡ faults → IsSourceObstacle Cif left faults faults' (obstacle_of_cif fault)
told left faults faults' (cifs.Quote line column) why same = (why _ refl, same)
told left faults faults' (cifs.TextField line column) why same = (why _ refl, same)
told left faults faults' cifs.NoSymops why same = (why _ refl, same)
told left faults faults' (cifs.Ragged line column) why same = (why _ refl, same)
told left faults faults' (cifs.Symop line column kind) why same = (why _ refl, same)
told left faults faults' cifs.NoMemory why same = same

module _ (left : Option (List ℕ)) (file : List ℕ) (short : length file ≤ 16777216) (all : (input : List ℕ) → left ≡ Some input → input ≡ file) where
  -- what the file says the input says
  said : (says : Result Listing CifFault) → FileSays file says → (input : List ℕ) → left ≡ Some input → IsShort Cif input × FileSays input says
  said says h input is = subst (λ (text : List ℕ). IsShort Cif text × FileSays text says) (sym (all input is)) (short, h)

  pub file_lists : (listed : Listed) → IsAnswer file (Ok listed) → (input : List ℕ) → left ≡ Some input
      → IsShort Cif input × FileSays input (Ok (listing_of listed))
  file_lists listed answer = by answer.is
    where
      by : ((let read : Result Listed CifFault = Ok listed in read) ≡ Err cifs.NoMemory) ⊎ FileSays file (Ok (listing_of listed))
          → (input : List ℕ) → left ≡ Some input → IsShort Cif input × FileSays input (Ok (listing_of listed))
      by (inl out) = absurd cc
      by (inr says) = said (Ok (listing_of listed)) says

  pub file_obstacle : (faults faults' : ℕ) → faults' ≡ faults → (fault : CifFault) → IsAnswer file (Err fault)
      → IsSourceObstacle Cif left faults faults' (obstacle_of_cif fault)
  file_obstacle faults faults' same fault answer = by answer.is
    where
      by : ((let read : Result Listed CifFault = Err fault in read) ≡ Err cifs.NoMemory) ⊎ FileSays file (Err fault)
          → IsSourceObstacle Cif left faults faults' (obstacle_of_cif fault)
      by (inl out) =
          let is : cifs.NoMemory ≡ fault = cc in
          subst (λ (f : CifFault). IsSourceObstacle Cif left faults faults' (obstacle_of_cif f)) is same
      by (inr says) = told left faults faults' fault (λ r e input is. (of_cif fault, said (Err fault) says input is, e)) same
