-- What `write_triplet` writes of a motion that the grammar can say is a triplet with that value alone.
use Rattle.std.proofs.Common.{◌≡◌, ℕ, List, [], ◌∷◌, ◌++◌, sym, ◌∙◌, append_assoc}
use Rattle.symmetry.specs.Motions.{Motion}
use Rattle.triplets.specs.declared.notation.Notation.TheVariants.{Triplets}
use Rattle.triplets.specs.Bytes.{comma}
use Rattle.triplets.specs.Rows.{motion_with}
use Rattle.triplets.specs.Grammar.{IsTriplet, part_text}
use Rattle.triplets.specs.Writing.{triplet_text}
use Rattle.triplets.specs.Writable.{IsWritable, IsTripletOf}
use Rattle.triplets.proofs.PartTrees.{row_tree}
use Rattle.triplets.proofs.Wholes.{is_read}
use Rattle.triplets.proofs.Ends.{one_value}

joined : (a b c : List ℕ) → a ++ comma ∷ [] ++ b ++ comma ∷ [] ++ c ≡ a ++ (comma ∷ (b ++ (comma ∷ c)))
joined a b c = simp append_assoc

IsTriplet-triplet_text : (m : Motion) → IsWritable m → IsTriplet (triplet_text m) m
IsTriplet-triplet_text m h =
    let one = row_tree m.matrix.first m.translation.x h.matrix.first h.x in
    let two = row_tree m.matrix.second m.translation.y h.matrix.second h.y in
    let three = row_tree m.matrix.third m.translation.z h.matrix.third h.z in
    record {
      one = one.tree;
      two = two.tree;
      three = three.tree;
      text = (λ i. one.text_is i ++ comma ∷ [] ++ two.text_is i ++ comma ∷ [] ++ three.text_is i)
          ∙ joined (part_text Triplets one.tree) (part_text Triplets two.tree) (part_text Triplets three.tree);
      rows = λ i. motion_with (sym one.row_is i) (sym two.row_is i) (sym three.row_is i);
    }

-- bytes have one value at most
one_triplet : (bytes : List ℕ) (m n : Motion) → IsTriplet bytes m → IsTriplet bytes n → n ≡ m
one_triplet bytes m n h k =
    let r = is_read Triplets bytes m h in
    sym (one_value Triplets bytes r.last r.motion n r.run_is r.value_is k) ∙ r.motion_is

pub IsTripletOf-triplet_text : (m : Motion) → IsWritable m → IsTripletOf (triplet_text m) m
IsTripletOf-triplet_text m h =
    let is = IsTriplet-triplet_text m h in
    record { is = is; only = λ n k. one_triplet (triplet_text m) m n is k }
